-- Writing, over any width: one pass that judges the list, the codes and the padding laid over the output, and the answer. Assumes nothing.
use Prim.Native.Nat.{ℕ, suc, ◌+◌, ◌-◌, ◌*◌, ◌/◌, ◌^◌, ◌≤◌, ◌<◌, max}
use mathlib.Core.Path.{◌≡◌, refl, sym, ap, ◌∙◌}
use mathlib.Core.Bool.{Bool, true, false}
use mathlib.Core.List.{List, [], ◌∷◌, map}
use mathlib.Core.Option.{Option, some, none}
use mathlib.Core.Logic.{◌⊎◌, inl, inr}
use Rattle.std.specs.Prelude.{Result, Ok, Err}
use native.Mathlib.Omega.{arith}
use native.Mathlib.Nat.{zero-mul}
use mir.Syntax as M
use mir.Val.{bool_byte, Fits}
use lib.ListN.{length, get_or, take, drop, replicate, length-map}
use lib.Dec.{eqb, leb}
use borrow.Author.Tests.{lt-ltb, le-ltb, eq-eqb, ne_eqb, le-leb, lt-leb}
use borrow.Rule.Slice.PartMut.{put_mid}
use Rattle.text.specs.Pick.{pick}
use Rattle.text.specs.Answer.{Answer, says, number_of}
use Rattle.text.specs.Over.{over, over_at}
use Rattle.text.proofs.Lists.{rest_all, over_at_nil, over_at_start, over_append, length_over}
use Rattle.text.proofs.CopyLaws.{laid_refused, rest_laid}
use Rattle.allele.specs.declared.allele.Allele.{Allele}
use Rattle.allele.specs.Row.{allele_of, row_of, is_sound, first_unsound, Parallel}
use Rattle.spelling.specs.Row.{list_of, IsAt}
use Rattle.spelling.specs.declared.row.Row.{Row}
use Rattle.std.specs.Borrow.{Bor}
use Rattle.allele.proofs.RowLaws.{at_is, row_here, row_past, sound_missing, sound_there, unsound_none, unsound_more, unsound_here}
use Rattle.genotype.specs.Answers as G
use Rattle.genotype.proofs.AnswerLaws.{row_even, row_uneven_nm, row_uneven_np}
use Rattle.bcf.specs.Layout.{size, padding, largest, little_of, code_of, bytes_of}
use Rattle.bcf.specs.Writing.{entries_for, vector_of, most_of, width_for, smallest, sound_answer, room_in, entries_answer, sized_answer, list_answer, row_answer, WritesVector}
use Rattle.bcf.specs.Inner.{TellsSound, judged_by, JudgesList, JudgesRow, WritesBy, WritesEntries, WritesSized, WritesList}
use Rattle.bcf.specs.Paper.{write_paper}
use Rattle.bcf.specs.declared.width.Width.{Width}
use Rattle.bcf.specs.declared.write.Vector.{Vector}
use Rattle.bcf.specs.declared.write.WriteError.{WriteError}
use Rattle.bcf.specs.declared.write.WriteError.TheVariants as W
use Rattle.bcf.proofs.CodeLaws.{byte_is}
use Rattle.bcf.proofs.MostLaws.{most_first, most_rest}
use Rattle.bcf.proofs.EntryLaws.{bytes_length, bytes_append}
use Rattle.bcf.proofs.PlaceLaws.{room_in_lem, no_room, put_length, put_on}

-- ---- an allele

module _ (a : Allele) {b : ℕ} (f : b ≡ bool_byte a.phased) where
  pub code_missing : a.missing ≡ true → b ≡ code_of a
  unfolding code_of
  code_missing e = rw (e, f, byte_is a.phased) (omega arith)

  pub code_there : a.missing ≡ false → 2 * (a.number + 1) + b ≡ code_of a
  unfolding code_of
  code_there e = rw (e, f, byte_is a.phased)

module _ (x y : ℕ) where
  pub sound_zero : y ≡ 0 → TellsSound x y true
  sound_zero e = record { is = λ z. sound_there (allele_of x y z) (rw (eq-eqb y 0 e)) }

  pub sound_number : (y ≡ 0 → ⊥) → TellsSound x y (eqb x 0)
  sound_number e = record { is = λ z. sound_missing (allele_of x y z) (rw (ne_eqb y 0 e)) }

-- ---- judging

pub record Judging (as' : List Allele) (x k : ℕ) : Type 0 where
  pub sound : first_unsound k (drop k as') ≡ first_unsound 0 as'
  pub most : max x (most_of (drop k as')) ≡ most_of as'

pub judge_first : {as' : List Allele} → Judging as' 0 0
judge_first = record { sound = refl; most = omega arith }

module _ {as' : List Allele} {most k : ℕ} (g : Judging as' most k) where
  module _ {a : Allele} (h : IsAt as' k a) {r : Bool} (s : r ≡ is_sound a) where
    pub judge_turn : {x : ℕ} → r ≡ true → x ≡ max a.number most → Judging as' x (k + 1)
    unfolding most_of
    judge_turn t e =
        record {
          sound = sym (unsound_more k a (drop (k + 1) as') (sym s ∙ t)) ∙ ap (first_unsound k) (sym h) ∙ g.sound;
          most = let m = rw h at g.most in omega arith;
        }

    pub judge_bad : r ≡ false → JudgesList as' (Err (W.Bad k))
    unfolding judged_by
    judge_bad t = rw (sym g.sound ∙ ap (first_unsound k) h ∙ unsound_here k a (drop (k + 1) as') (sym s ∙ t))

  pub judge_past : drop k as' ≡ [] → JudgesList as' (Ok most)
  unfolding judged_by most_of
  judge_past h =
      let e : first_unsound 0 as' ≡ none = sym g.sound ∙ ap (first_unsound k) h ∙ unsound_none k in
      let m = rw h at g.most in
      let i : most ≡ most_of as' = omega arith in
      rw (e, i)

-- the same of two slices, whatever the third
abbrev pub JudgingRow : List ℕ → List ℕ → ℕ → ℕ → Type 0
JudgingRow n m x k = (p : List ℕ) → Parallel n m p → Judging (row_of n m p) x k

module _ {n m : List ℕ} {most k : ℕ} (g : JudgingRow n m most k) where
  module _ (h : k < length n) {r : Bool} (s : TellsSound (get_or n k 0) (get_or m k 0) r) where
    pub judge_next : {x : ℕ} → r ≡ true → x ≡ max (get_or n k 0) most → JudgingRow n m x (k + 1)
    judge_next t e = λ p q. judge_turn (g p q) (row_here n m p k q h (at_is n m p k)) (s.is (get_or p k 0)) t e

    pub judge_stop : r ≡ false → JudgesRow n m (Err (W.Bad k))
    judge_stop t = record { is = λ p q. judge_bad (g p q) (row_here n m p k q h (at_is n m p k)) (s.is (get_or p k 0)) t }

  pub judge_end : length n ≤ k → JudgesRow n m (Ok most)
  judge_end h = record { is = λ p q. judge_past (g p q) (row_past n m p k q h) }

-- ---- the codes

pub record Laying (w : Width) (as' : List Allele) (l₀ l : List ℕ) (k : ℕ) : Type 0 where
  pub len : length l ≡ length l₀
  pub room : length as' ≤ length l₀ / size w
  pub small : most_of (drop k as') < 9223372036854775807
  pub codes : over_at (k * size w) (bytes_of w (map code_of (drop k as'))) l ≡ over (bytes_of w (map code_of as')) l₀

pub lay_first : {w : Width} {as' : List Allele} {l : List ℕ} → most_of as' < 9223372036854775807 → length as' ≤ length l / size w → Laying w as' l l 0
lay_first {w} s h = record { len = refl; room = h; small = s; codes = rw (zero-mul (size w)) (over_at_start _ _) }

module _ {w : Width} {as' : List Allele} {l₀ l : List ℕ} {k : ℕ} (g : Laying w as' l₀ l k) where
  pub lay_room : k < length as' → k < length l / size w
  lay_room h = rw g.len (let r = g.room in omega arith)

  module _ {a : Allele} (h : IsAt as' k a) where
    pub lay_shifted : a.number < 9223372036854775807
    lay_shifted = let s = rw h at g.small in let f = most_first a (drop (k + 1) as') in omega arith

    pub lay_turn : {c : ℕ} {l' : List ℕ} → k < length as' → c ≡ code_of a → l' ≡ over_at (k * size w) (little_of (size w) c) l → Laying w as' l₀ l' (k + 1)
    lay_turn {c} b f e =
        record {
          len = put_length w c [] l k (lay_room b) e ∙ g.len;
          room = g.room;
          small = let s = rw h at g.small in let r = most_rest a (drop (k + 1) as') in omega arith;
          codes = sym (put_on w c (map code_of (drop (k + 1) as')) l k (lay_room b) e) ∙ rw f (rw h at g.codes);
        }

  pub lay_past : drop k as' ≡ [] → l ≡ over (bytes_of w (map code_of as')) l₀
  unfolding bytes_of
  lay_past h = sym (over_at_nil (k * size w) l) ∙ (rw h at g.codes)

-- ---- the padding

pub record Stuffing (w : Width) (l₀ l : List ℕ) (b from to i : ℕ) : Type 0 where
  pub pads : b ≡ padding w
  pub within : i ≤ to
  pub len : length l ≡ length l₀
  pub room : to ≤ length l₀ / size w
  pub same : over_at (i * size w) (bytes_of w (replicate (to - i) (padding w))) l ≡ over_at (from * size w) (bytes_of w (replicate (to - from) (padding w))) l₀

pub stuff_first : {w : Width} {l : List ℕ} {b from to : ℕ} → b ≡ padding w → from ≤ to → to ≤ length l / size w → Stuffing w l l b from to from
stuff_first e h r = record { pads = e; within = h; len = refl; room = r; same = refl }

module _ {w : Width} {l₀ l : List ℕ} {b from to i : ℕ} (g : Stuffing w l₀ l b from to i) where
  module _ (h : i < to) where
    pub stuff_room : i < length l / size w
    stuff_room = rw g.len (let r = g.room in omega arith)

    pub stuff_turn : {l' : List ℕ} → l' ≡ over_at (i * size w) (little_of (size w) b) l → Stuffing w l₀ l' b from to (i + 1)
    stuff_turn e =
        let t : to - i ≡ suc (to - (i + 1)) = omega arith in
        record {
          pads = g.pads;
          within = omega arith;
          len = put_length w b [] l i stuff_room e ∙ g.len;
          room = g.room;
          same = sym (put_on w b (replicate (to - (i + 1)) (padding w)) l i stuff_room e) ∙ rw g.pads (rw t at g.same);
        }

  pub stuff_len : length l ≡ length l₀
  stuff_len = g.len

  pub stuff_past : to ≤ i → l ≡ over_at (from * size w) (bytes_of w (replicate (to - from) (padding w))) l₀
  unfolding bytes_of
  stuff_past h = let t : to - i ≡ 0 = omega arith in sym (over_at_nil (i * size w) l) ∙ (rw t at g.same)

-- ---- the answer of a list

-- a refusal is given where it is due, and nothing is laid
written_by : {a : Answer} {vs l : List ℕ} {r : Result Vector WriteError} → a ≡ write_paper r → (number_of (write_paper r) ≡ 0 → ⊥) → WritesBy a vs l r l
written_by {vs = vs} {l = l} {r = r} e z = record { answer = sym e; output = rw e (sym (laid_refused (write_paper r) vs l z)) }

-- what is judged to have a largest number has no unsound allele
module _ (as' : List Allele) {x : ℕ} (g : JudgesList as' (Ok x)) where
  none_bad : (first_unsound 0 as' ≡ none) × (x ≡ most_of as')
  unfolding judged_by
  none_bad = by (first_unsound 0 as') refl g
    where
      by : (o : Option ℕ) → first_unsound 0 as' ≡ o → Ok x ≡ judged_by o (most_of as') → (first_unsound 0 as' ≡ none) × (x ≡ most_of as')
      by (some i) u j = absurd (let z : ◌≡◌ {A = ℕ} 0 1 = cc in omega arith)
      by none u j = (u, cc)

  pub list_most : x ≡ most_of as'
  list_most = none_bad.1

module _ (as' : List Allele) (k : ℕ) (l : List ℕ) where
  module _ (w : Width) {c : ℕ} (z : c ≡ length as') where
    pub entries_long : k < c → WritesEntries w k as' l (Err W.Long) l
    unfolding entries_answer write_paper
    entries_long h = written_by (rw (lt-ltb k (length as') (omega arith))) (λ z. omega arith)

    module _ (h : c ≤ k) {x : ℕ} (e : x ≡ length l / size w) where
      room : entries_answer w k as' (length l) ≡ pick (leb (k * size w) (length l)) (says 0 (size w ∷ k * size w ∷ [])) (says 17 [])
      unfolding entries_answer room_in
      room = rw (le-ltb k (length as') (omega arith))

      pub entries_short : x < k → WritesEntries w k as' l (Err W.Short) l
      unfolding write_paper
      entries_short j = written_by (room ∙ rw (lt-leb (k * size w) (length l) (no_room w k (length l) (omega arith)))) (λ z. omega arith)

      module _ (j : k ≤ x) where
        within : k * size w ≤ length l
        within = room_in_lem w k (length l) (omega arith)

        pub entries_codes : length as' ≤ length l / size w
        entries_codes = omega arith

        pub entries_fit : {s : ℕ} → s ≡ size w → length l * 1 < 2 ^ 63 → Fits M.w64 (k * s)
        entries_fit f b = rw f (let i = within in record { fits = omega arith })

        module _ {l₁ : List ℕ} (y : l₁ ≡ over (bytes_of w (map code_of as')) l) where
          coded : length (bytes_of w (map code_of as')) ≡ length as' * size w
          coded = bytes_length w (map code_of as') ∙ ap (λ (c : ℕ). c * size w) (length-map as' code_of)

          laid_room : length (bytes_of w (map code_of as')) ≤ length l
          laid_room = let c = coded in let i = room_in_lem w (length as') (length l) entries_codes in omega arith

          pub entries_pads : k ≤ length l₁ / size w
          entries_pads = rw (y, length_over (bytes_of w (map code_of as')) l laid_room) (omega arith)

          pub entries_done : {s : ℕ} {l₂ : List ℕ} → s ≡ size w → l₂ ≡ over_at (c * size w) (bytes_of w (replicate (k - c) (padding w))) l₁
              → WritesEntries w k as' l (Ok (record { width = s; len = k * s })) l₂
          unfolding write_paper vector_of entries_for
          entries_done f o =
              let a : entries_answer w k as' (length l) ≡ says 0 (size w ∷ k * size w ∷ []) = room ∙ rw (le-leb (k * size w) (length l) within) in
              let pads : List ℕ = replicate (k - length as') (padding w) in
              let v : over (vector_of w k as') l ≡ over_at (length as' * size w) (bytes_of w pads) (over (bytes_of w (map code_of as')) l) =
              rw (bytes_append w (map code_of as') pads)
              (over_append (bytes_of w (map code_of as')) (bytes_of w pads) l laid_room ∙ rw coded)
              in
              rw f (record { answer = sym a; output = rw a (rw z at o ∙ rw y (sym v)) })

  module _ {x : ℕ} (e : x ≡ most_of as') where
    pub sized_large : 1073741822 < x → WritesSized k as' l (Err W.Large) l
    unfolding sized_answer write_paper largest
    sized_large h = written_by (rw (lt-ltb 1073741822 (most_of as') (omega arith))) (λ z. omega arith)

    module _ (s : x ≤ 1073741822) where
      pub sized_small : most_of as' < 9223372036854775807
      sized_small = omega arith

      pub sized_by : {w : Width} {r : Result Vector WriteError} {l' : List ℕ} → w ≡ width_for x → WritesEntries w k as' l r l' → WritesSized k as' l r l'
      unfolding sized_answer smallest largest
      sized_by f g = rw (le-ltb 1073741822 (most_of as') (omega arith), ← e, ← f) g

  pub list_empty : {c : ℕ} → c ≡ length as' → c ≡ 0 → WritesList k as' l (Err W.Empty) l
  unfolding list_answer write_paper
  list_empty e h = written_by (rw (eq-eqb (length as') 0 (sym e ∙ h))) (λ z. omega arith)

  module _ {c : ℕ} (i : c ≡ length as') (h : c ≡ 0 → ⊥) where
    some_row : eqb (length as') 0 ≡ false
    some_row = ne_eqb (length as') 0 (λ e. h (i ∙ e))

    pub list_bad : {e : WriteError} → JudgesList as' (Err e) → WritesList k as' l (Err e) l
    unfolding list_answer sound_answer judged_by write_paper
    list_bad {e} g = by (first_unsound 0 as') refl g
      where
        by : (o : Option ℕ) → first_unsound 0 as' ≡ o → Err e ≡ judged_by o (most_of as') → WritesList k as' l (Err e) l
        by (some i) u j = let z : e ≡ W.Bad i = cc in rw z (written_by (rw (some_row, u)) (λ z. omega arith))
        by none u j = absurd (let z : ◌≡◌ {A = ℕ} 0 1 = cc in omega arith)

    pub list_sound : {x : ℕ} {r : Result Vector WriteError} {l' : List ℕ} → JudgesList as' (Ok x) → WritesSized k as' l r l' → WritesList k as' l r l'
    unfolding list_answer sound_answer
    list_sound g w = rw (some_row, (none_bad as' g).0) w

-- ---- from a place on

module _ (k : ℕ) (n m p out : List ℕ) (at : ℕ) where
  pub write_beyond : length out < at → WritesVector n m p k out at (Err W.Beyond) out
  unfolding write_paper row_answer
  write_beyond h = record { answer = rw (lt-leb _ _ h); output = rw (lt-leb _ _ h) }

  module _ (h : at ≤ length out) where
    differ : ((a : Answer) → G.row_answer n m p a ≡ says 16 []) → WritesVector n m p k out at (Err W.Lengths) out
    unfolding write_paper row_answer
    differ e = record { answer = rw (le-leb _ _ h, e _); output = rw (le-leb _ _ h, e _) }

    pub write_uneven : (length n ≡ length m → ⊥) ⊎ (length n ≡ length p → ⊥) → WritesVector n m p k out at (Err W.Lengths) out
    write_uneven (inl e) = differ (λ a. row_uneven_nm n m p a e)
    write_uneven (inr e) = differ (λ a. row_uneven_np n m p a e)

    module _ (q : Parallel n m p) {r : Result Vector WriteError} {ys : List ℕ} (w : WritesList k (row_of n m p) (take (length out - at) (drop at out)) r ys) where
      row_answer_lem : row_answer k n m p out at ≡ list_answer k (row_of n m p) (length (take (length out - at) (drop at out)))
      unfolding row_answer
      row_answer_lem = rw (le-leb _ _ h, row_even n m p _ q.missing q.phased, rest_all out at)

      write_row : WritesVector n m p k out at r (put_mid at (length out - at) out ys)
      write_row = record { answer = w.answer ∙ sym row_answer_lem; output = rw row_answer_lem (rest_laid (list_answer k (row_of n m p) (length (take (length out - at) (drop at out)))) at (vector_of (smallest (row_of n m p)) k (row_of n m p)) out ys w.output) }

-- the same of a row made of three slices
pub write_made : (x : Row) {n m p : Bor (List ℕ)} (k : ℕ) (out : List ℕ) (at : ℕ) {r : Result Vector WriteError} {ys : List ℕ} → at ≤ length out
    → (x.numbers ≡ n) × (x.missing ≡ m) × (x.phased ≡ p) → WritesList k (list_of x) (take (length out - at) (drop at out)) r ys
    → WritesVector n.now m.now p.now k out at r (put_mid at (length out - at) out ys)
write_made x k out at h e w = rw (← e.0, ← e.1, ← e.2) (write_row k x.numbers.now x.missing.now x.phased.now out at h x.parallel w)

pub ruleset laws = (sound_zero, sound_number, code_there, code_missing, stuff_first, stuff_room, stuff_turn, stuff_len, stuff_past, sized_large, sized_small, sized_by, write_beyond)
