-- A step of the INFO scan: the entry is read up to its first `;`, cut at its first `=`, and each answer is a law of the pieces between `;`. Assumes nothing.
use Rattle.std.specs.Option.{unwrap_or}
use Rattle.std.specs.Prelude.{Ok, Err, Option, Some, None}
use Prim.Native.Nat.{ℕ, suc, ◌+◌, ◌-◌, ◌^◌, ◌<◌, ◌≤◌}
use mathlib.Core.Path.{◌≡◌, refl, sym, ap, ◌∙◌}
use mathlib.Core.Bool.{Bool, true, false}
use mathlib.Core.List.{List, [], ◌∷◌, ◌++◌}
use native.Mathlib.Omega.{arith}
use native.Mathlib.Decide.{ℕ_discrete}
use mir.Syntax.{w64}
use mir.Val.{Fits}
use lib.ListN.{length, get_or, take, drop, length-drop}
use lib.Seq.{drop-drop, take-add, length-take-le}
use lib.Dec.{eqb}
use borrow.Author.Tests.{eq-eqb, ne_eqb}
use Rattle.text.specs.Pick.{pick}
use Rattle.text.specs.Answer.{says}
use Rattle.text.specs.Range.{range_at, cut}
use Rattle.text.specs.declared.range.Range.{Range}
use Rattle.text.proofs.Lists.{here, cut_is}
use Rattle.text.proofs.ByteLaws.{empty_is}
use Rattle.pieces.specs.Demands.{Free}
use Rattle.pieces.specs.Inner.{Quiet, quiet_length}
use Rattle.pieces.specs.declared.step.Piece.TheVariants as P
use Rattle.pieces.proofs.BlockLaws.{quiet_most, quiet_to}
use Rattle.pieces.proofs.EitherLaws.{seek_first, seek_turn, seek_past, seek_rest}
use Rattle.pieces.proofs.PieceLaws.{part_free, split_whole, split_append}
use Rattle.pieces.proofs.StepLaws.{step_tells, finds_last, finds_more}
use Rattle.info.specs.Info.{Pair, alone, paired, key_of, pair_of, places_of, entry_answer, dangling_answer, ended_answer, step_answer}
use Rattle.info.specs.Paper.{value_places, entry_places, step_paper}
use Rattle.info.specs.Inner.{Reading, KeyRead, bare_at, entry_text, end_by, end_of, ReadsEntry, Drops, Passes}
use Rattle.info.specs.declared.step.Entry.{Entry}
use Rattle.info.specs.declared.step.NoEntry.TheVariants as N
use Rattle.info.proofs.EntryLaws.{pair_alone, pair_paired, step_beyond, step_end, step_inside, first_last, first_ended, ended_none, ended_some}

-- ---- the key is read

pub read_first : (t : List ℕ) (at : ℕ) → at ≤ length t → Reading t at at
read_first t at h = record { after = omega arith; within = h; equals = refl; semicolon = refl }

module _ {t : List ℕ} {at i : ℕ} (g : Reading t at i) where
  pub read_turn : i < length t → (get_or t i 0 ≡ 61 → ⊥) → (get_or t i 0 ≡ 59 → ⊥) → Reading t at (i + 1)
  read_turn h n m =
      let a = g.after in
      record {
        after = omega arith;
        within = omega arith;
        equals = (seek_turn {a = 61} {b = 61} (record { same = g.equals }) h n n).same;
        semicolon = (seek_turn {a = 59} {b = 59} (record { same = g.semicolon }) h m m).same;
      }

  pub key_read : i < length t → get_or t i 0 ≡ 61 → KeyRead t at i
  key_read h e = record { read = g; within = h; is = e }

  -- it holds no `=`
  key_free : Free 61 (take (i - at) (drop at t))
  key_free =
      let a = g.after in
      let w = g.within in
      let q : Quiet 61 61 t at i = quiet_to (omega arith) a (omega (arith, g.equals)) in
      part_free t 61 at i a (omega arith) q.no_first

  key_length : length (take (i - at) (drop at t)) ≡ i - at
  key_length = let a = g.after in let w = g.within in let l = length-drop at t in length-take-le (i - at) (drop at t) (omega arith)

  -- ---- a key alone

  bare_reads : i ≡ at + quiet_length 59 59 (drop at t) → ReadsEntry t at (bare_at at i)
  unfolding end_of end_by entry_places value_places places_of entry_text
  bare_reads e =
      let a = g.after in
      let n : quiet_length 59 59 (drop at t) ≡ i - at = omega arith in
      record {
        end = omega arith;
        places = rw (n, pair_alone (take (i - at) (drop at t)) (split_whole _ key_free), key_length);
      }

  pub bare_mark : {r : Entry} → i < length t → get_or t i 0 ≡ 59 → r ≡ bare_at at i → ReadsEntry t at r
  bare_mark h e q = rw q (bare_reads (seek_first {a = 59} {b = 59} (record { same = g.semicolon }) h e))

  pub bare_end : {r : Entry} → length t ≤ i → r ≡ bare_at at (length t) → ReadsEntry t at r
  bare_end h q =
      let w = g.within in
      let n : length t ≡ i = omega arith in
      rw (q, n) (bare_reads (seek_past {a = 59} {b = 59} (record { same = g.semicolon }) h))

-- ---- a key and a value

module _ {t : List ℕ} {at equals : ℕ} (g : KeyRead t at equals) where
  pub value_reads : {end : ℕ} → end ≡ equals + 1 + quiet_length 59 59 (drop (equals + 1) t)
      → ReadsEntry t at (record { key = record { start = at; len = equals - at }; value = Some (record { start = equals + 1; len = end - (equals + 1) }) })
  unfolding end_of end_by entry_places value_places places_of entry_text
  value_reads {end} e =
      let a = g.read.after in
      let w = g.within in
      let n : get_or t equals 0 ≡ 59 → ⊥ = (λ z. (let y = g.is in omega arith)) in
      let s : end ≡ at + quiet_length 59 59 (drop at t) = seek_rest {a = 59} {b = 59} (seek_turn (record { same = g.read.semicolon }) w n n) e in
      let m : quiet_length 59 59 (drop at t) ≡ (equals - at) + suc (end - (equals + 1)) = omega arith in
      let d : at + (equals - at) ≡ equals = omega arith in
      let k = take (equals - at) (drop at t) in
      let v = take (end - (equals + 1)) (drop (equals + 1) t) in
      let c : take (quiet_length 59 59 (drop at t)) (drop at t) ≡ k ++ 61 ∷ v = rw (m, take-add, drop-drop, d, here t equals w, g.is) in
      let l = key_length g.read in
      let f : length v ≡ end - (equals + 1) = (let y = quiet_most 59 59 (drop (equals + 1) t) in let x = length-drop (equals + 1) t in length-take-le (end - (equals + 1)) (drop (equals + 1) t) (omega arith)) in
      let p : at + (equals - at) + 1 ≡ equals + 1 = omega arith in
      record {
        end = omega arith;
        places = rw (c, pair_paired (k ++ 61 ∷ v) v (split_append k v (key_free g.read)), l, f, p);
      }

-- ---- where it ends

module _ (e : Entry) {r : Range} (q : r ≡ unwrap_or e.value e.key) where
  pub end_is : r.start + r.len ≡ end_of e
  unfolding end_of end_by
  end_is = by e.value q
    where
      by : (v : Option Range) → r ≡ unwrap_or v e.key → r.start + r.len ≡ end_by v e
      by None q = rw q
      by (Some x) q = rw q

  pub end_sum : end_of e < 2 ^ 64 → Fits w64 (r.start + r.len)
  end_sum h = omega (arith, end_is)

pub passes_none : {end left : ℕ} → left ≡ 0 → Passes end left end
passes_none z = record { none = λ y. refl; some = λ n. absurd (n z) }

pub passes_some : {end left : ℕ} → (left ≡ 0 → ⊥) → Passes end left (end + 1)
passes_some n = record { none = λ z. absurd (n z); some = λ y. refl }

-- ---- whether it is a key alone before one byte

pub drops_bare : {e : Entry} {left : ℕ} → left ≡ 1 → e.value ≡ None → Drops e left true
drops_bare h v = record { yes = λ z. (h, v); no = λ z. absurd (let y : ◌≡◌ {A = ℕ} 0 1 = cc in omega arith) }

pub drops_valued : {e : Entry} {left : ℕ} {r : Range} → e.value ≡ Some r → Drops e left false
drops_valued v = record { yes = λ z. absurd (let y : ◌≡◌ {A = ℕ} 0 1 = cc in omega arith); no = λ z h w. (let y : ◌≡◌ {A = ℕ} 0 1 = cc in omega arith) }

pub drops_far : {e : Entry} {left : ℕ} → (left ≡ 1 → ⊥) → Drops e left false
drops_far n = record { yes = λ z. absurd (let y : ◌≡◌ {A = ℕ} 0 1 = cc in omega arith); no = λ z h w. n h }

-- ---- an entry with the places of a pair

module _ (e : Entry) (at : ℕ) where
  key_size : (p : Pair) → entry_places e ≡ places_of at p → e.key.len ≡ length (key_of p)
  unfolding entry_places places_of
  key_size (alone k) q = cc
  key_size (paired k v) q = cc

  bare_dangles : (p : Pair) (end : ℕ) → entry_places e ≡ places_of at p → e.value ≡ None → dangling_answer at p end ≡ says 7 (end ∷ [])
  unfolding entry_places value_places places_of dangling_answer
  bare_dangles (alone k) end q v = refl
  bare_dangles (paired k w) end q v = absurd (let g = rw v at q in let z : ◌≡◌ {A = ℕ} 0 1 = cc in omega arith)

  value_dangles : (p : Pair) (end : ℕ) → entry_places e ≡ places_of at p → (e.value ≡ None → ⊥)
      → dangling_answer at p end ≡ pick (eqb e.key.len 0) (says 8 ((at + 1) ∷ [])) (says 9 (end ∷ []))
  unfolding entry_places value_places places_of dangling_answer
  value_dangles (alone k) end q n = absurd (by e.value refl)
    where
      by : (v : Option Range) → e.value ≡ v → ⊥
      by None f = n f
      by (Some r) f = let g = rw f at q in let z : ◌≡◌ {A = ℕ} 0 1 = cc in omega arith
  value_dangles (paired k v) end q n = rw (key_size (paired k v) q, empty_is k)

  entry_judged : (p : Pair) (next : ℕ) → entry_places e ≡ places_of at p
      → entry_answer at p next ≡ pick (eqb e.key.len 0) (says 8 ((at + 1) ∷ [])) (says 0 (next ∷ entry_places e))
  unfolding entry_answer
  entry_judged p next q = rw (q, key_size p q, empty_is (key_of p))

-- ---- each way through a step

pub finds_end : (t : List ℕ) (at : ℕ) → at ≡ length t → step_paper (Err (N.Nothing at)) ≡ step_answer t at
unfolding step_paper
finds_end t at h = sym (step_end t at h)

pub finds_beyond : (t : List ℕ) (at : ℕ) → length t ≤ at → (at ≡ length t → ⊥) → step_paper (Err (N.Beyond at)) ≡ step_answer t at
unfolding step_paper
finds_beyond t at h n = sym (step_beyond t at (omega arith))

abbrev pair_at : List ℕ → ℕ → Pair
pair_at t at = pair_of (entry_text t at)

module _ {t : List ℕ} {at : ℕ} {e : Entry} (h : at < length t) (g : ReadsEntry t at e) where
  pub end_within : {end : ℕ} → end ≡ end_of e → end ≤ length t
  end_within q = let m = quiet_most 59 59 (drop at t) in let l = length-drop at t in omega (arith, g.end)

  pub end_fits : length t < 2 ^ 64 → end_of e < 2 ^ 64
  end_fits m = let w = end_within refl in omega arith

  text_is : (n : ℕ) → n ≡ quiet_length 59 59 (drop at t) → cut (range_at at n) t ≡ entry_text t at
  unfolding entry_text
  text_is n q = cut_is at n t ∙ rw q

  text_length : length (entry_text t at) ≡ end_of e - at
  unfolding entry_text
  text_length = let q = g.end in length-take-le (quiet_length 59 59 (drop at t)) (drop at t) (quiet_most 59 59 (drop at t)) ∙ omega arith

  -- the column's end ends it
  answer_last : end_of e ≡ length t → step_answer t at ≡ entry_answer at (pair_at t at) (end_of e)
  answer_last z =
      let q = g.end in
      let l = text_length in
      let f = step_tells 59 t at (Ok (P.Last (range_at at (end_of e - at)))) (finds_last 59 t at (omega arith) (λ y. omega arith) g.end z) in
      let x : at + length (entry_text t at) ≡ end_of e = omega arith in
      step_inside t at h ∙ rw (f.pieces, text_is (end_of e - at) (omega arith), first_last, x)

  -- a `;` ends it
  answer_more : (end_of e ≡ length t → ⊥) → step_answer t at ≡ ended_answer at (pair_at t at) (end_of e + 1) (drop (end_of e + 1) t)
  answer_more z =
      let q = g.end in
      let l = text_length in
      let f = step_tells 59 t at (Ok (P.More (range_at at (end_of e - at)) (end_of e + 1))) (finds_more 59 t at (omega arith) (λ y. omega arith) g.end z) in
      let x : at + length (entry_text t at) + 1 ≡ end_of e + 1 = omega arith in
      step_inside t at h ∙ rw (f.pieces, text_is (end_of e - at) (omega arith), first_ended, x)

  module _ {end : ℕ} (q : end ≡ end_of e) where
    -- one byte is left
    answer_dropped : length t - end ≡ 1 → step_answer t at ≡ dangling_answer at (pair_at t at) (length t)
    answer_dropped o =
        let x : end_of e + 1 ≡ length t = omega arith in
        answer_more (λ z. omega arith) ∙ rw x (ended_none at (pair_at t at) (length t) (drop (length t) t) (simp length-drop (omega arith)))

    answer_kept : {next : ℕ} → (length t - end ≡ 1 → ⊥) → Passes end (length t - end) next → step_answer t at ≡ entry_answer at (pair_at t at) next
    answer_kept {next} n p = by (ℕ_discrete (end_of e) (length t))
      where
        by : Dec (end_of e ≡ length t) → step_answer t at ≡ entry_answer at (pair_at t at) next
        by (yes z) = answer_last z ∙ ap (entry_answer at (pair_at t at)) (let y = p.none (omega arith) in omega arith)
        by (no z) =
            let w = end_within refl in
            let y = p.some (λ d. omega arith) in
            answer_more z ∙ ended_some at (pair_at t at) (end_of e + 1) (drop (end_of e + 1) t) (simp length-drop (omega arith)) ∙ ap (entry_answer at (pair_at t at)) (omega arith)

    pub says_seven : {r : Bool} → Drops e (length t - end) r → r ≡ true → step_paper (Err (N.AfterKey (length t))) ≡ step_answer t at
    unfolding step_paper
    says_seven d y = sym (answer_dropped (d.yes y).0 ∙ bare_dangles e at (pair_at t at) (length t) g.places (d.yes y).1)

    pub says_eight : {r : Bool} → Drops e (length t - end) r → r ≡ false → e.key.len ≡ 0 → step_paper (Err (N.NoKey (at + 1))) ≡ step_answer t at
    unfolding step_paper
    says_eight d y z = by (ℕ_discrete (length t - end) 1)
      where
        kept : (length t - end ≡ 1 → ⊥) → {next : ℕ} → Passes end (length t - end) next → says 8 ((at + 1) ∷ []) ≡ step_answer t at
        kept n {next} p = sym (answer_kept n p ∙ entry_judged e at (pair_at t at) next g.places ∙ rw (eq-eqb _ _ z))

        by : Dec (length t - end ≡ 1) → says 8 ((at + 1) ∷ []) ≡ step_answer t at
        by (yes o) = sym (answer_dropped o ∙ value_dangles e at (pair_at t at) (length t) g.places (d.no y o) ∙ rw (eq-eqb _ _ z))
        by (no n) = elim (ℕ_discrete (length t - end) 0) [ yes o ↦ kept n (passes_none o) | no m ↦ kept n (passes_some m) ]

    module _ (k : e.key.len ≡ 0 → ⊥) where
      pub says_nine : {r : Bool} → Drops e (length t - end) r → r ≡ false → length t - end ≡ 1 → step_paper (Err (N.AfterValue (length t))) ≡ step_answer t at
      unfolding step_paper
      says_nine d y o = sym (answer_dropped o ∙ value_dangles e at (pair_at t at) (length t) g.places (d.no y o) ∙ rw (ne_eqb _ _ k))

      pub says_entry : {next : ℕ} → (length t - end ≡ 1 → ⊥) → Passes end (length t - end) next → step_paper (Ok (e, next)) ≡ step_answer t at
      unfolding step_paper
      says_entry {next} n p = sym (answer_kept n p ∙ entry_judged e at (pair_at t at) next g.places ∙ rw (ne_eqb _ _ k))

pub ruleset laws = (read_first, read_turn, key_read, bare_mark, bare_end, value_reads, end_is, end_sum, passes_none, passes_some, drops_bare, drops_valued, drops_far, finds_end, finds_beyond, end_within, end_fits, says_seven, says_eight, says_nine, says_entry)
