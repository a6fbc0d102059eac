-- A line made piece by piece, in room that is enough for each, and then copied where there is room for it. Assumes nothing.
use Prim.Native.Nat.{ℕ, suc, ◌+◌, ◌-◌, ◌*◌, ◌^◌, ◌<◌, ◌≤◌, zero-le}
use mathlib.Core.Path.{◌≡◌, refl, sym, ap, ◌∙◌}
use mathlib.Core.Bool.{Bool, true, false}
use mathlib.Core.List.{List, [], ◌∷◌, ◌++◌}
use native.Mathlib.Omega.{arith}
use lib.ListN.{length, get_or, take, drop, set, length-set, length-append, length-drop, drop_of_length-le}
use lib.Seq.{length-take-le}
use lib.Dec.{leb}
use mir.Syntax.{w64}
use mir.Val.{Fits}
use borrow.Author.Tests.{le-leb, lt-leb, leb-true, lt-ltb}
use borrow.Rule.Slice.PartMut.{put_mid}
use Rattle.std.specs.Prelude.{Result, Ok, Err}
use Rattle.text.specs.Pick.{pick}
use Rattle.text.specs.Answer.{says, number_of}
use Rattle.text.specs.Over.{over, over_at, room_answer, Writes}
use Rattle.text.specs.declared.copy.NoRoom.{NoRoom}
use Rattle.text.proofs.Lists.{here, rest_all, rest_put, rest_back, length_over, length_over_at, take_over, over_append, over_at_nil, over_at_append, over_at_one}
use Rattle.text.proofs.CopyLaws.{room_fits, room_lacks, room_done}
use Rattle.text.proofs.WrittenLaws.{writes_done, writes_short, follows_short, follows_done}
use Rattle.decimal.specs.Shortest.{shortest}
use Rattle.decimal.proofs.Shortest.{length_bound}
use Rattle.numbering.specs.Ordering.{ordering}
use Rattle.numbering.specs.Demands.{Limits}
use Rattle.numbering.specs.Answers.{is_there}
use Rattle.numbering.specs.Promises.{PlacesGenotype}
use Rattle.numbering.specs.declared.genotype.FillError.{FillError}
use Rattle.numbering.proofs.OrderLaws.{length_ordering, listed, rises_ploidy, rises_genotype}
use Rattle.numbering.proofs.CountLaws.{count_small}
use Rattle.numbering.proofs.LimitLaws.{limits_yes}
use Rattle.numbering.proofs.ToldLaws.{Placed, place_told, place_refused}
use Rattle.numbers.specs.Table.{later_text, genotype_text, row_text, line_of, row_answer, PutsRow}
use Rattle.numbers.specs.Paper.{row_paper}
use Rattle.numbers.specs.Inner.{behind, Puts, Starts, LineFits}
use Rattle.numbers.specs.declared.row.RowError.{RowError}
use Rattle.numbers.specs.declared.row.RowError.TheVariants as R

-- ---- a number

pub printed : {vs l l' : List ℕ} {r : Result ℕ NoRoom} {len : ℕ} → Writes vs l r l' → r ≡ Ok len → len ≤ length l
printed w e = let d = writes_done w e in let c = d.count in let m = d.room in omega arith

-- ---- a byte, and a number behind it

module _ (b n at : ℕ) (l : List ℕ) {ys : List ℕ} {r : Result ℕ NoRoom} (w : Writes (shortest n) (take (length l - (at + 1)) (drop (at + 1) l)) r ys)
    (h : at + length (b ∷ shortest n) ≤ length l) where
  pub number_none : {no : NoRoom} → r ≡ Err no → ⊥
  number_none = follows_short b at (shortest n) l w h

  module _ {len : ℕ} (e : r ≡ Ok len) where
    pub number_fits : length l < 2 ^ 64 → Fits w64 (at + 1 + len)
    number_fits f = let d = (follows_done b at (shortest n) l w h e).within in record { fits = omega arith }

    pub number_put : Puts at (b ∷ shortest n) l (at + 1 + len) (set (put_mid (at + 1) (length l - (at + 1)) l ys) at b)
    number_put = let d = follows_done b at (shortest n) l w h e in record { place = d.count; within = d.within; bytes = d.bytes }

-- ---- a genotype

later_behind : (g : List ℕ) → later_text g ≡ behind 47 g
unfolding behind later_text
later_behind [] = refl
later_behind (k ∷ g) = refl

behind_none : (b : ℕ) → behind b [] ≡ []
unfolding behind
behind_none b = refl

behind_more : (b k : ℕ) (g : List ℕ) → behind b (k ∷ g) ≡ (b ∷ shortest k) ++ behind 47 g
unfolding behind
behind_more b k g = ap (λ (s : List ℕ). b ∷ (shortest k ++ s)) (later_behind g)

-- from index k on, behind the byte b, is left to be put from the place `next` on
pub record Going (at : ℕ) (g l₀ : List ℕ) (next b k : ℕ) (l : List ℕ) : Type 0 where
  pub within : k ≤ length g
  pub size : next + length (behind b (drop k g)) ≡ at + length (behind 9 g)
  pub room : at + length (behind 9 g) ≤ length l₀
  pub len : length l ≡ length l₀
  pub same : over_at next (behind b (drop k g)) l ≡ over_at at (behind 9 g) l₀

pub go_first : {at : ℕ} {g l : List ℕ} → at + length (behind 9 g) ≤ length l → Going at g l at 9 0 l
go_first h = record { within = zero-le; size = refl; room = h; len = refl; same = refl }

module _ {at : ℕ} {g l₀ : List ℕ} {next b k : ℕ} {l : List ℕ} (o : Going at g l₀ next b k l) where
  module _ (h : k < length g) where
    go_here : behind b (drop k g) ≡ (b ∷ shortest (get_or g k 0)) ++ behind 47 (drop (k + 1) g)
    go_here = ap (behind b) (here g k h) ∙ behind_more b (get_or g k 0) (drop (k + 1) g)

    go_size : next + (length (b ∷ shortest (get_or g k 0)) + length (behind 47 (drop (k + 1) g))) ≡ at + length (behind 9 g)
    go_size = let e = ap length go_here ∙ length-append (b ∷ shortest (get_or g k 0)) _ in let s = o.size in omega arith

    pub go_room : next + length (b ∷ shortest (get_or g k 0)) ≤ length l
    go_room = let s = go_size in let r = o.room in let m = o.len in omega arith

    pub go_turn : {r : ℕ} {l' : List ℕ} → Puts next (b ∷ shortest (get_or g k 0)) l r l' → Going at g l₀ r 47 (k + 1) l'
    go_turn {r} {l'} q =
        let s = go_size in
        let f = go_room in
        let p = q.place in
        let m : length l' ≡ length l = ap length q.bytes ∙ length_over_at next (b ∷ shortest (get_or g k 0)) l f in
        record {
          within = omega arith;
          size = omega arith;
          room = o.room;
          len = m ∙ o.len;
          same = rw (p, q.bytes) (sym (over_at_append next (b ∷ shortest (get_or g k 0)) (behind 47 (drop (k + 1) g)) l f)) ∙ ap (λ (s : List ℕ). over_at next s l) (sym go_here) ∙ o.same;
        }

  pub go_past : length g ≤ k → Puts at (behind 9 g) l₀ next l
  go_past h =
      let e : behind b (drop k g) ≡ [] = ap (behind b) (drop_of_length-le g h) ∙ behind_none b in
      let s = o.size in
      let z = ap length e in
      let r = o.room in
      record { place = omega arith; within = omega arith; bytes = sym (over_at_nil next l) ∙ ap (λ (s : List ℕ). over_at next s l) (sym e) ∙ o.same }

-- ---- a line

row_parts : (i : ℕ) (g : List ℕ) → 0 < length g → row_text i g ≡ shortest i ++ (behind 9 g ++ 10 ∷ [])
unfolding row_text genotype_text behind
row_parts i [] h = absurd (omega arith)
row_parts i (k ∷ g) h = refl

row_size : (i : ℕ) (g : List ℕ) → 0 < length g → length (row_text i g) ≡ length (shortest i) + (length (behind 9 g) + 1)
row_size i g h = ap length (row_parts i g h) ∙ length-append (shortest i) _ ∙ ap (λ (n : ℕ). length (shortest i) + n) (length-append (behind 9 g) (10 ∷ []))

module _ {i : ℕ} {g l l₁ : List ℕ} {r : Result ℕ NoRoom} (f : LineFits i g l) (w : Writes (shortest i) l r l₁) where
  pub line_none : {no : NoRoom} → r ≡ Err no → ⊥
  line_none e = let s = row_size i g f.some in let a = (writes_short w e).room in let b = f.room in omega arith

  module _ {len : ℕ} (e : r ≡ Ok len) where
    line_len : length l₁ ≡ length l
    line_len = let d = writes_done w e in ap length d.bytes ∙ length_over (shortest i) l d.room

    pub line_room : len + length (behind 9 g) ≤ length l₁
    line_room = let s = row_size i g f.some in let c = (writes_done w e).count in let m = line_len in let b = f.room in omega arith

    module _ {end : ℕ} {l₂ : List ℕ} (q : Puts len (behind 9 g) l₁ end l₂) where
      line_size : end + 1 ≡ length (row_text i g)
      line_size = let s = row_size i g f.some in let c = (writes_done w e).count in let p = q.place in omega arith

      line_long : length l₂ ≡ length l
      line_long = ap length q.bytes ∙ length_over_at len (behind 9 g) l₁ line_room ∙ line_len

      pub line_end : end < length l₂
      line_end = let s = line_size in let m = line_long in let b = f.room in omega arith

      pub line_same : length (set l₂ end 10) ≡ length l
      line_same = simp length-set line_long

      pub line_put : Starts (row_text i g) l (end + 1) (set l₂ end 10)
      line_put =
          let s = line_size in
          let b = f.room in
          let d = writes_done w e in
          let c = d.count in
          let p = q.place in
          let v = line_end in
          let x : over_at end (10 ∷ []) l₂ ≡ over_at len (behind 9 g ++ 10 ∷ []) l₁ = rw (q.bytes, p) (sym (over_at_append len (behind 9 g) (10 ∷ []) l₁ line_room)) in
          let y : over_at len (behind 9 g ++ 10 ∷ []) l₁ ≡ over (shortest i ++ (behind 9 g ++ 10 ∷ [])) l = rw (d.bytes, c) (sym (over_append (shortest i) (behind 9 g ++ 10 ∷ []) l d.room)) in
          record { size = s; within = omega arith; bytes = sym (over_at_one l₂ end 10 v) ∙ x ∙ y ∙ ap (λ (s : List ℕ). over s l) (sym (row_parts i g f.some)) }

-- ---- how long a line can be

behind_short : (b : ℕ) (g : List ℕ) → ((j : ℕ) → j < length g → get_or g j 0 < 100) → length (behind b g) ≤ 3 * length g
behind_short b [] h = rw (behind_none b) zero-le
behind_short b (k ∷ g) h =
    let e = ap length (behind_more b k g) ∙ length-append (b ∷ shortest k) (behind 47 g) in
    let d = length_bound 1 k (h 0 (omega arith)) in
    let r = behind_short 47 g (λ j w. h (suc j) (omega arith)) in
    omega arith

-- a genotype that is there: the number is below 10 ^ 11, and each of at most eight alleles below 64
module _ (i p n : ℕ) (m : Limits p n) (h : i < length (ordering p n)) where
  line_some : 0 < length (get_or (ordering p n) i [])
  line_some = let c = rises_ploidy (listed p n i h) in let o = m.one in omega arith

  pub line_short : length (line_of i p n) ≤ 36
  unfolding line_of
  line_short =
      let c = rises_ploidy (listed p n i h) in
      let s = row_size i (get_or (ordering p n) i []) line_some in
      let a = count_small p n m.eight m.most in
      let b = length_ordering p n in
      let d = length_bound 10 i (omega arith) in
      let f = rises_genotype (listed p n i h) in
      let v = behind_short 9 (get_or (ordering p n) i []) (λ j w. (let z = f.below j w in let y = m.most in omega arith)) in
      let e = m.eight in
      omega arith

-- what a row of eight holds at first
abbrev pub eight : List ℕ
eight = 0 ∷ 0 ∷ 0 ∷ 0 ∷ 0 ∷ 0 ∷ 0 ∷ 0 ∷ []

-- the genotype was written
module _ (i p n : ℕ) {x : Result ℕ FillError} {l : List ℕ} (w : PlacesGenotype i p n eight x l) {v : ℕ} (e : x ≡ Ok v) where
  abbrev g : List ℕ
  g = get_or (ordering p n) i []

  told : Placed i p n eight l
  told = place_told i p n eight w e

  row_ploidy : length g ≡ p
  row_ploidy = rises_ploidy (listed p n i told.below)

  pub row_long : p ≤ length l
  row_long =
      let c = row_ploidy in
      let m = told.within in
      let k = ap length told.row ∙ length_over g eight (omega arith) in
      omega arith

  row_taken : take p l ≡ g
  row_taken = rw told.row (take_over g eight p (sym row_ploidy))

  pub row_fits : (line : List ℕ) → 64 ≤ length line → LineFits i (take p l) line
  unfolding line_of
  row_fits line h =
      let m = told.within in
      let s = line_short i p n m told.below in
      rw row_taken (record { some = line_some i p n m told.below; room = omega arith })

  -- and the line made of it is the one that is asked for
  module _ {line line' : List ℕ} {len : ℕ} (q : Starts (row_text i (take p l)) line len line') where
    row_made : take len line' ≡ line_of i p n
    unfolding line_of
    row_made = rw q.bytes (take_over (row_text i (take p l)) line len q.size) ∙ ap (row_text i) row_taken

    pub made_long : len ≤ length line'
    made_long = let z = q.within in let s = q.size in let k = ap length q.bytes ∙ length_over (row_text i (take p l)) line (omega arith) in omega arith

    module _ (at : ℕ) (out : List ℕ) (h : at ≤ length out) {ys : List ℕ} {r : Result ℕ NoRoom} (u : Writes (take len line') (take (length out - at) (drop at out)) r ys) where
      lined : Writes (line_of i p n) (take (length out - at) (drop at out)) r ys
      lined = rw row_made at u

      pub row_put : {k : ℕ} → r ≡ Ok k → PutsRow i p n out at (Ok k) (put_mid at (length out - at) out ys)
      unfolding row_paper row_answer
      row_put {k} e =
          let f = le-leb at (length out) h in
          let t = told.there in
          let d = writes_done lined e in
          let m = ap length (rest_all out at) in
          let a = room_fits (line_of i p n) (drop at out) (let z = d.room in omega arith) in
          record { answer = rw (f, t, a, d.count); bytes = rw (f, t, a) (rest_put at (line_of i p n) out ys d.bytes) }

      pub row_full : {no : NoRoom} → r ≡ Err no → PutsRow i p n out at (Err R.Full) (put_mid at (length out - at) out ys)
      unfolding row_paper row_answer
      row_full e =
          let f = le-leb at (length out) h in
          let t = told.there in
          let d = writes_short lined e in
          let m = ap length (rest_all out at) in
          let a = room_lacks (line_of i p n) (drop at out) (let z = d.room in omega arith) in
          record { answer = rw (f, t, a); bytes = rw (f, t, a) (rest_back at out ys d.bytes) }

-- ---- no line

module _ (i p n at : ℕ) (out : List ℕ) where
  pub row_beyond : length out < at → PutsRow i p n out at (Err R.Beyond) out
  unfolding row_paper row_answer
  row_beyond h = let e = lt-leb at (length out) h in record { answer = rw e; bytes = rw e }

  pub row_wrong : {x : Result ℕ FillError} {l : List ℕ} {r : FillError} → at ≤ length out → PlacesGenotype i p n eight x l → x ≡ Err r → PutsRow i p n out at (Err R.NoGenotype) out
  unfolding row_paper row_answer
  row_wrong h w q =
      let f = le-leb at (length out) h in
      let e = place_refused i p n eight w (omega arith) (λ v z. let y = sym z ∙ q in cc) in
      record { answer = rw (f, e); bytes = rw (f, e) }

-- ---- what an answer tells

-- a line that was put has room
row_room : (i p n at : ℕ) (out : List ℕ) {x : Result ℕ RowError} {out' : List ℕ} {k : ℕ} → PutsRow i p n out at x out' → x ≡ Ok k → at + k ≤ length out
unfolding row_paper row_answer
row_room i p n at out {x} {out'} {k} w e = by (leb at (length out)) refl (is_there i p n) (rw e at w.answer)
  where
    by : (a : Bool) → leb at (length out) ≡ a → (b : Bool) → says 0 (k ∷ []) ≡ pick a (pick b (room_answer (line_of i p n) (drop at out)) (says 23 [])) (says 6 []) → at + k ≤ length out
    by true t true q =
        let h = leb-true at (length out) t in
        let f = room_done (line_of i p n) (drop at out) (ap number_of (sym q)) in
        let r = q ∙ room_fits (line_of i p n) (drop at out) f in
        let z : k ≡ length (line_of i p n) = cc in
        let d = length-drop at out in
        omega arith
    by true t false q = let z : ◌≡◌ {A = ℕ} 0 1 = cc in absurd (omega arith)
    by false t b q = let z : ◌≡◌ {A = ℕ} 0 1 = cc in absurd (omega arith)

-- and every genotype's line is put where 36 bytes are left
pub row_done : (i p n at : ℕ) (out : List ℕ) → Limits p n → i < length (ordering p n) → at + 36 ≤ length out → row_answer i p n out at ≡ says 0 (length (line_of i p n) ∷ [])
unfolding row_answer
row_done i p n at out m h r =
    let d = length-drop at out in
    let s = line_short i p n m h in
    let a = le-leb at (length out) (omega arith) in
    let b = lt-ltb i (length (ordering p n)) h in
    rw (a, limits_yes m, b) (room_fits (line_of i p n) (drop at out) (omega arith))

-- ---- lines gathered in an output of 65,536 bytes

module _ (i p n at : ℕ) {out : List ℕ} {x : Result ℕ RowError} {out' : List ℕ} {k : ℕ} (w : PutsRow i p n out at x out') (e : x ≡ Ok k) (l : length out ≡ 65536) where
  pub more_room : at + k ≤ 65536
  more_room = let r = row_room i p n at out w e in omega arith

  pub more_fits : Fits w64 (at + k)
  more_fits = let r = more_room in record { fits = omega arith }

  pub more_less : (c : ℕ) → i < c → (c - (i + 1)) * 65537 + (at + k) < (c - i) * 65537 + at
  more_less c h = let r = more_room in omega arith

pub ruleset gathering = (more_room, more_fits, more_less)

pub ruleset laws = (length-take-le, number_none, number_fits, number_put, go_first, go_room, go_turn, go_past, line_none, line_room, line_end, line_same, line_put, row_long, row_fits, made_long, row_put, row_full, row_beyond, row_wrong)
