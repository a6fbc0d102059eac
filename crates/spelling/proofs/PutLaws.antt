-- Writing one allele at a place, and as planned: each way through each function. The mark is stored once the rest is written. Assumes nothing.
use Prim.Native.Nat.{ℕ, ◌+◌, ◌-◌, ◌^◌, ◌≤◌, ◌<◌}
use mathlib.Core.Path.{◌≡◌, refl, ◌∙◌}
use mathlib.Core.Bool.{Bool, true, false}
use mathlib.Core.List.{List, [], ◌∷◌}
use native.Mathlib.Omega.{arith}
use native.Mathlib.Nat.{add-zero}
use native.Mathlib.Decide.{dec_le}
use mir.Syntax.{w64}
use mir.Val.{Fits}
use lib.ListN.{length, take, drop, set}
use lib.Dec.{eqb}
use borrow.Author.Tests.{le-leb, lt-leb}
use borrow.Rule.Slice.PartMut.{put_mid}
use Rattle.text.specs.Over.{over_at, Writes}
use Rattle.std.specs.Prelude.{Result, Ok, Err}
use Rattle.text.specs.declared.copy.NoRoom.{NoRoom}
use Rattle.text.proofs.Lists.{length_rest, rest_put, rest_back, over_at_before, over_at_nil}
use Rattle.text.proofs.WrittenLaws.{Wrote, Lacked, writes_done, writes_short}
use Rattle.decimal.specs.Shortest.{shortest}
use Rattle.allele.specs.Means.{mark_byte}
use Rattle.allele.specs.declared.allele.Allele.{Allele}
use Rattle.spelling.specs.Spelling.{body_text, allele_text}
use Rattle.spelling.specs.Inner.{one_text, step_text, fits_at, PutsAt}
use Rattle.spelling.specs.declared.tally.Plan.{Plan}
use Rattle.spelling.specs.declared.tally.Plan.TheVariants as P
use Rattle.spelling.specs.declared.write.WriteError.{WriteError}
use Rattle.spelling.proofs.SpellLaws.{body_dot, body_number, bare_text, marked_text, marked_length}

-- ---- without its mark

module _ (a : Allele) {l l' : List ℕ} {r : Result ℕ NoRoom} where
  pub put_dot : a.missing ≡ true → Writes (46 ∷ []) l r l' → Writes (body_text a) l r l'
  put_dot e w = rw (body_dot a e) w

  pub put_number : a.missing ≡ false → Writes (shortest a.number) l r l' → Writes (body_text a) l r l'
  put_number e w = rw (body_number a e) w

-- ---- at a place

-- what was not written had no room
lacked : {vs l l' : List ℕ} (r : Result ℕ NoRoom) → Writes vs l r l' → ((n : ℕ) → r ≡ Ok n → ⊥) → Lacked vs l l'
lacked (Ok n) w h = absurd (h n refl)
lacked (Err e) w h = writes_short w refl

module _ (vs : List ℕ) (at : ℕ) (l : List ℕ) where
  puts_lacks : length l < at + length vs → PutsAt vs at l at l
  unfolding fits_at
  puts_lacks h = record { place = rw (lt-leb _ _ h); bytes = rw (lt-leb _ _ h) }

  puts_fits : at + length vs ≤ length l → PutsAt vs at l (at + length vs) (over_at at vs l)
  unfolding fits_at
  puts_fits h = record { place = rw (le-leb _ _ h); bytes = rw (le-leb _ _ h) }

module _ {vs : List ℕ} {at : ℕ} {l : List ℕ} {r : ℕ} {l' : List ℕ} (w : PutsAt vs at l r l') (h : at + length vs ≤ length l) where
  pub put_place : r ≡ at + length vs
  unfolding fits_at
  put_place = w.place ∙ rw (le-leb _ _ h)

  pub put_bytes : l' ≡ over_at at vs l
  unfolding fits_at
  put_bytes = w.bytes ∙ rw (le-leb _ _ h)

module _ (a : Allele) (bare : Bool) (at : ℕ) (l : List ℕ) where
  pub put_beyond : length l < at → PutsAt (allele_text bare a) at l at l
  put_beyond h = puts_lacks (allele_text bare a) at l (omega arith)

  module _ (h : at ≤ length l) where
    module _ (e : bare ≡ true) {ys : List ℕ} {v : Result ℕ NoRoom} (w : Writes (body_text a) (take (length l - at) (drop at l)) v ys) where
      module _ {n : ℕ} (d : v ≡ Ok n) where
        bare_wrote : Wrote (body_text a) (take (length l - at) (drop at l)) n ys
        bare_wrote = writes_done w d

        bare_room : at + length (body_text a) ≤ length l
        bare_room = let g = bare_wrote.room in let k = length_rest l at in omega arith

        pub put_bare_sum : length l < 2 ^ 64 → Fits w64 (at + n)
        put_bare_sum f = let g = bare_wrote.count in let k = bare_room in record { fits = omega arith }

        pub put_bare : PutsAt (allele_text bare a) at l (at + n) (put_mid at (length l - at) l ys)
        put_bare = rw (e, bare_text a, bare_wrote.count, rest_put at (body_text a) l ys bare_wrote.bytes) (puts_fits (body_text a) at l bare_room)

      pub put_bare_short : ((n : ℕ) → v ≡ Ok n → ⊥) → PutsAt (allele_text bare a) at l at (put_mid at (length l - at) l ys)
      put_bare_short d =
          let g = lacked v w d in
          let k = length_rest l at in
          let r = g.room in
          rw (e, bare_text a, rest_back at l ys g.bytes) (puts_lacks (body_text a) at l (omega arith))

    module _ (e : bare ≡ false) where
      pub put_full : at ≡ length l → PutsAt (allele_text bare a) at l at l
      put_full f = let k = marked_length a in rw e (puts_lacks (allele_text false a) at l (omega arith))

      module _ (f : at ≡ length l → ⊥) {ys : List ℕ} {v : Result ℕ NoRoom}
          (w : Writes (body_text a) (take (length l - (at + 1)) (drop (at + 1) l)) v ys) where
        module _ {n : ℕ} (d : v ≡ Ok n) where
          mark_wrote : Wrote (body_text a) (take (length l - (at + 1)) (drop (at + 1) l)) n ys
          mark_wrote = writes_done w d

          mark_room : at + length (allele_text false a) ≤ length l
          mark_room =
              let g = mark_wrote.room in
              let k = length_rest l (at + 1) in
              let m = marked_length a in
              omega arith

          mark_count : at + 1 + n ≡ at + length (allele_text false a)
          mark_count = let g = mark_wrote.count in let m = marked_length a in omega arith

          pub put_mark_sum : length l < 2 ^ 64 → Fits w64 (at + 1 + n)
          put_mark_sum s = let g = mark_count in let k = mark_room in record { fits = omega arith }

          pub put_mark : {b : ℕ} → b ≡ mark_byte a.phased
              → PutsAt (allele_text bare a) at l (at + 1 + n) (set (put_mid (at + 1) (length l - (at + 1)) l ys) at b)
          put_mark s =
              rw
              (e, s, mark_count, rest_put (at + 1) (body_text a) l ys mark_wrote.bytes, over_at_before l at (body_text a) (mark_byte a.phased) (omega arith), ← marked_text a)
              (puts_fits (allele_text false a) at l mark_room)

        pub put_mark_short : ((n : ℕ) → v ≡ Ok n → ⊥) → PutsAt (allele_text bare a) at l at (put_mid (at + 1) (length l - (at + 1)) l ys)
        put_mark_short d =
            let g = lacked v w d in
            let k = length_rest l (at + 1) in
            let r = g.room in
            let m = marked_length a in
            rw (e, rest_back (at + 1) l ys g.bytes) (puts_lacks (allele_text false a) at l (omega arith))

-- ---- as planned

puts_nothing : (at : ℕ) (l : List ℕ) → PutsAt [] at l at l
puts_nothing at l =
    elim (dec_le at (length l)) [
      | yes h ↦ rw (over_at_nil at l, add-zero) at (puts_fits [] at l (omega arith))
      | no h ↦ puts_lacks [] at l (omega arith)
    ]

module _ (a : Allele) (k : ℕ) (x : Result Plan WriteError) {at : ℕ} {l : List ℕ} where
  module _ {p : Plan} {n r : ℕ} {l' : List ℕ} (e : x ≡ Ok p) where
    pub one_bare : p ≡ P.Bare n → PutsAt (allele_text (eqb k 0) a) at l r l' → PutsAt (step_text x k a) at l r l'
    unfolding one_text
    one_bare f w = rw (e, f) w

    pub one_marked : p ≡ P.Marked n → PutsAt (allele_text false a) at l r l' → PutsAt (step_text x k a) at l r l'
    unfolding one_text
    one_marked f w = rw (e, f) w

  pub one_none : {e : WriteError} → x ≡ Err e → PutsAt (step_text x k a) at l at l
  one_none e = rw e (puts_nothing at l)

pub ruleset laws = (put_dot, put_number, put_beyond, put_bare_sum, put_bare, put_bare_short, put_full, put_mark_sum, put_mark, put_mark_short, one_bare, one_marked, one_none)
