-- All genotypes in a row: the blocks of each allele, one after the other. Assumes nothing.
use Prim.Native.Nat.{ℕ, zero, suc, ◌+◌, ◌-◌, ◌*◌, ◌^◌, ◌<◌, ◌≤◌, zero-le}
use mathlib.Core.Path.{◌≡◌, refl, sym, ap, ◌∙◌, subst}
use mathlib.Core.Bool.{Bool, true, false}
use mathlib.Core.List.{List, [], ◌∷◌, ◌++◌, append_assoc, append-nil, flatten}
use native.Mathlib.Omega.{arith}
use native.Mathlib.Numerals.{add-one}
use native.Mathlib.Nat.{mul-le-mul_left}
use lib.ListN.{length, get_or, take, drop, set, length-set, length-append, drop_of_length-le}
use lib.Seq.{length-take-le, sets, sets-eq, drop-drop}
use lib.Dec.{leb}
use borrow.Author.Tests.{le-leb, lt-leb}
use Rattle.std.specs.Prelude.{Ok, Err}
use Rattle.text.specs.Over.{over, over_at}
use Rattle.text.proofs.Lists.{here, over_at_nil, over_at_append, length_over_at}
use Rattle.numbering.specs.Ordering.{followed, ordering}
use Rattle.numbering.specs.Closed.{how_many}
use Rattle.numbering.specs.Answers.{limits, list_answer}
use Rattle.numbering.specs.Demands.{Limits}
use Rattle.numbering.specs.Promises.{ListsAll}
use Rattle.numbering.specs.declared.shape.Shape.{Shape}
use Rattle.numbering.specs.Inner.{ShapeOf, spread, block, BlockFits, Listed}
use Rattle.numbering.specs.Paper.{filled_paper}
use Rattle.numbering.specs.declared.genotype.FillError.TheVariants as F
use Rattle.numbering.proofs.OrderLaws.{length_ordering, listed, rises_ploidy}
use Rattle.numbering.proofs.Demands.{added_to}
use Rattle.numbering.proofs.CountLaws.{count_small}
use Rattle.numbering.proofs.StoreLaws.{stored}
use Rattle.numbering.proofs.FlatLaws.{length_flat}
use Rattle.numbering.proofs.LimitLaws.{Counted, counted, limited}

-- ---- one genotype

pub record Copying (cur row₀ row : List ℕ) (at i : ℕ) : Type 0 where
  pub within : i ≤ length cur
  pub long : length row ≡ length row₀
  pub same : sets row (at + i) (drop i cur) ≡ sets row₀ at cur

pub copy_first : {cur row : List ℕ} {at : ℕ} → Copying cur row row at 0
copy_first {cur} {row} {at} = let e : at + 0 ≡ at = omega arith in record { within = zero-le; long = refl; same = rw e }

module _ {cur row₀ row : List ℕ} {at i : ℕ} (g : Copying cur row₀ row at i) (room : at + length cur ≤ length row₀) where
  pub copy_room : i < length cur → at + i < length row
  copy_room h = let l = g.long in omega arith

  pub copy_turn : i < length cur → Copying cur row₀ (set row (at + i) (get_or cur i 0)) at (i + 1)
  copy_turn h =
      let e : at + (i + 1) ≡ suc (at + i) = omega arith in
      record { within = omega arith; long = simp length-set g.long; same = rw e (rw (here cur i h) at g.same) }

  pub copy_end : length cur ≤ i → at + i ≡ at + length cur
  copy_end h = let w = g.within in omega arith

  pub copy_past : length cur ≤ i → row ≡ over_at at cur row₀
  unfolding over_at over
  copy_past h = rw (drop_of_length-le cur h) at g.same ∙ sets-eq cur row₀ at room ∙ rw (drop-drop (length cur) at row₀) (append_assoc (take at row₀) cur _)

-- ---- blocks

spread_append : (s : List ℕ) (xs ys : List (List ℕ)) → spread s (xs ++ ys) ≡ spread s xs ++ spread s ys
unfolding spread
spread_append s [] ys = refl
spread_append s (g ∷ xs) ys = ap (λ (l : List ℕ). (g ++ s) ++ l) (spread_append s xs ys) ∙ sym (append_assoc (g ++ s) (spread s xs) (spread s ys))

spread_followed : (s : List ℕ) (a : ℕ) (gs : List (List ℕ)) → spread s (followed a gs) ≡ spread (a ∷ s) gs
unfolding spread followed
spread_followed s a [] = refl
spread_followed s a (g ∷ gs) = rw (append_assoc g (a ∷ []) s) (ap (λ (l : List ℕ). (g ++ (a ∷ s)) ++ l) (spread_followed s a gs))

spread_flatten : (gs : List (List ℕ)) → spread [] gs ≡ flatten gs
unfolding spread flatten
spread_flatten [] = refl
spread_flatten (g ∷ gs) = rw append-nil (ap (λ (l : List ℕ). g ++ l) (spread_flatten gs))

-- no allele
block_none : (p : ℕ) (cur : List ℕ) → 0 < p → block p 0 cur ≡ []
unfolding block spread ordering
block_none zero cur z = absurd (omega arith)
block_none (suc p) cur z = refl

-- one allele more
block_more : (p a : ℕ) (s : List ℕ) → spread s (ordering (suc p) (a + 1)) ≡ spread s (ordering (suc p) a) ++ spread (a ∷ s) (ordering p (a + 1))
unfolding ordering
block_more p a s = rw add-one (spread_append s (ordering (suc p) a) (followed a (ordering p (suc a))) ∙ ap (λ (l : List ℕ). spread s (ordering (suc p) a) ++ l) (spread_followed s a (ordering p (suc a))))

behind : (q a : ℕ) (cur s : List ℕ) → drop q cur ≡ a ∷ s → drop (q + 1) cur ≡ s
behind q a cur s e = sym (drop-drop 1 q cur) ∙ ap (drop 1) e

module _ (p a : ℕ) (cur₀ cur : List ℕ) (z : 0 < p) (h : p ≤ length cur) (e : drop p cur ≡ drop p cur₀) where
  up : p - 1 + 1 ≡ p
  up = omega arith

  stored_at : drop (p - 1) (set cur (p - 1) a) ≡ a ∷ drop p cur₀
  stored_at = stored (p - 1) a cur (omega arith) ∙ rw up (ap (λ (l : List ℕ). a ∷ l) e)

  block_next : block p (a + 1) cur₀ ≡ block p a cur₀ ++ block (p - 1) (a + 1) (set cur (p - 1) a)
  unfolding block
  block_next = rw stored_at (by p z)
    where
      by : (p : ℕ) → 0 < p → spread (drop p cur₀) (ordering p (a + 1)) ≡ spread (drop p cur₀) (ordering p a) ++ spread (a ∷ drop p cur₀) (ordering (p - 1) (a + 1))
      by zero z = absurd (omega arith)
      by (suc q) z = let f : suc q - 1 ≡ q = omega arith in rw f (block_more q a (drop (suc q) cur₀))

-- more alleles take more room
block_longer : (p m n : ℕ) (cur : List ℕ) → m ≤ n → length (block p m cur) ≤ length (block p n cur)
unfolding block
block_longer p m n cur h =
    let r = added_to p m n h in
    let e : spread (drop p cur) (ordering p n) ≡ spread (drop p cur) (ordering p m) ++ spread (drop p cur) r.0 = ap (spread (drop p cur)) r.1 ∙ spread_append (drop p cur) (ordering p m) r.0 in
    rw (e, length-append) (omega arith)

-- ---- the recursion

-- the blocks of the alleles below a are written
pub record Going (p n : ℕ) (cur₀ row₀ : List ℕ) (at a : ℕ) (cur row : List ℕ) (next : ℕ) : Type 0 where
  pub within : a ≤ n
  pub done : Listed p a cur₀ row₀ at next cur row

pub go_first : {p n : ℕ} {cur row : List ℕ} {at : ℕ} → 0 < p → Going p n cur row at 0 cur row at
go_first {p} {n} {cur} {row} {at} z =
    let e = block_none p cur z in
    record {
      within = zero-le;
      done = record { next = rw e (omega arith); rest = refl; size = refl; long = refl; rows = rw e (sym (over_at_nil at row)) };
    }

module _ {p n : ℕ} {cur₀ row₀ : List ℕ} {at a : ℕ} {cur row : List ℕ} {next : ℕ} (g : Going p n cur₀ row₀ at a cur row next) (z : 0 < p) (o : BlockFits p n cur₀ row₀ at) where
  pub go_store : p - 1 < length cur
  go_store = let s = g.done.size in let w = o.ploidy in omega arith

  block_here : block p (a + 1) cur₀ ≡ block p a cur₀ ++ block (p - 1) (a + 1) (set cur (p - 1) a)
  block_here = let s = g.done.size in let w = o.ploidy in block_next p a cur₀ cur z (omega arith) g.done.rest

  go_fits : a < n → at + length (block p a cur₀) + length (block (p - 1) (a + 1) (set cur (p - 1) a)) ≤ length row₀
  go_fits h =
      let l = block_longer p (a + 1) n cur₀ (omega arith) in
      let e = ap length block_here ∙ length-append (block p a cur₀) (block (p - 1) (a + 1) (set cur (p - 1) a)) in
      let w = o.room in
      omega arith

  pub go_room : a < n → BlockFits (p - 1) (a + 1) (set cur (p - 1) a) row next
  go_room h =
      let s = go_store in
      let f = go_fits h in
      let l = g.done.long in
      let x = g.done.next in
      record { ploidy = simp length-set (omega arith); room = omega arith }

  pub go_turn : {r : ℕ} {cur' row' : List ℕ} → a < n → Listed (p - 1) (a + 1) (set cur (p - 1) a) row next r cur' row' → Going p n cur₀ row₀ at (a + 1) cur' row' r
  go_turn {r} {cur'} {row'} h d =
      let e = ap length block_here ∙ length-append (block p a cur₀) (block (p - 1) (a + 1) (set cur (p - 1) a)) in
      let f = go_fits h in
      let x = g.done.next in
      let y = d.next in
      let s = g.done.size in
      let w = o.ploidy in
      let u : p - 1 + 1 ≡ p = omega arith in
      let k : drop (p - 1) cur' ≡ a ∷ drop p cur₀ = d.rest ∙ stored_at p a cur₀ cur z (omega arith) g.done.rest in
      record {
        within = omega arith;
        done = record {
          next = omega arith;
          rest = rw u at (behind (p - 1) a cur' (drop p cur₀) k);
          size = d.size ∙ simp length-set s;
          long = d.long ∙ g.done.long;
          rows =
              d.rows
              ∙ ap (λ (l : List ℕ). over_at next (block (p - 1) (a + 1) (set cur (p - 1) a)) l) g.done.rows
              ∙ ap (λ (k : ℕ). over_at k (block (p - 1) (a + 1) (set cur (p - 1) a)) (over_at at (block p a cur₀) row₀)) x
              ∙ sym (over_at_append at (block p a cur₀) (block (p - 1) (a + 1) (set cur (p - 1) a)) row₀ (omega arith))
              ∙ ap (λ (l : List ℕ). over_at at l row₀) (sym block_here);
        };
      }

  pub go_past : n ≤ a → Listed p n cur₀ row₀ at next cur row
  go_past h = let w = g.within in let e : a ≡ n = omega arith in subst (λ (k : ℕ). Listed p k cur₀ row₀ at next cur row) e g.done

-- ---- ploidy 1

-- no allele is left: one genotype
block_one : (n : ℕ) (cur : List ℕ) → block 0 n cur ≡ cur
unfolding block spread ordering
block_one n cur = append-nil cur

module _ {n : ℕ} {cur₀ row₀ : List ℕ} {at a : ℕ} {cur row : List ℕ} {next : ℕ} (g : Going 1 n cur₀ row₀ at a cur row next) (o : BlockFits 1 n cur₀ row₀ at) (h : a < n) where
  pub first_room : next + length (set cur 0 a) ≤ length row
  first_room = let w = (go_room g (omega arith) o h).room in let f = ap length (block_one (a + 1) (set cur 0 a)) in omega arith

  pub first_turn : {r : ℕ} {row' : List ℕ} → r ≡ next + length (set cur 0 a) → row' ≡ over_at next (set cur 0 a) row → Going 1 n cur₀ row₀ at (a + 1) (set cur 0 a) row' r
  first_turn x y =
      let f = block_one (a + 1) (set cur 0 a) in
      go_turn g (omega arith) o h (record { next = rw f x; rest = refl; size = refl; long = rw y (length_over_at next (set cur 0 a) row first_room); rows = rw f y })

module _ {p n : ℕ} {cur row : List ℕ} {at : ℕ} (e : p ≡ 1) where
  pub base_room : BlockFits p n cur row at → BlockFits 1 n cur row at
  base_room o = rw e at o

  pub base_listed : {r : ℕ} {cur' row' : List ℕ} → Listed 1 n cur row at r cur' row' → Listed p n cur row at r cur' row'
  base_listed d = rw e d

-- ---- the answer

pub length_all : (p n : ℕ) → length (flatten (ordering p n)) ≡ how_many p n * p
length_all p n = length_flat p (ordering p n) (λ i l. rises_ploidy (listed p n i l)) ∙ ap (λ (c : ℕ). c * p) (length_ordering p n)

product_small : (c p : ℕ) → c ≤ 10639125640 → p ≤ 8 → c * p < 2 ^ 64
product_small c p h l = let m = mul-le-mul_left c l in omega arith

block_all : (p n : ℕ) (x : List ℕ) → p ≤ length x → block p n (take p x) ≡ flatten (ordering p n)
unfolding block
block_all p n x h = rw (drop_of_length-le (take p x) {i = p} (let l = length-take-le p x h in omega arith)) (spread_flatten (ordering p n))

pub scratch_length : (p : ℕ) (x : List ℕ) → p ≤ length x → p ≡ length (take p x)
scratch_length p x h = sym (length-take-le p x h)

-- no count times its ploidy passes 64 bits
limits_product : {p n c : ℕ} → Limits p n → c ≡ how_many p n → c * p < 2 ^ 64
limits_product {p} {n} {c} m e = product_small c p (let b = count_small p n m.eight m.most in omega arith) m.eight

pub list_product : (p n : ℕ) {r : Bool} → r ≡ limits p n → {c : ℕ} → r ≡ true → c ≡ how_many p n → c * p < 2 ^ 64
list_product p n e t d = limits_product (limited e t) d

module _ (p n : ℕ) where
  pub list_none : (l : List ℕ) → limits p n ≡ false → ListsAll p n l (Err F.NoGenotype) l
  unfolding filled_paper list_answer
  list_none l f = record { answer = rw f; row = rw f }

  module _ {s : Shape} (g : ShapeOf p n s) {c : ℕ} (d : c ≡ how_many s.ploidy s.alleles) where
    k : Counted p n c
    k = counted g d

    pub list_some : 0 < s.ploidy
    list_some = rw g.ploidy k.limits.one

    pub shape_product : c * p < 2 ^ 64
    shape_product = list_product p n (sym k.within) refl k.is

    room : c * p ≡ length (flatten (ordering p n))
    room = ap (λ (j : ℕ). j * p) k.is ∙ sym (length_all p n)

    module _ (l : List ℕ) where
      pub list_short : length l < c * p → ListsAll p n l (Err F.Short) l
      unfolding filled_paper list_answer
      list_short h =
          let f : leb (length (flatten (ordering p n))) (length l) ≡ false = lt-leb (length (flatten (ordering p n))) (length l) (let m = room in omega arith) in
          record { answer = rw (k.within, f); row = rw (k.within, f) }

      module _ (h : c * p ≤ length l) (x : List ℕ) (w : s.ploidy ≤ length x) where
        long : p ≤ length x
        long = rw g.ploidy at w

        fits : BlockFits p n (take p x) l 0
        fits =
            let m = room in
            let z = long in
            let k = length-take-le p x long in
            let b = ap length (block_all p n x long) in
            record { ploidy = omega arith; room = omega arith }

        pub list_room : BlockFits s.ploidy s.alleles (take s.ploidy x) l 0
        list_room = rw (g.ploidy, g.alleles) fits

        pub list_done : {v : ℕ} {x' l' : List ℕ} → Listed s.ploidy s.alleles (take s.ploidy x) l 0 v x' l' → ListsAll p n l (Ok c) l'
        unfolding filled_paper list_answer over_at
        list_done {v} {x'} {l'} f =
            let y : Listed p n (take p x) l 0 v x' l' = rw (g.ploidy, g.alleles) at f in
            let f : leb (length (flatten (ordering p n))) (length l) ≡ true = le-leb (length (flatten (ordering p n))) (length l) (let m = room in omega arith) in
            let e : c ≡ length (ordering p n) = k.is ∙ sym (length_ordering p n) in
            record { answer = rw (k.within, f, e); row = rw (k.within, f) (y.rows ∙ rw (block_all p n x long)) }

pub ruleset laws = (copy_first, copy_room, copy_turn, copy_end, copy_past, go_first, go_store, go_room, go_turn, go_past, first_room, first_turn, base_room, base_listed, scratch_length, list_some, shape_product, list_short, list_room, list_done)
