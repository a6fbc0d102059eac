-- The order of genotypes is as asked. Each is one proof over the ploidy. Assumes nothing.
use Prim.Native.Nat.{ℕ, zero, suc, ◌+◌, ◌-◌, ◌*◌, ◌/◌, ◌<◌, ◌≤◌}
use mathlib.Core.Path.{◌≡◌, refl, sym, ap, ◌∙◌, subst}
use mathlib.Core.Logic.{⊎_elim}
use mathlib.Core.List.Memᴰ
use mathlib.Core.List.{List, [], ◌∷◌, ◌++◌, append_assoc, append-nil, Memᴰ}
use native.Mathlib.Omega.{arith}
use native.Mathlib.Nat.{le_of_suc-le-suc, suc-mul, mul-suc}
use lib.ListN.{length, get_or, get_or-append}
use lib.Seq.{take-append_seam}
use Rattle.numbering.specs.Ordering.{followed, ordering}
use Rattle.numbering.specs.Closed.{choose, sum_from, closed_sum}
use Rattle.numbering.specs.Demands.{Genotype, ListsGenotypes, ListsOnce, Counted, InNumberOrder, Begins, OfOne, OfTwo}
use Rattle.numbering.proofs.OrderLaws.{length_ordering, listed, numbered, stands, none, more, rises_genotype, genotype_stands}

mem_at : (gs : List (List ℕ)) (i : ℕ) → i < length gs → Memᴰ (get_or gs i []) gs
mem_at [] i h = absurd (omega arith)
mem_at (g ∷ gs) zero h = Memᴰ.head refl
mem_at (g ∷ gs) (suc i) h = Memᴰ.tail (mem_at gs i (le_of_suc-le-suc h))

at_mem : {g : List ℕ} (gs : List (List ℕ)) → Memᴰ g gs → (i : ℕ) × ((i < length gs) × (get_or gs i [] ≡ g))
at_mem [] m = absurd (Memᴰ.not-nil m)
at_mem {g} (x ∷ gs) m = ⊎_elim (λ e. (0, (omega arith, sym e))) (λ w. let r = at_mem {g = g} gs w in (suc r.0, (let l = r.1.0 in omega arith, r.1.1))) (Memᴰ.cases_cons m)

pub counted : Counted ordering
counted p n = length_ordering p n

pub in_number_order : InNumberOrder ordering
in_number_order = record { under = λ p n g f. (let u = (genotype_stands f).under in let e = length_ordering p n in omega arith); there = λ p n g f. (genotype_stands f).there; back = numbered }

pub lists_once : ListsOnce ordering
lists_once p n i j h l e = sym (numbered p n i h) ∙ ap closed_sum e ∙ numbered p n j l

pub lists_genotypes : ListsGenotypes ordering
lists_genotypes p n g = (to, from)
  where
    to : Memᴰ g (ordering p n) → Genotype p n g
    to m = let r = at_mem (ordering p n) m in subst (Genotype p n) r.1.1 (rises_genotype (listed p n r.0 r.1.0))

    from : Genotype p n g → Memᴰ g (ordering p n)
    from f = Memᴰ.cast (sym (in_number_order.there p n g f)) (mem_at (ordering p n) (closed_sum g) (in_number_order.under p n g f))

-- what more alleles add
abbrev pub Added : ℕ → ℕ → ℕ → Type 0
Added p m n = (rest : List (List ℕ)) × (ordering p n ≡ ordering p m ++ rest)

one_more : (p m n : ℕ) → Added p m n → Added p m (suc n)
unfolding ordering
one_more zero m n r = ([], refl)
one_more (suc p) m n (rest, e) =
    (rest ++ followed n (ordering p (suc n)), ap (λ (l : List (List ℕ)). l ++ followed n (ordering p (suc n))) e ∙ append_assoc (ordering (suc p) m) rest _)

added : (p m d : ℕ) → Added p m (m + d)
added p m zero = let e : m + 0 ≡ m = omega arith in ([], rw e (sym (append-nil _)))
added p m (suc d) = let e : m + suc d ≡ suc (m + d) = omega arith in rw e (one_more p m (m + d) (added p m d))

pub added_to : (p m n : ℕ) → m ≤ n → Added p m n
added_to p m n h = let e : m + (n - m) ≡ n = omega arith in subst (Added p m) e (added p m (n - m))

pub begins : Begins ordering
begins p m n h = let r = added_to p m n h in rw r.1 (take-append_seam (ordering p m) r.0)

-- a genotype of fewer alleles stands at the same place among those of more
pub fewer_at : (p m n i : ℕ) → m ≤ n → i < length (ordering p m) → get_or (ordering p n) i [] ≡ get_or (ordering p m) i []
fewer_at p m n i h l = let r = added_to p m n h in ap (λ (o : List (List ℕ)). get_or o i []) r.1 ∙ get_or-append (ordering p m) r.0 [] i l

-- two alleles
choose_one : (n : ℕ) → choose n 1 ≡ n
unfolding choose
choose_one zero = refl
choose_one (suc n) = let x = choose_one n in omega arith

choose_two : (k : ℕ) → choose (suc k) 2 * 2 ≡ k * (k + 1)
unfolding choose
choose_two zero = refl
choose_two (suc k) = let x = choose_two k in let y = choose_one (suc k) in
    let a = suc-mul k (suc k + 1) in
    let b : k * (suc k + 1) ≡ k * (k + 1) + k = let e : suc k + 1 ≡ suc (k + 1) = omega arith in rw e (mul-suc k (k + 1)) in
    omega arith

sum_two : (j k : ℕ) → closed_sum (j ∷ k ∷ []) ≡ k * (k + 1) / 2 + j
unfolding closed_sum sum_from
sum_two j k =
    let e : j + 1 - 1 ≡ j = omega arith in
    let f : k + 2 - 1 ≡ suc k = omega arith in
    let x = choose_one j in
    let y = choose_two k in
    let z : choose (suc k) 2 ≡ k * (k + 1) / 2 = omega arith in
    rw (e, f) (omega arith)

pub of_two : OfTwo ordering
of_two n j k l h =
    let w : j < suc k = omega arith in
    let s = stands (more {a = k} (more {a = j} (none {n = suc j}) w) h) in
    rw (sum_two j k) at s.there

-- one allele
sum_one : (a : ℕ) → closed_sum (a ∷ []) ≡ a
unfolding closed_sum sum_from
sum_one a =
    let e : a + 1 - 1 ≡ a = omega arith in
    let x = choose_one a in
    rw e (omega arith)

pub of_one : OfOne ordering
of_one n a h = let s = stands (more {a = a} (none {n = suc a}) h) in rw (sum_one a) at s.there
