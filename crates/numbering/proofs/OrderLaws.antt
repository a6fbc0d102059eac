-- The order of genotypes: how many there are, where each stands, and the closed sum of its number. Assumes nothing.
use Prim.Native.Nat.{ℕ, zero, suc, ◌+◌, ◌-◌, ◌<◌, ◌≤◌}
use mathlib.Core.Path.{◌≡◌, refl, sym, ap, ◌∙◌, subst}
use mathlib.Core.List.{List, [], ◌∷◌, ◌++◌}
use mathlib.Core.Logic.{◌⊎◌, ⊎_elim}
use native.Mathlib.Omega.{arith}
use native.Mathlib.Nat.{le_of_suc-le-suc, eq-or-lt_of_le}
use native.Mathlib.Decide.{dec_le}
use lib.ListN.{length, get_or, length-append, get_or-append}
use lib.Seq.{get_or-append-add, get_or-append_seam}
use Rattle.text.proofs.Lists.{by_snoc}
use Rattle.numbering.specs.Ordering.{followed, ordering}
use Rattle.numbering.specs.Closed.{choose, how_many, sum_from, closed_sum}
use Rattle.numbering.specs.Demands.{Genotype}

-- ---- each followed by an allele

pub length_followed : (a : ℕ) (gs : List (List ℕ)) → length (followed a gs) ≡ length gs
unfolding followed
length_followed a [] = refl
length_followed a (g ∷ gs) = ap suc (length_followed a gs)

pub get_d_followed : (a : ℕ) (gs : List (List ℕ)) (i : ℕ) → i < length gs → get_or (followed a gs) i [] ≡ get_or gs i [] ++ a ∷ []
unfolding followed
get_d_followed a [] i h = absurd (omega arith)
get_d_followed a (g ∷ gs) zero h = refl
get_d_followed a (g ∷ gs) (suc i) h = get_d_followed a gs i (le_of_suc-le-suc h)

-- ---- binomials

choose_over : (n k : ℕ) → n < k → choose n k ≡ 0
unfolding choose
choose_over n zero h = absurd (omega arith)
choose_over zero (suc k) h = refl
choose_over (suc n) (suc k) h =
    let x = choose_over n k (omega arith) in
    let y = choose_over n (suc k) (omega arith) in
    omega arith

-- the counts by their own recursion, over the ploidy and the alleles
pub count_none : (n : ℕ) → how_many 0 n ≡ 1
unfolding how_many choose
count_none n = refl

pub count_empty : (p : ℕ) → how_many (suc p) 0 ≡ 0
unfolding how_many
count_empty p = choose_over (0 + suc p - 1) (suc p) (omega arith)

pub count_more : (p a : ℕ) → how_many (suc p) (suc a) ≡ how_many (suc p) a + how_many p (suc a)
unfolding how_many choose
count_more p a =
    let e : suc a + suc p - 1 ≡ suc (a + p) = omega arith in
    let f : a + suc p - 1 ≡ a + p = omega arith in
    let g : suc a + p - 1 ≡ a + p = omega arith in
    rw (e, f, g) (omega arith)

-- how many there are: (alleles + ploidy - 1 over ploidy)
pub length_ordering : (p n : ℕ) → length (ordering p n) ≡ how_many p n
unfolding ordering
length_ordering zero n = sym (count_none n)
length_ordering (suc p) zero = sym (count_empty p)
length_ordering (suc p) (suc a) =
    let x = length_ordering (suc p) a in
    let y = length_ordering p (suc a) in
    let z = length_followed a (ordering p (suc a)) in
    length-append (ordering (suc p) a) _ ∙ (let w = count_more p a in omega arith)

-- ---- genotypes, allele by allele from the last

pub data Rises : ℕ → ℕ → List ℕ → Type 0 where
  none : {n : ℕ} → Rises 0 n []
  more : {p n a : ℕ} {g : List ℕ} → Rises p (suc a) g → a < n → Rises (suc p) n (g ++ a ∷ [])

pub rises_ploidy : {p n : ℕ} {g : List ℕ} → Rises p n g → length g ≡ p
rises_ploidy none = refl
rises_ploidy (more {p} {n} {a} {g} r h) = let e = rises_ploidy r in length-append g (a ∷ []) ∙ omega arith

-- with more alleles
pub rises_wider : {p m n : ℕ} {g : List ℕ} → m ≤ n → Rises p m g → Rises p n g
rises_wider l none = none
rises_wider {n = n} l (more {a = a} r h) = let w : a < n = omega arith in more r w

get_d_front : (g : List ℕ) (a i : ℕ) → i < length g → get_or (g ++ a ∷ []) i 0 ≡ get_or g i 0
get_d_front g a i h = get_or-append g (a ∷ []) 0 i h

get_d_last : (g : List ℕ) (a i : ℕ) → i ≡ length g → get_or (g ++ a ∷ []) i 0 ≡ a
get_d_last g a i e = rw e (get_or-append_seam g a [] 0)

length_snoc : (g : List ℕ) (a : ℕ) → length (g ++ a ∷ []) ≡ length g + 1
length_snoc g a = length-append g (a ∷ [])

last_or_front : (i n : ℕ) → i < n + 1 → (i ≡ n) ⊎ (i < n)
last_or_front i n h = eq-or-lt_of_le (omega arith)

pub rises_genotype : {p n : ℕ} {g : List ℕ} → Rises p n g → Genotype p n g
rises_genotype none = record { ploidy = refl; below = λ i h. absurd (omega arith); order = λ i h. absurd (omega arith) }
rises_genotype (more {p} {n} {a} {g} r h) =
    let f = rises_genotype r in
    let l = length_snoc g a in
    record {
      ploidy = rises_ploidy (more r h);
      below = λ i w. ⊎_elim (λ e. rw (get_d_last g a i e) h) (λ u. rw (get_d_front g a i u) (let z = f.below i u in omega arith)) (last_or_front i (length g) (omega arith));
      order = λ i w. ⊎_elim
          (λ e. rw (get_d_front g a i (omega arith), get_d_last g a (suc i) e) (let z = f.below i (omega arith) in omega arith))
          (λ u. rw (get_d_front g a i (omega arith), get_d_front g a (suc i) u) (f.order i u))
          (last_or_front (suc i) (length g) (omega arith));
    }

-- no allele is greater than a later one
pub later : {p n : ℕ} {g : List ℕ} → Genotype p n g → (i d : ℕ) → i + d < length g → get_or g i 0 ≤ get_or g (i + d) 0
later {g = g} f i zero h = let e : i + 0 ≡ i = omega arith in rw e (omega arith)
later {g = g} f i (suc d) h =
    let e : i + suc d ≡ suc (i + d) = omega arith in
    let x = later f i d (omega arith) in
    let y = f.order (i + d) (omega arith) in
    rw e (omega arith)

pub genotype_front : {p n a : ℕ} (g : List ℕ) → Genotype p n (g ++ a ∷ []) → Genotype (length g) (suc a) g
genotype_front {a = a} g f =
    let l = length_snoc g a in
    record {
      ploidy = refl;
      below = λ i h.
          let d : i + (length g - i) ≡ length g = omega arith in
          let x = later f i (length g - i) (omega arith) in
          let y = get_d_last g a (i + (length g - i)) d in
          let z = get_d_front g a i h in
          omega arith;
      order = λ i h.
          let x = f.order i (omega arith) in
          let y = get_d_front g a i (omega arith) in
          let z = get_d_front g a (suc i) h in
          omega arith;
    }

pub genotype_rises : (g : List ℕ) (p n : ℕ) → Genotype p n g → Rises p n g
genotype_rises = by_snoc (λ g. (p n : ℕ) → Genotype p n g → Rises p n g) nil snoc
  where
    nil : (p n : ℕ) → Genotype p n [] → Rises p n []
    nil p n f = subst (λ (q : ℕ). Rises q n []) f.ploidy none

    snoc : (g : List ℕ) (a : ℕ) → ((p n : ℕ) → Genotype p n g → Rises p n g) → (p n : ℕ) → Genotype p n (g ++ a ∷ []) → Rises p n (g ++ a ∷ [])
    snoc g a ih p n f =
        let l = length_snoc g a in
        let e : suc (length g) ≡ p = let z = f.ploidy in omega arith in
        let h : a < n = let z = f.below (length g) (omega arith) in let y = get_d_last g a (length g) refl in omega arith in
        subst (λ (q : ℕ). Rises q n (g ++ a ∷ [])) e (more (ih (length g) (suc a) (genotype_front g f)) h)

-- ---- the number

sum_snoc : (m : ℕ) (g : List ℕ) (a : ℕ) → sum_from m (g ++ a ∷ []) ≡ sum_from m g + choose (a + (m + length g) - 1) (m + length g)
unfolding sum_from
sum_snoc m [] a = let e : m + 0 ≡ m = omega arith in rw e (omega arith)
sum_snoc m (k ∷ g) a =
    let e : m + suc (length g) ≡ suc m + length g = omega arith in
    rw e (let x = sum_snoc (suc m) g a in omega arith)

pub number_none : closed_sum [] ≡ 0
unfolding closed_sum sum_from
number_none = refl

-- the last allele counts the genotypes of the same ploidy over the alleles below it
pub number_snoc : (g : List ℕ) (a : ℕ) → closed_sum (g ++ a ∷ []) ≡ closed_sum g + how_many (suc (length g)) a
unfolding closed_sum how_many
number_snoc g a = let e : 1 + length g ≡ suc (length g) = omega arith in rw e at (sum_snoc 1 g a)

-- ---- where each stands

-- an index of the genotypes of ploidy p + 1 over a + 1 alleles is one over a alleles, or, past them, one of ploidy p
place : (P : ℕ → List ℕ → Type 0) (p a : ℕ)
    → ((i : ℕ) → i < length (ordering (suc p) a) → P i (get_or (ordering (suc p) a) i []))
    → ((j : ℕ) → j < length (ordering p (suc a)) → P (length (ordering (suc p) a) + j) (get_or (ordering p (suc a)) j [] ++ a ∷ []))
    → (i : ℕ) → i < length (ordering (suc p) (suc a)) → P i (get_or (ordering (suc p) (suc a)) i [])
unfolding ordering
place P p a front back i h = by (dec_le (length (ordering (suc p) a)) i)
  where
    by : Dec (length (ordering (suc p) a) ≤ i) → P i (get_or (ordering (suc p) a ++ followed a (ordering p (suc a))) i [])
    by (no z) = let l : i < length (ordering (suc p) a) = omega arith in rw (get_or-append (ordering (suc p) a) (followed a (ordering p (suc a))) [] i l) (front i l)
    by (yes l) =
        let j = i - length (ordering (suc p) a) in
        let e : i ≡ length (ordering (suc p) a) + j = omega arith in
        let w = length_followed a (ordering p (suc a)) in
        let v = length-append (ordering (suc p) a) (followed a (ordering p (suc a))) in
        let u : j < length (ordering p (suc a)) = omega arith in
        subst (λ (k : ℕ). P k (get_or (ordering (suc p) a ++ followed a (ordering p (suc a))) k [])) (sym e)
        (rw (get_or-append-add (ordering (suc p) a) (followed a (ordering p (suc a))) j [], get_d_followed a (ordering p (suc a)) j u) (back j u))

-- what is listed is a genotype
pub listed : (p n i : ℕ) → i < length (ordering p n) → Rises p n (get_or (ordering p n) i [])
unfolding ordering
listed zero n zero h = none
listed zero n (suc i) h = absurd (omega arith)
listed (suc p) zero i h = absurd (omega arith)
listed (suc p) (suc a) i h =
    place (λ i g. Rises (suc p) (suc a) g) p a
    (λ i l. rises_wider (omega arith) (listed (suc p) a i l))
    (λ j l. more (listed p (suc a) j l) (omega arith))
    i h

-- its number is its index
pub numbered : (p n i : ℕ) → i < length (ordering p n) → closed_sum (get_or (ordering p n) i []) ≡ i
unfolding ordering
numbered zero n zero h = number_none
numbered zero n (suc i) h = absurd (omega arith)
numbered (suc p) zero i h = absurd (omega arith)
numbered (suc p) (suc a) i h =
    place (λ i g. closed_sum g ≡ i) p a
    (numbered (suc p) a)
    (λ j l.
    let x = numbered p (suc a) j l in
    let y = rises_ploidy (listed p (suc a) j l) in
    let z = number_snoc (get_or (ordering p (suc a)) j []) a in
    let w : how_many (suc (length (get_or (ordering p (suc a)) j []))) a ≡ length (ordering (suc p) a) = rw y (sym (length_ordering (suc p) a)) in
    omega arith)
    i h

-- every genotype stands at its number
pub record Stands (p n : ℕ) (g : List ℕ) : Type 0 where
  pub under : closed_sum g < how_many p n
  pub there : get_or (ordering p n) (closed_sum g) [] ≡ g

pub stands : {p n : ℕ} {g : List ℕ} → Rises p n g → Stands p n g
unfolding ordering
stands {n = n} none = record { under = let x = number_none in let y = count_none n in omega arith; there = rw number_none refl }
stands (more {p} {n} {a} {g} r h) = up (stands r) n h
  where
    l : length g ≡ p
    l = rises_ploidy r

    number : closed_sum (g ++ a ∷ []) ≡ length (ordering (suc p) a) + closed_sum g
    number = let x = number_snoc g a in let y : how_many (suc (length g)) a ≡ length (ordering (suc p) a) = rw l (sym (length_ordering (suc p) a)) in omega arith

    top : Stands p (suc a) g → Stands (suc p) (suc a) (g ++ a ∷ [])
    top s =
        let x = length_ordering (suc p) a in
        let y = count_more p a in
        let u : closed_sum g < length (ordering p (suc a)) = let z = length_ordering p (suc a) in omega arith in
        record {
          under = let m = number in omega arith;
          there = rw (number, get_or-append-add (ordering (suc p) a) (followed a (ordering p (suc a))) (closed_sum g) [], get_d_followed a (ordering p (suc a)) (closed_sum g) u, s.there) refl;
        }

    up : Stands p (suc a) g → (n : ℕ) → a < n → Stands (suc p) n (g ++ a ∷ [])
    up t zero w = absurd (omega arith)
    up t (suc n) w = ⊎_elim
        (λ e. subst (λ (k : ℕ). Stands (suc p) (suc k) (g ++ a ∷ [])) e (top t))
        (λ u.
        let s = up t n u in
        let y = count_more p n in
        let z = length_ordering (suc p) n in
        record { under = omega arith; there = rw (get_or-append (ordering (suc p) n) (followed n (ordering p (suc n))) [] (closed_sum (g ++ a ∷ [])) (omega arith)) s.there })
        (last_or_front a n (omega arith))

pub genotype_stands : {p n : ℕ} {g : List ℕ} → Genotype p n g → Stands p n g
genotype_stands {p} {n} {g} f = stands (genotype_rises g p n f)
