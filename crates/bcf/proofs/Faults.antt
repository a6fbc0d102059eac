-- Which bytes lay out no list, in the rules' words: vectors are whole entries; of coded ones those before the list's length are codes and
-- those behind it padding; other entries have something else at or behind the first that is negative. Assumes nothing.
use Prim.Native.Nat.{ℕ, zero, suc, ◌+◌, ◌*◌, ◌/◌, ◌≤◌, ◌<◌}
use mathlib.Core.Path.{◌≡◌, refl, ap, ◌∙◌}
use mathlib.Core.Bool.{Bool, true, false, ◌&&◌, and-eq-true_iff}
use mathlib.Core.List.{List, [], ◌∷◌}
use native.Mathlib.Omega.{arith}
use native.Mathlib.Nat.{le_of_suc-le-suc}
use native.Mathlib.Decide.{ℕ_discrete, dec_lt}
use lib.ListN.{length, get_or, drop, length-drop}
use lib.Seq.{get_or-drop}
use lib.Dec.{eqb, ltb}
use borrow.Author.Tests.{lt-ltb, eqb-true, eqb-false, ltb-false}
use Rattle.text.specs.Pick.{pick}
use Rattle.text.proofs.SameLaws.{same_self}
use Rattle.allele.specs.declared.allele.Allele.{Allele}
use Rattle.bcf.specs.Layout.{size, padding, Coded, end, pad, code, Lays}
use Rattle.bcf.specs.declared.width.Width.{Width}
use Rattle.bcf.specs.Reading.{negative, entries_in, codes_in, only_padding, is_vector, readable}
use Rattle.bcf.specs.Demands.{Whole, Faulty, no_code, below_zero, behind, Broken, left_over, faulty, Faults}
use Rattle.bcf.proofs.CodeLaws.{padding_is, code_small}
use Rattle.bcf.proofs.EntryLaws.{count_is, whole}
use Rattle.bcf.proofs.LayoutLaws.{lays_length, lays_entries, readable_lays}
use Rattle.bcf.proofs.VectorLaws.{coded_few}

-- ---- coded entries have no fault

coded_code : {w : Width} {as' : List Allele} {es : List ℕ} → Coded w as' es → (i : ℕ) → i < length as' → get_or es i 0 < negative w
coded_code end i h = absurd (omega arith)
coded_code (pad c) i h = absurd (omega arith)
coded_code {w} (code {a = a} g c) zero h = code_small w a g
coded_code (code g c) (suc i) h = coded_code c i (le_of_suc-le-suc h)

coded_pad : {w : Width} {as' : List Allele} {es : List ℕ} → Coded w as' es → (i : ℕ) → length as' ≤ i → i < length es → get_or es i 0 ≡ padding w
coded_pad end i h l = absurd (omega arith)
coded_pad (pad c) zero h l = refl
coded_pad (pad c) (suc i) h l = coded_pad c i (omega arith) (le_of_suc-le-suc l)
coded_pad (code g c) zero h l = absurd (omega arith)
coded_pad (code g c) (suc i) h l = coded_pad c i (le_of_suc-le-suc h) (le_of_suc-le-suc l)

faultless : {w : Width} {as' : List Allele} {es : List ℕ} → 0 < length as' → Coded w as' es → Faulty w es → ⊥
faultless {w} {as'} {es} s c f = by f
  where
    -- padding is behind the list
    padded : (i : ℕ) → get_or es i 0 ≡ padding w → length as' ≤ i
    padded i e = elim (dec_lt i (length as')) [ yes h ↦ absurd (let k = coded_code c i h in let p = padding_is w in omega arith) | no h ↦ omega arith ]

    by : Faulty w es → ⊥
    by (no_code h) = let k = padded 0 (h 0 (let f = coded_few c in omega arith)) in omega arith
    by (below_zero i l n e) = elim (dec_lt i (length as')) [ yes h ↦ let k = coded_code c i h in omega arith | no h ↦ e (coded_pad c i (omega arith) l) ]
    by (behind i j o l p e) = let k = padded i p in e (coded_pad c j (omega arith) l)

-- ---- entries that are no vector have one

-- the entry behind the codes, where there is one, is negative
after_codes : (w : Width) (es : List ℕ) → length (codes_in w es) < length es → negative w ≤ get_or es (length (codes_in w es)) 0
unfolding codes_in
after_codes w [] h = absurd (omega arith)
after_codes w (e ∷ es) h = by (ltb e (negative w)) refl h (λ l. after_codes w es l)
  where
    by : (t : Bool) → ltb e (negative w) ≡ t → length (pick t (e ∷ codes_in w es) []) < suc (length es)
        → (length (codes_in w es) < length es → negative w ≤ get_or es (length (codes_in w es)) 0)
        → negative w ≤ get_or (e ∷ es) (length (pick t (e ∷ codes_in w es) [])) 0
    by true q l r = r (le_of_suc-le-suc l)
    by false q l r = ltb-false e (negative w) q

-- where not all are padding, one is not
record Other (w : Width) (es : List ℕ) : Type 0 where
  at : ℕ
  there : at < length es
  other : get_or es at 0 ≡ padding w → ⊥

not_only : (w : Width) (es : List ℕ) → only_padding w es ≡ false → Other w es
unfolding only_padding
not_only w [] e = absurd (let z : ◌≡◌ {A = ℕ} 0 1 = cc in omega arith)
not_only w (x ∷ es) e = by (eqb x (padding w)) refl e (λ f. not_only w es f)
  where
    by : (t : Bool) → eqb x (padding w) ≡ t → t && only_padding w es ≡ false → (only_padding w es ≡ false → Other w es) → Other w (x ∷ es)
    by true q f r = let o = r f in let l = o.there in record { at = suc o.at; there = omega arith; other = o.other }
    by false q f r = record { at = 0; there = omega arith; other = eqb-false x (padding w) q }

-- and where all are, each is
each_only : (w : Width) (es : List ℕ) → only_padding w es ≡ true → (i : ℕ) → i < length es → get_or es i 0 ≡ padding w
unfolding only_padding
each_only w [] e i h = absurd (omega arith)
each_only w (x ∷ es) e zero h = eqb-true x (padding w) ((and-eq-true_iff (eqb x (padding w)) (only_padding w es)).0 e).0
each_only w (x ∷ es) e (suc i) h = each_only w es ((and-eq-true_iff (eqb x (padding w)) (only_padding w es)).0 e).1 i (le_of_suc-le-suc h)

no_vector_faulty : (w : Width) (es : List ℕ) → is_vector w es ≡ false → Faulty w es
unfolding is_vector
no_vector_faulty w es e = by (only_padding w (drop c es)) refl
  where
    c : ℕ
    c = length (codes_in w es)

    -- at the first entry behind the codes, or behind that
    found : Other w (drop c es) → Faulty w es
    found o = at_first (ℕ_discrete (get_or es c 0) (padding w))
      where
        fits : c + o.at < length es
        fits = let l = o.there in let d = length-drop c es in omega arith

        differs : get_or es (c + o.at) 0 ≡ padding w → ⊥
        differs q = o.other (get_or-drop c es o.at 0 ∙ q)

        at_first : Dec (get_or es c 0 ≡ padding w) → Faulty w es
        at_first (no n) = let f = fits in below_zero c (omega arith) (after_codes w es (omega arith)) n
        at_first (yes p) = behind c (c + o.at) (later (ℕ_discrete o.at 0)) fits p differs
          where
            later : Dec (o.at ≡ 0) → c < c + o.at
            later (yes z) = absurd (let q : c + o.at ≡ c = omega arith in differs (ap (λ (i : ℕ). get_or es i 0) q ∙ p))
            later (no z) = omega arith

    by : (t : Bool) → only_padding w (drop c es) ≡ t → Faulty w es
    by false q = found (not_only w (drop c es) q)
    by true q = no_code (none (dec_lt 0 c))
      where
        none : Dec (0 < c) → (i : ℕ) → i < length es → get_or es i 0 ≡ padding w
        none (yes h) i l = absurd (let z : true ≡ false = rw (lt-ltb 0 c h, q) at e in let y : ◌≡◌ {A = ℕ} 0 1 = cc in omega arith)
        none (no h) i l = let z : c ≡ 0 = omega arith in each_only w es (rw z at q) i l

-- ---- so of bytes

pub faults : Faults
unfolding Faults Whole readable
faults w v b = (λ f as' n l. unbroken l f, λ none. broken none (ℕ_discrete (length v) (length v / size w * size w)) (is_vector w (entries_in w v)) refl)
  where
    unbroken : {as' : List Allele} {n : ℕ} → Lays w as' n v → Broken w v → ⊥
    unbroken {n = n} l (left_over o) = o n (lays_length l)
    unbroken l (faulty n e f) = faultless l.some l.coded (rw (lays_entries l) at f)

    broken : ((as' : List Allele) (n : ℕ) → Lays w as' n v → ⊥) → Dec (length v ≡ length v / size w * size w) → (t : Bool) → is_vector w (entries_in w v) ≡ t → Broken w v
    broken none (no z) t q = left_over (λ n e. z (rw (e, count_is w n)))
    broken none (yes e) true q = absurd (none _ _ (readable_lays w v (rw (whole w _ v b e, same_self v) q)))
    broken none (yes e) false q = faulty _ e (no_vector_faulty w (entries_in w v) q)
