-- Two lists with one permitted spelling are one list: what stands before the first mark is an allele's number or `.`, which no other
-- allele has, and so on. One list has one shortest spelling under any two file formats: the bare one where that is permitted. Assumes
-- nothing.
use Prim.Native.Nat.{ℕ, ◌<◌}
use mathlib.Core.Path.{◌≡◌, refl, sym, ap, ◌∙◌}
use mathlib.Core.Bool.{Bool, true, false}
use mathlib.Core.List.{List, [], ◌∷◌, ◌++◌}
use native.Mathlib.Omega.{arith}
use lib.ListN.{length}
use lib.Seq.{drop_at}
use Rattle.decimal.specs.Demands.{Plain}
use Rattle.decimal.proofs.Digits.{digit_range, digits_cons}
use Rattle.allele.specs.Reading.{head_of}
use Rattle.allele.specs.Means.{mark_byte, all_phased}
use Rattle.allele.specs.declared.allele.Allele.{Allele}
use Rattle.allele.proofs.PieceLaws.{mark_none, head_none, head_mark}
use Rattle.allele.proofs.BodyLaws.{digits_quiet, mark_is}
use Rattle.allele.proofs.CutLaws as C
use Rattle.allele.proofs.CutLaws.{Quiet, head_quiet}
use Rattle.spelling.specs.Permitted.{Plainly, dot, number, Following, none, more, Permitted, bare, marked, TheShortest}
use Rattle.spelling.proofs.Shortest.{one_text_lem, OneOfTwo, is_bare, is_marked, one_of_two, shortest_bare, permitted_sound}

-- ---- one allele

same_allele : (a b : Allele) → a.number ≡ b.number → a.missing ≡ b.missing → a.phased ≡ b.phased → a ≡ b
same_allele a b p q r = λ i. record { number = p i; missing = q i; phased = r i }

plainly_some : {a : Allele} {s : List ℕ} → Plainly a s → 0 < length s
plainly_some (dot m n) = omega arith
plainly_some (number m p) = p.spelled.one

plainly_quiet : {a : Allele} {s : List ℕ} → Plainly a s → Quiet s
plainly_quiet (dot m n) = C.more (mark_none 46 (λ e. absurd (omega arith)) (λ e. absurd (omega arith))) C.none
plainly_quiet (number {s} m p) = digits_quiet s p.spelled.digits

plain_no_dot : {s : List ℕ} {n : ℕ} → Plain s n → s ≡ 46 ∷ [] → ⊥
plain_no_dot p e = let r = digit_range 46 (digits_cons 46 [] (rw e at p.spelled.digits)).0 in omega arith

-- one text is that of one number, or of none
plainly_one : {a b : Allele} {s u : List ℕ} → Plainly a s → Plainly b u → s ≡ u → (a.number ≡ b.number) × (a.missing ≡ b.missing)
plainly_one (dot m n) (dot m₂ n₂) e = (n ∙ sym n₂, m ∙ sym m₂)
plainly_one (dot m n) (number m₂ p) e = absurd (plain_no_dot p (sym e))
plainly_one (number m p) (dot m₂ n) e = absurd (plain_no_dot p e)
plainly_one (number m p) (number m₂ q) e = (sym p.spelled.value ∙ rw e q.spelled.value, m ∙ sym m₂)

mark_one : (p q : Bool) → mark_byte p ≡ mark_byte q → p ≡ q
mark_one true true e = refl
mark_one true false e = absurd (omega arith)
mark_one false true e = absurd (omega arith)
mark_one false false e = refl

-- ---- the alleles after the first

following_head : {as' : List Allele} {t : List ℕ} → Following as' t → head_of t ≡ []
following_head none = head_none
following_head (more {b} {a} m p f) = head_mark b _ (mark_is a.phased m)

-- an allele without its mark, and those after it, are cut in one way
cut_one : {a b : Allele} {as' bs : List Allele} (s t s₂ t₂ : List ℕ) → Plainly a s → Following as' t → Plainly b s₂ → Following bs t₂ → s ++ t ≡ s₂ ++ t₂
    → (s ≡ s₂) × (t ≡ t₂)
cut_one s t s₂ t₂ p f q g e =
    let h : s ≡ s₂ = sym (head_quiet t (plainly_quiet p) (following_head f)) ∙ ap head_of e ∙ head_quiet t₂ (plainly_quiet q) (following_head g) in
    (h, sym (drop_at s t (length s) refl) ∙ rw e (drop_at s₂ t₂ (length s) (ap length (sym h))))

pub following_one : {as' bs : List Allele} {t u : List ℕ} → Following as' t → Following bs u → t ≡ u → as' ≡ bs
following_one none none e = refl
following_one none (more m p f) e = let z : ◌≡◌ {A = ℕ} 0 1 = cc in absurd (omega arith)
following_one (more m p f) none e = let z : ◌≡◌ {A = ℕ} 0 1 = cc in absurd (omega arith)
following_one (more {b} {a} {s = s} {t} m p f) (more {b = b₂} {a = a₂} {s = s₂} {t = t₂} m₂ p₂ f₂) e =
    let x : b ≡ b₂ = cc in
    let y : s ++ t ≡ s₂ ++ t₂ = cc in
    let c = cut_one s t s₂ t₂ p f p₂ f₂ y in
    let n = plainly_one p p₂ c.0 in
    let h = same_allele a a₂ n.0 n.1 (mark_one _ _ (sym m ∙ x ∙ m₂)) in
    let r = following_one f f₂ c.1 in
    cc

-- ---- the list

-- a text that begins with a mark is not one without
bare_marked : {a : Allele} {as' bs : List Allele} (s t : List ℕ) {u : List ℕ} → Plainly a s → Following as' t → Following bs u → s ++ t ≡ u → ⊥
bare_marked s t p f g e =
    let h = sym (head_quiet t (plainly_quiet p) (following_head f)) ∙ ap head_of e ∙ following_head g in
    let n = plainly_some p in
    omega (arith, ap length h)

pub permitted_one : {late late₂ : Bool} {as' bs : List Allele} {t u : List ℕ} → Permitted late as' t → Permitted late₂ bs u → t ≡ u → as' ≡ bs
permitted_one (bare {a} {s = s} {t} i p f) (bare {a = a₂} {s = s₂} {t = t₂} i₂ p₂ f₂) e =
    let c = cut_one s t s₂ t₂ p f p₂ f₂ e in
    let n = plainly_one p p₂ c.0 in
    let r = following_one f f₂ c.1 in
    let h = same_allele a a₂ n.0 n.1 (i ∙ ap all_phased r ∙ sym i₂) in
    cc
permitted_one (bare {s = s} {t} i p f) (marked l m p₂ f₂) e = absurd (bare_marked s t p f (more m p₂ f₂) e)
permitted_one (marked l m p f) (bare {s = s} {t} i p₂ f₂) e = absurd (bare_marked s t p₂ f₂ (more m p f) (sym e))
permitted_one (marked l m p f) (marked l₂ m₂ p₂ f₂) e = following_one (more m p f) (more m₂ p₂ f₂) e

-- ---- one list, under two file formats

-- both are the bare spelling where that is permitted, else the marked one
pub shortest_one : (late late₂ : Bool) (as' : List Allele) {t u : List ℕ} → TheShortest (Permitted late as') t → TheShortest (Permitted late₂ as') u → t ≡ u
shortest_one late late₂ [] p q = absurd (elim p.has [ ])
shortest_one late late₂ (a ∷ as') {t} {u} p q = by (one_of_two p.has) (one_of_two q.has)
  where
    implied : a.phased ≡ all_phased as' → t ≡ u
    implied e =
        let h = permitted_sound p.has in
        one_text_lem p (shortest_bare late a as' h e) ∙ one_text_lem (shortest_bare late₂ a as' h e) q

    by : OneOfTwo late a as' t → OneOfTwo late₂ a as' u → t ≡ u
    by (is_bare e f) w = implied e
    by (is_marked l f) (is_bare e g) = implied e
    by (is_marked l f) (is_marked k g) = f ∙ sym g
