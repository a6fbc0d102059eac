-- An allele without its mark, and a piece: a body holds no mark, and what is before the first mark is a body exactly where the
-- definition reads it as an allele. Assumes nothing.
use Prim.Native.Nat.{ℕ, ◌+◌, ◌<◌}
use mathlib.Core.Path.{◌≡◌, refl, sym, ◌∙◌}
use mathlib.Core.Bool.{Bool, true, false, false≢true}
use mathlib.Core.List.{List, [], ◌∷◌}
use mathlib.Core.Option.{Option, some, none}
use native.Mathlib.Omega.{arith}
use native.Mathlib.Decide.{ℕ_discrete}
use lib.ListN.{length}
use Rattle.text.specs.Pick.{pick}
use Rattle.text.specs.Same.{same}
use Rattle.text.proofs.SameLaws.{same_self, same_is, same_not}
use Rattle.decimal.specs.Decimal.{all_digits, value_of}
use Rattle.decimal.specs.Demands.{Decimal, bare, signed}
use Rattle.decimal.proofs.Digits.{digit_range, digits_cons}
use Rattle.decimal.proofs.Demands.{reads_back}
use Rattle.decimal.proofs.Shortest.{shortest_one}
use Rattle.decimal.proofs.Value.{value_decimal, decimal_value}
use Rattle.allele.specs.Reading.{is_mark, numbered, bodied, allele_in}
use Rattle.allele.specs.Means.{mark_byte, Body, dot, number}
use Rattle.allele.specs.declared.allele.Allele.{Allele}
use Rattle.allele.proofs.PieceLaws.{mark_bar, mark_slash, mark_none, in_bar, in_slash, in_plain}
use Rattle.allele.proofs.CutLaws as C
use Rattle.allele.proofs.CutLaws.{Quiet, no_bar, no_slash}

-- ---- a body

pub digits_quiet : (s : List ℕ) → all_digits s ≡ true → Quiet s
digits_quiet [] e = C.none
digits_quiet (b ∷ s) e =
    let g = digits_cons b s e in
    let r = digit_range b g.0 in
    C.more (mark_none b (λ q. absurd (omega arith)) (λ q. absurd (omega arith))) (digits_quiet s g.1)

pub body_quiet : {t : List ℕ} {a : Allele} → Body t a → Quiet t
body_quiet dot = C.more (mark_none 46 (λ e. absurd (omega arith)) (λ e. absurd (omega arith))) C.none
body_quiet (number (bare {s} g h)) = digits_quiet s g.digits
body_quiet (number (signed {s} g h)) = C.more (mark_none 43 (λ e. absurd (omega arith)) (λ e. absurd (omega arith))) (digits_quiet s g.digits)

pub body_some : {t : List ℕ} {a : Allele} → Body t a → 0 < length t
body_some dot = omega arith
body_some (number (bare g h)) = g.one
body_some (number (signed g h)) = omega arith

-- one digit is a body
pub digit_body : (n : ℕ) (p : Bool) → n < 10 → Body ((48 + n) ∷ []) (record { number = n; missing = false; phased = p })
digit_body n p h = number (value_decimal ((48 + n) ∷ []) n (rw (shortest_one n h) at (reads_back n (omega arith))))

-- a decimal is not the dot
decimal_no_dot : {t : List ℕ} {n : ℕ} → Decimal t n → t ≡ 46 ∷ [] → ⊥
decimal_no_dot (bare g h) e =
    let r = digit_range 46 (digits_cons 46 [] (rw e at g.digits)).0 in
    omega arith
decimal_no_dot (signed g h) e = let z : ◌≡◌ {A = ℕ} 43 46 = cc in omega arith

pub body_bodied : {t : List ℕ} {a : Allele} → Body t a → bodied a.phased t ≡ some a
unfolding bodied numbered
body_bodied dot = rw (same_self (46 ∷ []))
body_bodied (number {t} {n} d) = rw (same_not t (46 ∷ []) (decimal_no_dot d), decimal_value t d)

-- a body, read with a phasing
pub record Bodied (p : Bool) (t : List ℕ) (a : Allele) : Type 0 where
  pub body : Body t a
  pub phasing : a.phased ≡ p

pub bodied_body : (p : Bool) (t : List ℕ) (a : Allele) → bodied p t ≡ some a → Bodied p t a
unfolding bodied numbered
bodied_body p t a e = by (same t (46 ∷ [])) refl e
  where
    valued : (o : Option ℕ) → value_of t ≡ o → numbered p o ≡ some a → Bodied p t a
    valued (some n) v e =
        let q : record { number = n; missing = false; phased = p } ≡ a = cc in
        rw (← q) (record { body = number (value_decimal t n v); phasing = refl })
    valued none v e = let z : ◌≡◌ {A = ℕ} 0 1 = cc in absurd (omega arith)

    by : (x : Bool) → same t (46 ∷ []) ≡ x → pick x (some (record { number = 0; missing = true; phased = p })) (numbered p (value_of t)) ≡ some a → Bodied p t a
    by true s e =
        let q : record { number = 0; missing = true; phased = p } ≡ a = cc in
        rw (← q, same_is t (46 ∷ []) s) (record { body = dot; phasing = refl })
    by false s e = valued (value_of t) refl e

-- a body has every phasing
pub record Phased (p : Bool) (t : List ℕ) : Type 0 where
  pub allele : Allele
  pub reads : bodied p t ≡ some allele

pub phased_body : (p : Bool) {t : List ℕ} {a : Allele} → Body t a → Phased p t
phased_body p dot = record { allele = _; reads = body_bodied (dot {phased = p}) }
phased_body p (number d) = record { allele = _; reads = body_bodied (number {phased = p} d) }

-- so what reads as none with one phasing is no body
pub none_body : (p : Bool) (t : List ℕ) → bodied p t ≡ none → (a : Allele) → Body t a → ⊥
none_body p t e a c = let g = phased_body p c in let z : ◌≡◌ {A = ℕ} 0 1 = cc g.reads in omega arith

pub body_none : (p : Bool) (t : List ℕ) → ((a : Allele) → Body t a → ⊥) → bodied p t ≡ none
body_none p t n = by (bodied p t) refl
  where
    by : (o : Option Allele) → bodied p t ≡ o → bodied p t ≡ none
    by (some a) e = absurd (n a (bodied_body p t a e).body)
    by none e = e

-- ---- a piece

pub mark_is : {b : ℕ} (p : Bool) → b ≡ mark_byte p → is_mark b ≡ true
mark_is true e = mark_bar _ e
mark_is false e = mark_slash _ e

-- a mark is that of a phasing
pub record Mark (b : ℕ) : Type 0 where
  pub phasing : Bool
  pub is : b ≡ mark_byte phasing

pub mark_of : (b : ℕ) → is_mark b ≡ true → Mark b
mark_of b h = by (ℕ_discrete b 124) (ℕ_discrete b 47)
  where
    by : Dec (b ≡ 124) → Dec (b ≡ 47) → Mark b
    by (yes p) q = record { phasing = true; is = p }
    by (no p) (yes q) = record { phasing = false; is = q }
    by (no p) (no q) = absurd (false≢true (sym (mark_none b p q) ∙ h))

-- with its mark a piece is read with that phasing, whatever is implied
pub marked_in : (i p : Bool) {b : ℕ} (t : List ℕ) → b ≡ mark_byte p → allele_in i (b ∷ t) ≡ bodied p t
marked_in i true t m = in_bar i _ t m
marked_in i false t m = in_slash i _ t m

pub marked_allele : (i : Bool) {b : ℕ} {t : List ℕ} {a : Allele} → b ≡ mark_byte a.phased → Body t a → allele_in i (b ∷ t) ≡ some a
marked_allele i {t = t} {a} m c = marked_in i a.phased t m ∙ body_bodied c

-- without one it has the phasing that is implied
pub quiet_allele : (i : Bool) {t : List ℕ} → Quiet t → 0 < length t → allele_in i t ≡ bodied i t
quiet_allele i C.none h = absurd (omega arith)
quiet_allele i (C.more {b} {s} m q) h = in_plain i b s (no_bar b m) (no_slash b m)

-- a piece that is an allele has its mark and a body, or is a body that has the phasing implied
pub data Piece (i : Bool) : ℕ → List ℕ → Allele → Type 0 where
  with_mark : {b : ℕ} {t : List ℕ} {a : Allele} → b ≡ mark_byte a.phased → Body t a → Piece i b t a
  plain : {b : ℕ} {t : List ℕ} {a : Allele} → is_mark b ≡ false → a.phased ≡ i → Body (b ∷ t) a → Piece i b t a

pub allele_piece : (i : Bool) (b : ℕ) (t : List ℕ) (a : Allele) → allele_in i (b ∷ t) ≡ some a → Piece i b t a
allele_piece i b t a e = by (is_mark b) refl
  where
    by : (x : Bool) → is_mark b ≡ x → Piece i b t a
    by true h =
        let k = mark_of b h in
        let c = bodied_body k.phasing t a (sym (marked_in i k.phasing t k.is) ∙ e) in
        let m : b ≡ mark_byte a.phased = rw c.phasing k.is in
        with_mark m c.body
    by false h =
        let c = bodied_body i (b ∷ t) a (sym (in_plain i b t (no_bar b h) (no_slash b h)) ∙ e) in
        plain h c.phasing c.body
