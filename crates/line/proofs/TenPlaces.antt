-- The ten places that are answered are those of the columns: column by column. Assumes nothing.
use Prim.Native.Nat.{ℕ, zero, suc, ◌+◌, ◌*◌, ◌<◌, ◌≤◌}
use mathlib.Core.Path.{◌≡◌, refl, ◌∙◌}
use mathlib.Core.Logic.{⊎_elim}
use mathlib.Core.List.{List, [], ◌∷◌, ◌++◌}
use native.Mathlib.Omega.{arith}
use lib.ListN.{length, get_or, drop, length-append, get_or-append}
use lib.Seq.{drop_at}
use borrow.Author.Tests.{eq-eqb, ne_eqb}
use Rattle.pieces.specs.Pieces.{joined}
use Rattle.pieces.specs.Demands.{start_in}
use Rattle.pieces.proofs.NumberLaws.{start_first, start_later}
use Rattle.line.specs.Line.{leading_places, field_places}
use Rattle.line.specs.Demands.{MayEnd, Lies, TenPlaces}

-- ---- a place among places

lies_first : {a b : ℕ} {places : List ℕ} {x y : ℕ} → a ≡ x → b ≡ y → Lies (a ∷ b ∷ places) 0 x y
lies_first p q = record { starts = p; sized = q }

lies_next : {a b : ℕ} {places : List ℕ} {i x y : ℕ} → Lies places i x y → Lies (a ∷ b ∷ places) (suc i) x y
lies_next {i = i} l =
    let p : 2 * suc i ≡ suc (suc (2 * i)) = omega arith in
    let q : 2 * suc i + 1 ≡ suc (suc (2 * i + 1)) = omega arith in
    record { starts = rw p l.starts; sized = rw q l.sized }

lies_append : (places others : List ℕ) {i x y : ℕ} → 2 * i + 1 < length places → Lies places i x y → Lies (places ++ others) i x y
lies_append places others {i} h l =
    record {
      starts = get_or-append places others 0 (2 * i) (omega arith) ∙ l.starts;
      sized = get_or-append places others 0 (2 * i + 1) h ∙ l.sized;
    }

-- ---- the leading places, column by column

pub leading_none : (n from : ℕ) → leading_places n from [] ≡ []
unfolding leading_places
leading_none n from = refl

pub leading_rest : (from : ℕ) (c : List ℕ) (cs : List (List ℕ)) → leading_places 0 from (c ∷ cs) ≡ from ∷ length (joined 9 (c ∷ cs)) ∷ []
unfolding leading_places
leading_rest from c cs = refl

pub leading_more : (n from : ℕ) (c : List ℕ) (cs : List (List ℕ)) → leading_places (suc n) from (c ∷ cs) ≡ from ∷ length c ∷ leading_places n (from + length c + 1) cs
unfolding leading_places
leading_more n from c cs = refl

-- each of the n leading places is its column's
leading_column : (n from : ℕ) (cs : List (List ℕ)) (i : ℕ) → i < n → i < length cs
    → Lies (leading_places n from cs) i (from + start_in cs i) (length (get_or cs i []))
unfolding leading_places
leading_column n from [] i h l = absurd (omega arith)
leading_column zero from (c ∷ cs) i h l = absurd (omega arith)
leading_column (suc n) from (c ∷ cs) zero h l = lies_first (omega (arith, start_first (c ∷ cs))) refl
leading_column (suc n) from (c ∷ cs) (suc i) h l =
    let e : from + length c + 1 + start_in cs i ≡ from + start_in (c ∷ cs) (suc i) = omega (arith, start_later c cs i) in
    rw (← e) (lies_next (leading_column n (from + length c + 1) cs i (omega arith) (omega arith)))

-- and the place behind them that of the other columns, joined
leading_others : (n from : ℕ) (cs : List (List ℕ)) → n < length cs
    → Lies (leading_places n from cs) n (from + start_in cs n) (length (joined 9 (drop n cs)))
unfolding leading_places
leading_others n from [] l = absurd (omega arith)
leading_others zero from (c ∷ cs) l = lies_first (omega (arith, start_first (c ∷ cs))) refl
leading_others (suc n) from (c ∷ cs) l =
    let e : from + length c + 1 + start_in cs n ≡ from + start_in (c ∷ cs) (suc n) = omega (arith, start_later c cs n) in
    rw (← e) (lies_next (leading_others n (from + length c + 1) cs (omega arith)))

pub leading_length : (n from : ℕ) (cs : List (List ℕ)) → n < length cs → length (leading_places n from cs) ≡ 2 * n + 2
unfolding leading_places
leading_length n from [] l = absurd (omega arith)
leading_length zero from (c ∷ cs) l = refl
leading_length (suc n) from (c ∷ cs) l = let k = leading_length n (from + length c + 1) cs (omega arith) in omega arith

-- where no others are left, there is no place behind them
pub all_length : (n from : ℕ) (cs : List (List ℕ)) → length cs ≡ n → length (leading_places n from cs) ≡ 2 * n
unfolding leading_places
all_length n from [] e = omega arith
all_length zero from (c ∷ cs) e = absurd (omega arith)
all_length (suc n) from (c ∷ cs) e = let k = all_length n (from + length c + 1) cs (omega arith) in omega arith

-- ---- the ten places

module _ (from : ℕ) (cs : List (List ℕ)) (end : ℕ) where
  pub eight_fields : length cs ≡ 8 → field_places from cs end ≡ leading_places 8 from cs ++ end ∷ 0 ∷ end ∷ 0 ∷ []
  unfolding field_places
  eight_fields h = rw (eq-eqb (length cs) 8 h)

  pub ten_fields_lem : 10 ≤ length cs → field_places from cs end ≡ leading_places 9 from cs
  unfolding field_places
  ten_fields_lem h = rw (ne_eqb (length cs) 8 (λ z. omega arith))

module _ (from : ℕ) (cs : List (List ℕ)) where
  lie_eight : length cs ≡ 8 → TenPlaces (field_places from cs (from + length (joined 9 cs))) from cs
  lie_eight h =
      let k = all_length 8 from cs h in
      rw (eight_fields from cs (from + length (joined 9 cs)) h)
      (record {
        ten = simp length-append (omega arith);
        eight = λ i l. lies_append (leading_places 8 from cs) _ (omega arith) (leading_column 8 from cs i (omega arith) (omega arith));
        bare = λ z. drop_at (leading_places 8 from cs) _ 16 (omega arith);
        format = λ z. absurd (omega arith);
        samples = λ z. absurd (omega arith);
      })

  lie_ten : 10 ≤ length cs → TenPlaces (field_places from cs (from + length (joined 9 cs))) from cs
  lie_ten h =
      rw (ten_fields_lem from cs (from + length (joined 9 cs)) h)
      (record {
        ten = leading_length 9 from cs (omega arith);
        eight = λ i l. leading_column 9 from cs i (omega arith) (omega arith);
        bare = λ z. absurd (omega arith);
        format = λ z. leading_column 9 from cs 8 (omega arith) (omega arith);
        samples = λ z. leading_others 9 from cs (omega arith);
      })

  pub places_lie : MayEnd (length cs) → TenPlaces (field_places from cs (from + length (joined 9 cs))) from cs
  places_lie = ⊎_elim lie_eight lie_ten
