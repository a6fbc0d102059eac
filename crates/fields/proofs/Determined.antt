-- Two outcomes that a contract of this crate allows are equal: each can be read back from its paper, so no two have one paper. Assumes nothing.
use Prim.Native.Nat.{ℕ}
use mathlib.Core.Path.{◌≡◌, refl, sym, ◌∙◌}
use mathlib.Core.List.{[], ◌∷◌}
use mathlib.Mathlib.Logic.Function.Defs.{LeftInverse-Injective}
use lib.Dec.{eqb}
use Rattle.std.specs.Prelude.{Option, Some, None, Result, Ok, Err}
use Rattle.text.specs.Pick.{pick}
use Rattle.text.specs.Answer.{Answer, says}
use Rattle.text.specs.declared.range.Range.{Range}
use Rattle.fields.specs.Paper.{place_paper, field_paper, position_paper}
use Rattle.fields.specs.Promises.{Determined}
use Rattle.fields.specs.declared.field.Beyond.{Beyond}
use Rattle.fields.specs.declared.pos.BadPosition.{BadPosition}

-- ---- a place

place_of : Answer → Result Range Beyond
place_of (says n []) = Err (record {})
place_of (says n (a ∷ [])) = Err (record {})
place_of (says n (a ∷ b ∷ l)) = Ok (record { start = a; len = b })

place_back : (x : Result Range Beyond) → place_of (place_paper x) ≡ x
unfolding place_of place_paper
place_back (Ok r) = refl
place_back (Err e) = refl

pub place_paper_injective : (x y : Result Range Beyond) → place_paper x ≡ place_paper y → x ≡ y
place_paper_injective = LeftInverse-Injective place_of place_paper place_back

-- ---- a field's text

text_of : Answer → Result (Option Range) Beyond
text_of (says n []) = pick (eqb n 0) (Ok None) (Err (record {}))
text_of (says n (a ∷ [])) = Err (record {})
text_of (says n (a ∷ b ∷ l)) = Ok (Some (record { start = a; len = b }))

text_back : (x : Result (Option Range) Beyond) → text_of (field_paper x) ≡ x
unfolding text_of field_paper
text_back (Ok (Some r)) = refl
text_back (Ok None) = refl
text_back (Err e) = refl

pub field_paper_injective : (x y : Result (Option Range) Beyond) → field_paper x ≡ field_paper y → x ≡ y
field_paper_injective = LeftInverse-Injective text_of field_paper text_back

-- ---- POS

position_of : Answer → Result (Option ℕ) BadPosition
position_of (says n []) = Ok None
position_of (says n (a ∷ l)) = pick (eqb n 0) (Ok (Some a)) (Err (record { at = a }))

position_back : (x : Result (Option ℕ) BadPosition) → position_of (position_paper x) ≡ x
unfolding position_of position_paper
position_back (Ok (Some n)) = refl
position_back (Ok None) = refl
position_back (Err e) = refl

pub position_paper_injective : (x y : Result (Option ℕ) BadPosition) → position_paper x ≡ position_paper y → x ≡ y
position_paper_injective = LeftInverse-Injective position_of position_paper position_back

-- ---- the promises

pub determined : Determined
determined =
    record {
      place_in = λ s range r r' e e'. place_paper_injective r r' (e ∙ sym e');
      text_in = λ s name range r r' e e'. field_paper_injective r r' (e ∙ sym e');
      field = λ s line name r r' e e'. field_paper_injective r r' (e ∙ sym e');
      read_pos = λ s r r' e e'. position_paper_injective r r' (e ∙ sym e');
    }
