-- What is told of a record and of its old form: the numbers of a list one by one, beside the ending. Assumes nothing.
use Prim.Native.Nat.{ℕ, ◌<◌, ◌≤◌}
use mathlib.Core.Path.{◌≡◌, refl, sym, ap, ◌∙◌}
use mathlib.Core.List.{List, [], ◌∷◌}
use lib.ListN.{length, get_or}
use borrow.Author.Tests.{le-leb, lt-leb}
use Rattle.std.specs.Prelude.{Result, Ok}
use Rattle.text.specs.Answer.{says}
use Rattle.record.specs.Ending.{ending_number, ending_by}
use Rattle.record.specs.Paper.{ending_of, record_places}
use Rattle.record.specs.Promises.{SizesEnding, NamesEnding, GivesEnding, GivesNumbers, MakesRecord}
use Rattle.record.specs.declared.ending.Ending.{Ending}
use Rattle.record.specs.declared.ending.Ending.TheVariants as E
use Rattle.record.specs.declared.place.Record.{Record}
use Rattle.record.specs.Ending as Endings
use Rattle.record.proofs.EndingLaws.{ending_told}
use Rattle.record.proofs.NumberLaws.{eleven, twenty, places_with}
use Rattle.forms.specs.Form.{widen_answer, narrow_answer}
use Rattle.forms.specs.Paper.{wide_places, widened_paper, narrowed_paper}
use Rattle.forms.specs.Promises as Forms
use Rattle.forms.specs.declared.wide.Wide.{Wide}
use Rattle.forms.specs.declared.turn.NotMade.{NotMade}
use Rattle.forms.proofs.CaseLaws.{widened_form, narrowed_record}
use Rattle.exports.specs.Told.{Tells}
use Rattle.exports.specs.Places.{widened_answer, narrowed_answer}
use Rattle.exports.proofs.ToldLaws.{told_case}

module _ {r : ℕ} {l l' : List ℕ} where
  pub wide_told : (w : Wide) (p : List ℕ) {x : Ending} {size : ℕ} → length p ≡ 20 → Forms.GivesEnding w x → SizesEnding x size → Forms.GivesPlaces w p
      → Tells (says 0 (size ∷ get_or p 0 0 ∷ get_or p 1 0 ∷ get_or p 2 0 ∷ get_or p 3 0 ∷ get_or p 4 0 ∷ get_or p 5 0 ∷ get_or p 6 0 ∷ get_or p 7 0 ∷ get_or p 8 0 ∷ get_or p 9 0 ∷ get_or p 10 0 ∷ get_or p 11 0 ∷ get_or p 12 0 ∷ get_or p 13 0 ∷ get_or p 14 0 ∷ get_or p 15 0 ∷ get_or p 16 0 ∷ get_or p 17 0 ∷ get_or p 18 0 ∷ get_or p 19 0 ∷ [])) l r l'
      → Tells (widened_paper (Ok w)) l r l'
  wide_told w p {x} {size} n e s g t =
      let d : ending_number (ending_of w.ending) ≡ size = sym (ending_told {x = x} s e) in
      rw (widened_form {x = Ok w} refl, d, ← g, ← twenty p n) t

  pub record_told : (line : Record) (n : List ℕ) {x : Ending} {size : ℕ} → length n ≡ 11 → GivesEnding line x → SizesEnding x size → GivesNumbers line n
      → Tells (says 0 (size ∷ get_or n 0 0 ∷ get_or n 1 0 ∷ get_or n 2 0 ∷ get_or n 3 0 ∷ get_or n 4 0 ∷ get_or n 5 0 ∷ get_or n 6 0 ∷ get_or n 7 0 ∷ get_or n 8 0 ∷ get_or n 9 0 ∷ get_or n 10 0 ∷ [])) l r l'
      → Tells (narrowed_paper (Ok line)) l r l'
  record_told line n {x} {size} k e s g t =
      let d : ending_number (ending_of line.ending) ≡ size = sym (ending_told {x = x} s e) in
      rw (narrowed_record {x = Ok line} refl, d, ← g, ← eleven n k) t

-- ---- the entries

-- an ending by its number
named : {x y : Ending} {m n : ℕ} → NamesEnding m x → m ≡ n → y ≡ x → ending_of y ≡ ending_by n
named e q f = ap (λ (z : Ending). ending_of z) f ∙ e ∙ ap ending_by q

module _ (n : ℕ) (numbers : List ℕ) {r : ℕ} {l l' : List ℕ} where
  pub widen_none : 2 < n → Tells (says 32 []) l r l' → Tells (widened_answer n numbers) l r l'
  unfolding widened_answer
  widen_none h t = rw (lt-leb _ _ h) t

  pub widen_told : {m : ℕ} {x : Ending} (y : Result Wide NotMade) (line : Record) → n ≤ 2 → m ≡ n → NamesEnding m x → MakesRecord x numbers line → Forms.WidensRecord line y
      → Tells (widened_paper y) l r l' → Tells (widened_answer n numbers) l r l'
  unfolding widened_answer
  widen_told {x = x} y line h q e k w t =
      rw (le-leb _ _ h)
      (told_case (sym (w ∙ ap (λ (z : Endings.Ending). widen_answer z (record_places line)) (named {x = x} {y = line.ending} e q k.0) ∙ ap (widen_answer (ending_by n)) (places_with E.Nothing line k.1))) t)

module _ (n : ℕ) (places : List ℕ) {r : ℕ} {l l' : List ℕ} where
  pub narrow_none : 2 < n → Tells (says 32 []) l r l' → Tells (narrowed_answer n places) l r l'
  unfolding narrowed_answer
  narrow_none h t = rw (lt-leb _ _ h) t

  pub narrow_told : {m : ℕ} {x : Ending} (y : Result Record NotMade) (wide : Wide) → n ≤ 2 → m ≡ n → NamesEnding m x → Forms.MakesWide x places wide → Forms.NarrowsWide wide y
      → Tells (narrowed_paper y) l r l' → Tells (narrowed_answer n places) l r l'
  unfolding narrowed_answer
  narrow_told {x = x} y wide h q e k w t =
      rw (le-leb _ _ h)
      (told_case (sym (w ∙ ap (λ (z : Endings.Ending). narrow_answer z (wide_places wide)) (named {x = x} {y = wide.ending} e q k.0) ∙ ap (narrow_answer (ending_by n)) k.1)) t)

pub ruleset laws = (widen_none, widen_told, narrow_none, narrow_told)
