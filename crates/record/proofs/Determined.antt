-- Two outcomes that a contract of this crate allows are equal: an ending can be read back from its number, a record from its ending and
-- its numbers. Assumes nothing.
use Prim.Native.Nat.{ℕ}
use mathlib.Core.Path.{◌≡◌, refl, sym, ap, ◌∙◌}
use mathlib.Core.List.{List, [], ◌∷◌}
use mathlib.Mathlib.Logic.Function.Defs.{LeftInverse-Injective}
use lib.ListN.{get_or}
use Rattle.record.specs.Ending as Endings
use Rattle.record.specs.Ending.{ending_number}
use Rattle.record.specs.Paper.{ending_of, record_numbers, record_with}
use Rattle.record.specs.Promises.{MakesRecord, Determined}
use Rattle.record.specs.declared.ending.Ending.{Ending}
use Rattle.record.specs.declared.ending.Ending.TheVariants as E
use Rattle.record.specs.declared.place.Record.{Record}
use Rattle.record.proofs.EndingLaws.{ending_known}

-- ---- how a line ended

pub declared_by : ℕ → Ending
declared_by k = get_or (E.Nothing ∷ E.Feed ∷ []) k E.ReturnFeed

pub ending_back : (e : Ending) → declared_by (ending_number (ending_of e)) ≡ e
unfolding declared_by ending_number
ending_back E.Nothing = refl
ending_back E.Feed = refl
ending_back E.ReturnFeed = refl

pub ending_injective : (e f : Ending) → ending_of e ≡ ending_of f → e ≡ f
ending_injective = LeftInverse-Injective (λ (x : Endings.Ending). declared_by (ending_number x)) ending_of ending_back

pub same_ending : (e f : Ending) → ending_number (ending_of e) ≡ ending_number (ending_of f) → e ≡ f
same_ending e f h = ending_injective e f (ending_known (ending_of e) (ending_of f) h)

-- ---- a record

pub record_back : (r : Record) → record_with r.ending (record_numbers r) ≡ r
unfolding record_with record_numbers
record_back r = refl

-- one that is made is the record with its ending and its numbers
pub made_is : {ending : Ending} {numbers : List ℕ} {r : Record} → MakesRecord ending numbers r → r ≡ record_with ending numbers
made_is {r = r} (p, q) = sym (record_back r) ∙ ap (λ (e : Ending). record_with e (record_numbers r)) p ∙ ap (record_with _) q

pub form_injective : (r r' : Record) → r.ending ≡ r'.ending → record_numbers r ≡ record_numbers r' → r ≡ r'
form_injective r r' p q = made_is (p, q) ∙ record_back r'

pub determined : Determined
determined =
    record {
      size = λ ending r r' p q. p ∙ sym q;
      by_size = λ n r r' p q. ending_injective r r' (p ∙ sym q);
      place = λ line name r r' p q. p ∙ sym q;
      ending = λ line r r' p q. p ∙ sym q;
      numbers = λ line r r' p q. p ∙ sym q;
      new = λ ending numbers r r' p q. form_injective r r' (p.0 ∙ sym q.0) (p.1 ∙ sym q.1);
    }
