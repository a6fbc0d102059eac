-- The promise of each public function of this crate, by its name, and that each determines the outcome. Assumes nothing.
use Rattle.std.specs.Prelude.{ℕ, ◌≡◌, Bool, List, Result}
use Rattle.text.specs.Outcome.{OneAnswer, OneOutcome}
use Rattle.listing.specs.Drive.{start, Drives}
use Rattle.listing.specs.Ask.{Asks}
use Rattle.listing.specs.declared.ask.Ask.{Ask}
use Rattle.listing.specs.declared.ask.Beyond.{Beyond}
use Rattle.listing.specs.declared.drive.State.{State}

abbrev pub BeginsListing : State → Type 0
BeginsListing r = r ≡ start

-- two outcomes over a buffer and an output are equal: the answer, and what is left in each
abbrev pub OneAsking : (Result Ask Beyond → List ℕ → List ℕ → Type 0) → Type 0
OneAsking allows = (r r' : Result Ask Beyond) (b b' l l' : List ℕ) → allows r b l → allows r' b' l' → (r ≡ r') × (b ≡ b') × (l ≡ l')

pub record Determined : Type 0 where
  pub first : OneAnswer BeginsListing
  pub drive : (w : List ℕ) (last : Bool) (s : State) (l : List ℕ) → OneOutcome (Drives last w s l)
  pub ask_next : (b : List ℕ) (end : ℕ) (last : Bool) (s : State) (l : List ℕ) → OneAsking (Asks last end s b l)
