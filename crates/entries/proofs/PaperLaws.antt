-- No two answers have one paper, since each can be read back from its own. Assumes nothing.
use Prim.Native.Nat.{ℕ}
use mathlib.Core.Path.{◌≡◌, refl}
use mathlib.Core.List.{[], ◌∷◌}
use mathlib.Mathlib.Logic.Function.Defs.{LeftInverse-Injective}
use lib.Dec.{eqb}
use Rattle.std.specs.Prelude.{Result, Ok, Err}
use Rattle.text.specs.Pick.{pick}
use Rattle.text.specs.Answer.{Answer, says}
use Rattle.text.specs.declared.range.Range.{Range}
use Rattle.entries.specs.Paper.{ends_paper, entry_paper, joined_paper}
use Rattle.entries.specs.declared.entries.WrongEnds.{WrongEnds}
use Rattle.entries.specs.declared.entries.NoEntry.{NoEntry}
use Rattle.entries.specs.declared.entries.NoEntry.TheVariants as N
use Rattle.entries.specs.declared.joined.JoinError.{JoinError}
use Rattle.entries.specs.declared.joined.JoinError.TheVariants as J

pub ends_paper_injective : (x y : Result Unit WrongEnds) → ends_paper x ≡ ends_paper y → x ≡ y
unfolding ends_paper
ends_paper_injective (Ok u) (Ok v) e = refl
ends_paper_injective (Ok u) (Err d) e = cc
ends_paper_injective (Err d) (Ok v) e = cc
ends_paper_injective (Err d) (Err d') e = refl

entry_of : Answer → Result Range NoEntry
entry_of (says n []) = Err (pick (eqb n 10) N.Nothing N.Wrong)
entry_of (says n (a ∷ [])) = Err N.Wrong
entry_of (says n (a ∷ b ∷ l)) = Ok (record { start = a; len = b })

entry_back : (x : Result Range NoEntry) → entry_of (entry_paper x) ≡ x
unfolding entry_of entry_paper
entry_back (Ok r) = refl
entry_back (Err N.Nothing) = refl
entry_back (Err N.Wrong) = refl

pub entry_paper_injective : (x y : Result Range NoEntry) → entry_paper x ≡ entry_paper y → x ≡ y
entry_paper_injective = LeftInverse-Injective entry_of entry_paper entry_back

joined_of : Answer → Result ℕ JoinError
joined_of (says n []) = Err (pick (eqb n 16) J.Wrong J.Short)
joined_of (says n (v ∷ vs)) = Ok v

joined_back : (x : Result ℕ JoinError) → joined_of (joined_paper x) ≡ x
unfolding joined_of joined_paper
joined_back (Ok n) = refl
joined_back (Err J.Wrong) = refl
joined_back (Err J.Short) = refl

pub joined_paper_injective : (x y : Result ℕ JoinError) → joined_paper x ≡ joined_paper y → x ≡ y
joined_paper_injective = LeftInverse-Injective joined_of joined_paper joined_back
