-- Any two outcomes that the contract of this crate allows are equal: both are one number. Assumes nothing.
use mathlib.Core.Path.{sym, ◌∙◌}
use Rattle.words.specs.Promises.{Determined}

pub determined : Determined
determined = record { find_byte = λ b s from r r' e e'. e ∙ sym e' }
