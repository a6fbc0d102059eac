-- Any two outcomes that a contract of this crate allows are equal: each says what the answer is. Assumes nothing.
use mathlib.Core.Path.{sym, ◌∙◌}
use Rattle.masks.specs.Promises.{Determined}

pub determined : Determined
determined = record { mask = λ a b s at r r' e e'. e ∙ sym e'; low = λ m r r' e e'. e ∙ sym e'; rest = λ m r r' e e'. e ∙ sym e' }
