-- The number of an answer that is known. Assumes nothing.
use Prim.Native.Nat.{ℕ}
use mathlib.Core.Path.{◌≡◌}
use mathlib.Core.List.{List}
use Rattle.text.specs.Answer.{Answer, says, number_of}

pub number_is : (a : Answer) {n : ℕ} {vs : List ℕ} → a ≡ says n vs → n ≡ number_of a
number_is a e = rw e

pub number_by : (a : Answer) {r n : ℕ} {vs : List ℕ} → r ≡ n → a ≡ says n vs → r ≡ number_of a
number_by a q e = rw (e, q)

pub number_case : (a : Answer) {p : Answer} {n : ℕ} {vs : List ℕ} → p ≡ a → p ≡ says n vs → n ≡ number_of a
number_case a e q = rw (← e, q)
