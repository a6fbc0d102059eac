-- What a decimal text is worth, and which of its bytes is at fault where it is none (docs/RULES.md, "Decimal numbers"). Assumes nothing.
use Rattle.std.specs.Prelude.{ℕ, zero, suc, ◌+◌, ◌-◌, ◌*◌, ◌^◌, Bool, true, not, ◌&&◌, ◌||◌, List, [], ◌∷◌, length, get_or, take, leb, ltb, eqb}
use Rattle.std.proofs.Math.Option.{Option, some, none}
use Rattle.text.specs.Pick.{pick, within}
use Rattle.text.specs.Answer.{Answer, says}

-- the byte is one of '0' to '9'
unfoldable pub is_digit : ℕ → Bool
is_digit b = within 48 57 b

unfoldable pub all_digits : List ℕ → Bool
all_digits [] = true
all_digits (b ∷ s) = is_digit b && all_digits s

-- the sum of each digit times ten to the number of digits after it
unfoldable pub worth : List ℕ → ℕ
worth [] = 0
worth (b ∷ s) = (b - 48) * 10 ^ length s + worth s

-- one digit or more, worth at most 18446744073709551615
unfoldable pub digits_value : List ℕ → Option ℕ
unfolding all_digits worth
digits_value [] = none
digits_value (b ∷ s) = pick (all_digits (b ∷ s) && leb (worth (b ∷ s)) 18446744073709551615) (some (worth (b ∷ s))) none

-- an optional '+', and then such digits
unfoldable pub value_of : List ℕ → Option ℕ
unfolding digits_value
value_of [] = none
value_of (b ∷ s) = pick (eqb b 43) (digits_value s) (digits_value (b ∷ s))

-- ---- the byte at fault

-- the byte at place i is no digit, or is the digit at which the value passes 18446744073709551615
unfoldable pub stops_at : List ℕ → ℕ → Bool
stops_at s i = not (is_digit (get_or s i 0)) || ltb 18446744073709551615 (worth (take (i + 1) s))

-- of n places from i on the first at which a test holds; the place behind them where it holds at none
unfoldable pub first_place : (ℕ → Bool) → ℕ → ℕ → ℕ
first_place test i zero = i
first_place test i (suc n) = pick (test i) i (first_place test (i + 1) n)

-- the first such place; where there is none a digit is missing, and it is the text's length
unfoldable pub digits_fault : List ℕ → ℕ
unfolding stops_at first_place
digits_fault s = first_place (stops_at s) 0 (length s)

-- a '+' at the start is allowed, and counted
unfoldable pub fault_of : List ℕ → ℕ
unfolding digits_fault
fault_of [] = 0
fault_of (b ∷ s) = pick (eqb b 43) (1 + digits_fault s) (digits_fault (b ∷ s))

-- ---- the answer

-- 0 and the value, or 12 and the place of the byte at fault
unfoldable pub value_answer : Option ℕ → ℕ → Answer
value_answer (some n) fault = says 0 (n ∷ [])
value_answer none fault = says 12 (fault ∷ [])

-- of digits without a sign
unfoldable pub digits_answer : List ℕ → Answer
digits_answer s = value_answer (digits_value s) (digits_fault s)

unfoldable pub decimal_answer : List ℕ → Answer
decimal_answer s = value_answer (value_of s) (fault_of s)
