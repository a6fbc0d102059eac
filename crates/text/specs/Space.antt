-- White space, by the code point that a character's bytes mean (docs/RULES.md, "Characters"; RFC 3629). Assumes nothing.
use Rattle.std.specs.Prelude.{ℕ, ◌+◌, ◌*◌, ◌%◌, Bool, false, ◌||◌, List, [], ◌∷◌}
use Rattle.std.proofs.Math.Option.{Option, some, none}
use Rattle.text.specs.Pick.{one_if, within}
use Rattle.text.specs.Answer.{Answer, says}
use Rattle.text.specs.Utf8.{chars_of}

-- the low bits of each byte, one after the other: 7, or 5 and 6, or 4, 6 and 6, or 3, 6, 6 and 6
unfoldable pub code_point : List ℕ → ℕ
code_point [] = 0
code_point (a ∷ []) = a
code_point (a ∷ b ∷ []) = a % 32 * 64 + b % 64
code_point (a ∷ b ∷ c ∷ []) = (a % 16 * 64 + b % 64) * 64 + c % 64
code_point (a ∷ b ∷ c ∷ d ∷ s) = ((a % 8 * 64 + b % 64) * 64 + c % 64) * 64 + d % 64

-- from one code point to another, both included
pub data Span : Type 0 where
  span : ℕ → ℕ → Span

unfoldable pub in_any : ℕ → List Span → Bool
in_any p [] = false
in_any p (span low high ∷ spans) = within low high p || in_any p spans

unfoldable pub spaces : List Span
spaces =
    span 0x0009 0x000d
    ∷ span 0x0020 0x0020
    ∷ span 0x0085 0x0085
    ∷ span 0x00a0 0x00a0
    ∷ span 0x1680 0x1680
    ∷ span 0x2000 0x200a
    ∷ span 0x2028 0x2029
    ∷ span 0x202f 0x202f
    ∷ span 0x205f 0x205f
    ∷ span 0x3000 0x3000
    ∷ []

unfoldable pub is_space : ℕ → Bool
is_space p = in_any p spaces

-- some character is white space
unfoldable pub any_space : List (List ℕ) → Bool
any_space [] = false
any_space (c ∷ cs) = is_space (code_point c) || any_space cs

-- 5; or 0 with 1 where some character is white space, and with 0 where none is
unfoldable pub spaced_answer : Option (List (List ℕ)) → Answer
spaced_answer none = says 5 []
spaced_answer (some cs) = says 0 (one_if (any_space cs) ∷ [])

unfoldable pub space_answer : List ℕ → Answer
space_answer t = spaced_answer (chars_of t)
