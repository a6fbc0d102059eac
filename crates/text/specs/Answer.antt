-- An answer on paper: its number in the table of docs/RULES.md, and the values that it carries, in order.
-- Assumes nothing.
use Rattle.std.specs.Prelude.{ℕ, List, get_or}

pub data Answer : Type 0 where
  says : ℕ → List ℕ → Answer

abbrev pub number_of : Answer → ℕ
number_of (says n vs) = n

abbrev pub values_of : Answer → List ℕ
values_of (says n vs) = vs

-- where a reader goes on: its first value
abbrev pub next_of : Answer → ℕ
next_of a = get_or (values_of a) 0 0
