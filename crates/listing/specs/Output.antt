-- What is printed of a listing (docs/RULES.md, "The program vcflist"). Assumes nothing.
use Rattle.std.specs.Prelude.{ℕ, zero, suc, ◌+◌, List, [], ◌∷◌, ◌++◌, leb}
use Rattle.text.specs.Pick.{pick}
use Rattle.text.specs.Answer.{Answer, says}
use Rattle.decimal.specs.Shortest.{shortest}

-- each number after a space
unfoldable pub numbers : List ℕ → List ℕ
numbers [] = []
numbers (n ∷ ns) = 32 ∷ shortest n ++ numbers ns

-- `ok` and the counts, or `refused` and the number; then LF
unfoldable pub row_bytes : Answer → List ℕ
row_bytes (says zero vs) = 111 ∷ 107 ∷ numbers vs ++ 10 ∷ []
row_bytes (says (suc n) vs) = 114 ∷ 101 ∷ 102 ∷ 117 ∷ 115 ∷ 101 ∷ 100 ∷ numbers (suc n ∷ []) ++ 10 ∷ []

-- `read` and how many lines were read, ` refused` and how many were refused; then LF
unfoldable pub total_bytes : ℕ → ℕ → List ℕ
total_bytes read refused =
    114 ∷ 101 ∷ 97 ∷ 100 ∷ numbers (read ∷ []) ++ 32 ∷ 114 ∷ 101 ∷ 102 ∷ 117 ∷ 115 ∷ 101 ∷ 100 ∷ numbers (refused ∷ []) ++ 10 ∷ []

-- how many rows are read, and how many refused
unfoldable pub read_rows : List Answer → ℕ
read_rows [] = 0
read_rows (says zero vs ∷ rows) = suc (read_rows rows)
read_rows (says (suc n) vs ∷ rows) = read_rows rows

unfoldable pub refused_rows : List Answer → ℕ
refused_rows [] = 0
refused_rows (says zero vs ∷ rows) = refused_rows rows
refused_rows (says (suc n) vs ∷ rows) = suc (refused_rows rows)

unfoldable pub rows_bytes : List Answer → List ℕ
rows_bytes [] = []
rows_bytes (r ∷ rows) = row_bytes r ++ rows_bytes rows

-- all that is printed
unfoldable pub output_of : List Answer → List ℕ
output_of rows = rows_bytes rows ++ total_bytes (read_rows rows) (refused_rows rows)

-- one more, where 64 bits hold it
unfoldable pub one_more : ℕ → ℕ
one_more n = pick (leb 18446744073709551615 n) n (n + 1)

-- the counts after one more row
unfoldable pub read_after : ℕ → Answer → ℕ
read_after n (says zero vs) = one_more n
read_after n (says (suc m) vs) = n

unfoldable pub refused_after : ℕ → Answer → ℕ
refused_after n (says zero vs) = n
refused_after n (says (suc m) vs) = one_more n

-- the rows printed and counted as they come, from these counts on, and then the totals
unfoldable pub printed_from : ℕ → ℕ → List Answer → List ℕ
printed_from read refused [] = total_bytes read refused
printed_from read refused (r ∷ rows) = row_bytes r ++ printed_from (read_after read r) (refused_after refused r) rows
