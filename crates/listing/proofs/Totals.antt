-- Rows printed and counted one by one are the whole output: the counts so far and those of the rows to come are those of all. Assumes
-- nothing.
use Prim.Native.Nat.{ℕ, zero, suc, ◌+◌, ◌<◌, ◌≤◌}
use mathlib.Core.Path.{◌≡◌, sym, ap, ◌∙◌}
use mathlib.Core.List.{List, [], ◌∷◌, ◌++◌, append_assoc}
use native.Mathlib.Omega.{arith}
use lib.ListN.{length}
use borrow.Author.Tests.{lt-leb}
use Rattle.text.specs.Answer.{Answer, says}
use Rattle.listing.specs.Output.{row_bytes, total_bytes, read_rows, refused_rows, rows_bytes, output_of, one_more, read_after, refused_after, printed_from}
use Rattle.listing.specs.Demands.{Prints}

one_more_lem : (n : ℕ) → n < 18446744073709551615 → one_more n ≡ n + 1
unfolding one_more
one_more_lem n h = rw (lt-leb 18446744073709551615 n h)

printed : (rows : List Answer) (a b : ℕ) → a + length rows ≤ 18446744073709551615 → b + length rows ≤ 18446744073709551615
    → printed_from a b rows ≡ rows_bytes rows ++ total_bytes (a + read_rows rows) (b + refused_rows rows)
unfolding printed_from rows_bytes read_rows refused_rows read_after refused_after
printed [] a b h g =
    let p : a ≡ a + 0 = omega arith in
    let q : b ≡ b + 0 = omega arith in
    λ i. total_bytes (p i) (q i)
printed (says zero vs ∷ rows) a b h g =
    let p : a + 1 + read_rows rows ≡ a + suc (read_rows rows) = omega arith in
    ap (λ (l : List ℕ). row_bytes (says zero vs) ++ l)
    (rw (one_more_lem a (omega arith)) (printed rows (a + 1) b (omega arith) (omega arith)) ∙ ap (λ (n : ℕ). rows_bytes rows ++ total_bytes n (b + refused_rows rows)) p)
    ∙ sym (append_assoc (row_bytes (says zero vs)) (rows_bytes rows) (total_bytes (a + suc (read_rows rows)) (b + refused_rows rows)))
printed (says (suc n) vs ∷ rows) a b h g =
    let p : b + 1 + refused_rows rows ≡ b + suc (refused_rows rows) = omega arith in
    ap (λ (l : List ℕ). row_bytes (says (suc n) vs) ++ l)
    (rw (one_more_lem b (omega arith)) (printed rows a (b + 1) (omega arith) (omega arith)) ∙ ap (λ (n : ℕ). rows_bytes rows ++ total_bytes (a + read_rows rows) n) p)
    ∙ sym (append_assoc (row_bytes (says (suc n) vs)) (rows_bytes rows) (total_bytes (a + read_rows rows) (b + suc (refused_rows rows))))

pub prints : Prints
unfolding output_of
prints rows h =
    let p : 0 + read_rows rows ≡ read_rows rows = omega arith in
    let q : 0 + refused_rows rows ≡ refused_rows rows = omega arith in
    printed rows 0 0 (omega arith) (omega arith) ∙ (λ i. rows_bytes rows ++ total_bytes (p i) (q i))
