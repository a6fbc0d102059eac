-- No row has more than 96 bytes: a line that is read has at most 65,536, and counts no more of anything than one above that. Assumes nothing.
use Prim.Native.Nat.{ℕ, zero, suc, ◌+◌, ◌^◌, ◌<◌, ◌≤◌}
use mathlib.Core.Path.{◌≡◌, refl}
use mathlib.Core.Bool.{Bool, true, false}
use mathlib.Core.List.{List, [], ◌∷◌}
use mathlib.Core.Option.{some}
use native.Mathlib.Omega.{arith}
use native.Mathlib.Decide.{dec_lt}
use lib.ListN.{length, get_or, drop, length-drop, get_or-eq_default}
use Rattle.text.specs.Pick.{pick}
use Rattle.text.specs.Same.{same}
use Rattle.text.specs.Answer.{Answer, says, number_of}
use Rattle.pieces.specs.Pieces.{split, pieces}
use Rattle.pieces.proofs.CountLaws.{count_most}
use Rattle.pieces.proofs.PieceLaws.{split_count, pieces_none, pieces_some}
use Rattle.pieces.proofs.NumberLaws.{piece_within}
use Rattle.decimal.proofs.Shortest.{length_20}
use Rattle.info.specs.Info.{info_count}
use Rattle.info.proofs.Counts.{count_pieces}
use Rattle.record.specs.Place.{column_of}
use Rattle.line.specs.Line.{Line, line}
use Rattle.listing.specs.Output.{row_bytes, total_bytes}
use Rattle.listing.specs.Listing.{size_of, columns_of, infos_of, infos_in, counts_of, row_of}
use Rattle.listing.proofs.PrintLaws.{read_size, refused_size, total_size}

-- ---- pieces

split_few : (b : ℕ) (t : List ℕ) → length (split b t) ≤ length t + 1
split_few b t = omega (arith, split_count b t, count_most b t)

pieces_few : (b : ℕ) (t : List ℕ) → length (pieces b t) ≤ length t + 1
pieces_few b t = by (length t) refl
  where
    by : (n : ℕ) → length t ≡ n → length (pieces b t) ≤ length t + 1
    by zero e = rw (pieces_none b t e) (omega arith)
    by (suc n) e = rw (pieces_some b t (omega arith)) (split_few b t)

piece_short : (b : ℕ) (t : List ℕ) (k : ℕ) → length (get_or (split b t) (suc k) []) ≤ length t
piece_short b t k = by (dec_lt (suc k) (length (split b t)))
  where
    by : Dec (suc k < length (split b t)) → length (get_or (split b t) (suc k) []) ≤ length t
    by (no h) = rw (get_or-eq_default (split b t) [] {n = suc k} (omega arith)) (omega arith)
    by (yes h) =
        let f = split_few b t in
        let e = pieces_some b t (omega arith) in
        omega (arith, rw e at (piece_within b t (suc k) (rw e h)))

infos_few : (t : List ℕ) → infos_in (split 9 t) ≤ length t + 1
unfolding infos_in infos_of column_of
infos_few t = by (same (get_or (split 9 t) 7 []) (46 ∷ []))
  where
    few : (s : List ℕ) → info_count s ≤ length s + 1
    few s = rw (count_pieces s) (pieces_few 59 s)

    by : (c : Bool) → infos_of (pick c (some []) (some (get_or (split 9 t) 7 []))) ≤ length t + 1
    by true = omega (arith, few [])
    by false = omega (arith, few (get_or (split 9 t) 7 []), piece_short 9 t 6)

-- ---- lines with such numbers

read_few : (a b c : ℕ) → a < 2 ^ 64 → b < 2 ^ 64 → c < 2 ^ 64 → length (row_bytes (says 0 (a ∷ b ∷ c ∷ []))) ≤ 96
read_few a b c p q r = omega (arith, read_size a b c, length_20 a p, length_20 b q, length_20 c r)

pub refused_few : (n : ℕ) (vs : List ℕ) → suc n < 2 ^ 64 → length (row_bytes (says (suc n) vs)) ≤ 96
refused_few n vs h = omega (arith, refused_size n vs, length_20 (suc n) h)

-- the last line has no more either
pub total_few : (a b : ℕ) → a < 2 ^ 64 → b < 2 ^ 64 → length (total_bytes a b) ≤ 96
total_few a b p q = omega (arith, total_size a b, length_20 a p, length_20 b q)

-- ---- a row

counts_few : (l : Line) → size_of l ≤ 65536 → length (row_bytes (says 0 (counts_of (columns_of l)))) ≤ 96
unfolding counts_of columns_of size_of
counts_few (line t e rest) h =
    let a = split_few 9 t in
    let b = infos_few t in
    let c = length-drop 9 (split 9 t) in
    read_few (length (split 9 t)) (infos_in (split 9 t)) (length (drop 9 (split 9 t))) (omega arith) (omega arith) (omega arith)

pub row_few : (l : Line) (a : Answer) → size_of l ≤ 65536 → number_of a ≤ 6 → length (row_bytes (row_of l a)) ≤ 96
unfolding row_of
row_few l (says zero vs) h k = counts_few l h
row_few l (says (suc n) vs) h k = refused_few n [] (omega arith)
