-- The vector of a list, and what its writer answers and leaves in the output (docs/RULES.md, "Genotypes in BCF"). Assumes nothing.
use Rattle.std.specs.Prelude.{ℕ, ◌-◌, ◌*◌, max, ◌≡◌, List, [], ◌∷◌, ◌++◌, map, length, drop, replicate, eqb, ltb, leb, Result}
use Rattle.std.proofs.Math.Option.{Option, some, none}
use Rattle.text.specs.Pick.{pick}
use Rattle.text.specs.Answer.{Answer, says}
use Rattle.text.specs.Over.{laid_at}
use Rattle.text.specs.Place.{placed}
use Rattle.allele.specs.Row.{row_of, first_unsound}
use Rattle.allele.specs.declared.allele.Allele.{Allele}
use Rattle.genotype.specs.Answers as G
use Rattle.bcf.specs.Layout.{size, padding, largest, code_of, bytes_of}
use Rattle.bcf.specs.Paper.{write_paper}
use Rattle.bcf.specs.declared.width.Width.{Width}
use Rattle.bcf.specs.declared.width.Width.TheVariants.{W8, W16, W32}
use Rattle.bcf.specs.declared.write.Vector.{Vector}
use Rattle.bcf.specs.declared.write.WriteError.{WriteError}

-- ---- the vector

-- the codes, then padding up to n entries
unfoldable pub entries_for : Width → ℕ → List Allele → List ℕ
entries_for w n as' = map code_of as' ++ replicate (n - length as') (padding w)

unfoldable pub vector_of : Width → ℕ → List Allele → List ℕ
vector_of w n as' = bytes_of w (entries_for w n as')

-- ---- its width

-- the largest number of a list
unfoldable pub most_of : List Allele → ℕ
most_of [] = 0
most_of (a ∷ as') = max a.number (most_of as')

-- the smallest width that holds a number, or the widest where none does
unfoldable pub width_for : ℕ → Width
width_for x = pick (leb x (largest W8)) W8 (pick (leb x (largest W16)) W16 W32)

-- the smallest that holds every number of a list
unfoldable pub smallest : List Allele → Width
smallest as' = width_for (most_of as')

-- ---- the answer

-- 12 before others
unfoldable pub sound_answer : Option ℕ → Answer → Answer
sound_answer (some k) a = says 12 (k ∷ [])
sound_answer none a = a

-- the width and how many bytes, where there is room for them, else 17
unfoldable pub room_in : Width → ℕ → ℕ → Answer
room_in w n room = pick (leb (n * size w) room) (says 0 (size w ∷ n * size w ∷ [])) (says 17 [])

-- 25, then these
unfoldable pub entries_answer : Width → ℕ → List Allele → ℕ → Answer
entries_answer w n as' room = pick (ltb n (length as')) (says 25 []) (room_in w n room)

-- 24 where no width holds every allele, then these
unfoldable pub sized_answer : ℕ → List Allele → ℕ → Answer
sized_answer n as' room = pick (ltb (largest W32) (most_of as')) (says 24 []) (entries_answer (smallest as') n as' room)

-- 11, 12, and then these
unfoldable pub list_answer : ℕ → List Allele → ℕ → Answer
list_answer n as' room = pick (eqb (length as') 0) (says 11 []) (sound_answer (first_unsound 0 as') (sized_answer n as' room))

-- ---- from a place of an output

-- 6 beyond it
unfoldable pub placed_answer : ℕ → List Allele → List ℕ → ℕ → Answer
placed_answer n as' out at = placed at out (list_answer n as' (length (drop at out)))

-- 6 first, then 16 where the slices' lengths differ
unfoldable pub row_answer : ℕ → List ℕ → List ℕ → List ℕ → List ℕ → ℕ → Answer
row_answer k n m p out at = placed at out (G.row_answer n m p (list_answer k (row_of n m p) (length (drop at out))))

-- only an answer that is done changes the output
abbrev pub row_left : ℕ → List ℕ → List ℕ → List ℕ → List ℕ → ℕ → List ℕ
row_left k n m p out at = laid_at (row_answer k n m p out at) at (vector_of (smallest (row_of n m p)) k (row_of n m p)) out

pub record WritesVector (n m p : List ℕ) (k : ℕ) (out : List ℕ) (at : ℕ) (r : Result Vector WriteError) (out' : List ℕ) : Type 0 where
  pub answer : write_paper r ≡ row_answer k n m p out at
  pub output : out' ≡ row_left k n m p out at
