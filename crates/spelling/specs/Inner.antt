-- What functions promise each other, also those of `alleles`. Assumes nothing.
use Rattle.std.specs.Prelude.{ℕ, ◌+◌, ◌-◌, ◌≡◌, Bool, true, false, ◌&&◌, List, [], ◌∷◌, ◌++◌, length, leb, ltb, eqb, Option, Some, None, is_some, Result, Ok, Err}
use Rattle.std.specs.Bool.{beq}
use Rattle.text.specs.Pick.{pick}
use Rattle.text.specs.Over.{over_at, laid}
use Rattle.allele.specs.Row.{is_sound}
use Rattle.allele.specs.declared.allele.Allele.{Allele}
use Rattle.spelling.specs.Spelling.{body_text, allele_text, spell}
use Rattle.spelling.specs.Paper.{write_paper}
use Rattle.spelling.specs.Write.{spelled_answer, text_of}
use Rattle.spelling.specs.declared.tally.Tally.{Tally}
use Rattle.spelling.specs.declared.tally.Plan.{Plan}
use Rattle.spelling.specs.declared.tally.Plan.TheVariants as P
use Rattle.spelling.specs.declared.write.WriteError.{WriteError}
use Rattle.spelling.specs.declared.write.WriteError.TheVariants as W

-- ---- what one pass over a list of alleles gathers

unfoldable pub begun : ℕ → Tally
begun room = record { bad = None; first = true; later = true; room = room; left = Some room }

-- what n bytes more leave
unfoldable pub room_left : Option ℕ → ℕ → Option ℕ
room_left None n = None
room_left (Some left) n = pick (leb n left) (Some (left - n)) None

-- with n bytes less room
unfoldable pub shortened : Tally → ℕ → Tally
shortened t n = record t { left = room_left t.left n }

-- of the first allele the phasing, of a later one whether it is phased; and what each takes
unfoldable pub counted : Tally → Allele → ℕ → Tally
counted t a k =
    pick (eqb k 0)
    (shortened (record t { first = a.phased }) (length (body_text a)))
    (shortened (record t { later = t.later && a.phased }) (length (body_text a) + 1))

-- nothing more is gathered from the first unsound allele on
unfoldable pub tallied : Tally → Allele → ℕ → Tally
tallied t a k = pick (is_some t.bad) t (pick (is_sound a) (counted t a k) (record t { bad = Some k }))

-- the alleles from index k on
unfoldable pub tally_from : Tally → ℕ → List Allele → Tally
unfolding tallied
tally_from t k [] = t
tally_from t k (a ∷ as') = tally_from (tallied t a k) (k + 1) as'

unfoldable pub tally_of : ℕ → List Allele → Tally
tally_of room as' = tally_from (begun room) 0 as'

-- ---- the plan made of it

-- what is taken of a room, of which so much is left: one more with the first mark
unfoldable pub bare_plan : ℕ → Option ℕ → Result Plan WriteError
bare_plan room None = Err W.Short
bare_plan room (Some left) = Ok (P.Bare (room - left))

unfoldable pub marked_plan : ℕ → Option ℕ → Result Plan WriteError
marked_plan room None = Err W.Short
marked_plan room (Some left) = pick (ltb 0 left) (Ok (P.Marked (room - left + 1))) (Err W.Short)

-- by the first phasing: 13, and 17 last
unfoldable pub shape_of : Tally → Bool → Result Plan WriteError
shape_of t late = pick (beq t.first t.later) (bare_plan t.room t.left) (pick late (marked_plan t.room t.left) (Err W.Phasing))

-- 12, then by its shape
unfoldable pub judged_plan : Option ℕ → Result Plan WriteError → Result Plan WriteError
judged_plan None x = x
judged_plan (Some k) x = Err (W.Bad k)

-- 11 first
unfoldable pub plan_of : Tally → ℕ → Bool → Result Plan WriteError
plan_of t count late = pick (eqb count 0) (Err W.Empty) (judged_plan t.bad (shape_of t late))

unfoldable pub size_of : Plan → ℕ
size_of (P.Bare n) = n
size_of (P.Marked n) = n

-- ---- what is written by it

-- of the allele with index k
unfoldable pub one_text : Plan → ℕ → Allele → List ℕ
one_text (P.Bare n) k a = allele_text (eqb k 0) a
one_text (P.Marked n) k a = allele_text false a

-- by what is planned: nothing where the list is refused
abbrev pub step_text : Result Plan WriteError → ℕ → Allele → List ℕ
step_text (Ok plan) k a = one_text plan k a
step_text (Err e) k a = []

-- of the alleles from index k on
unfoldable pub text_from : Plan → ℕ → List Allele → List ℕ
unfolding one_text
text_from plan k [] = []
text_from plan k (a ∷ as') = one_text plan k a ++ text_from plan (k + 1) as'

abbrev pub planned_text : Plan → List Allele → List ℕ
planned_text plan as' = text_from plan 0 as'

-- ---- what is written at a place, where it fits

unfoldable pub fits_at : List ℕ → ℕ → List ℕ → Bool
fits_at vs at l = leb (at + length vs) (length l)

-- the place past it, or the place where it does not fit
abbrev pub place_after : List ℕ → ℕ → List ℕ → ℕ
place_after vs at l = pick (fits_at vs at l) (at + length vs) at

abbrev pub bytes_after : List ℕ → ℕ → List ℕ → List ℕ
bytes_after vs at l = pick (fits_at vs at l) (over_at at vs l) l

pub record PutsAt (vs : List ℕ) (at : ℕ) (l : List ℕ) (r : ℕ) (l' : List ℕ) : Type 0 where
  pub place : r ≡ place_after vs at l
  pub bytes : l' ≡ bytes_after vs at l

-- ---- a list written at the start of an output

-- only an answer that is done changes it
pub record WritesList (as' : List Allele) (late : Bool) (l : List ℕ) (r : Result ℕ WriteError) (l' : List ℕ) : Type 0 where
  pub answer : write_paper r ≡ spelled_answer (spell late as') l
  pub bytes : l' ≡ laid (spelled_answer (spell late as') l) (text_of (spell late as')) l
