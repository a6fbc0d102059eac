-- What demand 3 asks of any genotype writer, as a function on lists, and what follows for its texts (docs/RULES.md, "Genotypes", "One list,
-- one spelling"; docs/STATEMENTS.md). Assumes nothing.
use Rattle.std.specs.Prelude.{ℕ, ◌+◌, ◌≤◌, ◌<◌, ◌≡◌, Bool, true, false, ◌↔◌, List, [], ◌∷◌, length, take, drop, Result}
use Rattle.text.specs.Answer.{Answer, says, number_of}
use Rattle.text.specs.Over.{over, over_at}
use Rattle.text.specs.Outcome.{Outcome, laid_over, HasWritten}
use Rattle.text.specs.First.{FirstOf}
use Rattle.allele.specs.Means.{Means, all_phased}
use Rattle.allele.specs.Row.{row_of, Parallel}
use Rattle.genotype.specs.Demands as Genotype
use Rattle.genotype.specs.Demands.{AtMost, Reader}
use Rattle.genotype.specs.Answers.{ReadsText}
use Rattle.genotype.specs.declared.read.ReadError.{ReadError}
use Rattle.allele.specs.declared.allele.Allele.{Allele}
use Rattle.spelling.specs.Permitted.{from44, Permitted, TheShortest}
use Rattle.spelling.specs.Paper.{write_paper}
use Rattle.spelling.specs.Write.{list_answer, list_left, WritesRow}
use Rattle.spelling.specs.EndToEnd.{Wrote}
use Rattle.spelling.specs.declared.write.WriteError.{WriteError}

-- a writer is given a file format, a list, an output and a place in it
abbrev pub Writer : Type 0
Writer = ℕ → ℕ → List Allele → List ℕ → ℕ → Outcome

-- ours, over the definitions
unfoldable pub writer : Writer
writer major minor as' out at =
    record {
      answer = list_answer as' (from44 major minor) out at;
      output = list_left as' (from44 major minor) out at;
    }

-- the one shortest of the spellings that a file format permits
abbrev pub Shortest : ℕ → ℕ → List Allele → List ℕ → Type 0
Shortest major minor as' t = TheShortest (Permitted (from44 major minor) as') t

-- ---- what is written

-- what is written is the one shortest permitted spelling, and lies over the output from the place on
pub record Written (major minor : ℕ) (as' : List Allele) (out : List ℕ) (at : ℕ) (o : Outcome) : Type 0 where
  pub text : List ℕ
  pub shortest : Shortest major minor as' text
  pub count : o.answer ≡ says 0 (length text ∷ [])
  pub fits : at + length text ≤ length out
  pub bytes : o.output ≡ over_at at text out

unfoldable pub WritesShortest : Writer → Type 0
WritesShortest write = (major minor : ℕ) (as' : List Allele) (out : List ℕ) (at : ℕ) → number_of (write major minor as' out at).answer ≡ 0
    → Written major minor as' out at (write major minor as' out at)

-- ---- what is refused

-- the index of the first allele that is missing and has a number other than 0
abbrev pub Unsound : List Allele → ℕ → Type 0
Unsound as' k = FirstOf (λ (a : Allele). (a.missing ≡ true) × (a.number ≡ 0 → ⊥)) as' k

-- a list that has no spelling: 11 where it is empty; 12 with that index; 13 where no allele is so, the file format is below 4.4 and the
-- first phasing is not the implied one
pub data Unspelled (late : Bool) : List Allele → Answer → Type 0 where
  empty : Unspelled late [] (says 11 [])
  bad : {as' : List Allele} {k : ℕ} → Unsound as' k → Unspelled late as' (says 12 (k ∷ []))
  phasing : {a : Allele} {as' : List Allele} → late ≡ false → ((k : ℕ) → Unsound (a ∷ as') k → ⊥) → (a.phased ≡ all_phased as' → ⊥)
      → Unspelled late (a ∷ as') (says 13 [])

-- 6 beyond the output; else by the list; else 17, where the shortest permitted spelling does not fit
pub data Refused (major minor : ℕ) (as' : List Allele) (out : List ℕ) (at : ℕ) : Answer → Type 0 where
  beyond : length out < at → Refused major minor as' out at (says 6 [])
  unspelled : {a : Answer} → at ≤ length out → Unspelled (from44 major minor) as' a → Refused major minor as' out at a
  short : {t : List ℕ} → at ≤ length out → Shortest major minor as' t → length out < at + length t → Refused major minor as' out at (says 17 [])

-- an answer other than 0 is given exactly where it is due, with the values that it carries
unfoldable pub Refusals : Writer → Type 0
Refusals write = (major minor : ℕ) (as' : List Allele) (out : List ℕ) (at : ℕ) (a : Answer) → (number_of a ≡ 0 → ⊥)
    → ((write major minor as' out at).answer ≡ a) ↔ Refused major minor as' out at a

-- a refusal leaves the output as it was
unfoldable pub Untouched : Writer → Type 0
Untouched write = (major minor : ℕ) (as' : List Allele) (out : List ℕ) (at : ℕ) → (number_of (write major minor as' out at).answer ≡ 0 → ⊥)
    → (write major minor as' out at).output ≡ out

-- ---- all of it

pub record Meets (write : Writer) : Type 0 where
  pub writes_shortest : WritesShortest write
  pub refusals : Refusals write
  pub untouched : Untouched write

-- two writers that meet these three give one answer, with all its values, and leave one output, for every list, file format, output
-- and place
unfoldable pub OneWriter : Type 0
OneWriter = (write other : Writer) → Meets write → Meets other → (major minor : ℕ) (as' : List Allele) (out : List ℕ) (at : ℕ)
    → write major minor as' out at ≡ other major minor as' out at

-- ---- demand 3

-- with room for the shortest permitted spelling, if there is one, writing is refused exactly when there is none
unfoldable pub Exact : Writer → Type 0
Exact write = (major minor : ℕ) (as' : List Allele) (out : List ℕ) (at : ℕ) → at ≤ length out → ((t : List ℕ) → Shortest major minor as' t → at + length t ≤ length out)
    → (number_of (write major minor as' out at).answer ≡ 0 → ⊥) ↔ ((t : List ℕ) → Permitted (from44 major minor) as' t → ⊥)

-- each number has at most 64 bits
abbrev pub Fitting : List Allele → Type 0
Fitting as' = AtMost 18446744073709551615 as'

-- what is written means the list, with every phasing
unfoldable pub RoundTrip : Writer → Type 0
RoundTrip write = (major minor : ℕ) (as' : List Allele) (out : List ℕ) (at n : ℕ) → Fitting as' → (write major minor as' out at).answer ≡ says 0 (n ∷ [])
    → Means (take n (drop at (write major minor as' out at).output)) as'

-- both follow from those three, of any writer
unfoldable pub Follow : Type 0
Follow = (write : Writer) → Meets write → Exact write × RoundTrip write

-- ---- one list, one spelling

-- two lists that are written have one text exactly where they are equal: under one file format, and under two, since the file format
-- decides which lists are written and not how
unfoldable pub OneSpelling : Writer → Type 0
OneSpelling write = (major minor : ℕ) (as' : List Allele) (out : List ℕ) (at : ℕ) (t : List ℕ) (major₂ minor₂ : ℕ) (bs : List Allele) (out₂ : List ℕ) (at₂ : ℕ) (u : List ℕ)
    → HasWritten (write major minor as' out at) at t → HasWritten (write major₂ minor₂ bs out₂ at₂) at₂ u → (t ≡ u) ↔ (as' ≡ bs)

-- a list's text u is read as that list, in a row that is long enough; that list is written as u, with room; and no permitted spelling is
-- shorter
pub record Settled (read : Reader) (write : Writer) (major minor : ℕ) (as' : List Allele) (u : List ℕ) : Type 0 where
  pub read_again : (row : List Allele) → length as' ≤ length row → read u row ≡ record { answer = says 0 (length as' ∷ []); row = over as' row }
  pub written_again : (out : List ℕ) (at : ℕ) → at + length u ≤ length out → write major minor as' out at ≡ laid_over u out at
  pub least : (v : List ℕ) → Permitted (from44 major minor) as' v → length u ≤ length v

-- so it is with the text of a list that was read: nothing changes the second time
unfoldable pub Settles : Reader → Writer → Type 0
Settles read write = (t : List ℕ) (row : List Allele) (n : ℕ) → (read t row).answer ≡ says 0 (n ∷ [])
    → (major minor : ℕ) (out : List ℕ) (at : ℕ) (u : List ℕ) → HasWritten (write major minor (take n (read t row).row) out at) at u
    → Settled read write major minor (take n (read t row).row) u

-- both follow, of any writer and any reader
unfoldable pub Spellings : Type 0
Spellings = (write : Writer) → Meets write → OneSpelling write × ((read : Reader) → Genotype.Meets read → Settles read write)

-- ---- the writer over slices

-- given slices of one length, `write_genotype` answers and leaves what the writer does with the list that they stand for
unfoldable pub SlicesWriter : Type 0
SlicesWriter = (n m p : List ℕ) (major minor : ℕ) (out : List ℕ) (at : ℕ) (r : Result ℕ WriteError) (out' : List ℕ) → Parallel n m p → WritesRow n m p major minor out at r out'
    → (write_paper r ≡ (writer major minor (row_of n m p) out at).answer) × (out' ≡ (writer major minor (row_of n m p) out at).output)

-- so the bytes that it writes are the same exactly where two lists in slices are: marks other than 0 and 1 mean 1
unfoldable pub SlicesApart : Type 0
SlicesApart =
    (n m p : List ℕ) (major minor : ℕ) (out : List ℕ) (at k : ℕ) (out' : List ℕ) (n₂ m₂ p₂ : List ℕ) (major₂ minor₂ : ℕ) (out₂ : List ℕ) (at₂ k₂ : ℕ) (out₂' : List ℕ)
    → Wrote n m p major minor out at k out' → Wrote n₂ m₂ p₂ major₂ minor₂ out₂ at₂ k₂ out₂'
    → (take k (drop at out') ≡ take k₂ (drop at₂ out₂')) ↔ (row_of n m p ≡ row_of n₂ m₂ p₂)

-- what it wrote, read by `read_genotype` into slices that are long enough and written again from these, with room, is the same bytes
unfoldable pub SlicesSettle : Type 0
SlicesSettle =
    (n m p : List ℕ) (major minor : ℕ) (out : List ℕ) (at k : ℕ) (out' : List ℕ) → Wrote n m p major minor out at k out'
    → (n₂ m₂ p₂ : List ℕ) (r : Result ℕ ReadError) (n₂' m₂' p₂' : List ℕ) → Parallel n₂ m₂ p₂ → length n ≤ length n₂ → ReadsText (take k (drop at out')) n₂ m₂ p₂ r n₂' m₂' p₂'
    → (out₂ : List ℕ) (at₂ : ℕ) (w : Result ℕ WriteError) (out₂' : List ℕ) → at₂ + k ≤ length out₂
    → WritesRow (take (length n) n₂') (take (length n) m₂') (take (length n) p₂') major minor out₂ at₂ w out₂'
    → (write_paper w ≡ says 0 (k ∷ [])) × (out₂' ≡ over_at at₂ (take k (drop at out')) out₂)

-- and no permitted spelling is shorter
unfoldable pub SlicesLeast : Type 0
SlicesLeast = (n m p : List ℕ) (major minor : ℕ) (out : List ℕ) (at k : ℕ) (out' : List ℕ) → Wrote n m p major minor out at k out'
    → (v : List ℕ) → Permitted (from44 major minor) (row_of n m p) v → k ≤ length v
