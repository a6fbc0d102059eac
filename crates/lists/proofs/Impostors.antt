-- Writers that the demands refuse, each on two of three small lists: no entry, a single `A` and a single `.`; with an output of one byte.
-- Assumes nothing.
use Prim.Native.Nat.{ℕ, zero, suc}
use mathlib.Core.Path.{◌≡◌, refl, ap}
use mathlib.Core.List.{List, [], ◌∷◌}
use native.Mathlib.Omega.{arith}
use native.Mathlib.Decide.{ℕ_discrete}
use types.Run.{miss}
use lib.ListN.{length}
use lib.Dec.{eqb}
use borrow.Author.Tests.{eq-eqb}
use Rattle.text.specs.Pick.{pick}
use Rattle.text.specs.Answer.{Answer, number_of}
use Rattle.text.specs.Outcome.{HasWritten}
use Rattle.text.proofs.OutcomeLaws.{was_written}
use Rattle.text.proofs.CharLaws.{at_alone}
use Rattle.text.proofs.SpaceLaws.{point_1, space_apart, seek_first, seek_turn, seek_past}
use Rattle.text.proofs.FoundLaws.{found_free, each_free}
use Rattle.text.proofs.Demands.{cuts}
use Rattle.pieces.proofs.PieceLaws.{free_nil, free_cons, joined_one}
use Rattle.lists.specs.Kind.{separator_of}
use Rattle.lists.specs.Write.{list_text}
use Rattle.lists.specs.Demands.{AllFine, Unspaced, Valid, Writer, Refused, beyond, fault, short, Refusals, WritesText, Meets, OneFilters, Alike, equal, none_dot, dot_none, OneAlts}
use Rattle.lists.specs.declared.write.Kind.{Kind}
use Rattle.lists.specs.declared.write.Kind.TheVariants as K
use Rattle.lists.proofs.FaultLaws.{fine_unfaulted, text_is}

-- ---- the inputs

abbrev letter : List ℕ
letter = 65 ∷ []

abbrev dot : List ℕ
dot = 46 ∷ []

abbrev blank : List ℕ
blank = 0 ∷ []

letter_valid : (kind : Kind) → Valid kind letter
letter_valid K.Filters =
    record {
      some = omega arith;
      not_dot = λ e. (let z : ◌≡◌ {A = ℕ} 65 46 = cc in omega arith);
      not_zero = λ e. (let z : ◌≡◌ {A = ℕ} 65 48 = cc in omega arith);
      no_semicolon = free_cons (λ z. omega arith) free_nil;
    }
letter_valid K.Alts =
    record {
      some = omega arith;
      no_comma = free_cons (λ z. omega arith) free_nil;
      symbol = λ inside e. absurd (let z : ◌≡◌ {A = ℕ} 65 60 = cc in omega arith);
    }

letter_unspaced : (cs : List (List ℕ)) × Unspaced letter cs
letter_unspaced =
    let p = point_1 letter 0 (omega arith) refl refl in
    let q = space_apart (omega arith) (omega arith) (miss (0x20 ∷ 0x85 ∷ 0xa0 ∷ 0x1680 ∷ 0x202f ∷ 0x205f ∷ 0x3000 ∷ []) 65 tt) in
    let s = seek_turn (seek_first letter) (omega arith) (at_alone (omega arith) (omega arith)) (λ z. omega arith) p q refl in
    let f = found_free letter (seek_past s (omega arith)) refl in
    (f.chars, record { are = cuts.is letter f.chars f.are; none = each_free f.chars f.any })

all_letter : (kind : Kind) → AllFine kind (letter ∷ [])
all_letter kind zero l = (letter_valid kind, letter_unspaced)
all_letter kind (suc i) l = absurd (omega arith)

-- who refuses only what is to be refused accepts fine entries whose text is one byte
accepts : (write : Writer) → Refusals write → (kind : Kind) (es : List (List ℕ)) → AllFine kind es → length (list_text kind es) ≡ 1 → number_of (write kind es blank 0).answer ≡ 0
unfolding Refusals
accepts write r kind es f h = by (ℕ_discrete (number_of (write kind es blank 0).answer) 0)
  where
    none_due : {a : Answer} → Refused kind es blank 0 a → ⊥
    none_due (beyond l) = omega arith
    none_due (fault l g) = fine_unfaulted g f
    none_due (short l g t o) = let k = ap length (text_is t) in omega arith

    by : Dec (number_of (write kind es blank 0).answer ≡ 0) → number_of (write kind es blank 0).answer ≡ 0
    by (yes z) = z
    by (no n) = absurd (none_due ((r kind es blank 0 _ n).0 refl))

-- ---- `.` for a single entry

-- a list of one that is accepted is written as none is
pub dotting : Writer → Writer
dotting write kind [] out at = write kind [] out at
dotting write kind (e ∷ []) out at = pick (eqb (number_of (write kind (e ∷ []) out at).answer) 0) (write kind [] out at) (write kind (e ∷ []) out at)
dotting write kind (e ∷ f ∷ es) out at = write kind (e ∷ f ∷ es) out at

-- so no entry and a single `A` have one text, of either kind
module _ (write : Writer) (m : Meets write) where
  writes_dot : (kind : Kind) → HasWritten (write kind [] blank 0) 0 dot
  unfolding WritesText list_text
  writes_dot kind =
      let w = m.writes_text kind [] blank 0 (accepts write m.refusals kind [] (λ i l. absurd (omega arith)) refl) in
      rw (text_is w.is) at (was_written w)

  dots_none : (kind : Kind) → HasWritten (dotting write kind [] blank 0) 0 dot
  unfolding dotting
  dots_none kind = writes_dot kind

  dots_letter : (kind : Kind) → HasWritten (dotting write kind (letter ∷ []) blank 0) 0 dot
  unfolding dotting list_text
  dots_letter kind =
      let z = accepts write m.refusals kind (letter ∷ []) (all_letter kind) (ap length (joined_one (separator_of kind) letter)) in
      rw (eq-eqb _ 0 z) (writes_dot kind)

  apart : Alike [] (letter ∷ []) → ⊥
  apart (equal e) = omega (arith, ap length e)
  apart (none_dot p q) = let z : ◌≡◌ {A = ℕ} 65 46 = cc in omega arith
  apart (dot_none p q) = omega (arith, ap length q)

  pub dots_filters : OneFilters (dotting write) → ⊥
  unfolding OneFilters
  dots_filters one = apart (equal ((one [] (letter ∷ []) blank 0 dot blank 0 dot (dots_none K.Filters) (dots_letter K.Filters)).0 refl))

  pub dots_alts : OneAlts (dotting write) → ⊥
  unfolding OneAlts
  dots_alts one = apart ((one [] (letter ∷ []) blank 0 dot blank 0 dot (dots_none K.Alts) (dots_letter K.Alts)).0 refl)

-- ---- two texts for no ALT entry and a single `.`

-- a writer that accepts both and tells them apart does not meet the exception, which asks for one text
pub parts_dot : (write : Writer) (out : List ℕ) (at : ℕ) (t out₂ : List ℕ) (at₂ : ℕ) (u : List ℕ)
    → HasWritten (write K.Alts [] out at) at t → HasWritten (write K.Alts (dot ∷ []) out₂ at₂) at₂ u → (t ≡ u → ⊥) → OneAlts write → ⊥
unfolding OneAlts
parts_dot write out at t out₂ at₂ u w v n one = n ((one [] (dot ∷ []) out at t out₂ at₂ u w v).1 (none_dot refl refl))
