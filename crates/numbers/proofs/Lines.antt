-- A line of the table, as the rules say it: the genotype with a number is the one that stands there. That leaves one outcome. Assumes
-- nothing.
use Prim.Native.Nat.{ℕ, ◌+◌, ◌<◌, ◌≤◌}
use mathlib.Core.Path.{◌≡◌, refl, sym, ◌∙◌}
use mathlib.Core.Bool.{Bool, true, false, and-eq-true_iff, false≢true}
use mathlib.Core.List.{List, [], ◌∷◌}
use native.Mathlib.Omega.{arith}
use lib.ListN.{length, get_or, drop, length-drop}
use lib.Dec.{leb, ltb}
use borrow.Author.Tests.{le-leb, lt-leb, lt-ltb, leb-true, leb-false, ltb-true}
use Rattle.text.specs.Answer.{says}
use Rattle.text.specs.Outcome.{Outcome}
use Rattle.text.specs.Over.{over_at, laid_at}
use Rattle.text.proofs.CopyLaws.{room_fits, room_lacks}
use Rattle.text.proofs.OutcomeLaws.{same_outcome}
use Rattle.numbering.specs.Ordering.{ordering}
use Rattle.numbering.specs.Answers.{limits, is_there}
use Rattle.numbering.specs.Demands.{Refused}
use Rattle.numbering.proofs.OrderLaws.{length_ordering, listed, numbered, rises_genotype, genotype_stands}
use Rattle.numbering.proofs.LimitLaws.{limited, limits_yes}
use Rattle.numbering.proofs.Functions.{both_refused}
use Rattle.numbers.specs.Table.{row_text, line_of, row_answer}
use Rattle.numbers.specs.Demands.{IsGenotype, PutsLines, OnePutter}

-- the answer with the output that is left
abbrev row_outcome : ℕ → ℕ → ℕ → List ℕ → ℕ → Outcome
row_outcome i p n out at = record { answer = row_answer i p n out at; output = laid_at (row_answer i p n out at) at (line_of i p n) out }

-- ---- the genotype at an index

module _ {i p n : ℕ} where
  at_there : is_there i p n ≡ true → IsGenotype i p n (get_or (ordering p n) i [])
  at_there e =
      let a = (and-eq-true_iff (limits p n) (ltb i (length (ordering p n)))).0 e in
      let h = ltb-true i (length (ordering p n)) a.1 in
      record { limits = limited {r = limits p n} refl a.0; genotype = rises_genotype (listed p n i h); number = numbered p n i h }

  module _ {g : List ℕ} (k : IsGenotype i p n g) where
    there_yes : is_there i p n ≡ true
    there_yes =
        let s = (genotype_stands k.genotype).under in
        let q = k.number in
        let w = length_ordering p n in
        rw (limits_yes k.limits, lt-ltb i (length (ordering p n)) (omega arith))

    line_is : line_of i p n ≡ row_text i g
    unfolding line_of
    line_is = let s : get_or (ordering p n) i [] ≡ g = rw k.number at (genotype_stands k.genotype).there in rw s refl

-- ---- what is put

module _ (i p n : ℕ) (out : List ℕ) (at : ℕ) where
  module _ (g : List ℕ) (k : IsGenotype i p n g) where
    module _ (h : at + length (row_text i g) ≤ length out) where
      fits : length (line_of i p n) ≤ length (drop at out)
      fits = let e = line_is k in let d = length-drop at out in rw e (omega arith)

      put_done : (row_outcome i p n out at).answer ≡ says 0 (length (row_text i g) ∷ [])
      unfolding row_answer
      put_done = rw (le-leb at (length out) (omega arith), there_yes k, room_fits (line_of i p n) (drop at out) fits, line_is k) refl

      put_bytes : (row_outcome i p n out at).output ≡ over_at at (row_text i g) out
      unfolding row_answer
      put_bytes = rw (le-leb at (length out) (omega arith), there_yes k, room_fits (line_of i p n) (drop at out) fits, line_is k) refl

    put_full : at ≤ length out → length out < at + length (row_text i g) → Refused 17 out (row_outcome i p n out at)
    unfolding row_answer
    put_full h l =
        let e = line_is k in
        let d = length-drop at out in
        let w : length (drop at out) < length (line_of i p n) = rw e (omega arith) in
        let f = room_lacks (line_of i p n) (drop at out) w in
        record { answer = rw (le-leb at (length out) h, there_yes k, f) refl; left = rw (le-leb at (length out) h, there_yes k, f) refl }

  put_wrong : ((g : List ℕ) → IsGenotype i p n g → ⊥) → at ≤ length out → Refused 23 out (row_outcome i p n out at)
  unfolding row_answer
  put_wrong z h = by (is_there i p n) refl
    where
      by : (b : Bool) → is_there i p n ≡ b → Refused 23 out (row_outcome i p n out at)
      by true e = absurd (z (get_or (ordering p n) i []) (at_there e))
      by false e = record { answer = rw (le-leb at (length out) h, e) refl; left = rw (le-leb at (length out) h, e) refl }

  put_beyond : length out < at → Refused 6 out (row_outcome i p n out at)
  unfolding row_answer
  put_beyond h = record { answer = rw (lt-leb at (length out) h) refl; left = rw (lt-leb at (length out) h) refl }

pub puts_lines : PutsLines row_outcome
puts_lines = record { done = put_done; bytes = put_bytes; full = put_full; wrong = put_wrong; beyond = put_beyond }

-- ---- one outcome

pub one_putter : OnePutter
unfolding OnePutter
one_putter put other m m' i p n out at = place (leb at (length out)) refl
  where
    g : List ℕ
    g = get_or (ordering p n) i []

    room : IsGenotype i p n g → at ≤ length out → (b : Bool) → leb (at + length (row_text i g)) (length out) ≡ b → put i p n out at ≡ other i p n out at
    room k h true e =
        let w = leb-true (at + length (row_text i g)) (length out) e in
        same_outcome (m.done i p n out at g k w ∙ sym (m'.done i p n out at g k w)) (m.bytes i p n out at g k w ∙ sym (m'.bytes i p n out at g k w))
    room k h false e = let w = leb-false (at + length (row_text i g)) (length out) e in both_refused (m.full i p n out at g k h w) (m'.full i p n out at g k h w)

    there : at ≤ length out → (b : Bool) → is_there i p n ≡ b → put i p n out at ≡ other i p n out at
    there h true e = room (at_there e) h (leb (at + length (row_text i g)) (length out)) refl
    there h false e = let z : (x : List ℕ) → IsGenotype i p n x → ⊥ = λ x k. false≢true (sym e ∙ there_yes k) in both_refused (m.wrong i p n out at z h) (m'.wrong i p n out at z h)

    place : (b : Bool) → leb at (length out) ≡ b → put i p n out at ≡ other i p n out at
    place true e = there (leb-true at (length out) e) (is_there i p n) refl
    place false e = let w = leb-false at (length out) e in both_refused (m.beyond i p n out at w) (m'.beyond i p n out at w)
