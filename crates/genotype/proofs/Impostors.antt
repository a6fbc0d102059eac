-- Readers that nobody would accept do not meet what is asked: each is found out by texts of one or two digits. Assumes nothing.
use Prim.Native.Nat.{ℕ, ◌+◌, ◌<◌}
use mathlib.Core.Path.{◌≡◌, refl, sym, ap, ◌∙◌}
use mathlib.Core.Bool.{true}
use mathlib.Core.List.{List, [], ◌∷◌}
use native.Mathlib.Omega.{arith}
use native.Mathlib.Decide.{ℕ_discrete}
use Rattle.text.specs.Answer.{says, number_of}
use Rattle.text.specs.Over.{over}
use Rattle.text.specs.First.{here}
use Rattle.text.proofs.Lists.{over_is}
use Rattle.pieces.proofs.PieceLaws.{free_nil}
use Rattle.decimal.specs.Decimal.{fault_of}
use Rattle.decimal.proofs.FirstFault.{decimal_fault}
use Rattle.allele.specs.Means.{none, Means, bare, at_end, bad_here, Broken, bad_after}
use Rattle.allele.specs.declared.allele.Allele.{Allele}
use Rattle.allele.proofs.PhasedLaws.{phased_none}
use Rattle.allele.proofs.MeansLaws.{means_one}
use Rattle.allele.proofs.BodyLaws.{body_some, digit_body}
use Rattle.allele.proofs.Impostors.{lone}
use Rattle.genotype.specs.Demands.{Reader, reader, Stands, ExactAt, Exact, Longer, Refusals, FirstAbove, MeansAbove, Checked}
use Rattle.genotype.proofs.Exact.{exact}
use Rattle.genotype.proofs.Refusals.{refusals}

digit_means : (n : ℕ) → n < 10 → Means ((48 + n) ∷ []) (lone n ∷ [])
digit_means n h = bare (sym phased_none) (digit_body n true h) none

-- an exact reader, given one digit and a row of one
module _ (read : Reader) (x : Exact read) (n : ℕ) (h : n < 10) where
  exact_digit : ExactAt ((48 + n) ∷ []) (lone 0 ∷ []) (read ((48 + n) ∷ []) (lone 0 ∷ []))
  unfolding Exact
  exact_digit = x _ _ (λ as' m. rw (means_one _ as' _ m (digit_means n h)) (omega arith))

  digit_done : number_of (read ((48 + n) ∷ []) (lone 0 ∷ [])).answer ≡ 0
  digit_done =
      elim (ℕ_discrete (number_of (read ((48 + n) ∷ []) (lone 0 ∷ [])).answer) 0) [ yes z ↦ z | no z ↦ absurd (exact_digit.refused.0 z _ (digit_means n h)) ]

  digit_stands : Stands ((48 + n) ∷ []) (lone 0 ∷ []) (read ((48 + n) ∷ []) (lone 0 ∷ []))
  digit_stands = exact_digit.one digit_done

  digit_count : (read ((48 + n) ∷ []) (lone 0 ∷ [])).answer ≡ says 0 (1 ∷ [])
  digit_count = digit_stands.count ∙ rw (sym (digit_stands.only (lone n ∷ []) (digit_means n h)))

  digit_row : (read ((48 + n) ∷ []) (lone 0 ∷ [])).row ≡ lone n ∷ []
  digit_row = digit_stands.holds ∙ rw (sym (digit_stands.only (lone n ∷ []) (digit_means n h)), over_is)

-- one that refuses every text
pub refuses_all : (read : Reader) → ((t : List ℕ) (row : List Allele) → number_of (read t row).answer ≡ 0 → ⊥) → Exact read → ⊥
refuses_all read r x = r _ _ (digit_done read x 0 (omega arith))

-- one that leaves the same row whatever the text is
pub one_row : (read : Reader) (left : List Allele → List Allele)
    → ((t : List ℕ) (row : List Allele) → number_of (read t row).answer ≡ 0 → (read t row).row ≡ left row) → Exact read → ⊥
one_row read left f x =
    let a = sym (f _ _ (digit_done read x 0 (omega arith))) ∙ digit_row read x 0 (omega arith) in
    let b = sym (f _ _ (digit_done read x 1 (omega arith))) ∙ digit_row read x 1 (omega arith) in
    let q : lone 0 ≡ lone 1 = cc in
    let z : ◌≡◌ {A = ℕ} 0 1 = ap (λ (a : Allele). a.number) q in
    omega arith

-- so one that leaves a fixed list
pub one_fixed_list : (read : Reader) (fixed : List Allele)
    → ((t : List ℕ) (row : List Allele) → number_of (read t row).answer ≡ 0 → (read t row).row ≡ fixed) → Exact read → ⊥
one_fixed_list read fixed = one_row read (λ row. fixed)

-- and one that lays it over the row
pub one_fixed_laid : (read : Reader) (fixed : List Allele)
    → ((t : List ℕ) (row : List Allele) → number_of (read t row).answer ≡ 0 → (read t row).row ≡ over fixed row) → Exact read → ⊥
one_fixed_laid read fixed = one_row read (λ row. over fixed row)

-- one that counts an allele too many
pub invented_count : (read : Reader)
    → ((t : List ℕ) (row : List Allele) (n : ℕ) → (reader t row).answer ≡ says 0 (n ∷ []) → (read t row).answer ≡ says 0 ((n + 1) ∷ []))
    → Exact read → ⊥
invented_count read f x =
    let a = f _ _ 1 (digit_count reader exact 0 (omega arith)) in
    let b = digit_count read x 0 (omega arith) in
    let z : ◌≡◌ {A = ℕ} 2 1 = cc in
    omega arith

-- `0|` is broken at its second piece
cut_broken : Broken (48 ∷ 124 ∷ []) 1 2
cut_broken =
    let w = (decimal_fault []).within in
    let z : fault_of [] ≡ 0 = omega arith in
    let f = rw z at (decimal_fault []) in
    bad_after (digit_body 0 true (omega arith))
    (bad_here true refl (record { no_bar = free_nil; no_slash = free_nil; ends = at_end; no_body = λ a c. absurd (omega (arith, body_some c)); fault = f }))

-- one that says of every bad text that its first piece is bad
pub invented_index : (read : Reader)
    → ((t : List ℕ) (row : List Allele) (k o : ℕ) → (reader t row).answer ≡ says 12 (k ∷ o ∷ []) → (read t row).answer ≡ says 12 (0 ∷ o ∷ []))
    → Refusals read → ⊥
unfolding Refusals
invented_index read f x =
    let a = f _ [] 1 2 (((refusals _ []).broken 1 2).1 cut_broken) in
    let b = ((x _ []).broken 1 2).1 cut_broken in
    let z : ◌≡◌ {A = ℕ} 0 1 = cc in
    omega arith

-- one whose place of a fault lies too far by one
pub invented_offset : (read : Reader)
    → ((t : List ℕ) (row : List Allele) (k o : ℕ) → (reader t row).answer ≡ says 12 (k ∷ o ∷ []) → (read t row).answer ≡ says 12 (k ∷ (o + 1) ∷ []))
    → Refusals read → ⊥
unfolding Refusals
invented_offset read f x =
    let a = f _ [] 1 2 (((refusals _ []).broken 1 2).1 cut_broken) in
    let b = ((x _ []).broken 1 2).1 cut_broken in
    let z : ◌≡◌ {A = ℕ} 3 2 = cc in
    omega arith

-- ---- readers checked against a count

-- `1` has a number above 0
one_above : MeansAbove 0 (49 ∷ []) 0
one_above = record { list = lone 1 ∷ []; means = digit_means 1 (omega arith); first = here {x = lone 1} (omega arith) }

-- one that never answers 20
pub unchecked : (read : Reader) → ((t : List ℕ) (row : List Allele) → number_of (read t row).answer ≡ 20 → ⊥) → Checked 0 read → ⊥
unchecked read n x = n _ [] (ap number_of ((x.above _ [] 0).1 one_above))

-- one that takes a site with no ALT for a site with one
pub one_too_many : (read : Reader) → Checked 1 read → Checked 0 read → ⊥
one_too_many read y x = by ((y.above _ [] 0).0 ((x.above _ [] 0).1 one_above))
  where
    by : MeansAbove 1 (49 ∷ []) 0 → ⊥
    by m = first (rw (means_one _ _ _ m.means (digit_means 1 (omega arith))) at m.first)
      where
        first : FirstAbove 1 (lone 1 ∷ []) 0 → ⊥
        first (here h) = omega arith

-- one that judges room before the numbers
pub room_first : (read : Reader) → ((t : List ℕ) (row : List Allele) → Longer t row → (read t row).answer ≡ says 17 []) → Checked 0 read → ⊥
room_first read f x =
    let a = f (49 ∷ []) [] (record { list = lone 1 ∷ []; means = digit_means 1 (omega arith); longer = omega arith }) in
    let b = (x.above _ [] 0).1 one_above in
    omega (arith, ap number_of (sym a ∙ b))
