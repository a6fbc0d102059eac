-- Functions that the demands refuse, each on one form: ten fields of one byte, which can be made; ten empty places at 0, which cannot.
-- Assumes nothing.
use Prim.Native.Nat.{ℕ}
use mathlib.Core.Path.{◌≡◌, refl, ap}
use native.Mathlib.Omega.{arith}
use lib.ListN.{take}
use Rattle.text.specs.Answer.{Answer, number_of}
use Rattle.text.specs.Range.{range_at}
use Rattle.record.specs.Ending.{nothing}
use Rattle.record.specs.declared.ending.Ending.TheVariants as E
use Rattle.line.specs.Demands as Line
use Rattle.line.specs.Demands.{Reader}
use Rattle.record.proofs.EndingLaws.{nothing_bytes}
use Rattle.forms.specs.Form.{end_at, chained_from, chained}
use Rattle.forms.specs.Paper.{wide_places}
use Rattle.forms.specs.Demands.{Narrows}
use Rattle.forms.specs.declared.wide.Wide.{Wide}
use Rattle.forms.proofs.ChainLaws.{chain_some}
use Rattle.forms.proofs.FormLaws.{Fields, full, eight, MadeForm}
use Rattle.forms.proofs.Inputs.{makes_form, form_of_lem}

-- ---- ten fields of one byte

-- an old form with one length at each start
form_of : (ℕ → ℕ) → ℕ → Wide
form_of start len =
    record {
      ending = E.Nothing;
      chrom = range_at (start 0) len;
      pos = range_at (start 2) len;
      id = range_at (start 4) len;
      reference = range_at (start 6) len;
      alt = range_at (start 8) len;
      qual = range_at (start 10) len;
      filter = range_at (start 12) len;
      info = range_at (start 14) len;
      format = range_at (start 16) len;
      samples = range_at (start 18) len;
    }

ones : Wide
ones = form_of (λ i. i) 1

ones_form : MadeForm nothing (wide_places ones)
unfolding ones form_of wide_places chained chained_from end_at
ones_form = record { ten = refl; fields = full refl; within = rw nothing_bytes (omega arith) }

-- one that refuses every form is no narrower
pub refuses_all : (read : Reader) → Line.Meets read → (narrow : Wide → Answer) → ((w : Wide) → number_of (narrow w) ≡ 32) → Narrows read narrow → ⊥
unfolding ones form_of
refuses_all read g narrow refuses n =
    let z = ap number_of (n.made ones (form_of_lem read g ones_form)) in
    omega (arith, refuses ones)

-- ---- empty places

zeros : Wide
zeros = form_of (λ i. 0) 0

zeros_none : MadeForm nothing (wide_places zeros) → ⊥
unfolding zeros form_of wide_places chained
zeros_none m = by m.fields
  where
    by : Fields (wide_places zeros) → ⊥
    by (full c) = let z = chain_some 0 (wide_places zeros) c 0 (omega arith) in omega arith
    by (eight c b) = let z = chain_some 0 (take 16 (wide_places zeros)) c 0 (omega arith) in omega arith

-- nor is one that takes every form
pub takes_all : (read : Reader) → Line.Meets read → (narrow : Wide → Answer) → ((w : Wide) → number_of (narrow w) ≡ 0) → Narrows read narrow → ⊥
unfolding zeros form_of
takes_all read g narrow takes n =
    let z = ap number_of (n.other zeros (λ k. zeros_none (makes_form read g k))) in
    omega (arith, takes zeros)
