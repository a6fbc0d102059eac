-- What each answer says on paper, for who knows which it is. Assumes nothing.
use Rattle.std.specs.Prelude.{Ok, Err}
use Prim.Native.Nat.{ℕ}
use mathlib.Core.Path.{◌≡◌, refl, ◌∙◌}
use mathlib.Core.List.{[], ◌∷◌}
use Rattle.text.specs.Answer.{says}
use Rattle.record.specs.Place.{range_of}
use Rattle.record.specs.Ending.{ending_number}
use Rattle.record.specs.Paper.{ending_of, record_values}
use Rattle.record.specs.declared.place.Record.{Record}
use Rattle.record.specs.declared.place.Name.TheVariants as N
use Rattle.line.specs.declared.read.Refusal.TheVariants as R
use Rattle.line.specs.Paper.{Read, read_paper}
use Rattle.record.proofs.NumberLaws.{record_values_lem}
use Rattle.record.proofs.SpanLaws.{places_told}

module _ {x : Read} where
  pub read_record : {r : Record} {next : ℕ} → x ≡ Ok (r, next) → read_paper x ≡ says 0 (next ∷ record_values r)
  unfolding read_paper
  read_record e = rw e

  -- the same, value by value
  pub read_line : {r : Record} {next : ℕ} → x ≡ Ok (r, next) → read_paper x ≡ says 0 (next ∷ ending_number (ending_of r.ending) ∷ (range_of r N.Chrom).start ∷ (range_of r N.Chrom).len ∷ (range_of r N.Pos).start ∷ (range_of r N.Pos).len ∷ (range_of r N.Id).start ∷ (range_of r N.Id).len ∷ (range_of r N.Reference).start ∷ (range_of r N.Reference).len ∷ (range_of r N.Alt).start ∷ (range_of r N.Alt).len ∷ (range_of r N.Qual).start ∷ (range_of r N.Qual).len ∷ (range_of r N.Filter).start ∷ (range_of r N.Filter).len ∷ (range_of r N.Info).start ∷ (range_of r N.Info).len ∷ (range_of r N.Format).start ∷ (range_of r N.Format).len ∷ (range_of r N.Samples).start ∷ (range_of r N.Samples).len ∷ [])
  read_line {r} e = read_record e ∙ rw (record_values_lem r, ← places_told r refl refl refl refl refl refl refl refl refl refl)

  pub read_end : {next : ℕ} → x ≡ Err (R.End next) → read_paper x ≡ says 1 (next ∷ [])
  unfolding read_paper
  read_end e = rw e

  pub read_empty : {next : ℕ} → x ≡ Err (R.Empty next) → read_paper x ≡ says 2 (next ∷ [])
  unfolding read_paper
  read_empty e = rw e

  pub read_fed : {next : ℕ} → x ≡ Err (R.Fed next) → read_paper x ≡ says 3 (next ∷ [])
  unfolding read_paper
  read_fed e = rw e

  pub read_cut : {next : ℕ} → x ≡ Err (R.Cut next) → read_paper x ≡ says 4 (next ∷ [])
  unfolding read_paper
  read_cut e = rw e

  pub read_broken : {next : ℕ} → x ≡ Err (R.NotUtf8 next) → read_paper x ≡ says 5 (next ∷ [])
  unfolding read_paper
  read_broken e = rw e

  pub read_beyond : {next : ℕ} → x ≡ Err (R.Beyond next) → read_paper x ≡ says 6 (next ∷ [])
  unfolding read_paper
  read_beyond e = rw e

pub ruleset cases = (read_line, read_end, read_empty, read_fed, read_cut, read_broken, read_beyond)
