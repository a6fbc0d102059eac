-- Any two outcomes that a contract of this crate allows are equal: no two steps have one paper, a struct is its fields, and `Shows` gives a slice's place and its bytes. Assumes nothing.
use Prim.Native.Nat.{ℕ}
use mathlib.Core.Path.{◌≡◌, sym, ap₂, ◌∙◌}
use mathlib.Core.List.{List}
use denote.Ref.{Bor}
use Rattle.text.specs.Outcome.{OneAnswer}
use Rattle.text.proofs.PartLaws.{one_part}
use Rattle.info.specs.Value.{shown}
use Rattle.info.specs.Promises.{TakesStep, Determined}
use Rattle.info.specs.declared.step.Told.{Told}
use Rattle.info.specs.declared.reader.Reader.{Reader}
use Rattle.info.proofs.PaperLaws.{step_paper_injective}

one_step : (t : List ℕ) (at : ℕ) → OneAnswer (TakesStep t at)
one_step t at r r' e e' = step_paper_injective r r' (e ∙ sym e')

-- a reader is its column and its place
same_reader : {r r' : Reader} → r.column ≡ r'.column → r.at ≡ r'.at → r ≡ r'
same_reader c n = ap₂ reader_at c n
  where
    reader_at : Bor (List ℕ) → ℕ → Reader
    reader_at c n = record { column = c; at = n }

pub determined : Determined
determined =
    record {
      step_at = one_step;
      tell = λ step r r' e e'. ap₂ told (e.number ∙ sym e'.number) (e.next ∙ sym e'.next);
      find = λ t key r r' e e'. step_paper_injective r r' (e ∙ sym e');
      value_place = λ t key r r' p p'. p.is ∙ sym p'.is;
      value = λ column key. one_part column (shown column.now key);
      count = λ t r r' e e'. e ∙ sym e';
      «open» = λ column r r' e e'. same_reader (e.0 ∙ sym e'.0) (e.1 ∙ sym e'.1);
      moved = λ reader at r r' e e'. same_reader (e.0 ∙ sym e'.0) (e.1 ∙ sym e'.1);
      next = λ reader. one_step reader.column.now reader.at;
      step_from = one_step;
    }
  where
    told : ℕ → ℕ → Told
    told n m = record { number = n; next = m }
