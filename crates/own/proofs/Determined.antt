-- Any two outcomes that a contract of this crate allows are equal, by those of `alleles`. Assumes nothing.
use mathlib.Core.Path.{◌≡◌, sym, ◌∙◌}
use lib.ListN.{drop}
use Rattle.alleles.proofs.Determined.{one_read, one_written}
use Rattle.own.specs.Promises.{Determined}
use Rattle.own.specs.declared.read.Filled.{Filled}

-- a row by value
one_filled : {r r' : Filled} → r.answer ≡ r'.answer → r.row ≡ r'.row → r ≡ r'
one_filled p q = λ i. record { answer = p i; row = q i }

pub determined : Determined
determined =
    record {
      read_own = λ t row from r r' w w'. one_filled (one_read r.answer r'.answer w.answer w'.answer) (w.records ∙ sym w'.records);
      read_own_checked =
          λ t alt row from r r' w w'. one_filled (one_read r.answer r'.answer w.answer w'.answer) (w.records ∙ sym w'.records);
      write_own = λ row from. one_written (drop from row);
    }
