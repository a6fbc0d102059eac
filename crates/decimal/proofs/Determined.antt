-- Any two outcomes that a contract of this crate allows are equal: `paper` is injective, and printing is a promise of `text`. Assumes nothing.
use Prim.Native.Nat.{ℕ}
use mathlib.Core.Path.{◌≡◌, sym, ap, ◌∙◌}
use Rattle.std.specs.Prelude.{Result, Ok, Err}
use Rattle.text.proofs.Determined as T
use Rattle.decimal.specs.Paper.{number_paper}
use Rattle.decimal.specs.Promises.{Determined}
use Rattle.decimal.specs.Shortest.{shortest}
use Rattle.decimal.specs.declared.read.BadDecimal.{BadDecimal}
use Rattle.decimal.proofs.ReadLaws.{fault_at}

pub number_paper_injective : (r r' : Result ℕ BadDecimal) → number_paper r ≡ number_paper r' → r ≡ r'
unfolding number_paper
number_paper_injective (Ok n) (Ok m) e = cc
number_paper_injective (Ok n) (Err b) e = cc
number_paper_injective (Err b) (Ok m) e = cc
number_paper_injective (Err b) (Err c) e = let q : b.at ≡ c.at = cc in ap (λ (k : ℕ). Err (fault_at k)) q

pub determined : Determined
determined =
    record {
      read_digits = λ s r r' e e'. number_paper_injective r r' (e ∙ sym e');
      read_decimal = λ s r r' e e'. number_paper_injective r r' (e ∙ sym e');
      decimal_len = λ n r r' e e'. e ∙ sym e';
      print_decimal = λ n. (T.determined).copy (shortest n);
    }
