-- Any two outcomes that a contract of this crate allows are equal: no two answers have one paper. Assumes nothing.
use Prim.Native.Nat.{ℕ}
use mathlib.Core.Path.{◌≡◌, refl, sym, ◌∙◌}
use Rattle.std.specs.Prelude.{Result, Ok, Err, Option, Some, None}
use Rattle.numbers.specs.Paper.{row_paper, ask_paper}
use Rattle.numbers.specs.Promises.{Determined}
use Rattle.numbers.specs.declared.row.RowError.{RowError}
use Rattle.numbers.specs.declared.row.RowError.TheVariants as R
use Rattle.numbers.specs.declared.ask.Ask.{Ask}
use Rattle.numbers.specs.declared.ask.Ask.TheVariants as A

row_paper_injective : (r r' : Result ℕ RowError) → row_paper r ≡ row_paper r' → r ≡ r'
unfolding row_paper
row_paper_injective (Ok n) (Ok m) e = cc
row_paper_injective (Ok n) (Err R.Beyond) e = cc
row_paper_injective (Ok n) (Err R.NoGenotype) e = cc
row_paper_injective (Ok n) (Err R.Full) e = cc
row_paper_injective (Err R.Beyond) (Ok m) e = cc
row_paper_injective (Err R.Beyond) (Err R.Beyond) e = refl
row_paper_injective (Err R.Beyond) (Err R.NoGenotype) e = cc
row_paper_injective (Err R.Beyond) (Err R.Full) e = cc
row_paper_injective (Err R.NoGenotype) (Ok m) e = cc
row_paper_injective (Err R.NoGenotype) (Err R.Beyond) e = cc
row_paper_injective (Err R.NoGenotype) (Err R.NoGenotype) e = refl
row_paper_injective (Err R.NoGenotype) (Err R.Full) e = cc
row_paper_injective (Err R.Full) (Ok m) e = cc
row_paper_injective (Err R.Full) (Err R.Beyond) e = cc
row_paper_injective (Err R.Full) (Err R.NoGenotype) e = cc
row_paper_injective (Err R.Full) (Err R.Full) e = refl

ask_paper_injective : (r r' : Option Ask) → ask_paper r ≡ ask_paper r' → r ≡ r'
unfolding ask_paper
ask_paper_injective (Some (A.All p n c)) (Some (A.All q m d)) e = cc
ask_paper_injective (Some (A.All p n c)) (Some (A.One j)) e = cc
ask_paper_injective (Some (A.All p n c)) None e = cc
ask_paper_injective (Some (A.One i)) (Some (A.All q m d)) e = cc
ask_paper_injective (Some (A.One i)) (Some (A.One j)) e = cc
ask_paper_injective (Some (A.One i)) None e = cc
ask_paper_injective None (Some (A.All q m d)) e = cc
ask_paper_injective None (Some (A.One j)) e = cc
ask_paper_injective None None e = refl

pub determined : Determined
determined =
    record {
      put_row = λ i p n out at r r' l l' h h'. (row_paper_injective r r' (h.answer ∙ sym h'.answer), h.bytes ∙ sym h'.bytes);
      asked = λ s t r r' e e'. ask_paper_injective r r' (e ∙ sym e');
    }
