-- Any two outcomes that a contract of this crate allows are equal: `paper` is injective. Assumes nothing.
use mathlib.Core.Path.{◌≡◌, refl, sym, ◌∙◌}
use Prim.Native.Nat.{ℕ}
use mathlib.Core.Bool.{Bool, true, false}
use Rattle.std.specs.Prelude.{Result, Ok, Err}
use Rattle.text.specs.Paper.{written_paper, utf8_paper, space_paper}
use Rattle.text.specs.Promises.{Determined}
use Rattle.text.specs.declared.copy.NoRoom.{NoRoom}
use Rattle.text.specs.declared.utf8.NotUtf8.{NotUtf8}

pub written_paper_injective : (r r' : Result ℕ NoRoom) → written_paper r ≡ written_paper r' → r ≡ r'
unfolding written_paper
written_paper_injective (Ok n) (Ok m) e = cc
written_paper_injective (Ok n) (Err d) e = cc
written_paper_injective (Err d) (Ok m) e = cc
written_paper_injective (Err d) (Err d') e = refl

pub utf8_paper_injective : (r r' : Result Unit NotUtf8) → utf8_paper r ≡ utf8_paper r' → r ≡ r'
unfolding utf8_paper
utf8_paper_injective (Ok u) (Ok v) e = refl
utf8_paper_injective (Ok u) (Err d) e = cc
utf8_paper_injective (Err d) (Ok v) e = cc
utf8_paper_injective (Err d) (Err d') e = refl

pub space_paper_injective : (r r' : Result Bool NotUtf8) → space_paper r ≡ space_paper r' → r ≡ r'
unfolding space_paper
space_paper_injective (Ok true) (Ok true) e = refl
space_paper_injective (Ok true) (Ok false) e = cc
space_paper_injective (Ok false) (Ok true) e = cc
space_paper_injective (Ok false) (Ok false) e = refl
space_paper_injective (Ok h) (Err d) e = cc
space_paper_injective (Err d) (Ok h) e = cc
space_paper_injective (Err d) (Err d') e = refl

pub determined : Determined
determined =
    record {
      copy = λ vs l r r' l' l'' w w'. (written_paper_injective r r' (w.answer ∙ sym w'.answer), w.bytes ∙ sym w'.bytes);
      check_utf8 = λ s r r' e e'. utf8_paper_injective r r' (e ∙ sym e');
      find_space = λ s r r' e e'. space_paper_injective r r' (e ∙ sym e');
      same_bytes = λ s t r r' e e'. e ∙ sym e';
    }
