-- Two outcomes that a contract of this crate allows are equal: each can be read back from its paper, so no two have one paper; a
-- record from the numbers of its places. Assumes nothing.
use Prim.Native.Nat.{ℕ}
use mathlib.Core.Path.{◌≡◌, refl, sym, ap, ◌∙◌}
use mathlib.Core.List.{List, [], ◌∷◌}
use mathlib.Mathlib.Logic.Function.Defs.{LeftInverse-Injective}
use Rattle.std.specs.Prelude.{Ok, Err}
use lib.ListN.{get_or, drop}
use Rattle.text.specs.Answer.{Answer, says}
use Rattle.record.specs.Place.{numbers_of}
use Rattle.record.specs.Paper.{record_with}
use Rattle.line.specs.declared.read.Refusal.TheVariants as R
use Rattle.line.specs.Paper.{Lined, Read, lined_paper, read_paper}
use Rattle.line.specs.Promises.{KeepsNumbers, Determined}
use Rattle.record.proofs.NumberLaws.{record_values_lem}
use Rattle.record.proofs.Determined.{declared_by, ending_back, record_back}

-- ---- the line at a place

lined_by : ℕ → ℕ → ℕ → ℕ → Lined
lined_by n end k next = get_or (Ok (record { end = end; ending = declared_by k; next = next }) ∷ []) n (Err (record {}))

lined_of : Answer → Lined
lined_of (says n l) = lined_by n (get_or l 0 0) (get_or l 1 0) (get_or l 2 0)

lined_back : (x : Lined) → lined_of (lined_paper x) ≡ x
unfolding lined_of lined_by lined_paper
lined_back (Ok x) = rw (ending_back x.ending)
lined_back (Err e) = refl

pub lined_paper_injective : (r r' : Lined) → lined_paper r ≡ lined_paper r' → r ≡ r'
lined_paper_injective = LeftInverse-Injective lined_of lined_paper lined_back

-- ---- what reading finds

-- by the answer's number; the first value is the next place, the second the ending, and behind it are the places
read_by : ℕ → List ℕ → ℕ → Read
read_by n l next =
    get_or (Ok (record_with (declared_by (get_or l 1 0)) (numbers_of (drop 2 l)), next) ∷ Err (R.End next) ∷ Err (R.Empty next) ∷ Err (R.Fed next) ∷ Err (R.Cut next) ∷ Err (R.NotUtf8 next) ∷ []) n (Err (R.Beyond next))

read_of : Answer → Read
read_of (says n l) = read_by n l (get_or l 0 0)

read_back : (x : Read) → KeepsNumbers x → read_of (read_paper x) ≡ x
unfolding read_of read_by read_paper
read_back (Ok (r, next)) k = rw (record_values_lem r, ending_back r.ending, ← k r next refl, record_back r)
read_back (Err (R.End next)) k = refl
read_back (Err (R.Empty next)) k = refl
read_back (Err (R.Fed next)) k = refl
read_back (Err (R.Cut next)) k = refl
read_back (Err (R.NotUtf8 next)) k = refl
read_back (Err (R.Beyond next)) k = refl

pub read_paper_injective : (x y : Read) → KeepsNumbers x → KeepsNumbers y → read_paper x ≡ read_paper y → x ≡ y
read_paper_injective x y k m e = sym (read_back x k) ∙ ap read_of e ∙ read_back y m

pub determined : Determined
determined =
    record {
      line_at = λ s at r r' p q. lined_paper_injective r r' (p ∙ sym q);
      read_line = λ s at r r' p q. read_paper_injective r r' p.1 q.1 (p.0 ∙ sym q.0);
    }
