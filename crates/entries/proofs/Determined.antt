-- Any two outcomes that a contract of this crate allows are equal: they have one paper, and a part is one of its range. Assumes nothing.
use Prim.Native.Nat.{ℕ}
use mathlib.Core.Path.{◌≡◌, refl, sym, ap, ◌∙◌}
use mathlib.Core.Bool.{true, false≢true, Bool-set}
use mathlib.Core.HLevel.{is_prop→PathP}
use mathlib.Core.List.{List}
use lib.ListN.{length}
use denote.Ref.{Bor}
use Rattle.std.specs.Prelude.{Ok, Err}
use Rattle.text.specs.Outcome.{OneAnswer}
use Rattle.text.proofs.PartLaws.{one_part}
use Rattle.text.proofs.Determined as T
use Rattle.pieces.specs.Pieces.{joined}
use Rattle.entries.specs.Entries.{rising, entry_list}
use Rattle.entries.specs.Inner.{entry_range}
use Rattle.entries.specs.Promises.{MakesList, Determined}
use Rattle.entries.specs.declared.list.Entries.{Entries}
use Rattle.entries.proofs.JoinedLaws.{rising_here}
use Rattle.entries.proofs.PaperLaws.{ends_paper_injective, entry_paper_injective, joined_paper_injective}

-- a list is its text and its ends: that they rise is told in one way only
same_list : {x y : Entries} → x.text ≡ y.text → x.ends ≡ y.ends → x ≡ y
same_list {x} {y} p q =
    λ i. record {
      text = p i;
      ends = q i;
      rise = is_prop→PathP (λ j. rising 0 (q j).now (length (p j).now) ≡ true) (λ j. Bool-set (rising 0 (q j).now (length (p j).now)) true) x.rise y.rise i;
    }

one_list : (text ends : Bor (List ℕ)) → OneAnswer (MakesList text ends)
one_list text ends (Ok x) (Ok y) m n = ap Ok (same_list (m.0 ∙ sym n.0) (m.1 ∙ sym n.1))
one_list text ends (Ok x) (Err e) m n = absurd (false≢true (sym n ∙ rising_here x m))
one_list text ends (Err e) (Ok y) m n = absurd (false≢true (sym m ∙ rising_here y n))
one_list text ends (Err e) (Err d) m n = refl

pub determined : Determined
determined =
    record {
      judge_ends = λ t ends r r' e e'. ends_paper_injective r r' (e ∙ sym e');
      entry_at = λ t ends i r r' e e'. entry_paper_injective r r' (e ∙ sym e');
      entry_text = λ text ends i. one_part text (entry_range text.now ends i);
      new = one_list;
      get = λ list i r r' g g'. one_part list.text (entry_range list.text.now list.ends.now i) r r' g.part g'.part;
      put = λ separator list. (T.determined).copy (joined separator (entry_list list.text.now list.ends.now));
      put_joined = λ b t ends l r r' l' l'' w w'. (joined_paper_injective r r' (w.answer ∙ sym w'.answer), w.bytes ∙ sym w'.bytes);
    }
