-- Writing a list from a place of an output on: beyond it, or at the start of the rest; and our writer says no more. Assumes nothing.
use Prim.Native.Nat.{ℕ, ◌-◌, ◌≤◌, ◌<◌}
use native.Mathlib.Nat.{le_refl}
use mathlib.Core.Path.{◌≡◌, refl, ◌∙◌}
use mathlib.Core.Bool.{Bool}
use mathlib.Core.List.{List, ◌++◌, append-nil}
use lib.ListN.{length, take, drop, length-drop, drop_of_length-le}
use borrow.Author.Tests.{le-leb, lt-leb}
use borrow.Rule.Slice.PartMut.{put_mid}
use Rattle.text.proofs.Lists.{rest_all}
use Rattle.text.proofs.CopyLaws.{rest_laid}
use Rattle.allele.specs.declared.allele.Allele.{Allele}
use Rattle.spelling.specs.Spelling.{spell}
use Rattle.spelling.specs.Permitted.{from44}
use Rattle.spelling.specs.Inner.{WritesList}
use Rattle.spelling.specs.Paper.{write_paper}
use Rattle.spelling.specs.Write.{spelled_answer, text_of, list_answer, list_left}
use Rattle.spelling.specs.Demands.{writer}
use Rattle.std.specs.Prelude.{Result, Err}
use Rattle.spelling.specs.declared.write.WriteError.{WriteError}
use Rattle.spelling.specs.declared.write.WriteError.TheVariants as W

pub record ListOutcome (as' : List Allele) (late : Bool) (out : List ℕ) (at : ℕ) (r : Result ℕ WriteError) (out' : List ℕ) : Type 0 where
  pub answer : write_paper r ≡ list_answer as' late out at
  pub bytes : out' ≡ list_left as' late out at

module _ (as' : List Allele) (late : Bool) (out : List ℕ) (at : ℕ) where
  pub list_beyond : length out < at → ListOutcome as' late out at (Err W.Beyond) out
  unfolding write_paper list_answer
  list_beyond h = record { answer = rw (lt-leb _ _ h); bytes = rw (lt-leb _ _ h) }

  -- what is written at the start of the rest, said of the whole
  pub list_rest : {r : Result ℕ WriteError} {ys : List ℕ} → at ≤ length out → WritesList as' late (drop at out) r ys → ListOutcome as' late out at r (take at out ++ ys)
  unfolding list_answer
  list_rest {ys = ys} h w =
      record {
        answer = rw (le-leb _ _ h) w.answer;
        bytes = rw (le-leb _ _ h) (back ∙ rest_laid (spelled_answer (spell late as') (drop at out)) at (text_of (spell late as')) out ys (rw (rest_all out at) w.bytes));
      }
    where
      back : take at out ++ ys ≡ put_mid at (length out - at) out ys
      back = let n : length (drop at out) ≤ length out - at = simp length-drop (le_refl _) in rw (drop_of_length-le (drop at out) n, append-nil)

-- ---- our writer

module _ (major minor : ℕ) (as' : List Allele) (out : List ℕ) (at : ℕ) where
  pub writer_answer : (writer major minor as' out at).answer ≡ list_answer as' (from44 major minor) out at
  unfolding writer
  writer_answer = refl

  pub writer_output : (writer major minor as' out at).output
      ≡ list_left as' (from44 major minor) out at
  unfolding writer
  writer_output = refl
