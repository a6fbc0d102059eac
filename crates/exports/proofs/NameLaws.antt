-- A field by its number, and what its text answers; an ending by its number, and what is joined with it. Assumes nothing.
use Prim.Native.Nat.{ℕ, ◌<◌, ◌≤◌}
use mathlib.Core.Path.{◌≡◌, sym}
use mathlib.Core.List.{List, []}
use lib.ListN.{get_or-eq_default}
use native.Mathlib.Omega.{arith}
use borrow.Author.Tests.{le-leb, lt-leb}
use Rattle.std.specs.Prelude.{Result}
use Rattle.text.specs.Answer.{Answer, says}
use Rattle.text.specs.declared.range.Range.{Range}
use Rattle.record.specs.Ending.{Ending, ending_by}
use Rattle.record.specs.declared.place.Name.{Name}
use Rattle.record.specs.declared.place.Name.TheVariants as N
use Rattle.fields.specs.Fields.{text_answer}
use Rattle.join.specs.Join.{JoinsAt}
use Rattle.join.specs.Paper.{joined_paper}
use Rattle.join.specs.declared.columns.JoinError.{JoinError}
use Rattle.exports.specs.Told.{Tells, TellsWriting}
use Rattle.exports.specs.Places.{names, name_of, named_answer, ended_answer, ended_left}

-- the field of a number that is known, and of any other
pub name_is : {n k : ℕ} {x : Name} → n ≡ k → x ≡ name_of k → x ≡ name_of n
name_is e q = rw e q

past_four : (n : ℕ) → (n ≡ 0 → ⊥) → (n ≡ 1 → ⊥) → (n ≡ 2 → ⊥) → (n ≡ 3 → ⊥) → (n ≡ 4 → ⊥) → 5 ≤ n
past_four n a b c d e = omega arith

past_eight : (n : ℕ) → 5 ≤ n → (n ≡ 5 → ⊥) → (n ≡ 6 → ⊥) → (n ≡ 7 → ⊥) → (n ≡ 8 → ⊥) → 9 ≤ n
past_eight n k a b c d = omega arith

pub name_last : (n : ℕ) → (n ≡ 0 → ⊥) → (n ≡ 1 → ⊥) → (n ≡ 2 → ⊥) → (n ≡ 3 → ⊥) → (n ≡ 4 → ⊥) → (n ≡ 5 → ⊥) → (n ≡ 6 → ⊥) → (n ≡ 7 → ⊥)
    → (n ≡ 8 → ⊥) → N.Samples ≡ name_of n
unfolding name_of
name_last n a b c d e f g h i = sym (get_or-eq_default names N.Samples (past_eight n (past_four n a b c d e) f g h i))

module _ (s : List ℕ) (n : ℕ) (r : Range) {q : ℕ} {l l' : List ℕ} where
  pub named_none : 9 < n → Tells (says 10 []) l q l' → Tells (named_answer s n r) l q l'
  unfolding named_answer
  named_none h t = rw (lt-leb _ _ h) t

  pub named_text : {m : Name} {p : Answer} → n ≤ 9 → m ≡ name_of n → p ≡ text_answer s m r → Tells p l q l' → Tells (named_answer s n r) l q l'
  unfolding named_answer
  named_text h e f t = rw (le-leb _ _ h, ← e, ← f) t

-- ---- endings

module _ (t ends : List ℕ) (n at : ℕ) (out : List ℕ) {q : ℕ} {l l' : List ℕ} where
  pub ended_none : 2 < n → Tells (says 10 []) l q l' → TellsWriting (ended_answer t ends n at out) (ended_left t ends n at out) l q out l'
  unfolding ended_answer ended_left
  ended_none h k = record { told = rw (lt-leb _ _ h) k; output = rw (lt-leb _ _ h) }

  pub ended_joined : {m : ℕ} {e : Ending} {r : Result ℕ JoinError} {out' : List ℕ} → n ≤ 2 → m ≡ n → e ≡ ending_by m → JoinsAt t ends e at out r out' → Tells (joined_paper r) l q l'
      → TellsWriting (ended_answer t ends n at out) (ended_left t ends n at out) l q out' l'
  unfolding ended_answer ended_left
  ended_joined h q e j k = record { told = rw (le-leb _ _ h, ← q, ← e, ← j.answer) k; output = rw (le-leb _ _ h, ← q, ← e) j.bytes }

pub ruleset ending_laws = (ended_none, ended_joined)

pub ruleset laws = (named_none, named_text)
