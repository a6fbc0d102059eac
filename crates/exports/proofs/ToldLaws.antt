-- An answer told is told as any other that it is equal to, beside what a writer or a reader leaves. Assumes nothing.
use Prim.Native.Nat.{ℕ}
use mathlib.Core.Path.{◌≡◌}
use mathlib.Core.Bool.{Bool, true, false}
use mathlib.Core.List.{List, [], ◌∷◌}
use Rattle.std.specs.Prelude.{Result, Ok}
use Rattle.std.specs.Int.{from_bool}
use Rattle.text.specs.Answer.{Answer, says}
use Rattle.text.specs.Over.{laid}
use Rattle.text.specs.Paper.{space_paper}
use Rattle.text.specs.declared.utf8.NotUtf8.{NotUtf8}
use Rattle.text.proofs.CaseLaws.{space_held, space_free}
use Rattle.allele.specs.Row.{numbers_of, missing_of, phased_of}
use Rattle.allele.specs.declared.allele.Allele.{Allele}
use Rattle.exports.specs.Told.{Tells, TellsWriting, TellsReading}

module _ {r : ℕ} {l l' : List ℕ} where
  -- what was told is what the answer says on paper
  pub told_case : {a p : Answer} → a ≡ p → Tells p l r l' → Tells a l r l'
  told_case e t = rw e t

  -- an answer's paper is what the entry is to answer
  pub told_as : {a p : Answer} → p ≡ a → Tells p l r l' → Tells a l r l'
  told_as e t = rw (← e) t

  -- a value, or a number, that is known by another name
  pub told_one : {a : Answer} {m n number : ℕ} → m ≡ n → a ≡ says number (n ∷ []) → Tells (says number (m ∷ [])) l r l' → Tells a l r l'
  told_one q e t = rw (e, ← q) t

  pub told_number : {a : Answer} {vs : List ℕ} {m n : ℕ} → m ≡ n → a ≡ says n vs → Tells (says m vs) l r l' → Tells a l r l'
  told_number q e t = rw (e, ← q) t

  -- what the writer, or the reader, that is called leaves
  pub told_writing : {a p : Answer} {left out' : List ℕ} → p ≡ a → out' ≡ left → Tells p l r l' → TellsWriting a left l r out' l'
  told_writing e q t = record { told = told_as e t; output = q }

  pub told_reading : {a q : Answer} {as' : List Allele} {n m p n' m' p' : List ℕ} → q ≡ a → n' ≡ laid a (numbers_of as') n → m' ≡ laid a (missing_of as') m
      → p' ≡ laid a (phased_of as') p → Tells q l r l' → TellsReading a as' n m p l r n' m' p' l'
  told_reading e f g h t = record { told = told_as e t; numbers = f; missing = g; phased = h }

-- a text's white space, as a number
pub space_found : {x : Result Bool NotUtf8} (held : Bool) → x ≡ Ok held → space_paper x ≡ says 0 (from_bool held ∷ [])
space_found true e = space_held e
space_found false e = space_free e

pub ruleset arms = (told_case, told_one, told_number)

pub ruleset laws = (told_as, told_writing, told_reading)
