-- The alleles from a place on of a text that reads as a list: the one that a step finds, and those behind it. Assumes nothing.
use Prim.Native.Nat.{ℕ, ◌+◌, ◌≤◌, zero-le}
use mathlib.Core.Path.{◌≡◌, sym, ◌∙◌}
use mathlib.Core.List.{List, [], ◌∷◌}
use native.Mathlib.Omega.{arith}
use lib.ListN.{length, drop}
use Rattle.std.specs.Prelude.{Ok, Err}
use Rattle.allele.specs.Reading.{list, empty, gathered, reading_of, parts_of, step_answer, list_of}
use Rattle.allele.specs.Paper.{Step, step_paper}
use Rattle.allele.specs.declared.allele.Allele.{Allele}
use Rattle.allele.specs.declared.step.NoAllele.{NoAllele}
use Rattle.allele.specs.declared.step.NoAllele.TheVariants as S
use Rattle.allele.proofs.PieceLaws.{parts_end}
use Rattle.allele.proofs.StepLaws.{Further, step_means, found}
use Rattle.allele.proofs.ReadingLaws.{reading_some, reading_none, with_list, with_cons}
use Rattle.genotype.specs.Inner.{ListMeant}

-- those from `at` on, the first of which has index k
abbrev pub left_of : List ℕ → ℕ → ℕ → List Allele
left_of t at k = list_of (gathered k (parts_of (drop at t)))

-- k alleles are passed, and those from `at` on are a list
pub record Ahead (t : List ℕ) (at k : ℕ) : Type 0 where
  pub within : at ≤ length t
  pub few : k ≤ at
  pub meant : gathered k (parts_of (drop at t)) ≡ list (left_of t at k)

module _ (t : List ℕ) (m : ListMeant t) where
  -- the empty text is no list
  pub some_text : length t ≡ 0 → ⊥
  some_text h =
      let e : empty ≡ list (list_of (reading_of t)) = sym (reading_none t h) ∙ m.is in
      let z : ◌≡◌ {A = ℕ} 0 1 = cc in
      omega arith

  pub ahead_first : Ahead t 0 0
  ahead_first = record { within = zero-le; few = zero-le; meant = rw (reading_some t some_text) at m.is }

  pub left_first : left_of t 0 0 ≡ list_of (reading_of t)
  left_first = rw (reading_some t some_text)

-- a step that finds an allele
module _ {t : List ℕ} {at k : ℕ} (g : Ahead t at k) {a : Allele} {next : ℕ} (f : Further t at a next) where
  pub ahead_past : Ahead t next (k + 1)
  unfolding gathered
  ahead_past = record { within = f.within; few = omega arith; meant = with_list a _ (rw f.parts at g.meant) }

  pub left_past : left_of t at k ≡ a ∷ left_of t next (k + 1)
  unfolding gathered
  left_past = rw f.parts (with_cons a _ (rw f.parts at g.meant))

-- the same of a step that finds it
module _ {t : List ℕ} {at k : ℕ} (g : Ahead t at k) {x : Step} (e : step_paper x ≡ step_answer t at) {a : Allele} {next : ℕ} (q : x ≡ Ok (a, next)) where
  pub ahead_turn : Ahead t next (k + 1)
  ahead_turn = ahead_past g (found t at x e a next q)

  pub left_turn : left_of t at k ≡ a ∷ left_of t next (k + 1)
  left_turn = left_past g (found t at x e a next q)

-- at the text's end none is left
pub left_none : (t : List ℕ) (at k : ℕ) → length t ≤ at → left_of t at k ≡ []
unfolding gathered list_of
left_none t at k h = rw (parts_end t at h)

-- where a step finds no allele, neither
pub left_end : (t : List ℕ) (at k : ℕ) (x : Step) → Ahead t at k → step_paper x ≡ step_answer t at → (y : NoAllele) → x ≡ Err y → left_of t at k ≡ []
unfolding gathered list_of
left_end t at k x g e y q = by y (rw q at e)
  where
    by : (y : NoAllele) → step_paper (Err y) ≡ step_answer t at → left_of t at k ≡ []
    by S.Beyond e = absurd (let f = step_means t at (Err S.Beyond) e in let w = g.within in omega arith)
    by S.Nothing e = let f = step_means t at (Err S.Nothing) e in left_none t at k (omega arith)
    by S.Empty e = let f = step_means t at (Err S.Empty) e in left_none t at k (omega arith)
    by (S.Bad fault) e = let f = step_means t at (Err (S.Bad fault)) e in rw f.parts
