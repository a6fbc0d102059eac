-- A step answers by the shape of the text from its place on: the allele that begins it is the first of its parts. So that shape
-- leaves one stepper. Assumes nothing.
use Prim.Native.Nat.{ℕ, ◌+◌, ◌-◌, ◌<◌}
use mathlib.Core.Path.{◌≡◌, refl, sym, ◌∙◌}
use mathlib.Core.List.{List, [], ◌∷◌, ◌++◌}
use mathlib.Core.Option.{Option, some}
use native.Mathlib.Omega.{arith}
use lib.ListN.{length, get_or, drop}
use Rattle.std.specs.Prelude.{Ok, Err}
use Rattle.text.specs.Answer.{says}
use Rattle.text.proofs.Lists.{here}
use Rattle.pieces.specs.Pieces.{lacks}
use Rattle.allele.specs.Reading.{head_of, bodied, allele_in, implied_by, implied_of, parts_of, fault_at, step_answer}
use Rattle.allele.specs.Paper.{Step, step_paper}
use Rattle.allele.specs.Means as M
use Rattle.allele.specs.Means.{Begins, Broken}
use Rattle.allele.specs.Demands.{Stepper, Steps, OneStepper}
use Rattle.allele.specs.declared.allele.Allele.{Allele}
use Rattle.allele.specs.declared.step.NoAllele.TheVariants as S
use Rattle.allele.proofs.PieceLaws.{parts_first}
use Rattle.allele.proofs.StepLaws.{StepTells, step_beyond, step_empty, step_nothing, Further, further_at, further_says, wrong_at, wrong_says, parts_open, answered, step_means, says_found, says_bad}
use Rattle.allele.proofs.BodyLaws.{body_quiet, body_some, body_bodied, marked_allele, Piece, with_mark, plain, allele_piece}
use Rattle.allele.proofs.CutLaws.{head_quiet, quiet_head}
use Rattle.allele.proofs.CutLaws as C
use Rattle.allele.proofs.MeansLaws.{quiet_implied}
use Rattle.allele.proofs.BrokenLaws as B
use Rattle.allele.proofs.BrokenLaws.{NoneAt, parts_broken, ends_head, behind, head_ends, head_whole, bare_parts}

-- ---- the allele that begins a text

first_begins : (b : ℕ) (s : List ℕ) (a : Allele) → allele_in (implied_by s) (b ∷ head_of s) ≡ some a → Begins (b ∷ s) a (length (b ∷ head_of s))
unfolding implied_by
first_begins b s a e = by (allele_piece (implied_by s) b (head_of s) a e)
  where
    by : Piece (implied_by s) b (head_of s) a → Begins (b ∷ s) a (length (b ∷ head_of s))
    by (with_mark m c) = rw (head_whole s) at (M.with_mark m c (head_ends s))
    by (plain m p c) =
        let q : lacks 47 (head_of s ++ behind s) ≡ lacks 47 (behind s) = quiet_implied (behind s) (quiet_head s) in
        rw (head_whole s) at (M.without (p ∙ (rw (head_whole s) at q)) c (head_ends s))

-- its parts begin with it, and it takes the first byte and those before the next mark
record First (u : List ℕ) (a : Allele) (n : ℕ) : Type 0 where
  others : List (Option Allele)
  parts : parts_of u ≡ some a ∷ others
  size : (b : ℕ) (s : List ℕ) → u ≡ b ∷ s → n ≡ length (b ∷ head_of s)

begins_first : {u : List ℕ} {a : Allele} {n : ℕ} → Begins u a n → First u a n
unfolding implied_by implied_of
begins_first (M.with_mark {b} {t} {rest} {a} m c e) =
    let h = head_quiet rest (body_quiet c) (ends_head e) in
    record {
      others = _;
      parts = rw (h, marked_allele (implied_by (t ++ rest)) m c) at (parts_first b (t ++ rest));
      size = λ d s q. let z : t ++ rest ≡ s = cc in rw (← z, h);
    }
begins_first (M.without {t} {rest} {a} p c e) = by t (body_quiet c) (body_some c) (body_bodied c)
  where
    by : (t : List ℕ) → C.Quiet t → 0 < length t → bodied a.phased t ≡ some a → First (t ++ rest) a (length t)
    by [] q h r = absurd (omega arith)
    by (b ∷ s) (C.more m q) h r =
        let i : implied_by (s ++ rest) ≡ a.phased = quiet_implied rest q ∙ sym p in
        record {
          others = _;
          parts = rw (i, r) at (bare_parts (b ∷ s) rest (C.more m q) h (ends_head e));
          size = λ d u z. let y : s ++ rest ≡ u = cc in rw (← y, head_quiet rest q (ends_head e));
        }

-- ---- the answers

module _ (t : List ℕ) (at : ℕ) (a : Allele) (n : ℕ) where
  further_begins : Further t at a (at + n) → Begins (drop at t) a n
  further_begins f =
      let z : n ≡ length (get_or t at 0 ∷ head_of (drop (at + 1) t)) = omega (arith, f.ends) in
      rw (here t at (omega (arith, f.past, f.within)), z) (first_begins (get_or t at 0) (drop (at + 1) t) a f.first)

  begins_further : Begins (drop at t) a n → Further t at a (at + n)
  begins_further g =
      let k = begins_first g in
      let o = parts_open t at k.parts in
      let f = further_at t at o.before a o.first in
      let s = k.size (get_or t at 0) (drop (at + 1) t) (here t at o.before) in
      let z : at + 1 + length (head_of (drop (at + 1) t)) ≡ at + n = omega arith in
      rw z at f

none_bad : (t : List ℕ) (at : ℕ) {ps : List (Option Allele)} {k : ℕ} → NoneAt ps k → k ≡ 0 → parts_of (drop at t) ≡ ps
    → step_answer t at ≡ says 12 ((at + fault_at (drop at t) 0) ∷ [])
none_bad t at B.here z e = let o = parts_open t at e in wrong_says (wrong_at t at o.before o.first)
none_bad t at (B.later n) z e = absurd (omega arith)

module _ (t : List ℕ) (at o : ℕ) where
  bad_broken : step_answer t at ≡ says 12 ((at + o) ∷ []) → Broken (drop at t) 0 o
  bad_broken e =
      let f = says_bad t at (at + o) e in
      (parts_broken (drop at t) 0 o).0 (rw f.parts B.here, omega (arith, f.there))

  broken_bad : Broken (drop at t) 0 o → step_answer t at ≡ says 12 ((at + o) ∷ [])
  broken_bad g = let p = (parts_broken (drop at t) 0 o).1 g in none_bad t at p.0 refl refl ∙ rw p.1

pub steps : Steps step_answer
unfolding Steps step_paper
steps t at =
    record {
      found = λ a n. (λ e. further_begins t at a n (says_found t at a (at + n) e), λ g. further_says (begins_further t at a n g));
      beyond = (λ e. step_means t at (Err S.Beyond) (sym e), λ h. sym (step_beyond t at h));
      ended = (λ e. let f = step_means t at (Err S.Nothing) (sym e) in (omega arith, f.is), λ g. sym (step_nothing t at (λ z. omega arith) g.1));
      empty = (λ e. let f = step_means t at (Err S.Empty) (sym e) in (f.none, f.start), λ g. sym (step_empty t at (omega (arith, g.1)) g.0));
      bad = λ o. (bad_broken t at o, broken_bad t at o);
    }

-- ---- one stepper

answers : (step : Stepper) → Steps step → (t : List ℕ) (at : ℕ) → step t at ≡ step_answer t at
unfolding Steps step_paper
answers step w t at = let g = answered t at in by g.step g.is g.tells
  where
    by : (x : Step) → step_paper x ≡ step_answer t at → StepTells t at x → step t at ≡ step_answer t at
    by (Ok (a, to)) e f =
        let z : at + (to - at) ≡ to = omega (arith, f.past) in
        rw z at (((w t at).found a (to - at)).1 (further_begins t at a (to - at) (rw z f))) ∙ e
    by (Err S.Beyond) e h = (w t at).beyond.1 h ∙ e
    by (Err S.Nothing) e f = (w t at).ended.1 ((steps t at).ended.0 (sym e)) ∙ e
    by (Err S.Empty) e f = (w t at).empty.1 (f.none, f.start) ∙ e
    by (Err (S.Bad fault)) e f =
        let o : ℕ = fault_at (drop at t) 0 in
        let z : step_answer t at ≡ says 12 ((at + o) ∷ []) = sym e ∙ rw f.there in
        ((w t at).bad o).1 (bad_broken t at o z) ∙ sym z

pub one_stepper : OneStepper
unfolding OneStepper
one_stepper step other w v t at = answers step w t at ∙ sym (answers other v t at)
