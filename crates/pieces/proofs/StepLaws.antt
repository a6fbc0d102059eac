-- One step: where the first piece ends, and each way through the step; and what an answer tells, by cases of the definition. Assumes nothing.
use Prim.Native.Nat.{ℕ, zero, suc, ◌+◌, ◌-◌, ◌<◌, ◌≤◌}
use mathlib.Core.Path.{◌≡◌, refl, sym, ap, ◌∙◌}
use mathlib.Core.List.{List, [], ◌∷◌, ◌++◌, append-nil}
use mathlib.Core.Bool.{Bool, true, false}
use native.Mathlib.Omega.{arith}
use native.Mathlib.Nat.{add_assoc}
use lib.ListN.{length, take, drop, length-append, length-drop}
use lib.Seq.{take-append_seam, take-length, drop-append-add, drop-drop}
use lib.Dec.{eqb, leb}
use borrow.Author.Tests.{le-leb, lt-leb, leb-true, leb-false, eq-eqb, ne_eqb, eqb-true, eqb-false}
use Rattle.text.specs.Answer.{says}
use Rattle.text.specs.Range.{cut}
use Rattle.text.specs.declared.range.Range.{Range}
use Rattle.text.proofs.Lists.{cut_is}
use Rattle.pieces.specs.Inner.{quiet_length}
use Rattle.pieces.specs.Pieces.{split, joined, piece_answer, inner_answer, step_answer}
use Rattle.pieces.specs.Demands.{Free}
use Rattle.pieces.specs.Paper.{step_paper}
use Rattle.pieces.proofs.PaperLaws.{step_paper_injective}
use Rattle.pieces.proofs.BlockLaws.{quiet_cons, quiet_none_left}
use Rattle.pieces.proofs.PieceLaws.{free_head, free_tail, first_free, split_nil, one_text_lem, more_text, more_rest}
use Rattle.std.specs.Prelude.{Result, Ok, Err}
use Rattle.pieces.specs.declared.step.Piece.{Piece}
use Rattle.pieces.specs.declared.step.Piece.TheVariants.{More, Last}
use Rattle.pieces.specs.declared.step.NoPiece.{NoPiece}
use Rattle.pieces.specs.declared.step.NoPiece.TheVariants.{Nothing, Beyond}

-- ---- the first piece

quiet_free : {b : ℕ} (p s : List ℕ) → Free b p → quiet_length b b (p ++ s) ≡ length p + quiet_length b b s
quiet_free [] s f = omega arith
quiet_free (a ∷ p) s f = rw (quiet_cons, ne_eqb _ _ (free_head f), quiet_free p s (free_tail f)) (omega arith)

-- it ends where the first separator stands, or with the text
first_length : (b : ℕ) (t : List ℕ) {p : List ℕ} (ps : List (List ℕ)) → split b t ≡ p ∷ ps → length p ≡ quiet_length b b t
first_length b t {p} [] e = rw (one_text_lem b e) (omega (arith, rw (append-nil, quiet_none_left) at (quiet_free p [] (first_free b t e))))
first_length b t {p} (q ∷ ps) e =
    rw (more_text b t e) (omega (arith, rw (quiet_cons, eq-eqb b b refl) at (quiet_free p (b ∷ joined b (q ∷ ps)) (first_free b t e))))

-- ---- the pieces from a place on

module _ (b : ℕ) (t : List ℕ) (at : ℕ) {p : List ℕ} where
  -- the first piece stands at the place
  pub first_taken : (ps : List (List ℕ)) → split b (drop at t) ≡ p ∷ ps → take (length p) (drop at t) ≡ p
  first_taken [] e = rw (one_text_lem b e) (take-length p)
  first_taken (q ∷ ps) e = rw (more_text b (drop at t) e) (take-append_seam p _)

  -- the last piece goes to the end of the text
  pub last_length : split b (drop at t) ≡ p ∷ [] → length p ≡ length t - at
  last_length e = rw (← one_text_lem b e) (length-drop at t)

  module _ {q : List ℕ} {ps : List (List ℕ)} (e : split b (drop at t) ≡ p ∷ q ∷ ps) where
    -- any other ends before a separator of the text
    pub next_within : at + length p + 1 ≤ length t
    next_within =
        let l = length-drop at t in
        omega (arith, simp length-append at (ap length (more_text b (drop at t) e)))

    -- past which the other pieces stand
    pub next_pieces : split b (drop (at + length p + 1) t) ≡ q ∷ ps
    next_pieces =
        rw (add_assoc, ← drop-drop (length p + 1) at t, more_text b (drop at t) e, drop-append-add p _ 1)
        (more_rest b (drop at t) e)

-- ---- what a step answers

inner : (b : ℕ) (t : List ℕ) (at : ℕ) → at ≤ length t → step_answer b t at ≡ inner_answer b t at
unfolding step_answer
inner b t at h = rw (le-leb _ _ h)

first : (b : ℕ) (t : List ℕ) (at : ℕ) → at ≤ length t → 0 < length t → step_answer b t at ≡ piece_answer at (split b (drop at t))
unfolding inner_answer
first b [] at h n = absurd (omega arith)
first b (a ∷ s) at h n = inner b (a ∷ s) at h

module _ (b : ℕ) (t : List ℕ) (at : ℕ) {p : List ℕ} where
  -- the last piece, where one is left
  pub step_last : at ≤ length t → 0 < length t → split b (drop at t) ≡ p ∷ [] → step_answer b t at ≡ says 0 (at ∷ length p ∷ [])
  unfolding piece_answer
  step_last h n e = first b t at h n ∙ rw e

  -- the first piece and the place past its separator, where more are left
  pub step_more : {q : List ℕ} {ps : List (List ℕ)} → split b (drop at t) ≡ p ∷ q ∷ ps → step_answer b t at ≡ says 0 (at ∷ length p ∷ (at + length p + 1) ∷ [])
  unfolding piece_answer
  step_more e = let w = next_within b t at e in first b t at (omega arith) (omega arith) ∙ rw e

-- nothing, where the text is empty
pub step_none : (b : ℕ) (t : List ℕ) (at : ℕ) → at ≤ length t → length t ≡ 0 → step_answer b t at ≡ says 10 []
unfolding inner_answer
step_none b [] at h n = inner b [] at h
step_none b (a ∷ s) at h n = absurd (omega arith)

-- ---- each way through the step

pub finds_beyond : (b : ℕ) (t : List ℕ) (at : ℕ) → length t < at → step_paper (Err Beyond) ≡ step_answer b t at
unfolding step_paper step_answer
finds_beyond b t at h = rw (lt-leb _ _ h)

pub finds_nothing : (b : ℕ) (t : List ℕ) (at : ℕ) → at ≤ length t → length t ≡ 0 → step_paper (Err Nothing) ≡ step_answer b t at
unfolding step_paper
finds_nothing b t at h n = sym (step_none b t at h n)

module _ (b : ℕ) (t : List ℕ) (at : ℕ) {end : ℕ} (h : at ≤ length t) (n : length t ≡ 0 → ⊥)
    (e : end ≡ at + quiet_length b b (drop at t)) where
  pub finds_last : end ≡ length t → step_paper (Ok (Last (record { start = at; len = end - at }))) ≡ step_answer b t at
  unfolding step_paper
  finds_last f = by (split b (drop at t)) refl
    where
      by : (ps : List (List ℕ)) → split b (drop at t) ≡ ps → says 0 (at ∷ (end - at) ∷ []) ≡ step_answer b t at
      by [] s = absurd (split_nil b _ s)
      by (p ∷ []) s =
          let k = first_length b (drop at t) [] s in
          let l : end - at ≡ length p = omega arith in
          rw l (sym (step_last b t at h (omega arith) s))
      by (p ∷ q ∷ ps) s =
          let k = first_length b (drop at t) (q ∷ ps) s in
          let w = next_within b t at s in
          absurd (omega arith)

  pub finds_more : (end ≡ length t → ⊥) → step_paper (Ok (More (record { start = at; len = end - at }) (end + 1))) ≡ step_answer b t at
  unfolding step_paper
  finds_more f = by (split b (drop at t)) refl
    where
      by : (ps : List (List ℕ)) → split b (drop at t) ≡ ps → says 0 (at ∷ (end - at) ∷ (end + 1) ∷ []) ≡ step_answer b t at
      by [] s = absurd (split_nil b _ s)
      by (p ∷ []) s = let k = first_length b (drop at t) [] s in let w = last_length b t at s in absurd (omega arith)
      by (p ∷ q ∷ ps) s =
          let k = first_length b (drop at t) (q ∷ ps) s in
          let l : end - at ≡ length p = omega arith in
          rw (l, e, ← k) (sym (step_more b t at s))

-- ---- what an answer tells

-- a piece, and the place past its separator
pub record Further (b : ℕ) (t : List ℕ) (at : ℕ) (r : Range) (next : ℕ) : Type 0 where
  pub start : r.start ≡ at
  pub past : next ≡ at + r.len + 1
  pub within : next ≤ length t
  pub pieces : split b (drop at t) ≡ cut r t ∷ split b (drop next t)

-- the last piece
pub record Final (b : ℕ) (t : List ℕ) (at : ℕ) (r : Range) : Type 0 where
  pub start : r.start ≡ at
  pub end : at + r.len ≡ length t
  pub some : 0 < length t
  pub pieces : split b (drop at t) ≡ cut r t ∷ []

-- each lies in the text
pub further_fits : {b at next : ℕ} {t : List ℕ} {r : Range} → Further b t at r next → r.start + r.len ≤ length t
further_fits f = let u = f.start in let v = f.past in let w = f.within in omega arith

pub final_fits : {b at : ℕ} {t : List ℕ} {r : Range} → Final b t at r → r.start + r.len ≤ length t
final_fits f = let u = f.start in let v = f.end in omega arith

-- what each answer of a step tells
abbrev pub StepTells : ℕ → List ℕ → ℕ → Result Piece NoPiece → Type 0
StepTells b t at (Ok (More r next)) = Further b t at r next
StepTells b t at (Ok (Last r)) = Final b t at r
StepTells b t at (Err Nothing) = length t ≡ 0
StepTells b t at (Err Beyond) = length t < at

module _ (b : ℕ) (t : List ℕ) (at : ℕ) {p : List ℕ} where
  more_tells : {q : List ℕ} {ps : List (List ℕ)} → split b (drop at t) ≡ p ∷ q ∷ ps → Further b t at (record { start = at; len = length p }) (at + length p + 1)
  more_tells {q} {ps} e =
      record {
        start = refl;
        past = refl;
        within = next_within b t at e;
        pieces = rw (cut_is at (length p) t, first_taken b t at (q ∷ ps) e, next_pieces b t at e) e;
      }

  last_tells : at ≤ length t → 0 < length t → split b (drop at t) ≡ p ∷ [] → Final b t at (record { start = at; len = length p })
  last_tells h n e =
      let l = last_length b t at e in
      record { start = refl; end = omega arith; some = n; pieces = rw (cut_is at (length p) t, first_taken b t at [] e) e }

-- an answer tells what the definition, whose paper it has, says
pub step_tells : (b : ℕ) (t : List ℕ) (at : ℕ) (x : Result Piece NoPiece) → step_paper x ≡ step_answer b t at → StepTells b t at x
unfolding step_paper
step_tells b t at x e = placed (leb at (length t)) refl
  where
    -- x is y, where y has that paper too
    is : (y : Result Piece NoPiece) → step_paper y ≡ step_answer b t at → StepTells b t at y → StepTells b t at x
    is y f d = rw (step_paper_injective x y (e ∙ sym f)) d

    some : at ≤ length t → 0 < length t → (ps : List (List ℕ)) → split b (drop at t) ≡ ps → StepTells b t at x
    some h n [] f = absurd (split_nil b _ f)
    some h n (p ∷ []) f = is (Ok (Last (record { start = at; len = length p }))) (sym (step_last b t at h n f)) (last_tells b t at h n f)
    some h n (p ∷ q ∷ ps) f =
        is (Ok (More (record { start = at; len = length p }) (at + length p + 1))) (sym (step_more b t at f)) (more_tells b t at f)

    within : at ≤ length t → (n : ℕ) → length t ≡ n → StepTells b t at x
    within h zero n = is (Err Nothing) (finds_nothing b t at h n) n
    within h (suc k) n = some h (omega arith) (split b (drop at t)) refl

    placed : (c : Bool) → leb at (length t) ≡ c → StepTells b t at x
    placed true h = within (leb-true _ _ h) (length t) refl
    placed false h = let l = leb-false _ _ h in is (Err Beyond) (finds_beyond b t at l) l

-- no piece, at a place of the text: it is empty
pub rest_tells : (b : ℕ) (t : List ℕ) (at : ℕ) (x : NoPiece) → step_paper (Err x) ≡ step_answer b t at → at ≤ length t → length t ≡ 0
rest_tells b t at Nothing e w = step_tells b t at (Err Nothing) e
rest_tells b t at Beyond e w = absurd (let f = step_tells b t at (Err Beyond) e in omega arith)

-- by the test for an empty text
pub finds_empty : (b : ℕ) (t : List ℕ) (at : ℕ) {r : Bool} → at ≤ length t → r ≡ eqb (length t) 0 → r ≡ true → step_paper (Err Nothing) ≡ step_answer b t at
finds_empty b t at h e q = finds_nothing b t at h (eqb-true _ _ (sym e ∙ q))

pub some_text : (t : List ℕ) {r : Bool} → r ≡ eqb (length t) 0 → r ≡ false → length t ≡ 0 → ⊥
some_text t e q = eqb-false _ _ (sym e ∙ q)

pub ruleset laws = (finds_beyond, finds_empty, some_text, finds_last, finds_more)
