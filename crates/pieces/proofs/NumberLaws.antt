-- Where piece n stands, by induction on the pieces; and what an answer by number tells, by whether there are so many. Assumes nothing.
use Prim.Native.Nat.{ℕ, zero, suc, ◌+◌, ◌<◌, ◌≤◌}
use mathlib.Core.Path.{◌≡◌, refl, sym, ◌∙◌}
use mathlib.Core.List.{List, [], ◌∷◌, flatten}
use native.Mathlib.Omega.{arith}
use native.Mathlib.Nat.{zero-add, add-zero}
use native.Mathlib.Decide.{dec_le}
use lib.ListN.{length, get_or, take, drop, length-append}
use lib.Seq.{take-append_seam, take-length, drop-append-add}
use Rattle.text.specs.Answer.{says}
use Rattle.text.specs.Range.{cut}
use Rattle.text.specs.declared.range.Range.{Range}
use Rattle.text.proofs.Lists.{cut_is}
use Rattle.pieces.specs.Pieces.{pieces, joined}
use Rattle.pieces.specs.Nth.{nth_in, nth_answer}
use Rattle.pieces.specs.Paper.{nth_paper}
use Rattle.pieces.specs.Demands.{start_in}
use Rattle.pieces.proofs.PaperLaws.{nth_paper_injective}
use Rattle.pieces.proofs.PieceLaws.{split_joined, joined_one, joined_more, pieces_none, pieces_some}
use Rattle.std.specs.Prelude.{Option, Some, None}

-- ---- the pieces by number

-- where they start
pub start_first : (ps : List (List ℕ)) → start_in ps 0 ≡ 0
unfolding start_in flatten
start_first ps = refl

pub start_later : (p : List ℕ) (ps : List (List ℕ)) (n : ℕ) → start_in (p ∷ ps) (suc n) ≡ length p + 1 + start_in ps n
unfolding start_in flatten
start_later p ps n = let l = length-append p (flatten (take n ps)) in omega arith

nth_after : (at : ℕ) (ps : List (List ℕ)) (n : ℕ) → length ps ≤ n → nth_in at ps n ≡ says 10 []
unfolding nth_in
nth_after at [] n h = refl
nth_after at (p ∷ ps) zero h = absurd (omega arith)
nth_after at (p ∷ ps) (suc n) h = nth_after (at + length p + 1) ps n (omega arith)

nth_place : (at : ℕ) (ps : List (List ℕ)) (n : ℕ) → n < length ps → nth_in at ps n ≡ says 0 ((at + start_in ps n) ∷ length (get_or ps n []) ∷ [])
unfolding nth_in
nth_place at [] n h = absurd (omega arith)
nth_place at (p ∷ ps) zero h = rw (start_first (p ∷ ps), add-zero)
nth_place at (p ∷ ps) (suc n) h =
    let e : at + length p + 1 + start_in ps n ≡ at + start_in (p ∷ ps) (suc n) = omega (arith, start_later p ps n) in
    nth_place (at + length p + 1) ps n (omega arith) ∙ rw e

-- there it stands in the pieces joined
joined_cuts : (b : ℕ) (ps : List (List ℕ)) (n : ℕ) → n < length ps → take (length (get_or ps n [])) (drop (start_in ps n) (joined b ps)) ≡ get_or ps n []
joined_cuts b [] n h = absurd (omega arith)
joined_cuts b (p ∷ []) zero h = rw (start_first, joined_one) (take-length p)
joined_cuts b (p ∷ []) (suc n) h = absurd (omega arith)
joined_cuts b (p ∷ q ∷ ps) zero h = rw (start_first, joined_more) (take-append_seam p _)
joined_cuts b (p ∷ q ∷ ps) (suc n) h =
    let e : start_in (p ∷ q ∷ ps) (suc n) ≡ length p + suc (start_in (q ∷ ps) n) = omega (arith, start_later p (q ∷ ps) n) in
    rw (e, joined_more, drop-append-add p (b ∷ joined b (q ∷ ps)) (suc (start_in (q ∷ ps) n)))
    (joined_cuts b (q ∷ ps) n (omega arith))

joined_within : (b : ℕ) (ps : List (List ℕ)) (n : ℕ) → n < length ps → start_in ps n + length (get_or ps n []) ≤ length (joined b ps)
joined_within b [] n h = absurd (omega arith)
joined_within b (p ∷ []) zero h = rw (start_first, joined_one) (omega arith)
joined_within b (p ∷ []) (suc n) h = absurd (omega arith)
joined_within b (p ∷ q ∷ ps) zero h = rw (start_first, joined_more) (simp length-append (omega arith))
joined_within b (p ∷ q ∷ ps) (suc n) h =
    let w = joined_within b (q ∷ ps) n (omega arith) in
    let l = start_later p (q ∷ ps) n in
    rw joined_more (simp length-append (omega arith))

-- so in the text
module _ (b : ℕ) (t : List ℕ) (n : ℕ) (h : n < length (pieces b t)) where
  joined_text : joined b (pieces b t) ≡ t
  joined_text = rw (pieces_some b t (by (length t) refl)) (split_joined b t)
    where
      by : (k : ℕ) → length t ≡ k → 0 < length t
      by zero e = absurd (omega (arith, rw (pieces_none b t e) at h))
      by (suc k) e = omega arith

  pub piece_cuts : take (length (get_or (pieces b t) n [])) (drop (start_in (pieces b t) n) t) ≡ get_or (pieces b t) n []
  piece_cuts = rw joined_text at (joined_cuts b (pieces b t) n h)

  pub piece_within : start_in (pieces b t) n + length (get_or (pieces b t) n []) ≤ length t
  piece_within = rw joined_text at (joined_within b (pieces b t) n h)

-- ---- the answer

module _ (b : ℕ) (t : List ℕ) (n : ℕ) where
  pub answer_past : length (pieces b t) ≤ n → nth_answer b t n ≡ says 10 []
  unfolding nth_answer
  answer_past h = nth_after 0 (pieces b t) n h

  pub answer_place : n < length (pieces b t) → nth_answer b t n ≡ says 0 (start_in (pieces b t) n ∷ length (get_or (pieces b t) n []) ∷ [])
  unfolding nth_answer
  answer_place h = nth_place 0 (pieces b t) n h ∙ rw zero-add

-- the range cuts piece n out of the text
pub record Found (b : ℕ) (t : List ℕ) (n : ℕ) (r : Range) : Type 0 where
  pub within : r.start + r.len ≤ length t
  pub some : n < length (pieces b t)
  pub piece : cut r t ≡ get_or (pieces b t) n []

-- what each answer tells
abbrev pub NthTells : ℕ → List ℕ → ℕ → Option Range → Type 0
NthTells b t n (Some r) = Found b t n r
NthTells b t n None = length (pieces b t) ≤ n

pub nth_tells : (b : ℕ) (t : List ℕ) (n : ℕ) (x : Option Range) → nth_paper x ≡ nth_answer b t n → NthTells b t n x
unfolding nth_paper
nth_tells b t n x e = by (dec_le (length (pieces b t)) n)
  where
    -- x is y, where y has that paper too
    is : (y : Option Range) → nth_paper y ≡ nth_answer b t n → NthTells b t n y → NthTells b t n x
    is y f d = rw (nth_paper_injective x y (e ∙ sym f)) d

    by : Dec (length (pieces b t) ≤ n) → NthTells b t n x
    by (yes h) = is None (sym (answer_past b t n h)) h
    by (no h) =
        let l : n < length (pieces b t) = omega arith in
        is (Some (record { start = start_in (pieces b t) n; len = length (get_or (pieces b t) n []) })) (sym (answer_place b t n l))
        (record { within = piece_within b t n l; some = l; piece = cut_is _ _ t ∙ piece_cuts b t n l })
