-- The three ways of the reader, and the line that an input begins with, by where its first LF stands: each is the definition's clause.
-- Assumes nothing.
use Prim.Native.Nat.{ℕ, ◌<◌}
use mathlib.Core.Path.{◌≡◌, refl, sym}
use mathlib.Core.Bool.{Bool, true, false}
use mathlib.Core.List.{List, [], ◌∷◌, ◌++◌, drop_last}
use native.Mathlib.Omega.{arith}
use lib.ListN.{length, get_or, drop}
use Rattle.text.specs.Pick.{pick}
use Rattle.text.specs.Answer.{says}
use Rattle.text.specs.Bytes.{ends_in}
use Rattle.text.proofs.ByteLaws.{ends_is}
use Rattle.text.proofs.PlaceLaws.{place_beyond, place_end, place_inside}
use Rattle.pieces.specs.Pieces.{split, joined}
use Rattle.pieces.specs.Demands.{Free}
use Rattle.pieces.proofs.PieceLaws.{split_nil, split_free, one_text_lem, more_text}
use Rattle.record.specs.Ending.{feed, return_feed}
use Rattle.line.specs.Line.{Line, line, fed, line_of, line_answer, read_answer}

-- ---- the reader at a place

module _ (s : List ℕ) (at : ℕ) where
  pub read_beyond : length s < at → read_answer s at ≡ says 6 (at ∷ [])
  unfolding read_answer
  read_beyond h = place_beyond at s 1 (line_answer at (line_of (drop at s))) h

  pub read_end : at ≡ length s → read_answer s at ≡ says 1 (at ∷ [])
  unfolding read_answer
  read_end e = place_end at s 1 (line_answer at (line_of (drop at s))) e

  pub read_line : at < length s → read_answer s at ≡ line_answer at (line_of (drop at s))
  unfolding read_answer
  read_line h = place_inside at s 1 (line_answer at (line_of (drop at s))) h

-- ---- an input, cut at its first LF

-- all of it, where it has none; else a text and what follows the LF
pub data AtFeed (s : List ℕ) : Type 0 where
  none : Free 10 s → AtFeed s
  one : (t rest : List ℕ) → Free 10 t → s ≡ t ++ 10 ∷ rest → AtFeed s

-- every input has no LF, or a first one
pub at_feed : (s : List ℕ) → AtFeed s
at_feed s = by (split 10 s) refl (split_free 10 s)
  where
    by : (ts : List (List ℕ)) → split 10 s ≡ ts → ((i : ℕ) → i < length ts → Free 10 (get_or ts i [])) → AtFeed s
    by [] e f = absurd (split_nil 10 s e)
    by (t ∷ []) e f = none (rw (one_text_lem 10 e) (f 0 (omega arith)))
    by (t ∷ u ∷ ts) e f = one t (joined 10 (u ∷ ts)) (f 0 (omega arith)) (more_text 10 s e)

-- where a CR is the last byte before the LF, it is none of the text
pub data BeforeFeed (t rest : List ℕ) : Line → Type 0 where
  plain : BeforeFeed t rest (line t feed rest)
  returned : {u : List ℕ} → t ≡ u ++ 13 ∷ [] → BeforeFeed t rest (line u return_feed rest)

-- the line before an LF is one of the two
pub before_feed : (t rest : List ℕ) → BeforeFeed t rest (fed t rest)
unfolding fed
before_feed t rest = by (ends_in 13 t) refl
  where
    by : (c : Bool) → ends_in 13 t ≡ c → BeforeFeed t rest (pick c (line (drop_last t) return_feed rest) (line t feed rest))
    by true e = returned (sym (ends_is 13 t e))
    by false e = plain
