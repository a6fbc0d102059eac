-- A line read d further on gives its answer d further on, shown definition by definition; what follows its LF is not looked at. Assumes nothing.
use Prim.Native.Nat.{ℕ, zero, suc, ◌+◌}
use mathlib.Core.Path.{◌≡◌, refl, ap}
use mathlib.Core.Bool.{Bool, true, false}
use mathlib.Core.List.{List, [], ◌∷◌, ◌++◌, append-nil, drop_last}
use native.Mathlib.Omega.{arith}
use lib.ListN.{length}
use Rattle.text.specs.Pick.{pick}
use Rattle.text.specs.Bytes.{ends_in}
use Rattle.text.proofs.ByteLaws.{none_empty, some_empty}
use Rattle.text.specs.Verdict.{Verdict, fine, refused}
use Rattle.pieces.specs.Pieces.{split}
use Rattle.record.specs.Ending.{Ending, nothing, feed, return_feed, ending_bytes}
use Rattle.line.specs.Line.{Line, line, fed, last_verdict, verdict, leading_places, field_places, judged_answer, line_answer}
use Rattle.line.specs.Demands.{moved_places, moved}

-- a function of one of two
pick_ap : {A B : Type 0} (f : A → B) (t : Bool) (x y : A) → f (pick t x y) ≡ pick t (f x) (f y)
pick_ap f true x y = refl
pick_ap f false x y = refl

module _ (d : ℕ) where
  -- past a column that starts d further on
  next_start : (from n : ℕ) → from + d + n + 1 ≡ from + n + 1 + d
  next_start from n = omega arith

  -- ---- places

  leading_moved : (n from : ℕ) (cs : List (List ℕ)) (x : List ℕ) → leading_places n (from + d) cs ++ moved_places d x ≡ moved_places d (leading_places n from cs ++ x)
  unfolding leading_places moved_places
  leading_moved n from [] x = refl
  leading_moved zero from (c ∷ cs) x = refl
  leading_moved (suc n) from (c ∷ cs) x = rw (next_start from (length c), leading_moved n (from + length c + 1) cs x)

  fields_moved : (from : ℕ) (cs : List (List ℕ)) (end : ℕ) → field_places (from + d) cs (end + d) ≡ moved_places d (field_places from cs end)
  unfolding field_places moved_places
  fields_moved from cs end =
      let e = simp append-nil at (leading_moved 9 from cs []) in
      rw (pick_ap (moved_places d), ← leading_moved 8 from cs (end ∷ 0 ∷ end ∷ 0 ∷ []), e)

  -- ---- the verdict

  abbrev moved_verdict : Verdict → Verdict
  moved_verdict fine = fine
  moved_verdict (refused n next) = refused n (next + d)

  last_moved : (k : ℕ) (c : List ℕ) (e : Ending) (past : ℕ) → last_verdict k c e (past + d) ≡ moved_verdict (last_verdict k c e past)
  unfolding last_verdict
  last_moved k c nothing past = simp (pick_ap moved_verdict)
  last_moved k c feed past = simp (pick_ap moved_verdict)
  last_moved k c return_feed past = simp (pick_ap moved_verdict)

  verdict_moved : (k from : ℕ) (cs : List (List ℕ)) (e : Ending) (past : ℕ) → verdict k (from + d) cs e (past + d) ≡ moved_verdict (verdict k from cs e past)
  unfolding verdict
  verdict_moved k from [] e past = refl
  verdict_moved k from (c ∷ []) e past = last_moved k c e past
  verdict_moved k from ([] ∷ b ∷ cs) e past = rw (none_empty [] refl) (ap (refused 2) (omega arith))
  verdict_moved k from ((a ∷ c) ∷ b ∷ cs) e past = rw (some_empty (a ∷ c) (omega arith), next_start from (length (a ∷ c)), verdict_moved (k + 1) (from + length (a ∷ c) + 1) (b ∷ cs) e past)

  -- ---- the answer

  judged_moved : (v : Verdict) (from end : ℕ) (cs : List (List ℕ)) (e : Ending) (past : ℕ)
      → judged_answer (moved_verdict v) (from + d) (end + d) cs e (past + d) ≡ moved d (judged_answer v from end cs e past)
  unfolding judged_answer moved
  judged_moved (refused n next) from end cs e past = refl
  judged_moved fine from end cs e past = rw (pick_ap (moved d), fields_moved from cs end)

  -- a line whose text starts d further on
  pub line_moved : (from : ℕ) (l : Line) → line_answer (from + d) l ≡ moved d (line_answer from l)
  unfolding line_answer
  line_moved from (line t e rest) =
      let end = from + length t in
      let past = end + length (ending_bytes e) in
      let a : from + d + length t ≡ end + d = omega arith in
      let b : end + d + length (ending_bytes e) ≡ past + d = omega arith in
      rw (a, b, verdict_moved 1 from (split 9 t) e past)
      (judged_moved (verdict 1 from (split 9 t) e past) from end (split 9 t) e past)

-- what follows the LF changes nothing
pub fed_same : (from : ℕ) (t x y : List ℕ) → line_answer from (fed t x) ≡ line_answer from (fed t y)
unfolding fed line_answer
fed_same from t x y = by (ends_in 13 t)
  where
    by : (c : Bool) → line_answer from (pick c (line (drop_last t) return_feed x) (line t feed x)) ≡ line_answer from (pick c (line (drop_last t) return_feed y) (line t feed y))
    by true = refl
    by false = refl
