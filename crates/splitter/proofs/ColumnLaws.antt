-- The tabs of a text by its columns, column by column: how many, the first with an empty column before it, and where the last column starts.
-- Assumes nothing.
use Prim.Native.Nat.{ℕ, zero, suc, ◌+◌, ◌≤◌, ◌<◌}
use mathlib.Core.Path.{◌≡◌, refl, sym, ap, ◌∙◌}
use mathlib.Core.Bool.{Bool, true, false}
use mathlib.Core.List.{List, [], ◌∷◌, ◌++◌}
use native.Mathlib.Omega.{arith}
use native.Mathlib.Decide.{ℕ_discrete}
use lib.ListN.{length, get_or, length-append}
use lib.Dec.{eqb}
use borrow.Author.Tests.{eqb-true, eq-eqb, ne_eqb}
use Rattle.text.specs.Pick.{pick}
use Rattle.text.specs.Bytes.{is_empty}
use Rattle.text.specs.Verdict.{refused}
use Rattle.text.proofs.ByteLaws.{empty_is, none_empty, some_empty}
use Rattle.pieces.specs.Pieces.{split, joined}
use Rattle.pieces.specs.Demands.{Free}
use Rattle.pieces.proofs.PieceLaws.{free_head, free_tail, first_free, split_nil, joined_one, joined_more, one_text_lem, more_text, more_rest}
use Rattle.record.specs.Ending.{Ending}
use Rattle.line.specs.Line.{last_verdict, verdict}
use Rattle.line.proofs.ColumnLaws.{verdict_last, verdict_more}
use Rattle.splitter.specs.Inner.{tabs_from, first_gap, last_start}

-- ---- the tabs of a text

tabs_free : (from : ℕ) (c : List ℕ) → Free 9 c → tabs_from from c ≡ []
unfolding tabs_from
tabs_free from [] f = refl
tabs_free from (b ∷ c) f = rw (ne_eqb b 9 (free_head f)) (tabs_free (from + 1) c (free_tail f))

tabs_mark : (from : ℕ) (c t : List ℕ) → Free 9 c → tabs_from from (c ++ 9 ∷ t) ≡ (from + length c) ∷ tabs_from (from + length c + 1) t
unfolding tabs_from
tabs_mark from [] t f = let z : from + 0 ≡ from = omega arith in rw z
tabs_mark from (b ∷ c) t f =
    let z : from + 1 + length c ≡ from + suc (length c) = omega arith in
    rw (ne_eqb b 9 (free_head f)) (tabs_mark (from + 1) c t (free_tail f) ∙ rw z)

-- ---- the same by the columns, the first of which starts at the place `from`

abbrev pub tabs_of : ℕ → List (List ℕ) → List ℕ
tabs_of from [] = []
tabs_of from (c ∷ []) = []
tabs_of from (c ∷ d ∷ cs) = (from + length c) ∷ tabs_of (from + length c + 1) (d ∷ cs)

tabs_are : (from : ℕ) (t : List ℕ) (cs : List (List ℕ)) → split 9 t ≡ cs → tabs_from from t ≡ tabs_of from cs
tabs_are from t [] e = absurd (split_nil 9 t e)
tabs_are from t (c ∷ []) e = ap (tabs_from from) (one_text_lem 9 e) ∙ tabs_free from c (first_free 9 t e)
tabs_are from t (c ∷ d ∷ cs) e =
    ap (tabs_from from) (more_text 9 t e)
    ∙ tabs_mark from c (joined 9 (d ∷ cs)) (first_free 9 t e)
    ∙ ap (λ (l : List ℕ). (from + length c) ∷ l) (tabs_are (from + length c + 1) (joined 9 (d ∷ cs)) (d ∷ cs) (more_rest 9 t e))

pub tabs_columns : (from : ℕ) (t : List ℕ) → tabs_from from t ≡ tabs_of from (split 9 t)
tabs_columns from t = tabs_are from t (split 9 t) refl

-- one less than the columns
pub tabs_count : (from : ℕ) (cs : List (List ℕ)) → 0 < length cs → length cs ≡ length (tabs_of from cs) + 1
tabs_count from [] n = absurd (omega arith)
tabs_count from (c ∷ []) n = refl
tabs_count from (c ∷ d ∷ cs) n = let k = tabs_count (from + length c + 1) (d ∷ cs) (omega arith) in omega arith

-- where the columns end, behind the first of them
pub behind : (from : ℕ) (c d : List ℕ) (cs : List (List ℕ)) → from + length (joined 9 (c ∷ d ∷ cs)) ≡ from + length c + 1 + length (joined 9 (d ∷ cs))
behind from c d cs = rw joined_more (let l = length-append c (9 ∷ joined 9 (d ∷ cs)) in omega arith)

-- each stands behind the one before it, and before the end of the columns
pub tabs_within : (from : ℕ) (cs : List (List ℕ)) (j : ℕ) → j < length (tabs_of from cs) → get_or (tabs_of from cs) j 0 < from + length (joined 9 cs)
tabs_within from [] j l = absurd (omega arith)
tabs_within from (c ∷ []) j l = absurd (omega arith)
tabs_within from (c ∷ d ∷ cs) zero l = let b = behind from c d cs in omega arith
tabs_within from (c ∷ d ∷ cs) (suc j) l = let b = behind from c d cs in let w = tabs_within (from + length c + 1) (d ∷ cs) j (omega arith) in omega arith

tabs_after : (from : ℕ) (cs : List (List ℕ)) (j : ℕ) → j < length (tabs_of from cs) → from ≤ get_or (tabs_of from cs) j 0
tabs_after from [] j l = absurd (omega arith)
tabs_after from (c ∷ []) j l = absurd (omega arith)
tabs_after from (c ∷ d ∷ cs) zero l = omega arith
tabs_after from (c ∷ d ∷ cs) (suc j) l = let a = tabs_after (from + length c + 1) (d ∷ cs) j (omega arith) in omega arith

pub tabs_rise : (from : ℕ) (cs : List (List ℕ)) (j : ℕ) → suc j < length (tabs_of from cs) → get_or (tabs_of from cs) j 0 < get_or (tabs_of from cs) (suc j) 0
tabs_rise from [] j l = absurd (omega arith)
tabs_rise from (c ∷ []) j l = absurd (omega arith)
tabs_rise from (c ∷ d ∷ cs) zero l = let a = tabs_after (from + length c + 1) (d ∷ cs) 0 (omega arith) in omega arith
tabs_rise from (c ∷ d ∷ cs) (suc j) l = tabs_rise (from + length c + 1) (d ∷ cs) j (omega arith)

-- ---- the verdict

-- a tab that stands where its column starts ends an empty one
at_start : (from : ℕ) (c : List ℕ) → eqb (from + length c) from ≡ is_empty c
at_start from c = by (ℕ_discrete (length c) 0)
  where
    by : Dec (length c ≡ 0) → eqb (from + length c) from ≡ is_empty c
    by (yes z) = rw (none_empty c z) (eq-eqb (from + length c) from (omega arith))
    by (no z) = rw (some_empty c (omega arith)) (ne_eqb (from + length c) from (λ q. omega arith))

empty_none : (c : List ℕ) → is_empty c ≡ true → length c ≡ 0
empty_none c h = eqb-true (length c) 0 (sym (empty_is c) ∙ h)

module _ (end : ℕ) (e : Ending) (past : ℕ) where
  -- an empty column that a tab ends is refused, past that tab
  pub gap_refused : (k from : ℕ) (cs : List (List ℕ)) → 0 < length cs → from + length (joined 9 cs) ≡ end → first_gap end from (tabs_of from cs) < end
      → verdict k from cs e past ≡ refused 2 (first_gap end from (tabs_of from cs) + 1)
  unfolding first_gap
  gap_refused k from [] n q h = absurd (omega arith)
  gap_refused k from (c ∷ []) n q h = absurd (omega arith)
  gap_refused k from (c ∷ d ∷ cs) n q h =
      verdict_more k from c (d ∷ cs) e past (omega arith)
      ∙ rw (at_start from c)
      (by (is_empty c) refl (rw (at_start from c) at h) (gap_refused (k + 1) (from + length c + 1) (d ∷ cs) (omega arith) (let b = behind from c d cs in omega arith)))
    where
      rest : ℕ
      rest = first_gap end (from + length c + 1) (tabs_of (from + length c + 1) (d ∷ cs))

      by : (m : Bool) → is_empty c ≡ m → pick m (from + length c) rest < end
          → (rest < end → verdict (k + 1) (from + length c + 1) (d ∷ cs) e past ≡ refused 2 (rest + 1))
          → pick m (refused 2 (from + 1)) (verdict (k + 1) (from + length c + 1) (d ∷ cs) e past) ≡ refused 2 (pick m (from + length c) rest + 1)
      by true z l f = let o = empty_none c z in let p : from + 1 ≡ from + length c + 1 = omega arith in rw p
      by false z l f = f l

  -- the last column, by where it starts
  pub record LastOf (k from : ℕ) (cs : List (List ℕ)) : Type 0 where
    pub column : List ℕ
    pub starts : last_start from (tabs_of from cs) + length column ≡ end
    pub judged : verdict k from cs e past ≡ last_verdict (k + length (tabs_of from cs)) column e past

  -- where there is no such column, the last one decides
  pub last_decides : (k from : ℕ) (cs : List (List ℕ)) → 0 < length cs → from + length (joined 9 cs) ≡ end → end ≤ first_gap end from (tabs_of from cs)
      → LastOf k from cs
  unfolding first_gap last_start
  last_decides k from [] n q h = absurd (omega arith)
  last_decides k from (c ∷ []) n q h =
      let z : k + 0 ≡ k = omega arith in
      record { column = c; starts = (let j = ap length (joined_one 9 c) in omega arith); judged = rw z (verdict_last k from c e past) }
  last_decides k from (c ∷ d ∷ cs) n q h =
      by (is_empty c) refl (rw (at_start from c) at h) (last_decides (k + 1) (from + length c + 1) (d ∷ cs) (omega arith) (let b = behind from c d cs in omega arith))
    where
      rest : ℕ
      rest = first_gap end (from + length c + 1) (tabs_of (from + length c + 1) (d ∷ cs))

      by : (m : Bool) → is_empty c ≡ m → end ≤ pick m (from + length c) rest → (end ≤ rest → LastOf (k + 1) (from + length c + 1) (d ∷ cs)) → LastOf k from (c ∷ d ∷ cs)
      by true z l f = absurd (let b = behind from c d cs in omega arith)
      by false z l f =
          let g = f l in
          let y : k + 1 + length (tabs_of (from + length c + 1) (d ∷ cs)) ≡ k + suc (length (tabs_of (from + length c + 1) (d ∷ cs))) = omega arith in
          record {
            column = g.column;
            starts = g.starts;
            judged = verdict_more k from c (d ∷ cs) e past (omega arith) ∙ rw z (g.judged ∙ rw y);
          }
