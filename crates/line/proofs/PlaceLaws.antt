-- The places of a line's fields by its first tabs: each tab is one column further. Assumes nothing.
use Prim.Native.Nat.{ℕ, suc, ◌+◌, ◌-◌, ◌≤◌, ◌<◌}
use mathlib.Core.Path.{◌≡◌, refl, sym, ap, ◌∙◌}
use mathlib.Core.List.{List, [], ◌∷◌}
use native.Mathlib.Omega.{arith}
use lib.ListN.{length, get_or, set, take, drop, length-drop}
use lib.Seq.{length-take-le, set_out}
use borrow.Author.Tests.{eq-eqb, ne_eqb}
use Rattle.pieces.specs.Pieces.{split}
use Rattle.pieces.proofs.PieceLaws.{split_nil, split_joined}
use Rattle.record.specs.declared.ending.Ending.{Ending}
use Rattle.record.specs.declared.place.Record.{Record}
use Rattle.line.specs.Line.{leading_places, field_places}
use Rattle.line.specs.Inner.{Tab, start_of, Told, record_by, Fields}
use Rattle.record.proofs.SpanLaws.{bare_places, bare_numbers, full_places, full_numbers}
use Rattle.record.proofs.NumberLaws.{with_ending}
use Rattle.record.proofs.Determined.{made_is}

-- ---- a tab is kept

pub keep_out : (tabs : List ℕ) {k : ℕ} (tab : ℕ) → 1 ≤ k → length tabs < k → tabs ≡ set tabs (k - 1) tab
keep_out tabs {k} tab h l = sym (set_out tabs (k - 1) tab (omega arith))

-- ---- one column further

module _ {t : List ℕ} {from i : ℕ} (p : Tab t from i) where
  column_length : length (take (i - from) (drop from t)) ≡ i - from
  column_length = length-take-le (i - from) (drop from t) (let l = length-drop from t in let a = p.after in let w = p.within in omega arith)

  column_past : from + (i - from) + 1 ≡ i + 1
  column_past = let a = p.after in omega arith

  leading_tab : (n : ℕ) → leading_places (suc n) from (split 9 (drop from t)) ≡ from ∷ (i - from) ∷ leading_places n (i + 1) (split 9 (drop (i + 1) t))
  unfolding leading_places
  leading_tab n = rw (p.columns, column_length, column_past)

  count_tab : length (split 9 (drop from t)) ≡ suc (length (split 9 (drop (i + 1) t)))
  count_tab = ap length p.columns

-- all that is left is one
leading_rest : (t : List ℕ) (from : ℕ) → leading_places 0 from (split 9 (drop from t)) ≡ from ∷ (length t - from) ∷ []
unfolding leading_places
leading_rest t from = by (split 9 (drop from t)) refl
  where
    by : (cs : List (List ℕ)) → split 9 (drop from t) ≡ cs → leading_places 0 from cs ≡ from ∷ (length t - from) ∷ []
    by [] e = absurd (split_nil 9 _ e)
    by (c ∷ cs) e = rw (← e, split_joined 9 (drop from t), length-drop from t)

-- and one column is all
leading_last : (t : List ℕ) (from : ℕ) → split 9 (drop from t) ≡ drop from t ∷ [] → leading_places 1 from (split 9 (drop from t)) ≡ from ∷ (length t - from) ∷ []
unfolding leading_places
leading_last t from e = rw (e, length-drop from t)

-- ---- the ten fields

module _ {t : List ℕ} {at : ℕ} {tabs : List ℕ} (h : Told t at tabs) where
  -- how many columns there are, by how many stand past the seventh tab
  count_is : length (split 9 (drop at t)) ≡ length (split 9 (drop (get_or tabs 6 0 + 1) t)) + 7
  count_is =
      let c₁ = count_tab (h.seven 0 (omega arith)) in
      let c₂ = count_tab (h.seven 1 (omega arith)) in
      let c₃ = count_tab (h.seven 2 (omega arith)) in
      let c₄ = count_tab (h.seven 3 (omega arith)) in
      let c₅ = count_tab (h.seven 4 (omega arith)) in
      let c₆ = count_tab (h.seven 5 (omega arith)) in
      let c₇ = count_tab (h.seven 6 (omega arith)) in
      omega arith

  -- each tab stands behind where its column starts
  after : (j : ℕ) → j < 7 → start_of at tabs j ≤ get_or tabs j 0
  after j l = (h.seven j l).after

  module _ (ending : Ending) where
    pub filled_eight : get_or tabs 7 0 ≡ 0 → Fields t at ending (record_by ending at tabs (length t) (length t) (length t))
    unfolding field_places
    filled_eight z =
        let w = (h.seven 6 (omega arith)).within in
        let n : get_or tabs 6 0 + 1 ≤ length t = omega arith in
        let c = count_is in
        let l = ap length (h.eight z) in
        let eight : length (split 9 (drop at t)) ≡ 8 = omega arith in
        record {
          ends = with_ending ending _;
          places =
              bare_places ending (after 0 (omega arith)) (after 1 (omega arith)) (after 2 (omega arith)) (after 3 (omega arith)) (after 4 (omega arith)) (after 5 (omega arith)) (after 6 (omega arith)) n
              ∙ rw (eq-eqb _ 8 eight, leading_tab (h.seven 0 (omega arith)) 7, leading_tab (h.seven 1 (omega arith)) 6, leading_tab (h.seven 2 (omega arith)) 5, leading_tab (h.seven 3 (omega arith)) 4, leading_tab (h.seven 4 (omega arith)) 3, leading_tab (h.seven 5 (omega arith)) 2, leading_tab (h.seven 6 (omega arith)) 1, leading_last t (get_or tabs 6 0 + 1) (h.eight z));
          numbers = bare_numbers ending (after 0 (omega arith)) (after 1 (omega arith)) (after 2 (omega arith)) (after 3 (omega arith)) (after 4 (omega arith)) (after 5 (omega arith)) (after 6 (omega arith)) n;
        }

    pub filled_ten : (get_or tabs 7 0 ≡ 0 → ⊥) → Fields t at ending (record_by ending at tabs (get_or tabs 7 0) (get_or tabs 8 0) (length t))
    unfolding field_places
    filled_ten n =
        let i = h.nine n 7 (omega arith) in
        let f = h.nine n 8 (omega arith) in
        let w = f.within in
        let l : get_or tabs 8 0 + 1 ≤ length t = omega arith in
        let c = count_is in
        let c₈ = count_tab i in
        let c₉ = count_tab f in
        let more : length (split 9 (drop at t)) ≡ 8 → ⊥ = λ z. omega arith in
        record {
          ends = with_ending ending _;
          places =
              full_places ending (after 0 (omega arith)) (after 1 (omega arith)) (after 2 (omega arith)) (after 3 (omega arith)) (after 4 (omega arith)) (after 5 (omega arith)) (after 6 (omega arith)) i.after f.after l
              ∙ rw (ne_eqb _ 8 more, leading_tab (h.seven 0 (omega arith)) 8, leading_tab (h.seven 1 (omega arith)) 7, leading_tab (h.seven 2 (omega arith)) 6, leading_tab (h.seven 3 (omega arith)) 5, leading_tab (h.seven 4 (omega arith)) 4, leading_tab (h.seven 5 (omega arith)) 3, leading_tab (h.seven 6 (omega arith)) 2, leading_tab i 1, leading_tab f 0, leading_rest t (get_or tabs 8 0 + 1));
          numbers = full_numbers ending (after 0 (omega arith)) (after 1 (omega arith)) (after 2 (omega arith)) (after 3 (omega arith)) (after 4 (omega arith)) (after 5 (omega arith)) (after 6 (omega arith)) i.after f.after l;
        }

-- the record that was asked for is that one
module _ {t : List ℕ} {at : ℕ} {tabs : List ℕ} (h : Told t at tabs) (ending : Ending) {r : Record} where
  pub fields_eight : get_or tabs 7 0 ≡ 0 → r ≡ record_by ending at tabs (length t) (length t) (length t) → Fields t at ending r
  fields_eight z e = rw e (filled_eight h ending z)

  pub fields_ten : (get_or tabs 7 0 ≡ 0 → ⊥) → r ≡ record_by ending at tabs (get_or tabs 7 0) (get_or tabs 8 0) (length t) → Fields t at ending r
  fields_ten n e = rw e (filled_ten h ending n)

pub ruleset laws = (keep_out, made_is, fields_eight, fields_ten)
