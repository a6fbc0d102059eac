-- Writing a list allele by allele: those still to write, laid from the place reached, leave what the whole list leaves. Assumes nothing.
use Prim.Native.Nat.{ℕ, ◌+◌, ◌≤◌}
use mathlib.Core.Path.{◌≡◌, refl, sym, ap, ◌∙◌}
use mathlib.Core.List.{List, [], ◌∷◌, ◌++◌}
use native.Mathlib.Omega.{arith}
use native.Mathlib.Nat.{zero-add}
use lib.ListN.{length, drop, length-append}
use Rattle.text.specs.Over.{over, over_at}
use Rattle.text.proofs.Lists.{over_at_nil, over_at_start, over_at_append, length_over_at}
use Rattle.allele.specs.declared.allele.Allele.{Allele}
use Rattle.allele.proofs.RowLaws.{row_here, row_past}
use Rattle.spelling.specs.Inner.{one_text, text_from, planned_text, PutsAt}
use Rattle.spelling.specs.declared.tally.Plan.{Plan}
use Rattle.spelling.proofs.PutLaws.{put_place, put_bytes}

pub record Laying (as' : List Allele) (plan : Plan) (l₀ l : List ℕ) (at k : ℕ) : Type 0 where
  pub len : length l ≡ length l₀
  pub room : at + length (text_from plan k (drop k as')) ≤ length l₀
  pub same : over_at at (text_from plan k (drop k as')) l ≡ over (planned_text plan as') l₀

pub lay_first : {as' : List Allele} {plan : Plan} {l : List ℕ} → length (planned_text plan as') ≤ length l → Laying as' plan l l 0 0
lay_first h = record { len = refl; room = rw zero-add h; same = over_at_start _ _ }

module _ {as' : List Allele} {plan : Plan} {l₀ l : List ℕ} {at k : ℕ} (g : Laying as' plan l₀ l at k) where
  pub lay_turn : {a : Allele} {r : ℕ} {l' : List ℕ} → drop k as' ≡ a ∷ drop (k + 1) as' → PutsAt (one_text plan k a) at l r l' → Laying as' plan l₀ l' r (k + 1)
  unfolding text_from
  lay_turn {a} e w =
      let vs = one_text plan k a in
      let rest = text_from plan (k + 1) (drop (k + 1) as') in
      let here : text_from plan k (drop k as') ≡ vs ++ rest = rw e in
      let c : length (text_from plan k (drop k as')) ≡ length vs + length rest = ap length here ∙ length-append vs rest in
      let o = g.room in
      let f = g.len in
      let s : at + length vs ≤ length l = omega arith in
      let d = put_place w s in
      let b = put_bytes w s in
      record {
        len = ap length b ∙ length_over_at at vs l s ∙ f;
        room = omega arith;
        same = rw (b, d) (sym (over_at_append at vs rest l s) ∙ (rw here at g.same));
      }

  pub lay_bytes : drop k as' ≡ [] → l ≡ over (planned_text plan as') l₀
  unfolding text_from
  lay_bytes e = sym (over_at_nil at l) ∙ (rw e at g.same)

pub ruleset laws = (lay_first, lay_turn, lay_bytes, row_here, row_past)
