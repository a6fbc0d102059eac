-- The search over the texts between `;` takes the steps of the column, text by text; and a step has one answer, so no other answer leads there. Assumes nothing.
use Prim.Native.Nat.{ℕ, zero, suc, ◌+◌, ◌<◌}
use mathlib.Core.Path.{◌≡◌, refl, sym, ap, ◌∙◌}
use mathlib.Core.Bool.{Bool, true, false}
use mathlib.Core.List.{List, [], ◌∷◌, ◌++◌, append-nil}
use native.Mathlib.Omega.{arith}
use lib.ListN.{length, drop}
use Rattle.text.specs.Pick.{pick}
use Rattle.text.specs.Answer.{Answer, says}
use Rattle.text.specs.Same.{same}
use Rattle.text.proofs.SameLaws.{same_is, same_other}
use Rattle.pieces.specs.Pieces.{split, pieces}
use Rattle.pieces.proofs.PieceLaws.{split_nil, split_whole, split_append, pieces_none, pieces_some}
use Rattle.info.specs.Info.{Pair, alone, paired, key_of, places_of, first_answer, step_answer}
use Rattle.info.specs.Find.{settles, find_in, find_answer}
use Rattle.info.specs.Demands.{Stepper, spelled, Good, Leads, found, refused, none, other, First}
use Rattle.info.proofs.EntryLaws.{pair_spelled, spelled_free, key_taken, stands_length, after_entry, step_end, step_inside}
use Rattle.info.proofs.Steps.{Stands, outside, nothing_left, last_entry, one_entry, last_key, keyless, last_value, step_stands}

-- ---- only one answer

only_from : (step : Stepper) (t key : List ℕ) {at : ℕ} {a b : Answer} → Leads step t key at a → Leads step t key at b → a ≡ b
only_from step t key (found e k) (found f l) = cc
only_from step t key (found e k) (refused {n = n} f l m) = absurd (let z : n ≡ 0 = cc in omega arith)
only_from step t key (found e k) (none f) = absurd (let z : ◌≡◌ {A = ℕ} 0 10 = cc in omega arith)
only_from step t key (found {k = k} {m = m} e q) (other {k = k'} {m = m'} f n r) =
    let a : k' ≡ k = cc in
    let b : m' ≡ m = cc in
    absurd (n (rw (a, b) q))
only_from step t key (refused {n = n} e l m) (found f q) = absurd (let z : n ≡ 0 = cc in omega arith)
only_from step t key (refused e l m) (refused f l' m') = cc
only_from step t key (refused {n = n} e l m) (none f) = absurd (let z : n ≡ 10 = cc in omega arith)
only_from step t key (refused {n = n} e l m) (other f q r) = absurd (let z : n ≡ 0 = cc in omega arith)
only_from step t key (none e) (found f q) = absurd (let z : ◌≡◌ {A = ℕ} 0 10 = cc in omega arith)
only_from step t key (none e) (refused {n = n} f l m) = absurd (let z : n ≡ 10 = cc in omega arith)
only_from step t key (none e) (none f) = refl
only_from step t key (none e) (other f q r) = absurd (let z : ◌≡◌ {A = ℕ} 0 10 = cc in omega arith)
only_from step t key (other {k = k} {m = m} e n r) (found {k = k'} {m = m'} f q) =
    let a : k ≡ k' = cc in
    let b : m ≡ m' = cc in
    absurd (n (rw (a, b) q))
only_from step t key (other e n r) (refused {n = i} f l m) = absurd (let z : i ≡ 0 = cc in omega arith)
only_from step t key (other e n r) (none f) = absurd (let z : ◌≡◌ {A = ℕ} 0 10 = cc in omega arith)
only_from step t key (other {next = x} e n r) (other {next = y} f n' r') =
    let same_next : y ≡ x = cc in
    only_from step t key r (rw same_next at r')

-- ---- the answer

-- an entry at the place, by its key
module _ (step : Stepper) (t key : List ℕ) (at : ℕ) (r : List ℕ) {next : ℕ} where
  leads_found : (p : Pair) → drop at t ≡ spelled p ++ r → step t at ≡ says 0 (next ∷ places_of at p) → key_of p ≡ key
      → Leads step t key at (says 0 (next ∷ places_of at p))
  unfolding places_of
  leads_found (alone k) d e q = found e (key_taken t at r (alone k) d ∙ q)
  leads_found (paired k v) d e q = found e (key_taken t at r (paired k v) d ∙ q)

  leads_other : (p : Pair) {a : Answer} → drop at t ≡ spelled p ++ r → step t at ≡ says 0 (next ∷ places_of at p) → (key_of p ≡ key → ⊥) → Leads step t key next a
      → Leads step t key at a
  unfolding places_of
  leads_other (alone k) d e n w = other e (λ q. n (sym (key_taken t at r (alone k) d) ∙ q)) w
  leads_other (paired k v) d e n w = other e (λ q. n (sym (key_taken t at r (paired k v) d) ∙ q)) w

module _ (t key : List ℕ) where
  -- the search from a good entry on: it stops there, or goes on as from the next place
  entry_leads : (at next : ℕ) (p : Pair) (r : List ℕ) → Good p → drop at t ≡ spelled p ++ r → step_answer t at ≡ says 0 (next ∷ places_of at p)
      → (b : Answer) → Leads step_answer t key next b
      → Leads step_answer t key at (pick (settles key (spelled p) (says 0 (next ∷ places_of at p))) (says 0 (next ∷ places_of at p)) b)
  unfolding settles
  entry_leads at next p r g d e b w = rw (pair_spelled p g.key.no_equals) (by (same (key_of p) key) refl)
    where
      by : (c : Bool) → same (key_of p) key ≡ c → Leads step_answer t key at (pick c (says 0 (next ∷ places_of at p)) b)
      by true q = leads_found step_answer t key at r p d e (same_is (key_of p) key q)
      by false q = leads_other step_answer t key at r p d e (same_other (key_of p) key q) w

  -- the search from a text on, where it leads from each later one on
  text_leads : (at : ℕ) (e : List ℕ) (es : List (List ℕ)) → at < length t → split 59 (drop at t) ≡ e ∷ es
      → ((next : ℕ) → next < length t → split 59 (drop next t) ≡ es → Leads step_answer t key next (find_in key (length t) next es))
      → {a : Answer} → Stands t at a → step_answer t at ≡ a → Leads step_answer t key at (pick (settles key e a) a (find_in key (length t) (at + length e + 1) es))
  unfolding settles find_in
  text_leads at e es h c rest (outside l) s = absurd (omega arith)
  text_leads at e es h c rest (nothing_left l) s = absurd (omega arith)
  text_leads at e es h c rest (last_key l) s = refused s (omega arith) (omega arith)
  text_leads at e es h c rest (keyless l) s = refused s (omega arith) (omega arith)
  text_leads at e es h c rest (last_value l) s = refused s (omega arith) (omega arith)
  text_leads at e es h c rest (last_entry p g d) s =
      let w : split 59 (drop at t) ≡ spelled p ∷ [] = rw (d, append-nil) (split_whole (spelled p) (spelled_free p g)) in
      let f : e ≡ spelled p = cc in
      let fs : es ≡ [] = cc in
      rw (f, fs) (entry_leads at (length t) p [] g d s _ (none (step_end t (length t) refl)))
  text_leads at e es h c rest (one_entry p g x n d) s =
      let w : split 59 (drop at t) ≡ spelled p ∷ split 59 x = rw d (split_append (spelled p) x (spelled_free p g)) in
      let f : e ≡ spelled p = cc in
      let fs : split 59 x ≡ es = cc in
      let l = stands_length t at (59 ∷ x) p g d in
      let next : ℕ = at + length (spelled p) + 1 in
      let later : Leads step_answer t key next (find_in key (length t) next es) = rest next (omega arith) (rw (after_entry t at p x d) fs) in
      rw f (entry_leads at next p (59 ∷ x) g d s _ later)

  leads_from : (ps : List (List ℕ)) (at : ℕ) → at < length t → split 59 (drop at t) ≡ ps → Leads step_answer t key at (find_in key (length t) at ps)
  unfolding find_in
  leads_from [] at h c = absurd (split_nil 59 _ c)
  leads_from (e ∷ es) at h c =
      let s : step_answer t at ≡ first_answer at (e ∷ es) = step_inside t at h ∙ ap (first_answer at) c in
      text_leads at e es h c (leads_from es) (rw s at (step_stands t at)) s

  leads : Leads step_answer t key 0 (find_answer t key)
  unfolding find_answer find_in
  leads = by (length t) refl
    where
      by : (n : ℕ) → length t ≡ n → Leads step_answer t key 0 (find_in key (length t) 0 (pieces 59 t))
      by zero e = rw (pieces_none 59 t e) (none (step_end t 0 (sym e)))
      by (suc n) e =
          let h : 0 < length t = omega arith in
          rw (pieces_some 59 t h) (leads_from (split 59 t) 0 h refl)

pub first : First step_answer find_answer
first = record { is = leads; only = λ t key a w. only_from step_answer t key w (leads t key) }
