-- The first key that is equal: the step's piece is the first of the keys that are left, so each turn passes one. Assumes nothing.
use Prim.Native.Nat.{ℕ, ◌+◌, ◌-◌, ◌^◌, ◌<◌, ◌≤◌, zero-le}
use mathlib.Core.Path.{◌≡◌, sym, ◌∙◌}
use mathlib.Core.Bool.{Bool, true, false}
use mathlib.Core.List.{List, [], ◌∷◌}
use native.Mathlib.Omega.{arith}
use mir.Syntax.{w64}
use mir.Val.{Fits}
use lib.ListN.{length, take, drop}
use Rattle.std.specs.Prelude.{Option, Some, None, Result, Ok, Err}
use Rattle.text.specs.Answer.{says}
use Rattle.text.specs.Range.{cut}
use Rattle.text.specs.Same.{same}
use Rattle.text.specs.declared.range.Range.{Range}
use Rattle.text.proofs.Lists.{cut_is}
use Rattle.text.proofs.FirstLaws.{where_none, where_here, where_later}
use Rattle.pieces.specs.Pieces.{split, step_answer}
use Rattle.pieces.specs.Paper.{step_paper}
use Rattle.pieces.specs.declared.step.Piece.{Piece}
use Rattle.pieces.specs.declared.step.Piece.TheVariants as P
use Rattle.pieces.specs.declared.step.NoPiece.{NoPiece}
use Rattle.pieces.proofs.PieceLaws.{pieces_none, pieces_some}
use Rattle.pieces.proofs.StepLaws.{Further, Final, further_fits, final_fits, step_tells, rest_tells}
use Rattle.samples.specs.Keys.{keys_of, index_in, key_answer, index_answer}
use Rattle.samples.specs.Paper.{key_paper}
use Rattle.samples.specs.Inner.{keys_from, KeyAt}

-- ---- the keys one by one

index_none : (i : ℕ) (key : List ℕ) → index_in i [] key ≡ says 10 []
unfolding index_in index_answer
index_none i key = rw (where_none (λ (k : List ℕ). same k key) i)

index_here : (i : ℕ) (k : List ℕ) (ks : List (List ℕ)) (key : List ℕ) → same k key ≡ true → index_in i (k ∷ ks) key ≡ says 0 (i ∷ [])
unfolding index_in index_answer
index_here i k ks key e = rw (where_here (λ (k : List ℕ). same k key) i k ks e)

index_later : (i : ℕ) (k : List ℕ) (ks : List (List ℕ)) (key : List ℕ) → same k key ≡ false → index_in i (k ∷ ks) key ≡ index_in (i + 1) ks key
unfolding index_in index_answer
index_later i k ks key e = rw (where_later (λ (k : List ℕ). same k key) i k ks e)

key_none : (format key : List ℕ) → length format ≡ 0 → key_answer format key ≡ says 10 []
unfolding key_answer keys_of
key_none format key h = rw (pieces_none 58 format h) (index_none 0 key)

-- ---- the key at a place

module _ (t : List ℕ) (at : ℕ) (x : Result Piece NoPiece) (e : step_paper x ≡ step_answer 58 t at) where
  pub key_more : (y : Piece) {r : Range} {next : ℕ} → x ≡ Ok y → y ≡ P.More r next → KeyAt t at r (Some next)
  unfolding keys_from
  key_more y {r} {next} q p =
      let f : Further 58 t at r next = step_tells 58 t at (Ok (P.More r next)) (rw (q, p) at e) in
      let w = further_fits f in
      record {
        start = f.start;
        within = w;
        some = (let a = f.past in let b = f.within in omega arith);
        keys = f.pieces;
        onward = λ n z. (let m : next ≡ n = cc in let a = f.past in let b = f.within in (omega arith, omega arith));
      }

  pub key_last : (y : Piece) {r : Range} → x ≡ Ok y → y ≡ P.Last r → KeyAt t at r None
  unfolding keys_from
  key_last y {r} q p =
      let f : Final 58 t at r = step_tells 58 t at (Ok (P.Last r)) (rw (q, p) at e) in
      record { start = f.start; within = final_fits f; some = f.some; keys = f.pieces; onward = λ n z. (let o : ◌≡◌ {A = ℕ} 0 1 = cc in absurd (omega arith)) }

  pub key_nothing : (y : NoPiece) → x ≡ Err y → at ≤ length t → length t ≡ 0
  key_nothing y q h = rest_tells 58 t at y (rw q at e) h

-- ---- each way through the loop

-- the first equal key of those from `at` on, the first of which has index i, is the first of all
pub record Looking (format key : List ℕ) (at i : ℕ) : Type 0 where
  pub within : at ≤ length format
  pub few : i ≤ at
  pub first : 0 < length format → index_in i (split 58 (drop at format)) key ≡ key_answer format key

pub look_first : (format key : List ℕ) → Looking format key 0 0
unfolding key_answer keys_of
look_first format key = record { within = zero-le; few = zero-le; first = λ h. rw (pieces_some 58 format h) }

-- a key as the loop lends it
key_is : (s : List ℕ) (r : Range) → take (r.start + r.len - r.start) (drop r.start s) ≡ cut r s
key_is s r = let n : r.start + r.len - r.start ≡ r.len = omega arith in rw n (sym (cut_is r.start r.len s))

module _ (format key : List ℕ) (at i : ℕ) (g : Looking format key at i) where
  pub look_nothing : (at ≤ length format → length format ≡ 0) → key_paper None ≡ key_answer format key
  unfolding key_paper
  look_nothing h = sym (key_none format key (h g.within))

  module _ (r : Range) (next : Option ℕ) (k : KeyAt format at r next) where
    pub key_sum : length format < 2 ^ 64 → Fits w64 (r.start + r.len)
    key_sum h = let l = k.within in record { fits = omega arith }

    pub look_falls : (n : ℕ) → next ≡ Some n → length format - n < length format - at
    look_falls n q = let o = k.onward n q in omega arith

    module _ {y : Bool} (t : y ≡ same (take (r.start + r.len - r.start) (drop r.start format)) key) where
      told : y ≡ same (cut r format) key
      told = rw (key_is format r) at t

      pub look_here : y ≡ true → key_paper (Some i) ≡ key_answer format key
      unfolding key_paper
      look_here h = sym (index_here i (cut r format) (keys_from format next) key (sym told ∙ h)) ∙ (rw k.keys at (g.first k.some))

      past_key : y ≡ false → index_in (i + 1) (keys_from format next) key ≡ key_answer format key
      past_key h = sym (index_later i (cut r format) (keys_from format next) key (sym told ∙ h)) ∙ (rw k.keys at (g.first k.some))

      pub look_over : y ≡ false → next ≡ None → key_paper None ≡ key_answer format key
      unfolding key_paper keys_from
      look_over h q = sym (index_none (i + 1) key) ∙ (rw q at (past_key h))

      pub look_turn : (n : ℕ) → y ≡ false → next ≡ Some n → Looking format key n (i + 1)
      unfolding keys_from
      look_turn n h q =
          let o = k.onward n q in
          let l = g.few in
          record { within = o.1; few = omega arith; first = λ z. rw q at (past_key h) }

pub ruleset laws = (key_more, key_last, key_nothing, look_first, look_nothing, key_sum, look_falls, look_here, look_over, look_turn)
