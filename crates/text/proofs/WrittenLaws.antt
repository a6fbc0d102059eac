-- What the answer of a writer tells of the room there was, and of what is left in the output. Assumes nothing.
use Prim.Native.Nat.{ℕ, ◌+◌, ◌-◌, ◌≤◌, ◌<◌}
use mathlib.Core.Path.{◌≡◌, ap, ◌∙◌}
use mathlib.Core.List.{List, [], ◌∷◌}
use native.Mathlib.Omega.{arith}
use native.Mathlib.Decide.{dec_le}
use lib.ListN.{length, take, drop, set}
use borrow.Author.Tests.{lt-leb}
use borrow.Rule.Slice.PartMut.{put_mid}
use Rattle.std.specs.Prelude.{Result, Ok, Err}
use Rattle.text.specs.Answer.{says}
use Rattle.text.specs.Over.{over, over_at, room_answer, Writes}
use Rattle.text.specs.Paper.{written_paper}
use Rattle.text.specs.declared.copy.NoRoom.{NoRoom}
use Rattle.text.proofs.Lists.{length_rest, rest_put, over_at_before}
use Rattle.text.proofs.CopyLaws.{room_fits, room_lacks, writes_fits}

pub record Wrote (vs l : List ℕ) (n : ℕ) (l' : List ℕ) : Type 0 where
  pub room : length vs ≤ length l
  pub count : n ≡ length vs
  pub bytes : l' ≡ over vs l

pub record Lacked (vs l l' : List ℕ) : Type 0 where
  pub room : length l < length vs
  pub bytes : l' ≡ l

module _ {vs l l' : List ℕ} {r : Result ℕ NoRoom} (w : Writes vs l r l') where
  pub writes_done : {n : ℕ} → r ≡ Ok n → Wrote vs l n l'
  unfolding written_paper
  writes_done {n} e = by (dec_le (length vs) (length l))
    where
      told : says 0 (n ∷ []) ≡ written_paper r
      told = rw e

      by : Dec (length vs ≤ length l) → Wrote vs l n l'
      by (yes h) =
          let s : says 0 (n ∷ []) ≡ says 0 (length vs ∷ []) = told ∙ w.answer ∙ room_fits vs l h in
          record { room = h; count = cc; bytes = writes_fits w h }
      by (no h) =
          let s : says 0 (n ∷ []) ≡ says 17 [] = told ∙ w.answer ∙ room_lacks vs l (omega arith) in
          let z : ◌≡◌ {A = ℕ} 0 1 = cc in
          absurd (omega arith)

  pub writes_short : {no : NoRoom} → r ≡ Err no → Lacked vs l l'
  unfolding written_paper room_answer
  writes_short e = by (dec_le (length vs) (length l))
    where
      told : says 17 [] ≡ written_paper r
      told = rw e

      by : Dec (length vs ≤ length l) → Lacked vs l l'
      by (yes h) =
          let s : says 17 [] ≡ says 0 (length vs ∷ []) = told ∙ w.answer ∙ room_fits vs l h in
          let z : ◌≡◌ {A = ℕ} 0 1 = cc in
          absurd (omega arith)
      by (no h) = let m : length l < length vs = omega arith in record { room = m; bytes = w.bytes ∙ rw (lt-leb _ _ m) }

-- ---- a byte, and behind it what is written into the rest

pub record Follows (b at : ℕ) (vs l : List ℕ) (n : ℕ) (ys : List ℕ) : Type 0 where
  pub count : at + 1 + n ≡ at + length (b ∷ vs)
  pub within : at + 1 + n ≤ length l
  pub bytes : set (put_mid (at + 1) (length l - (at + 1)) l ys) at b ≡ over_at at (b ∷ vs) l

module _ (b at : ℕ) (vs l : List ℕ) {ys : List ℕ} {r : Result ℕ NoRoom} (w : Writes vs (take (length l - (at + 1)) (drop (at + 1) l)) r ys) (h : at + length (b ∷ vs) ≤ length l) where
  pub follows_short : {no : NoRoom} → r ≡ Err no → ⊥
  follows_short e =
      let a = (writes_short w e).room in
      let c = length_rest l (at + 1) in
      omega arith

  pub follows_done : {n : ℕ} → r ≡ Ok n → Follows b at vs l n ys
  follows_done e =
      let d = writes_done w e in
      let c = d.count in
      record {
        count = omega arith;
        within = omega arith;
        bytes = ap (λ (z : List ℕ). set z at b) (rest_put (at + 1) vs l ys d.bytes) ∙ over_at_before l at vs b (omega arith);
      }
