-- Copying byte by byte: what is left to copy lies over what stands. Assumes nothing.
use Prim.Native.Nat.{ℕ, ◌+◌, ◌-◌, ◌<◌, ◌≤◌}
use mathlib.Core.Path.{◌≡◌, refl, ap, ◌∙◌}
use mathlib.Core.Bool.{Bool, true, false}
use mathlib.Core.List.{List, [], ◌∷◌, append-nil}
use native.Mathlib.Omega.{arith}
use native.Mathlib.Decide.{dec_le}
use native.Mathlib.Numerals.{add-one}
use lib.ListN.{length, get_or, take, drop, set, length-set, length-drop, drop_of_length-le}
use lib.Seq.{sets, drop-cons, length-take-le}
use lib.Dec.{eqb}
use borrow.Author.Tests.{le-leb, lt-leb, ne_eqb}
use borrow.Rule.Slice.PartMut.{put_mid}
use Rattle.std.specs.Prelude.{Result, Ok, Err}
use Rattle.text.specs.Pick.{pick}
use Rattle.text.specs.Answer.{says, Answer, number_of}
use Rattle.text.specs.Over.{over, over_at, room_for, room_answer, Writes, laid, laid_at}
use Rattle.text.specs.Paper.{written_paper}
use Rattle.text.specs.declared.copy.NoRoom.{NoRoom}
use Rattle.text.proofs.Lists.{sets_over, rest_put, rest_back, over_is}

-- i bytes of vs are copied, and l stands where l₀ stood
pub record Copying (vs l₀ l : List ℕ) (i : ℕ) : Type 0 where
  pub len : length l ≡ length l₀
  pub fits : length vs ≤ length l₀
  pub within : i ≤ length vs
  pub same : sets l i (drop i vs) ≡ sets l₀ 0 vs

pub copy_first : (vs l : List ℕ) → length vs ≤ length l → Copying vs l l 0
copy_first vs l h = record { len = refl; fits = h; within = omega arith; same = refl }

pub copy_turn : {vs l₀ l : List ℕ} {i : ℕ} → Copying vs l₀ l i → i < length vs → Copying vs l₀ (set l i (get_or vs i 0)) (i + 1)
copy_turn {vs} {l₀} {l} {i} g h =
    record {
      len = simp length-set g.len;
      fits = g.fits;
      within = omega arith;
      same = rw add-one (rw (drop-cons vs i 0 h) at g.same);
    }

pub copy_past : {vs l₀ l : List ℕ} {i : ℕ} → Copying vs l₀ l i → length vs ≤ i → Writes vs l₀ (Ok i) l
unfolding room_answer written_paper
copy_past {vs} {l₀} {l} {i} g h =
    let e : i ≡ length vs = omega arith in
    record {
      answer = rw (e, le-leb _ _ g.fits);
      bytes = rw (le-leb _ _ g.fits) ((rw (drop_of_length-le vs h) at g.same) ∙ sets_over vs l₀ g.fits);
    }

-- all of vs are copied
pub copy_all : {vs l₀ l : List ℕ} {i : ℕ} → Copying vs l₀ l i → length vs ≤ i → Writes vs l₀ (Ok (length vs)) l
copy_all {vs} {l₀} {l} {i} g h = let w = g.within in let e : i ≡ length vs = omega arith in let c : Writes vs l₀ (Ok i) l = copy_past g h in rw e at c

pub copy_done : {vs l l' : List ℕ} {n : ℕ} → length vs ≤ length l → n ≡ length vs → l' ≡ over vs l → Writes vs l (Ok n) l'
unfolding room_answer written_paper
copy_done h c e = record { answer = rw (c, le-leb _ _ h); bytes = rw (le-leb _ _ h) e }

pub copy_short : {vs l : List ℕ} {no : NoRoom} → length l < length vs → Writes vs l (Err no) l
unfolding room_answer written_paper
copy_short h = record { answer = rw (lt-leb _ _ h); bytes = rw (lt-leb _ _ h) }

-- ---- where there is room, and where not

pub room_fits : (vs l : List ℕ) → length vs ≤ length l → room_answer vs l ≡ says 0 (length vs ∷ [])
unfolding room_answer
room_fits vs l h = rw (le-leb _ _ h)

pub room_lacks : (vs l : List ℕ) → length l < length vs → room_answer vs l ≡ says 17 []
unfolding room_answer
room_lacks vs l h = rw (lt-leb _ _ h)

pub room_done : (vs l : List ℕ) → number_of (room_answer vs l) ≡ 0 → length vs ≤ length l
room_done vs l z = elim (dec_le (length vs) (length l)) [ yes h ↦ h | no h ↦ absurd (let e = ap number_of (room_lacks vs l (omega arith)) in omega arith) ]

-- only the length counts
pub room_sized : (vs l : List ℕ) {n : ℕ} → n ≡ length vs → room_for n (length l) ≡ room_answer vs l
unfolding room_answer
room_sized vs l e = rw e

pub writes_fits : {vs l l' : List ℕ} {r : Result ℕ NoRoom} → Writes vs l r l' → length vs ≤ length l → l' ≡ over vs l
unfolding room_answer
writes_fits w h = w.bytes ∙ rw (le-leb _ _ h)

-- what was copied over a part as long as it
pub writes_part : {vs ys : List ℕ} {r : Result ℕ NoRoom} (at : ℕ) (l : List ℕ) → at + length vs ≤ length l → Writes vs (take (at + length vs - at) (drop at l)) r ys → ys ≡ vs
writes_part {vs} {ys} at l h w =
    let k : at + length vs - at ≡ length vs = omega arith in
    let d = length-drop at l in
    let m = length-take-le (length vs) (drop at l) (omega arith) in
    let v : Writes vs (take (length vs) (drop at l)) _ ys = rw k at w in
    writes_fits v (omega arith) ∙ over_is vs (take (length vs) (drop at l)) ∙ rw (drop_of_length-le (take (length vs) (drop at l)) {i = length vs} (omega arith)) (append-nil vs)

-- a refusal lays nothing
pub laid_refused : {X : Type 0} (a : Answer) (vs l : List X) → (number_of a ≡ 0 → ⊥) → laid a vs l ≡ l
laid_refused a vs l z = rw (ne_eqb _ _ z)

pub laid_at_refused : {X : Type 0} (a : Answer) (at : ℕ) (vs l : List X) → (number_of a ≡ 0 → ⊥) → laid_at a at vs l ≡ l
laid_at_refused a at vs l z = rw (ne_eqb _ _ z)

-- what a callee laid at the start of the part `&mut l[at..]`, said of the whole
pub rest_laid : (a : Answer) (at : ℕ) (vs l ys : List ℕ) → ys ≡ laid a vs (take (length l - at) (drop at l)) → put_mid at (length l - at) l ys ≡ laid_at a at vs l
rest_laid a at vs l ys e = by (eqb (number_of a) 0) e
  where
    by : (done : Bool) → ys ≡ pick done (over vs (take (length l - at) (drop at l))) (take (length l - at) (drop at l)) → put_mid at (length l - at) l ys ≡ pick done (over_at at vs l) l
    by true e = rest_put at vs l ys e
    by false e = rest_back at l ys e

pub ruleset laws = (copy_first, copy_turn, copy_all, copy_short)
