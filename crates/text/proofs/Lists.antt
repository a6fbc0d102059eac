-- Laws of lists as loops and lent parts have them. Assumes nothing.
use Prim.Native.Nat.{ℕ, zero, suc, ◌+◌, ◌-◌, ◌<◌, ◌≤◌}
use mathlib.Core.Path.{◌≡◌, refl, sym, ap, ◌∙◌, subst}
use mathlib.Core.List.{List, [], ◌∷◌, ◌++◌, append_assoc, append-nil}
use native.Mathlib.Omega.{arith}
use native.Mathlib.Nat.{zero-add, le_refl, le_of_suc-le-suc}
use native.Mathlib.Numerals.{add-one}
use lib.ListN.{length, get_or, take, drop, set, length-append, length-drop, take-append-drop, drop_of_length-le}
use lib.Seq.{sets, sets-eq, drop-cons, take_all, drop-drop, length-take-le, take-add, take_at, drop_at, take-append-add, drop-append-add}
use borrow.Rule.Slice.PartMut.{put_mid}
use Rattle.text.specs.Range.{cut}
use Rattle.text.specs.declared.range.Range.{Range}
use Rattle.text.specs.Over.{over, over_at}

-- induction on a list from its end
pub by_snoc : (P : List ℕ → Type 0) → P [] → ((s : List ℕ) (d : ℕ) → P s → P (s ++ d ∷ [])) → (s : List ℕ) → P s
by_snoc P nil snoc s = go [] s nil
  where
    go : (s t : List ℕ) → P s → P (s ++ t)
    go s [] h = rw append-nil h
    go s (d ∷ t) h = subst P (append_assoc s (d ∷ []) t) (go (s ++ d ∷ []) t (snoc s d h))

-- from index i on there is the element at i, and then those from i + 1 on
pub here : (s : List ℕ) (i : ℕ) → i < length s → drop i s ≡ get_or s i 0 ∷ drop (i + 1) s
here s i h = rw (add-one, drop-cons s i 0)

-- the same, to an index j that is one further
pub onward : (s : List ℕ) (i j : ℕ) → i < length s → i + 1 ≡ j → drop i s ≡ get_or s i 0 ∷ drop j s
onward s i j h e = rw (← e) (here s i h)

-- what a range cuts out
pub cut_is : (start len : ℕ) (t : List ℕ) → cut (record { start = start; len = len }) t ≡ take len (drop start t)
unfolding cut
cut_is start len t = refl

pub cut_length : (r : Range) (t : List ℕ) → r.start + r.len ≤ length t → length (cut r t) ≡ r.len
unfolding cut
cut_length r t h = length-take-le r.len (drop r.start t) (simp length-drop (omega arith))

-- the part from one index up to another, cut either way round
pub drop_take : (l : List ℕ) (a e : ℕ) → a ≤ e → e ≤ length l → drop a (take e l) ≡ take (e - a) (drop a l)
drop_take l a e h w =
    let n : a + (e - a) ≡ e = omega arith in
    ap (λ (k : ℕ). drop a (take k l)) (sym n)
    ∙ ap (drop a) (take-add a (e - a) l)
    ∙ drop_at (take a l) (take (e - a) (drop a l)) a (length-take-le a l (omega arith))

-- ---- a part from an index to the end

pub rest_all : (l : List ℕ) (a : ℕ) → take (length l - a) (drop a l) ≡ drop a l
rest_all l a = take_all (length l - a) (drop a l) (simp length-drop (le_refl _))

pub length_rest : (l : List ℕ) (a : ℕ) → length (take (length l - a) (drop a l)) ≡ length l - a
length_rest l a = rw (rest_all l a) (length-drop a l)

-- what a callee wrote at the start of the part `&mut l[a..]`, said of the whole
pub rest_put : (a : ℕ) (vs l ys : List ℕ) → ys ≡ over vs (take (length l - a) (drop a l)) → put_mid a (length l - a) l ys ≡ over_at a vs l
unfolding over_at
rest_put a vs l ys e =
    let n : length (drop a l) ≤ length l - a = simp length-drop (le_refl _) in
    rw (e, rest_all l a, drop_of_length-le (drop a l) n, append-nil)

-- and into a part that is as long as they are
pub part_put : (a : ℕ) (vs l ys : List ℕ) → ys ≡ vs → put_mid a (a + length vs - a) l ys ≡ over_at a vs l
unfolding over_at over
part_put a vs l ys e = let n : a + length vs - a ≡ length vs = omega arith in rw (e, n)

-- ---- `over` and `over_at`

pub over_is : {X : Type 0} (vs l : List X) → over vs l ≡ vs ++ drop (length vs) l
unfolding over
over_is vs l = refl

pub over_nil : (l : List ℕ) → over [] l ≡ l
unfolding over
over_nil l = refl

-- elements stored from the start on
pub sets_over : {X : Type 0} (vs l : List X) → length vs ≤ length l → sets l 0 vs ≡ over vs l
unfolding over
sets_over vs l h = simp zero-add at (sets-eq vs l 0 (omega arith))

pub over_at_nil : (a : ℕ) (l : List ℕ) → over_at a [] l ≡ l
unfolding over_at over
over_at_nil a l = take-append-drop a l

-- from the start on
pub over_at_start : (vs l : List ℕ) → over_at 0 vs l ≡ over vs l
unfolding over_at
over_at_start vs l = refl

pub length_over : (vs l : List ℕ) → length vs ≤ length l → length (over vs l) ≡ length l
unfolding over
length_over vs l h = simp (length-append, length-drop) (omega arith)

pub length_over_at : (a : ℕ) (vs l : List ℕ) → a + length vs ≤ length l → length (over_at a vs l) ≡ length l
unfolding over_at
length_over_at a vs l h =
    let t = length-drop a l in
    let o = length_over vs (drop a l) (omega arith) in
    length-append (take a l) _ ∙ (let k = length-take-le a l (omega arith) in omega arith)

-- what was laid over a list is at its start
pub take_over : (vs l : List ℕ) (k : ℕ) → k ≡ length vs → take k (over vs l) ≡ vs
unfolding over
take_over vs l k e = take_at vs (drop (length vs) l) k (sym e)

pub take_over_at : (a : ℕ) (vs l : List ℕ) (k : ℕ) → a ≤ length l → k ≡ length vs → take k (drop a (over_at a vs l)) ≡ vs
unfolding over_at
take_over_at a vs l k h e = rw (drop_at (take a l) (over vs (drop a l)) a (length-take-le a l h)) (take_over vs (drop a l) k e)

-- one run of bytes and then another
pub over_append : (us vs l : List ℕ) → length us ≤ length l → over (us ++ vs) l ≡ over_at (length us) vs (over us l)
unfolding over_at over
over_append us vs l h =
    rw (take_at us (drop (length us) l) (length us) refl, drop_at us (drop (length us) l) (length us) refl, length-append, drop-drop)
    (append_assoc us vs _)

over_at_front : (p : List ℕ) (n : ℕ) (vs l : List ℕ) → over_at (length p + n) vs (p ++ l) ≡ p ++ over_at n vs l
unfolding over_at
over_at_front p n vs l = rw (take-append-add p l n, drop-append-add p l n) (append_assoc p (take n l) _)

pub over_at_append : (a : ℕ) (us vs l : List ℕ) → a + length us ≤ length l → over_at a (us ++ vs) l ≡ over_at (a + length us) vs (over_at a us l)
unfolding over_at
over_at_append a us vs l h =
    let d : length us ≤ length (drop a l) = simp length-drop (omega arith) in
    let k : length (take a l) ≡ a = length-take-le a l (omega arith) in
    ap (λ (z : List ℕ). take a l ++ z) (over_append us vs (drop a l) d)
    ∙ sym (over_at_front (take a l) (length us) vs (over us (drop a l)))
    ∙ ap (λ (n : ℕ). over_at (n + length us) vs (take a l ++ over us (drop a l))) k

-- one element before what was laid over a list
pub over_at_before : (l : List ℕ) (a : ℕ) (vs : List ℕ) (b : ℕ) → a < length l → set (over_at (a + 1) vs l) a b ≡ over_at a (b ∷ vs) l
unfolding over_at over
over_at_before l a vs b h = rw add-one (go l a h)
  where
    go : (l : List ℕ) (a : ℕ) → a < length l → set (over_at (suc a) vs l) a b ≡ over_at a (b ∷ vs) l
    go [] a h = absurd (omega arith)
    go (x ∷ l) zero h = refl
    go (x ∷ l) (suc a) h = ap (λ (z : List ℕ). x ∷ z) (go l a (le_of_suc-le-suc h))

-- one element laid over a list is a store
pub over_at_one : (l : List ℕ) (a b : ℕ) → a < length l → over_at a (b ∷ []) l ≡ set l a b
over_at_one l a b h = sym (over_at_before l a [] b h) ∙ rw over_at_nil

-- what was laid over a list before is gone where as much or more is laid over it
over_again : (us vs l : List ℕ) → length us ≤ length vs → over vs (over us l) ≡ over vs l
unfolding over
over_again us vs l h =
    let n : length us + (length vs - length us) ≡ length vs = omega arith in
    rw (← n, drop-append-add us (drop (length us) l) (length vs - length us), drop-drop)

pub over_at_again : (a : ℕ) (us vs l : List ℕ) → length us ≤ length vs → a ≤ length l → over_at a vs (over_at a us l) ≡ over_at a vs l
unfolding over_at
over_at_again a us vs l h k =
    let n = length-take-le a l k in
    rw (take_at (take a l) (over us (drop a l)) a n, drop_at (take a l) (over us (drop a l)) a n, over_again us vs (drop a l) h)

-- a part that came back as it was lent
pub rest_back : (a : ℕ) (l ys : List ℕ) → ys ≡ take (length l - a) (drop a l) → put_mid a (length l - a) l ys ≡ l
rest_back a l ys e = rest_put a [] l ys (e ∙ sym (over_nil _)) ∙ over_at_nil a l
