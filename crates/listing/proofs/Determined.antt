-- Two outcomes that a contract allows are equal: from a state there is one turn, and it goes on or stops; why it stops says what is asked for.
-- Assumes nothing.
use Prim.Native.Nat.{ℕ, ◌≤◌}
use mathlib.Core.Path.{◌≡◌, refl, sym, ap, ap₂, ◌∙◌, subst}
use mathlib.Core.Bool.{Bool}
use mathlib.Core.List.{List, ◌∷◌}
use native.Mathlib.Omega.{arith}
use lib.ListN.{length}
use Rattle.text.specs.Answer.{Answer}
use Rattle.text.specs.Over.{over_at}
use Rattle.listing.specs.Output.{row_bytes, rows_bytes}
use Rattle.listing.specs.Turn.{Move, on, gives}
use Rattle.listing.specs.Drive.{turn_of, passed, filled, printed, Steps, here, passes, prints, Stops, misplaced, wants, lacks, ends, Drives}
use Rattle.listing.specs.Ask.{Wants, reads, writes, lasts, clears, Asks, asks, strays}
use Rattle.listing.specs.Promises.{Determined}
use Rattle.listing.specs.declared.turn.Phase.{Phase}
use Rattle.listing.specs.declared.drive.State.{State}
use Rattle.listing.specs.declared.drive.Why.{Why}
use Rattle.listing.specs.declared.drive.Driven.{Driven}
use Rattle.std.specs.Prelude.{Result, Ok}
use Rattle.listing.specs.declared.ask.Ask.{Ask}
use Rattle.listing.specs.declared.ask.Beyond.{Beyond}

-- ---- one turn

row_same : {t : Move} {r q : Answer} {a b : Phase} {n m : ℕ} → t ≡ gives r a n → t ≡ gives q b m → r ≡ q
row_same e f = cc

pass_same : (s : State) {t : Move} {a b : Phase} {n m : ℕ} → t ≡ on a n → t ≡ on b m → passed s a n ≡ passed s b m
pass_same s {t} {a} {b} {n} {m} e f =
    let p : a ≡ b = cc in
    let q : n ≡ m = cc in
    λ i. passed s (p i) (q i)

print_same : (s : State) {t : Move} {r q : Answer} {a b : Phase} {n m : ℕ} → t ≡ gives r a n → t ≡ gives q b m → printed s r a n ≡ printed s q b m
print_same s {t} {r} {q} {a} {b} {n} {m} e f =
    let o : r ≡ q = cc in
    let p : a ≡ b = cc in
    let x : n ≡ m = cc in
    λ i. printed s (o i) (p i) (x i)

-- ---- one state

module _ {last : Bool} {w : List ℕ} {size : ℕ} {s : State} where
  -- where it stops it does not go on
  stops_pass : {why : Why} {then : Phase} {next : ℕ} → Stops last w size s why → turn_of last w s ≡ on then next → ⊥
  stops_pass (misplaced a) e = let z : ◌≡◌ {A = ℕ} 0 1 = cc in omega arith
  stops_pass (wants a) e = let z : ◌≡◌ {A = ℕ} 0 1 = cc in omega arith
  stops_pass (lacks a f) e = let z : ◌≡◌ {A = ℕ} 0 1 = cc in omega arith
  stops_pass (ends a) e = let z : ◌≡◌ {A = ℕ} 0 1 = cc in omega arith

  stops_print : {why : Why} {r : Answer} {then : Phase} {next : ℕ} → Stops last w size s why → turn_of last w s ≡ gives r then next → filled s r ≤ size → ⊥
  stops_print (misplaced a) e h = let z : ◌≡◌ {A = ℕ} 0 1 = cc in omega arith
  stops_print (wants a) e h = let z : ◌≡◌ {A = ℕ} 0 1 = cc in omega arith
  stops_print (lacks a f) e h = let k = ap (λ (r : Answer). length (row_bytes r)) (row_same a e) in omega arith
  stops_print (ends a) e h = let z : ◌≡◌ {A = ℕ} 0 1 = cc in omega arith

  stops_same : {why other : Why} → Stops last w size s why → Stops last w size s other → why ≡ other
  stops_same (misplaced a) (misplaced b) = refl
  stops_same (misplaced a) (wants b) = cc
  stops_same (misplaced a) (lacks b g) = cc
  stops_same (misplaced a) (ends b) = cc
  stops_same (wants a) (misplaced b) = cc
  stops_same (wants a) (wants b) = refl
  stops_same (wants a) (lacks b g) = cc
  stops_same (wants a) (ends b) = cc
  stops_same (lacks a f) (misplaced b) = cc
  stops_same (lacks a f) (wants b) = cc
  stops_same (lacks a f) (lacks b g) = refl
  stops_same (lacks a f) (ends b) = cc
  stops_same (ends a) (misplaced b) = cc
  stops_same (ends a) (wants b) = cc
  stops_same (ends a) (lacks b g) = cc
  stops_same (ends a) (ends b) = refl

-- ---- turns

record Same (r q : List Answer) (e f : State) (y z : Why) : Type 0 where
  rows : r ≡ q
  state : e ≡ f
  why : y ≡ z

steps_same : {last : Bool} {w : List ℕ} {size : ℕ} {s e f : State} {r q : List Answer} {y z : Why} → Steps last w size s r e → Stops last w size e y
    → Steps last w size s q f → Stops last w size f z → Same r q e f y z
steps_same here y here z = record { rows = refl; state = refl; why = stops_same y z }
steps_same here y (passes m x) z = absurd (stops_pass y m)
steps_same here y (prints m f x) z = absurd (stops_print y m f)
steps_same (passes m x) y here z = absurd (stops_pass z m)
steps_same (passes {s = s} m x) y (passes n u) z = steps_same x y (rw (pass_same s n m) at u) z
steps_same (passes m x) y (prints n f u) z = let o : ◌≡◌ {A = ℕ} 0 1 = cc in absurd (omega arith)
steps_same (prints m f x) y here z = absurd (stops_print z m f)
steps_same (prints m f x) y (passes n u) z = let o : ◌≡◌ {A = ℕ} 0 1 = cc in absurd (omega arith)
steps_same (prints {s = s} m f x) y (prints n g u) z =
    let o = steps_same x y (rw (print_same s n m) at u) z in
    record { rows = ap₂ (λ (a : Answer) (b : List Answer). a ∷ b) (row_same m n) o.rows; state = o.state; why = o.why }

drive_determined : {last : Bool} {w : List ℕ} {s : State} {l l' l'' : List ℕ} {d d'' : Driven} → Drives last w s l d l' → Drives last w s l d'' l''
    → (d ≡ d'') × (l' ≡ l'')
drive_determined {s = s} {l = l} x y =
    let o = steps_same x.steps x.stops y.steps y.stops in (
      ap₂ (λ (a : Why) (b : State). record { why = a; state = b }) o.why o.state,
      x.bytes ∙ ap (λ (r : List Answer). over_at s.put (rows_bytes r) l) o.rows ∙ sym y.bytes,
    )

-- ---- what is asked for

wants_same : {end : ℕ} {e : State} {b m b' b'' l' l'' : List ℕ} {r r'' : Ask} {why : Why} → Wants end e b m r b' l' why → Wants end e b m r'' b'' l'' why
    → (r ≡ r'') × (b' ≡ b'') × (l' ≡ l'')
wants_same (reads p k v) (reads q j u) = (p ∙ sym q, k ∙ sym j, v ∙ sym u)
wants_same (writes p k v) (writes q j u) = (p ∙ sym q, k ∙ sym j, v ∙ sym u)
wants_same (lasts h p k v) (lasts g q j u) = (p ∙ sym q, k ∙ sym j, v ∙ sym u)
wants_same (lasts h p k v) (clears g q j u) = absurd (omega arith)
wants_same (clears h p k v) (lasts g q j u) = absurd (omega arith)
wants_same (clears h p k v) (clears g q j u) = (p ∙ sym q, k ∙ sym j, v ∙ sym u)

ask_determined : {last : Bool} {end : ℕ} {s : State} {b l b' b'' l' l'' : List ℕ} {r r'' : Result Ask Beyond} → Asks last end s b l r b' l' → Asks last end s b l r'' b'' l''
    → (r ≡ r'') × (b' ≡ b'') × (l' ≡ l'')
ask_determined {end = end} {b = b} {b'' = b''} {l'' = l''} (asks {d = d} {m = m} i x v p) (asks {ask = ask} j y u q) =
    let o = drive_determined y x in
    let w = wants_same v (subst (λ (f : Driven). Wants end f.state b m ask b'' l'' f.why) o.0 (rw o.1 at u)) in
    (p ∙ ap (λ (a : Ask). Ok a) w.0 ∙ sym q, w.1, w.2)
ask_determined (asks i x v p) (strays j q k u) = absurd (j i)
ask_determined (strays i p k v) (asks j y u q) = absurd (i j)
ask_determined (strays i p k v) (strays j q m u) = (p ∙ sym q, k ∙ sym m, v ∙ sym u)

pub determined : Determined
determined =
    record {
      first = λ r r' e e'. e ∙ sym e';
      drive = λ w last s l r r' m m' x y. drive_determined x y;
      ask_next = λ b end last s l r r' c c' m m' x y. ask_determined x y;
    }
