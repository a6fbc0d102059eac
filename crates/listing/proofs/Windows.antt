-- What the input holds from a place of a window on is the window from there on, then what follows it; both laws of buffers are that. Assumes nothing.
use Prim.Native.Nat.{ℕ, ◌+◌, ◌-◌, ◌≤◌}
use mathlib.Core.Path.{◌≡◌, sym, ap, ◌∙◌}
use mathlib.Core.Bool.{Bool, true}
use mathlib.Core.List.{List, ◌++◌, append-nil}
use native.Mathlib.Omega.{arith}
use lib.ListN.{length, take, drop, length-append, length-take, length-drop, take-append-drop, drop_of_length-le}
use lib.Seq.{take-append_seam, take-add, drop-append-le, drop-drop}
use Rattle.text.proofs.Lists.{drop_take, length_over, take_over}
use Rattle.listing.specs.Ask.{kept_bytes}
use Rattle.listing.specs.Demands.{Holds, KeepsWindow, Grows}

module _ {s : List ℕ} {base : ℕ} {w : List ℕ} {last : Bool} (h : Holds s base w last) where
  -- the window, then what follows it
  holds_rest : drop base s ≡ w ++ drop (base + length w) s
  holds_rest =
      sym (take-append-drop (length w) (drop base s)) ∙ rw (h.part, drop-drop (length w) base s)

  -- the same from a place of the window on
  pub left_from : (p : ℕ) → p ≤ length w → drop (base + p) s ≡ drop p w ++ drop (base + length w) s
  left_from p l = sym (drop-drop p base s) ∙ ap (drop p) holds_rest ∙ drop-append-le p w (drop (base + length w) s) l

  -- nothing follows the last window
  pub left_last : (p : ℕ) → p ≤ length w → last ≡ true → drop (base + p) s ≡ drop p w
  left_last p l e =
      let z = h.all e in
      left_from p l ∙ rw (drop_of_length-le s {i = base + length w} (omega arith)) (append-nil (drop p w))

  -- a window's rest is a window
  pub holds_later : (p : ℕ) → p ≤ length w → Holds s (base + p) (drop p w) last
  holds_later p l =
      let n = length-drop p w in
      record {
        within = omega arith;
        part = rw (left_from p l) (take-append_seam (drop p w) (drop (base + length w) s));
        all = λ e. (let z = h.all e in omega arith);
      }

kept_bytes_lem : (at end : ℕ) (l : List ℕ) → at ≤ end → end ≤ length l → take (end - at) (kept_bytes at end l) ≡ drop at (take end l)
unfolding kept_bytes
kept_bytes_lem at end l a b =
    take_over (take (end - at) (drop at l)) l (end - at) (simp (length-take, length-drop) (omega arith)) ∙ sym (drop_take l at end a b)

pub kept_length : (at end : ℕ) (l : List ℕ) → at ≤ end → end ≤ length l → length (take (end - at) (kept_bytes at end l)) ≡ end - at
kept_length at end l a b = ap length (kept_bytes_lem at end l a b) ∙ simp (length-drop, length-take) (omega arith)

pub kept_size : (at end : ℕ) (l : List ℕ) → at ≤ end → end ≤ length l → length (kept_bytes at end l) ≡ length l
unfolding kept_bytes
kept_size at end l a b =
    length_over (take (end - at) (drop at l)) l (simp (length-take, length-drop) (omega arith))

pub keeps_window : KeepsWindow kept_bytes
unfolding KeepsWindow
keeps_window s base at end l last a b h =
    rw (kept_bytes_lem at end l a b) (holds_later h at (simp length-take (omega arith)))

pub grows : Grows
grows s base w v last h k =
    let n = length-append w v in
    record {
      within = omega arith;
      part = rw (n, take-add (length w) (length v) (drop base s), h.part, drop-drop (length w) base s, k.part);
      all = λ e. (let z = k.all e in omega arith);
    }
