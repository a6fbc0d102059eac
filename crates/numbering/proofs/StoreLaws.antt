-- An element stored in a list, in front of those behind it. Assumes nothing.
use Prim.Native.Nat.{ℕ, suc, ◌+◌, ◌<◌}
use mathlib.Core.Path.{◌≡◌, refl, ◌∙◌}
use mathlib.Core.List.{List, ◌∷◌}
use native.Mathlib.Numerals.{add-one}
use native.Mathlib.Nat.{le_refl}
use lib.ListN.{length, drop, set, length-set}
use lib.Seq.{drop-cons, drop-set-lt, get_or-set_same}

pub stored : (q a : ℕ) (l : List ℕ) → q < length l → drop q (set l q a) ≡ a ∷ drop (q + 1) l
stored q a l h =
    let z : q < length (set l q a) = simp length-set h in
    drop-cons (set l q a) q 0 z ∙ rw (get_or-set_same l q a 0 h, drop-set-lt (suc q) l q a (le_refl _), add-one) refl
