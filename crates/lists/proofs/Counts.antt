-- Our ALT count meets what is asked of any, by how a column splits at its commas; that leaves one count, and of what was written it
-- is the number of entries. Assumes nothing.
use Prim.Native.Nat.{ℕ, ◌<◌}
use mathlib.Core.Path.{◌≡◌, refl, sym, ap, ◌∙◌}
use mathlib.Core.Bool.{Bool, true, false}
use mathlib.Core.List.{List, [], ◌∷◌}
use native.Mathlib.Omega.{arith}
use lib.ListN.{length, get_or}
use Rattle.text.specs.Same.{same}
use Rattle.text.proofs.SameLaws.{same_is, same_other}
use Rattle.pieces.specs.Pieces.{split, joined}
use Rattle.pieces.proofs.PieceLaws.{free_nil, split_cut, split_only, split_whole, split_back}
use Rattle.lists.specs.AlternateBases.{alt_count}
use Rattle.lists.specs.Write.{list_text}
use Rattle.lists.specs.Demands.{Counts, OneCount, CountsWritten}
use Rattle.lists.specs.declared.write.Kind.TheVariants as K
use Rattle.lists.proofs.AltLaws.{count_dot, count_none, count_split}
use Rattle.lists.proofs.Demands.{joined_not_dot}

some : (t : List ℕ) → (t ≡ [] → ⊥) → 0 < length t
some [] s = absurd (s refl)
some (b ∷ t) s = omega arith

pub counts : Counts alt_count
counts =
    record {
      dot = count_dot;
      empty = count_none [] refl;
      other = λ t es n s c. count_split t n (some t s) ∙ rw (split_only es c);
    }

pub one_count : OneCount
unfolding OneCount
one_count count other c d [] = c.empty ∙ sym d.empty
one_count count other c d (b ∷ s) = by (same (b ∷ s) (46 ∷ [])) refl
  where
    by : (x : Bool) → same (b ∷ s) (46 ∷ []) ≡ x → count (b ∷ s) ≡ other (b ∷ s)
    by true e = rw (same_is _ _ e) (c.dot ∙ sym d.dot)
    by false e =
        let n = same_other _ _ e in
        let m : b ∷ s ≡ [] → ⊥ = λ z. omega (arith, ap length z) in
        c.other (b ∷ s) _ n m (split_cut 44 (b ∷ s)) ∙ sym (d.other (b ∷ s) _ n m (split_cut 44 (b ∷ s)))

pub counts_written : CountsWritten alt_count list_text
unfolding CountsWritten list_text
counts_written [] h n = count_dot
counts_written (e ∷ es) h n =
    let s = split_back 44 (e ∷ es) (omega arith) (λ i l. (h i l).no_comma) in
    let m : joined 44 (e ∷ es) ≡ [] → ⊥ =
    λ z. let q = sym s ∙ ap (split 44) z ∙ split_whole [] free_nil in
    omega (arith, (h 0 (omega arith)).some, ap (λ (l : List (List ℕ)). length (get_or l 0 [])) q) in
    count_split _ (joined_not_dot K.Alts (e ∷ es) s n) (some _ m) ∙ rw s
