-- Slices that keep a list: what is laid over them is kept, and its first entries, copied, lie over others. Assumes nothing.
use Prim.Native.Nat.{ℕ, ◌+◌, ◌≤◌, ◌<◌, zero-le}
use mathlib.Core.Path.{◌≡◌, refl, sym, ◌∙◌}
use mathlib.Core.List.{List, ◌++◌}
use native.Mathlib.Omega.{arith}
use native.Mathlib.Nat.{zero-add}
use native.Mathlib.Numerals.{add-one}
use lib.ListN.{length, get_or, take, drop, set, length-set}
use lib.Seq.{paste-suc, length-take-le, take_at}
use Rattle.text.specs.Over.{over}
use Rattle.text.proofs.Lists.{over_is, over_nil, length_over}
use Rattle.allele.specs.Row.{numbers_of, missing_of, phased_of, Parallel}
use Rattle.allele.specs.declared.allele.Allele.{Allele}
use Rattle.allele.proofs.ColumnLaws.{numbers_of_length, missing_of_length, phased_of_length}
use Rattle.genotype.specs.Inner.{Room, Laid, Copies, Keeps}

-- slices of one length have room where the first has
pub room_even : {k : ℕ} {n m p : List ℕ} → Parallel n m p → k ≤ length n → Room k n m p
room_even q h = record { numbers = h; missing = omega (arith, q.missing); phased = omega (arith, q.phased) }

-- ---- copied

-- the first i entries of s lie over l₀
pub record Copied (s l₀ l : List ℕ) (i : ℕ) : Type 0 where
  pub len : length l ≡ length l₀
  pub same : l ≡ over (take i s) l₀

over_take : (s l : List ℕ) (i : ℕ) → i ≤ length s → over (take i s) l ≡ take i s ++ drop i l
over_take s l i h = rw (over_is (take i s) l, length-take-le i s h)

copied_none : (s l : List ℕ) → Copied s l l 0
copied_none s l = record { len = refl; same = sym (over_nil l) }

copied_turn : {s l₀ l : List ℕ} {i : ℕ} → i < length s → i < length l₀ → Copied s l₀ l i → Copied s l₀ (set l i (get_or s i 0)) (i + 1)
copied_turn {s} {l₀} {l} {i} h k g =
    record {
      len = simp length-set g.len;
      same =
          rw
          (g.same, over_take s l₀ i (omega arith), over_take s l₀ (i + 1) (omega arith), add-one i)
          (simp zero-add at (paste-suc l₀ 0 s i 0 (omega arith) h));
    }

-- of three slices, up to n entries
pub record Copying (n : ℕ) (a b c l₀ m₀ p₀ l m p : List ℕ) (i : ℕ) : Type 0 where
  pub within : i ≤ n
  pub from : Room n a b c
  pub room : Room n l₀ m₀ p₀
  pub numbers : Copied a l₀ l i
  pub missing : Copied b m₀ m i
  pub phased : Copied c p₀ p i

pub copy_first : {n : ℕ} {a b c l m p : List ℕ} → Room n a b c → Room n l m p → Copying n a b c l m p l m p 0
copy_first r q =
    record { within = zero-le; from = r; room = q; numbers = copied_none _ _; missing = copied_none _ _; phased = copied_none _ _ }

module _ {n : ℕ} {a b c l₀ m₀ p₀ l m p : List ℕ} {i : ℕ} (g : Copying n a b c l₀ m₀ p₀ l m p i) where
  pub copy_turn : i < n → Copying n a b c l₀ m₀ p₀ (set l i (get_or a i 0)) (set m i (get_or b i 0)) (set p i (get_or c i 0)) (i + 1)
  copy_turn h =
      let r = g.from in
      let q = g.room in
      record {
        within = omega arith;
        from = r;
        room = q;
        numbers = copied_turn (omega arith) (omega arith) g.numbers;
        missing = copied_turn (omega arith) (omega arith) g.missing;
        phased = copied_turn (omega arith) (omega arith) g.phased;
      }

  pub copy_past : n ≤ i → Copies n a b c l₀ m₀ p₀ l m p
  copy_past h =
      let e : i ≡ n = omega arith in
      rw (← e) (record { numbers = g.numbers.same; missing = g.missing.same; phased = g.phased.same })

-- ---- kept

kept : (vs l : List ℕ) (k : ℕ) → length vs ≡ k → take k (over vs l) ≡ vs
kept vs l k e = rw (over_is vs l) (take_at vs _ k e)

module _ {as' : List Allele} {l m p a b c : List ℕ} where
  pub laid_keeps : Room (length as') l m p → Laid as' l m p a b c → Keeps as' a b c
  laid_keeps r g =
      let x = numbers_of_length as' in
      let y = missing_of_length as' in
      let z = phased_of_length as' in
      rw (g.numbers, g.missing, g.phased)
      (record {
        room = record {
          numbers = rw (length_over (numbers_of as') l (omega arith)) r.numbers;
          missing = rw (length_over (missing_of as') m (omega arith)) r.missing;
          phased = rw (length_over (phased_of as') p (omega arith)) r.phased;
        };
        numbers = kept _ _ _ x;
        missing = kept _ _ _ y;
        phased = kept _ _ _ z;
      })

-- where the first entries that keep a list are copied, the list is laid
pub keeps_laid : {as' : List Allele} {a b c l m p l' m' p' : List ℕ} → Keeps as' a b c → Copies (length as') a b c l m p l' m' p' → Laid as' l m p l' m' p'
keeps_laid k g =
    record {
      numbers = g.numbers ∙ rw k.numbers;
      missing = g.missing ∙ rw k.missing;
      phased = g.phased ∙ rw k.phased;
    }

pub ruleset laws = (copy_first, copy_turn, copy_past)
