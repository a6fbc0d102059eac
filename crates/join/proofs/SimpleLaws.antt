-- All columns judged at once: what the marks and the ends tell of each column, and that none is refused then. Assumes nothing.
use Prim.Native.Nat.{ℕ, ◌+◌, ◌-◌, ◌<◌, ◌≤◌}
use mathlib.Core.Path.{◌≡◌, refl, sym, ◌∙◌}
use mathlib.Core.Bool.{Bool, true, false, false≢true}
use mathlib.Core.List.{List, []}
use native.Mathlib.Omega.{arith}
use native.Mathlib.Decide.{ℕ_discrete}
use lib.ListN.{length, get_or, take, drop, length-drop}
use lib.Seq.{length-take-le, get_or-take, get_or-drop}
use lib.Dec.{eqb}
use lib.Bits.{bit_or}
use borrow.Author.Tests.{eqb-true}
use Rattle.text.specs.Bytes.{ends_in}
use Rattle.text.specs.Utf8.{is_utf8}
use Rattle.text.specs.Verdict.{Verdict, fine}
use Rattle.text.proofs.FlagLaws.{or_left, or_right}
use Rattle.text.proofs.ByteLaws.{ends_at}
use Rattle.text.proofs.RunLaws.{plain_utf8}
use Rattle.entries.specs.Entries.{rising, entry_list}
use Rattle.entries.specs.Inner.{start_of}
use Rattle.entries.proofs.EntryLaws.{start_first, start_later, fits_rising, entries_length, entry_cut}
use Rattle.record.specs.Ending.{Ending, feed}
use Rattle.line.specs.Demands.{Column}
use Rattle.join.specs.Join.{is_bad, loses_return}
use Rattle.join.specs.Demands.{no_column, lost, Fault, bad, broken}
use Rattle.join.specs.Inner.{Simple, Marks, AllSimple, Apart, Fine}
use Rattle.join.proofs.FaultLaws.{column_bad, Found, faultless, faulty, found}

-- ---- the bytes

-- where the first i bytes have no mark, they are simple
pub record Gathering (s : List ℕ) (marks i : ℕ) : Type 0 where
  pub within : i ≤ length s
  pub all : marks ≡ 0 → AllSimple s i

pub gather_first : {s : List ℕ} → Gathering s 0 0
gather_first = record { within = omega arith; all = λ z. record { each = λ k h. absurd (omega arith) } }

module _ {s : List ℕ} {marks i : ℕ} (g : Gathering s marks i) where
  pub gather_turn : {r : ℕ} → i < length s → Marks (get_or s i 0) r → Gathering s (bit_or marks r) (i + 1)
  gather_turn {r} h m = record { within = omega arith; all = λ z. record { each = λ k l. by z k l (ℕ_discrete k i) } }
    where
      by : bit_or marks r ≡ 0 → (k : ℕ) → k < i + 1 → Dec (k ≡ i) → Simple (get_or s k 0)
      by z k l (yes e) = rw e (m.none (omega (arith, or_right marks r)))
      by z k l (no n) = (g.all (omega (arith, or_left marks r))).each k (omega arith)

  pub gather_past : length s ≤ i → eqb marks 0 ≡ true → AllSimple s (length s)
  gather_past h e = let w = g.within in let z : length s ≡ i = omega arith in rw z (g.all (eqb-true marks 0 e))

-- ---- the ends

-- the first i columns are apart, and the next starts here
pub record Climbing (ends : List ℕ) (start i : ℕ) : Type 0 where
  pub within : i ≤ length ends
  pub from : start ≡ start_of ends i
  pub apart : Apart ends i

pub climb_first : {ends : List ℕ} → Climbing ends 0 0
climb_first {ends} =
    record {
      within = omega arith;
      from = start_first ends 0 refl;
      apart = record { some = λ k h. absurd (omega arith); below = λ k h. absurd (omega arith) };
    }

module _ {ends : List ℕ} {start i : ℕ} (g : Climbing ends start i) where
  pub climb_turn : i < length ends → start < get_or ends i 0 → Climbing ends (get_or ends i 0) (i + 1)
  climb_turn h l =
      record {
        within = omega arith;
        from = next;
        apart = record { some = λ k m. some k m (ℕ_discrete k i); below = λ k m. below k m (ℕ_discrete k i) };
      }
    where
      next : get_or ends i 0 ≡ start_of ends (i + 1)
      next = let z : i + 1 - 1 ≡ i = omega arith in rw z at (start_later ends (i + 1) (λ e. omega arith))

      some : (k : ℕ) → k < i + 1 → Dec (k ≡ i) → start_of ends k < get_or ends k 0
      some k m (yes e) = rw e (let f = g.from in omega arith)
      some k m (no n) = g.apart.some k (omega arith)

      below : (k : ℕ) → k < i + 1 → Dec (k ≡ i) → get_or ends k 0 ≤ start_of ends (i + 1)
      below k m (yes e) = rw e (let q = next in omega arith)
      below k m (no n) = let q = next in let f = g.from in omega (arith, g.apart.below k (omega arith))

  pub climb_past : length ends ≤ i → true ≡ true → Apart ends (length ends)
  climb_past h z = let w = g.within in let y : length ends ≡ i = omega arith in rw y g.apart

pub climb_no : (ends : List ℕ) → false ≡ true → Apart ends (length ends)
climb_no ends z = absurd (false≢true z)

-- ---- one column

module _ (c : List ℕ) {u : Bool} (f : u ≡ true → AllSimple c (length c)) (y : u ≡ true) where
  simple_column : (length c ≡ 0 → ⊥) → Column c
  simple_column h =
      let g = f y in
      record { some = omega arith; no_tab = record { free = λ k l. (g.each k l).no_tab }; no_feed = record { free = λ k l. (g.each k l).no_feed } }

  pub simple_not_bad : (length c ≡ 0 → ⊥) → false ≡ is_bad c
  simple_not_bad h = sym (column_bad c (simple_column h))

  pub simple_utf8 : u ≡ is_utf8 c
  simple_utf8 = let g = f y in y ∙ sym (plain_utf8 c (λ k l. (g.each k l).small))

-- ---- each column of a list

module _ (t ends : List ℕ) (a : Apart ends (length ends)) (w : start_of ends (length ends) ≤ length t) where
  apart_rises : rising 0 ends (length t) ≡ true
  apart_rises = fits_rising ends (length t) (λ i h. record { up = omega (arith, a.some i h); within = omega (arith, a.below i h) })

  module _ (k : ℕ) (h : k < length ends) where
    -- a column's length, and its bytes among those up to the last end
    column_length : length (get_or (entry_list t ends) k []) ≡ get_or ends k 0 - start_of ends k
    column_length =
        let b = a.below k h in
        let n = length-drop (start_of ends k) t in
        rw (← entry_cut t ends k h) (length-take-le (get_or ends k 0 - start_of ends k) (drop (start_of ends k) t) (omega arith))

    column_byte : (j : ℕ) → j < get_or ends k 0 - start_of ends k → get_or (get_or (entry_list t ends) k []) j 0 ≡ get_or (take (start_of ends (length ends)) t) (start_of ends k + j) 0
    column_byte j l =
        let b = a.below k h in
        let m : start_of ends k + j < start_of ends (length ends) = omega arith in
        rw (← entry_cut t ends k h, get_or-take (get_or ends k 0 - start_of ends k) (drop (start_of ends k) t) j 0 l, get_or-drop, get_or-take)

    module _ (g : AllSimple (take (start_of ends (length ends)) t) (length (take (start_of ends (length ends)) t))) where
      simple_at : AllSimple (get_or (entry_list t ends) k []) (length (get_or (entry_list t ends) k []))
      simple_at =
          let b = a.below k h in
          let c = column_length in
          let n = length-take-le (start_of ends (length ends)) t w in
          record { each = λ j l. rw (column_byte j (omega arith)) (g.each (start_of ends k + j) (omega arith)) }

      fine_column : Column (get_or (entry_list t ends) k [])
      fine_column = let c = column_length in simple_column _ (λ z. simple_at) refl (λ z. omega (arith, a.some k h))

      fine_utf8 : is_utf8 (get_or (entry_list t ends) k []) ≡ true
      fine_utf8 = sym (simple_utf8 _ (λ z. simple_at) refl)

    -- the text up to the last end ends as the last column does
    last_byte : k + 1 ≡ length ends → ends_in 13 (get_or (entry_list t ends) k []) ≡ ends_in 13 (take (start_of ends (length ends)) t)
    last_byte e =
        let l = a.some k h in
        let n = length-take-le (start_of ends (length ends)) t w in
        let c = column_length in
        let d = start_later ends (length ends) (λ z. omega arith) in
        let z : length ends - 1 ≡ k = omega arith in
        let y : start_of ends (length ends) ≡ get_or ends k 0 = rw z at (sym d) in
        let x : start_of ends k + (length (get_or (entry_list t ends) k []) - 1) ≡ length (take (start_of ends (length ends)) t) - 1 = omega arith in
        ends_at 13 (get_or (entry_list t ends) k []) (omega arith)
        ∙ rw (column_byte (length (get_or (entry_list t ends) k []) - 1) (omega arith), x)
        (sym (ends_at 13 (take (start_of ends (length ends)) t) (omega arith)))

-- ---- all of them

module _ (t ends : List ℕ) (e : Ending) where
  module _ {a : Bool} (s : 0 < length ends) (f : a ≡ true → Apart ends (length ends)) (y : a ≡ true) {end : ℕ} (q : end ≡ start_of ends (length ends)) (w : end ≤ length t) {u : Bool}
      (r : u ≡ loses_return e (take end t)) (n : u ≡ false) where
    pub fine_yes : {b : Bool} → (b ≡ true → AllSimple (take end t) (length (take end t))) → b ≡ true → Fine t ends e
    unfolding loses_return
    fine_yes g z = record { rises = apart_rises t ends (f y) (omega arith); judged = by (found 0 (entry_list t ends) e) }
      where
        within : start_of ends (length ends) ≤ length t
        within = omega arith

        simple : AllSimple (take (start_of ends (length ends)) t) (length (take (start_of ends (length ends)) t))
        simple = rw q at (g z)

        kept : e ≡ feed → ends_in 13 (take (start_of ends (length ends)) t) ≡ false
        kept d = sym (rw (n, d, q) at r)

        none : (k m : ℕ) → k < length (entry_list t ends) → Fault (entry_list t ends) e k m → ⊥
        none k m l (bad (no_column x)) = x (fine_column t ends (f y) within k (omega (arith, entries_length t ends)) simple)
        none k m l (bad (lost d x z)) =
            let c = entries_length t ends in
            false≢true (sym (kept z) ∙ sym (last_byte t ends (f y) within k (omega arith) (omega arith)) ∙ x)
        none k m l (broken x z) = false≢true (sym z ∙ fine_utf8 t ends (f y) within k (omega (arith, entries_length t ends)) simple)

        by : {v : Verdict} → Found 0 (entry_list t ends) e v → v ≡ fine
        by (faultless x) = refl
        by (faulty x) = absurd (none _ _ x.within x.here)

  pub fine_no : false ≡ true → Fine t ends e
  fine_no z = absurd (false≢true z)

pub ruleset laws = (gather_first, gather_turn, gather_past, climb_first, climb_turn, climb_past, climb_no, simple_not_bad, simple_utf8, fine_yes, fine_no)
