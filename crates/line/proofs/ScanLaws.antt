-- A line's columns by blocks: the marks of a block one by one, blocks without marks, and blocks behind nine tabs. Assumes nothing.
use Prim.Native.Nat.{ℕ, zero, suc, ◌+◌, ◌-◌, ◌/◌, ◌%◌, ◌≤◌, ◌<◌}
use mathlib.Core.Path.{◌≡◌, refl, sym, ◌∙◌}
use mathlib.Core.Bool.{Bool, true, false, ◌&&◌, and-eq-true_iff, true≢false}
use mathlib.Core.Logic.{inl, ⊎_elim}
use mathlib.Core.List.{List}
use native.Mathlib.Omega.{arith}
use native.Mathlib.Decide.{ℕ_discrete}
use native.Mathlib.Nat.{le_refl, add-zero}
use lib.ListN.{length, get_or, set}
use lib.Seq.{set_out}
use lib.Dec.{eqb, ltb}
use lib.Bits.{bit_and, and_le_r}
use lib.Count.{count_trailing_zeros}
use borrow.Author.Tests.{ltb-true, eq-eqb}
use Rattle.text.specs.Flags.{Neither, Plain, Each, Tells}
use Rattle.text.proofs.FlagLaws.{each_over}
use Rattle.masks.specs.Mask.{mask_at}
use Rattle.masks.proofs.MaskLaws.{Left, Lowest, left_first, left_none, left_low, Apart, left_apart, left_even}
use Rattle.line.specs.Inner.{Clear, Stopped, Unset, Judging}
use Rattle.line.specs.Scan.{Smooth, Calm, Runs, Scanning, Poised, More, HasEmpty, Entered, FedIn, Meets, Further, Swept, Scanned}
use Rattle.line.specs.declared.scan.Met.{Met}
use Rattle.line.specs.declared.scan.Met.TheVariants as M
use Rattle.line.proofs.ReadLaws.{search_first, search_turn, clear_over, stopped_over, judge_first, judge_turn}
use Rattle.line.proofs.MarkLaws.{keep_first, keep_turn}

-- ---- one more tab

pub more_full : {tabs : List ℕ} {k : ℕ} (tab : ℕ) → (k ≤ 9) × (length tabs ≡ 9) → 9 ≤ k → tabs ≡ set tabs k tab
more_full {tabs} {k} tab h n = sym (set_out tabs k tab (omega arith))

pub more_none : {k : ℕ} → 9 ≤ k → k ≤ 9 → More k k
more_none h n = record { room = λ l. absurd (omega arith); full = λ e. e }

pub more_one : {k : ℕ} → k < 9 → More k (k + 1)
more_one h = record { room = λ l. refl; full = λ e. absurd (omega arith) }

module _ {s : List ℕ} {at k start p r : ℕ} {tabs tabs' : List ℕ} (g : Scanning s at k start tabs) (h : Stopped s start p 9) (n : p ≡ start → ⊥) (m : More k r)
    (e : tabs' ≡ set tabs k p) where
  behind : get_or s (p + 1 - 1) 0 ≡ 9
  behind = let z : p + 1 - 1 ≡ p = omega arith in rw z h.is

  judged_tab : tabs' ≡ set tabs (g.col - 1) p → Judging s at (g.col + 1) (p + 1) tabs'
  judged_tab f = record { going = judge_turn g.judging.going h n; kept = keep_turn g.judging.kept h f }

  tab_turn : Scanning s at r (p + 1) tabs'
  tab_turn = by (ℕ_discrete k 9)
    where
      by : Dec (k ≡ 9) → Scanning s at r (p + 1) tabs'
      by (yes z) =
          let y = m.full z in
          let c = g.nine z in
          let l = g.judging.kept.size in
          record {
            col = g.col + 1;
            most = omega arith;
            fewer = λ w. absurd (omega arith);
            nine = λ w. omega arith;
            tabbed = λ w. behind;
            judging = judged_tab (e ∙ set_out tabs k p (omega arith) ∙ sym (set_out tabs (g.col - 1) p (omega arith)));
          }
      by (no z) =
          let w = g.most in
          let y = m.room (omega arith) in
          let c = g.fewer (omega arith) in
          let d : g.col - 1 ≡ k = omega arith in
          record {
            col = g.col + 1;
            most = omega arith;
            fewer = λ w. omega arith;
            nine = λ w. omega arith;
            tabbed = λ w. behind;
            judging = judged_tab (rw d e);
          }

-- ---- no tab and no LF

quiet_clear : {s : List ℕ} {cur j : ℕ} → cur ≤ j → j ≤ length s → Each (Neither 9 10) s cur j → Clear s cur j
quiet_clear h w e = record { after = h; within = w; no_first = λ k p q. (e k p q).no_first; no_second = λ k p q. (e k p q).no_second }

poised_on : {s : List ℕ} {at k cur j : ℕ} {tabs : List ℕ} → Poised s at k cur tabs → Clear s cur j → Poised s at k j tabs
poised_on g c = record { start = g.start; scanning = g.scanning; clear = clear_over g.clear c }

-- ---- a block without an empty column

pub has_some : {m : ℕ} {fresh : Bool} → HasEmpty m fresh true
has_some = record { apart = λ e. absurd (true≢false e); first = λ e. absurd (true≢false e) }

pub has_none : {m : ℕ} {fresh : Bool} → bit_and m (m / 2) ≡ 0 → HasEmpty m fresh (fresh && eqb (m % 2) 1)
has_none {m} {fresh} z =
    record { apart = λ e. z; first = λ e f o. true≢false (sym ((and-eq-true_iff fresh (eqb (m % 2) 1)).1 (f, eq-eqb (m % 2) 1 o)) ∙ e) }

-- ---- the marks of one block

-- those from `from` on are left, no mark stands from the column's start to it, nor where the column starts
pub record Marking (s : List ℕ) (at i k m : ℕ) (tabs : List ℕ) : Type 0 where
  pub from : ℕ
  pub left : Left 9 10 s i from m
  pub apart : Apart 9 10 s i
  pub poised : Poised s at k from tabs
  pub some : from < i + 64 → poised.start ≡ from → Neither 9 10 s from

pub mark_first : {s : List ℕ} {at i m k : ℕ} {tabs : List ℕ} → Entered s at i m k tabs → Marking s at i k m tabs
mark_first {i = i} e =
    record {
      from = i;
      left = left_first e.fits e.mask;
      apart = left_apart e.fits e.mask e.apart;
      poised = e.poised;
      some = λ h z. left_even e.fits e.mask (e.first z);
    }

pub mark_size : {s : List ℕ} {at i m k : ℕ} {tabs : List ℕ} → Marking s at i k m tabs → length tabs ≡ 9
mark_size g = g.poised.scanning.judging.kept.size

pub mark_most : {s : List ℕ} {at i m k : ℕ} {tabs : List ℕ} → Marking s at i k m tabs → k ≤ 9
mark_most g = g.poised.scanning.most

-- the length that the marks came with
pub mark_length : {s : List ℕ} {at i m k m₀ k₀ : ℕ} {tabs tabs₀ : List ℕ} → Entered s at i m₀ k₀ tabs₀ → Marking s at i k m tabs → length tabs ≡ length tabs₀
mark_length e g = mark_size g ∙ sym (mark_size (mark_first e))

clash : {X : Type 0} → ◌≡◌ {A = ℕ} 0 1 → X
clash e = absurd (omega arith)

module _ {s : List ℕ} {at i k m n : ℕ} {tabs : List ℕ} (g : Marking s at i k m tabs) (z : m ≡ 0 → ⊥) (e : n ≡ count_trailing_zeros 64 m) where
  mark_low : Lowest 9 10 s i g.from m n
  mark_low = left_low g.left z e

  pub mark_within : i + n < length s
  mark_within = mark_low.within

  mark_stopped : {b : ℕ} → get_or s (i + n) 0 ≡ b → Stopped s g.poised.start (i + n) b
  mark_stopped y =
      let w = mark_within in
      stopped_over g.poised.clear (record { within = w; is = y; clear = quiet_clear mark_low.after (omega arith) mark_low.clear })

  mark_some : i + n ≡ g.poised.start → ⊥
  mark_some y =
      let a = mark_low.after in
      let c = g.poised.clear.after in
      let l = mark_low.short in
      let q : g.from ≡ i + n = omega arith in
      let f = g.some (omega arith) (omega arith) in
      ⊎_elim (λ h. f.no_first (rw q h)) (λ h. f.no_second (rw q h)) mark_low.is

  mark_found : get_or s (i + n) 0 ≡ 10 → FedIn s at k (i + n) (i + 64) tabs
  mark_found y =
      record {
        inside = (let a = mark_low.short in omega arith);
        fed = record { start = g.poised.start; scanning = g.poised.scanning; stopped = mark_stopped y; some = λ w. mark_some (sym w) };
      }

  pub mark_fed : get_or s (i + n) 0 ≡ 10 → Meets s at (i + 64) (M.Feed k (i + n)) tabs
  mark_fed y =
      record {
        size = mark_size g;
        feed = λ k' p e. (let a : k ≡ k' = cc in let b : i + n ≡ p = cc in rw (← a, ← b) (mark_found y));
        past = λ k e. clash (cc);
      }

  pub mark_tab : {tabs' : List ℕ} {r q : ℕ} → (get_or s (i + n) 0 ≡ 10 → ⊥) → tabs' ≡ set tabs k (i + n) → More k r → q ≡ bit_and m (m - 1) → Marking s at i r q tabs'
  mark_tab y t o w =
      let is : get_or s (i + n) 0 ≡ 9 = ⊎_elim (λ h. h) (λ h. absurd (y h)) mark_low.is in
      let v = mark_low.within in
      record {
        from = i + n + 1;
        left = rw w mark_low.rest;
        apart = g.apart;
        poised = record { start = i + n + 1; scanning = tab_turn g.poised.scanning (mark_stopped is) mark_some o t; clear = search_first (omega arith) };
        some = λ h x. g.apart.next (i + n) (omega arith) h (inl is);
      }

-- fewer bits are left
pub mark_less : {m q : ℕ} → (m ≡ 0 → ⊥) → q ≡ bit_and m (m - 1) → q < m
mark_less {m} z e = omega (arith, and_le_r m (m - 1))

mark_poised : {s : List ℕ} {at i k m : ℕ} {tabs : List ℕ} → Marking s at i k m tabs → m ≡ 0 → Poised s at k (i + 64) tabs
mark_poised g z = poised_on g.poised (quiet_clear g.left.short g.left.fits (left_none g.left z))

pub mark_past : {s : List ℕ} {at i k m : ℕ} {tabs : List ℕ} → Marking s at i k m tabs → m ≡ 0 → Meets s at (i + 64) (M.Past k) tabs
mark_past {k = k} g z =
    record {
      size = mark_size g;
      feed = λ k p e. clash (cc);
      past = λ k' e. (let a : k ≡ k' = cc in rw (← a) (mark_poised g z));
    }

-- ---- blocks without marks

pub further_quiet : {s : List ℕ} {cur k j : ℕ} → Runs Smooth s cur j → Further s cur k j
further_quiet r =
    record {
      after = r.after;
      within = r.within;
      moved = λ at tabs g. poised_on g (quiet_clear r.after r.within (λ k p q. (r.each k p q).quiet));
      small = λ k p q. (r.each k p q).plain;
    }

pub further_none : {s : List ℕ} {cur k : ℕ} → (1 ≤ cur) × (cur ≤ length s) → Further s cur k cur
further_none h = record { after = le_refl _; within = h.1; moved = λ at tabs g. g; small = λ k p q. absurd (omega arith) }

-- ---- blocks behind nine tabs

calm_step : {s : List ℕ} {at j : ℕ} {tabs : List ℕ} → Poised s at 9 j tabs → Calm s j → j < length s → Poised s at 9 (j + 1) tabs
calm_step {s} {at} {j} {tabs} g c h = by (ℕ_discrete (get_or s j 0) 9)
  where
    by : Dec (get_or s j 0 ≡ 9) → Poised s at 9 (j + 1) tabs
    by (yes e) =
        let l = g.scanning.judging.kept.size in
        record {
          start = j + 1;
          scanning =
              tab_turn g.scanning (record { within = h; is = e; clear = g.clear })
              (λ z. c.no_pair (rw z (g.scanning.tabbed (omega arith))) e)
              (record { room = λ w. absurd (omega arith); full = λ w. refl })
              (sym (set_out tabs 9 j (omega arith)));
          clear = search_first (omega arith);
        }
    by (no n) = record { start = g.start; scanning = g.scanning; clear = search_turn g.clear h n c.no_feed }

by_count : (P : ℕ → Type 0) → P 0 → ((n : ℕ) → P n → P (suc n)) → (n : ℕ) → P n
by_count P z f zero = z
by_count P z f (suc n) = f n (by_count P z f n)

record Goes (s : List ℕ) (at j : ℕ) (tabs : List ℕ) (n : ℕ) : Type 0 where
  goes : Each Calm s j (j + n) → j + n ≤ length s → Poised s at 9 (j + n) tabs

calm_more : {s : List ℕ} {at j : ℕ} {tabs : List ℕ} (n : ℕ) → Goes s at j tabs n → Goes s at j tabs (suc n)
calm_more {s} {at} {j} {tabs} n g =
    let z : j + suc n ≡ j + n + 1 = omega arith in
    record {
      goes = λ e h.
          rw z (calm_step (g.goes (λ k p q. e k p (omega arith)) (omega arith)) (e (j + n) (omega arith) (omega arith)) (omega arith));
    }

calm_run : {s : List ℕ} {at j : ℕ} {tabs : List ℕ} (n : ℕ) → Poised s at 9 j tabs → Each Calm s j (j + n) → j + n ≤ length s → Poised s at 9 (j + n) tabs
calm_run {s} {at} {j} {tabs} n g = (by_count (Goes s at j tabs) (record { goes = λ e h. rw (add-zero j) g }) (λ n f. calm_more n f) n).goes

as_many : {s : List ℕ} {at k cur : ℕ} {tabs : List ℕ} → k ≡ 9 → Poised s at 9 cur tabs → Poised s at k cur tabs
as_many z g = rw z g

pub further_calm : {s : List ℕ} {cur k j : ℕ} → k ≡ 9 → Runs Calm s cur j → Further s cur k j
further_calm {s} {cur} {k} {j} z r =
    let a = r.after in
    let v = r.within in
    let y : cur + (j - cur) ≡ j = omega arith in
    record {
      after = r.after;
      within = r.within;
      moved = λ at tabs g. as_many z (rw y at (calm_run (j - cur) (rw z at g) (λ k p q. r.each k p (omega arith)) (omega arith)));
      small = λ k p q. (r.each k p q).plain;
    }

-- ---- the last bytes, one by one

pub sweep_size : {s : List ℕ} {at i k : ℕ} {f h : Bool} {tabs : List ℕ} → Swept s at i k f h tabs → length tabs ≡ 9
sweep_size g = g.poised.scanning.judging.kept.size

pub sweep_within : {s : List ℕ} {at i k : ℕ} {f h : Bool} {tabs : List ℕ} → Swept s at i k f h tabs → i ≤ length s
sweep_within g = g.poised.clear.within

plain_one : {s : List ℕ} {i : ℕ} → get_or s i 0 < 128 → Each Plain s i (i + 1)
plain_one {s} {i} h k p q = let z : k ≡ i = omega arith in record { small = rw z h }

module _ {s : List ℕ} {at i k : ℕ} {f h : Bool} {tabs : List ℕ} (g : Swept s at i k f h tabs) (w : i < length s) where
  sweep_some : f ≡ false → i ≡ g.poised.start → ⊥
  sweep_some n y = true≢false (sym (g.new (sym y)) ∙ n)

  pub sweep_tab : {tabs' : List ℕ} {r : ℕ} → get_or s i 0 ≡ 9 → f ≡ false → tabs' ≡ set tabs k i → More k r → Swept s at (i + 1) r true h tabs'
  sweep_tab e n t o =
      let b = g.begun in
      record {
        begun = omega arith;
        poised =
            record {
              start = i + 1;
              scanning = tab_turn g.poised.scanning (record { within = w; is = e; clear = g.poised.clear }) (sweep_some n) o t;
              clear = search_first (omega arith);
            };
        new = λ y. refl;
        small = λ y. each_over Plain s (g.small y) (plain_one (omega arith));
      }

  pub sweep_other : (get_or s i 0 ≡ 10 → ⊥) → (get_or s i 0 ≡ 9 → ⊥) → Swept s at (i + 1) k false (h && ltb (get_or s i 0) 128) tabs
  sweep_other n o =
      let b = g.begun in
      let c = g.poised.clear.after in
      record {
        begun = omega arith;
        poised = record { start = g.poised.start; scanning = g.poised.scanning; clear = search_turn g.poised.clear w o n };
        new = λ y. absurd (omega arith);
        small = λ y. (let p = (and-eq-true_iff h (ltb (get_or s i 0) 128)).0 y in each_over Plain s (g.small p.0) (plain_one (ltb-true _ _ p.1)));
      }

-- ---- block by block

pub sweep_first : {s : List ℕ} {at : ℕ} {tabs : List ℕ} → at ≤ length s → Unset tabs → Swept s at at 0 true true tabs
sweep_first {at = at} h u =
    record {
      begun = le_refl at;
      poised =
          record {
            start = at;
            scanning =
                record {
                  col = 1;
                  most = omega arith;
                  fewer = λ w. refl;
                  nine = λ w. absurd (omega arith);
                  tabbed = λ w. absurd (omega arith);
                  judging = record { going = judge_first h; kept = keep_first u };
                };
            clear = search_first h;
          };
      new = λ e. refl;
      small = λ e k p q. absurd (omega arith);
    }

pub scan_length : {s : List ℕ} {at i k : ℕ} {f h : Bool} {tabs tabs₀ : List ℕ} → Unset tabs₀ → Swept s at i k f h tabs → length tabs ≡ length tabs₀
scan_length u g = sweep_size g ∙ sym u.size

pub scan_same : {s : List ℕ} {at cur : ℕ} {r : Met} {tabs tabs₀ : List ℕ} → Unset tabs₀ → Meets s at cur r tabs → length tabs ≡ length tabs₀
scan_same u m = m.size ∙ sym u.size

-- a column starts past the line's start where a tab stands before it
start_tabbed : {s : List ℕ} {at k start : ℕ} {tabs : List ℕ} → Scanning s at k start tabs → (at ≡ start → ⊥) → get_or s (start - 1) 0 ≡ 9
start_tabbed {k = zero} g n = absurd (n (let c = g.fewer (omega arith) in g.judging.kept.last 0 (omega arith) (omega arith)))
start_tabbed {k = suc k} g n = g.tabbed (omega arith)

module _ {s : List ℕ} {at i k : ℕ} {f h : Bool} {tabs : List ℕ} (g : Swept s at i k f h tabs) (w : 64 ≤ length s - i) where
  pub sweep_fits : i + 64 ≤ length s
  sweep_fits = omega (arith, sweep_within g)

  pub sweep_enter : {m : ℕ} {r : Bool} → m ≡ mask_at 9 10 s i → HasEmpty m f r → r ≡ false → Entered s at i m k tabs
  sweep_enter e n z = record { fits = sweep_fits; mask = e; apart = n.apart z; poised = g.poised; first = λ y. n.first z (g.new y) }

  module _ {a : Bool} (t : Tells Plain s i a) {r : Met} {tabs' : List ℕ} (m : Meets s at (i + 64) r tabs') where
    block_plain : h && a ≡ true → Each Plain s at (i + 64)
    block_plain e = let p = (and-eq-true_iff h a).0 e in each_over Plain s (g.small p.0) (t.yes p.1)

    pub scan_feed : {k' p : ℕ} → r ≡ M.Feed k' p → Scanned s at k' p (h && a) tabs'
    scan_feed {k'} {p} e =
        let f = m.feed k' p e in
        let l = f.inside in
        record { fed = f.fed; small = λ y j b c. block_plain y j b (omega arith) }

    pub scan_past : {k' cur : ℕ} → r ≡ M.Past k' → Further s (i + 64) k' cur → Swept s at cur k' (eqb (get_or s (cur - 1) 0) 9) (h && a) tabs'
    scan_past {k'} {cur} e f =
        let b = g.begun in
        let c = f.after in
        let p = f.moved at tabs' (m.past k' e) in
        record {
          begun = omega arith;
          poised = p;
          new = λ y. eq-eqb (get_or s (cur - 1) 0) 9 (rw y at (start_tabbed p.scanning (λ z. omega arith)));
          small = λ y. each_over Plain s (block_plain y) f.small;
        }

pub ruleset scan_laws = (sweep_first, sweep_within, sweep_fits, sweep_enter, scan_length, scan_feed, scan_past, scan_same)

pub ruleset laws = (more_full, more_none, more_one, has_some, has_none, mark_first, mark_size, mark_most, mark_length, mark_within, mark_fed, mark_tab, mark_less, mark_past, further_quiet, further_none, further_calm)
