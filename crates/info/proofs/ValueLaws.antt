-- The value shown: where `find` answers an entry with a value, its place, and else the empty place at the column's end; the part there. Assumes nothing.
use Rattle.std.specs.Option.{unwrap_or}
use Rattle.std.specs.Prelude.{Ok, Err, Option, Some, None}
use Prim.Native.Nat.{ℕ, ◌+◌, ◌^◌, ◌<◌, ◌≤◌}
use mathlib.Core.Path.{◌≡◌, refl, sym, ap, ◌∙◌}
use mathlib.Core.List.{List}
use denote.Ref.{Bor}
use native.Mathlib.Omega.{arith}
use mir.Syntax.{w64}
use mir.Val.{Fits}
use lib.ListN.{length}
use borrow.Rule.Slice.PartAt.{sl_partˢ}
use Rattle.text.specs.Answer.{Answer}
use Rattle.text.specs.Range.{range_at}
use Rattle.text.specs.declared.range.Range.{Range}
use Rattle.text.proofs.PartLaws.{lent_part}
use Rattle.info.specs.Info.{step_answer}
use Rattle.info.specs.Paper.{Step, value_places, entry_places, step_paper}
use Rattle.info.specs.Find.{find_answer}
use Rattle.info.specs.Value.{shown_of, shown, PlacesValue, Shows}
use Rattle.info.specs.Demands.{Leads, found, refused, none, other}
use Rattle.info.specs.declared.step.Entry.{Entry}
use Rattle.info.specs.declared.step.NoEntry.{NoEntry}
use Rattle.info.specs.declared.step.NoEntry.TheVariants as N
use Rattle.info.proofs.EntryLaws.{step_end}
use Rattle.info.proofs.TellLaws.{info_tells}
use Rattle.info.proofs.First.{first}

-- ---- what is found is a step's answer, at some place

record StepOf (t : List ℕ) (a : Answer) : Type 0 where
  place : ℕ
  is : a ≡ step_answer t place

step_of : (t key : List ℕ) {at : ℕ} {a : Answer} → Leads step_answer t key at a → StepOf t a
step_of t key (found e q) = record { place = _; is = sym e }
step_of t key (refused e l m) = record { place = _; is = sym e }
step_of t key (none e) = record { place = length t; is = sym (step_end t (length t) refl) }
step_of t key (other e n w) = step_of t key w

-- ---- the place that is shown

module _ (t key : List ℕ) (x : Step) (e : step_paper x ≡ find_answer t key) where
  by_find : shown t key ≡ shown_of (length t) (step_paper x)
  unfolding shown
  by_find = ap (shown_of (length t)) (sym e)

  at_end : shown_of (length t) (step_paper x) ≡ range_at (length t) 0 → PlacesValue t key (range_at (length t) 0)
  at_end q = record { is = sym (by_find ∙ q); within = omega arith }

  module _ {en : Entry} {next : ℕ} (q : x ≡ Ok (en, next)) where
    shown_value : {r : Range} → en.value ≡ Some r → PlacesValue t key r
    unfolding shown_of step_paper entry_places value_places
    shown_value {r} v =
        let s = step_of t key (first.is t key) in
        let f = info_tells t s.place (Ok (en, next)) (rw q at (e ∙ s.is)) in
        record { is = sym (by_find ∙ rw (q, v)); within = rw v at f.value_within }

    shown_absent : en.value ≡ None → PlacesValue t key (range_at (length t) 0)
    unfolding shown_of step_paper entry_places value_places
    shown_absent v = at_end (rw (q, v))

    pub shown_or : {r : Range} → r ≡ unwrap_or en.value (range_at (length t) 0) → PlacesValue t key r
    shown_or {r} o = by en.value refl
      where
        by : (v : Option Range) → en.value ≡ v → PlacesValue t key r
        by None v = rw (o, v) (shown_absent v)
        by (Some a) v = rw (o, v) (shown_value v)

  pub shown_none : {d : NoEntry} → x ≡ Err d → PlacesValue t key (range_at (length t) 0)
  unfolding shown_of step_paper
  shown_none {d} q = at_end (rw q (by d))
    where
      by : (d : NoEntry) → shown_of (length t) (step_paper (Err d)) ≡ range_at (length t) 0
      by (N.Beyond next) = refl
      by (N.AfterKey next) = refl
      by (N.NoKey next) = refl
      by (N.AfterValue next) = refl
      by (N.Nothing next) = refl

pub ruleset laws = (shown_or, shown_none)

-- ---- the part that is lent there

module _ {t key : List ℕ} {r : Range} (p : PlacesValue t key r) where
  pub part_within : r.start + r.len ≤ length t
  part_within = p.within

  pub part_fits : length t < 2 ^ 64 → Fits w64 (r.start + r.len)
  part_fits m = let w = p.within in omega arith

pub part_shows : (column : Bor (List ℕ)) (key : List ℕ) (r : Range) → PlacesValue column.now key r
    → Shows column key (sl_partˢ column (r.start + column.ref_ptr.1) r.start (r.start + r.len))
part_shows column key r p = rw (← p.is) (lent_part column r)

pub ruleset part_laws = (part_within, part_fits, part_shows)
