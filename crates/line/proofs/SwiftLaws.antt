-- What a scan found is the line that the columns' judge would accept, and bytes below 80 hex are UTF-8. Assumes nothing.
use Prim.Native.Nat.{ℕ, ◌+◌, ◌-◌, ◌≤◌, ◌<◌}
use mathlib.Core.Path.{◌≡◌, refl, sym, ◌∙◌}
use mathlib.Core.Bool.{Bool, true, false, true≢false}
use mathlib.Core.Logic.{◌⊎◌, inl, inr, ⊎_elim}
use mathlib.Core.List.{List}
use native.Mathlib.Omega.{arith}
use Rattle.std.specs.Prelude.{Result, Ok, Err, is_err}
use lib.ListN.{length, get_or, take, drop, length-drop}
use lib.Seq.{get_or-take, get_or-drop, length-take-le}
use Rattle.text.specs.Utf8.{is_utf8, utf8_answer}
use Rattle.text.specs.Paper.{utf8_paper}
use Rattle.text.specs.declared.utf8.NotUtf8.{NotUtf8}
use Rattle.text.proofs.CharLaws.{told_text, told_broken}
use Rattle.text.proofs.RunLaws.{plain_utf8}
use Rattle.record.specs.Promises.{NamesEnding}
use Rattle.record.specs.declared.ending.Ending.{Ending}
use Rattle.record.specs.declared.place.Record.{Record}
use Rattle.line.specs.Line.{line_of, line_answer}
use Rattle.line.specs.Paper.{read_paper}
use Rattle.line.specs.Inner.{TextEnd, input, none, bare, return, judgement_of, judged_paper, InOrder, Told, Fields}
use Rattle.line.specs.Scan.{FedAt, Scanned, PlainIf, WholeEnd, Bounded}
use Rattle.line.specs.declared.scan.Bounds.{Bounds}
use Rattle.line.specs.declared.read.Refusal.TheVariants as R
use Rattle.line.proofs.ColumnLaws.{count_required}
use Rattle.line.proofs.ReadLaws.{fed_fine}
use Rattle.line.proofs.MarkLaws.{marks_fed}
use Rattle.line.proofs.AnswerLaws.{order_after, order_within, order_next, finish_line, finish_broken}

-- ---- what is left of a line whose columns are in order

-- a check tells whether bytes are UTF-8
module _ (t : List ℕ) where
  pub checked_text : (x : Result Unit NotUtf8) → utf8_paper x ≡ utf8_answer t → is_err x ≡ false → is_utf8 t ≡ true
  checked_text (Ok u) e q = told_text t e
  checked_text (Err broken) e q = absurd (true≢false q)

  pub checked_broken : (x : Result Unit NotUtf8) → utf8_paper x ≡ utf8_answer t → is_err x ≡ true → is_utf8 t ≡ false
  checked_broken (Ok u) e q = absurd (true≢false (sym q))
  checked_broken (Err broken) e q = told_broken t e

plain_text : {s : List ℕ} {at end : ℕ} {plain : Bool} → PlainIf s at end plain → plain ≡ true → is_utf8 (take (end - at) (drop at s)) ≡ true
plain_text {s} {at} {end} g e =
    let a = g.after in
    let w = g.within in
    let d = length-drop at s in
    let l = length-take-le (end - at) (drop at s) (omega arith) in
    plain_utf8 (take (end - at) (drop at s))
    (λ k h. rw (get_or-take (end - at) (drop at s) k 0 (omega arith), get_or-drop at s k 0) (g.small e (at + k) (omega arith) (omega arith)).small)

module _ {s : List ℕ} {at : ℕ} {b : Bounds} {tabs : List ℕ} (g : Bounded s at b tabs) where
  pub bounded_before : b.end ≤ b.next
  bounded_before = order_next g.order

  -- bytes below 80 hex are UTF-8
  pub bounded_plain : b.plain ≡ true → is_utf8 (take (b.end - at) (drop at s)) ≡ true
  bounded_plain = plain_text g.plain_if

  pub bounded_line : is_utf8 (take (b.end - at) (drop at s)) ≡ true → (r : Record) (y : Ending) → NamesEnding (b.next - b.end) y → Fields (take b.end s) at y r
      → read_paper (Ok (r, b.next)) ≡ line_answer at (line_of (drop at s))
  bounded_line = finish_line g.order

  pub bounded_broken : is_utf8 (take (b.end - at) (drop at s)) ≡ false → read_paper (Err (R.NotUtf8 b.next)) ≡ line_answer at (line_of (drop at s))
  bounded_broken = finish_broken g.order

-- one that the judge accepts, and of whose bytes nothing is known
pub judged_bounded : {s : List ℕ} {at end next : ℕ} {tabs : List ℕ} → InOrder s at end next → Told (take end s) at tabs → Bounded s at (record { end = end; next = next; plain = false }) tabs
judged_bounded g t = record { order = g; told = t; plain_if = record { after = order_after g; within = order_within g; small = λ z. absurd (true≢false (sym z)) } }

-- ---- the line

record Ready (s : List ℕ) (at k feed : ℕ) (plain : Bool) (tabs : List ℕ) : Type 0 where
  reached : at ≤ length s
  whole : (k ≡ 7) ⊎ (k ≡ 9)
  scanned : Scanned s at k feed plain tabs

module _ {s : List ℕ} {at k feed : ℕ} {plain : Bool} {tabs : List ℕ} (g : Ready s at k feed plain tabs) where
  few : (7 ≤ k) × (k ≤ 9)
  few = ⊎_elim (λ e. (omega arith, omega arith)) (λ e. (omega arith, omega arith)) g.whole

  fed : FedAt s at k feed tabs
  fed = g.scanned.fed

  columns : (fed.scanning.col ≡ 8) ⊎ (10 ≤ fed.scanning.col)
  columns = ⊎_elim (λ e. inl (let c = fed.scanning.fewer (omega arith) in omega arith)) (λ e. inr (fed.scanning.nine e)) g.whole

  many : 8 ≤ fed.scanning.col
  many = ⊎_elim (λ e. omega arith) (λ h. omega arith) columns

  -- the last column starts behind the first
  behind : at < fed.start
  behind =
      let m = many in
      let k = fed.scanning.judging.kept in
      let a = (k.each 0 (omega arith) (omega arith)).clear.after in
      let b = k.before 0 (omega arith) (omega arith) in
      omega arith

  some : fed.start < feed
  some = let a = fed.stopped.clear.after in let n = fed.some in omega arith

  ready_late : at + 1 < feed
  ready_late = let a = behind in let b = some in omega arith

  ready_within : feed < length s
  ready_within = fed.stopped.within

  module _ {end : ℕ} (e : TextEnd s at feed end) where
    near : (fed.start ≤ end) × (end ≤ feed)
    near = by e
      where
        by : {end : ℕ} → TextEnd s at feed end → (fed.start ≤ end) × (end ≤ feed)
        by (input z) = absurd (let w = ready_within in omega arith)
        by (none z) = absurd (let w = ready_late in omega arith)
        by (bare l n) = let a = some in (omega arith, omega arith)
        by (return l w z) = let a = some in (omega arith, omega arith)

    text_ends : TextEnd s fed.start feed end
    text_ends = by e
      where
        by : {end : ℕ} → TextEnd s at feed end → TextEnd s fed.start feed end
        by (input z) = input z
        by (none z) = absurd (let w = ready_late in omega arith)
        by (bare l n) = bare some n
        by (return l w z) = return some w z

    module _ (n : get_or s (end - 1) 0 ≡ 9 → ⊥) where
      full : end ≡ fed.start → ⊥
      full z = n (rw z (fed.scanning.tabbed (let f = few in omega arith)))

      fine_here : judged_paper (Ok (end, feed + 1)) ≡ judgement_of fed.scanning.col fed.start (line_of (drop fed.start s))
      fine_here = fed_fine s fed.scanning.col fed.start feed fed.stopped {q = false} (sym (count_required columns)) refl text_ends full

      ready_order : InOrder s at end (feed + 1)
      unfolding judged_paper
      ready_order = record { reached = g.reached; judged = sym fed.scanning.judging.going.same ∙ sym fine_here }

      ready_told : Told (take end s) at tabs
      ready_told =
          (marks_fed g.reached fed.scanning.judging.going fed.scanning.judging.kept (Ok (end, feed + 1)) fine_here fed.stopped).told end (feed + 1) refl

pub swift_next : {s : List ℕ} {at k feed : ℕ} {plain : Bool} {tabs : List ℕ} → Scanned s at k feed plain tabs → feed < length s
swift_next c = c.fed.stopped.within

pub swift_bounded : {s : List ℕ} {at k feed end : ℕ} {plain : Bool} {tabs : List ℕ} → at ≤ length s → Scanned s at k feed plain tabs → WholeEnd s at k feed end
    → Bounded s at (record { end = end; next = feed + 1; plain = plain }) tabs
swift_bounded {s} {at} {k} {feed} {end} {plain} {tabs} h c w =
    let g : Ready s at k feed plain tabs = record { reached = h; whole = w.whole; scanned = c } in
    let m = near g w.ends in
    let b = behind g in
    let l = swift_next c in
    record {
      order = ready_order g w.ends w.full;
      told = ready_told g w.ends w.full;
      plain_if = record { after = omega arith; within = omega arith; small = λ z j a q. c.small z j a (omega arith) };
    }
