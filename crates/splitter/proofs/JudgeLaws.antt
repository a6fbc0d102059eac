-- The columns, judged by what is known of the tabs: each way through the code is the definition's. Assumes nothing.
use Prim.Native.Nat.{ℕ, ◌+◌, ◌-◌, ◌≤◌, ◌<◌}
use mathlib.Core.Path.{◌≡◌, refl, sym, ap, ◌∙◌}
use mathlib.Core.Bool.{Bool, true, false, ◌||◌, or-true}
use mathlib.Core.List.{List, [], ◌∷◌, ◌++◌}
use native.Mathlib.Omega.{arith}
use lib.ListN.{length, get_or, take, drop}
use lib.Seq.{take_at}
use Rattle.std.specs.Prelude.{Ok, Err}
use Rattle.text.specs.Pick.{pick}
use Rattle.text.specs.Answer.{says}
use Rattle.text.specs.Bytes.{is_empty}
use Rattle.text.specs.Verdict.{fine, refused}
use Rattle.text.specs.Utf8.{is_utf8}
use Rattle.text.proofs.Lists.{drop_take}
use Rattle.text.proofs.ByteLaws.{none_empty, some_empty}
use Rattle.pieces.specs.Pieces.{split, joined}
use Rattle.pieces.proofs.PieceLaws.{split_some, split_joined, split_count}
use Rattle.pieces.proofs.CountLaws.{count_most}
use Rattle.record.specs.Ending.{nothing, feed, return_feed, ending_bytes, ending_number}
use Rattle.record.specs.Paper.{ending_of}
use Rattle.record.specs.declared.ending.Ending.{Ending as DeclaredEnding}
use Rattle.record.specs.declared.ending.Ending.TheVariants as E
use Rattle.record.specs.declared.place.Record.{Record}
use Rattle.line.specs.Line.{required, last_verdict, verdict, field_places, line_answer, read_answer}
use Rattle.line.specs.Demands.{MayEnd}
use Rattle.line.specs.Promises.{ReadsLine, KeepsNumbers}
use Rattle.line.specs.declared.extent.Extent.{Extent}
use Rattle.line.specs.declared.read.Refusal.TheVariants as R
use Rattle.record.proofs.EndingLaws.{ending_numbered}
use Rattle.record.proofs.NumberLaws.{record_values_lem}
use Rattle.line.proofs.ReadLaws.{required_low, required_high}
use Rattle.line.proofs.LineLaws.{read_line}
use Rattle.line.proofs.ColumnLaws.{line_whole, line_refused, line_fine, last_cut, last_fed, fine_last, fine_order, fine_count}
use Rattle.line.proofs.AnswerLaws.{keeps_line, keeps_refused}
use Rattle.line.proofs.CaseLaws.{read_record, read_empty, read_fed, read_cut, read_broken}
use Rattle.line.proofs.Extents.{Found, found}
use Rattle.splitter.specs.Inner.{Keeps, Seen, HasEnds}
use Rattle.splitter.specs.declared.split.Tabs.{Tabs}
use Rattle.splitter.proofs.ColumnLaws.{tabs_of, tabs_columns, tabs_count, LastOf, gap_refused, last_decides}
use Rattle.splitter.proofs.PlaceLaws.{places_are, numbers_kept}

-- ---- an ending with an LF is not nothing

fed_some : {x : DeclaredEnding} → x ≡ E.Feed → ending_of x ≡ nothing → ⊥
fed_some e h = let f : feed ≡ nothing = sym (ap ending_of e) ∙ h in let z : ◌≡◌ {A = ℕ} 0 1 = cc in omega arith

returned_some : {x : DeclaredEnding} → x ≡ E.ReturnFeed → ending_of x ≡ nothing → ⊥
returned_some e h = let f : return_feed ≡ nothing = sym (ap ending_of e) ∙ h in let z : ◌≡◌ {A = ℕ} 0 1 = cc in omega arith

-- ---- the line, and what is known of its tabs

module _ {s : List ℕ} {at : ℕ} {x : Extent} {r : Tabs} (g : Seen s at x r) where
  abbrev end : ℕ
  end = x.end

  abbrev ending : DeclaredEnding
  ending = x.ending

  abbrev next : ℕ
  next = x.next

  here : Found s at end (ending_of ending) next
  here = found s at g.found refl

  text : List ℕ
  text = here.text

  columns : List (List ℕ)
  columns = split 9 text

  pub end_after : at ≤ end
  end_after = let e = here.ends in omega arith

  pub end_within : end ≤ length s
  end_within = let e = here.ends in let p = here.past in let w = here.within in omega arith

  -- the text stands in the input from `at` to `end`
  stands : take (end - at) (drop at s) ≡ text
  unfolding text
  stands =
      let e = here.ends in
      rw (← (line_whole (drop at s) here.is).whole) (take_at text (ending_bytes (ending_of ending) ++ here.rest) (end - at) (omega arith))

  tabs : Keeps (tabs_of at columns) at end r
  unfolding columns
  tabs = rw (drop_take s at end end_after end_within, stands, tabs_columns at text) at g.tabs

  pub count_few : r.count ≤ length s
  unfolding columns text
  count_few =
      let c = tabs.count in
      let n = tabs_count at columns (split_some 9 text) in
      let k = split_count 9 text in
      let m = count_most 9 text in
      let e = here.ends in
      let w = end_within in
      omega arith

  -- ---- a refusal

  past : ℕ
  past = at + length text + length (ending_bytes (ending_of ending))

  past_is : past ≡ next
  unfolding past text
  past_is = sym here.past

  refusal : {n k : ℕ} → verdict 1 at columns (ending_of ending) past ≡ refused n k → says n (k ∷ []) ≡ read_answer s at
  unfolding past columns text
  refusal v = sym (read_line s at g.inside ∙ ap (line_answer at) here.is ∙ line_refused at text (ending_of ending) here.rest v)

  columns_end : at + length (joined 9 columns) ≡ end
  unfolding columns text
  columns_end = let j = ap length (split_joined 9 text) in let e = here.ends in omega arith

  pub judge_gap : r.gap < end → ReadsLine s at (Err (R.Empty (r.gap + 1)))
  unfolding columns
  judge_gap h =
      let q = tabs.gap in
      read_empty refl
      ∙ refusal (gap_refused end (ending_of ending) past 1 at columns (split_some 9 text) columns_end (omega arith) ∙ ap (λ (x : ℕ). refused 2 (x + 1)) (sym q))

  -- ---- the last column

  module _ (h : end ≤ r.gap) where
    last : LastOf end (ending_of ending) past 1 at columns
    unfolding columns
    last = last_decides end (ending_of ending) past 1 at columns (split_some 9 text) columns_end (let q = tabs.gap in omega arith)

    judged : verdict 1 at columns (ending_of ending) past ≡ last_verdict (r.count + 1) last.column (ending_of ending) past
    judged = let c : 1 + length (tabs_of at columns) ≡ r.count + 1 = (let k = tabs.count in omega arith) in rw c at last.judged

    last_empty : r.last ≡ end → is_empty last.column ≡ true
    last_empty e = none_empty last.column (let a = tabs.last in let b = last.starts in omega arith)

    last_some : (r.last ≡ end → ⊥) → is_empty last.column ≡ false
    last_some n = some_empty last.column (let a = tabs.last in let b = last.starts in omega arith)

    -- it is cut by the end of the input
    module _ (e : ending ≡ E.Nothing) where
      cut_verdict : verdict 1 at columns (ending_of ending) past ≡ pick (required (r.count + 1) || is_empty last.column) (refused 4 past) fine
      cut_verdict = judged ∙ ap (λ (x : DeclaredEnding). last_verdict (r.count + 1) last.column (ending_of x) past) e ∙ last_cut (r.count + 1) last.column past

      pub judge_early_cut : {b : Bool} → b ≡ required (r.count + 1) → b ≡ true → ReadsLine s at (Err (R.Cut next))
      judge_early_cut q t = read_cut refl ∙ refusal (cut_verdict ∙ rw (sym q ∙ t, past_is))

      pub judge_empty_cut : r.last ≡ end → ReadsLine s at (Err (R.Cut next))
      judge_empty_cut q = read_cut refl ∙ refusal (cut_verdict ∙ rw (last_empty q, or-true, past_is))

    -- or ended by an LF
    module _ (n : ending_of ending ≡ nothing → ⊥) {b : Bool} (q : b ≡ required (r.count + 1)) where
      fed_verdict : verdict 1 at columns (ending_of ending) past ≡ pick b (refused 3 past) (pick (is_empty last.column) (refused 2 past) fine)
      fed_verdict = rw q (judged ∙ last_fed (r.count + 1) last.column (ending_of ending) past n)

      fed_early : b ≡ true → ReadsLine s at (Err (R.Fed next))
      fed_early t = read_fed refl ∙ refusal (fed_verdict ∙ rw (t, past_is))

      fed_empty : b ≡ false → r.last ≡ end → ReadsLine s at (Err (R.Empty next))
      fed_empty t e = read_empty refl ∙ refusal (fed_verdict ∙ rw (t, last_empty e, past_is))

    module _ (e : ending ≡ E.Feed) {b : Bool} (q : b ≡ required (r.count + 1)) where
      pub judge_early_fed : b ≡ true → ReadsLine s at (Err (R.Fed next))
      judge_early_fed = fed_early (fed_some e) q

      pub judge_empty_fed : b ≡ false → r.last ≡ end → ReadsLine s at (Err (R.Empty next))
      judge_empty_fed = fed_empty (fed_some e) q

    module _ (e : ending ≡ E.ReturnFeed) {b : Bool} (q : b ≡ required (r.count + 1)) where
      pub judge_early_returned : b ≡ true → ReadsLine s at (Err (R.Fed next))
      judge_early_returned = fed_early (returned_some e) q

      pub judge_empty_returned : b ≡ false → r.last ≡ end → ReadsLine s at (Err (R.Empty next))
      judge_empty_returned = fed_empty (returned_some e) q

    -- ---- columns in order

    module _ {b : Bool} (q : b ≡ required (r.count + 1)) (t : b ≡ false) (n : r.last ≡ end → ⊥) where
      order : verdict 1 at columns (ending_of ending) past ≡ fine
      order = judged ∙ fine_last (r.count + 1) last.column (ending_of ending) past (sym q ∙ t) (last_some n)

      answer : read_answer s at
          ≡ pick (is_utf8 text) (says 0 (past ∷ ending_number (ending_of ending) ∷ field_places at columns (at + length text))) (says 5 (past ∷ []))
      unfolding past columns text
      answer = read_line s at g.inside ∙ ap (line_answer at) here.is ∙ line_fine at text (ending_of ending) here.rest order

      pub judge_broken : is_utf8 (take (end - at) (drop at s)) ≡ false → ReadsLine s at (Err (R.NotUtf8 next))
      judge_broken u = let v : is_utf8 text ≡ false = rw stands at u in read_broken refl ∙ sym (answer ∙ rw (v, past_is))

      module _ {y : Record} (f : HasEnds at end ending r y) where
        many : MayEnd (length columns)
        unfolding columns
        many = fine_count at columns (ending_of ending) past (split_some 9 text) order

        full : (i : ℕ) → i < length columns → 0 < length (get_or columns i [])
        unfolding columns
        full = (fine_order 1 at columns (ending_of ending) past (split_some 9 text) order).full

        pub judge_kept : KeepsNumbers (Ok (y, next))
        judge_kept = keeps_line y next (numbers_kept at end columns columns_end tabs.ends y f.numbers many full)

        pub judge_line : is_utf8 (take (end - at) (drop at s)) ≡ true → ReadsLine s at (Ok (y, next))
        unfolding text
        judge_line u =
            let v : is_utf8 text ≡ true = rw stands at u in
            let p = places_are at end columns columns_end tabs.ends y f.numbers many in
            let z : at + length text ≡ end = sym here.ends in
            read_record refl
            ∙ rw (record_values_lem y, ending_numbered f.ended, p)
            (sym (answer ∙ rw (v, past_is, z)))

pub ruleset laws =
    (end_after, end_within, count_few, judge_gap, judge_early_cut, judge_empty_cut, judge_early_fed, judge_empty_fed, judge_early_returned, judge_empty_returned, judge_broken, judge_kept, judge_line, keeps_refused, required_low, required_high)
