-- The places of a line's fields by where its first nine columns end: one column further at each turn. Assumes nothing.
use Prim.Native.Nat.{ℕ, zero, suc, ◌+◌, ◌-◌, ◌*◌, ◌≤◌, ◌<◌}
use mathlib.Core.Path.{◌≡◌, refl, sym, ap, ◌∙◌}
use mathlib.Core.Logic.{inl, inr, ⊎_elim}
use mathlib.Core.List.{List, [], ◌∷◌, ◌++◌}
use native.Mathlib.Omega.{arith}
use native.Mathlib.Decide.{dec_lt}
use lib.ListN.{length, get_or, take, drop, length-append, get_or-append, get_or-eq_default}
use lib.Seq.{ext_get_or, get_or-take, get_or_at, length-take-le}
use Rattle.text.specs.Range.{range_places}
use Rattle.pieces.specs.Pieces.{joined}
use Rattle.pieces.proofs.PieceLaws.{joined_one}
use Rattle.record.specs.Place.{numbers_of, span, passed}
use Rattle.record.specs.Paper.{record_places, record_numbers}
use Rattle.record.specs.Promises.{MakesRecord}
use Rattle.record.specs.declared.ending.Ending.{Ending}
use Rattle.record.specs.declared.place.Record.{Record}
use Rattle.line.specs.Line.{leading_places, field_places}
use Rattle.line.specs.Demands.{MayEnd}
use Rattle.record.proofs.NumberLaws.{eleven, record_ends, record_numbers_lem}
use Rattle.record.proofs.SpanLaws.{span_real, passed_none, passed_one, spans, full_spans, bare_spans, rising, rising_numbers}
use Rattle.line.proofs.TenPlaces.{leading_none, leading_rest, leading_more, eight_fields, ten_fields_lem, places_lie}
use Rattle.splitter.specs.Inner.{Nine, HasEnds}
use Rattle.splitter.specs.declared.split.Tabs.{Tabs}
use Rattle.splitter.proofs.ColumnLaws.{tabs_of, tabs_count, behind, tabs_within, tabs_rise}

-- ---- the leading places, by the tabs

leading_spans : (n from : ℕ) (cs : List (List ℕ)) → n < length cs → leading_places n from cs ≡ spans from (take n (tabs_of from cs) ++ (from + length (joined 9 cs)) ∷ [])
leading_spans n from [] h = absurd (omega arith)
leading_spans zero from (c ∷ cs) h =
    let z : from + length (joined 9 (c ∷ cs)) - from ≡ length (joined 9 (c ∷ cs)) = omega arith in
    leading_rest from c cs ∙ rw (span_real {start = from} {end = from + length (joined 9 (c ∷ cs))} (omega arith), z)
leading_spans (suc n) from (c ∷ []) h = absurd (omega arith)
leading_spans (suc n) from (c ∷ d ∷ cs) h =
    let z : from + length c - from ≡ length c = omega arith in
    leading_more n from c (d ∷ cs) ∙ rw (span_real {start = from} {end = from + length c} (omega arith), z, behind from c d cs) (rw (leading_spans n (from + length c + 1) (d ∷ cs) (omega arith)))

-- where no column is left behind them, the last is all that is left
leading_all : (n from : ℕ) (cs : List (List ℕ)) → length cs ≡ suc n → leading_places (suc n) from cs ≡ leading_places n from cs
leading_all n from [] e = absurd (omega arith)
leading_all zero from (c ∷ []) e = leading_more 0 from c [] ∙ rw (leading_none, leading_rest, joined_one)
leading_all zero from (c ∷ d ∷ cs) e = absurd (omega arith)
leading_all (suc n) from (c ∷ cs) e =
    rw (leading_more (suc n) from c cs, leading_more n from c cs) (rw (leading_all n (from + length c + 1) cs (omega arith)))

-- ---- a record with the ends that were kept

pub has_ends : {at end : ℕ} {ending : Ending} {tabs : Tabs} {r : Record} → length tabs.ends ≡ 9
    → MakesRecord ending (at ∷ get_or tabs.ends 0 0 ∷ get_or tabs.ends 1 0 ∷ get_or tabs.ends 2 0 ∷ get_or tabs.ends 3 0 ∷ get_or tabs.ends 4 0 ∷ get_or tabs.ends 5 0 ∷ get_or tabs.ends 6 0 ∷ get_or tabs.ends 7 0 ∷ get_or tabs.ends 8 0 ∷ end ∷ []) r
    → HasEnds at end ending tabs r
has_ends {at} {end} {ending} {tabs} {r} n m =
    record { ended = m.0; numbers = m.1 ∙ rw (each 0 (omega arith), each 1 (omega arith), each 2 (omega arith), each 3 (omega arith), each 4 (omega arith), each 5 (omega arith), each 6 (omega arith), each 7 (omega arith), each 8 (omega arith), last) at (eleven (at ∷ tabs.ends ++ end ∷ []) (let s = length-append tabs.ends (end ∷ []) in omega arith)) }
  where
    each : (j : ℕ) → j < 9 → get_or (tabs.ends ++ end ∷ []) j 0 ≡ get_or tabs.ends j 0
    each j h = get_or-append tabs.ends (end ∷ []) 0 j (omega arith)

    last : get_or (tabs.ends ++ end ∷ []) 9 0 ≡ end
    last = get_or_at tabs.ends end [] 0 9 n

-- of a place in a list the default is never asked
get_d_inside : (l : List ℕ) (j a b : ℕ) → j < length l → get_or l j a ≡ get_or l j b
get_d_inside [] j a b h = absurd (omega arith)
get_d_inside (x ∷ l) zero a b h = refl
get_d_inside (x ∷ l) (suc j) a b h = get_d_inside l j a b (omega arith)

module _ (at end : ℕ) (cs : List (List ℕ)) (q : at + length (joined 9 cs) ≡ end) {ends : List ℕ} (g : Nine (tabs_of at cs) end ends) (r : Record)
    (n : record_numbers r ≡ at ∷ ends ++ end ∷ []) where
  all : r.start ∷ record_ends r ≡ at ∷ ends ++ end ∷ []
  all = sym (record_numbers_lem r) ∙ n

  starts : r.start ≡ at
  starts = ap (λ (l : List ℕ). get_or l 0 0) all

  ends_are : record_ends r ≡ ends ++ end ∷ []
  ends_are = ap (drop 1) all

  end_at : (j : ℕ) → j < 9 → get_or (record_ends r) j 0 ≡ get_or (tabs_of at cs) j end
  end_at j h = ap (λ (l : List ℕ). get_or l j 0) ends_are ∙ get_or-append ends (end ∷ []) 0 j (let s = g.size in omega arith) ∙ g.each j h

  text_end : r.end ≡ end
  text_end = ap (λ (l : List ℕ). get_or l 9 0) ends_are ∙ get_or_at ends end [] 0 9 g.size

  -- FORMAT is there
  module _ (m : 10 ≤ length cs) where
    h : 9 ≤ length (tabs_of at cs)
    h = let c = tabs_count at cs (omega arith) in omega arith

    nine_tabs : ends ≡ take 9 (tabs_of at cs)
    nine_tabs =
        let t = length-take-le 9 (tabs_of at cs) h in
        let k = h in
        ext_get_or 0 ends (take 9 (tabs_of at cs)) (let s = g.size in omega arith)
        (λ j l.
        (let s = g.size in
        g.each j (omega arith) ∙ get_d_inside (tabs_of at cs) j end 0 (omega arith) ∙ sym (get_or-take 9 (tabs_of at cs) j 0 (omega arith))))

    tab_at : (j : ℕ) → j < 9 → get_or (record_ends r) j 0 ≡ get_or (tabs_of at cs) j 0
    tab_at j l = end_at j l ∙ get_d_inside (tabs_of at cs) j end 0 (let k = h in omega arith)

    -- it ends behind INFO, and before the text does
    format_behind : r.info < r.format
    format_behind = let a = tab_at 7 (omega arith) in let b = tab_at 8 (omega arith) in let c = tabs_rise at cs 7 h in omega arith

    format_before : r.format < r.end
    format_before = let a = tab_at 8 (omega arith) in let b = text_end in let c = tabs_within at cs 8 h in omega arith

    places_ten : record_places r ≡ field_places at cs end
    places_ten =
        full_spans r (λ z. let b = format_behind in omega arith)
        ∙ ap (spans r.start) (ends_are ∙ ap (λ (l : List ℕ). l ++ end ∷ []) nine_tabs)
        ∙ ap (λ (a : ℕ). spans a (take 9 (tabs_of at cs) ++ end ∷ [])) starts
        ∙ ap (λ (x : ℕ). spans at (take 9 (tabs_of at cs) ++ x ∷ [])) (sym q)
        ∙ sym (leading_spans 9 at cs (omega arith))
        ∙ sym (ten_fields_lem at cs end (omega arith))

  -- it is not: INFO ends with the text, and so does FORMAT
  module _ (m : length cs ≡ 8) where
    seven : length (tabs_of at cs) ≡ 7
    seven = let c = tabs_count at cs (omega arith) in omega arith

    end_all : (j : ℕ) → 7 ≤ j → j < 9 → get_or (record_ends r) j 0 ≡ end
    end_all j k l = end_at j l ∙ get_or-eq_default (tabs_of at cs) end (let s = seven in omega arith)

    info_end : r.info ≡ end
    info_end = end_all 7 (omega arith) (omega arith)

    format_end : r.format ≡ end
    format_end = end_all 8 (omega arith) (omega arith)

    eight_ends : take 8 (record_ends r) ≡ take 7 (tabs_of at cs) ++ end ∷ []
    eight_ends =
        ext_get_or 0 (take 8 (record_ends r)) (take 7 (tabs_of at cs) ++ end ∷ [])
        (let s = length-append (take 7 (tabs_of at cs)) (end ∷ []) in let l = length-take-le 7 (tabs_of at cs) (let k = seven in omega arith) in omega arith)
        (λ j l. get_or-take 8 (record_ends r) j 0 l ∙ by j l (dec_lt j 7))
      where
        by : (j : ℕ) → j < 8 → Dec (j < 7) → get_or (record_ends r) j 0 ≡ get_or (take 7 (tabs_of at cs) ++ end ∷ []) j 0
        by j l (yes p) =
            let k = seven in
            let s = length-take-le 7 (tabs_of at cs) (omega arith) in
            end_at j (omega arith) ∙ get_d_inside (tabs_of at cs) j end 0 (omega arith) ∙ sym (get_or-take 7 (tabs_of at cs) j 0 p)
            ∙ sym (get_or-append (take 7 (tabs_of at cs)) (end ∷ []) 0 j (omega arith))
        by j l (no p) =
            let s = length-take-le 7 (tabs_of at cs) (let k = seven in omega arith) in
            end_all j (omega arith) (omega arith) ∙ sym (get_or_at (take 7 (tabs_of at cs)) end [] 0 j (omega arith))

    places_eight : record_places r ≡ field_places at cs end
    places_eight =
        let z : end - end ≡ 0 = omega arith in
        bare_spans r (format_end ∙ sym info_end)
        ∙ ap (λ (l : List ℕ). spans r.start l ++ (range_places (span r.info r.format) ++ range_places (span r.format r.end))) eight_ends
        ∙ rw (starts, info_end, format_end, text_end, span_real {start = end} {end = end} (omega arith), z)
        (rw (eight_fields at cs end m, leading_all 7 at cs m, leading_spans 7 at cs (omega arith), q))

  -- so it has the places of the columns
  pub places_are : MayEnd (length cs) → record_places r ≡ field_places at cs end
  places_are = ⊎_elim places_eight places_ten

  -- where FORMAT and the samples start
  format_after : MayEnd (length cs) → passed r r.info ≤ r.format
  format_after (inl m) = rw (passed_none r r.info (format_end m ∙ sym (info_end m))) (let a = info_end m in let b = format_end m in omega arith)
  format_after (inr m) = let b = format_behind m in rw (passed_one r r.info (λ z. omega arith)) (omega arith)

  samples_after : MayEnd (length cs) → passed r r.format ≤ r.end
  samples_after (inl m) = rw (passed_none r r.format (format_end m ∙ sym (info_end m))) (let a = format_end m in let b = text_end in omega arith)
  samples_after (inr m) =
      let b = format_behind m in
      let c = format_before m in
      rw (passed_one r r.format (λ z. omega arith)) (omega arith)

  -- and, where none is empty, the numbers of these places
  pub numbers_kept : MayEnd (length cs) → ((i : ℕ) → i < length cs → 0 < length (get_or cs i [])) → record_numbers r ≡ numbers_of (record_places r)
  numbers_kept m full = rising_numbers (rising r some (format_after m) (samples_after m))
    where
      some : (i : ℕ) → i < 8 → 0 < get_or (record_places r) (2 * i + 1) 0
      some i l =
          rw (places_are m, ← q, ((places_lie at cs m).eight i l).sized) (full i (⊎_elim (λ z. omega arith) (λ z. omega arith) m))

pub ruleset laws = (has_ends)
