-- A record that was read has the ten places of its line's columns; as none of them is empty, each lies in the buffer. Assumes nothing.
use Prim.Native.Nat.{ℕ, suc, ◌+◌, ◌<◌, ◌≤◌, suc-le-suc}
use mathlib.Core.Path.{◌≡◌, refl, sym, ap, ◌∙◌}
use mathlib.Core.Logic.{◌⊎◌, ⊎_elim}
use mathlib.Core.List.{List, [], ◌∷◌, ◌++◌}
use native.Mathlib.Omega.{arith}
use lib.ListN.{length, get_or, drop, length-drop, length-take, length-append}
use lib.Seq.{get_or-drop}
use Rattle.text.specs.Answer.{says, values_of}
use Rattle.text.specs.Range.{cut}
use Rattle.text.specs.declared.range.Range.{Range}
use Rattle.text.proofs.Lists.{cut_is}
use Rattle.pieces.specs.Pieces.{split, pieces, joined}
use Rattle.pieces.specs.Demands.{Free, start_in}
use Rattle.pieces.proofs.PieceLaws.{split_back, joined_none, joined_one, joined_more, pieces_none, pieces_some}
use Rattle.record.specs.Ending.{Ending, ending_bytes, ending_number}
use Rattle.record.specs.Place.{range_of, column_number, column_of, column_start}
use Rattle.record.specs.Paper.{ending_of, record_places, record_values}
use Rattle.record.specs.declared.place.Record.{Record}
use Rattle.record.specs.declared.place.Name.{Name}
use Rattle.record.specs.declared.place.Name.TheVariants as N
use Rattle.line.specs.Line.{line, line_of, read_answer}
use Rattle.line.specs.Demands.{Column, Begins, Lies, TenPlaces, Stands, One, TellsEnding}
use Rattle.record.proofs.EndingLaws.{ending_known}
use Rattle.record.proofs.NumberLaws.{record_values_lem}
use Rattle.record.proofs.SpanLaws.{range_starts, range_sized}
use Rattle.record.proofs.FieldLaws.{column_is, column_none, column_samples, start_there, start_none}
use Rattle.line.proofs.ShapeLaws.{shaped_line, shaped_split, begins_only}
use Rattle.line.proofs.CaseLaws.{read_record}
use Rattle.line.proofs.One.{one, lie_cuts, field_of, CutsOut}

-- ---- what was read

-- the columns that begin the buffer at the place, and no others; the record's ending and places are theirs
pub record Recorded (s : List ℕ) (at : ℕ) (r : Record) : Type 0 where
  pub columns : List (List ℕ)
  pub ending : Ending
  pub rest : List ℕ
  pub begin : Begins (drop at s) columns ending rest
  pub only : (cs : List (List ℕ)) (e : Ending) (u : List ℕ) → Begins (drop at s) cs e u → cs ≡ columns
  pub ends : ending_of r.ending ≡ ending
  pub lie : TenPlaces (record_places r) at columns

pub recorded : (s : List ℕ) (at : ℕ) {next : ℕ} {r : Record} → read_answer s at ≡ says 0 (next ∷ record_values r) → Recorded s at r
unfolding One
recorded s at {next} {r} h =
    let o : Stands s at (read_answer s at) = one s at (rw h) in
    let v : next ∷ ending_number (ending_of r.ending) ∷ record_places r ≡ values_of (read_answer s at) = rw (h, record_values_lem r) in
    let n : ending_number (ending_of r.ending) ≡ ending_number o.ending = cc (v ∙ o.values) in
    let p : o.places ≡ record_places r = cc (v ∙ o.values) in
    record {
      columns = o.columns;
      ending = o.ending;
      rest = o.rest;
      begin = o.begin;
      only = λ cs e u b. (o.only cs e u b).0;
      ends = ending_known _ _ n;
      lie = rw p at o.lie;
    }

-- so the ending asked of it is its line's
pub tells_ending : TellsEnding
unfolding TellsEnding
tells_ending s at next r x read q cs e rest b =
    let g : Recorded s at r = recorded s at {next = next} (sym read ∙ read_record refl) in
    rw q g.ends ∙ sym (begins_only g.begin b).1

-- ---- pieces that are not empty

-- joined, they have no fewer bytes than there are pieces
pub joined_length : (b : ℕ) (ps : List (List ℕ)) → ((i : ℕ) → i < length ps → 0 < length (get_or ps i [])) → length ps ≤ length (joined b ps)
joined_length b [] h = rw (joined_none b) (omega arith)
joined_length b (p ∷ []) h = rw (joined_one b p) (h 0 (omega arith))
joined_length b (p ∷ q ∷ ps) h =
    let l = length-append p (b ∷ joined b (q ∷ ps)) in
    let k = joined_length b (q ∷ ps) (λ i m. h (suc i) (suc-le-suc m)) in
    rw (joined_more b p q ps, l) (omega arith)

-- so columns that begin an input leave it not empty
pub begins_some : {s : List ℕ} {cs : List (List ℕ)} {e : Ending} {rest : List ℕ} → Begins s cs e rest → 0 < length s
begins_some {cs = cs} {e = e} {rest = rest} b =
    let l = joined_length 9 cs (λ i l. (b.shaped.each i l).some) in
    let n : 8 ≤ length cs = ⊎_elim (λ h. omega arith) (λ h. omega arith) b.shaped.count in
    let w = ap length b.shaped.whole in
    omega (arith, length-append (joined 9 cs) (ending_bytes e ++ rest))

-- and pieces come back, where they are free of the byte between them
joined_back : (b : ℕ) (ps : List (List ℕ)) → ((i : ℕ) → i < length ps → 0 < length (get_or ps i [])) → ((i : ℕ) → i < length ps → Free b (get_or ps i []))
    → pieces b (joined b ps) ≡ ps
joined_back b [] h f = rw (joined_none b) (pieces_none b [] refl)
joined_back b (p ∷ ps) h f =
    let l = joined_length b (p ∷ ps) h in
    pieces_some b (joined b (p ∷ ps)) (omega arith) ∙ split_back b (p ∷ ps) (omega arith) f

-- ---- a place in a buffer

-- it lies in the buffer, and cuts a text out of it
pub record LiesIn (s : List ℕ) (x : Range) (c : List ℕ) : Type 0 where
  pub fits : x.start + x.len ≤ length s
  pub text : cut x s ≡ c

-- so it does where it cuts a text that is not empty out, and has its length
cut_lies : {s : List ℕ} {x : Range} {c : List ℕ} → cut x s ≡ c → x.len ≡ length c → 0 < length c → LiesIn s x c
cut_lies {s} {x} {c} e l n =
    let m = ap length (sym (cut_is x.start x.len s) ∙ e) in
    let t = length-take x.len (drop x.start s) in
    let d = length-drop x.start s in
    record { fits = omega arith; text = e }

-- and where it is empty
empty_lies : {s : List ℕ} {x : Range} → x.start ≤ length s → x.len ≡ 0 → LiesIn s x []
empty_lies {s} {x} h z = record { fits = omega arith; text = cut_is x.start x.len s ∙ rw z }

-- ---- the fields of a record

-- a field is the place of its column's number
pub range_place : (r : Record) (n : Name) → Lies (record_places r) (column_number n) (range_of r n).start (range_of r n).len
range_place r n = record { starts = range_starts r n; sized = range_sized r n }

-- what stands behind the first eight places
pub behind : (places : List ℕ) {l : List ℕ} → drop 16 places ≡ l → (j : ℕ) → get_or places (16 + j) 0 ≡ get_or l j 0
behind places e j = sym (get_or-drop 16 places j 0) ∙ ap (λ (l : List ℕ). get_or l j 0) e

module _ {s : List ℕ} {at : ℕ} {r : Record} (g : Recorded s at r) where
  -- there are eight columns, or at least ten
  pub count : (length g.columns ≡ 8) ⊎ (10 ≤ length g.columns)
  count = g.begin.shaped.count

  eight : 8 ≤ length g.columns
  eight = ⊎_elim (λ h. omega arith) (λ h. omega arith) count

  each : (i : ℕ) → i < length g.columns → Column (get_or g.columns i [])
  each = g.begin.shaped.each

  -- and none is empty
  full : (i : ℕ) → i < length g.columns → 0 < length (get_or g.columns i [])
  full i l = (each i l).some

  whole : joined 9 g.columns ++ (ending_bytes g.ending ++ g.rest) ≡ drop at s
  whole = g.begin.shaped.whole

  -- they are the line's, between tabs
  pub line_is : line_of (drop at s) ≡ line (joined 9 g.columns) g.ending g.rest
  line_is = shaped_line g.begin.shaped

  pub columns_split : split 9 (joined 9 g.columns) ≡ g.columns
  columns_split = shaped_split g.begin.shaped

  -- there are no fewer bytes than columns
  text_long : length g.columns ≤ length (joined 9 g.columns)
  text_long = joined_length 9 g.columns full

  ends : at + length (joined 9 g.columns) ≤ length s
  ends =
      let l = length-append (joined 9 g.columns) (ending_bytes g.ending ++ g.rest) in
      let m = ap length whole in
      let d = length-drop at s in
      let t = text_long in
      let n = eight in
      omega arith

  cuts : CutsOut (record_places r) s g.columns (at + length (joined 9 g.columns))
  cuts = lie_cuts s (ending_bytes g.ending ++ g.rest) count (sym whole) g.lie

  -- a field has its column's place, and lies in the buffer
  pub record Placed (n : Name) : Type 0 where
    pub starts : (range_of r n).start ≡ at + column_start n g.columns
    pub sized : (range_of r n).len ≡ length (column_of n g.columns)
    pub lies : LiesIn s (range_of r n) (column_of n g.columns)

  -- so it is of one that is among the columns
  there : (n : Name) → column_number n < length g.columns
      → Lies (record_places r) (column_number n) (at + start_in g.columns (column_number n)) (length (column_of n g.columns))
      → field_of (record_places r) (column_number n) s ≡ column_of n g.columns → 0 < length (column_of n g.columns) → Placed n
  unfolding field_of
  there n h l e f =
      let p = range_place r n in
      let z : (range_of r n).len ≡ length (column_of n g.columns) = sym p.sized ∙ l.sized in
      record {
        starts = rw (start_there n g.columns h) (sym p.starts ∙ l.starts);
        sized = z;
        lies = cut_lies (rw (p.starts, p.sized) at e) z f;
      }

  -- and of one that is not
  absent : (n : Name) → length g.columns ≤ column_number n → length g.columns ≡ 8
      → Lies (record_places r) (column_number n) (at + length (joined 9 g.columns)) 0 → Placed n
  absent n h k l =
      let p = range_place r n in
      let c : column_of n g.columns ≡ [] = column_none n g.columns h k in
      let a : (range_of r n).start ≡ at + length (joined 9 g.columns) = sym p.starts ∙ l.starts in
      let z : (range_of r n).len ≡ 0 = sym p.sized ∙ l.sized in
      let e = ends in
      record { starts = rw (start_none n g.columns h) a; sized = rw c z; lies = rw c (empty_lies (omega arith) z) }

  -- the first eight are
  early : (n : Name) → column_number n < 8 → Placed n
  early n h =
      let k = eight in
      let c = column_is n g.columns (omega arith) in
      there n (omega arith) (rw c (g.lie.eight (column_number n) h)) (rw c (cuts.eight (column_number n) h)) (rw c (full (column_number n) (omega arith)))

  format_placed : Placed N.Format
  format_placed = ⊎_elim bare some count
    where
      bare : length g.columns ≡ 8 → Placed N.Format
      bare h =
          let n = g.lie.bare h in
          absent N.Format (omega arith) h (record { starts = behind (record_places r) n 0; sized = behind (record_places r) n 1 })

      some : 10 ≤ length g.columns → Placed N.Format
      some h =
          let c = column_is N.Format g.columns (omega arith) in
          there N.Format (omega arith) (rw c (g.lie.format h)) (rw c (cuts.format h)) (rw c (full 8 (omega arith)))

  -- the columns from 9 on
  further : (i : ℕ) → i < length (drop 9 g.columns) → 9 + i < length g.columns
  further i l = let d = length-drop 9 g.columns in omega arith

  samples_full : (i : ℕ) → i < length (drop 9 g.columns) → 0 < length (get_or (drop 9 g.columns) i [])
  samples_full i l = rw (get_or-drop 9 g.columns i []) (full (9 + i) (further i l))

  samples_placed : Placed N.Samples
  samples_placed = ⊎_elim bare some count
    where
      bare : length g.columns ≡ 8 → Placed N.Samples
      bare h =
          let n = g.lie.bare h in
          absent N.Samples (omega arith) h (record { starts = behind (record_places r) n 2; sized = behind (record_places r) n 3 })

      some : 10 ≤ length g.columns → Placed N.Samples
      some h =
          let l = joined_length 9 (drop 9 g.columns) samples_full in
          let d = length-drop 9 g.columns in
          let c = column_samples g.columns in
          there N.Samples (omega arith) (rw c (g.lie.samples h)) (rw c (cuts.samples h)) (rw c (omega arith))

  -- each field's place is its column's
  pub placed : (n : Name) → Placed n
  placed N.Chrom = early N.Chrom (omega arith)
  placed N.Pos = early N.Pos (omega arith)
  placed N.Id = early N.Id (omega arith)
  placed N.Reference = early N.Reference (omega arith)
  placed N.Alt = early N.Alt (omega arith)
  placed N.Qual = early N.Qual (omega arith)
  placed N.Filter = early N.Filter (omega arith)
  placed N.Info = early N.Info (omega arith)
  placed N.Format = format_placed
  placed N.Samples = samples_placed

  -- the samples come back from theirs
  pub samples_back : pieces 9 (column_of N.Samples g.columns) ≡ drop 9 g.columns
  samples_back =
      rw (column_samples g.columns)
      (joined_back 9 (drop 9 g.columns) samples_full
      (λ i l. rw (get_or-drop 9 g.columns i []) (each (9 + i) (further i l)).no_tab))

  -- the buffer has no fewer bytes than there are columns
  pub columns_within : length g.columns ≤ length s
  columns_within = let t = text_long in let e = ends in omega arith
