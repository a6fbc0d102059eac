-- A place from a start to an end, and the ten of a record whose ends rise: each is real, and has the record's numbers. Assumes nothing.
use Prim.Native.Nat.{ℕ, ◌+◌, ◌-◌, ◌*◌, ◌≤◌, ◌<◌}
use mathlib.Core.Path.{◌≡◌, refl, sym, ap, ◌∙◌}
use mathlib.Core.Bool.{Bool, true, false}
use mathlib.Core.List.{List, [], ◌∷◌, ◌++◌}
use native.Mathlib.Omega.{arith}
use lib.ListN.{get_or, take}
use lib.Dec.{leb}
use borrow.Author.Tests.{le-leb, lt-leb, leb-true, leb-false, eq-eqb, ne_eqb}
use Rattle.text.specs.Range.{range_at, range_places}
use Rattle.text.specs.declared.range.Range.{Range}
use Rattle.record.specs.Place.{nowhere, span, passed, range_of, column_number, ends_of, numbers_of}
use Rattle.record.specs.Paper.{record_places, record_numbers, record_with}
use Rattle.record.specs.Demands.{Unreached}
use Rattle.record.specs.declared.ending.Ending.{Ending}
use Rattle.record.specs.declared.place.Record.{Record}
use Rattle.record.specs.declared.place.Name.{Name}
use Rattle.record.specs.declared.place.Name.TheVariants as N
use Rattle.record.proofs.NumberLaws.{record_ends}

-- ---- from a start to an end

module _ {start end : ℕ} where
  pub span_real : start ≤ end → span start end ≡ range_at start (end - start)
  unfolding span
  span_real h = rw (le-leb _ _ h)

  pub span_none : end < start → span start end ≡ nowhere
  unfolding span
  span_none h = rw (lt-leb _ _ h)

  span_start : start ≤ end → (span start end).start ≡ start
  span_start h = rw (span_real h)

  span_end : start ≤ end → (span start end).start + (span start end).len ≡ end
  span_end h = rw (span_real h) (omega arith)

pub place_real : {start end : ℕ} → start ≤ end → range_at start (end - start) ≡ span start end
place_real h = sym (span_real h)

pub place_none : {start end : ℕ} {x : Range} → x ≡ nowhere → end < start → x ≡ span start end
place_none e h = e ∙ sym (span_none h)

pub tab_none : {before end : ℕ} {x : Range} → x ≡ nowhere → end ≤ before → x ≡ span (before + 1) end
tab_none e h = place_none e (omega arith)

-- one that is not empty is real, and so is one that starts where an input may reach
module _ (start end : ℕ) where
  real : (nowhere ≡ span start end → ⊥) → start ≤ end
  real h = by (leb start end) refl
    where
      by : (b : Bool) → leb start end ≡ b → start ≤ end
      by true e = leb-true start end e
      by false e = absurd (h (sym (span_none (leb-false start end e))))

  pub span_some : 0 < (span start end).len → start ≤ end
  unfolding nowhere
  span_some h = real (λ e. let n = ap (λ (x : Range). x.len) e in omega arith)

  pub span_within : (span start end).start ≤ 9223372036854775807 → start ≤ end
  unfolding nowhere
  span_within h = real (λ e. let n = ap (λ (x : Range). x.start) e in omega arith)

pub unreached : Unreached
unfolding Unreached nowhere
unreached s room start end h = rw (span_none h) (let r = room.1 in omega arith)

pub tab_real : {before end : ℕ} → before < end → range_at (before + 1) (end - (before + 1)) ≡ span (before + 1) end
tab_real h = place_real (omega arith)

-- ---- FORMAT and the samples

module _ (r : Record) (before : ℕ) where
  pub passed_none : r.format ≡ r.info → passed r before ≡ before
  unfolding passed
  passed_none e = rw (eq-eqb _ _ e)

  pub passed_one : (r.format ≡ r.info → ⊥) → passed r before ≡ before + 1
  unfolding passed
  passed_one n = rw (ne_eqb _ _ n)

  module _ (end : ℕ) {x : Range} where
    pub info_none : r.format ≡ r.info → x ≡ span before end → x ≡ span (passed r before) end
    info_none e q = rw (passed_none e) q

    pub info_one : (r.format ≡ r.info → ⊥) → x ≡ span (before + 1) end → x ≡ span (passed r before) end
    info_one n q = rw (passed_one n) q

-- ---- the places of a record

-- places by a start and ends, one tab between
abbrev pub spans : ℕ → List ℕ → List ℕ
spans from [] = []
spans from (end ∷ ends) = (span from end).start ∷ (span from end).len ∷ spans (end + 1) ends

module _ (r : Record) where
  pub full_spans : (r.format ≡ r.info → ⊥) → record_places r ≡ spans r.start (record_ends r)
  unfolding record_places range_of
  full_spans n = rw (passed_one r r.info n, passed_one r r.format n)

  pub bare_spans : r.format ≡ r.info
      → record_places r ≡ spans r.start (take 8 (record_ends r)) ++ (range_places (span r.info r.format) ++ range_places (span r.format r.end))
  unfolding record_places range_of
  bare_spans n = rw (passed_none r r.info n, passed_none r r.format n)

  pub places_told : {chrom pos id reference alt qual filter info format samples : Range} → chrom ≡ range_of r N.Chrom → pos ≡ range_of r N.Pos → id ≡ range_of r N.Id → reference ≡ range_of r N.Reference → alt ≡ range_of r N.Alt → qual ≡ range_of r N.Qual → filter ≡ range_of r N.Filter → info ≡ range_of r N.Info → format ≡ range_of r N.Format → samples ≡ range_of r N.Samples
      → chrom.start ∷ chrom.len ∷ pos.start ∷ pos.len ∷ id.start ∷ id.len ∷ reference.start ∷ reference.len ∷ alt.start ∷ alt.len ∷ qual.start ∷ qual.len ∷ filter.start ∷ filter.len ∷ info.start ∷ info.len ∷ format.start ∷ format.len ∷ samples.start ∷ samples.len ∷ [] ≡ record_places r
  unfolding record_places
  places_told a b c d e f g h i j = rw (a, b, c, d, e, f, g, h, i, j)

  -- FORMAT's is the ninth, the samples' the tenth
  pub format_place : range_places (span (passed r r.info) r.format) ≡ get_or (record_places r) 16 0 ∷ get_or (record_places r) 17 0 ∷ []
  unfolding record_places range_of
  format_place = refl

  pub samples_place : range_places (span (passed r r.format) r.end) ≡ get_or (record_places r) 18 0 ∷ get_or (record_places r) 19 0 ∷ []
  unfolding record_places range_of
  samples_place = refl

-- a field's is that of its column's number
pub range_starts : (r : Record) (n : Name) → get_or (record_places r) (2 * column_number n) 0 ≡ (range_of r n).start
unfolding record_places
range_starts r N.Chrom = refl
range_starts r N.Pos = refl
range_starts r N.Id = refl
range_starts r N.Reference = refl
range_starts r N.Alt = refl
range_starts r N.Qual = refl
range_starts r N.Filter = refl
range_starts r N.Info = refl
range_starts r N.Format = refl
range_starts r N.Samples = refl

pub range_sized : (r : Record) (n : Name) → get_or (record_places r) (2 * column_number n + 1) 0 ≡ (range_of r n).len
unfolding record_places
range_sized r N.Chrom = refl
range_sized r N.Pos = refl
range_sized r N.Id = refl
range_sized r N.Reference = refl
range_sized r N.Alt = refl
range_sized r N.Qual = refl
range_sized r N.Filter = refl
range_sized r N.Info = refl
range_sized r N.Format = refl
range_sized r N.Samples = refl

-- ---- a record whose ends rise

-- no field ends before it starts
pub record Rising (r : Record) : Type 0 where
  pub chrom : r.start ≤ r.chrom
  pub pos : r.chrom + 1 ≤ r.pos
  pub id : r.pos + 1 ≤ r.id
  pub reference : r.id + 1 ≤ r.reference
  pub alt : r.reference + 1 ≤ r.alt
  pub qual : r.alt + 1 ≤ r.qual
  pub filter : r.qual + 1 ≤ r.filter
  pub info : r.filter + 1 ≤ r.info
  pub format : passed r r.info ≤ r.format
  pub samples : passed r r.format ≤ r.end

-- so it is where none of the first eight is empty, and the last two are real
pub rising : (r : Record) → ((i : ℕ) → i < 8 → 0 < get_or (record_places r) (2 * i + 1) 0) → passed r r.info ≤ r.format → passed r r.format ≤ r.end → Rising r
unfolding record_places range_of
rising r some f s =
    record {
      chrom = span_some _ _ (some 0 (omega arith));
      pos = span_some _ _ (some 1 (omega arith));
      id = span_some _ _ (some 2 (omega arith));
      reference = span_some _ _ (some 3 (omega arith));
      alt = span_some _ _ (some 4 (omega arith));
      qual = span_some _ _ (some 5 (omega arith));
      filter = span_some _ _ (some 6 (omega arith));
      info = span_some _ _ (some 7 (omega arith));
      format = f;
      samples = s;
    }

module _ {r : Record} (h : Rising r) where
  pub rising_places : record_places r
      ≡ r.start ∷ (r.chrom - r.start) ∷ (r.chrom + 1) ∷ (r.pos - (r.chrom + 1)) ∷ (r.pos + 1) ∷ (r.id - (r.pos + 1)) ∷ (r.id + 1) ∷ (r.reference - (r.id + 1)) ∷ (r.reference + 1) ∷ (r.alt - (r.reference + 1)) ∷ (r.alt + 1) ∷ (r.qual - (r.alt + 1)) ∷ (r.qual + 1) ∷ (r.filter - (r.qual + 1)) ∷ (r.filter + 1) ∷ (r.info - (r.filter + 1)) ∷ passed r r.info ∷ (r.format - passed r r.info) ∷ passed r r.format ∷ (r.end - passed r r.format) ∷ []
  unfolding record_places range_of
  rising_places =
      rw (span_real h.chrom, span_real h.pos, span_real h.id, span_real h.reference, span_real h.alt, span_real h.qual, span_real h.filter, span_real h.info, span_real h.format, span_real h.samples)

  pub rising_numbers : record_numbers r ≡ numbers_of (record_places r)
  unfolding record_numbers numbers_of ends_of record_places range_of
  rising_numbers =
      rw (span_end h.chrom, span_end h.pos, span_end h.id, span_end h.reference, span_end h.alt, span_end h.qual, span_end h.filter, span_end h.info, span_end h.format, span_end h.samples, span_start h.chrom)

-- ---- the record with numbers that rise

module _ (ending : Ending) {start chrom pos id reference alt qual filter info : ℕ} (c : start ≤ chrom) (p : chrom + 1 ≤ pos) (i : pos + 1 ≤ id) (r : id + 1 ≤ reference) (a : reference + 1 ≤ alt) (q : alt + 1 ≤ qual) (f : qual + 1 ≤ filter) (n : filter + 1 ≤ info) where
  -- without FORMAT all ends from INFO's on are the text's
  abbrev bare : Record
  bare = record_with ending (start ∷ chrom ∷ pos ∷ id ∷ reference ∷ alt ∷ qual ∷ filter ∷ info ∷ info ∷ info ∷ [])

  bare_none : passed bare info ≡ info
  unfolding record_with
  bare_none = passed_none bare info refl

  bare_rising : Rising bare
  unfolding record_with
  bare_rising = let z = bare_none in record { chrom = c; pos = p; id = i; reference = r; alt = a; qual = q; filter = f; info = n; format = omega arith; samples = omega arith }

  pub bare_places : record_places bare
      ≡ start ∷ (chrom - start) ∷ (chrom + 1) ∷ (pos - (chrom + 1)) ∷ (pos + 1) ∷ (id - (pos + 1)) ∷ (id + 1) ∷ (reference - (id + 1)) ∷ (reference + 1) ∷ (alt - (reference + 1)) ∷ (alt + 1) ∷ (qual - (alt + 1)) ∷ (qual + 1) ∷ (filter - (qual + 1)) ∷ (filter + 1) ∷ (info - (filter + 1)) ∷ info ∷ 0 ∷ info ∷ 0 ∷ []
  unfolding record_with
  bare_places = let z : info - info ≡ 0 = omega arith in rising_places bare_rising ∙ rw (bare_none, z)

  pub bare_numbers : record_numbers bare ≡ numbers_of (record_places bare)
  bare_numbers = rising_numbers bare_rising

  -- and with FORMAT each field starts past one tab
  module _ {format end : ℕ} (m : info + 1 ≤ format) (l : format + 1 ≤ end) where
    abbrev full : Record
    full = record_with ending (start ∷ chrom ∷ pos ∷ id ∷ reference ∷ alt ∷ qual ∷ filter ∷ info ∷ format ∷ end ∷ [])

    full_one : (before : ℕ) → passed full before ≡ before + 1
    unfolding record_with
    full_one before = passed_one full before (λ z. omega arith)

    full_rising : Rising full
    unfolding record_with
    full_rising =
        let y = full_one info in
        let z = full_one format in
        record { chrom = c; pos = p; id = i; reference = r; alt = a; qual = q; filter = f; info = n; format = omega arith; samples = omega arith }

    pub full_places : record_places full
        ≡ start ∷ (chrom - start) ∷ (chrom + 1) ∷ (pos - (chrom + 1)) ∷ (pos + 1) ∷ (id - (pos + 1)) ∷ (id + 1) ∷ (reference - (id + 1)) ∷ (reference + 1) ∷ (alt - (reference + 1)) ∷ (alt + 1) ∷ (qual - (alt + 1)) ∷ (qual + 1) ∷ (filter - (qual + 1)) ∷ (filter + 1) ∷ (info - (filter + 1)) ∷ (info + 1) ∷ (format - (info + 1)) ∷ (format + 1) ∷ (end - (format + 1)) ∷ []
    unfolding record_with
    full_places = rising_places full_rising ∙ rw (full_one info, full_one format)

    pub full_numbers : record_numbers full ≡ numbers_of (record_places full)
    full_numbers = rising_numbers full_rising

pub ruleset laws = (place_real, place_none, tab_none, tab_real, info_none, info_one)
