-- A form can be made exactly where some input has a line of it. From a line: its columns are not empty, and have one tab between. To
-- one: a column of `A` of each field's length, joined by tabs; by induction over the places. Assumes nothing.
use Prim.Native.Nat.{ℕ, zero, suc, ◌+◌, ◌-◌, ◌*◌, ◌<◌, ◌≤◌, suc-le-suc}
use mathlib.Core.Path.{◌≡◌, refl, sym, ap, ◌∙◌}
use mathlib.Core.Bool.{true, false}
use mathlib.Core.Logic.{inl, inr, ⊎_elim}
use mathlib.Core.List.{List, [], ◌∷◌, ◌++◌}
use native.Mathlib.Omega.{arith}
use lib.ListN.{length, get_or, replicate, take, drop, take-append-drop, length-append, length-drop, length-replicate, get_or-replicate, get_or-append}
use lib.Seq.{length-take-le, take_at, drop_at}
use borrow.Author.Tests.{ne_eqb}
use denote.Builtin.{u8}
use denote.Slice.{Room}
use Rattle.text.specs.Answer.{says, number_of, values_of}
use Rattle.text.specs.Bytes.{ends_in}
use Rattle.text.specs.Utf8.{is_utf8}
use Rattle.text.proofs.ByteLaws.{ends_none, ends_at}
use Rattle.text.proofs.Demands.{nil_text, byte_text, append_text}
use Rattle.pieces.specs.Pieces.{joined}
use Rattle.pieces.specs.Demands.{Free}
use Rattle.pieces.proofs.PieceLaws.{joined_none, joined_one, joined_more}
use Rattle.record.specs.Ending.{Ending, nothing, feed, return_feed, ending_bytes, ending_number}
use Rattle.line.specs.Line.{leading_places, field_places, read_answer}
use Rattle.line.specs.Demands as Line
use Rattle.line.specs.Demands.{MayEnd, Ended, by_nothing, by_feed, by_return_feed, Begins, Reader, Stands, One, Moved, OneReader}
use Rattle.record.proofs.EndingLaws.{nothing_bytes, feed_bytes, return_feed_bytes, ending_known}
use Rattle.line.proofs.ColumnLaws.{free_joined, utf8_all}
use Rattle.line.proofs.RecordLaws.{joined_length, begins_some, behind}
use Rattle.line.proofs.ShapeLaws.{begins_answer}
use Rattle.line.proofs.TenPlaces.{leading_none, leading_rest, leading_more, leading_length, all_length, eight_fields, ten_fields_lem, places_lie}
use Rattle.line.proofs.MovesOn.{read_moved, zero_inside}
use Rattle.line.proofs.One.{one}
use Rattle.line.proofs.Meets as LineMeets
use Rattle.forms.specs.Form.{end_at, chained_from, chained, bare}
use Rattle.forms.specs.Demands.{Input, Makes, Made}
use Rattle.forms.proofs.ChainLaws.{chain_field, chain_none, chain_single, chain_on, end_is, end_next}
use Rattle.forms.proofs.MadeLaws.{bare_drop, drop_bare}
use Rattle.forms.proofs.FormLaws.{Fields, full, eight, MadeForm, made_form, form_made, end_taken, samples_end}

-- ---- columns of the fields' lengths

abbrev letters : ℕ → List ℕ
letters len = replicate len 65

letters_length : (len : ℕ) → length (letters len) ≡ len
letters_length len = length-replicate {A = ℕ} len 65

columns_of : List ℕ → List (List ℕ)
columns_of [] = []
columns_of (start ∷ []) = []
columns_of (start ∷ len ∷ places) = letters len ∷ columns_of places

columns_count : (places : List ℕ) (n : ℕ) → length places ≡ 2 * n → length (columns_of places) ≡ n
unfolding columns_of
columns_count [] n e = omega arith
columns_count (start ∷ []) n e = absurd (odd n e)
  where
    odd : (n : ℕ) → 1 ≡ 2 * n → ⊥
    odd n e = omega arith
columns_count (start ∷ len ∷ places) zero e = absurd (omega arith)
columns_count (start ∷ len ∷ places) (suc n) e = ap suc (columns_count places n (omega arith))

-- a column of `A`
letters_free : (b len : ℕ) → (65 ≡ b → ⊥) → Free b (letters len)
letters_free b len h = record { free = λ k l e. h (sym (get_or-replicate {A = ℕ} len k 65 0 (omega (arith, letters_length len))) ∙ e) }

letters_text : (len : ℕ) → is_utf8 (letters len) ≡ true
letters_text zero = nil_text
letters_text (suc len) = append_text (65 ∷ []) (letters len) (byte_text 65 (omega arith)) (letters_text len)

-- each column is one
record Letters (c : List ℕ) : Type 0 where
  some : 0 < length c
  free : (b : ℕ) → (65 ≡ b → ⊥) → Free b c
  text : is_utf8 c ≡ true

columns_letters : (from : ℕ) (places : List ℕ) → chained_from from places ≡ true → (i : ℕ) → i < length (columns_of places) → Letters (get_or (columns_of places) i [])
unfolding columns_of
columns_letters from [] h i l = absurd (omega arith)
columns_letters from (start ∷ []) h i l = absurd (omega arith)
columns_letters from (start ∷ len ∷ places) h zero l =
    record {
      some = (let n = letters_length len in let c = (chain_field from start len places h).some in omega arith);
      free = λ b n. letters_free b len n;
      text = letters_text len;
    }
columns_letters from (start ∷ len ∷ places) h (suc i) l = columns_letters (from + len + 1) places (chain_field from start len places h).rest i (omega arith)

-- their places are the fields'
columns_places : (n from : ℕ) (places : List ℕ) → chained_from from places ≡ true → length places ≤ 2 * n + 2 → leading_places n from (columns_of places) ≡ places
unfolding columns_of
columns_places n from [] h l = leading_none n from
columns_places n from (start ∷ []) h l = absurd (chain_single from start h)
columns_places zero from (start ∷ len ∷ []) h l =
    leading_rest from (letters len) [] ∙ rw (joined_one 9 (letters len), letters_length len, (chain_field from start len [] h).starts)
columns_places zero from (start ∷ len ∷ x ∷ places) h l = absurd (omega arith)
columns_places (suc n) from (start ∷ len ∷ places) h l =
    let c = chain_field from start len places h in
    leading_more n from (letters len) (columns_of places)
    ∙ rw (letters_length len, columns_places n (from + len + 1) places c.rest (omega arith), c.starts)

-- ---- where the last column ends

leading_some : (n from : ℕ) (c : List ℕ) (cs : List (List ℕ)) → 2 ≤ length (leading_places n from (c ∷ cs))
leading_some zero from c cs = rw (leading_rest from c cs) (omega arith)
leading_some (suc n) from c cs = rw (leading_more n from c cs) (omega arith)

leading_end : (n from : ℕ) (cs : List (List ℕ)) (k : ℕ) → length (leading_places n from cs) ≡ 2 * suc k → end_at (leading_places n from cs) k ≡ from + length (joined 9 cs)
leading_end n from [] k e = absurd (let z = ap length (leading_none n from) in omega arith)
leading_end zero from (c ∷ cs) k e =
    let z : 2 ≡ 2 * suc k = sym (ap length (leading_rest from c cs)) ∙ e in
    let w : k ≡ 0 = omega arith in
    rw (leading_rest from c cs, w) (end_is (from ∷ length (joined 9 (c ∷ cs)) ∷ []) 0)
leading_end (suc n) from (c ∷ []) k e =
    let q = leading_more n from c [] ∙ ap (λ (l : List ℕ). from ∷ length c ∷ l) (leading_none n (from + length c + 1)) in
    let z : 2 ≡ 2 * suc k = sym (ap length q) ∙ e in
    let w : k ≡ 0 = omega arith in
    rw (q, w, joined_one 9 c) (end_is (from ∷ length c ∷ []) 0)
leading_end (suc n) from (c ∷ d ∷ cs) zero e = absurd (let z = ap length (leading_more n from c (d ∷ cs)) in let m = leading_some n (from + length c + 1) d cs in omega arith)
leading_end (suc n) from (c ∷ d ∷ cs) (suc k) e =
    let q = leading_more n from c (d ∷ cs) in
    let z = ap length q in
    let l = length-append c (9 ∷ joined 9 (d ∷ cs)) in
    rw (q, end_next from (length c) (leading_places n (from + length c + 1) (d ∷ cs)) k, leading_end n (from + length c + 1) (d ∷ cs) k (omega arith), joined_more 9 c d cs) (omega arith)

-- ---- from a line to its form

leading_chained : (n from : ℕ) (cs : List (List ℕ)) → ((i : ℕ) → i < length cs → 0 < length (get_or cs i [])) → chained_from from (leading_places n from cs) ≡ true
leading_chained n from [] h = rw (leading_none n from) (chain_none from)
leading_chained zero from (c ∷ cs) h =
    let l = joined_length 9 (c ∷ cs) h in
    rw (leading_rest from c cs) (chain_on from from (length (joined 9 (c ∷ cs))) [] refl (omega arith) ∙ chain_none (from + length (joined 9 (c ∷ cs)) + 1))
leading_chained (suc n) from (c ∷ cs) h =
    rw (leading_more n from c cs)
    (chain_on from from (length c) (leading_places n (from + length c + 1) cs) refl (h 0 (omega arith)) ∙ leading_chained n (from + length c + 1) cs (λ i l. h (suc i) (suc-le-suc l)))

-- a chain from a place is one from its first start
chain_any : (from : ℕ) (places : List ℕ) → chained_from from places ≡ true → chained places ≡ true
unfolding chained
chain_any from [] h = chain_none 0
chain_any from (start ∷ []) h = absurd (chain_single from start h)
chain_any from (start ∷ len ∷ places) h = rw (← (chain_field from start len places h).starts) at h

-- places before others end where they do
end_append : (places others : List ℕ) (i : ℕ) → 2 * i + 1 < length places → end_at (places ++ others) i ≡ end_at places i
end_append places others i l =
    end_is (places ++ others) i ∙ rw (get_or-append places others 0 (2 * i) (omega arith), get_or-append places others 0 (2 * i + 1) l) (sym (end_is places i))

module _ (at : ℕ) {t : List ℕ} {cs : List (List ℕ)} {e : Ending} {rest : List ℕ} (b : Begins t cs e rest) where
  text_end : ℕ
  text_end = at + length (joined 9 cs)

  full_columns : (i : ℕ) → i < length cs → 0 < length (get_or cs i [])
  full_columns i l = (b.shaped.each i l).some

  -- its fields, and where its samples end
  record Formed (places : List ℕ) : Type 0 where
    fields : Fields places
    ends : end_at places 9 ≡ text_end

  formed_ten : 10 ≤ length cs → Formed (field_places at cs text_end)
  unfolding text_end
  formed_ten h =
      rw (ten_fields_lem at cs text_end h)
      (record {
        fields = full (chain_any at (leading_places 9 at cs) (leading_chained 9 at cs full_columns));
        ends = leading_end 9 at cs 9 (leading_length 9 at cs (omega arith));
      })

  formed_eight : length cs ≡ 8 → Formed (field_places at cs text_end)
  unfolding text_end
  formed_eight h =
      rw (eight_fields at cs text_end h)
      (record {
        fields =
            eight
            (rw (take_at front back 16 n) (chain_any at front (leading_chained 8 at cs full_columns)))
            (drop_bare (front ++ back) (drop_at front back 16 n ∙ rw seven));
        ends = end_is (front ++ back) 9 ∙ rw (behind (front ++ back) (drop_at front back 16 n) 2, behind (front ++ back) (drop_at front back 16 n) 3) (omega arith);
      })
    where
      front : List ℕ
      front = leading_places 8 at cs

      back : List ℕ
      back = text_end ∷ 0 ∷ text_end ∷ 0 ∷ []

      n : length front ≡ 16
      n = all_length 8 at cs h

      seven : end_at (front ++ back) 7 ≡ text_end
      seven = end_append front back 7 (let k = n in omega arith) ∙ leading_end 8 at cs 7 n

  formed : Formed (field_places at cs text_end)
  formed = ⊎_elim formed_eight formed_ten b.shaped.count

-- so what the line reader answers can be made
pub answered : (s : List ℕ) (at next : ℕ) (e : Ending) (places : List ℕ) → Room u8 (length s) → read_answer s at ≡ says 0 (next ∷ ending_number e ∷ places) → MadeForm e places
unfolding One text_end
answered s at next e places room h =
    let m : Moved s at (read_answer s at) = read_moved s at in
    let z : number_of (read_answer s at) ≡ 0 = rw h in
    let w = m.within (λ q. omega arith) in
    let o : Stands s at (read_answer s at) = one s at z in
    let v : next ∷ ending_number e ∷ places ≡ values_of (read_answer s at) = rw h in
    let x : next ≡ m.next = cc (v ∙ m.values) in
    let q : says 0 (next ∷ ending_number e ∷ places) ≡ says 0 ((at + length (joined 9 o.columns) + length (ending_bytes o.ending)) ∷ ending_number o.ending ∷ field_places at o.columns (at + length (joined 9 o.columns))) = sym h ∙ begins_answer s at (zero_inside s at z) o.begin in
    let p : places ≡ field_places at o.columns (at + length (joined 9 o.columns)) = cc in
    let y : next ≡ at + length (joined 9 o.columns) + length (ending_bytes o.ending) = cc in
    let k : e ≡ o.ending = ending_known e o.ending cc in
    let f = formed at o.begin in
    record {
      ten = rw p (places_lie at o.columns o.begin.shaped.count).ten;
      fields = rw p f.fields;
      within = rw (p, k) (let g = f.ends in let r = room.1 in omega arith);
    }

-- ---- from a form to a line

-- bytes of a list
abbrev Bytes : List ℕ → Type 0
Bytes s = (i : ℕ) → i < length s → get_or s i 0 < 256

bytes_nil : Bytes []
bytes_nil i l = absurd (omega arith)

bytes_cons : (a : ℕ) (s : List ℕ) → a < 256 → Bytes s → Bytes (a ∷ s)
bytes_cons a s h f zero l = h
bytes_cons a s h f (suc i) l = f i (omega arith)

bytes_append : (s t : List ℕ) → Bytes s → Bytes t → Bytes (s ++ t)
bytes_append [] t f g i l = g i l
bytes_append (a ∷ s) t f g zero l = f zero (omega arith)
bytes_append (a ∷ s) t f g (suc i) l = bytes_append s t (λ k m. f (suc k) (suc-le-suc m)) g i (omega arith)

bytes_replicate : (n a : ℕ) → a < 256 → Bytes (replicate n a)
bytes_replicate n a h i l = rw (get_or-replicate {A = ℕ} n i a 0 (omega (arith, length-replicate {A = ℕ} n a))) h

bytes_ending : (e : Ending) → Bytes (ending_bytes e)
bytes_ending nothing = rw nothing_bytes bytes_nil
bytes_ending feed = rw feed_bytes (bytes_cons 10 [] (omega arith) bytes_nil)
bytes_ending return_feed = rw return_feed_bytes (bytes_cons 13 (10 ∷ []) (omega arith) (bytes_cons 10 [] (omega arith) bytes_nil))

bytes_joined : (places : List ℕ) → Bytes (joined 9 (columns_of places))
unfolding columns_of
bytes_joined [] = rw (joined_none 9) bytes_nil
bytes_joined (start ∷ []) = rw (joined_none 9) bytes_nil
bytes_joined (start ∷ len ∷ []) = rw (joined_one 9 (letters len)) (bytes_replicate len 65 (omega arith))
bytes_joined (start ∷ len ∷ x ∷ []) = rw (joined_one 9 (letters len)) (bytes_replicate len 65 (omega arith))
bytes_joined (start ∷ len ∷ x ∷ y ∷ places) =
    rw (joined_more 9 (letters len) (letters y) (columns_of places))
    (bytes_append (letters len) (9 ∷ joined 9 (columns_of (x ∷ y ∷ places))) (bytes_replicate len 65 (omega arith)) (bytes_cons 9 (joined 9 (columns_of (x ∷ y ∷ places))) (omega arith) (bytes_joined (x ∷ y ∷ places))))

-- a text free of CR does not end in one
free_ends : (t : List ℕ) → Free 13 t → ends_in 13 t ≡ false
free_ends [] f = ends_none 13 [] refl
free_ends (a ∷ t) f = ends_at 13 (a ∷ t) (omega arith) ∙ ne_eqb _ _ (f.free (length (a ∷ t) - 1) (omega arith))

-- the line of fields that follow each other from the place `at` on
module _ (at : ℕ) (front : List ℕ) (c : chained_from at front ≡ true) (k : ℕ) (n : length front ≡ 2 * k) (may : MayEnd k) (e : Ending) where
  columns : List (List ℕ)
  columns = columns_of front

  count : length columns ≡ k
  unfolding columns
  count = columns_count front k n

  letter : (i : ℕ) → i < length columns → Letters (get_or columns i [])
  unfolding columns
  letter = columns_letters at front c

  text : List ℕ
  text = joined 9 columns

  line : List ℕ
  line = text ++ (ending_bytes e ++ [])

  input : List ℕ
  input = replicate at 0 ++ line

  line_there : drop at input ≡ line
  unfolding input
  line_there = drop_at (replicate at 0) line at (length-replicate {A = ℕ} at 0)

  ended : (f : Ending) → Ended text f []
  unfolding text
  ended nothing = by_nothing
  ended feed = by_feed (free_ends (joined 9 columns) (free_joined columns (λ z. omega arith) (λ i l. (letter i l).free 13 (λ z. omega arith))))
  ended return_feed = by_return_feed

  begins : Begins (drop at input) columns e []
  unfolding line text
  begins =
      rw line_there
      (record {
        shaped =
            record {
              count = rw count may;
              each = λ i l. record { some = (letter i l).some; no_tab = (letter i l).free 9 (λ z. omega arith); no_feed = (letter i l).free 10 (λ z. omega arith) };
              whole = refl;
              ended = ended e;
            };
        utf8 = utf8_all columns (λ i l. (letter i l).text);
      })

  input_length : length input ≡ at + length text + length (ending_bytes e)
  unfolding input line
  input_length =
      omega (arith, length-append (replicate at 0) (text ++ (ending_bytes e ++ [])), length-append text (ending_bytes e ++ []), length-append (ending_bytes e) [], length-replicate {A = ℕ} at 0)

  is_input : at + length text + length (ending_bytes e) ≤ 9223372036854775807 → Input input
  unfolding input line text columns
  is_input w =
      record {
        bytes = bytes_append (replicate at 0) (text ++ (ending_bytes e ++ [])) (bytes_replicate at 0 (omega arith)) (bytes_append text (ending_bytes e ++ []) (bytes_joined front) (bytes_append (ending_bytes e) [] (bytes_ending e) bytes_nil));
        room = (let l = input_length in (omega arith, omega arith));
      }

  makes : (places : List ℕ) → at + length text + length (ending_bytes e) ≤ 9223372036854775807 → field_places at columns (at + length text) ≡ places → Makes read_answer e places
  unfolding text
  makes places w p =
      record {
        input = input;
        at = at;
        next = at + length text + length (ending_bytes e);
        is_input = is_input w;
        answers = begins_answer input at (let z = begins_some begins in omega (arith, length-drop at input)) begins ∙ rw p;
      }

module _ {e : Ending} {places : List ℕ} (m : MadeForm e places) where
  full_made : chained places ≡ true → Makes read_answer e places
  unfolding chained text columns
  full_made c =
      let at : ℕ = get_or places 0 0 in
      let l : leading_places 9 at (columns_of places) ≡ places = columns_places 9 at places c (let n = m.ten in omega arith) in
      let n = columns_count places 10 m.ten in
      let z : end_at places 9 ≡ at + length (joined 9 (columns_of places)) = rw l at (leading_end 9 at (columns_of places) 9 (rw l m.ten)) in
      makes at places c 10 m.ten (inr (omega arith)) e places (let w = m.within in omega arith)
      (ten_fields_lem at (columns_of places) (at + length (joined 9 (columns_of places))) (omega arith) ∙ l)

  eight_made : chained (take 16 places) ≡ true → bare places ≡ true → Makes read_answer e places
  unfolding chained text columns
  eight_made c b =
      let front : List ℕ = take 16 places in
      let at : ℕ = get_or front 0 0 in
      let k : length front ≡ 16 = length-take-le 16 places (let n = m.ten in omega arith) in
      let l : leading_places 8 at (columns_of front) ≡ front = columns_places 8 at front c (omega arith) in
      let n = columns_count front 8 k in
      let z : end_at front 7 ≡ at + length (joined 9 (columns_of front)) = rw l at (leading_end 8 at (columns_of front) 7 (rw l k)) in
      let y : at + length (joined 9 (columns_of front)) ≡ end_at places 7 = sym z ∙ end_taken m 7 (omega arith) in
      let x = samples_end m b in
      makes at front c 8 k (inl refl) e places (let w = m.within in omega arith)
      (eight_fields at (columns_of front) (at + length (joined 9 (columns_of front))) n ∙ rw (l, y, ← bare_drop places b) (take-append-drop 16 places))

  pub form_makes : Makes read_answer e places
  form_makes = by m.fields
    where
      by : Fields places → Makes read_answer e places
      by (full c) = full_made c
      by (eight c b) = eight_made c b

-- ---- whatever line reader it is

-- all answer alike
same_answer : (read : Reader) → Line.Meets read → (s : List ℕ) (at : ℕ) → read s at ≡ read_answer s at
unfolding OneReader
same_answer read g = LineMeets.one_reader read read_answer g LineMeets.meets

pub makes_form : (read : Reader) → Line.Meets read → {e : Ending} {places : List ℕ} → Makes read e places → MadeForm e places
makes_form read g k = answered k.input k.at k.next _ _ k.is_input.room (sym (same_answer read g k.input k.at) ∙ k.answers)

pub form_of_lem : (read : Reader) → Line.Meets read → {e : Ending} {places : List ℕ} → MadeForm e places → Makes read e places
form_of_lem read g m =
    let k = form_makes m in
    record { input = k.input; at = k.at; next = k.next; is_input = k.is_input; answers = same_answer read g k.input k.at ∙ k.answers }

pub makable : Made
unfolding Made
makable read g e places = (λ h. form_of_lem read g (made_form e places h), λ k. form_made (makes_form read g k))
