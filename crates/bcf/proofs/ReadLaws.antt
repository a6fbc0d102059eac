-- Reading, over any width: the codes still to count stand for all of them, and what is left to store lies over what stands; then the answer,
-- of a width that is known and of one that is told. Assumes nothing.
use Prim.Native.Nat.{ℕ, ◌+◌, ◌-◌, ◌/◌, ◌%◌, ◌≤◌, ◌<◌, zero-le}
use mathlib.Core.Path.{◌≡◌, refl, sym, ap, ◌∙◌}
use mathlib.Core.Bool.{Bool, true, false, and-false}
use mathlib.Core.List.{List, [], ◌∷◌}
use native.Mathlib.Omega.{arith}
use native.Mathlib.Nat.{zero-add, mul-mod_left, div-add-mod'}
use native.Mathlib.Numerals.{add-one}
use lib.ListN.{length, get_or, drop, set, length-set, drop_of_length-le}
use lib.Dec.{ltb, eqb, leb}
use mir.Val.{bool_byte}
use mathlib.Core.Logic.{◌⊎◌, inl, inr}
use borrow.Author.Tests.{lt-ltb, le-ltb, eq-eqb, ne_eqb, le-leb, lt-leb}
use Rattle.std.specs.Prelude.{Result, Ok, Err}
use Rattle.text.specs.Pick.{pick, one_if}
use Rattle.text.specs.Same.{same}
use Rattle.text.specs.Answer.{Answer, says, number_of}
use Rattle.text.proofs.Lists.{here}
use Rattle.text.proofs.CopyLaws.{laid_refused}
use Rattle.text.proofs.SameLaws.{same_self}
use Rattle.allele.specs.Row.{numbers_of, missing_of, phased_of}
use Rattle.allele.specs.declared.allele.Allele.{Allele}
use Rattle.genotype.specs.Inner.{Room, Laid}
use Rattle.genotype.proofs.AnswerLaws.{row_even, row_uneven_nm, row_uneven_np}
use Rattle.genotype.proofs.LayLaws.{Column, column_first, column_turn, column_past, number, missing, phased}
use Rattle.bcf.specs.Layout.{size, padding, bytes_of}
use Rattle.bcf.specs.Reading.{negative, allele_by, entries_in, codes_in, only_padding, is_vector, readable, list_read, vector_answer, slices_answer, width_by, told_answer, told_list, ReadsAs, ReadsVector, ReadsTold}
use Rattle.bcf.specs.Inner.{Fillable}
use Rattle.bcf.specs.Paper.{read_paper}
use Rattle.bcf.specs.Demands.{Bytes, Whole}
use Rattle.bcf.specs.declared.width.Width.{Width}
use Rattle.bcf.specs.declared.width.Width.TheVariants.{W8, W16, W32}
use Rattle.bcf.specs.declared.read.ReadError.{ReadError}
use Rattle.bcf.specs.declared.read.ReadError.TheVariants as R
use Rattle.bcf.proofs.ReadingLaws.{codes_none, codes_more, codes_stop, codes_few, list_length, list_here}
use Rattle.bcf.proofs.CodeLaws.{byte_is}
use Rattle.bcf.proofs.EntryLaws.{whole}
use Rattle.bcf.proofs.PlaceLaws.{entries_length, entry_there}
use Rattle.bcf.proofs.LayoutLaws.{readable_lays, lays_length}

-- ---- the codes

-- n entries, of which those from b on are negative
pub record Counting (w : Width) (v : List ℕ) (n b i : ℕ) : Type 0 where
  pub all : n ≡ length v / size w
  pub bound : b ≡ negative w
  pub within : i ≤ n
  pub same : i + length (codes_in w (drop i (entries_in w v))) ≡ length (codes_in w (entries_in w v))

pub count_first : {w : Width} {v : List ℕ} {n b : ℕ} → n ≡ length v / size w → b ≡ negative w → Counting w v n b 0
count_first e f = record { all = e; bound = f; within = zero-le; same = zero-add _ }

module _ {w : Width} {v : List ℕ} {n b i : ℕ} (g : Counting w v n b i) where
  module _ (h : i < n) where
    pub count_within : i < length v / size w
    count_within = let a = g.all in omega arith

    module _ {x : ℕ} (e : x ≡ get_or (entries_in w v) i 0) where
      pub count_turn : x < b → Counting w v n b (i + 1)
      count_turn l =
          let f = g.bound in
          let d = ap (λ (s : List ℕ). length (codes_in w s)) (here (entries_in w v) i (entry_there w v g.all h)) ∙ ap length (codes_more w (get_or (entries_in w v) i 0) (drop (i + 1) (entries_in w v)) (omega arith)) in
          let s = g.same in
          record { all = g.all; bound = f; within = omega arith; same = omega arith }

      pub count_stop : b ≤ x → i ≡ length (codes_in w (entries_in w v))
      count_stop l =
          let f = g.bound in
          let d = ap (λ (s : List ℕ). length (codes_in w s)) (here (entries_in w v) i (entry_there w v g.all h)) ∙ ap length (codes_stop w (get_or (entries_in w v) i 0) (drop (i + 1) (entries_in w v)) (omega arith)) in
          let s = g.same in
          omega arith

  pub count_past : n ≤ i → i ≡ length (codes_in w (entries_in w v))
  count_past h =
      let a = g.all in
      let l = entries_length w v in
      let e = ap (λ (s : List ℕ). length (codes_in w s)) (drop_of_length-le (entries_in w v) {i = i} (omega arith)) ∙ ap length (codes_none w) in
      let s = g.same in
      omega arith

-- ---- the padding

-- n entries, of which those that are b are padding
pub record Padded (w : Width) (v : List ℕ) (n b from i : ℕ) : Type 0 where
  pub all : n ≡ length v / size w
  pub pads : b ≡ padding w
  pub within : i ≤ n
  pub same : only_padding w (drop i (entries_in w v)) ≡ only_padding w (drop from (entries_in w v))

pub pad_first : {w : Width} {v : List ℕ} {n b from : ℕ} → from ≤ length (entries_in w v) → n ≡ length v / size w → b ≡ padding w → Padded w v n b from from
pad_first {w} {v} h e f = record { all = e; pads = f; within = let l = entries_length w v in omega arith; same = refl }

module _ {w : Width} {v : List ℕ} {n b from i : ℕ} (g : Padded w v n b from i) where
  module _ (h : i < n) where
    pub pad_within : i < length v / size w
    pad_within = let a = g.all in omega arith

    module _ {x : ℕ} (e : x ≡ get_or (entries_in w v) i 0) where
      pub pad_turn : x ≡ b → Padded w v n b from (i + 1)
      unfolding only_padding
      pad_turn f =
          record {
            all = g.all;
            pads = g.pads;
            within = omega arith;
            same = rw (here (entries_in w v) i (entry_there w v g.all h), eq-eqb (get_or (entries_in w v) i 0) (padding w) (sym e ∙ f ∙ g.pads)) at g.same;
          }

      pub pad_stop : (x ≡ b → ⊥) → false ≡ only_padding w (drop from (entries_in w v))
      unfolding only_padding
      pad_stop f = rw (here (entries_in w v) i (entry_there w v g.all h), ne_eqb (get_or (entries_in w v) i 0) (padding w) (λ q. f (e ∙ q ∙ sym g.pads))) at g.same

  pub pad_past : n ≤ i → true ≡ only_padding w (drop from (entries_in w v))
  unfolding only_padding
  pad_past h =
      let a = g.all in
      let l = entries_length w v in
      rw (drop_of_length-le (entries_in w v) {i = i} (omega arith)) at g.same

-- ---- an entry

module _ (c : ℕ) where
  pub number_told : {x : ℕ} → x ≡ c / 2 - 1 → x ≡ (allele_by c).number
  unfolding allele_by
  number_told e = e

  pub missing_told : {x : ℕ} → x ≡ bool_byte (ltb c 2) → x ≡ one_if (allele_by c).missing
  unfolding allele_by
  missing_told e = e ∙ byte_is (ltb c 2)

  pub phased_told : {x : ℕ} → x ≡ bool_byte (eqb (c % 2) 1) → x ≡ one_if (allele_by c).phased
  unfolding allele_by
  phased_told e = e ∙ byte_is (eqb (c % 2) 1)

-- ---- filling

pub record Filling (w : Width) (v n₀ m₀ p₀ n m p : List ℕ) (count k : ℕ) : Type 0 where
  pub within : k ≤ count
  pub all : count ≡ length (codes_in w (entries_in w v))
  pub room : Room count n₀ m₀ p₀
  pub len_n : length n ≡ length n₀
  pub len_m : length m ≡ length m₀
  pub len_p : length p ≡ length p₀
  pub numbers : Column number (list_read w v) (drop k (list_read w v)) n₀ n k
  pub missings : Column missing (list_read w v) (drop k (list_read w v)) m₀ m k
  pub phases : Column phased (list_read w v) (drop k (list_read w v)) p₀ p k

pub fill_first : {w : Width} {v n m p : List ℕ} {count : ℕ} → Fillable w (entries_in w v) count n m p → Filling w v n m p n m p count 0
fill_first f =
    record {
      within = zero-le;
      all = f.count;
      room = f.room;
      len_n = refl;
      len_m = refl;
      len_p = refl;
      numbers = column_first _ _ _;
      missings = column_first _ _ _;
      phases = column_first _ _ _;
    }

module _ {w : Width} {v n₀ m₀ p₀ n m p : List ℕ} {count k : ℕ} (g : Filling w v n₀ m₀ p₀ n m p count k) where
  module _ (h : k < count) where
    pub fill_within : k < length v / size w
    fill_within = let a = g.all in let f = codes_few w (entries_in w v) in let l = entries_length w v in omega arith

    pub fill_n : k < length n
    fill_n = let r = g.room.numbers in let e = g.len_n in omega arith

    pub fill_m : k < length m
    fill_m = let r = g.room.missing in let e = g.len_m in omega arith

    pub fill_p : k < length p
    fill_p = let r = g.room.phased in let e = g.len_p in omega arith

    pub fill_turn : {d x y z : ℕ} → d ≡ get_or (entries_in w v) k 0 → x ≡ (allele_by d).number → y ≡ one_if (allele_by d).missing → z ≡ one_if (allele_by d).phased
        → Filling w v n₀ m₀ p₀ (set n k x) (set m k y) (set p k z) count (k + 1)
    unfolding list_read
    fill_turn {d} i a b c =
        let q = g.all in
        let e : drop k (list_read w v) ≡ allele_by d ∷ drop (k + 1) (list_read w v) = rw (i, add-one) (list_here w (entries_in w v) k (omega arith)) in
        rw (a, b, c)
        (record {
          within = omega arith;
          all = g.all;
          room = g.room;
          len_n = simp length-set g.len_n;
          len_m = simp length-set g.len_m;
          len_p = simp length-set g.len_p;
          numbers = column_turn (rw e at g.numbers);
          missings = column_turn (rw e at g.missings);
          phases = column_turn (rw e at g.phases);
        })

  pub fill_len_n : length n ≡ length n₀
  fill_len_n = g.len_n

  pub fill_len_m : length m ≡ length m₀
  fill_len_m = g.len_m

  pub fill_len_p : length p ≡ length p₀
  fill_len_p = g.len_p

  pub fill_past : count ≤ k → Laid (list_read w v) n₀ m₀ p₀ n m p
  unfolding numbers_of missing_of phased_of list_read
  fill_past h =
      let d = list_length w (entries_in w v) in
      let a = g.all in
      let r = g.room in
      let e : drop k (list_read w v) ≡ [] = drop_of_length-le (list_read w v) {i = k} (omega arith) in
      record {
        numbers = column_past (rw e at g.numbers) (omega arith);
        missing = column_past (rw e at g.missings) (omega arith);
        phased = column_past (rw e at g.phases) (omega arith);
      }

-- ---- the answer

module _ (w : Width) (v : List ℕ) where
  readable_left : (length v % size w ≡ 0 → ⊥) → readable w v ≡ false
  readable_left h = by (readable w v) refl
    where
      by : (t : Bool) → readable w v ≡ t → readable w v ≡ false
      by true e = absurd (h (rw (lays_length (readable_lays w v e)) (mul-mod_left (length (entries_in w v)) (size w))))
      by false e = e

  readable_none : is_vector w (entries_in w v) ≡ false → readable w v ≡ false
  unfolding readable
  readable_none e = rw e (and-false (same (bytes_of w (entries_in w v)) v))

  readable_whole : Bytes v → length v % size w ≡ 0 → readable w v ≡ is_vector w (entries_in w v)
  unfolding readable Whole
  readable_whole b e = let d = div-add-mod' (length v) (size w) in rw (whole w (length v / size w) v b (omega arith), same_self v)

-- a refusal is given where it is due, and nothing is laid
read_refused : {a : Answer} {as' : List Allele} {n m p : List ℕ} {r : Result ℕ ReadError} → a ≡ read_paper r → (number_of (read_paper r) ≡ 0 → ⊥) → ReadsAs a as' n m p r n m p
read_refused {as' = as'} {n = n} {m = m} {p = p} {r = r} e z =
    record {
      answer = sym e;
      numbers = rw e (sym (laid_refused (read_paper r) (numbers_of as') n z));
      missing = rw e (sym (laid_refused (read_paper r) (missing_of as') m z));
      phased = rw e (sym (laid_refused (read_paper r) (phased_of as') p z));
    }

module _ (w : Width) (v n m p : List ℕ) where
  pub read_uneven : (length n ≡ length m → ⊥) ⊎ (length n ≡ length p → ⊥) → ReadsVector w v n m p (Err R.Lengths) n m p
  unfolding read_paper
  read_uneven (inl h) = read_refused (row_uneven_nm n m p _ h) (λ z. omega arith)
  read_uneven (inr h) = read_refused (row_uneven_np n m p _ h) (λ z. omega arith)

  module _ (e : length n ≡ length m) (f : length n ≡ length p) where
    bad : readable w v ≡ false → ReadsVector w v n m p (Err R.Bad) n m p
    unfolding read_paper vector_answer
    bad h = read_refused (row_even n m p _ e f ∙ rw h) (λ z. omega arith)

    pub read_left : {x : ℕ} → x ≡ length v % size w → (x ≡ 0 → ⊥) → ReadsVector w v n m p (Err R.Bad) n m p
    read_left i h = bad (readable_left w v (λ z. h (i ∙ z)))

    module _ {c : ℕ} (q : c ≡ length (codes_in w (entries_in w v))) where
      pub read_none : c ≡ 0 → ReadsVector w v n m p (Err R.Bad) n m p
      unfolding is_vector
      read_none h = bad (readable_none w v (rw (le-ltb 0 (length (codes_in w (entries_in w v))) (omega arith))))

      pub read_within : c ≤ length (entries_in w v)
      read_within = let h = codes_few w (entries_in w v) in omega arith

      module _ (k : c ≡ 0 → ⊥) {r : Bool} (x : r ≡ only_padding w (drop c (entries_in w v))) where
        is : is_vector w (entries_in w v) ≡ r
        unfolding is_vector
        is = rw (lt-ltb 0 (length (codes_in w (entries_in w v))) (omega arith), ← q, ← x)

        pub read_more : r ≡ false → ReadsVector w v n m p (Err R.Bad) n m p
        read_more y = bad (readable_none w v (is ∙ y))

        module _ (y : r ≡ true) {d : ℕ} (i : d ≡ length v % size w) (o : d ≡ 0) (b : Bytes v) where
          vector : slices_answer w v n m p ≡ pick (leb c (length n)) (says 0 (c ∷ [])) (says 17 [])
          unfolding vector_answer list_read
          vector = row_even n m p _ e f ∙ rw (readable_whole w v b (sym i ∙ o), is, y, list_length w (entries_in w v), ← q)

          pub read_short : length n < c → ReadsVector w v n m p (Err R.Short) n m p
          unfolding read_paper
          read_short h = read_refused (vector ∙ rw (lt-leb c (length n) h)) (λ z. omega arith)

          pub read_done : c ≤ length n → {n' m' p' : List ℕ} → Laid (list_read w v) n m p n' m' p' → ReadsVector w v n m p (Ok c) n' m' p'
          unfolding read_paper
          read_done h l =
              let a : slices_answer w v n m p ≡ says 0 (c ∷ []) = vector ∙ rw (le-leb c (length n) h) in
              record { answer = sym a; numbers = rw a l.numbers; missing = rw a l.missing; phased = rw a l.phased }

      pub read_room : c ≤ length n → Fillable w (entries_in w v) c n m p
      read_room h = record { count = q; room = record { numbers = h; missing = omega arith; phased = omega arith } }

-- ---- told the width

module _ (b : ℕ) (v n m p : List ℕ) where
  module _ {r : Result ℕ ReadError} {n' m' p' : List ℕ} where
    pub told_1 : b ≡ 1 → ReadsVector W8 v n m p r n' m' p' → ReadsTold b v n m p r n' m' p'
    unfolding width_by told_answer told_list
    told_1 e g = rw e g

    pub told_2 : b ≡ 2 → ReadsVector W16 v n m p r n' m' p' → ReadsTold b v n m p r n' m' p'
    unfolding width_by told_answer told_list
    told_2 e g = rw e g

    pub told_4 : b ≡ 4 → ReadsVector W32 v n m p r n' m' p' → ReadsTold b v n m p r n' m' p'
    unfolding width_by told_answer told_list
    told_4 e g = rw e g

  pub told_other : (b ≡ 1 → ⊥) → (b ≡ 2 → ⊥) → (b ≡ 4 → ⊥) → ReadsTold b v n m p (Err R.Unknown) n m p
  unfolding width_by told_answer read_paper
  told_other x y z = read_refused (rw (ne_eqb b 1 x, ne_eqb b 2 y, ne_eqb b 4 z)) (λ q. omega arith)

pub ruleset laws = (count_first, count_within, count_turn, count_stop, count_past, pad_first, pad_within, pad_turn, pad_stop, pad_past, number_told, missing_told, phased_told, fill_first, fill_within, fill_n, fill_m, fill_p, fill_turn, fill_len_n, fill_len_m, fill_len_p, fill_past, read_uneven, read_left, read_none, read_within, read_more, read_short, read_room, read_done, told_1, told_2, told_4, told_other)
