-- The layout over any width: a vector lays out at most one list, a list and a length have at most one vector, and reading finds exactly what
-- is laid out. Assumes nothing.
use Prim.Native.Nat.{ℕ, ◌*◌, ◌/◌, ◌≤◌}
use mathlib.Core.Path.{◌≡◌, refl, sym, ap, ◌∙◌, subst}
use mathlib.Core.Bool.{Bool, true, false, and-eq-true_iff}
use mathlib.Core.List.{List, [], ◌∷◌, map}
use native.Mathlib.Omega.{arith}
use lib.ListN.{length, drop}
use lib.Dec.{eqb, ltb}
use borrow.Author.Tests.{lt-ltb, eq-eqb, ltb-true, ltb-false, eqb-true}
use Rattle.text.specs.Same.{same}
use Rattle.text.proofs.SameLaws.{same_self, same_is}
use Rattle.allele.specs.declared.allele.Allele.{Allele}
use Rattle.bcf.specs.Layout.{size, padding, code_of, bytes_of, Coded, end, pad, code, Lays}
use Rattle.bcf.specs.declared.width.Width.{Width}
use Rattle.bcf.specs.Reading.{negative, allele_by, entries_in, codes_in, list_in, only_padding, is_vector, readable, list_read}
use Rattle.bcf.specs.Demands.{OneList, OneVector}
use Rattle.bcf.proofs.CodeLaws.{padding_is, negative_fits, back, code_small, allele_codable, forth}
use Rattle.bcf.proofs.ReadingLaws.{codes_none, codes_more, codes_stop, list_length}
use Rattle.bcf.proofs.EntryLaws.{Fit, none, more, bytes_length, count_is, entries_are}

-- ---- entries that are coded

negative_padding : (w : Width) → negative w ≤ padding w
negative_padding w = let p = padding_is w in omega arith

pub coded_fit : {w : Width} {as' : List Allele} {es : List ℕ} → Coded w as' es → Fit w es
coded_fit end = none
coded_fit {w} (pad c) = more {e = padding w} (let p = padding_is w in let f = negative_fits w in omega arith) (coded_fit c)
coded_fit {w} (code {a = a} g c) = more {e = code_of a} (let p = code_small w a g in let f = negative_fits w in omega arith) (coded_fit c)

-- a list and a length have one row of entries
coded_one : {w : Width} {as' : List Allele} {es fs : List ℕ} → Coded w as' es → Coded w as' fs → length es ≡ length fs → es ≡ fs
coded_one end end e = refl
coded_one end (pad d) e = absurd (omega arith)
coded_one (pad c) end e = absurd (omega arith)
coded_one {w} (pad c) (pad d) e = ap (λ (l : List ℕ). padding w ∷ l) (coded_one c d (omega arith))
coded_one (code {a = a} g c) (code h d) e = ap (λ (l : List ℕ). code_of a ∷ l) (coded_one c d (omega arith))

-- and entries are those of one list
coded_list : {w : Width} {as' : List Allele} {es : List ℕ} → Coded w as' es → list_in w es ≡ as'
unfolding list_in
coded_list {w} end = rw (codes_none w)
coded_list {w} (pad {es = es} c) = rw (codes_stop w (padding w) es (negative_padding w))
coded_list {w} (code {a = a} {es = es} g c) = rw (codes_more w (code_of a) es (code_small w a g), back w a g) (ap (λ (l : List Allele). a ∷ l) (coded_list c))

-- ---- a vector lays out one list, and a list has one vector of a length

module _ {w : Width} {as' : List Allele} {n : ℕ} {v : List ℕ} (l : Lays w as' n v) where
  pub lays_length : length v ≡ n * size w
  lays_length = ap length l.bytes ∙ bytes_length w l.entries ∙ ap (λ (k : ℕ). k * size w) l.count

  pub lays_count : n ≡ length v / size w
  lays_count = rw lays_length (sym (count_is w n))

  pub lays_entries : entries_in w v ≡ l.entries
  lays_entries = rw l.bytes (entries_are w l.entries (coded_fit l.coded))

  pub lays_read : list_read w v ≡ as'
  unfolding list_read
  lays_read = rw lays_entries (coded_list l.coded)

pub one_list : OneList
unfolding OneList
one_list w as' bs m n v l k = (sym (lays_read l) ∙ lays_read k, lays_count l ∙ sym (lays_count k))

pub one_vector : OneVector
unfolding OneVector
one_vector w as' n u v l k = (l.bytes ∙ ap (bytes_of w) (coded_one l.coded k.coded (l.count ∙ sym k.count)) ∙ sym k.bytes, lays_length l)

-- ---- what is laid out is readable

padding_only : {w : Width} {es : List ℕ} → Coded w [] es → only_padding w es ≡ true
unfolding only_padding
padding_only end = refl
padding_only {w} (pad c) = rw (eq-eqb (padding w) (padding w) refl) (padding_only c)

coded_padded : {w : Width} {as' : List Allele} {es : List ℕ} → Coded w as' es → only_padding w (drop (length (codes_in w es)) es) ≡ true
coded_padded {w} end = rw (codes_none w) (padding_only {w = w} end)
coded_padded {w} (pad {es = es} c) = rw (codes_stop w (padding w) es (negative_padding w)) (padding_only (pad c))
coded_padded {w} (code {a = a} {es = es} g c) = rw (codes_more w (code_of a) es (code_small w a g)) (coded_padded c)

pub lays_readable : {w : Width} {as' : List Allele} {n : ℕ} {v : List ℕ} → Lays w as' n v → readable w v ≡ true
unfolding readable is_vector
lays_readable {w} {v = v} l =
    let e = ap length (coded_list l.coded) in
    let f = list_length w l.entries in
    let s = l.some in
    rw
    (lays_entries l, ← l.bytes, same_self v, lt-ltb 0 (length (codes_in w l.entries)) (omega arith))
    (coded_padded l.coded)

-- ---- what is readable is laid out

only_padding_lem : (w : Width) (es : List ℕ) → only_padding w es ≡ true → Coded w [] es
unfolding only_padding
only_padding_lem w [] h = end
only_padding_lem w (e ∷ es) h =
    let b = (and-eq-true_iff (eqb e (padding w)) (only_padding w es)).0 h in
    rw (eqb-true e (padding w) b.0) (pad (only_padding_lem w es b.1))

padded_coded : (w : Width) (es : List ℕ) → only_padding w (drop (length (codes_in w es)) es) ≡ true → Coded w (list_in w es) es
unfolding list_in
padded_coded w [] h = rw (codes_none w) end
padded_coded w (e ∷ es) h = by (ltb e (negative w)) refl (λ k. padded_coded w es k)
  where
    by : (t : Bool) → ltb e (negative w) ≡ t → (only_padding w (drop (length (codes_in w es)) es) ≡ true → Coded w (map allele_by (codes_in w es)) es)
        → Coded w (map allele_by (codes_in w (e ∷ es))) (e ∷ es)
    by true f r =
        let l = ltb-true e (negative w) f in
        rw (codes_more w e es l)
        (subst (λ (c : ℕ). Coded w (allele_by e ∷ map allele_by (codes_in w es)) (c ∷ es)) (forth e) (code (allele_codable w e l) (r (rw (codes_more w e es l) at h))))
    by false f r = let l = ltb-false e (negative w) f in rw (codes_stop w e es l) (only_padding_lem w (e ∷ es) (rw (codes_stop w e es l) at h))

pub vector_coded : (w : Width) (es : List ℕ) → is_vector w es ≡ true → Coded w (list_in w es) es
unfolding is_vector
vector_coded w es h = padded_coded w es ((and-eq-true_iff (ltb 0 (length (codes_in w es))) _).0 h).1

pub readable_lays : (w : Width) (v : List ℕ) → readable w v ≡ true → Lays w (list_read w v) (length (entries_in w v)) v
unfolding readable list_read is_vector
readable_lays w v h =
    let b = (and-eq-true_iff (same (bytes_of w (entries_in w v)) v) (is_vector w (entries_in w v))).0 h in
    let c = ltb-true 0 (length (codes_in w (entries_in w v))) ((and-eq-true_iff _ (only_padding w (drop (length (codes_in w (entries_in w v))) (entries_in w v)))).0 b.1).0 in
    let l = list_length w (entries_in w v) in
    record {
      some = omega arith;
      entries = entries_in w v;
      count = refl;
      coded = vector_coded w (entries_in w v) b.1;
      bytes = sym (same_is _ _ b.0);
    }
