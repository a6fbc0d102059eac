-- Writing columns: what is written too much behind one is written over by those behind it. Assumes nothing.
use Prim.Native.Nat.{ℕ, ◌+◌, ◌-◌, ◌^◌, ◌<◌, ◌≤◌}
use mathlib.Core.Path.{◌≡◌, refl, sym, ap, ◌∙◌}
use mathlib.Core.Bool.{Bool, true, false, false≢true}
use mathlib.Core.List.{List, [], ◌∷◌, ◌++◌, append_assoc, append-nil}
use native.Mathlib.Omega.{arith}
use mir.Syntax.{w64}
use mir.Val.{Fits}
use lib.ListN.{length, get_or, take, drop, set, length-append, length-drop, length-set}
use lib.Seq.{length-take-le, take-add, take-take}
use lib.Dec.{leb}
use borrow.Author.Tests.{leb-true}
use borrow.Rule.Slice.PartMut.{put_mid}
use Rattle.std.specs.Prelude.{Result}
use Rattle.text.specs.Over.{over, over_at, Writes}
use Rattle.text.specs.declared.copy.NoRoom.{NoRoom}
use Rattle.text.proofs.CopyLaws.{writes_part}
use Rattle.text.proofs.Lists.{part_put, over_at_append, over_at_one, over_at_again, length_over, length_over_at}
use Rattle.pieces.specs.Pieces.{joined}
use Rattle.entries.specs.Entries.{rising, entry_list}
use Rattle.entries.specs.Inner.{start_of}
use Rattle.entries.proofs.EntryLaws.{start_first, start_later, rising_fits, rising_below, entry_cut}
use Rattle.entries.proofs.JoinedLaws.{list_length, Laying, lay_first, lay_count, lay_on, last_bytes}
use Rattle.join.specs.Inner.{Lies, Short, Puts}

-- ---- bytes copied to a part

part_is : (at k : ℕ) (vs l : List ℕ) {ys : List ℕ} → length vs ≡ k → ys ≡ vs → put_mid at (at + k - at) l ys ≡ over_at at vs l
part_is at k vs l {ys} n e = rw (← n) (part_put at vs l ys e)

-- what is copied to the part for it
copied_is : (at k : ℕ) {vs ys : List ℕ} {r : Result ℕ NoRoom} (l : List ℕ) → length vs ≡ k → at + k ≤ length l → Writes vs (take (at + k - at) (drop at l)) r ys → ys ≡ vs
copied_is at k {vs} {ys} l n h w = writes_part at l (rw n h) (let v : Writes vs (take (at + length vs - at) (drop at l)) _ ys = rw (← n) at w in v)

-- through a block of sixteen
pub sixteen_put : (s l : List ℕ) (at : ℕ) {z ys : List ℕ} → 16 ≤ length s → z ≡ take 16 s → ys ≡ z → put_mid at (at + 16 - at) l ys ≡ over_at at (take 16 s) l
sixteen_put s l at h e f = part_is at 16 (take 16 s) l (length-take-le 16 s h) (f ∙ e)

-- ---- a column

pub short_no : (n : ℕ) (s : List ℕ) → false ≡ true → Short n s
short_no n s z = absurd (false≢true z)

pub short_yes : (n : ℕ) (s : List ℕ) → n ≤ 16 → leb 16 (length s) ≡ true → Short n s
short_yes n s h e = record { few = h; long = leb-true 16 (length s) e }

-- bytes laid with others behind them
puts_more : (p more : List ℕ) {size at : ℕ} {l : List ℕ} → length more ≤ size → at + length (p ++ more) ≤ length l → Puts p size at l (over_at at (p ++ more) l)
puts_more p more {size} {at} {l} h m =
    let n = length-append p more in
    record {
      len = length_over_at at (p ++ more) l m;
      same = λ vs g.
          let k = length_over_at at p l (omega arith) in
          ap (over_at (at + length p) vs) (over_at_append at p more l (omega arith))
          ∙ over_at_again (at + length p) more vs (over_at at p l) (omega arith) (omega arith)
          ∙ sym (over_at_append at p vs l (omega arith));
    }

module _ {n : ℕ} {s : List ℕ} {at : ℕ} {l : List ℕ} (g : Lies n s at l) where
  part_length : length (take n s) ≡ n
  part_length = length-take-le n s g.within

  module _ {u : Bool} (f : u ≡ true → Short n s) (y : u ≡ true) where
    pub short_text : 16 ≤ length s
    short_text = (f y).long

    pub short_room : at + 16 ≤ length l
    short_room = let k = (f y).long in let w = g.room in omega arith

    pub short_puts : {l' : List ℕ} → l' ≡ over_at at (take 16 s) l → Puts (take n s) (length s - n) at l l'
    short_puts e =
        let v = (f y).few in
        let k = (f y).long in
        let m : n + (16 - n) ≡ 16 = omega arith in
        let a = rw m at (take-add n (16 - n) s) in
        let b = length-take-le 16 s k in
        let c = part_length in
        let d : length (take (16 - n) (drop n s)) ≤ length s - n = omega (arith, simp length-append at (ap length a)) in
        rw (e, a) (puts_more (take n s) (take (16 - n) (drop n s)) d (rw (← a) (omega (arith, short_room))))

  pub part_copied : {ys : List ℕ} {r : Result ℕ NoRoom} → Writes (take n s) (take (at + n - at) (drop at l)) r ys → ys ≡ take n s
  part_copied {ys} w = let m = g.room in copied_is at n l part_length (omega arith) w

  module _ {ys : List ℕ} (w : ys ≡ take n s) where
    copied : put_mid at (at + n - at) l ys ≡ over_at at (take n s ++ []) l
    copied = rw append-nil (part_is at n (take n s) l part_length w)

    pub copy_puts : Puts (take n s) (length s - n) at l (put_mid at (at + n - at) l ys)
    copy_puts =
        let c = part_length in
        let b = g.within in
        let m = g.room in
        rw copied (puts_more (take n s) [] (omega arith) (rw append-nil (omega arith)))

  -- and a tab behind it
  module _ {l' : List ℕ} (p : Puts (take n s) (length s - n) at l l') where
    pub tab_room : at + n < length l'
    tab_room = let k = p.len in let b = g.within in let m = g.room in omega arith

    pub tab_puts : Puts (take n s ++ 9 ∷ []) (length s - n) at l (set l' (at + n) 9)
    tab_puts =
        let c = part_length in
        let m = length-append (take n s) (9 ∷ []) in
        let k : at + length (take n s ++ 9 ∷ []) ≡ at + n + 1 = omega arith in
        let q : at + length (take n s) ≡ at + n = omega arith in
        record {
          len = simp length-set p.len;
          same = λ vs h.
              rw (k, append_assoc, ← over_at_one l' (at + n) 9 tab_room, ← over_at_append (at + n) (9 ∷ []) vs l' (omega (arith, tab_room)))
              (rw q at (p.same (9 ∷ vs) (omega arith)));
        }

pub ruleset part_laws = (sixteen_put, short_no, short_yes, short_text, short_room, short_puts, part_copied, copy_puts, tab_room, tab_puts)

-- ---- all columns

-- the columns from i on are laid as those still to write; the next starts here
pub record Putting (t ends l₀ l : List ℕ) (start at i : ℕ) : Type 0 where
  pub lay : Laying 9 t ends l₀ l i at
  pub from : start ≡ start_of ends i
  pub place : at ≡ start + i

pub put_first : {t ends l : List ℕ} → rising 0 ends (length t) ≡ true → 0 < length ends → length (joined 9 (entry_list t ends)) ≤ length l → Putting t ends l l 0 0 0
put_first {ends = ends} r h m = record { lay = lay_first r (λ z. omega arith) m; from = start_first ends 0 refl; place = refl }

module _ {t ends l₀ l : List ℕ} {start at i : ℕ} (g : Putting t ends l₀ l start at i) {last : ℕ} (q : last ≡ start_of ends (length ends)) where
  put_size : at + (last - start) ≡ last + i
  put_size =
      let r = g.lay.rises in
      let f = rising_fits ends (length t) i r g.lay.within in
      let b = rising_below ends (length t) i r g.lay.within in
      let s = g.from in
      let p = g.place in
      omega arith

  -- the text up to the last end, and a tab for each column but one
  put_whole : length (joined 9 (entry_list t ends)) ≡ last + (length ends - 1)
  put_whole =
      let w = g.lay.within in
      let n = list_length 9 t ends g.lay.rises (λ z. omega arith) in
      let e = start_later ends (length ends) (λ z. omega arith) in
      omega arith

  pub put_up : start ≤ last
  put_up =
      let r = g.lay.rises in
      let f = rising_fits ends (length t) i r g.lay.within in
      let b = rising_below ends (length t) i r g.lay.within in
      let s = g.from in
      omega arith

  pub put_within : last ≤ length t
  put_within =
      let w = g.lay.within in
      let f = rising_fits ends (length t) (length ends - 1) g.lay.rises (omega arith) in
      let e = start_later ends (length ends) (λ z. omega arith) in
      omega arith

  -- as many bytes are left
  left_length : length (take (last - start) (drop start t)) ≡ last - start
  left_length =
      let d = length-drop start t in
      let u = put_up in
      let v = put_within in
      length-take-le (last - start) (drop start t) (omega arith)

  -- a column before others
  module _ (h : i < length ends - 1) where
    pub column_up : start ≤ get_or ends i 0
    column_up =
        let f = rising_fits ends (length t) i g.lay.rises g.lay.within in
        let s = g.from in
        omega arith

    column_below : get_or ends i 0 ≤ last
    column_below = let b = rising_below ends (length t) i g.lay.rises g.lay.within in omega arith

    pub put_lies : Lies (get_or ends i 0 - start) (take (last - start) (drop start t)) at l
    put_lies =
        let a = left_length in
        let u = column_up in
        let b = column_below in
        let n = put_size in
        let m = put_whole in
        let k = g.lay.room in
        let c = g.lay.len in
        record { within = omega arith; room = omega arith }

    pub put_turn : {l' : List ℕ} {at' : ℕ} → at' ≡ at + (get_or ends i 0 - start) + 1
        → Puts (take (get_or ends i 0 - start) (take (last - start) (drop start t)) ++ 9 ∷ []) (length (take (last - start) (drop start t)) - (get_or ends i 0 - start)) at l l'
        → Putting t ends l₀ l' (get_or ends i 0) at' (i + 1)
    put_turn {l'} {at'} y p =
        let c = part_length put_lies in
        let n = length-append (take (get_or ends i 0 - start) (take (last - start) (drop start t))) (9 ∷ []) in
        let v : at + length (take (get_or ends i 0 - start) (take (last - start) (drop start t)) ++ 9 ∷ []) ≡ at' = omega arith in
        let z : i + 1 - 1 ≡ i = omega arith in
        let u = column_up in
        let k = g.place in
        record {
          lay = lay_on g.lay column h (omega arith) p.len (rw (← v) (p.same _ rest ∙ rw append_assoc));
          from = rw z at (start_later ends (i + 1) (λ x. omega arith));
          place = omega arith;
        }
      where
        column : take (get_or ends i 0 - start) (take (last - start) (drop start t)) ≡ get_or (entry_list t ends) i []
        column =
            let b = column_below in
            take-take (get_or ends i 0 - start) (last - start) (drop start t) (omega arith) ∙ rw g.from (entry_cut t ends i g.lay.within)

        rest : length (take (last - start) (drop start t)) - (get_or ends i 0 - start) ≤ length (joined 9 (drop (i + 1) (entry_list t ends)))
        rest =
            let a = left_length in
            let n = lay_count g.lay column h in
            let m = put_whole in
            let c = part_length put_lies in
            let u = column_up in
            let k = g.place in
            omega arith

  -- the last
  pub put_room : at + (last - start) ≤ length l
  put_room =
      let n = put_size in
      let m = put_whole in
      let k = g.lay.room in
      let c = g.lay.len in
      let w = g.lay.within in
      omega arith

  pub put_sum : length l < 2 ^ 64 → Fits w64 (at + (last - start))
  put_sum z = let m = put_room in record { fits = omega arith }

  module _ (h : length ends - 1 ≤ i) where
    last_column : take (last - start) (drop start t) ≡ get_or (entry_list t ends) (length ends - 1) []
    last_column =
        let w = g.lay.within in
        let z : length ends - 1 ≡ i = omega arith in
        let e = rw z at (start_later ends (length ends) (λ z. omega arith)) in
        rw (z, q, ← e, g.from) (entry_cut t ends i w)

    pub last_copied : {ys : List ℕ} {r : Result ℕ NoRoom} → Writes (take (last - start) (drop start t)) (take (at + (last - start) - at) (drop at l)) r ys
        → ys ≡ take (last - start) (drop start t)
    last_copied w = copied_is at (last - start) l left_length put_room w

    pub put_last : {ys : List ℕ} → ys ≡ take (last - start) (drop start t) → put_mid at (at + (last - start) - at) l ys ≡ over (joined 9 (entry_list t ends)) l₀
    put_last w = rw left_length at (last_bytes g.lay last_column h w)

    pub put_length : {ys : List ℕ} → ys ≡ take (last - start) (drop start t) → length (put_mid at (at + (last - start) - at) l ys) ≡ length l₀
    put_length w = ap length (put_last w) ∙ length_over (joined 9 (entry_list t ends)) l₀ g.lay.room

pub ruleset put_laws = (put_first, column_up, put_lies, put_turn, put_up, put_within, put_room, put_sum, last_copied, put_last, put_length)
