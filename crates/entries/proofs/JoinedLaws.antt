-- Entries joined: each with a separator behind it, and the last; those still to write stand for all of them. Assumes nothing.
use Prim.Native.Nat.{ℕ, ◌+◌, ◌-◌, ◌<◌, ◌≤◌}
use mathlib.Core.Path.{◌≡◌, refl, sym, ap, ◌∙◌}
use mathlib.Core.Bool.{Bool, true, false}
use mathlib.Core.List.{List, [], ◌∷◌, ◌++◌, flatten, append_assoc, append-nil}
use native.Mathlib.Omega.{arith}
use native.Mathlib.Nat.{zero-add}
use native.Mathlib.Decide.{dec_le}
use lib.ListN.{length, get_or, take, drop, set, length-append}
use lib.Dec.{leb}
use denote.Ref.{Bor}
use lib.Seq.{length-take-le}
use borrow.Author.Tests.{le-leb, lt-leb, leb-true, leb-false}
use borrow.Rule.Slice.PartMut.{put_mid}
use Rattle.std.specs.Prelude.{Result, Ok, Err}
use Rattle.text.specs.Over.{over, over_at, room_answer, laid, Writes}
use Rattle.text.specs.declared.copy.NoRoom.{NoRoom}
use Rattle.text.proofs.CopyLaws.{room_fits, room_lacks, copy_short, copy_done, writes_part}
use Rattle.text.proofs.WrittenLaws.{Wrote, Lacked, writes_done, writes_short}
use Rattle.text.proofs.Lists.{part_put, over_nil, over_append, over_at_append, over_at_one, length_over_at}
use Rattle.pieces.specs.Pieces.{joined}
use Rattle.pieces.proofs.PieceLaws.{joined_one, joined_more}
use Rattle.entries.specs.Entries.{rising, entry_list}
use Rattle.entries.specs.Inner.{start_of, joined_answer, JoinsList}
use Rattle.entries.specs.Paper.{joined_paper}
use Rattle.entries.specs.Promises.{MakesList, PutsList, entries_of}
use Rattle.entries.specs.declared.list.Entries.{Entries}
use Rattle.entries.specs.declared.entries.WrongEnds.{WrongEnds}
use Rattle.entries.specs.declared.joined.JoinError.{JoinError}
use Rattle.entries.specs.declared.joined.JoinError.TheVariants as J
use Rattle.entries.proofs.PaperLaws.{joined_paper_injective}
use Rattle.entries.proofs.EntryLaws.{start_later, rising_fits, entries_length, entries_text, entry_here, entry_past}

-- ---- what is joined

joined_length : (b : ℕ) (ps : List (List ℕ)) → 0 < length ps → length (joined b ps) + 1 ≡ length (flatten ps) + length ps
unfolding flatten
joined_length b [] h = absurd (omega arith)
joined_length b (p ∷ []) h = rw (joined_one, append-nil)
joined_length b (p ∷ q ∷ ps) h =
    rw joined_more (simp length-append (omega (arith, simp length-append at (joined_length b (q ∷ ps) (omega arith)))))

module _ (b : ℕ) (t ends : List ℕ) (r : rising 0 ends (length t) ≡ true) (h : length ends ≡ 0 → ⊥) where
  -- as long as the text up to the last end, and a byte between each two
  pub list_length : length (joined b (entry_list t ends)) ≡ get_or ends (length ends - 1) 0 + (length ends - 1)
  list_length =
      let n = entries_length t ends in
      let w = rising_fits ends (length t) (length ends - 1) r (omega arith) in
      let e = start_later ends (length ends) h in
      let k : length (flatten (entry_list t ends)) ≡ start_of ends (length ends) =
      ap length (entries_text t ends r) ∙ length-take-le (start_of ends (length ends)) t (omega arith) in
      let m = joined_length b (entry_list t ends) (omega arith) in
      omega arith

  module _ (room : ℕ) where
    pub fits_no_end : room < get_or ends (length ends - 1) 0 → leb (get_or ends (length ends - 1) 0) room ≡ leb (length (joined b (entry_list t ends))) room
    fits_no_end l = let n = list_length in lt-leb _ _ l ∙ sym (lt-leb (length (joined b (entry_list t ends))) room (omega arith))

    pub fits_rest : get_or ends (length ends - 1) 0 ≤ room → leb (length ends - 1) (room - get_or ends (length ends - 1) 0) ≡ leb (length (joined b (entry_list t ends))) room
    fits_rest l = by (leb (length ends - 1) (room - get_or ends (length ends - 1) 0)) refl
      where
        by : (c : Bool) → leb (length ends - 1) (room - get_or ends (length ends - 1) 0) ≡ c → c ≡ leb (length (joined b (entry_list t ends))) room
        by true e =
            let n = list_length in
            let z : length ends - 1 ≤ room - get_or ends (length ends - 1) 0 = leb-true _ _ e in
            sym (le-leb (length (joined b (entry_list t ends))) room (omega arith))
        by false e =
            let n = list_length in
            let z : room - get_or ends (length ends - 1) 0 < length ends - 1 = leb-false _ _ e in
            sym (lt-leb (length (joined b (entry_list t ends))) room (omega arith))

module _ (b : ℕ) (t ends : List ℕ) (h : length ends ≡ 0) where
  list_none : joined b (entry_list t ends) ≡ []
  unfolding joined
  list_none = by (entry_list t ends) (entries_length t ends)
    where
      by : (ps : List (List ℕ)) → length ps ≡ length ends → joined b ps ≡ []
      by [] e = refl
      by (p ∷ ps) e = absurd (omega arith)

  pub fits_none : (room : ℕ) → true ≡ leb (length (joined b (entry_list t ends))) room
  fits_none room = rw list_none (sym (le-leb 0 room (omega arith)))

  pub none_count : 0 ≡ length (joined b (entry_list t ends))
  none_count = rw list_none

  pub none_bytes : (l : List ℕ) → l ≡ over (joined b (entry_list t ends)) l
  none_bytes l = rw list_none (sym (over_nil l))

-- ---- an entry, and a separator behind it

-- what is copied to the part for it
pub put_copied : {p ys : List ℕ} {r : Result ℕ NoRoom} (l : List ℕ) (at : ℕ) → at + length p < length l → Writes p (take (at + length p - at) (drop at l)) r ys → ys ≡ p
put_copied l at h w = writes_part at l (omega arith) w

module _ (b : ℕ) (p l : List ℕ) (at : ℕ) {ys : List ℕ} (h : at + length p < length l) (w : ys ≡ p) where
  pub put_bytes : set (put_mid at (at + length p - at) l ys) (at + length p) b ≡ over_at at (p ++ b ∷ []) l
  put_bytes =
      let n = length_over_at at p l (omega arith) in
      rw (part_put at p l ys w, over_at_append at p (b ∷ []) l (omega arith), over_at_one (over_at at p l) (at + length p) b (omega arith))

-- ---- writing

-- the entries from i on, joined and laid from `at` on, leave in l what all leave at the start of l₀; the last is still to write
pub record Laying (b : ℕ) (t ends l₀ l : List ℕ) (i at : ℕ) : Type 0 where
  pub rises : rising 0 ends (length t) ≡ true
  pub within : i < length ends
  pub len : length l ≡ length l₀
  pub room : length (joined b (entry_list t ends)) ≤ length l₀
  pub count : at + length (joined b (drop i (entry_list t ends))) ≡ length (joined b (entry_list t ends))
  pub same : over_at at (joined b (drop i (entry_list t ends))) l ≡ over (joined b (entry_list t ends)) l₀

pub lay_first : {b : ℕ} {t ends l : List ℕ} → rising 0 ends (length t) ≡ true → (length ends ≡ 0 → ⊥) → length (joined b (entry_list t ends)) ≤ length l → Laying b t ends l l 0 0
lay_first {b} {t} {ends} {l} r h m =
    record { rises = r; within = omega arith; len = refl; room = m; count = zero-add _; same = rw over_nil at (sym (over_append [] (joined b (entry_list t ends)) l (omega arith))) }

module _ {b : ℕ} {t ends l₀ l : List ℕ} {i at : ℕ} (g : Laying b t ends l₀ l i at) {p : List ℕ} (e : p ≡ get_or (entry_list t ends) i []) where
  -- an entry before others
  module _ (h : i < length ends - 1) where
    lay_here : joined b (drop i (entry_list t ends)) ≡ p ++ b ∷ joined b (drop (i + 1) (entry_list t ends))
    lay_here = rw (entry_here t ends i g.within, ← e, entry_here t ends (i + 1) (omega arith)) (joined_more b p _ _)

    -- what is still to write behind it
    pub lay_count : at + (length p + (1 + length (joined b (drop (i + 1) (entry_list t ends))))) ≡ length (joined b (entry_list t ends))
    lay_count = omega (arith, g.count, simp length-append at (ap length lay_here))

    pub lay_room : at + length p < length l
    lay_room = let n = lay_count in omega (arith, g.room, g.len)

    -- it and a separator lie where they should as soon as what is laid behind them does
    pub lay_on : {l' : List ℕ} {at' : ℕ} → at' ≡ at + length p + 1 → length l' ≡ length l
        → over_at at' (joined b (drop (i + 1) (entry_list t ends))) l' ≡ over_at at (p ++ b ∷ joined b (drop (i + 1) (entry_list t ends))) l → Laying b t ends l₀ l' (i + 1) at'
    lay_on y n u =
        let m = lay_count in
        record { rises = g.rises; within = omega arith; len = n ∙ g.len; room = g.room; count = omega arith; same = u ∙ (rw lay_here at g.same) }

    pub lay_turn : {l' : List ℕ} {at' : ℕ} → at' ≡ at + length p + 1 → l' ≡ over_at at (p ++ b ∷ []) l → Laying b t ends l₀ l' (i + 1) at'
    lay_turn {l'} {at'} y u =
        let m = lay_room in
        let n : length (p ++ b ∷ []) ≡ length p + 1 = length-append p _ in
        let k : at + length (p ++ b ∷ []) ≤ length l = omega arith in
        let v : at + length (p ++ b ∷ []) ≡ at' = omega arith in
        lay_on y (ap length u ∙ length_over_at at (p ++ b ∷ []) l k)
        (rw (u, ← v, ← over_at_append at (p ++ b ∷ []) (joined b (drop (i + 1) (entry_list t ends))) l k, append_assoc))

-- the last
module _ {b : ℕ} {t ends l₀ l : List ℕ} {i at : ℕ} (g : Laying b t ends l₀ l i at) {p : List ℕ} (e : p ≡ get_or (entry_list t ends) (length ends - 1) []) (h : length ends - 1 ≤ i) where
  last_here : joined b (drop i (entry_list t ends)) ≡ p
  last_here =
      let w = g.within in
      let f : length ends - 1 ≡ i = omega arith in
      rw (entry_here t ends i g.within, ← rw f at e, entry_past t ends (i + 1) (omega arith)) (joined_one b p)

  pub last_count : at + length p ≡ length (joined b (entry_list t ends))
  last_count = omega (arith, g.count, ap length last_here)

  pub last_room : at + length p ≤ length l
  last_room = let m = last_count in let k = g.room in let c = g.len in omega arith

  pub last_copied : {ys : List ℕ} {r : Result ℕ NoRoom} → Writes p (take (at + length p - at) (drop at l)) r ys → ys ≡ p
  last_copied w = writes_part at l last_room w

  pub last_bytes : {ys : List ℕ} → ys ≡ p → put_mid at (at + length p - at) l ys ≡ over (joined b (entry_list t ends)) l₀
  last_bytes {ys} w = part_put at p l ys w ∙ (rw last_here at g.same)

-- ---- the answer

module _ (b : ℕ) (list : Entries) (l : List ℕ) {u : Bool} (f : u ≡ leb (length (joined b (entries_of list))) (length l)) where
  pub put_room : u ≡ true → length (joined b (entries_of list)) ≤ length l
  put_room y = leb-true _ _ (sym f ∙ y)

  pub put_short : {no : NoRoom} → u ≡ false → PutsList b list l (Err no) l
  put_short y = copy_short (leb-false _ _ (sym f ∙ y))

  pub put_done : {n : ℕ} {l' : List ℕ} → u ≡ true → n ≡ length (joined b (entries_of list)) → l' ≡ over (joined b (entries_of list)) l
      → PutsList b list l (Ok n) l'
  put_done y c d = copy_done (put_room y) c d

-- made of ends that rise
pub rising_here : {text ends : Bor (List ℕ)} (list : Entries) → MakesList text ends (Ok list) → rising 0 ends.now (length text.now) ≡ true
rising_here {text} {ends} list m = rw (m.0, m.1) at list.rise

module _ (b : ℕ) (text ends : Bor (List ℕ)) (l : List ℕ) where
  pub joins_wrong : {no : WrongEnds} → MakesList text ends (Err no) → JoinsList b text.now ends.now l (Err J.Wrong) l
  unfolding joined_paper joined_answer
  joins_wrong r = record { answer = rw r; bytes = rw r }

  module _ (list : Entries) (m : MakesList text ends (Ok list)) where
    pub joins_short : {no : NoRoom} {l' : List ℕ} → PutsList b list l (Err no) l' → JoinsList b text.now ends.now l (Err J.Short) l'
    unfolding joined_paper joined_answer
    joins_short {no} w =
        let d = writes_short w refl in
        let r = rising_here list m in
        let k = room_lacks (joined b (entry_list text.now ends.now)) l (rw (m.0, m.1) at d.room) in
        record { answer = rw (r, k); bytes = rw (r, k) d.bytes }

    pub joins_done : {n : ℕ} {l' : List ℕ} → PutsList b list l (Ok n) l' → JoinsList b text.now ends.now l (Ok n) l'
    unfolding joined_paper joined_answer
    joins_done w =
        let d = writes_done w refl in
        let r = rising_here list m in
        let k = room_fits (joined b (entry_list text.now ends.now)) l (rw (m.0, m.1) at d.room) in
        record { answer = rw (r, k, rw (m.0, m.1) at d.count); bytes = rw (r, k) (rw (m.0, m.1) at d.bytes) }

-- ---- what an answer tells

-- what each answer of the writer tells, where the ends rise
abbrev pub JoinedTells : ℕ → List ℕ → List ℕ → List ℕ → List ℕ → Result ℕ JoinError → Type 0
JoinedTells b t ends l l' (Ok n) = Wrote (joined b (entry_list t ends)) l n l'
JoinedTells b t ends l l' (Err J.Wrong) = ⊥
JoinedTells b t ends l l' (Err J.Short) = Lacked (joined b (entry_list t ends)) l l'

pub joined_tells : {b : ℕ} {t ends l l' : List ℕ} (x : Result ℕ JoinError) → JoinsList b t ends l x l' → rising 0 ends (length t) ≡ true → JoinedTells b t ends l l' x
unfolding joined_paper joined_answer
joined_tells {b} {t} {ends} {l} {l'} x g r = by (dec_le (length vs) (length l))
  where
    vs : List ℕ
    vs = joined b (entry_list t ends)

    answer : joined_paper x ≡ room_answer vs l
    answer = g.answer ∙ rw r

    bytes : l' ≡ laid (room_answer vs l) vs l
    bytes = g.bytes ∙ rw r

    by : Dec (length vs ≤ length l) → JoinedTells b t ends l l' x
    by (yes h) =
        rw (joined_paper_injective x (Ok (length vs)) (answer ∙ room_fits vs l h))
        (record { room = h; count = refl; bytes = bytes ∙ rw (room_fits vs l h) })
    by (no h) =
        let m : length l < length vs = omega arith in
        rw (joined_paper_injective x (Err J.Short) (answer ∙ room_lacks vs l m)) (record { room = m; bytes = bytes ∙ rw (room_lacks vs l m) })

pub ruleset lay_laws = (none_count, none_bytes, lay_first, lay_room, lay_turn, last_count, last_room, last_copied, last_bytes)

pub ruleset laws = (fits_none, fits_no_end, fits_rest, put_copied, put_bytes, put_room, put_short, put_done)
