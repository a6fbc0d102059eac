-- The line at a place is the one that is found there; each way through a turn is then the definition's clause. Assumes nothing.
use Prim.Native.Nat.{ℕ, ◌+◌, ◌-◌, ◌<◌, ◌≤◌}
use mathlib.Core.Path.{◌≡◌, refl, sym, ap, ◌∙◌}
use mathlib.Core.Bool.{Bool, true, false, not, ◌||◌}
use mathlib.Core.List.{List, [], ◌∷◌, ◌++◌}
use Rattle.std.specs.Prelude.{Ok, Err, IsOk}
use native.Mathlib.Omega.{arith}
use lib.ListN.{length, get_or, take, drop, drop_of_length-le, length-drop, take-append-drop}
use lib.Seq.{drop-drop, take-append-le, length-take-le}
use lib.Dec.{ltb}
use borrow.Author.Tests.{lt-ltb, le-ltb, eq-eqb, ne_eqb}
use Rattle.text.specs.Pick.{pick}
use Rattle.text.specs.Answer.{says}
use Rattle.text.proofs.Lists.{here}
use Rattle.pieces.specs.Demands.{Free}
use Rattle.pieces.proofs.PieceLaws.{free_left}
use Rattle.record.specs.Ending.{nothing, feed, return_feed}
use Rattle.record.specs.Paper.{ending_of}
use Rattle.record.specs.declared.ending.Ending.{Ending}
use Rattle.record.specs.declared.ending.Ending.TheVariants as E
use Rattle.line.specs.Line.{Line, line, line_of, read_answer}
use Rattle.line.specs.Promises.{FindsLine}
use Rattle.line.specs.declared.extent.Extent.{Extent}
use Rattle.line.specs.Paper.{Lined}
use Rattle.line.proofs.LineLaws.{AtFeed, none, one, at_feed}
use Rattle.line.proofs.Extents.{found, beyond}
use Rattle.listing.specs.Listing.{size_of, longest, begins_hash}
use Rattle.listing.specs.Turn.{is_whole, pass_move, lead_move, read_move, line_move, phase_move, turn_move, gives}
use Rattle.listing.specs.Paper.{refusal_number, row_paper, turn_paper}
use Rattle.listing.specs.Inner.{Ends, Reaches, Known}
use Rattle.listing.proofs.LineLaws.{past_line, size_feed, size_after, whole_after}
use Rattle.listing.specs.declared.turn.Phase.{Phase}
use Rattle.listing.specs.declared.turn.Phase.TheVariants as P
use Rattle.listing.specs.declared.turn.Reach.{Reach}
use Rattle.listing.specs.declared.turn.Refusal.TheVariants as F
use Rattle.listing.specs.declared.turn.Turn.{Turn}
use Rattle.listing.specs.declared.turn.Turn.TheVariants as T

-- ---- where a line ends

module _ (w : List ℕ) (at : ℕ) (x : Lined) (f : FindsLine w at x) where
  pub line_there : at ≤ length w → IsOk x
  line_there h = by x refl
    where
      by : (z : Lined) → x ≡ z → IsOk z
      by (Ok y) q = refl
      by (Err e) q = absurd (let l = beyond w at f q in omega arith)

  module _ {y : Extent} (q : x ≡ Ok y) where
    found_ends : {fed : Bool} → ((t rest : List ℕ) → is_whole false (line t (ending_of y.ending) rest) ≡ fed) → Ends w at y.next fed
    unfolding size_of
    found_ends k =
        let g = found w at f q in
        record { size = rw g.is (omega (arith, g.past)); within = g.within; whole = rw g.is (k g.text g.rest) }

    -- by whether it is ended by the end of the input
    module _ {unfed : Bool} where
      pub reach_open : y.ending ≡ E.Nothing → unfed ≡ true → Reaches w at (record { end = y.next; fed = not unfed })
      unfolding is_whole
      reach_open z o = rw o (found_ends (λ t rest. rw z))

      pub reach_fed : (y.ending ≡ E.Nothing → ⊥) → unfed ≡ false → Reaches w at (record { end = y.next; fed = not unfed })
      unfolding is_whole
      reach_fed z o = rw o (found_ends (λ t rest. by y.ending z t rest))
        where
          by : (e : Ending) → (e ≡ E.Nothing → ⊥) → (t rest : List ℕ) → is_whole false (line t (ending_of e) rest) ≡ true
          by E.Nothing z t rest = absurd (z refl)
          by E.Feed z t rest = refl
          by E.ReturnFeed z t rest = refl

-- where no LF stands between two places, the lines at both end alike
module _ (w : List ℕ) (from at : ℕ) (h : from ≤ at) (l : at ≤ length w) (f : Free 10 (take (at - from) (drop from w))) where
  parted : drop from w ≡ take (at - from) (drop from w) ++ drop at w
  parted =
      let i : from + (at - from) ≡ at = omega arith in
      sym (take-append-drop (at - from) (drop from w)) ∙ rw (drop-drop (at - from) from w, i)

  past_same : past_line w from ≡ past_line w at
  past_same =
      let n : length (take (at - from) (drop from w)) ≡ at - from = length-take-le (at - from) (drop from w) (simp length-drop (omega arith)) in
      let z = ap (λ (u : List ℕ). size_of (line_of u)) parted ∙ size_after (take (at - from) (drop from w)) (drop at w) f in
      omega arith

  whole_same : is_whole false (line_of (drop from w)) ≡ is_whole false (line_of (drop at w))
  whole_same = ap (λ (u : List ℕ). is_whole false (line_of u)) parted ∙ whole_after false (take (at - from) (drop from w)) (drop at w) f

  ends_later : {next : ℕ} {fed : Bool} → Ends w from next fed → Ends w at next fed
  ends_later e = record { size = e.size ∙ past_same; within = e.within; whole = sym whole_same ∙ e.whole }

-- no LF stands in a line before its end
free_before : {w : List ℕ} {from next : ℕ} {fed : Bool} (at : ℕ) → Ends w from next fed → from ≤ at → at < next → Free 10 (take (at - from) (drop from w))
free_before {w} {from} {next} at n a b = by (at_feed (drop from w))
  where
    by : AtFeed (drop from w) → Free 10 (take (at - from) (drop from w))
    by (none f) = free_left (take (at - from) (drop from w)) (drop (at - from) (drop from w)) (rw take-append-drop f)
    by (one t rest f e) =
        let s : next ≡ from + (length t + 1) = n.size ∙ rw (e, size_feed t f rest) in
        rw (e, take-append-le (at - from) t (10 ∷ rest) (omega arith))
        (free_left (take (at - from) t) (drop (at - from) t) (rw take-append-drop f))

-- so it is the same line from each place in it
pub reach_later : (w : List ℕ) (from : ℕ) (x : Reach) (at : ℕ) → Reaches w from x → from ≤ at → Known w at x
reach_later w from x at n a b = let c = n.within in ends_later w from at a (omega arith) (free_before at n a b) n

pub reach_known : {w : List ℕ} {at : ℕ} {x : Reach} → Known w at x → at < x.end → Reaches w at x
reach_known k h = k h

-- ---- whether it is whole

pub whole_fed : {fed : Bool} (last : Bool) → fed ≡ true → true ≡ (fed || last)
whole_fed last e = rw e

whole_or : (last : Bool) (l : Line) → is_whole last l ≡ (is_whole false l || last)
unfolding is_whole
whole_or last (line t nothing rest) = refl
whole_or last (line t feed rest) = refl
whole_or last (line t return_feed rest) = refl

module _ (w : List ℕ) (at : ℕ) (x : Reach) (last : Bool) {whole : Bool} (g : Reaches w at x) (o : whole ≡ (x.fed || last)) where
  is_whole_lem : {c : Bool} → whole ≡ c → is_whole last (line_of (drop at w)) ≡ c
  is_whole_lem q = whole_or last (line_of (drop at w)) ∙ rw g.whole (sym o ∙ q)

  -- ---- the rest of a line passed over

  module _ (within after : Phase) where
    pub pass_whole : whole ≡ true → turn_paper (T.On after x.end) ≡ pass_move last within after at (line_of (drop at w))
    unfolding turn_paper pass_move
    pass_whole q = rw (is_whole_lem q, ← g.size)

    pub pass_none : whole ≡ false → x.end ≡ at → turn_paper T.More ≡ pass_move last within after at (line_of (drop at w))
    unfolding turn_paper pass_move
    pass_none q e =
        let z : size_of (line_of (drop at w)) ≡ 0 = omega (arith, g.size) in
        rw (is_whole_lem q, z)

    pub pass_some : whole ≡ false → (x.end ≡ at → ⊥) → turn_paper (T.On within x.end) ≡ pass_move last within after at (line_of (drop at w))
    unfolding turn_paper pass_move
    pass_some q e =
        let z : size_of (line_of (drop at w)) ≡ 0 → ⊥ = λ z. omega (arith, g.size) in
        rw (is_whole_lem q, ne_eqb _ 0 z, ← g.size)

  -- ---- a line to read

  pub read_long : (r : Turn) → 65536 < x.end - at → turn_paper r ≡ gives (says 22 []) (pick whole P.Lines P.Rest) x.end
      → turn_paper r ≡ line_move last w at (line_of (drop at w))
  unfolding line_move
  read_long r h e = e ∙ rw (lt-ltb longest (size_of (line_of (drop at w))) (omega (arith, g.size)), is_whole_lem refl, ← g.size)

  module _ (h : x.end - at ≤ 65536) where
    short : ltb longest (size_of (line_of (drop at w))) ≡ false
    short = le-ltb longest (size_of (line_of (drop at w))) (omega (arith, g.size))

    pub read_line : (r : Turn) → whole ≡ true → turn_paper r ≡ read_move (line_of (drop at w)) (read_answer w at) → turn_paper r ≡ line_move last w at (line_of (drop at w))
    unfolding line_move
    read_line r q e = e ∙ rw (short, is_whole_lem q)

    pub read_more : whole ≡ false → turn_paper T.More ≡ line_move last w at (line_of (drop at w))
    unfolding turn_paper line_move
    read_more q = rw (short, is_whole_lem q)

pub end_after : {w : List ℕ} {at : ℕ} {x : Reach} → Reaches w at x → at ≤ x.end
end_after g = omega (arith, g.size)

-- ---- a leading line

module _ (w : List ℕ) (last : Bool) (at : ℕ) where
  pub lead_last : at ≡ length w → last ≡ true → turn_paper (T.On P.Lines at) ≡ lead_move last at (drop at w)
  unfolding turn_paper lead_move
  lead_last e l = rw (drop_of_length-le w {i = at} (omega arith), l)

  pub lead_none : at ≡ length w → last ≡ false → turn_paper T.More ≡ lead_move last at (drop at w)
  unfolding turn_paper lead_move
  lead_none e l = rw (drop_of_length-le w {i = at} (omega arith), l)

  module _ (h : at ≤ length w) (n : at ≡ length w → ⊥) where
    pub lead_hash : (r : Turn) → get_or w at 0 ≡ 35 → turn_paper r ≡ pass_move last P.Comment P.Lead at (line_of (drop at w)) → turn_paper r ≡ lead_move last at (drop at w)
    unfolding lead_move begins_hash
    lead_hash r b e = e ∙ rw (here w at (omega arith), eq-eqb (get_or w at 0) 35 b)

    pub lead_other : (get_or w at 0 ≡ 35 → ⊥) → turn_paper (T.On P.Lines at) ≡ lead_move last at (drop at w)
    unfolding turn_paper lead_move begins_hash
    lead_other b = rw (here w at (omega arith), ne_eqb (get_or w at 0) 35 b)

-- ---- a line that is too long

module _ {whole : Bool} (next : ℕ) where
  pub long_whole : whole ≡ true → turn_paper (T.Found (Err F.Long) P.Lines next) ≡ gives (says 22 []) (pick whole P.Lines P.Rest) next
  unfolding turn_paper row_paper refusal_number
  long_whole e = rw e

  pub long_open : whole ≡ false → turn_paper (T.Found (Err F.Long) P.Rest next) ≡ gives (says 22 []) (pick whole P.Lines P.Rest) next
  unfolding turn_paper row_paper refusal_number
  long_open e = rw e

-- ---- a turn

module _ (last : Bool) (w : List ℕ) (at : ℕ) {phase : Phase} (r : Turn) (h : at ≤ length w) where
  pub turn_lead : phase ≡ P.Lead → turn_paper r ≡ lead_move last at (drop at w) → turn_paper r ≡ turn_move last phase w at
  unfolding turn_move phase_move
  turn_lead q e = rw (le-ltb (length w) at h, q) e

  pub turn_comment : phase ≡ P.Comment → turn_paper r ≡ pass_move last P.Comment P.Lead at (line_of (drop at w)) → turn_paper r ≡ turn_move last phase w at
  unfolding turn_move phase_move
  turn_comment q e = rw (le-ltb (length w) at h, q) e

  pub turn_lines : phase ≡ P.Lines → turn_paper r ≡ line_move last w at (line_of (drop at w)) → turn_paper r ≡ turn_move last phase w at
  unfolding turn_move phase_move
  turn_lines q e = rw (le-ltb (length w) at h, q) e

  pub turn_rest : phase ≡ P.Rest → turn_paper r ≡ pass_move last P.Rest P.Lines at (line_of (drop at w)) → turn_paper r ≡ turn_move last phase w at
  unfolding turn_move phase_move
  turn_rest q e = rw (le-ltb (length w) at h, q) e

pub ruleset laws =
    (reach_known, whole_fed, pass_whole, pass_none, pass_some, end_after, read_long, read_line, read_more, lead_last, lead_none, lead_hash, lead_other, long_whole, long_open, turn_lead, turn_comment, turn_lines, turn_rest)
