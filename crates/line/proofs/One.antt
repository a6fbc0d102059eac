-- The answer 0 is given of columns that begin the input, the only ones; their places cut them out of the buffer. Assumes nothing.
use Prim.Native.Nat.{ℕ, zero, suc, ◌+◌, ◌*◌, ◌<◌, ◌≤◌}
use mathlib.Core.Path.{◌≡◌, ap, ◌∙◌}
use mathlib.Core.Logic.{⊎_elim}
use mathlib.Core.List.{List, [], ◌∷◌, ◌++◌, append_assoc}
use native.Mathlib.Omega.{arith}
use native.Mathlib.Nat.{add_assoc}
use lib.ListN.{length, get_or, take, drop}
use lib.Seq.{take-append_seam, drop-append-add, drop-drop, drop-cons}
use Rattle.text.specs.Answer.{number_of}
use Rattle.text.specs.Range.{range_at, cut}
use Rattle.text.proofs.Lists.{cut_is}
use Rattle.pieces.specs.Pieces.{joined}
use Rattle.pieces.specs.Demands.{start_in}
use Rattle.pieces.proofs.PieceLaws.{joined_one, joined_more}
use Rattle.pieces.proofs.NumberLaws.{start_first, start_later}
use Rattle.line.specs.Line.{field_places, read_answer}
use Rattle.line.specs.Demands.{MayEnd, Lies, TenPlaces, Stands, One}
use Rattle.line.proofs.ShapeLaws.{begins_answer, begins_only}
use Rattle.line.proofs.TenPlaces.{places_lie}
use Rattle.line.proofs.MovesOn.{zero_inside}
use Rattle.line.proofs.Faults.{Told, faulty, begun, told, faulty_answer, faulty_refuses}

-- ---- what the places cut out

-- place i of a list of starts and lengths, cut out of the buffer
unfoldable pub field_of : List ℕ → ℕ → List ℕ → List ℕ
field_of places i s = cut (range_at (get_or places (2 * i) 0) (get_or places (2 * i + 1) 0)) s

-- the ten places cut these columns out of the buffer: FORMAT and the samples, which stay joined, where there are such
pub record CutsOut (places : List ℕ) (s : List ℕ) (cs : List (List ℕ)) (end : ℕ) : Type 0 where
  pub ten : length places ≡ 20
  pub eight : (i : ℕ) → i < 8 → field_of places i s ≡ get_or cs i []
  pub bare : length cs ≡ 8 → drop 16 places ≡ end ∷ 0 ∷ end ∷ 0 ∷ []
  pub format : 10 ≤ length cs → field_of places 8 s ≡ get_or cs 8 []
  pub samples : 10 ≤ length cs → field_of places 9 s ≡ joined 9 (drop 9 cs)

lies_cut : (s : List ℕ) {places : List ℕ} {i start size : ℕ} → Lies places i start size → field_of places i s ≡ take size (drop start s)
unfolding field_of
lies_cut s l = rw (l.starts, l.sized) (cut_is _ _ s)

-- columns that stand in a buffer, joined by tabs, from a place on
module _ (s r : List ℕ) where
  -- those from number n on stand from their own start on
  rest_stands : (from : ℕ) (cs : List (List ℕ)) (n : ℕ) → drop from s ≡ joined 9 cs ++ r → n < length cs → drop (from + start_in cs n) s ≡ joined 9 (drop n cs) ++ r
  rest_stands from [] n e l = absurd (omega arith)
  rest_stands from (c ∷ cs) zero e l = let z : from + start_in (c ∷ cs) 0 ≡ from = omega (arith, start_first (c ∷ cs)) in rw z e
  rest_stands from (c ∷ []) (suc n) e l = absurd (omega arith)
  rest_stands from (c ∷ d ∷ cs) (suc n) e l =
      let z : from + start_in (c ∷ d ∷ cs) (suc n) ≡ from + length c + 1 + start_in (d ∷ cs) n = omega (arith, start_later c (d ∷ cs) n) in
      rw z
      (rest_stands (from + length c + 1) (d ∷ cs) n (rw (add_assoc, ← drop-drop (length c + 1) from s, e, joined_more, append_assoc c) (drop-append-add c _ 1)) (omega arith))

  first_taken : (c : List ℕ) (cs : List (List ℕ)) → take (length c) (joined 9 (c ∷ cs) ++ r) ≡ c
  first_taken c [] = rw joined_one (take-append_seam c r)
  first_taken c (d ∷ cs) = rw (joined_more, append_assoc c) (take-append_seam c _)

  column_cut : (from : ℕ) (cs : List (List ℕ)) → drop from s ≡ joined 9 cs ++ r → (i : ℕ) → i < length cs
      → take (length (get_or cs i [])) (drop (from + start_in cs i) s) ≡ get_or cs i []
  column_cut from cs e i l = rw (rest_stands from cs i e l, drop-cons cs i [] l) (first_taken (get_or cs i []) (drop (suc i) cs))

  others_cut : (from : ℕ) (cs : List (List ℕ)) → drop from s ≡ joined 9 cs ++ r → (n : ℕ) → n < length cs
      → take (length (joined 9 (drop n cs))) (drop (from + start_in cs n) s) ≡ joined 9 (drop n cs)
  others_cut from cs e n l = rw (rest_stands from cs n e l) (take-append_seam (joined 9 (drop n cs)) r)

  -- the cut follows from where the places lie
  pub lie_cuts : {places : List ℕ} {from : ℕ} {cs : List (List ℕ)} → MayEnd (length cs) → drop from s ≡ joined 9 cs ++ r
      → TenPlaces places from cs → CutsOut places s cs (from + length (joined 9 cs))
  lie_cuts {from = from} {cs = cs} n e t =
      let m : 8 ≤ length cs = ⊎_elim (λ h. omega arith) (λ h. omega arith) n in
      record {
        ten = t.ten;
        eight = λ i l. lies_cut s (t.eight i l) ∙ column_cut from cs e i (omega arith);
        bare = t.bare;
        format = λ h. lies_cut s (t.format h) ∙ column_cut from cs e 8 (omega arith);
        samples = λ h. lies_cut s (t.samples h) ∙ others_cut from cs e 9 (omega arith);
      }

-- ---- one

pub one : One read_answer
unfolding One
one s at z = by (told s at)
  where
    within : at < length s
    within = zero_inside s at z

    by : Told s at → Stands s at (read_answer s at)
    by (faulty n next f) =
        absurd (let r = faulty_refuses f in let e = ap number_of (faulty_answer s at within f) in omega arith)
    by (begun {cs} {e} {rest} b) =
        record {
          columns = cs;
          ending = e;
          rest = rest;
          places = field_places at cs (at + length (joined 9 cs));
          begin = b;
          only = λ ds f r c. begins_only b c;
          values = rw (begins_answer s at within b);
          lie = places_lie at cs b.shaped.count;
        }
