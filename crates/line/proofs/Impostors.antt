-- Readers that the demands refuse, each on one small input: eight columns "1" joined by tabs; a tab and an LF. Assumes nothing.
use Prim.Native.Nat.{ℕ, ◌+◌, ◌<◌}
use mathlib.Core.Path.{◌≡◌, refl, sym, ap, ◌∙◌}
use mathlib.Core.Logic.{inl}
use mathlib.Core.List.{List, [], ◌∷◌, append-nil}
use native.Mathlib.Omega.{arith}
use lib.ListN.{length, get_or, set, replicate, get_or-replicate}
use lib.Seq.{get_or-set_same}
use Rattle.text.specs.Answer.{Answer, says, number_of, values_of}
use Rattle.text.proofs.Demands.{byte_text}
use Rattle.pieces.specs.Pieces.{joined}
use Rattle.pieces.specs.Demands.{start_in}
use Rattle.pieces.proofs.PieceLaws.{free_nil, free_cons, joined_one, joined_more}
use Rattle.pieces.proofs.NumberLaws.{start_first, start_later}
use Rattle.record.specs.Ending.{nothing}
use Rattle.line.specs.Line.{read_answer}
use Rattle.line.specs.Demands.{by_nothing, Begins, Reader, Refuses, Exact, Stands, One, empty_tabbed, Faulty, bad_column, Faults}
use Rattle.record.proofs.EndingLaws.{nothing_bytes}
use Rattle.line.proofs.ColumnLaws.{utf8_all}
use Rattle.line.proofs.ShapeLaws.{begins_read}
use Rattle.line.proofs.One.{one}
use Rattle.line.proofs.Faults.{faulty_answer}
use Rattle.line.proofs.Meets.{stands_same}

-- ---- eight columns

pub ones : List (List ℕ)
ones = replicate 8 (49 ∷ [])

pub ones_eight : length ones ≡ 8
unfolding ones
ones_eight = refl

pub ones_each : (i : ℕ) → i < length ones → get_or ones i [] ≡ 49 ∷ []
unfolding ones
ones_each i l = get_or-replicate {A = List ℕ} 8 i (49 ∷ []) [] l

input : List ℕ
input = joined 9 ones

ones_begin : Begins input ones nothing []
unfolding ones input
ones_begin =
    record {
      shaped =
          record {
            count = inl refl;
            each = λ i l. rw (ones_each i l) (record { some = omega arith; no_tab = free_cons (λ z. omega arith) free_nil; no_feed = free_cons (λ z. omega arith) free_nil });
            whole = rw nothing_bytes (append-nil (joined 9 ones));
            ended = by_nothing;
          };
      utf8 = utf8_all ones (λ i l. rw (ones_each i l) (byte_text 49 (omega arith)));
    }

input_some : 0 < length input
unfolding ones input
input_some = rw joined_more (omega arith)

-- a reader that refuses every line is not exact
pub refuses_all : (read : Reader) → ((s : List ℕ) (at : ℕ) → Refuses (read s at)) → Exact read → ⊥
unfolding Exact
refuses_all read refuses exact = (exact input 0 input_some).0 (refuses input 0) ones nothing [] ones_begin

-- ---- values that are not the line's

-- our answer's values
values : List ℕ
values = values_of (read_answer input 0)

answers_zero : number_of (read_answer input 0) ≡ 0
answers_zero = begins_read input 0 input_some ones_begin

stands : Stands input 0 (read_answer input 0)
unfolding One
stands = one input 0 answers_zero

values_length : length values ≡ 22
unfolding values
values_length = rw stands.values (let t = stands.lie.ten in omega arith)

-- the same answer, with another value at k
pub altered : ℕ → (List ℕ → ℕ) → Answer → Answer
altered k v (says n vs) = says n (set vs k (v vs))

altered_number : (k : ℕ) (v : List ℕ → ℕ) (a : Answer) → number_of (altered k v a) ≡ number_of a
unfolding altered
altered_number k v (says n vs) = refl

altered_value : (k : ℕ) (v : List ℕ → ℕ) (a : Answer) → k < length (values_of a) → get_or (values_of (altered k v a)) k 0 ≡ v (values_of a)
unfolding altered
altered_value k v (says n vs) l = get_or-set_same vs k (v vs) 0 l

-- does not stand for the columns: two answers that do have the same values
not_altered : (k : ℕ) (v : List ℕ → ℕ) → k < 22 → One (λ s at. altered k v (read_answer s at)) → v values ≡ get_or values k 0
unfolding One values
not_altered k v l claim =
    let e = stands_same (claim input 0 (altered_number k v (read_answer input 0) ∙ answers_zero)) stands in
    sym (altered_value k v (read_answer input 0) (omega (arith, values_length))) ∙ ap (λ (vs : List ℕ). get_or vs k 0) e

-- a reader whose next place is one further is refused
pub invented_next : One (λ s at. altered 0 (λ vs. get_or vs 0 0 + 1) (read_answer s at)) → ⊥
invented_next claim = let e = not_altered 0 (λ vs. get_or vs 0 0 + 1) (omega arith) claim in omega arith

-- so is one that tells LF for the end of the input
pub invented_ending : One (λ s at. altered 1 (λ vs. get_or vs 1 0 + 1) (read_answer s at)) → ⊥
invented_ending claim = let e = not_altered 1 (λ vs. get_or vs 1 0 + 1) (omega arith) claim in omega arith

-- one whose INFO is one byte longer, past the end of the buffer
pub invented_length : One (λ s at. altered 17 (λ vs. get_or vs 17 0 + 1) (read_answer s at)) → ⊥
invented_length claim = let e = not_altered 17 (λ vs. get_or vs 17 0 + 1) (omega arith) claim in omega arith

-- and one that gives the start of CHROM for that of ALT, where the same byte stands
pub invented_place : One (λ s at. altered 10 (λ vs. get_or vs 2 0) (read_answer s at)) → ⊥
unfolding values ones
invented_place claim =
    let e = not_altered 10 (λ vs. get_or vs 2 0) (omega arith) claim in
    let c : stands.columns ≡ ones = sym (stands.only ones nothing [] ones_begin).0 in
    let chrom : get_or values 2 0 ≡ 0 + start_in ones 0 = rw stands.values ((stands.lie.eight 0 (omega arith)).starts ∙ rw c) in
    let alt : get_or values 10 0 ≡ 0 + start_in ones 4 = rw stands.values ((stands.lie.eight 4 (omega arith)).starts ∙ rw c) in
    omega (arith, start_first ones, start_later (49 ∷ []) (replicate 7 (49 ∷ [])) 3)

-- ---- an empty column

-- an input that begins with a tab is refused by 2, and goes on behind it
empty_faulty : (rest : List ℕ) → Faulty (9 ∷ rest) 0 2 1
empty_faulty rest =
    let f : Faulty (9 ∷ rest) 0 2 (0 + start_in [] 0 + 1) =
    bad_column {cs = []} (record { each = λ i l. absurd (omega arith); whole = joined_one 9 (9 ∷ rest) }) empty_tabbed in
    rw start_first at f

-- so a reader that answers one line, from whatever place of whatever input, is refused
pub fixed_line : (read : Reader) (a : Answer) → number_of a ≡ 0 → ((s : List ℕ) (at : ℕ) → at < length s → read s at ≡ a) → One read → ⊥
unfolding One
fixed_line read a z fixed claim =
    let b = claim (9 ∷ []) 0 (rw (fixed (9 ∷ []) 0 (omega arith)) z) in
    let n = begins_read (9 ∷ []) 0 (omega arith) b.begin in
    let m = ap number_of (faulty_answer (9 ∷ []) 0 (omega arith) (empty_faulty [])) in
    omega arith

-- and so is one that says 3 there, wherever it goes on: at the next LF, too
pub empty_as_fed : (read : Reader) → number_of (read (9 ∷ 10 ∷ []) 0) ≡ 3 → Faults read → ⊥
unfolding Faults
empty_as_fed read z claim = let n = ap number_of ((claim (9 ∷ 10 ∷ []) 0 (omega arith) 2 1).1 (empty_faulty (10 ∷ []))) in omega arith
