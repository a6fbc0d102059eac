-- Samples, subfields and keys meet what is asked of any: the first two by the theorems on pieces, the keys by the law on a list's first. Assumes nothing.
use Prim.Native.Nat.{ℕ}
use mathlib.Core.Path.{◌≡◌, refl}
use mathlib.Core.Bool.{true}
use mathlib.Core.Logic.{◌↔◌}
use mathlib.Core.List.{List, []}
use mathlib.Core.Option.{Option, some, none}
use native.Mathlib.Omega.{arith}
use lib.ListN.{length}
use Rattle.text.specs.First.{first_where}
use Rattle.text.specs.Same.{same}
use Rattle.text.proofs.FirstLaws.{first_is, none_first}
use Rattle.text.proofs.SameLaws.{same_is, same_self}
use Rattle.pieces.specs.Pieces.{pieces}
use Rattle.pieces.proofs.StepLaws.{step_none}
use Rattle.pieces.proofs.Demands as P
use Rattle.samples.specs.Samples.{samples_of, sample_step, sample_answer, subfield_answer}
use Rattle.samples.specs.Keys.{keys_of, index_answer, index_in, key_answer}
use Rattle.samples.specs.Demands as D
use Rattle.samples.specs.Demands.{Listed, Subfields, FirstKey, first, Keys}

-- counted, visited and asked by number, the samples are the pieces between tabs
pub listed : Listed (λ t. length (samples_of t)) sample_step sample_answer
unfolding samples_of sample_step sample_answer
listed =
    record {
      counts = λ t. refl;
      visits = λ t h. P.walk_same (λ k. refl) (P.visits_pieces 9 t h);
      none = step_none 9 [] 0 (omega arith) refl;
      numbers = P.numbers 9;
    }

-- asked by number, the subfields are the pieces between colons
pub subfields : Subfields subfield_answer
unfolding Subfields subfield_answer
subfields = P.numbers 58

-- ---- keys

-- the index of the first key that is equal
pub keys : Keys key_answer
unfolding Keys key_answer keys_of index_in index_answer
keys format key = by (first_where (λ (k : List ℕ). same k key) 0 (pieces 58 format)) refl
  where
    exact : (k : List ℕ) → (same k key ≡ true) ↔ (k ≡ key)
    exact k = (same_is k key, λ e. rw e (same_self key))

    by : (o : Option ℕ) → first_where (λ (k : List ℕ). same k key) 0 (pieces 58 format) ≡ o → FirstKey (pieces 58 format) key (index_answer o)
    by (some i) e = first (first_is _ exact (pieces 58 format) e)
    by none e = D.none (none_first _ exact (pieces 58 format) e)
