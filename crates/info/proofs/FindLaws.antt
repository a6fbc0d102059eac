-- A search for a key: what the steps lead to from the place it has come to is what is found. Assumes nothing.
use Rattle.std.specs.Prelude.{Ok, Err}
use Prim.Native.Nat.{ℕ, ◌+◌, ◌-◌, ◌^◌, ◌<◌, ◌≤◌}
use mathlib.Core.Path.{◌≡◌, sym, ◌∙◌}
use mathlib.Core.Bool.{Bool, true, false}
use mathlib.Core.List.{List}
use native.Mathlib.Omega.{arith}
use mir.Syntax.{w64}
use mir.Val.{Fits}
use lib.ListN.{length, take, drop}
use Rattle.text.specs.Answer.{Answer}
use Rattle.text.specs.Same.{same}
use Rattle.text.proofs.SameLaws.{same_is, same_other}
use Rattle.info.specs.Info.{step_answer}
use Rattle.info.specs.Paper.{entry_places, step_paper}
use Rattle.info.specs.Find.{find_answer}
use Rattle.info.specs.Demands.{Leads, found, refused, none, other}
use Rattle.info.specs.declared.step.Entry.{Entry}
use Rattle.info.specs.declared.step.NoEntry.{NoEntry}
use Rattle.info.specs.declared.step.NoEntry.TheVariants as N
use Rattle.info.proofs.EntryLaws.{step_end}
use Rattle.info.proofs.TellLaws.{FoundAt, info_tells}
use Rattle.info.proofs.First.{first}

-- what the steps from `at` on lead to is what is found
pub record Searching (t key : List ℕ) (at : ℕ) : Type 0 where
  pub within : at ≤ length t
  pub finds : (a : Answer) → Leads step_answer t key at a → a ≡ find_answer t key

pub search_first : (t key : List ℕ) → Searching t key 0
search_first t key = record { within = omega arith; finds = first.only t key }

module _ (t key : List ℕ) (at : ℕ) (g : Searching t key at) where
  -- each refusal ends the search
  pub search_stops : (d : NoEntry) → step_paper (Err d) ≡ step_answer t at → step_paper (Err d) ≡ find_answer t key
  unfolding step_paper
  search_stops (N.Beyond next) e = absurd (let f = info_tells t at (Err (N.Beyond next)) e in let w = g.within in omega arith)
  search_stops (N.AfterKey next) e = g.finds _ (refused (sym e) (omega arith) (omega arith))
  search_stops (N.NoKey next) e = g.finds _ (refused (sym e) (omega arith) (omega arith))
  search_stops (N.AfterValue next) e = g.finds _ (refused (sym e) (omega arith) (omega arith))
  search_stops (N.Nothing next) e =
      let f = info_tells t at (Err (N.Nothing next)) e in
      let n : next ≡ length t = omega arith in
      rw n (g.finds _ (none (step_end t at f.end)))

module _ (t : List ℕ) (at : ℕ) (en : Entry) (next : ℕ) (e : step_paper (Ok (en, next)) ≡ step_answer t at) where
  found_at : FoundAt t at en next
  found_at = info_tells t at (Ok (en, next)) e

  pub found_within : en.key.start + en.key.len ≤ length t
  found_within = found_at.key_within

  pub found_fits : length t < 2 ^ 64 → Fits w64 (en.key.start + en.key.len)
  found_fits m = let w = found_within in omega arith

  pub search_less : length t - next < length t - at
  search_less = let f = found_at in omega arith

  module _ {key : List ℕ} (g : Searching t key at) {b : Bool} (m : b ≡ same (take (en.key.start + en.key.len - en.key.start) (drop en.key.start t)) key) where
    matches : same (take en.key.len (drop en.key.start t)) key ≡ b
    matches = let n : en.key.start + en.key.len - en.key.start ≡ en.key.len = omega arith in sym (rw n at m)

    pub search_found : b ≡ true → step_paper (Ok (en, next)) ≡ find_answer t key
    unfolding step_paper entry_places
    search_found y = g.finds _ (found (sym e) (same_is _ key (matches ∙ y)))

    pub search_turn : b ≡ false → Searching t key next
    unfolding step_paper entry_places
    search_turn y = record { within = found_at.within; finds = λ a w. g.finds a (other (sym e) (same_other _ key (matches ∙ y)) w) }

pub ruleset laws = (search_first, search_stops, found_within, found_fits, search_less, search_found, search_turn)
