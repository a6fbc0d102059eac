-- By induction on the turns: what they give is what is left to list of the whole input, from their phase and place on. Assumes nothing.
use Prim.Native.Nat.{ℕ, ◌+◌}
use mathlib.Core.Path.{◌≡◌}
use mathlib.Core.Bool.{true}
use mathlib.Core.List.{List, [], ◌∷◌}
use lib.ListN.{drop}
use Rattle.text.specs.Answer.{Answer}
use Rattle.listing.specs.Listing.{begins_hash, Leads, none, one, Rows, end, row, Listing}
use Rattle.listing.specs.Turn.{on, ended, gives, turn_move}
use Rattle.listing.specs.Demands.{Run, stops, waits, goes, prints, Streams}
use Rattle.listing.specs.declared.turn.Phase.{Phase}
use Rattle.listing.specs.declared.turn.Phase.TheVariants as P
use Rattle.listing.proofs.LineLaws.{past_line}
use Rattle.listing.proofs.StreamLaws.{Passed, all, part, Led, hash, other, Given, found, amid, Said, led, commented, rested, given, finished, turn_says}

-- ---- what is left to list

-- leading lines, then rows
record LeadRows (s : List ℕ) (at : ℕ) (rows : List Answer) : Type 0 where
  first : ℕ
  leads : Leads s at first
  lists : Rows s first rows

-- from a phase and a place of the input on
data Stands (s : List ℕ) : Phase → ℕ → List Answer → Type 0 where
  at_lead : {at : ℕ} {rows : List Answer} → LeadRows s at rows → Stands s P.Lead at rows
  in_comment : {at : ℕ} {rows : List Answer} → LeadRows s (past_line s at) rows → Stands s P.Comment at rows
  at_line : {at : ℕ} {rows : List Answer} → Rows s at rows → Stands s P.Lines at rows
  in_rest : {at : ℕ} {rows : List Answer} → Rows s (past_line s at) rows → Stands s P.Rest at rows

module _ {s : List ℕ} {at : ℕ} where
  comment_stands : {then : Phase} {to : ℕ} {rows : List Answer} → Passed s at P.Comment P.Lead then to → Stands s then to rows → LeadRows s (past_line s at) rows
  comment_stands (all e) (at_lead x) = rw e at x
  comment_stands (part e) (in_comment x) = rw e at x

  rest_stands : {then : Phase} {to : ℕ} {rows : List Answer} → Passed s at P.Rest P.Lines then to → Stands s then to rows → Rows s (past_line s at) rows
  rest_stands (all e) (at_line x) = rw e at x
  rest_stands (part e) (in_rest x) = rw e at x

  hash_leads : {rows : List Answer} → begins_hash (drop at s) ≡ true → LeadRows s (past_line s at) rows → LeadRows s at rows
  hash_leads e x = record { first = x.first; leads = one e x.leads; lists = x.lists }

  lead_stands : {then : Phase} {to : ℕ} {rows : List Answer} → Led s at then to → Stands s then to rows → LeadRows s at rows
  lead_stands (hash e p) x = hash_leads e (comment_stands p x)
  lead_stands (other e) (at_line x) = record { first = at; leads = none e; lists = x }

  given_stands : {r : Answer} {then : Phase} {to : ℕ} {rows : List Answer} → Given s at r then to → Stands s then to rows → Rows s at (r ∷ rows)
  given_stands (found n e) (at_line x) = row n (rw e at x)
  given_stands (amid n e) (in_rest x) = row n (rw e at x)

-- ---- turn by turn

module _ {s : List ℕ} {base at : ℕ} where
  end_stands : {phase : Phase} → Said s base at phase ended → Stands s phase at []
  end_stands (finished e) = at_line (end e)

  on_stands : {phase then : Phase} {next : ℕ} {rows : List Answer} → Said s base at phase (on then next) → Stands s then (base + next) rows → Stands s phase at rows
  on_stands (led x) y = at_lead (lead_stands x y)
  on_stands (commented x) y = in_comment (comment_stands x y)
  on_stands (rested x) y = in_rest (rest_stands x y)

  gives_stands : {phase then : Phase} {r : Answer} {next : ℕ} {rows : List Answer} → Said s base at phase (gives r then next) → Stands s then (base + next) rows
      → Stands s phase at (r ∷ rows)
  gives_stands (given x) y = at_line (given_stands x y)

stands : {s : List ℕ} {phase : Phase} {at : ℕ} {rows : List Answer} → Run turn_move s phase at rows → Stands s phase at rows
stands (stops {p = p} {phase = phase} h e) = end_stands (rw e at (turn_says h phase p))
stands (waits h e r) = stands r
stands (goes {p = p} {phase = phase} h e r) = on_stands (rw e at (turn_says h phase p)) (stands r)
stands (prints {p = p} {phase = phase} h e r) = gives_stands (rw e at (turn_says h phase p)) (stands r)

listed : {s : List ℕ} {rows : List Answer} → Stands s P.Lead 0 rows → Listing s rows
listed (at_lead x) = record { first = x.first; leads = x.leads; lists = x.lists }

pub streams : Streams turn_move
unfolding Streams
streams s rows r = listed (stands r)
