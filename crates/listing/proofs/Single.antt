-- At each place at most one step leads on, and at most one row is found; so two listings agree step by step. Assumes nothing.
use Prim.Native.Nat.{ℕ}
use mathlib.Core.Path.{◌≡◌, refl, sym, ◌∙◌}
use mathlib.Core.Bool.{true≢false}
use mathlib.Core.List.{List}
use Rattle.text.specs.Answer.{Answer}
use Rattle.listing.specs.Listing.{Leads, none, one, Rows, end, row}
use Rattle.listing.specs.Demands.{Single}

leads_same : {s : List ℕ} {at a b : ℕ} → Leads s at a → Leads s at b → a ≡ b
leads_same (none e) (none f) = refl
leads_same (none e) (one f l) = absurd (true≢false (sym f ∙ e))
leads_same (one e l) (none f) = absurd (true≢false (sym e ∙ f))
leads_same (one e l) (one f m) = leads_same l m

rows_same : {s : List ℕ} {at : ℕ} {a b : List Answer} → Rows s at a → Rows s at b → a ≡ b
rows_same (end e) (end f) = refl
rows_same (end e) (row n r) = absurd (n e)
rows_same (row n r) (end f) = absurd (n f)
rows_same (row n r) (row m q) = rw (rows_same r q)

pub single : Single
single s a b x y = rows_same x.lists (rw (leads_same x.leads y.leads) y.lists)
