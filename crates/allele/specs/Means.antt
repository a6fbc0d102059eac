-- What a genotype text means, and where it means nothing, as relations (docs/RULES.md, "Genotypes"). Assumes nothing.
use Rattle.std.specs.Prelude.{ℕ, ◌+◌, ◌<◌, ◌≡◌, Bool, true, false, ◌&&◌, List, [], ◌∷◌, ◌++◌, length}
use Rattle.decimal.specs.Demands.{Decimal, Readable, FaultAt}
use Rattle.pieces.specs.Pieces.{lacks}
use Rattle.pieces.specs.Demands.{Free}
use Rattle.allele.specs.declared.allele.Allele.{Allele}

-- the mark of a phasing: `|` is phased, `/` unphased
abbrev pub mark_byte : Bool → ℕ
mark_byte true = 124
mark_byte false = 47

-- an allele without its mark: `.`, or a decimal
pub data Body : List ℕ → Allele → Type 0 where
  dot : {phased : Bool} → Body (46 ∷ []) (record { number = 0; missing = true; phased = phased })
  number : {t : List ℕ} {n : ℕ} {phased : Bool} → Decimal t n → Body t (record { number = n; missing = false; phased = phased })

-- the alleles after the first, each with its mark
pub data Later : List ℕ → List Allele → Type 0 where
  none : Later [] []
  more : {b : ℕ} {t rest : List ℕ} {a : Allele} {as' : List Allele} → b ≡ mark_byte a.phased → Body t a → Later rest as' → Later (b ∷ t ++ rest) (a ∷ as')

-- whether every allele is phased: the phasing that these imply for one before them
unfoldable pub all_phased : List Allele → Bool
all_phased [] = true
all_phased (a ∷ as') = a.phased && all_phased as'

-- the first has its mark; or none, where its phasing is the implied one
pub data Means : List ℕ → List Allele → Type 0 where
  marked : {b : ℕ} {t rest : List ℕ} {a : Allele} {as' : List Allele} → b ≡ mark_byte a.phased → Body t a → Later rest as' → Means (b ∷ t ++ rest) (a ∷ as')
  bare : {t rest : List ℕ} {a : Allele} {as' : List Allele} → a.phased ≡ all_phased as' → Body t a → Later rest as' → Means (t ++ rest) (a ∷ as')

-- ---- one piece

-- where a piece ends: at the text's end, or before a mark
pub data Ends : List ℕ → Type 0 where
  at_end : Ends []
  at_mark : {b : ℕ} {rest : List ℕ} (phased : Bool) → b ≡ mark_byte phased → Ends (b ∷ rest)

-- the allele that begins a text, and how many bytes it takes: with its mark; or without, and then phased where the rest has no `/`
pub data Begins : List ℕ → Allele → ℕ → Type 0 where
  with_mark : {b : ℕ} {t rest : List ℕ} {a : Allele} → b ≡ mark_byte a.phased → Body t a → Ends rest → Begins (b ∷ t ++ rest) a (length (b ∷ t))
  without : {t rest : List ℕ} {a : Allele} → a.phased ≡ lacks 47 rest → Body t a → Ends rest → Begins (t ++ rest) a (length t)

-- ---- texts that mean none

-- what is left of a piece is no allele, and the decimal that is read there has its first fault at o
pub record Bad (t rest : List ℕ) (o : ℕ) : Type 0 where
  pub no_bar : Free 124 t
  pub no_slash : Free 47 t
  pub ends : Ends rest
  pub no_body : (a : Allele) → Body t a → ⊥
  pub fault : FaultAt (Readable Decimal) t o

-- of pieces with their marks the one with index k is the first that is no allele, and o is the place of its fault
pub data BrokenLater : List ℕ → ℕ → ℕ → Type 0 where
  bad_here : {b : ℕ} {t rest : List ℕ} {o : ℕ} (phased : Bool) → b ≡ mark_byte phased → Bad t rest o → BrokenLater (b ∷ t ++ rest) 0 (1 + o)
  bad_later : {b : ℕ} {t rest : List ℕ} {a : Allele} {k o : ℕ} → b ≡ mark_byte a.phased → Body t a → BrokenLater rest k o
      → BrokenLater (b ∷ t ++ rest) (k + 1) (length (b ∷ t) + o)

-- and of any text: the first piece has its mark, or none
pub data Broken : List ℕ → ℕ → ℕ → Type 0 where
  bad_marked : {t : List ℕ} {k o : ℕ} → BrokenLater t k o → Broken t k o
  bad_bare : {t rest : List ℕ} {o : ℕ} → 0 < length t → Bad t rest o → Broken (t ++ rest) 0 o
  bad_after : {t rest : List ℕ} {a : Allele} {k o : ℕ} → Body t a → BrokenLater rest k o → Broken (t ++ rest) (k + 1) (length t + o)
