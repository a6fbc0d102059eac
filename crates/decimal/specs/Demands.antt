-- What is asked of any reader and any printer of decimals, as functions on lists (docs/STATEMENTS.md). Assumes nothing.
use Rattle.std.specs.Prelude.{ℕ, ◌+◌, ◌<◌, ◌≤◌, ◌≡◌, true, ◌↔◌, List, [], ◌∷◌, ◌++◌, length, get_or, take}
use Rattle.std.proofs.Math.Option.{Option, some}
use Rattle.text.specs.Answer.{Answer, says}
use Rattle.decimal.specs.Decimal.{all_digits, worth}

-- one digit or more, worth n
pub record Digits (s : List ℕ) (n : ℕ) : Type 0 where
  pub one : 0 < length s
  pub digits : all_digits s ≡ true
  pub value : worth s ≡ n

-- such digits, worth not too much
abbrev pub Alone : List ℕ → ℕ → Type 0
Alone s n = Digits s n × (n ≤ 18446744073709551615)

-- such digits, or '+' and such digits, worth not too much
pub data Decimal : List ℕ → ℕ → Type 0 where
  bare : {s : List ℕ} {n : ℕ} → Digits s n → n ≤ 18446744073709551615 → Decimal s n
  signed : {s : List ℕ} {n : ℕ} → Digits s n → n ≤ 18446744073709551615 → Decimal (43 ∷ s) n

-- such digits without leading zeros: the first of several is not '0'
pub record Plain (s : List ℕ) (n : ℕ) : Type 0 where
  pub spelled : Digits s n
  pub lead : 1 < length s → get_or s 0 0 ≡ 48 → ⊥

-- the reader gives n exactly for the texts that are a decimal worth n
unfoldable pub ReadsDecimals : (List ℕ → Option ℕ) → Type 0
ReadsDecimals read = (t : List ℕ) (n : ℕ) → (read t ≡ some n) ↔ Decimal t n

-- the same of digits alone
abbrev pub ReadsAlone : (List ℕ → Option ℕ) → Type 0
ReadsAlone read = (t : List ℕ) (n : ℕ) → (read t ≡ some n) ↔ Alone t n

-- a leading zero changes nothing, neither at the start nor behind '+', so no number of them does
pub record PassesZeros (read : List ℕ → Option ℕ) : Type 0 where
  pub bare : (b : ℕ) (s : List ℕ) → (b ≡ 43 → ⊥) → read (48 ∷ b ∷ s) ≡ read (b ∷ s)
  pub signed : (b : ℕ) (s : List ℕ) → read (43 ∷ 48 ∷ b ∷ s) ≡ read (43 ∷ b ∷ s)

-- what is printed reads back as the number
abbrev pub ReadsBack : (ℕ → List ℕ) → (List ℕ → Option ℕ) → Type 0
ReadsBack print read = (n : ℕ) → n ≤ 18446744073709551615 → read (print n) ≡ some n

-- every other text that reads as the number is longer than what is printed
abbrev pub NoneShorter : (ℕ → List ℕ) → (List ℕ → Option ℕ) → Type 0
NoneShorter print read = (n : ℕ) (t : List ℕ) → read t ≡ some n → (t ≡ print n → ⊥) → length (print n) < length t

-- ---- which byte is at fault

-- the text reads as some number
pub record Readable (reads : List ℕ → ℕ → Type 0) (t : List ℕ) : Type 0 where
  pub value : ℕ
  pub is : reads t value

-- these bytes begin some text that can be read
pub record Begun (can : List ℕ → Type 0) (t : List ℕ) : Type 0 where
  pub rest : List ℕ
  pub read : can (t ++ rest)

-- the bytes before place k begin some text that can be read, and with the byte at k they begin none; where k is the length, the
-- whole text begins one
pub record FaultAt (can : List ℕ → Type 0) (t : List ℕ) (k : ℕ) : Type 0 where
  pub within : k ≤ length t
  pub before : Begun can (take k t)
  pub there : k < length t → Begun can (take (k + 1) t) → ⊥

-- the reader answers a number with the place k exactly for the texts that can't be read and have their first fault there: nothing
-- before k is to blame, and nothing that follows could have mended it
abbrev pub FirstFault : (List ℕ → Type 0) → ℕ → (List ℕ → Answer) → Type 0
FirstFault can number read = (t : List ℕ) (k : ℕ) → (read t ≡ says number (k ∷ [])) ↔ ((can t → ⊥) × FaultAt can t k)

-- 0 and n exactly for the texts that read as n; 12 and the place of the first fault for all others
pub record Meets (reads : List ℕ → ℕ → Type 0) (read : List ℕ → Answer) : Type 0 where
  pub values : (t : List ℕ) (n : ℕ) → (read t ≡ says 0 (n ∷ [])) ↔ reads t n
  pub faults : FirstFault (Readable reads) 12 read

-- two readers that do so give one answer for every text
unfoldable pub OneReader : (List ℕ → ℕ → Type 0) → Type 0
OneReader reads = (read other : List ℕ → Answer) → Meets reads read → Meets reads other → (t : List ℕ) → read t ≡ other t
