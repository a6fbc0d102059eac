-- What demand 3 asks of any line reader, as a function on lists (docs/RULES.md, "A line"; docs/STATEMENTS.md). Assumes nothing.
use Rattle.std.specs.Prelude.{ℕ, ◌+◌, ◌-◌, ◌*◌, ◌<◌, ◌≤◌, ◌≡◌, Bool, true, false, ◌⊎◌, ◌↔◌, length, get_or, take, drop, Ok}
use mathlib.Core.List.{List, [], ◌∷◌, ◌++◌, flatten}
use Rattle.text.specs.Answer.{Answer, says, number_of, values_of}
use Rattle.text.specs.Bytes.{ends_in}
use Rattle.text.specs.Demands.{Characters}
use Rattle.pieces.specs.Pieces.{joined}
use Rattle.pieces.specs.Demands.{Free, start_in}
use Rattle.record.specs.Ending.{Ending, nothing, feed, return_feed, ending_bytes, ending_number}
use Rattle.record.specs.Paper.{ending_of}
use Rattle.record.specs.Promises.{GivesEnding}
use Rattle.record.specs.declared.ending.Ending.{Ending as DeclaredEnding}
use Rattle.record.specs.declared.place.Record.{Record}
use Rattle.line.specs.Line.{all_utf8}
use Rattle.line.specs.Promises.{ReadsLine}

-- INFO and the samples may be the last column, k counted from 1; columns 1 to 7, and FORMAT, must be ended by a tab
abbrev pub MayEnd : ℕ → Type 0
MayEnd k = (k ≡ 8) ⊎ (10 ≤ k)

-- not empty, free of tab and LF
pub record Column (c : List ℕ) : Type 0 where
  pub some : 0 < length c
  pub no_tab : Free 9 c
  pub no_feed : Free 10 c

-- the ending after a text and before a rest: CR LF; or LF where the text doesn't end in CR; or nothing where nothing is left
pub data Ended (t : List ℕ) : Ending → List ℕ → Type 0 where
  by_nothing : Ended t nothing []
  by_feed : {rest : List ℕ} → ends_in 13 t ≡ false → Ended t feed rest
  by_return_feed : {rest : List ℕ} → Ended t return_feed rest

-- a text free of LF, then its ending, then the rest, are the input
pub record LineCut (s t : List ℕ) (e : Ending) (rest : List ℕ) : Type 0 where
  pub whole : t ++ (ending_bytes e ++ rest) ≡ s
  pub unfed : Free 10 t
  pub ended : Ended t e rest

-- the columns, eight or at least ten, joined by tabs, then the ending, then the rest, are the input
pub record Shaped (s : List ℕ) (cs : List (List ℕ)) (e : Ending) (rest : List ℕ) : Type 0 where
  pub count : MayEnd (length cs)
  pub each : (i : ℕ) → i < length cs → Column (get_or cs i [])
  pub whole : joined 9 cs ++ (ending_bytes e ++ rest) ≡ s
  pub ended : Ended (joined 9 cs) e rest

-- and each is UTF-8
pub record Begins (s : List ℕ) (cs : List (List ℕ)) (e : Ending) (rest : List ℕ) : Type 0 where
  pub shaped : Shaped s cs e rest
  pub utf8 : all_utf8 cs ≡ true

-- a reader is given an input and a place, and answers on paper
abbrev pub Reader : Type 0
Reader = List ℕ → ℕ → Answer

-- ---- the line at a place

-- the answer 0 has where the text from `at` on ends, its ending, and the place past both
pub record Extends (s : List ℕ) (at : ℕ) (a : Answer) : Type 0 where
  pub text : List ℕ
  pub ending : Ending
  pub rest : List ℕ
  pub parts : LineCut (drop at s) text ending rest
  pub is : a ≡ says 0 ((at + length text) ∷ ending_number ending ∷ (at + length text + length (ending_bytes ending)) ∷ [])

-- so it is at every place of the input and at its end; beyond, and only there, the answer is 6
pub record Extents (find : Reader) : Type 0 where
  pub beyond : (s : List ℕ) (at : ℕ) → length s < at → find s at ≡ says 6 []
  pub inside : (s : List ℕ) (at : ℕ) → at ≤ length s → Extends s at (find s at)

-- two that do so give one answer, with all its values, at every place of every input
unfoldable pub OneFinder : Type 0
OneFinder = (find other : Reader) → Extents find → Extents other → (s : List ℕ) (at : ℕ) → find s at ≡ other s at

-- ---- exact

pub record Refuses (a : Answer) : Type 0 where
  pub two : 2 ≤ number_of a
  pub five : number_of a ≤ 5

-- from a place in the input it refuses, with 2, 3, 4 or 5, exactly when no columns begin what is left
unfoldable pub Exact : Reader → Type 0
Exact read = (s : List ℕ) (at : ℕ) → at < length s → Refuses (read s at) ↔ ((cs : List (List ℕ)) (e : Ending) (rest : List ℕ) → Begins (drop at s) cs e rest → ⊥)

-- ---- one

-- place i of a list of starts and lengths has this start and this length
pub record Lies (places : List ℕ) (i start size : ℕ) : Type 0 where
  pub starts : get_or places (2 * i) 0 ≡ start
  pub sized : get_or places (2 * i + 1) 0 ≡ size

-- the ten places of columns that start at a place: each column's own start and length, the samples as one;
-- of eight columns FORMAT and the samples are empty, at the end of the text
pub record TenPlaces (places : List ℕ) (at : ℕ) (cs : List (List ℕ)) : Type 0 where
  pub ten : length places ≡ 20
  pub eight : (i : ℕ) → i < 8 → Lies places i (at + start_in cs i) (length (get_or cs i []))
  pub bare : length cs ≡ 8 → drop 16 places ≡ (at + length (joined 9 cs)) ∷ 0 ∷ (at + length (joined 9 cs)) ∷ 0 ∷ []
  pub format : 10 ≤ length cs → Lies places 8 (at + start_in cs 8) (length (get_or cs 8 []))
  pub samples : 10 ≤ length cs → Lies places 9 (at + start_in cs 9) (length (joined 9 (drop 9 cs)))

-- the answer 0 stands for these columns, with this ending and rest, and for no others: it says the next place, which is just past the
-- ending, then the ending, then the places
pub record Stands (s : List ℕ) (at : ℕ) (a : Answer) : Type 0 where
  pub columns : List (List ℕ)
  pub ending : Ending
  pub rest : List ℕ
  pub places : List ℕ
  pub begin : Begins (drop at s) columns ending rest
  pub only : (cs : List (List ℕ)) (e : Ending) (r : List ℕ) → Begins (drop at s) cs e r → (cs ≡ columns) × (e ≡ ending) × (r ≡ rest)
  pub values : values_of a ≡ (at + length (joined 9 columns) + length (ending_bytes ending)) ∷ ending_number ending ∷ places
  pub lie : TenPlaces places at columns

unfoldable pub One : Reader → Type 0
One read = (s : List ℕ) (at : ℕ) → number_of (read s at) ≡ 0 → Stands s at (read s at)

-- ---- the ending

-- a record that the line reader made has the ending with which columns begin what is left
unfoldable pub TellsEnding : Type 0
TellsEnding = (s : List ℕ) (at next : ℕ) (r : Record) (x : DeclaredEnding) → ReadsLine s at (Ok (r, next)) → GivesEnding r x
    → (cs : List (List ℕ)) (e : Ending) (rest : List ℕ) → Begins (drop at s) cs e rest → ending_of x ≡ e

-- ---- faults

-- column k begins this text and is bad: the number that refuses it, and the bytes through its terminator
-- 2: empty and ended by a tab; or empty, but for a CR, and ended by LF where it may be the last
-- 3: ended by LF where it may not be the last
-- 4: cut by the end of the input where it may not be the last, or empty there
pub data Bad (k : ℕ) : List ℕ → ℕ → ℕ → Type 0 where
  empty_tabbed : {rest : List ℕ} → Bad k (9 ∷ rest) 2 1
  empty_fed : {rest : List ℕ} → MayEnd k → Bad k (10 ∷ rest) 2 1
  empty_returned : {rest : List ℕ} → MayEnd k → Bad k (13 ∷ 10 ∷ rest) 2 2
  early_fed : (c rest : List ℕ) → (MayEnd k → ⊥) → Free 9 c → Free 10 c → Bad k (c ++ 10 ∷ rest) 3 (length c + 1)
  early_cut : {c : List ℕ} → (MayEnd k → ⊥) → Free 9 c → Free 10 c → Bad k c 4 (length c)
  empty_cut : Bad k [] 4 0

-- these columns begin the input, each ended by a tab, and then this is left
pub record Behind (s : List ℕ) (cs : List (List ℕ)) (left : List ℕ) : Type 0 where
  pub each : (i : ℕ) → i < length cs → Column (get_or cs i [])
  pub whole : joined 9 (cs ++ left ∷ []) ≡ s

-- what refuses the line at a place, and where to go on: its first bad column, and past that column's terminator;
-- or, where no column is bad, that not all are UTF-8, and past the line
pub data Faulty (s : List ℕ) (at : ℕ) : ℕ → ℕ → Type 0 where
  bad_column : {cs : List (List ℕ)} {left : List ℕ} {number bytes : ℕ} → Behind (drop at s) cs left → Bad (1 + length cs) left number bytes
      → Faulty s at number (at + start_in cs (length cs) + bytes)
  not_text : {cs : List (List ℕ)} {e : Ending} {rest : List ℕ} → Shaped (drop at s) cs e rest → all_utf8 cs ≡ false
      → Faulty s at 5 (at + length (joined 9 cs) + length (ending_bytes e))

-- from a place in the input it answers a number and a next place, and nothing more, exactly when the line is so faulty
unfoldable pub Faults : Reader → Type 0
Faults read = (s : List ℕ) (at : ℕ) → at < length s → (number next : ℕ) → (read s at ≡ says number (next ∷ [])) ↔ Faulty s at number next

-- ---- moves on

-- the first LF of s from the place at on is at the place `feed`
pub record FirstFeed (s : List ℕ) (at feed : ℕ) : Type 0 where
  pub after : at ≤ feed
  pub within : feed < length s
  pub is : get_or s feed 0 ≡ 10
  pub first : (k : ℕ) → at ≤ k → k < feed → get_or s k 0 ≡ 10 → ⊥

-- no LF from the place on
unfoldable pub NoFeed : List ℕ → ℕ → Type 0
NoFeed s at = (k : ℕ) → at ≤ k → k < length s → get_or s k 0 ≡ 10 → ⊥

-- past the line: past its LF, or the end of the input
pub data PastLine (s : List ℕ) (at : ℕ) : ℕ → Type 0 where
  past_feed : {feed : ℕ} → FirstFeed s at feed → PastLine s at (feed + 1)
  at_end : NoFeed s at → PastLine s at (length s)

-- a tab at k ends an empty column: it stands at the place itself, or after a tab
pub record EmptyTab (s : List ℕ) (at k : ℕ) : Type 0 where
  pub after : at ≤ k
  pub is : get_or s k 0 ≡ 9
  pub empty : (k ≡ at) ⊎ ((at < k) × (get_or s (k - 1) 0 ≡ 9))

-- past the first such tab, which stands in the line
pub record PastTab (s : List ℕ) (at next : ℕ) : Type 0 where
  pub tab : ℕ
  pub past : next ≡ tab + 1
  pub within : tab < length s
  pub here : EmptyTab s at tab
  pub first : (k : ℕ) → k < tab → EmptyTab s at k → ⊥
  pub unfed : (k : ℕ) → at ≤ k → k < tab → get_or s k 0 ≡ 10 → ⊥

-- where each number goes on: 1 and 6 at the place given, 0 and 5 past the line, 3 past its LF, 4 at the end of the input,
-- 2 past the first tab that ends an empty column, or past the LF where there is none
pub data GoesOn (s : List ℕ) (at : ℕ) : ℕ → ℕ → Type 0 where
  stays_1 : at ≡ length s → GoesOn s at 1 at
  stays_6 : length s < at → GoesOn s at 6 at
  line_0 : {next : ℕ} → PastLine s at next → GoesOn s at 0 next
  line_5 : {next : ℕ} → PastLine s at next → GoesOn s at 5 next
  feed_2 : {feed : ℕ} → FirstFeed s at feed → ((k : ℕ) → k < feed → EmptyTab s at k → ⊥) → GoesOn s at 2 (feed + 1)
  tab_2 : {next : ℕ} → PastTab s at next → GoesOn s at 2 next
  feed_3 : {feed : ℕ} → FirstFeed s at feed → GoesOn s at 3 (feed + 1)
  end_4 : NoFeed s at → GoesOn s at 4 (length s)

-- the next place is the answer's first value, and its only one where the number is not 0, is as its number says, and lies further on for every number but 1 and 6
pub record Moved (s : List ℕ) (at : ℕ) (a : Answer) : Type 0 where
  pub next : ℕ
  pub others : List ℕ
  pub values : values_of a ≡ next ∷ others
  pub alone : (number_of a ≡ 0 → ⊥) → others ≡ []
  pub goes : GoesOn s at (number_of a) next
  pub further : (number_of a ≡ 1 → ⊥) → (number_of a ≡ 6 → ⊥) → at < next
  pub within : (number_of a ≡ 6 → ⊥) → next ≤ length s

unfoldable pub MovesOn : Reader → Type 0
MovesOn read = (s : List ℕ) (at : ℕ) → Moved s at (read s at)

-- ---- all of it

pub record Meets (read : Reader) : Type 0 where
  pub exact : Exact read
  pub one : One read
  pub faults : Faults read
  pub moves_on : MovesOn read

-- two readers that meet these four give one answer, with all its values, from every place of every input
unfoldable pub OneReader : Type 0
OneReader = (read other : Reader) → Meets read → Meets other → (s : List ℕ) (at : ℕ) → read s at ≡ other s at

-- ---- window

-- places, of which every second number is a start, d further on
unfoldable pub moved_places : ℕ → List ℕ → List ℕ
moved_places d [] = []
moved_places d (start ∷ []) = (start + d) ∷ []
moved_places d (start ∷ len ∷ places) = (start + d) ∷ len ∷ moved_places d places

-- the next place and the starts of an answer, d further on; the ending stays
unfoldable pub moved : ℕ → Answer → Answer
moved d (says n []) = says n []
moved d (says n (next ∷ [])) = says n ((next + d) ∷ [])
moved d (says n (next ∷ ending ∷ places)) = says n ((next + d) ∷ ending ∷ moved_places d places)

-- a buffer holds from p on what the input holds from at on: through the first LF, or to the input's end
pub data Window (s : List ℕ) (at : ℕ) (w : List ℕ) (p : ℕ) : Type 0 where
  through_feed : {feed : ℕ} → FirstFeed s at feed → p + (feed + 1 - at) ≤ length w
      → take (feed + 1 - at) (drop p w) ≡ take (feed + 1 - at) (drop at s) → Window s at w p
  to_end : at ≤ length s → p ≤ length w → drop p w ≡ drop at s → Window s at w p

-- the answer from the buffer, its places counted from p, is the answer from the input, its places counted from at; with the same ending
unfoldable pub Windowed : Reader → Type 0
Windowed read = (s : List ℕ) (at : ℕ) (w : List ℕ) (p : ℕ) → Window s at w p → moved at (read w p) ≡ moved p (read s at)

-- ---- columns and the whole

-- a text is UTF-8 exactly when each piece between tabs is
unfoldable pub ByColumns : (List ℕ → Bool) → (List (List ℕ) → Bool) → (List ℕ → List (List ℕ)) → Type 0
ByColumns check all columns = (t : List ℕ) → check t ≡ all (columns t)

-- ---- the first nine tabs

-- the columns with the first nine tabs out: the text that the Rust checks
unfoldable pub untabbed : List (List ℕ) → List ℕ
untabbed cs = flatten (take 9 cs) ++ joined 9 (drop 9 cs)

-- the characters of that text, of which none stands across one of these tabs: the first so many are the columns before it
pub record Uncrossed (cs : List (List ℕ)) : Type 0 where
  pub chars : List (List ℕ)
  pub are : Characters (untabbed cs) chars
  pub each : (i : ℕ) → i < length cs → i ≤ 9 → (n : ℕ) × (flatten (take n chars) ≡ flatten (take i cs))

-- each column is UTF-8 exactly when that text is, with no character across one of these tabs
unfoldable pub WithoutTabs : Type 0
WithoutTabs = (cs : List (List ℕ)) → (all_utf8 cs ≡ true) ↔ Uncrossed cs
