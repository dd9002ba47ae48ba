-- How far a text is worded, while it comes in pieces.
use Rattle.std.specs.Prelude.{◌≡◌, ℕ, ◌<◌, nat_eq, Bool, true, false, if◌then◌else◌, List, [], ◌∷◌, ◌++◌, length, Option, Some}
use Rattle.pef_words.specs.declared.wording.Wording.{Wording}
use Rattle.pef_words.specs.Worded.{worded_line, worded_from}

-- the rest of a line that is too long for words, and then the other lines
abbrev pub passed : List ℕ → List ℕ
passed [] = []
passed (octet ∷ text) = octet ∷ (if nat_eq octet 10 then worded_from [] text else passed text)

-- what is still to be written behind octets that are held, where this text follows them
abbrev pub owed_by : Bool → List ℕ → List ℕ → List ℕ
owed_by true held text = held ++ passed text
owed_by false held text = worded_from held text

abbrev pub owed : Wording → List ℕ → List ℕ
owed wording text = owed_by wording.passes wording.held text

-- a line with its end, of which the octets before these may be written
abbrev pub ended_line : Bool → List ℕ → List ℕ
ended_line true held = held ++ 10 ∷ []
ended_line false held = worded_line held

-- What was written since is the first part of what was owed, and this is still owed.
abbrev pub Paid : Option (List ℕ) → Option (List ℕ) → List ℕ → List ℕ → Type 0
Paid before after old new = (text : List ℕ) → before ≡ Some text → (part : List ℕ) × (after ≡ Some (text ++ part)) × (old ≡ part ++ new)

-- Some first part of what was owed was written.
abbrev pub PaidPart : Option (List ℕ) → Option (List ℕ) → List ℕ → Type 0
PaidPart before after old = (text : List ℕ) → before ≡ Some text → (part : List ℕ) × (after ≡ Some (text ++ part)) × ((rest : List ℕ) × (old ≡ part ++ rest))

-- What one step of a call does, by whether more is to come: it takes an octet or more and pays what they add, or finds the end and pays all.
pub record Steps (left_old left_new written_old written_new : Option (List ℕ)) (old new : Wording) (more : Bool) : Type 0 where
  pub goes_on : more ≡ true → (text : List ℕ) → left_old ≡ Some text
      → (rest : List ℕ) × (left_new ≡ Some rest) × (length rest < length text) × Paid written_old written_new (owed old text) (owed new rest)
  pub over : more ≡ false → (text : List ℕ) → left_old ≡ Some text → Paid written_old written_new (owed old text) []
