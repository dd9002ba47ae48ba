-- What a reader finds in a text.
use Rattle.std.specs.Prelude.{◌≡◌, ℕ, ◌<◌, ◌≤◌, List, [], ◌∷◌, ◌++◌, length, Option, Some, None}
use Rattle.script_text.specs.Lines.{lines_of, line_limit, behind_line, ends}
use Rattle.script_text.specs.declared.reader.Found.{Found}
use Rattle.script_text.specs.declared.reader.Found.TheVariants.{Line, TooLong, End}

-- what is left of the text: the octets that the reader holds, and then those that the source has
pub record HasLeft (held : List ℕ) (source : Option (List ℕ)) (text : List ℕ) : Type 0 where
  pub rest : List ℕ
  pub unread : source ≡ Some rest
  pub whole : text ≡ held ++ rest

-- the next octet is handed out, or there is none
abbrev pub GivesOctet : List ℕ → List ℕ → Option (List ℕ) → Option ℕ → Type 0
GivesOctet text held source (Some octet) = (rest : List ℕ) × (text ≡ octet ∷ rest) × HasLeft held source rest
GivesOctet text held source None = (text ≡ []) × HasLeft held source []

-- the next line is named, and the text behind it is left
pub record NamesLine (text held : List ℕ) (source : Option (List ℕ)) (line : List ℕ) : Type 0 where
  pub left : HasLeft held source (behind_line text)
  pub lines : lines_of text ≡ line ∷ lines_of (behind_line text)
  pub fits : length line ≤ line_limit

-- the next line has more octets than a line may have
pub record IsTooLong (text : List ℕ) : Type 0 where
  pub line : List ℕ
  pub more : List (List ℕ)
  pub lines : lines_of text ≡ line ∷ more
  pub long : line_limit < length line

abbrev pub Finds : List ℕ → List ℕ → Option (List ℕ) → List ℕ → Found → Type 0
Finds text held source line Line = NamesLine text held source line
Finds text held source line TooLong = IsTooLong text
Finds text held source line End = lines_of text ≡ []

-- What a failed read of a line leaves: what was handed out since is no whole line.
pub record FailsWithin (text : List ℕ) (source : Option (List ℕ)) : Type 0 where
  pub left : List ℕ
  pub unread : source ≡ Some left
  pub front : List ℕ
  pub whole : text ≡ front ++ left
  pub no_end : ends front ≡ 0
