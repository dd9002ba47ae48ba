-- A text with words: each line as it is, and behind a line that says something a tab and its sentence. A line has its words before its end.
use Rattle.std.specs.Prelude.{◌≡◌, ℕ, nat_eq, nat_le, if◌then◌else◌, List, [], ◌∷◌, ◌++◌, map, length, Option, Some, None}
use Rattle.std.specs.List.{concat}
use Rattle.pef_words.specs.declared.said.Said.{Said}
use Rattle.pef_words.specs.Said.{words_for}
use Rattle.pef_words.specs.Lines.{said_of_line}

-- a tab and a sentence, or nothing
abbrev pub behind_tab : Option Said → List ℕ
behind_tab (Some said) = 9 ∷ words_for said
behind_tab None = []

-- what is put behind a line: a longer line than 1,199 octets says nothing
unfoldable pub added : List ℕ → List ℕ
added line = if nat_le (length line) 1199 then behind_tab (said_of_line line) else []

-- a line with its words and its end
abbrev pub worded_line : List ℕ → List ℕ
worded_line line = line ++ added line ++ 10 ∷ []

-- the end of the last line, where it lacks it and words are put behind it
abbrev pub end_for : List ℕ → List ℕ
end_for [] = []
end_for (octet ∷ words) = octet ∷ words ++ 10 ∷ []

-- a text whose first line begins with these octets
abbrev pub worded_from : List ℕ → List ℕ → List ℕ
worded_from line [] = line ++ end_for (added line)
worded_from line (octet ∷ text) = if nat_eq octet 10 then worded_line line ++ worded_from [] text else worded_from (line ++ octet ∷ []) text

abbrev pub worded : List ℕ → List ℕ
worded text = worded_from [] text

-- The one text is in the other, octet by octet and in its order: they have the same parts, and the other has octets behind them.
abbrev pub IsKeptIn : List ℕ → List ℕ → Type 0
IsKeptIn text other = (parts : List (List ℕ × List ℕ)) × (text ≡ concat (map (λ part. part.0) parts)) × (other ≡ concat (map (λ part. part.0 ++ part.1) parts))
