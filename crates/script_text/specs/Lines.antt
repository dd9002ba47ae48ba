-- The lines of a text.
use Rattle.std.specs.Prelude.{◌≡◌, ◌≢◌, ◌⊎◌, ⊤, ℕ, zero, suc, ◌+◌, Bool, false, ◌&&◌, nat_eq, if◌then◌else◌, List, [], ◌∷◌, ◌++◌}

abbrev pub begins_with : ℕ → List ℕ → Bool
begins_with b [] = false
begins_with b (c ∷ text) = nat_eq c b

-- an octet more at the front of the first line
abbrev pub onto_first : ℕ → List (List ℕ) → List (List ℕ)
onto_first b [] = (b ∷ []) ∷ []
onto_first b (line ∷ lines) = (b ∷ line) ∷ lines

-- The lines without their ends. A line ends with 0Ah, and a 0Dh right before it belongs to its end; the last may lack its end.
abbrev pub lines_of : List ℕ → List (List ℕ)
lines_of [] = []
lines_of (b ∷ text) =
    if nat_eq b 10 then [] ∷ lines_of text
    else if nat_eq b 13 && begins_with 10 text then lines_of text
    else onto_first b (lines_of text)

-- the longest line in octets, without its end
abbrev pub line_limit : ℕ
line_limit = 1200

-- the text behind its first line
abbrev pub behind_line : List ℕ → List ℕ
behind_line [] = []
behind_line (b ∷ text) = if nat_eq b 10 then text else behind_line text

-- the text behind its first n lines
abbrev pub behind_lines : ℕ → List ℕ → List ℕ
behind_lines zero text = text
behind_lines (suc n) text = behind_lines n (behind_line text)

-- how many of these octets are 0Ah
abbrev pub ends : List ℕ → ℕ
ends [] = 0
ends (b ∷ text) = if nat_eq b 10 then 1 + ends text else ends text

-- the octets without one such octet at their end
abbrev pub without_last : ℕ → List ℕ → List ℕ
without_last e [] = []
without_last e (b ∷ []) = if nat_eq b e then [] else b ∷ []
without_last e (b ∷ c ∷ line) = b ∷ without_last e (c ∷ line)

-- no 0Ah is among these octets
abbrev pub HasNoEnd : List ℕ → Type 0
HasNoEnd [] = ⊤
HasNoEnd (b ∷ line) = (b ≢ 10) × HasNoEnd line

-- A line with its end, and then the rest of a text. What ends with 0Dh 0Ah isn't a line with a 0Dh and then 0Ah.
abbrev pub IsEnded : List ℕ → List ℕ → List ℕ → Type 0
IsEnded line rest text = ((text ≡ line ++ 10 ∷ rest) × ((front : List ℕ) → line ≢ front ++ 13 ∷ [])) ⊎ (text ≡ line ++ 13 ∷ 10 ∷ rest)

-- The same lines as a spelling: each has no 0Ah in it and is ended, but for the last, which may lack its end where it isn't empty.
abbrev pub SpellsLines : List (List ℕ) → List ℕ → Type 0
SpellsLines [] text = text ≡ []
SpellsLines (line ∷ lines) text =
    HasNoEnd line × (((rest : List ℕ) × IsEnded line rest text × SpellsLines lines rest) ⊎ ((lines ≡ []) × (text ≡ line) × (line ≢ [])))
