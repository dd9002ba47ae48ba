-- What a script says: its head, the items that its lines give, and its first bad line. A line between the head and the end is
-- the machine's: `item_of` says which item it gives, if any.
use Rattle.std.specs.Prelude.{◌≡◌, ◌≢◌, ⊤, ℕ, zero, suc, ◌+◌, ◌≤◌, nat_le, true, bytes_eq, if◌then◌else◌, List, [], ◌∷◌, ◌++◌, length, map, Option, Some, None}
use Rattle.script_text.specs.Lines.{lines_of, line_limit}
use Rattle.script_text.specs.Forms.{words_of, is_end, octets_exactly, count_of, number_of}
use Rattle.script_text.specs.declared.head.Head.{Head}

abbrev pub head_with : Option (List ℕ) → Option ℕ → Option Head
head_with (Some octets) (Some count) = Some (record { id = number_of octets; count = count })
head_with (Some octets) None = None
head_with None count = None

abbrev pub head_of_words : List ℕ → List (List ℕ) → Option Head
head_of_words word [] = None
head_of_words word (first ∷ []) = None
head_of_words word (first ∷ id ∷ []) = None
head_of_words word (first ∷ id ∷ count ∷ []) = if bytes_eq first word then head_with (octets_exactly 4 id) (count_of count) else None
head_of_words word (first ∷ id ∷ count ∷ other ∷ more) = None

-- the head that a line is, with this word: `<word> <id, 8 hexadecimal digits> <count>`; a line that is too long is none
abbrev pub head_of : List ℕ → List ℕ → Option Head
head_of word line = if nat_le (length line) line_limit then head_of_words word (words_of line) else None

-- the item that a line gives: none where it is `end` or too long
abbrev pub item_in : {I : Type 0} → (List ℕ → Option I) → List ℕ → Option I
item_in item_of line = if is_end line then None else if nat_le (length line) line_limit then item_of line else None

-- what lines give: the items before the first bad line, and its number where there is one
pub record Given (I : Type 0) : Type 0 where
  pub items : List I
  pub bad : Option ℕ

abbrev pub bad_at : {I : Type 0} → ℕ → Given I
bad_at number = record { items = []; bad = Some number }

abbrev pub give_item : {I : Type 0} → I → Given I → Given I
give_item item given = record { items = item ∷ given.items; bad = given.bad }

-- What a line gives where items are still to come, with what the lines behind it give.
abbrev pub given_by : {I : Type 0} → Option I → ℕ → Given I → Given I
given_by (Some item) number behind = give_item item behind
given_by None number behind = bad_at number

-- What the lines behind the head give, where so many items are still to come and the first line has this number. What follows
-- the end isn't read, and where no end comes the line after the last is bad.
abbrev pub given : {I : Type 0} → (List ℕ → Option I) → List (List ℕ) → ℕ → ℕ → Given I
given item_of [] left number = bad_at number
given item_of (line ∷ lines) zero number = if is_end line then record { items = []; bad = None } else bad_at number
given item_of (line ∷ lines) (suc left) number = given_by (item_in item_of line) number (given item_of lines left (number + 1))

-- a script: its head, and what the lines behind it give
pub record Said (I : Type 0) : Type 0 where
  pub id : ℕ
  pub count : ℕ
  pub given : Given I

-- a script with this head, these items and this bad line
abbrev pub said : {I : Type 0} → ℕ → ℕ → List I → Option ℕ → Said I
said id count items bad = record { id = id; count = count; given = record { items = items; bad = bad } }

abbrev pub said_by : {I : Type 0} → (List ℕ → Option I) → Option Head → List (List ℕ) → Option (Said I)
said_by item_of (Some head) lines = Some (record { id = head.id; count = head.count; given = given item_of lines head.count 2 })
said_by item_of None lines = None

abbrev pub said_of_lines : {I : Type 0} → List ℕ → (List ℕ → Option I) → List (List ℕ) → Option (Said I)
said_of_lines word item_of [] = None
said_of_lines word item_of (line ∷ lines) = said_by item_of (head_of word line) lines

-- what the text says, where its first line is a head with this word
abbrev pub said_of : {I : Type 0} → List ℕ → (List ℕ → Option I) → List ℕ → Option (Said I)
said_of word item_of text = said_of_lines word item_of (lines_of text)

-- the number of the first bad line, counted from 1
abbrev pub bad_line : {I : Type 0} → Option (Said I) → Option ℕ
bad_line None = Some 1
bad_line (Some said) = said.given.bad

-- how many lines such a script has: its head, its items and its end, or only a first line that is no head
abbrev pub lines_in : {I : Type 0} → Option (Said I) → ℕ
lines_in None = 1
lines_in (Some said) = said.count + 2

-- no space is among these octets
abbrev pub HasNoSpace : List ℕ → Type 0
HasNoSpace [] = ⊤
HasNoSpace (b ∷ word) = (b ≢ 32) × HasNoSpace word

-- The same head as a spelling.
pub record SpellsHead (word : List ℕ) (id count : ℕ) (line : List ℕ) : Type 0 where
  pub ids : List ℕ
  pub octets : List ℕ
  pub digits : List ℕ
  pub is : line ≡ word ++ 32 ∷ (ids ++ 32 ∷ digits)
  pub one_word : HasNoSpace word
  pub decodes : octets_exactly 4 ids ≡ Some octets
  pub id_is : id ≡ number_of octets
  pub counts : count_of digits ≡ Some count
  pub fits : length line ≤ line_limit

-- these lines are these items, one by one
abbrev pub AreItems : {I : Type 0} → (List ℕ → Option I) → List (List ℕ) → List I → Type 0
AreItems item_of lines items = map (item_in item_of) lines ≡ map (λ item. Some item) items

-- A whole script: a head, as many items as it says, an end, and lines that aren't read.
pub record IsWholeScript {I : Type 0} (word : List ℕ) (item_of : List ℕ → Option I) (id count : ℕ) (items : List I) (text : List ℕ) : Type 0 where
  pub head : List ℕ
  pub between : List (List ℕ)
  pub last : List ℕ
  pub behind : List (List ℕ)
  pub lines : lines_of text ≡ head ∷ between ++ last ∷ behind
  pub is_head : SpellsHead word id count head
  pub are_items : AreItems item_of between items
  pub counted : length items ≡ count
  pub ended : is_end last ≡ true

-- what comes after so many items of a count is no item that is still due, nor an end in its place
abbrev pub IsBadNext : {I : Type 0} → (List ℕ → Option I) → ℕ → ℕ → List (List ℕ) → Type 0
IsBadNext item_of taken count [] = ⊤
IsBadNext {I} item_of taken count (line ∷ lines) =
    ((item : I) → item_in item_of line ≡ Some item → taken ≡ count) × (is_end line ≡ true → taken ≢ count)

-- A script with a bad line behind its head and these items.
pub record HasBadLine {I : Type 0} (word : List ℕ) (item_of : List ℕ → Option I) (id count : ℕ) (items : List I) (number : ℕ) (text : List ℕ) : Type 0 where
  pub head : List ℕ
  pub between : List (List ℕ)
  pub behind : List (List ℕ)
  pub lines : lines_of text ≡ head ∷ between ++ behind
  pub is_head : SpellsHead word id count head
  pub are_items : AreItems item_of between items
  pub within : length items ≤ count
  pub is_bad : IsBadNext item_of (length items) count behind
  pub number_is : number ≡ length items + 2

-- the first line is no head with this word
abbrev pub HasNoHead : List ℕ → List (List ℕ) → Type 0
HasNoHead word [] = ⊤
HasNoHead word (line ∷ lines) = (id count : ℕ) → SpellsHead word id count line → ⊥
