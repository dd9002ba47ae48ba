-- What a call of the program does and answers.
use Rattle.std.specs.Prelude.{◌≡◌, ◌⊎◌, ℕ, ◌-◌, ◌^◌, ◌≤◌, List, ◌++◌, length, Option, Some}
use Rattle.board_core.specs.Causes.{Rose}
use Rattle.pef_words.specs.Worded.{worded, IsKeptIn}

-- the outside at one moment: what is left to read, what was written, and the counts of failures of both
pub record Outside : Type 0 where
  pub left : Option (List ℕ)
  pub reads : ℕ
  pub written : Option (List ℕ)
  pub writes : ℕ

abbrev pub outside : Option (List ℕ) → ℕ → Option (List ℕ) → ℕ → Outside
outside left reads written writes = record { left = left; reads = reads; written = written; writes = writes }

-- The status is 0 where all was read and written, 6 where a read failed, 8 where a write failed, and 9 where it was read 2^64 - 1 times
-- without an end.
pub record Words (old new : Outside) (status : ℕ) : Type 0 where
  pub statuses : (status ≡ 0) ⊎ ((status ≡ 6) ⊎ ((status ≡ 8) ⊎ (status ≡ 9)))
  -- each line is there with its words, and all octets of the text are
  pub all : status ≡ 0 → (text before : List ℕ) → old.left ≡ Some text → old.written ≡ Some before
      → (new.written ≡ Some (before ++ worded text)) × IsKeptIn text (worded text)
  -- at any status a first part of that was written
  pub part : (text before : List ℕ) → old.left ≡ Some text → old.written ≡ Some before
      → (part : List ℕ) × (rest : List ℕ) × (part ++ rest ≡ worded text) × (new.written ≡ Some (before ++ part))
  pub input : status ≡ 6 → Rose old.reads new.reads
  pub output : status ≡ 8 → Rose old.writes new.writes
  pub endless : status ≡ 9 → (text : List ℕ) → old.left ≡ Some text → 2 ^ 64 - 1 ≤ length text
  pub calm : status ≡ 0 → (new.reads ≡ old.reads) × (new.writes ≡ old.writes)
