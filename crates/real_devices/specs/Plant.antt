-- The lines of the plant's file.
use Rattle.std.specs.Prelude.{ℕ, ◌/◌, ◌%◌, List, [], ◌∷◌, ◌++◌, codes}
use Rattle.hex.specs.Hex.{encode_lower}
use Rattle.board_core.specs.declared.step.Act.{Act}
use Rattle.board_core.specs.Acts.{act_word}

-- the word, a space, the record's id in four lower-case digits, and 0Ah
abbrev pub action_line : Act → ℕ → List ℕ
action_line kind id = act_word kind ++ codes " " ++ encode_lower (id / 256 ∷ id % 256 ∷ []) ++ 10 ∷ []
