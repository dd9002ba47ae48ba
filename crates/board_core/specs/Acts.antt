-- The words of actions, in the plant's file and in a report.
use Rattle.std.specs.Prelude.{ℕ, List, codes}
use Rattle.board_core.specs.declared.step.Act.{Act}
use Rattle.board_core.specs.declared.step.Act.TheVariants.{PowerDown, PowerCycle, Reset, DiagInt, Oem}

-- the word of an action; the words are this project's
abbrev pub act_word : Act → List ℕ
act_word PowerDown = codes "power-down"
act_word PowerCycle = codes "power-cycle"
act_word Reset = codes "reset"
act_word DiagInt = codes "diagnostic"
act_word Oem = codes "oem"
