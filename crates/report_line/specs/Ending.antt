-- How a call ends: its status and its last line. Both are this project's own.
use Rattle.std.specs.Prelude.{ℕ, List, [], ◌++◌, codes, decimal}
use Rattle.std.specs.Int.{to_be_bytes, w32}
use Rattle.hex.specs.Hex.{encode_lower}
use Rattle.report_line.specs.Line.{line_end}
use Rattle.report_line.specs.Refusal.{refusal_word}
use Rattle.report_line.specs.declared.ending.Ending.{Ending}
use Rattle.report_line.specs.declared.ending.Ending.TheVariants.{Done, Usage, Unformatted, Line, Settings, Unfinished, Input, Disk, Output, Full, Memory, Formatted}

abbrev pub status_of : Ending → ℕ
status_of (Done count) = 0
status_of Usage = 2
status_of Unformatted = 3
status_of (Line number) = 4
status_of (Settings refusal) = 4
status_of (Unfinished id count) = 5
status_of Input = 6
status_of Disk = 7
status_of Output = 8
status_of Full = 9
status_of Memory = 10
status_of Formatted = 11

-- the last line, with its end; where the output failed there is none
abbrev pub last_line : Ending → List ℕ
last_line (Done count) = codes "ok " ++ decimal count ++ line_end
last_line Usage = codes "usage" ++ line_end
last_line Unformatted = codes "unformatted" ++ line_end
last_line (Line number) = codes "line " ++ decimal number ++ line_end
last_line (Settings refusal) = codes "settings " ++ refusal_word refusal ++ line_end
last_line (Unfinished id count) = codes "unfinished " ++ encode_lower (to_be_bytes w32 id) ++ codes " " ++ decimal count ++ line_end
last_line Input = codes "input failed" ++ line_end
last_line Disk = codes "disk failed" ++ line_end
last_line Output = []
last_line Full = codes "full" ++ line_end
last_line Memory = codes "memory" ++ line_end
last_line Formatted = codes "formatted" ++ line_end
