use Rattle.script_text.proofs.SpelledLines.{lines_are_spelled, spelled_lines}
use Rattle.script_text.proofs.laws.lines_spelled.Goals as goal

pub returns : goal.returns
returns c text lines = (lines_are_spelled text lines, spelled_lines lines text)
