use Rattle.script_text.specs.Lines.{lines_of}
use Rattle.script_text.proofs.SpelledScripts.{says_whole, whole_says, says_bad, bad_says, says_nothing, nothing_says}
use Rattle.script_text.proofs.laws.script_spelled.Goals as goal

pub returns-clause-whole : goal.returns-clause-whole
returns-clause-whole g c word item_of text id count items = (says_whole word item_of text id count items, whole_says word item_of text id count items)

pub returns-clause-bad : goal.returns-clause-bad
returns-clause-bad g c word item_of text id count items number = (says_bad word item_of text id count items number, bad_says word item_of text id count items number)

pub returns-clause-no_head : goal.returns-clause-no_head
returns-clause-no_head g c word item_of text = (says_nothing word item_of (lines_of text), nothing_says word item_of (lines_of text))
