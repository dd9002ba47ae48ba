-- What a console's captures say to it, and what it reports of its items. The words and their forms are this project's own; the reasons of
-- a refusal are those of snmp_trap.
use Rattle.std.specs.Prelude.{ℕ, List, [], ◌∷◌, ◌++◌, Option, Some, None, bytes_eq, if◌then◌else◌, codes, decimal}
use Rattle.std.specs.Int.{to_be_bytes, w32}
use Rattle.hex.specs.Hex.{encode_lower}
use Rattle.board_core.specs.declared.step.Address.{Address}
use Rattle.snmp_trap.specs.declared.refusal.Why.{Why}
use Rattle.snmp_trap.specs.declared.refusal.Why.TheVariants.{Truncated, Tag, Length, Over, Trailing, Integer, Version, Enterprise, Generic, NoBinding, Body}
use Rattle.report_line.specs.Line.{line_end}
use Rattle.pef_engine.specs.declared.entry.Entry.{Entry}
use Rattle.pef_engine.specs.declared.script.ScriptStep.{ScriptStep}
use Rattle.pef_engine.specs.declared.script.ScriptStep.TheVariants.{Opens, Takes, Closes}
use Rattle.pef_engine.specs.Scripts.{ScriptRules}
use Rattle.script_text.specs.Forms.{words_of, octets_up_to, address_of}
use Rattle.trap_console.specs.declared.heard.Heard.{Heard}
use Rattle.trap_console.specs.declared.heard.Heard.TheVariants.{New, Again, Refused, Nothing}
use Rattle.trap_console.specs.declared.item.Item.{Item}
use Rattle.trap_console.specs.declared.item.Item.TheVariants.{Datagram, Open, Close}
use Rattle.trap_console.specs.Received.{received}
use Rattle.trap_console.specs.Rows.{heard_by}
use Rattle.trap_console.specs.Heard.{rows_of}

-- the word of a refusal
abbrev pub why_word : Why → List ℕ
why_word Truncated = codes "Truncated"
why_word Tag = codes "Tag"
why_word Length = codes "Length"
why_word Over = codes "Over"
why_word Trailing = codes "Trailing"
why_word Integer = codes "Integer"
why_word Version = codes "Version"
why_word Enterprise = codes "Enterprise"
why_word Generic = codes "Generic"
why_word NoBinding = codes "NoBinding"
why_word Body = codes "Body"

-- the line of a datagram: its row, or why it is no trap and at which octet, counted from 0
abbrev pub heard_line : Heard → List ℕ
heard_line (New row) = codes "row " ++ decimal row ++ line_end
heard_line (Again row) = codes "again " ++ decimal row ++ line_end
heard_line (Refused refused) = codes "refused " ++ why_word refused.why ++ codes " " ++ decimal refused.at ++ line_end
heard_line Nothing = []

-- the line of an item that comes behind H
abbrev pub item_line : List ℕ → List (Entry Item) → Item → List ℕ
item_line Z H (Datagram from octets) = heard_line (heard_by (rows_of H) (received from octets))
item_line Z H (Open id count) = codes "open " ++ encode_lower (to_be_bytes w32 id) ++ codes " " ++ decimal count ++ line_end
item_line Z H Close = codes "close" ++ line_end

abbrev pub datagram_by : Option Address → Option (List ℕ) → Option Item
datagram_by (Some from) (Some octets) = Some (Datagram from octets)
datagram_by (Some from) None = None
datagram_by None octets = None

abbrev pub item_of_words : List (List ℕ) → Option Item
item_of_words [] = None
item_of_words (first ∷ []) = None
item_of_words (first ∷ from ∷ []) = None
item_of_words (first ∷ from ∷ octets ∷ []) = if bytes_eq first (codes "datagram") then datagram_by (address_of from) (octets_up_to 512 octets) else None
item_of_words (first ∷ from ∷ octets ∷ other ∷ more) = None

-- the item of a line: `datagram`, the sender's address and port, and 0 to 512 octets
abbrev pub item_of : List ℕ → Option Item
item_of line = item_of_words (words_of line)

-- what an item does to the capture that was opened last
abbrev pub step_in : Item → ScriptStep
step_in (Datagram from octets) = Takes
step_in (Open id count) = Opens id count
step_in Close = Closes

abbrev pub console_scripts : ScriptRules Item
console_scripts = record {
  word = codes "capture";
  opening = Open;
  closing = Close;
  item_of = item_of;
  step = step_in;
  item_line = item_line;
}
