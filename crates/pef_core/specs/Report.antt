-- What a controller's scripts say to it, and what it reports of its items.
use Rattle.std.specs.Prelude.{ℕ, List, [], ◌∷◌, ◌++◌, Option, Some, None, option_map, bytes_eq, if◌then◌else◌, codes, decimal, slice_index}
use Rattle.std.specs.Int.{to_be_bytes, w16, w32}
use Rattle.hex.specs.Hex.{encode_lower}
use Rattle.board_core.specs.declared.step.Address.{Address}
use Rattle.event_record.specs.declared.fault.RecordFault.TheVariants.{ReservedId, Kind}
use Rattle.event_record.specs.declared.fault.LogFault.TheVariants.{Duplicate, Full}
use Rattle.pef_commands.specs.Request.{request_of}
use Rattle.frame_answers.specs.declared.kind.FrameKind.{FrameKind}
use Rattle.frame_answers.specs.declared.kind.FrameKind.TheVariants as kinds
use Rattle.frame_answers.specs.Answers.{kind_of}
use Rattle.pef_engine.specs.declared.entry.Entry.{Entry}
use Rattle.pef_engine.specs.declared.script.ScriptStep.{ScriptStep}
use Rattle.pef_engine.specs.declared.script.ScriptStep.TheVariants.{Opens, Takes, Closes}
use Rattle.pef_engine.specs.Scripts.{ScriptRules}
use Rattle.script_text.specs.Forms.{words_of, octets_exactly, octets_up_to, address_of}
use Rattle.pef_core.specs.declared.item.Item.{Item}
use Rattle.pef_core.specs.declared.item.Item.TheVariants.{Event, Command, Frame, Tick, Power, Open, Close}
use Rattle.pef_core.specs.declared.note.Note.{Note}
use Rattle.pef_core.specs.declared.note.Note.TheVariants.{Added, Refused, NotAdded, Nothing}
use Rattle.pef_core.specs.Past.{note, reply}
use Rattle.pef_core.specs.Values.{Values}
use Rattle.pef_core.specs.Deeds.{item_deed, standing}

-- a number of 16 bits in four digits
abbrev pub id_digits : ℕ → List ℕ
id_digits id = encode_lower (to_be_bytes w16 id)

-- the line of an event: its record's ID, or why it wasn't added to the log
abbrev pub note_line : Note → List ℕ
note_line (Added id) = codes "event " ++ id_digits id ++ codes "\n"
note_line (Refused (ReservedId id)) = codes "event reserved " ++ id_digits id ++ codes "\n"
note_line (Refused (Kind kind)) = codes "event kind " ++ encode_lower (kind ∷ []) ++ codes "\n"
note_line (NotAdded (Duplicate id)) = codes "event duplicate " ++ id_digits id ++ codes "\n"
note_line (NotAdded Full) = codes "event full\n"
note_line Nothing = []

-- the line of a command: its reply, from the completion code on
abbrev pub reply_line : Option (List ℕ) → List ℕ
reply_line None = []
reply_line (Some octets) = codes "reply " ++ encode_lower octets ++ codes "\n"

-- the line of a frame: a pong is due, an answer is due, or it has no effect
abbrev pub frame_line : FrameKind → List ℕ
frame_line kinds.Ping = codes "frame ping\n"
frame_line kinds.Command = codes "frame command\n"
frame_line kinds.Nothing = codes "frame none\n"

abbrev pub open_line : ℕ → ℕ → List ℕ
open_line id count = codes "open " ++ encode_lower (to_be_bytes w32 id) ++ codes " " ++ decimal count ++ codes "\n"

-- the line of an item that is taken where these values stand
abbrev pub line_by : Values → Item → List ℕ
line_by v (Event octets) = note_line (note (item_deed v (Event octets) ∷ []))
line_by v (Command asked) = reply_line (reply (item_deed v (Command asked) ∷ []))
line_by v (Frame from octets) = frame_line (kind_of octets)
line_by v Tick = codes "tick\n"
line_by v Power = codes "power\n"
line_by v (Open id count) = open_line id count
line_by v Close = codes "close\n"

-- the line of an item that comes behind H
abbrev pub item_line : List ℕ → List (Entry Item) → Item → List ℕ
item_line Z H item = line_by (standing Z H) item

-- the 16 octets of a record in 32 hexadecimal digits
abbrev pub event_of : List (List ℕ) → Option Item
event_of [] = None
event_of (digits ∷ []) = option_map Event (octets_exactly 16 digits)
event_of (digits ∷ other ∷ more) = None

abbrev pub command_by : Option (List ℕ) → Option (List ℕ) → Option (List ℕ) → Option Item
command_by (Some netfn) (Some cmd) (Some payload) = option_map Command (request_of (slice_index netfn 0) (slice_index cmd 0) payload)
command_by (Some netfn) (Some cmd) None = None
command_by (Some netfn) None payload = None
command_by None cmd payload = None

-- network function and command in two digits each, and 0 to 64 octets
abbrev pub command_of : List (List ℕ) → Option Item
command_of [] = None
command_of (netfn ∷ []) = None
command_of (netfn ∷ cmd ∷ []) = None
command_of (netfn ∷ cmd ∷ payload ∷ []) = command_by (octets_exactly 1 netfn) (octets_exactly 1 cmd) (octets_up_to 64 payload)
command_of (netfn ∷ cmd ∷ payload ∷ other ∷ more) = None

abbrev pub frame_by : Option Address → Option (List ℕ) → Option Item
frame_by (Some from) (Some octets) = Some (Frame from octets)
frame_by (Some from) None = None
frame_by None octets = None

-- the sender's address and port, and 0 to 512 octets
abbrev pub frame_of : List (List ℕ) → Option Item
frame_of [] = None
frame_of (from ∷ []) = None
frame_of (from ∷ octets ∷ []) = frame_by (address_of from) (octets_up_to 512 octets)
frame_of (from ∷ octets ∷ other ∷ more) = None

-- nothing more
abbrev pub alone : Item → List (List ℕ) → Option Item
alone item [] = Some item
alone item (word ∷ words) = None

abbrev pub item_of_words : List (List ℕ) → Option Item
item_of_words [] = None
item_of_words (first ∷ words) =
    if bytes_eq first (codes "event") then event_of words
    else if bytes_eq first (codes "cmd") then command_of words
    else if bytes_eq first (codes "frame") then frame_of words
    else if bytes_eq first (codes "tick") then alone Tick words
    else if bytes_eq first (codes "power") then alone Power words
    else None

-- the item of a line: `event` and a record, `cmd` and a command, `frame` with its sender and its octets, `tick`, or `power`
abbrev pub item_of : List ℕ → Option Item
item_of line = item_of_words (words_of line)

-- what an item does to the script that was opened last
abbrev pub step_in : Item → ScriptStep
step_in (Event octets) = Takes
step_in (Command asked) = Takes
step_in (Frame from octets) = Takes
step_in Tick = Takes
step_in Power = Takes
step_in (Open id count) = Opens id count
step_in Close = Closes

abbrev pub controller_scripts : ScriptRules Item
controller_scripts = record {
  word = codes "script";
  opening = Open;
  closing = Close;
  item_of = item_of;
  step = step_in;
  item_line = item_line;
}
