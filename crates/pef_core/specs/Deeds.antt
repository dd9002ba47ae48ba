-- What an entry does, by what stands before it; and so the past of a history.
use Rattle.std.specs.Prelude.{ℕ, List, [], ◌∷◌, Option, Some, None}
use Rattle.board_core.specs.declared.step.Step.{Step}
use Rattle.board_core.specs.declared.step.Told.{Told}
use Rattle.event_record.specs.declared.fault.RecordFault.{RecordFault}
use Rattle.event_record.specs.declared.fault.LogFault.{LogFault}
use Rattle.event_record.specs.Rules.{record_fault}
use Rattle.event_record.specs.Log.{add_fault}
use Rattle.frame_answers.specs.Answers.{Answered, answered}
use Rattle.pef_engine.specs.declared.entry.Entry.{Entry}
use Rattle.pef_engine.specs.declared.entry.Entry.TheVariants.{Item as Taken, Outcome}
use Rattle.pef_core.specs.declared.item.Item.{Item}
use Rattle.pef_core.specs.declared.item.Item.TheVariants.{Event, Command, Frame, Tick, Power, Open, Close}
use Rattle.pef_core.specs.declared.note.Note.TheVariants.{Refused, NotAdded}
use Rattle.pef_core.specs.Past.{Deed, Logged, Dropped, Replied, Framed, Passed, Ticked, Powered, WasTold, ReplySent}
use Rattle.pef_core.specs.Replies.{Answer, answer}
use Rattle.pef_core.specs.Values.{Values, values}

-- an event whose octets are no record, or that the log doesn't take, is dropped
abbrev pub event_deed : Option RecordFault → Option LogFault → List ℕ → Deed
event_deed (Some fault) full event = Dropped (Refused fault)
event_deed None (Some fault) event = Dropped (NotAdded fault)
event_deed None None event = Logged event

abbrev pub reply_deed : Answer → Deed
reply_deed a = Replied a.octets a.effect

abbrev pub frame_deed : Answered → Deed
frame_deed a = Framed a.replies a.ack

abbrev pub item_deed : Values → Item → Deed
item_deed v (Event event) = event_deed (record_fault event) (add_fault v.records event) event
item_deed v (Command asked) = reply_deed (answer v asked)
item_deed v (Frame from octets) = frame_deed (answered from octets)
item_deed v Tick = Ticked
item_deed v Power = Powered
item_deed v (Open id count) = Passed
item_deed v Close = Passed

-- the outcome is that of the reply which is due, else of the step of what runs
abbrev pub told_deed : List Step → Told → Deed
told_deed [] told = WasTold told
told_deed (reply ∷ replies) told = ReplySent

abbrev pub deed : Values → Entry Item → Deed
deed v (Taken item) = item_deed v item
deed v (Outcome told) = told_deed v.replies told

-- the past behind these entries
abbrev pub past_behind : List ℕ → List Deed → List (Entry Item) → List Deed
past_behind Z past [] = past
past_behind Z past (entry ∷ H) = past_behind Z (deed (values Z past) entry ∷ past) H

abbrev pub past_of : List ℕ → List (Entry Item) → List Deed
past_of Z H = past_behind Z [] H

-- what stands after a history
abbrev pub standing : List ℕ → List (Entry Item) → Values
standing Z H = values Z (past_of Z H)
