-- What the histories of a controller mean.
use Rattle.std.specs.Prelude.{◌≡◌, ⊤, ℕ, ◌<◌, ◌≤◌, ◌^◌, false, List, [], ◌∷◌, ◌++◌, length, Option, Some, None}
use Rattle.std.specs.Int.{to_le_bytes, w16}
use Rattle.board_core.specs.declared.step.Step.{Step}
use Rattle.pef_commands.specs.Request.{Asked}
use Rattle.pef_settings.specs.Settings.{controller}
use Rattle.pef_engine.specs.declared.entry.Entry.{Entry}
use Rattle.pef_engine.specs.declared.entry.Entry.TheVariants.{Item as Taken, Outcome}
use Rattle.pef_engine.specs.declared.marks.Mark.TheVariants.{Open as Opened, Close as Closed, Outcome as Told}
use Rattle.pef_engine.specs.Marks.{mark_octets}
use Rattle.pef_engine.specs.Rules.{Rules}
use Rattle.pef_engine.specs.Scripts.{MayCome, script_of}
use Rattle.job_course.specs.declared.own.Own.{Own}
use Rattle.job_course.specs.Running.{Running}
use Rattle.job_course.specs.Steps.{part_step}
use Rattle.pef_core.specs.declared.item.Item.{Item}
use Rattle.pef_core.specs.declared.item.Item.TheVariants.{Event, Command, Frame, Tick, Power, Open, Close}
use Rattle.pef_core.specs.Values.{Values}
use Rattle.pef_core.specs.Deeds.{standing}
use Rattle.pef_core.specs.Report.{step_in, controller_scripts}

-- the step of what runs
abbrev pub running_step : Own → Option Running → Option Step
running_step own None = None
running_step own (Some r) = part_step own r.work r.part

-- the first of these replies, else this step
abbrev pub first_or : List Step → Option Step → Option Step
first_or [] step = step
first_or (reply ∷ replies) step = Some reply

-- The step that is due: the first reply to a frame that isn't sent yet, else the step of the open part of what runs. That replies come
-- first is this project's rule.
abbrev pub due_in : Values → Option Step
due_in v = first_or v.replies (running_step v.own v.now.running)

abbrev pub pending : List ℕ → List (Entry Item) → Option Step
pending Z H = due_in (standing Z H)

-- a network function of six bits, and at most 64 octets
pub record IsRequest (asked : Asked) : Type 0 where
  pub netfn : asked.netfn ≤ 63
  pub payload : length asked.payload ≤ 64

-- sixteen octets; an address of four octets with a port of 16 bits, and at most 512 octets; numbers of 32 bits
abbrev pub IsItem : Item → Type 0
IsItem (Event octets) = length octets ≡ 16
IsItem (Command asked) = IsRequest asked
IsItem (Frame from octets) = (length from.ip ≡ 4) × (from.port < 2 ^ 16) × (length octets ≤ 512)
IsItem Tick = ⊤
IsItem Power = ⊤
IsItem (Open id count) = (id < 2 ^ 32) × (count < 2 ^ 32)
IsItem Close = ⊤

abbrev pub IsEntry : Entry Item → Type 0
IsEntry (Taken item) = IsItem item
IsEntry (Outcome told) = ⊤

-- the octets of an entry: of an event, a command, a frame, a tick and a power cycle a tag and its octets, of the others those of every
-- machine that takes scripts
abbrev pub encode : Entry Item → List ℕ
encode (Taken (Event octets)) = 0x01 ∷ octets
encode (Taken (Command asked)) = 0x02 ∷ asked.netfn ∷ asked.cmd ∷ asked.payload
encode (Taken (Frame from octets)) = 0x07 ∷ (from.ip ++ (to_le_bytes w16 from.port ++ octets))
encode (Taken Tick) = 0x03 ∷ []
encode (Taken Power) = 0x04 ∷ []
encode (Taken (Open id count)) = mark_octets (Opened id count)
encode (Taken Close) = mark_octets Closed
encode (Outcome told) = mark_octets (Told told)

-- An item comes where the rule of scripts lets it come.
abbrev pub controller_rules : Rules Item
controller_rules = record {
  kind = controller;
  is_entry = λ entry. IsEntry entry;
  encode = encode;
  pending = pending;
  may_take = λ Z H item. MayCome (script_of controller_scripts H) (step_in item) × IsItem item;
  over = λ Z H item. ⊥;
  takes_memory = false;
}
