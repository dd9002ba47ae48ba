-- What arrives at a controller: each datagram is a frame, and each second a tick.
use Rattle.std.specs.Prelude.{◌≡◌, Option, Some, None}
use Rattle.std.proofs.Common.{ap}
use Rattle.board_core.specs.declared.feed.Arrival.{Arrival}
use Rattle.board_core.specs.declared.feed.Arrival.TheVariants as arrival
use Rattle.pef_engine.specs.declared.script.ScriptStep.TheVariants.{Takes}
use Rattle.pef_core.specs.declared.item.Item.{Item}
use Rattle.pef_core.specs.declared.item.Item.TheVariants.{Frame, Tick}
use Rattle.pef_core.specs.Report.{step_in}

-- the item of an arrival
abbrev pub item_at : Arrival → Option Item
item_at (arrival.Datagram from octets) = Some (Frame from octets)
item_at arrival.Tick = Some Tick
item_at arrival.End = None
item_at arrival.Failed = None

item_is : {a b : Item} → Some a ≡ Some b → b ≡ a
item_is e = cc e

-- an arrival is an item as those of a script are
pub arrival_takes : (arrival : Arrival) (item : Item) → item_at arrival ≡ Some item → step_in item ≡ Takes
arrival_takes (arrival.Datagram from octets) item is = ap step_in (item_is is)
arrival_takes arrival.Tick item is = ap step_in (item_is is)
arrival_takes arrival.End item is = absurd (cc is)
arrival_takes arrival.Failed item is = absurd (cc is)
