-- What the two kinds of octets of an entry say.
use Rattle.std.specs.Prelude.{◌≡◌, ℕ, List, Option, Some}
use Rattle.board_core.specs.declared.step.Address.{Address}
use Rattle.pef_engine.specs.declared.entry.Entry.{Entry}
use Rattle.pef_engine.specs.declared.entry.Entry.TheVariants.{Item as Taken, Outcome}
use Rattle.pef_engine.specs.declared.marks.Mark.{Mark}
use Rattle.pef_engine.specs.declared.marks.Mark.TheVariants.{Open as Opened, Close as Closed, Outcome as Told}
use Rattle.trap_console.specs.declared.item.Item.{Item}
use Rattle.trap_console.specs.declared.item.Item.TheVariants.{Datagram, Open, Close}
use Rattle.trap_console.specs.Histories.{IsItem, encode}

-- the entry of a mark
abbrev pub marked : Mark → Entry Item
marked (Opened id count) = Taken (Open id count)
marked Closed = Taken Close
marked (Told told) = Outcome told

-- the sender and the octets of the datagram whose entry these octets are, and none where there is none
pub record ReadsDatagram (octets : List ℕ) (datagram : Option (Address × List ℕ)) : Type 0 where
  pub found : (from : Address) (held : List ℕ) → IsItem (Datagram from held) → encode (Taken (Datagram from held)) ≡ octets → datagram ≡ Some (from, held)
  pub right : (from : Address) (held : List ℕ) → datagram ≡ Some (from, held) → IsItem (Datagram from held) × (encode (Taken (Datagram from held)) ≡ octets)
