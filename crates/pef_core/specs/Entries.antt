-- What the kinds of octets of an entry say.
use Rattle.std.specs.Prelude.{◌≡◌, ℕ, List, ◌∷◌, length, Option, Some}
use Rattle.board_core.specs.declared.step.Address.{Address}
use Rattle.pef_commands.specs.Request.{Asked}
use Rattle.pef_engine.specs.declared.entry.Entry.{Entry}
use Rattle.pef_engine.specs.declared.entry.Entry.TheVariants.{Item as Taken, Outcome}
use Rattle.pef_engine.specs.declared.marks.Mark.{Mark}
use Rattle.pef_engine.specs.declared.marks.Mark.TheVariants.{Open as Opened, Close as Closed, Outcome as Told}
use Rattle.pef_core.specs.declared.item.Item.{Item}
use Rattle.pef_core.specs.declared.item.Item.TheVariants.{Frame, Open, Close}
use Rattle.pef_core.specs.Histories.{IsRequest, IsItem, encode}

-- the entry of a mark
abbrev pub marked : Mark → Entry Item
marked (Opened id count) = Taken (Open id count)
marked Closed = Taken Close
marked (Told told) = Outcome told

-- the event whose octets these are, and none where there is none
pub record ReadsEvent (octets : List ℕ) (event : Option (List ℕ)) : Type 0 where
  pub found : (e : List ℕ) → length e ≡ 16 → 0x01 ∷ e ≡ octets → event ≡ Some e
  pub right : (e : List ℕ) → event ≡ Some e → (length e ≡ 16) × (0x01 ∷ e ≡ octets)

-- the command whose octets these are, and none where there is none
pub record ReadsCommand (octets : List ℕ) (asked : Option Asked) : Type 0 where
  pub found : (a : Asked) → IsRequest a → 0x02 ∷ a.netfn ∷ a.cmd ∷ a.payload ≡ octets → asked ≡ Some a
  pub right : (a : Asked) → asked ≡ Some a → IsRequest a × (0x02 ∷ a.netfn ∷ a.cmd ∷ a.payload ≡ octets)

-- the sender and the octets of the frame whose entry these octets are, and none where there is none
pub record ReadsFrame (octets : List ℕ) (frame : Option (Address × List ℕ)) : Type 0 where
  pub found : (from : Address) (held : List ℕ) → IsItem (Frame from held) → encode (Taken (Frame from held)) ≡ octets → frame ≡ Some (from, held)
  pub right : (from : Address) (held : List ℕ) → frame ≡ Some (from, held) → IsItem (Frame from held) × (encode (Taken (Frame from held)) ≡ octets)
