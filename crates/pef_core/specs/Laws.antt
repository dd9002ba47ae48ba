-- What a machine has to show, of the controller.
use Rattle.std.specs.Prelude.{◌≡◌, ◌↔◌, ◌≤◌, ℕ, Bool, true, false, List, [], ◌∷◌, length, Option, Some, None, IsSome, option_map, bytes_eq, if◌then◌else◌, codes, slice_index, refl}
use Rattle.std.proofs.Common.{sym, ◌∙◌, ap, subst, arith}
use Rattle.board_core.specs.declared.step.Address.{Address}
use Rattle.board_core.specs.declared.step.Told.{Told}
use Rattle.board_core.specs.declared.step.Told.TheVariants.{Done, Failed}
use Rattle.pef_commands.specs.Request.{Asked, request_of}
use Rattle.pef_engine.specs.declared.entry.Entry.{Entry}
use Rattle.pef_engine.specs.declared.entry.Entry.TheVariants.{Item as Taken, Outcome}
use Rattle.pef_engine.specs.Rules.{Allowed}
use Rattle.pef_engine.specs.declared.script.ScriptStep.TheVariants.{Takes}
use Rattle.pef_engine.specs.MachineView.{Agrees}
use Rattle.pef_engine.specs.Scripts.{MayCome, IsScripted}
use Rattle.pef_core.specs.declared.item.Item.{Item}
use Rattle.pef_core.specs.declared.item.Item.TheVariants.{Event, Command, Frame, Tick, Power, Open, Close}
use Rattle.pef_core.specs.declared.controller.Controller.{Controller}
use Rattle.pef_core.specs.Histories.{due_in, pending, IsEntry, encode, controller_rules}
use Rattle.pef_core.specs.Report.{event_of, command_by, command_of, frame_by, frame_of, alone, item_of_words, step_in, controller_scripts}
use Rattle.script_text.specs.Forms.{words_of, octets_exactly, octets_up_to, address_of}
use Rattle.pef_core.specs.View.{ShowsController, due_of, AllowedBy, view_of}

-- an outcome takes the same room whatever was told
pub same_size : (one other : Told) → length (encode (Outcome one)) ≡ length (encode (Outcome other))
same_size Done Done = refl
same_size Done Failed = refl
same_size Failed Done = refl
same_size Failed Failed = refl

pub some_octet : (entry : Entry Item) → 1 ≤ length (encode entry)
some_octet (Taken (Event octets)) = omega arith
some_octet (Taken (Command asked)) = omega arith
some_octet (Taken (Frame from octets)) = omega arith
some_octet (Taken Tick) = omega arith
some_octet (Taken Power) = omega arith
some_octet (Taken (Open id count)) = omega arith
some_octet (Taken Close) = omega arith
some_octet (Outcome Done) = omega arith
some_octet (Outcome Failed) = omega arith

pub are_entries : (Z : List ℕ) (H : List (Entry Item)) (entry : Entry Item) → Allowed controller_rules Z H entry → IsEntry entry
are_entries Z H (Taken item) allowed = allowed.1.1
are_entries Z H (Outcome told) allowed = tt

-- what the controller does is what its history means
pub controller_agrees : (controller : Controller) → Agrees controller_rules (view_of controller)
controller_agrees controller = record {
  due = λ Z H lawful shows. due_is Z H shows;
  allowed = λ Z H entry lawful shows. allowed_is Z H entry shows;
  over = λ Z H item lawful shows. (λ a. a, λ a. a);
  outcome = λ told. (λ a. a, λ a. a);
  item = λ item allowed. allowed.0;
}
  where
    due_is : (Z : List ℕ) (H : List (Entry Item)) → ShowsController controller Z H → due_of controller ≡ pending Z H
    due_is Z H shows = ap due_in shows.values_are

    allowed_is : (Z : List ℕ) (H : List (Entry Item)) (entry : Entry Item) → ShowsController controller Z H → AllowedBy controller entry ↔ Allowed controller_rules Z H entry
    allowed_is Z H (Taken item) shows = (
      λ a. (sym (due_is Z H shows) ∙ a.0, (subst (λ s. MayCome s (step_in item)) shows.script_is a.1.0, a.1.1)),
      λ a. (due_is Z H shows ∙ a.0, (subst (λ s. MayCome s (step_in item)) (sym shows.script_is) a.1.0, a.1.1)),
    )
    allowed_is Z H (Outcome told) shows = (λ a. subst (λ o. IsSome o) (due_is Z H shows) a, λ a. subst (λ o. IsSome o) (sym (due_is Z H shows)) a)

-- an item that a line gives is one of the script
event_takes : (octets : Option (List ℕ)) (item : Item) → option_map Event octets ≡ Some item → step_in item ≡ Takes
event_takes None item is = absurd (cc is)
event_takes (Some found) item is = let same : Event found ≡ item = cc is in ap step_in (sym same)

events_take : (words : List (List ℕ)) (item : Item) → event_of words ≡ Some item → step_in item ≡ Takes
events_take [] item is = absurd (cc is)
events_take (digits ∷ []) item is = event_takes (octets_exactly 16 digits) item is
events_take (digits ∷ other ∷ more) item is = absurd (cc is)

command_takes : (asked : Option Asked) (item : Item) → option_map Command asked ≡ Some item → step_in item ≡ Takes
command_takes None item is = absurd (cc is)
command_takes (Some asked) item is = let same : Command asked ≡ item = cc is in ap step_in (sym same)

command_by_takes : (netfn cmd payload : Option (List ℕ)) (item : Item) → command_by netfn cmd payload ≡ Some item → step_in item ≡ Takes
command_by_takes (Some netfn) (Some cmd) (Some payload) item is = command_takes (request_of (slice_index netfn 0) (slice_index cmd 0) payload) item is
command_by_takes (Some netfn) (Some cmd) None item is = absurd (cc is)
command_by_takes (Some netfn) None payload item is = absurd (cc is)
command_by_takes None cmd payload item is = absurd (cc is)

commands_take : (words : List (List ℕ)) (item : Item) → command_of words ≡ Some item → step_in item ≡ Takes
commands_take [] item is = absurd (cc is)
commands_take (netfn ∷ []) item is = absurd (cc is)
commands_take (netfn ∷ cmd ∷ []) item is = absurd (cc is)
commands_take (netfn ∷ cmd ∷ payload ∷ []) item is = command_by_takes (octets_exactly 1 netfn) (octets_exactly 1 cmd) (octets_up_to 64 payload) item is
commands_take (netfn ∷ cmd ∷ payload ∷ other ∷ more) item is = absurd (cc is)

frame_by_takes : (from : Option Address) (octets : Option (List ℕ)) (item : Item) → frame_by from octets ≡ Some item → step_in item ≡ Takes
frame_by_takes (Some from) (Some octets) item is = let same : Frame from octets ≡ item = cc is in ap step_in (sym same)
frame_by_takes (Some from) None item is = absurd (cc is)
frame_by_takes None octets item is = absurd (cc is)

frames_take : (words : List (List ℕ)) (item : Item) → frame_of words ≡ Some item → step_in item ≡ Takes
frames_take [] item is = absurd (cc is)
frames_take (from ∷ []) item is = absurd (cc is)
frames_take (from ∷ octets ∷ []) item is = frame_by_takes (address_of from) (octets_up_to 512 octets) item is
frames_take (from ∷ octets ∷ other ∷ more) item is = absurd (cc is)

alone_takes : (what item : Item) (words : List (List ℕ)) → step_in what ≡ Takes → alone what words ≡ Some item → step_in item ≡ Takes
alone_takes what item [] of_it is = let same : what ≡ item = cc is in ap step_in (sym same) ∙ of_it
alone_takes what item (word ∷ words) of_it is = absurd (cc is)

takes : (words : List (List ℕ)) (item : Item) → item_of_words words ≡ Some item → step_in item ≡ Takes
takes [] item is = absurd (cc is)
takes (first ∷ words) item is = by (bytes_eq first (codes "event")) (bytes_eq first (codes "cmd")) (bytes_eq first (codes "frame")) (bytes_eq first (codes "tick")) (bytes_eq first (codes "power")) is
  where
    by : (a b f c d : Bool) → (if a then event_of words else if b then command_of words else if f then frame_of words else if c then alone Tick words else if d then alone Power words else None) ≡ Some item → step_in item ≡ Takes
    by true b f c d e = events_take words item e
    by false true f c d e = commands_take words item e
    by false false true c d e = frames_take words item e
    by false false false true d e = alone_takes Tick item words refl e
    by false false false false true e = alone_takes Power item words refl e
    by false false false false false e = absurd (cc e)

-- a controller takes items as its scripts say
pub controller_scripted : IsScripted controller_rules controller_scripts
controller_scripted = record {
  opens = λ id count. refl;
  closes = refl;
  takes = λ line item is. takes (words_of line) item is;
  may = λ Z H item. (λ a. a, λ a. a);
}
