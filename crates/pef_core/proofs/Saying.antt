-- What is said of an item, by what stands behind it.
use Rattle.std.proofs.Common.{◌≡◌, ℕ, Bool, true, false, cond, List, [], ◌∷◌, ◌++◌, Option, Some, None, refl, sym, ◌∙◌, ap}
use Rattle.std.specs.Prelude.{not, ◌&&◌, is_some}
use Rattle.event_record.specs.declared.fault.RecordFault.{RecordFault}
use Rattle.event_record.specs.declared.fault.LogFault.{LogFault}
use Rattle.event_record.specs.Rules.{record_fault}
use Rattle.event_record.specs.Log.{add_fault}
use Rattle.pef_commands.specs.Request.{Asked}
use Rattle.pef_engine.specs.declared.entry.Entry.{Entry}
use Rattle.pef_engine.specs.declared.entry.Entry.TheVariants.{Item as Taken}
use Rattle.pef_core.specs.declared.item.Item.{Item}
use Rattle.pef_core.specs.declared.item.Item.TheVariants.{Event, Command}
use Rattle.pef_core.specs.declared.note.Note.{Note}
use Rattle.pef_core.specs.Past.{note, note_with, reply}
use Rattle.pef_core.specs.Values.{Values}
use Rattle.pef_core.specs.Deeds.{event_deed, item_deed, standing}
use Rattle.pef_core.specs.After.{begun, may_begin_now, with_deed, with_next_job}
use Rattle.pef_core.specs.Report.{note_line, reply_line, item_line}
use Rattle.pef_core.proofs.Standing.{standing_next}

abbrev begins_now : Values → Bool
begins_now v = not (is_some v.now.running) && may_begin_now v

-- a job that begins leaves note and reply
keeps_note : (v : Values) → (with_next_job v).note ≡ v.note
keeps_note v = by (begins_now v)
  where
    by : (b : Bool) → (cond b (begun v) v).note ≡ v.note
    by true = refl
    by false = refl

keeps_reply : (v : Values) → (with_next_job v).reply ≡ v.reply
keeps_reply v = by (begins_now v)
  where
    by : (b : Bool) → (cond b (begun v) v).reply ≡ v.reply
    by true = refl
    by false = refl

event_notes : (bad : Option RecordFault) (full : Option LogFault) (event : List ℕ) (before : Note) → note_with (event_deed bad full event) before ≡ note (event_deed bad full event ∷ [])
event_notes (Some fault) full event before = refl
event_notes None (Some fault) event before = refl
event_notes None None event before = refl

pub event_said : (Z : List ℕ) (H : List (Entry Item)) (item : Item) (octets : List ℕ) → item ≡ Event octets
    → note_line (standing Z (H ++ Taken item ∷ [])).note ≡ item_line Z H item
event_said Z H item octets is =
    let v = standing Z H in
    let said : (standing Z (H ++ Taken (Event octets) ∷ [])).note ≡ note (item_deed v (Event octets) ∷ []) =
    ap (λ x. x.note) (standing_next Z H (Taken (Event octets))) ∙ keeps_note (with_deed (item_deed v (Event octets)) v) ∙ event_notes (record_fault octets) (add_fault v.records octets) octets v.note in
    ap (λ i. note_line (standing Z (H ++ Taken i ∷ [])).note) is ∙ ap note_line said ∙ ap (item_line Z H) (sym is)

pub command_said : (Z : List ℕ) (H : List (Entry Item)) (item : Item) (asked : Asked) → item ≡ Command asked
    → reply_line (standing Z (H ++ Taken item ∷ [])).reply ≡ item_line Z H item
command_said Z H item asked is =
    let v = standing Z H in
    let said : (standing Z (H ++ Taken (Command asked) ∷ [])).reply ≡ reply (item_deed v (Command asked) ∷ []) =
    ap (λ x. x.reply) (standing_next Z H (Taken (Command asked))) ∙ keeps_reply (with_deed (item_deed v (Command asked)) v) in
    ap (λ i. reply_line (standing Z (H ++ Taken i ∷ [])).reply) is ∙ ap reply_line said ∙ ap (item_line Z H) (sym is)
