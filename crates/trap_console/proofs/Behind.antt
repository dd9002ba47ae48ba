-- A console that shows a history shows it with one more entry, once it has gone on with that entry.
use Rattle.std.specs.Prelude.{IsSome}
use Rattle.std.proofs.Common.{◌≡◌, ℕ, ◌<◌, List, [], ◌∷◌, ◌++◌, Option, Some, None, refl, sym, ◌∙◌, ap, subst, arith}
use Rattle.std.specs.List.{fold}
use Rattle.std.proofs.lemmas.List.Sums.{fold_push}
use Rattle.board_core.specs.declared.step.Step.{Step}
use Rattle.pef_engine.specs.declared.entry.Entry.{Entry}
use Rattle.pef_engine.specs.declared.entry.Entry.TheVariants.{Item as Taken, Outcome}
use Rattle.pef_engine.specs.Rules.{IsOutcome}
use Rattle.pef_engine.specs.Scripts.{script_from}
use Rattle.pef_engine.proofs.ScriptOf.{from-append}
use Rattle.trap_console.specs.declared.console.Console.{Console}
use Rattle.trap_console.specs.declared.heard.Heard.{Heard}
use Rattle.trap_console.specs.declared.heard.Heard.TheVariants.{Nothing}
use Rattle.trap_console.specs.declared.item.Item.{Item}
use Rattle.trap_console.specs.declared.row.Row.{Row}
use Rattle.trap_console.specs.Heard.{rows_with, rows_of, heard_with, heard_behind}
use Rattle.trap_console.specs.Histories.{ack_port, due_behind}
use Rattle.trap_console.specs.Report.{console_scripts}
use Rattle.trap_console.specs.View.{ShowsConsole, AllowedBy, Continues, left_of}

pub heard_behind_push : (rows : List Row) (heard : Heard) (H : List (Entry Item)) (entry : Entry Item)
    → heard_behind rows heard (H ++ entry ∷ []) ≡ heard_with (fold rows_with rows H) (heard_behind rows heard H) entry
heard_behind_push rows heard [] entry = refl
heard_behind_push rows heard (first ∷ H) entry = heard_behind_push (rows_with rows first) (heard_with rows heard first) H entry

pub goes_on : (old new : Console) (entry : Entry Item) → Continues old new entry
    → (Z : List ℕ) (H : List (Entry Item)) → ShowsConsole old Z H → ShowsConsole new Z (H ++ entry ∷ [])
goes_on old new entry on Z H shows = record {
  port_is = on.port_is ∙ shows.port_is;
  rows_is = on.rows_is ∙ ap (λ rows. rows_with rows entry) shows.rows_is ∙ sym (fold_push rows_with [] H entry);
  script_is = on.script_is ∙ ap (λ script. script_from console_scripts script (entry ∷ [])) shows.script_is ∙ sym (from-append console_scripts None H (entry ∷ []));
  heard_is = on.heard_is ∙ ap (λ rows. heard_with rows old.heard entry) shows.rows_is ∙ ap (λ heard. heard_with (rows_of H) heard entry) shows.heard_is ∙ sym (heard_behind_push [] Nothing H entry);
  due_is = on.due_is ∙ ap (λ port. due_behind port entry) shows.port_is ∙ sym (fold_push (λ due e. due_behind (ack_port Z) e) None H entry);
}

one_left : (due : Option Step) → IsSome due → left_of None < left_of due
one_left None some = absurd (cc some)
one_left (Some step) some = omega arith

-- an outcome leaves nothing to issue
pub leaves_none : (old new : Console) (entry : Entry Item) → AllowedBy old entry → Continues old new entry → IsOutcome entry → left_of new.due < left_of old.due
leaves_none old new (Taken item) allowed on outcome = absurd outcome
leaves_none old new (Outcome told) allowed on outcome = subst (λ due. left_of due < left_of old.due) (sym on.due_is) (one_left old.due allowed)
