use Rattle.std.proofs.Common.{◌≡◌, [], ◌∷◌, ◌++◌, sym, ◌∙◌, ap}
use Rattle.pef_engine.specs.declared.entry.Entry.TheVariants.{Item as Taken}
use Rattle.trap_console.specs.declared.heard.Heard.TheVariants.{Nothing}
use Rattle.trap_console.specs.Received.{received}
use Rattle.trap_console.specs.Rows.{heard_by}
use Rattle.trap_console.specs.Heard.{heard_after, heard_with, heard_behind, rows_of}
use Rattle.trap_console.specs.Report.{heard_line, item_line}
use Rattle.trap_console.proofs.Behind.{heard_behind_push}
use Rattle.trap_console.proofs.report.ConsoleScripted.say.Goals as goal

pub returns-in-Datagram : goal.returns-in-Datagram
returns-in-Datagram c = λ Z H lawful shows.
    let heard = heard_by (rows_of H) (received c.in-Datagram.from c.in-Datagram.octets) in
    let line : item_line Z H c.args.item.now ≡ heard_line heard = ap (item_line Z H) c.in-Datagram.is in
    let last : heard_after (H ++ Taken c.args.item.now ∷ []) ≡ heard =
    heard_behind_push [] Nothing H (Taken c.args.item.now) ∙ ap (λ i. heard_with (rows_of H) (heard_behind [] Nothing H) (Taken i)) c.in-Datagram.is in
    c.heard_text.ensures ∙ ap heard_line (c.heard.ensures Z (H ++ Taken c.args.item.now ∷ []) shows ∙ last) ∙ sym line
