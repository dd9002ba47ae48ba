use Rattle.pef_call.specs.Listing.{controller_page, sourceless}
use Rattle.pef_call.proofs.Rows.{shows, shows_not}
use Rattle.pef_call.proofs.showing.show_file.Goals as goal

pub returns-in-Ok : goal.returns-in-Ok
returns-in-Ok g c =
    let old = sourceless (g.B.Board.view c.args.board.now) (g.K.Sink.written c.args.out.now) (g.K.Sink.faults c.args.out.now) in
    let rows = rw c.machine.ensures at c.show_page.ensures in
    shows controller_page old (g.B.Board.view c.open.new.board) c.in-Ok.engine _ _ c.show_page.result c.in-Ok.ensures rows.is_end (λ count e Z H shows. rows.count count e) rows.rows rows.cut rows.output rows.same rows.later

pub returns-in-Err : goal.returns-in-Err
returns-in-Err g c =
    let old = sourceless (g.B.Board.view c.args.board.now) (g.K.Sink.written c.args.out.now) (g.K.Sink.faults c.args.out.now) in
    rw c.ending_at_opening.ensures (shows_not controller_page old (g.B.Board.view c.open.new.board) c.in-Err.fault c.in-Err.ensures)
