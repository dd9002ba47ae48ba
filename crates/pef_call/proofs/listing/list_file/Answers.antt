use Rattle.pef_call.specs.Listing.{ledger, sourceless}
use Rattle.pef_call.proofs.Rows.{shows, shows_not}
use Rattle.pef_call.proofs.listing.list_file.Goals as goal

pub returns-in-Ok : goal.returns-in-Ok
returns-in-Ok g c =
    let old = sourceless (g.B.Board.view c.args.board.now) (g.K.Sink.written c.args.out.now) (g.K.Sink.faults c.args.out.now) in
    let rows = rw c.machine.ensures at c.show_rows.ensures in
    shows ledger old (g.B.Board.view c.open.new.board) c.in-Ok.engine _ _ c.show_rows.result c.in-Ok.ensures rows.is_end rows.count rows.rows rows.cut rows.output rows.same rows.later

pub returns-in-Err : goal.returns-in-Err
returns-in-Err g c =
    let old = sourceless (g.B.Board.view c.args.board.now) (g.K.Sink.written c.args.out.now) (g.K.Sink.faults c.args.out.now) in
    rw c.ending_at_opening.ensures (shows_not ledger old (g.B.Board.view c.open.new.board) c.in-Err.fault c.in-Err.ensures)
