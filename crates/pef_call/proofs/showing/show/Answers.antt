use Rattle.pef_call.specs.Listing.{controller_page, sourceless}
use Rattle.pef_call.proofs.Rows.{lists}
use Rattle.pef_call.proofs.showing.show.Goals as goal

pub returns : goal.returns
returns g c = lists controller_page (sourceless (g.B.Board.view c.args.board.now) (g.K.Sink.written c.args.out.now) (g.K.Sink.faults c.args.out.now)) _ _ _ _ _ c.show_file-end.result c.finish.result c.show_file-end.ensures c.finish.ensures
