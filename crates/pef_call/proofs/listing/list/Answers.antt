use Rattle.pef_call.specs.Listing.{ledger, sourceless}
use Rattle.pef_call.proofs.Rows.{lists}
use Rattle.pef_call.proofs.listing.list.Goals as goal

pub returns : goal.returns
returns g c = lists ledger (sourceless (g.B.Board.view c.args.board.now) (g.K.Sink.written c.args.out.now) (g.K.Sink.faults c.args.out.now)) _ _ _ _ _ c.list_file-end.result c.finish.result c.list_file-end.ensures c.finish.ensures
