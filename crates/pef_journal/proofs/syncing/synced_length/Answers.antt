use Rattle.std.proofs.Common.{inl, inr, Result, Ok, Err, OnOk}
use Rattle.pef_journal.specs.Journal.{LeavesAsRead}
use Rattle.pef_journal.proofs.Moments.{syncs_reads}
use Rattle.pef_journal.proofs.syncing.synced_length.Goals as goal

on_ok : {T E : Type 0} (r : Result T E) (P : Type 0) → P → OnOk r P
on_ok (Ok x) P p = p
on_ok (Err e) P p = tt

pub returns-in_err-sync_first-clause-synced : goal.returns-in_err-sync_first-clause-synced
returns-in_err-sync_first-clause-synced g c = λ tells. inl (c.in_err-sync_first.ensures.never tells)

pub returns-clause-synced : goal.returns-clause-synced
returns-clause-synced g c = λ tells.
    let v = g.B.Board.view c.args.board.now in
    let w = g.B.Board.view c.sync_first.new.board in
    let x = g.B.Board.view c.len.new.self in
    let tells_w = c.len.ensures.same.call.run.tells tells in
    inr (syncs_reads v w x (LeavesAsRead v) (g.met.B.Board.sound c.sync_first.new.board) (g.met.B.Board.sound c.len.new.self) c.len.ensures.same tells (c.in_ok-sync_first.ensures.ok tells_w))

pub returns-clause-ok : goal.returns-clause-ok
returns-clause-ok g c = λ tells.
    let v = g.B.Board.view c.args.board.now in
    let w = g.B.Board.view c.sync_first.new.board in
    let x = g.B.Board.view c.len.new.self in
    let tells_w = c.len.ensures.same.call.run.tells tells in
    on_ok c.len.result _ (syncs_reads v w x (LeavesAsRead v) (g.met.B.Board.sound c.sync_first.new.board) (g.met.B.Board.sound c.len.new.self) c.len.ensures.same tells (c.in_ok-sync_first.ensures.ok tells_w))
