use Rattle.std.proofs.Common.{◌≡◌, ◌≤◌, ◌++◌, length, take, drop, replicate, sym, ◌∙◌, ap, arith, length-drop}
use Rattle.std.proofs.lemmas.List.{take-append-le, length-take-le}
use Rattle.board_core.proofs.TraceCalls.{passes}
use Rattle.board_core.proofs.memory_board.MemBoardBoard.read_at.Goals as goal

pub returns-then-count-clause-same : goal.returns-then-count-clause-same
returns-then-count-clause-same c =
    let old = c.args.self.now in
    passes old.trace c.pass.new.self old.tells old.disk_faults c.saturating_add-self.result old.issue_faults (omega (arith, c.saturating_add-self.ensures)) c.pass.ensures.nothing

pub returns-clause-same : goal.returns-clause-same
returns-clause-same c =
    let old = c.args.self.now in
    passes old.trace c.pass.new.self old.tells old.disk_faults old.disk_faults old.issue_faults (omega arith) c.pass.ensures.nothing

pub returns-clause-octets : goal.returns-clause-octets
returns-clause-octets c = λ tells.
    let file = c.args.self.now.trace.octets.items in
    let count = length c.args.into.now in
    let same : c.deref.result.now ≡ file = c.deref.ensures.value ∙ c.pass.ensures.nothing.octets in
    let room : count ≤ length (drop c.args.place file) = omega (arith, c.requires tells, length-drop c.args.place file) in
    let front : c.get.new.into ≡ take count (drop c.args.place file) =
    c.get.ensures ∙ ap (λ f. take count (drop c.args.place f ++ replicate count 0)) same ∙ take-append-le count (drop c.args.place file) (replicate count 0) room in
    let size : length c.get.new.into ≡ count = ap length front ∙ length-take-le count (drop c.args.place file) room in
    front ∙ sym (ap (λ n. take n (drop c.args.place file)) size)
