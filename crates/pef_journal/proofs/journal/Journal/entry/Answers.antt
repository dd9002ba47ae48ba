use Rattle.std.proofs.Common.{◌≡◌, ℕ, ◌+◌, refl, subst, true, false, List, take, drop}
use Rattle.pef_journal.specs.Gate.{GateIs}
use Rattle.pef_journal.specs.declared.gate.Gate.{Gate}
use Rattle.pef_journal.proofs.Moments.{reads_compose}
use Rattle.pef_journal.proofs.ReadOn.{read_closed, gives_none, read_more, gives_one, entry_at, at_not_corrupt}
use Rattle.pef_journal.proofs.journal.Journal.entry.Goals as goal

pub returns-in-Closed-clause-reads : goal.returns-in-Closed-clause-reads
returns-in-Closed-clause-reads g c = λ tells kind Z before r.
    let j = c.args.self.now in
    let v = g.B.Board.view c.args.board.now in
    let w = g.B.Board.view c.read_gate.new.board in
    let found = subst (λ (x : Gate). GateIs v.octets j.place x) c.in-Closed.is (c.in_ok-length.ensures.found tells) in
    read_closed kind Z before v w j (record { place = j.place; ended = true }) c.read_gate.ensures.file tells r found refl refl

pub returns-in-Closed-clause-entry : goal.returns-in-Closed-clause-entry
returns-in-Closed-clause-entry g c = λ tells kind Z before after at.
    let j = c.args.self.now in
    let v = g.B.Board.view c.args.board.now in
    let w = g.B.Board.view c.read_gate.new.board in
    let found = subst (λ (x : Gate). GateIs v.octets j.place x) c.in-Closed.is (c.in_ok-length.ensures.found tells) in
    gives_none kind Z before v w j (record { place = j.place; ended = true }) c.read_gate.ensures.file tells after c.args.out.now at found refl refl

pub returns-in-Corrupt-clause-whole : goal.returns-in-Corrupt-clause-whole
returns-in-Corrupt-clause-whole g c = λ tells kind Z before after at.
    let j = c.args.self.now in
    let v = g.B.Board.view c.args.board.now in
    let found = subst (λ (x : Gate). GateIs v.octets j.place x) c.in-Corrupt.is (c.in_ok-length.ensures.found tells) in
    absurd (at_not_corrupt kind Z before v j after at found)

pub returns-clause-entry : goal.returns-clause-entry
returns-clause-entry g c = λ tells kind Z before after at.
    let j = c.args.self.now in
    let n = c.in-Open.length in
    let v = g.B.Board.view c.args.board.now in
    let w = g.B.Board.view c.read_gate.new.board in
    let x = g.B.Board.view c.read_octets.new.board in
    let tells_w = c.read_octets.ensures.file.call.run.tells tells in
    let found = subst (λ (y : Gate). GateIs v.octets j.place y) c.in-Open.is (c.in_ok-length.ensures.found tells_w) in
    let reads = reads_compose v w x c.read_gate.ensures.file c.read_octets.ensures.file in
    let out_is = subst (λ (l : List ℕ). c.read_octets.new.out ≡ take n (drop (j.place + 3) l)) (c.read_gate.ensures.file.octets tells_w) (c.in_ok-read_octets.ensures.read tells) in
    gives_one kind Z before v x j (record { place = j.place + (3 + n); ended = false }) reads tells n c.read_octets.new.out found.0 found.1 out_is refl after at

pub returns-clause-reads : goal.returns-clause-reads
returns-clause-reads g c = λ tells kind Z before r.
    let j = c.args.self.now in
    let n = c.in-Open.length in
    let v = g.B.Board.view c.args.board.now in
    let w = g.B.Board.view c.read_gate.new.board in
    let x = g.B.Board.view c.read_octets.new.board in
    let tells_w = c.read_octets.ensures.file.call.run.tells tells in
    let found = subst (λ (y : Gate). GateIs v.octets j.place y) c.in-Open.is (c.in_ok-length.ensures.found tells_w) in
    let reads = reads_compose v w x c.read_gate.ensures.file c.read_octets.ensures.file in
    let out_is = subst (λ (l : List ℕ). c.read_octets.new.out ≡ take n (drop (j.place + 3) l)) (c.read_gate.ensures.file.octets tells_w) (c.in_ok-read_octets.ensures.read tells) in
    read_more kind Z before v x j (record { place = j.place + (3 + n); ended = false }) reads tells n c.read_octets.new.out found.0 found.1 out_is refl r

pub returns-clause-finds : goal.returns-clause-finds
returns-clause-finds g c = λ tells.
    let j = c.args.self.now in
    let n = c.in-Open.length in
    let v = g.B.Board.view c.args.board.now in
    let tells_w = c.read_octets.ensures.file.call.run.tells tells in
    let found = subst (λ (y : Gate). GateIs v.octets j.place y) c.in-Open.is (c.in_ok-length.ensures.found tells_w) in
    let out_is = subst (λ (l : List ℕ). c.read_octets.new.out ≡ take n (drop (j.place + 3) l)) (c.read_gate.ensures.file.octets tells_w) (c.in_ok-read_octets.ensures.read tells) in
    entry_at v.octets j.place n c.read_octets.new.out found.0 found.1 out_is
