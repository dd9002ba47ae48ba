use Rattle.std.proofs.Common.{rules, ◌≡◌, inl, inr, ⊎_elim, ℕ, List, map, Ok, Err, true, false, refl, sym, ◌∙◌, subst, arith}
use Rattle.std.proofs.lemmas.Result.{err_from_is_err_and}
use Rattle.std.proofs.lemmas.List.{append-nil}
use Rattle.pef_journal.specs.Image as image
use Rattle.pef_journal.specs.Journal.{GivesEntry, ReadsOn, Finds}
use Rattle.pef_engine.specs.declared.entry.Entry.{Entry}
use Rattle.pef_engine.specs.declared.engine.Engine.{Engine}
use Rattle.pef_engine.specs.declared.faults.EngineFault.TheVariants.{Memory}
use Rattle.pef_engine.specs.Rules.{Allowed, Stands}
use Rattle.pef_engine.specs.Engine.{ReplaysOne}
use Rattle.pef_engine.proofs.Replaying.{open_fails, open_ends, journal_fails, stands_before, read_on, entry_fails, one_stops, replayed_on, holds_at_end}
use Rattle.pef_engine.proofs.engine.Engine.replay.Goals as goal

pub returns-in_err-journal : goal.returns-in_err-journal
returns-in_err-journal g c =
    let o = c.in_err-journal.ensures in
    let q = err_from_is_err_and c.from_residual.result c.from_residual.ensures.1 in
    rw (q.1, q.2) (journal_fails g.M.Machine.rules g.M.Machine.view (g.B.Board.view c.args.board.now) (g.B.Board.view c.open.new.board) o.run o.octets c.in_err-journal.field-0.0 o.synced
    (λ t e. subst (λ k. image.IsForKind k (g.B.Board.view c.args.board.now).octets → ⊥) c.kind.ensures.kind (o.unformatted t (cc e))) (λ e. o.disk (cc e)) (λ not. o.counted (λ e. not (cc e))) (⊎_elim (λ e. inl (cc e)) (λ e. inr (cc e)) o.other))

pub returns-in_err-machine : goal.returns-in_err-machine
returns-in_err-machine g c =
    let o = c.in_ok-journal.ensures in
    let q = err_from_is_err_and c.from_residual-in_err-machine.result c.from_residual-in_err-machine.ensures.1 in
    rw (q.1, q.2) (open_fails g.M.Machine.rules g.M.Machine.view (g.B.Board.view c.args.board.now) (g.B.Board.view c.open.new.board) o.run o.octets (Memory c.in_err-machine.field-0.0) o.synced
    (λ t. subst (λ k. image.IsForKind k (g.B.Board.view c.args.board.now).octets) c.kind.ensures.kind (subst (image.IsForKind c.kind.result) (o.octets t) (c.open.new.settings, (o.read t).rest, (o.read t).file))) (λ t Z H lawful stands. tt) (λ e. absurd (cc e)) (λ not. o.counted (λ e. cc e)))

pub returns-in_err-entry : goal.returns-in_err-entry
returns-in_err-entry g c =
    let rules' = g.M.Machine.rules in
    let now = g.B.Board.view c.entries.board in
    let new = g.B.Board.view c.entry.new.board in
    let o = c.in_err-entry.ensures in
    let i = c.entries.invariant in
    let q = err_from_is_err_and c.from_residual-in_err-entry.result c.from_residual-in_err-entry.ensures.1 in
    rw (q.1, q.2) (entry_fails rules' g.M.Machine.view (λ Z G e a. g.met.M.Machine.are_entries Z G e a) (g.B.Board.view c.args.board.now) now new i.read
    (read_on _ now new (g.met.B.Board.sound c.entries.board) (g.met.B.Board.sound c.entry.new.board) i.read o.file) o.file.call.run.tells c.entries.machine c.entries.journal i.replayed c.entry.new.out c.in_err-entry.field-0.0 o.finds
    (λ t after at. let disk = o.whole t rules'.kind i.replayed.settings (map rules'.encode i.replayed.done) after at in cc disk) (λ e. omega (arith, i.read.run.disk_faults, o.disk (cc e))) (λ not. o.counted (λ e. not (cc e)) ∙ i.same))

pub entries-preserved : goal.entries-preserved
entries-preserved g c =
    let rules' = g.M.Machine.rules in
    let now = g.B.Board.view c.entries.board in
    let new = g.B.Board.view c.entry.new.board in
    let o = c.in_ok-entry.ensures in
    let i = c.entries.invariant in
    let r = i.replayed in
    let test : c.in_ok-entry.field-0 ≡ true = search rules in record {
      read = read_on _ now new (g.met.B.Board.sound c.entries.board) (g.met.B.Board.sound c.entry.new.board) i.read o.file;
      same = o.counted (λ e. cc e) ∙ i.same;
      replayed = replayed_on rules' g.M.Machine.view now new c.entries.machine c.entries.journal r c.replay_one.new.machine c.entry.new.self c.entry.new.out c.place-gate.result
          (subst (λ l. ReplaysOne rules' (g.M.Machine.view c.replay_one.new.machine) r.settings r.done l c.place-gate.result (Ok tt)) c.as_slice.ensures (c.in_ok-replay_one.ensures.replays r.settings r.done r.lawful r.shows))
          (λ t. subst (λ b. ReadsOn rules'.kind r.settings (map rules'.encode r.done) new c.entry.new.self c.entry.new.out b) test (o.reads t rules'.kind r.settings (map rules'.encode r.done) (r.read (o.file.call.run.tells t))));
    }

pub returns-in_err-replay_one : goal.returns-in_err-replay_one
returns-in_err-replay_one g c =
    let rules' = g.M.Machine.rules in
    let now = g.B.Board.view c.entries.board in
    let new = g.B.Board.view c.entry.new.board in
    let o = c.in_ok-entry.ensures in
    let i = c.entries.invariant in
    let r = i.replayed in
    let test : c.in_ok-entry.field-0 ≡ true = search rules in
    let q = err_from_is_err_and c.from_residual-in_err-replay_one.result c.from_residual-in_err-replay_one.ensures.1 in
    rw (q.1, q.2) (one_stops rules' g.M.Machine.view (λ Z G e a. g.met.M.Machine.are_entries Z G e a) (g.B.Board.view c.args.board.now) now new i.read
    (read_on _ now new (g.met.B.Board.sound c.entries.board) (g.met.B.Board.sound c.entry.new.board) i.read o.file) o.file.call.run.tells c.entries.machine c.entries.journal r c.entry.new.out c.entry.new.self c.place-gate.result
    c.place-gate.ensures (λ t. subst (λ b. Finds now.octets c.entries.journal.place c.entry.new.out (Ok b)) test (o.finds t))
    (λ t K at. subst (λ b. GivesEntry rules'.kind r.settings (map rules'.encode r.done) K new c.entry.new.self c.entry.new.out b) test (o.entry t rules'.kind r.settings (map rules'.encode r.done) K at))
    (o.counted (λ e. cc e) ∙ i.same) c.replay_one.new.machine c.in_err-replay_one.field-0.0
    (subst (λ l. ReplaysOne rules' (g.M.Machine.view c.replay_one.new.machine) r.settings r.done l c.place-gate.result (Err c.in_err-replay_one.field-0.0)) c.as_slice.ensures (c.in_err-replay_one.ensures.replays r.settings r.done r.lawful r.shows)))

pub returns : goal.returns
returns g c =
    let rules' = g.M.Machine.rules in
    let view' = g.M.Machine.view in
    let start = g.B.Board.view c.args.board.now in
    let now = g.B.Board.view c.entries.board in
    let new = g.B.Board.view c.entry.new.board in
    let o = c.in_ok-entry.ensures in
    let i = c.entries.invariant in
    let r = i.replayed in
    let test : c.in_ok-entry.field-0 ≡ false = search rules in
    let are = λ (Z : List ℕ) (G : List (Entry g.row.M-Item.Denot)) (e : Entry g.row.M-Item.Denot) (a : Allowed rules' Z G e). g.met.M.Machine.are_entries Z G e a in
    let on = read_on start now new (g.met.B.Board.sound c.entries.board) (g.met.B.Board.sound c.entry.new.board) i.read o.file in
    let engine : Engine g.row.M.Denot g.row.M-Item.Denot = record { machine = c.entries.machine; journal = c.entry.new.self; live = true } in
    open_ends rules' view' start new on.run on.octets engine on.moments
    (λ t Z H lawful stands.
    let there = stands_before rules' view' are now (o.file.call.run.tells t) c.entries.machine c.entries.journal r Z H lawful (subst (Stands rules' Z H) (sym (i.read.octets (o.file.call.run.tells t))) stands) in
    let gives = subst (λ b. GivesEntry rules'.kind r.settings (map rules'.encode r.done) (map rules'.encode there.1) new c.entry.new.self c.entry.new.out b) test
    (o.entry t rules'.kind r.settings (map rules'.encode r.done) (map rules'.encode there.1) there.3) in
    holds_at_end rules' view' now new c.entries.machine c.entries.journal r Z H there.1 there.0 there.2 c.entry.new.out engine refl gives)
    (λ t.
    let at_end = subst (λ b. ReadsOn rules'.kind r.settings (map rules'.encode r.done) new c.entry.new.self c.entry.new.out b) test (o.reads t rules'.kind r.settings (map rules'.encode r.done) (r.read (o.file.call.run.tells t))) in
    (r.settings, r.done, r.lawful, subst (Stands rules' r.settings r.done) (on.octets t) (subst (λ (l : List (List ℕ)). image.Stands rules'.kind r.settings l new.octets) (append-nil (map rules'.encode r.done)) at_end.at.stands)))
    ((refl, o.ended.0 test), o.place) (record { settings = r.settings; history = r.done; lawful = r.lawful; shows = r.shows }) (o.counted (λ e. cc e) ∙ i.same)
