use Rattle.std.proofs.Common.{◌∷◌, refl, ◌∙◌, ap}
use Rattle.std.proofs.lemmas.Result.{err_from_is_err_and}
use Rattle.script_text.specs.Lines.{lines_of}
use Rattle.script_text.specs.Script.{given}
use Rattle.pef_engine.specs.declared.script.ScriptStep.TheVariants.{Opens}
use Rattle.pef_engine.specs.Scripts.{script_of}
use Rattle.script_run.specs.Items.{rest_of}
use Rattle.script_run.proofs.ScriptsLemmas.{item_allowed}
use Rattle.script_run.proofs.PlayLemmas.{ran_stops, ran_behind, ran_all, may_open, ready_opened}
use Rattle.script_run.proofs.playing.begin.Goals as goal

pub take_one-requires-clause-allowed : goal.take_one-requires-clause-allowed
take_one-requires-clause-allowed g c =
    let t = c.requires.course in
    item_allowed g.M.Machine.rules g.M.Scripted.scripts g.met.M.Scripted.scripted (g.M.Machine.view c.args.engine.now.machine) (g.met.M.Machine.agrees c.args.engine.now.machine) t.settings t.history t.lawful t.shows c.requires.idle
    c.opening.result (Opens c.args.head.id c.args.head.count) (ap g.M.Scripted.scripts.step c.opening.ensures.item ∙ g.met.M.Scripted.scripted.opens c.args.head.id c.args.head.count) c.opening.ensures.entry
    (may_open g.M.Machine.rules g.M.Scripted.scripts g.met.M.Scripted.scripted (g.M.Machine.view c.args.engine.now.machine) (g.M.Machine.view c.args.engine.now.machine) c.args.head.id c.args.head.count (script_of g.M.Scripted.scripts t.history) t.stands c.requires.count)

pub take_lines-requires-clause-ready : goal.take_lines-requires-clause-ready
take_lines-requires-clause-ready g c =
    let t = c.requires.course in
    let one = c.in_ok-take_one.ensures in
    ready_opened g.M.Machine.rules g.M.Scripted.scripts g.met.M.Scripted.scripted (g.M.Machine.view c.args.engine.now.machine) (g.M.Machine.view c.take_one.new.engine.machine) c.args.head.id c.args.head.count
    c.opening.result c.opening.ensures.item t.settings t.history (one.goes.moves refl t.settings t.history t.lawful t.shows) one.idle

pub returns-in_err-take_one : goal.returns-in_err-take_one
returns-in_err-take_one g c =
    let q = err_from_is_err_and c.from_residual.result c.from_residual.ensures.1 in
    rw (q.1, q.2) record {
      ran = ran_stops _ c.in_err-take_one.field-0.0 c.in_err-take_one.ensures.goes c.requires.held
          (λ text unread. (rest_of g.M.Scripted.scripts 0 (given g.M.Scripted.scripts.item_of (lines_of text) c.args.head.count 2), ap (λ i. i ∷ rest_of g.M.Scripted.scripts 0 (given g.M.Scripted.scripts.item_of (lines_of text) c.args.head.count 2)) c.opening.ensures.item));
    }

pub returns-in_err-items : goal.returns-in_err-items
returns-in_err-items g c =
    let q = err_from_is_err_and c.from_residual-in_err-items.result c.from_residual-in_err-items.ensures.1 in
    rw (q.1, q.2) record { ran = ran_behind _ c.opening.result _ c.opening.ensures.item c.in_err-items.field-0.0 c.in_ok-take_one.ensures.goes c.in_err-items.ensures.ran }

pub returns : goal.returns
returns g c = record { ran = ran_all _ c.opening.result _ c.opening.ensures.item c.in_ok-items.items c.in_ok-take_one.ensures.goes c.in_ok-items.ensures.ran }
