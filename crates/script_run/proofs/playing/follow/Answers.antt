use Rattle.std.proofs.Common.{refl, subst}
use Rattle.std.proofs.lemmas.Result.{err_from_is_err_and}
use Rattle.script_text.specs.Lines.{lines_of}
use Rattle.script_text.specs.Script.{given}
use Rattle.script_run.specs.Course.{TakesCourse, items_on}
use Rattle.script_run.specs.declared.course.Course.TheVariants.{Begins, GoesOn, Over}
use Rattle.script_run.proofs.PlayLemmas.{ran_stops, ran_settled, ran_on, ran_over, course_keeps, ready_on, taken_few}
use Rattle.script_run.proofs.playing.follow.Goals as goal

pub returns-in_err-settle_and_say : goal.returns-in_err-settle_and_say
returns-in_err-settle_and_say g c =
    let q = err_from_is_err_and c.from_residual.result c.from_residual.ensures.1 in
    rw (q.1, q.2) record { ran = ran_stops _ c.in_err-settle_and_say.field-0.0 c.in_err-settle_and_say.ensures.goes c.requires.held (λ text unread. (items_on g.M.Scripted.scripts c.args.head.id c.args.head.count (given g.M.Scripted.scripts.item_of (lines_of text) c.args.head.count 2) c.args.course, refl)) }

pub begin-requires-clause-course : goal.begin-requires-clause-course
begin-requires-clause-course g c =
    course_keeps g.M.Machine.rules g.M.Scripted.scripts g.met.M.Scripted.scripted (g.M.Machine.view c.args.engine.now.machine) (g.M.Machine.view c.settle_and_say.new.engine.machine) c.args.head.id c.args.head.count Begins
    (subst (TakesCourse g.M.Machine.rules g.M.Scripted.scripts (g.M.Machine.view c.args.engine.now.machine) c.args.head.id c.args.head.count) c.in-Begins.is c.requires.course) (c.in_ok-settle_and_say.ensures.goes.moves refl)

pub returns-in-Begins : goal.returns-in-Begins
returns-in-Begins g c = record { ran = ran_on _ c.args.head.id c.args.head.count c.args.course Begins c.in-Begins.is (ran_settled _ c.begin.result c.in_ok-settle_and_say.ensures.goes c.begin.ensures.ran) }

pub take_lines-requires-clause-taken : goal.take_lines-requires-clause-taken
take_lines-requires-clause-taken g c =
    taken_few g.M.Machine.rules g.M.Scripted.scripts (g.M.Machine.view c.args.engine.now.machine) c.args.head.id c.args.head.count c.in-GoesOn.taken g.met.M.Scripted.scripted
    (subst (TakesCourse g.M.Machine.rules g.M.Scripted.scripts (g.M.Machine.view c.args.engine.now.machine) c.args.head.id c.args.head.count) c.in-GoesOn.is c.requires.course)

pub take_lines-requires-clause-ready : goal.take_lines-requires-clause-ready
take_lines-requires-clause-ready g c =
    ready_on g.M.Machine.rules g.M.Scripted.scripts (g.M.Machine.view c.settle_and_say.new.engine.machine) c.args.head.id c.args.head.count c.in-GoesOn.taken
    (course_keeps g.M.Machine.rules g.M.Scripted.scripts g.met.M.Scripted.scripted (g.M.Machine.view c.args.engine.now.machine) (g.M.Machine.view c.settle_and_say.new.engine.machine) c.args.head.id c.args.head.count (GoesOn c.in-GoesOn.taken)
    (subst (TakesCourse g.M.Machine.rules g.M.Scripted.scripts (g.M.Machine.view c.args.engine.now.machine) c.args.head.id c.args.head.count) c.in-GoesOn.is c.requires.course) (c.in_ok-settle_and_say.ensures.goes.moves refl))
    c.in_ok-settle_and_say.ensures.idle

pub returns-in-GoesOn : goal.returns-in-GoesOn
returns-in-GoesOn g c = record { ran = ran_on _ c.args.head.id c.args.head.count c.args.course (GoesOn c.in-GoesOn.taken) c.in-GoesOn.is (ran_settled _ c.take_lines.result c.in_ok-settle_and_say.ensures.goes c.take_lines.ensures.ran) }

pub returns-in-Over : goal.returns-in-Over
returns-in-Over g c =
    let o = c.end_over.ensures in
    record { ran = ran_on _ c.args.head.id c.args.head.count c.args.course Over c.in-Over.is (ran_over _ c.end_over.result c.in_ok-settle_and_say.ensures.goes c.in_ok-settle_and_say.ensures.idle o.reads o.answers o.far o.no_step o.none) }
