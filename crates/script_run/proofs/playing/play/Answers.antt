use Rattle.std.proofs.Common.{Ok, Err, sym, ap, subst}
use Rattle.std.proofs.lemmas.Result.{err_from_is_err_and}
use Rattle.pef_engine.specs.Scripts.{script_of}
use Rattle.script_run.specs.Course.{IsCourse}
use Rattle.script_run.proofs.GoingLemmas.{goes_nothing}
use Rattle.script_run.proofs.PlayLemmas.{plays_first, plays_another, plays_on, starts, reader_left, is_head, is_course}
use Rattle.script_run.proofs.playing.play.Goals as goal

pub returns-in_err-head-clause-plays : goal.returns-in_err-head-clause-plays
returns-in_err-head-clause-plays g c =
    let o = c.in_err-head.ensures in
    let q = err_from_is_err_and c.from_residual.result c.from_residual.ensures.1 in
    rw (q.1, q.2) (
      c.first_line.new.reader,
      starts (g.S.Source.left c.args.source.now) (g.S.Source.faults c.args.source.now) c.new-reader.ensures
          (plays_first _ _ c.in_err-head.field-0.0 o.head o.reads (λ step e. o.no_step step (ap Err e)) (goes_nothing _ (g.met.B.Board.sound c.args.board.now) c.requires.live c.requires.place)),
    )

pub returns-in_err-course-clause-plays : goal.returns-in_err-course-clause-plays
returns-in_err-course-clause-plays g c =
    let o = c.in_ok-head.ensures in
    let q = err_from_is_err_and c.from_residual-in_err-course.result c.from_residual-in_err-course.ensures.1 in
    rw (q.1, q.2) (
      c.first_line.new.reader,
      starts (g.S.Source.left c.args.source.now) (g.S.Source.faults c.args.source.now) c.new-reader.ensures
          (plays_another _ _ c.in_ok-head.head o.head o.reads c.script-script.result (λ Z H lawful shows. c.script-script.ensures Z H lawful (subst (λ m. (g.M.Machine.view m).shows Z H) (sym c.machine.ensures) shows)) c.in_err-course.field-0.0 c.in_err-course.ensures
          (goes_nothing _ (g.met.B.Board.sound c.args.board.now) c.requires.live c.requires.place)),
    )

pub follow-requires-clause-course : goal.follow-requires-clause-course
follow-requires-clause-course g c =
    let s = c.requires.shows in record {
      settings = s.settings;
      history = s.history;
      lawful = s.lawful;
      shows = s.shows;
      stands = subst (λ x. IsCourse x c.in_ok-head.head.id c.in_ok-head.head.count c.in_ok-course.course) (c.script-script.ensures s.settings s.history s.lawful (subst (λ m. (g.M.Machine.view m).shows s.settings s.history) (sym c.machine.ensures) s.shows)) c.in_ok-course.ensures;
    }

pub returns-in_err-items-clause-plays : goal.returns-in_err-items-clause-plays
returns-in_err-items-clause-plays g c =
    let o = c.in_ok-head.ensures in
    let q = err_from_is_err_and c.from_residual-in_err-items.result c.from_residual-in_err-items.ensures.1 in
    rw (q.1, q.2) (
      c.follow.new.reader,
      starts (g.S.Source.left c.args.source.now) (g.S.Source.faults c.args.source.now) c.new-reader.ensures
          (plays_on _ _ c.in_ok-head.head o.head o.reads c.script-script.result (λ Z H lawful shows. c.script-script.ensures Z H lawful (subst (λ m. (g.M.Machine.view m).shows Z H) (sym c.machine.ensures) shows)) _ c.in_ok-course.course (Err c.in_err-items.field-0.0)
          c.in_ok-course.ensures c.in_err-items.ensures.ran),
    )

pub returns-clause-plays : goal.returns-clause-plays
returns-clause-plays g c =
    let o = c.in_ok-head.ensures in (
      c.follow.new.reader,
      starts (g.S.Source.left c.args.source.now) (g.S.Source.faults c.args.source.now) c.new-reader.ensures
          (plays_on _ _ c.in_ok-head.head o.head o.reads c.script-script.result (λ Z H lawful shows. c.script-script.ensures Z H lawful (subst (λ m. (g.M.Machine.view m).shows Z H) (sym c.machine.ensures) shows)) _ c.in_ok-course.course (Ok c.in_ok-items.items)
          c.in_ok-course.ensures c.in_ok-items.ensures.ran),
    )

pub returns-in_err-items-clause-refused : goal.returns-in_err-items-clause-refused
returns-in_err-items-clause-refused g c = λ Z H text lawful shows left other.
    let head = c.in_ok-head.ensures.head text (reader_left c.new-reader.result (g.S.Source.left c.args.source.now) text c.new-reader.ensures left) in
    let its = c.script-script.ensures Z H lawful (subst (λ m. (g.M.Machine.view m).shows Z H) (sym c.machine.ensures) shows) in
    absurd (is_course g.M.Scripted.scripts text (script_of g.M.Scripted.scripts H) c.in_ok-head.head _ c.in_ok-course.course head.1 (subst (λ x. IsCourse x c.in_ok-head.head.id c.in_ok-head.head.count c.in_ok-course.course) its c.in_ok-course.ensures) other)

pub returns-clause-refused : goal.returns-clause-refused
returns-clause-refused g c = λ Z H text lawful shows left other.
    let head = c.in_ok-head.ensures.head text (reader_left c.new-reader.result (g.S.Source.left c.args.source.now) text c.new-reader.ensures left) in
    let its = c.script-script.ensures Z H lawful (subst (λ m. (g.M.Machine.view m).shows Z H) (sym c.machine.ensures) shows) in
    absurd (is_course g.M.Scripted.scripts text (script_of g.M.Scripted.scripts H) c.in_ok-head.head _ c.in_ok-course.course head.1 (subst (λ x. IsCourse x c.in_ok-head.head.id c.in_ok-head.head.count c.in_ok-course.course) its c.in_ok-course.ensures) other)

pub returns-in_err-items-clause-headless : goal.returns-in_err-items-clause-headless
returns-in_err-items-clause-headless g c = λ text left none.
    let head = c.in_ok-head.ensures.head text (reader_left c.new-reader.result (g.S.Source.left c.args.source.now) text c.new-reader.ensures left) in absurd (is_head head.1 none)

pub returns-clause-headless : goal.returns-clause-headless
returns-clause-headless g c = λ text left none.
    let head = c.in_ok-head.ensures.head text (reader_left c.new-reader.result (g.S.Source.left c.args.source.now) text c.new-reader.ensures left) in absurd (is_head head.1 none)
