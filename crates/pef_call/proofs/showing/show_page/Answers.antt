use Rattle.std.proofs.Common.{◌∙◌}
use Rattle.pef_core.specs.Shown.{shown_page}
use Rattle.pef_call.proofs.Writing.{wrote, wrote_part}
use Rattle.pef_call.proofs.showing.show_page.Goals as goal

pub returns-in-Ok-clause-rows : goal.returns-in-Ok-clause-rows
returns-in-Ok-clause-rows g c = λ count e Z H shows.
    wrote (shown_page Z H) c.as_slice.result.now (c.as_slice.ensures ∙ c.page.ensures Z H shows) (g.K.Sink.written c.args.out.now) (g.K.Sink.written c.write.new.self) c.in-Ok.field-0
    c.in-Ok.ensures.appended

pub returns-in-Err-clause-cut : goal.returns-in-Err-clause-cut
returns-in-Err-clause-cut g c = λ is Z H shows.
    wrote_part (shown_page Z H) c.as_slice.result.now (c.as_slice.ensures ∙ c.page.ensures Z H shows) (g.K.Sink.written c.args.out.now) (g.K.Sink.written c.write.new.self) c.in-Err.field-0
    c.in-Err.ensures.appended
