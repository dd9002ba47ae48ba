use Rattle.std.proofs.Common.{ap, length, ◌∙◌, arith}
use Rattle.trap_console.proofs.Appending.{line_then, line_fails}
use Rattle.trap_console.proofs.listing.list_rows.Goals as goal

pub returns-in-Err-clause-lines : goal.returns-in-Err-clause-lines
returns-in-Err-clause-lines g c =
    let written = g.K.Sink.written in
    c.rows.invariant.written (written c.write.new.self) _
    (line_fails c.rows.number c.in-Some.row.now c.in-Some.behind.now c.rows.rest.now c.as_slice.result.now (written c.rows.out) (written c.write.new.self) c.in-Err.failed
    c.in-Some.ensures (c.as_slice.ensures ∙ c.row_line-line.ensures) c.in-Err.ensures.appended)

pub rows-preserved : goal.rows-preserved
rows-preserved g c =
    let written = g.K.Sink.written in
    record {
      counted = omega (arith, c.rows.invariant.counted, ap length c.in-Some.ensures);
      same = c.in-Ok.ensures.cause.same ∙ c.rows.invariant.same;
      written = λ new result rest. c.rows.invariant.written new result
          (line_then c.rows.number c.in-Some.row.now c.in-Some.behind.now c.rows.rest.now c.as_slice.result.now (written c.rows.out) (written c.write.new.self) new result
          c.in-Some.ensures (c.as_slice.ensures ∙ c.row_line-line.ensures) c.in-Ok.ensures.appended rest);
    }
