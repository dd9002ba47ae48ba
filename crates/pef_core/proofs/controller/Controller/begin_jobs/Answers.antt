use Rattle.std.proofs.Common.{sym, ◌∙◌, arith}
use Rattle.pef_core.proofs.Beginning.{waits, is_within, passes, none_if, begins_then, ends}
use Rattle.pef_core.proofs.controller.Controller.begin_jobs.Goals as goal

pub returns-then-is_some-clause-values : goal.returns-then-is_some-clause-values
returns-then-is_some-clause-values c =
    let self = c.records.self in
    let waiting = waits self c.waiting.result c.in-Some.event c.work_for-work.result c.waiting.ensures.event c.in-Some.is c.work_for-work.ensures in
    c.begin.ensures.values
    ∙ begins_then self c.work_for-work.result waiting c.first_turn-turn.result (sym c.is_some.ensures ∙ c.if-is_some.true) (sym c.first_turn-turn.ensures.value)
    ∙ c.records.invariant.same

pub records-smaller : goal.records-smaller
records-smaller c =
    omega (arith, is_within c.records.self c.work_for-work.result (waits c.records.self c.waiting.result c.in-Some.event c.work_for-work.result c.waiting.ensures.event c.in-Some.is c.work_for-work.ensures))

pub records-preserved : goal.records-preserved
records-preserved c = record {
  idle = c.records.invariant.idle;
  same =
      passes c.records.self c.work_for-work.result (waits c.records.self c.waiting.result c.in-Some.event c.work_for-work.result c.waiting.ensures.event c.in-Some.is c.work_for-work.ensures)
      (sym c.first_turn-turn.ensures.value ∙ none_if c.first_turn-turn.result (sym c.is_some.ensures ∙ c.if-is_some.false))
      ∙ c.records.invariant.same;
  script = c.records.invariant.script;
}

pub returns-clause-values : goal.returns-clause-values
returns-clause-values c = ends c.records.self (sym c.waiting.ensures.event ∙ c.in_default.is) ∙ c.records.invariant.same
