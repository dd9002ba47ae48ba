use Rattle.std.proofs.Common.{◌≡◌, None, ◌-◌, length}
use Rattle.pef_core.specs.After.{begun}
use Rattle.pef_core.specs.View.{shown}
use Rattle.pef_core.proofs.controller.Controller.begin_jobs.Given as goal

abbrev pub invariant-records : goal.invariant-records
invariant-records l = record {
  idle : l.self.running ≡ None;
  same : begun (shown l.self) ≡ begun (shown l.fn.self);
  script : l.self.script ≡ l.fn.self.script;
}

abbrev pub decreases-records : goal.decreases-records
decreases-records l = length l.self.log - l.self.mark
