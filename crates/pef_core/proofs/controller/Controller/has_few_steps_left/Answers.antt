use Rattle.std.proofs.Common.{arith}
use Rattle.pef_core.proofs.Bound.{few_of}
use Rattle.pef_core.proofs.Few.{few_left, few_always, replies_are_few, none_runs}
use Rattle.pef_core.proofs.controller.Controller.has_few_steps_left.Goals as goal

pub returns-in-Some-clause-moment : goal.returns-in-Some-clause-moment
returns-in-Some-clause-moment c = λ Z H shows.
    few_left c.args.self.now c.in-Some.running c.in-Some.is (few_of c.args.self.now c.in-Some.running c.in-Some.is c.is_open.ensures Z H shows)

pub returns-in-Some-clause-bound : goal.returns-in-Some-clause-bound
returns-in-Some-clause-bound c = λ Z H lawful shows.
    few_always c.args.self.now c.in-Some.running c.in-Some.is (few_of c.args.self.now c.in-Some.running c.in-Some.is c.is_open.ensures Z H shows) (replies_are_few c.args.self.now Z H lawful shows)

pub returns-in_default-clause-moment : goal.returns-in_default-clause-moment
returns-in_default-clause-moment c = λ Z H shows. omega (arith, none_runs c.args.self.now c.in_default.is)

pub returns-in_default-clause-bound : goal.returns-in_default-clause-bound
returns-in_default-clause-bound c = λ Z H lawful shows. omega (arith, none_runs c.args.self.now c.in_default.is, (replies_are_few c.args.self.now Z H lawful shows).most)
