use Rattle.pef_call.proofs.Acks.{keeps_acks}
use Rattle.pef_call.proofs.receiving.receive.Goals as goal

pub returns-clause-acks : goal.returns-clause-acks
returns-clause-acks g c = λ tells Z H text lawful stands told. keeps_acks Z H lawful _ _ _ (c.run.ensures.answers tells Z H text lawful stands told).headline
