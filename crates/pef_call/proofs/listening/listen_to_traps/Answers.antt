use Rattle.pef_call.proofs.Acks.{keeps_acks}
use Rattle.pef_call.proofs.listening.listen_to_traps.Goals as goal

pub returns-clause-acks : goal.returns-clause-acks
returns-clause-acks g c = λ tells Z H before lawful stands told. keeps_acks Z H lawful _ _ _ (c.listen.ensures.answers tells Z H before lawful stands told).headline
