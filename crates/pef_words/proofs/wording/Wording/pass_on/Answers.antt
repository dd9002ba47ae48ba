use Rattle.std.proofs.Common.{rules, ◌≡◌, ◌∷◌, []}
use Rattle.pef_words.proofs.Paying.{full_paid, full_part}
use Rattle.pef_words.proofs.wording.Wording.pass_on.Goals as goal

pub returns-in-Ok-clause-paid : goal.returns-in-Ok-clause-paid
returns-in-Ok-clause-paid g c =
    let pushed : c.push.new.self ≡ c.args.octet ∷ [] = search rules in
    λ text. full_paid c.args.self.now.passes c.args.self.now.held c.as_slice.result.now c.push.new.self text c.args.octet (g.K.Sink.written c.args.out.now) (g.K.Sink.written c.write.new.self)
    c.requires.within c.requires.full c.as_slice.ensures pushed c.in-Ok.ensures.appended

pub returns-in-Err-clause-cut : goal.returns-in-Err-clause-cut
returns-in-Err-clause-cut g c =
    λ text. full_part c.args.self.now.passes c.args.self.now.held c.as_slice.result.now text c.args.octet (g.K.Sink.written c.args.out.now) (g.K.Sink.written c.write.new.self)
    c.in-Err.failed c.requires.within c.requires.full c.as_slice.ensures c.in-Err.ensures.appended
