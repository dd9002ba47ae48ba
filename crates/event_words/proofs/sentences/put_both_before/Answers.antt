use Rattle.std.proofs.Common.{◌++◌, ◌∙◌, ap, append_assoc, codes}
use Rattle.event_words.specs.Sentence.{before_text, generic_text}
use Rattle.event_words.proofs.sentences.put_both_before.Goals as goal

pub returns-clause-added : goal.returns-clause-added
returns-clause-added c =
    c.put_generic_behind.ensures.added ∙ ap (λ l. l ++ (codes ", severity " ++ generic_text 7 c.args.severity)) c.put_state_behind-line.ensures.added
    ∙ append_assoc c.args.line (before_text c.args.kind c.args.sensor_type c.args.state) (codes ", severity " ++ generic_text 7 c.args.severity)
