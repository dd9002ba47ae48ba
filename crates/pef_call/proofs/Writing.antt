-- What a sink was given by one write.
use Rattle.std.proofs.Common.{◌≡◌, ℕ, List, ◌++◌, Option, Some, None, Ok, Err, ◌∙◌, ap}
use Rattle.board_core.specs.declared.sink.SinkFailed.{SinkFailed}
use Rattle.board_core.specs.Source.{Appends}
use Rattle.pef_call.specs.Listing.{Wrote, WrotePart}

module _ (lines octets : List ℕ) (is : octets ≡ lines) where
  pub wrote : (before after : Option (List ℕ)) (x : Unit) → Appends {E = SinkFailed} octets before after (Ok x) → Wrote lines before after
  wrote (Some old) (Some new) x done = λ text told. let same : old ≡ text = cc told in ap Some (done ∙ ap (λ o. o ++ octets) same ∙ ap (λ l. text ++ l) is)
  wrote (Some old) None x done = absurd done
  wrote None (Some new) x done = absurd done
  wrote None None x done = λ text told. absurd (cc told)

  pub wrote_part : (before after : Option (List ℕ)) (e : SinkFailed) → Appends octets before after (Err e) → WrotePart lines before after
  wrote_part (Some old) (Some new) e done = λ text told. let same : old ≡ text = cc told in (done.0, (done.1, done.2 ∙ is), ap Some (done.3 ∙ ap (λ o. o ++ done.0) same))
  wrote_part (Some old) None e done = absurd done
  wrote_part None (Some new) e done = absurd done
  wrote_part None None e done = λ text told. absurd (cc told)
