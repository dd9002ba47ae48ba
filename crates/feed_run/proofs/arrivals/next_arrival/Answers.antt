use Rattle.std.proofs.Common.{refl}
use Rattle.feed_run.proofs.ArrivingLemmas.{datagram_gave, tick_gave, end_gave, failed_gave, cause_given, cause_failed}
use Rattle.feed_run.proofs.arrivals.next_arrival.Goals as goal

pub returns-in-Datagram-clause-given : goal.returns-in-Datagram-clause-given
returns-in-Datagram-clause-given g c = datagram_gave _ _ c.in-Datagram.from c.in-Datagram.octets c.in-Datagram.ensures.gives

pub returns-in-Tick-clause-given : goal.returns-in-Tick-clause-given
returns-in-Tick-clause-given g c = tick_gave _ _ c.in-Tick.ensures.gives

pub returns-in-End-clause-given : goal.returns-in-End-clause-given
returns-in-End-clause-given g c = end_gave _ _ c.in-End.ensures.gives

pub returns-in-Failed-clause-given : goal.returns-in-Failed-clause-given
returns-in-Failed-clause-given g c = failed_gave _ _ c.in-Failed.ensures.gives

pub returns-in-Datagram-clause-cause : goal.returns-in-Datagram-clause-cause
returns-in-Datagram-clause-cause g c = cause_given _ _ _ _ (λ e. cc e) c.in-Datagram.ensures.cause

pub returns-in-Tick-clause-cause : goal.returns-in-Tick-clause-cause
returns-in-Tick-clause-cause g c = cause_given _ _ _ _ (λ e. cc e) c.in-Tick.ensures.cause

pub returns-in-End-clause-cause : goal.returns-in-End-clause-cause
returns-in-End-clause-cause g c = cause_given _ _ _ _ (λ e. cc e) c.in-End.ensures.cause

pub returns-in-Failed-clause-cause : goal.returns-in-Failed-clause-cause
returns-in-Failed-clause-cause g c = cause_failed _ _ _ _ refl c.in-Failed.ensures.cause
