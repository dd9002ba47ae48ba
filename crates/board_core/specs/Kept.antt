-- What one more call adds to what is kept of a board in memory.
use Rattle.std.specs.Prelude.{◌≡◌, ◌+◌, ◌≤◌, [], ◌∷◌, ◌++◌}
use Rattle.board_core.specs.declared.step.Sent.{Sent}
use Rattle.board_core.specs.declared.call.Effect.{Effect}
use Rattle.board_core.specs.declared.call.Effect.TheVariants.{Issued}
use Rattle.board_core.specs.declared.trace.Trace.{Trace}
use Rattle.board_core.specs.Failures.{one_more}
use Rattle.board_core.specs.Moments.{Past}

abbrev pub past_of : Trace → Past
past_of trace = record { start = trace.start.items; earlier = trace.earlier; calls = trace.calls.kept.items; sent = trace.sent.items; made = trace.calls.made }

-- one more call was made and kept
abbrev pub with_call : Effect → Past → Past
with_call effect past = record {
  start = past.start;
  earlier = past.earlier;
  calls = past.calls ++ record { number = past.made; effect = effect } ∷ [];
  sent = past.sent;
  made = past.made + 1;
}

-- one more step was issued
abbrev pub with_step : Sent → Past → Past
with_step sent past = record {
  start = past.start;
  earlier = past.earlier;
  calls = past.calls ++ record { number = past.made; effect = Issued } ∷ [];
  sent = past.sent ++ sent ∷ [];
  made = past.made + 1;
}

-- nothing was kept of a call but that it was made
pub record KeepsNothing (old new : Trace) : Type 0 where
  pub octets : new.octets.items ≡ old.octets.items
  pub start : new.start.items ≡ old.start.items
  pub earlier : new.earlier ≡ old.earlier
  pub calls : new.calls.kept.items ≡ old.calls.kept.items
  pub sent : new.sent.items ≡ old.sent.items
  pub made : new.calls.made ≡ one_more old.calls.made
  pub later : old.calls.made ≤ new.calls.made
