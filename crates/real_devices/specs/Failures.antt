-- Which of its failures a device keeps.
use Rattle.std.specs.Prelude.{Option, Some, None}
use Rattle.real_devices.specs.declared.failure.Failure.{Failure}

-- the first one, and not the ones behind it
abbrev pub first_of : Option Failure → Failure → Option Failure
first_of (Some first) failure = Some first
first_of None failure = Some failure
