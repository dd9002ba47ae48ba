-- Why a file isn't held.
use Rattle.std.specs.declared.fs.locks.TryLockError.{TryLockError}
use Rattle.std.specs.declared.fs.locks.TryLockError.TheVariants.{Error, WouldBlock}
use Rattle.real_devices.specs.declared.held_file.HoldFault.{HoldFault}
use Rattle.real_devices.specs.declared.held_file.HoldFault.TheVariants.{System, Held}

abbrev pub lock_fault_of : TryLockError → HoldFault
lock_fault_of (Error error) = System error
lock_fault_of WouldBlock = Held
