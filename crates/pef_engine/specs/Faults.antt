-- What a fault of the journal is to the engine.
use Rattle.pef_journal.specs.declared.fault.JournalFault.{JournalFault}
use Rattle.pef_journal.specs.declared.fault.JournalFault.TheVariants as journal
use Rattle.pef_engine.specs.declared.faults.EngineFault.{EngineFault}
use Rattle.pef_engine.specs.declared.faults.EngineFault.TheVariants.{NotFormatted, Corrupt, DiskFault, Full}

abbrev pub fault_of : JournalFault → EngineFault
fault_of journal.NotFormatted = NotFormatted
fault_of (journal.Corrupt at) = Corrupt at
fault_of journal.DiskFault = DiskFault
fault_of journal.Full = Full
