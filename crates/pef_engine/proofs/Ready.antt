-- Where nothing is made ready nothing has changed.
use Rattle.std.proofs.Common.{refl}
use Rattle.pef_engine.specs.MachineView.{MachineView, KeepsAllButReady}

pub keeps_all : {I : Type 0} (view : MachineView I) → KeepsAllButReady view view
keeps_all view = record { shows = λ Z H s. s; due = refl; allowed = λ e. (λ a. a, λ a. a); over = λ item. (λ a. a, λ a. a); left = refl }
