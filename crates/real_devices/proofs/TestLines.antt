-- The two lines that the tests append.
use Rattle.std.proofs.Common.{◌≡◌, refl, codes}
use Rattle.real_devices.specs.Lines.{IsLine}

pub first_line : IsLine (codes "oem 0001\n")
first_line = (codes "oem 0001", refl)

pub second_line : IsLine (codes "oem 0002\n")
second_line = (codes "oem 0002", refl)
