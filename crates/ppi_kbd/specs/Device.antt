-- The ports: which chip a port belongs to, and the register of that chip.
use Rattle.std.specs.Prelude.{ℕ, ◌==◌, ◌/◌, ◌%◌, if◌then◌else◌}
use Rattle.ppi_kbd.specs.declared.device.Device.{Device}
use Rattle.ppi_kbd.specs.declared.device.Device.TheVariants.{Interrupts, Timer, Interface, Unmapped}

-- 20H and 21H the interrupt controller, 40H to 43H the timer, 60H to 63H the peripheral interface
abbrev pub device_of : ℕ → Device
device_of port =
    if port / 2 == 16 then Interrupts (port % 2)
    else if port / 4 == 16 then Timer (port % 4)
    else if port / 4 == 24 then Interface (port % 4)
    else Unmapped
