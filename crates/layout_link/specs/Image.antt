-- How large a ROM is, and where it begins.
use Rattle.std.specs.Prelude.{ℕ, ◌*◌, ◌-◌}
use Rattle.layout_link.specs.declared.image.RomSize.{RomSize}
use Rattle.layout_link.specs.declared.image.RomSize.TheVariants as sizes

-- how many KiB it has
abbrev pub kib_of : RomSize → ℕ
kib_of sizes.Kib8 = 8
kib_of sizes.Kib16 = 16
kib_of sizes.Kib32 = 32
kib_of sizes.Kib64 = 64

abbrev pub bytes_in : RomSize → ℕ
bytes_in size = 1024 * kib_of size

-- where it begins in the segment at whose end it lies
abbrev pub base_of : RomSize → ℕ
base_of size = 65536 - bytes_in size
