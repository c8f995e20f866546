-- The sizes of a ROM.
use Rattle.std.specs.Prelude.{ℕ, Bool, ◌==◌, ◌||◌}

-- 8, 16, 32 or 64 KiB
abbrev pub is_rom_length : ℕ → Bool
is_rom_length n = (n == 8192) || (n == 16384) || (n == 32768) || (n == 65536)
