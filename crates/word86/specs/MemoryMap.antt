-- Where things lie in memory: what the board, the language and compiled programs agree on, as a linker script says it.
use Rattle.std.specs.Prelude.{ℕ, ◌-◌, ◌*◌}

-- RAM begins at address 0, with the 256 vectors of interrupts, of four bytes each
abbrev pub ram_size : ℕ
ram_size = 0x20000

abbrev pub vectors_size : ℕ
vectors_size = 1024

-- a program's objects and its stack are in one segment, the screen in another, and code and constants of the ROM in a third
abbrev pub data_segment : ℕ
data_segment = 0x40

abbrev pub screen_segment : ℕ
screen_segment = 0xB000

abbrev pub code_segment : ℕ
code_segment = 0xF000

-- the addresses where these segments begin
abbrev pub data_start : ℕ
data_start = 16 * data_segment

abbrev pub screen_start : ℕ
screen_start = 16 * screen_segment

abbrev pub code_start : ℕ
code_start = 16 * code_segment

-- objects lie from the first offset of the data segment on, below its end: so much room they have together
abbrev pub first_offset : ℕ
first_offset = 2

abbrev pub data_end : ℕ
data_end = 0xF000

abbrev pub data_room : ℕ
data_room = data_end - first_offset

-- the stack's room begins there; the stack pointer begins behind it
abbrev pub stack_top : ℕ
stack_top = 0xFFFE

abbrev pub stack_room : ℕ
stack_room = stack_top - data_end

-- the far jump of the reset stands at this offset of the code segment
abbrev pub reset_offset : ℕ
reset_offset = 0xFFF0
