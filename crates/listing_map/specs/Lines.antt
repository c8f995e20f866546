-- The lines that users see: each line of a trace, from `IN pppp vv` to `END n` and `OPCODE aaaaa`, and the line of a fault.
use Rattle.std.specs.Prelude.{ℕ, List, [], ◌∷◌, ◌++◌, ◌+◌, ◌/◌, ◌%◌, if◌then◌else◌, nat_lt, codes, decimal}
use Rattle.word86.specs.Number.{number_text}
use Rattle.word86.specs.declared.number.Number.{Number}
use Rattle.word86.specs.declared.label.Label.{Label}
use Rattle.word86.specs.declared.label.Label.TheVariants.{In, InW, Out, OutW, Scr, ScrW, Mono, MonoW, Ack, Tick, Key}

-- a hexadecimal digit in capitals, and numbers of two, four and five digits
abbrev pub hex_digit : ℕ → ℕ
hex_digit d = if nat_lt d 10 then d + 48 else d + 55

abbrev pub hex2 : ℕ → List ℕ
hex2 v = hex_digit (v / 16 % 16) ∷ hex_digit (v % 16) ∷ []

abbrev pub hex4 : ℕ → List ℕ
hex4 v = hex_digit (v / 4096 % 16) ∷ hex_digit (v / 256 % 16) ∷ hex_digit (v / 16 % 16) ∷ hex_digit (v % 16) ∷ []

abbrev pub hex5 : ℕ → List ℕ
hex5 v = hex_digit (v / 65536 % 16) ∷ hex_digit (v / 4096 % 16) ∷ hex_digit (v / 256 % 16) ∷ hex_digit (v / 16 % 16) ∷ hex_digit (v % 16) ∷ []

abbrev pub line_end : List ℕ
line_end = 10 ∷ []

-- a word, a place and a value of a byte, or of a word
abbrev pub byte_line : List ℕ → ℕ → ℕ → List ℕ
byte_line word place v = word ++ hex4 place ++ codes " " ++ hex2 v ++ line_end

abbrev pub word_line : List ℕ → ℕ → ℕ → List ℕ
word_line word place v = word ++ hex4 place ++ codes " " ++ hex4 v ++ line_end

abbrev pub short_line : List ℕ → ℕ → List ℕ
short_line word v = word ++ hex2 v ++ line_end

abbrev pub decimal_line : List ℕ → ℕ → List ℕ
decimal_line word n = word ++ decimal n ++ line_end

abbrev pub label_line : Label → List ℕ
label_line (In port v) = byte_line (codes "IN ") port v
label_line (InW port v) = word_line (codes "INW ") port v
label_line (Out port v) = byte_line (codes "OUT ") port v
label_line (OutW port v) = word_line (codes "OUTW ") port v
label_line (Scr place v) = byte_line (codes "SCR ") place v
label_line (ScrW place v) = word_line (codes "SCRW ") place v
label_line (Mono place v) = byte_line (codes "MONO ") place v
label_line (MonoW place v) = word_line (codes "MONOW ") place v
label_line (Ack n) = short_line (codes "ACK ") n
label_line (Tick k) = decimal_line (codes "TICK ") k
label_line (Key h) = short_line (codes "KEY ") h

-- what stands before a line that has its turn in front
abbrev pub turn_number : ℕ → List ℕ
turn_number turn = decimal turn ++ codes " "

-- the last line of a trace: how many turns were run, or the address of bytes that are no instruction
abbrev pub end_line : ℕ → List ℕ
end_line turns = decimal_line (codes "END ") turns

abbrev pub opcode_line : ℕ → List ℕ
opcode_line address = codes "OPCODE " ++ hex5 address ++ line_end

-- the last line of a run of the meaning that came to a Bad step: its source, and its line there
abbrev pub bad_line : List ℕ → ℕ → List ℕ
bad_line name line = codes "BAD " ++ name ++ codes "(" ++ decimal line ++ codes ")" ++ line_end

-- a fault or a warning at a line of a source
abbrev pub located_line : List ℕ → ℕ → Number → List ℕ
located_line name line n = name ++ codes "(" ++ decimal line ++ codes "): " ++ number_text n ++ line_end
