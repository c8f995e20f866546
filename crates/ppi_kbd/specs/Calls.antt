-- A list of calls, one after another: what each answers, and what they leave. A call that may not be made changes nothing.
use Rattle.std.specs.Prelude.{List, [], ◌∷◌, if◌then◌else◌}
use Rattle.word86.specs.declared.width.Width.TheVariants as width
use Rattle.ppi_kbd.specs.declared.calls.Call.{Call}
use Rattle.ppi_kbd.specs.declared.calls.Call.TheVariants.{Read, ReadWord, Write, WriteWord, Comes, Line, Acknowledge}
use Rattle.ppi_kbd.specs.declared.calls.Reply.{Reply}
use Rattle.ppi_kbd.specs.declared.calls.Reply.TheVariants.{Nothing, Byte, Word, Signal}
use Rattle.ppi_kbd.specs.Chips.{ChipState, value, reading, writing, occurs, int_line, vector, acknowledged}

-- the chips after one call
abbrev pub after_one : Call → ChipState → ChipState
after_one (Read port) c = reading c width.Byte port
after_one (ReadWord port) c = reading c width.Word port
after_one (Write port v) c = writing c width.Byte port v
after_one (WriteWord port v) c = writing c width.Word port v
after_one (Comes event) c = occurs event c
after_one Line c = c
after_one Acknowledge c = if int_line c then acknowledged c else c

-- what one call answers
abbrev pub reply_of : Call → ChipState → Reply
reply_of (Read port) c = Byte (value c width.Byte port)
reply_of (ReadWord port) c = Word (value c width.Word port)
reply_of (Write port v) c = Nothing
reply_of (WriteWord port v) c = Nothing
reply_of (Comes event) c = Nothing
reply_of Line c = Signal (int_line c)
reply_of Acknowledge c = if int_line c then Byte (vector c) else Nothing

-- what a list of calls answers, call by call
abbrev pub replies_of : List Call → ChipState → List Reply
replies_of [] c = []
replies_of (x ∷ xs) c = reply_of x c ∷ replies_of xs (after_one x c)

-- the chips after them
abbrev pub after : List Call → ChipState → ChipState
after [] c = c
after (x ∷ xs) c = after xs (after_one x c)
