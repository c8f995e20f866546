-- A list of calls, one after another: what each answers, and what they leave. A call that may not be made changes nothing.
use Rattle.std.specs.Prelude.{List, [], ◌∷◌, if◌then◌else◌}
use Rattle.pic8259.specs.declared.calls.Call.{Call}
use Rattle.pic8259.specs.declared.calls.Call.TheVariants.{Write, Read, Pulse, Line, Acknowledge}
use Rattle.pic8259.specs.declared.calls.Reply.{Reply}
use Rattle.pic8259.specs.declared.calls.Reply.TheVariants.{Nothing, Byte, Signal}
use Rattle.pic8259.specs.Controller.{Controller, written, answer, pulsed, int_line, vector, acknowledged}

-- the controller after one call
abbrev pub after_one : Call → Controller → Controller
after_one (Write a0 v) s = written a0 v s
after_one (Read a0) s = s
after_one (Pulse k) s = pulsed k s
after_one Line s = s
after_one Acknowledge s = if int_line s then acknowledged s else s

-- what one call answers
abbrev pub reply_of : Call → Controller → Reply
reply_of (Write a0 v) s = Nothing
reply_of (Read a0) s = Byte (answer a0 s)
reply_of (Pulse k) s = Nothing
reply_of Line s = Signal (int_line s)
reply_of Acknowledge s = if int_line s then Byte (vector s) else Nothing

-- what a list of calls answers, call by call
abbrev pub replies_of : List Call → Controller → List Reply
replies_of [] s = []
replies_of (x ∷ xs) s = reply_of x s ∷ replies_of xs (after_one x s)

-- the controller after them
abbrev pub after : List Call → Controller → Controller
after [] s = s
after (x ∷ xs) s = after xs (after_one x s)
