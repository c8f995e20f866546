-- The schedule that a text spells, or its first fault.
use Rattle.std.specs.Prelude.{◌≡◌, ◌+◌, ◌*◌, ◌-◌, ◌^◌, ℕ, Bool, true, not, ◌&&◌, ◌||◌, ◌==◌, List, [], ◌∷◌, ◌++◌, map, length, take, drop, Option, Some, None, is_some, option_map, option_and_then, if◌then◌else◌, nat_lt, nat_le, codes, min, max, fold, unwrap_or}
use Rattle.std.specs.Str.{bytes_eq}
use Rattle.bstr.specs.Text.{lines_of, without_terminator}
use Rattle.std.specs.Prelude.{slice_index}
use Rattle.std.specs.List.{prefix_len}
use Rattle.word86.specs.declared.event.Event.{Event}
use Rattle.word86.specs.declared.event.Event.TheVariants.{Tick, Key}
use Rattle.board.specs.Timetable.{last_turn}
use Rattle.board.specs.declared.reading.Item.{Item}
use Rattle.board.specs.declared.reading.Item.TheVariants.{Fill, At, Stop}
use Rattle.word86.specs.declared.fault.Fault.{Fault}
use Rattle.word86.specs.declared.fault.Fault.TheVariants.{At as Fault-At}
use Rattle.board.specs.declared.schedule.Schedule.{Schedule}
use Rattle.word86.specs.declared.number.Number.{Number}
use Rattle.word86.specs.declared.number.Number.TheVariants.{E701, E702, E703}

abbrev pub Text : Type 0
Text = List ℕ

-- ---- the words of a line

-- what follows a word
abbrev pub after_word : Text → Text → Option Text
after_word word line = if bytes_eq (take (length word) line) word then Some (drop (length word) line) else None

abbrev pub is_digit : ℕ → Bool
is_digit d = nat_le 48 d && nat_le d 57

-- a decimal number, each of whose beginnings is below 2 ^ 32
abbrev pub with_digit : Option ℕ → ℕ → Option ℕ
with_digit None d = None
with_digit (Some n) d = if is_digit d && nat_lt (n * 10 + (d - 48)) (2 ^ 32) then Some (n * 10 + (d - 48)) else None

abbrev pub number_of : Text → Option ℕ
number_of ds = if length ds == 0 then None else fold with_digit (Some 0) ds

-- a hexadecimal digit, in either case
abbrev pub hex_value : ℕ → Option ℕ
hex_value d = if nat_le 48 d && nat_le d 57 then Some (d - 48)
    else (if nat_le 65 d && nat_le d 70 then Some (d - 55)
    else (if nat_le 97 d && nat_le d 102 then Some (d - 87) else None))

abbrev pub hex_of : Text → Option ℕ
hex_of t = if length t == 2 then option_and_then (λ h. option_map (λ l. h * 16 + l) (hex_value (slice_index t 1))) (hex_value (slice_index t 0)) else None

-- the length of the first word
abbrev pub word_len : Text → ℕ
word_len = prefix_len (λ b. not (b == 32))

abbrev pub tick_of : Option ℕ → Option Event
tick_of None = None
tick_of (Some k) = if nat_le 1 k && nat_le k 65535 then Some (Tick k) else None

abbrev pub event_of_rest : Option Text → Option Text → Option Event
event_of_rest (Some k) key = tick_of (number_of k)
event_of_rest None (Some h) = option_map Key (hex_of h)
event_of_rest None None = None

abbrev pub event_of : Text → Option Event
event_of t = event_of_rest (after_word (codes " TICK ") t) (after_word (codes " KEY ") t)

abbrev pub at_of : Option ℕ → Option Event → Option Item
at_of (Some n) (Some e) = Some (At n e)
at_of (Some n) None = None
at_of None e = None

abbrev pub item_from : Option Text → Option Text → Option Text → Option Item
item_from (Some h) stop at = option_map Fill (hex_of h)
item_from None (Some n) at = option_map Stop (number_of n)
item_from None None (Some r) = at_of (number_of (take (word_len r) r)) (event_of (drop (word_len r) r))
item_from None None None = None

-- what a line says
abbrev pub item_of : Text → Option Item
item_of t = item_from (after_word (codes "FILL ") t) (after_word (codes "STOP ") t) (after_word (codes "AT ") t)

abbrev pub is_blank : ℕ → Bool
is_blank b = b == 32 || b == 9

abbrev pub is_blank_line : Text → Bool
is_blank_line [] = true
is_blank_line (b ∷ bs) = is_blank b && is_blank_line bs

-- blanks alone, or a comment: a semicolon in the first column
abbrev pub is_skipped : Text → Bool
is_skipped t = is_blank_line t || slice_index t 0 == 59

-- ---- the lines in order

pub record View : Type 0 where
  pub fill : Option ℕ
  pub turns : List ℕ
  pub events : List Event
  pub stop : Option ℕ
  pub line : ℕ
  pub fault : Option (ℕ × Number)

abbrev pub start : View
start = record { fill = None; turns = []; events = []; stop = None; line = 0; fault = None }

abbrev pub failed : Number → View → View
failed n v = record v { fault = Some (v.line, n) }

abbrev pub with_item : Option Item → View → View
with_item None v = failed E701 v
with_item (Some (Fill b)) v = if is_some v.fill || is_some v.stop || not (length v.turns == 0) then failed E702 v
    else record v { fill = Some b }
with_item (Some (At n e)) v = if is_some v.stop || (not (length v.turns == 0) && nat_lt n (last_turn v.turns)) then failed E702 v
    else record v { turns = v.turns ++ n ∷ []; events = v.events ++ e ∷ [] }
with_item (Some (Stop n)) v = if is_some v.stop || (not (length v.turns == 0) && nat_le n (last_turn v.turns)) then failed E702 v
    else record v { stop = Some n }

abbrev pub with_line : View → Text → View
with_line v line = if is_some v.fault then v else (if is_skipped line then record v { line = min (v.line + 1) (2 ^ 32 - 1) }
    else with_item (item_of line) (record v { line = min (v.line + 1) (2 ^ 32 - 1) }))

-- what the lines of a text come to
abbrev pub read_lines : Text → View
read_lines text = fold with_line start (map without_terminator (lines_of text))

-- the first fault
abbrev pub fault_from : ℕ → Option (ℕ × Number) → Option ℕ → Option Fault
fault_from line (Some f) stop = Some (Fault-At 0 f.0 f.1)
fault_from line None None = Some (Fault-At 0 (max line 1) E703)
fault_from line None (Some n) = None

abbrev pub fault_of : View → Option Fault
fault_of v = fault_from v.line v.fault v.stop

-- the schedule is the one that was read
abbrev pub IsRead : View → Schedule → Type 0
IsRead v s = (fault_of v ≡ None) × (s.fill ≡ unwrap_or v.fill 0) × (v.stop ≡ Some s.stop) × (s.timetable.turns.items ≡ v.turns) × (s.timetable.events.items ≡ v.events)
