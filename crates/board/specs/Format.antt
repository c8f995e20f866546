-- The format of schedules in its own terms: how a line spells an item, which items may not follow one another, and where a text is
-- faulty.
use Rattle.std.specs.Prelude.{ℕ, Bool, true, false, ◌≡◌, ◌+◌, ◌*◌, ◌-◌, ◌^◌, ◌<◌, ◌≤◌, ◌⊎◌, ◌++◌, List, [], ◌∷◌, length, min, max, nat_lt, nat_le, codes}
use Rattle.std.specs.List.{list_any}
use Rattle.word86.specs.declared.event.Event.{Event}
use Rattle.word86.specs.declared.event.Event.TheVariants.{Tick, Key}
use Rattle.word86.specs.declared.number.Number.{Number}
use Rattle.word86.specs.declared.number.Number.TheVariants.{E701, E702, E703}
use Rattle.board.specs.declared.reading.Item.{Item}
use Rattle.board.specs.declared.reading.Item.TheVariants.{Fill, At, Stop}
use Rattle.board.specs.Schedule.{Text, is_skipped}
use Rattle.board.specs.Spelling.{said}

-- ---- a line

abbrev pub AreDigits : Text → Type 0
AreDigits [] = Unit {0}
AreDigits (d ∷ ds) = (48 ≤ d) × (d ≤ 57) × AreDigits ds

-- the number that digits spell, after digits that spell this one
abbrev pub spelled_from : ℕ → Text → ℕ
spelled_from n [] = n
spelled_from n (d ∷ ds) = spelled_from (n * 10 + (d - 48)) ds

-- any number of decimal digits but none at all, for a number below 2 ^ 32
pub record IsNumber (ds : Text) (n : ℕ) : Type 0 where
  pub some : 0 < length ds
  pub digits : AreDigits ds
  pub value : spelled_from 0 ds ≡ n
  pub fits : n < 2 ^ 32

-- a hexadecimal digit, in either case, and two of them
abbrev pub IsHexDigit : (d v : ℕ) → Type 0
IsHexDigit d v = ((v < 10) × (d ≡ 48 + v)) ⊎ ((10 ≤ v) × (v < 16) × ((d ≡ 55 + v) ⊎ (d ≡ 87 + v)))

pub record IsHexByte (text : Text) (b : ℕ) : Type 0 where
  pub high : ℕ
  pub low : ℕ
  pub high_value : ℕ
  pub low_value : ℕ
  pub text_is : text ≡ high ∷ low ∷ []
  pub high_is : IsHexDigit high high_value
  pub low_is : IsHexDigit low low_value
  pub byte_is : b ≡ high_value * 16 + low_value

-- `TICK k`, with k from 1 to 65,535, and `KEY hh`, each after one space
abbrev pub IsEventOf : Event → Text → Type 0
IsEventOf (Tick k) t = (ds : Text) × IsNumber ds k × (1 ≤ k) × (k ≤ 65535) × (t ≡ codes " TICK " ++ ds)
IsEventOf (Key b) t = (hs : Text) × IsHexByte hs b × (t ≡ codes " KEY " ++ hs)

-- `FILL hh`, `AT n` and its event, and `STOP n`, and nothing before or after
abbrev pub IsLineOf : Item → Text → Type 0
IsLineOf (Fill b) t = (hs : Text) × IsHexByte hs b × (t ≡ codes "FILL " ++ hs)
IsLineOf (At n e) t = (ds : Text) × (rest : Text) × IsNumber ds n × IsEventOf e rest × (t ≡ codes "AT " ++ (ds ++ rest))
IsLineOf (Stop n) t = (ds : Text) × IsNumber ds n × (t ≡ codes "STOP " ++ ds)

-- ---- lines one after another

-- whether an item forbids another one somewhere after it: every item forbids FILL, which comes first; AT forbids an AT of an
-- earlier turn and a STOP that is not above its own; STOP forbids everything
abbrev pub forbids : (earlier later : Item) → Bool
forbids (Fill b) (Fill c) = true
forbids (Fill b) (At n e) = false
forbids (Fill b) (Stop n) = false
forbids (At m d) (Fill c) = true
forbids (At m d) (At n e) = nat_lt n m
forbids (At m d) (Stop n) = nat_le n m
forbids (Stop m) (Fill c) = true
forbids (Stop m) (At n e) = true
forbids (Stop m) (Stop n) = true

-- an item is out of order after these, if one of them forbids it
abbrev pub is_out_of_order : (earlier : List Item) → Item → Bool
is_out_of_order earlier x = list_any (λ y. forbids y x) earlier

-- none of these items is out of order after the earlier ones and those before it
abbrev pub AreInOrder : (earlier : List Item) → List Item → Type 0
AreInOrder earlier [] = Unit {0}
AreInOrder earlier (x ∷ xs) = (is_out_of_order earlier x ≡ false) × AreInOrder (earlier ++ x ∷ []) xs

-- the lines spell these items, one each
abbrev pub Spell : List Text → List Item → Type 0
Spell [] [] = Unit {0}
Spell [] (x ∷ xs) = ⊥
Spell (l ∷ ls) [] = ⊥
Spell (l ∷ ls) (x ∷ xs) = IsLineOf x l × Spell ls xs

-- the lines are without a fault, and say these items; blank lines and comments say nothing
pub record Say (lines : List Text) (items : List Item) : Type 0 where
  pub spelled : Spell (said lines) items
  pub in_order : AreInOrder [] items

abbrev pub is_stop : Item → Bool
is_stop (Fill b) = false
is_stop (At n e) = false
is_stop (Stop n) = true

-- lines are counted up to the greatest number
abbrev pub line_number : ℕ → ℕ
line_number n = min n (2 ^ 32 - 1)

-- The fault of a text: E701 at the first faulty line, where it spells no item; E702 there, where its item is out of order; E703 at
-- the last line (1 if there is none), where no line is faulty and none is STOP.
pub data HasFault (lines : List Text) : (line : ℕ) → Number → Type 0 where
  NoItem : (before : List Text) (l : Text) (rest : List Text) (items : List Item) → lines ≡ before ++ (l ∷ rest) → Say before items → is_skipped l ≡ false → ((x : Item) → IsLineOf x l → ⊥) → HasFault lines (line_number (length before + 1)) E701
  OutOfOrder : (before : List Text) (l : Text) (rest : List Text) (items : List Item) (x : Item) → lines ≡ before ++ (l ∷ rest) → Say before items → is_skipped l ≡ false → IsLineOf x l → is_out_of_order items x ≡ true → HasFault lines (line_number (length before + 1)) E702
  NoStop : (items : List Item) → Say lines items → list_any is_stop items ≡ false → HasFault lines (max (line_number (length lines)) 1) E703
