-- The keyboard: a register that the processor reads, and a queue of codes that wait for it.
use Rattle.std.specs.Prelude.{ℕ, Bool, true, false, not, ◌&&◌, nat_lt, if◌then◌else◌, Option, Some, None, unwrap_or, List, [], ◌∷◌, ◌++◌, length}

pub record Keyboard : Type 0 where
  pub register : Option ℕ
  pub queue : List ℕ

abbrev pub reset : Keyboard
reset = record { register = None; queue = [] }

-- a code joins a queue of at most 16; one beyond is lost
abbrev pub pressed : ℕ → Keyboard → Keyboard
pressed code k = record k { queue = if nat_lt (length k.queue) 16 then k.queue ++ (code ∷ []) else k.queue }

-- an empty register takes the queue's front
abbrev pub fed : Option ℕ → List ℕ → Keyboard
fed None (code ∷ codes) = record { register = Some code; queue = codes }
fed None [] = record { register = None; queue = [] }
fed (Some held) codes = record { register = Some held; queue = codes }

abbrev pub is_fed : Option ℕ → List ℕ → Bool
is_fed None (code ∷ codes) = true
is_fed None [] = false
is_fed (Some held) codes = false

-- the clear line empties the register and keeps it empty; while it is low the queue moves on
abbrev pub served : Bool → Keyboard → Keyboard
served clear k = if clear then record k { register = None } else fed k.register k.queue

-- whether a code moves into the register then
abbrev pub is_served : Bool → Keyboard → Bool
is_served clear k = not clear && is_fed k.register k.queue

-- the register's byte, 0 while it is empty
abbrev pub register_byte : Keyboard → ℕ
register_byte k = unwrap_or k.register 0
