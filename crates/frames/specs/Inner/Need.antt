-- What a routine needs with all that it calls, along its instructions, from what its callees need.
use Rattle.std.specs.Prelude.{◌≡◌, ℕ, suc, ◌+◌, ◌<◌, max, List, [], ◌∷◌, length, Option, Some, None, slice_get}
use Rattle.icode.specs.declared.instruction.Instruction.{Instruction}
use Rattle.icode.specs.declared.code.Routine.TheVariants.{Procedure}
use Rattle.icode.specs.declared.code.Procedure as declared
use Rattle.icode.specs.declared.code.Code.{Code}
use Rattle.icode.specs.Code.{code_of}
use Rattle.icode.specs.Counted.{number_of}
use Rattle.icode.specs.Heights.{after, called, place_in}
use Rattle.icode.specs.Registers.{none, joined, changes}
use Rattle.frames.specs.declared.need.Need.{Need}

abbrev pub nothing : Need
nothing = record { words = 0; registers = none }

-- the larger number of words, and the registers of both
abbrev pub both : Need → Need → Need
both x y = record { words = max x.words y.words; registers = joined x.registers y.registers }

-- at this height of the routine an instruction is met: at a call the words go on with where it returns, and what the callee needs
abbrev pub met_by : (ℕ → Need) → Option ℕ → Instruction → ℕ → Need
met_by t (Some q) x h = record { words = h + 1 + (t q).words; registers = (t q).registers }
met_by t None x h = record { words = h; registers = changes x }

abbrev pub met : (ℕ → Need) → Instruction → ℕ → Need
met t x h = met_by t (called x) x h

abbrev pub need : (ℕ → Need) → ℕ → List Instruction → Need
need t h [] = record { words = h; registers = none }
need t h (x ∷ xs) = both (met t x h) (need t (after x h) xs)

abbrev pub need_or : Option Need → Need
need_or (Some n) = n
need_or None = nothing

abbrev pub need_at : List Need → ℕ → Need
need_at t q = need_or (slice_get t q)

-- it is known what these procedures need: those before a place in the order
abbrev pub AreKnown : Code → List Need → ℕ → Type 0
AreKnown c t i = (p : ℕ) → p < length c.procedures.items → place_in c.order.items p < i → need_at t p ≡ need (need_at t) 0 (code_of c (Procedure p))

abbrev pub room_of : Option ℕ → Need → ℕ
room_of (Some v) n = 3 + number_of n.registers + n.words
room_of None n = 3

-- the most words of an interrupt that one of these procedures serves; they are counted from k
abbrev pub largest_room : (ℕ → Need) → (k : ℕ) → List declared.Procedure → ℕ
largest_room t k [] = 0
largest_room t k (p ∷ ps) = max (room_of p.vector (t k)) (largest_room t (suc k) ps)
