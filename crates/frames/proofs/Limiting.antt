-- What a limited program counts.
use Rattle.std.proofs.Common.{ℕ, ◌+◌, ◌*◌, ◌≤◌, Bool, true, false, List, [], ◌∷◌, length, arith}
use Rattle.std.proofs.lemmas.Nat.{mul-le}
use Rattle.icode.specs.declared.instruction.Instruction.{Instruction}
use Rattle.icode.specs.declared.code.Position.{Position}
use Rattle.icode.specs.declared.code.Routine.{Routine}
use Rattle.icode.specs.declared.code.Routine.TheVariants.{Main}
use Rattle.icode.specs.declared.registers.Registers.{Registers}
use Rattle.icode.specs.Code.{code_of}
use Rattle.icode.specs.Counted.{IsPath, words_along, IsDepth, one_if, number_of}
use Rattle.icode.specs.Heights.{height}
use Rattle.frames.specs.Limits.{words_of, StackIsBounded, SmallProgramsFit}

one_few : (b : Bool) → one_if b ≤ 1
one_few true = omega arith
one_few false = omega arith

few_registers : (g : Registers) → number_of g ≤ 5
few_registers g = omega (arith, one_few g.accumulator, one_few g.right, one_few g.high, one_few g.address, one_few g.frame)

module _ (code : Routine → List Instruction) (words : ℕ) (low : (r : Routine) (k : ℕ) → height (code r) k ≤ words) where
  along : (ps : List Position) → words_along code ps ≤ length ps * (words + 1)
  along [] = omega arith
  along (p ∷ ps) = omega (arith, low p.routine p.index, along ps)

  deep : (begin : Routine) (most calls : ℕ) → IsDepth code begin most → ((ps : List Position) (r : Routine) → IsPath code begin ps r → length ps ≤ calls) → most ≤ words_of words calls
  deep begin most calls d few =
      let w = d.reached in
      let few_calls = mul-le (length w.0) (words + 1) calls (words + 1) (few w.0 w.1 w.3) (omega arith) in
      omega (arith, w.4, low w.1 w.2, along w.0, few_calls)

pub bounded : StackIsBounded
bounded c words main_calls interrupt_calls main handler is counted =
    let room = counted.reached.2 in
    let of_main = deep (code_of c) words is.low Main counted.deepest main_calls counted.of_main is.from_main in
    let of_room = deep (code_of c) words is.low counted.reached.0 room.words interrupt_calls room.is_depth (is.from_interrupt counted.reached.0 counted.reached.1) in (
      omega (arith, counted.main_is, of_main),
      omega (arith, counted.handler_is, room.is, few_registers room.saved, of_room),
    )

pub small_fit : SmallProgramsFit
small_fit c main_calls interrupt_calls is few past =
    let both = bounded c 193 main_calls interrupt_calls past.main past.handler is past.is_counted in
    omega (arith, both.0, both.1, past.is_past, few)
