-- A program has one counted stack, whatever code it was lowered to.
use Rattle.std.proofs.Common.{◌≡◌, ℕ, ◌≤◌, List, option_map, Option, Some, None, slice_get, sym, ap, ◌∙◌, subst, arith}
use Rattle.std.proofs.Math.Path.{fun_ext}
use Rattle.std.proofs.lemmas.Option.{slice_get-map, same_Some}
use Rattle.std.proofs.Math.Bool.{or_comm}
use Rattle.plm_decl.specs.declared.names.Names.{Names}
use Rattle.icode.specs.declared.instruction.Instruction.{Instruction}
use Rattle.icode.specs.declared.code.Procedure as declared
use Rattle.icode.specs.declared.code.Routine.{Routine}
use Rattle.icode.specs.declared.code.Routine.TheVariants.{Main, Procedure, Unserved, Nowhere}
use Rattle.icode.specs.declared.code.Code.{Code}
use Rattle.icode.specs.declared.registers.Registers.{Registers}
use Rattle.icode.specs.Code.{code_of}
use Rattle.icode.specs.Counted.{IsDepth, IsChanged, HasVector, IsHandler, IsRoom, IsCounted}
use Rattle.icode.specs.Registers.{joined}
use Rattle.lower.specs.Lowering.{IsLowered}

-- ---- of one code

depth_le : (code : Routine → List Instruction) (r : Routine) (m n : ℕ) → IsDepth code r m → IsDepth code r n → m ≤ n
depth_le code r m n d e =
    let p = d.reached in
    omega (arith, p.4, e.bounds p.0 p.1 p.2 p.3)

one_depth : (code : Routine → List Instruction) (r : Routine) (m n : ℕ) → IsDepth code r m → IsDepth code r n → m ≡ n
one_depth code r m n d e = omega (arith, depth_le code r m n d e, depth_le code r n m e d)

same : (x y : Registers) → x.accumulator ≡ y.accumulator → x.right ≡ y.right → x.high ≡ y.high → x.address ≡ y.address → x.frame ≡ y.frame → x ≡ y
same x y a b c d e =
    ap (λ v. record x { accumulator = v }) a
    ∙ ap (λ v. record x { accumulator = y.accumulator; right = v }) b
    ∙ ap (λ v. record x { accumulator = y.accumulator; right = y.right; high = v }) c
    ∙ ap (λ v. record y { address = v; frame = x.frame }) d
    ∙ ap (λ v. record y { frame = v }) e

joined_other : (x y : Registers) → joined x y ≡ joined y x
joined_other x y = same (joined x y) (joined y x) (or_comm x.accumulator y.accumulator) (or_comm x.right y.right) (or_comm x.high y.high) (or_comm x.address y.address) (or_comm x.frame y.frame)

pub one_changed : (code : Routine → List Instruction) (r : Routine) (g h : Registers) → IsChanged code r g → IsChanged code r h → g ≡ h
one_changed code r g h d e = sym (e.least g d.all) ∙ joined_other g h ∙ d.least h e.all

-- ---- of two

vector_too : (o p : Option declared.Procedure) → option_map (λ (x : declared.Procedure). x.vector) o ≡ option_map (λ (x : declared.Procedure). x.vector) p → HasVector o → HasVector p
vector_too None p e h = absurd h
vector_too (Some x) None e h = absurd cc
vector_too (Some x) (Some y) e h = (h.0, sym (same_Some x.vector y.vector e) ∙ h.1)

module _ (names : Names) (c d : Code) (of_c : IsLowered names c) (of_d : IsLowered names d) where
  pub same_code : code_of c ≡ code_of d
  same_code = fun_ext (λ r. of_c.code_is r ∙ sym (of_d.code_is r))

  pub vector_at : (q : ℕ) → option_map (λ (x : declared.Procedure). x.vector) (slice_get c.procedures.items q) ≡ option_map (λ (x : declared.Procedure). x.vector) (slice_get d.procedures.items q)
  vector_at q =
      sym (slice_get-map (λ (x : declared.Procedure). x.vector) c.procedures.items q)
      ∙ ap (λ vs. slice_get vs q) (of_c.vectors_are ∙ sym of_d.vectors_are)
      ∙ slice_get-map (λ (x : declared.Procedure). x.vector) d.procedures.items q

  pub handler_too : (r : Routine) → IsHandler c r → IsHandler d r
  handler_too Main h = absurd h
  handler_too (Procedure q) h = vector_too (slice_get c.procedures.items q) (slice_get d.procedures.items q) (vector_at q) h
  handler_too Unserved h = tt
  handler_too Nowhere h = absurd h

  room_too : (r : Routine) (n : ℕ) → IsRoom c r n → IsRoom d r n
  room_too r n x = record {
    saved = x.saved;
    words = x.words;
    is_changed = subst (λ code. IsChanged code r x.saved) same_code x.is_changed;
    is_depth = subst (λ code. IsDepth code r x.words) same_code x.is_depth;
    is = x.is;
  }

  largest_le : (m h n k : ℕ) (x : IsCounted c m h) (y : IsCounted d n k) → x.largest ≤ y.largest
  largest_le m h n k x y =
      let most = x.reached in
      y.bounds most.0 x.largest (handler_too most.0 most.1) (room_too most.0 x.largest most.2)

  deepest_is : (m h n k : ℕ) (x : IsCounted c m h) (y : IsCounted d n k) → x.deepest ≡ y.deepest
  deepest_is m h n k x y = one_depth (code_of d) Main x.deepest y.deepest (subst (λ code. IsDepth code Main x.deepest) same_code x.of_main) y.of_main

-- both have the same count
pub one_stack : (names : Names) (c d : Code) → IsLowered names c → IsLowered names d → (m h n k : ℕ) → IsCounted c m h → IsCounted d n k → (m ≡ n) × (h ≡ k)
one_stack names c d of_c of_d m h n k x y =
    let deepest = deepest_is names c d of_c of_d m h n k x y in
    let there = largest_le names c d of_c of_d m h n k x y in
    let back = largest_le names d c of_d of_c n k m h y x in
    (omega (arith, x.main_is, y.main_is, deepest), omega (arith, x.handler_is, y.handler_is, there, back))
