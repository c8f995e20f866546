-- What each form costs: its length, counted.
use Rattle.std.proofs.Common.{◌≡◌, ◌≢◌, ℕ, ◌<◌, ◌≤◌, ◌+◌, ◌*◌, ◌%◌, ◌^◌, ◌==◌, ◌&&◌, ◌||◌, not, Bool, true, false, cond, [], ◌∷◌, refl, ap, ◌∙◌, arith, inl, inr}
use Rattle.std.specs.Prelude.{length}
use Rattle.word86.specs.declared.width.Width.{Width}
use Rattle.i86_table.specs.declared.registers.Register16.{Register16}
use Rattle.i86_table.specs.declared.registers.Segment.{Segment}
use Rattle.i86_table.specs.declared.registers.Segment.TheVariants as segments
use Rattle.i86_table.specs.declared.instruction.Base.{Base}
use Rattle.i86_table.specs.declared.instruction.Base.TheVariants as bases
use Rattle.i86_table.specs.declared.instruction.Address.{Address}
use Rattle.i86_table.specs.declared.instruction.Address.TheVariants as addresses
use Rattle.i86_table.specs.declared.instruction.Memory.{Memory}
use Rattle.i86_table.specs.declared.instruction.RmOperand.{RmOperand}
use Rattle.i86_table.specs.declared.instruction.RmOperand.TheVariants as rm
use Rattle.i86_table.specs.Numbers.{word_register_code}
use Rattle.i86_table.specs.Arithmetic.{sign_extended, number_of}
use Rattle.i86_code.specs.declared.form.Opcode.{Opcode}
use Rattle.i86_code.specs.declared.form.Opcode.TheVariants as op
use Rattle.i86_code.specs.declared.form.Fields.{Fields}
use Rattle.i86_code.specs.declared.form.Fields.TheVariants as fields
use Rattle.i86_code.specs.declared.form.Prefixes.{Prefixes}
use Rattle.i86_code.specs.declared.form.Prefixes.TheVariants as prefixes
use Rattle.i86_code.specs.declared.form.RegisterOrMemory.{RegisterOrMemory}
use Rattle.i86_code.specs.declared.form.RegisterOrMemory.TheVariants.{Register, Indirect, Direct, Near, Far}
use Rattle.i86_code.specs.Forms.{form_bytes, field_bytes, prefix_bytes, place_bytes, word_bytes, IsPlace, base_code, opcode_byte}
use Rattle.i86_code.specs.Instructions.{segment_under, usual_segment, operand}
use Rattle.i86_code.specs.Writing.{prefix_for, prefix_at, prefix_of, is_near, is_bp, based_form, address_form, place_form, plain, addressed, with_memory, with_byte, with_word, in_group, from_register, accumulator_form, cost, is_turned, is_turned_address, is_turned_form, is_alu_short, is_repeat_first}
use Rattle.std.proofs.lemmas.List.{length-append}
use Rattle.i86_code.proofs.WrittenForms.{chosen}

-- ---- lengths

abbrev pub place_length : RegisterOrMemory → ℕ
place_length (Register code) = 1
place_length (Indirect base) = 1
place_length (Direct offset) = 3
place_length (Near base d) = 2
place_length (Far base d) = 3

abbrev pub field_length : Fields → ℕ
field_length fields.Nothing = 0
field_length (fields.Byte n) = 1
field_length (fields.Word n) = 2
field_length (fields.TwoWords m n) = 4
field_length (fields.Address r p) = place_length p
field_length (fields.AddressByte r p n) = place_length p + 1
field_length (fields.AddressWord r p n) = place_length p + 2
field_length (fields.Unary w r p) = place_length p
field_length (fields.TestByte p n) = place_length p + 1
field_length (fields.TestWord p n) = place_length p + 2

abbrev pub prefix_length : Prefixes → ℕ
prefix_length prefixes.Nothing = 0
prefix_length (prefixes.Override s) = 1
prefix_length prefixes.Repeat = 1
prefix_length (prefixes.OverrideRepeat s) = 2
prefix_length (prefixes.RepeatOverride s) = 2

place_counted : (r : ℕ) (p : RegisterOrMemory) → length (place_bytes r p) ≡ place_length p
place_counted r (Register code) = refl
place_counted r (Indirect base) = refl
place_counted r (Direct offset) = refl
place_counted r (Near base d) = refl
place_counted r (Far base d) = refl

field_counted : (f : Fields) → length (field_bytes f) ≡ field_length f
field_counted fields.Nothing = refl
field_counted (fields.Byte n) = refl
field_counted (fields.Word n) = refl
field_counted (fields.TwoWords m n) = refl
field_counted (fields.Address r p) = place_counted r p
field_counted (fields.AddressByte r p n) = omega (arith, place_counted r p, length-append (place_bytes r p) (n ∷ []))
field_counted (fields.AddressWord r p n) = omega (arith, place_counted r p, length-append (place_bytes r p) (word_bytes n))
field_counted (fields.Unary w r p) = place_counted r p
field_counted (fields.TestByte p n) = omega (arith, place_counted 0 p, length-append (place_bytes 0 p) (n ∷ []))
field_counted (fields.TestWord p n) = omega (arith, place_counted 0 p, length-append (place_bytes 0 p) (word_bytes n))

prefix_counted : (p : Prefixes) → length (prefix_bytes p) ≡ prefix_length p
prefix_counted prefixes.Nothing = refl
prefix_counted (prefixes.Override s) = refl
prefix_counted prefixes.Repeat = refl
prefix_counted (prefixes.OverrideRepeat s) = refl
prefix_counted (prefixes.RepeatOverride s) = refl

form_counted : (p : Prefixes) (k : Opcode) (f : Fields) → length (form_bytes (record { prefixes = p; opcode = k; fields = f })) ≡ prefix_length p + (1 + field_length f)
form_counted p k f = omega (arith, prefix_counted p, field_counted f, length-append (prefix_bytes p) (opcode_byte k ∷ field_bytes f))

-- the cost of a form that has no late prefix
pub cost_is : (p : Prefixes) (k : Opcode) (f : Fields) (t : Bool) → is_repeat_first p ≡ false → is_turned_form k f ≡ t → cost (record { prefixes = p; opcode = k; fields = f }) ≡ 2 * (prefix_length p + (1 + field_length f)) + number_of t
cost_is p k f t first turned =
    let second : (is_repeat_first p || is_turned_form k f) ≡ t = rw first turned in
    ap (λ (n : ℕ). 2 * n + number_of (is_repeat_first p || is_turned_form k f)) (form_counted p k f) ∙ ap (λ (b : Bool). 2 * (prefix_length p + (1 + field_length f)) + number_of b) second

number_or : (a b : Bool) → number_of b ≤ number_of (a || b)
number_or true true = omega arith
number_or true false = omega arith
number_or false b = omega arith

-- the least that a form costs
pub cost_least : (p : Prefixes) (k : Opcode) (f : Fields) → 2 * (prefix_length p + (1 + field_length f)) + number_of (is_turned_form k f) ≤ cost (record { prefixes = p; opcode = k; fields = f })
cost_least p k f = omega (arith, form_counted p k f, number_or (is_repeat_first p) (is_turned_form k f))

-- ---- prefixes and r/m operands

one_prefix : (usual s : Segment) → prefix_length (prefix_for usual s) ≤ 1
one_prefix segments.Es segments.Es = omega arith
one_prefix segments.Es segments.Cs = omega arith
one_prefix segments.Es segments.Ss = omega arith
one_prefix segments.Es segments.Ds = omega arith
one_prefix segments.Cs segments.Es = omega arith
one_prefix segments.Cs segments.Cs = omega arith
one_prefix segments.Cs segments.Ss = omega arith
one_prefix segments.Cs segments.Ds = omega arith
one_prefix segments.Ss segments.Es = omega arith
one_prefix segments.Ss segments.Cs = omega arith
one_prefix segments.Ss segments.Ss = omega arith
one_prefix segments.Ss segments.Ds = omega arith
one_prefix segments.Ds segments.Es = omega arith
one_prefix segments.Ds segments.Cs = omega arith
one_prefix segments.Ds segments.Ss = omega arith
one_prefix segments.Ds segments.Ds = omega arith

pub not_first : (usual s : Segment) → is_repeat_first (prefix_for usual s) ≡ false
not_first segments.Es segments.Es = refl
not_first segments.Es segments.Cs = refl
not_first segments.Es segments.Ss = refl
not_first segments.Es segments.Ds = refl
not_first segments.Cs segments.Es = refl
not_first segments.Cs segments.Cs = refl
not_first segments.Cs segments.Ss = refl
not_first segments.Cs segments.Ds = refl
not_first segments.Ss segments.Es = refl
not_first segments.Ss segments.Cs = refl
not_first segments.Ss segments.Ss = refl
not_first segments.Ss segments.Ds = refl
not_first segments.Ds segments.Es = refl
not_first segments.Ds segments.Cs = refl
not_first segments.Ds segments.Ss = refl
not_first segments.Ds segments.Ds = refl

-- no segment prefix where it says nothing, and at most the one that was there
under_light : (usual : Segment) → prefix_length (prefix_for usual usual) ≡ 0 → (p : Prefixes) → prefix_length (prefix_for usual (segment_under p usual)) ≤ prefix_length p
under_light usual none prefixes.Nothing = omega (arith, none)
under_light usual none (prefixes.Override t) = one_prefix usual t
under_light usual none prefixes.Repeat = omega (arith, none)
under_light usual none (prefixes.OverrideRepeat t) = omega (arith, one_prefix usual t)
under_light usual none (prefixes.RepeatOverride t) = omega (arith, one_prefix usual t)

pub direct_light : (p : Prefixes) → prefix_length (prefix_for segments.Ds (segment_under p segments.Ds)) ≤ prefix_length p
direct_light p = under_light segments.Ds refl p

usual_none : (b : Base) → prefix_length (prefix_for (usual_segment b) (usual_segment b)) ≡ 0
usual_none bases.BxSi = refl
usual_none bases.BxDi = refl
usual_none bases.BpSi = refl
usual_none bases.BpDi = refl
usual_none bases.Si = refl
usual_none bases.Di = refl
usual_none bases.Bp = refl
usual_none bases.Bx = refl

-- how long the prefix, the address byte and the displacement of a place are
abbrev pub weight : {R : Type 0} → RmOperand R → ℕ
weight (rm.Register r) = 1
weight (rm.Memory m) = prefix_length (prefix_at m.segment m.address) + place_length (address_form m.address)

based_short : (b : Base) (d n : ℕ) → 1 ≤ n → (is_near d ≡ false → 3 ≤ n) → ((d == 0 && not (is_bp b)) ≡ false → 2 ≤ n) → place_length (based_form b d) ≤ n
unfolding based_form
based_short b d n one far near =
    elim (chosen (d == 0 && not (is_bp b)) (Indirect b) (cond (is_near d) (Near b (d % 256)) (Far b d))) [
      | inl bare ↦ rw bare.1 one
      | inr more ↦ elim (chosen (is_near d) (Near b (d % 256)) (Far b d)) [
        | inl short ↦ rw (more.1, short.1) (near more.0)
        | inr long ↦ rw (more.1, long.1) (far long.0)
      ]
    ]

pub near_byte : (d : ℕ) → d < 2 ^ 8 → is_near (sign_extended d) ≡ true
near_byte d fits = grind (arith, fits)

not_bp : (b : Base) → base_code b ≢ 6 → not (is_bp b) ≡ true
not_bp bases.BxSi h = refl
not_bp bases.BxDi h = refl
not_bp bases.BpSi h = refl
not_bp bases.BpDi h = refl
not_bp bases.Si h = refl
not_bp bases.Di h = refl
not_bp bases.Bp h = absurd (h refl)
not_bp bases.Bx h = refl

false_true : (b : Bool) → b ≡ true → b ≡ false → {A : Type 0} → A
false_true true e f = absurd cc
false_true false e f = absurd cc

-- the place that an address byte says is written no longer than it stands there
pub place_light : {R : Type 0} (at : ℕ → R) (p : Prefixes) (m : RegisterOrMemory) → IsPlace m → weight (operand at p m) ≤ prefix_length p + place_length m
place_light at p (Register code) fits = omega arith
place_light at p (Direct offset) fits = omega (arith, direct_light p)
place_light at p (Indirect b) fits =
    omega (arith, under_light (usual_segment b) (usual_none b) p, based_short b 0 1 (omega arith) (λ e. false_true (is_near 0) refl e) (λ e. false_true (not (is_bp b)) (not_bp b fits) e))
place_light at p (Near b d) fits =
    omega (arith, under_light (usual_segment b) (usual_none b) p, based_short b (sign_extended d) 2 (omega arith) (λ e. false_true (is_near (sign_extended d)) (near_byte d fits) e) (λ e. omega arith))
place_light at p (Far b d) fits =
    omega (arith, under_light (usual_segment b) (usual_none b) p, based_short b d 3 (omega arith) (λ e. omega arith) (λ e. omega arith))

-- ---- forms of r/m operands

address_turned : (k : Opcode) (r : ℕ) (a : Address) → is_turned_address k r (address_form a) ≡ false
unfolding based_form
address_turned k r (addresses.Direct offset) = refl
address_turned k r (addresses.Based b d) = based_turned
  where
    based_turned : is_turned_address k r (based_form b d) ≡ false
    based_turned =
        elim (chosen (d == 0 && not (is_bp b)) (Indirect b) (cond (is_near d) (Near b (d % 256)) (Far b d))) [
          | inl bare ↦ rw bare.1 refl
          | inr more ↦ elim (chosen (is_near d) (Near b (d % 256)) (Far b d)) [
            | inl short ↦ rw (more.1, short.1) refl
            | inr long ↦ rw (more.1, long.1) refl
          ]
        ]

at_not_first : (s : Segment) (a : Address) → is_repeat_first (prefix_at s a) ≡ false
at_not_first s (addresses.Direct offset) = not_first segments.Ds s
at_not_first s (addresses.Based b d) = not_first (usual_segment b) s

pub of_not_first : {R : Type 0} (p : RmOperand R) → is_repeat_first (prefix_of p) ≡ false
of_not_first (rm.Register r) = refl
of_not_first (rm.Memory m) = at_not_first m.segment m.address

pub weight_is : {R : Type 0} (code : R → ℕ) (p : RmOperand R) → prefix_length (prefix_of p) + place_length (place_form code p) ≡ weight p
weight_is code (rm.Register r) = refl
weight_is code (rm.Memory m) = refl

-- a form with a place in memory
pub memory_cost : (k : Opcode) (r : ℕ) (m : Memory) → cost (with_memory k r m) ≡ 2 * (1 + (prefix_length (prefix_at m.segment m.address) + place_length (address_form m.address)))
memory_cost k r m = omega (arith, cost_is (prefix_at m.segment m.address) k (fields.Address r (address_form m.address)) false (at_not_first m.segment m.address) (address_turned k r m.address))

-- an opcode for which no order of registers comes second
abbrev pub NeverTurned : Opcode → Type 0
NeverTurned k = (r code : ℕ) → is_turned k r code ≡ false

pub never_address : (k : Opcode) → NeverTurned k → (r : ℕ) (m : RegisterOrMemory) → is_turned_address k r m ≡ false
never_address k never r (Register code) = never r code
never_address k never r (Indirect base) = refl
never_address k never r (Direct offset) = refl
never_address k never r (Near base d) = refl
never_address k never r (Far base d) = refl

pub addressed_cost : {R : Type 0} (code : R → ℕ) (k : Opcode) (r : ℕ) (p : RmOperand R) → NeverTurned k → cost (addressed code k r p) ≡ 2 * (1 + weight p)
addressed_cost code k r p never = omega (arith, weight_is code p, cost_is (prefix_of p) k (fields.Address r (place_form code p)) false (of_not_first p) (never_address k never r (place_form code p)))

pub byte_cost : {R : Type 0} (code : R → ℕ) (k : Opcode) (r : ℕ) (p : RmOperand R) (n : ℕ) → cost (with_byte code k r p n) ≡ 2 * (2 + weight p) + number_of (is_alu_short k)
byte_cost code k r p n = omega (arith, weight_is code p, cost_is (prefix_of p) k (fields.AddressByte r (place_form code p) n) (is_alu_short k) (of_not_first p) refl)

pub word_cost : (k : Opcode) (r : ℕ) (p : RmOperand Register16) (n : ℕ) → cost (with_word k r p n) ≡ 2 * (3 + weight p)
word_cost k r p n = omega (arith, weight_is word_register_code p, cost_is (prefix_of p) k (fields.AddressWord r (place_form word_register_code p) n) false (of_not_first p) refl)

pub group_cost : {R : Type 0} (code : R → ℕ) (w : Width) (r : ℕ) (p : RmOperand R) → cost (in_group code w r p) ≡ 2 * (1 + weight p)
group_cost code w r p = omega (arith, weight_is code p, cost_is (prefix_of p) (op.UnaryGroup w) (fields.Unary w r (place_form code p)) false (of_not_first p) refl)

pub plain_cost : (k : Opcode) (f : Fields) → is_turned_form k f ≡ false → cost (plain k f) ≡ 2 * (1 + field_length f)
plain_cost k f turned = omega (arith, cost_is prefixes.Nothing k f false refl turned)

pub from_register_cost : {R : Type 0} (code : R → ℕ) (a b : Opcode) (p : RmOperand R) (r : R) → NeverTurned b → cost (from_register code a b p r) ≡ 2 * (1 + weight p)
from_register_cost code a b (rm.Register x) r never = plain_cost b (fields.Address (code x) (Register (code r))) (never (code x) (code r))
from_register_cost code a b (rm.Memory m) r never = memory_cost a (code r) m

pub accumulator_cost : (b : Bool) (short long : Opcode) (r : ℕ) (m : Memory) → cost (accumulator_form b short (with_memory long r m) m.segment m.address) ≤ 2 * (1 + (prefix_length (prefix_at m.segment m.address) + place_length (address_form m.address)))
accumulator_cost false short long r m = omega (arith, memory_cost long r m)
accumulator_cost true short long r m = at m.segment m.address (omega (arith, memory_cost long r m))
  where
    at : (s : Segment) (a : Address) → cost (with_memory long r (record { segment = s; address = a })) ≤ 2 * (1 + (prefix_length (prefix_at s a) + place_length (address_form a))) → cost (accumulator_form true short (with_memory long r (record { segment = s; address = a })) s a) ≤ 2 * (1 + (prefix_length (prefix_at s a) + place_length (address_form a)))
    at s (addresses.Direct offset) other = omega (arith, cost_is (prefix_for segments.Ds s) short (fields.Word offset) false (not_first segments.Ds s) refl)
    at s (addresses.Based base d) other = other
