-- Trees of constructs whose parts have their trees: with types known and names as places.
use Rattle.std.specs.Prelude.{ℕ, ◌+◌, ◌*◌, nat_le, cond, List, [], ◌∷◌, Option, Some, None}
use Rattle.std.specs.Option.{option_map_or}
use Rattle.word86.specs.declared.width.Width.{Width}
use Rattle.word86.specs.declared.width.Width.TheVariants as width
use Rattle.word86.specs.declared.operation.UnaryOperation.{UnaryOperation}
use Rattle.word86.specs.declared.operation.UnaryOperation.TheVariants as unary
use Rattle.word86.specs.declared.operation.BinaryOperation.{BinaryOperation}
use Rattle.word86.specs.declared.operation.BinaryOperation.TheVariants as binary
use Rattle.plm_decl.specs.declared.builtin.Builtin.{Builtin}
use Rattle.plm_decl.specs.declared.builtin.Builtin.TheVariants as builtin
use Rattle.plm_decl.specs.declared.layout.ScalarType.TheVariants.{Word}
use Rattle.plm_decl.specs.declared.names.Variable.{Variable}
use Rattle.plm_decl.specs.Names.{ProcedureR}
use Rattle.plm_decl.specs.Resolved.{SelectorR}
use Rattle.plm_type.specs.Rest.{Expression, Constant, Unary, Binary, Input, Expressions, NoMore, More, Reference, Refer, Subscripts, NoSubscripts, Subscript, Target, ToPort, InObject}
use Rattle.plm_type.specs.Types.{width_of}
use Rattle.plm_type.specs.Shapes.{designated, member_offset, member_stride, anchor_for, read_of, store_to}
use Rattle.plm_type.specs.Typing.{port_type}

-- ---- numbers

-- numbers above 65,535 are refused
abbrev pub constant : ℕ → Expression
constant n = Constant (cond (nat_le n 65535) n 0)

-- the first character is the high byte
abbrev pub text_value : List ℕ → ℕ
text_value [] = 0
text_value (c ∷ []) = c
text_value (c ∷ d ∷ []) = c * 256 + d
text_value (c ∷ d ∷ e ∷ others) = 0

-- ---- built-ins, and subscripts, of evaluated parts

abbrev pub operated : UnaryOperation → Width → Expressions → Expression
operated o w NoMore = Constant 0
operated o w (More e NoMore) = Unary o w e
operated o w (More e (More f es)) = Constant 0

abbrev pub read_port : Width → Expressions → Expression
read_port w NoMore = Constant 0
read_port w (More e NoMore) = Input w e
read_port w (More e (More f es)) = Constant 0

abbrev pub to_port : Builtin → Expressions → Target
to_port b NoMore = ToPort width.Word (Constant 0)
to_port b (More e NoMore) = ToPort (width_of (port_type b)) e
to_port b (More e (More f es)) = ToPort width.Word (Constant 0)

-- subscripts over elements of stride bytes, before others
abbrev pub strided : (stride : ℕ) → Expressions → Subscripts → Subscripts
strided stride NoMore others = others
strided stride (More e es) others = Subscript stride e (strided stride es others)

abbrev pub entry_of : Option ProcedureR → ℕ
entry_of o = option_map_or (λ p. p.entry) o 0

abbrev pub object_size : Option ℕ → ℕ
object_size o = option_map_or (λ n. n) o 0

abbrev pub use_read : Option Variable → SelectorR → Reference → Expression
use_read None s r = Constant 0
use_read (Some v) s r = elim (designated v s) [ Some t ↦ read_of t r | None ↦ Constant 0 ]

abbrev pub use_stored : Option Variable → SelectorR → Reference → Target
use_stored None s r = store_to Word r
use_stored (Some v) s r = elim (designated v s) [ Some t ↦ store_to t r | None ↦ store_to Word r ]

-- ---- references and built-ins, in the module of this number
module _ (module_index : ℕ) where
  -- constant bytes: the object of this number, with its size
  abbrev pub constants_at : (line object size : ℕ) → Reference
  constants_at line k size = Refer module_index line (InObject k 0 size) 0 NoSubscripts

  abbrev pub shifted : (line : ℕ) → BinaryOperation → Width → Expressions → Expression
  shifted line o w NoMore = Constant 0
  shifted line o w (More a NoMore) = Constant 0
  shifted line o w (More a (More b NoMore)) = Binary module_index line o w a b
  shifted line o w (More a (More b (More e es))) = Constant 0

  abbrev pub builtin_value : (line : ℕ) → Builtin → Width → Expressions → Expression
  builtin_value line builtin.Low w es = operated unary.Low w es
  builtin_value line builtin.High w es = operated unary.High w es
  builtin_value line builtin.Double w es = operated unary.Double w es
  builtin_value line builtin.Signed w es = operated unary.Double w es
  builtin_value line builtin.Unsigned w es = operated unary.Double w es
  builtin_value line builtin.ShiftLeft w es = shifted line binary.ShiftLeft w es
  builtin_value line builtin.ShiftRight w es = shifted line binary.ShiftRight w es
  builtin_value line builtin.RotateLeft w es = shifted line binary.RotateLeft w es
  builtin_value line builtin.RotateRight w es = shifted line binary.RotateRight w es
  builtin_value line builtin.Input w es = read_port width.Byte es
  builtin_value line builtin.InputWord w es = read_port width.Word es
  -- not asked of what measures, nor of targets
  builtin_value line builtin.Length w es = Constant 0
  builtin_value line builtin.Last w es = Constant 0
  builtin_value line builtin.Size w es = Constant 0
  builtin_value line builtin.Output w es = Constant 0
  builtin_value line builtin.OutputWord w es = Constant 0

module _ (variables : List Variable) (module_index : ℕ) where
  -- with its subscripts, and a member's subscript
  abbrev pub refer : (line : ℕ) → Option Variable → SelectorR → Expressions → Expressions → Reference
  refer line None s es fs = Refer module_index line (InObject 0 0 0) 0 NoSubscripts
  refer line (Some v) s es fs = Refer module_index line (anchor_for variables v) (member_offset s) (strided v.stride es (strided (member_stride s) fs NoSubscripts))
