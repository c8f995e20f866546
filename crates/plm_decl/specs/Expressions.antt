-- Expressions with their names resolved, read in a scope where this much is known.
use Rattle.std.specs.Prelude.{ℕ, ◌+◌, List, [], ◌∷◌, ◌++◌, map, length, slice_get, Bool, true, false, ◌&&◌, Option, Some, None, is_some}
use Rattle.plm_decl.specs.Lists.{bind}
use Rattle.word86.specs.declared.number.Number.TheVariants.{E301, E305}
use Rattle.plm_token.specs.Names.{normal}
use Rattle.plm_token.specs.Strings.{string_characters}
use Rattle.plm_syntax.specs.declared.tree.Position.{Position}
use Rattle.plm_syntax.specs.Terminal.{NameT}
use Rattle.plm_syntax.specs.Tree.{ExpressionT, NumeralE, TextE, ReferenceE, LocationE, ParenthesisedE, EmbeddedE, UnaryE, BinaryE, ReferenceT, ReferenceOf, ExpressionsT, SelectorT, LocationT, ValueT, NumeralV, NegativeV, TextV, LocationV}
use Rattle.plm_syntax.specs.Tree as tree
use Rattle.plm_decl.specs.declared.layout.ScalarType.TheVariants.{Byte}
use Rattle.plm_decl.specs.declared.layout.Member.{Member}
use Rattle.plm_decl.specs.declared.layout.Form.{Form}
use Rattle.plm_decl.specs.declared.layout.Form.TheVariants as form
use Rattle.plm_decl.specs.declared.names.Datum.{Datum}
use Rattle.plm_decl.specs.declared.names.Datum.TheVariants as datum
use Rattle.plm_decl.specs.declared.names.Variable.{Variable}
use Rattle.plm_decl.specs.declared.resolved.Binding.{Binding}
use Rattle.plm_decl.specs.declared.resolved.Binding.TheVariants as binding
use Rattle.plm_decl.specs.Layout.{StructureR, counted, field_named}
use Rattle.plm_decl.specs.Scope.{Frame, path_in}
use Rattle.plm_decl.specs.Spelling.{constants_after}
use Rattle.plm_decl.specs.Resolver.{Known, note_unless}
use Rattle.plm_decl.specs.Uses.{used}
use Rattle.plm_decl.specs.Lists.{value_list}
use Rattle.plm_decl.specs.Datum.{number_datum}
use Rattle.plm_decl.specs.Resolved.{ExpressionR, NumberR, TextR, ReferenceR, LocationR, ParenthesisedR, EmbeddedR, UnaryR, BinaryR, ReferenceR', Use, ExpressionsR, no_expressions, SelectorR, no_member, member, member_at, LocationR', LocationOf, ConstantsOf, and_expression}

-- ---- members

abbrev pub structure_in : List StructureR → Form → Option StructureR
structure_in structures (form.Scalar s) = None
structure_in structures (form.Structure n) = slice_get structures n

-- the variable that a name stands for
abbrev pub variable_meant : Known → Binding → Option Variable
variable_meant k (binding.Variable v) = slice_get k.variables v
variable_meant k (binding.Procedure p) = None
variable_meant k (binding.Builtin b) = None
variable_meant k binding.Nothing = None

-- the structure of a variable
abbrev pub structure_meant : Known → Binding → Option StructureR
structure_meant k m = bind (variable_meant k m) (λ v. structure_in k.structures v.form)

-- A structure has a member of this name. What is no structure has none, which is no fault of names.
abbrev pub member_of_structure : Option StructureR → NameT → Known → Option Member × Known
member_of_structure None n k = (None, k)
member_of_structure (Some s) n k =
    let m = field_named (normal n.text) s.fields in
    (m, note_unless (is_some m) E301 n.place k)

abbrev pub member_meant : Binding → NameT → Known → Option Member × Known
member_meant m n k = member_of_structure (structure_meant k m) n k

-- ---- constant bytes: numbers up to 255 and strings

abbrev pub one_datum : Option Datum → List Datum
one_datum None = []
one_datum (Some d) = d ∷ []

abbrev pub constant_data : ValueT → List Datum
constant_data (TextV s) = map (λ c. datum.Byte c) (string_characters s.text)
constant_data (NumeralV n) = one_datum (number_datum Byte n.value false)
constant_data (NegativeV n) = one_datum (number_datum Byte n.value true)
constant_data (LocationV l) = []

abbrev pub is_constant : ValueT → Bool
is_constant (TextV s) = true
is_constant (NumeralV n) = is_some (number_datum Byte n.value false)
is_constant (NegativeV n) = is_some (number_datum Byte n.value true)
is_constant (LocationV l) = false

abbrev pub all_constant_data : List ValueT → List Datum
all_constant_data [] = []
all_constant_data (v ∷ vs) = constant_data v ++ all_constant_data vs

abbrev pub are_constants : List ValueT → Bool
are_constants [] = true
are_constants (v ∷ vs) = is_constant v && are_constants vs

-- an object of its own, numbered in its module
abbrev pub with_constants : List Frame → List Datum → Known → Known
with_constants frames bytes k = record k {
  constants = counted (k.constants + 1);
  objects = k.objects ++ record { path = constants_after (path_in frames) (counted (k.constants + 1)); size = length bytes; initial = bytes } ∷ [];
}

abbrev pub constant_bytes : List Frame → Position → List ValueT → Known → ℕ × Known
constant_bytes frames place vs k = (length k.objects, with_constants frames (all_constant_data vs) (note_unless (are_constants vs) E305 place k))

-- ---- expressions

abbrev mutual
  pub expression : List Frame → ExpressionT → Known → ExpressionR × Known
  expression frames (NumeralE n) k = (NumberR n, k)
  expression frames (TextE s) k = (TextR s.place (string_characters s.text), k)
  expression frames (ReferenceE x) k = let r = reference frames x k in (ReferenceR r.0, r.1)
  expression frames (LocationE l) k = let r = location frames l k in (LocationR r.0, r.1)
  expression frames (ParenthesisedE p e) k = let r = expression frames e k in (ParenthesisedR p r.0, r.1)
  expression frames (EmbeddedE p x e) k = let r = reference frames x k in let q = expression frames e r.1 in (EmbeddedR p r.0 q.0, q.1)
  expression frames (UnaryE p o e) k = let r = expression frames e k in (UnaryR p o r.0, r.1)
  expression frames (BinaryE p o a b) k = let r = expression frames a k in let q = expression frames b r.1 in (BinaryR p o r.0 q.0, q.1)

  pub reference : List Frame → ReferenceT → Known → ReferenceR' × Known
  reference frames (ReferenceOf n es s) k =
      let m = used frames n k in let x = subscripts frames es m.1 in let y = selector frames m.0 s x.1 in
      (Use n.place m.0 x.0 y.0, y.1)

  pub subscripts : List Frame → ExpressionsT → Known → ExpressionsR × Known
  subscripts frames tree.no_expressions k = (no_expressions, k)
  subscripts frames (tree.expressions es e) k = let r = subscripts frames es k in let q = expression frames e r.1 in (and_expression r.0 q.0, q.1)

  pub selector : List Frame → Binding → SelectorT → Known → SelectorR × Known
  selector frames m tree.no_member k = (no_member, k)
  selector frames m (tree.member n) k = let r = member_meant m n k in (member n.place r.0, r.1)
  selector frames m (tree.member_at n e) k = let r = member_meant m n k in let q = expression frames e r.1 in (member_at n.place r.0 q.0, q.1)

  pub location : List Frame → LocationT → Known → LocationR' × Known
  location frames (tree.LocationOf p f x) k = let r = reference frames x k in (LocationOf p f r.0, r.1)
  location frames (tree.ConstantsOf p f vs) k = let r = constant_bytes frames p (value_list vs) k in (ConstantsOf p f r.0, r.1)
