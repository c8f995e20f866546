-- The numbers that stand in a program's tables and trees: each is below the length of the table that it is of, and no name means nothing.
use Rattle.std.specs.Prelude.{ℕ, List, length, Bool, true, false, ◌&&◌, nat_lt, Option, Some, None}
use Rattle.std.specs.List.{list_all}
use Rattle.plm_decl.specs.declared.layout.Form.{Form}
use Rattle.plm_decl.specs.declared.layout.Form.TheVariants as form
use Rattle.plm_decl.specs.declared.names.Region.{Region}
use Rattle.plm_decl.specs.declared.names.Region.TheVariants as region
use Rattle.plm_decl.specs.declared.names.Variable.{Variable}
use Rattle.plm_decl.specs.declared.names.Datum.{Datum}
use Rattle.plm_decl.specs.declared.names.Datum.TheVariants as datum
use Rattle.plm_decl.specs.declared.resolved.Binding.{Binding}
use Rattle.plm_decl.specs.declared.resolved.Binding.TheVariants as binding
use Rattle.plm_decl.specs.Layout.{StructureR}
use Rattle.plm_decl.specs.Names.{ObjectR, ProcedureR, DeclaredLocationR, MainR}
use Rattle.plm_decl.specs.Resolved.{ExpressionR, NumberR, TextR, ReferenceR, LocationR, ParenthesisedR, EmbeddedR, UnaryR, BinaryR, ReferenceR', Use, ExpressionsR, no_expressions, expressions, SelectorR, no_member, member, member_at, LocationR', LocationOf, ConstantsOf, ReferencesR, no_references, references, StatementR, EmptyR, AssignR, CallR, ReturnR, ReturnValueR, EnableR, DisableR, HaltR, IfR, IfElseR, DoR, WhileR, CaseR, IterateR, StatementsR, no_statements, statements}

-- how many variables, structures, RAM objects and procedures there are
pub record Counts : Type 0 where
  pub variables : ℕ
  pub structures : ℕ
  pub objects : ℕ
  pub procedures : ℕ

abbrev pub binding_within : Counts → Binding → Bool
binding_within c (binding.Variable v) = nat_lt v c.variables
binding_within c (binding.Procedure p) = nat_lt p c.procedures
binding_within c (binding.Builtin b) = true
binding_within c binding.Nothing = false

-- ---- trees

abbrev mutual
  pub expression_within : Counts → ExpressionR → Bool
  expression_within c (NumberR n) = true
  expression_within c (TextR p s) = true
  expression_within c (ReferenceR x) = reference_within c x
  expression_within c (LocationR l) = location_within c l
  expression_within c (ParenthesisedR p e) = expression_within c e
  expression_within c (EmbeddedR p x e) = reference_within c x && expression_within c e
  expression_within c (UnaryR p o e) = expression_within c e
  expression_within c (BinaryR p o a b) = expression_within c a && expression_within c b

  pub reference_within : Counts → ReferenceR' → Bool
  reference_within c (Use p m es s) = binding_within c m && (expressions_within c es && selector_within c s)

  pub expressions_within : Counts → ExpressionsR → Bool
  expressions_within c no_expressions = true
  expressions_within c (expressions e es) = expression_within c e && expressions_within c es

  pub selector_within : Counts → SelectorR → Bool
  selector_within c no_member = true
  selector_within c (member p m) = true
  selector_within c (member_at p m e) = expression_within c e

  pub location_within : Counts → LocationR' → Bool
  location_within c (LocationOf p f x) = reference_within c x
  location_within c (ConstantsOf p f o) = nat_lt o c.objects

abbrev pub references_within : Counts → ReferencesR → Bool
references_within c no_references = true
references_within c (references x xs) = reference_within c x && references_within c xs

abbrev pub step_within : Counts → Option ExpressionR → Bool
step_within c None = true
step_within c (Some e) = expression_within c e

abbrev mutual
  pub statement_within : Counts → StatementR → Bool
  statement_within c (EmptyR p) = true
  statement_within c (AssignR xs e) = references_within c xs && expression_within c e
  statement_within c (CallR p x) = reference_within c x
  statement_within c (ReturnR p) = true
  statement_within c (ReturnValueR p e) = expression_within c e
  statement_within c (EnableR p) = true
  statement_within c (DisableR p) = true
  statement_within c (HaltR p) = true
  statement_within c (IfR p e s) = expression_within c e && statement_within c s
  statement_within c (IfElseR p e s t) = expression_within c e && (statement_within c s && statement_within c t)
  statement_within c (DoR p ss) = statements_within c ss
  statement_within c (WhileR p e ss) = expression_within c e && statements_within c ss
  statement_within c (CaseR p e ss) = expression_within c e && statements_within c ss
  statement_within c (IterateR p q m a b s ss) =
      binding_within c m && (expression_within c a && (expression_within c b && (step_within c s && statements_within c ss)))

  pub statements_within : Counts → StatementsR → Bool
  statements_within c no_statements = true
  statements_within c (statements s ss) = statement_within c s && statements_within c ss

-- ---- tables

abbrev pub form_within : Counts → Form → Bool
form_within c (form.Scalar s) = true
form_within c (form.Structure n) = nat_lt n c.structures

abbrev pub region_within : Counts → Region → Bool
region_within c (region.Ram object offset) = nat_lt object c.objects
region_within c (region.Screen page offset) = true
region_within c (region.Based v) = nat_lt v c.variables
region_within c region.Nowhere = true

abbrev pub variable_within : Counts → Variable → Bool
variable_within c v = form_within c v.form && region_within c v.region

abbrev pub datum_within : Counts → Datum → Bool
datum_within c (datum.Byte b) = true
datum_within c (datum.Word w) = true
datum_within c (datum.Variable v d) = nat_lt v c.variables
datum_within c (datum.Constants o) = nat_lt o c.objects

abbrev pub object_within : Counts → ObjectR → Bool
object_within c o = list_all (datum_within c) o.initial

abbrev pub procedure_within : Counts → ProcedureR → Bool
procedure_within c p = list_all (λ v. nat_lt v c.variables) p.parameters && (nat_lt p.entry c.procedures && statements_within c p.body)

abbrev pub declared_location_within : Counts → DeclaredLocationR → Bool
declared_location_within c l = location_within c l.location

abbrev pub main_within : Counts → MainR → Bool
main_within c m = statements_within c m.statements

-- ---- the names of a program

-- each number in the tables and in main's statements is below the length of its table
abbrev pub names_within : List Variable → List StructureR → List ObjectR → List ProcedureR → List DeclaredLocationR → MainR → Bool
names_within vs ss os ps ls main =
    let c : Counts = record { variables = length vs; structures = length ss; objects = length os; procedures = length ps } in
    list_all (variable_within c) vs && (list_all (object_within c) os && (list_all (procedure_within c) ps && (list_all (declared_location_within c) ls && main_within c main)))
