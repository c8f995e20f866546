-- Procedures and their parameters, read in a scope where this much is known.
use Rattle.std.specs.Prelude.{ℕ, List, [], ◌∷◌, ◌++◌, length, slice_get, slice_set, Bool, false, not, cond, ◌||◌, Option, Some, None, is_some, option_map}
use Rattle.std.specs.List.{list_any}
use Rattle.std.specs.Option.{option_map_or}
use Rattle.word86.specs.declared.number.Number.TheVariants.{E301, E302, E309}
use Rattle.plm_token.specs.Names.{normal}
use Rattle.plm_syntax.specs.declared.tree.Position.{Position}
use Rattle.plm_syntax.specs.declared.tree.Scalar.{Scalar}
use Rattle.plm_syntax.specs.declared.tree.Linkage.{Linkage}
use Rattle.plm_syntax.specs.declared.tree.Linkage.TheVariants as linkage
use Rattle.plm_syntax.specs.Terminal.{NameT, NumeralT}
use Rattle.plm_syntax.specs.Tree.{LinkageT, no_linkage, public_linkage, external_linkage, BlockT}
use Rattle.plm_decl.specs.declared.layout.ScalarType.TheVariants.{Byte}
use Rattle.plm_decl.specs.declared.layout.Form.TheVariants as form
use Rattle.plm_decl.specs.declared.names.Region.TheVariants as region
use Rattle.plm_decl.specs.declared.names.Variable.{Variable}
use Rattle.plm_decl.specs.declared.names.Item.{Item}
use Rattle.plm_decl.specs.declared.names.Item.TheVariants as item
use Rattle.plm_decl.specs.Layout.{scalar_of}
use Rattle.plm_decl.specs.Scope.{Frame, Entries, found_here, found_in, with_entry}
use Rattle.plm_decl.specs.Resolver.{Known, note, note_unless, note_whole}
use Rattle.plm_decl.specs.Names.{handles, ProcedureR, is_external_linkage}
use Rattle.plm_decl.specs.Resolved.{StatementsR, no_statements}
use Rattle.plm_decl.specs.Linkage.{linked}
use Rattle.plm_decl.specs.Elements.{declared, with_variable}
use Rattle.plm_decl.specs.Stray.{stray_of}

abbrev pub linkage_of : LinkageT → Linkage
linkage_of no_linkage = linkage.None
linkage_of public_linkage = linkage.Public
linkage_of external_linkage = linkage.External

abbrev pub is_handled : ℕ → Known → Bool
is_handled n k = list_any (handles n) k.procedures

abbrev pub note_handler : Position → Linkage → Option ℕ → Known → Known
note_handler place l None k = k
note_handler place l (Some n) k = cond (is_external_linkage l || not (is_handled n k)) k
    (note_whole (record { «module» = k.module; place = place; number = E309 }) k)

-- the procedure before its parameters and its body are known
abbrev pub header : List ℕ → NameT → List NameT → Option Scalar → Option NumeralT → Linkage → BlockT → Known → ProcedureR
header path n ps s i l b k = record {
  path = path;
  «module» = k.module;
  place = n.place;
  parameters = [];
  returned = option_map scalar_of s;
  interrupt = option_map (λ m. m.value) i;
  linkage = l;
  stray = stray_of l ps b;
  entry = length k.procedures;
  body = no_statements;
}

abbrev pub with_header : ProcedureR → Known → Known
with_header p k = let q = note_handler p.place p.linkage p.interrupt k in record q { procedures = q.procedures ++ p ∷ [] }

abbrev pub declared_procedure : List Frame → NameT → ProcedureR → Known → List Frame × Known
declared_procedure frames n p k = declared n (item.Procedure p.entry) frames (linked frames p.linkage (normal n.text) (item.Procedure p.entry) (with_header p k))

-- ---- parameters: each is listed once, and declared as a variable in the procedure's own block

-- in place of a parameter that is declared as a procedure: no scalar, which is a fault of types at the procedure's name
abbrev pub in_place_of : Option ProcedureR → Position → Known → Variable
in_place_of p place k = record {
  «module» = k.module;
  place = option_map_or (λ q. q.place) p place;
  form = form.Scalar Byte;
  dimension = Some 1;
  stride = 1;
  region = region.Nowhere;
  is_data = false;
}

abbrev pub parameter_is : Option Item → Position → List ℕ → Known → List ℕ × Known
parameter_is (Some (item.Variable v)) place vs k = (vs ++ v ∷ [], k)
parameter_is (Some (item.Procedure p)) place vs k = (vs ++ length k.variables ∷ [], with_variable (in_place_of (slice_get k.procedures p) place k) k)
parameter_is None place vs k = (vs, note E301 place k)

abbrev pub with_parameter : NameT → Entries → Entries
with_parameter n listed = with_entry (normal n.text) (item.Variable 0) listed

abbrev pub parameter_for : List Frame → Entries → List ℕ → NameT → Known → List ℕ × Known
parameter_for frames listed vs n k =
    parameter_is (found_here (normal n.text) frames) n.place vs (note_unless (not (is_some (found_in (normal n.text) listed))) E302 n.place k)

abbrev pub parameters_from : List Frame → Entries → List ℕ → List NameT → Known → List ℕ × Known
parameters_from frames listed vs [] k = (vs, k)
parameters_from frames listed vs (n ∷ ns) k =
    let r = parameter_for frames listed vs n k in parameters_from frames (with_parameter n listed) r.0 ns r.1

abbrev pub completed_at : ℕ → List ℕ → StatementsR → Option ProcedureR → Known → Known
completed_at number ps body None k = k
completed_at number ps body (Some p) k = record k { procedures = slice_set k.procedures number (record p { parameters = ps; body = body }) }

abbrev pub completed : ℕ → List ℕ → StatementsR → Known → Known
completed number ps body k = completed_at number ps body (slice_get k.procedures number) k
