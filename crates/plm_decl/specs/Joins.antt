-- What joins the modules: EXTERNAL names and their PUBLIC ones, and the faults of the whole program.
use Rattle.std.specs.Prelude.{ℕ, ◌+◌, List, [], ◌∷◌, ◌++◌, length, slice_get, slice_set, Bool, true, false, cond, ◌&&◌, nat_eq, nat_le, Option, Some, None}
use Rattle.word86.specs.declared.number.Number.TheVariants.{E306, E308, E310}
use Rattle.word86.specs.MemoryMap.{data_room}
use Rattle.plm_syntax.specs.Tree.{ModuleT, ModuleOf, BlockT, BlockOf, no_statements, statements}
use Rattle.plm_token.specs.Names.{normal}
use Rattle.plm_decl.specs.declared.layout.ScalarType.{ScalarType}
use Rattle.plm_decl.specs.declared.layout.Member.{Member}
use Rattle.plm_decl.specs.declared.layout.Form.{Form}
use Rattle.plm_decl.specs.declared.layout.Form.TheVariants as form
use Rattle.plm_decl.specs.declared.names.Region.{Region}
use Rattle.plm_decl.specs.declared.names.Variable.{Variable}
use Rattle.plm_decl.specs.declared.names.Item.{Item}
use Rattle.plm_decl.specs.declared.names.Item.TheVariants as item
use Rattle.plm_decl.specs.declared.found.Found.{Found}
use Rattle.plm_decl.specs.Layout.{FieldR, StructureR, counted, same_scalar}
use Rattle.plm_decl.specs.Found.{precedes}
use Rattle.plm_decl.specs.Scope.{frame, found_in}
use Rattle.plm_decl.specs.Resolver.{Known, ExternalR, note_whole, nothing_known}
use Rattle.plm_decl.specs.Names.{ObjectR, ProcedureR}
use Rattle.plm_decl.specs.Resolved.{StatementsR}
use Rattle.plm_decl.specs.Linkage.{start, found_item}
use Rattle.plm_decl.specs.Statements.{block}

-- ---- agreement

abbrev pub same_dimension : Option ℕ → Option ℕ → Bool
same_dimension None None = true
same_dimension None (Some n) = false
same_dimension (Some m) None = false
same_dimension (Some m) (Some n) = nat_eq m n

abbrev pub same_member : Member → Member → Bool
same_member a b = same_scalar a.scalar b.scalar && same_dimension a.dimension b.dimension

-- the same members but for their names
abbrev pub same_members : List FieldR → List FieldR → Bool
same_members [] [] = true
same_members [] (f ∷ fs) = false
same_members (e ∷ es) [] = false
same_members (e ∷ es) (f ∷ fs) = same_member e.member f.member && same_members es fs

abbrev pub same_structure : Option StructureR → Option StructureR → Bool
same_structure None s = false
same_structure (Some s) None = false
same_structure (Some s) (Some t) = same_members s.fields t.fields

abbrev pub same_form : Known → Form → Form → Bool
same_form k (form.Scalar a) (form.Scalar b) = same_scalar a b
same_form k (form.Scalar a) (form.Structure n) = false
same_form k (form.Structure m) (form.Scalar b) = false
same_form k (form.Structure m) (form.Structure n) = same_structure (slice_get k.structures m) (slice_get k.structures n)

abbrev pub same_type : Known → Option Variable → Option Variable → Bool
same_type k None w = false
same_type k (Some v) None = false
same_type k (Some v) (Some w) = same_dimension v.dimension w.dimension && (nat_eq v.stride w.stride && same_form k v.form w.form)

abbrev pub same_variable : Known → ℕ → ℕ → Bool
same_variable k m n = same_type k (slice_get k.variables m) (slice_get k.variables n)

abbrev pub same_parameters : Known → List ℕ → List ℕ → Bool
same_parameters k [] [] = true
same_parameters k [] (n ∷ ns) = false
same_parameters k (m ∷ ms) [] = false
same_parameters k (m ∷ ms) (n ∷ ns) = same_variable k m n && same_parameters k ms ns

abbrev pub same_value : Option ScalarType → Option ScalarType → Bool
same_value None None = true
same_value None (Some b) = false
same_value (Some a) None = false
same_value (Some a) (Some b) = same_scalar a b

abbrev pub same_procedure : Known → Option ProcedureR → Option ProcedureR → Bool
same_procedure k None q = false
same_procedure k (Some p) None = false
same_procedure k (Some p) (Some q) = same_value p.returned q.returned && same_parameters k p.parameters q.parameters

-- an EXTERNAL name and its PUBLIC one agree in kind, type and length
abbrev pub agree : Known → Item → Item → Bool
agree k (item.Variable m) (item.Variable n) = same_variable k m n
agree k (item.Variable m) (item.Procedure n) = false
agree k (item.Procedure m) (item.Variable n) = false
agree k (item.Procedure m) (item.Procedure n) = same_procedure k (slice_get k.procedures m) (slice_get k.procedures n)

-- ---- joining

abbrev pub with_region : Region → Variable → Variable
with_region r v = record v { region = r }

abbrev pub with_entry_at : ℕ → ProcedureR → ProcedureR
with_entry_at n p = record p { entry = n }

abbrev pub region_joined : ℕ → Option Variable → Option Variable → Known → Known
region_joined m None w k = k
region_joined m (Some v) None k = k
region_joined m (Some v) (Some w) k = record k { variables = slice_set k.variables m (with_region w.region v) }

abbrev pub entry_joined : ℕ → Option ProcedureR → ℕ → Known → Known
entry_joined m None n k = k
entry_joined m (Some p) n k = record k { procedures = slice_set k.procedures m (with_entry_at n p) }

-- an EXTERNAL variable lies where its PUBLIC one does; a call of an EXTERNAL procedure runs its PUBLIC one
abbrev pub joined : Item → Item → Known → Known
joined (item.Variable m) (item.Variable n) k = region_joined m (slice_get k.variables m) (slice_get k.variables n) k
joined (item.Variable m) (item.Procedure n) k = k
joined (item.Procedure m) (item.Variable n) k = k
joined (item.Procedure m) (item.Procedure n) k = entry_joined m (slice_get k.procedures m) n k

abbrev pub earlier : Found → Found → Found
earlier f g = cond (precedes g f) g f

-- one without its PUBLIC, or unlike it, is a fault at the earlier of the two
abbrev pub unjoined : Known → Item → Option Item → Found
unjoined k e None = found_item k e E306
unjoined k e (Some p) = earlier (found_item k e E306) (found_item k p E306)

abbrev pub external_joined : Item → Option Item → Known → Known
external_joined e None k = note_whole (unjoined k e None) k
external_joined e (Some p) k = cond (agree k e p) (joined e p k) (note_whole (unjoined k e (Some p)) k)

abbrev pub externals_joined : List ExternalR → Known → Known
externals_joined [] k = k
externals_joined (e ∷ es) k = externals_joined es (external_joined e.item (found_in e.name k.publics) k)

-- ---- the whole program

abbrev pub bytes_from : ℕ → List ObjectR → ℕ
bytes_from before [] = before
bytes_from before (o ∷ os) = bytes_from (counted (before + o.size)) os

-- RAM objects have room together
abbrev pub have_room : List ObjectR → Bool
have_room os = nat_le (bytes_from 0 os) data_room

abbrev pub program_fault : Bool → Found → Known → Known
program_fault holds f k = cond holds k (note_whole f k)

abbrev pub modules_joined : Known → Known
modules_joined k =
    let q = externals_joined k.externals (record k { externals = [] }) in
    let p = program_fault (nat_eq (length q.mains) 1) (record { «module» = 0; place = start; number = E308 }) q in
    program_fault (have_room p.objects) (record { «module» = 0; place = start; number = E310 }) p

-- ---- modules

-- the main module has executable statements at its outer level
abbrev pub has_statements : BlockT → Bool
has_statements (BlockOf is no_statements) = false
has_statements (BlockOf is (statements ss s)) = true

abbrev pub with_main : Bool → StatementsR → Known → Known
with_main true ss k = record k { mains = k.mains ++ record { «module» = k.module; statements = ss } ∷ [] }
with_main false ss k = k

abbrev pub at_module : ℕ → Known → Known
at_module number k = record k { «module» = number; blocks = 0; constants = 0 }

abbrev pub with_module : ℕ → ModuleT → Known → Known
with_module number (ModuleOf n b e) k =
    let r = block (frame (normal n.text) false ∷ []) b (at_module number k) in
    with_main (has_statements b) r.0 r.2

abbrev pub modules_from : ℕ → List ModuleT → Known → Known
modules_from number [] k = k
modules_from number (m ∷ ms) k = modules_from (number + 1) ms (with_module number m k)

-- what the modules declare, and the faults of their declarations and names
abbrev pub known_from : List ModuleT → Known
known_from ms = modules_from 0 ms nothing_known
