-- What `Names` holds, as plain values.
use Rattle.std.specs.Prelude.{ℕ, nat_eq, cond, List, Option, None, Bool, true, false}
use Rattle.std.specs.Option.{option_map_or}
use Rattle.word86.specs.declared.page.Page.{Page}
use Rattle.plm_syntax.specs.declared.tree.Position.{Position}
use Rattle.plm_syntax.specs.declared.tree.Linkage.{Linkage}
use Rattle.plm_decl.specs.declared.layout.ScalarType.{ScalarType}
use Rattle.plm_decl.specs.declared.names.Datum.{Datum}
use Rattle.plm_decl.specs.declared.names.Object.{Object}
use Rattle.plm_decl.specs.declared.names.ScreenName.{ScreenName}
use Rattle.plm_decl.specs.declared.names.Procedure.{Procedure}
use Rattle.plm_decl.specs.declared.names.DeclaredLocation.{DeclaredLocation}
use Rattle.plm_decl.specs.declared.names.Main.{Main}
use Rattle.plm_decl.specs.Resolved.{LocationR', StatementsR}
use Rattle.plm_decl.specs.ResolvedView.{location_of, statements_of}
use Rattle.plm_syntax.specs.declared.tree.Linkage.TheVariants as linkage

-- a RAM object: its path, its bytes, and the values that its first bytes have at start
pub record ObjectR : Type 0 where
  pub path : List ℕ
  pub size : ℕ
  pub initial : List Datum

-- a name on a page of the screen, how many bytes after the page's first it begins, and how many RAM objects are declared before it
pub record ScreenNameR : Type 0 where
  pub path : List ℕ
  pub size : ℕ
  pub page : Page
  pub offset : ℕ
  pub objects_before : ℕ

-- a procedure; a call of it runs the body of its entry: itself, or the PUBLIC procedure that it is joined with
pub record ProcedureR : Type 0 where
  pub path : List ℕ
  pub «module» : ℕ
  pub place : Position
  pub parameters : List ℕ
  pub returned : Option ScalarType
  pub interrupt : Option ℕ
  pub linkage : Linkage
  pub stray : Option Position
  pub entry : ℕ
  pub body : StatementsR

abbrev pub is_external_linkage : Linkage → Bool
is_external_linkage linkage.None = false
is_external_linkage linkage.Public = false
is_external_linkage linkage.External = true

-- the vector that a procedure serves: an EXTERNAL one serves none
abbrev pub vector_of : ProcedureR → Option ℕ
vector_of p = cond (is_external_linkage p.linkage) None p.interrupt

-- an interrupt with this vector enters the procedure, if none before it serves the vector
abbrev pub handles : (vector : ℕ) → ProcedureR → Bool
handles v p = option_map_or (λ n. nat_eq n v) (vector_of p) false

-- a location of an AT, INITIAL or DATA
pub record DeclaredLocationR : Type 0 where
  pub «module» : ℕ
  pub location : LocationR'

pub record MainR : Type 0 where
  pub «module» : ℕ
  pub statements : StatementsR

-- ---- the Rust values as plain ones

abbrev pub object_of : Object → ObjectR
object_of o = record { path = o.path.items; size = o.size; initial = o.initial.items }

abbrev pub screen_name_of : ScreenName → ScreenNameR
screen_name_of s = record { path = s.path.items; size = s.size; page = s.page; offset = s.offset; objects_before = s.objects_before }

abbrev pub procedure_of : Procedure → ProcedureR
procedure_of p = record {
  path = p.path.items;
  «module» = p.module;
  place = p.place;
  parameters = p.parameters.items;
  returned = p.returned;
  interrupt = p.interrupt;
  linkage = p.linkage;
  stray = p.stray;
  entry = p.entry;
  body = statements_of p.body.items;
}

abbrev pub declared_location_of : DeclaredLocation → DeclaredLocationR
declared_location_of l = record { «module» = l.module; location = location_of l.location }

abbrev pub main_of : Main → MainR
main_of m = record { «module» = m.module; statements = statements_of m.statements.items }
