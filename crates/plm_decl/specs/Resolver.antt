-- What is known of a program while its trees are read, in order of declaration, and the faults that were met.
use Rattle.std.specs.Prelude.{ℕ, List, [], ◌∷◌, ◌++◌, Bool, cond}
use Rattle.word86.specs.declared.number.Number.{Number}
use Rattle.plm_syntax.specs.declared.tree.Position.{Position}
use Rattle.plm_decl.specs.declared.names.Variable.{Variable}
use Rattle.plm_decl.specs.declared.names.Item.{Item}
use Rattle.plm_decl.specs.declared.found.Found.{Found}
use Rattle.plm_decl.specs.Layout.{StructureR}
use Rattle.plm_decl.specs.Scope.{Entries}
use Rattle.plm_decl.specs.Names.{ObjectR, ScreenNameR, ProcedureR, DeclaredLocationR, MainR}

-- an EXTERNAL name in normal form
pub record ExternalR : Type 0 where
  pub name : List ℕ
  pub item : Item

pub record Known : Type 0 where
  -- the module, and how many unnamed blocks and lists of constants it has so far
  pub «module» : ℕ
  pub blocks : ℕ
  pub constants : ℕ
  pub variables : List Variable
  pub structures : List StructureR
  pub objects : List ObjectR
  pub screen_names : List ScreenNameR
  pub procedures : List ProcedureR
  pub locations : List DeclaredLocationR
  pub publics : Entries
  pub externals : List ExternalR
  -- the variables, by number, whose AT names no place
  pub unplaced : List ℕ
  pub mains : List MainR
  -- the faults of declarations and names, and those of the whole program
  pub faults : List Found
  pub whole : List Found

abbrev pub nothing_known : Known
nothing_known = record {
  «module» = 0;
  blocks = 0;
  constants = 0;
  variables = [];
  structures = [];
  objects = [];
  screen_names = [];
  procedures = [];
  locations = [];
  publics = [];
  externals = [];
  unplaced = [];
  mains = [];
  faults = [];
  whole = [];
}

-- ---- faults

abbrev pub note : Number → Position → Known → Known
note number place k = record k { faults = k.faults ++ record { «module» = k.module; place = place; number = number } ∷ [] }

abbrev pub note_unless : Bool → Number → Position → Known → Known
note_unless holds number place k = cond holds k (note number place k)

abbrev pub note_whole : Found → Known → Known
note_whole f k = record k { whole = k.whole ++ f ∷ [] }
