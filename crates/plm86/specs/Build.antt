-- What is built from texts, and what is refused in them.
use Rattle.std.specs.Prelude.{◌≡◌, ℕ, ◌+◌, ◌*◌, ◌<◌, ◌≤◌, ◌⊎◌, List, [], ◌∷◌, ◌++◌, map, length, min, Some, None, slice_get, slice_index, Result, Ok, Err, ⊤}
use Rattle.word86.specs.declared.fault.Fault.{Fault}
use Rattle.word86.specs.declared.fault.Fault.TheVariants.{Memory, At}
use Rattle.word86.specs.declared.number.Number.{Number}
use Rattle.word86.specs.declared.number.Number.TheVariants.{E501, E601}
use Rattle.word86.specs.MemoryMap.{vectors_size, data_start, stack_room}
use Rattle.plm_token.specs.Scanner.{Lexeme, scan_of}
use Rattle.plm_syntax.specs.Tree.{ModuleT}
use Rattle.plm_syntax.specs.Literals.{expanded}
use Rattle.plm_syntax.specs.Faults.{FaultIs, text_tokens}
use Rattle.plm_syntax.specs.Sentence.{Spells, AllWithin}
use Rattle.plm_syntax.specs.Spelling.{levels_of}
use Rattle.plm_syntax.specs.WellFormed.{WellModule}
use Rattle.plm_decl.specs.declared.names.Names.{Names}
use Rattle.plm_decl.specs.declared.names.Object.{Object}
use Rattle.plm_decl.specs.Modules.{AreNames, faults_of, whole_faults_of}
use Rattle.plm_decl.specs.Names.{object_of}
use Rattle.plm_decl.specs.Found.{IsRefusal as IsLeastOf}
use Rattle.plm_decl.specs.Placement.{IsPlacement, sizes_of}
use Rattle.plm_decl.specs.Initial.{initial_bytes}
use Rattle.plm_type.specs.Calls.{IsRecursive}
use Rattle.plm_type.specs.Checking.{IsRefusal as IsRefusedFor}
use Rattle.plm_type.specs.Next.{next}
use Rattle.plm_type.specs.Interrupts.{LetsIn, IsMisused}
use Rattle.plm_type.specs.Programs.{faults as type_faults, declared_procedures, main_rest, handler_rest, procedures_of}
use Rattle.plm_type.specs.Rest.{Rest}
use Rattle.plm_meaning.specs.Opening.{first_store}
use Rattle.ppi_kbd.specs.Chips.{reset}
use Rattle.ppi_kbd.specs.BoardChips.{board_chips}
use Rattle.plm86.specs.declared.build.Source.{Source}
use Rattle.layout_link.specs.declared.image.Image.{Image}
use Rattle.layout_link.specs.declared.image.RomSize.{RomSize}
use Rattle.plm86.specs.Depth.{IsShallow}
use Rattle.plm86.specs.Headline.{Firmware, RomIsCorrect, StartsQuietly, StartsNoSooner}
use Rattle.layout_link.specs.Image.{bytes_in, kib_of}
use Rattle.plm_type.specs.Nodes.{nodes_of, initial_size}

abbrev pub text_of : Source → List ℕ
text_of s = s.text.now

-- the first of these faults, or want of memory, which may come before
abbrev pub IsFirst : List Fault → Fault → Type 0
IsFirst faults Memory = ⊤
IsFirst [] (At k line number) = ⊥
IsFirst (f ∷ fs) (At k line number) = f ≡ At k line number

-- faults count modules in 32 bits
abbrev pub module_number : ℕ → ℕ
module_number k = min k 4294967295

-- ---- scanning

-- the fault of a text, as that of the module of this number, from 0
abbrev pub in_module : ℕ → Fault → Fault
in_module k Memory = Memory
in_module k (At which line number) = At (module_number k) line number

abbrev pub fault_in : ℕ → Result (List Lexeme) Fault → List Fault
fault_in k (Ok tokens) = []
fault_in k (Err f) = in_module k f ∷ []

-- the faults of texts that do not scan, the first of which has this number
abbrev pub scan_faults : ℕ → List (List ℕ) → List Fault
scan_faults k [] = []
scan_faults k (text ∷ texts) = fault_in k (scan_of text) ++ scan_faults (k + 1) texts

-- the tokens of a text that scans
abbrev pub tokens_in : Result (List Lexeme) Fault → List Lexeme
tokens_in (Ok tokens) = tokens
tokens_in (Err f) = []

abbrev pub tokens_of : List ℕ → List Lexeme
tokens_of text = tokens_in (scan_of text)

-- ---- parsing

-- the literals of the tokens are replaced, and the tokens that come out spell the tree, which is well-formed and has no more than 64 levels
pub record IsTree (tokens : List Lexeme) (tree : ModuleT) : Type 0 where
  pub whole : (expanded tokens).stop ≡ None
  pub well_formed : WellModule tree
  pub spelled : Spells tree (text_tokens (expanded tokens))
  pub within : AllWithin 64 (levels_of tree)

-- one after another
abbrev pub AreTrees : List (List Lexeme) → List ModuleT → Type 0
AreTrees [] [] = ⊤
AreTrees [] (tree ∷ trees) = ⊥
AreTrees (tokens ∷ all) [] = ⊥
AreTrees (tokens ∷ all) (tree ∷ trees) = IsTree tokens tree × AreTrees all trees

-- the fault of the first module, of those from this number on, that has no tree
abbrev pub IsFirstUnparsed : ℕ → List (List Lexeme) → Fault → Type 0
IsFirstUnparsed k [] f = ⊥
IsFirstUnparsed k (tokens ∷ all) f =
    ((line : ℕ) × (number : Number) × (f ≡ At (module_number k) line number) × FaultIs number line (expanded tokens))
    ⊎ ((tree : ModuleT) × IsTree tokens tree × IsFirstUnparsed (k + 1) all f)

-- ---- the program

-- the trees of the texts
pub record AreModules (texts : List (List ℕ)) (trees : List ModuleT) : Type 0 where
  pub scanned : scan_faults 0 texts ≡ []
  pub parsed : AreTrees (map tokens_of texts) trees

-- the texts are modules, and these are the names that they declare, without a fault
pub record AreDeclared (texts : List (List ℕ)) (names : Names) : Type 0 where
  pub trees : List ModuleT
  pub modules : AreModules texts trees
  pub declared : AreNames names trees

-- nor is there a fault of types; no interrupt procedure reaches ENABLE or HALT, and none is called, typed or with parameters; and no
-- procedure reaches itself
pub record AreTyped (texts : List (List ℕ)) (names : Names) : Type 0 where
  pub modules : AreDeclared texts names
  pub no_fault : type_faults names ≡ []
  pub lets_nothing_in : (p : ℕ) → ¬ LetsIn (declared_procedures names) p
  pub none_misused : (p : ℕ) → ¬ IsMisused names p
  pub no_recursion : (p : ℕ) → ¬ IsRecursive (procedures_of names) p

-- ---- the image

-- the objects have their sizes and lie where the image places them, and the image tells how many bytes main and an interrupt procedure
-- have on the stack at most
abbrev pub firmware : Names → Image → (entry : ℕ → ℕ) → Firmware
firmware names image entry = record {
  rom = image.rom.items;
  entry = entry;
  placed = slice_index image.placement.offsets.items;
  size = slice_index (sizes_of names);
  main = image.stack.main;
  handler = image.stack.handler;
}

-- For every power-on memory, all words in the general registers and every schedule the ROM does on the board what the modules mean that
-- declare these names. The chips begin at their reset, and each vector leads to some entry.
pub record MeansNames (names : Names) (image : Image) : Type 0 where
  pub entry : (vector : ℕ) → ℕ
  pub faithful :
      RomIsCorrect board_chips (firmware names image entry) Rest
      (next image.placement.offsets.items (sizes_of names) (procedures_of names)) (main_rest names) (handler_rest names) image.start_turns reset
      (λ ram screen. first_store ram screen image.placement.offsets.items names.variables.items (map object_of names.objects.items) reset)

-- the address of an initial byte of an object, where the objects lie at these offsets
abbrev pub IsInitialByte : Names → (offsets : List ℕ) → (address : ℕ) → Type 0
IsInitialByte names offsets a =
    (k : ℕ) × (o : Object) × (slice_get names.objects.items k ≡ Some o) × (i : ℕ) × (i < length (initial_bytes offsets names.variables.items o.initial.items)) × (a ≡ data_start + slice_index offsets k + i)

-- start-up sets the vectors and the objects' initial bytes
abbrev pub IsSet : Names → (offsets : List ℕ) → (address : ℕ) → Type 0
IsSet names offsets a = (a < vectors_size) ⊎ IsInitialByte names offsets a

-- Start-up sets nothing else in RAM, makes no label but those of events, and leads to main, which begins at this place, in its turns and no
-- sooner.
pub record StartsUp (names : Names) (image : Image) (main_at : ℕ) : Type 0 where
  pub quietly : StartsQuietly board_chips image.start_turns main_at (IsSet names image.placement.offsets.items) image.rom.items reset
  pub no_sooner : StartsNoSooner board_chips image.start_turns main_at image.rom.items reset

-- The image of texts: nothing in them is refused, and the ROM does what they mean.
pub record IsBuilt (texts : List (List ℕ)) (size : RomSize) (image : Image) : Type 0 where
  pub names : Names
  pub typed : AreTyped texts names
  pub means : MeansNames names image
  pub main_at : ℕ
  pub starts : StartsUp names image main_at
  pub placement : IsPlacement image.placement.offsets.items (sizes_of names)
  pub size_is : length image.rom.items ≡ bytes_in size
  pub start : image.start_turns ≤ 4096 + initial_size names
  pub stack : image.stack.main + image.stack.handler ≤ stack_room

-- the program has more than 16 nodes for each KiB of the ROM, or its initial bytes fill more than a quarter of it
abbrev pub IsTooLarge : Names → RomSize → Type 0
IsTooLarge names size = (16 * kib_of size < nodes_of names) ⊎ (bytes_in size < 4 * initial_size names)

-- The first fault of the phases that ask for no ROM, each over all texts: scanning; parsing; names, where the least is answered, and
-- those of the whole program come last; types, where the least is answered, and E404 only where there is no other.
pub data IsFaulty (texts : List (List ℕ)) (f : Fault) : Type 0 where
  unscanned : IsFirst (scan_faults 0 texts) f → IsFaulty texts f
  unparsed : scan_faults 0 texts ≡ [] → IsFirstUnparsed 0 (map tokens_of texts) f → IsFaulty texts f
  unresolved : (trees : List ModuleT) → AreModules texts trees → IsLeastOf f (faults_of trees) (whole_faults_of trees) → IsFaulty texts f
  untyped : (names : Names) → AreDeclared texts names → IsRefusedFor f names → IsFaulty texts f

-- want of memory may come at any point
abbrev pub RefusesTexts : List (List ℕ) → Fault → Type 0
RefusesTexts texts Memory = ⊤
RefusesTexts texts (At which line number) = IsFaulty texts (At which line number)

-- The first fault of those phases. Where they find none: E501, which never comes to a shallow program, or E601, which never comes to one that
-- is small for the ROM.
pub data IsRefusal (texts : List (List ℕ)) (size : RomSize) (f : Fault) : Type 0 where
  faulty : IsFaulty texts f → IsRefusal texts size f
  too_deep : (names : Names) → AreTyped texts names → ¬ IsShallow names → f ≡ At 0 1 E501 → IsRefusal texts size f
  too_large : (names : Names) → AreTyped texts names → IsTooLarge names size → f ≡ At 0 1 E601 → IsRefusal texts size f

abbrev pub Refuses : List (List ℕ) → RomSize → Fault → Type 0
Refuses texts size Memory = ⊤
Refuses texts size (At which line number) = IsRefusal texts size (At which line number)
