-- What texts declare is one program: names that are declared by the same texts are alike, and what is asked of them has one answer.
use Rattle.std.proofs.Common.{◌≡◌, ℕ, suc, ◌+◌, ◌<◌, ◌⊎◌, inl, inr, List, [], ◌∷◌, ◌++◌, length, map, get_or, refl, sym, ap, ap₂, ◌∙◌, subst}
use Rattle.std.proofs.lemmas.Simd.{map-map}
use Rattle.word86.specs.MemoryMap.{data_start}
use Rattle.word86.specs.declared.fault.Fault.{Fault}
use Rattle.plm_token.specs.Scanner.{Lexeme}
use Rattle.plm_syntax.specs.Tree.{ModuleT}
use Rattle.plm_syntax.specs.Literals.{expanded}
use Rattle.plm_syntax.specs.Faults.{text_tokens}
use Rattle.plm_syntax.specs.Sentence.{SpellOnce}
use Rattle.plm_decl.specs.declared.names.Names.{Names}
use Rattle.plm_decl.specs.declared.names.Object.{Object}
use Rattle.plm_decl.specs.declared.names.Variable.{Variable}
use Rattle.plm_decl.specs.Initial.{initial_bytes}
use Rattle.plm_decl.specs.Joins.{known_from}
use Rattle.plm_decl.specs.Modules.{AreNames, AreAnswered}
use Rattle.plm_decl.specs.Names.{ObjectR, object_of, main_of}
use Rattle.plm_decl.specs.Placement.{sizes_of}
use Rattle.plm_decl.specs.Resolver.{Known}
use Rattle.plm_type.specs.Programs.{declared_procedures, main_tree, procedures_of}
use Rattle.plm_type.specs.Statements.{typed_procedures, typed_main}
use Rattle.icode.specs.declared.code.Routine.{Routine}
use Rattle.icode.specs.declared.code.Code.{Code}
use Rattle.lower.specs.Lowering.{code, IsLowered, vectors_of, last_module, program_code}
use Rattle.plm_decl.specs.Names.{vector_of}
use Rattle.select.specs.declared.part.Part.{Part}
use Rattle.layout_link.specs.declared.image.Image.{Image}
use Rattle.layout_link.specs.declared.image.RomSize.{RomSize}
use Rattle.layout_link.specs.Image.{bytes_in}
use Rattle.layout_link.specs.Initial.{Stretch, joined, stretches, data_tasks, copied_bytes}
use Rattle.layout_link.specs.Linker.{offsets_in, stretches_in, needed}
use Rattle.layout_link.specs.Objects.{offsets_from}
use Rattle.layout_link.specs.Places.{total_of}
use Rattle.layout_link.specs.Tasks.{start_up_bytes, vector_tasks}
use Rattle.std.specs.Prelude.{slice_index}
use Rattle.plm86.specs.Build.{tokens_of, AreTrees, AreDeclared, AreTyped}
use Rattle.plm86.specs.Exact.{TakesStack, HasParts, IsTooDeep, IsTooLong, FitsTexts, DoesNotFit}
use Rattle.plm86.specs.OneProgram.{AreAlike, DeclareOneProgram, TextsDeclareOneProgram}

-- ---- names

trees_are_one : SpellOnce → (all : List (List Lexeme)) (ss ts : List ModuleT) → AreTrees all ss → AreTrees all ts → ss ≡ ts
trees_are_one once [] [] [] s t = refl
trees_are_one once [] [] (y ∷ ts) s t = absurd t
trees_are_one once [] (x ∷ ss) ts s t = absurd s
trees_are_one once (tokens ∷ all) [] ts s t = absurd s
trees_are_one once (tokens ∷ all) (x ∷ ss) [] s t = absurd t
trees_are_one once (tokens ∷ all) (x ∷ ss) (y ∷ ts) (a, s) (b, t) =
    ap₂ (λ m ms. m ∷ ms) (once x y (text_tokens (expanded tokens)) a.well_formed b.well_formed a.spelled b.spelled) (trees_are_one once all ss ts s t)

alike_answers : (k : Known) (a b : Names) → AreAnswered a k → AreAnswered b k → AreAlike a b
alike_answers k a b x y = record {
  variables = x.variables ∙ sym y.variables;
  structures = x.structures ∙ sym y.structures;
  objects = x.objects ∙ sym y.objects;
  screen_names = x.screen_names ∙ sym y.screen_names;
  procedures = x.procedures ∙ sym y.procedures;
  locations = x.locations ∙ sym y.locations;
  main = ap (λ ms. get_or ms 0 (main_of a.main)) (x.main ∙ sym y.main);
}

declared_alike : SpellOnce → (texts : List (List ℕ)) (a b : Names) → AreDeclared texts a → AreDeclared texts b → AreAlike a b
declared_alike once texts a b x y =
    let same = trees_are_one once (map tokens_of texts) x.trees y.trees x.modules.parsed y.modules.parsed in
    alike_answers (known_from y.trees) a b (subst (λ ms. AreNames a ms) same x.declared) y.declared

-- ---- what is asked of alike names

-- the stretches of objects, by what is told of these
abbrev stretches_of : (offsets : List ℕ) (variables : List Variable) (k : ℕ) → List ObjectR → List Stretch
stretches_of offsets variables k [] = []
stretches_of offsets variables k (o ∷ os) = joined (data_start + slice_index offsets k) (initial_bytes offsets variables o.initial) (stretches_of offsets variables (k + 1) os)

stretches_told : (offsets : List ℕ) (variables : List Variable) (k : ℕ) (os : List Object) → stretches offsets variables k os ≡ stretches_of offsets variables k (map object_of os)
stretches_told offsets variables k [] = refl
stretches_told offsets variables k (o ∷ os) = ap (joined (data_start + slice_index offsets k) (initial_bytes offsets variables o.initial.items)) (stretches_told offsets variables (k + 1) os)

module _ (a b : Names) (h : AreAlike a b) where
  sizes_alike : sizes_of a ≡ sizes_of b
  sizes_alike =
      sym (map-map (λ (o : ObjectR). o.size) object_of a.objects.items)
      ∙ (ap (map (λ (o : ObjectR). o.size)) h.objects ∙ map-map (λ (o : ObjectR). o.size) object_of b.objects.items)

  main_alike : main_tree a ≡ main_tree b
  main_alike =
      ap (λ v. (typed_main v (declared_procedures a) (sizes_of a) (main_of a.main)).tree) h.variables
      ∙ (ap (λ p. (typed_main b.variables.items p (sizes_of a) (main_of a.main)).tree) h.procedures
      ∙ ap₂ (λ s m. (typed_main b.variables.items (declared_procedures b) s m).tree) sizes_alike h.main)

  procedures_alike : procedures_of a ≡ procedures_of b
  procedures_alike =
      ap (λ v. (typed_procedures v (declared_procedures a) (sizes_of a) (declared_procedures a)).tree) h.variables
      ∙ ap₂ (λ p s. (typed_procedures b.variables.items p s p).tree) h.procedures sizes_alike

  code_alike : (r : Routine) → program_code a r ≡ program_code b r
  code_alike r =
      ap (λ p. code p (vectors_of a) (main_tree a) r) procedures_alike
      ∙ ap₂ (λ p m. code (procedures_of b) (map vector_of p) m r) h.procedures main_alike

  lowered_alike : (c : Code) → IsLowered a c → IsLowered b c
  lowered_alike c x = record {
    code_is = λ r. x.code_is r ∙ code_alike r;
    vectors_are = x.vectors_are ∙ ap (map vector_of) h.procedures;
    modules_are = x.modules_are ∙ ap (map (λ p. p.module)) h.procedures;
    main_is_in = x.main_is_in ∙ ap (λ m. m.module) h.main;
    sections_are = x.sections_are ∙ ap₂ (λ m ps. suc (last_module m.module ps)) h.main h.procedures;
  }

  stretches_alike : stretches_in a ≡ stretches_in b
  stretches_alike =
      stretches_told (offsets_in a) a.variables.items 0 a.objects.items
      ∙ (ap (λ s. stretches_of (offsets_from 2 s) a.variables.items 0 (map object_of a.objects.items)) sizes_alike
      ∙ (ap₂ (λ v os. stretches_of (offsets_in b) v 0 os) h.variables h.objects
      ∙ sym (stretches_told (offsets_in b) b.variables.items 0 b.objects.items)))

  needed_alike : (parts : List Part) → needed a parts ≡ needed b parts
  needed_alike parts = ap (λ s. start_up_bytes (vector_tasks parts 0 256 ++ data_tasks 0 0 s) + total_of parts + length (copied_bytes 0 s) + 16) stretches_alike

  takes_alike : (main handler : ℕ) → TakesStack a main handler → TakesStack b main handler
  takes_alike main handler x = record { code = x.code; lowered = lowered_alike x.code x.lowered; counted = x.counted }

  deep_alike : IsTooDeep a → IsTooDeep b
  deep_alike (main, handler, takes, more) = (main, handler, takes_alike main handler takes, more)

  parts_alike : (parts : List Part) → HasParts a parts → HasParts b parts
  parts_alike parts x = record { code = x.code; lowered = lowered_alike x.code x.lowered; selected = x.selected }

  long_alike : (size : RomSize) → IsTooLong a size → IsTooLong b size
  long_alike size (parts, has, more) = (parts, parts_alike parts has, subst (λ n. bytes_in size < n) (needed_alike parts) more)

-- ---- both

not_both : SpellOnce → (texts : List (List ℕ)) (size : RomSize) (image : Image) (b : Names) (f : Fault) → FitsTexts texts size image → AreTyped texts b → DoesNotFit b size f → ⊥
not_both once texts size image b f fits typed (inl (is, deep)) =
    fits.fits.in_stack (deep_alike b fits.names (declared_alike once texts b fits.names typed.modules fits.typed.modules) deep)
not_both once texts size image b f fits typed (inr (is, shallow, long)) =
    fits.fits.in_rom (long_alike b fits.names (declared_alike once texts b fits.names typed.modules fits.typed.modules) size long)

pub one_program : SpellOnce → TextsDeclareOneProgram
one_program once texts = record { alike = declared_alike once texts; not_both = not_both once texts }
