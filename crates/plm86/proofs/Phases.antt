-- What `build` answers, from what its phases answer.
use Rattle.std.proofs.Common.{◌≡◌, ℕ, ◌+◌, ◌<◌, List, [], ◌∷◌, ◌++◌, map, refl, ap, sym, subst, ◌∙◌, inl, inr}
use Rattle.std.specs.Prelude.{length, drop, slice_index_or, Result, Ok, Err, IfOk, IfErr}
use Rattle.std.specs.Global.{Vec}
use Rattle.std.proofs.lemmas.List.{at_drop_more, append_assoc, append-nil, map-append, length-append}
use Rattle.word86.specs.declared.fault.Fault.{Fault}
use Rattle.word86.specs.declared.fault.Fault.TheVariants.{Memory, At}
use Rattle.plm_token.specs.declared.token.Token.{Token}
use Rattle.plm_token.specs.Scanner.{Lexeme, lexemes, scan_of, Answers}
use Rattle.plm_syntax.specs.declared.tree.Module.{Module}
use Rattle.plm_syntax.specs.Tree.{ModuleT}
use Rattle.plm_syntax.specs.Literals.{expanded}
use Rattle.plm_syntax.specs.Answer as tree
use Rattle.plm_syntax.specs.View.{module_of}
use Rattle.plm_decl.specs.declared.names.Names.{Names}
use Rattle.plm_decl.specs.Modules.{faults_of, whole_faults_of}
use Rattle.plm_decl.specs.Found.{IsRefusal as IsLeastOf}
use Rattle.plm_type.specs.declared.checked.Program as typed
use Rattle.plm_type.specs.Checked as types
use Rattle.plm_type.specs.Checking as typing
use Rattle.plm86.specs.declared.build.Source.{Source}
use Rattle.layout_link.specs.declared.image.Image.{Image}
use Rattle.layout_link.specs.declared.image.RomSize.{RomSize}
use Rattle.plm86.specs.Build.{text_of, IsFirst, module_number, in_module, fault_in, scan_faults, tokens_of, IsTree, AreTrees, IsFirstUnparsed, AreModules, AreDeclared, AreTyped, IsBuilt, unresolved, untyped, faulty, too_deep, too_large, RefusesTexts, Refuses}
use Rattle.plm86.specs.Exact.{Fits, LacksRoom, FitsTexts, in_texts, for_room, RefusesExactly}
use Rattle.plm86.specs.Inner.Compiling.{IsImage, HasNoRoom}
use Rattle.plm86.specs.Inner.Parsed.{ParsesAll}

-- ---- scanning

-- the fault of a text that does not scan is the first, where those before it scan
fault_first : (k : ℕ) (right : Result (List Lexeme) Fault) (f : Fault) (others : List Fault) → Answers right (Err f) → IsFirst (fault_in k right ++ others) (in_module k f)
fault_first k right Memory others said = tt
fault_first k right (At which line number) others said = subst (λ r. IsFirst (fault_in k r ++ others) (At (module_number k) line number)) (sym said) refl

pub first_unscanned : (sources : List Source) (i : ℕ) (d : Source) (all : List Fault) (f answer : Fault) → all ≡ scan_faults i (map text_of (drop i sources)) → i < length sources → Answers (scan_of (text_of (slice_index_or sources i d))) (Err f) → answer ≡ in_module i f → IsFirst all answer
first_unscanned sources i d all f answer is below said moved =
    subst (λ z. IsFirst all z) (sym moved)
    (subst (λ zs. IsFirst zs (in_module i f)) (sym (is ∙ at_drop_more (λ ss. scan_faults i (map text_of ss)) sources i d below))
    (fault_first i (scan_of (text_of (slice_index_or sources i d))) f (scan_faults (i + 1) (map text_of (drop (i + 1) sources))) said))

-- ---- parsing

abbrev pub tokens_of_all : List (Vec Token) → List (List Lexeme)
tokens_of_all all = map (λ t. lexemes t.items) all

module _ (all : List (List Lexeme)) (old : List (Vec Token)) (mods : List Module) where
  abbrev pub ParsedSoFar : Type 0
  ParsedSoFar = (behind : List ModuleT) → AreTrees (tokens_of_all old) behind → AreTrees all (map module_of mods ++ behind)

  abbrev pub NoneUnparsed : Type 0
  NoneUnparsed = (f : Fault) → IsFirstUnparsed (length mods) (tokens_of_all old) f → IsFirstUnparsed 0 all f

tree_is : (x : List Lexeme) (m : Module) → tree.Answers (Ok m) (expanded x) → IsTree x (module_of m)
tree_is x m said = record { whole = said.0; well_formed = said.1; spelled = said.2; within = said.3 }

module _ (all : List (List Lexeme)) (old rest : List (Vec Token)) (x : Vec Token) (next_is : old ≡ x ∷ rest) (mods : List Module) where
  module _ (new : List Module) (m : Module) (new_is : new ≡ mods ++ m ∷ []) (said : tree.Answers (Ok m) (expanded (lexemes x.items))) where
    pub parsed_more : ParsedSoFar all old mods → ParsedSoFar all rest new
    parsed_more so_far behind are =
        subst (λ ms. AreTrees all (ms ++ behind)) (sym (ap (λ ms. map module_of ms) new_is ∙ map-append module_of mods (m ∷ [])))
        (subst (λ ms. AreTrees all ms) (sym (append_assoc (map module_of mods) (module_of m ∷ []) behind))
        (so_far (module_of m ∷ behind) (subst (λ zs. AreTrees (tokens_of_all zs) (module_of m ∷ behind)) (sym next_is) (tree_is (lexemes x.items) m said, are))))

    pub unparsed_more : NoneUnparsed all old mods → NoneUnparsed all rest new
    unparsed_more so_far f later =
        so_far f (subst (λ zs. IsFirstUnparsed (length mods) (tokens_of_all zs) f) (sym next_is)
        (inr (module_of m, tree_is (lexemes x.items) m said, subst (λ n. IsFirstUnparsed n (tokens_of_all rest) f) (ap (λ ms. length ms) new_is ∙ length-append mods (m ∷ [])) later)))

  pub unparsed_here : (count : ℕ) (f answer : Fault) → count ≡ length mods → tree.Answers (Err f) (expanded (lexemes x.items)) → answer ≡ in_module count f → NoneUnparsed all old mods → ParsesAll all (Err answer)
  unparsed_here count Memory answer counted said moved so_far = subst (λ z. ParsesAll all (Err z)) (sym moved) tt
  unparsed_here count (At which line number) answer counted said moved so_far =
      subst (λ z. ParsesAll all (Err z)) (sym (moved ∙ ap (λ n. At (module_number n) line number) counted))
      (so_far (At (module_number (length mods)) line number) (subst (λ zs. IsFirstUnparsed (length mods) (tokens_of_all zs) (At (module_number (length mods)) line number)) (sym next_is)
      (inl (line, number, refl, said.1))))

pub parsed_all : (all : List (List Lexeme)) (old : List (Vec Token)) (mods : List Module) → old ≡ [] → ParsedSoFar all old mods → AreTrees all (map module_of mods)
parsed_all all old mods none so_far = subst (λ ms. AreTrees all ms) (append-nil (map module_of mods)) (so_far [] (subst (λ zs. AreTrees (tokens_of_all zs) []) (sym none) tt))

-- ---- the answer

pub modules_are : (texts : List (List ℕ)) (scanned : List (Vec Token)) (mods lent : List Module) → scan_faults 0 texts ≡ [] → tokens_of_all scanned ≡ map tokens_of texts → AreTrees (tokens_of_all scanned) (map module_of mods) → lent ≡ mods → AreModules texts (map module_of lent)
modules_are texts scanned mods lent none tokens parsed same = record {
  scanned = none;
  parsed = subst (λ ms. AreTrees (map tokens_of texts) (map module_of ms)) (sym same) (subst (λ ts. AreTrees ts (map module_of mods)) tokens parsed);
}

-- what one phase refuses
pub unresolved_refused : (texts : List (List ℕ)) (trees : List ModuleT) → AreModules texts trees → (f : Fault) → IsLeastOf f (faults_of trees) (whole_faults_of trees) → RefusesTexts texts f
unresolved_refused texts trees are Memory said = tt
unresolved_refused texts trees are (At which line number) said = unresolved trees are said

-- what is refused in the texts is refused for every ROM
pub faulty_refused : (texts : List (List ℕ)) (size : RomSize) (f : Fault) → RefusesTexts texts f → Refuses texts size f
faulty_refused texts size Memory said = tt
faulty_refused texts size (At which line number) said = faulty said

pub faulty_refused_exactly : (texts : List (List ℕ)) (size : RomSize) (f : Fault) → RefusesTexts texts f → RefusesExactly texts size f
faulty_refused_exactly texts size Memory said = tt
faulty_refused_exactly texts size (At which line number) said = in_texts said

module _ (texts : List (List ℕ)) (names : Names) where
  pub untyped_refused : AreDeclared texts names → (f : Fault) → typing.IsRefusal f names → RefusesTexts texts f
  untyped_refused are Memory said = tt
  untyped_refused are (At which line number) said = untyped names are said

  are_typed : (p : typed.Program) → AreDeclared texts names → types.AreTyped p names → AreTyped texts names
  are_typed p are said = record { modules = are; no_fault = said.no_fault; lets_nothing_in = said.lets_nothing_in; none_misused = said.none_misused; no_recursion = said.no_recursion }

  pub program_typed : (p : typed.Program) → AreDeclared texts names → types.AreTyped p names → AreTyped texts p.names
  program_typed p are said = subst (λ n. AreTyped texts n) (sym said.kept) (are_typed p are said)

module _ (texts : List (List ℕ)) (size : RomSize) (names : Names) where
  module _ (are : AreTyped texts names) where
    pub compile_refused : (f : Fault) → HasNoRoom names size f → Refuses texts size f
    compile_refused Memory refused = tt
    compile_refused (At which line number) (inl deep) = too_deep names are deep.1 deep.0
    compile_refused (At which line number) (inr large) = too_large names are large.1 large.0

    pub compile_refused_exactly : (f : Fault) → LacksRoom names size f → RefusesExactly texts size f
    compile_refused_exactly Memory lacks = tt
    compile_refused_exactly (At which line number) lacks = for_room names are lacks

    pub compile_fits : (image : Image) → Fits names size image → FitsTexts texts size image
    compile_fits image fits = record { names = names; typed = are; fits = fits }

    pub compile_built : (image : Image) → IsImage names size image → (built : IsBuilt texts size image) × (built.names ≡ names)
    compile_built image is = (
      record {
        names = names;
        typed = are;
        means = is.means;
        main_at = is.main_at;
        starts = is.starts;
        placement = is.placement;
        size_is = is.long;
        start = is.start;
        stack = is.stack;
      },
      refl,
    )
