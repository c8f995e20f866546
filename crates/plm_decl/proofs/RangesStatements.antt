-- Resolved statements and procedures are within the final counts.
use Rattle.std.proofs.Common.{◌≡◌, ℕ, ◌≤◌, List, [], ◌∷◌, ◌++◌, length, Bool, true, false, ◌&&◌, ◌||◌, not, cond, Option, Some, None, nat_lt, is_some, subst, refl, sym, ap, ◌∙◌}
use Rattle.std.proofs.lemmas.Bool.{and_parts}
use Rattle.std.specs.Prelude.{slice_get}
use Rattle.std.specs.List.{list_all}
use Rattle.std.proofs.lemmas.List.{length-set}
use Rattle.word86.specs.declared.number.Number.TheVariants.{E301, E302}
use Rattle.plm_token.specs.Names.{normal}
use Rattle.plm_syntax.specs.declared.tree.Position.{Position}
use Rattle.plm_syntax.specs.declared.tree.Linkage.{Linkage}
use Rattle.plm_syntax.specs.Terminal.{NameT}
use Rattle.plm_syntax.specs.Tree.{ElementT, ReferenceT, ExpressionT, StatementT, Labelled, BasicT, EmptyS, AssignS, CallS, ReturnS, ReturnValueS, EnableS, DisableS, HaltS, IfS, IfElseS, DoS, WhileS, CaseS, IterateS, StatementsT, BlockT, BlockOf, ItemsT, no_items, items, ItemT, DeclareI, ProcedureI}
use Rattle.plm_syntax.specs.Tree as tree
use Rattle.plm_decl.specs.declared.names.Variable.{Variable}
use Rattle.plm_decl.specs.declared.names.Item.{Item}
use Rattle.plm_decl.specs.declared.names.Item.TheVariants as item
use Rattle.plm_decl.specs.Scope.{Entries, Frame, frame, found_here, found_in, path_in, is_external}
use Rattle.plm_decl.specs.Spelling.{name_after}
use Rattle.plm_decl.specs.Resolver.{Known, note_whole}
use Rattle.plm_decl.specs.Names.{ProcedureR, is_external_linkage}
use Rattle.plm_decl.specs.Lists.{element_list, name_list, reference_list}
use Rattle.plm_decl.specs.Uses.{used}
use Rattle.plm_decl.specs.Resolved.{ReferencesR, no_references, references, ReferenceR', StatementR, StatementsR, no_statements, statements, and_reference, and_statement}
use Rattle.plm_decl.specs.Expressions.{expression, reference}
use Rattle.plm_decl.specs.Linkage.{linked}
use Rattle.plm_decl.specs.Elements.{with_variable}
use Rattle.plm_decl.specs.Fill.{element}
use Rattle.plm_decl.specs.Statements.{targets_from, step_for, block_path, with_elements, statement, basic, statements as read_statements, block, with_items, with_item}
use Rattle.plm_syntax.specs.Spelling.{last_name}
use Rattle.plm_decl.specs.Procedures.{linkage_of, is_handled, note_handler, header, with_header, declared_procedure, in_place_of, parameter_is, with_parameter, parameter_for, parameters_from, completed_at}
use Rattle.plm_decl.specs.Ranges.{Counts, binding_within, expression_within, reference_within, references_within, step_within, statement_within, statements_within, variable_within, procedure_within}
use Rattle.plm_decl.specs.Inner.Ranges.{Within, item_within}
use Rattle.plm_decl.specs.Inner.Regions.{lies_in}
use Rattle.plm_decl.proofs.Kept.{Ends, Kept, Declares, declares_none, declares_then, kept, kept_then, both, frames_within, note_kept, note_unless_kept, all_pushed, all_set, maybe, got, pushed_below, pushed_most, unless_kept}
use Rattle.plm_decl.proofs.RangesNames.{used_kept, used_within, here_within, with_name_within}
use Rattle.plm_decl.proofs.RangesExpressions.{expression_kept, expression_is_within, reference_kept, reference_is_within}
use Rattle.plm_decl.proofs.RangesElements.{linked_kept, declared_kept}
use Rattle.plm_decl.proofs.RangesFills.{element_declares}

-- ---- targets and steps

and_reference_within : (c : Counts) (xs : ReferencesR) (x : ReferenceR') → references_within c xs ≡ true → reference_within c x ≡ true → references_within c (and_reference xs x) ≡ true
and_reference_within c no_references x h g = both g refl
and_reference_within c (references y xs) x h g =
    both (and_parts (reference_within c y) (references_within c xs) h).0 (and_reference_within c xs x (and_parts (reference_within c y) (references_within c xs) h).1 g)

and_statement_within : (c : Counts) (ss : StatementsR) (s : StatementR) → statements_within c ss ≡ true → statement_within c s ≡ true → statements_within c (and_statement ss s) ≡ true
and_statement_within c no_statements s h g = both g refl
and_statement_within c (statements t ss) s h g =
    both (and_parts (statement_within c t) (statements_within c ss) h).0 (and_statement_within c ss s (and_parts (statement_within c t) (statements_within c ss) h).1 g)

targets_kept : (c : Counts) (frames : List Frame) (before : ReferencesR) (xs : List ReferenceT) (k : Known) → Kept c k (targets_from frames before xs k).1
targets_kept c frames before [] k = kept c k
targets_kept c frames before (x ∷ xs) k = let r = reference frames x k in kept_then (reference_kept c frames x k) (targets_kept c frames (and_reference before r.0) xs r.1)

targets_within : (c : Counts) (frames : List Frame) (before : ReferencesR) (xs : List ReferenceT) (k : Known)
    → frames_within c frames ≡ true → references_within c before ≡ true → Ends c (targets_from frames before xs k).1 → references_within c (targets_from frames before xs k).0 ≡ true
targets_within c frames before [] k h g e = g
targets_within c frames before (x ∷ xs) k h g e =
    let r = reference frames x k in
    let d = (targets_kept c frames (and_reference before r.0) xs r.1).ends e in
    targets_within c frames (and_reference before r.0) xs r.1 h (and_reference_within c before r.0 g (reference_is_within c frames x k h d)) e

step_kept : (c : Counts) (frames : List Frame) (s : Option ExpressionT) (k : Known) → Kept c k (step_for frames s k).1
step_kept c frames None k = kept c k
step_kept c frames (Some e) k = expression_kept c frames e k

step_is_within : (c : Counts) (frames : List Frame) (s : Option ExpressionT) (k : Known) → frames_within c frames ≡ true → Ends c (step_for frames s k).1 → step_within c (step_for frames s k).0 ≡ true
step_is_within c frames None k h e = refl
step_is_within c frames (Some x) k h e = expression_is_within c frames x k h e

path_kept : (c : Counts) (frames : List Frame) (n : Option NameT) (k : Known) → Kept c k (block_path frames n k).1
path_kept c frames (Some n) k = kept c k
path_kept c frames None k = record { ends = λ e. e; within = λ e w. w }

elements_declare : (c : Counts) (es : List ElementT) (frames : List Frame) (k : Known) → Declares c frames k (with_elements es frames k).0 (with_elements es frames k).1
elements_declare c [] frames k = declares_none c frames k
elements_declare c (x ∷ es) frames k = let r = element x frames k in declares_then (element_declares c x frames k) (elements_declare c es r.0 r.1)

-- ---- procedures

handler_kept : (c : Counts) (p : Position) (l : Linkage) (n : Option ℕ) (k : Known) → Kept c k (note_handler p l n k)
handler_kept c p l None k = kept c k
handler_kept c p l (Some n) k = unless_kept c (is_external_linkage l || not (is_handled n k)) k _ (record { ends = λ e. e; within = λ e w. w })

pushed_kept : (c : Counts) (p : ProcedureR) (k : Known) → (Ends c (record k { procedures = k.procedures ++ p ∷ [] }) → procedure_within c p ≡ true) → Kept c k (record k { procedures = k.procedures ++ p ∷ [] })
pushed_kept c p k h = record {
  ends = λ e. (e.0, e.1, e.2, pushed_most k.procedures p c.procedures e.3, e.4);
  within = λ e w. (w.0, w.1, all_pushed (procedure_within c) k.procedures p w.2 (h e), w.3, w.4, w.5, w.6, w.7);
}

handler_numbers : (p : Position) (l : Linkage) (n : Option ℕ) (k : Known) → (note_handler p l n k).procedures ≡ k.procedures
handler_numbers p l None k = refl
handler_numbers p l (Some n) k = same (is_external_linkage l || not (is_handled n k)) _
  where
    same : (b : Bool) (q : _) → (cond b k (note_whole q k)).procedures ≡ k.procedures
    same true q = refl
    same false q = refl

-- a procedure whose parameters and body are to come
declared_procedure_declares : (c : Counts) (frames : List Frame) (n : NameT) (p : ProcedureR) (k : Known)
    → p.entry ≡ length k.procedures → (nat_lt p.entry c.procedures ≡ true → procedure_within c p ≡ true)
    → Declares c frames k (declared_procedure frames n p k).0 (declared_procedure frames n p k).1
declared_procedure_declares c frames n p k number holds =
    let q = note_handler p.place p.linkage p.interrupt k in
    let made = with_header p k in
    let i = item.Procedure p.entry in
    let name = normal n.text in
    let below : Ends c made → nat_lt p.entry c.procedures ≡ true =
    λ e. ap (λ m. nat_lt m c.procedures) (number ∙ sym (ap length (handler_numbers p.place p.linkage p.interrupt k))) ∙ pushed_below q.procedures p c.procedures e.3 in
    let first = kept_then (handler_kept c p.place p.linkage p.interrupt k) (pushed_kept c p q (λ e. holds (below e))) in
    let last = kept_then (linked_kept c frames p.linkage name i made below) (declared_kept c n i frames (linked frames p.linkage name i made)) in
    record {
      ends = λ e. first.ends (last.ends e);
      within = λ h e w. let d = last.ends e in (last.within e (first.within d w), with_name_within c name i frames h (below d));
    }

-- ---- parameters

in_place_kept : (c : Counts) (v : Variable) (k : Known) → variable_within c v ≡ true → lies_in k.objects v ≡ true → Kept c k (with_variable v k)
in_place_kept c v k h l = record {
  ends = λ e. (pushed_most k.variables v c.variables e.0, e.1, e.2, e.3, e.4);
  within = λ e w. (all_pushed (variable_within c) k.variables v w.0 h, w.1, w.2, w.3, w.4, w.5, w.6, all_pushed (lies_in k.objects) k.variables v w.7 l);
}

parameter_is_kept : (c : Counts) (i : Option Item) (p : Position) (vs : List ℕ) (k : Known) → Kept c k (parameter_is i p vs k).1
parameter_is_kept c (Some (item.Variable v)) p vs k = kept c k
parameter_is_kept c (Some (item.Procedure q)) p vs k = in_place_kept c (in_place_of (slice_get k.procedures q) p k) k refl refl
parameter_is_kept c None p vs k = note_kept c E301 p k

parameter_is_within : (c : Counts) (i : Option Item) (p : Position) (vs : List ℕ) (k : Known) → maybe (item_within c) i ≡ true
    → list_all (λ v. nat_lt v c.variables) vs ≡ true → Ends c (parameter_is i p vs k).1 → list_all (λ v. nat_lt v c.variables) (parameter_is i p vs k).0 ≡ true
parameter_is_within c (Some (item.Variable v)) p vs k h g e = all_pushed (λ v. nat_lt v c.variables) vs v g h
parameter_is_within c (Some (item.Procedure q)) p vs k h g e =
    all_pushed (λ v. nat_lt v c.variables) vs (length k.variables) g (pushed_below k.variables (in_place_of (slice_get k.procedures q) p k) c.variables e.0)
parameter_is_within c None p vs k h g e = g

parameter_kept : (c : Counts) (frames : List Frame) (listed : Entries) (vs : List ℕ) (n : NameT) (k : Known) → Kept c k (parameter_for frames listed vs n k).1
parameter_kept c frames listed vs n k =
    kept_then (note_unless_kept c (not (is_some (found_in (normal n.text) listed))) E302 n.place k) (parameter_is_kept c (found_here (normal n.text) frames) n.place vs _)

parameters_kept : (c : Counts) (frames : List Frame) (listed : Entries) (vs : List ℕ) (ns : List NameT) (k : Known) → Kept c k (parameters_from frames listed vs ns k).1
parameters_kept c frames listed vs [] k = kept c k
parameters_kept c frames listed vs (n ∷ ns) k =
    let r = parameter_for frames listed vs n k in kept_then (parameter_kept c frames listed vs n k) (parameters_kept c frames (with_parameter n listed) r.0 ns r.1)

parameters_within : (c : Counts) (frames : List Frame) (listed : Entries) (vs : List ℕ) (ns : List NameT) (k : Known) → frames_within c frames ≡ true
    → list_all (λ v. nat_lt v c.variables) vs ≡ true → Ends c (parameters_from frames listed vs ns k).1
    → list_all (λ v. nat_lt v c.variables) (parameters_from frames listed vs ns k).0 ≡ true
parameters_within c frames listed vs [] k h g e = g
parameters_within c frames listed vs (n ∷ ns) k h g e =
    let r = parameter_for frames listed vs n k in
    let before = (parameters_kept c frames (with_parameter n listed) r.0 ns r.1).ends e in
    parameters_within c frames (with_parameter n listed) r.0 ns r.1 h
    (parameter_is_within c (found_here (normal n.text) frames) n.place vs _ (here_within c (normal n.text) frames h) g before) e

completed_at_ends : (c : Counts) (number : ℕ) (ps : List ℕ) (body : StatementsR) (p : Option ProcedureR) (k : Known) → Ends c (completed_at number ps body p k) → Ends c k
completed_at_ends c number ps body None k e = e
completed_at_ends c number ps body (Some p) k e = (e.0, e.1, e.2, subst (λ n. n ≤ c.procedures) (length-set k.procedures number (record p { parameters = ps; body = body })) e.3, e.4)

completed_at_within : (c : Counts) (number : ℕ) (ps : List ℕ) (body : StatementsR) (p : Option ProcedureR) (k : Known)
    → list_all (λ v. nat_lt v c.variables) ps ≡ true → statements_within c body ≡ true → maybe (procedure_within c) p ≡ true → Within c k → Within c (completed_at number ps body p k)
completed_at_within c number ps body None k h g m w = w
completed_at_within c number ps body (Some p) k h g m w =
    let entry = (and_parts (nat_lt p.entry c.procedures) (statements_within c p.body) (and_parts (list_all (λ v. nat_lt v c.variables) p.parameters) (nat_lt p.entry c.procedures && statements_within c p.body) m).1).0 in
    (w.0, w.1, all_set (procedure_within c) k.procedures number (record p { parameters = ps; body = body }) w.2 (both h (both entry g)), w.3, w.4, w.5, w.6, w.7)

-- ---- statements

-- what is answered passes this test
pub record Gives (c : Counts) (frames : List Frame) (k : Known) (p : Bool) (q : Known) : Type 0 where
  pub ends : Ends c q → Ends c k
  pub within : frames_within c frames ≡ true → Ends c q → Within c k → Within c q × (p ≡ true)

gives_none : (c : Counts) (frames : List Frame) (k : Known) → Gives c frames k true k
gives_none c frames k = record { ends = λ e. e; within = λ h e w. (w, refl) }

gives_then : {c : Counts} {frames : List Frame} {k : Known} {p : Bool} {q : Known} {s : Bool} {r : Known} → Gives c frames k p q → Gives c frames q s r → Gives c frames k (p && s) r
gives_then a b = record {
  ends = λ e. a.ends (b.ends e);
  within = λ h e w. let one = a.within h (b.ends e) w in let two = b.within h e one.0 in (two.0, both one.1 two.1);
}

expression_gives : (c : Counts) (frames : List Frame) (e : ExpressionT) (k : Known) → Gives c frames k (expression_within c (expression frames e k).0) (expression frames e k).1
expression_gives c frames x k =
    let here = expression_kept c frames x k in
    record { ends = λ e. here.ends e; within = λ h e w. (here.within e w, expression_is_within c frames x k h e) }

reference_gives : (c : Counts) (frames : List Frame) (x : ReferenceT) (k : Known) → Gives c frames k (reference_within c (reference frames x k).0) (reference frames x k).1
reference_gives c frames x k =
    let here = reference_kept c frames x k in
    record { ends = λ e. here.ends e; within = λ h e w. (here.within e w, reference_is_within c frames x k h e) }

targets_give : (c : Counts) (frames : List Frame) (xs : List ReferenceT) (k : Known) → Gives c frames k (references_within c (targets_from frames no_references xs k).0) (targets_from frames no_references xs k).1
targets_give c frames xs k =
    let here = targets_kept c frames no_references xs k in
    record { ends = λ e. here.ends e; within = λ h e w. (here.within e w, targets_within c frames no_references xs k h refl e) }

step_gives : (c : Counts) (frames : List Frame) (s : Option ExpressionT) (k : Known) → Gives c frames k (step_within c (step_for frames s k).0) (step_for frames s k).1
step_gives c frames s k =
    let here = step_kept c frames s k in
    record { ends = λ e. here.ends e; within = λ h e w. (here.within e w, step_is_within c frames s k h e) }

used_gives : (c : Counts) (frames : List Frame) (n : NameT) (k : Known) → Gives c frames k (binding_within c (used frames n k).0) (used frames n k).1
used_gives c frames n k =
    let here = used_kept c frames n k in
    record { ends = λ e. here.ends e; within = λ h e w. (here.within e w, used_within c frames n k h e) }

-- of a block
pub record Blocks (c : Counts) (frames : List Frame) (k : Known) (p : Bool) (after : List Frame) (q : Known) : Type 0 where
  pub ends : Ends c q → Ends c k
  pub within : frames_within c frames ≡ true → Ends c q → Within c k → Within c q × (frames_within c after ≡ true) × (p ≡ true)

mutual
  statement_gives : (c : Counts) (frames : List Frame) (s : StatementT) (k : Known) → Gives c frames k (statement_within c (statement frames s k).0) (statement frames s k).1
  statement_gives c frames (Labelled ls b) k = basic_gives c frames (last_name ls) b k

  basic_gives : (c : Counts) (frames : List Frame) (label : Option NameT) (b : BasicT) (k : Known) → Gives c frames k (statement_within c (basic frames label b k).0) (basic frames label b k).1
  basic_gives c frames label (EmptyS p) k = gives_none c frames k
  basic_gives c frames label (AssignS xs e) k = gives_then (targets_give c frames (reference_list xs) k) (expression_gives c frames e (targets_from frames no_references (reference_list xs) k).1)
  basic_gives c frames label (CallS p x) k = reference_gives c frames x k
  basic_gives c frames label (ReturnS p) k = gives_none c frames k
  basic_gives c frames label (ReturnValueS p e) k = expression_gives c frames e k
  basic_gives c frames label (EnableS p) k = gives_none c frames k
  basic_gives c frames label (DisableS p) k = gives_none c frames k
  basic_gives c frames label (HaltS p) k = gives_none c frames k
  basic_gives c frames label (IfS p e s) k = let r = expression frames e k in gives_then (expression_gives c frames e k) (statement_gives c frames s r.1)
  basic_gives c frames label (IfElseS p e s t) k =
      let r = expression frames e k in let q = statement frames s r.1 in
      gives_then (expression_gives c frames e k) (gives_then (statement_gives c frames s r.1) (statement_gives c frames t q.1))
  basic_gives c frames label (DoS p b n) k =
      let r = block_path frames label k in
      let here = path_kept c frames label k in
      let body = block_gives c (frame r.0 (is_external frames) ∷ frames) b r.1 in
      record {
        ends = λ e. here.ends (body.ends e);
        within = λ h e w. let done = body.within h e (here.within (body.ends e) w) in (done.0, done.2);
      }
  basic_gives c frames label (WhileS p e ss n) k = let r = expression frames e k in gives_then (expression_gives c frames e k) (statements_give c frames ss r.1)
  basic_gives c frames label (CaseS p e ss n) k = let r = expression frames e k in gives_then (expression_gives c frames e k) (statements_give c frames ss r.1)
  basic_gives c frames label (IterateS p i a b s ss n) k =
      let m = used frames i k in let r = expression frames a m.1 in let q = expression frames b r.1 in let u = step_for frames s q.1 in
      gives_then (used_gives c frames i k)
      (gives_then (expression_gives c frames a m.1) (gives_then (expression_gives c frames b r.1) (gives_then (step_gives c frames s q.1) (statements_give c frames ss u.1))))

  statements_give : (c : Counts) (frames : List Frame) (ss : StatementsT) (k : Known) → Gives c frames k (statements_within c (read_statements frames ss k).0) (read_statements frames ss k).1
  statements_give c frames tree.no_statements k = gives_none c frames k
  statements_give c frames (tree.statements ss s) k =
      let r = read_statements frames ss k in
      let q = statement frames s r.1 in
      let before = statements_give c frames ss k in
      let here = statement_gives c frames s r.1 in
      record {
        ends = λ e. before.ends (here.ends e);
        within = λ h e w.
            let one = before.within h (here.ends e) w in
            let two = here.within h e one.0 in
            (two.0, and_statement_within c r.0 q.0 one.1 two.1);
      }

  pub block_gives : (c : Counts) (frames : List Frame) (b : BlockT) (k : Known) → Blocks c frames k (statements_within c (block frames b k).0) (block frames b k).1 (block frames b k).2
  block_gives c frames (BlockOf is ss) k =
      let r = with_items frames is k in
      let before = items_declare c frames is k in
      let here = statements_give c r.0 ss r.1 in
      record {
        ends = λ e. before.ends (here.ends e);
        within = λ h e w.
            let one = before.within h (here.ends e) w in
            let two = here.within one.1 e one.0 in
            (two.0, one.1, two.1);
      }

  items_declare : (c : Counts) (frames : List Frame) (is : ItemsT) (k : Known) → Declares c frames k (with_items frames is k).0 (with_items frames is k).1
  items_declare c frames no_items k = declares_none c frames k
  items_declare c frames (items is i) k = let r = with_items frames is k in declares_then (items_declare c frames is k) (item_declares c r.0 i r.1)

  item_declares : (c : Counts) (frames : List Frame) (i : ItemT) (k : Known) → Declares c frames k (with_item frames i k).0 (with_item frames i k).1
  item_declares c frames (DeclareI p es) k = elements_declare c (element_list es) frames k
  item_declares c frames (ProcedureI n ps s i l b e) k =
      let p = header (name_after (path_in frames) (normal n.text)) n (name_list ps) s i (linkage_of l) b k in
      let r = declared_procedure frames n p k in
      let inside = frame p.path (is_external_linkage p.linkage || is_external frames) in
      let q = block (inside ∷ r.0) b r.1 in
      let u = parameters_from q.1 [] [] (name_list ps) q.2 in
      let first = declared_procedure_declares c frames n p k refl (λ h. both h refl) in
      let body = block_gives c (inside ∷ r.0) b r.1 in
      let listed = parameters_kept c q.1 [] [] (name_list ps) q.2 in
      record {
        ends = λ d. first.ends (body.ends (listed.ends (completed_at_ends c p.entry u.0 q.0 (slice_get u.1.procedures p.entry) u.1 d)));
        within = λ h d w.
            let d3 = completed_at_ends c p.entry u.0 q.0 (slice_get u.1.procedures p.entry) u.1 d in
            let d2 = listed.ends d3 in
            let d1 = body.ends d2 in
            let one = first.within h d1 w in
            let two = body.within one.1 d2 one.0 in
            let three = listed.within d3 two.0 in (
              completed_at_within c p.entry u.0 q.0 (slice_get u.1.procedures p.entry) u.1
                  (parameters_within c q.1 [] [] (name_list ps) q.2 two.1 refl d3) two.2 (got (procedure_within c) u.1.procedures p.entry three.2) three,
              one.1,
            );
      }
