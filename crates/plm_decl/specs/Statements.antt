-- Statements, procedures and blocks with their names resolved, read in a scope where this much is known.
use Rattle.std.specs.Prelude.{ℕ, ◌+◌, List, [], ◌∷◌, ◌||◌, Option, Some, None}
use Rattle.plm_token.specs.Names.{normal}
use Rattle.plm_syntax.specs.Terminal.{NameT}
use Rattle.plm_syntax.specs.Tree.{ExpressionT, ReferenceT, BasicT, EmptyS, AssignS, CallS, ReturnS, ReturnValueS, EnableS, DisableS, HaltS, IfS, IfElseS, DoS, WhileS, CaseS, IterateS, StatementT, Labelled, StatementsT, BlockT, BlockOf, ItemsT, no_items, items, ItemT, DeclareI, ProcedureI, ElementT}
use Rattle.plm_syntax.specs.Tree as tree
use Rattle.plm_decl.specs.Layout.{counted}
use Rattle.plm_decl.specs.Scope.{Frame, frame, is_external, path_in}
use Rattle.plm_decl.specs.Spelling.{name_after, block_after}
use Rattle.plm_decl.specs.Resolver.{Known}
use Rattle.plm_decl.specs.Uses.{used}
use Rattle.plm_decl.specs.Lists.{name_list, element_list, reference_list}
use Rattle.plm_decl.specs.Resolved.{ExpressionR, ReferencesR, no_references, StatementR, EmptyR, AssignR, CallR, ReturnR, ReturnValueR, EnableR, DisableR, HaltR, IfR, IfElseR, DoR, WhileR, CaseR, IterateR, StatementsR, no_statements, and_statement, and_reference}
use Rattle.plm_decl.specs.Expressions.{expression, reference}
use Rattle.plm_decl.specs.Fill.{element}
use Rattle.plm_decl.specs.Names.{is_external_linkage}
use Rattle.plm_decl.specs.Procedures.{linkage_of, header, declared_procedure, parameters_from, completed}
use Rattle.plm_syntax.specs.Spelling.{last_name}

abbrev pub targets_from : List Frame → ReferencesR → List ReferenceT → Known → ReferencesR × Known
targets_from frames before [] k = (before, k)
targets_from frames before (x ∷ xs) k = let r = reference frames x k in targets_from frames (and_reference before r.0) xs r.1

abbrev pub step_for : List Frame → Option ExpressionT → Known → Option ExpressionR × Known
step_for frames None k = (None, k)
step_for frames (Some e) k = let r = expression frames e k in (Some r.0, r.1)

-- a DO block has the name of its last label; one without a label is numbered in its module
abbrev pub block_path : List Frame → Option NameT → Known → List ℕ × Known
block_path frames (Some n) k = (name_after (path_in frames) (normal n.text), k)
block_path frames None k = (block_after (path_in frames) (counted (k.blocks + 1)), record k { blocks = counted (k.blocks + 1) })

abbrev pub with_elements : List ElementT → List Frame → Known → List Frame × Known
with_elements [] frames k = (frames, k)
with_elements (e ∷ es) frames k = let r = element e frames k in with_elements es r.0 r.1

-- ---- statements

abbrev mutual
  pub statement : List Frame → StatementT → Known → StatementR × Known
  statement frames (Labelled ls b) k = basic frames (last_name ls) b k

  pub basic : List Frame → Option NameT → BasicT → Known → StatementR × Known
  basic frames label (EmptyS p) k = (EmptyR p, k)
  basic frames label (AssignS xs e) k =
      let t = targets_from frames no_references (reference_list xs) k in let r = expression frames e t.1 in (AssignR t.0 r.0, r.1)
  basic frames label (CallS p x) k = let r = reference frames x k in (CallR p r.0, r.1)
  basic frames label (ReturnS p) k = (ReturnR p, k)
  basic frames label (ReturnValueS p e) k = let r = expression frames e k in (ReturnValueR p r.0, r.1)
  basic frames label (EnableS p) k = (EnableR p, k)
  basic frames label (DisableS p) k = (DisableR p, k)
  basic frames label (HaltS p) k = (HaltR p, k)
  basic frames label (IfS p e s) k = let r = expression frames e k in let q = statement frames s r.1 in (IfR p r.0 q.0, q.1)
  basic frames label (IfElseS p e s t) k =
      let r = expression frames e k in let q = statement frames s r.1 in let u = statement frames t q.1 in (IfElseR p r.0 q.0 u.0, u.1)
  basic frames label (DoS p b n) k =
      let r = block_path frames label k in let q = block (frame r.0 (is_external frames) ∷ frames) b r.1 in (DoR p q.0, q.2)
  basic frames label (WhileS p e ss n) k = let r = expression frames e k in let q = statements frames ss r.1 in (WhileR p r.0 q.0, q.1)
  basic frames label (CaseS p e ss n) k = let r = expression frames e k in let q = statements frames ss r.1 in (CaseR p r.0 q.0, q.1)
  basic frames label (IterateS p i a b s ss n) k =
      let m = used frames i k in let r = expression frames a m.1 in let q = expression frames b r.1 in let u = step_for frames s q.1 in
      let w = statements frames ss u.1 in (IterateR p i.place m.0 r.0 q.0 u.0 w.0, w.1)

  pub statements : List Frame → StatementsT → Known → StatementsR × Known
  statements frames tree.no_statements k = (no_statements, k)
  statements frames (tree.statements ss s) k = let r = statements frames ss k in let q = statement frames s r.1 in (and_statement r.0 q.0, q.1)

  -- a block's statements, and the names in scope at its end
  pub block : List Frame → BlockT → Known → StatementsR × List Frame × Known
  block frames (BlockOf is ss) k = let r = with_items frames is k in let q = statements r.0 ss r.1 in (q.0, r.0, q.1)

  pub with_items : List Frame → ItemsT → Known → List Frame × Known
  with_items frames no_items k = (frames, k)
  with_items frames (items is i) k = let r = with_items frames is k in with_item r.0 i r.1

  pub with_item : List Frame → ItemT → Known → List Frame × Known
  with_item frames (DeclareI p es) k = with_elements (element_list es) frames k
  with_item frames (ProcedureI n ps s i l b e) k =
      let p = header (name_after (path_in frames) (normal n.text)) n (name_list ps) s i (linkage_of l) b k in
      let r = declared_procedure frames n p k in
      let inside = frame p.path (is_external_linkage p.linkage || is_external frames) in
      let q = block (inside ∷ r.0) b r.1 in
      let u = parameters_from q.1 [] [] (name_list ps) q.2 in
      (r.0, completed p.entry u.0 q.0 u.1)
