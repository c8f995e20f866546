-- What stands first in an EXTERNAL procedure besides the declarations of its parameters.
use Rattle.std.specs.Prelude.{List, [], ◌∷◌, Bool, cond, Option, Some, None}
use Rattle.std.specs.List.{list_any}
use Rattle.std.specs.Option.{option_or}
use Rattle.plm_token.specs.Names.{names_equal}
use Rattle.plm_syntax.specs.declared.tree.Position.{Position}
use Rattle.plm_syntax.specs.declared.tree.Linkage.{Linkage}
use Rattle.plm_syntax.specs.Terminal.{NameT}
use Rattle.plm_syntax.specs.Tree.{VariableT, VariableOf, ElementT, LiteralElement, VariableElement, ItemT, DeclareI, ProcedureI, ReferenceT, ReferenceOf, BasicT, EmptyS, AssignS, CallS, ReturnS, ReturnValueS, EnableS, DisableS, HaltS, IfS, IfElseS, DoS, WhileS, CaseS, IterateS, StatementT, Labelled, BlockT, BlockOf}
use Rattle.plm_decl.specs.Lists.{element_list, reference_list, item_list, statement_list}
use Rattle.plm_decl.specs.Elements.{declared_list}
use Rattle.plm_decl.specs.Names.{is_external_linkage}

abbrev pub is_parameter : NameT → List NameT → Bool
is_parameter n ps = list_any (λ p. names_equal p.text n.text) ps

abbrev pub stray_variable : List NameT → List VariableT → Option Position
stray_variable ps [] = None
stray_variable ps (VariableOf n base ∷ vs) = cond (is_parameter n ps) (stray_variable ps vs) (Some n.place)

abbrev pub stray_name : List NameT → ElementT → Option Position
stray_name ps (LiteralElement n s) = Some n.place
stray_name ps (VariableElement d n t a) = stray_variable ps (declared_list d)

abbrev pub stray_element : List NameT → List ElementT → Option Position
stray_element ps [] = None
stray_element ps (e ∷ es) = option_or (stray_name ps e) (stray_element ps es)

abbrev pub stray_item : List NameT → ItemT → Option Position
stray_item ps (DeclareI p es) = stray_element ps (element_list es)
stray_item ps (ProcedureI n qs s i l b e) = Some n.place

abbrev pub stray_items : List NameT → List ItemT → Option Position
stray_items ps [] = None
stray_items ps (i ∷ is) = option_or (stray_item ps i) (stray_items ps is)

abbrev pub place_of_reference : ReferenceT → Position
place_of_reference (ReferenceOf n es s) = n.place

abbrev pub first_target : List ReferenceT → Option Position
first_target [] = None
first_target (x ∷ xs) = Some (place_of_reference x)

-- where a statement begins after its labels
abbrev pub place_of_basic : BasicT → Option Position
place_of_basic (EmptyS p) = Some p
place_of_basic (AssignS xs e) = first_target (reference_list xs)
place_of_basic (CallS p x) = Some p
place_of_basic (ReturnS p) = Some p
place_of_basic (ReturnValueS p e) = Some p
place_of_basic (EnableS p) = Some p
place_of_basic (DisableS p) = Some p
place_of_basic (HaltS p) = Some p
place_of_basic (IfS p e s) = Some p
place_of_basic (IfElseS p e s t) = Some p
place_of_basic (DoS p b n) = Some p
place_of_basic (WhileS p e ss n) = Some p
place_of_basic (CaseS p e ss n) = Some p
place_of_basic (IterateS p i a b s ss n) = Some p

abbrev pub place_of_statement : StatementT → Option Position
place_of_statement (Labelled ls b) = place_of_basic b

abbrev pub first_statement : List StatementT → Option Position
first_statement [] = None
first_statement (s ∷ ss) = place_of_statement s

abbrev pub stray_in : List NameT → BlockT → Option Position
stray_in ps (BlockOf is ss) = option_or (stray_items ps (item_list is)) (first_statement (statement_list ss))

abbrev pub stray_of : Linkage → List NameT → BlockT → Option Position
stray_of l ps b = cond (is_external_linkage l) (stray_in ps b) None
