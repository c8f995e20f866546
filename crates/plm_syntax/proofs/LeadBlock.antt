-- Declarations, statements and blocks lead from the literals in force before them to those after them.
use Rattle.std.proofs.Common.{◌≡◌, ℕ, suc, List, [], ◌∷◌, ◌++◌, length, take, Option, Some, None, refl, sym, ap, ◌∙◌, subst, append_assoc}
use Rattle.std.proofs.lemmas.List.{append-nil}
use Rattle.plm_token.specs.declared.token.Keyword.TheVariants as key
use Rattle.plm_token.specs.declared.token.Mark.TheVariants as mark
use Rattle.plm_syntax.specs.Terminal.{NameT, Name, Key, Sign, Finish, Leaf, leaf, leaf_at}
use Rattle.plm_syntax.specs.Tree.{ElementT, LiteralElement, VariableElement, ElementsT, no_elements, elements, StatementT, Labelled, BasicT, EmptyS, AssignS, CallS, ReturnS, ReturnValueS, EnableS, DisableS, HaltS, IfS, IfElseS, DoS, WhileS, CaseS, IterateS, StatementsT, no_statements, statements, BlockT, BlockOf, ItemsT, no_items, items, ItemT, DeclareI, ProcedureI, ModuleT, ModuleOf}
use Rattle.plm_syntax.specs.Spelling.{behind_labels, element, listed_elements, element_list, ending, statement, basic, statement_list, block, item_list, item, module_leaves, put_leaf}
use Rattle.plm_syntax.specs.Literals.{LiteralText}
use Rattle.plm_syntax.specs.InForce.{at, literals_of_element, literals_of_elements, literals_of_item, literals_of_items, in_listed, in_elements, in_statement, in_basic, in_statements, in_block, in_items, in_item, tables_of}
use Rattle.plm_syntax.proofs.Words.{Ends, Declares, Finishes, Named, Quoted, Other, trail, blocks, one_opens, Leads, nothing, one, join}
use Rattle.plm_syntax.proofs.CalmExpression.{leads_expression, leads_reference}
use Rattle.plm_syntax.proofs.CalmParts.{leads_attributes, leads_declared, leads_dimension_leaves, leads_interrupt, leads_labels, leads_linkage, leads_parenthesised_names, leads_returned, leads_step, leads_targets, leads_type_leaves}

-- ---- where a part leads

pub to : {f : List Leaf → List Leaf} {g : List (List LiteralText) → List (List LiteralText)} {L M N : List LiteralText} {S T : List ℕ} → M ≡ N → Leads f g L S M T → Leads f g L S N T
to {f} {g} {L} {M} {N} {S} {T} e h = subst (λ (x : List LiteralText). Leads f g L S x T) e h

pub as_before : {f : List Leaf → List Leaf} {g : List (List LiteralText) → List (List LiteralText)} {L : List LiteralText} {S T : List ℕ} → Leads f g L S L T → Leads f g L S (L ++ []) T
as_before {f} {g} {L} {S} {T} h = to (sym (append-nil L)) h

pub took : (L D : List LiteralText) → take (length L) (L ++ D) ≡ L
took [] D = refl
took (l ∷ L) D = ap (λ (x : List LiteralText). l ∷ x) (took L D)

-- after END the literals are those with which the block began
pub leads_ending : {L M : List LiteralText} {S : List ℕ} (x0 : Option NameT) → take (length L) M ≡ L → Leads (ending put_leaf x0) (ending (at M) x0) M (length L ∷ S) L S
leads_ending {L} {M} {S} None e a b h = record {
  last = Finishes;
  before = Ends;
  clear = refl;
  goes = λ r. ap (λ (x : List LiteralText). M ∷ M ∷ trail (blocks x S) Finishes Ends r) e;
}
leads_ending {L} {M} {S} (Some n) e a b h = record {
  last = Finishes;
  before = Named n.text;
  clear = refl;
  goes = λ r. ap (λ (x : List LiteralText). M ∷ M ∷ M ∷ trail (blocks x S) Finishes (Named n.text) r) e;
}

pub leads_same_ending : {L : List LiteralText} {S : List ℕ} (x0 : Option NameT) → Leads (ending put_leaf x0) (ending (at L) x0) L (length L ∷ S) L S
leads_same_ending {L} n = leads_ending n (ap (take (length L)) (sym (append-nil L)) ∙ took L [])

-- ---- declarations

pub leads_element : {L : List LiteralText} {S : List ℕ} (x0 y0 : ℕ) (x1 : ElementT) → Leads (element put_leaf x0 x1) (element (at L) y0 x1) L S (L ++ literals_of_element x1) S
leads_element {L} {S} d d' (LiteralElement n s) = λ a b h. record { last = Quoted s.text; before = Declares; clear = refl; goes = λ r. refl }
leads_element d d' (VariableElement v c t x) = as_before (join (leads_declared v) (join (leads_dimension_leaves c) (join (leads_type_leaves t) (leads_attributes d d' x))))

pub leads_listed_elements : {L : List LiteralText} {S : List ℕ} (x0 : ℕ) (x1 : ElementsT) → Leads (listed_elements put_leaf x0 x1) (in_listed L x1) L S (L ++ literals_of_elements x1) S
leads_listed_elements d no_elements = as_before nothing
leads_listed_elements {L} d (elements es e) = join (leads_listed_elements d es) (join (to (append_assoc L (literals_of_elements es) (literals_of_element e)) (leads_element d 0 e)) (one (leaf (Sign mark.Comma)) 0 refl))

pub leads_element_list : {L : List LiteralText} {S : List ℕ} (x0 : ℕ) (x1 : ElementsT) → Leads (element_list put_leaf x0 x1) (in_elements L x1) L S (L ++ literals_of_elements x1) S
leads_element_list d no_elements = as_before nothing
leads_element_list {L} d (elements es e) = join (leads_listed_elements d es) (to (append_assoc L (literals_of_elements es) (literals_of_element e)) (leads_element d 0 e))

-- ---- statements and blocks

mutual
  pub leads_statement : {L : List LiteralText} {S : List ℕ} (x0 x1 : ℕ) (x2 : StatementT) → Leads (statement put_leaf x0 x1 x2) (in_statement L x2) L S L S
  leads_statement m d (Labelled ns b) = join (leads_labels m 0 ns) (leads_basic (behind_labels m ns) d b)

  pub leads_basic : {L : List LiteralText} {S : List ℕ} (x0 x1 : ℕ) (x2 : BasicT) → Leads (basic put_leaf x0 x1 x2) (in_basic L x2) L S L S
  leads_basic m d (EmptyS p) = one (leaf_at (Sign mark.Semicolon) p) m refl
  leads_basic m d (AssignS xs e) = join (leads_targets m 0 d 0 xs) (join (one (leaf (Sign mark.Equal)) 0 refl) (join (leads_expression d 0 e) (one (leaf (Sign mark.Semicolon)) 0 refl)))
  leads_basic m d (CallS p x) = join (one (leaf_at (Key key.Call) p) m refl) (join (leads_reference 0 0 d 0 x) (one (leaf (Sign mark.Semicolon)) 0 refl))
  leads_basic m d (ReturnS p) = join (one (leaf_at (Key key.Return) p) m refl) (one (leaf (Sign mark.Semicolon)) 0 refl)
  leads_basic m d (ReturnValueS p e) = join (one (leaf_at (Key key.Return) p) m refl) (join (leads_expression d 0 e) (one (leaf (Sign mark.Semicolon)) 0 refl))
  leads_basic m d (EnableS p) = join (one (leaf_at (Key key.Enable) p) m refl) (one (leaf (Sign mark.Semicolon)) 0 refl)
  leads_basic m d (DisableS p) = join (one (leaf_at (Key key.Disable) p) m refl) (one (leaf (Sign mark.Semicolon)) 0 refl)
  leads_basic m d (HaltS p) = join (one (leaf_at (Key key.Halt) p) m refl) (one (leaf (Sign mark.Semicolon)) 0 refl)
  leads_basic m d (IfS p e s) = join (one (leaf_at (Key key.If) p) m refl) (join (leads_expression d 0 e) (join (one (leaf (Key key.Then)) 0 refl) (leads_statement (suc d) (suc d) s)))
  leads_basic m d (IfElseS p e s t) = join (one (leaf_at (Key key.If) p) m refl) (join (leads_expression d 0 e) (join (one (leaf (Key key.Then)) 0 refl) (join (leads_statement (suc d) (suc d) s) (join (one (leaf (Key key.Else)) 0 refl) (leads_statement (suc d) (suc d) t)))))
  leads_basic m d (DoS p b n) = join (one_opens (leaf_at (Key key.Do) p) (suc d) refl) (join (one (leaf (Sign mark.Semicolon)) 0 refl) (leads_block (suc d) b n))
  leads_basic m d (WhileS p e ss n) = join (one_opens (leaf_at (Key key.Do) p) (suc d) refl) (join (one (leaf (Key key.While)) 0 refl) (join (leads_expression (suc d) 0 e) (join (one (leaf (Sign mark.Semicolon)) 0 refl) (join (leads_statement_list (suc d) ss) (leads_same_ending n)))))
  leads_basic m d (CaseS p e ss n) = join (one_opens (leaf_at (Key key.Do) p) (suc d) refl) (join (one (leaf (Key key.Case)) 0 refl) (join (leads_expression (suc d) 0 e) (join (one (leaf (Sign mark.Semicolon)) 0 refl) (join (leads_statement_list (suc d) ss) (leads_same_ending n)))))
  leads_basic m d (IterateS p i a b s ss n) = join (one_opens (leaf_at (Key key.Do) p) (suc d) refl) (join (one (leaf (Name i)) 0 refl) (join (one (leaf (Sign mark.Equal)) 0 refl) (join (leads_expression (suc d) 0 a) (join (one (leaf (Key key.To)) 0 refl) (join (leads_expression (suc d) 0 b) (join (leads_step (suc d) 0 s) (join (one (leaf (Sign mark.Semicolon)) 0 refl) (join (leads_statement_list (suc d) ss) (leads_same_ending n)))))))))

  pub leads_statement_list : {L : List LiteralText} {S : List ℕ} (x0 : ℕ) (x1 : StatementsT) → Leads (statement_list put_leaf x0 x1) (in_statements L x1) L S L S
  leads_statement_list d no_statements = nothing
  leads_statement_list d (statements ss s) = join (leads_statement_list d ss) (leads_statement 0 d s)

  pub leads_block : {L : List LiteralText} {S : List ℕ} (x0 : ℕ) (x1 : BlockT) (x2 : Option NameT) → Leads (λ r. block put_leaf x0 x1 (ending put_leaf x2 r)) (in_block L x1 x2) L (length L ∷ S) L S
  leads_block {L} d (BlockOf is ss) n = join (leads_item_list d is) (join (leads_statement_list d ss) (leads_ending n (took L (literals_of_items is))))

  pub leads_item_list : {L : List LiteralText} {S : List ℕ} (x0 : ℕ) (x1 : ItemsT) → Leads (item_list put_leaf x0 x1) (in_items L x1) L S (L ++ literals_of_items x1) S
  leads_item_list d no_items = as_before nothing
  leads_item_list {L} d (items is i) = join (leads_item_list d is) (to (append_assoc L (literals_of_items is) (literals_of_item i)) (leads_item d i))

  pub leads_item : {L : List LiteralText} {S : List ℕ} (x0 : ℕ) (x1 : ItemT) → Leads (item put_leaf x0 x1) (in_item L x1) L S (L ++ literals_of_item x1) S
  leads_item d (DeclareI p es) = join (one (leaf_at (Key key.Declare) p) 0 refl) (join (leads_element_list d es) (one (leaf (Sign mark.Semicolon)) 0 refl))
  leads_item d (ProcedureI n ps s i l b e) = as_before (join (one (leaf (Name n)) 0 refl) (join (one (leaf (Sign mark.Colon)) 0 refl) (join (one_opens (leaf (Key key.Procedure)) (suc d) refl) (join (leads_parenthesised_names ps) (join (leads_returned s) (join (leads_interrupt i) (join (leads_linkage l) (join (one (leaf (Sign mark.Semicolon)) 0 refl) (leads_block (suc d) b e)))))))))

-- a module's leaves have what is in force at each
pub module_trail : (m : ModuleT) → trail (blocks [] []) Other Other (module_leaves put_leaf 0 m []) ≡ tables_of m
module_trail (ModuleOf n b e) =
    let whole : Leads (λ r. module_leaves put_leaf 0 (ModuleOf n b e) r) (λ r. at [] (leaf (Name n)) 0 (at [] (leaf (Sign mark.Colon)) 0 (at [] (leaf (Key key.Do)) 0 (at [] (leaf (Sign mark.Semicolon)) 0 (in_block [] b e (at [] (leaf Finish) 0 r)))))) [] [] [] []
    = join (one (leaf (Name n)) 0 refl) (join (one (leaf (Sign mark.Colon)) 0 refl) (join (one_opens (leaf (Key key.Do)) 1 refl) (join (one (leaf (Sign mark.Semicolon)) 0 refl) (join (leads_block 1 b e) (one (leaf Finish) 0 refl))))) in
    (whole Other Other refl).goes []
