-- Trees as they are put together, and as the code takes them apart.
use Rattle.std.proofs.Common.{◌≡◌, ℕ, List, [], ◌∷◌, length, true, false, not, nat_eq, arith, map, refl, sym, subst, ap, ◌∙◌}
use Rattle.plm_syntax.specs.declared.tree.Expression.TheBlock.{hidden-the_row-Expression-0}
use Rattle.plm_syntax.specs.declared.tree.Reference.{Reference}
use Rattle.plm_syntax.specs.Tree.{ReferenceT, ReferenceOf, ExpressionsT, no_expressions}
use Rattle.plm_syntax.specs.View.{name_of, expressions_in, selector_of, reference_of}
use Rattle.plm_decl.proofs.SyntaxRows.{expression_row, item_row, statement_row}
use Rattle.plm_syntax.specs.declared.tree.Basic.TheViews.{out-Block, roll-Block, roll-out-Block, out-Procedure, roll-Procedure, roll-out-Procedure}
use Rattle.plm_syntax.specs.declared.tree.Block.{Block}
use Rattle.plm_syntax.specs.declared.tree.Procedure.{Procedure}
use Rattle.plm_syntax.specs.Tree.{BlockOf, ItemT, ItemsT, ProcedureI, StatementT, StatementsT, no_items, no_statements, statements}
use Rattle.plm_syntax.specs.View.{block_of, item_of, items_of, statement_of, statements_from, statements_of, procedure_of, names_of, counted, linkage_of, base_of}
use Rattle.plm_decl.specs.declared.resolved.Expression.TheBlock as block
use Rattle.plm_decl.specs.declared.resolved.Reference as resolved
use Rattle.plm_decl.specs.Resolved.{ReferenceR', Use, ExpressionsR}
use Rattle.plm_decl.specs.ResolvedView as view
use Rattle.plm_decl.proofs.ResolvedRows as rows
use Rattle.std.specs.Option.{option_or}
use Rattle.std.proofs.lemmas.Bool.Decides.{nat_tests}
use Rattle.plm_syntax.specs.declared.tree.Statement.{Statement}
use Rattle.plm_decl.specs.Joins.{has_statements}
use Rattle.plm_syntax.specs.Terminal.{NameT}
use Rattle.plm_decl.specs.Stray.{stray_of, stray_in, stray_items, first_statement}
use Rattle.plm_decl.specs.Inner.Procedures.{stray_for, name_for, header_for}
use Rattle.plm_decl.specs.Resolver.{Known}
use Rattle.plm_decl.specs.Names.{ProcedureR}
use Rattle.plm_decl.specs.Procedures.{header}
use Rattle.plm_decl.proofs.ListViews.{item_list_from, statement_list_from}

-- a reference as a part of an expression
abbrev pub laid : Reference → ReferenceT
laid x = ReferenceOf (name_of x.name) (expressions_in (hidden-the_row-Expression-0 x.subscripts) no_expressions) (selector_of x.selector)

pub reference_laid : (x : Reference) → laid x ≡ reference_of x
reference_laid x = ap (λ (es : ExpressionsT). ReferenceOf (name_of x.name) es (selector_of x.selector)) (expression_row x.subscripts)

-- the same of a resolved one
abbrev pub placed : resolved.Reference → ReferenceR'
placed x = Use x.place x.binding (view.expressions_in (block.hidden-the_row-Expression-0 x.subscripts)) (view.selector_of x.selector)

pub reference_placed : (x : resolved.Reference) → placed x ≡ view.reference_of x
reference_placed x = ap (λ (es : ExpressionsR). Use x.place x.binding es (view.selector_of x.selector)) (rows.expression_row x.subscripts)

-- ---- blocks and procedures, by their parts

rolled_block : (b : Block) → block_of (roll-Block (out-Block b)) ≡ BlockOf (items_of (out-Block b).items.items) (statements_of (out-Block b).statements.items)
unfolding roll-Block denote.Hole.Carrier.roll denote.Hole.Carrier.hidden
rolled_block b = (λ j. BlockOf (item_row (out-Block b).items j) (statement_row (out-Block b).statements j))

pub block_parts : (b : Block) → block_of b ≡ BlockOf (items_of (out-Block b).items.items) (statements_of (out-Block b).statements.items)
block_parts b = subst (λ (z : Block). block_of z ≡ BlockOf (items_of (out-Block b).items.items) (statements_of (out-Block b).statements.items)) (roll-out-Block b) (rolled_block b)

rolled_stray : (p : Procedure) → stray_for (roll-Procedure (out-Procedure p)) ≡ stray_of (out-Procedure p).linkage (map name_of (out-Procedure p).parameters.items) (block_of (out-Procedure p).block)
unfolding roll-Procedure denote.Hole.Carrier.roll denote.Hole.Carrier.hidden
rolled_stray p = refl

pub stray_for_parts : (p : Procedure) → stray_for p ≡ stray_of (out-Procedure p).linkage (map name_of (out-Procedure p).parameters.items) (block_of (out-Procedure p).block)
stray_for_parts p =
    subst (λ (z : Procedure). stray_for z ≡ stray_of (out-Procedure p).linkage (map name_of (out-Procedure p).parameters.items) (block_of (out-Procedure p).block))
    (roll-out-Procedure p) (rolled_stray p)

pub stray_in_parts : (ps : List NameT) (b : Block)
    → stray_in ps (block_of b) ≡ option_or (stray_items ps (map item_of (out-Block b).items.items)) (first_statement (map statement_of (out-Block b).statements.items))
stray_in_parts ps b =
    ap (stray_in ps) (block_parts b)
    ∙ (λ j. option_or (stray_items ps (item_list_from (out-Block b).items.items no_items j)) (first_statement (statement_list_from (out-Block b).statements.items no_statements j)))

rolled_name : (p : Procedure) → name_for (roll-Procedure (out-Procedure p)) ≡ name_of (out-Procedure p).name
unfolding roll-Procedure denote.Hole.Carrier.roll denote.Hole.Carrier.hidden
rolled_name p = refl

pub name_for_parts : (p : Procedure) → name_for p ≡ name_of (out-Procedure p).name
name_for_parts p = subst (λ (z : Procedure). name_for z ≡ name_of (out-Procedure p).name) (roll-out-Procedure p) (rolled_name p)

-- the header of a procedure, by its parts
abbrev pub header_laid : List ℕ → Procedure → Known → ProcedureR
header_laid path p k =
    let o = out-Procedure p in
    header path (name_of o.name) (map name_of o.parameters.items) o.returned (counted o.interrupt) o.linkage (block_of o.block) k

rolled_header : (path : List ℕ) (p : Procedure) (k : Known) → header_for path (roll-Procedure (out-Procedure p)) k ≡ header_laid path p k
unfolding roll-Procedure denote.Hole.Carrier.roll denote.Hole.Carrier.hidden
rolled_header path p k = refl

pub header_for_parts : (path : List ℕ) (p : Procedure) (k : Known) → header_for path p k ≡ header_laid path p k
header_for_parts path p k = subst (λ (z : Procedure). header_for path z k ≡ header_laid path p k) (roll-out-Procedure p) (rolled_header path p k)

-- a procedure, by its parts
abbrev pub procedure_laid : Procedure → ItemT
procedure_laid p =
    let o = out-Procedure p in
    ProcedureI (name_of o.name) (names_of o.parameters.items) o.returned (counted o.interrupt) (linkage_of o.linkage) (block_of o.block) (base_of o.end)

rolled_procedure : (p : Procedure) → procedure_of (roll-Procedure (out-Procedure p)) ≡ procedure_laid p
unfolding roll-Procedure denote.Hole.Carrier.roll denote.Hole.Carrier.hidden
rolled_procedure p = refl

pub procedure_parts : (p : Procedure) → procedure_of p ≡ procedure_laid p
procedure_parts p = subst (λ (z : Procedure). procedure_of z ≡ procedure_laid p) (roll-out-Procedure p) (rolled_procedure p)

-- a block with statements
some_statements : (is : ItemsT) (ss : List Statement) (before : StatementsT) (s : StatementT) → has_statements (BlockOf is (statements_from ss (statements before s))) ≡ true
some_statements is [] before s = refl
some_statements is (t ∷ ss) before s = some_statements is ss (statements before s) (statement_of t)

pub has_statements_from : (is : ItemsT) (ss : List Statement) → has_statements (BlockOf is (statements_of ss)) ≡ not (nat_eq (length ss) 0)
has_statements_from is [] = refl
has_statements_from is (s ∷ ss) =
    let some : nat_eq (length (s ∷ ss)) 0 ≡ false = grind (arith, nat_tests) in
    some_statements is ss no_statements (statement_of s) ∙ sym (ap not some)
