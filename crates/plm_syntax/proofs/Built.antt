-- The trees of structs that the parser has just built.
use Rattle.std.proofs.Common.{◌≡◌, List, ◌∷◌, Option, refl, sym, ap, ◌∙◌, Result}
use Rattle.std.specs.Global.{Vec}
use Rattle.plm_syntax.specs.declared.tree.Name.{Name}
use Rattle.plm_syntax.specs.declared.tree.Numeral.{Numeral}
use Rattle.plm_syntax.specs.declared.tree.Scalar.{Scalar}
use Rattle.plm_syntax.specs.declared.tree.Linkage.{Linkage}
use Rattle.plm_syntax.specs.declared.tree.Item.{Item}
use Rattle.plm_syntax.specs.declared.tree.Statement.{Statement}
use Rattle.plm_syntax.specs.declared.tree.Block.{Block}
use Rattle.plm_syntax.specs.declared.tree.Basic.TheBlock.{hidden-the_row-Statement-0}
use Rattle.plm_syntax.specs.declared.tree.Basic.TheViews.{roll-Block, roll-Procedure}
use Rattle.plm_syntax.specs.declared.cursor.Cursor.{Cursor}
use Rattle.plm_syntax.specs.Tree.{BlockT, BlockOf, ItemT, ItemsT, items, StatementsT, no_statements, ProcedureI}
use Rattle.plm_syntax.specs.View.{name_of, names_of, counted, linkage_of, base_of, items_of, statements_in, statements_of, block_of, procedure_of}
use Rattle.plm_syntax.specs.Inner.Symbol.{Symbol, Value, ItemsR, EndR, StatementsR}
use Rattle.plm_syntax.specs.Inner.Machine.{Reading, Stop, run}
use Rattle.plm_syntax.specs.Inner.Parsed.{ahead}
use Rattle.plm_syntax.specs.Inner.Blocks.{items_part, statements_part, read_block, read_procedure}
use Rattle.plm_syntax.proofs.Rows.{item_row, statement_row}

block_built : (is : Vec Item) (ss : Vec Statement) → block_of (roll-Block (record { items = is; statements = ss })) ≡ BlockOf (items_of is.items) (statements_of ss.items)
unfolding roll-Block denote.Hole.Carrier.roll denote.Hole.Carrier.hidden
block_built is ss = ap (λ (x : ItemsT). BlockOf x (statements_in (hidden-the_row-Statement-0 ss) no_statements)) (item_row is) ∙ ap (λ (x : StatementsT). BlockOf (items_of is.items) x) (statement_row ss)

procedure_built : (n : Name) (ps : Vec Name) (t : Option Scalar) (i : Option Numeral) (l : Linkage) (b : Block) (e : Option Name)
    → procedure_of (roll-Procedure (record { name = n; parameters = ps; returned = t; interrupt = i; linkage = l; block = b; end = e })) ≡ ProcedureI (name_of n) (names_of ps.items) t (counted i) (linkage_of l) (block_of b) (base_of e)
unfolding roll-Procedure denote.Hole.Carrier.roll denote.Hole.Carrier.hidden
procedure_built n ps t i l b e = refl

-- a run arrives after a block's parts, and so after the block
pub block_there : (is : Vec Item) (ss : Vec Statement) (e : Option Name) (s : List Symbol) (v : List Value) (c : Cursor) {r : Result Reading Stop}
    → r ≡ run 64 s (EndR (base_of e) ∷ StatementsR (statements_of ss.items) ∷ ItemsR (items_of is.items) ∷ v) (ahead c)
    → r ≡ run 64 s (read_block (roll-Block (record { items = is; statements = ss }), e) v) (ahead c)
block_there is ss e s v c h = h ∙ ap (λ (b : BlockT). run 64 s (EndR (base_of e) ∷ StatementsR (statements_part b) ∷ ItemsR (items_part b) ∷ v) (ahead c)) (sym (block_built is ss))

-- the same of a procedure
pub procedure_there : (n : Name) (ps : Vec Name) (t : Option Scalar) (i : Option Numeral) (l : Linkage) (b : Block) (e : Option Name) (is : ItemsT) (s : List Symbol) (v : List Value) (c : Cursor) {r : Result Reading Stop}
    → r ≡ run 64 s (ItemsR (items is (ProcedureI (name_of n) (names_of ps.items) t (counted i) (linkage_of l) (block_of b) (base_of e))) ∷ v) (ahead c)
    → r ≡ run 64 s (read_procedure is (roll-Procedure (record { name = n; parameters = ps; returned = t; interrupt = i; linkage = l; block = b; end = e })) v) (ahead c)
procedure_there n ps t i l b e is s v c h = h ∙ ap (λ (p : ItemT). run 64 s (ItemsR (items is p) ∷ v) (ahead c)) (sym (procedure_built n ps t i l b e))
