-- One more item of a list of a tree.
use Rattle.std.proofs.Common.{◌≡◌, ℕ, ◌+◌, ◌<◌, List, [], ◌∷◌, ◌++◌, length, get_or, take, sym, ap, ◌∙◌}
use Rattle.std.proofs.lemmas.List.{take_more}
use Rattle.plm_syntax.specs.declared.tree.Expression.{Expression}
use Rattle.plm_syntax.specs.declared.tree.Statement.{Statement}
use Rattle.plm_syntax.specs.declared.tree.Item.{Item}
use Rattle.plm_syntax.specs.Tree.{no_expressions, expressions, no_statements, statements, no_items, items}
use Rattle.plm_syntax.specs.View.{expression_of, expressions_of, statement_of, statements_of, item_of, items_of}
use Rattle.plm_decl.proofs.SyntaxRows.{expression_pushed, statement_pushed, item_pushed}

pub taken_more : {X : Type 0} → (xs : List X) (i : ℕ) (x : X) → i < length xs → x ≡ get_or xs i x → take (i + 1) xs ≡ take i xs ++ x ∷ []
taken_more xs i x h e = take_more xs i x h ∙ ap (λ y. take i xs ++ y ∷ []) (sym e)

pub expression_next : (es : List Expression) (i : ℕ) (x : Expression) → i < length es → x ≡ get_or es i x
    → expressions_of (take (i + 1) es) ≡ expressions (expressions_of (take i es)) (expression_of x)
expression_next es i x h e = ap expressions_of (taken_more es i x h e) ∙ expression_pushed (take i es) x no_expressions

pub statement_next : (ss : List Statement) (i : ℕ) (x : Statement) → i < length ss → x ≡ get_or ss i x
    → statements_of (take (i + 1) ss) ≡ statements (statements_of (take i ss)) (statement_of x)
statement_next ss i x h e = ap statements_of (taken_more ss i x h e) ∙ statement_pushed (take i ss) x no_statements

pub item_next : (is : List Item) (i : ℕ) (x : Item) → i < length is → x ≡ get_or is i x
    → items_of (take (i + 1) is) ≡ items (items_of (take i is)) (item_of x)
item_next is i x h e = ap items_of (taken_more is i x h e) ∙ item_pushed (take i is) x no_items
