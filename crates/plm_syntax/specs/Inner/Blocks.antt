-- What the parser's functions read: statements, blocks and modules.
use Rattle.std.specs.Prelude.{◌≡◌, ℕ, suc, ◌+◌, ◌≤◌, ◌<◌, List, [], ◌∷◌, length, Bool, true, false, ◌&&◌, Option, Some, None, Result, Ok, Err}
use Rattle.std.specs.Global.{Vec, Box}
use Rattle.plm_token.specs.declared.token.Keyword.{Keyword}
use Rattle.plm_token.specs.declared.token.Mark.{Mark}
use Rattle.plm_token.specs.declared.token.Keyword.TheVariants as key
use Rattle.plm_token.specs.declared.token.Mark.TheVariants as mark
use Rattle.plm_syntax.specs.declared.tree.Position.{Position}
use Rattle.plm_syntax.specs.declared.tree.Name.{Name as NameTree}
use Rattle.plm_syntax.specs.declared.tree.Numeral.{Numeral as NumberTree}
use Rattle.plm_syntax.specs.declared.tree.Scalar.{Scalar}
use Rattle.plm_syntax.specs.declared.tree.Linkage.{Linkage}
use Rattle.plm_syntax.specs.declared.tree.Expression.{Expression}
use Rattle.plm_syntax.specs.declared.tree.Statement.{Statement}
use Rattle.plm_syntax.specs.declared.tree.Basic.{Basic}
use Rattle.plm_syntax.specs.declared.tree.Bounds.{Bounds}
use Rattle.plm_syntax.specs.declared.tree.Block.{Block}
use Rattle.plm_syntax.specs.declared.tree.Item.{Item}
use Rattle.plm_syntax.specs.declared.tree.Procedure.{Procedure}
use Rattle.plm_syntax.specs.declared.tree.Module.{Module}
use Rattle.plm_syntax.specs.declared.statement.Signature.{Signature}
use Rattle.plm_syntax.specs.declared.cursor.Cursor.{Cursor}
use Rattle.plm_syntax.specs.declared.failure.Failure.{Failure}
use Rattle.plm_syntax.specs.Terminal.{NameT, NumeralT, Terminal, Name, Numeral, Text, Key, Sign, Finish, Leaf, leaf_at, is_key}
use Rattle.plm_syntax.specs.Inner.Terminal.{is_sign}
use Rattle.plm_syntax.specs.Tree.{BlockT, BlockOf, StatementsT, NamesT, no_names, ItemsT, items, no_items, no_statements, no_linkage, Labelled}
use Rattle.plm_syntax.specs.View.{name_of, counted, base_of, names_of, expression_of, step_of, linkage_of, basic_of, statement_of, statements_of, item_of, block_of, procedure_of, module_of}
use Rattle.plm_syntax.specs.Inner.Symbol.{Value, Symbol, depth, need, push, Need, Want, Do, Leave, ExpressionR, StatementR, StatementsR, ItemsR, EndR, StepR, RangeR, HeaderR, ModuleR, ArmG, OtherwiseG, StepG, StatementsG, ItemsG, ParametersG, ReturnedTypeG, InterruptG, LinkageG}
use Rattle.plm_syntax.specs.Inner.Machine.{an_expression, make_if, make_range, make_iterate, no_statement_yet, make_procedure, run, start}
use Rattle.plm_token.specs.declared.token.Token.{Token}
use Rattle.plm_syntax.specs.Faults.{terminal_of}
use Rattle.plm_syntax.specs.Inner.Parsed.{next_of, ahead, is_name, Takes, Fails}

-- ---- the tokens that come next

abbrev pub begins : (Terminal → Bool) → List Leaf → Bool
begins test [] = false
begins test (l ∷ ls) = test l.terminal

-- a name and a colon
abbrev pub is_label : List Leaf → Bool
is_label [] = false
is_label (l ∷ ls) = is_name l.terminal && begins (is_sign mark.Colon) ls

abbrev pub begins_second : (Terminal → Bool) → List Leaf → Bool
begins_second test [] = false
begins_second test (l ∷ ls) = begins test ls

-- a name, a colon and the word PROCEDURE
abbrev pub is_heading : List Leaf → Bool
is_heading [] = false
is_heading (l ∷ ls) = is_name l.terminal && (begins (is_sign mark.Colon) ls && begins_second (is_key key.Procedure) ls)

-- a name and a colon come next, and these are left after them
pub record Labels (c : Cursor) (n : NameTree) (rest : Cursor) : Type 0 where
  pub place : Position
  pub is : ahead c ≡ leaf_at (Name (name_of n)) n.place ∷ leaf_at (Sign mark.Colon) place ∷ ahead rest
  pub shorter : length c.tokens.now ≡ suc (suc (length rest.tokens.now))

abbrev pub IsLabel : Cursor → Option (NameTree × Cursor) → Type 0
IsLabel c None = is_label (ahead c) ≡ false
IsLabel c (Some x) = Labels c x.0 x.1

pub record Heads (c : Cursor) (n : NameTree) (rest : Cursor) : Type 0 where
  pub colon : Position
  pub word : Position
  pub is : ahead c ≡ leaf_at (Name (name_of n)) n.place ∷ leaf_at (Sign mark.Colon) colon ∷ leaf_at (Key key.Procedure) word ∷ ahead rest
  pub shorter : length c.tokens.now ≡ suc (suc (suc (length rest.tokens.now)))

abbrev pub IsHeading : Cursor → Option (NameTree × Cursor) → Type 0
IsHeading c None = is_heading (ahead c) ≡ false
IsHeading c (Some x) = Heads c x.0 x.1

abbrev pub begins_keyword : Keyword → Bool
begins_keyword key.Call = true
begins_keyword key.Return = true
begins_keyword key.Enable = true
begins_keyword key.Disable = true
begins_keyword key.Halt = true
begins_keyword key.If = true
begins_keyword key.Do = true
begins_keyword k = false

abbrev pub begins_sign : Mark → Bool
begins_sign mark.Semicolon = true
begins_sign m = false

abbrev pub begins_statement : Terminal → Bool
begins_statement (Name n) = true
begins_statement (Numeral n) = false
begins_statement (Text s) = false
begins_statement (Key k) = begins_keyword k
begins_statement (Sign m) = begins_sign m
begins_statement Finish = false

abbrev pub IsBeginning : Cursor → Option (Token × Position × Cursor) → Type 0
IsBeginning c None = begins_statement (next_of c) ≡ false
IsBeginning c (Some x) = Takes c (terminal_of x.0.kind x.0.text.now x.1) x.1 x.2 × (begins_statement (terminal_of x.0.kind x.0.text.now x.1) ≡ true)

-- ---- what was read

abbrev pub read_statement : Statement → List Value → List Value
read_statement s v = StatementR (statement_of s) ∷ v

-- a statement in a box, as IF keeps its arms
abbrev pub read_arm : Box Statement → List Value → List Value
read_arm b v = StatementR (statement_of b.value) ∷ v

abbrev pub read_basic : NamesT → Basic → List Value → List Value
read_basic ls b v = StatementR (Labelled ls (basic_of b)) ∷ v

abbrev pub read_end : Option NameTree → List Value → List Value
read_end e v = EndR (base_of e) ∷ v

abbrev pub read_body : Vec Statement × Option NameTree → List Value → List Value
read_body x v = EndR (base_of x.1) ∷ StatementsR (statements_of x.0.items) ∷ v

abbrev pub items_part : BlockT → ItemsT
items_part (BlockOf is ss) = is

abbrev pub statements_part : BlockT → StatementsT
statements_part (BlockOf is ss) = ss

abbrev pub read_block : Block × Option NameTree → List Value → List Value
read_block x v = EndR (base_of x.1) ∷ StatementsR (statements_part (block_of x.0)) ∷ ItemsR (items_part (block_of x.0)) ∷ v

abbrev pub read_governed : Expression × (Vec Statement × Option NameTree) → List Value → List Value
read_governed x v = EndR (base_of x.1.1) ∷ StatementsR (statements_of x.1.0.items) ∷ ExpressionR (expression_of x.0) ∷ v

abbrev pub read_step : Option Expression → List Value → List Value
read_step s v = StepR (step_of s) ∷ v

abbrev pub read_range : NameT → Box Bounds → List Value → List Value
read_range i r v = StepR (step_of r.value.step) ∷ RangeR i (expression_of r.value.first) (expression_of r.value.last) ∷ v

abbrev pub read_header : NameT → Signature → List Value → List Value
read_header n h v = HeaderR n (names_of h.parameters.items) h.returned (counted h.interrupt) (linkage_of h.linkage) ∷ v

abbrev pub read_procedure : ItemsT → Procedure → List Value → List Value
read_procedure is p v = ItemsR (items is (procedure_of p)) ∷ v

abbrev pub read_interrupt : NameT → NamesT → Option Scalar → Option NumberTree → List Value → List Value
read_interrupt n ps t k v = HeaderR n ps t (counted k) no_linkage ∷ v

abbrev pub no_parameters_read : NameT → ItemsT → List Value → List Value
no_parameters_read n is v = HeaderR n no_names None None no_linkage ∷ ItemsR is ∷ v

-- ---- what is awaited

abbrev pub condition_goals : Position → List Symbol → List Symbol
condition_goals p s = an_expression (Need (Key key.Then) ∷ Want ArmG ∷ Want OtherwiseG ∷ Do (make_if p) ∷ s)

abbrev pub governed_goals : Option NameT → List Symbol → List Symbol
governed_goals l s = an_expression (need mark.Semicolon ∷ no_statement_yet ∷ Want (StatementsG l) ∷ s)

abbrev pub range_goals : List Symbol → List Symbol
range_goals s = need mark.Equal ∷ an_expression (Need (Key key.To) ∷ an_expression (Do make_range ∷ push (StepR None) ∷ Want StepG ∷ need mark.Semicolon ∷ s))

abbrev pub iterate_goals : Position → Option NameT → List Symbol → List Symbol
iterate_goals p l s = range_goals (no_statement_yet ∷ Want (StatementsG l) ∷ Do (make_iterate p) ∷ s)

abbrev pub header_goals : List Symbol → List Symbol
header_goals s = Want ParametersG ∷ Want ReturnedTypeG ∷ Want InterruptG ∷ Want LinkageG ∷ need mark.Semicolon ∷ s

abbrev pub procedure_goals : NameT → List Symbol → List Symbol
procedure_goals n s = header_goals (push (ItemsR no_items) ∷ Want (ItemsG (Some n)) ∷ Leave ∷ Do make_procedure ∷ s)

-- ---- parts that are no failures, or no results

pub record LeadsReturned (c : Cursor) (x : Option Scalar × Cursor) : Type 0 where
  pub leads : (n : NameT) (ps : NamesT) (s : List Symbol) (v : List Value) → run 64 (Want ReturnedTypeG ∷ s) (HeaderR n ps None None no_linkage ∷ v) (ahead c) ≡ run 64 s (HeaderR n ps x.0 None no_linkage ∷ v) (ahead x.1)
  pub within : length x.1.tokens.now ≤ length c.tokens.now

pub record LeadsLinkage (c : Cursor) (x : Linkage × Cursor) : Type 0 where
  pub leads : (n : NameT) (ps : NamesT) (t : Option Scalar) (k : Option NumeralT) (s : List Symbol) (v : List Value) → run 64 (Want LinkageG ∷ s) (HeaderR n ps t k no_linkage ∷ v) (ahead c) ≡ run 64 s (HeaderR n ps t k (linkage_of x.0) ∷ v) (ahead x.1)
  pub within : length x.1.tokens.now ≤ length c.tokens.now

-- an item leads on within its block; where there is none, the statements begin
abbrev pub LeadsItem : Result (Option (Item × Cursor)) Failure → Cursor → ℕ → Type 0
LeadsItem (Ok (Some x)) c room = (l : Option NameT) (is : ItemsT) (s : List Symbol) (v : List Value) → depth s + room ≡ 64 → run 64 (Want (ItemsG l) ∷ s) (ItemsR is ∷ v) (ahead c) ≡ run 64 (Want (ItemsG l) ∷ s) (ItemsR (items is (item_of x.0)) ∷ v) (ahead x.1)
LeadsItem (Ok None) c room = (l : Option NameT) (s : List Symbol) (v : List Value) → run 64 (Want (ItemsG l) ∷ s) v (ahead c) ≡ run 64 (Want (StatementsG l) ∷ s) (StatementsR no_statements ∷ v) (ahead c)
LeadsItem (Err f) c room = (l : Option NameT) (is : ItemsT) (s : List Symbol) (v : List Value) → depth s + room ≡ 64 → Fails f (run 64 (Want (ItemsG l) ∷ s) (ItemsR is ∷ v) (ahead c))

abbrev pub WithinItem : Result (Option (Item × Cursor)) Failure → Cursor → Type 0
WithinItem (Ok (Some x)) c = length x.1.tokens.now < length c.tokens.now
WithinItem (Ok None) c = Unit {0}
WithinItem (Err f) c = Unit {0}

-- less is left than there was
abbrev pub Shrinks : {A : Type 0} → Result (A × Cursor) Failure → Cursor → Type 0
Shrinks (Ok x) c = length x.1.tokens.now < length c.tokens.now
Shrinks (Err f) c = Unit {0}

-- a whole module
abbrev pub Parses : Cursor → Result Module Failure → Type 0
Parses c (Ok m) = run 64 start [] (ahead c) ≡ Ok (record { awaited = []; read = ModuleR (module_of m) ∷ [] })
Parses c (Err f) = Fails f (run 64 start [] (ahead c))
