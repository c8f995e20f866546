-- The literals in force at each token of a module, told from its tree: those that are declared before it, in the blocks around it.
use Rattle.std.specs.Prelude.{◌≡◌, ℕ, zero, suc, ◌≤◌, List, [], ◌∷◌, ◌++◌, length, take, fold, true, Contains, Option, Some, None, Result, Ok, Err}
use Rattle.word86.specs.declared.number.Number.{Number}
use Rattle.plm_token.specs.declared.token.Keyword.TheVariants as key
use Rattle.plm_token.specs.declared.token.Mark.TheVariants as mark
use Rattle.plm_token.specs.declared.token.Kind.TheVariants.{Identifier}
use Rattle.plm_token.specs.Names.{names_equal}
use Rattle.plm_token.specs.Scanner.{Lexeme}
use Rattle.plm_token.specs.Literals.{Symbol, literal_of}
use Rattle.plm_syntax.specs.Terminal.{NameT, Name, Finish, Leaf}
use Rattle.plm_syntax.specs.Tree.{ElementT, LiteralElement, VariableElement, ElementsT, no_elements, elements, StatementT, Labelled, BasicT, EmptyS, AssignS, CallS, ReturnS, ReturnValueS, EnableS, DisableS, HaltS, IfS, IfElseS, DoS, WhileS, CaseS, IterateS, StatementsT, no_statements, statements, BlockT, BlockOf, ItemsT, no_items, items, ItemT, DeclareI, ProcedureI, ModuleT, ModuleOf}
use Rattle.plm_syntax.specs.Spelling.{tok, sign, word, expression, parenthesised_names, element, returned, interrupt, linkage, ending, labels, step, basic}
use Rattle.plm_syntax.specs.Sentence.{Spells}
use Rattle.plm_syntax.specs.Literals.{LiteralText, Out, between, literal_for, put_source, text_out, nothing_out, expanded}
use Rattle.plm_syntax.specs.Faults.{text_tokens}

-- literals, the oldest first
abbrev pub Table : Type 0
Table = List LiteralText

-- ---- what is declared

-- a text with a fault declares nothing; no module has one
abbrev pub literal_named : List ℕ → Result (List Symbol) Number → Table
literal_named name (Ok text) = record { name = name; text = text } ∷ []
literal_named name (Err number) = []

abbrev pub literals_of_element : ElementT → Table
literals_of_element (LiteralElement n s) = literal_named n.text (literal_of (between s.text))
literals_of_element (VariableElement v c t a) = []

abbrev pub literals_of_elements : ElementsT → Table
literals_of_elements no_elements = []
literals_of_elements (elements es e) = literals_of_elements es ++ literals_of_element e

-- what a procedure declares is its own
abbrev pub literals_of_item : ItemT → Table
literals_of_item (DeclareI p es) = literals_of_elements es
literals_of_item (ProcedureI n ps s i l b e) = []

abbrev pub literals_of_items : ItemsT → Table
literals_of_items no_items = []
literals_of_items (items is i) = literals_of_items is ++ literals_of_item i

-- ---- what is in force

-- A token where the literals ls are in force.
abbrev pub at : Table → Leaf → ℕ → List Table → List Table
at ls l depth r = ls ∷ r

-- Each function puts what is in force at the tokens of a part before what is in force at those that follow. It is told what is in force where the part
-- begins. How deep a part stands makes no difference.

-- elements, each with a comma after it: a literal is in force after its own element
abbrev pub in_listed : Table → ElementsT → List Table → List Table
in_listed ls no_elements r = r
in_listed ls (elements es e) r = in_listed ls es (element (at (ls ++ literals_of_elements es)) 0 e (sign (at (ls ++ literals_of_elements (elements es e))) mark.Comma r))

abbrev pub in_elements : Table → ElementsT → List Table → List Table
in_elements ls no_elements r = r
in_elements ls (elements es e) r = in_listed ls es (element (at (ls ++ literals_of_elements es)) 0 e r)

abbrev mutual
  pub in_statement : Table → StatementT → List Table → List Table
  in_statement ls (Labelled ns b) r = labels (at ls) 0 ns (in_basic ls b r)

  -- in a statement without statements nothing is declared
  pub in_basic : Table → BasicT → List Table → List Table
  in_basic ls (EmptyS p) r = basic (at ls) 0 0 (EmptyS p) r
  in_basic ls (AssignS xs e) r = basic (at ls) 0 0 (AssignS xs e) r
  in_basic ls (CallS p x) r = basic (at ls) 0 0 (CallS p x) r
  in_basic ls (ReturnS p) r = basic (at ls) 0 0 (ReturnS p) r
  in_basic ls (ReturnValueS p e) r = basic (at ls) 0 0 (ReturnValueS p e) r
  in_basic ls (EnableS p) r = basic (at ls) 0 0 (EnableS p) r
  in_basic ls (DisableS p) r = basic (at ls) 0 0 (DisableS p) r
  in_basic ls (HaltS p) r = basic (at ls) 0 0 (HaltS p) r
  in_basic ls (IfS p e s) r = word (at ls) key.If (expression (at ls) 0 e (word (at ls) key.Then (in_statement ls s r)))
  in_basic ls (IfElseS p e s t) r = word (at ls) key.If (expression (at ls) 0 e (word (at ls) key.Then (in_statement ls s (word (at ls) key.Else (in_statement ls t r)))))
  in_basic ls (DoS p b n) r = word (at ls) key.Do (sign (at ls) mark.Semicolon (in_block ls b n r))
  in_basic ls (WhileS p e ss n) r = word (at ls) key.Do (word (at ls) key.While (expression (at ls) 0 e (sign (at ls) mark.Semicolon (in_statements ls ss (ending (at ls) n r)))))
  in_basic ls (CaseS p e ss n) r = word (at ls) key.Do (word (at ls) key.Case (expression (at ls) 0 e (sign (at ls) mark.Semicolon (in_statements ls ss (ending (at ls) n r)))))
  in_basic ls (IterateS p i a b s ss n) r = word (at ls) key.Do (tok (at ls) (Name i) (sign (at ls) mark.Equal (expression (at ls) 0 a (word (at ls) key.To (expression (at ls) 0 b (step (at ls) 0 s (sign (at ls) mark.Semicolon (in_statements ls ss (ending (at ls) n r)))))))))

  pub in_statements : Table → StatementsT → List Table → List Table
  in_statements ls no_statements r = r
  in_statements ls (statements ss s) r = in_statements ls ss (in_statement ls s r)

  -- A block with its END: its items' literals are in force in its statements and at its END, and no more after it.
  pub in_block : Table → BlockT → Option NameT → List Table → List Table
  in_block ls (BlockOf is ss) n r = in_items ls is (in_statements (ls ++ literals_of_items is) ss (ending (at (ls ++ literals_of_items is)) n r))

  -- at each item those are in force that the items before it declare
  pub in_items : Table → ItemsT → List Table → List Table
  in_items ls no_items r = r
  in_items ls (items is i) r = in_items ls is (in_item (ls ++ literals_of_items is) i r)

  pub in_item : Table → ItemT → List Table → List Table
  in_item ls (DeclareI p es) r = word (at ls) key.Declare (in_elements ls es (sign (at (ls ++ literals_of_elements es)) mark.Semicolon r))
  in_item ls (ProcedureI n ps s i l b e) r = tok (at ls) (Name n) (sign (at ls) mark.Colon (word (at ls) key.Procedure (parenthesised_names (at ls) ps (returned (at ls) s (interrupt (at ls) i (linkage (at ls) l (sign (at ls) mark.Semicolon (in_block ls b e r))))))))

-- what is in force at each token of a module, and at the end of the text
abbrev pub tables_of : ModuleT → List Table
tables_of (ModuleOf n b e) = tok (at []) (Name n) (sign (at []) mark.Colon (word (at []) key.Do (sign (at []) mark.Semicolon (in_block [] b e (tok (at []) Finish [])))))

abbrev pub table_at : List Table → ℕ → Table
table_at [] n = []
table_at (ls ∷ more) zero = ls
table_at (ls ∷ more) (suc n) = table_at more n

-- The literals in force at token n of a module, counted from 0.
abbrev pub in_force : ModuleT → ℕ → Table
in_force m n = table_at (tables_of m) n

-- ---- the law

-- tokens put out one after the other
abbrev pub put_all : List Lexeme → Out
put_all ts = fold (λ o t. put_source t o) nothing_out ts

-- Token s is read where o has come out, with `depth` replacements left that may be made one inside the other: a token of the source, or one of the
-- text of a literal that was read.
pub data IsRead (source : List Lexeme) : ℕ → ℕ → Symbol → Out → Type 0 where
  of_source : (front back : List Lexeme) (t : Lexeme) → source ≡ front ++ t ∷ back → IsRead source 8 t.line (record { kind = t.kind; text = t.text }) (expanded front)
  of_text : (depth line : ℕ) (s : Symbol) (o : Out) (l : LiteralText) (front back : List Symbol) (x : Symbol) → IsRead source (suc depth) line s o → literal_for o.blocks.literals s.kind s.text ≡ Some l → l.text ≡ front ++ x ∷ back → IsRead source depth line x (text_out depth line front o)

-- The literals by which a source is replaced are those in force in the module that it spells then.
pub record AreInForce (source : List Lexeme) (m : ModuleT) : Type 0 where
  -- wherever a token is read
  pub where_read : (depth line : ℕ) (s : Symbol) (o : Out) → IsRead source depth line s o → o.blocks.literals ≡ in_force m (length o.tokens)
  -- at each token that comes out; they come out one after the other
  pub one_by_one : expanded source ≡ put_all (expanded source).tokens
  pub at_token : (n : ℕ) → n ≤ length (expanded source).tokens → (put_all (take n (expanded source).tokens)).blocks.literals ≡ in_force m n
  -- No two of them have one name: a name stands for the literal that is declared by it, however either is spelled.
  pub found : (n : ℕ) → n ≤ length (expanded source).tokens → (l : LiteralText) → Contains (in_force m n) l → (text : List ℕ) → names_equal l.name text ≡ true → literal_for (in_force m n) Identifier text ≡ Some l

abbrev pub LiteralsInForce : Type 0
LiteralsInForce = (source : List Lexeme) (m : ModuleT) → (expanded source).stop ≡ None → Spells m (text_tokens (expanded source)) → AreInForce source m
