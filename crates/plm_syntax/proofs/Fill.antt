-- Every stack of the machine can be made good.
use Rattle.std.proofs.Common.{ℕ, List, [], ◌∷◌, false, Some, None, refl, ap, arith}
use Rattle.plm_token.specs.declared.token.Keyword.TheVariants as key
use Rattle.plm_token.specs.declared.token.Mark.TheVariants as mark
use Rattle.plm_syntax.specs.declared.tree.Position.{Position}
use Rattle.plm_syntax.specs.declared.tree.Scalar.TheVariants as scalar
use Rattle.plm_syntax.specs.Terminal.{NameT, NumeralT, TextT, Name, Numeral, Text, Key, Sign, Finish, Leaf, leaf, leaf_at}
use Rattle.plm_syntax.specs.Tree.{NumeralE, ReferenceE, ReferenceOf, no_expressions, no_member, member, LocationOf, NumeralV, NegativeV, no_names, names, VariableOf, OneVariable, no_dimension, dimension, OneMember, ScalarType, no_at, at_number, no_initial, Attributes, LiteralElement, VariableElement, no_linkage, no_references, references, Labelled, EmptyS, AssignS, ReturnS, no_statements, statements, BlockOf, no_items, ModuleOf}
use Rattle.plm_syntax.specs.Spelling.{last_name, behind_labels, labels, put_leaf}
use Rattle.plm_syntax.specs.Inner.Symbol.{Goal, Symbol, depth_on, PrimaryG, SignedG, NegationG, MoreG, InsideG, AfterReferenceG, SubscriptsG, MoreSubscriptsG, SelectorG, MemberG, MemberSubscriptG, LocatedG, ValueG, NegativeG, MoreValuesG, StatementG, LeadG, TargetG, MoreTargetsG, CalledG, ReturnedG, ArmG, OtherwiseG, DoG, StepG, StatementsG, EndG, ItemsG, ItemLeadG, ItemColonG, ParametersG, ParameterG, MoreParametersG, ReturnedTypeG, InterruptG, InterruptNumberG, LinkageG, ElementG, ElementLeadG, LiteralTextG, VariableG, MoreVariablesG, BasedG, BaseG, DimensionG, DimensionBodyG, TypeG, MemberOfG, MemberNameG, MoreMemberNamesG, CountG, CountNumberG, MemberTypeG, MoreMembersG, AttributesG, AtG, AtBodyG, InitialG, MoreElementsG, ModuleG, StartG, Need, Want, Do, Leave}
use Rattle.plm_syntax.proofs.TableExpression.{left_most_of}
use Rattle.plm_syntax.proofs.TableBlock.{with_labels, along, assign_of, target_added, some_are_targets}
use Rattle.plm_syntax.proofs.GoalTrees.{Means, Awaits, Nested, PlainDo, with_else}

pub nowhere : Position
nowhere = record { token = 0; line = 0 }

abbrev pub zero_number : NumeralT
zero_number = record { value = 0; place = nowhere }

abbrev pub some_name : NameT
some_name = record { text = []; place = nowhere }

abbrev pub some_text : TextT
some_text = record { text = []; place = nowhere }

-- leaves that make good what is awaited
pub record Filled (M : List Leaf → Type 0) : Type 0 where
  pub leaves : List Leaf
  pub good : M leaves

pub fill : (g : Goal) (d : ℕ) (K : List Leaf → Type 0) (ls : List Leaf) → K ls → Filled (Means g d K)
fill PrimaryG d K ls k = record { leaves = leaf (Numeral zero_number) ∷ ls; good = record { part = NumeralE zero_number; rest = ls; ok = (omega arith, tt); is = refl; goes = k } }
fill SignedG d K ls k = record { leaves = leaf (Numeral zero_number) ∷ ls; good = record { part = NumeralE zero_number; rest = ls; ok = (omega arith, tt); is = refl; goes = k } }
fill NegationG d K ls k = record { leaves = leaf (Numeral zero_number) ∷ ls; good = record { part = NumeralE zero_number; rest = ls; ok = (omega arith, tt); is = refl; goes = k } }
fill (MoreG a) d K ls k = record { leaves = ls; good = λ e le we. record { part = e; rest = ls; ok = (omega (arith, le, left_most_of a), we); is = refl; goes = k } }
fill (InsideG a) d K ls k = record { leaves = leaf (Numeral zero_number) ∷ leaf (Sign mark.RightParenthesis) ∷ ls; good = record { part = Nested (NumeralE zero_number); rest = ls; ok = tt; is = refl; goes = k } }
fill (AfterReferenceG a) d K ls k = record { leaves = leaf (Sign mark.RightParenthesis) ∷ ls; good = λ x o. record { part = Nested (ReferenceE x); rest = ls; ok = o; is = refl; goes = k } }
fill SubscriptsG d K ls k = record { leaves = ls; good = record { part = no_expressions; rest = ls; ok = tt; is = refl; goes = k } }
fill MoreSubscriptsG d K ls k = record { leaves = leaf (Sign mark.RightParenthesis) ∷ ls; good = λ es o. record { part = es; rest = ls; ok = o; is = refl; goes = k } }
fill SelectorG d K ls k = record { leaves = ls; good = record { part = no_member; rest = ls; ok = tt; is = refl; goes = k } }
fill MemberG d K ls k = record { leaves = leaf (Name some_name) ∷ ls; good = record { part = member some_name; rest = ls; ok = tt; is = refl; goes = k } }
fill MemberSubscriptG d K ls k = record { leaves = ls; good = λ n. record { part = member n; rest = ls; ok = tt; is = refl; goes = k } }
fill (LocatedG a b) d K ls k = record { leaves = leaf (Name some_name) ∷ ls; good = record { part = LocationOf a b (ReferenceOf some_name no_expressions no_member); rest = ls; ok = (tt, tt); is = refl; goes = k } }
fill ValueG d K ls k = record { leaves = leaf (Numeral zero_number) ∷ ls; good = record { part = NumeralV zero_number; rest = ls; ok = tt; is = refl; goes = k } }
fill NegativeG d K ls k = record { leaves = leaf (Numeral zero_number) ∷ ls; good = record { part = NegativeV zero_number; rest = ls; ok = tt; is = refl; goes = k } }
fill MoreValuesG d K ls k = record { leaves = leaf (Sign mark.RightParenthesis) ∷ ls; good = λ vs o. record { part = vs; rest = ls; ok = o; is = refl; goes = k } }
fill (StatementG a) d K ls k = record { leaves = leaf_at (Sign mark.Semicolon) nowhere ∷ ls; good = λ m ns e. with_labels m d K a ns e (EmptyS nowhere) tt (leaf_at (Sign mark.Semicolon) nowhere ∷ ls) ls refl (λ h. refl) k }
fill (LeadG a) d K ls k = record { leaves = leaf (Sign mark.Equal) ∷ leaf (Numeral zero_number) ∷ leaf (Sign mark.Semicolon) ∷ ls; good = λ m ns. assign_of m d K ns (references no_references (ReferenceOf a no_expressions no_member)) (tt, (tt, tt)) (NumeralE zero_number) tt (leaf (Numeral zero_number) ∷ leaf (Sign mark.Semicolon) ∷ ls) ls refl k }
fill TargetG d K ls k = record { leaves = leaf (Name some_name) ∷ leaf (Sign mark.Equal) ∷ leaf (Numeral zero_number) ∷ leaf (Sign mark.Semicolon) ∷ ls; good = λ m ns xs o. along m d K _ _ (ap (labels put_leaf m ns) (target_added (behind_labels m ns) d xs o (ReferenceOf some_name no_expressions no_member) (leaf (Sign mark.Equal) ∷ leaf (Numeral zero_number) ∷ leaf (Sign mark.Semicolon) ∷ ls))) (assign_of m d K ns (references xs (ReferenceOf some_name no_expressions no_member)) (some_are_targets xs o, (tt, tt)) (NumeralE zero_number) tt (leaf (Numeral zero_number) ∷ leaf (Sign mark.Semicolon) ∷ ls) ls refl k) }
fill MoreTargetsG d K ls k = record { leaves = leaf (Sign mark.Equal) ∷ leaf (Numeral zero_number) ∷ leaf (Sign mark.Semicolon) ∷ ls; good = λ m ns xs o. assign_of m d K ns xs o (NumeralE zero_number) tt (leaf (Numeral zero_number) ∷ leaf (Sign mark.Semicolon) ∷ ls) ls refl k }
fill CalledG d K ls k = record { leaves = leaf (Name some_name) ∷ ls; good = record { part = ReferenceOf some_name no_expressions no_member; rest = ls; ok = (tt, tt); is = refl; goes = k } }
fill (ReturnedG a) d K ls k = record { leaves = leaf (Sign mark.Semicolon) ∷ ls; good = λ m ns. with_labels m d K (last_name ns) ns refl (ReturnS a) tt (leaf_at (Key key.Return) a ∷ leaf (Sign mark.Semicolon) ∷ ls) ls refl (λ h. refl) k }
fill ArmG d K ls k = record { leaves = leaf_at (Sign mark.Semicolon) nowhere ∷ ls; good = record { part = Labelled no_names (EmptyS nowhere); rest = ls; ok = tt; is = refl; closed = λ h. refl; goes = k } }
fill OtherwiseG d K ls k = record { leaves = leaf (Key key.Else) ∷ leaf_at (Sign mark.Semicolon) nowhere ∷ ls; good = with_else (leaf_at (Sign mark.Semicolon) nowhere ∷ ls) refl (record { part = Labelled no_names (EmptyS nowhere); rest = ls; ok = tt; is = refl; closed = λ h. refl; goes = k }) }
fill (DoG a b) d K ls k = record { leaves = leaf (Sign mark.Semicolon) ∷ leaf (Key key.End) ∷ leaf (Sign mark.Semicolon) ∷ ls; good = record { part = PlainDo no_items no_statements None; rest = ls; ok = ((tt, tt), tt); is = refl; goes = k } }
fill StepG d K ls k = record { leaves = ls; good = record { part = None; rest = ls; ok = tt; is = refl; goes = k } }
fill (StatementsG a) d K ls k = record { leaves = leaf (Key key.End) ∷ leaf (Sign mark.Semicolon) ∷ ls; good = λ ss o. record { part = record { list = ss; name = None }; rest = ls; ok = (o, tt); is = refl; goes = k } }
fill (EndG a) d K ls k = record { leaves = leaf (Sign mark.Semicolon) ∷ ls; good = record { part = None; rest = ls; ok = tt; is = refl; goes = k } }
fill (ItemsG a) d K ls k = record { leaves = leaf (Key key.End) ∷ leaf (Sign mark.Semicolon) ∷ ls; good = λ is o. record { part = record { front = is; list = no_statements; name = None }; rest = ls; ok = (o, tt, tt); is = refl; goes = k } }
fill (ItemLeadG a b) d K ls k = record { leaves = leaf (Sign mark.Equal) ∷ leaf (Numeral zero_number) ∷ leaf (Sign mark.Semicolon) ∷ leaf (Key key.End) ∷ leaf (Sign mark.Semicolon) ∷ ls; good = λ is o. record { part = record { front = is; list = statements no_statements (Labelled no_names (AssignS (references no_references (ReferenceOf a no_expressions no_member)) (NumeralE zero_number))); name = None }; rest = ls; ok = (o, (tt, ((tt, (tt, tt)), tt)), tt); is = refl; goes = k } }
fill (ItemColonG a b) d K ls k = record { leaves = leaf_at (Sign mark.Semicolon) nowhere ∷ leaf (Key key.End) ∷ leaf (Sign mark.Semicolon) ∷ ls; good = λ is o. record { part = record { front = is; list = statements no_statements (Labelled (names no_names a) (EmptyS nowhere)); name = None }; rest = ls; ok = (o, (tt, tt), tt); is = refl; goes = k } }
fill ParametersG d K ls k = record { leaves = ls; good = record { part = no_names; rest = ls; ok = tt; is = refl; goes = k } }
fill ParameterG d K ls k = record { leaves = leaf (Name some_name) ∷ ls; good = record { part = some_name; rest = ls; ok = tt; is = refl; goes = k } }
fill MoreParametersG d K ls k = record { leaves = leaf (Sign mark.RightParenthesis) ∷ ls; good = λ ns o. record { part = ns; rest = ls; ok = o; is = refl; goes = k } }
fill ReturnedTypeG d K ls k = record { leaves = ls; good = record { part = None; rest = ls; ok = tt; is = refl; goes = k } }
fill InterruptG d K ls k = record { leaves = ls; good = record { part = None; rest = ls; ok = tt; is = refl; goes = k } }
fill InterruptNumberG d K ls k = record { leaves = leaf (Numeral zero_number) ∷ ls; good = record { part = Some zero_number; rest = ls; ok = tt; is = refl; goes = k } }
fill LinkageG d K ls k = record { leaves = ls; good = record { part = no_linkage; rest = ls; ok = tt; is = refl; goes = k } }
fill ElementG d K ls k = record { leaves = leaf (Name some_name) ∷ leaf (Key key.Byte) ∷ ls; good = record { part = VariableElement (OneVariable (VariableOf some_name None)) no_dimension (ScalarType scalar.Byte) (Attributes false no_at no_initial); rest = ls; ok = (tt, tt, (tt, tt)); is = refl; goes = k } }
fill ElementLeadG d K ls k = record { leaves = leaf (Key key.Byte) ∷ ls; good = λ n. record { part = VariableElement (OneVariable (VariableOf n None)) no_dimension (ScalarType scalar.Byte) (Attributes false no_at no_initial); rest = ls; ok = (tt, tt, (tt, tt)); is = refl; goes = k } }
fill LiteralTextG d K ls k = record { leaves = leaf (Text some_text) ∷ ls; good = λ n. record { part = LiteralElement n some_text; rest = ls; ok = tt; is = refl; goes = k } }
fill VariableG d K ls k = record { leaves = leaf (Name some_name) ∷ ls; good = record { part = VariableOf some_name None; rest = ls; ok = tt; is = refl; goes = k } }
fill MoreVariablesG d K ls k = record { leaves = leaf (Sign mark.RightParenthesis) ∷ ls; good = λ xs o. record { part = xs; rest = ls; ok = o; is = refl; goes = k } }
fill BasedG d K ls k = record { leaves = ls; good = record { part = None; rest = ls; ok = tt; is = refl; goes = k } }
fill BaseG d K ls k = record { leaves = leaf (Name some_name) ∷ ls; good = record { part = Some some_name; rest = ls; ok = tt; is = refl; goes = k } }
fill DimensionG d K ls k = record { leaves = ls; good = record { part = no_dimension; rest = ls; ok = tt; is = refl; goes = k } }
fill DimensionBodyG d K ls k = record { leaves = leaf (Numeral zero_number) ∷ leaf (Sign mark.RightParenthesis) ∷ ls; good = record { part = dimension zero_number; rest = ls; ok = tt; is = refl; goes = k } }
fill TypeG d K ls k = record { leaves = leaf (Key key.Byte) ∷ ls; good = record { part = ScalarType scalar.Byte; rest = ls; ok = tt; is = refl; goes = k } }
fill MemberOfG d K ls k = record { leaves = leaf (Name some_name) ∷ leaf (Key key.Byte) ∷ ls; good = record { part = OneMember some_name None scalar.Byte; rest = ls; ok = tt; is = refl; goes = k } }
fill MemberNameG d K ls k = record { leaves = leaf (Name some_name) ∷ ls; good = record { part = some_name; rest = ls; ok = tt; is = refl; goes = k } }
fill MoreMemberNamesG d K ls k = record { leaves = leaf (Sign mark.RightParenthesis) ∷ ls; good = λ ns o. record { part = ns; rest = ls; ok = o; is = refl; goes = k } }
fill CountG d K ls k = record { leaves = ls; good = record { part = None; rest = ls; ok = tt; is = refl; goes = k } }
fill CountNumberG d K ls k = record { leaves = leaf (Numeral zero_number) ∷ leaf (Sign mark.RightParenthesis) ∷ ls; good = record { part = Some zero_number; rest = ls; ok = tt; is = refl; goes = k } }
fill MemberTypeG d K ls k = record { leaves = leaf (Key key.Byte) ∷ ls; good = record { part = scalar.Byte; rest = ls; ok = tt; is = refl; goes = k } }
fill MoreMembersG d K ls k = record { leaves = leaf (Sign mark.RightParenthesis) ∷ ls; good = λ ms o. record { part = ms; rest = ls; ok = o; is = refl; goes = k } }
fill AttributesG d K ls k = record { leaves = ls; good = record { part = Attributes false no_at no_initial; rest = ls; ok = (tt, tt); is = refl; goes = k } }
fill AtG d K ls k = record { leaves = ls; good = record { part = no_at; rest = ls; ok = tt; is = refl; goes = k } }
fill AtBodyG d K ls k = record { leaves = leaf (Numeral zero_number) ∷ ls; good = record { part = at_number zero_number; rest = ls; ok = tt; is = refl; goes = k } }
fill InitialG d K ls k = record { leaves = ls; good = record { part = no_initial; rest = ls; ok = tt; is = refl; goes = k } }
fill MoreElementsG d K ls k = record { leaves = leaf (Sign mark.Semicolon) ∷ ls; good = λ es o. record { part = es; rest = ls; ok = o; is = refl; goes = k } }
fill (ModuleG a) d K ls k = record { leaves = leaf (Key key.Do) ∷ leaf (Sign mark.Semicolon) ∷ leaf (Key key.End) ∷ leaf (Sign mark.Semicolon) ∷ leaf Finish ∷ ls; good = record { part = ModuleOf a (BlockOf no_items no_statements) None; rest = ls; ok = ((tt, tt), tt); is = refl; goes = k } }
fill StartG d K ls k = record { leaves = leaf (Name some_name) ∷ leaf (Sign mark.Colon) ∷ leaf (Key key.Do) ∷ leaf (Sign mark.Semicolon) ∷ leaf (Key key.End) ∷ leaf (Sign mark.Semicolon) ∷ leaf Finish ∷ ls; good = record { part = ModuleOf some_name (BlockOf no_items no_statements) None; rest = ls; ok = ((tt, tt), tt); is = refl; goes = k } }

-- every stack can be made good
pub fill_all : (s : List Symbol) (d : ℕ) (K : List Leaf → Type 0) (ls : List Leaf) → K ls → Filled (Awaits s d K)
fill_all [] d K ls k = record { leaves = ls; good = k }
fill_all (Need t ∷ s) d K ls k = let f = fill_all s d K ls k in record { leaves = leaf t ∷ f.leaves; good = record { rest = f.leaves; is = refl; goes = f.good } }
fill_all (Want g ∷ s) d K ls k = let f = fill_all s d K ls k in fill g (depth_on s d) (Awaits s d K) f.leaves f.good
fill_all (Do a ∷ s) d K ls k = fill_all s d K ls k
fill_all (Leave ∷ s) d K ls k = fill_all s d K ls k
