-- The parts of declarations that declare no literal, and those of statements that hold no block, leave the literals in force as they are.
use Rattle.std.proofs.Common.{◌≡◌, ℕ, List, Bool, true, false, Option, Some, None, refl}
use Rattle.plm_token.specs.declared.token.Keyword.TheVariants as key
use Rattle.plm_token.specs.declared.token.Mark.TheVariants as mark
use Rattle.plm_syntax.specs.declared.tree.Scalar.{Scalar}
use Rattle.plm_syntax.specs.Terminal.{NameT, NumeralT, Terminal, Name, Numeral, Key, Sign, leaf}
use Rattle.plm_syntax.specs.Tree.{ExpressionT, NamesT, no_names, names, VariableT, VariableOf, VariablesT, no_variables, variables, DeclaredT, OneVariable, VariableList, DimensionT, no_dimension, dimension, implicit_dimension, MemberT, OneMember, MemberList, MembersT, no_members, members, TypeT, ScalarType, StructureType, AtT, no_at, at_number, at_location, InitialT, no_initial, initial, constant_data, AttributesT, External, Attributes, LinkageT, no_linkage, public_linkage, external_linkage, ReferencesT, no_references, references}
use Rattle.plm_syntax.specs.Spelling.{scalar_key, listed_names, name_list, parenthesised_names, base, variable, listed_variables, variable_list, declared, in_parentheses, dimension_leaves, count, member_leaves, listed_members, member_list, type_leaves, at_leaves, initial_leaves, public, attributes, returned, interrupt, linkage, listed_references, targets, labels, step, put_leaf}
use Rattle.plm_syntax.specs.Literals.{LiteralText}
use Rattle.plm_syntax.specs.InForce.{at}
use Rattle.plm_syntax.proofs.Words.{word_of, is_calm, calm_scalar, Leads, nothing, one, join}
use Rattle.plm_syntax.proofs.CalmExpression.{leads_expression, leads_location, leads_reference, leads_value_list}

pub leads_listed_names : {L : List LiteralText} {S : List ℕ} (x0 : NamesT) → Leads (listed_names put_leaf x0) (listed_names (at L) x0) L S L S
leads_listed_names no_names = nothing
leads_listed_names (names ns n) = join (leads_listed_names ns) (join (one (leaf (Name n)) 0 refl) (one (leaf (Sign mark.Comma)) 0 refl))

pub leads_name_list : {L : List LiteralText} {S : List ℕ} (x0 : NamesT) → Leads (name_list put_leaf x0) (name_list (at L) x0) L S L S
leads_name_list no_names = nothing
leads_name_list (names ns n) = join (leads_listed_names ns) (one (leaf (Name n)) 0 refl)

pub leads_parenthesised_names : {L : List LiteralText} {S : List ℕ} (x0 : NamesT) → Leads (parenthesised_names put_leaf x0) (parenthesised_names (at L) x0) L S L S
leads_parenthesised_names no_names = nothing
leads_parenthesised_names (names ns n) = join (one (leaf (Sign mark.LeftParenthesis)) 0 refl) (join (leads_name_list (names ns n)) (one (leaf (Sign mark.RightParenthesis)) 0 refl))

pub leads_base : {L : List LiteralText} {S : List ℕ} (x0 : Option NameT) → Leads (base put_leaf x0) (base (at L) x0) L S L S
leads_base None = nothing
leads_base (Some n) = join (one (leaf (Key key.Based)) 0 refl) (one (leaf (Name n)) 0 refl)

pub leads_variable : {L : List LiteralText} {S : List ℕ} (x0 : VariableT) → Leads (variable put_leaf x0) (variable (at L) x0) L S L S
leads_variable (VariableOf n b) = join (one (leaf (Name n)) 0 refl) (leads_base b)

pub leads_listed_variables : {L : List LiteralText} {S : List ℕ} (x0 : VariablesT) → Leads (listed_variables put_leaf x0) (listed_variables (at L) x0) L S L S
leads_listed_variables no_variables = nothing
leads_listed_variables (variables vs v) = join (leads_listed_variables vs) (join (leads_variable v) (one (leaf (Sign mark.Comma)) 0 refl))

pub leads_variable_list : {L : List LiteralText} {S : List ℕ} (x0 : VariablesT) → Leads (variable_list put_leaf x0) (variable_list (at L) x0) L S L S
leads_variable_list no_variables = nothing
leads_variable_list (variables vs v) = join (leads_listed_variables vs) (leads_variable v)

pub leads_declared : {L : List LiteralText} {S : List ℕ} (x0 : DeclaredT) → Leads (declared put_leaf x0) (declared (at L) x0) L S L S
leads_declared (OneVariable v) = leads_variable v
leads_declared (VariableList vs) = join (one (leaf (Sign mark.LeftParenthesis)) 0 refl) (join (leads_variable_list vs) (one (leaf (Sign mark.RightParenthesis)) 0 refl))

pub leads_in_parentheses : {L : List LiteralText} {S : List ℕ} (x0 : Terminal) → is_calm (word_of x0) ≡ true → Leads (in_parentheses put_leaf x0) (in_parentheses (at L) x0) L S L S
leads_in_parentheses t c = join (one (leaf (Sign mark.LeftParenthesis)) 0 refl) (join (one (leaf t) 0 c) (one (leaf (Sign mark.RightParenthesis)) 0 refl))

pub leads_dimension_leaves : {L : List LiteralText} {S : List ℕ} (x0 : DimensionT) → Leads (dimension_leaves put_leaf x0) (dimension_leaves (at L) x0) L S L S
leads_dimension_leaves no_dimension = nothing
leads_dimension_leaves (dimension n) = leads_in_parentheses (Numeral n) refl
leads_dimension_leaves implicit_dimension = leads_in_parentheses (Sign mark.Star) refl

pub leads_count : {L : List LiteralText} {S : List ℕ} (x0 : Option NumeralT) → Leads (count put_leaf x0) (count (at L) x0) L S L S
leads_count None = nothing
leads_count (Some n) = leads_in_parentheses (Numeral n) refl

pub leads_member_leaves : {L : List LiteralText} {S : List ℕ} (x0 : MemberT) → Leads (member_leaves put_leaf x0) (member_leaves (at L) x0) L S L S
leads_member_leaves (OneMember n c s) = join (one (leaf (Name n)) 0 refl) (join (leads_count c) (one (leaf (scalar_key s)) 0 (calm_scalar s)))
leads_member_leaves (MemberList ns c s) = join (one (leaf (Sign mark.LeftParenthesis)) 0 refl) (join (leads_name_list ns) (join (one (leaf (Sign mark.RightParenthesis)) 0 refl) (join (leads_count c) (one (leaf (scalar_key s)) 0 (calm_scalar s)))))

pub leads_listed_members : {L : List LiteralText} {S : List ℕ} (x0 : MembersT) → Leads (listed_members put_leaf x0) (listed_members (at L) x0) L S L S
leads_listed_members no_members = nothing
leads_listed_members (members ms m) = join (leads_listed_members ms) (join (leads_member_leaves m) (one (leaf (Sign mark.Comma)) 0 refl))

pub leads_member_list : {L : List LiteralText} {S : List ℕ} (x0 : MembersT) → Leads (member_list put_leaf x0) (member_list (at L) x0) L S L S
leads_member_list no_members = nothing
leads_member_list (members ms m) = join (leads_listed_members ms) (leads_member_leaves m)

pub leads_type_leaves : {L : List LiteralText} {S : List ℕ} (x0 : TypeT) → Leads (type_leaves put_leaf x0) (type_leaves (at L) x0) L S L S
leads_type_leaves (ScalarType s) = one (leaf (scalar_key s)) 0 (calm_scalar s)
leads_type_leaves (StructureType ms) = join (one (leaf (Key key.Structure)) 0 refl) (join (one (leaf (Sign mark.LeftParenthesis)) 0 refl) (join (leads_member_list ms) (one (leaf (Sign mark.RightParenthesis)) 0 refl)))

pub leads_at_leaves : {L : List LiteralText} {S : List ℕ} (x0 y0 : ℕ) (x1 : AtT) → Leads (at_leaves put_leaf x0 x1) (at_leaves (at L) y0 x1) L S L S
leads_at_leaves d d' no_at = nothing
leads_at_leaves d d' (at_number n) = join (one (leaf (Key key.At)) 0 refl) (leads_in_parentheses (Numeral n) refl)
leads_at_leaves d d' (at_location l) = join (one (leaf (Key key.At)) 0 refl) (join (one (leaf (Sign mark.LeftParenthesis)) 0 refl) (join (leads_location d d' l) (one (leaf (Sign mark.RightParenthesis)) 0 refl)))

pub leads_initial_leaves : {L : List LiteralText} {S : List ℕ} (x0 y0 : ℕ) (x1 : InitialT) → Leads (initial_leaves put_leaf x0 x1) (initial_leaves (at L) y0 x1) L S L S
leads_initial_leaves d d' no_initial = nothing
leads_initial_leaves d d' (initial vs) = join (one (leaf (Key key.Initial)) 0 refl) (join (one (leaf (Sign mark.LeftParenthesis)) 0 refl) (join (leads_value_list d d' vs) (one (leaf (Sign mark.RightParenthesis)) 0 refl)))
leads_initial_leaves d d' (constant_data vs) = join (one (leaf (Key key.Data)) 0 refl) (join (one (leaf (Sign mark.LeftParenthesis)) 0 refl) (join (leads_value_list d d' vs) (one (leaf (Sign mark.RightParenthesis)) 0 refl)))

pub leads_public : {L : List LiteralText} {S : List ℕ} (x0 : Bool) → Leads (public put_leaf x0) (public (at L) x0) L S L S
leads_public true = one (leaf (Key key.Public)) 0 refl
leads_public false = nothing

pub leads_attributes : {L : List LiteralText} {S : List ℕ} (x0 y0 : ℕ) (x1 : AttributesT) → Leads (attributes put_leaf x0 x1) (attributes (at L) y0 x1) L S L S
leads_attributes d d' External = one (leaf (Key key.External)) 0 refl
leads_attributes d d' (Attributes p a i) = join (leads_public p) (join (leads_at_leaves d d' a) (leads_initial_leaves d d' i))

pub leads_returned : {L : List LiteralText} {S : List ℕ} (x0 : Option Scalar) → Leads (returned put_leaf x0) (returned (at L) x0) L S L S
leads_returned None = nothing
leads_returned (Some s) = one (leaf (scalar_key s)) 0 (calm_scalar s)

pub leads_interrupt : {L : List LiteralText} {S : List ℕ} (x0 : Option NumeralT) → Leads (interrupt put_leaf x0) (interrupt (at L) x0) L S L S
leads_interrupt None = nothing
leads_interrupt (Some n) = join (one (leaf (Key key.Interrupt)) 0 refl) (one (leaf (Numeral n)) 0 refl)

pub leads_linkage : {L : List LiteralText} {S : List ℕ} (x0 : LinkageT) → Leads (linkage put_leaf x0) (linkage (at L) x0) L S L S
leads_linkage no_linkage = nothing
leads_linkage public_linkage = one (leaf (Key key.Public)) 0 refl
leads_linkage external_linkage = one (leaf (Key key.External)) 0 refl

pub leads_listed_references : {L : List LiteralText} {S : List ℕ} (x0 y0 : ℕ) (x1 y1 : ℕ) (x2 : ReferencesT) → Leads (listed_references put_leaf x0 x1 x2) (listed_references (at L) y0 y1 x2) L S L S
leads_listed_references m m' d d' no_references = nothing
leads_listed_references m m' d d' (references no_references x) = join (leads_reference m m' d d' x) (one (leaf (Sign mark.Comma)) 0 refl)
leads_listed_references m m' d d' (references (references xs y) x) = join (leads_listed_references m m' d d' (references xs y)) (join (leads_reference 0 0 d d' x) (one (leaf (Sign mark.Comma)) 0 refl))

pub leads_targets : {L : List LiteralText} {S : List ℕ} (x0 y0 : ℕ) (x1 y1 : ℕ) (x2 : ReferencesT) → Leads (targets put_leaf x0 x1 x2) (targets (at L) y0 y1 x2) L S L S
leads_targets m m' d d' no_references = nothing
leads_targets m m' d d' (references no_references x) = leads_reference m m' d d' x
leads_targets m m' d d' (references (references xs y) x) = join (leads_listed_references m m' d d' (references xs y)) (leads_reference 0 0 d d' x)

pub leads_labels : {L : List LiteralText} {S : List ℕ} (x0 y0 : ℕ) (x1 : NamesT) → Leads (labels put_leaf x0 x1) (labels (at L) y0 x1) L S L S
leads_labels m m' no_names = nothing
leads_labels m m' (names no_names n) = join (one (leaf (Name n)) m refl) (one (leaf (Sign mark.Colon)) 0 refl)
leads_labels m m' (names (names ns l) n) = join (leads_labels m m' (names ns l)) (join (one (leaf (Name n)) 0 refl) (one (leaf (Sign mark.Colon)) 0 refl))

pub leads_step : {L : List LiteralText} {S : List ℕ} (x0 y0 : ℕ) (x1 : Option ExpressionT) → Leads (step put_leaf x0 x1) (step (at L) y0 x1) L S L S
leads_step d d' None = nothing
leads_step d d' (Some e) = join (one (leaf (Key key.By)) 0 refl) (leads_expression d d' e)
