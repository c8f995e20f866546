-- What is known of an expression before any run, and the code of what is not.
use Rattle.std.proofs.Common.{◌≡◌, ℕ, ◌+◌, Bool, List, [], ◌∷◌, ◌++◌, length, Option, Some, None, refl, sym, ap, ◌∙◌, append_assoc, append-nil}
use Rattle.std.proofs.lemmas.Option.{none-some, same_Some}
use Rattle.word86.specs.declared.width.Width.{Width}
use Rattle.word86.specs.declared.width.Width.TheVariants as widths
use Rattle.word86.specs.declared.operation.UnaryOperation.{UnaryOperation}
use Rattle.word86.specs.declared.operation.BinaryOperation.{BinaryOperation}
use Rattle.word86.specs.declared.place.Place.{Place}
use Rattle.plm_type.specs.declared.program.Counting.{Counting}
use Rattle.plm_type.specs.declared.program.Operation.{Operation}
use Rattle.plm_type.specs.Rest.{Scalar, Expression, Constant, Plain, Variable, Location, Unary, Binary, Embedded, Input, Call, Value, Passing, Running, Procedure}
use Rattle.plm_type.specs.View.{expression_of, chained}
use Rattle.icode.specs.declared.instruction.Instruction.{Instruction}
use Rattle.icode.specs.declared.instruction.Instruction.TheVariants as op
use Rattle.icode.specs.declared.instruction.Test.{Test}
use Rattle.lower.specs.Expressions.{unary_folded, binary_folded, folded, unless_known, Operand, Number, Name, Computed, number_of, operand_of, place_of, beside, operation, receiving, sending, argument_code, expression_code}
use Rattle.lower.specs.Statements.{within, next_by_number, add_pushed, next_round, index_read}
use Rattle.lower.specs.Conditions.{named, unless_named, compared_by}
use Rattle.lower.specs.Inner.Loops.{counting, iterating}
use Rattle.lower.specs.Inner.Expressions.{unless_found, given, unary_code, computed_beside, binary_value_of, binary_code_of, received, sent, operation_value, chain_value, unknown_code, operation_code, chain_code}
use Rattle.lower.specs.Inner.Put.{name_of}

-- ---- an operand is a number where the value is known

module _ (P : Operand → Option ℕ → Type 0) (number : (k : ℕ) → P (Number k) (Some k)) (name : (w : Width) (y : Place) → P (Name w y) None) (computed : P Computed None) where
  by_value : (z : Option ℕ) → P (number_of z) z
  by_value (Some k) = number k
  by_value None = computed

  pub by_operand : (e : Expression) → P (operand_of e) (folded e)
  by_operand (Constant k) = number k
  by_operand (Plain w x) = name w (place_of x)
  by_operand (Unary o w e) = by_value (folded (Unary o w e))
  by_operand (Binary m l o w a b) = by_value (folded (Binary m l o w a b))
  by_operand (Variable w r) = computed
  by_operand (Location r) = computed
  by_operand (Embedded t e) = computed
  by_operand (Input w e) = computed
  by_operand (Call p es) = computed
  by_operand (Value v) = computed
  by_operand (Passing p xs vs) = computed
  by_operand (Running ss) = computed

pub number_is : (e : Expression) (k : ℕ) → folded e ≡ Some k → operand_of e ≡ Number k
number_is e = by_operand (λ q z. (k : ℕ) → z ≡ Some k → q ≡ Number k) (λ j k h. ap Number (same_Some j k h)) (λ w y k h. absurd (none-some k h)) (λ k h. absurd (none-some k h)) e

pub computed_is : (e : Expression) → folded e ≡ None → name_of (operand_of e) ≡ None → operand_of e ≡ Computed
computed_is e = by_operand (λ q z. z ≡ None → name_of q ≡ None → q ≡ Computed) (λ k h g. absurd (none-some k (sym h))) (λ w y h g. absurd (none-some (w, y) (sym g))) (λ h g. refl) e

pub name_is : (q : Operand) (w : Width) (y : Place) → name_of q ≡ Some (w, y) → q ≡ Name w y
name_is (Number k) w y h = absurd (none-some (w, y) h)
name_is (Name v z) w y h = ap (λ (p : Width × Place). Name p.0 p.1) (same_Some (v, z) (w, y) h)
name_is Computed w y h = absurd (none-some (w, y) h)

pub argument_computed : (w : Width) (code : List Instruction) → code ≡ argument_code w Computed code
argument_computed widths.Byte code = refl
argument_computed widths.Word code = refl

-- ---- what is taken back

-- ---- the code of an expression, by what is known of it

pub known_code : (ps : List Procedure) (e : Expression) (k : ℕ) → folded e ≡ Some k → expression_code ps e ≡ op.Constant k ∷ []
known_code ps (Constant j) k h = ap (λ v. op.Constant v ∷ []) (same_Some j k h)
known_code ps (Unary o w e) k h = ap (λ z. unless_known z (expression_code ps e ++ op.Unary o w ∷ [])) h
known_code ps (Binary m l o w a b) k h = ap (λ z. unless_known z (expression_code ps a ++ (beside (operand_of b) (expression_code ps b) ++ operation o w (operand_of b) ∷ []))) h
known_code ps (Plain w x) k h = absurd (none-some k h)
known_code ps (Variable w r) k h = absurd (none-some k h)
known_code ps (Location r) k h = absurd (none-some k h)
known_code ps (Embedded t e) k h = absurd (none-some k h)
known_code ps (Input w e) k h = absurd (none-some k h)
known_code ps (Call p es) k h = absurd (none-some k h)
known_code ps (Value v) k h = absurd (none-some k h)
known_code ps (Passing p xs vs) k h = absurd (none-some k h)
known_code ps (Running ss) k h = absurd (none-some k h)

nameless : (z : Option ℕ) (w : Width) (y : Place) → number_of z ≡ Name w y → ⊥
nameless (Some k) w y h = cc
nameless None w y h = cc

-- a plain variable's code
pub name_code : (ps : List Procedure) (e : Expression) (w : Width) (y : Place) → operand_of e ≡ Name w y → expression_code ps e ≡ op.Load w y ∷ []
name_code ps (Plain v x) w y h = ap (λ q. loads q) h
  where
    loads : Operand → List Instruction
    loads (Number k) = []
    loads (Name w y) = op.Load w y ∷ []
    loads Computed = []
name_code ps (Constant k) w y h = absurd cc
name_code ps (Unary o v e) w y h = absurd (nameless (folded (Unary o v e)) w y h)
name_code ps (Binary m l o v a b) w y h = absurd (nameless (folded (Binary m l o v a b)) w y h)
name_code ps (Variable v r) w y h = absurd cc
name_code ps (Location r) w y h = absurd cc
name_code ps (Embedded t e) w y h = absurd cc
name_code ps (Input v e) w y h = absurd cc
name_code ps (Call p es) w y h = absurd cc
name_code ps (Value v) w y h = absurd cc
name_code ps (Passing p xs vs) w y h = absurd cc
name_code ps (Running ss) w y h = absurd cc

pub given_code : (ps : List Procedure) (e : Expression) → unknown_code ps e ++ given (folded e) ≡ expression_code ps e
given_code ps e = by (folded e) (known_code ps e)
  where
    by : (z : Option ℕ) → ((k : ℕ) → z ≡ Some k → expression_code ps e ≡ op.Constant k ∷ []) → unless_found z (expression_code ps e) ++ given z ≡ expression_code ps e
    by (Some k) is = sym (is k refl)
    by None is = append-nil (expression_code ps e)

pub unary_unknown : (ps : List Procedure) (o : UnaryOperation) (w : Width) (e : Expression) → unknown_code ps (Unary o w e) ≡ unknown_code ps e ++ unary_code o w (folded e)
unary_unknown ps o w e = by (folded e)
  where
    by : (z : Option ℕ) → unless_found (unary_folded o w z) (unless_known (unary_folded o w z) (expression_code ps e ++ op.Unary o w ∷ [])) ≡ unless_found z (expression_code ps e) ++ unary_code o w z
    by (Some v) = refl
    by None = refl

-- ---- operators after a left operand

pub value_with : (y : Option ℕ) (o : BinaryOperation) (w : Width) (e : Expression) → binary_folded o w y (folded e) ≡ binary_value_of y o w (operand_of e)
value_with y o w e = by_operand (λ q z. binary_folded o w y z ≡ binary_value_of y o w q) (λ k. refl) (λ v x. nothing y) (nothing y) e
  where
    nothing : (y : Option ℕ) → binary_folded o w y None ≡ None
    nothing (Some x) = refl
    nothing None = refl

pub found_twice : (z : Option ℕ) (code : List Instruction) → unless_found z (unless_known z code) ≡ unless_found z code
found_twice (Some k) code = refl
found_twice None code = refl

operated_unknown : (o : BinaryOperation) (w : Width) (y z : Option ℕ) (code right : List Instruction) → ((k : ℕ) → y ≡ Some k → code ≡ op.Constant k ∷ [])
    → unless_found (binary_folded o w y z) (unless_known (binary_folded o w y z) (code ++ right)) ≡ unless_found y code ++ unless_found (binary_folded o w y z) (given y ++ right)
operated_unknown o w (Some k) z code right is = found_twice (binary_folded o w (Some k) z) (code ++ right) ∙ ap (λ c. unless_found (binary_folded o w (Some k) z) (c ++ right)) (is k refl)
operated_unknown o w None z code right is = refl

pub binary_unknown : (ps : List Procedure) (m l : ℕ) (o : BinaryOperation) (w : Width) (a b : Expression) → unknown_code ps (Binary m l o w a b) ≡ unknown_code ps a ++ binary_code_of (folded a) o w (operand_of b) (expression_code ps b)
binary_unknown ps m l o w a b =
    let right = beside (operand_of b) (expression_code ps b) ++ operation o w (operand_of b) ∷ [] in
    operated_unknown o w (folded a) (folded b) (expression_code ps a) right (known_code ps a)
    ∙ ap (λ v. unknown_code ps a ++ unless_found v (given (folded a) ++ right)) (value_with (folded a) o w b)

pub chain_folded : (e : Expression) (os : List Operation) → folded (chained e os) ≡ chain_value (folded e) os
chain_folded e [] = refl
chain_folded e (o ∷ os) = chain_folded _ os ∙ ap (λ y. chain_value y os) (value_with (folded e) o.operation o.width (expression_of o.operand))

pub chain_unknown : (ps : List Procedure) (e : Expression) (os : List Operation) → unknown_code ps (chained e os) ≡ unknown_code ps e ++ chain_code ps (folded e) os
chain_unknown ps e [] = sym (append-nil (unknown_code ps e))
chain_unknown ps e (o ∷ os) =
    let b = expression_of o.operand in
    let one = Binary o.line.module o.line.line o.operation o.width e b in
    chain_unknown ps one os
    ∙ ap (λ c. c ++ chain_code ps (folded one) os) (binary_unknown ps o.line.module o.line.line o.operation o.width e b)
    ∙ ap (λ y. (unknown_code ps e ++ operation_code ps (folded e) o) ++ chain_code ps y os) (value_with (folded e) o.operation o.width b)
    ∙ append_assoc (unknown_code ps e) (operation_code ps (folded e) o) (chain_code ps (operation_value (folded e) o) os)

-- a chain's code, as its parts put it
pub chain_given : (ps : List Procedure) (e : Expression) (os : List Operation) → (unknown_code ps e ++ chain_code ps (folded e) os) ++ given (chain_value (folded e) os) ≡ expression_code ps (chained e os)
chain_given ps e os =
    ap (λ c. c ++ given (chain_value (folded e) os)) (sym (chain_unknown ps e os))
    ∙ ap (λ y. unknown_code ps (chained e os) ++ given y) (sym (chain_folded e os))
    ∙ given_code ps (chained e os)

pub beside_put : (left : Option ℕ) (old code : List Instruction) → ((old ++ given left) ++ op.Push ∷ []) ++ code ≡ old ++ computed_beside left Computed code
beside_put left old code =
    ap (λ c. c ++ code) (append_assoc old (given left) (op.Push ∷ []))
    ∙ append_assoc old (given left ++ op.Push ∷ []) code
    ∙ ap (λ c. old ++ c) (append_assoc (given left) (op.Push ∷ []) code)

pub sent_beside : (old code : List Instruction) (i : Instruction) → ((old ++ op.Push ∷ []) ++ code) ++ i ∷ [] ≡ old ++ op.Push ∷ (code ++ i ∷ [])
sent_beside old code i = append_assoc (old ++ op.Push ∷ []) code (i ∷ []) ∙ append_assoc old (op.Push ∷ []) (code ++ i ∷ [])

pub beside_alone : (q : Operand) (code : List Instruction) → computed_beside None q code ≡ beside q code
beside_alone (Number k) code = refl
beside_alone (Name read x) code = refl
beside_alone Computed code = refl

-- ---- ports and steps

pub port_received : (w : Width) (e : Expression) (code : List Instruction) → receiving w (operand_of e) code ≡ unless_found (folded e) code ++ received w (folded e) ∷ []
port_received w e = by_operand (λ q z. (code : List Instruction) → receiving w q code ≡ unless_found z code ++ received w z ∷ []) (λ k code. refl) (λ v y code. refl) (λ code. refl) e

pub port_sent : (w : Width) (e : Expression) (code : List Instruction) → sending w (operand_of e) code ≡ sent w (folded e) code
port_sent w e = by_operand (λ q z. (code : List Instruction) → sending w q code ≡ sent w z code) (λ k code. refl) (λ v y code. refl) (λ code. refl) e

abbrev stepped : Option ℕ → Counting → Scalar → List Instruction → (before : ℕ) → List Instruction
stepped (Some s) o x code before = next_by_number o x s before
stepped None o x code before = code ++ add_pushed x (before + length code)

round_stepped : (o : Counting) (x : Scalar) (e : Expression) (code : List Instruction) (before : ℕ) → next_round o x (operand_of e) code before ≡ stepped (folded e) o x code before
round_stepped o x e = by_operand (λ q z. (code : List Instruction) (before : ℕ) → next_round o x q code before ≡ stepped z o x code before) (λ k code before. refl) (λ v y code before. refl) (λ code before. refl) e

pub round_by_number : (o : Counting) (x : Scalar) (e : Expression) (s : ℕ) → folded e ≡ Some s → (code : List Instruction) (before : ℕ) → next_by_number o x s before ≡ next_round o x (operand_of e) code before
round_by_number o x e s h code before = sym (round_stepped o x e code before ∙ ap (λ z. stepped z o x code before) h)

pub round_by_stack : (o : Counting) (x : Scalar) (e : Expression) → folded e ≡ None → (code : List Instruction) (before : ℕ) → code ++ add_pushed x (before + length code) ≡ next_round o x (operand_of e) code before
round_by_stack o x e h code before = sym (round_stepped o x e code before ∙ ap (λ z. stepped z o x code before) h)

-- ---- a DO with an index by its parts

pub iterated : (o : Counting) (x : Scalar) (bound step : Operand) (comparison stepped body old behind asked again : List Instruction) (store : Instruction) (bytes : Bool) (t : Test) (before exit : ℕ)
    → behind ≡ old ++ store ∷ [] → store ≡ op.Store x.width (place_of x.place) → asked ≡ unless_named (named bytes (within o) (Name x.width (place_of x.place)) bound) (index_read bytes x ∷ comparison) → t ≡ compared_by bytes (within o) (Name x.width (place_of x.place)) bound
    → again ≡ next_round o x step stepped before → before ≡ length asked + length body + 1 → behind ++ counting asked t body again exit ≡ old ++ iterating bytes o x bound comparison step stepped body exit
iterated o x bound step comparison stepped body old behind asked again store bytes t before exit is stores asks tests ends far =
    let index = Name x.width (place_of x.place) in
    let code = unless_named (named bytes (within o) index bound) (index_read bytes x ∷ comparison) in
    let test = compared_by bytes (within o) index bound in
    let round = λ (c : List Instruction) (u : Test) (more : List Instruction). old ++ (op.Store x.width (place_of x.place) ∷ counting c u body more exit) in
    ap (λ l. l ++ counting asked t body again exit) is
    ∙ append_assoc old (store ∷ []) (counting asked t body again exit)
    ∙ ap (λ s. old ++ (s ∷ counting asked t body again exit)) stores
    ∙ ap (λ u. round asked u again) tests
    ∙ ap (round asked test) (ends ∙ ap (next_round o x step stepped) far)
    ∙ ap (λ c. round c test (next_round o x step stepped (length c + length body + 1))) asks
