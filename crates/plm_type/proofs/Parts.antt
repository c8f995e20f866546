-- Trees as they are put together, and as the code takes them apart.
use Rattle.std.proofs.Common.{◌≡◌, ◌≤◌, ◌-◌, ◌^◌, min, ℕ, List, [], ◌∷◌, ◌++◌, length, nat_eq, Bool, true, false, cond, Some, None, option_map, arith, append_assoc, map, refl, sym, ap, subst, ◌∙◌}
use Rattle.std.specs.Global.{Vec}
use Rattle.std.specs.Bool.{then_some}
use Rattle.std.proofs.lemmas.List.{append-nil}
use Rattle.std.proofs.Math.Nat.{min-le_left, min-le_right, le-min}
use Rattle.word86.specs.declared.place.Place.{Place}
use Rattle.word86.specs.declared.width.Width.{Width}
use Rattle.word86.specs.Place.{where_of}
use Rattle.word86.specs.declared.operation.BinaryOperation.{BinaryOperation}
use Rattle.plm_type.specs.declared.program.Expression.{Expression}
use Rattle.plm_type.specs.declared.program.Operation.{Operation}
use Rattle.plm_type.specs.declared.program.Reference.{Reference}
use Rattle.plm_type.specs.declared.program.Expression.TheViews.{out-Reference, roll-Reference, roll-out-Reference}
use Rattle.plm_type.specs.Rest as rest
use Rattle.plm_type.specs.View.{expression_of, expressions_of, chained, reference_of, anchor_of, subscripts_of, target_of, targets_of}
use Rattle.plm_type.specs.Trees.{shifted}
use Rattle.plm_type.specs.Inner.Builtins.{the_only}
use Rattle.plm_decl.specs.Layout.{counted}
use Rattle.plm_type.specs.Shapes.{capped, fixed_place}
use Rattle.plm_type.specs.Calls.{calls_in, target_calls, targets_calls}
use Rattle.plm_type.specs.Inner.Calls.{operation_calls, all_target_calls}
use Rattle.plm_type.specs.declared.program.Target.{Target}
use Rattle.plm_type.specs.declared.program.Line.{Line}
use Rattle.std.proofs.lemmas.Bool.Decides.{nat_tests}
use Rattle.plm_type.specs.declared.program.Anchor.{Anchor}
use Rattle.plm_type.specs.declared.program.Subscript.{Subscript}
use Rattle.plm_type.proofs.Rows.{subscript_row}

abbrev pub laid : Reference → rest.Reference
laid r = let o = out-Reference r in rest.Refer o.line.module o.line.line (anchor_of o.anchor) o.offset (subscripts_of o.subscripts.items)

rolled_reference : (r : Reference) → reference_of (roll-Reference (out-Reference r)) ≡ laid r
unfolding roll-Reference denote.Hole.Carrier.roll denote.Hole.Carrier.hidden
rolled_reference r = let o = out-Reference r in ap (rest.Refer o.line.module o.line.line (anchor_of o.anchor) o.offset) (subscript_row o.subscripts)

pub reference_parts : (r : Reference) → reference_of r ≡ laid r
reference_parts r = subst (λ (z : Reference). reference_of z ≡ laid r) (roll-out-Reference r) (rolled_reference r)

-- one more operator
pub chain_pushed : (e : rest.Expression) (os : List Operation) (o : Operation)
    → chained e (os ++ o ∷ []) ≡ rest.Binary o.line.module o.line.line o.operation o.width (chained e os) (expression_of o.operand)
chain_pushed e [] o = refl
chain_pushed e (p ∷ os) o = chain_pushed (rest.Binary p.line.module p.line.line p.operation p.width e (expression_of p.operand)) os o

pub not_one : (es : List Expression) → (length es ≡ 1 → ⊥) → the_only (expressions_of es) ≡ None
not_one [] h = refl
not_one (e ∷ []) h = absurd (h refl)
not_one (e ∷ d ∷ es) h = refl

pub not_two : (module_index line : ℕ) (o : BinaryOperation) (w : Width) (es : List Expression) → (length es ≡ 2 → ⊥) → shifted module_index line o w (expressions_of es) ≡ rest.Constant 0
not_two module_index line o w [] h = refl
not_two module_index line o w (e ∷ []) h = refl
not_two module_index line o w (e ∷ d ∷ []) h = absurd (h refl)
not_two module_index line o w (e ∷ d ∷ f ∷ es) h = refl

-- ---- fixed places

pub moved : (n module_index line : ℕ) (a : rest.Anchor) (offset : ℕ) (ss : List Subscript) → (length ss ≡ 0 → ⊥) → fixed_place n (rest.Refer module_index line a offset (subscripts_of ss)) ≡ None
moved n module_index line a offset [] h = absurd (h refl)
moved n module_index line (rest.InObject k start size) offset (s ∷ ss) h = refl
moved n module_index line (rest.OnScreen page start size) offset (s ∷ ss) h = refl
moved n module_index line (rest.Behind b) offset (s ∷ ss) h = refl
moved n module_index line (rest.There b) offset (s ∷ ss) h = refl

pub unmoved : (n module_index line : ℕ) (a b : Anchor) (offset : ℕ) (ss : List Subscript) → length ss ≡ 0 → a ≡ b
    → fixed_place n (rest.Refer module_index line (anchor_of a) offset (subscripts_of ss)) ≡ fixed_place n (rest.Refer module_index line (anchor_of b) offset rest.NoSubscripts)
unmoved n module_index line a b offset [] h e = ap (λ (x : Anchor). fixed_place n (rest.Refer module_index line (anchor_of x) offset rest.NoSubscripts)) e
unmoved n module_index line a b offset (s ∷ ss) h e = cc

pub some_if : (b : Bool) (p : Place) → option_map where_of (then_some b p) ≡ cond b (Some (where_of p)) None
some_if true p = refl
some_if false p = refl

-- a sum that is cut at 2^64 - 1 first
pub capped_counted : (n : ℕ) → capped (counted n) ≡ capped n
capped_counted n =
    let down : capped (counted n) ≤ capped n = le-min (omega (arith, min-le_left (counted n) 0xFFFF, min-le_left n (2 ^ 64 - 1))) (min-le_right (counted n) 0xFFFF) in
    let short : min n 0xFFFF ≤ 2 ^ 64 - 1 = omega (arith, min-le_right n 0xFFFF) in
    let up : capped n ≤ capped (counted n) = le-min (le-min (min-le_left n 0xFFFF) short) (min-le_right n 0xFFFF) in
    omega (arith, down, up)

pub is_zero : (n : ℕ) → nat_eq n 0 ≡ true → n ≡ 0
is_zero n e = grind (arith, nat_tests)

pub not_zero : (n : ℕ) → nat_eq n 0 ≡ false → n ≡ 0 → ⊥
not_zero n e z = grind (arith, nat_tests)

-- ---- a reference, as the code puts it together

pub reference_made : (l : Line) (a : Anchor) (offset : ℕ) (ss : Vec Subscript)
    → reference_of (roll-Reference (record { line = l; anchor = a; offset = offset; subscripts = ss })) ≡ rest.Refer l.module l.line (anchor_of a) offset (subscripts_of ss.items)
unfolding roll-Reference denote.Hole.Carrier.roll denote.Hole.Carrier.hidden
reference_made l a offset ss = ap (rest.Refer l.module l.line (anchor_of a) offset) (subscript_row ss)

-- ---- calls of a chain

pub chain_calls : (e : rest.Expression) (os : List Operation) → calls_in (chained e os) ≡ calls_in e ++ operation_calls os
chain_calls e [] = sym (append-nil (calls_in e))
chain_calls e (o ∷ os) =
    chain_calls (rest.Binary o.line.module o.line.line o.operation o.width e (expression_of o.operand)) os
    ∙ append_assoc (calls_in e) (calls_in (expression_of o.operand)) (operation_calls os)

pub targets_calls_are : (t : Target) (ts : List Target) → targets_calls (targets_of (target_of t) ts) ≡ target_calls (target_of t) ++ all_target_calls (map target_of ts)
targets_calls_are t [] = sym (append-nil (target_calls (target_of t)))
targets_calls_are t (u ∷ us) = ap (λ (l : List ℕ). target_calls (target_of t) ++ l) (targets_calls_are u us)
