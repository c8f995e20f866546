-- What is said of a scalar that is named alone is what the definition says of it.
use Rattle.std.proofs.Common.{◌≡◌, ℕ, List, [], ◌∷◌, length, nat_eq, Bool, true, false, not, ◌&&◌, cond, Option, Some, None, is_some, arith, refl, sym, ap, ◌∙◌}
use Rattle.std.proofs.lemmas.Bool.{true≢false, and_parts}
use Rattle.std.proofs.lemmas.Option.{none-some, same_Some}
use Rattle.plm_syntax.specs.declared.tree.Position.{Position}
use Rattle.plm_decl.specs.declared.layout.ScalarType.{ScalarType}
use Rattle.plm_decl.specs.declared.layout.Form.{Form}
use Rattle.plm_decl.specs.declared.layout.Form.TheVariants as form
use Rattle.plm_decl.specs.declared.names.Variable.{Variable}
use Rattle.plm_decl.specs.declared.resolved.Reference.{Reference}
use Rattle.plm_decl.specs.Resolved.{SelectorR, no_member, member, member_at}
use Rattle.plm_decl.specs.ResolvedView as resolved
use Rattle.plm_type.specs.declared.typer.Typer.{Typer}
use Rattle.plm_type.specs.declared.numbers.Numbers.TheVariants.{Other}
use Rattle.plm_type.specs.Rest as rest
use Rattle.plm_type.specs.Shapes.{form_type, anchor_for, read_of, store_to}
use Rattle.plm_type.specs.Typing.{is_plain}
use Rattle.plm_type.specs.Typer.{Typed, TypedTarget}
use Rattle.plm_type.specs.Expressions as spec
use Rattle.plm_type.specs.Inner.Plain.{alone_type, stored_type}
use Rattle.plm_type.specs.Inner.Typer.{variables, list_by, selector_by}
use Rattle.plm_type.proofs.Parts.{is_zero}

some_then : {A : Type 0} → (b : Bool) (x : Option A) (t : A) → cond b x None ≡ Some t → (b ≡ true) × (x ≡ Some t)
some_then true x t e = (refl, e)
some_then false x t e = absurd (none-some t e)

some_else : {A : Type 0} → (b : Bool) (x : Option A) (t : A) → cond b None x ≡ Some t → (b ≡ false) × (x ≡ Some t)
some_else true x t e = absurd (none-some t e)
some_else false x t e = (refl, e)

no_dimension : (d : Option ℕ) → not (is_some d) ≡ true → d ≡ None
no_dimension None e = refl
no_dimension (Some n) e = absurd (true≢false (sym e))

no_items : {A : Type 0} → (xs : List A) → nat_eq (length xs) 0 ≡ true → xs ≡ []
no_items [] e = refl
no_items (x ∷ xs) e = absurd (omega (arith, is_zero _ e))

no_selector : (s : SelectorR) → is_plain s ≡ true → s ≡ no_member
no_selector no_member e = refl
no_selector (member p m) e = absurd (true≢false (sym e))
no_selector (member_at p m x) e = absurd (true≢false (sym e))

scalar_form : (f : Form) (t : ScalarType) → form_type f ≡ Some t → f ≡ form.Scalar t
scalar_form (form.Scalar s) t e = ap form.Scalar (same_Some s t e)
scalar_form (form.Structure n) t e = absurd (none-some t e)

module _ (self : Typer) (p : Position) where
  abbrev place_of : Variable → rest.Reference
  place_of v = rest.Refer self.module p.line (anchor_for (variables self) v) 0 rest.NoSubscripts

  abbrev pub read_as : Variable → ScalarType → Typed
  read_as v t = record { tree = read_of t (place_of v); scalar = Some t; numbers = Other; faults = [] }

  abbrev pub stored_as : Variable → ScalarType → TypedTarget
  stored_as v t = record { tree = store_to t (place_of v); scalar = Some t; faults = [] }

  pub read_alone : (v : Variable) (r : Reference) (t : ScalarType) → alone_type v r ≡ Some t
      → read_as v t ≡ spec.read (variables self) self.module p (Some v) (resolved.selector_of r.selector) (spec.parts (list_by self (resolved.expressions_of r.subscripts.items)) (selector_by self (resolved.selector_of r.selector)))
  read_alone v r t e =
      let flat = not (is_some v.dimension) in
      let listless = nat_eq (length r.subscripts.items) 0 in
      let plain = is_plain (resolved.selector_of r.selector) in
      let known = some_then (flat && (listless && plain)) (form_type v.form) t e in
      let named = and_parts flat (listless && plain) known.0 in
      let bare = and_parts listless plain named.1 in
      let d = no_dimension v.dimension named.0 in
      let es = no_items r.subscripts.items bare.0 in
      let s = no_selector (resolved.selector_of r.selector) bare.1 in
      let f = scalar_form v.form t known.1 in
      (λ j. read_as (record v { form = f j; dimension = d j }) t)
      ∙ sym (λ j. spec.read (variables self) self.module p (Some (record v { form = f j; dimension = d j })) (s j) (spec.parts (list_by self (resolved.expressions_of (es j))) (selector_by self (s j))))

  pub stored_alone : (v : Variable) (r : Reference) (t : ScalarType) → stored_type v r ≡ Some t
      → stored_as v t ≡ spec.stored (variables self) self.module p (Some v) (resolved.selector_of r.selector) (spec.parts (list_by self (resolved.expressions_of r.subscripts.items)) (selector_by self (resolved.selector_of r.selector)))
  stored_alone v r t e =
      let flat = not (is_some v.dimension) in
      let listless = nat_eq (length r.subscripts.items) 0 in
      let plain = is_plain (resolved.selector_of r.selector) in
      let free = some_else v.is_data (alone_type v r) t e in
      let known = some_then (flat && (listless && plain)) (form_type v.form) t free.1 in
      let named = and_parts flat (listless && plain) known.0 in
      let bare = and_parts listless plain named.1 in
      let d = no_dimension v.dimension named.0 in
      let es = no_items r.subscripts.items bare.0 in
      let s = no_selector (resolved.selector_of r.selector) bare.1 in
      let f = scalar_form v.form t known.1 in
      let a = free.0 in
      (λ j. stored_as (record v { form = f j; dimension = d j; is_data = a j }) t)
      ∙ sym (λ j. spec.stored (variables self) self.module p (Some (record v { form = f j; dimension = d j; is_data = a j })) (s j) (spec.parts (list_by self (resolved.expressions_of (es j))) (selector_by self (s j))))
