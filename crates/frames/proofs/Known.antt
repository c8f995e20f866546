-- The table of what procedures need, along the order.
use Rattle.std.proofs.Common.{◌≡◌, ℕ, zero, suc, ◌+◌, ◌*◌, ◌≤◌, ◌<◌, List, [], ◌∷◌, length, Some, slice_get, refl, sym, ap, ◌∙◌, subst, arith, ◌⊎◌, inl, inr}
use Rattle.std.specs.Prelude.{slice_set}
use Rattle.std.proofs.lemmas.Bool.{cases_lt}
use Rattle.std.proofs.lemmas.List.{set_past, length-set}
use Rattle.std.proofs.lemmas.Option.{slice_get_past, slice_get_within, same_Some}
use Rattle.icode.specs.declared.instruction.Instruction.TheVariants as op
use Rattle.icode.specs.declared.code.Routine.TheVariants.{Procedure}
use Rattle.icode.specs.declared.code.Code.{Code}
use Rattle.icode.specs.Code.{code_of}
use Rattle.icode.specs.Heights.{instructions_of, place_in}
use Rattle.frames.specs.declared.need.Need.{Need}
use Rattle.frames.specs.Inner.Need.{nothing, need, need_or, need_at, AreKnown}
use Rattle.frames.proofs.Needing.{same_need, few}

at_same : (t : List Need) (p : ℕ) (n : Need) → p < length t → need_at (slice_set t p n) p ≡ n
at_same [] p n h = absurd (omega (arith, h))
at_same (x ∷ t) zero n h = refl
at_same (x ∷ t) (suc p) n h = at_same t p n (omega (arith, h))

at_other : (t : List Need) (p : ℕ) (n : Need) (q : ℕ) → (q ≡ p → ⊥) → need_at (slice_set t p n) q ≡ need_at t q
at_other [] p n q d = refl
at_other (x ∷ t) zero n zero d = absurd (d refl)
at_other (x ∷ t) zero n (suc q) d = refl
at_other (x ∷ t) (suc p) n zero d = refl
at_other (x ∷ t) (suc p) n (suc q) d = at_other t p n q (λ e. d (ap suc e))

pub set_few : (t : List Need) (p : ℕ) (n : Need) (b : ℕ) → ((q : ℕ) → (need_at t q).words ≤ b) → n.words ≤ b → (q : ℕ) → (need_at (slice_set t p n) q).words ≤ b
set_few [] p n b h e q = h q
set_few (x ∷ t) zero n b h e zero = e
set_few (x ∷ t) zero n b h e (suc q) = h (suc q)
set_few (x ∷ t) (suc p) n b h e zero = h 0
set_few (x ∷ t) (suc p) n b h e (suc q) = set_few t p n b (λ k. h (suc k)) e q

pub nothing_at : (t : List Need) (q : ℕ) → length t ≤ q → need_at t q ≡ nothing
nothing_at t q h = ap need_or (slice_get_past t q h)

next_product : (i b : ℕ) → i * b + b ≡ (i + 1) * b
next_product i b = grind arith

module _ (c : Code) (t : List Need) (i p : ℕ) (here : slice_get c.order.items i ≡ Some p) (size : length t ≡ length c.procedures.items) where
  abbrev place : ℕ → ℕ
  place q = place_in c.order.items q

  abbrev found : Need
  found = need (need_at t) 0 (code_of c (Procedure p))

  abbrev table : List Need
  table = slice_set t p found

  -- one that does not stand here keeps what it needs
  kept_by : (q : ℕ) → (p < length c.procedures.items → q ≡ p → ⊥) → (p < length c.procedures.items) ⊎ (length c.procedures.items ≤ p) → need_at t q ≡ need_at table q
  kept_by q d (inl lt) = sym (at_other t p found q (d lt))
  kept_by q d (inr ge) = ap (λ u. need_at u q) (sym (set_past t p found (omega (arith, ge, size))))

  kept : (q : ℕ) → (p < length c.procedures.items → q ≡ p → ⊥) → need_at t q ≡ need_at table q
  kept q d = kept_by q d (cases_lt p (length c.procedures.items))

  apart : (r k q : ℕ) → slice_get (code_of c (Procedure r)) k ≡ Some (op.Invoke q) → place r ≤ i → p < length c.procedures.items → q ≡ p → ⊥
  apart r k q e le lt s =
      let small : q < length c.procedures.items = subst (λ z. z < length c.procedures.items) (sym s) lt in
      omega (arith, c.ordered.later r q k small e, le, c.ordered.once i p here, ap place s)

  same : (r : ℕ) → place r ≤ i → need (need_at t) 0 (code_of c (Procedure r)) ≡ need (need_at table) 0 (code_of c (Procedure r))
  same r le = same_need (need_at t) (need_at table) 0 (code_of c (Procedure r)) (λ k q e. kept q (apart r k q e le))

  known_by : AreKnown c t i → (r : ℕ) → r < length c.procedures.items → place r < i + 1 → (place r < i) ⊎ (i ≤ place r) → need_at table r ≡ need (need_at table) 0 (code_of c (Procedure r))
  known_by known r lt le (inl less) =
      sym (kept r (λ small s. omega (arith, ap place s, c.ordered.once i p here, less))) ∙ known r lt less ∙ same r (omega (arith, less))
  known_by known r lt le (inr ge) =
      let e : place r ≡ i = omega (arith, le, ge) in
      let s : p ≡ r = same_Some p r (sym here ∙ ap (slice_get c.order.items) (sym e) ∙ c.ordered.each r lt) in
      let inside : p < length t = omega (arith, s, lt, size) in
      ap (need_at table) (sym s) ∙ at_same t p found inside ∙ ap (λ z. need (need_at t) 0 (code_of c (Procedure z))) s ∙ same r (omega (arith, e))

  pub known_next : AreKnown c t i → AreKnown c table (i + 1)
  known_next known r lt le = known_by known r lt le (cases_lt (place r) i)

-- one more procedure of the order is known
pub next_all : (c : Code) (t u : List Need) (i p b : ℕ) (n : Need) → slice_get c.order.items i ≡ Some p → u ≡ slice_set t p n → n ≡ need (need_at t) 0 (code_of c (Procedure p)) → length (code_of c (Procedure p)) ≤ b
    → length t ≡ length c.procedures.items → AreKnown c t i → ((q : ℕ) → (need_at t q).words ≤ i * b)
    → (length u ≡ length c.procedures.items) × AreKnown c u (i + 1) × ((q : ℕ) → (need_at u q).words ≤ (i + 1) * b)
next_all c t u i p b n here set is small size known fits =
    let code = code_of c (Procedure p) in
    let e : u ≡ slice_set t p (need (need_at t) 0 code) = set ∙ ap (slice_set t p) is in
    let grown : i * b + b ≡ (i + 1) * b = next_product i b in
    let less : (need (need_at t) 0 code).words ≤ (i + 1) * b = omega (arith, few (need_at t) (i * b) 0 code fits, small, grown) in
    let more : (q : ℕ) → (need_at t q).words ≤ (i + 1) * b = λ q. omega (arith, fits q, grown) in (
      ap length e ∙ length-set t p (need (need_at t) 0 code) ∙ size,
      subst (λ v. AreKnown c v (i + 1)) (sym e) (known_next c t i p here size known),
      subst (λ v. (q : ℕ) → (need_at v q).words ≤ (i + 1) * b) (sym e) (set_few t p (need (need_at t) 0 code) ((i + 1) * b) more less),
    )

-- at the end of the order
module _ (c : Code) (t : List Need) (size : length t ≡ length c.procedures.items) (known : AreKnown c t (length c.order.items)) where
  pub below : (q : ℕ) → q < length c.procedures.items → place_in c.order.items q < length c.order.items
  below q h = slice_get_within c.order.items (place_in c.order.items q) q (c.ordered.each q h)

  pub beyond : (q : ℕ) → length c.procedures.items ≤ q → code_of c (Procedure q) ≡ []
  beyond q h = ap instructions_of (slice_get_past c.procedures.items q h)

  solved_by : (q : ℕ) → (q < length c.procedures.items) ⊎ (length c.procedures.items ≤ q) → need_at t q ≡ need (need_at t) 0 (code_of c (Procedure q))
  solved_by q (inl lt) = known q lt (below q lt)
  solved_by q (inr ge) = nothing_at t q (omega (arith, ge, size)) ∙ ap (need (need_at t) 0) (sym (beyond q ge))

  pub solved : (q : ℕ) → need_at t q ≡ need (need_at t) 0 (code_of c (Procedure q))
  solved q = solved_by q (cases_lt q (length c.procedures.items))
