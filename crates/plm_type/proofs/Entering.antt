-- The table of those who serve vectors has at each vector the first procedure that serves it.
use Rattle.std.proofs.Common.{◌≡◌, ℕ, ◌+◌, ◌<◌, Bool, true, false, true≢false, cond, List, [], ◌∷◌, length, Option, Some, None, is_some, slice_get, get_or, set, replicate, nat_eq, position, inl, inr, refl, sym, ap, subst, ◌∙◌}
use Rattle.std.specs.Option.{option_or, option_map_or}
use Rattle.std.specs.List.{position_from}
use Rattle.std.proofs.lemmas.List.{get_or-set_same, get_or-set_other, length-set, get_or-replicate, length-replicate}
use Rattle.std.proofs.lemmas.Option.{slice_get-get_or, get_or_from_slice_get}
use Rattle.std.proofs.lemmas.Bool.Decides.{eqb_tells}
use Rattle.std.proofs.lemmas.Iterator.Adapters.{position_from-zero}
use Rattle.plm_decl.specs.Names.{ProcedureR, vector_of, handles}
use Rattle.plm_type.specs.Inner.Handlers.{taken, entered, all_entered}

or_none : (o : Option ℕ) → option_or o None ≡ o
or_none None = refl
or_none (Some q) = refl

or_first : (o : Option ℕ) (b : Bool) (q : ℕ) (p : Option ℕ) → option_or (option_or o (cond b (Some q) None)) p ≡ option_or o (cond b (Some q) p)
or_first (Some r) b q p = refl
or_first None true q p = refl
or_first None false q p = refl

-- ---- one procedure

module _ (v q w : ℕ) (table : List (Option ℕ)) (within : v < length table) where
  -- what stands at v, once a procedure with the vector w has been entered
  abbrev Stands : Option (Option ℕ) → Bool → Type 0
  Stands place is_here = get_or (taken place w q table) v None ≡ option_or (get_or table v None) (cond is_here (Some q) None)

  stands_here : (place : Option (Option ℕ)) → slice_get table w ≡ place → w ≡ v → Stands place true
  stands_here (Some None) e here =
      let free : get_or table v None ≡ None = get_or_from_slice_get table v None None (subst (λ i. slice_get table i ≡ Some None) here e) in
      subst (λ i. get_or (set table i (Some q)) v None ≡ Some q) (sym here) (get_or-set_same table v (Some q) None within)
      ∙ sym (ap (λ o. option_or o (Some q)) free)
  stands_here (Some (Some p)) e here =
      let had : get_or table v None ≡ Some p = get_or_from_slice_get table v (Some p) None (subst (λ i. slice_get table i ≡ Some (Some p)) here e) in
      had ∙ sym (ap (λ o. option_or o (Some q)) had)
  stands_here None e here =
      absurd (true≢false (ap is_some (sym (slice_get-get_or table v None within) ∙ ap (slice_get table) (sym here) ∙ e)))

  stands_elsewhere : (place : Option (Option ℕ)) → (w ≡ v → ⊥) → Stands place false
  stands_elsewhere (Some None) apart = get_or-set_other table w v (Some q) None (λ e. apart (sym e)) ∙ sym (or_none (get_or table v None))
  stands_elsewhere (Some (Some p)) apart = sym (or_none (get_or table v None))
  stands_elsewhere None apart = sym (or_none (get_or table v None))

  stands : (place : Option (Option ℕ)) → slice_get table w ≡ place → Stands place (nat_eq w v)
  stands place e = elim (eqb_tells w v) [
    | inl h ↦ subst (Stands place) (sym h.0) (stands_here place e h.1)
    | inr h ↦ subst (Stands place) (sym h.0) (stands_elsewhere place h.1)
  ]

one_entered : (v q : ℕ) (vector : Option ℕ) (table : List (Option ℕ)) → v < length table
    → get_or (entered vector q table) v None ≡ option_or (get_or table v None) (cond (option_map_or (λ n. nat_eq n v) vector false) (Some q) None)
one_entered v q None table within = sym (or_none (get_or table v None))
one_entered v q (Some w) table within = stands v q w table within (slice_get table w) refl

-- ---- all of them

length_taken : (place : Option (Option ℕ)) (v q : ℕ) (table : List (Option ℕ)) → length (taken place v q table) ≡ length table
length_taken (Some None) v q table = length-set table v (Some q)
length_taken (Some (Some p)) v q table = refl
length_taken None v q table = refl

length_entered : (vector : Option ℕ) (q : ℕ) (table : List (Option ℕ)) → length (entered vector q table) ≡ length table
length_entered None q table = refl
length_entered (Some v) q table = length_taken (slice_get table v) v q table

length_all : (q : ℕ) (ps : List ProcedureR) (table : List (Option ℕ)) → length (all_entered q ps table) ≡ length table
length_all q [] table = refl
length_all q (p ∷ ps) table = length_all (q + 1) ps (entered (vector_of p) q table) ∙ length_entered (vector_of p) q table

all_stand : (v q : ℕ) (ps : List ProcedureR) (table : List (Option ℕ)) → v < length table
    → get_or (all_entered q ps table) v None ≡ option_or (get_or table v None) (position_from (handles v) q ps)
all_stand v q [] table within = sym (or_none (get_or table v None))
all_stand v q (p ∷ ps) table within =
    let next = entered (vector_of p) q table in
    let later = position_from (handles v) (q + 1) ps in
    all_stand v (q + 1) ps next (subst (λ n. v < n) (sym (length_entered (vector_of p) q table)) within)
    ∙ ap (λ o. option_or o later) (one_entered v q (vector_of p) table within)
    ∙ or_first (get_or table v None) (handles v p) q later

-- in a table that was empty
pub first_stands : (v size : ℕ) (ps : List ProcedureR) → v < size → slice_get (all_entered 0 ps (replicate size None)) v ≡ Some (position (handles v) ps)
first_stands v size ps within =
    let empty : List (Option ℕ) = replicate size None in
    let is_within : v < length empty = subst (λ n. v < n) (sym (length-replicate size None)) within in
    slice_get-get_or (all_entered 0 ps empty) v None (subst (λ n. v < n) (sym (length_all 0 ps empty)) is_within)
    ∙ ap Some
    (all_stand v 0 ps empty is_within
    ∙ ap (λ o. option_or o (position_from (handles v) 0 ps)) (get_or-replicate size v None None within)
    ∙ sym (position_from-zero (handles v) ps))

-- what is alike none is none
pub alike_none : (R : Option ℕ → Type 0) → ((x : ℕ) → R (Some x) → ⊥) → (y : Option ℕ) → R y → y ≡ None
alike_none R apart None e = refl
alike_none R apart (Some x) e = absurd (apart x e)
