-- What an interrupt enters: the procedure that serves its vector.
use Rattle.std.proofs.Common.{◌≡◌, ℕ, ◌+◌, Bool, true, false, true≢false, nat_eq, cond, List, [], ◌∷◌, map, position, Option, Some, None, refl, sym, ap, ◌∙◌, get_or}
use Rattle.std.specs.Option.{option_map_or}
use Rattle.std.specs.List.{position_from}
use Rattle.std.proofs.lemmas.Iterator.Adapters.{position_from-zero}
use Rattle.std.proofs.lemmas.List.Quantifiers.{position-Some}
use Rattle.std.proofs.lemmas.Option.{slice_get-get_or}
use Rattle.plm_decl.specs.declared.names.Names.{Names}
use Rattle.plm_decl.specs.Names.{ProcedureR, vector_of, handles}
use Rattle.plm_type.specs.Programs.{declared_procedures, handler_number}
use Rattle.icode.specs.declared.code.Procedure as code
use Rattle.icode.specs.declared.code.Code.{Code}
use Rattle.icode.specs.Code.{procedure_or_none, serving}
use Rattle.icode.specs.Vectors.{is_number}
use Rattle.lower.specs.Lowering.{has_vector, serves, MayBeEntered, vectors_of, IsLowered, EntryLaw}

mapped : {A B : Type 0} (f : A → B) (p : B → Bool) (n : ℕ) (xs : List A) → position_from (λ x. p (f x)) n xs ≡ position_from p n (map f xs)
mapped f p n [] = refl
mapped f p n (x ∷ xs) = ap (λ o. cond (p (f x)) (Some n) o) (mapped f p (n + 1) xs)

-- ---- the procedure that an interrupt enters

same_test : (v : ℕ) (o : Option ℕ) → option_map_or (λ n. nat_eq n v) o false ≡ is_number o v
same_test v None = refl
same_test v (Some n) = refl

same_position : (v n : ℕ) (ds : List ProcedureR) → position_from (handles v) n ds ≡ position_from (λ o. is_number o v) n (map vector_of ds)
same_position v n [] = refl
same_position v n (d ∷ ds) = λ j. cond (same_test v (vector_of d) j) (Some n) (same_position v (n + 1) ds j)

-- the first of these vectors that is this one
abbrev first_with : List (Option ℕ) → ℕ → Option ℕ
first_with vectors v = position (λ n. is_number n v) vectors

same_handler : (names : Names) (v : ℕ) → handler_number names v ≡ first_with (vectors_of names) v
same_handler names v =
    position_from-zero (handles v) (declared_procedures names)
    ∙ same_position v 0 (declared_procedures names)
    ∙ sym (position_from-zero (λ n. is_number n v) (vectors_of names))

numbered : (n : Option ℕ) (v : ℕ) → is_number n v ≡ true → has_vector (Some n) ≡ true
numbered (Some m) v h = refl
numbered None v h = absurd (true≢false (sym h))

first_serves : (vectors : List (Option ℕ)) (v q : ℕ) → first_with vectors v ≡ Some q → serves vectors q ≡ true
first_serves vectors v q e =
    let first = position-Some (λ m. is_number m v) vectors q None e in
    ap has_vector (slice_get-get_or vectors q None first.0) ∙ numbered (get_or vectors q None) v first.1

pub handler_serves : (names : Names) (v : ℕ) → MayBeEntered (vectors_of names) (handler_number names v)
handler_serves names v q e = first_serves (vectors_of names) v q (sym (same_handler names v) ∙ e)

-- a search among the code's procedures finds it too
pub handler_position : (names : Names) (qs : List code.Procedure) → map (λ p. p.vector) qs ≡ vectors_of names → (v : ℕ) → position (λ p. is_number p.vector v) qs ≡ handler_number names v
handler_position names qs vectors v =
    position_from-zero (λ (p : code.Procedure). is_number p.vector v) qs
    ∙ mapped (λ (p : code.Procedure). p.vector) (λ n. is_number n v) 0 qs
    ∙ ap (λ vs. position_from (λ n. is_number n v) 0 vs) vectors
    ∙ sym (position_from-zero (λ n. is_number n v) (vectors_of names))
    ∙ sym (same_handler names v)

handler_routines : (names : Names) (v : ℕ) (c : Code) → IsLowered names c → serving c v ≡ procedure_or_none (handler_number names v)
handler_routines names v c is = ap procedure_or_none (handler_position names c.procedures.items is.vectors_are v)

pub enters_the_same : EntryLaw
enters_the_same names v = record { meant = handler_serves names v; coded = handler_routines names v }
