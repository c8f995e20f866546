-- One character of a name after the other.
use Rattle.std.proofs.Common.{◌≡◌, ◌∙◌, ℕ, List, [], ◌∷◌, ◌++◌, Bool, true, false, not, Option, Some, None, is_some, option_to_list, IfNone, bytes_eq, eqb, refl, sym, arith}
use Rattle.std.specs.Option.{option_eq}
use Rattle.std.proofs.lemmas.Bool.Decides.{nat_tests}
use Rattle.plm_token.specs.Names.{normal}
use Rattle.plm_token.proofs.NormalForm.{normal-nil}

unequal : (a b : ℕ) → not (eqb a b) ≡ true → (eqb a b ≡ false) × (eqb b a ≡ false)
unequal a b h = let one : eqb a b ≡ false = grind (arith, nat_tests) in (one, grind (arith, nat_tests))

-- the other spelling has another character, or ends
pub differs_right : (left right rest tail : List ℕ) (letter : ℕ) (r : Option ℕ) (t : Bool) → left ≡ letter ∷ tail → right ≡ option_to_list r ++ normal rest → IfNone r (rest ≡ [])
    → t ≡ not (option_eq eqb r (Some letter)) → t ≡ true → bytes_eq left right ≡ false
differs_right left right rest tail letter None t e f none u v = rw (e, f, none, normal-nil) refl
differs_right left right rest tail letter (Some x) t e f none u v = rw (e, f, (unequal x letter (sym u ∙ v)).1) refl

pub differs_left : (left right rest tail : List ℕ) (letter : ℕ) (r : Option ℕ) (t : Bool) → left ≡ option_to_list r ++ normal rest → right ≡ letter ∷ tail → IfNone r (rest ≡ [])
    → t ≡ not (option_eq eqb r (Some letter)) → t ≡ true → bytes_eq left right ≡ false
differs_left left right rest tail letter None t e f none u v = rw (e, f, none, normal-nil) refl
differs_left left right rest tail letter (Some x) t e f none u v = rw (e, f, (unequal x letter (sym u ∙ v)).0) refl

answered : (t b : Bool) → b ≡ not t → t ≡ not b
answered true b e = rw e refl
answered false b e = rw e refl

-- one spelling is at its end
pub ends_right : (left right rest : List ℕ) (r : Option ℕ) (t : Bool) → left ≡ [] → right ≡ option_to_list r ++ normal rest → IfNone r (rest ≡ []) → is_some r ≡ not t → t ≡ bytes_eq left right
ends_right left right rest None t e f none u = rw (e, f, none, normal-nil) (answered t false u)
ends_right left right rest (Some x) t e f none u = rw (e, f) (answered t true u)

pub ends_left : (left right rest : List ℕ) (r : Option ℕ) (t : Bool) → left ≡ option_to_list r ++ normal rest → right ≡ [] → IfNone r (rest ≡ []) → is_some r ≡ not t → t ≡ bytes_eq left right
ends_left left right rest None t e f none u = rw (e, f, none, normal-nil) (answered t false u)
ends_left left right rest (Some x) t e f none u = rw (e, f) (answered t true u)
