-- The laws of pieces.
use Rattle.std.proofs.Common.{◌≡◌, ◌∙◌, ℕ, zero, suc, ◌-◌, ◌<◌, ◌≤◌, List, [], ◌∷◌, ◌++◌, length, take, drop, fold, Option, Some, None, refl, ap, arith, take-append-drop, inl, inr, subst}
use Rattle.std.proofs.lemmas.Bool.{cases_lt}
use Rattle.plm_token.specs.declared.piece.ScanState.{ScanState}
use Rattle.plm_token.specs.declared.piece.Front.{Front}
use Rattle.plm_token.specs.Forms.{Form, form_of}
use Rattle.plm_token.specs.Pieces.{longest_within, or_shorter, front_from, front_of, state_after, line_behind, pieces, pieces_behind}
use Rattle.plm_token.specs.Laws.{IsLongest, formed, formless, FirstThenRest, InOrder, characters_of}
use Rattle.plm_token.proofs.Skips.{first_then_rest}

-- what the longest beginning of at most this number of characters is
data Found : ScanState → List ℕ → ℕ → Option (Form × ℕ) → Type 0 where
  found : {state : ScanState} {text : List ℕ} {k : ℕ} (form : Form) (n : ℕ) → 0 < n → n ≤ k → form_of state (take n text) ≡ Some form
      → ((m : ℕ) → n < m → m ≤ k → form_of state (take m text) ≡ None) → Found state text k (Some (form, n))
  nothing : {state : ScanState} {text : List ℕ} {k : ℕ} → ((m : ℕ) → 0 < m → m ≤ k → form_of state (take m text) ≡ None) → Found state text k None

up_to : (P : ℕ → Type 0) (low k : ℕ) → ((m : ℕ) → low < m → m ≤ k → P m) → P (suc k) → (m : ℕ) → low < m → m ≤ suc k → P m
up_to P low k below here m above inside =
    elim (cases_lt k m) [
      | inl over ↦ let e : suc k ≡ m = omega arith in subst P e here
      | inr h ↦ below m above h
    ]

one_longer : (state : ScanState) (text : List ℕ) (k : ℕ) (o : Option Form) (shorter : Option (Form × ℕ)) → form_of state (take (suc k) text) ≡ o → Found state text k shorter
    → Found state text (suc k) (or_shorter o (suc k) shorter)
one_longer state text k (Some form) shorter e f = found form (suc k) (omega arith) (omega arith) e (λ m above inside. absurd (omega arith))
one_longer state text k None _ e (found form n some inside here none) =
    found form n some (omega arith) here (up_to (λ (m : ℕ). form_of state (take m text) ≡ None) n k none e)
one_longer state text k None _ e (nothing none) = nothing (up_to (λ (m : ℕ). form_of state (take m text) ≡ None) 0 k none e)

longest_found : (state : ScanState) (text : List ℕ) (k : ℕ) → Found state text k (longest_within k state text)
longest_found state text zero = nothing (λ m above inside. absurd (omega arith))
longest_found state text (suc k) = one_longer state text k (form_of state (take (suc k) text)) (longest_within k state text) refl (longest_found state text k)

from_found : (state : ScanState) (text : List ℕ) (o : Option (Form × ℕ)) → Found state text (length text) o → IsLongest state text (front_from text o)
from_found state text _ (found form n some inside here none) = formed form n some inside here none
from_found state text _ (nothing none) = formless none

pub longest_front : (state : ScanState) (text : List ℕ) → IsLongest state text (front_of state text)
unfolding front_of
longest_front state text = from_found state text (longest_within (length text) state text) (longest_found state text (length text))

bounds : (state : ScanState) (text : List ℕ) (front : Front) → 0 < length text → IsLongest state text front → (0 < front.length) × (front.length ≤ length text)
bounds state text _ some (formed form n more inside here none) = (more, inside)
bounds state text _ some (formless none) = (omega arith, omega arith)

in_front : (state : ScanState) (line b : ℕ) (bs : List ℕ) (front : Front) (k : ℕ) → front ≡ front_of state (b ∷ bs) → front.length ≡ suc k → k ≤ length bs → FirstThenRest state line (b ∷ bs) front
in_front state line b bs front k e n inside = rw n (first_then_rest state line b bs front k e n inside)

pub in_order : (state : ScanState) (line : ℕ) (text : List ℕ) → InOrder state line text
unfolding pieces_behind
in_order state line [] = refl
in_order state line (b ∷ bs) =
    let within = bounds state (b ∷ bs) (front_of state (b ∷ bs)) (omega arith) (longest_front state (b ∷ bs)) in
    in_front state line b bs (front_of state (b ∷ bs)) ((front_of state (b ∷ bs)).length - 1) refl (omega (arith, within.0)) (omega (arith, within.1))

covered : (skip : ℕ) (state : ScanState) (line : ℕ) (bs : List ℕ) → skip ≤ length bs → characters_of (pieces_behind skip state line bs) ≡ drop skip bs
unfolding pieces_behind
covered zero state line [] inside = refl
covered (suc skip) state line [] inside = absurd (omega arith)
covered (suc skip) state line (b ∷ bs) inside = covered skip (state_after state b) (line_behind line b) bs (omega arith)
covered zero state line (b ∷ bs) inside =
    let within = bounds state (b ∷ bs) (front_of state (b ∷ bs)) (omega arith) (longest_front state (b ∷ bs)) in
    let k : ℕ = (front_of state (b ∷ bs)).length - 1 in
    let n : (front_of state (b ∷ bs)).length ≡ suc k = omega (arith, within.0) in
    let behind = covered k (state_after state b) (line_behind line b) bs (omega (arith, within.1, n)) in
    ap (λ (cs : List ℕ). take (front_of state (b ∷ bs)).length (b ∷ bs) ++ cs) behind ∙ rest_of k n where
      rest_of : (k : ℕ) → (front_of state (b ∷ bs)).length ≡ suc k → take (front_of state (b ∷ bs)).length (b ∷ bs) ++ drop k bs ≡ b ∷ bs
      rest_of k n = rw n (take-append-drop (suc k) (b ∷ bs))

pub all_covered : (state : ScanState) (line : ℕ) (text : List ℕ) → characters_of (pieces state line text) ≡ text
all_covered state line text = covered 0 state line text (omega arith)
