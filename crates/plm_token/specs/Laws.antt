-- What holds of pieces, in words that do not say how they are found.
use Rattle.std.specs.Prelude.{◌≡◌, ℕ, ◌<◌, ◌≤◌, List, [], ◌∷◌, length, take, drop, fold, flat_map, Some, None}
use Rattle.plm_token.specs.declared.piece.ScanState.{ScanState}
use Rattle.plm_token.specs.declared.piece.Front.{Front}
use Rattle.plm_token.specs.declared.piece.Piece.TheVariants.{Fault}
use Rattle.word86.specs.declared.number.Number.TheVariants.{E101}
use Rattle.plm_token.specs.Forms.{Form, form_of}
use Rattle.plm_token.specs.Pieces.{Cut, piece_of, front_of, state_after, line_behind, pieces}

-- The longest rule: a beginning of a text has a form and no longer one has; or no beginning has
-- a form, and the first character is a fault.
pub data IsLongest : ScanState → List ℕ → Front → Type 0 where
  formed : {state : ScanState} {text : List ℕ} (form : Form) (n : ℕ) → 0 < n → n ≤ length text → form_of state (take n text) ≡ Some form
      → ((m : ℕ) → n < m → m ≤ length text → form_of state (take m text) ≡ None)
      → IsLongest state text (record { piece = piece_of form (take n text) (drop n text); length = n })
  formless : {state : ScanState} {text : List ℕ} → ((m : ℕ) → 0 < m → m ≤ length text → form_of state (take m text) ≡ None)
      → IsLongest state text (record { piece = Fault E101; length = 1 })

-- the piece at the front of a text, with its characters and line, and then the pieces of what is left, in the state and on the line after it
abbrev pub FirstThenRest : ScanState → ℕ → List ℕ → Front → Type 0
FirstThenRest state line text front =
    pieces state line text ≡ record { piece = front.piece; text = take front.length text; line = line }
    ∷ pieces (fold state_after state (take front.length text)) (fold line_behind line (take front.length text)) (drop front.length text)

abbrev pub InOrder : ScanState → ℕ → List ℕ → Type 0
InOrder state line [] = pieces state line [] ≡ []
InOrder state line (b ∷ bs) = FirstThenRest state line (b ∷ bs) (front_of state (b ∷ bs))

-- all characters of pieces, in order
abbrev pub characters_of : List Cut → List ℕ
characters_of cuts = flat_map (λ c. c.text) cuts
