-- A run that is watched turn by turn.
use Rattle.std.proofs.Common.{◌≡◌, ℕ, suc, ◌+◌, ◌<◌, ◌≤◌, List, Bool, sym, subst, inl, inr, arith}
use Rattle.word86.specs.declared.event.Event.{Event}
use Rattle.ppi_kbd.specs.Chips.{ChipState}
use Rattle.board.specs.declared.board.Board as code
use Rattle.board.specs.World.{World}
use Rattle.board.specs.Machine.{Board}
use Rattle.board.specs.Board.{Shows}
use Rattle.board.specs.Run.{board_turn, board_after}
use Rattle.board.proofs.Running.{board_next, last_or_before}

module _ (due : ℕ → List Event) (b : Board (World ChipState)) where
  -- one turn more
  pub shown_next : (k : ℕ) (q : code.Board) → Shows q (board_turn (due k) (board_after due k b)).0 → Shows q (board_after due (k + 1) b)
  shown_next k q h =
      let one : suc k ≡ k + 1 = omega arith in
      subst (λ j. Shows q (board_after due j b)) one (subst (Shows q) (sym (board_next due b k)) h)

  -- what holds of turns from one on, and of the next one
  pub all_next : (holds : Board (World ChipState) → Bool) (v : Bool) (from k : ℕ) → ((j : ℕ) → from ≤ j → j < k → holds (board_after due j b) ≡ v)
      → holds (board_after due k b) ≡ v → (j : ℕ) → from ≤ j → j < k + 1 → holds (board_after due j b) ≡ v
  all_next holds v from k on here j le lt =
      let below : j < suc k = omega (arith, lt) in
      elim (last_or_before j k below) [ inl lower ↦ on j le lower | inr same ↦ subst (λ i. holds (board_after due i b) ≡ v) (sym same) here ]
