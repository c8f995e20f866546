-- What a command does to the order of priority.
use Rattle.std.proofs.Common.{◌≡◌, ℕ, ◌+◌, ◌/◌, ◌%◌, ◌<◌, Bool, true, false, refl, ap, subst, arith, mod-lt, Option, Some, None, List, [], ◌∷◌, nat_lt}
use Rattle.std.specs.Prelude.{◌==◌, if◌then◌else◌, ◌&&◌, not}
use Rattle.word86.specs.Bytes.{is_set}
use Rattle.pic8259.specs.declared.calls.Call.{Call}
use Rattle.pic8259.specs.declared.calls.Call.TheVariants.{Write, Read, Pulse, Line, Acknowledge}
use Rattle.pic8259.specs.Levels.{has, without_level, rank}
use Rattle.pic8259.specs.Controller.{Controller, reset, pending, int_line, taken, acknowledged, initialised, selected, retired, placed_last, first_in_service, ended, commanded, configured, written}
use Rattle.pic8259.specs.Calls.{after, after_one}
use Rattle.pic8259.proofs.Priority.{highest_level}

-- the lowest level is one
abbrev IsFit : Controller → Type 0
IsFit s = s.lowest < 8

either : (b : Bool) (x y : Controller) → IsFit x → IsFit y → IsFit (if b then x else y)
either true x y h g = h
either false x y h g = g

last_fits : (o : Option ℕ) (s : Controller) → ((k : ℕ) → o ≡ Some k → k < 8) → IsFit s → IsFit (placed_last o s)
last_fits None s f h = h
last_fits (Some k) s f h = f k refl

retired_fits : (o : Option ℕ) (s : Controller) → IsFit s → IsFit (retired o s)
retired_fits None s h = h
retired_fits (Some k) s h = h

level_of_word : (v k : ℕ) → Some (v % 8) ≡ Some k → k < 8
level_of_word v k e = subst (λ x. x < 8) (some_is (v % 8) k e) (mod-lt v (omega arith)) where
  some_is : (a b : ℕ) → Some a ≡ Some b → a ≡ b
  some_is a b h = cc

served_level : (s : Controller) (k : ℕ) → first_in_service s ≡ Some k → k < 8
served_level s k e = highest_level s.lowest (has s.in_service) k e

ended_fits : (v : ℕ) (s : Controller) → IsFit s → IsFit (ended v s)
ended_fits v s h =
    let first = first_in_service s in
    either (v / 32 == 0) _ _ h
    (either (v / 32 == 1) _ _ (retired_fits first s h)
    (either (v / 32 == 3) _ _ h
    (either (v / 32 == 4) _ _ h
    (either (v / 32 == 5) _ _ (last_fits first (retired first s) (served_level s) (retired_fits first s h))
    (either (v / 32 == 6) _ _ (last_fits (Some (v % 8)) s (level_of_word v) h)
    (either (v / 32 == 7) _ _ (last_fits (Some (v % 8)) (retired (Some (v % 8)) s) (level_of_word v) h) h))))))

written_fits : (a0 v : ℕ) (s : Controller) → IsFit s → IsFit (written a0 v s)
written_fits a0 v s h =
    either (a0 == 0) (commanded v s) (configured v s)
    (either (is_set v 4) (initialised v s) (if is_set v 3 then selected v s else ended v s) (omega arith)
    (either (is_set v 3) (selected v s) (ended v s) (either (is_set v 1 && not (is_set v 7)) (record s { reads_service = is_set v 0 }) s h h) (ended_fits v s h)))
    (either s.awaits_vector _ _ h (either s.awaits_cascade _ _ h (either s.awaits_mode _ _ h h)))

level_if : (b : Bool) (k l : ℕ) → k < 8 → l < 8 → (if b then k else l) < 8
level_if true k l h g = h
level_if false k l h g = g

taken_fits : (o : Option ℕ) (s : Controller) → ((k : ℕ) → o ≡ Some k → k < 8) → IsFit s → IsFit (taken o s)
taken_fits None s f h = h
taken_fits (Some k) s f h = level_if (s.automatic && s.rotates) k s.lowest (f k refl) h

next_level : (s : Controller) (k : ℕ) → pending s ≡ Some k → k < 8
unfolding pending
next_level s k e = highest_level s.lowest _ k e

one_fits : (x : Call) (s : Controller) → IsFit s → IsFit (after_one x s)
one_fits (Write a0 v) s h = written_fits a0 v s h
one_fits (Read a0) s h = h
one_fits (Pulse k) s h = either (nat_lt k 8) _ _ h h
one_fits Line s h = h
one_fits Acknowledge s h = either (int_line s) (acknowledged s) s (taken_fits (pending s) s (next_level s) h) h

all_fit : (xs : List Call) (s : Controller) → IsFit s → IsFit (after xs s)
all_fit [] s h = h
all_fit (x ∷ xs) s h = all_fit xs (after_one x s) (one_fits x s h)

pub lowest_is_a_level : (xs : List Call) → IsFit (after xs reset)
lowest_is_a_level xs = all_fit xs reset (omega arith)

-- the level made lowest stands last, and the one behind it first
pub last_place : (k : ℕ) → k < 8 → rank k k ≡ 7
last_place k h = omega arith

pub first_place : (k : ℕ) → k < 8 → rank k ((k + 1) % 8) ≡ 0
first_place k h = omega arith

-- 101 with a level in service, and with none
pub rotated_end : (s : Controller) (k : ℕ) → first_in_service s ≡ Some k → ended 160 s ≡ record s { in_service = without_level k s.in_service; lowest = k }
rotated_end s k e = ap (λ (o : Option ℕ). placed_last o (retired o s)) e

pub no_end : (s : Controller) → first_in_service s ≡ None → ended 160 s ≡ s
no_end s e = ap (λ (o : Option ℕ). placed_last o (retired o s)) e
