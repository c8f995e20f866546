-- The 8259A of this board (8259A data sheet, "Fully Nested Mode"; the words by "Initialization Command Word Format" and
-- "Operation Command Word Format"): sets of levels, and what each call does to them.
use Rattle.std.specs.Prelude.{ℕ, Bool, true, false, not, ◌==◌, ◌+◌, ◌*◌, ◌/◌, ◌%◌, ◌&&◌, ◌||◌, nat_lt, if◌then◌else◌, Option, Some, None, is_some, unwrap_or, map}
use Rattle.std.specs.List.{list_all, range_with_len}
use Rattle.word86.specs.Bytes.{is_set}
use Rattle.pic8259.specs.Levels.{has, with_level, without_level, level_at, rank, highest}

pub record Controller : Type 0 where
  pub requested : ℕ
  pub in_service : ℕ
  pub masked : ℕ
  pub lowest : ℕ  -- the level of lowest priority
  pub base : ℕ  -- the vector of level 0, a multiple of 8
  pub reads_service : Bool  -- which register is read at A0 = 0
  pub automatic : Bool  -- end of interrupt by the acknowledgement itself
  pub rotates : Bool  -- that end makes the acknowledged level lowest
  pub mode_8086 : Bool
  pub awaits_vector : Bool  -- the initialisation words ICW2, ICW3 and ICW4 still to come
  pub awaits_cascade : Bool
  pub awaits_mode : Bool

-- at reset IR7 is the lowest level, IR0 the highest
abbrev pub reset : Controller
reset = record { requested = 0; in_service = 0; masked = 0; lowest = 7; base = 0; reads_service = false; automatic = false; rotates = false; mode_8086 = false; awaits_vector = false; awaits_cascade = false; awaits_mode = false }

-- request line k rises: the request stays until it is acknowledged, or until ICW1; there are the lines 0 to 7 alone
abbrev pub pulsed : ℕ → Controller → Controller
pulsed k s = if nat_lt k 8 then record s { requested = with_level k s.requested } else s

-- requested and not masked
abbrev pub is_wanted : Controller → ℕ → Bool
is_wanted s k = has s.requested k && not (has s.masked k)

-- a level stands above every level in service
abbrev pub is_above : ℕ → (ℕ → Bool) → ℕ → Bool
is_above lowest in_service k = list_all (λ j. nat_lt (rank lowest k) (rank lowest j) || not (in_service j)) (map (level_at lowest) (range_with_len 0 8))

-- the level that is next: the highest requested, unmasked level above every level in service
unfoldable pub pending : Controller → Option ℕ
pending s = highest s.lowest (λ k. is_above s.lowest (has s.in_service) k && is_wanted s k)

-- INT
abbrev pub int_line : Controller → Bool
int_line s = s.mode_8086 && is_some (pending s)

-- the vector of an acknowledgement
abbrev pub vector : Controller → ℕ
vector s = s.base + unwrap_or (pending s) 0

-- a level is taken: its request ends, and it is in service unless its end is automatic, which with rotation makes it lowest
abbrev pub taken : Option ℕ → Controller → Controller
taken None s = s
taken (Some k) s = record s {
  requested = without_level k s.requested;
  in_service = if s.automatic then s.in_service else with_level k s.in_service;
  lowest = if s.automatic && s.rotates then k else s.lowest;
}

abbrev pub acknowledged : Controller → Controller
acknowledged s = taken (pending s) s

-- ICW1: bit 0 announces ICW4, bit 1 says that there is no ICW3; IR7 is lowest and nothing rotates; the vector stays
abbrev pub initialised : ℕ → Controller → Controller
initialised v s = record {
  requested = 0;
  in_service = 0;
  masked = 0;
  lowest = 7;
  base = s.base;
  reads_service = false;
  automatic = false;
  rotates = false;
  mode_8086 = false;
  awaits_vector = true;
  awaits_cascade = not (is_set v 1);
  awaits_mode = is_set v 0;
}

-- OCW3: which register is read; with bit 7 it does nothing
abbrev pub selected : ℕ → Controller → Controller
selected v s = if is_set v 1 && not (is_set v 7) then record s { reads_service = is_set v 0 } else s

-- a level, if there is one, is no longer in service
abbrev pub retired : Option ℕ → Controller → Controller
retired None s = s
retired (Some k) s = record s { in_service = without_level k s.in_service }

-- a level, if there is one, is lowest: the order of priority begins behind it
abbrev pub placed_last : Option ℕ → Controller → Controller
placed_last None s = s
placed_last (Some k) s = record s { lowest = k }

-- the highest level in service
abbrev pub first_in_service : Controller → Option ℕ
first_in_service s = highest s.lowest (has s.in_service)

-- OCW2: bits 7 to 5 are 001 for the end of the highest level in service, and 011 for that of the level of bits 2 to 0; 101 and
-- 111 are the same ends, each with rotation: the level that is ended is lowest. 110 makes the level of bits 2 to 0 lowest, and
-- 100 and 000 set and clear rotation at the automatic end; 010 does nothing
abbrev pub ended : ℕ → Controller → Controller
ended v s =
    if v / 32 == 0 then record s { rotates = false }
    else if v / 32 == 1 then retired (first_in_service s) s
    else if v / 32 == 3 then retired (Some (v % 8)) s
    else if v / 32 == 4 then record s { rotates = true }
    else if v / 32 == 5 then placed_last (first_in_service s) (retired (first_in_service s) s)
    else if v / 32 == 6 then placed_last (Some (v % 8)) s
    else if v / 32 == 7 then placed_last (Some (v % 8)) (retired (Some (v % 8)) s)
    else s

-- a word at A0 = 0: ICW1 with bit 4, else OCW3 with bit 3, else OCW2
abbrev pub commanded : ℕ → Controller → Controller
commanded v s = if is_set v 4 then initialised v s else if is_set v 3 then selected v s else ended v s

-- a word at A0 = 1: the first initialisation word still awaited (ICW2 the vector's high five bits, ICW3 without effect, ICW4
-- bit 0 8086 mode and bit 1 automatic end), else OCW1, the mask
abbrev pub configured : ℕ → Controller → Controller
configured v s =
    if s.awaits_vector then record s { base = 8 * (v / 8); awaits_vector = false }
    else if s.awaits_cascade then record s { awaits_cascade = false }
    else if s.awaits_mode then record s { mode_8086 = is_set v 0; automatic = is_set v 1; awaits_mode = false }
    else record s { masked = v }

abbrev pub written : ℕ → ℕ → Controller → Controller
written a0 v s = if a0 == 0 then commanded v s else configured v s

-- what a read answers: the levels in service or the requested ones, and at A0 = 1 the mask
abbrev pub answer : ℕ → Controller → ℕ
answer a0 s = if a0 == 0 then (if s.reads_service then s.in_service else s.requested) else s.masked
