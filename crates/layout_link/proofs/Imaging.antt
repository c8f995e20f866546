-- A ROM with its start-up.
use Rattle.std.proofs.Common.{◌≡◌, ℕ, zero, suc, ◌+◌, ◌-◌, ◌%◌, ◌≤◌, List, [], ◌∷◌, length, map, get_or, Option, Some, None, refl, ap, ap₂, ◌∙◌, subst, arith}
use Rattle.std.specs.Option.{option_map_or}
use Rattle.std.specs.Prelude.{Bool, position, slice_index}
use Rattle.word86.specs.MemoryMap.{code_segment, reset_offset}
use Rattle.i86_table.specs.declared.instruction.Instr.{Instr}
use Rattle.i86_table.specs.declared.instruction.Instr.TheVariants as i
use Rattle.i86_table.specs.Contexts.{further}
use Rattle.select.specs.declared.part.Entry.{Entry}
use Rattle.select.specs.declared.part.Part.{Part}
use Rattle.layout_link.specs.declared.image.RomSize.{RomSize}
use Rattle.layout_link.specs.declared.image.RomSize.TheVariants.{Kib8, Kib16, Kib32, Kib64}
use Rattle.layout_link.specs.declared.tasks.Task.{Task}
use Rattle.layout_link.specs.Image.{bytes_in, base_of}
use Rattle.layout_link.specs.Places.{total_of, places_from}
use Rattle.layout_link.specs.Startup.{HasStartUpBefore}
use Rattle.layout_link.specs.Tasks.{placed, start_up_bytes, is_main, is_unserved}
use Rattle.layout_link.specs.Linker.{place_in}
use Rattle.layout_link.specs.Inner.Bytes.{all_bytes, StandInOrder}
use Rattle.layout_link.specs.Inner.Head.{TasksFit, start_up}
use Rattle.layout_link.proofs.Heading.{start_up_long, starts_up}

pub base_and_size : (s : RomSize) → base_of s + bytes_in s ≡ 65536
base_and_size Kib8 = refl
base_and_size Kib16 = refl
base_and_size Kib32 = refl
base_and_size Kib64 = refl

pub begin_is : (s : RomSize) (bytes head n : ℕ) → bytes ≡ bytes_in s → head ≡ n → 65536 - bytes + head ≡ base_of s + n
begin_is s bytes head n e f = ap₂ (λ x y. 65536 - x + y) e f

pub code_long : (code : List Instr) (entry : ℕ) (places : List ℕ) (from : ℕ) (tasks : List Task) (distance : ℕ) → code ≡ start_up entry places from tasks distance → length (all_bytes code) ≡ start_up_bytes tasks
code_long code entry places from tasks distance e = ap (λ l. length (all_bytes l)) e ∙ start_up_long entry places from tasks distance

pub place_below : (from : ℕ) (ps : List Part) (k : ℕ) → get_or (places_from from ps) k 0 ≤ from + total_of ps
place_below from [] zero = omega arith
place_below from [] (suc k) = omega arith
place_below from (p ∷ ps) zero = omega arith
place_below from (p ∷ ps) (suc k) = let h = place_below (from + length p.bytes.items) ps k in omega (arith, h)

some_below : (f : ℕ → ℕ) (most : ℕ) → ((k : ℕ) → f k ≤ most) → (o : Option ℕ) → option_map_or f o 0 ≤ most
some_below f most h None = omega arith
some_below f most h (Some k) = h k

module _ (parts : List Part) (tasks : List Task) (base : ℕ) where
  abbrev begin : ℕ
  begin = base + start_up_bytes tasks

  abbrev places : List ℕ
  places = places_from begin parts

  abbrev end : ℕ
  end = begin + total_of parts

  abbrev at : (Entry → Bool) → ℕ
  at is = place_in places parts is

  pub rom_starts : (code : ℕ → Option (Instr × ℕ)) (items : List Instr) (unserved main from b : ℕ) (ps : List ℕ)
      → TasksFit end tasks → end ≤ reset_offset → code reset_offset ≡ Some (i.JumpFar base code_segment, 5)
      → unserved ≡ at is_unserved → main ≡ at is_main → ps ≡ places → from ≡ end → b ≡ begin
      → items ≡ start_up unserved ps from tasks ((main + (65536 - b)) % 65536) → StandInOrder code base items
      → HasStartUpBefore begin code (at is_unserved) (map (placed places end) tasks) (at is_main)
  rom_starts code items unserved main from b ps fit low reset u m p f b_is is stand =
      let d = (at is_main + (65536 - begin)) % 65536 in
      let d_is : (main + (65536 - b)) % 65536 ≡ d = ap₂ (λ x y. (x + (65536 - y)) % 65536) m b_is in
      let is' : items ≡ start_up (at is_unserved) places end tasks d =
      is ∙ ap (λ x. start_up x ps from tasks ((main + (65536 - b)) % 65536)) u
      ∙ ap₂ (λ x y. start_up (at is_unserved) x y tasks ((main + (65536 - b)) % 65536)) p f
      ∙ ap (λ x. start_up (at is_unserved) places end tasks x) d_is in
      let main_low : at is_main ≤ end = some_below (λ k. slice_index places k) end (place_below begin parts) (position (λ q. is_main q.entry) parts) in
      let leads : further (base + start_up_bytes tasks) d ≡ at is_main = omega (arith, main_low, low) in
      starts_up code base (at is_unserved) places end tasks d (at is_main) fit (omega (arith, low)) (5, reset) leads (subst (StandInOrder code base) is' stand)
