-- The map of a program: its ROM, its names with their places, its handlers, its stack and its start.
use Rattle.std.specs.Prelude.{ℕ, zero, suc, ◌+◌, ◌/◌, max, List, [], ◌∷◌, ◌++◌, length, drop, slice_get, slice_index, slice_range, Option, Some, None, option_map, codes, decimal}
use Rattle.std.specs.List.{concat}
use Rattle.std.specs.Option.{option_map_or}
use Rattle.word86.specs.declared.page.Page.{Page}
use Rattle.word86.specs.declared.page.Page.TheVariants.{Monochrome, Colour}
use Rattle.frames.specs.declared.counting.Stack.{Stack}
use Rattle.plm_decl.specs.declared.names.Names.{Names}
use Rattle.plm_decl.specs.declared.names.Object.{Object}
use Rattle.plm_decl.specs.declared.names.Procedure.{Procedure}
use Rattle.plm_decl.specs.declared.names.ScreenName.{ScreenName}
use Rattle.plm_type.specs.Programs.{handler_number}
use Rattle.layout_link.specs.declared.image.Image.{Image}
use Rattle.listing_map.specs.Lines.{hex2, hex4, line_end}

-- how large the ROM is
abbrev pub rom_line : ℕ → List ℕ
rom_line bytes = codes "ROM " ++ decimal (bytes / 1024) ++ codes " KIB" ++ line_end

-- a name with its offset and its size, both modulo 65,536
abbrev pub place_line : List ℕ → ℕ → ℕ → List ℕ → List ℕ
place_line word offset size name = word ++ hex4 offset ++ codes " " ++ hex4 size ++ codes " " ++ name ++ line_end

-- a line for each of these objects, of which the first has this number
abbrev pub object_lines : List ℕ → ℕ → List Object → List (List ℕ)
object_lines offsets number [] = []
object_lines offsets number (o ∷ os) = place_line (codes "OBJECT ") (slice_index offsets number) o.size o.path.items ∷ object_lines offsets (number + 1) os

-- the word of a name on a page
abbrev pub page_word : Page → List ℕ
page_word Monochrome = codes "MONO "
page_word Colour = codes "SCREEN "

abbrev pub screen_line : ScreenName → List ℕ
screen_line s = place_line (page_word s.page) s.offset s.size s.path.items

-- the objects' lines but the first `done`; in front of a screen name's line stand those of all objects that are declared before it
abbrev pub declared_lines : List (List ℕ) → ℕ → List ScreenName → List ℕ
declared_lines objects done [] = concat (drop done objects)
declared_lines objects done (s ∷ ss) = concat (slice_range objects done s.objects_before) ++ screen_line s ++ declared_lines objects (max done s.objects_before) ss

-- the name of the procedure that an interrupt of this number enters
abbrev pub handler_name : Names → ℕ → Option (List ℕ)
handler_name names number = option_map_or (λ q. option_map (λ (p : Procedure). p.path.items) (slice_get names.procedures.items q)) (handler_number names number) None

abbrev pub handler_line : ℕ → Option (List ℕ) → List ℕ
handler_line number None = []
handler_line number (Some name) = codes "HANDLER " ++ hex2 number ++ codes " " ++ name ++ line_end

-- a line for each interrupt that enters a procedure, of `count` from this number on
unfoldable pub handler_lines : ℕ → ℕ → Names → List ℕ
handler_lines zero number names = []
handler_lines (suc count) number names = handler_line number (handler_name names number) ++ handler_lines count (number + 1) names

-- the most bytes that main and an interrupt have on the stack
abbrev pub stack_line : Stack → List ℕ
stack_line stack = codes "STACK " ++ hex4 stack.main ++ codes " " ++ hex4 stack.handler ++ line_end

-- the turns from reset to main's first instruction
abbrev pub start_line : ℕ → List ℕ
start_line turns = codes "START " ++ decimal turns ++ line_end

abbrev pub map_text : Image → Names → List ℕ
map_text image names = rom_line (length image.rom.items) ++ declared_lines (object_lines image.placement.offsets.items 0 names.objects.items) 0 names.screen_names.items
    ++ handler_lines 256 0 names ++ (stack_line image.stack ++ start_line image.start_turns)
