-- The order that the matches of `clap` spell.
use Rattle.std.specs.Prelude.{◌≡◌, ◌≢◌, ◌⊎◌, List, [], Option, Some, None, codes, map, option_map, if◌then◌else◌, ⊤}
use Rattle.std.specs.Str.{bytes_eq}
use Rattle.clap.specs.Words.{Row, Text, first_of, subcommand_of}
use Rattle.clap.specs.Faults.{fault_of}
use Rattle.clap.specs.Kinds.{IsAmong}
use Rattle.clap.specs.declared.error.kind.ErrorKind.{ErrorKind}
use Rattle.clap.specs.declared.error.kind.ErrorKind.TheVariants.{DisplayHelp, DisplayVersion}
use Rattle.plm86.specs.CommandLine.{plm86_app, is_set, value_of, values_of}
use Rattle.layout_link.specs.declared.image.RomSize.{RomSize}
use Rattle.layout_link.specs.declared.image.RomSize.TheVariants.{Kib8, Kib16, Kib32, Kib64}
use Rattle.plm86.specs.declared.order.MessageFormat.{MessageFormat}
use Rattle.plm86.specs.declared.order.MessageFormat.TheVariants.{Text as AsText, Json}
use Rattle.plm86.specs.declared.order.Telling.{Telling}
use Rattle.plm86.specs.declared.order.RomForms.{RomForms}
use Rattle.plm86.specs.declared.order.Showing.{Showing}
use Rattle.plm86.specs.declared.order.Following.{Following}
use Rattle.plm86.specs.declared.order.Order.{Order}
use Rattle.plm86.specs.declared.order.Order.TheVariants.{Build, Run, Mean}
use Rattle.plm86.specs.declared.order.OrderFault.{OrderFault}
use Rattle.plm86.specs.declared.order.OrderFault.TheVariants.{Words, Help, Memory}
pub use Rattle.plm86.specs.CommandLine.{is_set, value_of, values_of}

abbrev pub size_named : Text → Option RomSize
size_named t = if bytes_eq t (codes "8") then Some Kib8 else (if bytes_eq t (codes "16") then Some Kib16
    else (if bytes_eq t (codes "32") then Some Kib32 else (if bytes_eq t (codes "64") then Some Kib64 else None)))

-- the format that a text names; that for people where there is none
abbrev pub format_named : Option Text → Option MessageFormat
format_named None = Some AsText
format_named (Some t) = if bytes_eq t (codes "text") then Some AsText else (if bytes_eq t (codes "json") then Some Json else None)

-- what is told is what these values say
abbrev pub TellingOf : List Row → Telling → Type 0
TellingOf rows telling = (telling.explains ≡ is_set (codes "explain") rows)
    × (telling.lints ≡ is_set (codes "lint") rows)
    × (telling.tells_all ≡ is_set (codes "all") rows)
    × (format_named (first_of (codes "message-format") rows) ≡ Some telling.format)

-- what a run shows is what these values say
abbrev pub ShowingOf : List Row → Showing → Type 0
ShowingOf rows showing = (showing.turns ≡ is_set (codes "turns") rows)
    × (showing.screen ≡ is_set (codes "screen") rows)
    × (showing.ansi ≡ is_set (codes "ansi") rows)
    × (showing.registers ≡ is_set (codes "registers") rows)
    × (option_map (λ s. s.now) showing.dump ≡ first_of (codes "dump") rows)
    × (option_map (λ s. s.now) showing.stop_at ≡ first_of (codes "stop-at") rows)
    × (option_map (λ s. s.now) showing.names ≡ first_of (codes "names") rows)
    × (option_map (λ s. s.now) showing.waveform ≡ first_of (codes "vcd") rows)
    × (option_map (λ s. s.now) showing.picture ≡ first_of (codes "picture") rows)

-- what a run of the meaning shows is what these values say
abbrev pub FollowingOf : List Row → Following → Type 0
FollowingOf rows following = (following.turns ≡ is_set (codes "turns") rows)
    × (option_map (λ s. s.now) following.watched ≡ first_of (codes "watch") rows)

-- the files of the ROM's other forms are those that these values name
abbrev pub FormsOf : List Row → RomForms → Type 0
FormsOf rows forms = (option_map (λ s. s.now) forms.hex ≡ first_of (codes "hex") rows)
    × (option_map (λ s. s.now) forms.even ≡ first_of (codes "even") rows)
    × (option_map (λ s. s.now) forms.odd ≡ first_of (codes "odd") rows)
    × (option_map (λ s. s.now) forms.code ≡ first_of (codes "code") rows)
    × (option_map (λ s. s.now) forms.pad ≡ first_of (codes "pad") rows)

-- the order is that of the subcommand `name` with these values
abbrev pub OrderOf : Text → List Row → Order → Type 0
OrderOf name rows (Build size rom listing map_file forms telling sources) = (name ≡ codes "build")
    × (size_named (value_of (codes "kib") rows) ≡ Some size)
    × (rom.now ≡ value_of (codes "rom") rows)
    × (option_map (λ s. s.now) listing ≡ first_of (codes "listing") rows)
    × (option_map (λ s. s.now) map_file ≡ first_of (codes "map") rows)
    × FormsOf rows forms
    × TellingOf rows telling
    × (map (λ s. s.now) sources.items ≡ values_of (codes "source") rows)
OrderOf name rows (Run rom schedule showing telling) = (name ≡ codes "run")
    × (rom.now ≡ value_of (codes "rom") rows)
    × (schedule.now ≡ value_of (codes "schedule") rows)
    × ShowingOf rows showing
    × TellingOf rows telling
OrderOf name rows (Mean schedule following telling sources) = (name ≡ codes "mean")
    × (schedule.now ≡ value_of (codes "schedule") rows)
    × FollowingOf rows following
    × TellingOf rows telling
    × (map (λ s. s.now) sources.items ≡ values_of (codes "source") rows)

-- `clap` takes the words, and the order is that of the subcommand and values of its matches
abbrev pub Spells : List Text → Order → Type 0
Spells words o = (fault_of plm86_app words ≡ []) × (name : Text) × (rows : List Row)
    × (subcommand_of plm86_app words ≡ Some (name, rows)) × OrderOf name rows o

-- a value that an option has is none of those that it may have: KIB, of `build`, or FORMAT
abbrev pub IsNoValue : Text → List Row → Type 0
IsNoValue name rows = ((name ≡ codes "build") × (size_named (value_of (codes "kib") rows) ≡ None))
    ⊎ (format_named (first_of (codes "message-format") rows) ≡ None)

-- `clap` finds a mistake in the words, or the value of an option is none that it may have
abbrev pub IsRefused : List Text → Type 0
IsRefused words = ((kind : ErrorKind) × IsAmong kind (fault_of plm86_app words) × (kind ≢ DisplayHelp) × (kind ≢ DisplayVersion))
    ⊎ ((name : Text) × (rows : List Row) × (subcommand_of plm86_app words ≡ Some (name, rows)) × IsNoValue name rows)

-- `clap` finds that the words ask for help or the version
abbrev pub AsksForHelp : List Text → Type 0
AsksForHelp words = (kind : ErrorKind) × IsAmong kind (fault_of plm86_app words) × ((kind ≡ DisplayHelp) ⊎ (kind ≡ DisplayVersion))

-- why the words give no order; want of memory may come at any point
abbrev pub IsFaultOf : List Text → OrderFault → Type 0
IsFaultOf words (Words text) = IsRefused words
IsFaultOf words (Help text) = AsksForHelp words
IsFaultOf words Memory = ⊤
