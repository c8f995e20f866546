-- The command line as `clap` is told it, and the order that its matches spell.
use Rattle.std.specs.Prelude.{ℕ, Bool, true, false, List, [], ◌∷◌, Some, codes, fold, unwrap_or}
use Rattle.std.specs.Str.{bytes_eq}
use Rattle.clap.specs.Words.{App, Row, Rule, Text, all_of, first_of, new_app, new_rule, with_rule, with_subcommand}
use Rattle.clap.specs.declared.builder.action.ArgAction.TheVariants.{Append, SetTrue}

abbrev pub needed : Text → Rule
needed id = record (new_rule id) { required = true; value_names = 1 }

abbrev pub several : Text → Rule
several id = record (needed id) { action = Some Append }

abbrev pub lettered : Text → ℕ → Bool → Rule
lettered id letter is_required = record (new_rule id) { short = Some letter; required = is_required; value_names = 1 }

-- an option by its name, with a value, and one without
abbrev pub worded : Text → Rule
worded id = record (new_rule id) { long = Some id; value_names = 1 }

abbrev pub flagged : Text → Rule
flagged id = record (new_rule id) { long = Some id; action = Some SetTrue }

-- the letters are r, o, l and m
abbrev pub build_options : List Rule
build_options = lettered (codes "kib") 114 true
    ∷ lettered (codes "rom") 111 true
    ∷ lettered (codes "listing") 108 false
    ∷ lettered (codes "map") 109 false
    ∷ worded (codes "hex")
    ∷ worded (codes "even")
    ∷ worded (codes "odd")
    ∷ worded (codes "code")
    ∷ worded (codes "pad")
    ∷ flagged (codes "lint")
    ∷ flagged (codes "all")
    ∷ []

abbrev pub run_options : List Rule
run_options = flagged (codes "turns")
    ∷ flagged (codes "screen")
    ∷ flagged (codes "ansi")
    ∷ flagged (codes "registers")
    ∷ worded (codes "dump")
    ∷ worded (codes "stop-at")
    ∷ worded (codes "names")
    ∷ worded (codes "vcd")
    ∷ worded (codes "picture")
    ∷ []

abbrev pub mean_options : List Rule
mean_options = flagged (codes "lint") ∷ flagged (codes "all") ∷ flagged (codes "turns") ∷ worded (codes "watch") ∷ []

-- the options of every command
abbrev pub telling_options : List Rule
telling_options = flagged (codes "explain")
    ∷ worded (codes "message-format")
    ∷ []

abbrev pub with_rules : App → List Rule → App
with_rules a rules = fold with_rule a rules

abbrev pub build_app : App
build_app = with_rule (with_rules (with_rules (new_app (codes "build")) build_options) telling_options) (several (codes "source"))

abbrev pub run_app : App
run_app = with_rule (with_rule (with_rules (with_rules (new_app (codes "run")) run_options) telling_options) (needed (codes "rom"))) (needed (codes "schedule"))

abbrev pub mean_app : App
mean_app = with_rule (with_rule (with_rules (with_rules (new_app (codes "mean")) mean_options) telling_options) (needed (codes "schedule"))) (several (codes "source"))

abbrev pub outer : App
outer = record {
  top = record (new_app (codes "plm86")).top {
    no_binary_name = true;
    has_version = true;
    disable_help_subcommand = true;
    subcommand_required = true;
  };
  subs = [];
}

abbrev pub plm86_app : App
plm86_app = with_subcommand (with_subcommand (with_subcommand outer build_app.top) run_app.top) mean_app.top

-- the first value of an argument, and all of them
abbrev pub value_of : Text → List Row → Text
value_of id rows = unwrap_or (first_of id rows) []

abbrev pub values_of : Text → List Row → List Text
values_of id rows = unwrap_or (all_of id rows) []

-- whether a flag is given
abbrev pub is_set : Text → List Row → Bool
is_set id rows = bytes_eq (value_of id rows) (codes "true")
