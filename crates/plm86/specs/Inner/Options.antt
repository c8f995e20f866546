-- The rule of an option as the table has it.
use Rattle.clap.specs.Words.{Rule}
use Rattle.plm86.specs.CommandLine.{lettered, worded, flagged}
use Rattle.plm86.specs.declared.options.CommandOption.{CommandOption}
use Rattle.plm86.specs.declared.options.Form.{Form}
use Rattle.plm86.specs.declared.options.Form.TheVariants.{Letter, Word, Flag}
use Rattle.std.specs.Prelude.{List, ℕ}

abbrev pub rule_in : List ℕ → Form → Rule
rule_in name (Letter letter value is_required) = lettered name letter is_required
rule_in name (Word value) = worded name
rule_in name Flag = flagged name

abbrev pub rule_for : CommandOption → Rule
rule_for o = rule_in o.name.now o.form
