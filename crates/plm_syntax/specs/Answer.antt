-- What `parse` answers.
use Rattle.std.specs.Prelude.{◌≡◌, None, Result, Ok, Err}
use Rattle.word86.specs.declared.fault.Fault.{Fault}
use Rattle.word86.specs.declared.fault.Fault.TheVariants.{Memory, At}
use Rattle.plm_syntax.specs.declared.tree.Module.{Module}
use Rattle.plm_syntax.specs.View.{module_of}
use Rattle.plm_syntax.specs.Spelling.{levels_of}
use Rattle.plm_syntax.specs.WellFormed.{WellModule}
use Rattle.plm_syntax.specs.Sentence.{Spells, AllWithin}
use Rattle.plm_syntax.specs.Literals.{Out}
use Rattle.plm_syntax.specs.Faults.{text_tokens, FaultIs}

-- what is answered for the tokens that came out of the replacement
abbrev pub Answers : Result Module Fault → Out → Type 0
Answers (Ok m) o = (o.stop ≡ None) × WellModule (module_of m) × Spells (module_of m) (text_tokens o) × AllWithin 64 (levels_of (module_of m))
Answers (Err Memory) o = Unit {0}
Answers (Err (At which line number)) o = (which ≡ 0) × FaultIs number line o
