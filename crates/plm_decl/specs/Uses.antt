-- What a name that is used means: the innermost declaration before it, else a built-in of that name.
use Rattle.std.specs.Prelude.{List, Bool, true, false, Option, Some, None}
use Rattle.word86.specs.declared.number.Number.TheVariants.{E301}
use Rattle.plm_token.specs.Names.{normal}
use Rattle.plm_syntax.specs.Terminal.{NameT}
use Rattle.plm_decl.specs.declared.builtin.Builtin.{Builtin}
use Rattle.plm_decl.specs.declared.names.Item.{Item}
use Rattle.plm_decl.specs.declared.names.Item.TheVariants as item
use Rattle.plm_decl.specs.declared.resolved.Binding.{Binding}
use Rattle.plm_decl.specs.declared.resolved.Binding.TheVariants as binding
use Rattle.plm_decl.specs.Builtin.{builtin_named}
use Rattle.plm_decl.specs.Scope.{Frame, meant}
use Rattle.plm_decl.specs.Resolver.{Known, note_unless}

abbrev pub item_binding : Item → Binding
item_binding (item.Variable v) = binding.Variable v
item_binding (item.Procedure p) = binding.Procedure p

abbrev pub binding_for : Option Item → Option Builtin → Binding
binding_for (Some i) builtin = item_binding i
binding_for None (Some b) = binding.Builtin b
binding_for None None = binding.Nothing

abbrev pub is_something : Binding → Bool
is_something (binding.Variable v) = true
is_something (binding.Procedure p) = true
is_something (binding.Builtin b) = true
is_something binding.Nothing = false

abbrev pub binding_of : List Frame → NameT → Binding
binding_of frames n = binding_for (meant (normal n.text) frames) (builtin_named (normal n.text))

abbrev pub used : List Frame → NameT → Known → Binding × Known
used frames n k = (binding_of frames n, note_unless (is_something (binding_of frames n)) E301 n.place k)
