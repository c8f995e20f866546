-- The names of one declaration, step by step.
use Rattle.std.specs.Prelude.{ℕ, List, length}
use Rattle.word86.specs.declared.number.Number.TheVariants.{E302}
use Rattle.plm_syntax.specs.declared.tree.Position.{Position}
use Rattle.plm_syntax.specs.declared.tree.Linkage.{Linkage}
use Rattle.plm_syntax.specs.Tree.{VariableT}
use Rattle.plm_decl.specs.declared.sites.Site.{Site}
use Rattle.plm_decl.specs.declared.attributes.Traits.{Traits}
use Rattle.plm_decl.specs.declared.names.Region.{Region}
use Rattle.plm_decl.specs.declared.names.Item.{Item}
use Rattle.plm_decl.specs.declared.names.Item.TheVariants as item
use Rattle.plm_decl.specs.Scope.{Frame, with_name, is_fresh}
use Rattle.plm_decl.specs.Resolver.{Known, note_unless}
use Rattle.plm_decl.specs.Shape.{size_of_shape}
use Rattle.plm_decl.specs.Linkage.{linked}
use Rattle.plm_decl.specs.Elements.{with_variable, variable_in, declared_variable, declared_variables}
use Rattle.plm_decl.specs.Sites.{site_after}

-- a name, given in normal form, is joined with those of other modules and declared at this place
abbrev pub entered : Position → List ℕ → Linkage → Item → List Frame → Known → List Frame × Known
entered place name l i frames k = (with_name name i frames, note_unless (is_fresh name frames) E302 place (linked frames l name i k))

-- a variable, and what stands for it
abbrev pub variable_put : Traits → Position → Region → Known → Item × Known
variable_put t place r k = (item.Variable (length k.variables), with_variable (variable_in t place r k) k)

-- one name, and where the next one goes
abbrev pub variable_then : VariableT → Traits → Site → List Frame → Known → Site × List Frame × Known
variable_then v t s frames k = let r = declared_variable v t s frames k in (site_after s (size_of_shape t.shape), r.0, r.1)

-- all of them, without where another one would go
abbrev pub with_variables : List VariableT → Traits → Site → List Frame → Known → List Frame × Known
with_variables vs t s frames k = let r = declared_variables vs t s frames k in (r.1, r.2)
