use Rattle.std.proofs.Common.{◌≡◌, map, drop}
use Rattle.plm_syntax.specs.View.{name_of, element_of}
use Rattle.plm_decl.specs.Stray.{stray_element}
use Rattle.plm_decl.proofs.stray.stray_element.Given as goal

abbrev pub invariant-loop-element : goal.invariant-loop-element
invariant-loop-element l = stray_element (map name_of l.parameters.names.now) (map element_of (drop l.element-index l.elements)) ≡ stray_element (map name_of l.parameters.names.now) (map element_of l.elements)
