use Rattle.std.proofs.Common.{◌++◌, Bool, refl, ap}
use Rattle.word86.specs.declared.number.Number.TheVariants.{E302}
use Rattle.plm_token.specs.Names.{normal}
use Rattle.plm_decl.specs.Scope.{frame}
use Rattle.plm_decl.specs.Resolver.{note_unless}
use Rattle.plm_decl.specs.BlockNames.{names_of_items, names_of_elements, names_of_variables}
use Rattle.plm_decl.proofs.BlockNames.{declaration_enters, fresh_where_undeclared}
use Rattle.plm_decl.proofs.Once.{lists_once, members_once}
use Rattle.plm_decl.proofs.DeclaredAgain.{nothing_else_twice}
use Rattle.plm_decl.proofs.laws.declared_once.Goals as goal

pub returns-clause-declared : goal.returns-clause-declared
returns-clause-declared c = λ path external outer is es vs t s k q r known n i.
    let ns = names_of_items is ++ (names_of_elements es ++ names_of_variables vs) in
    ap (λ (b : Bool). note_unless b E302 n.place known)
    (fresh_where_undeclared (normal n.text) (frame path external) outer ns _ refl (declaration_enters (frame path external) outer is es vs t s k q r))

pub returns-clause-listed : goal.returns-clause-listed
returns-clause-listed c = lists_once

pub returns-clause-members : goal.returns-clause-members
returns-clause-members c = members_once

pub returns-clause-nothing_else : goal.returns-clause-nothing_else
returns-clause-nothing_else c = nothing_else_twice
