use Rattle.std.proofs.Common.{refl}
use Rattle.plm_decl.specs.Scope.{frame}
use Rattle.plm_decl.specs.BlockNames.{names_of_items}
use Rattle.plm_decl.proofs.BlockNames as names
use Rattle.plm_decl.proofs.Places.{innermost_means, declared_is_found}
use Rattle.plm_decl.proofs.ByPlaces.{read_by_places}
use Rattle.plm_decl.proofs.laws.innermost_counts.Goals as goal

pub returns : goal.returns
returns c = record {
  inside = λ path external outer is k name h. names.inside name (frame path external) outer (names_of_items is) _ refl (names.block_enters (frame path external) outer is k) h;
  outside = λ path external outer is k name h. names.outside name (frame path external) outer (names_of_items is) _ refl (names.block_enters (frame path external) outer is k) h;
  means = innermost_means;
  found = declared_is_found;
  program = read_by_places;
}
