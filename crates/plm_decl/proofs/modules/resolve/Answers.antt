use Rattle.std.proofs.Common.{◌≡◌, ◌<◌, [], map, length, true, sym, ap, subst, arith}
use Rattle.std.specs.List.{list_all}
use Rattle.std.proofs.lemmas.Result.{IfOk-weaker, IfErr-weaker}
use Rattle.plm_syntax.specs.View.{module_of}
use Rattle.plm_decl.specs.Resolver.{Known}
use Rattle.plm_decl.specs.Inner.Resolver.{known_of}
use Rattle.plm_decl.specs.Values.{values_fit}
use Rattle.plm_decl.specs.Joins.{have_room, known_from}
use Rattle.plm_decl.specs.Modules.{AreAnswered}
use Rattle.plm_decl.specs.Inner.Modules.{IsRefused}
use Rattle.plm_decl.specs.Inner.Ranges.{Within, counts_of}
use Rattle.plm_decl.proofs.RangesJoins.{known_within}
use Rattle.plm_decl.proofs.FitsStatements.{known_fit}
use Rattle.plm_decl.proofs.modules.resolve.Goals as goal

pub answer-requires : goal.answer-requires
answer-requires c =
    let ms = c.args.modules.now in
    let all : known_of c.in_ok-resolver.resolver ≡ known_from (map module_of ms) = c.in_ok-resolver.ensures in
    let table = c.in_ok-resolver.resolver.variables in
    let short : length table.items < 18446744073709551616 = omega (arith, table.ok.0, table.ok.1, table.small) in
    let few : length (known_from (map module_of ms)).variables < 18446744073709551616 = omega (arith, short, ap (λ (k : Known). length k.variables) all) in
    record {
      within = λ none. subst (λ (k : Known). Within (counts_of k) k) (sym all) (known_within (map module_of ms) (subst (λ (k : Known). k.faults ≡ []) all none));
      fit = subst (λ (k : Known). have_room k.objects ≡ true → list_all values_fit k.objects ≡ true) (sym all) (known_fit (map module_of ms) few);
    }

pub returns : goal.returns
returns c =
    let all : known_of c.in_ok-resolver.resolver ≡ known_from (map module_of c.args.modules.now) = c.in_ok-resolver.ensures in
    record {
      names = IfOk-weaker c.answer.result _ _ (λ names are. subst (λ (k : Known). AreAnswered names k) all are) c.answer.ensures.names;
      refused = IfErr-weaker c.answer.result _ _ (λ fault is. subst (λ (k : Known). IsRefused fault k) all is) c.answer.ensures.refused;
    }
