use Rattle.std.proofs.Common.{◌≡◌, length, None, Some, inr, refl, sym, subst, ap, ◌∙◌}
use Rattle.std.specs.List.{list_all}
use Rattle.word86.specs.declared.fault.Fault.{Fault}
use Rattle.plm_decl.specs.Least.{least}
use Rattle.plm_decl.specs.Resolver.{Known}
use Rattle.plm_decl.specs.Inner.Resolver.{known_of}
use Rattle.plm_decl.specs.Values.{values_fit}
use Rattle.plm_decl.specs.Joins.{have_room, modules_joined}
use Rattle.plm_decl.specs.Ranges.{Counts}
use Rattle.plm_decl.specs.Inner.Ranges.{counts_of, Within}
use Rattle.plm_decl.specs.Inner.Modules.{IsRefused}
use Rattle.plm_decl.proofs.RangesJoins.{joined_within, joined_counts, joined_room}
use Rattle.plm_decl.proofs.FitsStatements.{joined_fit}
use Rattle.plm_decl.proofs.Least.{none_is, least_found}
use Rattle.plm_decl.proofs.Joined.{one_main}
use Rattle.plm_decl.proofs.resolver.Resolver.joined.Goals as goal

pub into_names-requires : goal.into_names-requires
into_names-requires c =
    let k = known_of c.args.self in
    let joined = c.in_ok-join_modules.ensures in
    let none : least None (modules_joined k).whole ≡ None =
    ap (λ (q : Known). least None q.whole) (sym joined) ∙ ap (least None) (sym c.deref.ensures.value) ∙ sym c.least.ensures.value ∙ c.in-None.is in
    let no_whole = none_is (modules_joined k).whole none in
    let before = joined_within (counts_of k) k c.requires.within in
    record {
      within = subst (λ (q : Known). Within (counts_of q) q) (sym joined) (subst (λ (n : Counts). Within n (modules_joined k)) (sym (joined_counts k)) before);
      one = ap (λ (q : Known). length q.mains) joined ∙ one_main k no_whole;
      room = ap (λ (q : Known). have_room q.objects) joined ∙ joined_room k no_whole;
      fit = ap (λ (q : Known). list_all values_fit q.objects) joined ∙ joined_fit k c.requires.fit (joined_room k no_whole);
    }

pub returns-in-Some-clause-refused : goal.returns-in-Some-clause-refused
returns-in-Some-clause-refused c =
    let k = known_of c.args.self in
    let found = c.in-Some.found in
    let first : least None (modules_joined k).whole ≡ Some found =
    ap (λ (q : Known). least None q.whole) (sym c.in_ok-join_modules.ensures) ∙ ap (least None) (sym c.deref.ensures.value) ∙ sym c.least.ensures.value ∙ c.in-Some.is in
    subst (λ (f : Fault). IsRefused f k) (sym c.fault.ensures) (found, inr (c.requires.no_fault, least_found (modules_joined k).whole found first), refl)

pub returns-in-None-clause-names : goal.returns-in-None-clause-names
returns-in-None-clause-names c =
    let k = known_of c.args.self in
    let joined = c.in_ok-join_modules.ensures in
    let are = c.into_names.ensures in
    let none : least None (modules_joined k).whole ≡ None =
    ap (λ (q : Known). least None q.whole) (sym joined) ∙ ap (least None) (sym c.deref.ensures.value) ∙ sym c.least.ensures.value ∙ c.in-None.is in
    record {
      variables = are.variables ∙ ap (λ (q : Known). q.variables) joined;
      structures = are.structures ∙ ap (λ (q : Known). q.structures) joined;
      objects = are.objects ∙ ap (λ (q : Known). q.objects) joined;
      screen_names = are.screen_names ∙ ap (λ (q : Known). q.screen_names) joined;
      procedures = are.procedures ∙ ap (λ (q : Known). q.procedures) joined;
      locations = are.locations ∙ ap (λ (q : Known). q.locations) joined;
      main = are.main ∙ ap (λ (q : Known). q.mains) joined;
      no_fault = c.requires.no_fault;
      no_whole_fault = none_is (modules_joined k).whole none;
    }
