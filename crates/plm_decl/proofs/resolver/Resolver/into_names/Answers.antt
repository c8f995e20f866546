use Rattle.std.proofs.Common.{◌≡◌, map, length, refl, sym, ap, ◌∙◌, arith}
use Rattle.std.proofs.lemmas.List.{length-map, map-append}
use Rattle.plm_decl.specs.Inner.Resolver.{known_of}
use Rattle.plm_decl.specs.Names.{main_of}
use Rattle.plm_decl.specs.Inner.Ranges.{counts_of}
use Rattle.plm_decl.specs.Ranges.{main_within}
use Rattle.std.specs.List.{list_all}
use Rattle.plm_decl.proofs.Kept.{both, last_of}
use Rattle.plm_decl.proofs.RangesJoins.{sizes_within}
use Rattle.plm_decl.proofs.Joined.{only}
use Rattle.plm_decl.proofs.Lying.{lie_plainly}
use Rattle.plm_decl.proofs.resolver.Resolver.into_names.Goals as goal

pub unreachable-requires : goal.unreachable-requires
unreachable-requires c =
    let mains = c.args.self.mains in
    let none : length mains.items ≡ 0 = sym mains.ok.0 ∙ c.in_default.ensures.cases.0 in
    absurd (omega (arith, c.requires.one, none, length-map mains.items main_of))

pub invariant_of-result : goal.invariant_of-result
invariant_of-result c =
    let k = known_of c.args.self in
    let within = c.requires.within in
    let left = c.pop.new.self.items in
    let main = c.in-Some.main in
    let mains = ap (map main_of) c.in-Some.ensures.items ∙ map-append main_of left _ in
    let test = main_within (counts_of k) in
    let last = last_of test (map main_of left) (main_of main) (ap (list_all test) (sym mains) ∙ within.4) in
    record {
      views_lie = lie_plainly k.objects k.variables c.requires.room within.7;
      in_range = both within.0 (both within.1 (both within.2 (both within.3 last)));
      has_room = sizes_within c.args.self.objects.items c.requires.room;
      values_fit = c.requires.fit;
    }

pub returns : goal.returns
returns c =
    let left = c.pop.new.self.items in
    record {
      variables = refl;
      structures = refl;
      objects = refl;
      screen_names = refl;
      procedures = refl;
      locations = refl;
      main = only (map main_of left) (main_of c.in-Some.main) (map main_of c.args.self.mains.items)
          (ap (map main_of) c.in-Some.ensures.items ∙ map-append main_of left _) c.requires.one;
    }
