use Rattle.std.proofs.Common.{◌∙◌, map, sym}
use Rattle.std.proofs.lemmas.Nat.Bits.{shr_and_one}
use Rattle.plm_syntax.specs.Inner.Names.{names_in}
use Rattle.plm_syntax.specs.Inner.Scope.{literal_text}
use Rattle.plm_syntax.specs.Inner.Known.{is_assumed}
use Rattle.plm_syntax.proofs.Facts.{name_of_bit, assumed_is}
use Rattle.plm_syntax.proofs.known.Known.known_name.Goals as goal

pub returns-then-holding-bit-eq1 : goal.returns-then-holding-bit-eq1
returns-then-holding-bit-eq1 c =
    let scope = c.args.scope.now in
    let names = names_in scope.names in
    let literals = map literal_text scope.literals.items in
    let assumed = scope.assumed.items in
    let bit = c.in-Some.bit in
    name_of_bit scope c.args.depth c.args.number bit c.of_bit.result c.in-Some.ensures.inside c.in-Some.ensures.bit c.of_bit.ensures.level c.of_bit.ensures.pass
    (assumed_is names literals assumed c.args.depth bit c.args.number c.in-Some.ensures.inside c.in-Some.ensures.bit
    (c.holding.ensures (is_assumed names literals assumed) c.requires.holds bit (sym (shr_and_one c.holding.result bit) ∙ c.if-holding-bit-eq1.true)))
