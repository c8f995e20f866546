use Rattle.std.proofs.Common.{◌≡◌, false, Some, None, arith}
use Rattle.std.proofs.lemmas.Bool.Decides.{nat_tests}
use Rattle.plm_token.specs.Characters.{is_dollar}
use Rattle.plm_token.specs.Names.{capital}
use Rattle.plm_token.specs.Numbers.{base_of}
use Rattle.plm_token.proofs.NormalForm.{dollar_dropped, numeral_by, numeral_decimal, numeral_none}
use Rattle.plm_token.proofs.numbers.numeral.Goals as goal

pub loop-last-preserved : goal.loop-last-preserved
loop-last-preserved c = dollar_dropped _ _ _ _ c.loop-last.invariant c.in-Some.ensures.cases.0 c.in-36.is

pub returns-in-66 : goal.returns-in-66
returns-in-66 c =
    let letter : is_dollar c.in-Some.last.now ≡ false = grind (arith, nat_tests) in
    let suffix : base_of (capital c.in-Some.last.now) ≡ Some 2 = grind (arith, nat_tests) in
    numeral_by _ _ _ _ _ _ c.loop-last.invariant c.in-Some.ensures.cases.0 letter suffix c.value.ensures

pub returns-in-79 : goal.returns-in-79
returns-in-79 c =
    let letter : is_dollar c.in-Some.last.now ≡ false = grind (arith, nat_tests) in
    let suffix : base_of (capital c.in-Some.last.now) ≡ Some 8 = grind (arith, nat_tests) in
    numeral_by _ _ _ _ _ _ c.loop-last.invariant c.in-Some.ensures.cases.0 letter suffix c.value-in-79.ensures

pub returns-in-68 : goal.returns-in-68
returns-in-68 c =
    let letter : is_dollar c.in-Some.last.now ≡ false = grind (arith, nat_tests) in
    let suffix : base_of (capital c.in-Some.last.now) ≡ Some 10 = grind (arith, nat_tests) in
    numeral_by _ _ _ _ _ _ c.loop-last.invariant c.in-Some.ensures.cases.0 letter suffix c.value-in-68.ensures

pub returns-in-72 : goal.returns-in-72
returns-in-72 c =
    let letter : is_dollar c.in-Some.last.now ≡ false = grind (arith, nat_tests) in
    let suffix : base_of (capital c.in-Some.last.now) ≡ Some 16 = grind (arith, nat_tests) in
    numeral_by _ _ _ _ _ _ c.loop-last.invariant c.in-Some.ensures.cases.0 letter suffix c.value-in-72.ensures

pub returns-in_default-last : goal.returns-in_default-last
returns-in_default-last c =
    let letter : is_dollar c.in-Some.last.now ≡ false = grind (arith, nat_tests) in
    let suffix : base_of (capital c.in-Some.last.now) ≡ None = grind (arith, nat_tests) in
    numeral_decimal _ _ _ _ _ c.loop-last.invariant c.in-Some.ensures.cases.0 letter suffix c.value-in_default-last.ensures

pub returns : goal.returns
returns c = numeral_none _ _ _ c.loop-last.invariant c.in_default.ensures.cases c.value-2.ensures
