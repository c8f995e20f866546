use Rattle.std.proofs.Common.{[], ◌++◌, cond, Some, sym, ◌∙◌}
use Rattle.plm_decl.specs.declared.layout.ScalarType.TheVariants.{Integer}
use Rattle.plm_type.specs.declared.numbers.Numbers.TheVariants.{Other}
use Rattle.plm_type.specs.Numbers.{integer_of, fits, range_faults}
use Rattle.plm_type.specs.Typing.{given_if}
use Rattle.plm_type.specs.View.{expression_of}
use Rattle.plm_type.proofs.Said.{done_at}
use Rattle.plm_type.proofs.typer.Typer.wanted.Goals as goal

pub returns : goal.returns
returns c =
    let m = c.args.self.now.module in
    let e = c.args.e in
    let old = c.args.faults.now.items in
    let pair = c.in_ok-e.ensures in
    let made = c.turned.ensures in
    let yes = sym c.turn.ensures ∙ c.if-not-turn.false in
    let faults = done_at pair.1 c.note_range.ensures in
    (λ j. record { tree = made.tree j; scalar = made.scalar j; numbers = made.numbers j; faults = faults j })
    ∙ (λ j. record { tree = integer_of (expression_of (pair.0 j).tree); scalar = given_if (fits (pair.0 j).numbers) (Some Integer); numbers = Other; faults = old ++ range_faults m e.numbers })
    ∙ sym (λ j. record {
      tree = cond (yes j) (integer_of (expression_of e.tree)) (expression_of e.tree);
      scalar = cond (yes j) (given_if (fits e.numbers) (Some Integer)) e.scalar;
      numbers = cond (yes j) Other e.numbers;
      faults = old ++ cond (yes j) (range_faults m e.numbers) [];
    })
