use Rattle.std.proofs.Common.{ℕ, ap, sym, ◌∙◌, drop}
use Rattle.icode.specs.Machine.{Context, At, run, stored, with_value, value_on_top}
use Rattle.icode.specs.Shown.{words_of, access_in}
use Rattle.icode.proofs.machine.Context.access.Goals as goal

pub returns-in-StoreAt : goal.returns-in-StoreAt
returns-in-StoreAt c all next =
    let self = c.args.self.now in
    let after : ℕ → Context = λ v. At self.position.routine next v (drop 1 (words_of self)) in
    let ram_objects = c.args.ram_objects in
    c.written_top.ensures after
    ∙ ap (λ place. access_in (with_value (value_on_top (words_of self)) (λ v. stored c.in-StoreAt.width place v (after v)))) c.reached-in-StoreAt.ensures
    ∙ sym (ap (λ i. access_in (run ram_objects.offsets.now ram_objects.sizes.now all i self.position.routine next self.accumulator (words_of self))) c.in-StoreAt.is)

pub returns-in-StoreThere : goal.returns-in-StoreThere
returns-in-StoreThere c all next =
    let self = c.args.self.now in
    let after : ℕ → Context = λ v. At self.position.routine next v (drop 1 (words_of self)) in
    let ram_objects = c.args.ram_objects in
    c.written_top-in-StoreThere.ensures after
    ∙ ap (λ place. access_in (with_value (value_on_top (words_of self)) (λ v. stored c.in-StoreThere.width place v (after v)))) c.held-in-StoreThere.ensures
    ∙ sym (ap (λ i. access_in (run ram_objects.offsets.now ram_objects.sizes.now all i self.position.routine next self.accumulator (words_of self))) c.in-StoreThere.is)

pub returns-in-StoreTop : goal.returns-in-StoreTop
returns-in-StoreTop c all next =
    let self = c.args.self.now in
    let after : ℕ → Context = λ v. At self.position.routine next self.accumulator (drop 1 (words_of self)) in
    let ram_objects = c.args.ram_objects in
    c.written_top-in-StoreTop.ensures after
    ∙ ap (λ place. access_in (with_value (value_on_top (words_of self)) (λ v. stored c.in-StoreTop.width place v (after v)))) c.reached-in-StoreTop.ensures
    ∙ sym (ap (λ i. access_in (run ram_objects.offsets.now ram_objects.sizes.now all i self.position.routine next self.accumulator (words_of self))) c.in-StoreTop.is)
