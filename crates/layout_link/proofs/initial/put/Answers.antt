use Rattle.std.proofs.Common.{◌+◌, ◌*◌, ◌++◌, ◌∷◌, [], ap₂, ◌∙◌, arith}
use Rattle.layout_link.specs.declared.tasks.Task.TheVariants as tasks
use Rattle.layout_link.specs.Initial.{puts}
use Rattle.layout_link.proofs.Putting.{word_put}
use Rattle.layout_link.proofs.initial.put.Goals as goal

pub loop-rest-preserved : goal.loop-rest-preserved
loop-rest-preserved c =
    let now = c.loop-rest.tasks.items in
    let put = c.in_ok-push.ensures.items ∙ ap₂ (λ a b. now ++ tasks.Word c.loop-rest.to (a + 256 * b) ∷ []) c.from.ensures c.from-in-loop-rest.ensures in
    record {
      so_far = word_put (c.args.tasks.now.items ++ puts c.args.to c.args.bytes.now) now c.push.new.self.items c.loop-rest.to c.loop-rest.rest.now c.split_at.result.1.now c.loop-rest-test.true c.split_at.ensures.back c.loop-rest.invariant.so_far put;
      room = omega arith;
    }
