use Rattle.std.proofs.Common.{◌≡◌, ◌<◌, length, arith}
use Rattle.ppi_kbd.proofs.Ring.{joined}
use Rattle.ppi_kbd.proofs.keyboard.Keyboard.press.Goals as goal

pub returns-then-self-lt16 : goal.returns-then-self-lt16
returns-then-self-lt16 c =
    let k = c.args.self.now in
    let whole : length k.codes ≡ 16 = omega arith in
    let first : k.first < 16 = omega arith in
    joined k.register k.codes k.first k.count c.from.result c.args.code whole first c.if-self-lt16.true c.from.ensures
