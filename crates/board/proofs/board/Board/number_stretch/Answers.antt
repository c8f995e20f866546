use Rattle.std.proofs.Common.{◌≡◌, ◌+◌, ◌∙◌, ap, arith}
use Rattle.board.specs.declared.run.Step.TheVariants.{Next}
use Rattle.board.proofs.Counted.{counted_went, counted_early}
use Rattle.board.proofs.Stretches.{lasted_made, lasted_early}
use Rattle.board.proofs.board.Board.number_stretch.Goals as goal

pub returns-in-Next : goal.returns-in-Next
returns-in-Next g c =
    let turn = c.args.turn in
    record {
      empty = c.number_quietly.ensures.empty;
      counted = λ due at quiet stop le b first failed f.
          let w = c.eventful_turn-kind.ensures.made due at b f.board in
          let same : w.0.last ≡ turn = omega (arith, w.0.next) in
          c.number_quietly.ensures.counted due (λ t ge below. quiet t (omega (arith, ge)) below) stop le b first failed
          (counted_went due b stop turn (turn + 1) turn c.args.self.now c.eventful_turn-kind.new.self _ _ _ _ _ _ Next c.eventful_turn-kind.new.labels.items c.eventful_turn-kind.result c.args.events.now w.0
          (ap due same ∙ at) (omega (arith, same)) (omega (arith, c.requires.order, le)) f c.in-Next.ensures.text c.in-Next.ensures.end);
      lasted = λ due at quiet stop le b s.
          let w = c.eventful_turn-kind.ensures.made due at b s.1.board in
          c.number_quietly.ensures.lasted due (λ t ge below. quiet t (omega (arith, ge)) below) stop le b
          (lasted_made due b stop turn (turn + 1) c.args.self.now c.eventful_turn-kind.new.self Next c.eventful_turn-kind.new.labels.items c.eventful_turn-kind.result w (omega (arith, c.requires.order, le)) c.in-Next.ensures.end s);
    }

pub returns-in_default : goal.returns-in_default
returns-in_default g c =
    let turn = c.args.turn in
    record {
      empty = c.put_lines.ensures.empty;
      counted = λ due at quiet stop le b first failed f.
          let w = c.eventful_turn-kind.ensures.made due at b f.board in
          let same : w.0.last ≡ turn = omega (arith, w.0.next) in
          counted_early due b stop (turn + 1) c.args.end _ _ _ _ _ c.put_lines.result c.in_default.not-Next
          (counted_went due b stop turn (turn + 1) turn c.args.self.now c.eventful_turn-kind.new.self _ _ _ _ _ _ c.put_lines.result c.eventful_turn-kind.new.labels.items c.eventful_turn-kind.result c.args.events.now w.0
          (ap due same ∙ at) (omega (arith, same)) (omega (arith, c.requires.order, le)) f c.put_lines.ensures.text c.put_lines.ensures.end);
      lasted = λ due at quiet stop le b s.
          let w = c.eventful_turn-kind.ensures.made due at b s.1.board in
          lasted_early due b stop (turn + 1) c.args.end _ c.put_lines.result c.in_default.not-Next
          (lasted_made due b stop turn (turn + 1) c.args.self.now c.eventful_turn-kind.new.self c.put_lines.result c.eventful_turn-kind.new.labels.items c.eventful_turn-kind.result w (omega (arith, c.requires.order, le)) c.put_lines.ensures.end s);
    }
