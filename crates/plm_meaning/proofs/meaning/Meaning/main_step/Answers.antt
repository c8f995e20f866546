use Rattle.std.proofs.Common.{sym, ap, subst, ◌∙◌, option_map}
use Rattle.ppi_kbd.specs.BoardChips.{board_chips}
use Rattle.ppi_kbd.specs.Ports.{Shows}
use Rattle.plm_type.specs.Rest.{Rest, Main, Handler}
use Rattle.plm_type.specs.Next.{next}
use Rattle.plm_type.specs.Programs.{handler_rest}
use Rattle.plm_meaning.specs.Context.{to_run_in, to_run_of}
use Rattle.plm_meaning.specs.Meaning.{state_of}
use Rattle.plm_meaning.specs.Shown.{store_of, labels_of}
use Rattle.plm_meaning.specs.Around.{names_of}
use Rattle.plm_meaning.specs.Inner.Redex.{offsets_of, sizes_of, procedures_in, left, acting, context_action}
use Rattle.plm_meaning.specs.Store.{shared}
use Rattle.plm_meaning.proofs.Moves as moves
use Rattle.plm_meaning.proofs.meaning.Meaning.main_step.Goals as goal

pub returns-clause-made : goal.returns-clause-made
returns-clause-made c p shown =
    let m = c.args.self.now in
    let s = m.around in
    let k = c.settle.new.context in
    let ps = procedures_in s in
    let next_is = c.main_action.new.next in
    let going = left s k.focus in
    let act = acting next_is going in
    let put = to_run_in k.frames.items in
    let made = c.in_ok-label.ensures.made p shown in (
      made.0,
      subst (λ ports. Shows ports made.0) (sym c.settle_counts.ensures.ports) made.1,
      moves.main_goes (shared board_chips) Rest (next (offsets_of s) (sizes_of s) ps) (handler_rest (names_of s)) Main
          (Main (to_run_of m.main)) (option_map (λ h. Handler (to_run_of h)) m.handler) m.on m.halted (store_of m.store p) m.silents m.switches
          c.is_interrupted.result (context_action s k next_is) (c.in-Some.silents, c.in-Some.switches)
          (to_run_of c.perform.new.context) (store_of c.perform.new.store made.0) (labels_of c.in_ok-label.label)
          c.is_on_after-on.result c.is_halted_after-halted.result (state_of c.settle_counts.new.self made.0)
          (ap (option_map (λ h. Handler (to_run_of h))) c.requires) c.if-self.false
          (c.is_interrupted.ensures.can p shown)
          (ap (λ t. next (offsets_of s) (sizes_of s) ps (Main t)) (sym c.in_ok-settle.ensures.rest) ∙ c.main_action.ensures.action)
          (moves.counted_map put c.is_interrupted.result act m.silents m.switches ∙ sym (c.counted.ensures going) ∙ c.in-Some.is)
          made.2
          (c.is_on_after-on.ensures going ∙ sym (moves.on_map put act m.on))
          (c.is_halted_after-halted.ensures going ∙ sym (moves.halted_map put act))
          (c.settle_counts.ensures.state made.0 made.1),
    )
