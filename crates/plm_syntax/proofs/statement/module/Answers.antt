use Rattle.std.proofs.Common.{◌∷◌, [], List, Some, refl, ap, ◌∙◌}
use Rattle.plm_token.specs.declared.token.Mark.TheVariants as mark
use Rattle.plm_syntax.specs.Terminal.{Finish, Sign}
use Rattle.plm_syntax.specs.Tree.{BlockT, ModuleOf, no_items, BlockOf}
use Rattle.plm_syntax.specs.View.{block_of, name_of, base_of}
use Rattle.plm_syntax.specs.Inner.Symbol.{ModuleR, need, push, Need, Want, Do, Leave, ItemsR, ItemsG, ModuleG, StartG}
use Rattle.plm_syntax.specs.Inner.Machine.{make_module, start, run}
use Rattle.plm_syntax.specs.Inner.Parsed.{next_of, stream}
use Rattle.plm_token.specs.declared.token.Token.{Token}
use Rattle.plm_syntax.specs.Inner.Blocks.{items_part, statements_part, read_block}
use Rattle.plm_syntax.proofs.Along.{quiet, taken, refused, need_refused, refusal, fails_behind}
use Rattle.plm_syntax.proofs.NextBlock.{start_refused, module_refused, block_parts, failed_module, finishes, finished}
use Rattle.plm_syntax.proofs.statement.module.Goals as goal

pub returns-in_err-name : goal.returns-in_err-name
returns-in_err-name c = failed_module c.from_residual.result c.in_err-name.field-0.0 c.from_residual.ensures.1 c.args.cursor (fails_behind c.in_err-name.field-0.0
    (refused StartG c.args.cursor [] [] (start_refused (next_of c.args.cursor) c.in_err-name.ensures.0))
    (refusal c.in_err-name.field-0.0 c.args.cursor c.in_err-name.ensures.1 refl))

pub returns-in_err-heading : goal.returns-in_err-heading
returns-in_err-heading c = failed_module c.from_residual-in_err-heading.result c.in_err-heading.field-0.0 c.from_residual-in_err-heading.ensures.1 c.args.cursor (fails_behind c.in_err-heading.field-0.0
    (taken start [] c.in_ok-name.ensures
    ∙ need_refused (Sign mark.Colon) c.in_ok-name.behind (Want (ModuleG (name_of c.in_ok-name.name)) ∷ []) [] c.in_err-heading.ensures.0)
    (refusal c.in_err-heading.field-0.0 c.in_ok-name.behind c.in_err-heading.ensures.1 refl))

pub returns-in_err-start : goal.returns-in_err-start
returns-in_err-start c = failed_module c.from_residual-in_err-start.result c.in_err-start.field-0.0 c.from_residual-in_err-start.ensures.1 c.args.cursor (fails_behind c.in_err-start.field-0.0
    (taken start [] c.in_ok-name.ensures
    ∙ taken (need mark.Colon ∷ Want (ModuleG (name_of c.in_ok-name.name)) ∷ []) [] c.in_ok-heading.ensures.1
    ∙ refused (ModuleG (name_of c.in_ok-name.name)) c.in_ok-heading.heading [] [] (module_refused (name_of c.in_ok-name.name) (next_of c.in_ok-heading.heading) c.in_err-start.ensures.0))
    (refusal c.in_err-start.field-0.0 c.in_ok-heading.heading c.in_err-start.ensures.1 refl))

pub returns-in_err-inner : goal.returns-in_err-inner
returns-in_err-inner c = failed_module c.from_residual-in_err-inner.result c.in_err-inner.field-0.0 c.from_residual-in_err-inner.ensures.1 c.args.cursor (fails_behind c.in_err-inner.field-0.0
    (taken start [] c.in_ok-name.ensures
    ∙ taken (need mark.Colon ∷ Want (ModuleG (name_of c.in_ok-name.name)) ∷ []) [] c.in_ok-heading.ensures.1
    ∙ taken (Want (ModuleG (name_of c.in_ok-name.name)) ∷ []) [] c.in_ok-start.ensures.1
    ∙ need_refused (Sign mark.Semicolon) c.in_ok-start.start (push (ItemsR no_items) ∷ Want (ItemsG (Some (name_of c.in_ok-name.name))) ∷ Leave ∷ Do (make_module (name_of c.in_ok-name.name)) ∷ Need Finish ∷ []) [] c.in_err-inner.ensures.0)
    (refusal c.in_err-inner.field-0.0 c.in_ok-start.start c.in_err-inner.ensures.1 refl))

pub returns-in_err-block : goal.returns-in_err-block
returns-in_err-block c = failed_module c.from_residual-in_err-block.result c.in_err-block.field-0.0 c.from_residual-in_err-block.ensures.1 c.args.cursor (fails_behind c.in_err-block.field-0.0
    (taken start [] c.in_ok-name.ensures
    ∙ taken (need mark.Colon ∷ Want (ModuleG (name_of c.in_ok-name.name)) ∷ []) [] c.in_ok-heading.ensures.1
    ∙ taken (Want (ModuleG (name_of c.in_ok-name.name)) ∷ []) [] c.in_ok-start.ensures.1
    ∙ taken (need mark.Semicolon ∷ push (ItemsR no_items) ∷ Want (ItemsG (Some (name_of c.in_ok-name.name))) ∷ Leave ∷ Do (make_module (name_of c.in_ok-name.name)) ∷ Need Finish ∷ []) [] c.in_ok-inner.ensures.1
    ∙ quiet c.in_ok-inner.inner (push (ItemsR no_items) ∷ Want (ItemsG (Some (name_of c.in_ok-name.name))) ∷ Leave ∷ Do (make_module (name_of c.in_ok-name.name)) ∷ Need Finish ∷ []) (Want (ItemsG (Some (name_of c.in_ok-name.name))) ∷ Leave ∷ Do (make_module (name_of c.in_ok-name.name)) ∷ Need Finish ∷ []) [] (ItemsR no_items ∷ []) (λ t q. refl))
    (c.in_err-block.ensures.leads (Leave ∷ Do (make_module (name_of c.in_ok-name.name)) ∷ Need Finish ∷ []) [] refl))

pub returns : goal.returns
returns c = finishes (record { name = c.in_ok-name.name; block = c.in_ok-block.block; end = c.in_ok-block.end }) c.args.cursor c.in_ok-block.rest c.finish.result c.finish.ensures
    (λ q. taken start [] c.in_ok-name.ensures
    ∙ taken (need mark.Colon ∷ Want (ModuleG (name_of c.in_ok-name.name)) ∷ []) [] c.in_ok-heading.ensures.1
    ∙ taken (Want (ModuleG (name_of c.in_ok-name.name)) ∷ []) [] c.in_ok-start.ensures.1
    ∙ taken (need mark.Semicolon ∷ push (ItemsR no_items) ∷ Want (ItemsG (Some (name_of c.in_ok-name.name))) ∷ Leave ∷ Do (make_module (name_of c.in_ok-name.name)) ∷ Need Finish ∷ []) [] c.in_ok-inner.ensures.1
    ∙ quiet c.in_ok-inner.inner (push (ItemsR no_items) ∷ Want (ItemsG (Some (name_of c.in_ok-name.name))) ∷ Leave ∷ Do (make_module (name_of c.in_ok-name.name)) ∷ Need Finish ∷ []) (Want (ItemsG (Some (name_of c.in_ok-name.name))) ∷ Leave ∷ Do (make_module (name_of c.in_ok-name.name)) ∷ Need Finish ∷ []) [] (ItemsR no_items ∷ []) (λ t q. refl)
    ∙ c.in_ok-block.ensures.leads (Leave ∷ Do (make_module (name_of c.in_ok-name.name)) ∷ Need Finish ∷ []) [] refl
    ∙ quiet c.in_ok-block.rest (Leave ∷ Do (make_module (name_of c.in_ok-name.name)) ∷ Need Finish ∷ []) (Need Finish ∷ []) (read_block (c.in_ok-block.block, c.in_ok-block.end) []) (ModuleR (ModuleOf (name_of c.in_ok-name.name) (BlockOf (items_part (block_of c.in_ok-block.block)) (statements_part (block_of c.in_ok-block.block))) (base_of c.in_ok-block.end)) ∷ []) (λ t q. refl)
    ∙ need_refused Finish c.in_ok-block.rest [] _ q)
    (λ q. taken start [] c.in_ok-name.ensures
    ∙ taken (need mark.Colon ∷ Want (ModuleG (name_of c.in_ok-name.name)) ∷ []) [] c.in_ok-heading.ensures.1
    ∙ taken (Want (ModuleG (name_of c.in_ok-name.name)) ∷ []) [] c.in_ok-start.ensures.1
    ∙ taken (need mark.Semicolon ∷ push (ItemsR no_items) ∷ Want (ItemsG (Some (name_of c.in_ok-name.name))) ∷ Leave ∷ Do (make_module (name_of c.in_ok-name.name)) ∷ Need Finish ∷ []) [] c.in_ok-inner.ensures.1
    ∙ quiet c.in_ok-inner.inner (push (ItemsR no_items) ∷ Want (ItemsG (Some (name_of c.in_ok-name.name))) ∷ Leave ∷ Do (make_module (name_of c.in_ok-name.name)) ∷ Need Finish ∷ []) (Want (ItemsG (Some (name_of c.in_ok-name.name))) ∷ Leave ∷ Do (make_module (name_of c.in_ok-name.name)) ∷ Need Finish ∷ []) [] (ItemsR no_items ∷ []) (λ t q. refl)
    ∙ c.in_ok-block.ensures.leads (Leave ∷ Do (make_module (name_of c.in_ok-name.name)) ∷ Need Finish ∷ []) [] refl
    ∙ ap (λ (ts : List Token). run 64 (Leave ∷ Do (make_module (name_of c.in_ok-name.name)) ∷ Need Finish ∷ []) (read_block (c.in_ok-block.block, c.in_ok-block.end) []) (stream c.in_ok-block.rest.number ts)) q
    ∙ ap (λ (b : BlockT). finished (ModuleOf (name_of c.in_ok-name.name) b (base_of c.in_ok-block.end))) (block_parts (block_of c.in_ok-block.block)))
