use Rattle.std.proofs.Common.{◌∷◌, Some, None, Ok, refl, sym, ◌∙◌, arith}
use Rattle.plm_token.specs.declared.token.Mark.TheVariants as mark
use Rattle.plm_syntax.specs.View.{name_of, base_of}
use Rattle.plm_syntax.specs.Inner.Symbol.{push, Want, EndR, EndG}
use Rattle.plm_syntax.specs.Inner.Parsed.{ahead, next_of}
use Rattle.plm_syntax.specs.Inner.Blocks.{read_end}
use Rattle.plm_syntax.proofs.Along.{quiet, taken, refused, refusal}
use Rattle.plm_syntax.proofs.Joined.{closes_at, closes_by, closes_within}
use Rattle.plm_syntax.proofs.NextBlock.{end_taken, end_other, end_refused}
use Rattle.plm_syntax.proofs.statement.end.Goals as goal

pub returns-in_default-clause-leads : goal.returns-in_default-clause-leads
returns-in_default-clause-leads c = λ s v. closes_by read_end mark.Semicolon s v None c.args.cursor c.close.result c.close.ensures
    (λ q. refused (EndG (base_of c.args.label)) c.args.cursor s v (end_refused (base_of c.args.label) (next_of c.args.cursor) c.in_default.ensures q))
    (λ p b h. taken (Want (EndG (base_of c.args.label)) ∷ s) v h ∙ quiet b (push (EndR None) ∷ s) s v (EndR None ∷ v) (λ t q. refl))

pub returns-in_default-clause-within : goal.returns-in_default-clause-within
returns-in_default-clause-within c = closes_within mark.Semicolon c.args.cursor (Ok (None, c.args.cursor)) c.close.result c.close.ensures (omega arith)

pub returns-clause-leads : goal.returns-clause-leads
returns-clause-leads c = λ s v. refusal c.refuse.result c.args.cursor c.refuse.ensures (refused (EndG (base_of c.args.label)) c.args.cursor s v (end_other (base_of c.args.label) c.args.cursor c.in-Some.behind (name_of c.in-Some.name) c.in-Some.name.place c.in-Some.ensures (sym c.names_block.ensures ∙ c.if-names_block.false)))

pub returns-then-names_block-clause-leads : goal.returns-then-names_block-clause-leads
returns-then-names_block-clause-leads c = λ s v. closes_at read_end mark.Semicolon s (push (EndR (Some (name_of c.in-Some.name))) ∷ s) v v (Some c.in-Some.name) c.in-Some.behind c.close-then-names_block.result c.close-then-names_block.ensures
    (taken (Want (EndG (base_of c.args.label)) ∷ s) v c.in-Some.ensures
    ∙ end_taken (base_of c.args.label) (name_of c.in-Some.name) c.in-Some.name.place s v (ahead c.in-Some.behind) (sym c.names_block.ensures ∙ c.if-names_block.true))
    (λ b. quiet b (push (EndR (Some (name_of c.in-Some.name))) ∷ s) s v (EndR (Some (name_of c.in-Some.name)) ∷ v) (λ t q. refl))

pub returns-then-names_block-clause-within : goal.returns-then-names_block-clause-within
returns-then-names_block-clause-within c = closes_within mark.Semicolon c.args.cursor (Ok (Some c.in-Some.name, c.in-Some.behind)) c.close-then-names_block.result c.close-then-names_block.ensures (omega (arith, c.in-Some.ensures.shorter))
