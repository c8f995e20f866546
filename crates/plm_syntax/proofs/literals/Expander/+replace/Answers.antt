use Rattle.std.proofs.Common.{◌≡◌, ◌∙◌, ◌<◌, ◌≤◌, List, length, map, OnOk, ap, sym, subst, arith}
use Rattle.std.proofs.lemmas.List.{length-map}
use Rattle.plm_token.specs.Literals.{Symbol}
use Rattle.plm_syntax.specs.declared.named_token.NamedToken.{NamedToken}
use Rattle.plm_syntax.specs.Literals.{Blocks, Out, symbol_out, text_out}
use Rattle.plm_syntax.specs.Inner.Scope.{named_symbol, literal_text}
use Rattle.plm_syntax.specs.Inner.Literals.{out_of}
use Rattle.plm_syntax.proofs.Replaced.{numbered_deep, numbered_text}
use Rattle.plm_syntax.proofs.Passed.{text_is, token_out, put_on, put_over, passed_over}
use Rattle.plm_syntax.proofs.literals.Expander.+replace.Goals as goal

pub put_symbol-returns-then-depth-eq0-clause-ok : goal.put_symbol-returns-then-depth-eq0-clause-ok
put_symbol-returns-then-depth-eq0-clause-ok t c =
    numbered_deep c.args.depth c.args.line (named_symbol c.args.token.now) (out_of c.args.self.now) c.in-Some.index c.if-depth-eq0.true (sym c.is_some.ensures ∙ c.if-is_some.false) c.in-Some.ensures.named
    (omega (arith, length-map c.args.self.now.blocks.scope.literals.items literal_text, c.in-Some.ensures.inside))

pub put_symbol-returns-else-depth-eq0-clause-ok : goal.put_symbol-returns-else-depth-eq0-clause-ok
put_symbol-returns-else-depth-eq0-clause-ok t c =
    let within : c.in-Some.index < length (out_of c.args.self.now).blocks.literals = omega (arith, length-map c.args.self.now.blocks.scope.literals.items literal_text, c.in-Some.ensures.inside) in
    subst (λ (o : Out). OnOk c.put_literal.result (out_of c.put_literal.new.self ≡ o))
    (numbered_text c.args.depth c.args.line (named_symbol c.args.token.now) (out_of c.args.self.now) c.in-Some.index c.if-depth-eq0.false (sym c.is_some.ensures ∙ c.if-is_some.false) c.in-Some.ensures.named within)
    c.put_literal.ensures.ok

pub put_literal-loop-at-preserved : goal.put_literal-loop-at-preserved
put_literal-loop-at-preserved t c =
    put_on c.args.depth c.args.line (map named_symbol c.as_slice-text.result.now) c.args.index c.loop-at.at c.in_ok-at.at (out_of c.args.self.now) (out_of c.loop-at.self) (out_of c.put_next.new.self) c.loop-at.invariant
    c.in_ok-at.ensures.later c.in_ok-at.ensures.ok

pub put_literal-returns-clause-ok : goal.put_literal-returns-clause-ok
put_literal-returns-clause-ok t c =
    let tokens = c.as_slice-text.result.now in
    let text : List Symbol = map named_symbol tokens in
    let first : Out = out_of c.args.self.now in
    let over : length text ≤ c.loop-at.at = omega (arith, c.loop-at-test.false, length-map tokens named_symbol) in
    put_over c.args.depth c.args.line text c.args.index c.loop-at.at first (out_of c.loop-at.self) c.loop-at.invariant over
    ∙ ap (λ (ts : List NamedToken). text_out c.args.depth c.args.line (map named_symbol ts) first) c.as_slice-text.ensures.value
    ∙ ap (λ (ss : List Symbol). text_out c.args.depth c.args.line ss first) (sym (text_is c.args.self.now.blocks.scope.literals.items c.args.index c.index.result.now c.requires c.index.ensures))

pub put_next-returns-then-at-to-clause-ok : goal.put_next-returns-then-at-to-clause-ok
put_next-returns-then-at-to-clause-ok t c =
    let old : Out = out_of c.args.self.now in
    ap (λ (b : Blocks). let o : Out = record { tokens = old.tokens; blocks = b; last = old.last; before = old.before; stop = old.stop } in o) c.quiet_to-to.ensures.same
    ∙ passed_over c.args.depth c.args.line (map named_symbol c.args.text.now) c.args.index c.args.at c.quiet_to-to.result old
    (omega (arith, c.quiet_to-to.ensures.there c.if-at-to.true, length-map c.args.self.now.blocks.scope.literals.items literal_text)) c.requires.same c.quiet_to-to.ensures.quiet

pub put_next-returns-clause-ok : goal.put_next-returns-clause-ok
put_next-returns-clause-ok t c =
    let old : Out = out_of c.args.self.now in
    let d : NamedToken = c.index-text-at.result in
    token_out c.args.depth c.args.line c.args.text.now c.args.at d old (out_of c.put_symbol.new.self) c.requires.inside c.index-text-at.is
    (c.in_ok-put_symbol.ensures.ok
    ∙ ap (λ (b : Blocks). symbol_out c.args.depth c.args.line (named_symbol d) (record { tokens = old.tokens; blocks = b; last = old.last; before = old.before; stop = old.stop })) c.quiet_to-to.ensures.same)
