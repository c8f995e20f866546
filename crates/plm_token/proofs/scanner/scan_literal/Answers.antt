use Rattle.std.proofs.Common.{◌∙◌, ◌+◌, ℕ, count_by, ap, map, Option}
use Rattle.word86.specs.declared.number.Number.{Number}
use Rattle.plm_token.specs.declared.piece.ScanState.TheVariants.{Literal}
use Rattle.plm_token.specs.Characters.{is_line_feed}
use Rattle.plm_token.specs.Scanner.{lexemes}
use Rattle.plm_token.specs.Literals.{lesser, least_fault, symbols_of, on_line}
use Rattle.plm_token.specs.Pieces.{pieces}
use Rattle.plm_token.proofs.Gathered.{with_rest, fault_before, symbols_behind, literal_tokens, literal_fault}
use Rattle.plm_token.proofs.scanner.scan_literal.Goals as goal

pub loop-piece-preserved : goal.loop-piece-preserved
loop-piece-preserved c =
    let n = c.loop-piece.invariant.0 in
    let m : ℕ = n + count_by is_line_feed c.in-Some.text.now in
    let here = pieces c.loop-piece.pieces.state n c.loop-piece.pieces.rest.now in
    let behind = pieces c.next.new.self.state m c.next.new.self.rest.now in
    let one = c.in-Some.ensures.some n ∙ ap (with_rest c.in-Some.text.now n behind) c.in-Fault.is in (
      m,
      fault_before (pieces Literal 0 c.args.text.now) here behind c.in-Some.text.now n c.loop-piece.least c.in-Fault.number c.lesser.result c.loop-piece.invariant.1 one c.lesser.ensures,
      symbols_behind (on_line c.args.line) here behind c.in-Some.text.now n c.in-Fault.number (lexemes c.loop-piece.tokens.items) (map (on_line c.args.line) (symbols_of (pieces Literal 0 c.args.text.now))) c.loop-piece.invariant.2 one,
    )

pub returns-in-Some-least : goal.returns-in-Some-least
returns-in-Some-least c =
    let rest = pieces c.loop-piece.pieces.state c.loop-piece.invariant.0 c.loop-piece.pieces.rest.now in
    literal_fault c.args.text.now c.args.line c.loop-piece.pieces.state c.loop-piece.invariant.0 c.loop-piece.pieces.rest.now c.in-Some-least.number
    (c.loop-piece.invariant.1 ∙ ap (λ (least : Option Number). lesser least (least_fault rest)) c.in-Some-least.is) c.in_default.ensures.none

pub returns : goal.returns
returns c =
    let rest = pieces c.loop-piece.pieces.state c.loop-piece.invariant.0 c.loop-piece.pieces.rest.now in
    literal_tokens c.args.text.now c.args.line c.loop-piece.pieces.state c.loop-piece.invariant.0 c.loop-piece.pieces.rest.now (lexemes c.loop-piece.tokens.items)
    (c.loop-piece.invariant.1 ∙ ap (λ (least : Option Number). lesser least (least_fault rest)) c.in-None.is) c.loop-piece.invariant.2 c.in_default.ensures.none
