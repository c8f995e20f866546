use Rattle.std.proofs.Common.{◌≡◌, ◌≤◌, ◌+◌, length}
use Rattle.plm_token.specs.declared.piece.ScanState.TheVariants.{FirstColumn}
use Rattle.plm_token.specs.Pieces.{pieces}
use Rattle.plm_token.specs.Scanner.{lexemes, tokens_of}
use Rattle.plm_token.proofs.Gathered.{put_all_before}
use Rattle.plm_token.proofs.scanner.tokens.Given as goal

abbrev pub invariant-loop-piece : goal.invariant-loop-piece
invariant-loop-piece l = record {
  gathered : tokens_of (pieces FirstColumn 1 l.fn.text) ≡ put_all_before (lexemes l.tokens.items) (tokens_of (pieces l.pieces.state l.line l.pieces.rest.now));
  inside : l.line + length l.pieces.rest.now ≤ 1048577;
}

abbrev pub decreases-loop-piece : goal.decreases-loop-piece
decreases-loop-piece l = length l.pieces.rest.now
