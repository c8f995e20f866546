-- Tokens gathered so far, before those of the pieces after.
use Rattle.std.proofs.Common.{◌≡◌, ◌∙◌, ℕ, List, [], ◌∷◌, ◌++◌, cond, nat_lt, map, Result, Ok, Err, Option, Some, None, refl, ap, sym, append_assoc, append-nil, arith}
use Rattle.std.proofs.lemmas.Bool.Decides.{nat_tests}
use Rattle.word86.specs.declared.fault.Fault.{Fault}
use Rattle.word86.specs.declared.number.Number.{Number}
use Rattle.word86.specs.declared.fault.Fault.TheVariants.{At}
use Rattle.word86.specs.FaultCode.{code_of}
use Rattle.plm_token.specs.declared.piece.ScanState.{ScanState}
use Rattle.plm_token.specs.declared.piece.ScanState.TheVariants.{Literal}
use Rattle.plm_token.specs.declared.piece.Piece.{Piece}
use Rattle.plm_token.specs.declared.piece.Piece.TheVariants.{Fault as Faulty}
use Rattle.plm_token.specs.Pieces.{Cut, pieces, pieces_behind}
use Rattle.plm_token.specs.Scanner.{Lexeme, put_before, tokens_of}
use Rattle.plm_token.specs.Literals.{Symbol, lesser, least_fault, symbols_of, on_line, at_line, literal_of}

abbrev pub put_all_before : List Lexeme → Result (List Lexeme) Fault → Result (List Lexeme) Fault
put_all_before ts (Ok us) = Ok (ts ++ us)
put_all_before ts (Err f) = Err f

pub put_one_more : (ts : List Lexeme) (t : Lexeme) (r : Result (List Lexeme) Fault) → put_all_before ts (put_before t r) ≡ put_all_before (ts ++ t ∷ []) r
put_one_more ts t (Ok us) = ap (λ (xs : List Lexeme). Ok xs) (sym (append_assoc ts (t ∷ []) us))
put_one_more ts t (Err f) = refl

pub put_none : (r : Result (List Lexeme) Fault) → r ≡ put_all_before [] r
put_none (Ok us) = refl
put_none (Err f) = refl

min_assoc : (a b c : Number) → cond (nat_lt (code_of c) (code_of (cond (nat_lt (code_of b) (code_of a)) b a))) c (cond (nat_lt (code_of b) (code_of a)) b a)
    ≡ cond (nat_lt (code_of (cond (nat_lt (code_of c) (code_of b)) c b)) (code_of a)) (cond (nat_lt (code_of c) (code_of b)) c b) a
min_assoc a b c = grind (arith, nat_tests)

pub lesser_assoc : (a b c : Option Number) → lesser (lesser a b) c ≡ lesser a (lesser b c)
lesser_assoc None b c = refl
lesser_assoc (Some a) None c = refl
lesser_assoc (Some a) (Some b) None = refl
lesser_assoc (Some a) (Some b) (Some c) = ap (λ (n : Number). Some n) (min_assoc a b c)

no_pieces : (state : ScanState) (line : ℕ) (rest : List ℕ) → rest ≡ [] → pieces state line rest ≡ []
unfolding pieces_behind
no_pieces state line rest e = rw e refl

-- at the end of the text
pub all_gathered : (state : ScanState) (line : ℕ) (rest : List ℕ) (ts : List Lexeme) (r : Result (List Lexeme) Fault) → r ≡ put_all_before ts (tokens_of (pieces state line rest)) → rest ≡ [] → r ≡ Ok ts
all_gathered state line rest ts r same e = same ∙ rw (no_pieces state line rest e) (ap (λ (xs : List Lexeme). Ok xs) (append-nil ts))

-- a piece before others
abbrev pub with_rest : List ℕ → ℕ → List Cut → Piece → List Cut
with_rest text line cs piece = record { piece = piece; text = text; line = line } ∷ cs

-- a fault in the text of a literal
pub fault_before : (whole ps cs : List Cut) (text : List ℕ) (line : ℕ) (least : Option Number) (number r : Number) → least_fault whole ≡ lesser least (least_fault ps)
    → ps ≡ record { piece = Faulty number; text = text; line = line } ∷ cs → Some r ≡ lesser least (Some number) → least_fault whole ≡ lesser (Some r) (least_fault cs)
fault_before whole ps cs text line least number r same e n = same ∙ rw (e, n) (sym (lesser_assoc least (Some number) (least_fault cs)))

pub symbols_behind : (at : Symbol → Lexeme) (ps cs : List Cut) (text : List ℕ) (line : ℕ) (number : Number) (ts : List Lexeme) (r : List Lexeme) → r ≡ ts ++ map at (symbols_of ps)
    → ps ≡ record { piece = Faulty number; text = text; line = line } ∷ cs → r ≡ ts ++ map at (symbols_of cs)
symbols_behind at ps cs text line number ts r same e = same ∙ rw e refl

pub literal_tokens : (text : List ℕ) (line : ℕ) (state : ScanState) (n : ℕ) (rest : List ℕ) (ts : List Lexeme) → least_fault (pieces Literal 0 text) ≡ lesser None (least_fault (pieces state n rest))
    → map (on_line line) (symbols_of (pieces Literal 0 text)) ≡ ts ++ map (on_line line) (symbols_of (pieces state n rest)) → rest ≡ [] → at_line line (literal_of text) ≡ Ok ts
unfolding literal_of
literal_tokens text line state n rest ts least symbols e =
    let none : least_fault (pieces Literal 0 text) ≡ None = least ∙ ap least_fault (no_pieces state n rest e) in
    let all : map (on_line line) (symbols_of (pieces Literal 0 text)) ≡ ts = symbols ∙ ap (λ (ps : List Cut). ts ++ map (on_line line) (symbols_of ps)) (no_pieces state n rest e) ∙ append-nil ts in
    rw (none, all) refl

pub literal_fault : (text : List ℕ) (line : ℕ) (state : ScanState) (n : ℕ) (rest : List ℕ) (number : Number) → least_fault (pieces Literal 0 text) ≡ lesser (Some number) (least_fault (pieces state n rest))
    → rest ≡ [] → at_line line (literal_of text) ≡ Err (At 0 line number)
unfolding literal_of
literal_fault text line state n rest number least e =
    let some : least_fault (pieces Literal 0 text) ≡ Some number = least ∙ ap (λ (ps : List Cut). lesser (Some number) (least_fault ps)) (no_pieces state n rest e) in
    rw some refl
