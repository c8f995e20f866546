use Rattle.std.proofs.Common.{◌∙◌, ℕ, List, ap, sym, map, find, cond, Bool, None}
use Rattle.plm_token.specs.Names.{names_equal}
use Rattle.plm_syntax.specs.Inner.Scope.{literal_text, literal_at, first_named}
use Rattle.plm_syntax.proofs.Located.{text_found}
use Rattle.plm_syntax.proofs.scope.Scope.literal.Goals as goal

pub returns-then-is_identifier-clause-named : goal.returns-then-is_identifier-clause-named
returns-then-is_identifier-clause-named c =
    let literals = c.args.self.now.literals.items in
    let token = c.args.token.now in
    ap (literal_at (map literal_text literals)) (c.named.ensures.named ∙ ap (λ (n : List ℕ). first_named n literals) (c.letters.ensures ∙ token.in_normal_form))
    ∙ text_found token.token.text.now literals
    ∙ ap (λ (b : Bool). cond b (find (λ l. names_equal l.name token.token.text.now) (map literal_text literals)) None) (sym c.if-is_identifier.true ∙ c.is_identifier.ensures)
