-- Tokens without their lines, and names in normal form.
use Rattle.std.specs.Prelude.{◌≡◌, Bool, true, ◌&&◌, bytes_eq}
use Rattle.plm_token.specs.declared.token.Token.{Token}
use Rattle.plm_token.specs.Names.{normal}
use Rattle.plm_token.specs.Literals.{Symbol}
use Rattle.plm_syntax.specs.declared.named_token.NamedToken.{NamedToken}
use Rattle.plm_syntax.specs.Literals.{is_identifier}

abbrev pub symbol : Token → Symbol
symbol t = record { kind = t.kind; text = t.text.now }

abbrev pub named_symbol : NamedToken → Symbol
named_symbol t = symbol t.token

-- two identifiers of one name
pub record IsSameName (a b : Symbol) : Type 0 where
  pub first : is_identifier a.kind ≡ true
  pub second : is_identifier b.kind ≡ true
  pub same : normal a.text ≡ normal b.text

abbrev pub is_same_name : Symbol → Symbol → Bool
is_same_name a b = is_identifier a.kind && (is_identifier b.kind && bytes_eq (normal a.text) (normal b.text))
