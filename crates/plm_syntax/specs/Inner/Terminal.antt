-- Which terminals are the same. No public clause speaks of it.
use Rattle.std.specs.Prelude.{ℕ, Bool, true, false, nat_eq}
use Rattle.plm_token.specs.declared.token.Mark.{Mark}
use Rattle.plm_token.specs.declared.token.Mark.TheVariants as mark
use Rattle.plm_syntax.specs.Terminal.{Terminal, Key, Sign, Finish, is_key}

abbrev pub sign_number : Mark → ℕ
sign_number mark.Equal = 0
sign_number mark.Period = 1
sign_number mark.Slash = 2
sign_number mark.LeftParenthesis = 3
sign_number mark.RightParenthesis = 4
sign_number mark.Plus = 5
sign_number mark.Minus = 6
sign_number mark.Star = 7
sign_number mark.Comma = 8
sign_number mark.Less = 9
sign_number mark.Greater = 10
sign_number mark.Colon = 11
sign_number mark.Semicolon = 12
sign_number mark.AtSign = 13
sign_number mark.NotEqual = 14
sign_number mark.LessEqual = 15
sign_number mark.GreaterEqual = 16
sign_number mark.Assign = 17

abbrev pub is_sign : Mark → Terminal → Bool
is_sign m (Sign n) = nat_eq (sign_number m) (sign_number n)
is_sign m t = false

abbrev pub is_finish : Terminal → Bool
is_finish Finish = true
is_finish t = false

-- the same reserved word, special token or end of the text
abbrev pub is_same : Terminal → Terminal → Bool
is_same (Key k) t = is_key k t
is_same (Sign m) t = is_sign m t
is_same Finish t = is_finish t
is_same u t = false
