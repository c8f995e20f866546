-- What is known to put nothing out, and what it rests on.
use Rattle.std.specs.Prelude.{◌≡◌, ◌-◌, ◌<◌, ◌≤◌, ℕ, zero, suc, List, ◌++◌, map, take, length, get_or, Bool, true, false, ◌&&◌, ◌||◌, nat_lt, Option, Some, None}
use Rattle.std.specs.List.{All, list_all, slice_get, slice_range}
use Rattle.std.specs.Int.{bit_at}
use Rattle.plm_token.specs.Literals.{Symbol}
use Rattle.plm_syntax.specs.declared.known.Grounds.{Grounds}
use Rattle.plm_syntax.specs.declared.known.Run.{Run}
use Rattle.plm_syntax.specs.declared.known.QuietRun.{QuietRun}
use Rattle.plm_syntax.specs.declared.known.Known.{Known}
use Rattle.plm_syntax.specs.declared.scope.Scope.{Scope}
use Rattle.plm_syntax.specs.Literals.{LiteralText, literal_for}
use Rattle.plm_syntax.specs.Inner.Names.{names_in, passes_one}
use Rattle.plm_syntax.specs.Inner.Scope.{literal_text, text_at, IsThere}

-- ---- texts that put nothing out

abbrev pub each_quiet : (Symbol → Bool) → Option LiteralText → Bool
each_quiet quiet None = false
each_quiet quiet (Some l) = list_all quiet l.text

-- A token of a literal's text puts nothing out where `depth` replacements may be made one inside the other: it names a literal, and each token of that
-- literal's text puts nothing out where one less may be made.
unfoldable pub is_quiet : ℕ → List LiteralText → Symbol → Bool
is_quiet zero literals s = false
is_quiet (suc depth) literals s = each_quiet (λ x. is_quiet depth literals x) (literal_for literals s.kind s.text)

abbrev pub is_quiet_text : ℕ → List LiteralText → List Symbol → Bool
is_quiet_text depth literals text = list_all (λ s. is_quiet depth literals s) text

-- a literal's tokens from one up to another
abbrev pub is_quiet_range : ℕ → List LiteralText → ℕ → ℕ → ℕ → Bool
is_quiet_range depth literals literal from to = is_quiet_text depth literals (slice_range (text_at literals literal) from to)

-- whether the name of a number puts nothing out
abbrev pub is_quiet_number : List Symbol → List LiteralText → ℕ → ℕ → Bool
is_quiet_number names literals depth number = passes_one (λ s. is_quiet depth literals s) (slice_get names number)

-- ---- assumptions

-- each bit of eight words passes a test
abbrev pub Pass : (ℕ → ℕ → Bool) → List ℕ → Type 0
Pass test words = (k j : ℕ) → k < 8 → bit_at (get_or words k 0) j ≡ 1 → test k j ≡ true

abbrev pub is_quiet_if_any : List Symbol → List LiteralText → ℕ → Option ℕ → Bool
is_quiet_if_any names literals depth None = true
is_quiet_if_any names literals depth (Some number) = is_quiet_number names literals depth number

-- What a bit assumes where `depth` replacements may be made: that one may be made, and that the bit's name puts nothing out. The last bit has no name.
abbrev pub is_assumed : List Symbol → List LiteralText → List ℕ → ℕ → ℕ → Bool
is_assumed names literals assumed depth bit = nat_lt 0 depth && (nat_lt 62 bit || is_quiet_if_any names literals depth (slice_get assumed bit))

-- all assumptions hold where `depth` replacements may be made: those of the word at k where k fewer may be
abbrev pub Hold : List Symbol → List LiteralText → List ℕ → ℕ → List ℕ → Type 0
Hold names literals assumed depth words = Pass (λ k bit. is_assumed names literals assumed (depth - k) bit) words

-- ---- what rests on them

-- what is said of names, literals and a number of replacements
abbrev pub Saying : Type 0
Saying = List Symbol → List LiteralText → ℕ → Bool

abbrev pub quiet_name : ℕ → Saying
quiet_name number names literals depth = is_quiet_number names literals depth number

abbrev pub quiet_run : ℕ → ℕ → ℕ → Saying
quiet_run literal from to names literals depth = is_quiet_range depth literals literal from to

-- A rule: whatever names come, whatever literals stand behind the first of them, and however many replacements may be made, what it says is so where the
-- assumptions hold.
pub record IsRule (says : Saying) (names : List Symbol) (firsts : List LiteralText) (assumed words : List ℕ) : Type 0 where
  pub follows : (all : List Symbol) (more : List LiteralText) (depth : ℕ) → take (length names) all ≡ names → Hold all (firsts ++ more) assumed depth words → says all (firsts ++ more) depth ≡ true

-- what is said rests on its grounds
pub record IsFounded (says : Saying) (names : List Symbol) (literals : List LiteralText) (assumed : List ℕ) (g : Grounds) : Type 0 where
  pub within : g.level ≤ length literals
  pub rule : IsRule says names (take g.level literals) assumed g.assumed

-- a run of a literal's text from a token on
pub record IsRun (names : List Symbol) (literals : List LiteralText) (assumed : List ℕ) (literal from : ℕ) (r : Run) : Type 0 where
  pub of_literal : r.literal ≡ literal
  pub of_token : r.from ≡ from
  pub order : from ≤ r.to
  pub inside : literal < r.grounds.level
  pub founded : IsFounded (quiet_run literal from r.to) names literals assumed r.grounds

-- it puts nothing out here, where `depth` replacements may be made
pub record IsQuietRun (scope : Scope) (depth literal from : ℕ) (r : Run) : Type 0 where
  pub is_run : IsRun (names_in scope.names) (map literal_text scope.literals.items) scope.assumed.items literal from r
  pub now : is_quiet_range depth (map literal_text scope.literals.items) literal from r.to ≡ true

-- so does a name
pub record IsQuietName (scope : Scope) (depth number : ℕ) (g : Grounds) : Type 0 where
  pub founded : IsFounded (quiet_name number) (names_in scope.names) (map literal_text scope.literals.items) scope.assumed.items g
  pub now : is_quiet_number (names_in scope.names) (map literal_text scope.literals.items) depth number ≡ true

-- ---- what is known of them

-- what is known is so if it is known since the last forgetting, or if it is a rule and not void
pub record IsKnown (names : List Symbol) (literals : List LiteralText) (assumed : List ℕ) (base oldest forgotten : ℕ) (k : QuietRun) : Type 0 where
  pub past : k.since ≤ forgotten
  pub new : k.since ≡ forgotten → IsRun names literals assumed k.run.literal k.run.from k.run
  pub rule : oldest ≤ k.since → k.run.grounds.level ≤ base → IsRun names literals assumed k.run.literal k.run.from k.run

-- all that is known is so
pub record AreTrue (names : List Symbol) (literals : List LiteralText) (assumed : List ℕ) (base : ℕ) (known : Known) : Type 0 where
  pub some : 0 < known.oldest
  pub order : known.oldest ≤ known.forgotten
  pub holds : Pass (is_assumed names literals assumed) known.holds
  pub runs : All (IsKnown names literals assumed base known.oldest known.forgotten) known.runs.items

abbrev pub AreKnown : Scope → Known → Type 0
AreKnown scope known = AreTrue (names_in scope.names) (map literal_text scope.literals.items) scope.assumed.items scope.base known

abbrev pub HasLiteral : Scope → ℕ → Type 0
HasLiteral scope literal = IsThere (map literal_text scope.literals.items) literal
