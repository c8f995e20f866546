-- What is known to put nothing out, and what it rests on.
use Rattle.std.proofs.Common.{◌≡◌, ◌∙◌, ℕ, zero, suc, ◌+◌, ◌-◌, ◌^◌, ◌<◌, ◌≤◌, max, List, [], ◌∷◌, ◌++◌, Bool, true, false, cond, ◌||◌, Option, Some, None, length, map, take, drop, set, get_or, replicate, find, option_map, ap, refl, sym, subst, arith}
use Rattle.std.specs.Prelude.{nat_eq, nat_lt}
use Rattle.std.specs.List.{All, list_all, slice_get, slice_range}
use Rattle.std.specs.Option.{option_or, IfSome}
use Rattle.std.specs.Int.{bit_at}
use Rattle.std.specs.Int.RustNames.{bit_or}
use lib.Bits.{bit_and}
use Rattle.std.proofs.Math.Nat.{le-max_left, le-max_right}
use Rattle.std.proofs.lemmas.Bool.{ltb-true, lt-ltb, le-ltb, eqb-true, eqb-false, or_right, and_from, and_parts}
use Rattle.std.proofs.lemmas.Nat.Bits.{bit_at_or, bit_at_and, bit_at-lt, bit_at-zero, bit_at-pow_other}
use Rattle.std.proofs.lemmas.Option.{slice_get_within, get_or_from_slice_get, slice_get-map, same_Some}
use Rattle.std.proofs.lemmas.List.{length-append, map-append, take-append-drop, take-append-le, take-take, take_all, append_assoc, append-nil, length-take-le, get_or-set_same, get_or-set_other}
use Rattle.std.proofs.lemmas.List.Elements.{All-weaker}
use Rattle.std.proofs.lemmas.List.Folds.{find-append}
use Rattle.plm_token.specs.Names.{names_equal}
use Rattle.plm_token.specs.Literals.{Symbol}
use Rattle.plm_syntax.specs.declared.named_token.NamedToken.{NamedToken}
use Rattle.plm_syntax.specs.declared.scope.Literal.{Literal}
use Rattle.plm_syntax.specs.declared.scope.Scope.{Scope}
use Rattle.plm_syntax.specs.declared.known.Grounds.{Grounds}
use Rattle.plm_syntax.specs.declared.known.Run.{Run}
use Rattle.plm_syntax.specs.declared.known.QuietRun.{QuietRun}
use Rattle.plm_syntax.specs.declared.known.Known.{Known}
use Rattle.plm_syntax.specs.Literals.{LiteralText, Blocks, closed, is_identifier}
use Rattle.plm_syntax.specs.Inner.Names.{names_in, passes_one, is_number}
use Rattle.plm_syntax.specs.Inner.Scope.{named_symbol, literal_text, text_of, text_at, StandsAt, IsNumberAt, IsNumbered}
use Rattle.plm_syntax.specs.Inner.Literals.{blocks_in}
use Rattle.plm_syntax.specs.Inner.Known.{each_quiet, is_quiet, is_quiet_text, is_quiet_range, is_quiet_number, Pass, is_quiet_if_any, is_assumed, Hold, Saying, quiet_name, quiet_run, IsRule, IsFounded, IsRun, IsQuietRun, IsQuietName, IsKnown, AreTrue, AreKnown, HasLiteral}
use Rattle.plm_syntax.proofs.Quiet.{quiet_among_more, quiet_same}
use Rattle.plm_syntax.proofs.Passed.{quiet_both, among_more, fewer_closed}
use Rattle.plm_syntax.proofs.Replaced.{some_at}
use Rattle.plm_syntax.proofs.Numbers.{stands_for, found_still, number_still, kept_along, kept_all}

-- ---- bits of words

-- one more word among the bits
pub passes_or : (test : ℕ → ℕ → Bool) (words : List ℕ) (at x : ℕ) → at < length words → at < 8 → Pass test (set words at (bit_or (get_or words at 0) x))
    → Pass test words × ((bit : ℕ) → bit_at x bit ≡ 1 → test at bit ≡ true)
passes_or test words at x lt less h = (λ k bit l b. by_place k bit l b (nat_eq k at) refl, λ bit b. here bit (omega (arith, bit_at_or (get_or words at 0) x bit, b, bit_at-lt (get_or words at 0) bit)))
  where
    here : (bit : ℕ) → bit_at (bit_or (get_or words at 0) x) bit ≡ 1 → test at bit ≡ true
    here bit b = h at bit less (ap (λ (w : ℕ). bit_at w bit) (get_or-set_same words at (bit_or (get_or words at 0) x) 0 lt) ∙ b)

    by_place : (k bit : ℕ) → k < 8 → bit_at (get_or words k 0) bit ≡ 1 → (b : Bool) → nat_eq k at ≡ b → test k bit ≡ true
    by_place k bit l b true e =
        let same : k ≡ at = eqb-true k at e in
        let own : bit_at (get_or words at 0) bit ≡ 1 = ap (λ (n : ℕ). bit_at (get_or words n 0) bit) (sym same) ∙ b in
        ap (λ (n : ℕ). test n bit) same ∙ here bit (omega (arith, bit_at_or (get_or words at 0) x bit, own, bit_at-lt x bit))
    by_place k bit l b false e = h k bit l (ap (λ (w : ℕ). bit_at w bit) (get_or-set_other words at k (bit_or (get_or words at 0) x) 0 (eqb-false k at e)) ∙ b)

-- one more bit
pub bit_set : (test : ℕ → ℕ → Bool) (words : List ℕ) (at new : ℕ) → at < length words → Pass test words → test at new ≡ true → Pass test (set words at (bit_or (get_or words at 0) (2 ^ new)))
bit_set test words at new lt h this k bit l b = by_place (nat_eq k at) refl
  where
    by_bit : (c : Bool) → nat_eq bit new ≡ c → bit_at (bit_or (get_or words at 0) (2 ^ new)) bit ≡ 1 → k ≡ at → test at bit ≡ true
    by_bit true e one same = ap (test at) (eqb-true bit new e) ∙ this
    by_bit false e one same =
        let other : bit_at (2 ^ new) bit ≡ 0 = bit_at-pow_other new bit (eqb-false bit new e) in
        let own : bit_at (get_or words at 0) bit ≡ 1 = omega (arith, bit_at_or (get_or words at 0) (2 ^ new) bit, one, other) in
        h at bit (omega (arith, l, same)) own

    by_place : (c : Bool) → nat_eq k at ≡ c → test k bit ≡ true
    by_place true e =
        let same : k ≡ at = eqb-true k at e in
        let word : get_or (set words at (bit_or (get_or words at 0) (2 ^ new))) k 0 ≡ bit_or (get_or words at 0) (2 ^ new)
        = ap (λ (n : ℕ). get_or (set words at (bit_or (get_or words at 0) (2 ^ new))) n 0) same ∙ get_or-set_same words at (bit_or (get_or words at 0) (2 ^ new)) 0 lt in
        ap (λ (n : ℕ). test n bit) same ∙ by_bit (nat_eq bit new) refl (ap (λ (w : ℕ). bit_at w bit) (sym word) ∙ b) same
    by_place false e = h k bit l (ap (λ (w : ℕ). bit_at w bit) (sym (get_or-set_other words at k (bit_or (get_or words at 0) (2 ^ new)) 0 (eqb-false k at e))) ∙ b)

-- a word whose bits are all among others
pub bits_among : (a b bit : ℕ) → bit_and a b ≡ b → bit_at b bit ≡ 1 → bit_at a bit ≡ 1
bits_among a b bit e one = omega (arith, sym (bit_at_and a b bit) ∙ ap (λ (w : ℕ). bit_at w bit) e, one, bit_at-lt a bit)

-- words of the last bit alone
only_last : (n k bit : ℕ) → bit_at (get_or (replicate n 9223372036854775808) k 0) bit ≡ 1 → bit ≡ 63
only_last zero k bit one = absurd (omega (arith, one, bit_at-zero bit))
only_last (suc n) zero bit one = by_bit (nat_eq bit 63) refl
  where
    by_bit : (c : Bool) → nat_eq bit 63 ≡ c → bit ≡ 63
    by_bit true same = eqb-true bit 63 same
    by_bit false other = let none : bit_at (2 ^ 63) bit ≡ 0 = bit_at-pow_other 63 bit (eqb-false bit 63 other) in absurd (omega (arith, none, one))
only_last (suc n) (suc k) bit one = only_last n k bit one

-- words without names: that a replacement may be made
pub without_names : (names : List Symbol) (literals : List LiteralText) (assumed : List ℕ) → Pass (is_assumed names literals assumed) (0 ∷ replicate 7 9223372036854775808)
without_names names literals assumed zero bit l one = absurd (omega (arith, one, bit_at-zero bit))
without_names names literals assumed (suc k) bit l one =
    ap (is_assumed names literals assumed (suc k)) (only_last 7 k bit one)
    ∙ and_from (nat_lt 0 (suc k)) (nat_lt 62 63 || is_quiet_if_any names literals (suc k) (slice_get assumed 63)) (lt-ltb 0 (suc k) (omega arith)) refl

-- ---- more names and more literals

has_symbol : (p : Symbol → Bool) (found : Option Symbol) → passes_one p found ≡ true → (s : Symbol) × (found ≡ Some s) × (p s ≡ true)
has_symbol p None h = absurd (cc h)
has_symbol p (Some s) h = (s, refl, h)

number_among_more : (names all : List Symbol) (literals more : List LiteralText) (d n : ℕ) → take (length names) all ≡ names → is_quiet_number names literals d n ≡ true → is_quiet_number all (literals ++ more) d n ≡ true
number_among_more names all literals more d n kept h =
    let there = has_symbol (is_quiet d literals) (slice_get names n) h in
    ap (passes_one (is_quiet d (literals ++ more))) (found_still names all n there.0 kept there.1)
    ∙ quiet_among_more d literals more there.0 there.2

or_along : (a b c : Bool) → (b ≡ true → c ≡ true) → (a || b) ≡ true → (a || c) ≡ true
or_along true b c f h = refl
or_along false b c f h = f h

-- what bits assume, where what is assumed of names is turned into something else
assumed_along : (names all : List Symbol) (literals more : List LiteralText) (assumed others : List ℕ) (e bit : ℕ)
    → (is_quiet_if_any names literals e (slice_get assumed bit) ≡ true → is_quiet_if_any all more e (slice_get others bit) ≡ true) → is_assumed names literals assumed e bit ≡ true → is_assumed all more others e bit ≡ true
assumed_along names all literals more assumed others e bit f h =
    and_from (nat_lt 0 e) (nat_lt 62 bit || is_quiet_if_any all more e (slice_get others bit))
    (and_parts (nat_lt 0 e) (nat_lt 62 bit || is_quiet_if_any names literals e (slice_get assumed bit)) h).0
    (or_along (nat_lt 62 bit) (is_quiet_if_any names literals e (slice_get assumed bit)) (is_quiet_if_any all more e (slice_get others bit)) f
    (and_parts (nat_lt 0 e) (nat_lt 62 bit || is_quiet_if_any names literals e (slice_get assumed bit)) h).1)

-- of more names no less is assumed
hold_fewer : (names : List Symbol) (literals : List LiteralText) (assumed others : List ℕ) (depth : ℕ) (words : List ℕ) → take (length assumed) others ≡ assumed → Hold names literals others depth words → Hold names literals assumed depth words
hold_fewer names literals assumed others depth words kept h k bit l b =
    assumed_along names names literals literals others assumed (depth - k) bit (λ t. by_found t (slice_get assumed bit) refl) (h k bit l b)
  where
    by_found : is_quiet_if_any names literals (depth - k) (slice_get others bit) ≡ true → (found : Option ℕ) → slice_get assumed bit ≡ found → is_quiet_if_any names literals (depth - k) found ≡ true
    by_found t None e = refl
    by_found t (Some n) e = ap (is_quiet_if_any names literals (depth - k)) (sym (found_still assumed others bit n kept e)) ∙ t

-- what holds still holds
holds_still : (names all : List Symbol) (literals more : List LiteralText) (assumed words : List ℕ) → take (length names) all ≡ names → Pass (is_assumed names literals assumed) words → Pass (is_assumed all (literals ++ more) assumed) words
holds_still names all literals more assumed words kept h k bit l b =
    assumed_along names all literals (literals ++ more) assumed assumed k bit (λ t. by_found (slice_get assumed bit) t) (h k bit l b)
  where
    by_found : (found : Option ℕ) → is_quiet_if_any names literals k found ≡ true → is_quiet_if_any all (literals ++ more) k found ≡ true
    by_found None t = t
    by_found (Some n) t = number_among_more names all literals more k n kept t

or_second : (a b : Bool) → a ≡ false → (a || b) ≡ true → b ≡ true
or_second false b e h = h
or_second true b e h = absurd (cc e)

-- what the bit of a name assumes
pub assumed_is : (names : List Symbol) (literals : List LiteralText) (assumed : List ℕ) (e bit number : ℕ) → bit < 63 → slice_get assumed bit ≡ Some number → is_assumed names literals assumed e bit ≡ true → is_quiet_number names literals e number ≡ true
assumed_is names literals assumed e bit number less at h =
    ap (is_quiet_if_any names literals e) (sym at)
    ∙ or_second (nat_lt 62 bit) (is_quiet_if_any names literals e (slice_get assumed bit)) (le-ltb 62 bit (omega arith)) (and_parts (nat_lt 0 e) (nat_lt 62 bit || is_quiet_if_any names literals e (slice_get assumed bit)) h).1

-- the bit of a name that puts nothing out
pub is_so_assumed : (names : List Symbol) (literals : List LiteralText) (assumed : List ℕ) (e bit number : ℕ) → 0 < e → slice_get assumed bit ≡ Some number → is_quiet_number names literals e number ≡ true → is_assumed names literals assumed e bit ≡ true
is_so_assumed names literals assumed e bit number some at h =
    and_from (nat_lt 0 e) (nat_lt 62 bit || is_quiet_if_any names literals e (slice_get assumed bit)) (lt-ltb 0 e some)
    (or_right (nat_lt 62 bit) (is_quiet_if_any names literals e (slice_get assumed bit)) (ap (is_quiet_if_any names literals e) at ∙ h))

-- ---- rules

-- a rule whose assumptions hold here
pub rule_now : (says : Saying) (names : List Symbol) (literals : List LiteralText) (assumed : List ℕ) (depth : ℕ) (g : Grounds) → IsFounded says names literals assumed g → Hold names literals assumed depth g.assumed → says names literals depth ≡ true
rule_now says names literals assumed depth g f h =
    let whole : take g.level literals ++ drop g.level literals ≡ literals = take-append-drop g.level literals in
    subst (λ (ls : List LiteralText). says names ls depth ≡ true) whole
    (f.rule.follows names (drop g.level literals) depth (kept_all names) (subst (λ (ls : List LiteralText). Hold names ls assumed depth g.assumed) (sym whole) h))

-- a rule of fewer literals
rule_more : (says : Saying) (names : List Symbol) (literals : List LiteralText) (assumed words : List ℕ) (a b : ℕ) → a ≤ b → IsRule says names (take a literals) assumed words → IsRule says names (take b literals) assumed words
rule_more says names literals assumed words a b le r = record {
  follows = λ all rest depth kept h.
      let between : List LiteralText = drop a (take b literals) in
      let whole : take a literals ++ (between ++ rest) ≡ take b literals ++ rest
      = sym (append_assoc (take a literals) between rest)
      ∙ ap (λ (ls : List LiteralText). (ls ++ between) ++ rest) (sym (take-take a b literals le))
      ∙ ap (λ (ls : List LiteralText). ls ++ rest) (take-append-drop a (take b literals)) in
      subst (λ (ls : List LiteralText). says all ls depth ≡ true) whole
      (r.follows all (between ++ rest) depth kept (subst (λ (ls : List LiteralText). Hold all ls assumed depth words) (sym whole) h));
}

-- the same firsts
rule_same : (says : Saying) (names : List Symbol) (firsts others : List LiteralText) (assumed words : List ℕ) → firsts ≡ others → IsRule says names firsts assumed words → IsRule says names others assumed words
rule_same says names firsts others assumed words e r = subst (λ (ls : List LiteralText). IsRule says names ls assumed words) e r

rule_still : (says : Saying) (names all : List Symbol) (firsts : List LiteralText) (assumed others words : List ℕ) → take (length names) all ≡ names → take (length assumed) others ≡ assumed → IsRule says names firsts assumed words
    → IsRule says all firsts others words
rule_still says names all firsts assumed others words kept same r = record {
  follows = λ every rest depth k h. r.follows every rest depth (kept_along names all every kept k) (hold_fewer every (firsts ++ rest) assumed others depth words same h);
}

-- once there are more names, more literals and more assumptions
founded_still : (says : Saying) (names all : List Symbol) (literals more : List LiteralText) (assumed others : List ℕ) (g : Grounds) → take (length names) all ≡ names → take (length assumed) others ≡ assumed
    → IsFounded says names literals assumed g → IsFounded says all (literals ++ more) others g
founded_still says names all literals more assumed others g kept same f = record {
  within = omega (arith, f.within, length-append literals more);
  rule = rule_same says all (take g.level literals) (take g.level (literals ++ more)) others g.assumed (sym (take-append-le g.level literals more f.within))
      (rule_still says names all (take g.level literals) assumed others g.assumed kept same f.rule);
}

-- once there are fewer literals
founded_fewer : (says : Saying) (names : List Symbol) (fewer more : List LiteralText) (assumed : List ℕ) (g : Grounds) → g.level ≤ length fewer → IsFounded says names (fewer ++ more) assumed g → IsFounded says names fewer assumed g
founded_fewer says names fewer more assumed g le f = record {
  within = le;
  rule = rule_same says names (take g.level (fewer ++ more)) (take g.level fewer) assumed g.assumed (take-append-le g.level fewer more le) f.rule;
}

run_with : (names all : List Symbol) (literals others : List LiteralText) (assumed more : List ℕ) (literal from : ℕ) (r : Run) → IsRun names literals assumed literal from r → IsFounded (quiet_run literal from r.to) all others more r.grounds
    → IsRun all others more literal from r
run_with names all literals others assumed more literal from r h founded = record { of_literal = h.of_literal; of_token = h.of_token; order = h.order; inside = h.inside; founded = founded }

-- ---- what is known, as names, literals and assumptions come and go

known_still : (names all : List Symbol) (literals more : List LiteralText) (assumed others : List ℕ) (base oldest forgotten : ℕ) (ks : List QuietRun) → take (length names) all ≡ names → take (length assumed) others ≡ assumed
    → All (IsKnown names literals assumed base oldest forgotten) ks → All (IsKnown all (literals ++ more) others base oldest forgotten) ks
known_still names all literals more assumed others base oldest forgotten ks kept same h =
    All-weaker (IsKnown names literals assumed base oldest forgotten) (IsKnown all (literals ++ more) others base oldest forgotten)
    (λ k t. record { past = t.past; new = λ e. still k.run (t.new e); rule = λ old within. still k.run (t.rule old within) }) ks h
  where
    still : (r : Run) → IsRun names literals assumed r.literal r.from r → IsRun all (literals ++ more) others r.literal r.from r
    still r f = run_with names all literals (literals ++ more) assumed others r.literal r.from r f (founded_still (quiet_run r.literal r.from r.to) names all literals more assumed others r.grounds kept same f.founded)

same_true : (names all : List Symbol) (literals others : List LiteralText) (assumed more : List ℕ) (base same : ℕ) (known : Known) → names ≡ all → literals ≡ others → assumed ≡ more → base ≡ same
    → AreTrue names literals assumed base known → AreTrue all others more same known
same_true names all literals others assumed more base same known e f g h t =
    subst (λ (ss : List Symbol). AreTrue ss others more same known) e
    (subst (λ (ls : List LiteralText). AreTrue names ls more same known) f (subst (λ (ns : List ℕ). AreTrue names literals ns same known) g (subst (λ (n : ℕ). AreTrue names literals assumed n known) h t)))

-- once a literal is declared, of a name that is not assumed
pub true_declared : (before after : Scope) (known : Known) → take (length (names_in before.names)) (names_in after.names) ≡ names_in before.names → take (length before.literals.items) after.literals.items ≡ before.literals.items
    → after.assumed.items ≡ before.assumed.items → after.base ≡ before.base → AreKnown before known → AreKnown after known
true_declared before after known kept firsts assumed base h =
    let names = names_in before.names in
    let all = names_in after.names in
    let literals : List LiteralText = map literal_text before.literals.items in
    let last : List Literal = drop (length before.literals.items) after.literals.items in
    let rest : List LiteralText = map literal_text last in
    let whole : literals ++ rest ≡ map literal_text after.literals.items
    = sym (map-append literal_text before.literals.items last)
    ∙ ap (map literal_text) (ap (λ (ls : List Literal). ls ++ last) (sym firsts) ∙ take-append-drop (length before.literals.items) after.literals.items) in
    same_true all all (literals ++ rest) (map literal_text after.literals.items) before.assumed.items after.assumed.items before.base after.base known refl whole (sym assumed) (sym base) (record {
      some = h.some;
      order = h.order;
      holds = holds_still names all literals rest before.assumed.items known.holds kept h.holds;
      runs = known_still names all literals rest before.assumed.items before.assumed.items before.base known.oldest known.forgotten known.runs.items kept (take_all (length before.assumed.items) before.assumed.items (omega arith)) h.runs;
    })

-- once a name is assumed
pub true_assumed : (before after : Scope) (old new : Known)
    → ((names : List Symbol) (literals : List LiteralText) (assumed more : List ℕ) (base : ℕ) → take (length assumed) more ≡ assumed → AreTrue names literals assumed base old → AreTrue names literals more base new)
    → take (length before.assumed.items) after.assumed.items ≡ before.assumed.items → blocks_in after ≡ blocks_in before → after.names ≡ before.names → after.base ≡ before.base → AreKnown before old → AreKnown after new
true_assumed before after old new f kept blocks names base h =
    same_true (names_in before.names) (names_in after.names) (map literal_text before.literals.items) (map literal_text after.literals.items) after.assumed.items after.assumed.items before.base after.base new
    (ap names_in (sym names)) (ap (λ (b : Blocks). b.literals) (sym blocks)) refl (sym base)
    (f (names_in before.names) (map literal_text before.literals.items) before.assumed.items after.assumed.items before.base kept h)

-- once a block has ended behind the oldest literals
pub true_closed : (before after : Scope) (old new : Known)
    → ((names : List Symbol) (fewer more : List LiteralText) (assumed : List ℕ) (base : ℕ) → base ≤ length fewer → AreTrue names (fewer ++ more) assumed base old → AreTrue names fewer assumed base new)
    → before.base ≤ length (closed (blocks_in before).literals (blocks_in before).starts).literals → blocks_in after ≡ closed (blocks_in before).literals (blocks_in before).starts → after.assumed.items ≡ before.assumed.items → after.base ≡ before.base
    → after.names ≡ before.names → AreKnown before old → AreKnown after new
true_closed before after old new f within blocks assumed base names h =
    let fewer : List LiteralText = (closed (blocks_in before).literals (blocks_in before).starts).literals in
    let gone = fewer_closed (blocks_in before).literals (blocks_in before).starts in
    same_true (names_in before.names) (names_in after.names) fewer (map literal_text after.literals.items) before.assumed.items after.assumed.items before.base after.base new (ap names_in (sym names))
    (ap (λ (b : Blocks). b.literals) (sym blocks)) (sym assumed) (sym base)
    (f (names_in before.names) fewer gone.0 before.assumed.items before.base within (subst (λ (ls : List LiteralText). AreTrue (names_in before.names) ls before.assumed.items before.base old) gone.1 h))

-- once more is assumed
pub known_more : (names : List Symbol) (literals : List LiteralText) (assumed others : List ℕ) (base oldest forgotten : ℕ) (ks : List QuietRun) → take (length assumed) others ≡ assumed
    → All (IsKnown names literals assumed base oldest forgotten) ks → All (IsKnown names literals others base oldest forgotten) ks
known_more names literals assumed others base oldest forgotten ks same h =
    let none : literals ++ [] ≡ literals = append-nil literals in
    subst (λ (ls : List LiteralText). All (IsKnown names ls others base oldest forgotten) ks) none (known_still names names literals [] assumed others base oldest forgotten ks (kept_all names) same h)

-- once literals have gone behind those that no assumption stands for
pub known_fewer : (names : List Symbol) (fewer more : List LiteralText) (assumed : List ℕ) (base oldest forgotten next : ℕ) (ks : List QuietRun) → base ≤ length fewer → forgotten < next
    → All (IsKnown names (fewer ++ more) assumed base oldest forgotten) ks → All (IsKnown names fewer assumed base oldest next) ks
known_fewer names fewer more assumed base oldest forgotten next ks within later h =
    All-weaker (IsKnown names (fewer ++ more) assumed base oldest forgotten) (IsKnown names fewer assumed base oldest next)
    (λ k t. record {
      past = omega (arith, t.past, later);
      new = λ e. absurd (omega (arith, t.past, later, e));
      rule = λ old le.
          run_with names names (fewer ++ more) fewer assumed assumed k.run.literal k.run.from k.run (t.rule old le)
          (founded_fewer (quiet_run k.run.literal k.run.from k.run.to) names fewer more assumed k.run.grounds (omega (arith, le, within)) (t.rule old le).founded);
    })
    ks h

-- what is void
pub known_void : (names : List Symbol) (literals : List LiteralText) (assumed : List ℕ) (base forgotten next : ℕ) (ks : List QuietRun) → forgotten < next → All (λ (k : QuietRun). k.since ≤ forgotten) ks → All (IsKnown names literals assumed base next next) ks
known_void names literals assumed base forgotten next ks later h =
    All-weaker (λ (k : QuietRun). k.since ≤ forgotten) (IsKnown names literals assumed base next next)
    (λ k t. record { past = omega (arith, t, later); new = λ e. absurd (omega (arith, t, later, e)); rule = λ old le. absurd (omega (arith, t, later, old)) }) ks h

-- ---- what stands in a table

pub at_index : {X : Type 0} (P : X → Type 0) (xs : List X) (i : ℕ) (x : X) → slice_get xs i ≡ Some x → All P xs → P x
at_index P xs i x e h = subst P (get_or_from_slice_get xs i x x e) (h i x (slice_get_within xs i x e))

-- ---- tokens by their numbers

one_by_number : (names : List Symbol) (literals : List LiteralText) (d n : ℕ) (s : Symbol) → is_number names n s ≡ true → is_quiet_number names literals d n ≡ true → is_quiet d literals s ≡ true
one_by_number names literals d n s h k =
    let r = stands_for names n s h in
    sym (quiet_same d literals r.0 s r.2) ∙ ap (passes_one (is_quiet d literals)) (sym r.1) ∙ k

all_taken : (test : Symbol → Bool) (n : ℕ) (xs : List Symbol) → ((p : ℕ) (s : Symbol) → p < n → slice_get xs p ≡ Some s → test s ≡ true) → list_all test (take n xs) ≡ true
all_taken test zero xs f = refl
all_taken test (suc n) [] f = refl
all_taken test (suc n) (x ∷ xs) f = and_from (test x) (list_all test (take n xs)) (f 0 x (omega arith) refl) (all_taken test n xs (λ p s lt e. f (suc p) s (omega (arith, lt)) e))

behind : (k p : ℕ) (xs : List Symbol) → slice_get (drop k xs) p ≡ slice_get xs (k + p)
behind zero p xs = let same : 0 + p ≡ p = omega arith in ap (slice_get xs) (sym same)
behind (suc k) p [] = refl
behind (suc k) p (x ∷ xs) = let same : suc k + p ≡ suc (k + p) = omega arith in behind k p xs ∙ ap (slice_get (x ∷ xs)) (sym same)

range_all : (test : Symbol → Bool) (xs : List Symbol) (from to : ℕ) → ((p : ℕ) (s : Symbol) → from ≤ p → p < to → slice_get xs p ≡ Some s → test s ≡ true) → list_all test (slice_range xs from to) ≡ true
range_all test xs from to f = all_taken test (to - from) (drop from xs) (λ p s lt e. f (from + p) s (omega arith) (omega (arith, lt)) (sym (behind from p xs) ∙ e))

text_there : (tokens : List NamedToken) (p : ℕ) (s : Symbol) → slice_get (map named_symbol tokens) p ≡ Some s → (t : NamedToken) × (slice_get tokens p ≡ Some t) × (named_symbol t ≡ s)
text_there tokens p s e = by_found (slice_get tokens p) refl (sym (slice_get-map named_symbol tokens p) ∙ e)
  where
    by_found : (found : Option NamedToken) → slice_get tokens p ≡ found → option_map named_symbol found ≡ Some s → (t : NamedToken) × (slice_get tokens p ≡ Some t) × (named_symbol t ≡ s)
    by_found None g h = absurd (cc h)
    by_found (Some t) g h = (t, g, same_Some (named_symbol t) s h)

text_there_is : (ls : List Literal) (i : ℕ) (l : Literal) → slice_get ls i ≡ Some l → text_at (map literal_text ls) i ≡ map named_symbol l.text.now.tokens.items
text_there_is ls i l e = ap text_of (slice_get-map literal_text ls i ∙ ap (option_map literal_text) e)

is_numbered : (names : List Symbol) (ls : List Literal) (i : ℕ) (l : Literal) → slice_get ls i ≡ Some l → All (λ l. IsNumbered names l) ls → IsNumbered names l
is_numbered names ls i l e h = at_index (λ (x : Literal). IsNumbered names x) ls i l e h

-- the number of a token
pub number_is_at : (names : List Symbol) (ls : List Literal) (i at : ℕ) (l : Literal) (x : Option ℕ) → slice_get ls i ≡ Some l → slice_get l.numbers.items at ≡ Some x → All (λ l. IsNumbered names l) ls
    → IfSome x (IsNumberAt names (map literal_text ls) i at)
number_is_at names ls i at l None here there numbered = tt
number_is_at names ls i at l (Some n) here there numbered = λ s e.
    let tokens = l.text.now.tokens.items in
    let t = text_there tokens at s (ap (λ (ss : List Symbol). slice_get ss at) (sym (text_there_is ls i l here)) ∙ e) in
    ap (is_number names n) (sym t.2) ∙ (is_numbered names ls i l here numbered).text at (Some n) t.0 there t.1

taken : (literals : List LiteralText) (n i : ℕ) → i < n → slice_get (take n literals) i ≡ slice_get literals i
taken [] zero i lt = refl
taken [] (suc n) i lt = refl
taken (l ∷ ls) zero i lt = absurd (omega (arith, lt))
taken (l ∷ ls) (suc n) zero lt = refl
taken (l ∷ ls) (suc n) (suc i) lt = taken ls n i (omega (arith, lt))

-- a literal among the first, whatever stands behind these
first_there : (literals rest : List LiteralText) (level i : ℕ) (l : LiteralText) → i < level → slice_get literals i ≡ Some l → slice_get (take level literals ++ rest) i ≡ Some l
first_there literals rest level i l lt e = among_more (take level literals) rest i l (taken literals level i lt ∙ e)

first_text : (literals rest : List LiteralText) (level i : ℕ) → i < level → level ≤ length literals → text_at (take level literals ++ rest) i ≡ text_at literals i
first_text literals rest level i lt le =
    let there = some_at literals i (omega (arith, lt, le)) in
    ap text_of (first_there literals rest level i there.0 lt there.1) ∙ ap text_of (sym there.1)

-- one token whose name puts nothing out
token_turn : (names all : List Symbol) (literals : List LiteralText) (literal at n d : ℕ) → take (length names) all ≡ names → (others : List LiteralText) → text_at others literal ≡ text_at literals literal
    → IsNumberAt names literals literal at n → is_quiet_number all others d n ≡ true → is_quiet_range d others literal at (at + 1) ≡ true
token_turn names all literals literal at n d kept others same is quiet =
    range_all (is_quiet d others) (text_at others literal) at (at + 1) (λ p s le lt e.
    let here : p ≡ at = omega (arith, le, lt) in
    one_by_number all others d n s (number_still names all n s kept (is s (ap (λ (ss : List Symbol). slice_get ss at) (sym same) ∙ ap (slice_get (text_at others literal)) (sym here) ∙ e))) quiet)

-- ---- a name by the text of its literal

pub number_by_text : (names : List Symbol) (literals : List LiteralText) (number i d to : ℕ) → StandsAt names literals number i → i < length literals → is_quiet_range d literals i 0 to ≡ true → length (text_at literals i) ≤ to
    → is_quiet_number names literals (d + 1) number ≡ true
unfolding is_quiet
number_by_text names literals number i d to stands lt quiet whole =
    let there = some_at literals i lt in
    let more : d + 1 ≡ suc d = omega arith in
    let less : to - 0 ≡ to = omega arith in
    let all : is_quiet_text d literals there.0.text ≡ true
    = ap (λ (found : Option LiteralText). is_quiet_text d literals (text_of found)) (sym there.1)
    ∙ ap (is_quiet_text d literals) (sym (ap (λ (n : ℕ). take n (text_at literals i)) less ∙ take_all to (text_at literals i) whole))
    ∙ quiet in
    ap (passes_one (is_quiet (d + 1) literals)) stands.1
    ∙ ap (λ (n : ℕ). is_quiet n literals stands.0) more
    ∙ ap (each_quiet (is_quiet d literals)) (sym stands.2 ∙ there.1)
    ∙ all

find_passes : (test : LiteralText → Bool) (ls : List LiteralText) (l : LiteralText) → find test ls ≡ Some l → test l ≡ true
find_passes test [] l e = absurd (cc e)
find_passes test (x ∷ xs) l e = by_test (find_passes test xs l) (test x) refl e
  where
    by_test : (find test xs ≡ Some l → test l ≡ true) → (b : Bool) → test x ≡ b → cond b (Some x) (find test xs) ≡ Some l → test l ≡ true
    by_test further true t k = let same : x ≡ l = cc k in ap test (sym same) ∙ t
    by_test further false t k = further k

find_there : (test : LiteralText → Bool) (ls : List LiteralText) (i : ℕ) (l : LiteralText) → slice_get ls i ≡ Some l → test l ≡ true → (r : LiteralText) × (find test ls ≡ Some r)
find_there test [] i l e t = absurd (cc e)
find_there test (x ∷ xs) i l e t = by_test (λ j f. find_there test xs j l f t) (test x) refl i e
  where
    by_test : ((j : ℕ) → slice_get xs j ≡ Some l → (r : LiteralText) × (find test xs ≡ Some r)) → (b : Bool) → test x ≡ b → (i : ℕ) → slice_get (x ∷ xs) i ≡ Some l → (r : LiteralText) × (cond b (Some x) (find test xs) ≡ Some r)
    by_test further true k i f = (x, refl)
    by_test further false k zero f = let same : x ≡ l = cc f in let bad : false ≡ true = sym k ∙ ap test same ∙ t in absurd (cc bad)
    by_test further false k (suc i) f = further i f

-- the first literal of a name that is among the first literals
found_first : (test : LiteralText → Bool) (literals rest : List LiteralText) (level i : ℕ) (l : LiteralText) → i < level → slice_get literals i ≡ Some l → find test literals ≡ Some l → find test (take level literals ++ rest) ≡ Some l
found_first test literals rest level i l lt at e =
    let firsts : List LiteralText = take level literals in
    let there = find_there test firsts i l (taken literals level i lt ∙ at) (find_passes test literals l e) in
    let own : Some there.0 ≡ Some l
    = sym (ap (λ (o : Option LiteralText). option_or o (find test (drop level literals))) there.1)
    ∙ sym (find-append test firsts (drop level literals))
    ∙ ap (find test) (take-append-drop level literals)
    ∙ e in
    find-append test firsts rest ∙ ap (λ (o : Option LiteralText). option_or o (find test rest)) there.1 ∙ own

found_kind : (b : Bool) (test : LiteralText → Bool) (literals rest : List LiteralText) (level i : ℕ) (l : LiteralText) → i < level → slice_get literals i ≡ Some l → cond b (find test literals) None ≡ Some l
    → cond b (find test (take level literals ++ rest)) None ≡ Some l
found_kind true test literals rest level i l lt at e = found_first test literals rest level i l lt at e
found_kind false test literals rest level i l lt at e = absurd (cc e)

-- a name whose literal is among the first is that literal's whatever stands behind these
stands_first : (names all : List Symbol) (literals rest : List LiteralText) (level number i : ℕ) → take (length names) all ≡ names → i < level → i < length literals → StandsAt names literals number i
    → StandsAt all (take level literals ++ rest) number i
stands_first names all literals rest level number i kept lt within h =
    let there = some_at literals i within in (
      h.0,
      found_still names all number h.0 kept h.1,
      first_there literals rest level i there.0 lt there.1
          ∙ sym (found_kind (is_identifier h.0.kind) (λ l. names_equal l.name h.0.text) literals rest level i there.0 lt there.1 (sym h.2 ∙ there.1)),
    )

-- ---- what names and runs rest on

-- a run, and what lies behind it
founded_joined : (says : Saying) (names : List Symbol) (literals : List LiteralText) (assumed : List ℕ) (literal from at to : ℕ) (g h k : Grounds) → from ≤ at → at ≤ to → k.level ≡ max g.level h.level
    → ((test : ℕ → ℕ → Bool) → Pass test k.assumed → Pass test g.assumed × Pass test h.assumed) → IsFounded (quiet_run literal from at) names literals assumed g → IsFounded says names literals assumed h
    → ((all : List Symbol) (rest : List LiteralText) (d : ℕ) → take (length names) all ≡ names → says all (take k.level literals ++ rest) d ≡ true → is_quiet_range d (take k.level literals ++ rest) literal at to ≡ true)
    → IsFounded (quiet_run literal from to) names literals assumed k
founded_joined says names literals assumed literal from at to g h k le le' level pass f f' turn =
    let one : g.level ≤ k.level = omega (arith, level, le-max_left g.level h.level) in
    let two : h.level ≤ k.level = omega (arith, level, le-max_right g.level h.level) in record {
      within = omega (arith, level, f.within, f'.within);
      rule = record {
        follows = λ all rest d kept hold.
            let both = pass (λ j bit. is_assumed all (take k.level literals ++ rest) assumed (d - j) bit) hold in
            quiet_both d (take k.level literals ++ rest) (text_at (take k.level literals ++ rest) literal) from at to le le'
            ((rule_more (quiet_run literal from at) names literals assumed g.assumed g.level k.level one f.rule).follows all rest d kept both.0)
            (turn all rest d kept ((rule_more says names literals assumed h.assumed h.level k.level two f'.rule).follows all rest d kept both.1));
      };
    }

-- a run, and another behind it
pub runs_joined : (scope : Scope) (depth literal from : ℕ) (r next new : Run) → new.literal ≡ r.literal → new.from ≡ r.from → new.to ≡ next.to → new.grounds.level ≡ max r.grounds.level next.grounds.level
    → ((test : ℕ → ℕ → Bool) → Pass test new.grounds.assumed → Pass test r.grounds.assumed × Pass test next.grounds.assumed) → IsQuietRun scope depth literal from r → IsQuietRun scope depth literal r.to next → IsQuietRun scope depth literal from new
runs_joined scope depth literal from r next new e f g level pass a b =
    let names = names_in scope.names in
    let literals : List LiteralText = map literal_text scope.literals.items in
    let order : r.to ≤ new.to = omega (arith, b.is_run.order, g) in record {
      is_run = record {
        of_literal = e ∙ a.is_run.of_literal;
        of_token = f ∙ a.is_run.of_token;
        order = omega (arith, a.is_run.order, order);
        inside = omega (arith, a.is_run.inside, level, le-max_left r.grounds.level next.grounds.level);
        founded = founded_joined (quiet_run literal r.to next.to) names literals scope.assumed.items literal from r.to new.to r.grounds next.grounds new.grounds a.is_run.order order level pass a.is_run.founded b.is_run.founded
            (λ all rest d kept q. ap (is_quiet_range d (take new.grounds.level literals ++ rest) literal r.to) g ∙ q);
      };
      now = quiet_both depth literals (text_at literals literal) from r.to new.to a.is_run.order order a.now (ap (is_quiet_range depth literals literal r.to) g ∙ b.now);
    }

-- a run, and a name behind it
pub name_joined : (scope : Scope) (depth literal from number : ℕ) (r new : Run) (g : Grounds) → new.literal ≡ r.literal → new.from ≡ r.from → new.to ≡ r.to + 1 → new.grounds.level ≡ max r.grounds.level g.level
    → ((test : ℕ → ℕ → Bool) → Pass test new.grounds.assumed → Pass test r.grounds.assumed × Pass test g.assumed) → IsQuietRun scope depth literal from r → IsNumberAt (names_in scope.names) (map literal_text scope.literals.items) literal r.to number
    → IsQuietName scope depth number g → IsQuietRun scope depth literal from new
name_joined scope depth literal from number r new g e f t level pass a is b =
    let names = names_in scope.names in
    let literals : List LiteralText = map literal_text scope.literals.items in
    let order : r.to ≤ new.to = omega (arith, t) in
    let inside : literal < new.grounds.level = omega (arith, a.is_run.inside, level, le-max_left r.grounds.level g.level) in
    let within : new.grounds.level ≤ length literals = omega (arith, level, a.is_run.founded.within, b.founded.within) in record {
      is_run = record {
        of_literal = e ∙ a.is_run.of_literal;
        of_token = f ∙ a.is_run.of_token;
        order = omega (arith, a.is_run.order, order);
        inside = inside;
        founded = founded_joined (quiet_name number) names literals scope.assumed.items literal from r.to new.to r.grounds g new.grounds a.is_run.order order level pass a.is_run.founded b.founded
            (λ all rest d kept q. ap (is_quiet_range d (take new.grounds.level literals ++ rest) literal r.to) t
            ∙ token_turn names all literals literal r.to number d kept (take new.grounds.level literals ++ rest) (first_text literals rest new.grounds.level literal inside within) is q);
      };
      now = quiet_both depth literals (text_at literals literal) from r.to new.to a.is_run.order order a.now
          (ap (is_quiet_range depth literals literal r.to) t ∙ token_turn names names literals literal r.to number depth (kept_all names) literals refl is b.now);
    }

-- a run that is known, whose assumptions hold here
pub run_here : (scope : Scope) (depth literal from : ℕ) (r : Run) (holds : List ℕ) → Pass (is_assumed (names_in scope.names) (map literal_text scope.literals.items) scope.assumed.items) holds
    → IsRun (names_in scope.names) (map literal_text scope.literals.items) scope.assumed.items literal from r → ((test : ℕ → ℕ → Bool) → Pass test holds → Pass (λ k bit. test (depth - k) bit) r.grounds.assumed) → IsQuietRun scope depth literal from r
run_here scope depth literal from r holds h is all =
    let names = names_in scope.names in
    let literals : List LiteralText = map literal_text scope.literals.items in record {
      is_run = is;
      now = rule_now (quiet_run literal from r.to) names literals scope.assumed.items depth r.grounds is.founded (all (is_assumed names literals scope.assumed.items) h);
    }

-- a run says itself what it is of
pub own_run : (names : List Symbol) (literals : List LiteralText) (assumed : List ℕ) (literal from : ℕ) (r : Run) → IsRun names literals assumed literal from r → IsRun names literals assumed r.literal r.from r
own_run names literals assumed literal from r h =
    subst (λ (i : ℕ). IsRun names literals assumed i r.from r) (sym h.of_literal) (subst (λ (f : ℕ). IsRun names literals assumed literal f r) (sym h.of_token) h)

-- a name whose literal's text is a run
pub name_now : (scope : Scope) (depth fewer number literal size : ℕ) (r : Run) → depth ≡ fewer + 1 → HasLiteral scope literal → StandsAt (names_in scope.names) (map literal_text scope.literals.items) number literal
    → length (text_at (map literal_text scope.literals.items) literal) ≡ size → size ≤ r.to → IsQuietRun scope fewer literal 0 r → is_quiet_number (names_in scope.names) (map literal_text scope.literals.items) depth number ≡ true
name_now scope depth fewer number literal size r more has stands all_of long a =
    let names = names_in scope.names in
    let literals : List LiteralText = map literal_text scope.literals.items in
    subst (λ (n : ℕ). is_quiet_number names literals n number ≡ true) (sym more) (number_by_text names literals number literal fewer r.to stands has.inside a.now (omega (arith, long, all_of)))

-- a name by the run that is its literal's text
pub name_of_run : (scope : Scope) (depth fewer number literal size : ℕ) (r : Run) (g : Grounds) → depth ≡ fewer + 1 → HasLiteral scope literal → StandsAt (names_in scope.names) (map literal_text scope.literals.items) number literal
    → length (text_at (map literal_text scope.literals.items) literal) ≡ size → size ≤ r.to → IsQuietRun scope fewer literal 0 r → g.level ≡ r.grounds.level
    → ((test : ℕ → ℕ → Bool) → Pass test g.assumed → Pass (λ k bit. test (k + 1) bit) r.grounds.assumed × (test 0 63 ≡ true)) → IsQuietName scope depth number g
name_of_run scope depth fewer number literal size r g more has stands all_of long a level pass =
    let names = names_in scope.names in
    let literals : List LiteralText = map literal_text scope.literals.items in
    let there : literal < length literals = has.inside in
    let rule : IsRule (quiet_run literal 0 r.to) names (take g.level literals) scope.assumed.items r.grounds.assumed
    = subst (λ (n : ℕ). IsRule (quiet_run literal 0 r.to) names (take n literals) scope.assumed.items r.grounds.assumed) (sym level) a.is_run.founded.rule in
    let within : g.level ≤ length literals = omega (arith, level, a.is_run.founded.within) in
    let inside : literal < g.level = omega (arith, level, a.is_run.inside) in record {
      founded = record {
        within = within;
        rule = record {
          follows = λ all rest d kept hold.
              let others : List LiteralText = take g.level literals ++ rest in
              let both = pass (λ k bit. is_assumed all others scope.assumed.items (d - k) bit) hold in
              let some : 0 < d = omega (arith, ltb-true 0 (d - 0) (and_parts (nat_lt 0 (d - 0)) true both.1).0) in
              let back : d - 1 + 1 ≡ d = omega (arith, some) in
              let quiet = rule.follows all rest (d - 1) kept (λ k bit l b. let same : d - (k + 1) ≡ d - 1 - k = omega arith in subst (λ (n : ℕ). is_assumed all others scope.assumed.items n bit ≡ true) same (both.0 k bit l b)) in
              subst (λ (n : ℕ). is_quiet_number all others n number ≡ true) back
              (number_by_text all others number literal (d - 1) r.to (stands_first names all literals rest g.level number literal kept inside there stands)
              (omega (arith, inside, within, length-append (take g.level literals) rest, length-take-le g.level literals within)) quiet
              (omega (arith, long, ap length (first_text literals rest g.level literal inside within), all_of)));
        };
      };
      now = name_now scope depth fewer number literal size r more has stands all_of long a;
    }

pub name_of_run_if : (scope : Scope) (depth fewer number literal size : ℕ) (r : Run) (found : Option Grounds) → depth ≡ fewer + 1 → HasLiteral scope literal → StandsAt (names_in scope.names) (map literal_text scope.literals.items) number literal
    → length (text_at (map literal_text scope.literals.items) literal) ≡ size → size ≤ r.to → IsQuietRun scope fewer literal 0 r → IfSome found (λ g. g.level ≡ r.grounds.level)
    → IfSome found (λ g. (test : ℕ → ℕ → Bool) → Pass test g.assumed → Pass (λ k bit. test (k + 1) bit) r.grounds.assumed × (test 0 63 ≡ true)) → IfSome found (IsQuietName scope depth number)
name_of_run_if scope depth fewer number literal size r None more has stands all_of long a level pass = tt
name_of_run_if scope depth fewer number literal size r (Some g) more has stands all_of long a level pass = name_of_run scope depth fewer number literal size r g more has stands all_of long a level pass

-- a name by its bit
pub name_of_bit : (scope : Scope) (depth number bit : ℕ) (g : Grounds) → bit < 63 → slice_get scope.assumed.items bit ≡ Some number → g.level ≡ 0 → ((test : ℕ → ℕ → Bool) → Pass test g.assumed → test 0 bit ≡ true)
    → is_quiet_number (names_in scope.names) (map literal_text scope.literals.items) depth number ≡ true → IsQuietName scope depth number g
name_of_bit scope depth number bit g less at level pass quiet = record {
  founded = record {
    within = omega (arith, level);
    rule = record {
      follows = λ all rest d kept hold.
          let others : List LiteralText = take g.level (map literal_text scope.literals.items) ++ rest in
          let same : d - 0 ≡ d = omega arith in
          subst (λ (n : ℕ). is_quiet_number all others n number ≡ true) same
          (assumed_is all others scope.assumed.items (d - 0) bit number less at (pass (λ k b. is_assumed all others scope.assumed.items (d - k) b) hold));
    };
  };
  now = quiet;
}
