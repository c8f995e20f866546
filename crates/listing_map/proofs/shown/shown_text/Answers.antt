use Rattle.std.proofs.Common.{◌≡◌, ◌∙◌, ℕ, ◌+◌, ◌<◌, ◌≤◌, List, ◌++◌, length, get_or, drop, sym, ap, ap₂, subst, arith, append_assoc, append-nil}
use Rattle.std.proofs.lemmas.Iterator.{YieldsList-from_chars}
use Rattle.std.proofs.lemmas.Iterator.Consumers.{YieldsList-turn, YieldsList-end}
use Rattle.std.proofs.lemmas.List.{at_drop_more, at_drop_all, length_push}
use Rattle.std.specs.List.{flat_map}
use Rattle.std.specs.Prelude.{chars}
use Rattle.std.specs.Str.Lossy.{utf8_lossy}
use Rattle.listing_map.specs.Messages.{shown_character}
use Rattle.listing_map.proofs.shown.shown_text.Goals as goal

-- one more character is shown
one_more : (cs shown made : List ℕ) (n m c : ℕ) → m ≡ n + 1 → (n < length cs) × (c ≡ get_or cs n c) → made ≡ shown ++ shown_character c
    → shown ++ flat_map shown_character (drop n cs) ≡ flat_map shown_character cs
    → made ++ flat_map shown_character (drop m cs) ≡ flat_map shown_character cs
one_more cs shown made n m c next here more so_far =
    ap₂ (λ (x : List ℕ) (k : ℕ). x ++ flat_map shown_character (drop k cs)) more next
    ∙ append_assoc shown (shown_character c) (flat_map shown_character (drop (n + 1) cs))
    ∙ ap (λ (x : List ℕ). shown ++ x) (ap (λ (x : ℕ). shown_character x ++ flat_map shown_character (drop (n + 1) cs)) here.1 ∙ sym (at_drop_more (flat_map shown_character) cs n c here.0))
    ∙ so_far

-- all are
no_more : (cs shown : List ℕ) (n : ℕ) → length cs ≤ n
    → shown ++ flat_map shown_character (drop n cs) ≡ flat_map shown_character cs
    → shown ≡ flat_map shown_character cs
no_more cs shown n all so_far =
    sym (append-nil shown) ∙ ap (λ (x : List ℕ). shown ++ x) (sym (at_drop_all (flat_map shown_character) cs n all)) ∙ so_far

pub loop-character-preserved : goal.loop-character-preserved
loop-character-preserved c =
    let same = ap chars (c.as_str.ensures.value ∙ c.in_ok-characters.ensures.lossy) in
    let t = YieldsList-turn (YieldsList-from_chars _ c.as_str.utf8 cc) c.loop-character.yielded _ c.loop-character.yielded_by _ _ c.in-Some.character c.in-Some.is c.next.ensures.steps in
    one_more (chars (utf8_lossy c.args.text.now)) c.loop-character.shown.items _ (length c.loop-character.yielded) _ c.in-Some.character
    (length_push c.loop-character.yielded c.in-Some.character)
    (subst (λ (cs : List ℕ). (length c.loop-character.yielded < length cs) × (c.in-Some.character ≡ get_or cs (length c.loop-character.yielded) c.in-Some.character)) same t)
    c.in_ok-put_character.ensures c.loop-character.invariant

pub returns : goal.returns
returns c =
    let same = ap chars (c.as_str.ensures.value ∙ c.in_ok-characters.ensures.lossy) in
    let t = YieldsList-end (YieldsList-from_chars _ c.as_str.utf8 cc) c.loop-character.yielded _ c.loop-character.yielded_by _ _ c.in-None.is c.next.ensures.steps in
    no_more (chars (utf8_lossy c.args.text.now)) c.loop-character.shown.items (length c.loop-character.yielded)
    (subst (λ (cs : List ℕ). length cs ≤ length c.loop-character.yielded) same (omega (arith, t.1))) c.loop-character.invariant
