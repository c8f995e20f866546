use Rattle.std.proofs.Common.{◌≡◌, ◌∷◌, ◌∙◌, [], ℕ, List, length, Option, None, ap, refl, sym, subst}
use Rattle.plm_token.specs.declared.token.Keyword.{Keyword}
use Rattle.plm_token.specs.declared.keywords.Word.{Word}
use Rattle.plm_token.specs.Names.{normal, keyword_of}
use Rattle.plm_token.specs.Inner.Keywords.{keyword_in}
use Rattle.plm_token.proofs.keywords.keyword.Goals as goal

-- a name in normal form is a reserved word where it is one of those of its length that its first letter begins
by_first : (letters rest : List ℕ) (first n : ℕ) (words : List Word) (r : Option Keyword)
    → letters ≡ first ∷ rest → n ≡ length letters → (n ≡ length (first ∷ rest) → keyword_of (first ∷ rest) ≡ keyword_in (first ∷ rest) words)
    → r ≡ keyword_in letters words → r ≡ keyword_of letters
by_first letters rest first n words r is size among found =
    found ∙ subst (λ l. keyword_in l words ≡ keyword_of l) (sym is) (sym (among (size ∙ ap length is)))

none : None ≡ keyword_of []
unfolding keyword_of
none = refl

pub returns-in-Some : goal.returns-in-Some
returns-in-Some c =
    let name = sym (ap normal c.new.ensures) ∙ c.in-Some.ensures.value in
    by_first (normal c.args.name.now) (normal c.next.new.self.rest.now) c.in-Some.first c.args.letters c.words_of.result.now c.keyword_among.result name c.requires
    (c.words_of.ensures (normal c.next.new.self.rest.now)) c.keyword_among.ensures

pub returns-in-None : goal.returns-in-None
unfolding normal
returns-in-None c =
    let e = c.in-None.ensures in
    none ∙ ap keyword_of (sym (sym (ap normal c.new.ensures) ∙ (e.value ∙ ap normal e.none)))
