-- What was read where there was something, at the end of a list.
use Rattle.std.proofs.Common.{◌≡◌, ◌∷◌, ◌++◌, [], ℕ, List, ◌+◌, Option, Some, None, Result, Ok, Err, refl, sym, ap, ◌∙◌, subst}
use Rattle.std.specs.Prelude.{IfOk, IfErr, IfSome, IfNone}
use Rattle.std.proofs.lemmas.Option.{same_Some}
use Rattle.plm_syntax.specs.declared.tree.Item.{Item}
use Rattle.plm_syntax.specs.declared.cursor.Cursor.{Cursor}
use Rattle.plm_syntax.specs.declared.failure.Failure.{Failure}
use Rattle.plm_syntax.specs.declared.failure.Failure.TheVariants as failure
use Rattle.plm_syntax.specs.Terminal.{NameT}
use Rattle.plm_syntax.specs.Tree.{ItemsT}
use Rattle.plm_syntax.specs.Inner.Symbol.{Value, Symbol, depth, Want, ItemsR, ItemsG}
use Rattle.plm_syntax.specs.Inner.Machine.{run}
use Rattle.plm_syntax.specs.Inner.Parsed.{ahead, Fails}
use Rattle.plm_syntax.specs.Inner.Blocks.{LeadsItem}

-- what `gathered` ensures
abbrev pub IfNothing : Result (Option (Item × Cursor)) Failure → List Item → List Item → Result (Option Cursor) Failure → Type 0
IfNothing read old new r = IfOk read (λ found. IfNone found ((r ≡ Ok None) × (new ≡ old)))

abbrev pub IfThere : Result (Option (Item × Cursor)) Failure → List Item → List Item → Result (Option Cursor) Failure → Type 0
IfThere read old new r = IfOk read (λ found. IfSome found (λ x. IfOk r (λ rest. (rest ≡ Some x.1) × (new ≡ old ++ x.0 ∷ []))))

abbrev pub IfFull : Result (Option (Item × Cursor)) Failure → Result (Option Cursor) Failure → Type 0
IfFull read r = IfOk read (λ found. IfErr r (λ f. f ≡ failure.Memory))

abbrev pub IfFailed : Result (Option (Item × Cursor)) Failure → Result (Option Cursor) Failure → Type 0
IfFailed read r = IfErr read (λ f. r ≡ Err f)

clash : {r : Result (Option Cursor) Failure} {f : Failure} {o : Option Cursor} → r ≡ Err f → r ≡ Ok o → ⊥
clash {r} {f} {o} e h = let no : ◌≡◌ {A = Result (Option Cursor) Failure} (Err f) (Ok o) = sym e ∙ h in cc no

pub one_there : (read : Result (Option (Item × Cursor)) Failure) (old new : List Item) (r : Result (Option Cursor) Failure) (b : Cursor) → IfNothing read old new r → IfThere read old new r → IfFailed read r → r ≡ Ok (Some b)
    → (x : Item) × (read ≡ Ok (Some (x, b))) × (new ≡ old ++ x ∷ [])
one_there (Err e) old new r b none some err q = absurd (clash err q)
one_there (Ok None) old new r b none some err q = let no : ◌≡◌ {A = Result (Option Cursor) Failure} (Ok None) (Ok (Some b)) = sym none.0 ∙ q in absurd (cc no)
one_there (Ok (Some x)) old new r b none some err q =
    let h : (Some b ≡ Some x.1) × (new ≡ old ++ x.0 ∷ []) = subst (λ (y : Result (Option Cursor) Failure). IfOk y (λ rest. (rest ≡ Some x.1) × (new ≡ old ++ x.0 ∷ []))) q some in
    (x.0, ap (λ (c : Cursor). Ok (Some (x.0, c))) (sym (same_Some b x.1 h.0)), h.1)

pub none_there : (read : Result (Option (Item × Cursor)) Failure) (old new : List Item) (r : Result (Option Cursor) Failure) → IfNothing read old new r → IfThere read old new r → IfFailed read r → r ≡ Ok None
    → (read ≡ Ok None) × (new ≡ old)
none_there (Err e) old new r none some err q = absurd (clash err q)
none_there (Ok None) old new r none some err q = (refl, none.1)
none_there (Ok (Some x)) old new r none some err q =
    let h : (None ≡ Some x.1) × (new ≡ old ++ x.0 ∷ []) = subst (λ (y : Result (Option Cursor) Failure). IfOk y (λ rest. (rest ≡ Some x.1) × (new ≡ old ++ x.0 ∷ []))) q some in
    absurd (cc h.0)

pub one_lost : (read : Result (Option (Item × Cursor)) Failure) (r : Result (Option Cursor) Failure) (f : Failure) (c : Cursor) (room : ℕ) → IfFull read r → IfFailed read r → r ≡ Err f → LeadsItem read c room
    → (l : Option NameT) (is : ItemsT) (s : List Symbol) (v : List Value) → depth s + room ≡ 64 → Fails f (run 64 (Want (ItemsG l) ∷ s) (ItemsR is ∷ v) (ahead c))
one_lost (Ok o) r f c room full err q h l is s v d =
    let memory : f ≡ failure.Memory = subst (λ (y : Result (Option Cursor) Failure). IfErr y (λ k. k ≡ failure.Memory)) q full in
    subst (λ (k : Failure). Fails k (run 64 (Want (ItemsG l) ∷ s) (ItemsR is ∷ v) (ahead c))) (sym memory) tt
one_lost (Err e) r f c room full err q h l is s v d =
    let both : ◌≡◌ {A = Result (Option Cursor) Failure} (Err e) (Err f) = sym err ∙ q in
    let same : e ≡ f = cc both in
    subst (λ (k : Failure). Fails k (run 64 (Want (ItemsG l) ∷ s) (ItemsR is ∷ v) (ahead c))) same (h l is s v d)
