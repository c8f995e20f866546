-- Joined modules without faults of the whole program have one main module.
use Rattle.std.proofs.Common.{◌≡◌, ℕ, List, [], ◌∷◌, ◌++◌, Bool, true, false, length, nat_eq, refl, sym, ap, ◌∙◌, arith}
use Rattle.std.proofs.lemmas.List.{length-append}
use Rattle.std.proofs.lemmas.Bool.Decides.{nat_tests}
use Rattle.plm_decl.specs.declared.found.Found.{Found}
use Rattle.plm_decl.specs.Resolver.{Known}
use Rattle.plm_decl.specs.Joins.{externals_joined, modules_joined, program_fault}
use Rattle.plm_decl.proofs.Kept.{not_nil}

pub fault_holds : (b : Bool) (f : Found) (k : Known) → (program_fault b f k).whole ≡ [] → b ≡ true
fault_holds true f k e = refl
fault_holds false f k e = absurd (not_nil k.whole f e)

pub fault_before : (b : Bool) (f : Found) (k : Known) → (program_fault b f k).whole ≡ [] → k.whole ≡ []
fault_before true f k e = e
fault_before false f k e = absurd (not_nil k.whole f e)

mains_kept : (b : Bool) (f : Found) (k : Known) → (program_fault b f k).mains ≡ k.mains
mains_kept true f k = refl
mains_kept false f k = refl

one_from : (n : ℕ) → nat_eq n 1 ≡ true → n ≡ 1
one_from n e = grind (arith, nat_tests)

one_after : (b : Bool) (f g : Found) (q : Known) → let p = program_fault (nat_eq (length q.mains) 1) g q in (program_fault b f p).whole ≡ [] → length (program_fault b f p).mains ≡ 1
one_after b f g q e =
    let p = program_fault (nat_eq (length q.mains) 1) g q in
    ap length (mains_kept b f p) ∙ ap length (mains_kept (nat_eq (length q.mains) 1) g q)
    ∙ one_from (length q.mains) (fault_holds (nat_eq (length q.mains) 1) g q (fault_before b f p e))

pub one_main : (k : Known) → (modules_joined k).whole ≡ [] → length (modules_joined k).mains ≡ 1
one_main k e = one_after _ _ _ (externals_joined k.externals (record k { externals = [] })) e

-- the only item of a list
pub only : {A : Type 0} → (xs : List A) (x : A) (all : List A) → all ≡ xs ++ x ∷ [] → length all ≡ 1 → x ∷ [] ≡ all
only [] x all e h = sym e
only (y ∷ xs) x all e h = absurd (omega (arith, h, ap length e, length-append (y ∷ xs) (x ∷ [])))
