-- How far a reader has come, and what was read of it.
use Rattle.std.proofs.Common.{◌≡◌, ◌∙◌, ℕ, ◌+◌, ◌≤◌, List, [], ◌++◌, Option, Some, None, IfSome, Result, Ok, Err, OnErr, length, take, refl, sym, ap, subst, rules, arith, take_all, append-nil, length-append, length-take}
use Rattle.std.proofs.lemmas.List.{take_at}
use Rattle.std.specs.Io.KnownBytes.{Consumes, Keeps, IsAtEnd}
use Rattle.std.proofs.KnownBytes.{Consumes-trans, Consumes-kept}
use Rattle.plm86.specs.Input.{bounded, GivesAtMost, GivesSoMany}
use Rattle.plm86.specs.declared.input.ReadFault.{ReadFault}
use Rattle.plm86.specs.declared.input.ReadFault.TheVariants.{Read, Memory}

pub on_err : {T E : Type 0} (r : Result T E) (P : Type 0) → P → OnErr r P
on_err (Ok x) P p = search rules
on_err (Err e) P p = p

-- no more than this many
abbrev pub IsWithin : Option ℕ → ℕ → Type 0
IsWithin most n = IfSome most (λ m. n ≤ m)

pub none_read : (most : Option ℕ) (n : ℕ) → n ≡ 0 → IsWithin most n
none_read None n e = search rules
none_read (Some m) n e = omega arith

pub all_within : (most : Option ℕ) (xs : List ℕ) → IsWithin most (length xs) → bounded most xs ≡ xs
all_within None xs h = refl
all_within (Some m) xs h = take_all m xs h

-- as many were read as were wanted
pub full : (a b : Option (List ℕ)) (bs : List ℕ) (most : Option ℕ) → Consumes a b bs → most ≡ Some (length bs) → IfSome a (λ xs. bs ≡ bounded most xs)
full None b bs most h e = search rules
full (Some xs) None bs most h e = absurd h
full (Some xs) (Some ys) bs most h e = subst (λ o. bs ≡ bounded o xs) (sym e) (subst (λ zs. bs ≡ take (length bs) zs) (sym h) (sym (take_at bs ys (length bs) refl)))

-- the reader has no more
pub ended : (a b c : Option (List ℕ)) (bs none : List ℕ) (most : Option ℕ) → Consumes a b bs → Consumes b c none → none ≡ [] → IsAtEnd c → IsWithin most (length bs) → IfSome a (λ xs. bs ≡ bounded most xs)
ended None b c bs none most h k e z w = search rules
ended (Some xs) b None bs none most h k e z w = absurd (Consumes-trans (Some xs) b None bs none h k)
ended (Some xs) b (Some zs) bs none most h k e z w =
    let whole : xs ≡ (bs ++ none) ++ zs = Consumes-trans (Some xs) b (Some zs) bs none h k in
    let same : xs ≡ bs = whole ∙ ap (λ l. (bs ++ l) ++ zs) e ∙ ap (λ l. (bs ++ []) ++ l) z ∙ append-nil (bs ++ []) ∙ append-nil bs in
    subst (λ l. bs ≡ bounded most l) (sym same) (sym (all_within most bs w))

-- some more were read
pub gave : (a b c : Option (List ℕ)) (bs more : List ℕ) (most : Option ℕ) → Consumes a b bs → Consumes b c more → IsWithin most (length (bs ++ more)) → GivesAtMost most a c
gave a b c bs more most h k w = (bs ++ more, Consumes-trans a b c bs more h k, all_within most (bs ++ more) w)

pub gave_none : (a b c : Option (List ℕ)) (bs : List ℕ) (most : Option ℕ) → Consumes a b bs → Keeps b c → IsWithin most (length bs) → GivesAtMost most a c
gave_none a b c bs most h k w = (bs, Consumes-kept a b c bs h k, all_within most bs w)

pub within_more : (most : Option ℕ) (bs chunk : List ℕ) (read room n : ℕ) → read ≡ length bs → IfSome most (λ m. read + room ≤ m) → n ≤ room → IsWithin most (length (bs ++ take n chunk))
within_more None bs chunk read room n e w le = search rules
within_more (Some m) bs chunk read room n e w le = omega (arith, length-append bs (take n chunk), length-take n chunk)

-- how many bytes a fault says were read
abbrev read_of : ReadFault → ℕ
read_of (Memory n) = n
read_of (Read e) = 0

pub so_long : (bs chunk : List ℕ) (read count n : ℕ) → read ≡ length bs → count ≤ length chunk → Memory (read + count) ≡ Memory n → length (bs ++ take count chunk) ≡ n
so_long bs chunk read count n l le e =
    let same : read + count ≡ n = ap read_of e in
    omega (arith, length-append bs (take count chunk), length-take count chunk, same)

pub gave_many : (a b c : Option (List ℕ)) (bs more : List ℕ) (n : ℕ) → Consumes a b bs → Consumes b c more → length (bs ++ more) ≡ n → GivesSoMany n a c
gave_many a b c bs more n h k e = (bs ++ more, Consumes-trans a b c bs more h k, e)
