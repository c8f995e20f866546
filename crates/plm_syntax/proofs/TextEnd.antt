-- Runs over a text with its end after it, and without.
use Rattle.std.proofs.Common.{◌≡◌, ℕ, suc, ◌+◌, ◌≤◌, nat_lt, List, [], ◌∷◌, ◌++◌, Bool, true, false, None, Result, Ok, Err, refl, sym, ap, ◌∙◌, arith, length, length-append, ◌⊎◌, inl, inr}
use Rattle.plm_syntax.specs.Terminal.{Finish, Leaf, leaf}
use Rattle.plm_syntax.specs.Sentence.{BeginsWithin}
use Rattle.plm_syntax.specs.Inner.Symbol.{Value, Symbol, depth}
use Rattle.plm_syntax.specs.Inner.Machine.{Move, Stay, Next, Open, feed, Stop, Refusal, Deep, Reading, run, start}
use Rattle.plm_syntax.proofs.Along.{gone}
use Rattle.plm_syntax.proofs.Limits.{ran}
use Rattle.plm_syntax.proofs.Whole.{begun_within}

-- a run that goes on over further tokens
abbrev pub continued : Result Reading Stop → List Leaf → Result Reading Stop
continued (Ok r) ys = run 64 r.awaited r.read ys
continued (Err (Refusal n)) ys = Err (Refusal (n + length ys))
continued (Err (Deep n)) ys = Err (Deep (n + length ys))

abbrev refusal_of : ℕ → Result Reading Stop
refusal_of n = Err (Refusal n)

abbrev deep_of : ℕ → Result Reading Stop
deep_of n = Err (Deep n)

pub run_both : (xs ys : List Leaf) (s : List Symbol) (v : List Value) → run 64 s v (xs ++ ys) ≡ continued (run 64 s v xs) ys
run_both [] ys s v = refl
run_both (l ∷ ls) ys s v = by_move (λ s' v'. run_both ls ys s' v') (feed s v l.terminal l.place)
  where
    by_test : (s' : List Symbol) (v' : List Value) → run 64 s' v' (ls ++ ys) ≡ continued (run 64 s' v' ls) ys → (b : Bool) → ◌≡◌ {A = Result Reading Stop} (elim b [ true ↦ Err (Deep (length (ls ++ ys))) | false ↦ run 64 s' v' (ls ++ ys) ]) (continued (elim b [ true ↦ Err (Deep (length ls)) | false ↦ run 64 s' v' ls ]) ys)
    by_test s' v' e true = ap deep_of (length-append ls ys)
    by_test s' v' e false = e

    by_move : ((s' : List Symbol) (v' : List Value) → run 64 s' v' (ls ++ ys) ≡ continued (run 64 s' v' ls) ys) → (m : Move) → gone m (ls ++ ys) ≡ continued (gone m ls) ys
    by_move g Stay = ap refusal_of (length-append ls ys)
    by_move g (Next s' v') = g s' v'
    by_move g (Open s' v') = by_test s' v' (g s' v') (nat_lt 64 (depth s'))

-- a run that is over after the last token
at_end : (r : Reading) (stop : Stop) → run 64 r.awaited r.read (leaf Finish ∷ []) ≡ Err stop → (stop ≡ Refusal 0) ⊎ (stop ≡ Deep 0)
at_end r stop h = by_move (feed r.awaited r.read Finish None) h
  where
    by_test : (s : List Symbol) (v : List Value) (b : Bool) → ◌≡◌ {A = Result Reading Stop} (elim b [ true ↦ Err (Deep 0) | false ↦ Ok (record { awaited = s; read = v }) ]) (Err stop) → (stop ≡ Refusal 0) ⊎ (stop ≡ Deep 0)
    by_test s v true h = let e : stop ≡ Deep 0 = cc in inr e
    by_test s v false h = absurd cc

    by_move : (m : Move) → gone m [] ≡ Err stop → (stop ≡ Refusal 0) ⊎ (stop ≡ Deep 0)
    by_move Stay h = let e : stop ≡ Refusal 0 = cc in inl e
    by_move (Next s v) h = absurd cc
    by_move (Open s v) h = by_test s v (nat_lt 64 (depth s)) h

pub begun : (xs : List Leaf) (r : Reading) → run 64 start [] xs ≡ Ok r → BeginsWithin 64 xs
begun xs r h = let p = ran 64 xs start r.awaited [] r.read h in begun_within 64 xs r.awaited r.read p.levels p.path p.within

pub whole_text : (xs : List Leaf) (r : Reading) → run 64 start [] (xs ++ leaf Finish ∷ []) ≡ Ok r → BeginsWithin 64 xs
whole_text xs r h = by_run (run 64 start [] xs) refl (sym (run_both xs (leaf Finish ∷ []) start []) ∙ h)
  where
    by_run : (o : Result Reading Stop) → run 64 start [] xs ≡ o → continued o (leaf Finish ∷ []) ≡ Ok r → BeginsWithin 64 xs
    by_run (Ok q) e g = begun xs q e
    by_run (Err (Refusal n)) e g = absurd cc
    by_run (Err (Deep n)) e g = absurd cc

-- where a run over the text and its end stops, a run over the text alone stops too, or takes the text
pub record Within_text (xs : List Leaf) (stop : ℕ → Stop) (left : ℕ) : Type 0 where
  pub at_last : left ≡ 0 → BeginsWithin 64 xs
  pub earlier : (n : ℕ) → left ≡ suc n → run 64 start [] xs ≡ Err (stop n)

pub refused_text : (xs : List Leaf) (left : ℕ) → run 64 start [] (xs ++ leaf Finish ∷ []) ≡ Err (Refusal left) → Within_text xs Refusal left
refused_text xs left h = by_run (run 64 start [] xs) refl (sym (run_both xs (leaf Finish ∷ []) start []) ∙ h)
  where
    none_left : (r : Reading) → (Refusal left ≡ Refusal 0) ⊎ (Refusal left ≡ Deep 0) → left ≡ 0
    none_left r (inl e) = cc
    none_left r (inr e) = absurd cc

    by_run : (o : Result Reading Stop) → run 64 start [] xs ≡ o → continued o (leaf Finish ∷ []) ≡ Err (Refusal left) → Within_text xs Refusal left
    by_run (Ok q) e g = let z = none_left q (at_end q (Refusal left) g) in record { at_last = λ _. begun xs q e; earlier = λ n k. absurd (omega (arith, z, k)) }
    by_run (Err (Refusal n)) e g = let k : n + 1 ≡ left = cc in record { at_last = λ z. absurd (omega (arith, z, k)); earlier = λ m i. e ∙ ap refusal_of (omega (arith, k, i)) }
    by_run (Err (Deep n)) e g = absurd cc

pub deep_text : (xs : List Leaf) (left : ℕ) → run 64 start [] (xs ++ leaf Finish ∷ []) ≡ Err (Deep left) → Within_text xs Deep left
deep_text xs left h = by_run (run 64 start [] xs) refl (sym (run_both xs (leaf Finish ∷ []) start []) ∙ h)
  where
    none_left : (r : Reading) → (Deep left ≡ Refusal 0) ⊎ (Deep left ≡ Deep 0) → left ≡ 0
    none_left r (inl e) = absurd cc
    none_left r (inr e) = cc

    by_run : (o : Result Reading Stop) → run 64 start [] xs ≡ o → continued o (leaf Finish ∷ []) ≡ Err (Deep left) → Within_text xs Deep left
    by_run (Ok q) e g = let z = none_left q (at_end q (Deep left) g) in record { at_last = λ _. begun xs q e; earlier = λ n k. absurd (omega (arith, z, k)) }
    by_run (Err (Deep n)) e g = let k : n + 1 ≡ left = cc in record { at_last = λ z. absurd (omega (arith, z, k)); earlier = λ m i. e ∙ ap deep_of (omega (arith, k, i)) }
    by_run (Err (Refusal n)) e g = absurd cc

-- fewer tokens are left than there are
pub left_within : (ls : List Leaf) (s : List Symbol) (v : List Value) (n : ℕ) → (run 64 s v ls ≡ Err (Refusal n)) ⊎ (run 64 s v ls ≡ Err (Deep n)) → suc n ≤ length ls
left_within [] s v n (inl h) = absurd cc
left_within [] s v n (inr h) = absurd cc
left_within (l ∷ ls) s v n h = by_move (λ s' v' k. left_within ls s' v' n k) (feed s v l.terminal l.place) h
  where
    by_test : (s' : List Symbol) (v' : List Value) → ((run 64 s' v' ls ≡ Err (Refusal n)) ⊎ (run 64 s' v' ls ≡ Err (Deep n)) → suc n ≤ length ls) → (b : Bool)
        → (◌≡◌ {A = Result Reading Stop} (elim b [ true ↦ Err (Deep (length ls)) | false ↦ run 64 s' v' ls ]) (Err (Refusal n))) ⊎ (◌≡◌ {A = Result Reading Stop} (elim b [ true ↦ Err (Deep (length ls)) | false ↦ run 64 s' v' ls ]) (Err (Deep n))) → suc n ≤ suc (length ls)
    by_test s' v' g true (inl h) = absurd cc
    by_test s' v' g true (inr h) = let e : length ls ≡ n = cc in omega (arith, e)
    by_test s' v' g false h = let e = g h in omega (arith, e)

    by_move : ((s' : List Symbol) (v' : List Value) → (run 64 s' v' ls ≡ Err (Refusal n)) ⊎ (run 64 s' v' ls ≡ Err (Deep n)) → suc n ≤ length ls) → (m : Move) → (gone m ls ≡ Err (Refusal n)) ⊎ (gone m ls ≡ Err (Deep n)) → suc n ≤ suc (length ls)
    by_move g Stay (inl h) = let e : length ls ≡ n = cc in omega (arith, e)
    by_move g Stay (inr h) = absurd cc
    by_move g (Next s' v') h = let e = g s' v' h in omega (arith, e)
    by_move g (Open s' v') h = by_test s' v' (g s' v') (nat_lt 64 (depth s')) h
