-- The longest beginning of a text that has a form.
use Rattle.std.proofs.Common.{◌≡◌, ℕ, zero, suc, ◌+◌, ◌<◌, ◌≤◌, inl, inr, List, [], ◌∷◌, length, take, Bool, cond, Some, None, refl, subst, arith}
use Rattle.std.specs.List.{list_all, prefix_len}
use Rattle.std.proofs.lemmas.Bool.{cases_lt}
use Rattle.plm_token.specs.declared.piece.ScanState.{ScanState}
use Rattle.plm_token.specs.Forms.{Form, form_of}
use Rattle.plm_token.specs.Pieces.{longest_within, or_shorter, front_of}
use Rattle.word86.specs.declared.number.Number.TheVariants.{E101}
use Rattle.plm_token.specs.Inner.Front.{cut_at, fault_front}
use Rattle.std.proofs.lemmas.List.Sums.{prefix_len-le-length}
use Rattle.plm_token.proofs.Runs.{take_run, past_run}

last_or_before : (n k : ℕ) → n ≤ suc k → (n ≤ k → ⊥) → n ≡ suc k
last_or_before n k h above = omega arith

pub longest_is : (state : ScanState) (text : List ℕ) (form : Form) (n : ℕ) → 0 < n → form_of state (take n text) ≡ Some form
    → (k : ℕ) → n ≤ k → ((m : ℕ) → n < m → m ≤ k → form_of state (take m text) ≡ None) → longest_within k state text ≡ Some (form, n)
longest_is state text form n some here zero inside none = absurd (omega arith)
longest_is state text form n some here (suc k) inside none =
    elim (cases_lt k n) [
      | inl above ↦ let e : n ≡ suc k = omega arith in subst (λ (j : ℕ). or_shorter (form_of state (take j text)) j (longest_within k state text) ≡ Some (form, n)) e (rw here refl)
      | inr h ↦ rw (none (suc k) (omega arith) (omega arith)) (longest_is state text form n some here k h (λ m above below. none m above (omega arith)))
    ]

-- what stands at the front, where a beginning has a form and no longer one has
pub front_is : (state : ScanState) (text : List ℕ) (form : Form) (n : ℕ) → 0 < n → n ≤ length text → form_of state (take n text) ≡ Some form
    → ((m : ℕ) → n < m → m ≤ length text → form_of state (take m text) ≡ None) → front_of state text ≡ cut_at form text n
unfolding front_of
front_is state text form n some inside here none = rw (longest_is state text form n some here (length text) inside none) refl

behind_first : (state : ScanState) (b : ℕ) (bs : List ℕ) (n : ℕ) → ((j : ℕ) → n < j → j ≤ length bs → form_of state (b ∷ take j bs) ≡ None)
    → (m : ℕ) → suc n < m → m ≤ length (b ∷ bs) → form_of state (take m (b ∷ bs)) ≡ None
behind_first state b bs n none zero above inside = absurd (omega arith)
behind_first state b bs n none (suc j) above inside = none j (omega arith) (omega arith)

-- the same, after the first character
pub front_behind : (state : ScanState) (b : ℕ) (bs : List ℕ) (form : Form) (n : ℕ) → n ≤ length bs → form_of state (b ∷ take n bs) ≡ Some form
    → ((j : ℕ) → n < j → j ≤ length bs → form_of state (b ∷ take j bs) ≡ None) → (m : ℕ) → m ≡ suc n → front_of state (b ∷ bs) ≡ cut_at form (b ∷ bs) m
front_behind state b bs form n inside here none m e =
    rw e (front_is state (b ∷ bs) form (suc n) (omega arith) (omega arith) here (behind_first state b bs n none))

-- a form that goes on while its characters pass a test
pub run_front : (state : ScanState) (b : ℕ) (bs : List ℕ) (form : Form) (test : ℕ → Bool)
    → ((cs : List ℕ) → form_of state (b ∷ cs) ≡ cond (list_all test cs) (Some form) None) → front_of state (b ∷ bs) ≡ cut_at form (b ∷ bs) (1 + prefix_len test bs)
run_front state b bs form test run =
    front_behind state b bs form (prefix_len test bs) (prefix_len-le-length test bs) (rw (run (take (prefix_len test bs) bs), take_run test bs) refl)
    (λ j above inside. rw (run (take j bs), past_run test bs j above inside) refl) (1 + prefix_len test bs) (omega arith)

one_alone : (state : ScanState) (b : ℕ) (bs : List ℕ) → ((c : ℕ) (cs : List ℕ) → form_of state (b ∷ c ∷ cs) ≡ None) → (j : ℕ) → 0 < j → j ≤ length bs → form_of state (b ∷ take j bs) ≡ None
one_alone state b bs none zero above inside = absurd (omega arith)
one_alone state b [] none (suc j) above inside = absurd (omega arith)
one_alone state b (c ∷ bs) none (suc j) above inside = none c (take j bs)

-- a form of one character
pub one_front : (state : ScanState) (b : ℕ) (bs : List ℕ) (form : Form) → form_of state (b ∷ []) ≡ Some form
    → ((c : ℕ) (cs : List ℕ) → form_of state (b ∷ c ∷ cs) ≡ None) → front_of state (b ∷ bs) ≡ cut_at form (b ∷ bs) 1
one_front state b bs form here none = front_behind state b bs form 0 (omega arith) here (one_alone state b bs none) 1 refl

one_before : (state : ScanState) (b c : ℕ) (bs : List ℕ) → ((cs : List ℕ) → form_of state (b ∷ c ∷ cs) ≡ None) → (j : ℕ) → 0 < j → j ≤ length (c ∷ bs) → form_of state (b ∷ take j (c ∷ bs)) ≡ None
one_before state b c bs none zero above inside = absurd (omega arith)
one_before state b c bs none (suc j) above inside = none (take j bs)

-- one character, where no longer form goes on with the second
pub first_front : (state : ScanState) (b c : ℕ) (bs : List ℕ) (form : Form) → form_of state (b ∷ []) ≡ Some form
    → ((cs : List ℕ) → form_of state (b ∷ c ∷ cs) ≡ None) → front_of state (b ∷ c ∷ bs) ≡ cut_at form (b ∷ c ∷ bs) 1
first_front state b c bs form here none = front_behind state b (c ∷ bs) form 0 (omega arith) here (one_before state b c bs none) 1 refl

two_alone : (state : ScanState) (b c : ℕ) (bs : List ℕ) → ((d : ℕ) (ds : List ℕ) → form_of state (b ∷ c ∷ d ∷ ds) ≡ None) → (j : ℕ) → 1 < j → j ≤ length (c ∷ bs) → form_of state (b ∷ take j (c ∷ bs)) ≡ None
two_alone state b c bs none zero above inside = absurd (omega arith)
two_alone state b c bs none (suc zero) above inside = absurd (omega arith)
two_alone state b c [] none (suc (suc j)) above inside = absurd (omega arith)
two_alone state b c (d ∷ bs) none (suc (suc j)) above inside = none d (take j bs)

-- a character with nothing after it
pub first_alone : (state : ScanState) (b : ℕ) (form : Form) → form_of state (b ∷ []) ≡ Some form → front_of state (b ∷ []) ≡ cut_at form (b ∷ []) 1
first_alone state b form here = front_behind state b [] form 0 (omega arith) here (λ j above inside. absurd (omega arith)) 1 refl

-- a form of two characters
pub two_front : (state : ScanState) (b c : ℕ) (bs : List ℕ) (form : Form) → form_of state (b ∷ c ∷ []) ≡ Some form
    → ((d : ℕ) (ds : List ℕ) → form_of state (b ∷ c ∷ d ∷ ds) ≡ None) → front_of state (b ∷ c ∷ bs) ≡ cut_at form (b ∷ c ∷ bs) 2
two_front state b c bs form here none = front_behind state b (c ∷ bs) form 1 (omega arith) here (two_alone state b c bs none) 2 refl

longest_none : (state : ScanState) (text : List ℕ) (k : ℕ) → ((m : ℕ) → 0 < m → m ≤ k → form_of state (take m text) ≡ None) → longest_within k state text ≡ None
longest_none state text zero none = refl
longest_none state text (suc k) none = rw (none (suc k) (omega arith) (omega arith)) (longest_none state text k (λ m above below. none m above (omega arith)))

first_none : (state : ScanState) (b : ℕ) (bs : List ℕ) → ((cs : List ℕ) → form_of state (b ∷ cs) ≡ None) → (m : ℕ) → 0 < m → form_of state (take m (b ∷ bs)) ≡ None
first_none state b bs none zero above = absurd (omega arith)
first_none state b bs none (suc j) above = none (take j bs)

-- a character that begins no form
pub no_front : (state : ScanState) (b : ℕ) (bs : List ℕ) → ((cs : List ℕ) → form_of state (b ∷ cs) ≡ None) → front_of state (b ∷ bs) ≡ fault_front E101
unfolding front_of
no_front state b bs none = rw (longest_none state (b ∷ bs) (length (b ∷ bs)) (λ m above below. first_none state b bs none m above)) refl
