-- A DO CASE in the language, in the intermediate code and in instructions.
use Rattle.std.proofs.lemmas.Option.{same_Some}
use Rattle.std.proofs.Common.{◌≡◌, ℕ, zero, suc, ◌+◌, ◌<◌, ◌≤◌, ◌⊎◌, ⊎_elim, inl, inr, List, [], ◌∷◌, ◌++◌, length, Option, Some, None, refl, sym, ap, ◌∙◌, subst, arith, slice_get, length-append}
use Rattle.plm_type.specs.Rest.{Value, Statement, Case, Statements, End, Then, Returned, Procedure}
use Rattle.i86_table.specs.Contexts.{Context, Working}
use Rattle.icode.specs.declared.instruction.Instruction.{Instruction}
use Rattle.icode.specs.declared.instruction.Instruction.TheVariants as op
use Rattle.icode.specs.declared.code.Routine.{Routine}
use Rattle.lower.specs.Statements.{all_of, entries, switching, statement_code, cases_code}
use Rattle.select.specs.Promise.{Image, IsSelected}
use Rattle.select.specs.Cases.{SilentlyComes, LeadsSoon, CasesComeSoon}
use Rattle.plm86.specs.Cases.{chosen, cases_after, number_of, StandFrom, behind_case, SilentlyBecomes, IsReachedSoon, IsPassedSoon, CasesAreReachedSoon}

-- ---- options

abbrev IsStatement : Option Statement → Type 0
IsStatement None = ⊥
IsStatement (Some s) = Unit {0}

abbrev IsList : Option (List Instruction) → Type 0
IsList None = ⊥
IsList (Some c) = Unit {0}

abbrev distance_of : Option Instruction → ℕ
distance_of (Some (op.Case d)) = d
distance_of _ = 0

-- ---- lists

get_front : {X : Type 0} → (a b : List X) (i : ℕ) → i < length a → slice_get (a ++ b) i ≡ slice_get a i
get_front [] b i lt = absurd (omega (arith, lt))
get_front (x ∷ a) b zero lt = refl
get_front (x ∷ a) b (suc i) lt = get_front a b i (omega (arith, lt))

get_back : {X : Type 0} → (a b : List X) (i j : ℕ) → j ≡ length a + i → slice_get (a ++ b) j ≡ slice_get b i
get_back [] b i j e = ap (slice_get b) (omega (arith, e))
get_back (x ∷ a) b i zero e = absurd (omega (arith, e))
get_back (x ∷ a) b i (suc j) e = get_back a b i j (omega (arith, e))

-- ---- the language

module _ (offsets sizes : List ℕ) (procedures : List Procedure) (later : Statements) where
  comes_to_case : (v : ℕ) (cases : Statements) (s : Statement) → chosen v cases ≡ Some s → SilentlyBecomes offsets sizes procedures (Then (Case (Value v) cases) later) (Then s later)
  comes_to_case v End s e = absurd (subst IsStatement (sym e) tt)
  comes_to_case v (Returned x) s e = absurd (subst IsStatement (sym e) tt)
  comes_to_case zero (Then t cases) s e = (1, (Then t later, refl, ap (λ (y : Statement). Then y later) (same_Some t s e)))
  comes_to_case (suc v) (Then t cases) s e = let r = comes_to_case v cases s e in (suc r.0, (Then (Case (Value v) cases) later, refl, r.1))

  comes_past : (v : ℕ) (cases : Statements) → chosen v cases ≡ None → SilentlyBecomes offsets sizes procedures (Then (Case (Value v) cases) later) later
  comes_past v End e = (1, (later, refl, refl))
  comes_past v (Returned x) e = (1, (later, refl, refl))
  comes_past zero (Then t cases) e = absurd (subst IsStatement e tt)
  comes_past (suc v) (Then t cases) e = let r = comes_past v cases e in (suc r.0, (Then (Case (Value v) cases) later, refl, r.1))

chosen_below : (v : ℕ) (cases : Statements) (s : Statement) → chosen v cases ≡ Some s → v < number_of cases
chosen_below v End s e = absurd (subst IsStatement (sym e) tt)
chosen_below v (Returned x) s e = absurd (subst IsStatement (sym e) tt)
chosen_below zero (Then t cases) s e = omega arith
chosen_below (suc v) (Then t cases) s e = omega (arith, chosen_below v cases s e)

none_below : (v : ℕ) (cases : Statements) → chosen v cases ≡ None → number_of cases ≤ v
none_below v End e = omega arith
none_below v (Returned x) e = omega arith
none_below zero (Then t cases) e = absurd (subst IsStatement e tt)
none_below (suc v) (Then t cases) e = omega (arith, none_below v cases e)

-- ---- the intermediate code

-- how long the cases before one are
abbrev before_case : ℕ → List (List Instruction) → ℕ
before_case v [] = 0
before_case zero (c ∷ cs) = 0
before_case (suc v) (c ∷ cs) = length c + before_case v cs

entries_length : (before : ℕ) (cs : List (List Instruction)) → length (entries before cs) ≡ length cs
entries_length before [] = refl
entries_length before (c ∷ cs) = ap suc (entries_length (before + length c) cs)

entry_at : (before : ℕ) (cs : List (List Instruction)) (rest : List Instruction) (v : ℕ) → v < length cs
    → (d : ℕ) × (slice_get (entries before cs ++ rest) v ≡ Some (op.Case d)) × (v + 1 + d ≡ length cs + 1 + before + before_case v cs)
entry_at before [] rest v lt = absurd (omega (arith, lt))
entry_at before (c ∷ cs) rest zero lt = (length cs + 1 + before, refl, omega arith)
entry_at before (c ∷ cs) rest (suc v) lt = let r = entry_at (before + length c) cs rest v (omega (arith, lt)) in (r.0, r.1, omega (arith, r.2))

case_fits : (cs : List (List Instruction)) (v : ℕ) (c : List Instruction) → slice_get cs v ≡ Some c → before_case v cs + length c ≤ length (all_of cs)
case_fits [] v c e = absurd (subst IsList (sym e) tt)
case_fits (b ∷ cs) zero c e = let l = ap length (same_Some b c e) in omega (arith, l, length-append b (all_of cs))
case_fits (b ∷ cs) (suc v) c e = omega (arith, case_fits cs v c e, length-append b (all_of cs))

case_at : (cs : List (List Instruction)) (v : ℕ) (c : List Instruction) → slice_get cs v ≡ Some c → (i : ℕ) → i < length c → slice_get (all_of cs) (before_case v cs + i) ≡ slice_get c i
case_at [] v c e i lt = absurd (subst IsList (sym e) tt)
case_at (b ∷ cs) zero c e i lt =
    let s = same_Some b c e in
    let l = ap length s in
    ap (slice_get (b ++ all_of cs)) (omega arith) ∙ get_front b (all_of cs) i (omega (arith, lt, l)) ∙ ap (λ z. slice_get z i) s
case_at (b ∷ cs) (suc v) c e i lt = get_back b (all_of cs) (before_case v cs + i) (length b + before_case v cs + i) (omega arith) ∙ case_at cs v c e i lt

-- the code of a case, by where its statement ends, with the jump at its end
abbrev with_jump : (behind : ℕ) → (ℕ → List Instruction) → List Instruction
with_jump behind code = code (1 + behind) ++ op.Ahead behind ∷ []

module _ (procedures : List Procedure) (around : _) where
  number_is : (exit : ℕ) (cases : Statements) → length (cases_code procedures around exit cases) ≡ number_of cases
  number_is exit End = refl
  number_is exit (Returned x) = refl
  number_is exit (Then s cases) = ap suc (number_is exit cases)

  code_is : (exit v : ℕ) (cases : Statements) (s : Statement) → chosen v cases ≡ Some s
      → slice_get (cases_code procedures around exit cases) v ≡ Some (with_jump (behind_case exit (cases_code procedures around exit (cases_after v cases))) (λ e. statement_code procedures around e s))
  code_is exit v End s h = absurd (subst IsStatement (sym h) tt)
  code_is exit v (Returned x) s h = absurd (subst IsStatement (sym h) tt)
  code_is exit zero (Then t cases) s h =
      ap (λ (y : Statement). Some (with_jump (behind_case exit (cases_code procedures around exit cases)) (λ e. statement_code procedures around e y))) (same_Some t s h)
  code_is exit (suc v) (Then t cases) s h = code_is exit v cases s h

-- what stands in a table and behind it
in_cases : (all : List Instruction) (k exit : ℕ) (cs : List (List Instruction)) → StandFrom all k (switching cs exit) → (j : ℕ) → j < length (all_of cs) → slice_get all (k + (1 + (length cs + (1 + j)))) ≡ slice_get (all_of cs) j
in_cases all k exit cs h j lt =
    let tail = op.Ahead (length (all_of cs) + exit) ∷ all_of cs in
    let size = length-append (entries 0 cs) tail in
    let n = entries_length 0 cs in
    let i = length cs + suc j in
    let e : k + (1 + (length cs + (1 + j))) ≡ k + suc i = omega arith in
    ap (slice_get all) e ∙ h (suc i) (omega (arith, lt, size, n)) ∙ get_back (entries 0 cs) tail (suc j) i (omega (arith, n))

-- ---- instructions

more : (x : Image) (n : ℕ) (c d : Context) → SilentlyComes x n c d → SilentlyComes x (suc n) c d
more x zero c d e = inl e
more x (suc n) c d h = ⊎_elim (λ e. inl e) (λ t. inr (t.0, t.1, more x n t.0 d t.2)) h

one_more : (x : Image) (n : ℕ) (r : Routine) (k target : ℕ) (g : Working) → LeadsSoon x n r k target g → LeadsSoon x (suc n) r k target g
one_more x n r k target g l = record { code = l.code; registers = l.registers; changes = l.changes; instructions = λ st b given. more x n _ _ (l.instructions st b given) }

module _ (law : CasesComeSoon) (x : Image) (all : IsSelected x) (procedures : List Procedure) (around : _) (exit : ℕ) (cases later : Statements) (r : Routine) (k : ℕ)
    (h : StandFrom (x.icode r) k (switching (cases_code procedures around exit cases) exit)) (g : Working) (small : g.ax < 65536) where
  abbrev cs : List (List Instruction)
  cs = cases_code procedures around exit cases

  size : length (switching cs exit) ≡ 1 + (length cs + (1 + length (all_of cs)))
  size =
      let tail = op.Ahead (length (all_of cs) + exit) ∷ all_of cs in
      let both = length-append (entries 0 cs) tail in
      let n = entries_length 0 cs in
      omega (arith, both, n)

  table_at : slice_get (x.icode r) k ≡ Some (op.Switch (length cs))
  table_at = let e : k ≡ k + 0 = omega arith in ap (slice_get (x.icode r)) e ∙ h 0 (omega (arith, size))

  -- the entry of a case
  entry_is : (lt : g.ax < length cs) → slice_get (x.icode r) (k + 1 + g.ax) ≡ Some (op.Case (entry_at 0 cs (op.Ahead (length (all_of cs) + exit) ∷ all_of cs) g.ax lt).0)
  entry_is lt =
      let e : k + 1 + g.ax ≡ k + suc g.ax = omega arith in
      ap (slice_get (x.icode r)) e ∙ h (suc g.ax) (omega (arith, size, lt)) ∙ (entry_at 0 cs (op.Ahead (length (all_of cs) + exit) ∷ all_of cs) g.ax lt).1

  reached : (s : Statement) → chosen g.ax cases ≡ Some s → IsReachedSoon x.offsets x.sizes procedures x around exit r k g cases later s
  reached s is =
      let below = chosen_below g.ax cases s is in
      let number = number_is procedures around exit cases in
      let lt : g.ax < length cs = omega (arith, below, number) in
      let here = entry_at 0 cs (op.Ahead (length (all_of cs) + exit) ∷ all_of cs) g.ax lt in
      let leads = (law x all r k (length cs) table_at g small).0 lt in
      let same = ap distance_of (sym leads.1 ∙ entry_is lt) in
      let far = here.2 in
      let case = code_is procedures around exit g.ax cases s is in
      let c = with_jump (behind_case exit (cases_code procedures around exit (cases_after g.ax cases))) (λ e. statement_code procedures around e s) in
      let fits = case_fits cs g.ax c case in
      let place = k + 1 + g.ax + 1 + leads.0 in
      record {
        meant = comes_to_case x.offsets x.sizes procedures later g.ax cases s is;
        place = place;
        stands = λ i less.
            let j = before_case g.ax cs + i in
            let e : place + i ≡ k + (1 + (length cs + (1 + j))) = omega (arith, same, far) in
            ap (slice_get (x.icode r)) e ∙ in_cases (x.icode r) k exit cs h j (omega (arith, fits, less)) ∙ case_at cs g.ax c case i less;
        turns = one_more x 7 r k place g (one_more x 6 r k place g (one_more x 5 r k place g leads.2));
      }

  passed : chosen g.ax cases ≡ None → IsPassedSoon x.offsets x.sizes procedures x r k g cases later
  passed is =
      let below = none_below g.ax cases is in
      let number = number_is procedures around exit cases in
      let le : length cs ≤ g.ax = omega (arith, below, number) in
      let leads = (law x all r k (length cs) table_at g small).1 le in
      let same : k + 1 + length cs ≡ k + 1 + number_of cases = omega (arith, number) in
      let turns = one_more x 7 r k _ g (one_more x 6 r k _ g (one_more x 5 r k _ g (one_more x 4 r k _ g (one_more x 3 r k _ g leads)))) in
      record {
        meant = comes_past x.offsets x.sizes procedures later g.ax cases is;
        turns = subst (λ n. LeadsSoon x 8 r k n g) same turns;
      }

pub cases_reached : CasesComeSoon → CasesAreReachedSoon
cases_reached law x all procedures around exit cases later r k h g small =
    (reached law x all procedures around exit cases later r k h g small, passed law x all procedures around exit cases later r k h g small)
