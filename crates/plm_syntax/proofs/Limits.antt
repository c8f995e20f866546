-- Runs within a limit: what they take, what they make, and where they stop.
use Rattle.std.proofs.Common.{◌≡◌, ℕ, zero, suc, ◌≤◌, ◌<◌, List, [], ◌∷◌, ◌++◌, Bool, true, false, cond, Result, Ok, Err, refl, sym, ap, ◌∙◌, subst, arith, length}
use Rattle.plm_syntax.specs.Terminal.{Leaf}
use Rattle.plm_syntax.specs.Tree.{ModuleT}
use Rattle.plm_syntax.specs.Spelling.{module_leaves, put_leaf, leaves_of, levels_of}
use Rattle.plm_syntax.specs.WellFormed.{WellModule}
use Rattle.plm_syntax.specs.Inner.Symbol.{Value, Symbol, depth, ModuleR}
use Rattle.plm_syntax.specs.Inner.Machine.{again, more, Move, feed, Stop, Reading, run, start, Stay, Next, Open, Refusal, Deep}
use Rattle.std.proofs.Common.{◌+◌, take, drop, length-append}
use Rattle.std.specs.Prelude.{nat_lt}
use Rattle.std.proofs.lemmas.List.{append-nil, take-append-le, take-append-drop}
use Rattle.std.proofs.lemmas.Bool.{ltb-true, ltb-false, le-ltb}
use Rattle.plm_syntax.specs.Inner.Runs.{TakesModules}
use Rattle.plm_syntax.specs.Sentence.{Fits, Spells, AllWithin, BeginsWithin, IsFirstWrong, IsFirstDeep}
use Rattle.plm_syntax.proofs.Whole.{Path, module_path, next_is, open_is, fit_path, front_of, only_path, one_module, completed, Nothing_left, begun_by, levels_begun, begun_within, led, here, on, in_level}

-- what a run within a limit makes of a token
abbrev pub limited : ℕ → Move → List Leaf → Result Reading Stop
limited limit Stay ls = Err (Refusal (length ls))
limited limit (Next s v) ls = run limit s v ls
limited limit (Open s v) ls = cond (nat_lt limit (depth s)) (Err (Deep (length ls))) (run limit s v ls)

pub run_step : (limit : ℕ) (s : List Symbol) (v : List Value) (l : Leaf) (ls : List Leaf) → run limit s v (l ∷ ls) ≡ limited limit (feed s v l.terminal l.place) ls
run_step limit s v l ls = by_move (feed s v l.terminal l.place)
  where
    by_test : (b : Bool) (s' : List Symbol) (v' : List Value) → (elim b [ true ↦ Err (Deep (length ls)) | false ↦ run limit s' v' ls ]) ≡ cond b (Err (Deep (length ls))) (run limit s' v' ls)
    by_test true s' v' = refl
    by_test false s' v' = refl

    by_move : (m : Move) → (elim m [ Stay ↦ Err (Refusal (length ls)) | Next s' v' ↦ run limit s' v' ls | Open s' v' ↦ elim (nat_lt limit (depth s')) [ true ↦ Err (Deep (length ls)) | false ↦ run limit s' v' ls ] ]) ≡ limited limit m ls
    by_move Stay = refl
    by_move (Next s' v') = refl
    by_move (Open s' v') = by_test (nat_lt limit (depth s')) s' v'

-- ---- a run that ends well

pub record Ran (limit : ℕ) (s : List Symbol) (v : List Value) (ls : List Leaf) (t : List Symbol) (w : List Value) : Type 0 where
  pub levels : List ℕ
  pub path : Path s v ls levels t w
  pub within : AllWithin limit levels

abbrev pub reading : List Symbol → List Value → Result Reading Stop
reading s v = Ok (record { awaited = s; read = v })

abbrev pub stack_in : Result Reading Stop → List Symbol
stack_in (Ok x) = x.awaited
stack_in (Err e) = []

abbrev pub values_in : Result Reading Stop → List Value
values_in (Ok x) = x.read
values_in (Err e) = []

pub ran : (limit : ℕ) (ls : List Leaf) (s t : List Symbol) (v w : List Value) → run limit s v ls ≡ Ok (record { awaited = t; read = w }) → Ran limit s v ls t w
ran limit [] s t v w e =
    record { levels = []; path = subst (λ (x : List Symbol). Path s v [] [] x w) (ap stack_in e) (subst (λ (y : List Value). Path s v [] [] s y) (ap values_in e) here); within = tt }
ran limit (l ∷ ls) s t v w e = by_move (λ a x h. ran limit ls a t x w h) (feed s v l.terminal l.place) refl (sym (run_step limit s v l ls) ∙ e)
  where
    by_test : ((a : List Symbol) (x : List Value) → run limit a x ls ≡ Ok (record { awaited = t; read = w }) → Ran limit a x ls t w) → (b : Bool) (s' : List Symbol) (v' : List Value) → nat_lt limit (depth s') ≡ b → feed s v l.terminal l.place ≡ Open s' v' → cond b (Err (Deep (length ls))) (run limit s' v' ls) ≡ Ok (record { awaited = t; read = w }) → Ran limit s v (l ∷ ls) t w
    by_test again true s' v' e f h = absurd cc
    by_test again false s' v' e f h = let r = again s' v' h in record { levels = depth s' ∷ r.levels; path = in_level f r.path; within = (ltb-false limit (depth s') e, r.within) }

    by_move : ((a : List Symbol) (x : List Value) → run limit a x ls ≡ Ok (record { awaited = t; read = w }) → Ran limit a x ls t w) → (m : Move) → feed s v l.terminal l.place ≡ m → limited limit m ls ≡ Ok (record { awaited = t; read = w }) → Ran limit s v (l ∷ ls) t w
    by_move again Stay f h = absurd cc
    by_move again (Next s' v') f h = let r = again s' v' h in record { levels = 0 ∷ r.levels; path = on f r.path; within = (omega arith, r.within) }
    by_move again (Open s' v') f h = by_test again (nat_lt limit (depth s')) s' v' refl f h

pub runs : (limit : ℕ) (ls : List Leaf) (s t : List Symbol) (v w : List Value) (ns : List ℕ) → Path s v ls ns t w → AllWithin limit ns → run limit s v ls ≡ Ok (record { awaited = t; read = w })
runs limit [] s t v w ns here a = refl
runs limit (l ∷ ls) s t v w _ (on {s' = s'} {v' = v'} {ns = ns} h p) a = run_step limit s v l ls ∙ ap (λ (m : Move). limited limit m ls) h ∙ runs limit ls s' t v' w ns p a.1
runs limit (l ∷ ls) s t v w _ (in_level {s' = s'} {v' = v'} {ns = ns} h p) a = run_step limit s v l ls ∙ ap (λ (m : Move). limited limit m ls) h
    ∙ ap (λ (b : Bool). cond b (Err (Deep (length ls))) (run limit s' v' ls)) (le-ltb limit (depth s') a.0) ∙ runs limit ls s' t v' w ns p a.1

-- ---- a run that stops

pub data Why (limit : ℕ) (s : List Symbol) (v : List Value) (l : Leaf) (ls : List Leaf) : Stop → Type 0 where
  refused_there : feed s v l.terminal l.place ≡ Stay → Why limit s v l ls (Refusal (length ls))
  deep_there : (s' : List Symbol) (v' : List Value) → feed s v l.terminal l.place ≡ Open s' v' → limit < depth s' → Why limit s v l ls (Deep (length ls))

pub record Stops_at (limit : ℕ) (s : List Symbol) (v : List Value) (ts : List Leaf) (stop : Stop) : Type 0 where
  pub front : List Leaf
  pub token : Leaf
  pub back : List Leaf
  pub stack : List Symbol
  pub seen : List Value
  pub levels : List ℕ
  pub parts : ts ≡ front ++ (token ∷ back)
  pub path : Path s v front levels stack seen
  pub within : AllWithin limit levels
  pub why : Why limit stack seen token back stop

pub stopped : (limit : ℕ) (ts : List Leaf) (s : List Symbol) (v : List Value) (stop : Stop) → run limit s v ts ≡ Err stop → Stops_at limit s v ts stop
stopped limit [] s v stop e = absurd cc
stopped limit (l ∷ ls) s v stop e = by_move (λ a x h. stopped limit ls a x stop h) (feed s v l.terminal l.place) refl (sym (run_step limit s v l ls) ∙ e)
  where
    by_test : ((a : List Symbol) (x : List Value) → run limit a x ls ≡ Err stop → Stops_at limit a x ls stop) → (b : Bool) (s' : List Symbol) (v' : List Value) → nat_lt limit (depth s') ≡ b → feed s v l.terminal l.place ≡ Open s' v' → cond b (Err (Deep (length ls))) (run limit s' v' ls) ≡ Err stop → Stops_at limit s v (l ∷ ls) stop
    by_test again true s' v' e f h = let is : Deep (length ls) ≡ stop = cc in record { front = []; token = l; back = ls; stack = s; seen = v; levels = []; parts = refl; path = here; within = tt; why = subst (Why limit s v l ls) is (deep_there s' v' f (ltb-true limit (depth s') e)) }
    by_test again false s' v' e f h = let r = again s' v' h in
        record { front = l ∷ r.front; token = r.token; back = r.back; stack = r.stack; seen = r.seen; levels = depth s' ∷ r.levels; parts = ap (λ (x : List Leaf). l ∷ x) r.parts; path = in_level f r.path; within = (ltb-false limit (depth s') e, r.within); why = r.why }

    by_move : ((a : List Symbol) (x : List Value) → run limit a x ls ≡ Err stop → Stops_at limit a x ls stop) → (m : Move) → feed s v l.terminal l.place ≡ m → limited limit m ls ≡ Err stop → Stops_at limit s v (l ∷ ls) stop
    by_move again Stay f h = let is : Refusal (length ls) ≡ stop = cc in record { front = []; token = l; back = ls; stack = s; seen = v; levels = []; parts = refl; path = here; within = tt; why = subst (Why limit s v l ls) is (refused_there f) }
    by_move again (Next s' v') f h = let r = again s' v' h in
        record { front = l ∷ r.front; token = r.token; back = r.back; stack = r.stack; seen = r.seen; levels = 0 ∷ r.levels; parts = ap (λ (x : List Leaf). l ∷ x) r.parts; path = on f r.path; within = (omega arith, r.within); why = r.why }
    by_move again (Open s' v') f h = by_test again (nat_lt limit (depth s')) s' v' refl f h

-- ---- the first wrong token

pub take_front : (front : List Leaf) (t : Leaf) (back : List Leaf) → take (suc (length front)) (front ++ (t ∷ back)) ≡ front ++ t ∷ []
take_front [] t back = refl
take_front (a ∷ front) t back = ap (λ (x : List Leaf). a ∷ x) (take_front front t back)

pub within_take : (limit n : ℕ) (ns : List ℕ) → AllWithin limit ns → AllWithin limit (take n ns)
within_take limit zero ns h = tt
within_take limit (suc n) [] h = tt
within_take limit (suc n) (k ∷ ns) h = (h.0, within_take limit n ns h.1)

-- each beginning of what was read begins a module
pub least_of : (limit : ℕ) (front more : List Leaf) (s : List Symbol) (v : List Value) (ns : List ℕ) → Path start [] front ns s v → AllWithin limit ns → (j : ℕ) → suc j ≤ length front → BeginsWithin limit (take (suc j) (front ++ more))
least_of limit front more s v ns p w j lt =
    let q = subst (λ (x : List Leaf). Path start [] x ns s v) (sym (take-append-drop (suc j) front)) p in
    let f = front_of (take (suc j) front) (drop (suc j) front) start s [] v ns q in
    subst (BeginsWithin limit) (sym (take-append-le (suc j) front more lt))
    (begun_within limit (take (suc j) front) f.stack f.seen (take (length (take (suc j) front)) ns) f.to (within_take limit (length (take (suc j) front)) ns w))

pub one_more : (front : List Leaf) (l : Leaf) (s t : List Symbol) (v w : List Value) (ns : List ℕ) (t' : List Symbol) (w' : List Value) → Path s v front ns t w → feed t w l.terminal l.place ≡ Open t' w' → Path s v (front ++ l ∷ []) (ns ++ depth t' ∷ []) t' w'
one_more [] l s t v w ns t' w' here h = in_level h here
one_more (k ∷ front) l s t v w _ t' w' (on {s' = s'} {v' = v'} {ns = ns} f p) h = on f (one_more front l s' t v' w ns t' w' p h)
one_more (k ∷ front) l s t v w _ t' w' (in_level {s' = s'} {v' = v'} {ns = ns} f p) h = in_level f (one_more front l s' t v' w ns t' w' p h)

-- no path goes over a token that is refused
pub no_path : (front : List Leaf) (l : Leaf) (s : List Symbol) (v : List Value) (ns ms : List ℕ) (t : List Symbol) (w : List Value) → Path start [] front ns s v → feed s v l.terminal l.place ≡ Stay → Path start [] (front ++ l ∷ []) ms t w → ⊥
no_path front l s v ns ms t w p h q =
    let f = front_of front (l ∷ []) start t [] w ms q in
    let r = only_path front start f.stack s [] f.seen v (take (length front) ms) ns f.to p in
    last f.stack f.seen (drop (length front) ms) (ap (λ (x : List Symbol). feed x f.seen l.terminal l.place) r.stacks ∙ ap (λ (x : List Value). feed s x l.terminal l.place) r.values ∙ h) f.then_on
  where
    last : (a : List Symbol) (x : List Value) (ks : List ℕ) → feed a x l.terminal l.place ≡ Stay → Path a x (l ∷ []) ks t w → ⊥
    last a x _ e (on h p) = next_is h e
    last a x _ e (in_level h p) = open_is h e

pub all_of_last : (limit n : ℕ) (ns : List ℕ) → AllWithin limit (ns ++ n ∷ []) → n ≤ limit
all_of_last limit n [] h = h.0
all_of_last limit n (k ∷ ns) h = all_of_last limit n ns h.1

pub back_length : (limit : ℕ) (s : List Symbol) (v : List Value) (l : Leaf) (back : List Leaf) (n : ℕ) → Why limit s v l back (Refusal n) → length back ≡ n
back_length limit s v l back n w = by_why (Refusal n) w refl
  where
    by_why : (x : Stop) → Why limit s v l back x → x ≡ Refusal n → length back ≡ n
    by_why _ (refused_there h) e = cc
    by_why _ (deep_there s' v' h d) e = absurd cc

pub why_refused : (limit : ℕ) (s : List Symbol) (v : List Value) (l : Leaf) (back : List Leaf) (n : ℕ) → Why limit s v l back (Refusal n) → feed s v l.terminal l.place ≡ Stay
why_refused limit s v l back n w = by_why (Refusal n) w refl
  where
    by_why : (x : Stop) → Why limit s v l back x → x ≡ Refusal n → feed s v l.terminal l.place ≡ Stay
    by_why _ (refused_there h) e = h
    by_why _ (deep_there s' v' h d) e = absurd cc

-- The token that a run refuses is the first with which no module begins.
pub first_wrong : (limit : ℕ) (ts : List Leaf) (n k : ℕ) → run limit start [] ts ≡ Err (Refusal n) → k + suc n ≡ length ts → IsFirstWrong limit ts k
first_wrong limit ts n k h e =
    let s = stopped limit ts start [] (Refusal n) h in
    let len : length ts ≡ length s.front + suc (length s.back) = ap length s.parts ∙ length-append s.front (s.token ∷ s.back) in
    let count = back_length limit s.stack s.seen s.token s.back n s.why in
    let k-is : k ≡ length s.front = omega (arith, count, len, e) in
    record {
      there = omega (arith, count, len, e);
      wrong = λ b.
          let text : take (suc k) ts ≡ s.front ++ s.token ∷ [] = ap (λ (x : ℕ). take (suc x) ts) k-is ∙ ap (take (suc (length s.front))) s.parts ∙ take_front s.front s.token s.back in
          let l = led (take (suc k) ts) b in
          no_path s.front s.token s.stack s.seen s.levels (take (length (take (suc k) ts)) (levels_of b.tree)) l.stack l.seen s.path (why_refused limit s.stack s.seen s.token s.back n s.why)
          (subst (λ (x : List Leaf). Path start [] x (take (length (take (suc k) ts)) (levels_of b.tree)) l.stack l.seen) text l.path);
      least = λ j lt. subst (λ (x : List Leaf). BeginsWithin limit (take (suc j) x)) (sym s.parts) (least_of limit s.front (s.token ∷ s.back) s.stack s.seen s.levels s.path s.within j (omega (arith, lt, k-is)));
    }

-- The token at which a run is too deep opens the first level too deep.
pub record DeepThere (limit : ℕ) (s : List Symbol) (v : List Value) (l : Leaf) (n : ℕ) (back : List Leaf) : Type 0 where
  pub stack : List Symbol
  pub seen : List Value
  pub opens : feed s v l.terminal l.place ≡ Open stack seen
  pub beyond : limit < depth stack
  pub count : length back ≡ n

pub why_deep : (limit : ℕ) (s : List Symbol) (v : List Value) (l : Leaf) (back : List Leaf) (n : ℕ) → Why limit s v l back (Deep n) → DeepThere limit s v l n back
why_deep limit s v l back n w = by_why (Deep n) w refl
  where
    by_why : (x : Stop) → Why limit s v l back x → x ≡ Deep n → DeepThere limit s v l n back
    by_why _ (refused_there h) e = absurd cc
    by_why _ (deep_there s' v' h d) e = record { stack = s'; seen = v'; opens = h; beyond = d; count = cc }

pub first_deep : (limit : ℕ) (ts : List Leaf) (n k : ℕ) → run limit start [] ts ≡ Err (Deep n) → k + suc n ≡ length ts → IsFirstDeep limit ts k
first_deep limit ts n k h e =
    let s = stopped limit ts start [] (Deep n) h in
    let d = why_deep limit s.stack s.seen s.token s.back n s.why in
    let len : length ts ≡ length s.front + suc (length s.back) = ap length s.parts ∙ length-append s.front (s.token ∷ s.back) in
    let k-is : k ≡ length s.front = omega (arith, d.count, len, e) in
    let text : take (suc k) ts ≡ s.front ++ s.token ∷ [] = ap (λ (x : ℕ). take (suc x) ts) k-is ∙ ap (take (suc (length s.front))) s.parts ∙ take_front s.front s.token s.back in
    let p = one_more s.front s.token start s.stack [] s.seen s.levels d.stack d.seen s.path d.opens in
    let q = subst (λ (x : List Leaf). Path start [] x (s.levels ++ depth d.stack ∷ []) d.stack d.seen) (sym text) p in
    record {
      there = omega (arith, d.count, len, e);
      begins = begun_by (take (suc k) ts) d.stack d.seen (s.levels ++ depth d.stack ∷ []) q;
      deep = λ b. absurd (omega (arith, d.beyond, all_of_last limit (depth d.stack) s.levels (subst (AllWithin limit) (levels_begun (take (suc k) ts) d.stack d.seen (s.levels ++ depth d.stack ∷ []) q b.begun) b.within)));
      least = λ j lt. subst (λ (x : List Leaf). BeginsWithin limit (take (suc j) x)) (sym s.parts) (least_of limit s.front (s.token ∷ s.back) s.stack s.seen s.levels s.path s.within j (omega (arith, lt, k-is)));
    }

-- ---- what is taken, and what is made

-- A run takes the tokens that a well-formed module within the limit spells, and makes that module.
pub takes : (limit : ℕ) (m : ModuleT) (ts : List Leaf) → WellModule m → Spells m ts → AllWithin limit (levels_of m) → run limit start [] ts ≡ Ok (record { awaited = []; read = ModuleR m ∷ [] })
takes limit m ts w f a = runs limit ts start [] [] (ModuleR m ∷ []) (levels_of m) (fit_path ts (leaves_of m) start [] [] (ModuleR m ∷ []) (levels_of m) f (module_path m w)) a

pub record Made (limit : ℕ) (m : ModuleT) (ts : List Leaf) : Type 0 where
  pub well : WellModule m
  pub spells : Spells m ts
  pub within : AllWithin limit (levels_of m)

pub makes : (limit : ℕ) (m : ModuleT) (ts : List Leaf) → run limit start [] ts ≡ Ok (record { awaited = []; read = ModuleR m ∷ [] }) → Made limit m ts
makes limit m ts h =
    let r = ran limit ts start [] [] (ModuleR m ∷ []) h in
    let c = completed ts start [] [] (ModuleR m ∷ []) r.levels Nothing_left [] r.path refl in
    let k = c.stands.part in
    let spelled : c.front ≡ leaves_of k = sym (append-nil c.front) ∙ c.stands.is ∙ ap (module_leaves put_leaf 0 k) c.stands.goes in
    let fits : Spells k ts = subst (λ (x : List Leaf). Fits x ts) spelled c.fits in
    let o = only_path ts start [] [] [] (ModuleR k ∷ []) (ModuleR m ∷ []) (levels_of k) r.levels (fit_path ts (leaves_of k) start [] [] (ModuleR k ∷ []) (levels_of k) fits (module_path k c.stands.ok)) r.path in
    subst (λ (x : ModuleT). Made limit x ts) (one_module o.values) (record { well = c.stands.ok; spells = fits; within = subst (AllWithin limit) (sym o.levels) r.within })

pub takes_modules : TakesModules
takes_modules limit m ts = (λ h. let g = makes limit m ts h in (g.well, g.spells, g.within), λ h. takes limit m ts h.0 h.1 h.2)
