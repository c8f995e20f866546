-- Instructions one after another, which follow steps of an upper layer.
use Rattle.std.proofs.Common.{◌≡◌, ℕ, zero, suc, ◌+◌, ◌%◌, ◌<◌, ◌≤◌, inl, inr, Bool, true, false, List, [], ◌∷◌, ◌++◌, Option, refl, sym, ap, ◌∙◌, subst, arith, ⊎_elim}
use Rattle.std.specs.Prelude.{not, if◌then◌else◌}
use Rattle.word86.specs.Access.{Access, answers}
use Rattle.word86.specs.Action.{Action, Silent, Touch, Enable, Disable, Halt, Over, Bad, IsBad}
use Rattle.word86.specs.Following.{Offer, Does, Arms, Meets, Follows}
use Rattle.i86_table.specs.declared.instruction.Instr.{Instr}
use Rattle.i86_table.specs.declared.instruction.Instr.TheVariants as i
use Rattle.i86_table.specs.declared.instruction.Condition.{Condition}
use Rattle.i86_table.specs.Condition.{holds}
use Rattle.i86_table.specs.Inverse.{inverse, InverseHolds}
use Rattle.i86_table.specs.Arithmetic.{sign_extended}
use Rattle.i86_table.specs.Contexts.{Context, Own, Working, Given, further, offered, offered_at, offer}
use Rattle.select.specs.declared.part.Step.{Step}
use Rattle.select.specs.declared.part.Step.TheVariants.{Plain, Goto, GotoIf}
use Rattle.select.specs.Linked.{StandsAt, Stands}
use Rattle.select.specs.Rows.{plain}
use Rattle.select.proofs.Chains.{From}
use Rattle.select.proofs.Straight.{with_each}
use Rattle.select.proofs.Straight as straight

module _ (R : Type 0) (next : R → Action Access R) (code : ℕ → Option (Instr × ℕ)) (find : ℕ → ℕ → Option (ℕ × ℕ)) (words : ℕ → Option ℕ) (entry : ℕ → ℕ) (main handler limit : ℕ) (is_main : Bool) (offsets places : List ℕ) (given : Option Given) where
  abbrev pub Off : Context → Offer Access Context
  Off c = offer code find words entry main handler c

  abbrev pub Fl : ℕ → ℕ → R → Context → Type 0
  Fl n f r c = Follows Access answers R next Context (offer code find words entry main handler) limit 1 is_main n f r c

  abbrev pub Mt : (ℕ → R → Context → Type 0) → ℕ → ℕ → R → Offer Access Context → Type 0
  Mt P f j r o = Meets Access answers R next Context (offer code find words entry main handler) limit 1 is_main P f j r o

  abbrev pub Chain : (ℕ → ℕ) → ℕ → List Step → ℕ → Type 0
  Chain at p xs q = From code words offsets places at p xs q

  -- ---- single steps

  -- an instruction of its own
  pub alone : (n f : ℕ) (r : R) (c d : Context) → Off c ≡ Does (Silent d) → Fl n f r d → Fl (suc n) (suc f) r c
  alone n f r c d e h = (zero, r, refl, inr (subst (λ o. Mt (Fl n) (suc f) zero r o) (sym e) (f, omega arith, h)), omega arith)

  -- an instruction and a step of the upper layer, both silent
  pub joint : (n f : ℕ) (r q : R) (c d : Context) → next r ≡ Silent q → Off c ≡ Does (Silent d) → Fl n limit q d → Fl (suc n) f r c
  joint n f r q c d u e h = (1, q, (q, u, refl), inr (subst (λ o. Mt (Fl n) f 1 q o) (sym e) (limit, omega arith, h)), omega arith)

  -- both make the same access
  pub touch : (n f : ℕ) (a : Access) (r : R) (q : ℕ → R) (c : Context) (k : ℕ → Context) → next r ≡ Touch a q → Off c ≡ Does (Touch a k)
      → ((v : ℕ) → v < answers a → Fl n limit (q v) (k v)) → Fl (suc n) f r c
  touch n f a r q c k u e h = (zero, r, refl, inr (subst (λ o. Mt (Fl n) f zero r o) (sym e) (q, u, h)), omega arith)

  pub disable : (n f : ℕ) (r q : R) (c d : Context) → next r ≡ Disable q → Off c ≡ Does (Disable d) → Fl n limit q d → Fl (suc n) f r c
  disable n f r q c d u e h = (zero, r, refl, inr (subst (λ o. Mt (Fl n) f zero r o) (sym e) (q, u, h)), omega arith)

  -- the upper layer's next step is Bad
  pub spoilt : (n f : ℕ) (r : R) (c : Context) → IsBad (next r) → Fl n f r c
  spoilt zero f r c b = tt
  spoilt (suc n) f r c b = (zero, r, refl, inl b, omega arith)

  -- it makes a silent step and is Bad then
  pub soon_spoilt : (n f : ℕ) (r q : R) (c : Context) → next r ≡ Silent q → IsBad (next q) → Fl n f r c
  soon_spoilt zero f r q c u b = tt
  soon_spoilt (suc n) f r q c u b = (1, q, (q, u, refl), inl b, omega arith)

  looser_meets : (n f g j : ℕ) (r : R) (o : Offer Access Context) → f ≤ g → Mt (Fl n) f j r o → Mt (Fl n) g j r o
  looser_meets n f g zero r (Does (Silent c)) le h = (h.0, omega (arith, h.1, le), h.2)
  looser_meets n f g (suc j) r (Does (Silent c)) le h = h
  looser_meets n f g j r (Does (Touch a k)) le h = h
  looser_meets n f g j r (Does (Enable c)) le h = h
  looser_meets n f g j r (Does (Disable c)) le h = h
  looser_meets n f g j r (Does (Halt c)) le h = h
  looser_meets n f g j r (Does Over) le h =
      elim is_main as (λ b. Meets Access answers R next Context (offer code find words entry main handler) limit 1 b (Fl n) f j r (Does Over) → Meets Access answers R next Context (offer code find words entry main handler) limit 1 b (Fl n) g j r (Does Over)) [ true ↦ λ x. x | false ↦ λ x. x ] h
  looser_meets n f g j r (Does (Bad module_index line)) le h = h
  looser_meets n f g j r (Arms c) le h = arms is_main j h
    where
      Ms : Bool → ℕ → ℕ → Type 0
      Ms b f j = Meets Access answers R next Context (offer code find words entry main handler) limit 1 b (Fl n) f j r (Arms c)

      arms : (b : Bool) (j : ℕ) → Ms b f j → Ms b g j
      arms true zero x = (x.0, omega (arith, x.1, le), x.2)
      arms true (suc j) x = x
      arms false j x = absurd x

  pub looser : (n f g : ℕ) (r : R) (c : Context) → f ≤ g → Fl n f r c → Fl n g r c
  looser zero f g r c le h = tt
  looser (suc n) f g r c le h = (h.0, h.1, h.2, ⊎_elim (λ b. inl b) (λ m. inr (looser_meets n f g h.0 h.1 (Off c) le m)) h.3, h.4)

  -- ---- instructions at their places

  -- what is offered where an instruction stands
  pub stands : (p q : ℕ) (n : Instr) (g : Working) (st : List ℕ) (a : Bool) → StandsAt code p n q → q < 65536
      → Off (Own p g st a given) ≡ offered find words main handler n q g st a given
  stands p q n g st a h low =
      let small : (p + h.0) % 65536 ≡ q = omega (arith, low, h.2) in
      ap (λ x. offered_at code find words entry main handler x p g st a given) h.1 ∙ ap (λ z. offered find words main handler n z g st a given) small

  abbrev pub Straight : List Instr → Working → List ℕ → Working → List ℕ → Type 0
  Straight ns g st h st2 = straight.Straight find words main handler given ns g st h st2

  module _ (at : ℕ → ℕ) where
    pub runs : (ns : List Instr) (n f p q : ℕ) (r : R) (g : Working) (st : List ℕ) (h : Working) (st2 : List ℕ)
        → Straight ns g st h st2 → Chain at p (plain ns) q
        → ((m : ℕ) → m ≤ n → Fl m f r (Own q h st2 false given)) → Fl n (with_each ns f) r (Own p g st false given)
    runs [] n f p q r g st h st2 s c go =
        subst (λ z. Fl n f r (Own z g st false given)) (sym c) (subst (λ z. Fl n f r (Own q z st false given)) (sym s.0) (subst (λ z. Fl n f r (Own q h z false given)) (sym s.1) (go n (omega arith))))
    runs (x ∷ ns) zero f p q r g st h st2 s c go = tt
    runs (x ∷ ns) (suc n) f p q r g st h st2 s c go =
        alone n (with_each ns f) r (Own p g st false given) (Own c.0 s.0 s.1 false given) (stands p c.0 x g st false c.1 c.2 ∙ s.2 c.0)
        (runs ns n f c.0 q r s.0 s.1 h st2 s.3 c.3 (λ m le. go m (omega (arith, le))))

    -- silent instructions, of which the first comes with a silent step
    pub steps : (x : Instr) (ns : List Instr) (n f k p q : ℕ) (r r2 : R) (g : Working) (st : List ℕ) (h : Working) (st2 : List ℕ)
        → next r ≡ Silent r2 → Straight (x ∷ ns) g st h st2 → Chain at p (plain (x ∷ ns)) q → with_each ns k ≤ limit
        → ((m : ℕ) → m < n → Fl m k r2 (Own q h st2 false given)) → Fl n f r (Own p g st false given)
    steps x ns zero f k p q r r2 g st h st2 u s c le go = tt
    steps x ns (suc n) f k p q r r2 g st h st2 u s c le go =
        joint n f r r2 (Own p g st false given) (Own c.0 s.0 s.1 false given) u (stands p c.0 x g st false c.1 c.2 ∙ s.2 c.0)
        (looser n (with_each ns k) limit r2 (Own c.0 s.0 s.1 false given) le (runs ns n k c.0 q r2 s.0 s.1 h st2 s.3 c.3 (λ m less. go m (omega (arith, less)))))

    -- what comes after instructions that only run
    pub parted : (ns : List Instr) (xs : List Step) (p q : ℕ) → Chain at p (plain ns ++ xs) q → (m : ℕ) × Chain at p (plain ns) m × Chain at m xs q
    parted [] xs p q h = (p, refl, h)
    parted (n ∷ ns) xs p q h = let t = parted ns xs h.0 q h.3 in (t.0, (h.0, h.1, h.2, t.1), t.2)

    -- an access, with instructions before it
    pub touches : (before : List Instr) (y : Instr) (xs : List Step) (n f p q : ℕ) (r : R) (a : Access) (u : ℕ → R) (g : Working) (st : List ℕ) (g1 : Working) (st1 : List ℕ) (after : ℕ → Working)
        → next r ≡ Touch a u → Straight before g st g1 st1
        → ((z : ℕ) → offered find words main handler y z g1 st1 false given ≡ Does (Touch a (λ v. Own z (after v) st1 false given)))
        → Chain at p (plain before ++ Plain y ∷ xs) q → with_each before 0 ≤ f
        → ((z : ℕ) → Chain at z xs q → (v : ℕ) → v < answers a → (m : ℕ) → m < n → Fl m limit (u v) (Own z (after v) st1 false given))
        → Fl n f r (Own p g st false given)
    touches before y xs n f p q r a u g st g1 st1 after e s off c le go =
        let t = parted before (Plain y ∷ xs) p q c in
        looser n (with_each before 0) f r (Own p g st false given) le
        (runs before n 0 p t.0 r g st g1 st1 s t.1 (λ m le. access m t.0 le t.2))
      where
        access : (m p : ℕ) → m ≤ n → Chain at p (Plain y ∷ xs) q → Fl m 0 r (Own p g1 st1 false given)
        access zero p le c = tt
        access (suc m) p le c =
            touch m 0 a r u (Own p g1 st1 false given) (λ v. Own c.0 (after v) st1 false given) e (stands p c.0 y g1 st1 false c.1 c.2 ∙ off c.0)
            (λ v lt. go c.0 c.3 v lt m (omega (arith, le)))

  -- ---- jumps

  pub goes : (n f p q t target : ℕ) (r r2 : R) (g : Working) (st : List ℕ) → next r ≡ Silent r2 → Stands code words offsets places p q t (Goto target) → q < 65536
      → Fl n limit r2 (Own t g st false given) → Fl (suc n) f r (Own p g st false given)
  goes n f p q t target r r2 g st u (inl x) low go = joint n f r r2 (Own p g st false given) (Own t g st false given) u (stands p q (i.JumpShort x.0) g st false x.1 low ∙ ap (λ z. Does (Silent (Own z g st false given))) x.2) go
  goes n f p q t target r r2 g st u (inr x) low go = joint n f r r2 (Own p g st false given) (Own t g st false given) u (stands p q (i.Jump x.0) g st false x.1 low ∙ ap (λ z. Does (Silent (Own z g st false given))) x.2) go

  -- a conditional jump, one or two instructions of its own
  pub goes_if : InverseHolds → (c : Condition) (b : Bool) (n f p q t target : ℕ) (r : R) (g : Working) (st : List ℕ) → holds c g.flags ≡ b → Stands code words offsets places p q t (GotoIf c target) → q < 65536
      → ((m : ℕ) → m ≤ n → Fl m f r (Own (if b then t else q) g st false given)) → Fl n (suc (suc f)) r (Own p g st false given)
  goes_if inverse_holds c b zero f p q t target r g st e h low go = tt
  goes_if inverse_holds c true (suc n) f p q t target r g st e (inl x) low go =
      looser (suc n) (suc f) (suc (suc f)) r (Own p g st false given) (omega arith)
      (alone n f r (Own p g st false given) (Own t g st false given)
      (stands p q (i.JumpIf c x.0) g st false x.1 low ∙ ap (λ (z : Bool). Does (Silent (Own (if z then further q (sign_extended x.0) else q) g st false given))) e ∙ ap (λ z. Does (Silent (Own z g st false given))) x.2) (go n (omega arith)))
  goes_if inverse_holds c false (suc n) f p q t target r g st e (inl x) low go =
      looser (suc n) (suc f) (suc (suc f)) r (Own p g st false given) (omega arith)
      (alone n f r (Own p g st false given) (Own q g st false given)
      (stands p q (i.JumpIf c x.0) g st false x.1 low ∙ ap (λ (z : Bool). Does (Silent (Own (if z then further q (sign_extended x.0) else q) g st false given))) e) (go n (omega arith)))
  goes_if inverse_holds c true (suc n) f p q t target r g st e (inr x) low go =
      let near : x.1 < 65536 = middle_low x.3 in
      alone n (suc f) r (Own p g st false given) (Own x.1 g st false given)
      (stands p x.1 (i.JumpIf (inverse c) 3) g st false x.2 near ∙ ap (λ (z : Bool). Does (Silent (Own (if z then further x.1 (sign_extended 3) else x.1) g st false given))) (inverse_holds c g.flags ∙ ap not e))
      (over n (λ m le. go m (omega (arith, le))))
    where
      middle_low : StandsAt code x.1 (i.Jump x.0) q → x.1 < 65536
      middle_low s = omega (arith, s.2, low)

      over : (n : ℕ) → ((m : ℕ) → m ≤ n → Fl m f r (Own t g st false given)) → Fl n (suc f) r (Own x.1 g st false given)
      over zero go = tt
      over (suc m) go =
          alone m f r (Own x.1 g st false given) (Own t g st false given) (stands x.1 q (i.Jump x.0) g st false x.3 low ∙ ap (λ z. Does (Silent (Own z g st false given))) x.5) (go m (omega arith))
  goes_if inverse_holds c false (suc n) f p q t target r g st e (inr x) low go =
      let near : x.1 < 65536 = omega (arith, x.3.2, low) in
      looser (suc n) (suc f) (suc (suc f)) r (Own p g st false given) (omega arith)
      (alone n f r (Own p g st false given) (Own q g st false given)
      (stands p x.1 (i.JumpIf (inverse c) 3) g st false x.2 near ∙ ap (λ (z : Bool). Does (Silent (Own (if z then further x.1 (sign_extended 3) else x.1) g st false given))) (inverse_holds c g.flags ∙ ap not e) ∙ ap (λ z. Does (Silent (Own z g st false given))) x.4) (go n (omega arith)))
