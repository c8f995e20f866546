-- Which registers stay as they were.
use Rattle.std.proofs.Common.{◌≡◌, ℕ, Bool, true, false, refl, ap, ◌∙◌, subst}
use Rattle.std.specs.Prelude.{◌||◌}
use Rattle.i86_table.specs.Contexts.{Working}
use Rattle.icode.specs.declared.registers.Registers.{Registers}
use Rattle.icode.specs.Registers.{joined}

abbrev pub Same : (changed : Bool) → (before after : ℕ) → Type 0
Same true x y = Unit {0}
Same false x y = y ≡ x

pub same_refl : (b : Bool) (x : ℕ) → Same b x x
same_refl true x = tt
same_refl false x = refl

pub same_then : (b : Bool) (x y z : ℕ) → Same b x y → Same b y z → Same b x z
same_then true x y z p q = tt
same_then false x y z p q = q ∙ p

pub same_wider : (b c : Bool) (x y : ℕ) → (b || c) ≡ b → Same c x y → Same b x y
same_wider true c x y e s = tt
same_wider false c x y e s = subst (λ (z : Bool). Same z x y) e s

-- none but these registers, and the flags, may change
abbrev pub OnlyChanges : Registers → Working → Working → Type 0
OnlyChanges s g h = Same s.accumulator g.ax h.ax × Same s.right g.cx h.cx × Same s.high g.dx h.dx × Same s.address g.bx h.bx × Same s.frame g.bp h.bp × (h.si ≡ g.si) × (h.di ≡ g.di)

pub stays : (s : Registers) (g : Working) → OnlyChanges s g g
stays s g = (same_refl s.accumulator g.ax, same_refl s.right g.cx, same_refl s.high g.dx, same_refl s.address g.bx, same_refl s.frame g.bp, refl, refl)

pub changes_then : (s : Registers) (g h k : Working) → OnlyChanges s g h → OnlyChanges s h k → OnlyChanges s g k
changes_then s g h k a b = (
  same_then s.accumulator g.ax h.ax k.ax a.0 b.0,
  same_then s.right g.cx h.cx k.cx a.1 b.1,
  same_then s.high g.dx h.dx k.dx a.2 b.2,
  same_then s.address g.bx h.bx k.bx a.3 b.3,
  same_then s.frame g.bp h.bp k.bp a.4 b.4,
  b.5 ∙ a.5,
  b.6 ∙ a.6,
)

pub changes_wider : (s t : Registers) (g h : Working) → joined s t ≡ s → OnlyChanges t g h → OnlyChanges s g h
changes_wider s t g h e a = (
  same_wider s.accumulator t.accumulator g.ax h.ax (ap (λ (z : Registers). z.accumulator) e) a.0,
  same_wider s.right t.right g.cx h.cx (ap (λ (z : Registers). z.right) e) a.1,
  same_wider s.high t.high g.dx h.dx (ap (λ (z : Registers). z.high) e) a.2,
  same_wider s.address t.address g.bx h.bx (ap (λ (z : Registers). z.address) e) a.3,
  same_wider s.frame t.frame g.bp h.bp (ap (λ (z : Registers). z.frame) e) a.4,
  a.5,
  a.6,
)
