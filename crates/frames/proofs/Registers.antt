-- Registers of two, as sets.
use Rattle.std.proofs.Common.{◌≡◌, Bool, true, false, ◌||◌, refl, sym, ap, ◌∙◌}
use Rattle.std.proofs.Math.Bool.{or-false, or_self, or_assoc, or_comm}
use Rattle.icode.specs.declared.registers.Registers.{Registers}
use Rattle.icode.specs.Registers.{none, joined}

same : (x y : Registers) → x.accumulator ≡ y.accumulator → x.right ≡ y.right → x.high ≡ y.high → x.address ≡ y.address → x.frame ≡ y.frame → x ≡ y
same x y a b c d e =
    ap (λ v. record x { accumulator = v }) a
    ∙ ap (λ v. record x { accumulator = y.accumulator; right = v }) b
    ∙ ap (λ v. record x { accumulator = y.accumulator; right = y.right; high = v }) c
    ∙ ap (λ v. record y { address = v; frame = x.frame }) d
    ∙ ap (λ v. record y { frame = v }) e

or_left : (a b : Bool) → ((a || b) || a) ≡ (a || b)
or_left true b = refl
or_left false b = or-false b

or_right : (a b : Bool) → ((a || b) || b) ≡ (a || b)
or_right true b = refl
or_right false b = or_self b

pub joined_parts : (x y z : Registers) → joined (joined x y) z ≡ joined x (joined y z)
joined_parts x y z =
    same (joined (joined x y) z) (joined x (joined y z)) (or_assoc x.accumulator y.accumulator z.accumulator) (or_assoc x.right y.right z.right) (or_assoc x.high y.high z.high) (or_assoc x.address y.address z.address) (or_assoc x.frame y.frame z.frame)

pub joined_none : (x : Registers) → joined x none ≡ x
joined_none x = same (joined x none) x (or-false x.accumulator) (or-false x.right) (or-false x.high) (or-false x.address) (or-false x.frame)

-- g has the registers of x: joined g x ≡ g
pub has_left : (x y : Registers) → joined (joined x y) x ≡ joined x y
has_left x y = same (joined (joined x y) x) (joined x y) (or_left x.accumulator y.accumulator) (or_left x.right y.right) (or_left x.high y.high) (or_left x.address y.address) (or_left x.frame y.frame)

pub has_right : (x y : Registers) → joined (joined x y) y ≡ joined x y
has_right x y = same (joined (joined x y) y) (joined x y) (or_right x.accumulator y.accumulator) (or_right x.right y.right) (or_right x.high y.high) (or_right x.address y.address) (or_right x.frame y.frame)

pub has_self : (x : Registers) → joined x x ≡ x
has_self x = same (joined x x) x (or_self x.accumulator) (or_self x.right) (or_self x.high) (or_self x.address) (or_self x.frame)

pub has_through : (x y z : Registers) → joined x y ≡ x → joined y z ≡ y → joined x z ≡ x
has_through x y z e f = ap (λ v. joined v z) (sym e) ∙ joined_parts x y z ∙ ap (joined x) f ∙ e

pub has_both : (g x y : Registers) → joined g x ≡ g → joined g y ≡ g → joined g (joined x y) ≡ g
has_both g x y e f = sym (joined_parts g x y) ∙ ap (λ v. joined v y) e ∙ f

pub joined_other : (x y : Registers) → joined x y ≡ joined y x
joined_other x y = same (joined x y) (joined y x) (or_comm x.accumulator y.accumulator) (or_comm x.right y.right) (or_comm x.high y.high) (or_comm x.address y.address) (or_comm x.frame y.frame)
