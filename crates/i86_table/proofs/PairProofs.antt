-- A pair is known by its registers.
use Rattle.std.proofs.Common.{◌≡◌, ◌≤◌, ◌<◌, ◌⊎◌, inl, inr, Bool, true, false, cond, refl, sym, ap, ◌∙◌, subst}
use Rattle.std.specs.Prelude.{nat_le}
use Rattle.std.proofs.Math.Bridge.{le_prop}
use Rattle.std.proofs.lemmas.Bool.Decides.{leb_tells}
use Rattle.i86_table.specs.declared.registers.Register8.{Register8}
use Rattle.i86_table.specs.declared.registers.Register16.{Register16}
use Rattle.i86_table.specs.declared.pairs.BytePair.{BytePair}
use Rattle.i86_table.specs.declared.pairs.WordPair.{WordPair}
use Rattle.i86_table.specs.Numbers.{byte_register_code, word_register_code}
use Rattle.std.proofs.lemmas.Bool.{le-leb}
use Rattle.i86_table.specs.PairLaw.{BytePairLaws, WordPairLaws}
use Rattle.i86_table.specs.Pairs.{byte_pair, byte_pair_by, word_pair, word_pair_by}

abbrev byte_made : (a b : Register8) → byte_register_code a ≤ byte_register_code b → BytePair
byte_made a b h = record { first = a; second = b; ordered = h }

byte_made_same : (a c : Register8) → a ≡ c → (b d : Register8) → b ≡ d → (h : byte_register_code a ≤ byte_register_code b) (k : byte_register_code c ≤ byte_register_code d) → byte_made a b h ≡ byte_made c d k
byte_made_same a c e b d f h k =
    subst (λ (x : Register8). (k : byte_register_code x ≤ byte_register_code d) → byte_made a b h ≡ byte_made x d k) e
    (subst (λ (y : Register8). (k : byte_register_code a ≤ byte_register_code y) → byte_made a b h ≡ byte_made a y k) f (λ k. ap (byte_made a b) (le_prop h k))) k

pub byte_pairs_same : (p q : BytePair) → p.first ≡ q.first → p.second ≡ q.second → p ≡ q
byte_pairs_same p q e f = byte_made_same p.first q.first e p.second q.second f p.ordered q.ordered

byte_by : (a b : Register8) (t : ((nat_le (byte_register_code a) (byte_register_code b) ≡ true) × (byte_register_code a ≤ byte_register_code b)) ⊎ ((nat_le (byte_register_code a) (byte_register_code b) ≡ false) × (byte_register_code b < byte_register_code a))) (p : BytePair) → ◌≡◌ {A = Register8 × Register8} (p.first, p.second) (cond (nat_le (byte_register_code a) (byte_register_code b)) (a, b) (b, a)) → p ≡ byte_pair_by a b t
byte_by a b (inl in_order) p e =
    let f : ◌≡◌ {A = Register8 × Register8} (p.first, p.second) ((a, b)) = e ∙ ap (λ (t : Bool). cond {A = Register8 × Register8} t (a, b) (b, a)) in_order.0 in
    byte_pairs_same p _ (ap (λ (x : Register8 × Register8). x.0) f) (ap (λ (x : Register8 × Register8). x.1) f)
byte_by a b (inr turned) p e =
    let f : ◌≡◌ {A = Register8 × Register8} (p.first, p.second) ((b, a)) = e ∙ ap (λ (t : Bool). cond {A = Register8 × Register8} t (a, b) (b, a)) turned.0 in
    byte_pairs_same p _ (ap (λ (x : Register8 × Register8). x.0) f) (ap (λ (x : Register8 × Register8). x.1) f)

-- two registers in their order are their pair
pub byte_pair_is : (a b : Register8) (q : Register8 × Register8) (p : BytePair) → q ≡ cond (nat_le (byte_register_code a) (byte_register_code b)) (a, b) (b, a) → p.first ≡ q.0 → p.second ≡ q.1 → p ≡ byte_pair a b
unfolding byte_pair
byte_pair_is a b q p e f s = byte_by a b (leb_tells (byte_register_code a) (byte_register_code b)) p (rw (f, s) e)

abbrev word_made : (a b : Register16) → word_register_code a ≤ word_register_code b → WordPair
word_made a b h = record { first = a; second = b; ordered = h }

word_made_same : (a c : Register16) → a ≡ c → (b d : Register16) → b ≡ d → (h : word_register_code a ≤ word_register_code b) (k : word_register_code c ≤ word_register_code d) → word_made a b h ≡ word_made c d k
word_made_same a c e b d f h k =
    subst (λ (x : Register16). (k : word_register_code x ≤ word_register_code d) → word_made a b h ≡ word_made x d k) e
    (subst (λ (y : Register16). (k : word_register_code a ≤ word_register_code y) → word_made a b h ≡ word_made a y k) f (λ k. ap (word_made a b) (le_prop h k))) k

pub word_pairs_same : (p q : WordPair) → p.first ≡ q.first → p.second ≡ q.second → p ≡ q
word_pairs_same p q e f = word_made_same p.first q.first e p.second q.second f p.ordered q.ordered

word_by : (a b : Register16) (t : ((nat_le (word_register_code a) (word_register_code b) ≡ true) × (word_register_code a ≤ word_register_code b)) ⊎ ((nat_le (word_register_code a) (word_register_code b) ≡ false) × (word_register_code b < word_register_code a))) (p : WordPair) → ◌≡◌ {A = Register16 × Register16} (p.first, p.second) (cond (nat_le (word_register_code a) (word_register_code b)) (a, b) (b, a)) → p ≡ word_pair_by a b t
word_by a b (inl in_order) p e =
    let f : ◌≡◌ {A = Register16 × Register16} (p.first, p.second) ((a, b)) = e ∙ ap (λ (t : Bool). cond {A = Register16 × Register16} t (a, b) (b, a)) in_order.0 in
    word_pairs_same p _ (ap (λ (x : Register16 × Register16). x.0) f) (ap (λ (x : Register16 × Register16). x.1) f)
word_by a b (inr turned) p e =
    let f : ◌≡◌ {A = Register16 × Register16} (p.first, p.second) ((b, a)) = e ∙ ap (λ (t : Bool). cond {A = Register16 × Register16} t (a, b) (b, a)) turned.0 in
    word_pairs_same p _ (ap (λ (x : Register16 × Register16). x.0) f) (ap (λ (x : Register16 × Register16). x.1) f)

-- two registers in their order are their pair
pub word_pair_is : (a b : Register16) (q : Register16 × Register16) (p : WordPair) → q ≡ cond (nat_le (word_register_code a) (word_register_code b)) (a, b) (b, a) → p.first ≡ q.0 → p.second ≡ q.1 → p ≡ word_pair a b
unfolding word_pair
word_pair_is a b q p e f s = word_by a b (leb_tells (word_register_code a) (word_register_code b)) p (rw (f, s) e)

-- ---- the laws of byte pairs

byte_first_by : (a b : Register8) (t : ((nat_le (byte_register_code a) (byte_register_code b) ≡ true) × (byte_register_code a ≤ byte_register_code b)) ⊎ ((nat_le (byte_register_code a) (byte_register_code b) ≡ false) × (byte_register_code b < byte_register_code a))) → (byte_pair_by a b t).first ≡ cond (nat_le (byte_register_code a) (byte_register_code b)) a b
byte_first_by a b (inl in_order) = sym (ap (λ (t : Bool). cond t a b) in_order.0)
byte_first_by a b (inr turned) = sym (ap (λ (t : Bool). cond t a b) turned.0)

byte_second_by : (a b : Register8) (t : ((nat_le (byte_register_code a) (byte_register_code b) ≡ true) × (byte_register_code a ≤ byte_register_code b)) ⊎ ((nat_le (byte_register_code a) (byte_register_code b) ≡ false) × (byte_register_code b < byte_register_code a))) → (byte_pair_by a b t).second ≡ cond (nat_le (byte_register_code a) (byte_register_code b)) b a
byte_second_by a b (inl in_order) = sym (ap (λ (t : Bool). cond t b a) in_order.0)
byte_second_by a b (inr turned) = sym (ap (λ (t : Bool). cond t b a) turned.0)

pub byte_laws : BytePairLaws
unfolding byte_pair
byte_laws = record {
  first = λ a b. byte_first_by a b (leb_tells (byte_register_code a) (byte_register_code b));
  second = λ a b. byte_second_by a b (leb_tells (byte_register_code a) (byte_register_code b));
  again = λ p. sym (byte_pair_is p.first p.second (p.first, p.second) p (sym (ap (λ (t : Bool). cond {A = Register8 × Register8} t (p.first, p.second) (p.second, p.first)) (le-leb (byte_register_code p.first) (byte_register_code p.second) p.ordered))) refl refl);
}

-- ---- the laws of word pairs

word_first_by : (a b : Register16) (t : ((nat_le (word_register_code a) (word_register_code b) ≡ true) × (word_register_code a ≤ word_register_code b)) ⊎ ((nat_le (word_register_code a) (word_register_code b) ≡ false) × (word_register_code b < word_register_code a))) → (word_pair_by a b t).first ≡ cond (nat_le (word_register_code a) (word_register_code b)) a b
word_first_by a b (inl in_order) = sym (ap (λ (t : Bool). cond t a b) in_order.0)
word_first_by a b (inr turned) = sym (ap (λ (t : Bool). cond t a b) turned.0)

word_second_by : (a b : Register16) (t : ((nat_le (word_register_code a) (word_register_code b) ≡ true) × (word_register_code a ≤ word_register_code b)) ⊎ ((nat_le (word_register_code a) (word_register_code b) ≡ false) × (word_register_code b < word_register_code a))) → (word_pair_by a b t).second ≡ cond (nat_le (word_register_code a) (word_register_code b)) b a
word_second_by a b (inl in_order) = sym (ap (λ (t : Bool). cond t b a) in_order.0)
word_second_by a b (inr turned) = sym (ap (λ (t : Bool). cond t b a) turned.0)

pub word_laws : WordPairLaws
unfolding word_pair
word_laws = record {
  first = λ a b. word_first_by a b (leb_tells (word_register_code a) (word_register_code b));
  second = λ a b. word_second_by a b (leb_tells (word_register_code a) (word_register_code b));
  again = λ p. sym (word_pair_is p.first p.second (p.first, p.second) p (sym (ap (λ (t : Bool). cond {A = Register16 × Register16} t (p.first, p.second) (p.second, p.first)) (le-leb (word_register_code p.first) (word_register_code p.second) p.ordered))) refl refl);
}
