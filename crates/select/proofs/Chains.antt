-- The steps of rows, one after another in the code.
use Rattle.std.proofs.Common.{◌≡◌, ℕ, suc, ◌+◌, ◌%◌, ◌<◌, List, [], ◌∷◌, ◌++◌, length, Option, refl, ap, subst, arith}
use Rattle.std.specs.Prelude.{slice_index}
use Rattle.word86.specs.declared.place.Place.{Place}
use Rattle.word86.specs.declared.place.Place.TheVariants as place
use Rattle.word86.specs.Page.{page_begins}
use Rattle.i86_table.specs.declared.registers.Segment.{Segment}
use Rattle.i86_table.specs.declared.registers.Segment.TheVariants as segments
use Rattle.i86_table.specs.declared.instruction.Instr.{Instr}
use Rattle.i86_table.specs.declared.open.Open.{Open}
use Rattle.i86_table.specs.Open.{closed}
use Rattle.icode.specs.Machine.{address}
use Rattle.select.specs.declared.part.Step.{Step}
use Rattle.select.specs.declared.part.Step.TheVariants.{Plain}
use Rattle.select.specs.Parts.{target_of}
use Rattle.select.specs.Linked.{StandsAt, Stands, AllStand}
use Rattle.select.specs.Rows.{on_place}
use Rattle.select.specs.Inner.Rows.{segment_of}

module _ (code : ℕ → Option (Instr × ℕ)) (words : ℕ → Option ℕ) (offsets places : List ℕ) (at : ℕ → ℕ) where
  -- these steps stand from one place to another
  abbrev pub From : ℕ → List Step → ℕ → Type 0
  From p [] q = p ≡ q
  From p (x ∷ xs) q = (m : ℕ) × Stands code words offsets places p m (at (target_of x)) x × (m < 65536) × From m xs q

  pub parted : (xs ys : List Step) (p q : ℕ) → From p (xs ++ ys) q → (m : ℕ) × From p xs m × From m ys q
  parted [] ys p q h = (p, refl, h)
  parted (x ∷ xs) ys p q h = let t = parted xs ys h.0 q h.3 in (t.0, (h.0, h.1, h.2, t.1), t.2)

  module _ (low : (j : ℕ) → at j < 65536) where
    pub from_all : (xs : List Step) (j : ℕ) → AllStand code words offsets places at j xs → From (at j) xs (at (j + length xs))
    from_all [] j s = let e : j ≡ j + 0 = omega arith in ap at e
    from_all (x ∷ xs) j s =
        let e : suc j + length xs ≡ j + suc (length xs) = omega arith in
        (at (suc j), s.0, low (suc j), subst (λ z. From (at (suc j)) xs (at z)) e (from_all xs (suc j) s.1))

    pub later : (xs ys : List Step) (j : ℕ) → AllStand code words offsets places at j (xs ++ ys) → AllStand code words offsets places at (j + length xs) ys
    later [] ys j s = let e : j ≡ j + 0 = omega arith in subst (λ z. AllStand code words offsets places at z ys) e s
    later (x ∷ xs) ys j s =
        let e : suc j + length xs ≡ j + suc (length xs) = omega arith in
        subst (λ z. AllStand code words offsets places at z ys) e (later xs ys (suc j) s.1)

    pub front : (xs ys : List Step) (j : ℕ) → AllStand code words offsets places at j (xs ++ ys) → AllStand code words offsets places at j xs
    front [] ys j s = tt
    front (x ∷ xs) ys j s = (s.0, front xs ys (suc j) s.1)

  -- an instruction on a place stands there with the place's address
  module _ (sizes : List ℕ) where
    on_it : (f : Segment → Open) (x : Place) (p m t : ℕ) → Stands code words offsets places p m t (on_place f x) → StandsAt code p (closed (f (segment_of x)) (address offsets sizes x 0)) m
    on_it f (place.Ram k n) p m t s =
        let e : (n + slice_index offsets k) % 65536 ≡ (slice_index offsets k + n + 0) % 65536 = ap (λ z. z % 65536) (sum_turned n (slice_index offsets k)) in
        subst (λ z. StandsAt code p (closed (f segments.Ds) z) m) e s
      where
        sum_turned : (a b : ℕ) → a + b ≡ b + a + 0
        sum_turned a b = omega arith
    on_it f (place.Screen page n) p m t s =
        let e : (page_begins page + n) % 65536 ≡ (page_begins page + n + 0) % 65536 = ap (λ z. z % 65536) (same_sum (page_begins page + n)) in
        subst (λ z. StandsAt code p (closed (f segments.Es) z) m) e s
      where
        same_sum : (a : ℕ) → a ≡ a + 0
        same_sum a = omega arith

    pub settled : (f : Segment → Open) (x : Place) (xs : List Step) (p q : ℕ) → From p (on_place f x ∷ xs) q → From p (Plain (closed (f (segment_of x)) (address offsets sizes x 0)) ∷ xs) q
    settled f x xs p q h = (h.0, on_it f x p h.0 (at (target_of (on_place f x))) h.1, h.2, h.3)
