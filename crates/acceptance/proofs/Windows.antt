-- Eight bytes of the tests' memory.
use Rattle.std.proofs.Common.{◌≡◌, ℕ, ◌+◌, ◌-◌, ◌≤◌, List, [], ◌∷◌, length, take, drop, slice_index_or, refl, arith, ap}
use Rattle.std.proofs.lemmas.List.{length-drop, get_or-drop}
use Rattle.cpu8086.specs.BusLaws.{eight_bytes}
use Rattle.std.specs.Prelude.{slice_range, Option}
use Rattle.acceptance.specs.Inner.TestBus.{test_bus}

-- the front of a list by its items
front_eight : (l : List ℕ) → 8 ≤ length l → take 8 l ≡ slice_index_or l 0 255 ∷ slice_index_or l 1 255 ∷ slice_index_or l 2 255 ∷ slice_index_or l 3 255 ∷ slice_index_or l 4 255 ∷ slice_index_or l 5 255 ∷ slice_index_or l 6 255 ∷ slice_index_or l 7 255 ∷ []
front_eight (a ∷ b ∷ c ∷ d ∷ e ∷ f ∷ g ∷ h ∷ l) le = refl
front_eight [] le = absurd (omega arith)
front_eight (a ∷ []) le = absurd (omega arith)
front_eight (a ∷ b ∷ []) le = absurd (omega arith)
front_eight (a ∷ b ∷ c ∷ []) le = absurd (omega arith)
front_eight (a ∷ b ∷ c ∷ d ∷ []) le = absurd (omega arith)
front_eight (a ∷ b ∷ c ∷ d ∷ e ∷ []) le = absurd (omega arith)
front_eight (a ∷ b ∷ c ∷ d ∷ e ∷ f ∷ []) le = absurd (omega arith)
front_eight (a ∷ b ∷ c ∷ d ∷ e ∷ f ∷ g ∷ []) le = absurd (omega arith)

pub eight_in_range : (l : List ℕ) (r : Option ℕ) (a : ℕ) → a + 8 ≤ length l → slice_range l a (a + 8) ≡ eight_bytes test_bus (l, r) a
unfolding eight_bytes
eight_in_range l r a le =
    let e : a + 8 - a ≡ 8 = omega arith in
    let long : 8 ≤ length (drop a l) = omega (arith, length-drop a l) in
    let z : a + 0 ≡ a = omega arith in
    let i = get_or-drop a l 0 255 in
    let j = get_or-drop a l 1 255 in
    let k = get_or-drop a l 2 255 in
    let m = get_or-drop a l 3 255 in
    let n = get_or-drop a l 4 255 in
    let o = get_or-drop a l 5 255 in
    let p = get_or-drop a l 6 255 in
    let q = get_or-drop a l 7 255 in
    let r : take (a + 8 - a) (drop a l) ≡ take 8 (drop a l) = ap (λ (x : ℕ). take x (drop a l)) e in
    let t = front_eight (drop a l) long in
    cc
