-- Which jumps are in reach.
use Rattle.std.proofs.Common.{◌≡◌, ℕ, suc, ◌+◌, ◌-◌, ◌<◌, ◌≤◌, inl, inr, List, length, get_or, take, drop, set, sym, ap, ◌∙◌, arith, get_or-set_same, get_or-set_other, ◌≢◌, length-set}
use Rattle.std.proofs.lemmas.Bool.{cases_eq, cases_lt}
use Rattle.std.proofs.lemmas.List.{set_past}
use Rattle.std.specs.Prelude.{sum}
use Rattle.select.specs.Sizes.{start, IsInReach}
use Rattle.select.proofs.Starts.{start_more, gap_le, gap_is, start_same, gap_long, start_up_to, sum_of_range}

abbrev pub AtMost : List ℕ → List ℕ → Type 0
AtMost s t = (i : ℕ) → get_or s i 0 ≤ get_or t i 0

-- another step
other : (s : List ℕ) (k i v : ℕ) → (i ≡ k → ⊥) → get_or (set s k v) i 0 ≡ get_or s i 0
other s k i v ne = get_or-set_other s k i v 0 ne

-- the same step short in both
pub short_at_most : (s t : List ℕ) (k : ℕ) → length s ≡ length t → AtMost s t → AtMost (set s k 2) (set t k 2)
short_at_most s t k e h i =
    elim (cases_eq i k) [
      | inl same ↦ elim (cases_lt k (length s)) [
        | inl lt ↦
            let p : get_or (set s k 2) i 0 ≡ 2 = ap (λ x. get_or (set s k 2) x 0) same ∙ get_or-set_same s k 2 0 lt in
            let lt' : k < length t = omega arith in
            let q : get_or (set t k 2) i 0 ≡ 2 = ap (λ x. get_or (set t k 2) x 0) same ∙ get_or-set_same t k 2 0 lt' in
            omega (arith, p, q)
        | inr ge ↦
            let ge' : length t ≤ k = omega arith in
            let p = ap (λ l. get_or l i 0) (set_past s k 2 ge) in
            let q = ap (λ l. get_or l i 0) (set_past t k 2 ge') in
            omega (arith, p, q, h i)
      ]
      | inr ne ↦ omega (arith, other s k i 2 ne, other t k i 2 ne, h i)
    ]

-- a jump out of reach stays so where sizes grow
module _ (u v : List ℕ) (h : AtMost u v) (k t : ℕ) where
  grown_ahead : start v t ≤ start v (k + 1) + 127 → start u t ≤ start u (k + 1) + 127
  grown_ahead p =
      elim (cases_lt t (k + 1)) [
        | inl lt ↦ let e : t + (k + 1 - t) ≡ k + 1 = omega arith in let f = ap (start u) e in omega (arith, f, start_up_to u t (k + 1 - t))
        | inr ge ↦
            let e : k + 1 + (t - (k + 1)) ≡ t = omega arith in
            let f = ap (start u) e in
            let g = ap (start v) e in
            omega (arith, f, g, gap_le u v (k + 1) (t - (k + 1)) (λ i le. h i))
      ]

  grown_back : start v (k + 1) ≤ start v t + 128 → start u (k + 1) ≤ start u t + 128
  grown_back p =
      elim (cases_lt (k + 1) t) [
        | inl lt ↦ let e : k + 1 + (t - (k + 1)) ≡ t = omega arith in let f = ap (start u) e in omega (arith, f, start_up_to u (k + 1) (t - (k + 1)))
        | inr ge ↦
            let e : t + (k + 1 - t) ≡ k + 1 = omega arith in
            let f = ap (start u) e in
            let g = ap (start v) e in
            omega (arith, f, g, gap_le u v t (k + 1 - t) (λ i le. h i))
      ]

pub reach_shrinks : (s s' : List ℕ) (k t : ℕ) → length s ≡ length s' → AtMost s s' → IsInReach s' k t → IsInReach s k t
reach_shrinks s s' k t e h r =
    let both = short_at_most s s' k e h in
    record { ahead = grown_ahead (set s k 2) (set s' k 2) both k t r.ahead; back = grown_back (set s k 2) (set s' k 2) both k t r.back }

-- places up to a step that changes stay
start_before : (s : List ℕ) (k j v x : ℕ) → x ≤ j → start (set (set s j v) k 2) x ≡ start (set s k 2) x
start_before s k j v x le = start_same (set (set s j v) k 2) (set s k 2) x (λ i lt. at i lt)
  where
    at : (i : ℕ) → i < x → get_or (set (set s j v) k 2) i 0 ≡ get_or (set s k 2) i 0
    at i lt =
        let ne : i ≢ j = omega arith in
        elim (cases_eq i k) [
          | inl same ↦ elim (cases_lt k (length s)) [
            | inl l ↦
                let l' : k < length (set s j v) = omega (arith, length-set s j v) in
                ap (λ y. get_or (set (set s j v) k 2) y 0) same ∙ get_or-set_same (set s j v) k 2 0 l' ∙ sym (ap (λ y. get_or (set s k 2) y 0) same ∙ get_or-set_same s k 2 0 l)
            | inr ge ↦
                let ge' : length (set s j v) ≤ k = omega (arith, length-set s j v) in
                ap (λ l. get_or l i 0) (set_past (set s j v) k 2 ge') ∙ other s j i v ne ∙ sym (ap (λ l. get_or l i 0) (set_past s k 2 ge))
          ]
          | inr d ↦ other (set s j v) k i 2 d ∙ other s j i v ne ∙ sym (other s k i 2 d)
        ]

-- a short jump more than 128 steps before one that changes is in reach as before
pub reach_stays : (s : List ℕ) (k t j v : ℕ) → t < length s → ((i : ℕ) → i < length s → 1 ≤ get_or s i 0) → k + 128 < j → IsInReach s k t → IsInReach (set s j v) k t
reach_stays s k t j v lt some far r =
    let near : t ≤ j = near_target in
    let a : start (set (set s j v) k 2) t ≡ start (set s k 2) t = start_before s k j v t near in
    let b : start (set (set s j v) k 2) (k + 1) ≡ start (set s k 2) (k + 1) = start_before s k j v (k + 1) (omega arith) in
    record { ahead = omega (arith, r.ahead, a, b); back = omega (arith, r.back, a, b) }
  where
    some_short : (i : ℕ) → i < length s → 1 ≤ get_or (set s k 2) i 0
    some_short i l =
        elim (cases_eq i k) [
          | inl same ↦
              let l' : k < length s = omega arith in
              let p : get_or (set s k 2) i 0 ≡ 2 = ap (λ y. get_or (set s k 2) y 0) same ∙ get_or-set_same s k 2 0 l' in
              omega (arith, p)
          | inr d ↦ omega (arith, other s k i 2 d, some i l)
        ]

    near_target : t ≤ j
    near_target =
        elim (cases_lt (k + 1) t) [
          | inl l ↦
              let e : k + 1 + (t - (k + 1)) ≡ t = omega arith in
              let g = gap_long (set s k 2) (k + 1) (t - (k + 1)) (λ i m. some_short i (omega arith)) in
              let f = ap (start (set s k 2)) e in
              omega (arith, g, f, r.ahead)
          | inr ge ↦ omega arith
        ]

-- what is looked at to tell whether a jump is in reach
module _ (s : List ℕ) (k t : ℕ) (lt : k < length s) where
  abbrev u : List ℕ
  u = set s k 2

  behind : start u (k + 1) ≡ start s k + 2
  behind =
      let e : k + 1 ≡ suc k = omega arith in
      let p = ap (start u) e ∙ start_more u k in
      let q : get_or u k 0 ≡ 2 = get_or-set_same s k 2 0 lt in
      omega (arith, p, q, start_same u s k (λ i l. let ne : i ≡ k → ⊥ = λ d. absurd (omega arith) in other s k i 2 ne))

  pub ahead_is : k < t → ((sum (take (t - (k + 1)) (drop (k + 1) s)) ≤ 127) → IsInReach s k t) × (IsInReach s k t → sum (take (t - (k + 1)) (drop (k + 1) s)) ≤ 127)
  ahead_is l =
      let n = t - (k + 1) in
      let e : k + 1 + n ≡ t = omega arith in
      let f = ap (start u) e in
      let g = ap (start s) e in
      let same = gap_is u s (k + 1) n (λ i le. let ne : i ≡ k → ⊥ = λ d. absurd (omega arith) in other s k i 2 ne) in
      let range = sum_of_range s (k + 1) n in
      let up = start_up_to u (k + 1) n in (
        λ h. record { ahead = omega (arith, f, g, same, range); back = omega (arith, f, up) },
        λ r. omega (arith, f, g, same, range, r.ahead),
      )

  pub back_is : t ≤ k → ((sum (take (k - t) (drop t s)) ≤ 126) → IsInReach s k t) × (IsInReach s k t → sum (take (k - t) (drop t s)) ≤ 126)
  back_is l =
      let n = k - t in
      let e : t + n ≡ k = omega arith in
      let g = ap (start s) e in
      let same : start u t ≡ start s t = start_same u s t (λ i m. let ne : i ≡ k → ⊥ = λ d. absurd (omega arith) in other s k i 2 ne) in
      let range = sum_of_range s t n in
      let b = behind in (
        λ h. record { ahead = omega (arith, g, same, range, b); back = omega (arith, g, same, range, b) },
        λ r. omega (arith, g, same, range, b, r.back),
      )
