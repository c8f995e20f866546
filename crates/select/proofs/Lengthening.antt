-- Sizes while they are looked for, and at the end.
use Rattle.std.proofs.Common.{◌≡◌, ℕ, zero, suc, ◌+◌, ◌*◌, ◌-◌, ◌<◌, ◌≤◌, ◌⊎◌, inl, inr, List, [], ◌∷◌, length, map, get_or, set, refl, sym, ap, ◌∙◌, arith, get_or-set_same, get_or-set_other, subst, length-set}
use Rattle.std.proofs.lemmas.Bool.{cases_eq, cases_lt}
use Rattle.std.proofs.lemmas.List.{get_or_past, length-map}
use Rattle.std.proofs.lemmas.List.Sums.{sum_by-set}
use Rattle.std.specs.Prelude.{sum}
use Rattle.select.specs.declared.sizes.Extent.{Extent}
use Rattle.select.specs.declared.sizes.Extent.TheVariants.{Fixed, Jump}
use Rattle.select.specs.Sizes.{extent_at, start, IsInReach, IsSettled, AreSettled, AreLeast}
use Rattle.select.specs.Inner.Settling.{shortest, longest, IsExtent, AreExtents}
use Rattle.select.specs.Inner.Settling.{IsLooked, IsSettling}
use Rattle.select.proofs.Starts.{gap_le, whole}
use Rattle.select.proofs.Reach.{AtMost, reach_shrinks, reach_stays}

pub in_reach_or_not : (s : List ℕ) (k t : ℕ) → IsInReach s k t ⊎ (IsInReach s k t → ⊥)
in_reach_or_not s k t =
    let u = set s k 2 in
    elim (cases_lt (start u (k + 1) + 127) (start u t)) [
      | inl far ↦ inr (λ r. absurd (omega (arith, r.ahead)))
      | inr a ↦ elim (cases_lt (start u t + 128) (start u (k + 1))) [
        | inl far ↦ inr (λ r. absurd (omega (arith, r.back)))
        | inr b ↦ inl (record { ahead = a; back = b })
      ]
    ]

-- ---- a jump that is made long

module _ (xs : List Extent) (s : List ℕ) (at t long : ℕ) (good : AreExtents xs) (is : extent_at xs at ≡ Jump t long) (lt : at < length xs) (far : IsInReach s at t → ⊥) (two : get_or s at 0 ≡ 2) (state : IsSettling xs s at) where
  abbrev s' : List ℕ
  s' = set s at long

  longer : 2 < long
  longer = let g : IsExtent (length xs) (Jump t long) = subst (IsExtent (length xs)) is (good at lt) in g.0

  at_it : get_or s' at 0 ≡ long
  at_it = let l : at < length s = omega (arith, state.many) in get_or-set_same s at long 0 l

  beside : (i : ℕ) → (i ≡ at → ⊥) → get_or s' i 0 ≡ get_or s i 0
  beside i ne = get_or-set_other s at i long 0 ne

  grows : AtMost s s'
  grows i =
      elim (cases_eq i at) [
        | inl same ↦ let p : get_or s i 0 ≡ 2 = ap (λ y. get_or s y 0) same ∙ two in let q : get_or s' i 0 ≡ long = ap (λ y. get_or s' y 0) same ∙ at_it in omega (arith, p, q, longer)
        | inr ne ↦ omega (arith, beside i ne)
      ]

  as_long : length s ≡ length s'
  as_long = sym (length-set s at long)

  some_of : (k n : ℕ) (e : Extent) → IsExtent n e → IsLooked s at k e → 1 ≤ get_or s k 0
  some_of k n (Fixed m) g h = omega (arith, g, h)
  some_of k n (Jump t' long') g h = elim h [ inl a ↦ omega (arith, a.0) | inr b ↦ omega (arith, b.0, g.0) ]

  some : (i : ℕ) → i < length s → 1 ≤ get_or s i 0
  some i l = let l' : i < length xs = omega (arith, state.many) in some_of i (length xs) (extent_at xs i) (good i l') (state.each i l')

  same_jump : (t' long' : ℕ) → Jump t long ≡ Jump t' long' → (t' ≡ t) × (long' ≡ long)
  same_jump t' long' e = (cc, cc)

  looked_at : (k : ℕ) (e : Extent) → k < length xs → extent_at xs k ≡ e → IsExtent (length xs) e → IsLooked s at k e → IsLooked s' (at - 128) k e
  looked_at k (Fixed n) l e g h =
      let ne : k ≡ at → ⊥ = λ same. let f : Jump t long ≡ Fixed n = sym is ∙ ap (extent_at xs) (sym same) ∙ e in cc in
      omega (arith, beside k ne, h)
  looked_at k (Jump t' long') l e g h =
      elim (cases_eq k at) [
        | inl same ↦
            let f : Jump t long ≡ Jump t' long' = sym is ∙ ap (extent_at xs) (sym same) ∙ e in
            let both = same_jump t' long' f in
            let q : get_or s' k 0 ≡ long' = ap (λ y. get_or s' y 0) same ∙ at_it ∙ sym both.1 in
            let out : IsInReach s' k t' → ⊥ = λ r.
            let r1 : IsInReach s' at t' = subst (λ (y : ℕ). IsInReach s' y t') same r in
            let r2 : IsInReach s' at t = subst (λ (y : ℕ). IsInReach s' at y) both.0 r1 in
            far (reach_shrinks s s' at t as_long grows r2) in
            inr (q, out)
        | inr ne ↦ elim h [
          | inl a ↦
              let q : get_or s' k 0 ≡ 2 = beside k ne ∙ a.0 in
              let l' : t' < length s = omega (arith, state.many, g.1) in
              inl (q, λ below. reach_stays s k t' at long l' some (omega arith) (a.1 (omega arith)))
          | inr b ↦ let q : get_or s' k 0 ≡ long' = beside k ne ∙ b.0 in inr (q, λ r. b.1 (reach_shrinks s s' k t' as_long grows r))
        ]
      ]

  least_of : AreLeast xs s'
  least_of others o k =
      elim (cases_eq k at) [
        | inl same ↦
            let all : AtMost s others = state.least others o in
            let there : IsSettled others at (Jump t long) = subst (IsSettled others at) is (o.each at lt) in
            let n : length s ≡ length others = omega (arith, state.many, o.many) in
            let v : get_or others at 0 ≡ long = there.1 (λ r. far (reach_shrinks s others at t n all r)) in
            let p : get_or s' k 0 ≡ long = ap (λ y. get_or s' y 0) same ∙ at_it in
            let q : get_or others k 0 ≡ long = ap (λ y. get_or others y 0) same ∙ v in
            omega (arith, p, q)
        | inr ne ↦ omega (arith, beside k ne, state.least others o k)
      ]

  pub made_long : IsSettling xs s' (at - 128)
  made_long = record {
    many = omega (arith, as_long, state.many);
    each = λ k l. looked_at k (extent_at xs k) l refl (good k l) (state.each k l);
    least = least_of;
    within = omega arith;
  }

  pub more_bytes : sum s < sum s'
  more_bytes =
      let l : at < length s = omega (arith, state.many) in
      omega (arith, sum_by-set (λ x. x) s at long 0 l, two, longer)

-- ---- the beginning

shortest_at : (xs : List Extent) (k : ℕ) → get_or (map shortest xs) k 0 ≡ shortest (extent_at xs k)
shortest_at [] zero = refl
shortest_at [] (suc k) = refl
shortest_at (x ∷ xs) zero = refl
shortest_at (x ∷ xs) (suc k) = shortest_at xs k

longest_at : (xs : List Extent) (k : ℕ) → get_or (map longest xs) k 0 ≡ longest (extent_at xs k)
longest_at [] zero = refl
longest_at [] (suc k) = refl
longest_at (x ∷ xs) zero = refl
longest_at (x ∷ xs) (suc k) = longest_at xs k

module _ (xs : List Extent) (good : AreExtents xs) where
  begin_at : (k : ℕ) (e : Extent) → get_or (map shortest xs) k 0 ≡ shortest e → IsLooked (map shortest xs) 0 k e
  begin_at k (Fixed n) p = p
  begin_at k (Jump t long) p = inl (p, λ l. absurd (omega arith))

  begin_least : (n k : ℕ) (others : List ℕ) (e : Extent) → IsExtent n e → IsSettled others k e → shortest e ≤ get_or others k 0
  begin_least n k others (Fixed m) g h = omega (arith, h)
  begin_least n k others (Jump t long) g h = elim (in_reach_or_not others k t) [ inl r ↦ omega (arith, h.0 r) | inr f ↦ omega (arith, h.1 f, g.0) ]

  pub begins : IsSettling xs (map shortest xs) 0
  begins = record {
    many = length-map xs shortest;
    each = λ k l. begin_at k (extent_at xs k) (shortest_at xs k);
    least = λ others o k. elim (cases_lt k (length xs)) [
      | inl l ↦ let p = begin_least (length xs) k others (extent_at xs k) (good k l) (o.each k l) in omega (arith, p, shortest_at xs k)
      | inr ge ↦ let q : get_or (map shortest xs) k 0 ≡ 0 = get_or_past (map shortest xs) k 0 (omega (arith, length-map xs shortest)) in omega (arith, q)
    ];
    within = omega arith;
  }

  -- ---- the end

  end_at : (s : List ℕ) (at k : ℕ) (e : Extent) → k < at → IsLooked s at k e → IsSettled s k e
  end_at s at k (Fixed n) l h = h
  end_at s at k (Jump t long) l h =
      elim h [
        | inl a ↦ (λ r. a.0, λ f. absurd (f (a.1 l)))
        | inr b ↦ (λ r. absurd (b.1 r), λ f. b.0)
      ]

  pub ends : (s : List ℕ) (at : ℕ) → length xs ≤ at → IsSettling xs s at → AreSettled xs s
  ends s at le state = record { many = state.many; each = λ k l. end_at s at k (extent_at xs k) (omega arith) (state.each k l) }

  -- ---- sizes have a bound

  longest_of : (n k : ℕ) (s : List ℕ) (at : ℕ) (e : Extent) → IsExtent n e → IsLooked s at k e → get_or s k 0 ≤ longest e
  longest_of n k s at (Fixed m) g h = omega (arith, h)
  longest_of n k s at (Jump t long) g h = elim h [ inl a ↦ omega (arith, a.0, g.0) | inr b ↦ omega (arith, b.0) ]

  pub bounded : (s : List ℕ) (at : ℕ) → IsSettling xs s at → sum s ≤ sum (map longest xs)
  bounded s at state =
      let n = length xs in
      let each : (i : ℕ) → 0 ≤ i → get_or s i 0 ≤ get_or (map longest xs) i 0 = λ i z. each_of i in
      let g = gap_le s (map longest xs) 0 n each in
      let e : 0 + n ≡ length s = omega (arith, state.many) in
      let f : 0 + n ≡ length (map longest xs) = omega (arith, length-map xs longest) in
      let a = ap (start s) e ∙ whole s in
      let b = ap (start (map longest xs)) f ∙ whole (map longest xs) in
      omega (arith, g, a, b)
    where
      each_of : (i : ℕ) → get_or s i 0 ≤ get_or (map longest xs) i 0
      each_of i =
          elim (cases_lt i (length xs)) [
            | inl l ↦ let p = longest_of (length xs) i s at (extent_at xs i) (good i l) (state.each i l) in omega (arith, p, longest_at xs i)
            | inr ge ↦ let q : get_or s i 0 ≡ 0 = get_or_past s i 0 (omega (arith, state.many)) in omega (arith, q)
          ]

-- ---- it ends

-- the bytes that may still come, and the steps that are left
abbrev pub left : (most now steps at : ℕ) → ℕ
left most now steps at = (most - now) * (steps + 1) + (steps - at)

pub fewer_bytes : (most now now' steps at at' : ℕ) → now < now' → now' ≤ most → left most now' steps at' < left most now steps at
fewer_bytes most now now' steps at at' l le =
    let a = most - now' in
    let d = now' - now in
    let e : most - now ≡ a + d = omega arith in
    let m : (a + 1) * (steps + 1) ≤ (a + d) * (steps + 1) = grind arith in
    let f : (most - now) * (steps + 1) ≡ (a + d) * (steps + 1) = ap (λ x. x * (steps + 1)) e in
    omega (arith, m, f)
