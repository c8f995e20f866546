-- The objects of the first store: how long they are, and their bytes.
use Rattle.std.proofs.Common.{◌≡◌, ℕ, zero, suc, ◌+◌, ◌-◌, ◌<◌, ◌≤◌, inl, inr, List, [], ◌∷◌, length, map, take, drop, Some, None, refl, ap, ◌∙◌, arith}
use Rattle.std.specs.Prelude.{slice_get, slice_index, slice_index_or, slice_range}
use Rattle.std.proofs.lemmas.Bool.{cases_lt}
use Rattle.std.proofs.lemmas.List.{get_or-drop, get_or-take, length-take-le, length-drop, length-append, get_or_append_left, get_or-append_right}
use Rattle.word86.specs.MemoryMap.{data_start}
use Rattle.plm_decl.specs.declared.names.Object.{Object}
use Rattle.plm_decl.specs.declared.names.Variable.{Variable}
use Rattle.plm_decl.specs.Names.{ObjectR, object_of}
use Rattle.plm_decl.specs.Initial.{initial_bytes}
use Rattle.plm_meaning.specs.Opening.{bytes_at, object_at, objects_at}

-- ---- lists

-- the size of the k-th of these objects
pub size_at : (os : List Object) (k : ℕ) (o : Object) → slice_get os k ≡ Some o → (k < length (map (λ (p : Object). p.size) os)) × (slice_index (map (λ (p : Object). p.size) os) k ≡ o.size)
size_at [] k o e = absurd (let wrong = e in cc)
size_at (q ∷ os) zero o e = let same : q ≡ o = cc in (omega arith, ap (λ (p : Object). p.size) same)
size_at (q ∷ os) (suc k) o e = let more = size_at os k o e in let lt = more.0 in (omega (arith, lt), more.1)

-- past them is none
pub size_past : (os : List Object) (k : ℕ) → slice_get os k ≡ None → slice_index (map (λ (p : Object). p.size) os) k ≡ 0
size_past [] k e = refl
size_past (q ∷ os) zero e = absurd (let wrong = e in cc)
size_past (q ∷ os) (suc k) e = size_past os k e

-- ranges of RAM
range_long : (ram : List ℕ) (a n : ℕ) → a + n ≤ length ram → length (slice_range ram a (a + n)) ≡ n
range_long ram a n le =
    let d = length-drop a ram in
    let e : a + n - a ≡ n = omega arith in
    ap (λ x. length (take x (drop a ram))) e ∙ length-take-le n (drop a ram) (omega (arith, d, le))

empty_range : (ram : List ℕ) (a n : ℕ) → n ≤ 0 → length (slice_range ram a (a + n)) ≡ 0
empty_range ram a n le = let e : a + n - a ≡ 0 = omega (arith, le) in ap (λ x. length (take x (drop a ram))) e ∙ length-take-le 0 (drop a ram) (omega arith)

range_at : (ram : List ℕ) (a n i : ℕ) → i < n → slice_index (slice_range ram a (a + n)) i ≡ slice_index ram (a + i)
range_at ram a n i lt = get_or-take (a + n - a) (drop a ram) i 0 (omega (arith, lt)) ∙ get_or-drop a ram i 0

-- ---- objects

module _ (offsets : List ℕ) (variables : List Variable) (ram : List ℕ) where
  -- the k-th object of the first store
  pub object_is : (places : List ℕ) (os : List Object) (k : ℕ) (o : Object) → length places ≡ length (map (λ (p : Object). p.size) os) → slice_get os k ≡ Some o
      → slice_index_or (objects_at offsets variables ram places (map object_of os)) k [] ≡ object_at offsets variables ram (slice_index places k) (object_of o)
  object_is places [] k o e h = absurd (let wrong = h in cc)
  object_is [] (q ∷ os) k o e h = absurd (omega (arith, e))
  object_is (p ∷ ps) (q ∷ os) zero o e h = let same : q ≡ o = cc in ap (λ z. object_at offsets variables ram p (object_of z)) same
  object_is (p ∷ ps) (q ∷ os) (suc k) o e h = object_is ps os k o (omega (arith, e)) h

  pub object_past : (places : List ℕ) (os : List Object) (k : ℕ) → slice_get os k ≡ None → slice_index_or (objects_at offsets variables ram places (map object_of os)) k [] ≡ []
  object_past [] os k h = refl
  object_past (p ∷ ps) [] k h = refl
  object_past (p ∷ ps) (q ∷ os) zero h = absurd (let wrong = h in cc)
  object_past (p ∷ ps) (q ∷ os) (suc k) h = object_past ps os k h

  module _ (offset : ℕ) (o : ObjectR) where
    abbrev first : List ℕ
    first = initial_bytes offsets variables o.initial

    abbrev held : List ℕ
    held = bytes_at offsets variables ram offset o.size

    -- it is as long as its size says, where it lies in RAM
    pub object_long : length first ≤ o.size → (1 ≤ o.size → data_start + offset + o.size ≤ length ram) → length (object_at offsets variables ram offset o) ≡ o.size
    object_long fits inside =
        let behind = length-drop (length first) held in
        let all = length-append first (drop (length first) held) in
        let long : length held ≡ o.size = elim (cases_lt 0 o.size) [
          | inl some ↦ range_long ram (data_start + offset) o.size (inside (omega (arith, some)))
          | inr none ↦ omega (arith, none, empty_range ram (data_start + offset) o.size none)
        ] in
        omega (arith, fits, behind, all, long)

    -- its first bytes, and then those of RAM
    pub object_first : (i : ℕ) → i < length first → slice_index (object_at offsets variables ram offset o) i ≡ slice_index first i
    object_first i lt = get_or_append_left first (drop (length first) held) 0 i lt

    pub object_rest : (i : ℕ) → length first ≤ i → i < o.size → slice_index (object_at offsets variables ram offset o) i ≡ slice_index ram (data_start + offset + i)
    object_rest i le lt =
        let n = length first in
        let same : n + (i - n) ≡ i = omega (arith, le) in
        get_or-append_right first (drop n held) n i 0 (omega arith) le ∙ get_or-drop n held (i - n) 0 ∙ ap (slice_index held) same ∙ range_at ram (data_start + offset) o.size i lt
