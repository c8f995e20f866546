-- The whole ROM.
use Rattle.std.proofs.Common.{◌≡◌, ℕ, zero, suc, ◌+◌, ◌-◌, ◌%◌, ◌/◌, ◌<◌, ◌≤◌, List, [], ◌∷◌, ◌++◌, length, set, Some, refl, sym, ap, ap₂, ◌∙◌, arith, append_assoc, length-append, length-set}
use Rattle.std.specs.Prelude.{nat_lt, slice_index, slice_get, replicate}
use Rattle.std.proofs.lemmas.List.{length-replicate, length-map, get_or-append-add, get_or_append_left}
use Rattle.std.proofs.lemmas.List.Sums.{sum_by-take-le}
use Rattle.std.proofs.lemmas.Bool.{cond_both}
use Rattle.std.proofs.lemmas.Option.{same_Some}
use Rattle.word86.specs.MemoryMap.{code_segment, reset_offset}
use Rattle.i86_table.specs.declared.instruction.Instr.{Instr}
use Rattle.i86_table.specs.declared.instruction.Instr.TheVariants as i
use Rattle.i86_code.specs.Forms.{Spells}
use Rattle.i86_code.specs.Coding.{IsOneForm}
use Rattle.i86_code.specs.Writing.{bytes_of, form_of}
use Rattle.select.specs.declared.part.Fixup.{Fixup}
use Rattle.select.specs.declared.part.Part.{Part}
use Rattle.select.specs.declared.part.Step.{Step}
use Rattle.select.specs.Sizes.{start}
use Rattle.select.specs.Parts.{AreSpelt, IsPart, extent_of}
use Rattle.layout_link.proofs.Starts.{whole}
use Rattle.layout_link.specs.Rom.{rom_byte, word_in, rom_code, rom_words}
use Rattle.layout_link.specs.Inner.Words.{with_word, value_of, filled_one, filled}
use Rattle.layout_link.specs.Places.{total_of, places_from}
use Rattle.layout_link.specs.Inner.Bytes.{all_filled, rom_bytes, all_bytes, AreCoded, StandInOrder}
use Rattle.layout_link.specs.Stand.{PartsStand}
use Rattle.layout_link.proofs.Filling.{linked_part}
use Rattle.layout_link.proofs.Standing.{code_at, all_stand}

-- ---- lengths

module _ (offsets places : List ℕ) where
  one_long : (base : ℕ) (bytes : List ℕ) (f : Fixup) → length (filled_one offsets places base bytes f) ≡ length bytes
  one_long base bytes f =
      let m = (word_in bytes f.place + value_of offsets places base f) % 65536 in
      cond_both (nat_lt (f.place + 1) (length bytes)) (with_word bytes f.place m) bytes (λ (l : List ℕ). length l ≡ length bytes)
      (λ _. length-set (set bytes f.place (m % 256)) (f.place + 1) (m / 256) ∙ length-set bytes f.place (m % 256)) (λ _. refl)

  filled_long : (base : ℕ) (bytes : List ℕ) (fs : List Fixup) → length (filled offsets places base bytes fs) ≡ length bytes
  filled_long base bytes [] = refl
  filled_long base bytes (f ∷ fs) = filled_long base (filled_one offsets places base bytes f) fs ∙ one_long base bytes f

  pub all_filled_long : (k : ℕ) (ps : List Part) → length (all_filled offsets places k ps) ≡ total_of ps
  all_filled_long k [] = refl
  all_filled_long k (p ∷ ps) =
      let b = filled offsets places (slice_index places k) p.bytes.items p.fixups.items in
      let one = filled_long (slice_index places k) p.bytes.items p.fixups.items in
      let rest = all_filled_long (k + 1) ps in
      length-append b (all_filled offsets places (k + 1) ps) ∙ omega (arith, one, rest)

  -- a part among the others
  record Among (k from own : ℕ) (ps : List Part) (p : Part) : Type 0 where
    pub front : List ℕ
    pub back : List ℕ
    pub is : all_filled offsets places k ps ≡ front ++ (filled offsets places (slice_index places (k + own)) p.bytes.items p.fixups.items ++ back)
    pub at : slice_index (places_from from ps) own ≡ from + length front
    pub fits : length front + length p.bytes.items ≤ total_of ps

  among : (k from own : ℕ) (ps : List Part) (p : Part) → slice_get ps own ≡ Some p → Among k from own ps p
  among k from own [] p e = absurd (cc)
  among k from zero (q ∷ ps) p e =
      let s = same_Some q p e in
      let z : k ≡ k + 0 = omega arith in
      let l = ap (λ (x : Part). length x.bytes.items) s in
      record {
        front = [];
        back = all_filled offsets places (k + 1) ps;
        is = ap (λ (x : Part). filled offsets places (slice_index places k) x.bytes.items x.fixups.items ++ all_filled offsets places (k + 1) ps) s ∙ ap (λ n. filled offsets places (slice_index places n) p.bytes.items p.fixups.items ++ all_filled offsets places (k + 1) ps) z;
        at = omega arith;
        fits = omega (arith, l);
      }
  among k from (suc own) (q ∷ ps) p e =
      let b = filled offsets places (slice_index places k) q.bytes.items q.fixups.items in
      let r = among (k + 1) (from + length q.bytes.items) own ps p e in
      let next : k + 1 + own ≡ k + suc own = omega arith in
      let one = filled_long (slice_index places k) q.bytes.items q.fixups.items in
      let both = length-append b r.front in
      let r_at = r.at in
      let r_fits = r.fits in
      record {
        front = b ++ r.front;
        back = r.back;
        is = ap (λ l. b ++ l) (r.is ∙ ap (λ n. r.front ++ (filled offsets places (slice_index places n) p.bytes.items p.fixups.items ++ r.back)) next) ∙ sym (append_assoc b r.front (filled offsets places (slice_index places (k + suc own)) p.bytes.items p.fixups.items ++ r.back));
        at = omega (arith, r_at, one, both);
        fits = omega (arith, r_fits, one, both);
      }

-- the steps of a part have all its bytes
spelt_long : (own : ℕ) (at : ℕ → ℕ) (k : ℕ) (xs : List Step) (bytes : List ℕ) (fixups : List Fixup) → AreSpelt own at k xs bytes fixups → at (k + length xs) ≡ at k + length bytes
spelt_long own at k [] bytes fixups h = let e : k + 0 ≡ k = omega arith in let p = ap at e in let q = ap length h.0 in omega (arith, p, q)
spelt_long own at k (x ∷ xs) bytes fixups (b, bs, f, fs, bytes_are, fixups_are, ends, spelt, rest) =
    let e : k + suc (length xs) ≡ suc k + length xs = omega arith in
    let p = ap at e in
    let r = spelt_long own at (suc k) xs bs fs rest in
    let q = ap length bytes_are ∙ length-append b bs in
    omega (arith, p, q, r, ends)

start_within : (own : ℕ) (steps : List Step) (bytes : List ℕ) (fixups : List Fixup) (is : IsPart own steps bytes fixups) (j : ℕ) → start is.sizes j ≤ length bytes
start_within own steps bytes fixups is j =
    let many : length is.sizes ≡ 0 + length steps = omega (arith, is.settled.many, length-map steps extent_of) in
    let all = sym (whole is.sizes) ∙ ap (start is.sizes) many in
    let long = spelt_long own (start is.sizes) 0 steps bytes fixups is.spelt in
    omega (arith, all, long, sum_by-take-le (λ x. x) is.sizes j)

regroup : (a b c d e f : List ℕ) → a ++ b ++ c ++ d ++ e ++ f ≡ a ++ (b ++ (c ++ (d ++ (e ++ f))))
regroup a b c d e f = simp append_assoc

-- ---- the whole

module _ (only : IsOneForm) (head : List Instr) (parts : List Part) (offsets places initial : List ℕ) (size base : ℕ) (rom : List ℕ) (base_is : base + size ≡ 65536)
    (fits : length (all_bytes head) + total_of parts + length initial + 16 ≤ size) (coded : AreCoded head)
    (is : rom ≡ rom_bytes (all_bytes head) (all_filled offsets places 0 parts) initial (bytes_of (i.JumpFar base code_segment)) size) where
  abbrev code : List ℕ
  code = all_filled offsets places 0 parts

  abbrev jump : List ℕ
  jump = bytes_of (i.JumpFar base code_segment)

  abbrev front : List ℕ
  front = all_bytes head ++ code ++ initial

  abbrev gap : List ℕ
  gap = replicate (size - 16 - length front) 0

  abbrev tail : List ℕ
  tail = replicate (16 - length jump) 0

  pub jump_long : length jump ≡ 5
  unfolding form_of
  jump_long = refl

  pub front_long : length front ≡ length (all_bytes head) + total_of parts + length initial
  front_long =
      let a = length-append (all_bytes head ++ code) initial in
      let b = length-append (all_bytes head) code in
      let c = all_filled_long offsets places 0 parts in
      omega (arith, a, b, c)

  before_jump : length (front ++ gap) ≡ size - 16
  before_jump =
      let a = length-append front gap in
      let b = length-replicate {A = ℕ} (size - 16 - length front) 0 in
      let c = front_long in
      omega (arith, a, b, c, fits)

  pub rom_long : length rom ≡ size
  rom_long =
      let e = ap length is in
      let a = length-append (front ++ gap ++ jump) tail in
      let b = length-append (front ++ gap) jump in
      let c = length-replicate {A = ℕ} (16 - length jump) 0 in
      let d = before_jump in
      let j = jump_long in
      omega (arith, e, a, b, c, d, j, fits)

  ends : base + length rom ≡ 65536
  ends = let l = rom_long in omega (arith, l, base_is)

  rest : List ℕ
  rest = initial ++ (gap ++ (jump ++ tail))

  unfolded : rom ≡ all_bytes head ++ (code ++ (initial ++ (gap ++ (jump ++ tail))))
  unfolded = is ∙ regroup (all_bytes head) code initial gap jump tail

  pub resets : Spells jump (i.JumpFar base code_segment) → rom_code rom reset_offset ≡ Some (i.JumpFar base code_segment, 5)
  resets spells =
      let l = before_jump in
      code_at only rom base ends (front ++ gap) jump tail reset_offset (i.JumpFar base code_segment) (is ∙ append_assoc (front ++ gap) jump tail) (omega (arith, l, fits, base_is)) spells
      ∙ ap (λ n. Some (i.JumpFar base code_segment, n)) jump_long

  pub initial_there : (i : ℕ) → i < length initial → rom_byte rom (base + length (all_bytes head) + total_of parts + i) ≡ slice_index initial i
  initial_there i lt =
      let l = rom_long in
      let n = all_filled_long offsets places 0 parts in
      let at : base + length (all_bytes head) + total_of parts + i + length rom - 65536 ≡ length (all_bytes head) + (length code + i) = omega (arith, l, base_is, n) in
      ap (slice_index rom) at
      ∙ ap (λ r. slice_index r (length (all_bytes head) + (length code + i))) unfolded
      ∙ get_or-append-add (all_bytes head) (code ++ (initial ++ (gap ++ (jump ++ tail)))) (length code + i) 0
      ∙ get_or-append-add code (initial ++ (gap ++ (jump ++ tail))) i 0
      ∙ get_or_append_left initial (gap ++ (jump ++ tail)) 0 i lt

  in_order : (before : List ℕ) (ns : List Instr) (after : List ℕ) (p : ℕ) → rom ≡ before ++ (all_bytes ns ++ after) → base + length before ≡ p → AreCoded ns → StandInOrder (rom_code rom) p ns
  in_order before [] after p e at c = tt
  in_order before (n ∷ ns) after p e at c =
      let e1 : rom ≡ before ++ (bytes_of n ++ (all_bytes ns ++ after)) = e ∙ ap (λ l. before ++ l) (append_assoc (bytes_of n) (all_bytes ns) after) in
      let e2 : rom ≡ (before ++ bytes_of n) ++ (all_bytes ns ++ after) = e1 ∙ sym (append_assoc before (bytes_of n) (all_bytes ns ++ after)) in
      let l = length-append before (bytes_of n) in
      (code_at only rom base ends before (bytes_of n) (all_bytes ns ++ after) p n e1 at c.0, in_order (before ++ bytes_of n) ns after (p + length (bytes_of n)) e2 (omega (arith, l, at)) c.1)

  pub head_stands : StandInOrder (rom_code rom) base head
  head_stands = in_order [] head (code ++ (initial ++ (gap ++ (jump ++ tail)))) base unfolded (omega arith) coded

  pub parts_stand : places ≡ places_from (base + length (all_bytes head)) parts → PartsStand (rom_code rom) (rom_words rom) offsets places parts
  parts_stand placed own p steps there part =
      let a = among offsets places 0 (base + length (all_bytes head)) own parts p there in
      let z : 0 + own ≡ own = omega arith in
      let here = slice_index places own in
      let at : here ≡ base + length (all_bytes head) + length a.front = ap (λ l. slice_index l own) placed ∙ a.at in
      let b = filled offsets places here p.bytes.items p.fixups.items in
      let others = initial ++ (gap ++ (jump ++ tail)) in
      let a_is : code ≡ a.front ++ (b ++ a.back) = a.is ∙ ap (λ n. a.front ++ (filled offsets places (slice_index places n) p.bytes.items p.fixups.items ++ a.back)) z in
      let e : rom ≡ (all_bytes head ++ a.front) ++ (b ++ (a.back ++ others)) = unfolded ∙ ap (λ l. all_bytes head ++ (l ++ others)) a_is ∙ shifted (all_bytes head) a.front b a.back others in
      let l = length-append (all_bytes head) a.front in
      let a_fits = a.fits in
      let linked = linked_part offsets places here own (start part.sizes) steps p.bytes.items p.fixups.items refl part.spelt in
      all_stand only rom base ends offsets places own (start part.sizes)
      (λ j. let w = start_within own steps p.bytes.items p.fixups.items part j in omega (arith, w, at, a_fits, fits, base_is))
      0 steps (all_bytes head ++ a.front) b (a.back ++ others) e (omega (arith, l, at)) linked.0
    where
      shifted : (a b c d e : List ℕ) → a ++ ((b ++ (c ++ d)) ++ e) ≡ (a ++ b) ++ (c ++ (d ++ e))
      shifted a b c d e = simp append_assoc

-- ---- how it is written

module _ (head code initial jump r0 r1 r2 r3 r4 r5 : List ℕ) (size : ℕ) (fits : length head + length code + length initial + 16 ≤ size) (short : length jump ≤ 16)
    (e0 : r0 ≡ []) (e1 : r1 ≡ r0 ++ head) (e2 : r2 ≡ r1 ++ code) (e3 : r3 ≡ r2 ++ initial) where
  third_is : r3 ≡ head ++ code ++ initial
  third_is = e3 ∙ ap (λ l. l ++ initial) (e2 ∙ ap (λ l. l ++ code) (e1 ∙ ap (λ l. l ++ head) e0))

  pub third_long : length r3 ≡ length head + length code + length initial
  third_long = ap length third_is ∙ length-append (head ++ code) initial ∙ ap (λ n. n + length initial) (length-append head code)

  module _ (e4 : r4 ≡ r3 ++ replicate (size - 16 - length r3) 0) (e5 : r5 ≡ r4 ++ jump) where
    pub fifth_long : length r5 ≡ size - 16 + length jump
    fifth_long =
        let a = ap length e5 ∙ length-append r4 jump in
        let b = ap length e4 ∙ length-append r3 (replicate (size - 16 - length r3) 0) in
        let c = length-replicate {A = ℕ} (size - 16 - length r3) 0 in
        let d = third_long in
        omega (arith, a, b, c, d, fits)

    pub sixth_is : (r6 : List ℕ) → r6 ≡ r5 ++ replicate (size - length r5) 0 → r6 ≡ rom_bytes head code initial jump size
    sixth_is r6 e6 =
        let n : size - length r5 ≡ 16 - length jump = let f = fifth_long in omega (arith, f, fits, short) in
        let a : r4 ≡ (head ++ code ++ initial) ++ replicate (size - 16 - length (head ++ code ++ initial)) 0 = e4 ∙ ap (λ l. l ++ replicate (size - 16 - length l) 0) third_is in
        e6 ∙ ap₂ (λ l m. l ++ replicate m 0) (e5 ∙ ap (λ l. l ++ jump) a) n
