-- Where the steps of a part stand in a ROM.
use Rattle.std.proofs.Common.{◌≡◌, ℕ, suc, ◌+◌, ◌-◌, ◌%◌, ◌<◌, ◌≤◌, inl, inr, List, [], ◌∷◌, ◌++◌, length, drop, Option, Some, None, sym, ap, ap₂, ◌∙◌, subst, arith, append_assoc, length-append}
use Rattle.std.specs.Prelude.{nat_lt, ◌||◌, if◌then◌else◌, slice_index, false}
use Rattle.std.proofs.lemmas.Bool.{le-ltb}
use Rattle.std.proofs.lemmas.List.{drop_at}
use Rattle.i86_table.specs.declared.instruction.Instr.{Instr}
use Rattle.i86_table.specs.declared.instruction.Instr.TheVariants as i
use Rattle.i86_table.specs.Arithmetic.{sign_extended}
use Rattle.i86_table.specs.Contexts.{further}
use Rattle.i86_code.specs.Decoding.{decoded}
use Rattle.i86_code.specs.Coding.{IsOneForm}
use Rattle.select.specs.declared.part.Step.{Step}
use Rattle.select.specs.declared.part.Step.TheVariants.{Plain, Refer, AtStep, Word, Goto, GotoIf}
use Rattle.i86_table.specs.Open.{closed}
use Rattle.i86_table.specs.Inverse.{inverse}
use Rattle.select.specs.Parts.{target_of}
use Rattle.i86_code.specs.Forms.{word_bytes, Spells}
use Rattle.layout_link.specs.Rom.{word_in, rom_code, rom_words}
use Rattle.select.specs.Linked.{StandsAt, Stands, AllStand}
use Rattle.layout_link.specs.Inner.Linked.{IsLinked, AreLinked}
use Rattle.layout_link.proofs.Filling.{word_is}

-- a distance is the same wherever the part lies
moved : (part there x to : ℕ) → further there x ≡ to % 65536 → part + to < 65536 → further (part + there) x ≡ part + to
moved part there x to e low = omega (arith, e)

module _ (only : IsOneForm) (rom : List ℕ) (base : ℕ) (ends : base + length rom ≡ 65536) where
  -- what stands at a place
  pub code_at : (front b back : List ℕ) (p : ℕ) (n : Instr) → rom ≡ front ++ (b ++ back) → base + length front ≡ p → Spells b n → rom_code rom p ≡ Some (n, length b)
  code_at front b back p n is at spells =
      let le : 65536 ≤ p + length rom = omega arith in
      let t : nat_lt (p + length rom) 65536 ≡ false = le-ltb (p + length rom) 65536 le in
      let here : length front ≡ p + length rom - 65536 = omega arith in
      ap (λ c. if c then None else decoded (drop (p + length rom - 65536) rom)) t
      ∙ ap (λ l. decoded (drop (p + length rom - 65536) l)) is
      ∙ ap decoded (drop_at front (b ++ back) (p + length rom - 65536) here)
      ∙ only b back n spells

  module _ (offsets places : List ℕ) (own : ℕ) (at : ℕ → ℕ) (low : (j : ℕ) → slice_index places own + at j < 65536) where
    abbrev part : ℕ
    part = slice_index places own

    abbrev code : ℕ → Option (Instr × ℕ)
    code = rom_code rom

    abbrev words : ℕ → Option ℕ
    words = rom_words rom

    abbrev place : ℕ → ℕ
    place j = part + at j

    stands_at : (front b back : List ℕ) (here there : ℕ) (n : Instr) → rom ≡ front ++ (b ++ back) → base + length front ≡ here → here + length b ≡ there → Spells b n → StandsAt code here n there
    stands_at front b back here there n is lies end spells = (length b, code_at front b back here n is lies spells, end)

    stands : (k : ℕ) (x : Step) (front b back : List ℕ) → rom ≡ front ++ (b ++ back) → base + length front ≡ place k → at k + length b ≡ at (suc k)
        → IsLinked offsets places part own (at k) (at (suc k)) (at (target_of x)) x b → Stands code words offsets places (place k) (place (suc k)) (place (target_of x)) x
    stands k (Plain n) front b back is lies end h = stands_at front b back (place k) (place (suc k)) n is lies (omega (arith, end)) h
    stands k (Refer y n kind name) front b back is lies end h = stands_at front b back (place k) (place (suc k)) _ is lies (omega (arith, end)) h
    stands k (AtStep y t) front b back is lies end h =
        let lo = low t in
        let e : (at t % 65536 + part) % 65536 ≡ place t = omega arith in
        stands_at front b back (place k) (place (suc k)) (closed y (place t)) is lies (omega (arith, end)) (subst (λ n. Spells b (closed y n)) e h)
    stands k (Word t) front b back is lies end h =
        let lo = low t in
        let e : (at t % 65536 + part) % 65536 ≡ place t = omega arith in
        let b_is : b ≡ word_bytes (place t) = h ∙ ap word_bytes e in
        let two = ap length h in
        let here : place k + length rom - 65536 ≡ length front = omega arith in
        let lo2 = low (suc k) in
        let inside : nat_lt (place k + length rom) 65536 ≡ false = le-ltb (place k + length rom) 65536 (omega arith) in
        let ends_below : nat_lt 65534 (place k) ≡ false = le-ltb 65534 (place k) (omega (arith, lo2, end, two)) in
        let value : word_in rom (place k + length rom - 65536) ≡ place t = ap (word_in rom) here ∙ ap (λ l. word_in l (length front)) (is ∙ ap (λ l. front ++ (l ++ back)) b_is) ∙ word_is front (place t) back in (
          ap₂ (λ x y. if x || y then None else Some (word_in rom (place k + length rom - 65536))) inside ends_below ∙ ap (λ n. Some n) value,
          omega (arith, end, two),
        )
    stands k (Goto t) front b back is lies end h =
        elim h [
          | inl s ↦ inl (s.0, stands_at front b back (place k) (place (suc k)) _ is lies (omega (arith, end)) s.1, moved part (at (suc k)) (sign_extended s.0) (at t) s.2 (low t))
          | inr s ↦ inr (s.0, stands_at front b back (place k) (place (suc k)) _ is lies (omega (arith, end)) s.1, moved part (at (suc k)) s.0 (at t) s.2 (low t))
        ]
    stands k (GotoIf c t) front b back is lies end h =
        elim h [
          | inl s ↦ inl (s.0, stands_at front b back (place k) (place (suc k)) _ is lies (omega (arith, end)) s.1, moved part (at (suc k)) (sign_extended s.0) (at t) s.2 (low t))
          | inr (d, over, long, b_is, spells_over, two, spells_long, three, leads) ↦
              let middle = place k + 2 in
              let both = length-append over long in
              let size = ap length b_is in
              let l1 = length-append front over in
              let is1 : rom ≡ front ++ (over ++ (long ++ back)) = is ∙ ap (λ l. front ++ (l ++ back)) b_is ∙ ap (λ l. front ++ l) (append_assoc over long back) in
              let is2 : rom ≡ (front ++ over) ++ (long ++ back) = is1 ∙ sym (append_assoc front over (long ++ back)) in
              let lo = low (suc k) in
              inr (
                d,
                middle,
                stands_at front over (long ++ back) (place k) middle (i.JumpIf (inverse c) 3) is1 lies (omega (arith, two)) spells_over,
                stands_at (front ++ over) long back middle (place (suc k)) (i.Jump d) is2 (omega (arith, l1, two, lies)) (omega (arith, end, both, size, two, three)) spells_long,
                omega (arith, end, both, size, two, three, lo),
                moved part (at (suc k)) d (at t) leads (low t),
              )
        ]

    -- all steps of a part stand
    pub all_stand : (k : ℕ) (xs : List Step) (front bytes back : List ℕ) → rom ≡ front ++ (bytes ++ back) → base + length front ≡ place k → AreLinked offsets places part own at k xs bytes → AllStand code words offsets places place k xs
    all_stand k [] front bytes back is lies h = tt
    all_stand k (x ∷ xs) front bytes back is lies (b, bs, bytes_are, end, linked, rest) =
        let is1 : rom ≡ front ++ (b ++ (bs ++ back)) = is ∙ ap (λ l. front ++ (l ++ back)) bytes_are ∙ ap (λ l. front ++ l) (append_assoc b bs back) in
        let is2 : rom ≡ (front ++ b) ++ (bs ++ back) = is1 ∙ sym (append_assoc front b (bs ++ back)) in
        let l1 = length-append front b in (
          stands k x front b (bs ++ back) is1 lies end linked,
          all_stand (suc k) xs (front ++ b) bs back is2 (omega (arith, l1, lies, end)) rest,
        )
