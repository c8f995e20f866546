-- A word of a ROM is spelt by two of its bytes.
use Rattle.std.proofs.Common.{◌≡◌, ℕ, zero, suc, ◌+◌, ◌-◌, ◌%◌, ◌/◌, ◌<◌, ◌≤◌, List, [], ◌∷◌, length, get_or, Some, None, inl, inr, sym, ap, ap₂, ◌∙◌, arith}
use Rattle.std.specs.Prelude.{nat_lt, ◌||◌, if◌then◌else◌}
use Rattle.std.proofs.lemmas.Bool.{cases_lt, lt-ltb, le-ltb}
use Rattle.std.proofs.lemmas.Option.{none-some, same_Some}
use Rattle.i86_code.specs.Coding.{AreBytes}
use Rattle.layout_link.specs.Rom.{rom_byte, Written, WordsInRom, word_in, rom_words}

module _ (rom : List ℕ) (small : AreBytes rom) (size : length rom ≤ 65536) where
  abbrev at : ℕ → ℕ
  at p = p + length rom - 65536

  -- the two bytes
  bytes_there : (p v : ℕ) → 65536 ≤ p + length rom → word_in rom (at p) ≡ v → (k : ℕ) → k < 2 → rom_byte rom (p + k) % 256 ≡ get_or (v % 256 ∷ v / 256 ∷ []) k 0
  bytes_there p v inside e zero lt =
      let here : p + 0 ≡ p = omega arith in
      let low = small (at p) in
      ap (λ n. rom_byte rom n % 256) here ∙ omega (arith, e, low)
  bytes_there p v inside e (suc zero) lt =
      let next : at (p + 1) ≡ at p + 1 = omega (arith, inside) in
      let low = small (at p) in
      let high = small (at p + 1) in
      ap (λ n. get_or rom n 0 % 256) next ∙ omega (arith, e, low, high)
  bytes_there p v inside e (suc (suc k)) lt = absurd (omega (arith, lt))

  word_written : (p v : ℕ) → 65536 ≤ p + length rom → p ≤ 65534 → word_in rom (at p) ≡ v → Written rom p (v % 256 ∷ v / 256 ∷ [])
  word_written p v inside fits e = record { inside = inside; fits = omega (arith, fits); bytes_are = bytes_there p v inside e }

  pub are_words_in_rom : WordsInRom rom (rom_words rom)
  are_words_in_rom p v e =
      elim (cases_lt (p + length rom) 65536) [
        | inl lt ↦ absurd (none-some v (sym (ap (λ b. if b || nat_lt 65534 p then None else Some (word_in rom (at p))) (lt-ltb (p + length rom) 65536 lt)) ∙ e))
        | inr ge ↦
            let first = le-ltb (p + length rom) 65536 ge in
            elim (cases_lt 65534 p) [
              | inl lt ↦ absurd (none-some v (sym (ap₂ (λ x y. if x || y then None else Some (word_in rom (at p))) first (lt-ltb 65534 p lt)) ∙ e))
              | inr le ↦ word_written p v ge le (same_Some (word_in rom (at p)) v (sym (ap₂ (λ x y. if x || y then None else Some (word_in rom (at p))) first (le-ltb 65534 p le)) ∙ e))
            ]
      ]
