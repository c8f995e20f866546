-- What is decoded from a ROM is spelt by its bytes.
use Rattle.std.proofs.Common.{◌≡◌, ℕ, ◌+◌, ◌-◌, ◌%◌, ◌<◌, ◌≤◌, List, length, get_or, take, drop, Some, None, inl, inr, sym, ap, ◌∙◌, arith, length-drop}
use Rattle.std.specs.Prelude.{if◌then◌else◌}
use Rattle.std.proofs.lemmas.Bool.{cases_lt, lt-ltb, le-ltb}
use Rattle.std.proofs.lemmas.List.{get_or-drop, get_or-take, length-take-le}
use Rattle.i86_table.specs.declared.instruction.Instr.{Instr}
use Rattle.i86_code.specs.Forms.{Spells}
use Rattle.i86_code.specs.Decoding.{decoded}
use Rattle.i86_code.specs.Coding.{AreBytes, DecodedSpells}
use Rattle.layout_link.specs.Rom.{Written, CodeInRom, rom_code}

module _ (law : DecodedSpells) (rom : List ℕ) (small : AreBytes rom) (size : length rom ≤ 65536) where
  abbrev from : ℕ → List ℕ
  from p = drop (p + length rom - 65536) rom

  record Found (p : ℕ) (d : Instr × ℕ) : Type 0 where
    pub inside : 65536 ≤ p + length rom
    pub spells : Spells (take d.1 (from p)) d.0
    pub some : 0 < d.1
    pub within : d.1 ≤ length (from p)

  from_small : (p : ℕ) → AreBytes (from p)
  from_small p i = let e = get_or-drop (p + length rom - 65536) rom i 0 in omega (arith, e, small (p + length rom - 65536 + i))

  found : (p : ℕ) (d : Instr × ℕ) → rom_code rom p ≡ Some d → Found p d
  found p d e =
      elim (cases_lt (p + length rom) 65536) [
        | inl lt ↦
            let none : None ≡ Some d = sym (ap (λ b. if b then None else decoded (from p)) (lt-ltb (p + length rom) 65536 lt)) ∙ e in
            absurd (cc)
        | inr ge ↦
            let is : decoded (from p) ≡ Some d = sym (ap (λ b. if b then None else decoded (from p)) (le-ltb (p + length rom) 65536 ge)) ∙ e in
            let all = law (from p) d.0 d.1 (from_small p) is in
            record { inside = ge; spells = all.0; some = all.1; within = all.2 }
      ]

  ends : (p : ℕ) (d : Instr × ℕ) → Found p d → p + d.1 ≤ 65536
  ends p d f = let l = length-drop (p + length rom - 65536) rom in omega (arith, l, f.inside, f.some, f.within, size)

  written : (p : ℕ) (d : Instr × ℕ) → Found p d → Written rom p (take d.1 (from p))
  written p d f =
      let long = length-take-le d.1 (from p) f.within in
      record {
        inside = f.inside;
        fits = let e = ends p d f in omega (arith, e, long);
        bytes_are = λ k lt.
            let k_in : k < d.1 = omega (arith, lt, long) in
            let at : p + k + length rom - 65536 ≡ p + length rom - 65536 + k = let i = f.inside in omega (arith, i) in
            let taken = get_or-take d.1 (from p) k 0 k_in ∙ get_or-drop (p + length rom - 65536) rom k 0 in
            let low = small (p + length rom - 65536 + k) in
            ap (λ n. get_or rom n 0 % 256) at ∙ omega (arith, low) ∙ sym taken;
      }

  pub is_code_in_rom : CodeInRom rom (rom_code rom)
  is_code_in_rom = record {
    size = size;
    low = λ p d e. let f = found p d e in let l = ends p d f in omega (arith, l, f.some);
    written = λ p d e. let f = found p d e in (take d.1 (from p), f.spells, length-take-le d.1 (from p) f.within, written p d f);
  }
