-- What the bytes of a part spell once its words are filled in.
use Rattle.std.specs.Prelude.{ℕ, suc, ◌≡◌, ◌+◌, ◌%◌, ◌⊎◌, List, [], ◌∷◌, ◌++◌, length, slice_index}
use Rattle.i86_table.specs.declared.instruction.Instr.TheVariants as i
use Rattle.i86_table.specs.Arithmetic.{sign_extended}
use Rattle.i86_table.specs.Inverse.{inverse}
use Rattle.i86_table.specs.Contexts.{further}
use Rattle.i86_table.specs.Open.{closed}
use Rattle.i86_code.specs.Forms.{word_bytes, Spells}
use Rattle.i86_code.specs.Open.{back_of}
use Rattle.select.specs.declared.part.Step.{Step}
use Rattle.select.specs.declared.part.Step.TheVariants.{Plain, Refer, AtStep, Word, Goto, GotoIf}
use Rattle.select.specs.Parts.{target_of}
use Rattle.select.specs.Linked.{value_at, word_end}

-- From here up to there these bytes spell a step whose target is at that place, places being counted from the part's beginning.
module _ (offsets places : List ℕ) (base own : ℕ) where
  abbrev pub IsLinked : (here there to : ℕ) → Step → List ℕ → Type 0
  IsLinked here there to (Plain n) b = Spells b n
  IsLinked here there to (Refer x n kind name) b = Spells b (closed x ((n + value_at offsets places kind name (word_end (back_of x) (base + there))) % 65536))
  IsLinked here there to (AtStep x t) b = Spells b (closed x ((to % 65536 + slice_index places own) % 65536))
  IsLinked here there to (Word t) b = b ≡ word_bytes ((to % 65536 + slice_index places own) % 65536)
  IsLinked here there to (Goto t) b =
      ((d : ℕ) × Spells b (i.JumpShort d) × (further there (sign_extended d) ≡ to % 65536)) ⊎ ((d : ℕ) × Spells b (i.Jump d) × (further there d ≡ to % 65536))
  IsLinked here there to (GotoIf c t) b =
      ((d : ℕ) × Spells b (i.JumpIf c d) × (further there (sign_extended d) ≡ to % 65536))
      ⊎ ((d : ℕ) × (over : List ℕ) × (long : List ℕ) × (b ≡ over ++ long) × Spells over (i.JumpIf (inverse c) 3) × (length over ≡ 2) × Spells long (i.Jump d) × (length long ≡ 3) × (further there d ≡ to % 65536))

  abbrev pub AreLinked : (at : ℕ → ℕ) (k : ℕ) → List Step → List ℕ → Type 0
  AreLinked at k [] bytes = bytes ≡ []
  AreLinked at k (x ∷ xs) bytes =
      (b : List ℕ) × (bs : List ℕ) × (bytes ≡ b ++ bs) × (at k + length b ≡ at (suc k)) × IsLinked (at k) (at (suc k)) (at (target_of x)) x b × AreLinked at (suc k) xs bs
