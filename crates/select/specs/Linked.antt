-- Where the steps of placed parts stand in the code.
use Rattle.std.specs.Prelude.{ℕ, suc, ◌≡◌, ◌+◌, ◌-◌, ◌%◌, ◌⊎◌, List, [], ◌∷◌, slice_index, Option, Some}
use Rattle.i86_table.specs.declared.instruction.Instr.{Instr}
use Rattle.i86_table.specs.declared.instruction.Instr.TheVariants as i
use Rattle.i86_table.specs.Arithmetic.{sign_extended}
use Rattle.i86_table.specs.Inverse.{inverse}
use Rattle.i86_table.specs.Contexts.{further}
use Rattle.i86_table.specs.Open.{closed}
use Rattle.i86_code.specs.Open.{back_of}
use Rattle.select.specs.declared.part.Kind.{Kind}
use Rattle.select.specs.declared.part.Kind.TheVariants.{Offset, Near, Case}
use Rattle.select.specs.declared.part.Step.{Step}
use Rattle.select.specs.declared.part.Step.TheVariants.{Plain, Refer, AtStep, Word, Goto, GotoIf}
use Rattle.select.specs.Parts.{target_of}

-- objects lie at these offsets, parts begin at these places
module _ (offsets places : List ℕ) where
  -- what is added to a word that ends at a place
  abbrev pub value_at : Kind → (name behind : ℕ) → ℕ
  value_at Offset name behind = slice_index offsets name
  value_at Near name behind = (slice_index places name + 65536 - behind % 65536) % 65536
  value_at Case name behind = slice_index places name

-- where a word ends, behind which these bytes stand up to there
abbrev pub word_end : (behind : List ℕ) → (there : ℕ) → ℕ
word_end [] there = there
word_end (b ∷ bs) there = word_end bs there - 1

-- the instruction stands here, and the next one there
abbrev pub StandsAt : (code : ℕ → Option (Instr × ℕ)) (here : ℕ) → Instr → (there : ℕ) → Type 0
StandsAt code here n there = (size : ℕ) × (code here ≡ Some (n, size)) × (here + size ≡ there)

-- the code has these instructions and, in its tables, these words
module _ (code : ℕ → Option (Instr × ℕ)) (words : ℕ → Option ℕ) (offsets places : List ℕ) where
  -- From here up to there the code has a step whose target stands at that place. A jump may be short or long: what a context does at it is the same.
  abbrev pub Stands : (here there to : ℕ) → Step → Type 0
  Stands here there to (Plain n) = StandsAt code here n there
  Stands here there to (Refer x n kind name) = StandsAt code here (closed x ((n + value_at offsets places kind name (word_end (back_of x) there)) % 65536)) there
  Stands here there to (AtStep x t) = StandsAt code here (closed x to) there
  Stands here there to (Word t) = (words here ≡ Some to) × (here + 2 ≡ there)
  Stands here there to (Goto t) =
      ((d : ℕ) × StandsAt code here (i.JumpShort d) there × (further there (sign_extended d) ≡ to)) ⊎ ((d : ℕ) × StandsAt code here (i.Jump d) there × (further there d ≡ to))
  Stands here there to (GotoIf c t) =
      ((d : ℕ) × StandsAt code here (i.JumpIf c d) there × (further there (sign_extended d) ≡ to))
      ⊎ ((d : ℕ) × (middle : ℕ) × StandsAt code here (i.JumpIf (inverse c) 3) middle × StandsAt code middle (i.Jump d) there × (further middle (sign_extended 3) ≡ there) × (further there d ≡ to))

  -- each step of a part stands at its place
  abbrev pub AllStand : (at : ℕ → ℕ) (k : ℕ) → List Step → Type 0
  AllStand at k [] = Unit {0}
  AllStand at k (x ∷ xs) = Stands (at k) (at (suc k)) (at (target_of x)) x × AllStand at (suc k) xs
