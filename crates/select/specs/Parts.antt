-- Parts: what their bytes spell, but for the words that are filled in when they are placed.
use Rattle.std.specs.Prelude.{ℕ, suc, ◌≡◌, ◌+◌, ◌%◌, ◌⊎◌, List, [], ◌∷◌, ◌++◌, length, map}
use Rattle.i86_table.specs.declared.instruction.Instr.TheVariants as i
use Rattle.i86_table.specs.Arithmetic.{sign_extended}
use Rattle.i86_table.specs.Inverse.{inverse}
use Rattle.i86_table.specs.Contexts.{further}
use Rattle.i86_code.specs.Forms.{word_bytes, Spells}
use Rattle.i86_code.specs.Writing.{bytes_of}
use Rattle.i86_code.specs.Open.{front_of, back_of, open_bytes, IsOpen}
use Rattle.select.specs.declared.sizes.Extent.{Extent}
use Rattle.select.specs.declared.sizes.Extent.TheVariants.{Fixed, Jump}
use Rattle.select.specs.declared.part.Kind.{Kind}
use Rattle.select.specs.declared.part.Kind.TheVariants.{Case}
use Rattle.select.specs.declared.part.Fixup.{Fixup}
use Rattle.select.specs.declared.part.Step.{Step}
use Rattle.select.specs.declared.part.Step.TheVariants.{Plain, Refer, AtStep, Word, Goto, GotoIf}
use Rattle.select.specs.Sizes.{start, AreSettled, AreLeast}

-- the step to which one refers
abbrev pub target_of : Step → ℕ
target_of (Plain n) = 0
target_of (Refer x n k name) = 0
target_of (AtStep x t) = t
target_of (Word t) = t
target_of (Goto t) = t
target_of (GotoIf c t) = t

-- how many bytes a step has: a long jump has three, and where it has a condition, five
abbrev pub extent_of : Step → Extent
extent_of (Plain n) = Fixed (length (bytes_of n))
extent_of (Refer x n k name) = Fixed (length (front_of x) + 2 + length (back_of x))
extent_of (AtStep x t) = Fixed (length (front_of x) + 2 + length (back_of x))
extent_of (Word t) = Fixed 2
extent_of (Goto t) = Jump t 3
extent_of (GotoIf c t) = Jump t 5

abbrev pub fixup : ℕ → Kind → ℕ → Fixup
fixup place kind name = record { place = place; kind = kind; name = name }

-- From here up to there these bytes spell a step whose target is at that place, and these are the words to be filled in. Places are
-- counted from the part's beginning. A jump is short or long: its target is the same.
abbrev pub IsSpelt : (own here there to : ℕ) → Step → List ℕ → List Fixup → Type 0
IsSpelt own here there to (Plain n) b f = Spells b n × (f ≡ [])
IsSpelt own here there to (Refer x n kind name) b f = IsOpen x × (b ≡ open_bytes x n) × (f ≡ fixup (here + length (front_of x)) kind name ∷ [])
IsSpelt own here there to (AtStep x t) b f = IsOpen x × (b ≡ open_bytes x (to % 65536)) × (f ≡ fixup (here + length (front_of x)) Case own ∷ [])
IsSpelt own here there to (Word t) b f = (b ≡ word_bytes (to % 65536)) × (f ≡ fixup here Case own ∷ [])
IsSpelt own here there to (Goto t) b f =
    (f ≡ []) × (((d : ℕ) × Spells b (i.JumpShort d) × (further there (sign_extended d) ≡ to % 65536)) ⊎ ((d : ℕ) × Spells b (i.Jump d) × (further there d ≡ to % 65536)))
IsSpelt own here there to (GotoIf c t) b f =
    (f ≡ [])
    × (((d : ℕ) × Spells b (i.JumpIf c d) × (further there (sign_extended d) ≡ to % 65536))
    ⊎ ((d : ℕ) × (over : List ℕ) × (long : List ℕ) × (b ≡ over ++ long) × Spells over (i.JumpIf (inverse c) 3) × (length over ≡ 2) × Spells long (i.Jump d) × (length long ≡ 3) × (further there d ≡ to % 65536)))

-- the bytes of steps, one after another
abbrev pub AreSpelt : (own : ℕ) (at : ℕ → ℕ) (k : ℕ) → List Step → List ℕ → List Fixup → Type 0
AreSpelt own at k [] bytes fixups = (bytes ≡ []) × (fixups ≡ [])
AreSpelt own at k (x ∷ xs) bytes fixups =
    (b : List ℕ) × (bs : List ℕ) × (f : List Fixup) × (fs : List Fixup) × (bytes ≡ b ++ bs) × (fixups ≡ f ++ fs) × (at k + length b ≡ at (suc k))
    × IsSpelt own (at k) (at (suc k)) (at (target_of x)) x b f × AreSpelt own at (suc k) xs bs fs

-- a part of these steps, the jumps in it short where they can be
pub record IsPart (own : ℕ) (steps : List Step) (bytes : List ℕ) (fixups : List Fixup) : Type 0 where
  pub sizes : List ℕ
  pub settled : AreSettled (map extent_of steps) sizes
  pub least : AreLeast (map extent_of steps) sizes
  pub spelt : AreSpelt own (start sizes) 0 steps bytes fixups
