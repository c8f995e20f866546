-- Many pulses of what a channel counts.
use Rattle.std.specs.Prelude.{ℕ, zero, suc, true, false, ◌≡◌, ◌<◌}
use Rattle.pit8253.specs.Progress.{Progress, one, is_high}

-- k single pulses
unfoldable pub pulses : ℕ → Progress → Progress
pulses zero s = s
pulses (suc k) s = one (pulses k s)

-- OUT changes from low to high at one of k single pulses
abbrev pub Rises : ℕ → Progress → Type 0
Rises k s = (i : ℕ) × (i < k) × (is_high (pulses i s) ≡ false) × (is_high (pulses (suc i) s) ≡ true)
