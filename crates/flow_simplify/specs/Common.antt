-- The common word of a world.
use Rattle.std.specs.Prelude.{◌≡◌, ℕ, ◌-◌, ◌*◌, ◌/◌, ◌%◌, ◌^◌, ◌<◌, Bool, true, false, ◌&&◌, nat_lt, nat_le}
use Rattle.std.specs.Int.{IsGcd}
use Rattle.flow_worldfile.specs.Worlds.{World}

-- the least common multiple of two numbers: one times the other, without their greatest common divisor
abbrev pub IsMultiple : (a b n : ℕ) → Type 0
IsMultiple a b n = (d : ℕ) × IsGcd a b d × (n ≡ a / d * b)

-- how many ticks a delay may be drawn of
abbrev pub width : ℕ × ℕ → ℕ
width span = span.1 - span.0

-- the least number of which 3 and the widths of both delays are divisors
abbrev pub IsStep : World → ℕ → Type 0
IsStep w n = (m : ℕ) × IsMultiple 3 (width w.latency) m × IsMultiple (width w.diskdelay) m n

-- a word that loses no packet
abbrev pub is_common : (word loss : ℕ) → Bool
is_common word loss = nat_lt word (2 ^ 32) && nat_le loss (word % 1000)

-- The common word of a world: the least of the first thousand multiples of its step that is a word and loses no packet. It gives the least
-- delays, and keeps a write at a loss of power. Where there is none, it is the permille that is lost, and 0 for 1,000.
pub data IsCommon (w : World) : ℕ → Type 0 where
  least : (step k : ℕ) → IsStep w step → k < 1000 → is_common (k * step) w.loss ≡ true
      → ((j : ℕ) → j < k → is_common (j * step) w.loss ≡ false) → IsCommon w (k * step)
  permille : (step : ℕ) → IsStep w step → ((j : ℕ) → j < 1000 → is_common (j * step) w.loss ≡ false) → IsCommon w (w.loss % 1000)
