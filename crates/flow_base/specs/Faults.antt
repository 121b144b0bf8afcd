-- Counts of faults, and when a fault may be answered.
use Rattle.std.specs.Prelude.{◌≡◌, ℕ, ◌+◌, ◌-◌, ◌^◌, ◌≤◌, min, nat_lt, Result, Ok, Err, IsErrOf, if◌then◌else◌}
use Rattle.flow_base.specs.declared.fault.OutFault.{OutFault}
use Rattle.flow_base.specs.declared.fault.OutFault.TheVariants.{Failed, OutOfMemory}

-- the count after one more; at its last value it stands still
abbrev pub next_count : ℕ → ℕ
next_count n = if nat_lt n (2 ^ 64 - 1) then n + 1 else n

-- a count rose, or stands at its last value
abbrev pub Rose : ℕ → ℕ → Type 0
Rose before after = min (before + 1) (2 ^ 64 - 1) ≤ after

-- the count of faults didn't fall, and `Failed` was answered only where it rose
pub record HasCause {T : Type 0} (before after : ℕ) (result : Result T OutFault) : Type 0 where
  pub kept : before ≤ after
  pub failed : IsErrOf result Failed → Rose before after

-- a call that fails is counted, and no other is
abbrev pub Counts : {T : Type 0} → (before after : ℕ) → Result T OutFault → Type 0
Counts before after (Ok answer) = after ≡ before
Counts before after (Err Failed) = after ≡ next_count before
Counts before after (Err OutOfMemory) = after ≡ before

-- a failure is counted, and want of memory isn't
abbrev pub CountsFault : (before after : ℕ) → OutFault → Type 0
CountsFault before after Failed = after ≡ next_count before
CountsFault before after OutOfMemory = after ≡ before
