-- Who hears nothing says nothing.
use Rattle.std.proofs.Common.{◌≡◌, ℕ, ◌<◌, zero, suc, length, refl, arith, codes, None}
use Rattle.flow_trace.specs.declared.line.Line.{Line}
use Rattle.flow_monitor.specs.Ears.{IsMonitorName, after, first_stop, name_at}
use Rattle.flow_top.specs.declared.deaf.Deaf.{Deaf}
use Rattle.flow_top.specs.declared.deaf.Deaf.TheVariants.{Nobody, One}
use Rattle.flow_top.specs.Deaf.{ears_of}

pub stays_deaf : (d : Deaf) (l : Line) → ears_of d ≡ after l (ears_of d)
stays_deaf Nobody l = refl
stays_deaf One l = refl

pub says_nothing : (d : Deaf) (l : Line) → None ≡ first_stop l (ears_of d)
says_nothing Nobody l = refl
says_nothing One l = refl

pub deaf_name : (d : Deaf) (k : ℕ) → d ≡ One → k < length (ears_of d) → (codes "deaf" ≡ name_at (ears_of d) k) × IsMonitorName (name_at (ears_of d) k)
deaf_name Nobody k is lt = absurd (omega (arith, lt))
deaf_name One zero is lt = (refl, record { letters = refl; least = omega arith; most = omega arith })
deaf_name One (suc k) is lt = absurd (omega (arith, lt))
