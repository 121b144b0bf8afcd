-- Who hears nothing.
use Rattle.std.specs.Prelude.{[], ◌∷◌, codes}
use Rattle.std.specs.declared.option.Option.TheVariants.{None}
use Rattle.flow_monitor.specs.Ears.{Ears}
use Rattle.flow_top.specs.declared.deaf.Deaf.{Deaf}
use Rattle.flow_top.specs.declared.deaf.Deaf.TheVariants.{Nobody, One}

-- nobody at all, or one who is deaf
abbrev pub ears_of : Deaf → Ears
ears_of Nobody = []
ears_of One = record { name = codes "deaf"; ear = None } ∷ []
