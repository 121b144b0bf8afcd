-- Which ports of the definitions the ports of a process show.
use Rattle.std.specs.Prelude.{◌≡◌, ℕ, [], ◌∷◌}
use Rattle.std.specs.Ordering.{nat_cmp}
use Rattle.std.specs.BTreeMap.{get}
use Rattle.std.specs.declared.option.Option.TheVariants.{None}
use Rattle.flow_numbered.specs.Numbered.{Numbered, thing}
use Rattle.flow_meaning.specs.Dropping.{port_of}
use Rattle.flow_world.specs.declared.ports.Ports.{Ports}

-- each port and each stream stands there once
abbrev pub Once : Numbered ℕ → Type 0
Once [] = Unit {0}
Once (x ∷ xs) = (thing xs x.0 ≡ None) × (port_of x.1 xs ≡ None) × Once xs

-- the same streams of ports, and the same ports of streams
pub record PortsRepresent (p : Ports) (ps : Numbered ℕ) : Type 0 where
  pub streams : (port : ℕ) → get nat_cmp p.streams port ≡ thing ps port
  pub ports : (cell : ℕ) → get nat_cmp p.ports cell ≡ port_of cell ps
  pub once : Once ps
