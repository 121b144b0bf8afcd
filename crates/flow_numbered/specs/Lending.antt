-- What the things by number end as, where a `&mut` to one of them is returned.
use Rattle.std.specs.Prelude.{ℕ}
use Rattle.std.specs.Borrow.{Lends, Fml, RattleType, MutBor}
use Rattle.flow_numbered.specs.Numbered.{Store, with_thing}
use Rattle.flow_numbered.specs.contracts.numbered.Numbered.{the_row}

-- once the borrow ends, the number has the last value written through it
abbrev pub LendsThing : (V : RattleType) → MutBor (Store V.Denot) → ℕ → MutBor V.Denot → Fml
LendsThing V s n r = Lends (the_row V) V s r (with_thing s.now n)
