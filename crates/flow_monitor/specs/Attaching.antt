-- Which monitors make a panel.
use Rattle.std.specs.Prelude.{◌≡◌, ◌⊎◌, Result, Ok, Err, ℕ, zero, suc, List, [], ◌∷◌, ◌++◌, Bool, false, nat_lt, length, position, bytes_eq, slice_get, if◌then◌else◌}
use Rattle.std.specs.List.{list_any}
use Rattle.std.specs.declared.option.Option.{Option}
use Rattle.std.specs.declared.option.Option.TheVariants.{None, Some}
use Rattle.flow_monitor.specs.declared.attach.PanelFault.{PanelFault}
use Rattle.flow_monitor.specs.declared.attach.PanelFault.TheVariants.{NoMonitor, Twice, OutOfMemory}
use Rattle.flow_monitor.specs.declared.attach.Want.{Want}
use Rattle.flow_monitor.specs.Ears.{Ear, Ears}

-- a monitor that is handed in: its name, and what it says once it has begun with a limit
pub record Handed : Type 0 where
  pub name : List ℕ
  pub begun : ℕ → Ear

-- the limit with which a name is wanted, if it is
abbrev pub limit_of : List Want → (name : List ℕ) → Option ℕ
limit_of [] name = None
limit_of (w ∷ ws) name = if bytes_eq w.name name then Some w.limit else limit_of ws name

abbrev pub is_among : (names : List (List ℕ)) → (name : List ℕ) → Bool
is_among names name = list_any (λ other. bytes_eq other name) names

abbrev pub has : Ears → (name : List ℕ) → Bool
has ears name = list_any (λ l. bytes_eq l.name name) ears

abbrev pub joined : Option ℕ → Handed → Ears → Ears
joined None m ears = ears
joined (Some limit) m ears = ears ++ record { name = m.name; ear = Some (m.begun limit) } ∷ []

-- a monitor joins a panel where its name is wanted and nobody there has it
abbrev pub joins : List Want → Ears → Handed → Ears
joins wanted ears m = joined (if has ears m.name then None else limit_of wanted m.name) m ears

-- those that are handed in join in that order
abbrev pub joined_by : List Want → Ears → List Handed → Ears
joined_by wanted ears [] = ears
joined_by wanted ears (m ∷ ms) = joined_by wanted (joins wanted ears m) ms

abbrev pub attached : List Want → List Handed → Ears
attached wanted handed = joined_by wanted [] handed

-- A wanted item fails of whose name another comes before it, or for which no monitor is handed in.
abbrev pub is_before : Option ℕ → ℕ → Bool
is_before None k = false
is_before (Some first) k = nat_lt first k

abbrev pub fault_of : (twice there : Bool) → ℕ → Option PanelFault
fault_of twice there k = if twice then Some (Twice k) else if there then None else Some (NoMonitor k)

abbrev pub named_fault : (names : List (List ℕ)) → List Want → ℕ → (name : List ℕ) → Option PanelFault
named_fault names wanted k name = fault_of (is_before (position (λ w. bytes_eq w.name name) wanted) k) (is_among names name) k

abbrev pub item_fault : (names : List (List ℕ)) → List Want → ℕ → Option Want → Option PanelFault
item_fault names wanted k None = None
item_fault names wanted k (Some w) = named_fault names wanted k w.name

abbrev pub or_later : Option PanelFault → Option PanelFault → Option PanelFault
or_later (Some fault) later = Some fault
or_later None later = later

-- the first of the items below n that fails
abbrev pub fault_below : (names : List (List ℕ)) → List Want → ℕ → Option PanelFault
fault_below names wanted zero = None
fault_below names wanted (suc n) = or_later (fault_below names wanted n) (item_fault names wanted n (slice_get wanted n))

-- the first that does
abbrev pub want_fault : (names : List (List ℕ)) → List Want → Option PanelFault
want_fault names wanted = fault_below names wanted (length wanted)

-- there is a panel exactly where no item fails, but for want of memory
abbrev pub AttachFails : {T : Type 0} → (first : Option PanelFault) → Result T PanelFault → Type 0
AttachFails first (Ok panel) = first ≡ None
AttachFails first (Err fault) = (first ≡ Some fault) ⊎ ((first ≡ None) × (fault ≡ OutOfMemory))

-- the first of a name, among monitors and one more behind them
abbrev pub or_named : (name : List ℕ) → Option Handed → Handed → Option Handed
or_named name (Some m) more = Some m
or_named name None more = if bytes_eq more.name name then Some more else None

-- the first of a name among those that are handed in, by the first among some before them
abbrev pub named_from : (name : List ℕ) → Option Handed → List Handed → Option Handed
named_from name found [] = found
named_from name found (m ∷ ms) = named_from name (or_named name found m) ms

abbrev pub first_named : (name : List ℕ) → List Handed → Option Handed
first_named name handed = named_from name None handed
