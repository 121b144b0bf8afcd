-- What a heap and the process that it shows hold beside cells and actors.
use Rattle.std.specs.Prelude.{◌≡◌, ℕ, ◌<◌, false, [], ◌∷◌, ◌++◌}
use Rattle.std.specs.Option.{option_map}
use Rattle.std.specs.declared.option.Option.{Option}
use Rattle.std.specs.declared.option.Option.TheVariants.{Some}
use Rattle.flow_base.specs.declared.ids.CellId.{CellId}
use Rattle.flow_class.specs.Classes.{RawTree}
use Rattle.flow_cancel.specs.Heap.{HeapTree, has_number, with_number, without_number, cleared}
use Rattle.flow_numbered.specs.Numbered.{added, removed}
use Rattle.flow_meaning.specs.Process.{Proc}
use Rattle.flow_meaning.specs.Dropping.{port_of}
use Rattle.flow_meaning.specs.Deliver.{closed_request, vanish}
use Rattle.flow_meaning.specs.Step.{on_core}
use Rattle.flow_meaning.specs.Frame.{Frame}
use Rattle.flow_heap_refinement.specs.Representing.{Represents, cell_number}
use Rattle.flow_heap_refinement.specs.Rested.{NumbersRise, OneEach}

module _ (r : RawTree) (h : HeapTree) (p : Proc Frame) where
  -- the hold on the result of `main`
  abbrev pub MainHeld : Type 0
  MainHeld =
      (o : Option CellId) → Represents r h p
      → Represents r (record h { main = o }) (on_core (λ c. record c { main = option_map cell_number o }) p)

  -- a port that nobody listened to gets a stream, and is gone
  abbrev pub PortAdded : Type 0
  PortAdded =
      (port k : ℕ) → Represents r h p
      → Represents r (record h {
        ports =
            with_number h.ports k;
      }) (on_core (λ c. record c { ports = added c.ports port k }) p)

  abbrev pub PortGone : Type 0
  PortGone =
      (port k : ℕ) → Represents r h p → port_of k p.core.ports ≡ Some port → OneEach p.core.ports
      → has_number (without_number h.ports k) k ≡ false
      → Represents r (record h {
        ports =
            without_number h.ports k;
      }) (on_core (λ c. record c { ports = removed c.ports port }) p)

  -- a request is opened on a new cell, and closed
  abbrev pub RequestAdded : Type 0
  RequestAdded =
      (k above most : ℕ) → Represents r h p → NumbersRise above most p.core.requests → most < k
      → Represents r (record h {
        requests =
            with_number h.requests k;
      }) (on_core (λ c. record c { requests = c.requests ++ k ∷ [] }) p)

  abbrev pub RequestClosed : Type 0
  RequestClosed =
      (k : ℕ) → Represents r h p
      → Represents r (record h {
        requests =
            without_number h.requests k;
      }) (on_core (λ c. record c { requests = closed_request k c.requests }) p)

  -- everything goes but the numbers given so far
  abbrev pub Vanished : Type 0
  Vanished = Represents r h p → Represents r (cleared h) (vanish p)
