-- What the world around a process in its event shows, and which lines it wrote.
use Rattle.std.specs.Prelude.{◌≡◌, ℕ, List, [], ◌∷◌, Result, Ok, Err}
use Rattle.flow_base.specs.declared.ids.ProcId.{ProcId}
use Rattle.flow_base.specs.declared.fault.OutFault.{OutFault}
use Rattle.flow_trace.specs.declared.line.Line.{Line}
use Rattle.flow_numbered.specs.Numbered.{Numbered}
use Rattle.flow_meaning.specs.Outside.{Outside}
use Rattle.flow_world.specs.declared.ports.Ports.{Ports}
use Rattle.flow_world.specs.Changes.{Surroundings}
use Rattle.flow_world.specs.Representing.{OutsideRepresents}
use Rattle.flow_world.specs.Ports.{PortsRepresent}

-- a process in its event: its number, its ports, what is outside, and where its lines go
pub record Inside (A : Type 0) : Type 0 where
  pub me : ProcId
  pub ports : Ports
  pub outside : Surroundings
  pub out : A

-- the process is the one of the event, and its ports and what is outside show
pub record SurroundingsRepresent (me : ProcId) (p : Ports) (m : Surroundings) (ps : Numbered ℕ) (w : Outside) : Type 0 where
  pub outside : OutsideRepresents m w
  pub active : me.0 ≡ w.active
  pub ports : PortsRepresent p ps

-- lines are put, one after another
pub data Puts {A : Type 0} (puts : A → Line → Result (Unit {0}) OutFault → A → Type 0) : A → List Line → A → Type 0 where
  no_line : {a : A} → Puts puts a [] a
  more_lines : {a b c : A} {l : Line} {ls : List Line} → puts a l (Ok tt) b → Puts puts b ls c → Puts puts a (l ∷ ls) c

-- a first part of these lines is put, and then the put of the next one may fail
pub data PutsPart {A : Type 0} (puts : A → Line → Result (Unit {0}) OutFault → A → Type 0) : A → List Line → A → Type 0 where
  no_more : {a : A} {ls : List Line} → PutsPart puts a ls a
  put_then : {a b c : A} {l : Line} {ls : List Line} → puts a l (Ok tt) b → PutsPart puts b ls c → PutsPart puts a (l ∷ ls) c
  put_fails : {a b : A} {l : Line} {ls : List Line} {fault : OutFault} → puts a l (Err fault) b → PutsPart puts a (l ∷ ls) b

abbrev pub shows : {A : Type 0} → Inside A → Numbered ℕ → Outside → Type 0
shows h ps w = SurroundingsRepresent h.me h.ports h.outside ps w

abbrev pub wrote : {A : Type 0} → (A → Line → Result (Unit {0}) OutFault → A → Type 0) → Inside A → List Line → Inside A → Type 0
wrote puts g ls h = Puts puts g.out ls h.out

abbrev pub wrote_part : {A : Type 0} → (A → Line → Result (Unit {0}) OutFault → A → Type 0) → Inside A → List Line → Inside A → Type 0
wrote_part puts g ls h = PutsPart puts g.out ls h.out
