-- Lines that are told by what goes on to its end though a put fails: no more are put after that.
use Rattle.std.specs.Prelude.{◌≡◌, Result, Ok, Err}
use Rattle.std.specs.Result.{result_err}
use Rattle.std.specs.declared.option.Option.{Option}
use Rattle.std.specs.declared.option.Option.TheVariants.{None, Some}
use Rattle.flow_base.specs.declared.fault.OutFault.{OutFault}
use Rattle.flow_base.specs.declared.fault.OutFault.TheVariants.{Failed}
use Rattle.flow_trace.specs.declared.line.Line.{Line}
use Rattle.flow_machine.specs.declared.host.RunFault.{RunFault}
use Rattle.flow_machine.specs.Cause.{fault_of}

-- where lines go, and the fault of the put that failed, if one did
pub record Telling (A : Type 0) : Type 0 where
  pub out : A
  pub fault : Option OutFault

abbrev pub telling : {A : Type 0} → A → (fault : Option OutFault) → Telling A
telling a fault = record { out = a; fault = fault }

-- no put failed, and one did
abbrev pub whole : {A : Type 0} → A → Telling A
whole a = record { out = a; fault = None }

abbrev pub failed : {A : Type 0} → A → Telling A
failed a = record { out = a; fault = Some Failed }

module _ {A : Type 0} (puts : A → Line → Result (Unit {0}) OutFault → A → Type 0) where
  -- a line is put where no put failed before, and a fault of that is kept
  abbrev pub TellsAfter : Option OutFault → A → Line → Telling A → Type 0
  TellsAfter None a l b = (answer : Result (Unit {0}) OutFault) × puts a l answer b.out × (b.fault ≡ result_err answer)
  TellsAfter (Some fault) a l b = (b.out ≡ a) × (b.fault ≡ Some fault)

  -- what a put means to who tells lines so: it always succeeds
  abbrev pub tells : Telling A → Line → Result (Unit {0}) OutFault → Telling A → Type 0
  tells a l (Ok done) b = TellsAfter a.fault a.out l b
  tells a l (Err fault) b = ⊥

-- what is answered in the end: the fault of the put that failed, if one did
abbrev pub unless_failed : {T : Type 0} → Result T RunFault → Option OutFault → Result T RunFault
unless_failed (Ok value) None = Ok value
unless_failed (Ok value) (Some fault) = Err (fault_of fault)
unless_failed (Err fault) put = Err fault
