-- Why a burst broke off.
use Rattle.std.specs.Prelude.{ℕ, ◌≤◌, Result, IsErrOf}
use Rattle.flow_base.specs.Faults.{Rose}
use Rattle.flow_base.specs.declared.fault.OutFault.{OutFault}
use Rattle.flow_base.specs.declared.fault.OutFault.TheVariants as out
use Rattle.flow_steps.specs.declared.errors.Fault.{Fault}
use Rattle.flow_steps.specs.declared.errors.Fault.TheVariants as step
use Rattle.flow_machine.specs.declared.host.RunFault.{RunFault}
use Rattle.flow_machine.specs.declared.host.RunFault.TheVariants.{Failed, OutOfMemory, Stuck}

-- the host's count of faults didn't fall, and `Failed` was answered only where it rose
pub record RunCause {T : Type 0} (before after : ℕ) (result : Result T RunFault) : Type 0 where
  pub kept : before ≤ after
  pub failed : IsErrOf result Failed → Rose before after

-- a fault of the host
abbrev pub fault_of : OutFault → RunFault
fault_of out.Failed = Failed
fault_of out.OutOfMemory = OutOfMemory

-- a fault in a step
abbrev pub fault_in : Fault → RunFault
fault_in step.OutOfMemory = OutOfMemory
fault_in step.Stuck = Stuck
