-- Why a burst broke off, where calls of the host came before.
use Rattle.std.proofs.Common.{ℕ, ◌≤◌, Result, arith}
use Rattle.flow_base.specs.Faults.{Rose}
use Rattle.flow_machine.specs.declared.host.RunFault.{RunFault}
use Rattle.flow_machine.specs.Cause.{RunCause}

module _ {T : Type 0} where
  pub cause_before : (first before after : ℕ) (r : Result T RunFault) → first ≤ before → RunCause before after r → RunCause first after r
  cause_before first before after r l c = record {
    kept = omega (arith, l, c.kept);
    failed = λ e. let rose : Rose before after = c.failed e in omega (arith, l, rose);
  }
