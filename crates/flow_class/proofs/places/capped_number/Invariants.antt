use Rattle.std.proofs.Common.{◌≡◌, ◌-◌, ◌^◌, ◌≤◌, min, drop}
use Rattle.flow_base.specs.Names.{digits_from}
use Rattle.flow_class.proofs.places.capped_number.Given as goal

abbrev pub invariant-loop-digit : goal.invariant-loop-digit
invariant-loop-digit l = record {
  below : l.n ≤ 2 ^ 64 - 1;
  number : min (digits_from 0 l.digits) (2 ^ 64 - 1) ≡ min (digits_from l.n (drop l.digit-index l.digits)) (2 ^ 64 - 1);
}
