-- The numbers of the errors that the language knows by name.
use Rattle.std.specs.Prelude.{ℕ}
use Rattle.flow_base.specs.declared.errors.TheConstants.{END_OF_STREAM, TIMED_OUT, BROKEN_PROMISE, OPERATION_CANCELLED, OUT_OF_RANGE, TOO_LONG, SECOND_WAITER, ALREADY_SET, PORT_IN_USE, NOT_READY, BAD_ARGUMENT, DISK_FAILED}

-- a stream has ended
abbrev pub end_of_stream : ℕ
end_of_stream = END_OF_STREAM.0

-- something took too long
abbrev pub timed_out : ℕ
timed_out = TIMED_OUT.0

-- the last promise of a cell was dropped
abbrev pub broken_promise : ℕ
broken_promise = BROKEN_PROMISE.0

-- the actor was cancelled
abbrev pub operation_cancelled : ℕ
operation_cancelled = OPERATION_CANCELLED.0

-- an int out of range, a zero divisor, a time above 2^62, a plain call that is nested too deep
abbrev pub out_of_range : ℕ
out_of_range = OUT_OF_RANGE.0

-- a text longer than the longest
abbrev pub too_long : ℕ
too_long = TOO_LONG.0

-- a second waiter at one stream
abbrev pub second_waiter : ℕ
second_waiter = SECOND_WAITER.0

-- a send to a set result, or to a stream with an end
abbrev pub already_set : ℕ
already_set = ALREADY_SET.0

-- a port that is listened to
abbrev pub port_in_use : ℕ
port_in_use = PORT_IN_USE.0

-- the value of a future that isn't ready
abbrev pub not_ready : ℕ
not_ready = NOT_READY.0

-- an argument out of its range
abbrev pub bad_argument : ℕ
bad_argument = BAD_ARGUMENT.0

-- a disk request that the script makes fail
abbrev pub disk_failed : ℕ
disk_failed = DISK_FAILED.0
