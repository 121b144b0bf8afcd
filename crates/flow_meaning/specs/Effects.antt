-- Effects and messages: what a process does for an effect, and what it asks of the world for it. A bad argument
-- is an error that is thrown where the actor stands.
use Rattle.std.specs.Prelude.{ℕ, suc, ◌+◌, ◌^◌, ℤ, pos, ◌-ℤ◌, int_le, nat_le, nat_lt, Bool, true, false, ◌&&◌, List, [], ◌∷◌, ◌++◌, length, if◌then◌else◌}
use Rattle.std.specs.declared.option.Option.{Option}
use Rattle.std.specs.declared.option.Option.TheVariants.{None, Some}
use Rattle.flow_base.specs.ErrorNumbers.{bad_argument, out_of_range, port_in_use}
use Rattle.flow_value.specs.declared.value.Kind.{Kind}
use Rattle.flow_value.specs.declared.value.Kind.TheVariants as kind
use Rattle.flow_value.specs.Values.{ValueTree, IntValue, RefValue}
pub use Rattle.flow_draw.specs.Words.{scaled}
use Rattle.flow_simdisk.specs.declared.TheConstants.{FILE_BYTES}
use Rattle.flow_eval.specs.Predefined.{natural}
use Rattle.flow_numbered.specs.Numbered.{added, thing}
use Rattle.flow_meaning.specs.Cells.{Cell, Single, Stream}
use Rattle.flow_meaning.specs.Requests.{DiskCall, ReadCall, WriteCall, SyncCall, SizeCall, Effect, Make, Start, Draw, Delay, Never, Listen, Disk, Goal, Stored, Kept, Request, Drew, Timer, Packet, Disks, Supply}
use Rattle.flow_meaning.specs.Process.{Task, Run, Throw, Store, Keep, NoMeaning, Core}
use Rattle.flow_meaning.specs.Work.{halt, pushed, new_cell}

-- what a process does, and what it asks of the world
abbrev pub Reaction : Type 0
Reaction = Core × Option Request

abbrev pub quiet : Core → Reaction
quiet c = (c, None)

abbrev pub throws : (actor error : ℕ) → Core → Reaction
throws i e c = quiet (pushed (Throw i e) c)

-- the result of an effect is stored by the actor or kept among its operands, under which the actor goes on
abbrev pub result_task : (actor : ℕ) → Goal → ValueTree → Option Task
result_task i Stored v = Some (Store i v)
result_task i (Kept spot) (RefValue k cell) = Some (Keep i spot (k, cell))
result_task i (Kept spot) _ = None

abbrev pub push_result : (actor : ℕ) → Option Task → Core → Core
push_result i None c = halt NoMeaning c
push_result i (Some t) c = pushed t (pushed (Run i) c)

abbrev pub gives : (actor : ℕ) → Goal → ValueTree → Core → Core
gives i goal v c = push_result i (result_task i goal v) c

-- a new cell, and a reference to it as the result
abbrev pub gives_new : (actor : ℕ) → Goal → Kind → Cell → Core → Core
gives_new i goal k cell c = gives i goal (RefValue k (suc c.made)) (new_cell cell c)

-- a single result for which the world has an open request
abbrev pub gives_open : (actor : ℕ) → Goal → Core → Core
gives_open i goal c = gives_new i goal kind.Future (Single None []) (record c { requests = c.requests ++ suc c.made ∷ [] })

abbrev pub empty_cell : Kind → Cell
empty_cell kind.Promise = Single None []
empty_cell kind.Future = Single None []
empty_cell kind.PromiseStream = Stream [] None None
empty_cell kind.FutureStream = Stream [] None None

abbrev pub between : ℤ → (lo hi : ℕ) → Bool
between z lo hi = int_le (pos lo) z && int_le z (pos hi)

-- a number from lo to hi, hi itself left out, of which there are 1 to 2^32
abbrev pub draw : Supply → (actor : ℕ) → Goal → (lo hi : ℤ) → Core → Reaction
draw s i goal lo hi c =
    if between (hi -ℤ lo) 1 (2 ^ 32)
    then (gives i goal (IntValue (scaled lo (natural (hi -ℤ lo)) s.word)) c, Some (Drew (natural (hi -ℤ lo))))
    else throws i bad_argument c

-- a timer, not after 2^62; a negative time counts as 0
abbrev pub delay : (actor : ℕ) → Goal → (time : ℕ) → Core → Reaction
delay i goal time c = if nat_le time (2 ^ 62) then (gives_open i goal c, Some (Timer (suc c.made) time)) else throws i out_of_range c

abbrev pub is_port : ℤ → Bool
is_port z = between z 0 65535

-- a port that nobody listens to yet
abbrev pub open_port : (actor : ℕ) → Goal → (port : ℕ) → Option ℕ → Core → Reaction
open_port i goal port (Some cell) c = throws i port_in_use c
open_port i goal port None c = quiet (gives_new i goal kind.FutureStream (Stream [] None None)
    (record c { ports = added c.ports port (suc c.made) }))

abbrev pub listen : (actor : ℕ) → Goal → ℤ → Core → Reaction
listen i goal port c = if is_port port then open_port i goal (natural port) (thing c.ports (natural port)) c else throws i bad_argument c

-- a file's name has 1 to 255 bytes
abbrev pub is_file : List ℕ → Bool
is_file name = nat_le 1 (length name) && nat_le (length name) 255

abbrev pub if_ok : {A : Type 0} → Bool → A → Option A
if_ok true a = Some a
if_ok false a = None

-- a disk request whose arguments are in their ranges
abbrev pub judged : DiskCall ℤ → Option (DiskCall ℕ)
judged (ReadCall file offset count) =
    if_ok (is_file file && between offset 0 FILE_BYTES && between count 0 65535) (ReadCall file (natural offset) (natural count))
judged (WriteCall file offset text) =
    if_ok (is_file file && between offset 0 FILE_BYTES && nat_le (natural offset + length text) FILE_BYTES)
    (WriteCall file (natural offset) text)
judged (SyncCall file) = if_ok (is_file file) (SyncCall file)
judged (SizeCall file) = if_ok (is_file file) (SizeCall file)

abbrev pub ask_disk : (actor : ℕ) → Goal → Option (DiskCall ℕ) → Core → Reaction
ask_disk i goal None c = throws i bad_argument c
ask_disk i goal (Some call) c = (gives_open i goal c, Some (Disks (suc c.made) call))

-- what a process does for an effect; the call of an actor is done where actors are made
abbrev pub effect : Supply → (actor : ℕ) → Goal → Effect → Core → Reaction
effect s i goal (Make k) c = quiet (gives_new i goal k (empty_cell k) c)
effect s i goal (Start class args) c = quiet (halt NoMeaning c)
effect s i goal (Draw lo hi) c = draw s i goal lo hi c
effect s i goal (Delay ticks) c = delay i goal (s.now + natural ticks) c
effect s i goal Never c = quiet (gives_new i goal kind.Future (Single None []) c)
effect s i goal (Listen port) c = listen i goal port c
effect s i goal (Disk call) c = ask_disk i goal (judged call) c

-- a text is sent to a port of one of the processes
abbrev pub send_to : Supply → (actor : ℕ) → (process port : ℤ) → List ℕ → Core → Reaction
send_to s i q port text c =
    if int_le (pos 0) q && nat_lt (natural q) s.processes && is_port port
    then (pushed (Run i) c, Some (Packet (natural q) (natural port) text))
    else throws i bad_argument c
