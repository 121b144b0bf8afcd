-- The next event of worlds that are equal but for the file begins alike, or their words part.
use Rattle.std.proofs.Common.{◌≡◌, ◌⊎◌, inl, inr, ℕ, List, [], ◌∷◌, refl, subst}
use Rattle.std.specs.declared.option.Option.{Option}
use Rattle.std.specs.declared.option.Option.TheVariants.{None, Some}
use Rattle.flow_trace.specs.declared.line.Line.{Line}
use Rattle.flow_trace.specs.declared.line.Line.TheVariants as line
use Rattle.flow_worldfile.specs.Worlds as file
use Rattle.flow_worldfile.specs.declared.directive.Order.{Order}
use Rattle.flow_worldfile.specs.declared.directive.Order.TheVariants.{Kill, Stop, Boot, Cut, Heal, DiskFail}
use Rattle.flow_simdisk.specs.declared.ask.DiskReply.{DiskReply}
use Rattle.flow_simdisk.specs.declared.ask.DiskReply.TheVariants.{Text, Done, Size}
use Rattle.flow_simdisk.specs.Disk.{Disk, File, Losing, served}
use Rattle.flow_meaning.specs.Requests.{DiskCall, ReadCall, WriteCall, SyncCall, SizeCall}
use Rattle.flow_meaning.specs.Process.{Engine}
use Rattle.flow_meaning.specs.Outside.{What, Boots, Rings, Arrives, Answers, Outside, process_id, word_in}
use Rattle.flow_meaning.specs.World.{Place, World, Next, Nothing, Script, Event, Begun, disk_of, lost, ordered, arrived, listener, disk_line, answered, happened, begun_by, process_of, process_in, ready, counted, with_left}
use Rattle.flow_draw_laws.proofs.FatesParted.{SplitLosing, losses_split}
use Rattle.flow_draw_laws.proofs.Steps.{Both}
use Rattle.flow_draw_laws.proofs.Twins.{reworded, in_file, Part, part_here}

-- a world of these processes
abbrev pub world : {A : Type 0} → List (Place A) → Outside → World A
world ps x = record { places = ps; out = x }

module _ (v : file.World) (seed : ℕ) (words : List ℕ) {A : Type 0} (e : Engine A) where
  abbrev w : file.World
  w = reworded v seed words

  abbrev begun : List Line → Place A → Outside → Begun A
  begun ls p x = record { head = ls; place = p; out = x }

  pub data TwinBegun : Begun A → Begun A → Type 0 where
    twin_begun : (ls : List Line) (p : Place A) (x : Outside) → TwinBegun (begun ls p (in_file v x)) (begun ls p (in_file w x))

  abbrev pub SplitBegun : Begun A → Begun A → Type 0
  SplitBegun b c = TwinBegun b c ⊎ Part v seed words b.out.asked c.out.asked

  abbrev Files : Type 0
  Files = List (List ℕ × File)

  lost_alike : (head : List Line) (p : ℕ) (at : Place A) (x : Outside) (l : Losing Files) → TwinBegun (lost head p at (in_file v x) l) (lost head p at (in_file w x) l)
  lost_alike head p at x l = twin_begun _ _ (lost head p at x l).out

  lost_split : (head : List Line) (p : ℕ) (at : Place A) (x : Outside) (l m : Losing Files) → SplitLosing (word_in (in_file v x)) (word_in (in_file w x)) l m
      → SplitBegun (lost head p at (in_file v x) l) (lost head p at (in_file w x) m)
  lost_split head p at x l m (inl h) = inl (subst (λ n. TwinBegun (lost head p at (in_file v x) l) (lost head p at (in_file w x) n)) h (lost_alike head p at x l))
  lost_split head p at x l m (inr h) = inr (part_here v seed words x l.asked m.asked h)

  ordered_split : (o : Order) (at : Place A) (x : Outside) → SplitBegun (ordered e o at (in_file v x)) (ordered e o at (in_file w x))
  ordered_split (Kill p) at x = lost_split (line.Kill x.ran x.time (process_id p) ∷ []) p at x _ _ (losses_split (word_in (in_file v x)) (word_in (in_file w x)) (disk_of x p).files)
  ordered_split (Boot p) at x = inl (twin_begun _ _ (ordered e (Boot p) at x).out)
  ordered_split (Stop p) at x = inl (twin_begun _ _ (ordered e (Stop p) at x).out)
  ordered_split (Cut p q) at x = inl (twin_begun _ _ (ordered e (Cut p q) at x).out)
  ordered_split (Heal p q) at x = inl (twin_begun _ _ (ordered e (Heal p q) at x).out)
  ordered_split (DiskFail p n) at x = inl (twin_begun _ _ (ordered e (DiskFail p n) at x).out)

  arrived_alike : (m from port : ℕ) (text : List ℕ) (at : Place A) (x : Outside) (o : Option ℕ)
      → TwinBegun (arrived m from port text at (in_file v x) o) (arrived m from port text at (in_file w x) o)
  arrived_alike m from port text at x None = twin_begun _ _ x
  arrived_alike m from port text at x (Some cell) = twin_begun _ _ x

  line_alike : (call : DiskCall ℕ) (r : DiskReply) (x : Outside) (c : ℕ) → disk_line call r (in_file v x) c ≡ disk_line call r (in_file w x) c
  line_alike (ReadCall f offset count) (Text bs) x c = refl
  line_alike (ReadCall f offset count) r x c = refl
  line_alike (WriteCall f offset bytes) Done x c = refl
  line_alike (WriteCall f offset bytes) r x c = refl
  line_alike (SyncCall f) Done x c = refl
  line_alike (SyncCall f) r x c = refl
  line_alike (SizeCall f) (Size n) x c = refl
  line_alike (SizeCall f) r x c = refl

  answered_alike : (c : ℕ) (call : DiskCall ℕ) (at : Place A) (x : Outside) (r : Disk × DiskReply)
      → TwinBegun (answered c call at (in_file v x) r) (answered c call at (in_file w x) r)
  answered_alike c call at x r =
      subst (λ l. TwinBegun (answered c call at (in_file v x) r) (begun (l ∷ []) (answered c call at x r).place (in_file w (answered c call at x r).out)))
      (line_alike call r.1 x c) (twin_begun _ _ (answered c call at x r).out)

  happened_split : (h : What) (at : Place A) (x : Outside) → SplitBegun (happened e h at (in_file v x)) (happened e h at (in_file w x))
  happened_split (Boots p) at x = inl (twin_begun _ _ x)
  happened_split (Rings p c) at x = inl (twin_begun _ _ x)
  happened_split (Arrives m from to port text) at x = inl (arrived_alike m from port text at x (listener at port))
  happened_split (Answers p c call) at x = inl (answered_alike c call at x (served call (disk_of x p).fails (disk_of x p).files))

  pub begun_split : (ps : List (Place A)) (x : Outside) (n : Next) → Both SplitBegun (begun_by e (world ps (in_file v x)) n) (begun_by e (world ps (in_file w x)) n)
  begun_split ps x Nothing = tt
  begun_split ps x (Script t o left) = ordered_split o (ready (world ps (in_file v x)) (process_of o)) (counted t (process_of o) (record x { script = left }))
  begun_split ps x (Event p left) = happened_split p.what (ready (world ps (in_file v x)) (process_in p.what)) (counted p.time (process_in p.what) (with_left x left))
