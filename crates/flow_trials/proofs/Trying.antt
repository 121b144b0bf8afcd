-- What was heard of a run, from the lines that were put.
use Rattle.std.proofs.Common.{◌≡◌, ℕ, ◌+◌, Bool, true, false, List, [], ◌∷◌, ◌++◌, refl, sym, ap, ◌∙◌, subst, arith, None, Some, Option, Ok, Err, Result, inl, inr}
use Rattle.std.specs.Prelude.{count_by, if◌then◌else◌}
use mathlib.Core.Bool.{cond}
use Rattle.std.proofs.lemmas.List.Sums.{sum_by-cons}
use Rattle.std.specs.Result.{result_err}
use Rattle.flow_base.specs.declared.fault.OutFault.{OutFault}
use Rattle.flow_tree.specs.DeclView.{program_of}
use Rattle.flow_tree.specs.declared.decl.Program.{Program}
use Rattle.flow_trace.specs.Groups.{is_event}
use Rattle.flow_trace.specs.declared.line.Line.{Line}
use Rattle.flow_class.specs.View.{raw_of}
use Rattle.flow_class.specs.declared.class.RawClasses.{RawClasses}
use Rattle.flow_code.specs.declared.program.Code.{Code}
use Rattle.flow_front.specs.Verdict.{IsSound}
use Rattle.flow_lower.specs.Compiled.{Has}
use Rattle.flow_lower.specs.Weighing.{first_heavy}
use Rattle.flow_compile_laws.specs.Frames.Framed.{SourceShown}
use Rattle.flow_machine.specs.declared.host.Burst.TheVariants.{Rested}
use Rattle.flow_machine.specs.declared.host.Burst.TheVariants as burst
use Rattle.flow_world_refinement.proofs.Traces.Codes.{code_stays}
use Rattle.flow_worldfile.specs.declared.world.World0.{World0}
use Rattle.flow_worldfile.specs.Worlds.{World, IsInRange, seen}
use Rattle.flow_monitor.specs.declared.attach.PanelFault.{PanelFault}
use Rattle.flow_monitor.specs.declared.attach.PanelFault.TheVariants as fault
use Rattle.flow_monitor.specs.Attaching.{AttachFails}
use Rattle.flow_monitor.specs.Cut.{Cut}
use Rattle.flow_monitor.specs.Ears.{Ears, names}
use Rattle.flow_trace.specs.declared.line.Line.TheVariants as line
use Rattle.flow_world.specs.declared.ending.Ending.{Ending}
use Rattle.flow_world.specs.declared.ending.Ending.TheVariants as ending
use Rattle.flow_world.specs.declared.event.Event.{Event}
use Rattle.flow_world.specs.declared.event.Event.TheVariants as event
use Rattle.flow_world.specs.declared.run_ending.RunEnding.{RunEnding}
use Rattle.flow_world.specs.declared.run_ending.RunEnding.TheVariants.{Own, Stopped}
use Rattle.flow_world.specs.Happening.{EventDoes}
use Rattle.flow_world.specs.Tracing.{last_answer}
use Rattle.flow_world.specs.Around.{Puts, no_line, more_lines}
use Rattle.flow_world.specs.Ending.{Seen}
use Rattle.flow_world.specs.Ends.{LastIs}
use Rattle.flow_world.specs.FaultedLines.{Telling, tells, whole}
use Rattle.flow_world.specs.Starting.{IsCodeOf, Starts}
use Rattle.flow_world.specs.Watching.{hearing as heard_there, watching, hears}
use Rattle.flow_world.specs.WatchedTraces.{Quietly, HeardToEnd, HeardTrace, last_line}
use Rattle.flow_world.proofs.Telling.{stays, whole_line}
use Rattle.flow_world.proofs.Watching.{unheard_line, unheard_told, last_unheard, last_same}
use Rattle.flow_world.proofs.WatchedTraces.{HeardSo}
use Rattle.flow_end_to_end.proofs.Cut.Cuts.{program_cut}
use Rattle.flow_explain.specs.Texts.{ActorText}
use Rattle.flow_cover.specs.Covers.{marks_from, taken_in}
use Rattle.flow_family.specs.Families.{times_from, times_of}
use Rattle.flow_sweep.specs.declared.ran.Ended.{Ended}
use Rattle.flow_sweep.specs.declared.ran.Ran.{Ran}
use Rattle.flow_sweep.specs.Sweeps.{end_line, EndsSo, Tries}
use Rattle.flow_trials.specs.Trying.{OnTrial, on_trial, PanelFails, IsReady, one_if, means, hearing, Heard, heard_nothing, times_after, heard_after, heard_from, HearsLine, HeardRun, left_by}

-- Of what is heard of lines each part by itself.
is_bit : (b : Bool) → one_if b ≡ cond b 1 0
is_bit true = refl
is_bit false = refl

one_more : (l : Line) (ls : List Line) (n : ℕ) → n + one_if (is_event l) + count_by is_event ls ≡ n + count_by is_event (l ∷ ls)
one_more l ls n = omega (arith, is_bit (is_event l), sum_by-cons (λ k. cond (is_event k) 1 0) l ls)

from_none : (n : ℕ) → 0 + n ≡ n
from_none n = omega arith

none_more : (n : ℕ) → n ≡ n + count_by is_event []
none_more n = omega arith

pub events_heard : (h : Heard) (ls : List Line) → (heard_from h ls).events ≡ h.events + count_by is_event ls
events_heard h [] = none_more h.events
events_heard h (l ∷ ls) = events_heard (heard_after l h) ls ∙ one_more l ls h.events

pub marks_heard : (h : Heard) (ls : List Line) → (heard_from h ls).marks ≡ marks_from h.texts h.marks ls
marks_heard h [] = refl
marks_heard h (l ∷ ls) = marks_heard (heard_after l h) ls

pub times_heard : (h : Heard) (ls : List Line) (b : Bool) → h.timed ≡ b → (heard_from h ls).times ≡ (if b then times_from h.times ls else h.times)
times_heard h [] true e = refl
times_heard h [] false e = refl
times_heard h (l ∷ ls) true e = times_heard (heard_after l h) ls true e ∙ ap (λ b. times_from (times_after b l h.times) ls) e
times_heard h (l ∷ ls) false e = times_heard (heard_after l h) ls false e ∙ ap (λ b. times_after b l h.times) e

-- An event leaves the code as it is.
pub heard_code : {A : Type 0} (puts : A → Line → Result (Unit {0}) OutFault → A → Type 0) (e : Event) (u v : Seen) (b c : A) (ears others : Ears)
    → HeardSo puts e u b ears v c others → v.code ≡ u.code
heard_code puts event.Ran u v b c ears others t = code_stays (tells (hears puts)) u v (whole (watching b ears)) (whole (heard_there c others t.0)) Rested t.1.0
heard_code puts event.Idle u v b c ears others t = ap (λ (w : Seen). w.code) t.1.1
heard_code puts event.BoundReached u v b c ears others t = ap (λ (w : Seen). w.code) t.1.2
heard_code puts event.Spent u v b c ears others t = code_stays (tells (hears puts)) u v (whole (watching b ears)) (whole (heard_there c others t.0)) burst.Spent t.1
heard_code puts (event.Stopped k) u v b c ears others t =
    ap (λ (w : Seen). w.code) t.1.ended
    ∙ code_stays (tells (hears puts)) u t.1.left (whole (watching b ears)) (whole (heard_there c others t.0)) Rested t.1.happens

-- How a run comes to its end, with the world after it.
module _ {A : Type 0} (puts : A → Line → Result (Unit {0}) OutFault → A → Type 0) where
  abbrev pub GoesTo : RunEnding → Seen → A → Ears → Seen → A → Ears → Type 0
  GoesTo e w a ears v b others =
      (stop : Option ℕ) × (goes : HeardToEnd puts false e w (watching a ears) (heard_there b others stop))
      × (v.outside ≡ (left_by puts e w (watching a ears) (heard_there b others stop) goes).outside)

  pub own_end : (e : Ending) (w u v : Seen) (a b c : A) (first ears others : Ears) → Quietly puts false w (watching a first) u (watching b ears)
      → HeardSo puts (last_answer e) u b ears v c others → GoesTo (Own e) w a first v c others
  own_end e w u v a b c first ears others so_far does =
      let t = over e does in
      (t.0, record { last = u; before = watching b ears; left = v; quietly = so_far; ends = t.1 }, refl)
    where
      over : (e : Ending) → HeardSo puts (last_answer e) u b ears v c others
          → (stop : Option ℕ) × EventDoes (tells (hears puts)) (last_answer e) u (whole (watching b ears)) v (whole (heard_there c others stop))
      over ending.Idle t = t
      over ending.Bound t = t
      over ending.Spent t = t

  pub stop_end : (k : ℕ) (w u v : Seen) (a b c : A) (first ears others : Ears) → Quietly puts false w (watching a first) u (watching b ears)
      → HeardSo puts (event.Stopped k) u b ears v c others → GoesTo (Stopped k) w a first v c others
  stop_end k w u v a b c first ears others so_far t = (
    t.0,
    record {
      last = u;
      before = watching b ears;
      left = t.1.left;
      told = heard_there c others t.0;
      quietly = so_far;
      happens = t.1.happens;
      stop = t.1.stop;
      frames = no_line;
    },
    ap (λ (x : Seen). x.outside) t.1.ended,
  )

  -- A trace is its first line, its events and its last line.
  pub traced : (classes : RawClasses) (file : World0) (first left : Seen) (a h b z : A) (ears others : Ears) (e : RunEnding) (ended : Ended)
      → Starts classes file first → puts a line.Head (Ok tt) h → GoesTo e first h ears left b others → names others ≡ names ears
      → end_line ended ≡ last_line others e → puts b (end_line ended) (Ok tt) z
      → (e : RunEnding) × (others : Ears) × (stop : Option ℕ) × (end_line ended ≡ last_line ears e)
      × (trace : HeardTrace puts false classes file (watching a ears) e (whole (heard_there z others stop)))
      × (left.outside ≡ (left_by puts e trace.first trace.headed trace.before trace.goes).outside)
  traced classes file first left a h b z ears others e ended starts head goes same ends put =
      let last : end_line ended ≡ last_line ears e = ends ∙ last_same ears others e same in (
        e,
        others,
        goes.0,
        last,
        record {
          first = first;
          headed = watching h ears;
          before = heard_there b others goes.0;
          starts = starts;
          head = unheard_line puts ears None a h line.Head refl head;
          goes = goes.1;
          ended = unheard_told puts others goes.0 (whole b) (whole z) (last_line ears e) (last_unheard ears e)
              (whole_line puts b z (last_line ears e) (subst (λ l. puts b l (Ok tt) z) last put));
        },
        goes.2,
      )

-- Lines that were put are heard, one after another.
module _ {A : Type 0} (view : A → Heard) where
  abbrev pub puts : A → Line → Result (Unit {0}) OutFault → A → Type 0
  puts a l answer b = HearsLine (view a) l answer (view b)

  pub all_heard : (a b : A) (ls : List Line) → Puts (tells puts) (whole a) ls (whole b) → view b ≡ heard_from (view a) ls
  all_heard a _ [] no_line = refl
  all_heard a b (l ∷ ls) (more_lines {b = m} put rest) = by_answer put.0 put.1 put.2 (all_heard m.out b ls)
    where
      by_answer : (answer : Result (Unit {0}) OutFault) → puts a l answer m.out → m.fault ≡ result_err answer
          → (Puts (tells puts) (whole m.out) ls (whole b) → view b ≡ heard_from (view m.out) ls) → view b ≡ heard_from (view a) (l ∷ ls)
      by_answer (Ok done) is e later =
          let none_failed : m ≡ whole m.out = ap (λ f. record { out = m.out; fault = f }) e in
          later (subst (λ z. Puts (tells puts) z ls (whole b)) none_failed rest) ∙ ap (λ h. heard_from h ls) is
      by_answer (Err fault) is e later =
          let same : whole b ≡ m = stays puts m (whole b) fault ls e rest in
          let some : None ≡ Some fault = ap (λ (t : Telling A). t.fault) same ∙ e in
          absurd (cc)

  -- A run of a program from its start.
  pub heard_run : (p : Program) (file : World0) (first : Seen) (a b : A) (ears others : Ears) (stop : Option ℕ) (e : RunEnding) (ended : Ended)
      → IsReady p first.code → IsInRange (seen file) → end_line ended ≡ last_line ears e
      → HeardTrace puts false first.code.program file (watching a ears) e (whole (heard_there b others stop))
      → HeardRun (SourceShown false (program_of p) (seen file)) ears (view a) (view b) ended
  heard_run p file first a b ears others stop e ended ready range last trace =
      let x = program_cut puts ready.text p first.code.program file false a ears e (heard_there b others stop) ready.sound ready.light ready.has range trace in
      record {
        lines = x.0;
        trace = x.1;
        heard = all_heard a b (Cut ears x.0) x.2;
        last = subst (λ l. LastIs l (Cut ears x.0)) (sym last) x.3;
      }

-- What such a run came to, by what was heard of it.
pub tried : (trial : OnTrial) (w : World) (timed : Bool) (ears : Ears) (before after : Heard) (ended : Ended) (r : Ran) (told : List ℕ)
    → HeardRun (means trial w) ears before after ended → ears ≡ trial.ears → before ≡ heard_nothing trial.texts timed → r.ended ≡ ended → r.events ≡ after.events
    → r.shown.items ≡ after.marks.taken → told ≡ after.times → Tries (means trial) (hearing trial) w timed r told
tried trial w timed ears before after ended r told run same begins ends events shown times =
    let cut = Cut ears run.lines in
    let first = heard_nothing trial.texts timed in
    let all : after ≡ heard_from first cut = run.heard ∙ ap (λ h. heard_from h cut) begins in
    record {
      cut = cut;
      ends = record {
        lines = run.lines;
        trace = run.trace;
        is_cut = ap (λ x. Cut x run.lines) same;
        last = (run.last.0, run.last.1 ∙ ap (λ x. run.last.0 ++ end_line x ∷ []) (sym ends));
        events = events ∙ ap (λ (h : Heard). h.events) all ∙ events_heard first cut ∙ from_none (count_by is_event cut);
        shown = shown ∙ ap (λ (h : Heard). h.marks.taken) all ∙ ap (λ m. m.taken) (marks_heard first cut);
      };
      times = times ∙ ap (λ (h : Heard). h.times) all ∙ times_heard first cut timed refl;
    }

-- The run of a world that begins again is one of the world that was given.
pub tried_again : (p : Program) (code : Code) (ears : Ears) (texts : List ActorText) (file : World0) (given : World) (w : Seen) (timed : Bool) (r : Ran) (told : List ℕ)
    → w.code ≡ code → seen file ≡ given → IsReady p code → IsInRange given → ((c : RawClasses) → IsCodeOf c code → Starts c file w)
    → ((n : Program) (f : World0) → IsReady n w.code → IsInRange (seen f) → Starts w.code.program f w
    → Tries (means (on_trial n w.code.program ears texts)) (hearing (on_trial n w.code.program ears texts)) (seen f) timed r told)
    → Tries (means (on_trial p code.program ears texts)) (hearing (on_trial p code.program ears texts)) given timed r told
tried_again p code ears texts file given w timed r told same at ready range starts run =
    let here = run p file (subst (IsReady p) (sym same) ready) (subst IsInRange (sym at) range)
    (subst (λ (c : Code). Starts c.program file w) (sym same) (starts code.program ready.is_code)) in
    subst (λ v. Tries (means (on_trial p code.program ears texts)) (hearing (on_trial p code.program ears texts)) v timed r told) at
    (subst (λ (c : Code). Tries (means (on_trial p c.program ears texts)) (hearing (on_trial p c.program ears texts)) (seen file) timed r told) same here)

-- A panel that isn't had, by its fault.
pub fails_as : {T : Type 0} (first : Option PanelFault) (r : Result T PanelFault) → AttachFails first r → PanelFails first r
fails_as first (Ok panel) h = h
fails_as first (Err (fault.NoMonitor k)) (inl is) = is
fails_as first (Err (fault.NoMonitor k)) (inr both) = absurd (no_monitor both.1)
  where
    no_monitor : fault.NoMonitor k ≡ fault.OutOfMemory → ⊥
    no_monitor e = cc
fails_as first (Err (fault.Twice k)) (inl is) = is
fails_as first (Err (fault.Twice k)) (inr both) = absurd (twice both.1)
  where
    twice : fault.Twice k ≡ fault.OutOfMemory → ⊥
    twice e = cc
fails_as first (Err fault.OutOfMemory) h = tt

-- The classes that begin again are those of the program.
pub ready_by : (text : List ℕ) (p : Program) (classes : RawClasses) (file : World0) (w : Seen) → IsSound text p → first_heavy (program_of p).decls ≡ None
    → Has (program_of p) (raw_of classes) → Starts classes file w → IsReady p w.code
ready_by text p classes file w sound light has starts = record {
  text = text;
  sound = sound;
  light = light;
  has = subst (λ (c : RawClasses). Has (program_of p) (raw_of c)) (sym starts.code.program) has;
  is_code = subst (λ c. IsCodeOf c w.code) (sym starts.code.program) starts.code;
}
