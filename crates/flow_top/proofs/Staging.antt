-- What a monitor heard of a run that began again, and whether it said Stop.
use Rattle.std.proofs.Common.{◌≡◌, ◌≢◌, ℕ, Bool, true, false, List, [], ◌∷◌, ◌++◌, refl, sym, ap, ◌∙◌, subst, Option, None, Some, Ok, Err, Result}
use Rattle.std.specs.Prelude.{Decides, nat_le, if◌then◌else◌}
use Rattle.std.specs.Result.{result_err}
use Rattle.flow_base.specs.declared.fault.OutFault.{OutFault}
use Rattle.flow_tree.specs.DeclView.{program_of}
use Rattle.flow_trace.specs.declared.line.Line.{Line}
use Rattle.flow_trace.specs.declared.line.Line.TheVariants as line
use Rattle.flow_worldfile.specs.declared.world.World0.{World0}
use Rattle.flow_worldfile.specs.Worlds.{World, IsInRange, seen}
use Rattle.flow_monitor.specs.Ears.{Ear, Ears, names}
use Rattle.flow_monitor.proofs.Naming.{nobody_cuts}
use Rattle.flow_class.specs.declared.class.RawClasses.{RawClasses}
use Rattle.flow_class.specs.View.{raw_of}
use Rattle.flow_meaning.specs.Outside.{Outside}
use Rattle.flow_meaning.specs.Process.{Engine}
use Rattle.flow_meaning.specs.Requests.{Spot}
use Rattle.flow_meaning.specs.Runs.{Runs, after, lines_of}
use Rattle.flow_meaning.specs.Runs as run
use Rattle.flow_meaning.specs.Source.{source}
use Rattle.flow_meaning.specs.Views.{actor_spot}
use Rattle.flow_meaning.specs.World as meaning
use Rattle.flow_meaning.specs.World.{Next, Nothing, Script, Event, next_of, ending, at_start}
use Rattle.flow_compile_laws.specs.Frames.Framed.{Shows, ends, spent, event, IsShown}
use Rattle.flow_determinism.proofs.Shown.{one_shown}
use Rattle.flow_machine.specs.declared.host.RunFault.TheVariants.{OutOfMemory}
use Rattle.flow_world.specs.declared.ending.Ending.{Ending}
use Rattle.flow_world.specs.declared.run_ending.RunEnding.TheVariants.{Own}
use Rattle.flow_world.specs.Around.{Puts, no_line, more_lines, PutsPart, no_more, put_then, put_fails}
use Rattle.flow_world.specs.BreakingTraces.{counted_out, TraceFails, events_fail}
use Rattle.flow_world.specs.Ending.{Seen}
use Rattle.flow_world.specs.Ends.{end_line}
use Rattle.flow_world.specs.FaultedLines.{Telling, tells, whole, telling}
use Rattle.flow_code.specs.declared.program.Code.{Code}
use Rattle.flow_world.specs.Starting.{IsCodeOf, Starts}
use Rattle.flow_machine.specs.declared.host.Burst.TheVariants.{Rested}
use Rattle.flow_machine.specs.declared.host.Burst.TheVariants as burst
use Rattle.flow_world.specs.declared.event.Event.{Event as EventAnswer}
use Rattle.flow_world.specs.declared.event.Event.TheVariants.{Ran, Idle, BoundReached, Spent, Stopped}
use Rattle.flow_world.specs.Watching.{hearing, watching, hears as lines_heard}
use Rattle.flow_world.specs.Tracing.{last_answer}
use Rattle.flow_world.proofs.WatchedTraces.{HeardSo, quietly_first, quietly_on, ends_itself}
use Rattle.flow_world_refinement.proofs.Traces.Codes.{code_stays}
use Rattle.flow_world.specs.WatchedTraces.{Quietly, EndsItself, HeardTrace}
use Rattle.flow_world.proofs.Telling.{whole_line}
use Rattle.flow_world.proofs.Watching.{unheard_told, last_unheard}
use Rattle.flow_end_to_end.proofs.Cut.Cuts.{program_cut, program_fails}
use Rattle.flow_shrink.specs.Shrinking.{Hearing, hears, deaf, said, over, after_lines, is_stopped, Stops}
use Rattle.flow_top.specs.declared.outcome.Meant.{Meant}
use Rattle.flow_top.specs.declared.outcome.Meant.TheVariants.{Text, Classes}
use Rattle.std.specs.declared.snapshot.Snapshot.{Snapshot}
use Rattle.flow_tree.specs.declared.decl.Program.{Program}
use Rattle.flow_lower.specs.Compiled.{Has}
use Rattle.flow_top.specs.Outcomes.{IsPassing, IsRunBy, of_program, of_class_text, IsText, ShownIn}
use Rattle.flow_top.specs.Staging.{HearsLine, HeardRun, to_end, IsReady}
use Rattle.flow_top.specs.Staging as staging
use Rattle.flow_top.proofs.Stopping.{last_or, last_behind, over_stays, lines_behind}

-- Lines that were put are heard, one after another.
module _ {A : Type 0} (view : A → Hearing) where
  abbrev pub puts : A → Line → Result (Unit {0}) OutFault → A → Type 0
  puts a l answer b = HearsLine (view a) l answer (view b)

  pub all_heard : (a b : A) (ls : List Line) → Puts (tells puts) (whole a) ls (whole b) → view b ≡ after_lines ls (view a)
  all_heard a _ [] no_line = refl
  all_heard a b (l ∷ ls) (more_lines {b = m} put rest) = by_answer put.0 put.1 put.2 (all_heard m.out b ls)
    where
      by_answer : (answer : Result (Unit {0}) OutFault) → puts a l answer m.out → m.fault ≡ result_err answer
          → (Puts (tells puts) (whole m.out) ls (whole b) → view b ≡ after_lines ls (view m.out)) → view b ≡ after_lines (l ∷ ls) (view a)
      by_answer (Ok done) is e later =
          let none_failed : m ≡ whole m.out = ap (λ f. record { out = m.out; fault = f }) e in
          later (subst (λ z. Puts (tells puts) z ls (whole b)) none_failed rest) ∙ ap (after_lines ls) is
      by_answer (Err fault) is e later = absurd is

  -- the first ones of which were heard
  pub record FirstHeard (a : A) (ls : List Line) (b : A) : Type 0 where
    pub front : List Line
    pub rest : List Line
    pub are : ls ≡ front ++ rest
    pub heard : view b ≡ after_lines front (view a)

  pub part_heard : (a : A) (b : Telling A) (ls : List Line) → PutsPart (tells puts) (whole a) ls b → FirstHeard a ls b.out
  part_heard a _ ls no_more = record { front = []; rest = ls; are = refl; heard = refl }
  part_heard a b (l ∷ ls) (put_then {b = m} put rest) = by_answer put.0 put.1 put.2 (part_heard m.out b ls)
    where
      by_answer : (answer : Result (Unit {0}) OutFault) → puts a l answer m.out → m.fault ≡ result_err answer
          → (PutsPart (tells puts) (whole m.out) ls b → FirstHeard m.out ls b.out) → FirstHeard a (l ∷ ls) b.out
      by_answer (Ok done) is e later =
          let none_failed : m ≡ whole m.out = ap (λ f. record { out = m.out; fault = f }) e in
          let x = later (subst (λ z. PutsPart (tells puts) z ls b) none_failed rest) in
          record { front = l ∷ x.front; rest = x.rest; are = ap (λ xs. l ∷ xs) x.are; heard = x.heard ∙ ap (after_lines x.front) is }
      by_answer (Err fault) is e later = absurd is
  part_heard a b (l ∷ ls) (put_fails failed) = absurd failed

-- a run that was stopped is so however it goes on
stopped_on : (h : Hearing) (ls : List Line) → is_stopped h ≡ true → is_stopped (after_lines ls h) ≡ true
stopped_on (hears ear) ls e = absurd (cc)
stopped_on deaf ls e = absurd (cc)
stopped_on said ls e = absurd (cc)
stopped_on (over stopped) ls e = ap is_stopped (over_stays ls stopped) ∙ e

-- The last line of what is shown of a run is no `end stop`.
module _ {A : Type 0} (e : Engine A) (spot : A → Spot) where
  abbrev OfEnding : Option Line → Type 0
  OfEnding None = Unit {0}
  OfEnding (Some l) = (name : List ℕ) → l ≢ line.EndStop name

  by_bound : (b : Bool) → OfEnding (if b then Some line.EndBound else None)
  by_bound true = λ name same. cc
  by_bound false = tt

  own_ending : (w : Outside) (n : Next) → OfEnding (ending w n)
  own_ending w Nothing = λ name same. cc
  own_ending w (Script t o left) = by_bound (nat_le w.file.events w.ran)
  own_ending w (Event p left) = by_bound (nat_le w.file.events w.ran)

  spent_last : (d : Line) (ls : List Line) (name : List ℕ) → last_or d (ls ++ line.EndSpent ∷ []) ≡ line.EndStop name → ⊥
  spent_last d ls name same = let e : line.EndSpent ≡ line.EndStop name = sym (last_behind d ls (line.EndSpent ∷ [])) ∙ same in cc

  own_last : (w : meaning.World A) (ls : List Line) → Shows e spot false w ls → (d : Line) (name : List ℕ) → last_or d ls ≢ line.EndStop name
  own_last w _ (ends last g) d name = let own : OfEnding (Some last) = subst OfEnding g (own_ending w.out (next_of w.out)) in own name
  own_last w _ (spent b l g begins follows h) d name = spent_last d (lines_of b l) name
  own_last w _ (event {lines = rest} b l g begins follows h more) d name =
      λ same. own_last (after w b l) rest more (last_or d (lines_of b l)) name (sym (last_behind d (lines_of b l) rest) ∙ same)

  -- without frames a run shows the lines of its trace, and so one list of lines
  runs_of : (w : meaning.World A) (ls : List Line) → Shows e spot false w ls → (states : List (meaning.World A)) × Runs e w states ls
  runs_of w _ (ends last g) = ([], run.ends last g)
  runs_of w _ (spent b l g begins follows h) = ([], run.spent b l g begins follows h)
  runs_of w _ (event {lines = rest} b l g begins follows h more) =
      let later = runs_of (after w b l) rest more in (after w b l ∷ later.0, run.event b l g begins follows h later.1)

  shown_once : (w : World) (ls ms : List Line) → IsShown e spot false w ls → IsShown e spot false w ms → ls ≡ ms
  shown_once w ls ms s t =
      let r = runs_of (at_start w) s.rest s.shows in
      let one = one_shown e spot false w (at_start w ∷ r.0) ls (record { later = r.0; rest = s.rest; runs = r.1; from_start = refl; with_head = s.with_head }) in
      one.only ls s ∙ sym (one.only ms t)

pub own_end : (m : Meant) (c : RawClasses) (w : World) (ls : List Line) → IsText m → ShownIn m false c w ls → (name : List ℕ) → last_or line.Head ls ≢ line.EndStop name
own_end (Text p) c w ls is s name =
    λ same. own_last (source (program_of p.value)) actor_spot (at_start w) s.rest s.shows line.Head name (ap (last_or line.Head) (sym s.with_head) ∙ same)
own_end Classes c w ls is s name = absurd is

one_list : (m : Meant) (c : RawClasses) (w : World) (ls ms : List Line) → IsText m → ShownIn m false c w ls → ShownIn m false c w ms → ls ≡ ms
one_list (Text p) c w ls ms is s t = shown_once (source (program_of p.value)) actor_spot w ls ms s t
one_list Classes c w ls ms is s t = absurd is

-- what is equal is decided alike
pub decides_by : (b c : Bool) (X : Type 0) → b ≡ c → Decides c X → Decides b X
decides_by b c X e d = subst (λ x. Decides x X) (sym e) d

-- nobody is a panel of no name
pub nobody_still : (ears : Ears) → names ears ≡ [] → ears ≡ []
nobody_still [] e = refl
nobody_still (l ∷ ears) e = absurd (cc)

-- the program that is run
abbrev IsProgramOf : List ℕ → Meant → RawClasses → Type 0
IsProgramOf text m c = (p : Snapshot Program) × (m ≡ Text p) × IsPassing text p.value × Has (program_of p.value) (raw_of c)

passing_of : {text : List ℕ} {m : Meant} {c : RawClasses} → IsText m → IsRunBy text m c → IsProgramOf text m c
passing_of is (of_program p c passing has) = (p, refl, passing, has)
passing_of is (of_class_text c answer) = absurd is

-- an event leaves the code as it is
pub heard_code : {A : Type 0} (P : A → Line → Result (Unit {0}) OutFault → A → Type 0) (e : EventAnswer) (u v : Seen) (b c : A) (ears others : Ears)
    → HeardSo P e u b ears v c others → v.code ≡ u.code
heard_code P Ran u v b c ears others t = code_stays (tells (lines_heard P)) u v (whole (watching b ears)) (whole (hearing c others t.0)) Rested t.1.0
heard_code P Idle u v b c ears others t = ap (λ (w : Seen). w.code) t.1.1
heard_code P BoundReached u v b c ears others t = ap (λ (w : Seen). w.code) t.1.2
heard_code P Spent u v b c ears others t = code_stays (tells (lines_heard P)) u v (whole (watching b ears)) (whole (hearing c others t.0)) burst.Spent t.1
heard_code P (Stopped k) u v b c ears others t =
    ap (λ (w : Seen). w.code) t.1.ended
    ∙ code_stays (tells (lines_heard P)) u t.1.left (whole (watching b ears)) (whole (hearing c others t.0)) Rested t.1.happens

-- Events that nobody else hears.
module _ {A : Type 0} (P : A → Line → Result (Unit {0}) OutFault → A → Type 0) (w : Seen) (a : A) where
  pub none_ran : (ears : Ears) → ears ≡ [] → Quietly P false w (watching a []) w (watching a ears)
  none_ran ears e = subst (λ x. Quietly P false w (watching a []) w (watching a x)) (sym e) (quietly_first P false w a [])

  pub one_ran : (u v : Seen) (b c : A) (ears others : Ears) → Quietly P false w (watching a []) u (watching b ears) → HeardSo P Ran u b ears v c others
      → Quietly P false w (watching a []) v (watching c others)
  one_ran u v b c ears others so_far does = quietly_on P false w u v (watching a []) b c c ears others so_far does no_line

  pub over_by : (e : Ending) (u v : Seen) (b c : A) (ears others : Ears) → Quietly P false w (watching a []) u (watching b ears)
      → HeardSo P (last_answer e) u b ears v c others → (o : Ears) × (stop : Option ℕ) × EndsItself P false e w (watching a []) (hearing c o stop)
  over_by e u v b c ears others so_far does =
      let x = ends_itself P false e w u v (watching a []) b c ears others so_far does in (others, x.0, x.1)

  pub stopped_by : (view : A → Hearing) (u v : Seen) (b c : A) (ears others : Ears) → Quietly P false w (watching a []) u (watching b ears)
      → HeardSo P Ran u b ears v c others → others ≡ [] → is_stopped (view c) ≡ true
      → (x : Seen) × Quietly P false w (watching a []) x (watching c []) × (is_stopped (view c) ≡ true)
  stopped_by view u v b c ears others so_far does none is =
      (v, subst (λ o. Quietly P false w (watching a []) v (watching c o)) none (one_ran u v b c ears others so_far does), is)

-- What is known of a run from the start by what was heard of its events.
module _ {A : Type 0} (view : A → Hearing) (ear : Ear) (m : Meant) (file : World0) (first : Seen) (a : A) (ready : IsReady m first.code) (range : IsInRange (seen file))
    (starts : Starts first.code.program file first) (begins : view a ≡ hears ear) where
  abbrev P : A → Line → Result (Unit {0}) OutFault → A → Type 0
  P = puts view

  abbrev Shown : List Line → Type 0
  Shown = ShownIn m false first.code.program (seen file)

  -- the first line of a trace isn't heard
  head_unheard : P a line.Head (Ok tt) a
  head_unheard = begins ∙ ap (λ h. after_lines (line.Head ∷ []) h) (sym begins)

  -- what was heard of all that is shown
  decided : (b : A) (ls : List Line) → Shown ls → view b ≡ after_lines ls (view a) → Decides (is_stopped (view b)) (Stops Shown ear)
  decided b ls shown heard =
      let same : is_stopped (view b) ≡ is_stopped (after_lines ls (hears ear)) = ap is_stopped (heard ∙ ap (after_lines ls) begins) in (
        λ yes. (ls, shown, sym same ∙ yes),
        λ stops. same ∙ ap (λ xs. is_stopped (after_lines xs (hears ear))) (one_list m first.code.program (seen file) ls stops.0 ready.is_text shown stops.1) ∙ stops.2,
      )

  -- the run came to its end, and its last line was put
  pub ended : (e : Ending) (mid b : A) (others : Ears) (stop : Option ℕ) → EndsItself P false e first (watching a []) (hearing mid others stop)
      → P mid (end_line e) (Ok tt) b → Decides (is_stopped (view b)) (Stops Shown ear)
  ended e mid b others stop comes put = by_program (passing_of ready.is_text ready.is_run)
    where
      trace : HeardTrace P false first.code.program file (watching a []) (Own e) (whole (hearing b others stop))
      trace = record {
        first = first;
        headed = watching a [];
        before = hearing mid others stop;
        starts = starts;
        head = (head_unheard, refl, refl);
        goes = comes;
        ended = unheard_told P others stop (whole mid) (whole b) (end_line e) (last_unheard [] (Own e)) (whole_line P mid b (end_line e) put);
      }

      by_program : IsProgramOf ready.text m first.code.program → Decides (is_stopped (view b)) (Stops Shown ear)
      by_program (p, is, passing, has) =
          let x = program_cut P ready.text p.value first.code.program file false a [] (Own e) (hearing b others stop) passing.sound passing.light has range trace in
          let put = subst (λ ls. Puts (tells P) (whole a) ls (whole b)) (nobody_cuts x.0) x.2 in
          decided b x.0 (subst (λ n. ShownIn n false first.code.program (seen file) x.0) (sym is) x.1) (all_heard view a b x.0 put)

  -- or it was stopped before
  pub broken_off : (v : Seen) (b : A) → Quietly P false first (watching a []) v (watching b []) → is_stopped (view b) ≡ true
      → Decides (is_stopped (view b)) (Stops Shown ear)
  broken_off v b quietly stopped = by_program (passing_of ready.is_text ready.is_run)
    where
      fails : TraceFails P false first.code.program file (watching a []) OutOfMemory (telling (watching b []) None)
      fails = events_fail first (watching a []) starts (head_unheard, refl, refl) (counted_out quietly refl refl)

      by_program : IsProgramOf ready.text m first.code.program → Decides (is_stopped (view b)) (Stops Shown ear)
      by_program (p, is, passing, has) =
          let x = program_fails P ready.text p.value first.code.program file false a [] OutOfMemory (watching b []) None passing.sound passing.light has range fails in
          let ls = x.1.0 in
          let part = subst (λ ms. PutsPart (tells P) (whole a) ms (telling b None)) (nobody_cuts ls) x.1.2 in
          let some = part_heard view a (telling b None) ls part in
          let all : after_lines ls (hears ear) ≡ after_lines some.rest (view b) =
          ap (λ xs. after_lines xs (hears ear)) some.are ∙ lines_behind some.front some.rest (hears ear)
          ∙ ap (after_lines some.rest) (sym (some.heard ∙ ap (after_lines some.front) begins)) in
          let yes : is_stopped (after_lines ls (hears ear)) ≡ true = ap is_stopped all ∙ stopped_on (view b) some.rest stopped in
          (λ also. (ls, subst (λ n. ShownIn n false first.code.program (seen file) ls) (sym is) x.1.1, yes), λ stops. stopped)

  -- either way
  pub settled : (b : A) → HeardRun view P first a b → Decides (is_stopped (view b)) (Stops Shown ear)
  settled b (to_end e mid heard put) = ended e mid b heard.0 heard.1 heard.2 put
  settled b (staging.broken_off heard) = broken_off heard.0 b heard.1 heard.2

-- The run of a world that begins again decides for the world that was given.
pub begun_again : (m : Meant) (code : Code) (file : World0) (given : World) (w : Seen) (ear : Ear) (b : Bool) → w.code ≡ code → seen file ≡ given → IsReady m code
    → IsInRange given → ((c : RawClasses) → IsCodeOf c code → Starts c file w)
    → ((n : Meant) (f : World0) → IsReady n w.code → IsInRange (seen f) → Starts w.code.program f w → Decides b (Stops (ShownIn n false w.code.program (seen f)) ear))
    → Decides b (Stops (ShownIn m false code.program given) ear)
begun_again m code file given w ear b same at ready range starts run =
    let here = run m file (subst (IsReady m) (sym same) ready) (subst IsInRange (sym at) range)
    (subst (λ (c : Code). Starts c.program file w) (sym same) (starts code.program ready.is_code)) in
    subst (λ v. Decides b (Stops (ShownIn m false code.program v) ear)) at
    (subst (λ (c : Code). Decides b (Stops (ShownIn m false c.program (seen file)) ear)) same here)
