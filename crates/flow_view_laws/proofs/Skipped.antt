-- What is told after events that ran without a line is the view of the program's own state after as many events.
use Rattle.std.proofs.Common.{◌≡◌, ℕ, suc, ◌-◌, ◌<◌, min, Bool, false, List, [], ◌∷◌, ◌++◌, length, refl, sym, ap, ap₂, subst, ◌∙◌, arith}
use Rattle.std.proofs.lemmas.Option.{slice_get_within}
use Rattle.std.specs.Prelude.{slice_get, Result}
use Rattle.std.specs.declared.option.Option.TheVariants.{None, Some}
use Rattle.flow_base.specs.declared.fault.OutFault.{OutFault}
use Rattle.flow_tree.specs.declared.decl.Program.{Program}
use Rattle.flow_tree.specs.Decls.{ProgramTree}
use Rattle.flow_tree.specs.DeclView.{program_of}
use Rattle.flow_trace.specs.declared.line.Line.{Line}
use Rattle.flow_trace.specs.declared.line.Line.TheVariants as line
use Rattle.flow_worldfile.specs.declared.world.World0.{World0}
use Rattle.flow_worldfile.specs.Worlds as worlds
use Rattle.flow_worldfile.specs.Worlds.{IsInRange, seen}
use Rattle.flow_class.specs.declared.class.RawClasses.{RawClasses}
use Rattle.flow_class.specs.View.{raw_of}
use Rattle.flow_front.specs.Verdict.{IsSound}
use Rattle.flow_lower.specs.Weighing.{first_heavy}
use Rattle.flow_lower.specs.Compiled.{Has}
use Rattle.flow_meaning.specs.Class.{classes}
use Rattle.flow_meaning.specs.Frame.{Frame}
use Rattle.flow_meaning.specs.Process.{Engine}
use Rattle.flow_meaning.specs.RunLaw.{SameStates}
use Rattle.flow_meaning.specs.Runs.{Runs, IsRun, ends, spent, lines_of}
use Rattle.flow_meaning.specs.Source.{source, names_of}
use Rattle.flow_meaning.specs.World.{World, at_start}
use Rattle.flow_meaning.proofs.LiftRuns.{traces_return}
use Rattle.flow_meaning.proofs.Once.{run_once}
use Rattle.flow_compile_laws.specs.Simulation.Matching.{ActorMatches}
use Rattle.flow_determinism.proofs.Referred.{simulated}
use Rattle.flow_world.specs.declared.ending.Ending.{Ending}
use Rattle.flow_world.specs.declared.ending.Ending.TheVariants.{Idle, Bound, Spent}
use Rattle.flow_world.specs.Ending.{Seen}
use Rattle.flow_world.specs.Ends.{end_line, LastIs}
use Rattle.flow_world.specs.FaultedLines.{Telling, tells, whole}
use Rattle.flow_world.specs.declared.silence.Silence.{Silence}
use Rattle.flow_world.specs.Happening.{EventDoes}
use Rattle.flow_world.specs.Skipping.{unkept, Skips}
use Rattle.flow_world.specs.Starting.{Starts}
use Rattle.flow_world.specs.Tracing.{RunsEvents, no_event, one_more, last_answer}
use Rattle.flow_world_refinement.specs.Effects.Quiescence.{Quiescent}
use Rattle.flow_world_refinement.proofs.Events.Whole.{spent_happening}
use Rattle.flow_world_refinement.proofs.Order.Next.{same_end}
use Rattle.flow_end_to_end.specs.Rests.{GoesOn}
use Rattle.flow_restore_laws.specs.States.Resumed.{Resumes}
use Rattle.flow_restore_laws.specs.States.Resumed as again
use Rattle.flow_restore_laws.proofs.States.Onwards.{programs_go_onward}
use Rattle.flow_debug.specs.Told.{places_of_waits}
use Rattle.flow_debug.specs.ViewText.{ViewText}
use Rattle.flow_debug.specs.SourceView.{SourceView}
use Rattle.flow_view_laws.specs.Told.{places_told}
use Rattle.flow_view_laws.specs.Viewed.{IsViewed}
use Rattle.flow_view_laws.specs.Skipped.{IsSpentWithin, IsView, viewed, spent as is_spent, world_view, SkipsView}
use Rattle.flow_view_laws.proofs.Ends.{one_last, ended_at}
use Rattle.flow_view_laws.proofs.Law.{programs_viewed}
use Rattle.flow_view_laws.proofs.Worlds.{places_many}

-- a run from the start is one
one_run : {A : Type 0} (e : Engine A) (w : worlds.World) (xs ys : List (World A)) (ks ls : List Line) → IsRun e w xs ks → IsRun e w ys ls → (xs ≡ ys) × (ks ≡ ls)
one_run e w xs ys ks ls x y =
    let once = run_once e (at_start w) x.later y.later x.rest y.rest x.runs y.runs in (
      x.from_start ∙ ap (λ l. at_start w ∷ l) once.0 ∙ sym y.from_start,
      x.with_head ∙ ap (λ l. line.Head ∷ l) once.1 ∙ sym y.with_head,
    )

same_many : {A B : Type 0} (R : _ → A → B → Type 0) (xs : List (World A)) (ys : List (World B)) → SameStates R xs ys → length xs ≡ length ys
same_many R [] [] h = refl
same_many R [] (y ∷ ys) h = absurd h
same_many R (x ∷ xs) [] h = absurd h
same_many R (x ∷ xs) (y ∷ ys) h = ap suc (same_many R xs ys h.1)

-- events without anything made again
module _ {A : Type 0} (puts : A → Line → Result (Unit {0}) OutFault → A → Type 0) (with_frames : Bool) where
  resumed : {w v : Seen} {a b : A} → RunsEvents puts with_frames w a v b → Resumes puts with_frames w a v b
  resumed no_event = again.no_event
  resumed (one_more goes does told) = again.one_more (resumed goes) does told

-- where memory comes to the end, so does the run of the classes
module _ {A : Type 0} (puts : A → Line → Result (Unit {0}) OutFault → A → Type 0) where
  record LastRun (r : _) (m : World Frame) (e : Ending) : Type 0 where
    own : List Line
    runs : Runs (classes r) m [] (own ++ (end_line e ∷ []))

  last_run : (r : _) (u v : Seen) (m : World Frame) (a b : A) (e : Ending) → GoesOn r u m → EventDoes puts (last_answer e) u a v b → LastRun r m e
  last_run r u v m a b Idle g does = record { own = []; runs = ends line.EndIdle ((same_end (Quiescent r) puts u v m a b g.shows).0 does) }
  last_run r u v m a b Bound g does = record { own = []; runs = ends line.EndBound ((same_end (Quiescent r) puts u v m a b g.shows).1 does) }
  last_run r u v m a b Spent g does =
      let x = spent_happening puts r u v m a b g.code g.shows g.keeps.lasting does in
      record {
        own = lines_of x.event.begun x.event.left;
        runs = spent x.event.begun x.event.left ((same_end (Quiescent r) puts u v m a b g.shows).3 does) x.event.begins x.event.follows x.spent;
      }

module _ (text : List ℕ) (program : Program) (c : RawClasses) (file : World0) (first : Seen) (sound : IsSound text program)
    (light : first_heavy (program_of program).decls ≡ None) (has : Has (program_of program) (raw_of c)) (range : IsInRange (seen file)) (starts : Starts c file first) where
  abbrev t : ProgramTree
  t = program_of program

  -- after so many events memory shows the state of that number
  at_last : (v : Seen) (a b : Telling Silence) → RunsEvents (tells unkept) false first a v b → IsViewed t (raw_of c) (seen file) v
  at_last v a b goes = programs_viewed (tells unkept) text program c file false first v a b sound light has range starts goes

  -- the last of them
  ended : (u v : Seen) (a b d : Telling Silence) (e : Ending) → RunsEvents (tells unkept) false first a u b → EventDoes (tells unkept) (last_answer e) u b v d
      → (x : IsViewed t (raw_of c) (seen file) u) → (length x.states ≡ suc u.ran) × LastIs (end_line e) x.lines
  ended u v a b d e goes does x =
      let g = programs_go_onward (tells unkept) text program c file false first u a b sound light has range starts (resumed (tells unkept) false goes) in
      let l = last_run (tells unkept) (raw_of c) u v g.state b d e g.goes does in
      let own = ended_at (classes (raw_of c)) (seen file) g.states g.run.0 u.ran g.state l.own (end_line e) g.run.1 g.after_as_many l.runs in
      let run = subst (λ z. IsRun (classes z) (seen file) g.states g.run.0) has g.run.1 in
      let R = ActorMatches (names_of t) in
      let other = traces_return (source t) (classes _) R (simulated text program sound) (seen file) g.states g.run.0 run in
      let once = one_run (source t) (seen file) x.states other.0 x.lines g.run.0 x.run other.1 in
      (ap length once.0 ∙ same_many R other.0 g.states other.2 ∙ own.0, subst (λ ls. LastIs (end_line e) ls) (sym once.1) own.1)

  -- the world runs the program's classes
  runs_them : (v : Seen) (a b : Telling Silence) → RunsEvents (tells unkept) false first a v b → raw_of v.code.program ≡ raw_of c
  runs_them v a b goes =
      (programs_go_onward (tells unkept) text program c file false first v a b sound light has range starts (resumed (tells unkept) false goes)).goes.text

  -- and has as many processes as it says
  counted : (v : Seen) (a b : Telling Silence) → RunsEvents (tells unkept) false first a v b → v.outside.net.processes ≡ length v.places
  counted v a b goes =
      let g = programs_go_onward (tells unkept) text program c file false first v a b sound light has range starts (resumed (tells unkept) false goes) in
      g.goes.shows.outside.processes ∙ sym g.goes.keeps.lasting.keeps.fits.count
      ∙ sym (places_many (Quiescent (raw_of c)) g.state.out.file.processes 0 v.places g.state.places g.goes.shows.places)

  view_same : (v : Seen) (x : IsViewed t (raw_of c) (seen file) v) → raw_of v.code.program ≡ raw_of c
      → world_view (places_of_waits t.decls) v ≡ ViewText x.state.out.ran x.state.out.time (SourceView t x.state)
  view_same v x runs =
      ap (λ r. ViewText v.ran v.outside.time (places_told (places_of_waits t.decls) r.classes 0 v.places)) runs
      ∙ ap₂ (λ n k. ViewText n k (places_told (places_of_waits t.decls) (raw_of c).classes 0 v.places)) x.ran x.time
      ∙ ap (ViewText x.state.out.ran x.state.out.time) x.told

  view_at : (v : Seen) (x : IsViewed t (raw_of c) (seen file) v) → raw_of v.code.program ≡ raw_of c → (most : ℕ) → (IsSpentWithin most x.states x.lines → ⊥) → min most (length x.states - 1) ≡ v.ran
      → IsView t (seen file) most (world_view (places_of_waits t.decls) v) 0
  view_at v x runs most whole is =
      subst (λ z. IsView t (seen file) most z 0) (sym (view_same v x runs))
      (viewed x.states x.lines x.state x.run whole (ap (slice_get x.states) is ∙ x.after_as_many))

  -- the run goes so far
  goes_so_far : (v : Seen) (most : ℕ) (b : Silence) → Skips most first v b
      → (Rattle.flow_view_laws.specs.Skipped.SkippedRise None v)
      × IsView t (seen file) most (world_view (places_of_waits t.decls) v) 0
  goes_so_far v most b s =
      let x = at_last v _ _ s.runs in
      let ran : v.ran ≡ most = omega (arith, s.counted, starts.ran) in
      let within : v.ran < length x.states = slice_get_within x.states v.ran x.state x.after_as_many in
      ((counted v _ _ s.runs, x.rise), view_at v x (runs_them v _ _ s.runs) most (λ z. absurd (omega (arith, z.0, within, ran))) (omega (arith, within, ran)))

  -- or it ends before
  ends_before : (e : Ending) (v : Seen) (most : ℕ) (u : Seen) (many : ℕ) (before : Silence) (after : Telling Silence) → many < most → Skips many first u before
      → (end_line e ≡ line.EndSpent → ⊥) → EventDoes (tells unkept) (last_answer e) u (whole before) v after → v ≡ u
      → (Rattle.flow_view_laws.specs.Skipped.SkippedRise None v)
      × IsView t (seen file) most (world_view (places_of_waits t.decls) v) 0
  ends_before e v most u many before after few s other does same =
      let x = at_last u _ _ s.runs in
      let ran : u.ran ≡ many = omega (arith, s.counted, starts.ran) in
      let over = ended u v _ _ _ e s.runs does x in
      subst (λ z. (Rattle.flow_view_laws.specs.Skipped.SkippedRise None z)
      × IsView t (seen file) most (world_view (places_of_waits t.decls) z) 0) (sym same)
      ((counted u _ _ s.runs, x.rise), view_at u x (runs_them u _ _ s.runs) most (λ z. other (one_last (end_line e) line.EndSpent x.lines over.1 z.1)) (omega (arith, over.0, ran, few)))

not_spent_idle : line.EndIdle ≡ line.EndSpent → ⊥
not_spent_idle e = cc

not_spent_bound : line.EndBound ≡ line.EndSpent → ⊥
not_spent_bound e = cc

pub skips_view : SkipsView
skips_view text program c file first v most None sound light has range starts s = goes_so_far text program c file first sound light has range starts v most s.0 s.1
skips_view text program c file first v most (Some Idle) sound light has range starts s =
    ends_before text program c file first sound light has range starts Idle v most s.last s.many s.before _ s.fewer s.skips not_spent_idle s.ends s.ends.1
skips_view text program c file first v most (Some Bound) sound light has range starts s =
    ends_before text program c file first sound light has range starts Bound v most s.last s.many s.before _ s.fewer s.skips not_spent_bound s.ends s.ends.2
skips_view text program c file first v most (Some Spent) sound light has range starts s =
    let x = at_last text program c file first sound light has range starts s.last _ _ s.skips.runs in
    let ran : s.last.ran ≡ s.many = omega (arith, s.skips.counted, starts.ran) in
    let over = ended text program c file first sound light has range starts s.last v _ _ _ Spent s.skips.runs s.ends x in
    (tt, is_spent x.states x.lines x.run (omega (arith, over.0, ran, s.fewer), over.1))
