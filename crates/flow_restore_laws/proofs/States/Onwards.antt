-- A run in memory goes on alike where processes are made again between its events.
use Rattle.std.proofs.Common.{◌≡◌, ℕ, suc, Bool, false, List, [], ◌∷◌, ◌++◌, refl, sym, ap, ◌∙◌, subst, arith}
use Rattle.std.specs.Prelude.{Result, Ok, slice_get}
use Rattle.std.proofs.lemmas.List.{append_assoc}
use Rattle.std.specs.declared.option.Option.{Option}
use Rattle.std.specs.declared.option.Option.TheVariants.{None, Some}
use Rattle.flow_base.specs.declared.ids.ProcId.{ProcId}
use Rattle.flow_base.specs.declared.fault.OutFault.{OutFault}
use Rattle.flow_tree.specs.DeclView.{program_of}
use Rattle.flow_trace.specs.declared.line.Line.{Line}
use Rattle.flow_trace.specs.declared.line.Line.TheVariants as line
use Rattle.flow_worldfile.specs.Worlds as file
use Rattle.flow_worldfile.specs.Worlds.{IsInRange, seen}
use Rattle.flow_worldfile.specs.declared.world.World0.{World0}
use Rattle.flow_class.specs.Classes.{RawTree}
use Rattle.flow_class.specs.View.{raw_of}
use Rattle.flow_class.specs.declared.class.RawClasses.{RawClasses}
use Rattle.flow_code.specs.declared.program.Code.{Code}
use Rattle.flow_meaning.specs.Class.{classes}
use Rattle.flow_meaning.specs.Frame.{Frame}
use Rattle.flow_meaning.specs.Runs.{IsRun, before, after, lines_of}
use Rattle.flow_meaning.specs.Views.{frame_spot}
use Rattle.flow_meaning.specs.World as meaning
use Rattle.flow_meaning.specs.World.{World, at_start}
use Rattle.flow_burst_refinement.specs.Enabled.Tasking.{IsProgram}
use Rattle.flow_invariants.specs.Unmarked.{AreWhole, WorldRests}
use Rattle.flow_invariants.proofs.Unmarked.Worlds.{whole_rest}
use Rattle.flow_invariants.proofs.Fitting.Runs.{run_exists}
use Rattle.flow_lower.specs.Compiled.{compiled}
use Rattle.flow_machine.specs.declared.host.Burst.TheVariants.{Rested}
use Rattle.flow_world.specs.declared.place.Place.{Place}
use Rattle.flow_world.specs.declared.silence.Silence.{Silence}
use Rattle.flow_world.specs.Around.{Puts, no_line, more_lines}
use Rattle.flow_world.specs.Ending.{Seen}
use Rattle.flow_world.specs.FaultedLines.{Telling, tells, telling, TellsAfter}
use Rattle.flow_world.specs.Happening.{Happens, EventDoes}
use Rattle.flow_world.specs.Skipping.{unkept}
use Rattle.flow_world.specs.Ports.{PortsRepresent}
use Rattle.flow_world.specs.Starting.{Starts}
use Rattle.flow_machine.specs.declared.host.RunFault.TheVariants.{Stuck}
use Rattle.flow_world.proofs.Putting.{puts_more, puts_one}
use Rattle.flow_world_refinement.specs.Order.Showing.{PlaceRepresents, PlacesRepresent, WorldRepresents}
use Rattle.flow_world_refinement.proofs.Order.Next.{same_end}
use Rattle.flow_world_refinement.proofs.Order.Started.{start_shown}
use Rattle.flow_world.specs.declared.ending.Ending.{Ending}
use Rattle.flow_world.specs.declared.ending.Ending.TheVariants.{Idle, Bound, Spent}
use Rattle.flow_world.specs.BreakingTraces.{FramesStuck}
use Rattle.flow_world.specs.Ends.{end_line}
use Rattle.flow_world.specs.Tracing.{lines_if, last_answer}
use Rattle.flow_compile_laws.specs.Frames.Framed.{ClassShown, seen_if, Shows, ends, spent, event}
use Rattle.flow_compile_laws.proofs.Frames.Alike.{shown_of_classes}
use Rattle.flow_world_refinement.specs.Traces.Traced.{FramesShown}
use Rattle.flow_world_refinement.proofs.Traces.Codes.{code_stays}
use Rattle.flow_world_refinement.specs.Effects.Quiescence.{Quiescent}
use Rattle.flow_world_refinement.proofs.Effects.Settling.{settled_first}
use Rattle.flow_world_refinement.proofs.Invariants.Mid.{begun_mid, burst_mid}
use Rattle.flow_world_refinement.proofs.Events.Whole.{happening, spent_happening}
use Rattle.flow_world_refinement.proofs.Views.Traced.{Waits, keeps_on, frames}
use Rattle.flow_world_refinement.proofs.Views.Waiting.{start_waits}
use Rattle.flow_compile_laws.proofs.Traces.{are_carried}
use Rattle.flow_lowering_laws.proofs.Programs.Whole.{compiles_faithfully}
use Rattle.flow_determinism.proofs.Whole.{compiles_whole}
use Rattle.flow_end_to_end.specs.Exact.{HaveFewPlaces}
use Rattle.flow_end_to_end.specs.Events.{MemoryWorldInvariant}
use Rattle.flow_end_to_end.proofs.Events.{event_in_part}
use Rattle.flow_end_to_end.specs.Rests.{GoesOn}
use Rattle.flow_end_to_end.proofs.Cut.Cuts.{rests_cut}
use Rattle.flow_end_to_end.proofs.Shown.{code_first}
use Rattle.flow_end_to_end.proofs.Upheld.{upheld_starts, upheld_stays}
use Rattle.flow_restore_laws.specs.Rest.Boundary.{IsAtRest, RestsInRun}
use Rattle.flow_restore_laws.proofs.Rest.Onwards.{Onwards, first_left, holds_at, next_on}
use Rattle.flow_restore_laws.proofs.Rest.Rests.{world_rests}
use Rattle.flow_restore_laws.specs.States.Heaps.{HaveFewerPlaces}
use Rattle.flow_restore_laws.specs.States.Worlds.{IsTold, AllTold}
use Rattle.flow_restore_laws.specs.States.Resumed.{PlaceAgain, as_it_was, made_from, PlacesAgain, WorldAgain, Resumes, no_event, one_more, again, ResumesTo, ClassesRestAlike, ClassesGoOn, ProgramsRestAlike, ProgramsGoOn}
use Rattle.flow_restore_laws.specs.States.Skipped.{GoesOnInRun, ClassesGoOnward, ProgramsGoOnward, ClassesSkip, ProgramsSkip}
use Rattle.flow_restore_laws.proofs.States.Few.{compiled_fewer}
use Rattle.flow_restore_laws.proofs.States.Alike.{processes_restored}
use Rattle.flow_restore_laws.proofs.States.Worlds.{world_told}
use Rattle.flow_restore_laws.proofs.States.Classed.{places_classed}

few_places : (r : RawTree) → HaveFewerPlaces r → HaveFewPlaces r
few_places r few k x e = let l = few k x e in omega (arith, l)

-- a world of which processes are made again shows the same world
module _ (r : RawTree) where
  place_again : (processes number : ℕ) (at now : Place) (x : meaning.Place Frame) → PlaceRepresents (IsAtRest r) processes number at x → IsTold at.machine.process → PlaceAgain at now
      → PlaceRepresents (Quiescent r) processes number now x
  place_again n k at now x s told (as_it_was e) = subst (λ z. PlaceRepresents (Quiescent r) n k z x) (sym e) (record {
    up = s.up;
    me = s.me;
    processes_are = s.processes_are;
    rests = s.rests.settled;
    ports = s.ports;
  })
  place_again n k at now x s told (made_from made e) = record {
    up = ap (λ (z : Place). z.up) e ∙ s.up;
    me = ap (λ (z : ProcId). z.0) made.rests.number ∙ s.me;
    processes_are = made.rests.count ∙ s.processes_are;
    rests = (processes_restored r at.machine now.machine x.proc s.rests told made).0.settled;
    ports = subst (λ ps. PortsRepresent ps x.proc.core.ports) (sym (ap (λ (z : Place). z.ports) e)) s.ports;
  }

  places_again : (processes number : ℕ) (ats nows : List Place) (xs : List (meaning.Place Frame)) → PlacesRepresent (IsAtRest r) processes number ats xs → AllTold ats → PlacesAgain ats nows
      → PlacesRepresent (Quiescent r) processes number nows xs
  places_again n k [] [] [] s told t = tt
  places_again n k [] [] (x ∷ xs) s told t = absurd s
  places_again n k [] (now ∷ nows) xs s told t = absurd t
  places_again n k (at ∷ ats) [] xs s told t = absurd t
  places_again n k (at ∷ ats) (now ∷ nows) [] s told t = absurd s
  places_again n k (at ∷ ats) (now ∷ nows) (x ∷ xs) s told t = (place_again n k at now x s.0 told.0 t.0, places_again n (suc k) ats nows xs s.1 told.1 t.1)

  world_again : (v w : Seen) (m : World Frame) → WorldRepresents (IsAtRest r) v m → AllTold v.places → WorldAgain v w → WorldRepresents (Quiescent r) w m
  world_again v w m s told t = subst (λ z. WorldRepresents (Quiescent r) z m) (sym t.others) (record {
    places = places_again m.out.file.processes 0 v.places w.places m.places s.places told t.places;
    outside = s.outside;
    script = s.script;
    ran = s.ran;
    bound = s.bound;
    turns = s.turns;
    going = s.going;
  })

module _ (r : RawTree) (whole : AreWhole r) (few : HaveFewerPlaces r) (f : file.World) (range : IsInRange f) (states : List (World Frame)) (trace : List Line)
    (run : IsRun (classes r) f states trace) where
  abbrev Keeps : World Frame → Type 0
  Keeps = Waits (Quiescent r) (MemoryWorldInvariant r) (IsProgram r)

  -- a world in memory on the way of the run, and the state that it shows, from which the run goes on
  record Here (v : Seen) (m : World Frame) : Type 0 where
    code : IsProgram r v.code
    text : raw_of v.code.program ≡ r
    shows : WorldRepresents (Quiescent r) v m
    keeps : Keeps m
    on : Onwards (classes r) states m.out.ran m

  -- it is at rest there, and what it tells is sound
  at_rest : (v : Seen) (m : World Frame) → Here v m → WorldRepresents (IsAtRest r) v m × RestsInRun r f v
  at_rest v m h =
      let there : slice_get states v.ran ≡ Some m = ap (slice_get states) h.shows.ran ∙ first_left states m.out.ran m h.on.rest h.on.left in
      let kept = holds_at (WorldRests r) states v.ran m (whole_rest r whole f states range (trace, run)) there in
      let s = world_rests r v m h.shows h.keeps.0.lasting.keeps.fits kept in
      (s, record { states = states; run = (trace, run); state = m; after_as_many = there; shows = s })

  told : (v : Seen) (m : World Frame) → Here v m → AllTold v.places
  told v m h = world_told r few whole.valid f v range (at_rest v m h).1

  frames_classed : (v : Seen) (m : World Frame) → Here v m → FramesStuck v → ⊥
  frames_classed v m h stuck =
      places_classed r v.code.program.classes.items (ap (λ (x : RawTree). x.classes) h.text) m.out.file.processes 0 v.places m.places (at_rest v m h).0.places (told v m h) stuck.0.0 stuck.1

  -- events may go on from there
  going : (v : Seen) (m : World Frame) → Here v m → GoesOn r v m
  going v m h = record {
    code = h.code;
    text = h.text;
    shows = h.shows;
    keeps = h.keeps.0;
    waits = h.keeps.1;
    states = h.on.rest;
    lines = h.on.lines;
    runs = h.on.runs;
  }

  going_in_run : (v : Seen) (m : World Frame) → Here v m → GoesOnInRun r f v
  going_in_run v m h = record {
    states = states;
    run = (trace, run);
    state = m;
    after_as_many = ap (slice_get states) h.shows.ran ∙ first_left states m.out.ran m h.on.rest h.on.left;
    goes = going v m h;
  }

  -- where processes are made again, the world is there still
  here_again : (v w : Seen) (m : World Frame) → Here v m → WorldAgain v w → Here w m
  here_again v w m h t = record {
    code = subst (λ (z : Seen). IsProgram r z.code) (sym t.others) h.code;
    text = subst (λ (z : Seen). raw_of z.code.program ≡ r) (sym t.others) h.text;
    shows = world_again r v w m (at_rest v m h).0 (told v m h) t;
    keeps = h.keeps;
    on = h.on;
  }

  module _ {A : Type 0} (puts : A → Line → Result (Unit {0}) OutFault → A → Type 0) (with_frames : Bool) where
    abbrev Shown : World Frame → List Line → Type 0
    Shown = Shows (classes r) frame_spot with_frames

    seen_law : FramesShown (Quiescent r) Keeps (IsProgram r) with_frames r
    seen_law = frames (Quiescent r) (MemoryWorldInvariant r) (IsProgram r) with_frames r (λ m p s. (s.resting.shown.holds.shows, s.resting.sorted)) (λ m k. k.lasting.keeps.fits.count)

    -- so many events ran: where the run is then, the lines that were put, and how what is shown from there on is shown from the first on
    record Came (m : World Frame) (a : A) (v : Seen) (b : A) : Type 0 where
      last : World Frame
      there : Here v last
      lines : List Line
      put : Puts puts a lines b
      goes : (rest : List Line) → Shown last rest → Shown m (lines ++ rest)

    event_came : (m : World Frame) (u v : Seen) (a b c d : A) → Came m a u b → Happens puts u b Rested v c → Puts puts c (lines_if with_frames v) d → Came m a v d
    event_came m u v a b c d k does told_frames =
        let w = k.last in
        let h = k.there in
        let shown = happening puts r u v w b c h.code h.shows h.keeps.0.lasting does in
        let begun = shown.event.begun in
        let left = shown.event.left in
        let own = lines_of begun left in
        let next = after w begun left in
        let ongoing = (same_end (Quiescent r) puts u v w b c h.shows).2 does in
        let kept = keeps_on (Quiescent r) (MemoryWorldInvariant r) (IsProgram r) r (upheld_stays r whole.valid) w begun left h.keeps shown.event.begins shown.event.follows shown.rests in
        let mid = burst_mid h.keeps.0.lasting.slack (classes r) w.out.ran (before begun) left shown.event.follows (begun_mid h.keeps.0.lasting.slack (classes r) w.out.ran w begun refl h.keeps.0.lasting.times shown.event.begins) in
        let stays = code_stays puts u v b c Rested does in
        let text = ap (λ (x : Code). raw_of x.program) stays ∙ h.text in
        let views = seen_if (classes r) frame_spot with_frames next in
        let put_views = subst (λ ls. Puts puts c ls d) (seen_law v next text shown.shows kept) told_frames in
        record {
          last = next;
          there = record {
            code = subst (IsProgram r) (sym stays) h.code;
            text = text;
            shows = shown.shows;
            keeps = kept;
            on = subst (λ n. Onwards (classes r) states n next) (sym mid.ran) (next_on (classes r) states w.out.ran w begun left h.on ongoing shown.event.begins shown.event.follows shown.rests);
          };
          lines = k.lines ++ (own ++ views);
          put = puts_more puts a b d k.lines (own ++ views) k.put (puts_more puts b c d own views shown.event.lines put_views);
          goes = λ rest later.
              subst (Shown m) (sym (append_assoc k.lines (own ++ views) rest ∙ ap (λ ls. k.lines ++ ls) (append_assoc own views rest)))
              (k.goes (own ++ (views ++ rest)) (event begun left ongoing shown.event.begins shown.event.follows shown.rests later));
        }

    came : (w v : Seen) (m : World Frame) (a b : A) → Here w m → Resumes puts with_frames w a v b → Came m a v b
    came w _ m a _ h no_event = record { last = m; there = h; lines = []; put = no_line; goes = λ rest later. later }
    came w v m a d h (one_more {u = u} {b = b} {c = c} goes does told_frames) = event_came m u v a b c d (came w u m a b h goes) does told_frames
    came w v m a b h (again {u = u} goes t) =
        let k = came w u m a b h goes in
        record { last = k.last; there = here_again u v k.last k.there t; lines = k.lines; put = k.put; goes = k.goes }

    -- the end of a run: the lines of its last event, if that was spent, and its last line
    record Ended (m : World Frame) (a : A) (e : Ending) (b : A) : Type 0 where
      own : List Line
      put : Puts puts a own b
      shows : Shown m (own ++ end_line e ∷ [])

    ended : (w v : Seen) (m : World Frame) (a b : A) (e : Ending) → Here w m → EventDoes puts (last_answer e) w a v b → Ended m a e b
    ended w v m a b Idle h does = record {
      own = [];
      put = subst (λ z. Puts puts a [] z) (sym does.2) no_line;
      shows = ends line.EndIdle ((same_end (Quiescent r) puts w v m a b h.shows).0 does);
    }
    ended w v m a b Bound h does = record {
      own = [];
      put = subst (λ z. Puts puts a [] z) (sym does.3) no_line;
      shows = ends line.EndBound ((same_end (Quiescent r) puts w v m a b h.shows).1 does);
    }
    ended w v m a b Spent h does =
        let shown = spent_happening puts r w v m a b h.code h.shows h.keeps.0.lasting does in
        record {
          own = lines_of shown.event.begun shown.event.left;
          put = shown.event.lines;
          shows = spent shown.event.begun shown.event.left ((same_end (Quiescent r) puts w v m a b h.shows).3 does) shown.event.begins shown.event.follows shown.spent;
        }

    -- from a boundary on up to the end
    record Rest (m : World Frame) (a : A) (e : Ending) (b : A) : Type 0 where
      lines : List Line
      put : Puts puts a lines b
      shows : Shown m lines
      front : List Line
      with_end : lines ≡ front ++ end_line e ∷ []

    rest_of : (w : Seen) (m : World Frame) (a b : A) (e : Ending) → Here w m → ResumesTo puts with_frames w a e b → Rest m a e b
    rest_of w m a b e h t =
        let k = came w t.last m a t.before h t.goes in
        let over = ended t.last t.left k.last t.before t.ending e k.there t.ends in
        record {
          lines = k.lines ++ (over.own ++ end_line e ∷ []);
          put = puts_more puts a t.before b k.lines (over.own ++ end_line e ∷ []) k.put
              (puts_more puts t.before t.ending b over.own (end_line e ∷ []) over.put (puts_one puts t.ending b (end_line e) t.ended));
          shows = k.goes (over.own ++ end_line e ∷ []) over.shows;
          front = k.lines ++ over.own;
          with_end = sym (append_assoc k.lines over.own (end_line e ∷ []));
        }

module _ (c : RawClasses) (file : World0) (whole : AreWhole (raw_of c)) (few : HaveFewerPlaces (raw_of c)) (range : IsInRange (seen file)) (first : Seen) (starts : Starts c file first)
    (states : List (World Frame)) (trace : List Line) (run : IsRun (classes (raw_of c)) (seen file) states trace) where
  start : Here (raw_of c) whole few (seen file) range states trace run first (at_start (seen file))
  start = record {
    code = code_first c file whole (few_places (raw_of c) few) first starts;
    text = ap raw_of starts.code.program;
    shows = start_shown (Quiescent (raw_of c)) c file first (settled_first (raw_of c)) starts;
    keeps = (upheld_starts (raw_of c) (seen file) range, start_waits (seen file));
    on = record { rest = run.later; lines = run.rest; runs = run.runs; left = run.from_start };
  }

module _ {A : Type 0} (puts : A → Line → Result (Unit {0}) OutFault → A → Type 0) where
  pub classes_rest_alike : ClassesRestAlike puts
  classes_rest_alike c file with_frames first v a b whole few range starts goes =
      let r = raw_of c in
      let x = (run_exists r whole.valid (seen file) range).is in
      let lines = (run_exists r whole.valid (seen file) range).lines in
      let k = came r whole few (seen file) range x.0 lines x.1 puts with_frames first v (at_start (seen file)) a b (start c file whole few range first starts x.0 lines x.1) goes in
      record {
        rests = (at_rest r whole few (seen file) range x.0 lines x.1 v k.last k.there).1;
        told = told r whole few (seen file) range x.0 lines x.1 v k.last k.there;
        sure = λ s t fails. (event_in_part puts r v k.last s Stuck t k.there.code k.there.shows k.there.keeps.0 fails).0 refl;
        classed = λ stuck. frames_classed r whole few (seen file) range x.0 lines x.1 v k.last k.there stuck;
      }

  pub classes_go_onward : ClassesGoOnward puts
  classes_go_onward c file with_frames first v a b whole few range starts goes =
      let r = raw_of c in
      let x = (run_exists r whole.valid (seen file) range).is in
      let lines = (run_exists r whole.valid (seen file) range).lines in
      let k = came r whole few (seen file) range x.0 lines x.1 puts with_frames first v (at_start (seen file)) a b (start c file whole few range first starts x.0 lines x.1) goes in
      going_in_run r whole few (seen file) range x.0 lines x.1 v k.last k.there

  pub programs_go_onward : ProgramsGoOnward puts
  programs_go_onward text program c file with_frames first v a b sound light has range starts goes =
      classes_go_onward c file with_frames first v a b (subst AreWhole (sym has) (compiles_whole text program sound))
      (subst HaveFewerPlaces (sym has) (compiled_fewer text program sound)) range starts goes

  pub classes_go_on : ClassesGoOn puts
  classes_go_on c file with_frames first v a b y z e whole few range starts goes rest =
      let r = raw_of c in
      let x = (run_exists r whole.valid (seen file) range).is in
      let lines = (run_exists r whole.valid (seen file) range).lines in
      let k = came r whole few (seen file) range x.0 lines x.1 puts with_frames first v (at_start (seen file)) a b (start c file whole few range first starts x.0 lines x.1) goes in
      let l = rest_of r whole few (seen file) range x.0 lines x.1 puts with_frames v k.last y z e k.there rest in
      (k.lines, l.lines, record { rest = k.lines ++ l.lines; shows = k.goes l.lines l.shows; with_head = refl }, k.put, l.put, (l.front, l.with_end))

  pub programs_rest_alike : ProgramsRestAlike puts
  programs_rest_alike text program c file with_frames first v a b sound light has range starts goes =
      classes_rest_alike c file with_frames first v a b (subst AreWhole (sym has) (compiles_whole text program sound))
      (subst HaveFewerPlaces (sym has) (compiled_fewer text program sound)) range starts goes

  pub programs_go_on : ProgramsGoOn puts
  programs_go_on text program c file with_frames first v a b y z e sound light has range starts goes rest =
      let x = classes_go_on c file with_frames first v a b y z e (subst AreWhole (sym has) (compiles_whole text program sound)) (subst HaveFewerPlaces (sym has) (compiled_fewer text program sound))
      range starts goes rest in
      let lines = line.Head ∷ (x.0 ++ x.1) in
      let by_text = shown_of_classes (program_of program) (compiled (program_of program)) (are_carried program (compiles_faithfully text program sound.typed)) with_frames (seen file) lines
      (subst (λ (r : RawTree). ClassShown with_frames r (seen file) lines) has x.2) in
      (x.0, x.1, by_text, x.3, x.4, x.5)

-- a line that nobody keeps may be put as often as it likes, so that frames may follow events where none were asked for
unkept_by : (fault : Option OutFault) (o : Silence) (l : Line) → TellsAfter unkept fault o l (telling o fault)
unkept_by None o l = (Ok tt, refl, refl)
unkept_by (Some fault) o l = (refl, refl)

unkept_all : (ls : List Line) (c : Telling Silence) → Puts (tells unkept) c ls c
unkept_all [] c = no_line
unkept_all (l ∷ ls) c = more_lines (unkept_by c.fault c.out l) (unkept_all ls c)

framed : (with_frames : Bool) (w v : Seen) (a b : Telling Silence) → Resumes (tells unkept) false w a v b → Resumes (tells unkept) with_frames w a v b
framed with_frames w _ a _ no_event = no_event
framed with_frames w v a d (one_more {u = u} {b = b} {c = c} goes does no_line) = one_more (framed with_frames w u a b goes) does (unkept_all (lines_if with_frames v) c)
framed with_frames w v a b (again {u = u} goes t) = again (framed with_frames w u a b goes) t

module _ {A : Type 0} (puts : A → Line → Result (Unit {0}) OutFault → A → Type 0) where
  pub classes_skip : ClassesSkip puts
  classes_skip c file with_frames first v before after a ears e b whole few range starts goes rest =
      let r = raw_of c in
      let x = (run_exists r whole.valid (seen file) range).is in
      let lines = (run_exists r whole.valid (seen file) range).lines in
      let k = came r whole few (seen file) range x.0 lines x.1 (tells unkept) with_frames first v (at_start (seen file)) before after (start c file whole few range first starts x.0 lines x.1)
      (framed with_frames first v before after goes) in
      let l = rests_cut puts r v k.last with_frames a ears e b (going r whole few (seen file) range x.0 lines x.1 v k.last k.there) rest in
      (k.lines, l.0, record { rest = k.lines ++ l.0; shows = k.goes l.0 l.1; with_head = refl }, l.2, l.3)

  pub programs_skip : ProgramsSkip puts
  programs_skip text program c file with_frames first v before after a ears e b sound light has range starts goes rest =
      let x = classes_skip c file with_frames first v before after a ears e b (subst AreWhole (sym has) (compiles_whole text program sound))
      (subst HaveFewerPlaces (sym has) (compiled_fewer text program sound)) range starts goes rest in
      let lines = line.Head ∷ (x.0 ++ x.1) in
      let by_text = shown_of_classes (program_of program) (compiled (program_of program)) (are_carried program (compiles_faithfully text program sound.typed)) with_frames (seen file) lines
      (subst (λ (r : RawTree). ClassShown with_frames r (seen file) lines) has x.2) in
      (x.0, x.1, by_text, x.3, x.4)
