-- A trace that a panel hears, event after event.
use Rattle.std.proofs.Common.{◌≡◌, ℕ, Bool, refl, subst}
use Rattle.std.specs.Prelude.{Result, Ok, true, false}
use Rattle.std.specs.declared.option.Option.{Option}
use Rattle.std.specs.declared.option.Option.TheVariants.{None}
use Rattle.flow_base.specs.declared.fault.OutFault.{OutFault}
use Rattle.flow_trace.specs.declared.line.Line.{Line}
use Rattle.flow_monitor.specs.Ears.{Ears}
use Rattle.flow_world.specs.declared.ending.Ending.{Ending}
use Rattle.flow_world.specs.declared.ending.Ending.TheVariants.{Idle, Bound, Spent}
use Rattle.flow_world.specs.declared.event.Event.TheVariants.{Ran, Stopped}
use Rattle.flow_world.specs.declared.event.Event.{Event}
use Rattle.flow_machine.specs.declared.host.RunFault.{RunFault}
use Rattle.flow_machine.specs.declared.host.RunFault.TheVariants.{OutOfMemory}
use Rattle.flow_class.specs.declared.class.RawClasses.{RawClasses}
use Rattle.flow_worldfile.specs.declared.world.World0.{World0}
use Rattle.flow_world.specs.Starting.{Starts}
use Rattle.flow_world.specs.Around.{Puts, PutsPart}
use Rattle.flow_world.specs.Ending.{Seen}
use Rattle.flow_world.specs.FaultedLines.{Telling, tells, telling, whole, failed}
use Rattle.flow_world.specs.Happening.{EventDoes, Breaks}
use Rattle.flow_world.specs.BreakingEvents.{EventFails}
use Rattle.flow_world.specs.BreakingTraces.{FramesStuckIf, FramesFail, EventsFail, event_fails, frames_fail, counted_out, RestFails, in_events, unnamed, at_last, TraceFails, no_memory, events_fail, no_name, end_fails}
use Rattle.flow_world.specs.Tracing.{lines_if, no_event, one_more, last_answer}
use Rattle.flow_world.specs.Watching.{Hearing, hearing, watching, hears, EventHeard}
use Rattle.flow_world.specs.WatchedTraces.{Quietly, EndsItself, StopsAfter, HeardInPart, in_event, in_frames, HeardRest, HeardRestPart, in_rest, no_last, HeardTrace, HeardTracePart, in_run, no_end}
use Rattle.flow_world.specs.declared.run_ending.RunEnding.{RunEnding}
use Rattle.flow_trace.specs.declared.line.Line.TheVariants as line
use Rattle.flow_world.proofs.Watching.{lines_unheard, unheard_line, unheard_puts, unheard_part, lines_same}

-- what an event does, whoever said Stop in it
abbrev pub HeardSo : {A : Type 0} (puts : A → Line → Result (Unit {0}) OutFault → A → Type 0) → Event → Seen → A → Ears → Seen → A → Ears → Type 0
HeardSo puts e u b ears v c others = (stop : Option ℕ) × EventHeard puts e u (watching b ears) v (hearing c others stop)

module _ {A : Type 0} (puts : A → Line → Result (Unit {0}) OutFault → A → Type 0) (with_frames : Bool) where
  -- the frames after an event
  frames_heard : (w : Seen) (ears : Ears) (stop : Option ℕ) (a b : Telling A) → Puts (tells puts) a (lines_if with_frames w) b
      → Puts (tells (hears puts)) (record { out = hearing a.out ears stop; fault = a.fault }) (lines_if with_frames w) (record { out = hearing b.out ears stop; fault = b.fault })
  frames_heard w ears stop a b t = unheard_puts puts ears stop (lines_if with_frames w) a b (lines_unheard with_frames w) t

  pub quietly_first : (w : Seen) (a : A) (ears : Ears) → Quietly puts with_frames w (watching a ears) w (watching a ears)
  quietly_first w a ears = record { goes = no_event; quiet = refl }

  -- one more event, in which nobody says Stop
  pub quietly_on : (w u v : Seen) (a : Hearing A) (b c d : A) (ears others : Ears) → Quietly puts with_frames w a u (watching b ears)
      → HeardSo puts Ran u b ears v c others → Puts (tells puts) (whole c) (lines_if with_frames v) (whole d)
      → Quietly puts with_frames w a v (watching d others)
  quietly_on w u v a b c d ears others so_far does frames =
      let ran = subst (λ s. EventDoes (tells (hears puts)) Ran u (whole (watching b ears)) v (whole (hearing c others s))) does.1.1 does.1.0 in
      record { goes = one_more so_far.goes ran (frames_heard v others None (whole c) (whole d) frames); quiet = refl }

  -- the run comes to its own end
  own_end : (e : Ending) (w u v : Seen) (a : Hearing A) (b : A) (c : Hearing A) (ears : Ears) → Quietly puts with_frames w a u (watching b ears)
      → EventDoes (tells (hears puts)) (last_answer e) u (whole (watching b ears)) v (whole c) → EndsItself puts with_frames e w a c
  own_end e w u v a b c ears so_far does = record {
    last = u;
    before = watching b ears;
    left = v;
    quietly = so_far;
    ends = does;
  }

  pub ends_itself : (e : Ending) (w u v : Seen) (a : Hearing A) (b c : A) (ears others : Ears) → Quietly puts with_frames w a u (watching b ears)
      → HeardSo puts (last_answer e) u b ears v c others → (stop : Option ℕ) × EndsItself puts with_frames e w a (hearing c others stop)
  ends_itself Idle w u v a b c ears others so_far t = (t.0, own_end Idle w u v a b (hearing c others t.0) ears so_far t.1)
  ends_itself Bound w u v a b c ears others so_far t = (t.0, own_end Bound w u v a b (hearing c others t.0) ears so_far t.1)
  ends_itself Spent w u v a b c ears others so_far t = (t.0, own_end Spent w u v a b (hearing c others t.0) ears so_far t.1)

  -- or it is stopped
  pub stops_after : (k : ℕ) (w u v : Seen) (a : Hearing A) (b c d : A) (ears others : Ears) → Quietly puts with_frames w a u (watching b ears)
      → HeardSo puts (Stopped k) u b ears v c others → Puts (tells puts) (whole c) (lines_if with_frames v) (whole d)
      → (stop : Option ℕ) × StopsAfter puts with_frames k w a (hearing d others stop)
  stops_after k w u v a b c d ears others so_far t frames =
      let does = t.1 in
      let own = subst (λ x. Puts (tells puts) (whole c) (lines_if with_frames x) (whole d)) does.ended frames in (
        t.0,
        record {
          last = u;
          before = watching b ears;
          left = does.left;
          told = hearing c others t.0;
          quietly = so_far;
          happens = does.happens;
          stop = does.stop;
          frames = frames_heard does.left others t.0 (whole c) (whole d)
              (subst (λ ls. Puts (tells puts) (whole c) ls (whole d)) (lines_same with_frames does.left) own);
        },
      )

  -- or a put fails: in an event, in the frames after one, or in those after one that was stopped
  pub breaks_in_event : (w u v : Seen) (a : Hearing A) (b c : A) (ears others : Ears) → Quietly puts with_frames w a u (watching b ears)
      → (stop : Option ℕ) × Breaks (tells (hears puts)) u (whole (watching b ears)) v (failed (hearing c others stop))
      → (stop : Option ℕ) × HeardInPart puts with_frames w a (hearing c others stop)
  breaks_in_event w u v a b c ears others so_far t = (t.0, in_event so_far t.1)

  pub breaks_in_frames : (w u v : Seen) (a : Hearing A) (b c d : A) (ears others : Ears) → Quietly puts with_frames w a u (watching b ears)
      → HeardSo puts Ran u b ears v c others → Puts (tells puts) (whole c) (lines_if with_frames v) (failed d)
      → (stop : Option ℕ) × HeardInPart puts with_frames w a (hearing d others stop)
  breaks_in_frames w u v a b c d ears others so_far t frames = (t.0, in_frames so_far t.1.0 (frames_heard v others t.0 (whole c) (failed d) frames))

  pub breaks_in_last : (k : ℕ) (w u v : Seen) (a : Hearing A) (b c d : A) (ears others : Ears) → Quietly puts with_frames w a u (watching b ears)
      → HeardSo puts (Stopped k) u b ears v c others → Puts (tells puts) (whole c) (lines_if with_frames v) (failed d)
      → (stop : Option ℕ) × HeardInPart puts with_frames w a (hearing d others stop)
  breaks_in_last k w u v a b c d ears others so_far t frames =
      let own = subst (λ x. Puts (tells puts) (whole c) (lines_if with_frames x) (failed d)) t.1.ended frames in
      let left = t.1.left in (
        t.0,
        in_frames so_far t.1.happens
            (frames_heard left others t.0 (whole c) (failed d) (subst (λ ls. Puts (tells puts) (whole c) ls (failed d)) (lines_same with_frames left) own)),
      )

  -- or an event fails, or the frames after one that ran or was stopped
  abbrev pub FailsSo : Seen → Hearing A → RunFault → A → Ears → Type 0
  FailsSo w a z c others = (stop : Option ℕ) × (fault : Option OutFault) × EventsFail puts with_frames w a z (telling (hearing c others stop) fault)

  abbrev FramesFailSo : Seen → A → RunFault → A → Type 0
  FramesFailSo v c z d = (t : Telling A) × (t.out ≡ d) × FramesFail puts with_frames v (whole c) z t

  pub fails_in_event : (w u : Seen) (a : Hearing A) (b c : A) (ears others : Ears) (z : RunFault) → Quietly puts with_frames w a u (watching b ears)
      → (stop : Option ℕ) × (fault : Option OutFault) × EventFails (hears puts) u (whole (watching b ears)) z (telling (hearing c others stop) fault)
      → FailsSo w a z c others
  fails_in_event w u a b c ears others z so_far t = (t.0, t.1, event_fails so_far t.2)

  frames_fail_heard : (v : Seen) (others : Ears) (stop : Option ℕ) (c : A) (z : RunFault) (t : Telling A) → FramesFail puts with_frames v (whole c) z t
      → FramesFail (hears puts) with_frames v (whole (hearing c others stop)) z (telling (hearing t.out others stop) t.fault)
  frames_fail_heard v others stop c z t x =
      record { part = unheard_part puts others stop (lines_if with_frames v) (whole c) t (lines_unheard with_frames v) x.part; stuck = x.stuck }

  pub fails_in_frames : (w u v : Seen) (a : Hearing A) (b c d : A) (ears others : Ears) (z : RunFault) → Quietly puts with_frames w a u (watching b ears)
      → HeardSo puts Ran u b ears v c others → FramesFailSo v c z d → FailsSo w a z d others
  fails_in_frames w u v a b c d ears others z so_far t x = (
    t.0,
    x.0.fault,
    subst (λ o. EventsFail puts with_frames w a z (telling (hearing o others t.0) x.0.fault)) x.1
        (frames_fail so_far t.1.0 (frames_fail_heard v others t.0 c z x.0 x.2)),
  )

  same_stuck : (b : Bool) (w : Seen) → FramesStuckIf b (record w { ended = true }) → FramesStuckIf b w
  same_stuck true w t = t
  same_stuck false w t = t

  pub fails_in_last : (k : ℕ) (w u v : Seen) (a : Hearing A) (b c d : A) (ears others : Ears) (z : RunFault) → Quietly puts with_frames w a u (watching b ears)
      → HeardSo puts (Stopped k) u b ears v c others → FramesFailSo v c z d → FailsSo w a z d others
  fails_in_last k w u v a b c d ears others z so_far t x =
      let left = t.1.left in
      let own = subst (λ s. FramesFail puts with_frames s (whole c) z x.0) t.1.ended x.2 in
      let here : FramesFail puts with_frames left (whole c) z x.0 = record {
        part = subst (λ ls. PutsPart (tells puts) (whole c) ls x.0) (lines_same with_frames left) own.part;
        stuck = λ e. same_stuck with_frames left (own.stuck e);
      } in (
        t.0,
        x.0.fault,
        subst (λ o. EventsFail puts with_frames w a z (telling (hearing o others t.0) x.0.fault)) x.1
            (frames_fail so_far t.1.happens (frames_fail_heard left others t.0 c z x.0 here)),
      )

  -- or too many of them ran
  pub fails_counting : (w u : Seen) (a : Hearing A) (b : A) (ears : Ears) → Quietly puts with_frames w a u (watching b ears) → FailsSo w a OutOfMemory b ears
  fails_counting w u a b ears so_far = (None, None, counted_out so_far refl refl)

  -- a trace fails
  abbrev pub TraceFailsSo : RawClasses → World0 → A → Ears → RunFault → A → Ears → Type 0
  TraceFailsSo classes file a ears z b others =
      (stop : Option ℕ) × (fault : Option OutFault) × TraceFails puts with_frames classes file (watching a ears) z (telling (hearing b others stop) fault)

  abbrev pub FailsFrom : Seen → A → Ears → A → Ears → RunFault → Type 0
  FailsFrom first a ears b others z = (classes : RawClasses) (file : World0) → Starts classes file first → TraceFailsSo classes file a ears z b others

  pub fails_before : (classes : RawClasses) (file : World0) (a : A) (ears : Ears) → TraceFailsSo classes file a ears OutOfMemory a ears
  fails_before classes file a ears = (None, None, no_memory refl refl)

  -- a trace is its first line and what is put after it
  module _ (classes : RawClasses) (file : World0) (first : Seen) (a h : A) (ears : Ears) (starts : Starts classes file first) (head : puts a line.Head (Ok tt) h) where
    headed : hears puts (watching a ears) line.Head (Ok tt) (watching h ears)
    headed = unheard_line puts ears None a h line.Head refl head

    pub rest_traced : (e : RunEnding) (b : Telling (Hearing A)) → HeardRest puts with_frames first (watching h ears) e b
        → HeardTrace puts with_frames classes file (watching a ears) e b
    rest_traced e b t = record {
      first = first;
      headed = watching h ears;
      before = t.before;
      starts = starts;
      head = headed;
      goes = t.goes;
      ended = t.ended;
    }

    pub rest_in_part : (b : Hearing A) → HeardRestPart puts with_frames first (watching h ears) b → HeardTracePart puts with_frames classes file (watching a ears) b
    rest_in_part b (in_rest t) = in_run starts headed t
    rest_in_part b (no_last {e} t) = no_end {e = e} (rest_traced e (failed b) t)

    pub rest_failed : (z : RunFault) (t : Telling (Hearing A)) → RestFails puts with_frames first (watching h ears) z t
        → TraceFails puts with_frames classes file (watching a ears) z t
    rest_failed z t (in_events x) = events_fail first (watching h ears) starts headed x
    rest_failed z t (unnamed e before m is goes) = no_name e first (watching h ears) before m is starts headed goes
    rest_failed z t (at_last fault e is failed x) = end_fails fault e is failed (rest_traced e t x)
