-- Lines that a panel hears: what is put to it is put where they go; lines that it doesn't hear leave it as it was.
use Rattle.std.proofs.Common.{◌≡◌, ◌<◌, ℕ, List, [], ◌∷◌, ◌++◌, Bool, true, false, map, take, drop, length, refl, sym, ap, ◌∙◌, subst}
use Rattle.std.specs.Prelude.{Result, Ok, Err, if◌then◌else◌}
use Rattle.std.specs.List.{AllByRecursion, flat_map, range_with_len}
use Rattle.std.specs.declared.option.Option.{Option}
use Rattle.std.specs.declared.option.Option.TheVariants.{None, Some}
use Rattle.flow_base.specs.declared.fault.OutFault.{OutFault}
use Rattle.flow_base.specs.declared.ids.ActorId.{ActorId}
use Rattle.flow_base.specs.declared.ids.CellId.{CellId}
use Rattle.flow_base.specs.declared.ids.ProcId.{ProcId}
use Rattle.flow_trace.specs.declared.line.Line.{Line}
use Rattle.flow_trace.specs.declared.line.Line.TheVariants as line
use Rattle.flow_class.specs.declared.class.Class.{Class}
use Rattle.flow_steps.specs.declared.views.FrameView.{FrameView}
use Rattle.flow_steps.specs.declared.views.CallbackView.{CallbackView}
use Rattle.flow_monitor.specs.Ears.{Ears, after, first_stop, names}
use Rattle.flow_monitor.specs.Heard.{is_heard}
use Rattle.flow_monitor.specs.Cut.{ears_after, stop_in}
use Rattle.flow_monitor.proofs.Naming.{names_stay, name_stays, place_stays, stop_within}
use Rattle.flow_world.specs.declared.ending.Ending.TheVariants as ending
use Rattle.flow_world.specs.declared.event.Event.{Event}
use Rattle.flow_world.specs.declared.event.Event.TheVariants.{Ran, Idle, BoundReached, Spent, Stopped}
use Rattle.flow_world.specs.declared.run_ending.RunEnding.{RunEnding}
use Rattle.flow_world.specs.declared.run_ending.RunEnding.TheVariants as run
use Rattle.flow_machine.specs.declared.host.RunFault.{RunFault}
use Rattle.flow_world.specs.Around.{Puts, no_line, more_lines, PutsPart, no_more, put_then, put_fails}
use Rattle.flow_world.specs.Ending.{Seen, MeansEvent}
use Rattle.flow_world.specs.FaultedLines.{Telling, TellsAfter, tells, telling, whole, failed}
use Rattle.flow_world.specs.Happening.{EventDoes, Breaks}
use Rattle.flow_world.specs.BreakingEvents.{EventFails}
use Rattle.flow_world.specs.Tracing.{own_count, callback_line, own_lines, frames_lines, process_lines, lines_if}
use Rattle.flow_world.specs.Watching.{Hearing, hearing, first_of, hears, EventHeard, IsPlace, answer_heard, world_heard}
use Rattle.flow_world.specs.WatchedTraces.{last_line}
use Rattle.flow_world.proofs.MovedEvents.{happens_by, does_event_by}
use Rattle.flow_world.proofs.MovedTraces.{seen_of, told_by, event_fails_by}

-- what puts lines so that a panel hears them, seen as where they go and the panel
module _ {W A : Type 0} (f : W → Hearing A) (puts : A → Line → Result (Unit {0}) OutFault → A → Type 0) (puts_heard : W → Line → Result (Unit {0}) OutFault → W → Type 0)
    (there : (a b : W) (l : Line) (answer : Result (Unit {0}) OutFault) → puts_heard a l answer b → hears puts (f a) l answer (f b)) where
  pub event_heard : (e : Event) (w : Seen) (a : W) (v : Seen) (b : W) → EventDoes (tells puts_heard) e w (whole a) v (whole b)
      → EventDoes (tells (hears puts)) e w (whole (f a)) v (whole (f b))
  event_heard e w a v b t = does_event_by (seen_of f) (tells puts_heard) (tells (hears puts)) (told_by f puts_heard (hears puts) there) e w (whole a) v (whole b) t

  pub break_heard : (w : Seen) (a : W) (v : Seen) (b : W) → Breaks (tells puts_heard) w (whole a) v (failed b) → Breaks (tells (hears puts)) w (whole (f a)) v (failed (f b))
  break_heard w a v b t = record {
    burst = t.burst;
    left = t.left;
    happens = happens_by (seen_of f) (tells puts_heard) (tells (hears puts)) (told_by f puts_heard (hears puts) there) w (whole a) t.burst t.left (failed b) t.happens;
    ended = t.ended;
  }

  pub fails_heard : (w : Seen) (a : W) (z : RunFault) (t : Telling W) → EventFails puts_heard w (whole a) z t → EventFails (hears puts) w (whole (f a)) z (seen_of f t)
  fails_heard w a z t x = event_fails_by f puts_heard (hears puts) there w (whole a) z t x

-- a panel that hears no line of these stays as it was
first_none : (stop : Option ℕ) → first_of stop None ≡ stop
first_none None = refl
first_none (Some k) = refl

ears_same : (l : Line) (ears : Ears) → is_heard l ≡ false → ears ≡ ears_after l ears
ears_same l ears e = sym (ap (λ b. if b then after l ears else ears) e)

stop_same : (l : Line) (ears : Ears) (stop : Option ℕ) → is_heard l ≡ false → stop ≡ first_of stop (stop_in l ears)
stop_same l ears stop e = sym (ap (λ b. first_of stop (if b then first_stop l ears else None)) e ∙ first_none stop)

abbrev pub AllUnheard : List Line → Type 0
AllUnheard = AllByRecursion (λ l. is_heard l ≡ false)

module _ {A : Type 0} (puts : A → Line → Result (Unit {0}) OutFault → A → Type 0) (ears : Ears) (stop : Option ℕ) where
  abbrev pub around : Telling A → Telling (Hearing A)
  around t = record { out = hearing t.out ears stop; fault = t.fault }

  unheard : (a b : A) (l : Line) (answer : Result (Unit {0}) OutFault) → is_heard l ≡ false → puts a l answer b → hears puts (hearing a ears stop) l answer (hearing b ears stop)
  unheard a b l (Ok done) e t = (t, ears_same l ears e, stop_same l ears stop e)
  unheard a b l (Err fault) e t = (t, refl, refl)

  pub unheard_line : (a b : A) (l : Line) → is_heard l ≡ false → puts a l (Ok tt) b → hears puts (hearing a ears stop) l (Ok tt) (hearing b ears stop)
  unheard_line a b l e t = unheard a b l (Ok tt) e t

  unheard_after : (before : Option OutFault) (a : A) (b : Telling A) (l : Line) → is_heard l ≡ false → TellsAfter puts before a l b
      → TellsAfter (hears puts) before (hearing a ears stop) l (around b)
  unheard_after None a b l e t = (t.0, unheard a b.out l t.0 e t.1, t.2)
  unheard_after (Some fault) a b l e t = (ap (λ o. hearing o ears stop) t.0, t.1)

  pub unheard_told : (a b : Telling A) (l : Line) → is_heard l ≡ false → tells puts a l (Ok tt) b → tells (hears puts) (around a) l (Ok tt) (around b)
  unheard_told a b l e t = unheard_after a.fault a.out b l e t

  pub unheard_puts : (ls : List Line) (a b : Telling A) → AllUnheard ls → Puts (tells puts) a ls b → Puts (tells (hears puts)) (around a) ls (around b)
  unheard_puts [] a _ h no_line = no_line
  unheard_puts (l ∷ ls) a b h (more_lines {b = m} t rest) = more_lines (unheard_told a m l h.0 t) (unheard_puts ls m b h.1 rest)

  pub unheard_part : (ls : List Line) (a b : Telling A) → AllUnheard ls → PutsPart (tells puts) a ls b → PutsPart (tells (hears puts)) (around a) ls (around b)
  unheard_part ls a _ h no_more = no_more
  unheard_part (l ∷ ls) a b h (put_then {b = m} t rest) = put_then (unheard_told a m l h.0 t) (unheard_part ls m b h.1 rest)
  unheard_part (l ∷ ls) a b h (put_fails t) = absurd t

-- what holds of each frame and each callback holds of all lines that are told of them
module _ (Q : Line → Type 0) (of_frame : (p : ProcId) (a : ActorId) (class : List ℕ) (group : ℕ) → Q (line.Frame p a class group))
    (of_callback : (p : ProcId) (a : ActorId) (k : ℕ) (c : CellId) → Q (line.Callback p a k c)) where
  abbrev All : List Line → Type 0
  All = AllByRecursion Q

  more : (ls ms : List Line) → All ls → All ms → All (ls ++ ms)
  more [] ms h k = k
  more (l ∷ ls) ms h k = (h.0, more ls ms h.1 k)

  callbacks : (p : ProcId) (held : List CallbackView) → All (map (callback_line p) held)
  callbacks p [] = tt
  callbacks p (c ∷ held) = (of_callback p c.actor c.callback c.cell, callbacks p held)

  frames : (cs : List Class) (p : ProcId) (fs : List FrameView) (held : List CallbackView) → All (frames_lines cs p fs held)
  frames cs p [] held = tt
  frames cs p (f ∷ fs) held =
      more (own_lines cs p f held) (frames_lines cs p fs (drop (own_count f.actor held) held))
      (of_frame p f.actor _ f.state, callbacks p (take (own_count f.actor held) held)) (frames cs p fs (drop (own_count f.actor held) held))

  places : (w : Seen) (ns : List ℕ) → All (flat_map (λ n. process_lines w (record { 0 = n })) ns)
  places w [] = tt
  places w (n ∷ ns) =
      more (process_lines w (record { 0 = n })) (flat_map (λ n. process_lines w (record { 0 = n })) ns) (frames _ _ _ _) (places w ns)

  pub frames_all : (with_frames : Bool) (w : Seen) → All (lines_if with_frames w)
  frames_all true w = places w (range_with_len 0 w.outside.net.processes)
  frames_all false w = tt

-- they aren't heard
pub lines_unheard : (with_frames : Bool) (w : Seen) → AllUnheard (lines_if with_frames w)
lines_unheard = frames_all (λ l. is_heard l ≡ false) (λ p a class group. refl) (λ p a k c. refl)

-- nor is the last line
pub last_unheard : (ears : Ears) (e : RunEnding) → is_heard (last_line ears e) ≡ false
last_unheard ears (run.Own ending.Idle) = refl
last_unheard ears (run.Own ending.Bound) = refl
last_unheard ears (run.Own ending.Spent) = refl
last_unheard ears (run.Stopped k) = refl

-- which has the same name before and after
pub last_same : (ears others : Ears) (e : RunEnding) → names others ≡ names ears → last_line others e ≡ last_line ears e
last_same ears others (run.Own e) h = refl
last_same ears others (run.Stopped k) h = ap line.EndStop (name_stays ears others k h)

-- the frames don't ask whether a world has ended
pub lines_same : (with_frames : Bool) (w : Seen) → lines_if with_frames (record w { ended = true }) ≡ lines_if with_frames w
lines_same true w = refl
lines_same false w = refl

-- who said Stop is one of the panel
pub place_after : (l : Line) (ears : Ears) (stop : Option ℕ) → ((k : ℕ) → stop ≡ Some k → k < length ears)
    → (k : ℕ) → first_of stop (stop_in l ears) ≡ Some k → k < length (ears_after l ears)
place_after l ears (Some j) within k e = place_stays ears (ears_after l ears) k (names_stay l ears) (within k e)
place_after l ears None within k e = stop_within l ears k e

pub put_within : (l : Line) (ears others : Ears) (stop now result : Option ℕ) → is_heard l ≡ true → others ≡ after l ears → now ≡ first_stop l ears → result ≡ first_of stop now
    → ((k : ℕ) → stop ≡ Some k → k < length ears) → (k : ℕ) → result ≡ Some k → k < length others
put_within l ears others stop now result heard e n r within k is =
    let here : ears_after l ears ≡ after l ears = ap (λ b. if b then after l ears else ears) heard in
    let said : stop_in l ears ≡ first_stop l ears = ap (λ b. if b then first_stop l ears else None) heard in
    let first : first_of stop (stop_in l ears) ≡ Some k = ap (first_of stop) (said ∙ sym n) ∙ sym r ∙ is in
    subst (λ x. k < length x) (here ∙ sym e) (place_after l ears stop within k first)

-- what is answered then
module _ {A : Type 0} (puts : A → Line → Result (Unit {0}) OutFault → A → Type 0) (w : Seen) (a : Hearing A) where
  pub answer_does : (e : Event) (stop : Option ℕ) (v u : Seen) (b : Hearing A) → b.stop ≡ stop → u ≡ world_heard e stop v → EventDoes (tells (hears puts)) e w (whole a) v (whole b)
      → EventHeard puts (answer_heard e stop) w a u b
  answer_does Ran None v u b s e t = (subst (λ x. EventDoes (tells (hears puts)) Ran w (whole a) x (whole b)) (sym e) t, s)
  answer_does Ran (Some k) v u b s e t = record { left = v; happens = t; stop = s; ended = e }
  answer_does Idle stop v u b s e t = subst (λ x. EventDoes (tells (hears puts)) Idle w (whole a) x (whole b)) (sym e) t
  answer_does BoundReached stop v u b s e t = subst (λ x. EventDoes (tells (hears puts)) BoundReached w (whole a) x (whole b)) (sym e) t
  answer_does Spent stop v u b s e t = subst (λ x. EventDoes (tells (hears puts)) Spent w (whole a) x (whole b)) (sym e) t
  answer_does (Stopped k) stop v u b s e t = absurd t

pub answer_means : (w : Seen) (e : Event) (stop : Option ℕ) (v u : Seen) → u ≡ world_heard e stop v → MeansEvent w (Ok e) v → MeansEvent w (Ok (answer_heard e stop)) u
answer_means w Ran None v u e t = subst (MeansEvent w (Ok Ran)) (sym e) t
answer_means w Ran (Some k) v u e t =
    subst (MeansEvent w (Ok (Stopped k))) (sym e) (record { may = t.0.may; ran = t.0.ran; bound = t.0.bound; file = t.0.file }, refl)
answer_means w Idle stop v u e t = subst (MeansEvent w (Ok Idle)) (sym e) t
answer_means w BoundReached stop v u e t = subst (MeansEvent w (Ok BoundReached)) (sym e) t
answer_means w Spent stop v u e t = subst (MeansEvent w (Ok Spent)) (sym e) t
answer_means w (Stopped k) stop v u e t = subst (MeansEvent w (Ok (Stopped k))) (sym e) t

-- none is stopped but by a panel's
pub answer_place : (e : Event) (stop : Option ℕ) (many : ℕ) → ((k : ℕ) → stop ≡ Some k → k < many) → ((k : ℕ) → e ≡ Stopped k → ⊥) → IsPlace (answer_heard e stop) many
answer_place Ran None many within never = tt
answer_place Ran (Some k) many within never = within k refl
answer_place Idle stop many within never = tt
answer_place BoundReached stop many within never = tt
answer_place Spent stop many within never = tt
answer_place (Stopped k) stop many within never = absurd (never k refl)

pub never_stopped : {B : Type 0} (puts : B → Line → Result (Unit {0}) OutFault → B → Type 0) (e : Event) (w : Seen) (a : B) (v : Seen) (b : B) → EventDoes puts e w a v b
    → (k : ℕ) → e ≡ Stopped k → ⊥
never_stopped puts e w a v b t k is = subst (λ x. EventDoes puts x w a v b) is t

-- the same where the panel and where lines go are known again
module _ {A X : Type 0} (puts : A → Line → Result (Unit {0}) OutFault → A → Type 0) (ears : X → Ears) (w : Seen) (a : Hearing A) where
  pub known_event : (e r : Event) (v : Seen) (o u : A) (p q : X) (stop : Option ℕ) → o ≡ u → p ≡ q → r ≡ e → EventHeard puts e w a v (hearing o (ears p) stop)
      → (s : Option ℕ) × EventHeard puts r w a v (hearing u (ears q) s)
  known_event e r v o u p q stop ou pq re t = (
    stop,
    subst (λ z. EventHeard puts z w a v (hearing u (ears q) stop)) (sym re)
        (subst (λ z. EventHeard puts e w a v (hearing u (ears z) stop)) pq (subst (λ z. EventHeard puts e w a v (hearing z (ears p) stop)) ou t)),
  )

  pub known_break : (v : Seen) (o u : A) (p q : X) (stop : Option ℕ) → o ≡ u → p ≡ q → Breaks (tells (hears puts)) w (whole a) v (failed (hearing o (ears p) stop))
      → (s : Option ℕ) × Breaks (tells (hears puts)) w (whole a) v (failed (hearing u (ears q) s))
  known_break v o u p q stop ou pq t = (
    stop,
    subst (λ z. Breaks (tells (hears puts)) w (whole a) v (failed (hearing u (ears z) stop))) pq
        (subst (λ z. Breaks (tells (hears puts)) w (whole a) v (failed (hearing z (ears p) stop))) ou t),
  )

  pub known_fails : (z : RunFault) (o u : A) (p q : X) (stop : Option ℕ) (fault : Option OutFault) → o ≡ u → p ≡ q
      → EventFails (hears puts) w (whole a) z (telling (hearing o (ears p) stop) fault)
      → (s : Option ℕ) × (k : Option OutFault) × EventFails (hears puts) w (whole a) z (telling (hearing u (ears q) s) k)
  known_fails z o u p q stop fault ou pq t = (
    stop,
    fault,
    subst (λ x. EventFails (hears puts) w (whole a) z (telling (hearing u (ears x) stop) fault)) pq
        (subst (λ x. EventFails (hears puts) w (whole a) z (telling (hearing x (ears p) stop) fault)) ou t),
  )
