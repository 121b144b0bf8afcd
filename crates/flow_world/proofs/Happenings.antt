-- What comes next, by what it is.
use Rattle.std.proofs.Common.{◌≡◌, ℕ, true, List, [], ◌∷◌, Some, None, refl, ap, subst, sym, arith, if◌then◌else◌}
use Rattle.std.proofs.lemmas.Bool.Decides.{nat_tests}
use Rattle.std.specs.Prelude.{Result, Ok, Err, IfErr, IsErrOf}
use Rattle.flow_base.specs.declared.fault.OutFault.{OutFault}
use Rattle.flow_trace.specs.declared.line.Line.{Line}
use Rattle.flow_worldfile.specs.declared.world.Act.{Act}
use Rattle.flow_worldfile.specs.declared.world.At.{At}
use Rattle.flow_timers.specs.Pending.{Pending, is_at, next_event, event_at, without_event}
use Rattle.flow_machine.specs.declared.host.Burst.{Burst}
use Rattle.flow_machine.specs.declared.host.Burst.TheVariants.{Rested, Spent}
use Rattle.flow_world.specs.declared.outside.What.{What}
use Rattle.flow_world.specs.Changes.{Surroundings, FirstTaken, with_events}
use Rattle.flow_world.specs.Ending.{Seen, first_act, lines_after}
use Rattle.flow_world.specs.Happening.{Ordered, Happened, LineComes, EventComes, with_outside, ends}
use Rattle.flow_world.specs.BreakingEvents.{PutFails, PutBreaks, unput, line_put, OnlyStuck, OrderedBreaks, HappenedBreaks, LineBreaks, PendingBreaks}
use Rattle.flow_machine.specs.declared.host.RunFault.{RunFault}
use Rattle.flow_machine.specs.declared.host.RunFault.TheVariants.{OutOfMemory, Stuck}

module _ {A : Type 0} (puts : A → Line → Result (Unit {0}) OutFault → A → Type 0) where
  pub line_comes : (ls : List At) (x : Act) (w v : Seen) (a b : A) (e : Burst) → Some x ≡ first_act ls
      → Ordered puts x (record w { script = lines_after ls }) a e v b → LineComes puts ls w a e v b
  line_comes [] x w v a b e h o = absurd (cc)
  line_comes (l ∷ ls) x w v a b e h o = subst (λ y. Ordered puts y (record w { script = ls }) a e v b) (some h) o
    where
      some : {Y : Type 0} {s t : Y} → Some s ≡ Some t → s ≡ t
      some g = cc

  pub event_comes : (es : List (Pending What)) (x : What) (m : Surroundings) (w v : Seen) (a b : A) (e : Burst) → FirstTaken es (Some x) w.outside m
      → Happened puts x (with_outside m w) a e v b → EventComes puts es w a e v b
  event_comes [] x m w v a b e t h = absurd t
  event_comes (y ∷ ys) x m w v a b e t h =
      subst (λ n. Happened puts y.what (with_outside n w) a e v b) t.1 (subst (λ z. Happened puts z (with_outside m w) a e v b) t.0 h)

-- want of memory isn't where it is stuck
pub memory_not_stuck : OutOfMemory ≡ Stuck → ⊥
memory_not_stuck e = cc (e)

-- and where it breaks off
module _ {A : Type 0} (puts : A → Line → Result (Unit {0}) OutFault → A → Type 0) where
  pub line_breaks : (ls : List At) (x : Act) (w : Seen) (a b : A) (r : Result Burst RunFault) → Some x ≡ first_act ls
      → IfErr r (λ f. OrderedBreaks puts x (record w { script = lines_after ls }) a f b) → IfErr r (λ f. LineBreaks puts ls w a f b)
  line_breaks [] x w a b r h o = absurd (cc)
  line_breaks (l ∷ ls) x w a b r h o = subst (λ y. IfErr r (λ f. OrderedBreaks puts y (record w { script = ls }) a f b)) (same h) o
    where
      same : {Y : Type 0} {s t : Y} → Some s ≡ Some t → s ≡ t
      same g = cc

  pub no_line_breaks : (ls : List At) (w : Seen) (a b : A) → None ≡ first_act ls → LineBreaks puts ls w a Stuck b
  no_line_breaks [] w a b h = refl
  no_line_breaks (l ∷ ls) w a b h = absurd (cc)

  pub event_breaks : (es : List (Pending What)) (x : What) (m : Surroundings) (w : Seen) (a b : A) (r : Result Burst RunFault) → FirstTaken es (Some x) w.outside m
      → IfErr r (λ f. HappenedBreaks puts x (with_outside m w) a f b) → IfErr r (λ f. PendingBreaks puts es w a f b)
  event_breaks [] x m w a b r t h = absurd t
  event_breaks (y ∷ ys) x m w a b r t h =
      subst (λ n. IfErr r (λ f. HappenedBreaks puts y.what (with_outside n w) a f b)) t.1 (subst (λ z. IfErr r (λ f. HappenedBreaks puts z (with_outside m w) a f b)) t.0 h)

  pub no_event_breaks : (es : List (Pending What)) (m : Surroundings) (w : Seen) (a b : A) → FirstTaken es None w.outside m → PendingBreaks puts es w a Stuck b
  no_event_breaks [] m w a b t = refl
  no_event_breaks (y ∷ ys) m w a b t = absurd t

  -- nothing follows of a line but that something isn't there
  pub only_stuck : {T : Type 0} (why : Type 0) (b : A) (r : Result T RunFault) → (IsErrOf r Stuck → why) → IfErr r (λ f. OnlyStuck puts why f b b)
  only_stuck why b (Ok x) stuck = tt
  only_stuck why b (Err f) stuck = (λ e. stuck (ap Err e), refl)

  -- a line isn't put, or it is and what follows breaks off
  pub put_broke : {T : Type 0} (r : Result T RunFault) (l : Line) (rest : RunFault → A → Type 0) (a b : A) (f : RunFault) → r ≡ Err f → PutFails puts l a f b
      → IfErr r (λ f. PutBreaks puts l (rest f) a f b)
  put_broke r l rest a b f is t = subst (λ z. IfErr z (λ f. PutBreaks puts l (rest f) a f b)) (sym is) (unput t)

  pub then_broke : {T : Type 0} (r : Result T RunFault) (l : Line) (rest : RunFault → A → Type 0) (a b c : A) → puts a l (Ok tt) c → IfErr r (λ f. rest f c)
      → IfErr r (λ f. PutBreaks puts l (rest f) a f b)
  then_broke (Ok x) l rest a b c told t = tt
  then_broke (Err f) l rest a b c told t = line_put c told t

-- the first pending event is found by its time and number
pub first_taken : (es : List (Pending What)) (m n : Surroundings) (t k : ℕ) → Some (t, k) ≡ next_event es → n ≡ with_events (without_event t k es) m
    → FirstTaken es (event_at t k es) m n
first_taken [] m n t k h e = absurd (cc)
first_taken (x ∷ xs) m n t k h e =
    let same : (t, k) ≡ (x.time, x.number) = some h in
    let time : t ≡ x.time = ap (λ p. p.0) same in
    let number : k ≡ x.number = ap (λ p. p.1) same in
    let here : is_at t k x ≡ true = grind (arith, nat_tests) in
    subst (λ b. n ≡ with_events (if b then xs else x ∷ without_event t k xs) m → FirstTaken (x ∷ xs) (if b then Some x.what else event_at t k xs) m n) (sym here) (λ g. (refl, g)) e
  where
    some : {Y : Type 0} {s t : Y} → Some s ≡ Some t → s ≡ t
    some g = cc

pub none_taken : (es : List (Pending What)) (m : Surroundings) → None ≡ next_event es → FirstTaken es None m m
none_taken [] m h = refl
none_taken (x ∷ xs) m h = absurd (cc)

-- none may follow an event that failed, as while it ran
pub ended_again : (e : Burst) (w : Seen) → w.ended ≡ true → w ≡ record (ends e w) { ended = true }
ended_again Rested w h = ap (λ b. record w { ended = b }) h
ended_again Spent w h = ap (λ b. record w { ended = b }) h
