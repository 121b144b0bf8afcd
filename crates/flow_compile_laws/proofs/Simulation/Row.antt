-- How a frame answers a step of the actor beside it: the forms that all statements share.
use Rattle.std.proofs.Common.{◌≡◌, ℕ, List, inr, refl, sym, ap, subst, ◌∙◌}
use Rattle.std.specs.declared.option.Option.{Option}
use Rattle.std.specs.declared.option.Option.TheVariants.{None, Some}
use Rattle.flow_class.specs.Classes.{ClassTree, GotoLast}
use Rattle.flow_class.specs.Scopes.{Scope}
use Rattle.flow_class.specs.Code.{Fetched, Last}
use Rattle.flow_eval.specs.Eval.{Res, Done, Fails, Spent, Meaningless}
use Rattle.flow_meaning.specs.Orderly.{Free, Risky, Due, Waiting}
use Rattle.flow_meaning.specs.Requests.{Ask}
use Rattle.flow_meaning.specs.Process.{View, Engine}
use Rattle.flow_meaning.specs.Evaluating.{Names, StepOf, given, evaluated}
use Rattle.flow_meaning.specs.Law.{Quietly, still, quiet, phase_after}
use Rattle.flow_meaning.specs.Items.{Item, Actor, actor}
use Rattle.flow_meaning.specs.Frame.{Memory, Frame, go}
use Rattle.flow_meaning.specs.Class.{fetched, next_step}
use Rattle.flow_meaning.specs.Carry.{Pos, entry, Target, at, JumpsTo, here, jump}
use Rattle.flow_compile_laws.specs.Simulation.Memories.{vars_of, Held, frame_at}
use Rattle.flow_compile_laws.specs.Simulation.Matching.{ThrowsAt, RestAt, pos_of, Beside, ActorMatches}

pub goes_on : {ns : Names} {c : ClassTree} {p q r : Pos} → JumpsTo ns c p q → JumpsTo ns c q r → JumpsTo ns c p r
goes_on here h = h
goes_on (jump b e g) h = jump b e (goes_on g h)

-- frames of the classes that d runs, which name the same
module _ (d : Engine Frame) (ns : Names) (steps : (v : View) (f : Frame) → d.next v f ≡ next_step ns v f) where
  -- what the actor asks is asked after quiet steps, and where it asks nothing there may be such
  abbrev pub Replies : View → Option Ask → Actor → Frame → Type 0
  Replies v None a f = (g : Frame) × Quietly d v f g × ActorMatches ns Free a g
  Replies v (Some k) a f = (g : Frame) × (h : Frame) × Quietly d v f g × (d.next v g ≡ (Some k, h)) × ActorMatches ns (phase_after k.act) a h

  abbrev pub Replied : View → StepOf Actor → Frame → Type 0
  Replied v x f = Replies v x.0 x.1 f

  quiet_on : {v : View} {f g h : Frame} → Quietly d v f g → Quietly d v g h → Quietly d v f h
  quiet_on still q = q
  quiet_on (quiet b e p) q = quiet b e (quiet_on p q)

  pub later : (v : View) (o : Option Ask) (a : Actor) (f g : Frame) → Quietly d v f g → Replies v o a g → Replies v o a f
  later v None a f g q h = (h.0, quiet_on q h.1, h.2)
  later v (Some k) a f g q h = (h.0, h.1, quiet_on q h.2, h.3, h.4)

  -- what stands at the position is the next step
  pub next_is : (v : View) (c : ClassTree) (m : Memory) (p : Pos) (n : ℕ) (i : Fetched) → at ns c p ≡ i → d.next v (frame_at c m p n) ≡ fetched ns v (frame_at c m p n) i
  next_is v c m p n i e = steps v (frame_at c m p n) ∙ ap (fetched ns v (frame_at c m p n)) e

  -- jumps are quiet steps
  pub jumps : (v : View) (c : ClassTree) (m : Memory) {p q : Pos} (n : ℕ) → JumpsTo ns c p q → (k : ℕ) × Quietly d v (frame_at c m p n) (frame_at c m q k)
  jumps v c m n here = (n, still)
  jumps v c m n (jump {p = p} b e g) =
      let r = jumps v c m 0 g in
      (r.0, quiet (frame_at c m (entry b) 0) (next_is v c m p n (Last (GotoLast b)) e) r.1)

  -- both ask for the same, and stand beside each other afterwards
  abbrev pub After : Option Ask → Actor → Frame → Type 0
  After None a f = ActorMatches ns Free a f
  After (Some k) a f = ActorMatches ns (phase_after k.act) a f

  abbrev pub Agree : StepOf Actor → StepOf Frame → Type 0
  Agree x y = (y.0 ≡ x.0) × After x.0 x.1 y.1

  pub agreed : (v : View) (f : Frame) (x : StepOf Actor) (y : StepOf Frame) → d.next v f ≡ y → Agree x y → Replied v x f
  agreed v f x y e h = by_ask x.0 x.1 (e ∙ ap (λ k. (k, y.1)) h.0) h.1
    where
      by_ask : (o : Option Ask) (a : Actor) → d.next v f ≡ (o, y.1) → After o a y.1 → Replies v o a f
      by_ask None a e h = (y.1, quiet y.1 e still, h)
      by_ask (Some k) a e h = (f, y.1, still, e, h)

  -- each phase says more than those before
  pub dues : (a : Actor) (f : Frame) → Beside ns Due a f → Beside ns Risky a f
  dues a f b = record {
    s = b.s;
    ts = b.ts;
    to = b.to;
    vars = b.vars;
    held = b.held;
    at = b.at;
    way = (subst (λ q. JumpsTo ns f.code (pos_of f) q) b.way.0 here, b.way.1);
  }

  pub risks : (a : Actor) (f : Frame) → Beside ns Risky a f → Beside ns Free a f
  risks a f b = record { s = b.s; ts = b.ts; to = b.to; vars = b.vars; held = b.held; at = b.at; way = b.way.0 }

  pub waits : (a : Actor) (f : Frame) → Beside ns Waiting a f → Beside ns Due a f
  waits a f b = record { s = b.s; ts = b.ts; to = b.to; vars = b.vars; held = b.held; at = b.at; way = (b.way.0, b.way.1, b.way.2) }

  -- both go on with what evaluation gives, or fail, or are stopped alike
  pub evaluated_agree : {B : Type 0} (a : Actor) (f : Frame) (q u : Res B) (go : B → ℕ → StepOf Actor) (to : B → ℕ → StepOf Frame) → u ≡ q → ActorMatches ns Risky a f
      → ((x : B) (left : ℕ) → Agree (go x left) (to x left)) → Agree (evaluated a q go) (evaluated f u to)
  evaluated_agree {B} a f q u go to e s h = subst (λ z. Agree (evaluated a q go) (evaluated f z to)) (sym e) (by_result q)
    where
      by_result : (q : Res B) → Agree (evaluated a q go) (evaluated f q to)
      by_result (Done x left) = h x left
      by_result (Fails err left) = (refl, s)
      by_result Spent = (refl, inr (risks a f s))
      by_result Meaningless = (refl, inr (risks a f s))

  pub given_agree : {B : Type 0} (a : Actor) (f : Frame) (o : Option B) (go : B → StepOf Actor) (to : B → StepOf Frame) → ActorMatches ns Free a f
      → ((x : B) → Agree (go x) (to x)) → Agree (given a o go) (given f o to)
  given_agree a f None go to s h = (refl, s)
  given_agree a f (Some x) go to s h = h x

  -- an actor and a frame at the same point
  module _ (c : ClassTree) (m : Memory) (s : Scope) (ts : List Target) (r : List Item) where
    pub beside_free : (p q : Pos) (n : ℕ) → Held c m s → RestAt ns c s r ts q → JumpsTo ns c p q → Beside ns Free (actor (vars_of c m s) r) (frame_at c m p n)
    beside_free p q n held at g = record { s = s; ts = ts; to = q; vars = refl; held = held; at = at; way = g }

    pub free : (p q : Pos) (n : ℕ) → Held c m s → RestAt ns c s r ts q → JumpsTo ns c p q → ActorMatches ns Free (actor (vars_of c m s) r) (frame_at c m p n)
    free p q n held at g = inr (beside_free p q n held at g)

    pub risky : (p q : Pos) (n : ℕ) → Held c m s → RestAt ns c s r ts q → JumpsTo ns c p q → ThrowsAt ns c s r p → ActorMatches ns Risky (actor (vars_of c m s) r) (frame_at c m p n)
    risky p q n held at g t = record { s = s; ts = ts; to = q; vars = refl; held = held; at = at; way = (g, t) }
