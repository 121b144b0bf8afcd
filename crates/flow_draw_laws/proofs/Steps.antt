-- A step depends on the word that is handed to it by the number that it draws alone.
use Rattle.std.proofs.Common.{◌≡◌, ◌≢◌, ◌⊎◌, inl, inr, ℕ, ◌%◌, ◌^◌, ℤ, pos, ◌+ℤ◌, ◌-ℤ◌, Bool, true, false, List, ◌∷◌, [], if◌then◌else◌, subst}
use Rattle.std.specs.declared.option.Option.{Option}
use Rattle.std.specs.declared.option.Option.TheVariants.{None, Some}
use Rattle.flow_base.specs.ErrorNumbers.{bad_argument}
use Rattle.flow_value.specs.Values.{IntValue}
use Rattle.flow_eval.specs.Predefined.{natural}
use Rattle.flow_numbered.specs.Numbered.{Numbered, thing, put}
use Rattle.flow_meaning.specs.Requests as request
use Rattle.flow_meaning.specs.Requests.{Act, Effect, Goal, Ask, Request, Drew, Supply}
use Rattle.flow_meaning.specs.Process.{Task, Halt, Core, Proc, Engine}
use Rattle.flow_meaning.specs.Process as task
use Rattle.flow_meaning.specs.Effects.{Reaction, between, gives, throws, draw, effect}
use Rattle.flow_meaning.specs.React.{react}
use Rattle.flow_meaning.specs.Step.{proc, reacted, answer, answer_effect, run, run_next, view, do_task, popped, step_tasks, step_if, step}
use Rattle.flow_draw_laws.proofs.Parted.{same_or_not}

-- What is made of a word, and of another: the same, or both draw one of so many numbers, and the words give different ones.
pub data ByWord (v w : ℕ) {C : Type 0} : C × Option Request → C × Option Request → Type 0 where
  same : (r : C × Option Request) → ByWord v w r r
  drawn : (n : ℕ) (c d : C) → v % n ≢ w % n → ByWord v w (c, Some (Drew n)) (d, Some (Drew n))

-- both there, and related, or neither
abbrev pub Both : {X Y : Type 0} → (X → Y → Type 0) → Option X → Option Y → Type 0
Both R None None = Unit {0}
Both R None (Some y) = ⊥
Both R (Some x) None = ⊥
Both R (Some x) (Some y) = R x y

abbrev pub with_word : Supply → ℕ → Supply
with_word s w = record s { word = w }

abbrev drew : (actor : ℕ) → Goal → ℤ → (width rest : ℕ) → Core → Reaction
drew i goal lo n r c = (gives i goal (IntValue (lo +ℤ pos r)) c, Some (Drew n))

drew_by : (v w i : ℕ) (goal : Goal) (lo : ℤ) (n : ℕ) (c : Core) → (v % n ≡ w % n) ⊎ (v % n ≢ w % n)
    → ByWord v w (drew i goal lo n (v % n) c) (drew i goal lo n (w % n) c)
drew_by v w i goal lo n c (inl e) = subst (λ r. ByWord v w (drew i goal lo n (v % n) c) (drew i goal lo n r c)) e (same _)
drew_by v w i goal lo n c (inr d) = drawn n _ _ d

draw_if : (v w i : ℕ) (goal : Goal) (lo : ℤ) (n : ℕ) (c : Core) (b : Bool)
    → ByWord v w (if b then drew i goal lo n (v % n) c else throws i bad_argument c) (if b then drew i goal lo n (w % n) c else throws i bad_argument c)
draw_if v w i goal lo n c true = drew_by v w i goal lo n c (same_or_not (v % n) (w % n))
draw_if v w i goal lo n c false = same _

draw_by : (s : Supply) (w i : ℕ) (goal : Goal) (lo hi : ℤ) (c : Core) → ByWord s.word w (draw s i goal lo hi c) (draw (with_word s w) i goal lo hi c)
draw_by s w i goal lo hi c = draw_if s.word w i goal lo (natural (hi -ℤ lo)) c (between (hi -ℤ lo) 1 (2 ^ 32))

effect_by : (s : Supply) (w i : ℕ) (goal : Goal) (eff : Effect) (c : Core) → ByWord s.word w (effect s i goal eff c) (effect (with_word s w) i goal eff c)
effect_by s w i goal (request.Draw lo hi) c = draw_by s w i goal lo hi c
effect_by s w i goal (request.Make k) c = same _
effect_by s w i goal (request.Start class args) c = same _
effect_by s w i goal (request.Delay ticks) c = same _
effect_by s w i goal request.Never c = same _
effect_by s w i goal (request.Listen port) c = same _
effect_by s w i goal (request.Disk call) c = same _

react_by : (s : Supply) (w i : ℕ) (act : Act) (c : Core) → ByWord s.word w (react s i act c) (react (with_word s w) i act c)
react_by s w i (request.Effects goal eff) c = effect_by s w i goal eff c
react_by s w i request.Goes c = same _
react_by s w i request.Pass c = same _
react_by s w i (request.Drops vs) c = same _
react_by s w i (request.Starts class args) c = same _
react_by s w i (request.Operand spot r) c = same _
react_by s w i (request.Waits spot vs) c = same _
react_by s w i (request.Sends k o) c = same _
react_by s w i (request.Cancels k) c = same _
react_by s w i (request.Prints v) c = same _
react_by s w i (request.SendsTo q port text) c = same _
react_by s w i (request.Returns v vs) c = same _
react_by s w i (request.Throws e) c = same _
react_by s w i request.RunsOut c = same _
react_by s w i request.Stuck c = same _

module _ {A : Type 0} (e : Engine A) (s : Supply) (w : ℕ) where
  abbrev t : Supply
  t = with_word s w

  reacted_by : (xs : Numbered A) {r q : Reaction} → ByWord s.word w r q → ByWord s.word w (reacted xs r) (reacted xs q)
  reacted_by xs (same r) = same _
  reacted_by xs (drawn n c d h) = drawn n _ _ h

  effect_answered : (i : ℕ) (goal : Goal) (eff : Effect) (p : Proc A) → ByWord s.word w (answer_effect e s i goal eff p) (answer_effect e t i goal eff p)
  effect_answered i goal (request.Start class args) p = same _
  effect_answered i goal (request.Draw lo hi) p = reacted_by p.actors (react_by s w i (request.Effects goal (request.Draw lo hi)) p.core)
  effect_answered i goal (request.Make k) p = same _
  effect_answered i goal (request.Delay ticks) p = same _
  effect_answered i goal request.Never p = same _
  effect_answered i goal (request.Listen port) p = same _
  effect_answered i goal (request.Disk call) p = same _

  answered : (i : ℕ) (act : Act) (p : Proc A) → ByWord s.word w (answer e s i act p) (answer e t i act p)
  answered i (request.Effects goal eff) p = effect_answered i goal eff p
  answered i (request.Starts class args) p = same _
  answered i request.Goes p = same _
  answered i request.Pass p = same _
  answered i (request.Drops vs) p = same _
  answered i (request.Operand spot r) p = same _
  answered i (request.Waits spot vs) p = same _
  answered i (request.Sends k o) p = same _
  answered i (request.Cancels k) p = same _
  answered i (request.Prints v) p = same _
  answered i (request.SendsTo q port text) p = same _
  answered i (request.Returns v vs) p = same _
  answered i (request.Throws err) p = same _
  answered i request.RunsOut p = same _
  answered i request.Stuck p = same _

  ran_next : (i : ℕ) (ts : List Task) (r : Option Ask × A) (p : Proc A) → ByWord s.word w (run_next e s i ts r p) (run_next e t i ts r p)
  ran_next i ts (None, a) p = same _
  ran_next i ts (Some ask, a) p = answered i ask.act (proc (record p.core { tasks = ts; left = ask.left }) (put p.actors i a))

  ran : (i : ℕ) (ts : List Task) (o : Option A) (p : Proc A) → ByWord s.word w (run e s i ts o p) (run e t i ts o p)
  ran i ts None p = same _
  ran i ts (Some a) p = ran_next i ts (e.next (view s i p.core) a) p

  done : (x : Task) (p : Proc A) → ByWord s.word w (do_task e s x p) (do_task e t x p)
  done (task.Run i) p = same _
  done (task.Give i b o) p = same _
  done (task.Throw i err) p = same _
  done (task.Catch i err) p = same _
  done (task.Store i v) p = same _
  done (task.Keep i spot r) p = same _
  done (task.Close i o) p = same _
  done (task.Fire k) p = same _
  done (task.Drop kind k) p = same _

  tasks_by : (ts : List Task) (p : Proc A) → Both (ByWord s.word w) (step_tasks e s ts p) (step_tasks e t ts p)
  tasks_by [] p = tt
  tasks_by (task.Run i ∷ ts) p = ran i ts (thing p.actors i) p
  tasks_by (task.Give i b o ∷ ts) p = done (task.Give i b o) (popped ts p)
  tasks_by (task.Throw i err ∷ ts) p = done (task.Throw i err) (popped ts p)
  tasks_by (task.Catch i err ∷ ts) p = done (task.Catch i err) (popped ts p)
  tasks_by (task.Store i v ∷ ts) p = done (task.Store i v) (popped ts p)
  tasks_by (task.Keep i spot r ∷ ts) p = done (task.Keep i spot r) (popped ts p)
  tasks_by (task.Close i o ∷ ts) p = done (task.Close i o) (popped ts p)
  tasks_by (task.Fire k ∷ ts) p = done (task.Fire k) (popped ts p)
  tasks_by (task.Drop kind k ∷ ts) p = done (task.Drop kind k) (popped ts p)

  unless_halted : (h : Option Halt) (p : Proc A) → Both (ByWord s.word w) (step_if e s h p) (step_if e t h p)
  unless_halted (Some h) p = tt
  unless_halted None p = tasks_by p.core.tasks p

  pub step_by : (p : Proc A) → Both (ByWord s.word w) (step e s p) (step e t p)
  step_by p = unless_halted p.core.halted p
