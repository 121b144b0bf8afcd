-- Waits and chooses: the operands one after another, what is handed to an actor that waits, and the branches.
use Rattle.std.proofs.Common.{◌≡◌, ℕ, zero, suc, List, [], ◌∷◌, refl, sym, ap, subst}
use Rattle.std.specs.Prelude.{slice_get}
use Rattle.std.specs.Option.{option_and_then}
use Rattle.std.specs.declared.option.Option.{Option}
use Rattle.std.specs.declared.option.Option.TheVariants.{None, Some}
use Rattle.flow_base.specs.declared.place.Place.{Place}
use Rattle.flow_tree.specs.Body.{WaitTree, Body, ChooseStmt, WaitStmt, Branches, NoBranches, MoreBranches}
use Rattle.flow_value.specs.Values.{ValueTree}
use Rattle.flow_class.specs.Classes.{ClassTree, CallbackTree, ChooseLast}
use Rattle.flow_class.specs.Code.{Last, group_at, callback_at}
use Rattle.flow_class.specs.Scopes.{Scope, Mark, over}
use Rattle.flow_meaning.specs.Orderly.{Free}
use Rattle.flow_meaning.specs.Process.{View, Engine}
use Rattle.flow_meaning.specs.Evaluating.{Names}
use Rattle.flow_meaning.specs.Law.{Alike}
use Rattle.flow_meaning.specs.Variables.{Vars}
use Rattle.flow_meaning.specs.Text.{next_spot, branch_count, past_branches}
use Rattle.flow_meaning.specs.Items.{Site, Single, OneOf, Item, Do, Leave, Actor, actor, entered, site_at, site_past, branch_operand, operand}
use Rattle.flow_meaning.specs.SourceStep as text
use Rattle.flow_meaning.specs.Source as source
use Rattle.flow_meaning.specs.Frame.{Memory, Frame, spot_of}
use Rattle.flow_meaning.specs.Class as class
use Rattle.flow_meaning.specs.Carry.{Pos, entry, Target, At, here}
use Rattle.flow_meaning.specs.Carry as carry
use Rattle.flow_meaning.specs.Carries.{GroupAt, BranchesAt, BodyAt}
use Rattle.flow_compile_laws.specs.Simulation.Memories.{vars_of, Held, frame_at}
use Rattle.flow_compile_laws.specs.Simulation.Matching.{Below, StmtsAt, body, RestAt, ActorMatches}
use Rattle.flow_compile_laws.proofs.Simulation.Seen.{held_mark}
use Rattle.flow_compile_laws.proofs.Simulation.Puts.{Puts, bound_puts}
use Rattle.flow_compile_laws.proofs.Simulation.Row.{Agree, Replied, free}
use Rattle.flow_compile_laws.proofs.Simulation.Parts.{whole, throws_behind, taken_outside, below_outside}
use Rattle.flow_compile_laws.proofs.Simulation.Points.{Point, point_actor, point_frame, answered, SameOperand, await_agree}

-- the callbacks of a group
group_callbacks : (c : ClassTree) (g n : ℕ) (cs : List CallbackTree) → group_at c.groups g ≡ Some cs → callback_at c g n ≡ slice_get cs n
group_callbacks c g n cs e = ap (option_and_then (λ ds. slice_get ds n)) e

-- where a wait or a choose stands
pub wait_stands : (ns : Names) (c : ClassTree) (s : Scope) (r : List Item) (ts : List Target) (x : Site) (at : Place) (w : WaitTree) (k : Body) (p : Pos) → StmtsAt ns c s r ts x (WaitStmt at w k) p
    → carry.at ns c p ≡ Last (ChooseLast x.spot.group)
wait_stands ns c s r ts x at w k p h = let g = whole ns c s r ts x (WaitStmt at w k) p tt h in g.0.4.0

pub choose_stands : (ns : Names) (c : ClassTree) (s : Scope) (r : List Item) (ts : List Target) (x : Site) (at : Place) (bs : Branches) (k : Body) (p : Pos)
    → StmtsAt ns c s r ts x (ChooseStmt at bs k) p → carry.at ns c p ≡ Last (ChooseLast x.spot.group)
choose_stands ns c s r ts x at bs k p h = let g = whole ns c s r ts x (ChooseStmt at bs k) p tt h in g.0.3.0

module _ (d : Engine Frame) (ns : Names) (steps : (v : View) (f : Frame) → d.next v f ≡ class.next_step ns v f) (c : ClassTree) (m : Memory) (p : Pos) (n : ℕ) (s : Scope) (ts : List Target)
    (held : Held c m s) (r : List Item) (x : Site) where
  abbrev wait_point : (b : Body) → StmtsAt ns c s r ts x b p → carry.CaughtAt ns c s r ts p → Below ns c s r ts → Point ns
  wait_point b h caught u = record { c = c; m = m; p = p; n = n; s = s; ts = ts; rest = Do x b ∷ r; held = held; at = h; throws = throws_behind ns c s r ts x b p caught u }

  -- the operand of a single wait, and of a branch
  single_operand : (t : Point ns) (w : WaitTree) (k : CallbackTree) (i : ℕ) → k.operand ≡ over t.c.slots t.s w.operand → SameOperand d ns steps t (operand (Single w) i) (slice_get (k ∷ []) i)
  single_operand t w k zero e = e
  single_operand t w k (suc i) e = tt

  branch_operands : (t : Point ns) (r : List Item) (ts : List Target) (x : Site) (bs : Branches) (cs : List CallbackTree) (i : ℕ) → BranchesAt ns t.c t.s r ts x bs cs
      → SameOperand d ns steps t (branch_operand bs i) (slice_get cs i)
  branch_operands t r ts x NoBranches [] i h = tt
  branch_operands t r ts x NoBranches (k ∷ cs) i h = absurd h
  branch_operands t r ts x (MoreBranches at w b bs) [] i h = absurd h
  branch_operands t r ts x (MoreBranches at w b bs) (k ∷ cs) zero h = h.1.1
  branch_operands t r ts x (MoreBranches at w b bs) (k ∷ cs) (suc i) h = branch_operands t r ts (site_past b x) bs cs i h.3

  pub wait_row : (v : View) (at : Place) (w : WaitTree) (k : Body) → StmtsAt ns c s r ts x (WaitStmt at w k) p
      → Replied d ns steps v (text.do_body ns v (actor (vars_of c m s) (Do x (WaitStmt at w k) ∷ r)) x (WaitStmt at w k) r) (frame_at c m p n)
  wait_row v at w k h =
      let g = whole ns c s r ts x (WaitStmt at w k) p tt h in
      let t = wait_point (WaitStmt at w k) h g.0.2 g.1 in
      let group = g.0.4 in
      answered d ns steps t v (Last (ChooseLast x.spot.group)) (text.do_body ns v (point_actor d ns steps t) x (WaitStmt at w k) r) group.0
      (subst (λ o. Agree d ns steps (text.do_body ns v (point_actor d ns steps t) x (WaitStmt at w k) r) (class.choose ns v (point_frame d ns steps t) (spot_of c x.spot.group) o))
      (sym (group_callbacks c x.spot.group v.kept (g.0.0 ∷ []) group.2))
      (subst (λ z. Agree d ns steps (text.do_body ns v (point_actor d ns steps t) x (WaitStmt at w k) r) (class.choose ns v (point_frame d ns steps t) z (slice_get (g.0.0 ∷ []) v.kept))) (sym group.1)
      (await_agree d ns steps t v x.spot (operand (Single w) v.kept) (slice_get (g.0.0 ∷ []) v.kept) (single_operand t w g.0.0 v.kept g.0.5.1) tt (sym group.1))))

  pub choose_row : (v : View) (at : Place) (bs : Branches) (k : Body) → StmtsAt ns c s r ts x (ChooseStmt at bs k) p
      → Replied d ns steps v (text.do_body ns v (actor (vars_of c m s) (Do x (ChooseStmt at bs k) ∷ r)) x (ChooseStmt at bs k) r) (frame_at c m p n)
  choose_row v at bs k h =
      let g = whole ns c s r ts x (ChooseStmt at bs k) p tt h in
      let t = wait_point (ChooseStmt at bs k) h g.0.2 g.1 in
      let group = g.0.3 in
      let y = site_at (next_spot (branch_count bs) x.spot) x in
      let z = site_at (past_branches bs (next_spot (branch_count bs) x.spot)) x in
      answered d ns steps t v (Last (ChooseLast x.spot.group)) (text.do_body ns v (point_actor d ns steps t) x (ChooseStmt at bs k) r) group.0
      (subst (λ o. Agree d ns steps (text.do_body ns v (point_actor d ns steps t) x (ChooseStmt at bs k) r) (class.choose ns v (point_frame d ns steps t) (spot_of c x.spot.group) o))
      (sym (group_callbacks c x.spot.group v.kept g.0.0 group.2))
      (subst (λ o. Agree d ns steps (text.do_body ns v (point_actor d ns steps t) x (ChooseStmt at bs k) r) (class.choose ns v (point_frame d ns steps t) o (slice_get g.0.0 v.kept))) (sym group.1)
      (await_agree d ns steps t v x.spot (operand (OneOf bs) v.kept) (slice_get g.0.0 v.kept) (branch_operands t (Do z k ∷ r) (At g.0.1 ∷ ts) y bs g.0.0 v.kept g.0.4) tt (sym group.1))))

  -- A branch is taken.
  abbrev Taken : List ValueTree × Actor → List ValueTree × Frame → Type 0
  Taken = Alike (ActorMatches ns Free)

  -- its value is put in place, and its body follows
  onward_taken : (f : Frame) (later : Scope) (rest : List Item) (targets : List Target) (b : ℕ) (o : List ValueTree × Vars) (q : Option (List ValueTree × Memory)) → f.code ≡ c
      → Puts c later (Some o) q
      → RestAt ns c later rest targets (entry b) → Taken (source.onward rest o) (class.onward f b q)
  onward_taken f later rest targets b o None e h at = absurd h
  onward_taken f later rest targets b o (Some q) e h at = (
    h.0,
    subst (λ l. ActorMatches ns Free (actor o.1 rest) (frame_at l q.1 (entry b) 0)) (sym e)
        (subst (λ vs. ActorMatches ns Free (actor vs rest) (frame_at c q.1 (entry b) 0)) (sym h.1) (free d ns steps c q.1 later targets rest (entry b) (entry b) 0 h.2 at here)),
  )

  case_taken : (bs : Branches) (cs : List CallbackTree) (i : ℕ) (y : Site) (u : ValueTree) (a : Actor) (rest : List Item) (targets : List Target) → a.vars ≡ vars_of c m s
      → BranchesAt ns c s rest targets y bs cs → Below ns c s rest targets
      → ActorMatches ns Free a (frame_at c m p n) → Taken (source.take_case bs i y u a rest) (class.take_callback ns u (frame_at c m p n) (slice_get cs i))
  case_taken NoBranches [] i y u a rest targets e h below stands = (refl, stands)
  case_taken NoBranches (k ∷ cs) i y u a rest targets e h below stands = absurd h
  case_taken (MoreBranches at w b bs) [] i y u a rest targets e h below stands = absurd h
  case_taken (MoreBranches at w b bs) (k ∷ cs) zero y u a rest targets e h below stands =
      let puts = bound_puts ns c m (Mark ∷ s) (held_mark c m s held) w.into k.into h.0 u h.1.2 in
      subst (λ vs. Taken (source.onward (Do y b ∷ Leave ∷ rest) (source.bound w.into u (entered vs))) (class.onward (frame_at c m p n) k.block (class.bound ns u m k.into))) (sym e)
      (onward_taken (frame_at c m p n) h.0 (Do y b ∷ Leave ∷ rest) targets k.block (source.bound w.into u (vars_of c m (Mark ∷ s))) (class.bound ns u m k.into) refl puts
      (body h.2 (subst (λ o. Below ns c o rest targets) (sym (taken_outside ns c (Mark ∷ s) w.into k.into h.0 h.1.2)) below)))
  case_taken (MoreBranches at w b bs) (k ∷ cs) (suc i) y u a rest targets e h below stands =
      case_taken bs cs i (site_past b y) u a rest targets e h.3 below stands

  pub wait_taken : (at : Place) (w : WaitTree) (k : Body) (i : ℕ) (u : ValueTree) → StmtsAt ns c s r ts x (WaitStmt at w k) p
      → ActorMatches ns Free (actor (vars_of c m s) (Do x (WaitStmt at w k) ∷ r)) (frame_at c m p n)
      → Taken (source.take_at i u (actor (vars_of c m s) (Do x (WaitStmt at w k) ∷ r)) (Do x (WaitStmt at w k) ∷ r)) (class.take_at ns i u (frame_at c m p n) (carry.at ns c p))
  wait_taken at w k i u h stands =
      subst (λ q. Taken (source.take_at i u a (Do x (WaitStmt at w k) ∷ r)) (class.take_at ns i u (frame_at c m p n) q)) (sym group.0)
      (subst (λ o. Taken (source.take_at i u a (Do x (WaitStmt at w k) ∷ r)) (class.take_callback ns u (frame_at c m p n) o)) (sym (group_callbacks c x.spot.group i (g.0.0 ∷ []) group.2))
      (by_branch i))
    where
      a : Actor
      a = actor (vars_of c m s) (Do x (WaitStmt at w k) ∷ r)

      g : BodyAt ns c s r ts x (WaitStmt at w k) p × Below ns c s r ts
      g = whole ns c s r ts x (WaitStmt at w k) p tt h

      group : GroupAt ns c x.spot (g.0.0 ∷ []) p
      group = g.0.4

      by_branch : (i : ℕ) → Taken (source.take_at i u a (Do x (WaitStmt at w k) ∷ r)) (class.take_callback ns u (frame_at c m p n) (slice_get (g.0.0 ∷ []) i))
      by_branch zero =
          onward_taken (frame_at c m p n) g.0.1 (Do (site_at (next_spot 1 x.spot) x) k ∷ r) ts g.0.0.block (source.bound w.into u (vars_of c m s)) (class.bound ns u m g.0.0.into) refl
          (bound_puts ns c m s held w.into g.0.0.into g.0.1 u g.0.5.2)
          (body g.0.6 (below_outside ns c s g.0.1 r ts g.0.3 (taken_outside ns c s w.into g.0.0.into g.0.1 g.0.5.2) g.1))
      by_branch (suc i) = (refl, stands)

  -- a choose takes the branch of any number
  chosen : (at : Place) (bs : Branches) (k : Body) (i : ℕ) (u : ValueTree) {q : List ValueTree × Frame}
      → Taken (source.take_case bs i (site_at (next_spot (branch_count bs) x.spot) x) u (actor (vars_of c m s) (Do x (ChooseStmt at bs k) ∷ r))
      (Do (site_at (past_branches bs (next_spot (branch_count bs) x.spot)) x) k ∷ r)) q
      → Taken (source.take_at i u (actor (vars_of c m s) (Do x (ChooseStmt at bs k) ∷ r)) (Do x (ChooseStmt at bs k) ∷ r)) q
  chosen at bs k zero u t = t
  chosen at bs k (suc i) u t = t

  pub choose_taken : (at : Place) (bs : Branches) (k : Body) (i : ℕ) (u : ValueTree) → StmtsAt ns c s r ts x (ChooseStmt at bs k) p
      → ActorMatches ns Free (actor (vars_of c m s) (Do x (ChooseStmt at bs k) ∷ r)) (frame_at c m p n)
      → Taken (source.take_at i u (actor (vars_of c m s) (Do x (ChooseStmt at bs k) ∷ r)) (Do x (ChooseStmt at bs k) ∷ r)) (class.take_at ns i u (frame_at c m p n) (carry.at ns c p))
  choose_taken at bs k i u h stands =
      let a = actor (vars_of c m s) (Do x (ChooseStmt at bs k) ∷ r) in
      let g = whole ns c s r ts x (ChooseStmt at bs k) p tt h in
      let group = g.0.3 in
      let y = site_at (next_spot (branch_count bs) x.spot) x in
      let z = site_at (past_branches bs (next_spot (branch_count bs) x.spot)) x in
      let behind = Do z k ∷ r in
      let taken = case_taken bs g.0.0 i y u a behind (At g.0.1 ∷ ts) refl g.0.4 (g.0.5, g.1) stands in
      subst (λ q. Taken (source.take_at i u a (Do x (ChooseStmt at bs k) ∷ r)) (class.take_at ns i u (frame_at c m p n) q)) (sym group.0)
      (subst (λ o. Taken (source.take_at i u a (Do x (ChooseStmt at bs k) ∷ r)) (class.take_callback ns u (frame_at c m p n) o)) (sym (group_callbacks c x.spot.group i g.0.0 group.2))
      (chosen at bs k i u taken))
