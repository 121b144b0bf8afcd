-- Ends of scopes, breaks and continues.
use Rattle.std.proofs.Common.{◌≡◌, ℕ, List, [], ◌∷◌, sym, ap, subst}
use Rattle.std.specs.declared.option.Option.{Option}
use Rattle.std.specs.declared.option.Option.TheVariants.{Some}
use Rattle.flow_base.specs.declared.place.Place.{Place}
use Rattle.flow_tree.specs.Body.{Body, BreakStmt, ContinueStmt}
use Rattle.flow_value.specs.Values.{ValueTree}
use Rattle.flow_class.specs.Classes.{ClassTree, DropInstr}
use Rattle.flow_class.specs.Code as code
use Rattle.flow_class.specs.Scopes.{Scope, scope, outside}
use Rattle.flow_meaning.specs.Requests.{Drops}
use Rattle.flow_meaning.specs.Process.{View, Engine}
use Rattle.flow_meaning.specs.Evaluating.{Names, asks, quietly}
use Rattle.flow_meaning.specs.Law.{still}
use Rattle.flow_meaning.specs.Variables.{filled}
use Rattle.flow_meaning.specs.Items.{Site, Item, Do, Leave, Round, Check, Made, Handler, Over, actor, leave_scope, left_scope}
use Rattle.flow_meaning.specs.SourceStep.{Exit, Breaks, Continues, exit}
use Rattle.flow_meaning.specs.SourceStep as text
use Rattle.flow_meaning.specs.Frame.{Memory, Frame, held_in, emptied}
use Rattle.flow_meaning.specs.Class as class
use Rattle.flow_meaning.specs.Carry.{Pos, after, Target, At, Again, Hand, here, DropThen, GoesOn}
use Rattle.flow_meaning.specs.Carries.{ExitAt}
use Rattle.flow_compile_laws.specs.Simulation.Memories.{seen, slots_seen, vars_of, Held, frame_at}
use Rattle.flow_compile_laws.specs.Simulation.Matching.{Below, LeavesAt, StmtsAt, leaves, RestAt}
use Rattle.flow_compile_laws.proofs.Simulation.Lists.{at_numbers}
use Rattle.flow_compile_laws.proofs.Simulation.Memory.{emptied_slots}
use Rattle.flow_compile_laws.proofs.Simulation.Seen.{seen_scope, held_leave, seen_leave, scope_values}
use Rattle.flow_compile_laws.proofs.Simulation.Row.{Replied, later, next_is, jumps, agreed, free}
use Rattle.flow_compile_laws.proofs.Simulation.Parts.{Resumes, resumes, breaks_at, continues_at}

module _ (d : Engine Frame) (ns : Names) (steps : (v : View) (f : Frame) → d.next v f ≡ class.next_step ns v f) (v : View) (c : ClassTree) (m : Memory) (p : Pos) (n : ℕ) (s : Scope)
    (held : Held c m s) where
  -- the scope's locals are dropped, if it has any, and then the class goes on as the items do
  drop_row : (r : List Item) (follows : Pos → Type 0) → DropThen ns c (scope s) p follows → ((q : Pos) → follows q → Resumes ns c (outside s) r q)
      → Replied d ns steps v (left_scope v.left (vars_of c m s) r) (frame_at c m p n)
  drop_row r follows h goes_on =
      subst (λ l. Replied d ns steps v (leave_scope (scope (seen m s)) v.left (actor (record { states = slots_seen c.slots m.slots; locals = l }) r)) (frame_at c m p n)) (sym (seen_leave c m s held))
      (subst (λ o. Replied d ns steps v (leave_scope (scope (seen m s)) v.left (actor (record { states = slots_seen c.slots o; locals = seen (emptied (scope s) m) (outside s) }) r))
      (frame_at c m p n)) (emptied_slots (scope s) m)
      (by_scope (scope s) (scope (seen m s)) (seen_scope m s) (scope_values c m s held) (held_leave c m s held) h))
    where
      by_scope : (ks : List ℕ) (os : List (Option ValueTree)) → os ≡ at_numbers m.locals ks → filled os ≡ held_in m ks → Held c (emptied ks m) (outside s) → DropThen ns c ks p follows
          → Replied d ns steps v (leave_scope os v.left (actor (vars_of c (emptied ks m) (outside s)) r)) (frame_at c m p n)
      by_scope [] [] e same k h =
          let w = goes_on p h in
          (frame_at c m p n, still, free d ns steps c m (outside s) w.targets r p w.to n k w.stands w.goes)
      by_scope [] (o ∷ os) e same k h = cc
      by_scope (i ∷ ks) [] e same k h = cc
      by_scope (i ∷ ks) (o ∷ os) e same k h =
          let w = goes_on (after h.0) h.3 in
          let j = jumps d ns steps v c m n h.1 in
          let x = asks v.left (Drops (filled (o ∷ os))) (actor (vars_of c (emptied (i ∷ ks) m) (outside s)) r) in
          later d ns steps v x.0 x.1 (frame_at c m p n) (frame_at c m h.0 j.0) j.1
          (agreed d ns steps v (frame_at c m h.0 j.0) x
          (asks v.left (Drops (held_in m (i ∷ ks))) (frame_at c (emptied (i ∷ ks) m) (after h.0) j.0))
          (next_is d ns steps v c m h.0 j.0 (code.Body (DropInstr (i ∷ ks))) h.2)
          (ap (λ vs. Some (record { left = v.left; act = Drops vs })) (sym same), free d ns steps c (emptied (i ∷ ks) m) (outside s) w.targets r (after h.0) w.to j.0 k w.stands w.goes))

  pub leave_row : (ts : List Target) (r : List Item) → RestAt ns c s (Leave ∷ r) ts p → Replied d ns steps v (text.do_item ns v (actor (vars_of c m s) (Leave ∷ r)) (Leave ∷ r)) (frame_at c m p n)
  leave_row ts r h = drop_row r (GoesOn ns c (outside s) r ts) h.0 (λ q g. resumes ns c (outside s) r ts q g h.1)

  -- a break or a continue: one item is left
  module _ (x : Site) (k : Body) (how : Exit) (leaving : (s : Scope) (r : List Item) (ts : List Target) (q : Pos) → ExitAt ns c how s r ts q → LeavesAt ns c s r ts k q) where
    abbrev me : Item
    me = Do x k

    stays : (r : List Item) (ts : List Target) → ExitAt ns c how s r ts p → Below ns c s r ts → Replied d ns steps v (quietly (actor (vars_of c m s) (me ∷ r))) (frame_at c m p n)
    stays r ts h u = (frame_at c m p n, still, free d ns steps c m s ts (me ∷ r) p p n held (leaves (leaving s r ts p h) u) here)

  pub exit_row : (how : Exit) (x : Site) (k : Body) → ((s : Scope) (r : List Item) (ts : List Target) (q : Pos) → ExitAt ns c how s r ts q → LeavesAt ns c s r ts k q)
      → (r : List Item) (ts : List Target)
      → ExitAt ns c how s r ts p → Below ns c s r ts → Replied d ns steps v (exit v.left how (Do x k) (actor (vars_of c m s) (Do x k ∷ r)) r) (frame_at c m p n)
  exit_row how x k leaving [] ts h u = absurd h
  exit_row how x k leaving (Leave ∷ r) ts h u =
      drop_row (Do x k ∷ r) (ExitAt ns c how (outside s) r ts) h
      (λ q g. record { targets = ts; to = q; goes = here; stands = leaves (leaving (outside s) r ts q g) u })
  exit_row how x k leaving (Do y b ∷ r) (At q ∷ ts) h u = stays x k how leaving r ts h u.1
  exit_row how x k leaving (Do y b ∷ r) ts h u = absurd u
  exit_row how x k leaving (Handler y z b ∷ r) (Hand g i ∷ ts) h u = stays x k how leaving r ts h u.2
  exit_row how x k leaving (Handler y z b ∷ r) ts h u = absurd u
  exit_row Breaks x k leaving (Made l ∷ r) (Again b ∷ ts) h u = let w = resumes ns c s r ts p h u.1 in (frame_at c m p n, still, free d ns steps c m s w.targets r p w.to n held w.stands w.goes)
  exit_row Continues x k leaving (Made l ∷ r) (Again b ∷ ts) h u =
      (frame_at c m p n, still, free d ns steps c m s (Again b ∷ ts) (Made l ∷ r) p p n held (h, u.0, u.1) here)
  exit_row how x k leaving (Made l ∷ r) ts h u = absurd u
  exit_row how x k leaving (Round l ∷ r) ts h u = absurd h
  exit_row how x k leaving (Check l ∷ r) ts h u = absurd h
  exit_row how x k leaving (Over ∷ r) ts h u = absurd h

  pub break_row : (at : Place) (x : Site) (k : Body) (r : List Item) (ts : List Target) → StmtsAt ns c s r ts x (BreakStmt at k) p
      → Replied d ns steps v (text.do_body ns v (actor (vars_of c m s) (Do x (BreakStmt at k) ∷ r)) x (BreakStmt at k) r) (frame_at c m p n)
  break_row at x k r ts h = let w = breaks_at ns c s r ts x at k p h in exit_row Breaks x (BreakStmt at k) (λ s r ts q e. e) r ts w.0 w.1

  pub continue_row : (at : Place) (x : Site) (k : Body) (r : List Item) (ts : List Target) → StmtsAt ns c s r ts x (ContinueStmt at k) p
      → Replied d ns steps v (text.do_body ns v (actor (vars_of c m s) (Do x (ContinueStmt at k) ∷ r)) x (ContinueStmt at k) r) (frame_at c m p n)
  continue_row at x k r ts h = let w = continues_at ns c s r ts x at k p h in exit_row Continues x (ContinueStmt at k) (λ s r ts q e. e) r ts w.0 w.1
