-- What is handed to an actor that asked: the result of an effect, the value of a branch, and that its locals are lost.
use Rattle.std.proofs.Common.{◌≡◌, ℕ, zero, suc, true, false, Bool, List, [], ◌∷◌, inr, refl, sym, ap, subst, ◌∙◌}
use Rattle.std.specs.declared.option.Option.{Option}
use Rattle.std.specs.declared.option.Option.TheVariants.{None, Some}
use Rattle.flow_tree.specs.declared.ty.Ident.{Ident}
use Rattle.flow_tree.specs.Tree.{TypeTree, PromiseType, PromiseStreamType, ExprTree, ExprTrees}
use Rattle.flow_tree.specs.Body.{ChooseStmt, DeclareStmt, AssignStmt, WaitStmt}
use Rattle.flow_value.specs.Values.{ValueTree}
use Rattle.flow_class.specs.declared.class.Slotted.{Slotted}
use Rattle.flow_class.specs.Classes.{ClassTree, InstrTree, SetInstr, EffectInstr, NewInstr}
use Rattle.flow_class.specs.Code.{Fetched, Last}
use Rattle.flow_class.specs.Code as code
use Rattle.flow_class.specs.Scopes.{Scope, all_locals, over, path_over}
use Rattle.flow_meaning.specs.Cells.{is_some}
use Rattle.flow_meaning.specs.Orderly.{Free, Due}
use Rattle.flow_meaning.specs.Process.{View, Engine}
use Rattle.flow_meaning.specs.Evaluating.{Names, Effectful, effect_in}
use Rattle.flow_meaning.specs.Law.{Alike}
use Rattle.flow_meaning.specs.Variables.{Vars}
use Rattle.flow_meaning.specs.Variables as variables
use Rattle.flow_meaning.specs.Items.{Site, Item, Do, Actor, actor, declare}
use Rattle.flow_meaning.specs.Items as item
use Rattle.flow_meaning.specs.Source.{makes_cell, is_effect_in, store_if}
use Rattle.flow_meaning.specs.Source as source
use Rattle.flow_meaning.specs.Frame.{Memory, Frame, put_at}
use Rattle.flow_meaning.specs.Frame as frame
use Rattle.flow_meaning.specs.Class as class
use Rattle.flow_meaning.specs.Carry as carry
use Rattle.flow_meaning.specs.Carry.{Pos, after, Target, here, AssignBy, DeclareAt, FirstAt, default_expr}
use Rattle.flow_compile_laws.specs.Simulation.Memories.{vars_of, Held, frame_at}
use Rattle.flow_compile_laws.specs.Simulation.Matching.{RestAt, AsksFirst, pos_of, Beside, ActorMatches}
use Rattle.flow_compile_laws.proofs.Simulation.Seen.{seen_lost, held_lost, locals_values}
use Rattle.flow_compile_laws.proofs.Simulation.Puts.{Puts, assign_puts, declare_puts}
use Rattle.flow_compile_laws.proofs.Simulation.Row.{dues, risks, free}
use Rattle.flow_compile_laws.proofs.Simulation.Parts.{declares_at, assigns_at}
use Rattle.flow_compile_laws.proofs.Simulation.Stores.{named_puts}
use Rattle.flow_compile_laws.proofs.Simulation.Waits.{wait_stands, choose_stands, wait_taken, choose_taken}

-- all locals leave the variables
pub lose_row : (ns : Names) (a : Actor) (f : Frame) → Beside ns Due a f → Alike (ActorMatches ns Due) (item.lose a) (frame.lose f)
lose_row ns a f b = (
  ap (λ vs. variables.filled (all_locals vs.locals)) b.vars ∙ locals_values f.code f.mem b.s b.held,
  record {
    s = b.s;
    ts = b.ts;
    to = b.to;
    vars = ap (λ vs. item.with_locals vs (variables.emptied vs.locals)) b.vars ∙ ap (λ l. record { states = (vars_of f.code f.mem b.s).states; locals = l }) (seen_lost f.mem b.s);
    held = held_lost f.code f.mem b.s b.held;
    at = b.at;
    way = b.way;
  },
)

-- an assignment and a declaration are instructions
assign_instr : (ns : Names) (c : ClassTree) (o : Option (Effectful × ExprTrees)) (path : List Ident) (e : ExprTree) (p : Pos) → AssignBy ns c o path e p
    → (i : InstrTree) × (carry.at ns c p ≡ code.Body i)
assign_instr ns c None path e p h = (SetInstr path e, h)
assign_instr ns c (Some g) path e p h = (EffectInstr path e, h)

first_instr : (ns : Names) (c : ClassTree) (to : Slotted) (t : TypeTree) (o : Option ExprTree) (p : Pos) → FirstAt ns c to t o p → (i : InstrTree) × (carry.at ns c p ≡ code.Body i)
first_instr ns c to t None p h = (NewInstr to, h.0)
first_instr ns c to t (Some e) p h = (SetInstr (h.0 ∷ []) e, h.1)

declare_instr : (ns : Names) (c : ClassTree) (s : Scope) (to : Slotted) (t : TypeTree) (o : Option ExprTree) (p : Pos) → DeclareAt ns c s to t o p → (i : InstrTree) × (carry.at ns c p ≡ code.Body i)
declare_instr ns c s to t None p h = first_instr ns c to t (default_expr ns c t) p h
declare_instr ns c s to t (Some e) p h = assign_instr ns c (effect_in ns e) (h.0 ∷ []) (over c.slots s e) p h.1

module _ (d : Engine Frame) (ns : Names) (steps : (v : View) (f : Frame) → d.next v f ≡ class.next_step ns v f) (c : ClassTree) (m : Memory) (p : Pos) (n : ℕ) (s : Scope) (ts : List Target)
    (held : Held c m s) (u : ValueTree) where
  abbrev f : Frame
  f = frame_at c m p n

  abbrev Same : List ValueTree × Actor → List ValueTree × Frame → Type 0
  Same = Alike (ActorMatches ns Free)

  stored_alike : (a : Actor) (later : Scope) (r : List Item) (o : Option (List ValueTree × Vars)) (q : Option (List ValueTree × Memory)) → Puts c later o q → RestAt ns c later r ts (after p)
      → ActorMatches ns Free a f
      → Same (source.stored a r o) (class.stored f q)
  stored_alike a later r None None h at stands = (refl, stands)
  stored_alike a later r None (Some b) h at stands = absurd h
  stored_alike a later r (Some b) None h at stands = absurd h
  stored_alike a later r (Some b) (Some q) h at stands =
      (h.0, subst (λ vs. ActorMatches ns Free (actor vs r) (frame_at c q.1 (after p) n)) (sym h.1) (free d ns steps c q.1 later ts r (after p) (after p) n h.2 at here))

  -- the effect of a statement gives its result
  effect_alike : (a : Actor) (later : Scope) (r : List Item) (o : Option (List ValueTree × Vars)) (e : ExprTree) (g : Option (Effectful × ExprTrees)) (path : List Ident) (to : ExprTree)
      → effect_in ns e ≡ g → is_effect_in ns e ≡ true
      → AssignBy ns c g path to p → Puts c later o (frame.assign ns.records m path u) → RestAt ns c later r ts (after p) → ActorMatches ns Free a f
      → Same (store_if (is_effect_in ns e) a r o) (class.store_at ns u f (carry.at ns c p))
  effect_alike a later r o e None path to eg first h puts at stands = absurd (not_both (ap is_some eg) first)
    where
      not_both : {b : Bool} → b ≡ false → b ≡ true → ⊥
      not_both x y = cc
  effect_alike a later r o e (Some g) path to eg first h puts at stands =
      subst (λ b. Same (store_if b a r o) (class.store_at ns u f (carry.at ns c p))) (sym first)
      (subst (λ q. Same (source.stored a r o) (class.store_at ns u f q)) (sym h) (stored_alike a later r o (frame.assign ns.records m path u) puts at stands))

  -- a new cell
  new_alike : (a : Actor) (later : Scope) (r : List Item) (o : Option (List ValueTree × Vars)) (t : TypeTree) (to : Slotted) → makes_cell t ≡ true → FirstAt ns c to t (default_expr ns c t) p
      → Puts c later o (put_at ns.records m to [] u)
      → RestAt ns c later r ts (after p) → ActorMatches ns Free a f → Same (store_if (makes_cell t) a r o) (class.store_at ns u f (carry.at ns c p))
  new_alike a later r o (PromiseType t) to first h puts at stands =
      subst (λ q. Same (source.stored a r o) (class.store_at ns u f q)) (sym h.0) (stored_alike a later r o (put_at ns.records m to [] u) puts at stands)
  new_alike a later r o (PromiseStreamType t) to first h puts at stands =
      subst (λ q. Same (source.stored a r o) (class.store_at ns u f q)) (sym h.0) (stored_alike a later r o (put_at ns.records m to [] u) puts at stands)
  new_alike a later r o t to first h puts at stands = cc

  pub store_there : (rest : List Item) → RestAt ns c s rest ts p → AsksFirst ns rest → ActorMatches ns Free (actor (vars_of c m s) rest) f
      → Same (source.store_at ns u (actor (vars_of c m s) rest) rest) (class.store_at ns u f (carry.at ns c p))
  store_there (Do x (DeclareStmt at i (Some e) k) ∷ r) h first stands =
      let w = declares_at ns c s r ts x at i (Some e) k p h in
      effect_alike (actor (vars_of c m s) (Do x (DeclareStmt at i (Some e) k) ∷ r)) w.later (Do x k ∷ r) (Some (declare i u (vars_of c m s))) e (effect_in ns e) (w.puts.0 ∷ [])
      (over c.slots s e) refl first w.puts.1
      (named_puts ns c m w.later w.puts.0 w.to u (declare i u (vars_of c m s)) w.puts.2 (declare_puts ns c m s held i w.to w.later u w.declared)) w.next stands
  store_there (Do x (DeclareStmt at i None k) ∷ r) h first stands =
      let w = declares_at ns c s r ts x at i None k p h in
      new_alike (actor (vars_of c m s) (Do x (DeclareStmt at i None k) ∷ r)) w.later (Do x k ∷ r) (Some (declare i u (vars_of c m s))) i.ty w.to first w.puts
      (declare_puts ns c m s held i w.to w.later u w.declared) w.next stands
  store_there (Do x (AssignStmt at xs e k) ∷ r) h first stands =
      let w = assigns_at ns c s r ts x at xs e k p h in
      effect_alike (actor (vars_of c m s) (Do x (AssignStmt at xs e k) ∷ r)) s (Do x k ∷ r) (item.assign ns.records xs u (vars_of c m s)) e (effect_in ns e) (path_over c.slots s xs)
      (over c.slots s e) refl first w.stands
      (assign_puts ns c m s held xs u) w.next stands
  store_there (Do x (WaitStmt at w k) ∷ r) h first stands =
      subst (λ q. Same ([], actor (vars_of c m s) (Do x (WaitStmt at w k) ∷ r)) (class.store_at ns u f q)) (sym (wait_stands ns c s r ts x at w k p h)) (refl, stands)
  store_there (Do x (ChooseStmt at bs k) ∷ r) h first stands =
      subst (λ q. Same ([], actor (vars_of c m s) (Do x (ChooseStmt at bs k) ∷ r)) (class.store_at ns u f q)) (sym (choose_stands ns c s r ts x at bs k p h)) (refl, stands)
  store_there rest h first stands = absurd first

  -- an instruction takes no branch
  none_taken : (a : Actor) → ((i : InstrTree) × (carry.at ns c p ≡ code.Body i)) → (b : ℕ) → ActorMatches ns Free a f → Same ([], a) (class.take_at ns b u f (carry.at ns c p))
  none_taken a h b stands = subst (λ q. Same ([], a) (class.take_at ns b u f q)) (sym h.1) (refl, stands)

  pub take_there : (b : ℕ) (rest : List Item) → RestAt ns c s rest ts p → AsksFirst ns rest → ActorMatches ns Free (actor (vars_of c m s) rest) f
      → Same (source.take_at b u (actor (vars_of c m s) rest) rest) (class.take_at ns b u f (carry.at ns c p))
  take_there b (Do x (WaitStmt at w k) ∷ r) h first stands = wait_taken d ns steps c m p n s ts held r x at w k b u h stands
  take_there b (Do x (ChooseStmt at bs k) ∷ r) h first stands = choose_taken d ns steps c m p n s ts held r x at bs k b u h stands
  take_there zero (Do x (DeclareStmt at i e k) ∷ r) h first stands =
      let w = declares_at ns c s r ts x at i e k p h in none_taken (actor (vars_of c m s) (Do x (DeclareStmt at i e k) ∷ r)) (declare_instr ns c s w.to i.ty e p w.puts) zero stands
  take_there (suc b) (Do x (DeclareStmt at i e k) ∷ r) h first stands =
      let w = declares_at ns c s r ts x at i e k p h in none_taken (actor (vars_of c m s) (Do x (DeclareStmt at i e k) ∷ r)) (declare_instr ns c s w.to i.ty e p w.puts) (suc b) stands
  take_there zero (Do x (AssignStmt at xs e k) ∷ r) h first stands =
      let w = assigns_at ns c s r ts x at xs e k p h in
      none_taken (actor (vars_of c m s) (Do x (AssignStmt at xs e k) ∷ r)) (assign_instr ns c (effect_in ns e) (path_over c.slots s xs) (over c.slots s e) p w.stands) zero stands
  take_there (suc b) (Do x (AssignStmt at xs e k) ∷ r) h first stands =
      let w = assigns_at ns c s r ts x at xs e k p h in
      none_taken (actor (vars_of c m s) (Do x (AssignStmt at xs e k) ∷ r)) (assign_instr ns c (effect_in ns e) (path_over c.slots s xs) (over c.slots s e) p w.stands) (suc b) stands
  take_there b rest h first stands = absurd first

-- of an actor and a frame
module _ (d : Engine Frame) (ns : Names) (steps : (v : View) (f : Frame) → d.next v f ≡ class.next_step ns v f) (a : Actor) (f : Frame) (b : Beside ns Due a f) where
  at_frame : RestAt ns f.code b.s a.rest b.ts (pos_of f)
  at_frame = subst (RestAt ns f.code b.s a.rest b.ts) (sym b.way.0) b.at

  as_seen : ActorMatches ns Free (actor (vars_of f.code f.mem b.s) a.rest) f
  as_seen = subst (λ vs. ActorMatches ns Free (actor vs a.rest) f) b.vars (inr (risks d ns steps a f (dues d ns steps a f b)))

  pub store_row : (u : ValueTree) → Alike (ActorMatches ns Free) (source.store_at ns u a a.rest) (class.store_at ns u f (carry.at ns f.code (pos_of f)))
  store_row u =
      subst (λ vs. Alike (ActorMatches ns Free) (source.store_at ns u (actor vs a.rest) a.rest) (class.store_at ns u f (carry.at ns f.code (pos_of f)))) (sym b.vars)
      (store_there d ns steps f.code f.mem (pos_of f) f.state b.s b.ts b.held u a.rest at_frame b.way.2 as_seen)

  pub take_row : (i : ℕ) (u : ValueTree) → Alike (ActorMatches ns Free) (source.take_at i u a a.rest) (class.take_at ns i u f (carry.at ns f.code (pos_of f)))
  take_row i u =
      subst (λ vs. Alike (ActorMatches ns Free) (source.take_at i u (actor vs a.rest) a.rest) (class.take_at ns i u f (carry.at ns f.code (pos_of f)))) (sym b.vars)
      (take_there d ns steps f.code f.mem (pos_of f) f.state b.s b.ts b.held u i a.rest at_frame b.way.2 as_seen)
