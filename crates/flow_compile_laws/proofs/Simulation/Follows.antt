-- Each step of an actor is answered by the frame beside it, and so classes that carry a program do what it does.
use Rattle.std.proofs.Common.{◌≡◌, ℕ, ◌<◌, List, [], ◌∷◌, inl, inr, refl, sym, ap, subst, ◌∙◌}
use Rattle.std.specs.Prelude.{slice_get, unwrap_or}
use Rattle.std.specs.declared.option.Option.{Option}
use Rattle.std.specs.declared.option.Option.TheVariants.{None, Some}
use Rattle.flow_tree.specs.Body.{Body, End, BlockStmt, IfStmt, IfElseStmt, WhileStmt, ForStmt, LoopStmt, BreakStmt, ContinueStmt, ReturnStmt, ThrowStmt, TryStmt, ChooseStmt, DeclareStmt, AssignStmt, ModifyStmt, CallStmt, WaitStmt}
use Rattle.flow_tree.specs.Decls.{ProgramTree}
use Rattle.flow_class.specs.Classes.{ClassTree, RawTree}
use Rattle.flow_class.specs.Code.{fetch}
use Rattle.flow_class.specs.Scopes.{Scope, all_locals}
use Rattle.flow_meaning.specs.References.{refs_in, count}
use Rattle.flow_meaning.specs.Cells.{Side}
use Rattle.flow_meaning.specs.Orderly.{Free}
use Rattle.flow_meaning.specs.Requests.{Ask}
use Rattle.flow_meaning.specs.Process.{View, Engine}
use Rattle.flow_meaning.specs.Evaluating.{Names, StepOf}
use Rattle.flow_meaning.specs.Law.{still, MatchesAsk, Alike, Simulates}
use Rattle.flow_meaning.specs.Variables.{filled, backwards, occ_vars}
use Rattle.flow_meaning.specs.Items.{Site, Item, Do, Leave, Round, Check, Made, Handler, Over, Actor, actor, lose, raise}
use Rattle.flow_meaning.specs.Items as item
use Rattle.flow_meaning.specs.SourceStep as text
use Rattle.flow_meaning.specs.Source.{source, names_of, actors_in, main_of}
use Rattle.flow_meaning.specs.Frame.{Memory, Frame, occ_memory}
use Rattle.flow_meaning.specs.Frame as frame
use Rattle.flow_meaning.specs.Class.{classes, class_names}
use Rattle.flow_meaning.specs.Class as class
use Rattle.flow_meaning.specs.Carry.{Pos, Target}
use Rattle.flow_meaning.specs.Views.{actor_spot, frame_spot}
use Rattle.flow_meaning.specs.Observations.{WaitAlike}
use Rattle.flow_compile_laws.specs.Simulation.Memories.{vars_of, Held, frame_at}
use Rattle.flow_compile_laws.specs.Simulation.Matching.{StmtsAt, RestAt, ActorMatches}
use Rattle.flow_compile_laws.specs.Simulation.Weights.{actor_weight}
use Rattle.flow_compile_laws.specs.Simulation.Carried.{AreCarried}
use Rattle.flow_compile_laws.proofs.Simulation.Seen.{every_value}
use Rattle.flow_compile_laws.proofs.Simulation.Falls.{falls}
use Rattle.flow_compile_laws.proofs.Simulation.Row.{Replies, Replied, later, jumps}
use Rattle.flow_compile_laws.proofs.Simulation.Row as row
use Rattle.flow_compile_laws.proofs.Simulation.Stores.{declare_row, assign_row, modify_row}
use Rattle.flow_compile_laws.proofs.Simulation.Controls.{end_row, block_row, if_row, if_else_row, while_row, loop_row, for_row, try_row, round_row, check_row, made_row, handler_row}
use Rattle.flow_compile_laws.proofs.Simulation.Leavings.{leave_row, break_row, continue_row}
use Rattle.flow_compile_laws.proofs.Simulation.Ends.{text_row, return_row, throw_row, call_row}
use Rattle.flow_compile_laws.proofs.Simulation.Waits.{wait_row, choose_row}
use Rattle.flow_compile_laws.proofs.Simulation.Raises.{raise_row}
use Rattle.flow_compile_laws.proofs.Simulation.Given.{lose_row, store_row, take_row}
use Rattle.flow_compile_laws.proofs.Simulation.Fresh.{fresh_row, names_same, counted}

module _ (d : Engine Frame) (ns : Names) (steps : (v : View) (f : Frame) → d.next v f ≡ class.next_step ns v f) (v : View) where
  module _ (c : ClassTree) (m : Memory) (p : Pos) (n : ℕ) (s : Scope) (ts : List Target) (held : Held c m s) where
    body_row : (r : List Item) (x : Site) (b : Body) → StmtsAt ns c s r ts x b p → Replied d ns steps v (text.do_body ns v (actor (vars_of c m s) (Do x b ∷ r)) x b r) (frame_at c m p n)
    body_row [] x End h = text_row d ns steps v c m p n s ts held x h
    body_row (i ∷ r) x End h = end_row d ns steps v c m p n s ts held r x i h
    body_row r x (BlockStmt at b k) h = block_row d ns steps v c m p n s ts held r x at b k h
    body_row r x (IfStmt at e b k) h = if_row d ns steps v c m p n s ts held r x at e b k h
    body_row r x (IfElseStmt at e b g k) h = if_else_row d ns steps v c m p n s ts held r x at e b g k h
    body_row r x (WhileStmt at e b k) h = while_row d ns steps v c m p n s ts held r x at e b k h
    body_row r x (LoopStmt at b k) h = loop_row d ns steps v c m p n s ts held r x at b k h
    body_row r x (ForStmt at i e t b k) h = for_row d ns steps v c m p n s ts held r x at i e t b k h
    body_row r x (BreakStmt at k) h = break_row d ns steps v c m p n s held at x k r ts h
    body_row r x (ContinueStmt at k) h = continue_row d ns steps v c m p n s held at x k r ts h
    body_row r x (ReturnStmt at e k) h = return_row d ns steps v c m p n s ts held r x at e k h
    body_row r x (ThrowStmt at e k) h = throw_row d ns steps v c m p n s ts held r x at e k h
    body_row r x (TryStmt at b q y g k) h = try_row d ns steps v c m p n s ts held r x at b q y g k h
    body_row r x (ChooseStmt at bs k) h = choose_row d ns steps c m p n s ts held r x v at bs k h
    body_row r x (DeclareStmt at i e k) h = declare_row d ns steps v c m p n s ts held r x k at i e h
    body_row r x (AssignStmt at xs e k) h = assign_row d ns steps v c m p n s ts held r x k at xs e h
    body_row r x (ModifyStmt at xs g k) h = modify_row d ns steps v c m p n s ts held r x k at xs g h
    body_row r x (CallStmt at xs es k) h = call_row d ns steps v c m p n s ts held r x at xs es k h
    body_row r x (WaitStmt at w k) h = wait_row d ns steps c m p n s ts held r x v at w k h

    item_row : (r : List Item) → RestAt ns c s r ts p → Replied d ns steps v (text.do_item ns v (actor (vars_of c m s) r) r) (frame_at c m p n)
    item_row [] h = absurd h
    item_row (Do x b ∷ r) h = body_row r x b h
    item_row (Leave ∷ r) h = leave_row d ns steps v c m p n s held ts r h
    item_row (Round l ∷ r) h = round_row d ns steps v c m p n s ts held l r h
    item_row (Check l ∷ r) h = check_row d ns steps v c m p n s ts held l r h
    item_row (Made l ∷ r) h = made_row d ns steps v c m p n s ts held l r h
    item_row (Handler y x k ∷ r) h = handler_row d ns steps v c m p n s ts held y x k r h
    item_row (Over ∷ r) h = absurd h

  -- both are over, and neither has a next step
  ended : Replied d ns steps v (text.next_step ns v item.over) frame.over
  ended = (frame.over, frame.over, still, steps v frame.over, inl (refl, refl))

  next_row : (a : Actor) (f : Frame) → ActorMatches ns Free a f → Replied d ns steps v (text.next_step ns v a) f
  next_row a f (inl h) =
      subst (λ z. Replied d ns steps v (text.next_step ns v z) f) (sym h.0) (subst (λ z. Replied d ns steps v (text.next_step ns v item.over) z) (sym h.1) ended)
  next_row a f (inr b) =
      subst (λ vs. Replied d ns steps v (text.do_item ns v (actor vs a.rest) a.rest) f) (sym b.vars)
      (let x = text.do_item ns v (actor (vars_of f.code f.mem b.s) a.rest) a.rest in
      let j = jumps d ns steps v f.code f.mem f.state b.way in
      later d ns steps v x.0 x.1 f (frame_at f.code f.mem b.to j.0) j.1 (item_row f.code f.mem b.to j.0 b.s b.ts b.held a.rest b.at))

  -- a quiet step makes the actor lighter
  pub answers : (a : Actor) (x : StepOf Actor) (f : Frame) → (x.0 ≡ None → actor_weight x.1 < actor_weight a) → Replied d ns steps v x f
      → MatchesAsk (ActorMatches ns) d v (actor_weight x.1 < actor_weight a) x.0 x.1 f
  answers a x f w h = by_ask x.0 w h
    where
      by_ask : (o : Option Ask) → (o ≡ None → actor_weight x.1 < actor_weight a) → Replies d ns steps v o x.1 f → MatchesAsk (ActorMatches ns) d v (actor_weight x.1 < actor_weight a) o x.1 f
      by_ask None w h = (h.0, inr (h.1, w refl), h.2)
      by_ask (Some k) w h = h

  pub follows : (a : Actor) (f : Frame) → ActorMatches ns Free a f
      → MatchesAsk (ActorMatches ns) d v (actor_weight (text.next_step ns v a).1 < actor_weight a) (text.next_step ns v a).0 (text.next_step ns v a).1 f
  follows a f h = answers a (text.next_step ns v a) f (falls ns v a) (next_row a f h)

-- both refer to the same cells
occ_row : (ns : Names) (side : Side) (k : ℕ) (a : Actor) (f : Frame) → ActorMatches ns Free a f → occ_vars side k a.vars ≡ occ_memory side k f.mem
occ_row ns side k a f (inl h) = ap (λ z. occ_vars side k z.vars) h.0 ∙ ap (λ z. occ_memory side k z.mem) (sym h.1)
occ_row ns side k a f (inr b) =
    ap (occ_vars side k) b.vars
    ∙ counted side k (filled (all_locals (vars_of f.code f.mem b.s).locals)) (filled (backwards (vars_of f.code f.mem b.s).states))
    ∙ ap (λ vs. count side k (refs_in vs)) (every_value f.code f.mem b.s b.held)

module _ (p : ProgramTree) (r : RawTree) (h : AreCarried p r) where
  same_names : class_names r ≡ names_of p
  same_names = names_same p r h.shape

  steps : (v : View) (f : Frame) → (classes r).next v f ≡ class.next_step (names_of p) v f
  steps v f = ap (λ z. class.next_step z v f) same_names

  -- The classes do what the program does.
  pub carried : Simulates (source p) (classes r) (ActorMatches (names_of p))
  carried = record {
    main = ap (λ z. main_of z.actors) (sym same_names);
    label = λ k. ap (λ z. unwrap_or (slice_get z.actors k) []) (sym same_names);
    fresh = fresh_row (names_of p) (actors_in p.decls) r.classes h.shape.classes h.carries h.numbered;
    waits = row.waits (classes r) (names_of p) steps;
    dues = row.dues (classes r) (names_of p) steps;
    risks = λ a f b. inr (row.risks (classes r) (names_of p) steps a f b);
    weight = actor_weight;
    next = λ v a f s. follows (classes r) (names_of p) steps v a f s;
    lose = lose_row (names_of p);
    store = λ u a f b.
        subst (λ z. Alike (ActorMatches (names_of p) Free) ((source p).store u a) (class.store_at z u f (fetch f.code f.block f.instr))) (sym same_names)
        (store_row (classes r) (names_of p) steps a f b u);
    take = λ i u a f b.
        subst (λ z. Alike (ActorMatches (names_of p) Free) ((source p).take i u a) (class.take_at z i u f (fetch f.code f.block f.instr))) (sym same_names)
        (take_row (classes r) (names_of p) steps a f b i u);
    raise = raise_row (names_of p);
    occ = occ_row (names_of p);
  }

  -- where both wait, they do so at the same place
  pub waits_alike : WaitAlike (ActorMatches (names_of p)) actor_spot frame_spot
  waits_alike a f b = b.way.3
