-- How a frame stands beside an actor that is run from its text: at the same point, with the same variables, and, by what
-- the actor asked for last, with what is known of that point besides.
use Rattle.std.specs.Prelude.{◌≡◌, ◌⊎◌, ℕ, true, List, [], ◌∷◌}
use Rattle.std.specs.declared.option.Option.{Option}
use Rattle.std.specs.declared.option.Option.TheVariants.{None, Some}
use Rattle.flow_tree.specs.Body.{Body, BreakStmt, ContinueStmt, ChooseStmt, DeclareStmt, AssignStmt, WaitStmt}
use Rattle.flow_value.specs.Values.{ValueTree}
use Rattle.flow_class.specs.Classes.{ClassTree}
use Rattle.flow_class.specs.Scopes.{Local, Mark, Var, outside, Scope}
use Rattle.flow_meaning.specs.Orderly.{Phase, Free, Risky, Due, Waiting}
use Rattle.flow_meaning.specs.Evaluating.{Names}
use Rattle.flow_meaning.specs.Items.{Site, Loop, Item, Do, Leave, Round, Check, Made, Handler, Actor, over, unwind}
use Rattle.flow_meaning.specs.SourceStep.{Breaks, Continues}
use Rattle.flow_meaning.specs.Source.{makes_cell, is_effect_in}
use Rattle.flow_meaning.specs.Frame as frame
use Rattle.flow_meaning.specs.Frame.{Memory, Frame}
use Rattle.flow_meaning.specs.Views.{actor_spot, frame_spot}
use Rattle.flow_meaning.specs.Carry.{Pos, entry, Target, At, Again, Hand, JumpsTo, NewLocal, CaughtAt, SimpleAt, PassAt, GoesOn}
use Rattle.flow_meaning.specs.Carries.{ExitAt, LoopAt, BodyAt}
use Rattle.flow_compile_laws.specs.Simulation.Memories.{vars_of, Held}

-- the first statement stores an effect, or makes a cell, or waits
abbrev pub AsksFirst : Names → List Item → Type 0
AsksFirst ns (Do x (DeclareStmt at i (Some e) k) ∷ r) = is_effect_in ns e ≡ true
AsksFirst ns (Do x (DeclareStmt at i None k) ∷ r) = makes_cell i.ty ≡ true
AsksFirst ns (Do x (AssignStmt at xs e k) ∷ r) = is_effect_in ns e ≡ true
AsksFirst ns (Do x (WaitStmt at w k) ∷ r) = Unit {0}
AsksFirst ns (Do x (ChooseStmt at bs k) ∷ r) = Unit {0}
AsksFirst ns _ = ⊥

module _ (ns : Names) (c : ClassTree) where
  -- a loop stands at a block: its condition, and its body, behind which a pass was made
  abbrev pub LoopStands : Scope → List Item → List Target → Loop → (block : ℕ) → Type 0
  LoopStands s r ts l b =
      LoopAt ns c s r ts l.condition b (BodyAt ns c (Mark ∷ s) (Leave ∷ Made l ∷ r) (Again b ∷ ts) l.site l.inner)

  -- the items that follow stand at their targets
  abbrev pub Below : Scope → List Item → List Target → Type 0
  Below s [] ts = Unit {0}
  Below s (Leave ∷ r) ts = Below (outside s) r ts
  Below s (Do x k ∷ r) (At q ∷ ts) = BodyAt ns c s r ts x k q × Below s r ts
  Below s (Made l ∷ r) (Again b ∷ ts) = LoopStands s r ts l b × Below s r ts
  Below s (Handler x y k ∷ r) (Hand b n ∷ ts) =
      NewLocal ns c n s × BodyAt ns c (Var x n ∷ Mark ∷ s) (Leave ∷ r) ts y k (entry b) × Below s r ts
  Below s _ ts = ⊥

  -- a part of a `for`, before the round of its loop
  abbrev pub PartAt : Scope → List Item → List Target → Body → Pos → Type 0
  PartAt s (Round l ∷ r) (Again b ∷ ts) k p =
      (q : Pos) × (later : Scope) × SimpleAt ns c s (Round l ∷ r) (Again b ∷ ts) k p q later × PassAt ns c q b
      × LoopStands later r ts l b × Below s r ts × Below later r ts
  PartAt s _ ts k p = ⊥

  -- a break or a continue on its way to the loop
  abbrev pub LeavesAt : Scope → List Item → List Target → Body → Pos → Type 0
  LeavesAt s r ts (BreakStmt at k) p = ExitAt ns c Breaks s r ts p
  LeavesAt s r ts (ContinueStmt at k) p = ExitAt ns c Continues s r ts p
  LeavesAt s r ts _ p = ⊥

  -- the statements at hand
  pub data StmtsAt (s : Scope) (r : List Item) (ts : List Target) (x : Site) (k : Body) (p : Pos) : Type 0 where
    body : BodyAt ns c s r ts x k p → Below s r ts → StmtsAt s r ts x k p
    part : PartAt s r ts k p → StmtsAt s r ts x k p
    leaves : LeavesAt s r ts k p → Below s r ts → StmtsAt s r ts x k p

  -- what is still to be done stands at p
  abbrev pub RestAt : Scope → List Item → List Target → Pos → Type 0
  RestAt s (Do x k ∷ r) ts p = StmtsAt s r ts x k p
  RestAt s (Leave ∷ r) ts p = GoesOn ns c s (Leave ∷ r) ts p × Below (outside s) r ts
  RestAt s (Round l ∷ r) (Again b ∷ ts) p = PassAt ns c p b × LoopStands s r ts l b × Below s r ts
  RestAt s (Check l ∷ r) ts p = (b : ℕ) × (p ≡ entry b) × LoopStands s r ts l b × Below s r ts
  RestAt s (Made l ∷ r) (Again b ∷ ts) p = GoesOn ns c s (Made l ∷ r) (Again b ∷ ts) p × LoopStands s r ts l b × Below s r ts
  RestAt s (Handler x y k ∷ r) (Hand b n ∷ ts) p = GoesOn ns c s r ts p × Below s r ts
  RestAt s _ ts p = ⊥

  -- An error that is thrown at p goes where the items say: those among which it is caught, or not, are the rest without
  -- its first item, perhaps.
  pub record ThrowsAt (s : Scope) (rest : List Item) (p : Pos) : Type 0 where
    pub items : List Item
    pub targets : List Target
    pub same : (ps : List (Option ValueTree)) (ls : List (Local (Option ValueTree))) → unwind ps ls rest ≡ unwind ps ls items
    pub below : Below s items targets
    pub caught : CaughtAt ns c s items targets p

  -- by the phase of the actor: the frame comes to the point by jumps; an error there goes where the items say; the frame
  -- stands at the point, and this asks; and it waits at the same place as the actor
  abbrev pub WayTo : Phase → Scope → List Item → Actor → Frame → Pos → Pos → Type 0
  WayTo Free s rest a f p q = JumpsTo ns c p q
  WayTo Risky s rest a f p q = JumpsTo ns c p q × ThrowsAt s rest p
  WayTo Due s rest a f p q = (p ≡ q) × ThrowsAt s rest p × AsksFirst ns rest
  WayTo Waiting s rest a f p q = (p ≡ q) × ThrowsAt s rest p × AsksFirst ns rest × (actor_spot a ≡ frame_spot f)

abbrev pub pos_of : Frame → Pos
pos_of f = record { block = f.block; instr = f.instr }

-- An actor and a frame at the same point.
pub record Beside (ns : Names) (ph : Phase) (a : Actor) (f : Frame) : Type 0 where
  -- the locals in force, where the items go on, and the point
  pub s : Scope
  pub ts : List Target
  pub to : Pos
  pub vars : a.vars ≡ vars_of f.code f.mem s
  pub held : Held f.code f.mem s
  pub at : RestAt ns f.code s a.rest ts to
  pub way : WayTo ns f.code ph s a.rest a f (pos_of f) to

-- both are over
abbrev pub BothOver : Actor → Frame → Type 0
BothOver a f = (a ≡ over) × (f ≡ frame.over)

-- An actor and the frame of its class: at the same point, or both over, of which nothing is asked any more.
abbrev pub ActorMatches : Names → Phase → Actor → Frame → Type 0
ActorMatches ns Free a f = BothOver a f ⊎ Beside ns Free a f
ActorMatches ns Risky a f = Beside ns Risky a f
ActorMatches ns Due a f = Beside ns Due a f
ActorMatches ns Waiting a f = Beside ns Waiting a f
