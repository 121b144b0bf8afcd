-- What the edges of the definitions come to, computed: drops that name a local twice, branches that aren't there,
-- assignments to what is no variable, and what is seen at a boundary.
use Rattle.std.proofs.Common.{◌≡◌, ℕ, suc, List, [], ◌∷◌, refl}
use Rattle.std.specs.Prelude.{pos, false, codes}
use Rattle.std.specs.Fmt.{digits}
use Rattle.std.specs.declared.option.Option.{Option}
use Rattle.std.specs.declared.option.Option.TheVariants.{None, Some}
use Rattle.flow_tree.specs.Tree.{IntType, VoidType, IntExpr, VoidExpr, VarExpr}
use Rattle.flow_tree.specs.Body.{End, AssignStmt, WaitStmt}
use Rattle.flow_value.specs.declared.value.Kind.TheVariants as kind
use Rattle.flow_value.specs.Values.{ValueTree, IntValue, RefValue}
use Rattle.flow_class.specs.Classes.{InstrTree, SetInstr, DropInstr, ChooseLast, ReturnLast, ClassTree}
use Rattle.flow_class.specs.Code.{Last}
use Rattle.flow_class.specs.Scopes.{path_over}
use Rattle.flow_meaning.specs.Requests.{Drops}
use Rattle.flow_meaning.specs.Process.{View}
use Rattle.flow_meaning.specs.Evaluating.{Names, asks, stuck}
use Rattle.flow_meaning.specs.Items.{Do, Actor, actor}
use Rattle.flow_meaning.specs.SourceStep as text
use Rattle.flow_meaning.specs.Source as source
use Rattle.flow_meaning.specs.Frame.{Memory, Frame, held_in, next_instr}
use Rattle.flow_meaning.specs.Class as class
use Rattle.flow_meaning.specs.World.{World}
use Rattle.flow_meaning.specs.Views.{actor_spot, frame_spot}
use Rattle.flow_meaning.specs.Boundaries.{LiveIn, PendingIn, FramesIn, CallbacksIn}
use Rattle.flow_meaning.specs.Observations.{observation}
use Rattle.flow_meaning_tests.proofs.RowTerms.{nowhere, id}

abbrev no_names : Names
no_names = record { records = []; functions = []; actors = [] }

-- a frame before an instruction, with one local, and one group of one callback
abbrev coded : List InstrTree → ClassTree
coded is = record {
  name = codes "main";
  returns = VoidType;
  params = 0;
  slots = [];
  locals = IntType ∷ [];
  blocks = record { catcher = None; body = is; last = ChooseLast 1 } ∷ record { catcher = None; body = []; last = ReturnLast (Some VoidExpr) } ∷ [];
  groups = (record { next = false; operand = VarExpr (id (codes "l0")); into = None; block = 1 } ∷ []) ∷ [];
}

abbrev framed : List InstrTree → Memory → Frame
framed is m = record { code = coded is; mem = m; block = 0; instr = 0; state = 0 }

abbrev holding : Option ValueTree → Memory
holding o = record { slots = []; locals = o ∷ [] }

-- a local that is named twice is dropped once
twice_dropped : held_in (holding (Some (RefValue kind.Promise 7))) (0 ∷ 0 ∷ []) ≡ RefValue kind.Promise 7 ∷ []
twice_dropped = refl

twice_dropped_step : (v : View) → class.next_step no_names v (framed (DropInstr (0 ∷ 0 ∷ []) ∷ []) (holding (Some (RefValue kind.Promise 7))))
    ≡ asks v.left (Drops (RefValue kind.Promise 7 ∷ [])) (next_instr (holding None) (framed (DropInstr (0 ∷ 0 ∷ []) ∷ []) (holding None)))
twice_dropped_step v = refl

-- a single wait has branch 0 alone, by its text and by its class
abbrev waiting : Actor
waiting =
    actor (record { states = []; locals = [] })
    (Do (record { spot = record { group = 1; first = 0 }; caught = None; is_void = false }) (WaitStmt nowhere (record { into = None; next = false; operand = VoidExpr }) End) ∷ [])

no_other_branch : (n : ℕ) (u : ValueTree) → source.take_at (suc n) u waiting waiting.rest ≡ ([], waiting)
no_other_branch n u = refl

no_other_callback : (n : ℕ) (u : ValueTree) (m : Memory) → class.take_at no_names (suc n) u (framed [] m) (Last (ChooseLast 1)) ≡ ([], framed [] m)
no_other_callback n u m = refl

-- an assignment to what is no variable has no meaning, by its text and by its class, which names it `_`
abbrev assigning : Actor
assigning =
    actor (record { states = (codes "a", Some (IntValue (pos 1))) ∷ []; locals = [] })
    (Do (record { spot = record { group = 1; first = 0 }; caught = None; is_void = false }) (AssignStmt nowhere (id (codes "b") ∷ []) (IntExpr (pos 2)) End) ∷ [])

no_variable : (v : View) → text.next_step no_names v assigning ≡ stuck assigning
no_variable v = refl

abbrev setting : List InstrTree
setting = SetInstr (path_over (record { ty = IntType; name = codes "a" } ∷ []) [] (id (codes "b") ∷ [])) (IntExpr (pos 2)) ∷ []

no_place : (v : View) (m : Memory) → class.next_step no_names v (framed setting m) ≡ stuck (framed setting m)
unfolding digits
no_place v m = refl

-- what is seen at a boundary is what the views say, by texts and by frames
seen_by_texts : (w : World Actor) → observation actor_spot w ≡ record { unfinished = LiveIn w; branches = PendingIn w }
seen_by_texts w = refl

seen_by_frames : (w : World Frame) → observation frame_spot w ≡ record { unfinished = FramesIn w; branches = CallbacksIn w }
seen_by_frames w = refl
