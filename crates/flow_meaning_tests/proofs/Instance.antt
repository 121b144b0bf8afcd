-- The premise of the law of runs, met by hand for one small actor: a state variable that takes the result of an effect, a
-- wait in a `try`, and a choose. Each point of the text stands beside a point of the class.
use Rattle.std.proofs.Common.{◌≡◌, ℕ, zero, suc, ◌<◌, nat_eq, Bool, true, false, List, [], ◌∷◌, length, refl, sym, subst, inl, inr, lt-suc_self, zero-add, arith, if◌then◌else◌}
use Rattle.std.specs.Prelude.{pos, codes}
use Rattle.std.specs.Fmt.{digits}
use Rattle.std.specs.declared.option.Option.{Option}
use Rattle.std.specs.declared.option.Option.TheVariants.{None, Some}
use Rattle.flow_tree.specs.Tree.{IntType, VoidType, ErrorType, FutureType, ExprTree, IntExpr, VoidExpr, VarExpr, CallExpr, NoExprs, MoreExprs}
use Rattle.flow_tree.specs.Body.{WaitTree, Body, Branches, End, ReturnStmt, TryStmt, ChooseStmt, DeclareStmt, WaitStmt, NoBranches, MoreBranches}
use Rattle.flow_tree.specs.Decls.{ActorDecl, ProgramTree}
use Rattle.flow_value.specs.Values.{ValueTree, RefValue, ErrorValue, OutcomeTree}
use Rattle.flow_class.specs.Classes.{CallbackTree, ClassTree, RawTree, EffectInstr, DropInstr, GotoLast, ChooseLast, ReturnLast}
use Rattle.flow_class.specs.Scopes.{Local, Mark, Var}
use Rattle.flow_meaning.specs.Cells.{Side}
use Rattle.flow_meaning.specs.Requests.{Ask}
use Rattle.flow_meaning.specs.Process.{View}
use Rattle.flow_meaning.specs.Orderly.{Phase, Free, Risky, Due, Waiting}
use Rattle.flow_meaning.specs.Law.{Quietly, still, quiet, phase_after, MatchesAsk, Alike, BothOrNone, Simulates}
use Rattle.flow_meaning.specs.Items.{Site, Item, Do, Leave, Handler, Actor, actor, over}
use Rattle.flow_meaning.specs.Frame as frame
use Rattle.flow_meaning.specs.Source.{source}
use Rattle.flow_meaning.specs.Class.{begun, classes}
use Rattle.flow_meaning.specs.Views.{actor_spot, frame_spot}
use Rattle.flow_meaning.specs.Observations.{Observation, SourceSeen, ClassSeen, WaitAlike}
use Rattle.flow_meaning.proofs.Sights.{sights_follow, sights_return}
use Rattle.flow_trace.specs.declared.line.Line.{Line}
use Rattle.flow_worldfile.specs.Worlds as file
use Rattle.flow_meaning_tests.proofs.RowTerms.{nowhere, id}

abbrev delay : ℕ → ExprTree
delay n = CallExpr (id (codes "delay")) (MoreExprs (IntExpr (pos n)) NoExprs)

abbrev waited : ExprTree → WaitTree
waited e = record { into = None; next = false; operand = e }

abbrev returning : Body
returning = ReturnStmt nowhere (Some VoidExpr) End

abbrev branches : Branches
branches = MoreBranches nowhere (waited (VarExpr (id (codes "slow")))) End (MoreBranches nowhere (waited (delay 9)) End NoBranches)

abbrev choosing : Body
choosing = ChooseStmt nowhere branches returning

abbrev inner : Body
inner = WaitStmt nowhere (waited (delay 1)) End

abbrev trying : Body
trying = TryStmt nowhere inner nowhere (id (codes "e")) End choosing

abbrev text : Body
text = DeclareStmt nowhere (record { state = true; ty = FutureType VoidType; name = id (codes "slow") }) (Some (delay 5)) trying

abbrev small_program : ProgramTree
small_program = record {
  decls = ActorDecl (record { at = nowhere; returns = VoidType; name = id (codes "main"); params = record { ty = IntType; name = id (codes "p") } ∷ []; body = text; close = nowhere }) ∷ [];
  end = nowhere;
}

abbrev callback : ExprTree → ℕ → CallbackTree
callback e n = record { next = false; operand = e; into = None; block = n }

abbrev small_class : ClassTree
small_class = record {
  name = codes "main";
  returns = VoidType;
  params = 1;
  slots = record { ty = IntType; name = codes "p" } ∷ record { ty = FutureType VoidType; name = codes "slow" } ∷ [];
  locals = ErrorType ∷ [];
  blocks =
      record { catcher = None; body = EffectInstr (id (codes "s1") ∷ []) (delay 5) ∷ []; last = GotoLast 1 }
      ∷ record { catcher = Some (record { block = 3; error = Some 0; drops = [] }); body = []; last = ChooseLast 1 }
      ∷ record { catcher = None; body = []; last = GotoLast 4 }
      ∷ record { catcher = None; body = DropInstr (0 ∷ []) ∷ []; last = GotoLast 4 }
      ∷ record { catcher = None; body = []; last = ChooseLast 2 }
      ∷ record { catcher = None; body = []; last = GotoLast 7 }
      ∷ record { catcher = None; body = []; last = GotoLast 7 }
      ∷ record { catcher = None; body = []; last = ReturnLast (Some VoidExpr) }
      ∷ [];
  groups = (callback (delay 1) 2 ∷ []) ∷ (callback (VarExpr (id (codes "s1"))) 5 ∷ callback (delay 9) 6 ∷ []) ∷ [];
}

abbrev small_classes : RawTree
small_classes = record { records = []; functions = []; classes = small_class ∷ [] }

-- The points of the text: before the effect, before and in the `try`, in its handler, before and in the choose, behind
-- one of its branches, and over.
data Stage : Type 0 where
  Starts : Stage
  Tries : Stage
  Awaits : Stage
  Came : Stage
  Leaves : Stage
  Past : Stage
  Behind : Stage
  Caught : Stage
  Dropping : Stage
  Dropped : Stage
  Chooses : Stage
  Chosen : (first : Bool) → Stage
  ChosenLeaves : (first : Bool) → Stage
  ChosenDone : (first : Bool) → Stage
  Ended : Stage

abbrev site : (group first : ℕ) → Site
site g n = record { spot = record { group = g; first = n }; caught = None; is_void = false }

abbrev handled : List Item → List Item
handled r = Handler (codes "e") (record { spot = record { group = 2; first = 1 }; caught = Some (codes "e"); is_void = false }) End ∷ r

abbrev with_vars : Option ValueTree → Option ValueTree → List (Local (Option ValueTree)) → List Item → Actor
with_vars x y ls r = actor (record { states = (codes "p", x) ∷ (codes "slow", y) ∷ []; locals = ls }) r

abbrev caught_error : ℕ → List (Local (Option ValueTree))
caught_error err = Var (codes "e") (Some (ErrorValue err)) ∷ Mark ∷ []

-- the actor at a point, with what stands in its two state variables, and the error that it caught
abbrev source_at : Stage → (x y : Option ValueTree) → ℕ → Actor
source_at Starts x y err = with_vars x y [] (Do (site 1 0) text ∷ [])
source_at Tries x y err = with_vars x y [] (Do (site 1 0) trying ∷ [])
source_at Awaits x y err = with_vars x y (Mark ∷ []) (Do (site 1 0) inner ∷ Leave ∷ handled (Do (site 2 1) choosing ∷ []))
source_at Came x y err = with_vars x y (Mark ∷ []) (Do (site 2 1) End ∷ Leave ∷ handled (Do (site 2 1) choosing ∷ []))
source_at Leaves x y err = with_vars x y (Mark ∷ []) (Leave ∷ handled (Do (site 2 1) choosing ∷ []))
source_at Past x y err = with_vars x y [] (handled (Do (site 2 1) choosing ∷ []))
source_at Behind x y err = with_vars x y [] (Do (site 2 1) choosing ∷ [])
source_at Caught x y err =
    with_vars x y (caught_error err) (Do (record { spot = record { group = 2; first = 1 }; caught = Some (codes "e"); is_void = false }) End ∷ Leave ∷ Do (site 2 1) choosing ∷ [])
source_at Dropping x y err = with_vars x y (caught_error err) (Leave ∷ Do (site 2 1) choosing ∷ [])
source_at Dropped x y err = with_vars x y [] (Do (site 2 1) choosing ∷ [])
source_at Chooses x y err = with_vars x y [] (Do (site 2 1) choosing ∷ [])
source_at (Chosen t) x y err = with_vars x y (Mark ∷ []) (Do (site 3 3) End ∷ Leave ∷ Do (site 3 3) returning ∷ [])
source_at (ChosenLeaves t) x y err = with_vars x y (Mark ∷ []) (Leave ∷ Do (site 3 3) returning ∷ [])
source_at (ChosenDone t) x y err = with_vars x y [] (Do (site 3 3) returning ∷ [])
source_at Ended x y err = over

abbrev framed : Option ValueTree → Option ValueTree → Option ValueTree → (block instr state : ℕ) → frame.Frame
framed x y e k n st = record { code = small_class; mem = record { slots = x ∷ y ∷ []; locals = e ∷ [] }; block = k; instr = n; state = st }

abbrev block_of : (first : Bool) → ℕ
block_of true = 5
block_of false = 6

-- the frame beside it, with its state number
abbrev frame_at : Stage → (x y : Option ValueTree) → (err state : ℕ) → frame.Frame
frame_at Starts x y err st = framed x y None 0 0 st
frame_at Tries x y err st = framed x y None 0 1 st
frame_at Awaits x y err st = framed x y None 1 0 st
frame_at Came x y err st = framed x y None 2 0 st
frame_at Leaves x y err st = framed x y None 2 0 st
frame_at Past x y err st = framed x y None 2 0 st
frame_at Behind x y err st = framed x y None 2 0 st
frame_at Caught x y err st = framed x y (Some (ErrorValue err)) 3 0 st
frame_at Dropping x y err st = framed x y (Some (ErrorValue err)) 3 0 st
frame_at Dropped x y err st = framed x y None 3 1 st
frame_at Chooses x y err st = framed x y None 4 0 st
frame_at (Chosen t) x y err st = framed x y None (block_of t) 0 st
frame_at (ChosenLeaves t) x y err st = framed x y None (block_of t) 0 st
frame_at (ChosenDone t) x y err st = framed x y None (block_of t) 0 st
frame_at Ended x y err st = frame.over

-- An actor asks at its effect and at its two waits; where it waits, the state number is that of the wait.
abbrev AsksAt : Stage → Type 0
AsksAt Starts = Unit {0}
AsksAt Awaits = Unit {0}
AsksAt Chooses = Unit {0}
AsksAt _ = ⊥

abbrev Allowed : Phase → Stage → ℕ → Type 0
Allowed Free s st = Unit {0}
Allowed Risky s st = AsksAt s
Allowed Due s st = AsksAt s
Allowed Waiting Awaits st = st ≡ 1
Allowed Waiting Chooses st = st ≡ 2
Allowed Waiting _ st = ⊥

abbrev Stands : Phase → Actor → frame.Frame → Type 0
Stands ph a f =
    (s : Stage) × (x : Option ValueTree) × (y : Option ValueTree) × (err : ℕ) × (st : ℕ) × Allowed ph s st
    × (a ≡ source_at s x y err) × (f ≡ frame_at s x y err st)

-- what holds at each point holds of all actors that stand so
everywhere : (ph : Phase) (P : Actor → frame.Frame → Type 0) (a : Actor) (f : frame.Frame) (r : Stands ph a f)
    → P (source_at r.0 r.1 r.2 r.3) (frame_at r.0 r.1 r.2 r.3 r.4) → P a f
everywhere ph P a f r p = subst (λ z. P z f) (sym r.6) (subst (P (source_at r.0 r.1 r.2 r.3)) (sym r.7) p)

asks_where : (s : Stage) (st : ℕ) → Allowed Waiting s st → Allowed Due s st
asks_where Awaits st h = tt
asks_where Chooses st h = tt
asks_where s st h = absurd h

-- a rest without its first item is shorter
shorter : (r : List Item) → length r < suc (length r)
shorter r = lt-suc_self (length r)

-- both ask the same, the frame after quiet steps
abbrev Asked : View → Actor → frame.Frame → Type 0
Asked v a f =
    (k : Ask) × (b : Actor) × (g : frame.Frame) × ((source small_program).next v a ≡ (Some k, b)) × ((classes small_classes).next v f ≡ (Some k, g)) × Stands (phase_after k.act) b g

abbrev Answered : View → Actor → frame.Frame → Type 0
Answered v a f =
    MatchesAsk Stands (classes small_classes) v (length ((source small_program).next v a).1.rest < length a.rest) ((source small_program).next v a).0 ((source small_program).next v a).1 f

answered : (v : View) (a : Actor) (f h : frame.Frame) → Quietly (classes small_classes) v h f → Asked v a f → Answered v a h
answered v a f h q k =
    subst (λ z. MatchesAsk Stands (classes small_classes) v (length z.1.rest < length a.rest) z.0 z.1 h) (sym k.3) (f, k.2, q, k.4, k.5)

module _ (cells : ℕ → Option OutcomeTree) (now left : ℕ) where
  abbrev seen : ℕ → View
  seen kept = record { cells = cells; now = now; left = left; kept = kept }

  awaits : (kept : ℕ) (x y : Option ValueTree) (err st : ℕ) → Asked (seen kept) (source_at Awaits x y err) (frame_at Awaits x y err st)
  unfolding digits
  awaits zero x y err st = (_, _, _, refl, refl, (Awaits, x, y, err, st, tt, refl, refl))
  awaits (suc n) x y err st = (_, _, _, refl, refl, (Awaits, x, y, err, 1, refl, refl, refl))

  chooses : (kept : ℕ) (x y : Option ValueTree) (err st : ℕ) → Asked (seen kept) (source_at Chooses x y err) (frame_at Chooses x y err st)
  unfolding digits
  chooses zero x None err st = (_, _, _, refl, refl, (Chooses, x, None, err, st, tt, refl, refl))
  chooses zero x (Some (RefValue k cell)) err st = (_, _, _, refl, refl, (Chooses, x, Some (RefValue k cell), err, st, tt, refl, refl))
  chooses zero x (Some u) err st = (_, _, _, refl, refl, (Chooses, x, Some u, err, st, tt, refl, refl))
  chooses (suc zero) x y err st = (_, _, _, refl, refl, (Chooses, x, y, err, st, tt, refl, refl))
  chooses (suc (suc n)) x y err st = (_, _, _, refl, refl, (Chooses, x, y, err, 2, refl, refl, refl))

  returns : (kept : ℕ) (t : Bool) (x y : Option ValueTree) (err st : ℕ) → Asked (seen kept) (source_at (ChosenDone t) x y err) (framed x y None 7 0 st)
  returns kept t x y err st = (_, _, _, refl, refl, (Ended, None, None, 0, 0, tt, refl, refl))

  next_at : (s : Stage) (kept : ℕ) (x y : Option ValueTree) (err st : ℕ) → Answered (seen kept) (source_at s x y err) (frame_at s x y err st)
  unfolding digits
  next_at Starts kept x y err st = (_, _, still, refl, (Starts, x, y, err, st, tt, refl, refl))
  next_at Tries kept x y err st = (_, inl (_, refl, still), (Awaits, x, y, err, 0, tt, refl, refl))
  next_at Awaits kept x y err st = answered (seen kept) (source_at Awaits x y err) (frame_at Awaits x y err st) (frame_at Awaits x y err st) still (awaits kept x y err st)
  next_at Came kept x y err st = (_, inr (still, shorter (source_at Leaves x y err).rest), (Leaves, x, y, err, st, tt, refl, refl))
  next_at Leaves kept x y err st = (_, inr (still, shorter (source_at Past x y err).rest), (Past, x, y, err, st, tt, refl, refl))
  next_at Past kept x y err st = (_, inr (still, shorter (source_at Behind x y err).rest), (Behind, x, y, err, st, tt, refl, refl))
  next_at Behind kept x y err st =
      answered (seen kept) (source_at Behind x y err) (frame_at Chooses x y err 0) (frame_at Behind x y err st) (quiet (frame_at Chooses x y err 0) refl still) (chooses kept x y err 0)
  next_at Caught kept x y err st = (_, inr (still, shorter (source_at Dropping x y err).rest), (Dropping, x, y, err, st, tt, refl, refl))
  next_at Dropping kept x y err st = (_, _, still, refl, (Dropped, x, y, err, st, tt, refl, refl))
  next_at Dropped kept x y err st =
      answered (seen kept) (source_at Dropped x y err) (frame_at Chooses x y err 0) (frame_at Dropped x y err st) (quiet (frame_at Chooses x y err 0) refl still) (chooses kept x y err 0)
  next_at Chooses kept x y err st = answered (seen kept) (source_at Chooses x y err) (frame_at Chooses x y err st) (frame_at Chooses x y err st) still (chooses kept x y err st)
  next_at (Chosen t) kept x y err st = (_, inr (still, shorter (source_at (ChosenLeaves t) x y err).rest), (ChosenLeaves t, x, y, err, st, tt, refl, refl))
  next_at (ChosenLeaves t) kept x y err st = (_, inr (still, shorter (source_at (ChosenDone t) x y err).rest), (ChosenDone t, x, y, err, st, tt, refl, refl))
  next_at (ChosenDone true) kept x y err st =
      answered (seen kept) (source_at (ChosenDone true) x y err) (framed x y None 7 0 0) (frame_at (ChosenDone true) x y err st) (quiet (framed x y None 7 0 0) refl still)
      (returns kept true x y err 0)
  next_at (ChosenDone false) kept x y err st =
      answered (seen kept) (source_at (ChosenDone false) x y err) (framed x y None 7 0 0) (frame_at (ChosenDone false) x y err st) (quiet (framed x y None 7 0 0) refl still)
      (returns kept false x y err 0)
  next_at Ended kept x y err st = (_, _, still, refl, (Ended, x, y, err, st, tt, refl, refl))

-- what is handed to an actor that asked
lose_at : (s : Stage) (x y : Option ValueTree) (err st : ℕ) → AsksAt s → Alike (Stands Due) ((source small_program).lose (source_at s x y err)) ((classes small_classes).lose (frame_at s x y err st))
lose_at Starts x y err st h = (refl, (Starts, x, y, err, st, tt, refl, refl))
lose_at Awaits x y err st h = (refl, (Awaits, x, y, err, st, tt, refl, refl))
lose_at Chooses x y err st h = (refl, (Chooses, x, y, err, st, tt, refl, refl))
lose_at s x y err st h = absurd h

store_at : (s : Stage) (u : ValueTree) (x y : Option ValueTree) (err st : ℕ) → AsksAt s
    → Alike (Stands Free) ((source small_program).store u (source_at s x y err)) ((classes small_classes).store u (frame_at s x y err st))
unfolding digits
store_at Starts u x y err st h = (refl, (Tries, x, Some u, err, st, tt, refl, refl))
store_at Awaits u x y err st h = (refl, (Awaits, x, y, err, st, tt, refl, refl))
store_at Chooses u x y err st h = (refl, (Chooses, x, y, err, st, tt, refl, refl))
store_at s u x y err st h = absurd h

take_at : (s : Stage) (n : ℕ) (u : ValueTree) (x y : Option ValueTree) (err st : ℕ) → AsksAt s
    → Alike (Stands Free) ((source small_program).take n u (source_at s x y err)) ((classes small_classes).take n u (frame_at s x y err st))
unfolding digits
take_at Starts zero u x y err st h = (refl, (Starts, x, y, err, st, tt, refl, refl))
take_at Starts (suc n) u x y err st h = (refl, (Starts, x, y, err, st, tt, refl, refl))
take_at Awaits zero u x y err st h = (refl, (Came, x, y, err, 0, tt, refl, refl))
take_at Awaits (suc n) u x y err st h = (refl, (Awaits, x, y, err, st, tt, refl, refl))
take_at Chooses zero u x y err st h = (refl, (Chosen true, x, y, err, 0, tt, refl, refl))
take_at Chooses (suc zero) u x y err st h = (refl, (Chosen false, x, y, err, 0, tt, refl, refl))
take_at Chooses (suc (suc n)) u x y err st h = (refl, (Chooses, x, y, err, st, tt, refl, refl))
take_at s n u x y err st h = absurd h

raise_at : (s : Stage) (e : ℕ) (x y : Option ValueTree) (err st : ℕ) → AsksAt s
    → Alike (Stands Free) ((source small_program).raise e (source_at s x y err)) ((classes small_classes).raise e (frame_at s x y err st))
raise_at Starts e x y err st h = (refl, (Ended, None, None, 0, 0, tt, refl, refl))
raise_at Awaits e x y err st h = (refl, (Caught, x, y, e, 0, tt, refl, refl))
raise_at Chooses e x y err st h = (refl, (Ended, None, None, 0, 0, tt, refl, refl))
raise_at s e x y err st h = absurd h

occ_at : (s : Stage) (side : Side) (k : ℕ) (x y : Option ValueTree) (err st : ℕ) → (source small_program).occ side k (source_at s x y err) ≡ (classes small_classes).occ side k (frame_at s x y err st)
occ_at Ended side k x y err st = refl
occ_at s side k x y err st = zero-add _

-- a new actor: `main` has one parameter, and there is no other actor
too_many : (f : frame.Frame) (t : Bool) → t ≡ false → BothOrNone (Stands Free) None (if t then Some f else None)
too_many f false e = tt
too_many f true e = absurd cc

fresh_at : (k : ℕ) (vs : List ValueTree) → BothOrNone (Stands Free) ((source small_program).fresh k vs) ((classes small_classes).fresh k vs)
fresh_at zero [] = tt
fresh_at zero (u ∷ []) = (Starts, Some u, None, 0, 0, tt, refl, refl)
fresh_at zero (u ∷ w ∷ vs) = too_many (begun small_class (u ∷ w ∷ vs)) (nat_eq (suc (suc (length vs))) 1) (grind arith)
fresh_at (suc k) vs = tt

small_simulated : Simulates (source small_program) (classes small_classes) Stands
small_simulated = record {
  main = refl;
  label = λ k. by_place k;
  fresh = fresh_at;
  waits = λ a b r. (r.0, r.1, r.2, r.3, r.4, asks_where r.0 r.4 r.5, r.6, r.7);
  dues = λ a b r. r;
  risks = λ a b r. (r.0, r.1, r.2, r.3, r.4, tt, r.6, r.7);
  weight = λ a. length a.rest;
  next = λ v a b r. everywhere Free (Answered v) a b r (next_at v.cells v.now v.left r.0 v.kept r.1 r.2 r.3 r.4);
  lose = λ a b r. everywhere Due (λ p q. Alike (Stands Due) ((source small_program).lose p) ((classes small_classes).lose q)) a b r (lose_at r.0 r.1 r.2 r.3 r.4 r.5);
  store = λ u a b r. everywhere Due (λ p q. Alike (Stands Free) ((source small_program).store u p) ((classes small_classes).store u q)) a b r (store_at r.0 u r.1 r.2 r.3 r.4 r.5);
  take = λ n u a b r. everywhere Due (λ p q. Alike (Stands Free) ((source small_program).take n u p) ((classes small_classes).take n u q)) a b r (take_at r.0 n u r.1 r.2 r.3 r.4 r.5);
  raise = λ e a b r. everywhere Risky (λ p q. Alike (Stands Free) ((source small_program).raise e p) ((classes small_classes).raise e q)) a b r (raise_at r.0 e r.1 r.2 r.3 r.4 r.5);
  occ = λ side k a b r. everywhere Free (λ p q. (source small_program).occ side k p ≡ (classes small_classes).occ side k q) a b r (occ_at r.0 side k r.1 r.2 r.3 r.4);
}
  where
    by_place : (k : ℕ) → (source small_program).label k ≡ (classes small_classes).label k
    by_place zero = refl
    by_place (suc k) = refl

-- where both wait, they wait at the same place
spots_at : (s : Stage) (x y : Option ValueTree) (err st : ℕ) → Allowed Waiting s st → actor_spot (source_at s x y err) ≡ frame_spot (frame_at s x y err st)
spots_at Awaits x y err st h = subst (λ n. actor_spot (source_at Awaits x y err) ≡ frame_spot (frame_at Awaits x y err n)) (sym h) refl
spots_at Chooses x y err st h = subst (λ n. actor_spot (source_at Chooses x y err) ≡ frame_spot (frame_at Chooses x y err n)) (sym h) refl
spots_at s x y err st h = absurd h

spots_same : WaitAlike Stands actor_spot frame_spot
spots_same a f r = everywhere Waiting (λ p q. actor_spot p ≡ frame_spot q) a f r (spots_at r.0 r.1 r.2 r.3 r.4 r.5)

-- So in every world the class writes what the program writes, with the same at each boundary, and nothing else.
small_follows : (w : file.World) (lines : List Line) (sights : List Observation) → SourceSeen small_program w lines sights → ClassSeen small_classes w lines sights
small_follows = sights_follow (source small_program) (classes small_classes) Stands small_simulated actor_spot frame_spot spots_same

small_returns : (w : file.World) (lines : List Line) (sights : List Observation) → ClassSeen small_classes w lines sights → SourceSeen small_program w lines sights
small_returns = sights_return (source small_program) (classes small_classes) Stands small_simulated actor_spot frame_spot spots_same
