-- In a lowered body no path is empty, where none is in its text.
use Rattle.std.proofs.Common.{◌≡◌, ℕ, zero, suc, Bool, true, false, List, [], ◌∷◌, ◌++◌, map, subst}
use Rattle.std.specs.Prelude.{slice_get}
use Rattle.std.specs.List.{AllByRecursion}
use Rattle.std.specs.Option.{option_map}
use Rattle.std.specs.declared.option.Option.{Option}
use Rattle.std.specs.declared.option.Option.TheVariants.{None, Some}
use Rattle.flow_tree.specs.declared.ty.Ident.{Ident}
use Rattle.flow_tree.specs.Tree.{ExprTree}
use Rattle.flow_tree.specs.Decls.{SlotTree}
use Rattle.flow_tree.specs.Body.{IntoTree, Body, End, BlockStmt, IfStmt, IfElseStmt, WhileStmt, ForStmt, LoopStmt, BreakStmt, ContinueStmt, ReturnStmt, ThrowStmt, TryStmt, ChooseStmt, DeclareStmt, AssignStmt, ModifyStmt, CallStmt, WaitStmt, Branches, NoBranches, MoreBranches}
use Rattle.flow_ast.specs.Typing.{is_there}
use Rattle.flow_ast.specs.Leaving.{has_statement}
use Rattle.flow_class.specs.declared.class.Slotted.{Slotted}
use Rattle.flow_class.specs.Classes.{InstrTree, ActInstr, DropInstr, LastTree, GotoLast, PassLast, TestLast, ChooseLast, ReturnLast, ThrowLast, BlockTree}
use Rattle.flow_class.specs.Code.{Body as Held, Nothing, fetch_in, fetch_at}
use Rattle.flow_class.specs.Scopes.{Scope, Var, Mark, scope, path_over, act_over, over, over_all}
use Rattle.flow_catch.specs.Inner.{left_lists}
use Rattle.flow_choose.specs.Places.{ident_at}
use Rattle.flow_meaning.specs.Evaluating.{Names, effect_in}
use Rattle.flow_meaning.specs.Items.{change}
use Rattle.flow_split.specs.Around.{Exit, Text, Scoped, Part, Hand, Around, inner, pass, guarded, handling}
use Rattle.flow_split.specs.Counts.{Next, begun, taken, grouped, past, past_branches}
use Rattle.flow_split.specs.Lowered.{Chunk, blocks_of, joined, ends, acting, drop_of, dropping, finished, before_rest, exits, exited, with_into, with_taken, later, first_value, new_at, first_at, tested, assign_by, assigned, changed, place_in, declares, thrown, callback, callbacks, test_before, lowered, branches}
use Rattle.flow_tree.specs.Formed.{IsPath}
use Rattle.flow_typing_laws.specs.Typing.Paths.{HasPaths, HavePaths}
use Rattle.flow_progress.specs.Written.{HasPath}

abbrev pub AllPaths : List InstrTree → Type 0
AllPaths is = AllByRecursion HasPath is

abbrev pub BlocksPaths : List BlockTree → Type 0
BlocksPaths bs = AllByRecursion (λ (b : BlockTree). AllPaths b.body) bs

-- so it is in a chunk
pub record Pathed (ch : Chunk) : Type 0 where
  pub body : AllPaths ch.body
  pub more : BlocksPaths ch.more

all_more : {A : Type 0} (P : A → Type 0) (xs ys : List A) → AllByRecursion P xs → AllByRecursion P ys → AllByRecursion P (xs ++ ys)
all_more P [] ys h k = k
all_more P (x ∷ xs) ys h k = (h.0, all_more P xs ys h.1 k)

drops_pathed : (ls : List (List ℕ)) → AllPaths (map DropInstr ls)
drops_pathed [] = tt
drops_pathed (l ∷ ls) = (tt, drops_pathed ls)

drop_pathed : (ns : List ℕ) → AllPaths (drop_of ns)
drop_pathed [] = tt
drop_pathed (n ∷ ns) = (tt, tt)

joined_pathed : (h : Option Hand) {a b : Chunk} → Pathed a → Pathed b → Pathed (joined h a b)
joined_pathed h {a = a} {b = b} f g = record { body = f.body; more = all_more (λ (b : BlockTree). AllPaths b.body) a.more (blocks_of h b) f.more (g.body, g.more) }

acting_pathed : (is : List InstrTree) {a : Chunk} → AllPaths is → Pathed a → Pathed (acting is a)
acting_pathed is {a = a} h f = record { body = all_more HasPath is a.body h f.body; more = f.more }

dropping_pathed : (ns : List ℕ) {a : Chunk} → Pathed a → Pathed (dropping ns a)
dropping_pathed ns {a = a} f = record { body = all_more HasPath (drop_of ns) a.body (drop_pathed ns) f.body; more = f.more }

ends_pathed : (w : Around) (s : Scope) (acts : Bool) (is : List InstrTree) (l : LastTree) → AllPaths is → Pathed (ends w s acts is l)
ends_pathed w s acts is l h = record { body = h; more = tt }

finished_pathed : (w : Around) (s : Scope) (x : Exit) → Pathed (finished w s x)
finished_pathed w s (Text at) = record { body = tt; more = tt }
finished_pathed w s (Scoped l) = record { body = drop_pathed (scope s); more = tt }
finished_pathed w s (Part l) = record { body = tt; more = tt }

rest_pathed : (h : Option Hand) (k : Body) {a b : Chunk} → Pathed a → Pathed b → Pathed (before_rest h a k b)
rest_pathed h k {a = a} {b = b} f g = by_test (has_statement k)
  where
    by_test : (x : Bool) → Pathed (Rattle.std.specs.Prelude.if◌then◌else◌ x (joined h a b) a)
    by_test true = joined_pathed h f g
    by_test false = f

exits_pathed : (t : Bool) (w : Around) (s : Scope) (n : Next) (l : LastTree) → Pathed (exits t w s n l)
exits_pathed false w s n l = record { body = drops_pathed (left_lists w.looped.depth s); more = tt }
exits_pathed true w s n l = record { body = tt; more = (drops_pathed (left_lists w.looped.depth s), tt) }

-- paths over places
over_pathed : (slots : List SlotTree) (s : Scope) (xs : List Ident) → IsPath xs → IsPath (path_over slots s xs)
over_pathed slots s [] h = h
over_pathed slots s (x ∷ xs) h = tt

act_pathed : (slots : List SlotTree) (s : Scope) (xs : List Ident) → IsPath xs → IsPath (act_over slots s xs)
act_pathed slots s [] h = h
act_pathed slots s (f ∷ []) h = tt
act_pathed slots s (f ∷ (g ∷ gs)) h = tt

new_pathed : (p : Option Slotted) → AllPaths (new_at p)
new_pathed None = tt
new_pathed (Some p) = (tt, tt)

first_pathed : (i : IntoTree) (p : Option Slotted) (e : Option ExprTree) → AllPaths (first_at i p e)
first_pathed i p None = new_pathed p
first_pathed i p (Some e) = (tt, tt)

module _ (ns : Names) (slots : List SlotTree) where
  assign_pathed : (b : Bool) (xs : List Ident) (e : ExprTree) → IsPath xs → HasPath (assign_by ns slots b xs e)
  assign_pathed true xs e h = h
  assign_pathed false xs e h = h

  assigned_pathed : (s : Scope) (xs : List Ident) (e : ExprTree) → IsPath xs → HasPath (assigned ns slots s xs e)
  assigned_pathed s xs e h = assign_pathed (is_there (effect_in ns e)) xs (over slots s e) h

  changed_pathed : (s : Scope) (xs : List Ident) (e : Option ExprTree) → IsPath xs → AllPaths (changed ns slots s xs e)
  changed_pathed s xs None h = tt
  changed_pathed s xs (Some e) h = (assigned_pathed s (path_over slots s xs) e (over_pathed slots s xs h), tt)

  declares_pathed : (s : Scope) (l : ℕ) (i : IntoTree) (e : Option ExprTree) → AllPaths (declares ns slots s l i e)
  declares_pathed s l i None = first_pathed i (place_in ns slots i l s) (first_value i.ty)
  declares_pathed s l i (Some e) = (assigned_pathed s (ident_at (place_in ns slots i l s) i.name ∷ []) e tt, tt)

  test_pathed : (w : Around) (s : Scope) (e : Option ExprTree) (main out : ℕ) (a : Chunk) → Pathed a → Pathed (test_before ns slots w s e main out a)
  test_pathed w s None main out a f = f
  test_pathed w s (Some e) main out a f = joined_pathed w.hand f (ends_pathed w s true [] (TestLast (over slots s e) main out) tt)

  mutual
    pub lowered_pathed : (b : Body) (s : Scope) (w : Around) (n : Next) → HasPaths b → Pathed (lowered ns slots s w n b)
    lowered_pathed End s w n h = finished_pathed w s w.exit
    lowered_pathed (BlockStmt at b k) s w n h =
        let m = past w.looped.tried b n in
        joined_pathed w.hand (lowered_pathed b (Mark ∷ s) (inner w (Scoped (GotoLast m.block))) n h.1) (lowered_pathed k s w (begun m) h.2)
    lowered_pathed (IfStmt at e b k) s w n h =
        let m = past w.looped.tried b (begun n) in
        joined_pathed w.hand
        (joined_pathed w.hand (ends_pathed w s true [] (TestLast (over slots s e) n.block m.block) tt) (lowered_pathed b (Mark ∷ s) (inner w (Scoped (GotoLast m.block))) (begun n) h.1))
        (lowered_pathed k s w (begun m) h.2)
    lowered_pathed (IfElseStmt at e b c k) s w n h =
        let m = past w.looped.tried b (begun n) in
        let j = past w.looped.tried c (begun m) in
        let v = inner w (Scoped (GotoLast j.block)) in
        joined_pathed w.hand
        (joined_pathed w.hand (joined_pathed w.hand (ends_pathed w s true [] (TestLast (over slots s e) n.block m.block) tt) (lowered_pathed b (Mark ∷ s) v (begun n) h.1))
        (lowered_pathed c (Mark ∷ s) v (begun m) h.2))
        (lowered_pathed k s w (begun j) h.3)
    lowered_pathed (WhileStmt at e b k) s w n h =
        let g = begun n in
        let m = past false b (begun g) in
        joined_pathed w.hand
        (joined_pathed w.hand (joined_pathed w.hand (ends_pathed w s false [] (PassLast n.block) tt) (ends_pathed w s true [] (TestLast (over slots s e) g.block m.block) tt))
        (lowered_pathed b (Mark ∷ s) (pass w 1 (PassLast n.block) m.block) (begun g) h.1))
        (lowered_pathed k s w (begun m) h.2)
    lowered_pathed (ForStmt at i e p b k) s w n h =
        let t = w.looped.tried in
        let d = past t i n in
        let g = tested e d in
        let m = past false b (begun g) in
        let o = past t p (begun m) in
        let r = later i n.local (Mark ∷ s) in
        let v = inner w (Part (PassLast d.block)) in
        joined_pathed w.hand
        (joined_pathed w.hand
        (joined_pathed w.hand (test_pathed v r e g.block o.block (lowered ns slots (Mark ∷ s) v n i) (lowered_pathed i (Mark ∷ s) v n h.1))
        (lowered_pathed b (Mark ∷ r) (pass w 2 (GotoLast m.block) o.block) (begun g) h.3))
        (lowered_pathed p r v (begun m) h.2))
        (dropping_pathed (scope (later p m.local r)) (lowered_pathed k s w (begun o) h.4))
    lowered_pathed (LoopStmt at b k) s w n h =
        let m = past false b (begun n) in
        joined_pathed w.hand
        (joined_pathed w.hand (ends_pathed w s false [] (PassLast n.block) tt) (lowered_pathed b (Mark ∷ s) (pass w 1 (PassLast n.block) m.block) (begun n) h.1))
        (lowered_pathed k s w (begun m) h.2)
    lowered_pathed (BreakStmt at k) s w n h =
        let m = exited w.looped.tried n in
        rest_pathed w.hand k (exits_pathed w.looped.tried w s n (GotoLast w.looped.out)) (lowered_pathed k s w (begun m) h.1)
    lowered_pathed (ContinueStmt at k) s w n h =
        let m = exited w.looped.tried n in
        rest_pathed w.hand k (exits_pathed w.looped.tried w s n w.looped.again) (lowered_pathed k s w (begun m) h.1)
    lowered_pathed (ReturnStmt at e k) s w n h =
        rest_pathed w.hand k (ends_pathed w s true [] (ReturnLast (option_map (over slots s) e)) tt) (lowered_pathed k s w (begun n) h.1)
    lowered_pathed (ThrowStmt at e k) s w n h =
        rest_pathed w.hand k (ends_pathed w s true [] (ThrowLast (thrown ns slots s at e w.caught)) tt) (lowered_pathed k s w (begun n) h.1)
    lowered_pathed (TryStmt at b p x c k) s w n h =
        let t = w.looped.tried in
        let m = past true b (begun n) in
        let g = begun (record m { local = suc m.local }) in
        let j = past t c g in
        let d : Hand = record { block = m.block; error = m.local } in
        let exit = Scoped (GotoLast j.block) in
        joined_pathed w.hand
        (joined_pathed w.hand (joined_pathed (Some d) (ends_pathed w s false [] (GotoLast n.block) tt) (lowered_pathed b (Mark ∷ s) (guarded w exit d) (begun n) h.1))
        (lowered_pathed c (Var x.name m.local ∷ Mark ∷ s) (handling w exit x.name) g h.2))
        (lowered_pathed k s w (begun j) h.3)
    lowered_pathed (ChooseStmt at bs k) s w n h =
        let t = w.looped.tried in
        let g = grouped n in
        let j = past_branches t bs g in
        let c : Chunk = record (ends w s true [] (ChooseLast n.group)) { groups = callbacks ns slots s t g bs ∷ [] } in
        joined_pathed w.hand (branches_pathed bs c s (inner w (Scoped (GotoLast j.block))) g h.1 (record { body = tt; more = tt })) (lowered_pathed k s w (begun j) h.2)
    lowered_pathed (DeclareStmt at i e k) s w n h =
        acting_pathed (declares ns slots s n.local i e) (declares_pathed s n.local i e) (lowered_pathed k (with_into i n.local s) w (taken (Some i) n) h.1)
    lowered_pathed (AssignStmt at xs e k) s w n h =
        acting_pathed (assigned ns slots s (path_over slots s xs) e ∷ []) (assigned_pathed s (path_over slots s xs) e (over_pathed slots s xs h.0), tt) (lowered_pathed k s w n h.1)
    lowered_pathed (ModifyStmt at xs d k) s w n h =
        acting_pathed (changed ns slots s xs (change xs d)) (changed_pathed s xs (change xs d) h.0) (lowered_pathed k s w n h.1)
    lowered_pathed (CallStmt at xs es k) s w n h =
        acting_pathed (ActInstr (act_over slots s xs) (over_all slots s es) ∷ []) (act_pathed slots s xs h.0, tt) (lowered_pathed k s w n h.1)
    lowered_pathed (WaitStmt at v k) s w n h =
        let c : Chunk = record (ends w s true [] (ChooseLast n.group)) { groups = (callback ns slots s v n.local n.block ∷ []) ∷ [] } in
        let p : Pathed c = record { body = tt; more = tt } in
        joined_pathed w.hand p (lowered_pathed k (with_taken v.into n.local s) w (taken v.into (begun (grouped n))) h.1)

    branches_pathed : (bs : Branches) (a : Chunk) (s : Scope) (w : Around) (n : Next) → HavePaths bs → Pathed a → Pathed (branches ns slots a s w n bs)
    branches_pathed NoBranches a s w n h f = f
    branches_pathed (MoreBranches at v b bs) a s w n h f =
        let m = taken v.into (begun n) in
        branches_pathed bs (joined w.hand a (lowered ns slots (with_taken v.into n.local (Mark ∷ s)) w m b)) s w (past w.looped.tried b m) h.2
        (joined_pathed w.hand f (lowered_pathed b (with_taken v.into n.local (Mark ∷ s)) w m h.1))

-- what is fetched
some_same : {A : Type 0} {x y : A} → Some x ≡ Some y → x ≡ y
some_same e = cc

fetched_pathed : (is : List InstrTree) (l : LastTree) (n : ℕ) (i : InstrTree) → AllPaths is → fetch_in is l n ≡ Held i → HasPath i
fetched_pathed [] l zero i h e = absurd cc
fetched_pathed [] l (suc n) i h e = absurd cc
fetched_pathed (x ∷ is) l zero i h e = subst HasPath (same e) h.0
  where
    same : {a b : InstrTree} → Held a ≡ Held b → a ≡ b
    same q = cc
fetched_pathed (x ∷ is) l (suc n) i h e = fetched_pathed is l n i h.1 e

pub blocks_pathed : (bs : List BlockTree) (b n : ℕ) (i : InstrTree) → BlocksPaths bs → fetch_at (slice_get bs b) n ≡ Held i → HasPath i
blocks_pathed [] b n i h e = absurd cc
blocks_pathed (x ∷ bs) zero n i h e = fetched_pathed x.body x.last n i h.0 e
blocks_pathed (x ∷ bs) (suc b) n i h e = blocks_pathed bs b n i h.1 e

pub begins_there : (is : List InstrTree) (l : LastTree) → fetch_in is l 0 ≡ Nothing → ⊥
begins_there [] l e = cc
begins_there (i ∷ is) l e = cc
