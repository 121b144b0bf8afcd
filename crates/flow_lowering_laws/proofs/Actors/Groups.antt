-- The groups of a lowered body are its waits, in the order of the text.
use Rattle.std.proofs.Common.{◌≡◌, ℕ, suc, Bool, true, false, List, [], ◌∷◌, ◌++◌, map, if◌then◌else◌, refl, ap, ap₂, sym, ◌∙◌}
use Rattle.std.proofs.lemmas.List.{map-append, append-nil, append_assoc}
use Rattle.std.specs.declared.option.Option.{Option}
use Rattle.std.specs.declared.option.Option.TheVariants.{Some}
use Rattle.std.specs.declared.option.Option.TheVariants.{None, Some}
use Rattle.std.specs.Option.{option_map}
use Rattle.flow_tree.specs.Tree.{ExprTree}
use Rattle.flow_tree.specs.Body.{WaitTree, Body, End, BlockStmt, IfStmt, IfElseStmt, WhileStmt, ForStmt, LoopStmt, BreakStmt, ContinueStmt, ReturnStmt, ThrowStmt, TryStmt, ChooseStmt, DeclareStmt, AssignStmt, ModifyStmt, CallStmt, WaitStmt, Branches, NoBranches, MoreBranches}
use Rattle.flow_tree.specs.Decls.{SlotTree}
use Rattle.flow_ast.specs.Leaving.{has_statement}
use Rattle.flow_ast.specs.Slots.{body_groups, branch_groups, branch_waits}
use Rattle.flow_class.specs.Classes.{LastTree, GotoLast, PassLast, ChooseLast, ReturnLast, ThrowLast, CallbackTree}
use Rattle.flow_class.specs.Scopes.{Scope, Mark, Var, over}
use Rattle.flow_meaning.specs.Evaluating.{Names}
use Rattle.flow_meaning.specs.Shape.{waits_kinds, callback_kinds}
use Rattle.flow_split.specs.Around.{Exit, Text, Scoped, Part, Hand, Around, inner, pass, guarded, handling}
use Rattle.flow_split.specs.Counts.{Next, begun, taken, grouped, past, past_branches}
use Rattle.flow_split.specs.Lowered.{finished, Chunk, joined, ends, before_rest, exits, exited, thrown, with_into, with_taken, later, tested, callbacks, test_before, lowered, branches}
use Rattle.flow_tree.specs.Formed.{IsStep}
use Rattle.flow_lowering_laws.specs.Actors.Parts.{HasParts, HaveParts}

-- what each group takes, as a class and as a text say it
abbrev pub kinds : List (List CallbackTree) → List (List Bool)
kinds gs = map callback_kinds gs

abbrev pub wanted : List (List WaitTree) → List (List Bool)
wanted gs = map waits_kinds gs

both_kinds : (gs hs : List (List CallbackTree)) (us vs : List (List WaitTree)) → kinds gs ≡ wanted us → kinds hs ≡ wanted vs → kinds (gs ++ hs) ≡ wanted (us ++ vs)
both_kinds gs hs us vs e f = map-append callback_kinds gs hs ∙ ap₂ (λ x y. x ++ y) e f ∙ sym (map-append waits_kinds us vs)

true_false : true ≡ false → ⊥
true_false h = cc

pub exits_still : (t : Bool) (w : Around) (s : Scope) (n : Next) (l : LastTree) → (exits t w s n l).groups ≡ []
exits_still false w s n l = refl
exits_still true w s n l = refl

pub finished_still : (w : Around) (s : Scope) (x : Exit) → (finished w s x).groups ≡ []
finished_still w s (Text close) = refl
finished_still w s (Scoped l) = refl
finished_still w s (Part l) = refl

-- where there is no statement, a body is at its end
is_end : (k : Body) → has_statement k ≡ false → k ≡ End
is_end End e = refl
is_end _ e = absurd (true_false e)

rest_if : (b : Bool) (h : Option Hand) (c d : Chunk) (k : Body) → has_statement k ≡ b → c.groups ≡ [] → kinds d.groups ≡ wanted (body_groups k)
    → kinds (if b then joined h c d else c).groups ≡ wanted (body_groups k)
rest_if true h c d k e a m = ap (λ gs. kinds (gs ++ d.groups)) a ∙ m
rest_if false h c d k e a m = ap kinds a ∙ ap (λ b. wanted (body_groups b)) (sym (is_end k e))

rest_kinds : (h : Option Hand) (c d : Chunk) (k : Body) → c.groups ≡ [] → kinds d.groups ≡ wanted (body_groups k) → kinds (before_rest h c k d).groups ≡ wanted (body_groups k)
rest_kinds h c d k a m = rest_if (has_statement k) h c d k refl a m

step_groups : (b : Body) → IsStep b → body_groups b ≡ []
step_groups End h = refl
step_groups (AssignStmt at xs e End) h = refl
step_groups (ModifyStmt at xs d End) h = refl
step_groups _ h = absurd h

module _ (ns : Names) (slots : List SlotTree) where
  pub test_groups : (w : Around) (s : Scope) (e : Option ExprTree) (m o : ℕ) (c : Chunk) → (test_before ns slots w s e m o c).groups ≡ c.groups
  test_groups w s None m o c = refl
  test_groups w s (Some e) m o c = append-nil c.groups

  pub branch_kinds : (s : Scope) (t : Bool) (n : Next) (bs : Branches) → callback_kinds (callbacks ns slots s t n bs) ≡ waits_kinds (branch_waits bs)
  branch_kinds s t n NoBranches = refl
  branch_kinds s t n (MoreBranches at w b bs) = ap (λ ks. w.next ∷ ks) (branch_kinds s t (past t b (taken w.into (begun n))) bs)

  mutual
    pub lowered_kinds : (s : Scope) (w : Around) (n : Next) (b : Body) → HasParts b → kinds (lowered ns slots s w n b).groups ≡ wanted (body_groups b)
    lowered_kinds s w n End h = ap kinds (finished_still w s w.exit)
    lowered_kinds s w n (BlockStmt at b k) h =
        let m = past w.looped.tried b n in
        let v = inner w (Scoped (GotoLast m.block)) in
        both_kinds (lowered ns slots (Mark ∷ s) v n b).groups (lowered ns slots s w (begun m) k).groups (body_groups b) (body_groups k) (lowered_kinds (Mark ∷ s) v n b h.1)
        (lowered_kinds s w (begun m) k h.2)
    lowered_kinds s w n (IfStmt at e b k) h =
        let m = past w.looped.tried b (begun n) in
        let v = inner w (Scoped (GotoLast m.block)) in
        both_kinds (lowered ns slots (Mark ∷ s) v (begun n) b).groups (lowered ns slots s w (begun m) k).groups (body_groups b) (body_groups k) (lowered_kinds (Mark ∷ s) v (begun n) b h.1)
        (lowered_kinds s w (begun m) k h.2)
    lowered_kinds s w n (IfElseStmt at e b d k) h =
        let t = w.looped.tried in
        let m = past t b (begun n) in
        let j = past t d (begun m) in
        let v = inner w (Scoped (GotoLast j.block)) in
        let c1 = lowered ns slots (Mark ∷ s) v (begun n) b in
        let c2 = lowered ns slots (Mark ∷ s) v (begun m) d in
        both_kinds (c1.groups ++ c2.groups) (lowered ns slots s w (begun j) k).groups (body_groups b ++ body_groups d) (body_groups k)
        (both_kinds c1.groups c2.groups (body_groups b) (body_groups d) (lowered_kinds (Mark ∷ s) v (begun n) b h.1) (lowered_kinds (Mark ∷ s) v (begun m) d h.2)) (lowered_kinds s w (begun j) k h.3)
    lowered_kinds s w n (WhileStmt at e b k) h =
        let g = begun n in
        let m = past false b (begun g) in
        let v = pass w 1 (PassLast n.block) m.block in
        both_kinds (lowered ns slots (Mark ∷ s) v (begun g) b).groups (lowered ns slots s w (begun m) k).groups (body_groups b) (body_groups k) (lowered_kinds (Mark ∷ s) v (begun g) b h.1)
        (lowered_kinds s w (begun m) k h.2)
    lowered_kinds s w n (ForStmt at i e p b k) h =
        let t = w.looped.tried in
        let f = past t i n in
        let g = tested e f in
        let m = past false b (begun g) in
        let o = past t p (begun m) in
        let r = later i n.local (Mark ∷ s) in
        let v = inner w (Part (PassLast f.block)) in
        let u = pass w 2 (GotoLast m.block) o.block in
        let c0 = lowered ns slots (Mark ∷ s) v n i in
        let c1 = test_before ns slots v r e g.block o.block c0 in
        let c2 = lowered ns slots (Mark ∷ r) u (begun g) b in
        let c3 = lowered ns slots r v (begun m) p in
        let k1 : kinds c1.groups ≡ wanted (body_groups i) = ap kinds (test_groups v r e g.block o.block c0) ∙ lowered_kinds (Mark ∷ s) v n i h.1 in
        let k3 : kinds c3.groups ≡ wanted [] = lowered_kinds r v (begun m) p h.2 ∙ ap wanted (step_groups p h.0.1) in
        both_kinds (c1.groups ++ c2.groups ++ c3.groups) (lowered ns slots s w (begun o) k).groups (body_groups i ++ body_groups b ++ []) (body_groups k)
        (both_kinds (c1.groups ++ c2.groups) c3.groups (body_groups i ++ body_groups b) []
        (both_kinds c1.groups c2.groups (body_groups i) (body_groups b) k1 (lowered_kinds (Mark ∷ r) u (begun g) b h.3)) k3)
        (lowered_kinds s w (begun o) k h.4)
        ∙ ap (λ gs. wanted (gs ++ body_groups k)) (append-nil (body_groups i ++ body_groups b)
        ∙ ap (λ gs. gs ++ body_groups b) (sym (append-nil (body_groups i)) ∙ ap (λ gs. body_groups i ++ gs) (sym (step_groups p h.0.1))))
    lowered_kinds s w n (LoopStmt at b k) h =
        let m = past false b (begun n) in
        let v = pass w 1 (PassLast n.block) m.block in
        both_kinds (lowered ns slots (Mark ∷ s) v (begun n) b).groups (lowered ns slots s w (begun m) k).groups (body_groups b) (body_groups k) (lowered_kinds (Mark ∷ s) v (begun n) b h.1)
        (lowered_kinds s w (begun m) k h.2)
    lowered_kinds s w n (BreakStmt at k) h =
        let m = exited w.looped.tried n in
        rest_kinds w.hand (exits w.looped.tried w s n (GotoLast w.looped.out)) (lowered ns slots s w (begun m) k) k (exits_still w.looped.tried w s n (GotoLast w.looped.out))
        (lowered_kinds s w (begun m) k h.1)
    lowered_kinds s w n (ContinueStmt at k) h =
        let m = exited w.looped.tried n in
        rest_kinds w.hand (exits w.looped.tried w s n w.looped.again) (lowered ns slots s w (begun m) k) k (exits_still w.looped.tried w s n w.looped.again) (lowered_kinds s w (begun m) k h.1)
    lowered_kinds s w n (ReturnStmt at e k) h = rest_kinds w.hand (ends w s true [] (ReturnLast (option_map (over slots s) e))) (lowered ns slots s w (begun n) k) k refl (lowered_kinds s w (begun n) k h.1)
    lowered_kinds s w n (ThrowStmt at e k) h = rest_kinds w.hand (ends w s true [] (ThrowLast (thrown ns slots s at e w.caught))) (lowered ns slots s w (begun n) k) k refl
        (lowered_kinds s w (begun n) k h.1)
    lowered_kinds s w n (TryStmt at b p q d k) h =
        let t = w.looped.tried in
        let m = past true b (begun n) in
        let g = begun (record m { local = suc m.local }) in
        let j = past t d g in
        let hand : Hand = record { block = m.block; error = m.local } in
        let exit = Scoped (GotoLast j.block) in
        let v = guarded w exit hand in
        let u = handling w exit q.name in
        let c1 = lowered ns slots (Mark ∷ s) v (begun n) b in
        let c2 = lowered ns slots (Var q.name m.local ∷ Mark ∷ s) u g d in
        both_kinds (c1.groups ++ c2.groups) (lowered ns slots s w (begun j) k).groups (body_groups b ++ body_groups d) (body_groups k)
        (both_kinds c1.groups c2.groups (body_groups b) (body_groups d) (lowered_kinds (Mark ∷ s) v (begun n) b h.1) (lowered_kinds (Var q.name m.local ∷ Mark ∷ s) u g d h.2))
        (lowered_kinds s w (begun j) k h.3)
    lowered_kinds s w n (ChooseStmt at bs k) h =
        let t = w.looped.tried in
        let g = grouped n in
        let j = past_branches t bs g in
        let v = inner w (Scoped (GotoLast j.block)) in
        let c0 : Chunk = record (ends w s true [] (ChooseLast n.group)) { groups = callbacks ns slots s t g bs ∷ [] } in
        both_kinds (branches ns slots c0 s v g bs).groups (lowered ns slots s w (begun j) k).groups ((branch_waits bs ∷ []) ++ branch_groups bs) (body_groups k)
        (branches_kinds c0 s v g bs (branch_waits bs ∷ []) (ap (λ x. x ∷ []) (branch_kinds s t g bs)) h.1) (lowered_kinds s w (begun j) k h.2)
    lowered_kinds s w n (DeclareStmt at i e k) h = lowered_kinds (with_into i n.local s) w (taken (Some i) n) k h.1
    lowered_kinds s w n (AssignStmt at xs e k) h = lowered_kinds s w n k h.1
    lowered_kinds s w n (ModifyStmt at xs c k) h = lowered_kinds s w n k h.1
    lowered_kinds s w n (CallStmt at xs es k) h = lowered_kinds s w n k h.1
    lowered_kinds s w n (WaitStmt at v k) h = ap (λ gs. (v.next ∷ []) ∷ gs) (lowered_kinds (with_taken v.into n.local s) w (taken v.into (begun (grouped n))) k h.1)

    pub branches_kinds : (c : Chunk) (s : Scope) (w : Around) (n : Next) (bs : Branches) (us : List (List WaitTree)) → kinds c.groups ≡ wanted us → HaveParts bs
        → kinds (branches ns slots c s w n bs).groups ≡ wanted (us ++ branch_groups bs)
    branches_kinds c s w n NoBranches us e h = e ∙ ap wanted (sym (append-nil us))
    branches_kinds c s w n (MoreBranches at v b bs) us e h =
        let m = taken v.into (begun n) in
        let d = lowered ns slots (with_taken v.into n.local (Mark ∷ s)) w m b in
        branches_kinds (joined w.hand c d) s w (past w.looped.tried b m) bs (us ++ body_groups b)
        (both_kinds c.groups d.groups us (body_groups b) e (lowered_kinds (with_taken v.into n.local (Mark ∷ s)) w m b h.1)) h.2
        ∙ ap wanted (append_assoc us (body_groups b) (branch_groups bs))
