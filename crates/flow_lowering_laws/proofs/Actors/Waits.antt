-- Statements of one instruction, waits and chooses stand where lowering put them.
use Rattle.std.proofs.Common.{◌≡◌, ℕ, suc, ◌+◌, ◌^◌, ◌<◌, Bool, true, List, [], ◌∷◌, ◌++◌, length, refl, ap, sym, subst, ◌∙◌, arith, length-append}
use Rattle.std.specs.declared.option.Option.{Option}
use Rattle.std.specs.declared.option.Option.TheVariants.{Some}
use Rattle.flow_base.specs.declared.place.Place.{Place}
use Rattle.flow_tree.specs.declared.ty.Ident.{Ident}
use Rattle.flow_tree.specs.Tree.{ExprTree, ExprTrees}
use Rattle.flow_tree.specs.Body.{IntoTree, WaitTree, ChangeTree, Body, DeclareStmt, AssignStmt, ModifyStmt, CallStmt, WaitStmt, ChooseStmt, Branches, NoBranches, MoreBranches}
use Rattle.flow_ast.specs.Typing.{is_there}
use Rattle.flow_class.specs.Classes.{ActInstr, GotoLast, ChooseLast, CallbackTree, ClassTree}
use Rattle.flow_class.specs.Code.{Last}
use Rattle.flow_class.specs.Scopes.{Scope, Mark, over_all, path_over, act_over}
use Rattle.flow_layout.specs.Locals.{body_locals, branch_locals, declared_locals, into_locals}
use Rattle.flow_meaning.specs.Requests.{Spot}
use Rattle.flow_meaning.specs.Evaluating.{Names}
use Rattle.flow_meaning.specs.Items.{Site, Item, Do, Leave, site_at}
use Rattle.flow_meaning.specs.Text.{next_spot, branch_count}
use Rattle.flow_meaning.specs.Text as text
use Rattle.flow_meaning.specs.Carry.{Pos, entry, after, Target, At}
use Rattle.flow_meaning.specs.Carries.{GroupAt, BranchesAt}
use Rattle.flow_split.specs.Around.{Scoped, Around, inner}
use Rattle.flow_split.specs.Counts.{branch_group_count, Next, begun, taken, grouped, past, past_branches}
use Rattle.flow_split.specs.Lowered.{Chunk, blocks_of, joined, acting, ends, with_into, with_taken, assigned, callback, callbacks, lowered, branches}
use Rattle.flow_split.proofs.Lengths.{lowered_more, branches_more, branches_groups}
use Rattle.flow_lowering_laws.specs.Actors.Parts.{HaveParts}
use Rattle.flow_lowering_laws.specs.Actors.InPlace.{InPlace, AllInPlace}
use Rattle.flow_lowering_laws.proofs.Actors.Standing.{moved, moved_group, LocalsAt, locals_front, locals_back, Stands, first, second, one_at, one_on}
use Rattle.flow_lowering_laws.proofs.Actors.Groups.{branch_kinds}
use Rattle.flow_lowering_laws.proofs.Actors.Spots.{both, lowered_moved, choose_moved, callbacks_count}
use Rattle.flow_lowering_laws.proofs.Actors.Held.{same, caught_by, lowered_held}
use Rattle.flow_lowering_laws.proofs.Actors.Around.{Here, here_past, here_inner, here_ends_scope}
use Rattle.flow_lowering_laws.proofs.Actors.Places.{names, names_with, placing}
use Rattle.flow_lowering_laws.proofs.Actors.Simples.{assign_at, declares_at, changes_at, branch_takes, inner_takes}
use Rattle.flow_lowering_laws.proofs.Actors.Further.{locals_count, branch_locals_count, into_locals_count, Carried, groups_after, rest_at, here_into, here_taken, names_taken}

module _ (ns : Names) (c : ClassTree) (few_slots : length c.slots < 2 ^ 64) (few_locals : length c.locals < 2 ^ 64) where
  abbrev low : Scope → Around → Next → Body → Chunk
  low s w n b = lowered ns c.slots s w n b

  pub declare_stands : (place : Place) (i : IntoTree) (e : Option ExprTree) (k : Body) → Carried ns c k → Carried ns c (DeclareStmt place i e k)
  declare_stands place i e k rest l s w n x r ts p h room parts ok st =
      let mine = locals_front ns c n.local (declared_locals i) (body_locals k) room in
      let v = placing ns c few_slots few_locals s n.local i h.above mine ok.0 in
      let d = declares_at ns c few_slots few_locals s n.local i v e in
      let s2 = with_into i n.local s in
      let m = taken (Some i) n in
      let ch = low s2 w m k in
      let one = subst (λ is. Stands ns c p n.block x.spot w.hand (acting is ch)) d.is st in
      let behind = here_into ns c i l w s n m x x.spot r ts refl mine h.group h in (
        caught_by ns c n.local w.depth s r ts p n.block x.spot w.hand (low s w n (DeclareStmt place i e k)) h.above h.hand (lowered_held ns c s w n (DeclareStmt place i e k)) refl st,
        here_ends_scope ns c l w s n x r ts h,
        v.to,
        s2,
        d.gives p (one_at ns c p n.block x.spot w.hand d.instr ch one),
        v.declared,
        rest l s2 w m x r ts (after p) behind
            (locals_back ns c n.local m.local (declared_locals i) (body_locals k) (omega (arith, into_locals_count (Some i))) room) parts.1
            (subst (λ xs. InPlace c.slots l (is_there x.caught) xs k) (sym (names_with i.state i.name.name n.local s)) ok.1) (one_on ns c p n.block x.spot w.hand d.instr ch one),
      )

  pub assign_stands : (place : Place) (xs : List Ident) (e : ExprTree) (k : Body) → Carried ns c k → Carried ns c (AssignStmt place xs e k)
  assign_stands place xs e k rest l s w n x r ts p h room parts ok st =
      let i = assigned ns c.slots s (path_over c.slots s xs) e in
      let ch = low s w n k in (
        caught_by ns c n.local w.depth s r ts p n.block x.spot w.hand (low s w n (AssignStmt place xs e k)) h.above h.hand (lowered_held ns c s w n (AssignStmt place xs e k)) refl st,
        assign_at ns c few_slots few_locals s (path_over c.slots s xs) e p (one_at ns c p n.block x.spot w.hand i ch st),
        rest l s w n x r ts (after p) h room parts.1 ok (one_on ns c p n.block x.spot w.hand i ch st),
      )

  pub modify_stands : (place : Place) (xs : List Ident) (d : ChangeTree) (k : Body) → Carried ns c k → Carried ns c (ModifyStmt place xs d k)
  modify_stands place xs d k rest l s w n x r ts p h room parts ok st =
      let v = changes_at ns c few_slots few_locals s xs d parts.0 in
      let ch = low s w n k in
      let one = subst (λ is. Stands ns c p n.block x.spot w.hand (acting is ch)) v.is st in (
        caught_by ns c n.local w.depth s r ts p n.block x.spot w.hand (low s w n (ModifyStmt place xs d k)) h.above h.hand (lowered_held ns c s w n (ModifyStmt place xs d k)) refl st,
        v.gives p (one_at ns c p n.block x.spot w.hand v.instr ch one),
        rest l s w n x r ts (after p) h room parts.1 ok (one_on ns c p n.block x.spot w.hand v.instr ch one),
      )

  pub call_stands : (place : Place) (xs : List Ident) (es : ExprTrees) (k : Body) → Carried ns c k → Carried ns c (CallStmt place xs es k)
  call_stands place xs es k rest l s w n x r ts p h room parts ok st =
      let i = ActInstr (act_over c.slots s xs) (over_all c.slots s es) in
      let ch = low s w n k in (
        caught_by ns c n.local w.depth s r ts p n.block x.spot w.hand (low s w n (CallStmt place xs es k)) h.above h.hand (lowered_held ns c s w n (CallStmt place xs es k)) refl st,
        one_at ns c p n.block x.spot w.hand i ch st,
        rest l s w n x r ts (after p) h room parts.1 ok (one_on ns c p n.block x.spot w.hand i ch st),
      )

  -- a group stands where its wait does
  group_stands : (p : Pos) (n g : ℕ) (x : Spot) (cs : List CallbackTree) (w : Around) (s : Scope) → g ≡ x.group
      → Stands ns c p n x w.hand (record (ends w s true [] (ChooseLast g)) { groups = cs ∷ [] }) → GroupAt ns c x cs p
  group_stands p n g x cs w s e st = (st.code ∙ ap (λ j. Last (ChooseLast j)) e, st.groups.1, st.groups.0)

  pub wait_stands : (place : Place) (v : WaitTree) (k : Body) → Carried ns c k → Carried ns c (WaitStmt place v k)
  wait_stands place v k rest l s w n x r ts p h room parts ok st =
      let mine = locals_front ns c n.local (into_locals v.into) (body_locals k) room in
      let d = callback ns c.slots s v n.local n.block in
      let s2 = with_taken v.into n.local s in
      let m = taken v.into (begun (grouped n)) in
      let y = next_spot 1 x.spot in
      let c0 : Chunk = record (ends w s true [] (ChooseLast n.group)) { groups = (d ∷ []) ∷ [] } in
      let alone = first ns c p n.block x.spot w.hand w.hand c0 (low s2 w m k) st in
      let behind = here_taken ns c v.into l w s n m x y r ts refl mine (ap suc h.group) h in (
        d,
        s2,
        caught_by ns c n.local w.depth s r ts p n.block x.spot w.hand c0 h.above h.hand same refl alone,
        here_ends_scope ns c l w s n x r ts h,
        group_stands p n.block n.group x.spot (d ∷ []) w s h.group alone,
        branch_takes ns c few_slots few_locals s n.local n.block v h.above mine ok.0,
        rest l s2 w m (site_at y x) r ts (entry n.block) behind
            (locals_back ns c n.local m.local (into_locals v.into) (body_locals k) (omega (arith, into_locals_count v.into)) room) parts.1
            (subst (λ xs. InPlace c.slots l (is_there x.caught) xs k) (sym (names_taken ns c v.into n.local s)) ok.1)
            (second ns c p n.block n.block x.spot y w.hand w.hand c0 (low s2 w m k) (omega arith) refl st),
      )

  -- branch by branch
  pub BranchesCarried : Branches → Type 0
  BranchesCarried bs =
      (l : Bool) (c0 : Chunk) (s : Scope) (v : Around) (n : Next) (x : Site) (r : List Item) (ts : List Target) (p : Pos) (first_block : ℕ) (u : Spot) → Here ns c l v (Mark ∷ s) n x (Leave ∷ r) ts
      → LocalsAt ns c n.local (branch_locals bs) → HaveParts bs → AllInPlace c.slots l (is_there x.caught) (names s) bs → n.block ≡ first_block + length c0.more → moved c0.groups u ≡ x.spot
      → Stands ns c p first_block u v.hand (branches ns c.slots c0 s v n bs) → BranchesAt ns c s r ts x bs (callbacks ns c.slots s v.looped.tried n bs)

  branches_front : (bs : Branches) (c0 : Chunk) (s : Scope) (v : Around) (n : Next) (p : Pos) (first_block : ℕ) (u : Spot) → Stands ns c p first_block u v.hand (branches ns c.slots c0 s v n bs)
      → Stands ns c p first_block u v.hand c0
  branches_front NoBranches c0 s v n p first_block u st = st
  branches_front (MoreBranches place w b bs) c0 s v n p first_block u st =
      let m = taken w.into (begun n) in
      let d = low (with_taken w.into n.local (Mark ∷ s)) v m b in
      first ns c p first_block u v.hand v.hand c0 d (branches_front bs (joined v.hand c0 d) s v (past v.looped.tried b m) p first_block u st)

  pub no_branches_stand : BranchesCarried NoBranches
  unfolding BranchesCarried
  no_branches_stand l c0 s v n x r ts p first_block u h room parts ok e g st = tt

  pub more_branches_stand : (place : Place) (w : WaitTree) (b : Body) (bs : Branches) → Carried ns c b → BranchesCarried bs → BranchesCarried (MoreBranches place w b bs)
  unfolding BranchesCarried
  more_branches_stand place w b bs body others l c0 s v n x r ts p first_block u h room parts ok e g st =
      let t = v.looped.tried in
      let m = taken w.into (begun n) in
      let j = past t b m in
      let s2 = with_taken w.into n.local (Mark ∷ s) in
      let y = text.past b x.spot in
      let d = low s2 v m b in
      let blocks = lowered_more ns c.slots s2 v m b in
      let sum = length-append c0.more (blocks_of v.hand d) in
      let room12 = locals_front ns c n.local (into_locals w.into ++ body_locals b) (branch_locals bs) room in
      let mine = locals_front ns c n.local (into_locals w.into) (body_locals b) room12 in
      let n1 = into_locals_count w.into in
      let n12 = length-append (into_locals w.into) (body_locals b) in
      let front = branches_front bs (joined v.hand c0 d) s v j p first_block u st in
      let inside = here_taken ns c w.into l v (Mark ∷ s) n m x x.spot (Leave ∷ r) ts refl mine h.group h in
      let group = groups_after ns c s2 v m b x.spot n.group parts.1 h.group in
      let further = here_past ns c l v (Mark ∷ s) n j x y (Leave ∷ r) ts (omega arith) group h in (
        s2,
        inner_takes ns c few_slots few_locals s n.local n.block w h.above mine ok.0,
        body l s2 v m x (Leave ∷ r) ts (entry n.block) inside (locals_back ns c n.local m.local (into_locals w.into) (body_locals b) (omega (arith, n1)) room12) parts.1
            (subst (λ xs. InPlace c.slots l (is_there x.caught) xs b) (sym (names_taken ns c w.into n.local (Mark ∷ s))) ok.1)
            (second ns c p first_block n.block u x.spot v.hand v.hand c0 d e g front),
        others l (joined v.hand c0 d) s v j (site_at y x) r ts p first_block u further
            (locals_back ns c n.local j.local (into_locals w.into ++ body_locals b) (branch_locals bs) (omega (arith, n1, n12, locals_count b)) room) parts.2 ok.2
            (omega (arith, e, sum, blocks)) (both c0.groups d.groups u x.spot y g (lowered_moved ns c.slots s2 v m b x.spot parts.1)) st,
      )

  pub choose_stands : (place : Place) (bs : Branches) (k : Body) → BranchesCarried bs → Carried ns c k → Carried ns c (ChooseStmt place bs k)
  unfolding BranchesCarried
  choose_stands place bs k each rest l s w n x r ts p h room parts ok st =
      let t = w.looped.tried in
      let g = grouped n in
      let j = past_branches t bs g in
      let v = inner w (Scoped (GotoLast j.block)) in
      let cs = callbacks ns c.slots s t g bs in
      let y = next_spot (branch_count bs) x.spot in
      let z = text.past_branches bs y in
      let c0 : Chunk = record (ends w s true [] (ChooseLast n.group)) { groups = cs ∷ [] } in
      let whole = branches ns c.slots c0 s v g bs in
      let count : moved c0.groups x.spot ≡ y = ap (λ a. next_spot a x.spot) (callbacks_count ns c.slots s t g bs) in
      let moves = choose_moved ns c.slots c0 s v g bs x.spot (ap (λ ks. ks ∷ []) (branch_kinds ns c.slots s t g bs)) parts.1 in
      let blocks = branches_more ns c.slots c0 s v g bs in
      let group : j.group ≡ z.group =
      after_groups n.group (length whole.groups) (branch_group_count bs) x.spot.group z.group h.group (branches_groups ns c.slots c0 s v g bs)
      (sym (moved_group whole.groups x.spot) ∙ ap (λ a. a.group) moves) in
      let front = first ns c p n.block x.spot w.hand w.hand whole (low s w (begun j) k) st in
      let alone = branches_front bs c0 s v g p n.block x.spot front in
      let behind = site_at z x in
      let inside = here_inner ns c l w s n g x behind y k j.block r ts (omega arith) (ap suc h.group) h in (
        cs,
        entry j.block,
        caught_by ns c n.local w.depth s r ts p n.block x.spot w.hand c0 h.above h.hand same refl alone,
        group_stands p n.block n.group x.spot cs w s h.group alone,
        each l c0 s v g (site_at y x) (Do behind k ∷ r) (At (entry j.block) ∷ ts) p n.block x.spot inside (locals_front ns c n.local (branch_locals bs) (body_locals k) room) parts.1 ok.0
            (omega arith) count front,
        rest_at ns c k rest l s w n j x z x.spot r ts p n.block w.hand whole h (omega arith) group
            (locals_back ns c n.local j.local (branch_locals bs) (body_locals k) (omega (arith, branch_locals_count bs)) room) parts.2 ok.1
            (omega (arith, blocks)) moves st,
      )
    where
      after_groups : (n a b x z : ℕ) → n ≡ x → a ≡ 1 + b → x + a ≡ z → suc n + b ≡ z
      after_groups n a b x z e f h = omega (arith, e, f, h)
