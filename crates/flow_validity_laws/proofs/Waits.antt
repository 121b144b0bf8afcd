-- The blocks of a `for`, of waits, and of simple statements name what there is, lead on, and catch further on.
use Rattle.std.proofs.Common.{◌≡◌, ℕ, zero, suc, ◌+◌, ◌^◌, ◌<◌, ◌≤◌, Bool, true, false, ◌&&◌, List, [], ◌∷◌, ◌++◌, length, refl, ap, sym, subst, ◌∙◌, arith, length-append}
use Rattle.std.specs.List.{list_all}
use Rattle.std.specs.declared.option.Option.{Option}
use Rattle.std.specs.declared.option.Option.TheVariants.{None, Some}
use Rattle.flow_base.specs.declared.place.Place.{Place}
use Rattle.flow_tree.specs.declared.ty.Ident.{Ident}
use Rattle.flow_tree.specs.Tree.{ExprTree, ExprTrees}
use Rattle.flow_tree.specs.Body.{IntoTree, WaitTree, ChangeTree, Body, ForStmt, ChooseStmt, DeclareStmt, AssignStmt, ModifyStmt, CallStmt, WaitStmt, Branches, NoBranches, MoreBranches}
use Rattle.flow_ast.specs.Typing.{is_there}
use Rattle.flow_class.specs.Classes.{ActInstr, GotoLast, PassLast, TestLast, ChooseLast, CallbackTree, ClassTree}
use Rattle.flow_class.specs.Code.{group_at}
use Rattle.flow_class.specs.Scopes.{Scope, Mark, scope, over, over_all, path_over, act_over}
use Rattle.flow_valid.specs.Named.{listed, expr_places, has_block, has_operand}
use Rattle.flow_layout.specs.Locals.{body_locals, branch_locals, declared_locals, into_locals}
use Rattle.flow_meaning.specs.Evaluating.{Names}
use Rattle.flow_meaning.specs.Items.{change}
use Rattle.flow_split.specs.Around.{Scoped, Part, Around, inner, pass}
use Rattle.flow_split.specs.Counts.{Next, begun, taken, grouped, past, past_branches, test_blocks, blocks_in, branch_blocks, local_count, into_count, locals_in, branch_local_count, branch_group_count}
use Rattle.flow_split.specs.Lowered.{Chunk, joined, ends, dropping, with_into, with_taken, later, tested, assigned, changed, taken_in, declares, callback, callbacks, test_before, lowered, branches}
use Rattle.flow_lowering_laws.specs.Actors.Parts.{HaveParts}
use Rattle.flow_lowering_laws.specs.Actors.InPlace.{naming, naming_any, started, AllInPlace}
use Rattle.flow_lowering_laws.proofs.Actors.Standing.{LocalsAt, locals_front, locals_back}
use Rattle.flow_lowering_laws.proofs.Actors.Further.{locals_count, branch_locals_count, into_locals_count}
use Rattle.flow_lowering_laws.proofs.Actors.Fors.{step_later, step_locals, test_block, test_local, test_group}
use Rattle.flow_validity_laws.proofs.Naming.{both, less_is, inside, Falling, falling_more, Falls, scope_falls, there_both, place_there, expr_there, path_there, one_named, assigned_named, changed_named, declares_named, act_named, taken_place, Knows}
use Rattle.flow_validity_laws.proofs.Chunks.{good_up_to, HandGood, LastGood, joined_good, acting_good, dropping_good, ends_good}
use Rattle.flow_validity_laws.proofs.Rooms.{GoodHere, Fits, fits_inner, fits_scoped, fits_loop, Kept, rest_kept, falling_into, falling_taken, falling_later}
use Rattle.flow_validity_laws.proofs.Statements.{knows, whole_falling, test_ends}

module _ (ns : Names) (c : ClassTree) (few_slots : length c.slots < 2 ^ 64) (few_locals : length c.locals < 2 ^ 64) where
  abbrev Keeps : Body → Type 0
  Keeps b = Kept ns c few_slots few_locals b

  -- the test of a `for`, if it has one
  test_kept : (m e : ℕ) (v : Around) (s : Scope) (n h : Next) (l : ℕ) (q : Option ExprTree) (out : ℕ) (a : Chunk) → HandGood c few_slots few_locals e v.hand → h.block < e → l ≤ length c.locals
      → Falling l s → (tested q h).block < out
      → out < length c.blocks → GoodHere ns c few_slots few_locals m n.block h.block a
      → GoodHere ns c few_slots few_locals m n.block (tested q h).block (test_before ns c.slots v s q (tested q h).block out a)
  test_kept m e v s n h l None out a hand lt le f lo ob g = g
  test_kept m e v s n h l (Some q) out a hand lt le f lo ob g =
      joined_good c few_slots few_locals e m n.block h.block (suc h.block) v.hand a (ends v s true [] (TestLast (over c.slots s q) (suc h.block) out)) hand lt g
      (test_ends ns c few_slots few_locals h.block (suc h.block) (suc h.block) out l v s q le f (omega arith) (omega arith) (omega arith) ob)

  pub for_kept : (at : Place) (i : Body) (q : Option ExprTree) (p b k : Body) → Keeps i → Keeps p → Keeps b → Keeps k → Keeps (ForStmt at i q p b k)
  for_kept at i q p b k init step body rest l t xs s w n m e fits room fall lt parts ok =
      let d = w.looped.tried in
      let h = past d i n in
      let g = tested q h in
      let j = past false b (begun g) in
      let o = past d p (begun j) in
      let s1 = Mark ∷ s in
      let r = later i n.local s1 in
      let v = inner w (Part (PassLast h.block)) in
      let f = pass w 2 (GotoLast j.block) o.block in
      let c0 = lowered ns c.slots s1 v n i in
      let c1 = test_before ns c.slots v r q g.block o.block c0 in
      let c2 = lowered ns c.slots (Mark ∷ r) f (begun g) b in
      let c3 = lowered ns c.slots r v (begun j) p in
      let c4 = lowered ns c.slots s w (begun o) k in
      let ds = scope (later p j.local r) in
      let tb = test_block ns c few_slots few_locals q h in
      let tl = test_local ns c few_slots few_locals q h in
      let tg = test_group ns c few_slots few_locals q h in
      let none : locals_in p ≡ 0 = sym (locals_count p) ∙ ap length (step_locals p parts.0.1) in
      let n12 = length-append (body_locals i) (body_locals p) in
      let n123 = length-append (body_locals i ++ body_locals p) (body_locals b) in
      let t123 = locals_front ns c n.local (body_locals i ++ body_locals p ++ body_locals b) (body_locals k) room.types in
      let t12 = locals_front ns c n.local (body_locals i ++ body_locals p) (body_locals b) t123 in
      let t1 = locals_front ns c n.local (body_locals i) (body_locals p) t12 in
      let t2 : LocalsAt ns c g.local (body_locals b) = locals_back ns c n.local g.local (body_locals i ++ body_locals p) (body_locals b)
      (omega (arith, tl, n12, locals_count i, locals_count p, none)) t123 in
      let t4 : LocalsAt ns c o.local (body_locals k) =
      locals_back ns c n.local o.local (body_locals i ++ body_locals p ++ body_locals b) (body_locals k) (omega (arith, tl, n12, n123, locals_count i, locals_count p, locals_count b)) room.types in
      let t3 : LocalsAt ns c j.local (body_locals p) = subst (λ ls. LocalsAt ns c j.local ls) (sym (step_locals p parts.0.1)) tt in
      let fall_r : Falling (n.local + locals_in i) r = falling_later ns c few_slots few_locals i n.local s1 parts.0.0 fall in
      let fall_g : Falling g.local r = subst (λ z. Falling z r) (sym tl) fall_r in
      let ends_in : o.block < e = omega (arith, room.blocks, tb) in
      let out_in : o.block < length c.blocks = omega (arith, ends_in, fits.within) in
      let g0 = init l t xs s1 v n m h.block (fits_inner ns c few_slots few_locals l e h.block w (Part (PassLast h.block)) (omega (arith, ends_in, tb)) (omega (arith, out_in, tb)) fits)
      (record { blocks = omega arith; locals = omega (arith, room.locals); groups = omega (arith, room.groups); first = room.first; types = t1 })
      fall lt parts.1 ok.0 in
      let g1 = test_kept m e v r n h g.local q o.block c0 fits.hand (omega (arith, ends_in, tb)) (omega (arith, room.locals, tl)) fall_g (omega arith) out_in g0 in
      let g2 = body true t (started i xs) (Mark ∷ r) f (begun g) g.block j.block
      (fits_loop ns c few_slots few_locals l e j.block 2 w (GotoLast j.block) o.block (omega (arith, ends_in)) (omega arith) out_in (omega arith, omega (arith, out_in)) fits)
      (record { blocks = omega arith; locals = omega (arith, room.locals, tl); groups = omega (arith, room.groups, tg); first = omega (arith, room.first, tg); types = t2 })
      fall_g (omega arith) parts.3 ok.2 in
      let g3 = step l t (started i xs) r v (begun j) j.block o.block
      (fits_inner ns c few_slots few_locals l e o.block w (Part (PassLast h.block)) (omega (arith, ends_in)) (omega (arith, out_in, tb)) fits)
      (record { blocks = omega arith; locals = omega (arith, room.locals, tl); groups = omega (arith, room.groups, tg); first = omega (arith, room.first, tg); types = t3 })
      (falling_more g.local j.local r (omega arith) fall_g) (omega arith) parts.2 ok.1 in
      let g4 = rest l t xs s w (begun o) o.block e fits
      (record { blocks = omega (arith, room.blocks, tb); locals = omega (arith, room.locals, tl); groups = omega (arith, room.groups, tg); first = omega (arith, room.first, tg); types = t4 })
      (falling_more n.local o.local s (omega (arith, tl)) fall) (omega arith) parts.4 ok.3 in
      let dropped : Falls (length c.locals) ds =
      subst (λ z. Falls (length c.locals) (scope z)) (sym (step_later p j.local r parts.0.1))
      (scope_falls (length c.locals) r (whole_falling ns c few_slots few_locals g.local r (omega (arith, room.locals, tl)) fall_g)) in
      let g4' = dropping_good c few_slots few_locals o.block (suc o.block) (suc o.block + blocks_in d k) ds c4 dropped g4 in
      let g12 = joined_good c few_slots few_locals e m n.block g.block j.block w.hand c1 c2 fits.hand (omega (arith, ends_in)) g1 g2 in
      let g123 = joined_good c few_slots few_locals e m n.block j.block o.block w.hand (joined w.hand c1 c2) c3 fits.hand (omega (arith, ends_in)) g12 g3 in
      let g1234 = joined_good c few_slots few_locals e m n.block o.block (suc o.block + blocks_in d k) w.hand (joined w.hand (joined w.hand c1 c2) c3) (dropping ds c4) fits.hand ends_in g123 g4' in
      good_up_to c few_slots few_locals m n.block (suc o.block + blocks_in d k) (n.block + (blocks_in d i + test_blocks q + suc (blocks_in false b) + suc (blocks_in d p) + suc (blocks_in d k)))
      (joined w.hand (joined w.hand (joined w.hand c1 c2) c3) (dropping ds c4)) (omega (arith, tb)) g1234

  -- simple statements
  pub declare_kept : (at : Place) (i : IntoTree) (q : Option ExprTree) (k : Body) → Keeps k → Keeps (DeclareStmt at i q k)
  declare_kept at i q k rest l t xs s w n m e fits room fall lt parts ok =
      let z = taken (Some i) n in
      let more : n.local + local_count i ≤ length c.locals = omega (arith, room.locals) in
      let n1 = into_locals_count (Some i) in
      acting_good c few_slots few_locals m n.block (n.block + blocks_in w.looped.tried k) (declares ns c.slots s n.local i q) (lowered ns c.slots (with_into i n.local s) w z k)
      (declares_named c few_slots few_locals s (knows ns c few_slots few_locals n.local s (omega (arith, room.locals)) fall) ns n.local i q more)
      (rest l t (naming i xs) (with_into i n.local s) w z m e fits
      (record {
        blocks = room.blocks;
        locals = omega (arith, room.locals);
        groups = room.groups;
        first = room.first;
        types = locals_back ns c n.local z.local (declared_locals i) (body_locals k) (omega (arith, n1)) room.types;
      })
      (falling_into ns c few_slots few_locals i n.local s fall) lt parts.1 ok.1)

  pub assign_kept : (at : Place) (ys : List Ident) (q : ExprTree) (k : Body) → Keeps k → Keeps (AssignStmt at ys q k)
  assign_kept at ys q k rest l t xs s w n m e fits room fall lt parts ok =
      let know = knows ns c few_slots few_locals n.local s (omega (arith, room.locals)) fall in
      let i = assigned ns c.slots s (path_over c.slots s ys) q in
      acting_good c few_slots few_locals m n.block (n.block + blocks_in w.looped.tried k) (i ∷ []) (lowered ns c.slots s w n k)
      (one_named c few_slots few_locals s know i (assigned_named c few_slots few_locals s know ns (path_over c.slots s ys) q (path_there c few_slots few_locals s know ys)))
      (rest l t xs s w n m e fits (record { blocks = room.blocks; locals = room.locals; groups = room.groups; first = room.first; types = room.types }) fall lt parts.1 ok)

  pub modify_kept : (at : Place) (ys : List Ident) (d : ChangeTree) (k : Body) → Keeps k → Keeps (ModifyStmt at ys d k)
  modify_kept at ys d k rest l t xs s w n m e fits room fall lt parts ok =
      let know = knows ns c few_slots few_locals n.local s (omega (arith, room.locals)) fall in
      acting_good c few_slots few_locals m n.block (n.block + blocks_in w.looped.tried k) (changed ns c.slots s ys (change ys d)) (lowered ns c.slots s w n k)
      (changed_named c few_slots few_locals s know ns ys (change ys d))
      (rest l t xs s w n m e fits (record { blocks = room.blocks; locals = room.locals; groups = room.groups; first = room.first; types = room.types }) fall lt parts.1 ok)

  pub call_kept : (at : Place) (ys : List Ident) (es : ExprTrees) (k : Body) → Keeps k → Keeps (CallStmt at ys es k)
  call_kept at ys es k rest l t xs s w n m e fits room fall lt parts ok =
      let know = knows ns c few_slots few_locals n.local s (omega (arith, room.locals)) fall in
      let i = ActInstr (act_over c.slots s ys) (over_all c.slots s es) in
      acting_good c few_slots few_locals m n.block (n.block + blocks_in w.looped.tried k) (i ∷ []) (lowered ns c.slots s w n k)
      (one_named c few_slots few_locals s know i (act_named c few_slots few_locals s know ys es))
      (rest l t xs s w n m e fits (record { blocks = room.blocks; locals = room.locals; groups = room.groups; first = room.first; types = room.types }) fall lt parts.1 ok)

  -- waits
  chosen : (g : ℕ) → 0 < g → g ≤ length c.groups → is_there (group_at c.groups g) ≡ true
  chosen zero lt le = absurd (omega arith)
  chosen (suc g) lt le = inside c.groups g (omega arith)

  choose_good : (m g : ℕ) → 0 < g → g ≤ length c.groups → LastGood c few_slots few_locals m (ChooseLast g)
  choose_good m g lt le = record { named = both (is_there (group_at c.groups g) && true) true (both (is_there (group_at c.groups g)) true (chosen g lt le) refl) refl; on = refl }

  choose_ends : (m n : ℕ) (g l : ℕ) (w : Around) (s : Scope) (ks : List CallbackTree) → l ≤ length c.locals → Falling l s → 0 < g → g ≤ length c.groups → list_all (has_operand c) ks ≡ true
      → GoodHere ns c few_slots few_locals m n n (record (ends w s true [] (ChooseLast g)) { groups = ks ∷ [] })
  choose_ends m n g l w s ks le f lt lg h =
      let a = ends_good c few_slots few_locals m n w s true [] (ChooseLast g) (whole_falling ns c few_slots few_locals l s le f) refl (choose_good m g lt lg) in
      record { body = a.body; last = a.last; on = a.on; held = a.held; more = a.more; size = a.size; groups = both (list_all (has_operand c) ks) true h refl }

  callback_named : (s : Scope) (w : WaitTree) (l b : ℕ) → Knows c few_slots few_locals s → l + into_count w.into ≤ length c.locals → b < length c.blocks
      → has_operand c (callback ns c.slots s w l b) ≡ true
  callback_named s w l b know le lt =
      both (has_block c b) _ (less_is b (length c.blocks) lt)
      (there_both c few_slots few_locals (expr_places (over c.slots s w.operand)) (listed (taken_in ns c.slots w.into l s)) (expr_there c few_slots few_locals s know w.operand)
      (place_there c few_slots few_locals (taken_in ns c.slots w.into l s) (taken_place c few_slots few_locals s know ns w.into l le)))

  pub wait_kept : (at : Place) (u : WaitTree) (k : Body) → Keeps k → Keeps (WaitStmt at u k)
  wait_kept at u k rest l t xs s w n m e fits room fall lt parts ok =
      let d = w.looped.tried in
      let z = taken u.into (begun (grouped n)) in
      let know = knows ns c few_slots few_locals n.local s (omega (arith, room.locals)) fall in
      let cb = callback ns c.slots s u n.local n.block in
      let c0 : Chunk = record (ends w s true [] (ChooseLast n.group)) { groups = (cb ∷ []) ∷ [] } in
      let c1 = lowered ns c.slots (with_taken u.into n.local s) w z k in
      let g0 = choose_ends m n.block n.group n.local w s (cb ∷ []) (omega (arith, room.locals)) fall room.first (omega (arith, room.groups))
      (both (has_operand c cb) true (callback_named s u n.local n.block know (omega (arith, room.locals)) (omega (arith, room.blocks, fits.within))) refl) in
      let n1 = into_locals_count u.into in
      let g1 = rest l t (naming_any u.into xs) (with_taken u.into n.local s) w z n.block e fits
      (record {
        blocks = omega (arith, room.blocks);
        locals = omega (arith, room.locals);
        groups = omega (arith, room.groups);
        first = omega arith;
        types = locals_back ns c n.local z.local (into_locals u.into) (body_locals k) (omega (arith, n1)) room.types;
      })
      (falling_taken ns c few_slots few_locals u.into n.local s fall) (omega arith) parts.1 ok.1 in
      good_up_to c few_slots few_locals m n.block (suc n.block + blocks_in d k) (n.block + suc (blocks_in d k)) (joined w.hand c0 c1) (omega arith)
      (joined_good c few_slots few_locals e m n.block n.block (suc n.block + blocks_in d k) w.hand c0 c1 fits.hand (omega (arith, room.blocks)) g0 g1)

  -- the branches of a choose
  callbacks_named : (s : Scope) (t : Bool) (n : Next) (bs : Branches) → Knows c few_slots few_locals s → n.local + branch_local_count bs ≤ length c.locals
      → n.block + branch_blocks t bs ≤ length c.blocks
      → list_all (has_operand c) (callbacks ns c.slots s t n bs) ≡ true
  callbacks_named s t n NoBranches know le lb = refl
  callbacks_named s t n (MoreBranches at w b bs) know le lb =
      both (has_operand c (callback ns c.slots s w n.local n.block)) _ (callback_named s w n.local n.block know (omega (arith, le)) (omega (arith, lb)))
      (callbacks_named s t (past t b (taken w.into (begun n))) bs know (omega (arith, le)) (omega (arith, lb)))

  abbrev pub BranchesKept : Branches → Type 0
  BranchesKept bs =
      (l t : Bool) (xs : List (List ℕ)) (s : Scope) (v : Around) (n : Next) (m first e : ℕ) (a : Chunk) → Fits ns c few_slots few_locals l e v → n.block + branch_blocks v.looped.tried bs ≤ e
      → n.local + branch_local_count bs ≤ length c.locals
      → n.group + branch_group_count bs ≤ suc (length c.groups) → 0 < n.group → LocalsAt ns c n.local (branch_locals bs) → Falling n.local s → HaveParts bs → AllInPlace c.slots l t xs bs
      → GoodHere ns c few_slots few_locals m first n.block a
      → GoodHere ns c few_slots few_locals m first (n.block + branch_blocks v.looped.tried bs) (branches ns c.slots a s v n bs)

  pub no_branches_kept : BranchesKept NoBranches
  no_branches_kept l t xs s v n m first e a fits blocks locals groups some types fall parts ok g = good_up_to c few_slots few_locals m first n.block (n.block + 0) a (omega arith) g

  pub more_branches_kept : (at : Place) (w : WaitTree) (b : Body) (bs : Branches) → Keeps b → BranchesKept bs → BranchesKept (MoreBranches at w b bs)
  more_branches_kept at w b bs body others l t xs s v n m first e a fits blocks locals groups some types fall parts ok g =
      let d = v.looped.tried in
      let z = taken w.into (begun n) in
      let j = past d b z in
      let s2 = with_taken w.into n.local (Mark ∷ s) in
      let ch = lowered ns c.slots s2 v z b in
      let types12 = locals_front ns c n.local (into_locals w.into ++ body_locals b) (branch_locals bs) types in
      let n1 = into_locals_count w.into in
      let n12 = length-append (into_locals w.into) (body_locals b) in
      let g1 = body l t (naming_any w.into xs) s2 v z n.block e fits
      (record {
        blocks = omega (arith, blocks);
        locals = omega (arith, locals);
        groups = omega (arith, groups);
        first = some;
        types = locals_back ns c n.local z.local (into_locals w.into) (body_locals b) (omega (arith, n1)) types12;
      })
      (falling_taken ns c few_slots few_locals w.into n.local (Mark ∷ s) fall) (omega arith) parts.1 ok.1 in
      let g01 = joined_good c few_slots few_locals e m first n.block j.block v.hand a ch fits.hand (omega (arith, blocks)) g g1 in
      let r = others l t xs s v j m first e (joined v.hand a ch) fits (omega (arith, blocks)) (omega (arith, locals)) (omega (arith, groups)) (omega (arith, some))
      (locals_back ns c n.local j.local (into_locals w.into ++ body_locals b) (branch_locals bs) (omega (arith, n1, n12, locals_count b)) types)
      (falling_more n.local j.local s (omega arith) fall) parts.2 ok.2 g01 in
      good_up_to c few_slots few_locals m first (j.block + branch_blocks d bs) (n.block + (suc (blocks_in d b) + branch_blocks d bs)) (branches ns c.slots (joined v.hand a ch) s v j bs)
      (omega arith) r

  pub choose_kept : (at : Place) (bs : Branches) (k : Body) → BranchesKept bs → Keeps k → Keeps (ChooseStmt at bs k)
  choose_kept at bs k each rest l t xs s w n m e fits room fall lt parts ok =
      let d = w.looped.tried in
      let g = grouped n in
      let j = past_branches d bs g in
      let v = inner w (Scoped (GotoLast j.block)) in
      let know = knows ns c few_slots few_locals n.local s (omega (arith, room.locals)) fall in
      let ks = callbacks ns c.slots s d g bs in
      let c0 : Chunk = record (ends w s true [] (ChooseLast n.group)) { groups = ks ∷ [] } in
      let c1 = branches ns c.slots c0 s v g bs in
      let g0 = choose_ends m n.block n.group n.local w s ks (omega (arith, room.locals)) fall room.first (omega (arith, room.groups))
      (callbacks_named s d g bs know (omega (arith, room.locals)) (omega (arith, room.blocks, fits.within))) in
      let g1 = each l t xs s v g m n.block j.block c0 (fits_scoped ns c few_slots few_locals l e j.block j.block w (omega (arith, room.blocks)) (omega arith)
      (omega (arith, room.blocks, fits.within)) fits) (omega arith) (omega (arith, room.locals))
      (omega (arith, room.groups)) (omega arith) (locals_front ns c n.local (branch_locals bs) (body_locals k) room.types) fall parts.1 ok.0 g0 in
      let r = rest_kept ns c few_slots few_locals k rest l t xs s w n j m e c1 fits
      (record {
        blocks = omega (arith, room.blocks);
        locals = omega (arith, room.locals);
        groups = omega (arith, room.groups);
        first = omega arith;
        types = locals_back ns c n.local j.local (branch_locals bs) (body_locals k) (omega (arith, branch_locals_count bs)) room.types;
      })
      fall (omega arith) parts.2 ok.1 g1 in
      good_up_to c few_slots few_locals m n.block (suc j.block + blocks_in d k) (n.block + (branch_blocks d bs + suc (blocks_in d k))) (joined w.hand c1 (lowered ns c.slots s w (begun j) k))
      (omega arith) r
