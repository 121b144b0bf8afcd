-- The blocks of each kind of statement name what there is, lead on, and catch further on.
use Rattle.std.proofs.Common.{◌≡◌, ℕ, suc, ◌+◌, ◌^◌, ◌<◌, ◌≤◌, Bool, true, false, List, [], ◌∷◌, ◌++◌, length, refl, sym, arith, length-append}
use Rattle.std.specs.declared.option.Option.{Option}
use Rattle.std.specs.declared.option.Option.TheVariants.{Some, None}
use Rattle.std.specs.Option.{option_map}
use Rattle.flow_base.specs.declared.place.Place.{Place}
use Rattle.flow_tree.specs.declared.ty.Ident.{Ident}
use Rattle.flow_tree.specs.Tree.{ErrorType, ExprTree}
use Rattle.flow_tree.specs.Body.{Body, End, BlockStmt, IfStmt, IfElseStmt, WhileStmt, LoopStmt, BreakStmt, ContinueStmt, ReturnStmt, ThrowStmt, TryStmt}
use Rattle.flow_class.specs.Classes.{LastTree, GotoLast, PassLast, TestLast, ReturnLast, ThrowLast, ClassTree}
use Rattle.flow_class.specs.Scopes.{Scope, Mark, Var, scope, over}
use Rattle.flow_layout.specs.Locals.{body_locals}
use Rattle.flow_meaning.specs.Evaluating.{Names}
use Rattle.flow_split.specs.Around.{Exit, Text, Scoped, Part, Hand, Around, inner, pass, guarded, handling}
use Rattle.flow_split.specs.Counts.{Next, begun, past, behind, exit_blocks, blocks_in, locals_in, groups_in}
use Rattle.flow_split.specs.Lowered as lowering
use Rattle.flow_split.specs.Lowered.{joined, ends, finished, exits, exited, thrown, lowered, drop_of, text_end}
use Rattle.flow_lowering_laws.specs.Actors.Parts.{HasParts}
use Rattle.flow_lowering_laws.specs.Actors.InPlace.{InPlace}
use Rattle.flow_lowering_laws.proofs.Actors.Standing.{LocalsAt, locals_front, locals_back}
use Rattle.flow_lowering_laws.proofs.Actors.Further.{locals_count, locals_after, exited_local, exited_group, try_room}
use Rattle.flow_validity_laws.proofs.Naming.{Falling, falling_more, scope_falls, falling_knows, expr_there, thrown_there, drop_named, Knows}
use Rattle.flow_validity_laws.proofs.Chunks.{good_up_to, HandGood, Leads, LastGood, joined_good, ends_good, goto_good, pass_good, leads_good, test_good, exits_good}
use Rattle.flow_validity_laws.proofs.Rooms.{GoodHere, ExitGood, Fits, fits_scoped, fits_handling, fits_guarded, fits_loop, Room, Kept, rest_kept, dead_kept}
use Rattle.flow_valid.specs.Named.{has_last}

module _ (ns : Names) (c : ClassTree) (few_slots : length c.slots < 2 ^ 64) (few_locals : length c.locals < 2 ^ 64) where
  abbrev FitsHere : Bool → ℕ → Around → Type 0
  FitsHere l e w = Fits ns c few_slots few_locals l e w

  abbrev RoomHere : Bool → Next → ℕ → Body → Type 0
  RoomHere t n e b = Room ns c few_slots few_locals t n e b

  abbrev Keeps : Body → Type 0
  Keeps b = Kept ns c few_slots few_locals b

  -- the locals in force are places of the class
  pub knows : (l : ℕ) (s : Scope) → l ≤ length c.locals → Falling l s → Knows c few_slots few_locals s
  knows l s le f = falling_knows c few_slots few_locals l s le f

  pub whole_falling : (l : ℕ) (s : Scope) → l ≤ length c.locals → Falling l s → Falling (length c.locals) s
  whole_falling l s le f = falling_more l (length c.locals) s le f

  end_good : (m : ℕ) (close : Option Place) → LastGood c few_slots few_locals m (text_end close)
  end_good m None = record { named = refl; on = refl }
  end_good m (Some close) = record { named = refl; on = refl }

  -- the end of a body
  finished_good : (m n e : ℕ) (w : Around) (s : Scope) (x : Exit) → Falling (length c.locals) s → m < e → ExitGood ns c few_slots few_locals e x
      → GoodHere ns c few_slots few_locals m n n (finished w s x)
  finished_good m n e w s (Text close) f lt h = ends_good c few_slots few_locals m n w s false [] (text_end close) f refl (end_good m close)
  finished_good m n e w s (Scoped l) f lt h =
      ends_good c few_slots few_locals m n w s false (drop_of (scope s)) l f (drop_named c few_slots few_locals (length c.locals) (scope s) (omega arith) (scope_falls (length c.locals) s f))
      (leads_good c few_slots few_locals e m l lt h)
  finished_good m n e w s (Part l) f lt h = ends_good c few_slots few_locals m n w s false [] l f refl (leads_good c few_slots few_locals e m l lt h)

  pub end_kept : Keeps End
  end_kept l t xs s w n m e fits room fall lt parts ok =
      good_up_to c few_slots few_locals m n.block n.block (n.block + 0) (finished w s w.exit) (omega arith)
      (finished_good m n.block e w s w.exit (whole_falling n.local s (omega (arith, room.locals)) fall) (omega (arith, room.blocks)) fits.exit)

  pub block_kept : (at : Place) (b k : Body) → Keeps b → Keeps k → Keeps (BlockStmt at b k)
  block_kept at b k body rest l t xs s w n m e fits room fall lt parts ok =
      let d = w.looped.tried in
      let j = past d b n in
      let v = inner w (Scoped (GotoLast j.block)) in
      let c1 = lowered ns c.slots (Mark ∷ s) v n b in
      let g1 = body l t xs (Mark ∷ s) v n m j.block (fits_scoped ns c few_slots few_locals l e j.block j.block w (omega (arith, room.blocks)) (omega arith)
      (omega (arith, room.blocks, fits.within)) fits)
      (record {
        blocks = omega arith;
        locals = omega (arith, room.locals);
        groups = omega (arith, room.groups);
        first = room.first;
        types = locals_front ns c n.local (body_locals b) (body_locals k) room.types;
      })
      fall lt parts.1 ok.0 in
      let g = rest_kept ns c few_slots few_locals k rest l t xs s w n j m e c1 fits
      (record {
        blocks = omega (arith, room.blocks);
        locals = omega (arith, room.locals);
        groups = omega (arith, room.groups);
        first = omega (arith, room.first);
        types = locals_after ns c b n.local (body_locals k) room.types;
      })
      fall (omega arith) parts.2 ok.1 g1 in
      good_up_to c few_slots few_locals m n.block (suc j.block + blocks_in d k) (n.block + (blocks_in d b + suc (blocks_in d k))) (joined w.hand c1 (lowered ns c.slots s w (begun j) k))
      (omega arith) g

  -- a test in the block at hand
  pub test_ends : (m n y z : ℕ) (l : ℕ) (w : Around) (s : Scope) (e : ExprTree) → l ≤ length c.locals → Falling l s → m < y → m < z → y < length c.blocks → z < length c.blocks
      → GoodHere ns c few_slots few_locals m n n (ends w s true [] (TestLast (over c.slots s e) y z))
  test_ends m n y z l w s e le f ly lz by bz =
      ends_good c few_slots few_locals m n w s true [] (TestLast (over c.slots s e) y z) (whole_falling l s le f) refl
      (test_good c few_slots few_locals m y z (over c.slots s e) ly lz by bz (expr_there c few_slots few_locals s (knows l s le f) e))

  pub if_kept : (at : Place) (q : ExprTree) (b k : Body) → Keeps b → Keeps k → Keeps (IfStmt at q b k)
  if_kept at q b k body rest l t xs s w n m e fits room fall lt parts ok =
      let d = w.looped.tried in
      let j = past d b (begun n) in
      let v = inner w (Scoped (GotoLast j.block)) in
      let c0 = ends w s true [] (TestLast (over c.slots s q) n.block j.block) in
      let c1 = lowered ns c.slots (Mark ∷ s) v (begun n) b in
      let g0 = test_ends m n.block n.block j.block n.local w s q (omega (arith, room.locals)) fall lt (omega (arith, lt)) (omega (arith, room.blocks, fits.within))
      (omega (arith, room.blocks, fits.within)) in
      let g1 = body l t xs (Mark ∷ s) v (begun n) n.block j.block (fits_scoped ns c few_slots few_locals l e j.block j.block w (omega (arith, room.blocks)) (omega arith)
      (omega (arith, room.blocks, fits.within)) fits)
      (record {
        blocks = omega arith;
        locals = omega (arith, room.locals);
        groups = omega (arith, room.groups);
        first = room.first;
        types = locals_front ns c n.local (body_locals b) (body_locals k) room.types;
      })
      fall (omega arith) parts.1 ok.0 in
      let g01 = joined_good c few_slots few_locals e m n.block n.block j.block w.hand c0 c1 fits.hand (omega (arith, room.blocks)) g0 g1 in
      let g = rest_kept ns c few_slots few_locals k rest l t xs s w n j m e (joined w.hand c0 c1) fits
      (record {
        blocks = omega (arith, room.blocks);
        locals = omega (arith, room.locals);
        groups = omega (arith, room.groups);
        first = omega (arith, room.first);
        types = locals_after ns c b n.local (body_locals k) room.types;
      })
      fall (omega arith) parts.2 ok.1 g01 in
      good_up_to c few_slots few_locals m n.block (suc j.block + blocks_in d k) (n.block + (suc (blocks_in d b) + suc (blocks_in d k)))
      (joined w.hand (joined w.hand c0 c1) (lowered ns c.slots s w (begun j) k)) (omega arith) g

  pub if_else_kept : (at : Place) (q : ExprTree) (b o k : Body) → Keeps b → Keeps o → Keeps k → Keeps (IfElseStmt at q b o k)
  if_else_kept at q b o k body other rest l t xs s w n m e fits room fall lt parts ok =
      let d = w.looped.tried in
      let i = past d b (begun n) in
      let j = past d o (begun i) in
      let v = inner w (Scoped (GotoLast j.block)) in
      let c0 = ends w s true [] (TestLast (over c.slots s q) n.block i.block) in
      let c1 = lowered ns c.slots (Mark ∷ s) v (begun n) b in
      let c2 = lowered ns c.slots (Mark ∷ s) v (begun i) o in
      let g0 = test_ends m n.block n.block i.block n.local w s q (omega (arith, room.locals)) fall lt (omega (arith, lt)) (omega (arith, room.blocks, fits.within))
      (omega (arith, room.blocks, fits.within)) in
      let types12 = locals_front ns c n.local (body_locals b ++ body_locals o) (body_locals k) room.types in
      let sizes : length (body_locals b ++ body_locals o) ≡ locals_in b + locals_in o = omega (arith, length-append (body_locals b) (body_locals o), locals_count b, locals_count o) in
      let g1 = body l t xs (Mark ∷ s) v (begun n) n.block i.block (fits_scoped ns c few_slots few_locals l e i.block j.block w (omega (arith, room.blocks)) (omega arith)
      (omega (arith, room.blocks, fits.within)) fits)
      (record {
        blocks = omega arith;
        locals = omega (arith, room.locals);
        groups = omega (arith, room.groups);
        first = room.first;
        types = locals_front ns c n.local (body_locals b) (body_locals o) types12;
      })
      fall (omega arith) parts.1 ok.0 in
      let g2 = other l t xs (Mark ∷ s) v (begun i) i.block j.block
      (fits_scoped ns c few_slots few_locals l e j.block j.block w (omega (arith, room.blocks)) (omega arith) (omega (arith, room.blocks, fits.within)) fits)
      (record {
        blocks = omega arith;
        locals = omega (arith, room.locals);
        groups = omega (arith, room.groups);
        first = omega (arith, room.first);
        types = locals_after ns c b n.local (body_locals o) types12;
      })
      (falling_more n.local i.local s (omega arith) fall) (omega arith) parts.2 ok.1 in
      let g01 = joined_good c few_slots few_locals e m n.block n.block i.block w.hand c0 c1 fits.hand (omega (arith, room.blocks)) g0 g1 in
      let g012 = joined_good c few_slots few_locals e m n.block i.block j.block w.hand (joined w.hand c0 c1) c2 fits.hand (omega (arith, room.blocks)) g01 g2 in
      let g = rest_kept ns c few_slots few_locals k rest l t xs s w n j m e (joined w.hand (joined w.hand c0 c1) c2) fits
      (record {
        blocks = omega (arith, room.blocks);
        locals = omega (arith, room.locals);
        groups = omega (arith, room.groups);
        first = omega (arith, room.first);
        types = locals_back ns c n.local j.local (body_locals b ++ body_locals o) (body_locals k) (omega (arith, sizes)) room.types;
      })
      fall (omega arith) parts.3 ok.2 g012 in
      good_up_to c few_slots few_locals m n.block (suc j.block + blocks_in d k) (n.block + (suc (blocks_in d b) + suc (blocks_in d o) + suc (blocks_in d k)))
      (joined w.hand (joined w.hand (joined w.hand c0 c1) c2) (lowered ns c.slots s w (begun j) k)) (omega arith) g

  -- a pass into a block behind the one at hand
  pass_ends : (m n : ℕ) (w : Around) (s : Scope) (l : ℕ) → l ≤ length c.locals → Falling l s → n < length c.blocks → GoodHere ns c few_slots few_locals m n n (ends w s false [] (PassLast n))
  pass_ends m n w s l le f lt = ends_good c few_slots few_locals m n w s false [] (PassLast n) (whole_falling l s le f) refl (pass_good c few_slots few_locals m n lt)

  pub while_kept : (at : Place) (q : ExprTree) (b k : Body) → Keeps b → Keeps k → Keeps (WhileStmt at q b k)
  while_kept at q b k body rest l t xs s w n m e fits room fall lt parts ok =
      let h = begun n in
      let j = past false b (begun h) in
      let v = pass w 1 (PassLast n.block) j.block in
      let c0 = ends w s false [] (PassLast n.block) in
      let c1 = ends w s true [] (TestLast (over c.slots s q) h.block j.block) in
      let c2 = lowered ns c.slots (Mark ∷ s) v (begun h) b in
      let g0 = pass_ends m n.block w s n.local (omega (arith, room.locals)) fall (omega (arith, room.blocks, fits.within)) in
      let g1 = test_ends n.block (suc n.block) h.block j.block n.local w s q (omega (arith, room.locals)) fall (omega arith) (omega arith) (omega (arith, room.blocks, fits.within))
      (omega (arith, room.blocks, fits.within)) in
      let g2 = body true t xs (Mark ∷ s) v (begun h) h.block j.block
      (fits_loop ns c few_slots few_locals l e j.block 1 w (PassLast n.block) j.block (omega (arith, room.blocks)) (omega arith) (omega (arith, room.blocks, fits.within))
      (omega (arith, room.blocks, fits.within)) fits)
      (record {
        blocks = omega arith;
        locals = omega (arith, room.locals);
        groups = omega (arith, room.groups);
        first = room.first;
        types = locals_front ns c n.local (body_locals b) (body_locals k) room.types;
      })
      fall (omega arith) parts.1 ok.0 in
      let g01 = joined_good c few_slots few_locals e m n.block n.block h.block w.hand c0 c1 fits.hand (omega (arith, room.blocks)) g0 g1 in
      let g012 = joined_good c few_slots few_locals e m n.block h.block j.block w.hand (joined w.hand c0 c1) c2 fits.hand (omega (arith, room.blocks)) g01 g2 in
      let g = rest_kept ns c few_slots few_locals k rest l t xs s w n j m e (joined w.hand (joined w.hand c0 c1) c2) fits
      (record {
        blocks = omega (arith, room.blocks);
        locals = omega (arith, room.locals);
        groups = omega (arith, room.groups);
        first = omega (arith, room.first);
        types = locals_after ns c b n.local (body_locals k) room.types;
      })
      fall (omega arith) parts.2 ok.1 g012 in
      good_up_to c few_slots few_locals m n.block (suc j.block + blocks_in w.looped.tried k) (n.block + (1 + suc (blocks_in false b) + suc (blocks_in w.looped.tried k)))
      (joined w.hand (joined w.hand (joined w.hand c0 c1) c2) (lowered ns c.slots s w (begun j) k)) (omega arith) g

  pub loop_kept : (at : Place) (b k : Body) → Keeps b → Keeps k → Keeps (LoopStmt at b k)
  loop_kept at b k body rest l t xs s w n m e fits room fall lt parts ok =
      let j = past false b (begun n) in
      let v = pass w 1 (PassLast n.block) j.block in
      let c0 = ends w s false [] (PassLast n.block) in
      let c1 = lowered ns c.slots (Mark ∷ s) v (begun n) b in
      let g0 = pass_ends m n.block w s n.local (omega (arith, room.locals)) fall (omega (arith, room.blocks, fits.within)) in
      let g1 = body true t xs (Mark ∷ s) v (begun n) n.block j.block
      (fits_loop ns c few_slots few_locals l e j.block 1 w (PassLast n.block) j.block (omega (arith, room.blocks)) (omega arith) (omega (arith, room.blocks, fits.within))
      (omega (arith, room.blocks, fits.within)) fits)
      (record {
        blocks = omega arith;
        locals = omega (arith, room.locals);
        groups = omega (arith, room.groups);
        first = room.first;
        types = locals_front ns c n.local (body_locals b) (body_locals k) room.types;
      })
      fall (omega arith) parts.1 ok.0 in
      let g01 = joined_good c few_slots few_locals e m n.block n.block j.block w.hand c0 c1 fits.hand (omega (arith, room.blocks)) g0 g1 in
      let g = rest_kept ns c few_slots few_locals k rest l t xs s w n j m e (joined w.hand c0 c1) fits
      (record {
        blocks = omega (arith, room.blocks);
        locals = omega (arith, room.locals);
        groups = omega (arith, room.groups);
        first = omega (arith, room.first);
        types = locals_after ns c b n.local (body_locals k) room.types;
      })
      fall (omega arith) parts.2 ok.1 g01 in
      good_up_to c few_slots few_locals m n.block (suc j.block + blocks_in w.looped.tried k) (n.block + (suc (blocks_in false b) + suc (blocks_in w.looped.tried k)))
      (joined w.hand (joined w.hand c0 c1) (lowered ns c.slots s w (begun j) k)) (omega arith) g

  exited_block : (t : Bool) (n : Next) → (exited t n).block ≡ n.block + exit_blocks t
  exited_block true n = omega arith
  exited_block false n = omega arith

  -- a break or a continue
  exit_kept : (k : Body) → Keeps k → (l t : Bool) (xs : List (List ℕ)) (s : Scope) (w : Around) (n : Next) (m e : ℕ) (last : LastTree) → Leads c few_slots few_locals e last → FitsHere l e w
      → n.block + (exit_blocks w.looped.tried + behind k (blocks_in w.looped.tried k)) ≤ e → n.local + locals_in k ≤ length c.locals → n.group + groups_in k ≤ suc (length c.groups) → 0 < n.group
      → LocalsAt ns c n.local (body_locals k)
      → Falling n.local s → m < n.block → HasParts k → InPlace c.slots l t xs k
      → GoodHere ns c few_slots few_locals m n.block (n.block + (exit_blocks w.looped.tried + behind k (blocks_in w.looped.tried k)))
      (lowering.before_rest w.hand (exits w.looped.tried w s n last) k (lowered ns c.slots s w (begun (exited w.looped.tried n)) k))
  exit_kept k rest l t xs s w n m e last leads fits blocks locals groups first types fall lt parts ok =
      let d = w.looped.tried in
      let j = exited d n in
      let x = blocks_in d k in
      let a = exits d w s n last in
      let eb = exited_block d n in
      let g = exits_good c few_slots few_locals e m d w s n last (whole_falling n.local s (omega (arith, locals)) fall) lt (omega (arith, blocks)) (omega (arith, blocks, fits.within)) leads in
      let g' = good_up_to c few_slots few_locals m n.block (n.block + exit_blocks d) j.block a (sym eb) g in
      let r = dead_kept ns c few_slots few_locals k rest l t xs s w n j m e a fits (omega (arith, eb, blocks)) locals groups first types fall (exited_local d n) (exited_group d n) parts ok g' in
      good_up_to c few_slots few_locals m n.block (j.block + behind k x) (n.block + (exit_blocks d + behind k x)) (lowering.before_rest w.hand a k (lowered ns c.slots s w (begun j) k))
      (omega (arith, eb)) r

  pub break_kept : (at : Place) (k : Body) → Keeps k → Keeps (BreakStmt at k)
  break_kept at k rest l t xs s w n m e fits room fall lt parts ok =
      exit_kept k rest l t xs s w n m e (GotoLast w.looped.out) (fits.out ok.0) fits room.blocks room.locals room.groups room.first room.types fall lt parts.1 ok.1

  pub continue_kept : (at : Place) (k : Body) → Keeps k → Keeps (ContinueStmt at k)
  continue_kept at k rest l t xs s w n m e fits room fall lt parts ok =
      exit_kept k rest l t xs s w n m e w.looped.again (fits.again ok.0) fits room.blocks room.locals room.groups room.first room.types fall lt parts.1 ok.1

  -- a return or a throw
  leave_kept : (k : Body) → Keeps k → (l t : Bool) (xs : List (List ℕ)) (s : Scope) (w : Around) (n : Next) (m e : ℕ) (last : LastTree) → LastGood c few_slots few_locals m last → FitsHere l e w
      → n.block + behind k (blocks_in w.looped.tried k) ≤ e → n.local + locals_in k ≤ length c.locals → n.group + groups_in k ≤ suc (length c.groups) → 0 < n.group
      → LocalsAt ns c n.local (body_locals k)
      → Falling n.local s → HasParts k → InPlace c.slots l t xs k
      → GoodHere ns c few_slots few_locals m n.block (n.block + behind k (blocks_in w.looped.tried k)) (lowering.before_rest w.hand (ends w s true [] last) k (lowered ns c.slots s w (begun n) k))
  leave_kept k rest l t xs s w n m e last good fits blocks locals groups first types fall parts ok =
      let a = ends w s true [] last in
      let g = ends_good c few_slots few_locals m n.block w s true [] last (whole_falling n.local s (omega (arith, locals)) fall) refl good in
      dead_kept ns c few_slots few_locals k rest l t xs s w n n m e a fits blocks locals groups first types fall refl refl parts ok g

  result_there : (s : Scope) → Knows c few_slots few_locals s → (q : Option ExprTree) → has_last c (ReturnLast (option_map (over c.slots s) q)) ≡ true
  result_there s k None = refl
  result_there s k (Some e) = expr_there c few_slots few_locals s k e

  pub return_kept : (at : Place) (q : Option ExprTree) (k : Body) → Keeps k → Keeps (ReturnStmt at q k)
  return_kept at q k rest l t xs s w n m e fits room fall lt parts ok =
      leave_kept k rest l t xs s w n m e (ReturnLast (option_map (over c.slots s) q)) (record { named = result_there s (knows n.local s (omega (arith, room.locals)) fall) q; on = refl })
      fits room.blocks room.locals room.groups room.first room.types fall parts.1 ok

  pub throw_kept : (at : Place) (q : Option ExprTree) (k : Body) → Keeps k → Keeps (ThrowStmt at q k)
  throw_kept at q k rest l t xs s w n m e fits room fall lt parts ok =
      leave_kept k rest l t xs s w n m e (ThrowLast (thrown ns c.slots s at q w.caught))
      (record { named = thrown_there c few_slots few_locals s (knows n.local s (omega (arith, room.locals)) fall) ns at q w.caught; on = refl })
      fits room.blocks room.locals room.groups room.first room.types fall parts.1 ok.1

  pub try_kept : (at place : Place) (u : Ident) (b o k : Body) → Keeps b → Keeps o → Keeps k → Keeps (TryStmt at b place u o k)
  try_kept at place u b o k body handler rest l t xs s w n m e fits room fall lt parts ok =
      let d = w.looped.tried in
      let i = past true b (begun n) in
      let g = begun (record i { local = suc i.local }) in
      let j = past d o g in
      let hand : Hand = record { block = i.block; error = i.local } in
      let exit = Scoped (GotoLast j.block) in
      let v = guarded w exit hand in
      let f = handling w exit u.name in
      let s2 = Var u.name i.local ∷ Mark ∷ s in
      let c0 = ends w s false [] (GotoLast n.block) in
      let c1 = lowered ns c.slots (Mark ∷ s) v (begun n) b in
      let c2 = lowered ns c.slots s2 f g o in
      let whole = try_room ns c b o (body_locals k) n.local room.types in
      let types123 = locals_front ns c n.local (body_locals b ++ (ErrorType ∷ []) ++ body_locals o) (body_locals k) whole in
      let types12 = locals_front ns c n.local (body_locals b ++ (ErrorType ∷ [])) (body_locals o) types123 in
      let error = locals_after ns c b n.local (ErrorType ∷ []) types12 in
      let n12 : length (body_locals b ++ (ErrorType ∷ [])) ≡ suc (locals_in b) = omega (arith, length-append (body_locals b) (ErrorType ∷ []), locals_count b) in
      let n123 : length (body_locals b ++ (ErrorType ∷ []) ++ body_locals o) ≡ suc (locals_in b) + locals_in o =
      omega (arith, length-append (body_locals b ++ (ErrorType ∷ [])) (body_locals o), n12, locals_count o) in
      let known : HandGood c few_slots few_locals i.block (Some hand) = (omega arith, omega (arith, room.blocks, fits.within), error.0) in
      let g0 = ends_good c few_slots few_locals m n.block w s false [] (GotoLast n.block) (whole_falling n.local s (omega (arith, room.locals)) fall) refl
      (goto_good c few_slots few_locals m n.block lt (omega (arith, room.blocks, fits.within))) in
      let g1 = body l t xs (Mark ∷ s) v (begun n) n.block i.block
      (fits_guarded ns c few_slots few_locals l e i.block j.block w hand (omega (arith, room.blocks)) (omega arith) (omega (arith, room.blocks, fits.within)) known fits)
      (record {
        blocks = omega arith;
        locals = omega (arith, room.locals);
        groups = omega (arith, room.groups);
        first = room.first;
        types = locals_front ns c n.local (body_locals b) (ErrorType ∷ []) types12;
      })
      fall (omega arith) parts.1 ok.0 in
      let g2 = handler l true (u.name ∷ xs) s2 f g i.block j.block
      (fits_handling ns c few_slots few_locals l e j.block j.block w u.name (omega (arith, room.blocks)) (omega arith) (omega (arith, room.blocks, fits.within)) fits)
      (record {
        blocks = omega arith;
        locals = omega (arith, room.locals);
        groups = omega (arith, room.groups);
        first = omega (arith, room.first);
        types = locals_back ns c n.local g.local (body_locals b ++ (ErrorType ∷ [])) (body_locals o) (omega (arith, n12)) types123;
      })
      (omega arith, falling_more n.local i.local s (omega arith) fall) (omega arith) parts.2 ok.1 in
      let g01 = joined_good c few_slots few_locals i.block m n.block n.block i.block (Some hand) c0 c1 known (omega arith) g0 g1 in
      let g012 = joined_good c few_slots few_locals e m n.block i.block j.block w.hand (joined (Some hand) c0 c1) c2 fits.hand (omega (arith, room.blocks)) g01 g2 in
      let r = rest_kept ns c few_slots few_locals k rest l t xs s w n j m e (joined w.hand (joined (Some hand) c0 c1) c2) fits
      (record {
        blocks = omega (arith, room.blocks);
        locals = omega (arith, room.locals);
        groups = omega (arith, room.groups);
        first = omega (arith, room.first);
        types = locals_back ns c n.local j.local (body_locals b ++ (ErrorType ∷ []) ++ body_locals o) (body_locals k) (omega (arith, n123)) whole;
      })
      fall (omega arith) parts.3 ok.2 g012 in
      good_up_to c few_slots few_locals m n.block (suc j.block + blocks_in d k) (n.block + (suc (blocks_in true b) + suc (blocks_in d o) + suc (blocks_in d k)))
      (joined w.hand (joined w.hand (joined (Some hand) c0 c1) c2) (lowered ns c.slots s w (begun j) k)) (omega arith) r
