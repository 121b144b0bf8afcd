-- Blocks, tests, loops and tries stand where lowering put them.
use Rattle.std.proofs.Common.{◌≡◌, suc, ◌+◌, ◌^◌, ◌<◌, true, false, [], ◌∷◌, ◌++◌, length, refl, ap, sym, arith, length-append}
use Rattle.std.specs.declared.option.Option.{Option}
use Rattle.std.specs.declared.option.Option.TheVariants.{None, Some}
use Rattle.std.proofs.lemmas.Option.{slice_get_within}
use Rattle.std.specs.Option.{option_map}
use Rattle.flow_base.specs.declared.place.Place.{Place}
use Rattle.flow_tree.specs.declared.ty.Ident.{Ident}
use Rattle.flow_tree.specs.Tree.{ErrorType, ExprTree}
use Rattle.flow_tree.specs.Body.{Body, End, BlockStmt, IfStmt, IfElseStmt, WhileStmt, LoopStmt, BreakStmt, ContinueStmt, ReturnStmt, ThrowStmt, TryStmt}
use Rattle.flow_class.specs.Classes.{GotoLast, PassLast, TestLast, ReturnLast, ThrowLast, ClassTree}
use Rattle.flow_class.specs.Scopes.{Scope, Mark, Var, over}
use Rattle.flow_layout.specs.Locals.{body_locals}
use Rattle.flow_meaning.specs.Evaluating.{Names}
use Rattle.flow_meaning.specs.Items.{Site, Loop, Do, Leave, Made, Handler, site_past, site_at}
use Rattle.flow_meaning.specs.SourceStep.{Breaks, Continues}
use Rattle.flow_meaning.specs.Text as text
use Rattle.flow_meaning.specs.Carry.{entry, At, Again, here, jump}
use Rattle.flow_meaning.specs.Carry as carry
use Rattle.flow_split.specs.Around.{Scoped, Hand, Around, inner, pass, guarded, handling}
use Rattle.flow_split.specs.Counts.{locals_in, blocks_in, Next, begun, past}
use Rattle.flow_split.specs.Lowered.{Chunk, joined, ends, exits, exited, thrown, lowered}
use Rattle.flow_split.proofs.Lengths.{lowered_more}
use Rattle.flow_lowering_laws.proofs.Actors.Standing.{locals_front, locals_back, first, second}
use Rattle.flow_lowering_laws.proofs.Actors.Groups.{exits_still}
use Rattle.flow_lowering_laws.proofs.Actors.Spots.{both, lowered_moved}
use Rattle.flow_lowering_laws.proofs.Actors.Held.{same, caught_by}
use Rattle.flow_lowering_laws.proofs.Actors.Around.{above_more, here_inner, here_handler, here_try, here_loop, exit_at, end_at}
use Rattle.flow_lowering_laws.proofs.Actors.Simples.{throw_at}
use Rattle.flow_lowering_laws.proofs.Actors.Further.{exited_local, exited_group, exited_block, locals_count, Carried, locals_after, groups_after, blocks_joined, rest_at, live_at, dead_at, try_room}

module _ (ns : Names) (c : ClassTree) (few_slots : length c.slots < 2 ^ 64) (few_locals : length c.locals < 2 ^ 64) where
  abbrev low : Scope → Around → Next → Body → Chunk
  low s w n b = lowered ns c.slots s w n b

  pub end_stands : Carried ns c End
  end_stands l s w n x r ts p h room parts ok st = end_at ns c x.is_void w w.exit s r ts p n.block x.spot h.ends st

  pub block_stands : (at : Place) (b k : Body) → Carried ns c b → Carried ns c k → Carried ns c (BlockStmt at b k)
  block_stands at b k body rest l s w n x r ts p h room parts ok st =
      let m = past w.looped.tried b n in
      let v = inner w (Scoped (GotoLast m.block)) in
      let y = text.past b x.spot in
      let c1 = low (Mark ∷ s) v n b in
      let group = groups_after ns c s v n b x.spot n.group parts.1 h.group in
      let inside = here_inner ns c l w s n n x (site_past b x) x.spot k m.block r ts (omega arith) h.group h in (
        entry m.block,
        body l (Mark ∷ s) v n x (Leave ∷ Do (site_past b x) k ∷ r) (At (entry m.block) ∷ ts) p inside (locals_front ns c n.local (body_locals b) (body_locals k) room) parts.1 ok.0
            (first ns c p n.block x.spot w.hand w.hand c1 (low s w (begun m) k) st),
        rest_at ns c k rest l s w n m x y x.spot r ts p n.block w.hand c1 h (omega arith) group (locals_after ns c b n.local (body_locals k) room) parts.2 ok.1
            (ap (λ j. n.block + j) (sym (lowered_more ns c.slots (Mark ∷ s) v n b))) (lowered_moved ns c.slots (Mark ∷ s) v n b x.spot parts.1) st,
      )

  pub if_stands : (at : Place) (e : ExprTree) (b k : Body) → Carried ns c b → Carried ns c k → Carried ns c (IfStmt at e b k)
  if_stands at e b k body rest l s w n x r ts p h room parts ok st =
      let m = past w.looped.tried b (begun n) in
      let v = inner w (Scoped (GotoLast m.block)) in
      let y = text.past b x.spot in
      let c0 = ends w s true [] (TestLast (over c.slots s e) n.block m.block) in
      let c1 = low (Mark ∷ s) v (begun n) b in
      let blocks = lowered_more ns c.slots (Mark ∷ s) v (begun n) b in
      let group = groups_after ns c s v (begun n) b x.spot n.group parts.1 h.group in
      let inside = here_inner ns c l w s n (begun n) x (site_past b x) x.spot k m.block r ts (omega arith) h.group h in
      let front = first ns c p n.block x.spot w.hand w.hand (joined w.hand c0 c1) (low s w (begun m) k) st in (
        caught_by ns c n.local w.depth s r ts p n.block x.spot w.hand (low s w n (IfStmt at e b k)) h.above h.hand same refl st,
        n.block,
        m.block,
        entry m.block,
        front.code,
        body l (Mark ∷ s) v (begun n) x (Leave ∷ Do (site_past b x) k ∷ r) (At (entry m.block) ∷ ts) (entry n.block) inside
            (locals_front ns c n.local (body_locals b) (body_locals k) room) parts.1 ok.0
            (second ns c p n.block n.block x.spot x.spot w.hand w.hand c0 c1 (omega arith) refl front),
        here,
        rest_at ns c k rest l s w n m x y x.spot r ts p n.block w.hand (joined w.hand c0 c1) h (omega arith) group (locals_after ns c b n.local (body_locals k) room) parts.2 ok.1
            (omega (arith, blocks)) (lowered_moved ns c.slots (Mark ∷ s) v (begun n) b x.spot parts.1) st,
      )

  pub if_else_stands : (at : Place) (e : ExprTree) (b d k : Body) → Carried ns c b → Carried ns c d → Carried ns c k → Carried ns c (IfElseStmt at e b d k)
  if_else_stands at e b d k body other rest l s w n x r ts p h room parts ok st =
      let t = w.looped.tried in
      let m = past t b (begun n) in
      let j = past t d (begun m) in
      let v = inner w (Scoped (GotoLast j.block)) in
      let y = text.past b x.spot in
      let z = text.past d y in
      let c0 = ends w s true [] (TestLast (over c.slots s e) n.block m.block) in
      let c1 = low (Mark ∷ s) v (begun n) b in
      let c2 = low (Mark ∷ s) v (begun m) d in
      let b1 = lowered_more ns c.slots (Mark ∷ s) v (begun n) b in
      let b2 = lowered_more ns c.slots (Mark ∷ s) v (begun m) d in
      let b01 = blocks_joined ns c w.hand c0 c1 0 (blocks_in t b) refl b1 in
      let b012 = blocks_joined ns c w.hand (joined w.hand c0 c1) c2 (0 + suc (blocks_in t b)) (blocks_in t d) b01 b2 in
      let g1 = groups_after ns c s v (begun n) b x.spot n.group parts.1 h.group in
      let g2 = groups_after ns c s v (begun m) d y m.group parts.2 g1 in
      let m1 = lowered_moved ns c.slots (Mark ∷ s) v (begun n) b x.spot parts.1 in
      let m2 = lowered_moved ns c.slots (Mark ∷ s) v (begun m) d y parts.2 in
      let behind = site_at z x in
      let inside = here_inner ns c l w s n (begun n) x behind x.spot k j.block r ts (omega arith) h.group h in
      let apart = here_inner ns c l w s n (begun m) x behind y k j.block r ts (omega arith) g1 h in
      let room12 = locals_front ns c n.local (body_locals b ++ body_locals d) (body_locals k) room in
      let front = first ns c p n.block x.spot w.hand w.hand (joined w.hand (joined w.hand c0 c1) c2) (low s w (begun j) k) st in
      let front1 = first ns c p n.block x.spot w.hand w.hand (joined w.hand c0 c1) c2 front in
      let sizes : length (body_locals b ++ body_locals d) ≡ locals_in b + locals_in d = omega (arith, length-append (body_locals b) (body_locals d), locals_count b, locals_count d) in (
        caught_by ns c n.local w.depth s r ts p n.block x.spot w.hand (low s w n (IfElseStmt at e b d k)) h.above h.hand same refl st,
        n.block,
        m.block,
        entry j.block,
        front.code,
        body l (Mark ∷ s) v (begun n) x (Leave ∷ Do behind k ∷ r) (At (entry j.block) ∷ ts) (entry n.block) inside (locals_front ns c n.local (body_locals b) (body_locals d) room12) parts.1 ok.0
            (second ns c p n.block n.block x.spot x.spot w.hand w.hand c0 c1 (omega arith) refl front1),
        other l (Mark ∷ s) v (begun m) (site_at y x) (Leave ∷ Do behind k ∷ r) (At (entry j.block) ∷ ts) (entry m.block) apart (locals_after ns c b n.local (body_locals d) room12) parts.2 ok.1
            (second ns c p n.block m.block x.spot y w.hand w.hand (joined w.hand c0 c1) c2 (omega (arith, b01)) m1 front),
        rest_at ns c k rest l s w n j x z x.spot r ts p n.block w.hand (joined w.hand (joined w.hand c0 c1) c2) h (omega arith) g2
            (locals_back ns c n.local j.local (body_locals b ++ body_locals d) (body_locals k) (omega (arith, sizes)) room) parts.3 ok.2
            (omega (arith, b012)) (both c1.groups c2.groups x.spot y z m1 m2) st,
      )

  pub while_stands : (at : Place) (e : ExprTree) (b k : Body) → Carried ns c b → Carried ns c k → Carried ns c (WhileStmt at e b k)
  while_stands at e b k body rest l s w n x r ts p h room parts ok st =
      let g = begun n in
      let m = past false b (begun g) in
      let v = pass w 1 (PassLast n.block) m.block in
      let y = text.past b x.spot in
      let behind = site_past b x in
      let loop : Loop = record { site = x; condition = Some e; step = End; inner = b } in
      let c0 = ends w s false [] (PassLast n.block) in
      let c1 = ends w s true [] (TestLast (over c.slots s e) g.block m.block) in
      let c2 = low (Mark ∷ s) v (begun g) b in
      let b2 = lowered_more ns c.slots (Mark ∷ s) v (begun g) b in
      let b012 = blocks_joined ns c w.hand (joined w.hand c0 c1) c2 1 (blocks_in false b) refl b2 in
      let group = groups_after ns c s v (begun g) b x.spot n.group parts.1 h.group in
      let m2 = lowered_moved ns c.slots (Mark ∷ s) v (begun g) b x.spot parts.1 in
      let inside = here_loop ns c l w s n (begun g) x behind x.spot loop k n.block m.block r ts refl (omega arith) h.group h in
      let front = first ns c p n.block x.spot w.hand w.hand (joined w.hand (joined w.hand c0 c1) c2) (low s w (begun m) k) st in
      let front1 = first ns c p n.block x.spot w.hand w.hand (joined w.hand c0 c1) c2 front in
      let test = second ns c p n.block n.block x.spot x.spot w.hand w.hand c0 c1 (omega arith) refl front1 in (
        n.block,
        entry m.block,
        (p, here, front.code),
        (
          caught_by ns c n.local w.depth s r ts (entry n.block) (suc n.block) x.spot w.hand c1 h.above h.hand same refl test,
          g.block,
          m.block,
          test.code,
          body true (Mark ∷ s) v (begun g) x (Leave ∷ Made loop ∷ Do behind k ∷ r) (Again n.block ∷ At (entry m.block) ∷ ts) (entry g.block) inside
              (locals_front ns c n.local (body_locals b) (body_locals k) room) parts.1 ok.0
              (second ns c p n.block g.block x.spot x.spot w.hand w.hand (joined w.hand c0 c1) c2 (omega arith) refl front),
          here,
        ),
        rest_at ns c k rest l s w n m x y x.spot r ts p n.block w.hand (joined w.hand (joined w.hand c0 c1) c2) h (omega arith) group (locals_after ns c b n.local (body_locals k) room) parts.2 ok.1
            (omega (arith, b012)) m2 st,
      )

  pub loop_stands : (at : Place) (b k : Body) → Carried ns c b → Carried ns c k → Carried ns c (LoopStmt at b k)
  loop_stands at b k body rest l s w n x r ts p h room parts ok st =
      let m = past false b (begun n) in
      let v = pass w 1 (PassLast n.block) m.block in
      let y = text.past b x.spot in
      let behind = site_past b x in
      let loop : Loop = record { site = x; condition = None; step = End; inner = b } in
      let c0 = ends w s false [] (PassLast n.block) in
      let c1 = low (Mark ∷ s) v (begun n) b in
      let b1 = lowered_more ns c.slots (Mark ∷ s) v (begun n) b in
      let b01 = blocks_joined ns c w.hand c0 c1 0 (blocks_in false b) refl b1 in
      let group = groups_after ns c s v (begun n) b x.spot n.group parts.1 h.group in
      let m1 = lowered_moved ns c.slots (Mark ∷ s) v (begun n) b x.spot parts.1 in
      let inside = here_loop ns c l w s n (begun n) x behind x.spot loop k n.block m.block r ts refl (omega arith) h.group h in
      let front = first ns c p n.block x.spot w.hand w.hand (joined w.hand c0 c1) (low s w (begun m) k) st in (
        n.block,
        entry m.block,
        (p, here, front.code),
        body true (Mark ∷ s) v (begun n) x (Leave ∷ Made loop ∷ Do behind k ∷ r) (Again n.block ∷ At (entry m.block) ∷ ts) (entry n.block) inside
            (locals_front ns c n.local (body_locals b) (body_locals k) room) parts.1 ok.0
            (second ns c p n.block n.block x.spot x.spot w.hand w.hand c0 c1 (omega arith) refl front),
        rest_at ns c k rest l s w n m x y x.spot r ts p n.block w.hand (joined w.hand c0 c1) h (omega arith) group (locals_after ns c b n.local (body_locals k) room) parts.2 ok.1
            (omega (arith, b01)) m1 st,
      )

  pub try_stands : (at place : Place) (u : Ident) (b d k : Body) → Carried ns c b → Carried ns c d → Carried ns c k → Carried ns c (TryStmt at b place u d k)
  try_stands at place u b d k body handler rest l s w n x r ts p h room parts ok st =
      let t = w.looped.tried in
      let m = past true b (begun n) in
      let g = begun (record m { local = suc m.local }) in
      let j = past t d g in
      let hand : Hand = record { block = m.block; error = m.local } in
      let exit = Scoped (GotoLast j.block) in
      let v = guarded w exit hand in
      let f = handling w exit u.name in
      let y = text.past b x.spot in
      let z = text.past d y in
      let there : Site = record x { spot = y; caught = Some u.name } in
      let behind = site_at z x in
      let c0 = ends w s false [] (GotoLast n.block) in
      let c1 = low (Mark ∷ s) v (begun n) b in
      let c2 = low (Var u.name m.local ∷ Mark ∷ s) f g d in
      let b1 = lowered_more ns c.slots (Mark ∷ s) v (begun n) b in
      let b2 = lowered_more ns c.slots (Var u.name m.local ∷ Mark ∷ s) f g d in
      let b01 = blocks_joined ns c (Some hand) c0 c1 0 (blocks_in true b) refl b1 in
      let b012 = blocks_joined ns c w.hand (joined (Some hand) c0 c1) c2 (0 + suc (blocks_in true b)) (blocks_in t d) b01 b2 in
      let g1 = groups_after ns c s v (begun n) b x.spot n.group parts.1 h.group in
      let g2 = groups_after ns c s f g d y m.group parts.2 g1 in
      let m1 = lowered_moved ns c.slots (Mark ∷ s) v (begun n) b x.spot parts.1 in
      let m2 = lowered_moved ns c.slots (Var u.name m.local ∷ Mark ∷ s) f g d y parts.2 in
      let whole = try_room ns c b d (body_locals k) n.local room in
      let room123 = locals_front ns c n.local (body_locals b ++ (ErrorType ∷ []) ++ body_locals d) (body_locals k) whole in
      let room12 = locals_front ns c n.local (body_locals b ++ (ErrorType ∷ [])) (body_locals d) room123 in
      let error = locals_after ns c b n.local (ErrorType ∷ []) room12 in
      let own = slice_get_within c.locals m.local ErrorType error.0 in
      let n12 : length (body_locals b ++ (ErrorType ∷ [])) ≡ suc (locals_in b) = omega (arith, length-append (body_locals b) (ErrorType ∷ []), locals_count b) in
      let n123 : length (body_locals b ++ (ErrorType ∷ []) ++ body_locals d) ≡ suc (locals_in b) + locals_in d =
      omega (arith, length-append (body_locals b ++ (ErrorType ∷ [])) (body_locals d), n12, locals_count d) in
      let inside = here_try ns c l w s n (begun n) x behind there x.spot u.name k d hand j.block r ts (omega arith) h.group h in
      let caught = here_handler ns c l w s n g x behind y u.name k m.local j.block r ts (omega arith) (omega arith) own g1 h in
      let front = first ns c p n.block x.spot w.hand w.hand (joined w.hand (joined (Some hand) c0 c1) c2) (low s w (begun j) k) st in
      let front1 = first ns c p n.block x.spot w.hand w.hand (joined (Some hand) c0 c1) c2 front in (
        entry n.block,
        m.block,
        m.local,
        entry j.block,
        jump n.block front.code here,
        body l (Mark ∷ s) v (begun n) x (Leave ∷ Handler u.name there d ∷ Do behind k ∷ r) (carry.Hand m.block m.local ∷ At (entry j.block) ∷ ts) (entry n.block) inside
            (locals_front ns c n.local (body_locals b) (ErrorType ∷ []) room12) parts.1 ok.0
            (second ns c p n.block n.block x.spot x.spot w.hand (Some hand) c0 c1 (omega arith) refl front1),
        (own, above_more ns c n.local m.local s (omega arith) h.above),
        handler l (Var u.name m.local ∷ Mark ∷ s) f g there (Leave ∷ Do behind k ∷ r) (At (entry j.block) ∷ ts) (entry m.block) caught
            (locals_back ns c n.local g.local (body_locals b ++ (ErrorType ∷ [])) (body_locals d) (omega (arith, n12)) room123) parts.2 ok.1
            (second ns c p n.block m.block x.spot y w.hand w.hand (joined (Some hand) c0 c1) c2 (omega (arith, b01)) m1 front),
        rest_at ns c k rest l s w n j x z x.spot r ts p n.block w.hand (joined w.hand (joined (Some hand) c0 c1) c2) h (omega arith) g2
            (locals_back ns c n.local j.local (body_locals b ++ (ErrorType ∷ []) ++ body_locals d) (body_locals k) (omega (arith, n123)) whole) parts.3 ok.2
            (omega (arith, b012)) (both c1.groups c2.groups x.spot y z m1 m2) st,
      )

  pub break_stands : (at : Place) (k : Body) → Carried ns c k → Carried ns c (BreakStmt at k)
  break_stands at k rest l s w n x r ts p h room parts ok st =
      let t = w.looped.tried in
      let a = exits t w s n (GotoLast w.looped.out) in
      let d = low s w (begun (exited t n)) k in (
        exit_at ns c Breaks t w s n (GotoLast w.looped.out) r ts p x.spot (h.breaks ok.0) (live_at ns c p n.block x.spot w.hand a d k st),
        dead_at ns c k rest l s w n (exited t n) x r ts p a h (exited_local t n) (exited_group t n) room parts.1 ok.1 (exited_block t w s n (GotoLast w.looped.out))
            (exits_still t w s n (GotoLast w.looped.out)) st,
      )

  pub continue_stands : (at : Place) (k : Body) → Carried ns c k → Carried ns c (ContinueStmt at k)
  continue_stands at k rest l s w n x r ts p h room parts ok st =
      let t = w.looped.tried in
      let a = exits t w s n w.looped.again in
      let d = low s w (begun (exited t n)) k in (
        exit_at ns c Continues t w s n w.looped.again r ts p x.spot (h.continues ok.0) (live_at ns c p n.block x.spot w.hand a d k st),
        dead_at ns c k rest l s w n (exited t n) x r ts p a h (exited_local t n) (exited_group t n) room parts.1 ok.1 (exited_block t w s n w.looped.again) (exits_still t w s n w.looped.again) st,
      )

  pub return_stands : (at : Place) (e : Option ExprTree) (k : Body) → Carried ns c k → Carried ns c (ReturnStmt at e k)
  return_stands at e k rest l s w n x r ts p h room parts ok st =
      let a = ends w s true [] (ReturnLast (option_map (over c.slots s) e)) in
      let alone = live_at ns c p n.block x.spot w.hand a (low s w (begun n) k) k st in (
        caught_by ns c n.local w.depth s r ts p n.block x.spot w.hand a h.above h.hand same refl alone,
        alone.code,
        dead_at ns c k rest l s w n n x r ts p a h refl refl room parts.1 ok (omega arith) refl st,
      )

  pub throw_stands : (at : Place) (e : Option ExprTree) (k : Body) → Carried ns c k → Carried ns c (ThrowStmt at e k)
  throw_stands at e k rest l s w n x r ts p h room parts ok st =
      let a = ends w s true [] (ThrowLast (thrown ns c.slots s at e w.caught)) in
      let alone = live_at ns c p n.block x.spot w.hand a (low s w (begun n) k) k st in (
        caught_by ns c n.local w.depth s r ts p n.block x.spot w.hand a h.above h.hand same refl alone,
        throw_at ns c few_slots few_locals s at e w.caught x.caught p h.known h.named ok.0 alone.code,
        dead_at ns c k rest l s w n n x r ts p a h refl refl room parts.1 ok.1 (omega arith) refl st,
      )
