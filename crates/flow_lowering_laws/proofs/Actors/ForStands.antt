-- A `for` stands where lowering put it.
use Rattle.std.proofs.Common.{◌≡◌, ℕ, suc, ◌+◌, ◌^◌, ◌<◌, Bool, true, false, List, ◌∷◌, ◌++◌, length, refl, ap, sym, subst, ◌∙◌, arith, length-append}
use Rattle.std.specs.declared.option.Option.{Option}
use Rattle.flow_base.specs.declared.place.Place.{Place}
use Rattle.flow_tree.specs.Tree.{ExprTree}
use Rattle.flow_tree.specs.Body.{Body, ForStmt}
use Rattle.flow_ast.specs.Typing.{is_there}
use Rattle.flow_class.specs.Classes.{GotoLast, PassLast, ClassTree}
use Rattle.flow_class.specs.Code.{Last}
use Rattle.flow_class.specs.Scopes.{Scope, Mark, scope, Above}
use Rattle.flow_layout.specs.Locals.{body_locals}
use Rattle.flow_meaning.specs.Requests.{Spot}
use Rattle.flow_meaning.specs.Evaluating.{Names}
use Rattle.flow_meaning.specs.Items.{Site, Loop, Item, Do, Leave, Round, Made, site_at}
use Rattle.flow_meaning.specs.Text as text
use Rattle.flow_meaning.specs.Carries.{BodyAt}
use Rattle.flow_meaning.specs.Carry.{Pos, entry, Target, At, Again, at, here, jump, GoesOn}
use Rattle.flow_split.specs.Around.{Part, Around, inner, pass}
use Rattle.flow_split.specs.Counts.{test_blocks, locals_in, blocks_in, Next, begun, past}
use Rattle.flow_split.specs.Lowered.{joined, dropping, later, tested, test_before, lowered}
use Rattle.flow_split.proofs.Lengths.{lowered_more}
use Rattle.flow_lowering_laws.specs.Actors.InPlace.{InPlace}
use Rattle.flow_lowering_laws.proofs.Actors.Standing.{moved, LocalsAt, locals_front, locals_back, Stands, first, second}
use Rattle.flow_lowering_laws.proofs.Actors.Groups.{test_groups}
use Rattle.flow_lowering_laws.proofs.Actors.Spots.{both, lowered_moved, step_still}
use Rattle.flow_lowering_laws.proofs.Actors.Around.{InClass, Here, here_past, above_more, goes_before}
use Rattle.flow_lowering_laws.proofs.Actors.Simples.{PartAt, init_at}
use Rattle.flow_lowering_laws.proofs.Actors.Further.{locals_count, Carried, groups_after, blocks_joined}
use Rattle.flow_lowering_laws.proofs.Actors.Fors.{step_is_init, step_later, step_locals, Started, starts, hand_part, hand_behind, hand_made, Dropped, dropped, test_block, test_local, test_group, test_more, test_first, test_at}

module _ (ns : Names) (c : ClassTree) (few_slots : length c.slots < 2 ^ 64) (few_locals : length c.locals < 2 ^ 64) where
  -- the step, at the end of which the loop goes on
  step_goes_on : (s : Scope) (loop : Loop) (behind : List Item) (h m : ℕ) (ts : List Target)
      → PartAt ns c few_slots few_locals s (Round loop ∷ behind) (Again h ∷ ts) loop.step (entry m) s (PassLast h)
      → (z : Pos) → at ns c z ≡ Last (GotoLast m) → GoesOn ns c s (Made loop ∷ behind) (Again h ∷ ts) z
  step_goes_on s loop behind h m ts step z e = (entry m, step.0, jump m e here, step.1, (step.0, here, step.2))

  -- the body of the loop
  here_for : (l : Bool) (w : Around) (s s2 : Scope) (n g : Next) (x behind : Site) (u : Spot) (loop : Loop) (k : Body) (h m o : ℕ) (q : Pos) (r : List Item) (ts : List Target)
      → Here ns c l w s n x r ts → Above g.local s2 → InClass ns c s2
      → g.group ≡ u.group → PartAt ns c few_slots few_locals s2 (Round loop ∷ Leave ∷ Do behind k ∷ r) (Again h ∷ At q ∷ ts) loop.step (entry m) s2 (PassLast h)
      → GoesOn ns c s2 (Leave ∷ Do behind k ∷ r) (At q ∷ ts) (entry o)
      → Here ns c true (pass w 2 (GotoLast m) o) (Mark ∷ s2) (begun g) (site_at u x) (Leave ∷ Made loop ∷ Leave ∷ Do behind k ∷ r) (Again h ∷ At q ∷ ts)
  here_for l w s s2 n g x behind u loop k h m o q r ts i a known e step out =
      let items = Leave ∷ Do behind k ∷ r in
      let again = step_goes_on s2 loop items h m (At q ∷ ts) step in
      record {
        ends = again;
        breaks = λ t. (refl, λ z f. goes_before ns c s2 items (At q ∷ ts) z (entry o) (jump o f here) out);
        continues = λ t. (refl, again);
        hand = hand_made ns c few_slots few_locals w.hand w.depth behind loop k h q r ts i.hand;
        named = i.named;
        above = a;
        known = known;
        group = e;
      }

  pub for_stands : (place : Place) (i : Body) (e : Option ExprTree) (p b k : Body) → Carried ns c b → Carried ns c k → Carried ns c (ForStmt place i e p b k)
  for_stands place i e p b k body rest l s w n x r ts pos here0 room parts ok st =
      let t = w.looped.tried in
      let h = past t i n in
      let g = tested e h in
      let m = past false b (begun g) in
      let o = past t p (begun m) in
      let s1 = Mark ∷ s in
      let s2 = later i n.local s1 in
      let v = inner w (Part (PassLast h.block)) in
      let f = pass w 2 (GotoLast m.block) o.block in
      let u = text.past p (text.past i x.spot) in
      let y = text.past b u in
      let loop : Loop = record { site = site_at u x; condition = e; step = p; inner = b } in
      let behind = site_at y x in
      let c0 = lowered ns c.slots s1 v n i in
      let c1 = test_before ns c.slots v s2 e g.block o.block c0 in
      let c2 = lowered ns c.slots (Mark ∷ s2) f (begun g) b in
      let c3 = lowered ns c.slots s2 v (begun m) p in
      let c4 = lowered ns c.slots s w (begun o) k in
      let ds = scope (later p m.local s2) in
      -- blocks
      let b0 = lowered_more ns c.slots s1 v n i in
      let b1 = test_more ns c few_slots few_locals v s2 e g.block o.block (blocks_in t i) c0 b0 in
      let b2 = lowered_more ns c.slots (Mark ∷ s2) f (begun g) b in
      let b3 = lowered_more ns c.slots s2 v (begun m) p in
      let b12 = blocks_joined ns c w.hand c1 c2 (blocks_in t i + test_blocks e) (blocks_in false b) b1 b2 in
      let b123 = blocks_joined ns c w.hand (joined w.hand c1 c2) c3 (blocks_in t i + test_blocks e + suc (blocks_in false b)) (blocks_in t p) b12 b3 in
      let tb = test_block ns c few_slots few_locals e h in
      -- waits
      let still : text.past p (text.past i x.spot) ≡ text.past i x.spot = step_still p (text.past i x.spot) parts.0.1 in
      let m1 : moved c1.groups x.spot ≡ u =
      ap (λ gs. moved gs x.spot) (test_groups ns c.slots v s2 e g.block o.block c0) ∙ lowered_moved ns c.slots s1 v n i x.spot parts.1 ∙ sym still in
      let m2 : moved c2.groups u ≡ y = lowered_moved ns c.slots (Mark ∷ s2) f (begun g) b u parts.3 in
      let m3 : moved c3.groups y ≡ y = lowered_moved ns c.slots s2 v (begun m) p y parts.2 ∙ step_still p y parts.0.1 in
      let g1 : g.group ≡ u.group =
      test_group ns c few_slots few_locals e h ∙ groups_after ns c s1 v n i x.spot n.group parts.1 here0.group ∙ ap (λ z. z.group) (sym still) in
      let g2 : m.group ≡ y.group = groups_after ns c (Mark ∷ s2) f (begun g) b u g.group parts.3 g1 in
      let g3 : o.group ≡ y.group = groups_after ns c s2 v (begun m) p y m.group parts.2 g2 ∙ ap (λ z. z.group) (step_still p y parts.0.1) in
      -- locals
      let r123 = locals_front ns c n.local (body_locals i ++ body_locals p ++ body_locals b) (body_locals k) room in
      let r12 = locals_front ns c n.local (body_locals i ++ body_locals p) (body_locals b) r123 in
      let r1 = locals_front ns c n.local (body_locals i) (body_locals p) r12 in
      let none : locals_in p ≡ 0 = sym (locals_count p) ∙ ap length (step_locals p parts.0.1) in
      let tl = test_local ns c few_slots few_locals e h in
      let n12 = length-append (body_locals i) (body_locals p) in
      let n123 = length-append (body_locals i ++ body_locals p) (body_locals b) in
      let r2 : LocalsAt ns c g.local (body_locals b) = locals_back ns c n.local g.local (body_locals i ++ body_locals p) (body_locals b)
      (omega (arith, tl, n12, locals_count i, locals_count p, none)) r123 in
      let r4 : LocalsAt ns c o.local (body_locals k) =
      locals_back ns c n.local o.local (body_locals i ++ body_locals p ++ body_locals b) (body_locals k) (omega (arith, tl, n12, n123, locals_count i, locals_count p, locals_count b)) room in
      let r3 : LocalsAt ns c m.local (body_locals p) = subst (λ ls. LocalsAt ns c m.local ls) (sym (step_locals p parts.0.1)) tt in
      -- the locals in force behind the init
      let open_ : Started ns c few_slots few_locals i n.local s1 = starts ns c few_slots few_locals i n.local s1 parts.0.0 here0.above here0.known r1 in
      let a2 : Above g.local s2 = subst (λ j. Above j s2) (sym tl) open_.above in
      let a3 : Above m.local s2 = above_more ns c g.local m.local s2 (omega arith) a2 in
      -- what stands
      let st123 = first ns c pos n.block x.spot w.hand w.hand (joined w.hand (joined w.hand c1 c2) c3) (dropping ds c4) st in
      let st12 = first ns c pos n.block x.spot w.hand w.hand (joined w.hand c1 c2) c3 st123 in
      let st1 = first ns c pos n.block x.spot w.hand w.hand c1 c2 st12 in
      let st2 = second ns c pos n.block g.block x.spot u w.hand w.hand c1 c2 (omega (arith, b1, tb)) m1 st12 in
      let st3 = second ns c pos n.block m.block x.spot y w.hand w.hand (joined w.hand c1 c2) c3 (omega (arith, b12, tb)) (both c1.groups c2.groups x.spot u y m1 m2) st123 in
      let st4 = second ns c pos n.block o.block x.spot y w.hand w.hand (joined w.hand (joined w.hand c1 c2) c3) (dropping ds c4) (omega (arith, b123, tb))
      (both (c1.groups ++ c2.groups) c3.groups x.spot y y (both c1.groups c2.groups x.spot u y m1 m2) m3) st in
      let last : Dropped ns c few_slots few_locals (scope s2) (entry o.block) (suc o.block) y w.hand c4 =
      dropped ns c few_slots few_locals (scope s2) (entry o.block) (suc o.block) y w.hand c4
      (subst (λ z. Stands ns c (entry o.block) (suc o.block) y w.hand (dropping (scope z) c4)) (step_later p m.local s2 parts.0.1) st4) in
      let q = last.to in
      let items = Leave ∷ Do behind k ∷ r in
      let inner_hand = hand_part ns c few_slots few_locals w.hand w.depth behind loop k h.block q r ts here0.hand in
      let begins = init_at ns c few_slots few_locals i v (PassLast h.block) s1 n x.spot (Round loop ∷ items) (Again h.block ∷ At q ∷ ts) pos l
      (is_there x.caught) parts.0.0 parts.1 refl here0.above inner_hand r1 ok.0
      (test_first ns c few_slots few_locals v s2 e g.block o.block n.block pos x.spot c0 st1) in
      let steps = init_at ns c few_slots few_locals p v (PassLast h.block) s2 (begun m) y (Round loop ∷ items) (Again h.block ∷ At q ∷ ts) (entry m.block) l (is_there x.caught)
      (step_is_init p parts.0.1) parts.2 refl a3 inner_hand r3
      (subst (λ xs. InPlace c.slots l (is_there x.caught) xs p) (sym open_.named) ok.1) st3 in
      let step = subst (λ z. PartAt ns c few_slots few_locals s2 (Round loop ∷ items) (Again h.block ∷ At q ∷ ts) p (entry m.block) z (PassLast h.block)) (step_later p m.local s2 parts.0.1) steps in
      let inside = here_for l w s s2 n g x behind u loop k h.block m.block o.block q r ts here0 a2 open_.known g1 step last.drops in
      let inside_at : Pos → Type 0 = BodyAt ns c (Mark ∷ s2) (Leave ∷ Made loop ∷ items) (Again h.block ∷ At q ∷ ts) (site_at u x) b in
      let main = body true (Mark ∷ s2) f (begun g) (site_at u x) (Leave ∷ Made loop ∷ items) (Again h.block ∷ At q ∷ ts) (entry g.block) inside r2 parts.3
      (subst (λ xs. InPlace c.slots true (is_there x.caught) xs b) (sym open_.named) ok.2) st2 in (
        h.block,
        begins.0,
        q,
        s2,
        begins.1,
        (begins.0, here {p = begins.0}, begins.2),
        test_at ns c few_slots few_locals v s2 e h o.block n.block (n.local + locals_in i) pos x.spot c0 items (At q ∷ ts) inside_at open_.above
            (hand_behind ns c few_slots few_locals w.hand w.depth behind k q r ts here0.hand) (omega (arith, b0)) st1 main last.drops,
        rest l s w (begun o) behind r ts q (here_past ns c l w s n (begun o) x y r ts (omega (arith, tl)) g3 here0) r4 parts.4 ok.3 last.stands,
      )
