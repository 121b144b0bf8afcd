-- Where a body is reached, its blocks are kept: a `for`.
use Rattle.std.proofs.Common.{◌≡◌, ℕ, suc, ◌+◌, ◌-◌, ◌^◌, ◌<◌, Bool, true, false, List, ◌∷◌, ◌++◌, length, refl, ap, sym, subst, ◌∙◌, arith, length-append, append-nil}
use Rattle.std.specs.declared.option.Option.{Option}
use Rattle.std.specs.declared.option.Option.TheVariants.{None, Some}
use Rattle.flow_base.specs.declared.place.Place.{Place}
use Rattle.flow_tree.specs.Tree.{TypeTree, BoolType, ExprTree}
use Rattle.flow_tree.specs.Body.{Body, End, ForStmt}
use Rattle.flow_ast.specs.Slots.{body_groups}
use Rattle.flow_ast.specs.Typing.{is_there}
use Rattle.flow_class.specs.declared.class.Slotted.{Slotted}
use Rattle.flow_class.specs.Classes.{GotoLast, PassLast, ClassTree}
use Rattle.flow_class.specs.Scopes.{Mark, scope, Above}
use Rattle.flow_layout.specs.Locals.{body_locals}
use Rattle.flow_rules.specs.Judged.{Setting, called, fault, form, wants}
use Rattle.flow_rules.specs.Items.{item, behind as rule_behind, body_refusal}
use Rattle.flow_staterule.specs.declared.scope.Point.{Point}
use Rattle.flow_staterule.specs.declared.ways.Ways.{Ways}
use Rattle.flow_staterule.specs.declared.scope.Use.{Use}
use Rattle.flow_staterule.specs.Ways.{at_once, either, is_reached, onward, plain, sequence, ways}
use Rattle.flow_staterule.specs.Uses.{Variable, behind, maybe_uses, left, beyond, uses}
use Rattle.flow_meaning.specs.Evaluating.{Names, effectful}
use Rattle.flow_split.specs.Around.{Part, Around, inner}
use Rattle.flow_split.specs.Counts.{begun, past, blocks_in, locals_in, groups_in}
use Rattle.flow_split.specs.Lowered.{joined, lowered}
use Rattle.flow_split.proofs.Lengths.{lowered_more, lowered_groups}
use Rattle.flow_valid.specs.Validity.{calls_effect}
use Rattle.flow_lowering_laws.specs.Actors.InPlace.{InPlace}
use Rattle.flow_lowering_laws.proofs.Actors.Standing.{LocalsAt, locals_front, locals_back}
use Rattle.flow_lowering_laws.proofs.Actors.Around.{above_more}
use Rattle.flow_lowering_laws.proofs.Actors.Further.{locals_count}
use Rattle.flow_typing_laws.proofs.Typing.Agreement.{neither_first, neither_second}
use Rattle.flow_validity_laws.proofs.OverPlaces.{over_names}
use Rattle.flow_validity_laws.proofs.Fitting.{at_item, stands_behind, stands_marked}
use Rattle.flow_validity_laws.proofs.Waysides.{Meets, Exits, behind_is, exits_left, exits_right}
use Rattle.flow_validity_laws.proofs.Lines.{filled, AllFresh, fresh_left, fresh_right}
use Rattle.flow_validity_laws.proofs.Entries.{Entry, AllFrom, Entries, Live, join}
use Rattle.flow_validity_laws.proofs.Surroundings.{Aims, behind_once, HandWay, end_onward, sides_first, sides_second, hand_fact}
use Rattle.flow_validity_laws.proofs.Grounds.{here_aim, ground_past, ground_inner, live_to, rest_of, exits_here}
use Rattle.flow_rules.specs.Items.{in_loop}
use Rattle.flow_validity_laws.proofs.Waysides.{reached_left, reached_right, reached_onward, exits_onward}
use Rattle.flow_validity_laws.proofs.Surroundings.{hand_left, hand_right, hand_onward}
use Rattle.flow_validity_laws.proofs.Alive.{thrown_marked, Outer, Lives}
use Rattle.flow_staterule.specs.Ways.{head, round, looped, past as past_of}
use Rattle.flow_split.specs.Around.{pass}
use Rattle.flow_validity_laws.proofs.Waysides.{at_once_meets}
use Rattle.flow_validity_laws.proofs.Surroundings.{onward_once}
use Rattle.flow_validity_laws.proofs.Fitting.{stands_loop}
use Rattle.flow_validity_laws.proofs.Grounds.{ground_pass}
use Rattle.flow_split.specs.Lowered.{tested, test_before, dropping, later}
use Rattle.flow_lowering_laws.proofs.Actors.Fors.{step_is_init, step_later, step_locals, test_block, test_local, test_group}
use Rattle.flow_rules.specs.Items.{started, maybe_test}
use Rattle.flow_rules.proofs.Lesser.{no_first}
use Rattle.flow_staterule.specs.Uses.{declaring}
use Rattle.flow_staterule.specs.Ways.{with_step}
use Rattle.flow_validity_laws.proofs.Choosings.{test_leaf, head_hand, body_hand, head_meets}
use Rattle.flow_split.specs.Counts.{test_blocks}
use Rattle.flow_lowering_laws.proofs.Actors.Fors.{step_later}
use Rattle.flow_validity_laws.proofs.Parting.{part_ends, part_blocks, part_groups, same_point, Into, opens, step_meets, dropping_live, ring}
use Rattle.flow_validity_laws.proofs.Agreeing.{EffectsAgree}

module _ (base : Setting) (ns : Names) (c : ClassTree) (few_slots : length c.slots < 2 ^ 64) (few_locals : length c.locals < 2 ^ 64)
    (agree : EffectsAgree base ns) where
  abbrev Alives : Body → Type 0
  Alives b = Lives base ns c few_slots few_locals agree b

  abbrev Owed : Bool → Around → Aims → Point → Ways → Entries c → Type 0
  Owed l w a p v e = Outer base ns c few_slots few_locals agree l w a p v e

  abbrev RowsHere : Type 0
  RowsHere = List (List ℕ × TypeTree)

  -- what the rounds of a `for` are owed
  record Rounds (w : Around) (a : Aims) (gs : List Slotted) (st out m : ℕ) (vs : List Variable) (hs : List Slotted) (hp : Point) (r step : Ways) (next : Entry) (en : Entries c) : Type 0 where
    pub next_is : en m ≡ next
    pub out_is : is_reached r.breaks ≡ true → en out ≡ Some (filled gs st)
    pub out_exits : Exits st (length gs) hp.stale r.breaks
    pub hand : HandWay c en w.hand a.hand hp (either r.throws (onward (round r) step.throws))

  abbrev for_aims : Aims → List Slotted → List Slotted → (st lost low m : ℕ) → Aims
  for_aims a gs hs st lost low m = record { end = here_aim hs st m; out = record { places = gs; stale = lost; from = low }; again = here_aim hs st m; hand = a.hand }

  body_owed : (w : Around) (a : Aims) (gs : List Slotted) (st out m low n : ℕ) (vs : List Variable) (hs : List Slotted) (hp : Point) (r step : Ways) (next : Entry) (en : Entries c)
      → length vs ≡ length hs
      → (is_reached (round r) ≡ true → next ≡ Some (filled hs (behind (length vs) hp (round r)).stale)) → Rounds w a gs st out m vs hs hp r step next en
      → Owed true (pass w 2 (GotoLast m) out) (for_aims a gs hs (behind (length vs) hp (round r)).stale st low n) hp r en
  body_owed w a gs st out m low n vs hs hp r step next en size is k =
      let sp = (behind (length vs) hp (round r)).stale in
      let ex = exits_here base ns c few_slots few_locals vs hs hp (round r) size in (
        record { reached = λ h. k.next_is ∙ is (reached_left r.ends r.continues h); exits = exits_left sp (length hs) hp.stale r.ends r.continues ex },
        record {
          out = λ z. record { reached = k.out_is; exits = k.out_exits };
          again = λ z. record { reached = λ h. k.next_is ∙ is (reached_right r.ends r.continues h); exits = exits_right sp (length hs) hp.stale r.ends r.continues ex };
          hand = hand_left c en w.hand a.hand hp r.throws (onward (round r) step.throws) k.hand;
        },
      )

  three_less : (k x y z u : ℕ) → u ≡ x + y + z → k - u ≡ k - x - y - z
  three_less k x y z u e = omega (arith, e)

  test_sound : (rows : RowsHere) (q : Option ExprTree) (t : ExprTree) → q ≡ Some t → maybe_test (over_names base c rows) q ≡ None → fault (over_names base c rows) false t ≡ None
  test_sound rows q t e h = let n = over_names base c rows in no_first (fault n false t) (wants (form n t) BoolType) (subst (λ z. maybe_test n z ≡ None) e h)

  test_meets : (st size d : ℕ) (p : Point) (r : Ways) → Exits st size p.stale (looped true r).ends → Meets (behind d p (head r)).stale st size
  test_meets st size d p r e =
      at_once_meets st size (behind d p (head r)).stale
      (exits_onward st size d p (head r) at_once refl (subst (Exits st size p.stale) (sym (onward_once (head r))) (exits_left st size p.stale (head r) (onward (head r) r.breaks) e)))

  pub for_lives : (at : Place) (i : Body) (q : Option ExprTree) (d b x : Body) → Alives b → Alives x → Alives (ForStmt at i q d b x)
  for_lives at i q d b x body rest l t e rows vs gs s w n p a cu k said g th fresh many =
      let tr = w.looped.tried in
      let hd = past tr i n in
      let gg = tested q hd in
      let j = past false b (begun gg) in
      let o = past tr d (begun j) in
      let s1 = Mark ∷ s in
      let sc = later i n.local s1 in
      let f = Part (PassLast hd.block) in
      let v = inner w f in
      let vs2 = declaring vs i in
      let kl = left k i in
      let km = left kl d in
      let kx = km - length (body_groups b) in
      let first = ways k i in
      let r = ways km b in
      let step = ways kl d in
      let big = with_step r step in
      let lp = looped (is_there q) big in
      let u = sequence first lp in
      let vx = ways kx x in
      let st4 = (behind (length vs) p u.ends).stale in
      let is_init = said.parts.0.0 in
      let is_step = said.parts.0.1 in
      let step_init = step_is_init d is_step in
      let once = part_ends k i is_init in
      let same : u.ends ≡ lp.ends = ap (λ z. onward z lp.ends) once in
      let hp = behind (length vs2) p (head big) in
      let sp = behind (length vs2) hp (round r) in
      let point = beyond k vs p (ForStmt at i q d b End) in
      let k2 = left k (ForStmt at i q d b End) in
      let us0 = uses k vs p cu i in
      let ux = uses k2 vs point cu x in
      let all : Point → List Use = λ z. us0 ++ maybe_uses vs2 (behind (length vs2) z (head big)) q ++ uses kl vs2 (behind (length vs2) (behind (length vs2) z (head big)) (round r)) cu d
      ++ uses km vs2 (behind (length vs2) z (head big)) cu b ++ ux in
      let fresh2 : AllFresh (all p) = subst (λ z. AllFresh (all z)) (same_point k vs p i is_init) fresh in
      let us1 = maybe_uses vs2 hp q in
      let us2 = uses kl vs2 sp cu d in
      let us3 = uses km vs2 hp cu b in
      let fresh0123 = fresh_left (us0 ++ us1 ++ us2 ++ us3) ux fresh2 in
      let fresh012 = fresh_left (us0 ++ us1 ++ us2) us3 fresh0123 in
      let fresh01 = fresh_left (us0 ++ us1) us2 fresh012 in
      let e' = started e i in
      let m1 = neither_second (body_refusal e i) _ said.judged in
      let it = item at (maybe_test e'.setting q) in
      let m2 = neither_second it _ m1 in
      let m3 = neither_second (body_refusal e' d) _ m2 in
      let e2 = in_loop (rule_behind e' d) in
      let tl = test_local ns c few_slots few_locals q hd in
      let tb = test_block ns c few_slots few_locals q hd in
      let tg = test_group ns c few_slots few_locals q hd in
      let none : locals_in d ≡ 0 = sym (locals_count d) ∙ ap length (step_locals d is_step) in
      let n12 = length-append (body_locals i) (body_locals d) in
      let n123 = length-append (body_locals i ++ body_locals d) (body_locals b) in
      let g12 = length-append (body_groups i) (body_groups d) in
      let g123 = length-append (body_groups i ++ body_groups d) (body_groups b) in
      let g1234 = length-append (body_groups i ++ body_groups d ++ body_groups b) (body_groups x) in
      let r123 = locals_front ns c n.local (body_locals i ++ body_locals d ++ body_locals b) (body_locals x) said.room in
      let r12 = locals_front ns c n.local (body_locals i ++ body_locals d) (body_locals b) r123 in
      let r1 = locals_front ns c n.local (body_locals i) (body_locals d) r12 in
      let r2 : LocalsAt ns c gg.local (body_locals b) = locals_back ns c n.local gg.local (body_locals i ++ body_locals d) (body_locals b)
      (omega (arith, tl, n12, locals_count i, locals_count d, none)) r123 in
      let r4 : LocalsAt ns c o.local (body_locals x) =
      locals_back ns c n.local o.local (body_locals i ++ body_locals d ++ body_locals b) (body_locals x) (omega (arith, tl, n12, n123, locals_count i, locals_count d, locals_count b)) said.room in
      let r3 : LocalsAt ns c j.local (body_locals d) = subst (λ ls. LocalsAt ns c j.local ls) (sym (step_locals d is_step)) tt in
      let kin = stands_marked base ns c few_slots few_locals agree e rows s w.caught said.stands in
      let av : Aims = record a { end = here_aim gs p.stale n.local } in
      let gv = ground_inner base ns c few_slots few_locals w f s n.local n.local rows vs gs p p a p.stale (omega arith) g.start g in
      let op = opens base ns c few_slots few_locals agree i l t e rows vs gs s1 v n p av cu k is_init kin said.above r1 said.paths.1 said.placed.0 (neither_first (body_refusal e i) _ said.judged) gv
      (thrown_marked base ns c few_slots few_locals agree rows gs s cu w.caught e.caught th)
      (fresh_left us0 us1 fresh01) in
      let rows2 = op.rows in
      let hs = op.places in
      let line2 = op.ground.line in
      let size2 = line2.size in
      let a2 : Above gg.local sc = subst (λ z. Above z sc) (sym tl) op.above in
      let reach_hp = (behind_is (length vs2) p (head big) refl).from ∙ g.start in
      let hand2 = op.ground.hand in
      let outer = Owed l w a p (sequence u vx) in
      let cx = lowered ns c.slots s w (begun o) x in
      let ds = scope (later d j.local sc) in
      let dropped : AllFrom n.local ds = subst (λ z. AllFrom n.local (scope z)) (sym (step_later d j.local sc is_step)) (op.low tt) in
      let less : kx ≡ k2 = sym (ap (λ z. k - length z) (append-nil (body_groups i ++ body_groups d ++ body_groups b))
      ∙ three_less k (length (body_groups i)) (length (body_groups d)) (length (body_groups b)) (length (body_groups i ++ body_groups d ++ body_groups b)) (omega (arith, g12, g123))) in
      let past_e = rule_behind (rule_behind (rule_behind e i) d) b in
      let past_s = stands_behind base ns c few_slots few_locals agree (rule_behind (rule_behind e i) d) b rows s w.caught
      (stands_behind base ns c few_slots few_locals agree (rule_behind e i) d rows s w.caught (stands_behind base ns c few_slots few_locals agree e i rows s w.caught said.stands)) in
      let c0 = lowered ns c.slots s1 v n i in
      let c1 = test_before ns c.slots v sc q gg.block o.block c0 in
      let c2 = lowered ns c.slots (Mark ∷ sc) (pass w 2 (GotoLast j.block) o.block) (begun gg) b in
      let c3 = lowered ns c.slots sc v (begun j) d in
      let c4 = dropping ds cx in
      let rx = rest_of base ns c few_slots few_locals w.hand a.hand (Owed l w a (behind (length vs) p u.ends) vx) outer gs (length vs) p u o.block (suc o.block + blocks_in tr x) o.group
      (o.group + groups_in x) c4
      (ap (λ z. suc o.block + z) (lowered_more ns c.slots s w (begun o) x)) (ap (λ z. o.group + z) (lowered_groups ns c.slots s w (begun o) x))
      (λ h en z. (end_onward c en w.exit a.end (length vs) p u.ends vx.ends h z.0, sides_second c en l w a (length vs) p u vx h z.1))
      (λ h. dropping_live base ns c few_slots few_locals agree w.hand a.hand gs st4 n.local (Owed l w a (behind (length vs) p u.ends) vx) (suc o.block) (suc o.block + blocks_in tr x) o.group
      (o.group + groups_in x) ds cx g.hand.sub g.hand.below g.line.below dropped
      (rest l t past_e rows vs gs s w (begun o) (behind (length vs) p u.ends) a cu kx
      (record {
        stands = past_s;
        above = above_more ns c n.local o.local s (omega (arith, tl)) said.above;
        room = r4;
        parts = said.parts.4;
        paths = said.paths.4;
        placed = said.placed.3;
        judged = neither_second (body_refusal e2 b) _ m3;
      })
      (ground_past base ns c few_slots few_locals w s n.local o.local rows vs gs p (behind (length vs) p u.ends) a (omega (arith, tl)) ((behind_is (length vs) p u.ends h).from ∙ g.start) g) th
      (subst (λ m. AllFresh (uses m vs (behind (length vs) p u.ends) cu x)) (sym less)
      (subst (λ m. AllFresh (uses k2 vs m cu x)) (behind_once (length vs) p u) (fresh_right (us0 ++ us1 ++ us2 ++ us3) ux fresh2))) (omega (arith, many, g12, g123, g1234)))) in
      let sp_aims = for_aims a gs hs sp.stale st4 n.local gg.local in
      let pass_ground = ground_pass base ns c few_slots few_locals w sc (suc w.depth) 2 hd.local gg.local (GotoLast j.block) o.block rows2 vs2 hs hp a.hand sp.stale sp.stale
      (omega (arith, tl)) reach_hp line2 hand2 (omega arith) in
      let live_b = body true t e2 rows2 vs2 hs (Mark ∷ sc) (pass w 2 (GotoLast j.block) o.block) (begun gg) hp sp_aims cu km
      (record {
        stands = stands_marked base ns c few_slots few_locals agree e2 rows2 sc w.caught
            (stands_loop base ns c few_slots few_locals agree (rule_behind e' d) rows2 sc w.caught (stands_behind base ns c few_slots few_locals agree e' d rows2 sc w.caught op.stands));
        above = a2;
        room = r2;
        parts = said.parts.3;
        paths = said.paths.3;
        placed = subst (λ xs. InPlace c.slots true t xs b) (sym op.called_so) said.placed.2;
        judged = neither_first (body_refusal e2 b) _ m3;
      })
      (record {
        line = pass_ground.line;
        start = pass_ground.start;
        end = pass_ground.end;
        out = record { sub = op.sub; below = g.line.below; from = tt; low = omega (arith, tl) };
        again = pass_ground.again;
        hand = pass_ground.hand;
        scoped = tt;
        looped = λ z. tt;
      })
      (thrown_marked base ns c few_slots few_locals agree rows2 hs sc cu w.caught e'.caught op.thrown) (fresh_right (us0 ++ us1 ++ us2) us3 fresh0123) (omega (arith, many, g12, g123, g1234)) in
      let nearS = Into base ns c few_slots few_locals agree w.hand a.hand sp hs hd.block hp.stale step in
      let near3 : Entries c → Type 0 = λ en. (en hd.block ≡ Some (filled hs hp.stale)) × HandWay c en w.hand a.hand hp (onward (round r) step.throws) in
      let rs = rest_of base ns c few_slots few_locals w.hand a.hand nearS near3 hs (length vs2) hp (plain (round r)) j.block o.block j.group o.group c3
      (ap (λ z. suc j.block + z) (lowered_more ns c.slots sc v (begun j) d)) (ap (λ z. j.group + z) (lowered_groups ns c.slots sc v (begun j) d))
      (λ h en z. (z.0, hand_onward c en w.hand a.hand (length vs2) hp (round r) step.throws h z.1))
      (λ h.
      let os = opens base ns c few_slots few_locals agree d l t e' rows2 vs2 hs sc v (begun j) sp av cu kl step_init op.stands (above_more ns c gg.local j.local sc (omega arith) a2) r3 said.paths.2
      (subst (λ xs. InPlace c.slots l t xs d) (sym op.called_so) said.placed.1) (neither_first (body_refusal e' d) _ m2)
      (ground_past base ns c few_slots few_locals v sc hd.local j.local rows2 vs2 hs p sp av (omega (arith, tl)) ((behind_is (length vs2) hp (round r) h).from ∙ reach_hp) op.ground) op.thrown
      (fresh_right (us0 ++ us1) us2 fresh012) in
      let ps = os.same is_step in
      let raw = os.live hd.block hp.stale (PassLast hd.block) refl refl
      (subst (λ z. Meets sp.stale hp.stale (length z)) (sym ps) (step_meets base ns c few_slots few_locals agree vs2 hs p r step size2 (part_ends kl d step_init) h)) in
      live_to base ns c few_slots few_locals w.hand a.hand hs sp.stale nearS (suc j.block) (suc j.block) o.block j.group j.group o.group c3 (omega (arith, part_blocks tr d step_init))
      (omega (arith, part_groups d step_init))
      (subst (λ z. Live c w.hand a.hand hs sp.stale (Into base ns c few_slots few_locals agree w.hand a.hand sp z hd.block hp.stale step) (suc j.block) (suc j.block) j.group j.group c3) ps raw)) in
      let near1 : Entries c → Type 0 = λ en. outer en × (en o.block ≡ rx.later.entry) in
      let near0 = Into base ns c few_slots few_locals agree w.hand a.hand p hs hd.block hp.stale first in
      let near2 = Owed true (pass w 2 (GotoLast j.block) o.block) sp_aims hp r in
      let nearT : Entries c → Type 0 = λ en. outer en × (en o.block ≡ rx.later.entry) × (en gg.block ≡ Some (filled hs hp.stale)) in
      let ex4 : Exits st4 (length gs) p.stale lp.ends = subst (Exits st4 (length gs) p.stale) same (exits_here base ns c few_slots few_locals vs gs p u.ends g.line.size) in
      let one = live_to base ns c few_slots few_locals w.hand a.hand gs p.stale near0 n.block n.block hd.block n.group n.group hd.group c0 (omega (arith, part_blocks tr i is_init))
      (omega (arith, part_groups i is_init))
      (op.live hd.block hp.stale (PassLast hd.block) refl refl (head_meets base ns c few_slots few_locals agree vs2 hs p big size2)) in
      let around : (en : Entries c) → outer en → HandWay c en w.hand a.hand p lp.throws =
      λ en z. subst (λ y. HandWay c en w.hand a.hand p (onward y lp.throws)) once
      (hand_right c en w.hand a.hand p first.throws (onward first.ends lp.throws) (sides_first c en l w a p u vx z.1).hand) in
      let test = λ (t : ExprTree) (is : q ≡ Some t). test_leaf base ns c few_slots few_locals agree rows2 vs2 hs gs sc v hd.local hp a nearT
      (suc hd.block) hd.group t gg.block o.block st4 op.stands.sees line2 reach_hp hand2
      (test_sound rows2 q t is (at_item base ns c few_slots few_locals agree e' rows2 at (λ z. maybe_test z q) op.stands.setting (neither_first it _ m1)))
      (subst (λ z. AllFresh (maybe_uses vs2 hp z)) is (fresh_right us0 us1 fresh01)) (λ en z. z.2)
      (λ en z. z.1 ∙ rx.entry_is (ap is_reached same ∙ ap (λ y. is_reached (looped (is_there y) big).ends) is)) op.sub
      (test_meets st4 (length gs) (length vs2) p big (subst (λ y. Exits st4 (length gs) p.stale (looped (is_there y) big).ends) is ex4))
      (λ en z. hand_fact c en w.hand a.hand hp at_once refl (head_hand base ns c few_slots few_locals agree en w.hand a.hand (length vs2) p big (around en z.0))) in
      let all_rounds = ring base ns c few_slots few_locals agree q v sc a.hand gs hs p.stale hp.stale near1 near0 nearT near2 near3 hd n.block j.block o.block n.group j.group o.group o.block c0 c2 c3
      one test live_b rs.later
      (λ en z i1 i2 i3. (i1, hand_left c en w.hand a.hand p first.throws (onward first.ends lp.throws) (sides_first c en l w a p u vx z.0.1).hand))
      (λ en z i1 i2 i3. (z.0, z.1, i2))
      (λ en z i1 i2 i3. body_owed w a gs st4 o.block j.block n.local gg.local vs2 hs hp r step rs.later.entry en size2 rs.entry_is
      (record {
        next_is = i3;
        out_is = λ h. z.1 ∙ rx.entry_is (ap is_reached same ∙ reached_right (past_of (is_there q) (head big)) (onward (head big) r.breaks) (reached_onward (head big) r.breaks refl h));
        out_exits = exits_onward st4 (length gs) (length vs2) p (head big) r.breaks refl (exits_right st4 (length gs) p.stale (past_of (is_there q) (head big)) (onward (head big) r.breaks) ex4);
        hand = body_hand base ns c few_slots few_locals agree en w.hand a.hand (length vs2) p big (around en z.0);
      }))
      (λ en z i1 i2 i3. (
        i1,
        hand_right c en w.hand a.hand hp r.throws (onward (round r) step.throws)
            (body_hand base ns c few_slots few_locals agree en w.hand a.hand (length vs2) p big (around en z.0)),
      )) in
      live_to base ns c few_slots few_locals w.hand a.hand gs p.stale outer n.block (suc o.block + blocks_in tr x)
      (n.block + (blocks_in tr i + test_blocks q + suc (blocks_in false b) + suc (blocks_in tr d) + suc (blocks_in tr x))) n.group (o.group + groups_in x)
      (n.group + (groups_in i + groups_in d + groups_in b + groups_in x)) (joined w.hand (joined w.hand (joined w.hand c1 c2) c3) c4) (omega (arith, tb)) (omega (arith, tg))
      (join c w.hand w.hand a.hand gs p.stale outer near1 outer n.block o.block (suc o.block + blocks_in tr x) n.group o.group (o.group + groups_in x)
      (joined w.hand (joined w.hand c1 c2) c3) c4 all_rounds rx.later (λ en z is. (z, is)) (λ en z is. z))
