-- Where a body is reached, its blocks are kept: choices and loops.
use Rattle.std.proofs.Common.{◌≡◌, inr, ℕ, suc, ◌+◌, ◌-◌, ◌^◌, ◌<◌, ◌≤◌, Bool, true, false, ◌||◌, List, [], ◌∷◌, ◌++◌, length, refl, ap, sym, subst, ◌∙◌, arith, length-append, append-nil}
use Rattle.std.proofs.lemmas.Bool.{false≢true}
use Rattle.std.specs.declared.option.Option.{Option}
use Rattle.std.specs.declared.option.Option.TheVariants.{None, Some}
use Rattle.flow_base.specs.declared.place.Place.{Place}
use Rattle.flow_tree.specs.Tree.{TypeTree, BoolType, ExprTree}
use Rattle.flow_tree.specs.Body.{Body, End, IfStmt, IfElseStmt, WhileStmt, LoopStmt}
use Rattle.flow_ast.specs.Slots.{body_groups}
use Rattle.flow_ast.specs.Typing.{is_there}
use Rattle.flow_class.specs.declared.class.Slotted.{Slotted}
use Rattle.flow_class.specs.Classes.{LastTree, GotoLast, PassLast, TestLast, ClassTree}
use Rattle.flow_class.specs.Scopes.{Scope, Mark, over}
use Rattle.flow_catch.specs.Inner.{inner_locals}
use Rattle.flow_layout.specs.Locals.{body_locals}
use Rattle.flow_rules.specs.Judged.{Setting, called, fault, form, wants}
use Rattle.flow_rules.specs.Items.{Env, item, behind as rule_behind, test_fault, body_refusal}
use Rattle.flow_staterule.specs.declared.scope.Point.{Point}
use Rattle.flow_staterule.specs.declared.ways.Reached.{Reached}
use Rattle.flow_staterule.specs.declared.ways.Ways.{Ways}
use Rattle.flow_staterule.specs.declared.uses.Caught.{Caught}
use Rattle.flow_staterule.specs.Ways.{at_once, either, is_reached, onward, both, node, plain, sequence, ways}
use Rattle.flow_staterule.specs.Uses.{Variable, behind, expr_uses, left, beyond, uses}
use Rattle.flow_meaning.specs.Evaluating.{Names, effectful}
use Rattle.flow_split.specs.Around.{Scoped, Hand, Around, inner}
use Rattle.flow_split.specs.Counts.{Next, begun, past, blocks_in, locals_in, groups_in}
use Rattle.flow_split.specs.Lowered.{joined, ends, lowered}
use Rattle.flow_valid.specs.Validity.{calls_effect}
use Rattle.flow_lowering_laws.proofs.Actors.Standing.{locals_front, locals_back}
use Rattle.flow_lowering_laws.proofs.Actors.Around.{above_more}
use Rattle.flow_lowering_laws.proofs.Actors.Further.{locals_count, locals_after}
use Rattle.flow_typing_laws.proofs.Typing.Agreement.{neither_first, neither_second}
use Rattle.flow_validity_laws.proofs.OverPlaces.{over_names, Sees}
use Rattle.flow_validity_laws.proofs.Fitting.{at_item, stands_behind, stands_marked}
use Rattle.flow_validity_laws.proofs.Walks.{Enters}
use Rattle.flow_validity_laws.proofs.Waysides.{Meets, Exits, behind_is, exits_left, exits_right}
use Rattle.flow_validity_laws.proofs.Lines.{Sub, filled, covers_sub, AllFresh, fresh_left, fresh_right, in_none, Lined}
use Rattle.flow_validity_laws.proofs.Entries.{Aim, Lies, Entries, enters, HandFact, catches, Live, later_live, join}
use Rattle.flow_validity_laws.proofs.Surroundings.{Aims, behind_once, HandWay, sides_left, sides_right, sides_first, hand_fact}
use Rattle.flow_validity_laws.proofs.Reading.{whole_in}
use Rattle.flow_validity_laws.proofs.Grounds.{here_aim, Ground, ground_inner, live_to, leaf, exits_here}
use Rattle.flow_rules.specs.Items.{in_loop}
use Rattle.flow_rules.proofs.Lesser.{no_first}
use Rattle.flow_validity_laws.proofs.Waysides.{reached_left, reached_right, reached_onward, exits_onward}
use Rattle.flow_validity_laws.proofs.Surroundings.{hand_left, hand_right, hand_onward}
use Rattle.flow_validity_laws.proofs.Alive.{Said, Thrown, thrown_marked, Outer, Lives, rest_lives}
use Rattle.flow_staterule.specs.Ways.{head, round, looped, past as past_of}
use Rattle.flow_split.specs.Around.{pass}
use Rattle.flow_validity_laws.proofs.Waysides.{at_once_meets}
use Rattle.flow_validity_laws.proofs.Entries.{later_entry, join_two}
use Rattle.flow_validity_laws.proofs.Surroundings.{onward_once}
use Rattle.flow_validity_laws.proofs.Fitting.{stands_loop}
use Rattle.flow_validity_laws.proofs.Grounds.{ground_pass}
use Rattle.flow_validity_laws.proofs.Jumping.{waits_alone, inner_owed}
use Rattle.flow_validity_laws.proofs.Agreeing.{EffectsAgree}

abbrev pub IsJump : ℕ → LastTree → Type 0
IsJump y (GotoLast t) = t ≡ y
IsJump y (PassLast t) = t ≡ y
IsJump y _ = ⊥

pub monus_twice : (k a b x : ℕ) → x ≡ a + b → k - x ≡ k - a - b
monus_twice k a b x e = omega (arith, e)

module _ (base : Setting) (ns : Names) (c : ClassTree) (few_slots : length c.slots < 2 ^ 64) (few_locals : length c.locals < 2 ^ 64)
    (agree : EffectsAgree base ns) where
  abbrev Alives : Body → Type 0
  Alives b = Lives base ns c few_slots few_locals agree b

  abbrev Owed : Bool → Around → Aims → Point → Ways → Entries c → Type 0
  Owed l w a p v e = Outer base ns c few_slots few_locals agree l w a p v e

  abbrev RowsHere : Type 0
  RowsHere = List (List ℕ × TypeTree)

  abbrev scoped : Around → ℕ → Around
  scoped w t = inner w (Scoped (GotoLast t))

  abbrev ended : Aims → List Slotted → ℕ → ℕ → Aims
  ended a gs st m = record a { end = here_aim gs st m }

  -- a test at the end of a block, whose ways may lead to places of different scopes
  pub test_leaf : (rows : RowsHere) (vs : List Variable) (gs hs : List Slotted) (s : Scope) (w : Around) (m : ℕ) (p : Point) (a : Aims) (near : Entries c → Type 0) (n g : ℕ) (q : ExprTree)
      (y z st : ℕ) → Sees base c rows s → Lined base c vs gs rows s m → p.from ≡ 0
      → Lies a.hand gs (inner_locals w.depth s) m → fault (over_names base c rows) false q ≡ None → AllFresh (expr_uses vs p q) → ((e : Entries c) → near e → e y ≡ Some (filled gs p.stale))
      → ((e : Entries c) → near e → e z ≡ Some (filled hs st))
      → Sub hs gs → Meets p.stale st (length hs) → ((e : Entries c) → near e → HandFact c e w.hand a.hand p.stale)
      → Live c w.hand a.hand gs p.stale near n n g g (ends w s true [] (TestLast (over c.slots s q) y z))
  test_leaf rows vs gs hs s w m p a near n g q y z st sees line start lies f fresh iy iz sub meets fact =
      leaf base ns c few_slots few_locals w s gs p a near n g true [] (TestLast (over c.slots s q) y z) lies.from (λ t e o. fact e o)
      (λ e o kc x cover guard. (
        whole_in base ns c rows s sees vs gs m line p start x cover false q f fresh,
        catches c e w.hand a.hand kc p.stale x lies.below guard (covers_sub x gs a.hand.places p.stale lies.sub cover),
        (enters c e x y gs gs p.stale p.stale cover (iy e o) (λ j r k. k) (inr (omega arith)), enters c e x z gs hs p.stale st cover (iz e o) sub meets),
      ))

  -- a jump at the end of a block
  pub jump_leaf : (gs : List Slotted) (s : Scope) (w : Around) (m : ℕ) (p : Point) (a : Aims) (near : Entries c → Type 0) (n g : ℕ) (y st : ℕ) (l : LastTree)
      → Lies a.hand gs (inner_locals w.depth s) m → ((e : Entries c) → near e → e y ≡ Some (filled gs st)) → Meets p.stale st (length gs)
      → IsJump y l → Live c w.hand a.hand gs p.stale near n n g g (ends w s false [] l)
  jump_leaf gs s w m p a near n g y st (GotoLast t) lies iy meets j =
      leaf base ns c few_slots few_locals w s gs p a near n g false [] (GotoLast t) lies.from (λ t e o. absurd (false≢true t))
      (λ e o kc x cover guard. (
        in_none x,
        catches c e w.hand a.hand kc p.stale x lies.below guard (covers_sub x gs a.hand.places p.stale lies.sub cover),
        subst (Enters c e x) (sym j)
            (enters c e x y gs gs p.stale st cover (iy e o) (λ i r k. k) meets),
      ))
  jump_leaf gs s w m p a near n g y st (PassLast t) lies iy meets j =
      leaf base ns c few_slots few_locals w s gs p a near n g false [] (PassLast t) lies.from (λ t e o. absurd (false≢true t))
      (λ e o kc x cover guard. (
        in_none x,
        catches c e w.hand a.hand kc p.stale x lies.below guard (covers_sub x gs a.hand.places p.stale lies.sub cover),
        subst (Enters c e x) (sym j)
            (enters c e x y gs gs p.stale st cover (iy e o) (λ i r k. k) meets),
      ))
  jump_leaf gs s w m p a near n g y st _ lies iy meets j = absurd j

  pub if_lives : (at : Place) (q : ExprTree) (b x : Body) → Alives b → Alives x → Alives (IfStmt at q b x)
  if_lives at q b x body rest l t e rows vs gs s w n p a cu k said g th fresh many =
      let r = ways k b in
      let u = both (plain at_once) r in
      let k1 = k - length (body_groups b) in
      let v = ways k1 x in
      let j = past w.looped.tried b (begun n) in
      let st = (behind (length vs) p u.ends).stale in
      let sum = length-append (body_groups b) (body_groups x) in
      let es = expr_uses vs p q in
      let us = uses k vs p cu b in
      let point = beyond k vs p (IfStmt at q b End) in
      let k2 = left k (IfStmt at q b End) in
      let ws = uses k2 vs point cu x in
      let fresh12 = fresh_left (es ++ us) ws fresh in
      let f = item at (test_fault e.setting q) in
      let test = at_item base ns c few_slots few_locals agree e rows at (λ z. test_fault z q) said.stands.setting (neither_first f _ said.judged) in
      let names = over_names base c rows in
      let h2 = neither_second f _ said.judged in
      let c0 = ends w s true [] (TestLast (over c.slots s q) n.block j.block) in
      let c1 = lowered ns c.slots (Mark ∷ s) (scoped w j.block) (begun n) b in
      let c2 = lowered ns c.slots s w (begun j) x in
      let outer = Owed l w a p (sequence u v) in
      let ex = exits_here base ns c few_slots few_locals vs gs p u.ends g.line.size in
      let live = body l t e rows vs gs (Mark ∷ s) (scoped w j.block) (begun n) p (ended a gs st n.local) cu k
      (record {
        stands = stands_marked base ns c few_slots few_locals agree e rows s w.caught said.stands;
        above = said.above;
        room = locals_front ns c n.local (body_locals b) (body_locals x) said.room;
        parts = said.parts.1;
        paths = said.paths.1;
        placed = said.placed.0;
        judged = neither_first (body_refusal e b) _ h2;
      })
      (ground_inner base ns c few_slots few_locals w (Scoped (GotoLast j.block)) s n.local n.local rows vs gs p p a st (omega arith) g.start g)
      (thrown_marked base ns c few_slots few_locals agree rows gs s cu w.caught e.caught th) (fresh_right es us fresh12)
      (omega (arith, many, sum)) in
      let r2 = rest_lives base ns c few_slots few_locals agree x rest l t (rule_behind e b) rows vs gs s w n j p point a cu k1 k2 u
      (record {
        stands = stands_behind base ns c few_slots few_locals agree e b rows s w.caught said.stands;
        above = above_more ns c n.local j.local s (omega arith) said.above;
        room = locals_after ns c b n.local (body_locals x) said.room;
        parts = said.parts.2;
        paths = said.paths.2;
        placed = said.placed.1;
        judged = neither_second (body_refusal e b) _ h2;
      })
      g (omega arith) th (behind_once (length vs) p u) (waits_alone base ns c few_slots few_locals agree k b) (fresh_right (es ++ us) ws fresh) (omega (arith, many, sum)) in
      let owed1 = Owed l (scoped w j.block) (ended a gs st n.local) p r in
      let later = later_live c w.hand a.hand gs p.stale owed1 n.block j.block n.group j.group c1 live in
      let entry = later_entry c w.hand a.hand gs p.stale owed1 n.block j.block n.group j.group c1 live in
      let near0 : Entries c → Type 0 = λ en. outer en × (en n.block ≡ Some (filled gs p.stale)) × (en j.block ≡ r2.later.entry) in
      let one = test_leaf rows vs gs gs s w n.local p a near0 n.block n.group q n.block j.block st said.stands.sees g.line g.start g.hand
      (no_first (fault names false q) (wants (form names q) BoolType) test) (fresh_left es us fresh12) (λ en o. o.1)
      (λ en o. o.2 ∙ r2.entry_is refl) (λ j m k. k) (ex.fresh refl) (λ en o. hand_fact c en w.hand a.hand p u.throws refl (sides_first c en l w a p u v o.0.1).hand) in
      live_to base ns c few_slots few_locals w.hand a.hand gs p.stale outer n.block (suc j.block + blocks_in w.looped.tried x)
      (n.block + (suc (blocks_in w.looped.tried b) + suc (blocks_in w.looped.tried x))) n.group (j.group + groups_in x) (n.group + (groups_in b + groups_in x))
      (joined w.hand (joined w.hand c0 c1) c2) (omega arith) (omega arith)
      (join_two c w.hand w.hand w.hand a.hand gs p.stale outer near0 owed1 outer n.block n.block j.block (suc j.block + blocks_in w.looped.tried x) n.group n.group j.group
      (j.group + groups_in x) c0 c1 c2 one later r2.later (λ en o i1 i2. (o, i1 ∙ entry, i2))
      (λ en o i1 i2. inner_owed base ns c few_slots few_locals agree en l w j.block n.local a gs p st r (λ h. i2 ∙ r2.entry_is refl) (exits_right st (length gs) p.stale at_once r.ends ex)
      (sides_right c en l w a p (plain at_once) r (sides_first c en l w a p u v o.1)))
      (λ en o i1 i2. o))

  pub if_else_lives : (at : Place) (q : ExprTree) (b d x : Body) → Alives b → Alives d → Alives x → Alives (IfElseStmt at q b d x)
  if_else_lives at q b d x body other rest l t e rows vs gs s w n p a cu k said g th fresh many =
      let kb = k - length (body_groups b) in
      let k1 = k - length (body_groups b) - length (body_groups d) in
      let r = ways k b in
      let r' = ways kb d in
      let u = both (node at_once) (both r r') in
      let v = ways k1 x in
      let i = past w.looped.tried b (begun n) in
      let j = past w.looped.tried d (begun i) in
      let st = (behind (length vs) p u.ends).stale in
      let sum1 = length-append (body_groups b) (body_groups d) in
      let sum2 = length-append (body_groups b ++ body_groups d) (body_groups x) in
      let es = expr_uses vs p q in
      let us = uses k vs p cu b in
      let os = uses kb vs p cu d in
      let point = beyond k vs p (IfElseStmt at q b d End) in
      let k2 = left k (IfElseStmt at q b d End) in
      let ws = uses k2 vs point cu x in
      let fresh123 = fresh_left (es ++ us ++ os) ws fresh in
      let fresh12 = fresh_left (es ++ us) os fresh123 in
      let f = item at (test_fault e.setting q) in
      let test = at_item base ns c few_slots few_locals agree e rows at (λ z. test_fault z q) said.stands.setting (neither_first f _ said.judged) in
      let names = over_names base c rows in
      let h2 = neither_second f _ said.judged in
      let h3 = neither_second (body_refusal e b) _ h2 in
      let eb = rule_behind e b in
      let room12 = locals_front ns c n.local (body_locals b ++ body_locals d) (body_locals x) said.room in
      let sizes : length (body_locals b ++ body_locals d) ≡ locals_in b + locals_in d = omega (arith, length-append (body_locals b) (body_locals d), locals_count b, locals_count d) in
      let stb = stands_behind base ns c few_slots few_locals agree e b rows s w.caught said.stands in
      let c0 = ends w s true [] (TestLast (over c.slots s q) n.block i.block) in
      let c1 = lowered ns c.slots (Mark ∷ s) (scoped w j.block) (begun n) b in
      let c2 = lowered ns c.slots (Mark ∷ s) (scoped w j.block) (begun i) d in
      let c3 = lowered ns c.slots s w (begun j) x in
      let outer = Owed l w a p (sequence u v) in
      let ex = exits_here base ns c few_slots few_locals vs gs p u.ends g.line.size in
      let live1 = body l t e rows vs gs (Mark ∷ s) (scoped w j.block) (begun n) p (ended a gs st n.local) cu k
      (record {
        stands = stands_marked base ns c few_slots few_locals agree e rows s w.caught said.stands;
        above = said.above;
        room = locals_front ns c n.local (body_locals b) (body_locals d) room12;
        parts = said.parts.1;
        paths = said.paths.1;
        placed = said.placed.0;
        judged = neither_first (body_refusal e b) _ h2;
      })
      (ground_inner base ns c few_slots few_locals w (Scoped (GotoLast j.block)) s n.local n.local rows vs gs p p a st (omega arith) g.start g)
      (thrown_marked base ns c few_slots few_locals agree rows gs s cu w.caught e.caught th) (fresh_right es us fresh12)
      (omega (arith, many, sum1, sum2)) in
      let live2 = other l t eb rows vs gs (Mark ∷ s) (scoped w j.block) (begun i) p (ended a gs st i.local) cu kb
      (record {
        stands = stands_marked base ns c few_slots few_locals agree eb rows s w.caught stb;
        above = above_more ns c n.local i.local s (omega arith) said.above;
        room = locals_after ns c b n.local (body_locals d) room12;
        parts = said.parts.2;
        paths = said.paths.2;
        placed = said.placed.1;
        judged = neither_first (body_refusal eb d) _ h3;
      })
      (ground_inner base ns c few_slots few_locals w (Scoped (GotoLast j.block)) s n.local i.local rows vs gs p p a st (omega arith) g.start g)
      (thrown_marked base ns c few_slots few_locals agree rows gs s cu w.caught e.caught th)
      (fresh_right (es ++ us) os fresh123) (omega (arith, many, sum1, sum2)) in
      let r2 = rest_lives base ns c few_slots few_locals agree x rest l t (rule_behind eb d) rows vs gs s w n j p point a cu k1 k2 u
      (record {
        stands = stands_behind base ns c few_slots few_locals agree eb d rows s w.caught stb;
        above = above_more ns c n.local j.local s (omega arith) said.above;
        room = locals_back ns c n.local j.local (body_locals b ++ body_locals d) (body_locals x) (omega (arith, sizes)) said.room;
        parts = said.parts.3;
        paths = said.paths.3;
        placed = said.placed.2;
        judged = neither_second (body_refusal eb d) _ h3;
      })
      g (omega arith) th (behind_once (length vs) p u)
      (ap (λ z. k - length z) (append-nil (body_groups b ++ body_groups d)) ∙ monus_twice k (length (body_groups b)) (length (body_groups d)) (length (body_groups b ++ body_groups d)) sum1)
      (fresh_right (es ++ us ++ os) ws fresh) (omega (arith, many, sum1, sum2)) in
      let owed1 = Owed l (scoped w j.block) (ended a gs st n.local) p r in
      let owed2 = Owed l (scoped w j.block) (ended a gs st i.local) p r' in
      let later1 = later_live c w.hand a.hand gs p.stale owed1 n.block i.block n.group i.group c1 live1 in
      let entry1 = later_entry c w.hand a.hand gs p.stale owed1 n.block i.block n.group i.group c1 live1 in
      let later2 = later_live c w.hand a.hand gs p.stale owed2 i.block j.block i.group j.group c2 live2 in
      let entry2 = later_entry c w.hand a.hand gs p.stale owed2 i.block j.block i.group j.group c2 live2 in
      let near1 : Entries c → Type 0 = λ en. outer en × (en j.block ≡ r2.later.entry) in
      let near0 : Entries c → Type 0 = λ en. outer en × (en n.block ≡ Some (filled gs p.stale)) × (en i.block ≡ Some (filled gs p.stale)) in
      let one = test_leaf rows vs gs gs s w n.local p a near0 n.block n.group q n.block i.block p.stale said.stands.sees g.line g.start g.hand
      (no_first (fault names false q) (wants (form names q) BoolType) test) (fresh_left es us fresh12) (λ en o. o.1)
      (λ en o. o.2) (λ j m k. k) (inr (omega arith)) (λ en o. hand_fact c en w.hand a.hand p u.throws refl (sides_first c en l w a p u v o.0.1).hand) in
      let three = join_two c w.hand w.hand w.hand a.hand gs p.stale near1 near0 owed1 owed2 n.block n.block i.block j.block n.group n.group i.group j.group c0 c1 c2 one later1 later2
      (λ en o i1 i2. (o.0, i1 ∙ entry1, i2 ∙ entry2))
      (λ en o i1 i2. inner_owed base ns c few_slots few_locals agree en l w j.block n.local a gs p st r (λ h. o.1 ∙ r2.entry_is (reached_left r.ends r'.ends h))
      (exits_left st (length gs) p.stale r.ends r'.ends ex)
      (sides_left c en l w a p r r' (sides_right c en l w a p (node at_once) (both r r') (sides_first c en l w a p u v o.0.1))))
      (λ en o i1 i2. inner_owed base ns c few_slots few_locals agree en l w j.block i.local a gs p st r' (λ h. o.1 ∙ r2.entry_is (reached_right r.ends r'.ends h))
      (exits_right st (length gs) p.stale r.ends r'.ends ex)
      (sides_right c en l w a p r r' (sides_right c en l w a p (node at_once) (both r r') (sides_first c en l w a p u v o.0.1)))) in
      live_to base ns c few_slots few_locals w.hand a.hand gs p.stale outer n.block (suc j.block + blocks_in w.looped.tried x)
      (n.block + (suc (blocks_in w.looped.tried b) + suc (blocks_in w.looped.tried d) + suc (blocks_in w.looped.tried x))) n.group (j.group + groups_in x)
      (n.group + (groups_in b + groups_in d + groups_in x)) (joined w.hand (joined w.hand (joined w.hand c0 c1) c2) c3) (omega arith) (omega arith)
      (join c w.hand w.hand a.hand gs p.stale outer near1 outer n.block j.block (suc j.block + blocks_in w.looped.tried x) n.group j.group (j.group + groups_in x)
      (joined w.hand (joined w.hand c0 c1) c2) c3 three r2.later (λ en o is. (o, is)) (λ en o is. o))

  -- the body of a loop: its head, and what is lost behind it
  pub head_meets : (vs : List Variable) (gs : List Slotted) (p : Point) (r : Ways) → length vs ≡ length gs → Meets p.stale (behind (length vs) p (head r)).stale (length gs)
  head_meets vs gs p r e = (exits_here base ns c few_slots few_locals vs gs p (head r) e).fresh refl

  pub round_exits : (vs : List Variable) (gs : List Slotted) (p : Point) (r : Ways) (q : Reached) → length vs ≡ length gs → (q.waited ≡ true → (round r).waited ≡ true)
      → Exits (behind (length vs) p (head r)).stale (length gs) (behind (length vs) p (head r)).stale q
  round_exits vs gs p r q e f = record { waited = λ h. all_lost (f h); fresh = λ h. inr (omega arith) }
    where
      all_lost : (round r).waited ≡ true → length gs ≤ (behind (length vs) p (head r)).stale
      all_lost h = let k = (behind_is (length vs) p (head r) refl).waited h in omega (arith, k, e)

  pub out_breaks : (tested : Bool) (vs : List Variable) (gs : List Slotted) (p : Point) (r : Ways) → length vs ≡ length gs
      → Exits (behind (length vs) p (looped tested r).ends).stale (length gs) (behind (length vs) p (head r)).stale r.breaks
  out_breaks tested vs gs p r e =
      let lost = (behind (length vs) p (looped tested r).ends).stale in
      exits_onward lost (length gs) (length vs) p (head r) r.breaks refl
      (exits_right lost (length gs) p.stale (past_of tested (head r)) (onward (head r) r.breaks) (exits_here base ns c few_slots few_locals vs gs p (looped tested r).ends e))

  pub out_test : (vs : List Variable) (gs : List Slotted) (p : Point) (r : Ways) → length vs ≡ length gs
      → Meets (behind (length vs) p (head r)).stale (behind (length vs) p (looped true r).ends).stale (length gs)
  out_test vs gs p r e =
      let lost = (behind (length vs) p (looped true r).ends).stale in
      at_once_meets lost (length gs) (behind (length vs) p (head r)).stale
      (exits_onward lost (length gs) (length vs) p (head r) at_once refl
      (subst (Exits lost (length gs) p.stale) (sym (onward_once (head r)))
      (exits_left lost (length gs) p.stale (head r) (onward (head r) r.breaks) (exits_here base ns c few_slots few_locals vs gs p (looped true r).ends e))))

  pub head_hand : (en : Entries c) (h : Option Hand) (a : Aim) (d : ℕ) (p : Point) (r : Ways) → HandWay c en h a p (either (head r) (onward (head r) r.throws))
      → HandWay c en h a (behind d p (head r)) at_once
  head_hand en h a d p r w = hand_onward c en h a d p (head r) at_once refl (subst (HandWay c en h a p) (sym (onward_once (head r))) (hand_left c en h a p (head r) (onward (head r) r.throws) w))

  pub body_hand : (en : Entries c) (h : Option Hand) (a : Aim) (d : ℕ) (p : Point) (r : Ways) → HandWay c en h a p (either (head r) (onward (head r) r.throws))
      → HandWay c en h a (behind d p (head r)) r.throws
  body_hand en h a d p r w = hand_onward c en h a d p (head r) r.throws refl (hand_right c en h a p (head r) (onward (head r) r.throws) w)

  or_first : (x y : Bool) → x ≡ true → x || y ≡ true
  or_first true y e = refl
  or_first false y e = cc

  or_second : (x y : Bool) → y ≡ true → x || y ≡ true
  or_second true y e = refl
  or_second false y e = e

  abbrev looping : Around → ℕ → ℕ → Around
  looping w h out = pass w 1 (PassLast h) out

  abbrev loop_aims : Aims → List Slotted → ℕ → ℕ → ℕ → Aims
  loop_aims a gs st lost m = record { end = here_aim gs st m; out = here_aim gs lost m; again = here_aim gs st m; hand = a.hand }

  -- what the body of a loop without a step is owed
  loop_owed : (tested : Bool) (en : Entries c) (w : Around) (h out m : ℕ) (a : Aims) (vs : List Variable) (gs : List Slotted) (p : Point) (r : Ways) → length vs ≡ length gs
      → en h ≡ Some (filled gs (behind (length vs) p (head r)).stale)
      → (is_reached r.breaks ≡ true → en out ≡ Some (filled gs (behind (length vs) p (looped tested r).ends).stale)) → HandWay c en w.hand a.hand p (either (head r) (onward (head r) r.throws))
      → Owed true (looping w h out) (loop_aims a gs (behind (length vs) p (head r)).stale (behind (length vs) p (looped tested r).ends).stale m) (behind (length vs) p (head r)) r en
  loop_owed tested en w h out m a vs gs p r e ih io hand = (
    record { reached = λ z. ih; exits = round_exits vs gs p r r.ends e (λ z. or_first r.ends.waited r.continues.waited z) },
    record {
      out = λ z. record { reached = io; exits = out_breaks tested vs gs p r e };
      again = λ z. record { reached = λ y. ih; exits = round_exits vs gs p r r.continues e (λ y. or_second r.ends.waited r.continues.waited y) };
      hand = body_hand en w.hand a.hand (length vs) p r hand;
    },
  )

  -- the body of such a loop
  loop_body : (b : Body) → Alives b → (tested l t : Bool) (e : Env) (rows : RowsHere) (vs : List Variable) (gs : List Slotted) (s : Scope) (w : Around) (n g' : Next) (p : Point) (a : Aims)
      (cu : Option Caught) (k h out : ℕ) → Said base ns c few_slots few_locals agree true t (in_loop e) rows (Mark ∷ s) (looping w h out) g' b
      → Ground base ns c few_slots few_locals w s n.local rows vs gs p a → Thrown base ns c few_slots few_locals agree rows gs s cu w.caught e.caught → n.local ≤ g'.local
      → AllFresh (uses k vs (behind (length vs) p (head (ways k b))) cu b) → length (body_groups b) ≤ k
      → Live c w.hand a.hand gs (behind (length vs) p (head (ways k b))).stale
      (Owed true (looping w h out) (loop_aims a gs (behind (length vs) p (head (ways k b))).stale (behind (length vs) p (looped tested (ways k b)).ends).stale g'.local)
      (behind (length vs) p (head (ways k b))) (ways k b)) g'.block (g'.block + blocks_in false b) g'.group
      (g'.group + groups_in b) (lowered ns c.slots (Mark ∷ s) (looping w h out) g' b)
  loop_body b body tested l t e rows vs gs s w n g' p a cu k h out said g th le fresh many =
      let r = ways k b in
      let hp = behind (length vs) p (head r) in
      let lost = (behind (length vs) p (looped tested r).ends).stale in
      body true t (in_loop e) rows vs gs (Mark ∷ s) (looping w h out) g' hp (loop_aims a gs hp.stale lost g'.local) cu k said
      (ground_pass base ns c few_slots few_locals w s w.depth 1 n.local g'.local (PassLast h) out rows vs gs hp a.hand hp.stale lost le
      ((behind_is (length vs) p (head r) refl).from ∙ g.start) g.line g.hand (omega arith))
      (thrown_marked base ns c few_slots few_locals agree rows gs s cu w.caught e.caught th) fresh many

  pub while_lives : (at : Place) (q : ExprTree) (b x : Body) → Alives b → Alives x → Alives (WhileStmt at q b x)
  while_lives at q b x body rest l t e rows vs gs s w n p a cu k said g th fresh many =
      let r = ways k b in
      let u = looped true r in
      let k1 = k - length (body_groups b) in
      let v = ways k1 x in
      let g' = begun n in
      let j = past false b (begun g') in
      let hp = behind (length vs) p (head r) in
      let lost = (behind (length vs) p u.ends).stale in
      let sum = length-append (body_groups b) (body_groups x) in
      let es = expr_uses vs hp q in
      let us = uses k vs hp cu b in
      let point = beyond k vs p (WhileStmt at q b End) in
      let k2 = left k (WhileStmt at q b End) in
      let ws = uses k2 vs point cu x in
      let fresh12 = fresh_left (es ++ us) ws fresh in
      let f = item at (test_fault e.setting q) in
      let test = at_item base ns c few_slots few_locals agree e rows at (λ z. test_fault z q) said.stands.setting (neither_first f _ said.judged) in
      let names = over_names base c rows in
      let h2 = neither_second f _ said.judged in
      let size = g.line.size in
      let hstart = (behind_is (length vs) p (head r) refl).from ∙ g.start in
      let c0 = ends w s false [] (PassLast n.block) in
      let c1 = ends w s true [] (TestLast (over c.slots s q) g'.block j.block) in
      let c2 = lowered ns c.slots (Mark ∷ s) (looping w n.block j.block) (begun g') b in
      let c3 = lowered ns c.slots s w (begun j) x in
      let outer = Owed l w a p (sequence u v) in
      let r2 = rest_lives base ns c few_slots few_locals agree x rest l t (rule_behind e b) rows vs gs s w n j p point a cu k1 k2 u
      (record {
        stands = stands_behind base ns c few_slots few_locals agree e b rows s w.caught said.stands;
        above = above_more ns c n.local j.local s (omega arith) said.above;
        room = locals_after ns c b n.local (body_locals x) said.room;
        parts = said.parts.2;
        paths = said.paths.2;
        placed = said.placed.1;
        judged = neither_second (body_refusal (in_loop e) b) _ h2;
      })
      g (omega arith) th (behind_once (length vs) p u) (waits_alone base ns c few_slots few_locals agree k b) (fresh_right (es ++ us) ws fresh) (omega (arith, many, sum)) in
      let near1 : Entries c → Type 0 = λ en. outer en × (en j.block ≡ r2.later.entry) in
      let near0 : Entries c → Type 0 = λ en. en n.block ≡ Some (filled gs hp.stale) in
      let nearT : Entries c → Type 0 = λ en. outer en × (en g'.block ≡ Some (filled gs hp.stale)) × (en j.block ≡ r2.later.entry) in
      let one = jump_leaf gs s w n.local p a near0 n.block n.group n.block hp.stale (PassLast n.block) g.hand (λ en o. o) (head_meets vs gs p r size) refl in
      let two = test_leaf rows vs gs gs s w n.local hp a nearT (suc n.block) n.group q g'.block j.block lost said.stands.sees g.line hstart g.hand
      (no_first (fault names false q) (wants (form names q) BoolType) test) (fresh_left es us fresh12) (λ en o. o.1)
      (λ en o. o.2 ∙ r2.entry_is refl) (λ j m k. k) (out_test vs gs p r size)
      (λ en o. hand_fact c en w.hand a.hand hp at_once refl (head_hand en w.hand a.hand (length vs) p r (sides_first c en l w a p u v o.0.1).hand)) in
      let three = loop_body b body true l t e rows vs gs s w n (begun g') p a cu k n.block j.block
      (record {
        stands = stands_marked base ns c few_slots few_locals agree (in_loop e) rows s w.caught (stands_loop base ns c few_slots few_locals agree e rows s w.caught said.stands);
        above = said.above;
        room = locals_front ns c n.local (body_locals b) (body_locals x) said.room;
        parts = said.parts.1;
        paths = said.paths.1;
        placed = said.placed.0;
        judged = neither_first (body_refusal (in_loop e) b) _ h2;
      })
      g th (omega arith) (fresh_right es us fresh12) (omega (arith, many, sum)) in
      let owed2 = Owed true (looping w n.block j.block) (loop_aims a gs hp.stale lost n.local) hp r in
      let later1 = later_live c w.hand a.hand gs hp.stale nearT n.block (suc n.block) n.group n.group c1 two in
      let entry1 = later_entry c w.hand a.hand gs hp.stale nearT n.block (suc n.block) n.group n.group c1 two in
      let later2 = later_live c w.hand a.hand gs hp.stale owed2 g'.block j.block n.group j.group c2 three in
      let entry2 = later_entry c w.hand a.hand gs hp.stale owed2 g'.block j.block n.group j.group c2 three in
      let all = join_two c w.hand w.hand w.hand a.hand gs p.stale near1 near0 nearT owed2 n.block n.block g'.block j.block n.group n.group n.group j.group c0 c1 c2 one later1 later2
      (λ en o i1 i2. i1 ∙ entry1) (λ en o i1 i2. (o.0, i2 ∙ entry2, o.1))
      (λ en o i1 i2. loop_owed true en w n.block j.block n.local a vs gs p r size (i1 ∙ entry1) (λ h. o.1 ∙ r2.entry_is refl) (sides_first c en l w a p u v o.0.1).hand) in
      live_to base ns c few_slots few_locals w.hand a.hand gs p.stale outer n.block (suc j.block + blocks_in w.looped.tried x)
      (n.block + (1 + suc (blocks_in false b) + suc (blocks_in w.looped.tried x))) n.group (j.group + groups_in x) (n.group + (groups_in b + groups_in x))
      (joined w.hand (joined w.hand (joined w.hand c0 c1) c2) c3) (omega arith) (omega arith)
      (join c w.hand w.hand a.hand gs p.stale outer near1 outer n.block j.block (suc j.block + blocks_in w.looped.tried x) n.group j.group (j.group + groups_in x)
      (joined w.hand (joined w.hand c0 c1) c2) c3 all r2.later (λ en o is. (o, is)) (λ en o is. o))

  pub loop_lives : (at : Place) (b x : Body) → Alives b → Alives x → Alives (LoopStmt at b x)
  loop_lives at b x body rest l t e rows vs gs s w n p a cu k said g th fresh many =
      let r = ways k b in
      let u = looped false r in
      let k1 = k - length (body_groups b) in
      let v = ways k1 x in
      let j = past false b (begun n) in
      let hp = behind (length vs) p (head r) in
      let lost = (behind (length vs) p u.ends).stale in
      let sum = length-append (body_groups b) (body_groups x) in
      let us = uses k vs hp cu b in
      let point = beyond k vs p (LoopStmt at b End) in
      let k2 = left k (LoopStmt at b End) in
      let ws = uses k2 vs point cu x in
      let size = g.line.size in
      let c0 = ends w s false [] (PassLast n.block) in
      let c1 = lowered ns c.slots (Mark ∷ s) (looping w n.block j.block) (begun n) b in
      let c3 = lowered ns c.slots s w (begun j) x in
      let outer = Owed l w a p (sequence u v) in
      let r2 = rest_lives base ns c few_slots few_locals agree x rest l t (rule_behind e b) rows vs gs s w n j p point a cu k1 k2 u
      (record {
        stands = stands_behind base ns c few_slots few_locals agree e b rows s w.caught said.stands;
        above = above_more ns c n.local j.local s (omega arith) said.above;
        room = locals_after ns c b n.local (body_locals x) said.room;
        parts = said.parts.2;
        paths = said.paths.2;
        placed = said.placed.1;
        judged = neither_second (body_refusal (in_loop e) b) _ said.judged;
      })
      g (omega arith) th (behind_once (length vs) p u) (waits_alone base ns c few_slots few_locals agree k b) (fresh_right us ws fresh) (omega (arith, many, sum)) in
      let near0 : Entries c → Type 0 = λ en. en n.block ≡ Some (filled gs hp.stale) in
      let one = jump_leaf gs s w n.local p a near0 n.block n.group n.block hp.stale (PassLast n.block) g.hand (λ en o. o) (head_meets vs gs p r size) refl in
      let two = loop_body b body false l t e rows vs gs s w n (begun n) p a cu k n.block j.block
      (record {
        stands = stands_marked base ns c few_slots few_locals agree (in_loop e) rows s w.caught (stands_loop base ns c few_slots few_locals agree e rows s w.caught said.stands);
        above = said.above;
        room = locals_front ns c n.local (body_locals b) (body_locals x) said.room;
        parts = said.parts.1;
        paths = said.paths.1;
        placed = said.placed.0;
        judged = neither_first (body_refusal (in_loop e) b) _ said.judged;
      })
      g th (omega arith) (fresh_left us ws fresh) (omega (arith, many, sum)) in
      let owed1 = Owed true (looping w n.block j.block) (loop_aims a gs hp.stale lost n.local) hp r in
      let later1 = later_live c w.hand a.hand gs hp.stale owed1 n.block j.block n.group j.group c1 two in
      let entry1 = later_entry c w.hand a.hand gs hp.stale owed1 n.block j.block n.group j.group c1 two in
      live_to base ns c few_slots few_locals w.hand a.hand gs p.stale outer n.block (suc j.block + blocks_in w.looped.tried x)
      (n.block + (suc (blocks_in false b) + suc (blocks_in w.looped.tried x))) n.group (j.group + groups_in x) (n.group + (groups_in b + groups_in x))
      (joined w.hand (joined w.hand c0 c1) c3) (omega arith) (omega arith)
      (join_two c w.hand w.hand w.hand a.hand gs p.stale outer near0 owed1 outer n.block n.block j.block (suc j.block + blocks_in w.looped.tried x) n.group n.group j.group
      (j.group + groups_in x) c0 c1 c3 one later1 r2.later (λ en o i1 i2. i1 ∙ entry1)
      (λ en o i1 i2. loop_owed false en w n.block j.block n.local a vs gs p r size (i1 ∙ entry1) (λ h. i2 ∙ r2.entry_is (reached_onward (head r) r.breaks refl h))
      (sides_first c en l w a p u v o.1).hand) (λ en o i1 i2. o))
