-- The parts of a `for`, and what its chunks are together.
use Rattle.std.proofs.Common.{◌≡◌, inr, ℕ, suc, ◌+◌, ◌^◌, ◌<◌, Bool, true, false, ◌&&◌, ◌||◌, List, [], ◌∷◌, ◌++◌, length, refl, ap, sym, subst, ◌∙◌, arith}
use Rattle.std.specs.declared.option.Option.{Option}
use Rattle.std.specs.declared.option.Option.TheVariants.{None, Some}
use Rattle.flow_tree.specs.Tree.{TypeTree, ExprTree, VarExpr}
use Rattle.flow_tree.specs.Body.{Body, End, DeclareStmt, AssignStmt, ModifyStmt}
use Rattle.flow_ast.specs.Typing.{is_there}
use Rattle.flow_class.specs.declared.class.Slotted.{Slotted}
use Rattle.flow_class.specs.declared.class.Slotted.TheVariants as place
use Rattle.flow_class.specs.Classes.{InstrTree, DropInstr, LastTree, TestLast, ClassTree}
use Rattle.flow_class.specs.Scopes.{Scope, scope, over, path_over, Above}
use Rattle.flow_catch.specs.Inner.{inner_locals}
use Rattle.flow_layout.specs.Locals.{body_locals, declared_locals}
use Rattle.flow_rules.specs.Judged.{Setting, called}
use Rattle.flow_rules.specs.Items.{Env, item, into_fault, value_fault, declare_fault, assign_fault, modify_fault, body_refusal}
use Rattle.flow_staterule.specs.declared.scope.Point.{Point}
use Rattle.flow_staterule.specs.declared.ways.Reached.{Reached}
use Rattle.flow_staterule.specs.declared.ways.Ways.{Ways}
use Rattle.flow_staterule.specs.declared.uses.Caught.{Caught}
use Rattle.flow_staterule.specs.Ways.{at_once, is_reached, onward, ways}
use Rattle.flow_staterule.specs.Uses.{Variable, behind, named as named_use, expr_uses, maybe_uses, target_uses, change_uses, declared, beyond, uses}
use Rattle.flow_meaning.specs.Evaluating.{Names, effectful}
use Rattle.flow_meaning.specs.Items.{path_from, modified}
use Rattle.flow_split.specs.Around.{Part, Hand, Around}
use Rattle.flow_split.specs.Counts.{Next, blocks_in, local_count, locals_in, groups_in}
use Rattle.flow_split.specs.Lowered.{Chunk, joined, ends, acting, finished, with_into, assigned, lowered}
use Rattle.flow_valid.specs.Validity.{calls_effect}
use Rattle.flow_valid.specs.Filling.{reads, instr_reads}
use Rattle.flow_lowering_laws.specs.Actors.InPlace.{InPlace}
use Rattle.flow_lowering_laws.proofs.Actors.Standing.{LocalsAt, locals_front}
use Rattle.flow_lowering_laws.proofs.Actors.Around.{above_more}
use Rattle.flow_lowering_laws.proofs.Actors.Places.{names, names_with, placing}
use Rattle.flow_typing_laws.specs.Typing.Paths.{HasPaths}
use Rattle.flow_typing_laws.proofs.Typing.Agreement.{neither_first}
use Rattle.flow_validity_laws.proofs.Fitting.{Stands, at_item, new_here, stands_behind, stands_into, above_taken}
use Rattle.flow_validity_laws.proofs.Walks.{Places, AllIn, after}
use Rattle.flow_validity_laws.proofs.Waysides.{Meets, Exits}
use Rattle.flow_validity_laws.proofs.Lines.{Has, Sub, filled, Covers, covers_sub, AllFresh, fresh_left, in_none}
use Rattle.flow_validity_laws.proofs.Entries.{AllFrom, Aim, IsBelow, Lies, Entries, catches, Live, Later, later_live}
use Rattle.flow_validity_laws.proofs.Surroundings.{Aims, HandWay, hand_fact}
use Rattle.flow_validity_laws.proofs.Reading.{covers_after, covers_new, keeps_assigned, assign_in, change_in, declared_by}
use Rattle.flow_validity_laws.proofs.Grounds.{Ground, ground_past, ground_into, acting_live}
use Rattle.flow_validity_laws.proofs.Waysides.{exits_onward}
use Rattle.flow_validity_laws.proofs.Alive.{Thrown}
use Rattle.flow_staterule.specs.Ways.{head, round}
use Rattle.flow_validity_laws.proofs.Waysides.{at_once_meets}
use Rattle.flow_validity_laws.proofs.Entries.{later_entry, join_two}
use Rattle.flow_validity_laws.proofs.Surroundings.{onward_once}
use Rattle.flow_validity_laws.proofs.Grounds.{lies_past, from_scope}
use Rattle.flow_validity_laws.proofs.Alive.{thrown_into}
use Rattle.flow_validity_laws.proofs.Choosings.{jump_leaf, IsJump}
use Rattle.flow_split.specs.Lowered.{tested, test_before, dropping, later}
use Rattle.flow_tree.specs.Formed.{IsStep, IsInit}
use Rattle.flow_lowering_laws.specs.Actors.InPlace.{started as place_started}
use Rattle.flow_rules.specs.Items.{started}
use Rattle.flow_rules.proofs.Lesser.{no_first, no_second, no_item}
use Rattle.flow_staterule.specs.Uses.{declaring}
use Rattle.flow_staterule.specs.Ways.{with_step}
use Rattle.flow_validity_laws.proofs.Fitting.{stands_into}
use Rattle.flow_validity_laws.proofs.Entries.{join_three, covers_dropped}
use Rattle.flow_validity_laws.proofs.Choosings.{round_exits}
use Rattle.flow_validity_laws.proofs.Alive.{value_in}
use Rattle.flow_validity_laws.proofs.Agreeing.{EffectsAgree}

waited_on : (r q : Reached) → q ≡ at_once → r.waited ≡ true → (onward r q).waited || false ≡ true
waited_on r q e h = subst (λ z. (onward r z).waited || false ≡ true) (sym e) (by_bool r.waited r.fresh h)
  where
    by_bool : (b f : Bool) → b ≡ true → ((b && true) || (f && false)) || false ≡ true
    by_bool true f z = refl
    by_bool false f z = cc

-- a part of a `for` waits for nothing, and has no blocks of its own
pub part_ends : (k : ℕ) (i : Body) → IsInit i → (ways k i).ends ≡ at_once
part_ends k (DeclareStmt at i v End) h = refl
part_ends k End h = refl
part_ends k (AssignStmt at xs v End) h = refl
part_ends k (ModifyStmt at xs d End) h = refl
part_ends k _ h = absurd h

pub part_blocks : (t : Bool) (i : Body) → IsInit i → blocks_in t i ≡ 0
part_blocks t (DeclareStmt at i v End) h = refl
part_blocks t End h = refl
part_blocks t (AssignStmt at xs v End) h = refl
part_blocks t (ModifyStmt at xs d End) h = refl
part_blocks t _ h = absurd h

pub part_groups : (i : Body) → IsInit i → groups_in i ≡ 0
part_groups (DeclareStmt at i v End) h = refl
part_groups End h = refl
part_groups (AssignStmt at xs v End) h = refl
part_groups (ModifyStmt at xs d End) h = refl
part_groups _ h = absurd h

pub same_point : (k : ℕ) (vs : List Variable) (p : Point) (i : Body) → IsInit i → beyond k vs p i ≡ p
same_point k vs p i h = ap (behind (length vs) p) (part_ends k i h)

module _ (base : Setting) (ns : Names) (c : ClassTree) (few_slots : length c.slots < 2 ^ 64) (few_locals : length c.locals < 2 ^ 64)
    (agree : EffectsAgree base ns) where
  abbrev RowsHere : Type 0
  RowsHere = List (List ℕ × TypeTree)

  -- where a part leads
  abbrev pub Into : Option Hand → Aim → Point → List Slotted → (y st : ℕ) → Ways → Entries c → Type 0
  Into h a p gs y st u en = (en y ≡ Some (filled gs st)) × HandWay c en h a p u.throws

  -- what is known behind a part
  pub record Opened (e : Env) (vs : List Variable) (gs : List Slotted) (s : Scope) (w : Around) (n : Next) (p : Point) (a : Aims) (cu : Option Caught) (k : ℕ) (i : Body) : Type 0 where
    pub rows : RowsHere
    pub places : List Slotted
    pub stands : Stands base ns c few_slots few_locals agree (started e i) rows (later i n.local s) w.caught
    pub above : Above (n.local + locals_in i) (later i n.local s)
    pub called_so : names (later i n.local s) ≡ place_started i (names s)
    pub ground : Ground base ns c few_slots few_locals w (later i n.local s) (n.local + locals_in i) rows (declaring vs i) places p a
    pub thrown : Thrown base ns c few_slots few_locals agree rows places (later i n.local s) cu w.caught (started e i).caught
    pub sub : Sub gs places
    pub same : IsStep i → places ≡ gs
    pub low : AllFrom n.local (scope s) → AllFrom n.local (scope (later i n.local s))
    pub live : (y st : ℕ) (last : LastTree) → w.exit ≡ Part last → IsJump y last → Meets p.stale st (length places)
        → Live c w.hand a.hand gs p.stale (Into w.hand a.hand p places y st (ways k i)) n.block n.block n.group n.group (lowered ns c.slots s w n i)

  part_leaf : (gs : List Slotted) (s : Scope) (w : Around) (m : ℕ) (p : Point) (a : Aims) (u : Ways) (n g : ℕ) (y st : ℕ) (last : LastTree) → Lies a.hand gs (inner_locals w.depth s) m
      → w.exit ≡ Part last → IsJump y last → Meets p.stale st (length gs)
      → Live c w.hand a.hand gs p.stale (Into w.hand a.hand p gs y st u) n n g g (finished w s w.exit)
  part_leaf gs s w m p a u n g y st last lies e jump meets =
      subst (λ x. Live c w.hand a.hand gs p.stale (Into w.hand a.hand p gs y st u) n n g g (finished w s x)) (sym e)
      (jump_leaf base ns c few_slots few_locals agree gs s w m p a (Into w.hand a.hand p gs y st u) n g y st last lies (λ en o. o.0) meets jump)

  -- an instruction, and the end of the part
  part_acts : (gs hs : List Slotted) (s s2 : Scope) (w : Around) (m : ℕ) (p : Point) (a : Aims) (u : Ways) (n g : ℕ) (y st : ℕ) (last : LastTree) (i : InstrTree)
      → Lies a.hand gs (inner_locals w.depth s) m → Lies a.hand hs (inner_locals w.depth s2) m → u.throws ≡ at_once
      → ((z : Places) → Covers z gs p.stale → AllIn (instr_reads i) z) → ((z : Places) → Covers z gs p.stale → Covers (after i z) hs p.stale) → w.exit ≡ Part last → IsJump y last
      → Meets p.stale st (length hs)
      → Live c w.hand a.hand gs p.stale (Into w.hand a.hand p hs y st u) n n g g (acting (i ∷ []) (finished w s2 w.exit))
  part_acts gs hs s s2 w m p a u n g y st last i near lies once reads grows e jump meets =
      let into = Into w.hand a.hand p hs y st u in
      acting_live base ns c few_slots few_locals w.hand a.hand gs hs p.stale into into n n g g i (finished w s2 w.exit) (part_leaf hs s2 w m p a u n g y st last lies e jump meets)
      (λ en o. o) reads grows near.sub near.below
      (λ en o. hand_fact c en w.hand a.hand p u.throws (ap is_reached once) o.1)

  pub opens : (i : Body) (l t : Bool) (e : Env) (rows : RowsHere) (vs : List Variable) (gs : List Slotted) (s : Scope) (w : Around) (n : Next) (p : Point) (a : Aims) (cu : Option Caught) (k : ℕ)
      → IsInit i → Stands base ns c few_slots few_locals agree e rows s w.caught
      → Above n.local s → LocalsAt ns c n.local (body_locals i) → HasPaths i → InPlace c.slots l t (names s) i → body_refusal e i ≡ None
      → Ground base ns c few_slots few_locals w s n.local rows vs gs p a
      → Thrown base ns c few_slots few_locals agree rows gs s cu w.caught e.caught → AllFresh (uses k vs p cu i) → Opened e vs gs s w n p a cu k i
  opens (DeclareStmt at i q End) l t e rows vs gs s w n p a cu k is st above room paths placed judged g th fresh =
      let f = item at (declare_fault e.setting e.states i q) in
      let h = no_item at (declare_fault e.setting e.states i q) (neither_first f _ judged) in
      let into = no_first (into_fault e.setting e.states i) (value_fault e.setting i.ty q) h in
      let value = ap (λ z. value_fault z i.ty q) (sym st.setting) ∙ no_second (into_fault e.setting e.states i) (value_fault e.setting i.ty q) h in
      let mine = locals_front ns c n.local (declared_locals i) [] room in
      let pl = placing ns c few_slots few_locals s n.local i above mine placed.0 in
      let new = new_here base ns c few_slots few_locals agree e rows i st.setting into in
      let us = maybe_uses vs p q in
      let hs = pl.to ∷ gs in
      let d = declared_by base ns c s n.local i q pl.to pl.is pl.named in
      let s2 = with_into i n.local s in
      let rows2 = rows ++ (i.name.name, i.ty) ∷ [] in
      let u = ways k (DeclareStmt at i q End) in
      let m = local_count i + n.local in
      let g2 = ground_into base ns c few_slots few_locals w s n.local rows vs gs p a i pl new g in
      record {
        rows = rows2;
        places = hs;
        stands = stands_into base ns c few_slots few_locals agree e rows s w.caught n.local i st into pl;
        above = above_more ns c m (n.local + (local_count i + 0)) s2 (omega arith) (above_taken base ns c few_slots few_locals agree (Some i) n.local s above);
        called_so = names_with i.state i.name.name n.local s;
        ground = ground_past base ns c few_slots few_locals w s2 m (n.local + (local_count i + 0)) rows2 (declared i ∷ vs) hs p p a (omega arith) g.start g2;
        thrown = thrown_into base ns c few_slots few_locals agree rows gs s n.local i pl cu w.caught e.caught new th;
        sub = λ j q k. inr k;
        same = λ z. absurd z;
        low = λ z. from_scope i.state n.local i.name.name n.local s (omega arith) z;
        live = λ y stl last ex jump meets.
            subst (λ is. Live c w.hand a.hand gs p.stale (Into w.hand a.hand p hs y stl u) n.block n.block n.group n.group (acting is (finished w s2 w.exit))) (sym d.is)
            (part_acts gs hs s s2 w m p a u n.block n.group y stl last d.instr (lies_past a.hand gs (inner_locals w.depth s) n.local m (omega arith) g.hand) g2.hand refl
            (λ z cover. d.reads z (λ v is. value_in base ns c few_slots few_locals agree rows vs gs s n.local p st.sees g.line g.start z cover i q v is value (fresh_left us [] fresh)))
            (λ z cover. covers_new d.instr z gs p.stale pl.to d.keeps d.fills cover) ex jump meets);
      }
  opens End l t e rows vs gs s w n p a cu k is st above room paths placed judged g th fresh = record {
    rows = rows;
    places = gs;
    stands = stands_behind base ns c few_slots few_locals agree e End rows s w.caught st;
    above = above_more ns c n.local (n.local + 0) s (omega arith) above;
    called_so = refl;
    ground = ground_past base ns c few_slots few_locals w s n.local (n.local + 0) rows vs gs p p a (omega arith) g.start g;
    thrown = th;
    sub = λ j q k. k;
    same = λ z. refl;
    low = λ z. z;
    live = λ y stl last ex jump meets. part_leaf gs s w n.local p a (ways k End) n.block n.group y stl last g.hand ex jump meets;
  }
  opens (AssignStmt at xs q End) l t e rows vs gs s w n p a cu k is st above room paths placed judged g th fresh =
      let f = item at (assign_fault e.setting xs q) in
      let good = at_item base ns c few_slots few_locals agree e rows at (λ z. assign_fault z xs q) st.setting (neither_first f _ judged) in
      let i = assigned ns c.slots s (path_over c.slots s xs) q in
      record {
        rows = rows;
        places = gs;
        stands = stands_behind base ns c few_slots few_locals agree e (AssignStmt at xs q End) rows s w.caught st;
        above = above_more ns c n.local (n.local + 0) s (omega arith) above;
        called_so = refl;
        ground = ground_past base ns c few_slots few_locals w s n.local (n.local + 0) rows vs gs p p a (omega arith) g.start g;
        thrown = th;
        sub = λ j q k. k;
        same = λ z. refl;
        low = λ z. z;
        live = λ y stl last ex jump meets.
            part_acts gs gs s s w n.local p a (ways k (AssignStmt at xs q End)) n.block n.group y stl last i g.hand g.hand refl
            (λ z cover. assign_in base ns c rows s st.sees vs gs n.local g.line p g.start z cover xs q good (fresh_left (target_uses vs p xs ++ expr_uses vs p q) [] fresh))
            (λ z cover. covers_after i z gs p.stale (keeps_assigned base ns c s (path_over c.slots s xs) q) cover) ex jump meets;
      }
  opens (ModifyStmt at [] d End) l t e rows vs gs s w n p a cu k is st above room paths placed judged g th fresh = absurd paths.0
  opens (ModifyStmt at (x ∷ xs) d End) l t e rows vs gs s w n p a cu k is st above room paths placed judged g th fresh =
      let f = item at (modify_fault e.setting (x ∷ xs) d) in
      let good = at_item base ns c few_slots few_locals agree e rows at (λ z. modify_fault z (x ∷ xs) d) st.setting (neither_first f _ judged) in
      let q = modified d (path_from (VarExpr x) xs) in
      let i = assigned ns c.slots s (path_over c.slots s (x ∷ xs)) q in
      record {
        rows = rows;
        places = gs;
        stands = stands_behind base ns c few_slots few_locals agree e (ModifyStmt at (x ∷ xs) d End) rows s w.caught st;
        above = above_more ns c n.local (n.local + 0) s (omega arith) above;
        called_so = refl;
        ground = ground_past base ns c few_slots few_locals w s n.local (n.local + 0) rows vs gs p p a (omega arith) g.start g;
        thrown = th;
        sub = λ j q k. k;
        same = λ z. refl;
        low = λ z. z;
        live = λ y stl last ex jump meets.
            part_acts gs gs s s w n.local p a (ways k (ModifyStmt at (x ∷ xs) d End)) n.block n.group y stl last i g.hand g.hand refl
            (λ z cover. change_in base ns c rows s st.sees vs gs n.local g.line p g.start z cover x xs d good (fresh_left (named_use vs p x ++ change_uses vs p d) [] fresh))
            (λ z cover. covers_after i z gs p.stale (keeps_assigned base ns c s (path_over c.slots s (x ∷ xs)) q) cover) ex jump meets;
      }
  opens _ l t e rows vs gs s w n p a cu k is st above room paths placed judged g th fresh = absurd is

  -- where the step leads
  pub step_meets : (vs : List Variable) (gs : List Slotted) (p : Point) (r step : Ways) → length vs ≡ length gs → step.ends ≡ at_once → is_reached (round r) ≡ true
      → Meets (behind (length vs) (behind (length vs) p (head (with_step r step))) (round r)).stale (behind (length vs) p (head (with_step r step))).stale (length gs)
  step_meets vs gs p r step size once reach =
      let big = with_step r step in
      let hp = behind (length vs) p (head big) in
      at_once_meets hp.stale (length gs) (behind (length vs) hp (round r)).stale
      (exits_onward hp.stale (length gs) (length vs) hp (round r) at_once reach
      (subst (Exits hp.stale (length gs) hp.stale) (sym (onward_once (round r)))
      (round_exits base ns c few_slots few_locals agree vs gs p big (round r) size (λ z. waited_on (round r) step.ends once z))))

  -- the drop of the variable of a `for`
  pub dropping_live : (h : Option Hand) (a : Aim) (gs : List Slotted) (st low : ℕ) (outer : Entries c → Type 0) (n m g j : ℕ) (ds : List ℕ) (ch : Chunk) → Sub a.places gs → IsBelow a
      → ((i k : ℕ) → Has gs i (place.Local k) → k < low) → AllFrom low ds
      → Live c h a gs st outer n m g j ch → Live c h a gs st outer n m g j (dropping ds ch)
  dropping_live h a gs st low outer n m g j [] ch sub below small from v = v
  dropping_live h a gs st low outer n m g j (d ∷ ds) ch sub below small from v =
      let own : Aim = record { places = gs; stale = st; from = low } in
      record {
        entries = v.entries;
        size = v.size;
        gsize = v.gsize;
        acts = v.acts;
        held = v.held;
        kept = λ e at o gr.
            let k = v.kept e at o gr in
            record {
              first = λ kc z cover guard. (
                in_none z,
                catches c e h a kc st z below guard (covers_sub z gs a.places st sub cover),
                k.first kc (after (DropInstr (d ∷ ds)) z)
                    (covers_dropped own (d ∷ ds) st z small from cover) guard,
              );
              more = k.more;
            };
      }

  -- the init, the test, the body and the step, whose entries all may know

  pub ring : (q : Option ExprTree) (w : Around) (sc : Scope) (a : Aim) (gs hs : List Slotted) (st sh : ℕ) (outer near0 near1 near2 near3 : Entries c → Type 0) (hd : Next) (n m o g j r out : ℕ)
      (c0 c2 c3 : Chunk) → Live c w.hand a gs st near0 n hd.block g hd.group c0
      → ((e : ExprTree) → q ≡ Some e → Live c w.hand a hs sh near1 (suc hd.block) (suc hd.block) hd.group hd.group (ends w sc true [] (TestLast (over c.slots sc e) (tested q hd).block out)))
      → Live c w.hand a hs sh near2 (suc (tested q hd).block) m (tested q hd).group j c2 → (z : Later c w.hand near3 m o j r c3)
      → ((e : Entries c) → outer e → e hd.block ≡ Some (filled hs sh) → e (tested q hd).block ≡ Some (filled hs sh) → e m ≡ z.entry → near0 e)
      → ((e : Entries c) → outer e → e hd.block ≡ Some (filled hs sh) → e (tested q hd).block ≡ Some (filled hs sh) → e m ≡ z.entry → near1 e)
      → ((e : Entries c) → outer e → e hd.block ≡ Some (filled hs sh) → e (tested q hd).block ≡ Some (filled hs sh) → e m ≡ z.entry → near2 e)
      → ((e : Entries c) → outer e → e hd.block ≡ Some (filled hs sh) → e (tested q hd).block ≡ Some (filled hs sh) → e m ≡ z.entry → near3 e)
      → Live c w.hand a gs st outer n o g r (joined w.hand (joined w.hand (test_before ns c.slots w sc q (tested q hd).block out c0) c2) c3)
  ring None w sc a gs hs st sh outer near0 near1 near2 near3 hd n m o g j r out c0 c2 c3 one two three z f0 f1 f2 f3 =
      let y = later_live c w.hand a hs sh near2 hd.block m hd.group j c2 three in
      let i = later_entry c w.hand a hs sh near2 hd.block m hd.group j c2 three in
      join_two c w.hand w.hand w.hand a gs st outer near0 near2 near3 n hd.block m o g hd.group j r c0 c2 c3 one y z (λ e q i1 i2. f0 e q (i1 ∙ i) (i1 ∙ i) i2)
      (λ e q i1 i2. f2 e q (i1 ∙ i) (i1 ∙ i) i2) (λ e q i1 i2. f3 e q (i1 ∙ i) (i1 ∙ i) i2)
  ring (Some t) w sc a gs hs st sh outer near0 near1 near2 near3 hd n m o g j r out c0 c2 c3 one two three z f0 f1 f2 f3 =
      let c1 = ends w sc true [] (TestLast (over c.slots sc t) (suc hd.block) out) in
      let l1 = two t refl in
      let y1 = later_live c w.hand a hs sh near1 hd.block (suc hd.block) hd.group hd.group c1 l1 in
      let e1 = later_entry c w.hand a hs sh near1 hd.block (suc hd.block) hd.group hd.group c1 l1 in
      let y2 = later_live c w.hand a hs sh near2 (suc hd.block) m hd.group j c2 three in
      let e2 = later_entry c w.hand a hs sh near2 (suc hd.block) m hd.group j c2 three in
      join_three c w.hand w.hand w.hand w.hand a gs st outer near0 near1 near2 near3 n hd.block (suc hd.block) m o g hd.group hd.group j r c0 c1 c2 c3 one y1 y2 z
      (λ e q i1 i2 i3. f0 e q (i1 ∙ e1) (i2 ∙ e2) i3) (λ e q i1 i2 i3. f1 e q (i1 ∙ e1) (i2 ∙ e2) i3)
      (λ e q i1 i2 i3. f2 e q (i1 ∙ e1) (i2 ∙ e2) i3) (λ e q i1 i2 i3. f3 e q (i1 ∙ e1) (i2 ∙ e2) i3)
