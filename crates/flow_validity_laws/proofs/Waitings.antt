-- Where a body is reached, its blocks are kept: waits and handlers.
use Rattle.std.proofs.Common.{◌≡◌, ◌⊎◌, inl, inr, ℕ, zero, suc, ◌+◌, ◌-◌, ◌^◌, ◌<◌, ◌≤◌, Bool, true, false, not, ◌&&◌, ◌||◌, nat_lt, List, [], ◌∷◌, ◌++◌, length, slice_get, refl, ap, sym, subst, ◌∙◌, arith, length-append, append-nil}
use Rattle.std.specs.Option.{option_and_then}
use Rattle.std.specs.declared.option.Option.{Option}
use Rattle.std.specs.declared.option.Option.TheVariants.{None, Some}
use Rattle.flow_base.specs.declared.place.Place.{Place}
use Rattle.flow_tree.specs.Tree.{TypeTree}
use Rattle.flow_tree.specs.Body.{IntoTree, WaitTree, Body, End, ChooseStmt, WaitStmt, Branches, NoBranches, MoreBranches}
use Rattle.flow_ast.specs.Slots.{body_groups, body_slots, branch_slots}
use Rattle.flow_ast.specs.Typing.{is_there}
use Rattle.flow_class.specs.declared.class.Slotted.{Slotted}
use Rattle.flow_class.specs.Classes.{CatcherTree, GotoLast, ChooseLast, CallbackTree, ClassTree}
use Rattle.flow_class.specs.Scopes.{Scope, Mark, over, Above}
use Rattle.flow_catch.specs.Inner.{inner_locals}
use Rattle.flow_layout.specs.Locals.{body_locals}
use Rattle.flow_rules.specs.Least.{unless}
use Rattle.flow_rules.specs.Judged.{Setting, called, fault, wanted}
use Rattle.flow_rules.specs.Items.{Env, item, with_states, slot_names, body_refusal}
use Rattle.flow_staterule.specs.declared.scope.Point.{Point}
use Rattle.flow_staterule.specs.declared.ways.Reached.{Reached}
use Rattle.flow_staterule.specs.declared.ways.Ways.{Ways}
use Rattle.flow_staterule.specs.declared.uses.Caught.{Caught}
use Rattle.flow_staterule.specs.Ways.{at_once, either, is_reached, onward, both, node, plain, follow, sequence, ways}
use Rattle.flow_staterule.specs.Uses.{Variable, behind, expr_uses, declared, left, beyond, uses}
use Rattle.flow_meaning.specs.Evaluating.{Names, effectful}
use Rattle.flow_split.specs.Around.{Exit, Text, Scoped, Part, Hand, Around, inner}
use Rattle.flow_split.specs.Counts.{Next, begun, taken, past, blocks_in, local_count, into_count, groups_in}
use Rattle.flow_split.specs.Lowered.{Chunk, joined, ends, with_into, lowered}
use Rattle.flow_valid.specs.Validity.{calls_effect}
use Rattle.flow_valid.specs.Named.{listed, expr_places}
use Rattle.flow_valid.specs.Filling.{same_place, among}
use Rattle.flow_lowering_laws.specs.Actors.InPlace.{InPlace}
use Rattle.flow_lowering_laws.proofs.Actors.Standing.{LocalsAt, locals_front, locals_back}
use Rattle.flow_lowering_laws.proofs.Actors.Around.{above_more}
use Rattle.flow_lowering_laws.proofs.Actors.Places.{names, placing}
use Rattle.flow_lowering_laws.proofs.Actors.Further.{locals_count, into_locals_count}
use Rattle.flow_typing_laws.proofs.Typing.Names.{none_some, some_same}
use Rattle.flow_typing_laws.proofs.Typing.Agreement.{neither_first, neither_second}
use Rattle.flow_validity_laws.proofs.OverPlaces.{over_names, Sees}
use Rattle.flow_validity_laws.proofs.Fitting.{Stands, at_item, new_here, stands_marked, above_taken}
use Rattle.flow_validity_laws.proofs.Walks.{Places, AllIn, Enters}
use Rattle.flow_validity_laws.proofs.Waysides.{behind_is}
use Rattle.flow_validity_laws.proofs.Lines.{Has, filled, Covers, covers_sub, AllFresh, fresh_left, fresh_right, in_both, in_none, Lined}
use Rattle.flow_validity_laws.proofs.Entries.{Aim, Lies, Entries, enters, Guard, catches, Live, later_live, join}
use Rattle.flow_validity_laws.proofs.Surroundings.{Aims, behind_once, EndWay, HandWay, end_onward, sides_left, sides_right, sides_first, sides_second, hand_fact}
use Rattle.flow_validity_laws.proofs.Reading.{whole_in}
use Rattle.flow_validity_laws.proofs.Grounds.{here_aim, Ground, ground_past, ground_into, ground_inner, live_to, exits_here}
use Rattle.flow_validity_laws.proofs.Waysides.{reached_onward, exits_onward}
use Rattle.flow_validity_laws.proofs.Surroundings.{HandSide, last_left, last_right}
use Rattle.flow_validity_laws.proofs.Alive.{Thrown, thrown_marked, Outer, Lives, rest_lives}
use Rattle.flow_validity_laws.proofs.Entries.{later_entry}
use Rattle.flow_validity_laws.proofs.Jumping.{inner_owed}
use Rattle.flow_ast.specs.Slots.{branch_groups, waited_slots}
use Rattle.flow_class.specs.Code.{group_at, callback_at}
use Rattle.flow_layout.specs.Locals.{branch_locals, into_locals}
use Rattle.flow_rules.specs.Items.{waited, maybe_into, wait_fault, wait_type, branch_refusal}
use Rattle.flow_rules.specs.declared.rule.SemanticRule.TheVariants.{WaitInFunction}
use Rattle.flow_rules.proofs.Lesser.{no_first, no_second}
use Rattle.flow_staterule.specs.Ways.{waited_at, branch_ways}
use Rattle.flow_staterule.specs.Uses.{with_into as with_variable, branch_uses}
use Rattle.flow_split.specs.Counts.{grouped, past_branches, branch_blocks, branch_group_count}
use Rattle.flow_split.specs.Lowered.{place_by as place_at}
use Rattle.flow_split.specs.Lowered.{with_taken, taken_in, callback, callbacks, branches}
use Rattle.flow_valid.specs.Filling.{operands as operand_places, group_reads}
use Rattle.flow_lowering_laws.specs.Actors.Parts.{HaveParts}
use Rattle.flow_lowering_laws.specs.Actors.InPlace.{MayTake, AllInPlace}
use Rattle.flow_lowering_laws.proofs.Actors.Further.{branch_locals_count, names_taken}
use Rattle.flow_typing_laws.specs.Typing.Paths.{HavePaths}
use Rattle.flow_validity_laws.proofs.Fitting.{stands_states, stands_taken, into_of_wait, waited_vars}
use Rattle.flow_validity_laws.proofs.Walks.{waited as waited_set, taken as taken_set}
use Rattle.flow_validity_laws.proofs.Lines.{same_self}
use Rattle.flow_validity_laws.proofs.Entries.{covers_waited}
use Rattle.flow_validity_laws.proofs.Surroundings.{sides_onward}
use Rattle.flow_validity_laws.proofs.Alive.{thrown_into}
use Rattle.flow_validity_laws.proofs.Choosings.{monus_twice}
use Rattle.flow_validity_laws.proofs.Agreeing.{EffectsAgree}

some_less : (k : ℕ) → 1 ≤ k → nat_lt 0 k ≡ true
some_less k le = grind arith

or_first : (x y : Bool) → x ≡ true → x || y ≡ true
or_first true y e = refl
or_first false y e = cc

or_second : (x y : Bool) → y ≡ true → x || y ≡ true
or_second true y e = refl
or_second false y e = e

-- the variables in force behind a wait
abbrev pub with_place : Option Slotted → List Slotted → List Slotted
with_place None gs = gs
with_place (Some to) gs = to ∷ gs

covers_taken : (b : CallbackTree) (z : Places) (gs : List Slotted) (st : ℕ) → Covers z gs st → Covers (taken_set b z) (with_place b.into gs) (length gs)
covers_taken b z gs st cover = by_into b.into refl
  where
    by_into : (o : Option Slotted) → b.into ≡ o → Covers (taken_set b z) (with_place o gs) (length gs)
    by_into None e q h = or_second (among (listed b.into) q) (waited_set z q) (covers_waited gs st z cover q h)
    by_into (Some to) e q h = by_side h.1
      where
        by_side : ((h.0 ≡ length gs) × (to ≡ q)) ⊎ Has gs h.0 q → taken_set b z q ≡ true
        by_side (inl k) = or_first (among (listed b.into) q) (waited_set z q)
            (ap (λ o. among (listed o) q) e ∙ ap (λ x. among (to ∷ []) x) (sym k.1) ∙ or_first (same_place to to) false (same_self to))
        by_side (inr k) = or_second (among (listed b.into) q) (waited_set z q) (covers_waited gs st z cover q (h.0, k, h.2))

module _ (base : Setting) (ns : Names) (c : ClassTree) (few_slots : length c.slots < 2 ^ 64) (few_locals : length c.locals < 2 ^ 64)
    (agree : EffectsAgree base ns) where
  abbrev Alives : Body → Type 0
  Alives b = Lives base ns c few_slots few_locals agree b

  abbrev Owed : Bool → Around → Aims → Point → Ways → Entries c → Type 0
  Owed l w a p v e = Outer base ns c few_slots few_locals agree l w a p v e

  abbrev RowsHere : Type 0
  RowsHere = List (List ℕ × TypeTree)

  abbrev scoped : Around → ℕ → Around
  scoped w t = inner w (Scoped (GotoLast t))

  abbrev ended : Aims → List Slotted → ℕ → ℕ → Aims
  ended a gs st m = record a { end = here_aim gs st m }

  abbrev after_wait : RowsHere → Option IntoTree → RowsHere
  after_wait rows into = waited_vars base ns c few_slots few_locals agree rows into

  ground_taken : (into : Option IntoTree) (e : Env) (w : Around) (s : Scope) (l : ℕ) (rows : RowsHere) (vs : List Variable) (gs : List Slotted) (p : Point) (a : Aims)
      → e.setting ≡ over_names base c rows → maybe_into e.setting e.states into ≡ None → Above l s → LocalsAt ns c l (into_locals into)
      → MayTake c.slots (names s) into → Ground base ns c few_slots few_locals w s l rows vs gs p a
      → Ground base ns c few_slots few_locals w (with_taken into l s) (into_count into + l) (after_wait rows into) (with_variable vs into) (with_place (taken_in ns c.slots into l s) gs) p a
  ground_taken None e w s l rows vs gs p a k h ab r m g = ground_past base ns c few_slots few_locals w s l (0 + l) rows vs gs p p a (omega arith) g.start g
  ground_taken (Some i) e w s l rows vs gs p a k h ab r m g =
      let pl = placing ns c few_slots few_locals s l i ab r m in
      subst (λ o. Ground base ns c few_slots few_locals w (with_into i l s) (local_count i + l) (rows ++ (i.name.name, i.ty) ∷ []) (declared i ∷ vs) (with_place o gs) p a) (sym pl.is)
      (ground_into base ns c few_slots few_locals w s l rows vs gs p a i pl (new_here base ns c few_slots few_locals agree e rows i k h) g)

  thrown_taken : (into : Option IntoTree) (e : Env) (s : Scope) (l : ℕ) (rows : RowsHere) (gs : List Slotted) (cu : Option Caught) (o : Option (List ℕ)) (caught : Bool)
      → e.setting ≡ over_names base c rows → maybe_into e.setting e.states into ≡ None → Above l s → LocalsAt ns c l (into_locals into)
      → MayTake c.slots (names s) into → Thrown base ns c few_slots few_locals agree rows gs s cu o caught
      → Thrown base ns c few_slots few_locals agree (after_wait rows into) (with_place (taken_in ns c.slots into l s) gs) (with_taken into l s) cu o caught
  thrown_taken None e s l rows gs cu o caught k h ab r m th = th
  thrown_taken (Some i) e s l rows gs cu o caught k h ab r m th =
      let pl = placing ns c few_slots few_locals s l i ab r m in
      subst (λ q. Thrown base ns c few_slots few_locals agree (rows ++ (i.name.name, i.ty) ∷ []) (with_place q gs) (with_into i l s) cu o caught) (sym pl.is)
      (thrown_into base ns c few_slots few_locals agree rows gs s l i pl cu o caught (new_here base ns c few_slots few_locals agree e rows i k h) th)

  waited_caught : (e : Env) (o : Option IntoTree) → (waited e o).caught ≡ e.caught
  waited_caught e None = refl
  waited_caught e (Some i) = refl

  -- an error of a wait
  guard_waited : (en : Entries c) (h : Option Hand) (a : Aim) (kc : Option CatcherTree) (p : Point) (r : Reached) (st z : ℕ) → r.waited ≡ true → HandWay c en h a p r → Guard c en h a kc st
      → Guard c en h a kc z
  guard_waited en h a None p r st z e w g = tt
  guard_waited en h a (Some kc) p r st z e w g =
      let side : HandSide c en g.hand a p r = subst (λ o. HandWay c en o a p r) g.around w in
      record { hand = g.hand; around = g.around; block = g.block; error = g.error; from = g.from; fact = (g.fact.0, inl (side.exits.waited e)) }

  -- the edges of a group
  edge_of : (g m : ℕ) (ks : List CallbackTree) (b : CallbackTree) → group_at c.groups g ≡ Some ks → callback_at c g m ≡ Some b → slice_get ks m ≡ Some b
  edge_of g m ks b e h = sym (ap (λ o. option_and_then (λ cs. slice_get cs m) o) e) ∙ h

  -- a wait at the end of a block
  choose_leaf : (rows : RowsHere) (vs : List Variable) (gs : List Slotted) (s : Scope) (w : Around) (m : ℕ) (p : Point) (a : Aims) (near : Entries c → Type 0) (n g : ℕ) (ks : List CallbackTree)
      (r : Reached) → r.waited ≡ true → Lies a.hand gs (inner_locals w.depth s) m
      → ((z : Places) → Covers z gs p.stale → AllIn (operand_places ks) z) → ((e : Entries c) → near e → HandWay c e w.hand a.hand p r)
      → ((e : Entries c) → near e → (z : Places) → Covers z gs p.stale → (i : ℕ) (b : CallbackTree) → slice_get ks i ≡ Some b → Enters c e (taken_set b z) b.block)
      → Live c w.hand a.hand gs p.stale near n n g (suc g) (record (ends w s true [] (ChooseLast g)) { groups = ks ∷ [] })
  choose_leaf rows vs gs s w m p a near n g ks r e lies reading hand edges = record {
    entries = [];
    size = omega arith;
    gsize = omega arith;
    acts = λ t en at o. hand_fact c en w.hand a.hand p r (or_second r.fresh r.waited e) (hand en o);
    held = lies.from;
    kept = λ en at o gr. record {
      first = λ kc z cover guard. (
        subst (λ o. AllIn (group_reads o) z) (sym gr.0) (reading z cover),
        catches c en w.hand a.hand kc p.stale z lies.below guard (covers_sub z gs a.hand.places p.stale lies.sub cover),
        (
          λ i b is. edges en o z cover i b (edge_of g i ks b gr.0 is),
          catches c en w.hand a.hand kc (length gs) (waited_set z) lies.below (guard_waited en w.hand a.hand kc p r p.stale (length gs) e (hand en o) guard)
              (covers_sub (waited_set z) gs a.hand.places (length gs) lies.sub (covers_waited gs p.stale z cover)),
        ),
      );
      more = tt;
    };
  }

  -- a branch is entered behind the wait
  enters_taken : (en : Entries c) (b : CallbackTree) (z : Places) (gs : List Slotted) (st lost : ℕ) → Covers z gs st → length gs ≤ lost → en b.block ≡ Some (filled (with_place b.into gs) lost)
      → Enters c en (taken_set b z) b.block
  enters_taken en b z gs st lost cover le is = enters c en (taken_set b z) b.block (with_place b.into gs) (with_place b.into gs) (length gs) lost (covers_taken b z gs st cover) is (λ j q k. k)
      (inr le)

  pub wait_lives : (at : Place) (u : WaitTree) (x : Body) → Alives x → Alives (WaitStmt at u x)
  wait_lives at u x rest l t e rows vs gs s w n p a cu k said g th fresh many =
      let r = waited_at k in
      let some : 1 ≤ k = omega (arith, many) in
      let wt : r.waited ≡ true = some_less k some in
      let way = plain r in
      let v = ways (k - 1) x in
      let q = behind (length vs) p r in
      let point = beyond k vs p (WaitStmt at u End) in
      let es = expr_uses vs p u.operand in
      let ws = uses (k - 1) (with_variable vs u.into) point cu x in
      let f = item at (wait_fault e.setting e.states u) in
      let h1 = neither_first f _ said.judged in
      let into = into_of_wait base ns c few_slots few_locals agree e at u h1 in
      let mine = locals_front ns c n.local (into_locals u.into) (body_locals x) said.room in
      let n1 = into_locals_count u.into in
      let z = taken u.into (begun (grouped n)) in
      let s2 = with_taken u.into n.local s in
      let cb = callback ns c.slots s u n.local n.block in
      let gs2 = with_place (taken_in ns c.slots u.into n.local s) gs in
      let c0 : Chunk = record (ends w s true [] (ChooseLast n.group)) { groups = (cb ∷ []) ∷ [] } in
      let c1 = lowered ns c.slots s2 w z x in
      let outer = Owed l w a p (sequence way v) in
      let names' = over_names base c rows in
      let judged = at_item base ns c few_slots few_locals agree e rows at (λ y. wait_fault y e.states u) said.stands.setting h1 in
      let operand = no_first (wanted names' true u.operand (wait_type u.next u.into)) _ (no_second (maybe_into names' e.states u.into) _ judged) in
      let is_behind = behind_is (length vs) p r (or_second r.fresh r.waited wt) in
      let lost : q.stale ≡ length vs = is_behind.waited wt in
      let live = rest l t (waited e u.into) (after_wait rows u.into) (with_variable vs u.into) gs2 s2 w z q a cu (k - 1)
      (record {
        stands = stands_taken base ns c few_slots few_locals agree e rows s w.caught n.local u.into said.stands into said.above mine said.placed.0;
        above = above_taken base ns c few_slots few_locals agree u.into n.local s said.above;
        room = locals_back ns c n.local z.local (into_locals u.into) (body_locals x) (omega (arith, n1)) said.room;
        parts = said.parts.1;
        paths = said.paths.1;
        placed = subst (λ xs. InPlace c.slots l t xs x) (sym (names_taken ns c u.into n.local s)) said.placed.1;
        judged = neither_second f _ said.judged;
      })
      (ground_taken u.into e w s n.local rows vs gs q a said.stands.setting into said.above mine said.placed.0
      (ground_past base ns c few_slots few_locals w s n.local n.local rows vs gs p q a (omega arith) (is_behind.from ∙ g.start) g))
      (subst (λ y. Thrown base ns c few_slots few_locals agree (after_wait rows u.into) gs2 s2 cu w.caught y) (sym (waited_caught e u.into))
      (thrown_taken u.into e s n.local rows gs cu w.caught e.caught said.stands.setting into said.above mine said.placed.0 th))
      (subst (λ y. AllFresh (uses (k - 1) (with_variable vs u.into) y cu x)) (behind_once (length vs) p way) (fresh_right es ws fresh)) (omega (arith, many)) in
      let owed = Owed l w a q v in
      let later = later_live c w.hand a.hand gs2 q.stale owed n.block (suc n.block + blocks_in w.looped.tried x) z.group (z.group + groups_in x) c1 live in
      let entry = later_entry c w.hand a.hand gs2 q.stale owed n.block (suc n.block + blocks_in w.looped.tried x) z.group (z.group + groups_in x) c1 live in
      let near0 : Entries c → Type 0 = λ en. outer en × (en n.block ≡ Some (filled gs2 q.stale)) in
      let one = choose_leaf rows vs gs s w n.local p a near0 n.block n.group (cb ∷ []) r wt g.hand
      (λ y cover. in_both y (expr_places (over c.slots s u.operand)) []
      (whole_in base ns c rows s said.stands.sees vs gs n.local g.line p g.start y cover true u.operand (no_first (fault names' true u.operand) _ operand) (fresh_left es ws fresh)) (in_none y))
      (λ en o. (sides_first c en l w a p way v o.0.1).hand) (λ en o y cover i b is. one_edge en y gs cb p.stale q.stale i b cover (omega (arith, lost, g.line.size)) o.1 is) in
      live_to base ns c few_slots few_locals w.hand a.hand gs p.stale outer n.block (suc n.block + blocks_in w.looped.tried x) (n.block + suc (blocks_in w.looped.tried x)) n.group
      (z.group + groups_in x) (n.group + suc (groups_in x)) (joined w.hand c0 c1) (omega arith) (omega arith)
      (join c w.hand w.hand a.hand gs p.stale outer near0 owed n.block n.block (suc n.block + blocks_in w.looped.tried x) n.group z.group (z.group + groups_in x) c0 c1 one later
      (λ en o is. (o, is ∙ entry))
      (λ en o is. (end_onward c en w.exit a.end (length vs) p r v.ends (or_second r.fresh r.waited wt) o.0, sides_second c en l w a (length vs) p way v (or_second r.fresh r.waited wt) o.1)))
    where
      one_edge : (en : Entries c) (y : Places) (gs : List Slotted) (cb : CallbackTree) (st lost i : ℕ) (b : CallbackTree) → Covers y gs st → length gs ≤ lost
          → en cb.block ≡ Some (filled (with_place cb.into gs) lost) → slice_get (cb ∷ []) i ≡ Some b → Enters c en (taken_set b y) b.block
      one_edge en y gs cb st lost zero b cover le is e = subst (λ z. Enters c en (taken_set z y) z.block) (some_same cb b e) (enters_taken en cb y gs st lost cover le is)
      one_edge en y gs cb st lost (suc i) b cover le is e = absurd (none_some e)

  -- the branches of a choose
  abbrev BranchEntries : Entries c → Scope → List Slotted → ℕ → Bool → Next → Branches → Type 0
  BranchEntries en s gs lost tr n NoBranches = Unit {0}
  BranchEntries en s gs lost tr n (MoreBranches at w b bs) = (en n.block ≡ Some (filled (with_place (taken_in ns c.slots w.into n.local s) gs) lost))
      × BranchEntries en s gs lost tr (past tr b (taken w.into (begun n))) bs

  operands_in : (bs : Branches) (e : Env) (rows : RowsHere) (vs : List Variable) (gs : List Slotted) (s : Scope) (m : ℕ) (p q : Point) (cu : Option Caught) (k : ℕ) (tr : Bool) (n : Next)
      → e.setting ≡ over_names base c rows → Sees base c rows s → Lined base c vs gs rows s m → p.from ≡ 0 → branch_refusal e bs ≡ None
      → AllFresh (branch_uses k vs p q cu bs) → (z : Places) → Covers z gs p.stale → AllIn (operand_places (callbacks ns c.slots s tr n bs)) z
  operands_in NoBranches e rows vs gs s m p q cu k tr n st sees line start h fresh z cover = in_none z
  operands_in (MoreBranches at w b bs) e rows vs gs s m p q cu k tr n st sees line start h fresh z cover =
      let f = item at (wait_fault e.setting e.states w) in
      let names' = over_names base c rows in
      let judged = at_item base ns c few_slots few_locals agree e rows at (λ y. wait_fault y e.states w) st (neither_first f _ h) in
      let operand = no_first (wanted names' true w.operand (wait_type w.next w.into)) _ (no_second (maybe_into names' e.states w.into) _ judged) in
      let es = expr_uses vs p w.operand in
      let us = uses k (with_variable vs w.into) q cu b in
      let ws = branch_uses (left k b) vs p q cu bs in
      let j = past tr b (taken w.into (begun n)) in
      in_both z (expr_places (over c.slots s w.operand)) (operand_places (callbacks ns c.slots s tr j bs))
      (whole_in base ns c rows s sees vs gs m line p start z cover true w.operand (no_first (fault names' true w.operand) _ operand) (fresh_left es us (fresh_left (es ++ us) ws fresh)))
      (operands_in bs (with_states e (slot_names (waited_slots w ++ body_slots b))) rows vs gs s m p q cu (left k b) tr j st sees line start
      (neither_second (body_refusal (waited e w.into) b) _ (neither_second f _ h)) (fresh_right (es ++ us) ws fresh) z cover)

  edges_in : (bs : Branches) (en : Entries c) (s : Scope) (gs : List Slotted) (st lost : ℕ) (tr : Bool) (n : Next) (z : Places) (i : ℕ) (b : CallbackTree) → Covers z gs st → length gs ≤ lost
      → BranchEntries en s gs lost tr n bs → slice_get (callbacks ns c.slots s tr n bs) i ≡ Some b
      → Enters c en (taken_set b z) b.block
  edges_in NoBranches en s gs st lost tr n z i b cover le es e = absurd (none_some e)
  edges_in (MoreBranches at w x bs) en s gs st lost tr n z zero b cover le es e =
      let cb = callback ns c.slots s w n.local n.block in
      subst (λ y. Enters c en (taken_set y z) y.block) (some_same cb b e) (enters_taken en cb z gs st lost cover le es.0)
  edges_in (MoreBranches at w x bs) en s gs st lost tr n z (suc i) b cover le es e = edges_in bs en s gs st lost tr (past tr x (taken w.into (begun n))) z i b cover le es.1 e

  live_map : (h : Option Hand) (a : Aim) (gs : List Slotted) (st : ℕ) (outer near : Entries c → Type 0) (n m g i : ℕ) (ch : Chunk) → ((e : Entries c) → near e → outer e)
      → Live c h a gs st outer n m g i ch → Live c h a gs st near n m g i ch
  live_map h a gs st outer near n m g i ch f v = record {
    entries = v.entries;
    size = v.size;
    gsize = v.gsize;
    acts = λ t e at o. v.acts t e at (f e o);
    held = v.held;
    kept = λ e at o gr. let k = v.kept e at (f e o) gr in record { first = k.first; more = k.more };
  }

  marked_place : (o : Option IntoTree) (l : ℕ) (s : Scope) → taken_in ns c.slots o l (Mark ∷ s) ≡ taken_in ns c.slots o l s
  marked_place None l s = refl
  marked_place (Some i) l s = by_state i.state
    where
      by_state : (b : Bool) → place_at ns c.slots b i.name.name l (Mark ∷ s) ≡ place_at ns c.slots b i.name.name l s
      by_state true = refl
      by_state false = refl

  abbrev pub BranchesLive : Branches → Type 1
  BranchesLive bs =
      (l t : Bool) (e : Env) (rows : RowsHere) (vs : List Variable) (gs : List Slotted) (s : Scope) (w : Around) (n : Next) (p q : Point) (a : Aims) (cu : Option Caught) (k first g0 : ℕ) (ch : Chunk)
      (outer : Entries c → Type 0) → Stands base ns c few_slots few_locals agree e rows s w.caught → Above n.local s
      → LocalsAt ns c n.local (branch_locals bs) → HaveParts bs → HavePaths bs → AllInPlace c.slots l t (names s) bs → branch_refusal e bs ≡ None
      → Ground base ns c few_slots few_locals w (Mark ∷ s) n.local rows vs gs q a → Thrown base ns c few_slots few_locals agree rows gs s cu w.caught e.caught
      → AllFresh (branch_uses k vs p q cu bs) → length (branch_groups bs) ≤ k → ((en : Entries c) → outer en → Owed l w a q (branch_ways k bs) en)
      → Live c w.hand a.hand gs p.stale (λ en. outer en × BranchEntries en s gs q.stale w.looped.tried n bs) first n.block g0 n.group ch
      → Live c w.hand a.hand gs p.stale outer first (n.block + branch_blocks w.looped.tried bs) g0 (n.group + branch_group_count bs) (branches ns c.slots ch s w n bs)

  pub no_branches_live : BranchesLive NoBranches
  no_branches_live l t e rows vs gs s w n p q a cu k first g0 ch outer st above room parts paths placed judged g th fresh many owed live =
      live_to base ns c few_slots few_locals w.hand a.hand gs p.stale outer first n.block (n.block + 0) g0 n.group (n.group + 0) ch (omega arith) (omega arith)
      (live_map w.hand a.hand gs p.stale (λ en. outer en × Unit {0}) outer first n.block g0 n.group ch (λ en o. (o, tt)) live)

  pub more_branches_live : (at : Place) (u : WaitTree) (b : Body) (bs : Branches) → Alives b → BranchesLive bs → BranchesLive (MoreBranches at u b bs)
  more_branches_live at u b bs body others l t e rows vs gs s w n p q a cu k first g0 ch outer st above room parts paths placed judged g th fresh many owed live =
      let tr = w.looped.tried in
      let z = taken u.into (begun n) in
      let j = past tr b z in
      let s1 = Mark ∷ s in
      let s2 = with_taken u.into n.local s1 in
      let gs2 = with_place (taken_in ns c.slots u.into n.local s1) gs in
      let d = lowered ns c.slots s2 w z b in
      let f = item at (wait_fault e.setting e.states u) in
      let h1 = neither_first f _ judged in
      let h2 = neither_second f _ judged in
      let into = into_of_wait base ns c few_slots few_locals agree e at u h1 in
      let r12 = locals_front ns c n.local (into_locals u.into ++ body_locals b) (branch_locals bs) room in
      let mine = locals_front ns c n.local (into_locals u.into) (body_locals b) r12 in
      let n1 = into_locals_count u.into in
      let n12 = length-append (into_locals u.into) (body_locals b) in
      let sum = length-append (body_groups b) (branch_groups bs) in
      let xs = slot_names (waited_slots u ++ body_slots b) in
      let es = expr_uses vs p u.operand in
      let us = uses k (with_variable vs u.into) q cu b in
      let ws = branch_uses (left k b) vs p q cu bs in
      let rb = ways k b in
      let rbs = branch_ways (k - length (body_groups b)) bs in
      let sm = stands_marked base ns c few_slots few_locals agree e rows s w.caught st in
      let one = body l t (waited e u.into) (after_wait rows u.into) (with_variable vs u.into) gs2 s2 w z q a cu k
      (record {
        stands = stands_taken base ns c few_slots few_locals agree e rows s1 w.caught n.local u.into sm into above mine placed.0;
        above = above_taken base ns c few_slots few_locals agree u.into n.local s1 above;
        room = locals_back ns c n.local z.local (into_locals u.into) (body_locals b) (omega (arith, n1)) r12;
        parts = parts.1;
        paths = paths.1;
        placed = subst (λ ys. InPlace c.slots l t ys b) (sym (names_taken ns c u.into n.local s1)) placed.1;
        judged = neither_first (body_refusal (waited e u.into) b) _ h2;
      })
      (ground_taken u.into e w s1 n.local rows vs gs q a st.setting into above mine placed.0 g)
      (subst (λ y. Thrown base ns c few_slots few_locals agree (after_wait rows u.into) gs2 s2 cu w.caught y) (sym (waited_caught e u.into))
      (thrown_taken u.into e s1 n.local rows gs cu w.caught e.caught st.setting into above mine placed.0 (thrown_marked base ns c few_slots few_locals agree rows gs s cu w.caught e.caught th)))
      (fresh_right es us (fresh_left (es ++ us) ws fresh)) (omega (arith, many, sum)) in
      let owed1 = Owed l w a q rb in
      let later = later_live c w.hand a.hand gs2 q.stale owed1 n.block j.block n.group j.group d one in
      let entry = later_entry c w.hand a.hand gs2 q.stale owed1 n.block j.block n.group j.group d one in
      let near : Entries c → Type 0 = λ en. outer en × BranchEntries en s gs q.stale tr n (MoreBranches at u b bs) in
      let next : Entries c → Type 0 = λ en. outer en × BranchEntries en s gs q.stale tr j bs in
      let both_way = λ (en : Entries c) (o : outer en). owed en o in
      let acc = join c w.hand w.hand a.hand gs p.stale next near owed1 first n.block j.block g0 n.group j.group ch d live later
      (λ en o is. (o.0, (is ∙ entry ∙ ap (λ y. Some (filled (with_place y gs) q.stale)) (marked_place u.into n.local s), o.1)))
      (λ en o is. (end_left en w.exit a.end q rb.ends rbs.ends (owed en o.0).0, sides_left c en l w a q rb rbs (owed en o.0).1)) in
      live_to base ns c few_slots few_locals w.hand a.hand gs p.stale outer first (j.block + branch_blocks tr bs) (n.block + (suc (blocks_in tr b) + branch_blocks tr bs)) g0
      (j.group + branch_group_count bs) (n.group + (groups_in b + branch_group_count bs))
      (branches ns c.slots (joined w.hand ch d) s w j bs) (omega arith) (omega arith)
      (others l t (with_states e xs) rows vs gs s w j p q a cu (k - length (body_groups b)) first g0 (joined w.hand ch d) outer
      (stands_states base ns c few_slots few_locals agree e xs rows s w.caught st) (above_more ns c n.local j.local s (omega arith) above)
      (locals_back ns c n.local j.local (into_locals u.into ++ body_locals b) (branch_locals bs) (omega (arith, n1, n12, locals_count b)) room) parts.2 paths.2 placed.2
      (neither_second (body_refusal (waited e u.into) b) _ h2)
      (ground_past base ns c few_slots few_locals w s1 n.local j.local rows vs gs q q a (omega arith) g.start g) th (fresh_right (es ++ us) ws fresh) (omega (arith, many, sum))
      (λ en o. (end_right en w.exit a.end q rb.ends rbs.ends (owed en o).0, sides_right c en l w a q rb rbs (owed en o).1)) acc)
    where
      end_left : (en : Entries c) (x : Exit) (m : Aim) (q : Point) (r r' : Reached) → EndWay c en x m q (either r r') → EndWay c en x m q r
      end_left en (Text close) m q r r' h = tt
      end_left en (Scoped last) m q r r' h = last_left c en last m q r r' h
      end_left en (Part last) m q r r' h = absurd h

      end_right : (en : Entries c) (x : Exit) (m : Aim) (q : Point) (r r' : Reached) → EndWay c en x m q (either r r') → EndWay c en x m q r'
      end_right en (Text close) m q r r' h = tt
      end_right en (Scoped last) m q r r' h = last_right c en last m q r r' h
      end_right en (Part last) m q r r' h = absurd h

  pub choose_lives : (at : Place) (bs : Branches) (x : Body) → BranchesLive bs → Alives x → Alives (ChooseStmt at bs x)
  choose_lives at bs x each rest l t e rows vs gs s w n p a cu k said g th fresh many =
      let tr = w.looped.tried in
      let r = waited_at k in
      let some : 1 ≤ k = omega (arith, many) in
      let wt : r.waited ≡ true = some_less k some in
      let reached = or_second r.fresh r.waited wt in
      let bw = branch_ways (k - 1) bs in
      let way = follow r (both (node at_once) bw) in
      let k1 = k - 1 - length (branch_groups bs) in
      let v = ways k1 x in
      let q = behind (length vs) p r in
      let g' = grouped n in
      let j = past_branches tr bs g' in
      let st = (behind (length vs) p way.ends).stale in
      let sum = length-append (branch_groups bs) (body_groups x) in
      let point = beyond k vs p (ChooseStmt at bs End) in
      let k2 = left k (ChooseStmt at bs End) in
      let us = branch_uses (k - 1) vs p q cu bs in
      let ws = uses k2 vs point cu x in
      let f = item at (unless (not e.setting.plain) WaitInFunction) in
      let h2 = neither_second f _ said.judged in
      let hb = neither_first (branch_refusal e bs) _ h2 in
      let e2 = with_states e (slot_names (branch_slots bs)) in
      let is_behind = behind_is (length vs) p r reached in
      let lost : q.stale ≡ length vs = is_behind.waited wt in
      let start = is_behind.from ∙ g.start in
      let ks = callbacks ns c.slots s tr g' bs in
      let w1 = scoped w j.block in
      let a1 = ended a gs st n.local in
      let c0 : Chunk = record (ends w s true [] (ChooseLast n.group)) { groups = ks ∷ [] } in
      let c1 = branches ns c.slots c0 s w1 g' bs in
      let c3 = lowered ns c.slots s w (begun j) x in
      let outer = Owed l w a p (sequence way v) in
      let ex = exits_here base ns c few_slots few_locals vs gs p way.ends g.line.size in
      let room_bs = locals_front ns c n.local (branch_locals bs) (body_locals x) said.room in
      let r2 = rest_lives base ns c few_slots few_locals agree x rest l t e2 rows vs gs s w n j p point a cu k1 k2 way
      (record {
        stands = stands_states base ns c few_slots few_locals agree e (slot_names (branch_slots bs)) rows s w.caught said.stands;
        above = above_more ns c n.local j.local s (omega arith) said.above;
        room = locals_back ns c n.local j.local (branch_locals bs) (body_locals x) (omega (arith, branch_locals_count bs)) said.room;
        parts = said.parts.2;
        paths = said.paths.2;
        placed = said.placed.1;
        judged = neither_second (branch_refusal e bs) _ h2;
      })
      g (omega arith) th (behind_once (length vs) p way) (ap (λ y. k - suc (length y)) (append-nil (branch_groups bs))
      ∙ monus_twice k 1 (length (branch_groups bs)) (suc (length (branch_groups bs))) (omega arith)) (fresh_right us ws fresh) (omega (arith, many, sum)) in
      let near1 : Entries c → Type 0 = λ en. outer en × (en j.block ≡ r2.later.entry) in
      let near0 : Entries c → Type 0 = λ en. near1 en × BranchEntries en s gs q.stale tr g' bs in
      let one = choose_leaf rows vs gs s w n.local p a near0 n.block n.group ks r wt g.hand
      (operands_in bs e rows vs gs s n.local p q cu (k - 1) tr g' said.stands.setting said.stands.sees g.line g.start hb (fresh_left us ws fresh))
      (λ en o. hand_waited en w.hand a.hand p r bw.throws (sides_first c en l w a p way v o.0.0.1).hand)
      (λ en o y cover i b is. edges_in bs en s gs p.stale q.stale tr g' y i b cover (omega (arith, lost, g.line.size)) o.1 is) in
      let two = each l t e rows vs gs s w1 g' p q a1 cu (k - 1) n.block n.group c0 near1 said.stands said.above room_bs said.parts.1 said.paths.1 said.placed.0 hb
      (ground_inner base ns c few_slots few_locals w (Scoped (GotoLast j.block)) s n.local n.local rows vs gs p q a st (omega arith) start g) th (fresh_left us ws fresh) (omega (arith, many, sum))
      (λ en o. inner_owed base ns c few_slots few_locals agree en l w j.block n.local a gs q st bw (λ h. o.1 ∙ r2.entry_is (reached_onward r bw.ends reached h))
      (exits_onward st (length gs) (length vs) p r bw.ends reached ex)
      (sides_right c en l w a q (node at_once) bw (sides_onward c en l w a (length vs) p r (both (node at_once) bw) reached (sides_first c en l w a p way v o.0.1)))) one in
      live_to base ns c few_slots few_locals w.hand a.hand gs p.stale outer n.block (suc j.block + blocks_in tr x) (n.block + (branch_blocks tr bs + suc (blocks_in tr x))) n.group
      (j.group + groups_in x) (n.group + suc (branch_group_count bs + groups_in x)) (joined w.hand c1 c3) (omega arith) (omega arith)
      (join c w.hand w.hand a.hand gs p.stale outer near1 outer n.block j.block (suc j.block + blocks_in tr x) n.group j.group (j.group + groups_in x) c1 c3 two r2.later (λ en o is. (o, is))
      (λ en o is. o))
    where
      hand_waited : (en : Entries c) (h : Option Hand) (m : Aim) (p : Point) (r y : Reached) → HandWay c en h m p (onward r (either at_once y)) → HandWay c en h m p r
      hand_waited en None m p r y w = tt
      hand_waited en (Some k) m p r y w = record {
        reached = λ z. w.reached (reached_onward r (either at_once y) z refl);
        exits = record {
          waited = λ z. w.exits.waited (or_first (r.waited && is_reached (either at_once y)) (r.fresh && (either at_once y).waited) (and_true r.waited z));
          fresh = λ z. w.exits.fresh (and_true r.fresh z);
        };
      }
        where
          and_true : (x : Bool) → x ≡ true → x && true ≡ true
          and_true true e = refl
          and_true false e = cc
