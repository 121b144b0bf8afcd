-- Where a body is reached, its blocks are kept: straight statements and jumps.
use Rattle.std.proofs.Common.{◌≡◌, inr, ℕ, suc, ◌+◌, ◌^◌, ◌<◌, ◌≤◌, Bool, true, false, List, [], ◌∷◌, ◌++◌, length, if◌then◌else◌, refl, ap, sym, subst, ◌∙◌, arith}
use Rattle.std.proofs.lemmas.Bool.{false≢true}
use Rattle.std.specs.Str.{bytes_eq}
use Rattle.std.specs.declared.option.Option.{Option}
use Rattle.std.specs.declared.option.Option.TheVariants.{None, Some}
use Rattle.flow_base.specs.declared.place.Place.{Place}
use Rattle.flow_tree.specs.declared.ty.Ident.{Ident}
use Rattle.flow_tree.specs.Tree.{TypeTree, ErrorType, ExprTree, ExprTrees, VarExpr}
use Rattle.flow_tree.specs.Body.{IntoTree, ChangeTree, Body, End, DeclareStmt, AssignStmt, ModifyStmt, CallStmt}
use Rattle.flow_ast.specs.Slots.{body_groups}
use Rattle.flow_ast.specs.TypingNames.{named}
use Rattle.flow_ast.specs.Typing.{is_there}
use Rattle.flow_class.specs.declared.class.Slotted.{Slotted}
use Rattle.flow_class.specs.Classes.{InstrTree, ActInstr, ClassTree, ReturnLast}
use Rattle.flow_class.specs.Places.{place_name, place_named}
use Rattle.flow_class.specs.Scopes.{Scope, Mark, scope, place_of, over, over_all, path_over, act_over, Above}
use Rattle.flow_layout.specs.Locals.{body_locals, declared_locals}
use Rattle.flow_rules.specs.Judged.{Setting, called, fault, form, wants}
use Rattle.flow_rules.specs.Items.{Env, item, declared as rule_declared, into_fault, value_fault, declare_fault, assign_fault, modify_fault, call_fault, body_refusal}
use Rattle.flow_rules.proofs.Lesser.{no_first, no_second, no_item}
use Rattle.flow_staterule.specs.declared.scope.Point.{Point}
use Rattle.flow_staterule.specs.declared.ways.Ways.{Ways}
use Rattle.flow_staterule.specs.declared.uses.Caught.{Caught}
use Rattle.flow_staterule.specs.Ways.{at_once, plain, sequence, empty, ways}
use Rattle.flow_staterule.specs.Uses.{Variable, behind, named as named_use, expr_uses, exprs_uses, maybe_uses, target_uses, base_uses, change_uses, declared, uses}
use Rattle.flow_meaning.specs.Evaluating.{Names, effectful}
use Rattle.flow_meaning.specs.Items.{path_from, modified}
use Rattle.flow_split.specs.Around.{Exit, Text, Scoped, Part, Around}
use Rattle.flow_split.specs.Counts.{Next, begun, taken, blocks_in, groups_in}
use Rattle.flow_split.specs.Lowered.{Chunk, acting, drop_of, finished, with_into, assigned, cancelled, lowered}
use Rattle.flow_split.proofs.Lengths.{lowered_more, lowered_groups}
use Rattle.flow_valid.specs.Validity.{calls_effect}
use Rattle.flow_valid.specs.Named.{expr_places}
use Rattle.flow_valid.specs.Filling.{reads, instr_reads}
use Rattle.flow_lowering_laws.specs.Actors.Parts.{HasParts}
use Rattle.flow_lowering_laws.specs.Actors.InPlace.{InPlace}
use Rattle.flow_lowering_laws.proofs.Actors.Standing.{LocalsAt, locals_front, locals_back}
use Rattle.flow_lowering_laws.proofs.Actors.Places.{names, names_with, Placing, placing}
use Rattle.flow_lowering_laws.proofs.Actors.Further.{into_locals_count}
use Rattle.flow_tree.specs.Formed.{IsPath}
use Rattle.flow_typing_laws.specs.Typing.Paths.{HasPaths}
use Rattle.flow_typing_laws.proofs.Typing.Names.{bytes_same, none_some}
use Rattle.flow_typing_laws.proofs.Typing.Agreement.{neither_first, neither_second}
use Rattle.flow_validity_laws.proofs.OverPlaces.{over_names, Sees}
use Rattle.flow_validity_laws.proofs.InForce.{New, grows_declared}
use Rattle.flow_validity_laws.proofs.Fitting.{Stands, at_item, new_here, stands_into, above_taken}
use Rattle.flow_validity_laws.proofs.Walks.{Places, AllIn, after}
use Rattle.flow_validity_laws.proofs.Waysides.{behind_is}
use Rattle.flow_validity_laws.proofs.Lines.{Has, Covers, covers_sub, AllFresh, fresh_left, fresh_right, in_none, Lined}
use Rattle.flow_validity_laws.proofs.Entries.{Entries, catches, Live}
use Rattle.flow_validity_laws.proofs.Surroundings.{Aims, EndWay, end_onward, Sides, sides_first, sides_second, hand_fact, drop_kept}
use Rattle.flow_validity_laws.proofs.Reading.{IsNamed, covers_after, covers_new, keeps_assigned, whole_in, assign_in, change_in, act_in, declared_by}
use Rattle.flow_validity_laws.proofs.Grounds.{Ground, ground_past, ground_into, live_to, leaf, acting_live, Rest, rest_of}
use Rattle.flow_validity_laws.proofs.Agreeing.{EffectsAgree}

module _ (base : Setting) (ns : Names) (c : ClassTree) (few_slots : length c.slots < 2 ^ 64) (few_locals : length c.locals < 2 ^ 64)
    (agree : EffectsAgree base ns) where
  abbrev pub Rows : Type 0
  Rows = List (List ℕ × TypeTree)

  -- what the rules and the layout say of a body
  pub record Said (l t : Bool) (e : Env) (rows : Rows) (s : Scope) (w : Around) (n : Next) (b : Body) : Type 0 where
    pub stands : Stands base ns c few_slots few_locals agree e rows s w.caught
    pub above : Above n.local s
    pub room : LocalsAt ns c n.local (body_locals b)
    pub parts : HasParts b
    pub paths : HasPaths b
    pub placed : InPlace c.slots l t (names s) b
    pub judged : body_refusal e b ≡ None

  -- the variable of the catch around
  pub record ThrownAt (rows : Rows) (gs : List Slotted) (s : Scope) (cu : Option Caught) (o : Option (List ℕ)) : Type 0 where
    pub used : Caught
    pub is : cu ≡ Some used
    pub name : List ℕ
    pub called_so : o ≡ Some name
    pub typed : named rows name ≡ Some ErrorType
    pub to : Slotted
    pub place : place_of c.slots s name ≡ Some to
    pub read : place_named (place_name to) ≡ Some to
    pub has : Has gs used.number to

  pub record Thrown (rows : Rows) (gs : List Slotted) (s : Scope) (cu : Option Caught) (o : Option (List ℕ)) (caught : Bool) : Type 0 where
    pub known : caught ≡ true → ThrownAt rows gs s cu o

  pub thrown_marked : (rows : Rows) (gs : List Slotted) (s : Scope) (cu : Option Caught) (o : Option (List ℕ)) (caught : Bool) → Thrown rows gs s cu o caught → Thrown rows gs (Mark ∷ s) cu o caught
  thrown_marked rows gs s cu o caught h = record {
    known = λ t. let k = h.known t in record { used = k.used; is = k.is; name = k.name; called_so = k.called_so; typed = k.typed; to = k.to; place = k.place; read = k.read; has = k.has };
  }

  found_still : (rows : Rows) (r : List ℕ × TypeTree) (x : List ℕ) (u : TypeTree) → named rows x ≡ Some u → named (rows ++ r ∷ []) x ≡ Some u
  found_still [] r x u e = cc
  found_still (v ∷ rows) r x u e = by_name (bytes_eq x v.0) e (found_still rows r x u)
    where
      by_name : (b : Bool) → (if b then Some v.1 else named rows x) ≡ Some u → (named rows x ≡ Some u → named (rows ++ r ∷ []) x ≡ Some u) → (if b then Some v.1 else named (rows ++ r ∷ []) x) ≡ Some u
      by_name true h f = h
      by_name false h f = f h

  pub thrown_into : (rows : Rows) (gs : List Slotted) (s : Scope) (l : ℕ) (i : IntoTree) (pl : Placing ns c few_slots few_locals s l i) (cu : Option Caught) (o : Option (List ℕ)) (caught : Bool)
      → New rows i.name.name → Thrown rows gs s cu o caught
      → Thrown (rows ++ (i.name.name, i.ty) ∷ []) (pl.to ∷ gs) (with_into i l s) cu o caught
  thrown_into rows gs s l i pl cu o caught new h = record {
    known = λ t.
        let k = h.known t in
        let g = grows_declared base ns c few_slots few_locals s (with_into i l s) i pl.to pl.declared in
        record {
          used = k.used;
          is = k.is;
          name = k.name;
          called_so = k.called_so;
          typed = found_still rows (i.name.name, i.ty) k.name ErrorType k.typed;
          to = k.to;
          place = g.others k.name (other k.name k.typed (bytes_eq k.name i.name.name) refl) ∙ k.place;
          read = k.read;
          has = inr k.has;
        };
  }
    where
      other : (x : List ℕ) → named rows x ≡ Some ErrorType → (b : Bool) → bytes_eq x i.name.name ≡ b → b ≡ false
      other x e true k = absurd (none_some (sym new.unknown ∙ ap (named rows) (sym (bytes_same x i.name.name k)) ∙ e))
      other x e false k = refl

  -- what a body's surroundings owe it
  abbrev pub Outer : Bool → Around → Aims → Point → Ways → Entries c → Type 0
  Outer l w a p v e = EndWay c e w.exit a.end p v.ends × Sides c e l w a p v

  -- a body is kept wherever it is reached
  abbrev pub Lives : Body → Type 0
  Lives b =
      (l t : Bool) (e : Env) (rows : Rows) (vs : List Variable) (gs : List Slotted) (s : Scope) (w : Around) (n : Next) (p : Point) (a : Aims) (cu : Option Caught) (k : ℕ) → Said l t e rows s w n b
      → Ground base ns c few_slots few_locals w s n.local rows vs gs p a → Thrown rows gs s cu w.caught e.caught → AllFresh (uses k vs p cu b) → length (body_groups b) ≤ k
      → Live c w.hand a.hand gs p.stale (Outer l w a p (ways k b)) n.block (n.block + blocks_in w.looped.tried b) n.group (n.group + groups_in b) (lowered ns c.slots s w n b)

  -- what stands behind a statement
  pub rest_lives : (x : Body) → Lives x → (l t : Bool) (e : Env) (rows : Rows) (vs : List Variable) (gs : List Slotted) (s : Scope) (w : Around) (n j : Next) (p q : Point) (a : Aims)
      (cu : Option Caught) (k z : ℕ) (u : Ways)
      → Said l t e rows s w (begun j) x → Ground base ns c few_slots few_locals w s n.local rows vs gs p a → n.local ≤ j.local → Thrown rows gs s cu w.caught e.caught → q ≡ behind (length vs) p u.ends
      → z ≡ k → AllFresh (uses z vs q cu x)
      → length (body_groups x) ≤ k
      → Rest base ns c few_slots few_locals w.hand (Outer l w a p (sequence u (ways k x))) gs (length vs) p u j.block (suc j.block + blocks_in w.looped.tried x) j.group (j.group + groups_in x)
      (lowered ns c.slots s w (begun j) x)
  rest_lives x lives l t e rows vs gs s w n j p q a cu k z u said g le th eq ez fresh many =
      let r = behind (length vs) p u.ends in
      let v = ways k x in
      rest_of base ns c few_slots few_locals w.hand a.hand (Outer l w a r v) (Outer l w a p (sequence u v)) gs (length vs) p u j.block (suc j.block + blocks_in w.looped.tried x) j.group
      (j.group + groups_in x) (lowered ns c.slots s w (begun j) x)
      (ap (λ m. suc j.block + m) (lowered_more ns c.slots s w (begun j) x)) (ap (λ m. j.group + m) (lowered_groups ns c.slots s w (begun j) x))
      (λ h en o. (end_onward c en w.exit a.end (length vs) p u.ends v.ends h o.0, sides_second c en l w a (length vs) p u v h o.1))
      (λ h. lives l t e rows vs gs s w (begun j) r a cu k said (ground_past base ns c few_slots few_locals w s n.local j.local rows vs gs p r a le
      ((behind_is (length vs) p u.ends h).from ∙ g.start) g) th
      (subst (λ m. AllFresh (uses m vs r cu x)) ez (subst (λ m. AllFresh (uses z vs m cu x)) eq fresh)) many)

  abbrev EndNear : Bool → Around → Aims → Point → Exit → Entries c → Type 0
  EndNear l w a p x en = EndWay c en x a.end p at_once × Sides c en l w a p empty

  -- the end of a body
  pub end_lives : Lives End
  end_lives l t e rows vs gs s w n p a cu k said g th fresh many =
      live_to base ns c few_slots few_locals w.hand a.hand gs p.stale (Outer l w a p (ways k End)) n.block n.block (n.block + 0) n.group n.group (n.group + 0) (finished w s w.exit) (omega arith)
      (omega arith) (by_exit w.exit)
    where
      by_exit : (x : Exit) → Live c w.hand a.hand gs p.stale (EndNear l w a p x) n.block n.block n.group n.group (finished w s x)
      by_exit (Text None) =
          leaf base ns c few_slots few_locals w s gs p a (EndNear l w a p (Text None)) n.block n.group false [] (ReturnLast None) g.hand.from (λ z en o. absurd (false≢true z))
          (λ en o kc z cover guard. (in_none z, catches c en w.hand a.hand kc p.stale z g.hand.below guard (covers_sub z gs a.hand.places p.stale g.hand.sub cover), tt))
      by_exit (Text (Some close)) =
          leaf base ns c few_slots few_locals w s gs p a (EndNear l w a p (Text (Some close))) n.block n.group false [] (cancelled close) g.hand.from (λ z en o. absurd (false≢true z))
          (λ en o kc z cover guard. (in_none z, catches c en w.hand a.hand kc p.stale z g.hand.below guard (covers_sub z gs a.hand.places p.stale g.hand.sub cover), tt))
      by_exit (Scoped last) =
          leaf base ns c few_slots few_locals w s gs p a (EndNear l w a p (Scoped last)) n.block n.group false (drop_of (scope s)) last g.hand.from (λ z en o. absurd (false≢true z))
          (λ en o kc z cover guard. drop_kept c en w.hand a.hand kc (scope s) last a.end p at_once z refl o.0 g.end.below g.hand.below g.end.from g.scoped
          (covers_sub z gs a.end.places p.stale g.end.sub cover) (covers_sub z gs a.hand.places p.stale g.hand.sub cover) guard)
      by_exit (Part last) =
          leaf base ns c few_slots few_locals w s gs p a (EndNear l w a p (Part last)) n.block n.group false [] last g.hand.from (λ z en o. absurd o.0) (λ en o kc z cover guard. absurd o.0)

  -- an instruction, and then the rest of the text
  pub then_lives : (l : Bool) (rows : Rows) (vs : List Variable) (gs : List Slotted) (s : Scope) (w : Around) (n : Next) (p : Point) (a : Aims) (m g2 : ℕ) (v : Ways) (hs : List Slotted)
      (i : InstrTree) (ch : Chunk)
      → Ground base ns c few_slots few_locals w s n.local rows vs gs p a → Live c w.hand a.hand hs p.stale (Outer l w a p v) n.block m n.group g2 ch
      → ((z : Places) → Covers z gs p.stale → AllIn (instr_reads i) z) → ((z : Places) → Covers z gs p.stale → Covers (after i z) hs p.stale)
      → Live c w.hand a.hand gs p.stale (Outer l w a p (sequence (plain at_once) v)) n.block m n.group g2 (acting (i ∷ []) ch)
  then_lives l rows vs gs s w n p a m g2 v hs i ch g live reads grows =
      acting_live base ns c few_slots few_locals w.hand a.hand gs hs p.stale (Outer l w a p (sequence (plain at_once) v)) (Outer l w a p v) n.block m n.group g2 i ch live
      (λ en o. (end_onward c en w.exit a.end 0 p at_once v.ends refl o.0, sides_second c en l w a 0 p (plain at_once) v refl o.1)) reads grows g.hand.sub g.hand.below
      (λ en o. hand_fact c en w.hand a.hand p at_once refl (sides_first c en l w a p (plain at_once) v o.1).hand)

  pub assign_lives : (at : Place) (xs : List Ident) (q : ExprTree) (x : Body) → Lives x → Lives (AssignStmt at xs q x)
  assign_lives at xs q x lives l t e rows vs gs s w n p a cu k said g th fresh many =
      let f = item at (assign_fault e.setting xs q) in
      let st = said.stands in
      let judged = at_item base ns c few_slots few_locals agree e rows at (λ z. assign_fault z xs q) st.setting (neither_first f _ said.judged) in
      let us = target_uses vs p xs in
      let ws = expr_uses vs p q in
      let one = fresh_left (us ++ ws) (uses k vs p cu x) fresh in
      let i = assigned ns c.slots s (path_over c.slots s xs) q in
      let rest = lives l t e rows vs gs s w n p a cu k
      (record { stands = st; above = said.above; room = said.room; parts = said.parts.1; paths = said.paths.1; placed = said.placed; judged = neither_second f _ said.judged })
      g th (fresh_right (us ++ ws) (uses k vs p cu x) fresh) many in
      then_lives l rows vs gs s w n p a (n.block + blocks_in w.looped.tried x) (n.group + groups_in x) (ways k x) gs i (lowered ns c.slots s w n x) g rest
      (λ z cover. assign_in base ns c rows s st.sees vs gs n.local g.line p g.start z cover xs q judged one)
      (λ z cover. covers_after i z gs p.stale (keeps_assigned base ns c s (path_over c.slots s xs) q) cover)

  pub modify_lives : (at : Place) (xs : List Ident) (d : ChangeTree) (x : Body) → Lives x → Lives (ModifyStmt at xs d x)
  modify_lives at [] d x lives l t e rows vs gs s w n p a cu k said g th fresh many = absurd said.parts.0
  modify_lives at (y ∷ ys) d x lives l t e rows vs gs s w n p a cu k said g th fresh many =
      let f = item at (modify_fault e.setting (y ∷ ys) d) in
      let st = said.stands in
      let judged = at_item base ns c few_slots few_locals agree e rows at (λ z. modify_fault z (y ∷ ys) d) st.setting (neither_first f _ said.judged) in
      let us = named_use vs p y in
      let ws = change_uses vs p d in
      let one = fresh_left (us ++ ws) (uses k vs p cu x) fresh in
      let q = modified d (path_from (VarExpr y) ys) in
      let i = assigned ns c.slots s (path_over c.slots s (y ∷ ys)) q in
      let rest = lives l t e rows vs gs s w n p a cu k
      (record { stands = st; above = said.above; room = said.room; parts = said.parts.1; paths = said.paths.1; placed = said.placed; judged = neither_second f _ said.judged })
      g th (fresh_right (us ++ ws) (uses k vs p cu x) fresh) many in
      then_lives l rows vs gs s w n p a (n.block + blocks_in w.looped.tried x) (n.group + groups_in x) (ways k x) gs i (lowered ns c.slots s w n x) g rest
      (λ z cover. change_in base ns c rows s st.sees vs gs n.local g.line p g.start z cover y ys d judged one)
      (λ z cover. covers_after i z gs p.stale (keeps_assigned base ns c s (path_over c.slots s (y ∷ ys)) q) cover)

  named_path : (xs : List Ident) → IsPath xs → IsNamed xs
  named_path [] h = h
  named_path (x ∷ xs) h = h

  pub call_lives : (at : Place) (xs : List Ident) (es : ExprTrees) (x : Body) → Lives x → Lives (CallStmt at xs es x)
  call_lives at xs es x lives l t e rows vs gs s w n p a cu k said g th fresh many =
      let f = item at (call_fault e.setting xs es) in
      let st = said.stands in
      let judged = at_item base ns c few_slots few_locals agree e rows at (λ z. call_fault z xs es) st.setting (neither_first f _ said.judged) in
      let us = base_uses vs p xs in
      let ws = exprs_uses vs p es in
      let one = fresh_left (us ++ ws) (uses k vs p cu x) fresh in
      let i = ActInstr (act_over c.slots s xs) (over_all c.slots s es) in
      let rest = lives l t e rows vs gs s w n p a cu k
      (record { stands = st; above = said.above; room = said.room; parts = said.parts.1; paths = said.paths.1; placed = said.placed; judged = neither_second f _ said.judged })
      g th (fresh_right (us ++ ws) (uses k vs p cu x) fresh) many in
      then_lives l rows vs gs s w n p a (n.block + blocks_in w.looped.tried x) (n.group + groups_in x) (ways k x) gs i (lowered ns c.slots s w n x) g rest
      (λ z cover. act_in base ns c rows s st.sees vs gs n.local g.line p g.start z cover xs es judged one (named_path xs said.paths.0)) (λ z cover. covers_after i z gs p.stale (λ q. refl) cover)

  -- the value of a declaration
  pub value_in : (rows : Rows) (vs : List Variable) (gs : List Slotted) (s : Scope) (m : ℕ) (p : Point) → Sees base c rows s → Lined base c vs gs rows s m → p.from ≡ 0 → (y : Places)
      → Covers y gs p.stale → (i : IntoTree) (q : Option ExprTree) (v : ExprTree)
      → q ≡ Some v → value_fault (over_names base c rows) i.ty q ≡ None → AllFresh (maybe_uses vs p q) → AllIn (expr_places (over c.slots s v)) y
  value_in rows vs gs s m p sees line start y cover i q v is h fresh =
      let n = over_names base c rows in
      let k = subst (λ z. value_fault n i.ty z ≡ None) is h in
      whole_in base ns c rows s sees vs gs m line p start y cover true v (no_first (fault n true v) (wants (form n v) i.ty) k) (subst (λ z. AllFresh (maybe_uses vs p z)) is fresh)

  pub declare_lives : (at : Place) (i : IntoTree) (q : Option ExprTree) (x : Body) → Lives x → Lives (DeclareStmt at i q x)
  declare_lives at i q x lives l t e rows vs gs s w n p a cu k said g th fresh many =
      let f = item at (declare_fault e.setting e.states i q) in
      let st = said.stands in
      let h = no_item at (declare_fault e.setting e.states i q) (neither_first f _ said.judged) in
      let into = no_first (into_fault e.setting e.states i) (value_fault e.setting i.ty q) h in
      let value = ap (λ z. value_fault z i.ty q) (sym st.setting) ∙ no_second (into_fault e.setting e.states i) (value_fault e.setting i.ty q) h in
      let room = locals_front ns c n.local (declared_locals i) (body_locals x) said.room in
      let pl = placing ns c few_slots few_locals s n.local i said.above room said.placed.0 in
      let n1 = into_locals_count (Some i) in
      let z = taken (Some i) n in
      let new = new_here base ns c few_slots few_locals agree e rows i st.setting into in
      let us = maybe_uses vs p q in
      let hs = pl.to ∷ gs in
      let d = declared_by base ns c s n.local i q pl.to pl.is pl.named in
      let s2 = with_into i n.local s in
      let rows2 = rows ++ (i.name.name, i.ty) ∷ [] in
      let rest = lives l t (rule_declared e i) rows2 (declared i ∷ vs) hs s2 w z p a cu k
      (record {
        stands = stands_into base ns c few_slots few_locals agree e rows s w.caught n.local i st into pl;
        above = above_taken base ns c few_slots few_locals agree (Some i) n.local s said.above;
        room = locals_back ns c n.local z.local (declared_locals i) (body_locals x) (omega (arith, n1)) said.room;
        parts = said.parts.1;
        paths = said.paths.1;
        placed = subst (λ xs. InPlace c.slots l t xs x) (sym (names_with i.state i.name.name n.local s)) said.placed.1;
        judged = neither_second f _ said.judged;
      })
      (ground_into base ns c few_slots few_locals w s n.local rows vs gs p a i pl new g) (thrown_into rows gs s n.local i pl cu w.caught e.caught new th)
      (fresh_right us (uses k (declared i ∷ vs) p cu x) fresh) many in
      subst (λ is. Live c w.hand a.hand gs p.stale (Outer l w a p (sequence (plain at_once) (ways k x))) n.block (n.block + blocks_in w.looped.tried x) n.group (n.group + groups_in x)
      (acting is (lowered ns c.slots s2 w z x))) (sym d.is)
      (then_lives l rows vs gs s w n p a (n.block + blocks_in w.looped.tried x) (n.group + groups_in x) (ways k x) hs d.instr (lowered ns c.slots s2 w z x) g rest
      (λ y cover. d.reads y (λ v is. value_in rows vs gs s n.local p st.sees g.line g.start y cover i q v is value (fresh_left us (uses k (declared i ∷ vs) p cu x) fresh)))
      (λ y cover. covers_new d.instr y gs p.stale pl.to d.keeps d.fills cover))
