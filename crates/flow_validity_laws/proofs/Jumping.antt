-- Where a body is reached, its blocks are kept: jumps, scopes and choices.
use Rattle.std.proofs.Common.{◌≡◌, inr, ℕ, suc, ◌+◌, ◌-◌, ◌^◌, ◌<◌, Bool, true, false, List, [], ◌∷◌, ◌++◌, length, map, if◌then◌else◌, refl, ap, sym, subst, ◌∙◌, arith, length-append, append-nil}
use Rattle.std.proofs.lemmas.Bool.{false≢true}
use Rattle.std.specs.Option.{option_and_then, option_map}
use Rattle.std.specs.declared.option.Option.{Option}
use Rattle.std.specs.declared.option.Option.TheVariants.{None, Some}
use Rattle.flow_base.specs.declared.place.Place.{Place}
use Rattle.flow_tree.specs.Tree.{ErrorType, ExprTree, TypeTree}
use Rattle.flow_tree.specs.Body.{Body, End, BlockStmt, BreakStmt, ContinueStmt, ReturnStmt, ThrowStmt}
use Rattle.flow_ast.specs.Slots.{body_groups}
use Rattle.flow_ast.specs.Leaving.{has_statement}
use Rattle.flow_ast.specs.Typing.{is_there}
use Rattle.flow_class.specs.declared.class.Slotted.{Slotted}
use Rattle.flow_class.specs.Classes.{DropInstr, LastTree, GotoLast, ReturnLast, ThrowLast, ClassTree}
use Rattle.flow_class.specs.Places.{place_named}
use Rattle.flow_class.specs.Scopes.{Scope, Mark, place_of, var_over, over}
use Rattle.flow_catch.specs.Inner.{inner_locals, left_lists}
use Rattle.flow_layout.specs.Locals.{body_locals}
use Rattle.flow_rules.specs.Judged.{Setting, called, fault, form, wants, wanted, returned}
use Rattle.flow_rules.specs.Items.{item, behind as rule_behind, throw_fault, body_refusal}
use Rattle.flow_rules.proofs.Lesser.{no_first, holds}
use Rattle.flow_staterule.specs.declared.scope.Point.{Point}
use Rattle.flow_staterule.specs.declared.ways.Ways.{Ways}
use Rattle.flow_staterule.specs.declared.uses.Caught.{Caught}
use Rattle.flow_staterule.specs.Ways.{at_once, is_reached, both, node, sequence, ways}
use Rattle.flow_staterule.specs.Uses.{Variable, behind, expr_uses, left, beyond, thrown_uses, uses, maybe_uses}
use Rattle.flow_meaning.specs.Evaluating.{Names, effectful}
use Rattle.flow_split.specs.Around.{Scoped, Hand, Around, inner}
use Rattle.flow_split.specs.Counts.{Next, begun, past, behind as count_behind, exit_blocks, blocks_in, groups_in}
use Rattle.flow_split.specs.Lowered.{Chunk, joined, ends, before_rest, exits, exited, thrown, lowered}
use Rattle.flow_split.proofs.Lengths.{lowered_more, lowered_groups}
use Rattle.flow_valid.specs.Validity.{calls_effect}
use Rattle.flow_valid.specs.Named.{listed, expr_places, maybe_places}
use Rattle.flow_valid.specs.Filling.{among}
use Rattle.flow_lowering_laws.proofs.Actors.Standing.{locals_front}
use Rattle.flow_lowering_laws.proofs.Actors.Around.{above_more}
use Rattle.flow_lowering_laws.proofs.Actors.Further.{locals_after}
use Rattle.flow_typing_laws.proofs.Typing.Agreement.{neither_first, neither_second}
use Rattle.flow_validity_laws.proofs.OverPlaces.{over_names, Sees}
use Rattle.flow_validity_laws.proofs.Fitting.{at_item, stands_behind, stands_marked}
use Rattle.flow_validity_laws.proofs.Walks.{Places, AllIn}
use Rattle.flow_validity_laws.proofs.Waysides.{Exits}
use Rattle.flow_validity_laws.proofs.Lines.{filled, Covers, covers_filled, covers_sub, AllFresh, fresh_left, fresh_right, in_one, in_none, not_lost, Lined}
use Rattle.flow_validity_laws.proofs.Entries.{Aim, Lies, Entries, enters, catches, Live, later_dead, join}
use Rattle.flow_validity_laws.proofs.Surroundings.{Aims, behind_once, lists_from, LastWay, Sides, sides_right, sides_first, hand_fact, lists_kept}
use Rattle.flow_validity_laws.proofs.Reading.{whole_in}
use Rattle.flow_validity_laws.proofs.Grounds.{here_aim, Ground, ground_inner, live_to, leaf, exits_here}
use Rattle.flow_split.proofs.Lengths.{none_behind}
use Rattle.flow_validity_laws.proofs.Grounds.{no_aim, lies_nowhere}
use Rattle.flow_validity_laws.proofs.Alive.{Rows, Thrown, thrown_marked, Outer, Lives, rest_lives}
use Rattle.flow_validity_laws.proofs.Agreeing.{EffectsAgree}

module _ (base : Setting) (ns : Names) (c : ClassTree) (few_slots : length c.slots < 2 ^ 64) (few_locals : length c.locals < 2 ^ 64)
    (agree : EffectsAgree base ns) where
  abbrev pub Alives : Body → Type 0
  Alives b = Lives base ns c few_slots few_locals agree b

  abbrev pub Owed : Bool → Around → Aims → Point → Ways → Entries c → Type 0
  Owed l w a p v e = Outer base ns c few_slots few_locals agree l w a p v e

  -- a statement that nothing goes on from
  dead_live : (b : Bool) (x : Body) (h : Option Hand) (a : Aim) (gs : List Slotted) (st : ℕ) (outer : Entries c → Type 0) (n m z g : ℕ) (one d : Chunk) → has_statement x ≡ b
      → Live c h a gs st outer n m g g one → length d.more ≡ z → length d.groups ≡ groups_in x
      → Live c h a gs st outer n (m + (if b then suc z else 0)) g (g + groups_in x) (if b then joined h one d else one)
  dead_live true x h a gs st outer n m z g one d e v size gsize =
      live_to base ns c few_slots few_locals h a gs st outer n (suc m + z) (m + suc z) g (g + groups_in x) (g + groups_in x) (joined h one d) (omega arith) refl
      (join c h h a gs st outer outer outer n m (suc m + z) g g (g + groups_in x) one d v (later_dead c h outer m (suc m + z) g (g + groups_in x) d (ap (λ k. suc m + k) size) (ap (λ k. g + k) gsize))
      (λ en o is. o) (λ en o is. o))
  dead_live false x h a gs st outer n m z g one d e v size gsize =
      live_to base ns c few_slots few_locals h a gs st outer n m (m + 0) g g (g + groups_in x) one (omega arith) (omega (arith, none_behind x e)) v

  -- the result that is returned
  result_in : (rows : Rows base ns c few_slots few_locals agree) (vs : List Variable) (gs : List Slotted) (s : Scope) (m : ℕ) (p : Point) (z : Places) (q : Option ExprTree) (t : TypeTree)
      → Sees base c rows s → Lined base c vs gs rows s m → p.from ≡ 0 → Covers z gs p.stale → returned (over_names base c rows) q t ≡ None → AllFresh (maybe_uses vs p q)
      → AllIn (maybe_places (option_map (over c.slots s) q)) z
  result_in rows vs gs s m p z None t sees line start cover f fresh = in_none z
  result_in rows vs gs s m p z (Some e) t sees line start cover f fresh =
      let names = over_names base c rows in
      whole_in base ns c rows s sees vs gs m line p start z cover false e (no_first (fault names false e) (wants (form names e) t) f) fresh

  pub return_lives : (at : Place) (q : Option ExprTree) (x : Body) → Alives (ReturnStmt at q x)
  return_lives at q x l t e rows vs gs s w n p a cu k said g th fresh many =
      let f = item at (returned e.setting q e.returns) in
      let st = said.stands in
      let judged = at_item base ns c few_slots few_locals agree e rows at (λ z. returned z q e.returns) st.setting (neither_first f _ said.judged) in
      let us = maybe_uses vs p q in
      let d = lowered ns c.slots s w (begun n) x in
      let near = Owed l w a p (node at_once) in
      let one = leaf base ns c few_slots few_locals w s gs p a near n.block n.group true [] (ReturnLast (option_map (over c.slots s) q)) g.hand.from (λ z en o. hand_fact c en w.hand a.hand p at_once refl o.1.hand)
      (λ en o kc z cover guard. (
        result_in rows vs gs s n.local p z q e.returns st.sees g.line g.start cover judged (fresh_left us _ fresh),
        catches c en w.hand a.hand kc p.stale z g.hand.below guard (covers_sub z gs a.hand.places p.stale g.hand.sub cover),
        tt,
      )) in
      dead_live (has_statement x) x w.hand a.hand gs p.stale near n.block n.block (blocks_in w.looped.tried x) n.group (ends w s true [] (ReturnLast (option_map (over c.slots s) q))) d refl one
      (lowered_more ns c.slots s w (begun n) x) (lowered_groups ns c.slots s w (begun n) x)

  -- the error that is thrown
  thrown_in : (rows : Rows base ns c few_slots few_locals agree) (vs : List Variable) (gs : List Slotted) (s : Scope) (m : ℕ) (p : Point) (o : Option (List ℕ)) (cu : Option Caught) (caught : Bool)
      (z : Places) (at : Place) (q : Option ExprTree) → Sees base c rows s → Lined base c vs gs rows s m → p.from ≡ 0
      → Covers z gs p.stale → Thrown base ns c few_slots few_locals agree rows gs s cu o caught → throw_fault (over_names base c rows) caught q ≡ None → AllFresh (thrown_uses p cu at q vs)
      → AllIn (expr_places (thrown ns c.slots s at q o)) z
  thrown_in rows vs gs s m p o cu caught z at (Some q) sees line start cover th f fresh =
      let names = over_names base c rows in
      whole_in base ns c rows s sees vs gs m line p start z cover false q (no_first (fault names false q) (wants (form names q) ErrorType) f) fresh
  thrown_in rows vs gs s m p o cu caught z at None sees line start cover th f fresh =
      let k = th.known (holds caught _ f) in
      let stale = not_lost p at k.used.declared k.used.number start (subst (λ y. AllFresh (thrown_uses p y at None vs)) k.is fresh) in
      subst (λ y. AllIn (listed (place_named (var_over (option_and_then (place_of c.slots s) y)))) z) (sym k.called_so)
      (subst (λ y. AllIn (listed (place_named (var_over y))) z) (sym k.place) (subst (λ y. AllIn (listed y) z) (sym k.read) (in_one z k.to (cover k.to (k.used.number, k.has, λ r. stale)))))

  pub throw_lives : (at : Place) (q : Option ExprTree) (x : Body) → Alives (ThrowStmt at q x)
  throw_lives at q x l t e rows vs gs s w n p a cu k said g th fresh many =
      let f = item at (throw_fault e.setting e.caught q) in
      let st = said.stands in
      let judged = at_item base ns c few_slots few_locals agree e rows at (λ z. throw_fault z e.caught q) st.setting (neither_first f _ said.judged) in
      let us = thrown_uses p cu at q vs in
      let d = lowered ns c.slots s w (begun n) x in
      let near = Owed l w a p (node at_once) in
      let last = ThrowLast (thrown ns c.slots s at q w.caught) in
      let one = leaf base ns c few_slots few_locals w s gs p a near n.block n.group true [] last g.hand.from (λ z en o. hand_fact c en w.hand a.hand p at_once refl o.1.hand)
      (λ en o kc z cover guard. (
        thrown_in rows vs gs s n.local p w.caught cu e.caught z at q st.sees g.line g.start cover th judged (fresh_left us _ fresh),
        catches c en w.hand a.hand kc p.stale z g.hand.below guard (covers_sub z gs a.hand.places p.stale g.hand.sub cover),
        tt,
      )) in
      dead_live (has_statement x) x w.hand a.hand gs p.stale near n.block n.block (blocks_in w.looped.tried x) n.group (ends w s true [] last) d refl one (lowered_more ns c.slots s w (begun n) x)
      (lowered_groups ns c.slots s w (begun n) x)

  -- a break or a continue
  exits_live : (b : Bool) (l : Bool) (rows : Rows base ns c few_slots few_locals agree) (vs : List Variable) (gs : List Slotted) (s : Scope) (w : Around) (n : Next) (p : Point) (a : Aims) (aim : Aim)
      (last : LastTree) (near : Entries c → Type 0) → w.looped.tried ≡ b
      → Ground base ns c few_slots few_locals w s n.local rows vs gs p a → Lies aim gs (inner_locals w.looped.depth s) n.local → ((e : Entries c) → near e → LastWay c e last aim p at_once)
      → Live c w.hand a.hand gs p.stale near n.block (n.block + exit_blocks b) n.group n.group (exits b w s n last)
  exits_live false l rows vs gs s w n p a aim last near e g lies way =
      live_to base ns c few_slots few_locals w.hand a.hand gs p.stale near n.block n.block (n.block + 0) n.group n.group n.group (exits false w s n last) (omega arith) refl
      (leaf base ns c few_slots few_locals w s gs p a near n.block n.group false (map DropInstr (left_lists w.looped.depth s)) last g.hand.from (λ z en o. absurd (false≢true z))
      (λ en o kc z cover guard. lists_kept c en w.hand a.hand kc (left_lists w.looped.depth s) last aim p at_once z refl (way en o) lies.below g.hand.below
      (lists_from aim.from w.looped.depth s lies.from) (lists_from a.hand.from w.looped.depth s (g.looped e))
      (covers_sub z gs aim.places p.stale lies.sub cover) (covers_sub z gs a.hand.places p.stale g.hand.sub cover) guard))
  exits_live true l rows vs gs s w n p a aim last near e g lies way =
      let nowhere = lies_nowhere gs (inner_locals w.looped.depth s) n.local in
      record {
        entries = Some (filled gs p.stale) ∷ [];
        size = refl;
        gsize = omega arith;
        acts = λ z en at o. absurd (false≢true z);
        held = g.hand.from;
        kept = λ en at o gr. record {
          first = λ kc z cover guard. (
            in_none z,
            catches c en w.hand a.hand kc p.stale z g.hand.below guard (covers_sub z gs a.hand.places p.stale g.hand.sub cover),
            enters c en z n.block gs gs p.stale p.stale cover at.0 (λ j q k. k) (inr (omega arith)),
          );
          more = (
            lists_kept c en None no_aim None (left_lists w.looped.depth s) last aim p at_once (among (filled gs p.stale)) refl (way en o) lies.below nowhere.below
                (lists_from aim.from w.looped.depth s lies.from) (lists_from 0 w.looped.depth s nowhere.from)
                (covers_sub (among (filled gs p.stale)) gs aim.places p.stale lies.sub (covers_filled gs p.stale)) (λ q h. absurd h.1) tt,
            tt,
          );
        };
      }

  exited_block : (t : Bool) (n : Next) → (exited t n).block ≡ n.block + exit_blocks t
  exited_block true n = omega arith
  exited_block false n = omega arith

  leave_lives : (x : Body) (l : Bool) (rows : Rows base ns c few_slots few_locals agree) (vs : List Variable) (gs : List Slotted) (s : Scope) (w : Around) (n : Next) (p : Point) (a : Aims) (aim : Aim)
      (last : LastTree) (near : Entries c → Type 0)
      → Ground base ns c few_slots few_locals w s n.local rows vs gs p a → Lies aim gs (inner_locals w.looped.depth s) n.local → ((e : Entries c) → near e → LastWay c e last aim p at_once)
      → Live c w.hand a.hand gs p.stale near n.block (n.block + (exit_blocks w.looped.tried + count_behind x (blocks_in w.looped.tried x))) n.group (n.group + groups_in x)
      (before_rest w.hand (exits w.looped.tried w s n last) x (lowered ns c.slots s w (begun (exited w.looped.tried n)) x))
  leave_lives x l rows vs gs s w n p a aim last near g lies way =
      let t = w.looped.tried in
      let j = exited t n in
      let d = lowered ns c.slots s w (begun j) x in
      let z = blocks_in t x in
      live_to base ns c few_slots few_locals w.hand a.hand gs p.stale near n.block (n.block + exit_blocks t + count_behind x z) (n.block + (exit_blocks t + count_behind x z)) n.group
      (n.group + groups_in x) (n.group + groups_in x) (before_rest w.hand (exits t w s n last) x d) (omega arith) refl
      (dead_live (has_statement x) x w.hand a.hand gs p.stale near n.block (n.block + exit_blocks t) z n.group (exits t w s n last) d refl
      (exits_live t l rows vs gs s w n p a aim last near refl g lies way)
      (lowered_more ns c.slots s w (begun j) x) (lowered_groups ns c.slots s w (begun j) x))

  pub break_lives : (at : Place) (x : Body) → Alives (BreakStmt at x)
  break_lives at x l t e rows vs gs s w n p a cu k said g th fresh many =
      leave_lives x l rows vs gs s w n p a a.out (GotoLast w.looped.out) (Owed l w a p (ways k (BreakStmt at x))) g g.out (λ en o. o.1.out said.placed.0)

  pub continue_lives : (at : Place) (x : Body) → Alives (ContinueStmt at x)
  continue_lives at x l t e rows vs gs s w n p a cu k said g th fresh many =
      leave_lives x l rows vs gs s w n p a a.again w.looped.again (Owed l w a p (ways k (ContinueStmt at x))) g g.again (λ en o. o.1.again said.placed.0)

  -- a scope of its own owes what its surroundings owe
  abbrev pub scoped : Around → ℕ → Around
  scoped w t = inner w (Scoped (GotoLast t))

  abbrev pub ended : Aims → List Slotted → ℕ → ℕ → Aims
  ended a gs st m = record a { end = here_aim gs st m }

  pub inner_owed : (en : Entries c) (l : Bool) (w : Around) (t m : ℕ) (a : Aims) (gs : List Slotted) (p : Point) (st : ℕ) (v : Ways) → (is_reached v.ends ≡ true → en t ≡ Some (filled gs st))
      → Exits st (length gs) p.stale v.ends → Sides c en l w a p v
      → Owed l (scoped w t) (ended a gs st m) p v en
  inner_owed en l w t m a gs p st v is ex s = (record { reached = is; exits = ex }, record { out = s.out; again = s.again; hand = s.hand })

  -- the waits of a body, with nothing behind it
  pub waits_alone : (k : ℕ) (b : Body) → k - length (body_groups b ++ []) ≡ k - length (body_groups b)
  waits_alone k b = ap (λ z. k - length z) (append-nil (body_groups b))

  pub block_lives : (at : Place) (b x : Body) → Alives b → Alives x → Alives (BlockStmt at b x)
  block_lives at b x body rest l t e rows vs gs s w n p a cu k said g th fresh many =
      let r = ways k b in
      let u = both (node at_once) r in
      let k1 = k - length (body_groups b) in
      let v = ways k1 x in
      let j = past w.looped.tried b n in
      let st = (behind (length vs) p r.ends).stale in
      let sum = length-append (body_groups b) (body_groups x) in
      let us = uses k vs p cu b in
      let q = beyond k vs p (BlockStmt at b End) in
      let k2 = left k (BlockStmt at b End) in
      let ws = uses k2 vs q cu x in
      let c1 = lowered ns c.slots (Mark ∷ s) (scoped w j.block) n b in
      let live = body l t e rows vs gs (Mark ∷ s) (scoped w j.block) n p (ended a gs st n.local) cu k
      (record {
        stands = stands_marked base ns c few_slots few_locals agree e rows s w.caught said.stands;
        above = said.above;
        room = locals_front ns c n.local (body_locals b) (body_locals x) said.room;
        parts = said.parts.1;
        paths = said.paths.1;
        placed = said.placed.0;
        judged = neither_first (body_refusal e b) _ said.judged;
      })
      (ground_inner base ns c few_slots few_locals w (Scoped (GotoLast j.block)) s n.local n.local rows vs gs p p a st (omega arith) g.start g)
      (thrown_marked base ns c few_slots few_locals agree rows gs s cu w.caught e.caught th) (fresh_left us ws fresh)
      (omega (arith, many, sum)) in
      let r2 = rest_lives base ns c few_slots few_locals agree x rest l t (rule_behind e b) rows vs gs s w n j p q a cu k1 k2 u
      (record {
        stands = stands_behind base ns c few_slots few_locals agree e b rows s w.caught said.stands;
        above = above_more ns c n.local j.local s (omega arith) said.above;
        room = locals_after ns c b n.local (body_locals x) said.room;
        parts = said.parts.2;
        paths = said.paths.2;
        placed = said.placed.1;
        judged = neither_second (body_refusal e b) _ said.judged;
      })
      g (omega arith) th (behind_once (length vs) p u) (waits_alone k b) (fresh_right us ws fresh) (omega (arith, many, sum)) in
      live_to base ns c few_slots few_locals w.hand a.hand gs p.stale (Owed l w a p (sequence u v)) n.block (suc j.block + blocks_in w.looped.tried x)
      (n.block + (blocks_in w.looped.tried b + suc (blocks_in w.looped.tried x))) n.group (j.group + groups_in x)
      (n.group + (groups_in b + groups_in x)) (joined w.hand c1 (lowered ns c.slots s w (begun j) x)) (omega arith) (omega arith)
      (join c w.hand w.hand a.hand gs p.stale (Owed l w a p (sequence u v)) (Owed l (scoped w j.block) (ended a gs st n.local) p r) (Owed l w a p (sequence u v)) n.block j.block
      (suc j.block + blocks_in w.looped.tried x) n.group j.group (j.group + groups_in x) c1
      (lowered ns c.slots s w (begun j) x) live r2.later
      (λ en o is. inner_owed en l w j.block n.local a gs p st r (λ h. is ∙ r2.entry_is h) (exits_here base ns c few_slots few_locals vs gs p r.ends g.line.size)
      (sides_right c en l w a p (node at_once) r (sides_first c en l w a p u v o.1))) (λ en o is. o))
