-- Where a body is reached, its blocks are kept: a try and its handler.
use Rattle.std.proofs.Common.{◌≡◌, inl, inr, ℕ, suc, ◌+◌, ◌-◌, ◌^◌, ◌<◌, ◌≤◌, Bool, true, false, List, [], ◌∷◌, ◌++◌, length, refl, ap, ◌∙◌, arith, length-append, append-nil}
use Rattle.std.proofs.lemmas.Option.{slice_get_within}
use Rattle.std.specs.declared.option.Option.{Option}
use Rattle.std.specs.declared.option.Option.TheVariants.{Some}
use Rattle.flow_base.specs.declared.place.Place.{Place}
use Rattle.flow_tree.specs.declared.ty.Ident.{Ident}
use Rattle.flow_tree.specs.Tree.{TypeTree, ErrorType}
use Rattle.flow_tree.specs.Body.{Body, End, TryStmt}
use Rattle.flow_ast.specs.Slots.{body_groups}
use Rattle.flow_ast.specs.Typing.{is_there}
use Rattle.flow_class.specs.declared.class.Slotted.{Slotted}
use Rattle.flow_class.specs.declared.class.Slotted.TheVariants as place
use Rattle.flow_class.specs.Classes.{GotoLast, ClassTree}
use Rattle.flow_class.specs.Scopes.{Scope, Mark, Var}
use Rattle.flow_catch.specs.Inner.{inner_locals}
use Rattle.flow_layout.specs.Locals.{body_locals}
use Rattle.flow_rules.specs.Judged.{Setting, called}
use Rattle.flow_rules.specs.Items.{item, behind as rule_behind, body_refusal}
use Rattle.flow_staterule.specs.declared.scope.Point.{Point}
use Rattle.flow_staterule.specs.declared.ways.Ways.{Ways}
use Rattle.flow_staterule.specs.declared.uses.Caught.{Caught}
use Rattle.flow_staterule.specs.Ways.{at_once, onward, plain, sequence, ways}
use Rattle.flow_staterule.specs.Uses.{Variable, behind, left, beyond, uses}
use Rattle.flow_meaning.specs.Evaluating.{Names, effectful}
use Rattle.flow_split.specs.Around.{Exit, Scoped, Hand, Around}
use Rattle.flow_split.specs.Counts.{begun, past, blocks_in, locals_in, groups_in}
use Rattle.flow_split.specs.Lowered.{joined, ends, lowered}
use Rattle.flow_split.proofs.Lengths.{lowered_more, lowered_groups}
use Rattle.flow_valid.specs.Validity.{calls_effect}
use Rattle.flow_lowering_laws.proofs.Actors.Standing.{locals_front, locals_back}
use Rattle.flow_lowering_laws.proofs.Actors.Around.{above_more}
use Rattle.flow_lowering_laws.proofs.Actors.Further.{locals_count, locals_after, try_room}
use Rattle.flow_typing_laws.proofs.Typing.Agreement.{neither_first, neither_second}
use Rattle.flow_validity_laws.proofs.OverPlaces.{over_names}
use Rattle.flow_validity_laws.proofs.InForce.{New}
use Rattle.flow_validity_laws.proofs.Fitting.{Stands, at_item, stands_behind, stands_marked}
use Rattle.flow_validity_laws.proofs.Waysides.{behind_is, exits_left, exits_right}
use Rattle.flow_validity_laws.proofs.Lines.{filled, fresh_left, fresh_right}
use Rattle.flow_validity_laws.proofs.Entries.{Entries, later_live, join}
use Rattle.flow_validity_laws.proofs.Surroundings.{Aims, behind_once, sides_first}
use Rattle.flow_validity_laws.proofs.Grounds.{number_in, here_aim, Ground, live_to, rest_of, exits_here}
use Rattle.flow_rules.specs.Items.{with_var, in_catch, fresh as rule_fresh}
use Rattle.flow_staterule.specs.Ways.{handled}
use Rattle.flow_staterule.specs.Uses.{caught_as}
use Rattle.flow_split.specs.Around.{guarded, handling}
use Rattle.flow_validity_laws.proofs.Waysides.{reached_left, reached_right, reached_onward, exits_onward}
use Rattle.flow_validity_laws.proofs.Surroundings.{way_left, way_right, way_onward, hand_right, hand_onward, last_left, last_right, last_onward}
use Rattle.flow_validity_laws.proofs.Grounds.{ground_guarded}
use Rattle.flow_validity_laws.proofs.Alive.{Thrown, thrown_marked, Outer, Lives, rest_lives}
use Rattle.flow_validity_laws.proofs.Entries.{later_entry, join_two}
use Rattle.flow_lowering_laws.proofs.Actors.Places.{local_named}
use Rattle.flow_validity_laws.proofs.InForce.{is_new, grows_local}
use Rattle.flow_validity_laws.proofs.Fitting.{sees_marked, with_row, last_found}
use Rattle.flow_validity_laws.proofs.InForce.{sees_error}
use Rattle.flow_validity_laws.proofs.Lines.{lined_more, lined_marked}
use Rattle.flow_validity_laws.proofs.Grounds.{lies_more}
use Rattle.flow_validity_laws.proofs.Choosings.{jump_leaf, monus_twice}
use Rattle.flow_validity_laws.proofs.Agreeing.{EffectsAgree}

module _ (base : Setting) (ns : Names) (c : ClassTree) (few_slots : length c.slots < 2 ^ 64) (few_locals : length c.locals < 2 ^ 64)
    (agree : EffectsAgree base ns) where
  abbrev Alives : Body → Type 0
  Alives b = Lives base ns c few_slots few_locals agree b

  abbrev Owed : Bool → Around → Aims → Point → Ways → Entries c → Type 0
  Owed l w a p v e = Outer base ns c few_slots few_locals agree l w a p v e

  abbrev RowsHere : Type 0
  RowsHere = List (List ℕ × TypeTree)

  -- the handler begins with its error
  ground_error : (w : Around) (x : Exit) (y : Ident) (s : Scope) (l m : ℕ) (rows : RowsHere) (vs : List Variable) (gs : List Slotted) (p q : Point) (a : Aims) (st : ℕ) → l ≤ m → m < length c.locals
      → q.from ≡ 0 → New rows y.name → Ground base ns c few_slots few_locals w s l rows vs gs p a
      → Ground base ns c few_slots few_locals (handling w x y.name) (Var y.name m ∷ Mark ∷ s) (suc m) (rows ++ (y.name, ErrorType) ∷ []) (caught_as y ∷ vs) (place.Local m ∷ gs) q
      (record a { end = here_aim gs st l })
  ground_error w x y s l m rows vs gs p q a st le own z new g = record {
    line = lined_more base c ns few_slots few_locals vs gs rows (Mark ∷ s) (Var y.name m ∷ Mark ∷ s) m (suc m) (caught_as y) ErrorType (place.Local m)
        (lined_marked base c vs gs rows s l m le g.line) new (grows_local base ns c few_slots few_locals (Mark ∷ s) y.name m)
        (local_named m (omega (arith, own, few_locals))) refl (omega arith) (λ k e. small k (ap number_in e));
    start = z;
    end = record { sub = λ j r k. inr k; below = λ j k h. g.line.below j k h; from = (le, tt); low = omega arith };
    out = lies_more a.out gs (place.Local m) (inner_locals w.looped.depth s) (m ∷ inner_locals w.looped.depth s) l (suc m) (omega arith) (λ lo h. (omega arith, h)) g.out;
    again = lies_more a.again gs (place.Local m) (inner_locals w.looped.depth s) (m ∷ inner_locals w.looped.depth s) l (suc m) (omega arith) (λ lo h. (omega arith, h)) g.again;
    hand = lies_more a.hand gs (place.Local m) (inner_locals w.depth s) (m ∷ inner_locals w.depth s) l (suc m) (omega arith) (λ lo h. (omega arith, h)) g.hand;
    scoped = (omega (arith, g.hand.low), tt);
    looped = λ t. (omega (arith, g.hand.low), g.looped t);
  }
    where
      small : (k : ℕ) → m ≡ k → k < suc m
      small k e = omega (arith, e)

  pub try_lives : (at spot : Place) (y : Ident) (b o x : Body) → Alives b → Alives o → Alives x → Alives (TryStmt at b spot y o x)
  try_lives at spot y b o x body handler rest l t e rows vs gs s w n p a cu k said g th fresh many =
      let tr = w.looped.tried in
      let kb = k - length (body_groups b) in
      let k1 = k - length (body_groups b) - length (body_groups o) in
      let r = ways k b in
      let r' = ways kb o in
      let u = handled r r' in
      let v = ways k1 x in
      let m = past true b (begun n) in
      let gg = begun (record m { local = suc m.local }) in
      let j = past tr o gg in
      let hand : Hand = record { block = m.block; error = m.local } in
      let exit = Scoped (GotoLast j.block) in
      let hp = behind (length vs) p r.throws in
      let st = (behind (length vs) p u.ends).stale in
      let w1 = guarded w exit hand in
      let a1 : Aims = record a { end = here_aim gs st n.local; hand = here_aim gs hp.stale n.local } in
      let w2 = handling w exit y.name in
      let s2 = Var y.name m.local ∷ Mark ∷ s in
      let rows2 = rows ++ (y.name, ErrorType) ∷ [] in
      let vs2 = caught_as y ∷ vs in
      let gs2 = place.Local m.local ∷ gs in
      let a2 : Aims = record a { end = here_aim gs st n.local } in
      let cu2 : Option Caught = Some (record { number = length vs; declared = y.at }) in
      let sum1 = length-append (body_groups b) (body_groups o) in
      let sum2 = length-append (body_groups b ++ body_groups o) (body_groups x) in
      let us = uses k vs p cu b in
      let os = uses kb vs2 hp cu2 o in
      let point = beyond k vs p (TryStmt at b spot y o End) in
      let k2 = left k (TryStmt at b spot y o End) in
      let ws = uses k2 vs point cu x in
      let fresh12 = fresh_left (us ++ os) ws fresh in
      let eb = rule_behind e b in
      let ec = in_catch (with_var eb y.name ErrorType) in
      let h1 = neither_second (body_refusal e b) _ said.judged in
      let i = item spot (rule_fresh e.setting eb.states false y.name) in
      let h2 = neither_second i _ h1 in
      let stb = stands_behind base ns c few_slots few_locals agree e b rows s w.caught said.stands in
      let new = is_new (over_names base c rows) eb.states false y.name
      (at_item base ns c few_slots few_locals agree e rows spot (λ z. rule_fresh z eb.states false y.name) said.stands.setting (neither_first i _ h1)) in
      let whole = try_room ns c b o (body_locals x) n.local said.room in
      let room123 = locals_front ns c n.local (body_locals b ++ (ErrorType ∷ []) ++ body_locals o) (body_locals x) whole in
      let room12 = locals_front ns c n.local (body_locals b ++ (ErrorType ∷ [])) (body_locals o) room123 in
      let error = locals_after ns c b n.local (ErrorType ∷ []) room12 in
      let own = slice_get_within c.locals m.local ErrorType error.0 in
      let n12 : length (body_locals b ++ (ErrorType ∷ [])) ≡ suc (locals_in b) = omega (arith, length-append (body_locals b) (ErrorType ∷ []), locals_count b) in
      let n123 : length (body_locals b ++ (ErrorType ∷ []) ++ body_locals o) ≡ suc (locals_in b) + locals_in o =
      omega (arith, length-append (body_locals b ++ (ErrorType ∷ [])) (body_locals o), n12, locals_count o) in
      let sees2 = sees_error base ns c few_slots few_locals rows (Mark ∷ s) m.local y.name (sees_marked base ns c few_slots few_locals agree rows s said.stands.sees) new error.0 in
      let stands2 : Stands base ns c few_slots few_locals agree ec rows2 s2 (Some y.name) = record {
        setting = ap (with_row y.name ErrorType) said.stands.setting;
        returns = said.stands.returns;
        sees = sees2;
        caught = record { known = λ z. (y.name, refl, last_found base ns c few_slots few_locals agree rows y.name new.unknown) };
      } in
      let th2 : Thrown base ns c few_slots few_locals agree rows2 gs2 s2 cu2 (Some y.name) true = record {
        known = λ z. record {
          used = record { number = length vs; declared = y.at };
          is = refl;
          name = y.name;
          called_so = refl;
          typed = last_found base ns c few_slots few_locals agree rows y.name new.unknown;
          to = place.Local m.local;
          place = (grows_local base ns c few_slots few_locals (Mark ∷ s) y.name m.local).own;
          read = local_named m.local (omega (arith, own, few_locals));
          has = inl (g.line.size, refl);
        };
      } in
      let c0 = ends w s false [] (GotoLast n.block) in
      let c1 = lowered ns c.slots (Mark ∷ s) w1 (begun n) b in
      let c2 = lowered ns c.slots s2 w2 gg o in
      let c3 = lowered ns c.slots s w (begun j) x in
      let outer = Owed l w a p (sequence u v) in
      let ex = exits_here base ns c few_slots few_locals vs gs p u.ends g.line.size in
      let live1 = body l t e rows vs gs (Mark ∷ s) w1 (begun n) p a1 cu k
      (record {
        stands = (let z = stands_marked base ns c few_slots few_locals agree e rows s w.caught said.stands in record { setting = z.setting; returns = z.returns; sees = z.sees; caught = z.caught });
        above = said.above;
        room = locals_front ns c n.local (body_locals b) (ErrorType ∷ []) room12;
        parts = said.parts.1;
        paths = said.paths.1;
        placed = said.placed.0;
        judged = neither_first (body_refusal e b) _ said.judged;
      })
      (ground_guarded base ns c few_slots few_locals w exit hand s n.local n.local rows vs gs p p a st hp.stale (omega arith) g.start g)
      (thrown_marked base ns c few_slots few_locals agree rows gs s cu w.caught e.caught th) (fresh_left us os fresh12)
      (omega (arith, many, sum1, sum2)) in
      let r2 = rest_lives base ns c few_slots few_locals agree x rest l t (rule_behind eb o) rows vs gs s w n j p point a cu k1 k2 u
      (record {
        stands = stands_behind base ns c few_slots few_locals agree eb o rows s w.caught stb;
        above = above_more ns c n.local j.local s (omega arith) said.above;
        room = locals_back ns c n.local j.local (body_locals b ++ (ErrorType ∷ []) ++ body_locals o) (body_locals x) (omega (arith, n123)) whole;
        parts = said.parts.3;
        paths = said.paths.3;
        placed = said.placed.2;
        judged = neither_second (body_refusal ec o) _ h2;
      })
      g (omega arith) th (behind_once (length vs) p u)
      (ap (λ z. k - length z) (append-nil (body_groups b ++ body_groups o)) ∙ monus_twice k (length (body_groups b)) (length (body_groups o)) (length (body_groups b ++ body_groups o)) sum1)
      (fresh_right (us ++ os) ws fresh) (omega (arith, many, sum1, sum2)) in
      let near1 : Entries c → Type 0 = λ en. outer en × (en j.block ≡ r2.later.entry) in
      let near0 : Entries c → Type 0 = λ en. en n.block ≡ Some (filled gs p.stale) in
      let one = jump_leaf base ns c few_slots few_locals agree gs s w n.local p a near0 n.block n.group n.block p.stale (GotoLast n.block) g.hand (λ en q. q) (inr (omega arith)) refl in
      let owed1 = Owed l w1 a1 p r in
      let later1 = later_live c (Some hand) a1.hand gs p.stale owed1 n.block m.block n.group m.group c1 live1 in
      let entry1 = later_entry c (Some hand) a1.hand gs p.stale owed1 n.block m.block n.group m.group c1 live1 in
      let two = rest_of base ns c few_slots few_locals w.hand a.hand (Owed l w2 a2 hp r') near1 gs2 (length vs) p (plain r.throws) m.block j.block m.group j.group c2
      (ap (λ z. suc m.block + z) (lowered_more ns c.slots s2 w2 gg o)) (ap (λ z. m.group + z) (lowered_groups ns c.slots s2 w2 gg o))
      (λ h en q. let sides = sides_first c en l w a p u v q.0.1 in (
        record {
          reached = λ z. q.1 ∙ r2.entry_is (reached_right r.ends (onward r.throws r'.ends) (reached_onward r.throws r'.ends h z));
          exits = exits_onward st (length gs) (length vs) p r.throws r'.ends h (exits_right st (length gs) p.stale r.ends (onward r.throws r'.ends) ex);
        },
        record {
          out = λ z. way_onward c en w.looped.out a.out (length vs) p r.throws r'.breaks h (way_right c en w.looped.out a.out p r.breaks (onward r.throws r'.breaks) (sides.out z));
          again = λ z. last_onward c en w.looped.again a.again (length vs) p r.throws r'.continues h
              (last_right c en w.looped.again a.again p r.continues (onward r.throws r'.continues) (sides.again z));
          hand = hand_onward c en w.hand a.hand (length vs) p r.throws r'.throws h (hand_right c en w.hand a.hand p at_once (onward r.throws r'.throws) sides.hand);
        },
      ))
      (λ h. handler l true ec rows2 vs2 gs2 s2 w2 gg hp a2 cu2 kb
      (record {
        stands = stands2;
        above = (omega arith, above_more ns c n.local gg.local s (omega arith) said.above);
        room = locals_back ns c n.local gg.local (body_locals b ++ (ErrorType ∷ [])) (body_locals o) (omega (arith, n12)) room123;
        parts = said.parts.2;
        paths = said.paths.2;
        placed = said.placed.1;
        judged = neither_first (body_refusal ec o) _ h2;
      })
      (ground_error w exit y s n.local m.local rows vs gs p hp a st (omega arith) own ((behind_is (length vs) p r.throws h).from ∙ g.start) new g) th2 (fresh_right us os fresh12)
      (omega (arith, many, sum1, sum2))) in
      let all = join_two c w.hand (Some hand) w.hand a.hand gs p.stale near1 near0 owed1 near1 n.block n.block m.block j.block n.group n.group m.group j.group c0 c1 c2 one later1 two.later
      (λ en q i1 i2. i1 ∙ entry1)
      (λ en q i1 i2. let sides = sides_first c en l w a p u v q.0.1 in (
        record { reached = λ h. q.1 ∙ r2.entry_is (reached_left r.ends (onward r.throws r'.ends) h); exits = exits_left st (length gs) p.stale r.ends (onward r.throws r'.ends) ex },
        record {
          out = λ z. way_left c en w.looped.out a.out p r.breaks (onward r.throws r'.breaks) (sides.out z);
          again = λ z. last_left c en w.looped.again a.again p r.continues (onward r.throws r'.continues) (sides.again z);
          hand = record { reached = λ h. i2 ∙ two.entry_is h; exits = exits_here base ns c few_slots few_locals vs gs p r.throws g.line.size };
        },
      ))
      (λ en q i1 i2. q) in
      live_to base ns c few_slots few_locals w.hand a.hand gs p.stale outer n.block (suc j.block + blocks_in tr x) (n.block + (suc (blocks_in true b) + suc (blocks_in tr o) + suc (blocks_in tr x)))
      n.group (j.group + groups_in x) (n.group + (groups_in b + groups_in o + groups_in x))
      (joined w.hand (joined w.hand (joined (Some hand) c0 c1) c2) c3) (omega arith) (omega arith)
      (join c w.hand w.hand a.hand gs p.stale outer near1 outer n.block j.block (suc j.block + blocks_in tr x) n.group j.group (j.group + groups_in x)
      (joined w.hand (joined (Some hand) c0 c1) c2) c3 all r2.later (λ en q is. (q, is)) (λ en q is. q))
