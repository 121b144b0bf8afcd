-- An error that is thrown goes to the same handler, or out of the actor, with the same values dropped.
use Rattle.std.proofs.Common.{◌≡◌, ℕ, ◌<◌, true, false, List, [], ◌∷◌, ◌++◌, length, inl, inr, refl, sym, ap, ap₂, subst, ◌∙◌, append_assoc}
use Rattle.std.specs.declared.option.Option.{Option}
use Rattle.std.specs.declared.option.Option.TheVariants.{None, Some}
use Rattle.flow_value.specs.Values.{ValueTree, ErrorValue}
use Rattle.flow_class.specs.declared.class.Slotted.TheVariants as place
use Rattle.flow_class.specs.Classes.{ClassTree}
use Rattle.flow_class.specs.Code.{catcher_at}
use Rattle.flow_class.specs.Scopes.{Local, Mark, Var, scope, all_locals, outside, Scope, Apart, Covers, none, this, extra}
use Rattle.flow_meaning.specs.Orderly.{Free, Risky}
use Rattle.flow_meaning.specs.Process.{Raised}
use Rattle.flow_meaning.specs.Evaluating.{Names}
use Rattle.flow_meaning.specs.Law.{Alike}
use Rattle.flow_meaning.specs.Items.{Item, Do, Leave, Round, Check, Made, Handler, Over, Actor, actor, Unwound, unwind}
use Rattle.flow_meaning.specs.Items as source
use Rattle.flow_meaning.specs.Frame.{Memory, Frame, write, emptied}
use Rattle.flow_meaning.specs.Frame as frame
use Rattle.flow_meaning.specs.Carry.{Pos, entry, Target, At, Again, Hand, here, NewLocal, hand_of, CaughtBy}
use Rattle.flow_meaning.specs.Carries.{BodyAt}
use Rattle.flow_compile_laws.specs.Simulation.Memories.{seen, slots_seen, vars_of, Falling, NotIn, Held, frame_at}
use Rattle.flow_compile_laws.specs.Simulation.Matching.{Below, body, ThrowsAt, pos_of, Beside, ActorMatches}
use Rattle.flow_compile_laws.proofs.Simulation.Lists.{at_number, at_numbers, not_append, not_both, falling_first, falling_rest, falling_out, below_out, AllOut}
use Rattle.flow_compile_laws.proofs.Simulation.Memory.{emptied_or, emptied_slots, emptied_length, apart_out, covered_values, covered_out}
use Rattle.flow_compile_laws.proofs.Simulation.Seen.{locals_parts, seen_scope, seen_outside, agree_emptied, seen_same, seen_new, held_mark, held_new, new_falls, every_value}

-- what an error leaves on its way, with values in place of numbers
abbrev seen_unwound : Memory → Option (Unwound ℕ) → Option (Unwound (Option ValueTree))
seen_unwound m None = None
seen_unwound m (Some u) = Some (record { left = at_numbers m.locals u.left; locals = seen m u.locals; name = u.name; site = u.site; handler = u.handler; rest = u.rest })

numbers_append : (os : List (Option ValueTree)) (xs ys : List ℕ) → at_numbers os (xs ++ ys) ≡ at_numbers os xs ++ at_numbers os ys
numbers_append os [] ys = refl
numbers_append os (x ∷ xs) ys = ap (λ l. at_number os x ∷ l) (numbers_append os xs ys)

unwind_seen : (m : Memory) (ks : List ℕ) (s : Scope) (r : List Item) → unwind (at_numbers m.locals ks) (seen m s) r ≡ seen_unwound m (unwind ks s r)
unwind_seen m ks s [] = refl
unwind_seen m ks s (Do x k ∷ r) = unwind_seen m ks s r
unwind_seen m ks s (Round l ∷ r) = unwind_seen m ks s r
unwind_seen m ks s (Check l ∷ r) = unwind_seen m ks s r
unwind_seen m ks s (Made l ∷ r) = unwind_seen m ks s r
unwind_seen m ks s (Over ∷ r) = unwind_seen m ks s r
unwind_seen m ks s (Handler x y k ∷ r) = refl
unwind_seen m ks s (Leave ∷ r) =
    ap (λ l. unwind (at_numbers m.locals ks ++ l) (outside (seen m s)) r) (seen_scope m s)
    ∙ ap (λ l. unwind l (outside (seen m s)) r) (sym (numbers_append m.locals ks (scope s)))
    ∙ ap (λ l. unwind (at_numbers m.locals (ks ++ scope s)) l r) (seen_outside m s)
    ∙ unwind_seen m (ks ++ scope s) (outside s) r

-- the locals that it leaves, and those that stay
unwound_locals : (ks : List ℕ) (s : Scope) (r : List Item) (u : Unwound ℕ) → unwind ks s r ≡ Some u → ks ++ all_locals s ≡ u.left ++ all_locals u.locals
unwound_locals ks s [] u e = cc
unwound_locals ks s (Do x k ∷ r) u e = unwound_locals ks s r u e
unwound_locals ks s (Round l ∷ r) u e = unwound_locals ks s r u e
unwound_locals ks s (Check l ∷ r) u e = unwound_locals ks s r u e
unwound_locals ks s (Made l ∷ r) u e = unwound_locals ks s r u e
unwound_locals ks s (Over ∷ r) u e = unwound_locals ks s r u e
unwound_locals ks s (Handler x y k ∷ r) u e =
    let w : Unwound ℕ = record { left = ks; locals = s; name = x; site = y; handler = k; rest = r } in
    let same : w ≡ u = of_some e in
    ap (λ z. z.left ++ all_locals z.locals) same
  where
    of_some : {a b : Unwound ℕ} → Some a ≡ Some b → a ≡ b
    of_some h = cc
unwound_locals ks s (Leave ∷ r) u e =
    ap (λ l. ks ++ l) (locals_parts s) ∙ sym (append_assoc ks (scope s) (all_locals (outside s))) ∙ unwound_locals (ks ++ scope s) (outside s) r u e

module _ (ns : Names) (c : ClassTree) where
  -- the handler, and what follows it, stand where the items say
  record Handled (u : Unwound ℕ) (h : ℕ × ℕ) : Type 0 where
    targets : List Target
    new : NewLocal ns c h.1 u.locals
    handler : BodyAt ns c (Var u.name h.1 ∷ Mark ∷ u.locals) (Leave ∷ u.rest) targets u.site u.handler (entry h.0)
    below : Below ns c u.locals u.rest targets

  handled : (ks : List ℕ) (s : Scope) (r : List Item) (ts : List Target) (u : Unwound ℕ) (h : ℕ × ℕ) → Below ns c s r ts → unwind ks s r ≡ Some u → hand_of ns c r ts ≡ Some h → Handled u h
  handled ks s [] ts u h b e f = cc
  handled ks s (Do x k ∷ r) (At q ∷ ts) u h b e f = handled ks s r ts u h b.1 e f
  handled ks s (Made l ∷ r) (Again q ∷ ts) u h b e f = handled ks s r ts u h b.1 e f
  handled ks s (Leave ∷ r) ts u h b e f = handled (ks ++ scope s) (outside s) r ts u h b e f
  handled ks s (Handler x y k ∷ r) (Hand q n ∷ ts) u h b e f =
      let w : Unwound ℕ = record { left = ks; locals = s; name = x; site = y; handler = k; rest = r } in
      subst (λ z. Handled z h) (of_some e) (subst (λ g. Handled w g) (of_some f) (record { targets = ts; new = b.0; handler = b.1; below = b.2 }))
    where
      of_some : {A : Type 0} {a b : A} → Some a ≡ Some b → a ≡ b
      of_some h = cc
  handled ks s r ts u h b e f = absurd b

  module _ (m : Memory) (p : Pos) (n : ℕ) (s : Scope) (held : Held c m s) (err : ℕ) where
    abbrev Same : Raised × Actor → Raised × Frame → Type 0
    Same = Alike (ActorMatches ns Free)

    -- a drop list that covers what is left names nothing that stays
    covers_stay : {ds ks : List ℕ} (ls : List ℕ) → Covers s ds ks → AllOut ks ls → ((i : ℕ) → Apart i s → NotIn i ls) → AllOut ds ls
    covers_stay ls none a h = tt
    covers_stay ls (this c) a h = (a.0, covers_stay ls c a.1 h)
    covers_stay ls (extra {n = i} o c) a h = (h i o, covers_stay ls c a h)

    -- the error is a new local, and the others stay
    error_seen : (x : List ℕ) (g : ℕ) (k : Memory) (t : Scope) → g < length k.locals → NotIn g (all_locals t) → seen k t ≡ seen m t
        → seen (write k (place.Local g) (Some (ErrorValue err))) (Var x g ∷ Mark ∷ t) ≡ Var x (Some (ErrorValue err)) ∷ Mark ∷ seen m t
    error_seen x g k t lt out e = seen_new k (Mark ∷ t) x g (ErrorValue err) lt out ∙ ap (λ es. Var x (Some (ErrorValue err)) ∷ Mark ∷ es) e

    error_vars : (l : Memory) (t : Scope) (es : List (Local (Option ValueTree))) → seen l t ≡ es → l.slots ≡ m.slots → record { states = slots_seen c.slots m.slots; locals = es } ≡ vars_of c l t
    error_vars l t es e f = ap₂ (λ os xs. record { states = slots_seen c.slots os; locals = xs }) (sym f) (sym e)

    caught : (u : Unwound ℕ) (h : ℕ × ℕ) (ds : List ℕ) → all_locals s ≡ u.left ++ all_locals u.locals → Handled u h → Covers s ds u.left
        → Same (source.raised err (vars_of c m s) (seen_unwound m (Some u))) (frame.raised err (frame_at c m p n) (Some (record { block = h.0; error = Some h.1; drops = ds })))
    caught u h ds parts w covers =
        let falls = subst (Falling (length c.locals)) parts held.falling in
        let k = emptied ds m in
        let stay = covers_stay (all_locals u.locals) covers (falling_out (length c.locals) u.left (all_locals u.locals) falls)
        (λ i o. (not_append i u.left (all_locals u.locals) (subst (NotIn i) parts (apart_out i s o))).1) in
        let kept : Held c k u.locals = record {
          numbered = held.numbered;
          slots = ap length (emptied_slots ds m) ∙ held.slots;
          locals = emptied_length ds m ∙ held.locals;
          falling = falling_rest (length c.locals) u.left (all_locals u.locals) falls;
          empty = λ i o. emptied_or ds m i (λ out. held.empty i (subst (NotIn i) (sym parts) (not_both i u.left (all_locals u.locals) (covered_out s i covers out) o)));
        } in
        let inside = held_mark c k u.locals kept in
        let out = below_out h.1 (all_locals u.locals) (new_falls c k u.locals kept h.1 w.new.1) in
        let l = write k (place.Local h.1) (Some (ErrorValue err)) in
        let locals : seen l (Var u.name h.1 ∷ Mark ∷ u.locals) ≡ Var u.name (Some (ErrorValue err)) ∷ Mark ∷ seen m u.locals =
        error_seen u.name h.1 k u.locals (subst (λ i. h.1 < i) (sym kept.locals) w.new.0) out (seen_same k m u.locals (agree_emptied ds m (all_locals u.locals) stay)) in (
          ap (λ vs. record { caught = true; values = vs }) (sym (covered_values s m (length c.locals) covers (falling_first (length c.locals) u.left (all_locals u.locals) falls) held.empty)),
          inr (record {
            s = Var u.name h.1 ∷ Mark ∷ u.locals;
            ts = w.targets;
            to = entry h.0;
            vars = error_vars l (Var u.name h.1 ∷ Mark ∷ u.locals) (Var u.name (Some (ErrorValue err)) ∷ Mark ∷ seen m u.locals) locals (emptied_slots ds m);
            held = held_new c k (Mark ∷ u.locals) inside u.name h.1 (Some (ErrorValue err)) w.new.0 w.new.1;
            at = body w.handler w.below;
            way = here;
          }),
        )

    by_items : (r : List Item) (ts : List Target) → Below ns c s r ts → (o : Option (Unwound ℕ)) → unwind [] s r ≡ o → (h : Option (ℕ × ℕ)) → hand_of ns c r ts ≡ h → CaughtBy ns c s o h p
        → Same (source.raised err (vars_of c m s) (seen_unwound m o)) (frame.raised err (frame_at c m p n) (catcher_at c p.block))
    by_items r ts b None eo h eh k =
        subst (λ z. Same (source.raised err (vars_of c m s) None) (frame.raised err (frame_at c m p n) z)) (sym k)
        (ap (λ vs. record { caught = false; values = vs }) (every_value c m s held), inl (refl, refl))
    by_items r ts b (Some u) eo None eh k = absurd k
    by_items r ts b (Some u) eo (Some h) eh k =
        subst (λ z. Same (source.raised err (vars_of c m s) (seen_unwound m (Some u))) (frame.raised err (frame_at c m p n) z)) (sym k.1)
        (caught u h k.0 (unwound_locals [] s r u eo) (handled [] s r ts u h b eo eh) k.2)

    pub raise_there : (rest : List Item) → ThrowsAt ns c s rest p → Same (source.raise err (actor (vars_of c m s) rest)) (frame.raise err (frame_at c m p n))
    raise_there rest t =
        subst (λ o. Same (source.raised err (vars_of c m s) o) (frame.raise err (frame_at c m p n))) (sym (t.same [] (seen m s) ∙ unwind_seen m [] s t.items))
        (by_items t.items t.targets t.below (unwind [] s t.items) refl (hand_of ns c t.items t.targets) refl t.caught)

pub raise_row : (ns : Names) (err : ℕ) (a : Actor) (f : Frame) → Beside ns Risky a f → Alike (ActorMatches ns Free) (source.raise err a) (frame.raise err f)
raise_row ns err a f b =
    subst (λ vs. Alike (ActorMatches ns Free) (source.raise err (actor vs a.rest)) (frame.raise err f)) (sym b.vars) (raise_there ns f.code f.mem (pos_of f) f.state b.s b.held err a.rest b.way.1)
