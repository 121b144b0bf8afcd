-- A frame that stands beside an actor tells by its class in which text the actor is.
use Rattle.std.proofs.Common.{◌≡◌, ◌⊎◌, inl, inr, ℕ, zero, suc, ◌<◌, nat_eq, Bool, true, false, List, [], ◌∷◌, refl, sym, ap, subst, ◌∙◌, if◌then◌else◌}
use Rattle.std.specs.Prelude.{slice_get}
use Rattle.std.specs.declared.option.Option.{Option}
use Rattle.std.specs.declared.option.Option.TheVariants.{None, Some}
use Rattle.flow_tree.specs.Decls.{RoutineTree, DeclTree, StructDecl, FunctionDecl, ActorDecl, ProgramTree}
use Rattle.flow_ast.specs.Slots.{body_slots}
use Rattle.flow_value.specs.Values.{ValueTree}
use Rattle.flow_class.specs.Classes.{ClassTree, RawTree}
use Rattle.flow_staterule.specs.StateRule.{wait_places}
use Rattle.flow_typing_laws.specs.ControlFlow.Laws.{HasSimpleParts, AllHaveSimpleParts}
use Rattle.flow_meaning.specs.Requests.{Act, Waits, Ask}
use Rattle.flow_meaning.specs.Process.{View}
use Rattle.flow_meaning.specs.Orderly.{Phase, Free, Risky, Due, Waiting}
use Rattle.flow_meaning.specs.Evaluating.{StepOf, bind}
use Rattle.flow_meaning.specs.Law.{Quietly, still, quiet, phase_after, Moves, MatchesAsk, BothOrNone, Simulates}
use Rattle.flow_meaning.specs.Items.{Actor}
use Rattle.flow_meaning.specs.Source.{source, names_of, actors_in, no_values, with_args, begun, fresh_from}
use Rattle.flow_meaning.specs.Frame.{Frame}
use Rattle.flow_meaning.specs.Class.{classes, class_names}
use Rattle.flow_meaning.specs.Class as class
use Rattle.flow_meaning.specs.Views.{frame_spot}
use Rattle.flow_heap_refinement.specs.Representing.{wait_spot}
use Rattle.flow_compile_laws.specs.Simulation.Matching.{ActorMatches}
use Rattle.flow_compile_laws.specs.Simulation.Carried.{AreCarried}
use Rattle.flow_compile_laws.proofs.Simulation.Follows.{carried}
use Rattle.flow_world_refinement.proofs.Views.Steps.{Waited, Well, step_well}
use Rattle.flow_view_laws.specs.Within.{ActorWithin}
use Rattle.flow_view_laws.proofs.Within.{step_stays_within, store_stays_within, take_stays_within, raise_stays_within, begins_within}
use Rattle.flow_view_laws.proofs.Codes.{KeepsClass, keeps_on, step_keeps, store_keeps, take_keeps, raise_keeps}
use Rattle.flow_view_laws.proofs.Standing.{never_over}
use Rattle.flow_view_laws.proofs.Names.{AreDistinct}

-- the parts of the `for`s of each actor are simple
parts_at : (ds : List DeclTree) (k : ℕ) (t : RoutineTree) → AllHaveSimpleParts ds → slice_get (actors_in ds) k ≡ Some t → HasSimpleParts t.body
parts_at [] k t h e = cc
parts_at (StructDecl r ∷ ds) k t h e = parts_at ds k t h.1 e
parts_at (FunctionDecl f ∷ ds) k t h e = parts_at ds k t h.1 e
parts_at (ActorDecl a ∷ ds) zero t h e = let same : a ≡ t = cc in subst (λ x. HasSimpleParts x.body) same h.0
parts_at (ActorDecl a ∷ ds) (suc k) t h e = parts_at ds k t h.1 e

-- an actor begins in its text, and a frame in its class
class_begun : (o : Option ClassTree) (vs : List ValueTree) (f : Frame) → class.fresh_from o vs ≡ Some f → o ≡ Some f.code
class_begun None vs f e = cc
class_begun (Some c) vs f e = by_test (nat_eq (Rattle.std.specs.Prelude.length vs) c.params) e
  where
    by_test : (b : Bool) → (if b then Some (class.begun c vs) else None) ≡ Some f → Some c ≡ Some f.code
    by_test true e = let same : class.begun c vs ≡ f = cc in ap (λ (g : Frame). Some g.code) same
    by_test false e = cc

text_begun : (o : Option RoutineTree) (vs : List ValueTree) (a : Actor) (t : RoutineTree) → o ≡ Some t → HasSimpleParts t.body → fresh_from o vs ≡ Some a
    → ActorWithin (wait_places t.body) a
text_begun o vs a t is parts e =
    by_args (with_args t.params vs (no_values (body_slots t.body))) (sym (ap (λ x. fresh_from x vs) is) ∙ e)
  where
    by_args : (q : Option (List (List ℕ × Option ValueTree))) → bind q (λ ss. Some (begun t ss)) ≡ Some a → ActorWithin (wait_places t.body) a
    by_args None e = cc
    by_args (Some ss) e = let same : begun t ss ≡ a = cc in subst (λ x. ActorWithin (wait_places t.body) x) same (begins_within t ss parts)

module _ (p : ProgramTree) (r : RawTree) (h : AreCarried p r) (differ : AreDistinct r) (simple : AllHaveSimpleParts p.decls) where
  -- its rest is part of the text of the actor whose class the frame runs
  abbrev pub Tied : Actor → Frame → Type 0
  Tied a f =
      (k : ℕ) (t : RoutineTree) → slice_get (actors_in p.decls) k ≡ Some t → slice_get r.classes k ≡ Some f.code → ActorWithin (wait_places t.body) a

  abbrev pub Stands : Phase → Actor → Frame → Type 0
  Stands Free a f = ActorMatches (names_of p) Free a f × Tied a f
  Stands Risky a f = ActorMatches (names_of p) Risky a f × Tied a f
  Stands Due a f = ActorMatches (names_of p) Due a f × Tied a f
  Stands Waiting a f = ActorMatches (names_of p) Waiting a f × Tied a f × (frame_spot f ≡ wait_spot f)

  tied_on : (a b : Actor) (f g : Frame) → Tied a f → KeepsClass f.code g → ((all : List _) → ActorWithin all a → ActorWithin all b) → Tied b g
  tied_on a b f g t (inl e) w k x there is = w (wait_places x.body) (t k x there (is ∙ ap (λ z. Some z) e))
  tied_on a b f g t (inr e) w k x there is =
      absurd (never_over (names_of p) (actors_in p.decls) r.classes k h.carries x there (is ∙ ap (λ z. Some z) e))

  -- steps keep the class
  next_keeps : (v : View) (f : Frame) (x : StepOf Frame) → (classes r).next v f ≡ x → KeepsClass f.code x.1
  next_keeps v f x e = subst (λ (z : StepOf Frame). KeepsClass f.code z.1) e (step_keeps (class_names r) v f)

  quiet_keeps : {v : View} {f g : Frame} → Quietly (classes r) v f g → KeepsClass f.code g
  quiet_keeps still = inl refl
  quiet_keeps {v} {f} {g} (quiet b e q) = keeps_on f.code b g (next_keeps v f (None, b) e) (quiet_keeps q)

  moves_keep : (v : View) (f g : Frame) (lighter : Type 0) → Moves (classes r) v f g ⊎ (Quietly (classes r) v f g × lighter) → KeepsClass f.code g
  moves_keep v f g lighter (inl m) = keeps_on f.code m.0 g (next_keeps v f (None, m.0) m.1) (quiet_keeps m.2)
  moves_keep v f g lighter (inr m) = quiet_keeps m.0

  asked : (act : Act) (a : Actor) (g : Frame) → ActorMatches (names_of p) (phase_after act) a g → Tied a g → Waited act g → Stands (phase_after act) a g
  asked (Waits spot vs) a g m t w = (m, t, w)
  asked act a g m t w = (m, t)

  waited : (v : View) (f g : Frame) (k : Ask) → (classes r).next v f ≡ (Some k, g) → Waited k.act g
  waited v f g k e = subst Well e (step_well (class_names r) v f)

  answers : (v : View) (lighter : Type 0) (o : Option Ask) (a b : Actor) (f : Frame) → Tied a f → ((all : List _) → ActorWithin all a → ActorWithin all b)
      → MatchesAsk (ActorMatches (names_of p)) (classes r) v lighter o b f → MatchesAsk Stands (classes r) v lighter o b f
  answers v lighter None a b f t w m = (m.0, m.1, (m.2, tied_on a b f m.0 t (moves_keep v f m.0 lighter m.1) w))
  answers v lighter (Some k) a b f t w m =
      let keeps = keeps_on f.code m.0 m.1 (quiet_keeps m.2) (next_keeps v m.0 (Some k, m.1) m.3) in
      (m.0, m.1, m.2, m.3, asked k.act b m.1 m.4 (tied_on a b f m.1 t keeps w) (waited v m.0 m.1 k m.3))

  both_begin : (k : ℕ) (vs : List ValueTree) (x : Option Actor) (y : Option Frame) → (source p).fresh k vs ≡ x → (classes r).fresh k vs ≡ y
      → BothOrNone (ActorMatches (names_of p) Free) x y → BothOrNone (Stands Free) x y
  both_begin k vs None None e g m = tt
  both_begin k vs None (Some f) e g m = absurd m
  both_begin k vs (Some a) None e g m = absurd m
  both_begin k vs (Some a) (Some f) e g m = (m, begun_tied)
    where
      own : slice_get r.classes k ≡ Some f.code
      own = class_begun (slice_get r.classes k) vs f g

      begun_tied : Tied a f
      begun_tied i t there is =
          let same : i ≡ k = differ i k f.code is own in
          let at : slice_get (actors_in p.decls) k ≡ Some t = ap (slice_get (actors_in p.decls)) (sym same) ∙ there in
          text_begun (slice_get (actors_in p.decls) k) vs a t at (parts_at p.decls k t simple at) e

  base : Simulates (source p) (classes r) (ActorMatches (names_of p))
  base = carried p r h

  pub tied : Simulates (source p) (classes r) Stands
  tied = record {
    main = base.main;
    label = base.label;
    fresh = λ k vs. both_begin k vs ((source p).fresh k vs) ((classes r).fresh k vs) refl refl (base.fresh k vs);
    waits = λ a f s. (base.waits a f s.0, s.1);
    dues = λ a f s. (base.dues a f s.0, s.1);
    risks = λ a f s. (base.risks a f s.0, s.1);
    weight = base.weight;
    next = λ v a f s.
        answers v (base.weight ((source p).next v a).1 < base.weight a) ((source p).next v a).0 a ((source p).next v a).1 f s.1
        (λ all w. step_stays_within all (names_of p) v a w) (base.next v a f s.0);
    lose = λ a f s. let m = base.lose a f s.0 in (m.0, (m.1, tied_on a ((source p).lose a).1 f ((classes r).lose f).1 s.1 (inl refl) (λ all w. w)));
    store = λ u a f s.
        let m = base.store u a f s.0 in
        (m.0, (m.1, tied_on a ((source p).store u a).1 f ((classes r).store u f).1 s.1 (store_keeps (class_names r) u f) (λ all w. store_stays_within all (names_of p) u a w)));
    take = λ n u a f s.
        let m = base.take n u a f s.0 in
        (m.0, (m.1, tied_on a ((source p).take n u a).1 f ((classes r).take n u f).1 s.1 (take_keeps (class_names r) n u f) (λ all w. take_stays_within all n u a w)));
    raise = λ err a f s.
        let m = base.raise err a f s.0 in
        (m.0, (m.1, tied_on a ((source p).raise err a).1 f ((classes r).raise err f).1 s.1 (raise_keeps err f) (λ all w. raise_stays_within all err a w)));
    occ = λ side k a f s. base.occ side k a f s.0;
  }
