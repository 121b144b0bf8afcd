-- What a frame in memory tells is the view of the actor beside it.
use Rattle.std.proofs.Common.{◌≡◌, ℕ, zero, suc, true, List, [], ◌∷◌, ◌++◌, map, length, refl, sym, ap, ap₂, subst, ◌∙◌, arith}
use Rattle.std.specs.Prelude.{slice_get, unwrap_or}
use Rattle.std.specs.Option.{option_map}
use Rattle.std.proofs.lemmas.Option.{slice_get-map}
use Rattle.std.specs.declared.option.Option.{Option}
use Rattle.std.specs.declared.option.Option.TheVariants.{Some}
use Rattle.flow_base.specs.declared.place.Place.{Place}
use Rattle.flow_tree.specs.Body.{ChooseStmt, WaitStmt}
use Rattle.flow_tree.specs.Decls.{SlotTree, RoutineTree, ProgramTree}
use Rattle.flow_value.specs.declared.value.Value.{Value}
use Rattle.flow_value.specs.Values.{ValueTree}
use Rattle.flow_class.specs.Classes.{ClassTree, RawTree}
use Rattle.flow_numbered.specs.Numbered.{Numbered}
use Rattle.flow_frame.specs.declared.held.Held.{Held}
use Rattle.flow_frame.specs.Frames.{FrameTree}
use Rattle.flow_cancel.specs.declared.actors.Note.{Note}
use Rattle.flow_heapstate.specs.State.{place_of, actor_part}
use Rattle.flow_staterule.specs.StateRule.{wait_places}
use Rattle.flow_meaning.specs.Cells.{Ref}
use Rattle.flow_meaning.specs.Orderly.{Waiting}
use Rattle.flow_meaning.specs.Process.{Entry}
use Rattle.flow_meaning.specs.Requests.{Spot}
use Rattle.flow_meaning.specs.Items.{Item, Do, Actor}
use Rattle.flow_meaning.specs.Source.{source, actors_in, routine_name}
use Rattle.flow_meaning.specs.Shape.{IsClassOf, AreClassesOf}
use Rattle.flow_meaning.specs.Frame.{Frame}
use Rattle.flow_meaning.specs.Views.{spot_in, actor_spot, frame_spot}
use Rattle.flow_heap_refinement.specs.Representing.{LiveFrameRepresents, Position, here, at_wait, wait_spot, held_from}
use Rattle.flow_compile_laws.specs.Simulation.Memories.{slots_seen}
use Rattle.flow_compile_laws.specs.Simulation.Carried.{AreCarried}
use Rattle.flow_debug.specs.Seen.{VariableSeen, ActorSeen, with_variable}
use Rattle.flow_debug.specs.Told.{waits_in, places_of_waits, wait_of, cell_held, variables_told, told_by, actor_told, if_told}
use Rattle.flow_debug.specs.SourceView.{suspended_at, filled_variables, cell_of, seen_at, actor_seen}
use Rattle.flow_typing_laws.specs.ControlFlow.Laws.{AllHaveSimpleParts}
use Rattle.flow_view_laws.specs.Within.{PartOf, RestWithin}
use Rattle.flow_view_laws.proofs.Names.{AreDistinct}
use Rattle.flow_view_laws.proofs.Tied.{Stands}

-- an actor that is shown
abbrev shown : (process actor : ℕ) (name : List ℕ) (group : ℕ) → Place → List ℕ → List VariableSeen → ActorSeen
shown p i name group at cells variables =
    record { process = p; actor = i; name = name; group = group; at = at; cells = cells; variables = variables }

-- the variables in the slots
variables_same : (ts : List SlotTree) (os ls : List (Option ValueTree)) → length os ≡ length ts → variables_told ts (os ++ ls) ≡ filled_variables (slots_seen ts os)
variables_same [] [] ls h = refl
variables_same [] (o ∷ os) ls h = absurd (omega arith)
variables_same (t ∷ ts) [] ls h = absurd (omega arith)
variables_same (t ∷ ts) (o ∷ os) ls h = ap (with_variable t.name o) (variables_same ts os ls (omega arith))

-- the cells of callbacks
cells_same : (n : ℕ) (rs : List Ref) → map cell_held (held_from n rs) ≡ map cell_of rs
cells_same n [] = refl
cells_same n (q ∷ rs) = ap (λ l. q.1 ∷ l) (cells_same (suc n) rs)

-- what stands behind the front of a list
behind_front : (front : List Place) (at : Place) (rest : List Place) → slice_get (front ++ (at ∷ rest)) (length front) ≡ Some at
behind_front [] at rest = refl
behind_front (p ∷ front) at rest = behind_front front at rest

-- the wait of a part's first place
first_wait : (all : List Place) (g : ℕ) (at : Place) (rest : List Place) → PartOf all g (at ∷ rest) → wait_of (Some all) g ≡ Some at
first_wait all g at rest p =
    ap (wait_of (Some all)) p.first ∙ ap (λ l. slice_get l (length p.front)) p.are ∙ behind_front p.front at (rest ++ p.behind)

-- the place at which an actor is suspended is that of the wait of its number
pub record Found (all : List Place) (r : List Item) : Type 0 where
  pub at : Place
  pub suspended : suspended_at r ≡ Some at
  pub wait : wait_of (Some all) (spot_in r).group ≡ Some at

no_wait : {X : Type 0} (k : ℕ) → 0 ≡ suc k → X
no_wait k e = absurd (omega (arith, e))

found : (all : List Place) (r : List Item) (k : ℕ) → RestWithin all r → (spot_in r).group ≡ suc k → Found all r
found all (Do s (WaitStmt at w b) ∷ r) k h e =
    record { at = at; suspended = refl; wait = first_wait all s.spot.group at _ h.0.waits }
found all (Do s (ChooseStmt at bs b) ∷ r) k h e =
    record { at = at; suspended = refl; wait = first_wait all s.spot.group at _ h.0.waits }
found all _ k h e = no_wait k e

-- the actor of a class
pub record ActorOf (ts : List RoutineTree) (c : ClassTree) (k : ℕ) : Type 0 where
  pub actor : RoutineTree
  pub there : slice_get ts k ≡ Some actor
  pub same : IsClassOf actor c

actor_of : (ts : List RoutineTree) (cs : List ClassTree) (k : ℕ) (c : ClassTree) → AreClassesOf ts cs → slice_get cs k ≡ Some c → ActorOf ts c k
actor_of [] [] k c h e = cc
actor_of [] (d ∷ cs) k c h e = absurd h
actor_of (t ∷ ts) [] k c h e = cc
actor_of (t ∷ ts) (d ∷ cs) zero c h e =
    let same : d ≡ c = cc in record { actor = t; there = refl; same = subst (IsClassOf t) same h.0 }
actor_of (t ∷ ts) (d ∷ cs) (suc k) c h e =
    let x = actor_of ts cs k c h.1 e in record { actor = x.actor; there = x.there; same = x.same }

-- the state of a frame that waits
state_is : (m : FrameTree Value) (f : Frame) → Position m f → Rattle.flow_cancel.specs.Leaving.waits m.state m.callbacks ≡ true
    → (k : ℕ) × (m.state ≡ suc k) × (m.state ≡ (wait_spot f).group)
state_is m f (at_wait g e w) h = (g, e, w)
state_is m f (here e b i) h = absurd (none m.callbacks (sym (ap (λ n. Rattle.flow_cancel.specs.Leaving.waits n m.callbacks) e) ∙ h))
  where
    none : (hs : List Held) → Rattle.flow_cancel.specs.Leaving.waits 0 hs ≡ true → ⊥
    none hs h = cc

module _ (p : ProgramTree) (r : RawTree) (h : AreCarried p r) (differ : AreDistinct r) (simple : AllHaveSimpleParts p.decls) where
  name_same : (k : ℕ) (t : RoutineTree) (c : ClassTree) → slice_get (actors_in p.decls) k ≡ Some t → IsClassOf t c → c.name ≡ (source p).label k
  name_same k t c there same =
      same.name ∙ ap (λ o. unwrap_or o []) (sym (slice_get-map routine_name (actors_in p.decls) k ∙ ap (option_map routine_name) there))

  -- what is told of a frame in memory, and what is seen of the actor beside it
  pub frame_told : (process : ℕ) (notes : Numbered Note) (i : ℕ) (m : FrameTree Value) (e : Entry) (f : Frame) (a : Actor)
      → e.class ≡ m.class → e.suspended ≡ true → LiveFrameRepresents r m e f → Stands p r h differ simple Waiting a f
      → if_told (actor_told (places_of_waits p.decls) r.classes process (actor_part notes (i, m))) ≡ actor_seen p process (i, e) (Some a)
  frame_told process notes i m e f a class on k s =
      let t = actor_of (actors_in p.decls) r.classes m.class f.code h.shape.classes k.code in
      let all = wait_places t.actor.body in
      let state = state_is m f k.position (k.suspended ∙ on) in
      let spots : actor_spot a ≡ frame_spot f = s.0.way.3 in
      let group : (actor_spot a).group ≡ m.state = ap (λ (z : Spot). z.group) (spots ∙ s.2) ∙ sym state.2 in
      let x = found all a.rest state.0 (s.1 m.class t.actor t.there k.code) (group ∙ state.1) in
      let waits : slice_get (places_of_waits p.decls) m.class ≡ Some all = slice_get-map waits_in (actors_in p.decls) m.class ∙ ap (option_map waits_in) t.there in
      let wait : wait_of (slice_get (places_of_waits p.decls) m.class) m.state ≡ Some x.at =
      ap₂ wait_of waits (sym group) ∙ x.wait in
      let part = actor_part notes (i, m) in
      let names = name_same m.class t.actor f.code t.there t.same ∙ ap (source p).label (sym class) in
      let cells = ap (map cell_held) k.callbacks ∙ cells_same (wait_spot f).first e.operands in
      let variables = ap (variables_told f.code.slots) k.places ∙ variables_same f.code.slots f.mem.slots f.mem.locals k.slots
      ∙ ap (λ vs. filled_variables vs.states) (sym s.0.vars) in
      ap₂ (λ c o. if_told (told_by process part c o)) k.code wait
      ∙ one f.code.name ((source p).label e.class) m.state (actor_spot a).group x.at (map cell_held m.callbacks) (map cell_of e.operands)
      (variables_told f.code.slots (map place_of m.places)) (filled_variables a.vars.states) names (sym group) cells variables
      ∙ ap (seen_at p process (i, e) a) (sym x.suspended)
    where
      one : (n o : List ℕ) (g q : ℕ) (at : Place) (cs ds : List ℕ) (us vs : List VariableSeen) → n ≡ o → g ≡ q → cs ≡ ds → us ≡ vs
          → shown process i n g at cs us ∷ [] ≡ shown process i o q at ds vs ∷ []
      one n o g q at cs ds us vs e1 e2 e3 e4 =
          ap₂ (λ x y. shown process i x y at cs us ∷ []) e1 e2 ∙ ap₂ (λ x y. shown process i o q at x y ∷ []) e3 e4
