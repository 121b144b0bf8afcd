-- What is shown of a program is what is shown of its classes, event by event.
use Rattle.std.proofs.Common.{◌≡◌, ℕ, suc, Bool, true, false, List, [], ◌∷◌, ◌++◌, map, refl, sym, ap, ap₂, ◌∙◌, subst}
use Rattle.std.specs.List.{flat_map}
use Rattle.std.specs.declared.option.Option.TheVariants.{None, Some}
use Rattle.std.proofs.lemmas.List.{append_cancel_right}
use Rattle.flow_base.specs.declared.ids.ProcId.{ProcId}
use Rattle.flow_trace.specs.declared.line.Line.{Line}
use Rattle.flow_trace.specs.declared.line.Line.TheVariants as line
use Rattle.flow_worldfile.specs.Worlds as file
use Rattle.flow_tree.specs.Decls.{ProgramTree}
use Rattle.flow_class.specs.Classes.{RawTree}
use Rattle.flow_meaning.specs.Requests.{Spot}
use Rattle.flow_meaning.specs.Burst.{Live, Burst}
use Rattle.flow_meaning.specs.Class.{classes}
use Rattle.flow_meaning.specs.Law.{Simulates}
use Rattle.flow_numbered.specs.Numbered.{Numbered, thing}
use Rattle.flow_meaning.specs.Orderly.{Phase}
use Rattle.flow_meaning.specs.Outside.{Outside, host}
use Rattle.flow_meaning.specs.Process.{Entry, Core, Engine}
use Rattle.flow_meaning.specs.RunLaw.{SamePlace, SamePlaces, SameWorld, SameStates}
use Rattle.flow_meaning.specs.Runs.{Runs, IsRun, before, after, lines_of}
use Rattle.flow_meaning.specs.Runs as run
use Rattle.flow_meaning.specs.Observations.{WaitAlike}
use Rattle.flow_meaning.specs.Source.{source, names_of}
use Rattle.flow_meaning.specs.Views.{spot_at, branches_from, actor_spot, frame_spot}
use Rattle.flow_meaning.specs.World.{Place, World, Begun, next_of, begun_by, ending, at_start}
use Rattle.flow_meaning.proofs.LiftRuns.{runs_follow, runs_return, traces_follow, traces_return}
use Rattle.flow_meaning.proofs.Once.{run_once}
use Rattle.flow_meaning.proofs.Sights.{IsGiven, given_first, given_later, spots_same}
use Rattle.flow_compile_laws.specs.Simulation.Matching.{ActorMatches}
use Rattle.flow_compile_laws.specs.Simulation.Carried.{AreCarried}
use Rattle.flow_compile_laws.proofs.Simulation.Follows.{carried, waits_alike}
use Rattle.flow_compile_laws.specs.Frames.Framed.{branch_line, actor_lines, process_lines, places_lines, seen_if, Shows, ends, spent, event, IsShown, SourceShown, ClassShown}
use Rattle.flow_compile_laws.proofs.Frames.Traces.{Run, run_of}

-- the lines of an event, told by what follows them
same_front : {X : Type 0} (xs ys zs us : List X) → xs ++ zs ≡ ys ++ us → zs ≡ us → xs ≡ ys
same_front xs ys zs us h t = append_cancel_right xs ys zs (h ∙ ap (λ z. ys ++ z) (sym t))

abbrev AllLike : {X Y : Type 0} → (X → Y → Type 0) → List X → List Y → Type 0
AllLike R [] [] = Unit {0}
AllLike R [] (v ∷ vs) = ⊥
AllLike R (w ∷ ws) [] = ⊥
AllLike R (w ∷ ws) (v ∷ vs) = R w v × AllLike R ws vs

-- Two kinds of actors, and which worlds are alike: in such worlds the same is outside and the same is seen, and each run of
-- the first kind has one of the second with its lines, through such worlds.
module _ {A B : Type 0} (e : Engine A) (d : Engine B) (p : A → Spot) (q : B → Spot) (with_frames : Bool) (Like : World A → World B → Type 0) where
  pub record Likely : Type 0 where
    pub outside : (w : World A) (v : World B) → Like w v → w.out ≡ v.out
    pub seen : (w : World A) (v : World B) → Like w v → seen_if e p with_frames w ≡ seen_if d q with_frames v
    pub follow : (w : World A) (v : World B) (states : List (World A)) (lines : List Line) → Like w v → Runs e w states lines
        → (others : List (World B)) × Runs d v others lines × AllLike Like states others

  module _ (law : Likely) where
    same_ending : (w : World A) (v : World B) → Like w v → ending w.out (next_of w.out) ≡ ending v.out (next_of v.out)
    same_ending w v h = ap (λ o. ending o (next_of o)) (law.outside w v h)

    -- the last event of a run, or its end
    last_shown : (w : World A) (v : World B) (lines : List Line) → Like w v → Runs e w [] lines → Shows d q with_frames v lines
    last_shown w v lines h r = let other = law.follow w v [] lines h r in by_run other.0 lines other.1 other.2
      where
        by_run : (others : List (World B)) (shown : List Line) → Runs d v others shown → AllLike Like [] others → Shows d q with_frames v shown
        by_run _ _ (run.ends last g) k = ends last g
        by_run _ _ (run.spent b l g m t x) k = spent b l g m t x
        by_run _ _ (run.event b l g m t x rest) k = absurd k

    -- The first event of a run has one of the second kind, with its lines, to such a world.
    record Answered (w : World A) (v : World B) (b : Begun A) (l : Live Outside A) : Type 0 where
      begun : Begun B
      left : Live Outside B
      goes : ending v.out (next_of v.out) ≡ None
      begins : begun_by d v (next_of v.out) ≡ Some begun
      follows : Burst d host (before begun) left
      rests : left.proc.core.halted ≡ None
      lines : lines_of begun left ≡ lines_of b l
      like : Like (after w b l) (after v begun left)

    answered : (w : World A) (v : World B) (b : Begun A) (l : Live Outside A) (states : List (World A)) (lines : List Line) → Like w v
        → Runs e w (after w b l ∷ states) (lines_of b l ++ lines) → Runs e (after w b l) states lines → Answered w v b l
    answered w v b l states lines h all later =
        let other = law.follow w v (after w b l ∷ states) (lines_of b l ++ lines) h all in by_run other.0 (lines_of b l ++ lines) refl other.1 other.2
      where
        by_run : (others : List (World B)) (shown : List Line) → lines_of b l ++ lines ≡ shown → Runs d v others shown → AllLike Like (after w b l ∷ states) others → Answered w v b l
        by_run _ _ same (run.ends last g) k = absurd k
        by_run _ _ same (run.spent c m g t u x) k = absurd k
        by_run _ _ same (run.event {states = others} {lines = more} c m g t u x rest) k =
            let next = law.follow (after w b l) (after v c m) states lines k.0 later in
            let once = run_once d (after v c m) next.0 others lines more next.1 rest in
            record {
              begun = c;
              left = m;
              goes = g;
              begins = t;
              follows = u;
              rests = x;
              lines = sym (same_front (lines_of b l) (lines_of c m) lines more same once.1);
              like = k.0;
            }

    pub shows_follow : (w : World A) (v : World B) (lines : List Line) → Like w v → Shows e p with_frames w lines → Shows d q with_frames v lines
    shows_follow w v lines h (ends last g) = ends last (sym (same_ending w v h) ∙ g)
    shows_follow w v lines h (spent b l g k r x) = last_shown w v lines h (run.spent b l g k r x)
    shows_follow w v lines h (event {lines = more} b l g k r x rest) =
        let later = run_of e p with_frames (after w b l) more rest in
        let other = answered w v b l later.states later.lines h (run.event b l g k r x later.runs) later.runs in
        let all_after = shows_follow (after w b l) (after v other.begun other.left) more other.like rest in
        subst (λ ls. Shows d q with_frames v (ls ++ (seen_if e p with_frames (after w b l) ++ more))) other.lines
        (subst (λ ls. Shows d q with_frames v (lines_of other.begun other.left ++ (ls ++ more))) (sym (law.seen (after w b l) (after v other.begun other.left) other.like))
        (event other.begun other.left other.goes other.begins other.follows other.rests all_after))

-- Of related worlds the same is seen.
module _ {A B : Type 0} (e : Engine A) (d : Engine B) (R : Phase → A → B → Type 0) (sim : Simulates e d R) (p : A → Spot) (q : B → Spot) (same : WaitAlike R p q) where
  actor_same : (n : ProcId) (i : ℕ) (x : Entry) (s t : Spot) → s ≡ t → actor_lines e p n i x s ≡ actor_lines d q n i x t
  actor_same n i x s t h =
      ap₂ (λ name (z : Spot). line.Frame n (record { 0 = i }) name z.group ∷ map (branch_line n) (branches_from i z.first x.operands)) (sim.label x.class) h

  actors_same : (n : ProcId) (xs : Numbered A) (ys : Numbered B) (es : Numbered Entry)
      → ((i : ℕ) → IsGiven es i → spot_at p (thing xs i) ≡ spot_at q (thing ys i))
      → flat_map (λ a. actor_lines e p n a.0 a.1 (spot_at p (thing xs a.0))) es ≡ flat_map (λ a. actor_lines d q n a.0 a.1 (spot_at q (thing ys a.0))) es
  actors_same n xs ys [] f = refl
  actors_same n xs ys (x ∷ es) f =
      ap₂ (λ us vs. us ++ vs) (actor_same n x.0 x.1 _ _ (f x.0 (given_first x es))) (actors_same n xs ys es (λ i h. f i (given_later x es i h)))

  place_same : (n : ProcId) (a : Place A) (b : Place B) → SamePlace R a b → process_lines e p n a.proc ≡ process_lines d q n b.proc
  place_same n a b s =
      actors_same n a.proc.actors b.proc.actors a.proc.core.entries (spots_same R p q same a.proc.core a.proc.actors b.proc.actors s.2 s.3)
      ∙ ap (λ (c : Core). flat_map (λ x. actor_lines d q n x.0 x.1 (spot_at q (thing b.proc.actors x.0))) c.entries) s.1

  places_same : (n : ℕ) (ps : List (Place A)) (qs : List (Place B)) → SamePlaces R ps qs → places_lines e p n ps ≡ places_lines d q n qs
  places_same n [] [] h = refl
  places_same n [] (b ∷ bs) h = absurd h
  places_same n (a ∷ rest) [] h = absurd h
  places_same n (a ∷ rest) (b ∷ bs) h = ap₂ (λ us vs. us ++ vs) (place_same (record { 0 = n }) a b h.0) (places_same (suc n) rest bs h.1)

  seen_same : (f : Bool) (w : World A) (v : World B) → SameWorld R w v → seen_if e p f w ≡ seen_if d q f v
  seen_same true w v h = places_same 0 w.places v.places h.1
  seen_same false w v h = refl

  -- both ways
  like : (states : List (World A)) (others : List (World B)) → SameStates R states others → AllLike (SameWorld R) states others
  like [] [] h = tt
  like [] (v ∷ vs) h = absurd h
  like (w ∷ ws) [] h = absurd h
  like (w ∷ ws) (v ∷ vs) h = (h.0, like ws vs h.1)

  like_back : (states : List (World A)) (others : List (World B)) → SameStates R states others → AllLike (λ v w. SameWorld R w v) others states
  like_back [] [] h = tt
  like_back [] (v ∷ vs) h = absurd h
  like_back (w ∷ ws) [] h = absurd h
  like_back (w ∷ ws) (v ∷ vs) h = (h.0, like_back ws vs h.1)

  forth : (f : Bool) → Likely e d p q f (SameWorld R)
  forth f = record {
    outside = λ w v h. h.0;
    seen = seen_same f;
    follow = λ w v states lines h r. let other = runs_follow e d R sim w v states lines h r in (other.0, other.1, like states other.0 other.2);
  }

  back : (f : Bool) → Likely d e q p f (λ v w. SameWorld R w v)
  back f = record {
    outside = λ v w h. sym h.0;
    seen = λ v w h. sym (seen_same f w v h);
    follow = λ v w others lines h r. let other = runs_return e d R sim w v others lines h r in (other.0, other.1, like_back other.0 others other.2);
  }

  -- the starts of both are related
  first_alike : (w : file.World) → Run e (at_start w) → SameWorld R (at_start w) (at_start w)
  first_alike w r =
      let whole : IsRun e w (at_start w ∷ r.states) (line.Head ∷ r.lines) = record { later = r.states; rest = r.lines; runs = r.runs; from_start = refl; with_head = refl } in
      let t = traces_follow e d R sim w (at_start w ∷ r.states) (line.Head ∷ r.lines) whole in
      (subst (λ others. SameStates R (at_start w ∷ r.states) others) t.1.from_start t.2).0

  first_back : (w : file.World) → Run d (at_start w) → SameWorld R (at_start w) (at_start w)
  first_back w r =
      let whole : IsRun d w (at_start w ∷ r.states) (line.Head ∷ r.lines) = record { later = r.states; rest = r.lines; runs = r.runs; from_start = refl; with_head = refl } in
      let t = traces_return e d R sim w (at_start w ∷ r.states) (line.Head ∷ r.lines) whole in
      (subst (λ states. SameStates R states (at_start w ∷ r.states)) t.1.from_start t.2).0

  pub shown_follow : (f : Bool) (w : file.World) (lines : List Line) → IsShown e p f w lines → IsShown d q f w lines
  shown_follow f w lines s =
      let first = first_alike w (run_of e p f (at_start w) s.rest s.shows) in
      record { rest = s.rest; shows = shows_follow e d p q f (SameWorld R) (forth f) (at_start w) (at_start w) s.rest first s.shows; with_head = s.with_head }

  pub shown_return : (f : Bool) (w : file.World) (lines : List Line) → IsShown d q f w lines → IsShown e p f w lines
  shown_return f w lines s =
      let first = first_back w (run_of d q f (at_start w) s.rest s.shows) in
      record { rest = s.rest; shows = shows_follow d e q p f (λ v u. SameWorld R u v) (back f) (at_start w) (at_start w) s.rest first s.shows; with_head = s.with_head }

-- Programs and their classes.
module _ (p : ProgramTree) (r : RawTree) (h : AreCarried p r) where
  pub shown_of_text : (f : Bool) (w : file.World) (lines : List Line) → SourceShown f p w lines → ClassShown f r w lines
  shown_of_text = shown_follow (source p) (classes r) (ActorMatches (names_of p)) (carried p r h) actor_spot frame_spot (waits_alike p r h)

  pub shown_of_classes : (f : Bool) (w : file.World) (lines : List Line) → ClassShown f r w lines → SourceShown f p w lines
  shown_of_classes = shown_return (source p) (classes r) (ActorMatches (names_of p)) (carried p r h) actor_spot frame_spot (waits_alike p r h)
