-- A run takes of the drawn words only what they answer.
use Rattle.std.proofs.Common.{◌≡◌, ◌⊎◌, inl, inr, ℕ, zero, List, [], ◌∷◌, ◌++◌, refl, sym, ◌∙◌, subst}
use Rattle.std.specs.declared.option.Option.{Option}
use Rattle.std.specs.declared.option.Option.TheVariants.{None, Some}
use Rattle.flow_trace.specs.declared.line.Line.{Line}
use Rattle.flow_trace.specs.declared.line.Line.TheVariants as line
use Rattle.flow_worldfile.specs.Worlds as file
use Rattle.flow_draw.specs.declared.question.Question.{Question}
use Rattle.flow_meaning.specs.Process.{Engine, Spent}
use Rattle.flow_meaning.specs.Burst.{Live, advance, Burst, rests, steps}
use Rattle.flow_meaning.specs.Outside.{Outside, host}
use Rattle.flow_meaning.specs.World.{Place, World, Begun, next_of, begun_by, ending}
use Rattle.flow_meaning.specs.Runs.{before, after, lines_of}
use Rattle.flow_meaning.proofs.BurstOnce.{two, same}
use Rattle.flow_draw_laws.specs.Answers.{Asks, ends, spent, event}
use Rattle.flow_draw_laws.proofs.Parted.{parted_more, words_of}
use Rattle.flow_draw_laws.proofs.Steps.{Both}
use Rattle.flow_draw_laws.proofs.Twins.{reworded, in_file, Part, TwinLive, twin_live, SplitLive, advance_split}
use Rattle.flow_draw_laws.proofs.TwinEvents.{world, TwinBegun, twin_begun, SplitBegun, begun_split}
use Rattle.flow_draw_laws.proofs.Growing.{Grows, still, burst_grows, asks_grows}

pub both_none : {X Y : Type 0} (R : X → Y → Type 0) (o : Option X) (q : Option Y) → Both R o q → o ≡ None → q ≡ None
both_none R None None h a = refl
both_none R None (Some y) h a = absurd h
both_none R (Some x) q h a = two a refl

pub both_some : {X Y : Type 0} (R : X → Y → Type 0) (o : Option X) (q : Option Y) → Both R o q → (x : X) → o ≡ Some x → (y : Y) × (q ≡ Some y) × R x y
both_some R None q h x a = two refl a
both_some R (Some z) None h x a = absurd h
both_some R (Some z) (Some y) h x a = (y, refl, subst (λ u. R u y) (same refl a) h)

module _ (v : file.World) (seed : ℕ) (words : List ℕ) {A : Type 0} (e : Engine A) where
  abbrev w : file.World
  w = reworded v seed words

  abbrev Parts : List Question → List Question → Type 0
  Parts qs rs = Part v seed words qs rs

  abbrev Twins : Live Outside A → Live Outside A → Type 0
  Twins s t = TwinLive v seed words s t

  abbrev Splits : Live Outside A → Live Outside A → Type 0
  Splits s t = SplitLive v seed words s t

  abbrev TwinsBegun : Begun A → Begun A → Type 0
  TwinsBegun b c = TwinBegun v seed words e b c

  abbrev SplitsBegun : Begun A → Begun A → Type 0
  SplitsBegun b c = SplitBegun v seed words e b c

  parts_on : {qs rs ts us : List Question} → Grows qs ts → Grows rs us → Parts qs rs → Parts ts us
  parts_on {qs = qs} {rs = rs} {ts = ts} g f h =
      subst (λ x. Parts ts x) (sym f.is) (subst (λ x. Parts x (rs ++ f.more)) (sym g.is)
      (parted_more (words_of v) (words_of w) zero qs rs g.more f.more h))

  -- the words don't part while these are asked
  abbrev pub Together : List Question → Type 0
  Together qs = (rs : List Question) → Parts qs rs → ⊥

  together_first : {qs ts : List Question} → Grows qs ts → Together ts → Together qs
  together_first g n rs h = n rs (parts_on g (still rs) h)

  -- bursts: one is followed where the words don't part, and two from the same are the same or part
  step_follows : (r u t c : Live Outside A) → advance e host u ≡ Some c → Splits r c → Grows r.out.asked t.out.asked → Together t.out.asked
      → (Twins r c → (x : Live Outside A) × Burst e host c x × Twins t x) → (x : Live Outside A) × Burst e host u x × Twins t x
  step_follows r u t c a (inl h) g n rest = let x = rest h in (x.0, steps c a x.1, x.2)
  step_follows r u t c a (inr h) g n rest = absurd (together_first g n c.out.asked h)

  burst_follows : {s t : Live Outside A} → Burst e host s t → (u : Live Outside A) → Twins s u → Together t.out.asked
      → (x : Live Outside A) × Burst e host u x × Twins t x
  burst_follows {s = s} (rests a) u h n = (u, rests (both_none Splits _ _ (advance_split v seed words e h) a), h)
  burst_follows {s = s} {t = t} (steps r a b) u h n =
      let c = both_some Splits _ _ (advance_split v seed words e h) r a in
      step_follows r u t c.0 c.1 c.2 (burst_grows e b) n (λ k. burst_follows b c.0 k n)

  no_step : {u x : Live Outside A} → Burst e host u x → advance e host u ≡ None → u ≡ x
  no_step (rests a) h = refl
  no_step (steps r a b) h = two h a

  later_steps : {u x : Live Outside A} → Burst e host u x → (c : Live Outside A) → advance e host u ≡ Some c → Burst e host c x
  later_steps (rests a) c h = two a h
  later_steps {x = x} (steps r a b) c h = subst (λ y. Burst e host y x) (same a h) b

  step_both : (r c t x : Live Outside A) → Splits r c → Burst e host r t → Burst e host c x → (Twins r c → Splits t x) → Splits t x
  step_both r c t x (inl h) b d rest = rest h
  step_both r c t x (inr h) b d rest = inr (parts_on (burst_grows e b) (burst_grows e d) h)

  burst_both : {s t : Live Outside A} → Burst e host s t → (u x : Live Outside A) → Twins s u → Burst e host u x → Splits t x
  burst_both {s = s} (rests a) u x h d = inl (subst (λ y. Twins s y) (no_step d (both_none Splits _ _ (advance_split v seed words e h) a)) h)
  burst_both {s = s} {t = t} (steps r a b) u x h d =
      let c = both_some Splits _ _ (advance_split v seed words e h) r a in
      let k = later_steps d c.0 c.1 in
      step_both r c.0 t x c.2 b k (λ j. burst_both b c.0 x j k)

  -- events
  before_twins : {b c : Begun A} → TwinsBegun b c → Twins (before b) (before c)
  before_twins (twin_begun ls p x) = twin_live p.proc x

  event_follows : (b c : Begun A) (l : Live Outside A) → SplitsBegun b c → Burst e host (before b) l → Together l.out.asked
      → (m : Live Outside A) × Burst e host (before c) m × TwinsBegun b c × Twins l m
  event_follows b c l (inl t) d n = let x = burst_follows d (before c) (before_twins t) n in (x.0, x.1, t, x.2)
  event_follows b c l (inr h) d n = absurd (together_first (burst_grows e d) n c.out.asked h)

  event_both : (b c : Begun A) (l m : Live Outside A) → SplitsBegun b c → Burst e host (before b) l → Burst e host (before c) m
      → (TwinsBegun b c × Twins l m) ⊎ Parts l.out.asked m.out.asked
  event_both b c l m (inl t) d f = of (burst_both d (before c) m (before_twins t) f)
    where
      of : Splits l m → (TwinsBegun b c × Twins l m) ⊎ Parts l.out.asked m.out.asked
      of (inl h) = inl (t, h)
      of (inr h) = inr h
  event_both b c l m (inr h) d f = inr (parts_on (burst_grows e d) (burst_grows e f) h)

  -- runs
  pub data TwinWorld : World A → World A → Type 0 where
    twin_world : (ps : List (Place A)) (x : Outside) → TwinWorld (world ps (in_file v x)) (world ps (in_file w x))

  same_ending : {V W : World A} → TwinWorld V W → ending V.out (next_of V.out) ≡ ending W.out (next_of W.out)
  same_ending (twin_world ps x) = refl

  same_asked : {V W : World A} → TwinWorld V W → V.out.asked ≡ W.out.asked
  same_asked (twin_world ps x) = refl

  begins : {V W : World A} → TwinWorld V W → Both SplitsBegun (begun_by e V (next_of V.out)) (begun_by e W (next_of W.out))
  begins (twin_world ps x) = begun_split v seed words e ps x _

  after_twins : {V W : World A} {b c : Begun A} {l m : Live Outside A} → TwinWorld V W → TwinsBegun b c → Twins l m → TwinWorld (after V b l) (after W c m)
  after_twins (twin_world ps x) (twin_begun ls p y) (twin_live q z) = twin_world _ z

  ended : {V W : World A} {last : Line} → TwinWorld V W → ending V.out (next_of V.out) ≡ Some last → Asks e W (last ∷ []) V.out.asked
  ended {last = last} (twin_world ps x) a = ends last a

  spent_at : {W : World A} {b c : Begun A} {l m : Live Outside A} → TwinsBegun b c → Twins l m → ending W.out (next_of W.out) ≡ None
      → begun_by e W (next_of W.out) ≡ Some c → Burst e host (before c) m → l.proc.core.halted ≡ Some Spent
      → Asks e W (lines_of b l ++ line.EndSpent ∷ []) l.out.asked
  spent_at (twin_begun ls p x) (twin_live q y) a k d h = spent _ _ a k d h

  event_at : {W : World A} {lines : List Line} {qs : List Question} {b c : Begun A} {l m : Live Outside A} → TwinsBegun b c → Twins l m
      → ending W.out (next_of W.out) ≡ None → begun_by e W (next_of W.out) ≡ Some c → Burst e host (before c) m → l.proc.core.halted ≡ None
      → Asks e (after W c m) lines qs → Asks e W (lines_of b l ++ lines) qs
  event_at (twin_begun ls p x) (twin_live q y) a k d h r = event _ _ a k d h r

  pub run_follows : {V : World A} {lines : List Line} {qs : List Question} → Asks e V lines qs → (W : World A) → TwinWorld V W → Together qs → Asks e W lines qs
  run_follows (ends last a) W t n = ended t a
  run_follows (spent b l a k d h) W t n =
      let c = both_some SplitsBegun _ _ (begins t) b k in
      let m = event_follows b c.0 l c.2 d n in
      spent_at m.2 m.3 (sym (same_ending t) ∙ a) c.1 m.1 h
  run_follows (event b l a k d h r) W t n =
      let c = both_some SplitsBegun _ _ (begins t) b k in
      let m = event_follows b c.0 l c.2 d (together_first (asks_grows e r) n) in
      event_at m.2 m.3 (sym (same_ending t) ∙ a) c.1 m.1 h (run_follows r (after W c.0 m.0) (after_twins t m.2 m.3) n)

  -- what is left of a run after the burst of an event
  data Left (W : World A) (b : Begun A) (l : Live Outside A) : List Question → Type 0 where
    nothing : l.proc.core.halted ≡ Some Spent → Left W b l l.out.asked
    run : {qs : List Question} (lines : List Line) → l.proc.core.halted ≡ None → Asks e (after W b l) lines qs → Left W b l qs

  left_grows : {W : World A} {b : Begun A} {l : Live Outside A} {qs : List Question} → Left W b l qs → Grows l.out.asked qs
  left_grows {l = l} (nothing h) = still l.out.asked
  left_grows (run lines h r) = asks_grows e r

  no_event : {W : World A} {lines : List Line} {qs : List Question} {last : Line} → Asks e W lines qs → ending W.out (next_of W.out) ≡ Some last → W.out.asked ≡ qs
  no_event (ends m a) h = refl
  no_event (spent b l a k d h) g = two a g
  no_event (event b l a k d h r) g = two a g

  an_event : {W : World A} {lines : List Line} {qs : List Question} → Asks e W lines qs → ending W.out (next_of W.out) ≡ None → (c : Begun A)
      → begun_by e W (next_of W.out) ≡ Some c → (m : Live Outside A) × Burst e host (before c) m × Left W c m qs
  an_event (ends last a) n c g = two n a
  an_event {W = W} (spent b l a k d h) n c g = subst (λ x. (m : Live Outside A) × Burst e host (before x) m × Left W x m l.out.asked) (same k g) (l, d, nothing h)
  an_event {W = W} {qs = qs} (event b l a k d h r) n c g = subst (λ x. (m : Live Outside A) × Burst e host (before x) m × Left W x m qs) (same k g) (l, d, run _ h r)

  same_end : {l m : Live Outside A} → Twins l m → (l.out.asked ≡ m.out.asked) × (l.proc.core.halted ≡ m.proc.core.halted)
  same_end (twin_live p x) = (refl, refl)

  abbrev SameOrParted : List Question → List Question → Type 0
  SameOrParted qs rs = (qs ≡ rs) ⊎ Parts qs rs

  spent_both : {W : World A} {b c : Begun A} {l m : Live Outside A} {rs : List Question} → (TwinsBegun b c × Twins l m) ⊎ Parts l.out.asked m.out.asked
      → l.proc.core.halted ≡ Some Spent → Left W c m rs → SameOrParted l.out.asked rs
  spent_both (inl t) h (nothing g) = inl (same_end t.1).0
  spent_both (inl t) h (run lines g r) = two ((same_end t.1).1 ∙ g) h
  spent_both {l = l} (inr p) h k = inr (parts_on (still l.out.asked) (left_grows k) p)

  whole_both : {V W : World A} {b c : Begun A} {l m : Live Outside A} {qs rs : List Question} → TwinWorld V W
      → (TwinsBegun b c × Twins l m) ⊎ Parts l.out.asked m.out.asked → l.proc.core.halted ≡ None → Grows l.out.asked qs → Left W c m rs
      → (TwinWorld (after V b l) (after W c m) → (others : List Line) → Asks e (after W c m) others rs → SameOrParted qs rs) → SameOrParted qs rs
  whole_both u (inl t) h g (nothing f) rest = two h ((same_end t.1).1 ∙ f)
  whole_both u (inl t) h g (run lines f r) rest = rest (after_twins u t.0 t.1) lines r
  whole_both u (inr p) h g k rest = inr (parts_on g (left_grows k) p)

  pub run_both : {V : World A} {lines : List Line} {qs : List Question} → Asks e V lines qs → (W : World A) → TwinWorld V W
      → (others : List Line) (rs : List Question) → Asks e W others rs → SameOrParted qs rs
  run_both (ends last a) W t others rs q = inl (same_asked t ∙ no_event q (sym (same_ending t) ∙ a))
  run_both (spent b l a k d h) W t others rs q =
      let c = both_some SplitsBegun _ _ (begins t) b k in
      let m = an_event q (sym (same_ending t) ∙ a) c.0 c.1 in
      spent_both (event_both b c.0 l m.0 c.2 d m.1) h m.2
  run_both (event b l a k d h r) W t others rs q =
      let c = both_some SplitsBegun _ _ (begins t) b k in
      let m = an_event q (sym (same_ending t) ∙ a) c.0 c.1 in
      whole_both t (event_both b c.0 l m.0 c.2 d m.1) h (asks_grows e r) m.2 (λ u ls x. run_both r (after W c.0 m.0) u ls rs x)
