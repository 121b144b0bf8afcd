-- Every burst of classes that lead on ends.
use Rattle.std.proofs.Common.{◌≡◌, ℕ, zero, suc, ◌<◌, ◌≤◌, ◌⊎◌, inl, inr, refl, ap, subst, arith}
use Rattle.std.specs.declared.option.Option.{Option}
use Rattle.std.specs.declared.option.Option.TheVariants.{None, Some}
use Rattle.flow_class.specs.Classes.{RawTree}
use Rattle.flow_meaning.specs.Requests.{Request}
use Rattle.flow_meaning.specs.Process.{Halt, Core, Proc}
use Rattle.flow_numbered.specs.Numbered.{Numbered}
use Rattle.flow_meaning.specs.Step.{Stepped, step_if, step}
use Rattle.flow_meaning.specs.Orderly.{Orderly, UnlessStopped}
use Rattle.flow_meaning.specs.Burst.{Host, Live, serve, advanced, advance}
use Rattle.flow_meaning.specs.Frame.{Frame}
use Rattle.flow_meaning.specs.Class.{classes}
use Rattle.flow_meaning.proofs.Posture.{Unless, unless_map, unless_both}
use Rattle.flow_meaning.proofs.InOrder.{advance_in_order}
use Rattle.flow_progress.specs.Phases.{Placed}
use Rattle.flow_progress.specs.FramesByRequest.{Going}
use Rattle.flow_progress.specs.Ending.{LeadOn, InPlace, here, onward, NoPlace, Ends, BurstsEnd}
use Rattle.flow_progress.proofs.KeptPhases.{PlacedMaybe, step_placed}
use Rattle.flow_progress.proofs.Goes.{frames_going}
use Rattle.flow_progress.proofs.Weights.{load, Less}
use Rattle.flow_progress.proofs.TaskFalls.{Comes_to, step_less}

module _ {W : Type 0} (r : RawTree) (leads : LeadOn r) (h : Host W) where
  abbrev pub InPlaceNow : Live W Frame → Type 0
  InPlaceNow s = UnlessStopped s.proc.core.halted (InPlace r s.proc.core s.proc.actors)

  -- both parts of it
  parts : (x : Option Halt) (c : Core) (xs : Numbered Frame) → UnlessStopped x (InPlace r c xs) → UnlessStopped x (Orderly c × Placed (Going r) c xs)
  parts x c xs k = unless_map x (λ (p : InPlace r c xs). (p.orderly, p.frames)) k

  in_order : (x : Option Halt) (c : Core) (xs : Numbered Frame) → UnlessStopped x (InPlace r c xs) → UnlessStopped x (Orderly c)
  in_order x c xs k = unless_map x (λ (p : InPlace r c xs). p.orderly) k

  -- the world serves what a step asks, and its lines don't matter
  abbrev ServedPlaced : Option (Live W Frame) → Type 0
  ServedPlaced None = Unit {0}
  ServedPlaced (Some l) = Unless (λ k. Placed (Going r) k l.proc.actors) l.proc.core

  serve_placed : (q : Option Request) (p : Proc Frame) (w : W) → Unless (λ k. Placed (Going r) k p.actors) p.core
      → Unless (λ k. Placed (Going r) k (serve h q p w).proc.actors) (serve h q p w).proc.core
  serve_placed None p w k = k
  serve_placed (Some q) p w k = unless_map p.core.halted (λ (k : Placed (Going r) p.core p.actors). record { all = k.all; phases = k.phases }) k

  advanced_placed : (w : W) (o : Option (Stepped Frame)) → PlacedMaybe (classes r) (Going r) (frames_going r) o → ServedPlaced (advanced h w o)
  advanced_placed w None k = tt
  advanced_placed w (Some q) k = serve_placed q.1 q.0 w k

  advance_placed : (s : Live W Frame) → InPlaceNow s → ServedPlaced (advance (classes r) h s)
  advance_placed s k =
      advanced_placed s.out (step (classes r) (h.supply s.out) s.proc)
      (step_placed (classes r) (Going r) (frames_going r) (h.supply s.out) s.proc.core.halted s.proc.core s.proc.actors (parts s.proc.core.halted s.proc.core s.proc.actors k))

  both : (x : Option Halt) (c : Core) (xs : Numbered Frame) → UnlessStopped x (Orderly c) → UnlessStopped x (Placed (Going r) c xs) → UnlessStopped x (InPlace r c xs)
  both x c xs a b = unless_map x (λ (p : Orderly c × Placed (Going r) c xs). record { orderly = p.0; frames = p.1 }) (unless_both (Orderly c) (Placed (Going r) c xs) x a b)

  pub next_in_place : (s l : Live W Frame) → InPlaceNow s → advance (classes r) h s ≡ Some l → InPlaceNow l
  next_in_place s l k a =
      both l.proc.core.halted l.proc.core l.proc.actors (advance_in_order (classes r) h s l (in_order s.proc.core.halted s.proc.core s.proc.actors k) a) (subst ServedPlaced a (advance_placed s k))

  -- after a step
  abbrev Smaller : Live W Frame → Option (Live W Frame) → Type 0
  Smaller s None = Unit {0}
  Smaller s (Some l) = NoPlace r s.proc.core s.proc.actors ⊎ Unless (λ m. Less s.proc.core (load s.proc.core s.proc.actors) m (load m l.proc.actors)) l.proc.core

  serve_less : (c : Core) (n : ℕ) (q : Option Request) (p : Proc Frame) (w : W) → Unless (λ m. Less c n m (load m p.actors)) p.core
      → Unless (λ m. Less c n m (load m (serve h q p w).proc.actors)) (serve h q p w).proc.core
  serve_less c n None p w k = k
  serve_less c n (Some q) p w k = k

  advanced_less : (s : Live W Frame) (o : Option (Stepped Frame)) → Comes_to r leads (h.supply s.out) s.proc.core s.proc.actors o → Smaller s (advanced h s.out o)
  advanced_less s None k = tt
  advanced_less s (Some q) (inl k) = inl k
  advanced_less s (Some q) (inr k) = inr (serve_less s.proc.core (load s.proc.core s.proc.actors) q.1 q.0 s.out k)

  advance_less : (s : Live W Frame) → InPlaceNow s → Smaller s (advance (classes r) h s)
  advance_less s k =
      advanced_less s (step (classes r) (h.supply s.out) s.proc)
      (step_less r leads (h.supply s.out) s.proc.core.halted s.proc.core s.proc.actors (parts s.proc.core.halted s.proc.core s.proc.actors k))

  -- a stopped process takes no step
  pub stopped : (l : Live W Frame) (y : Halt) → l.proc.core.halted ≡ Some y → advance (classes r) h l ≡ None
  stopped l y e = ap (λ x. advanced h l.out (step_if (classes r) (h.supply l.out) x l.proc)) e

  after_step : (s l : Live W Frame) → advance (classes r) h s ≡ Some l → Ends r h l → Ends r h s
  after_step s l a e = (e.0, onward l a e.1, e.2)

  -- a burst ends where those end that have fewer turns, or less to do
  one_step : (s : Live W Frame) → InPlaceNow s → ((l : Live W Frame) → l.proc.core.left < s.proc.core.left → InPlaceNow l → Ends r h l)
      → ((l : Live W Frame) → l.proc.core.left ≤ s.proc.core.left → load l.proc.core l.proc.actors < load s.proc.core s.proc.actors → InPlaceNow l → Ends r h l) → Ends r h s
  one_step s k fewer lighter = by_next (advance (classes r) h s) refl (advance_less s k)
    where
      by_halt : (l : Live W Frame) (x : Option Halt) → l.proc.core.halted ≡ x → UnlessStopped x (Less s.proc.core (load s.proc.core s.proc.actors) l.proc.core (load l.proc.core l.proc.actors))
          → InPlaceNow l → Ends r h l
      by_halt l (Some y) e u p = (l, here, inl (stopped l y e))
      by_halt l None e (inl lt) p = fewer l lt p
      by_halt l None e (inr q) p = lighter l q.0 q.1 p

      by_next : (o : Option (Live W Frame)) → advance (classes r) h s ≡ o → Smaller s o → Ends r h s
      by_next None a q = (s, here, inl a)
      by_next (Some l) a (inl q) = (s, here, inr q)
      by_next (Some l) a (inr u) = after_step s l a (by_halt l l.proc.core.halted refl u (next_in_place s l k a))

  -- by what is left to do
  by_load : (n m : ℕ) → ((s : Live W Frame) → s.proc.core.left < n → InPlaceNow s → Ends r h s) → (s : Live W Frame) → s.proc.core.left ≤ n → load s.proc.core s.proc.actors ≤ m → InPlaceNow s
      → Ends r h s
  by_load n zero fewer s le lm k = one_step s k (λ l lt p. fewer l (omega (arith, lt, le)) p) (λ l l2 lt p. absurd (omega (arith, lt, lm)))
  by_load n (suc m) fewer s le lm k = one_step s k (λ l lt p. fewer l (omega (arith, lt, le)) p) (λ l l2 lt p. by_load n m fewer l (omega (arith, l2, le)) (omega (arith, lt, lm)) p)

  -- by the turns that are left
  by_turns : (n : ℕ) (s : Live W Frame) → s.proc.core.left < n → InPlaceNow s → Ends r h s
  by_turns zero s lt k = absurd (omega (arith, lt))
  by_turns (suc n) s lt k = by_load n (load s.proc.core s.proc.actors) (λ l lt2 p. by_turns n l lt2 p) s (omega (arith, lt)) (omega arith) k

  pub bursts_end : BurstsEnd r h
  bursts_end s k = by_turns (suc s.proc.core.left) s (omega arith) k
