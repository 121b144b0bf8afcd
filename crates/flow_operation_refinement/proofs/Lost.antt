-- Places of a frame that are emptied, one after another.
use Rattle.std.proofs.Common.{◌≡◌, ℕ, zero, suc, ◌+◌, ◌<◌, nat_eq, Bool, true, false, List, [], ◌∷◌, ◌++◌, length, set, if◌then◌else◌, refl, sym, ap, ◌∙◌, subst, arith}
use Rattle.std.specs.Prelude.{slice_get}
use Rattle.std.specs.declared.option.Option.{Option}
use Rattle.std.specs.declared.option.Option.TheVariants.{None, Some}
use Rattle.flow_value.specs.Values.{ValueTree, refs_of}
use Rattle.flow_class.specs.declared.class.Slotted.TheVariants.{Slot, Local}
use Rattle.flow_class.specs.Classes.{RawTree}
use Rattle.flow_trace.specs.declared.line.Line.{Line}
use Rattle.flow_numbered.specs.Numbered.{Numbered, put}
use Rattle.flow_meaning.specs.Cells.{Ref}
use Rattle.flow_meaning.specs.Process.{Task, Drop, Entry, Proc}
use Rattle.flow_meaning.specs.References.{Scan, count, refs_in}
use Rattle.flow_meaning.specs.Step.{proc, on_core}
use Rattle.flow_meaning.specs.Work as work
use Rattle.flow_meaning.specs.Variables.{flat, filled}
use Rattle.flow_meaning.specs.Frame.{Frame, read, write, reversed, blanks}
use Rattle.flow_heap_refinement.specs.Acting.{put_frame}
use Rattle.flow_heap_refinement.proofs.Acted.{same_put}
use Rattle.flow_steps.specs.declared.process.Process.{Process}
use Rattle.flow_steps.specs.Holding.{on_heap}
use Rattle.flow_steps.specs.Points.{place_lost, places_lost}
use Rattle.flow_operation_refinement.specs.Placing.{RepresentsActor, with_memory}
use Rattle.flow_operation_refinement.proofs.Places.{one_lost}

-- lists
pub put_over : {A : Type 0} (xs : Numbered A) (i : ℕ) (a b : A) → put (put xs i a) i b ≡ put xs i b
put_over [] i a b = refl
put_over (x ∷ xs) i a b = by_test (nat_eq i x.0) refl (put_over xs i a b)
  where
    by_test : (t : Bool) → nat_eq i x.0 ≡ t → put (put xs i a) i b ≡ put xs i b → put (if t then (x.0, a) ∷ xs else x ∷ put xs i a) i b ≡ (if t then (x.0, b) ∷ xs else x ∷ put xs i b)
    by_test true e k = ap (λ t. if t then (x.0, b) ∷ xs else (x.0, a) ∷ put xs i b) e
    by_test false e k = ap (λ t. if t then (x.0, b) ∷ put xs i a else x ∷ put (put xs i a) i b) e ∙ ap (λ ys. x ∷ ys) k

append_assoc : {A : Type 0} (xs ys zs : List A) → (xs ++ ys) ++ zs ≡ xs ++ (ys ++ zs)
append_assoc [] ys zs = refl
append_assoc (x ∷ xs) ys zs = ap (λ l. x ∷ l) (append_assoc xs ys zs)

length_after : {A : Type 0} (xs : List A) (y : A) (ys : List A) → length xs < length (xs ++ y ∷ ys)
length_after [] y ys = omega arith
length_after (x ∷ xs) y ys = let a = length_after xs y ys in omega (arith, a)

length_more : {A : Type 0} (n : ℕ) (xs : List A) (y : A) → n + length (xs ++ y ∷ []) ≡ suc (n + length xs)
length_more n [] y = omega arith
length_more n (x ∷ xs) y = let a = length_more n xs y in omega (arith, a)

pub as_long : {A : Type 0} (xs : List A) (n : ℕ) (a : A) → length (set xs n a) ≡ length xs
as_long [] n a = refl
as_long (x ∷ xs) zero a = refl
as_long (x ∷ xs) (suc n) a = ap suc (as_long xs n a)

got_after : (ds : List (Option ValueTree)) (o : Option ValueTree) (os : List (Option ValueTree)) → flat (slice_get (ds ++ o ∷ os) (length ds)) ≡ o
got_after [] o os = refl
got_after (d ∷ ds) o os = got_after ds o os

set_after : (ds : List (Option ValueTree)) (o : Option ValueTree) (os : List (Option ValueTree)) → set (ds ++ o ∷ os) (length ds) None ≡ (ds ++ None ∷ []) ++ os
set_after [] o os = refl
set_after (d ∷ ds) o os = ap (λ l. d ∷ l) (set_after ds o os)

-- drops of what stood at places in order
pub drops_joined : (rs ss : List Ref) (ts : List Task) → work.drops (rs ++ ss) ts ≡ work.drops rs (work.drops ss ts)
drops_joined [] ss ts = refl
drops_joined (r ∷ rs) ss ts = ap (λ us. Drop r.0 r.1 ∷ us) (drops_joined rs ss ts)

pub all_refs_joined : (vs us : List ValueTree) → refs_in (vs ++ us) ≡ refs_in vs ++ refs_in us
all_refs_joined [] us = refl
all_refs_joined (v ∷ vs) us = ap (λ rs. refs_of v ++ rs) (all_refs_joined vs us) ∙ sym (append_assoc (refs_of v) (refs_in vs) (refs_in us))

filled_joined : (os ps : List (Option ValueTree)) → filled (os ++ ps) ≡ filled os ++ filled ps
filled_joined [] ps = refl
filled_joined (None ∷ os) ps = filled_joined os ps
filled_joined (Some v ∷ os) ps = ap (λ vs. v ∷ vs) (filled_joined os ps)

drops_in_order : (os ps : List (Option ValueTree)) (ts : List Task) → work.drops (refs_in (filled (os ++ ps))) ts ≡ work.drops (refs_in (filled os)) (work.drops (refs_in (filled ps)) ts)
drops_in_order os ps ts =
    ap (λ vs. work.drops (refs_in vs) ts) (filled_joined os ps)
    ∙ ap (λ rs. work.drops rs ts) (all_refs_joined (filled os) (filled ps))
    ∙ drops_joined (refs_in (filled os)) (refs_in (filled ps)) ts

abbrev pub with_locals : List (Option ValueTree) → Frame → Frame
with_locals os f = record f { mem = record f.mem { locals = os } }

abbrev pub with_slots : List (Option ValueTree) → Frame → Frame
with_slots os f = record f { mem = record f.mem { slots = os } }

module _ (r : RawTree) (ls : List Line) (i : ℕ) (e : Entry) (x : Scan) where
  -- the same frame put again
  pub unchanged : (m : Process) (p : Proc Frame) (f : Frame) → RepresentsActor r ls x m p i e f → RepresentsActor r ls x m (proc p.core (put p.actors i f)) i e f
  unchanged m p f s = subst (λ xs. RepresentsActor r ls x m (proc p.core xs) i e f) (sym (same_put p.actors i f s.acts.acting)) s

  -- what is left to do after the first place
  further : (m : Process) (p : Proc Frame) (f g k : Frame) (n1 n2 count : ℕ) (o : Option ValueTree) (os : List (Option ValueTree)) (a : Option ValueTree) → a ≡ o → n1 ≡ n2 → g ≡ k
      → RepresentsActor r ls x (on_heap (places_lost i n1 count) m)
      (proc (work.dropping (refs_in (filled (reversed os))) (work.dropping (refs_in (filled (a ∷ []))) p.core)) (put (put p.actors i f) i g)) i e g
      → RepresentsActor r ls x (on_heap (places_lost i n2 count) m) (proc (work.dropping (refs_in (filled (reversed os ++ o ∷ []))) p.core) (put p.actors i k)) i e k
  further m p f g k n1 n2 count o os a ao nn gk s =
      subst (λ h. RepresentsActor r ls x (on_heap (places_lost i n2 count) m) (proc (work.dropping (refs_in (filled (reversed os ++ o ∷ []))) p.core) (put p.actors i h)) i e h) gk
      (subst (λ n. RepresentsActor r ls x (on_heap (places_lost i n count) m) (proc (work.dropping (refs_in (filled (reversed os ++ o ∷ []))) p.core) (put p.actors i g)) i e g) nn
      (subst (λ ts. RepresentsActor r ls x (on_heap (places_lost i n1 count) m) (proc (record p.core { tasks = ts }) (put p.actors i g)) i e g)
      (sym (drops_in_order (reversed os) (o ∷ []) p.core.tasks))
      (subst (λ b. RepresentsActor r ls x (on_heap (places_lost i n1 count) m)
      (proc (work.dropping (refs_in (filled (reversed os))) (work.dropping (refs_in (filled (b ∷ []))) p.core)) (put p.actors i g)) i e g) ao
      (subst (λ xs. RepresentsActor r ls x (on_heap (places_lost i n1 count) m) (proc (work.dropping (refs_in (filled (reversed os))) (work.dropping (refs_in (filled (a ∷ []))) p.core)) xs) i e g)
      (put_over p.actors i f g) s))))

  pub locals_from : (os ds : List (Option ValueTree)) (m : Process) (p : Proc Frame) (f : Frame) → RepresentsActor r ls x m p i e f → f.mem.locals ≡ ds ++ os
      → RepresentsActor r ls x (on_heap (places_lost i (length f.code.slots + length ds) (length os)) m)
      (proc (work.dropping (refs_in (filled (reversed os))) p.core) (put p.actors i (with_locals (ds ++ blanks os) f))) i e (with_locals (ds ++ blanks os) f)
  locals_from [] ds m p f s h = subst (λ g. RepresentsActor r ls x m (proc p.core (put p.actors i g)) i e g) (ap (λ ys. with_locals ys f) h) (unchanged m p f s)
  locals_from (o ∷ os) ds m p f s h =
      let q = Local (length ds) in
      let there : length ds < length f.mem.locals = let a = ap length h in let b = length_after ds o os in omega (arith, a, b) in
      let t = one_lost r ls m p i e f x q s there in
      let g : Frame = with_memory (write f.mem q None) f in
      let now : g.mem.locals ≡ (ds ++ None ∷ []) ++ os = ap (λ l. set l (length ds) None) h ∙ set_after ds o os in
      let rest = locals_from os (ds ++ None ∷ []) (on_heap (place_lost i (length f.code.slots + length ds)) m) (on_core (work.dropping (refs_in (filled (read f.mem q ∷ [])))) (put_frame i g p)) g t
      now in
      further (on_heap (place_lost i (length f.code.slots + length ds)) m) p g (with_locals ((ds ++ None ∷ []) ++ blanks os) g) (with_locals (ds ++ None ∷ blanks os) f)
      (length f.code.slots + length (ds ++ None ∷ [])) (suc (length f.code.slots + length ds)) (length os) o os (read f.mem q)
      (ap (λ l. flat (slice_get l (length ds))) h ∙ got_after ds o os) (length_more (length f.code.slots) ds None)
      (ap (λ l. with_locals l f) (append_assoc ds (None ∷ []) (blanks os))) rest

  pub slots_from : (os ds : List (Option ValueTree)) (m : Process) (p : Proc Frame) (f : Frame) → RepresentsActor r ls x m p i e f → f.mem.slots ≡ ds ++ os
      → RepresentsActor r ls x (on_heap (places_lost i (length ds) (length os)) m)
      (proc (work.dropping (refs_in (filled (reversed os))) p.core) (put p.actors i (with_slots (ds ++ blanks os) f))) i e (with_slots (ds ++ blanks os) f)
  slots_from [] ds m p f s h = subst (λ g. RepresentsActor r ls x m (proc p.core (put p.actors i g)) i e g) (ap (λ ys. with_slots ys f) h) (unchanged m p f s)
  slots_from (o ∷ os) ds m p f s h =
      let q = Slot (length ds) in
      let there : length ds < length f.mem.slots = let a = ap length h in let b = length_after ds o os in omega (arith, a, b) in
      let t = one_lost r ls m p i e f x q s there in
      let g : Frame = with_memory (write f.mem q None) f in
      let now : g.mem.slots ≡ (ds ++ None ∷ []) ++ os = ap (λ l. set l (length ds) None) h ∙ set_after ds o os in
      let rest = slots_from os (ds ++ None ∷ []) (on_heap (place_lost i (length ds)) m) (on_core (work.dropping (refs_in (filled (read f.mem q ∷ [])))) (put_frame i g p)) g t now in
      further (on_heap (place_lost i (length ds)) m) p g (with_slots ((ds ++ None ∷ []) ++ blanks os) g) (with_slots (ds ++ None ∷ blanks os) f)
      (length (ds ++ None ∷ [])) (suc (length ds)) (length os) o os (read f.mem q)
      (ap (λ l. flat (slice_get l (length ds))) h ∙ got_after ds o os) (let a = length_more 0 ds None in omega (arith, a))
      (ap (λ l. with_slots l f) (append_assoc ds (None ∷ []) (blanks os))) rest
