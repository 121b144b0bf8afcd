-- All locals of a frame, or all its places, are emptied; and locals by number.
use Rattle.std.proofs.Common.{◌≡◌, ℕ, zero, suc, ◌+◌, ◌-◌, Bool, true, false, List, [], ◌∷◌, ◌++◌, length, map, refl, sym, ap, ◌∙◌, subst, arith}
use Rattle.std.specs.Option.{option_map}
use Rattle.std.specs.declared.option.Option.{Option}
use Rattle.std.specs.declared.option.Option.TheVariants.{None, Some}
use Rattle.flow_value.specs.declared.value.Value.{Value}
use Rattle.flow_value.specs.Values.{may_refer}
use Rattle.flow_value.specs.View.{value_of}
use Rattle.flow_value.proofs.References.{no_refs}
use Rattle.flow_class.specs.declared.class.Slotted.TheVariants.{Local}
use Rattle.flow_class.specs.Classes.{RawTree}
use Rattle.flow_trace.specs.declared.line.Line.{Line}
use Rattle.flow_frame.specs.Frames.{FrameTree}
use Rattle.flow_cancel.specs.Heap.{HeapTree}
use Rattle.flow_numbered.specs.Numbered.{put}
use Rattle.flow_meaning.specs.Process.{Entry, Proc}
use Rattle.flow_meaning.specs.References.{refs_in}
use Rattle.flow_meaning.specs.Step.{proc}
use Rattle.flow_meaning.specs.Work as work
use Rattle.flow_meaning.specs.Variables.{filled}
use Rattle.flow_meaning.specs.Frame.{Frame, read, write, held_in, emptied, reversed, blanks, everything, lose}
use Rattle.flow_heap_refinement.specs.Representing.{LiveFrameRepresents}
use Rattle.flow_heap_refinement.specs.Acting.{put_frame}
use Rattle.flow_heap_refinement.specs.Holds.{with_refs}
use Rattle.flow_heap_refinement.proofs.Sums.{refs_joined}
use Rattle.flow_steps.specs.declared.process.Process.{Process}
use Rattle.flow_steps.specs.Holding.{on_heap}
use Rattle.flow_steps.specs.Points.{place_held, place_put, place_lost, places_lost, losing_from, if_refers, referring, places_taken, places_emptied}
use Rattle.flow_operation_refinement.specs.Placing.{RepresentsActor, with_memory, HasLocals, nothing_in}
use Rattle.flow_operation_refinement.specs.Placing as law
use Rattle.flow_operation_refinement.proofs.Places.{as_many_stood, place_seen, place_changed}
use Rattle.flow_operation_refinement.proofs.Lost.{put_over, as_long, all_refs_joined, drops_joined, with_slots, unchanged, locals_from, slots_from}

-- as many places in memory as there are slots and locals
mapped_length : {A B : Type 0} (g : A → B) (xs : List A) → length (map g xs) ≡ length xs
mapped_length g [] = refl
mapped_length g (x ∷ xs) = ap suc (mapped_length g xs)

both_long : {A : Type 0} (xs ys : List A) → length (xs ++ ys) ≡ length xs + length ys
both_long [] ys = omega arith
both_long (x ∷ xs) ys = let a = both_long xs ys in omega (arith, a)

pub all_places : (r : RawTree) (m : FrameTree Value) (e : Entry) (f : Frame) → LiveFrameRepresents r m e f → length m.places ≡ length f.mem.slots + length f.mem.locals
all_places r m e f s = sym (mapped_length (option_map value_of) m.places) ∙ ap length s.places ∙ both_long f.mem.slots f.mem.locals

-- so many places after so many
lost_after : (i a b n : ℕ) (h : HeapTree) → places_lost i n (a + b) h ≡ places_lost i (n + a) b (places_lost i n a h)
lost_after i zero b n h = let e : 0 + b ≡ b = omega arith in let f : n ≡ n + 0 = omega arith in ap (λ k. places_lost i n k h) e ∙ ap (λ k. places_lost i k b h) f
lost_after i (suc a) b n h =
    let e : suc a + b ≡ suc (a + b) = omega arith in
    let f : suc n + a ≡ n + suc a = omega arith in
    ap (λ k. places_lost i n k h) e ∙ lost_after i a b (suc n) (place_lost i n h) ∙ ap (λ k. places_lost i k b (places_lost i (suc n) a (place_lost i n h))) f

module _ (r : RawTree) (ls : List Line) (m : Process) (p : Proc Frame) (i : ℕ) (e : Entry) (f : Frame) where
  pub locals_lost : law.LocalsLost r ls m p i e f
  locals_lost x s =
      let count : length s.acts.memory.places - length f.code.slots ≡ length f.mem.locals =
      let a = all_places r s.acts.memory e f s.acts.stands in let b = s.acts.stands.slots in omega (arith, a, b) in
      let first : length f.code.slots + 0 ≡ length f.code.slots = omega arith in
      subst (λ o. RepresentsActor r ls x (on_heap (losing_from i (length f.code.slots) o) m) (proc (work.dropping_values (lose f).0 p.core) (put p.actors i (lose f).1)) i e (lose f).1)
      (sym s.acts.framed)
      (subst (λ n. RepresentsActor r ls x (on_heap (places_lost i (length f.code.slots) n) m) (proc (work.dropping_values (lose f).0 p.core) (put p.actors i (lose f).1)) i e (lose f).1) (sym count)
      (subst (λ n. RepresentsActor r ls x (on_heap (places_lost i n (length f.mem.locals)) m) (proc (work.dropping_values (lose f).0 p.core) (put p.actors i (lose f).1)) i e (lose f).1) first
      (locals_from r ls i e x f.mem.locals [] m p f s refl)))

  pub all_lost : law.AllLost r ls m p i e f
  all_lost x s =
      let none : Frame = with_memory (nothing_in f.mem) f in
      let slotless : Frame = with_slots (blanks f.mem.slots) f in
      let done : Proc Frame = proc (work.dropping_values (everything f.mem) p.core) (put p.actors i none) in
      let n : Process = on_heap (places_lost i 0 (length f.mem.slots)) m in
      let one = slots_from r ls i e x f.mem.slots [] m p f s refl in
      let q : Proc Frame = proc (work.dropping (refs_in (filled (reversed f.mem.slots))) p.core) (put p.actors i slotless) in
      let two = locals_from r ls i e x f.mem.locals [] n q slotless one refl in
      let count : length s.acts.memory.places - 0 ≡ length f.mem.slots + length f.mem.locals =
      let a = all_places r s.acts.memory e f s.acts.stands in omega (arith, a) in
      let first : length f.code.slots + 0 ≡ 0 + length f.mem.slots = let b = s.acts.stands.slots in omega (arith, b) in
      let order : work.drops (refs_in (filled (reversed f.mem.locals))) (work.drops (refs_in (filled (reversed f.mem.slots))) p.core.tasks) ≡ work.drops (refs_in (everything f.mem)) p.core.tasks =
      sym (drops_joined (refs_in (filled (reversed f.mem.locals))) (refs_in (filled (reversed f.mem.slots))) p.core.tasks)
      ∙ ap (λ rs. work.drops rs p.core.tasks) (sym (all_refs_joined (filled (reversed f.mem.locals)) (filled (reversed f.mem.slots)))) in
      subst (λ o. RepresentsActor r ls x (on_heap (losing_from i 0 o) m) done i e none) (sym s.acts.framed)
      (subst (λ k. RepresentsActor r ls x (on_heap (places_lost i 0 k) m) done i e none) (sym count)
      (subst (λ h. RepresentsActor r ls x (record m { heap = h }) done i e none) (sym (lost_after i (length f.mem.slots) (length f.mem.locals) 0 m.heap))
      (subst (λ k. RepresentsActor r ls x (on_heap (places_lost i k (length f.mem.locals)) n) done i e none) first
      (subst (λ ts. RepresentsActor r ls x (on_heap (places_lost i (length f.code.slots + 0) (length f.mem.locals)) n) (proc (record p.core { tasks = ts }) (put p.actors i none)) i e none) order
      (subst (λ xs. RepresentsActor r ls x (on_heap (places_lost i (length f.code.slots + 0) (length f.mem.locals)) n)
      (proc (work.dropping (refs_in (filled (reversed f.mem.locals))) q.core) xs) i e none) (put_over p.actors i slotless none) two)))))

-- values that can't refer hold no reference
pub referring_refs : (o : Option Value) → refs_in (map value_of (referring o)) ≡ refs_in (filled (option_map value_of o ∷ []))
referring_refs None = refl
referring_refs (Some v) = by_test (may_refer (value_of v)) refl
  where
    by_test : (b : Bool) → may_refer (value_of v) ≡ b → refs_in (map value_of (if_refers b v)) ≡ refs_in (value_of v ∷ [])
    by_test true e = refl
    by_test false e = ap (λ rs. rs ++ []) (sym (no_refs (value_of v) e))

mapped_both : {A B : Type 0} (g : A → B) (xs ys : List A) → map g (xs ++ ys) ≡ map g xs ++ map g ys
mapped_both g [] ys = refl
mapped_both g (x ∷ xs) ys = ap (λ l. g x ∷ l) (mapped_both g xs ys)

has_locals_by : (f g : Frame) (ns : List ℕ) → length g.mem.locals ≡ length f.mem.locals → HasLocals f ns → HasLocals g ns
has_locals_by f g [] a h = tt
has_locals_by f g (n ∷ ns) a h = (let b = h.0 in omega (arith, a, b), has_locals_by f g ns a h.1)

pub locals_taken : (r : RawTree) (ls : List Line) (m : Process) (p : Proc Frame) (i : ℕ) (e : Entry) (f : Frame) → law.LocalsTaken r ls m p i e f
locals_taken r ls m p i e f x [] s h = (refl, as_many_stood r ls x (with_refs [] x) m (put_frame i f p) i e f (λ z j. omega arith) (unchanged r ls i e x m p f s))
locals_taken r ls m p i e f x (n ∷ ns) s h =
    let q = Local n in
    let one = refs_in (filled (read f.mem q ∷ [])) in
    let g : Frame = with_memory (write f.mem q None) f in
    let m1 : Process = on_heap (place_put i (length f.code.slots + n) None) m in
    let p1 : Proc Frame = put_frame i g p in
    let t = place_changed r ls m p i e f x (with_refs one x) q None s h.0 (λ z j. omega arith) in
    let rest = locals_taken r ls m1 p1 i e g (with_refs one x) ns t (has_locals_by f g ns (as_long f.mem.locals n None) h.1) in
    let held : Option Value = place_held i (length f.code.slots + n) m.heap in
    let later : List Value = places_taken i (map (λ k. length f.code.slots + k) ns) m1.heap in
    let k : Frame = with_memory (emptied ns g.mem) g in (
      ap refs_in (mapped_both value_of (referring held) later)
          ∙ all_refs_joined (map value_of (referring held)) (map value_of later)
          ∙ ap (λ rs. rs ++ refs_in (map value_of later)) (referring_refs held ∙ ap (λ o. refs_in (filled (o ∷ []))) (place_seen r ls m p i e f x q s h.0))
          ∙ ap (λ rs. one ++ rs) rest.0
          ∙ sym (all_refs_joined (filled (read f.mem q ∷ [])) (held_in g.mem ns)),
      as_many_stood r ls (with_refs (refs_in (held_in g.mem ns)) (with_refs one x)) (with_refs (refs_in (held_in f.mem (n ∷ ns))) x)
          (on_heap (places_emptied i (map (λ k. length f.code.slots + k) (n ∷ ns))) m) (put_frame i k p) i e k
          (λ z j. let a = refs_joined z j (filled (read f.mem q ∷ [])) (held_in g.mem ns) in omega (arith, a))
          (subst (λ xs. RepresentsActor r ls (with_refs (refs_in (held_in g.mem ns)) (with_refs one x)) (on_heap (places_emptied i (map (λ k. length f.code.slots + k) (n ∷ ns))) m)
          (proc p.core xs) i e k) (put_over p.actors i g k) rest.1),
    )
