-- What stands in the places of a frame keeps a rule on references, after values go into places or out of them.
use Rattle.std.proofs.Common.{ℕ, zero, suc, List, [], ◌∷◌, ◌++◌, set}
use Rattle.std.specs.Prelude.{slice_get}
use Rattle.std.specs.declared.option.Option.{Option}
use Rattle.std.specs.declared.option.Option.TheVariants.{None, Some}
use Rattle.flow_tree.specs.declared.ty.Ident.{Ident}
use Rattle.flow_tree.specs.Decls.{RecordTree}
use Rattle.flow_value.specs.Values.{ValueTree}
use Rattle.flow_class.specs.declared.class.Slotted.{Slotted}
use Rattle.flow_class.specs.declared.class.Slotted.TheVariants.{Slot, Local}
use Rattle.flow_class.specs.Places.{place_named}
use Rattle.flow_eval.specs.Functions.{put_in, read_in}
use Rattle.flow_eval.specs.Answers.{arg}
use Rattle.flow_meaning.specs.Evaluating.{bind}
use Rattle.flow_meaning.specs.Variables.{filled, flat}
use Rattle.flow_meaning.specs.Frame.{Memory, read, write, look, held_in, emptied, reversed, blanks, everything, put_at, put_root, assign}
use Rattle.flow_heap_refinement.specs.Evaluation.{Rule, GivesFutures, Named, AllNamed, MaybeNamed, ResNamed, AllResNamed}
use Rattle.flow_heap_refinement.specs.Evaluation as names
use Rattle.flow_heap_refinement.proofs.Evaluation.Answering.{put_in_named, read_in_named}
use Rattle.flow_heap_refinement.specs.Naming.{PlacesNamed, MemoryNamed}

module _ (p : Rule) where
  -- lists
  pub both_named : (vs us : List ValueTree) → AllNamed p vs → AllNamed p us → AllNamed p (vs ++ us)
  both_named [] us h k = k
  both_named (v ∷ vs) us h k = (h.0, both_named vs us h.1 k)

  pub arg_named : (vs : List ValueTree) (n : ℕ) → AllNamed p vs → Named p (arg vs n)
  arg_named [] n h = tt
  arg_named (v ∷ vs) zero h = h.0
  arg_named (v ∷ vs) (suc n) h = arg_named vs n h.1

  pub joined_named : (os qs : List (Option ValueTree)) → PlacesNamed p os → PlacesNamed p qs → PlacesNamed p (os ++ qs)
  joined_named [] qs h k = k
  joined_named (o ∷ os) qs h k = (h.0, joined_named os qs h.1 k)

  pub reversed_named : (os : List (Option ValueTree)) → PlacesNamed p os → PlacesNamed p (reversed os)
  reversed_named [] h = tt
  reversed_named (o ∷ os) h = joined_named (reversed os) (o ∷ []) (reversed_named os h.1) (h.0, tt)

  pub filled_named : (os : List (Option ValueTree)) → PlacesNamed p os → AllNamed p (filled os)
  filled_named [] h = tt
  filled_named (None ∷ os) h = filled_named os h.1
  filled_named (Some v ∷ os) h = (h.0, filled_named os h.1)

  pub place_at : (os : List (Option ValueTree)) (n : ℕ) → PlacesNamed p os → MaybeNamed p (flat (slice_get os n))
  place_at [] n h = tt
  place_at (o ∷ os) zero h = h.0
  place_at (o ∷ os) (suc n) h = place_at os n h.1

  pub place_set : (os : List (Option ValueTree)) (n : ℕ) (o : Option ValueTree) → PlacesNamed p os → MaybeNamed p o → PlacesNamed p (set os n o)
  place_set [] n o h k = tt
  place_set (x ∷ os) zero o h k = (k, h.1)
  place_set (x ∷ os) (suc n) o h k = (h.0, place_set os n o h.1 k)

  pub blanks_named : {A : Type 0} (xs : List A) → PlacesNamed p (blanks xs)
  blanks_named [] = tt
  blanks_named (x ∷ xs) = (tt, blanks_named xs)

  -- memories
  pub read_named : (m : Memory) (q : Slotted) → MemoryNamed p m → MaybeNamed p (read m q)
  read_named m (Slot n) h = place_at m.slots n h.slots
  read_named m (Local n) h = place_at m.locals n h.locals

  pub write_named : (m : Memory) (q : Slotted) (o : Option ValueTree) → MemoryNamed p m → MaybeNamed p o → MemoryNamed p (write m q o)
  write_named m (Slot n) o h k = record { slots = place_set m.slots n o h.slots k; locals = h.locals }
  write_named m (Local n) o h k = record { slots = h.slots; locals = place_set m.locals n o h.locals k }

  pub look_named : (m : Memory) → MemoryNamed p m → names.LookNamed p (look m)
  look_named m h x = by_place (place_named x)
    where
      by_place : (o : Option Slotted) → MaybeNamed p (bind o (read m))
      by_place None = tt
      by_place (Some q) = read_named m q h

  pub maybe_filled : (o : Option ValueTree) → MaybeNamed p o → AllNamed p (filled (o ∷ []))
  maybe_filled None h = tt
  maybe_filled (Some v) h = (h, tt)

  pub held_named : (m : Memory) (ns : List ℕ) → MemoryNamed p m → AllNamed p (held_in m ns)
  held_named m [] h = tt
  held_named m (n ∷ ns) h = both_named (filled (read m (Local n) ∷ [])) (held_in (write m (Local n) None) ns) (maybe_filled (read m (Local n)) (read_named m (Local n) h))
      (held_named (write m (Local n) None) ns (write_named m (Local n) None h tt))

  pub emptied_named : (ns : List ℕ) (m : Memory) → MemoryNamed p m → MemoryNamed p (emptied ns m)
  emptied_named [] m h = h
  emptied_named (n ∷ ns) m h = emptied_named ns (write m (Local n) None) (write_named m (Local n) None h tt)

  pub everything_named : (m : Memory) → MemoryNamed p m → AllNamed p (everything m)
  everything_named m h = both_named (filled (reversed m.locals)) (filled (reversed m.slots)) (filled_named (reversed m.locals) (reversed_named m.locals h.locals))
      (filled_named (reversed m.slots) (reversed_named m.slots h.slots))

  abbrev pub PutNamed : Option (List ValueTree × Memory) → Type 0
  PutNamed None = Unit {0}
  PutNamed (Some x) = AllNamed p x.0 × MemoryNamed p x.1

  pub root_named : (m : Memory) (q : Slotted) (old : List ValueTree) (o : Option ValueTree) → MemoryNamed p m → AllNamed p old → MaybeNamed p o → PutNamed (put_root m q old o)
  root_named m q old None h k n = tt
  root_named m q old (Some u) h k n = (k, write_named m q (Some u) h n)

  pub put_named : (rs : List RecordTree) (m : Memory) (q : Slotted) (ys : List Ident) (v : ValueTree) → MemoryNamed p m → Named p v → PutNamed (put_at rs m q ys v)
  put_named rs m q [] v h n = (maybe_filled (read m q) (read_named m q h), write_named m q (Some v) h n)
  put_named rs m q (y ∷ ys) v h n =
      root_named m q (filled (read_in rs (read m q) (y ∷ ys) ∷ [])) (put_in rs (read m q) (y ∷ ys) v) h
      (maybe_filled (read_in rs (read m q) (y ∷ ys)) (read_in_named p rs (read m q) (y ∷ ys) (read_named m q h))) (put_in_named p rs (read m q) (y ∷ ys) v (read_named m q h) n)

  pub assign_named : (rs : List RecordTree) (m : Memory) (xs : List Ident) (v : ValueTree) → MemoryNamed p m → Named p v → PutNamed (assign rs m xs v)
  assign_named rs m [] v h n = tt
  assign_named rs m (x ∷ xs) v h n = by_place (place_named x.name)
    where
      by_place : (o : Option Slotted) → PutNamed (bind o (λ q. put_at rs m q xs v))
      by_place None = tt
      by_place (Some q) = put_named rs m q xs v h n
