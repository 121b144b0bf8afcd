-- How often a reference of a kind is among the parts of a heap at rest, and among which of them.
use Rattle.std.proofs.Common.{◌≡◌, ◌≤◌, ℕ, suc, ◌+◌, nat_eq, Bool, true, false, ◌&&◌, List, [], ◌∷◌, ◌++◌, map, if◌then◌else◌, refl, sym, ap, ◌∙◌, subst, arith}
use Rattle.std.proofs.lemmas.Bool.Decides.{nat_tests}
use Rattle.std.specs.List.{flat_map}
use Rattle.std.specs.declared.option.Option.{Option}
use Rattle.std.specs.declared.option.Option.TheVariants.{None, Some}
use Rattle.flow_base.specs.declared.ids.CellId.{CellId}
use Rattle.flow_value.specs.declared.value.Kind.{Kind}
use Rattle.flow_value.specs.declared.value.Kind.TheVariants.{Promise, Future, PromiseStream, FutureStream}
use Rattle.flow_value.specs.Values.{refs_of}
use Rattle.flow_numbered.specs.Numbered.{thing}
use Rattle.flow_cell.specs.declared.waiter.Waiter.{Waiter}
use Rattle.flow_heapstate.specs.State.{CellPart, StreamPart, Parts, parts_of}
use Rattle.flow_heapstate.specs.Referring as parts
use Rattle.flow_heapstate.specs.Referring.{Ref, content_refs, noted, named, waited, waits_of, cell_refs, stream_refs, actor_refs, result_refs, same_kind, times}
use Rattle.flow_heapstate.specs.Sound.{value_refs, results}
use Rattle.flow_meaning.specs.Cells.{side_of, Cell, Single, Stream}
use Rattle.flow_meaning.specs.Process.{Proc}
use Rattle.flow_meaning.specs.References.{same_side, one, count}
use Rattle.flow_meaning.specs.Frame.{Frame}
use Rattle.flow_meaning.proofs.Posture.{same_number}
use Rattle.flow_meaning.proofs.Shifts.{same_of}
use Rattle.flow_heap_refinement.specs.Holds.{There, AllThere}
use Rattle.flow_heap_refinement.specs.Losing.{RightCell}
use Rattle.flow_heap_refinement.proofs.Sums.{sum_by}
use Rattle.flow_restore_laws.specs.States.Heaps.{TimesCounted}
use Rattle.flow_restore_laws.proofs.States.Totals.{sum_at}
use Rattle.flow_restore_laws.proofs.States.Leading.{parts_lead}
use Rattle.flow_restore_laws.proofs.States.Counting.{counted}

abbrev marked : Bool → Bool → ℕ
marked a b = if a && b then 1 else 0

marked_not : (a : Bool) → marked a false ≡ 0
marked_not true = refl
marked_not false = refl

-- references to one cell are of one side where they are of one kind
alike : (c : Cell) (q o : Kind) → RightCell q c → RightCell o c → same_side (side_of q) (side_of o) ≡ same_kind q o
alike (Single x ws) Promise Promise a b = refl
alike (Single x ws) Promise Future a b = refl
alike (Single x ws) Future Promise a b = refl
alike (Single x ws) Future Future a b = refl
alike (Single x ws) Promise PromiseStream a b = absurd b
alike (Single x ws) Promise FutureStream a b = absurd b
alike (Single x ws) Future PromiseStream a b = absurd b
alike (Single x ws) Future FutureStream a b = absurd b
alike (Single x ws) PromiseStream o a b = absurd a
alike (Single x ws) FutureStream o a b = absurd a
alike (Stream v x w) PromiseStream PromiseStream a b = refl
alike (Stream v x w) PromiseStream FutureStream a b = refl
alike (Stream v x w) FutureStream PromiseStream a b = refl
alike (Stream v x w) FutureStream FutureStream a b = refl
alike (Stream v x w) PromiseStream Promise a b = absurd b
alike (Stream v x w) PromiseStream Future a b = absurd b
alike (Stream v x w) FutureStream Promise a b = absurd b
alike (Stream v x w) FutureStream Future a b = absurd b
alike (Stream v x w) Promise o a b = absurd a
alike (Stream v x w) Future o a b = absurd a

module _ (q : Kind) (k : ℕ) where
  times_first : (r : Ref) (rs : List Ref) → times q k (r ∷ rs) ≡ marked (same_kind q r.0) (nat_eq k r.1) + times q k rs
  times_first r rs = by_test (same_kind q r.0 && nat_eq k r.1)
    where
      by_test : (t : Bool) → (if t then suc (times q k rs) else times q k rs) ≡ (if t then 1 else 0) + times q k rs
      by_test true = omega arith
      by_test false = omega arith

  times_joined : (xs ys : List Ref) → times q k (xs ++ ys) ≡ times q k xs + times q k ys
  times_joined [] ys = omega arith
  times_joined (x ∷ xs) ys =
      let a = times_first x (xs ++ ys) in
      let b = times_first x xs in
      let c = times_joined xs ys in omega (arith, a, b, c)

  times_flat : {A P : Type 0} (refs : P → List Ref) (part : ℕ × A → P) (xs : List (ℕ × A)) → times q k (flat_map refs (map part xs)) ≡ sum_by (λ n a. times q k (refs (part (n, a)))) xs
  times_flat refs part [] = refl
  times_flat refs part (x ∷ xs) = let a = times_joined (refs (part x)) (flat_map refs (map part xs)) in let b = times_flat refs part xs in omega (arith, a, b)

  -- what one part has, all have
  pub among : {A P : Type 0} (refs : P → List Ref) (part : ℕ × A → P) (xs : List (ℕ × A)) (n : ℕ) (a : A) → thing xs n ≡ Some a
      → times q k (refs (part (n, a))) ≤ times q k (flat_map refs (map part xs))
  among refs part xs n a e = let b = times_flat refs part xs in let c = sum_at (λ n a. times q k (refs (part (n, a)))) xs n a e in omega (arith, b, c)

  -- by their kinds
  module _ (p : Proc Frame) (c : Cell) (at : thing p.core.cells k ≡ Some c) (right : RightCell q c) where
    ref_count : (r : Ref) → There p r → marked (same_kind q r.0) (nat_eq k r.1) ≡ one (side_of q) k (side_of r.0) r.1
    ref_count r t = by_test (nat_eq k r.1) refl
      where
        by_test : (b : Bool) → nat_eq k r.1 ≡ b → marked (same_kind q r.0) b ≡ marked (same_side (side_of q) (side_of r.0)) b
        by_test true e =
            let same : k ≡ r.1 = grind (arith, nat_tests, e) in
            let cell : t.cell ≡ c = same_of (sym t.at ∙ sym (ap (thing p.core.cells) same) ∙ at) in
            ap (λ a. marked a true) (sym (alike c q r.0 right (subst (RightCell r.0) cell t.right)))
        by_test false e = marked_not (same_kind q r.0) ∙ sym (marked_not (same_side (side_of q) (side_of r.0)))

    times_count : (rs : List Ref) → AllThere p rs → times q k rs ≡ count (side_of q) k rs
    times_count [] t = refl
    times_count (r ∷ rs) t =
        let a = times_first r rs in
        let b = ref_count r t.0 in
        let d = times_count rs t.1 in omega (arith, a, b, d)

pub times_counted : TimesCounted
times_counted r h p k c q f at right = times_count q k p c at right (parts.references (parts_of h)) (parts_lead r h p f) ∙ counted (side_of q) k r h p f

-- requests and ports among the parts
abbrev pub requested_refs : Parts → List Ref
requested_refs p = flat_map (λ (c : CellPart). noted c.requested Promise c.cell) p.cells

abbrev pub ported_refs : Parts → List Ref
ported_refs p = flat_map (λ (s : StreamPart). noted s.port PromiseStream s.cell) p.streams

pub noted_once : (q : Kind) (n : ℕ) (b : Bool) → same_kind q q ≡ true → b ≡ true → times q n (noted b q n) ≡ 1
noted_once q n b same e =
    ap (λ t. times q n (noted t q n)) e ∙ times_first q n (q, n) []
    ∙ (let a : marked (same_kind q q) (nat_eq n n) ≡ 1 = ap (λ t. marked t (nat_eq n n)) same ∙ ap (marked true) (same_number n) in omega (arith, a))

module _ (q : Kind) (k : ℕ) where
  -- references of other kinds
  other_first : (o : Kind) (n : ℕ) (rs : List Ref) → same_kind q o ≡ false → times q k ((o, n) ∷ rs) ≡ times q k rs
  other_first o n rs not = ap (λ b. if b && nat_eq k n then suc (times q k rs) else times q k rs) not

  noted_other : (o : Kind) → same_kind q o ≡ false → (b : Bool) (n : ℕ) → times q k (noted b o n) ≡ 0
  noted_other o not true n = other_first o n [] not
  noted_other o not false n = refl

  named_other : (o : Kind) → same_kind q o ≡ false → (c : Option CellId) → times q k (named c o) ≡ 0
  named_other o not None = refl
  named_other o not (Some c) = other_first o c.0 [] not

  waits_other : same_kind q Future ≡ false → (n : ℕ) (ws : List Waiter) → times q k (waits_of n ws) ≡ 0
  waits_other not n [] = refl
  waits_other not n (w ∷ ws) = other_first Future n (waits_of n ws) not ∙ waits_other not n ws

  waited_other : same_kind q FutureStream ≡ false → (o : Option Waiter) (n : ℕ) → times q k (waited o n) ≡ 0
  waited_other not None n = refl
  waited_other not (Some w) n = other_first FutureStream n [] not

  flat_other : {P : Type 0} (refs : P → List Ref) → ((x : P) → times q k (refs x) ≡ 0) → (xs : List P) → times q k (flat_map refs xs) ≡ 0
  flat_other refs none [] = refl
  flat_other refs none (x ∷ xs) =
      let a = times_joined q k (refs x) (flat_map refs xs) in
      let b = none x in
      let c = flat_other refs none xs in omega (arith, a, b, c)

  -- what each part has two lists of, all parts have
  flat_both : {P : Type 0} (refs f g : P → List Ref) → ((x : P) → times q k (refs x) ≡ times q k (f x) + times q k (g x)) → (xs : List P)
      → times q k (flat_map refs xs) ≡ times q k (flat_map f xs) + times q k (flat_map g xs)
  flat_both refs f g both [] = refl
  flat_both refs f g both (x ∷ xs) =
      let a = times_joined q k (refs x) (flat_map refs xs) in
      let b = times_joined q k (f x) (flat_map f xs) in
      let c = times_joined q k (g x) (flat_map g xs) in
      let d = both x in
      let e = flat_both refs f g both xs in omega (arith, a, b, c, d, e)

  -- Promises stand in values, and are those of actors, of requests and of ports.
  module _ (single : same_kind q Future ≡ false) (stream : same_kind q FutureStream ≡ false) where
    of_cell : (c : CellPart) → times q k (cell_refs c) ≡ times q k (content_refs c.content) + times q k (noted c.requested Promise c.cell)
    of_cell c =
        let a = times_joined q k (content_refs c.content) (noted c.requested Promise c.cell ++ waits_of c.cell c.waiters) in
        let b = times_joined q k (noted c.requested Promise c.cell) (waits_of c.cell c.waiters) in
        let d = waits_other single c.cell c.waiters in omega (arith, a, b, d)

    of_stream : (s : StreamPart) → times q k (stream_refs s) ≡ times q k (flat_map refs_of s.queue) + times q k (noted s.port PromiseStream s.cell)
    of_stream s =
        let a = times_joined q k (flat_map refs_of s.queue) (noted s.port PromiseStream s.cell ++ waited s.waiter s.cell) in
        let b = times_joined q k (noted s.port PromiseStream s.cell) (waited s.waiter s.cell) in
        let d = waited_other stream s.waiter s.cell in omega (arith, a, b, d)

    split : (p : Parts) → times q k (parts.references p) ≡ times q k (results p) + (times q k (value_refs p) + (times q k (requested_refs p) + times q k (ported_refs p)))
    split p =
        let contents : CellPart → List Ref = λ c. content_refs c.content in
        let queues : StreamPart → List Ref = λ s. flat_map refs_of s.queue in
        let j = times_joined q k in
        let a = j (results p) (parts.stored_refs p) in
        let b = j (flat_map cell_refs p.cells) (flat_map stream_refs p.streams ++ (flat_map actor_refs p.actors ++ named p.main Future)) in
        let c = j (flat_map stream_refs p.streams) (flat_map actor_refs p.actors ++ named p.main Future) in
        let d = j (flat_map actor_refs p.actors) (named p.main Future) in
        let e = flat_both cell_refs contents (λ c. noted c.requested Promise c.cell) of_cell p.cells in
        let f = flat_both stream_refs queues (λ s. noted s.port PromiseStream s.cell) of_stream p.streams in
        let g = named_other Future single p.main in
        let u = j (flat_map contents p.cells) (flat_map queues p.streams ++ flat_map actor_refs p.actors) in
        let v = j (flat_map queues p.streams) (flat_map actor_refs p.actors) in omega (arith, a, b, c, d, e, f, g, u, v)

-- of single results, and of streams
pub promises_split : (k : ℕ) (p : Parts) → times Promise k (parts.references p) ≡ times Promise k (results p) + (times Promise k (value_refs p) + times Promise k (requested_refs p))
promises_split k p =
    let a = split Promise k refl refl p in
    let b = flat_other Promise k (λ (s : StreamPart). noted s.port PromiseStream s.cell) (λ s. noted_other Promise k PromiseStream refl s.port s.cell) p.streams in omega (arith, a, b)

pub ports_split : (k : ℕ) (p : Parts) → times PromiseStream k (parts.references p) ≡ times PromiseStream k (value_refs p) + times PromiseStream k (ported_refs p)
ports_split k p =
    let a = split PromiseStream k refl refl p in
    let b = flat_other PromiseStream k result_refs (λ x. named_other PromiseStream k Promise refl x.result) p.actors in
    let c = flat_other PromiseStream k (λ (c : CellPart). noted c.requested Promise c.cell) (λ c. noted_other PromiseStream k Promise refl c.requested c.cell) p.cells in omega (arith, a, b, c)
