-- Where an actor aims in memory is where a path leads in its frame.
use Rattle.std.proofs.Common.{◌≡◌, ℕ, ◌+◌, List, [], ◌∷◌, length, refl, sym, ap, ◌∙◌, subst, arith}
use Rattle.std.specs.Option.{option_map}
use Rattle.std.specs.declared.option.Option.{Option}
use Rattle.std.specs.declared.option.Option.TheVariants.{None, Some}
use Rattle.flow_tree.specs.declared.ty.Ident.{Ident}
use Rattle.flow_tree.specs.Decls.{RecordTree}
use Rattle.flow_value.specs.Values.{ValueTree, ValueTrees, IntValue, BoolValue, TextValue, VoidValue, ErrorValue, CompositeValue, RefValue, value_at, value_put, at_place, Whole}
use Rattle.flow_value.specs.View.{value_of}
use Rattle.flow_eval.specs.Records.{field_place}
use Rattle.flow_eval.specs.Functions as eval
use Rattle.flow_eval.specs.Functions.{put_in, read_in}
use Rattle.flow_code.specs.Resolved.Resolving.{IsNumbering, place_by}
use Rattle.flow_code.specs.Resolved.View.{places_in}
use Rattle.flow_class.specs.declared.class.Slotted.{Slotted}
use Rattle.flow_class.specs.Classes.{RawTree}
use Rattle.flow_code.specs.Coding.{one_more, fields_of}
use Rattle.flow_code.specs.declared.program.Code.{Code}
use Rattle.flow_code.specs.declared.class.Aim.{Aim}
use Rattle.flow_value.specs.declared.value.Value.{Value}
use Rattle.flow_trace.specs.declared.line.Line.{Line}
use Rattle.flow_frame.specs.Frames.{with_place}
use Rattle.flow_cancel.specs.Heap.{actor_id}
use Rattle.flow_meaning.specs.Evaluating.{bind}
use Rattle.flow_meaning.specs.Cells.{Side}
use Rattle.flow_meaning.specs.References.{Scan, count, refs_in}
use Rattle.flow_meaning.specs.Process.{Entry, Proc}
use Rattle.flow_meaning.specs.Variables.{filled}
use Rattle.flow_meaning.specs.Frame.{Memory, Frame, read, write, put_root, put_at, assign, occ_memory}
use Rattle.flow_heap_refinement.specs.Acting.{put_frame}
use Rattle.flow_heap_refinement.specs.FrameChanges.{number_in}
use Rattle.flow_heap_refinement.specs.Holds.{with_refs}
use Rattle.flow_heap_refinement.proofs.Holding.{of_path}
use Rattle.flow_heap_refinement.proofs.Standing.{place_written}
use Rattle.flow_steps.specs.declared.process.Process.{Process}
use Rattle.flow_steps.specs.Holding.{on_heap, value_refs}
use Rattle.flow_steps.specs.Points.{Numbering, Exchange, within, exchanged, reframed, place_held, place_put, Assigns}
use Rattle.flow_operation_refinement.specs.Placing.{RepresentsActor, with_memory}
use Rattle.flow_operation_refinement.proofs.Places.{framed_anew, in_memory, place_seen}
use Rattle.flow_operation_refinement.proofs.Gone.{appended}
use Rattle.flow_step_refinement.specs.Assigning as law
use Rattle.flow_step_refinement.specs.Assigning.{AimsAt, CanAssign}

-- what is exchanged, where a value can be put
record Exchanges (rs : List RecordTree) (xs : List Ident) (o : Option ValueTree) (t : ValueTree) (a b : Option ValueTree) : Type 0 where
  new : b ≡ Some t
  old : read_in rs o xs ≡ a

some_is : {A : Type 0} (x y : A) → Some x ≡ Some y → x ≡ y
some_is x y e = cc (e)

one_more_is : (o : Option ℕ) (fs : Option (List ℕ)) (gs : List ℕ) → one_more o fs ≡ Some gs
    → (g : ℕ) × ((hs : List ℕ) × ((o ≡ Some g) × (fs ≡ Some hs) × (gs ≡ g ∷ hs)))
one_more_is None fs gs h = absurd (cc (h))
one_more_is (Some g) None gs h = absurd (cc (h))
one_more_is (Some g) (Some hs) gs h = let same : g ∷ hs ≡ gs = cc (h) in (g, (hs, (refl, refl, sym same)))

module _ (rs : List RecordTree) (field : List ℕ → Option ℕ) (at : Numbering) (numbering : IsNumbering rs field at) where
  -- a record of which a part is exchanged
  within_is : (r : Whole) (vs : ValueTrees) (n m : Option ℕ) (fs : List ℕ) (ys : List Ident) (u t : ValueTree) (a b : Option ValueTree) → n ≡ m
      → within r vs n (exchanged at fs u (at_place vs n)) ≡ Some (a, b)
      → eval.put_at (CompositeValue r vs) m (put_in rs (at_place vs m) ys u) ≡ Some t
      → ((o : Option ValueTree) (t : ValueTree) (a b : Option ValueTree) → exchanged at fs u o ≡ Some (a, b) → put_in rs o ys u ≡ Some t → Exchanges rs ys o t a b)
      → (b ≡ Some t) × (read_in rs (at_place vs m) ys ≡ a)
  within_is r vs None m fs ys u t a b same h k rest = absurd (cc (h))
  within_is r vs (Some i) None fs ys u t a b same h k rest = absurd (cc (same))
  within_is r vs (Some i) (Some j) fs ys u t a b same h k rest = by_inner (put_in rs (value_at vs j) ys u) refl k
    where
      number : i ≡ j
      number = cc (same)

      moved : within r vs (Some j) (exchanged at fs u (value_at vs j)) ≡ Some (a, b)
      moved = subst (λ l. within r vs (Some l) (exchanged at fs u (value_at vs l)) ≡ Some (a, b)) number h

      by_inner : (o : Option ValueTree) → put_in rs (value_at vs j) ys u ≡ o → eval.put_at (CompositeValue r vs) (Some j) o ≡ Some t → (b ≡ Some t) × (read_in rs (value_at vs j) ys ≡ a)
      by_inner None e f = absurd (cc (f))
      by_inner (Some w) e f = by_exchange (exchanged at fs u (value_at vs j)) refl moved
        where
          by_exchange : (x : Option Exchange) → exchanged at fs u (value_at vs j) ≡ x → within r vs (Some j) x ≡ Some (a, b) → (b ≡ Some t) × (read_in rs (value_at vs j) ys ≡ a)
          by_exchange None g z = absurd (cc (z))
          by_exchange (Some (old, None)) g z = absurd (cc (z))
          by_exchange (Some (old, Some new)) g z =
              let inner = rest (value_at vs j) w old (Some new) g e in
              let is : Some new ≡ Some w = inner.new in
              let pair = some_is {A = Exchange} (old, Some (CompositeValue r (value_put vs j new))) (a, b) z in
              let one : Some (CompositeValue r (value_put vs j new)) ≡ b = ap (λ (y : Exchange). y.1) pair in
              let two : CompositeValue r (value_put vs j w) ≡ t = some_is (CompositeValue r (value_put vs j w)) t f in
              let three : old ≡ a = ap (λ (y : Exchange). y.0) pair in
              let four : new ≡ w = some_is new w is in
              (sym one ∙ ap (λ y. Some (CompositeValue r (value_put vs j y))) four ∙ ap (λ y. Some y) two, inner.old ∙ three)

  exchange_is : (xs : List Ident) (fs : List ℕ) → fields_of field xs ≡ Some fs → (u : ValueTree) (o : Option ValueTree) (t : ValueTree) (a b : Option ValueTree)
      → exchanged at fs u o ≡ Some (a, b) → put_in rs o xs u ≡ Some t → Exchanges rs xs o t a b
  exchange_is xs fs n u None t a b h k = absurd (cc (k))
  exchange_is [] [] n u (Some v) t a b h k = let same : u ≡ t = some_is u t k in let pair = some_is {A = Exchange} (Some v, Some u) (a, b) h in let old : Some v ≡ a =
      ap (λ (y : Exchange). y.0) pair in let new : Some u ≡ b = ap (λ (y : Exchange). y.1) pair in
      record { new = sym new ∙ ap (λ y. Some y) same; old = old }
  exchange_is [] (f ∷ fs) n u (Some v) t a b h k = absurd (cc (n))
  exchange_is (y ∷ ys) [] n u (Some v) t a b h k = let m = one_more_is (field y.name) (fields_of field ys) [] n in absurd (let c = m.1.1.2 in cc (c))
  exchange_is (y ∷ ys) (f ∷ fs) n u (Some (CompositeValue r vs)) t a b h k =
      let m = one_more_is (field y.name) (fields_of field ys) (f ∷ fs) n in
      let z = m.1.1.2 in
      let first : f ≡ m.0 = cc (z) in
      let others : fs ≡ m.1.0 = cc (z) in
      let number : field y.name ≡ Some f = m.1.1.0 ∙ ap (λ l. Some l) (sym first) in
      let numbers : fields_of field ys ≡ Some fs = m.1.1.1 ∙ ap (λ l. Some l) (sym others) in
      let place : at r f ≡ field_place rs r y.name = ap (λ o. place_by at r o) (sym number) ∙ numbering r y.name in
      let w = within_is r vs (at r f) (field_place rs r y.name) fs ys u t a b place h k (λ o t a b. exchange_is ys fs numbers u o t a b) in
      record { new = w.0; old = w.1 }
  exchange_is (y ∷ ys) (f ∷ fs) n u (Some (IntValue z)) t a b h k = absurd (cc (k))
  exchange_is (y ∷ ys) (f ∷ fs) n u (Some (BoolValue z)) t a b h k = absurd (cc (k))
  exchange_is (y ∷ ys) (f ∷ fs) n u (Some (TextValue z)) t a b h k = absurd (cc (k))
  exchange_is (y ∷ ys) (f ∷ fs) n u (Some VoidValue) t a b h k = absurd (cc (k))
  exchange_is (y ∷ ys) (f ∷ fs) n u (Some (ErrorValue z)) t a b h k = absurd (cc (k))
  exchange_is (y ∷ ys) (f ∷ fs) n u (Some (RefValue z c)) t a b h k = absurd (cc (k))

-- what a path of one place puts and reads
record Puts (rs : List RecordTree) (m : Memory) (q : Slotted) (u : ValueTree) (a b : Option ValueTree) (vs : List ValueTree) (n : Memory) : Type 0 where
  memory : n ≡ write m q b
  values : vs ≡ filled (a ∷ [])

module _ (rs : List RecordTree) (field : List ℕ → Option ℕ) (at : Numbering) (numbering : IsNumbering rs field at) where
  puts : (m : Memory) (q : Slotted) (xs : List Ident) (fs : List ℕ) → fields_of field xs ≡ Some fs → (u : ValueTree) (a b : Option ValueTree)
      → exchanged at fs u (read m q) ≡ Some (a, b) → (vs : List ValueTree) (n : Memory) → put_at rs m q xs u ≡ Some (vs, n)
      → Puts rs m q u a b vs n
  puts m q [] [] e u a b h vs n p =
      let pair = some_is {A = Exchange} (read m q, Some u) (a, b) h in
      let old : read m q ≡ a = ap (λ (y : Exchange). y.0) pair in
      let new : Some u ≡ b = ap (λ (y : Exchange). y.1) pair in
      let put_pair = some_is {A = List ValueTree × Memory} (filled (read m q ∷ []), write m q (Some u)) (vs, n) p in
      let one : filled (read m q ∷ []) ≡ vs = ap (λ (y : List ValueTree × Memory). y.0) put_pair in
      let two : write m q (Some u) ≡ n = ap (λ (y : List ValueTree × Memory). y.1) put_pair in
      record { memory = sym two ∙ ap (write m q) new; values = sym one ∙ ap (λ o. filled (o ∷ [])) old }
  puts m q [] (f ∷ fs) e u a b h vs n p = absurd (cc (e))
  puts m q (y ∷ ys) fs e u a b h vs n p = by_root (put_in rs (read m q) (y ∷ ys) u) refl p
    where
      by_root : (o : Option ValueTree) → put_in rs (read m q) (y ∷ ys) u ≡ o → put_root m q (filled (read_in rs (read m q) (y ∷ ys) ∷ [])) o ≡ Some (vs, n) → Puts rs m q u a b vs n
      by_root None g z = absurd (cc (z))
      by_root (Some t) g z =
          let x = exchange_is rs field at numbering (y ∷ ys) fs e u (read m q) t a b h g in
          let put_pair = some_is {A = List ValueTree × Memory} (filled (read_in rs (read m q) (y ∷ ys) ∷ []), write m q (Some t)) (vs, n) z in
          let one : filled (read_in rs (read m q) (y ∷ ys) ∷ []) ≡ vs = ap (λ (y : List ValueTree × Memory). y.0) put_pair in
          let two : write m q (Some t) ≡ n = ap (λ (y : List ValueTree × Memory). y.1) put_pair in
          record { memory = sym two ∙ ap (write m q) (sym x.new); values = sym one ∙ ap (λ o. filled (o ∷ [])) x.old }

-- What is exchanged stands where the path leads, and it can be put there.
pub record Changeable (rs : List RecordTree) (xs : List Ident) (o : Option ValueTree) (u c : ValueTree) : Type 0 where
  pub read : read_in rs o xs ≡ Some c
  pub can : put_in rs o xs u ≡ None → ⊥

module _ (rs : List RecordTree) (field : List ℕ → Option ℕ) (at : Numbering) (numbering : IsNumbering rs field at) where
  change_within : (r : Whole) (vs : ValueTrees) (n m : Option ℕ) (fs : List ℕ) (ys : List Ident) (u c : ValueTree) (b : Option ValueTree) → n ≡ m
      → within r vs n (exchanged at fs u (at_place vs n)) ≡ Some (Some c, b)
      → ((o b : Option ValueTree) → exchanged at fs u o ≡ Some (Some c, b) → Changeable rs ys o u c)
      → (read_in rs (at_place vs m) ys ≡ Some c) × (eval.put_at (CompositeValue r vs) m (put_in rs (at_place vs m) ys u) ≡ None → ⊥)
  change_within r vs None m fs ys u c b same h rest = absurd (cc (h))
  change_within r vs (Some i) None fs ys u c b same h rest = absurd (cc (same))
  change_within r vs (Some i) (Some j) fs ys u c b same h rest = by_exchange (exchanged at fs u (value_at vs j)) refl moved
    where
      number : i ≡ j
      number = cc (same)

      moved : within r vs (Some j) (exchanged at fs u (value_at vs j)) ≡ Some (Some c, b)
      moved = subst (λ l. within r vs (Some l) (exchanged at fs u (value_at vs l)) ≡ Some (Some c, b)) number h

      by_put : (o : Option ValueTree) → put_in rs (value_at vs j) ys u ≡ o → (put_in rs (value_at vs j) ys u ≡ None → ⊥) → eval.put_at (CompositeValue r vs) (Some j) o ≡ None → ⊥
      by_put None g can k = can g
      by_put (Some w) g can k = cc (k)

      by_exchange : (x : Option Exchange) → exchanged at fs u (value_at vs j) ≡ x → within r vs (Some j) x ≡ Some (Some c, b)
          → (read_in rs (value_at vs j) ys ≡ Some c) × (eval.put_at (CompositeValue r vs) (Some j) (put_in rs (value_at vs j) ys u) ≡ None → ⊥)
      by_exchange None g z = absurd (cc (z))
      by_exchange (Some (old, None)) g z = absurd (cc (z))
      by_exchange (Some (old, Some new)) g z =
          let pair = some_is {A = Exchange} (old, Some (CompositeValue r (value_put vs j new))) (Some c, b) z in
          let three : old ≡ Some c = ap (λ (y : Exchange). y.0) pair in
          let inner = rest (value_at vs j) (Some new) (g ∙ ap (λ y. Some (y, Some new)) three) in
          (inner.read, by_put (put_in rs (value_at vs j) ys u) refl inner.can)

  pub changeable : (xs : List Ident) (fs : List ℕ) → fields_of field xs ≡ Some fs → (u c : ValueTree) (o b : Option ValueTree)
      → exchanged at fs u o ≡ Some (Some c, b) → Changeable rs xs o u c
  changeable [] [] n u c None b h =
      let pair = some_is {A = Exchange} (None, Some u) (Some c, b) h in let old : None ≡ Some c = ap (λ (y : Exchange). y.0) pair in absurd (cc (old))
  changeable [] [] n u c (Some v) b h =
      let pair = some_is {A = Exchange} (Some v, Some u) (Some c, b) h in
      record { read = ap (λ (y : Exchange). y.0) pair; can = λ k. absurd (cc (k)) }
  changeable [] (f ∷ fs) n u c o b h = absurd (cc (n))
  changeable (y ∷ ys) [] n u c o b h = let m = one_more_is (field y.name) (fields_of field ys) [] n in absurd (let d = m.1.1.2 in cc (d))
  changeable (y ∷ ys) (f ∷ fs) n u c (Some (CompositeValue r vs)) b h =
      let m = one_more_is (field y.name) (fields_of field ys) (f ∷ fs) n in
      let z = m.1.1.2 in
      let first : f ≡ m.0 = cc (z) in
      let others : fs ≡ m.1.0 = cc (z) in
      let number : field y.name ≡ Some f = m.1.1.0 ∙ ap (λ l. Some l) (sym first) in
      let numbers : fields_of field ys ≡ Some fs = m.1.1.1 ∙ ap (λ l. Some l) (sym others) in
      let place : at r f ≡ field_place rs r y.name = ap (λ o. place_by at r o) (sym number) ∙ numbering r y.name in
      let w = change_within r vs (at r f) (field_place rs r y.name) fs ys u c b place h (λ o b. changeable ys fs numbers u c o b) in
      record { read = w.0; can = w.1 }
  changeable (y ∷ ys) (f ∷ fs) n u c None b h = absurd (cc (h))
  changeable (y ∷ ys) (f ∷ fs) n u c (Some (IntValue z)) b h = absurd (cc (h))
  changeable (y ∷ ys) (f ∷ fs) n u c (Some (BoolValue z)) b h = absurd (cc (h))
  changeable (y ∷ ys) (f ∷ fs) n u c (Some (TextValue z)) b h = absurd (cc (h))
  changeable (y ∷ ys) (f ∷ fs) n u c (Some VoidValue) b h = absurd (cc (h))
  changeable (y ∷ ys) (f ∷ fs) n u c (Some (ErrorValue z)) b h = absurd (cc (h))
  changeable (y ∷ ys) (f ∷ fs) n u c (Some (RefValue z k)) b h = absurd (cc (h))

  -- the same of a place of a memory and the names of fields
  pub puts_there : (m : Memory) (q : Slotted) (xs : List Ident) → (u c : ValueTree) → Changeable rs xs (read m q) u c → put_at rs m q xs u ≡ None → ⊥
  puts_there m q [] u c h k = cc (k)
  puts_there m q (y ∷ ys) u c h k = by_root (put_in rs (read m q) (y ∷ ys) u) refl k
    where
      by_root : (o : Option ValueTree) → put_in rs (read m q) (y ∷ ys) u ≡ o → put_root m q (filled (read_in rs (read m q) (y ∷ ys) ∷ [])) o ≡ None → ⊥
      by_root None g z = h.can g
      by_root (Some t) g z = cc (z)

-- A value in hand goes where a path leads, and what is in hand afterwards depends on what stood there.
pub record PutBy (r : RawTree) (ls : List Line) (p : Proc Frame) (i : ℕ) (e : Entry) (f : Frame) (y : List ValueTree → Scan) (path : List Ident) (v : Value) (old : Option Value)
    (n : Process) : Type 0 where
  pub values : List ValueTree
  pub memory : Memory
  pub assigned : assign r.records f.mem path (value_of v) ≡ Some (values, memory)
  pub same : values ≡ filled (option_map value_of old ∷ [])
  pub stood : RepresentsActor r ls (y values) n (put_frame i (with_memory memory f) p) i e (with_memory memory f)

module _ (r : RawTree) (ls : List Line) (m : Process) (p : Proc Frame) (i : ℕ) (e : Entry) (f : Frame) (x : Scan) (code : Code) (path : List Ident) (aim : Aim) (v : Value) (old : Option Value)
    (n : Process)
    (st : RepresentsActor r ls x m p i e f) (aims : AimsAt r.records code f path aim) (is : Assigns code.fields (actor_id i) aim v m old n) where
  abbrev at_place_of : Slotted
  at_place_of = aims.place

  abbrev number : ℕ
  number = number_in (length f.code.slots) at_place_of

  -- what is assigned by the path is what is put at its place
  assigns : assign r.records f.mem path (value_of v) ≡ put_at r.records f.mem at_place_of aims.fields (value_of v)
  assigns = ap (λ xs. assign r.records f.mem xs (value_of v)) aims.names ∙ ap (λ o. bind o (λ y. put_at r.records f.mem y aims.fields (value_of v))) aims.named

  seen : option_map value_of (place_held i aim.place m.heap) ≡ read f.mem at_place_of
  seen = ap (λ k. option_map value_of (place_held i k m.heap)) aims.number ∙ place_seen r ls m p i e f x at_place_of st aims.has

  parts : exchanged (places_in code.fields) aim.path.items (value_of v) (read f.mem at_place_of) ≡ Some (option_map value_of old, option_map value_of is.root)
  parts = ap (exchanged (places_in code.fields) aim.path.items (value_of v)) (sym seen) ∙ is.parts

  -- a value that stood there can be changed
  pub stood_there : (c : ValueTree) → option_map value_of old ≡ Some c → Changeable r.records aims.fields (read f.mem at_place_of) (value_of v) c
  stood_there c was =
      changeable r.records aims.field (places_in code.fields) aims.numbering aims.fields aim.path.items aims.numbers (value_of v) c (read f.mem at_place_of) (option_map value_of is.root)
      (parts ∙ ap (λ o. Some (o, option_map value_of is.root)) was)

  pub can_change : (c : ValueTree) → option_map value_of old ≡ Some c → CanAssign r.records f path (value_of v)
  can_change c was k =
      puts_there r.records aims.field (places_in code.fields) aims.numbering f.mem at_place_of aims.fields (value_of v) c (stood_there c was) (sym assigns ∙ k)

  module _ (y : List ValueTree → Scan)
      (balance : (vs : List ValueTree) → vs ≡ filled (option_map value_of old ∷ []) → (z : Side) (j : ℕ) → y vs z j + count z j (value_refs v) ≡ x z j + count z j (refs_in vs)) where
    by_put : (vs : List ValueTree) (mem : Memory) → put_at r.records f.mem at_place_of aims.fields (value_of v) ≡ Some (vs, mem) → PutBy r ls p i e f y path v old n
    by_put vs mem g =
        let w = puts r.records aims.field (places_in code.fields) aims.numbering f.mem at_place_of aims.fields aim.path.items aims.numbers (value_of v) (option_map value_of old)
        (option_map value_of is.root) parts vs mem g in
        let k : Frame = with_memory (write f.mem at_place_of (option_map value_of is.root)) f in
        let same : with_memory mem f ≡ k = ap (λ y. with_memory y f) w.memory in
        let h = with_place st.acts.memory number is.root in
        let anew = framed_anew r ls x (y vs) m p i e f st h k
        (place_written r st.acts.memory e f at_place_of is.root st.acts.stands aims.has) refl refl
        (λ z j.
        let a = of_path z j f.mem r.records at_place_of aims.fields (value_of v) vs mem (in_memory f at_place_of aims.has) g in
        let b = ap (λ y. occ_memory z j y) w.memory in
        let c = appended z j (value_refs v) in
        let d = balance vs w.values z j in omega (arith, a, b, c, d)) in
        let there : RepresentsActor r ls (y vs) (on_heap (place_put i number is.root) m) (put_frame i k p) i e k =
        subst (λ o. RepresentsActor r ls (y vs) (on_heap (reframed (λ y. with_place y number is.root) i o) m) (put_frame i k p) i e k) (sym st.acts.framed) anew in
        record {
          values = vs;
          memory = mem;
          assigned = assigns ∙ g;
          same = w.values;
          stood = subst (λ g. RepresentsActor r ls (y vs) n (put_frame i g p) i e g) (sym same)
              (subst (λ z. RepresentsActor r ls (y vs) z (put_frame i k p) i e k) (sym is.put)
              (subst (λ l. RepresentsActor r ls (y vs) (on_heap (place_put i l is.root) m) (put_frame i k p) i e k) (sym aims.number) there));
        }

    by_option : CanAssign r.records f path (value_of v) → (o : Option (List ValueTree × Memory)) → put_at r.records f.mem at_place_of aims.fields (value_of v) ≡ o
        → PutBy r ls p i e f y path v old n
    by_option can None g = absurd (can (assigns ∙ g))
    by_option can (Some y) g = by_put y.0 y.1 g

    pub put_by : CanAssign r.records f path (value_of v) → PutBy r ls p i e f y path v old n
    put_by can = by_option can (put_at r.records f.mem aims.place aims.fields (value_of v)) refl

pub path_put : (r : RawTree) (ls : List Line) (m : Process) (p : Proc Frame) (i : ℕ) (e : Entry) (f : Frame) → law.PathPut r ls m p i e f
path_put r ls m p i e f x code path aim v old n st aims can is =
    let put = put_by r ls m p i e f (with_refs (value_refs v) x) code path aim v old n st aims is (λ vs. with_refs (refs_in vs) x) (λ vs same z j. omega arith) can in record {
      values = put.values;
      memory = put.memory;
      assigned = put.assigned;
      same = put.same;
      stood = put.stood;
    }
