-- A boot of `main` keeps a process fitting.
use Rattle.std.proofs.Common.{◌≡◌, ℕ, suc, nat_eq, List, [], ◌∷◌, length, if◌then◌else◌, true, refl, sym, ap, ◌∙◌, subst, arith, false}
use Rattle.std.specs.Prelude.{pos, slice_get, codes}
use Rattle.std.specs.Option.{unwrap_or}
use Rattle.std.specs.declared.option.Option.{Option}
use Rattle.std.specs.declared.option.Option.TheVariants.{None, Some}
use Rattle.flow_tree.specs.Tree.{TypeTree, IntType, BoolType, StringType, VoidType, ErrorType, NamedType, FutureType, FutureStreamType, PromiseType, PromiseStreamType, VectorType, NothingType}
use Rattle.flow_tree.specs.Decls.{RoutineTree}
use Rattle.flow_value.specs.Values.{ValueTree, IntValue, values_of_list}
use Rattle.flow_eval.specs.Typed.{HaveTypes}
use Rattle.flow_class.specs.Classes.{ClassTree, RawTree}
use Rattle.flow_rules.specs.Known.{Meaning, RecordOf, FunctionOf, ActorOf, known}
use Rattle.flow_rules.specs.Rules.{one_int, is_main}
use Rattle.flow_valid.specs.Heads.{all_decls}
use Rattle.flow_valid.specs.Validity.{IsValid}
use Rattle.flow_numbered.specs.Numbered.{Numbered, thing, added}
use Rattle.flow_meaning.specs.Cells.{Single}
use Rattle.flow_meaning.specs.Process.{Entry, Core}
use Rattle.flow_meaning.specs.Lines.{start_line}
use Rattle.flow_meaning.specs.Work.{writes, new_cell}
use Rattle.flow_meaning.specs.Step.{enrol}
use Rattle.flow_meaning.specs.Orderly.{tasks_of, Rising}
use Rattle.flow_meaning.specs.Deliver.{boot_with}
use Rattle.flow_meaning.specs.Frame.{Frame}
use Rattle.flow_meaning.specs.Class.{begun, fresh_from, classes, class_names}
use Rattle.flow_meaning.proofs.TaskShifts.{beyond_none}
use Rattle.flow_progress.specs.Places.{class_vars}
use Rattle.flow_progress.specs.Rules.{first_types, ClassRules}
use Rattle.flow_progress.specs.Fitting.{CellTypes, typed_by, ActorAt, ProcessFits}
use Rattle.flow_progress.specs.Beginning.{BootsFit}
use Rattle.flow_progress.proofs.Handed.{args_many, begun_fits}
use Rattle.flow_progress.proofs.States.{Fine, fine_same, fine_since, fine_turn, put_back, all_but}
use Rattle.flow_progress.proofs.NewCells.{with_type, new_type, kept_types, new_but}
use Rattle.flow_progress.proofs.StepFits.{add_actor}
use Rattle.flow_progress.proofs.Tops.{class_of}
use Rattle.flow_ast.specs.Typing.{is_nothing}

-- `main` is a class with one int and the result `Void`
record IsMain (r : RawTree) : Type 0 where
  class : ClassTree
  is : slice_get r.classes (classes r).main ≡ Some class
  takes : first_types class.params class.slots ≡ IntType ∷ []
  gives : class.returns ≡ VoidType

ints : (ts : List TypeTree) → one_int ts ≡ true → ts ≡ IntType ∷ []
ints (IntType ∷ []) h = refl
ints (IntType ∷ (t ∷ ts)) h = absurd cc
ints [] h = absurd cc
ints (BoolType ∷ ts) h = absurd cc
ints (StringType ∷ ts) h = absurd cc
ints (VoidType ∷ ts) h = absurd cc
ints (ErrorType ∷ ts) h = absurd cc
ints (NamedType x ∷ ts) h = absurd cc
ints (FutureType t ∷ ts) h = absurd cc
ints (FutureStreamType t ∷ ts) h = absurd cc
ints (PromiseType t ∷ ts) h = absurd cc
ints (PromiseStreamType t ∷ ts) h = absurd cc
ints (VectorType t ∷ ts) h = absurd cc
ints (NothingType ∷ ts) h = absurd cc

main_means : (o : Option Meaning) → is_main o ≡ true → o ≡ Some (ActorOf (IntType ∷ []) VoidType)
main_means None h = absurd cc
main_means (Some (RecordOf fs)) h = absurd cc
main_means (Some (FunctionOf ts t)) h = absurd cc
main_means (Some (ActorOf ts VoidType)) h = ap (λ l. Some (ActorOf l VoidType)) (ints ts h)
main_means (Some (ActorOf ts IntType)) h = absurd cc
main_means (Some (ActorOf ts BoolType)) h = absurd cc
main_means (Some (ActorOf ts StringType)) h = absurd cc
main_means (Some (ActorOf ts ErrorType)) h = absurd cc
main_means (Some (ActorOf ts (NamedType x))) h = absurd cc
main_means (Some (ActorOf ts (FutureType t))) h = absurd cc
main_means (Some (ActorOf ts (FutureStreamType t))) h = absurd cc
main_means (Some (ActorOf ts (PromiseType t))) h = absurd cc
main_means (Some (ActorOf ts (PromiseStreamType t))) h = absurd cc
main_means (Some (ActorOf ts (VectorType t))) h = absurd cc
main_means (Some (ActorOf ts NothingType)) h = absurd cc

main_is : (r : RawTree) → IsValid r → IsMain r
main_is r valid =
    let x = codes "main" in
    let c = class_of r x (IntType ∷ []) VoidType (main_means (known (all_decls r) x) valid.main) in
    let at : (classes r).main ≡ c.place = ap (λ o. unwrap_or o (length (class_names r).actors)) c.found in
    record { class = c.class; is = ap (slice_get r.classes) at ∙ c.is; takes = c.takes; gives = c.gives }

int_typed : (r : RawTree) (types : CellTypes) (me : ℕ) → HaveTypes r.records (typed_by types) (values_of_list (IntValue (pos me) ∷ [])) (IntType ∷ [])
int_typed r types me = (IntType, [], refl, refl, refl)

module _ (r : RawTree) (valid : IsValid r) (actors : List RoutineTree) (rules : ClassRules r actors) (types : CellTypes) (c : Core) (xs : Numbered Frame) (p : ProcessFits r types c xs)
    (up : Rising 0 c.started c.entries) (go : c.halted ≡ None) where
  -- with the new cell
  celled : (m : ℕ) (t : TypeTree) → ProcessFits r (with_type types (suc c.made) (FutureType t)) (new_cell (Single None []) (record c { left = m })) xs
  celled m t =
      let n = suc c.started in
      let k = record c { left = m } in
      let b = all_but r types n c xs p in
      let more = with_type types (suc c.made) (FutureType t) in
      let none = beyond_none c.entries 0 c.started n up (omega arith) in
      put_back r more n (new_cell (Single None []) k) xs
      (new_but r types (FutureType t) k xs n
      (record {
        cells = b.cells;
        waiting = b.waiting;
        actors = b.actors;
        work = b.work;
        ports = b.ports;
        main = b.main;
        requests = b.requests;
        numbered = b.numbered;
        framed = b.framed;
        registered = b.registered;
      })
      (Single None []) (t, refl, tt) refl)
      (subst (λ o. ActorAt r more o (thing xs n) (tasks_of n c.tasks)) (sym none) tt)
      (λ e at s. absurd (no_entry (thing c.entries n) e none at))
    where
      no_entry : (o : Option Entry) (e : Entry) → o ≡ None → o ≡ Some e → ⊥
      no_entry o e f g = cc

  booted : (vs : List ValueTree) (d : ClassTree) (class : ℕ) (name : List ℕ) → slice_get r.classes class ≡ Some d → is_nothing d.returns ≡ false
      → ((ts : CellTypes) → HaveTypes r.records (typed_by ts) (values_of_list vs) (first_types d.params d.slots))
      → (m : ℕ)
      → (let e = record (enrol class name (record c { left = m })) { main = Some (suc c.made) } in Fine r types e.halted e (added xs (suc c.started) (begun d vs)))
  booted vs d class name is some fits m =
      let k = record c { left = m } in
      let future = FutureType d.returns in
      let ts = with_type types (suc c.made) future in
      let a = begun d vs in
      let q = celled m d.returns in
      let k4 = writes (start_line (suc c.started) name) (new_cell (Single None []) k) in
      let p4 : ProcessFits r ts k4 xs = record {
        cells = q.cells;
        waiting = q.waiting;
        actors = q.actors;
        work = q.work;
        ports = q.ports;
        main = q.main;
        requests = q.requests;
        numbered = q.numbered;
        framed = q.framed;
        registered = q.registered;
      } in
      let st = begun_fits r actors (class_vars d) (typed_by ts) d (rules.classes class d is) vs (fits ts) in
      let w = add_actor r actors rules (record { now = 0; processes = 0; word = 0 }) ts k4 xs class (Some (suc c.made)) d a up p4 is (some, new_type types (suc c.made) future) refl st in
      let e = record (enrol class name k) { main = Some (suc c.made) } in
      let ys = added xs (suc c.started) a in
      let b = all_but r types (suc c.started) c xs p in
      fine_since r types ts None c.halted e ys (λ n u g. kept_types r types future c xs (suc c.started) b n u tt g)
      (fine_same r ts c.halted e ys go (record {
        cells = w.cells;
        waiting = w.waiting;
        actors = w.actors;
        work = w.work;
        ports = w.ports;
        main = λ n g. (d.returns, subst (λ z. ts z ≡ Some future) (same_number n g) (new_type types (suc c.made) future));
        requests = w.requests;
        numbered = w.numbered;
        framed = w.framed;
        registered = w.registered;
      }))
    where
      same_number : (n : ℕ) → Some (suc c.made) ≡ Some n → suc c.made ≡ n
      same_number n g = cc

pub boots_fit : (r : RawTree) → IsValid r → (actors : List RoutineTree) → ClassRules r actors → BootsFit r
boots_fit r valid actors rules types me p fits up go =
    let e = classes r in
    let vs = IntValue (pos me) ∷ [] in
    let m = main_is r valid in
    let d = m.class in
    let ok : (ts : CellTypes) → HaveTypes r.records (typed_by ts) (values_of_list vs) (first_types d.params d.slots) =
    λ ts. subst (HaveTypes r.records (typed_by ts) (values_of_list vs)) (sym m.takes) (int_typed r ts me) in
    let many = args_many r actors (class_vars d) (typed_by types) vs d.slots d.params (rules.classes e.main d m.is).params (ok types) in
    let same : nat_eq (length vs) d.params ≡ true = grind (arith, many) in
    let fresh : e.fresh e.main vs ≡ Some (begun d vs) = ap (λ o. fresh_from o vs) m.is ∙ ap (λ b. if b then Some (begun d vs) else None) same in
    let name = e.label e.main in
    subst (λ o. Fine r types (boot_with e o p).core.halted (boot_with e o p).core (boot_with e o p).actors) (sym fresh)
    (fine_turn r types (λ z. record (enrol e.main name z) { main = Some (suc z.made) }) p.core (added p.actors (suc p.core.started) (begun d vs))
    (booted r valid actors rules types p.core p.actors fits up go vs d e.main name m.is (ap is_nothing m.gives) ok))
