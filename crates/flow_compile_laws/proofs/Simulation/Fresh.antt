-- A new actor and its frame begin beside each other; both names of the program are the same; both refer to the same cells.
use Rattle.std.proofs.Common.{◌≡◌, ◌≢◌, ℕ, zero, suc, ◌+◌, nat_eq, Bool, true, false, List, [], ◌∷◌, ◌++◌, map, length, drop, inr, refl, sym, ap, ap₂, subst, ◌∙◌, append_assoc, arith, if◌then◌else◌}
use Rattle.std.proofs.lemmas.Bool.Decides.{nat_tests}
use Rattle.std.specs.Prelude.{slice_get}
use Rattle.std.specs.List.{AllByRecursion}
use Rattle.std.specs.declared.option.Option.{Option}
use Rattle.std.specs.declared.option.Option.TheVariants.{None, Some}
use Rattle.flow_tree.specs.Decls.{ParamTree, SlotTree, RoutineTree, ProgramTree}
use Rattle.flow_ast.specs.Slots.{body_slots, param_slot, slots_of}
use Rattle.flow_value.specs.Values.{ValueTree, refs_of}
use Rattle.flow_class.specs.Classes.{ClassTree, RawTree}
use Rattle.flow_meaning.specs.Cells.{Side, Ref}
use Rattle.flow_meaning.specs.Orderly.{Free}
use Rattle.flow_meaning.specs.Evaluating.{Names, bind}
use Rattle.flow_meaning.specs.Law.{BothOrNone}
use Rattle.flow_meaning.specs.References.{refs_in, count}
use Rattle.flow_meaning.specs.Source.{actors_in, names_of, routine_name, no_values, more, with_args, begun}
use Rattle.flow_meaning.specs.Source as source
use Rattle.flow_meaning.specs.Frame.{blanks}
use Rattle.flow_meaning.specs.Class.{class_name, class_names}
use Rattle.flow_meaning.specs.Class as class
use Rattle.flow_meaning.specs.Carry.{entry, here}
use Rattle.flow_meaning.specs.Carries.{Carries, AllCarried}
use Rattle.flow_meaning.specs.Shape.{IsClassOf, AreClassesOf, Shape}
use Rattle.flow_compile_laws.specs.Simulation.Memories.{slots_seen, IsNumbered}
use Rattle.flow_compile_laws.specs.Simulation.Matching.{body, ActorMatches}
use Rattle.flow_compile_laws.proofs.Simulation.Memory.{blank, length-blanks}

-- parameters with their arguments, and then state variables without values
values_blank : (ts : List SlotTree) → no_values ts ≡ slots_seen ts (blanks ts)
values_blank [] = refl
values_blank (t ∷ ts) = ap (λ l. (t.name, None) ∷ l) (values_blank ts)

args_seen : (ps : List ParamTree) (vs : List ValueTree) (ts : List SlotTree) (os : List (Option ValueTree)) → length vs ≡ length ps
    → with_args ps vs (slots_seen ts os) ≡ Some (slots_seen (map param_slot ps ++ ts) (map Some vs ++ os))
args_seen [] [] ts os h = refl
args_seen [] (v ∷ vs) ts os h = absurd (omega arith)
args_seen (p ∷ ps) [] ts os h = absurd (omega arith)
args_seen (p ∷ ps) (v ∷ vs) ts os h = ap (more (p.name.name, Some v)) (args_seen ps vs ts os (omega arith))

args_none : (ps : List ParamTree) (vs : List ValueTree) (rest : List (List ℕ × Option ValueTree)) → length vs ≢ length ps → with_args ps vs rest ≡ None
args_none [] [] rest h = absurd (h refl)
args_none [] (v ∷ vs) rest h = refl
args_none (p ∷ ps) [] rest h = refl
args_none (p ∷ ps) (v ∷ vs) rest h = ap (more (p.name.name, Some v)) (args_none ps vs rest (λ e. h (ap suc e)))

drop_params : (ps : List ParamTree) (ts : List SlotTree) → drop (length ps) (map param_slot ps ++ ts) ≡ ts
drop_params [] ts = refl
drop_params (p ∷ ps) ts = drop_params ps ts

length_slots : (ps : List ParamTree) (vs : List ValueTree) (ts : List SlotTree) → length vs ≡ length ps → length (map Some vs ++ blanks ts) ≡ length (map param_slot ps ++ ts)
length_slots [] [] ts h = length-blanks ts
length_slots [] (v ∷ vs) ts h = absurd (omega arith)
length_slots (p ∷ ps) [] ts h = absurd (omega arith)
length_slots (p ∷ ps) (v ∷ vs) ts h = ap suc (length_slots ps vs ts (omega arith))

module _ (ns : Names) where
  begun_row : (a : RoutineTree) (c : ClassTree) (vs : List ValueTree) → IsClassOf a c → Carries ns a c → IsNumbered c → length vs ≡ length a.params
      → ActorMatches ns Free (begun a (slots_seen (slots_of a) (map Some vs ++ blanks (body_slots a.body)))) (class.begun c vs)
  begun_row a c vs k h few same =
      let rest : drop c.params c.slots ≡ body_slots a.body = ap₂ drop k.params k.slots ∙ drop_params a.params (body_slots a.body) in
      let slots : map Some vs ++ blanks (drop c.params c.slots) ≡ map Some vs ++ blanks (body_slots a.body) = ap (λ l. map Some vs ++ blanks l) rest in
      inr (record {
        s = [];
        ts = [];
        to = entry 0;
        vars = ap₂ (λ l os. record { states = slots_seen l os; locals = [] }) (sym k.slots) (sym slots);
        held = record {
          numbered = few;
          slots = ap length slots ∙ length_slots a.params vs (body_slots a.body) same ∙ ap length (sym k.slots);
          locals = length-blanks c.locals;
          falling = tt;
          empty = λ n o. blank c.locals n;
        };
        at = body h tt;
        way = here;
      })

  one_fresh : (a : RoutineTree) (c : ClassTree) (vs : List ValueTree) → IsClassOf a c → Carries ns a c → IsNumbered c
      → BothOrNone (ActorMatches ns Free) (source.fresh_from (Some a) vs) (class.fresh_from (Some c) vs)
  one_fresh a c vs k h few = by_test (nat_eq (length vs) c.params) refl
    where
      by_test : (b : Bool) → nat_eq (length vs) c.params ≡ b → BothOrNone (ActorMatches ns Free) (source.fresh_from (Some a) vs) (if b then Some (class.begun c vs) else None)
      by_test true e =
          let same : length vs ≡ length a.params = equal (length vs) c.params e ∙ k.params in
          subst (λ o. BothOrNone (ActorMatches ns Free) (bind o (λ ss. Some (begun a ss))) (Some (class.begun c vs)))
          (sym (ap (with_args a.params vs) (values_blank (body_slots a.body)) ∙ args_seen a.params vs (body_slots a.body) (blanks (body_slots a.body)) same))
          (begun_row a c vs k h few same)
        where
          equal : (n i : ℕ) → nat_eq n i ≡ true → n ≡ i
          equal n i e = grind (arith, nat_tests)
      by_test false e =
          subst (λ o. BothOrNone (ActorMatches ns Free) (bind o (λ ss. Some (begun a ss))) None)
          (sym (args_none a.params vs (no_values (body_slots a.body)) (λ f. differ (length vs) c.params e (f ∙ sym k.params)))) tt
        where
          differ : (n i : ℕ) → nat_eq n i ≡ false → n ≡ i → ⊥
          differ n i e f = grind (arith, nat_tests)

  pub fresh_row : (rest : List RoutineTree) (cs : List ClassTree) → AreClassesOf rest cs → AllCarried ns rest cs → AllByRecursion IsNumbered cs → (k : ℕ) (vs : List ValueTree)
      → BothOrNone (ActorMatches ns Free) (source.fresh_from (slice_get rest k) vs) (class.fresh_from (slice_get cs k) vs)
  fresh_row [] [] shape carried few k vs = tt
  fresh_row [] (c ∷ cs) shape carried few k vs = absurd shape
  fresh_row (a ∷ rest) [] shape carried few k vs = absurd shape
  fresh_row (a ∷ rest) (c ∷ cs) shape carried few zero vs = one_fresh a c vs shape.0 carried.0 few.0
  fresh_row (a ∷ rest) (c ∷ cs) shape carried few (suc k) vs = fresh_row rest cs shape.1 carried.1 few.1 k vs

-- both name the same
actors_same : (rest : List RoutineTree) (cs : List ClassTree) → AreClassesOf rest cs → map class_name cs ≡ map routine_name rest
actors_same [] [] h = refl
actors_same [] (c ∷ cs) h = absurd h
actors_same (a ∷ rest) [] h = absurd h
actors_same (a ∷ rest) (c ∷ cs) h = ap₂ (λ x xs. x ∷ xs) h.0.name (actors_same rest cs h.1)

pub names_same : (p : ProgramTree) (r : RawTree) → Shape p r → class_names r ≡ names_of p
names_same p r h =
    ap₂ (λ x y. record { records = x; functions = y; actors = map class_name r.classes }) h.records h.functions
    ∙ ap (λ z. record { records = (names_of p).records; functions = (names_of p).functions; actors = z }) (actors_same (actors_in p.decls) r.classes h.classes)

-- references of values
refs_append : (xs ys : List ValueTree) → refs_in (xs ++ ys) ≡ refs_in xs ++ refs_in ys
refs_append [] ys = refl
refs_append (v ∷ xs) ys = ap (λ l. refs_of v ++ l) (refs_append xs ys) ∙ sym (append_assoc (refs_of v) (refs_in xs) (refs_in ys))

count_append : (side : Side) (k : ℕ) (xs ys : List Ref) → count side k (xs ++ ys) ≡ count side k xs + count side k ys
count_append side k [] ys = omega arith
count_append side k (x ∷ xs) ys = omega (arith, count_append side k xs ys)

pub counted : (side : Side) (k : ℕ) (xs ys : List ValueTree) → count side k (refs_in xs) + count side k (refs_in ys) ≡ count side k (refs_in (xs ++ ys))
counted side k xs ys = sym (ap (count side k) (refs_append xs ys) ∙ count_append side k (refs_in xs) (refs_in ys))
