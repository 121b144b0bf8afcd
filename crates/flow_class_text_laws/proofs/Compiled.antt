-- Some class text derives the classes of a program that the front accepts and that isn't too heavy.
use Rattle.std.proofs.Common.{◌≡◌, ℕ, zero, suc, ◌+◌, ◌^◌, ◌≤◌, nat_lt, Bool, true, false, List, [], ◌∷◌, length, map, slice_get, if◌then◌else◌, refl, ap, subst, sym, ◌∙◌, arith, length-append}
use Rattle.std.specs.List.{AllByRecursion}
use Rattle.std.proofs.lemmas.Bool.Decides.{nat_tests}
use Rattle.std.proofs.lemmas.List.{length-map}
use Rattle.std.specs.declared.option.Option.TheVariants.{None, Some}
use Rattle.flow_tree.specs.declared.limits.TheConstants.{TOKENS, WEIGHT}
use Rattle.flow_tree.specs.declared.decl.Program.{Program}
use Rattle.flow_tree.specs.Body.{Body, ChooseStmt, WaitStmt}
use Rattle.flow_tree.specs.Decls.{RoutineTree, DeclTree, StructDecl, FunctionDecl, ActorDecl}
use Rattle.flow_tree.specs.DeclView.{program_of}
use Rattle.flow_tree.proofs.Folds.{folds_alike}
use Rattle.flow_ast.specs.Slots.{param_slot, body_slots, slots_of}
use Rattle.flow_class.specs.Classes.{ClassTree, RawTree}
use Rattle.flow_layout.specs.Laying.{layout_of}
use Rattle.flow_meaning.specs.Evaluating.{Names}
use Rattle.flow_meaning.specs.Source.{names_of, actors_in}
use Rattle.flow_rules.specs.Known.{row_of, known}
use Rattle.flow_rules.specs.Rules.{setting_of, decls_refusal}
use Rattle.flow_valid.specs.Heads.{plain_decls, all_decls, declarations_kept, head_of}
use Rattle.flow_valid.specs.Validity.{broken_rule}
use Rattle.flow_split.specs.Around.{whole}
use Rattle.flow_split.specs.Counts.{stmt_groups_counted, groups_counted, groups_in}
use Rattle.flow_split.specs.Weight.{weight, stmt_weight, weights_counted, body_weight}
use Rattle.flow_split.proofs.Lengths.{lowered_groups}
use Rattle.flow_split.specs.Lowered.{close_of}
use Rattle.flow_lower.specs.Compiled.{class_in, compiled}
use Rattle.flow_lower.specs.Weighing.{first_heavy}
use Rattle.flow_lowering_laws.proofs.Actors.Blocks.{lowered_within}
use Rattle.flow_lowering_laws.proofs.Actors.Further.{locals_count}
use Rattle.flow_typing_laws.proofs.Typing.Names.{some_none}
use Rattle.flow_typing_laws.proofs.Typing.Agreement.{neither_first, neither_second}
use Rattle.flow_front.specs.Verdict.{IsSound}
use Rattle.flow_lowering_laws.proofs.Programs.Grammar.{slots_count}
use Rattle.flow_lowering_laws.proofs.Programs.Whole.{EachActor, Formed, decls_formed, program_decls, as_many}
use Rattle.flow_validity_laws.proofs.Filled.{all_valid}
use Rattle.flow_valid.proofs.ClassRules.{sound_of}
use Rattle.flow_classprint.specs.ClassGrammar.{IsWritten}
use Rattle.flow_class_text_laws.specs.Laws.{AreLight, CompilesFew}
use Rattle.flow_class_text_laws.proofs.Writable.{ClassWritable}
use Rattle.flow_class_text_laws.proofs.Texts.{text_written}
use Rattle.flow_class_text_laws.proofs.Lexed.{program_fine}
use Rattle.flow_class_text_laws.proofs.Chunks.{lowered_said}
use Rattle.flow_class_text_laws.proofs.Nesting.{AllSized, NoRecord, plain_sized, no_records}
use Rattle.flow_class_text_laws.proofs.Kept.{IsFew, ClassSaid, no_fault, class_writable}
use Rattle.flow_class_text_laws.proofs.Actors.{ActorSaid, DeclsSaid, locals_said, decls_said, records_written, functions_written}

-- a body has no more groups than it weighs
stmt_within : (s : Body) (m n : ℕ) → m ≤ n → stmt_groups_counted s m ≤ stmt_weight s + n
stmt_within (ChooseStmt at bs k) m n h = omega (arith, h)
stmt_within (WaitStmt at w k) m n h = omega (arith, h)
stmt_within _ m n h = omega (arith, h)

groups_within : (b : Body) → groups_in b ≤ body_weight b
groups_within b = folds_alike (λ m n. m ≤ n) groups_counted weights_counted (record {
  nothing = omega arith;
  both = λ a b c d h k. omega (arith, h, k);
  of_stmt = λ s m n p h. stmt_within s m n h;
  of_catch = λ x m n h. h;
  of_wait = λ at w k m n p h. omega (arith, h);
}) b

-- actors that are not too heavy
abbrev IsLight : RoutineTree → Type 0
IsLight a = weight a ≤ WEIGHT

all_light : (ds : List DeclTree) → first_heavy ds ≡ None → EachActor IsLight ds
all_light [] e = tt
all_light (StructDecl r ∷ ds) e = all_light ds e
all_light (FunctionDecl f ∷ ds) e = all_light ds e
all_light (ActorDecl a ∷ ds) e = by_weight (nat_lt WEIGHT (weight a)) refl e (all_light ds)
  where
    by_weight : (b : Bool) → nat_lt WEIGHT (weight a) ≡ b → (if b then Some a.at else first_heavy ds) ≡ None → (first_heavy ds ≡ None → EachActor IsLight ds) → IsLight a × EachActor IsLight ds
    by_weight true is f rest = absurd (some_none f)
    by_weight false is f rest = (grind (arith, nat_tests, is), rest f)

-- the class of an actor
class_few : (ns : Names) (a : RoutineTree) (n : ℕ) → n ≤ TOKENS → Formed n a → IsLight a → IsFew (class_in ns a)
class_few ns a n le formed light =
    let slots = slots_count a.body in
    let same = lowered_groups ns (slots_of a) [] (whole (close_of a)) (record { block = 1; local = 0; group = 1 }) a.body in
    record {
      params = omega (arith, formed.few, le);
      slots = omega (arith, formed.few, le, length-append (map param_slot a.params) (body_slots a.body), length-map a.params param_slot, slots);
      locals = omega (arith, formed.few, le, locals_count a.body);
      blocks = omega (arith, light, lowered_within ns (layout_of a) a);
      groups = omega (arith, light, same, groups_within a.body);
    }

class_said : (ns : Names) (a : RoutineTree) (n : ℕ) → n ≤ TOKENS → Formed n a → ActorSaid a → ClassSaid (class_in ns a)
class_said ns a n le formed h =
    let few : length (slots_of a) ≤ 2 ^ 32 = omega (arith, formed.few, le, length-append (map param_slot a.params) (body_slots a.body), length-map a.params param_slot, slots_count a.body) in
    let c = lowered_said ns (slots_of a) few a.body [] (whole (close_of a)) (record { block = 1; local = 0; group = 1 }) h.body tt (tt, tt) (omega (arith, formed.few, le)) in
    record {
      name = h.name;
      returns = h.returns;
      slots = h.slots;
      locals = locals_said a.body h.body;
      some = omega arith;
      blocks = ((c.body, c.last), c.more);
      groups = c.groups;
    }

-- sizes of the records that are known in the classes
heads_plain : (cs : List ClassTree) → AllByRecursion (λ d. NoRecord (row_of d).1) (map head_of cs)
heads_plain [] = tt
heads_plain (c ∷ cs) = (tt, heads_plain cs)

classes_sized : (r : RawTree) → declarations_kept r ≡ true → AllSized (known (all_decls r))
classes_sized r h =
    let kept = no_fault _ h in
    no_records (map head_of r.classes) (heads_plain r.classes) (plain_decls r)
    (plain_sized (setting_of (all_decls r)) (plain_decls r) (neither_first (decls_refusal (setting_of (all_decls r)) [] (plain_decls r)) _ kept)
    (neither_second (decls_refusal (setting_of (all_decls r)) [] (plain_decls r)) _ kept))

-- all classes
all_found : {A : Type 0} (P : A → Type 0) (xs : List A) → ((i : ℕ) (x : A) → slice_get xs i ≡ Some x → P x) → AllByRecursion P xs
all_found P [] h = tt
all_found P (x ∷ xs) h = (h 0 x refl, all_found P xs (λ i y e. h (suc i) y e))

module _ (r : RawTree) (ns : Names) (n : ℕ) (le : n ≤ TOKENS) (sized : AllSized (known (all_decls r))) where
  classes_writable : (ds : List DeclTree) → DeclsSaid ds → EachActor (Formed n) ds → EachActor IsLight ds → AllByRecursion (λ c. broken_rule r c ≡ None) (map (class_in ns) (actors_in ds))
      → AllByRecursion ClassWritable (map (class_in ns) (actors_in ds))
  classes_writable [] h f l k = tt
  classes_writable (StructDecl q ∷ ds) h f l k = classes_writable ds h.1 f l k
  classes_writable (FunctionDecl q ∷ ds) h f l k = classes_writable ds h.1 f l k
  classes_writable (ActorDecl a ∷ ds) h f l k =
      let c = class_in ns a in
      let t = sound_of r c k.0 in
      (class_writable r c (class_few ns a n le f.0 l.0) sized t.names t.types (class_said ns a n le f.0 h.0), classes_writable ds h.1 f.1 l.1 k.1)

-- the few places of a class
places_few : (ns : Names) (a : RoutineTree) (n : ℕ) → n ≤ TOKENS → Formed n a → let c = class_in ns a in length c.slots + length c.locals ≤ 2 ^ 32
places_few ns a n le formed =
    omega (arith, formed.few, le, length-append (map param_slot a.params) (body_slots a.body), length-map a.params param_slot, slots_count a.body, locals_count a.body)

classes_few : (ns : Names) (n : ℕ) → n ≤ TOKENS → (ds : List DeclTree) → EachActor (Formed n) ds → (k : ℕ) (c : ClassTree)
    → slice_get (map (class_in ns) (actors_in ds)) k ≡ Some c → length c.slots + length c.locals ≤ 2 ^ 32
classes_few ns n le [] f k c e = absurd (some_none (sym e))
classes_few ns n le (StructDecl q ∷ ds) f k c e = classes_few ns n le ds f k c e
classes_few ns n le (FunctionDecl q ∷ ds) f k c e = classes_few ns n le ds f k c e
classes_few ns n le (ActorDecl a ∷ ds) f zero c e = subst (λ (x : ClassTree). length x.slots + length x.locals ≤ 2 ^ 32) (same e) (places_few ns a n le f.0)
  where
    same : {X : Type 0} {x y : X} → Some x ≡ Some y → x ≡ y
    same h = cc
classes_few ns n le (ActorDecl a ∷ ds) f (suc k) c e = classes_few ns n le ds f.1 k c e

few_tokens : (m n : ℕ) → m ≡ n → n ≤ TOKENS → m ≤ TOKENS
few_tokens m n e le = omega (arith, e, le)

pub class_text_exists : (text : List ℕ) (program : Program) → IsSound text program → AreLight program → IsWritten (compiled (program_of program))
class_text_exists text program sound light =
    let t = program_of program in
    let r = compiled t in
    let d = sound.typed.read.parsed.1 in
    let decls = program_decls _ d.marked t d.rule in
    let said = decls_said decls (program_fine text program sound.typed.read) in
    let valid = all_valid text program sound in
    let few : length d.marked ≤ TOKENS = few_tokens (length d.marked) _ (sym (as_many d.marked) ∙ ap length d.is) sound.typed.read.parsed.0 in
    let kept = all_found (λ c. broken_rule r c ≡ None) r.classes (λ i c e. (valid.classes i c e).tested) in
    text_written r (record {
      records = records_written t.decls said;
      functions = functions_written t.decls said;
      classes = classes_writable r (names_of t) (length d.marked) few (classes_sized r valid.declarations) t.decls said (decls_formed decls) (all_light t.decls light) kept;
    })

pub compiled_few : CompilesFew
compiled_few text program sound light =
    let t = program_of program in
    let d = sound.typed.read.parsed.1 in
    let decls = program_decls _ d.marked t d.rule in
    let few : length d.marked ≤ TOKENS = few_tokens (length d.marked) _ (sym (as_many d.marked) ∙ ap length d.is) sound.typed.read.parsed.0 in
    classes_few (names_of t) (length d.marked) few t.decls (decls_formed decls)
