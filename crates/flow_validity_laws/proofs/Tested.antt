-- The classes of a program that the front accepts keep the rules V1 to V7.
use Rattle.std.proofs.Common.{◌≡◌, ℕ, zero, suc, ◌^◌, ◌<◌, ◌≤◌, Bool, true, false, ◌&&◌, List, [], ◌∷◌, length, map, slice_get, refl, ap, sym, subst, ◌∙◌, arith, if◌then◌else◌}
use Rattle.std.proofs.lemmas.Bool.{false≢true}
use Rattle.std.specs.List.{list_all}
use Rattle.std.specs.declared.option.Option.TheVariants.{None, Some}
use Rattle.flow_tree.specs.declared.limits.TheConstants.{TOKENS}
use Rattle.flow_tree.specs.declared.decl.Program.{Program}
use Rattle.flow_tree.specs.Decls.{RoutineTree, DeclTree, StructDecl, FunctionDecl, ActorDecl, ProgramTree}
use Rattle.flow_tree.specs.DeclView.{program_of}
use Rattle.flow_ast.specs.Slots.{body_slots, slots_of}
use Rattle.flow_ast.specs.Typing.{is_nothing}
use Rattle.flow_class.specs.Classes.{ClassTree}
use Rattle.flow_rules.specs.Known.{field_row}
use Rattle.flow_rules.specs.Judged.{Setting, returned}
use Rattle.flow_rules.specs.Items.{written}
use Rattle.flow_rules.specs.Rules.{setting_of, name_fault, params_fault, body_env, decls_refusal}
use Rattle.flow_rules.proofs.Lesser.{no_second}
use Rattle.flow_rules.specs.Least.{unless}
use Rattle.flow_rules.specs.declared.rule.SemanticRule.TheVariants.{WrongType}
use Rattle.flow_meaning.specs.Evaluating.{Names}
use Rattle.flow_meaning.specs.Source.{actors_in, names_of}
use Rattle.flow_split.specs.Around.{whole}
use Rattle.flow_split.specs.Lowered.{block_with, lowered, close_of, text_end}
use Rattle.flow_lower.specs.Compiled.{class_in, compiled}
use Rattle.flow_front.specs.Verdict.{IsTyped}
use Rattle.flow_valid.specs.declared.rule.ClassRule.TheVariants as rule
use Rattle.flow_valid.specs.Named.{names_exist}
use Rattle.flow_valid.specs.Validity.{leads_forward, groups_chosen, catchers_kept, class_setting, block_fits, callback_fits, types_fit, first_broken, broken_rule, last_fits}
use Rattle.flow_lowering_laws.specs.Actors.Parts.{HasParts}
use Rattle.flow_lowering_laws.specs.Actors.InPlace.{InPlace}
use Rattle.flow_lowering_laws.specs.Actors.Laws.{IsSmall}
use Rattle.flow_lowering_laws.proofs.Programs.Whole.{EachActor, Formed, Placed, decls_formed, program_decls, as_many, decls_placed, small}
use Rattle.flow_typing_laws.proofs.Typing.Names.{none_some, some_same}
use Rattle.flow_typing_laws.proofs.Typing.Agreement.{neither_first}
use Rattle.flow_validity_laws.proofs.Naming.{both}
use Rattle.flow_validity_laws.proofs.Numbered.{numbered_well, all_types}
use Rattle.flow_validity_laws.proofs.Choosing.{chosen_well}
use Rattle.flow_validity_laws.proofs.Sorting.{setting_same}
use Rattle.flow_validity_laws.proofs.Declaring.{Accepted, is_accepted, declares_well, mains_well}
use Rattle.flow_validity_laws.proofs.Heading.{heads_well}
use Rattle.flow_validity_laws.specs.Laws.{KeepsRules}
use Rattle.flow_validity_laws.proofs.OverPlaces.{over_class}
use Rattle.flow_validity_laws.proofs.InForce.{sees_params}
use Rattle.flow_validity_laws.proofs.Fitting.{block_fit, body_fit}
use Rattle.flow_validity_laws.proofs.Effects.{IsJudged, actors_judged, effects_agree}
use Rattle.flow_validity_laws.proofs.Instructions.{none_is}
use Rattle.flow_base.specs.declared.place.Place.{Place}
use Rattle.none_is.{}

-- what is known of an actor of an accepted program
pub record IsWell (s : Setting) (a : RoutineTree) : Type 0 where
  pub parts : HasParts a.body
  pub small : IsSmall a
  pub placed : InPlace (slots_of a) false false [] a.body
  pub judged : IsJudged s a

all_well : (s : Setting) (n : ℕ) (ds : List DeclTree) → n < 2 ^ 64 → EachActor (Formed n) ds → EachActor Placed ds → EachActor (IsJudged s) ds → EachActor (IsWell s) ds
all_well s n [] lt f p j = tt
all_well s n (StructDecl r ∷ ds) lt f p j = all_well s n ds lt f p j
all_well s n (FunctionDecl g ∷ ds) lt f p j = all_well s n ds lt f p j
all_well s n (ActorDecl a ∷ ds) lt f p j = (record { parts = f.0.parts; small = small n a lt f.0; placed = p.0; judged = j.0 }, all_well s n ds lt f.1 p.1 j.1)

few_tokens : (m n : ℕ) → m ≡ n → n ≤ TOKENS → m < 2 ^ 64
few_tokens m n e le = omega (arith, e, le)

pub actors_well : (text : List ℕ) (p : Program) → IsTyped text p → EachActor (IsWell (setting_of (program_of p).decls false)) (program_of p).decls
actors_well text p h =
    let t = program_of p in
    let d = h.read.parsed.1 in
    let formed = decls_formed (program_decls _ d.marked t d.rule) in
    let few : length d.marked < 2 ^ 64 = few_tokens (length d.marked) _ (sym (as_many d.marked) ∙ ap length d.is) h.read.parsed.0 in
    let kept = neither_first (decls_refusal (setting_of t.decls) [] t.decls) _ h.accepted in
    all_well (setting_of t.decls false) (length d.marked) t.decls few formed (decls_placed (setting_of t.decls) [] t.decls (length d.marked) formed kept)
    (actors_judged (setting_of t.decls) [] t.decls kept)

-- each class is that of an actor
pub record IsOf (P : RoutineTree → Type 0) (ns : Names) (c : ClassTree) : Type 0 where
  pub actor : RoutineTree
  pub is : class_in ns actor ≡ c
  pub holds : P actor

pub class_of : (P : RoutineTree → Type 0) (ns : Names) (ds : List DeclTree) (i : ℕ) (c : ClassTree) → EachActor P ds → slice_get (map (class_in ns) (actors_in ds)) i ≡ Some c → IsOf P ns c
class_of P ns [] i c h e = absurd (none_some e)
class_of P ns (StructDecl r ∷ ds) i c h e = class_of P ns ds i c h e
class_of P ns (FunctionDecl f ∷ ds) i c h e = class_of P ns ds i c h e
class_of P ns (ActorDecl a ∷ ds) zero c h e = record { actor = a; is = some_same (class_in ns a) c e; holds = h.0 }
class_of P ns (ActorDecl a ∷ ds) (suc i) c h e = class_of P ns ds i c h.1 e

-- the end of a body suits what the class gives
end_suits : (p : ProgramTree) (c : ClassTree) (close : Place) (b : Bool) → is_nothing c.returns ≡ b
    → last_fits c (over_class (setting_of p.decls false) c) (text_end (if b then None else Some close)) ≡ true
end_suits p c close true e = none_is (returned (over_class (setting_of p.decls false) c) None c.returns) (ap (λ z. unless z WrongType) e)
end_suits p c close false e = refl

-- the types of a class
types_well : (p : ProgramTree) → Accepted p → (a : RoutineTree) → IsWell (setting_of p.decls false) a → types_fit (compiled p) (class_in (names_of p) a) ≡ true
types_well p h a k =
    let ns = names_of p in
    let c = class_in ns a in
    let base = setting_of p.decls false in
    let w = whole (close_of a) in
    let vs = map field_row a.params in
    let ch = lowered ns c.slots [] w (record { block = 1; local = 0; group = 1 }) a.body in
    let agree = effects_agree p h in
    let params = no_second (written base a.returns) (params_fault base (λ x. false) a.params) (no_second (name_fault k.judged.before a.name.name) _ k.judged.header) in
    let sees = sees_params base ns c k.small.slots k.small.locals base a.params (body_slots a.body) refl params in
    let f = body_fit base ns c k.small.slots k.small.locals agree a.body false false (body_env base a) vs [] w (record { block = 1; local = 0; group = 1 })
    (record { setting = refl; returns = refl; sees = sees; caught = record { known = λ t. absurd (false≢true t) } }) (record { exit = end_suits p c a.close (is_nothing a.returns) refl; again = refl }) tt
    (all_types ns c [] c.locals refl) k.parts k.placed k.judged.body in
    let same : class_setting (compiled p) c ≡ over_class base c = ap (λ (s : Setting). over_class s c) (setting_same p h.apart false) in
    subst (λ s. list_all (block_fits c s) c.blocks && list_all (list_all (callback_fits c s)) c.groups ≡ true) (sym same)
    (both (list_all (block_fits c (over_class base c)) c.blocks) _
    (both (block_fits c (over_class base c) (block_with None ch)) _ (block_fit base ns c k.small.slots k.small.locals agree None ch f) f.more) f.groups)

all_hold : (a b c d e : Bool) → a ≡ true → b ≡ true → c ≡ true → d ≡ true → e ≡ true
    → first_broken ((rule.Names, a) ∷ (rule.Edges, b) ∷ (rule.Groups, c) ∷ (rule.Catchers, d) ∷ (rule.Types, e) ∷ []) ≡ None
all_hold true true true true true f g h i j = refl
all_hold false b c d e f g h i j = cc
all_hold true false c d e f g h i j = cc
all_hold true true false d e f g h i j = cc
all_hold true true true false e f g h i j = cc
all_hold true true true true false f g h i j = cc

class_tested : (p : ProgramTree) → Accepted p → (a : RoutineTree) → IsWell (setting_of p.decls false) a → broken_rule (compiled p) (class_in (names_of p) a) ≡ None
class_tested p h a k =
    let ns = names_of p in
    let c = class_in ns a in
    let n = numbered_well ns a k.small k.parts k.placed in
    all_hold (names_exist c) (leads_forward c) (groups_chosen c) (catchers_kept c) (types_fit (compiled p) c) n.named n.forward (chosen_well ns a) n.caught (types_well p h a k)

pub classes_tested : (text : List ℕ) (p : Program) → IsTyped text p → (i : ℕ) (c : ClassTree) → slice_get (compiled (program_of p)).classes i ≡ Some c → broken_rule (compiled (program_of p)) c ≡ None
classes_tested text p h i c e =
    let t = program_of p in
    let k = class_of (IsWell (setting_of t.decls false)) (names_of t) t.decls i c (actors_well text p h) e in
    subst (λ z. broken_rule (compiled t) z ≡ None) k.is (class_tested t (is_accepted t h.accepted) k.actor k.holds)

pub keeps_rules : (text : List ℕ) (p : Program) → IsTyped text p → KeepsRules (compiled (program_of p))
keeps_rules text p h =
    let t = program_of p in
    let a = is_accepted t h.accepted in
    record { declarations = declares_well t a; heads = heads_well t a; main = mains_well t a; classes = classes_tested text p h }
