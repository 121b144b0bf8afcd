-- What calls on parts of a class program tell of the whole.
use Rattle.std.proofs.Common.{◌≡◌, ◌≢◌, eqb, ℕ, suc, ◌+◌, ◌<◌, ◌≤◌, Bool, true, false, List, [], ◌∷◌, ◌++◌, ◌⊎◌, inl, inr, map, get_or, length, codes, is_none, Result, Ok, Err, sym, ap, ap₂, subst, ◌∙◌, arith}
use Rattle.std.specs.List.{slice_get}
use Rattle.std.specs.Result.{IfOk}
use Rattle.std.specs.declared.option.Option.{Option}
use Rattle.std.specs.declared.option.Option.TheVariants.{None, Some}
use Rattle.std.proofs.lemmas.Bool.Decides.{eqb_tells}
use Rattle.std.proofs.lemmas.List.{length-map}
use Rattle.std.proofs.lemmas.Option.{slice_get_cases}
use Rattle.flow_tree.specs.declared.decl.Decl.{Decl}
use Rattle.flow_tree.specs.Tree.{TypeTree}
use Rattle.flow_tree.specs.Decls.{DeclTree}
use Rattle.flow_tree.specs.DeclView.{decl_of}
use Rattle.flow_ast.specs.Typing.{or_else}
use Rattle.flow_types.specs.declared.top_names.TopNames.{TopNames}
use Rattle.flow_rules.specs.Known.{Meaning, known, holds_by, record_holds}
use Rattle.flow_rules.specs.Judged.{Setting}
use Rattle.flow_rules.specs.Rules.{setting_of, decls_refusal, first_large, packet_size, is_main}
use Rattle.flow_types.specs.MapView.{known_by, flag_of}
use Rattle.flow_types.specs.ProgramView.{setting_by}
use Rattle.flow_class.specs.Classes.{ClassTree, RawTree}
use Rattle.flow_valid.specs.declared.rule.ClassRule.{ClassRule}
use Rattle.flow_valid.specs.declared.rule.ClassRule.TheVariants as rule
use Rattle.flow_valid.specs.Heads.{plain_decls, all_decls, declarations_kept, first_head, broken_head, has_main}
use Rattle.flow_valid.specs.Named.{names_exist}
use Rattle.flow_valid.specs.Validity.{slot_rows, local_rows, class_setting, leads_forward, groups_chosen, catchers_kept, types_fit, number, first_broken, broken_rule, IsSoundClass, IsValid, BreaksIn, Breaks, class}
use Rattle.flow_validate.specs.Verdicts.{Sees, AreHeadsKept, AreSoundClasses, AreSoundBelow}

-- the setting of a class, by the names that the code sees
pub class_seen : (r : RawTree) (n : TopNames) (c : ClassTree) (vs : List (List ℕ × TypeTree)) → Sees r n → vs ≡ slot_rows 0 c.slots ++ local_rows 0 c.locals
    → ◌≡◌ {A = Setting} (record (setting_by n false) { vars = vs }) (class_setting r c)
class_seen r n c vs sees e = ap₂ (λ (f : Bool → Setting) (v : List (List ℕ × TypeTree)). record (f false) { vars = v }) sees e

-- the first broken rule, by what is asked one after another
pub broken_by : (r : RawTree) (c : ClassTree) (a b g k t : Bool) → a ≡ names_exist c → b ≡ leads_forward c → g ≡ groups_chosen c → k ≡ catchers_kept c → t ≡ types_fit r c
    → first_broken ((rule.Names, a) ∷ (rule.Edges, b) ∷ (rule.Groups, g) ∷ (rule.Catchers, k) ∷ (rule.Types, t) ∷ []) ≡ broken_rule r c
broken_by r c a b g k t ea eb eg ek et =
    ap₂ (λ x y. first_broken ((rule.Names, x) ∷ (rule.Edges, y) ∷ (rule.Groups, g) ∷ (rule.Catchers, k) ∷ (rule.Types, t) ∷ [])) ea eb
    ∙ ap₂ (λ x y. first_broken ((rule.Names, names_exist c) ∷ (rule.Edges, leads_forward c) ∷ (rule.Groups, x) ∷ (rule.Catchers, y) ∷ (rule.Types, t) ∷ [])) eg ek
    ∙ ap (λ x. first_broken ((rule.Names, names_exist c) ∷ (rule.Edges, leads_forward c) ∷ (rule.Groups, groups_chosen c) ∷ (rule.Catchers, catchers_kept c) ∷ (rule.Types, x) ∷ [])) et

-- what the names show
pub sees_by : (r : RawTree) (n : TopNames) (ds : List Decl) → known_by n ≡ known (map decl_of ds) → flag_of n ≡ record_holds (known (map decl_of ds)) (suc (length ds))
    → all_decls r ≡ map decl_of ds → Sees r n
sees_by r n ds k h all =
    ap₂ the_setting k (h ∙ ap (λ m. record_holds (known (map decl_of ds)) (suc m)) (sym (length-map ds decl_of))) ∙ ap setting_of (sym all)
  where
    the_setting : (List ℕ → Option Meaning) → (List ℕ → Bool) → Bool → Setting
    the_setting f g plain = record { known = f; holds = holds_by g; vars = []; plain = plain }

pub kept_by : (r : RawTree) (n : TopNames) (ds : List DeclTree) (b : Bool) → Sees r n → plain_decls r ≡ ds
    → b ≡ is_none (or_else (decls_refusal (setting_by n) [] ds) (first_large ((codes "Packet", packet_size) ∷ []) ds)) → b ≡ declarations_kept r
kept_by r n ds b sees plain e =
    e ∙ ap₂ (λ (s : Bool → Setting) (l : List DeclTree). is_none (or_else (decls_refusal s [] l) (first_large ((codes "Packet", packet_size) ∷ []) l))) sees (sym plain)

known_seen : (r : RawTree) (n : TopNames) → Sees r n → known_by n ≡ known (all_decls r)
known_seen r n sees = ap (λ (f : Bool → Setting). (f false).known) sees

pub head_by : (r : RawTree) (n : TopNames) (ds : List DeclTree) (cs : List ClassTree) (o : Option ℕ) → Sees r n → plain_decls r ≡ ds → r.classes ≡ cs
    → o ≡ first_head (known_by n) ds 0 cs → o ≡ broken_head r
head_by r n ds cs o sees plain classes e =
    e ∙ ap (λ k. first_head k ds 0 cs) (known_seen r n sees) ∙ ap₂ (λ l m. first_head (known (all_decls r)) l 0 m) (sym plain) (sym classes)

pub main_by : (r : RawTree) (n : TopNames) (o : Option Meaning) (b : Bool) → Sees r n → o ≡ known_by n (codes "main") → b ≡ is_main o → b ≡ has_main r
main_by r n o b sees e is = is ∙ ap is_main (e ∙ ap (λ k. k (codes "main")) (known_seen r n sees))

-- one more class is sound
pub sound_more : (n : TopNames) (cs : List ClassTree) (k : ℕ) (c : ClassTree) → slice_get cs k ≡ Some c → ((r : RawTree) → Sees r n → IsSoundClass r c)
    → AreSoundBelow n cs k → AreSoundBelow n cs (k + 1)
sound_more n cs k c at sound below r sees i d lt is = by (eqb_tells i k)
  where
    inside : {A : Type 0} {a b : A} → Some a ≡ Some b → a ≡ b
    inside e = cc

    by : ((eqb i k ≡ true) × (i ≡ k)) ⊎ ((eqb i k ≡ false) × (i ≢ k)) → IsSoundClass r d
    by (inl (e, one)) = subst (λ (x : ClassTree). IsSoundClass r x) (inside (sym at ∙ ap (slice_get cs) (sym one) ∙ is)) (sound r sees)
    by (inr (e, ne)) = below r sees i d (omega arith) is

pub sound_all : (n : TopNames) (cs : List ClassTree) (k : ℕ) (r : RawTree) → Sees r n → r.classes ≡ cs → length cs ≤ k → AreSoundBelow n cs k → AreSoundClasses r
sound_all n cs k r sees classes le below i c at =
    let here : slice_get cs i ≡ Some c = ap (λ l. slice_get l i) (sym classes) ∙ at in
    below r sees i c (within (slice_get_cases cs i)) here
  where
    within : (slice_get cs i ≡ slice_get cs i) × (((x : ClassTree) × (i < length cs) × (slice_get cs i ≡ Some x) × (get_or cs i x ≡ x)) ⊎ ((length cs ≤ i) × (slice_get cs i ≡ None))) → i < k
    within (e, inl (x, lt, f, g)) = omega arith
    within (e, inr (over, none)) = absurd cc

pub class_breaks : (n : TopNames) (cs : List ClassTree) (k : ℕ) (c : ClassTree) (rule : ClassRule) (r : RawTree) → Sees r n → r.classes ≡ cs → AreHeadsKept r → slice_get cs k ≡ Some c
    → BreaksIn r c rule → AreSoundBelow n cs k → Breaks r (number rule) (Some k)
class_breaks n cs k c rule r sees classes heads at breaks below =
    class c heads.declarations heads.heads heads.main (λ j d lt is. below r sees j d lt (ap (λ l. slice_get l j) (sym classes) ∙ is)) (ap (λ l. slice_get l k) classes ∙ at) breaks

pub is_valid : (r : RawTree) → AreHeadsKept r → AreSoundClasses r → IsValid r
is_valid r heads sound = record { declarations = heads.declarations; heads = heads.heads; main = heads.main; classes = sound }

pub then_ok : {T E P Q : Type 0} (x : Result T E) → (P → Q) → IfOk x (λ _. P) → IfOk x (λ _. Q)
then_ok (Ok v) f h = f h
then_ok (Err e) f h = h
