-- Classes that are equal but for places break the same rules.
use Rattle.std.proofs.Common.{◌≡◌, ℕ, Bool, sym, ap, ap₂, ◌∙◌}
use Rattle.std.proofs.lemmas.Option.{slice_get-map}
use Rattle.std.specs.Prelude.{option_map, slice_get}
use Rattle.std.specs.declared.option.Option.{Option}
use Rattle.std.specs.declared.option.Option.TheVariants.{Some}
use Rattle.flow_class.specs.Classes.{ClassTree, RawTree}
use Rattle.flow_meaning.specs.Placeless.{placeless_class, placeless_classes}
use Rattle.flow_valid.specs.declared.rule.ClassRule.{ClassRule}
use Rattle.flow_valid.specs.Heads.{declarations_kept, broken_head, has_main}
use Rattle.flow_valid.specs.Validity.{broken_rule, IsSoundClass, BreaksIn, tested, unfilled, declaration, head, main, class}
use Rattle.flow_class_places_laws.specs.Laws.{SoundnessAside, ValidityAside, BreachesAside, SameHead, HeadsAside}
use Rattle.flow_class_places_laws.proofs.Parts.{agree, some_alike}
use Rattle.flow_class_places_laws.proofs.Declarations.{kept_aside, head_aside, main_aside}
use Rattle.flow_class_places_laws.proofs.Fitting.{rule_aside}
use Rattle.flow_class_places_laws.proofs.Walks.{empty_over, filled_over}

rule_same : (a b : RawTree) (c d : ClassTree) → placeless_classes a ≡ placeless_classes b → placeless_class c ≡ placeless_class d → broken_rule b d ≡ broken_rule a c
rule_same a b c d e k = sym (rule_aside b d) ∙ ap₂ (λ r z. broken_rule r z) (sym e) (sym k) ∙ rule_aside a c

pub sound_over : SoundnessAside
sound_over a b c d e k h = record { tested = rule_same a b c d e k ∙ h.tested; filled = filled_over c d k h.filled }

breaks_over : (a b : RawTree) (c d : ClassTree) (rule : ClassRule) → placeless_classes a ≡ placeless_classes b → placeless_class c ≡ placeless_class d → BreaksIn a c rule → BreaksIn b d rule
breaks_over a b c d rule e k (tested h) = tested (rule_same a b c d e k ∙ h)
breaks_over a b c d rule e k (unfilled h w) = unfilled (rule_same a b c d e k ∙ h) (empty_over c d k w)

-- the class of the same number
class_there : (a b : RawTree) → placeless_classes a ≡ placeless_classes b → (i : ℕ) (c : ClassTree) → slice_get a.classes i ≡ Some c
    → (d : ClassTree) × (slice_get b.classes i ≡ Some d) × (placeless_class d ≡ placeless_class c)
class_there a b alike i c h =
    some_alike placeless_class (slice_get b.classes i) c
    (sym (slice_get-map placeless_class b.classes i) ∙ ap (λ (r : RawTree). slice_get r.classes i) (sym alike)
    ∙ slice_get-map placeless_class a.classes i ∙ ap (option_map placeless_class) h)

same_head : (c d : ClassTree) → placeless_class d ≡ placeless_class c → SameHead c d
same_head c d h = record {
  name = sym (ap (λ (x : ClassTree). x.name) h);
  returns = sym (ap (λ (x : ClassTree). x.returns) h);
  params = sym (ap (λ (x : ClassTree). x.params) h);
  slots = sym (ap (λ (x : ClassTree). x.slots) h);
  locals = sym (ap (λ (x : ClassTree). x.locals) h);
}

pub heads_over : HeadsAside
heads_over a b k c e at = let d = class_there a b e k c at in (d.0, d.1, same_head c d.0 d.2)

-- a and b are equal but for places
module _ (a b : RawTree) (alike : placeless_classes a ≡ placeless_classes b) where
  kept_there : {x : Bool} → declarations_kept a ≡ x → declarations_kept b ≡ x
  kept_there h = agree placeless_classes declarations_kept kept_aside b a (sym alike) ∙ h

  head_there : {x : Option ℕ} → broken_head a ≡ x → broken_head b ≡ x
  head_there h = agree placeless_classes broken_head head_aside b a (sym alike) ∙ h

  main_there : {x : Bool} → has_main a ≡ x → has_main b ≡ x
  main_there h = agree placeless_classes has_main main_aside b a (sym alike) ∙ h

  -- where a class of a number is sound, so is the other one
  sound_there : (i : ℕ) → ((c : ClassTree) → slice_get a.classes i ≡ Some c → IsSoundClass a c) → (d : ClassTree) → slice_get b.classes i ≡ Some d → IsSoundClass b d
  sound_there i h d at = let c = class_there b a (sym alike) i d at in sound_over a b c.0 d alike c.2 (h c.0 c.1)

pub valid_over : ValidityAside
valid_over a b e h = record {
  declarations = kept_there a b e h.declarations;
  heads = head_there a b e h.heads;
  main = main_there a b e h.main;
  classes = λ i d at. sound_there a b e i (h.classes i) d at;
}

pub breach_over : BreachesAside
breach_over a b rule at e (declaration h) = declaration (kept_there a b e h)
breach_over a b rule at e (head k h) = head (kept_there a b e k) (head_there a b e h)
breach_over a b rule at e (main k h m) = main (kept_there a b e k) (head_there a b e h) (main_there a b e m)
breach_over a b rule at e (class {i} {k} c q h m sound there broken) =
    let d = class_there a b e i c there in
    class d.0 (kept_there a b e q) (head_there a b e h) (main_there a b e m)
    (λ j x less at. sound_there a b e j (λ y z. sound j y less z) x at) d.1 (breaks_over a b c d.0 k e (sym d.2) broken)
