-- What the rules say of a class that breaks none of V3 to V7.
use Rattle.std.proofs.Common.{◌≡◌, Bool, true, false, List, [], ◌∷◌, refl}
use Rattle.std.specs.declared.option.Option.TheVariants.{None}
use Rattle.flow_class.specs.Classes.{ClassTree, RawTree}
use Rattle.flow_valid.specs.declared.rule.ClassRule.{ClassRule}
use Rattle.flow_valid.specs.declared.rule.ClassRule.TheVariants as rule
use Rattle.flow_valid.specs.Named.{names_exist}
use Rattle.flow_valid.specs.Validity.{first_broken, broken_rule, leads_forward, groups_chosen, catchers_kept, types_fit}

-- the first rule holds, and the others do
first_holds : (k : ClassRule) (b : Bool) (rest : List (ClassRule × Bool)) → first_broken ((k, b) ∷ rest) ≡ None → (b ≡ true) × (first_broken rest ≡ None)
first_holds k true rest h = (refl, h)
first_holds k false rest h = cc

-- the rules of a class but that of filled places
pub record Sound (r : RawTree) (c : ClassTree) : Type 0 where
  pub names : names_exist c ≡ true
  pub forward : leads_forward c ≡ true
  pub groups : groups_chosen c ≡ true
  pub catchers : catchers_kept c ≡ true
  pub types : types_fit r c ≡ true

pub sound_of : (r : RawTree) (c : ClassTree) → broken_rule r c ≡ None → Sound r c
sound_of r c h =
    let last = (rule.Types, types_fit r c) ∷ [] in
    let a = first_holds rule.Names (names_exist c)
    ((rule.Edges, leads_forward c) ∷ (rule.Groups, groups_chosen c) ∷ (rule.Catchers, catchers_kept c) ∷ last) h in
    let b = first_holds rule.Edges (leads_forward c) ((rule.Groups, groups_chosen c) ∷ (rule.Catchers, catchers_kept c) ∷ last) a.1 in
    let d = first_holds rule.Groups (groups_chosen c) ((rule.Catchers, catchers_kept c) ∷ last) b.1 in
    let e = first_holds rule.Catchers (catchers_kept c) last d.1 in
    let f = first_holds rule.Types (types_fit r c) [] e.1 in
    record { names = a.0; forward = b.0; groups = d.0; catchers = e.0; types = f.0 }
