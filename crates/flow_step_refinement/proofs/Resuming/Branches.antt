-- Each wait of a class that is coded has a branch, where each group of callbacks of the program has one.
use Rattle.std.proofs.Common.{◌≡◌, ℕ, zero, suc, ◌+◌, List, [], ◌∷◌, length, map, Some, refl, sym, ap, ◌∙◌}
use Rattle.std.specs.Prelude.{slice_get}
use Rattle.std.specs.Option.{option_map}
use Rattle.flow_class.specs.Classes.{CallbackTree, ClassTree}
use Rattle.flow_code.specs.Classes.{GroupCode, ClassCode}
use Rattle.flow_code.specs.View.{code_of, group_of}
use Rattle.flow_code.specs.Coding.{Coding, homes_of, coded_branch, coded_groups}
use Rattle.flow_code.specs.Coded.{coding, coded}
use Rattle.flow_operation_refinement.proofs.Stands.{get_mapped, both_mapped}
use Rattle.flow_step_refinement.proofs.Decodes.{both_there}
use Rattle.flow_step_refinement.specs.Resuming as law

none_of : {A B : Type 0} (g : A → B) (xs : List A) → map g xs ≡ [] → xs ≡ []
none_of g [] e = refl
none_of g (x ∷ xs) e = absurd (cc (e))

-- a group that is coded to no branches has no callbacks
empty_group : (k : Coding) (first : ℕ) (hs : List ℕ) (gs : List (List CallbackTree)) (n : ℕ) (y : GroupCode)
    → slice_get (coded_groups k first hs gs) n ≡ Some y → y.branches ≡ [] → slice_get gs n ≡ Some []
empty_group k first [] gs n y e none = absurd (cc (e))
empty_group k first (h ∷ hs) [] n y e none = absurd (cc (e))
empty_group k first (h ∷ hs) (g ∷ gs) zero y e none =
    let same : record { block = h; first = first; branches = map (coded_branch k) g } ≡ y = cc (e) in
    ap Some (none_of (coded_branch k) g (ap (λ (z : GroupCode). z.branches) same ∙ none))
empty_group k first (h ∷ hs) (g ∷ gs) (suc n) y e none = empty_group k (first + length g) hs gs n y e none

pub branched : law.GroupsBranched
branched r classes c filled k d zero g at there none = absurd (cc (there))
branched r classes c filled k d (suc n) g at there none =
    let a = both_mapped code_of (coded c.names c.class) classes r.classes k c.are_coded in
    let b = both_there code_of (coded c.names c.class) d (slice_get r.classes k) (ap (option_map code_of) (sym at) ∙ a) in
    let t : ClassTree = b.0 in
    let code : Coding = coding c.names c.class (length t.slots) in
    let here : slice_get (coded_groups code 0 (homes_of t) t.groups) n ≡ Some (group_of g) =
    ap (λ (z : ClassCode). slice_get z.groups n) (sym b.1.1) ∙ get_mapped group_of d.groups.items n ∙ ap (option_map group_of) there in
    let no_branch : (group_of g).branches ≡ [] = cc (none) in
    filled k t n [] b.1.0 (empty_group code 0 (homes_of t) t.groups n (group_of g) here no_branch) refl
