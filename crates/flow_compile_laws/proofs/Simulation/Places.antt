-- No constant has the name of a place.
use Rattle.std.proofs.Common.{◌≡◌, ℕ, Bool, true, false, ◌&&◌, List, [], ◌∷◌, refl, subst, codes, if◌then◌else◌}
use Rattle.std.specs.declared.option.Option.{Option}
use Rattle.std.specs.declared.option.Option.TheVariants.{None, Some}
use Rattle.std.proofs.lemmas.Bool.{ne_eqb}
use Rattle.flow_ast.specs.TypingNames.{named, constant_names}
use Rattle.flow_class.specs.declared.class.Slotted.{Slotted}
use Rattle.flow_class.specs.declared.class.Slotted.TheVariants.{Slot, Local}
use Rattle.flow_class.specs.Places.{place_named}
use Rattle.flow_class.specs.Scopes.{var_over}
use Rattle.flow_compile_laws.proofs.Simulation.Memory.{either}

-- a name that isn't in force names nothing
pub nothing_named : place_named (codes "_") ≡ None
nothing_named = refl

-- no constant
pub no_constant : (o : Option Slotted) → named constant_names (var_over o) ≡ None
no_constant None = refl
no_constant (Some (Slot n)) = refl
no_constant (Some (Local n)) = refl

-- what names a place is no constant
pub place_no_constant : (x : List ℕ) (p : Slotted) → place_named x ≡ Some p → named constant_names x ≡ None
place_no_constant [] p e = refl
place_no_constant (c ∷ ds) p e =
    either c 101 (named constant_names (c ∷ ds) ≡ None)
    (λ same. absurd (no_place ds p (subst (λ b. place_named (b ∷ ds) ≡ Some p) same e)))
    (λ ne.
    let h = ne_eqb c 101 ne in
    no_row _ _ h _ _ (no_row _ _ h _ _ (no_row _ _ h _ _ (no_row _ _ h _ _ (no_row _ _ h _ _ refl)))))
  where
    no_place : (ds : List ℕ) (p : Slotted) → place_named (101 ∷ ds) ≡ Some p → ⊥
    no_place ds p e = cc

    no_row : (b rest : Bool) → b ≡ false → (n : ℕ) (o : Option ℕ) → o ≡ None → (if b && rest then Some n else o) ≡ None
    no_row true rest h n o e = cc
    no_row false rest h n o e = e
