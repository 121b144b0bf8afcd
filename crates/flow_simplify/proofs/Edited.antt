-- Worlds with a word made common, and with a line less.
use Rattle.std.proofs.Common.{◌≡◌, ℕ, zero, suc, ◌-◌, ◌^◌, ◌<◌, ◌≤◌, true, false, nat_lt, if◌then◌else◌, List, [], ◌∷◌, length, set, refl, sym, ap, ◌∙◌, subst, arith}
use Rattle.std.specs.List.{AllByRecursion, remove}
use Rattle.std.proofs.lemmas.Bool.Decides.{nat_tests}
use Rattle.flow_worldfile.specs.declared.directive.Directive.TheVariants.{Word}
use Rattle.flow_worldfile.specs.Directives.{InRange}
use Rattle.flow_worldfile.specs.Worlds.{World, IsInRange}
use Rattle.flow_simplify.specs.Simpler.{uncommon, place_of, made_common, edited}
use Rattle.flow_simplify.proofs.WithWords.{words_in_range}

all_set : (P : ℕ → Type 0) (xs : List ℕ) (i x : ℕ) → AllByRecursion P xs → P x → AllByRecursion P (set xs i x)
all_set P [] zero x h p = tt
all_set P [] (suc i) x h p = tt
all_set P (y ∷ ys) zero x h p = (p, h.1)
all_set P (y ∷ ys) (suc i) x h p = (h.0, all_set P ys i x h.1 p)

as_long : (xs : List ℕ) (i x : ℕ) → length (set xs i x) ≡ length xs
as_long [] zero x = refl
as_long [] (suc i) x = refl
as_long (y ∷ ys) zero x = refl
as_long (y ∷ ys) (suc i) x = ap suc (as_long ys i x)

-- a world stays in range with a word made common
pub made_in_range : (w own : World) (c k : ℕ) → IsInRange w → c < 2 ^ 32 → own ≡ record w { words = made_common c k w.words } → IsInRange own
made_in_range w own c k range low is =
    let at = place_of c k w.words in
    let long = as_long w.words at c in
    subst IsInRange (sym is) (words_in_range w (set w.words at c) range (all_set (λ n. InRange (Word n)) w.words at c range.words low)
    (omega (arith, long, range.words_few)))

pub edited_word : (c k : ℕ) (w own : World) → k < uncommon c w.words → own ≡ record w { words = made_common c k w.words } → own ≡ edited c k w
edited_word c k w own lt is =
    let first : nat_lt k (uncommon c w.words) ≡ true = grind (arith, nat_tests, lt) in
    is ∙ sym (ap (λ b. if b then record w { words = made_common c k w.words } else record w { script = remove w.script (k - uncommon c w.words) }) first)

pub edited_line : (c k : ℕ) (w own : World) → uncommon c w.words ≤ k → own ≡ record w { script = remove w.script (k - uncommon c w.words) }
    → own ≡ edited c k w
edited_line c k w own from is =
    let later : nat_lt k (uncommon c w.words) ≡ false = grind (arith, nat_tests, from) in
    is ∙ sym (ap (λ b. if b then record w { words = made_common c k w.words } else record w { script = remove w.script (k - uncommon c w.words) }) later)
