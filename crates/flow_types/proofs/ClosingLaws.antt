-- Laws of the ways in which bodies are left.
use Rattle.std.proofs.Common.{◌≡◌, ℕ, Bool, true, false, ◌&&◌, ◌||◌, List, [], ◌∷◌, drop, refl, sym, ap, ap₂, ◌∙◌}
use Rattle.flow_rules.specs.Closing.{Ways, past, nowhere, and_then, either}

and_and : (a b c : Bool) → ((a && b) && c) ≡ (a && (b && c))
and_and true b c = refl
and_and false b c = refl

or_or : (a b c : Bool) → ((a || b) || c) ≡ (a || (b || c))
or_or true b c = refl
or_or false b c = refl

breaks_so : (e k f l m : Bool) → ((k || (e && l)) || ((e && f) && m)) ≡ (k || (e && (l || (f && m))))
breaks_so e true f l m = refl
breaks_so true false f l m = refl
breaks_so false false f l m = refl

abbrev made : Bool → Bool → Ways
made e k = record { end = e; breaks = k }

pub and_then_assoc : (a b c : Ways) → and_then (and_then a b) c ≡ and_then a (and_then b c)
and_then_assoc a b c = ap₂ made (and_and a.end b.end c.end) (breaks_so a.end a.breaks b.end b.breaks c.breaks)

pub either_assoc : (a b c : Ways) → either (either a b) c ≡ either a (either b c)
either_assoc a b c = ap₂ made (or_or a.end b.end c.end) (or_or a.breaks b.breaks c.breaks)

and_true : (b : Bool) → (b && true) ≡ b
and_true true = refl
and_true false = refl

or_false : (b : Bool) → (b || false) ≡ b
or_false true = refl
or_false false = refl

and_false : (b : Bool) → (b && false) ≡ false
and_false true = refl
and_false false = refl

pub and_then_past : (a : Ways) → and_then a past ≡ a
and_then_past a = ap₂ made (and_true a.end) (ap (λ b. a.breaks || b) (and_false a.end) ∙ or_false a.breaks)

pub either_nowhere : (a : Ways) → either a nowhere ≡ a
either_nowhere a = ap₂ made (or_false a.end) (or_false a.breaks)
