-- The maps of the code, seen as tables.
use Rattle.std.specs.Prelude.{◌≡◌, ℕ, Bool, false, List, [], ◌∷◌, map, position}
use Rattle.std.specs.Str.{bytes_eq}
use Rattle.std.specs.declared.option.Option.{Option}
use Rattle.std.specs.declared.option.Option.TheVariants.{None, Some}
use denote.Ref.{Bor}
use Rattle.indexmap.specs.IndexMap.{IndexMap, keys}
use Rattle.flow_tree.specs.Tree.{TypeTree}
use Rattle.flow_ast.specs.TypingNames.{named}
use Rattle.flow_types.specs.declared.type_view.TypeView as code
use Rattle.flow_types.specs.declared.callee.Meaning as meant
use Rattle.flow_types.specs.declared.top_names.TopNames.{TopNames}
use Rattle.flow_types.specs.declared.holding.Uses.{Uses}
use Rattle.flow_types.specs.Holding.{marked, uses_hold}
use Rattle.flow_rules.specs.Known.{Meaning, meaning_holds}
use Rattle.flow_types.specs.View.{found_of, meaning_of}

-- an entry of a map by borrowed names, with what this function sees in its value
abbrev pub bound : {A X : Type 0} → (A → X) → Bor (List ℕ) × A → List ℕ × X
bound f e = (e.0.now, f e.1)

abbrev pub rows_of : {S : Type 0} → IndexMap (Bor (List ℕ)) meant.Meaning S → List (List ℕ × Meaning)
rows_of m = map (bound meaning_of) m.entries

abbrev pub vars_of : {S : Type 0} → IndexMap (Bor (List ℕ)) code.TypeView S → List (List ℕ × TypeTree)
vars_of m = map (bound found_of) m.entries

-- what names declare
abbrev pub known_by : TopNames → List ℕ → Option Meaning
known_by n = named (rows_of n.meanings)

-- the flag of a number, where there is one
abbrev pub at_number : (ℕ → Bool) → Option ℕ → Bool
at_number g None = false
at_number g (Some i) = g i

-- the flag of a name, by the number that the map has for it
abbrev pub numbered : {S : Type 0} → IndexMap (Bor (List ℕ)) meant.Meaning S → (ℕ → Bool) → List ℕ → Bool
numbered m g x = at_number g (position (λ k. bytes_eq x k.now) (keys m))

-- whether the record of a name is marked as one that holds a reference
abbrev pub flag_of : TopNames → List ℕ → Bool
flag_of n = numbered n.meanings (marked n.holds.items)

-- the records among the meanings, as far as they hold one another or a reference
abbrev pub HoldAs : {S : Type 0} → IndexMap (Bor (List ℕ)) meant.Meaning S → List Uses → Type 0
HoldAs m us = (g : ℕ → Bool) → map (uses_hold g) us
    ≡ map (λ (e : Bor (List ℕ) × meant.Meaning). meaning_holds (numbered m g) (Some (meaning_of e.1))) m.entries
