-- A line that breaks a rule breaks one, and keeps the others before it.
use Rattle.std.proofs.Common.{◌≡◌, ℕ, false, List, [], ◌∷◌, map, get_or, eqb, ap, subst, refl}
use Rattle.std.specs.Bool.{IsTrue}
use Rattle.flow_worldfile.specs.declared.directive.Directive.{Directive}
use Rattle.flow_worldfile.specs.declared.directive.Directive.TheVariants.{Seed, Processes, Events, Turns, Latency, DiskDelay, Loss, Word, At}
use Rattle.flow_worldfile.specs.Lines.{text, field_of, pieces, begins_comment, IsPassedOver}
use Rattle.flow_worldfile.specs.Directives.{form, HasForm, Names}
use Rattle.flow_worldfile.specs.Worlds.{Said, said}
use Rattle.flow_worldfile.specs.Reading.{Rule, W1, W2, W3, W4, IsWithin, is_repeated, Keeps, Breaks}
use Rattle.flow_worldfile.proofs.FieldLemmas.{is_word, first_is}
use Rattle.flow_worldfile.proofs.FormLemmas.{one_form}

-- a comment's first field is no word of a form
no_word : (piece word : List ℕ) → IsTrue (eqb (get_or piece 0 0) 35) → eqb (get_or word 0 0) 35 ≡ false → field_of piece ≡ text word → ⊥
no_word piece word hash other e =
    let is : eqb (get_or piece 0 0) 35 ≡ eqb (get_or word 0 0) 35 = ap (λ bytes. eqb (get_or bytes 0 0) 35) (is_word piece word e) in
    absurd (cc)

formless_pieces : (ps : List (List ℕ)) → IsTrue (begins_comment ps) → (d : Directive) → map field_of ps ≡ form d → ⊥
formless_pieces [] over (Seed n) e = absurd (cc)
formless_pieces [] over (Processes n) e = absurd (cc)
formless_pieces [] over (Events n) e = absurd (cc)
formless_pieces [] over (Turns n) e = absurd (cc)
formless_pieces [] over (Latency lo hi) e = absurd (cc)
formless_pieces [] over (DiskDelay lo hi) e = absurd (cc)
formless_pieces [] over (Loss n) e = absurd (cc)
formless_pieces [] over (Word n) e = absurd (cc)
formless_pieces [] over (At t order) e = absurd (cc)
formless_pieces (piece ∷ more) over (Seed n) e = no_word piece _ over refl (first_is e)
formless_pieces (piece ∷ more) over (Processes n) e = no_word piece _ over refl (first_is e)
formless_pieces (piece ∷ more) over (Events n) e = no_word piece _ over refl (first_is e)
formless_pieces (piece ∷ more) over (Turns n) e = no_word piece _ over refl (first_is e)
formless_pieces (piece ∷ more) over (Latency lo hi) e = no_word piece _ over refl (first_is e)
formless_pieces (piece ∷ more) over (DiskDelay lo hi) e = no_word piece _ over refl (first_is e)
formless_pieces (piece ∷ more) over (Loss n) e = no_word piece _ over refl (first_is e)
formless_pieces (piece ∷ more) over (Word n) e = no_word piece _ over refl (first_is e)
formless_pieces (piece ∷ more) over (At t order) e = no_word piece _ over refl (first_is e)

-- a line that is passed over has no form
pub over_formless : (line : List ℕ) (d : Directive) → IsPassedOver line → HasForm line d → ⊥
over_formless line d over said = formless_pieces (pieces line) over d said

-- a line that is passed over breaks no rule
pub over_or_breaks : (count : ℕ) (s : Said) (line : List ℕ) (rule : Rule) → IsPassedOver line → Breaks count s line rule → ⊥
over_or_breaks count s line W1 over h = h.0 over
over_or_breaks count s line W2 over h = over_formless line h.0 over h.1
over_or_breaks count s line W3 over h = over_formless line h.0 over h.1
over_or_breaks count s line W4 over h = over_formless line h.0 over h.1

once_or_twice : (s : Said) (d e : Directive) → d ≡ e → is_repeated s d ≡ false → IsTrue (is_repeated s e) → ⊥
once_or_twice s d e same once twice = absurd (cc (ap (is_repeated s) same))

-- where a line has a form, W1 isn't broken; and so on
formed : (count : ℕ) (s : Said) (line : List ℕ) (d : Directive) → HasForm line d → Breaks count s line W1 → ⊥
formed count s line d said h = h.1 d said

fitting : (count : ℕ) (s : Said) (line : List ℕ) (d : Directive) → HasForm line d → IsWithin s d → Breaks count s line W2 → ⊥
fitting count s line d said within h = h.2 (subst (IsWithin s) (one_form line d h.0 said h.1) within)

single : (count : ℕ) (s : Said) (line : List ℕ) (d : Directive) → HasForm line d → is_repeated s d ≡ false → Breaks count s line W3 → ⊥
single count s line d said once h = once_or_twice s d h.0 (one_form line d h.0 said h.1) once h.3

-- a line that keeps the rules breaks none
pub keeps_or_breaks : (count : ℕ) (s : Said) (line : List ℕ) (d : Directive) (rule : Rule) → Keeps count s line d → Breaks count s line rule → ⊥
keeps_or_breaks count s line d W1 keeps h = formed count s line d keeps.form h
keeps_or_breaks count s line d W2 keeps h = fitting count s line d keeps.form keeps.within h
keeps_or_breaks count s line d W3 keeps h = single count s line d keeps.form keeps.once h
keeps_or_breaks count s line d W4 keeps h = h.4 (subst (Names count) (one_form line d h.0 keeps.form h.1) keeps.names)

-- a line breaks one rule, as its first
pub one_rule : (count : ℕ) (s : Said) (line : List ℕ) (p q : Rule) → Breaks count s line p → Breaks count s line q → p ≡ q
one_rule count s line W1 W1 g h = refl
one_rule count s line W1 W2 g h = absurd (formed count s line h.0 h.1 g)
one_rule count s line W1 W3 g h = absurd (formed count s line h.0 h.1 g)
one_rule count s line W1 W4 g h = absurd (formed count s line h.0 h.1 g)
one_rule count s line W2 W1 g h = absurd (formed count s line g.0 g.1 h)
one_rule count s line W2 W2 g h = refl
one_rule count s line W2 W3 g h = absurd (fitting count s line h.0 h.1 h.2 g)
one_rule count s line W2 W4 g h = absurd (fitting count s line h.0 h.1 h.2 g)
one_rule count s line W3 W1 g h = absurd (formed count s line g.0 g.1 h)
one_rule count s line W3 W2 g h = absurd (fitting count s line g.0 g.1 g.2 h)
one_rule count s line W3 W3 g h = refl
one_rule count s line W3 W4 g h = absurd (single count s line h.0 h.1 h.3 g)
one_rule count s line W4 W1 g h = absurd (formed count s line g.0 g.1 h)
one_rule count s line W4 W2 g h = absurd (fitting count s line g.0 g.1 g.2 h)
one_rule count s line W4 W3 g h = absurd (single count s line g.0 g.1 g.3 h)
one_rule count s line W4 W4 g h = refl
