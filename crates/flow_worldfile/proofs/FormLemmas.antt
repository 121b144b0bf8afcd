-- A line has one form.
use Rattle.std.proofs.Common.{◌≡◌, ℕ, cond, List, [], ◌∷◌, Some, None, ap, subst, sym, ◌∙◌, refl, codes}
use Rattle.std.specs.Str.{bytes_eq}
use Rattle.flow_worldfile.specs.declared.directive.Order.{Order}
use Rattle.flow_worldfile.specs.declared.directive.Order.TheVariants.{Kill, Stop, Boot, Cut, Heal, DiskFail}
use Rattle.flow_worldfile.specs.declared.directive.Directive.{Directive}
use Rattle.flow_worldfile.specs.declared.directive.Directive.TheVariants.{Seed, Processes, Events, Turns, Latency, DiskDelay, Loss, Word, At}
use Rattle.flow_worldfile.specs.Lines.{Field, text, number}
use Rattle.flow_worldfile.specs.Directives.{form, HasForm, InRange}
use Rattle.flow_worldfile.specs.Worlds.{processes_in}
use Rattle.flow_worldfile.specs.Reading.{Counts}

-- what fields of a form say
short_order : List ℕ → ℕ → Order
short_order w p = cond (bytes_eq w (codes "kill")) (Kill p) (cond (bytes_eq w (codes "stop")) (Stop p) (Boot p))

long_order : List ℕ → ℕ → ℕ → Order
long_order w p n = cond (bytes_eq w (codes "cut")) (Cut p n) (cond (bytes_eq w (codes "heal")) (Heal p n) (DiskFail p n))

short_line : List ℕ → ℕ → Directive
short_line w n = cond (bytes_eq w (codes "seed")) (Seed n) (cond (bytes_eq w (codes "processes")) (Processes n)
    (cond (bytes_eq w (codes "events")) (Events n) (cond (bytes_eq w (codes "turns")) (Turns n) (cond (bytes_eq w (codes "loss")) (Loss n) (Word n)))))

long_line : List ℕ → ℕ → ℕ → Directive
long_line w lo hi = cond (bytes_eq w (codes "latency")) (Latency lo hi) (DiskDelay lo hi)

says : List Field → Directive
says (text w ∷ number n ∷ []) = short_line w n
says (text w ∷ number lo ∷ number hi ∷ []) = long_line w lo hi
says (text w ∷ number t ∷ text v ∷ number p ∷ []) = At t (short_order v p)
says (text w ∷ number t ∷ text v ∷ number p ∷ number n ∷ []) = At t (long_order v p n)
says _ = Seed 0

says_form : (d : Directive) → says (form d) ≡ d
unfolding says short_line long_line short_order long_order
says_form (Seed n) = refl
says_form (Processes n) = refl
says_form (Events n) = refl
says_form (Turns n) = refl
says_form (Latency lo hi) = refl
says_form (DiskDelay lo hi) = refl
says_form (Loss n) = refl
says_form (Word n) = refl
says_form (At t (Kill p)) = refl
says_form (At t (Stop p)) = refl
says_form (At t (Boot p)) = refl
says_form (At t (Cut p q)) = refl
says_form (At t (Heal p q)) = refl
says_form (At t (DiskFail p n)) = refl

-- a line says one thing
pub one_form : (line : List ℕ) (d e : Directive) → HasForm line d → HasForm line e → d ≡ e
one_form line d e hd he = sym (says_form d) ∙ ap says (sym hd ∙ he) ∙ says_form e

-- a line that gives a count says it
pub count_said : (d : Directive) (n : ℕ) → processes_in d ≡ Some n → d ≡ Processes n
count_said (Processes k) n e = cc
count_said (Seed k) n e = absurd (cc)
count_said (Events k) n e = absurd (cc)
count_said (Turns k) n e = absurd (cc)
count_said (Latency lo hi) n e = absurd (cc)
count_said (DiskDelay lo hi) n e = absurd (cc)
count_said (Loss k) n e = absurd (cc)
count_said (Word k) n e = absurd (cc)
count_said (At t order) n e = absurd (cc)

-- a line that says something else gives no count of processes
pub no_count : (line : List ℕ) (d : Directive) → HasForm line d → processes_in d ≡ None → (n : ℕ) → Counts line n → ⊥
no_count line d said none n counts =
    let is : d ≡ Processes n = one_form line d (Processes n) said counts.0 in
    absurd (cc (ap processes_in is))

-- nor does one whose count is out of range
pub count_out_of_range : (line : List ℕ) (d : Directive) → HasForm line d → (InRange d → ⊥) → (n : ℕ) → Counts line n → ⊥
count_out_of_range line d said out n counts =
    let is : d ≡ Processes n = one_form line d (Processes n) said counts.0 in
    out (subst InRange (sym is) counts.1)

pub count_given : (line : List ℕ) (d : Directive) (n : ℕ) → HasForm line d → processes_in d ≡ Some n → InRange d → Counts line n
count_given line d n said is within =
    let e : d ≡ Processes n = count_said d n is in
    (subst (HasForm line) e said, subst InRange e within)

-- nor does one without a form
pub formless : (line : List ℕ) → ((d : Directive) → HasForm line d → ⊥) → (n : ℕ) → Counts line n → ⊥
formless line none n counts = none (Processes n) counts.0
