-- What a runner in memory decides.
use Rattle.std.proofs.Common.{◌≡◌, ℕ, Bool, true, false, not, ◌&&◌, ◌||◌, ◌==◌, List, [], ◌∷◌, Decides, if◌then◌else◌, refl, sym, ap, ◌∙◌, Some}
use Rattle.std.specs.List.{list_any}
use Rattle.flow_trace.specs.declared.line.Line.{Line}
use Rattle.flow_trace.specs.declared.line.Line.TheVariants.{Throw, EndIdle}
use Rattle.flow_monitor.specs.declared.monitor.Heard.{Heard}
use Rattle.flow_monitor.specs.declared.monitor.Heard.TheVariants.{Go, Done, Stop}
use Rattle.flow_monitor.specs.Ears.{Ear, ear_after, is_stop, says_stop}
use Rattle.flow_worldfile.specs.declared.directive.Order.{Order}
use Rattle.flow_shrink.specs.Shrinking.{Stops, hears, by_said, after_line, after_lines, is_stopped}

-- whether a run throws by these times
abbrev pub throws_by : (first second third : ℕ) → List (ℕ × Order) → Bool
throws_by first second third script =
    list_any (λ x. x.0 == first) script && (list_any (λ x. x.0 == second) script || not (list_any (λ x. x.0 == third) script))

abbrev pub thrown : Line
thrown = Throw (record { 0 = 1 }) (record { 0 = 7 })

decided : (ear : Ear) (lines : List Line) (b : Bool) → b ≡ is_stopped (after_lines lines (hears ear)) → Decides b (Stops (λ ls. ls ≡ lines) ear)
decided ear lines b is = (λ e. (lines, refl, sym is ∙ e), λ s. is ∙ ap (λ ls. is_stopped (after_lines ls (hears ear))) (sym s.1) ∙ s.2)

-- by what is said at the one line that is heard
by_one : (says : Heard) (ear : Ear) → is_stop says ≡ is_stopped (after_line EndIdle (by_said says ear))
by_one Go ear = refl
by_one Done ear = refl
by_one Stop ear = refl

pub one_line : (ear : Ear) (b is_there : Bool) → is_there ≡ true → b ≡ says_stop thrown (Some ear)
    → Decides b (Stops (λ ls. ls ≡ (if is_there then thrown ∷ EndIdle ∷ [] else EndIdle ∷ [])) ear)
one_line ear b is_there there said =
    decided ear (if is_there then thrown ∷ EndIdle ∷ [] else EndIdle ∷ []) b
    (said ∙ by_one (ear [] thrown) (ear_after thrown ear)
    ∙ ap (λ t. is_stopped (after_lines (if t then thrown ∷ EndIdle ∷ [] else EndIdle ∷ []) (hears ear))) (sym there))
