-- What drawn words were asked for changes no line: how many there were does.
use Rattle.std.specs.Prelude.{◌≡◌, List, length}
use Rattle.flow_trace.specs.declared.line.Line.{Line}
use Rattle.flow_draw.specs.declared.question.Question.{Question}
use Rattle.flow_meaning.specs.Process.{Engine}
use Rattle.flow_meaning.specs.Outside.{drawn}
use Rattle.flow_meaning.specs.World.{World}
use Rattle.flow_meaning.specs.Runs.{Runs}

-- a world whose words were drawn for these questions
abbrev pub asked_for : {A : Type 0} → List Question → World A → World A
asked_for qs w = record { places = w.places; out = record w.out { asked = qs } }

-- From there the lines are those from the world itself, where there are as many questions.
abbrev pub LinesByDrawn : {A : Type 0} → Engine A → Type 0
LinesByDrawn {A} e =
    (w : World A) (qs : List Question) (states : List (World A)) (lines : List Line) → length qs ≡ drawn w.out
    → Runs e w states lines → (others : List (World A)) × Runs e (asked_for qs w) others lines
