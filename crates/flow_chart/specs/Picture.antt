-- The picture of a run: a column for each process, a row for each event and one for each further mark of it, a bar while a process is
-- up, an arrow for each packet that comes, and a stub for each that is lost.
use Rattle.std.specs.Prelude.{ℕ, ◌+◌, ◌*◌, List, [], ◌∷◌, ◌++◌, map, get_or, codes, decimal}
use Rattle.std.specs.List.{flat_map, range_with_len}
use Rattle.std.specs.declared.option.Option.{Option}
use Rattle.std.specs.declared.option.Option.TheVariants.{None, Some}
use Rattle.flow_chart.specs.declared.spot.Spot.{Spot}
use Rattle.flow_chart.specs.declared.spot.Tone.{Tone}
use Rattle.flow_chart.specs.declared.spot.Tone.TheVariants.{Printed, Faulty}
use Rattle.flow_chart.specs.declared.packets.Way.{Way}
use Rattle.flow_chart.specs.declared.uptimes.Bar.{Bar}
use Rattle.flow_chart.specs.Drawing.{Drawing, Note, Event, Mark, bar, if_any}
use Rattle.flow_chart.specs.Elements.{Attribute, Element, Empty, Holding, document}

-- the middle of a column, and of a row, in pixels
abbrev pub column : (process : ℕ) → ℕ
column p = 205 + 190 * p

abbrev pub height : (row : ℕ) → ℕ
height row = 40 + 18 * row

abbrev pub worded : (name value : List ℕ) → Attribute
worded name value = record { name = name; value = value }

abbrev pub measured : (name : List ℕ) → (value : ℕ) → Attribute
measured name value = worded name (decimal value)

abbrev pub line_element : (class : List ℕ) → (x1 y1 x2 y2 : ℕ) → Element
line_element class x1 y1 x2 y2 =
    Empty (codes "line") (worded (codes "class") class ∷ measured (codes "x1") x1 ∷ measured (codes "y1") y1
    ∷ measured (codes "x2") x2 ∷ measured (codes "y2") y2 ∷ [])

abbrev pub text_element : (class : List ℕ) → (x y : ℕ) → (text : List ℕ) → Element
text_element class x y text =
    Holding (codes "text") (worded (codes "class") class ∷ measured (codes "x") x ∷ measured (codes "y") y ∷ []) text

abbrev pub plain_text : (x y : ℕ) → (text : List ℕ) → Element
plain_text x y text = Holding (codes "text") (measured (codes "x") x ∷ measured (codes "y") y ∷ []) text

abbrev pub dot : Spot → Element
dot s =
    Empty (codes "circle") (worded (codes "class") (codes "e") ∷ measured (codes "cx") (column s.column)
    ∷ measured (codes "cy") (height s.row) ∷ worded (codes "r") (codes "3") ∷ [])

abbrev pub class_of : Tone → List ℕ
class_of Printed = codes "p"
class_of Faulty = codes "f"

abbrev pub note_elements : Note → List Element
note_elements (Event n t s) =
    text_element (codes "t") 8 (height s.row + 4) (decimal n ++ codes " at " ++ decimal t) ∷ dot s ∷ []
note_elements (Mark tone s text) = text_element (class_of tone) (column s.column + 8) (height s.row + 4) text ∷ []

abbrev pub bar_element : Bar → Element
bar_element b = line_element (codes "b") (column b.process) (height b.first) (column b.process) (height b.last)

-- an arrow from where a packet was sent to where it comes, or a stub
abbrev pub way_to : Spot → Option Spot → Element
way_to s None =
    line_element (codes "l") (column s.column) (height s.row) (column s.column + 30) (height s.row + 12)
way_to s (Some c) = line_element (codes "a") (column s.column) (height s.row) (column c.column) (height c.row)

abbrev pub way_element : Way → Element
way_element w = way_to w.sent w.comes

abbrev pub label : (process : ℕ) → Element
label p = plain_text (175 + 190 * p) 20 (codes "process " ++ decimal p)

abbrev pub styles : List ℕ
styles =
    codes "text{font:11px monospace}.t{fill:#888}.p{fill:#063}.f{fill:#a00}.e{fill:#333}"
    ++ codes ".b{stroke:#9ab;stroke-width:5}.a{stroke:#36c}.l{stroke:#c00;stroke-dasharray:3}"

abbrev pub ground : Element
ground =
    Empty (codes "rect") (worded (codes "width") (codes "100%") ∷ worded (codes "height") (codes "100%")
    ∷ worded (codes "fill") (codes "#fff") ∷ [])

-- the times of processes that are up to the end
abbrev pub bars_left : (processes row : ℕ) → (since : List (Option ℕ)) → List Bar
bars_left n row since = flat_map (λ p. if_any (bar p (get_or since p None) row)) (range_with_len 0 n)

-- what stands in a picture of so many processes, from behind to before
abbrev pub elements : (processes : ℕ) → Drawing → List Element
elements n d =
    Holding (codes "style") [] styles ∷ ground ∷ map label (range_with_len 0 n) ++ map bar_element d.uptimes.over
    ++ map bar_element (bars_left n d.cursor.row d.uptimes.since) ++ map way_element d.packets.over
    ++ flat_map note_elements d.notes ++ plain_text 8 (height d.cursor.row + 28) d.end ∷ []

abbrev pub picture : (processes : ℕ) → Drawing → List ℕ
picture n d =
    document (codes "svg") (worded (codes "xmlns") (codes "http://www.w3.org/2000/svg")
    ∷ measured (codes "width") (110 + 190 * n) ∷ measured (codes "height") (height d.cursor.row + 40) ∷ []) (elements n d)
