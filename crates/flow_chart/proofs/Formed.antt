-- Each picture has the grammar of pictures.
use Rattle.std.proofs.Common.{◌≡◌, ℕ, ◌+◌, ◌*◌, true, not, List, [], ◌∷◌, ◌++◌, map, codes, decimal, refl}
use Rattle.std.specs.Bool.{◌==◌}
use Rattle.std.specs.List.{flat_map, list_all, range_with_len, AllByRecursion}
use Rattle.std.specs.declared.option.Option.{Option}
use Rattle.std.specs.declared.option.Option.TheVariants.{None, Some}
use Rattle.std.proofs.lemmas.Bool.{and_from, cond_both, not_from_false}
use Rattle.flow_chart.specs.declared.uptimes.Bar.{Bar}
use Rattle.flow_chart.specs.declared.spot.Spot.{Spot}
use Rattle.flow_chart.specs.declared.spot.Tone.{Tone}
use Rattle.flow_chart.specs.declared.spot.Tone.TheVariants.{Printed, Faulty}
use Rattle.flow_chart.specs.Drawing.{Drawing, Note, Event, Mark}
use Rattle.flow_chart.specs.Elements.{Attribute, Element, Empty, Holding, attribute_bytes, escaped, element_bytes}
use Rattle.flow_chart.specs.Picture.{class_of, worded, measured, column, height, line_element, text_element, dot, label, bar_element, bars_left, way_to, way_element, note_elements, plain_text, styles, ground, elements}
use Rattle.flow_chart.specs.Grammar as grammar
use Rattle.flow_chart.specs.Laws.{IsWellFormed}

-- a text is written without the signs that aren't its own
escaped_text : (t : List ℕ) → grammar.IsText (escaped t)
escaped_text [] = grammar.ends
escaped_text (b ∷ bs) =
    let rest = escaped bs in
    let after = escaped_text bs in
    let all : List ℕ → Type 0 = λ bytes. grammar.IsText (bytes ++ rest) in
    cond_both (b == 38) (codes "&amp;") _ all (λ _. grammar.ampersand rest after)
    (λ and. cond_both (b == 60) (codes "&lt;") _ all (λ _. grammar.less rest after)
    (λ less. cond_both (b == 62) (codes "&gt;") (b ∷ []) all (λ _. grammar.greater rest after)
    (λ greater. grammar.sign b rest
    (and_from (not (b == 38)) _ (not_from_false (b == 38) and)
    (and_from (not (b == 60)) (not (b == 62)) (not_from_false (b == 60) less) (not_from_false (b == 62) greater))) after)))

-- attributes of an element: words and numbers
data Fitting : List Attribute → Type 0 where
  none : Fitting []
  said : (name value : List ℕ) (xs : List Attribute) → list_all grammar.is_of_value name ≡ true → list_all grammar.is_of_value value ≡ true → Fitting xs
      → Fitting (record { name = name; value = value } ∷ xs)
  counted : (name : List ℕ) (n : ℕ) (xs : List Attribute) → list_all grammar.is_of_value name ≡ true → Fitting xs
      → Fitting (record { name = name; value = decimal n } ∷ xs)

formed : (xs : List Attribute) → Fitting xs → grammar.AreAttributes (flat_map attribute_bytes xs)
formed xs none = grammar.no_more
formed xs (said name value ys plain_name plain_value rest) =
    grammar.one_more name value (flat_map attribute_bytes ys) plain_name (grammar.word value plain_value) (formed ys rest)
formed xs (counted name n ys plain rest) = grammar.one_more name (decimal n) (flat_map attribute_bytes ys) plain (grammar.number n) (formed ys rest)

-- an element of a kind, with such attributes
abbrev Fits : Element → Type 0
Fits (Empty tag xs) = grammar.IsEmptyTag tag × Fitting xs
Fits (Holding tag xs t) = grammar.IsTextTag tag × Fitting xs

abbrev AllFormed : List Element → Type 0
AllFormed es = grammar.AreElements (flat_map element_bytes es)

more : (e : Element) (es : List Element) → Fits e → AllFormed es → AllFormed (e ∷ es)
more (Empty tag xs) es (is, fit) rest = grammar.empty tag (flat_map attribute_bytes xs) (flat_map element_bytes es) is (formed xs fit) rest
more (Holding tag xs t) es (is, fit) rest =
    grammar.holding tag (flat_map attribute_bytes xs) (escaped t) (flat_map element_bytes es) is (formed xs fit) (escaped_text t) rest

all_formed : (es : List Element) → AllByRecursion Fits es → AllFormed es
all_formed [] fit = grammar.no_element
all_formed (e ∷ es) fit = more e es fit.0 (all_formed es fit.1)

-- elements behind others
both_fit : (es fs : List Element) → AllByRecursion Fits es → AllByRecursion Fits fs → AllByRecursion Fits (es ++ fs)
both_fit [] fs fit others = others
both_fit (e ∷ es) fs fit others = (fit.0, both_fit es fs fit.1 others)

each_fits : {X : Type 0} (f : X → Element) → ((x : X) → Fits (f x)) → (xs : List X) → AllByRecursion Fits (map f xs)
each_fits f fits [] = tt
each_fits f fits (x ∷ xs) = (fits x, each_fits f fits xs)

line_fits : (class : List ℕ) → list_all grammar.is_of_value class ≡ true → (x1 y1 x2 y2 : ℕ) → Fits (line_element class x1 y1 x2 y2)
line_fits class plain x1 y1 x2 y2 = (
  grammar.line,
  said (codes "class") class _ refl plain
      (counted (codes "x1") x1 _ refl (counted (codes "y1") y1 _ refl (counted (codes "x2") x2 _ refl (counted (codes "y2") y2 [] refl none)))),
)

text_fits : (class : List ℕ) → list_all grammar.is_of_value class ≡ true → (x y : ℕ) (t : List ℕ) → Fits (text_element class x y t)
text_fits class plain x y t =
    (grammar.text, said (codes "class") class _ refl plain (counted (codes "x") x _ refl (counted (codes "y") y [] refl none)))

plain_fits : (x y : ℕ) (t : List ℕ) → Fits (plain_text x y t)
plain_fits x y t = (grammar.text, counted (codes "x") x _ refl (counted (codes "y") y [] refl none))

dot_fits : (s : Spot) → Fits (dot s)
dot_fits s = (
  grammar.circle,
  said (codes "class") (codes "e") _ refl refl
      (counted (codes "cx") (column s.column) _ refl
      (counted (codes "cy") (height s.row) _ refl (said (codes "r") (codes "3") [] refl refl none))),
)

tone_plain : (tone : Tone) → list_all grammar.is_of_value (class_of tone) ≡ true
tone_plain Printed = refl
tone_plain Faulty = refl

notes_fit : (ns : List Note) → AllByRecursion Fits (flat_map note_elements ns)
notes_fit [] = tt
notes_fit (Event n t s ∷ ns) = (text_fits (codes "t") refl 8 (height s.row + 4) (decimal n ++ codes " at " ++ decimal t), (dot_fits s, notes_fit ns))
notes_fit (Mark tone s t ∷ ns) = (text_fits (class_of tone) (tone_plain tone) _ _ t, notes_fit ns)

way_fits : (s : Spot) (o : Option Spot) → Fits (way_to s o)
way_fits s None = line_fits (codes "l") refl _ _ _ _
way_fits s (Some c) = line_fits (codes "a") refl _ _ _ _

ground_fits : AllByRecursion Fits (Holding (codes "style") [] styles ∷ ground ∷ [])
ground_fits =
    let rect : Fits ground = (
      grammar.rect,
      said (codes "width") (codes "100%") _ refl refl
          (said (codes "height") (codes "100%") _ refl refl (said (codes "fill") (codes "#fff") [] refl refl none)),
    ) in
    ((grammar.style, none), (rect, tt))

elements_fit : (n : ℕ) (d : Drawing) → AllByRecursion Fits (elements n d)
elements_fit n d =
    let g : List Element = Holding (codes "style") [] styles ∷ ground ∷ [] in
    let l : List Element = map label (range_with_len 0 n) in
    let b : List Element = map bar_element d.uptimes.over in
    let r : List Element = map bar_element (bars_left n d.cursor.row d.uptimes.since) in
    let w : List Element = map way_element d.packets.over in
    let m : List Element = flat_map note_elements d.notes in
    let e : List Element = plain_text 8 (height d.cursor.row + 28) d.end ∷ [] in
    let bar_fits : (x : Bar) → Fits (bar_element x) = λ x. line_fits (codes "b") refl _ _ _ _ in
    let labels = both_fit g l ground_fits (each_fits label (λ p. plain_fits (175 + 190 * p) 20 (codes "process " ++ decimal p)) (range_with_len 0 n)) in
    let bars = both_fit (g ++ l) b labels (each_fits bar_element bar_fits d.uptimes.over) in
    let left = both_fit ((g ++ l) ++ b) r bars (each_fits bar_element bar_fits (bars_left n d.cursor.row d.uptimes.since)) in
    let ways = both_fit (((g ++ l) ++ b) ++ r) w left (each_fits way_element (λ x. way_fits x.sent x.comes) d.packets.over) in
    let notes = both_fit ((((g ++ l) ++ b) ++ r) ++ w) m ways (notes_fit d.notes) in
    both_fit (((((g ++ l) ++ b) ++ r) ++ w) ++ m) e notes (plain_fits 8 (height d.cursor.row + 28) d.end, tt)

pub well_formed : IsWellFormed
well_formed n d =
    let attributes : List Attribute = worded (codes "xmlns") (codes "http://www.w3.org/2000/svg") ∷ measured (codes "width") (110 + 190 * n)
    ∷ measured (codes "height") (height d.cursor.row + 40) ∷ [] in
    let fit : Fitting attributes =
    said (codes "xmlns") (codes "http://www.w3.org/2000/svg") _ refl refl
    (counted (codes "width") (110 + 190 * n) _ refl (counted (codes "height") (height d.cursor.row + 40) [] refl none)) in
    grammar.svg (flat_map attribute_bytes attributes) (flat_map element_bytes (elements n d)) (formed attributes fit) (all_formed (elements n d) (elements_fit n d))
