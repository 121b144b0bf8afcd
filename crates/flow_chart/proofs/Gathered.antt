-- Elements written one after another.
use Rattle.std.proofs.Common.{◌≡◌, ℕ, suc, ◌+◌, ◌-◌, ◌<◌, ◌≤◌, List, [], ◌∷◌, ◌++◌, length, map, drop, get_or, sym, ap, ◌∙◌, append_assoc, append-nil, arith}
use Rattle.std.specs.List.{flat_map, range_with_len}
use Rattle.std.specs.declared.option.Option.{Option}
use Rattle.std.specs.declared.option.Option.TheVariants.{None}
use Rattle.std.proofs.lemmas.List.{drop_more, drop_all, map-append}
use Rattle.std.proofs.lemmas.Grind.{flat_map-append}
use Rattle.flow_chart.specs.declared.notes.Note as code
use Rattle.flow_chart.specs.declared.uptimes.Bar.{Bar}
use Rattle.flow_chart.specs.Drawing.{bar, if_any}
use Rattle.flow_chart.specs.Elements.{Element, element_bytes}
use Rattle.flow_chart.specs.Notes.{note_of}
use Rattle.flow_chart.specs.Picture.{bar_element, label, note_elements}

-- the bytes of things, one after another
module _ {X Y : Type 0} (g : Y → List ℕ) (h : X → Y) where
  pub mapped_next : (xs : List X) (i : ℕ) (x : X) (old new whole : List ℕ) → i < length xs → x ≡ get_or xs i x → new ≡ old ++ g (h x)
      → old ++ flat_map g (map h (drop i xs)) ≡ whole → new ++ flat_map g (map h (drop (i + 1) xs)) ≡ whole
  mapped_next xs i x old new whole lt got is inv =
      let rest = flat_map g (map h (drop (i + 1) xs)) in
      ap (λ l. l ++ rest) is
      ∙ append_assoc old (g (h x)) rest
      ∙ ap (λ y. old ++ (g (h y) ++ rest)) got
      ∙ ap (λ l. old ++ flat_map g (map h l)) (sym (drop_more xs i x lt)) ∙ inv

  pub mapped_end : (xs : List X) (i : ℕ) (old whole : List ℕ) → length xs ≤ i → old ++ flat_map g (map h (drop i xs)) ≡ whole → old ≡ whole
  mapped_end xs i old whole le inv = sym (append-nil old) ∙ ap (λ l. old ++ flat_map g (map h l)) (sym (drop_all i xs le)) ∙ inv

-- those of the bytes of a text
pub text_next : (f : ℕ → List ℕ) (xs : List ℕ) (i x : ℕ) (old new whole : List ℕ) → i < length xs → x ≡ get_or xs i x → new ≡ old ++ f x
    → old ++ flat_map f (drop i xs) ≡ whole → new ++ flat_map f (drop (i + 1) xs) ≡ whole
text_next f xs i x old new whole lt got is inv =
    let rest = flat_map f (drop (i + 1) xs) in
    ap (λ l. l ++ rest) is
    ∙ append_assoc old (f x) rest
    ∙ ap (λ y. old ++ (f y ++ rest)) got
    ∙ ap (λ l. old ++ flat_map f l) (sym (drop_more xs i x lt)) ∙ inv

-- those of notes, of which each may give several elements
abbrev pub notes_bytes : List code.Note → List ℕ
notes_bytes ns = flat_map element_bytes (flat_map note_elements (map note_of ns))

pub notes_next : (ns : List code.Note) (i : ℕ) (n : code.Note) (old new whole : List ℕ) → i < length ns → n ≡ get_or ns i n
    → new ≡ old ++ flat_map element_bytes (note_elements (note_of n)) → old ++ notes_bytes (drop i ns) ≡ whole → new ++ notes_bytes (drop (i + 1) ns) ≡ whole
notes_next ns i n old new whole lt got is inv =
    let rest = drop (i + 1) ns in
    ap (λ l. l ++ notes_bytes rest) is
    ∙ append_assoc old (flat_map element_bytes (note_elements (note_of n))) (notes_bytes rest)
    ∙ ap (λ l. old ++ l) (sym (flat_map-append element_bytes (note_elements (note_of n)) (flat_map note_elements (map note_of rest))))
    ∙ ap (λ x. old ++ flat_map element_bytes (note_elements (note_of x) ++ flat_map note_elements (map note_of rest))) got
    ∙ ap (λ l. old ++ notes_bytes l) (sym (drop_more ns i n lt)) ∙ inv

pub notes_end : (ns : List code.Note) (i : ℕ) (old whole : List ℕ) → length ns ≤ i → old ++ notes_bytes (drop i ns) ≡ whole → old ≡ whole
notes_end ns i old whole le inv = sym (append-nil old) ∙ ap (λ l. old ++ notes_bytes l) (sym (drop_all i ns le)) ∙ inv

-- numbers from one on, before another
left : (i n : ℕ) → i < n → range_with_len i (n - i) ≡ i ∷ range_with_len (i + 1) (n - (i + 1))
left i n lt = let is : n - i ≡ suc (n - (i + 1)) = omega (arith, lt) in ap (range_with_len i) is

none_left : (i n : ℕ) → n ≤ i → range_with_len i (n - i) ≡ []
none_left i n le = let is : n - i ≡ 0 = omega (arith, le) in ap (range_with_len i) is

abbrev pub label_bytes : List ℕ → List ℕ
label_bytes ps = flat_map element_bytes (map label ps)

pub labels_next : (n i : ℕ) (old new whole : List ℕ) → i < n → new ≡ old ++ element_bytes (label i) → old ++ label_bytes (range_with_len i (n - i)) ≡ whole
    → new ++ label_bytes (range_with_len (i + 1) (n - (i + 1))) ≡ whole
labels_next n i old new whole lt is inv =
    let rest = label_bytes (range_with_len (i + 1) (n - (i + 1))) in
    ap (λ l. l ++ rest) is ∙ append_assoc old (element_bytes (label i)) rest
    ∙ ap (λ l. old ++ label_bytes l) (sym (left i n lt)) ∙ inv

pub labels_end : (n i : ℕ) (old whole : List ℕ) → n ≤ i → old ++ label_bytes (range_with_len i (n - i)) ≡ whole → old ≡ whole
labels_end n i old whole le inv = sym (append-nil old) ∙ ap (λ l. old ++ label_bytes l) (sym (none_left i n le)) ∙ inv

-- the bars of processes that are up since some rows, to a last one
module _ (row : ℕ) (since : List (Option ℕ)) where
  abbrev pub bars_of : List ℕ → List Bar
  bars_of ps = flat_map (λ p. if_any (bar p (get_or since p None) row)) ps

  abbrev pub bars_bytes : List ℕ → List ℕ
  bars_bytes ps = flat_map element_bytes (map bar_element (bars_of ps))

  pub bars_next : (n i : ℕ) (b : Option Bar) (old new whole : List ℕ) → i < n → b ≡ bar i (get_or since i None) row
      → new ≡ old ++ flat_map element_bytes (map bar_element (if_any b)) → old ++ bars_bytes (range_with_len i (n - i)) ≡ whole
      → new ++ bars_bytes (range_with_len (i + 1) (n - (i + 1))) ≡ whole
  bars_next n i b old new whole lt at is inv =
      let rest = range_with_len (i + 1) (n - (i + 1)) in
      let here = if_any b in
      ap (λ l. l ++ bars_bytes rest) is
      ∙ append_assoc old (flat_map element_bytes (map bar_element here)) (bars_bytes rest)
      ∙ ap (λ l. old ++ l) (sym (flat_map-append element_bytes (map bar_element here) (map bar_element (bars_of rest))))
      ∙ ap (λ l. old ++ flat_map element_bytes l) (sym (map-append bar_element here (bars_of rest)))
      ∙ ap (λ o. old ++ flat_map element_bytes (map bar_element (if_any o ++ bars_of rest))) at
      ∙ ap (λ l. old ++ bars_bytes l) (sym (left i n lt)) ∙ inv

  pub bars_end : (n i : ℕ) (old whole : List ℕ) → n ≤ i → old ++ bars_bytes (range_with_len i (n - i)) ≡ whole → old ≡ whole
  bars_end n i old whole le inv = sym (append-nil old) ∙ ap (λ l. old ++ bars_bytes l) (sym (none_left i n le)) ∙ inv

-- what stands in a picture, part by part
part : (o : List ℕ) (es fs : List Element) → (o ++ 62 ∷ 10 ∷ flat_map element_bytes es) ++ flat_map element_bytes fs ≡ o ++ 62 ∷ 10 ∷ flat_map element_bytes (es ++ fs)
part o es fs =
    append_assoc o (62 ∷ 10 ∷ flat_map element_bytes es) (flat_map element_bytes fs)
    ∙ ap (λ l. o ++ 62 ∷ 10 ∷ l) (sym (flat_map-append element_bytes es fs))

-- one part more
grown : (o old : List ℕ) (es fs : List Element) → old ≡ o ++ 62 ∷ 10 ∷ flat_map element_bytes es
    → old ++ flat_map element_bytes fs ≡ o ++ 62 ∷ 10 ∷ flat_map element_bytes (es ++ fs)
grown o old es fs is = ap (λ x. x ++ flat_map element_bytes fs) is ∙ part o es fs

pub all_parts : (o : List ℕ) (g l b c w n e : List Element)
    → (((((((o ++ 62 ∷ 10 ∷ []) ++ flat_map element_bytes g) ++ flat_map element_bytes l) ++ flat_map element_bytes b) ++ flat_map element_bytes c) ++ flat_map element_bytes w)
    ++ flat_map element_bytes n) ++ flat_map element_bytes e
    ≡ o ++ 62 ∷ 10 ∷ flat_map element_bytes ((((((g ++ l) ++ b) ++ c) ++ w) ++ n) ++ e)
all_parts o g l b c w n e =
    grown o _ (((((g ++ l) ++ b) ++ c) ++ w) ++ n) e
    (grown o _ ((((g ++ l) ++ b) ++ c) ++ w) n
    (grown o _ (((g ++ l) ++ b) ++ c) w (grown o _ ((g ++ l) ++ b) c (grown o _ (g ++ l) b (grown o _ g l (part o [] g))))))
