-- Lines put one after another.
use Rattle.std.proofs.Common.{◌≡◌, ℕ, ◌+◌, ◌<◌, ◌≤◌, List, ◌∷◌, ◌++◌, length, drop, get_or, sym, ap, ◌∙◌, append_assoc, append-nil}
use Rattle.std.proofs.lemmas.List.{drop_more, drop_all}
use Rattle.std.specs.declared.option.Option.{Option}
use Rattle.std.specs.Io.KnownBytes.{Appends}
use Rattle.std.proofs.KnownBytes.{Appends-trans}
use Rattle.flow_base.specs.Bytes.{AppendsPart}
use Rattle.flow_trace.specs.declared.line.Line.{Line}
use Rattle.flow_explain.specs.Texts.{ActorText}
use Rattle.flow_explain.specs.Living.{Telling, told_after}
use Rattle.flow_explain.specs.Words.{line_in_words, in_words}

-- a part of what comes next, behind what came before
pub part_behind : (a b c : Option (List ℕ)) (text piece rest whole : List ℕ) → text ++ piece ++ rest ≡ whole → Appends a b text → AppendsPart b c piece → AppendsPart a c whole
part_behind a b c text piece rest whole is written (front, back, split, more) = (
  text ++ front,
  back ++ rest,
  sym is
      ∙ ap (λ l. text ++ l ++ rest) split
      ∙ append_assoc text (front ++ back) rest
      ∙ ap (λ l. text ++ l) (append_assoc front back rest)
      ∙ sym (append_assoc text front (back ++ rest)),
  Appends-trans a b c text front written more,
)

module _ (texts : List ActorText) where
  -- what is ahead before a line is the line, and what is ahead after it
  pub next_line : (lines : List Line) (i : ℕ) (l : Line) (s : Telling) (text whole : List ℕ) → i < length lines → l ≡ get_or lines i l
      → text ++ in_words texts s (drop i lines) ≡ whole
      → text ++ line_in_words texts s l ++ in_words texts (told_after texts l s) (drop (i + 1) lines) ≡ whole
  next_line lines i l s text whole lt got ahead =
      let rest = drop (i + 1) lines in
      append_assoc text (line_in_words texts s l) (in_words texts (told_after texts l s) rest)
      ∙ ap (λ x. text ++ in_words texts s (x ∷ rest)) got
      ∙ ap (λ ls. text ++ in_words texts s ls) (sym (drop_more lines i l lt)) ∙ ahead

  pub all_lines : (lines : List Line) (i : ℕ) (s : Telling) (text whole : List ℕ) → length lines ≤ i → text ++ in_words texts s (drop i lines) ≡ whole → text ≡ whole
  all_lines lines i s text whole le ahead =
      sym (append-nil text) ∙ ap (λ ls. text ++ in_words texts s ls) (sym (drop_all i lines le)) ∙ ahead
