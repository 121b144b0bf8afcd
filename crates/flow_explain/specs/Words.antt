-- A trace in words: one line for each of its lines.
use Rattle.std.specs.Prelude.{ℕ, List, [], ◌∷◌, ◌++◌, map}
use Rattle.flow_trace.specs.Bytes.{spelled, joined}
use Rattle.flow_trace.specs.declared.line.Line.{Line}
use Rattle.flow_explain.specs.Texts.{ActorText}
use Rattle.flow_explain.specs.Living.{Telling, told_after}
use Rattle.flow_explain.specs.Phrases.{phrase}

-- the bytes of a line in words, behind what others told
abbrev pub line_in_words : List ActorText → Telling → Line → List ℕ
line_in_words texts s l = joined (map spelled (phrase texts s l)) ++ 10 ∷ []

-- those of lines, one after another
abbrev pub in_words : List ActorText → Telling → List Line → List ℕ
in_words texts s [] = []
in_words texts s (l ∷ ls) = line_in_words texts s l ++ in_words texts (told_after texts l s) ls
