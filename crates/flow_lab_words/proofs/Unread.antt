-- What clap doesn't read of words.
use Rattle.std.proofs.Common.{◌≡◌, List, sym, ap, ◌∙◌, Option, Result, Err}
use Rattle.std.specs.Prelude.{option_and_then}
use Rattle.clap.specs.Words.{App, Row, Text}
use Rattle.flow_words.specs.Apps.{matched}
use Rattle.flow_words.specs.Asked.{Reads}
use Rattle.flow_words.specs.declared.asked.WordsFault.{WordsFault}
use Rattle.flow_words.specs.declared.asked.WordsFault.TheVariants.{Usage, OutOfMemory}

-- where clap reads no matches of the words, nothing is asked for by them
pub none_read : {T U V : Type 0} (seen : U → T) (rows : V → List Row) (by : List Row → Option T) (a b : App) (words : List Text) (fault : WordsFault)
    → a ≡ b → Reads rows (matched a words) (Err fault) → Reads seen (option_and_then by (matched b words)) (Err fault)
none_read seen rows by a b words Usage same none = ap (option_and_then by) (ap (λ x. matched x words) (sym same) ∙ none)
none_read seen rows by a b words OutOfMemory same none = tt
