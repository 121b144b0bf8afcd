-- What a text derives, some class text of version 2 derives in tokens that can be spelled.
use Rattle.std.proofs.Common.{ℕ, List, [], ◌∷◌, take, sym, subst}
use Rattle.flow_tree.specs.declared.token.Spot.{Spot}
use Rattle.flow_tree.specs.Lexing.{ReadsTokens, here, gap, token}
use Rattle.flow_tree.specs.declared.limits.TheConstants.{OF_CLASS_TEXT}
use Rattle.flow_tree.specs.GrammarToken.{Marked, KeepsOf, spots_of}
use Rattle.flow_class.specs.Classes.{RawTree}
use Rattle.flow_classprint.specs.declared.version.Version.TheVariants.{One, Two}
use Rattle.flow_classprint.specs.ClassGrammar.{TextRule, of_version, IsSpelled, AreSpelled, IsWritten}
use Rattle.flow_class_reading_laws.specs.Laws.{ReadsWritten}
use Rattle.flow_class_reading_laws.proofs.Versions.{newest}

abbrev AllSpelled : List Spot → Type 0
AllSpelled [] = Unit {0}
AllSpelled (x ∷ xs) = IsSpelled x.token × AllSpelled xs

tokens_spelled : {before text before' text' : List ℕ} {spots : List Spot} → ReadsTokens before text spots before' text' → AllSpelled spots
tokens_spelled here = tt
tokens_spelled (gap l r) = tokens_spelled r
tokens_spelled {text = text} (token t n at bounded r) = (record { bytes = take n text; spells = at.spelled; bounded = bounded }, tokens_spelled r)

marked_spelled : (xs : List Marked) → AllSpelled (spots_of xs) → AreSpelled xs
marked_spelled [] h = tt
marked_spelled (x ∷ xs) h = (h.0, marked_spelled xs h.1)

of_any : (tokens : List Marked) (raw : RawTree) → TextRule tokens raw → AreSpelled tokens → KeepsOf OF_CLASS_TEXT 7 tokens → IsWritten raw
of_any tokens raw (of_version One r) s k = newest r s k
of_any tokens raw (of_version Two r) s k = record { tokens = tokens; rule = r; spelled = s; keeps = k }

pub reads_written : ReadsWritten
reads_written bytes raw t =
    let d = t.derives in
    of_any d.marked raw d.rule (marked_spelled d.marked (subst AllSpelled (sym d.is) (tokens_spelled t.lexes.reads))) d.keeps
