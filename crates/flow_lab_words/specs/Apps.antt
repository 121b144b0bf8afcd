-- The arguments that the laboratory's words take, as clap's own definition reads them.
use Rattle.std.specs.Prelude.{Bool, List, Option, Some, codes}
use Rattle.clap.specs.Words.{App, Row, Text, with_rule, first_of}
use Rattle.flow_words.specs.Apps.{bare_app, required_text, option_text, flag, is_true}

-- four texts, `--storm N,T`, `--crash D`, `--monitor LIST`, `--cover` and `--first`
abbrev pub four_names_app : App
four_names_app =
    with_rule (with_rule (with_rule (with_rule bare_app (required_text (codes "program"))) (required_text (codes "world")))
    (required_text (codes "from"))) (required_text (codes "to"))

abbrev pub family_app : App
family_app = with_rule (with_rule (with_rule four_names_app (option_text (codes "storm"))) (option_text (codes "crash")))
    (option_text (codes "monitor"))

abbrev pub sweep_app : App
sweep_app = with_rule (with_rule family_app (flag (codes "cover"))) (flag (codes "first"))

-- the text of an argument
abbrev pub text_of : (id : Text) → List Row → Option Text
text_of id rows = first_of id rows

-- whether a flag is there
abbrev pub has_flag : (id : Text) → List Row → Bool
has_flag id rows = is_true (first_of id rows)
