use Rattle.flow_tree.specs.declared.token.Word as words
use Rattle.flow_tree.specs.Spelling.{word_bytes}
use Rattle.std.proofs.Common.{◌≡◌, take, refl, ◌∙◌, sym, ap, subst, length, arith}
use Rattle.flow_lex.proofs.Tables.{word_found, word_missing}
use Rattle.flow_lex.proofs.Longest.{FoundName, finds_name}
use Rattle.flow_lex.proofs.Tokens.{found_token, big_token, name_found, found_word, front_length, is_name}
use Rattle.flow_lex.proofs.word.name_token.Goals as goal

pub front-bytes-requires : goal.front-bytes-requires
front-bytes-requires c =
    let f = subst (FoundName c.args.text.now) (sym c.name_len-n.ensures) (finds_name c.args.text.now c.requires.some c.requires.first) in
    f.within

pub returns-in-Some : goal.returns-in-Some
returns-in-Some c = λ before e.
    let f = subst (FoundName c.args.text.now) (sym c.name_len-n.ensures) (finds_name c.args.text.now c.requires.some c.requires.first) in
    found_token c.args.text.now _ c.name_len-n.result c.requires.apart
    (found_word c.args.text.now c.name_len-n.result c.in-Some.word f (word_found c.front-bytes.result.now c.in-Some.word c.in-Some.ensures ∙ c.front-bytes.ensures)) tt

pub returns-then-n-gt-LIMIT : goal.returns-then-n-gt-LIMIT
returns-then-n-gt-LIMIT c =
    let f = subst (FoundName c.args.text.now) (sym c.name_len-n.ensures) (finds_name c.args.text.now c.requires.some c.requires.first) in
    let free : (k : words.Word) → word_bytes k ≡ take c.name_len-n.result c.args.text.now → ⊥ = λ k q. word_missing c.front-bytes.result.now c.in_default.ensures k (q ∙ sym c.front-bytes.ensures) in
    big_token c.args.text.now _ c.name_len-n.result c.args.at c.requires.apart
    (name_found c.args.text.now c.name_len-n.result _ f free refl)
    (λ b. omega (arith, b, front_length c.args.text.now c.name_len-n.result f.within, c.if-n-gt-LIMIT.true))

pub new-requires : goal.new-requires
new-requires c =
    let f = subst (FoundName c.args.text.now) (sym c.name_len-n.ensures) (finds_name c.args.text.now c.requires.some c.requires.first) in
    is_name c.args.text.now c.front-bytes.result.now c.name_len-n.result f (omega arith) c.front-bytes.ensures

pub returns : goal.returns
returns c = λ before e.
    let f = subst (FoundName c.args.text.now) (sym c.name_len-n.ensures) (finds_name c.args.text.now c.requires.some c.requires.first) in
    let free : (k : words.Word) → word_bytes k ≡ take c.name_len-n.result c.args.text.now → ⊥ = λ k q. word_missing c.front-bytes.result.now c.in_default.ensures k (q ∙ sym c.front-bytes.ensures) in
    let is = c.in_ok-new.ensures ∙ c.front-bytes.ensures in
    found_token c.args.text.now _ c.name_len-n.result c.requires.apart
    (name_found c.args.text.now c.name_len-n.result c.in_ok-new.field-0 f free is)
    (omega (arith, ap length is, front_length c.args.text.now c.name_len-n.result f.within))
