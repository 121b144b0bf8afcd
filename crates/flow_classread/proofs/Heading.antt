-- Where a class begins, and where a record or a function does.
use Rattle.std.proofs.Common.{◌≡◌, ℕ, suc, ◌<◌, Bool, true, false, not, List, length, refl, sym, ap, ◌∙◌, subst, inr}
use Rattle.std.specs.Prelude.{codes}
use Rattle.std.specs.declared.option.Option.TheVariants.{Some}
use Rattle.flow_tree.specs.declared.token.Token.TheVariants as token
use Rattle.flow_tree.specs.declared.token.Sign.TheVariants as sign
use Rattle.flow_tree.specs.declared.token.Spot.{Spot}
use Rattle.flow_parse.specs.Reading.{token_at}
use Rattle.flow_parse.specs.Openers.{AsFirst, NameToken}
use Rattle.flow_parse.proofs.Looking.{not_true}
use Rattle.flow_classread.specs.Parts.{IsClassHere, IsHeadHere}

-- no name behind the word
pub class_alone : (xs : List Spot) (at next : ℕ) → next ≡ suc at → token_at xs at ≡ Some (token.Name (codes "class"))
    → (AsFirst NameToken (token_at xs next) → ⊥) → IsClassHere xs at true
class_alone xs at next e h f = (h, λ n o. f (subst (λ k. AsFirst NameToken (token_at xs k)) (sym e) n))

-- a name behind the word: a class but where a bracket is behind it
pub class_or : (xs : List Spot) (at next last : ℕ) (r : Bool) → next ≡ suc at → last ≡ suc (suc at) → token_at xs at ≡ Some (token.Name (codes "class"))
    → AsFirst NameToken (token_at xs next) → (r ≡ true → token_at xs last ≡ Some (token.Sign sign.OpenRound)) → (token_at xs last ≡ Some (token.Sign sign.OpenRound) → r ≡ true)
    → IsClassHere xs at (not r)
class_or xs at next last true e f h n there back = inr (h, subst (λ k. AsFirst NameToken (token_at xs k)) e n, subst (λ k. token_at xs k ≡ Some (token.Sign sign.OpenRound)) f (there refl))
class_or xs at next last false e f h n there back = (h, λ m o. not_true (back (ap (token_at xs) f ∙ o)))

-- tokens are left, and a class begins or does not
pub head_or : (xs : List Spot) (at : ℕ) (r : Bool) → at < length xs → IsClassHere xs at r → IsHeadHere xs at (not r)
head_or xs at true lt h = inr h
head_or xs at false lt h = (lt, h)
