-- Parts that may be absent.
use Rattle.std.proofs.Common.{◌≡◌, ℕ, ◌+◌, ◌≤◌, List, [], ◌∷◌, ◌++◌, length, refl, subst}
use Rattle.std.specs.declared.option.Option.{Option}
use Rattle.std.specs.declared.option.Option.TheVariants.{None, Some}
use Rattle.flow_tree.specs.declared.limits.TheConstants.{OF_CLASS_TEXT}
use Rattle.flow_tree.specs.declared.token.Token.{Token}
use Rattle.flow_tree.specs.declared.token.Tokens.{Tokens}
use Rattle.flow_tree.specs.GrammarToken.{Marked, opens}
use Rattle.flow_parse.specs.Reading.{token_at, Any, Reads}
use Rattle.flow_parse.specs.Follow.{NotBefore}
use Rattle.flow_parse.proofs.Looking.{Looks, Back}
use Rattle.flow_parse.proofs.Begins.{looks_is}
use Rattle.flow_parse.proofs.Failing.{Inhabited}
use Rattle.flow_parse.proofs.Leaves.{Leaves, Turns}
use Rattle.flow_parse.proofs.Leaves.{nothing, narrow, empty}
use Rattle.flow_classread.specs.Parts.{Behind}
use Rattle.flow_classread.proofs.Combine.{behind_here}

-- nothing stands there, or a token and a part
pub data Perhaps {A : Type 0} (x : Token) (U : List Marked → A → Type 0) (w : List Marked) (o : Option A) : Type 0 where
  absent : w ≡ [] → o ≡ None → Perhaps x U w o
  present : (a : A) → Behind x U w a → o ≡ Some a → Perhaps x U w o

module _ {A : Type 0} (V : List Marked → Option A → Type 0) (x : Token) (U : List Marked → A → Type 0) (none : V [] None) (some : (w : List Marked) (a : A) → Behind x U w a → V w (Some a))
    (which : (w : List Marked) (o : Option A) → V w o → Perhaps x U w o) (any : Inhabited U) (t : Tokens) (at : ℕ) (within : at ≤ length t.spots.items) where
  pub absent_reads : (token_at t.spots.items at ≡ Some x → ⊥) → Reads OF_CLASS_TEXT V (NotBefore x) t.spots.items at None at
  absent_reads f = empty OF_CLASS_TEXT t.spots.items V (NotBefore x) at None (token_at t.spots.items at) within refl none (λ w z b r g l. of w z b l (which w b r))
    where
      of : (w z : List Marked) (b : Option A) → Looks (token_at t.spots.items at) (w ++ z) → Perhaps x U w b → (b ≡ None) × (w ≡ [])
      of w z b l (absent e h) = (h, e)
      of w z b l (present a r h) = absurd (f (looks_is (token_at t.spots.items at) (opens [] x r.0) r.1 z r.3 l))

  not_here : {B : Type 0} (b : B) (z : List Marked) → NotBefore x b z → Looks (Some x) z → ⊥
  not_here b [] f l = l
  not_here b (y ∷ z) f l = f l

  there_turns : Turns V (NotBefore x) (Behind x U) Any Some (Some x)
  there_turns = record { back = λ w z b r f l. of w z b f l (which w b r); forth = λ w a r. some w a r }
    where
      of : (w z : List Marked) (b : Option A) → NotBefore x b z → Looks (Some x) (w ++ z) → Perhaps x U w b → Back V (NotBefore x) (Behind x U) Any Some w z b
      of w z b f l (absent e h) = absurd (not_here b z f (subst (λ k. Looks (Some x) (k ++ z)) e l))
      of w z b f l (present a r h) = record { tree = a; rule = r; is = h; follows = tt }

  pub present_left : token_at t.spots.items at ≡ Some x → Leaves OF_CLASS_TEXT V (NotBefore x) U Any Some t.spots.items at (at + 1)
  present_left e = behind_here t x any (narrow OF_CLASS_TEXT t.spots.items e there_turns (nothing OF_CLASS_TEXT t.spots.items V (NotBefore x) at within)) e
