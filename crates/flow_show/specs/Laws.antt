-- What holds of every canonical text.
use Rattle.std.specs.Prelude.{◌≡◌, ℕ, List}
use Rattle.flow_base.specs.declared.place.Place.{Place}
use Rattle.flow_tree.specs.declared.token.Spot.{Spot}
use Rattle.flow_tree.specs.Decls.{ProgramTree}
use Rattle.flow_tree.specs.Lexing.{Lexes}
use Rattle.flow_tree.specs.GrammarToken.{Derives}
use Rattle.flow_tree.specs.GrammarDecl.{ProgramRule}
use Rattle.flow_tree.specs.Canon.{Canon, bare}

-- equal programs have one text, places aside
abbrev pub OneText : Type 0
OneText = (p q : ProgramTree) → bare p ≡ bare q → Canon p ≡ Canon q

-- The program's canonical text has tokens, which are derived as a program equal to it, places aside,
-- within the limits L3 to Ln.
pub record IsReadBack (n : ℕ) (p : ProgramTree) : Type 0 where
  pub spots : List Spot
  pub end : Place
  pub tree : ProgramTree
  pub lexes : Lexes (Canon p) spots end
  pub derives : Derives (ProgramRule end) n spots tree
  pub same : bare tree ≡ bare p

-- A program that the tokens of some text derive, places aside, is read back from its canonical text,
-- within the limits L3 to Ln that it keeps; with n below 3 there is no limit. The limits on the
-- number of bytes and of tokens are no part of this.
abbrev pub RoundTrip : Type 0
RoundTrip = (n : ℕ) (bytes : List ℕ) (spots : List Spot) (end : Place) (q p : ProgramTree)
    → Lexes bytes spots end → Derives (ProgramRule end) n spots q → bare p ≡ bare q → IsReadBack n p

-- So the canonical text of what is read back from a canonical text is that text again.
abbrev pub TwiceIsOnce : Type 0
TwiceIsOnce = (n : ℕ) (p : ProgramTree) (back : IsReadBack n p) → Canon back.tree ≡ Canon p
