-- Places of tokens that rise, as those of a text do.
use Rattle.std.specs.Prelude.{ℕ, ◌≤◌, ◌<◌, ◌^◌, length}
use Rattle.flow_tree.specs.declared.token.Tokens.{Tokens}
use Rattle.flow_tree.specs.GrammarAnswer.{place_at}

-- each token stands behind those before it, and the end behind all of them; they are fewer than 2^31
pub record AreRising (t : Tokens) : Type 0 where
  pub rise : (i j : ℕ) → i < j → j ≤ length t.spots.items → (place_at t i).byte < (place_at t j).byte
  pub few : length t.spots.items < 2 ^ 31
