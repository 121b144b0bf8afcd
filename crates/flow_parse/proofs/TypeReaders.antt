-- What the readers of types answer is exact.
use Rattle.std.proofs.Common.{◌≡◌, ℕ, suc, ◌+◌, ◌-◌, arith, append_assoc, length-append, List, [], ◌∷◌, ◌++◌, length, drop, sym, ap, ◌∙◌}
use Rattle.std.proofs.lemmas.List.{append-nil}
use Rattle.flow_tree.specs.declared.limits.Limits.{Limits}
use Rattle.flow_base.specs.declared.place.Place.{Place}
use Rattle.flow_tree.specs.declared.token.Tokens.{Tokens}
use Rattle.flow_tree.specs.Tree.{TypeTree}
use Rattle.flow_tree.specs.GrammarToken.{Marked, spots_of, Good}
use Rattle.flow_tree.specs.Grammar.{TypeRule}
use Rattle.flow_tree.proofs.GrammarLists.{spots_append, length_spots}
use Rattle.flow_tree.specs.GrammarAnswer.{IsRead, IsMissing, IsTooDeep}
use Rattle.flow_exprs.proofs.TypeLaws.{one_type}
use Rattle.flow_parse.specs.Reading.{Any}
use Rattle.flow_parse.specs.Failing.{Only, Never}
use Rattle.flow_parse.proofs.UniqueTypes.{uniq_type}
use Rattle.flow_parse.proofs.Nodes.{type_nodes}
use Rattle.flow_parse.proofs.Readers.{reader_only, missing_never, deep_never}

-- behind a type no type goes on
pub type_ends : (d : ℕ) (w : List Marked) (t : TypeTree) (y : Marked) (z : List Marked) → TypeRule d w t → Any t (y ∷ z) → Good (TypeRule d) 2 (spots_of w ++ y.spot ∷ []) → ⊥
type_ends d w t y z r f g =
    let e : spots_of (w ++ y ∷ g.rest) ≡ spots_of ((g.read ++ g.rest) ++ []) =
    spots_append w (y ∷ g.rest) ∙ sym (append_assoc (spots_of w) (y.spot ∷ []) (spots_of g.rest)) ∙ ap (λ k. k ++ spots_of g.rest) (sym g.is) ∙ sym (spots_append g.read g.rest)
    ∙ ap spots_of (sym (append-nil (g.read ++ g.rest))) in
    let k = uniq_type (suc (length w)) d w (y ∷ g.rest) (g.read ++ g.rest) [] t g.tree (omega arith) r tt g.rule tt e in
    let m : length g.read ≡ length w + 1 = sym (length_spots g.read) ∙ ap length g.is ∙ length-append (spots_of w) (y.spot ∷ []) ∙ ap (λ n. n + 1) (length_spots w) in
    absurd (omega (arith, k.1, m, length-append g.read g.rest))

module _ (limits : Limits) (t : Tokens) (from d : ℕ) where
  pub type_only : (a : TypeTree) (to : ℕ) → IsRead (TypeRule d) t from a to → Only limits (TypeRule d) Any a (to - from) (drop from t.spots.items)
  type_only a to r = reader_only limits (TypeRule d) Any (type_ends d) (one_type d) a (to - from) (drop from t.spots.items) r.reads r.derived

  pub type_missing : (n : ℕ) (at : Place) → (r : IsMissing (TypeRule d) t from at) → Never limits (TypeRule d) Any n (suc r.count) (drop from t.spots.items)
  type_missing n at r = missing_never limits (TypeRule d) Any (type_ends d) n r.count (drop from t.spots.items) r.reads r.nothing

  pub type_deep : (at : Place) → (r : IsTooDeep (TypeRule d) t from at) → Never limits (TypeRule d) Any 5 (suc r.number) (drop from t.spots.items)
  type_deep at r = deep_never limits (TypeRule d) Any (type_ends d) (λ w b r. type_nodes r) r.number (drop from t.spots.items) r.deep
