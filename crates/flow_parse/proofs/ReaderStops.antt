-- What the readers of types and expressions refuse, as the part that stops there.
use Rattle.std.proofs.Common.{ℕ, ◌<◌, List, ◌++◌, drop, arith}
use Rattle.flow_tree.specs.declared.limits.Limits.{Limits}
use Rattle.flow_tree.specs.declared.limits.TheConstants.{OF_PROGRAMS}
use Rattle.flow_base.specs.declared.place.Place.{Place}
use Rattle.flow_tree.specs.declared.token.Tokens.{Tokens}
use Rattle.flow_tree.specs.declared.token.Spot.{Spot}
use Rattle.flow_tree.specs.GrammarToken.{Marked, Good, GoodOf}
use Rattle.flow_tree.specs.Grammar.{ExprRule, TypeRule}
use Rattle.flow_tree.specs.GrammarAnswer.{IsMissing, IsTooDeep}
use Rattle.flow_parse.specs.Reading.{Any}
use Rattle.flow_parse.specs.Follow.{ExprEnds}
use Rattle.flow_parse.specs.Failing.{Stops}
use Rattle.flow_parse.proofs.Nodes.{Nodes, nodes_front, expr_nodes, type_nodes, depth_keeps}
use Rattle.flow_parse.proofs.Readers.{expr_missing, expr_deep}
use Rattle.flow_parse.proofs.TypeReaders.{type_missing, type_deep}

module _ (limits : Limits) {A : Type 0} (R : List Marked → A → Type 0) (nodes : (w : List Marked) (a : A) → R w a → Nodes w) where
  all_limits : (n : ℕ) (ts : List Spot) → Good R 5 ts → GoodOf limits R n ts
  all_limits n ts g = record {
    read = g.read;
    rest = g.rest;
    tree = g.tree;
    rule = g.rule;
    is = g.is;
    keeps = depth_keeps OF_PROGRAMS limits n g.read (nodes_front g.read g.rest (nodes (g.read ++ g.rest) g.tree g.rule)) (λ l. g.keeps);
  }

  lower_limits : (n : ℕ) (ts : List Spot) → n < 5 → Good R 2 ts → GoodOf limits R n ts
  lower_limits n ts lt g = record {
    read = g.read;
    rest = g.rest;
    tree = g.tree;
    rule = g.rule;
    is = g.is;
    keeps = depth_keeps OF_PROGRAMS limits n g.read (nodes_front g.read g.rest (nodes (g.read ++ g.rest) g.tree g.rule)) (λ l. absurd (omega arith));
  }

module _ (limits : Limits) (t : Tokens) (from d : ℕ) (at : Place) where
  pub expr_missing_stops : (r : IsMissing (ExprRule 0 d) t from at) → Stops limits (ExprRule 0 d) ExprEnds 2 (drop from t.spots.items) r.count
  expr_missing_stops r = record {
    within = r.reads.within;
    token = λ h. absurd (omega arith);
    bad = expr_missing limits t from d 2 at r;
    good = all_limits limits (ExprRule 0 d) (λ w a r. expr_nodes r) 7 _ r.reads.good;
    below = λ m l h. absurd (omega arith);
  }

  pub expr_deep_stops : (r : IsTooDeep (ExprRule 0 d) t from at) → Stops limits (ExprRule 0 d) ExprEnds 5 (drop from t.spots.items) r.number
  expr_deep_stops r = record {
    within = omega (arith, r.deep.within);
    token = λ h. r.deep.within;
    bad = expr_deep limits t from d at r;
    good = all_limits limits (ExprRule 0 d) (λ w a r. expr_nodes r) 7 _ r.deep.before;
    below = λ m l h. lower_limits limits (ExprRule 0 d) (λ w a r. expr_nodes r) m _ l r.deep.read;
  }

  pub type_missing_stops : (r : IsMissing (TypeRule d) t from at) → Stops limits (TypeRule d) Any 2 (drop from t.spots.items) r.count
  type_missing_stops r = record {
    within = r.reads.within;
    token = λ h. absurd (omega arith);
    bad = type_missing limits t from d 2 at r;
    good = all_limits limits (TypeRule d) (λ w a r. type_nodes r) 7 _ r.reads.good;
    below = λ m l h. absurd (omega arith);
  }

  pub type_deep_stops : (r : IsTooDeep (TypeRule d) t from at) → Stops limits (TypeRule d) Any 5 (drop from t.spots.items) r.number
  type_deep_stops r = record {
    within = omega (arith, r.deep.within);
    token = λ h. r.deep.within;
    bad = type_deep limits t from d at r;
    good = all_limits limits (TypeRule d) (λ w a r. type_nodes r) 7 _ r.deep.before;
    below = λ m l h. lower_limits limits (TypeRule d) (λ w a r. type_nodes r) m _ l r.deep.read;
  }
