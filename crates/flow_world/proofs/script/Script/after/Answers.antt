use Rattle.std.proofs.Common.{rules, refl}
use Rattle.std.proofs.lemmas.List.Sorted.{answers_always}
use Rattle.flow_world.proofs.script.Script.after.Goals as goal

pub returns : goal.returns
returns c = record {
  lines = c.sort_by_key.new.self.items;
  in_order = record {
    same = c.sort_by_key.ensures.permutation;
    sorted = c.in_ok-sort_by_key.ensures.sorted (λ line. line.time) (answers_always _ _ _ (λ f a r q k. search rules));
    stable = c.sort_by_key.ensures.stable (λ line. line.time) (answers_always _ _ _ (λ f a r q k. search rules));
  };
  left_is = refl;
}
