use Rattle.std.proofs.Common.{map, sym, ap, ◌∙◌}
use Rattle.flow_tree.specs.DeclView.{decl_of}
use Rattle.flow_ast.specs.Typing.{is_there}
use Rattle.flow_rules.specs.Known.{known}
use Rattle.flow_types.specs.MapView.{known_by}
use Rattle.flow_class.specs.View.{class_of}
use Rattle.flow_valid.specs.Heads.{head_of, first_head}
use Rattle.flow_validate.proofs.Taken.{taken_more}
use Rattle.flow_validate.proofs.FirstHead.{before, first_found, first_more, before_more}
use Rattle.flow_validate.proofs.heads.first_broken.Goals as goal

pub returns-then-not-head_kept : goal.returns-then-not-head_kept
returns-then-not-head_kept c =
    let all = known_by c.args.names.now in
    let ds = map decl_of c.args.decls.now in
    let cs = c.args.classes.now in
    let at = c.loop-place.place in
    first_found all ds cs at c.index-classes-place.result c.loop-place-test.true c.index-classes-place.is (first_head all ds 0 (map class_of cs))
    (sym (c.head_kept.ensures (before ds cs at) c.loop-place.invariant.taken) ∙ c.if-not-head_kept.true) c.loop-place.invariant.first

pub loop-place-preserved : goal.loop-place-preserved
loop-place-preserved c =
    let all = known_by c.args.names.now in
    let ds = map decl_of c.args.decls.now in
    let cs = c.args.classes.now in
    let at = c.loop-place.place in
    let class = c.index-classes-place.result in
    let more = before_more all ds cs at class c.loop-place-test.true c.index-classes-place.is in
    record {
      taken = λ x.
          taken_more c.loop-place.taken.keys c.insert.new.self.keys c.bytes.result (before ds cs at) (head_of (class_of class)) c.in_ok-insert.ensures.keys c.bytes.ensures.bytes
          c.loop-place.invariant.taken x
          ∙ ap (λ l. is_there (known l x)) (sym more);
      first = first_more all ds cs at class c.loop-place-test.true c.index-classes-place.is (first_head all ds 0 (map class_of cs))
          (sym (c.head_kept.ensures (before ds cs at) c.loop-place.invariant.taken) ∙ c.if-not-head_kept.false) c.loop-place.invariant.first;
    }
