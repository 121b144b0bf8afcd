use Rattle.std.proofs.Common.{refl, sym, ap, position, ◌||◌, ◌∙◌}
use Rattle.std.specs.Str.{bytes_eq}
use Rattle.indexmap.specs.IndexMap.{keys}
use Rattle.flow_types.specs.Holding.{uses_hold}
use Rattle.flow_rules.specs.Known.{holds_by}
use Rattle.flow_types.specs.MapView.{numbered}
use Rattle.flow_types.proofs.ExprKinds.{is_named}
use Rattle.flow_types.proofs.Holders.{note_found, note_missing}
use Rattle.flow_types.proofs.top_names.+note_field.Goals as goal

pub returns-in_ok-push-in-Some : goal.returns-in_ok-push-in-Some
returns-in_ok-push-in-Some t c = λ g.
    let m = c.args.meanings.now in
    let old = c.args.uses.now in
    note_found g old (record { direct = old.direct; records = c.push.new.self }) c.in-Some.number (position (λ k. bytes_eq c.bytes.result.now k.now) (keys m)) c.in-Some.ensures.index refl
    c.in_ok-push-in-Some.ensures.items
    ∙ ap (λ x. uses_hold g old || numbered m g x) c.bytes.ensures.bytes
    ∙ sym (ap (λ u. uses_hold g old || holds_by (numbered m g) u) (is_named c.args.ty.now c.in-Named.name c.in-Named.is))

pub returns-in-None : goal.returns-in-None
returns-in-None t c = λ g.
    let m = c.args.meanings.now in
    let old = c.args.uses.now in
    note_missing g old (position (λ k. bytes_eq c.bytes.result.now k.now) (keys m)) c.in-None.ensures.index
    ∙ ap (λ x. uses_hold g old || numbered m g x) c.bytes.ensures.bytes
    ∙ sym (ap (λ u. uses_hold g old || holds_by (numbered m g) u) (is_named c.args.ty.now c.in-Named.name c.in-Named.is))
