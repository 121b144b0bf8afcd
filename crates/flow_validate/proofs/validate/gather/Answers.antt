use Rattle.std.proofs.Common.{map, sym, ap, subst, ◌++◌, ◌∙◌, arith}
use Rattle.flow_tree.specs.DeclView.{decl_of}
use Rattle.flow_class.specs.View.{class_of}
use Rattle.flow_valid.specs.Heads.{head_of}
use Rattle.flow_validate.specs.Sizes.{AreFew}
use Rattle.flow_validate.specs.PlaceNames.{AreEnoughFor}
use Rattle.flow_validate.proofs.Whole.{within_all}
use Rattle.flow_validate.proofs.validate.gather.Goals as goal

pub place_names-requires : goal.place_names-requires
place_names-requires c = subst (λ l. AreFew (map class_of l)) (sym c.deref.ensures.value) c.requires.few

pub returns-clause-ready : goal.returns-clause-ready
returns-clause-ready c =
    let plain = c.add_functions.new.decls in
    let places = c.in_ok-places.places in
    let heads = c.in_ok-add_heads.ensures ∙ ap (λ l. map decl_of plain.items ++ map head_of (map class_of l)) c.deref-2.ensures.value in
    let within = within_all c.args.raw c.add_heads.new.decls.items plain.items heads in
    record {
      within = omega (arith, within, c.len-count.ensures, plain.ok.0);
      few = c.requires.few;
      many = c.requires.many;
      packet = c.in_ok-packet.ensures;
      places = subst (λ l. AreEnoughFor places.slots.items places.locals.items (map class_of l)) c.deref.ensures.value c.in_ok-places.ensures;
    }
