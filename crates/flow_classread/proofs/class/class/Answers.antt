use Rattle.std.proofs.lemmas.Result.{err_from_is_err_and}
use Rattle.flow_tree.specs.declared.limits.TheConstants.{OF_CLASS_TEXT}
use Rattle.flow_parse.proofs.Leaves.{done, fails, first_fails, then_reads, nothing, narrow}
use Rattle.flow_classread.proofs.Combine.{behind_fails, behind_reads, closed_fails, closed_reads}
use Rattle.flow_tree.specs.declared.token.Token.TheVariants as token
use Rattle.flow_tree.specs.declared.token.Sign.TheVariants as sign
use Rattle.flow_parse.specs.Reading.{token_at, Any}
use Rattle.std.specs.Prelude.{codes}
use Rattle.flow_parse.specs.Follow.{NotBefore}
use Rattle.std.proofs.Common.{refl}
use Rattle.flow_classprint.specs.ClassGrammar.{ClassRule}
use Rattle.flow_classread.proofs.ClassForms.{class_turns, some_after_class, class_name_link, some_after_returns, class_type_link, some_after_params, class_params_link, some_class_body, slots_link, locals_link, blocks_end_link}
use Rattle.flow_classread.proofs.class.class.Goals as goal

pub returns-in_err-at-clause-reads : goal.returns-in_err-at-clause-reads
returns-in_err-at-clause-reads c =
    let t = c.args.tokens.now in
    let l = narrow OF_CLASS_TEXT t.spots.items refl (class_turns c.args.version (token_at t.spots.items c.args.at)) (nothing OF_CLASS_TEXT t.spots.items (ClassRule c.args.version) Any c.args.at c.requires.within) in
    let p = err_from_is_err_and c.from_residual.result c.from_residual.ensures.1 in
    rw (p.1, p.2) (behind_fails t (token.Name (codes "class")) (some_after_class c.args.version) l _ c.in_err-at.ensures.reads)

pub returns-in_err-name-clause-reads : goal.returns-in_err-name-clause-reads
returns-in_err-name-clause-reads c =
    let t = c.args.tokens.now in
    let l = behind_reads t (token.Name (codes "class")) (some_after_class c.args.version)
    (narrow OF_CLASS_TEXT t.spots.items refl (class_turns c.args.version (token_at t.spots.items c.args.at)) (nothing OF_CLASS_TEXT t.spots.items (ClassRule c.args.version) Any c.args.at c.requires.within))
    c.in_ok-at.ensures.reads in
    let p = err_from_is_err_and c.from_residual-in_err-name.result c.from_residual-in_err-name.ensures.1 in
    rw (p.1, p.2) (first_fails OF_CLASS_TEXT t (class_name_link c.args.version) l _ (c.in_err-name.ensures.reads OF_CLASS_TEXT))

pub returns-in_err-at-2-clause-reads : goal.returns-in_err-at-2-clause-reads
returns-in_err-at-2-clause-reads c =
    let t = c.args.tokens.now in
    let l = then_reads OF_CLASS_TEXT t.spots.items (class_name_link c.args.version)
    (behind_reads t (token.Name (codes "class")) (some_after_class c.args.version)
    (narrow OF_CLASS_TEXT t.spots.items refl (class_turns c.args.version (token_at t.spots.items c.args.at)) (nothing OF_CLASS_TEXT t.spots.items (ClassRule c.args.version) Any c.args.at c.requires.within))
    c.in_ok-at.ensures.reads) (c.in_ok-name.ensures.reads OF_CLASS_TEXT) in
    let p = err_from_is_err_and c.from_residual-in_err-at-2.result c.from_residual-in_err-at-2.ensures.1 in
    rw (p.1, p.2) (behind_fails t (token.Name (codes "returns")) (some_after_returns c.args.version) l _ c.in_err-at-2.ensures.reads)

pub returns-in_err-returns-clause-reads : goal.returns-in_err-returns-clause-reads
returns-in_err-returns-clause-reads c =
    let t = c.args.tokens.now in
    let l = behind_reads t (token.Name (codes "returns")) (some_after_returns c.args.version)
    (then_reads OF_CLASS_TEXT t.spots.items (class_name_link c.args.version) (behind_reads t (token.Name (codes "class")) (some_after_class c.args.version)
    (narrow OF_CLASS_TEXT t.spots.items refl (class_turns c.args.version (token_at t.spots.items c.args.at)) (nothing OF_CLASS_TEXT t.spots.items (ClassRule c.args.version) Any c.args.at c.requires.within))
    c.in_ok-at.ensures.reads) (c.in_ok-name.ensures.reads OF_CLASS_TEXT)) c.in_ok-at-2.ensures.reads in
    let p = err_from_is_err_and c.from_residual-in_err-returns.result c.from_residual-in_err-returns.ensures.1 in
    rw (p.1, p.2) (first_fails OF_CLASS_TEXT t (class_type_link c.args.version) l _ c.in_err-returns.ensures.reads)

pub returns-in_err-at-3-clause-reads : goal.returns-in_err-at-3-clause-reads
returns-in_err-at-3-clause-reads c =
    let t = c.args.tokens.now in
    let l = then_reads OF_CLASS_TEXT t.spots.items (class_type_link c.args.version)
    (behind_reads t (token.Name (codes "returns")) (some_after_returns c.args.version)
    (then_reads OF_CLASS_TEXT t.spots.items (class_name_link c.args.version) (behind_reads t (token.Name (codes "class")) (some_after_class c.args.version)
    (narrow OF_CLASS_TEXT t.spots.items refl (class_turns c.args.version (token_at t.spots.items c.args.at)) (nothing OF_CLASS_TEXT t.spots.items (ClassRule c.args.version) Any c.args.at c.requires.within))
    c.in_ok-at.ensures.reads) (c.in_ok-name.ensures.reads OF_CLASS_TEXT)) c.in_ok-at-2.ensures.reads) c.in_ok-returns.ensures.reads in
    let p = err_from_is_err_and c.from_residual-in_err-at-3.result c.from_residual-in_err-at-3.ensures.1 in
    rw (p.1, p.2) (behind_fails t (token.Name (codes "params")) (some_after_params c.args.version) l _ c.in_err-at-3.ensures.reads)

pub returns-in_err-params-clause-reads : goal.returns-in_err-params-clause-reads
returns-in_err-params-clause-reads c =
    let t = c.args.tokens.now in
    let l = behind_reads t (token.Name (codes "params")) (some_after_params c.args.version)
    (then_reads OF_CLASS_TEXT t.spots.items (class_type_link c.args.version) (behind_reads t (token.Name (codes "returns")) (some_after_returns c.args.version)
    (then_reads OF_CLASS_TEXT t.spots.items (class_name_link c.args.version) (behind_reads t (token.Name (codes "class")) (some_after_class c.args.version)
    (narrow OF_CLASS_TEXT t.spots.items refl (class_turns c.args.version (token_at t.spots.items c.args.at)) (nothing OF_CLASS_TEXT t.spots.items (ClassRule c.args.version) Any c.args.at c.requires.within))
    c.in_ok-at.ensures.reads) (c.in_ok-name.ensures.reads OF_CLASS_TEXT)) c.in_ok-at-2.ensures.reads) c.in_ok-returns.ensures.reads) c.in_ok-at-3.ensures.reads in
    let p = err_from_is_err_and c.from_residual-in_err-params.result c.from_residual-in_err-params.ensures.1 in
    rw (p.1, p.2) (first_fails OF_CLASS_TEXT t (class_params_link c.args.version) l _ c.in_err-params.ensures.reads)

pub returns-in_err-at-4-clause-reads : goal.returns-in_err-at-4-clause-reads
returns-in_err-at-4-clause-reads c =
    let t = c.args.tokens.now in
    let l = then_reads OF_CLASS_TEXT t.spots.items (class_params_link c.args.version)
    (behind_reads t (token.Name (codes "params")) (some_after_params c.args.version)
    (then_reads OF_CLASS_TEXT t.spots.items (class_type_link c.args.version) (behind_reads t (token.Name (codes "returns")) (some_after_returns c.args.version)
    (then_reads OF_CLASS_TEXT t.spots.items (class_name_link c.args.version) (behind_reads t (token.Name (codes "class")) (some_after_class c.args.version)
    (narrow OF_CLASS_TEXT t.spots.items refl (class_turns c.args.version (token_at t.spots.items c.args.at)) (nothing OF_CLASS_TEXT t.spots.items (ClassRule c.args.version) Any c.args.at c.requires.within))
    c.in_ok-at.ensures.reads) (c.in_ok-name.ensures.reads OF_CLASS_TEXT)) c.in_ok-at-2.ensures.reads) c.in_ok-returns.ensures.reads) c.in_ok-at-3.ensures.reads)
    c.in_ok-params.ensures.reads in
    let p = err_from_is_err_and c.from_residual-in_err-at-4.result c.from_residual-in_err-at-4.ensures.1 in
    rw (p.1, p.2) (behind_fails t (token.Sign sign.OpenCurly) (some_class_body c.args.version) l _ (c.in_err-at-4.ensures.reads OF_CLASS_TEXT))

pub returns-in_err-slots-clause-reads : goal.returns-in_err-slots-clause-reads
returns-in_err-slots-clause-reads c =
    let t = c.args.tokens.now in
    let l = behind_reads t (token.Sign sign.OpenCurly) (some_class_body c.args.version)
    (then_reads OF_CLASS_TEXT t.spots.items (class_params_link c.args.version) (behind_reads t (token.Name (codes "params")) (some_after_params c.args.version)
    (then_reads OF_CLASS_TEXT t.spots.items (class_type_link c.args.version) (behind_reads t (token.Name (codes "returns")) (some_after_returns c.args.version)
    (then_reads OF_CLASS_TEXT t.spots.items (class_name_link c.args.version) (behind_reads t (token.Name (codes "class")) (some_after_class c.args.version)
    (narrow OF_CLASS_TEXT t.spots.items refl (class_turns c.args.version (token_at t.spots.items c.args.at)) (nothing OF_CLASS_TEXT t.spots.items (ClassRule c.args.version) Any c.args.at c.requires.within))
    c.in_ok-at.ensures.reads) (c.in_ok-name.ensures.reads OF_CLASS_TEXT)) c.in_ok-at-2.ensures.reads) c.in_ok-returns.ensures.reads) c.in_ok-at-3.ensures.reads)
    c.in_ok-params.ensures.reads) (c.in_ok-at-4.ensures.reads OF_CLASS_TEXT) in
    let p = err_from_is_err_and c.from_residual-in_err-slots.result c.from_residual-in_err-slots.ensures.1 in
    rw (p.1, p.2) (first_fails OF_CLASS_TEXT t (slots_link c.args.version) l _ c.in_err-slots.ensures.reads)

pub returns-in_err-locals-clause-reads : goal.returns-in_err-locals-clause-reads
returns-in_err-locals-clause-reads c =
    let t = c.args.tokens.now in
    let l = then_reads OF_CLASS_TEXT t.spots.items (slots_link c.args.version) (behind_reads t (token.Sign sign.OpenCurly) (some_class_body c.args.version)
    (then_reads OF_CLASS_TEXT t.spots.items (class_params_link c.args.version) (behind_reads t (token.Name (codes "params")) (some_after_params c.args.version)
    (then_reads OF_CLASS_TEXT t.spots.items (class_type_link c.args.version) (behind_reads t (token.Name (codes "returns")) (some_after_returns c.args.version)
    (then_reads OF_CLASS_TEXT t.spots.items (class_name_link c.args.version) (behind_reads t (token.Name (codes "class")) (some_after_class c.args.version)
    (narrow OF_CLASS_TEXT t.spots.items refl (class_turns c.args.version (token_at t.spots.items c.args.at)) (nothing OF_CLASS_TEXT t.spots.items (ClassRule c.args.version) Any c.args.at c.requires.within))
    c.in_ok-at.ensures.reads) (c.in_ok-name.ensures.reads OF_CLASS_TEXT)) c.in_ok-at-2.ensures.reads) c.in_ok-returns.ensures.reads) c.in_ok-at-3.ensures.reads)
    c.in_ok-params.ensures.reads) (c.in_ok-at-4.ensures.reads OF_CLASS_TEXT)) c.in_ok-slots.ensures.reads in
    let p = err_from_is_err_and c.from_residual-in_err-locals.result c.from_residual-in_err-locals.ensures.1 in
    rw (p.1, p.2) (first_fails OF_CLASS_TEXT t (locals_link c.args.version) l _ c.in_err-locals.ensures.reads)

pub returns-in_err-blocks-clause-reads : goal.returns-in_err-blocks-clause-reads
returns-in_err-blocks-clause-reads c =
    let t = c.args.tokens.now in
    let l = then_reads OF_CLASS_TEXT t.spots.items (locals_link c.args.version) (then_reads OF_CLASS_TEXT t.spots.items (slots_link c.args.version)
    (behind_reads t (token.Sign sign.OpenCurly) (some_class_body c.args.version) (then_reads OF_CLASS_TEXT t.spots.items (class_params_link c.args.version)
    (behind_reads t (token.Name (codes "params")) (some_after_params c.args.version)
    (then_reads OF_CLASS_TEXT t.spots.items (class_type_link c.args.version) (behind_reads t (token.Name (codes "returns")) (some_after_returns c.args.version)
    (then_reads OF_CLASS_TEXT t.spots.items (class_name_link c.args.version) (behind_reads t (token.Name (codes "class")) (some_after_class c.args.version)
    (narrow OF_CLASS_TEXT t.spots.items refl (class_turns c.args.version (token_at t.spots.items c.args.at)) (nothing OF_CLASS_TEXT t.spots.items (ClassRule c.args.version) Any c.args.at c.requires.within))
    c.in_ok-at.ensures.reads) (c.in_ok-name.ensures.reads OF_CLASS_TEXT)) c.in_ok-at-2.ensures.reads) c.in_ok-returns.ensures.reads) c.in_ok-at-3.ensures.reads)
    c.in_ok-params.ensures.reads) (c.in_ok-at-4.ensures.reads OF_CLASS_TEXT)) c.in_ok-slots.ensures.reads) c.in_ok-locals.ensures.reads in
    let p = err_from_is_err_and c.from_residual-in_err-blocks.result c.from_residual-in_err-blocks.ensures.1 in
    rw (p.1, p.2) (first_fails OF_CLASS_TEXT t (blocks_end_link c.args.version) l _ c.in_err-blocks.ensures.reads)

pub returns-in_err-groups-clause-reads : goal.returns-in_err-groups-clause-reads
returns-in_err-groups-clause-reads c =
    let t = c.args.tokens.now in
    let l = then_reads OF_CLASS_TEXT t.spots.items (blocks_end_link c.args.version)
    (then_reads OF_CLASS_TEXT t.spots.items (locals_link c.args.version) (then_reads OF_CLASS_TEXT t.spots.items (slots_link c.args.version)
    (behind_reads t (token.Sign sign.OpenCurly) (some_class_body c.args.version) (then_reads OF_CLASS_TEXT t.spots.items (class_params_link c.args.version)
    (behind_reads t (token.Name (codes "params")) (some_after_params c.args.version)
    (then_reads OF_CLASS_TEXT t.spots.items (class_type_link c.args.version) (behind_reads t (token.Name (codes "returns")) (some_after_returns c.args.version)
    (then_reads OF_CLASS_TEXT t.spots.items (class_name_link c.args.version) (behind_reads t (token.Name (codes "class")) (some_after_class c.args.version)
    (narrow OF_CLASS_TEXT t.spots.items refl (class_turns c.args.version (token_at t.spots.items c.args.at)) (nothing OF_CLASS_TEXT t.spots.items (ClassRule c.args.version) Any c.args.at c.requires.within))
    c.in_ok-at.ensures.reads) (c.in_ok-name.ensures.reads OF_CLASS_TEXT)) c.in_ok-at-2.ensures.reads) c.in_ok-returns.ensures.reads) c.in_ok-at-3.ensures.reads)
    c.in_ok-params.ensures.reads) (c.in_ok-at-4.ensures.reads OF_CLASS_TEXT)) c.in_ok-slots.ensures.reads) c.in_ok-locals.ensures.reads) c.in_ok-blocks.ensures.reads in
    let p = err_from_is_err_and c.from_residual-in_err-groups.result c.from_residual-in_err-groups.ensures.1 in
    rw (p.1, p.2) (closed_fails t (token.Sign sign.CloseCurly) (NotBefore (token.Name (codes "group"))) (λ b p z e. absurd (cc)) l _ c.in_err-groups.ensures.reads)

pub returns-in_err-to-clause-reads : goal.returns-in_err-to-clause-reads
returns-in_err-to-clause-reads c =
    let t = c.args.tokens.now in
    let l = closed_reads t (token.Sign sign.CloseCurly) (NotBefore (token.Name (codes "group"))) (λ b p z e. absurd (cc))
    (then_reads OF_CLASS_TEXT t.spots.items (blocks_end_link c.args.version) (then_reads OF_CLASS_TEXT t.spots.items (locals_link c.args.version)
    (then_reads OF_CLASS_TEXT t.spots.items (slots_link c.args.version) (behind_reads t (token.Sign sign.OpenCurly) (some_class_body c.args.version)
    (then_reads OF_CLASS_TEXT t.spots.items (class_params_link c.args.version) (behind_reads t (token.Name (codes "params")) (some_after_params c.args.version)
    (then_reads OF_CLASS_TEXT t.spots.items (class_type_link c.args.version) (behind_reads t (token.Name (codes "returns")) (some_after_returns c.args.version)
    (then_reads OF_CLASS_TEXT t.spots.items (class_name_link c.args.version) (behind_reads t (token.Name (codes "class")) (some_after_class c.args.version)
    (narrow OF_CLASS_TEXT t.spots.items refl (class_turns c.args.version (token_at t.spots.items c.args.at)) (nothing OF_CLASS_TEXT t.spots.items (ClassRule c.args.version) Any c.args.at c.requires.within))
    c.in_ok-at.ensures.reads) (c.in_ok-name.ensures.reads OF_CLASS_TEXT)) c.in_ok-at-2.ensures.reads) c.in_ok-returns.ensures.reads) c.in_ok-at-3.ensures.reads)
    c.in_ok-params.ensures.reads) (c.in_ok-at-4.ensures.reads OF_CLASS_TEXT)) c.in_ok-slots.ensures.reads) c.in_ok-locals.ensures.reads) c.in_ok-blocks.ensures.reads)
    c.in_ok-groups.ensures.reads in
    let p = err_from_is_err_and c.from_residual-in_err-to.result c.from_residual-in_err-to.ensures.1 in
    rw (p.1, p.2) (fails OF_CLASS_TEXT t l _ (c.in_err-to.ensures.reads OF_CLASS_TEXT))

pub returns-clause-reads : goal.returns-clause-reads
returns-clause-reads c =
    let t = c.args.tokens.now in
    let l = closed_reads t (token.Sign sign.CloseCurly) (NotBefore (token.Name (codes "group"))) (λ b p z e. absurd (cc))
    (then_reads OF_CLASS_TEXT t.spots.items (blocks_end_link c.args.version) (then_reads OF_CLASS_TEXT t.spots.items (locals_link c.args.version)
    (then_reads OF_CLASS_TEXT t.spots.items (slots_link c.args.version) (behind_reads t (token.Sign sign.OpenCurly) (some_class_body c.args.version)
    (then_reads OF_CLASS_TEXT t.spots.items (class_params_link c.args.version) (behind_reads t (token.Name (codes "params")) (some_after_params c.args.version)
    (then_reads OF_CLASS_TEXT t.spots.items (class_type_link c.args.version) (behind_reads t (token.Name (codes "returns")) (some_after_returns c.args.version)
    (then_reads OF_CLASS_TEXT t.spots.items (class_name_link c.args.version) (behind_reads t (token.Name (codes "class")) (some_after_class c.args.version)
    (narrow OF_CLASS_TEXT t.spots.items refl (class_turns c.args.version (token_at t.spots.items c.args.at)) (nothing OF_CLASS_TEXT t.spots.items (ClassRule c.args.version) Any c.args.at c.requires.within))
    c.in_ok-at.ensures.reads) (c.in_ok-name.ensures.reads OF_CLASS_TEXT)) c.in_ok-at-2.ensures.reads) c.in_ok-returns.ensures.reads) c.in_ok-at-3.ensures.reads)
    c.in_ok-params.ensures.reads) (c.in_ok-at-4.ensures.reads OF_CLASS_TEXT)) c.in_ok-slots.ensures.reads) c.in_ok-locals.ensures.reads) c.in_ok-blocks.ensures.reads)
    c.in_ok-groups.ensures.reads in
    done OF_CLASS_TEXT t.spots.items l (c.in_ok-to.ensures.reads OF_CLASS_TEXT)
