use Rattle.std.proofs.Common.{◌≡◌, ◌++◌, ◌∷◌, [], List, ℕ, length, map, ap, ◌∙◌, arith}
use Rattle.std.proofs.lemmas.List.{append_assoc}
use Rattle.flow_class.specs.declared.class.Instr.{Instr}
use Rattle.flow_class.specs.View.{class_of, block_of, instr_of}
use Rattle.flow_validate.specs.declared.touch.Touch.{Touch}
use Rattle.flow_validate.specs.Small.{small_block, small_body, small_last}
use Rattle.flow_validate.proofs.Joining.{joined_more}
use Rattle.flow_validate.proofs.touch.Touches.add.Goals as goal

pub returns : goal.returns
returns c =
    λ before h.
    let class = class_of c.args.class.now in
    let b = block_of c.args.block.now in
    let t = c.args.self.now in
    let body = c.in_ok-add_body.ensures ∙ ap (λ (l : List Instr). t.all.items ++ small_body (map instr_of l)) c.deref.ensures.value in
    let put =
    c.in_ok-add_last.ensures ∙ ap (λ (l : List Touch). l ++ small_last class b.last) body
    ∙ append_assoc t.all.items (small_body b.body) (small_last class b.last) in
    let many : c.len.result ≡ length c.add_last.new.touches.items = omega (arith, c.len.ensures) in
    let ended = c.in_ok-push.ensures.items ∙ ap (λ (n : ℕ). t.ends.items ++ n ∷ []) many in
    joined_more t before (small_block class b) c.add_last.new.touches.items c.push.new.self.items h put ended
