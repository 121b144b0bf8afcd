use Rattle.std.proofs.Common.{cond, ◌++◌, ◌∷◌, [], is_ok, ◌∙◌, arith, subst, Some, ap, length-drop}
use Rattle.flow_lex.specs.Next.{PieceAt}
use Rattle.flow_lex.proofs.Pieces.{inside_start, inside_next}
use Rattle.flow_lex.proofs.quoted.inside.Goals as goal

pub loop-b-init : goal.loop-b-init
loop-b-init c = record { within = omega arith; inside = inside_start c.new-held.result.items c.new-held.ensures.items }

pub loop-b-preserved : goal.loop-b-preserved
loop-b-preserved c =
    let piece = subst (λ w. PieceAt w (Some (c.in-Some.b, c.in-Some.length))) c.after.ensures c.in-Some.ensures in
    record {
      within = omega (arith, piece.1, length-drop c.loop-b.n c.args.text.now, c.loop-b.invariant.within);
      inside = inside_next c.args.text.now c.loop-b.held.items c.push.new.self.items c.loop-b.n c.in-Some.length c.in-Some.b c.loop-b.invariant.within c.loop-b.invariant.inside piece
          (c.push.ensures.items ∙ ap (λ b. cond b (c.loop-b.held.items ++ c.in-Some.b ∷ []) c.loop-b.held.items) (ap is_ok c.in_ok-push.was));
    }
