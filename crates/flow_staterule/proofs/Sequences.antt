-- Ways out of bodies that follow one another.
use Rattle.std.proofs.Common.{◌≡◌, sym, ap, ap₂, ◌∙◌, rules}
use Rattle.flow_staterule.specs.declared.ways.Reached.{Reached}
use Rattle.flow_staterule.specs.declared.ways.Ways.{Ways}
use Rattle.flow_staterule.specs.Ways.{never, onward, either, node, both, sequence, empty}

onward_assoc : (r s t : Reached) → onward (onward r s) t ≡ onward r (onward s t)
onward_assoc r s t = grind rules

onward_either : (r s t : Reached) → onward r (either s t) ≡ either (onward r s) (onward r t)
onward_either r s t = grind rules

either_assoc : (r s t : Reached) → either (either r s) t ≡ either r (either s t)
either_assoc r s t = grind rules

-- a way out of the first, the second or the third of three bodies
any_of_three : (w r s a b : Reached) → either (either w (onward r a)) (onward (onward r s) b) ≡ either w (onward r (either a (onward s b)))
any_of_three w r s a b =
    ap (λ x. either (either w (onward r a)) x) (onward_assoc r s b) ∙ either_assoc w (onward r a) (onward r (onward s b)) ∙ ap (λ x. either w x) (sym (onward_either r a (onward s b)))

abbrev of : (ends breaks continues throws : Reached) → Ways
of a b c d = record { ends = a; breaks = b; continues = c; throws = d }

same_ways : {a b c d e f g h : Reached} → a ≡ e → b ≡ f → c ≡ g → d ≡ h → of a b c d ≡ of e f g h
same_ways {a} {b} {c} {d} {e} {f} {g} {h} p q r s = ap₂ (λ x y. of x y c d) p q ∙ ap₂ (λ x y. of e f x y) r s

pub sequence_assoc : (w v u : Ways) → sequence (sequence w v) u ≡ sequence w (sequence v u)
sequence_assoc w v u =
    same_ways
    (onward_assoc w.ends v.ends u.ends)
    (any_of_three w.breaks w.ends v.ends v.breaks u.breaks)
    (any_of_three w.continues w.ends v.ends v.continues u.continues)
    (any_of_three w.throws w.ends v.ends v.throws u.throws)

pub sequence_empty : (w : Ways) → sequence w empty ≡ w
sequence_empty w = grind rules

pub both_assoc : (w v u : Ways) → both (both w v) u ≡ both w (both v u)
both_assoc w v u =
    same_ways (either_assoc w.ends v.ends u.ends) (either_assoc w.breaks v.breaks u.breaks) (either_assoc w.continues v.continues u.continues) (either_assoc w.throws v.throws u.throws)

pub both_none : (w : Ways) → both w (node never) ≡ w
both_none w = grind rules
