use Rattle.std.proofs.Common.{◌≡◌, ℕ, List, [], ◌∷◌, ◌++◌, refl, ap, ◌∙◌, append_assoc}
use Rattle.flow_tree.specs.Canon.{indent, line}
use Rattle.flow_show.proofs.source.Source.put_catch.Goals as goal

-- a line of a text between two others
framed_line : (k : ℕ) (old s0 s1 s2 s3 s4 a w b : List ℕ) → s0 ≡ old ++ indent k → s1 ≡ s0 ++ a → s2 ≡ s1 ++ w → s3 ≡ s2 ++ b → s4 ≡ s3 ++ 10 ∷ [] → s4 ≡ old ++ line k (a ++ w ++ b)
framed_line k old s0 s1 s2 s3 s4 a w b e0 e1 e2 e3 e4 = rw (e4, e3, e2, e1, e0) (simp append_assoc refl)

pub returns : goal.returns
returns c =
    framed_line c.args.level _ _ _ _ _ _ _ _ _ c.in_ok-put_indent.ensures c.in_ok-put.ensures (c.in_ok-put-2.ensures ∙ ap (λ l. c.put.new.self ++ l) c.bytes.ensures.bytes)
    c.in_ok-put-3.ensures c.in_ok-put-4.ensures
