-- Arguments, as far as the code has come.
use Rattle.std.proofs.Common.{◌≡◌, ℕ, zero, suc, ◌+◌, ◌<◌, List, [], ◌∷◌, ◌++◌, length, drop, get_or, refl, ap, sym, subst, ◌∙◌, arith, add-one, append_assoc}
use Rattle.std.specs.declared.result.Result.TheVariants.{Ok, Err}
use Rattle.flow_value.specs.Values.{ValueTree}
use Rattle.flow_eval.specs.declared.stop.Halt.{Halt}
use Rattle.flow_eval.specs.declared.stop.Halt.TheVariants as halt
use Rattle.flow_eval.specs.Eval.{Res, Done, Fails, Spent, Meaningless, then, more_args}
use Rattle.flow_eval.specs.View.{Gives, GivesAll}
use Rattle.flow_code.specs.declared.expr.expr.Resolved.{Resolved}
use Rattle.flow_code.specs.Resolved.Evaluation.{ActorViewTree, value_at, values_at}
use Rattle.flow_code.specs.Resolved.View.{node_of, nodes_of}

-- arguments so far, before those of the rest
abbrev pub prefixed : List ValueTree → Res (List ValueTree) → Res (List ValueTree)
prefixed vs r = then r (λ us left. Done (vs ++ us) left)

prefixed_more : (vs : List ValueTree) (v : ValueTree) (r : Res (List ValueTree)) → prefixed vs (then r (λ us left. Done (v ∷ us) left)) ≡ prefixed (vs ++ v ∷ []) r
prefixed_more vs v (Done us left) = ap (λ l. Done l left) (sym (append_assoc vs (v ∷ []) us))
prefixed_more vs v (Fails e left) = refl
prefixed_more vs v Spent = refl
prefixed_more vs v Meaningless = refl

pub prefixed_none : (r : Res (List ValueTree)) → prefixed [] r ≡ r
prefixed_none (Done us left) = refl
prefixed_none (Fails e left) = refl
prefixed_none Spent = refl
prefixed_none Meaningless = refl

args_stop : (vs : List ValueTree) (go : ℕ → Res (List ValueTree)) (r : Res ValueTree) (h : Halt) (left : ℕ) → Gives r (Err h) left → GivesAll (prefixed vs (more_args r go)) (Err h) left
args_stop vs go r (halt.Thrown e) left g = ap (λ r. prefixed vs (more_args r go)) g
args_stop vs go r halt.Spent left g = (ap (λ r. prefixed vs (more_args r go)) g.0, g.1)
args_stop vs go r halt.NoMeaning left g = ap (λ r. prefixed vs (more_args r go)) g
args_stop vs go r halt.OutOfMemory left g = tt

module _ (s : ActorViewTree) where
  args_at : (es : List Resolved) (i : ℕ) (d : Resolved) (left : ℕ) → i < length es
      → values_at s (nodes_of (drop i es)) left ≡ more_args (value_at s (node_of (get_or es i d)) left) (values_at s (nodes_of (drop (suc i) es)))
  args_at [] i d left lt = absurd (omega arith)
  args_at (e ∷ es) zero d left lt = refl
  args_at (e ∷ es) (suc i) d left lt = let lt' : i < length es = omega arith in args_at es i d left lt'

  pub args_more : (es : List Resolved) (i : ℕ) (d : Resolved) (vs : List ValueTree) (v : ValueTree) (left rest : ℕ) → i < length es
      → value_at s (node_of (get_or es i d)) left ≡ Done v rest
      → prefixed vs (values_at s (nodes_of (drop i es)) left) ≡ prefixed (vs ++ v ∷ []) (values_at s (nodes_of (drop (i + 1) es)) rest)
  args_more es i d vs v left rest lt e =
      rw add-one
      (ap (prefixed vs) (args_at es i d left lt)
      ∙ ap (λ r. prefixed vs (more_args r (values_at s (nodes_of (drop (suc i) es))))) e
      ∙ prefixed_more vs v (values_at s (nodes_of (drop (suc i) es)) rest))

  pub args_stopped : (es : List Resolved) (i : ℕ) (d : Resolved) (vs : List ValueTree) (q : Res (List ValueTree)) (h : Halt) (left rest : ℕ) → i < length es
      → q ≡ prefixed vs (values_at s (nodes_of (drop i es)) left) → Gives (value_at s (node_of (get_or es i d)) left) (Err h) rest → GivesAll q (Err h) rest
  args_stopped es i d vs q h left rest lt e g =
      subst (λ r. GivesAll r (Err h) rest) (sym (e ∙ ap (prefixed vs) (args_at es i d left lt)))
      (args_stop vs (values_at s (nodes_of (drop (suc i) es))) (value_at s (node_of (get_or es i d)) left) h rest g)
