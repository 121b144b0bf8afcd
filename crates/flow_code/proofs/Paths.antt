-- Paths taken apart at their last name.
use Rattle.std.proofs.Common.{◌≡◌, List, [], ◌∷◌, ◌++◌, ap, refl, sym, ◌∙◌}
use Rattle.flow_tree.specs.declared.ty.Ident.{Ident}
use Rattle.flow_ast.specs.TypingNames.{named, method_names}
use Rattle.flow_code.specs.Resolved.Tree.{Nodes}
use Rattle.flow_code.specs.Classes.{InstructionTree}
use Rattle.flow_code.specs.Coding.{Coding, before_last, last_name, act_code, aimed, method_code}

before_is : (x : Ident) (ps : List Ident) (l : Ident) → before_last x (ps ++ l ∷ []) ≡ x ∷ ps
before_is x [] l = refl
before_is x (p ∷ ps) l = ap (λ r. x ∷ r) (before_is p ps l)

last_is : (x : Ident) (ps : List Ident) (l : Ident) → last_name x (ps ++ l ∷ []) ≡ l
last_is x [] l = refl
last_is x (p ∷ ps) l = last_is p ps l

method_is : (c : Coding) (es : Nodes) (path before ps : List Ident) (x l : Ident) → path ≡ before ++ l ∷ [] → before ≡ x ∷ ps
    → act_code c path es ≡ method_code (aimed c (x ∷ ps)) (named method_names l.name) es
method_is c es path before ps x l e f = ap (λ p. act_code c p es) (e ∙ ap (λ b. b ++ l ∷ []) f) ∙ by ps
  where
    by : (ps : List Ident) → act_code c ((x ∷ ps) ++ l ∷ []) es ≡ method_code (aimed c (x ∷ ps)) (named method_names l.name) es
    by [] = refl
    by (p ∷ ps) =
        ap (λ q. method_code (aimed c (x ∷ q)) (named method_names (last_name p (ps ++ l ∷ [])).name) es) (before_is p ps l)
        ∙ ap (λ (n : Ident). method_code (aimed c (x ∷ p ∷ ps)) (named method_names n.name) es) (last_is p ps l)

pub method_coded : (c : Coding) (i : InstructionTree) (es : Nodes) (path before ps : List Ident) (x l : Ident) → path ≡ before ++ l ∷ [] → before ≡ x ∷ ps
    → i ≡ method_code (aimed c (x ∷ ps)) (named method_names l.name) es
    → i ≡ act_code c path es
method_coded c i es path before ps x l e f is = is ∙ sym (method_is c es path before ps x l e f)
