use Rattle.std.proofs.Common.{◌≡◌, List, map, take, sym, ap, ap₂, ◌∙◌}
use Rattle.std.proofs.lemmas.List.{take-map}
use Rattle.flow_tree.specs.declared.ty.Ident.{Ident}
use Rattle.flow_tree.specs.Tree.{TypeTree}
use Rattle.flow_tree.specs.Canon.{first_place}
use Rattle.flow_tree.specs.Decls.{ParamTree, DeclTree, ActorDecl}
use Rattle.flow_tree.specs.declared.decl.Slot.{Slot}
use Rattle.flow_tree.specs.declared.stmt.Stmt.{Stmt}
use Rattle.flow_tree.specs.DeclView.{slot_of}
use Rattle.flow_tree.specs.StmtView.{body_of}
use Rattle.flow_valid.specs.Heads.{slot_param}
use Rattle.flow_validate.proofs.decls.head_of.Goals as goal

abbrev head : TypeTree → Ident → List ParamTree → List Stmt → DeclTree
head t n ps b = ActorDecl (record { at = first_place; returns = t; name = n; params = ps; body = body_of b; close = first_place })

alike : (t u : TypeTree) (n m : Ident) (ps qs : List ParamTree) (b d : List Stmt) → t ≡ u → n ≡ m → ps ≡ qs → b ≡ d → head t n ps b ≡ head u m qs d
alike t u n m ps qs b d e f g h = ap₂ (λ (x : TypeTree) (y : Ident). head x y ps b) e f ∙ ap₂ (λ (x : List ParamTree) (y : List Stmt). head u m x y) g h

pub returns : goal.returns
returns c =
    alike _ _ _ _ _ _ _ _ c.in_ok-copy_result.ensures c.in_ok-ident.ensures
    (c.in_ok-slot_params.ensures ∙ ap (λ (l : List Slot). map slot_param (map slot_of l)) (c.first_slots.ensures ∙ ap (take c.args.class.now.params) c.deref.ensures.value)
    ∙ ap (map slot_param) (sym (take-map slot_of c.args.class.now.params c.args.class.now.slots.items)))
    c.new.ensures.items
