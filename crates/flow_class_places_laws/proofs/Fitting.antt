-- Whether the expressions of a class fit doesn't depend on places, nor which rule is broken first.
use Rattle.std.proofs.Common.{◌≡◌, List, [], ◌∷◌, ◌++◌, Bool, true, false, ◌&&◌, map, refl, ap, ap₂, ◌∙◌}
use Rattle.std.specs.Prelude.{is_none}
use Rattle.std.specs.List.{list_all}
use Rattle.std.specs.declared.option.Option.{Option}
use Rattle.std.specs.declared.option.Option.TheVariants.{None, Some}
use Rattle.flow_tree.specs.declared.ty.Ident.{Ident}
use Rattle.flow_tree.specs.Tree.{TypeTree, BoolType, ErrorType, ExprTree, CallExpr}
use Rattle.flow_tree.specs.Canon.{placeless_ident, placeless_expr}
use Rattle.flow_rules.specs.Least.{lesser}
use Rattle.flow_rules.specs.Judged.{Setting}
use Rattle.flow_rules.specs.Items.{assigned}
use Rattle.flow_class.specs.declared.class.Slotted.{Slotted}
use Rattle.flow_class.specs.Classes.{InstrTree, SetInstr, EffectInstr, NewInstr, ActInstr, DropInstr, LastTree, GotoLast, PassLast, TestLast, ChooseLast, ReturnLast, ThrowLast, BlockTree, CallbackTree, ClassTree, RawTree}
use Rattle.flow_meaning.specs.Placeless.{placeless_instr, placeless_last, placeless_block, placeless_callback, placeless_class, placeless_classes}
use Rattle.flow_valid.specs.declared.rule.ClassRule.{ClassRule}
use Rattle.flow_valid.specs.declared.rule.ClassRule.TheVariants as rule
use Rattle.flow_valid.specs.Named.{names_exist}
use Rattle.flow_valid.specs.Validity.{leads_forward, groups_chosen, catchers_kept, slot_rows, local_rows, class_setting, is_effect, put_fault, is_made, operand_type, has_type, instr_fits, last_fits, operand_fits, taken_type, callback_fits, block_fits, types_fit, first_broken, broken_rule}
use Rattle.flow_class_places_laws.proofs.Parts.{list_all_over}
use Rattle.flow_class_places_laws.proofs.Expressions.{form_aside, fault_aside, wanted_aside}
use Rattle.flow_class_places_laws.proofs.Statements.{target_form_aside, target_fault_aside, call_aside}
use Rattle.flow_class_places_laws.proofs.Declarations.{top_setting}
use Rattle.flow_class_places_laws.proofs.Naming.{type_aside, names_aside, forward_aside, catches_aside, chosen_aside}

module _ (s : Setting) where
  put_aside : (effect : Bool) (xs : List Ident) (e : ExprTree) → put_fault s effect (map placeless_ident xs) (placeless_expr e) ≡ put_fault s effect xs e
  put_aside effect xs e =
      ap₂ (λ k n. lesser k n) (ap₂ (λ k n. lesser k n) (target_fault_aside s xs) (fault_aside s effect e))
      (ap₂ (λ t u. assigned t u) (form_aside s e) (target_form_aside s xs))

  effect_aside : (e : ExprTree) → is_effect s (placeless_expr e) ≡ is_effect s e
  effect_aside (CallExpr f es) = refl
  effect_aside _ = refl

  type_same : (effect : Bool) (e : ExprTree) (t : TypeTree) → has_type s effect (placeless_expr e) t ≡ has_type s effect e t
  type_same effect e t = ap (λ k. is_none k) (wanted_aside s effect e t)

module _ (c : ClassTree) (s : Setting) where
  instr_aside : (i : InstrTree) → instr_fits (placeless_class c) s (placeless_instr i) ≡ instr_fits c s i
  instr_aside (SetInstr xs e) = ap (λ k. is_none k) (put_aside s false xs e)
  instr_aside (EffectInstr xs e) = ap₂ (λ x k. x && is_none k) (effect_aside s e) (put_aside s true xs e)
  instr_aside (NewInstr p) = ap (λ (t : Slotted → Option TypeTree). is_made (t p)) (type_aside c)
  instr_aside (ActInstr xs es) = ap (λ k. is_none k) (call_aside s xs es)
  instr_aside (DropInstr ns) = refl

  last_aside : (l : LastTree) → last_fits (placeless_class c) s (placeless_last l) ≡ last_fits c s l
  last_aside (GotoLast b) = refl
  last_aside (PassLast b) = refl
  last_aside (TestLast e b n) = type_same s false e BoolType
  last_aside (ChooseLast g) = refl
  last_aside (ReturnLast None) = refl
  last_aside (ReturnLast (Some e)) = type_same s false e c.returns
  last_aside (ThrowLast e) = type_same s false e ErrorType

  block_aside : (b : BlockTree) → block_fits (placeless_class c) s (placeless_block b) ≡ block_fits c s b
  block_aside b =
      ap₂ (λ x y. x && y) (list_all_over (instr_fits (placeless_class c) s) (instr_fits c s) placeless_instr instr_aside b.body) (last_aside b.last)

  taken_aside : (o : Option Slotted) → taken_type (placeless_class c) s o ≡ taken_type c s o
  taken_aside None = refl
  taken_aside (Some p) = ap (λ (t : Slotted → Option TypeTree). t p) (type_aside c)

  operand_aside : (k : CallbackTree) (o : Option TypeTree) → operand_fits (placeless_class c) s (placeless_callback k) o ≡ operand_fits c s k o
  operand_aside k None = refl
  operand_aside k (Some t) = type_same s true k.operand (operand_type k.next t)

  callback_aside : (k : CallbackTree) → callback_fits (placeless_class c) s (placeless_callback k) ≡ callback_fits c s k
  callback_aside k =
      ap (λ o. operand_fits (placeless_class c) s (placeless_callback k) o) (taken_aside k.into) ∙ operand_aside k (taken_type c s k.into)

  abbrev fits : Bool
  fits = list_all (block_fits c s) c.blocks && list_all (list_all (callback_fits c s)) c.groups

  fits_aside :
      (list_all (block_fits (placeless_class c) s) (map placeless_block c.blocks)
      && list_all (list_all (callback_fits (placeless_class c) s)) (map (map placeless_callback) c.groups)) ≡ fits
  fits_aside =
      ap₂ (λ x y. x && y) (list_all_over (block_fits (placeless_class c) s) (block_fits c s) placeless_block block_aside c.blocks)
      (list_all_over (list_all (callback_fits (placeless_class c) s)) (list_all (callback_fits c s)) (map placeless_callback)
      (λ ks. list_all_over (callback_fits (placeless_class c) s) (callback_fits c s) placeless_callback callback_aside ks) c.groups)

class_setting_aside : (r : RawTree) (c : ClassTree) → class_setting (placeless_classes r) (placeless_class c) ≡ class_setting r c
class_setting_aside r c =
    ap (λ (s : Bool → Setting). record (s false) { vars = slot_rows 0 c.slots ++ local_rows 0 c.locals }) (top_setting r)

types_aside : (r : RawTree) (c : ClassTree) → types_fit (placeless_classes r) (placeless_class c) ≡ types_fit r c
types_aside r c = ap (λ s. fits (placeless_class c) s) (class_setting_aside r c) ∙ fits_aside c (class_setting r c)

-- the first rule that a class breaks
abbrev first_of : (names forward groups catchers types : Bool) → Option ClassRule
first_of n f g c t = first_broken ((rule.Names, n) ∷ (rule.Edges, f) ∷ (rule.Groups, g) ∷ (rule.Catchers, c) ∷ (rule.Types, t) ∷ [])

pub rule_aside : (r : RawTree) (c : ClassTree) → broken_rule (placeless_classes r) (placeless_class c) ≡ broken_rule r c
rule_aside r c =
    ap₂ (λ n f. first_of n f (groups_chosen (placeless_class c)) (catchers_kept (placeless_class c)) (types_fit (placeless_classes r) (placeless_class c)))
    (names_aside c) (forward_aside c)
    ∙ ap₂ (λ g k. first_of (names_exist c) (leads_forward c) g k (types_fit (placeless_classes r) (placeless_class c))) (chosen_aside c) (catches_aside c)
    ∙ ap (λ t. first_of (names_exist c) (leads_forward c) (groups_chosen c) (catchers_kept c) t) (types_aside r c)
