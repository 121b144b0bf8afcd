-- What an instruction of the code is coded from, and its parts.
use Rattle.std.proofs.Common.{◌≡◌, ◌⊎◌, inl, inr, ℕ, List, [], ◌∷◌, refl, sym, subst}
use Rattle.std.specs.declared.option.Option.{Option}
use Rattle.std.specs.declared.option.Option.TheVariants.{Some}
use Rattle.flow_ast.specs.TypingNames.{named, call_names}
use Rattle.flow_tree.specs.declared.ty.Ident.{Ident}
use Rattle.flow_tree.specs.Tree.{ExprTree, ExprTrees, returned_expr}
use Rattle.flow_class.specs.declared.class.Slotted.{Slotted}
use Rattle.flow_class.specs.Classes.{InstrTree, SetInstr, NewInstr, ActInstr, DropInstr, LastTree, GotoLast, PassLast, TestLast, ChooseLast, ReturnLast, ThrowLast, ClassTree}
use Rattle.flow_code.specs.Resolved.Tree.{Node, EmptyNode}
use Rattle.flow_code.specs.Resolved.Resolving.{resolved, resolved_all}
use Rattle.flow_code.specs.declared.class.Act.TheVariants as act
use Rattle.flow_code.specs.Classes.{AimTree, InstructionTree, SetCode, NewCode, ActCode, DropCode, EndTree, GotoEnd, PassEnd, TestEnd, ChooseEnd, ReturnEnd, ThrowEnd}
use Rattle.flow_code.specs.Coding.{Coding, act_named, aimed, places, ended}
use Rattle.flow_code.specs.Places.{place_of}
use Rattle.flow_step_refinement.specs.Decoding.{CodedFrom, from_set, from_effect, from_new, from_vector, from_act, from_method, from_drop, from_none}

-- an assignment is that of the text, or puts a new vector into a place
abbrev pub SetFrom : Coding → InstrTree → AimTree → Node → Type 0
SetFrom c text a n = (xs : List Ident) × (e : ExprTree) × (text ≡ SetInstr xs e) × (aimed c xs ≡ Some a) × (n ≡ resolved c.names e)

abbrev pub VectorFrom : Coding → InstrTree → AimTree → Node → Type 0
VectorFrom c text a n = (q : Slotted) × (text ≡ NewInstr q) × (place_of c.slots q ≡ Some a.place) × (a.path ≡ []) × (n ≡ EmptyNode)

-- of an assignment, a new cell, a call of a plain function and a drop
abbrev pub PartsOf : Coding → InstrTree → InstructionTree → Type 0
PartsOf c text (SetCode a n) = SetFrom c text a n ⊎ VectorFrom c text a n
PartsOf c text (NewCode n k) = (q : Slotted) × (text ≡ NewInstr q) × (place_of c.slots q ≡ Some n)
PartsOf c text (ActCode (act.Function k) es) =
    (g : Ident) × (us : ExprTrees) × (text ≡ ActInstr (g ∷ []) us)
    × (act_named (named call_names g.name) (c.names.function g.name) (c.class g.name) ≡ Some (act.Function k)) × (es ≡ resolved_all c.names us)
PartsOf c text (DropCode ps) = (ns : List ℕ) × (text ≡ DropInstr ns) × (ps ≡ places c ns)
PartsOf c text _ = Unit {0}

pub parts_of : (c : Coding) (t : ClassTree) (text : InstrTree) (code : InstructionTree) → CodedFrom c t text code → PartsOf c text code
parts_of c t text code (from_set xs e a is aims same) = subst (PartsOf c text) (sym same) (inl (xs, e, is, aims, refl))
parts_of c t text code (from_effect xs e a f is aims effect same) = subst (PartsOf c text) (sym same) tt
parts_of c t text code (from_new q n u k is place typed kind same) = subst (PartsOf c text) (sym same) (q, is, place)
parts_of c t text code (from_vector q n u is place typed same) = subst (PartsOf c text) (sym same) (inr (q, is, place, refl, refl))
parts_of c t text code (from_act f es (act.Function k) is named same) = subst (PartsOf c text) (sym same) (f, es, is, named, refl)
parts_of c t text code (from_act f es (act.World p) is named same) = subst (PartsOf c text) (sym same) tt
parts_of c t text code (from_act f es (act.Actor k) is named same) = subst (PartsOf c text) (sym same) tt
parts_of c t text code (from_method x y ys es a m is aims named same) = subst (PartsOf c text) (sym same) tt
parts_of c t text code (from_drop ns is same) = subst (PartsOf c text) (sym same) (ns, is, refl)
parts_of c t text code (from_none same) = subst (PartsOf c text) (sym same) tt

-- what the end of a block is coded from
abbrev pub EndOf : Coding → LastTree → EndTree → Type 0
EndOf c text (GotoEnd b) = text ≡ GotoLast b
EndOf c text (PassEnd b) = text ≡ PassLast b
EndOf c text (TestEnd n a b) = (t : ExprTree) × (text ≡ TestLast t a b) × (n ≡ resolved c.names t)
EndOf c text (ChooseEnd g) = text ≡ ChooseLast g
EndOf c text (ReturnEnd n) = (t : Option ExprTree) × (text ≡ ReturnLast t) × (n ≡ resolved c.names (returned_expr t))
EndOf c text (ThrowEnd n) = (t : ExprTree) × (text ≡ ThrowLast t) × (n ≡ resolved c.names t)

pub end_from : (c : Coding) (text : LastTree) → EndOf c text (ended c text)
end_from c (GotoLast b) = refl
end_from c (PassLast b) = refl
end_from c (TestLast t a b) = (t, refl, refl)
end_from c (ChooseLast g) = refl
end_from c (ReturnLast t) = (t, refl, refl)
end_from c (ThrowLast t) = (t, refl, refl)
