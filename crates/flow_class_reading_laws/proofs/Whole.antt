-- What a text derives is written as the laws on runs ask of classes.
use Rattle.std.proofs.Common.{◌≡◌, ℕ, zero, suc, List, [], ◌∷◌, subst, arith}
use Rattle.std.specs.Prelude.{slice_get}
use Rattle.std.specs.List.{AllByRecursion}
use Rattle.std.specs.declared.option.Option.TheVariants.{Some}
use Rattle.flow_tree.specs.declared.ty.Ident.{Ident}
use Rattle.flow_tree.specs.Tree.{ExprTree}
use Rattle.flow_tree.specs.Body.{Body, ForStmt, AssignStmt, ModifyStmt, CallStmt}
use Rattle.flow_tree.specs.Decls.{RecordTree, RoutineTree}
use Rattle.flow_tree.specs.Folds.{EachStmt}
use Rattle.flow_tree.specs.Formed.{IsPath, IsFormed}
use Rattle.flow_tree.specs.GrammarToken.{Marked}
use Rattle.flow_tree.specs.declared.decl.RoutineKind.{RoutineKind}
use Rattle.flow_tree.specs.GrammarDecl.{routine, FunctionRule, function}
use Rattle.flow_tree.proofs.Folds.{each_follows}
use Rattle.flow_tree.proofs.Formed.{stmts_formed}
use Rattle.flow_class.specs.Classes.{InstrTree, LastTree, BlockTree, CallbackTree, ClassTree, RawTree}
use Rattle.flow_class.specs.Code as code
use Rattle.flow_class.specs.Code.{Last, Nothing, fetch_in, fetch_at, fetch}
use Rattle.flow_classprint.specs.declared.version.Version.{Version}
use Rattle.flow_classprint.specs.ClassGrammar.{VarPathRule, var_path, CalleeRule, callee, method, AssignRule, assign, InstrRule, set, effect, new, act, drop, InstrsRule, no_instrs, more_instrs, BlockRule, block, NumberedRule, none, next, GroupsRule, no_groups, more_groups, ClassRule, class, ClassesRule, no_classes, more_classes, HeadFunctionRule, function_rule, HeadsRule, no_heads, more_records, more_functions, TextRule, of_version, text}
use Rattle.flow_typing_laws.specs.ControlFlow.Laws.{IsSimpleFor}
use Rattle.flow_typing_laws.specs.Typing.Paths.{IsNamed}
use Rattle.flow_progress.specs.Written.{HasPath, HasBody, FunctionsWritten}
use Rattle.flow_invariants.specs.Unmarked.{HasCallback}
use Rattle.flow_classread.specs.ClassAnswer.{HaveSmallFrames}
use Rattle.flow_classread.proofs.Small.{small_frames}
use Rattle.flow_class_reading_laws.specs.Laws.{ReadsWhole}

-- paths
var_named : {all : List Marked} {xs : List Ident} → VarPathRule all xs → IsPath xs
var_named (var_path p e k r) = tt

callee_named : {all : List Marked} {xs : List Ident} → CalleeRule all xs → IsPath xs
callee_named (callee x) = tt
callee_named (method r) = tt

assign_named : {w : List ℕ} {all : List Marked} {xs : List Ident} {e : ExprTree} → AssignRule w all xs e → IsPath xs
assign_named (assign p q r path value v w e) = var_named v

instr_named : {all : List Marked} {i : InstrTree} → InstrRule all i → HasPath i
instr_named (set a) = assign_named a
instr_named (effect a) = assign_named a
instr_named (new to p q r k) = tt
instr_named (act p q r s path args c a f e) = callee_named c
instr_named (drop p q of l e) = tt

body_of : {i j : InstrTree} → code.Body i ≡ code.Body j → i ≡ j
body_of e = cc

-- what stands in a block, and in a class
instrs_named : (w : List Marked) (is : List InstrTree) (last : LastTree) → InstrsRule w is → (n : ℕ) (i : InstrTree) → fetch_in is last n ≡ code.Body i → HasPath i
instrs_named w [] last no_instrs zero i e = absurd cc
instrs_named w [] last no_instrs (suc n) i e = absurd cc
instrs_named w (j ∷ is) last (more_instrs first rest r more q) zero i e = subst HasPath (body_of e) (instr_named r)
instrs_named w (j ∷ is) last (more_instrs first rest r more q) (suc n) i e = instrs_named rest is last more n i e

block_named : {v : Version} (k : ℕ) (w : List Marked) (b : BlockTree) → BlockRule v k w b → (n : ℕ) (i : InstrTree) → fetch_in b.body b.last n ≡ code.Body i → HasPath i
block_named k w b (block {is = is} {l = l} p q r s caught body last m c d f e) n i h = instrs_named body is l d n i h

blocks_named : {v : Version} (k : ℕ) (w : List Marked) (bs : List BlockTree) → NumberedRule (BlockRule v) k w bs → (b n : ℕ) (i : InstrTree) → fetch_at (slice_get bs b) n ≡ code.Body i
    → HasPath i
blocks_named k w [] none b n i h = absurd cc
blocks_named k w (c ∷ bs) (next first rest r more e) zero n i h = block_named k first c r n i h
blocks_named k w (c ∷ bs) (next first rest r more e) (suc b) n i h = blocks_named (suc k) rest bs more b n i h

begins : (b : BlockTree) → fetch_in b.body b.last 0 ≡ Nothing → ⊥
begins b h = of b.body h
  where
    of : (is : List InstrTree) → fetch_in is b.last 0 ≡ Nothing → ⊥
    of [] e = cc
    of (i ∷ is) e = cc

groups_some : {g k : ℕ} {w : List Marked} {gs : List (List CallbackTree)} → GroupsRule g k w gs → AllByRecursion HasCallback gs
groups_some no_groups = tt
groups_some (more_groups p q r s of more k l c d e) = (tt, groups_some d)

record IsFromText (c : ClassTree) : Type 0 where
  begun : fetch c 0 0 ≡ Nothing → ⊥
  named : (b n : ℕ) (i : InstrTree) → fetch c b n ≡ code.Body i → HasPath i
  groups : AllByRecursion HasCallback c.groups

class_from : {v : Version} (w : List Marked) (c : ClassTree) → ClassRule v w c → IsFromText c
class_from w c (class {b = b} {bs = bs} p q r s u v z of slots locals blocks groups t k a l d f e) = record {
  begun = begins b;
  named = blocks_named 0 blocks (b ∷ bs) d;
  groups = groups_some f;
}

classes_from : {v : Version} (w : List Marked) (cs : List ClassTree) → ClassesRule v w cs → (k : ℕ) (c : ClassTree) → slice_get cs k ≡ Some c → IsFromText c
classes_from w [] no_classes k c h = absurd cc
classes_from w (d ∷ cs) (more_classes first rest r more e) zero c h = subst IsFromText (same h) (class_from first d r)
  where
    same : {x y : ClassTree} → Some x ≡ Some y → x ≡ y
    same q = cc
classes_from w (d ∷ cs) (more_classes first rest r more e) (suc k) c h = classes_from rest cs more k c h

-- functions
simple_for : (s : Body) → IsFormed s → IsSimpleFor s
simple_for (ForStmt at i e t b k) h = h
simple_for _ h = tt

named : (s : Body) → IsFormed s → IsNamed s
named (AssignStmt at xs e k) h = h
named (ModifyStmt at xs c k) h = h
named (CallStmt at xs es k) h = h
named _ h = tt

has_body : (f : RoutineTree) → EachStmt IsFormed f.body → HasBody f
has_body f h = (each_follows IsFormed IsSimpleFor simple_for f.body h, each_follows IsFormed IsNamed named f.body h)

function_formed : {home : RoutineKind} {w : List Marked} {f : RoutineTree} → FunctionRule home w f → EachStmt IsFormed f.body
function_formed (function at of xs t (routine p q r close x params body ps ss e) s z) = stmts_formed ss

function_from : {v : Version} {w : List Marked} {f : RoutineTree} → HeadFunctionRule v w f → HasBody f
function_from {f = f} (function_rule of d) = has_body f (function_formed d)

functions_from : {v : Version} (w : List Marked) (rs : List RecordTree) (fs : List RoutineTree) → HeadsRule v w rs fs → (k : ℕ) (f : RoutineTree) → slice_get fs k ≡ Some f → HasBody f
functions_from w [] [] no_heads k f h = absurd cc
functions_from w (r ∷ rs) fs (more_records first rest a more e) k f h = functions_from rest rs fs more k f h
functions_from w rs (g ∷ fs) (more_functions first rest a more e) zero f h = subst HasBody (same h) (function_from a)
  where
    same : {x y : RoutineTree} → Some x ≡ Some y → x ≡ y
    same q = cc
functions_from w rs (g ∷ fs) (more_functions first rest a more e) (suc k) f h = functions_from rest rs fs more k f h

-- whole texts
record IsAllFrom (raw : RawTree) : Type 0 where
  each : (k : ℕ) (c : ClassTree) → slice_get raw.classes k ≡ Some c → IsFromText c
  functions : FunctionsWritten raw

text_from : (w : List Marked) (raw : RawTree) → TextRule w raw → IsAllFrom raw
text_from w raw (of_version v (text p q heads classes h r e)) = record { each = classes_from classes raw.classes r; functions = functions_from heads raw.records raw.functions h }

pub reads_whole : ReadsWhole
reads_whole bytes raw t v =
    let a = text_from t.derives.marked raw t.derives.rule in
    let small : HaveSmallFrames raw = small_frames bytes raw t in
    record {
      valid = record {
        valid = v;
        written = λ k c h. record {
          begins = (a.each k c h).begun;
          slots = omega (arith, small k c h);
          locals = omega (arith, small k c h);
          paths = (a.each k c h).named;
        };
        functions = a.functions;
      };
      groups = λ k c h. (a.each k c h).groups;
    }
