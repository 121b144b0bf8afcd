-- The grammar of class text: a rule for each form. Its words are names, but for those that are words of programs too. Each thing is
-- numbered by its place; a number that numbers or names a thing of a class is below 2^32. In version 1 a class has a result, and each
-- `return` gives one, in a function too.
use Rattle.std.specs.Prelude.{◌≡◌, ℕ, suc, ◌+◌, ◌^◌, ◌<◌, ◌≤◌, pos, Bool, List, [], ◌∷◌, ◌++◌, length, codes}
use Rattle.std.specs.declared.option.Option.{Option}
use Rattle.std.specs.declared.option.Option.TheVariants.{None, Some}
use Rattle.flow_base.specs.declared.place.Place.{Place}
use Rattle.flow_tree.specs.declared.limits.TheConstants.{BRANCHES, OF_CLASS_TEXT}
use Rattle.flow_tree.specs.declared.token.Word.TheVariants as word
use Rattle.flow_tree.specs.declared.token.Sign.TheVariants as sign
use Rattle.flow_tree.specs.declared.token.Token.TheVariants as token
use Rattle.flow_tree.specs.declared.token.Token.{Token}
use Rattle.flow_tree.specs.declared.ty.Ident.{Ident}
use Rattle.flow_tree.specs.Tree.{TypeTree, NothingType, ExprTree, ExprTrees, IntExpr, TextExpr, BoolExpr, VoidExpr, VarExpr, CallExpr, FieldExpr, MethodExpr, NotExpr, NegExpr, BinaryExpr, ParenExpr, NoExprs, MoreExprs}
use Rattle.flow_tree.specs.Decls.{SlotTree, RecordTree, RoutineTree}
use Rattle.flow_tree.specs.Spelling.{Spells, IsBounded}
use Rattle.flow_tree.specs.GrammarToken.{Node, Marked, opens, begin, KeepsOf}
use Rattle.flow_tree.specs.Grammar.{sign_at, word_at, name_at, in_round, in_curly, TypeRule, ExprRule, ArgsRule}
use Rattle.flow_tree.specs.GrammarStmt.{PathRule, OperandRule}
use Rattle.flow_tree.specs.GrammarDecl.{RecordRule, FunctionRule}
use Rattle.flow_tree.specs.declared.decl.RoutineKind.{RoutineKind}
use Rattle.flow_tree.specs.declared.decl.RoutineKind.TheVariants.{Function, OldFunction}
use Rattle.flow_classprint.specs.declared.version.Version.{Version}
use Rattle.flow_classprint.specs.declared.version.Version.TheVariants.{One, Two}
use Rattle.flow_class.specs.declared.class.Slotted.{Slotted}
use Rattle.flow_class.specs.declared.class.Slotted.TheVariants.{Slot, Local}
use Rattle.flow_class.specs.Places.{place_name, place_named}
use Rattle.flow_class.specs.Classes.{CatcherTree, InstrTree, SetInstr, EffectInstr, NewInstr, ActInstr, DropInstr, LastTree, GotoLast, PassLast, TestLast, ChooseLast, ReturnLast, ThrowLast, BlockTree, CallbackTree, ClassTree, RawTree}

-- a version by its number, and of which kind its functions are
abbrev pub version_number : Version → ℕ
version_number One = 1
version_number Two = 2

abbrev pub functions_of : Version → RoutineKind
functions_of One = OldFunction
functions_of Two = Function

-- a word that is a name
abbrev pub said : List ℕ → Place → Marked
said w p = opens [] (token.Name w) p

-- a number of a thing
abbrev pub number_at : ℕ → Place → Marked
number_at n p = opens [] (token.Number (pos n)) p

abbrev pub IsNumber : ℕ → Type 0
IsNumber n = n < 2 ^ 32

-- a place of a frame whose number is one
abbrev pub IsPlace : Slotted → Type 0
IsPlace (Slot n) = IsNumber n
IsPlace (Local n) = IsNumber n

-- a name that names a place names one with such a number
abbrev pub IsFree : Option Slotted → Type 0
IsFree None = Unit {0}
IsFree (Some p) = IsPlace p

abbrev pub place_at : Slotted → Place → Marked
place_at p at = opens [] (token.Name (place_name p)) at

-- the variables of an expression are such names
abbrev mutual
  pub AreFree : ExprTree → Type 0
  AreFree (IntExpr n) = Unit {0}
  AreFree (TextExpr t) = Unit {0}
  AreFree (BoolExpr b) = Unit {0}
  AreFree VoidExpr = Unit {0}
  AreFree (VarExpr x) = IsFree (place_named x.name)
  AreFree (CallExpr f es) = AllAreFree es
  AreFree (FieldExpr e x) = AreFree e
  AreFree (MethodExpr e f es) = AreFree e × AllAreFree es
  AreFree (NotExpr e) = AreFree e
  AreFree (NegExpr e) = AreFree e
  AreFree (BinaryExpr op a b) = AreFree a × AreFree b
  AreFree (ParenExpr e) = AreFree e

  pub AllAreFree : ExprTrees → Type 0
  AllAreFree NoExprs = Unit {0}
  AllAreFree (MoreExprs e es) = AreFree e × AllAreFree es

-- a whole expression has depth 1
pub record WholeRule (all : List Marked) (e : ExprTree) : Type 0 where
  pub rule : ExprRule 0 1 all e
  pub free : AreFree e

-- a path that begins with a place
pub data VarPathRule : List Marked → List Ident → Type 0 where
  var_path : {all : List Marked} {x : Ident} {xs : List Ident} (p : Slotted)
      → place_named x.name ≡ Some p → IsPlace p → PathRule all (x ∷ xs)
      → VarPathRule all (x ∷ xs)

-- what is called by `act`: a name, or a path that begins with a place
pub data CalleeRule : List Marked → List Ident → Type 0 where
  callee : (x : Ident) → CalleeRule (name_at x ∷ []) (x ∷ [])
  method : {all : List Marked} {x y : Ident} {ys : List Ident} → VarPathRule all (x ∷ (y ∷ ys)) → CalleeRule all (x ∷ (y ∷ ys))

-- local { "," local }
pub data LocalsRule : List Marked → List ℕ → Type 0 where
  one : {n : ℕ} (p : Place) → IsNumber n → LocalsRule (place_at (Local n) p ∷ []) (n ∷ [])
  more : {n : ℕ} {ns : List ℕ} {all : List Marked} (p q : Place) (rest : List Marked)
      → IsNumber n → LocalsRule rest ns
      → all ≡ place_at (Local n) p ∷ sign_at sign.Comma q ∷ rest
      → LocalsRule all (n ∷ ns)

pub data MaybeLocalsRule : List Marked → List ℕ → Type 0 where
  no_locals : MaybeLocalsRule [] []
  locals : {all : List Marked} {n : ℕ} {ns : List ℕ} → LocalsRule all (n ∷ ns) → MaybeLocalsRule all (n ∷ ns)

-- [ "error" local ]
pub data ErrorRule : List Marked → Option ℕ → Type 0 where
  no_error : ErrorRule [] None
  error : {n : ℕ} (p q : Place) → IsNumber n → ErrorRule (said (codes "error") p ∷ place_at (Local n) q ∷ []) (Some n)

-- [ "catch" number error "drop" "(" locals ")" ]
pub data CatchRule : List Marked → Option CatcherTree → Type 0 where
  no_catch : CatchRule [] None
  catch : {block : ℕ} {error : Option ℕ} {drops : List ℕ} {all : List Marked}
      (p q r s t : Place) (named of : List Marked)
      → IsNumber block → ErrorRule named error → MaybeLocalsRule of drops
      → all ≡ word_at word.Catch p ∷ number_at block q ∷ (named ++ (said (codes "drop") r ∷ in_round s of t []))
      → CatchRule all (Some (record { block = block; error = error; drops = drops }))

-- path "=" expr, behind a word
pub data AssignRule (w : List ℕ) : List Marked → List Ident → ExprTree → Type 0 where
  assign : {xs : List Ident} {e : ExprTree} {all : List Marked} (p q r : Place) (path value : List Marked)
      → VarPathRule path xs → WholeRule value e
      → all ≡ said w p ∷ (path ++ (sign_at sign.Assign q ∷ (value ++ sign_at sign.Semicolon r ∷ [])))
      → AssignRule w all xs e

-- an instruction: "set" path "=" expr ";" | "do" path "=" expr ";" | "new" place ";" | "act" call ";" | "drop" locals ";"
pub data InstrRule : List Marked → InstrTree → Type 0 where
  set : {all : List Marked} {xs : List Ident} {e : ExprTree} → AssignRule (codes "set") all xs e → InstrRule all (SetInstr xs e)
  effect : {all : List Marked} {xs : List Ident} {e : ExprTree} → AssignRule (codes "do") all xs e → InstrRule all (EffectInstr xs e)
  new : (to : Slotted) (p q r : Place) → IsPlace to
      → InstrRule (said (codes "new") p ∷ place_at to q ∷ sign_at sign.Semicolon r ∷ []) (NewInstr to)
  act : {all : List Marked} {xs : List Ident} {es : ExprTrees} (p q r s : Place) (path args : List Marked)
      → CalleeRule path xs → ArgsRule 1 args es → AllAreFree es
      → all ≡ said (codes "act") p ∷ (path ++ in_round q args r (sign_at sign.Semicolon s ∷ []))
      → InstrRule all (ActInstr xs es)
  drop : {all : List Marked} {ns : List ℕ} (p q : Place) (of : List Marked)
      → LocalsRule of ns
      → all ≡ said (codes "drop") p ∷ (of ++ sign_at sign.Semicolon q ∷ [])
      → InstrRule all (DropInstr ns)

-- instructions one after another
pub data InstrsRule : List Marked → List InstrTree → Type 0 where
  no_instrs : InstrsRule [] []
  more_instrs : {all : List Marked} {i : InstrTree} {is : List InstrTree} (first rest : List Marked)
      → InstrRule first i → InstrsRule rest is
      → all ≡ first ++ rest
      → InstrsRule all (i ∷ is)

-- what a `return` gives: [ expr ], which is absent in version 2 alone
pub data ReturnedRule : Version → List Marked → Option ExprTree → Type 0 where
  nothing : ReturnedRule Two [] None
  something : {v : Version} {e : ExprTree} {all : List Marked} → WholeRule all e → ReturnedRule v all (Some e)

-- the last instruction of a block: "goto" number ";" | "pass" number ";" | "test" "(" expr ")" "goto" number "else" number ";"
-- | "choose" number ";" | "return" [ expr ] ";" | "throw" expr ";"
pub data LastRule (v : Version) : List Marked → LastTree → Type 0 where
  goto : {b : ℕ} (p q r : Place) → IsNumber b
      → LastRule v (said (codes "goto") p ∷ number_at b q ∷ sign_at sign.Semicolon r ∷ []) (GotoLast b)
  pass : {b : ℕ} (p q r : Place) → IsNumber b
      → LastRule v (said (codes "pass") p ∷ number_at b q ∷ sign_at sign.Semicolon r ∷ []) (PassLast b)
  test : {e : ExprTree} {y n : ℕ} {all : List Marked} (p q r s t u o w : Place) (of : List Marked)
      → WholeRule of e → IsNumber y → IsNumber n
      → all ≡ said (codes "test") p ∷ in_round q of r
      (said (codes "goto") s ∷ number_at y t ∷ word_at word.Else u ∷ number_at n o ∷ sign_at sign.Semicolon w ∷ [])
      → LastRule v all (TestLast e y n)
  choose : {g : ℕ} (p q r : Place) → IsNumber g
      → LastRule v (word_at word.Choose p ∷ number_at g q ∷ sign_at sign.Semicolon r ∷ []) (ChooseLast g)
  return : {e : Option ExprTree} {all : List Marked} (p q : Place) (of : List Marked)
      → ReturnedRule v of e
      → all ≡ word_at word.Return p ∷ (of ++ sign_at sign.Semicolon q ∷ [])
      → LastRule v all (ReturnLast e)
  throw : {e : ExprTree} {all : List Marked} (p q : Place) (of : List Marked)
      → WholeRule of e
      → all ≡ word_at word.Throw p ∷ (of ++ sign_at sign.Semicolon q ∷ [])
      → LastRule v all (ThrowLast e)

-- a block of this number: "block" number catch "{" { instr } last "}"
pub data BlockRule (v : Version) (n : ℕ) : List Marked → BlockTree → Type 0 where
  block : {c : Option CatcherTree} {is : List InstrTree} {l : LastTree} {all : List Marked}
      (p q r s : Place) (caught body last : List Marked)
      → IsNumber n → CatchRule caught c → InstrsRule body is → LastRule v last l
      → all ≡ said (codes "block") p ∷ number_at n q
      ∷ (caught ++ (sign_at sign.OpenCurly r ∷ (body ++ (last ++ sign_at sign.CloseCurly s ∷ []))))
      → BlockRule v n all (record { catcher = c; body = is; last = l })

-- things one after another, the first with this number
pub data NumberedRule {A : Type 0} (rule : ℕ → List Marked → A → Type 0) : ℕ → List Marked → List A → Type 0 where
  none : {n : ℕ} → NumberedRule rule n [] []
  next : {n : ℕ} {x : A} {xs : List A} {all : List Marked} (first rest : List Marked)
      → rule n first x → NumberedRule rule (suc n) rest xs
      → all ≡ first ++ rest
      → NumberedRule rule n all (x ∷ xs)

-- [ "into" place ]
pub data IntoRule : List Marked → Option Slotted → Type 0 where
  nowhere : IntoRule [] None
  into : {to : Slotted} (p q : Place) → IsPlace to → IntoRule (said (codes "into") p ∷ place_at to q ∷ []) (Some to)

-- "callback" number ( "wait" | "waitNext" ) "(" expr ")" into "goto" number ";"
pub data CallbackRule (n : ℕ) : List Marked → CallbackTree → Type 0 where
  callback : {next : Bool} {e : ExprTree} {to : Option Slotted} {b : ℕ} {all : List Marked}
      (p q r s t : Place) (waits put : List Marked)
      → IsNumber n → IsNumber b → OperandRule 0 waits next e → AreFree e → IntoRule put to
      → all ≡ said (codes "callback") p ∷ number_at n q
      ∷ (waits ++ (put ++ (said (codes "goto") r ∷ number_at b s ∷ sign_at sign.Semicolon t ∷ [])))
      → CallbackRule n all (record { next = next; operand = e; into = to; block = b })

-- Groups one after another, the first with this number and its first callback with that one: "group" number "{" callback { callback }
-- "}". Each has 64 callbacks at most, and one at least.
pub data GroupsRule : (group first : ℕ) → List Marked → List (List CallbackTree) → Type 0 where
  no_groups : {g k : ℕ} → GroupsRule g k [] []
  more_groups : {g k : ℕ} {c : CallbackTree} {cs : List CallbackTree} {rest : List (List CallbackTree)} {all : List Marked}
      (p q r s : Place) (of more : List Marked)
      → IsNumber g → length (c ∷ cs) ≤ BRANCHES → NumberedRule CallbackRule k of (c ∷ cs)
      → GroupsRule (suc g) (k + length (c ∷ cs)) more rest
      → all ≡ said (codes "group") p ∷ number_at g q ∷ in_curly r of s more
      → GroupsRule g k all ((c ∷ cs) ∷ rest)

-- "slot" number type name ";" and "local" number type ";"
pub data SlotRule (n : ℕ) : List Marked → SlotTree → Type 0 where
  slot : {t : TypeTree} {x : List ℕ} {all : List Marked} (p q r s : Place) (of : List Marked)
      → IsNumber n → TypeRule 1 of t
      → all ≡ said (codes "slot") p ∷ number_at n q ∷ (of ++ (said x r ∷ sign_at sign.Semicolon s ∷ []))
      → SlotRule n all (record { ty = t; name = x })

pub data LocalRule (n : ℕ) : List Marked → TypeTree → Type 0 where
  local : {t : TypeTree} {all : List Marked} (p q r : Place) (of : List Marked)
      → IsNumber n → TypeRule 1 of t
      → all ≡ said (codes "local") p ∷ number_at n q ∷ (of ++ sign_at sign.Semicolon r ∷ [])
      → LocalRule n all t

-- what a class gives: type | "void", which version 1 hasn't
pub data ResultRule : Version → List Marked → TypeTree → Type 0 where
  result : {v : Version} {t : TypeTree} {all : List Marked} → TypeRule 1 all t → ResultRule v all t
  no_result : (p : Place) → ResultRule Two (word_at word.NoResult p ∷ []) NothingType

-- "class" name "returns" result "params" number "{" { slot } { local } block { block } { group } "}": a class has a block at least
pub data ClassRule (v : Version) : List Marked → ClassTree → Type 0 where
  class : {x : List ℕ} {t : TypeTree} {params : ℕ} {ss : List SlotTree} {ls : List TypeTree} {b : BlockTree} {bs : List BlockTree}
      {gs : List (List CallbackTree)} {all : List Marked}
      (p q r s u o w : Place) (of slots locals blocks groups : List Marked)
      → ResultRule v of t → IsNumber params → NumberedRule SlotRule 0 slots ss → NumberedRule LocalRule 0 locals ls
      → NumberedRule (BlockRule v) 0 blocks (b ∷ bs) → GroupsRule 1 0 groups gs
      → all ≡ said (codes "class") p ∷ said x q ∷ said (codes "returns") r ∷ (of ++ (said (codes "params") s ∷ number_at params u
      ∷ sign_at sign.OpenCurly o ∷ (slots ++ (locals ++ (blocks ++ (groups ++ sign_at sign.CloseCurly w ∷ []))))))
      → ClassRule v all (record { name = x; returns = t; params = params; slots = ss; locals = ls; blocks = b ∷ bs; groups = gs })

-- classes one after another
pub data ClassesRule (v : Version) : List Marked → List ClassTree → Type 0 where
  no_classes : ClassesRule v [] []
  more_classes : {c : ClassTree} {cs : List ClassTree} {all : List Marked} (first rest : List Marked)
      → ClassRule v first c → ClassesRule v rest cs
      → all ≡ first ++ rest
      → ClassesRule v all (c ∷ cs)

-- a record or a function, of depth 1
pub data HeadRecordRule : List Marked → RecordTree → Type 0 where
  record_rule : {r : RecordTree} (of : List Marked) → RecordRule of r → HeadRecordRule (begin (Node 1) of) r

pub data HeadFunctionRule (v : Version) : List Marked → RoutineTree → Type 0 where
  function_rule : {f : RoutineTree} (of : List Marked) → FunctionRule (functions_of v) of f → HeadFunctionRule v (begin (Node 1) of) f

-- records and functions one after another, in any order: { record | function }; these are the records in their order, and these the
-- functions in theirs
pub data HeadsRule (v : Version) : List Marked → List RecordTree → List RoutineTree → Type 0 where
  no_heads : HeadsRule v [] [] []
  more_records : {r : RecordTree} {rs : List RecordTree} {fs : List RoutineTree} {all : List Marked} (first rest : List Marked)
      → HeadRecordRule first r → HeadsRule v rest rs fs
      → all ≡ first ++ rest
      → HeadsRule v all (r ∷ rs) fs
  more_functions : {f : RoutineTree} {rs : List RecordTree} {fs : List RoutineTree} {all : List Marked} (first rest : List Marked)
      → HeadFunctionRule v first f → HeadsRule v rest rs fs
      → all ≡ first ++ rest
      → HeadsRule v all rs (f ∷ fs)

-- a class text of this version: "classes" version { record | function } { class }
pub data VersionRule (v : Version) : List Marked → RawTree → Type 0 where
  text : {raw : RawTree} {all : List Marked} (p q : Place) (heads classes : List Marked)
      → HeadsRule v heads raw.records raw.functions → ClassesRule v classes raw.classes
      → all ≡ said (codes "classes") p ∷ number_at (version_number v) q ∷ (heads ++ classes)
      → VersionRule v all raw

-- a class text of one of the versions
pub data TextRule : List Marked → RawTree → Type 0 where
  of_version : (v : Version) {raw : RawTree} {all : List Marked} → VersionRule v all raw → TextRule all raw

-- bytes spell the token
pub record IsSpelled (t : Token) : Type 0 where
  pub bytes : List ℕ
  pub spells : Spells t bytes
  pub bounded : IsBounded t

abbrev pub AreSpelled : List Marked → Type 0
AreSpelled [] = Unit {0}
AreSpelled (x ∷ xs) = IsSpelled x.spot.token × AreSpelled xs

-- Some class text of version 2 derives these records, functions and classes, within the limits of class text: no node is deeper than 64.
pub record IsWritten (raw : RawTree) : Type 0 where
  pub tokens : List Marked
  pub rule : VersionRule Two tokens raw
  pub spelled : AreSpelled tokens
  pub keeps : KeepsOf OF_CLASS_TEXT 7 tokens
