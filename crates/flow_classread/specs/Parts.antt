-- The parts of a class text that are read one by one.
use Rattle.std.specs.Prelude.{◌≡◌, ℕ, suc, ◌<◌, ◌≤◌, pos, Bool, true, false, List, [], ◌∷◌, ◌++◌, codes, length, ◌⊎◌}
use Rattle.std.specs.declared.option.Option.{Option}
use Rattle.flow_base.specs.declared.place.Place.{Place}
use Rattle.flow_tree.specs.declared.limits.TheConstants.{BRANCHES}
use Rattle.flow_tree.specs.declared.token.Token.{Token}
use Rattle.flow_tree.specs.declared.token.Token.TheVariants as token
use Rattle.flow_tree.specs.declared.token.Word.TheVariants as word
use Rattle.flow_tree.specs.declared.token.Sign.TheVariants as sign
use Rattle.flow_tree.specs.declared.ty.Ident.{Ident}
use Rattle.flow_tree.specs.Tree.{ExprTree, ExprTrees}
use Rattle.flow_tree.specs.Decls.{RecordTree, RoutineTree}
use Rattle.flow_tree.specs.GrammarToken.{Marked, opens}
use Rattle.flow_tree.specs.Grammar.{ArgsRule, MoreArgsRule}
use Rattle.flow_tree.specs.GrammarStmt.{OperandRule}
use Rattle.flow_class.specs.declared.class.Slotted.{Slotted}
use Rattle.flow_class.specs.declared.class.Slotted.TheVariants.{Local}
use Rattle.flow_class.specs.Classes.{CatcherTree, InstrTree, ActInstr, NewInstr, DropInstr, LastTree, TestLast, BlockTree, CallbackTree, ClassTree, RawTree}
use Rattle.flow_tree.specs.declared.token.Spot.{Spot}
use Rattle.std.specs.declared.option.Option.TheVariants.{Some}
use Rattle.flow_parse.specs.Openers.{AsFirst, NameToken}
use Rattle.flow_parse.specs.Reading.{token_at, Tok, Named, Then}
use Rattle.flow_classprint.specs.declared.version.Version.{Version}
use Rattle.flow_classprint.specs.ClassGrammar.{version_number, number_at, IsNumber, IsPlace, place_at, AreFree, AllAreFree, WholeRule, VarPathRule, CalleeRule, LocalsRule, MaybeLocalsRule, ErrorRule, InstrsRule, ReturnedRule, LastRule, NumberedRule, BlockRule, CallbackRule, HeadsRule, ClassesRule}

-- the next token isn't such
abbrev pub NotFirst : (Token → Type 0) → {A : Type 0} → A → List Marked → Type 0
NotFirst P a [] = Unit {0}
NotFirst P a (x ∷ z) = P x.spot.token → ⊥

-- a token that is this name
abbrev pub Says : List ℕ → Token → Type 0
Says w t = t ≡ token.Name w

-- one token and then a part
abbrev pub Behind : Token → {A : Type 0} → (List Marked → A → Type 0) → List Marked → A → Type 0
Behind x R w a = (p : Place) × (of : List Marked) × R of a × (w ≡ opens [] x p ∷ of)

-- a part and then one token
abbrev pub Closed : Token → {A : Type 0} → (List Marked → A → Type 0) → List Marked → A → Type 0
Closed x R w a = (p : Place) × (of : List Marked) × R of a × (w ≡ of ++ opens [] x p ∷ [])

-- a part that means something else
abbrev pub Mapped : {A B : Type 0} → (A → B) → (List Marked → A → Type 0) → List Marked → B → Type 0
Mapped g R w b = (a : _) × R w a × (b ≡ g a)

-- two parts, of which the second doesn't depend on the first
abbrev pub Both : {A B : Type 0} → (List Marked → A → Type 0) → (List Marked → B → Type 0) → List Marked → A × B → Type 0
Both R S w x = Then R (λ a. S) w x

-- a number below 2^32, and a semicolon behind one
abbrev pub NumberPart : List Marked → ℕ → Type 0
NumberPart w n = (p : Place) × IsNumber n × (w ≡ number_at n p ∷ [])

abbrev pub Target : List Marked → ℕ → Type 0
Target = Closed (token.Sign sign.Semicolon) NumberPart

-- a word with this number
abbrev pub Numbered : List ℕ → ℕ → List Marked → Place → Type 0
Numbered w n = Behind (token.Name w) (Tok (token.Number (pos n)))

-- a slot or a local
abbrev pub SlottedPart : List Marked → Slotted → Type 0
SlottedPart w p = (q : Place) × IsPlace p × (w ≡ place_at p q ∷ [])

abbrev pub LocalPart : List Marked → ℕ → Type 0
LocalPart w n = (q : Place) × IsNumber n × (w ≡ place_at (Local n) q ∷ [])

-- expr ";" and "(" expr ")"
abbrev pub Ended : List Marked → ExprTree → Type 0
Ended = Closed (token.Sign sign.Semicolon) WholeRule

abbrev pub Test : List Marked → ExprTree → Type 0
Test = Behind (token.Sign sign.OpenRound) (Closed (token.Sign sign.CloseRound) WholeRule)

-- the arguments of a call with the bracket that closes them; those behind a first one
abbrev pub FreeArgs : List Marked → ExprTrees → Type 0
FreeArgs w es = ArgsRule 1 w es × AllAreFree es

abbrev pub MoreFreeArgs : List Marked → ExprTrees → Type 0
MoreFreeArgs w es = MoreArgsRule 1 w es × AllAreFree es

abbrev pub Args : List Marked → ExprTrees → Type 0
Args = Closed (token.Sign sign.CloseRound) FreeArgs

abbrev pub MoreArgs : List Marked → ExprTrees → Type 0
MoreArgs = Closed (token.Sign sign.CloseRound) MoreFreeArgs

-- a path of one name
abbrev pub single_tree : Ident → List Ident
single_tree x = x ∷ []

abbrev pub SinglePart : List Marked → List Ident → Type 0
SinglePart = Mapped single_tree Named

-- path "=" expr ";"
abbrev pub Assignment : List Marked → List Ident × ExprTree → Type 0
Assignment = Both VarPathRule (Behind (token.Sign sign.Assign) Ended)

-- a call and its semicolon
abbrev pub Act : List Marked → List Ident × ExprTrees → Type 0
Act = Both CalleeRule (Behind (token.Sign sign.OpenRound) (Closed (token.Sign sign.Semicolon) Args))

abbrev pub New : List Marked → Slotted → Type 0
New = Closed (token.Sign sign.Semicolon) SlottedPart

abbrev pub DropLocals : List Marked → List ℕ → Type 0
DropLocals = Closed (token.Sign sign.Semicolon) LocalsRule

abbrev pub act_tree : List Ident × ExprTrees → InstrTree
act_tree x = ActInstr x.0 x.1

abbrev pub ActInstrPart : List Marked → InstrTree → Type 0
ActInstrPart = Mapped act_tree Act

abbrev pub NewInstrPart : List Marked → InstrTree → Type 0
NewInstrPart = Mapped NewInstr New

abbrev pub DropInstrPart : List Marked → InstrTree → Type 0
DropInstrPart = Mapped DropInstr DropLocals

-- "(" expr ")" "goto" number "else" number ";"
abbrev pub Branch : List Marked → ExprTree × (ℕ × ℕ) → Type 0
Branch = Both Test (Behind (token.Name (codes "goto")) (Both NumberPart (Behind (token.Word word.Else) Target)))

abbrev pub branch_tree : ExprTree × (ℕ × ℕ) → LastTree
branch_tree x = TestLast x.0 x.1.0 x.1.1

abbrev pub BranchPart : List Marked → LastTree → Type 0
BranchPart = Mapped branch_tree Branch

-- what a `return` gives, and its semicolon
abbrev pub Returned : Version → List Marked → Option ExprTree → Type 0
Returned v = Closed (token.Sign sign.Semicolon) (ReturnedRule v)

-- the words with which an instruction begins
abbrev pub InstrToken : Token → Type 0
InstrToken t = Says (codes "set") t ⊎ Says (codes "do") t ⊎ Says (codes "new") t ⊎ Says (codes "act") t ⊎ Says (codes "drop") t

-- where errors go on, behind its word
abbrev pub Dropped : List Marked → List ℕ → Type 0
Dropped = Closed (token.Sign sign.CloseRound) MaybeLocalsRule

abbrev pub Catcher : List Marked → ℕ × (Option ℕ × List ℕ) → Type 0
Catcher = Both NumberPart (Both ErrorRule (Behind (token.Name (codes "drop")) (Behind (token.Sign sign.OpenRound) Dropped)))

abbrev pub catcher_tree : ℕ × (Option ℕ × List ℕ) → CatcherTree
catcher_tree x = record { block = x.0; error = x.1.0; drops = x.1.1 }

abbrev pub CatcherPart : List Marked → CatcherTree → Type 0
CatcherPart = Mapped catcher_tree Catcher

-- { instr } last "}"
abbrev pub BlockBody : Version → List Marked → List InstrTree × LastTree → Type 0
BlockBody v = Both InstrsRule (Closed (token.Sign sign.CloseCurly) (LastRule v))

-- ( "wait" | "waitNext" ) "(" expr ")"
abbrev pub Operand : List Marked → Bool × ExprTree → Type 0
Operand w x = OperandRule 0 w x.0 x.1 × AreFree x.1

-- so many callbacks at most, and the brace that closes them; the callbacks of a group
abbrev pub MoreCallbacks : ℕ → ℕ → List Marked → List CallbackTree → Type 0
MoreCallbacks room k w cs = (length cs ≤ room) × Closed (token.Sign sign.CloseCurly) (NumberedRule CallbackRule k) w cs

abbrev pub Callbacks : ℕ → List Marked → List CallbackTree → Type 0
Callbacks k w cs = (0 < length cs) × MoreCallbacks BRANCHES k w cs

-- "group" number "{" callbacks
abbrev pub GroupPart : (group first : ℕ) → List Marked → List CallbackTree → Type 0
GroupPart g k w cs = (p : Place) × Both (Numbered (codes "group") g) (Behind (token.Sign sign.OpenCurly) (Callbacks k)) w (p, cs)

-- one block at least
abbrev pub Blocks : Version → List Marked → List BlockTree → Type 0
Blocks v w bs = (0 < length bs) × NumberedRule (BlockRule v) 0 w bs

-- the number of a version, and the head of a class text, which tells it
abbrev pub VersionPart : List Marked → Version → Type 0
VersionPart w v = (p : Place) × (w ≡ number_at (version_number v) p ∷ [])

abbrev pub VersionHead : List Marked → Version → Type 0
VersionHead = Behind (token.Name (codes "classes")) VersionPart

-- records and functions in any order, and then classes
abbrev pub Heads : Version → List Marked → List RecordTree × List RoutineTree → Type 0
Heads v w x = HeadsRule v w x.0 x.1

abbrev pub Rest : Version → List Marked → RawTree → Type 0
Rest v = Mapped
    (λ (x : (List RecordTree × List RoutineTree) × List ClassTree). record { records = x.0.0; functions = x.0.1; classes = x.1 })
    (Both (Heads v) (ClassesRule v))

-- a class begins at a token, and no function whose result is a record of that name; or none does
abbrev pub BeginsClass : List Spot → ℕ → Type 0
BeginsClass spots at =
    (token_at spots at ≡ Some (token.Name (codes "class")))
    × (AsFirst NameToken (token_at spots (suc at)) → token_at spots (suc (suc at)) ≡ Some (token.Sign sign.OpenRound) → ⊥)

abbrev pub BeginsNoClass : List Spot → ℕ → Type 0
BeginsNoClass spots at =
    (token_at spots at ≡ Some (token.Name (codes "class")) → ⊥)
    ⊎ ((token_at spots at ≡ Some (token.Name (codes "class"))) × AsFirst NameToken (token_at spots (suc at))
    × (token_at spots (suc (suc at)) ≡ Some (token.Sign sign.OpenRound)))

abbrev pub IsClassHere : List Spot → ℕ → Bool → Type 0
IsClassHere spots at true = BeginsClass spots at
IsClassHere spots at false = BeginsNoClass spots at

-- a record or a function is to be read at a token; or classes, or nothing
abbrev pub IsHeadHere : List Spot → ℕ → Bool → Type 0
IsHeadHere spots at true = (at < length spots) × BeginsNoClass spots at
IsHeadHere spots at false = (length spots ≤ at) ⊎ BeginsClass spots at
