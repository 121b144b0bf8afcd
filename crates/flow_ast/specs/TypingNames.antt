-- Names that are known without a declaration, by tables.
use Rattle.std.specs.Prelude.{ℕ, List, [], ◌∷◌, codes, if◌then◌else◌}
use Rattle.std.specs.Str.{bytes_eq}
use Rattle.std.specs.declared.option.Option.{Option}
use Rattle.std.specs.declared.option.Option.TheVariants.{None, Some}
use Rattle.flow_base.specs.ErrorNumbers.{end_of_stream, timed_out, broken_promise, operation_cancelled}
use Rattle.flow_tree.specs.Tree.{Selector, ByName, ByIndex}
use Rattle.flow_ast.specs.declared.predefined.Predefined.{Predefined}
use Rattle.flow_ast.specs.declared.predefined.Predefined.TheVariants.{ToString, ToInt, Now, EndOfStream, TimedOut, BrokenPromise, OperationCancelled, ActorCancelled, Error, RandomInt, Delay, Never, Listen, ReadFile, WriteFile, SyncFile, FileSize, Trace, SendTo}
use Rattle.flow_ast.specs.declared.predefined.Method.{Method}
use Rattle.flow_ast.specs.declared.predefined.Method.TheVariants.{Code, Size, Substr, IsReady, IsError, Get, GetFuture, IsSet, Send, SendError, Cancel, PushBack, Clear, At}

-- what a table of names has at a name: the first row of that name
abbrev pub named : {A : Type 0} → List (List ℕ × A) → List ℕ → Option A
named [] x = None
named (row ∷ rows) x = if bytes_eq x row.0 then Some row.1 else named rows x

-- the calls, effects and statement calls that stand without a base
abbrev pub call_names : List (List ℕ × Predefined)
call_names =
    (codes "to_string", ToString)
    ∷ (codes "to_int", ToInt)
    ∷ (codes "now", Now)
    ∷ (codes "end_of_stream", EndOfStream)
    ∷ (codes "timed_out", TimedOut)
    ∷ (codes "broken_promise", BrokenPromise)
    ∷ (codes "operation_cancelled", OperationCancelled)
    ∷ (codes "actor_cancelled", ActorCancelled)
    ∷ (codes "error", Error)
    ∷ (codes "randomInt", RandomInt)
    ∷ (codes "delay", Delay)
    ∷ (codes "Never", Never)
    ∷ (codes "listen", Listen)
    ∷ (codes "readFile", ReadFile)
    ∷ (codes "writeFile", WriteFile)
    ∷ (codes "syncFile", SyncFile)
    ∷ (codes "fileSize", FileSize)
    ∷ (codes "trace", Trace)
    ∷ (codes "sendTo", SendTo)
    ∷ []

-- what stands behind a dot before arguments
abbrev pub method_names : List (List ℕ × Method)
method_names =
    (codes "code", Code)
    ∷ (codes "size", Size)
    ∷ (codes "substr", Substr)
    ∷ (codes "isReady", IsReady)
    ∷ (codes "isError", IsError)
    ∷ (codes "get", Get)
    ∷ (codes "getFuture", GetFuture)
    ∷ (codes "isSet", IsSet)
    ∷ (codes "send", Send)
    ∷ (codes "sendError", SendError)
    ∷ (codes "cancel", Cancel)
    ∷ (codes "push_back", PushBack)
    ∷ (codes "clear", Clear)
    ∷ []

-- the method that a selector calls, where it calls one; an index calls the one that has no name
abbrev pub selected : Selector → Option Method
selected (ByName x) = named method_names x.name
selected ByIndex = Some At

-- the constants, all whole numbers
abbrev pub constant_names : List (List ℕ × ℕ)
constant_names =
    (codes "error_code_end_of_stream", end_of_stream)
    ∷ (codes "error_code_timed_out", timed_out)
    ∷ (codes "error_code_broken_promise", broken_promise)
    ∷ (codes "error_code_operation_cancelled", operation_cancelled)
    ∷ (codes "error_code_actor_cancelled", operation_cancelled)
    ∷ []
