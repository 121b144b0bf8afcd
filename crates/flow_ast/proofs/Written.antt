-- Each type that is written is that of a value: none is what a void actor gives.
use Rattle.std.proofs.Common.{◌≡◌, List, refl}
use Rattle.flow_tree.specs.declared.ty.Ty.{Ty}
use Rattle.flow_tree.specs.declared.ty.Ty.TheOpen.{Ty-F, Int, Bool, Str, Void, Error, Named, Future, FutureStream, Promise, PromiseStream, Vector}
use Rattle.flow_tree.specs.Tree.{TypeTree, FutureType}
use Rattle.flow_tree.specs.View.{type_of, type_step}
use Rattle.flow_tree.proofs.Views.{by_layer}
use Rattle.flow_ast.specs.Typing.{takes, actor_gives}

-- an actor that gives a value gives its future
pub actor_gives_future : (ts : List TypeTree) (t : Ty) → actor_gives ts (type_of t) ≡ takes ts (FutureType (type_of t))
actor_gives_future ts = by_layer (λ t. actor_gives ts t ≡ takes ts (FutureType t)) gives
  where
    gives : (l : Ty-F TypeTree) → actor_gives ts (type_step l) ≡ takes ts (FutureType (type_step l))
    gives Int = refl
    gives Bool = refl
    gives Str = refl
    gives Void = refl
    gives Error = refl
    gives (Named n) = refl
    gives (Future t) = refl
    gives (FutureStream t) = refl
    gives (Promise t) = refl
    gives (PromiseStream t) = refl
    gives (Vector t) = refl
