-- Runs of waits and chooses, computed.
use Rattle.std.proofs.Common.{List, [], ◌∷◌, refl}
use Rattle.std.specs.Prelude.{pos, true, false, codes}
use Rattle.std.specs.declared.option.Option.TheVariants.{None, Some}
use Rattle.flow_trace.specs.declared.line.Line.{Line}
use Rattle.flow_trace.specs.declared.line.Line.TheVariants as line
use Rattle.flow_worldfile.specs.Worlds.{World}
use Rattle.flow_tree.specs.declared.expr.Op.TheVariants.{Add}
use Rattle.flow_tree.specs.Tree.{ByName, IntType, VoidType, ErrorType, FutureType, PromiseType, PromiseStreamType, IntExpr, VoidExpr, VarExpr, CallExpr, MethodExpr, BinaryExpr, NoExprs, MoreExprs}
use Rattle.flow_tree.specs.Body.{End, ReturnStmt, TryStmt, ChooseStmt, DeclareStmt, CallStmt, WaitStmt, NoBranches, MoreBranches}
use Rattle.flow_tree.specs.Decls.{ActorDecl, ProgramTree}
use Rattle.flow_meaning.specs.Runs.{SourceTrace, ClassTrace}
use Rattle.flow_meaning.proofs.Following.{source_trace, class_trace}
use Rattle.flow_meaning_tests.proofs.RowTerms.{nowhere, id, process, actor, cell, error}
use Rattle.flow_class.specs.declared.class.Slotted.TheVariants.{Slot, Local}
use Rattle.flow_class.specs.Classes.{RawTree, EffectInstr, NewInstr, ActInstr, DropInstr, GotoLast, ChooseLast, ReturnLast}

-- a choose whose first branch is ready: the second operand is never evaluated
unfoldable pub second_operand_never_starts_program : ProgramTree
second_operand_never_starts_program = record {
  decls = ((ActorDecl
      (record {
        at = nowhere;
        returns = IntType;
        name = (id (codes "one"));
        params = ((record { ty = IntType; name = (id (codes "v")) }) ∷ []);
        body = (ReturnStmt nowhere (Some (VarExpr (id (codes "v")))) End);
        close = nowhere;
      }))
      ∷ (ActorDecl (record {
        at = nowhere;
        returns = VoidType;
        name = (id (codes "main"));
        params = ((record { ty = IntType; name = (id (codes "p")) }) ∷ []);
        body = (ChooseStmt nowhere (MoreBranches nowhere (record {
          into = (Some (record { state = false; ty = IntType; name = (id (codes "x")) }));
          next = false;
          operand = (CallExpr (id (codes "one")) (MoreExprs (IntExpr (pos 7)) NoExprs));
        }) (CallStmt nowhere ((id (codes "trace")) ∷ []) (MoreExprs (VarExpr (id (codes "x"))) NoExprs) End)
            (MoreBranches nowhere (record {
              into = (Some (record { state = false; ty = IntType; name = (id (codes "y")) }));
              next = false;
              operand = (CallExpr (id (codes "one")) (MoreExprs (IntExpr (pos 8)) NoExprs));
            }) (CallStmt nowhere ((id (codes "trace")) ∷ []) (MoreExprs (VarExpr (id (codes "y"))) NoExprs) End) NoBranches))
            (ReturnStmt nowhere (Some VoidExpr) End));
        close = nowhere;
      })) ∷ []);
  end = nowhere;
}

unfoldable pub second_operand_never_starts_world : World
second_operand_never_starts_world = record { seed = 0; words = []; processes = 1; events = 1000; turns = 100000; latency = (1, 2); loss = 0; diskdelay = (1, 2); script = [] }

second_operand_never_starts_lines : List Line
second_operand_never_starts_lines =
    line.Head
    ∷ (line.Boot 1 0 (process 0))
    ∷ (line.Start (actor 1) (codes "main"))
    ∷ (line.Start (actor 2) (codes "one"))
    ∷ (line.Finish (actor 2))
    ∷ (line.Take (actor 1) 1 0)
    ∷ (line.PrintInt (actor 1) (pos 7))
    ∷ (line.Finish (actor 1))
    ∷ line.EndIdle ∷ []

second_operand_never_starts : SourceTrace second_operand_never_starts_program second_operand_never_starts_world second_operand_never_starts_lines
unfolding second_operand_never_starts_program second_operand_never_starts_world second_operand_never_starts_lines
second_operand_never_starts = source_trace 20 400 second_operand_never_starts_program second_operand_never_starts_world second_operand_never_starts_lines refl

unfoldable pub second_operand_never_starts_classes : RawTree
second_operand_never_starts_classes = record {
  records = [];
  functions = [];
  classes = ((record {
    name = (codes "one");
    returns = IntType;
    params = 1;
    slots = ((record { ty = IntType; name = (codes "v") }) ∷ []);
    locals = [];
    blocks = ((record { catcher = None; body = []; last = (ReturnLast (Some (VarExpr (id (codes "s0"))))) }) ∷ []);
    groups = [];
  })
      ∷ (record {
        name = (codes "main");
        returns = VoidType;
        params = 1;
        slots = ((record { ty = IntType; name = (codes "p") }) ∷ []);
        locals = (IntType ∷ IntType ∷ []);
        blocks = ((record { catcher = None; body = []; last = (ChooseLast 1) })
            ∷ (record { catcher = None; body = ((ActInstr ((id (codes "trace")) ∷ []) (MoreExprs (VarExpr (id (codes "l0"))) NoExprs)) ∷ (DropInstr (0 ∷ [])) ∷ []); last = (GotoLast 3) })
            ∷ (record { catcher = None; body = ((ActInstr ((id (codes "trace")) ∷ []) (MoreExprs (VarExpr (id (codes "l1"))) NoExprs)) ∷ (DropInstr (1 ∷ [])) ∷ []); last = (GotoLast 3) })
            ∷ (record { catcher = None; body = []; last = (ReturnLast (Some VoidExpr)) }) ∷ []);
        groups = (((record { next = false; operand = (CallExpr (id (codes "one")) (MoreExprs (IntExpr (pos 7)) NoExprs)); into = (Some (Local 0)); block = 1 })
            ∷ (record { next = false; operand = (CallExpr (id (codes "one")) (MoreExprs (IntExpr (pos 8)) NoExprs)); into = (Some (Local 1)); block = 2 }) ∷ []) ∷ []);
      }) ∷ []);
}

second_operand_never_starts_by_classes : ClassTrace second_operand_never_starts_classes second_operand_never_starts_world second_operand_never_starts_lines
unfolding second_operand_never_starts_classes second_operand_never_starts_world second_operand_never_starts_lines
second_operand_never_starts_by_classes = class_trace 20 400 second_operand_never_starts_classes second_operand_never_starts_world second_operand_never_starts_lines refl

-- two branches of one choose wait for one future
unfoldable pub choose_twice_on_one_future_program : ProgramTree
choose_twice_on_one_future_program = record {
  decls = ((ActorDecl (record {
    at = nowhere;
    returns = IntType;
    name = (id (codes "both"));
    params = ((record { ty = (FutureType IntType); name = (id (codes "f")) }) ∷ []);
    body = (ChooseStmt nowhere (MoreBranches nowhere (record { into = (Some (record { state = false; ty = IntType; name = (id (codes "x")) })); next = false; operand = (VarExpr (id (codes "f"))) })
        (CallStmt nowhere ((id (codes "trace")) ∷ []) (MoreExprs (VarExpr (id (codes "x"))) NoExprs) End)
        (MoreBranches nowhere (record { into = (Some (record { state = false; ty = IntType; name = (id (codes "y")) })); next = false; operand = (VarExpr (id (codes "f"))) })
        (CallStmt nowhere ((id (codes "trace")) ∷ []) (MoreExprs (BinaryExpr Add (VarExpr (id (codes "y"))) (IntExpr (pos 100))) NoExprs) End) NoBranches)) (ReturnStmt nowhere (Some (IntExpr (pos 0))) End));
    close = nowhere;
  })) ∷ (ActorDecl (record {
    at = nowhere;
    returns = VoidType;
    name = (id (codes "main"));
    params = ((record { ty = IntType; name = (id (codes "p")) }) ∷ []);
    body = (DeclareStmt nowhere (record { state = true; ty = (PromiseType IntType); name = (id (codes "q")) }) None
        (DeclareStmt nowhere (record { state = true; ty = (FutureType IntType); name = (id (codes "b")) })
        (Some (CallExpr (id (codes "both")) (MoreExprs (MethodExpr (VarExpr (id (codes "q"))) (ByName (id (codes "getFuture"))) NoExprs) NoExprs)))
        (CallStmt nowhere ((id (codes "q")) ∷ (id (codes "send")) ∷ []) (MoreExprs (IntExpr (pos 5)) NoExprs) (ReturnStmt nowhere (Some VoidExpr) End))));
    close = nowhere;
  })) ∷ []);
  end = nowhere;
}

unfoldable pub choose_twice_on_one_future_world : World
choose_twice_on_one_future_world = record { seed = 0; words = []; processes = 1; events = 1000; turns = 100000; latency = (1, 2); loss = 0; diskdelay = (1, 2); script = [] }

choose_twice_on_one_future_lines : List Line
choose_twice_on_one_future_lines =
    line.Head
    ∷ (line.Boot 1 0 (process 0))
    ∷ (line.Start (actor 1) (codes "main"))
    ∷ (line.Start (actor 2) (codes "both"))
    ∷ (line.Wait (actor 2) 1)
    ∷ (line.Take (actor 2) 1 0)
    ∷ (line.PrintInt (actor 2) (pos 5))
    ∷ (line.Finish (actor 2))
    ∷ (line.Finish (actor 1))
    ∷ line.EndIdle ∷ []

choose_twice_on_one_future : SourceTrace choose_twice_on_one_future_program choose_twice_on_one_future_world choose_twice_on_one_future_lines
unfolding choose_twice_on_one_future_program choose_twice_on_one_future_world choose_twice_on_one_future_lines
choose_twice_on_one_future = source_trace 20 400 choose_twice_on_one_future_program choose_twice_on_one_future_world choose_twice_on_one_future_lines refl

unfoldable pub choose_twice_on_one_future_classes : RawTree
choose_twice_on_one_future_classes = record {
  records = [];
  functions = [];
  classes = ((record {
    name = (codes "both");
    returns = IntType;
    params = 1;
    slots = ((record { ty = (FutureType IntType); name = (codes "f") }) ∷ []);
    locals = (IntType ∷ IntType ∷ []);
    blocks = ((record { catcher = None; body = []; last = (ChooseLast 1) })
        ∷ (record { catcher = None; body = ((ActInstr ((id (codes "trace")) ∷ []) (MoreExprs (VarExpr (id (codes "l0"))) NoExprs)) ∷ (DropInstr (0 ∷ [])) ∷ []); last = (GotoLast 3) })
        ∷ (record {
          catcher = None;
          body = ((ActInstr ((id (codes "trace")) ∷ []) (MoreExprs (BinaryExpr Add (VarExpr (id (codes "l1"))) (IntExpr (pos 100))) NoExprs)) ∷ (DropInstr (1 ∷ [])) ∷ []);
          last = (GotoLast 3);
        }) ∷ (record { catcher = None; body = []; last = (ReturnLast (Some (IntExpr (pos 0)))) }) ∷ []);
    groups = (((record { next = false; operand = (VarExpr (id (codes "s0"))); into = (Some (Local 0)); block = 1 })
        ∷ (record { next = false; operand = (VarExpr (id (codes "s0"))); into = (Some (Local 1)); block = 2 }) ∷ []) ∷ []);
  })
      ∷ (record {
        name = (codes "main");
        returns = VoidType;
        params = 1;
        slots = ((record { ty = IntType; name = (codes "p") }) ∷ (record { ty = (PromiseType IntType); name = (codes "q") }) ∷ (record { ty = (FutureType IntType); name = (codes "b") }) ∷ []);
        locals = [];
        blocks = ((record {
          catcher = None;
          body = ((NewInstr (Slot 1))
              ∷ (EffectInstr ((id (codes "s2")) ∷ []) (CallExpr (id (codes "both")) (MoreExprs (MethodExpr (VarExpr (id (codes "s1"))) (ByName (id (codes "getFuture"))) NoExprs) NoExprs)))
              ∷ (ActInstr ((id (codes "s1")) ∷ (id (codes "send")) ∷ []) (MoreExprs (IntExpr (pos 5)) NoExprs)) ∷ []);
          last = (ReturnLast (Some VoidExpr));
        }) ∷ []);
        groups = [];
      }) ∷ []);
}

choose_twice_on_one_future_by_classes : ClassTrace choose_twice_on_one_future_classes choose_twice_on_one_future_world choose_twice_on_one_future_lines
unfolding choose_twice_on_one_future_classes choose_twice_on_one_future_world choose_twice_on_one_future_lines
choose_twice_on_one_future_by_classes = class_trace 20 400 choose_twice_on_one_future_classes choose_twice_on_one_future_world choose_twice_on_one_future_lines refl

-- an actor whose wait drops the last promise of what it waits for
unfoldable pub promise_broken_at_wait_program : ProgramTree
promise_broken_at_wait_program = record {
  decls = ((ActorDecl (record {
    at = nowhere;
    returns = IntType;
    name = (id (codes "hold"));
    params = ((record { ty = IntType; name = (id (codes "n")) }) ∷ []);
    body = (DeclareStmt nowhere (record { state = false; ty = (PromiseType IntType); name = (id (codes "q")) }) None
        (WaitStmt nowhere (record {
          into = (Some (record { state = false; ty = IntType; name = (id (codes "x")) }));
          next = false;
          operand = (MethodExpr (VarExpr (id (codes "q"))) (ByName (id (codes "getFuture"))) NoExprs);
        }) (ReturnStmt nowhere (Some (VarExpr (id (codes "x")))) End)));
    close = nowhere;
  }))
      ∷ (ActorDecl (record {
        at = nowhere;
        returns = VoidType;
        name = (id (codes "main"));
        params = ((record { ty = IntType; name = (id (codes "p")) }) ∷ []);
        body = (TryStmt nowhere (WaitStmt nowhere (record {
          into = (Some (record { state = false; ty = IntType; name = (id (codes "v")) }));
          next = false;
          operand = (CallExpr (id (codes "hold")) (MoreExprs (IntExpr (pos 1)) NoExprs));
        }) (CallStmt nowhere ((id (codes "trace")) ∷ []) (MoreExprs (VarExpr (id (codes "v"))) NoExprs) End)) nowhere
            (id (codes "e")) (CallStmt nowhere ((id (codes "trace")) ∷ []) (MoreExprs (MethodExpr (VarExpr (id (codes "e"))) (ByName (id (codes "code"))) NoExprs) NoExprs) End)
            (ReturnStmt nowhere (Some VoidExpr) End));
        close = nowhere;
      })) ∷ []);
  end = nowhere;
}

unfoldable pub promise_broken_at_wait_world : World
promise_broken_at_wait_world = record { seed = 0; words = []; processes = 1; events = 1000; turns = 100000; latency = (1, 2); loss = 0; diskdelay = (1, 2); script = [] }

promise_broken_at_wait_lines : List Line
promise_broken_at_wait_lines =
    line.Head
    ∷ (line.Boot 1 0 (process 0))
    ∷ (line.Start (actor 1) (codes "main"))
    ∷ (line.Start (actor 2) (codes "hold"))
    ∷ (line.Wait (actor 2) 1)
    ∷ (line.Broken (cell 3))
    ∷ (line.Take (actor 2) 1 0)
    ∷ (line.Throw (actor 2) (error 1100))
    ∷ (line.Fail (actor 2) (error 1100))
    ∷ (line.Take (actor 1) 1 0)
    ∷ (line.Throw (actor 1) (error 1100))
    ∷ (line.Catch (actor 1) (error 1100))
    ∷ (line.PrintInt (actor 1) (pos 1100))
    ∷ (line.Finish (actor 1))
    ∷ line.EndIdle ∷ []

promise_broken_at_wait : SourceTrace promise_broken_at_wait_program promise_broken_at_wait_world promise_broken_at_wait_lines
unfolding promise_broken_at_wait_program promise_broken_at_wait_world promise_broken_at_wait_lines
promise_broken_at_wait = source_trace 20 400 promise_broken_at_wait_program promise_broken_at_wait_world promise_broken_at_wait_lines refl

unfoldable pub promise_broken_at_wait_classes : RawTree
promise_broken_at_wait_classes = record {
  records = [];
  functions = [];
  classes = ((record {
    name = (codes "hold");
    returns = IntType;
    params = 1;
    slots = ((record { ty = IntType; name = (codes "n") }) ∷ []);
    locals = ((PromiseType IntType) ∷ IntType ∷ []);
    blocks = ((record { catcher = None; body = ((NewInstr (Local 0)) ∷ []); last = (ChooseLast 1) }) ∷ (record { catcher = None; body = []; last = (ReturnLast (Some (VarExpr (id (codes "l1"))))) }) ∷ []);
    groups = (((record { next = false; operand = (MethodExpr (VarExpr (id (codes "l0"))) (ByName (id (codes "getFuture"))) NoExprs); into = (Some (Local 1)); block = 1 }) ∷ []) ∷ []);
  })
      ∷ (record {
        name = (codes "main");
        returns = VoidType;
        params = 1;
        slots = ((record { ty = IntType; name = (codes "p") }) ∷ []);
        locals = (IntType ∷ ErrorType ∷ []);
        blocks = ((record { catcher = None; body = []; last = (GotoLast 1) }) ∷ (record { catcher = (Some (record { block = 3; error = (Some 1); drops = [] })); body = []; last = (ChooseLast 1) })
            ∷ (record {
              catcher = (Some (record { block = 3; error = (Some 1); drops = (0 ∷ []) }));
              body = ((ActInstr ((id (codes "trace")) ∷ []) (MoreExprs (VarExpr (id (codes "l0"))) NoExprs)) ∷ (DropInstr (0 ∷ [])) ∷ []);
              last = (GotoLast 4);
            })
            ∷ (record {
              catcher = None;
              body = ((ActInstr ((id (codes "trace")) ∷ []) (MoreExprs (MethodExpr (VarExpr (id (codes "l1"))) (ByName (id (codes "code"))) NoExprs) NoExprs)) ∷ (DropInstr (1 ∷ [])) ∷ []);
              last = (GotoLast 4);
            }) ∷ (record { catcher = None; body = []; last = (ReturnLast (Some VoidExpr)) }) ∷ []);
        groups = (((record { next = false; operand = (CallExpr (id (codes "hold")) (MoreExprs (IntExpr (pos 1)) NoExprs)); into = (Some (Local 0)); block = 2 }) ∷ []) ∷ []);
      }) ∷ []);
}

promise_broken_at_wait_by_classes : ClassTrace promise_broken_at_wait_classes promise_broken_at_wait_world promise_broken_at_wait_lines
unfolding promise_broken_at_wait_classes promise_broken_at_wait_world promise_broken_at_wait_lines
promise_broken_at_wait_by_classes = class_trace 20 400 promise_broken_at_wait_classes promise_broken_at_wait_world promise_broken_at_wait_lines refl

-- a second waiter at one stream is refused
unfoldable pub second_waiter_on_a_stream_program : ProgramTree
second_waiter_on_a_stream_program = record {
  decls = ((ActorDecl (record {
    at = nowhere;
    returns = VoidType;
    name = (id (codes "main"));
    params = ((record { ty = IntType; name = (id (codes "p")) }) ∷ []);
    body = (DeclareStmt nowhere (record { state = true; ty = (PromiseStreamType IntType); name = (id (codes "q")) }) None
        (TryStmt nowhere (ChooseStmt nowhere (MoreBranches nowhere (record
        { into = (Some (record { state = false; ty = IntType; name = (id (codes "a")) })); next = true; operand = (MethodExpr (VarExpr (id (codes "q"))) (ByName (id (codes "getFuture"))) NoExprs) })
        (CallStmt nowhere ((id (codes "trace")) ∷ []) (MoreExprs (VarExpr (id (codes "a"))) NoExprs) End)
        (MoreBranches nowhere (record {
          into = (Some (record { state = false; ty = IntType; name = (id (codes "b")) }));
          next = true;
          operand = (MethodExpr (VarExpr (id (codes "q"))) (ByName (id (codes "getFuture"))) NoExprs);
        }) (CallStmt nowhere ((id (codes "trace")) ∷ []) (MoreExprs (VarExpr (id (codes "b"))) NoExprs) End) NoBranches))
        End) nowhere (id (codes "e")) (CallStmt nowhere ((id (codes "trace")) ∷ []) (MoreExprs (MethodExpr (VarExpr (id (codes "e"))) (ByName (id (codes "code"))) NoExprs) NoExprs) End)
        (ReturnStmt nowhere (Some VoidExpr) End)));
    close = nowhere;
  })) ∷ []);
  end = nowhere;
}

unfoldable pub second_waiter_on_a_stream_world : World
second_waiter_on_a_stream_world = record { seed = 0; words = []; processes = 1; events = 1000; turns = 100000; latency = (1, 2); loss = 0; diskdelay = (1, 2); script = [] }

second_waiter_on_a_stream_lines : List Line
second_waiter_on_a_stream_lines =
    line.Head
    ∷ (line.Boot 1 0 (process 0))
    ∷ (line.Start (actor 1) (codes "main"))
    ∷ (line.Throw (actor 1) (error 9003))
    ∷ (line.Catch (actor 1) (error 9003))
    ∷ (line.PrintInt (actor 1) (pos 9003))
    ∷ (line.Finish (actor 1))
    ∷ line.EndIdle ∷ []

second_waiter_on_a_stream : SourceTrace second_waiter_on_a_stream_program second_waiter_on_a_stream_world second_waiter_on_a_stream_lines
unfolding second_waiter_on_a_stream_program second_waiter_on_a_stream_world second_waiter_on_a_stream_lines
second_waiter_on_a_stream = source_trace 20 400 second_waiter_on_a_stream_program second_waiter_on_a_stream_world second_waiter_on_a_stream_lines refl
