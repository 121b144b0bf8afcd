-- Runs of drops and cancelling, computed.
use Rattle.std.proofs.Common.{List, [], ◌∷◌, refl}
use Rattle.std.specs.Prelude.{pos, true, false, codes}
use Rattle.std.specs.declared.option.Option.TheVariants.{None, Some}
use Rattle.flow_trace.specs.declared.line.Line.{Line}
use Rattle.flow_trace.specs.declared.line.Line.TheVariants as line
use Rattle.flow_worldfile.specs.Worlds.{World}
use Rattle.flow_worldfile.specs.declared.directive.Order.TheVariants as order
use Rattle.flow_tree.specs.Tree.{ByName, IntType, VoidType, ErrorType, FutureType, PromiseType, IntExpr, TextExpr, VoidExpr, VarExpr, CallExpr, MethodExpr, NoExprs, MoreExprs}
use Rattle.flow_tree.specs.Body.{End, LoopStmt, ReturnStmt, TryStmt, DeclareStmt, AssignStmt, CallStmt, WaitStmt}
use Rattle.flow_tree.specs.Decls.{ActorDecl, ProgramTree}
use Rattle.flow_meaning.specs.Runs.{SourceTrace, ClassTrace}
use Rattle.flow_meaning.proofs.Following.{source_trace, class_trace}
use Rattle.flow_meaning_tests.proofs.RowTerms.{nowhere, id, process, actor, cell, error}
use Rattle.flow_class.specs.declared.class.Slotted.TheVariants.{Slot}
use Rattle.flow_class.specs.Classes.{RawTree, EffectInstr, NewInstr, ActInstr, DropInstr, GotoLast, PassLast, ChooseLast, ReturnLast}

-- an actor whose last future is dropped while it runs: it goes on to its next wait
unfoldable pub dropped_while_running_program : ProgramTree
dropped_while_running_program = record {
  decls = ((ActorDecl (record {
    at = nowhere;
    returns = VoidType;
    name = (id (codes "a"));
    params = ((record { ty = (PromiseType VoidType); name = (id (codes "go")) }) ∷ []);
    body = (WaitStmt nowhere (record { into = None; next = false; operand = (CallExpr (id (codes "delay")) (MoreExprs (IntExpr (pos 1)) NoExprs)) })
        (CallStmt nowhere ((id (codes "go")) ∷ (id (codes "send")) ∷ []) (MoreExprs VoidExpr NoExprs)
        (CallStmt nowhere ((id (codes "trace")) ∷ []) (MoreExprs (TextExpr (codes "still running")) NoExprs)
        (WaitStmt nowhere (record { into = None; next = false; operand = (CallExpr (id (codes "Never")) NoExprs) }) (ReturnStmt nowhere (Some VoidExpr) End)))));
    close = nowhere;
  }))
      ∷ (ActorDecl (record {
        at = nowhere;
        returns = VoidType;
        name = (id (codes "main"));
        params = ((record { ty = IntType; name = (id (codes "p")) }) ∷ []);
        body = (DeclareStmt nowhere (record { state = true; ty = (PromiseType VoidType); name = (id (codes "go")) }) None
            (DeclareStmt nowhere (record { state = true; ty = (FutureType VoidType); name = (id (codes "f")) }) (Some (CallExpr (id (codes "a")) (MoreExprs (VarExpr (id (codes "go"))) NoExprs)))
            (WaitStmt nowhere (record { into = None; next = false; operand = (MethodExpr (VarExpr (id (codes "go"))) (ByName (id (codes "getFuture"))) NoExprs) })
            (AssignStmt nowhere ((id (codes "f")) ∷ []) (CallExpr (id (codes "Never")) NoExprs)
            (CallStmt nowhere ((id (codes "trace")) ∷ []) (MoreExprs (TextExpr (codes "dropped")) NoExprs) (ReturnStmt nowhere (Some VoidExpr) End))))));
        close = nowhere;
      })) ∷ []);
  end = nowhere;
}

unfoldable pub dropped_while_running_world : World
dropped_while_running_world = record { seed = 0; words = []; processes = 1; events = 1000; turns = 100000; latency = (1, 2); loss = 0; diskdelay = (1, 2); script = [] }

dropped_while_running_lines : List Line
dropped_while_running_lines =
    line.Head
    ∷ (line.Boot 1 0 (process 0))
    ∷ (line.Start (actor 1) (codes "main"))
    ∷ (line.Start (actor 2) (codes "a"))
    ∷ (line.Wait (actor 2) 1)
    ∷ (line.Wait (actor 1) 1)
    ∷ (line.Timer 2 1 (process 0) (cell 4))
    ∷ (line.Take (actor 2) 1 0)
    ∷ (line.Take (actor 1) 1 0)
    ∷ (line.Cancel (actor 2))
    ∷ (line.PrintText (actor 1) (codes "dropped"))
    ∷ (line.Finish (actor 1))
    ∷ (line.PrintText (actor 2) (codes "still running"))
    ∷ (line.Throw (actor 2) (error 1101))
    ∷ (line.Fail (actor 2) (error 1101))
    ∷ line.EndIdle ∷ []

dropped_while_running : SourceTrace dropped_while_running_program dropped_while_running_world dropped_while_running_lines
unfolding dropped_while_running_program dropped_while_running_world dropped_while_running_lines
dropped_while_running = source_trace 20 400 dropped_while_running_program dropped_while_running_world dropped_while_running_lines refl

unfoldable pub dropped_while_running_classes : RawTree
dropped_while_running_classes = record {
  records = [];
  functions = [];
  classes = ((record {
    name = (codes "a");
    returns = VoidType;
    params = 1;
    slots = ((record { ty = (PromiseType VoidType); name = (codes "go") }) ∷ []);
    locals = [];
    blocks = ((record { catcher = None; body = []; last = (ChooseLast 1) })
        ∷ (record {
          catcher = None;
          body = ((ActInstr ((id (codes "s0")) ∷ (id (codes "send")) ∷ []) (MoreExprs VoidExpr NoExprs))
              ∷ (ActInstr ((id (codes "trace")) ∷ []) (MoreExprs (TextExpr (codes "still running")) NoExprs)) ∷ []);
          last = (ChooseLast 2);
        })
        ∷ (record { catcher = None; body = []; last = (ReturnLast (Some VoidExpr)) }) ∷ []);
    groups = (((record { next = false; operand = (CallExpr (id (codes "delay")) (MoreExprs (IntExpr (pos 1)) NoExprs)); into = None; block = 1 }) ∷ [])
        ∷ ((record { next = false; operand = (CallExpr (id (codes "Never")) NoExprs); into = None; block = 2 }) ∷ []) ∷ []);
  })
      ∷ (record {
        name = (codes "main");
        returns = VoidType;
        params = 1;
        slots = ((record { ty = IntType; name = (codes "p") }) ∷ (record { ty = (PromiseType VoidType); name = (codes "go") }) ∷ (record { ty = (FutureType VoidType); name = (codes "f") }) ∷ []);
        locals = [];
        blocks = ((record {
          catcher = None;
          body = ((NewInstr (Slot 1)) ∷ (EffectInstr ((id (codes "s2")) ∷ []) (CallExpr (id (codes "a")) (MoreExprs (VarExpr (id (codes "s1"))) NoExprs)))
              ∷ []);
          last = (ChooseLast 1);
        }) ∷ (record {
          catcher = None;
          body = ((EffectInstr ((id (codes "s2")) ∷ []) (CallExpr (id (codes "Never")) NoExprs))
              ∷ (ActInstr ((id (codes "trace")) ∷ []) (MoreExprs (TextExpr (codes "dropped")) NoExprs)) ∷ []);
          last = (ReturnLast (Some VoidExpr));
        }) ∷ []);
        groups = (((record { next = false; operand = (MethodExpr (VarExpr (id (codes "s1"))) (ByName (id (codes "getFuture"))) NoExprs); into = None; block = 1 }) ∷ []) ∷ []);
      }) ∷ []);
}

dropped_while_running_by_classes : ClassTrace dropped_while_running_classes dropped_while_running_world dropped_while_running_lines
unfolding dropped_while_running_classes dropped_while_running_world dropped_while_running_lines
dropped_while_running_by_classes = class_trace 20 400 dropped_while_running_classes dropped_while_running_world dropped_while_running_lines refl

-- a stop cancels main, and main's variables cancel the others, newest first
unfoldable pub stop_cancels_in_order_program : ProgramTree
stop_cancels_in_order_program = record {
  decls = ((ActorDecl (record {
    at = nowhere;
    returns = VoidType;
    name = (id (codes "leaf"));
    params = ((record { ty = IntType; name = (id (codes "n")) }) ∷ []);
    body = (WaitStmt nowhere (record { into = None; next = false; operand = (CallExpr (id (codes "Never")) NoExprs) }) (ReturnStmt nowhere (Some VoidExpr) End));
    close = nowhere;
  }))
      ∷ (ActorDecl (record {
        at = nowhere;
        returns = VoidType;
        name = (id (codes "main"));
        params = ((record { ty = IntType; name = (id (codes "p")) }) ∷ []);
        body = (DeclareStmt nowhere (record { state = true; ty = (FutureType VoidType); name = (id (codes "x")) }) (Some (CallExpr (id (codes "leaf")) (MoreExprs (IntExpr (pos 1)) NoExprs)))
            (DeclareStmt nowhere (record { state = true; ty = (FutureType VoidType); name = (id (codes "y")) }) (Some (CallExpr (id (codes "leaf")) (MoreExprs (IntExpr (pos 2)) NoExprs)))
            (DeclareStmt nowhere (record { state = true; ty = (FutureType VoidType); name = (id (codes "z")) }) (Some (CallExpr (id (codes "leaf")) (MoreExprs (IntExpr (pos 3)) NoExprs)))
            (WaitStmt nowhere (record { into = None; next = false; operand = (CallExpr (id (codes "Never")) NoExprs) }) (ReturnStmt nowhere (Some VoidExpr) End)))));
        close = nowhere;
      })) ∷ []);
  end = nowhere;
}

unfoldable pub stop_cancels_in_order_world : World
stop_cancels_in_order_world = record { seed = 0; words = []; processes = 1; events = 1000; turns = 100000; latency = (1, 2); loss = 0; diskdelay = (1, 2); script = ((5, (order.Stop 0)) ∷ []) }

stop_cancels_in_order_lines : List Line
stop_cancels_in_order_lines =
    line.Head
    ∷ (line.Boot 1 0 (process 0))
    ∷ (line.Start (actor 1) (codes "main"))
    ∷ (line.Start (actor 2) (codes "leaf"))
    ∷ (line.Wait (actor 2) 1)
    ∷ (line.Start (actor 3) (codes "leaf"))
    ∷ (line.Wait (actor 3) 1)
    ∷ (line.Start (actor 4) (codes "leaf"))
    ∷ (line.Wait (actor 4) 1)
    ∷ (line.Wait (actor 1) 1)
    ∷ (line.Stop 2 5 (process 0))
    ∷ (line.Cancel (actor 1))
    ∷ (line.Throw (actor 1) (error 1101))
    ∷ (line.Cancel (actor 4))
    ∷ (line.Throw (actor 4) (error 1101))
    ∷ (line.Fail (actor 4) (error 1101))
    ∷ (line.Cancel (actor 3))
    ∷ (line.Throw (actor 3) (error 1101))
    ∷ (line.Fail (actor 3) (error 1101))
    ∷ (line.Cancel (actor 2))
    ∷ (line.Throw (actor 2) (error 1101))
    ∷ (line.Fail (actor 2) (error 1101))
    ∷ (line.Fail (actor 1) (error 1101))
    ∷ line.EndIdle ∷ []

stop_cancels_in_order : SourceTrace stop_cancels_in_order_program stop_cancels_in_order_world stop_cancels_in_order_lines
unfolding stop_cancels_in_order_program stop_cancels_in_order_world stop_cancels_in_order_lines
stop_cancels_in_order = source_trace 20 400 stop_cancels_in_order_program stop_cancels_in_order_world stop_cancels_in_order_lines refl

unfoldable pub stop_cancels_in_order_classes : RawTree
stop_cancels_in_order_classes = record {
  records = [];
  functions = [];
  classes = ((record {
    name = (codes "leaf");
    returns = VoidType;
    params = 1;
    slots = ((record { ty = IntType; name = (codes "n") }) ∷ []);
    locals = [];
    blocks = ((record { catcher = None; body = []; last = (ChooseLast 1) }) ∷ (record { catcher = None; body = []; last = (ReturnLast (Some VoidExpr)) }) ∷ []);
    groups = (((record { next = false; operand = (CallExpr (id (codes "Never")) NoExprs); into = None; block = 1 }) ∷ []) ∷ []);
  })
      ∷ (record {
        name = (codes "main");
        returns = VoidType;
        params = 1;
        slots = ((record { ty = IntType; name = (codes "p") }) ∷ (record { ty = (FutureType VoidType); name = (codes "x") }) ∷ (record { ty = (FutureType VoidType); name = (codes "y") })
            ∷ (record { ty = (FutureType VoidType); name = (codes "z") }) ∷ []);
        locals = [];
        blocks = ((record {
          catcher = None;
          body = ((EffectInstr ((id (codes "s1")) ∷ []) (CallExpr (id (codes "leaf")) (MoreExprs (IntExpr (pos 1)) NoExprs)))
              ∷ (EffectInstr ((id (codes "s2")) ∷ []) (CallExpr (id (codes "leaf")) (MoreExprs (IntExpr (pos 2)) NoExprs)))
              ∷ (EffectInstr ((id (codes "s3")) ∷ []) (CallExpr (id (codes "leaf")) (MoreExprs (IntExpr (pos 3)) NoExprs))) ∷ []);
          last = (ChooseLast 1);
        })
            ∷ (record { catcher = None; body = []; last = (ReturnLast (Some VoidExpr)) }) ∷ []);
        groups = (((record { next = false; operand = (CallExpr (id (codes "Never")) NoExprs); into = None; block = 1 }) ∷ []) ∷ []);
      }) ∷ []);
}

stop_cancels_in_order_by_classes : ClassTrace stop_cancels_in_order_classes stop_cancels_in_order_world stop_cancels_in_order_lines
unfolding stop_cancels_in_order_classes stop_cancels_in_order_world stop_cancels_in_order_lines
stop_cancels_in_order_by_classes = class_trace 20 400 stop_cancels_in_order_classes stop_cancels_in_order_world stop_cancels_in_order_lines refl

-- an actor that is cancelled by its future
unfoldable pub cancel_by_name_program : ProgramTree
cancel_by_name_program = record {
  decls = ((ActorDecl (record {
    at = nowhere;
    returns = VoidType;
    name = (id (codes "leaf"));
    params = ((record { ty = IntType; name = (id (codes "n")) }) ∷ []);
    body = (WaitStmt nowhere (record { into = None; next = false; operand = (CallExpr (id (codes "Never")) NoExprs) }) (ReturnStmt nowhere (Some VoidExpr) End));
    close = nowhere;
  }))
      ∷ (ActorDecl (record {
        at = nowhere;
        returns = VoidType;
        name = (id (codes "main"));
        params = ((record { ty = IntType; name = (id (codes "p")) }) ∷ []);
        body = (DeclareStmt nowhere (record { state = true; ty = (FutureType VoidType); name = (id (codes "f")) }) (Some (CallExpr (id (codes "leaf")) (MoreExprs (IntExpr (pos 1)) NoExprs)))
            (CallStmt nowhere ((id (codes "f")) ∷ (id (codes "cancel")) ∷ []) NoExprs
            (CallStmt nowhere ((id (codes "trace")) ∷ []) (MoreExprs (MethodExpr (VarExpr (id (codes "f"))) (ByName (id (codes "isError"))) NoExprs) NoExprs) (ReturnStmt nowhere (Some VoidExpr) End))));
        close = nowhere;
      }))
      ∷ []);
  end = nowhere;
}

unfoldable pub cancel_by_name_world : World
cancel_by_name_world = record { seed = 0; words = []; processes = 1; events = 1000; turns = 100000; latency = (1, 2); loss = 0; diskdelay = (1, 2); script = [] }

cancel_by_name_lines : List Line
cancel_by_name_lines =
    line.Head
    ∷ (line.Boot 1 0 (process 0))
    ∷ (line.Start (actor 1) (codes "main"))
    ∷ (line.Start (actor 2) (codes "leaf"))
    ∷ (line.Wait (actor 2) 1)
    ∷ (line.Cancel (actor 2))
    ∷ (line.Throw (actor 2) (error 1101))
    ∷ (line.Fail (actor 2) (error 1101))
    ∷ (line.PrintBool (actor 1) true)
    ∷ (line.Finish (actor 1))
    ∷ line.EndIdle ∷ []

cancel_by_name : SourceTrace cancel_by_name_program cancel_by_name_world cancel_by_name_lines
unfolding cancel_by_name_program cancel_by_name_world cancel_by_name_lines
cancel_by_name = source_trace 20 400 cancel_by_name_program cancel_by_name_world cancel_by_name_lines refl

-- a cancelled actor that catches 1101 at each wait, until its turns are spent
unfoldable pub catch_forever_is_spent_program : ProgramTree
catch_forever_is_spent_program = record {
  decls = ((ActorDecl (record {
    at = nowhere;
    returns = VoidType;
    name = (id (codes "main"));
    params = ((record { ty = IntType; name = (id (codes "p")) }) ∷ []);
    body = (LoopStmt nowhere (TryStmt nowhere (WaitStmt nowhere (record { into = None; next = false; operand = (CallExpr (id (codes "Never")) NoExprs) }) End) nowhere (id (codes "e"))
        (CallStmt nowhere ((id (codes "trace")) ∷ []) (MoreExprs (MethodExpr (VarExpr (id (codes "e"))) (ByName (id (codes "code"))) NoExprs) NoExprs) End) End) End);
    close = nowhere;
  })) ∷ []);
  end = nowhere;
}

unfoldable pub catch_forever_is_spent_world : World
catch_forever_is_spent_world = record { seed = 0; words = []; processes = 1; events = 1000; turns = 6; latency = (1, 2); loss = 0; diskdelay = (1, 2); script = ((1, (order.Stop 0)) ∷ []) }

catch_forever_is_spent_lines : List Line
catch_forever_is_spent_lines =
    line.Head
    ∷ (line.Boot 1 0 (process 0))
    ∷ (line.Start (actor 1) (codes "main"))
    ∷ (line.Wait (actor 1) 1)
    ∷ (line.Stop 2 1 (process 0))
    ∷ (line.Cancel (actor 1))
    ∷ (line.Throw (actor 1) (error 1101))
    ∷ (line.Catch (actor 1) (error 1101))
    ∷ (line.PrintInt (actor 1) (pos 1101))
    ∷ (line.Throw (actor 1) (error 1101))
    ∷ (line.Catch (actor 1) (error 1101))
    ∷ (line.PrintInt (actor 1) (pos 1101))
    ∷ (line.Throw (actor 1) (error 1101))
    ∷ (line.Catch (actor 1) (error 1101))
    ∷ (line.PrintInt (actor 1) (pos 1101))
    ∷ line.EndSpent ∷ []

catch_forever_is_spent : SourceTrace catch_forever_is_spent_program catch_forever_is_spent_world catch_forever_is_spent_lines
unfolding catch_forever_is_spent_program catch_forever_is_spent_world catch_forever_is_spent_lines
catch_forever_is_spent = source_trace 20 400 catch_forever_is_spent_program catch_forever_is_spent_world catch_forever_is_spent_lines refl

unfoldable pub catch_forever_is_spent_classes : RawTree
catch_forever_is_spent_classes = record {
  records = [];
  functions = [];
  classes = ((record {
    name = (codes "main");
    returns = VoidType;
    params = 1;
    slots = ((record { ty = IntType; name = (codes "p") }) ∷ []);
    locals = (ErrorType ∷ []);
    blocks = ((record { catcher = None; body = []; last = (PassLast 1) }) ∷ (record { catcher = None; body = []; last = (GotoLast 2) })
        ∷ (record { catcher = (Some (record { block = 4; error = (Some 0); drops = [] })); body = []; last = (ChooseLast 1) }) ∷ (record { catcher = None; body = []; last = (GotoLast 5) })
        ∷ (record {
          catcher = None;
          body = ((ActInstr ((id (codes "trace")) ∷ []) (MoreExprs (MethodExpr (VarExpr (id (codes "l0"))) (ByName (id (codes "code"))) NoExprs) NoExprs)) ∷ (DropInstr (0 ∷ [])) ∷ []);
          last = (GotoLast 5);
        }) ∷ (record { catcher = None; body = []; last = (PassLast 1) }) ∷ []);
    groups = (((record { next = false; operand = (CallExpr (id (codes "Never")) NoExprs); into = None; block = 3 }) ∷ []) ∷ []);
  }) ∷ []);
}

catch_forever_is_spent_by_classes : ClassTrace catch_forever_is_spent_classes catch_forever_is_spent_world catch_forever_is_spent_lines
unfolding catch_forever_is_spent_classes catch_forever_is_spent_world catch_forever_is_spent_lines
catch_forever_is_spent_by_classes = class_trace 20 400 catch_forever_is_spent_classes catch_forever_is_spent_world catch_forever_is_spent_lines refl
