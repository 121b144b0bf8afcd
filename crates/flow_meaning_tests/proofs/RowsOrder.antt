-- Runs that turn on the order of things, computed.
use Rattle.std.proofs.Common.{List, [], ◌∷◌, refl}
use Rattle.std.specs.Prelude.{pos, negsuc, true, false, codes}
use Rattle.std.specs.declared.option.Option.TheVariants.{None, Some}
use Rattle.flow_trace.specs.declared.line.Line.{Line}
use Rattle.flow_trace.specs.declared.line.Line.TheVariants as line
use Rattle.flow_worldfile.specs.Worlds.{World}
use Rattle.flow_worldfile.specs.declared.directive.Order.TheVariants as order
use Rattle.flow_tree.specs.declared.expr.Op.TheVariants.{Eq, Lt, Gt, Sub, Div}
use Rattle.flow_tree.specs.Tree.{ByName, IntType, VoidType, NamedType, FutureType, FutureStreamType, PromiseType, PromiseStreamType, IntExpr, TextExpr, VoidExpr, VarExpr, CallExpr, FieldExpr, MethodExpr, BinaryExpr, NoExprs, MoreExprs}
use Rattle.flow_tree.specs.Body.{UpChange, End, IfStmt, IfElseStmt, WhileStmt, LoopStmt, ReturnStmt, TryStmt, ChooseStmt, DeclareStmt, AssignStmt, ModifyStmt, CallStmt, WaitStmt, NoBranches, MoreBranches}
use Rattle.flow_tree.specs.Decls.{StructDecl, ActorDecl, ProgramTree}
use Rattle.flow_meaning.specs.Runs.{SourceTrace}
use Rattle.flow_meaning.proofs.Following.{source_trace}
use Rattle.flow_meaning_tests.proofs.RowTerms.{nowhere, id, process, actor, cell, error}
use Rattle.rand_pcg.specs.Lcg.{state_after}

-- a timer whose event would need a sixth turn: the drop of the timer's own promise reference
timer_turns_5_program : ProgramTree
timer_turns_5_program = record {
  decls = ((ActorDecl (record {
    at = nowhere;
    returns = VoidType;
    name = (id (codes "main"));
    params = ((record { ty = IntType; name = (id (codes "p")) }) ∷ []);
    body = (WaitStmt nowhere (record { into = None; next = false; operand = (CallExpr (id (codes "delay")) (MoreExprs (IntExpr (pos 1)) NoExprs)) }) (ReturnStmt nowhere (Some VoidExpr) End));
    close = nowhere;
  })) ∷ []);
  end = nowhere;
}

timer_turns_5_world : World
timer_turns_5_world = record { seed = 0; words = []; processes = 1; events = 1000; turns = 5; latency = (1, 2); loss = 0; diskdelay = (1, 2); script = [] }

timer_turns_5_lines : List Line
timer_turns_5_lines =
    line.Head
    ∷ (line.Boot 1 0 (process 0))
    ∷ (line.Start (actor 1) (codes "main"))
    ∷ (line.Wait (actor 1) 1)
    ∷ (line.Timer 2 1 (process 0) (cell 2))
    ∷ (line.Take (actor 1) 1 0)
    ∷ (line.Finish (actor 1))
    ∷ line.EndSpent ∷ []

timer_turns_5 : SourceTrace timer_turns_5_program timer_turns_5_world timer_turns_5_lines
unfolding timer_turns_5_program timer_turns_5_world timer_turns_5_lines state_after
timer_turns_5 = source_trace 20 400 timer_turns_5_program timer_turns_5_world timer_turns_5_lines refl

-- the same timer with six turns
timer_turns_6_program : ProgramTree
timer_turns_6_program = record {
  decls = ((ActorDecl (record {
    at = nowhere;
    returns = VoidType;
    name = (id (codes "main"));
    params = ((record { ty = IntType; name = (id (codes "p")) }) ∷ []);
    body = (WaitStmt nowhere (record { into = None; next = false; operand = (CallExpr (id (codes "delay")) (MoreExprs (IntExpr (pos 1)) NoExprs)) }) (ReturnStmt nowhere (Some VoidExpr) End));
    close = nowhere;
  })) ∷ []);
  end = nowhere;
}

timer_turns_6_world : World
timer_turns_6_world = record { seed = 0; words = []; processes = 1; events = 1000; turns = 6; latency = (1, 2); loss = 0; diskdelay = (1, 2); script = [] }

timer_turns_6_lines : List Line
timer_turns_6_lines =
    line.Head
    ∷ (line.Boot 1 0 (process 0))
    ∷ (line.Start (actor 1) (codes "main"))
    ∷ (line.Wait (actor 1) 1)
    ∷ (line.Timer 2 1 (process 0) (cell 2))
    ∷ (line.Take (actor 1) 1 0)
    ∷ (line.Finish (actor 1))
    ∷ line.EndIdle ∷ []

timer_turns_6 : SourceTrace timer_turns_6_program timer_turns_6_world timer_turns_6_lines
unfolding timer_turns_6_program timer_turns_6_world timer_turns_6_lines state_after
timer_turns_6 = source_trace 20 400 timer_turns_6_program timer_turns_6_world timer_turns_6_lines refl

-- no branch is ready at its own test, and the second operand makes the first branch ready: the second test takes it
second_test_program : ProgramTree
second_test_program = record {
  decls = ((ActorDecl (record {
    at = nowhere;
    returns = VoidType;
    name = (id (codes "starter"));
    params = ((record { ty = (PromiseType VoidType); name = (id (codes "q")) }) ∷ []);
    body = (CallStmt nowhere ((id (codes "q")) ∷ (id (codes "send")) ∷ []) (MoreExprs VoidExpr NoExprs)
        (WaitStmt nowhere (record { into = None; next = false; operand = (CallExpr (id (codes "Never")) NoExprs) }) (ReturnStmt nowhere (Some VoidExpr) End)));
    close = nowhere;
  }))
      ∷ (ActorDecl (record {
        at = nowhere;
        returns = VoidType;
        name = (id (codes "main"));
        params = ((record { ty = IntType; name = (id (codes "p")) }) ∷ []);
        body = (DeclareStmt nowhere (record { state = true; ty = (PromiseType VoidType); name = (id (codes "q")) }) None
            (ChooseStmt nowhere (MoreBranches nowhere (record { into = None; next = false; operand = (MethodExpr (VarExpr (id (codes "q"))) (ByName (id (codes "getFuture"))) NoExprs) })
            (CallStmt nowhere ((id (codes "trace")) ∷ []) (MoreExprs (TextExpr (codes "first")) NoExprs) End)
            (MoreBranches nowhere (record { into = None; next = false; operand = (CallExpr (id (codes "starter")) (MoreExprs (VarExpr (id (codes "q"))) NoExprs)) })
            (CallStmt nowhere ((id (codes "trace")) ∷ []) (MoreExprs (TextExpr (codes "second")) NoExprs) End) NoBranches)) (ReturnStmt nowhere (Some VoidExpr) End)));
        close = nowhere;
      })) ∷ []);
  end = nowhere;
}

second_test_world : World
second_test_world = record { seed = 0; words = []; processes = 1; events = 1000; turns = 100000; latency = (1, 2); loss = 0; diskdelay = (1, 2); script = [] }

second_test_lines : List Line
second_test_lines =
    line.Head
    ∷ (line.Boot 1 0 (process 0))
    ∷ (line.Start (actor 1) (codes "main"))
    ∷ (line.Start (actor 2) (codes "starter"))
    ∷ (line.Wait (actor 2) 1)
    ∷ (line.Take (actor 1) 1 0)
    ∷ (line.Cancel (actor 2))
    ∷ (line.Throw (actor 2) (error 1101))
    ∷ (line.Fail (actor 2) (error 1101))
    ∷ (line.PrintText (actor 1) (codes "first"))
    ∷ (line.Finish (actor 1))
    ∷ line.EndIdle ∷ []

second_test : SourceTrace second_test_program second_test_world second_test_lines
unfolding second_test_program second_test_world second_test_lines state_after
second_test = source_trace 20 400 second_test_program second_test_world second_test_lines refl

-- a later operand that is ready at its own test is taken before an earlier branch that became ready meanwhile
own_test_before_second_program : ProgramTree
own_test_before_second_program = record {
  decls = ((ActorDecl (record {
    at = nowhere;
    returns = VoidType;
    name = (id (codes "quick"));
    params = ((record { ty = (PromiseType VoidType); name = (id (codes "q")) }) ∷ []);
    body = (CallStmt nowhere ((id (codes "q")) ∷ (id (codes "send")) ∷ []) (MoreExprs VoidExpr NoExprs) (ReturnStmt nowhere (Some VoidExpr) End));
    close = nowhere;
  }))
      ∷ (ActorDecl (record {
        at = nowhere;
        returns = VoidType;
        name = (id (codes "main"));
        params = ((record { ty = IntType; name = (id (codes "p")) }) ∷ []);
        body = (DeclareStmt nowhere (record { state = true; ty = (PromiseType VoidType); name = (id (codes "q")) }) None
            (ChooseStmt nowhere (MoreBranches nowhere (record { into = None; next = false; operand = (MethodExpr (VarExpr (id (codes "q"))) (ByName (id (codes "getFuture"))) NoExprs) })
            (CallStmt nowhere ((id (codes "trace")) ∷ []) (MoreExprs (TextExpr (codes "first")) NoExprs) End)
            (MoreBranches nowhere (record { into = None; next = false; operand = (CallExpr (id (codes "quick")) (MoreExprs (VarExpr (id (codes "q"))) NoExprs)) })
            (CallStmt nowhere ((id (codes "trace")) ∷ []) (MoreExprs (TextExpr (codes "second")) NoExprs) End) NoBranches)) (ReturnStmt nowhere (Some VoidExpr) End)));
        close = nowhere;
      })) ∷ []);
  end = nowhere;
}

own_test_before_second_world : World
own_test_before_second_world = record { seed = 0; words = []; processes = 1; events = 1000; turns = 100000; latency = (1, 2); loss = 0; diskdelay = (1, 2); script = [] }

own_test_before_second_lines : List Line
own_test_before_second_lines =
    line.Head
    ∷ (line.Boot 1 0 (process 0))
    ∷ (line.Start (actor 1) (codes "main"))
    ∷ (line.Start (actor 2) (codes "quick"))
    ∷ (line.Finish (actor 2))
    ∷ (line.Take (actor 1) 1 1)
    ∷ (line.PrintText (actor 1) (codes "second"))
    ∷ (line.Finish (actor 1))
    ∷ line.EndIdle ∷ []

own_test_before_second : SourceTrace own_test_before_second_program own_test_before_second_world own_test_before_second_lines
unfolding own_test_before_second_program own_test_before_second_world own_test_before_second_lines state_after
own_test_before_second = source_trace 20 400 own_test_before_second_program own_test_before_second_world own_test_before_second_lines refl

-- an error in an operand: the operands kept are dropped, then the locals of the try body, and no other local
error_in_second_operand_program : ProgramTree
error_in_second_operand_program = record {
  decls = ((ActorDecl (record {
    at = nowhere;
    returns = VoidType;
    name = (id (codes "leaf"));
    params = ((record { ty = IntType; name = (id (codes "n")) }) ∷ []);
    body = (WaitStmt nowhere (record { into = None; next = false; operand = (CallExpr (id (codes "Never")) NoExprs) }) (ReturnStmt nowhere (Some VoidExpr) End));
    close = nowhere;
  }))
      ∷ (ActorDecl (record {
        at = nowhere;
        returns = VoidType;
        name = (id (codes "main"));
        params = ((record { ty = IntType; name = (id (codes "p")) }) ∷ []);
        body = (DeclareStmt nowhere (record { state = false; ty = (FutureType VoidType); name = (id (codes "out")) }) (Some (CallExpr (id (codes "leaf")) (MoreExprs (IntExpr (pos 1)) NoExprs)))
            (TryStmt nowhere (DeclareStmt nowhere (record { state = false; ty = (FutureType VoidType); name = (id (codes "in")) })
            (Some (CallExpr (id (codes "leaf")) (MoreExprs (IntExpr (pos 2)) NoExprs)))
            (ChooseStmt nowhere (MoreBranches nowhere (record { into = None; next = false; operand = (CallExpr (id (codes "leaf")) (MoreExprs (IntExpr (pos 3)) NoExprs)) }) End
            (MoreBranches nowhere (record { into = None; next = false; operand = (CallExpr (id (codes "delay")) (MoreExprs (BinaryExpr Div (IntExpr (pos 1)) (VarExpr (id (codes "p")))) NoExprs)) })
            End
            NoBranches)) End)) nowhere (id (codes "e")) (CallStmt nowhere ((id (codes "trace")) ∷ []) (MoreExprs (MethodExpr (VarExpr (id (codes "e"))) (ByName (id (codes "code"))) NoExprs) NoExprs) End)
            (ReturnStmt nowhere (Some VoidExpr) End)));
        close = nowhere;
      })) ∷ []);
  end = nowhere;
}

error_in_second_operand_world : World
error_in_second_operand_world = record { seed = 0; words = []; processes = 1; events = 1000; turns = 100000; latency = (1, 2); loss = 0; diskdelay = (1, 2); script = [] }

error_in_second_operand_lines : List Line
error_in_second_operand_lines =
    line.Head
    ∷ (line.Boot 1 0 (process 0))
    ∷ (line.Start (actor 1) (codes "main"))
    ∷ (line.Start (actor 2) (codes "leaf"))
    ∷ (line.Wait (actor 2) 1)
    ∷ (line.Start (actor 3) (codes "leaf"))
    ∷ (line.Wait (actor 3) 1)
    ∷ (line.Start (actor 4) (codes "leaf"))
    ∷ (line.Wait (actor 4) 1)
    ∷ (line.Throw (actor 1) (error 9001))
    ∷ (line.Cancel (actor 4))
    ∷ (line.Throw (actor 4) (error 1101))
    ∷ (line.Fail (actor 4) (error 1101))
    ∷ (line.Cancel (actor 3))
    ∷ (line.Throw (actor 3) (error 1101))
    ∷ (line.Fail (actor 3) (error 1101))
    ∷ (line.Catch (actor 1) (error 9001))
    ∷ (line.PrintInt (actor 1) (pos 9001))
    ∷ (line.Cancel (actor 2))
    ∷ (line.Throw (actor 2) (error 1101))
    ∷ (line.Fail (actor 2) (error 1101))
    ∷ (line.Finish (actor 1))
    ∷ line.EndIdle ∷ []

error_in_second_operand : SourceTrace error_in_second_operand_program error_in_second_operand_world error_in_second_operand_lines
unfolding error_in_second_operand_program error_in_second_operand_world error_in_second_operand_lines state_after
error_in_second_operand = source_trace 20 400 error_in_second_operand_program error_in_second_operand_world error_in_second_operand_lines refl

-- a second waiter at one stream: all operands are dropped, then all locals, and then 9003 is thrown
refused_registration_program : ProgramTree
refused_registration_program = record {
  decls = ((ActorDecl (record {
    at = nowhere;
    returns = VoidType;
    name = (id (codes "leaf"));
    params = ((record { ty = IntType; name = (id (codes "n")) }) ∷ []);
    body = (WaitStmt nowhere (record { into = None; next = false; operand = (CallExpr (id (codes "Never")) NoExprs) }) (ReturnStmt nowhere (Some VoidExpr) End));
    close = nowhere;
  }))
      ∷ (ActorDecl (record {
        at = nowhere;
        returns = VoidType;
        name = (id (codes "main"));
        params = ((record { ty = IntType; name = (id (codes "p")) }) ∷ []);
        body = (DeclareStmt nowhere (record { state = true; ty = (PromiseStreamType IntType); name = (id (codes "q")) }) None
            (DeclareStmt nowhere (record { state = false; ty = (FutureType VoidType); name = (id (codes "local")) }) (Some (CallExpr (id (codes "leaf")) (MoreExprs (IntExpr (pos 1)) NoExprs)))
            (TryStmt nowhere (ChooseStmt nowhere (MoreBranches nowhere (record { into = None; next = false; operand = (CallExpr (id (codes "leaf")) (MoreExprs (IntExpr (pos 2)) NoExprs)) }) End
            (MoreBranches nowhere (record {
              into = (Some (record { state = false; ty = IntType; name = (id (codes "a")) }));
              next = true;
              operand = (MethodExpr (VarExpr (id (codes "q"))) (ByName (id (codes "getFuture"))) NoExprs);
            }) End
            (MoreBranches nowhere (record {
              into = (Some (record { state = false; ty = IntType; name = (id (codes "b")) }));
              next = true;
              operand = (MethodExpr (VarExpr (id (codes "q"))) (ByName (id (codes "getFuture"))) NoExprs);
            }) End NoBranches))) End) nowhere (id (codes "e"))
            (CallStmt nowhere ((id (codes "trace")) ∷ []) (MoreExprs (MethodExpr (VarExpr (id (codes "e"))) (ByName (id (codes "code"))) NoExprs) NoExprs) End) (ReturnStmt nowhere (Some VoidExpr) End))));
        close = nowhere;
      }))
      ∷ []);
  end = nowhere;
}

refused_registration_world : World
refused_registration_world = record { seed = 0; words = []; processes = 1; events = 1000; turns = 100000; latency = (1, 2); loss = 0; diskdelay = (1, 2); script = [] }

refused_registration_lines : List Line
refused_registration_lines =
    line.Head
    ∷ (line.Boot 1 0 (process 0))
    ∷ (line.Start (actor 1) (codes "main"))
    ∷ (line.Start (actor 2) (codes "leaf"))
    ∷ (line.Wait (actor 2) 1)
    ∷ (line.Start (actor 3) (codes "leaf"))
    ∷ (line.Wait (actor 3) 1)
    ∷ (line.Cancel (actor 3))
    ∷ (line.Throw (actor 3) (error 1101))
    ∷ (line.Fail (actor 3) (error 1101))
    ∷ (line.Cancel (actor 2))
    ∷ (line.Throw (actor 2) (error 1101))
    ∷ (line.Fail (actor 2) (error 1101))
    ∷ (line.Throw (actor 1) (error 9003))
    ∷ (line.Catch (actor 1) (error 9003))
    ∷ (line.PrintInt (actor 1) (pos 9003))
    ∷ (line.Finish (actor 1))
    ∷ line.EndIdle ∷ []

refused_registration : SourceTrace refused_registration_program refused_registration_world refused_registration_lines
unfolding refused_registration_program refused_registration_world refused_registration_lines state_after
refused_registration = source_trace 20 400 refused_registration_program refused_registration_world refused_registration_lines refl

-- an actor that is cancelled while an operand of its wait starts: it leaves the wait before the next test
cancelled_while_starting_program : ProgramTree
cancelled_while_starting_program = record {
  decls = ((ActorDecl (record {
    at = nowhere;
    returns = VoidType;
    name = (id (codes "victim"));
    params = ((record { ty = (FutureType VoidType); name = (id (codes "go")) }) ∷ (record { ty = (PromiseType VoidType); name = (id (codes "tell")) }) ∷ []);
    body = (WaitStmt nowhere (record { into = None; next = false; operand = (VarExpr (id (codes "go"))) })
        (ChooseStmt nowhere (MoreBranches nowhere (record { into = None; next = false; operand = (CallExpr (id (codes "leaf")) (MoreExprs (IntExpr (pos 1)) NoExprs)) }) End
        (MoreBranches nowhere (record { into = None; next = false; operand = (CallExpr (id (codes "poke")) (MoreExprs (VarExpr (id (codes "tell"))) NoExprs)) }) End NoBranches))
        (ReturnStmt nowhere (Some VoidExpr) End)));
    close = nowhere;
  })) ∷ (ActorDecl
      (record {
        at = nowhere;
        returns = VoidType;
        name = (id (codes "poke"));
        params = ((record { ty = (PromiseType VoidType); name = (id (codes "tell")) }) ∷ []);
        body = (CallStmt nowhere ((id (codes "tell")) ∷ (id (codes "send")) ∷ []) (MoreExprs VoidExpr NoExprs)
            (WaitStmt nowhere (record { into = None; next = false; operand = (CallExpr (id (codes "Never")) NoExprs) }) (ReturnStmt nowhere (Some VoidExpr) End)));
        close = nowhere;
      }))
      ∷ (ActorDecl (record {
        at = nowhere;
        returns = VoidType;
        name = (id (codes "leaf"));
        params = ((record { ty = IntType; name = (id (codes "n")) }) ∷ []);
        body = (WaitStmt nowhere (record { into = None; next = false; operand = (CallExpr (id (codes "Never")) NoExprs) }) (ReturnStmt nowhere (Some VoidExpr) End));
        close = nowhere;
      }))
      ∷ (ActorDecl (record {
        at = nowhere;
        returns = VoidType;
        name = (id (codes "main"));
        params = ((record { ty = IntType; name = (id (codes "p")) }) ∷ []);
        body = (DeclareStmt nowhere (record { state = true; ty = (PromiseType VoidType); name = (id (codes "go")) }) None
            (DeclareStmt nowhere (record { state = true; ty = (PromiseType VoidType); name = (id (codes "tell")) }) None
            (DeclareStmt nowhere (record { state = true; ty = (FutureType VoidType); name = (id (codes "v")) })
            (Some (CallExpr (id (codes "victim")) (MoreExprs (MethodExpr (VarExpr (id (codes "go"))) (ByName (id (codes "getFuture"))) NoExprs) (MoreExprs (VarExpr (id (codes "tell"))) NoExprs))))
            (DeclareStmt nowhere (record { state = true; ty = (FutureType VoidType); name = (id (codes "k")) })
            (Some (CallExpr (id (codes "killer")) (MoreExprs (MethodExpr (VarExpr (id (codes "tell"))) (ByName (id (codes "getFuture"))) NoExprs) (MoreExprs (VarExpr (id (codes "v"))) NoExprs))))
            (AssignStmt nowhere ((id (codes "v")) ∷ []) (CallExpr (id (codes "Never")) NoExprs)
            (CallStmt nowhere ((id (codes "go")) ∷ (id (codes "send")) ∷ []) (MoreExprs VoidExpr NoExprs)
            (CallStmt nowhere ((id (codes "trace")) ∷ []) (MoreExprs (TextExpr (codes "after")) NoExprs) (ReturnStmt nowhere (Some VoidExpr) End))))))));
        close = nowhere;
      }))
      ∷ (ActorDecl (record {
        at = nowhere;
        returns = VoidType;
        name = (id (codes "killer"));
        params = ((record { ty = (FutureType VoidType); name = (id (codes "told")) }) ∷ (record { ty = (FutureType VoidType); name = (id (codes "v")) }) ∷ []);
        body = (WaitStmt nowhere (record { into = None; next = false; operand = (VarExpr (id (codes "told"))) })
            (AssignStmt nowhere ((id (codes "v")) ∷ []) (CallExpr (id (codes "Never")) NoExprs)
            (CallStmt nowhere ((id (codes "trace")) ∷ []) (MoreExprs (TextExpr (codes "dropped")) NoExprs) (ReturnStmt nowhere (Some VoidExpr) End))));
        close = nowhere;
      })) ∷ []);
  end = nowhere;
}

cancelled_while_starting_world : World
cancelled_while_starting_world = record { seed = 0; words = []; processes = 1; events = 1000; turns = 100000; latency = (1, 2); loss = 0; diskdelay = (1, 2); script = [] }

cancelled_while_starting_lines : List Line
cancelled_while_starting_lines =
    line.Head
    ∷ (line.Boot 1 0 (process 0))
    ∷ (line.Start (actor 1) (codes "main"))
    ∷ (line.Start (actor 2) (codes "victim"))
    ∷ (line.Wait (actor 2) 1)
    ∷ (line.Start (actor 3) (codes "killer"))
    ∷ (line.Wait (actor 3) 1)
    ∷ (line.Take (actor 2) 1 0)
    ∷ (line.Start (actor 4) (codes "leaf"))
    ∷ (line.Wait (actor 4) 1)
    ∷ (line.Start (actor 5) (codes "poke"))
    ∷ (line.Take (actor 3) 1 0)
    ∷ (line.Cancel (actor 2))
    ∷ (line.PrintText (actor 3) (codes "dropped"))
    ∷ (line.Finish (actor 3))
    ∷ (line.Wait (actor 5) 1)
    ∷ (line.Cancel (actor 4))
    ∷ (line.Throw (actor 4) (error 1101))
    ∷ (line.Fail (actor 4) (error 1101))
    ∷ (line.Cancel (actor 5))
    ∷ (line.Throw (actor 5) (error 1101))
    ∷ (line.Fail (actor 5) (error 1101))
    ∷ (line.Throw (actor 2) (error 1101))
    ∷ (line.Fail (actor 2) (error 1101))
    ∷ (line.PrintText (actor 1) (codes "after"))
    ∷ (line.Finish (actor 1))
    ∷ line.EndIdle ∷ []

cancelled_while_starting : SourceTrace cancelled_while_starting_program cancelled_while_starting_world cancelled_while_starting_lines
unfolding cancelled_while_starting_program cancelled_while_starting_world cancelled_while_starting_lines state_after
cancelled_while_starting = source_trace 20 400 cancelled_while_starting_program cancelled_while_starting_world cancelled_while_starting_lines refl

-- a state variable that is declared again: the new cell is numbered first, then the old one is broken
promise_again_in_loop_program : ProgramTree
promise_again_in_loop_program = record {
  decls = ((ActorDecl (record {
    at = nowhere;
    returns = VoidType;
    name = (id (codes "watch"));
    params = ((record { ty = (FutureType VoidType); name = (id (codes "f")) }) ∷ []);
    body = (TryStmt nowhere (WaitStmt nowhere (record { into = None; next = false; operand = (VarExpr (id (codes "f"))) }) End) nowhere (id (codes "e"))
        (CallStmt nowhere ((id (codes "trace")) ∷ []) (MoreExprs (MethodExpr (VarExpr (id (codes "e"))) (ByName (id (codes "code"))) NoExprs) NoExprs) End) (ReturnStmt nowhere (Some VoidExpr) End));
    close = nowhere;
  }))
      ∷ (ActorDecl (record {
        at = nowhere;
        returns = VoidType;
        name = (id (codes "main"));
        params = ((record { ty = IntType; name = (id (codes "p")) }) ∷ []);
        body = (DeclareStmt nowhere (record { state = true; ty = IntType; name = (id (codes "i")) }) (Some (IntExpr (pos 0)))
            (DeclareStmt nowhere (record { state = true; ty = (FutureType VoidType); name = (id (codes "w")) }) (Some (CallExpr (id (codes "Never")) NoExprs))
            (WhileStmt nowhere (BinaryExpr Lt (VarExpr (id (codes "i"))) (IntExpr (pos 2)))
            (DeclareStmt nowhere (record { state = true; ty = (PromiseType VoidType); name = (id (codes "q")) }) None
            (AssignStmt nowhere ((id (codes "w")) ∷ []) (CallExpr (id (codes "watch")) (MoreExprs (MethodExpr (VarExpr (id (codes "q"))) (ByName (id (codes "getFuture"))) NoExprs) NoExprs))
            (ModifyStmt nowhere ((id (codes "i")) ∷ []) UpChange End))) (ReturnStmt nowhere (Some VoidExpr) End))));
        close = nowhere;
      })) ∷ []);
  end = nowhere;
}

promise_again_in_loop_world : World
promise_again_in_loop_world = record { seed = 0; words = []; processes = 1; events = 1000; turns = 100000; latency = (1, 2); loss = 0; diskdelay = (1, 2); script = [] }

promise_again_in_loop_lines : List Line
promise_again_in_loop_lines =
    line.Head
    ∷ (line.Boot 1 0 (process 0))
    ∷ (line.Start (actor 1) (codes "main"))
    ∷ (line.Start (actor 2) (codes "watch"))
    ∷ (line.Wait (actor 2) 1)
    ∷ (line.Broken (cell 3))
    ∷ (line.Take (actor 2) 1 0)
    ∷ (line.Throw (actor 2) (error 1100))
    ∷ (line.Catch (actor 2) (error 1100))
    ∷ (line.PrintInt (actor 2) (pos 1100))
    ∷ (line.Finish (actor 2))
    ∷ (line.Start (actor 3) (codes "watch"))
    ∷ (line.Wait (actor 3) 1)
    ∷ (line.Broken (cell 5))
    ∷ (line.Take (actor 3) 1 0)
    ∷ (line.Throw (actor 3) (error 1100))
    ∷ (line.Catch (actor 3) (error 1100))
    ∷ (line.PrintInt (actor 3) (pos 1100))
    ∷ (line.Finish (actor 3))
    ∷ (line.Finish (actor 1))
    ∷ line.EndIdle ∷ []

promise_again_in_loop : SourceTrace promise_again_in_loop_program promise_again_in_loop_world promise_again_in_loop_lines
unfolding promise_again_in_loop_program promise_again_in_loop_world promise_again_in_loop_lines state_after
promise_again_in_loop = source_trace 20 400 promise_again_in_loop_program promise_again_in_loop_world promise_again_in_loop_lines refl

-- a suspended actor whose dropped local holds its own last future: it is cancelled at once
own_future_in_a_local_program : ProgramTree
own_future_in_a_local_program = record {
  decls = ((ActorDecl (record {
    at = nowhere;
    returns = VoidType;
    name = (id (codes "self"));
    params = ((record { ty = (FutureStreamType (FutureType VoidType)); name = (id (codes "box")) }) ∷ []);
    body = (WaitStmt nowhere (record { into = (Some (record { state = false; ty = (FutureType VoidType); name = (id (codes "me")) })); next = true; operand = (VarExpr (id (codes "box"))) })
        (CallStmt nowhere ((id (codes "trace")) ∷ []) (MoreExprs (MethodExpr (VarExpr (id (codes "me"))) (ByName (id (codes "isReady"))) NoExprs) NoExprs)
        (WaitStmt nowhere (record { into = None; next = false; operand = (CallExpr (id (codes "Never")) NoExprs) }) (ReturnStmt nowhere (Some VoidExpr) End))));
    close = nowhere;
  }))
      ∷ (ActorDecl (record {
        at = nowhere;
        returns = VoidType;
        name = (id (codes "main"));
        params = ((record { ty = IntType; name = (id (codes "p")) }) ∷ []);
        body = (DeclareStmt nowhere (record { state = true; ty = (PromiseStreamType (FutureType VoidType)); name = (id (codes "box")) }) None
            (DeclareStmt nowhere (record { state = false; ty = (FutureType VoidType); name = (id (codes "f")) })
            (Some (CallExpr (id (codes "self")) (MoreExprs (MethodExpr (VarExpr (id (codes "box"))) (ByName (id (codes "getFuture"))) NoExprs) NoExprs)))
            (CallStmt nowhere ((id (codes "box")) ∷ (id (codes "send")) ∷ []) (MoreExprs (VarExpr (id (codes "f"))) NoExprs)
            (CallStmt nowhere ((id (codes "trace")) ∷ []) (MoreExprs (TextExpr (codes "sent")) NoExprs)
            (WaitStmt nowhere (record { into = None; next = false; operand = (CallExpr (id (codes "delay")) (MoreExprs (IntExpr (pos 1)) NoExprs)) })
            (CallStmt nowhere ((id (codes "trace")) ∷ []) (MoreExprs (TextExpr (codes "later")) NoExprs) (ReturnStmt nowhere (Some VoidExpr) End)))))));
        close = nowhere;
      })) ∷ []);
  end = nowhere;
}

own_future_in_a_local_world : World
own_future_in_a_local_world = record { seed = 0; words = []; processes = 1; events = 1000; turns = 100000; latency = (1, 2); loss = 0; diskdelay = (1, 2); script = [] }

own_future_in_a_local_lines : List Line
own_future_in_a_local_lines =
    line.Head
    ∷ (line.Boot 1 0 (process 0))
    ∷ (line.Start (actor 1) (codes "main"))
    ∷ (line.Start (actor 2) (codes "self"))
    ∷ (line.Wait (actor 2) 1)
    ∷ (line.Take (actor 2) 1 0)
    ∷ (line.PrintBool (actor 2) false)
    ∷ (line.Wait (actor 2) 2)
    ∷ (line.PrintText (actor 1) (codes "sent"))
    ∷ (line.Wait (actor 1) 1)
    ∷ (line.Cancel (actor 2))
    ∷ (line.Throw (actor 2) (error 1101))
    ∷ (line.Fail (actor 2) (error 1101))
    ∷ (line.Timer 2 1 (process 0) (cell 5))
    ∷ (line.Take (actor 1) 1 0)
    ∷ (line.PrintText (actor 1) (codes "later"))
    ∷ (line.Finish (actor 1))
    ∷ line.EndIdle ∷ []

own_future_in_a_local : SourceTrace own_future_in_a_local_program own_future_in_a_local_world own_future_in_a_local_lines
unfolding own_future_in_a_local_program own_future_in_a_local_world own_future_in_a_local_lines state_after
own_future_in_a_local = source_trace 20 400 own_future_in_a_local_program own_future_in_a_local_world own_future_in_a_local_lines refl

-- a branch is taken: what the other branches waited for is dropped and cancelled before the branch runs
withdrawal_before_branch_program : ProgramTree
withdrawal_before_branch_program = record {
  decls = ((ActorDecl (record {
    at = nowhere;
    returns = VoidType;
    name = (id (codes "leaf"));
    params = ((record { ty = IntType; name = (id (codes "n")) }) ∷ []);
    body = (WaitStmt nowhere (record { into = None; next = false; operand = (CallExpr (id (codes "Never")) NoExprs) }) (ReturnStmt nowhere (Some VoidExpr) End));
    close = nowhere;
  }))
      ∷ (ActorDecl (record {
        at = nowhere;
        returns = VoidType;
        name = (id (codes "main"));
        params = ((record { ty = IntType; name = (id (codes "p")) }) ∷ []);
        body = (ChooseStmt nowhere (MoreBranches nowhere (record { into = None; next = false; operand = (CallExpr (id (codes "leaf")) (MoreExprs (IntExpr (pos 1)) NoExprs)) }) End
            (MoreBranches nowhere (record { into = None; next = false; operand = (CallExpr (id (codes "delay")) (MoreExprs (IntExpr (pos 1)) NoExprs)) })
            (CallStmt nowhere ((id (codes "trace")) ∷ []) (MoreExprs (TextExpr (codes "branch")) NoExprs) End)
            (MoreBranches nowhere (record { into = None; next = false; operand = (CallExpr (id (codes "leaf")) (MoreExprs (IntExpr (pos 2)) NoExprs)) }) End NoBranches)))
            (ReturnStmt nowhere (Some VoidExpr) End));
        close = nowhere;
      })) ∷ []);
  end = nowhere;
}

withdrawal_before_branch_world : World
withdrawal_before_branch_world = record { seed = 0; words = []; processes = 1; events = 1000; turns = 100000; latency = (1, 2); loss = 0; diskdelay = (1, 2); script = [] }

withdrawal_before_branch_lines : List Line
withdrawal_before_branch_lines =
    line.Head
    ∷ (line.Boot 1 0 (process 0))
    ∷ (line.Start (actor 1) (codes "main"))
    ∷ (line.Start (actor 2) (codes "leaf"))
    ∷ (line.Wait (actor 2) 1)
    ∷ (line.Start (actor 3) (codes "leaf"))
    ∷ (line.Wait (actor 3) 1)
    ∷ (line.Wait (actor 1) 1)
    ∷ (line.Timer 2 1 (process 0) (cell 4))
    ∷ (line.Take (actor 1) 1 1)
    ∷ (line.Cancel (actor 2))
    ∷ (line.Throw (actor 2) (error 1101))
    ∷ (line.Fail (actor 2) (error 1101))
    ∷ (line.Cancel (actor 3))
    ∷ (line.Throw (actor 3) (error 1101))
    ∷ (line.Fail (actor 3) (error 1101))
    ∷ (line.PrintText (actor 1) (codes "branch"))
    ∷ (line.Finish (actor 1))
    ∷ line.EndIdle ∷ []

withdrawal_before_branch : SourceTrace withdrawal_before_branch_program withdrawal_before_branch_world withdrawal_before_branch_lines
unfolding withdrawal_before_branch_program withdrawal_before_branch_world withdrawal_before_branch_lines state_after
withdrawal_before_branch = source_trace 20 400 withdrawal_before_branch_program withdrawal_before_branch_world withdrawal_before_branch_lines refl

-- an actor that is cancelled while its variables are dropped at its end: it still ends well
cancelled_while_closing_program : ProgramTree
cancelled_while_closing_program = record {
  decls = ((ActorDecl (record {
    at = nowhere;
    returns = VoidType;
    name = (id (codes "noisy"));
    params = ((record { ty = (PromiseType VoidType); name = (id (codes "tell")) }) ∷ []);
    body = (TryStmt nowhere (WaitStmt nowhere (record { into = None; next = false; operand = (CallExpr (id (codes "Never")) NoExprs) }) End) nowhere (id (codes "e"))
        (CallStmt nowhere ((id (codes "tell")) ∷ (id (codes "send")) ∷ []) (MoreExprs VoidExpr NoExprs) End) (ReturnStmt nowhere (Some VoidExpr) End));
    close = nowhere;
  }))
      ∷ (ActorDecl (record {
        at = nowhere;
        returns = IntType;
        name = (id (codes "closing"));
        params = ((record { ty = (FutureType VoidType); name = (id (codes "go")) }) ∷ (record { ty = (PromiseType VoidType); name = (id (codes "tell")) }) ∷ []);
        body = (DeclareStmt nowhere (record { state = true; ty = (FutureType VoidType); name = (id (codes "n")) })
            (Some (CallExpr (id (codes "noisy")) (MoreExprs (VarExpr (id (codes "tell"))) NoExprs)))
            (WaitStmt nowhere (record { into = None; next = false; operand = (VarExpr (id (codes "go"))) }) (ReturnStmt nowhere (Some (IntExpr (pos 7))) End)));
        close = nowhere;
      }))
      ∷ (ActorDecl (record {
        at = nowhere;
        returns = VoidType;
        name = (id (codes "holder"));
        params = ((record { ty = (FutureType VoidType); name = (id (codes "told")) }) ∷ (record { ty = (FutureType IntType); name = (id (codes "c")) }) ∷ []);
        body = (WaitStmt nowhere (record { into = None; next = false; operand = (VarExpr (id (codes "told"))) })
            (AssignStmt nowhere ((id (codes "c")) ∷ []) (CallExpr (id (codes "never")) (MoreExprs (IntExpr (pos 1)) NoExprs))
            (CallStmt nowhere ((id (codes "trace")) ∷ []) (MoreExprs (TextExpr (codes "gone")) NoExprs) (ReturnStmt nowhere (Some VoidExpr) End))));
        close = nowhere;
      }))
      ∷ (ActorDecl (record {
        at = nowhere;
        returns = IntType;
        name = (id (codes "never"));
        params = ((record { ty = IntType; name = (id (codes "n")) }) ∷ []);
        body = (WaitStmt nowhere (record { into = None; next = false; operand = (CallExpr (id (codes "Never")) NoExprs) }) (ReturnStmt nowhere (Some (VarExpr (id (codes "n")))) End));
        close = nowhere;
      }))
      ∷ (ActorDecl (record {
        at = nowhere;
        returns = VoidType;
        name = (id (codes "main"));
        params = ((record { ty = IntType; name = (id (codes "p")) }) ∷ []);
        body = (DeclareStmt nowhere (record { state = true; ty = (PromiseType VoidType); name = (id (codes "go")) }) None
            (DeclareStmt nowhere (record { state = true; ty = (PromiseType VoidType); name = (id (codes "tell")) }) None
            (DeclareStmt nowhere (record { state = true; ty = (FutureType IntType); name = (id (codes "c")) })
            (Some (CallExpr (id (codes "closing")) (MoreExprs (MethodExpr (VarExpr (id (codes "go"))) (ByName (id (codes "getFuture"))) NoExprs) (MoreExprs (VarExpr (id (codes "tell"))) NoExprs))))
            (DeclareStmt nowhere (record { state = true; ty = (FutureType VoidType); name = (id (codes "h")) })
            (Some (CallExpr (id (codes "holder")) (MoreExprs (MethodExpr (VarExpr (id (codes "tell"))) (ByName (id (codes "getFuture"))) NoExprs) (MoreExprs (VarExpr (id (codes "c"))) NoExprs))))
            (AssignStmt nowhere ((id (codes "c")) ∷ []) (CallExpr (id (codes "never")) (MoreExprs (IntExpr (pos 2)) NoExprs))
            (CallStmt nowhere ((id (codes "go")) ∷ (id (codes "send")) ∷ []) (MoreExprs VoidExpr NoExprs)
            (CallStmt nowhere ((id (codes "trace")) ∷ []) (MoreExprs (TextExpr (codes "end")) NoExprs) (ReturnStmt nowhere (Some VoidExpr) End))))))));
        close = nowhere;
      })) ∷ []);
  end = nowhere;
}

cancelled_while_closing_world : World
cancelled_while_closing_world = record { seed = 0; words = []; processes = 1; events = 1000; turns = 100000; latency = (1, 2); loss = 0; diskdelay = (1, 2); script = [] }

cancelled_while_closing_lines : List Line
cancelled_while_closing_lines =
    line.Head
    ∷ (line.Boot 1 0 (process 0))
    ∷ (line.Start (actor 1) (codes "main"))
    ∷ (line.Start (actor 2) (codes "closing"))
    ∷ (line.Start (actor 3) (codes "noisy"))
    ∷ (line.Wait (actor 3) 1)
    ∷ (line.Wait (actor 2) 1)
    ∷ (line.Start (actor 4) (codes "holder"))
    ∷ (line.Wait (actor 4) 1)
    ∷ (line.Start (actor 5) (codes "never"))
    ∷ (line.Wait (actor 5) 1)
    ∷ (line.Take (actor 2) 1 0)
    ∷ (line.Cancel (actor 3))
    ∷ (line.Throw (actor 3) (error 1101))
    ∷ (line.Catch (actor 3) (error 1101))
    ∷ (line.Take (actor 4) 1 0)
    ∷ (line.Start (actor 6) (codes "never"))
    ∷ (line.Wait (actor 6) 1)
    ∷ (line.Cancel (actor 2))
    ∷ (line.PrintText (actor 4) (codes "gone"))
    ∷ (line.Cancel (actor 6))
    ∷ (line.Throw (actor 6) (error 1101))
    ∷ (line.Fail (actor 6) (error 1101))
    ∷ (line.Finish (actor 4))
    ∷ (line.Finish (actor 3))
    ∷ (line.Finish (actor 2))
    ∷ (line.PrintText (actor 1) (codes "end"))
    ∷ (line.Cancel (actor 5))
    ∷ (line.Throw (actor 5) (error 1101))
    ∷ (line.Fail (actor 5) (error 1101))
    ∷ (line.Finish (actor 1))
    ∷ line.EndIdle ∷ []

cancelled_while_closing : SourceTrace cancelled_while_closing_program cancelled_while_closing_world cancelled_while_closing_lines
unfolding cancelled_while_closing_program cancelled_while_closing_world cancelled_while_closing_lines state_after
cancelled_while_closing = source_trace 20 400 cancelled_while_closing_program cancelled_while_closing_world cancelled_while_closing_lines refl

-- an error of an argument of `send` comes before the error of a second send
argument_before_9004_program : ProgramTree
argument_before_9004_program = record {
  decls = ((ActorDecl (record {
    at = nowhere;
    returns = VoidType;
    name = (id (codes "main"));
    params = ((record { ty = IntType; name = (id (codes "p")) }) ∷ []);
    body = (DeclareStmt nowhere (record { state = true; ty = (PromiseType IntType); name = (id (codes "q")) }) None
        (CallStmt nowhere ((id (codes "q")) ∷ (id (codes "send")) ∷ []) (MoreExprs (IntExpr (pos 1)) NoExprs)
        (TryStmt nowhere (CallStmt nowhere ((id (codes "q")) ∷ (id (codes "send")) ∷ []) (MoreExprs (BinaryExpr Div (IntExpr (pos 1)) (VarExpr (id (codes "p")))) NoExprs) End) nowhere (id (codes "e"))
        (CallStmt nowhere ((id (codes "trace")) ∷ []) (MoreExprs (MethodExpr (VarExpr (id (codes "e"))) (ByName (id (codes "code"))) NoExprs) NoExprs) End)
        (TryStmt nowhere (CallStmt nowhere ((id (codes "q")) ∷ (id (codes "send")) ∷ []) (MoreExprs (IntExpr (pos 2)) NoExprs) End) nowhere (id (codes "e"))
        (CallStmt nowhere ((id (codes "trace")) ∷ []) (MoreExprs (MethodExpr (VarExpr (id (codes "e"))) (ByName (id (codes "code"))) NoExprs) NoExprs) End) (ReturnStmt nowhere (Some VoidExpr) End)))));
    close = nowhere;
  })) ∷ []);
  end = nowhere;
}

argument_before_9004_world : World
argument_before_9004_world = record { seed = 0; words = []; processes = 1; events = 1000; turns = 100000; latency = (1, 2); loss = 0; diskdelay = (1, 2); script = [] }

argument_before_9004_lines : List Line
argument_before_9004_lines =
    line.Head
    ∷ (line.Boot 1 0 (process 0))
    ∷ (line.Start (actor 1) (codes "main"))
    ∷ (line.Throw (actor 1) (error 9001))
    ∷ (line.Catch (actor 1) (error 9001))
    ∷ (line.PrintInt (actor 1) (pos 9001))
    ∷ (line.Throw (actor 1) (error 9004))
    ∷ (line.Catch (actor 1) (error 9004))
    ∷ (line.PrintInt (actor 1) (pos 9004))
    ∷ (line.Finish (actor 1))
    ∷ line.EndIdle ∷ []

argument_before_9004 : SourceTrace argument_before_9004_program argument_before_9004_world argument_before_9004_lines
unfolding argument_before_9004_program argument_before_9004_world argument_before_9004_lines state_after
argument_before_9004 = source_trace 20 400 argument_before_9004_program argument_before_9004_world argument_before_9004_lines refl

-- a port whose stream fires is not free until the fire is over
listen_while_firing_program : ProgramTree
listen_while_firing_program = record {
  decls = ((ActorDecl (record {
    at = nowhere;
    returns = VoidType;
    name = (id (codes "main"));
    params = ((record { ty = IntType; name = (id (codes "p")) }) ∷ []);
    body = (CallStmt nowhere ((id (codes "sendTo")) ∷ []) (MoreExprs (IntExpr (pos 0)) (MoreExprs (IntExpr (pos 7)) (MoreExprs (TextExpr (codes "x")) NoExprs)))
        (WaitStmt nowhere (record {
          into = (Some (record { state = false; ty = (NamedType (codes "Packet")); name = (id (codes "k")) }));
          next = true;
          operand = (CallExpr (id (codes "listen")) (MoreExprs (IntExpr (pos 7)) NoExprs));
        })
        (CallStmt nowhere ((id (codes "trace")) ∷ []) (MoreExprs (FieldExpr (VarExpr (id (codes "k"))) (id (codes "text"))) NoExprs)
        (TryStmt nowhere (DeclareStmt nowhere (record { state = true; ty = (FutureStreamType (NamedType (codes "Packet"))); name = (id (codes "again")) })
        (Some (CallExpr (id (codes "listen")) (MoreExprs (IntExpr (pos 7)) NoExprs))) (CallStmt nowhere ((id (codes "trace")) ∷ []) (MoreExprs (TextExpr (codes "free")) NoExprs) End)) nowhere
        (id (codes "e")) (CallStmt nowhere ((id (codes "trace")) ∷ []) (MoreExprs (MethodExpr (VarExpr (id (codes "e"))) (ByName (id (codes "code"))) NoExprs) NoExprs) End)
        (WaitStmt nowhere (record { into = None; next = false; operand = (CallExpr (id (codes "delay")) (MoreExprs (IntExpr (pos 1)) NoExprs)) })
        (DeclareStmt nowhere (record { state = true; ty = (FutureStreamType (NamedType (codes "Packet"))); name = (id (codes "later")) })
        (Some (CallExpr (id (codes "listen")) (MoreExprs (IntExpr (pos 7)) NoExprs)))
        (CallStmt nowhere ((id (codes "trace")) ∷ []) (MoreExprs (TextExpr (codes "later")) NoExprs) (ReturnStmt nowhere (Some VoidExpr) End))))))));
    close = nowhere;
  })) ∷ []);
  end = nowhere;
}

listen_while_firing_world : World
listen_while_firing_world = record { seed = 0; words = []; processes = 1; events = 1000; turns = 100000; latency = (1, 2); loss = 0; diskdelay = (1, 2); script = [] }

listen_while_firing_lines : List Line
listen_while_firing_lines =
    line.Head
    ∷ (line.Boot 1 0 (process 0))
    ∷ (line.Start (actor 1) (codes "main"))
    ∷ (line.Send 1 (process 0) 7 (codes "x"))
    ∷ (line.Wait (actor 1) 1)
    ∷ (line.Arrival 2 1 (process 0) 1)
    ∷ (line.Take (actor 1) 1 0)
    ∷ (line.PrintText (actor 1) (codes "x"))
    ∷ (line.Throw (actor 1) (error 9005))
    ∷ (line.Catch (actor 1) (error 9005))
    ∷ (line.PrintInt (actor 1) (pos 9005))
    ∷ (line.Wait (actor 1) 2)
    ∷ (line.Timer 3 2 (process 0) (cell 3))
    ∷ (line.Take (actor 1) 2 0)
    ∷ (line.PrintText (actor 1) (codes "later"))
    ∷ (line.Finish (actor 1))
    ∷ line.EndIdle ∷ []

listen_while_firing : SourceTrace listen_while_firing_program listen_while_firing_world listen_while_firing_lines
unfolding listen_while_firing_program listen_while_firing_world listen_while_firing_lines state_after
listen_while_firing = source_trace 20 400 listen_while_firing_program listen_while_firing_world listen_while_firing_lines refl

-- an actor that takes further elements of a stream by itself while the stream fires
stream_fire_takes_more_program : ProgramTree
stream_fire_takes_more_program = record {
  decls = ((ActorDecl (record {
    at = nowhere;
    returns = VoidType;
    name = (id (codes "eat"));
    params = ((record { ty = (FutureStreamType IntType); name = (id (codes "s")) }) ∷ (record { ty = (PromiseStreamType IntType); name = (id (codes "q")) }) ∷ []);
    body = (LoopStmt nowhere (WaitStmt nowhere (record { into = (Some (record { state = false; ty = IntType; name = (id (codes "x")) })); next = true; operand = (VarExpr (id (codes "s"))) })
        (CallStmt nowhere ((id (codes "trace")) ∷ []) (MoreExprs (VarExpr (id (codes "x"))) NoExprs)
        (IfStmt nowhere (BinaryExpr Gt (VarExpr (id (codes "x"))) (IntExpr (pos 0)))
        (CallStmt nowhere ((id (codes "q")) ∷ (id (codes "send")) ∷ []) (MoreExprs (BinaryExpr Sub (VarExpr (id (codes "x"))) (IntExpr (pos 1))) NoExprs)
        (CallStmt nowhere ((id (codes "q")) ∷ (id (codes "send")) ∷ []) (MoreExprs (BinaryExpr Sub (IntExpr (pos 0)) (VarExpr (id (codes "x")))) NoExprs) End)) End))) End);
    close = nowhere;
  }))
      ∷ (ActorDecl (record {
        at = nowhere;
        returns = VoidType;
        name = (id (codes "main"));
        params = ((record { ty = IntType; name = (id (codes "p")) }) ∷ []);
        body = (DeclareStmt nowhere (record { state = true; ty = (PromiseStreamType IntType); name = (id (codes "q")) }) None
            (DeclareStmt nowhere (record { state = true; ty = (FutureType VoidType); name = (id (codes "e")) })
            (Some (CallExpr (id (codes "eat")) (MoreExprs (MethodExpr (VarExpr (id (codes "q"))) (ByName (id (codes "getFuture"))) NoExprs) (MoreExprs (VarExpr (id (codes "q"))) NoExprs))))
            (CallStmt nowhere ((id (codes "q")) ∷ (id (codes "send")) ∷ []) (MoreExprs (IntExpr (pos 2)) NoExprs)
            (CallStmt nowhere ((id (codes "trace")) ∷ []) (MoreExprs (TextExpr (codes "sent")) NoExprs) (ReturnStmt nowhere (Some VoidExpr) End)))));
        close = nowhere;
      })) ∷ []);
  end = nowhere;
}

stream_fire_takes_more_world : World
stream_fire_takes_more_world = record { seed = 0; words = []; processes = 1; events = 1000; turns = 100000; latency = (1, 2); loss = 0; diskdelay = (1, 2); script = [] }

stream_fire_takes_more_lines : List Line
stream_fire_takes_more_lines =
    line.Head
    ∷ (line.Boot 1 0 (process 0))
    ∷ (line.Start (actor 1) (codes "main"))
    ∷ (line.Start (actor 2) (codes "eat"))
    ∷ (line.Wait (actor 2) 1)
    ∷ (line.Take (actor 2) 1 0)
    ∷ (line.PrintInt (actor 2) (pos 2))
    ∷ (line.Take (actor 2) 1 0)
    ∷ (line.PrintInt (actor 2) (pos 1))
    ∷ (line.Take (actor 2) 1 0)
    ∷ (line.PrintInt (actor 2) (negsuc 1))
    ∷ (line.Take (actor 2) 1 0)
    ∷ (line.PrintInt (actor 2) (pos 0))
    ∷ (line.Take (actor 2) 1 0)
    ∷ (line.PrintInt (actor 2) (negsuc 0))
    ∷ (line.Wait (actor 2) 1)
    ∷ (line.PrintText (actor 1) (codes "sent"))
    ∷ (line.Cancel (actor 2))
    ∷ (line.Throw (actor 2) (error 1101))
    ∷ (line.Fail (actor 2) (error 1101))
    ∷ (line.Finish (actor 1))
    ∷ line.EndIdle ∷ []

stream_fire_takes_more : SourceTrace stream_fire_takes_more_program stream_fire_takes_more_world stream_fire_takes_more_lines
unfolding stream_fire_takes_more_program stream_fire_takes_more_world stream_fire_takes_more_lines state_after
stream_fire_takes_more = source_trace 20 400 stream_fire_takes_more_program stream_fire_takes_more_world stream_fire_takes_more_lines refl

-- a waiter of a firing cell that cancels the next one
waiter_cancels_the_next_waiter_program : ProgramTree
waiter_cancels_the_next_waiter_program = record {
  decls = ((ActorDecl
      (record {
        at = nowhere;
        returns = VoidType;
        name = (id (codes "first"));
        params = ((record { ty = (FutureType VoidType); name = (id (codes "go")) }) ∷ (record { ty = (FutureType (FutureType VoidType)); name = (id (codes "box")) }) ∷ []);
        body = (WaitStmt nowhere (record { into = None; next = false; operand = (VarExpr (id (codes "go"))) })
            (DeclareStmt nowhere (record { state = false; ty = (FutureType VoidType); name = (id (codes "victim")) }) (Some (MethodExpr (VarExpr (id (codes "box"))) (ByName (id (codes "get"))) NoExprs))
            (CallStmt nowhere ((id (codes "victim")) ∷ (id (codes "cancel")) ∷ []) NoExprs
            (CallStmt nowhere ((id (codes "trace")) ∷ []) (MoreExprs (TextExpr (codes "cancelled")) NoExprs) (ReturnStmt nowhere (Some VoidExpr) End)))));
        close = nowhere;
      }))
      ∷ (ActorDecl (record {
        at = nowhere;
        returns = VoidType;
        name = (id (codes "second"));
        params = ((record { ty = (FutureType VoidType); name = (id (codes "go")) }) ∷ []);
        body = (WaitStmt nowhere (record { into = None; next = false; operand = (VarExpr (id (codes "go"))) })
            (CallStmt nowhere ((id (codes "trace")) ∷ []) (MoreExprs (TextExpr (codes "never")) NoExprs) (ReturnStmt nowhere (Some VoidExpr) End)));
        close = nowhere;
      }))
      ∷ (ActorDecl (record {
        at = nowhere;
        returns = VoidType;
        name = (id (codes "main"));
        params = ((record { ty = IntType; name = (id (codes "p")) }) ∷ []);
        body = (DeclareStmt nowhere (record { state = true; ty = (PromiseType VoidType); name = (id (codes "go")) }) None
            (DeclareStmt nowhere (record { state = true; ty = (PromiseType (FutureType VoidType)); name = (id (codes "box")) }) None
            (DeclareStmt nowhere (record { state = true; ty = (FutureType VoidType); name = (id (codes "a")) })
            (Some (CallExpr (id (codes "first")) (MoreExprs (MethodExpr (VarExpr (id (codes "go"))) (ByName (id (codes "getFuture"))) NoExprs)
            (MoreExprs (MethodExpr (VarExpr (id (codes "box"))) (ByName (id (codes "getFuture"))) NoExprs) NoExprs))))
            (DeclareStmt nowhere (record { state = true; ty = (FutureType VoidType); name = (id (codes "b")) })
            (Some (CallExpr (id (codes "second")) (MoreExprs (MethodExpr (VarExpr (id (codes "go"))) (ByName (id (codes "getFuture"))) NoExprs) NoExprs)))
            (CallStmt nowhere ((id (codes "box")) ∷ (id (codes "send")) ∷ []) (MoreExprs (VarExpr (id (codes "b"))) NoExprs)
            (CallStmt nowhere ((id (codes "go")) ∷ (id (codes "send")) ∷ []) (MoreExprs VoidExpr NoExprs)
            (CallStmt nowhere ((id (codes "trace")) ∷ []) (MoreExprs (TextExpr (codes "sent")) NoExprs) (ReturnStmt nowhere (Some VoidExpr) End))))))));
        close = nowhere;
      })) ∷ []);
  end = nowhere;
}

waiter_cancels_the_next_waiter_world : World
waiter_cancels_the_next_waiter_world = record { seed = 0; words = []; processes = 1; events = 1000; turns = 100000; latency = (1, 2); loss = 0; diskdelay = (1, 2); script = [] }

waiter_cancels_the_next_waiter_lines : List Line
waiter_cancels_the_next_waiter_lines =
    line.Head
    ∷ (line.Boot 1 0 (process 0))
    ∷ (line.Start (actor 1) (codes "main"))
    ∷ (line.Start (actor 2) (codes "first"))
    ∷ (line.Wait (actor 2) 1)
    ∷ (line.Start (actor 3) (codes "second"))
    ∷ (line.Wait (actor 3) 1)
    ∷ (line.Take (actor 2) 1 0)
    ∷ (line.Cancel (actor 3))
    ∷ (line.Throw (actor 3) (error 1101))
    ∷ (line.Fail (actor 3) (error 1101))
    ∷ (line.PrintText (actor 2) (codes "cancelled"))
    ∷ (line.Finish (actor 2))
    ∷ (line.PrintText (actor 1) (codes "sent"))
    ∷ (line.Finish (actor 1))
    ∷ line.EndIdle ∷ []

waiter_cancels_the_next_waiter : SourceTrace waiter_cancels_the_next_waiter_program waiter_cancels_the_next_waiter_world waiter_cancels_the_next_waiter_lines
unfolding waiter_cancels_the_next_waiter_program waiter_cancels_the_next_waiter_world waiter_cancels_the_next_waiter_lines state_after
waiter_cancels_the_next_waiter = source_trace 20 400 waiter_cancels_the_next_waiter_program waiter_cancels_the_next_waiter_world waiter_cancels_the_next_waiter_lines refl

-- a write past the end of a file, of which a loss of power keeps nothing: the file stays empty
size_after_cut_to_nothing_program : ProgramTree
size_after_cut_to_nothing_program = record {
  decls = ((ActorDecl (record {
    at = nowhere;
    returns = VoidType;
    name = (id (codes "main"));
    params = ((record { ty = IntType; name = (id (codes "p")) }) ∷ []);
    body = (IfElseStmt nowhere (BinaryExpr Eq (CallExpr (id (codes "now")) NoExprs) (IntExpr (pos 0)))
        (WaitStmt nowhere (record {
          into = None;
          next = false;
          operand = (CallExpr (id (codes "writeFile"))
              (MoreExprs (TextExpr (codes "f")) (MoreExprs (IntExpr (pos 3)) (MoreExprs (TextExpr (codes "ab")) NoExprs))));
        })
        (WaitStmt nowhere (record { into = None; next = false; operand = (CallExpr (id (codes "Never")) NoExprs) }) End))
        (WaitStmt nowhere (record {
          into = (Some (record { state = false; ty = IntType; name = (id (codes "n")) }));
          next = false;
          operand = (CallExpr (id (codes "fileSize")) (MoreExprs (TextExpr (codes "f")) NoExprs));
        }) (CallStmt nowhere ((id (codes "trace")) ∷ []) (MoreExprs (VarExpr (id (codes "n"))) NoExprs) End))
        (ReturnStmt nowhere (Some VoidExpr) End));
    close = nowhere;
  })) ∷ []);
  end = nowhere;
}

size_after_cut_to_nothing_world : World
size_after_cut_to_nothing_world = record {
  seed = 0;
  words = (0 ∷ 2 ∷ 0 ∷ []);
  processes = 1;
  events = 1000;
  turns = 100000;
  latency = (1, 2);
  loss = 0;
  diskdelay = (1, 2);
  script = ((10, (order.Kill 0)) ∷ (10, (order.Boot 0)) ∷ []);
}

size_after_cut_to_nothing_lines : List Line
size_after_cut_to_nothing_lines =
    line.Head
    ∷ (line.Boot 1 0 (process 0))
    ∷ (line.Start (actor 1) (codes "main"))
    ∷ (line.Wait (actor 1) 1)
    ∷ (line.Write 2 1 (process 0) (cell 2) true)
    ∷ (line.Take (actor 1) 1 0)
    ∷ (line.Wait (actor 1) 2)
    ∷ (line.Kill 3 10 (process 0))
    ∷ (line.Kept (codes "f") 3 2 0)
    ∷ (line.Boot 4 10 (process 0))
    ∷ (line.Start (actor 2) (codes "main"))
    ∷ (line.Wait (actor 2) 3)
    ∷ (line.Size 5 11 (process 0) (cell 5) (Some 0))
    ∷ (line.Take (actor 2) 3 0)
    ∷ (line.PrintInt (actor 2) (pos 0))
    ∷ (line.Finish (actor 2))
    ∷ line.EndIdle ∷ []

size_after_cut_to_nothing : SourceTrace size_after_cut_to_nothing_program size_after_cut_to_nothing_world size_after_cut_to_nothing_lines
unfolding size_after_cut_to_nothing_program size_after_cut_to_nothing_world size_after_cut_to_nothing_lines state_after
size_after_cut_to_nothing = source_trace 20 400 size_after_cut_to_nothing_program size_after_cut_to_nothing_world size_after_cut_to_nothing_lines refl

-- a stop, and a second boot: numbers of cells and actors go on
stop_then_boot_program : ProgramTree
stop_then_boot_program = record {
  decls = ((ActorDecl (record {
    at = nowhere;
    returns = VoidType;
    name = (id (codes "leaf"));
    params = ((record { ty = IntType; name = (id (codes "n")) }) ∷ []);
    body = (WaitStmt nowhere (record { into = None; next = false; operand = (CallExpr (id (codes "Never")) NoExprs) }) (ReturnStmt nowhere (Some VoidExpr) End));
    close = nowhere;
  }))
      ∷ (ActorDecl (record {
        at = nowhere;
        returns = VoidType;
        name = (id (codes "main"));
        params = ((record { ty = IntType; name = (id (codes "p")) }) ∷ []);
        body = (DeclareStmt nowhere (record { state = true; ty = (FutureStreamType (NamedType (codes "Packet"))); name = (id (codes "in")) })
            (Some (CallExpr (id (codes "listen")) (MoreExprs (IntExpr (pos 7)) NoExprs)))
            (WaitStmt nowhere (record { into = None; next = false; operand = (CallExpr (id (codes "Never")) NoExprs) }) (ReturnStmt nowhere (Some VoidExpr) End)));
        close = nowhere;
      })) ∷ []);
  end = nowhere;
}

stop_then_boot_world : World
stop_then_boot_world = record {
  seed = 0;
  words = [];
  processes = 1;
  events = 1000;
  turns = 100000;
  latency = (1, 2);
  loss = 0;
  diskdelay = (1, 2);
  script = ((3, (order.Stop 0)) ∷ (4, (order.Boot 0)) ∷ (5, (order.Boot 0)) ∷ (6, (order.Kill 0)) ∷ (6, (order.Stop 0)) ∷ []);
}

stop_then_boot_lines : List Line
stop_then_boot_lines =
    line.Head
    ∷ (line.Boot 1 0 (process 0))
    ∷ (line.Start (actor 1) (codes "main"))
    ∷ (line.Wait (actor 1) 1)
    ∷ (line.Stop 2 3 (process 0))
    ∷ (line.Cancel (actor 1))
    ∷ (line.Throw (actor 1) (error 1101))
    ∷ (line.Fail (actor 1) (error 1101))
    ∷ (line.Boot 3 4 (process 0))
    ∷ (line.Start (actor 2) (codes "main"))
    ∷ (line.Wait (actor 2) 1)
    ∷ (line.Boot 4 5 (process 0))
    ∷ (line.Kill 5 6 (process 0))
    ∷ (line.Stop 6 6 (process 0))
    ∷ line.EndIdle ∷ []

stop_then_boot : SourceTrace stop_then_boot_program stop_then_boot_world stop_then_boot_lines
unfolding stop_then_boot_program stop_then_boot_world stop_then_boot_lines state_after
stop_then_boot = source_trace 20 400 stop_then_boot_program stop_then_boot_world stop_then_boot_lines refl

promise_in_a_dropped_stream_program : ProgramTree
promise_in_a_dropped_stream_program = record {
  decls = ((StructDecl
      (record { at = nowhere; name = (id (codes "Ask")); fields = ((record { ty = IntType; name = (id (codes "n")) }) ∷ (record { ty = (PromiseType IntType); name = (id (codes "reply")) }) ∷ []) }))
      ∷ (ActorDecl (record {
        at = nowhere;
        returns = VoidType;
        name = (id (codes "main"));
        params = ((record { ty = IntType; name = (id (codes "p")) }) ∷ []);
        body = (DeclareStmt nowhere (record { state = false; ty = (PromiseStreamType (NamedType (codes "Ask"))); name = (id (codes "q")) }) None
            (DeclareStmt nowhere (record { state = false; ty = (PromiseType IntType); name = (id (codes "r")) }) None
            (DeclareStmt nowhere (record { state = true; ty = (FutureType IntType); name = (id (codes "f")) }) (Some (MethodExpr (VarExpr (id (codes "r"))) (ByName (id (codes "getFuture"))) NoExprs))
            (CallStmt nowhere ((id (codes "q")) ∷ (id (codes "send")) ∷ [])
            (MoreExprs (CallExpr (id (codes "Ask")) (MoreExprs (IntExpr (pos 1)) (MoreExprs (VarExpr (id (codes "r"))) NoExprs))) NoExprs)
            (WaitStmt nowhere (record { into = (Some (record { state = false; ty = IntType; name = (id (codes "x")) })); next = false; operand = (VarExpr (id (codes "f"))) })
            (CallStmt nowhere ((id (codes "trace")) ∷ []) (MoreExprs (VarExpr (id (codes "x"))) NoExprs) (ReturnStmt nowhere (Some VoidExpr) End)))))));
        close = nowhere;
      })) ∷ []);
  end = nowhere;
}

promise_in_a_dropped_stream_world : World
promise_in_a_dropped_stream_world = record { seed = 0; words = []; processes = 1; events = 1000; turns = 100000; latency = (1, 2); loss = 0; diskdelay = (1, 2); script = [] }

promise_in_a_dropped_stream_lines : List Line
promise_in_a_dropped_stream_lines =
    line.Head
    ∷ (line.Boot 1 0 (process 0))
    ∷ (line.Start (actor 1) (codes "main"))
    ∷ (line.Wait (actor 1) 1)
    ∷ (line.Broken (cell 3))
    ∷ (line.Take (actor 1) 1 0)
    ∷ (line.Throw (actor 1) (error 1100))
    ∷ (line.Fail (actor 1) (error 1100))
    ∷ line.EndIdle ∷ []

promise_in_a_dropped_stream : SourceTrace promise_in_a_dropped_stream_program promise_in_a_dropped_stream_world promise_in_a_dropped_stream_lines
unfolding promise_in_a_dropped_stream_program promise_in_a_dropped_stream_world promise_in_a_dropped_stream_lines state_after
promise_in_a_dropped_stream = source_trace 20 400 promise_in_a_dropped_stream_program promise_in_a_dropped_stream_world promise_in_a_dropped_stream_lines refl
