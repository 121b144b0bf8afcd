-- Runs of plain statements, computed.
use Rattle.std.proofs.Common.{List, [], ◌∷◌, refl}
use Rattle.std.specs.Prelude.{pos, true, false, codes}
use Rattle.std.specs.declared.option.Option.TheVariants.{None, Some}
use Rattle.flow_trace.specs.declared.line.Line.{Line}
use Rattle.flow_trace.specs.declared.line.Line.TheVariants as line
use Rattle.flow_worldfile.specs.Worlds.{World}
use Rattle.flow_tree.specs.declared.expr.Op.TheVariants.{Lt, Add, Mul}
use Rattle.flow_tree.specs.Tree.{ByName, IntType, VoidType, ErrorType, IntExpr, TextExpr, VoidExpr, VarExpr, CallExpr, MethodExpr, NegExpr, BinaryExpr, NoExprs, MoreExprs}
use Rattle.flow_tree.specs.Body.{End, WhileStmt, ReturnStmt, TryStmt, DeclareStmt, AssignStmt, CallStmt, WaitStmt}
use Rattle.flow_tree.specs.Decls.{ActorDecl, ProgramTree}
use Rattle.flow_meaning.specs.Runs.{SourceTrace, ClassTrace}
use Rattle.flow_meaning.proofs.Following.{source_trace, class_trace}
use Rattle.flow_meaning_tests.proofs.RowTerms.{nowhere, id, process, actor, cell, error}
use Rattle.flow_class.specs.Classes.{RawTree, SetInstr, ActInstr, DropInstr, GotoLast, PassLast, TestLast, ChooseLast, ReturnLast}

-- an actor that prints and returns
unfoldable pub hello_program : ProgramTree
hello_program = record {
  decls = ((ActorDecl (record {
    at = nowhere;
    returns = VoidType;
    name = (id (codes "main"));
    params = ((record { ty = IntType; name = (id (codes "p")) }) ∷ []);
    body = (CallStmt nowhere ((id (codes "trace")) ∷ []) (MoreExprs (TextExpr (codes "hello")) NoExprs) (ReturnStmt nowhere (Some VoidExpr) End));
    close = nowhere;
  })) ∷ []);
  end = nowhere;
}

unfoldable pub hello_world : World
hello_world = record { seed = 0; words = []; processes = 1; events = 1000; turns = 100000; latency = (1, 2); loss = 0; diskdelay = (1, 2); script = [] }

hello_lines : List Line
hello_lines =
    line.Head
    ∷ (line.Boot 1 0 (process 0))
    ∷ (line.Start (actor 1) (codes "main"))
    ∷ (line.PrintText (actor 1) (codes "hello"))
    ∷ (line.Finish (actor 1))
    ∷ line.EndIdle ∷ []

hello : SourceTrace hello_program hello_world hello_lines
unfolding hello_program hello_world hello_lines
hello = source_trace 20 400 hello_program hello_world hello_lines refl

unfoldable pub hello_classes : RawTree
hello_classes = record {
  records = [];
  functions = [];
  classes = ((record {
    name = (codes "main");
    returns = VoidType;
    params = 1;
    slots = ((record { ty = IntType; name = (codes "p") }) ∷ []);
    locals = [];
    blocks = ((record { catcher = None; body = ((ActInstr ((id (codes "trace")) ∷ []) (MoreExprs (TextExpr (codes "hello")) NoExprs)) ∷ []); last = (ReturnLast (Some VoidExpr)) }) ∷ []);
    groups = [];
  }) ∷ []);
}

hello_by_classes : ClassTrace hello_classes hello_world hello_lines
unfolding hello_classes hello_world hello_lines
hello_by_classes = class_trace 20 400 hello_classes hello_world hello_lines refl

-- a state variable that is declared again in each pass of a loop
unfoldable pub state_in_loop_program : ProgramTree
state_in_loop_program = record {
  decls = ((ActorDecl (record {
    at = nowhere;
    returns = VoidType;
    name = (id (codes "main"));
    params = ((record { ty = IntType; name = (id (codes "p")) }) ∷ []);
    body = (DeclareStmt nowhere (record { state = true; ty = IntType; name = (id (codes "n")) }) (Some (IntExpr (pos 0)))
        (WhileStmt nowhere (BinaryExpr Lt (VarExpr (id (codes "n"))) (IntExpr (pos 2)))
        (DeclareStmt nowhere (record { state = true; ty = IntType; name = (id (codes "i")) }) (Some (BinaryExpr Mul (VarExpr (id (codes "n"))) (IntExpr (pos 10))))
        (WaitStmt nowhere (record { into = None; next = false; operand = (CallExpr (id (codes "delay")) (MoreExprs (IntExpr (pos 1)) NoExprs)) })
        (CallStmt nowhere ((id (codes "trace")) ∷ []) (MoreExprs (VarExpr (id (codes "i"))) NoExprs)
        (AssignStmt nowhere ((id (codes "n")) ∷ []) (BinaryExpr Add (VarExpr (id (codes "n"))) (IntExpr (pos 1))) End)))) (ReturnStmt nowhere (Some VoidExpr) End)));
    close = nowhere;
  })) ∷ []);
  end = nowhere;
}

unfoldable pub state_in_loop_world : World
state_in_loop_world = record { seed = 0; words = []; processes = 1; events = 1000; turns = 100000; latency = (1, 2); loss = 0; diskdelay = (1, 2); script = [] }

state_in_loop_lines : List Line
state_in_loop_lines =
    line.Head
    ∷ (line.Boot 1 0 (process 0))
    ∷ (line.Start (actor 1) (codes "main"))
    ∷ (line.Wait (actor 1) 1)
    ∷ (line.Timer 2 1 (process 0) (cell 2))
    ∷ (line.Take (actor 1) 1 0)
    ∷ (line.PrintInt (actor 1) (pos 0))
    ∷ (line.Wait (actor 1) 1)
    ∷ (line.Timer 3 2 (process 0) (cell 3))
    ∷ (line.Take (actor 1) 1 0)
    ∷ (line.PrintInt (actor 1) (pos 10))
    ∷ (line.Finish (actor 1))
    ∷ line.EndIdle ∷ []

state_in_loop : SourceTrace state_in_loop_program state_in_loop_world state_in_loop_lines
unfolding state_in_loop_program state_in_loop_world state_in_loop_lines
state_in_loop = source_trace 20 400 state_in_loop_program state_in_loop_world state_in_loop_lines refl

unfoldable pub state_in_loop_classes : RawTree
state_in_loop_classes = record {
  records = [];
  functions = [];
  classes = ((record {
    name = (codes "main");
    returns = VoidType;
    params = 1;
    slots = ((record { ty = IntType; name = (codes "p") }) ∷ (record { ty = IntType; name = (codes "n") })
        ∷ (record { ty = IntType; name = (codes "i") }) ∷ []);
    locals = [];
    blocks = ((record { catcher = None; body = ((SetInstr ((id (codes "s1")) ∷ []) (IntExpr (pos 0))) ∷ []); last = (PassLast 1) })
        ∷ (record { catcher = None; body = []; last = (TestLast (BinaryExpr Lt (VarExpr (id (codes "s1"))) (IntExpr (pos 2))) 2 4) })
        ∷ (record { catcher = None; body = ((SetInstr ((id (codes "s2")) ∷ []) (BinaryExpr Mul (VarExpr (id (codes "s1"))) (IntExpr (pos 10)))) ∷ []); last = (ChooseLast 1) })
        ∷ (record {
          catcher = None;
          body = ((ActInstr ((id (codes "trace")) ∷ []) (MoreExprs (VarExpr (id (codes "s2"))) NoExprs))
              ∷ (SetInstr ((id (codes "s1")) ∷ []) (BinaryExpr Add (VarExpr (id (codes "s1"))) (IntExpr (pos 1)))) ∷ []);
          last = (PassLast 1);
        })
        ∷ (record { catcher = None; body = []; last = (ReturnLast (Some VoidExpr)) }) ∷ []);
    groups = (((record { next = false; operand = (CallExpr (id (codes "delay")) (MoreExprs (IntExpr (pos 1)) NoExprs)); into = None; block = 3 }) ∷ []) ∷ []);
  }) ∷ []);
}

state_in_loop_by_classes : ClassTrace state_in_loop_classes state_in_loop_world state_in_loop_lines
unfolding state_in_loop_classes state_in_loop_world state_in_loop_lines
state_in_loop_by_classes = class_trace 20 400 state_in_loop_classes state_in_loop_world state_in_loop_lines refl

-- a number out of range, caught
unfoldable pub overflow_caught_program : ProgramTree
overflow_caught_program = record {
  decls = ((ActorDecl (record {
    at = nowhere;
    returns = VoidType;
    name = (id (codes "main"));
    params = ((record { ty = IntType; name = (id (codes "p")) }) ∷ []);
    body = (TryStmt nowhere (DeclareStmt nowhere (record { state = false; ty = IntType; name = (id (codes "x")) }) (Some (IntExpr (pos 9223372036854775807)))
        (CallStmt nowhere ((id (codes "trace")) ∷ []) (MoreExprs (BinaryExpr Add (VarExpr (id (codes "x"))) (IntExpr (pos 1))) NoExprs) End)) nowhere (id (codes "e"))
        (CallStmt nowhere ((id (codes "trace")) ∷ []) (MoreExprs (MethodExpr (VarExpr (id (codes "e"))) (ByName (id (codes "code"))) NoExprs) NoExprs) End) (ReturnStmt nowhere (Some VoidExpr) End));
    close = nowhere;
  }))
      ∷ []);
  end = nowhere;
}

unfoldable pub overflow_caught_world : World
overflow_caught_world = record { seed = 0; words = []; processes = 1; events = 1000; turns = 100000; latency = (1, 2); loss = 0; diskdelay = (1, 2); script = [] }

overflow_caught_lines : List Line
overflow_caught_lines =
    line.Head
    ∷ (line.Boot 1 0 (process 0))
    ∷ (line.Start (actor 1) (codes "main"))
    ∷ (line.Throw (actor 1) (error 9001))
    ∷ (line.Catch (actor 1) (error 9001))
    ∷ (line.PrintInt (actor 1) (pos 9001))
    ∷ (line.Finish (actor 1))
    ∷ line.EndIdle ∷ []

overflow_caught : SourceTrace overflow_caught_program overflow_caught_world overflow_caught_lines
unfolding overflow_caught_program overflow_caught_world overflow_caught_lines
overflow_caught = source_trace 20 400 overflow_caught_program overflow_caught_world overflow_caught_lines refl

unfoldable pub overflow_caught_classes : RawTree
overflow_caught_classes = record {
  records = [];
  functions = [];
  classes = ((record {
    name = (codes "main");
    returns = VoidType;
    params = 1;
    slots = ((record { ty = IntType; name = (codes "p") }) ∷ []);
    locals = (IntType ∷ ErrorType ∷ []);
    blocks = ((record { catcher = None; body = []; last = (GotoLast 1) })
        ∷ (record {
          catcher = (Some (record { block = 2; error = (Some 1); drops = (0 ∷ []) }));
          body = ((SetInstr ((id (codes "l0")) ∷ []) (IntExpr (pos 9223372036854775807)))
              ∷ (ActInstr ((id (codes "trace")) ∷ []) (MoreExprs (BinaryExpr Add (VarExpr (id (codes "l0"))) (IntExpr (pos 1))) NoExprs)) ∷ (DropInstr (0 ∷ [])) ∷ []);
          last = (GotoLast 3);
        })
        ∷ (record {
          catcher = None;
          body = ((ActInstr ((id (codes "trace")) ∷ []) (MoreExprs (MethodExpr (VarExpr (id (codes "l1"))) (ByName (id (codes "code"))) NoExprs) NoExprs)) ∷ (DropInstr (1 ∷ [])) ∷ []);
          last = (GotoLast 3);
        }) ∷ (record { catcher = None; body = []; last = (ReturnLast (Some VoidExpr)) }) ∷ []);
    groups = [];
  }) ∷ []);
}

overflow_caught_by_classes : ClassTrace overflow_caught_classes overflow_caught_world overflow_caught_lines
unfolding overflow_caught_classes overflow_caught_world overflow_caught_lines
overflow_caught_by_classes = class_trace 20 400 overflow_caught_classes overflow_caught_world overflow_caught_lines refl

-- two timers at one time, the second of a negative delay
unfoldable pub waits_for_a_doubled_value_program : ProgramTree
waits_for_a_doubled_value_program = record {
  decls = ((ActorDecl (record {
    at = nowhere;
    returns = IntType;
    name = (id (codes "twice"));
    params = ((record { ty = IntType; name = (id (codes "v")) }) ∷ []);
    body = (WaitStmt nowhere (record { into = None; next = false; operand = (CallExpr (id (codes "delay")) (MoreExprs (IntExpr (pos 2)) NoExprs)) })
        (ReturnStmt nowhere (Some (BinaryExpr Mul (VarExpr (id (codes "v"))) (IntExpr (pos 2)))) End));
    close = nowhere;
  }))
      ∷ (ActorDecl (record {
        at = nowhere;
        returns = VoidType;
        name = (id (codes "main"));
        params = ((record { ty = IntType; name = (id (codes "p")) }) ∷ []);
        body = (WaitStmt nowhere (record {
          into = (Some (record { state = false; ty = IntType; name = (id (codes "x")) }));
          next = false;
          operand = (CallExpr (id (codes "twice")) (MoreExprs (IntExpr (pos 4)) NoExprs));
        })
            (CallStmt nowhere ((id (codes "trace")) ∷ []) (MoreExprs (VarExpr (id (codes "x"))) NoExprs)
            (WaitStmt nowhere (record { into = None; next = false; operand = (CallExpr (id (codes "delay")) (MoreExprs (NegExpr (IntExpr (pos 3))) NoExprs)) })
            (CallStmt nowhere ((id (codes "trace")) ∷ []) (MoreExprs (TextExpr (codes "end")) NoExprs) (ReturnStmt nowhere (Some VoidExpr) End)))));
        close = nowhere;
      })) ∷ []);
  end = nowhere;
}

unfoldable pub waits_for_a_doubled_value_world : World
waits_for_a_doubled_value_world = record { seed = 0; words = []; processes = 1; events = 1000; turns = 100000; latency = (1, 2); loss = 0; diskdelay = (1, 2); script = [] }

waits_for_a_doubled_value_lines : List Line
waits_for_a_doubled_value_lines =
    line.Head
    ∷ (line.Boot 1 0 (process 0))
    ∷ (line.Start (actor 1) (codes "main"))
    ∷ (line.Start (actor 2) (codes "twice"))
    ∷ (line.Wait (actor 2) 1)
    ∷ (line.Wait (actor 1) 1)
    ∷ (line.Timer 2 2 (process 0) (cell 3))
    ∷ (line.Take (actor 2) 1 0)
    ∷ (line.Finish (actor 2))
    ∷ (line.Take (actor 1) 1 0)
    ∷ (line.PrintInt (actor 1) (pos 8))
    ∷ (line.Wait (actor 1) 2)
    ∷ (line.Timer 3 2 (process 0) (cell 4))
    ∷ (line.Take (actor 1) 2 0)
    ∷ (line.PrintText (actor 1) (codes "end"))
    ∷ (line.Finish (actor 1))
    ∷ line.EndIdle ∷ []

waits_for_a_doubled_value : SourceTrace waits_for_a_doubled_value_program waits_for_a_doubled_value_world waits_for_a_doubled_value_lines
unfolding waits_for_a_doubled_value_program waits_for_a_doubled_value_world waits_for_a_doubled_value_lines
waits_for_a_doubled_value = source_trace 20 400 waits_for_a_doubled_value_program waits_for_a_doubled_value_world waits_for_a_doubled_value_lines refl
