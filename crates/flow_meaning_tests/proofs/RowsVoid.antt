-- Runs of void actors, computed.
use Rattle.std.proofs.Common.{List, [], ◌∷◌, refl}
use Rattle.std.specs.Prelude.{pos, true, false, codes}
use Rattle.std.specs.declared.option.Option.TheVariants.{None, Some}
use Rattle.flow_trace.specs.declared.line.Line.{Line}
use Rattle.flow_trace.specs.declared.line.Line.TheVariants as line
use Rattle.flow_worldfile.specs.Worlds.{World}
use Rattle.flow_worldfile.specs.declared.directive.Order.TheVariants as order
use Rattle.flow_tree.specs.declared.expr.Op.TheVariants.{Eq, Add, Sub}
use Rattle.flow_tree.specs.Tree.{ByName, IntType, VoidType, ErrorType, FutureType, PromiseType, VectorType, NothingType, IntExpr, TextExpr, VoidExpr, VarExpr, CallExpr, MethodExpr, BinaryExpr, NoExprs, MoreExprs, indexed}
use Rattle.flow_tree.specs.Body.{End, BlockStmt, IfStmt, LoopStmt, ReturnStmt, ThrowStmt, TryStmt, DeclareStmt, AssignStmt, CallStmt, WaitStmt}
use Rattle.flow_tree.specs.Decls.{ActorDecl, ProgramTree}
use Rattle.flow_meaning.specs.Runs.{SourceTrace, ClassTrace}
use Rattle.flow_meaning.proofs.Following.{source_trace, class_trace}
use Rattle.flow_meaning_tests.proofs.RowTerms.{nowhere, id, process, actor, cell, error}
use Rattle.flow_class.specs.declared.class.Slotted.TheVariants.{Slot, Local}
use Rattle.flow_class.specs.Classes.{RawTree, SetInstr, EffectInstr, NewInstr, ActInstr, DropInstr, GotoLast, PassLast, TestLast, ChooseLast, ReturnLast, ThrowLast}

-- a void actor, which nobody holds, goes on when main is done
unfoldable pub void_actor_outlives_main_program : ProgramTree
void_actor_outlives_main_program = record {
  decls = ((ActorDecl (record {
    at = nowhere;
    returns = NothingType;
    name = (id (codes "beat"));
    params = ((record { ty = IntType; name = (id (codes "n")) }) ∷ []);
    body = (WaitStmt nowhere (record {
      into = None;
      next = false;
      operand =
          (CallExpr (id (codes "delay")) (MoreExprs (VarExpr (id (codes "n"))) NoExprs));
    })
        (CallStmt nowhere ((id (codes "trace")) ∷ []) (MoreExprs (VarExpr (id (codes "n"))) NoExprs) End));
    close = nowhere;
  }))
      ∷ (ActorDecl (record {
        at = nowhere;
        returns = VoidType;
        name = (id (codes "main"));
        params = ((record { ty = IntType; name = (id (codes "p")) }) ∷ []);
        body = (CallStmt nowhere ((id (codes "beat")) ∷ []) (MoreExprs (IntExpr (pos 3)) NoExprs)
            (CallStmt nowhere ((id (codes "trace")) ∷ []) (MoreExprs (TextExpr (codes "started")) NoExprs)
            (ReturnStmt nowhere (Some VoidExpr) End)));
        close = nowhere;
      })) ∷ []);
  end = nowhere;
}

unfoldable pub void_actor_outlives_main_world : World
void_actor_outlives_main_world = record {
  seed = 0;
  words = [];
  processes = 1;
  events = 1000;
  turns = 100000;
  latency = (1, 2);
  loss = 0;
  diskdelay = (1, 2);
  script = [];
}

void_actor_outlives_main_lines : List Line
void_actor_outlives_main_lines =
    line.Head
    ∷ (line.Boot 1 0 (process 0))
    ∷ (line.Start (actor 1) (codes "main"))
    ∷ (line.Start (actor 2) (codes "beat"))
    ∷ (line.Wait (actor 2) 1)
    ∷ (line.PrintText (actor 1) (codes "started"))
    ∷ (line.Finish (actor 1))
    ∷ (line.Timer 2 3 (process 0) (cell 2))
    ∷ (line.Take (actor 2) 1 0)
    ∷ (line.PrintInt (actor 2) (pos 3))
    ∷ (line.Finish (actor 2))
    ∷ line.EndIdle ∷ []

void_actor_outlives_main : SourceTrace void_actor_outlives_main_program void_actor_outlives_main_world void_actor_outlives_main_lines
unfolding void_actor_outlives_main_program void_actor_outlives_main_world void_actor_outlives_main_lines
void_actor_outlives_main = source_trace 20 400 void_actor_outlives_main_program void_actor_outlives_main_world
    void_actor_outlives_main_lines refl

unfoldable pub void_actor_outlives_main_classes : RawTree
void_actor_outlives_main_classes = record {
  records = ([]);
  functions = ([]);
  classes = ((record {
    name = (codes "beat");
    returns = NothingType;
    params = 1;
    slots = ((record { ty = IntType; name = (codes "n") }) ∷ []);
    locals = ([]);
    blocks = ((record { catcher = None; body = ([]); last = (ChooseLast 1) })
        ∷ (record {
          catcher = None;
          body = ((ActInstr ((id (codes "trace")) ∷ []) (MoreExprs (VarExpr (id (codes "s0"))) NoExprs)) ∷
              []);
          last = (ReturnLast None);
        }) ∷ []);
    groups = (((record {
      next = false;
      operand = (CallExpr (id (codes "delay")) (MoreExprs (VarExpr (id (codes "s0"))) NoExprs));
      into = None;
      block = 1;
    }) ∷ []) ∷ []);
  })
      ∷ (record {
        name = (codes "main");
        returns = VoidType;
        params = 1;
        slots = ((record { ty = IntType; name = (codes "p") }) ∷ []);
        locals = ([]);
        blocks = ((record {
          catcher = None;
          body =
              ((ActInstr ((id (codes "beat")) ∷ []) (MoreExprs (IntExpr (pos 3)) NoExprs)) ∷
              (ActInstr ((id (codes "trace")) ∷ []) (MoreExprs (TextExpr (codes "started")) NoExprs)) ∷ []);
          last =
              (ReturnLast (Some VoidExpr));
        }) ∷ []);
        groups = ([]);
      }) ∷ []);
}

void_actor_outlives_main_by_classes : ClassTrace void_actor_outlives_main_classes void_actor_outlives_main_world
    void_actor_outlives_main_lines
unfolding void_actor_outlives_main_classes void_actor_outlives_main_world void_actor_outlives_main_lines
void_actor_outlives_main_by_classes = class_trace 20 400 void_actor_outlives_main_classes void_actor_outlives_main_world
    void_actor_outlives_main_lines refl

-- a void actor that fails tells nobody
unfoldable pub void_actor_fails_program : ProgramTree
void_actor_fails_program = record {
  decls = ((ActorDecl (record {
    at = nowhere;
    returns = NothingType;
    name = (id (codes "bad"));
    params = ((record { ty = IntType; name = (id (codes "n")) }) ∷ []);
    body = (ThrowStmt nowhere (Some (CallExpr (id (codes "timed_out")) NoExprs)) End);
    close = nowhere;
  }))
      ∷ (ActorDecl (record {
        at = nowhere;
        returns = VoidType;
        name = (id (codes "main"));
        params = ((record { ty = IntType; name = (id (codes "p")) }) ∷ []);
        body = (CallStmt nowhere ((id (codes "bad")) ∷ []) (MoreExprs (IntExpr (pos 1)) NoExprs)
            (CallStmt nowhere ((id (codes "trace")) ∷ []) (MoreExprs (TextExpr (codes "on")) NoExprs)
            (ReturnStmt nowhere (Some VoidExpr) End)));
        close = nowhere;
      })) ∷ []);
  end = nowhere;
}

unfoldable pub void_actor_fails_world : World
void_actor_fails_world = record {
  seed = 0;
  words = [];
  processes = 1;
  events = 1000;
  turns = 100000;
  latency = (1, 2);
  loss = 0;
  diskdelay = (1, 2);
  script = [];
}

void_actor_fails_lines : List Line
void_actor_fails_lines =
    line.Head
    ∷ (line.Boot 1 0 (process 0))
    ∷ (line.Start (actor 1) (codes "main"))
    ∷ (line.Start (actor 2) (codes "bad"))
    ∷ (line.Throw (actor 2) (error 1004))
    ∷ (line.Fail (actor 2) (error 1004))
    ∷ (line.PrintText (actor 1) (codes "on"))
    ∷ (line.Finish (actor 1))
    ∷ line.EndIdle ∷ []

void_actor_fails : SourceTrace void_actor_fails_program void_actor_fails_world void_actor_fails_lines
unfolding void_actor_fails_program void_actor_fails_world void_actor_fails_lines
void_actor_fails = source_trace 20 400 void_actor_fails_program void_actor_fails_world void_actor_fails_lines refl

unfoldable pub void_actor_fails_classes : RawTree
void_actor_fails_classes = record {
  records = ([]);
  functions = ([]);
  classes = ((record {
    name = (codes "bad");
    returns = NothingType;
    params = 1;
    slots = ((record { ty = IntType; name = (codes "n") }) ∷ []);
    locals = ([]);
    blocks = ((record { catcher = None; body = ([]); last = (ThrowLast (CallExpr (id (codes "timed_out")) NoExprs)) }) ∷ []);
    groups = ([]);
  })
      ∷ (record {
        name = (codes "main");
        returns = VoidType;
        params = 1;
        slots = ((record { ty = IntType; name = (codes "p") }) ∷ []);
        locals = ([]);
        blocks = ((record {
          catcher = None;
          body =
              ((ActInstr ((id (codes "bad")) ∷ []) (MoreExprs (IntExpr (pos 1)) NoExprs)) ∷
              (ActInstr ((id (codes "trace")) ∷ []) (MoreExprs (TextExpr (codes "on")) NoExprs)) ∷ []);
          last = (ReturnLast (Some VoidExpr));
        }) ∷ []);
        groups = ([]);
      }) ∷ []);
}

void_actor_fails_by_classes : ClassTrace void_actor_fails_classes void_actor_fails_world void_actor_fails_lines
unfolding void_actor_fails_classes void_actor_fails_world void_actor_fails_lines
void_actor_fails_by_classes = class_trace 20 400 void_actor_fails_classes void_actor_fails_world void_actor_fails_lines refl

-- a void actor holds the last promise of a wait, and drops it at its end
unfoldable pub void_actor_holds_the_last_promise_program : ProgramTree
void_actor_holds_the_last_promise_program = record {
  decls = ((ActorDecl (record {
    at = nowhere;
    returns = NothingType;
    name = (id (codes "keep"));
    params = ((record { ty = (PromiseType IntType); name = (id (codes "q")) }) ∷ (record { ty = IntType; name = (id (codes "n")) }) ∷
        []);
    body = (WaitStmt nowhere (record {
      into = None;
      next = false;
      operand =
          (CallExpr (id (codes "delay")) (MoreExprs (VarExpr (id (codes "n"))) NoExprs));
    }) End);
    close = nowhere;
  }))
      ∷ (ActorDecl (record {
        at = nowhere;
        returns = VoidType;
        name = (id (codes "main"));
        params = ((record { ty = IntType; name = (id (codes "p")) }) ∷ []);
        body = (DeclareStmt nowhere (record { state = true; ty = (VectorType (FutureType IntType)); name = (id (codes "fs")) }) None
            (BlockStmt nowhere (DeclareStmt nowhere (record { state = false; ty = (PromiseType IntType); name = (id (codes "q")) }) None
            (CallStmt nowhere ((id (codes "fs")) ∷ (id (codes "push_back")) ∷ [])
            (MoreExprs (MethodExpr (VarExpr (id (codes "q"))) (ByName (id (codes "getFuture"))) NoExprs) NoExprs)
            (CallStmt nowhere ((id (codes "keep")) ∷ []) (MoreExprs (VarExpr (id (codes "q"))) (MoreExprs (IntExpr (pos 2)) NoExprs))
            End)))
            (TryStmt nowhere (WaitStmt nowhere (record {
              into = (Some (record { state = false; ty = IntType; name = (id (codes "x")) }));
              next = false;
              operand =
                  (indexed (VarExpr (id (codes "fs"))) (IntExpr (pos 0)));
            })
            (CallStmt nowhere ((id (codes "trace")) ∷ []) (MoreExprs (VarExpr (id (codes "x"))) NoExprs) End)) nowhere
            (id (codes "e")) (CallStmt nowhere ((id (codes "trace")) ∷ [])
            (MoreExprs (MethodExpr (VarExpr (id (codes "e"))) (ByName (id (codes "code"))) NoExprs) NoExprs) End)
            (ReturnStmt nowhere (Some VoidExpr) End))));
        close = nowhere;
      })) ∷ []);
  end = nowhere;
}

unfoldable pub void_actor_holds_the_last_promise_world : World
void_actor_holds_the_last_promise_world = record
    { seed = 0; words = []; processes = 1; events = 1000; turns = 100000; latency = (1, 2); loss = 0; diskdelay = (1, 2); script = [] }

void_actor_holds_the_last_promise_lines : List Line
void_actor_holds_the_last_promise_lines =
    line.Head
    ∷ (line.Boot 1 0 (process 0))
    ∷ (line.Start (actor 1) (codes "main"))
    ∷ (line.Start (actor 2) (codes "keep"))
    ∷ (line.Wait (actor 2) 1)
    ∷ (line.Wait (actor 1) 1)
    ∷ (line.Timer 2 2 (process 0) (cell 3))
    ∷ (line.Take (actor 2) 1 0)
    ∷ (line.Broken (cell 2))
    ∷ (line.Take (actor 1) 1 0)
    ∷ (line.Throw (actor 1) (error 1100))
    ∷ (line.Catch (actor 1) (error 1100))
    ∷ (line.PrintInt (actor 1) (pos 1100))
    ∷ (line.Finish (actor 1))
    ∷ (line.Finish (actor 2))
    ∷ line.EndIdle ∷ []

void_actor_holds_the_last_promise : SourceTrace void_actor_holds_the_last_promise_program void_actor_holds_the_last_promise_world
    void_actor_holds_the_last_promise_lines
unfolding void_actor_holds_the_last_promise_program void_actor_holds_the_last_promise_world void_actor_holds_the_last_promise_lines
void_actor_holds_the_last_promise = source_trace 20 400 void_actor_holds_the_last_promise_program void_actor_holds_the_last_promise_world
    void_actor_holds_the_last_promise_lines refl

unfoldable pub void_actor_holds_the_last_promise_classes : RawTree
void_actor_holds_the_last_promise_classes = record {
  records = ([]);
  functions = ([]);
  classes = ((record {
    name = (codes "keep");
    returns = NothingType;
    params = 2;
    slots = ((record { ty = (PromiseType IntType); name = (codes "q") }) ∷ (record { ty = IntType; name = (codes "n") }) ∷ []);
    locals = ([]);
    blocks = ((record { catcher = None; body = ([]); last = (ChooseLast 1) })
        ∷ (record { catcher = None; body = ([]); last = (ReturnLast None) }) ∷ []);
    groups = (((record {
      next = false;
      operand = (CallExpr (id (codes "delay")) (MoreExprs (VarExpr (id (codes "s1"))) NoExprs));
      into = None;
      block = 1;
    }) ∷ []) ∷ []);
  })
      ∷ (record {
        name = (codes "main");
        returns = VoidType;
        params = 1;
        slots = ((record { ty = IntType; name = (codes "p") }) ∷ (record { ty = (VectorType (FutureType IntType)); name = (codes "fs") })
            ∷ []);
        locals = ((PromiseType IntType) ∷ IntType ∷ ErrorType ∷ []);
        blocks = ((record {
          catcher = None;
          body =
              ((NewInstr (Slot 1)) ∷ (NewInstr (Local 0)) ∷
              (ActInstr ((id (codes "s1")) ∷ (id (codes "push_back")) ∷ [])
              (MoreExprs (MethodExpr (VarExpr (id (codes "l0"))) (ByName (id (codes "getFuture"))) NoExprs) NoExprs)) ∷
              (ActInstr ((id (codes "keep")) ∷ []) (MoreExprs (VarExpr (id (codes "l0"))) (MoreExprs (IntExpr (pos 2)) NoExprs))) ∷
              (DropInstr (0 ∷ [])) ∷ []);
          last = (GotoLast 1);
        })
            ∷ (record { catcher = (Some (record { block = 3; error = (Some 2); drops = ([]) })); body = ([]); last = (ChooseLast 1) })
            ∷ (record {
              catcher = (Some (record { block = 3; error = (Some 2); drops = (1 ∷ []) }));
              body =
                  ((ActInstr ((id (codes "trace")) ∷ []) (MoreExprs (VarExpr (id (codes "l1"))) NoExprs)) ∷ (DropInstr (1 ∷ [])) ∷ []);
              last
                  = (GotoLast 4);
            })
            ∷ (record {
              catcher = None;
              body = ((ActInstr ((id (codes "trace")) ∷ [])
                  (MoreExprs (MethodExpr (VarExpr (id (codes "l2"))) (ByName (id (codes "code"))) NoExprs) NoExprs)) ∷ (DropInstr (2 ∷ [])) ∷
                  []);
              last = (GotoLast 4);
            })
            ∷ (record { catcher = None; body = ([]); last = (ReturnLast (Some VoidExpr)) }) ∷ []);
        groups = (((record {
          next = false;
          operand = (indexed (VarExpr (id (codes "s1"))) (IntExpr (pos 0)));
          into = (Some (Local 1));
          block = 2;
        }) ∷ []) ∷ []);
      }) ∷ []);
}

void_actor_holds_the_last_promise_by_classes : ClassTrace void_actor_holds_the_last_promise_classes
    void_actor_holds_the_last_promise_world void_actor_holds_the_last_promise_lines
unfolding void_actor_holds_the_last_promise_classes void_actor_holds_the_last_promise_world void_actor_holds_the_last_promise_lines
void_actor_holds_the_last_promise_by_classes = class_trace 20 400 void_actor_holds_the_last_promise_classes
    void_actor_holds_the_last_promise_world void_actor_holds_the_last_promise_lines refl

-- void actors end by a bare return, in a try and in a loop
unfoldable pub void_actors_return_program : ProgramTree
void_actors_return_program = record {
  decls = ((ActorDecl (record {
    at = nowhere;
    returns = NothingType;
    name = (id (codes "once"));
    params = ((record { ty = IntType; name = (id (codes "n")) }) ∷ []);
    body = (TryStmt nowhere (CallStmt nowhere ((id (codes "trace")) ∷ []) (MoreExprs (VarExpr (id (codes "n"))) NoExprs)
        (ReturnStmt nowhere None End)) nowhere (id (codes "e"))
        (CallStmt nowhere ((id (codes "trace")) ∷ []) (MoreExprs (IntExpr (pos 0)) NoExprs) End) End);
    close = nowhere;
  }))
      ∷ (ActorDecl (record {
        at = nowhere;
        returns = NothingType;
        name = (id (codes "count"));
        params = ((record { ty = IntType; name = (id (codes "n")) }) ∷ []);
        body = (DeclareStmt nowhere (record { state = true; ty = IntType; name = (id (codes "k")) }) (Some (VarExpr (id (codes "n"))))
            (LoopStmt nowhere (IfStmt nowhere (BinaryExpr Eq (VarExpr (id (codes "k"))) (IntExpr (pos 0))) (ReturnStmt nowhere None End)
            (CallStmt nowhere ((id (codes "trace")) ∷ []) (MoreExprs (VarExpr (id (codes "k"))) NoExprs)
            (AssignStmt nowhere ((id (codes "k")) ∷ []) (BinaryExpr Sub (VarExpr (id (codes "k"))) (IntExpr (pos 1)))
            (WaitStmt nowhere (record {
              into = None;
              next = false;
              operand =
                  (CallExpr (id (codes "delay")) (MoreExprs (IntExpr (pos 1)) NoExprs));
            }) End)))) End));
        close = nowhere;
      }))
      ∷ (ActorDecl (record {
        at = nowhere;
        returns = VoidType;
        name = (id (codes "main"));
        params = ((record { ty = IntType; name = (id (codes "p")) }) ∷ []);
        body = (CallStmt nowhere ((id (codes "once")) ∷ []) (MoreExprs (IntExpr (pos 7)) NoExprs)
            (CallStmt nowhere ((id (codes "count")) ∷ []) (MoreExprs (IntExpr (pos 2)) NoExprs)
            (CallStmt nowhere ((id (codes "trace")) ∷ []) (MoreExprs (TextExpr (codes "on")) NoExprs)
            (ReturnStmt nowhere (Some VoidExpr) End))));
        close = nowhere;
      })) ∷ []);
  end = nowhere;
}

unfoldable pub void_actors_return_world : World
void_actors_return_world = record {
  seed = 0;
  words = [];
  processes = 1;
  events = 1000;
  turns = 100000;
  latency = (1, 2);
  loss = 0;
  diskdelay = (1, 2);
  script = [];
}

void_actors_return_lines : List Line
void_actors_return_lines =
    line.Head
    ∷ (line.Boot 1 0 (process 0))
    ∷ (line.Start (actor 1) (codes "main"))
    ∷ (line.Start (actor 2) (codes "once"))
    ∷ (line.PrintInt (actor 2) (pos 7))
    ∷ (line.Finish (actor 2))
    ∷ (line.Start (actor 3) (codes "count"))
    ∷ (line.PrintInt (actor 3) (pos 2))
    ∷ (line.Wait (actor 3) 1)
    ∷ (line.PrintText (actor 1) (codes "on"))
    ∷ (line.Finish (actor 1))
    ∷ (line.Timer 2 1 (process 0) (cell 2))
    ∷ (line.Take (actor 3) 1 0)
    ∷ (line.PrintInt (actor 3) (pos 1))
    ∷ (line.Wait (actor 3) 1)
    ∷ (line.Timer 3 2 (process 0) (cell 3))
    ∷ (line.Take (actor 3) 1 0)
    ∷ (line.Finish (actor 3))
    ∷ line.EndIdle ∷ []

void_actors_return : SourceTrace void_actors_return_program void_actors_return_world void_actors_return_lines
unfolding void_actors_return_program void_actors_return_world void_actors_return_lines
void_actors_return = source_trace 20 400 void_actors_return_program void_actors_return_world void_actors_return_lines refl

unfoldable pub void_actors_return_classes : RawTree
void_actors_return_classes = record {
  records = ([]);
  functions = ([]);
  classes = ((record {
    name = (codes "once");
    returns = NothingType;
    params = 1;
    slots = ((record { ty = IntType; name = (codes "n") }) ∷ []);
    locals = (ErrorType ∷ []);
    blocks = ((record { catcher = None; body = ([]); last = (GotoLast 1) })
        ∷ (record {
          catcher = (Some (record { block = 2; error = (Some 0); drops = ([]) }));
          body =
              ((ActInstr ((id (codes "trace")) ∷ []) (MoreExprs (VarExpr (id (codes "s0"))) NoExprs)) ∷ []);
          last = (ReturnLast None);
        })
        ∷ (record {
          catcher = None;
          body = ((ActInstr ((id (codes "trace")) ∷ []) (MoreExprs (IntExpr (pos 0)) NoExprs)) ∷
              (DropInstr (0 ∷ [])) ∷ []);
          last = (ReturnLast None);
        }) ∷ []);
    groups = ([]);
  })
      ∷ (record {
        name = (codes "count");
        returns = NothingType;
        params = 1;
        slots = ((record { ty = IntType; name = (codes "n") }) ∷ (record { ty = IntType; name = (codes "k") }) ∷ []);
        locals = ([]);
        blocks = ((record {
          catcher = None;
          body = ((SetInstr ((id (codes "s1")) ∷ []) (VarExpr (id (codes "s0")))) ∷ []);
          last =
              (PassLast 1);
        })
            ∷ (record { catcher = None; body = ([]); last = (TestLast (BinaryExpr Eq (VarExpr (id (codes "s1"))) (IntExpr (pos 0))) 2 3) })
            ∷ (record { catcher = None; body = ([]); last = (ReturnLast None) })
            ∷ (record {
              catcher = None;
              body = ((ActInstr ((id (codes "trace")) ∷ []) (MoreExprs (VarExpr (id (codes "s1"))) NoExprs)) ∷
                  (SetInstr ((id (codes "s1")) ∷ []) (BinaryExpr Sub (VarExpr (id (codes "s1"))) (IntExpr (pos 1)))) ∷ []);
              last =
                  (ChooseLast 1);
            })
            ∷ (record { catcher = None; body = ([]); last = (PassLast 1) }) ∷ []);
        groups = (((record {
          next = false;
          operand = (CallExpr (id (codes "delay")) (MoreExprs (IntExpr (pos 1)) NoExprs));
          into = None;
          block = 4;
        }) ∷ []) ∷ []);
      })
      ∷ (record {
        name = (codes "main");
        returns = VoidType;
        params = 1;
        slots = ((record { ty = IntType; name = (codes "p") }) ∷ []);
        locals = ([]);
        blocks = ((record {
          catcher = None;
          body =
              ((ActInstr ((id (codes "once")) ∷ []) (MoreExprs (IntExpr (pos 7)) NoExprs)) ∷
              (ActInstr ((id (codes "count")) ∷ []) (MoreExprs (IntExpr (pos 2)) NoExprs)) ∷
              (ActInstr ((id (codes "trace")) ∷ []) (MoreExprs (TextExpr (codes "on")) NoExprs)) ∷ []);
          last = (ReturnLast (Some VoidExpr));
        }) ∷ []);
        groups = ([]);
      }) ∷ []);
}

void_actors_return_by_classes : ClassTrace void_actors_return_classes void_actors_return_world void_actors_return_lines
unfolding void_actors_return_classes void_actors_return_world void_actors_return_lines
void_actors_return_by_classes = class_trace 20 400 void_actors_return_classes void_actors_return_world void_actors_return_lines refl

-- a stop cancels main alone, and a void actor goes on
unfoldable pub void_actors_are_stopped_with_nobody_program : ProgramTree
void_actors_are_stopped_with_nobody_program = record {
  decls = ((ActorDecl (record {
    at = nowhere;
    returns = NothingType;
    name = (id (codes "beat"));
    params = ((record { ty = IntType; name = (id (codes "n")) }) ∷ []);
    body = (WaitStmt nowhere (record {
      into = None;
      next = false;
      operand =
          (CallExpr (id (codes "delay")) (MoreExprs (VarExpr (id (codes "n"))) NoExprs));
    })
        (CallStmt nowhere ((id (codes "trace")) ∷ []) (MoreExprs (VarExpr (id (codes "n"))) NoExprs) End));
    close = nowhere;
  }))
      ∷ (ActorDecl (record {
        at = nowhere;
        returns = VoidType;
        name = (id (codes "main"));
        params = ((record { ty = IntType; name = (id (codes "p")) }) ∷ []);
        body = (CallStmt nowhere ((id (codes "beat")) ∷ []) (MoreExprs (IntExpr (pos 9)) NoExprs)
            (WaitStmt nowhere (record { into = None; next = false; operand = (CallExpr (id (codes "Never")) NoExprs) })
            (ReturnStmt nowhere (Some VoidExpr) End)));
        close = nowhere;
      })) ∷ []);
  end = nowhere;
}

unfoldable pub void_actors_are_stopped_with_nobody_world : World
void_actors_are_stopped_with_nobody_world = record {
  seed = 0;
  words = [];
  processes = 1;
  events = 1000;
  turns = 100000;
  latency = (1, 2);
  loss = 0;
  diskdelay = (1, 2);
  script =
      ((5, (order.Stop 0)) ∷ []);
}

void_actors_are_stopped_with_nobody_lines : List Line
void_actors_are_stopped_with_nobody_lines =
    line.Head
    ∷ (line.Boot 1 0 (process 0))
    ∷ (line.Start (actor 1) (codes "main"))
    ∷ (line.Start (actor 2) (codes "beat"))
    ∷ (line.Wait (actor 2) 1)
    ∷ (line.Wait (actor 1) 1)
    ∷ (line.Stop 2 5 (process 0))
    ∷ (line.Cancel (actor 1))
    ∷ (line.Throw (actor 1) (error 1101))
    ∷ (line.Fail (actor 1) (error 1101))
    ∷ (line.Timer 3 9 (process 0) (cell 2))
    ∷ (line.Take (actor 2) 1 0)
    ∷ (line.PrintInt (actor 2) (pos 9))
    ∷ (line.Finish (actor 2))
    ∷ line.EndIdle ∷ []

void_actors_are_stopped_with_nobody : SourceTrace void_actors_are_stopped_with_nobody_program void_actors_are_stopped_with_nobody_world
    void_actors_are_stopped_with_nobody_lines
unfolding void_actors_are_stopped_with_nobody_program void_actors_are_stopped_with_nobody_world void_actors_are_stopped_with_nobody_lines
void_actors_are_stopped_with_nobody = source_trace 20 400 void_actors_are_stopped_with_nobody_program
    void_actors_are_stopped_with_nobody_world void_actors_are_stopped_with_nobody_lines refl

unfoldable pub void_actors_are_stopped_with_nobody_classes : RawTree
void_actors_are_stopped_with_nobody_classes = record {
  records = ([]);
  functions = ([]);
  classes = ((record {
    name = (codes "beat");
    returns = NothingType;
    params = 1;
    slots = ((record { ty = IntType; name = (codes "n") }) ∷ []);
    locals = ([]);
    blocks = ((record { catcher = None; body = ([]); last = (ChooseLast 1) })
        ∷ (record {
          catcher = None;
          body = ((ActInstr ((id (codes "trace")) ∷ []) (MoreExprs (VarExpr (id (codes "s0"))) NoExprs)) ∷
              []);
          last = (ReturnLast None);
        }) ∷ []);
    groups = (((record {
      next = false;
      operand = (CallExpr (id (codes "delay")) (MoreExprs (VarExpr (id (codes "s0"))) NoExprs));
      into = None;
      block = 1;
    }) ∷ []) ∷ []);
  })
      ∷ (record {
        name = (codes "main");
        returns = VoidType;
        params = 1;
        slots = ((record { ty = IntType; name = (codes "p") }) ∷ []);
        locals = ([]);
        blocks = ((record {
          catcher = None;
          body = ((ActInstr ((id (codes "beat")) ∷ []) (MoreExprs (IntExpr (pos 9)) NoExprs)) ∷ []);
          last = (ChooseLast 1);
        })
            ∷ (record { catcher = None; body = ([]); last = (ReturnLast (Some VoidExpr)) }) ∷ []);
        groups = (((record { next = false; operand = (CallExpr (id (codes "Never")) NoExprs); into = None; block = 1 }) ∷ []) ∷ []);
      }) ∷ []);
}

void_actors_are_stopped_with_nobody_by_classes : ClassTrace void_actors_are_stopped_with_nobody_classes
    void_actors_are_stopped_with_nobody_world void_actors_are_stopped_with_nobody_lines
unfolding void_actors_are_stopped_with_nobody_classes void_actors_are_stopped_with_nobody_world void_actors_are_stopped_with_nobody_lines
void_actors_are_stopped_with_nobody_by_classes = class_trace 20 400 void_actors_are_stopped_with_nobody_classes
    void_actors_are_stopped_with_nobody_world void_actors_are_stopped_with_nobody_lines refl

-- a kill takes void actors too
unfoldable pub void_actors_are_killed_program : ProgramTree
void_actors_are_killed_program = record {
  decls = ((ActorDecl (record {
    at = nowhere;
    returns = NothingType;
    name = (id (codes "beat"));
    params = ((record { ty = IntType; name = (id (codes "n")) }) ∷ []);
    body = (WaitStmt nowhere (record {
      into = None;
      next = false;
      operand =
          (CallExpr (id (codes "delay")) (MoreExprs (VarExpr (id (codes "n"))) NoExprs));
    })
        (CallStmt nowhere ((id (codes "trace")) ∷ []) (MoreExprs (VarExpr (id (codes "n"))) NoExprs) End));
    close = nowhere;
  }))
      ∷ (ActorDecl (record {
        at = nowhere;
        returns = VoidType;
        name = (id (codes "main"));
        params = ((record { ty = IntType; name = (id (codes "p")) }) ∷ []);
        body = (CallStmt nowhere ((id (codes "beat")) ∷ []) (MoreExprs (IntExpr (pos 9)) NoExprs)
            (WaitStmt nowhere (record { into = None; next = false; operand = (CallExpr (id (codes "Never")) NoExprs) })
            (ReturnStmt nowhere (Some VoidExpr) End)));
        close = nowhere;
      })) ∷ []);
  end = nowhere;
}

unfoldable pub void_actors_are_killed_world : World
void_actors_are_killed_world = record {
  seed = 0;
  words = [];
  processes = 1;
  events = 1000;
  turns = 100000;
  latency = (1, 2);
  loss = 0;
  diskdelay = (1, 2);
  script = ((5, (order.Kill 0)) ∷ []);
}

void_actors_are_killed_lines : List Line
void_actors_are_killed_lines =
    line.Head
    ∷ (line.Boot 1 0 (process 0))
    ∷ (line.Start (actor 1) (codes "main"))
    ∷ (line.Start (actor 2) (codes "beat"))
    ∷ (line.Wait (actor 2) 1)
    ∷ (line.Wait (actor 1) 1)
    ∷ (line.Kill 2 5 (process 0))
    ∷ line.EndIdle ∷ []

void_actors_are_killed : SourceTrace void_actors_are_killed_program void_actors_are_killed_world void_actors_are_killed_lines
unfolding void_actors_are_killed_program void_actors_are_killed_world void_actors_are_killed_lines
void_actors_are_killed = source_trace 20 400 void_actors_are_killed_program void_actors_are_killed_world void_actors_are_killed_lines refl

unfoldable pub void_actors_are_killed_classes : RawTree
void_actors_are_killed_classes = record {
  records = ([]);
  functions = ([]);
  classes = ((record {
    name = (codes "beat");
    returns = NothingType;
    params = 1;
    slots = ((record { ty = IntType; name = (codes "n") }) ∷ []);
    locals = ([]);
    blocks = ((record { catcher = None; body = ([]); last = (ChooseLast 1) })
        ∷ (record {
          catcher = None;
          body = ((ActInstr ((id (codes "trace")) ∷ []) (MoreExprs (VarExpr (id (codes "s0"))) NoExprs)) ∷
              []);
          last = (ReturnLast None);
        }) ∷ []);
    groups = (((record {
      next = false;
      operand = (CallExpr (id (codes "delay")) (MoreExprs (VarExpr (id (codes "s0"))) NoExprs));
      into = None;
      block = 1;
    }) ∷ []) ∷ []);
  })
      ∷ (record {
        name = (codes "main");
        returns = VoidType;
        params = 1;
        slots = ((record { ty = IntType; name = (codes "p") }) ∷ []);
        locals = ([]);
        blocks = ((record {
          catcher = None;
          body = ((ActInstr ((id (codes "beat")) ∷ []) (MoreExprs (IntExpr (pos 9)) NoExprs)) ∷ []);
          last = (ChooseLast 1);
        })
            ∷ (record { catcher = None; body = ([]); last = (ReturnLast (Some VoidExpr)) }) ∷ []);
        groups = (((record { next = false; operand = (CallExpr (id (codes "Never")) NoExprs); into = None; block = 1 }) ∷ []) ∷ []);
      }) ∷ []);
}

void_actors_are_killed_by_classes : ClassTrace void_actors_are_killed_classes void_actors_are_killed_world void_actors_are_killed_lines
unfolding void_actors_are_killed_classes void_actors_are_killed_world void_actors_are_killed_lines
void_actors_are_killed_by_classes = class_trace 20 400 void_actors_are_killed_classes void_actors_are_killed_world
    void_actors_are_killed_lines refl

-- a void actor that starts itself is spent
unfoldable pub a_void_actor_starts_itself_program : ProgramTree
a_void_actor_starts_itself_program = record {
  decls = ((ActorDecl (record {
    at = nowhere;
    returns = NothingType;
    name = (id (codes "again"));
    params = ((record { ty = IntType; name = (id (codes "n")) }) ∷ []);
    body = (CallStmt nowhere ((id (codes "again")) ∷ [])
        (MoreExprs (BinaryExpr Add (VarExpr (id (codes "n"))) (IntExpr (pos 1))) NoExprs) End);
    close = nowhere;
  }))
      ∷ (ActorDecl (record {
        at = nowhere;
        returns = VoidType;
        name = (id (codes "main"));
        params = ((record { ty = IntType; name = (id (codes "p")) }) ∷ []);
        body = (CallStmt nowhere ((id (codes "again")) ∷ []) (MoreExprs (IntExpr (pos 1)) NoExprs)
            (CallStmt nowhere ((id (codes "trace")) ∷ []) (MoreExprs (TextExpr (codes "never")) NoExprs)
            (ReturnStmt nowhere (Some VoidExpr) End)));
        close = nowhere;
      })) ∷ []);
  end = nowhere;
}

unfoldable pub a_void_actor_starts_itself_world : World
a_void_actor_starts_itself_world = record
    { seed = 0; words = []; processes = 1; events = 1000; turns = 6; latency = (1, 2); loss = 0; diskdelay = (1, 2); script = [] }

a_void_actor_starts_itself_lines : List Line
a_void_actor_starts_itself_lines =
    line.Head
    ∷ (line.Boot 1 0 (process 0))
    ∷ (line.Start (actor 1) (codes "main"))
    ∷ (line.Start (actor 2) (codes "again"))
    ∷ (line.Start (actor 3) (codes "again"))
    ∷ (line.Start (actor 4) (codes "again"))
    ∷ (line.Start (actor 5) (codes "again"))
    ∷ (line.Start (actor 6) (codes "again"))
    ∷ line.EndSpent ∷ []

a_void_actor_starts_itself : SourceTrace a_void_actor_starts_itself_program a_void_actor_starts_itself_world
    a_void_actor_starts_itself_lines
unfolding a_void_actor_starts_itself_program a_void_actor_starts_itself_world a_void_actor_starts_itself_lines
a_void_actor_starts_itself = source_trace 20 400 a_void_actor_starts_itself_program a_void_actor_starts_itself_world
    a_void_actor_starts_itself_lines refl

unfoldable pub a_void_actor_starts_itself_classes : RawTree
a_void_actor_starts_itself_classes = record {
  records = ([]);
  functions = ([]);
  classes = ((record {
    name = (codes "again");
    returns = NothingType;
    params = 1;
    slots = ((record { ty = IntType; name = (codes "n") }) ∷ []);
    locals = ([]);
    blocks = ((record {
      catcher = None;
      body =
          ((ActInstr ((id (codes "again")) ∷ []) (MoreExprs (BinaryExpr Add (VarExpr (id (codes "s0"))) (IntExpr (pos 1))) NoExprs)) ∷
          []);
      last = (ReturnLast None);
    }) ∷ []);
    groups = ([]);
  })
      ∷ (record {
        name = (codes "main");
        returns = VoidType;
        params = 1;
        slots = ((record { ty = IntType; name = (codes "p") }) ∷ []);
        locals = ([]);
        blocks = ((record {
          catcher = None;
          body =
              ((ActInstr ((id (codes "again")) ∷ []) (MoreExprs (IntExpr (pos 1)) NoExprs)) ∷
              (ActInstr ((id (codes "trace")) ∷ []) (MoreExprs (TextExpr (codes "never")) NoExprs)) ∷ []);
          last =
              (ReturnLast (Some VoidExpr));
        }) ∷ []);
        groups = ([]);
      }) ∷ []);
}

a_void_actor_starts_itself_by_classes : ClassTrace a_void_actor_starts_itself_classes a_void_actor_starts_itself_world
    a_void_actor_starts_itself_lines
unfolding a_void_actor_starts_itself_classes a_void_actor_starts_itself_world a_void_actor_starts_itself_lines
a_void_actor_starts_itself_by_classes = class_trace 20 400 a_void_actor_starts_itself_classes a_void_actor_starts_itself_world
    a_void_actor_starts_itself_lines refl

-- the turns of a void actor, all of which are needed
unfoldable pub void_turns_just_suffice_program : ProgramTree
void_turns_just_suffice_program = record {
  decls = ((ActorDecl (record {
    at = nowhere;
    returns = NothingType;
    name = (id (codes "one"));
    params = ((record { ty = IntType; name = (id (codes "n")) }) ∷ []);
    body = (CallStmt nowhere ((id (codes "trace")) ∷ []) (MoreExprs (VarExpr (id (codes "n"))) NoExprs) End);
    close = nowhere;
  }))
      ∷ (ActorDecl (record {
        at = nowhere;
        returns = VoidType;
        name = (id (codes "main"));
        params = ((record { ty = IntType; name = (id (codes "p")) }) ∷ []);
        body = (CallStmt nowhere ((id (codes "one")) ∷ []) (MoreExprs (IntExpr (pos 1)) NoExprs)
            (CallStmt nowhere ((id (codes "trace")) ∷ []) (MoreExprs (TextExpr (codes "on")) NoExprs)
            (ReturnStmt nowhere (Some VoidExpr) End)));
        close = nowhere;
      })) ∷ []);
  end = nowhere;
}

unfoldable pub void_turns_just_suffice_world : World
void_turns_just_suffice_world = record {
  seed = 0;
  words = [];
  processes = 1;
  events = 1000;
  turns = 5;
  latency = (1, 2);
  loss = 0;
  diskdelay = (1, 2);
  script = [];
}

void_turns_just_suffice_lines : List Line
void_turns_just_suffice_lines =
    line.Head
    ∷ (line.Boot 1 0 (process 0))
    ∷ (line.Start (actor 1) (codes "main"))
    ∷ (line.Start (actor 2) (codes "one"))
    ∷ (line.PrintInt (actor 2) (pos 1))
    ∷ (line.Finish (actor 2))
    ∷ (line.PrintText (actor 1) (codes "on"))
    ∷ (line.Finish (actor 1))
    ∷ line.EndIdle ∷ []

void_turns_just_suffice : SourceTrace void_turns_just_suffice_program void_turns_just_suffice_world void_turns_just_suffice_lines
unfolding void_turns_just_suffice_program void_turns_just_suffice_world void_turns_just_suffice_lines
void_turns_just_suffice = source_trace 20 400 void_turns_just_suffice_program void_turns_just_suffice_world void_turns_just_suffice_lines
    refl

unfoldable pub void_turns_just_suffice_classes : RawTree
void_turns_just_suffice_classes = record {
  records = ([]);
  functions = ([]);
  classes = ((record {
    name = (codes "one");
    returns = NothingType;
    params = 1;
    slots = ((record { ty = IntType; name = (codes "n") }) ∷ []);
    locals = ([]);
    blocks = ((record {
      catcher = None;
      body =
          ((ActInstr ((id (codes "trace")) ∷ []) (MoreExprs (VarExpr (id (codes "s0"))) NoExprs)) ∷ []);
      last = (ReturnLast None);
    }) ∷
        []);
    groups = ([]);
  })
      ∷ (record {
        name = (codes "main");
        returns = VoidType;
        params = 1;
        slots = ((record { ty = IntType; name = (codes "p") }) ∷ []);
        locals = ([]);
        blocks = ((record {
          catcher = None;
          body =
              ((ActInstr ((id (codes "one")) ∷ []) (MoreExprs (IntExpr (pos 1)) NoExprs)) ∷
              (ActInstr ((id (codes "trace")) ∷ []) (MoreExprs (TextExpr (codes "on")) NoExprs)) ∷ []);
          last = (ReturnLast (Some VoidExpr));
        }) ∷ []);
        groups = ([]);
      }) ∷ []);
}

void_turns_just_suffice_by_classes : ClassTrace void_turns_just_suffice_classes void_turns_just_suffice_world
    void_turns_just_suffice_lines
unfolding void_turns_just_suffice_classes void_turns_just_suffice_world void_turns_just_suffice_lines
void_turns_just_suffice_by_classes = class_trace 20 400 void_turns_just_suffice_classes void_turns_just_suffice_world
    void_turns_just_suffice_lines refl

-- the same with one turn less
unfoldable pub void_turns_one_short_program : ProgramTree
void_turns_one_short_program = record {
  decls = ((ActorDecl (record {
    at = nowhere;
    returns = NothingType;
    name = (id (codes "one"));
    params = ((record { ty = IntType; name = (id (codes "n")) }) ∷ []);
    body = (CallStmt nowhere ((id (codes "trace")) ∷ []) (MoreExprs (VarExpr (id (codes "n"))) NoExprs) End);
    close = nowhere;
  }))
      ∷ (ActorDecl (record {
        at = nowhere;
        returns = VoidType;
        name = (id (codes "main"));
        params = ((record { ty = IntType; name = (id (codes "p")) }) ∷ []);
        body = (CallStmt nowhere ((id (codes "one")) ∷ []) (MoreExprs (IntExpr (pos 1)) NoExprs)
            (CallStmt nowhere ((id (codes "trace")) ∷ []) (MoreExprs (TextExpr (codes "on")) NoExprs)
            (ReturnStmt nowhere (Some VoidExpr) End)));
        close = nowhere;
      })) ∷ []);
  end = nowhere;
}

unfoldable pub void_turns_one_short_world : World
void_turns_one_short_world = record {
  seed = 0;
  words = [];
  processes = 1;
  events = 1000;
  turns = 3;
  latency = (1, 2);
  loss = 0;
  diskdelay = (1, 2);
  script = [];
}

void_turns_one_short_lines : List Line
void_turns_one_short_lines =
    line.Head
    ∷ (line.Boot 1 0 (process 0))
    ∷ (line.Start (actor 1) (codes "main"))
    ∷ (line.Start (actor 2) (codes "one"))
    ∷ (line.PrintInt (actor 2) (pos 1))
    ∷ (line.Finish (actor 2))
    ∷ (line.PrintText (actor 1) (codes "on"))
    ∷ line.EndSpent ∷ []

void_turns_one_short : SourceTrace void_turns_one_short_program void_turns_one_short_world void_turns_one_short_lines
unfolding void_turns_one_short_program void_turns_one_short_world void_turns_one_short_lines
void_turns_one_short = source_trace 20 400 void_turns_one_short_program void_turns_one_short_world void_turns_one_short_lines refl

unfoldable pub void_turns_one_short_classes : RawTree
void_turns_one_short_classes = record {
  records = ([]);
  functions = ([]);
  classes = ((record {
    name = (codes "one");
    returns = NothingType;
    params = 1;
    slots = ((record { ty = IntType; name = (codes "n") }) ∷ []);
    locals = ([]);
    blocks = ((record {
      catcher = None;
      body =
          ((ActInstr ((id (codes "trace")) ∷ []) (MoreExprs (VarExpr (id (codes "s0"))) NoExprs)) ∷ []);
      last = (ReturnLast None);
    }) ∷
        []);
    groups = ([]);
  })
      ∷ (record {
        name = (codes "main");
        returns = VoidType;
        params = 1;
        slots = ((record { ty = IntType; name = (codes "p") }) ∷ []);
        locals = ([]);
        blocks = ((record {
          catcher = None;
          body =
              ((ActInstr ((id (codes "one")) ∷ []) (MoreExprs (IntExpr (pos 1)) NoExprs)) ∷
              (ActInstr ((id (codes "trace")) ∷ []) (MoreExprs (TextExpr (codes "on")) NoExprs)) ∷ []);
          last = (ReturnLast (Some VoidExpr));
        }) ∷ []);
        groups = ([]);
      }) ∷ []);
}

void_turns_one_short_by_classes : ClassTrace void_turns_one_short_classes void_turns_one_short_world void_turns_one_short_lines
unfolding void_turns_one_short_classes void_turns_one_short_world void_turns_one_short_lines
void_turns_one_short_by_classes = class_trace 20 400 void_turns_one_short_classes void_turns_one_short_world void_turns_one_short_lines
    refl

-- the same with no turn to start it
unfoldable pub void_turns_none_to_start_program : ProgramTree
void_turns_none_to_start_program = record {
  decls = ((ActorDecl (record {
    at = nowhere;
    returns = NothingType;
    name = (id (codes "one"));
    params = ((record { ty = IntType; name = (id (codes "n")) }) ∷ []);
    body = (CallStmt nowhere ((id (codes "trace")) ∷ []) (MoreExprs (VarExpr (id (codes "n"))) NoExprs) End);
    close = nowhere;
  }))
      ∷ (ActorDecl (record {
        at = nowhere;
        returns = VoidType;
        name = (id (codes "main"));
        params = ((record { ty = IntType; name = (id (codes "p")) }) ∷ []);
        body = (CallStmt nowhere ((id (codes "one")) ∷ []) (MoreExprs (IntExpr (pos 1)) NoExprs)
            (CallStmt nowhere ((id (codes "trace")) ∷ []) (MoreExprs (TextExpr (codes "on")) NoExprs)
            (ReturnStmt nowhere (Some VoidExpr) End)));
        close = nowhere;
      })) ∷ []);
  end = nowhere;
}

unfoldable pub void_turns_none_to_start_world : World
void_turns_none_to_start_world = record {
  seed = 0;
  words = [];
  processes = 1;
  events = 1000;
  turns = 1;
  latency = (1, 2);
  loss = 0;
  diskdelay = (1, 2);
  script = [];
}

void_turns_none_to_start_lines : List Line
void_turns_none_to_start_lines =
    line.Head
    ∷ (line.Boot 1 0 (process 0))
    ∷ (line.Start (actor 1) (codes "main"))
    ∷ line.EndSpent ∷ []

void_turns_none_to_start : SourceTrace void_turns_none_to_start_program void_turns_none_to_start_world void_turns_none_to_start_lines
unfolding void_turns_none_to_start_program void_turns_none_to_start_world void_turns_none_to_start_lines
void_turns_none_to_start = source_trace 20 400 void_turns_none_to_start_program void_turns_none_to_start_world
    void_turns_none_to_start_lines refl

unfoldable pub void_turns_none_to_start_classes : RawTree
void_turns_none_to_start_classes = record {
  records = ([]);
  functions = ([]);
  classes = ((record {
    name = (codes "one");
    returns = NothingType;
    params = 1;
    slots = ((record { ty = IntType; name = (codes "n") }) ∷ []);
    locals = ([]);
    blocks = ((record {
      catcher = None;
      body =
          ((ActInstr ((id (codes "trace")) ∷ []) (MoreExprs (VarExpr (id (codes "s0"))) NoExprs)) ∷ []);
      last = (ReturnLast None);
    }) ∷
        []);
    groups = ([]);
  })
      ∷ (record {
        name = (codes "main");
        returns = VoidType;
        params = 1;
        slots = ((record { ty = IntType; name = (codes "p") }) ∷ []);
        locals = ([]);
        blocks = ((record {
          catcher = None;
          body =
              ((ActInstr ((id (codes "one")) ∷ []) (MoreExprs (IntExpr (pos 1)) NoExprs)) ∷
              (ActInstr ((id (codes "trace")) ∷ []) (MoreExprs (TextExpr (codes "on")) NoExprs)) ∷ []);
          last = (ReturnLast (Some VoidExpr));
        }) ∷ []);
        groups = ([]);
      }) ∷ []);
}

void_turns_none_to_start_by_classes : ClassTrace void_turns_none_to_start_classes void_turns_none_to_start_world
    void_turns_none_to_start_lines
unfolding void_turns_none_to_start_classes void_turns_none_to_start_world void_turns_none_to_start_lines
void_turns_none_to_start_by_classes = class_trace 20 400 void_turns_none_to_start_classes void_turns_none_to_start_world
    void_turns_none_to_start_lines refl

-- a void actor starts another, and goes on when that waits
unfoldable pub void_actors_nest_program : ProgramTree
void_actors_nest_program = record {
  decls = ((ActorDecl (record {
    at = nowhere;
    returns = NothingType;
    name = (id (codes "inner"));
    params = ((record { ty = IntType; name = (id (codes "n")) }) ∷ []);
    body = (CallStmt nowhere ((id (codes "trace")) ∷ []) (MoreExprs (VarExpr (id (codes "n"))) NoExprs)
        (WaitStmt nowhere (record {
          into = None;
          next = false;
          operand =
              (CallExpr (id (codes "delay")) (MoreExprs (VarExpr (id (codes "n"))) NoExprs));
        })
        (ThrowStmt nowhere (Some (CallExpr (id (codes "timed_out")) NoExprs)) End)));
    close = nowhere;
  }))
      ∷ (ActorDecl (record {
        at = nowhere;
        returns = NothingType;
        name = (id (codes "outer"));
        params = ((record { ty = IntType; name = (id (codes "n")) }) ∷ []);
        body = (CallStmt nowhere ((id (codes "inner")) ∷ [])
            (MoreExprs (BinaryExpr Add (VarExpr (id (codes "n"))) (IntExpr (pos 1))) NoExprs)
            (CallStmt nowhere ((id (codes "trace")) ∷ []) (MoreExprs (VarExpr (id (codes "n"))) NoExprs)
            (WaitStmt nowhere (record {
              into = None;
              next = false;
              operand =
                  (CallExpr (id (codes "delay")) (MoreExprs (VarExpr (id (codes "n"))) NoExprs));
            })
            (CallStmt nowhere ((id (codes "trace")) ∷ []) (MoreExprs (TextExpr (codes "end")) NoExprs) End))));
        close = nowhere;
      }))
      ∷ (ActorDecl (record {
        at = nowhere;
        returns = VoidType;
        name = (id (codes "main"));
        params = ((record { ty = IntType; name = (id (codes "p")) }) ∷ []);
        body = (CallStmt nowhere ((id (codes "outer")) ∷ []) (MoreExprs (IntExpr (pos 1)) NoExprs)
            (CallStmt nowhere ((id (codes "trace")) ∷ []) (MoreExprs (TextExpr (codes "on")) NoExprs)
            (ReturnStmt nowhere (Some VoidExpr) End)));
        close = nowhere;
      })) ∷ []);
  end = nowhere;
}

unfoldable pub void_actors_nest_world : World
void_actors_nest_world = record {
  seed = 0;
  words = [];
  processes = 1;
  events = 1000;
  turns = 100000;
  latency = (1, 2);
  loss = 0;
  diskdelay = (1, 2);
  script = [];
}

void_actors_nest_lines : List Line
void_actors_nest_lines =
    line.Head
    ∷ (line.Boot 1 0 (process 0))
    ∷ (line.Start (actor 1) (codes "main"))
    ∷ (line.Start (actor 2) (codes "outer"))
    ∷ (line.Start (actor 3) (codes "inner"))
    ∷ (line.PrintInt (actor 3) (pos 2))
    ∷ (line.Wait (actor 3) 1)
    ∷ (line.PrintInt (actor 2) (pos 1))
    ∷ (line.Wait (actor 2) 1)
    ∷ (line.PrintText (actor 1) (codes "on"))
    ∷ (line.Finish (actor 1))
    ∷ (line.Timer 2 1 (process 0) (cell 3))
    ∷ (line.Take (actor 2) 1 0)
    ∷ (line.PrintText (actor 2) (codes "end"))
    ∷ (line.Finish (actor 2))
    ∷ (line.Timer 3 2 (process 0) (cell 2))
    ∷ (line.Take (actor 3) 1 0)
    ∷ (line.Throw (actor 3) (error 1004))
    ∷ (line.Fail (actor 3) (error 1004))
    ∷ line.EndIdle ∷ []

void_actors_nest : SourceTrace void_actors_nest_program void_actors_nest_world void_actors_nest_lines
unfolding void_actors_nest_program void_actors_nest_world void_actors_nest_lines
void_actors_nest = source_trace 20 400 void_actors_nest_program void_actors_nest_world void_actors_nest_lines refl

unfoldable pub void_actors_nest_classes : RawTree
void_actors_nest_classes = record {
  records = ([]);
  functions = ([]);
  classes = ((record {
    name = (codes "inner");
    returns = NothingType;
    params = 1;
    slots = ((record { ty = IntType; name = (codes "n") }) ∷ []);
    locals = ([]);
    blocks = ((record {
      catcher = None;
      body =
          ((ActInstr ((id (codes "trace")) ∷ []) (MoreExprs (VarExpr (id (codes "s0"))) NoExprs)) ∷ []);
      last = (ChooseLast 1);
    })
        ∷ (record { catcher = None; body = ([]); last = (ThrowLast (CallExpr (id (codes "timed_out")) NoExprs)) }) ∷ []);
    groups = (((record {
      next = false;
      operand = (CallExpr (id (codes "delay")) (MoreExprs (VarExpr (id (codes "s0"))) NoExprs));
      into = None;
      block = 1;
    }) ∷ []) ∷ []);
  })
      ∷ (record {
        name = (codes "outer");
        returns = NothingType;
        params = 1;
        slots = ((record { ty = IntType; name = (codes "n") }) ∷ []);
        locals = ([]);
        blocks = ((record {
          catcher = None;
          body =
              ((ActInstr ((id (codes "inner")) ∷ []) (MoreExprs (BinaryExpr Add (VarExpr (id (codes "s0"))) (IntExpr (pos 1))) NoExprs)) ∷
              (ActInstr ((id (codes "trace")) ∷ []) (MoreExprs (VarExpr (id (codes "s0"))) NoExprs)) ∷ []);
          last = (ChooseLast 1);
        })
            ∷ (record {
              catcher = None;
              body = ((ActInstr ((id (codes "trace")) ∷ []) (MoreExprs (TextExpr (codes "end")) NoExprs)) ∷ []);
              last = (ReturnLast None);
            }) ∷ []);
        groups = (((record {
          next = false;
          operand = (CallExpr (id (codes "delay")) (MoreExprs (VarExpr (id (codes "s0"))) NoExprs));
          into = None;
          block = 1;
        }) ∷ []) ∷ []);
      })
      ∷ (record {
        name = (codes "main");
        returns = VoidType;
        params = 1;
        slots = ((record { ty = IntType; name = (codes "p") }) ∷ []);
        locals = ([]);
        blocks = ((record {
          catcher = None;
          body =
              ((ActInstr ((id (codes "outer")) ∷ []) (MoreExprs (IntExpr (pos 1)) NoExprs)) ∷
              (ActInstr ((id (codes "trace")) ∷ []) (MoreExprs (TextExpr (codes "on")) NoExprs)) ∷ []);
          last = (ReturnLast (Some VoidExpr));
        }) ∷ []);
        groups = ([]);
      }) ∷ []);
}

void_actors_nest_by_classes : ClassTrace void_actors_nest_classes void_actors_nest_world void_actors_nest_lines
unfolding void_actors_nest_classes void_actors_nest_world void_actors_nest_lines
void_actors_nest_by_classes = class_trace 20 400 void_actors_nest_classes void_actors_nest_world void_actors_nest_lines refl

-- a void actor catches what its wait throws
unfoldable pub a_void_actor_catches_program : ProgramTree
a_void_actor_catches_program = record {
  decls = ((ActorDecl (record {
    at = nowhere;
    returns = NothingType;
    name = (id (codes "keep"));
    params = ((record { ty = (FutureType IntType); name = (id (codes "f")) }) ∷ []);
    body = (TryStmt nowhere (WaitStmt nowhere
        (record {
          into = (Some (record { state = false; ty = IntType; name = (id (codes "x")) }));
          next = false;
          operand =
              (VarExpr (id (codes "f")));
        })
        (CallStmt nowhere ((id (codes "trace")) ∷ []) (MoreExprs (VarExpr (id (codes "x"))) NoExprs) End)) nowhere
        (id (codes "e")) (CallStmt nowhere ((id (codes "trace")) ∷ [])
        (MoreExprs (MethodExpr (VarExpr (id (codes "e"))) (ByName (id (codes "code"))) NoExprs) NoExprs) End) End);
    close = nowhere;
  }))
      ∷ (ActorDecl (record {
        at = nowhere;
        returns = VoidType;
        name = (id (codes "main"));
        params = ((record { ty = IntType; name = (id (codes "p")) }) ∷ []);
        body = (DeclareStmt nowhere (record { state = false; ty = (PromiseType IntType); name = (id (codes "q")) }) None
            (CallStmt nowhere ((id (codes "keep")) ∷ [])
            (MoreExprs (MethodExpr (VarExpr (id (codes "q"))) (ByName (id (codes "getFuture"))) NoExprs) NoExprs)
            (CallStmt nowhere ((id (codes "trace")) ∷ []) (MoreExprs (TextExpr (codes "on")) NoExprs)
            (ReturnStmt nowhere (Some VoidExpr) End))));
        close = nowhere;
      })) ∷ []);
  end = nowhere;
}

unfoldable pub a_void_actor_catches_world : World
a_void_actor_catches_world = record {
  seed = 0;
  words = [];
  processes = 1;
  events = 1000;
  turns = 100000;
  latency = (1, 2);
  loss = 0;
  diskdelay = (1, 2);
  script = [];
}

a_void_actor_catches_lines : List Line
a_void_actor_catches_lines =
    line.Head
    ∷ (line.Boot 1 0 (process 0))
    ∷ (line.Start (actor 1) (codes "main"))
    ∷ (line.Start (actor 2) (codes "keep"))
    ∷ (line.Wait (actor 2) 1)
    ∷ (line.PrintText (actor 1) (codes "on"))
    ∷ (line.Broken (cell 2))
    ∷ (line.Take (actor 2) 1 0)
    ∷ (line.Throw (actor 2) (error 1100))
    ∷ (line.Catch (actor 2) (error 1100))
    ∷ (line.PrintInt (actor 2) (pos 1100))
    ∷ (line.Finish (actor 2))
    ∷ (line.Finish (actor 1))
    ∷ line.EndIdle ∷ []

a_void_actor_catches : SourceTrace a_void_actor_catches_program a_void_actor_catches_world a_void_actor_catches_lines
unfolding a_void_actor_catches_program a_void_actor_catches_world a_void_actor_catches_lines
a_void_actor_catches = source_trace 20 400 a_void_actor_catches_program a_void_actor_catches_world a_void_actor_catches_lines refl

unfoldable pub a_void_actor_catches_classes : RawTree
a_void_actor_catches_classes = record {
  records = ([]);
  functions = ([]);
  classes = ((record {
    name = (codes "keep");
    returns = NothingType;
    params = 1;
    slots = ((record { ty = (FutureType IntType); name = (codes "f") }) ∷ []);
    locals = (IntType ∷ ErrorType ∷ []);
    blocks = ((record { catcher = None; body = ([]); last = (GotoLast 1) })
        ∷ (record { catcher = (Some (record { block = 3; error = (Some 1); drops = ([]) })); body = ([]); last = (ChooseLast 1) })
        ∷ (record {
          catcher = (Some (record { block = 3; error = (Some 1); drops = (0 ∷ []) }));
          body =
              ((ActInstr ((id (codes "trace")) ∷ []) (MoreExprs (VarExpr (id (codes "l0"))) NoExprs)) ∷ (DropInstr (0 ∷ [])) ∷ []);
          last
              = (GotoLast 4);
        })
        ∷ (record {
          catcher = None;
          body = ((ActInstr ((id (codes "trace")) ∷ [])
              (MoreExprs (MethodExpr (VarExpr (id (codes "l1"))) (ByName (id (codes "code"))) NoExprs) NoExprs)) ∷ (DropInstr (1 ∷ [])) ∷
              []);
          last = (GotoLast 4);
        })
        ∷ (record { catcher = None; body = ([]); last = (ReturnLast None) }) ∷ []);
    groups = (((record { next = false; operand = (VarExpr (id (codes "s0"))); into = (Some (Local 0)); block = 2 }) ∷ []) ∷ []);
  })
      ∷ (record {
        name = (codes "main");
        returns = VoidType;
        params = 1;
        slots = ((record { ty = IntType; name = (codes "p") }) ∷ []);
        locals = ((PromiseType IntType) ∷ []);
        blocks = ((record {
          catcher = None;
          body =
              ((NewInstr (Local 0)) ∷ (ActInstr ((id (codes "keep")) ∷ [])
              (MoreExprs (MethodExpr (VarExpr (id (codes "l0"))) (ByName (id (codes "getFuture"))) NoExprs) NoExprs)) ∷
              (ActInstr ((id (codes "trace")) ∷ []) (MoreExprs (TextExpr (codes "on")) NoExprs)) ∷ []);
          last = (ReturnLast (Some VoidExpr));
        }) ∷ []);
        groups = ([]);
      }) ∷ []);
}

a_void_actor_catches_by_classes : ClassTrace a_void_actor_catches_classes a_void_actor_catches_world a_void_actor_catches_lines
unfolding a_void_actor_catches_classes a_void_actor_catches_world a_void_actor_catches_lines
a_void_actor_catches_by_classes = class_trace 20 400 a_void_actor_catches_classes a_void_actor_catches_world a_void_actor_catches_lines
    refl

-- a void actor that fails drops what it held, which is cancelled
unfoldable pub a_void_actor_holds_an_actor_program : ProgramTree
a_void_actor_holds_an_actor_program = record {
  decls = ((ActorDecl (record {
    at = nowhere;
    returns = VoidType;
    name = (id (codes "leaf"));
    params = ((record { ty = IntType; name = (id (codes "n")) }) ∷ []);
    body = (WaitStmt nowhere (record { into = None; next = false; operand = (CallExpr (id (codes "Never")) NoExprs) })
        (ReturnStmt nowhere (Some VoidExpr) End));
    close = nowhere;
  }))
      ∷ (ActorDecl (record {
        at = nowhere;
        returns = NothingType;
        name = (id (codes "hold"));
        params = ((record { ty = IntType; name = (id (codes "n")) }) ∷ []);
        body = (DeclareStmt nowhere (record { state = true; ty = (FutureType VoidType); name = (id (codes "f")) })
            (Some (CallExpr (id (codes "leaf")) (MoreExprs (VarExpr (id (codes "n"))) NoExprs)))
            (WaitStmt nowhere (record {
              into = None;
              next = false;
              operand =
                  (CallExpr (id (codes "delay")) (MoreExprs (VarExpr (id (codes "n"))) NoExprs));
            })
            (ThrowStmt nowhere (Some (CallExpr (id (codes "timed_out")) NoExprs)) End)));
        close = nowhere;
      }))
      ∷ (ActorDecl (record {
        at = nowhere;
        returns = VoidType;
        name = (id (codes "main"));
        params = ((record { ty = IntType; name = (id (codes "p")) }) ∷ []);
        body = (CallStmt nowhere ((id (codes "hold")) ∷ []) (MoreExprs (IntExpr (pos 1)) NoExprs)
            (ReturnStmt nowhere (Some VoidExpr) End));
        close = nowhere;
      })) ∷ []);
  end = nowhere;
}

unfoldable pub a_void_actor_holds_an_actor_world : World
a_void_actor_holds_an_actor_world = record
    { seed = 0; words = []; processes = 1; events = 1000; turns = 100000; latency = (1, 2); loss = 0; diskdelay = (1, 2); script = [] }

a_void_actor_holds_an_actor_lines : List Line
a_void_actor_holds_an_actor_lines =
    line.Head
    ∷ (line.Boot 1 0 (process 0))
    ∷ (line.Start (actor 1) (codes "main"))
    ∷ (line.Start (actor 2) (codes "hold"))
    ∷ (line.Start (actor 3) (codes "leaf"))
    ∷ (line.Wait (actor 3) 1)
    ∷ (line.Wait (actor 2) 1)
    ∷ (line.Finish (actor 1))
    ∷ (line.Timer 2 1 (process 0) (cell 4))
    ∷ (line.Take (actor 2) 1 0)
    ∷ (line.Throw (actor 2) (error 1004))
    ∷ (line.Cancel (actor 3))
    ∷ (line.Throw (actor 3) (error 1101))
    ∷ (line.Fail (actor 3) (error 1101))
    ∷ (line.Fail (actor 2) (error 1004))
    ∷ line.EndIdle ∷ []

a_void_actor_holds_an_actor : SourceTrace a_void_actor_holds_an_actor_program a_void_actor_holds_an_actor_world
    a_void_actor_holds_an_actor_lines
unfolding a_void_actor_holds_an_actor_program a_void_actor_holds_an_actor_world a_void_actor_holds_an_actor_lines
a_void_actor_holds_an_actor = source_trace 20 400 a_void_actor_holds_an_actor_program a_void_actor_holds_an_actor_world
    a_void_actor_holds_an_actor_lines refl

unfoldable pub a_void_actor_holds_an_actor_classes : RawTree
a_void_actor_holds_an_actor_classes = record {
  records = ([]);
  functions = ([]);
  classes = ((record {
    name = (codes "leaf");
    returns = VoidType;
    params = 1;
    slots = ((record { ty = IntType; name = (codes "n") }) ∷ []);
    locals = ([]);
    blocks = ((record { catcher = None; body = ([]); last = (ChooseLast 1) })
        ∷ (record { catcher = None; body = ([]); last = (ReturnLast (Some VoidExpr)) }) ∷ []);
    groups = (((record { next = false; operand = (CallExpr (id (codes "Never")) NoExprs); into = None; block = 1 }) ∷ []) ∷ []);
  })
      ∷ (record {
        name = (codes "hold");
        returns = NothingType;
        params = 1;
        slots = ((record { ty = IntType; name = (codes "n") }) ∷ (record { ty = (FutureType VoidType); name = (codes "f") }) ∷ []);
        locals = ([]);
        blocks = ((record {
          catcher = None;
          body =
              ((EffectInstr ((id (codes "s1")) ∷ []) (CallExpr (id (codes "leaf")) (MoreExprs (VarExpr (id (codes "s0"))) NoExprs))) ∷ []);
          last = (ChooseLast 1);
        })
            ∷ (record { catcher = None; body = ([]); last = (ThrowLast (CallExpr (id (codes "timed_out")) NoExprs)) }) ∷ []);
        groups = (((record {
          next = false;
          operand = (CallExpr (id (codes "delay")) (MoreExprs (VarExpr (id (codes "s0"))) NoExprs));
          into = None;
          block = 1;
        }) ∷ []) ∷ []);
      })
      ∷ (record {
        name = (codes "main");
        returns = VoidType;
        params = 1;
        slots = ((record { ty = IntType; name = (codes "p") }) ∷ []);
        locals = ([]);
        blocks = ((record {
          catcher = None;
          body = ((ActInstr ((id (codes "hold")) ∷ []) (MoreExprs (IntExpr (pos 1)) NoExprs)) ∷ []);
          last = (ReturnLast (Some VoidExpr));
        }) ∷ []);
        groups = ([]);
      }) ∷ []);
}

a_void_actor_holds_an_actor_by_classes : ClassTrace a_void_actor_holds_an_actor_classes a_void_actor_holds_an_actor_world
    a_void_actor_holds_an_actor_lines
unfolding a_void_actor_holds_an_actor_classes a_void_actor_holds_an_actor_world a_void_actor_holds_an_actor_lines
a_void_actor_holds_an_actor_by_classes = class_trace 20 400 a_void_actor_holds_an_actor_classes a_void_actor_holds_an_actor_world
    a_void_actor_holds_an_actor_lines refl
