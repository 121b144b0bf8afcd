-- Runs of streams, computed.
use Rattle.std.proofs.Common.{List, [], ◌∷◌, refl}
use Rattle.std.specs.Prelude.{pos, true, false, codes}
use Rattle.std.specs.declared.option.Option.TheVariants.{None, Some}
use Rattle.flow_trace.specs.declared.line.Line.{Line}
use Rattle.flow_trace.specs.declared.line.Line.TheVariants as line
use Rattle.flow_worldfile.specs.Worlds.{World}
use Rattle.flow_tree.specs.declared.expr.Op.TheVariants.{Gt, Mul}
use Rattle.flow_tree.specs.Tree.{ByName, IntType, VoidType, ErrorType, NamedType, FutureType, FutureStreamType, PromiseType, PromiseStreamType, IntExpr, VoidExpr, VarExpr, CallExpr, FieldExpr, MethodExpr, BinaryExpr, NoExprs, MoreExprs}
use Rattle.flow_tree.specs.Body.{End, IfStmt, LoopStmt, ReturnStmt, TryStmt, DeclareStmt, CallStmt, WaitStmt}
use Rattle.flow_tree.specs.Decls.{StructDecl, ActorDecl, ProgramTree}
use Rattle.flow_meaning.specs.Runs.{SourceTrace, ClassTrace}
use Rattle.flow_meaning.proofs.Following.{source_trace, class_trace}
use Rattle.flow_meaning_tests.proofs.RowTerms.{nowhere, id, process, actor, cell, error}
use Rattle.flow_class.specs.declared.class.Slotted.TheVariants.{Slot, Local}
use Rattle.flow_class.specs.Classes.{RawTree, SetInstr, EffectInstr, NewInstr, ActInstr, DropInstr, GotoLast, PassLast, TestLast, ChooseLast, ReturnLast}

-- a server that answers requests in a stream, and breaks the promise of one
unfoldable pub request_server_program : ProgramTree
request_server_program = record {
  decls = ((StructDecl (record {
    at = nowhere;
    name = (id (codes "Ask"));
    fields = ((record { ty = IntType; name = (id (codes "n")) }) ∷ (record { ty = (PromiseType IntType); name = (id (codes "reply")) }) ∷ []);
  }))
      ∷ (ActorDecl (record {
        at = nowhere;
        returns = VoidType;
        name = (id (codes "server"));
        params = ((record { ty = (FutureStreamType (NamedType (codes "Ask"))); name = (id (codes "asks")) }) ∷ []);
        body = (LoopStmt nowhere (WaitStmt nowhere (record {
          into = (Some (record { state = false; ty = (NamedType (codes "Ask")); name = (id (codes "a")) }));
          next = true;
          operand = (VarExpr (id (codes "asks")));
        }) (IfStmt nowhere (BinaryExpr Gt (FieldExpr (VarExpr (id (codes "a"))) (id (codes "n"))) (IntExpr (pos 0)))
            (CallStmt nowhere ((id (codes "a")) ∷ (id (codes "reply")) ∷ (id (codes "send")) ∷ [])
            (MoreExprs (BinaryExpr Mul (FieldExpr (VarExpr (id (codes "a"))) (id (codes "n"))) (IntExpr (pos 2))) NoExprs) End) End)) End);
        close = nowhere;
      }))
      ∷ (ActorDecl (record {
        at = nowhere;
        returns = IntType;
        name = (id (codes "client"));
        params = ((record { ty = (PromiseStreamType (NamedType (codes "Ask"))); name = (id (codes "to")) }) ∷ (record { ty = IntType; name = (id (codes "n")) }) ∷ []);
        body = (DeclareStmt nowhere (record { state = false; ty = (PromiseType IntType); name = (id (codes "r")) }) None
            (CallStmt nowhere ((id (codes "to")) ∷ (id (codes "send")) ∷ [])
            (MoreExprs (CallExpr (id (codes "Ask")) (MoreExprs (VarExpr (id (codes "n"))) (MoreExprs (VarExpr (id (codes "r"))) NoExprs))) NoExprs)
            (WaitStmt nowhere (record {
              into = (Some (record { state = false; ty = IntType; name = (id (codes "got")) }));
              next = false;
              operand = (MethodExpr (VarExpr (id (codes "r"))) (ByName (id (codes "getFuture"))) NoExprs);
            }) (ReturnStmt nowhere (Some (VarExpr (id (codes "got")))) End))));
        close = nowhere;
      }))
      ∷ (ActorDecl (record {
        at = nowhere;
        returns = VoidType;
        name = (id (codes "main"));
        params = ((record { ty = IntType; name = (id (codes "p")) }) ∷ []);
        body = (DeclareStmt nowhere (record { state = true; ty = (PromiseStreamType (NamedType (codes "Ask"))); name = (id (codes "asks")) }) None
            (DeclareStmt nowhere (record { state = true; ty = (FutureType VoidType); name = (id (codes "s")) })
            (Some (CallExpr (id (codes "server")) (MoreExprs (MethodExpr (VarExpr (id (codes "asks"))) (ByName (id (codes "getFuture"))) NoExprs) NoExprs)))
            (WaitStmt nowhere (record {
              into = (Some (record { state = false; ty = IntType; name = (id (codes "good")) }));
              next = false;
              operand = (CallExpr (id (codes "client")) (MoreExprs (VarExpr (id (codes "asks"))) (MoreExprs (IntExpr (pos 21)) NoExprs)));
            })
            (CallStmt nowhere ((id (codes "trace")) ∷ []) (MoreExprs (VarExpr (id (codes "good"))) NoExprs)
            (TryStmt nowhere (WaitStmt nowhere (record {
              into = (Some (record { state = false; ty = IntType; name = (id (codes "bad")) }));
              next = false;
              operand = (CallExpr (id (codes "client")) (MoreExprs (VarExpr (id (codes "asks"))) (MoreExprs (IntExpr (pos 0)) NoExprs)));
            })
            (CallStmt nowhere ((id (codes "trace")) ∷ []) (MoreExprs (VarExpr (id (codes "bad"))) NoExprs) End)) nowhere (id (codes "e"))
            (CallStmt nowhere ((id (codes "trace")) ∷ []) (MoreExprs (MethodExpr (VarExpr (id (codes "e"))) (ByName (id (codes "code"))) NoExprs) NoExprs) End) (ReturnStmt nowhere (Some VoidExpr) End))))));
        close = nowhere;
      })) ∷ []);
  end = nowhere;
}

unfoldable pub request_server_world : World
request_server_world = record { seed = 0; words = []; processes = 1; events = 1000; turns = 100000; latency = (1, 2); loss = 0; diskdelay = (1, 2); script = [] }

request_server_lines : List Line
request_server_lines =
    line.Head
    ∷ (line.Boot 1 0 (process 0))
    ∷ (line.Start (actor 1) (codes "main"))
    ∷ (line.Start (actor 2) (codes "server"))
    ∷ (line.Wait (actor 2) 1)
    ∷ (line.Start (actor 3) (codes "client"))
    ∷ (line.Take (actor 2) 1 0)
    ∷ (line.Wait (actor 2) 1)
    ∷ (line.Take (actor 3) 1 0)
    ∷ (line.Finish (actor 3))
    ∷ (line.Take (actor 1) 1 0)
    ∷ (line.PrintInt (actor 1) (pos 42))
    ∷ (line.Start (actor 4) (codes "client"))
    ∷ (line.Take (actor 2) 1 0)
    ∷ (line.Wait (actor 2) 1)
    ∷ (line.Wait (actor 4) 1)
    ∷ (line.Broken (cell 7))
    ∷ (line.Take (actor 4) 1 0)
    ∷ (line.Throw (actor 4) (error 1100))
    ∷ (line.Fail (actor 4) (error 1100))
    ∷ (line.Take (actor 1) 2 0)
    ∷ (line.Throw (actor 1) (error 1100))
    ∷ (line.Catch (actor 1) (error 1100))
    ∷ (line.PrintInt (actor 1) (pos 1100))
    ∷ (line.Cancel (actor 2))
    ∷ (line.Throw (actor 2) (error 1101))
    ∷ (line.Fail (actor 2) (error 1101))
    ∷ (line.Finish (actor 1))
    ∷ line.EndIdle ∷ []

request_server : SourceTrace request_server_program request_server_world request_server_lines
unfolding request_server_program request_server_world request_server_lines
request_server = source_trace 20 400 request_server_program request_server_world request_server_lines refl

unfoldable pub request_server_classes : RawTree
request_server_classes = record {
  records = ((record {
    at = nowhere;
    name = (id (codes "Ask"));
    fields = ((record { ty = IntType; name = (id (codes "n")) }) ∷ (record { ty = (PromiseType IntType); name = (id (codes "reply")) }) ∷ []);
  }) ∷ []);
  functions = [];
  classes = ((record {
    name = (codes "server");
    returns = VoidType;
    params = 1;
    slots = ((record { ty = (FutureStreamType (NamedType (codes "Ask"))); name = (codes "asks") }) ∷ []);
    locals = ((NamedType (codes "Ask")) ∷ []);
    blocks = ((record { catcher = None; body = []; last = (PassLast 1) }) ∷ (record { catcher = None; body = []; last = (ChooseLast 1) })
        ∷ (record { catcher = None; body = []; last = (TestLast (BinaryExpr Gt (FieldExpr (VarExpr (id (codes "l0"))) (id (codes "n"))) (IntExpr (pos 0))) 3 4) })
        ∷ (record {
          catcher = None;
          body = ((ActInstr ((id (codes "l0")) ∷ (id (codes "reply")) ∷ (id (codes "send")) ∷ [])
              (MoreExprs (BinaryExpr Mul (FieldExpr (VarExpr (id (codes "l0"))) (id (codes "n"))) (IntExpr (pos 2))) NoExprs)) ∷ []);
          last = (GotoLast 4);
        })
        ∷ (record { catcher = None; body = ((DropInstr (0 ∷ [])) ∷ []); last = (PassLast 1) }) ∷ []);
    groups = (((record { next = true; operand = (VarExpr (id (codes "s0"))); into = (Some (Local 0)); block = 2 }) ∷ []) ∷ []);
  })
      ∷ (record {
        name = (codes "client");
        returns = IntType;
        params = 2;
        slots = ((record { ty = (PromiseStreamType (NamedType (codes "Ask"))); name = (codes "to") }) ∷ (record { ty = IntType; name = (codes "n") }) ∷ []);
        locals = ((PromiseType IntType) ∷ IntType ∷ []);
        blocks = ((record {
          catcher = None;
          body = ((NewInstr (Local 0)) ∷ (ActInstr ((id (codes "s0")) ∷ (id (codes "send")) ∷ [])
              (MoreExprs (CallExpr (id (codes "Ask")) (MoreExprs (VarExpr (id (codes "s1"))) (MoreExprs (VarExpr (id (codes "l0"))) NoExprs))) NoExprs)) ∷ []);
          last = (ChooseLast 1);
        })
            ∷ (record { catcher = None; body = []; last = (ReturnLast (Some (VarExpr (id (codes "l1"))))) }) ∷ []);
        groups = (((record { next = false; operand = (MethodExpr (VarExpr (id (codes "l0"))) (ByName (id (codes "getFuture"))) NoExprs); into = (Some (Local 1)); block = 1 }) ∷ []) ∷ []);
      })
      ∷ (record {
        name = (codes "main");
        returns = VoidType;
        params = 1;
        slots = ((record { ty = IntType; name = (codes "p") }) ∷ (record { ty = (PromiseStreamType (NamedType (codes "Ask"))); name = (codes "asks") })
            ∷ (record { ty = (FutureType VoidType); name = (codes "s") }) ∷ []);
        locals = (IntType ∷ IntType ∷ ErrorType ∷ []);
        blocks = ((record {
          catcher = None;
          body = ((NewInstr (Slot 1))
              ∷ (EffectInstr ((id (codes "s2")) ∷ []) (CallExpr (id (codes "server")) (MoreExprs (MethodExpr (VarExpr (id (codes "s1"))) (ByName (id (codes "getFuture"))) NoExprs) NoExprs))) ∷ []);
          last = (ChooseLast 1);
        }) ∷ (record { catcher = None; body = ((ActInstr ((id (codes "trace")) ∷ []) (MoreExprs (VarExpr (id (codes "l0"))) NoExprs)) ∷ []); last = (GotoLast 2) })
            ∷ (record { catcher = (Some (record { block = 4; error = (Some 2); drops = [] })); body = []; last = (ChooseLast 2) })
            ∷ (record {
              catcher = (Some (record { block = 4; error = (Some 2); drops = (1 ∷ []) }));
              body = ((ActInstr ((id (codes "trace")) ∷ []) (MoreExprs (VarExpr (id (codes "l1"))) NoExprs)) ∷ (DropInstr (1 ∷ [])) ∷ []);
              last = (GotoLast 5);
            })
            ∷ (record {
              catcher = None;
              body = ((ActInstr ((id (codes "trace")) ∷ []) (MoreExprs (MethodExpr (VarExpr (id (codes "l2"))) (ByName (id (codes "code"))) NoExprs) NoExprs)) ∷ (DropInstr (2 ∷ [])) ∷ []);
              last = (GotoLast 5);
            }) ∷ (record { catcher = None; body = []; last = (ReturnLast (Some VoidExpr)) }) ∷ []);
        groups = (((record {
          next = false;
          operand = (CallExpr (id (codes "client")) (MoreExprs (VarExpr (id (codes "s1"))) (MoreExprs (IntExpr (pos 21)) NoExprs)));
          into = (Some (Local 0));
          block = 1;
        })
            ∷ []) ∷ ((record {
              next = false;
              operand = (CallExpr (id (codes "client")) (MoreExprs (VarExpr (id (codes "s1"))) (MoreExprs (IntExpr (pos 0)) NoExprs)));
              into = (Some (Local 1));
              block = 3;
            })
            ∷ []) ∷ []);
      }) ∷ []);
}

request_server_by_classes : ClassTrace request_server_classes request_server_world request_server_lines
unfolding request_server_classes request_server_world request_server_lines
request_server_by_classes = class_trace 20 400 request_server_classes request_server_world request_server_lines refl

-- elements of a stream, and then its end
unfoldable pub stream_with_end_program : ProgramTree
stream_with_end_program = record {
  decls = ((ActorDecl (record {
    at = nowhere;
    returns = VoidType;
    name = (id (codes "main"));
    params = ((record { ty = IntType; name = (id (codes "p")) }) ∷ []);
    body = (DeclareStmt nowhere (record { state = true; ty = (PromiseStreamType IntType); name = (id (codes "q")) }) None
        (DeclareStmt nowhere (record { state = true; ty = (FutureStreamType IntType); name = (id (codes "s")) }) (Some (MethodExpr (VarExpr (id (codes "q"))) (ByName (id (codes "getFuture"))) NoExprs))
        (CallStmt nowhere ((id (codes "q")) ∷ (id (codes "send")) ∷ []) (MoreExprs (IntExpr (pos 1)) NoExprs)
        (CallStmt nowhere ((id (codes "q")) ∷ (id (codes "send")) ∷ []) (MoreExprs (IntExpr (pos 2)) NoExprs)
        (CallStmt nowhere ((id (codes "q")) ∷ (id (codes "sendError")) ∷ []) (MoreExprs (CallExpr (id (codes "end_of_stream")) NoExprs) NoExprs)
        (TryStmt nowhere (LoopStmt nowhere (WaitStmt nowhere (record
        { into = (Some (record { state = false; ty = IntType; name = (id (codes "x")) })); next = true; operand = (VarExpr (id (codes "s"))) })
        (CallStmt nowhere ((id (codes "trace")) ∷ []) (MoreExprs (VarExpr (id (codes "x"))) NoExprs) End)) End) nowhere (id (codes "e"))
        (CallStmt nowhere ((id (codes "trace")) ∷ []) (MoreExprs (MethodExpr (VarExpr (id (codes "e"))) (ByName (id (codes "code"))) NoExprs) NoExprs) End) (ReturnStmt nowhere (Some VoidExpr) End)))))));
    close = nowhere;
  })) ∷ []);
  end = nowhere;
}

unfoldable pub stream_with_end_world : World
stream_with_end_world = record { seed = 0; words = []; processes = 1; events = 1000; turns = 100000; latency = (1, 2); loss = 0; diskdelay = (1, 2); script = [] }

stream_with_end_lines : List Line
stream_with_end_lines =
    line.Head
    ∷ (line.Boot 1 0 (process 0))
    ∷ (line.Start (actor 1) (codes "main"))
    ∷ (line.Take (actor 1) 1 0)
    ∷ (line.PrintInt (actor 1) (pos 1))
    ∷ (line.Take (actor 1) 1 0)
    ∷ (line.PrintInt (actor 1) (pos 2))
    ∷ (line.Take (actor 1) 1 0)
    ∷ (line.Throw (actor 1) (error 1))
    ∷ (line.Catch (actor 1) (error 1))
    ∷ (line.PrintInt (actor 1) (pos 1))
    ∷ (line.Finish (actor 1))
    ∷ line.EndIdle ∷ []

stream_with_end : SourceTrace stream_with_end_program stream_with_end_world stream_with_end_lines
unfolding stream_with_end_program stream_with_end_world stream_with_end_lines
stream_with_end = source_trace 20 400 stream_with_end_program stream_with_end_world stream_with_end_lines refl

unfoldable pub stream_with_end_classes : RawTree
stream_with_end_classes = record {
  records = [];
  functions = [];
  classes = ((record {
    name = (codes "main");
    returns = VoidType;
    params = 1;
    slots = ((record { ty = IntType; name = (codes "p") }) ∷ (record { ty = (PromiseStreamType IntType); name = (codes "q") })
        ∷ (record { ty = (FutureStreamType IntType); name = (codes "s") }) ∷ []);
    locals = (IntType ∷ ErrorType ∷ []);
    blocks = ((record {
      catcher = None;
      body = ((NewInstr (Slot 1)) ∷ (SetInstr ((id (codes "s2")) ∷ []) (MethodExpr (VarExpr (id (codes "s1"))) (ByName (id (codes "getFuture"))) NoExprs))
          ∷ (ActInstr ((id (codes "s1")) ∷ (id (codes "send")) ∷ []) (MoreExprs (IntExpr (pos 1)) NoExprs))
          ∷ (ActInstr ((id (codes "s1")) ∷ (id (codes "send")) ∷ []) (MoreExprs (IntExpr (pos 2)) NoExprs))
          ∷ (ActInstr ((id (codes "s1")) ∷ (id (codes "sendError")) ∷ []) (MoreExprs (CallExpr (id (codes "end_of_stream")) NoExprs) NoExprs)) ∷ []);
      last = (GotoLast 1);
    })
        ∷ (record { catcher = None; body = []; last = (PassLast 2) }) ∷ (record { catcher = (Some (record { block = 4; error = (Some 1); drops = [] })); body = []; last = (ChooseLast 1) })
        ∷ (record {
          catcher = (Some (record { block = 4; error = (Some 1); drops = (0 ∷ []) }));
          body = ((ActInstr ((id (codes "trace")) ∷ []) (MoreExprs (VarExpr (id (codes "l0"))) NoExprs)) ∷ (DropInstr (0 ∷ [])) ∷ []);
          last = (PassLast 2);
        })
        ∷ (record {
          catcher = None;
          body = ((ActInstr ((id (codes "trace")) ∷ []) (MoreExprs (MethodExpr (VarExpr (id (codes "l1"))) (ByName (id (codes "code"))) NoExprs) NoExprs)) ∷ (DropInstr (1 ∷ [])) ∷ []);
          last = (ReturnLast (Some VoidExpr));
        }) ∷ []);
    groups = (((record { next = true; operand = (VarExpr (id (codes "s2"))); into = (Some (Local 0)); block = 3 }) ∷ []) ∷ []);
  }) ∷ []);
}

stream_with_end_by_classes : ClassTrace stream_with_end_classes stream_with_end_world stream_with_end_lines
unfolding stream_with_end_classes stream_with_end_world stream_with_end_lines
stream_with_end_by_classes = class_trace 20 400 stream_with_end_classes stream_with_end_world stream_with_end_lines refl
