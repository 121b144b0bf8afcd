-- Runs of vectors, computed.
use Rattle.std.proofs.Common.{List, [], ◌∷◌, refl}
use Rattle.std.specs.Prelude.{pos, true, false, codes}
use Rattle.std.specs.declared.option.Option.TheVariants.{None, Some}
use Rattle.flow_trace.specs.declared.line.Line.{Line}
use Rattle.flow_trace.specs.declared.line.Line.TheVariants as line
use Rattle.flow_worldfile.specs.Worlds.{World}
use Rattle.flow_tree.specs.declared.expr.Op.TheVariants.{Lt, Add, Sub, Div}
use Rattle.flow_tree.specs.Tree.{ByName, IntType, VoidType, ErrorType, NamedType, FutureType, PromiseType, PromiseStreamType, VectorType, IntExpr, TextExpr, VoidExpr, VarExpr, CallExpr, FieldExpr, MethodExpr, BinaryExpr, NoExprs, MoreExprs, indexed}
use Rattle.flow_tree.specs.Body.{UpChange, End, BlockStmt, ForStmt, ReturnStmt, ThrowStmt, TryStmt, DeclareStmt, AssignStmt, ModifyStmt, CallStmt, WaitStmt}
use Rattle.flow_tree.specs.Decls.{StructDecl, FunctionDecl, ActorDecl, ProgramTree}
use Rattle.flow_meaning.specs.Runs.{SourceTrace, ClassTrace}
use Rattle.flow_meaning.proofs.Following.{source_trace, class_trace}
use Rattle.flow_meaning_tests.proofs.RowTerms.{nowhere, id, process, actor, cell, error}
use Rattle.flow_class.specs.declared.class.Slotted.TheVariants.{Slot, Local}
use Rattle.flow_class.specs.Classes.{RawTree, SetInstr, EffectInstr, NewInstr, ActInstr, DropInstr, GotoLast, PassLast, TestLast, ChooseLast, ReturnLast, ThrowLast}

-- a vector of futures that is cleared cancels the actors that it held, the oldest element first
unfoldable pub clear_cancels_program : ProgramTree
clear_cancels_program = record {
  decls = ((ActorDecl (record {
    at = nowhere;
    returns = VoidType;
    name = (id (codes "leaf"));
    params = ((record { ty = IntType; name = (id (codes "n")) }) ∷ []);
    body = (WaitStmt nowhere (record { into = None; next = false; operand = (CallExpr (id (codes "Never")) NoExprs) })
        (ReturnStmt nowhere (Some VoidExpr) End));
    close = nowhere;
  }))
      ∷ (ActorDecl (record {
        at = nowhere;
        returns = VoidType;
        name = (id (codes "main"));
        params = ((record { ty = IntType; name = (id (codes "p")) }) ∷ []);
        body = (DeclareStmt nowhere (record { state = true; ty = (VectorType (FutureType VoidType)); name = (id (codes "v")) }) None
            (DeclareStmt nowhere (record { state = true; ty = IntType; name = (id (codes "i")) }) (Some (IntExpr (pos 0)))
            (ForStmt nowhere (AssignStmt nowhere ((id (codes "i")) ∷ []) (IntExpr (pos 0)) End)
            (Some (BinaryExpr Lt (VarExpr (id (codes "i"))) (IntExpr (pos 2))))
            (ModifyStmt nowhere ((id (codes "i")) ∷ []) UpChange End)
            (DeclareStmt nowhere (record { state = false; ty = (FutureType VoidType); name = (id (codes "f")) })
            (Some (CallExpr (id (codes "leaf")) (MoreExprs (VarExpr (id (codes "i"))) NoExprs)))
            (CallStmt nowhere ((id (codes "v")) ∷ (id (codes "push_back")) ∷ []) (MoreExprs (VarExpr (id (codes "f"))) NoExprs) End))
            (CallStmt nowhere ((id (codes "v")) ∷ (id (codes "clear")) ∷ []) NoExprs
            (CallStmt nowhere ((id (codes "trace")) ∷ [])
            (MoreExprs (MethodExpr (VarExpr (id (codes "v"))) (ByName (id (codes "size"))) NoExprs) NoExprs)
            (ReturnStmt nowhere (Some VoidExpr) End))))));
        close = nowhere;
      })) ∷ []);
  end = nowhere;
}

unfoldable pub clear_cancels_world : World
clear_cancels_world = record {
  seed = 0;
  words = [];
  processes = 1;
  events = 1000;
  turns = 100000;
  latency = (1, 2);
  loss = 0;
  diskdelay
      = (1, 2);
  script = [];
}

clear_cancels_lines : List Line
clear_cancels_lines =
    line.Head
    ∷ (line.Boot 1 0 (process 0))
    ∷ (line.Start (actor 1) (codes "main"))
    ∷ (line.Start (actor 2) (codes "leaf"))
    ∷ (line.Wait (actor 2) 1)
    ∷ (line.Start (actor 3) (codes "leaf"))
    ∷ (line.Wait (actor 3) 1)
    ∷ (line.Cancel (actor 2))
    ∷ (line.Throw (actor 2) (error 1101))
    ∷ (line.Fail (actor 2) (error 1101))
    ∷ (line.Cancel (actor 3))
    ∷ (line.Throw (actor 3) (error 1101))
    ∷ (line.Fail (actor 3) (error 1101))
    ∷ (line.PrintInt (actor 1) (pos 0))
    ∷ (line.Finish (actor 1))
    ∷ line.EndIdle ∷ []

clear_cancels : SourceTrace clear_cancels_program clear_cancels_world clear_cancels_lines
unfolding clear_cancels_program clear_cancels_world clear_cancels_lines
clear_cancels = source_trace 20 400 clear_cancels_program clear_cancels_world clear_cancels_lines refl

unfoldable pub clear_cancels_classes : RawTree
clear_cancels_classes = record {
  records = ([]);
  functions = ([]);
  classes = ((record {
    name = (codes "leaf");
    returns = VoidType;
    params = 1;
    slots = ((record { ty = IntType; name = (codes "n") }) ∷ []);
    locals = ([]);
    blocks = ((record { catcher = None; body = ([]); last = (ChooseLast 1) })
        ∷ (record { catcher = None; body = ([]); last = (ReturnLast (Some VoidExpr)) }) ∷ []);
    groups = (((record { next = false; operand = (CallExpr (id (codes "Never")) NoExprs); into = None; block = 1 }) ∷ []) ∷ []);
  })
      ∷ (record {
        name = (codes "main");
        returns = VoidType;
        params = 1;
        slots = ((record { ty = IntType; name = (codes "p") }) ∷ (record { ty = (VectorType (FutureType VoidType)); name = (codes "v") })
            ∷ (record { ty = IntType; name = (codes "i") }) ∷ []);
        locals = ((FutureType VoidType) ∷ []);
        blocks = ((record {
          catcher = None;
          body =
              ((NewInstr (Slot 1)) ∷ (SetInstr ((id (codes "s2")) ∷ []) (IntExpr (pos 0))) ∷
              (SetInstr ((id (codes "s2")) ∷ []) (IntExpr (pos 0))) ∷ []);
          last = (PassLast 1);
        })
            ∷ (record { catcher = None; body = ([]); last = (TestLast (BinaryExpr Lt (VarExpr (id (codes "s2"))) (IntExpr (pos 2))) 2 3) })
            ∷ (record {
              catcher = None;
              body = ((EffectInstr ((id (codes "l0")) ∷ [])
                  (CallExpr (id (codes "leaf")) (MoreExprs (VarExpr (id (codes "s2"))) NoExprs))) ∷
                  (ActInstr ((id (codes "s1")) ∷ (id (codes "push_back")) ∷ []) (MoreExprs (VarExpr (id (codes "l0"))) NoExprs)) ∷
                  (DropInstr (0 ∷ [])) ∷ (SetInstr ((id (codes "s2")) ∷ []) (BinaryExpr Add (VarExpr (id (codes "s2"))) (IntExpr (pos 1)))) ∷
                  []);
              last = (PassLast 1);
            })
            ∷ (record {
              catcher = None;
              body = ((ActInstr ((id (codes "s1")) ∷ (id (codes "clear")) ∷ []) NoExprs) ∷
                  (ActInstr ((id (codes "trace")) ∷ []) (MoreExprs
                  (MethodExpr (VarExpr (id (codes "s1"))) (ByName (id (codes "size"))) NoExprs) NoExprs)) ∷ []);
              last =
                  (ReturnLast (Some VoidExpr));
            }) ∷ []);
        groups = ([]);
      }) ∷ []);
}

clear_cancels_by_classes : ClassTrace clear_cancels_classes clear_cancels_world clear_cancels_lines
unfolding clear_cancels_classes clear_cancels_world clear_cancels_lines
clear_cancels_by_classes = class_trace 20 400 clear_cancels_classes clear_cancels_world clear_cancels_lines refl

-- an index counts from 0, and past the last element it throws
unfoldable pub index_out_of_range_program : ProgramTree
index_out_of_range_program = record {
  decls = ((ActorDecl (record {
    at = nowhere;
    returns = VoidType;
    name = (id (codes "main"));
    params = ((record { ty = IntType; name = (id (codes "p")) }) ∷ []);
    body = (DeclareStmt nowhere (record { state = true; ty = (VectorType IntType); name = (id (codes "v")) }) None
        (CallStmt nowhere ((id (codes "v")) ∷ (id (codes "push_back")) ∷ []) (MoreExprs (IntExpr (pos 4)) NoExprs)
        (TryStmt nowhere (CallStmt nowhere ((id (codes "trace")) ∷ [])
        (MoreExprs (indexed (VarExpr (id (codes "v"))) (IntExpr (pos 0))) NoExprs)
        (CallStmt nowhere ((id (codes "trace")) ∷ []) (MoreExprs (indexed (VarExpr (id (codes "v"))) (IntExpr (pos 1))) NoExprs)
        End)) nowhere (id (codes "e")) (CallStmt nowhere ((id (codes "trace")) ∷ [])
        (MoreExprs (MethodExpr (VarExpr (id (codes "e"))) (ByName (id (codes "code"))) NoExprs) NoExprs) End)
        (ReturnStmt nowhere (Some VoidExpr) End))));
    close = nowhere;
  })) ∷ []);
  end = nowhere;
}

unfoldable pub index_out_of_range_world : World
index_out_of_range_world = record {
  seed = 0;
  words = [];
  processes = 1;
  events = 1000;
  turns = 100000;
  latency = (1, 2);
  loss = 0;
  diskdelay = (1, 2);
  script = [];
}

index_out_of_range_lines : List Line
index_out_of_range_lines =
    line.Head
    ∷ (line.Boot 1 0 (process 0))
    ∷ (line.Start (actor 1) (codes "main"))
    ∷ (line.PrintInt (actor 1) (pos 4))
    ∷ (line.Throw (actor 1) (error 9007))
    ∷ (line.Catch (actor 1) (error 9007))
    ∷ (line.PrintInt (actor 1) (pos 9007))
    ∷ (line.Finish (actor 1))
    ∷ line.EndIdle ∷ []

index_out_of_range : SourceTrace index_out_of_range_program index_out_of_range_world index_out_of_range_lines
unfolding index_out_of_range_program index_out_of_range_world index_out_of_range_lines
index_out_of_range = source_trace 20 400 index_out_of_range_program index_out_of_range_world index_out_of_range_lines refl

unfoldable pub index_out_of_range_classes : RawTree
index_out_of_range_classes = record {
  records = ([]);
  functions = ([]);
  classes = ((record {
    name = (codes "main");
    returns = VoidType;
    params = 1;
    slots = ((record { ty = IntType; name = (codes "p") }) ∷ (record { ty = (VectorType IntType); name = (codes "v") }) ∷ []);
    locals = (ErrorType ∷ []);
    blocks = ((record {
      catcher = None;
      body =
          ((NewInstr (Slot 1)) ∷ (ActInstr ((id (codes "s1")) ∷ (id (codes "push_back")) ∷ []) (MoreExprs (IntExpr (pos 4)) NoExprs)) ∷
          []);
      last = (GotoLast 1);
    })
        ∷ (record {
          catcher = (Some (record { block = 2; error = (Some 0); drops = ([]) }));
          body =
              ((ActInstr ((id (codes "trace")) ∷ []) (MoreExprs (indexed (VarExpr (id (codes "s1"))) (IntExpr (pos 0))) NoExprs)) ∷
              (ActInstr ((id (codes "trace")) ∷ []) (MoreExprs (indexed (VarExpr (id (codes "s1"))) (IntExpr (pos 1))) NoExprs)) ∷ []);
          last = (GotoLast 3);
        })
        ∷ (record {
          catcher = None;
          body = ((ActInstr ((id (codes "trace")) ∷ [])
              (MoreExprs (MethodExpr (VarExpr (id (codes "l0"))) (ByName (id (codes "code"))) NoExprs) NoExprs)) ∷ (DropInstr (0 ∷ [])) ∷
              []);
          last = (GotoLast 3);
        })
        ∷ (record { catcher = None; body = ([]); last = (ReturnLast (Some VoidExpr)) }) ∷ []);
    groups = ([]);
  }) ∷ []);
}

index_out_of_range_by_classes : ClassTrace index_out_of_range_classes index_out_of_range_world index_out_of_range_lines
unfolding index_out_of_range_classes index_out_of_range_world index_out_of_range_lines
index_out_of_range_by_classes = class_trace 20 400 index_out_of_range_classes index_out_of_range_world index_out_of_range_lines refl

-- promises in a vector break where the scope of the vector ends, the first first
unfoldable pub promises_dropped_at_a_scopes_end_program : ProgramTree
promises_dropped_at_a_scopes_end_program = record {
  decls = ((ActorDecl (record {
    at = nowhere;
    returns = VoidType;
    name = (id (codes "watch"));
    params = ((record { ty = (FutureType IntType); name = (id (codes "f")) }) ∷ (record { ty = IntType; name = (id (codes "n")) }) ∷
        []);
    body = (TryStmt nowhere (WaitStmt nowhere
        (record {
          into = (Some (record { state = false; ty = IntType; name = (id (codes "x")) }));
          next = false;
          operand =
              (VarExpr (id (codes "f")));
        })
        (CallStmt nowhere ((id (codes "trace")) ∷ []) (MoreExprs (VarExpr (id (codes "x"))) NoExprs) End)) nowhere
        (id (codes "e")) (CallStmt nowhere ((id (codes "trace")) ∷ []) (MoreExprs (VarExpr (id (codes "n"))) NoExprs)
        (CallStmt nowhere ((id (codes "trace")) ∷ [])
        (MoreExprs (MethodExpr (VarExpr (id (codes "e"))) (ByName (id (codes "code"))) NoExprs) NoExprs) End))
        (ReturnStmt nowhere (Some VoidExpr) End));
    close = nowhere;
  }))
      ∷ (ActorDecl (record {
        at = nowhere;
        returns = VoidType;
        name = (id (codes "main"));
        params = ((record { ty = IntType; name = (id (codes "p")) }) ∷ []);
        body = (DeclareStmt nowhere (record { state = true; ty = (VectorType (FutureType VoidType)); name = (id (codes "rs")) }) None
            (BlockStmt nowhere (DeclareStmt nowhere (record
            { state = false; ty = (VectorType (PromiseType IntType)); name = (id (codes "v")) }) None
            (DeclareStmt nowhere (record { state = false; ty = (PromiseType IntType); name = (id (codes "a")) }) None
            (DeclareStmt nowhere (record { state = false; ty = (PromiseType IntType); name = (id (codes "b")) }) None
            (CallStmt nowhere ((id (codes "v")) ∷ (id (codes "push_back")) ∷ []) (MoreExprs (VarExpr (id (codes "a"))) NoExprs)
            (CallStmt nowhere ((id (codes "v")) ∷ (id (codes "push_back")) ∷ []) (MoreExprs (VarExpr (id (codes "b"))) NoExprs)
            (DeclareStmt nowhere (record { state = false; ty = (FutureType VoidType); name = (id (codes "r")) })
            (Some (CallExpr (id (codes "watch")) (MoreExprs
            (MethodExpr (VarExpr (id (codes "a"))) (ByName (id (codes "getFuture"))) NoExprs)
            (MoreExprs (IntExpr (pos 1)) NoExprs))))
            (CallStmt nowhere ((id (codes "rs")) ∷ (id (codes "push_back")) ∷ []) (MoreExprs (VarExpr (id (codes "r"))) NoExprs)
            (DeclareStmt nowhere (record { state = false; ty = (FutureType VoidType); name = (id (codes "s")) })
            (Some (CallExpr (id (codes "watch")) (MoreExprs
            (MethodExpr (VarExpr (id (codes "b"))) (ByName (id (codes "getFuture"))) NoExprs)
            (MoreExprs (IntExpr (pos 2)) NoExprs))))
            (CallStmt nowhere ((id (codes "rs")) ∷ (id (codes "push_back")) ∷ []) (MoreExprs (VarExpr (id (codes "s"))) NoExprs)
            End)))))))))
            (CallStmt nowhere ((id (codes "trace")) ∷ []) (MoreExprs (TextExpr (codes "after")) NoExprs)
            (WaitStmt nowhere (record { into = None; next = false; operand = (indexed (VarExpr (id (codes "rs"))) (IntExpr (pos 1))) })
            (ReturnStmt nowhere (Some VoidExpr) End)))));
        close = nowhere;
      })) ∷ []);
  end = nowhere;
}

unfoldable pub promises_dropped_at_a_scopes_end_world : World
promises_dropped_at_a_scopes_end_world = record
    { seed = 0; words = []; processes = 1; events = 1000; turns = 100000; latency = (1, 2); loss = 0; diskdelay = (1, 2); script = [] }

promises_dropped_at_a_scopes_end_lines : List Line
promises_dropped_at_a_scopes_end_lines =
    line.Head
    ∷ (line.Boot 1 0 (process 0))
    ∷ (line.Start (actor 1) (codes "main"))
    ∷ (line.Start (actor 2) (codes "watch"))
    ∷ (line.Wait (actor 2) 1)
    ∷ (line.Start (actor 3) (codes "watch"))
    ∷ (line.Wait (actor 3) 1)
    ∷ (line.Broken (cell 2))
    ∷ (line.Take (actor 2) 1 0)
    ∷ (line.Throw (actor 2) (error 1100))
    ∷ (line.Catch (actor 2) (error 1100))
    ∷ (line.PrintInt (actor 2) (pos 1))
    ∷ (line.PrintInt (actor 2) (pos 1100))
    ∷ (line.Finish (actor 2))
    ∷ (line.Broken (cell 3))
    ∷ (line.Take (actor 3) 1 0)
    ∷ (line.Throw (actor 3) (error 1100))
    ∷ (line.Catch (actor 3) (error 1100))
    ∷ (line.PrintInt (actor 3) (pos 2))
    ∷ (line.PrintInt (actor 3) (pos 1100))
    ∷ (line.Finish (actor 3))
    ∷ (line.PrintText (actor 1) (codes "after"))
    ∷ (line.Take (actor 1) 1 0)
    ∷ (line.Finish (actor 1))
    ∷ line.EndIdle ∷ []

promises_dropped_at_a_scopes_end : SourceTrace promises_dropped_at_a_scopes_end_program promises_dropped_at_a_scopes_end_world
    promises_dropped_at_a_scopes_end_lines
unfolding promises_dropped_at_a_scopes_end_program promises_dropped_at_a_scopes_end_world promises_dropped_at_a_scopes_end_lines
promises_dropped_at_a_scopes_end = source_trace 20 400 promises_dropped_at_a_scopes_end_program promises_dropped_at_a_scopes_end_world
    promises_dropped_at_a_scopes_end_lines refl

unfoldable pub promises_dropped_at_a_scopes_end_classes : RawTree
promises_dropped_at_a_scopes_end_classes = record {
  records = ([]);
  functions = ([]);
  classes = ((record {
    name = (codes "watch");
    returns = VoidType;
    params = 2;
    slots = ((record { ty = (FutureType IntType); name = (codes "f") }) ∷ (record { ty = IntType; name = (codes "n") }) ∷ []);
    locals = (IntType ∷ ErrorType ∷ []);
    blocks = ((record { catcher = None; body = ([]); last = (GotoLast 1) })
        ∷ (record { catcher = (Some (record { block = 3; error = (Some 1); drops = ([]) })); body = ([]); last = (ChooseLast 1) })
        ∷ (record {
          catcher = (Some (record { block = 3; error = (Some 1); drops = (0 ∷ []) }));
          body =
              ((ActInstr ((id (codes "trace")) ∷ []) (MoreExprs (VarExpr (id (codes "l0"))) NoExprs)) ∷ (DropInstr (0 ∷ [])) ∷ []);
          last
              = (GotoLast 4);
        })
        ∷ (record {
          catcher = None;
          body = ((ActInstr ((id (codes "trace")) ∷ []) (MoreExprs (VarExpr (id (codes "s1"))) NoExprs)) ∷
              (ActInstr ((id (codes "trace")) ∷ []) (MoreExprs
              (MethodExpr (VarExpr (id (codes "l1"))) (ByName (id (codes "code"))) NoExprs) NoExprs)) ∷ (DropInstr (1 ∷ [])) ∷ []);
          last
              = (GotoLast 4);
        })
        ∷ (record { catcher = None; body = ([]); last = (ReturnLast (Some VoidExpr)) }) ∷ []);
    groups = (((record { next = false; operand = (VarExpr (id (codes "s0"))); into = (Some (Local 0)); block = 2 }) ∷ []) ∷ []);
  })
      ∷ (record {
        name = (codes "main");
        returns = VoidType;
        params = 1;
        slots = ((record { ty = IntType; name = (codes "p") }) ∷
            (record { ty = (VectorType (FutureType VoidType)); name = (codes "rs") }) ∷ []);
        locals = ((VectorType (PromiseType IntType)) ∷ (PromiseType IntType) ∷ (PromiseType IntType) ∷ (FutureType VoidType) ∷
            (FutureType VoidType) ∷ []);
        blocks = ((record {
          catcher = None;
          body =
              ((NewInstr (Slot 1)) ∷ (NewInstr (Local 0)) ∷ (NewInstr (Local 1)) ∷ (NewInstr (Local 2)) ∷
              (ActInstr ((id (codes "l0")) ∷ (id (codes "push_back")) ∷ []) (MoreExprs (VarExpr (id (codes "l1"))) NoExprs)) ∷
              (ActInstr ((id (codes "l0")) ∷ (id (codes "push_back")) ∷ []) (MoreExprs (VarExpr (id (codes "l2"))) NoExprs)) ∷
              (EffectInstr ((id (codes "l3")) ∷ []) (CallExpr (id (codes "watch"))
              (MoreExprs (MethodExpr (VarExpr (id (codes "l1"))) (ByName (id (codes "getFuture"))) NoExprs)
              (MoreExprs (IntExpr (pos 1)) NoExprs)))) ∷
              (ActInstr ((id (codes "s1")) ∷ (id (codes "push_back")) ∷ []) (MoreExprs (VarExpr (id (codes "l3"))) NoExprs)) ∷
              (EffectInstr ((id (codes "l4")) ∷ []) (CallExpr (id (codes "watch"))
              (MoreExprs (MethodExpr (VarExpr (id (codes "l2"))) (ByName (id (codes "getFuture"))) NoExprs)
              (MoreExprs (IntExpr (pos 2)) NoExprs)))) ∷
              (ActInstr ((id (codes "s1")) ∷ (id (codes "push_back")) ∷ []) (MoreExprs (VarExpr (id (codes "l4"))) NoExprs)) ∷
              (DropInstr (4 ∷ 3 ∷ 2 ∷ 1 ∷ 0 ∷ [])) ∷ (ActInstr ((id (codes "trace")) ∷ []) (MoreExprs (TextExpr (codes "after")) NoExprs))
              ∷ []);
          last = (ChooseLast 1);
        })
            ∷ (record { catcher = None; body = ([]); last = (ReturnLast (Some VoidExpr)) }) ∷ []);
        groups = (((record { next = false; operand = (indexed (VarExpr (id (codes "s1"))) (IntExpr (pos 1))); into = None; block = 1 }) ∷
            []) ∷ []);
      }) ∷ []);
}

promises_dropped_at_a_scopes_end_by_classes : ClassTrace promises_dropped_at_a_scopes_end_classes promises_dropped_at_a_scopes_end_world
    promises_dropped_at_a_scopes_end_lines
unfolding promises_dropped_at_a_scopes_end_classes promises_dropped_at_a_scopes_end_world promises_dropped_at_a_scopes_end_lines
promises_dropped_at_a_scopes_end_by_classes = class_trace 20 400 promises_dropped_at_a_scopes_end_classes
    promises_dropped_at_a_scopes_end_world promises_dropped_at_a_scopes_end_lines refl

-- a local vector of promises is dropped at a wait
unfoldable pub promises_dropped_at_a_wait_program : ProgramTree
promises_dropped_at_a_wait_program = record {
  decls = ((ActorDecl (record {
    at = nowhere;
    returns = VoidType;
    name = (id (codes "main"));
    params = ((record { ty = IntType; name = (id (codes "p")) }) ∷ []);
    body = (DeclareStmt nowhere (record { state = false; ty = (VectorType (PromiseType IntType)); name = (id (codes "v")) }) None
        (DeclareStmt nowhere (record { state = false; ty = (PromiseType IntType); name = (id (codes "a")) }) None
        (CallStmt nowhere ((id (codes "v")) ∷ (id (codes "push_back")) ∷ []) (MoreExprs (VarExpr (id (codes "a"))) NoExprs)
        (DeclareStmt nowhere (record { state = true; ty = (FutureType IntType); name = (id (codes "r")) })
        (Some (MethodExpr (VarExpr (id (codes "a"))) (ByName (id (codes "getFuture"))) NoExprs))
        (WaitStmt nowhere (record {
          into = None;
          next = false;
          operand =
              (CallExpr (id (codes "delay")) (MoreExprs (IntExpr (pos 1)) NoExprs));
        })
        (CallStmt nowhere ((id (codes "trace")) ∷ [])
        (MoreExprs (MethodExpr (VarExpr (id (codes "r"))) (ByName (id (codes "isError"))) NoExprs) NoExprs)
        (ReturnStmt nowhere (Some VoidExpr) End)))))));
    close = nowhere;
  })) ∷ []);
  end = nowhere;
}

unfoldable pub promises_dropped_at_a_wait_world : World
promises_dropped_at_a_wait_world = record
    { seed = 0; words = []; processes = 1; events = 1000; turns = 100000; latency = (1, 2); loss = 0; diskdelay = (1, 2); script = [] }

promises_dropped_at_a_wait_lines : List Line
promises_dropped_at_a_wait_lines =
    line.Head
    ∷ (line.Boot 1 0 (process 0))
    ∷ (line.Start (actor 1) (codes "main"))
    ∷ (line.Wait (actor 1) 1)
    ∷ (line.Broken (cell 2))
    ∷ (line.Timer 2 1 (process 0) (cell 3))
    ∷ (line.Take (actor 1) 1 0)
    ∷ (line.PrintBool (actor 1) true)
    ∷ (line.Finish (actor 1))
    ∷ line.EndIdle ∷ []

promises_dropped_at_a_wait : SourceTrace promises_dropped_at_a_wait_program promises_dropped_at_a_wait_world
    promises_dropped_at_a_wait_lines
unfolding promises_dropped_at_a_wait_program promises_dropped_at_a_wait_world promises_dropped_at_a_wait_lines
promises_dropped_at_a_wait = source_trace 20 400 promises_dropped_at_a_wait_program promises_dropped_at_a_wait_world
    promises_dropped_at_a_wait_lines refl

unfoldable pub promises_dropped_at_a_wait_classes : RawTree
promises_dropped_at_a_wait_classes = record {
  records = ([]);
  functions = ([]);
  classes = ((record {
    name = (codes "main");
    returns = VoidType;
    params = 1;
    slots = ((record { ty = IntType; name = (codes "p") }) ∷ (record { ty = (FutureType IntType); name = (codes "r") }) ∷ []);
    locals = ((VectorType (PromiseType IntType)) ∷ (PromiseType IntType) ∷ []);
    blocks = ((record {
      catcher = None;
      body =
          ((NewInstr (Local 0)) ∷ (NewInstr (Local 1)) ∷
          (ActInstr ((id (codes "l0")) ∷ (id (codes "push_back")) ∷ []) (MoreExprs (VarExpr (id (codes "l1"))) NoExprs)) ∷
          (SetInstr ((id (codes "s1")) ∷ []) (MethodExpr (VarExpr (id (codes "l1"))) (ByName (id (codes "getFuture"))) NoExprs)) ∷ []);
      last = (ChooseLast 1);
    })
        ∷ (record {
          catcher = None;
          body = ((ActInstr ((id (codes "trace")) ∷ [])
              (MoreExprs (MethodExpr (VarExpr (id (codes "s1"))) (ByName (id (codes "isError"))) NoExprs) NoExprs)) ∷ []);
          last =
              (ReturnLast (Some VoidExpr));
        }) ∷ []);
    groups = (((record {
      next = false;
      operand = (CallExpr (id (codes "delay")) (MoreExprs (IntExpr (pos 1)) NoExprs));
      into = None;
      block = 1;
    }) ∷ []) ∷ []);
  }) ∷ []);
}

promises_dropped_at_a_wait_by_classes : ClassTrace promises_dropped_at_a_wait_classes promises_dropped_at_a_wait_world
    promises_dropped_at_a_wait_lines
unfolding promises_dropped_at_a_wait_classes promises_dropped_at_a_wait_world promises_dropped_at_a_wait_lines
promises_dropped_at_a_wait_by_classes = class_trace 20 400 promises_dropped_at_a_wait_classes promises_dropped_at_a_wait_world
    promises_dropped_at_a_wait_lines refl

-- a vector of promises of a block that throws is gone in its catch
unfoldable pub promises_dropped_in_a_catch_program : ProgramTree
promises_dropped_in_a_catch_program = record {
  decls = ((ActorDecl (record {
    at = nowhere;
    returns = VoidType;
    name = (id (codes "main"));
    params = ((record { ty = IntType; name = (id (codes "p")) }) ∷ []);
    body = (DeclareStmt nowhere (record { state = true; ty = (VectorType (FutureType IntType)); name = (id (codes "rs")) }) None
        (TryStmt nowhere (DeclareStmt nowhere (record
        { state = false; ty = (VectorType (PromiseType IntType)); name = (id (codes "v")) }) None
        (DeclareStmt nowhere (record { state = false; ty = (PromiseType IntType); name = (id (codes "a")) }) None
        (CallStmt nowhere ((id (codes "v")) ∷ (id (codes "push_back")) ∷ []) (MoreExprs (VarExpr (id (codes "a"))) NoExprs)
        (CallStmt nowhere ((id (codes "rs")) ∷ (id (codes "push_back")) ∷ [])
        (MoreExprs (MethodExpr (VarExpr (id (codes "a"))) (ByName (id (codes "getFuture"))) NoExprs) NoExprs)
        (ThrowStmt nowhere (Some (CallExpr (id (codes "timed_out")) NoExprs)) End))))) nowhere (id (codes "e"))
        (CallStmt nowhere ((id (codes "trace")) ∷ [])
        (MoreExprs (MethodExpr (indexed (VarExpr (id (codes "rs"))) (IntExpr (pos 0))) (ByName (id (codes "isError")))
        NoExprs) NoExprs)
        (CallStmt nowhere ((id (codes "trace")) ∷ [])
        (MoreExprs (MethodExpr (VarExpr (id (codes "e"))) (ByName (id (codes "code"))) NoExprs) NoExprs) End))
        (ReturnStmt nowhere (Some VoidExpr) End)));
    close = nowhere;
  })) ∷ []);
  end = nowhere;
}

unfoldable pub promises_dropped_in_a_catch_world : World
promises_dropped_in_a_catch_world = record
    { seed = 0; words = []; processes = 1; events = 1000; turns = 100000; latency = (1, 2); loss = 0; diskdelay = (1, 2); script = [] }

promises_dropped_in_a_catch_lines : List Line
promises_dropped_in_a_catch_lines =
    line.Head
    ∷ (line.Boot 1 0 (process 0))
    ∷ (line.Start (actor 1) (codes "main"))
    ∷ (line.Throw (actor 1) (error 1004))
    ∷ (line.Broken (cell 2))
    ∷ (line.Catch (actor 1) (error 1004))
    ∷ (line.PrintBool (actor 1) true)
    ∷ (line.PrintInt (actor 1) (pos 1004))
    ∷ (line.Finish (actor 1))
    ∷ line.EndIdle ∷ []

promises_dropped_in_a_catch : SourceTrace promises_dropped_in_a_catch_program promises_dropped_in_a_catch_world
    promises_dropped_in_a_catch_lines
unfolding promises_dropped_in_a_catch_program promises_dropped_in_a_catch_world promises_dropped_in_a_catch_lines
promises_dropped_in_a_catch = source_trace 20 400 promises_dropped_in_a_catch_program promises_dropped_in_a_catch_world
    promises_dropped_in_a_catch_lines refl

unfoldable pub promises_dropped_in_a_catch_classes : RawTree
promises_dropped_in_a_catch_classes = record {
  records = ([]);
  functions = ([]);
  classes = ((record {
    name = (codes "main");
    returns = VoidType;
    params = 1;
    slots = ((record { ty = IntType; name = (codes "p") }) ∷ (record { ty = (VectorType (FutureType IntType)); name = (codes "rs") })
        ∷ []);
    locals = ((VectorType (PromiseType IntType)) ∷ (PromiseType IntType) ∷ ErrorType ∷ []);
    blocks = ((record { catcher = None; body = ((NewInstr (Slot 1)) ∷ []); last = (GotoLast 1) })
        ∷ (record {
          catcher = (Some (record { block = 2; error = (Some 2); drops = (1 ∷ 0 ∷ []) }));
          body =
              ((NewInstr (Local 0)) ∷ (NewInstr (Local 1)) ∷
              (ActInstr ((id (codes "l0")) ∷ (id (codes "push_back")) ∷ []) (MoreExprs (VarExpr (id (codes "l1"))) NoExprs)) ∷
              (ActInstr ((id (codes "s1")) ∷ (id (codes "push_back")) ∷ [])
              (MoreExprs (MethodExpr (VarExpr (id (codes "l1"))) (ByName (id (codes "getFuture"))) NoExprs) NoExprs)) ∷ []);
          last =
              (ThrowLast (CallExpr (id (codes "timed_out")) NoExprs));
        })
        ∷ (record {
          catcher = None;
          body = ((ActInstr ((id (codes "trace")) ∷ [])
              (MoreExprs (MethodExpr (indexed (VarExpr (id (codes "s1"))) (IntExpr (pos 0))) (ByName (id (codes "isError"))) NoExprs)
              NoExprs)) ∷ (ActInstr ((id (codes "trace")) ∷ [])
              (MoreExprs (MethodExpr (VarExpr (id (codes "l2"))) (ByName (id (codes "code"))) NoExprs) NoExprs)) ∷ (DropInstr (2 ∷ [])) ∷
              []);
          last = (ReturnLast (Some VoidExpr));
        }) ∷ []);
    groups = ([]);
  }) ∷ []);
}

promises_dropped_in_a_catch_by_classes : ClassTrace promises_dropped_in_a_catch_classes promises_dropped_in_a_catch_world
    promises_dropped_in_a_catch_lines
unfolding promises_dropped_in_a_catch_classes promises_dropped_in_a_catch_world promises_dropped_in_a_catch_lines
promises_dropped_in_a_catch_by_classes = class_trace 20 400 promises_dropped_in_a_catch_classes promises_dropped_in_a_catch_world
    promises_dropped_in_a_catch_lines refl

-- a vector in a record, whose promises break with the record
unfoldable pub promises_in_a_record_program : ProgramTree
promises_in_a_record_program = record {
  decls = ((ActorDecl (record {
    at = nowhere;
    returns = VoidType;
    name = (id (codes "watch"));
    params = ((record { ty = (FutureType IntType); name = (id (codes "f")) }) ∷ (record { ty = IntType; name = (id (codes "n")) }) ∷
        []);
    body = (TryStmt nowhere (WaitStmt nowhere
        (record {
          into = (Some (record { state = false; ty = IntType; name = (id (codes "x")) }));
          next = false;
          operand =
              (VarExpr (id (codes "f")));
        })
        (CallStmt nowhere ((id (codes "trace")) ∷ []) (MoreExprs (VarExpr (id (codes "x"))) NoExprs) End)) nowhere
        (id (codes "e")) (CallStmt nowhere ((id (codes "trace")) ∷ []) (MoreExprs (VarExpr (id (codes "n"))) NoExprs)
        (CallStmt nowhere ((id (codes "trace")) ∷ [])
        (MoreExprs (MethodExpr (VarExpr (id (codes "e"))) (ByName (id (codes "code"))) NoExprs) NoExprs) End))
        (ReturnStmt nowhere (Some VoidExpr) End));
    close = nowhere;
  }))
      ∷ (StructDecl (record {
        at = nowhere;
        name = (id (codes "Box"));
        fields =
            ((record { ty = IntType; name = (id (codes "n")) }) ∷
            (record { ty = (VectorType (PromiseType IntType)); name = (id (codes "ps")) }) ∷ []);
      }))
      ∷ (ActorDecl (record {
        at = nowhere;
        returns = VoidType;
        name = (id (codes "main"));
        params = ((record { ty = IntType; name = (id (codes "p")) }) ∷ []);
        body = (DeclareStmt nowhere (record { state = false; ty = (VectorType (PromiseType IntType)); name = (id (codes "none")) }) None
            (DeclareStmt nowhere (record { state = true; ty = (NamedType (codes "Box")); name = (id (codes "b")) })
            (Some (CallExpr (id (codes "Box")) (MoreExprs (IntExpr (pos 1)) (MoreExprs (VarExpr (id (codes "none"))) NoExprs))))
            (DeclareStmt nowhere (record { state = true; ty = (VectorType (FutureType VoidType)); name = (id (codes "rs")) }) None
            (BlockStmt nowhere (DeclareStmt nowhere (record { state = false; ty = (PromiseType IntType); name = (id (codes "a")) }) None
            (CallStmt nowhere ((id (codes "b")) ∷ (id (codes "ps")) ∷ (id (codes "push_back")) ∷ [])
            (MoreExprs (VarExpr (id (codes "a"))) NoExprs)
            (DeclareStmt nowhere (record { state = false; ty = (FutureType VoidType); name = (id (codes "r")) })
            (Some (CallExpr (id (codes "watch")) (MoreExprs
            (MethodExpr (VarExpr (id (codes "a"))) (ByName (id (codes "getFuture"))) NoExprs)
            (MoreExprs (IntExpr (pos 1)) NoExprs))))
            (CallStmt nowhere ((id (codes "rs")) ∷ (id (codes "push_back")) ∷ []) (MoreExprs (VarExpr (id (codes "r"))) NoExprs)
            End))))
            (CallStmt nowhere ((id (codes "trace")) ∷ [])
            (MoreExprs (MethodExpr (FieldExpr (VarExpr (id (codes "b"))) (id (codes "ps"))) (ByName (id (codes "size"))) NoExprs)
            NoExprs)
            (AssignStmt nowhere ((id (codes "b")) ∷ [])
            (CallExpr (id (codes "Box")) (MoreExprs (IntExpr (pos 2)) (MoreExprs (VarExpr (id (codes "none"))) NoExprs)))
            (CallStmt nowhere ((id (codes "trace")) ∷ []) (MoreExprs (TextExpr (codes "after")) NoExprs)
            (ReturnStmt nowhere (Some VoidExpr) End))))))));
        close = nowhere;
      })) ∷ []);
  end = nowhere;
}

unfoldable pub promises_in_a_record_world : World
promises_in_a_record_world = record {
  seed = 0;
  words = [];
  processes = 1;
  events = 1000;
  turns = 100000;
  latency = (1, 2);
  loss = 0;
  diskdelay = (1, 2);
  script = [];
}

promises_in_a_record_lines : List Line
promises_in_a_record_lines =
    line.Head
    ∷ (line.Boot 1 0 (process 0))
    ∷ (line.Start (actor 1) (codes "main"))
    ∷ (line.Start (actor 2) (codes "watch"))
    ∷ (line.Wait (actor 2) 1)
    ∷ (line.PrintInt (actor 1) (pos 1))
    ∷ (line.Broken (cell 2))
    ∷ (line.Take (actor 2) 1 0)
    ∷ (line.Throw (actor 2) (error 1100))
    ∷ (line.Catch (actor 2) (error 1100))
    ∷ (line.PrintInt (actor 2) (pos 1))
    ∷ (line.PrintInt (actor 2) (pos 1100))
    ∷ (line.Finish (actor 2))
    ∷ (line.PrintText (actor 1) (codes "after"))
    ∷ (line.Finish (actor 1))
    ∷ line.EndIdle ∷ []

promises_in_a_record : SourceTrace promises_in_a_record_program promises_in_a_record_world promises_in_a_record_lines
unfolding promises_in_a_record_program promises_in_a_record_world promises_in_a_record_lines
promises_in_a_record = source_trace 20 400 promises_in_a_record_program promises_in_a_record_world promises_in_a_record_lines refl

unfoldable pub promises_in_a_record_classes : RawTree
promises_in_a_record_classes = record {
  records = ((record {
    at = nowhere;
    name = (id (codes "Box"));
    fields =
        ((record { ty = IntType; name = (id (codes "n")) }) ∷
        (record { ty = (VectorType (PromiseType IntType)); name = (id (codes "ps")) }) ∷ []);
  }) ∷ []);
  functions = ([]);
  classes = ((record {
    name = (codes "watch");
    returns = VoidType;
    params = 2;
    slots = ((record { ty = (FutureType IntType); name = (codes "f") }) ∷ (record { ty = IntType; name = (codes "n") }) ∷ []);
    locals = (IntType ∷ ErrorType ∷ []);
    blocks = ((record { catcher = None; body = ([]); last = (GotoLast 1) })
        ∷ (record { catcher = (Some (record { block = 3; error = (Some 1); drops = ([]) })); body = ([]); last = (ChooseLast 1) })
        ∷ (record {
          catcher = (Some (record { block = 3; error = (Some 1); drops = (0 ∷ []) }));
          body =
              ((ActInstr ((id (codes "trace")) ∷ []) (MoreExprs (VarExpr (id (codes "l0"))) NoExprs)) ∷ (DropInstr (0 ∷ [])) ∷ []);
          last
              = (GotoLast 4);
        })
        ∷ (record {
          catcher = None;
          body = ((ActInstr ((id (codes "trace")) ∷ []) (MoreExprs (VarExpr (id (codes "s1"))) NoExprs)) ∷
              (ActInstr ((id (codes "trace")) ∷ []) (MoreExprs
              (MethodExpr (VarExpr (id (codes "l1"))) (ByName (id (codes "code"))) NoExprs) NoExprs)) ∷ (DropInstr (1 ∷ [])) ∷ []);
          last
              = (GotoLast 4);
        })
        ∷ (record { catcher = None; body = ([]); last = (ReturnLast (Some VoidExpr)) }) ∷ []);
    groups = (((record { next = false; operand = (VarExpr (id (codes "s0"))); into = (Some (Local 0)); block = 2 }) ∷ []) ∷ []);
  })
      ∷ (record {
        name = (codes "main");
        returns = VoidType;
        params = 1;
        slots = ((record { ty = IntType; name = (codes "p") }) ∷ (record { ty = (NamedType (codes "Box")); name = (codes "b") }) ∷
            (record { ty = (VectorType (FutureType VoidType)); name = (codes "rs") }) ∷ []);
        locals = ((VectorType (PromiseType IntType)) ∷ (PromiseType IntType) ∷ (FutureType VoidType) ∷ []);
        blocks = ((record {
          catcher = None;
          body =
              ((NewInstr (Local 0)) ∷ (SetInstr ((id (codes "s1")) ∷ [])
              (CallExpr (id (codes "Box")) (MoreExprs (IntExpr (pos 1)) (MoreExprs (VarExpr (id (codes "l0"))) NoExprs)))) ∷
              (NewInstr (Slot 2)) ∷ (NewInstr (Local 1)) ∷
              (ActInstr ((id (codes "s1")) ∷ (id (codes "ps")) ∷ (id (codes "push_back")) ∷ [])
              (MoreExprs (VarExpr (id (codes "l1"))) NoExprs)) ∷
              (EffectInstr ((id (codes "l2")) ∷ []) (CallExpr (id (codes "watch"))
              (MoreExprs (MethodExpr (VarExpr (id (codes "l1"))) (ByName (id (codes "getFuture"))) NoExprs)
              (MoreExprs (IntExpr (pos 1)) NoExprs)))) ∷
              (ActInstr ((id (codes "s2")) ∷ (id (codes "push_back")) ∷ []) (MoreExprs (VarExpr (id (codes "l2"))) NoExprs)) ∷
              (DropInstr (2 ∷ 1 ∷ [])) ∷ (ActInstr ((id (codes "trace")) ∷ [])
              (MoreExprs (MethodExpr (FieldExpr (VarExpr (id (codes "s1"))) (id (codes "ps"))) (ByName (id (codes "size"))) NoExprs)
              NoExprs)) ∷ (SetInstr ((id (codes "s1")) ∷ [])
              (CallExpr (id (codes "Box")) (MoreExprs (IntExpr (pos 2)) (MoreExprs (VarExpr (id (codes "l0"))) NoExprs)))) ∷
              (ActInstr ((id (codes "trace")) ∷ []) (MoreExprs (TextExpr (codes "after")) NoExprs)) ∷ []);
          last =
              (ReturnLast (Some VoidExpr));
        }) ∷ []);
        groups = ([]);
      }) ∷ []);
}

promises_in_a_record_by_classes : ClassTrace promises_in_a_record_classes promises_in_a_record_world promises_in_a_record_lines
unfolding promises_in_a_record_classes promises_in_a_record_world promises_in_a_record_lines
promises_in_a_record_by_classes = class_trace 20 400 promises_in_a_record_classes promises_in_a_record_world promises_in_a_record_lines
    refl

-- vectors in a queue drop their promises with the stream, in order
unfoldable pub promises_in_a_queue_program : ProgramTree
promises_in_a_queue_program = record {
  decls = ((ActorDecl (record {
    at = nowhere;
    returns = VoidType;
    name = (id (codes "watch"));
    params = ((record { ty = (FutureType IntType); name = (id (codes "f")) }) ∷ (record { ty = IntType; name = (id (codes "n")) }) ∷
        []);
    body = (TryStmt nowhere (WaitStmt nowhere
        (record {
          into = (Some (record { state = false; ty = IntType; name = (id (codes "x")) }));
          next = false;
          operand =
              (VarExpr (id (codes "f")));
        })
        (CallStmt nowhere ((id (codes "trace")) ∷ []) (MoreExprs (VarExpr (id (codes "x"))) NoExprs) End)) nowhere
        (id (codes "e")) (CallStmt nowhere ((id (codes "trace")) ∷ []) (MoreExprs (VarExpr (id (codes "n"))) NoExprs)
        (CallStmt nowhere ((id (codes "trace")) ∷ [])
        (MoreExprs (MethodExpr (VarExpr (id (codes "e"))) (ByName (id (codes "code"))) NoExprs) NoExprs) End))
        (ReturnStmt nowhere (Some VoidExpr) End));
    close = nowhere;
  }))
      ∷ (ActorDecl (record {
        at = nowhere;
        returns = VoidType;
        name = (id (codes "main"));
        params = ((record { ty = IntType; name = (id (codes "p")) }) ∷ []);
        body = (DeclareStmt nowhere (record { state = true; ty = (VectorType (FutureType VoidType)); name = (id (codes "rs")) }) None
            (BlockStmt nowhere (DeclareStmt nowhere (record
            { state = false; ty = (PromiseStreamType (VectorType (PromiseType IntType))); name = (id (codes "q")) }) None
            (DeclareStmt nowhere (record { state = false; ty = (VectorType (PromiseType IntType)); name = (id (codes "v")) }) None
            (DeclareStmt nowhere (record { state = false; ty = (PromiseType IntType); name = (id (codes "a")) }) None
            (CallStmt nowhere ((id (codes "v")) ∷ (id (codes "push_back")) ∷ []) (MoreExprs (VarExpr (id (codes "a"))) NoExprs)
            (CallStmt nowhere ((id (codes "q")) ∷ (id (codes "send")) ∷ []) (MoreExprs (VarExpr (id (codes "v"))) NoExprs)
            (CallStmt nowhere ((id (codes "v")) ∷ (id (codes "clear")) ∷ []) NoExprs
            (DeclareStmt nowhere (record { state = false; ty = (PromiseType IntType); name = (id (codes "b")) }) None
            (CallStmt nowhere ((id (codes "v")) ∷ (id (codes "push_back")) ∷ []) (MoreExprs (VarExpr (id (codes "b"))) NoExprs)
            (CallStmt nowhere ((id (codes "q")) ∷ (id (codes "send")) ∷ []) (MoreExprs (VarExpr (id (codes "v"))) NoExprs)
            (DeclareStmt nowhere (record { state = false; ty = (FutureType VoidType); name = (id (codes "r")) })
            (Some (CallExpr (id (codes "watch")) (MoreExprs
            (MethodExpr (VarExpr (id (codes "a"))) (ByName (id (codes "getFuture"))) NoExprs)
            (MoreExprs (IntExpr (pos 1)) NoExprs))))
            (CallStmt nowhere ((id (codes "rs")) ∷ (id (codes "push_back")) ∷ []) (MoreExprs (VarExpr (id (codes "r"))) NoExprs)
            (DeclareStmt nowhere (record { state = false; ty = (FutureType VoidType); name = (id (codes "s")) })
            (Some (CallExpr (id (codes "watch")) (MoreExprs
            (MethodExpr (VarExpr (id (codes "b"))) (ByName (id (codes "getFuture"))) NoExprs)
            (MoreExprs (IntExpr (pos 2)) NoExprs))))
            (CallStmt nowhere ((id (codes "rs")) ∷ (id (codes "push_back")) ∷ []) (MoreExprs (VarExpr (id (codes "s"))) NoExprs)
            (CallStmt nowhere ((id (codes "trace")) ∷ []) (MoreExprs (TextExpr (codes "full")) NoExprs) End))))))))))))))
            (CallStmt nowhere ((id (codes "trace")) ∷ []) (MoreExprs (TextExpr (codes "after")) NoExprs)
            (ReturnStmt nowhere (Some VoidExpr) End))));
        close = nowhere;
      })) ∷ []);
  end = nowhere;
}

unfoldable pub promises_in_a_queue_world : World
promises_in_a_queue_world = record {
  seed = 0;
  words = [];
  processes = 1;
  events = 1000;
  turns = 100000;
  latency = (1, 2);
  loss = 0;
  diskdelay = (1, 2);
  script = [];
}

promises_in_a_queue_lines : List Line
promises_in_a_queue_lines =
    line.Head
    ∷ (line.Boot 1 0 (process 0))
    ∷ (line.Start (actor 1) (codes "main"))
    ∷ (line.Start (actor 2) (codes "watch"))
    ∷ (line.Wait (actor 2) 1)
    ∷ (line.Start (actor 3) (codes "watch"))
    ∷ (line.Wait (actor 3) 1)
    ∷ (line.PrintText (actor 1) (codes "full"))
    ∷ (line.Broken (cell 3))
    ∷ (line.Take (actor 2) 1 0)
    ∷ (line.Throw (actor 2) (error 1100))
    ∷ (line.Catch (actor 2) (error 1100))
    ∷ (line.PrintInt (actor 2) (pos 1))
    ∷ (line.PrintInt (actor 2) (pos 1100))
    ∷ (line.Finish (actor 2))
    ∷ (line.Broken (cell 4))
    ∷ (line.Take (actor 3) 1 0)
    ∷ (line.Throw (actor 3) (error 1100))
    ∷ (line.Catch (actor 3) (error 1100))
    ∷ (line.PrintInt (actor 3) (pos 2))
    ∷ (line.PrintInt (actor 3) (pos 1100))
    ∷ (line.Finish (actor 3))
    ∷ (line.PrintText (actor 1) (codes "after"))
    ∷ (line.Finish (actor 1))
    ∷ line.EndIdle ∷ []

promises_in_a_queue : SourceTrace promises_in_a_queue_program promises_in_a_queue_world promises_in_a_queue_lines
unfolding promises_in_a_queue_program promises_in_a_queue_world promises_in_a_queue_lines
promises_in_a_queue = source_trace 20 400 promises_in_a_queue_program promises_in_a_queue_world promises_in_a_queue_lines refl

unfoldable pub promises_in_a_queue_classes : RawTree
promises_in_a_queue_classes = record {
  records = ([]);
  functions = ([]);
  classes = ((record {
    name = (codes "watch");
    returns = VoidType;
    params = 2;
    slots = ((record { ty = (FutureType IntType); name = (codes "f") }) ∷ (record { ty = IntType; name = (codes "n") }) ∷ []);
    locals = (IntType ∷ ErrorType ∷ []);
    blocks = ((record { catcher = None; body = ([]); last = (GotoLast 1) })
        ∷ (record { catcher = (Some (record { block = 3; error = (Some 1); drops = ([]) })); body = ([]); last = (ChooseLast 1) })
        ∷ (record {
          catcher = (Some (record { block = 3; error = (Some 1); drops = (0 ∷ []) }));
          body =
              ((ActInstr ((id (codes "trace")) ∷ []) (MoreExprs (VarExpr (id (codes "l0"))) NoExprs)) ∷ (DropInstr (0 ∷ [])) ∷ []);
          last
              = (GotoLast 4);
        })
        ∷ (record {
          catcher = None;
          body = ((ActInstr ((id (codes "trace")) ∷ []) (MoreExprs (VarExpr (id (codes "s1"))) NoExprs)) ∷
              (ActInstr ((id (codes "trace")) ∷ []) (MoreExprs
              (MethodExpr (VarExpr (id (codes "l1"))) (ByName (id (codes "code"))) NoExprs) NoExprs)) ∷ (DropInstr (1 ∷ [])) ∷ []);
          last
              = (GotoLast 4);
        })
        ∷ (record { catcher = None; body = ([]); last = (ReturnLast (Some VoidExpr)) }) ∷ []);
    groups = (((record { next = false; operand = (VarExpr (id (codes "s0"))); into = (Some (Local 0)); block = 2 }) ∷ []) ∷ []);
  })
      ∷ (record {
        name = (codes "main");
        returns = VoidType;
        params = 1;
        slots = ((record { ty = IntType; name = (codes "p") }) ∷
            (record { ty = (VectorType (FutureType VoidType)); name = (codes "rs") }) ∷ []);
        locals = ((PromiseStreamType (VectorType (PromiseType IntType))) ∷ (VectorType (PromiseType IntType)) ∷ (PromiseType IntType) ∷
            (PromiseType IntType) ∷ (FutureType VoidType) ∷ (FutureType VoidType) ∷ []);
        blocks = ((record {
          catcher = None;
          body =
              ((NewInstr (Slot 1)) ∷ (NewInstr (Local 0)) ∷ (NewInstr (Local 1)) ∷ (NewInstr (Local 2)) ∷
              (ActInstr ((id (codes "l1")) ∷ (id (codes "push_back")) ∷ []) (MoreExprs (VarExpr (id (codes "l2"))) NoExprs)) ∷
              (ActInstr ((id (codes "l0")) ∷ (id (codes "send")) ∷ []) (MoreExprs (VarExpr (id (codes "l1"))) NoExprs)) ∷
              (ActInstr ((id (codes "l1")) ∷ (id (codes "clear")) ∷ []) NoExprs) ∷ (NewInstr (Local 3)) ∷
              (ActInstr ((id (codes "l1")) ∷ (id (codes "push_back")) ∷ []) (MoreExprs (VarExpr (id (codes "l3"))) NoExprs)) ∷
              (ActInstr ((id (codes "l0")) ∷ (id (codes "send")) ∷ []) (MoreExprs (VarExpr (id (codes "l1"))) NoExprs)) ∷
              (EffectInstr ((id (codes "l4")) ∷ []) (CallExpr (id (codes "watch"))
              (MoreExprs (MethodExpr (VarExpr (id (codes "l2"))) (ByName (id (codes "getFuture"))) NoExprs)
              (MoreExprs (IntExpr (pos 1)) NoExprs)))) ∷
              (ActInstr ((id (codes "s1")) ∷ (id (codes "push_back")) ∷ []) (MoreExprs (VarExpr (id (codes "l4"))) NoExprs)) ∷
              (EffectInstr ((id (codes "l5")) ∷ []) (CallExpr (id (codes "watch"))
              (MoreExprs (MethodExpr (VarExpr (id (codes "l3"))) (ByName (id (codes "getFuture"))) NoExprs)
              (MoreExprs (IntExpr (pos 2)) NoExprs)))) ∷
              (ActInstr ((id (codes "s1")) ∷ (id (codes "push_back")) ∷ []) (MoreExprs (VarExpr (id (codes "l5"))) NoExprs)) ∷
              (ActInstr ((id (codes "trace")) ∷ []) (MoreExprs (TextExpr (codes "full")) NoExprs)) ∷
              (DropInstr (5 ∷ 4 ∷ 3 ∷ 2 ∷ 1 ∷ 0 ∷ [])) ∷
              (ActInstr ((id (codes "trace")) ∷ []) (MoreExprs (TextExpr (codes "after")) NoExprs)) ∷ []);
          last =
              (ReturnLast (Some VoidExpr));
        }) ∷ []);
        groups = ([]);
      }) ∷ []);
}

promises_in_a_queue_by_classes : ClassTrace promises_in_a_queue_classes promises_in_a_queue_world promises_in_a_queue_lines
unfolding promises_in_a_queue_classes promises_in_a_queue_world promises_in_a_queue_lines
promises_in_a_queue_by_classes = class_trace 20 400 promises_in_a_queue_classes promises_in_a_queue_world promises_in_a_queue_lines refl

-- an element is a copy, and a cleared vector leaves it
unfoldable pub an_element_is_a_copy_program : ProgramTree
an_element_is_a_copy_program = record {
  decls = ((ActorDecl (record {
    at = nowhere;
    returns = VoidType;
    name = (id (codes "main"));
    params = ((record { ty = IntType; name = (id (codes "p")) }) ∷ []);
    body = (DeclareStmt nowhere (record { state = false; ty = (VectorType (PromiseType IntType)); name = (id (codes "v")) }) None
        (DeclareStmt nowhere (record { state = false; ty = (PromiseType IntType); name = (id (codes "a")) }) None
        (DeclareStmt nowhere (record { state = false; ty = (FutureType IntType); name = (id (codes "f")) })
        (Some (MethodExpr (VarExpr (id (codes "a"))) (ByName (id (codes "getFuture"))) NoExprs))
        (CallStmt nowhere ((id (codes "v")) ∷ (id (codes "push_back")) ∷ []) (MoreExprs (VarExpr (id (codes "a"))) NoExprs)
        (DeclareStmt nowhere (record { state = false; ty = (PromiseType IntType); name = (id (codes "b")) })
        (Some (indexed (VarExpr (id (codes "v"))) (IntExpr (pos 0))))
        (CallStmt nowhere ((id (codes "v")) ∷ (id (codes "clear")) ∷ []) NoExprs
        (CallStmt nowhere ((id (codes "b")) ∷ (id (codes "send")) ∷ []) (MoreExprs (IntExpr (pos 5)) NoExprs)
        (CallStmt nowhere ((id (codes "trace")) ∷ [])
        (MoreExprs (MethodExpr (VarExpr (id (codes "f"))) (ByName (id (codes "get"))) NoExprs) NoExprs)
        (CallStmt nowhere ((id (codes "trace")) ∷ [])
        (MoreExprs (MethodExpr (VarExpr (id (codes "v"))) (ByName (id (codes "size"))) NoExprs) NoExprs)
        (ReturnStmt nowhere (Some VoidExpr) End))))))))));
    close = nowhere;
  })) ∷ []);
  end = nowhere;
}

unfoldable pub an_element_is_a_copy_world : World
an_element_is_a_copy_world = record {
  seed = 0;
  words = [];
  processes = 1;
  events = 1000;
  turns = 100000;
  latency = (1, 2);
  loss = 0;
  diskdelay = (1, 2);
  script = [];
}

an_element_is_a_copy_lines : List Line
an_element_is_a_copy_lines =
    line.Head
    ∷ (line.Boot 1 0 (process 0))
    ∷ (line.Start (actor 1) (codes "main"))
    ∷ (line.PrintInt (actor 1) (pos 5))
    ∷ (line.PrintInt (actor 1) (pos 0))
    ∷ (line.Finish (actor 1))
    ∷ line.EndIdle ∷ []

an_element_is_a_copy : SourceTrace an_element_is_a_copy_program an_element_is_a_copy_world an_element_is_a_copy_lines
unfolding an_element_is_a_copy_program an_element_is_a_copy_world an_element_is_a_copy_lines
an_element_is_a_copy = source_trace 20 400 an_element_is_a_copy_program an_element_is_a_copy_world an_element_is_a_copy_lines refl

unfoldable pub an_element_is_a_copy_classes : RawTree
an_element_is_a_copy_classes = record {
  records = ([]);
  functions = ([]);
  classes = ((record {
    name = (codes "main");
    returns = VoidType;
    params = 1;
    slots = ((record { ty = IntType; name = (codes "p") }) ∷ []);
    locals = ((VectorType (PromiseType IntType)) ∷ (PromiseType IntType) ∷ (FutureType IntType) ∷ (PromiseType IntType) ∷ []);
    blocks = ((record {
      catcher = None;
      body =
          ((NewInstr (Local 0)) ∷ (NewInstr (Local 1)) ∷
          (SetInstr ((id (codes "l2")) ∷ []) (MethodExpr (VarExpr (id (codes "l1"))) (ByName (id (codes "getFuture"))) NoExprs)) ∷
          (ActInstr ((id (codes "l0")) ∷ (id (codes "push_back")) ∷ []) (MoreExprs (VarExpr (id (codes "l1"))) NoExprs)) ∷
          (SetInstr ((id (codes "l3")) ∷ []) (indexed (VarExpr (id (codes "l0"))) (IntExpr (pos 0)))) ∷
          (ActInstr ((id (codes "l0")) ∷ (id (codes "clear")) ∷ []) NoExprs) ∷
          (ActInstr ((id (codes "l3")) ∷ (id (codes "send")) ∷ []) (MoreExprs (IntExpr (pos 5)) NoExprs)) ∷
          (ActInstr ((id (codes "trace")) ∷ []) (MoreExprs (MethodExpr (VarExpr (id (codes "l2"))) (ByName (id (codes "get"))) NoExprs)
          NoExprs)) ∷ (ActInstr ((id (codes "trace")) ∷ [])
          (MoreExprs (MethodExpr (VarExpr (id (codes "l0"))) (ByName (id (codes "size"))) NoExprs) NoExprs)) ∷ []);
      last =
          (ReturnLast (Some VoidExpr));
    }) ∷ []);
    groups = ([]);
  }) ∷ []);
}

an_element_is_a_copy_by_classes : ClassTrace an_element_is_a_copy_classes an_element_is_a_copy_world an_element_is_a_copy_lines
unfolding an_element_is_a_copy_classes an_element_is_a_copy_world an_element_is_a_copy_lines
an_element_is_a_copy_by_classes = class_trace 20 400 an_element_is_a_copy_classes an_element_is_a_copy_world an_element_is_a_copy_lines
    refl

-- vectors of vectors, by their indexes and as copies
unfoldable pub vectors_of_vectors_program : ProgramTree
vectors_of_vectors_program = record {
  decls = ((FunctionDecl (record {
    at = nowhere;
    returns = IntType;
    name = (id (codes "sum"));
    params = ((record { ty = (VectorType IntType); name = (id (codes "v")) }) ∷ []);
    body = (DeclareStmt nowhere (record { state = false; ty = IntType; name = (id (codes "s")) }) (Some (IntExpr (pos 0)))
        (ForStmt nowhere (DeclareStmt nowhere (record { state = false; ty = IntType; name = (id (codes "i")) })
        (Some (IntExpr (pos 0))) End) (Some (BinaryExpr Lt (VarExpr (id (codes "i")))
        (MethodExpr (VarExpr (id (codes "v"))) (ByName (id (codes "size"))) NoExprs)))
        (ModifyStmt nowhere ((id (codes "i")) ∷ []) UpChange End)
        (AssignStmt nowhere ((id (codes "s")) ∷ [])
        (BinaryExpr Add (VarExpr (id (codes "s"))) (indexed (VarExpr (id (codes "v"))) (VarExpr (id (codes "i"))))) End)
        (ReturnStmt nowhere (Some (VarExpr (id (codes "s")))) End)));
    close = nowhere;
  }))
      ∷ (FunctionDecl (record {
        at = nowhere;
        returns = IntType;
        name = (id (codes "deep"));
        params = ((record { ty = (VectorType (VectorType IntType)); name = (id (codes "w")) }) ∷ []);
        body = (ReturnStmt nowhere (Some (BinaryExpr Add
            (indexed (indexed (VarExpr (id (codes "w"))) (IntExpr (pos 1))) (IntExpr (pos 0)))
            (CallExpr (id (codes "sum")) (MoreExprs (indexed (VarExpr (id (codes "w"))) (IntExpr (pos 0))) NoExprs)))) End);
        close = nowhere;
      }))
      ∷ (ActorDecl (record {
        at = nowhere;
        returns = VoidType;
        name = (id (codes "main"));
        params = ((record { ty = IntType; name = (id (codes "p")) }) ∷ []);
        body = (DeclareStmt nowhere (record { state = false; ty = (VectorType IntType); name = (id (codes "v")) }) None
            (CallStmt nowhere ((id (codes "v")) ∷ (id (codes "push_back")) ∷ []) (MoreExprs (IntExpr (pos 3)) NoExprs)
            (CallStmt nowhere ((id (codes "v")) ∷ (id (codes "push_back")) ∷ []) (MoreExprs (IntExpr (pos 4)) NoExprs)
            (DeclareStmt nowhere (record { state = false; ty = (VectorType (VectorType IntType)); name = (id (codes "w")) }) None
            (CallStmt nowhere ((id (codes "w")) ∷ (id (codes "push_back")) ∷ []) (MoreExprs (VarExpr (id (codes "v"))) NoExprs)
            (CallStmt nowhere ((id (codes "v")) ∷ (id (codes "clear")) ∷ []) NoExprs
            (CallStmt nowhere ((id (codes "v")) ∷ (id (codes "push_back")) ∷ []) (MoreExprs (IntExpr (pos 10)) NoExprs)
            (CallStmt nowhere ((id (codes "w")) ∷ (id (codes "push_back")) ∷ []) (MoreExprs (VarExpr (id (codes "v"))) NoExprs)
            (CallStmt nowhere ((id (codes "trace")) ∷ [])
            (MoreExprs (CallExpr (id (codes "deep")) (MoreExprs (VarExpr (id (codes "w"))) NoExprs)) NoExprs)
            (CallStmt nowhere ((id (codes "trace")) ∷ [])
            (MoreExprs (MethodExpr (indexed (VarExpr (id (codes "w"))) (IntExpr (pos 0))) (ByName (id (codes "size"))) NoExprs)
            NoExprs)
            (CallStmt nowhere ((id (codes "trace")) ∷ [])
            (MoreExprs (CallExpr (id (codes "sum")) (MoreExprs (VarExpr (id (codes "v"))) NoExprs)) NoExprs)
            (ReturnStmt nowhere (Some VoidExpr) End))))))))))));
        close = nowhere;
      })) ∷ []);
  end = nowhere;
}

unfoldable pub vectors_of_vectors_world : World
vectors_of_vectors_world = record {
  seed = 0;
  words = [];
  processes = 1;
  events = 1000;
  turns = 100000;
  latency = (1, 2);
  loss = 0;
  diskdelay = (1, 2);
  script = [];
}

vectors_of_vectors_lines : List Line
vectors_of_vectors_lines =
    line.Head
    ∷ (line.Boot 1 0 (process 0))
    ∷ (line.Start (actor 1) (codes "main"))
    ∷ (line.PrintInt (actor 1) (pos 17))
    ∷ (line.PrintInt (actor 1) (pos 2))
    ∷ (line.PrintInt (actor 1) (pos 10))
    ∷ (line.Finish (actor 1))
    ∷ line.EndIdle ∷ []

vectors_of_vectors : SourceTrace vectors_of_vectors_program vectors_of_vectors_world vectors_of_vectors_lines
unfolding vectors_of_vectors_program vectors_of_vectors_world vectors_of_vectors_lines
vectors_of_vectors = source_trace 20 400 vectors_of_vectors_program vectors_of_vectors_world vectors_of_vectors_lines refl

unfoldable pub vectors_of_vectors_classes : RawTree
vectors_of_vectors_classes = record {
  records = ([]);
  functions = ((record {
    at = nowhere;
    returns = IntType;
    name = (id (codes "sum"));
    params = ((record { ty = (VectorType IntType); name = (id (codes "v")) }) ∷ []);
    body = (DeclareStmt nowhere (record { state = false; ty = IntType; name = (id (codes "s")) }) (Some (IntExpr (pos 0)))
        (ForStmt nowhere (DeclareStmt nowhere (record { state = false; ty = IntType; name = (id (codes "i")) })
        (Some (IntExpr (pos 0))) End) (Some (BinaryExpr Lt (VarExpr (id (codes "i")))
        (MethodExpr (VarExpr (id (codes "v"))) (ByName (id (codes "size"))) NoExprs)))
        (ModifyStmt nowhere ((id (codes "i")) ∷ []) UpChange End)
        (AssignStmt nowhere ((id (codes "s")) ∷ [])
        (BinaryExpr Add (VarExpr (id (codes "s"))) (indexed (VarExpr (id (codes "v"))) (VarExpr (id (codes "i"))))) End)
        (ReturnStmt nowhere (Some (VarExpr (id (codes "s")))) End)));
    close = nowhere;
  }) ∷ (record {
    at = nowhere;
    returns = IntType;
    name = (id (codes "deep"));
    params = ((record { ty = (VectorType (VectorType IntType)); name = (id (codes "w")) }) ∷ []);
    body = (ReturnStmt nowhere (Some (BinaryExpr Add
        (indexed (indexed (VarExpr (id (codes "w"))) (IntExpr (pos 1))) (IntExpr (pos 0)))
        (CallExpr (id (codes "sum")) (MoreExprs (indexed (VarExpr (id (codes "w"))) (IntExpr (pos 0))) NoExprs)))) End);
    close = nowhere;
  }) ∷ []);
  classes = ((record {
    name = (codes "main");
    returns = VoidType;
    params = 1;
    slots = ((record { ty = IntType; name = (codes "p") }) ∷ []);
    locals = ((VectorType IntType) ∷ (VectorType (VectorType IntType)) ∷ []);
    blocks = ((record {
      catcher = None;
      body =
          ((NewInstr (Local 0)) ∷ (ActInstr ((id (codes "l0")) ∷ (id (codes "push_back")) ∷ []) (MoreExprs (IntExpr (pos 3)) NoExprs))
          ∷ (ActInstr ((id (codes "l0")) ∷ (id (codes "push_back")) ∷ []) (MoreExprs (IntExpr (pos 4)) NoExprs)) ∷ (NewInstr (Local 1))
          ∷ (ActInstr ((id (codes "l1")) ∷ (id (codes "push_back")) ∷ []) (MoreExprs (VarExpr (id (codes "l0"))) NoExprs)) ∷
          (ActInstr ((id (codes "l0")) ∷ (id (codes "clear")) ∷ []) NoExprs) ∷
          (ActInstr ((id (codes "l0")) ∷ (id (codes "push_back")) ∷ []) (MoreExprs (IntExpr (pos 10)) NoExprs)) ∷
          (ActInstr ((id (codes "l1")) ∷ (id (codes "push_back")) ∷ []) (MoreExprs (VarExpr (id (codes "l0"))) NoExprs)) ∷
          (ActInstr ((id (codes "trace")) ∷ []) (MoreExprs
          (CallExpr (id (codes "deep")) (MoreExprs (VarExpr (id (codes "l1"))) NoExprs)) NoExprs)) ∷
          (ActInstr ((id (codes "trace")) ∷ []) (MoreExprs
          (MethodExpr (indexed (VarExpr (id (codes "l1"))) (IntExpr (pos 0))) (ByName (id (codes "size"))) NoExprs) NoExprs)) ∷
          (ActInstr ((id (codes "trace")) ∷ []) (MoreExprs
          (CallExpr (id (codes "sum")) (MoreExprs (VarExpr (id (codes "l0"))) NoExprs)) NoExprs)) ∷ []);
      last =
          (ReturnLast (Some VoidExpr));
    }) ∷ []);
    groups = ([]);
  }) ∷ []);
}

vectors_of_vectors_by_classes : ClassTrace vectors_of_vectors_classes vectors_of_vectors_world vectors_of_vectors_lines
unfolding vectors_of_vectors_classes vectors_of_vectors_world vectors_of_vectors_lines
vectors_of_vectors_by_classes = class_trace 20 400 vectors_of_vectors_classes vectors_of_vectors_world vectors_of_vectors_lines refl

-- an index below nothing throws, and its base is evaluated first
unfoldable pub negative_index_program : ProgramTree
negative_index_program = record {
  decls = ((FunctionDecl (record {
    at = nowhere;
    returns = IntType;
    name = (id (codes "last"));
    params = ((record { ty = (VectorType IntType); name = (id (codes "v")) }) ∷ []);
    body = (ReturnStmt nowhere (Some (indexed (VarExpr (id (codes "v"))) (BinaryExpr Sub (IntExpr (pos 0)) (IntExpr (pos 1))))) End);
    close = nowhere;
  }))
      ∷ (ActorDecl (record {
        at = nowhere;
        returns = VoidType;
        name = (id (codes "main"));
        params = ((record { ty = IntType; name = (id (codes "p")) }) ∷ []);
        body = (DeclareStmt nowhere (record { state = false; ty = (VectorType IntType); name = (id (codes "v")) }) None
            (CallStmt nowhere ((id (codes "v")) ∷ (id (codes "push_back")) ∷ []) (MoreExprs (IntExpr (pos 1)) NoExprs)
            (TryStmt nowhere (CallStmt nowhere ((id (codes "trace")) ∷ [])
            (MoreExprs (indexed (VarExpr (id (codes "v"))) (BinaryExpr Sub (IntExpr (pos 0)) (IntExpr (pos 1)))) NoExprs) End)
            nowhere (id (codes "e")) (CallStmt nowhere ((id (codes "trace")) ∷ [])
            (MoreExprs (MethodExpr (VarExpr (id (codes "e"))) (ByName (id (codes "code"))) NoExprs) NoExprs) End)
            (TryStmt nowhere (CallStmt nowhere ((id (codes "trace")) ∷ [])
            (MoreExprs (indexed (VarExpr (id (codes "v"))) (BinaryExpr Div (IntExpr (pos 1)) (IntExpr (pos 0)))) NoExprs) End)
            nowhere (id (codes "e")) (CallStmt nowhere ((id (codes "trace")) ∷ [])
            (MoreExprs (MethodExpr (VarExpr (id (codes "e"))) (ByName (id (codes "code"))) NoExprs) NoExprs) End)
            (TryStmt nowhere (CallStmt nowhere ((id (codes "trace")) ∷ [])
            (MoreExprs (CallExpr (id (codes "last")) (MoreExprs (VarExpr (id (codes "v"))) NoExprs)) NoExprs) End) nowhere
            (id (codes "e")) (CallStmt nowhere ((id (codes "trace")) ∷ [])
            (MoreExprs (MethodExpr (VarExpr (id (codes "e"))) (ByName (id (codes "code"))) NoExprs) NoExprs) End)
            (ReturnStmt nowhere (Some VoidExpr) End))))));
        close = nowhere;
      })) ∷ []);
  end = nowhere;
}

unfoldable pub negative_index_world : World
negative_index_world = record {
  seed = 0;
  words = [];
  processes = 1;
  events = 1000;
  turns = 100000;
  latency = (1, 2);
  loss = 0;
  diskdelay
      = (1, 2);
  script = [];
}

negative_index_lines : List Line
negative_index_lines =
    line.Head
    ∷ (line.Boot 1 0 (process 0))
    ∷ (line.Start (actor 1) (codes "main"))
    ∷ (line.Throw (actor 1) (error 9007))
    ∷ (line.Catch (actor 1) (error 9007))
    ∷ (line.PrintInt (actor 1) (pos 9007))
    ∷ (line.Throw (actor 1) (error 9001))
    ∷ (line.Catch (actor 1) (error 9001))
    ∷ (line.PrintInt (actor 1) (pos 9001))
    ∷ (line.Throw (actor 1) (error 9007))
    ∷ (line.Catch (actor 1) (error 9007))
    ∷ (line.PrintInt (actor 1) (pos 9007))
    ∷ (line.Finish (actor 1))
    ∷ line.EndIdle ∷ []

negative_index : SourceTrace negative_index_program negative_index_world negative_index_lines
unfolding negative_index_program negative_index_world negative_index_lines
negative_index = source_trace 20 400 negative_index_program negative_index_world negative_index_lines refl

unfoldable pub negative_index_classes : RawTree
negative_index_classes = record {
  records = ([]);
  functions = ((record {
    at = nowhere;
    returns = IntType;
    name = (id (codes "last"));
    params = ((record { ty = (VectorType IntType); name = (id (codes "v")) }) ∷ []);
    body = (ReturnStmt nowhere (Some (indexed (VarExpr (id (codes "v"))) (BinaryExpr Sub (IntExpr (pos 0)) (IntExpr (pos 1))))) End);
    close = nowhere;
  }) ∷ []);
  classes = ((record {
    name = (codes "main");
    returns = VoidType;
    params = 1;
    slots = ((record { ty = IntType; name = (codes "p") }) ∷ []);
    locals = ((VectorType IntType) ∷ ErrorType ∷ ErrorType ∷ ErrorType ∷ []);
    blocks = ((record {
      catcher = None;
      body =
          ((NewInstr (Local 0)) ∷ (ActInstr ((id (codes "l0")) ∷ (id (codes "push_back")) ∷ []) (MoreExprs (IntExpr (pos 1)) NoExprs))
          ∷ []);
      last = (GotoLast 1);
    })
        ∷ (record {
          catcher = (Some (record { block = 2; error = (Some 1); drops = ([]) }));
          body =
              ((ActInstr ((id (codes "trace")) ∷ []) (MoreExprs
              (indexed (VarExpr (id (codes "l0"))) (BinaryExpr Sub (IntExpr (pos 0)) (IntExpr (pos 1)))) NoExprs)) ∷ []);
          last =
              (GotoLast 3);
        })
        ∷ (record {
          catcher = None;
          body = ((ActInstr ((id (codes "trace")) ∷ [])
              (MoreExprs (MethodExpr (VarExpr (id (codes "l1"))) (ByName (id (codes "code"))) NoExprs) NoExprs)) ∷ (DropInstr (1 ∷ [])) ∷
              []);
          last = (GotoLast 3);
        })
        ∷ (record { catcher = None; body = ([]); last = (GotoLast 4) })
        ∷ (record {
          catcher = (Some (record { block = 5; error = (Some 2); drops = ([]) }));
          body =
              ((ActInstr ((id (codes "trace")) ∷ []) (MoreExprs
              (indexed (VarExpr (id (codes "l0"))) (BinaryExpr Div (IntExpr (pos 1)) (IntExpr (pos 0)))) NoExprs)) ∷ []);
          last =
              (GotoLast 6);
        })
        ∷ (record {
          catcher = None;
          body = ((ActInstr ((id (codes "trace")) ∷ [])
              (MoreExprs (MethodExpr (VarExpr (id (codes "l2"))) (ByName (id (codes "code"))) NoExprs) NoExprs)) ∷ (DropInstr (2 ∷ [])) ∷
              []);
          last = (GotoLast 6);
        })
        ∷ (record { catcher = None; body = ([]); last = (GotoLast 7) })
        ∷ (record {
          catcher = (Some (record { block = 8; error = (Some 3); drops = ([]) }));
          body =
              ((ActInstr ((id (codes "trace")) ∷ []) (MoreExprs
              (CallExpr (id (codes "last")) (MoreExprs (VarExpr (id (codes "l0"))) NoExprs)) NoExprs)) ∷ []);
          last = (GotoLast 9);
        })
        ∷ (record {
          catcher = None;
          body = ((ActInstr ((id (codes "trace")) ∷ [])
              (MoreExprs (MethodExpr (VarExpr (id (codes "l3"))) (ByName (id (codes "code"))) NoExprs) NoExprs)) ∷ (DropInstr (3 ∷ [])) ∷
              []);
          last = (GotoLast 9);
        })
        ∷ (record { catcher = None; body = ([]); last = (ReturnLast (Some VoidExpr)) }) ∷ []);
    groups = ([]);
  }) ∷ []);
}

negative_index_by_classes : ClassTrace negative_index_classes negative_index_world negative_index_lines
unfolding negative_index_classes negative_index_world negative_index_lines
negative_index_by_classes = class_trace 20 400 negative_index_classes negative_index_world negative_index_lines refl

-- a declaration makes an empty vector each time, and drops what stood there
unfoldable pub declared_again_is_empty_program : ProgramTree
declared_again_is_empty_program = record {
  decls = ((ActorDecl (record {
    at = nowhere;
    returns = VoidType;
    name = (id (codes "watch"));
    params = ((record { ty = (FutureType IntType); name = (id (codes "f")) }) ∷ (record { ty = IntType; name = (id (codes "n")) }) ∷
        []);
    body = (TryStmt nowhere (WaitStmt nowhere
        (record {
          into = (Some (record { state = false; ty = IntType; name = (id (codes "x")) }));
          next = false;
          operand =
              (VarExpr (id (codes "f")));
        })
        (CallStmt nowhere ((id (codes "trace")) ∷ []) (MoreExprs (VarExpr (id (codes "x"))) NoExprs) End)) nowhere
        (id (codes "e")) (CallStmt nowhere ((id (codes "trace")) ∷ []) (MoreExprs (VarExpr (id (codes "n"))) NoExprs)
        (CallStmt nowhere ((id (codes "trace")) ∷ [])
        (MoreExprs (MethodExpr (VarExpr (id (codes "e"))) (ByName (id (codes "code"))) NoExprs) NoExprs) End))
        (ReturnStmt nowhere (Some VoidExpr) End));
    close = nowhere;
  }))
      ∷ (ActorDecl (record {
        at = nowhere;
        returns = VoidType;
        name = (id (codes "main"));
        params = ((record { ty = IntType; name = (id (codes "p")) }) ∷ []);
        body = (DeclareStmt nowhere (record { state = true; ty = IntType; name = (id (codes "i")) }) (Some (IntExpr (pos 0)))
            (DeclareStmt nowhere (record { state = true; ty = (VectorType (FutureType VoidType)); name = (id (codes "rs")) }) None
            (ForStmt nowhere (AssignStmt nowhere ((id (codes "i")) ∷ []) (IntExpr (pos 0)) End)
            (Some (BinaryExpr Lt (VarExpr (id (codes "i"))) (IntExpr (pos 2))))
            (ModifyStmt nowhere ((id (codes "i")) ∷ []) UpChange End)
            (DeclareStmt nowhere (record { state = true; ty = (VectorType (PromiseType IntType)); name = (id (codes "v")) }) None
            (CallStmt nowhere ((id (codes "trace")) ∷ [])
            (MoreExprs (MethodExpr (VarExpr (id (codes "v"))) (ByName (id (codes "size"))) NoExprs) NoExprs)
            (DeclareStmt nowhere (record { state = false; ty = (PromiseType IntType); name = (id (codes "a")) }) None
            (CallStmt nowhere ((id (codes "v")) ∷ (id (codes "push_back")) ∷ []) (MoreExprs (VarExpr (id (codes "a"))) NoExprs)
            (DeclareStmt nowhere (record { state = false; ty = (FutureType VoidType); name = (id (codes "r")) })
            (Some (CallExpr (id (codes "watch")) (MoreExprs
            (MethodExpr (VarExpr (id (codes "a"))) (ByName (id (codes "getFuture"))) NoExprs)
            (MoreExprs (VarExpr (id (codes "i"))) NoExprs))))
            (CallStmt nowhere ((id (codes "rs")) ∷ (id (codes "push_back")) ∷ []) (MoreExprs (VarExpr (id (codes "r"))) NoExprs)
            End))))))
            (CallStmt nowhere ((id (codes "trace")) ∷ []) (MoreExprs (TextExpr (codes "end")) NoExprs)
            (ReturnStmt nowhere (Some VoidExpr) End)))));
        close = nowhere;
      })) ∷ []);
  end = nowhere;
}

unfoldable pub declared_again_is_empty_world : World
declared_again_is_empty_world = record {
  seed = 0;
  words = [];
  processes = 1;
  events = 1000;
  turns = 100000;
  latency = (1, 2);
  loss = 0;
  diskdelay = (1, 2);
  script = [];
}

declared_again_is_empty_lines : List Line
declared_again_is_empty_lines =
    line.Head
    ∷ (line.Boot 1 0 (process 0))
    ∷ (line.Start (actor 1) (codes "main"))
    ∷ (line.PrintInt (actor 1) (pos 0))
    ∷ (line.Start (actor 2) (codes "watch"))
    ∷ (line.Wait (actor 2) 1)
    ∷ (line.Broken (cell 2))
    ∷ (line.Take (actor 2) 1 0)
    ∷ (line.Throw (actor 2) (error 1100))
    ∷ (line.Catch (actor 2) (error 1100))
    ∷ (line.PrintInt (actor 2) (pos 0))
    ∷ (line.PrintInt (actor 2) (pos 1100))
    ∷ (line.Finish (actor 2))
    ∷ (line.PrintInt (actor 1) (pos 0))
    ∷ (line.Start (actor 3) (codes "watch"))
    ∷ (line.Wait (actor 3) 1)
    ∷ (line.PrintText (actor 1) (codes "end"))
    ∷ (line.Broken (cell 4))
    ∷ (line.Take (actor 3) 1 0)
    ∷ (line.Throw (actor 3) (error 1100))
    ∷ (line.Catch (actor 3) (error 1100))
    ∷ (line.PrintInt (actor 3) (pos 1))
    ∷ (line.PrintInt (actor 3) (pos 1100))
    ∷ (line.Finish (actor 3))
    ∷ (line.Finish (actor 1))
    ∷ line.EndIdle ∷ []

declared_again_is_empty : SourceTrace declared_again_is_empty_program declared_again_is_empty_world declared_again_is_empty_lines
unfolding declared_again_is_empty_program declared_again_is_empty_world declared_again_is_empty_lines
declared_again_is_empty = source_trace 20 400 declared_again_is_empty_program declared_again_is_empty_world declared_again_is_empty_lines
    refl

unfoldable pub declared_again_is_empty_classes : RawTree
declared_again_is_empty_classes = record {
  records = ([]);
  functions = ([]);
  classes = ((record {
    name = (codes "watch");
    returns = VoidType;
    params = 2;
    slots = ((record { ty = (FutureType IntType); name = (codes "f") }) ∷ (record { ty = IntType; name = (codes "n") }) ∷ []);
    locals = (IntType ∷ ErrorType ∷ []);
    blocks = ((record { catcher = None; body = ([]); last = (GotoLast 1) })
        ∷ (record { catcher = (Some (record { block = 3; error = (Some 1); drops = ([]) })); body = ([]); last = (ChooseLast 1) })
        ∷ (record {
          catcher = (Some (record { block = 3; error = (Some 1); drops = (0 ∷ []) }));
          body =
              ((ActInstr ((id (codes "trace")) ∷ []) (MoreExprs (VarExpr (id (codes "l0"))) NoExprs)) ∷ (DropInstr (0 ∷ [])) ∷ []);
          last
              = (GotoLast 4);
        })
        ∷ (record {
          catcher = None;
          body = ((ActInstr ((id (codes "trace")) ∷ []) (MoreExprs (VarExpr (id (codes "s1"))) NoExprs)) ∷
              (ActInstr ((id (codes "trace")) ∷ []) (MoreExprs
              (MethodExpr (VarExpr (id (codes "l1"))) (ByName (id (codes "code"))) NoExprs) NoExprs)) ∷ (DropInstr (1 ∷ [])) ∷ []);
          last
              = (GotoLast 4);
        })
        ∷ (record { catcher = None; body = ([]); last = (ReturnLast (Some VoidExpr)) }) ∷ []);
    groups = (((record { next = false; operand = (VarExpr (id (codes "s0"))); into = (Some (Local 0)); block = 2 }) ∷ []) ∷ []);
  })
      ∷ (record {
        name = (codes "main");
        returns = VoidType;
        params = 1;
        slots = ((record { ty = IntType; name = (codes "p") }) ∷ (record { ty = IntType; name = (codes "i") }) ∷
            (record { ty = (VectorType (FutureType VoidType)); name = (codes "rs") }) ∷
            (record { ty = (VectorType (PromiseType IntType)); name = (codes "v") }) ∷ []);
        locals = ((PromiseType IntType) ∷ (FutureType VoidType) ∷ []);
        blocks = ((record {
          catcher = None;
          body =
              ((SetInstr ((id (codes "s1")) ∷ []) (IntExpr (pos 0))) ∷ (NewInstr (Slot 2)) ∷
              (SetInstr ((id (codes "s1")) ∷ []) (IntExpr (pos 0))) ∷ []);
          last = (PassLast 1);
        })
            ∷ (record { catcher = None; body = ([]); last = (TestLast (BinaryExpr Lt (VarExpr (id (codes "s1"))) (IntExpr (pos 2))) 2 3) })
            ∷ (record {
              catcher = None;
              body = ((NewInstr (Slot 3)) ∷
                  (ActInstr ((id (codes "trace")) ∷ []) (MoreExprs
                  (MethodExpr (VarExpr (id (codes "s3"))) (ByName (id (codes "size"))) NoExprs) NoExprs)) ∷ (NewInstr (Local 0)) ∷
                  (ActInstr ((id (codes "s3")) ∷ (id (codes "push_back")) ∷ []) (MoreExprs (VarExpr (id (codes "l0"))) NoExprs)) ∷
                  (EffectInstr ((id (codes "l1")) ∷ []) (CallExpr (id (codes "watch"))
                  (MoreExprs (MethodExpr (VarExpr (id (codes "l0"))) (ByName (id (codes "getFuture"))) NoExprs)
                  (MoreExprs (VarExpr (id (codes "s1"))) NoExprs)))) ∷
                  (ActInstr ((id (codes "s2")) ∷ (id (codes "push_back")) ∷ []) (MoreExprs (VarExpr (id (codes "l1"))) NoExprs)) ∷
                  (DropInstr (1 ∷ 0 ∷ [])) ∷ (SetInstr ((id (codes "s1")) ∷ [])
                  (BinaryExpr Add (VarExpr (id (codes "s1"))) (IntExpr (pos 1)))) ∷ []);
              last = (PassLast 1);
            })
            ∷ (record {
              catcher = None;
              body = ((ActInstr ((id (codes "trace")) ∷ []) (MoreExprs (TextExpr (codes "end")) NoExprs)) ∷ []);
              last = (ReturnLast (Some VoidExpr));
            }) ∷ []);
        groups = ([]);
      }) ∷ []);
}

declared_again_is_empty_by_classes : ClassTrace declared_again_is_empty_classes declared_again_is_empty_world
    declared_again_is_empty_lines
unfolding declared_again_is_empty_classes declared_again_is_empty_world declared_again_is_empty_lines
declared_again_is_empty_by_classes = class_trace 20 400 declared_again_is_empty_classes declared_again_is_empty_world
    declared_again_is_empty_lines refl

-- a vector is sent, and its copies are apart
unfoldable pub fires_with_a_vector_program : ProgramTree
fires_with_a_vector_program = record {
  decls = ((ActorDecl (record {
    at = nowhere;
    returns = (VectorType IntType);
    name = (id (codes "make"));
    params = ((record { ty = IntType; name = (id (codes "n")) }) ∷ []);
    body = (WaitStmt nowhere (record {
      into = None;
      next = false;
      operand =
          (CallExpr (id (codes "delay")) (MoreExprs (VarExpr (id (codes "n"))) NoExprs));
    })
        (DeclareStmt nowhere (record { state = false; ty = (VectorType IntType); name = (id (codes "v")) }) None
        (CallStmt nowhere ((id (codes "v")) ∷ (id (codes "push_back")) ∷ []) (MoreExprs (VarExpr (id (codes "n"))) NoExprs)
        (CallStmt nowhere ((id (codes "v")) ∷ (id (codes "push_back")) ∷ [])
        (MoreExprs (BinaryExpr Add (VarExpr (id (codes "n"))) (IntExpr (pos 1))) NoExprs)
        (ReturnStmt nowhere (Some (VarExpr (id (codes "v")))) End)))));
    close = nowhere;
  }))
      ∷ (ActorDecl (record {
        at = nowhere;
        returns = VoidType;
        name = (id (codes "main"));
        params = ((record { ty = IntType; name = (id (codes "p")) }) ∷ []);
        body = (DeclareStmt nowhere (record { state = true; ty = (FutureType (VectorType IntType)); name = (id (codes "f")) })
            (Some (CallExpr (id (codes "make")) (MoreExprs (IntExpr (pos 2)) NoExprs)))
            (WaitStmt nowhere (record {
              into = (Some (record { state = false; ty = (VectorType IntType); name = (id (codes "v")) }));
              next = false;
              operand = (VarExpr (id (codes "f")));
            })
            (CallStmt nowhere ((id (codes "v")) ∷ (id (codes "push_back")) ∷ []) (MoreExprs (IntExpr (pos 9)) NoExprs)
            (CallStmt nowhere ((id (codes "trace")) ∷ []) (MoreExprs (indexed (VarExpr (id (codes "v"))) (IntExpr (pos 2))) NoExprs)
            (WaitStmt nowhere (record {
              into = (Some (record { state = false; ty = (VectorType IntType); name = (id (codes "w")) }));
              next = false;
              operand = (VarExpr (id (codes "f")));
            })
            (CallStmt nowhere ((id (codes "trace")) ∷ [])
            (MoreExprs (MethodExpr (VarExpr (id (codes "w"))) (ByName (id (codes "size"))) NoExprs) NoExprs)
            (ReturnStmt nowhere (Some VoidExpr) End)))))));
        close = nowhere;
      })) ∷ []);
  end = nowhere;
}

unfoldable pub fires_with_a_vector_world : World
fires_with_a_vector_world = record {
  seed = 0;
  words = [];
  processes = 1;
  events = 1000;
  turns = 100000;
  latency = (1, 2);
  loss = 0;
  diskdelay = (1, 2);
  script = [];
}

fires_with_a_vector_lines : List Line
fires_with_a_vector_lines =
    line.Head
    ∷ (line.Boot 1 0 (process 0))
    ∷ (line.Start (actor 1) (codes "main"))
    ∷ (line.Start (actor 2) (codes "make"))
    ∷ (line.Wait (actor 2) 1)
    ∷ (line.Wait (actor 1) 1)
    ∷ (line.Timer 2 2 (process 0) (cell 3))
    ∷ (line.Take (actor 2) 1 0)
    ∷ (line.Finish (actor 2))
    ∷ (line.Take (actor 1) 1 0)
    ∷ (line.PrintInt (actor 1) (pos 9))
    ∷ (line.Take (actor 1) 2 0)
    ∷ (line.PrintInt (actor 1) (pos 2))
    ∷ (line.Finish (actor 1))
    ∷ line.EndIdle ∷ []

fires_with_a_vector : SourceTrace fires_with_a_vector_program fires_with_a_vector_world fires_with_a_vector_lines
unfolding fires_with_a_vector_program fires_with_a_vector_world fires_with_a_vector_lines
fires_with_a_vector = source_trace 20 400 fires_with_a_vector_program fires_with_a_vector_world fires_with_a_vector_lines refl

unfoldable pub fires_with_a_vector_classes : RawTree
fires_with_a_vector_classes = record {
  records = ([]);
  functions = ([]);
  classes = ((record {
    name = (codes "make");
    returns = (VectorType IntType);
    params = 1;
    slots = ((record { ty = IntType; name = (codes "n") }) ∷ []);
    locals = ((VectorType IntType) ∷ []);
    blocks = ((record { catcher = None; body = ([]); last = (ChooseLast 1) })
        ∷ (record {
          catcher = None;
          body = ((NewInstr (Local 0)) ∷
              (ActInstr ((id (codes "l0")) ∷ (id (codes "push_back")) ∷ []) (MoreExprs (VarExpr (id (codes "s0"))) NoExprs)) ∷
              (ActInstr ((id (codes "l0")) ∷ (id (codes "push_back")) ∷ [])
              (MoreExprs (BinaryExpr Add (VarExpr (id (codes "s0"))) (IntExpr (pos 1))) NoExprs)) ∷ []);
          last =
              (ReturnLast (Some (VarExpr (id (codes "l0")))));
        }) ∷ []);
    groups = (((record {
      next = false;
      operand = (CallExpr (id (codes "delay")) (MoreExprs (VarExpr (id (codes "s0"))) NoExprs));
      into = None;
      block = 1;
    }) ∷ []) ∷ []);
  })
      ∷ (record {
        name = (codes "main");
        returns = VoidType;
        params = 1;
        slots = ((record { ty = IntType; name = (codes "p") }) ∷ (record { ty = (FutureType (VectorType IntType)); name = (codes "f") })
            ∷ []);
        locals = ((VectorType IntType) ∷ (VectorType IntType) ∷ []);
        blocks = ((record {
          catcher = None;
          body =
              ((EffectInstr ((id (codes "s1")) ∷ []) (CallExpr (id (codes "make")) (MoreExprs (IntExpr (pos 2)) NoExprs))) ∷ []);
          last =
              (ChooseLast 1);
        })
            ∷ (record {
              catcher = None;
              body = ((ActInstr ((id (codes "l0")) ∷ (id (codes "push_back")) ∷ [])
                  (MoreExprs (IntExpr (pos 9)) NoExprs)) ∷ (ActInstr ((id (codes "trace")) ∷ [])
                  (MoreExprs (indexed (VarExpr (id (codes "l0"))) (IntExpr (pos 2))) NoExprs)) ∷ []);
              last = (ChooseLast 2);
            })
            ∷ (record {
              catcher = None;
              body = ((ActInstr ((id (codes "trace")) ∷ [])
                  (MoreExprs (MethodExpr (VarExpr (id (codes "l1"))) (ByName (id (codes "size"))) NoExprs) NoExprs)) ∷ []);
              last =
                  (ReturnLast (Some VoidExpr));
            }) ∷ []);
        groups = (((record { next = false; operand = (VarExpr (id (codes "s1"))); into = (Some (Local 0)); block = 1 }) ∷ []) ∷
            ((record { next = false; operand = (VarExpr (id (codes "s1"))); into = (Some (Local 1)); block = 2 }) ∷ []) ∷ []);
      }) ∷ []);
}

fires_with_a_vector_by_classes : ClassTrace fires_with_a_vector_classes fires_with_a_vector_world fires_with_a_vector_lines
unfolding fires_with_a_vector_classes fires_with_a_vector_world fires_with_a_vector_lines
fires_with_a_vector_by_classes = class_trace 20 400 fires_with_a_vector_classes fires_with_a_vector_world fires_with_a_vector_lines refl
