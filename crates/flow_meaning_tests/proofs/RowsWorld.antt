-- Runs of links and disks, computed.
use Rattle.std.proofs.Common.{List, [], ◌∷◌, refl}
use Rattle.std.specs.Prelude.{pos, true, false, codes}
use Rattle.std.specs.declared.option.Option.TheVariants.{None, Some}
use Rattle.flow_trace.specs.declared.line.Line.{Line}
use Rattle.flow_trace.specs.declared.line.Line.TheVariants as line
use Rattle.flow_worldfile.specs.Worlds.{World}
use Rattle.flow_worldfile.specs.declared.directive.Order.TheVariants as order
use Rattle.flow_tree.specs.declared.expr.Op.TheVariants.{Eq, Lt, Add}
use Rattle.flow_tree.specs.Tree.{ByName, IntType, StringType, VoidType, ErrorType, NamedType, FutureStreamType, IntExpr, TextExpr, VoidExpr, VarExpr, CallExpr, FieldExpr, MethodExpr, BinaryExpr, NoExprs, MoreExprs}
use Rattle.flow_tree.specs.Body.{UpChange, End, IfStmt, IfElseStmt, ForStmt, ReturnStmt, ThrowStmt, TryStmt, ChooseStmt, DeclareStmt, AssignStmt, ModifyStmt, CallStmt, WaitStmt, NoBranches, MoreBranches}
use Rattle.flow_tree.specs.Decls.{ActorDecl, ProgramTree}
use Rattle.flow_meaning.specs.Runs.{SourceTrace, ClassTrace}
use Rattle.flow_meaning.proofs.Following.{source_trace, class_trace}
use Rattle.flow_meaning_tests.proofs.RowTerms.{nowhere, id, process, actor, cell, error}
use Rattle.flow_class.specs.declared.class.Slotted.TheVariants.{Local}
use Rattle.flow_class.specs.Classes.{RawTree, SetInstr, EffectInstr, ActInstr, DropInstr, GotoLast, PassLast, TestLast, ChooseLast, ReturnLast, ThrowLast}
use Rattle.rand_pcg.specs.Lcg.{state_after}

-- a packet that is lost by a draw, and a timeout
unfoldable pub lost_ping_times_out_program : ProgramTree
lost_ping_times_out_program = record {
  decls = ((ActorDecl (record {
    at = nowhere;
    returns = VoidType;
    name = (id (codes "main"));
    params = ((record { ty = IntType; name = (id (codes "p")) }) ∷ []);
    body = (DeclareStmt nowhere (record { state = true; ty = (FutureStreamType (NamedType (codes "Packet"))); name = (id (codes "in")) })
        (Some (CallExpr (id (codes "listen")) (MoreExprs (IntExpr (pos 7)) NoExprs)))
        (IfElseStmt nowhere (BinaryExpr Eq (VarExpr (id (codes "p"))) (IntExpr (pos 0)))
        (CallStmt nowhere ((id (codes "sendTo")) ∷ []) (MoreExprs (IntExpr (pos 1)) (MoreExprs (IntExpr (pos 7)) (MoreExprs (TextExpr (codes "ping")) NoExprs)))
        (TryStmt nowhere (ChooseStmt nowhere (MoreBranches nowhere (record
        { into = (Some (record { state = false; ty = (NamedType (codes "Packet")); name = (id (codes "k")) })); next = true; operand = (VarExpr (id (codes "in"))) })
        (CallStmt nowhere ((id (codes "trace")) ∷ []) (MoreExprs (FieldExpr (VarExpr (id (codes "k"))) (id (codes "text"))) NoExprs) End)
        (MoreBranches nowhere (record { into = None; next = false; operand = (CallExpr (id (codes "delay")) (MoreExprs (IntExpr (pos 10)) NoExprs)) })
        (ThrowStmt nowhere (Some (CallExpr (id (codes "timed_out")) NoExprs)) End) NoBranches)) End) nowhere (id (codes "e"))
        (CallStmt nowhere ((id (codes "trace")) ∷ []) (MoreExprs (MethodExpr (VarExpr (id (codes "e"))) (ByName (id (codes "code"))) NoExprs) NoExprs) End) End))
        (WaitStmt nowhere (record { into = (Some (record { state = false; ty = (NamedType (codes "Packet")); name = (id (codes "k")) })); next = true; operand = (VarExpr (id (codes "in"))) })
        (CallStmt nowhere ((id (codes "sendTo")) ∷ []) (MoreExprs (FieldExpr (VarExpr (id (codes "k"))) (id (codes "from")))
        (MoreExprs (IntExpr (pos 7)) (MoreExprs (TextExpr (codes "pong")) NoExprs)))
        End)) (ReturnStmt nowhere (Some VoidExpr) End)));
    close = nowhere;
  })) ∷ []);
  end = nowhere;
}

unfoldable pub lost_ping_times_out_world : World
lost_ping_times_out_world = record { seed = 0; words = []; processes = 2; events = 1000; turns = 100000; latency = (1, 2); loss = 1000; diskdelay = (1, 2); script = [] }

lost_ping_times_out_lines : List Line
lost_ping_times_out_lines =
    line.Head
    ∷ (line.Boot 1 0 (process 0))
    ∷ (line.Start (actor 1) (codes "main"))
    ∷ (line.Send 1 (process 1) 7 (codes "ping"))
    ∷ (line.LostDraw 1)
    ∷ (line.Wait (actor 1) 1)
    ∷ (line.Boot 2 0 (process 1))
    ∷ (line.Start (actor 1) (codes "main"))
    ∷ (line.Wait (actor 1) 2)
    ∷ (line.Timer 3 10 (process 0) (cell 3))
    ∷ (line.Take (actor 1) 1 1)
    ∷ (line.Throw (actor 1) (error 1004))
    ∷ (line.Catch (actor 1) (error 1004))
    ∷ (line.PrintInt (actor 1) (pos 1004))
    ∷ (line.Finish (actor 1))
    ∷ line.EndIdle ∷ []

lost_ping_times_out : SourceTrace lost_ping_times_out_program lost_ping_times_out_world lost_ping_times_out_lines
unfolding lost_ping_times_out_program lost_ping_times_out_world lost_ping_times_out_lines state_after
lost_ping_times_out = source_trace 20 400 lost_ping_times_out_program lost_ping_times_out_world lost_ping_times_out_lines refl

unfoldable pub lost_ping_times_out_classes : RawTree
lost_ping_times_out_classes = record {
  records = [];
  functions = [];
  classes = ((record {
    name = (codes "main");
    returns = VoidType;
    params = 1;
    slots = ((record { ty = IntType; name = (codes "p") }) ∷ (record { ty = (FutureStreamType (NamedType (codes "Packet"))); name = (codes "in") }) ∷ []);
    locals = ((NamedType (codes "Packet")) ∷ ErrorType ∷ (NamedType (codes "Packet")) ∷ []);
    blocks = ((record {
      catcher = None;
      body = ((EffectInstr ((id (codes "s1")) ∷ []) (CallExpr (id (codes "listen")) (MoreExprs (IntExpr (pos 7)) NoExprs))) ∷ []);
      last = (TestLast (BinaryExpr Eq (VarExpr (id (codes "s0"))) (IntExpr (pos 0))) 1 8);
    })
        ∷ (record {
          catcher = None;
          body = ((ActInstr ((id (codes "sendTo")) ∷ []) (MoreExprs (IntExpr (pos 1)) (MoreExprs (IntExpr (pos 7)) (MoreExprs (TextExpr (codes "ping")) NoExprs)))) ∷ []);
          last = (GotoLast 2);
        }) ∷ (record { catcher = (Some (record { block = 6; error = (Some 1); drops = [] })); body = []; last = (ChooseLast 1) })
        ∷ (record {
          catcher = (Some (record { block = 6; error = (Some 1); drops = (0 ∷ []) }));
          body = ((ActInstr ((id (codes "trace")) ∷ []) (MoreExprs (FieldExpr (VarExpr (id (codes "l0"))) (id (codes "text"))) NoExprs)) ∷ (DropInstr (0 ∷ [])) ∷ []);
          last = (GotoLast 5);
        })
        ∷ (record { catcher = (Some (record { block = 6; error = (Some 1); drops = [] })); body = []; last = (ThrowLast (CallExpr (id (codes "timed_out")) NoExprs)) })
        ∷ (record { catcher = None; body = []; last = (GotoLast 7) }) ∷
        (record {
          catcher = None;
          body = ((ActInstr ((id (codes "trace")) ∷ []) (MoreExprs (MethodExpr (VarExpr (id (codes "l1"))) (ByName (id (codes "code"))) NoExprs) NoExprs)) ∷ (DropInstr (1 ∷ [])) ∷ []);
          last = (GotoLast 7);
        }) ∷ (record { catcher = None; body = []; last = (GotoLast 10) }) ∷ (record { catcher = None; body = []; last = (ChooseLast 2) })
        ∷ (record {
          catcher = None;
          body = ((ActInstr ((id (codes "sendTo")) ∷ [])
              (MoreExprs (FieldExpr (VarExpr (id (codes "l2"))) (id (codes "from"))) (MoreExprs (IntExpr (pos 7)) (MoreExprs (TextExpr (codes "pong")) NoExprs)))) ∷ (DropInstr (2 ∷ [])) ∷ []);
          last = (GotoLast 10);
        }) ∷ (record { catcher = None; body = []; last = (ReturnLast (Some VoidExpr)) }) ∷ []);
    groups = (((record { next = true; operand = (VarExpr (id (codes "s1"))); into = (Some (Local 0)); block = 3 })
        ∷ (record { next = false; operand = (CallExpr (id (codes "delay")) (MoreExprs (IntExpr (pos 10)) NoExprs)); into = None; block = 4 }) ∷ [])
        ∷ ((record { next = true; operand = (VarExpr (id (codes "s1"))); into = (Some (Local 2)); block = 9 }) ∷ []) ∷ []);
  }) ∷ []);
}

lost_ping_times_out_by_classes : ClassTrace lost_ping_times_out_classes lost_ping_times_out_world lost_ping_times_out_lines
unfolding lost_ping_times_out_classes lost_ping_times_out_world lost_ping_times_out_lines state_after
lost_ping_times_out_by_classes = class_trace 20 400 lost_ping_times_out_classes lost_ping_times_out_world lost_ping_times_out_lines refl

-- packets whose drawn delays turn their order round
unfoldable pub packets_out_of_order_program : ProgramTree
packets_out_of_order_program = record {
  decls = ((ActorDecl (record {
    at = nowhere;
    returns = VoidType;
    name = (id (codes "main"));
    params = ((record { ty = IntType; name = (id (codes "p")) }) ∷ []);
    body = (IfStmt nowhere (BinaryExpr Eq (VarExpr (id (codes "p"))) (IntExpr (pos 0)))
        (CallStmt nowhere ((id (codes "sendTo")) ∷ []) (MoreExprs (IntExpr (pos 1)) (MoreExprs (IntExpr (pos 7)) (MoreExprs (TextExpr (codes "a")) NoExprs)))
        (CallStmt nowhere ((id (codes "sendTo")) ∷ []) (MoreExprs (IntExpr (pos 1)) (MoreExprs (IntExpr (pos 7)) (MoreExprs (TextExpr (codes "b")) NoExprs)))
        (CallStmt nowhere ((id (codes "sendTo")) ∷ []) (MoreExprs (IntExpr (pos 1)) (MoreExprs (IntExpr (pos 7)) (MoreExprs (TextExpr (codes "c")) NoExprs))) (ReturnStmt nowhere (Some VoidExpr) End))))
        (DeclareStmt nowhere (record { state = true; ty = (FutureStreamType (NamedType (codes "Packet"))); name = (id (codes "in")) })
        (Some (CallExpr (id (codes "listen")) (MoreExprs (IntExpr (pos 7)) NoExprs)))
        (DeclareStmt nowhere (record { state = true; ty = IntType; name = (id (codes "i")) }) (Some (IntExpr (pos 0)))
        (ForStmt nowhere (AssignStmt nowhere ((id (codes "i")) ∷ []) (IntExpr (pos 0)) End) (Some (BinaryExpr Lt (VarExpr (id (codes "i"))) (IntExpr (pos 3))))
        (ModifyStmt nowhere ((id (codes "i")) ∷ []) UpChange End) (WaitStmt nowhere
        (record { into = (Some (record { state = false; ty = (NamedType (codes "Packet")); name = (id (codes "k")) })); next = true; operand = (VarExpr (id (codes "in"))) })
        (CallStmt nowhere ((id (codes "trace")) ∷ []) (MoreExprs (FieldExpr (VarExpr (id (codes "k"))) (id (codes "text"))) NoExprs) End)) (ReturnStmt nowhere (Some VoidExpr) End)))));
    close = nowhere;
  })) ∷ []);
  end = nowhere;
}

unfoldable pub packets_out_of_order_world : World
packets_out_of_order_world = record { seed = 0; words = (0 ∷ 2 ∷ 0 ∷ 1 ∷ 0 ∷ 0 ∷ []); processes = 2; events = 1000; turns = 100000; latency = (1, 4); loss = 0; diskdelay = (1, 2); script = [] }

packets_out_of_order_lines : List Line
packets_out_of_order_lines =
    line.Head
    ∷ (line.Boot 1 0 (process 0))
    ∷ (line.Start (actor 1) (codes "main"))
    ∷ (line.Send 1 (process 1) 7 (codes "a"))
    ∷ (line.Send 2 (process 1) 7 (codes "b"))
    ∷ (line.Send 3 (process 1) 7 (codes "c"))
    ∷ (line.Finish (actor 1))
    ∷ (line.Boot 2 0 (process 1))
    ∷ (line.Start (actor 1) (codes "main"))
    ∷ (line.Wait (actor 1) 1)
    ∷ (line.Arrival 3 1 (process 1) 3)
    ∷ (line.Take (actor 1) 1 0)
    ∷ (line.PrintText (actor 1) (codes "c"))
    ∷ (line.Wait (actor 1) 1)
    ∷ (line.Arrival 4 2 (process 1) 2)
    ∷ (line.Take (actor 1) 1 0)
    ∷ (line.PrintText (actor 1) (codes "b"))
    ∷ (line.Wait (actor 1) 1)
    ∷ (line.Arrival 5 3 (process 1) 1)
    ∷ (line.Take (actor 1) 1 0)
    ∷ (line.PrintText (actor 1) (codes "a"))
    ∷ (line.Finish (actor 1))
    ∷ line.EndIdle ∷ []

packets_out_of_order : SourceTrace packets_out_of_order_program packets_out_of_order_world packets_out_of_order_lines
unfolding packets_out_of_order_program packets_out_of_order_world packets_out_of_order_lines
packets_out_of_order = source_trace 20 400 packets_out_of_order_program packets_out_of_order_world packets_out_of_order_lines refl

unfoldable pub packets_out_of_order_classes : RawTree
packets_out_of_order_classes = record {
  records = [];
  functions = [];
  classes = ((record {
    name = (codes "main");
    returns = VoidType;
    params = 1;
    slots = ((record { ty = IntType; name = (codes "p") }) ∷ (record { ty = (FutureStreamType (NamedType (codes "Packet"))); name = (codes "in") }) ∷ (record { ty = IntType; name = (codes "i") })
        ∷ []);
    locals = ((NamedType (codes "Packet")) ∷ []);
    blocks = ((record { catcher = None; body = []; last = (TestLast (BinaryExpr Eq (VarExpr (id (codes "s0"))) (IntExpr (pos 0))) 1 2) })
        ∷ (record {
          catcher = None;
          body = ((ActInstr ((id (codes "sendTo")) ∷ []) (MoreExprs (IntExpr (pos 1)) (MoreExprs (IntExpr (pos 7)) (MoreExprs (TextExpr (codes "a")) NoExprs))))
              ∷ (ActInstr ((id (codes "sendTo")) ∷ []) (MoreExprs (IntExpr (pos 1)) (MoreExprs (IntExpr (pos 7)) (MoreExprs (TextExpr (codes "b")) NoExprs))))
              ∷ (ActInstr ((id (codes "sendTo")) ∷ []) (MoreExprs (IntExpr (pos 1)) (MoreExprs (IntExpr (pos 7)) (MoreExprs (TextExpr (codes "c")) NoExprs)))) ∷ []);
          last = (ReturnLast (Some VoidExpr));
        })
        ∷ (record {
          catcher = None;
          body = ((EffectInstr ((id (codes "s1")) ∷ []) (CallExpr (id (codes "listen")) (MoreExprs (IntExpr (pos 7)) NoExprs)))
              ∷ (SetInstr ((id (codes "s2")) ∷ []) (IntExpr (pos 0))) ∷ (SetInstr ((id (codes "s2")) ∷ []) (IntExpr (pos 0))) ∷ []);
          last = (PassLast 3);
        })
        ∷ (record { catcher = None; body = []; last = (TestLast (BinaryExpr Lt (VarExpr (id (codes "s2"))) (IntExpr (pos 3))) 4 6) }) ∷ (record { catcher = None; body = []; last = (ChooseLast 1) })
        ∷ (record {
          catcher = None;
          body = ((ActInstr ((id (codes "trace")) ∷ []) (MoreExprs (FieldExpr (VarExpr (id (codes "l0"))) (id (codes "text"))) NoExprs)) ∷ (DropInstr (0 ∷ []))
              ∷ (SetInstr ((id (codes "s2")) ∷ []) (BinaryExpr Add (VarExpr (id (codes "s2"))) (IntExpr (pos 1)))) ∷ []);
          last = (PassLast 3);
        })
        ∷ (record { catcher = None; body = []; last = (ReturnLast (Some VoidExpr)) }) ∷ []);
    groups = (((record { next = true; operand = (VarExpr (id (codes "s1"))); into = (Some (Local 0)); block = 5 }) ∷ []) ∷ []);
  }) ∷ []);
}

packets_out_of_order_by_classes : ClassTrace packets_out_of_order_classes packets_out_of_order_world packets_out_of_order_lines
unfolding packets_out_of_order_classes packets_out_of_order_world packets_out_of_order_lines
packets_out_of_order_by_classes = class_trace 20 400 packets_out_of_order_classes packets_out_of_order_world packets_out_of_order_lines refl

-- a packet to a port that nobody listens to
unfoldable pub packet_discarded_program : ProgramTree
packet_discarded_program = record {
  decls = ((ActorDecl (record {
    at = nowhere;
    returns = VoidType;
    name = (id (codes "main"));
    params = ((record { ty = IntType; name = (id (codes "p")) }) ∷ []);
    body = (CallStmt nowhere ((id (codes "sendTo")) ∷ []) (MoreExprs (IntExpr (pos 0)) (MoreExprs (IntExpr (pos 7)) (MoreExprs (TextExpr (codes "x")) NoExprs))) (ReturnStmt nowhere (Some VoidExpr) End));
    close = nowhere;
  })) ∷ []);
  end = nowhere;
}

unfoldable pub packet_discarded_world : World
packet_discarded_world = record { seed = 0; words = []; processes = 1; events = 1000; turns = 100000; latency = (1, 2); loss = 0; diskdelay = (1, 2); script = [] }

packet_discarded_lines : List Line
packet_discarded_lines =
    line.Head
    ∷ (line.Boot 1 0 (process 0))
    ∷ (line.Start (actor 1) (codes "main"))
    ∷ (line.Send 1 (process 0) 7 (codes "x"))
    ∷ (line.Finish (actor 1))
    ∷ (line.Arrival 2 1 (process 0) 1)
    ∷ (line.Discard 1)
    ∷ line.EndIdle ∷ []

packet_discarded : SourceTrace packet_discarded_program packet_discarded_world packet_discarded_lines
unfolding packet_discarded_program packet_discarded_world packet_discarded_lines state_after
packet_discarded = source_trace 20 400 packet_discarded_program packet_discarded_world packet_discarded_lines refl

-- a disk request that the script makes fail
unfoldable pub disk_request_fails_program : ProgramTree
disk_request_fails_program = record {
  decls = ((ActorDecl (record {
    at = nowhere;
    returns = VoidType;
    name = (id (codes "main"));
    params = ((record { ty = IntType; name = (id (codes "p")) }) ∷ []);
    body = (TryStmt nowhere (WaitStmt nowhere (record {
      into = None;
      next = false;
      operand = (CallExpr (id (codes "writeFile")) (MoreExprs (TextExpr (codes "f")) (MoreExprs (IntExpr (pos 0)) (MoreExprs (TextExpr (codes "a")) NoExprs))));
    }) End) nowhere (id (codes "e"))
        (CallStmt nowhere ((id (codes "trace")) ∷ []) (MoreExprs (MethodExpr (VarExpr (id (codes "e"))) (ByName (id (codes "code"))) NoExprs) NoExprs) End) (ReturnStmt nowhere (Some VoidExpr) End));
    close = nowhere;
  }))
      ∷ []);
  end = nowhere;
}

unfoldable pub disk_request_fails_world : World
disk_request_fails_world = record { seed = 0; words = []; processes = 1; events = 1000; turns = 100000; latency = (1, 2); loss = 0; diskdelay = (1, 2); script = ((0, (order.DiskFail 0 1)) ∷ []) }

disk_request_fails_lines : List Line
disk_request_fails_lines =
    line.Head
    ∷ (line.DiskFail 1 0 (process 0) 1)
    ∷ (line.Boot 2 0 (process 0))
    ∷ (line.Start (actor 1) (codes "main"))
    ∷ (line.Wait (actor 1) 1)
    ∷ (line.Write 3 1 (process 0) (cell 2) false)
    ∷ (line.Take (actor 1) 1 0)
    ∷ (line.Throw (actor 1) (error 9008))
    ∷ (line.Catch (actor 1) (error 9008))
    ∷ (line.PrintInt (actor 1) (pos 9008))
    ∷ (line.Finish (actor 1))
    ∷ line.EndIdle ∷ []

disk_request_fails : SourceTrace disk_request_fails_program disk_request_fails_world disk_request_fails_lines
unfolding disk_request_fails_program disk_request_fails_world disk_request_fails_lines state_after
disk_request_fails = source_trace 20 400 disk_request_fails_program disk_request_fails_world disk_request_fails_lines refl

-- a write that was not synced and that a loss of power kept
unfoldable pub disk_after_power_loss_program : ProgramTree
disk_after_power_loss_program = record {
  decls = ((ActorDecl (record {
    at = nowhere;
    returns = VoidType;
    name = (id (codes "main"));
    params = ((record { ty = IntType; name = (id (codes "p")) }) ∷ []);
    body = (WaitStmt nowhere (record {
      into = (Some (record { state = false; ty = StringType; name = (id (codes "old")) }));
      next = false;
      operand = (CallExpr (id (codes "readFile")) (MoreExprs (TextExpr (codes "f")) (MoreExprs (IntExpr (pos 0)) (MoreExprs (IntExpr (pos 10)) NoExprs))));
    })
        (CallStmt nowhere ((id (codes "trace")) ∷ []) (MoreExprs (VarExpr (id (codes "old"))) NoExprs)
        (WaitStmt nowhere (record {
          into = None;
          next = false;
          operand = (CallExpr (id (codes "writeFile"))
              (MoreExprs (TextExpr (codes "f")) (MoreExprs (IntExpr (pos 0)) (MoreExprs (TextExpr (codes "ab")) NoExprs))));
        })
        (WaitStmt nowhere (record {
          into = None;
          next = false;
          operand = (CallExpr (id (codes "writeFile"))
              (MoreExprs (TextExpr (codes "f")) (MoreExprs (IntExpr (pos 2)) (MoreExprs (TextExpr (codes "cd")) NoExprs))));
        })
        (WaitStmt nowhere (record { into = None; next = false; operand = (CallExpr (id (codes "syncFile")) (MoreExprs (TextExpr (codes "f")) NoExprs)) })
        (WaitStmt nowhere (record {
          into = None;
          next = false;
          operand = (CallExpr (id (codes "writeFile"))
              (MoreExprs (TextExpr (codes "f")) (MoreExprs (IntExpr (pos 4)) (MoreExprs (TextExpr (codes "ef")) NoExprs))));
        })
        (WaitStmt nowhere (record { into = None; next = false; operand = (CallExpr (id (codes "Never")) NoExprs) }) (ReturnStmt nowhere (Some VoidExpr) End))))))));
    close = nowhere;
  })) ∷ []);
  end = nowhere;
}

unfoldable pub disk_after_power_loss_world : World
disk_after_power_loss_world = record {
  seed = 0;
  words = (0 ∷ 0 ∷ 0 ∷ 0 ∷ 0 ∷ 0 ∷ []);
  processes = 1;
  events = 9;
  turns = 100000;
  latency = (1, 2);
  loss = 0;
  diskdelay = (1, 2);
  script = ((10, (order.Kill 0)) ∷ (10, (order.Boot 0)) ∷ []);
}

disk_after_power_loss_lines : List Line
disk_after_power_loss_lines =
    line.Head
    ∷ (line.Boot 1 0 (process 0))
    ∷ (line.Start (actor 1) (codes "main"))
    ∷ (line.Wait (actor 1) 1)
    ∷ (line.Read 2 1 (process 0) (cell 2) (Some []))
    ∷ (line.Take (actor 1) 1 0)
    ∷ (line.PrintText (actor 1) [])
    ∷ (line.Wait (actor 1) 2)
    ∷ (line.Write 3 2 (process 0) (cell 3) true)
    ∷ (line.Take (actor 1) 2 0)
    ∷ (line.Wait (actor 1) 3)
    ∷ (line.Write 4 3 (process 0) (cell 4) true)
    ∷ (line.Take (actor 1) 3 0)
    ∷ (line.Wait (actor 1) 4)
    ∷ (line.Sync 5 4 (process 0) (cell 5) true)
    ∷ (line.Take (actor 1) 4 0)
    ∷ (line.Wait (actor 1) 5)
    ∷ (line.Write 6 5 (process 0) (cell 6) true)
    ∷ (line.Take (actor 1) 5 0)
    ∷ (line.Wait (actor 1) 6)
    ∷ (line.Kill 7 10 (process 0))
    ∷ (line.Kept (codes "f") 4 2 2)
    ∷ (line.Boot 8 10 (process 0))
    ∷ (line.Start (actor 2) (codes "main"))
    ∷ (line.Wait (actor 2) 1)
    ∷ (line.Read 9 11 (process 0) (cell 9) (Some (codes "abcdef")))
    ∷ (line.Take (actor 2) 1 0)
    ∷ (line.PrintText (actor 2) (codes "abcdef"))
    ∷ (line.Wait (actor 2) 2)
    ∷ line.EndBound ∷ []

disk_after_power_loss : SourceTrace disk_after_power_loss_program disk_after_power_loss_world disk_after_power_loss_lines
unfolding disk_after_power_loss_program disk_after_power_loss_world disk_after_power_loss_lines state_after
disk_after_power_loss = source_trace 20 400 disk_after_power_loss_program disk_after_power_loss_world disk_after_power_loss_lines refl

unfoldable pub disk_after_power_loss_classes : RawTree
disk_after_power_loss_classes = record {
  records = [];
  functions = [];
  classes = ((record {
    name = (codes "main");
    returns = VoidType;
    params = 1;
    slots = ((record { ty = IntType; name = (codes "p") }) ∷ []);
    locals = (StringType ∷ []);
    blocks = ((record { catcher = None; body = []; last = (ChooseLast 1) })
        ∷ (record { catcher = None; body = ((ActInstr ((id (codes "trace")) ∷ []) (MoreExprs (VarExpr (id (codes "l0"))) NoExprs)) ∷ []); last = (ChooseLast 2) })
        ∷ (record { catcher = None; body = []; last = (ChooseLast 3) }) ∷ (record { catcher = None; body = []; last = (ChooseLast 4) }) ∷ (record { catcher = None; body = []; last = (ChooseLast 5) })
        ∷ (record { catcher = None; body = []; last = (ChooseLast 6) }) ∷ (record { catcher = None; body = []; last = (ReturnLast (Some VoidExpr)) }) ∷ []);
    groups = (((record {
      next = false;
      operand = (CallExpr (id (codes "readFile")) (MoreExprs (TextExpr (codes "f")) (MoreExprs (IntExpr (pos 0)) (MoreExprs (IntExpr (pos 10)) NoExprs))));
      into = (Some (Local 0));
      block = 1;
    }) ∷ []) ∷ ((record {
      next = false;
      operand = (CallExpr (id (codes "writeFile")) (MoreExprs (TextExpr (codes "f")) (MoreExprs (IntExpr (pos 0)) (MoreExprs (TextExpr (codes "ab")) NoExprs))));
      into = None;
      block = 2;
    }) ∷ [])
        ∷ ((record {
          next = false;
          operand = (CallExpr (id (codes "writeFile")) (MoreExprs (TextExpr (codes "f")) (MoreExprs (IntExpr (pos 2)) (MoreExprs (TextExpr (codes "cd")) NoExprs))));
          into = None;
          block = 3;
        }) ∷ []) ∷ ((record { next = false; operand = (CallExpr (id (codes "syncFile")) (MoreExprs (TextExpr (codes "f")) NoExprs)); into = None; block = 4 }) ∷ [])
        ∷ ((record {
          next = false;
          operand = (CallExpr (id (codes "writeFile")) (MoreExprs (TextExpr (codes "f")) (MoreExprs (IntExpr (pos 4)) (MoreExprs (TextExpr (codes "ef")) NoExprs))));
          into = None;
          block = 5;
        }) ∷ []) ∷ ((record { next = false; operand = (CallExpr (id (codes "Never")) NoExprs); into = None; block = 6 }) ∷ []) ∷ []);
  }) ∷ []);
}

disk_after_power_loss_by_classes : ClassTrace disk_after_power_loss_classes disk_after_power_loss_world disk_after_power_loss_lines
unfolding disk_after_power_loss_classes disk_after_power_loss_world disk_after_power_loss_lines state_after
disk_after_power_loss_by_classes = class_trace 20 400 disk_after_power_loss_classes disk_after_power_loss_world disk_after_power_loss_lines refl

-- the same write, cut to its first byte
unfoldable pub disk_after_power_loss_cut_program : ProgramTree
disk_after_power_loss_cut_program = record {
  decls = ((ActorDecl (record {
    at = nowhere;
    returns = VoidType;
    name = (id (codes "main"));
    params = ((record { ty = IntType; name = (id (codes "p")) }) ∷ []);
    body = (WaitStmt nowhere (record {
      into = (Some (record { state = false; ty = StringType; name = (id (codes "old")) }));
      next = false;
      operand = (CallExpr (id (codes "readFile")) (MoreExprs (TextExpr (codes "f")) (MoreExprs (IntExpr (pos 0)) (MoreExprs (IntExpr (pos 10)) NoExprs))));
    })
        (CallStmt nowhere ((id (codes "trace")) ∷ []) (MoreExprs (VarExpr (id (codes "old"))) NoExprs)
        (WaitStmt nowhere (record {
          into = None;
          next = false;
          operand = (CallExpr (id (codes "writeFile"))
              (MoreExprs (TextExpr (codes "f")) (MoreExprs (IntExpr (pos 0)) (MoreExprs (TextExpr (codes "ab")) NoExprs))));
        })
        (WaitStmt nowhere (record {
          into = None;
          next = false;
          operand = (CallExpr (id (codes "writeFile"))
              (MoreExprs (TextExpr (codes "f")) (MoreExprs (IntExpr (pos 2)) (MoreExprs (TextExpr (codes "cd")) NoExprs))));
        })
        (WaitStmt nowhere (record { into = None; next = false; operand = (CallExpr (id (codes "syncFile")) (MoreExprs (TextExpr (codes "f")) NoExprs)) })
        (WaitStmt nowhere (record {
          into = None;
          next = false;
          operand = (CallExpr (id (codes "writeFile"))
              (MoreExprs (TextExpr (codes "f")) (MoreExprs (IntExpr (pos 4)) (MoreExprs (TextExpr (codes "ef")) NoExprs))));
        })
        (WaitStmt nowhere (record { into = None; next = false; operand = (CallExpr (id (codes "Never")) NoExprs) }) (ReturnStmt nowhere (Some VoidExpr) End))))))));
    close = nowhere;
  })) ∷ []);
  end = nowhere;
}

unfoldable pub disk_after_power_loss_cut_world : World
disk_after_power_loss_cut_world = record {
  seed = 0;
  words = (0 ∷ 0 ∷ 0 ∷ 0 ∷ 0 ∷ 2 ∷ 1 ∷ []);
  processes = 1;
  events = 9;
  turns = 100000;
  latency = (1, 2);
  loss = 0;
  diskdelay = (1, 2);
  script = ((10, (order.Kill 0)) ∷ (10, (order.Boot 0)) ∷ []);
}

disk_after_power_loss_cut_lines : List Line
disk_after_power_loss_cut_lines =
    line.Head
    ∷ (line.Boot 1 0 (process 0))
    ∷ (line.Start (actor 1) (codes "main"))
    ∷ (line.Wait (actor 1) 1)
    ∷ (line.Read 2 1 (process 0) (cell 2) (Some []))
    ∷ (line.Take (actor 1) 1 0)
    ∷ (line.PrintText (actor 1) [])
    ∷ (line.Wait (actor 1) 2)
    ∷ (line.Write 3 2 (process 0) (cell 3) true)
    ∷ (line.Take (actor 1) 2 0)
    ∷ (line.Wait (actor 1) 3)
    ∷ (line.Write 4 3 (process 0) (cell 4) true)
    ∷ (line.Take (actor 1) 3 0)
    ∷ (line.Wait (actor 1) 4)
    ∷ (line.Sync 5 4 (process 0) (cell 5) true)
    ∷ (line.Take (actor 1) 4 0)
    ∷ (line.Wait (actor 1) 5)
    ∷ (line.Write 6 5 (process 0) (cell 6) true)
    ∷ (line.Take (actor 1) 5 0)
    ∷ (line.Wait (actor 1) 6)
    ∷ (line.Kill 7 10 (process 0))
    ∷ (line.Kept (codes "f") 4 2 1)
    ∷ (line.Boot 8 10 (process 0))
    ∷ (line.Start (actor 2) (codes "main"))
    ∷ (line.Wait (actor 2) 1)
    ∷ (line.Read 9 11 (process 0) (cell 9) (Some (codes "abcde")))
    ∷ (line.Take (actor 2) 1 0)
    ∷ (line.PrintText (actor 2) (codes "abcde"))
    ∷ (line.Wait (actor 2) 2)
    ∷ line.EndBound ∷ []

disk_after_power_loss_cut : SourceTrace disk_after_power_loss_cut_program disk_after_power_loss_cut_world disk_after_power_loss_cut_lines
unfolding disk_after_power_loss_cut_program disk_after_power_loss_cut_world disk_after_power_loss_cut_lines state_after
disk_after_power_loss_cut = source_trace 20 400 disk_after_power_loss_cut_program disk_after_power_loss_cut_world disk_after_power_loss_cut_lines refl

-- numbers drawn from the generator
unfoldable pub drawn_words_program : ProgramTree
drawn_words_program = record {
  decls = ((ActorDecl (record {
    at = nowhere;
    returns = VoidType;
    name = (id (codes "main"));
    params = ((record { ty = IntType; name = (id (codes "p")) }) ∷ []);
    body = (DeclareStmt nowhere (record { state = false; ty = IntType; name = (id (codes "x")) })
        (Some (CallExpr (id (codes "randomInt")) (MoreExprs (IntExpr (pos 0)) (MoreExprs (IntExpr (pos 10)) NoExprs))))
        (CallStmt nowhere ((id (codes "trace")) ∷ []) (MoreExprs (VarExpr (id (codes "x"))) NoExprs)
        (DeclareStmt nowhere (record { state = false; ty = IntType; name = (id (codes "y")) })
        (Some (CallExpr (id (codes "randomInt")) (MoreExprs (IntExpr (pos 0)) (MoreExprs (IntExpr (pos 10)) NoExprs))))
        (CallStmt nowhere ((id (codes "trace")) ∷ []) (MoreExprs (VarExpr (id (codes "y"))) NoExprs) (ReturnStmt nowhere (Some VoidExpr) End)))));
    close = nowhere;
  })) ∷ []);
  end = nowhere;
}

unfoldable pub drawn_words_world : World
drawn_words_world = record { seed = 42; words = []; processes = 1; events = 1000; turns = 100000; latency = (1, 2); loss = 0; diskdelay = (1, 2); script = [] }

drawn_words_lines : List Line
drawn_words_lines =
    line.Head
    ∷ (line.Boot 1 0 (process 0))
    ∷ (line.Start (actor 1) (codes "main"))
    ∷ (line.PrintInt (actor 1) (pos 3))
    ∷ (line.PrintInt (actor 1) (pos 7))
    ∷ (line.Finish (actor 1))
    ∷ line.EndIdle ∷ []

drawn_words : SourceTrace drawn_words_program drawn_words_world drawn_words_lines
unfolding drawn_words_program drawn_words_world drawn_words_lines state_after
drawn_words = source_trace 20 400 drawn_words_program drawn_words_world drawn_words_lines refl
