-- Classes that carry their actors: a caught error, a loop with a wait and state variables, and a choose.
use Rattle.std.proofs.Common.{[], ◌∷◌, refl, arith}
use Rattle.std.specs.Prelude.{pos, true, false, codes}
use Rattle.std.specs.Fmt.{digits}
use Rattle.std.specs.declared.option.Option.TheVariants.{None, Some}
use Rattle.flow_tree.specs.declared.expr.Op.TheVariants.{Add, Mul, Lt}
use Rattle.flow_tree.specs.Tree.{ByName, IntType, VoidType, ErrorType, IntExpr, VoidExpr, VarExpr, CallExpr, MethodExpr, BinaryExpr, NoExprs, MoreExprs}
use Rattle.flow_tree.specs.Body.{End, WhileStmt, ReturnStmt, TryStmt, ChooseStmt, DeclareStmt, AssignStmt, CallStmt, WaitStmt, NoBranches, MoreBranches}
use Rattle.flow_tree.specs.Decls.{ActorDecl, ProgramTree}
use Rattle.flow_class.specs.declared.class.Slotted.TheVariants.{Slot, Local}
use Rattle.flow_class.specs.Classes.{CallbackTree, RawTree, SetInstr, ActInstr, DropInstr, GotoLast, PassLast, TestLast, ChooseLast, ReturnLast}
use Rattle.flow_class.specs.Scopes.{Mark, Var}
use Rattle.flow_class.specs.Scopes.{none, this, extra}
use Rattle.flow_meaning.specs.Carry.{entry, here, jump}
use Rattle.flow_meaning.specs.Shape.{Shape}
use Rattle.flow_meaning.specs.Carries.{CarriesProgram}
use Rattle.flow_meaning_tests.proofs.RowTerms.{nowhere, id, nothing}

abbrev overflow_caught_program : ProgramTree
overflow_caught_program = record {
  decls = ((ActorDecl (record {
    at = nowhere;
    returns = VoidType;
    name = (id (codes "main"));
    params = ((record { ty = IntType; name = (id (codes "p")) }) ∷ []);
    body = (TryStmt nowhere (DeclareStmt nowhere (record { state = false; ty = IntType; name = (id (codes "x")) }) (Some (IntExpr (pos 9223372036854775807)))
        (CallStmt nowhere ((id (codes "trace")) ∷ []) (MoreExprs (BinaryExpr Add (VarExpr (id (codes "x"))) (IntExpr (pos 1))) NoExprs) End)) nowhere (id (codes "e"))
        (CallStmt nowhere ((id (codes "trace")) ∷ []) (MoreExprs (MethodExpr (VarExpr (id (codes "e"))) (ByName (id (codes "code"))) NoExprs) NoExprs) End) (ReturnStmt nowhere (Some VoidExpr) End));
    close = nowhere;
  }))
      ∷ []);
  end = nowhere;
}

abbrev overflow_caught_classes : RawTree
overflow_caught_classes = record {
  records = [];
  functions = [];
  classes = ((record {
    name = (codes "main");
    returns = VoidType;
    params = 1;
    slots = ((record { ty = IntType; name = (codes "p") }) ∷ []);
    locals = (IntType ∷ ErrorType ∷ []);
    blocks = ((record { catcher = None; body = []; last = (GotoLast 1) })
        ∷ (record {
          catcher = (Some (record { block = 2; error = (Some 1); drops = (0 ∷ []) }));
          body = ((SetInstr ((id (codes "l0")) ∷ []) (IntExpr (pos 9223372036854775807)))
              ∷ (ActInstr ((id (codes "trace")) ∷ []) (MoreExprs (BinaryExpr Add (VarExpr (id (codes "l0"))) (IntExpr (pos 1))) NoExprs)) ∷ (DropInstr (0 ∷ [])) ∷ []);
          last = (GotoLast 3);
        })
        ∷ (record {
          catcher = None;
          body = ((ActInstr ((id (codes "trace")) ∷ []) (MoreExprs (MethodExpr (VarExpr (id (codes "l1"))) (ByName (id (codes "code"))) NoExprs) NoExprs)) ∷ (DropInstr (1 ∷ [])) ∷ []);
          last = (GotoLast 3);
        }) ∷ (record { catcher = None; body = []; last = (ReturnLast (Some VoidExpr)) }) ∷ []);
    groups = [];
  }) ∷ []);
}

abbrev state_in_loop_program : ProgramTree
state_in_loop_program = record {
  decls = ((ActorDecl (record {
    at = nowhere;
    returns = VoidType;
    name = (id (codes "main"));
    params = ((record { ty = IntType; name = (id (codes "p")) }) ∷ []);
    body = (DeclareStmt nowhere (record { state = true; ty = IntType; name = (id (codes "n")) }) (Some (IntExpr (pos 0)))
        (WhileStmt nowhere (BinaryExpr Lt (VarExpr (id (codes "n"))) (IntExpr (pos 2)))
        (DeclareStmt nowhere (record { state = true; ty = IntType; name = (id (codes "i")) }) (Some (BinaryExpr Mul (VarExpr (id (codes "n"))) (IntExpr (pos 10))))
        (WaitStmt nowhere (record { into = None; next = false; operand = (CallExpr (id (codes "delay")) (MoreExprs (IntExpr (pos 1)) NoExprs)) })
        (CallStmt nowhere ((id (codes "trace")) ∷ []) (MoreExprs (VarExpr (id (codes "i"))) NoExprs)
        (AssignStmt nowhere ((id (codes "n")) ∷ []) (BinaryExpr Add (VarExpr (id (codes "n"))) (IntExpr (pos 1))) End)))) (ReturnStmt nowhere (Some VoidExpr) End)));
    close = nowhere;
  })) ∷ []);
  end = nowhere;
}

abbrev state_in_loop_classes : RawTree
state_in_loop_classes = record {
  records = [];
  functions = [];
  classes = ((record {
    name = (codes "main");
    returns = VoidType;
    params = 1;
    slots = ((record { ty = IntType; name = (codes "p") }) ∷ (record { ty = IntType; name = (codes "n") })
        ∷ (record { ty = IntType; name = (codes "i") }) ∷ []);
    locals = [];
    blocks = ((record { catcher = None; body = ((SetInstr ((id (codes "s1")) ∷ []) (IntExpr (pos 0))) ∷ []); last = (PassLast 1) })
        ∷ (record { catcher = None; body = []; last = (TestLast (BinaryExpr Lt (VarExpr (id (codes "s1"))) (IntExpr (pos 2))) 2 4) })
        ∷ (record { catcher = None; body = ((SetInstr ((id (codes "s2")) ∷ []) (BinaryExpr Mul (VarExpr (id (codes "s1"))) (IntExpr (pos 10)))) ∷ []); last = (ChooseLast 1) })
        ∷ (record {
          catcher = None;
          body = ((ActInstr ((id (codes "trace")) ∷ []) (MoreExprs (VarExpr (id (codes "s2"))) NoExprs))
              ∷ (SetInstr ((id (codes "s1")) ∷ []) (BinaryExpr Add (VarExpr (id (codes "s1"))) (IntExpr (pos 1)))) ∷ []);
          last = (PassLast 1);
        })
        ∷ (record { catcher = None; body = []; last = (ReturnLast (Some VoidExpr)) }) ∷ []);
    groups = (((record { next = false; operand = (CallExpr (id (codes "delay")) (MoreExprs (IntExpr (pos 1)) NoExprs)); into = None; block = 3 }) ∷ []) ∷ []);
  }) ∷ []);
}

abbrev second_operand_never_starts_program : ProgramTree
second_operand_never_starts_program = record {
  decls = ((ActorDecl
      (record {
        at = nowhere;
        returns = IntType;
        name = (id (codes "one"));
        params = ((record { ty = IntType; name = (id (codes "v")) }) ∷ []);
        body = (ReturnStmt nowhere (Some (VarExpr (id (codes "v")))) End);
        close = nowhere;
      }))
      ∷ (ActorDecl (record {
        at = nowhere;
        returns = VoidType;
        name = (id (codes "main"));
        params = ((record { ty = IntType; name = (id (codes "p")) }) ∷ []);
        body = (ChooseStmt nowhere (MoreBranches nowhere (record {
          into = (Some (record { state = false; ty = IntType; name = (id (codes "x")) }));
          next = false;
          operand = (CallExpr (id (codes "one")) (MoreExprs (IntExpr (pos 7)) NoExprs));
        }) (CallStmt nowhere ((id (codes "trace")) ∷ []) (MoreExprs (VarExpr (id (codes "x"))) NoExprs) End)
            (MoreBranches nowhere (record {
              into = (Some (record { state = false; ty = IntType; name = (id (codes "y")) }));
              next = false;
              operand = (CallExpr (id (codes "one")) (MoreExprs (IntExpr (pos 8)) NoExprs));
            }) (CallStmt nowhere ((id (codes "trace")) ∷ []) (MoreExprs (VarExpr (id (codes "y"))) NoExprs) End) NoBranches))
            (ReturnStmt nowhere (Some VoidExpr) End));
        close = nowhere;
      })) ∷ []);
  end = nowhere;
}

abbrev second_operand_never_starts_classes : RawTree
second_operand_never_starts_classes = record {
  records = [];
  functions = [];
  classes = ((record {
    name = (codes "one");
    returns = IntType;
    params = 1;
    slots = ((record { ty = IntType; name = (codes "v") }) ∷ []);
    locals = [];
    blocks = ((record { catcher = None; body = []; last = (ReturnLast (Some (VarExpr (id (codes "s0"))))) }) ∷ []);
    groups = [];
  })
      ∷ (record {
        name = (codes "main");
        returns = VoidType;
        params = 1;
        slots = ((record { ty = IntType; name = (codes "p") }) ∷ []);
        locals = (IntType ∷ IntType ∷ []);
        blocks = ((record { catcher = None; body = []; last = (ChooseLast 1) })
            ∷ (record { catcher = None; body = ((ActInstr ((id (codes "trace")) ∷ []) (MoreExprs (VarExpr (id (codes "l0"))) NoExprs)) ∷ (DropInstr (0 ∷ [])) ∷ []); last = (GotoLast 3) })
            ∷ (record { catcher = None; body = ((ActInstr ((id (codes "trace")) ∷ []) (MoreExprs (VarExpr (id (codes "l1"))) NoExprs)) ∷ (DropInstr (1 ∷ [])) ∷ []); last = (GotoLast 3) })
            ∷ (record { catcher = None; body = []; last = (ReturnLast (Some VoidExpr)) }) ∷ []);
        groups = (((record { next = false; operand = (CallExpr (id (codes "one")) (MoreExprs (IntExpr (pos 7)) NoExprs)); into = (Some (Local 0)); block = 1 })
            ∷ (record { next = false; operand = (CallExpr (id (codes "one")) (MoreExprs (IntExpr (pos 8)) NoExprs)); into = (Some (Local 1)); block = 2 }) ∷ []) ∷ []);
      }) ∷ []);
}

-- The body of the try stands in block 1, the handler in block 2, and what follows in block 3.
overflow_caught_carried : CarriesProgram overflow_caught_program overflow_caught_classes
unfolding digits
overflow_caught_carried = (
  (
    entry 1,
    2,
    1,
    entry 3,
    jump 1 refl here,
    (
      ((0 ∷ []), refl, extra tt none),
      tt,
      Local 0,
      (Var (codes "x") 0 ∷ Mark ∷ []),
      (id (codes "l0"), refl, refl),
      (refl, (omega arith, tt), refl),
      (((0 ∷ []), refl, this none), refl, (_, here, refl, jump 3 refl here)),
    ),
    (omega arith, tt),
    (refl, refl, (_, here, refl, jump 3 refl here)),
    (refl, refl, nothing),
  ),
  tt,
)

-- The loop's condition stands in block 1, its body in block 2 up to the wait and in block 3 after it, and what follows in
-- block 4.
delayed : CallbackTree
delayed = record { next = false; operand = CallExpr (id (codes "delay")) (MoreExprs (IntExpr (pos 1)) NoExprs); into = None; block = 3 }

state_in_loop_carried : CarriesProgram state_in_loop_program state_in_loop_classes
unfolding digits delayed
state_in_loop_carried = (
  (
    refl,
    tt,
    Slot 1,
    [],
    (id (codes "s1"), refl, refl),
    (refl, refl, refl),
    (
      1,
      entry 4,
      (_, here, refl),
      (
        refl,
        2,
        4,
        refl,
        (
          refl,
          tt,
          Slot 2,
          (Mark ∷ []),
          (id (codes "s2"), refl, refl),
          (refl, refl, refl),
          (
            delayed,
            (Mark ∷ []),
            refl,
            tt,
            (refl, refl, refl),
            (refl, refl, refl),
            (refl, refl, (refl, refl, (_, _, here, (refl, refl), (_, here, refl)))),
          ),
        ),
        here,
      ),
      (refl, refl, nothing),
    ),
  ),
  tt,
)

-- Both branches go on at block 3.
first_case : CallbackTree
first_case = record { next = false; operand = CallExpr (id (codes "one")) (MoreExprs (IntExpr (pos 7)) NoExprs); into = Some (Local 0); block = 1 }

second_case : CallbackTree
second_case = record { next = false; operand = CallExpr (id (codes "one")) (MoreExprs (IntExpr (pos 8)) NoExprs); into = Some (Local 1); block = 2 }

second_operand_never_starts_carried : CarriesProgram second_operand_never_starts_program second_operand_never_starts_classes
unfolding digits first_case second_case
second_operand_never_starts_carried = (
  (refl, refl, nothing),
  (
    (
      (first_case ∷ second_case ∷ []),
      entry 3,
      refl,
      (refl, refl, refl),
      (
        (Var (codes "x") 0 ∷ Mark ∷ []),
        (refl, refl, (refl, (omega arith, tt), refl)),
        (refl, refl, (_, here, refl, jump 3 refl here)),
        ((Var (codes "y") 1 ∷ Mark ∷ []), (refl, refl, (refl, (omega arith, tt), refl)), (refl, refl, (_, here, refl, jump 3 refl here)), tt),
      ),
      (refl, refl, nothing),
    ),
    tt,
  ),
)

-- Each of these classes has the shape of its actor.
overflow_caught_shape : Shape overflow_caught_program overflow_caught_classes
overflow_caught_shape =
    record { records = refl; functions = refl; classes = (record { name = refl; returns = refl; params = refl; slots = refl; groups = refl }, tt) }

state_in_loop_shape : Shape state_in_loop_program state_in_loop_classes
state_in_loop_shape =
    record { records = refl; functions = refl; classes = (record { name = refl; returns = refl; params = refl; slots = refl; groups = refl }, tt) }

second_operand_never_starts_shape : Shape second_operand_never_starts_program second_operand_never_starts_classes
second_operand_never_starts_shape = record {
  records = refl;
  functions = refl;
  classes = (
    record { name = refl; returns = refl; params = refl; slots = refl; groups = refl },
    (record { name = refl; returns = refl; params = refl; slots = refl; groups = refl }, tt),
  );
}
