-- More classes that carry their actors: each program turns on one thing that is easy to get wrong.
use Rattle.std.proofs.Common.{[], ◌∷◌, refl, arith}
use Rattle.std.specs.Prelude.{pos, true, false, codes}
use Rattle.std.specs.Fmt.{digits}
use Rattle.std.specs.declared.option.Option.TheVariants.{None, Some}
use Rattle.flow_tree.specs.declared.expr.Op.TheVariants.{Eq, Lt, Gt, Add}
use Rattle.flow_tree.specs.Tree.{ByName, IntType, VoidType, ErrorType, FutureType, IntExpr, TextExpr, BoolExpr, VoidExpr, VarExpr, CallExpr, MethodExpr, BinaryExpr, ParenExpr, NoExprs, MoreExprs}
use Rattle.flow_tree.specs.Body.{PlusChange, End, IfStmt, WhileStmt, ForStmt, LoopStmt, BreakStmt, ContinueStmt, ReturnStmt, ThrowStmt, TryStmt, ChooseStmt, DeclareStmt, AssignStmt, ModifyStmt, CallStmt, WaitStmt, NoBranches, MoreBranches}
use Rattle.flow_tree.specs.Decls.{ActorDecl, ProgramTree}
use Rattle.flow_class.specs.declared.class.Slotted.TheVariants.{Slot, Local}
use Rattle.flow_class.specs.Classes.{RawTree, SetInstr, EffectInstr, ActInstr, DropInstr, GotoLast, PassLast, TestLast, ChooseLast, ReturnLast, ThrowLast}
use Rattle.flow_class.specs.Scopes.{Mark, Var, none, this, extra}
use Rattle.flow_meaning.specs.Carry.{entry, here, jump}
use Rattle.flow_meaning.specs.Shape.{Shape}
use Rattle.flow_meaning.specs.Carries.{CarriesProgram}
use Rattle.flow_meaning_tests.proofs.RowTerms.{nowhere, id, nothing}

-- A `break` out of a try body in a loop: the drops stand in a block that catches nothing.
abbrev break_out_of_try_program : ProgramTree
break_out_of_try_program = record {
  decls = ((ActorDecl (record {
    at = nowhere;
    returns = VoidType;
    name = (id (codes "main"));
    params = ((record { ty = IntType; name = (id (codes "p")) }) ∷ []);
    body = (DeclareStmt nowhere (record { state = true; ty = IntType; name = (id (codes "n")) }) (Some (IntExpr (pos 0)))
        (LoopStmt nowhere (TryStmt nowhere (DeclareStmt nowhere (record { state = false; ty = IntType; name = (id (codes "a")) }) (Some (VarExpr (id (codes "n"))))
        (IfStmt nowhere (BinaryExpr Eq (VarExpr (id (codes "a"))) (IntExpr (pos 2)))
        (DeclareStmt nowhere (record { state = false; ty = IntType; name = (id (codes "b")) }) (Some (VarExpr (id (codes "a")))) (BreakStmt nowhere End))
        (AssignStmt nowhere ((id (codes "n")) ∷ []) (BinaryExpr Add (VarExpr (id (codes "a"))) (IntExpr (pos 1))) (ContinueStmt nowhere End)))) nowhere (id (codes "e"))
        (CallStmt nowhere ((id (codes "trace")) ∷ []) (MoreExprs (MethodExpr (VarExpr (id (codes "e"))) (ByName (id (codes "code"))) NoExprs) NoExprs) End) End) (ReturnStmt nowhere (Some VoidExpr) End)));
    close = nowhere;
  })) ∷ []);
  end = nowhere;
}

abbrev break_out_of_try_classes : RawTree
break_out_of_try_classes = record {
  records = [];
  functions = [];
  classes = ((record {
    name = (codes "main");
    returns = VoidType;
    params = 1;
    slots = ((record { ty = IntType; name = (codes "p") }) ∷ (record { ty = IntType; name = (codes "n") }) ∷ []);
    locals = (IntType ∷ IntType ∷ ErrorType ∷ []);
    blocks = ((record { catcher = None; body = ((SetInstr ((id (codes "s1")) ∷ []) (IntExpr (pos 0))) ∷ []); last = (PassLast 1) })
        ∷ (record { catcher = None; body = []; last = (GotoLast 2) }) ∷
        (record {
          catcher = (Some (record { block = 7; error = (Some 2); drops = (0 ∷ []) }));
          body = ((SetInstr ((id (codes "l0")) ∷ []) (VarExpr (id (codes "s1")))) ∷ []);
          last = (TestLast (BinaryExpr Eq (VarExpr (id (codes "l0"))) (IntExpr (pos 2))) 3 5);
        })
        ∷ (record {
          catcher = (Some (record { block = 7; error = (Some 2); drops = (1 ∷ 0 ∷ []) }));
          body = ((SetInstr ((id (codes "l1")) ∷ []) (VarExpr (id (codes "l0")))) ∷ []);
          last = (GotoLast 4);
        })
        ∷ (record { catcher = None; body = ((DropInstr (1 ∷ [])) ∷ (DropInstr (0 ∷ [])) ∷ []); last = (GotoLast 9) })
        ∷ (record {
          catcher = (Some (record { block = 7; error = (Some 2); drops = (0 ∷ []) }));
          body = ((SetInstr ((id (codes "s1")) ∷ []) (BinaryExpr Add (VarExpr (id (codes "l0"))) (IntExpr (pos 1)))) ∷ []);
          last = (GotoLast 6);
        })
        ∷ (record { catcher = None; body = ((DropInstr (0 ∷ [])) ∷ []); last = (PassLast 1) })
        ∷ (record {
          catcher = None;
          body = ((ActInstr ((id (codes "trace")) ∷ []) (MoreExprs (MethodExpr (VarExpr (id (codes "l2"))) (ByName (id (codes "code"))) NoExprs) NoExprs)) ∷ (DropInstr (2 ∷ [])) ∷ []);
          last = (GotoLast 8);
        }) ∷ (record { catcher = None; body = []; last = (PassLast 1) }) ∷ (record { catcher = None; body = []; last = (ReturnLast (Some VoidExpr)) }) ∷ []);
    groups = [];
  }) ∷ []);
}

break_out_of_try_carried : CarriesProgram break_out_of_try_program break_out_of_try_classes
unfolding digits
break_out_of_try_carried = (
  (
    refl,
    tt,
    Slot 1,
    [],
    ((id (codes "s1")), refl, refl),
    (refl, refl, refl),
    (
      1,
      entry 9,
      (_, here, refl),
      (
        entry 2,
        7,
        2,
        entry 8,
        jump 2 refl here,
        (
          ((0 ∷ []), refl, extra tt none),
          tt,
          Local 0,
          (Var (codes "a") 0 ∷ Mark ∷ Mark ∷ []),
          ((id (codes "l0")), refl, refl),
          (refl, (omega arith, tt), refl),
          (
            ((0 ∷ []), refl, this none),
            3,
            5,
            entry 5,
            refl,
            (
              ((1 ∷ 0 ∷ []), refl, extra ((λ e. absurd (omega (arith, e))), tt) (this none)),
              tt,
              Local 1,
              (Var (codes "b") 1 ∷ Mark ∷ Var (codes "a") 0 ∷ Mark ∷ Mark ∷ []),
              ((id (codes "l1")), refl, refl),
              (refl, (omega arith, (omega arith, tt)), refl),
              ((_, jump 4 refl here, refl, (_, here, refl, jump 9 refl here)), nothing),
            ),
            here,
            (((0 ∷ []), refl, this none), refl, ((_, jump 6 refl here, refl, (_, _, here, (refl, refl), (_, here, refl))), nothing)),
          ),
        ),
        (omega arith, tt),
        (refl, refl, (_, here, refl, jump 8 refl here)),
        (_, _, here, (refl, refl), (_, here, refl)),
      ),
      (refl, refl, nothing),
    ),
  ),
  tt,
)

break_out_of_try_shape : Shape break_out_of_try_program break_out_of_try_classes
break_out_of_try_shape = record { records = refl; functions = refl; classes = (record { name = refl; returns = refl; params = refl; slots = refl; groups = refl }, tt) }

-- A choose in a branch of another one.
abbrev nested_chooses_program : ProgramTree
nested_chooses_program = record {
  decls = ((ActorDecl (record {
    at = nowhere;
    returns = VoidType;
    name = (id (codes "main"));
    params = ((record { ty = IntType; name = (id (codes "p")) }) ∷ []);
    body = (DeclareStmt nowhere (record { state = true; ty = (FutureType VoidType); name = (id (codes "slow")) }) (Some (CallExpr (id (codes "delay")) (MoreExprs (IntExpr (pos 5)) NoExprs)))
        (ChooseStmt nowhere (MoreBranches nowhere (record { into = None; next = false; operand = (CallExpr (id (codes "delay")) (MoreExprs (IntExpr (pos 1)) NoExprs)) })
        (ChooseStmt nowhere (MoreBranches nowhere (record { into = None; next = false; operand = (VarExpr (id (codes "slow"))) })
        (CallStmt nowhere ((id (codes "trace")) ∷ []) (MoreExprs (TextExpr (codes "slow")) NoExprs) End)
        (MoreBranches nowhere (record { into = None; next = false; operand = (CallExpr (id (codes "delay")) (MoreExprs (IntExpr (pos 2)) NoExprs)) })
        (CallStmt nowhere ((id (codes "trace")) ∷ []) (MoreExprs (TextExpr (codes "inner")) NoExprs) End) NoBranches)) End)
        (MoreBranches nowhere (record { into = None; next = false; operand = (VarExpr (id (codes "slow"))) })
        (CallStmt nowhere ((id (codes "trace")) ∷ []) (MoreExprs (TextExpr (codes "outer")) NoExprs) End) NoBranches)) (ReturnStmt nowhere (Some VoidExpr) End)));
    close = nowhere;
  })) ∷ []);
  end = nowhere;
}

abbrev nested_chooses_classes : RawTree
nested_chooses_classes = record {
  records = [];
  functions = [];
  classes = ((record {
    name = (codes "main");
    returns = VoidType;
    params = 1;
    slots = ((record { ty = IntType; name = (codes "p") }) ∷ (record { ty = (FutureType VoidType); name = (codes "slow") }) ∷ []);
    locals = [];
    blocks = ((record { catcher = None; body = ((EffectInstr ((id (codes "s1")) ∷ []) (CallExpr (id (codes "delay")) (MoreExprs (IntExpr (pos 5)) NoExprs))) ∷ []); last = (ChooseLast 1) })
        ∷ (record { catcher = None; body = []; last = (ChooseLast 2) })
        ∷ (record { catcher = None; body = ((ActInstr ((id (codes "trace")) ∷ []) (MoreExprs (TextExpr (codes "slow")) NoExprs)) ∷ []); last = (GotoLast 4) })
        ∷ (record { catcher = None; body = ((ActInstr ((id (codes "trace")) ∷ []) (MoreExprs (TextExpr (codes "inner")) NoExprs)) ∷ []); last = (GotoLast 4) })
        ∷ (record { catcher = None; body = []; last = (GotoLast 6) }) ∷
        (record { catcher = None; body = ((ActInstr ((id (codes "trace")) ∷ []) (MoreExprs (TextExpr (codes "outer")) NoExprs)) ∷ []); last = (GotoLast 6) })
        ∷ (record { catcher = None; body = []; last = (ReturnLast (Some VoidExpr)) }) ∷ []);
    groups = (((record { next = false; operand = (CallExpr (id (codes "delay")) (MoreExprs (IntExpr (pos 1)) NoExprs)); into = None; block = 1 })
        ∷ (record { next = false; operand = (VarExpr (id (codes "s1"))); into = None; block = 5 }) ∷ [])
        ∷ ((record { next = false; operand = (VarExpr (id (codes "s1"))); into = None; block = 2 })
        ∷ (record { next = false; operand = (CallExpr (id (codes "delay")) (MoreExprs (IntExpr (pos 2)) NoExprs)); into = None; block = 3 }) ∷ []) ∷ []);
  }) ∷ []);
}

nested_chooses_carried : CarriesProgram nested_chooses_program nested_chooses_classes
unfolding digits
nested_chooses_carried = (
  (
    refl,
    tt,
    Slot 1,
    [],
    ((id (codes "s1")), refl, refl),
    (refl, refl, refl),
    (
      ((record { next = false; operand = (CallExpr (id (codes "delay")) (MoreExprs (IntExpr (pos 1)) NoExprs)); into = None; block = 1 })
          ∷ (record { next = false; operand = (VarExpr (id (codes "s1"))); into = None; block = 5 }) ∷ []),
      entry 6,
      refl,
      (refl, refl, refl),
      (
        (Mark ∷ []),
        (refl, refl, refl),
        (
          ((record { next = false; operand = (VarExpr (id (codes "s1"))); into = None; block = 2 })
              ∷ (record { next = false; operand = (CallExpr (id (codes "delay")) (MoreExprs (IntExpr (pos 2)) NoExprs)); into = None; block = 3 }) ∷ []),
          entry 4,
          refl,
          (refl, refl, refl),
          ((Mark ∷ Mark ∷ []), (refl, refl, refl), (refl, refl, jump 4 refl here), ((Mark ∷ Mark ∷ []), (refl, refl, refl), (refl, refl, jump 4 refl here), tt)),
          jump 6 refl here,
        ),
        ((Mark ∷ []), (refl, refl, refl), (refl, refl, jump 6 refl here), tt),
      ),
      (refl, refl, nothing),
    ),
  ),
  tt,
)

nested_chooses_shape : Shape nested_chooses_program nested_chooses_classes
nested_chooses_shape = record { records = refl; functions = refl; classes = (record { name = refl; returns = refl; params = refl; slots = refl; groups = refl }, tt) }

-- A `for` whose step is an effect.
abbrev effect_as_step_program : ProgramTree
effect_as_step_program = record {
  decls = ((ActorDecl (record {
    at = nowhere;
    returns = IntType;
    name = (id (codes "one"));
    params = ((record { ty = IntType; name = (id (codes "v")) }) ∷ []);
    body = (ReturnStmt nowhere (Some (VarExpr (id (codes "v")))) End);
    close = nowhere;
  }))
      ∷ (ActorDecl (record {
        at = nowhere;
        returns = VoidType;
        name = (id (codes "main"));
        params = ((record { ty = IntType; name = (id (codes "p")) }) ∷ []);
        body = (DeclareStmt nowhere (record { state = false; ty = (FutureType IntType); name = (id (codes "f")) }) (Some (CallExpr (id (codes "one")) (MoreExprs (IntExpr (pos 0)) NoExprs)))
            (ForStmt nowhere (DeclareStmt nowhere (record { state = false; ty = IntType; name = (id (codes "i")) }) (Some (IntExpr (pos 0))) End)
            (Some (BinaryExpr Lt (MethodExpr (VarExpr (id (codes "f"))) (ByName (id (codes "get"))) NoExprs) (IntExpr (pos 2))))
            (AssignStmt nowhere ((id (codes "f")) ∷ []) (CallExpr (id (codes "one")) (MoreExprs (VarExpr (id (codes "i"))) NoExprs)) End)
            (ModifyStmt nowhere ((id (codes "i")) ∷ []) (PlusChange (IntExpr (pos 1)))
            (CallStmt nowhere ((id (codes "trace")) ∷ []) (MoreExprs (MethodExpr (VarExpr (id (codes "f"))) (ByName (id (codes "get"))) NoExprs) NoExprs) End)) (ReturnStmt nowhere (Some VoidExpr) End)));
        close = nowhere;
      }))
      ∷ []);
  end = nowhere;
}

abbrev effect_as_step_classes : RawTree
effect_as_step_classes = record {
  records = [];
  functions = [];
  classes = ((record {
    name = (codes "one");
    returns = IntType;
    params = 1;
    slots = ((record { ty = IntType; name = (codes "v") }) ∷ []);
    locals = [];
    blocks = ((record { catcher = None; body = []; last = (ReturnLast (Some (VarExpr (id (codes "s0"))))) }) ∷ []);
    groups = [];
  })
      ∷ (record {
        name = (codes "main");
        returns = VoidType;
        params = 1;
        slots = ((record { ty = IntType; name = (codes "p") }) ∷ []);
        locals = ((FutureType IntType) ∷ IntType ∷ []);
        blocks = ((record {
          catcher = None;
          body = ((EffectInstr ((id (codes "l0")) ∷ []) (CallExpr (id (codes "one")) (MoreExprs (IntExpr (pos 0)) NoExprs)))
              ∷ (SetInstr ((id (codes "l1")) ∷ []) (IntExpr (pos 0))) ∷ []);
          last = (PassLast 1);
        })
            ∷ (record { catcher = None; body = []; last = (TestLast (BinaryExpr Lt (MethodExpr (VarExpr (id (codes "l0"))) (ByName (id (codes "get"))) NoExprs) (IntExpr (pos 2))) 2 3) })
            ∷ (record {
              catcher = None;
              body = ((SetInstr ((id (codes "l1")) ∷ []) (BinaryExpr Add (VarExpr (id (codes "l1"))) (ParenExpr (IntExpr (pos 1)))))
                  ∷ (ActInstr ((id (codes "trace")) ∷ []) (MoreExprs (MethodExpr (VarExpr (id (codes "l0"))) (ByName (id (codes "get"))) NoExprs) NoExprs))
                  ∷ (EffectInstr ((id (codes "l0")) ∷ []) (CallExpr (id (codes "one")) (MoreExprs (VarExpr (id (codes "l1"))) NoExprs))) ∷ []);
              last = (PassLast 1);
            })
            ∷ (record { catcher = None; body = ((DropInstr (1 ∷ [])) ∷ []); last = (GotoLast 4) }) ∷ (record { catcher = None; body = []; last = (ReturnLast (Some VoidExpr)) }) ∷ []);
        groups = [];
      }) ∷ []);
}

effect_as_step_carried : CarriesProgram effect_as_step_program effect_as_step_classes
unfolding digits
effect_as_step_carried = (
  (refl, refl, nothing),
  (
    (
      refl,
      tt,
      Local 0,
      (Var (codes "f") 0 ∷ []),
      ((id (codes "l0")), refl, refl),
      (refl, (omega arith, tt), refl),
      (
        1,
        record { block = 0; instr = 2 },
        entry 4,
        (Var (codes "i") 1 ∷ Mark ∷ Var (codes "f") 0 ∷ []),
        (refl, Local 1, ((id (codes "l1")), refl, refl), (refl, (omega arith, (omega arith, tt)), refl), refl),
        (_, here, refl),
        (refl, 2, 3, refl, (refl, refl, (refl, refl, (_, _, here, (refl, refl, refl, refl), (_, here, refl)))), (_, here, refl, jump 4 refl here)),
        (refl, refl, nothing),
      ),
    ),
    tt,
  ),
)

effect_as_step_shape : Shape effect_as_step_program effect_as_step_classes
effect_as_step_shape = record {
  records = refl;
  functions = refl;
  classes = (
    record { name = refl; returns = refl; params = refl; slots = refl; groups = refl },
    (record { name = refl; returns = refl; params = refl; slots = refl; groups = refl }, tt),
  );
}

-- Statements behind a `break` and behind a `return`, with waits.
abbrev dead_code_program : ProgramTree
dead_code_program = record {
  decls = ((ActorDecl (record {
    at = nowhere;
    returns = VoidType;
    name = (id (codes "main"));
    params = ((record { ty = IntType; name = (id (codes "p")) }) ∷ []);
    body = (WhileStmt nowhere (BoolExpr true) (CallStmt nowhere ((id (codes "trace")) ∷ []) (MoreExprs (TextExpr (codes "once")) NoExprs)
        (BreakStmt nowhere (WaitStmt nowhere (record { into = None; next = false; operand = (CallExpr (id (codes "delay")) (MoreExprs (IntExpr (pos 1)) NoExprs)) }) End)))
        (ReturnStmt nowhere (Some VoidExpr) (WaitStmt nowhere (record { into = None; next = false; operand = (CallExpr (id (codes "delay")) (MoreExprs (IntExpr (pos 2)) NoExprs)) })
        (CallStmt nowhere ((id (codes "trace")) ∷ []) (MoreExprs (TextExpr (codes "never")) NoExprs) End))));
    close = nowhere;
  })) ∷ []);
  end = nowhere;
}

abbrev dead_code_classes : RawTree
dead_code_classes = record {
  records = [];
  functions = [];
  classes = ((record {
    name = (codes "main");
    returns = VoidType;
    params = 1;
    slots = ((record { ty = IntType; name = (codes "p") }) ∷ []);
    locals = [];
    blocks = ((record { catcher = None; body = []; last = (PassLast 1) }) ∷ (record { catcher = None; body = []; last = (TestLast (BoolExpr true) 2 5) })
        ∷ (record { catcher = None; body = ((ActInstr ((id (codes "trace")) ∷ []) (MoreExprs (TextExpr (codes "once")) NoExprs)) ∷ []); last = (GotoLast 5) })
        ∷ (record { catcher = None; body = []; last = (ChooseLast 1) }) ∷ (record { catcher = None; body = []; last = (PassLast 1) })
        ∷ (record { catcher = None; body = []; last = (ReturnLast (Some VoidExpr)) })
        ∷ (record { catcher = None; body = []; last = (ChooseLast 2) })
        ∷ (record {
          catcher = None;
          body = ((ActInstr ((id (codes "trace")) ∷ []) (MoreExprs (TextExpr (codes "never")) NoExprs)) ∷ []);
          last = (ThrowLast (CallExpr (id (codes "operation_cancelled")) NoExprs));
        }) ∷ []);
    groups = (((record { next = false; operand = (CallExpr (id (codes "delay")) (MoreExprs (IntExpr (pos 1)) NoExprs)); into = None; block = 4 }) ∷ [])
        ∷ ((record { next = false; operand = (CallExpr (id (codes "delay")) (MoreExprs (IntExpr (pos 2)) NoExprs)); into = None; block = 7 }) ∷ []) ∷ []);
  }) ∷ []);
}

dead_code_carried : CarriesProgram dead_code_program dead_code_classes
unfolding digits
dead_code_carried = (
  (
    1,
    entry 5,
    (_, here, refl),
    (
      refl,
      2,
      5,
      refl,
      (
        refl,
        refl,
        (
          jump 5 refl here,
          (λ h. (
            entry 3,
            (
              (record { next = false; operand = (CallExpr (id (codes "delay")) (MoreExprs (IntExpr (pos 1)) NoExprs)); into = None; block = 4 }),
              (Mark ∷ []),
              refl,
              tt,
              (refl, refl, refl),
              (refl, refl, refl),
              (_, _, here, (refl, refl), (_, here, refl)),
            ),
          )),
        ),
      ),
      here,
    ),
    (
      refl,
      refl,
      (λ h. (
        entry 6,
        (
          (record { next = false; operand = (CallExpr (id (codes "delay")) (MoreExprs (IntExpr (pos 2)) NoExprs)); into = None; block = 7 }),
          [],
          refl,
          tt,
          (refl, refl, refl),
          (refl, refl, refl),
          (refl, refl, (_, (id (codes "operation_cancelled")), here, refl, refl, refl)),
        ),
      )),
    ),
  ),
  tt,
)

dead_code_shape : Shape dead_code_program dead_code_classes
dead_code_shape = record { records = refl; functions = refl; classes = (record { name = refl; returns = refl; params = refl; slots = refl; groups = refl }, tt) }

-- A catch around a loop with a wait: a local of each block is dropped where the block fails.
abbrev catch_around_loop_program : ProgramTree
catch_around_loop_program = record {
  decls = ((ActorDecl (record {
    at = nowhere;
    returns = VoidType;
    name = (id (codes "main"));
    params = ((record { ty = IntType; name = (id (codes "p")) }) ∷ []);
    body = (DeclareStmt nowhere (record { state = true; ty = IntType; name = (id (codes "n")) }) (Some (IntExpr (pos 0)))
        (TryStmt nowhere (LoopStmt nowhere (DeclareStmt nowhere (record { state = false; ty = IntType; name = (id (codes "before")) }) (Some (VarExpr (id (codes "n"))))
        (AssignStmt nowhere ((id (codes "n")) ∷ []) (BinaryExpr Add (VarExpr (id (codes "before"))) (IntExpr (pos 1)))
        (WaitStmt nowhere (record { into = None; next = false; operand = (CallExpr (id (codes "delay")) (MoreExprs (IntExpr (pos 1)) NoExprs)) })
        (DeclareStmt nowhere (record { state = false; ty = IntType; name = (id (codes "after")) }) (Some (VarExpr (id (codes "n"))))
        (IfStmt nowhere (BinaryExpr Gt (VarExpr (id (codes "after"))) (IntExpr (pos 2))) (ThrowStmt nowhere (Some (CallExpr (id (codes "timed_out")) NoExprs)) End) End))))) End) nowhere
        (id (codes "e"))
        (CallStmt nowhere ((id (codes "trace")) ∷ []) (MoreExprs (MethodExpr (VarExpr (id (codes "e"))) (ByName (id (codes "code"))) NoExprs) NoExprs) End) (ReturnStmt nowhere (Some VoidExpr) End)));
    close = nowhere;
  }))
      ∷ []);
  end = nowhere;
}

abbrev catch_around_loop_classes : RawTree
catch_around_loop_classes = record {
  records = [];
  functions = [];
  classes = ((record {
    name = (codes "main");
    returns = VoidType;
    params = 1;
    slots = ((record { ty = IntType; name = (codes "p") }) ∷ (record { ty = IntType; name = (codes "n") }) ∷ []);
    locals = (IntType ∷ IntType ∷ ErrorType ∷ []);
    blocks = ((record { catcher = None; body = ((SetInstr ((id (codes "s1")) ∷ []) (IntExpr (pos 0))) ∷ []); last = (GotoLast 1) })
        ∷ (record { catcher = None; body = []; last = (PassLast 2) }) ∷
        (record {
          catcher = (Some (record { block = 7; error = (Some 2); drops = (0 ∷ []) }));
          body = ((SetInstr ((id (codes "l0")) ∷ []) (VarExpr (id (codes "s1")))) ∷ (SetInstr ((id (codes "s1")) ∷ []) (BinaryExpr Add (VarExpr (id (codes "l0"))) (IntExpr (pos 1)))) ∷ []);
          last = (ChooseLast 1);
        }) ∷ (record {
          catcher = (Some (record { block = 7; error = (Some 2); drops = (1 ∷ 0 ∷ []) }));
          body = ((SetInstr ((id (codes "l1")) ∷ []) (VarExpr (id (codes "s1")))) ∷ []);
          last = (TestLast (BinaryExpr Gt (VarExpr (id (codes "l1"))) (IntExpr (pos 2))) 4 5);
        })
        ∷ (record { catcher = (Some (record { block = 7; error = (Some 2); drops = (1 ∷ 0 ∷ []) })); body = []; last = (ThrowLast (CallExpr (id (codes "timed_out")) NoExprs)) })
        ∷ (record { catcher = None; body = ((DropInstr (1 ∷ 0 ∷ [])) ∷ []); last = (PassLast 2) }) ∷ (record { catcher = None; body = []; last = (GotoLast 8) })
        ∷ (record {
          catcher = None;
          body = ((ActInstr ((id (codes "trace")) ∷ []) (MoreExprs (MethodExpr (VarExpr (id (codes "l2"))) (ByName (id (codes "code"))) NoExprs) NoExprs)) ∷ (DropInstr (2 ∷ [])) ∷ []);
          last = (GotoLast 8);
        }) ∷ (record { catcher = None; body = []; last = (ReturnLast (Some VoidExpr)) }) ∷ []);
    groups = (((record { next = false; operand = (CallExpr (id (codes "delay")) (MoreExprs (IntExpr (pos 1)) NoExprs)); into = None; block = 3 }) ∷ []) ∷ []);
  }) ∷ []);
}

catch_around_loop_carried : CarriesProgram catch_around_loop_program catch_around_loop_classes
unfolding digits
catch_around_loop_carried = (
  (
    refl,
    tt,
    Slot 1,
    [],
    ((id (codes "s1")), refl, refl),
    (refl, refl, refl),
    (
      entry 1,
      7,
      2,
      entry 8,
      jump 1 refl here,
      (
        2,
        entry 6,
        (_, here, refl),
        (
          ((0 ∷ []), refl, extra tt none),
          tt,
          Local 0,
          (Var (codes "before") 0 ∷ Mark ∷ Mark ∷ []),
          ((id (codes "l0")), refl, refl),
          (refl, (omega arith, tt), refl),
          (
            ((0 ∷ []), refl, this none),
            refl,
            (
              (record { next = false; operand = (CallExpr (id (codes "delay")) (MoreExprs (IntExpr (pos 1)) NoExprs)); into = None; block = 3 }),
              (Var (codes "before") 0 ∷ Mark ∷ Mark ∷ []),
              ((0 ∷ []), refl, this none),
              tt,
              (refl, refl, refl),
              (refl, refl, refl),
              (
                ((1 ∷ 0 ∷ []), refl, extra ((λ e. absurd (omega (arith, e))), tt) (this none)),
                tt,
                Local 1,
                (Var (codes "after") 1 ∷ Var (codes "before") 0 ∷ Mark ∷ Mark ∷ []),
                ((id (codes "l1")), refl, refl),
                (refl, (omega arith, (omega arith, tt)), refl),
                (
                  ((1 ∷ 0 ∷ []), refl, this (this none)),
                  4,
                  5,
                  entry 5,
                  refl,
                  (((1 ∷ 0 ∷ []), refl, this (this none)), refl, nothing),
                  here,
                  (_, here, refl, (_, _, here, (refl, refl), (_, here, refl))),
                ),
              ),
            ),
          ),
        ),
        jump 8 refl here,
      ),
      (omega arith, tt),
      (refl, refl, (_, here, refl, jump 8 refl here)),
      (refl, refl, nothing),
    ),
  ),
  tt,
)

catch_around_loop_shape : Shape catch_around_loop_program catch_around_loop_classes
catch_around_loop_shape = record { records = refl; functions = refl; classes = (record { name = refl; returns = refl; params = refl; slots = refl; groups = refl }, tt) }
