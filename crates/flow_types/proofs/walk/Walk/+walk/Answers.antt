use Rattle.std.proofs.Common.{true, Ok, Err, refl, sym, ap, ◌∙◌}
use Rattle.std.specs.Option.{option_map}
use Rattle.std.proofs.lemmas.Result.{err_from_is_err_and}
use Rattle.flow_tree.specs.declared.stmt.Stmt.{out-Stmt}
use Rattle.flow_tree.specs.declared.stmt.When.{out-When}
use Rattle.flow_tree.specs.View.{expr_of}
use Rattle.flow_tree.specs.StmtView.{into_of, waiting_of, stmt_of, body_of, branches_of, simple_of, else_of}
use Rattle.flow_tree.specs.Body.{BlockStmt, WhileStmt, ForStmt, LoopStmt, TryStmt, ChooseStmt, DeclareStmt, AssignStmt, WaitStmt}
use Rattle.flow_types.specs.View.{found_of}
use Rattle.flow_types.specs.MapView.{bound}
use Rattle.flow_types.specs.SettingView.{setting_view}
use Rattle.flow_types.specs.WalkView.{env_of, texts_of}
use Rattle.flow_types.proofs.Walking.{vars_cut}
use Rattle.flow_types.proofs.Fails.{if_or, grows_started, scoped_closed}
use Rattle.flow_types.proofs.Ends.{scoped_ok, body_step, body_ok, branches_step, branches_ok, handler_err, handler_ok, when_body, when_ok}
use Rattle.flow_types.proofs.Exits.{block_leads, if_then, if_last, loop_leads, while_item, while_last, loop_last, for_init, for_item, for_step_err, for_body_err, for_ok, try_body, try_item, try_last, choose_item, choose_last, declare_item, wait_item, assign_is}
use Rattle.flow_types.proofs.StmtKinds.{stmt_block, stmt_while, stmt_loop, stmt_try, stmt_choose, stmt_declare, stmt_assign, stmt_wait, stmt_if, stmt_for, answer_as, branch_answer}
use Rattle.flow_types.proofs.Parts.{declare_fresh, wait_fresh, says_at, leads_at, handled_at, body_at, else_some, part_is, branches_at, declare_last, wait_last}
use Rattle.flow_types.proofs.walk.Walk.+walk.Goals as goal
use Rattle.flow_rules.proofs.Lesser.{no_item}

pub body-loop-stmt-preserved : goal.body-loop-stmt-preserved
body-loop-stmt-preserved h c =
    let a = c.args.around in
    body_step c.args.body.now c.loop-stmt.stmt-index c.stmt-item.result (env_of c.args.self.now a) (env_of c.loop-stmt.self a) (env_of c.stmt.new.self a) (body_of c.args.body.now) c.in_ok-stmt.field-0
    c.loop-stmt-test.true c.stmt-item.is c.loop-stmt.invariant c.in_ok-stmt.ensures.answer

pub body-returns : goal.body-returns
body-returns h c =
    let a = c.args.around in
    record { answer = body_ok c.args.body.now c.loop-stmt.stmt-index (env_of c.args.self.now a) (env_of c.loop-stmt.self a) (body_of c.args.body.now) _ c.loop-stmt-test.false c.loop-stmt.invariant }

pub branch-waited-requires : goal.branch-waited-requires
branch-waited-requires h c =
    let w = out-When c.args.branch.now in
    wait_fresh (setting_view c.args.self.now.setting) (texts_of c.args.self.now.states) (waiting_of w.waiting) (sym c.waiting.ensures ∙ no_item w.at c.waiting.result c.in_ok-item.ensures)

pub branch-returns-in_err-body : goal.branch-returns-in_err-body
branch-returns-in_err-body h c =
    let a = c.args.around in
    let e = env_of c.args.self.now a in
    let w = out-When c.args.branch.now in
    let mid = env_of c.waited.new.self a in
    let inner = env_of c.body.new.self a in
    let x = c.in_err-body.field-0.0 in
    let p = err_from_is_err_and c.from_residual-in_err-body.result c.from_residual-in_err-body.ensures.1 in
    record {
      answer = rw (p.1, p.2) (branch_answer e inner c.args.branch.now (Err x)
          (when_body e mid inner inner w.at (waiting_of w.waiting) (body_of w.body.items) x c.in_ok-item.field-0
          (says_at w.at _ _ (Ok c.in_ok-item.field-0) c.waiting.ensures c.in_ok-item.ensures) (c.in_ok-waited.ensures.waited a)
          (body_at mid inner w.body.items c.deref.result.now (Err x) c.deref.ensures.value c.in_err-body.ensures.answer)));
    }

pub branch-returns : goal.branch-returns
branch-returns h c =
    let a = c.args.around in
    let e = env_of c.args.self.now a in
    let w = out-When c.args.branch.now in
    let mid = env_of c.waited.new.self a in
    let inner = env_of c.body.new.self a in
    let new = env_of (record c.body.new.self { setting = record c.body.new.self.setting { vars = c.truncate.new.self } }) a in
    let u = c.in_ok-body.field-0 in
    record {
      answer = branch_answer e new c.args.branch.now (Ok u)
          (when_ok e mid inner new w.at (waiting_of w.waiting) (body_of w.body.items) u c.in_ok-item.field-0
          (says_at w.at _ _ (Ok c.in_ok-item.field-0) c.waiting.ensures c.in_ok-item.ensures) (c.in_ok-waited.ensures.waited a)
          (body_at mid inner w.body.items c.deref.result.now (Ok u) c.deref.ensures.value c.in_ok-body.ensures.answer)
          (vars_cut (bound found_of) c.args.self.now.setting.vars.entries c.body.new.self.setting.vars.entries c.truncate.new.self.entries c.len-count.result c.len-count.ensures.len
          c.truncate.ensures.entries)
          refl refl refl refl);
    }

pub branches-loop-branch-preserved : goal.branches-loop-branch-preserved
branches-loop-branch-preserved h c =
    let a = c.args.around in
    branches_step c.args.branches.now c.loop-branch.branch-index c.branch-item.result (env_of c.args.self.now a) (env_of c.loop-branch.self a) (env_of c.branch-self.new.self a)
    (branches_of c.args.branches.now) c.in_ok-branch.field-0
    c.loop-branch-test.true c.branch-item.is c.loop-branch.invariant c.in_ok-branch.ensures.answer

pub branches-returns : goal.branches-returns
branches-returns h c =
    let a = c.args.around in
    record {
      leads = branches_ok c.args.branches.now c.loop-branch.branch-index (env_of c.args.self.now a) (env_of c.loop-branch.self a)
          (branches_of c.args.branches.now) _ c.loop-branch-test.false c.loop-branch.invariant;
    }

pub handler-returns-in_err-body : goal.handler-returns-in_err-body
handler-returns-in_err-body h c =
    let a = c.args.around in
    let old = c.args.self.now in
    let e = env_of old a in
    let mid = env_of c.declare.new.self c.in_catch.result in
    let inner = env_of c.body.new.self c.in_catch.result in
    let is = ap (env_of c.declare.new.self) c.in_catch.ensures ∙ c.in_ok-declare.ensures.declared (record a { caught = true }) in
    let x = c.in_err-body.field-0.0 in
    let p = err_from_is_err_and c.from_residual-in_err-body.result c.from_residual-in_err-body.ensures.1 in
    record { leads = rw (p.1, p.2) (handler_err e mid inner (env_of c.body.new.self a) c.args.error.now (body_of c.args.handler.now) x is c.in_err-body.ensures.answer) }

pub handler-returns : goal.handler-returns
handler-returns h c =
    let a = c.args.around in
    let old = c.args.self.now in
    let e = env_of old a in
    let mid = env_of c.declare.new.self c.in_catch.result in
    let inner = env_of c.body.new.self c.in_catch.result in
    let is = ap (env_of c.declare.new.self) c.in_catch.ensures ∙ c.in_ok-declare.ensures.declared (record a { caught = true }) in
    let new = env_of (record c.body.new.self { setting = record c.body.new.self.setting { vars = c.truncate.new.self } }) a in
    record {
      leads = handler_ok e mid inner new c.args.error.now (body_of c.args.handler.now) c.in_ok-body.field-0 is c.in_ok-body.ensures.answer
          (vars_cut (bound found_of) old.setting.vars.entries c.body.new.self.setting.vars.entries c.truncate.new.self.entries c.len-count.result c.len-count.ensures.len c.truncate.ensures.entries)
          refl refl refl refl;
    }

pub otherwise-returns-in-Some : goal.otherwise-returns-in-Some
otherwise-returns-in-Some h c =
    let a = c.args.around in
    record {
      leads = else_some (env_of c.args.self.now a) (env_of c.scoped.new.self a) c.args.body.now c.in-Some.body c.deref.result.now c.scoped.result c.in-Some.is c.deref.ensures.value
          c.scoped.ensures.leads;
    }

pub part-returns-in-Some : goal.part-returns-in-Some
part-returns-in-Some h c =
    let a = c.args.around in
    record { answer = part_is (env_of c.args.self.now a) (env_of c.stmt.new.self a) c.args.part.now c.in-Some.stmt c.deref.result.now c.stmt.result c.in-Some.is c.deref.ensures c.stmt.ensures.answer }

pub scoped-returns : goal.scoped-returns
scoped-returns h c =
    let a = c.args.around in
    let old = c.args.self.now in
    let new = env_of (record c.body.new.self { setting = record c.body.new.self.setting { vars = c.truncate.new.self } }) a in
    record {
      leads = scoped_ok (env_of old a) (env_of c.body.new.self a) new (body_of c.args.body.now) c.in_ok-body.field-0 c.in_ok-body.ensures.answer
          (vars_cut (bound found_of) old.setting.vars.entries c.body.new.self.setting.vars.entries c.truncate.new.self.entries c.len-count.result c.len-count.ensures.len c.truncate.ensures.entries)
          refl refl refl refl;
    }

pub stmt-returns-in_err-item-in-For : goal.stmt-returns-in_err-item-in-For
stmt-returns-in_err-item-in-For h c =
    let a = c.args.around in
    let s = c.args.stmt.now in
    let at = (out-Stmt s).at in
    let e = env_of c.args.self.now a in
    let i = simple_of c.in-For.init in
    let t = option_map expr_of c.in-For.test in
    let n = simple_of c.in-For.step in
    let b = body_of c.in-For.body.items in
    let kind = stmt_for s c.in-For.init c.in-For.test c.in-For.step c.in-For.body c.in-For.is in
    let mid = env_of c.part.new.self a in
    let u = c.in_ok-part-in-For.field-0 in
    let x = c.in_err-item-in-For.field-0.0 in
    let p = err_from_is_err_and c.from_residual-in_err-item-in-For.result c.from_residual-in_err-item-in-For.ensures.1 in
    record {
      answer = rw (p.1, p.2) (answer_as e mid (stmt_of s) (ForStmt at i t n b) (Err x) kind
          (for_item e mid at i t n b x mid u c.in_ok-part-in-For.ensures.answer (says_at at _ _ (Err x) c.maybe_test.ensures c.in_err-item-in-For.ensures)));
    }

pub stmt-returns-in_err-part-in-For-2 : goal.stmt-returns-in_err-part-in-For-2
stmt-returns-in_err-part-in-For-2 h c =
    let a = c.args.around in
    let s = c.args.stmt.now in
    let at = (out-Stmt s).at in
    let e = env_of c.args.self.now a in
    let i = simple_of c.in-For.init in
    let t = option_map expr_of c.in-For.test in
    let n = simple_of c.in-For.step in
    let b = body_of c.in-For.body.items in
    let kind = stmt_for s c.in-For.init c.in-For.test c.in-For.step c.in-For.body c.in-For.is in
    let mid = env_of c.part.new.self a in
    let u = c.in_ok-part-in-For.field-0 in
    let test = says_at at _ _ (Ok c.in_ok-item-in-For.field-0) c.maybe_test.ensures c.in_ok-item-in-For.ensures in
    let last = env_of c.part-in-For.new.self a in
    let x = c.in_err-part-in-For-2.field-0.0 in
    let p = err_from_is_err_and c.from_residual-in_err-part-in-For-2.result c.from_residual-in_err-part-in-For-2.ensures.1 in
    record {
      answer = rw (p.1, p.2) (answer_as e last (stmt_of s) (ForStmt at i t n b) (Err x) kind
          (for_step_err e last at i t n b x mid last u c.in_ok-item-in-For.field-0 c.in_ok-part-in-For.ensures.answer test c.in_err-part-in-For-2.ensures.answer));
    }

pub stmt-returns-in_err-scoped-in-For : goal.stmt-returns-in_err-scoped-in-For
stmt-returns-in_err-scoped-in-For h c =
    let a = c.args.around in
    let s = c.args.stmt.now in
    let at = (out-Stmt s).at in
    let e = env_of c.args.self.now a in
    let i = simple_of c.in-For.init in
    let t = option_map expr_of c.in-For.test in
    let n = simple_of c.in-For.step in
    let b = body_of c.in-For.body.items in
    let kind = stmt_for s c.in-For.init c.in-For.test c.in-For.step c.in-For.body c.in-For.is in
    let mid = env_of c.part.new.self a in
    let u = c.in_ok-part-in-For.field-0 in
    let test = says_at at _ _ (Ok c.in_ok-item-in-For.field-0) c.maybe_test.ensures c.in_ok-item-in-For.ensures in
    let last = env_of c.part-in-For.new.self a in
    let cut_walk = record c.part-in-For.new.self { setting = record c.part-in-For.new.self.setting { vars = c.truncate.new.self } } in
    let cut = env_of cut_walk a in
    let q = c.in_ok-part-in-For-2.ensures.answer in
    let step_vars = vars_cut (bound found_of) c.part.new.self.setting.vars.entries c.part-in-For.new.self.setting.vars.entries c.truncate.new.self.entries c.len-started.result
    c.len-started.ensures.len c.truncate.ensures.entries in
    let behind_step = scoped_closed mid last cut n (grows_started mid last n q.1 q.2) step_vars refl refl refl refl in
    let done = env_of c.scoped-in-For.new.self a in
    let x = c.in_err-scoped-in-For.field-0.0 in
    let p = err_from_is_err_and c.from_residual-in_err-scoped-in-For.result c.from_residual-in_err-scoped-in-For.ensures.1 in
    record {
      answer = rw (p.1, p.2) (answer_as e done (stmt_of s) (ForStmt at i t n b) (Err x) kind
          (for_body_err e done at i t n b x mid cut done u c.in_ok-item-in-For.field-0 c.in_ok-part-in-For.ensures.answer test q.0 behind_step
          (loop_leads cut (env_of cut_walk c.in_loop-in-For.result) done (env_of c.scoped-in-For.new.self c.in_loop-in-For.result) b (Err x)
          (ap (env_of cut_walk) c.in_loop-in-For.ensures) (ap (env_of c.scoped-in-For.new.self) c.in_loop-in-For.ensures) refl
          (leads_at (env_of cut_walk c.in_loop-in-For.result) (env_of c.scoped-in-For.new.self c.in_loop-in-For.result) c.in-For.body.items c.deref-in-For.result.now
          (Err x) c.deref-in-For.ensures.value c.in_err-scoped-in-For.ensures.leads))));
    }

pub stmt-returns-in_err-item-in-Try : goal.stmt-returns-in_err-item-in-Try
stmt-returns-in_err-item-in-Try h c =
    let a = c.args.around in
    let s = c.args.stmt.now in
    let at = (out-Stmt s).at in
    let e = env_of c.args.self.now a in
    let b = body_of c.in-Try.body.items in
    let k = body_of c.in-Try.handler.items in
    let kind = stmt_try s c.in-Try.body c.in-Try.catch_at c.in-Try.error c.in-Try.handler c.in-Try.is in
    let mid = env_of c.scoped-in-Try.new.self a in
    let u = c.in_ok-scoped-in-Try.field-0 in
    let leads = leads_at e mid c.in-Try.body.items c.deref-in-Try.result.now (Ok u) c.deref-in-Try.ensures.value c.in_ok-scoped-in-Try.ensures.leads in
    let x = c.in_err-item-in-Try.field-0.0 in
    let p = err_from_is_err_and c.from_residual-in_err-item-in-Try.result c.from_residual-in_err-item-in-Try.ensures.1 in
    record {
      answer = rw (p.1, p.2) (answer_as e mid (stmt_of s) (TryStmt at b c.in-Try.catch_at c.in-Try.error k) (Err x) kind
          (try_item e mid at b c.in-Try.catch_at c.in-Try.error k mid u x leads (says_at c.in-Try.catch_at _ _ (Err x) c.fresh.ensures c.in_err-item-in-Try.ensures)));
    }

pub stmt-declared-requires : goal.stmt-declared-requires
stmt-declared-requires h c =
    let at = (out-Stmt c.args.stmt.now).at in
    declare_fresh (setting_view c.args.self.now.setting) (texts_of c.args.self.now.states) (into_of c.in-Declare.into) (option_map expr_of c.in-Declare.value)
    (sym c.declaration.ensures ∙ no_item at c.declaration.result c.in_ok-item-in-Declare.ensures)

pub stmt-waited-requires : goal.stmt-waited-requires
stmt-waited-requires h c =
    let at = (out-Stmt c.args.stmt.now).at in
    wait_fresh (setting_view c.args.self.now.setting) (texts_of c.args.self.now.states) (waiting_of c.in-Wait.waiting)
    (sym c.waiting.ensures ∙ no_item at c.waiting.result c.in_ok-item-in-Wait.ensures)

pub stmt-returns-in-Block : goal.stmt-returns-in-Block
stmt-returns-in-Block h c =
    let a = c.args.around in
    let s = c.args.stmt.now in
    let at = (out-Stmt s).at in
    let e = env_of c.args.self.now a in
    let new = env_of c.scoped.new.self a in
    let b = body_of c.in-Block.body.items in
    record {
      answer = answer_as e new (stmt_of s) (BlockStmt at b) c.scoped.result (stmt_block s c.in-Block.body c.in-Block.is)
          (block_leads e new at b c.scoped.result (leads_at e new c.in-Block.body.items c.deref.result.now c.scoped.result c.deref.ensures.value c.scoped.ensures.leads));
    }

pub stmt-returns-in_ok-scoped-in-If : goal.stmt-returns-in_ok-scoped-in-If
stmt-returns-in_ok-scoped-in-If h c =
    let a = c.args.around in
    let s = c.args.stmt.now in
    let at = (out-Stmt s).at in
    let e = env_of c.args.self.now a in
    let mid = env_of c.scoped-in-If.new.self a in
    let new = env_of c.otherwise.new.self a in
    let t = expr_of c.in-If.test in
    let b = body_of c.in-If.then.items in
    let o = else_of c.in-If.otherwise in
    let u = c.in_ok-item-in-If.field-0 in
    let v = c.in_ok-scoped-in-If.field-0 in
    record {
      answer = answer_as e new (stmt_of s) (if_or at t b o) c.otherwise.result (stmt_if s c.in-If.test c.in-If.then c.in-If.otherwise c.in-If.is)
          (if_last e new at t b o mid u v c.otherwise.result (says_at at _ _ (Ok u) c.test.ensures c.in_ok-item-in-If.ensures)
          (leads_at e mid c.in-If.then.items c.deref-in-If.result.now (Ok v) c.deref-in-If.ensures.value c.in_ok-scoped-in-If.ensures.leads) c.otherwise.ensures.leads);
    }

pub stmt-returns-in_ok-item-in-While : goal.stmt-returns-in_ok-item-in-While
stmt-returns-in_ok-item-in-While h c =
    let a = c.args.around in
    let s = c.args.stmt.now in
    let at = (out-Stmt s).at in
    let e = env_of c.args.self.now a in
    let new = env_of c.scoped-in-While.new.self a in
    let t = expr_of c.in-While.test in
    let b = body_of c.in-While.body.items in
    let u = c.in_ok-item-in-While.field-0 in
    let r = c.scoped-in-While.result in
    let inner = env_of c.args.self.now c.in_loop.result in
    let last = env_of c.scoped-in-While.new.self c.in_loop.result in
    record {
      answer = answer_as e new (stmt_of s) (WhileStmt at t b) r (stmt_while s c.in-While.test c.in-While.body c.in-While.is)
          (while_last e new at t b u r (says_at at _ _ (Ok u) c.test-in-While.ensures c.in_ok-item-in-While.ensures)
          (loop_leads e inner new last b r (ap (env_of c.args.self.now) c.in_loop.ensures) (ap (env_of c.scoped-in-While.new.self) c.in_loop.ensures) refl
          (leads_at inner last c.in-While.body.items c.deref-in-While.result.now r c.deref-in-While.ensures.value c.scoped-in-While.ensures.leads)));
    }

pub stmt-returns-in_ok-scoped-in-For : goal.stmt-returns-in_ok-scoped-in-For
stmt-returns-in_ok-scoped-in-For h c =
    let a = c.args.around in
    let s = c.args.stmt.now in
    let at = (out-Stmt s).at in
    let e = env_of c.args.self.now a in
    let i = simple_of c.in-For.init in
    let t = option_map expr_of c.in-For.test in
    let n = simple_of c.in-For.step in
    let b = body_of c.in-For.body.items in
    let kind = stmt_for s c.in-For.init c.in-For.test c.in-For.step c.in-For.body c.in-For.is in
    let mid = env_of c.part.new.self a in
    let u = c.in_ok-part-in-For.field-0 in
    let test = says_at at _ _ (Ok c.in_ok-item-in-For.field-0) c.maybe_test.ensures c.in_ok-item-in-For.ensures in
    let last = env_of c.part-in-For.new.self a in
    let cut_walk = record c.part-in-For.new.self { setting = record c.part-in-For.new.self.setting { vars = c.truncate.new.self } } in
    let cut = env_of cut_walk a in
    let q = c.in_ok-part-in-For-2.ensures.answer in
    let step_vars = vars_cut (bound found_of) c.part.new.self.setting.vars.entries c.part-in-For.new.self.setting.vars.entries c.truncate.new.self.entries c.len-started.result
    c.len-started.ensures.len c.truncate.ensures.entries in
    let behind_step = scoped_closed mid last cut n (grows_started mid last n q.1 q.2) step_vars refl refl refl refl in
    let done = env_of c.scoped-in-For.new.self a in
    let z = c.in_ok-scoped-in-For.field-0 in
    let new = env_of (record c.scoped-in-For.new.self { setting = record c.scoped-in-For.new.self.setting { vars = c.truncate-in-For.new.self } }) a in
    let first = c.in_ok-part-in-For.ensures.answer in
    let body = (loop_leads cut (env_of cut_walk c.in_loop-in-For.result) done (env_of c.scoped-in-For.new.self c.in_loop-in-For.result) b (Ok z)
    (ap (env_of cut_walk) c.in_loop-in-For.ensures) (ap (env_of c.scoped-in-For.new.self) c.in_loop-in-For.ensures) refl
    (leads_at (env_of cut_walk c.in_loop-in-For.result) (env_of c.scoped-in-For.new.self c.in_loop-in-For.result) c.in-For.body.items c.deref-in-For.result.now
    (Ok z) c.deref-in-For.ensures.value c.in_ok-scoped-in-For.ensures.leads)) in
    record {
      answer = answer_as e new (stmt_of s) (ForStmt at i t n b) (Ok z) kind
          (for_ok e mid last cut done new at i t n b u c.in_ok-item-in-For.field-0 c.in_ok-part-in-For-2.field-0 z z first test q body
          record {
            init = first.1;
            init_states = first.2;
            step = q.1;
            step_states = q.2;
            step_vars = step_vars;
            kept_states = refl;
            kept = refl;
            kept_looped = refl;
            kept_caught = refl;
            body = body.1;
            body_vars = vars_cut (bound found_of) c.args.self.now.setting.vars.entries c.scoped-in-For.new.self.setting.vars.entries c.truncate-in-For.new.self.entries c.len-count.result
                c.len-count.ensures.len c.truncate-in-For.ensures.entries;
            new_states = refl;
            new_kept = refl;
            new_looped = refl;
            new_caught = refl;
          });
    }

pub stmt-returns-in-Loop : goal.stmt-returns-in-Loop
stmt-returns-in-Loop h c =
    let a = c.args.around in
    let s = c.args.stmt.now in
    let at = (out-Stmt s).at in
    let e = env_of c.args.self.now a in
    let new = env_of c.scoped-in-Loop.new.self a in
    let b = body_of c.in-Loop.body.items in
    let r = c.scoped-in-Loop.result in
    let inner = env_of c.args.self.now c.in_loop-in-Loop.result in
    let last = env_of c.scoped-in-Loop.new.self c.in_loop-in-Loop.result in
    record {
      answer = answer_as e new (stmt_of s) (LoopStmt at b) r (stmt_loop s c.in-Loop.body c.in-Loop.is)
          (loop_last e new at b r
          (loop_leads e inner new last b r (ap (env_of c.args.self.now) c.in_loop-in-Loop.ensures) (ap (env_of c.scoped-in-Loop.new.self) c.in_loop-in-Loop.ensures) refl
          (leads_at inner last c.in-Loop.body.items c.deref-in-Loop.result.now r c.deref-in-Loop.ensures.value c.scoped-in-Loop.ensures.leads)));
    }

pub stmt-returns-in_ok-item-in-Try : goal.stmt-returns-in_ok-item-in-Try
stmt-returns-in_ok-item-in-Try h c =
    let a = c.args.around in
    let s = c.args.stmt.now in
    let at = (out-Stmt s).at in
    let e = env_of c.args.self.now a in
    let b = body_of c.in-Try.body.items in
    let k = body_of c.in-Try.handler.items in
    let kind = stmt_try s c.in-Try.body c.in-Try.catch_at c.in-Try.error c.in-Try.handler c.in-Try.is in
    let mid = env_of c.scoped-in-Try.new.self a in
    let u = c.in_ok-scoped-in-Try.field-0 in
    let leads = leads_at e mid c.in-Try.body.items c.deref-in-Try.result.now (Ok u) c.deref-in-Try.ensures.value c.in_ok-scoped-in-Try.ensures.leads in
    let new = env_of c.handler.new.self a in
    let v = c.in_ok-item-in-Try.field-0 in
    let r = c.handler.result in
    record {
      answer = answer_as e new (stmt_of s) (TryStmt at b c.in-Try.catch_at c.in-Try.error k) r kind
          (try_last e new at b c.in-Try.catch_at c.in-Try.error k mid u v r leads (says_at c.in-Try.catch_at _ _ (Ok v) c.fresh.ensures c.in_ok-item-in-Try.ensures)
          (handled_at mid _ new c.in-Try.handler.items c.deref-in-Try-2.result.now r c.deref-in-Try-2.ensures.value c.handler.ensures.leads));
    }

pub stmt-returns-in_ok-item-in-Choose : goal.stmt-returns-in_ok-item-in-Choose
stmt-returns-in_ok-item-in-Choose h c =
    let a = c.args.around in
    let s = c.args.stmt.now in
    let at = (out-Stmt s).at in
    let e = env_of c.args.self.now a in
    let new = env_of c.branches.new.self a in
    let u = c.in_ok-item-in-Choose.field-0 in
    let r = c.branches.result in
    record {
      answer = answer_as e new (stmt_of s) (ChooseStmt at (branches_of c.in-Choose.branches.items)) r (stmt_choose s c.in-Choose.branches c.in-Choose.is)
          (choose_last e new at (branches_of c.in-Choose.branches.items) u r (says_at at _ _ (Ok u) c.unless.ensures c.in_ok-item-in-Choose.ensures)
          (branches_at e new c.in-Choose.branches.items c.deref-in-Choose.result.now r c.deref-in-Choose.ensures.value c.branches.ensures.leads));
    }

pub stmt-returns-in_ok-item-in-Declare : goal.stmt-returns-in_ok-item-in-Declare
stmt-returns-in_ok-item-in-Declare h c =
    let a = c.args.around in
    let s = c.args.stmt.now in
    let at = (out-Stmt s).at in
    let e = env_of c.args.self.now a in
    let new = env_of c.declared.new.self a in
    let i = into_of c.in-Declare.into in
    let v = option_map expr_of c.in-Declare.value in
    let u = c.in_ok-item-in-Declare.field-0 in
    record {
      answer = answer_as e new (stmt_of s) (DeclareStmt at i v) c.declared.result (stmt_declare s c.in-Declare.into c.in-Declare.value c.in-Declare.is)
          (declare_last c.args.self.now c.declared.new.self a at i v u c.declared.result (says_at at _ _ (Ok u) c.declaration.ensures c.in_ok-item-in-Declare.ensures) c.declared.ensures.declared
          c.declared.ensures.memory);
    }

pub stmt-returns-in-Assign : goal.stmt-returns-in-Assign
stmt-returns-in-Assign h c =
    let a = c.args.around in
    let s = c.args.stmt.now in
    let at = (out-Stmt s).at in
    let e = env_of c.args.self.now a in
    let r = c.item-in-Assign.result in
    record {
      answer = answer_as e e (stmt_of s) (AssignStmt at c.in-Assign.target.path.items (expr_of c.in-Assign.value)) r (stmt_assign s c.in-Assign.target c.in-Assign.value c.in-Assign.is)
          (assign_is e at r c.in-Assign.target.path.items (expr_of c.in-Assign.value) (says_at at _ _ r c.assignment.ensures c.item-in-Assign.ensures));
    }

pub stmt-returns-in_ok-item-in-Wait : goal.stmt-returns-in_ok-item-in-Wait
stmt-returns-in_ok-item-in-Wait h c =
    let a = c.args.around in
    let s = c.args.stmt.now in
    let at = (out-Stmt s).at in
    let e = env_of c.args.self.now a in
    let new = env_of c.waited.new.self a in
    let w = waiting_of c.in-Wait.waiting in
    let u = c.in_ok-item-in-Wait.field-0 in
    record {
      answer = answer_as e new (stmt_of s) (WaitStmt at w) c.waited.result (stmt_wait s c.in-Wait.waiting c.in-Wait.is)
          (wait_last c.args.self.now c.waited.new.self a at w u c.waited.result (says_at at _ _ (Ok u) c.waiting.ensures c.in_ok-item-in-Wait.ensures) c.waited.ensures.waited c.waited.ensures.memory);
    }

pub stmt-returns-in_err-item-in-While : goal.stmt-returns-in_err-item-in-While
stmt-returns-in_err-item-in-While h c =
    let a = c.args.around in
    let s = c.args.stmt.now in
    let at = (out-Stmt s).at in
    let e = env_of c.args.self.now a in
    let t = expr_of c.in-While.test in
    let b = body_of c.in-While.body.items in
    let x = c.in_err-item-in-While.field-0.0 in
    let p = err_from_is_err_and c.from_residual-in_err-item-in-While.result c.from_residual-in_err-item-in-While.ensures.1 in
    record {
      answer = rw (p.1, p.2) (answer_as e e (stmt_of s) (WhileStmt at t b) (Err x) (stmt_while s c.in-While.test c.in-While.body c.in-While.is)
          (while_item e e at t b x (says_at at _ _ (Err x) c.test-in-While.ensures c.in_err-item-in-While.ensures)));
    }

pub stmt-returns-in_err-item-in-Choose : goal.stmt-returns-in_err-item-in-Choose
stmt-returns-in_err-item-in-Choose h c =
    let a = c.args.around in
    let s = c.args.stmt.now in
    let at = (out-Stmt s).at in
    let e = env_of c.args.self.now a in
    let bs = branches_of c.in-Choose.branches.items in
    let x = c.in_err-item-in-Choose.field-0.0 in
    let p = err_from_is_err_and c.from_residual-in_err-item-in-Choose.result c.from_residual-in_err-item-in-Choose.ensures.1 in
    record {
      answer = rw (p.1, p.2) (answer_as e e (stmt_of s) (ChooseStmt at bs) (Err x) (stmt_choose s c.in-Choose.branches c.in-Choose.is)
          (choose_item e e at bs x (says_at at _ _ (Err x) c.unless.ensures c.in_err-item-in-Choose.ensures)));
    }

pub stmt-returns-in_err-item-in-Declare : goal.stmt-returns-in_err-item-in-Declare
stmt-returns-in_err-item-in-Declare h c =
    let a = c.args.around in
    let s = c.args.stmt.now in
    let at = (out-Stmt s).at in
    let e = env_of c.args.self.now a in
    let i = into_of c.in-Declare.into in
    let v = option_map expr_of c.in-Declare.value in
    let x = c.in_err-item-in-Declare.field-0.0 in
    let p = err_from_is_err_and c.from_residual-in_err-item-in-Declare.result c.from_residual-in_err-item-in-Declare.ensures.1 in
    record {
      answer = rw (p.1, p.2) (answer_as e e (stmt_of s) (DeclareStmt at i v) (Err x) (stmt_declare s c.in-Declare.into c.in-Declare.value c.in-Declare.is)
          (declare_item e e at i v x (says_at at _ _ (Err x) c.declaration.ensures c.in_err-item-in-Declare.ensures)));
    }

pub stmt-returns-in_err-item-in-Wait : goal.stmt-returns-in_err-item-in-Wait
stmt-returns-in_err-item-in-Wait h c =
    let a = c.args.around in
    let s = c.args.stmt.now in
    let at = (out-Stmt s).at in
    let e = env_of c.args.self.now a in
    let w = waiting_of c.in-Wait.waiting in
    let x = c.in_err-item-in-Wait.field-0.0 in
    let p = err_from_is_err_and c.from_residual-in_err-item-in-Wait.result c.from_residual-in_err-item-in-Wait.ensures.1 in
    record {
      answer = rw (p.1, p.2) (answer_as e e (stmt_of s) (WaitStmt at w) (Err x) (stmt_wait s c.in-Wait.waiting c.in-Wait.is)
          (wait_item e e at w x (says_at at _ _ (Err x) c.waiting.ensures c.in_err-item-in-Wait.ensures)));
    }

pub stmt-returns-in_err-scoped-in-If : goal.stmt-returns-in_err-scoped-in-If
stmt-returns-in_err-scoped-in-If h c =
    let a = c.args.around in
    let s = c.args.stmt.now in
    let at = (out-Stmt s).at in
    let e = env_of c.args.self.now a in
    let mid = env_of c.scoped-in-If.new.self a in
    let t = expr_of c.in-If.test in
    let b = body_of c.in-If.then.items in
    let o = else_of c.in-If.otherwise in
    let u = c.in_ok-item-in-If.field-0 in
    let x = c.in_err-scoped-in-If.field-0.0 in
    let p = err_from_is_err_and c.from_residual-in_err-scoped-in-If.result c.from_residual-in_err-scoped-in-If.ensures.1 in
    record {
      answer = rw (p.1, p.2) (answer_as e mid (stmt_of s) (if_or at t b o) (Err x) (stmt_if s c.in-If.test c.in-If.then c.in-If.otherwise c.in-If.is)
          (if_then e mid at t b o mid u x (says_at at _ _ (Ok u) c.test.ensures c.in_ok-item-in-If.ensures)
          (leads_at e mid c.in-If.then.items c.deref-in-If.result.now (Err x) c.deref-in-If.ensures.value c.in_err-scoped-in-If.ensures.leads)));
    }

pub stmt-returns-in_err-scoped-in-Try : goal.stmt-returns-in_err-scoped-in-Try
stmt-returns-in_err-scoped-in-Try h c =
    let a = c.args.around in
    let s = c.args.stmt.now in
    let at = (out-Stmt s).at in
    let e = env_of c.args.self.now a in
    let b = body_of c.in-Try.body.items in
    let k = body_of c.in-Try.handler.items in
    let kind = stmt_try s c.in-Try.body c.in-Try.catch_at c.in-Try.error c.in-Try.handler c.in-Try.is in
    let mid = env_of c.scoped-in-Try.new.self a in
    let x = c.in_err-scoped-in-Try.field-0.0 in
    let p = err_from_is_err_and c.from_residual-in_err-scoped-in-Try.result c.from_residual-in_err-scoped-in-Try.ensures.1 in
    record {
      answer = rw (p.1, p.2) (answer_as e mid (stmt_of s) (TryStmt at b c.in-Try.catch_at c.in-Try.error k) (Err x) kind
          (try_body e mid at b c.in-Try.catch_at c.in-Try.error k mid x
          (leads_at e mid c.in-Try.body.items c.deref-in-Try.result.now (Err x) c.deref-in-Try.ensures.value c.in_err-scoped-in-Try.ensures.leads)));
    }

pub stmt-returns-in_err-part-in-For : goal.stmt-returns-in_err-part-in-For
stmt-returns-in_err-part-in-For h c =
    let a = c.args.around in
    let s = c.args.stmt.now in
    let at = (out-Stmt s).at in
    let e = env_of c.args.self.now a in
    let i = simple_of c.in-For.init in
    let t = option_map expr_of c.in-For.test in
    let n = simple_of c.in-For.step in
    let b = body_of c.in-For.body.items in
    let kind = stmt_for s c.in-For.init c.in-For.test c.in-For.step c.in-For.body c.in-For.is in
    let mid = env_of c.part.new.self a in
    let x = c.in_err-part-in-For.field-0.0 in
    let p = err_from_is_err_and c.from_residual-in_err-part-in-For.result c.from_residual-in_err-part-in-For.ensures.1 in
    record {
      answer = rw (p.1, p.2) (answer_as e mid (stmt_of s) (ForStmt at i t n b) (Err x) kind
          (for_init e mid at i t n b x mid c.in_err-part-in-For.ensures.answer));
    }
