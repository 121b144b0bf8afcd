-- What can be written is derived by some tokens.
use Rattle.std.proofs.Common.{ℕ, Bool, true, false, List, [], ◌∷◌, ◌++◌, Option, Some, None, refl}
use Rattle.std.specs.Prelude.{codes}
use Rattle.std.specs.List.{AllByRecursion}
use Rattle.flow_base.specs.declared.place.Place.{Place}
use Rattle.flow_tree.specs.declared.token.Word.TheVariants as word
use Rattle.flow_tree.specs.declared.token.Sign.TheVariants as sign
use Rattle.flow_tree.specs.GrammarStmt.{OperandRule, wait, wait_next}
use Rattle.flow_class.specs.declared.class.Slotted.{Slotted}
use Rattle.flow_class.specs.declared.class.Slotted.TheVariants.{Local}
use Rattle.flow_class.specs.Classes.{CatcherTree, InstrTree, SetInstr, EffectInstr, NewInstr, ActInstr, DropInstr, LastTree, GotoLast, PassLast, TestLast, ChooseLast, ReturnLast, ThrowLast, BlockTree, CallbackTree}
use Rattle.flow_classprint.specs.declared.version.Version.TheVariants.{Two}
use Rattle.flow_classprint.specs.ClassGrammar as rules
use Rattle.flow_classprint.specs.ClassGrammar.{IsNumber, IsPlace, WholeRule, LocalsRule, MaybeLocalsRule, ErrorRule, CatchRule, AssignRule, InstrRule, InstrsRule, LastRule, BlockRule, IntoRule, CallbackRule}
use Rattle.flow_class_text_laws.proofs.Writable.{Derived, ExprWritable, AreNumbers, InstrWritable, LastWritable, IsMaybeNumber, IsMaybePlace, CatchWritable, BlockWritable, CallbackWritable}
use Rattle.flow_class_text_laws.proofs.Spelled.{sign_spelled, word_spelled, said_spelled, number_spelled, place_spelled, both_are, Said, said_set, said_do, said_new, said_act, said_drop, said_goto, said_pass, said_test, said_block, said_callback, said_into, said_error}

abbrev pub p : Place
p = record { line = 1; column = 1; byte = 0 }

whole : (e : _) → ExprWritable e → Derived (λ ts. WholeRule ts e)
whole e h = record { tokens = h.0.tokens; rule = record { rule = h.0.rule; free = h.1 }; are = h.0.are }

locals_written : (n : ℕ) (ns : List ℕ) → AreNumbers (n ∷ ns) → Derived (λ ts. LocalsRule ts (n ∷ ns))
locals_written n [] h = record { tokens = _; rule = rules.one p h.0; are = ((place_spelled (Local n) h.0, tt), tt) }
locals_written n (m ∷ ms) h =
    let rest = locals_written m ms h.1 in
    record { tokens = _; rule = rules.more p p rest.tokens h.0 rest.rule refl; are = ((place_spelled (Local n) h.0, tt), ((sign_spelled sign.Comma, tt), rest.are)) }

maybe_locals : (ns : List ℕ) → AreNumbers ns → Derived (λ ts. MaybeLocalsRule ts ns)
maybe_locals [] h = record { tokens = []; rule = rules.no_locals; are = tt }
maybe_locals (n ∷ ns) h = let all = locals_written n ns h in record { tokens = all.tokens; rule = rules.locals all.rule; are = all.are }

error_written : (o : Option ℕ) → IsMaybeNumber o → Derived (λ ts. ErrorRule ts o)
error_written None h = record { tokens = []; rule = rules.no_error; are = tt }
error_written (Some n) h = record { tokens = _; rule = rules.error p p h; are = ((said_spelled (codes "error") said_error, tt), ((place_spelled (Local n) h, tt), tt)) }

pub catch_written : (c : Option CatcherTree) → CatchWritable c → Derived (λ ts. CatchRule ts c)
catch_written None h = record { tokens = []; rule = rules.no_catch; are = tt }
catch_written (Some c) h =
    let named = error_written c.error h.1 in
    let of = maybe_locals c.drops h.2 in
    record {
      tokens = _;
      rule = rules.catch p p p p p named.tokens of.tokens h.0 named.rule of.rule refl;
      are = (
        (word_spelled word.Catch, tt),
        (
          (number_spelled c.block h.0, tt),
          both_are named.tokens _ named.are
              ((said_spelled (codes "drop") said_drop, tt), ((sign_spelled sign.OpenRound, tt), both_are of.tokens _ of.are ((sign_spelled sign.CloseRound, tt), tt))),
        ),
      );
    }

assign_written : (w : List ℕ) → Said w → (xs : _) (e : _) → Derived (λ ts. rules.VarPathRule ts xs) → ExprWritable e → Derived (λ ts. AssignRule w ts xs e)
assign_written w s xs e path h =
    let value = whole e h in
    record {
      tokens = _;
      rule = rules.assign p p p path.tokens value.tokens path.rule value.rule refl;
      are = ((said_spelled w s, tt), both_are path.tokens _ path.are ((sign_spelled sign.Assign, tt), both_are value.tokens _ value.are ((sign_spelled sign.Semicolon, tt), tt)));
    }

pub instr_written : (i : InstrTree) → InstrWritable i → Derived (λ ts. InstrRule ts i)
instr_written (SetInstr xs e) h = let a = assign_written (codes "set") said_set xs e h.0 h.1 in record { tokens = a.tokens; rule = rules.set a.rule; are = a.are }
instr_written (EffectInstr xs e) h = let a = assign_written (codes "do") said_do xs e h.0 h.1 in record { tokens = a.tokens; rule = rules.effect a.rule; are = a.are }
instr_written (NewInstr to) h = record {
  tokens = _;
  rule = rules.new to p p p h;
  are = ((said_spelled (codes "new") said_new, tt), ((place_spelled to h, tt), ((sign_spelled sign.Semicolon, tt), tt)));
}
instr_written (ActInstr xs es) h =
    let path = h.0 in
    let args = h.1.0 in
    record {
      tokens = _;
      rule = rules.act p p p p path.tokens args.tokens path.rule args.rule h.1.1 refl;
      are = (
        (said_spelled (codes "act") said_act, tt),
        both_are path.tokens _ path.are
            ((sign_spelled sign.OpenRound, tt), both_are args.tokens _ args.are ((sign_spelled sign.CloseRound, tt), ((sign_spelled sign.Semicolon, tt), tt))),
      );
    }
instr_written (DropInstr []) h = absurd h
instr_written (DropInstr (n ∷ ns)) h =
    let of = locals_written n ns h in
    record {
      tokens = _;
      rule = rules.drop p p of.tokens of.rule refl;
      are = ((said_spelled (codes "drop") said_drop, tt), both_are of.tokens _ of.are ((sign_spelled sign.Semicolon, tt), tt));
    }

pub instrs_written : (is : List InstrTree) → AllByRecursion InstrWritable is → Derived (λ ts. InstrsRule ts is)
instrs_written [] h = record { tokens = []; rule = rules.no_instrs; are = tt }
instrs_written (i ∷ is) h =
    let first = instr_written i h.0 in
    let rest = instrs_written is h.1 in
    record { tokens = first.tokens ++ rest.tokens; rule = rules.more_instrs first.tokens rest.tokens first.rule rest.rule refl; are = both_are first.tokens rest.tokens first.are rest.are }

pub last_written : (l : LastTree) → LastWritable l → Derived (λ ts. LastRule Two ts l)
last_written (GotoLast b) h = record {
  tokens = _;
  rule = rules.goto p p p h;
  are = ((said_spelled (codes "goto") said_goto, tt), ((number_spelled b h, tt), ((sign_spelled sign.Semicolon, tt), tt)));
}
last_written (PassLast b) h = record {
  tokens = _;
  rule = rules.pass p p p h;
  are = ((said_spelled (codes "pass") said_pass, tt), ((number_spelled b h, tt), ((sign_spelled sign.Semicolon, tt), tt)));
}
last_written (TestLast e y n) h =
    let of = whole e h.0 in
    record {
      tokens = _;
      rule = rules.test p p p p p p p p of.tokens of.rule h.1 h.2 refl;
      are = (
        (said_spelled (codes "test") said_test, tt),
        (
          (sign_spelled sign.OpenRound, tt),
          both_are of.tokens _ of.are (
            (sign_spelled sign.CloseRound, tt),
            (
              (said_spelled (codes "goto") said_goto, tt),
              ((number_spelled y h.1, tt), ((word_spelled word.Else, tt), ((number_spelled n h.2, tt), ((sign_spelled sign.Semicolon, tt), tt)))),
            ),
          ),
        ),
      );
    }
last_written (ChooseLast g) h = record {
  tokens = _;
  rule = rules.choose p p p h;
  are = ((word_spelled word.Choose, tt), ((number_spelled g h, tt), ((sign_spelled sign.Semicolon, tt), tt)));
}
last_written (ReturnLast None) h = record {
  tokens = _;
  rule = rules.return p p [] rules.nothing refl;
  are = ((word_spelled word.Return, tt), ((sign_spelled sign.Semicolon, tt), tt));
}
last_written (ReturnLast (Some e)) h =
    let of = whole e h in
    record { tokens = _; rule = rules.return p p of.tokens (rules.something of.rule) refl; are = ((word_spelled word.Return, tt), both_are of.tokens _ of.are ((sign_spelled sign.Semicolon, tt), tt)) }
last_written (ThrowLast e) h =
    let of = whole e h in
    record { tokens = _; rule = rules.throw p p of.tokens of.rule refl; are = ((word_spelled word.Throw, tt), both_are of.tokens _ of.are ((sign_spelled sign.Semicolon, tt), tt)) }

pub block_written : (n : ℕ) → IsNumber n → (b : BlockTree) → BlockWritable b → Derived (λ ts. BlockRule Two n ts b)
block_written n small b h =
    let caught = catch_written b.catcher h.0 in
    let body = instrs_written b.body h.1 in
    let last = last_written b.last h.2 in
    record {
      tokens = _;
      rule = rules.block p p p p caught.tokens body.tokens last.tokens small caught.rule body.rule last.rule refl;
      are = (
        (said_spelled (codes "block") said_block, tt),
        (
          (number_spelled n small, tt),
          both_are caught.tokens _ caught.are (
            (sign_spelled sign.OpenCurly, tt),
            both_are body.tokens _ body.are (both_are last.tokens _ last.are ((sign_spelled sign.CloseCurly, tt), tt)),
          ),
        ),
      );
    }

into_written : (o : Option Slotted) → IsMaybePlace o → Derived (λ ts. IntoRule ts o)
into_written None h = record { tokens = []; rule = rules.nowhere; are = tt }
into_written (Some to) h = record { tokens = _; rule = rules.into p p h; are = ((said_spelled (codes "into") said_into, tt), ((place_spelled to h, tt), tt)) }

operand_written : (next : Bool) (e : _) → ExprWritable e → Derived (λ ts. OperandRule 0 ts next e)
operand_written false e h = record {
  tokens = _;
  rule = wait p p p h.0.tokens h.0.rule refl;
  are = ((word_spelled word.Wait, tt), ((sign_spelled sign.OpenRound, tt), both_are h.0.tokens _ h.0.are ((sign_spelled sign.CloseRound, tt), tt)));
}
operand_written true e h = record {
  tokens = _;
  rule = wait_next p p p h.0.tokens h.0.rule refl;
  are = ((word_spelled word.WaitNext, tt), ((sign_spelled sign.OpenRound, tt), both_are h.0.tokens _ h.0.are ((sign_spelled sign.CloseRound, tt), tt)));
}

pub callback_written : (n : ℕ) → IsNumber n → (c : CallbackTree) → CallbackWritable c → Derived (λ ts. CallbackRule n ts c)
callback_written n small c h =
    let waits = operand_written c.next c.operand h.0 in
    let put = into_written c.into h.1 in
    record {
      tokens = _;
      rule = rules.callback p p p p p waits.tokens put.tokens small h.2 waits.rule h.0.1 put.rule refl;
      are = (
        (said_spelled (codes "callback") said_callback, tt),
        (
          (number_spelled n small, tt),
          both_are waits.tokens _ waits.are (both_are put.tokens _ put.are
              ((said_spelled (codes "goto") said_goto, tt), ((number_spelled c.block h.2, tt), ((sign_spelled sign.Semicolon, tt), tt)))),
        ),
      );
    }
