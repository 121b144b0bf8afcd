-- Instructions of class text, by their first token.
use Rattle.std.proofs.Common.{◌≡◌, ℕ, List, [], ◌∷◌, ◌++◌, refl, sym, ap, ◌∙◌, subst, arith, append_assoc, get_or, if◌then◌else◌, ◌==◌, inl, inr}
use Rattle.std.specs.Prelude.{codes}
use Rattle.std.specs.declared.option.Option.{Option}
use Rattle.std.specs.declared.option.Option.TheVariants.{None, Some}
use Rattle.flow_base.specs.declared.place.Place.{Place}
use Rattle.flow_tree.specs.declared.token.Token.{Token}
use Rattle.flow_tree.specs.declared.token.Token.TheVariants as token
use Rattle.flow_tree.specs.declared.token.Word.TheVariants as word
use Rattle.flow_tree.specs.declared.token.Sign.TheVariants as sign
use Rattle.flow_tree.specs.declared.ty.Ident.{Ident}
use Rattle.flow_tree.specs.GrammarToken.{Marked, opens}
use Rattle.flow_tree.specs.Grammar.{sign_at, word_at}
use Rattle.flow_parse.specs.Reading.{Any}
use Rattle.flow_parse.proofs.Looking.{Looks, Back}
use Rattle.flow_parse.proofs.Begins.{Starts}
use Rattle.flow_parse.proofs.Backs.{Formed}
use Rattle.flow_parse.proofs.Failing.{Inhabited}
use Rattle.flow_parse.proofs.Leaves.{Turns}
use Rattle.flow_tree.specs.Tree.{ExprTree}
use Rattle.flow_class.specs.Classes.{InstrTree, SetInstr, EffectInstr, NewInstr, ActInstr, DropInstr, LastTree, GotoLast, PassLast, TestLast, ChooseLast, ReturnLast, ThrowLast}
use Rattle.flow_classprint.specs.declared.version.Version.{Version}
use Rattle.flow_classprint.specs.ClassGrammar.{said, number_at, place_at, IsNumber, WholeRule, VarPathRule, CalleeRule, LocalsRule, one, AssignRule, assign, InstrRule, set, effect, new, act, drop, ReturnedRule, LastRule, goto, pass, test, choose, return, throw}
use Rattle.flow_classread.specs.Parts.{Behind, Closed, Both, NumberPart, Target, SlottedPart, Ended, Test, Args, Assignment, Act, New, DropLocals, act_tree, ActInstrPart, NewInstrPart, DropInstrPart, Branch, branch_tree, BranchPart, Returned, InstrToken}
use Rattle.flow_exprs.proofs.Goes.{nowhere}
use Rattle.flow_class.specs.declared.class.Slotted.TheVariants.{Local}
use Rattle.flow_classread.proofs.Combine.{some_behind, some_closed, some_both, some_mapped}
use Rattle.flow_classread.proofs.Single.{some_slotted}
use Rattle.flow_classread.proofs.PathForms.{some_path, some_callee}
use Rattle.flow_classread.proofs.Links.{some_ended, some_test, some_closed_args, some_branch_numbers}
use Rattle.flow_classread.proofs.Equal.{then_same, before_same, one_then, regroup, round_then, closed_then, part_then}

-- the last instructions of blocks, by their words
pub data LastKind : Type 0 where
  Goto : LastKind
  Pass : LastKind
  Tests : LastKind
  Choose : LastKind
  Return : LastKind
  Throw : LastKind

abbrev pub last_token : LastKind → Token
last_token Goto = token.Name (codes "goto")
last_token Pass = token.Name (codes "pass")
last_token Tests = token.Name (codes "test")
last_token Choose = token.Word word.Choose
last_token Return = token.Word word.Return
last_token Throw = token.Word word.Throw

-- the kind of a word, by its first two bytes
abbrev last_kind_of : Token → LastKind
last_kind_of (token.Name x) = if get_or x 0 0 == 103 then Goto else if get_or x 0 0 == 112 then Pass else Tests
last_kind_of (token.Word word.Choose) = Choose
last_kind_of (token.Word word.Return) = Return
last_kind_of _ = Throw

last_kind_back : (k : LastKind) → last_kind_of (last_token k) ≡ k
last_kind_back Goto = refl
last_kind_back Pass = refl
last_kind_back Tests = refl
last_kind_back Choose = refl
last_kind_back Return = refl
last_kind_back Throw = refl

abbrev pub last_kind : {v : Version} {w : List Marked} {l : LastTree} → LastRule v w l → LastKind
last_kind (goto p q r h) = Goto
last_kind (pass p q r h) = Pass
last_kind (test p q r s t u v w of h hy hn e) = Tests
last_kind (choose p q r h) = Choose
last_kind (return p q of h e) = Return
last_kind (throw p q of h e) = Throw

last_looks : {v : Version} {w : List Marked} {l : LastTree} (z : List Marked) (t : Token) → (r : LastRule v w l) → Looks (Some t) (w ++ z) → last_token (last_kind r) ≡ t
last_looks z t (goto p q r h) l = l
last_looks z t (pass p q r h) l = l
last_looks z t (test p q r s u v w x of h hy hn e) l = subst (λ k. Looks (Some t) (k ++ z)) e l
last_looks z t (choose p q r h) l = l
last_looks z t (return p q of h e) l = subst (λ k. Looks (Some t) (k ++ z)) e l
last_looks z t (throw p q of h e) l = subst (λ k. Looks (Some t) (k ++ z)) e l

pub last_starts : {v : Version} {w : List Marked} {l : LastTree} → (r : LastRule v w l) → Starts (λ t. t ≡ last_token (last_kind r)) w
last_starts (goto p q r h) = refl
last_starts (pass p q r h) = refl
last_starts (test p q r s u v w x of h hy hn e) = subst (Starts (λ t. t ≡ last_token Tests)) (sym e) refl
last_starts (choose p q r h) = refl
last_starts (return p q of h e) = subst (Starts (λ t. t ≡ last_token Return)) (sym e) refl
last_starts (throw p q of h e) = subst (Starts (λ t. t ≡ last_token Throw)) (sym e) refl

abbrev pub LastForm : Version → LastKind → List Marked → LastTree → Type 0
LastForm v Goto = Formed (Behind (token.Name (codes "goto")) Target) GotoLast
LastForm v Pass = Formed (Behind (token.Name (codes "pass")) Target) PassLast
LastForm v Tests = Formed (Behind (token.Name (codes "test")) BranchPart) (λ x. x)
LastForm v Choose = Formed (Behind (token.Word word.Choose) Target) ChooseLast
LastForm v Return = Formed (Behind (token.Word word.Return) (Returned v)) ReturnLast
LastForm v Throw = Formed (Behind (token.Word word.Throw) Ended) ThrowLast

number_behind : (x : Token) (p q r : Place) (n : ℕ) → IsNumber n → Behind x Target (opens [] x p ∷ number_at n q ∷ sign_at sign.Semicolon r ∷ []) n
number_behind x p q r n h = (p, number_at n q ∷ sign_at sign.Semicolon r ∷ [], (r, number_at n q ∷ [], (q, h, refl), refl), refl)

ended_behind : {A : Type 0} (R : List Marked → A → Type 0) (x : Token) (p q : Place) (of w : List Marked) (a : A) → R of a → w ≡ opens [] x p ∷ (of ++ sign_at sign.Semicolon q ∷ [])
    → Behind x (Closed (token.Sign sign.Semicolon) R) w a
ended_behind R x p q of w a h g = (p, of ++ sign_at sign.Semicolon q ∷ [], (q, of, h, refl), g)

last_form : {v : Version} {w : List Marked} {l : LastTree} → (r : LastRule v w l) → LastForm v (last_kind r) w l
last_form (goto {b} p q r h) = record { tree = b; rule = number_behind (token.Name (codes "goto")) p q r b h; is = refl }
last_form (pass {b} p q r h) = record { tree = b; rule = number_behind (token.Name (codes "pass")) p q r b h; is = refl }
last_form (choose {g} p q r h) = record { tree = g; rule = number_behind (token.Word word.Choose) p q r g h; is = refl }
last_form {v} {w} (return {e} p q of h g) = record { tree = e; rule = ended_behind (ReturnedRule v) (token.Word word.Return) p q of w e h g; is = refl }
last_form {v} {w} (throw {e} p q of h g) = record { tree = e; rule = ended_behind WholeRule (token.Word word.Throw) p q of w e h g; is = refl }
last_form (test {e} {y} {n} p q r s t u v x of h hy hn g) =
    let end = number_at n v ∷ sign_at sign.Semicolon x ∷ [] in
    let other = number_at y t ∷ word_at word.Else u ∷ end in
    let tested = sign_at sign.OpenRound q ∷ (of ++ sign_at sign.CloseRound r ∷ []) in
    record {
      tree = TestLast e y n;
      rule = (
        p,
        sign_at sign.OpenRound q ∷ (of ++ (sign_at sign.CloseRound r ∷ (said (codes "goto") s ∷ other))),
        (
          (e, (y, n)),
          record {
            first = tested;
            rest = said (codes "goto") s ∷ other;
            is = regroup (sign_at sign.OpenRound q) (sign_at sign.CloseRound r) of (said (codes "goto") s ∷ other);
            front = (q, of ++ sign_at sign.CloseRound r ∷ [], (r, of, h, refl), refl);
            back = (
              s,
              other,
              record {
                first = number_at y t ∷ [];
                rest = word_at word.Else u ∷ end;
                is = refl;
                front = (t, hy, refl);
                back = (u, end, (x, number_at n v ∷ [], (v, hn, refl), refl), refl);
              },
              refl,
            );
          },
          refl,
        ),
        g,
      );
      is = refl;
    }

last_form_is : {v : Version} (k : LastKind) {w : List Marked} {l : LastTree} (z : List Marked) → LastRule v w l → Looks (Some (last_token k)) (w ++ z) → LastForm v k w l
last_form_is {v} k {w} {l} z r h =
    let e : last_kind r ≡ k = sym (last_kind_back (last_kind r)) ∙ ap last_kind_of (last_looks z (last_token k) r h) ∙ last_kind_back k in
    subst (λ j. LastForm v j w l) e (last_form r)

pub back_of : {A B : Type 0} {V : List Marked → A → Type 0} {U : List Marked → B → Type 0} {h : B → A} {w : List Marked} {a : A} (z : List Marked) → Formed U h w a → Back V Any U Any h w z a
back_of z f = record { tree = f.tree; rule = f.rule; is = f.is; follows = tt }

number_whole : {x : Token} {w : List Marked} {n : ℕ} → (r : Behind x Target w n) → w ≡ opens [] x r.0 ∷ number_at n r.2.2.0 ∷ sign_at sign.Semicolon r.2.0 ∷ []
number_whole r = then_same r.3 (before_same _ r.2.3 r.2.2.2)

ended_whole : {A : Type 0} (R : List Marked → A → Type 0) {x : Token} {w : List Marked} {a : A} → (r : Behind x (Closed (token.Sign sign.Semicolon) R) w a) → w ≡ opens [] x r.0 ∷ (r.2.1 ++ sign_at sign.Semicolon r.2.0 ∷ [])
ended_whole R r = then_same r.3 r.2.3

pub goto_turns : (v : Version) → Turns (LastRule v) Any (Behind (token.Name (codes "goto")) Target) Any GotoLast (Some (token.Name (codes "goto")))
goto_turns v = record {
  back = λ w z b r f l. back_of z (last_form_is Goto z r l);
  forth = λ w n r. subst (λ k. LastRule v k (GotoLast n)) (sym (number_whole r)) (goto r.0 r.2.2.0 r.2.0 r.2.2.1);
}

pub pass_turns : (v : Version) → Turns (LastRule v) Any (Behind (token.Name (codes "pass")) Target) Any PassLast (Some (token.Name (codes "pass")))
pass_turns v = record {
  back = λ w z b r f l. back_of z (last_form_is Pass z r l);
  forth = λ w n r. subst (λ k. LastRule v k (PassLast n)) (sym (number_whole r)) (pass r.0 r.2.2.0 r.2.0 r.2.2.1);
}

pub choose_turns : (v : Version) → Turns (LastRule v) Any (Behind (token.Word word.Choose) Target) Any ChooseLast (Some (token.Word word.Choose))
choose_turns v = record {
  back = λ w z b r f l. back_of z (last_form_is Choose z r l);
  forth = λ w n r. subst (λ k. LastRule v k (ChooseLast n)) (sym (number_whole r)) (choose r.0 r.2.2.0 r.2.0 r.2.2.1);
}

pub return_turns : (v : Version) → Turns (LastRule v) Any (Behind (token.Word word.Return) (Returned v)) Any ReturnLast (Some (token.Word word.Return))
return_turns v = record { back = λ w z b r f l. back_of z (last_form_is Return z r l); forth = λ w e r. return r.0 r.2.0 r.2.1 r.2.2 (ended_whole (ReturnedRule v) r) }

pub throw_turns : (v : Version) → Turns (LastRule v) Any (Behind (token.Word word.Throw) Ended) Any ThrowLast (Some (token.Word word.Throw))
throw_turns v = record { back = λ w z b r f l. back_of z (last_form_is Throw z r l); forth = λ w e r. throw r.0 r.2.0 r.2.1 r.2.2 (ended_whole WholeRule r) }

pub test_turns : (v : Version) → Turns (LastRule v) Any (Behind (token.Name (codes "test")) BranchPart) Any (λ x. x) (Some (token.Name (codes "test")))
test_turns v = record {
  back = λ w z b r f l. back_of z (last_form_is Tests z r l);
  forth = λ w l r.
      let x = r.2.0 in
      let b = r.2.1 in
      let c = b.back.2 in
      let d = c.back.2 in
      subst (LastRule v w) (sym r.2.2) (test r.0 b.front.0 b.front.2.0 b.back.0 c.front.0 c.back.0 d.2.0 d.0 b.front.2.1 b.front.2.2 c.front.1 d.2.1
      (then_same r.3 (round_then _ _ b.is b.front.3 b.front.2.3 (then_same b.back.3 (one_then c.is c.front.2 (then_same c.back.3 (before_same _ d.3 d.2.2)))))));
}

-- where none of the words stands
pub throw_fails : {v : Version} {w : List Marked} {l : LastTree} (z : List Marked) (o : Option Token) → LastRule v w l → Looks o (w ++ z) → ((k : LastKind) → o ≡ Some (last_token k) → ⊥) → ⊥
throw_fails {w} z o r h f = f (last_kind r) (none_is w z o (last_starts r) h)
  where
    none_is : {x : Token} (w z : List Marked) (o : Option Token) → Starts (λ t. t ≡ x) w → Looks o (w ++ z) → o ≡ Some x
    none_is [] z o s l = absurd s
    none_is (y ∷ w) z None s l = absurd l
    none_is (y ∷ w) z (Some t) s l = ap Some (sym l ∙ s)

-- the other instructions
pub data InstrKind : Type 0 where
  Set : InstrKind
  Do : InstrKind
  Make : InstrKind
  Call : InstrKind
  Drop : InstrKind

abbrev pub instr_token : InstrKind → Token
instr_token Set = token.Name (codes "set")
instr_token Do = token.Name (codes "do")
instr_token Make = token.Name (codes "new")
instr_token Call = token.Name (codes "act")
instr_token Drop = token.Name (codes "drop")

abbrev instr_kind_of : Token → InstrKind
instr_kind_of (token.Name x) =
    if get_or x 0 0 == 115 then Set else if get_or x 0 0 == 110 then Make else if get_or x 0 0 == 97 then Call else if get_or x 1 0 == 111 then Do else Drop
instr_kind_of _ = Set

instr_kind_back : (k : InstrKind) → instr_kind_of (instr_token k) ≡ k
instr_kind_back Set = refl
instr_kind_back Do = refl
instr_kind_back Make = refl
instr_kind_back Call = refl
instr_kind_back Drop = refl

abbrev instr_kind : {w : List Marked} {i : InstrTree} → InstrRule w i → InstrKind
instr_kind (set r) = Set
instr_kind (effect r) = Do
instr_kind (new to p q r h) = Make
instr_kind (act p q r s path args h k f e) = Call
instr_kind (drop p q of h e) = Drop

assign_starts : {x : List ℕ} {w : List Marked} {xs : List Ident} {e : ExprTree} → AssignRule x w xs e → Starts (λ t. t ≡ token.Name x) w
assign_starts {x} (assign p q r path value h k e) = subst (Starts (λ t. t ≡ token.Name x)) (sym e) refl

instr_first : {w : List Marked} {i : InstrTree} → (r : InstrRule w i) → Starts (λ t. t ≡ instr_token (instr_kind r)) w
instr_first (set r) = assign_starts r
instr_first (effect r) = assign_starts r
instr_first (new to p q r h) = refl
instr_first (act p q r s path args h k f e) = subst (Starts (λ t. t ≡ instr_token Call)) (sym e) refl
instr_first (drop p q of h e) = subst (Starts (λ t. t ≡ instr_token Drop)) (sym e) refl

instr_says : (k : InstrKind) (t : Token) → t ≡ instr_token k → InstrToken t
instr_says Set t e = inl e
instr_says Do t e = inr (inl e)
instr_says Make t e = inr (inr (inl e))
instr_says Call t e = inr (inr (inr (inl e)))
instr_says Drop t e = inr (inr (inr (inr e)))

pub instr_starts : {w : List Marked} {i : InstrTree} → InstrRule w i → Starts InstrToken w
instr_starts {w} r = weaker w (instr_first r)
  where
    weaker : (w : List Marked) → Starts (λ t. t ≡ instr_token (instr_kind r)) w → Starts InstrToken w
    weaker [] h = h
    weaker (x ∷ w) h = instr_says (instr_kind r) x.spot.token h

first_token : {x : Token} (w z : List Marked) (t : Token) → Starts (λ y. y ≡ x) w → Looks (Some t) (w ++ z) → x ≡ t
first_token [] z t s l = absurd s
first_token (y ∷ w) z t s l = sym s ∙ l

abbrev pub InstrForm : InstrKind → List Marked → InstrTree → Type 0
InstrForm Set = Formed (Behind (token.Name (codes "set")) Assignment) (λ x. SetInstr x.0 x.1)
InstrForm Do = Formed (Behind (token.Name (codes "do")) Assignment) (λ x. EffectInstr x.0 x.1)
InstrForm Make = Formed (Behind (token.Name (codes "new")) NewInstrPart) (λ x. x)
InstrForm Call = Formed (Behind (token.Name (codes "act")) ActInstrPart) (λ x. x)
InstrForm Drop = Formed (Behind (token.Name (codes "drop")) DropInstrPart) (λ x. x)

assign_form : {x : List ℕ} {w : List Marked} {xs : List Ident} {e : ExprTree} → AssignRule x w xs e → Behind (token.Name x) Assignment w (xs, e)
assign_form (assign p q r path value h k e) = (
  p,
  path ++ (sign_at sign.Assign q ∷ (value ++ sign_at sign.Semicolon r ∷ [])),
  record {
    first = path;
    rest = sign_at sign.Assign q ∷ (value ++ sign_at sign.Semicolon r ∷ []);
    is = refl;
    front = h;
    back = (q, value ++ sign_at sign.Semicolon r ∷ [], (r, value, k, refl), refl);
  },
  e,
)

assign_whole : {x : List ℕ} {w : List Marked} (y : List Ident × ExprTree) → Behind (token.Name x) Assignment w y → AssignRule x w y.0 y.1
assign_whole y r = let b = r.2 in assign r.0 b.back.0 b.back.2.0 b.first b.back.2.1 b.front b.back.2.2 (then_same r.3 (part_then b.first b.is (then_same b.back.3 b.back.2.3)))

instr_form : {w : List Marked} {i : InstrTree} → (r : InstrRule w i) → InstrForm (instr_kind r) w i
instr_form (set {xs = xs} {e = e} r) = record { tree = (xs, e); rule = assign_form r; is = refl }
instr_form (effect {xs = xs} {e = e} r) = record { tree = (xs, e); rule = assign_form r; is = refl }
instr_form (new to p q r h) = record { tree = NewInstr to; rule = (p, place_at to q ∷ sign_at sign.Semicolon r ∷ [], (to, (r, place_at to q ∷ [], (q, h, refl), refl), refl), refl); is = refl }
instr_form (drop {ns = ns} p q of h e) = record { tree = DropInstr ns; rule = (p, of ++ sign_at sign.Semicolon q ∷ [], (ns, (q, of, h, refl), refl), e); is = refl }
instr_form (act {xs = xs} {es = es} p q r s path args h k f e) = record {
  tree = ActInstr xs es;
  rule = (
    p,
    path ++ (sign_at sign.OpenRound q ∷ (args ++ (sign_at sign.CloseRound r ∷ sign_at sign.Semicolon s ∷ []))),
    (
      (xs, es),
      record {
        first = path;
        rest = sign_at sign.OpenRound q ∷ (args ++ (sign_at sign.CloseRound r ∷ sign_at sign.Semicolon s ∷ []));
        is = refl;
        front = h;
        back = (
          q,
          args ++ (sign_at sign.CloseRound r ∷ sign_at sign.Semicolon s ∷ []),
          (s, args ++ sign_at sign.CloseRound r ∷ [], (r, args, (k, f), refl), sym (append_assoc args (sign_at sign.CloseRound r ∷ []) (sign_at sign.Semicolon s ∷ []))),
          refl,
        );
      },
      refl,
    ),
    e,
  );
  is = refl;
}

instr_form_is : (k : InstrKind) {w : List Marked} {i : InstrTree} (z : List Marked) → InstrRule w i → Looks (Some (instr_token k)) (w ++ z) → InstrForm k w i
instr_form_is k {w} {i} z r h =
    let e : instr_kind r ≡ k = sym (instr_kind_back (instr_kind r)) ∙ ap instr_kind_of (first_token w z (instr_token k) (instr_first r) h) ∙ instr_kind_back k in
    subst (λ j. InstrForm j w i) e (instr_form r)

pub set_turns : Turns InstrRule Any (Behind (token.Name (codes "set")) Assignment) Any (λ x. SetInstr x.0 x.1) (Some (token.Name (codes "set")))
set_turns = record { back = λ w z b r f l. back_of z (instr_form_is Set z r l); forth = λ w x r. set (assign_whole x r) }

pub do_turns : Turns InstrRule Any (Behind (token.Name (codes "do")) Assignment) Any (λ x. EffectInstr x.0 x.1) (Some (token.Name (codes "do")))
do_turns = record { back = λ w z b r f l. back_of z (instr_form_is Do z r l); forth = λ w x r. effect (assign_whole x r) }

new_whole : {w : List Marked} {i : InstrTree} → Behind (token.Name (codes "new")) NewInstrPart w i → InstrRule w i
new_whole {w} r =
    let n = r.2.1 in
    subst (InstrRule w) (sym r.2.2) (subst (λ k. InstrRule k (NewInstr r.2.0)) (sym (then_same r.3 (before_same _ n.3 n.2.2))) (new r.2.0 r.0 n.2.0 n.0 n.2.1))

pub new_turns : Turns InstrRule Any (Behind (token.Name (codes "new")) NewInstrPart) Any (λ x. x) (Some (token.Name (codes "new")))
new_turns = record { back = λ w z b r f l. back_of z (instr_form_is Make z r l); forth = λ w i r. new_whole r }

pub drop_turns : Turns InstrRule Any (Behind (token.Name (codes "drop")) DropInstrPart) Any (λ x. x) (Some (token.Name (codes "drop")))
drop_turns = record {
  back = λ w z b r f l. back_of z (instr_form_is Drop z r l);
  forth = λ w i r. let n = r.2.1 in subst (InstrRule w) (sym r.2.2) (drop r.0 n.0 n.1 n.2 (then_same r.3 n.3));
}

pub act_turns : Turns InstrRule Any (Behind (token.Name (codes "act")) ActInstrPart) Any (λ x. x) (Some (token.Name (codes "act")))
act_turns = record {
  back = λ w z b r f l. back_of z (instr_form_is Call z r l);
  forth = λ w i r.
      let b = r.2.1 in
      let c = b.back.2 in
      let a = c.2 in
      subst (InstrRule w) (sym r.2.2) (act r.0 b.back.0 a.0 c.0 b.first a.1 b.front a.2.0 a.2.1
      (then_same r.3 (part_then b.first b.is (then_same b.back.3 (closed_then _ _ c.3 a.3 refl)))));
}

-- where no other word stands
drop_of : {w : List Marked} {i : InstrTree} (o : Option Token) → (r : InstrRule w i) → o ≡ Some (instr_token (instr_kind r)) → (o ≡ Some (instr_token Set) → ⊥) → (o ≡ Some (instr_token Do) → ⊥)
    → (o ≡ Some (instr_token Make) → ⊥) → (o ≡ Some (instr_token Call) → ⊥) → (k : InstrKind) → instr_kind r ≡ k → InstrForm Drop w i
drop_of o r e a b c d Set h = absurd (a (e ∙ ap (λ k. Some (instr_token k)) h))
drop_of o r e a b c d Do h = absurd (b (e ∙ ap (λ k. Some (instr_token k)) h))
drop_of o r e a b c d Make h = absurd (c (e ∙ ap (λ k. Some (instr_token k)) h))
drop_of o r e a b c d Call h = absurd (d (e ∙ ap (λ k. Some (instr_token k)) h))
drop_of {w} {i} o r e a b c d Drop h = subst (λ k. InstrForm k w i) h (instr_form r)

starts_looks_is : {x : Token} (w z : List Marked) (o : Option Token) → Starts (λ t. t ≡ x) w → Looks o (w ++ z) → o ≡ Some x
starts_looks_is [] z o s l = absurd s
starts_looks_is (y ∷ w) z None s l = absurd l
starts_looks_is (y ∷ w) z (Some t) s l = ap Some (sym l ∙ s)

pub drop_else : (o : Option Token) → (o ≡ Some (token.Name (codes "set")) → ⊥) → (o ≡ Some (token.Name (codes "do")) → ⊥) → (o ≡ Some (token.Name (codes "new")) → ⊥)
    → (o ≡ Some (token.Name (codes "act")) → ⊥)
    → Turns InstrRule Any (Behind (token.Name (codes "drop")) DropInstrPart) Any (λ x. x) o
drop_else o a b c d = record {
  back = λ w z i r f l. back_of z (drop_of o r (starts_looks_is w z o (instr_first r) l) a b c d (instr_kind r) refl);
  forth = λ w i r. (let t = drop_turns in t.forth w i r);
}

throw_of : {v : Version} {w : List Marked} {l : LastTree} (o : Option Token) → (r : LastRule v w l) → o ≡ Some (last_token (last_kind r)) → (o ≡ Some (last_token Goto) → ⊥) → (o ≡ Some (last_token Pass) → ⊥)
    → (o ≡ Some (last_token Tests) → ⊥) → (o ≡ Some (last_token Choose) → ⊥) → (o ≡ Some (last_token Return) → ⊥) → (k : LastKind) → last_kind r ≡ k → LastForm v Throw w l
throw_of o r e a b c d f Goto h = absurd (a (e ∙ ap (λ k. Some (last_token k)) h))
throw_of o r e a b c d f Pass h = absurd (b (e ∙ ap (λ k. Some (last_token k)) h))
throw_of o r e a b c d f Tests h = absurd (c (e ∙ ap (λ k. Some (last_token k)) h))
throw_of o r e a b c d f Choose h = absurd (d (e ∙ ap (λ k. Some (last_token k)) h))
throw_of o r e a b c d f Return h = absurd (f (e ∙ ap (λ k. Some (last_token k)) h))
throw_of {v} {w} {l} o r e a b c d f Throw h = subst (λ k. LastForm v k w l) h (last_form r)

pub throw_else : (v : Version) (o : Option Token) → (o ≡ Some (token.Name (codes "goto")) → ⊥) → (o ≡ Some (token.Name (codes "pass")) → ⊥) → (o ≡ Some (token.Name (codes "test")) → ⊥)
    → (o ≡ Some (token.Word word.Choose) → ⊥) → (o ≡ Some (token.Word word.Return) → ⊥) → Turns (LastRule v) Any (Behind (token.Word word.Throw) Ended) Any ThrowLast o
throw_else v o a b c d e = record {
  back = λ w z i r f l. back_of z (throw_of o r (starts_looks_is w z o (last_starts r) l) a b c d e (last_kind r) refl);
  forth = λ w x r. (let t = throw_turns v in t.forth w x r);
}

-- some of each
pub some_assignment : Inhabited Assignment
some_assignment = some_both VarPathRule (Behind (token.Sign sign.Assign) Ended) some_path (some_behind (token.Sign sign.Assign) Ended some_ended)

pub some_new : Inhabited NewInstrPart
some_new = some_mapped NewInstr New (some_closed (token.Sign sign.Semicolon) SlottedPart some_slotted)

pub some_act : Inhabited ActInstrPart
some_act = some_mapped act_tree Act (some_both CalleeRule (Behind (token.Sign sign.OpenRound) (Closed (token.Sign sign.Semicolon) Args)) some_callee
    (some_behind (token.Sign sign.OpenRound) (Closed (token.Sign sign.Semicolon) Args) some_closed_args))

pub some_drop : Inhabited DropInstrPart
some_drop = some_mapped DropInstr DropLocals (some_closed (token.Sign sign.Semicolon) LocalsRule (record { marked = place_at (Local 0) nowhere ∷ []; tree = 0 ∷ []; rule = one nowhere (omega arith) }))

pub some_branch : Inhabited BranchPart
some_branch = some_mapped branch_tree Branch (some_both Test (Behind (token.Name (codes "goto")) (Both NumberPart (Behind (token.Word word.Else) Target))) some_test
    (some_behind (token.Name (codes "goto")) (Both NumberPart (Behind (token.Word word.Else) Target)) some_branch_numbers))
