-- Callbacks and groups of class text.
use Rattle.std.proofs.Common.{◌≡◌, ℕ, suc, ◌+◌, ◌≤◌, ◌<◌, Bool, true, false, List, [], ◌∷◌, ◌++◌, map, length, refl, sym, ap, ◌∙◌, subst, arith, append_assoc}
use Rattle.std.specs.Prelude.{codes}
use Rattle.std.proofs.lemmas.List.{append-nil, length-map}
use Rattle.std.specs.declared.option.Option.{Option}
use Rattle.std.specs.declared.option.Option.TheVariants.{None, Some}
use Rattle.flow_base.specs.declared.place.Place.{Place}
use Rattle.flow_tree.specs.declared.limits.TheConstants.{OF_CLASS_TEXT}
use Rattle.flow_tree.specs.declared.token.Token.{Token}
use Rattle.flow_tree.specs.declared.token.Token.TheVariants as token
use Rattle.flow_tree.specs.declared.token.Word.TheVariants as word
use Rattle.flow_tree.specs.declared.token.Sign.TheVariants as sign
use Rattle.flow_tree.specs.declared.token.Tokens.{Tokens}
use Rattle.flow_tree.specs.GrammarToken.{Marked, opens}
use Rattle.flow_tree.specs.Grammar.{sign_at}
use Rattle.flow_parse.specs.Reading.{token_at, Tok, Then, Any, Reads}
use Rattle.flow_parse.specs.Follow.{NotBefore}
use Rattle.flow_parse.proofs.Looking.{Looks, Back}
use Rattle.flow_parse.proofs.Begins.{Starts, looks_is}
use Rattle.flow_parse.proofs.Failing.{Inhabited}
use Rattle.flow_parse.proofs.Leaves.{Leaves, Link, Turns}
use Rattle.flow_parse.proofs.Leaves.{nothing, narrow, empty}
use Rattle.flow_classread.specs.Parts.{Behind}
-- nothing stands there, or a token and a part
use Rattle.flow_tree.specs.Tree.{ExprTree}
use Rattle.flow_tree.specs.GrammarStmt.{OperandRule, wait, wait_next}
use Rattle.flow_tree.specs.declared.fault.SourceFault.{SourceFault}
use Rattle.flow_tree.specs.declared.fault.Rule.TheVariants as rule
use Rattle.flow_tree.specs.declared.fault.SourceFault.TheVariants.{Refused}
use Rattle.flow_tree.specs.GrammarAnswer.{place_at as place_of}
use Rattle.flow_tree.specs.declared.limits.TheConstants.{BRANCHES}
use Rattle.flow_exprs.proofs.Goes.{nowhere}
use Rattle.flow_parse.specs.Failing.{Fails}
use Rattle.flow_parse.proofs.Leaves.{nothing, narrow, free, then_reads, first_fails, means, none_fails, fails, empty, done}
use Rattle.flow_class.specs.declared.class.Slotted.{Slotted}
use Rattle.flow_class.specs.declared.class.Group.{Group}
use Rattle.flow_class.specs.declared.class.Callback.{Callback}
use Rattle.flow_class.specs.Classes.{CallbackTree}
use Rattle.flow_class.specs.View.{callback_of, group_of}
use Rattle.flow_classprint.specs.ClassGrammar.{said, number_at, place_at, IsNumber, AreFree, IntoRule, nowhere as no_into, into, NumberedRule, none, next, CallbackRule, callback, GroupsRule, no_groups, more_groups}
use Rattle.flow_classread.specs.Parts.{Behind, Closed, Both, Numbered, Target, SlottedPart, Test, Operand, MoreCallbacks, Callbacks, GroupPart}
use Rattle.flow_classread.proofs.Combine.{some_behind, some_both}
use Rattle.flow_classread.proofs.Links.{behind_link, some_target, some_test}
use Rattle.flow_classread.proofs.Lists.{push}
use Rattle.flow_classread.proofs.Words.{apart}
use Rattle.flow_classread.proofs.Equal.{then_same, before_same, part_then}
use Rattle.flow_classread.proofs.Optional.{Perhaps, absent, present}
use Rattle.flow_classread.proofs.BlockForms.{some_numbered, numbered_then}

-- [ "into" place ]
pub into_some : (w : List Marked) (p : Slotted) → Behind (token.Name (codes "into")) SlottedPart w p → IntoRule w (Some p)
into_some w p r = subst (λ k. IntoRule k (Some p)) (sym (then_same r.3 r.2.2)) (into r.0 r.2.0 r.2.1)

pub into_which : (w : List Marked) (o : Option Slotted) → IntoRule w o → Perhaps (token.Name (codes "into")) SlottedPart w o
into_which w o no_into = absent refl refl
into_which w o (into {to} p q h) = present to (p, place_at to q ∷ [], (q, h, refl), refl) refl

some_into : Inhabited IntoRule
some_into = record { marked = []; tree = None; rule = no_into }

-- ( "wait" | "waitNext" ) "(" expr ")"
abbrev waits : (next : Bool) → Token
waits true = token.Word word.WaitNext
waits false = token.Word word.Wait

operand_of : {w : List Marked} {next : Bool} {e : ExprTree} → OperandRule 0 w next e → AreFree e → Behind (waits next) Test w e
operand_of (wait p q r of h e) f =
    (p, sign_at sign.OpenRound q ∷ (of ++ sign_at sign.CloseRound r ∷ []), (q, of ++ sign_at sign.CloseRound r ∷ [], (r, of, record { rule = h; free = f }, refl), refl), e)
operand_of (wait_next p q r of h e) f =
    (p, sign_at sign.OpenRound q ∷ (of ++ sign_at sign.CloseRound r ∷ []), (q, of ++ sign_at sign.CloseRound r ∷ [], (r, of, record { rule = h; free = f }, refl), refl), e)

whole_operand : {w : List Marked} {x : Token} {e : ExprTree} → (r : Behind x Test w e) → w ≡ opens [] x r.0 ∷ sign_at sign.OpenRound r.2.0 ∷ (r.2.2.1 ++ sign_at sign.CloseRound r.2.2.0 ∷ [])
whole_operand r = then_same r.3 (then_same r.2.3 r.2.2.3)

next_operand : (w : List Marked) (e : ExprTree) → Behind (token.Word word.WaitNext) Test w e → Operand w (true, e)
next_operand w e r = (wait_next r.0 r.2.0 r.2.2.0 r.2.2.1 r.2.2.2.rule (whole_operand r), r.2.2.2.free)

wait_operand : (w : List Marked) (e : ExprTree) → Behind (token.Word word.Wait) Test w e → Operand w (false, e)
wait_operand w e r = (wait r.0 r.2.0 r.2.2.0 r.2.2.1 r.2.2.2.rule (whole_operand r), r.2.2.2.free)

pub next_turns : Turns Operand Any (Behind (token.Word word.WaitNext) Test) Any (λ e. (true, e)) (Some (token.Word word.WaitNext))
next_turns = record { back = λ w z b r f l. of w z b.0 b.1 (operand_of r.0 r.1) l; forth = λ w e r. next_operand w e r }
  where
    of : (w z : List Marked) (b : Bool) (e : ExprTree) → Behind (waits b) Test w e → Looks (Some (token.Word word.WaitNext)) (w ++ z)
        → Back Operand Any (Behind (token.Word word.WaitNext) Test) Any (λ e. (true, e)) w z (b, e)
    of w z true e r l = record { tree = e; rule = r; is = refl; follows = tt }
    of w z false e r l = absurd (let q = looks_is (Some (token.Word word.WaitNext)) (opens [] (token.Word word.Wait) r.0) r.1 z r.3 l in cc)

pub wait_turns : (o : Option Token) → (o ≡ Some (token.Word word.WaitNext) → ⊥) → Turns Operand Any (Behind (token.Word word.Wait) Test) Any (λ e. (false, e)) o
wait_turns o nope = record { back = λ w z b r f l. of w z b.0 b.1 (operand_of r.0 r.1) l; forth = λ w e r. wait_operand w e r }
  where
    of : (w z : List Marked) (b : Bool) (e : ExprTree) → Behind (waits b) Test w e → Looks o (w ++ z) → Back Operand Any (Behind (token.Word word.Wait) Test) Any (λ e. (false, e)) w z (b, e)
    of w z false e r l = record { tree = e; rule = r; is = refl; follows = tt }
    of w z true e r l = absurd (nope (looks_is o (opens [] (token.Word word.WaitNext) r.0) r.1 z r.3 l))

some_operand : Inhabited Operand
some_operand = let x = some_behind (token.Word word.Wait) Test some_test in record { marked = x.marked; tree = (false, x.tree); rule = wait_operand x.marked x.tree x.rule }

-- "callback" number operand into "goto" number ";"
abbrev pub CallbackShape : ℕ → List Marked → Place × ((Bool × ExprTree) × (Option Slotted × ℕ)) → Type 0
CallbackShape n = Both (Numbered (codes "callback") n) (Both Operand (Both IntoRule (Behind (token.Name (codes "goto")) Target)))

abbrev pub callback_tree : Place × ((Bool × ExprTree) × (Option Slotted × ℕ)) → CallbackTree
callback_tree x = record { next = x.1.0.0; operand = x.1.0.1; into = x.1.1.0; block = x.1.1.1 }

some_goto : Inhabited (Behind (token.Name (codes "goto")) Target)
some_goto = some_behind (token.Name (codes "goto")) Target some_target

pub callback_into_link : Link IntoRule (NotBefore (token.Name (codes "into"))) (λ p. Behind (token.Name (codes "goto")) Target) Any
callback_into_link = behind_link IntoRule (NotBefore (token.Name (codes "into"))) (token.Name (codes "goto")) Target Any (λ a p z e. apart 0 (codes "goto") (codes "into") refl e) some_target

some_into_goto : Inhabited (Both IntoRule (Behind (token.Name (codes "goto")) Target))
some_into_goto = some_both IntoRule (Behind (token.Name (codes "goto")) Target) some_into some_goto

pub callback_operand_link : Link Operand Any (λ o. Both IntoRule (Behind (token.Name (codes "goto")) Target)) Any
callback_operand_link = free (λ o. some_into_goto)

some_callback_rest : Inhabited (Both Operand (Both IntoRule (Behind (token.Name (codes "goto")) Target)))
some_callback_rest = some_both Operand (Both IntoRule (Behind (token.Name (codes "goto")) Target)) some_operand some_into_goto

pub callback_number_link : (n : ℕ) → Link (Numbered (codes "callback") n) Any (λ p. Both Operand (Both IntoRule (Behind (token.Name (codes "goto")) Target))) Any
callback_number_link n = free (λ p. some_callback_rest)

pub callback_turns : (n : ℕ) (o : Option Token) → IsNumber n → Turns (CallbackRule n) Any (CallbackShape n) Any callback_tree o
callback_turns n o h = record {
  back = λ w z b r f l. of w z b r;
  forth = λ w x r.
      let c = r.back in
      let d = c.back in
      let g = d.back in
      callback r.front.0 x.0 g.0 g.2.2.0 g.2.0 c.first d.first h g.2.2.1 c.front.0 c.front.1 d.front
      (numbered_then r.is r.front.3 r.front.2 (part_then c.first c.is (part_then d.first d.is (then_same g.3 (before_same _ g.2.3 g.2.2.2)))));
}
  where
    of : (w z : List Marked) (b : CallbackTree) → CallbackRule n w b → Back (CallbackRule n) Any (CallbackShape n) Any callback_tree w z b
    of w z b (callback {next} {e} {to} {b = k} p q r s t waits put hn hb ho hf hi eq) =
        let end = number_at k s ∷ sign_at sign.Semicolon t ∷ [] in
        record {
          tree = (q, ((next, e), (to, k)));
          rule = record {
            first = said (codes "callback") p ∷ number_at n q ∷ [];
            rest = waits ++ (put ++ (said (codes "goto") r ∷ end));
            is = eq;
            front = (p, number_at n q ∷ [], refl, refl);
            back = record {
              first = waits;
              rest = put ++ (said (codes "goto") r ∷ end);
              is = refl;
              front = (ho, hf);
              back = record { first = put; rest = said (codes "goto") r ∷ end; is = refl; front = hi; back = (r, end, (t, number_at k s ∷ [], (s, hb, refl), refl), refl) };
            };
          };
          is = refl;
          follows = tt;
        }

pub some_callback : (n : ℕ) → IsNumber n → Inhabited (CallbackRule n)
some_callback n h =
    let y = some_both (Numbered (codes "callback") n) (Both Operand (Both IntoRule (Behind (token.Name (codes "goto")) Target))) (some_numbered (codes "callback") n) some_callback_rest in
    record { marked = y.marked; tree = callback_tree y.tree; rule = (let u = callback_turns n None h in u.forth y.marked y.tree y.rule) }

callback_starts : {n : ℕ} {w : List Marked} {c : CallbackTree} → CallbackRule n w c → Starts (λ t. t ≡ token.Name (codes "callback")) w
callback_starts (callback p q r s t waits put hn hb ho hf hi eq) = subst (Starts (λ t. t ≡ token.Name (codes "callback"))) (sym eq) refl

-- callbacks and the brace that closes them
some_more : (room k : ℕ) → Inhabited (MoreCallbacks room k)
some_more room k = record { marked = sign_at sign.CloseCurly nowhere ∷ []; tree = []; rule = (omega arith, (nowhere, [], none, refl)) }

pub callbacks_link : (room k : ℕ) → Link (CallbackRule k) Any (λ c. MoreCallbacks room (suc k)) Any
callbacks_link room k = free (λ c. some_more room (suc k))

pub close_turns : (room k : ℕ) → Turns (MoreCallbacks room k) Any (Tok (token.Sign sign.CloseCurly)) Any (λ p. []) (Some (token.Sign sign.CloseCurly))
close_turns room k = record { back = λ w z b r f l. of w z b r.1.0 r.1.1 r.1.2 r.1.3 l; forth = λ w p r. (omega arith, (p, [], none, r)) }
  where
    of : (w z : List Marked) (b : List CallbackTree) (p : Place) (of : List Marked) → NumberedRule CallbackRule k of b → w ≡ of ++ sign_at sign.CloseCurly p ∷ []
        → Looks (Some (token.Sign sign.CloseCurly)) (w ++ z) → Back (MoreCallbacks room k) Any (Tok (token.Sign sign.CloseCurly)) Any (λ p. []) w z b
    of w z b p j none e l = record { tree = p; rule = e; is = refl; follows = tt }
    of w z b p j (next first rest r s f) e l =
        let x = starts_of first (rest ++ (sign_at sign.CloseCurly p ∷ z)) (callback_starts r)
        (subst (Looks (Some (token.Sign sign.CloseCurly)))
        (ap (λ y. y ++ z) (e ∙ ap (λ y. y ++ sign_at sign.CloseCurly p ∷ []) f) ∙ append_assoc (first ++ rest) (sign_at sign.CloseCurly p ∷ []) z ∙ append_assoc first rest
        (sign_at sign.CloseCurly p ∷ z)) l) in
        absurd (cc)
      where
        starts_of : (w z : List Marked) → Starts (λ t. t ≡ token.Name (codes "callback")) w → Looks (Some (token.Sign sign.CloseCurly)) (w ++ z)
            → token.Name (codes "callback") ≡ token.Sign sign.CloseCurly
        starts_of [] z h l = absurd h
        starts_of (y ∷ w) z h l = sym h ∙ l

next_of : (room k : ℕ) (o : Option Token) → (o ≡ Some (token.Sign sign.CloseCurly) → ⊥) → (w z : List Marked) (b : List CallbackTree) → MoreCallbacks room k w b → Looks o (w ++ z)
    → (c : CallbackTree) × (cs : List CallbackTree) × Then (CallbackRule k) (λ c. Closed (token.Sign sign.CloseCurly) (NumberedRule CallbackRule (suc k))) w (c, cs) × (b ≡ c ∷ cs)
next_of room k o nope w z b r l = of b r.1.0 r.1.1 r.1.2 r.1.3
  where
    of : (b : List CallbackTree) (p : Place) (of : List Marked) → NumberedRule CallbackRule k of b → w ≡ of ++ sign_at sign.CloseCurly p ∷ []
        → (c : CallbackTree) × (cs : List CallbackTree) × Then (CallbackRule k) (λ c. Closed (token.Sign sign.CloseCurly) (NumberedRule CallbackRule (suc k))) w (c, cs) × (b ≡ c ∷ cs)
    of b p j none e = absurd (nope (looks_is o (sign_at sign.CloseCurly p) [] z e l))
    of b p j (next {x = x} {xs = xs} first rest r s f) e = (
      x,
      xs,
      record {
        first = first;
        rest = rest ++ sign_at sign.CloseCurly p ∷ [];
        is = e ∙ ap (λ y. y ++ sign_at sign.CloseCurly p ∷ []) f ∙ append_assoc first rest (sign_at sign.CloseCurly p ∷ []);
        front = r;
        back = (p, rest, s, refl);
      },
      refl,
    )

callbacks_of : (room k : ℕ) (w : List Marked) (x : CallbackTree × List CallbackTree) → Both (CallbackRule k) (MoreCallbacks room (suc k)) w x → MoreCallbacks (suc room) k w (x.0 ∷ x.1)
callbacks_of room k w x r =
    let m = r.back.1 in
    (omega (arith, r.back.0), (m.0, r.first ++ m.1, next r.first m.1 r.front m.2 refl, r.is ∙ ap (λ y. r.first ++ y) m.3 ∙ sym (append_assoc r.first m.1 (sign_at sign.CloseCurly m.0 ∷ []))))

more_turns : (room k : ℕ) (o : Option Token) → (o ≡ Some (token.Sign sign.CloseCurly) → ⊥)
    → Turns (MoreCallbacks (suc room) k) Any (Both (CallbackRule k) (MoreCallbacks room (suc k))) Any (λ x. x.0 ∷ x.1) o
more_turns room k o nope = record { back = λ w z b r f l. of w z b r l; forth = λ w x r. callbacks_of room k w x r }
  where
    of : (w z : List Marked) (b : List CallbackTree) → MoreCallbacks (suc room) k w b → Looks o (w ++ z)
        → Back (MoreCallbacks (suc room) k) Any (Both (CallbackRule k) (MoreCallbacks room (suc k))) Any (λ x. x.0 ∷ x.1) w z b
    of w z b r l =
        let x = next_of (suc room) k o nope w z b r l in
        let y = x.2 in
        record {
          tree = (x.0, x.1);
          rule = record { first = y.first; rest = y.rest; is = y.is; front = y.front; back = (omega (arith, r.0, ap length x.3), y.back) };
          is = x.3;
          follows = tt;
        }

pub first_turns : (k : ℕ) (o : Option Token) → Turns (Callbacks k) Any (Both (CallbackRule k) (MoreCallbacks 63 (suc k))) Any (λ x. x.0 ∷ x.1) o
first_turns k o = record { back = λ w z b r f l. of w z b r.0 r.1; forth = λ w x r. (omega arith, callbacks_of 63 k w x r) }
  where
    of : (w z : List Marked) (b : List CallbackTree) → 0 < length b → MoreCallbacks BRANCHES k w b
        → Back (Callbacks k) Any (Both (CallbackRule k) (MoreCallbacks 63 (suc k))) Any (λ x. x.0 ∷ x.1) w z b
    of w z [] h r = absurd (omega (arith, h))
    of w z (c ∷ cs) h (le, (p, j, next {x = x} {xs = xs} first rest r s f, e)) = record {
      tree = (c, cs);
      rule = record {
        first = first;
        rest = rest ++ sign_at sign.CloseCurly p ∷ [];
        is = e ∙ ap (λ y. y ++ sign_at sign.CloseCurly p ∷ []) f ∙ append_assoc first rest (sign_at sign.CloseCurly p ∷ []);
        front = r;
        back = (omega (arith, le), (p, rest, s, refl));
      };
      is = refl;
      follows = tt;
    }

pub some_callbacks : (k : ℕ) → IsNumber k → Inhabited (Callbacks k)
some_callbacks k h =
    let y = some_both (CallbackRule k) (MoreCallbacks 63 (suc k)) (some_callback k h) (some_more 63 (suc k)) in
    record { marked = y.marked; tree = y.tree.0 ∷ y.tree.1; rule = (let u = first_turns k None in u.forth y.marked y.tree y.rule) }

module _ (t : Tokens) (k : ℕ) where
  pub callbacks_left : (at : ℕ) → at ≤ length t.spots.items → Leaves OF_CLASS_TEXT (Callbacks k) Any (Both (CallbackRule k) (MoreCallbacks 63 (suc k))) Any (λ x. x.0 ∷ x.1) t.spots.items at at
  callbacks_left at h = narrow OF_CLASS_TEXT t.spots.items refl (first_turns k (token_at t.spots.items at)) (nothing OF_CLASS_TEXT t.spots.items (Callbacks k) Any at h)

  pub callbacks_init : (at to room n : ℕ) (cs : List Callback) (c : Callback) → at ≤ length t.spots.items → room ≡ 63 → n ≡ suc k → cs ≡ c ∷ []
      → Reads OF_CLASS_TEXT (CallbackRule k) Any t.spots.items at (callback_of c) to
      → Leaves OF_CLASS_TEXT (Callbacks k) Any (MoreCallbacks room n) Any (λ ys. map callback_of cs ++ ys) t.spots.items at to
  callbacks_init at to room n cs c h e f q r =
      subst (λ m. Leaves OF_CLASS_TEXT (Callbacks k) Any (MoreCallbacks m n) Any (λ ys. map callback_of cs ++ ys) t.spots.items at to) (sym e)
      (subst (λ m. Leaves OF_CLASS_TEXT (Callbacks k) Any (MoreCallbacks 63 m) Any (λ ys. map callback_of cs ++ ys) t.spots.items at to) (sym f)
      (means OF_CLASS_TEXT t.spots.items (λ ys. map callback_of cs ++ ys) (λ ys. ap (λ z. map callback_of z ++ ys) (sym q))
      (then_reads OF_CLASS_TEXT t.spots.items (callbacks_link 63 k) (callbacks_left at h) r)))

  module _ (from at room n : ℕ) (cs : List Callback) (l : Leaves OF_CLASS_TEXT (Callbacks k) Any (MoreCallbacks room n) Any (λ ys. map callback_of cs ++ ys) t.spots.items from at) where
    more_left : (some : ℕ) → room ≡ suc some → (token_at t.spots.items at ≡ Some (token.Sign sign.CloseCurly) → ⊥)
        → Leaves OF_CLASS_TEXT (Callbacks k) Any (Both (CallbackRule n) (MoreCallbacks some (suc n))) Any (λ x. map callback_of cs ++ (x.0 ∷ x.1)) t.spots.items from at
    more_left some e nope = narrow OF_CLASS_TEXT t.spots.items refl (more_turns some n (token_at t.spots.items at) nope)
        (subst (λ m. Leaves OF_CLASS_TEXT (Callbacks k) Any (MoreCallbacks m n) Any (λ ys. map callback_of cs ++ ys) t.spots.items from at) e l)

    pub callback_fails : (some : ℕ) → room ≡ suc some → (token_at t.spots.items at ≡ Some (token.Sign sign.CloseCurly) → ⊥) → (e : SourceFault) → Fails OF_CLASS_TEXT (CallbackRule n) Any t at e
        → Fails OF_CLASS_TEXT (Callbacks k) Any t from e
    callback_fails some h nope e a = first_fails OF_CLASS_TEXT t (callbacks_link some n) (more_left some h nope) e a

    pub callback_reads : (some m to : ℕ) (ds : List Callback) (c : Callback) → room ≡ suc some → m ≡ suc n → (token_at t.spots.items at ≡ Some (token.Sign sign.CloseCurly) → ⊥) → ds ≡ cs ++ c ∷ []
        → Reads OF_CLASS_TEXT (CallbackRule n) Any t.spots.items at (callback_of c) to
        → Leaves OF_CLASS_TEXT (Callbacks k) Any (MoreCallbacks some m) Any (λ ys. map callback_of ds ++ ys) t.spots.items from to
    callback_reads some m to ds c e f nope q r =
        subst (λ i. Leaves OF_CLASS_TEXT (Callbacks k) Any (MoreCallbacks some i) Any (λ ys. map callback_of ds ++ ys) t.spots.items from to) (sym f)
        (means OF_CLASS_TEXT t.spots.items (λ ys. map callback_of ds ++ ys) (λ ys. push callback_of cs c ys ∙ ap (λ z. map callback_of z ++ ys) (sym q))
        (then_reads OF_CLASS_TEXT t.spots.items (callbacks_link some n) (more_left some e nope) r))

    -- no room is left
    pub callback_beyond : room ≡ 0 → (token_at t.spots.items at ≡ Some (token.Sign sign.CloseCurly) → ⊥) → Fails OF_CLASS_TEXT (Callbacks k) Any t from (Refused (rule.S 5) (place_of t at))
    callback_beyond e nope = fails OF_CLASS_TEXT t l (Refused (rule.S 5) (place_of t at)) (none_fails OF_CLASS_TEXT (MoreCallbacks room n) Any t at (some_more room n)
        (λ w z b r f h. let x = next_of room n (token_at t.spots.items at) nope w z b r h in omega (arith, e, r.0, ap length x.3)))

    pub callbacks_done : token_at t.spots.items at ≡ Some (token.Sign sign.CloseCurly) → {p : Place} → Reads OF_CLASS_TEXT (Tok (token.Sign sign.CloseCurly)) Any t.spots.items at p (at + 1)
        → Reads OF_CLASS_TEXT (Callbacks k) Any t.spots.items from (map callback_of cs) (at + 1)
    callbacks_done e r = subst (λ z. Reads OF_CLASS_TEXT (Callbacks k) Any t.spots.items from z (at + 1)) (append-nil (map callback_of cs))
        (done OF_CLASS_TEXT t.spots.items (narrow OF_CLASS_TEXT t.spots.items e (close_turns room n) l) r)

-- "group" number "{" callbacks
pub group_number_link : (g k : ℕ) → IsNumber k → Link (Numbered (codes "group") g) Any (λ p. Behind (token.Sign sign.OpenCurly) (Callbacks k)) Any
group_number_link g k h = free (λ p. some_behind (token.Sign sign.OpenCurly) (Callbacks k) (some_callbacks k h))

pub group_turns : (g k : ℕ) (o : Option Token) → Turns (GroupPart g k) Any (Both (Numbered (codes "group") g) (Behind (token.Sign sign.OpenCurly) (Callbacks k))) Any (λ x. x.1) o
group_turns g k o = record { back = λ w z b r f l. record { tree = (r.0, b); rule = r.1; is = refl; follows = tt }; forth = λ w x r. (x.0, r) }

some_group : (g k : ℕ) → IsNumber k → Inhabited (GroupPart g k)
some_group g k h =
    let y = some_both (Numbered (codes "group") g) (Behind (token.Sign sign.OpenCurly) (Callbacks k)) (some_numbered (codes "group") g)
    (some_behind (token.Sign sign.OpenCurly) (Callbacks k) (some_callbacks k h)) in
    record { marked = y.marked; tree = y.tree.1; rule = (y.tree.0, y.rule) }

-- groups one after another
groups_link : (g k : ℕ) → Link (GroupPart g k) Any (λ cs. GroupsRule (suc g) (k + length cs)) (λ x. NotBefore (token.Name (codes "group")) x.1)
groups_link g k = free (λ cs. record { marked = []; tree = []; rule = no_groups })

same_not : {A B : Type 0} (t : Token) (a : A) (b : B) (z : List Marked) → NotBefore t a z → NotBefore t b z
same_not t a b [] f = tt
same_not t a b (x ∷ z) f = f

not_here : {A : Type 0} (t : Token) (a : A) (z : List Marked) → NotBefore t a z → Looks (Some t) z → ⊥
not_here t a [] f l = l
not_here t a (y ∷ z) f l = f l

groups_turns : (g k : ℕ) → IsNumber g → Turns (GroupsRule g k) (NotBefore (token.Name (codes "group"))) (Then (GroupPart g k) (λ cs. GroupsRule (suc g) (k + length cs)))
    (λ x. NotBefore (token.Name (codes "group")) x.1) (λ x. x.0 ∷ x.1) (Some (token.Name (codes "group")))
groups_turns g k h = record {
  back = λ w z b r f l. of w z b f l r;
  forth = λ w x r.
      let a = r.front.1 in
      let c = a.back.2 in
      of_group w x.0 x.1 r.front.0 a.front.0 a.back.0 c.1.1.0 c.1.1.1 r.rest c.0 c.1.0 c.1.1.2 r.back
      (numbered_then (r.is ∙ ap (λ y. y ++ r.rest) a.is ∙ append_assoc a.first a.rest r.rest) a.front.3 a.front.2
      (ap (λ y. y ++ r.rest) (then_same a.back.3 c.1.1.3) ∙ ap (λ y. sign_at sign.OpenCurly a.back.0 ∷ y) (append_assoc c.1.1.1 (sign_at sign.CloseCurly c.1.1.0 ∷ []) r.rest)));
}
  where
    of_group : (w : List Marked) (cs : List CallbackTree) (rest : List (List CallbackTree)) (q p r s : Place) (of more : List Marked) → 0 < length cs → length cs ≤ BRANCHES
        → NumberedRule CallbackRule k of cs
        → GroupsRule (suc g) (k + length cs) more rest
        → w ≡ said (codes "group") p ∷ number_at g q ∷ sign_at sign.OpenCurly r ∷ (of ++ (sign_at sign.CloseCurly s ∷ more)) → GroupsRule g k w (cs ∷ rest)
    of_group w [] rest q p r s of more lt le ns gs e = absurd (omega (arith, lt))
    of_group w (c ∷ cs) rest q p r s of more lt le ns gs e = more_groups p q r s of more h le ns gs e

    of : (w z : List Marked) (b : List (List CallbackTree)) → NotBefore (token.Name (codes "group")) b z → Looks (Some (token.Name (codes "group"))) (w ++ z) → GroupsRule g k w b
        → Back (GroupsRule g k) (NotBefore (token.Name (codes "group"))) (Then (GroupPart g k) (λ cs. GroupsRule (suc g) (k + length cs))) (λ x. NotBefore (token.Name (codes "group")) x.1)
        (λ x. x.0 ∷ x.1)
        w z b
    of w z b f l no_groups = absurd (not_here (token.Name (codes "group")) b z f l)
    of w z b f l (more_groups {c} {cs} {rest} p q r s inner more hg le ns gs e) =
        let closed = inner ++ sign_at sign.CloseCurly s ∷ [] in
        record {
          tree = (c ∷ cs, rest);
          rule = record {
            first = said (codes "group") p ∷ number_at g q ∷ sign_at sign.OpenCurly r ∷ closed;
            rest = more;
            is = e ∙ ap (λ y. said (codes "group") p ∷ number_at g q ∷ sign_at sign.OpenCurly r ∷ y) (sym (append_assoc inner (sign_at sign.CloseCurly s ∷ []) more));
            front = (
              q,
              record {
                first = said (codes "group") p ∷ number_at g q ∷ [];
                rest = sign_at sign.OpenCurly r ∷ closed;
                is = refl;
                front = (p, number_at g q ∷ [], refl, refl);
                back = (r, closed, (omega arith, (le, (s, inner, ns, refl))), refl);
              },
            );
            back = gs;
          };
          is = refl;
          follows = same_not (token.Name (codes "group")) b rest z f;
        }

module _ (t : Tokens) where
  module _ (from at g k : ℕ) (gs : List Group) (within : IsNumber g) (l : Leaves OF_CLASS_TEXT (GroupsRule 1 0) (NotBefore (token.Name (codes "group"))) (GroupsRule g k) (NotBefore (token.Name (codes "group")))
      (λ ys. map group_of gs ++ ys) t.spots.items from at) where
    groups_left : token_at t.spots.items at ≡ Some (token.Name (codes "group")) → Leaves OF_CLASS_TEXT (GroupsRule 1 0) (NotBefore (token.Name (codes "group")))
        (Then (GroupPart g k) (λ cs. GroupsRule (suc g) (k + length cs))) (λ x. NotBefore (token.Name (codes "group")) x.1) (λ x. map group_of gs ++ (x.0 ∷ x.1)) t.spots.items from at
    groups_left e = narrow OF_CLASS_TEXT t.spots.items e (groups_turns g k within) l

    pub group_fails : token_at t.spots.items at ≡ Some (token.Name (codes "group")) → (e : SourceFault) → Fails OF_CLASS_TEXT (GroupPart g k) Any t at e
        → Fails OF_CLASS_TEXT (GroupsRule 1 0) (NotBefore (token.Name (codes "group"))) t from e
    group_fails h e a = first_fails OF_CLASS_TEXT t (groups_link g k) (groups_left h) e a

    pub group_reads : (to g2 k2 : ℕ) (hs : List Group) (x : Group) → token_at t.spots.items at ≡ Some (token.Name (codes "group")) → g2 ≡ suc g → k2 ≡ k + length x.callbacks.items → hs ≡ gs ++ x ∷ []
        → Reads OF_CLASS_TEXT (GroupPart g k) Any t.spots.items at (map callback_of x.callbacks.items) to
        → Leaves OF_CLASS_TEXT (GroupsRule 1 0) (NotBefore (token.Name (codes "group"))) (GroupsRule g2 k2) (NotBefore (token.Name (codes "group"))) (λ ys. map group_of hs ++ ys) t.spots.items from to
    group_reads to g2 k2 hs x e f h q r =
        let n : k + length (map callback_of x.callbacks.items) ≡ k2 = ap (λ m. k + m) (length-map x.callbacks.items callback_of) ∙ sym h in
        subst (λ i. Leaves OF_CLASS_TEXT (GroupsRule 1 0) (NotBefore (token.Name (codes "group"))) (GroupsRule i k2) (NotBefore (token.Name (codes "group"))) (λ ys. map group_of hs ++ ys)
        t.spots.items from to)
        (sym f)
        (subst (λ i. Leaves OF_CLASS_TEXT (GroupsRule 1 0) (NotBefore (token.Name (codes "group"))) (GroupsRule (suc g) i) (NotBefore (token.Name (codes "group"))) (λ ys. map group_of hs ++ ys)
        t.spots.items from to)
        n (means OF_CLASS_TEXT t.spots.items (λ ys. map group_of hs ++ ys) (λ ys. push group_of gs x ys ∙ ap (λ z. map group_of z ++ ys) (sym q))
        (then_reads OF_CLASS_TEXT t.spots.items (groups_link g k) (groups_left e) r)))

    pub groups_done : (token_at t.spots.items at ≡ Some (token.Name (codes "group")) → ⊥)
        → Reads OF_CLASS_TEXT (GroupsRule 1 0) (NotBefore (token.Name (codes "group"))) t.spots.items from (map group_of gs) at
    groups_done nope =
        subst (λ z. Reads OF_CLASS_TEXT (GroupsRule 1 0) (NotBefore (token.Name (codes "group"))) t.spots.items from z at) (append-nil (map group_of gs)) (done OF_CLASS_TEXT t.spots.items l
        (empty OF_CLASS_TEXT t.spots.items (GroupsRule g k) (NotBefore (token.Name (codes "group"))) at [] (token_at t.spots.items at) l.within refl no_groups
        (λ w z b r f h. of w z b r h)))
      where
        of : (w z : List Marked) (b : List (List CallbackTree)) → GroupsRule g k w b → Looks (token_at t.spots.items at) (w ++ z) → (b ≡ []) × (w ≡ [])
        of w z b no_groups h = (refl, refl)
        of w z b (more_groups p q r s inner more hg le ns gs e) h = absurd (nope (looks_is (token_at t.spots.items at) (said (codes "group") p) _ z e h))
