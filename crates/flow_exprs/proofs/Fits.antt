-- Where the parts that have begun keep the limit of depth, the machine fits.
use Rattle.std.proofs.Common.{◌≡◌, ℕ, zero, suc, ◌+◌, ◌≤◌, ◌<◌, max, List, [], ◌∷◌, ◌++◌, refl, sym, ap, ◌∙◌, subst, arith, append_assoc, Bool, true, false}
use Rattle.std.specs.Prelude.{nat_le, ◌&&◌}
use Rattle.flow_base.specs.declared.place.Place.{Place}
use Rattle.flow_tree.specs.declared.token.Token.TheVariants as token
use Rattle.flow_tree.specs.declared.token.Word.TheVariants as word
use Rattle.flow_tree.specs.declared.token.Sign.TheVariants as sign
use Rattle.flow_tree.specs.declared.token.Spot.{Spot}
use Rattle.flow_tree.specs.declared.expr.Op.{Op}
use Rattle.flow_tree.specs.Tree.{ByName, indexed, ExprTree, ExprTrees, IntExpr, TextExpr, BoolExpr, VoidExpr, VarExpr, CallExpr, FieldExpr, MethodExpr, NotExpr, NegExpr, BinaryExpr, ParenExpr, NoExprs, MoreExprs}
use Rattle.flow_tree.specs.GrammarToken.{Part, Node, Marked, opens, begin, spots_of}
use Rattle.flow_tree.specs.Grammar.{sign_at, name_at, node_sign, node_word, node_name, level, op_sign, ExprRule, number, text, truth, falsehood, void, variable, call, paren, field, method, index, negation, minus, binary, ArgsRule, no_args, some_args, MoreArgsRule, end_args, more_args}
use Rattle.flow_tree.proofs.GrammarLists.{spots_append, spots_begin}
use Rattle.flow_exprs.specs.Kinds.{kind_of}
use Rattle.flow_exprs.specs.Machine.{Head, Function, Method, called, Unary, Negation, Minus, unary, Stack, InParen, InUnary, InTwo, InArgs, InIndex, State, Want, Have, WantArgs, WantName, WantOpen, WantClose, push, step, height, heights, head_height, hole, fits_stack, fits, Below}
use Rattle.std.proofs.Common.{◌-◌, length, length-append}
use Rattle.flow_tree.specs.GrammarToken.{AllInLimits}
use Rattle.flow_exprs.proofs.Sound.{sign_spot, name_spot, join, join_push, join_none, heights_push, called_height, height_some}
use Rattle.flow_exprs.proofs.Complete.{FirstStops, Follows, Starts, starts, two_step, unary_step, below_more, below_seven, sign_step, first_stops, follows_more, follows_op, args_want, comma_follows}

-- along the next j tokens the machine fits
abbrev pub Along : ℕ → State → List Spot → Type 0
Along zero S xs = Unit {0}
Along (suc j) S [] = Unit {0}
Along (suc j) S (x ∷ xs) = (fits (step S x) ≡ true) × Along j (step S x) xs

-- the parts that begin with the first j tokens keep the limit
abbrev pub FirstKeep : ℕ → List Marked → Type 0
FirstKeep zero xs = Unit {0}
FirstKeep (suc j) [] = Unit {0}
FirstKeep (suc j) (x ∷ xs) = AllInLimits 5 x.parts × FirstKeep j xs

along_is : (i j : ℕ) (S : State) (xs : List Spot) → i ≡ j → Along i S xs → Along j S xs
along_is i j S xs e a = subst (λ k. Along k S xs) e a

along_step : (j : ℕ) (S : State) (x : Spot) (xs : List Spot) → (0 < j → fits (step S x) ≡ true) → Along (j - 1) (step S x) xs → Along j S (x ∷ xs)
along_step zero S x xs f a = tt
along_step (suc j) S x xs f a = (f (omega arith), let e : suc j - 1 ≡ j = omega arith in along_is (suc j - 1) j (step S x) xs e a)

along_some : (j : ℕ) (S : State) (x : Spot) (xs : List Spot) → (0 < j → (fits (step S x) ≡ true) × Along (j - 1) (step S x) xs) → Along j S (x ∷ xs)
along_some zero S x xs f = tt
along_some (suc j) S x xs f = let r = f (omega arith) in let e : suc j - 1 ≡ j = omega arith in (r.0, along_is (suc j - 1) j (step S x) xs e r.1)

keep_zero : (xs : List Marked) (j : ℕ) → j ≡ 0 → FirstKeep j xs
keep_zero xs zero e = tt
keep_zero xs (suc j) e = absurd (omega arith)

pub keep_is : (i j : ℕ) (xs : List Marked) → i ≡ j → FirstKeep i xs → FirstKeep j xs
keep_is i j xs e k = subst (λ n. FirstKeep n xs) e k

pub keep_first : (j : ℕ) (x : Marked) (xs : List Marked) → FirstKeep j (x ∷ xs) → (0 < j → AllInLimits 5 x.parts) × FirstKeep (j - 1) xs
keep_first zero x xs k = ((λ h. absurd (omega arith)), keep_zero xs (0 - 1) (omega arith))
keep_first (suc j) x xs k = ((λ h. k.0), let e : j ≡ suc j - 1 = omega arith in keep_is j (suc j - 1) xs e k.1)

pub keep_append : (j : ℕ) (xs ys : List Marked) → FirstKeep j (xs ++ ys) → FirstKeep j xs × FirstKeep (j - length xs) ys
keep_append zero xs ys k = (tt, keep_zero ys (0 - length xs) (omega arith))
keep_append (suc j) [] ys k = (tt, let e : suc j ≡ suc j - 0 = omega arith in keep_is (suc j) (suc j - 0) ys e k)
keep_append (suc j) (x ∷ xs) ys k =
    let r = keep_append j xs ys k.1 in
    let e : j - length xs ≡ suc j - suc (length xs) = omega arith in
    ((k.0, r.0), keep_is (j - length xs) (suc j - suc (length xs)) ys e r.1)

keep_begin : (j : ℕ) (p : Part) (xs : List Marked) → FirstKeep j (begin p xs) → FirstKeep j xs
keep_begin zero p xs k = tt
keep_begin (suc j) p [] k = tt
keep_begin (suc j) p (x ∷ xs) k = (k.0.1, k.1)

pub length_begin : (p : Part) (xs : List Marked) → length (begin p xs) ≡ length xs
length_begin p [] = refl
length_begin p (x ∷ xs) = refl

pub and_true : (a b : ℕ) (c : Bool) → a ≤ b → c ≡ true → nat_le a b && c ≡ true
and_true a b c h e = grind arith

along_two : (j : ℕ) (op : Op) (l r : ExprTree) (K : Stack) (rest : List Spot) → FirstStops (suc (level op)) r rest → Along j (Have (BinaryExpr op l r) K) rest → Along j (Have r (InTwo op l K)) rest
along_two zero op l r K rest f a = tt
along_two (suc j) op l r K [] f a = tt
along_two (suc j) op l r K (x ∷ xs) f a = subst (λ S. (fits S ≡ true) × Along j S xs) (sym (two_step op l r K (kind_of x.token) x f)) a

along_unary : (j : ℕ) (u : Unary) (t : ExprTree) (K : Stack) (rest : List Spot) → FirstStops 7 t rest → Along j (Have (unary u t) K) rest → Along j (Have t (InUnary u K)) rest
along_unary zero u t K rest f a = tt
along_unary (suc j) u t K [] f a = tt
along_unary (suc j) u t K (x ∷ xs) f a = subst (λ S. (fits S ≡ true) × Along j S xs) (sym (unary_step u t K (kind_of x.token) x f)) a

along_args : (j : ℕ) (h : Head) (K : Stack) (xs rest : List Spot) → Starts xs → Along j (Want (InArgs h NoExprs K)) (xs ++ rest) → Along j (WantArgs h K) (xs ++ rest)
along_args zero h K xs rest s a = tt
along_args (suc j) h K xs rest s a =
    let e = ap (λ z. z ++ rest) s.is in
    let b = subst (Along (suc j) (Want (InArgs h NoExprs K))) e a in
    let c : Along (suc j) (WantArgs h K) (s.first ∷ (s.rest ++ rest)) = subst (λ S. (fits S ≡ true) × Along j S (s.rest ++ rest)) (sym (args_want h K (kind_of s.first.token) s.first s.begins)) b in
    subst (Along (suc j) (WantArgs h K)) (sym e) c

-- one node of its own
leaf_fit : (d : ℕ) (x : Marked) (t : ExprTree) (K : Stack) (j : ℕ) (rest : List Spot) → step (Want K) x.spot ≡ Have t K → height t ≡ 1 → x.parts ≡ Node d ∷ [] → hole K ≤ d → fits_stack K ≡ true
    → FirstKeep j (x ∷ []) → (d + height t ≤ 65 → Along (j - 1) (Have t K) rest) → Along j (Want K) (x.spot ∷ rest)
leaf_fit d x t K zero rest s one ps hd fs k c = tt
leaf_fit d x t K (suc j) rest s one ps hd fs k c =
    let b : AllInLimits 5 (Node d ∷ []) = subst (AllInLimits 5) ps k.0 in
    let le : d ≤ 64 = b.0 (omega arith) in
    let a : Along (suc j - 1) (Have t K) rest = c (omega arith) in
    let e : suc j - 1 ≡ j = omega arith in
    subst (λ S. (fits S ≡ true) × Along j S rest) (sym s) (and_true (hole K + height t) 65 (fits_stack K) (omega arith) fs, along_is (suc j - 1) j (Have t K) rest e a)

abbrev Goal : ℕ → ExprTree → Stack → ℕ → List Spot → List Marked → Type 0
Goal d t K j rest xs = FirstKeep j xs → (d + height t ≤ 65 → Along (j - length xs) (Have t K) rest) → Along j (Want K) (spots_of xs ++ rest)

goal_is : (d : ℕ) (t : ExprTree) (K : Stack) (j : ℕ) (rest : List Spot) (xs ys : List Marked) → xs ≡ ys → Goal d t K j rest ys → Goal d t K j rest xs
goal_is d t K j rest xs ys e g = subst (Goal d t K j rest) (sym e) g

mutual
  pub fit : {n d : ℕ} {xs : List Marked} {t : ExprTree} → ExprRule n d xs t → (K : Stack) → Below n K → hole K ≤ d → fits_stack K ≡ true → (j : ℕ) (rest : List Spot) → Follows n rest
      → Goal d t K j rest xs
  fit {n} {d} (number i p) K b hd fs j rest f = λ k c. leaf_fit d (opens (Node d ∷ []) (token.Number i) p) (IntExpr i) K j rest refl refl refl hd fs k c
  fit {n} {d} (text t p) K b hd fs j rest f = λ k c. leaf_fit d (opens (Node d ∷ []) (token.Text t) p) (TextExpr t) K j rest refl refl refl hd fs k c
  fit {n} {d} (truth p) K b hd fs j rest f = λ k c. leaf_fit d (node_word d word.Yes p) (BoolExpr true) K j rest refl refl refl hd fs k c
  fit {n} {d} (falsehood p) K b hd fs j rest f = λ k c. leaf_fit d (node_word d word.No p) (BoolExpr false) K j rest refl refl refl hd fs k c
  fit {n} {d} (variable x) K b hd fs j rest f = λ k c. leaf_fit d (node_name d x) (VarExpr x) K j rest refl refl refl hd fs k c
  fit {n} {d} (void p q r) K b hd fs zero rest f = λ k c. tt
  fit {n} {d} (void p q r) K b hd fs (suc j) rest f = λ k c.
      let le : d ≤ 64 = k.0.0 (omega arith) in
      let e : suc j - 3 ≡ j - 1 - 1 = omega arith in (
        and_true (hole K) 64 (fits_stack K) (omega arith) fs,
        along_step j (WantOpen K) (sign_spot sign.OpenRound q) (sign_spot sign.CloseRound r ∷ rest) (λ h. and_true (hole K) 64 (fits_stack K) (omega arith) fs)
            (along_step (j - 1) (WantClose K) (sign_spot sign.CloseRound r) rest (λ h. and_true (hole K + 1) 65 (fits_stack K) (omega arith) fs)
            (along_is (suc j - 3) (j - 1 - 1) (Have VoidExpr K) rest e (c (omega arith)))),
      )
  fit {n} {d} (call h p q args r e) K b hd fs zero rest f = λ k c. tt
  fit {n} {d} {xs} (call {ts = ts} h p q args r e) K b hd fs (suc j) rest f =
      goal_is d (CallExpr h ts) K (suc j) rest xs (node_name d h ∷ sign_at sign.OpenRound p ∷ (args ++ sign_at sign.CloseRound q ∷ [])) e (λ k c.
      let le : d ≤ 64 = k.0.0 (omega arith) in
      let s = sign_spot sign.CloseRound q in
      let k1 = keep_first j (sign_at sign.OpenRound p) (args ++ sign_at sign.CloseRound q ∷ []) k.1 in
      let k2 = keep_append (j - 1) args (sign_at sign.CloseRound q ∷ []) k1.1 in
      let flat : spots_of args ++ (s ∷ rest) ≡ spots_of (args ++ sign_at sign.CloseRound q ∷ []) ++ rest =
      sym (ap (λ z. z ++ rest) (spots_append args (sign_at sign.CloseRound q ∷ [])) ∙ append_assoc (spots_of args) (s ∷ []) rest) in
      let i : suc j - suc (suc (length (args ++ sign_at sign.CloseRound q ∷ []))) ≡ j - 1 - length args - 1 = omega (arith, length-append args (sign_at sign.CloseRound q ∷ [])) in (
        and_true (hole K + 1) 65 (fits_stack K) (omega arith) fs,
        along_step j (Have (VarExpr h) K) (sign_spot sign.OpenRound p) (spots_of (args ++ sign_at sign.CloseRound q ∷ []) ++ rest) (λ z. and_true (hole K + 0) 64 (fits_stack K) (omega arith) fs)
            (subst (Along (j - 1) (WantArgs (Function h) K)) flat
            (fit_args r (Function h) K q rest (omega arith) fs (omega arith) (omega arith) (j - 1) k2.0
            (λ m. along_is (suc j - suc (suc (length (args ++ sign_at sign.CloseRound q ∷ [])))) (j - 1 - length args - 1) (Have (CallExpr h ts) K) rest i (c (omega arith))))),
      ))
  fit {n} {d} {xs} (paren {t = t} p q of r e) K b hd fs j rest f = goal_is d (ParenExpr t) K j rest xs (node_sign d sign.OpenRound p ∷ (of ++ sign_at sign.CloseRound q ∷ [])) e (λ k c.
      let s = sign_spot sign.CloseRound q in
      let k1 = keep_first j (node_sign d sign.OpenRound p) (of ++ sign_at sign.CloseRound q ∷ []) k in
      let k2 = keep_append (j - 1) of (sign_at sign.CloseRound q ∷ []) k1.1 in
      let flat : spots_of of ++ (s ∷ rest) ≡ spots_of (of ++ sign_at sign.CloseRound q ∷ []) ++ rest =
      sym (ap (λ z. z ++ rest) (spots_append of (sign_at sign.CloseRound q ∷ [])) ∙ append_assoc (spots_of of) (s ∷ []) rest) in
      let i : j - suc (length (of ++ sign_at sign.CloseRound q ∷ [])) ≡ j - 1 - length of - 1 = omega (arith, length-append of (sign_at sign.CloseRound q ∷ [])) in
      let in_limit : 0 < j → hole K ≤ 64 = λ z. let w : d ≤ 64 = (k1.0 z).0 (omega arith) in omega arith in
      let fs' : 0 < j → nat_le (hole K) 64 && fits_stack K ≡ true = λ z. and_true (hole K) 64 (fits_stack K) (in_limit z) fs in
      along_some j (Want K) (sign_spot sign.OpenRound p) (spots_of (of ++ sign_at sign.CloseRound q ∷ []) ++ rest) (λ z. (
        fs' z,
        subst (Along (j - 1) (Want (InParen K))) flat
            (fit r (InParen K) tt (omega arith) (fs' z) (j - 1) (s ∷ rest) (tt, tt) k2.0 (λ m.
            along_step (j - 1 - length of) (Have t (InParen K)) s rest (λ y. and_true (hole K + suc (height t)) 65 (fits_stack K) (omega arith) fs)
            (along_is (j - suc (length (of ++ sign_at sign.CloseRound q ∷ []))) (j - 1 - length of - 1) (Have (ParenExpr t) K) rest i (c (omega arith))))),
      )))
  fit {n} {d} {xs} (field {t = t} p x of r e) K b hd fs j rest f =
      let l = sign_at sign.Dot p ∷ name_at x ∷ [] in
      goal_is d (FieldExpr t x) K j rest xs (begin (Node d) of ++ l) e (λ k c.
      let flat : spots_of of ++ (spots_of l ++ rest) ≡ spots_of (begin (Node d) of ++ l) ++ rest =
      sym (ap (λ z. z ++ rest) (spots_append (begin (Node d) of) l ∙ ap (λ z. z ++ spots_of l) (spots_begin (Node d) of)) ∙ append_assoc (spots_of of) (spots_of l) rest) in
      let k1 = keep_append j (begin (Node d) of) l k in
      let i : j - length (begin (Node d) of ++ l) ≡ j - length of - 1 - 1 = omega (arith, length-append (begin (Node d) of) l, length_begin (Node d) of) in
      subst (Along j (Want K)) flat
      (fit r K (below_seven K) (omega arith) fs j (spots_of l ++ rest) (tt, omega arith) (keep_begin j (Node d) of k1.0) (λ m.
      along_step (j - length of) (Have t K) (sign_spot sign.Dot p) (name_spot x ∷ rest) (λ y. and_true (hole K + height t) 64 (fits_stack K) (omega arith) fs)
      (along_step (j - length of - 1) (WantName t K) (name_spot x) rest (λ y. and_true (hole K + suc (height t)) 65 (fits_stack K) (omega arith) fs)
      (along_is (j - length (begin (Node d) of ++ l)) (j - length of - 1 - 1) (Have (FieldExpr t x) K) rest i (c (omega arith)))))))
  fit {n} {d} {xs} (method {t = t} {ts = ts} p q s h of args r a e) K b hd fs j rest f =
      let cl = sign_at sign.CloseRound s ∷ [] in
      let l = sign_at sign.Dot p ∷ name_at h ∷ sign_at sign.OpenRound q ∷ (args ++ cl) in
      goal_is d (MethodExpr t (ByName h) ts) K j rest xs (begin (Node d) of ++ l) e (λ k c.
      let flat : spots_of of ++ (spots_of l ++ rest) ≡ spots_of (begin (Node d) of ++ l) ++ rest =
      sym (ap (λ z. z ++ rest) (spots_append (begin (Node d) of) l ∙ ap (λ z. z ++ spots_of l) (spots_begin (Node d) of)) ∙ append_assoc (spots_of of) (spots_of l) rest) in
      let flat2 : spots_of args ++ (sign_spot sign.CloseRound s ∷ rest) ≡ spots_of (args ++ cl) ++ rest =
      sym (ap (λ z. z ++ rest) (spots_append args cl) ∙ append_assoc (spots_of args) (sign_spot sign.CloseRound s ∷ []) rest) in
      let k1 = keep_append j (begin (Node d) of) l k in
      let w = j - length (begin (Node d) of) in
      let k2 = keep_first w (sign_at sign.Dot p) (name_at h ∷ sign_at sign.OpenRound q ∷ (args ++ cl)) k1.1 in
      let k3 = keep_first (w - 1) (name_at h) (sign_at sign.OpenRound q ∷ (args ++ cl)) k2.1 in
      let k4 = keep_first (w - 1 - 1) (sign_at sign.OpenRound q) (args ++ cl) k3.1 in
      let k5 = keep_append (w - 1 - 1 - 1) args cl k4.1 in
      let i0 : w ≡ j - length of = omega (arith, length_begin (Node d) of) in
      let i : j - length (begin (Node d) of ++ l) ≡ w - 1 - 1 - 1 - length args - 1 = omega (arith, length-append (begin (Node d) of) l, length_begin (Node d) of, length-append args cl) in
      subst (Along j (Want K)) flat
      (fit r K (below_seven K) (omega arith) fs j (spots_of l ++ rest) (tt, omega arith) (keep_begin j (Node d) of k1.0) (λ m.
      along_is w (j - length of) (Have t K) (spots_of l ++ rest) i0
      (along_step w (Have t K) (sign_spot sign.Dot p) (name_spot h ∷ (sign_spot sign.OpenRound q ∷ (spots_of (args ++ cl) ++ rest)))
      (λ y. and_true (hole K + height t) 64 (fits_stack K) (omega arith) fs)
      (along_step (w - 1) (WantName t K) (name_spot h) (sign_spot sign.OpenRound q ∷ (spots_of (args ++ cl) ++ rest)) (λ y. and_true (hole K + suc (height t)) 65 (fits_stack K) (omega arith) fs)
      (along_step (w - 1 - 1) (Have (FieldExpr t h) K) (sign_spot sign.OpenRound q) (spots_of (args ++ cl) ++ rest) (λ y. and_true (hole K + height t) 64 (fits_stack K) (omega arith) fs)
      (subst (Along (w - 1 - 1 - 1) (WantArgs (Method t h) K)) flat2
      (fit_args a (Method t h) K s rest (omega arith) fs (omega arith) (omega (arith, height_some t)) (w - 1 - 1 - 1) k5.0 (λ o.
      along_is (j - length (begin (Node d) of ++ l)) (w - 1 - 1 - 1 - length args - 1) (Have (MethodExpr t (ByName h) ts) K) rest i (c (omega arith)))))))))))
  fit {n} {d} {xs} (index {t = t} {i = v} p q of at r a e) K b hd fs j rest f =
      let cl = sign_at sign.CloseSquare q ∷ [] in
      let s = sign_spot sign.CloseSquare q in
      let l = sign_at sign.OpenSquare p ∷ (at ++ cl) in
      goal_is d (indexed t v) K j rest xs (begin (Node d) of ++ l) e (λ k c.
      let flat : spots_of of ++ (spots_of l ++ rest) ≡ spots_of (begin (Node d) of ++ l) ++ rest =
      sym (ap (λ z. z ++ rest) (spots_append (begin (Node d) of) l ∙ ap (λ z. z ++ spots_of l) (spots_begin (Node d) of)) ∙ append_assoc (spots_of of) (spots_of l) rest) in
      let flat2 : spots_of at ++ (s ∷ rest) ≡ spots_of (at ++ cl) ++ rest = sym (ap (λ z. z ++ rest) (spots_append at cl) ∙ append_assoc (spots_of at) (s ∷ []) rest) in
      let k1 = keep_append j (begin (Node d) of) l k in
      let w = j - length (begin (Node d) of) in
      let k2 = keep_first w (sign_at sign.OpenSquare p) (at ++ cl) k1.1 in
      let k3 = keep_append (w - 1) at cl k2.1 in
      let i0 : w ≡ j - length of = omega (arith, length_begin (Node d) of) in
      let i : j - length (begin (Node d) of ++ l) ≡ w - 1 - length at - 1 = omega (arith, length-append (begin (Node d) of) l, length_begin (Node d) of, length-append at cl) in
      subst (Along j (Want K)) flat
      (fit r K (below_seven K) (omega arith) fs j (spots_of l ++ rest) (tt, omega arith) (keep_begin j (Node d) of k1.0) (λ m.
      let fs' : nat_le (hole K + height t) 64 && fits_stack K ≡ true = and_true (hole K + height t) 64 (fits_stack K) (omega arith) fs in
      along_is w (j - length of) (Have t K) (spots_of l ++ rest) i0
      (along_step w (Have t K) (sign_spot sign.OpenSquare p) (spots_of (at ++ cl) ++ rest) (λ y. fs')
      (subst (Along (w - 1) (Want (InIndex t K))) flat2
      (fit a (InIndex t K) tt (omega arith) fs' (w - 1) (s ∷ rest) (tt, tt) k3.0 (λ o.
      along_step (w - 1 - length at) (Have v (InIndex t K)) s rest (λ y. and_true (hole K + height (indexed t v)) 65 (fits_stack K) (omega arith) fs)
      (along_is (j - length (begin (Node d) of ++ l)) (w - 1 - length at - 1) (Have (indexed t v) K) rest i (c (omega arith))))))))))
  fit {n} {d} {xs} (negation {t = t} p of le r e) K b hd fs j rest f = goal_is d (NotExpr t) K j rest xs (node_sign d sign.Not p ∷ of) e (λ k c.
      let k1 = keep_first j (node_sign d sign.Not p) of k in
      let i : j - suc (length of) ≡ j - 1 - length of = omega arith in
      let in_limit : 0 < j → hole K ≤ 64 = λ z. let w : d ≤ 64 = (k1.0 z).0 (omega arith) in omega arith in
      let fs' : 0 < j → nat_le (hole K) 64 && fits_stack K ≡ true = λ z. and_true (hole K) 64 (fits_stack K) (in_limit z) fs in
      along_some j (Want K) (sign_spot sign.Not p) (spots_of of ++ rest) (λ z. (
        fs' z,
        fit r (InUnary Negation K) (omega arith) (omega arith) (fs' z) (j - 1) rest (follows_more n 6 rest le f) k1.1 (λ m.
            along_unary (j - 1 - length of) Negation t K rest (first_stops n 7 t rest (omega arith) f)
            (along_is (j - suc (length of)) (j - 1 - length of) (Have (NotExpr t) K) rest i (c (omega arith)))),
      )))
  fit {n} {d} {xs} (minus {t = t} p of le r e) K b hd fs j rest f = goal_is d (NegExpr t) K j rest xs (node_sign d sign.Minus p ∷ of) e (λ k c.
      let k1 = keep_first j (node_sign d sign.Minus p) of k in
      let i : j - suc (length of) ≡ j - 1 - length of = omega arith in
      let in_limit : 0 < j → hole K ≤ 64 = λ z. let w : d ≤ 64 = (k1.0 z).0 (omega arith) in omega arith in
      let fs' : 0 < j → nat_le (hole K) 64 && fits_stack K ≡ true = λ z. and_true (hole K) 64 (fits_stack K) (in_limit z) fs in
      along_some j (Want K) (sign_spot sign.Minus p) (spots_of of ++ rest) (λ z. (
        fs' z,
        fit r (InUnary Minus K) (omega arith) (omega arith) (fs' z) (j - 1) rest (follows_more n 6 rest le f) k1.1 (λ m.
            along_unary (j - 1 - length of) Minus t K rest (first_stops n 7 t rest (omega arith) f)
            (along_is (j - suc (length of)) (j - 1 - length of) (Have (NegExpr t) K) rest i (c (omega arith)))),
      )))
  fit {n} {d} {xs} (binary {a = x} {b = y} op p left right le r s e) K b hd fs j rest f =
      let l = sign_at (op_sign op) p ∷ right in
      goal_is d (BinaryExpr op x y) K j rest xs (begin (Node d) left ++ l) e (λ k c.
      let flat : spots_of left ++ (spots_of l ++ rest) ≡ spots_of (begin (Node d) left ++ l) ++ rest =
      sym (ap (λ z. z ++ rest) (spots_append (begin (Node d) left) l ∙ ap (λ z. z ++ spots_of l) (spots_begin (Node d) left)) ∙ append_assoc (spots_of left) (spots_of l) rest) in
      let b' = below_more n (level op) K b le in
      let k1 = keep_append j (begin (Node d) left) l k in
      let w = j - length (begin (Node d) left) in
      let k2 = keep_first w (sign_at (op_sign op) p) right k1.1 in
      let i0 : w ≡ j - length left = omega (arith, length_begin (Node d) left) in
      let i : j - length (begin (Node d) left ++ l) ≡ w - 1 - length right = omega (arith, length-append (begin (Node d) left) l, length_begin (Node d) left) in
      subst (Along j (Want K)) flat
      (fit r K b' (omega arith) fs j (spots_of l ++ rest) (follows_op op (level op) p (spots_of right ++ rest) (omega arith)) (keep_begin j (Node d) left k1.0) (λ m.
      let fs' : nat_le (hole K + height x) 64 && fits_stack K ≡ true = and_true (hole K + height x) 64 (fits_stack K) (omega arith) fs in
      along_is w (j - length left) (Have x K) (spots_of l ++ rest) i0
      (along_step w (Have x K) (sign_spot (op_sign op) p) (spots_of right ++ rest) (λ y. subst (λ S. fits S ≡ true) (sym (sign_step op x K p b')) fs')
      (subst (λ S. Along (w - 1) S (spots_of right ++ rest)) (sym (sign_step op x K p b'))
      (fit s (InTwo op x K) (omega arith) (omega arith) fs' (w - 1) rest (follows_more n (suc (level op)) rest (omega arith) f) k2.1 (λ o.
      along_two (w - 1 - length right) op x y K rest (first_stops n (suc (level op)) y rest (omega arith) f)
      (along_is (j - length (begin (Node d) left ++ l)) (w - 1 - length right) (Have (BinaryExpr op x y) K) rest i (c (omega arith))))))))))

  fit_args : {d : ℕ} {xs : List Marked} {ts : ExprTrees} → ArgsRule d xs ts → (h : Head) (K : Stack) (q : Place) (rest : List Spot) → suc (hole K) ≤ d → fits_stack K ≡ true → d ≤ 65
      → hole K + head_height h ≤ 64
      → (j : ℕ) → FirstKeep j xs → (d + heights ts ≤ 65 → Along (j - length xs - 1) (Have (called h ts) K) rest) → Along j (WantArgs h K) (spots_of xs ++ (sign_spot sign.CloseRound q ∷ rest))
  fit_args no_args h K q rest hd fs low hh j k c =
      along_step j (WantArgs h K) (sign_spot sign.CloseRound q) rest (λ y. and_true (hole K + height (called h NoExprs)) 65 (fits_stack K) (omega (arith, called_height h NoExprs)) fs)
      (let e : j - 0 - 1 ≡ j - 1 = omega arith in along_is (j - 0 - 1) (j - 1) (Have (called h NoExprs) K) rest e (c (omega arith)))
  fit_args {d} {xs} (some_args {t = t} {ts = ts} first more r m e) h K q rest hd fs low hh j k c =
      let s = sign_spot sign.CloseRound q ∷ rest in
      let flat : spots_of first ++ (spots_of more ++ s) ≡ spots_of xs ++ s =
      sym (ap (λ z. spots_of z ++ s) e ∙ ap (λ z. z ++ s) (spots_append first more) ∙ append_assoc (spots_of first) (spots_of more) s) in
      let k1 = keep_append j first more (subst (FirstKeep j) e k) in
      let i : j - length xs - 1 ≡ j - length first - length more - 1 = omega (arith, ap length e, length-append first more) in
      let fs' : nat_le (hole K + max (head_height h) 0) 64 && fits_stack K ≡ true = and_true (hole K + max (head_height h) 0) 64 (fits_stack K) (omega arith) fs in
      subst (Along j (WantArgs h K)) flat
      (along_args j h K (spots_of first) (spots_of more ++ s) (starts r)
      (fit r (InArgs h NoExprs K) tt hd fs' j (spots_of more ++ s) (comma_follows m q rest) k1.0 (λ o.
      fit_more m h NoExprs t K q rest hd fs hh (omega arith) (j - length first) k1.1 (λ v.
      along_is (j - length xs - 1) (j - length first - length more - 1) (Have (called h (MoreExprs t ts)) K) rest i (c v)))))

  fit_more : {d : ℕ} {xs : List Marked} {us : ExprTrees} → MoreArgsRule d xs us → (h : Head) (ts : ExprTrees) (t : ExprTree) (K : Stack) (q : Place) (rest : List Spot) → suc (hole K) ≤ d
      → fits_stack K ≡ true → hole K + head_height h ≤ 64
      → d + heights (push ts t) ≤ 65 → (j : ℕ) → FirstKeep j xs → (d + heights (join (push ts t) us) ≤ 65 → Along (j - length xs - 1) (Have (called h (join (push ts t) us)) K) rest)
      → Along j (Have t (InArgs h ts K)) (spots_of xs ++ (sign_spot sign.CloseRound q ∷ rest))
  fit_more {d} end_args h ts t K q rest hd fs hh hs j k c =
      let e = join_none (push ts t) in
      along_step j (Have t (InArgs h ts K)) (sign_spot sign.CloseRound q) rest
      (λ y. and_true (hole K + height (called h (push ts t))) 65 (fits_stack K) (omega (arith, called_height h (push ts t))) fs)
      (let i : j - 0 - 1 ≡ j - 1 = omega arith in along_is (j - 0 - 1) (j - 1) (Have (called h (push ts t)) K) rest i
      (subst (λ vs. Along (j - 0 - 1) (Have (called h vs) K) rest) e (c (subst (λ vs. d + heights vs ≤ 65) (sym e) hs))))
  fit_more {d} {xs} (more_args {t = u} {ts = us} p next more r m e) h ts t K q rest hd fs hh hs j k c =
      let s = sign_spot sign.CloseRound q ∷ rest in
      let flat : sign_spot sign.Comma p ∷ (spots_of next ++ (spots_of more ++ s)) ≡ spots_of xs ++ s =
      sym (ap (λ z. spots_of z ++ s) e ∙ ap (λ z. sign_spot sign.Comma p ∷ (z ++ s)) (spots_append next more)
      ∙ ap (λ z. sign_spot sign.Comma p ∷ z) (append_assoc (spots_of next) (spots_of more) s)) in
      let k0 = keep_first j (sign_at sign.Comma p) (next ++ more) (subst (FirstKeep j) e k) in
      let k1 = keep_append (j - 1) next more k0.1 in
      let i : j - length xs - 1 ≡ j - 1 - length next - length more - 1 = omega (arith, ap length e, length-append next more) in
      let high = max (head_height h) (heights (push ts t)) in
      let fs' : nat_le (hole K + high) 64 && fits_stack K ≡ true = and_true (hole K + high) 64 (fits_stack K) (omega arith) fs in
      let jp = join_push (push ts t) us u in
      subst (Along j (Have t (InArgs h ts K))) flat
      (along_step j (Have t (InArgs h ts K)) (sign_spot sign.Comma p) (spots_of next ++ (spots_of more ++ s)) (λ y. fs')
      (fit r (InArgs h (push ts t) K) tt hd fs' (j - 1) (spots_of more ++ s) (comma_follows m q rest) k1.0 (λ o.
      fit_more m h (push ts t) u K q rest hd fs hh (omega (arith, heights_push (push ts t) u)) (j - 1 - length next) k1.1 (λ v.
      subst (λ vs. Along (j - 1 - length next - length more - 1) (Have (called h vs) K) rest) (sym jp)
      (along_is (j - length xs - 1) (j - 1 - length next - length more - 1) (Have (called h (join (push ts t) (MoreExprs u us))) K) rest i (c (subst (λ vs. d + heights vs ≤ 65) jp v)))))))
