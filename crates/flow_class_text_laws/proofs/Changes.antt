-- Expressions of a body over places: whole ones, and what a change in place makes of an old value.
use Rattle.std.proofs.Common.{◌≡◌, ◌≤◌, ◌+◌, ℕ, zero, suc, pos, List, [], ◌∷◌, length, refl, subst, arith}
use Rattle.flow_tree.specs.declared.limits.TheConstants.{DEPTH, NESTING}
use Rattle.flow_tree.specs.declared.token.Token.TheVariants as token
use Rattle.flow_tree.specs.declared.token.Sign.TheVariants as sign
use Rattle.flow_tree.specs.declared.expr.Op.TheVariants.{Add, Sub}
use Rattle.flow_tree.specs.declared.ty.Ident.{Ident}
use Rattle.flow_tree.specs.Tree.{ExprTree, IntExpr, VarExpr, FieldExpr, BinaryExpr, ParenExpr}
use Rattle.flow_tree.specs.Body.{ChangeTree, PlusChange, MinusChange, UpChange, DownChange}
use Rattle.flow_tree.specs.Decls.{SlotTree}
use Rattle.flow_tree.specs.GrammarToken.{Node, Marked, begin}
use Rattle.flow_tree.specs.Grammar.{ExprRule, number, variable, paren, field, binary}
use Rattle.flow_tree.specs.GrammarStmt.{PathRule, last_name, more_names}
use Rattle.flow_class.specs.Scopes.{Scope, place_of, over, over_all, ident_over}
use Rattle.flow_meaning.specs.Items.{path_from, modified}
use Rattle.flow_classprint.specs.ClassGrammar.{AreFree, IsSpelled}
use Rattle.flow_class_text_laws.proofs.Writable.{Derived, ExprWritable, ArgsWritable, IsMaybePlace}
use Rattle.flow_class_text_laws.proofs.Spelled.{AreTokens, sign_spelled, number_spelled, both_are}
use Rattle.flow_class_text_laws.proofs.Written.{p}
use Rattle.flow_class_text_laws.proofs.Renamed.{rebegin, renamed, all_renamed}
use Rattle.flow_class_text_laws.proofs.Names.{ident_good}
use Rattle.flow_class_text_laws.proofs.Bodies.{ExprSaid, ArgsSaid, PathSaid, ChangeSaid}

-- names can be spelled
abbrev pub NamesSpelled : List Ident → Type 0
NamesSpelled [] = Unit {0}
NamesSpelled (x ∷ xs) = IsSpelled (token.Name x.name) × NamesSpelled xs

path_names : {ts : List Marked} {xs : List Ident} → PathRule ts xs → AreTokens ts → NamesSpelled xs
path_names (last_name x) h = (h.0.0, tt)
path_names (more_names x at more r e) h = let t = subst AreTokens e h in (t.0.0, path_names r t.1.1)

pub names_spelled : (xs : List Ident) → PathSaid xs → NamesSpelled xs
names_spelled xs s = path_names s.rule s.are

-- a path that a change may have: a root, and a field in each of the records that may lie inside one another
abbrev pub Reached : List Ident → Type 0
Reached xs = length xs ≤ suc NESTING

module _ (slots : List SlotTree) (s : Scope) (few : (x : List ℕ) → IsMaybePlace (place_of slots s x)) where
  pub whole_over : (e : ExprTree) → ExprSaid e → ExprWritable (over slots s e)
  whole_over e h = renamed slots s (ident_good slots s few) 1 (omega (arith, h.deep)) h.of.rule h.of.are

  pub args_over : (es : _) → ArgsSaid es → ArgsWritable (over_all slots s es)
  args_over es h = all_renamed slots s (ident_good slots s few) 1 (omega (arith, h.deep)) h.of.rule h.of.are

  -- an expression over places, of this level and depth
  abbrev At : (k d : ℕ) → ExprTree → Type 0
  At k d e = Derived (λ ts. ExprRule k d ts (over slots s e)) × AreFree (over slots s e)

  inside : (e : ExprTree) → ExprSaid e → At 0 3 e
  inside e h = renamed slots s (ident_good slots s few) 3 h.deep h.of.rule h.of.are

  -- the old value: fields of fields of a variable
  root : (x : Ident) (d k : ℕ) → IsSpelled (token.Name x.name) → d ≤ DEPTH → At k d (VarExpr x)
  root x d k h l =
      let new = ident_good slots s few x h in
      (record { tokens = _; rule = variable (ident_over slots s x); are = ((new.0, ((λ j. l), tt)), tt) }, new.1)

  of_field : (e : ExprTree) (x : Ident) (d k : ℕ) → At 7 (suc d) e → IsSpelled (token.Name x.name) → d ≤ DEPTH → At k d (FieldExpr e x)
  of_field e x d k inner h l = (
    record {
      tokens = _;
      rule = field p x inner.0.tokens inner.0.rule refl;
      are = both_are (begin (Node d) inner.0.tokens) _ (rebegin d inner.0.tokens l inner.0.are) ((sign_spelled sign.Dot, tt), ((h, tt), tt));
    },
    inner.1,
  )

  chain : (xs : List Ident) (e : ExprTree) (d c : ℕ) → d ≡ length xs + c → d ≤ DEPTH → NamesSpelled xs → ((k : ℕ) → At k d e) → (k : ℕ) → At k c (path_from e xs)
  chain [] e d c is l h each k = let same : d ≡ c = omega (arith, is) in subst (λ z. At k z e) same (each k)
  chain (x ∷ xs) e zero c is l h each k = absurd (omega (arith, is))
  chain (x ∷ xs) e (suc d) c is l h each k =
      chain xs (FieldExpr e x) d c (omega (arith, is)) (omega (arith, l)) h.1 (λ j. of_field e x d j (each 7) h.0 (omega (arith, l))) k

  old_value : (x : Ident) (xs : List Ident) (k : ℕ) → NamesSpelled (x ∷ xs) → Reached (x ∷ xs) → At k 2 (path_from (VarExpr x) xs)
  old_value x xs k h l = chain xs (VarExpr x) (length xs + 2) 2 refl (omega (arith, l)) h.1 (λ j. root x (length xs + 2) j h.0 (omega (arith, l))) k

  in_paren : (e : ExprTree) → At 0 3 e → At 5 2 (ParenExpr e)
  in_paren e inner = (
    record {
      tokens = _;
      rule = paren p p inner.0.tokens inner.0.rule refl;
      are = ((sign_spelled sign.OpenRound, ((λ j. omega arith), tt)), both_are inner.0.tokens _ inner.0.are ((sign_spelled sign.CloseRound, tt), tt));
    },
    inner.1,
  )

  one : At 5 2 (IntExpr (pos 1))
  one = (record { tokens = _; rule = number (pos 1) p; are = ((number_spelled 1 (omega arith), ((λ j. omega arith), tt)), tt) }, tt)

  sum : (a b : ExprTree) → At 4 2 a → At 5 2 b → ExprWritable (over slots s (BinaryExpr Add a b))
  sum a b left right = (
    record {
      tokens = _;
      rule = binary Add p left.0.tokens right.0.tokens (omega arith) left.0.rule right.0.rule refl;
      are = both_are (begin (Node 1) left.0.tokens) _ (rebegin 1 left.0.tokens (omega arith) left.0.are) ((sign_spelled sign.Plus, tt), right.0.are);
    },
    (left.1, right.1),
  )

  difference : (a b : ExprTree) → At 4 2 a → At 5 2 b → ExprWritable (over slots s (BinaryExpr Sub a b))
  difference a b left right = (
    record {
      tokens = _;
      rule = binary Sub p left.0.tokens right.0.tokens (omega arith) left.0.rule right.0.rule refl;
      are = both_are (begin (Node 1) left.0.tokens) _ (rebegin 1 left.0.tokens (omega arith) left.0.are) ((sign_spelled sign.Minus, tt), right.0.are);
    },
    (left.1, right.1),
  )

  pub modified_over : (x : Ident) (xs : List Ident) (d : ChangeTree) → NamesSpelled (x ∷ xs) → ChangeSaid d → Reached (x ∷ xs) → ExprWritable (over slots s (modified d (path_from (VarExpr x) xs)))
  modified_over x xs (PlusChange e) h c l = sum (path_from (VarExpr x) xs) (ParenExpr e) (old_value x xs 4 h l) (in_paren e (inside e c))
  modified_over x xs (MinusChange e) h c l = difference (path_from (VarExpr x) xs) (ParenExpr e) (old_value x xs 4 h l) (in_paren e (inside e c))
  modified_over x xs UpChange h c l = sum (path_from (VarExpr x) xs) (IntExpr (pos 1)) (old_value x xs 4 h l) one
  modified_over x xs DownChange h c l = difference (path_from (VarExpr x) xs) (IntExpr (pos 1)) (old_value x xs 4 h l) one
