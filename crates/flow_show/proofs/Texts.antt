-- Texts of lists, an element at a time.
use Rattle.std.proofs.Common.{◌≡◌, ℕ, suc, ◌+◌, ◌<◌, ◌≤◌, List, [], ◌∷◌, ◌++◌, length, take, drop, get_or, refl, sym, ap, ap₂, ◌∙◌, arith, append_assoc}
use Rattle.std.proofs.lemmas.List.{append-nil, take_more, drop_more, drop_all}
use Rattle.std.specs.Prelude.{codes}
use Rattle.flow_tree.specs.declared.ty.Ident.{Ident}
use Rattle.flow_tree.specs.declared.expr.Expr.{Expr}
use Rattle.flow_tree.specs.declared.stmt.Stmt.{Stmt}
use Rattle.flow_tree.specs.declared.stmt.When.{When}
use Rattle.flow_tree.specs.declared.decl.Param.{Param}
use Rattle.flow_tree.specs.Tree.{ExprTree, indexed}
use Rattle.flow_tree.specs.Decls.{RoutineTree}
use Rattle.flow_tree.specs.View.{type_of, expr_of, exprs_of}
use Rattle.flow_tree.specs.StmtView.{stmt_of, body_of, branch_of, branches_of}
use Rattle.flow_tree.specs.DeclView.{params_of}
use Rattle.flow_tree.specs.Canon.{indent, line, path_text, more_args_text, expr_text, named_text, fields_text, more_params_text, params_text, routine_text, body_text, branches_text}
use Rattle.flow_show.specs.Lines.{PutsBefore, PutsBranch, more_names_text, behind_result}

pub indent_more : (k : ℕ) → indent (k + 1) ≡ indent k ++ codes "    "
indent_more k = let e : k + 1 ≡ suc k = omega arith in ap indent e

-- an element at a time
joined : (a b c d : List ℕ) → a ++ b ++ c ++ d ≡ a ++ (b ++ c ++ d)
joined a b c d = ap (λ l. l ++ d) (append_assoc a b c) ∙ append_assoc a (b ++ c) d

names_end : (xs : List Ident) (y : Ident) → more_names_text (xs ++ y ∷ []) ≡ more_names_text xs ++ (codes "." ++ y.name)
names_end [] y = append-nil (codes "." ++ y.name)
names_end (x ∷ xs) y = ap (λ l. codes "." ++ x.name ++ l) (names_end xs y) ∙ sym (append_assoc (codes "." ++ x.name) (more_names_text xs) (codes "." ++ y.name))

names_more : (xs : List Ident) (i : ℕ) (y : Ident) → i < length xs → y ≡ get_or xs i y
    → more_names_text (take (i + 1) xs) ≡ more_names_text (take i xs) ++ codes "." ++ y.name
names_more xs i y lt e =
    ap more_names_text (take_more xs i y lt) ∙ names_end (take i xs) (get_or xs i y)
    ∙ ap (λ z. more_names_text (take i xs) ++ (codes "." ++ z.name)) (sym e) ∙ sym (append_assoc (more_names_text (take i xs)) (codes ".") y.name)

pub names_step : (xs : List Ident) (i : ℕ) (y : Ident) (start old s1 s2 : List ℕ) → i < length xs → y ≡ get_or xs i y
    → old ≡ start ++ more_names_text (take i xs) → s1 ≡ old ++ codes "." → s2 ≡ s1 ++ y.name → s2 ≡ start ++ more_names_text (take (i + 1) xs)
names_step xs i y start old s1 s2 lt e h e1 e2 =
    e2 ∙ ap (λ l. l ++ y.name) (e1 ∙ ap (λ l. l ++ codes ".") h)
    ∙ joined start (more_names_text (take i xs)) (codes ".") y.name ∙ ap (λ l. start ++ l) (sym (names_more xs i y lt e))

path_is : (x : Ident) (xs : List Ident) → path_text (x ∷ xs) ≡ x.name ++ more_names_text xs
path_is x [] = sym (append-nil x.name)
path_is x (y ∷ xs) = ap (λ l. x.name ++ codes "." ++ l) (path_is y xs) ∙ append_assoc x.name (codes ".") (y.name ++ more_names_text xs)

pub path_step : (path rest : List Ident) (x : Ident) (old s1 s2 w : List ℕ) → 1 ≤ length path → x ≡ get_or path 0 x → rest ≡ drop 1 path
    → s1 ≡ old ++ w → w ≡ x.name → s2 ≡ s1 ++ more_names_text rest → s2 ≡ old ++ path_text path
path_step [] rest x old s1 s2 w lt e r e1 f e2 = absurd (omega arith)
path_step (y ∷ ys) rest x old s1 s2 w lt e r e1 f e2 =
    e2 ∙ ap₂ (λ l xs. l ++ more_names_text xs) (e1 ∙ ap (λ l. old ++ l) (f ∙ ap (λ z. z.name) e)) r
    ∙ append_assoc old y.name (more_names_text ys) ∙ ap (λ l. old ++ l) (sym (path_is y ys))

args_end : (es : List Expr) (x : Expr) → more_args_text (exprs_of (es ++ x ∷ [])) ≡ more_args_text (exprs_of es) ++ (codes ", " ++ expr_text (expr_of x))
args_end [] x = append-nil (codes ", " ++ expr_text (expr_of x))
args_end (e ∷ es) x = ap (λ l. codes ", " ++ expr_text (expr_of e) ++ l) (args_end es x)
    ∙ sym (append_assoc (codes ", " ++ expr_text (expr_of e)) (more_args_text (exprs_of es)) (codes ", " ++ expr_text (expr_of x)))

args_more : (es : List Expr) (i : ℕ) (x : Expr) → i < length es → x ≡ get_or es i x
    → more_args_text (exprs_of (take (i + 1) es)) ≡ more_args_text (exprs_of (take i es)) ++ codes ", " ++ expr_text (expr_of x)
args_more es i x lt e =
    ap (λ l. more_args_text (exprs_of l)) (take_more es i x lt) ∙ args_end (take i es) (get_or es i x)
    ∙ ap (λ z. more_args_text (exprs_of (take i es)) ++ (codes ", " ++ expr_text (expr_of z))) (sym e) ∙ sym (append_assoc (more_args_text (exprs_of (take i es))) (codes ", ") (expr_text (expr_of x)))

pub args_step : (es : List Expr) (i : ℕ) (x : Expr) (start old s1 s2 : List ℕ) → i < length es → x ≡ get_or es i x
    → old ≡ start ++ more_args_text (exprs_of (take i es)) → s1 ≡ old ++ codes ", " → s2 ≡ s1 ++ expr_text (expr_of x) → s2 ≡ start ++ more_args_text (exprs_of (take (i + 1) es))
args_step es i x start old s1 s2 lt e h e1 e2 =
    e2 ∙ ap (λ l. l ++ expr_text (expr_of x)) (e1 ∙ ap (λ l. l ++ codes ", ") h)
    ∙ joined start (more_args_text (exprs_of (take i es))) (codes ", ") (expr_text (expr_of x)) ∙ ap (λ l. start ++ l) (sym (args_more es i x lt e))

params_end : (ps : List Param) (x : Param) → more_params_text (params_of (ps ++ x ∷ [])) ≡ more_params_text (params_of ps) ++ (codes ", " ++ named_text (type_of x.ty) x.name)
params_end [] x = append-nil (codes ", " ++ named_text (type_of x.ty) x.name)
params_end (p ∷ ps) x = ap (λ l. codes ", " ++ named_text (type_of p.ty) p.name ++ l) (params_end ps x)
    ∙ sym (append_assoc (codes ", " ++ named_text (type_of p.ty) p.name) (more_params_text (params_of ps)) (codes ", " ++ named_text (type_of x.ty) x.name))

params_more : (ps : List Param) (i : ℕ) (x : Param) → i < length ps → x ≡ get_or ps i x
    → more_params_text (params_of (take (i + 1) ps)) ≡ more_params_text (params_of (take i ps)) ++ codes ", " ++ named_text (type_of x.ty) x.name
params_more ps i x lt e =
    ap (λ l. more_params_text (params_of l)) (take_more ps i x lt) ∙ params_end (take i ps) (get_or ps i x)
    ∙ ap (λ z. more_params_text (params_of (take i ps)) ++ (codes ", " ++ named_text (type_of z.ty) z.name)) (sym e)
    ∙ sym (append_assoc (more_params_text (params_of (take i ps))) (codes ", ") (named_text (type_of x.ty) x.name))

pub params_step : (ps : List Param) (i : ℕ) (x : Param) (start old s1 s2 : List ℕ) → i < length ps → x ≡ get_or ps i x
    → old ≡ start ++ more_params_text (params_of (take i ps)) → s1 ≡ old ++ codes ", " → s2 ≡ s1 ++ named_text (type_of x.ty) x.name
    → s2 ≡ start ++ more_params_text (params_of (take (i + 1) ps))
params_step ps i x start old s1 s2 lt e h e1 e2 =
    e2 ∙ ap (λ l. l ++ named_text (type_of x.ty) x.name) (e1 ∙ ap (λ l. l ++ codes ", ") h)
    ∙ joined start (more_params_text (params_of (take i ps))) (codes ", ") (named_text (type_of x.ty) x.name) ∙ ap (λ l. start ++ l) (sym (params_more ps i x lt e))

fields_end : (ps : List Param) (x : Param) → fields_text (params_of (ps ++ x ∷ [])) ≡ fields_text (params_of ps) ++ line 1 (named_text (type_of x.ty) x.name ++ codes ";")
fields_end [] x = append-nil (line 1 (named_text (type_of x.ty) x.name ++ codes ";"))
fields_end (p ∷ ps) x =
    ap (λ l. line 1 (named_text (type_of p.ty) p.name ++ codes ";") ++ l) (fields_end ps x)
    ∙ sym (append_assoc (line 1 (named_text (type_of p.ty) p.name ++ codes ";")) (fields_text (params_of ps)) (line 1 (named_text (type_of x.ty) x.name ++ codes ";")))

fields_more : (ps : List Param) (i : ℕ) (x : Param) → i < length ps → x ≡ get_or ps i x
    → fields_text (params_of (take (i + 1) ps)) ≡ fields_text (params_of (take i ps)) ++ line 1 (named_text (type_of x.ty) x.name ++ codes ";")
fields_more ps i x lt e =
    ap (λ l. fields_text (params_of l)) (take_more ps i x lt) ∙ fields_end (take i ps) (get_or ps i x)
    ∙ ap (λ z. fields_text (params_of (take i ps)) ++ line 1 (named_text (type_of z.ty) z.name ++ codes ";")) (sym e)

field_line : (w : List ℕ) → codes "    " ++ w ++ (codes ";" ++ 10 ∷ []) ≡ line 1 (w ++ codes ";")
field_line w = simp append_assoc refl

pub fields_step : (ps : List Param) (i : ℕ) (x : Param) (start old s1 s2 s3 : List ℕ) → i < length ps → x ≡ get_or ps i x
    → old ≡ start ++ fields_text (params_of (take i ps)) → s1 ≡ old ++ codes "    " → s2 ≡ s1 ++ named_text (type_of x.ty) x.name → s3 ≡ s2 ++ (codes ";" ++ 10 ∷ [])
    → s3 ≡ start ++ fields_text (params_of (take (i + 1) ps))
fields_step ps i x start old s1 s2 s3 lt e h e1 e2 e3 =
    let own = named_text (type_of x.ty) x.name in
    let done = fields_text (params_of (take i ps)) in
    e3 ∙ ap (λ l. l ++ (codes ";" ++ 10 ∷ [])) (e2 ∙ ap (λ l. l ++ own) (e1 ∙ ap (λ l. l ++ codes "    ") h))
    ∙ append_assoc (start ++ done ++ codes "    ") own (codes ";" ++ 10 ∷ []) ∙ append_assoc (start ++ done) (codes "    ") (own ++ (codes ";" ++ 10 ∷ []))
    ∙ append_assoc start done (codes "    " ++ (own ++ (codes ";" ++ 10 ∷ [])))
    ∙ ap (λ l. start ++ (done ++ l)) (field_line own) ∙ ap (λ l. start ++ l) (sym (fields_more ps i x lt e))

-- one more statement
pub body_step : (k : ℕ) (ss : List Stmt) (i : ℕ) (s : Stmt) (start old new : List ℕ) → i < length ss → s ≡ get_or ss i s → PutsBefore k (stmt_of s) old new
    → old ++ body_text k (body_of (drop i ss)) ≡ start ++ body_text k (body_of ss)
    → new ++ body_text k (body_of (drop (i + 1) ss)) ≡ start ++ body_text k (body_of ss)
body_step k ss i s start old new lt e puts h =
    puts (body_of (drop (i + 1) ss))
    ∙ ap (λ z. old ++ body_text k (stmt_of z (body_of (drop (i + 1) ss)))) e
    ∙ ap (λ l. old ++ body_text k (body_of l)) (sym (drop_more ss i s lt)) ∙ h

pub body_end : (k : ℕ) (ss : List Stmt) (start new : List ℕ) (i : ℕ) → length ss ≤ i → new ++ body_text k (body_of (drop i ss)) ≡ start ++ body_text k (body_of ss)
    → new ≡ start ++ body_text k (body_of ss)
body_end k ss start new i le h =
    sym (append-nil new) ∙ ap (λ l. new ++ body_text k (body_of l)) (sym (drop_all i ss le)) ∙ h

pub branches_step : (k : ℕ) (ss : List When) (i : ℕ) (s : When) (start old new : List ℕ) → i < length ss → s ≡ get_or ss i s → PutsBranch k (branch_of s) old new
    → old ++ branches_text k (branches_of (drop i ss)) ≡ start ++ branches_text k (branches_of ss)
    → new ++ branches_text k (branches_of (drop (i + 1) ss)) ≡ start ++ branches_text k (branches_of ss)
branches_step k ss i s start old new lt e puts h =
    puts (branches_of (drop (i + 1) ss))
    ∙ ap (λ z. old ++ branches_text k (branch_of z (branches_of (drop (i + 1) ss)))) e
    ∙ ap (λ l. old ++ branches_text k (branches_of l)) (sym (drop_more ss i s lt)) ∙ h

pub branches_end : (k : ℕ) (ss : List When) (start new : List ℕ) (i : ℕ) → length ss ≤ i → new ++ branches_text k (branches_of (drop i ss)) ≡ start ++ branches_text k (branches_of ss)
    → new ≡ start ++ branches_text k (branches_of ss)
branches_end k ss start new i le h =
    sym (append-nil new) ∙ ap (λ l. new ++ branches_text k (branches_of l)) (sym (drop_all i ss le)) ∙ h

-- pieces behind one another
pub three : (old s1 s2 a b c : List ℕ) → s1 ≡ old ++ a → s2 ≡ s1 ++ (b ++ c) → s2 ≡ old ++ (a ++ b ++ c)
three old s1 s2 a b c e1 e2 = rw (e2, e1) (simp append_assoc refl)

pub five : (old s1 s2 s3 a b c d f : List ℕ) → s1 ≡ old ++ a → s2 ≡ s1 ++ b → s3 ≡ s2 ++ (c ++ (d ++ f)) → s3 ≡ old ++ (a ++ b ++ c ++ d ++ f)
five old s1 s2 s3 a b c d f e1 e2 e3 = rw (e3, e2, e1) (simp append_assoc refl)

-- the line at which a `for` begins
pub for_line : (k : ℕ) (old s0 s1 s2 s3 s4 s5 s6 s7 s8 i e s : List ℕ) → s0 ≡ old ++ indent k → s1 ≡ s0 ++ codes "for (" → s2 ≡ s1 ++ i → s3 ≡ s2 ++ codes "; " → s4 ≡ s3 ++ e
    → s5 ≡ s4 ++ codes "; " → s6 ≡ s5 ++ s → s7 ≡ s6 ++ codes ") {" → s8 ≡ s7 ++ 10 ∷ []
    → s8 ≡ old ++ line k (codes "for (" ++ i ++ codes "; " ++ e ++ codes "; " ++ s ++ codes ") {")
for_line k old s0 s1 s2 s3 s4 s5 s6 s7 s8 i e s e0 e1 e2 e3 e4 e5 e6 e7 e8 = rw (e8, e7, e6, e5, e4, e3, e2, e1, e0) (simp append_assoc refl)

-- a line that ends in a semicolon
pub ended_line : (k : ℕ) (old s0 s1 s2 s3 w : List ℕ) → s0 ≡ old ++ indent k → s1 ≡ s0 ++ w → s2 ≡ s1 ++ codes ";" → s3 ≡ s2 ++ 10 ∷ [] → s3 ≡ old ++ line k (w ++ codes ";")
ended_line k old s0 s1 s2 s3 w e0 e1 e2 e3 = rw (e3, e2, e1, e0) (simp append_assoc refl)

-- a function or an actor behind its result
routine_tail : (n p b : List ℕ) → n ++ codes "(" ++ p ++ (codes ") {" ++ 10 ∷ []) ++ b ++ (codes "}" ++ 10 ∷ []) ≡ n ++ (40 ∷ (p ++ (41 ∷ (32 ∷ (123 ∷ (10 ∷ (b ++ (125 ∷ (10 ∷ [])))))))))
routine_tail n p b = simp append_assoc refl

routine_whole : (w n p b : List ℕ) → line 0 (w ++ codes " " ++ n ++ codes "(" ++ p ++ codes ") {") ++ b ++ line 0 (codes "}") ≡ w
    ++ (32 ∷ (n ++ (40 ∷ (p ++ (41 ∷ (32 ∷ (123 ∷ (10 ∷ (b ++ (125 ∷ (10 ∷ [])))))))))))
routine_whole w n p b = simp append_assoc refl

routine_lines : (w n p b : List ℕ) → w ++ (codes " " ++ n ++ codes "(" ++ p ++ (codes ") {" ++ 10 ∷ []) ++ b ++ (codes "}" ++ 10 ∷ [])) ≡ line 0 (w ++ codes " " ++ n ++ codes "(" ++ p ++ codes ") {")
    ++ b ++ line 0 (codes "}")
routine_lines w n p b = ap (λ l. w ++ (32 ∷ l)) (routine_tail n p b) ∙ sym (routine_whole w n p b)

pub whole_routine : (r : RoutineTree) (old s1 s2 w : List ℕ) → s1 ≡ old ++ w → s2 ≡ s1 ++ behind_result r.name r.params r.body → s2 ≡ old ++ routine_text w r
whole_routine r old s1 s2 w e1 e2 =
    e2 ∙ ap (λ l. l ++ behind_result r.name r.params r.body) e1 ∙ append_assoc old w (behind_result r.name r.params r.body)
    ∙ ap (λ l. old ++ l) (routine_lines w r.name.name (params_text r.params) (body_text 1 r.body))

pub seven : (old s1 s2 s3 s4 s5 s6 s7 a b c d e f g : List ℕ) → s1 ≡ old ++ a → s2 ≡ s1 ++ b → s3 ≡ s2 ++ c → s4 ≡ s3 ++ d → s5 ≡ s4 ++ e → s6 ≡ s5 ++ f → s7 ≡ s6 ++ g
    → s7 ≡ old ++ (a ++ b ++ c ++ d ++ e ++ f ++ g)
seven old s1 s2 s3 s4 s5 s6 s7 a b c d e f g e1 e2 e3 e4 e5 e6 e7 = rw (e7, e6, e5, e4, e3, e2, e1) (simp append_assoc refl)

pub one_by_one : (old s1 s2 s3 a b c : List ℕ) → s1 ≡ old ++ a → s2 ≡ s1 ++ b → s3 ≡ s2 ++ c → s3 ≡ old ++ (a ++ b ++ c)
one_by_one old s1 s2 s3 a b c e1 e2 e3 = rw (e3, e2, e1) (simp append_assoc refl)

-- an element of an operand
pub index_text : (e i : ExprTree) (old s1 s2 s3 s4 : List ℕ) → s1 ≡ old ++ expr_text e → s2 ≡ s1 ++ codes "[" → s3 ≡ s2 ++ expr_text i → s4 ≡ s3 ++ codes "]"
    → s4 ≡ old ++ expr_text (indexed e i)
index_text e i old s1 s2 s3 s4 e1 e2 e3 e4 = rw (e4, e3, e2, e1) (between (expr_text e) (expr_text i))
  where
    between : (a b : List ℕ) → (old ++ a ++ codes "[" ++ b) ++ codes "]" ≡ old ++ (a ++ codes "[" ++ (b ++ []) ++ codes "]")
    between a b = simp (append_assoc, append-nil) refl

-- the texts of operands with what stands between them
pub method_text : (old s1 s2 e f n a b : List ℕ) → s1 ≡ old ++ (e ++ codes "." ++ n) → e ≡ f → s2 ≡ s1 ++ codes "(" ++ a ++ codes ")" → a ≡ b
    → s2 ≡ old ++ (f ++ codes "." ++ n ++ codes "(" ++ b ++ codes ")")
method_text old s1 s2 e f n a b e1 ef e2 ab = rw (e2, e1, ef, ab) (simp append_assoc refl)

spaced : (b s g d : List ℕ) → b ++ (s ++ g ++ s ++ d) ≡ b ++ s ++ g ++ s ++ d
spaced b s g d = simp append_assoc refl

pub binary_text : (old s1 s2 a b g c d : List ℕ) → s1 ≡ old ++ a → a ≡ b → s2 ≡ s1 ++ (codes " " ++ g ++ codes " " ++ c) → c ≡ d → s2 ≡ old ++ (b ++ codes " " ++ g ++ codes " " ++ d)
binary_text old s1 s2 a b g c d e1 ab e2 cd =
    rw (e2, e1, ab, cd) (append_assoc old b (codes " " ++ g ++ codes " " ++ d) ∙ ap (λ l. old ++ l) (spaced b (codes " ") g d))
