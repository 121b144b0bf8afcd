-- The control graph of the body of a function or actor.
--
-- Its points are numbered in the order of the text: the opening brace is 0, then come the statements, and at last the closing
-- brace. Each statement is a point; a `for` is one, read with its condition, between the points of its init and those of its
-- step; and so are the `catch` of a `try`, and each `when` of a `choose`.
--
-- The points lead on by the order of the text. An `if` leads into its bodies, and past them without an `else`. A `while`, and a
-- `for` with a condition, lead into the body and past it, whatever the condition says; a `loop`, and a `for` without one, only
-- into it. The end of a loop's body leads back, in a `for` by way of the step. A `choose` leads to each `when`, and this into
-- its body. `break` and `continue` lead as they say, in a loop; `return` and `throw` lead to nothing that follows. Each statement
-- in the body of a `try` leads besides to its `catch`, and that into the handler; a `catch`, a `when` and a brace are no
-- statements, so an empty body or handler leads to no `catch`.
use Rattle.std.specs.Prelude.{ℕ, suc, ◌+◌, List, [], ◌∷◌, ◌++◌, map}
use Rattle.std.specs.declared.option.Option.{Option}
use Rattle.std.specs.declared.option.Option.TheVariants.{None, Some}
use Rattle.flow_tree.specs.Body.{Body, End, BlockStmt, IfStmt, IfElseStmt, WhileStmt, ForStmt, LoopStmt, BreakStmt, ContinueStmt, ReturnStmt, ThrowStmt, TryStmt, ChooseStmt, DeclareStmt, AssignStmt, ModifyStmt, CallStmt, WaitStmt, Branches, NoBranches, MoreBranches}
use Rattle.flow_tree.specs.Tree.{ExprTree}
use Rattle.flow_typing_laws.specs.ControlFlow.Graph.{Edge}

-- how many points a body has
abbrev mutual
  pub points : Body → ℕ
  points End = 0
  points (BlockStmt at b k) = suc (points b) + points k
  points (IfStmt at e b k) = suc (points b) + points k
  points (IfElseStmt at e b c k) = suc (points b) + points c + points k
  points (WhileStmt at e b k) = suc (points b) + points k
  points (ForStmt at i e t b k) = points i + suc (points t) + points b + points k
  points (LoopStmt at b k) = suc (points b) + points k
  points (BreakStmt at k) = suc (points k)
  points (ContinueStmt at k) = suc (points k)
  points (ReturnStmt at v k) = suc (points k)
  points (ThrowStmt at v k) = suc (points k)
  points (TryStmt at b q x h k) = suc (points b) + suc (points h) + points k
  points (ChooseStmt at bs k) = suc (branch_points bs) + points k
  points (DeclareStmt at i v k) = suc (points k)
  points (AssignStmt at xs v k) = suc (points k)
  points (ModifyStmt at xs c k) = suc (points k)
  points (CallStmt at xs es k) = suc (points k)
  points (WaitStmt at w k) = suc (points k)

  pub branch_points : Branches → ℕ
  branch_points NoBranches = 0
  branch_points (MoreBranches at w b bs) = suc (points b) + branch_points bs

-- Where statements lead: to what follows them, by a `break` and a `continue` of the loop around them, and to the `catch` of the
-- `try` around them.
pub record Around : Type 0 where
  pub follows : ℕ
  pub breaks : Option ℕ
  pub continues : Option ℕ
  pub catches : Option ℕ

abbrev pub followed_by : Around → ℕ → Around
followed_by a n = record a { follows = n }

-- in a loop whose rounds end at this point
abbrev pub in_loop : Around → ℕ → Around
in_loop a n = record { follows = n; breaks = Some a.follows; continues = Some n; catches = a.catches }

-- the step of a `for`, which has no `break` or `continue`
abbrev pub in_step : Around → ℕ → Around
in_step a n = record { follows = n; breaks = None; continues = None; catches = a.catches }

-- in a `try` with its `catch` at this point
abbrev pub in_try : Around → ℕ → Around
in_try a n = record a { catches = Some n }

abbrev pub listed : Option ℕ → List ℕ
listed None = []
listed (Some n) = n ∷ []

abbrev pub edge : ℕ → ℕ → Edge ℕ
edge n m = record { from = n; to = m }

-- a point leads to these points, and a statement to the `catch` around it besides
abbrev pub leads : ℕ → List ℕ → List (Edge ℕ)
leads n tos = map (edge n) tos

abbrev pub statement : ℕ → Around → List ℕ → List (Edge ℕ)
statement n a tos = leads n (tos ++ listed a.catches)

-- the first point of a body that begins with this number, or what follows it
abbrev pub first : Body → ℕ → ℕ → ℕ
first End n f = f
first (ForStmt at i e t b k) n f = first i n (n + points i)
first b n f = n

-- past a loop with a condition
abbrev pub past : Option ExprTree → ℕ → List ℕ
past None f = []
past (Some e) f = f ∷ []

-- the points of the branches of a `choose`
abbrev pub whens : Branches → ℕ → List ℕ
whens NoBranches n = []
whens (MoreBranches at w b bs) n = n ∷ whens bs (suc (n + points b))

-- the edges of a body that begins with this number
abbrev mutual
  pub edges : Body → ℕ → Around → List (Edge ℕ)
  edges End n a = []
  edges (BlockStmt at b k) n a =
      let m = suc n + points b in
      let f = first k m a.follows in
      statement n a (first b (suc n) f ∷ []) ++ edges b (suc n) (followed_by a f) ++ edges k m a
  edges (IfStmt at e b k) n a =
      let m = suc n + points b in
      let f = first k m a.follows in
      statement n a (first b (suc n) f ∷ f ∷ []) ++ edges b (suc n) (followed_by a f) ++ edges k m a
  edges (IfElseStmt at e b c k) n a =
      let l = suc n + points b in
      let m = l + points c in
      let f = first k m a.follows in
      statement n a (first b (suc n) f ∷ first c l f ∷ []) ++ edges b (suc n) (followed_by a f) ++ edges c l (followed_by a f)
      ++ edges k m a
  edges (WhileStmt at e b k) n a =
      let m = suc n + points b in
      let f = first k m a.follows in
      statement n a (first b (suc n) n ∷ f ∷ []) ++ edges b (suc n) (in_loop (followed_by a f) n) ++ edges k m a
  edges (ForStmt at i e t b k) n a =
      let h = n + points i in
      let l = suc h + points t in
      let m = l + points b in
      let f = first k m a.follows in
      let s = first t (suc h) h in
      edges i n (followed_by a h) ++ statement h a (first b l s ∷ past e f) ++ edges t (suc h) (in_step a h)
      ++ edges b l (in_loop (followed_by a f) s) ++ edges k m a
  edges (LoopStmt at b k) n a =
      let m = suc n + points b in
      let f = first k m a.follows in
      statement n a (first b (suc n) n ∷ []) ++ edges b (suc n) (in_loop (followed_by a f) n) ++ edges k m a
  edges (BreakStmt at k) n a = statement n a (listed a.breaks) ++ edges k (suc n) a
  edges (ContinueStmt at k) n a = statement n a (listed a.continues) ++ edges k (suc n) a
  edges (ReturnStmt at v k) n a = statement n a [] ++ edges k (suc n) a
  edges (ThrowStmt at v k) n a = statement n a [] ++ edges k (suc n) a
  edges (TryStmt at b q x h k) n a =
      let c = suc n + points b in
      let m = suc c + points h in
      let f = first k m a.follows in
      statement n a (first b (suc n) f ∷ []) ++ edges b (suc n) (in_try (followed_by a f) c)
      ++ leads c (first h (suc c) f ∷ []) ++ edges h (suc c) (followed_by a f) ++ edges k m a
  edges (ChooseStmt at bs k) n a =
      let m = suc n + branch_points bs in
      let f = first k m a.follows in
      statement n a (whens bs (suc n)) ++ branch_edges bs (suc n) (followed_by a f) ++ edges k m a
  edges (DeclareStmt at i v k) n a = statement n a (first k (suc n) a.follows ∷ []) ++ edges k (suc n) a
  edges (AssignStmt at xs v k) n a = statement n a (first k (suc n) a.follows ∷ []) ++ edges k (suc n) a
  edges (ModifyStmt at xs c k) n a = statement n a (first k (suc n) a.follows ∷ []) ++ edges k (suc n) a
  edges (CallStmt at xs es k) n a = statement n a (first k (suc n) a.follows ∷ []) ++ edges k (suc n) a
  edges (WaitStmt at w k) n a = statement n a (first k (suc n) a.follows ∷ []) ++ edges k (suc n) a

  pub branch_edges : Branches → ℕ → Around → List (Edge ℕ)
  branch_edges NoBranches n a = []
  branch_edges (MoreBranches at w b bs) n a =
      leads n (first b (suc n) a.follows ∷ []) ++ edges b (suc n) a ++ branch_edges bs (suc (n + points b)) a

-- the control graph of a whole body, and its closing brace
abbrev pub closing : Body → ℕ
closing b = suc (points b)

abbrev pub control : Body → List (Edge ℕ)
control b =
    leads 0 (first b 1 (closing b) ∷ [])
    ++ edges b 1 (record { follows = closing b; breaks = None; continues = None; catches = None })
