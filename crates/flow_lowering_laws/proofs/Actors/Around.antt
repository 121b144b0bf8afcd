-- What is around a lowered body fits the items below it.
use Rattle.std.proofs.Common.{◌≡◌, ℕ, zero, suc, ◌+◌, ◌<◌, ◌≤◌, Bool, true, false, List, [], ◌∷◌, map, length, refl, sym, subst, arith}
use Rattle.std.specs.declared.option.Option.{Option}
use Rattle.std.specs.declared.option.Option.TheVariants.{None, Some}
use Rattle.std.specs.Prelude.{is_none}
use Rattle.flow_tree.specs.Body.{Body, End}
use Rattle.flow_class.specs.Classes.{DropInstr, LastTree, GotoLast, PassLast, ClassTree}
use Rattle.flow_class.specs.Code.{Last}
use Rattle.flow_class.specs.Scopes.{Scope, Mark, Var, scope, outside, Above}
use Rattle.flow_catch.specs.Inner.{listed, left_lists}
use Rattle.flow_meaning.specs.Requests.{Spot}
use Rattle.flow_meaning.specs.Evaluating.{Names}
use Rattle.flow_meaning.specs.Items.{Site, Loop, Item, Do, Leave, Round, Check, Made, Handler, Over, site_at}
use Rattle.flow_meaning.specs.SourceStep.{Breaks, Continues}
use Rattle.flow_meaning.specs.SourceStep as source
use Rattle.flow_meaning.specs.Carry.{Pos, entry, after, Target, At, Again, EndsScope, at, JumpsTo, here, jump, SimpleAt, PassAt, DropThen, GoesOn, EndsAt}
use Rattle.flow_meaning.specs.Carry as carry
use Rattle.flow_meaning.specs.Carries.{ExitAt}
use Rattle.flow_split.specs.Around.{Exit, Text, Scoped, Part, Hand, Around, inner, pass, guarded, handling}
use Rattle.flow_split.specs.Counts.{Next}
use Rattle.flow_split.specs.Lowered.{drop_of, exits, finished}
use Rattle.flow_lowering_laws.proofs.Actors.Standing.{InstrsAt, Stands, at_entry}
use Rattle.flow_lowering_laws.proofs.Actors.Held.{HandIn, HandlerIn, uncaught}

module _ (ns : Names) (c : ClassTree) where
  -- jumps in front
  pub goes_on : {p q r : Pos} → JumpsTo ns c p q → JumpsTo ns c q r → JumpsTo ns c p r
  goes_on here g = g
  goes_on (jump b e f) g = jump b e (goes_on f g)

  drop_before : (ds : List ℕ) (p q : Pos) (follows : Pos → Type 0) → JumpsTo ns c p q → (follows q → follows p) → DropThen ns c ds q follows → DropThen ns c ds p follows
  drop_before [] p q follows g f h = f h
  drop_before (d ∷ ds) p q follows g f h = (h.0, goes_on g h.1, h.2, h.3)

  pub goes_before : (s : Scope) (r : List Item) (ts : List Target) (p q : Pos) → JumpsTo ns c p q → GoesOn ns c s r ts q → GoesOn ns c s r ts p
  goes_before s (Leave ∷ r) ts p q g h = drop_before (scope s) p q (GoesOn ns c (outside s) r ts) g (goes_before (outside s) r ts p q g) h
  goes_before s (Do x k ∷ r) (At t ∷ ts) p q g h = goes_on g h
  goes_before s (Made l ∷ r) (Again b ∷ ts) p q g h = (h.0, h.1, goes_on g h.2, h.3, h.4)
  goes_before s (Handler y x k ∷ r) (carry.Hand b n ∷ ts) p q g h = goes_before s r ts p q g h
  goes_before s _ ts p q g h = absurd h

  pub exits_before : (how : source.Exit) (s : Scope) (r : List Item) (ts : List Target) (p q : Pos) → JumpsTo ns c p q → ExitAt ns c how s r ts q → ExitAt ns c how s r ts p
  exits_before how s (Leave ∷ r) ts p q g h = drop_before (scope s) p q (ExitAt ns c how (outside s) r ts) g (exits_before how (outside s) r ts p q g) h
  exits_before how s (Do x k ∷ r) (t ∷ ts) p q g h = exits_before how s r ts p q g h
  exits_before how s (Handler y x k ∷ r) (t ∷ ts) p q g h = exits_before how s r ts p q g h
  exits_before Breaks s (Made l ∷ r) (t ∷ ts) p q g h = goes_before s r ts p q g h
  exits_before Continues s (Made l ∷ r) (t ∷ ts) p q g h = goes_before s (Made l ∷ r) (t ∷ ts) p q g h
  exits_before how s _ ts p q g h = absurd h

  -- a body's end goes on with the items, or is that of the text
  abbrev pub EndsBy : (void : Bool) → Exit → Option Hand → Scope → List Item → List Target → Type 0
  EndsBy void (Text close) h s [] ts = (h ≡ None) × (is_none close ≡ void)
  EndsBy void (Scoped last) h s (Leave ∷ r) ts = (p : Pos) → at ns c p ≡ Last last → GoesOn ns c (outside s) r ts p
  EndsBy void x h s r ts = ⊥

  -- behind so many scopes the loop is left, or goes on
  abbrev pub LeavesBy : source.Exit → LastTree → (depth : ℕ) → Scope → List Item → List Target → Type 0
  LeavesBy how last d s [] ts = ⊥
  LeavesBy how last zero s (Leave ∷ r) ts = ⊥
  LeavesBy how last (suc d) s (Leave ∷ r) ts = LeavesBy how last d (outside s) r ts
  LeavesBy how last d s (Do x k ∷ r) [] = ⊥
  LeavesBy how last d s (Do x k ∷ r) (t ∷ ts) = LeavesBy how last d s r ts
  LeavesBy how last d s (Handler y x k ∷ r) [] = ⊥
  LeavesBy how last d s (Handler y x k ∷ r) (t ∷ ts) = LeavesBy how last d s r ts
  LeavesBy how last d s (Made l ∷ r) ts = (d ≡ 0) × ((p : Pos) → at ns c p ≡ Last last → ExitAt ns c how s (Made l ∷ r) ts p)
  LeavesBy how last d s (Round l ∷ r) ts = ⊥
  LeavesBy how last d s (Check l ∷ r) ts = ⊥
  LeavesBy how last d s (Over ∷ r) ts = ⊥

  -- the locals in force are locals of the class
  abbrev pub InClass : Scope → Type 0
  InClass [] = Unit {0}
  InClass (Mark ∷ s) = InClass s
  InClass (Var x k ∷ s) = (k < length c.locals) × InClass s

  -- what is around a body fits the items, in a loop or not; the numbers that come next are above those in force
  pub record Here (looped : Bool) (w : Around) (s : Scope) (n : Next) (x : Site) (r : List Item) (ts : List Target) : Type 0 where
    pub ends : EndsBy x.is_void w.exit w.hand s r ts
    pub breaks : looped ≡ true → LeavesBy Breaks (GotoLast w.looped.out) w.looped.depth s r ts
    pub continues : looped ≡ true → LeavesBy Continues w.looped.again w.looped.depth s r ts
    pub hand : HandIn w.hand w.depth r ts
    pub named : w.caught ≡ x.caught
    pub above : Above n.local s
    pub known : InClass s
    pub group : n.group ≡ x.spot.group

  pub above_more : (l m : ℕ) (s : Scope) → l ≤ m → Above l s → Above m s
  above_more l m [] le a = tt
  above_more l m (Mark ∷ s) le a = above_more l m s le a
  above_more l m (Var x k ∷ s) le a = (omega (arith, a.0), above_more l m s le a.1)

  ends_scope : (void : Bool) (x : Exit) (h : Option Hand) (s : Scope) (r : List Item) (ts : List Target) → EndsBy void x h s r ts → EndsScope r
  ends_scope void (Text close) h s [] ts e = tt
  ends_scope void (Text close) h s (Leave ∷ r) ts e = absurd e
  ends_scope void (Text close) h s (Do x k ∷ r) ts e = absurd e
  ends_scope void (Text close) h s (Round l ∷ r) ts e = absurd e
  ends_scope void (Text close) h s (Check l ∷ r) ts e = absurd e
  ends_scope void (Text close) h s (Made l ∷ r) ts e = absurd e
  ends_scope void (Text close) h s (Handler y x k ∷ r) ts e = absurd e
  ends_scope void (Text close) h s (Over ∷ r) ts e = absurd e
  ends_scope void (Scoped last) h s [] ts e = absurd e
  ends_scope void (Scoped last) h s (Leave ∷ r) ts e = tt
  ends_scope void (Scoped last) h s (Do x k ∷ r) ts e = absurd e
  ends_scope void (Scoped last) h s (Round l ∷ r) ts e = absurd e
  ends_scope void (Scoped last) h s (Check l ∷ r) ts e = absurd e
  ends_scope void (Scoped last) h s (Made l ∷ r) ts e = absurd e
  ends_scope void (Scoped last) h s (Handler y x k ∷ r) ts e = absurd e
  ends_scope void (Scoped last) h s (Over ∷ r) ts e = absurd e
  ends_scope void (Part last) h s r ts e = absurd e

  pub here_ends_scope : (l : Bool) (w : Around) (s : Scope) (n : Next) (x : Site) (r : List Item) (ts : List Target) → Here l w s n x r ts → EndsScope r
  here_ends_scope l w s n x r ts h = ends_scope x.is_void w.exit w.hand s r ts h.ends

  -- further on in the text
  pub here_past : (l : Bool) (w : Around) (s : Scope) (n m : Next) (x : Site) (y : Spot) (r : List Item) (ts : List Target) → n.local ≤ m.local → m.group ≡ y.group → Here l w s n x r ts
      → Here l w s m (site_at y x) r ts
  here_past l w s n m x y r ts le e h = record {
    ends = h.ends;
    breaks = h.breaks;
    continues = h.continues;
    hand = h.hand;
    named = h.named;
    above = above_more n.local m.local s le h.above;
    known = h.known;
    group = e;
  }

  -- with one more local
  ends_more : (void : Bool) (y : List ℕ) (k : ℕ) (x : Exit) (h : Option Hand) (s : Scope) (r : List Item) (ts : List Target) → EndsBy void x h s r ts → EndsBy void x h (Var y k ∷ s) r ts
  ends_more void y k (Text close) h s [] ts e = e
  ends_more void y k (Scoped last) h s (Leave ∷ r) ts e = e
  ends_more void y k _ h s r ts e = absurd e

  leaves_more : (y : List ℕ) (k : ℕ) (how : source.Exit) (last : LastTree) (d : ℕ) (s : Scope) (r : List Item) (ts : List Target) → EndsScope r
      → LeavesBy how last d s r ts → LeavesBy how last d (Var y k ∷ s) r ts
  leaves_more y k how last d s [] ts i h = absurd h
  leaves_more y k how last zero s (Leave ∷ r) ts i h = absurd h
  leaves_more y k how last (suc d) s (Leave ∷ r) ts i h = h
  leaves_more y k how last d s (Do x b ∷ r) ts i h = absurd i
  leaves_more y k how last d s (Round l ∷ r) ts i h = absurd i
  leaves_more y k how last d s (Check l ∷ r) ts i h = absurd i
  leaves_more y k how last d s (Made l ∷ r) ts i h = absurd i
  leaves_more y k how last d s (Handler z x b ∷ r) ts i h = absurd i
  leaves_more y k how last d s (Over ∷ r) ts i h = absurd i

  pub here_local : (l : Bool) (w : Around) (s : Scope) (n m : Next) (x : Site) (z : Spot) (r : List Item) (ts : List Target) (y : List ℕ) → n.local < m.local → n.local < length c.locals
      → m.group ≡ z.group → Here l w s n x r ts
      → Here l w (Var y n.local ∷ s) m (site_at z x) r ts
  here_local l w s n m x z r ts y lt own e h =
      let i = here_ends_scope l w s n x r ts h in
      record {
        ends = ends_more x.is_void y n.local w.exit w.hand s r ts h.ends;
        breaks = λ t. leaves_more y n.local Breaks (GotoLast w.looped.out) w.looped.depth s r ts i (h.breaks t);
        continues = λ t. leaves_more y n.local Continues w.looped.again w.looped.depth s r ts i (h.continues t);
        hand = h.hand;
        named = h.named;
        above = (lt, above_more n.local m.local s (omega arith) h.above);
        known = (own, h.known);
        group = e;
      }

  -- in a scope of its own, over what stands at q
  hand_inner : (h : Option Hand) (d : ℕ) (x : Site) (k : Body) (q : Pos) (r : List Item) (ts : List Target) → HandIn h d r ts → HandIn h (suc d) (Leave ∷ Do x k ∷ r) (At q ∷ ts)
  hand_inner None d x k q r ts i = i
  hand_inner (Some h) d x k q r ts i = i

  goto_on : (q : ℕ) (p : Pos) → at ns c p ≡ Last (GotoLast q) → JumpsTo ns c p (entry q)
  goto_on q p e = jump q e here

  pub here_inner : (l : Bool) (w : Around) (s : Scope) (n m : Next) (x z : Site) (y : Spot) (k : Body) (q : ℕ) (r : List Item) (ts : List Target) → n.local ≤ m.local → m.group ≡ y.group
      → Here l w s n x r ts
      → Here l (inner w (Scoped (GotoLast q))) (Mark ∷ s) m (site_at y x) (Leave ∷ Do z k ∷ r) (At (entry q) ∷ ts)
  here_inner l w s n m x z y k q r ts le e h = record {
    ends = λ p at. goto_on q p at;
    breaks = h.breaks;
    continues = h.continues;
    hand = hand_inner w.hand w.depth z k (entry q) r ts h.hand;
    named = h.named;
    above = above_more n.local m.local s le h.above;
    known = h.known;
    group = e;
  }

  -- the handler of a catch
  pub here_handler : (l : Bool) (w : Around) (s : Scope) (n m : Next) (x z : Site) (y : Spot) (v : List ℕ) (k : Body) (e q : ℕ) (r : List Item) (ts : List Target) → n.local ≤ e → e < m.local
      → e < length c.locals → m.group ≡ y.group
      → Here l w s n x r ts → Here l (handling w (Scoped (GotoLast q)) v) (Var v e ∷ Mark ∷ s) m (record (site_at y x) { caught = Some v }) (Leave ∷ Do z k ∷ r) (At (entry q) ∷ ts)
  here_handler l w s n m x z y v k e q r ts le lt own g h = record {
    ends = λ p at. goto_on q p at;
    breaks = h.breaks;
    continues = h.continues;
    hand = hand_inner w.hand w.depth z k (entry q) r ts h.hand;
    named = refl;
    above = (lt, above_more n.local m.local s (omega arith) h.above);
    known = (own, h.known);
    group = g;
  }

  -- a try body
  pub here_try : (l : Bool) (w : Around) (s : Scope) (n m : Next) (x z u : Site) (y : Spot) (v : List ℕ) (k d : Body) (hand : Hand) (q : ℕ) (r : List Item) (ts : List Target) → n.local ≤ m.local
      → m.group ≡ y.group
      → Here l w s n x r ts
      → Here l (guarded w (Scoped (GotoLast q)) hand) (Mark ∷ s) m (site_at y x) (Leave ∷ Handler v u d ∷ Do z k ∷ r) (carry.Hand hand.block hand.error ∷ At (entry q) ∷ ts)
  here_try l w s n m x z u y v k d hand q r ts le e h = record {
    ends = λ p at. goto_on q p at;
    breaks = h.breaks;
    continues = h.continues;
    hand = (refl, refl);
    named = h.named;
    above = above_more n.local m.local s le h.above;
    known = h.known;
    group = e;
  }

  -- the body of a loop without a step
  hand_looped : (h : Option Hand) (d : ℕ) (x : Site) (l : Loop) (k : Body) (b : ℕ) (q : Pos) (r : List Item) (ts : List Target) → HandIn h d r ts
      → HandIn h (d + 1) (Leave ∷ Made l ∷ Do x k ∷ r) (Again b ∷ At q ∷ ts)
  hand_looped None d x l k b q r ts i = i
  hand_looped (Some h) d x l k b q r ts i = subst (λ e. HandlerIn h e (Leave ∷ Made l ∷ Do x k ∷ r) (Again b ∷ At q ∷ ts)) (one_more d) i
    where
      one_more : (d : ℕ) → suc d ≡ d + 1
      one_more d = omega arith

  pub here_loop : (l : Bool) (w : Around) (s : Scope) (n m : Next) (x z : Site) (y : Spot) (loop : Loop) (k : Body) (h q : ℕ) (r : List Item) (ts : List Target) → loop.step ≡ End → n.local ≤ m.local
      → m.group ≡ y.group
      → Here l w s n x r ts → Here true (pass w 1 (PassLast h) q) (Mark ∷ s) m (site_at y x) (Leave ∷ Made loop ∷ Do z k ∷ r) (Again h ∷ At (entry q) ∷ ts)
  here_loop l w s n m x z y loop k h q r ts none le e i =
      let again : (p : Pos) → at ns c p ≡ Last (PassLast h) → GoesOn ns c s (Made loop ∷ Do z k ∷ r) (Again h ∷ At (entry q) ∷ ts) p =
      λ p e. (p, p, here, subst (λ b. SimpleAt ns c s (Round loop ∷ Do z k ∷ r) (Again h ∷ At (entry q) ∷ ts) b p p s) (sym none) (refl, refl), (p, here, e)) in
      record {
        ends = again;
        breaks = λ t. (refl, λ p at. goto_on q p at);
        continues = λ t. (refl, again);
        hand = hand_looped w.hand w.depth z loop k h (entry q) r ts i.hand;
        named = i.named;
        above = above_more n.local m.local s le i.above;
        known = i.known;
        group = e;
      }

  -- the end of a body
  pub drop_then : (ds : List ℕ) (p : Pos) (last : LastTree) (follows : Pos → Type 0) → ((q : Pos) → at ns c q ≡ Last last → follows q) → InstrsAt ns c p (drop_of ds) last → DropThen ns c ds p follows
  drop_then [] p last follows f h = f p h
  drop_then (d ∷ ds) p last follows f h = (p, here, h.0, f (after p) h.1)

  pub end_at : (void : Bool) (w : Around) (x : Exit) (s : Scope) (r : List Item) (ts : List Target) (p : Pos) (n : ℕ) (y : Spot) → EndsBy void x w.hand s r ts
      → Stands ns c p n y w.hand (finished w s x)
      → EndsAt ns c void s r ts p
  end_at void w (Text None) s [] ts p n y e st = subst (λ v. EndsAt ns c v s [] ts p) e.1 (p, here, st.code)
  end_at void w (Text (Some close)) s [] ts p n y e st =
      subst (λ v. EndsAt ns c v s [] ts p) e.1 (p, _, here, st.code, refl, uncaught ns c p n y w.hand (finished w s (Text (Some close))) e.0 st)
  end_at void w (Scoped last) s (Leave ∷ r) ts p n y e st = drop_then (scope s) p last (GoesOn ns c (outside s) r ts) e st.code
  end_at void w _ s r ts p n y e st = absurd e

  -- a break or a continue
  exit_drops : (how : source.Exit) (last : LastTree) (ds : List ℕ) (rest : List (List ℕ)) (p : Pos) (follows : Pos → Type 0)
      → ((q : Pos) → InstrsAt ns c q (map DropInstr rest) last → follows q) → InstrsAt ns c p (map DropInstr (listed ds rest)) last → DropThen ns c ds p follows
  exit_drops how last [] rest p follows f h = f p h
  exit_drops how last (d ∷ ds) rest p follows f h = (p, here, h.0, f (after p) h.1)

  exit_in : (how : source.Exit) (last : LastTree) (d : ℕ) (s : Scope) (r : List Item) (ts : List Target) (p : Pos) → LeavesBy how last d s r ts → InstrsAt ns c p (map DropInstr (left_lists d s)) last
      → ExitAt ns c how s r ts p
  exit_in how last d s [] ts p l h = absurd l
  exit_in how last zero s (Leave ∷ r) ts p l h = absurd l
  exit_in how last (suc d) s (Leave ∷ r) ts p l h =
      exit_drops how last (scope s) (left_lists d (outside s)) p (ExitAt ns c how (outside s) r ts) (λ q i. exit_in how last d (outside s) r ts q l i) h
  exit_in how last d s (Do x k ∷ r) [] p l h = absurd l
  exit_in how last d s (Do x k ∷ r) (t ∷ ts) p l h = exit_in how last d s r ts p l h
  exit_in how last d s (Handler y x k ∷ r) [] p l h = absurd l
  exit_in how last d s (Handler y x k ∷ r) (t ∷ ts) p l h = exit_in how last d s r ts p l h
  exit_in how last d s (Made m ∷ r) ts p l h = l.1 p (subst (λ e. InstrsAt ns c p (map DropInstr (left_lists e s)) last) l.0 h)
  exit_in how last d s (Round m ∷ r) ts p l h = absurd l
  exit_in how last d s (Check m ∷ r) ts p l h = absurd l
  exit_in how last d s (Over ∷ r) ts p l h = absurd l

  pub exit_at : (how : source.Exit) (t : Bool) (w : Around) (s : Scope) (n : Next) (last : LastTree) (r : List Item) (ts : List Target) (p : Pos) (x : Spot) → LeavesBy how last w.looped.depth s r ts
      → Stands ns c p n.block x w.hand (exits t w s n last) → ExitAt ns c how s r ts p
  exit_at how false w s n last r ts p x l st = exit_in how last w.looped.depth s r ts p l st.code
  exit_at how true w s n last r ts p x l st =
      exits_before how s r ts p (entry n.block) (jump n.block st.code here) (exit_in how last w.looped.depth s r ts (entry n.block) l (at_entry ns c n.block _ st.more.0))
