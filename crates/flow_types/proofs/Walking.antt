-- Walks along the items of a body: what stands when a statement, a body or a scope is done.
use Rattle.std.proofs.Common.{◌≡◌, ℕ, Bool, true, false, not, ◌&&◌, ◌||◌, List, [], ◌∷◌, ◌++◌, map, take, length, refl, sym, ap, ap₂, ◌∙◌, append_assoc, append-nil}
use Rattle.std.specs.declared.option.Option.{Option}
use Rattle.std.specs.declared.option.Option.TheVariants.{None, Some}
use Rattle.flow_base.specs.declared.place.Place.{Place}
use Rattle.flow_tree.specs.Tree.{TypeTree}
use Rattle.flow_tree.specs.Body.{Body, End, DeclareStmt, WaitStmt, IntoTree, Branches, NoBranches}
use Rattle.flow_ast.specs.Slots.{body_slots, branch_slots}
use Rattle.flow_ast.specs.TypingNames.{named}
use Rattle.flow_ast.specs.Typing.{is_there}
use Rattle.flow_rules.specs.declared.rule.SemanticRule.{SemanticRule}
use Rattle.flow_rules.specs.Least.{unless}
use Rattle.flow_rules.specs.Known.{is_predefined}
use Rattle.flow_rules.specs.Judged.{Setting}
use Rattle.flow_rules.specs.Items.{Env, item, with_states, declared, waited, behind, started, slot_names, among, fresh, body_refusal, branch_refusal}
use Rattle.flow_rules.proofs.Lesser.{holds, no_item}
use Rattle.flow_types.specs.WalkView.{bare, Grows, Steps, Passes}

-- variables and names of state variables, put into what is in force
abbrev put : Env → List (List ℕ × TypeTree) → List (List ℕ) → Env
put e vs ss = record e { setting = record e.setting { vars = vs }; states = ss }

abbrev around : Env → Bool → Bool → Env
around e l c = record e { looped = l; caught = c }

map_take : {A X : Type 0} (f : A → X) (xs ys : List A) → map f (take (length xs) ys) ≡ take (length (map f xs)) (map f ys)
map_take f [] ys = refl
map_take f (x ∷ xs) [] = refl
map_take f (x ∷ xs) (y ∷ ys) = ap (λ l. f y ∷ l) (map_take f xs ys)

pub take_own : {A : Type 0} (xs : List A) → take (length xs) xs ≡ xs
take_own [] = refl
take_own (x ∷ xs) = ap (λ l. x ∷ l) (take_own xs)

pub take_first : {A : Type 0} (xs ys : List A) → take (length xs) (xs ++ ys) ≡ xs
take_first [] ys = refl
take_first (x ∷ xs) ys = ap (λ l. x ∷ l) (take_first xs ys)

take_less : {A : Type 0} (xs ys zs : List A) → take (length xs) ys ≡ xs → take (length ys) zs ≡ ys → take (length xs) zs ≡ xs
take_less [] ys zs h g = refl
take_less (x ∷ xs) [] zs h g = cc
take_less (x ∷ xs) (y ∷ ys) [] h g = cc
take_less (x ∷ xs) (y ∷ ys) (z ∷ zs) h g =
    let a : y ≡ x = cc in
    let b : take (length xs) ys ≡ xs = cc in
    let c : z ≡ y = cc in
    let d : take (length ys) zs ≡ ys = cc in
    ap₂ (λ u l. u ∷ l) (c ∙ a) (take_less xs ys zs b d)

-- a statement adds to the variables in force at most
pub vars_declared : (e : Env) (i : IntoTree) → take (length e.setting.vars) (declared e i).setting.vars ≡ e.setting.vars
vars_declared e i = take_first e.setting.vars _

pub vars_waited : (e : Env) (i : Option IntoTree) → take (length e.setting.vars) (waited e i).setting.vars ≡ e.setting.vars
vars_waited e None = take_own e.setting.vars
vars_waited e (Some i) = vars_declared e i

pub vars_started : (e : Env) (b : Body) → take (length e.setting.vars) (started e b).setting.vars ≡ e.setting.vars
vars_started e (DeclareStmt at i v k) = vars_declared e i
vars_started e (WaitStmt at w k) = vars_waited e w.into
vars_started e _ = take_own e.setting.vars

pub placeless_waited : (e : Env) (i : Option IntoTree) → bare (waited e i) ≡ bare e
placeless_waited e None = refl
placeless_waited e (Some i) = refl

pub placeless_started : (e : Env) (b : Body) → bare (started e b) ≡ bare e
placeless_started e (WaitStmt at w k) = placeless_waited e w.into
placeless_started e _ = refl

-- along the statements of a body: what is in force at the rest of it
pub record Along (first e : Env) (rest all : Body) : Type 0 where
  pub refusal : body_refusal first all ≡ body_refusal e rest
  pub states : e.states ++ slot_names (body_slots rest) ≡ first.states ++ slot_names (body_slots all)
  pub vars : take (length first.setting.vars) e.setting.vars ≡ first.setting.vars
  pub others : bare e ≡ bare first

pub along_first : (e : Env) (b : Body) → Along e e b b
along_first e b = record { refusal = refl; states = refl; vars = take_own e.setting.vars; others = refl }

pub along_step : (first e new : Env) (f : Body → Body) (rest all : Body) → Along first e (f rest) all → Steps e new f → Along first new rest all
along_step first e new f rest all h s = record {
  refusal = h.refusal ∙ s.refusal rest;
  states = s.states rest ∙ h.states;
  vars = take_less first.setting.vars e.setting.vars new.setting.vars h.vars (ap (λ n. take (length e.setting.vars) n.setting.vars) s.exact ∙ vars_started e (f End));
  others = ap bare s.exact ∙ placeless_started e (f End) ∙ h.others;
}

pub along_last : (first e : Env) (all : Body) → Along first e End all → (body_refusal first all ≡ None) × Grows first e all
along_last first e all h = (h.refusal, record { states = sym (append-nil e.states) ∙ h.states; vars = h.vars; others = h.others })

-- behind a scope its variables are no more in force
pub scope_closed : (e mid inner new : Env) (b : Body) (ss : List (List ℕ)) → mid.states ≡ e.states ++ ss → take (length e.setting.vars) mid.setting.vars ≡ e.setting.vars → bare mid ≡ bare e
    → Grows mid inner b → new.setting.vars ≡ take (length e.setting.vars) inner.setting.vars → new.states ≡ inner.states → bare new ≡ bare inner → new.looped ≡ e.looped → new.caught ≡ e.caught
    → new ≡ with_states e (ss ++ slot_names (body_slots b))
scope_closed e mid inner new b ss ms mv mo g v s o l c =
    let vars : new.setting.vars ≡ e.setting.vars = v ∙ take_less e.setting.vars mid.setting.vars inner.setting.vars mv g.vars in
    let states : new.states ≡ e.states ++ (ss ++ slot_names (body_slots b)) =
    s ∙ g.states ∙ ap (λ xs. xs ++ slot_names (body_slots b)) ms ∙ append_assoc e.states ss (slot_names (body_slots b)) in
    ap (λ n. around (put n new.setting.vars new.states) new.looped new.caught) (o ∙ g.others ∙ mo)
    ∙ ap₂ (λ vs xs. around (put e vs xs) new.looped new.caught) vars states
    ∙ ap₂ (λ x y. around (put e e.setting.vars (e.states ++ (ss ++ slot_names (body_slots b)))) x y) l c

-- variables are cut where a map's entries are
pub vars_cut : {A X : Type 0} (f : A → X) (first inner new : List A) (n : ℕ) → n ≡ length first → new ≡ take n inner → map f new ≡ take (length (map f first)) (map f inner)
vars_cut f first inner new n len is = ap (map f) is ∙ ap (λ m. map f (take m inner)) len ∙ map_take f first inner

-- a variable whose name is free is not in force
pub none_there : {A : Type 0} (o : Option A) → is_there o ≡ false → o ≡ None
none_there None h = refl
none_there (Some x) h = cc

first_false : (a b : Bool) → not (a || b) ≡ true → a ≡ false
first_false true b h = cc
first_false false b h = refl

second_false : (a b : Bool) → not (a || b) ≡ true → b ≡ false
second_false true b h = cc
second_false false true h = cc
second_false false false h = refl

not_true : (a : Bool) → a ≡ false → not a ≡ true
not_true true h = cc
not_true false h = refl

pub fresh_free : (s : Setting) (ss : List (List ℕ)) (state : Bool) (x : List ℕ) → fresh s ss state x ≡ None → named s.vars x ≡ None
fresh_free s ss state x h =
    let a = is_there (named s.vars x) in
    let b = is_predefined x in
    let c = is_there (s.known x) in
    let d = state && among ss x in
    let all : not (((a || b) || c) || d) ≡ true = holds _ _ h in
    let three : not ((a || b) || c) ≡ true = not_true _ (first_false ((a || b) || c) d all) in
    let two : not (a || b) ≡ true = not_true _ (first_false (a || b) c three) in
    none_there (named s.vars x) (first_false a b two)

pub fresh_new : (s : Setting) (ss : List (List ℕ)) (x : List ℕ) → fresh s ss true x ≡ None → among ss x ≡ false
fresh_new s ss x h =
    let a = is_there (named s.vars x) in
    let b = is_predefined x in
    let c = is_there (s.known x) in
    second_false ((a || b) || c) (among ss x) (holds _ _ h)

-- along the branches of a `choose`
pub record Beside (first e : Env) (rest all : Branches) : Type 0 where
  pub refusal : branch_refusal first all ≡ branch_refusal e rest
  pub states : e.states ++ slot_names (branch_slots rest) ≡ first.states ++ slot_names (branch_slots all)
  pub others : e ≡ record first { states = e.states }

pub beside_first : (e : Env) (bs : Branches) → Beside e e bs bs
beside_first e bs = record { refusal = refl; states = refl; others = refl }

pub beside_step : (first e new : Env) (f : Branches → Branches) (rest all : Branches) → Beside first e (f rest) all → Passes e new f → Beside first new rest all
beside_step first e new f rest all h p = record {
  refusal = h.refusal ∙ p.refusal rest;
  states = p.states rest ∙ h.states;
  others = p.others ∙ ap (λ (n : Env). record n { states = new.states }) h.others;
}

pub beside_last : (first e : Env) (all : Branches) → Beside first e NoBranches all → (branch_refusal first all ≡ None) × (e ≡ with_states first (slot_names (branch_slots all)))
beside_last first e all h = (h.refusal, h.others ∙ ap (λ xs. record first { states = xs }) (sym (append-nil e.states) ∙ h.states))
