-- Whole class texts: records and functions in any order, and then classes.
use Rattle.std.proofs.Common.{◌≡◌, ℕ, zero, suc, ◌+◌, ◌≤◌, ◌<◌, List, [], ◌∷◌, ◌++◌, length, refl, sym, ap, ◌∙◌, subst, arith, append_assoc, ◌⊎◌, inl, inr}
use Rattle.std.specs.Prelude.{codes, drop}
use Rattle.std.proofs.lemmas.List.{append-nil}
use Rattle.std.specs.declared.option.Option.{Option}
use Rattle.std.specs.declared.option.Option.TheVariants.{None, Some}
use Rattle.flow_base.specs.declared.place.Place.{Place}
use Rattle.flow_tree.specs.declared.limits.TheConstants.{OF_CLASS_TEXT}
use Rattle.flow_tree.specs.declared.token.Token.{Token}
use Rattle.flow_tree.specs.declared.token.Token.TheVariants as token
use Rattle.flow_tree.specs.declared.token.Word.{Word}
use Rattle.flow_tree.specs.declared.token.Word.TheVariants as word
use Rattle.flow_tree.specs.declared.token.Sign.{Sign}
use Rattle.flow_tree.specs.declared.token.Sign.TheVariants as sign
use Rattle.flow_tree.specs.declared.token.Spot.{Spot}
use Rattle.flow_tree.specs.declared.ty.Ident.{Ident}
use Rattle.flow_tree.specs.GrammarToken.{Marked, opens}
use Rattle.flow_tree.specs.Grammar.{sign_at, name_at}
use Rattle.flow_parse.specs.Reading.{token_at}
use Rattle.flow_parse.specs.Openers.{AsFirst, NameToken, TypeToken}
use Rattle.flow_parse.proofs.Looking.{Looks, Back}
use Rattle.flow_parse.proofs.Begins.{Starts, starts_append}
use Rattle.flow_parse.proofs.Failing.{Inhabited}
use Rattle.flow_parse.proofs.Leaves.{Leaves, Turns}
use Rattle.flow_classread.proofs.Words.{name_no_word}
-- nothing stands there, or a token and a part
use Rattle.flow_tree.specs.Tree.{TypeTree, NamedType}
use Rattle.flow_tree.specs.Body.{End}
use Rattle.flow_tree.specs.Decls.{RecordTree, RoutineTree}
use Rattle.flow_tree.specs.GrammarToken.{Part, Node, begin, AllInLimitsOf, GoodOf}
use Rattle.flow_tree.specs.Grammar.{TypeRule, int_type, bool_type, string_type, void_type, error_type, named_type, wrapped_type, wrapper_word, node_name}
use Rattle.flow_tree.specs.GrammarStmt.{no_stmts}
use Rattle.flow_tree.specs.declared.decl.RoutineKind.{RoutineKind}
use Rattle.flow_tree.specs.GrammarDecl.{RoutineRule, routine, no_params, function, fields}
use Rattle.flow_exprs.proofs.Goes.{nowhere}
use Rattle.flow_parse.specs.Failing.{Sees, Only, Never, Stops}
use Rattle.flow_parse.specs.Follow.{AtEnd}
use Rattle.flow_parse.specs.Parts.{Marks, Record, Function}
use Rattle.flow_parse.proofs.Begins.{type_starts}
use Rattle.flow_class.specs.Classes.{ClassTree}
use Rattle.flow_classprint.specs.declared.version.Version.{Version}
use Rattle.flow_classprint.specs.ClassGrammar.{functions_of, said, HeadsRule, no_heads, more_records, more_functions, HeadRecordRule, record_rule, HeadFunctionRule, function_rule, ClassRule, class, ClassesRule, no_classes, more_classes}
use Rattle.flow_classread.specs.Parts.{Both, Heads}
use Rattle.flow_classread.proofs.ClassForms.{AfterClass, some_after_returns, class_turns, class_tree}

some_no_word : (a : List ℕ) (k : Word) → Some (token.Name a) ≡ Some (token.Word k) → ⊥
some_no_word a k e = cc

some_no_sign : (a : List ℕ) (k : Sign) → Some (token.Name a) ≡ Some (token.Sign k) → ⊥
some_no_sign a k e = cc

same_some : (x y : Token) → Some x ≡ Some y → x ≡ y
same_some x y e = cc

-- A part that begins with the first of these tokens and goes on behind them.
pub record Early {A : Type 0} (U : List Marked → A → Type 0) (FU : A → List Marked → Type 0) (ts : List Spot) (i : ℕ) : Type 0 where
  pub marked : List Marked
  pub tree : A
  pub rule : U marked tree
  pub follows : FU tree []
  pub sees : (n : ℕ) → Sees OF_CLASS_TEXT n (suc i) ts (marked ++ [])
  pub longer : i < length marked

below : (a b : ℕ) → (a ≤ b) ⊎ (b < a)
below zero b = inl (omega arith)
below (suc a) zero = inr (omega arith)
below (suc a) (suc b) = elim (below a b) [
  | inl l ↦ inl (omega arith)
  | inr l ↦ inr (omega arith)
]

-- where the next m tokens say that a part is another one
module _ {B C : Type 0} (V : List Marked → B → Type 0) (FV : B → List Marked → Type 0) (U : List Marked → C → Type 0) (FU : C → List Marked → Type 0) (h : C → B) (m : ℕ) (ts : List Spot)
    (back : (n j : ℕ) (w z : List Marked) (b : B) → V w b → FV b z → m ≤ j → Sees OF_CLASS_TEXT n j ts (w ++ z) → Back V FV U FU h w z b) (forth : (w : List Marked) (c : C) → U w c → V w (h c))
    (early : (i : ℕ) → suc i < m → Early U FU ts i) where
  only_far : (c : C) (i : ℕ) → Only OF_CLASS_TEXT U FU c i ts → Only OF_CLASS_TEXT V FV (h c) i ts
  only_far c i p n j w z b r f lt s = elim (below m j) [
    | inl le ↦
        let k = back n j w z b r f le s in
        let v = p n j w z k.tree k.rule k.follows lt s in
        (k.is ∙ ap h v.0, v.1)
    | inr more ↦
        let e = early i (omega (arith, lt, more)) in
        let v = p n (suc i) e.marked [] e.tree e.rule e.follows (omega arith) (e.sees n) in
        absurd (omega (arith, e.longer, v.1))
  ]

  good_far : (n : ℕ) (us : List Spot) → GoodOf OF_CLASS_TEXT U n us → GoodOf OF_CLASS_TEXT V n us
  good_far n us g = record { read = g.read; rest = g.rest; tree = h g.tree; rule = forth (g.read ++ g.rest) g.tree g.rule; is = g.is; keeps = g.keeps }

  bad_far : (n k : ℕ) → Never OF_CLASS_TEXT U FU n (suc k) ts → Never OF_CLASS_TEXT V FV n (suc k) ts
  bad_far n k p w z b r f s = elim (below m (suc k)) [
    | inl le ↦ let q = back n (suc k) w z b r f le s in p w z q.tree q.rule q.follows s
    | inr more ↦ let e = early k (omega (arith, more)) in p e.marked [] e.tree e.rule e.follows (e.sees n)
  ]

  stops_far : (n k : ℕ) → Stops OF_CLASS_TEXT U FU n ts k → Stops OF_CLASS_TEXT V FV n ts k
  stops_far n k s = record { within = s.within; token = s.token; bad = bad_far n k s.bad; good = good_far 7 _ s.good; below = λ j lt le. good_far j _ (s.below j lt le) }

pub narrow_far : {A B C : Type 0} {W : List Marked → A → Type 0} {FW : A → List Marked → Type 0} {V : List Marked → B → Type 0} {FV : B → List Marked → Type 0} {U : List Marked → C → Type 0}
    {FU : C → List Marked → Type 0} {g : B → A} {h : C → B} {from at : ℕ} (spots : List Spot) (m : ℕ)
    → ((n j : ℕ) (w z : List Marked) (b : B) → V w b → FV b z → m ≤ j → Sees OF_CLASS_TEXT n j (drop at spots) (w ++ z) → Back V FV U FU h w z b) → ((w : List Marked) (c : C) → U w c → V w (h c))
    → ((i : ℕ) → suc i < m → Early U FU (drop at spots) i) → Leaves OF_CLASS_TEXT W FW V FV g spots from at → Leaves OF_CLASS_TEXT W FW U FU (λ c. g (h c)) spots from at
narrow_far {V = V} {FV = FV} {U = U} {FU = FU} {h = h} {at = at} spots m back forth early l = record {
  after = l.after;
  within = l.within;
  marked = l.marked;
  is = l.is;
  keeps = l.keeps;
  sound = λ v c r. l.sound v (h c) (forth v c r);
  only = λ c i p. l.only (h c) i (only_far V FV U FU h m (drop at spots) back forth early c i p);
  stops = λ n k le s. l.stops n k le (stops_far V FV U FU h m (drop at spots) back forth early n k s);
}

-- records and functions, and classes behind them
abbrev pub TextTree : Type 0
TextTree = (List RecordTree × List RoutineTree) × List ClassTree

abbrev pub Things : Version → List Marked → TextTree → Type 0
Things v = Both (Heads v) (ClassesRule v)

pub some_things : (v : Version) → Inhabited (Things v)
some_things v = record { marked = []; tree = (([], []), []); rule = record { first = []; rest = []; is = refl; front = no_heads; back = no_classes } }

struct_starts : {w : List Marked} {r : RecordTree} → Record w r → Starts (λ t. t ≡ token.Word word.Struct) w
struct_starts (fields at p q r x xs f e) = subst (Starts (λ t. t ≡ token.Word word.Struct)) (sym e) refl

starts_begin : (P : Token → Type 0) (w : List Marked) → Starts P w → Starts P (begin (Node 1) w)
starts_begin P [] h = h
starts_begin P (x ∷ w) h = h

function_starts : {home : RoutineKind} {w : List Marked} {f : RoutineTree} → Function home w f → Starts TypeToken w
function_starts (function at of xs t r e s) = subst (Starts TypeToken) (sym e) (starts_append TypeToken of xs (type_starts t))

record_first : {w : List Marked} {r : RecordTree} → HeadRecordRule w r → Starts (λ t. t ≡ token.Word word.Struct) w
record_first (record_rule of d) = starts_begin (λ t. t ≡ token.Word word.Struct) of (struct_starts d)

function_first : {v : Version} {w : List Marked} {f : RoutineTree} → HeadFunctionRule v w f → Starts TypeToken w
function_first (function_rule of d) = starts_begin TypeToken of (function_starts d)

classes_first : {version : Version} {w : List Marked} {cs : List ClassTree} → ClassesRule version w cs → (w ≡ []) ⊎ Starts (λ t. t ≡ token.Name (codes "class")) w
classes_first no_classes = inl refl
classes_first (more_classes first rest (class p q r s u v k of slots locals blocks groups ht hp hs hl hb hg e) cs f) =
    inr (subst (Starts (λ t. t ≡ token.Name (codes "class"))) (sym f)
    (starts_append (λ t. t ≡ token.Name (codes "class")) first rest (subst (Starts (λ t. t ≡ token.Name (codes "class"))) (sym e) refl)))

record_marks : {w : List Marked} {r : RecordTree} → HeadRecordRule w r → Marks (Node 1) Record w r
record_marks (record_rule of d) = (of, d, refl)

marks_record : (w : List Marked) (r : RecordTree) → Marks (Node 1) Record w r → HeadRecordRule w r
marks_record w r m = subst (λ k. HeadRecordRule k r) (sym m.2) (record_rule m.0 m.1)

function_marks : {v : Version} {w : List Marked} {f : RoutineTree} → HeadFunctionRule v w f → Marks (Node 1) (Function (functions_of v)) w f
function_marks (function_rule of d) = (of, d, refl)

marks_function : (v : Version) (w : List Marked) (f : RoutineTree) → Marks (Node 1) (Function (functions_of v)) w f → HeadFunctionRule v w f
marks_function v w f m = subst (λ k. HeadFunctionRule v k f) (sym m.2) (function_rule m.0 m.1)

abbrev pub with_record : RecordTree × TextTree → TextTree
with_record y = ((y.0 ∷ y.1.0.0, y.1.0.1), y.1.1)

abbrev pub with_function : RoutineTree × TextTree → TextTree
with_function y = ((y.1.0.0, y.0 ∷ y.1.0.1), y.1.1)

abbrev pub RecordThings : Version → List Marked → RecordTree × TextTree → Type 0
RecordThings v = Both (Marks (Node 1) Record) (Things v)

abbrev pub FunctionThings : Version → List Marked → RoutineTree × TextTree → Type 0
FunctionThings v = Both (Marks (Node 1) (Function (functions_of v))) (Things v)

record_things : (v : Version) (w : List Marked) (y : RecordTree × TextTree) → RecordThings v w y → Things v w (with_record y)
record_things v w y r =
    let b = r.back in
    record {
      first = r.first ++ b.first;
      rest = b.rest;
      is = r.is ∙ ap (λ k. r.first ++ k) b.is ∙ sym (append_assoc r.first b.first b.rest);
      front = more_records r.first b.first
          (marks_record r.first y.0 r.front) b.front refl;
      back = b.back;
    }

function_things : (v : Version) (w : List Marked) (y : RoutineTree × TextTree) → FunctionThings v w y → Things v w (with_function y)
function_things v w y r =
    let b = r.back in
    record {
      first = r.first ++ b.first;
      rest = b.rest;
      is = r.is ∙ ap (λ k. r.first ++ k) b.is ∙ sym (append_assoc r.first b.first b.rest);
      front = more_functions r.first b.first
          (marks_function v r.first y.0 r.front) b.front refl;
      back = b.back;
    }

-- the ways in which such a text begins
data Begin (v : Version) (w : List Marked) (b : TextTree) : Type 0 where
  with_struct : (y : RecordTree × TextTree) → RecordThings v w y → b ≡ with_record y → Begin v w b
  with_type : (y : RoutineTree × TextTree) → FunctionThings v w y → b ≡ with_function y → Begin v w b
  with_class : (cs : List ClassTree) → ClassesRule v w cs → b ≡ (([], []), cs) → Begin v w b

begins : (v : Version) (w : List Marked) (b : TextTree) → Things v w b → Begin v w b
begins v w b r = of r.first r.rest b.0.0 b.0.1 r.front r.is
  where
    of : (first rest : List Marked) (rs : List RecordTree) (fs : List RoutineTree) → HeadsRule v first rs fs → w ≡ first ++ r.rest → Begin v w ((rs, fs), b.1)
    of first rest rs fs no_heads e = with_class b.1 (subst (λ k. ClassesRule v k b.1) (sym e) r.back) refl
    of first rest rs fs (more_records {r = x} {rs = xs} one more d h g) e =
        with_struct (x, ((xs, fs), b.1)) (record {
          first = one;
          rest = more ++ r.rest;
          is = e ∙ ap (λ k. k ++ r.rest) g ∙ append_assoc one more r.rest;
          front = record_marks d;
          back = record { first = more; rest = r.rest; is = refl; front = h; back = r.back };
        }) refl
    of first rest rs fs (more_functions {f = x} {fs = xs} one more d h g) e =
        with_type (x, ((rs, xs), b.1)) (record {
          first = one;
          rest = more ++ r.rest;
          is = e ∙ ap (λ k. k ++ r.rest) g ∙ append_assoc one more r.rest;
          front = function_marks d;
          back = record { first = more; rest = r.rest; is = refl; front = h; back = r.back };
        }) refl

-- with which token
things_record : (v : Version) (w : List Marked) (y : RecordTree × TextTree) → RecordThings v w y → Starts (λ t. t ≡ token.Word word.Struct) w
things_record v w y r = subst (Starts (λ t. t ≡ token.Word word.Struct)) (sym r.is) (starts_append (λ t. t ≡ token.Word word.Struct) r.first r.rest (record_first (marks_record r.first y.0 r.front)))

things_function : (v : Version) (w : List Marked) (y : RoutineTree × TextTree) → FunctionThings v w y → Starts TypeToken w
things_function v w y r = subst (Starts TypeToken) (sym r.is) (starts_append TypeToken r.first r.rest (function_first (marks_function v r.first y.0 r.front)))

sees_first : (P : Token → Type 0) (o : Option Token) (w z : List Marked) → Starts P w → Looks o (w ++ z) → (t : Token) × (o ≡ Some t) × P t
sees_first P o [] z s l = absurd s
sees_first P None (x ∷ w) z s l = absurd l
sees_first P (Some t) (x ∷ w) z s l = (t, refl, subst P l s)

at_end : {A : Type 0} (a : A) (o : Option Token) (t : Token) (w z : List Marked) → AtEnd a z → w ≡ [] → o ≡ Some t → Looks o (w ++ z) → ⊥
at_end a o t w z f e g l = let k = subst (λ y. Looks o (y ++ z)) e l in let m = subst (Looks o) f k in of o g m
  where
    of : (o : Option Token) → o ≡ Some t → Looks o [] → ⊥
    of None e l = cc
    of (Some x) e l = l

pub struct_turns : (v : Version) → Turns (Things v) AtEnd (RecordThings v) AtEnd with_record (Some (token.Word word.Struct))
struct_turns v = record { back = λ w z b r f l. of w z b f l (begins v w b r); forth = λ w y r. record_things v w y r }
  where
    of : (w z : List Marked) (b : TextTree) → AtEnd b z → Looks (Some (token.Word word.Struct)) (w ++ z) → Begin v w b → Back (Things v) AtEnd (RecordThings v) AtEnd with_record w z b
    of w z b f l (with_struct y r e) = record { tree = y; rule = r; is = e; follows = f }
    of w z b f l (with_type y r e) =
        let k = sees_first TypeToken (Some (token.Word word.Struct)) w z (things_function v w y r) l in
        let g : token.Word word.Struct ≡ k.0 = let x = k.1 in cc in
        absurd (subst TypeToken (sym g) k.2)
    of w z b f l (with_class cs r e) = elim (classes_first r) [
      | inl n ↦ absurd (at_end b (Some (token.Word word.Struct)) (token.Word word.Struct) w z f n refl l)
      | inr s ↦
          let k = sees_first (λ t. t ≡ token.Name (codes "class")) (Some (token.Word word.Struct)) w z s l in
          absurd (some_no_word (codes "class") word.Struct (sym (k.1 ∙ ap Some k.2)))
    ]

pub plain_turns : (v : Version) (o : Option Token) (t : Token) → o ≡ Some t → (o ≡ Some (token.Word word.Struct) → ⊥) → (o ≡ Some (token.Name (codes "class")) → ⊥)
    → Turns (Things v) AtEnd (FunctionThings v) AtEnd with_function o
plain_turns v o t some struct plain = record { back = λ w z b r f l. of w z b f l (begins v w b r); forth = λ w y r. function_things v w y r }
  where
    of : (w z : List Marked) (b : TextTree) → AtEnd b z → Looks o (w ++ z) → Begin v w b → Back (Things v) AtEnd (FunctionThings v) AtEnd with_function w z b
    of w z b f l (with_type y r e) = record { tree = y; rule = r; is = e; follows = f }
    of w z b f l (with_struct y r e) = let k = sees_first (λ t. t ≡ token.Word word.Struct) o w z (things_record v w y r) l in absurd (struct (k.1 ∙ ap Some k.2))
    of w z b f l (with_class cs r e) = elim (classes_first r) [
      | inl n ↦ absurd (at_end b o t w z f n some l)
      | inr s ↦ let k = sees_first (λ t. t ≡ token.Name (codes "class")) o w z s l in absurd (plain (k.1 ∙ ap Some k.2))
    ]

pub end_turns : (v : Version) → Turns (Things v) AtEnd (ClassesRule v) AtEnd (λ cs. (([], []), cs)) None
end_turns v = record { back = λ w z b r f l. of w z b f l (begins v w b r); forth = λ w cs r. record { first = []; rest = w; is = refl; front = no_heads; back = r } }
  where
    none : {A : Type 0} (t : A) → None ≡ Some t → ⊥
    none t e = cc

    of : (w z : List Marked) (b : TextTree) → AtEnd b z → Looks None (w ++ z) → Begin v w b → Back (Things v) AtEnd (ClassesRule v) AtEnd (λ cs. (([], []), cs)) w z b
    of w z b f l (with_class cs r e) = record { tree = cs; rule = r; is = e; follows = f }
    of w z b f l (with_struct y r e) = let k = sees_first (λ t. t ≡ token.Word word.Struct) None w z (things_record v w y r) l in absurd (none k.0 k.1)
    of w z b f l (with_type y r e) = let k = sees_first TypeToken None w z (things_function v w y r) l in absurd (none k.0 k.1)

-- what stands at a token, seen
token_drop : (spots : List Spot) (from i : ℕ) → token_at (drop from spots) i ≡ token_at spots (from + i)
token_drop spots zero i = let e : 0 + i ≡ i = omega arith in ap (token_at spots) (sym e)
token_drop [] (suc from) i = none i ∙ sym (none (suc from + i))
  where
    none : (i : ℕ) → token_at [] i ≡ None
    none zero = refl
    none (suc i) = refl
token_drop (s ∷ spots) (suc from) i = let e : suc from + i ≡ suc (from + i) = omega arith in token_drop spots from i ∙ ap (token_at (s ∷ spots)) (sym e)

seen_first : (n j : ℕ) (ts : List Spot) (x : Marked) (m : List Marked) → 1 ≤ j → Sees OF_CLASS_TEXT n j ts (x ∷ m) → token_at ts 0 ≡ Some x.spot.token
seen_first n zero ts x m h s = absurd (omega (arith, h))
seen_first n (suc j) [] x m h s = absurd s
seen_first n (suc j) (t ∷ ts) x m h s = ap (λ y. Some y.token) (sym s.0)

seen_second : (n j : ℕ) (ts : List Spot) (x y : Marked) (m : List Marked) → 2 ≤ j → Sees OF_CLASS_TEXT n j ts (x ∷ y ∷ m) → token_at ts 1 ≡ Some y.spot.token
seen_second n zero ts x y m h s = absurd (omega (arith, h))
seen_second n (suc j) [] x y m h s = absurd s
seen_second n (suc j) (t ∷ ts) x y m h s = seen_first n j ts y m (omega (arith, h)) s.2

seen_third : (n j : ℕ) (ts : List Spot) (x y z : Marked) (m : List Marked) → 3 ≤ j → Sees OF_CLASS_TEXT n j ts (x ∷ y ∷ z ∷ m) → token_at ts 2 ≡ Some z.spot.token
seen_third n zero ts x y z m h s = absurd (omega (arith, h))
seen_third n (suc j) [] x y z m h s = absurd s
seen_third n (suc j) (t ∷ ts) x y z m h s = seen_second n j ts y z m (omega (arith, h)) s.2

-- a function whose result is a record begins with two names and a bracket
record Opening (w : List Marked) : Type 0 where
  one : Marked
  two : Marked
  three : Marked
  more : List Marked
  is : w ≡ one ∷ two ∷ three ∷ more
  name : List ℕ
  named : two.spot.token ≡ token.Name name
  opened : three.spot.token ≡ token.Sign sign.OpenRound

opening_more : (w rest : List Marked) → Opening w → Opening (w ++ rest)
opening_more w rest o = record { one = o.one; two = o.two; three = o.three; more = o.more ++ rest; is = ap (λ k. k ++ rest) o.is; name = o.name; named = o.named; opened = o.opened }

opening_begin : (w : List Marked) → Opening w → Opening (begin (Node 1) w)
opening_begin w o =
    record {
      one = record { spot = o.one.spot; parts = Node 1 ∷ o.one.parts };
      two = o.two;
      three = o.three;
      more = o.more;
      is = ap (begin (Node 1)) o.is;
      name = o.name;
      named = o.named;
      opened = o.opened;
    }

abbrev FirstIs : Token → List Marked → Type 0
FirstIs t w = Starts (λ y. y ≡ t) w

word_no_name : (k : _) (m : List ℕ) → token.Word k ≡ token.Name m → ⊥
word_no_name k m e = cc

function_opening : (home : RoutineKind) (m : List ℕ) {w : List Marked} {f : RoutineTree} → Function home w f → FirstIs (token.Name m) w → Opening w
function_opening home m (function at of xs t r e s) h = of_type of xs t r e (subst (FirstIs (token.Name m)) e h)
  where
    behind : {w : List Marked} (x : Marked) (xs : List Marked) {returns : TypeTree} {f : RoutineTree} → RoutineRule home at returns xs f → w ≡ x ∷ xs → Opening w
    behind x xs (routine p q r close y params body ps b e) g =
        record {
          one = x;
          two = name_at y;
          three = sign_at sign.OpenRound p;
          more = params ++ (sign_at sign.CloseRound q ∷ (sign_at sign.OpenCurly r ∷ (body ++ sign_at sign.CloseCurly close ∷ [])));
          is = g ∙ ap (λ k. x ∷ k) e;
          name = y.name;
          named = refl;
          opened = refl;
        }

    of_type : (of xs : List Marked) {returns : TypeTree} {f : RoutineTree} → TypeRule 1 of returns → RoutineRule home at returns xs f → {w : List Marked} → w ≡ of ++ xs
        → FirstIs (token.Name m) (of ++ xs) → Opening w
    of_type of xs (named_type x) r e h = behind (node_name 1 x) xs r e
    of_type of xs (int_type p) r e h = absurd (word_no_name word.Int m h)
    of_type of xs (bool_type p) r e h = absurd (word_no_name word.Bool m h)
    of_type of xs (string_type p) r e h = absurd (word_no_name word.Str m h)
    of_type of xs (void_type p) r e h = absurd (word_no_name word.Void m h)
    of_type of xs (error_type p) r e h = absurd (word_no_name word.Error m h)
    of_type of xs (wrapped_type w p q s inner t g) r e h = absurd (word_no_name (wrapper_word w) m (subst (λ k. FirstIs (token.Name m) (k ++ xs)) g h))

-- a class begins with two names and a word
class_third : {version : Version} {w : List Marked} {c : ClassTree} → ClassRule version w c → (x y : Marked) × (p : Place) × (m : List Marked) × (w ≡ x ∷ y ∷ said (codes "returns") p ∷ m)
class_third (class {x} p q r s u v k of slots locals blocks groups ht hp hs hl hb hg e) = (said (codes "class") p, said x q, r, _, e)

module _ (spots : List Spot) (at : ℕ) (here : token_at spots at ≡ Some (token.Name (codes "class"))) where
  here_first : (n j : ℕ) (x : Marked) (m : List Marked) → 1 ≤ j → Sees OF_CLASS_TEXT n j (drop at spots) (x ∷ m) → x.spot.token ≡ token.Name (codes "class")
  here_first n j x m h s =
      let e : at + 0 ≡ at = omega arith in
      same_some x.spot.token (token.Name (codes "class")) (sym (seen_first n j (drop at spots) x m h s) ∙ token_drop spots at 0 ∙ ap (token_at spots) e ∙ here)

  first_class : (n j : ℕ) (P : Token → Type 0) (w z : List Marked) → 1 ≤ j → Starts P w → Sees OF_CLASS_TEXT n j (drop at spots) (w ++ z) → P (token.Name (codes "class"))
  first_class n j P [] z h p s = absurd p
  first_class n j P (x ∷ w) z h p s = subst P (here_first n j x (w ++ z) h s) p

  second_is : (n j : ℕ) (w z : List Marked) → (o : Opening w) → 2 ≤ j → Sees OF_CLASS_TEXT n j (drop at spots) (w ++ z) → token_at spots (suc at) ≡ Some (token.Name o.name)
  second_is n j w z o h s =
      let e : at + 1 ≡ suc at = omega arith in
      ap (token_at spots) (sym e) ∙ sym (token_drop spots at 1)
      ∙ seen_second n j (drop at spots) o.one o.two (o.three ∷ (o.more ++ z)) h (subst (λ k. Sees OF_CLASS_TEXT n j (drop at spots) (k ++ z)) o.is s)
      ∙ ap Some o.named

  third_is : (n j : ℕ) (w z : List Marked) → (o : Opening w) → 3 ≤ j → Sees OF_CLASS_TEXT n j (drop at spots) (w ++ z) → token_at spots (suc (suc at)) ≡ Some (token.Sign sign.OpenRound)
  third_is n j w z o h s =
      let e : at + 2 ≡ suc (suc at) = omega arith in
      ap (token_at spots) (sym e) ∙ sym (token_drop spots at 2)
      ∙ seen_third n j (drop at spots) o.one o.two o.three (o.more ++ z) h (subst (λ k. Sees OF_CLASS_TEXT n j (drop at spots) (k ++ z)) o.is s)
      ∙ ap Some o.opened

  things_opening : (v : Version) (n j : ℕ) (w z : List Marked) (y : RoutineTree × TextTree) → 1 ≤ j → FunctionThings v w y → Sees OF_CLASS_TEXT n j (drop at spots) (w ++ z) → Opening w
  things_opening v n j w z y h r s =
      let m = r.front in
      let starts : FirstIs (token.Name (codes "class")) m.0 = of m.0 m.1 r.first r.rest m.2 r.is s in
      let o = opening_more r.first r.rest (subst Opening (sym m.2) (opening_begin m.0 (function_opening (functions_of v) (codes "class") m.1 starts))) in
      subst Opening (sym r.is) o
    where
      of : (xs : List Marked) → Function (functions_of v) xs y.0 → (first rest : List Marked) → first ≡ begin (Node 1) xs → w ≡ first ++ rest → Sees OF_CLASS_TEXT n j (drop at spots) (w ++ z)
          → FirstIs (token.Name (codes "class")) xs
      of [] f first rest e g s = absurd (function_starts f)
      of (x ∷ xs) f first rest e g s =
          here_first n j (record { spot = x.spot; parts = Node 1 ∷ x.parts }) ((xs ++ rest) ++ z) h (subst (λ k. Sees OF_CLASS_TEXT n j (drop at spots) (k ++ z)) (g ∙ ap (λ k. k ++ rest) e) s)

  -- some class, and some function, that begin with these tokens
  spot_here : (ts : List Spot) (i : ℕ) (x : Token) → token_at ts i ≡ Some x → Spot
  spot_here [] zero x e = absurd (cc)
  spot_here [] (suc i) x e = absurd (cc)
  spot_here (t ∷ ts) zero x e = t
  spot_here (t ∷ ts) (suc i) x e = spot_here ts i x e

  sees_one : (n : ℕ) (ts : List Spot) (x : Token) (ps : List Part) (m : List Marked) → (e : token_at ts 0 ≡ Some x) → AllInLimitsOf OF_CLASS_TEXT n ps
      → Sees OF_CLASS_TEXT n 1 ts (opens ps x (spot_here ts 0 x e).at ∷ m)
  unfolding spot_here
  sees_one n [] x ps m e k = absurd (cc)
  sees_one n (t ∷ ts) x ps m e k = (let f : t.token ≡ x = cc in ap (λ y. record { token = y; at = t.at }) (sym f), k, tt)

  sees_two : (n : ℕ) (ts : List Spot) (x y : Token) (ps qs : List Part) (m : List Marked) → (e : token_at ts 0 ≡ Some x) → (f : token_at ts 1 ≡ Some y) → AllInLimitsOf OF_CLASS_TEXT n ps
      → AllInLimitsOf OF_CLASS_TEXT n qs → Sees OF_CLASS_TEXT n 2 ts (opens ps x (spot_here ts 0 x e).at ∷ opens qs y (spot_here ts 1 y f).at ∷ m)
  unfolding spot_here
  sees_two n [] x y ps qs m e f k l = absurd (cc)
  sees_two n (t ∷ ts) x y ps qs m e f k l = (let g : t.token ≡ x = cc in ap (λ y. record { token = y; at = t.at }) (sym g), k, sees_one n ts y qs m f l)

  class_text : (v : Version) (p : Place) (x : Ident) → (m : List Marked) × (c : ClassTree) × ClassesRule v (said (codes "class") p ∷ name_at x ∷ m) (c ∷ [])
  class_text v p x =
      let y = some_after_returns v in
      let after : AfterClass v (name_at x ∷ (said (codes "returns") nowhere ∷ y.marked)) (x, y.tree) =
      record { first = name_at x ∷ []; rest = said (codes "returns") nowhere ∷ y.marked; is = refl; front = refl; back = (nowhere, y.marked, y.rule, refl) } in
      let u = class_turns v None in
      let w = said (codes "class") p ∷ name_at x ∷ (said (codes "returns") nowhere ∷ y.marked) in
      let c = u.forth w (x, y.tree) (p, name_at x ∷ (said (codes "returns") nowhere ∷ y.marked), after, refl) in
      (said (codes "returns") nowhere ∷ y.marked, class_tree (x, y.tree), more_classes w [] c no_classes (sym (append-nil w)))

  first_here : token_at (drop at spots) 0 ≡ Some (token.Name (codes "class"))
  first_here = let e : at + 0 ≡ at = omega arith in token_drop spots at 0 ∙ ap (token_at spots) e ∙ here

  second_here : (m : List ℕ) → token_at spots (suc at) ≡ Some (token.Name m) → token_at (drop at spots) 1 ≡ Some (token.Name m)
  second_here m f = let e : at + 1 ≡ suc at = omega arith in token_drop spots at 1 ∙ ap (token_at spots) e ∙ f

  early_class : (v : Version) (i : ℕ) → suc i < 2 → Early (ClassesRule v) AtEnd (drop at spots) i
  early_class v zero h =
      let s = spot_here (drop at spots) 0 (token.Name (codes "class")) first_here in
      let c = class_text v s.at (record { name = codes "a"; at = nowhere }) in
      record {
        marked = said (codes "class") s.at ∷ name_at (record { name = codes "a"; at = nowhere }) ∷ c.0;
        tree = c.1 ∷ [];
        rule = c.2;
        follows = refl;
        sees = λ n. sees_one n (drop at spots) (token.Name (codes "class")) [] _ first_here tt;
        longer = omega arith;
      }
  early_class v (suc i) h = absurd (omega (arith, h))

  early_named : (v : Version) (m : List ℕ) → token_at spots (suc at) ≡ Some (token.Name m) → (i : ℕ) → suc i < 3 → Early (ClassesRule v) AtEnd (drop at spots) i
  early_named v m f zero h = early_class v zero (omega arith)
  early_named v m f (suc zero) h =
      let s = spot_here (drop at spots) 0 (token.Name (codes "class")) first_here in
      let y = spot_here (drop at spots) 1 (token.Name m) (second_here m f) in
      let c = class_text v s.at (record { name = m; at = y.at }) in
      record {
        marked = said (codes "class") s.at ∷ name_at (record { name = m; at = y.at }) ∷ c.0;
        tree = c.1 ∷ [];
        rule = c.2;
        follows = refl;
        sees = λ n. sees_two n (drop at spots) (token.Name (codes "class")) (token.Name m) [] [] _ first_here (second_here m f) tt tt;
        longer = omega arith;
      }
  early_named v m f (suc (suc i)) h = absurd (omega (arith, h))

  class_back : (v : Version) (k : ℕ) → ((n j : ℕ) (w z : List Marked) → Opening w → k ≤ j → Sees OF_CLASS_TEXT n j (drop at spots) (w ++ z) → ⊥) → 1 ≤ k → (n j : ℕ) (w z : List Marked) (b : TextTree) → Things v w b
      → AtEnd b z → k ≤ j → Sees OF_CLASS_TEXT n j (drop at spots) (w ++ z) → Back (Things v) AtEnd (ClassesRule v) AtEnd (λ cs. (([], []), cs)) w z b
  class_back v k nope one n j w z b r f le s = of (begins v w b r)
    where
      of : Begin v w b → Back (Things v) AtEnd (ClassesRule v) AtEnd (λ cs. (([], []), cs)) w z b
      of (with_class cs q e) = record { tree = cs; rule = q; is = e; follows = f }
      of (with_struct y q e) = let g = first_class n j (λ t. t ≡ token.Word word.Struct) w z (omega (arith, one, le)) (things_record v w y q) s in absurd (name_no_word (codes "class") word.Struct g)
      of (with_type y q e) = absurd (nope n j w z (things_opening v n j w z y (omega (arith, one, le)) q s) le s)

  -- a class begins here
  pub class_far : (v : Version) {A : Type 0} {W : List Marked → A → Type 0} {FW : A → List Marked → Type 0} {g : TextTree → A} {from : ℕ}
      → (AsFirst NameToken (token_at spots (suc at)) → token_at spots (suc (suc at)) ≡ Some (token.Sign sign.OpenRound) → ⊥) → Leaves OF_CLASS_TEXT W FW (Things v) AtEnd g spots from at
      → Leaves OF_CLASS_TEXT W FW (ClassesRule v) AtEnd (λ cs. g (([], []), cs)) spots from at
  class_far v {W = W} {FW = FW} {g = g} {from = from} nope l = of (token_at spots (suc at)) refl
    where
      two : ((m : List ℕ) → token_at spots (suc at) ≡ Some (token.Name m) → ⊥) → Leaves OF_CLASS_TEXT W FW (ClassesRule v) AtEnd (λ cs. g (([], []), cs)) spots from at
      two f =
          narrow_far spots 2 (class_back v 2 (λ n j w z o le s. f o.name (second_is n j w z o le s)) (omega arith)) (λ w cs r. record { first = []; rest = w; is = refl; front = no_heads; back = r })
          (early_class v) l

      of : (o : Option Token) → token_at spots (suc at) ≡ o → Leaves OF_CLASS_TEXT W FW (ClassesRule v) AtEnd (λ cs. g (([], []), cs)) spots from at
      of (Some (token.Name m)) e = narrow_far spots 3
          (class_back v 3 (λ n j w z o le s. nope (subst (AsFirst NameToken) (sym e) tt) (third_is n j w z o le s)) (omega arith))
          (λ w cs r. record { first = []; rest = w; is = refl; front = no_heads; back = r })
          (early_named v m e) l
      of None e = two (λ m f. let g : None ≡ Some (token.Name m) = sym e ∙ f in cc)
      of (Some (token.Number k)) e = two (λ m f. let g : Some (token.Number k) ≡ Some (token.Name m) = sym e ∙ f in cc)
      of (Some (token.Text k)) e = two (λ m f. let g : Some (token.Text k) ≡ Some (token.Name m) = sym e ∙ f in cc)
      of (Some (token.Word k)) e = two (λ m f. let g : Some (token.Word k) ≡ Some (token.Name m) = sym e ∙ f in cc)
      of (Some (token.Sign k)) e = two (λ m f. let g : Some (token.Sign k) ≡ Some (token.Name m) = sym e ∙ f in cc)

  -- or a function whose result is a record of that name
  function_text : (v : Version) (p : Place) (x : Ident) → (m : List Marked) × (f : RoutineTree) × HeadFunctionRule v (opens (Node 1 ∷ Node 1 ∷ []) (token.Name (codes "class")) p ∷ name_at x ∷ m) f
  function_text v p x =
      let m = sign_at sign.OpenRound nowhere ∷ sign_at sign.CloseRound nowhere ∷ sign_at sign.OpenCurly nowhere ∷ sign_at sign.CloseCurly nowhere ∷ [] in
      let c : Ident = record { name = codes "class"; at = p } in (
        m,
        record { at = p; returns = NamedType (codes "class"); name = x; params = []; body = End; close = nowhere },
        function_rule (node_name 1 c ∷ name_at x ∷ m) (function p (node_name 1 c ∷ []) (name_at x ∷ m) (named_type c) (routine nowhere nowhere nowhere nowhere x [] [] no_params no_stmts refl)
            refl refl),
      )

  function_whole : (v : Version) (p : Place) (x : Ident) → (m : List Marked) × (y : RoutineTree × TextTree) × FunctionThings v (opens (Node 1 ∷ Node 1 ∷ []) (token.Name (codes "class")) p ∷ name_at x ∷ m) y
  unfolding some_things
  function_whole v p x =
      let f = function_text v p x in
      let w = opens (Node 1 ∷ Node 1 ∷ []) (token.Name (codes "class")) p ∷ name_at x ∷ f.0 in
      let s = some_things v in
      (f.0, (f.1, s.tree), record { first = w; rest = s.marked; is = sym (append-nil w); front = function_marks f.2; back = s.rule })

  one_deep : (n : ℕ) → AllInLimitsOf OF_CLASS_TEXT n (Node 1 ∷ Node 1 ∷ [])
  one_deep n = ((λ h. omega arith), ((λ h. omega arith), tt))

  early_function : (v : Version) (m : List ℕ) → token_at spots (suc at) ≡ Some (token.Name m) → (i : ℕ) → suc i < 3 → Early (FunctionThings v) AtEnd (drop at spots) i
  early_function v m f zero h =
      let s = spot_here (drop at spots) 0 (token.Name (codes "class")) first_here in
      let c = function_whole v s.at (record { name = m; at = nowhere }) in
      record {
        marked = opens (Node 1 ∷ Node 1 ∷ []) (token.Name (codes "class")) s.at ∷ name_at (record { name = m; at = nowhere }) ∷ c.0;
        tree = c.1;
        rule = c.2;
        follows = refl;
        sees = λ n. sees_one n (drop at spots) (token.Name (codes "class")) (Node 1 ∷ Node 1 ∷ []) _ first_here (one_deep n);
        longer = omega arith;
      }
  early_function v m f (suc zero) h =
      let s = spot_here (drop at spots) 0 (token.Name (codes "class")) first_here in
      let y = spot_here (drop at spots) 1 (token.Name m) (second_here m f) in
      let c = function_whole v s.at (record { name = m; at = y.at }) in
      record {
        marked = opens (Node 1 ∷ Node 1 ∷ []) (token.Name (codes "class")) s.at ∷ name_at (record { name = m; at = y.at }) ∷ c.0;
        tree = c.1;
        rule = c.2;
        follows = refl;
        sees = λ n. sees_two n (drop at spots) (token.Name (codes "class")) (token.Name m) (Node 1 ∷ Node 1 ∷ []) [] _ first_here (second_here m f) (one_deep n) tt;
        longer = omega arith;
      }
  early_function v m f (suc (suc i)) h = absurd (omega (arith, h))

  pub function_far : (v : Version) {A : Type 0} {W : List Marked → A → Type 0} {FW : A → List Marked → Type 0} {g : TextTree → A} {from : ℕ} (m : List ℕ) → token_at spots (suc at) ≡ Some (token.Name m)
      → token_at spots (suc (suc at)) ≡ Some (token.Sign sign.OpenRound) → Leaves OF_CLASS_TEXT W FW (Things v) AtEnd g spots from at
      → Leaves OF_CLASS_TEXT W FW (FunctionThings v) AtEnd (λ y. g (with_function y)) spots from at
  function_far v m e o l = narrow_far spots 3 back (λ w y r. function_things v w y r) (early_function v m e) l
    where
      returns_third : (n j : ℕ) (w z : List Marked) (cs : List ClassTree) → ClassesRule v w cs → AtEnd cs z → 3 ≤ j → Sees OF_CLASS_TEXT n j (drop at spots) (w ++ z) → ⊥
      returns_third n j w z cs no_classes f le s = nothing_seen n j z f (omega (arith, le)) s
        where
          nothing_seen : (n j : ℕ) (z : List Marked) → z ≡ [] → 1 ≤ j → Sees OF_CLASS_TEXT n j (drop at spots) z → ⊥
          nothing_seen n j z f h s = of (drop at spots) j h first_here (subst (Sees OF_CLASS_TEXT n j (drop at spots)) f s)
            where
              of : (ts : List Spot) (j : ℕ) → 1 ≤ j → token_at ts 0 ≡ Some (token.Name (codes "class")) → Sees OF_CLASS_TEXT n j ts [] → ⊥
              of ts zero h e s = omega (arith, h)
              of [] (suc j) h e s = cc
              of (t ∷ ts) (suc j) h e s = s
      returns_third n j w z cs (more_classes first rest c more g) f le s =
          let x = class_third c in
          let same : w ++ z ≡ x.0 ∷ x.1 ∷ said (codes "returns") x.2 ∷ (x.3 ++ (rest ++ z)) = ap (λ k. k ++ z) g ∙ append_assoc first rest z ∙ ap (λ k. k ++ (rest ++ z)) x.4 in
          let k = seen_third n j (drop at spots) x.0 x.1 (said (codes "returns") x.2) (x.3 ++ (rest ++ z)) le (subst (Sees OF_CLASS_TEXT n j (drop at spots)) same s) in
          let e : at + 2 ≡ suc (suc at) = omega arith in
          some_no_sign (codes "returns") sign.OpenRound (sym (sym o ∙ ap (token_at spots) (sym e) ∙ sym (token_drop spots at 2) ∙ k))

      back : (n j : ℕ) (w z : List Marked) (b : TextTree) → Things v w b → AtEnd b z → 3 ≤ j → Sees OF_CLASS_TEXT n j (drop at spots) (w ++ z)
          → Back (Things v) AtEnd (FunctionThings v) AtEnd with_function w z b
      back n j w z b r f le s = of (begins v w b r)
        where
          of : Begin v w b → Back (Things v) AtEnd (FunctionThings v) AtEnd with_function w z b
          of (with_type y q e) = record { tree = y; rule = q; is = e; follows = f }
          of (with_struct y q e) = let g = first_class n j (λ t. t ≡ token.Word word.Struct) w z (omega (arith, le)) (things_record v w y q) s in absurd (name_no_word (codes "class") word.Struct g)
          of (with_class cs q e) = absurd (returns_third n j w z cs q f le s)
