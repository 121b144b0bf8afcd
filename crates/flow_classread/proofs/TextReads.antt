-- How whole class texts are read.
use Rattle.std.proofs.Common.{◌≡◌, ℕ, suc, ◌+◌, ◌≤◌, ◌<◌, List, [], ◌∷◌, ◌++◌, map, length, refl, sym, ap, ◌∙◌, subst, arith, ◌⊎◌, inl, inr}
use Rattle.std.specs.Prelude.{codes, pos}
use Rattle.std.proofs.lemmas.List.{append-nil}
use Rattle.std.specs.declared.option.Option.{Option}
use Rattle.std.specs.declared.option.Option.TheVariants.{None, Some}
use Rattle.flow_base.specs.declared.place.Place.{Place}
use Rattle.flow_tree.specs.declared.limits.TheConstants.{OF_CLASS_TEXT}
use Rattle.flow_tree.specs.declared.fault.SourceFault.{SourceFault}
use Rattle.flow_tree.specs.declared.fault.SourceFault.TheVariants.{Refused}
use Rattle.flow_tree.specs.declared.fault.Rule.TheVariants as rule
use Rattle.flow_tree.specs.declared.decl.RecordDecl.{RecordDecl}
use Rattle.flow_tree.specs.declared.decl.FunctionDecl.{FunctionDecl}
use Rattle.flow_tree.specs.declared.decl.RoutineKind.{RoutineKind}
use Rattle.flow_tree.specs.declared.token.Token.{Token}
use Rattle.flow_tree.specs.declared.token.Token.TheVariants as token
use Rattle.flow_tree.specs.declared.token.Word.TheVariants as word
use Rattle.flow_tree.specs.declared.token.Tokens.{Tokens}
use Rattle.flow_tree.specs.DeclView.{record_of, function_of}
use Rattle.flow_tree.specs.GrammarToken.{Node, Marked}
use Rattle.flow_tree.specs.GrammarAnswer.{place_at}
use Rattle.flow_exprs.proofs.Goes.{nowhere}
use Rattle.flow_parse.specs.Reading.{token_at, Tok, Then, Any, Reads}
use Rattle.flow_parse.specs.Failing.{Fails}
use Rattle.flow_parse.specs.Follow.{AtEnd}
use Rattle.flow_parse.specs.Openers.{AsFirst, NameToken}
use Rattle.flow_parse.specs.Parts.{Marks, Record, Function}
use Rattle.flow_parse.proofs.Looking.{Looks, Back}
use Rattle.flow_parse.proofs.Begins.{Starts, looks_is}
use Rattle.flow_parse.proofs.DeclLoops.{some_at, none_at}
use Rattle.flow_parse.proofs.Failing.{Inhabited}
use Rattle.flow_parse.proofs.Leaves.{Leaves, Link, Turns, free, nothing, narrow, then_reads, first_fails, fails, means, done, become, tok_reads, none_fails, marks_reads, marks_fails}
use Rattle.flow_class.specs.declared.class.Class.{Class}
use Rattle.flow_class.specs.Classes.{ClassTree, RawTree}
use Rattle.flow_class.specs.View.{class_of}
use Rattle.flow_classprint.specs.declared.version.Version.{Version}
use Rattle.flow_classprint.specs.declared.version.Version.TheVariants.{One, Two}
use Rattle.flow_classprint.specs.ClassGrammar.{version_number, functions_of, said, number_at, ClassRule, ClassesRule, no_classes, more_classes, VersionRule, text, TextRule, of_version}
use Rattle.flow_classread.specs.Parts.{NotFirst, VersionPart, VersionHead, Rest, BeginsClass, BeginsNoClass}
use Rattle.flow_classread.proofs.Combine.{mapped_turns}
use Rattle.flow_classread.proofs.Lists.{push, each_step, each_fails, each_end}
use Rattle.flow_classread.proofs.ClassForms.{classes_cut, class_starts}
use Rattle.flow_classread.proofs.TextForms.{TextTree, Things, RecordThings, FunctionThings, with_record, with_function, some_things, struct_turns, plain_turns, end_turns, class_far, function_far}

-- any token
abbrev pub All : Token → Type 0
All t = Unit {0}

all_starts : (v : Version) (n : ℕ) (w : List Marked) (c : ClassTree) → ClassRule v w c → Starts All w
all_starts v n w c r = of w (class_starts v n w c r)
  where
    of : (w : List Marked) → Starts (λ t. t ≡ token.Name (codes "class")) w → Starts All w
    of [] h = h
    of (x ∷ w) h = tt

classes_cons : (v : Version) (n : ℕ) (x : ClassTree) (xs : List ClassTree) (first rest : List Marked) → ClassRule v first x → ClassesRule v rest xs → ClassesRule v (first ++ rest) (x ∷ xs)
classes_cons v n x xs first rest a b = more_classes first rest a b refl

end_turns_all : (v : Version) (o : Option Token) → Turns (ClassesRule v) AtEnd (ClassesRule v) (NotFirst All) (λ l. l) o
end_turns_all v o = record { back = λ w z b r f l. record { tree = b; rule = r; is = refl; follows = subst (NotFirst All b) (sym f) tt }; forth = λ w l r. r }

module _ (v : Version) (t : Tokens) (from : ℕ) (within : from ≤ length t.spots.items) where
  pub classes_init : (cs : List Class) → cs ≡ [] → Leaves OF_CLASS_TEXT (ClassesRule v) AtEnd (ClassesRule v) (NotFirst All) (λ ys. map class_of cs ++ ys) t.spots.items from from
  classes_init cs q = means OF_CLASS_TEXT t.spots.items (λ ys. map class_of cs ++ ys) (λ ys. ap (λ z. map class_of z ++ ys) (sym q))
      (narrow OF_CLASS_TEXT t.spots.items refl (end_turns_all v (token_at t.spots.items from)) (nothing OF_CLASS_TEXT t.spots.items (ClassesRule v) AtEnd from within))

  module _ (at : ℕ) (cs : List Class) (l : Leaves OF_CLASS_TEXT (ClassesRule v) AtEnd (ClassesRule v) (NotFirst All) (λ ys. map class_of cs ++ ys) t.spots.items from at) where
    some_here : at < length t.spots.items → AsFirst All (token_at t.spots.items at)
    some_here h = let s = some_at t.spots.items at h in subst (AsFirst All) (sym s.1) tt

    pub class_step : (to : ℕ) (ds : List Class) (c : Class) → at < length t.spots.items → ds ≡ cs ++ c ∷ [] → Reads OF_CLASS_TEXT (ClassRule v) Any t.spots.items at (class_of c) to
        → Leaves OF_CLASS_TEXT (ClassesRule v) AtEnd (ClassesRule v) (NotFirst All) (λ ys. map class_of ds ++ ys) t.spots.items from to
    class_step to ds c h q r = each_step (λ k. ClassRule v) (λ k. ClassesRule v) All (λ k. no_classes) (classes_cons v) (classes_cut v) (all_starts v) class_of t 0 cs l 1 to ds c (some_here h) refl q r

    pub class_fails : at < length t.spots.items → (e : SourceFault) → Fails OF_CLASS_TEXT (ClassRule v) Any t at e → Fails OF_CLASS_TEXT (ClassesRule v) AtEnd t from e
    class_fails h e a = each_fails (λ k. ClassRule v) (λ k. ClassesRule v) All (λ k. no_classes) (classes_cons v) (classes_cut v) (all_starts v) t 0 l (some_here h) e a

    pub classes_done : length t.spots.items ≤ at → Reads OF_CLASS_TEXT (ClassesRule v) AtEnd t.spots.items from (map class_of cs) (length t.spots.items)
    classes_done h =
        let e : at ≡ length t.spots.items = omega (arith, h, l.within) in
        subst (Reads OF_CLASS_TEXT (ClassesRule v) AtEnd t.spots.items from (map class_of cs)) e
        (each_end (λ k. ClassRule v) (λ k. ClassesRule v) All (λ k. no_classes) (classes_cons v) (classes_cut v) (all_starts v) class_of t 0 cs l (λ f. subst (AsFirst All) (none_at t.spots.items at h) f))

-- what was read of records and functions, put before what follows
abbrev pub rest_before : List RecordDecl → List FunctionDecl → TextTree → RawTree
rest_before rs fs x = record { records = map record_of rs ++ x.0.0; functions = map function_of fs ++ x.0.1; classes = x.1 }

abbrev pub rest_tree : TextTree → RawTree
rest_tree x = record { records = x.0.0; functions = x.0.1; classes = x.1 }

record_link : (v : Version) → Link (Marks (Node 1) Record) Any (λ r. Things v) (λ x. AtEnd x.1)
record_link v = free (λ r. some_things v)

function_link : (v : Version) → Link (Marks (Node 1) (Function (functions_of v))) Any (λ r. Things v) (λ x. AtEnd x.1)
function_link v = free (λ r. some_things v)

module _ (v : Version) (t : Tokens) (from : ℕ) (within : from ≤ length t.spots.items) where
  pub rest_init : (rs : List RecordDecl) (fs : List FunctionDecl) → rs ≡ [] → fs ≡ [] → Leaves OF_CLASS_TEXT (Rest v) AtEnd (Things v) AtEnd (rest_before rs fs) t.spots.items from from
  rest_init rs fs q p = means OF_CLASS_TEXT t.spots.items (rest_before rs fs) (λ x. ap (λ z. rest_before z [] x) (sym q) ∙ ap (λ z. rest_before rs z x) (sym p))
      (narrow OF_CLASS_TEXT t.spots.items refl (mapped_turns rest_tree (Things v) AtEnd AtEnd (token_at t.spots.items from) (λ a z f. f)) (nothing OF_CLASS_TEXT t.spots.items (Rest v) AtEnd from within))

  module _ (at : ℕ) (rs : List RecordDecl) (fs : List FunctionDecl) (l : Leaves OF_CLASS_TEXT (Rest v) AtEnd (Things v) AtEnd (rest_before rs fs) t.spots.items from at) where
    record_left : token_at t.spots.items at ≡ Some (token.Word word.Struct) → Leaves OF_CLASS_TEXT (Rest v) AtEnd (RecordThings v) AtEnd (λ y. rest_before rs fs (with_record y)) t.spots.items from at
    record_left e = narrow OF_CLASS_TEXT t.spots.items e (struct_turns v) l

    pub record_fails : token_at t.spots.items at ≡ Some (token.Word word.Struct) → (e : SourceFault) → Fails OF_CLASS_TEXT Record Any t at e → Fails OF_CLASS_TEXT (Rest v) AtEnd t from e
    record_fails h e a = first_fails OF_CLASS_TEXT t (record_link v) (record_left h) e (marks_fails OF_CLASS_TEXT Record Any (Node 1) t at (λ m le k. omega arith) e a)

    pub record_reads : (to : ℕ) (ss : List RecordDecl) (r : RecordDecl) → token_at t.spots.items at ≡ Some (token.Word word.Struct) → ss ≡ rs ++ r ∷ []
        → Reads OF_CLASS_TEXT Record Any t.spots.items at (record_of r) to
        → Leaves OF_CLASS_TEXT (Rest v) AtEnd (Things v) AtEnd (rest_before ss fs) t.spots.items from to
    record_reads to ss r e q a = means OF_CLASS_TEXT t.spots.items (rest_before ss fs)
        (λ x. ap (λ z. record { records = z; functions = map function_of fs ++ x.0.1; classes = x.1 }) (push record_of rs r x.0.0 ∙ ap (λ z. map record_of z ++ x.0.0) (sym q)))
        (then_reads OF_CLASS_TEXT t.spots.items (record_link v) (record_left e) (marks_reads OF_CLASS_TEXT t.spots.items (Node 1) (λ h. omega arith) a))

    name_of : (o : Option Token) → AsFirst NameToken o → (m : List ℕ) × (o ≡ Some (token.Name m))
    name_of None h = absurd h
    name_of (Some (token.Name m)) h = (m, refl)
    name_of (Some (token.Number m)) h = absurd h
    name_of (Some (token.Text m)) h = absurd h
    name_of (Some (token.Word m)) h = absurd h
    name_of (Some (token.Sign m)) h = absurd h

    function_left : at < length t.spots.items → BeginsNoClass t.spots.items at → (token_at t.spots.items at ≡ Some (token.Word word.Struct) → ⊥)
        → Leaves OF_CLASS_TEXT (Rest v) AtEnd (FunctionThings v) AtEnd (λ y. rest_before rs fs (with_function y)) t.spots.items from at
    function_left h (inl nope) struct = let s = some_at t.spots.items at h in narrow OF_CLASS_TEXT t.spots.items refl (plain_turns v (token_at t.spots.items at) s.0 s.1 struct nope) l
    function_left h (inr c) struct = let m = name_of (token_at t.spots.items (suc at)) c.1 in function_far t.spots.items at c.0 v m.0 m.1 c.2 l

    pub function_fails : (home : RoutineKind) → home ≡ functions_of v → at < length t.spots.items → BeginsNoClass t.spots.items at → (token_at t.spots.items at ≡ Some (token.Word word.Struct) → ⊥) → (e : SourceFault)
        → Fails OF_CLASS_TEXT (Function home) Any t at e → Fails OF_CLASS_TEXT (Rest v) AtEnd t from e
    function_fails home same h nope struct e a = first_fails OF_CLASS_TEXT t (function_link v) (function_left h nope struct) e (marks_fails OF_CLASS_TEXT (Function (functions_of v)) Any (Node 1) t at (λ m le k. omega arith) e
        (subst (λ k. Fails OF_CLASS_TEXT (Function k) Any t at e) same a))

    pub function_reads : (home : RoutineKind) → home ≡ functions_of v → (to : ℕ) (gs : List FunctionDecl) (f : FunctionDecl) → at < length t.spots.items → BeginsNoClass t.spots.items at
        → (token_at t.spots.items at ≡ Some (token.Word word.Struct) → ⊥)
        → gs ≡ fs ++ f ∷ [] → Reads OF_CLASS_TEXT (Function home) Any t.spots.items at (function_of f) to → Leaves OF_CLASS_TEXT (Rest v) AtEnd (Things v) AtEnd (rest_before rs gs) t.spots.items from to
    function_reads home same to gs f h nope struct q a = means OF_CLASS_TEXT t.spots.items (rest_before rs gs)
        (λ x. ap (λ z. record { records = map record_of rs ++ x.0.0; functions = z; classes = x.1 }) (push function_of fs f x.0.1 ∙ ap (λ z. map function_of z ++ x.0.1) (sym q)))
        (then_reads OF_CLASS_TEXT t.spots.items (function_link v) (function_left h nope struct) (marks_reads OF_CLASS_TEXT t.spots.items (Node 1) (λ k. omega arith)
        (subst (λ k. Reads OF_CLASS_TEXT (Function k) Any t.spots.items at (function_of f) to) same a)))

    pub classes_left : (length t.spots.items ≤ at) ⊎ BeginsClass t.spots.items at → Leaves OF_CLASS_TEXT (Rest v) AtEnd (ClassesRule v) AtEnd (λ cs. rest_before rs fs (([], []), cs)) t.spots.items from at
    classes_left (inl h) = narrow OF_CLASS_TEXT t.spots.items (none_at t.spots.items at h) (end_turns v) l
    classes_left (inr c) = class_far t.spots.items at c.0 v c.1 l

    pub rest_fails : (length t.spots.items ≤ at) ⊎ BeginsClass t.spots.items at → (e : SourceFault) → Fails OF_CLASS_TEXT (ClassesRule v) AtEnd t at e → Fails OF_CLASS_TEXT (Rest v) AtEnd t from e
    rest_fails h e a = fails OF_CLASS_TEXT t (classes_left h) e a

    pub rest_done : (length t.spots.items ≤ at) ⊎ BeginsClass t.spots.items at → (cs : List ClassTree) (to : ℕ) → Reads OF_CLASS_TEXT (ClassesRule v) AtEnd t.spots.items at cs to
        → Reads OF_CLASS_TEXT (Rest v) AtEnd t.spots.items from (record { records = map record_of rs; functions = map function_of fs; classes = cs }) to
    rest_done h cs to r = subst (λ z. Reads OF_CLASS_TEXT (Rest v) AtEnd t.spots.items from z to)
        (ap (λ z. record { records = z; functions = map function_of fs ++ []; classes = cs }) (append-nil (map record_of rs)) ∙ ap
        (λ z. record { records = map record_of rs; functions = z; classes = cs }) (append-nil (map function_of fs)))
        (done OF_CLASS_TEXT t.spots.items (classes_left h) r)

-- "classes", the number of the version and the rest
some_rest : (v : Version) → Inhabited (Rest v)
some_rest v = let s = some_things v in record { marked = s.marked; tree = rest_tree s.tree; rule = (s.tree, s.rule, refl) }

pub text_link : Link VersionHead Any Rest (λ x. AtEnd x.1)
text_link = free some_rest

text_turns : (o : Option Token) → Turns TextRule AtEnd (Then VersionHead Rest) (λ x. AtEnd x.1) (λ x. x.1) o
text_turns o = record { back = λ w z b r f l. whole w z b f r; forth = λ w x r. make w x r }
  where
    of : (v : Version) (w z : List Marked) (b : RawTree) → AtEnd b z → VersionRule v w b → Back TextRule AtEnd (Then VersionHead Rest) (λ x. AtEnd x.1) (λ x. x.1) w z b
    of v w z b f (text p q heads classes h c e) = record {
      tree = (v, b);
      rule = record {
        first = said (codes "classes") p ∷ number_at (version_number v) q ∷ [];
        rest = heads ++ classes;
        is = e;
        front = (p, number_at (version_number v) q ∷ [], (q, refl), refl);
        back = (((b.records, b.functions), b.classes), record { first = heads; rest = classes; is = refl; front = h; back = c }, refl);
      };
      is = refl;
      follows = f;
    }

    whole : (w z : List Marked) (b : RawTree) → AtEnd b z → TextRule w b → Back TextRule AtEnd (Then VersionHead Rest) (λ x. AtEnd x.1) (λ x. x.1) w z b
    whole w z b f (of_version v r) = of v w z b f r

    make : (w : List Marked) (x : Version × RawTree) → Then VersionHead Rest w x → TextRule w x.1
    make w x r =
        let a = r.front in
        let c = r.back.1 in
        of_version x.0 (subst (VersionRule x.0 w) (sym r.back.2) (text a.0 a.2.0 c.first c.rest c.front c.back
        (r.is ∙ ap (λ z. z ++ r.rest) a.3 ∙ ap (λ z. (said (codes "classes") a.0 ∷ z) ++ r.rest) a.2.1
        ∙ ap (λ z. said (codes "classes") a.0 ∷ number_at (version_number x.0) a.2.0 ∷ z) c.is)))

pub text_left : (t : Tokens) → Leaves OF_CLASS_TEXT TextRule AtEnd (Then VersionHead Rest) (λ x. AtEnd x.1) (λ x. x.1) t.spots.items 0 0
text_left t = narrow OF_CLASS_TEXT t.spots.items refl (text_turns (token_at t.spots.items 0)) (nothing OF_CLASS_TEXT t.spots.items TextRule AtEnd 0 (omega arith))

-- the version that a number tells
same_version : (a b : Version) → version_number a ≡ version_number b → a ≡ b
same_version One One e = refl
same_version Two Two e = refl
same_version One Two e = absurd (cc)
same_version Two One e = absurd (cc)

version_turns : (v : Version) → Turns VersionPart Any (Tok (token.Number (pos (version_number v)))) Any (λ p. v) (Some (token.Number (pos (version_number v))))
version_turns v = record { back = λ w z b r f l. of w z b r.0 r.1 l; forth = λ w p r. (p, r) }
  where
    same_number : (m n : ℕ) → Some (token.Number (pos m)) ≡ Some (token.Number (pos n)) → m ≡ n
    same_number m n e = cc

    of : (w z : List Marked) (b : Version) (p : Place) → w ≡ number_at (version_number b) p ∷ [] → Looks (Some (token.Number (pos (version_number v)))) (w ++ z)
        → Back VersionPart Any (Tok (token.Number (pos (version_number v)))) Any (λ p. v) w z b
    of w z b p e l =
        let n = same_number (version_number v) (version_number b) (looks_is (Some (token.Number (pos (version_number v)))) (number_at (version_number b) p) [] z e l) in
        record { tree = p; rule = e ∙ ap (λ k. number_at k p ∷ []) (sym n); is = same_version b v (sym n); follows = tt }

pub some_version : Inhabited VersionPart
some_version = record { marked = number_at 1 nowhere ∷ []; tree = One; rule = (nowhere, refl) }

module _ (t : Tokens) (at : ℕ) where
  pub version_reads : (v : Version) → token_at t.spots.items at ≡ Some (token.Number (pos (version_number v))) → Reads OF_CLASS_TEXT VersionPart Any t.spots.items at v (at + 1)
  version_reads v e = become OF_CLASS_TEXT t.spots.items e (version_turns v) (tok_reads OF_CLASS_TEXT t at (token.Number (pos (version_number v))) e)

  pub version_fails : (token_at t.spots.items at ≡ Some (token.Number (pos 1)) → ⊥) → (token_at t.spots.items at ≡ Some (token.Number (pos 2)) → ⊥)
      → Fails OF_CLASS_TEXT VersionPart Any t at (Refused (rule.S 5) (place_at t at))
  version_fails one two = none_fails OF_CLASS_TEXT VersionPart Any t at some_version
      (λ w z b r f l. none b (looks_is (token_at t.spots.items at) (number_at (version_number b) r.0) [] z r.1 l))
    where
      none : (b : Version) → token_at t.spots.items at ≡ Some (token.Number (pos (version_number b))) → ⊥
      none One e = one e
      none Two e = two e
