-- Names that are taken: what is put among them is taken from then on.
use Rattle.std.proofs.Common.{◌≡◌, ℕ, ◌+◌, ◌<◌, Bool, true, false, not, ◌&&◌, ◌||◌, nat_le, List, [], ◌∷◌, ◌++◌, map, take, length, get_or, if◌then◌else◌, refl, sym, ap, ap₂, ◌∙◌}
use Rattle.std.specs.List.{list_any, list_all}
use Rattle.std.specs.Str.{bytes_eq}
use Rattle.std.specs.declared.option.Option.{Option}
use Rattle.std.specs.declared.option.Option.TheVariants.{None, Some}
use Rattle.std.proofs.lemmas.Slice.Eq.{bytes_eq-Decides}
use Rattle.std.proofs.lemmas.List.{map-append, map_more}
use denote.Ref.{Bor}
use Rattle.indexmap.specs.IndexSet.{insert_key}
use Rattle.flow_tree.specs.declared.decl.Decl.{Decl}
use Rattle.flow_tree.specs.Decls.{SlotTree, DeclTree}
use Rattle.flow_tree.specs.DeclView.{decl_of}
use Rattle.flow_ast.specs.TypingNames.{named}
use Rattle.flow_ast.specs.Typing.{is_there}
use Rattle.flow_rules.specs.Known.{Meaning, row_of, packet_row, known, type_known, is_predefined}
use Rattle.flow_rules.specs.Items.{among}
use Rattle.flow_class.specs.Classes.{ClassTree}
use Rattle.flow_valid.specs.Heads.{head_kept}
use Rattle.flow_validate.specs.Apart.{AreTaken}

-- the texts of borrowed names
abbrev texts : List (Bor (List ℕ)) → List (List ℕ)
texts ks = map (λ (k : Bor (List ℕ)). k.now) ks

abbrev put : List (Bor (List ℕ)) → Bor (List ℕ) → List (Bor (List ℕ))
put ks k = insert_key (λ (x y : Bor (List ℕ)). bytes_eq x.now y.now) ks k

or_true : (b : Bool) → (b || true) ≡ true
or_true true = refl
or_true false = refl

turn : (a b c : Bool) → (a || (b || c)) ≡ (b || (a || c))
turn true b c = sym (or_true b)
turn false b c = refl

any_among : (x : List ℕ) (ks : List (Bor (List ℕ))) → list_any (λ (k : Bor (List ℕ)). bytes_eq x k.now) ks ≡ among (texts ks) x
any_among x [] = refl
any_among x (k ∷ ks) = ap (λ b. bytes_eq x k.now || b) (any_among x ks)

among_last : (ts : List (List ℕ)) (t x : List ℕ) → among (ts ++ t ∷ []) x ≡ (bytes_eq x t || among ts x)
among_last [] t x = refl
among_last (u ∷ ts) t x = ap (λ b. bytes_eq x u || b) (among_last ts t x) ∙ turn (bytes_eq x u) (bytes_eq x t) (among ts x)

already : (ts : List (List ℕ)) (t x : List ℕ) → among ts t ≡ true → (b : Bool) → bytes_eq x t ≡ b → among ts x ≡ (bytes_eq x t || among ts x)
already ts t x there true is = ap (among ts) ((bytes_eq-Decides x t).0 is) ∙ there ∙ sym (ap (λ b. b || among ts x) is)
already ts t x there false is = sym (ap (λ b. b || among ts x) is)

among_put : (ks : List (Bor (List ℕ))) (k : Bor (List ℕ)) (x : List ℕ) → among (texts (put ks k)) x ≡ (bytes_eq x k.now || among (texts ks) x)
among_put ks k x = by (list_any (λ (j : Bor (List ℕ)). bytes_eq k.now j.now) ks) refl
  where
    by : (b : Bool) → list_any (λ (j : Bor (List ℕ)). bytes_eq k.now j.now) ks ≡ b → among (texts (put ks k)) x ≡ (bytes_eq x k.now || among (texts ks) x)
    by true is =
        ap (λ c. among (texts (if c then ks else ks ++ k ∷ [])) x) is ∙ already (texts ks) k.now x (sym (any_among k.now ks) ∙ is) (bytes_eq x k.now) refl
    by false is =
        ap (λ c. among (texts (if c then ks else ks ++ k ∷ [])) x) is
        ∙ ap (λ l. among l x) (map-append (λ (j : Bor (List ℕ)). j.now) ks (k ∷ [])) ∙ among_last (texts ks) k.now x

there_if : {A : Type 0} (b : Bool) (a : A) (o : Option A) → is_there (if b then Some a else o) ≡ (b || is_there o)
there_if true a o = refl
there_if false a o = refl

named_last : {A : Type 0} (ts : List (List ℕ × A)) (t : List ℕ × A) (x : List ℕ) → is_there (named (ts ++ t ∷ []) x) ≡ (bytes_eq x t.0 || is_there (named ts x))
named_last [] t x = there_if (bytes_eq x t.0) t.1 None
named_last (u ∷ ts) t x =
    there_if (bytes_eq x u.0) u.1 (named (ts ++ t ∷ []) x) ∙ ap (λ b. bytes_eq x u.0 || b) (named_last ts t x)
    ∙ turn (bytes_eq x u.0) (bytes_eq x t.0) (is_there (named ts x))
    ∙ ap (λ b. bytes_eq x t.0 || b) (sym (there_if (bytes_eq x u.0) u.1 (named ts x)))

known_last : (ds : List DeclTree) (d : DeclTree) (x : List ℕ) → is_there (known (ds ++ d ∷ []) x) ≡ (bytes_eq x (row_of d).0 || is_there (known ds x))
known_last ds d x = ap (λ l. is_there (named (packet_row ∷ l) x)) (map-append row_of ds (d ∷ [])) ∙ named_last (packet_row ∷ map row_of ds) (row_of d) x

pub taken_more : (ks new : List (Bor (List ℕ))) (k : Bor (List ℕ)) (ds : List DeclTree) (d : DeclTree) → new ≡ put ks k → k.now ≡ (row_of d).0
    → AreTaken (texts ks) ds → AreTaken (texts new) (ds ++ d ∷ [])
taken_more ks new k ds d is name h x =
    ap (λ l. among (texts l) x) is ∙ among_put ks k x ∙ ap₂ (λ y b. bytes_eq x y || b) name (h x) ∙ sym (known_last ds d x)

pub taken_step : (decls : List Decl) (i : ℕ) (d : Decl) (ks new : List (Bor (List ℕ))) (k : Bor (List ℕ)) → i < length decls → d ≡ get_or decls i d
    → new ≡ put ks k → k.now ≡ (row_of (decl_of d)).0 → AreTaken (texts ks) (map decl_of (take i decls)) → AreTaken (texts new) (map decl_of (take (i + 1) decls))
taken_step decls i d ks new k lt at is name h x =
    taken_more ks new k (map decl_of (take i decls)) (decl_of d) is name h x
    ∙ ap (λ ds. is_there (known ds x)) (sym (map_more decl_of decls i d lt ∙ ap (λ (y : Decl). map decl_of (take i decls) ++ decl_of y ∷ []) (sym at)))

-- a head stands by its parts
pub head_by : (ts : List (List ℕ)) (all : List ℕ → Option Meaning) (c : ClassTree) (ds : List DeclTree) → AreTaken ts ds
    → (free enough slots locals : Bool) → free ≡ not (is_predefined c.name || among ts c.name) → enough ≡ nat_le c.params (length c.slots)
    → slots ≡ list_all (λ (s : SlotTree). type_known all s.ty) c.slots → locals ≡ list_all (type_known all) c.locals
    → (free && enough && slots && locals) ≡ head_kept (known ds) all c
head_by ts all c ds h free enough slots locals f e s l =
    ap₂ (λ x y. x && y && slots && locals) (f ∙ ap (λ b. not (is_predefined c.name || b)) (h c.name)) e
    ∙ ap₂ (λ x y. not (is_predefined c.name || is_there (known ds c.name)) && nat_le c.params (length c.slots) && x && y) s l
