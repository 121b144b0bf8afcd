-- The names of fields, by number.
use Rattle.std.proofs.Common.{◌≡◌, ℕ, zero, suc, ◌+◌, ◌<◌, ◌≤◌, Bool, true, false, List, [], ◌∷◌, ◌++◌, length, map, take, get_or, slice_get, refl, ap, sym, subst, ◌∙◌, arith, add-one}
use Rattle.std.specs.List.{list_any}
use Rattle.std.specs.Str.{bytes_eq}
use Rattle.std.specs.declared.option.Option.TheVariants.{None, Some}
use denote.Ref.{Bor}
use Rattle.indexmap.specs.IndexSet.{insert_key}
use Rattle.flow_tree.specs.declared.decl.Param.{Param}
use Rattle.flow_tree.specs.declared.decl.RecordDecl.{RecordDecl}
use Rattle.flow_tree.specs.DeclView.{param_of, record_of}
use Rattle.flow_tree.specs.Decls.{ParamTree, RecordTree}
use Rattle.std.specs.declared.alloc.Global.{Global}
use Rattle.std.specs.declared.vec.Vec.{Vec}
use Rattle.flow_code.specs.Resolved.Named.{IsNamed, AreNamed, AllNamed, Keeps, param_name}

abbrev pub Key : Type 0
Key = Bor (List ℕ)

pub keeps_self : (ks : List Key) → Keeps ks ks
keeps_self ks = λ n k h. h

pub keeps_then : (ks ls ms : List Key) → Keeps ks ls → Keeps ls ms → Keeps ks ms
keeps_then ks ls ms p q = λ n k h. q n k (p n k h)

named_kept : (ks ls : List Key) (n : ℕ) (x : List ℕ) → Keeps ks ls → IsNamed ks n x → IsNamed ls n x
named_kept ks ls n x kept h = (h.0, kept n h.0 h.1, h.2)

pub are_kept : (ks ls : List Key) (ns : List ℕ) (ps : List ParamTree) → Keeps ks ls → AreNamed param_name ks ns ps → AreNamed param_name ls ns ps
are_kept ks ls [] [] kept h = tt
are_kept ks ls [] (p ∷ ps) kept h = absurd h
are_kept ks ls (n ∷ ns) [] kept h = absurd h
are_kept ks ls (n ∷ ns) (p ∷ ps) kept h = (named_kept ks ls n p.name.name kept h.0, are_kept ks ls ns ps kept h.1)

are_last : (ks : List Key) (ns : List ℕ) (ps : List ParamTree) (n : ℕ) (p : ParamTree) → AreNamed param_name ks ns ps → IsNamed ks n p.name.name → AreNamed param_name ks (ns ++ n ∷ []) (ps ++ p ∷ [])
are_last ks [] [] n p h one = (one, tt)
are_last ks [] (q ∷ ps) n p h one = absurd h
are_last ks (m ∷ ns) [] n p h one = absurd h
are_last ks (m ∷ ns) (q ∷ ps) n p h one = (h.0, are_last ks ns ps n p h.1 one)

all_kept : (ks ls : List Key) (vs : List (Vec ℕ Global)) (rs : List RecordTree) → Keeps ks ls → AllNamed ks vs rs → AllNamed ls vs rs
all_kept ks ls [] [] kept h = tt
all_kept ks ls [] (r ∷ rs) kept h = absurd h
all_kept ks ls (v ∷ vs) [] kept h = absurd h
all_kept ks ls (v ∷ vs) (r ∷ rs) kept h = (are_kept ks ls v.items r.fields kept h.0, all_kept ks ls vs rs kept h.1)

all_last : (ks : List Key) (vs : List (Vec ℕ Global)) (rs : List RecordTree) (v : Vec ℕ Global) (r : RecordTree) → AllNamed ks vs rs → AreNamed param_name ks v.items r.fields
    → AllNamed ks (vs ++ v ∷ []) (rs ++ r ∷ [])
all_last ks [] [] v r h one = (one, tt)
all_last ks [] (q ∷ rs) v r h one = absurd h
all_last ks (w ∷ vs) [] v r h one = absurd h
all_last ks (w ∷ vs) (q ∷ rs) v r h one = (h.0, all_last ks vs rs v r h.1 one)

take_more : {A B : Type 0} (f : A → B) (xs : List A) (i : ℕ) (d : A) → i < length xs → map f (take (suc i) xs) ≡ map f (take i xs) ++ f (get_or xs i d) ∷ []
take_more f [] i d lt = absurd (omega arith)
take_more f (x ∷ xs) zero d lt = refl
take_more f (x ∷ xs) (suc i) d lt = let lt' : i < length xs = omega arith in ap (λ l. f x ∷ l) (take_more f xs i d lt')

take_all : {A : Type 0} (xs : List A) (i : ℕ) → length xs ≤ i → take i xs ≡ xs
take_all [] zero le = refl
take_all [] (suc i) le = refl
take_all (x ∷ xs) zero le = absurd (omega arith)
take_all (x ∷ xs) (suc i) le = let le' : length xs ≤ i = omega arith in ap (λ l. x ∷ l) (take_all xs i le')

pub fields_step : (fs : List Param) (i : ℕ) (d : Param) (name : List ℕ) (ks ls : List Key) (ns ms : List ℕ) (n : ℕ) → i < length fs → name ≡ (get_or fs i d).name.name → ms ≡ ns ++ n ∷ []
    → Keeps ks ls → IsNamed ls n name → AreNamed param_name ks ns (map param_of (take i fs)) → AreNamed param_name ls ms (map param_of (take (i + 1) fs))
fields_step fs i d name ks ls ns ms n lt is m kept one h =
    rw add-one
    (subst (λ z. AreNamed param_name ls z (map param_of (take (suc i) fs))) (sym m)
    (subst (λ l. AreNamed param_name ls (ns ++ n ∷ []) l) (sym (take_more param_of fs i d lt))
    (are_last ls ns (map param_of (take i fs)) n (param_of (get_or fs i d)) (are_kept ks ls ns (map param_of (take i fs)) kept h) (subst (IsNamed ls n) is one))))

pub fields_end : (fs : List Param) (i : ℕ) (ks : List Key) (ns : List ℕ) → length fs ≤ i → AreNamed param_name ks ns (map param_of (take i fs)) → AreNamed param_name ks ns (map param_of fs)
fields_end fs i ks ns le h = subst (λ l. AreNamed param_name ks ns (map param_of l)) (take_all fs i le) h

pub records_step : (rs : List RecordDecl) (i : ℕ) (d : RecordDecl) (of : RecordDecl) (ks ls : List Key) (vs ws : List (Vec ℕ Global)) (v : Vec ℕ Global) → i < length rs → of ≡ get_or rs i d
    → ws ≡ vs ++ v ∷ []
    → Keeps ks ls → AreNamed param_name ls v.items (map param_of of.fields.items) → AllNamed ks vs (map record_of (take i rs)) → AllNamed ls ws (map record_of (take (i + 1) rs))
records_step rs i d of ks ls vs ws v lt is m kept one h =
    rw add-one
    (subst (λ z. AllNamed ls z (map record_of (take (suc i) rs))) (sym m)
    (subst (λ l. AllNamed ls (vs ++ v ∷ []) l) (sym (take_more record_of rs i d lt))
    (all_last ls vs (map record_of (take i rs)) v (record_of (get_or rs i d)) (all_kept ks ls vs (map record_of (take i rs)) kept h)
    (subst (λ r. AreNamed param_name ls v.items (map param_of r.fields.items)) is one))))

pub records_end : (rs : List RecordDecl) (i : ℕ) (ks : List Key) (vs : List (Vec ℕ Global)) → length rs ≤ i → AllNamed ks vs (map record_of (take i rs)) → AllNamed ks vs (map record_of rs)
records_end rs i ks vs le h = subst (λ l. AllNamed ks vs (map record_of l)) (take_all rs i le) h
