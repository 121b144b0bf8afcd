-- What was written of a text, a line or a declaration at a time.
use Rattle.std.proofs.Common.{◌≡◌, ℕ, ◌+◌, ◌-◌, ◌<◌, List, [], ◌∷◌, ◌++◌, map, length, take, drop, get_or, refl, sym, ap, ◌∙◌, subst, append_assoc, Option}
use Rattle.std.specs.Io.KnownBytes.{Appends}
use Rattle.std.proofs.KnownBytes.{Appends-trans}
use Rattle.std.proofs.lemmas.List.{append-nil, take-append-drop, take_more, drop_more, take_rest}
use Rattle.flow_base.specs.Bytes.{AppendsPart}
use Rattle.flow_tree.specs.declared.decl.Decl.{Decl}
use Rattle.flow_tree.specs.DeclView.{decl_of}
use Rattle.flow_tree.specs.Canon.{decl_text, decls_text}

-- a part of what follows was written
pub part_behind : (a b c : Option (List ℕ)) (all done piece rest : List ℕ) → all ≡ done ++ (piece ++ rest) → Appends a b done → AppendsPart b c piece → AppendsPart a c all
part_behind a b c all done piece rest e p q =
    let front = q.0 in let back = q.1 in (
      done ++ front,
      back ++ rest,
      e ∙ ap (λ l. done ++ (l ++ rest)) q.2 ∙ ap (λ l. done ++ l) (append_assoc front back rest) ∙ sym (append_assoc done front (back ++ rest)),
      Appends-trans a b c done front p q.3,
    )

pub split_at : (text done rest : List ℕ) (n : ℕ) → text ≡ done ++ rest → text ≡ done ++ (take n rest ++ drop n rest)
split_at text done rest n e = e ∙ ap (λ l. done ++ l) (sym (take-append-drop n rest))

pub split_later : (text done rest : List ℕ) (n : ℕ) → text ≡ done ++ rest → text ≡ (done ++ take n rest) ++ take (length rest - n) (drop n rest)
split_later text done rest n e =
    split_at text done rest n e ∙ sym (append_assoc done (take n rest) (drop n rest)) ∙ ap (λ l. (done ++ take n rest) ++ l) (sym (take_rest rest n))

decls_end : (xs ys : List Decl) → decls_text (map decl_of (xs ++ ys)) ≡ decls_text (map decl_of xs) ++ decls_text (map decl_of ys)
decls_end [] ys = refl
decls_end (x ∷ xs) ys = ap (λ l. decl_text (decl_of x) ++ l) (decls_end xs ys) ∙ sym (append_assoc (decl_text (decl_of x)) (decls_text (map decl_of xs)) (decls_text (map decl_of ys)))

-- one more declaration
pub decls_more : (ds : List Decl) (i : ℕ) (d : Decl) → i < length ds → d ≡ get_or ds i d → decls_text (map decl_of (take (i + 1) ds)) ≡ decls_text (map decl_of (take i ds)) ++ decl_text (decl_of d)
decls_more ds i d lt e =
    ap (λ l. decls_text (map decl_of l)) (take_more ds i d lt) ∙ decls_end (take i ds) (get_or ds i d ∷ [])
    ∙ ap (λ l. decls_text (map decl_of (take i ds)) ++ l) (append-nil (decl_text (decl_of (get_or ds i d))) ∙ ap (λ z. decl_text (decl_of z)) (sym e))

pub decls_split : (ds : List Decl) (i : ℕ) (d : Decl) → i < length ds → d ≡ get_or ds i d
    → decls_text (map decl_of ds) ≡ decls_text (map decl_of (take i ds)) ++ (decl_text (decl_of d) ++ decls_text (map decl_of (drop (i + 1) ds)))
decls_split ds i d lt e =
    ap (λ l. decls_text (map decl_of l)) (sym (take-append-drop i ds)) ∙ decls_end (take i ds) (drop i ds)
    ∙ ap (λ l. decls_text (map decl_of (take i ds)) ++ decls_text (map decl_of l)) (drop_more ds i d lt)
    ∙ ap (λ z. decls_text (map decl_of (take i ds)) ++ (decl_text (decl_of z) ++ decls_text (map decl_of (drop (i + 1) ds)))) (sym e)

-- one more declaration was written, or a part of it
pub decl_written : (a b c : Option (List ℕ)) (ds : List Decl) (i : ℕ) (d : Decl) (piece : List ℕ) → i < length ds → d ≡ get_or ds i d → piece ≡ decl_text (decl_of d)
    → Appends a b (decls_text (map decl_of (take i ds))) → Appends b c piece → Appends a c (decls_text (map decl_of (take (i + 1) ds)))
decl_written a b c ds i d piece lt is e p q =
    subst (Appends a c) (ap (λ l. decls_text (map decl_of (take i ds)) ++ l) e ∙ sym (decls_more ds i d lt is)) (Appends-trans a b c _ piece p q)

pub decl_part : (a b c : Option (List ℕ)) (ds : List Decl) (i : ℕ) (d : Decl) (piece : List ℕ) → i < length ds → d ≡ get_or ds i d → piece ≡ decl_text (decl_of d)
    → Appends a b (decls_text (map decl_of (take i ds))) → AppendsPart b c piece → AppendsPart a c (decls_text (map decl_of ds))
decl_part a b c ds i d piece lt is e p q =
    let rest = decls_text (map decl_of (drop (i + 1) ds)) in
    part_behind a b c _ (decls_text (map decl_of (take i ds))) piece rest
    (decls_split ds i d lt is ∙ ap (λ l. decls_text (map decl_of (take i ds)) ++ (l ++ rest)) (sym e)) p q

-- the declarations up to this one are a first part of the text
pub so_far : (a b : Option (List ℕ)) (ds : List Decl) (i : ℕ) → Appends a b (decls_text (map decl_of (take i ds))) → AppendsPart a b (decls_text (map decl_of ds))
so_far a b ds i h = (
  decls_text (map decl_of (take i ds)),
  decls_text (map decl_of (drop i ds)),
  ap (λ l. decls_text (map decl_of l)) (sym (take-append-drop i ds)) ∙ decls_end (take i ds) (drop i ds),
  h,
)

pub decl_shown : (ds : List Decl) (i : ℕ) (d : Decl) (old new : List ℕ) → i < length ds → d ≡ get_or ds i d → old ≡ decls_text (map decl_of (take i ds))
    → new ≡ old ++ decl_text (decl_of d) → new ≡ decls_text (map decl_of (take (i + 1) ds))
decl_shown ds i d old new lt is h e = e ∙ ap (λ l. l ++ decl_text (decl_of d)) h ∙ sym (decls_more ds i d lt is)
