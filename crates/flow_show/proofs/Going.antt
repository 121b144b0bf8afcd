-- Pieces of a text that are read back as tokens.
use Rattle.std.proofs.Common.{◌≡◌, ℕ, zero, suc, ◌<◌, List, [], ◌∷◌, ◌++◌, length, drop, refl, sym, ap, ap₂, ◌∙◌, subst, arith, append_assoc, true}
use Rattle.std.proofs.Math.Seq.{take-append_seam, drop-append_seam}
use Rattle.std.proofs.lemmas.List.{append-nil}
use Rattle.flow_base.specs.declared.place.Place.{Place}
use Rattle.flow_tree.specs.declared.token.Token.{Token}
use Rattle.flow_tree.specs.Spelling.{IsBounded, is_blank}
use Rattle.flow_tree.specs.Lexing.{place_after, TokenAt, ReadsTokens, here, gap, token}
use Rattle.flow_tree.specs.GrammarToken.{Part, Marked, opens, begin, spots_of}
use Rattle.flow_tree.specs.Canon.{indent, line}
use Rattle.flow_tree.proofs.GrammarLists.{spots_append, spots_begin}
use Rattle.flow_lex.proofs.Reading.{reads_on}

-- the parts that begin with tokens, in order
abbrev pub all_parts : List Marked → List Part
all_parts [] = []
all_parts (x ∷ xs) = x.parts ++ all_parts xs

pub parts_cat : (a b : List Marked) → all_parts (a ++ b) ≡ all_parts a ++ all_parts b
parts_cat [] b = refl
parts_cat (x ∷ a) b = ap (λ l. x.parts ++ l) (parts_cat a b) ∙ sym (append_assoc x.parts (all_parts a) (all_parts b))

pub parts_begin : (p : Part) (xs : List Marked) → 0 < length xs → all_parts (begin p xs) ≡ p ∷ all_parts xs
parts_begin p [] some = absurd (omega arith)
parts_begin p (x ∷ xs) some = refl

pub begin_some : (p : Part) (xs : List Marked) → 0 < length xs → 0 < length (begin p xs)
begin_some p [] some = some
begin_some p (x ∷ xs) some = omega arith

-- After some bytes, `w` is read before `rest` as the tokens of something; the parts that begin with
-- these are those of `orig`.
pub record Got {X : Type 0} (marks : X → List Marked) (orig : List Marked) (before w rest : List ℕ) : Type 0 where
  pub value : X
  pub reads : ReadsTokens before (w ++ rest) (spots_of (marks value)) (before ++ w) rest
  pub parts : all_parts (marks value) ≡ all_parts orig

-- `w` is read so wherever it stands, where what follows is fit
pub record Piece {X : Type 0} (marks : X → List Marked) (orig : List Marked) (w : List ℕ) (Fit : List ℕ → Type 0) : Type 0 where
  pub at : (before rest : List ℕ) → Fit rest → Got marks orig before w rest

-- anything may follow
abbrev pub Any : List ℕ → Type 0
Any rest = Unit {0}

-- one piece and another one behind it
pub both : {X Y : Type 0} {mx : X → List Marked} {my : Y → List Marked} {o o' : List Marked} {w v : List ℕ} {F G : List ℕ → Type 0}
    → Piece mx o w F → Piece my o' v G → ((rest : List ℕ) → G rest → F (v ++ rest)) → Piece {X = X × Y} (λ z. mx z.0 ++ my z.1) (o ++ o') (w ++ v) G
both {X} {Y} {mx} {my} {o} {o'} {w} {v} {F} {G} p q link = record { at = go }
  where
    go : (before rest : List ℕ) → G rest → Got {X = X × Y} (λ z. mx z.0 ++ my z.1) (o ++ o') before (w ++ v) rest
    go before rest g =
        let a = p.at before (v ++ rest) (link rest g) in
        let b = q.at (before ++ w) rest g in
        record {
          value = (a.value, b.value);
          reads =
              subst (λ t. ReadsTokens before t (spots_of (mx a.value ++ my b.value)) (before ++ (w ++ v)) rest) (sym (append_assoc w v rest))
              (subst (λ x. ReadsTokens before (w ++ (v ++ rest)) (spots_of (mx a.value ++ my b.value)) x rest) (append_assoc before w v)
              (subst (λ s. ReadsTokens before (w ++ (v ++ rest)) s ((before ++ w) ++ v) rest) (sym (spots_append (mx a.value) (my b.value))) (reads_on a.reads b.reads)));
          parts = parts_cat (mx a.value) (my b.value) ∙ ap₂ (λ x y. x ++ y) a.parts b.parts ∙ sym (parts_cat o o');
        }

-- the same piece, seen as something else
pub as_rule : {X Y : Type 0} {mx : X → List Marked} {my : Y → List Marked} {o all : List Marked} {w w' : List ℕ} {F : List ℕ → Type 0}
    → Piece mx o w F → (f : X → Y) → ((x : X) → my (f x) ≡ mx x) → all ≡ o → w' ≡ w → Piece my all w' F
as_rule {X} {Y} {mx} {my} {o} {all} {w} {w'} {F} p f same from text =
    subst (λ x. Piece my all x F) (sym text) (subst (λ x. Piece my x w F) (sym from) (record { at = go }))
  where
    go : (before rest : List ℕ) → F rest → Got my o before w rest
    go before rest g =
        let a = p.at before rest g in
        record {
          value = f a.value;
          reads = subst (λ m. ReadsTokens before (w ++ rest) (spots_of m) (before ++ w) rest) (sym (same a.value)) a.reads;
          parts = ap all_parts (same a.value) ∙ a.parts;
        }

-- a part that begins with a piece
pub begun : {X : Type 0} {mx : X → List Marked} {o : List Marked} {w : List ℕ} {F : List ℕ → Type 0} (part : Part) → ((x : X) → 0 < length (mx x)) → 0 < length o
    → Piece mx o w F → Piece (λ x. begin part (mx x)) (begin part o) w F
begun {X} {mx} {o} {w} {F} part some has p = record { at = go }
  where
    go : (before rest : List ℕ) → F rest → Got (λ x. begin part (mx x)) (begin part o) before w rest
    go before rest g =
        let a = p.at before rest g in
        record {
          value = a.value;
          reads = subst (λ s. ReadsTokens before (w ++ rest) s (before ++ w) rest) (sym (spots_begin part (mx a.value))) a.reads;
          parts = parts_begin part (mx a.value) (some a.value) ∙ ap (λ l. part ∷ l) a.parts ∙ sym (parts_begin part o has);
        }

-- nothing at all
pub nothing : {F : List ℕ → Type 0} → Piece {X = Unit {0}} (λ x. []) [] [] F
nothing {F} = record {
  at = λ before rest g. record {
    value = tt;
    reads = subst (λ x. ReadsTokens before rest [] x rest) (sym (append-nil before)) here;
    parts = refl;
  };
}

-- a token
pub one_token : {F : List ℕ → Type 0} (ps : List Part) (t : Token) (p : Place) (w : List ℕ) → ((rest : List ℕ) → F rest → TokenAt (w ++ rest) t (length w)) → IsBounded t
    → Piece {X = Place} (λ x. opens ps t x ∷ []) (opens ps t p ∷ []) w F
one_token {F} ps t p w there bound = record {
  at = λ before rest g. record {
    value = place_after before;
    reads = token t (length w) (there rest g) bound
        (subst (λ x. ReadsTokens (before ++ x) (drop (length w) (w ++ rest)) [] (before ++ w) rest) (sym (take-append_seam w rest))
        (subst (λ x. ReadsTokens (before ++ w) x [] (before ++ w) rest) (sym (drop-append_seam w rest)) here));
    parts = refl;
  };
}

-- bytes between tokens
pub record Gap (w : List ℕ) : Type 0 where
  pub at : (before rest : List ℕ) → ReadsTokens before (w ++ rest) [] (before ++ w) rest

blank_reads : (b : ℕ) → is_blank b ≡ true → (before rest : List ℕ) → ReadsTokens before (b ∷ rest) [] (before ++ b ∷ []) rest
blank_reads b h before [] = gap (rw h (omega arith)) (rw h here)
blank_reads b h before (c ∷ rest) = gap (rw h (omega arith)) (rw h here)

pub blank : (b : ℕ) → is_blank b ≡ true → Gap (b ∷ [])
blank b h = record { at = blank_reads b h }

pub gaps : {w v : List ℕ} → Gap w → Gap v → Gap (w ++ v)
gaps {w} {v} p q = record {
  at = λ before rest.
      subst (λ t. ReadsTokens before t [] (before ++ (w ++ v)) rest) (sym (append_assoc w v rest))
      (subst (λ x. ReadsTokens before (w ++ (v ++ rest)) [] x rest) (append_assoc before w v)
      (reads_on (p.at before (v ++ rest)) (q.at (before ++ w) rest)));
}

pub no_gap : Gap []
no_gap = record { at = λ before rest. subst (λ x. ReadsTokens before rest [] x rest) (sym (append-nil before)) here }

pub indent_gap : (k : ℕ) → Gap (indent k)
indent_gap zero = no_gap
indent_gap (suc k) = gaps (indent_gap k) (gaps (blank 32 refl) (gaps (blank 32 refl) (gaps (blank 32 refl) (blank 32 refl))))

-- a gap before a piece, and behind one
pub behind : {X : Type 0} {mx : X → List Marked} {o : List Marked} {w v : List ℕ} {F : List ℕ → Type 0} → Gap v → Piece mx o w F → Piece mx o (v ++ w) F
behind {X} {mx} {o} {w} {v} {F} g p = record { at = go }
  where
    go : (before rest : List ℕ) → F rest → Got mx o before (v ++ w) rest
    go before rest f =
        let a = p.at (before ++ v) rest f in
        record {
          value = a.value;
          reads =
              subst (λ t. ReadsTokens before t (spots_of (mx a.value)) (before ++ (v ++ w)) rest) (sym (append_assoc v w rest))
              (subst (λ x. ReadsTokens before (v ++ (w ++ rest)) (spots_of (mx a.value)) x rest) (append_assoc before v w)
              (reads_on (g.at before (w ++ rest)) a.reads));
          parts = a.parts;
        }

pub before : {X : Type 0} {mx : X → List Marked} {o : List Marked} {w v : List ℕ} {F : List ℕ → Type 0} → Piece mx o w F → Gap v → ((rest : List ℕ) → F (v ++ rest)) → Piece mx o (w ++ v) Any
before {X} {mx} {o} {w} {v} {F} p g link = record { at = go }
  where
    go : (before rest : List ℕ) → Any rest → Got mx o before (w ++ v) rest
    go before rest f =
        let a = p.at before (v ++ rest) (link rest) in
        record {
          value = a.value;
          reads =
              subst (λ t. ReadsTokens before t (spots_of (mx a.value)) (before ++ (w ++ v)) rest) (sym (append_assoc w v rest))
              (subst (λ x. ReadsTokens before (w ++ (v ++ rest)) (spots_of (mx a.value)) x rest) (append_assoc before w v)
              (subst (λ s. ReadsTokens before (w ++ (v ++ rest)) s ((before ++ w) ++ v) rest) (append-nil (spots_of (mx a.value)))
              (reads_on a.reads (g.at (before ++ w) rest))));
          parts = a.parts;
        }

-- one space before a piece
pub spaced : {X : Type 0} {mx : X → List Marked} {o : List Marked} {w : List ℕ} {F : List ℕ → Type 0} → Piece mx o w F → Piece mx o (32 ∷ w) F
spaced p = behind (blank 32 refl) p

-- a line of its own
pub lined : {X : Type 0} {mx : X → List Marked} {o : List Marked} {w : List ℕ} {F : List ℕ → Type 0} (k : ℕ) → Piece mx o w F → ((rest : List ℕ) → F (10 ∷ rest)) → Piece mx o (line k w) Any
lined k p link = before (behind (indent_gap k) p) (blank 10 refl) link

-- a piece where less may follow
pub under : {X : Type 0} {mx : X → List Marked} {o : List Marked} {w : List ℕ} {F G : List ℕ → Type 0} → Piece mx o w F → ((rest : List ℕ) → G rest → F rest) → Piece mx o w G
under p link = record { at = λ before rest g. p.at before rest (link rest g) }

-- the same parts begin with other tokens
pub reparted : {X : Type 0} {mx : X → List Marked} {o : List Marked} {w : List ℕ} {F : List ℕ → Type 0} (o' : List Marked) → all_parts o ≡ all_parts o' → Piece mx o w F → Piece mx o' w F
reparted {X} {mx} {o} {w} {F} o' same p = record { at = go }
  where
    go : (before rest : List ℕ) → F rest → Got mx o' before w rest
    go before rest f =
        let a = p.at before rest f in
        record { value = a.value; reads = a.reads; parts = a.parts ∙ same }
