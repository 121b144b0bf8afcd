-- The round trip of canonical texts.
use Rattle.std.proofs.Common.{◌≡◌, ℕ, List, [], ◌∷◌, ◌++◌, refl, sym, ap, ◌∙◌, subst}
use Rattle.std.proofs.lemmas.List.{append-nil}
use Rattle.flow_base.specs.declared.place.Place.{Place}
use Rattle.flow_tree.specs.declared.limits.Limits.{Limits}
use Rattle.flow_tree.specs.declared.limits.TheConstants.{OF_PROGRAMS}
use Rattle.flow_tree.specs.Decls.{ProgramTree}
use Rattle.flow_tree.specs.Lexing.{place_after, ReadsTokens, Lexes}
use Rattle.flow_tree.specs.GrammarToken.{Part, Marked, spots_of, AllInLimitsOf, KeepsOf, AllInLimits, Keeps}
use Rattle.flow_tree.specs.GrammarDecl.{ProgramRule, program}
use Rattle.flow_tree.specs.Canon.{decls_text, bare, first_place}
use Rattle.flow_show.specs.Laws.{IsReadBack, RoundTrip, OneText, TwiceIsOnce}
use Rattle.flow_show.proofs.Going.{all_parts}
use Rattle.flow_show.proofs.Valid.{AllValid, valid_reads, valid_marks}
use Rattle.flow_show.proofs.DeclPieces.{decls_piece}
use Rattle.flow_show.proofs.SameText.{same_text}

-- limits are kept by parts alone
module _ (l : Limits) (n : ℕ) where
  limits_cat : (a b : List Part) → AllInLimitsOf l n a → AllInLimitsOf l n b → AllInLimitsOf l n (a ++ b)
  limits_cat [] b h k = k
  limits_cat (p ∷ a) b h k = (h.0, limits_cat a b h.1 k)

  limits_left : (a b : List Part) → AllInLimitsOf l n (a ++ b) → AllInLimitsOf l n a
  limits_left [] b h = tt
  limits_left (p ∷ a) b h = (h.0, limits_left a b h.1)

  limits_right : (a b : List Part) → AllInLimitsOf l n (a ++ b) → AllInLimitsOf l n b
  limits_right [] b h = h
  limits_right (p ∷ a) b h = limits_right a b h.1

  pub of_parts : (m : List Marked) → AllInLimitsOf l n (all_parts m) → KeepsOf l n m
  of_parts [] h = tt
  of_parts (x ∷ m) h = (limits_left x.parts (all_parts m) h, of_parts m (limits_right x.parts (all_parts m) h))

  pub to_parts : (m : List Marked) → KeepsOf l n m → AllInLimitsOf l n (all_parts m)
  to_parts [] h = tt
  to_parts (x ∷ m) h = limits_cat x.parts (all_parts m) h.0 (to_parts m h.1)

read_back : (n : ℕ) (end : Place) (m : List Marked) (q : ProgramTree) → ProgramRule end m q → AllValid m → Keeps n m → IsReadBack n q
read_back n end m q (program {xs = xs} r) v keeps =
    let got = (decls_piece r v).at [] [] tt in
    let text = decls_text xs in
    record {
      spots = spots_of got.value.marked;
      end = place_after text;
      tree = record { decls = got.value.trees; end = place_after text };
      lexes = record { reads = subst (λ t. ReadsTokens [] t (spots_of got.value.marked) text []) (append-nil text) got.reads; ends = refl };
      derives = record {
        marked = got.value.marked;
        rule = program got.value.rule;
        is = refl;
        keeps = of_parts OF_PROGRAMS n got.value.marked (subst (AllInLimits n) (sym got.parts) (to_parts OF_PROGRAMS n m keeps));
      };
      same = ap (λ ds. record { decls = ds; end = first_place }) got.value.like;
    }

of_same : (n : ℕ) (p q : ProgramTree) → bare p ≡ bare q → IsReadBack n q → IsReadBack n p
of_same n p q e b = record {
  spots = b.spots;
  end = b.end;
  tree = b.tree;
  lexes = subst (λ t. Lexes t b.spots b.end) (same_text q p (sym e)) b.lexes;
  derives = b.derives;
  same = b.same ∙ sym e;
}

pub round_trip : RoundTrip
round_trip n bytes spots end q p l d e =
    of_same n p q e (read_back n end d.marked q d.rule (valid_marks d.marked spots d.is (valid_reads l.reads)) d.keeps)

pub one_text : OneText
one_text p q e = same_text p q e

pub twice_is_once : TwiceIsOnce
twice_is_once n p back = same_text back.tree p back.same
