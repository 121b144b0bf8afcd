-- A text has one verdict.
use Rattle.std.proofs.Common.{◌≡◌, ℕ, zero, suc, ◌≤◌, ◌<◌, List, take, length, refl, sym, ap, ap₂, ◌∙◌, subst, arith, inl, inr, Ok, Err, Option, Some, None}
use Rattle.std.specs.Prelude.{slice_get, unwrap_or}
use Rattle.std.specs.Option.{option_map}
use Rattle.flow_base.specs.declared.place.Place.{Place}
use Rattle.flow_tree.specs.declared.token.Tokens.{Tokens}
use Rattle.flow_tree.specs.declared.decl.Program.{Program}
use Rattle.flow_tree.specs.declared.fault.Rule.{Rule}
use Rattle.flow_tree.specs.declared.fault.Rule.TheVariants.{S, L, K}
use Rattle.flow_tree.specs.declared.fault.SourceFault.TheVariants.{Refused}
use Rattle.flow_tree.specs.Decls.{ProgramTree}
use Rattle.flow_tree.specs.DeclView.{program_of}
use Rattle.flow_tree.specs.GrammarToken.{Derives, Good}
use Rattle.flow_tree.specs.GrammarDecl.{ProgramRule}
use Rattle.flow_tree.specs.GrammarAnswer.{place_at}
use Rattle.flow_lex.proofs.Once.{reads_once}
use Rattle.flow_parse.specs.Laws.{OneProgram, told}
use Rattle.flow_parse.specs.ParseAnswer.{GoodTo, begun, whole, FailsBy, FailsLimit, LimitAnswer, ParseAnswer}
use Rattle.flow_parse.proofs.OneAnswer.{one_answer}
use Rattle.flow_rules.specs.Rules.{refusal_of}
use Rattle.flow_staterule.specs.declared.rule.Lost.{Lost}
use Rattle.flow_staterule.specs.StateRule.{first_lost}
use Rattle.flow_front.specs.Verdict.{HasTokens, IsUnread, too_long, no_tokens, no_program, IsProgram, IsTyped, IsSound, IsLost, IsRefused, unread, breaks}
use Rattle.flow_front.specs.Laws.{OneVerdict}

-- tokens are told by their list and their end
pub record SameTokens (t u : Tokens) : Type 0 where
  pub spots : t.spots.items ≡ u.spots.items
  pub end : t.end ≡ u.end

flipped : {t u : Tokens} → SameTokens t u → SameTokens u t
flipped s = record { spots = sym s.spots; end = sym s.end }

same_place : (t u : Tokens) (k : ℕ) → SameTokens t u → place_at t k ≡ place_at u k
same_place t u k s = ap₂ (λ x z. unwrap_or (option_map (λ y. y.at) (slice_get x k)) z) s.spots s.end

moved_program : (t u : Tokens) (n : ℕ) (p : ProgramTree) → SameTokens t u → Derives (ProgramRule t.end) n t.spots.items p → Derives (ProgramRule u.end) n u.spots.items p
moved_program t u n p s d = subst (λ z. Derives (ProgramRule z) n u.spots.items p) s.end (subst (λ x. Derives (ProgramRule t.end) n x p) s.spots d)

moved_good : (t u : Tokens) (n k : ℕ) → SameTokens t u → GoodTo t n k → GoodTo u n k
moved_good t u n k s (begun l g) =
    begun (subst (λ x. k < length x) s.spots l) (subst (λ z. Good (ProgramRule z) n (take (suc k) u.spots.items)) s.end (subst (λ x. Good (ProgramRule t.end) n (take (suc k) x)) s.spots g))
moved_good t u n k s (whole p d) = subst (GoodTo u n) (sym (ap length s.spots)) (whole p (moved_program t u n p s d))

moved_fails : (t u : Tokens) (n : ℕ) (at : Place) → SameTokens t u → FailsBy n t at → FailsBy n u at
moved_fails t u n at s f = record {
  few = subst (λ x. length x ≤ 200000) s.spots f.few;
  number = f.number;
  within = subst (λ x. f.number ≤ length x) s.spots f.within;
  place = f.place ∙ same_place t u f.number s;
  first = λ k l. moved_good t u 7 k s (f.first k l);
  bad = λ g. f.bad (moved_good u t n f.number (flipped s) g);
}

moved_limit : (t u : Tokens) (n : ℕ) (at : Place) → SameTokens t u → LimitAnswer n t at → LimitAnswer n u at
unfolding moved_fails
moved_limit t u n at s (inl x) = inl (x.0, record { many = subst (λ y. 200000 < length y) s.spots x.1.many; place = x.1.place ∙ same_place t u 200000 s })
moved_limit t u n at s (inr f) = inr (record {
  least = f.least;
  greatest = f.greatest;
  fails = moved_fails t u n at s f.fails;
  below = λ m l. moved_good t u m f.fails.number s (f.below m l);
})

moved : (t u : Tokens) (r : Rule) (at : Place) → SameTokens t u → ParseAnswer t (Err (Refused r at)) → ParseAnswer u (Err (Refused r at))
moved t u (S n) at s a = (a.0, moved_fails t u 2 at s a.1)
moved t u (L n) at s a = moved_limit t u n at s a
moved t u (K n) at s a = a

-- tokens are refused by one rule, and a program isn't refused
one_refusal : (t : Tokens) (r s : Rule) (p q : Place) → ParseAnswer t (Err (Refused r p)) → ParseAnswer t (Err (Refused s q)) → (r ≡ s) × (p ≡ q)
one_refusal t r s p q a b =
    let e : told (Err (Refused r p)) ≡ told (Err (Refused s q)) = one_answer t (Err (Refused r p)) (Err (Refused s q)) a b (λ h. cc) (λ h. cc) in
    (refused_rule r s p q e, refused_place r s p q e)
  where
    refused_rule : (r s : Rule) (p q : Place) → told (Err (Refused r p)) ≡ told (Err (Refused s q)) → r ≡ s
    refused_rule r s p q e = cc

    refused_place : (r s : Rule) (p q : Place) → told (Err (Refused r p)) ≡ told (Err (Refused s q)) → p ≡ q
    refused_place r s p q e = cc

never_both : (t : Tokens) (p : Program) (r : Rule) (at : Place) → ParseAnswer t (Ok p) → ParseAnswer t (Err (Refused r at)) → ⊥
never_both t p r at a b = let e : told (Ok p) ≡ told (Err (Refused r at)) = one_answer t (Ok p) (Err (Refused r at)) a b (λ h. cc) (λ h. cc) in cc

same_tokens : (text : List ℕ) (t u : Tokens) → HasTokens text t → HasTokens text u → SameTokens t u
same_tokens text t u h k = let e = (reads_once text).tokens t.spots.items u.spots.items t.end u.end h.lexes k.lexes in record { spots = e.0; end = e.1 }

one_program : OneProgram → (text : List ℕ) (p q : Program) → IsProgram text p → IsProgram text q → program_of p ≡ program_of q
one_program one text p q a b =
    let s = same_tokens text a.tokens b.tokens a.has b.has in
    one b.tokens.end 7 7 b.tokens.spots.items (program_of p) (program_of q) (moved_program a.tokens b.tokens 7 (program_of p) s a.parsed.1) b.parsed.1

unread_once : (text : List ℕ) (r s : Rule) (p q : Place) → IsUnread text r p → IsUnread text s q → (r ≡ s) × (p ≡ q)
unread_once text r s p q (too_long l) (too_long k) = (refl, refl)
unread_once text r s p q (too_long l) (no_tokens k f) = absurd (omega (arith, l, k))
unread_once text r s p q (too_long l) (no_program t h a) = absurd (omega (arith, l, h.short))
unread_once text r s p q (no_tokens k f) (too_long l) = absurd (omega (arith, l, k))
unread_once text r s p q (no_tokens k f) (no_tokens l g) = (reads_once text).fault r s p q f g
unread_once text r s p q (no_tokens k f) (no_program t h a) = absurd ((reads_once text).either t.spots.items t.end r p h.lexes f)
unread_once text r s p q (no_program t h a) (too_long l) = absurd (omega (arith, l, h.short))
unread_once text r s p q (no_program t h a) (no_tokens k f) = absurd ((reads_once text).either t.spots.items t.end s q h.lexes f)
unread_once text r s p q (no_program t h a) (no_program u k b) = one_refusal u r s p q (moved t u r p (same_tokens text t u h k) a) b

read_or_unread : (text : List ℕ) (program : Program) (r : Rule) (p : Place) → IsProgram text program → IsUnread text r p → ⊥
read_or_unread text program r p a (too_long l) = absurd (omega (arith, l, a.has.short))
read_or_unread text program r p a (no_tokens k f) = (reads_once text).either a.tokens.spots.items a.tokens.end r p a.has.lexes f
read_or_unread text program r p a (no_program t h b) = never_both a.tokens program r p a.parsed (moved t a.tokens r p (same_tokens text t a.tokens h a.has) b)

-- the parts of what stands in an option, and that nothing stands in none
abbrev rule_or : Rule → Option (Rule × Place) → Rule
rule_or r None = r
rule_or r (Some x) = x.0

abbrev place_or : Place → Option (Rule × Place) → Place
place_or p None = p
place_or p (Some x) = x.1

abbrev lost_or : Lost → Option Lost → Lost
lost_or l None = l
lost_or l (Some x) = x

none_or_some : {A : Type 0} (x : A) → ◌≡◌ {A = Option A} None (Some x) → ⊥
none_or_some x e = cc

same_refusal : (r s : Rule) (p q : Place) → ◌≡◌ {A = Option (Rule × Place)} (Some (r, p)) (Some (s, q)) → (r ≡ s) × (p ≡ q)
same_refusal r s p q e = (ap (rule_or r) e, ap (place_or p) e)

refused_once : OneProgram → (text : List ℕ) (r s : Rule) (p q : Place) → IsRefused text r p → IsRefused text s q → (r ≡ s) × (p ≡ q)
refused_once one text r s p q (unread a) (unread b) = unread_once text r s p q a b
refused_once one text r s p q (unread a) (breaks y j f) = absurd (read_or_unread text y r p j a)
refused_once one text r s p q (breaks x i e) (unread b) = absurd (read_or_unread text x s q i b)
refused_once one text r s p q (breaks x i e) (breaks y j f) = same_refusal r s p q (sym e ∙ (ap refusal_of (one_program one text x y i j) ∙ f))

typed_or_refused : OneProgram → (text : List ℕ) (program : Program) (r : Rule) (p : Place) → IsTyped text program → IsRefused text r p → ⊥
typed_or_refused one text x r p t (unread a) = read_or_unread text x r p t.read a
typed_or_refused one text x r p t (breaks y j f) =
    none_or_some (r, p) (sym t.accepted ∙ (ap refusal_of (one_program one text x y t.read j) ∙ f))

lost_once : OneProgram → (text : List ℕ) (p q : Program) (l m : Lost) → IsLost text p l → IsLost text q m → l ≡ m
lost_once one text p q l m a b =
    ap (lost_or l) (sym a.first ∙ (ap (λ t. first_lost t.decls) (one_program one text p q a.typed.read b.typed.read) ∙ b.first))

sound_or_lost : OneProgram → (text : List ℕ) (p q : Program) (l : Lost) → IsSound text p → IsLost text q l → ⊥
sound_or_lost one text p q l s a =
    none_or_some l (sym s.kept ∙ (ap (λ t. first_lost t.decls) (one_program one text p q s.typed.read a.typed.read) ∙ a.first))

pub one_verdict : OneProgram → (text : List ℕ) → OneVerdict text
one_verdict one text = record {
  program = one_program one text;
  refusal = refused_once one text;
  lost = lost_once one text;
  unread = unread_once text;
  read_or_unread = read_or_unread text;
  typed_or_refused = typed_or_refused one text;
  sound_or_lost = sound_or_lost one text;
}
