-- What reading a class text comes to, by how far it was read.
use Rattle.std.proofs.Common.{◌≡◌, ℕ, zero, suc, ◌≤◌, List, [], ◌∷◌, length, Ok, Err, refl, sym, ap, ◌∙◌, subst, arith}
use Rattle.std.specs.Prelude.{slice_get}
use Rattle.std.specs.Option.{option_map, option_and_then}
use Rattle.std.specs.declared.option.Option.{Option}
use Rattle.std.specs.declared.option.Option.TheVariants.{None, Some}
use Rattle.flow_tree.specs.declared.limits.TheConstants.{OF_CLASS_TEXT}
use Rattle.flow_tree.specs.declared.fault.Rule.TheVariants.{S, L, K}
use Rattle.flow_tree.specs.declared.fault.SourceFault.{SourceFault}
use Rattle.flow_tree.specs.declared.fault.SourceFault.TheVariants.{Refused, AcrossWait}
use Rattle.flow_tree.specs.declared.fault.SourceFault.TheVariants as source
use Rattle.flow_tree.specs.declared.token.Tokens.{Tokens}
use Rattle.flow_tree.specs.Lexing.{Lexes, Lexed}
use Rattle.flow_parse.specs.Failing.{Fails}
use Rattle.flow_parse.specs.Follow.{AtEnd}
use Rattle.flow_class.specs.declared.class.RawClasses.{RawClasses}
use Rattle.flow_class.specs.Classes.{ClassTree, RawTree}
use Rattle.flow_class.specs.View.{raw_of}
use Rattle.flow_classprint.specs.ClassGrammar.{TextRule}
use Rattle.flow_valid.specs.Validity.{IsValid}
use Rattle.flow_validate.specs.declared.invalid.Invalid.{Invalid}
use Rattle.flow_validate.specs.declared.invalid.Invalid.TheVariants as judged
use Rattle.flow_validate.specs.Verdicts.{IsRightRefusal}
use Rattle.flow_classread.specs.declared.fault.ClassFault.{ClassFault}
use Rattle.flow_classread.specs.declared.fault.ClassFault.TheVariants as fault
use Rattle.flow_classread.specs.declared.read.TheConstants.{CLASS_BYTES}
use Rattle.flow_classread.specs.ClassAnswer.{IsClassText, lexical, form, class_name, ClassAnswer}
use Rattle.flow_classread.specs.Reached.{form_of, TokensAnswer, RawAnswer, class_names, RefusalAnswer}
use Rattle.flow_classread.proofs.Exactly.{fails_in}
use Rattle.flow_classread.proofs.Small.{small_frames}

-- a lexical refusal
pub no_tokens : (bytes : List ℕ) (e : SourceFault) → Lexed bytes (Err e) → TokensAnswer bytes (Err (form_of e))
no_tokens bytes (Refused rule at) l = record { rule = rule; at = at; refused = l; line_is = refl }
no_tokens bytes (AcrossWait at declared wait) l = absurd l
no_tokens bytes source.OutOfMemory l = tt

pub no_text_by_tokens : (bytes : List ℕ) (e : ClassFault) → length bytes ≤ CLASS_BYTES → TokensAnswer bytes (Err e) → RawAnswer bytes (Err e)
no_text_by_tokens bytes (fault.Form line) short a = lexical a.rule a.at short a.refused a.line_is
no_text_by_tokens bytes fault.OutOfMemory short a = tt
no_text_by_tokens bytes (fault.Invalid rule class) short a = a
no_text_by_tokens bytes fault.TooLarge short a = a

-- tokens that are no class text
pub no_text : (bytes : List ℕ) (t : Tokens) (e : SourceFault) → length bytes ≤ CLASS_BYTES → Lexes bytes t.spots.items t.end
    → Fails OF_CLASS_TEXT TextRule AtEnd t 0 e → RawAnswer bytes (Err (form_of e))
no_text bytes t (Refused (S n) at) short l f = form t short l (fails_in t 2 at (omega arith) f.1)
no_text bytes t (Refused (L n) at) short l f = form t short l (fails_in t n at f.1 f.2)
no_text bytes t (Refused (K n) at) short l f = absurd f
no_text bytes t (AcrossWait at declared wait) short l f = absurd f
no_text bytes t source.OutOfMemory short l f = tt

-- where the text is none, so it is told
pub unread : (bytes : List ℕ) (e : ClassFault) → RawAnswer bytes (Err e) → ClassAnswer bytes (Err e)
unread bytes (fault.Form line) a = a
unread bytes fault.OutOfMemory a = tt
unread bytes (fault.Invalid rule class) a = absurd a
unread bytes fault.TooLarge a = absurd a

-- the name of a class by its number
name_of : (raw : RawTree) (number : Option ℕ) → option_and_then (λ n. slice_get (class_names raw.classes) n) number ≡ class_name raw number
name_of raw None = refl
name_of raw (Some k) = of raw.classes k
  where
    of : (cs : List ClassTree) (k : ℕ) → slice_get (class_names cs) k ≡ option_map (λ (c : ClassTree). c.name) (slice_get cs k)
    of [] k = refl
    of (c ∷ cs) zero = refl
    of (c ∷ cs) (suc k) = of cs k

-- classes that keep all rules
pub accepted : (bytes : List ℕ) (raw : RawTree) (c : RawClasses) → raw_of c ≡ raw → IsClassText bytes raw → IsValid raw → ClassAnswer bytes (Ok c)
accepted bytes raw c e t v =
    let u = subst (IsClassText bytes) (sym e) t in
    (u, subst IsValid (sym e) v, small_frames bytes (raw_of c) u)

-- classes that break a rule
pub refused : (bytes : List ℕ) (raw : RawTree) (names : List (List ℕ)) (i : Invalid) (e : ClassFault) → names ≡ class_names raw.classes → IsClassText bytes raw
    → IsRightRefusal raw i → RefusalAnswer names e i → ClassAnswer bytes (Err e)
refused bytes raw names (judged.Rule rule number) (fault.Invalid k class) q t b a = record {
  raw = raw;
  text = t;
  number = number;
  breaks = subst (λ x. IsRightRefusal raw (judged.Rule x number)) (sym a.0) b;
  name = a.1 ∙ ap (λ ns. option_and_then (λ n. slice_get ns n) number) q ∙ name_of raw number;
}
refused bytes raw names judged.OutOfMemory (fault.Invalid k class) q t b a = absurd a
refused bytes raw names i fault.OutOfMemory q t b a = tt
refused bytes raw names i (fault.Form line) q t b a = absurd a
refused bytes raw names i fault.TooLarge q t b a = absurd a
