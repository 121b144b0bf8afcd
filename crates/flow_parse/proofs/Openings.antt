-- A token with which parts begin that are past a limit.
use Rattle.std.proofs.Common.{◌≡◌, ℕ, suc, ◌+◌, ◌≤◌, ◌<◌, List, [], ◌∷◌, ◌++◌, length, take, drop, refl, sym, ap, subst, arith}
use Rattle.std.specs.declared.option.Option.TheVariants.{Some}
use Rattle.flow_tree.specs.declared.limits.Limits.{Limits}
use Rattle.flow_base.specs.declared.place.Place.{Place}
use Rattle.flow_tree.specs.declared.fault.Rule.TheVariants as rule
use Rattle.flow_tree.specs.declared.fault.SourceFault.TheVariants.{Refused}
use Rattle.flow_tree.specs.declared.token.Token.{Token}
use Rattle.flow_tree.specs.declared.token.Token.TheVariants as token
use Rattle.flow_tree.specs.declared.token.Word.TheVariants as word
use Rattle.flow_tree.specs.declared.token.Spot.{Spot}
use Rattle.flow_tree.specs.declared.token.Tokens.{Tokens}
use Rattle.flow_tree.specs.declared.decl.RoutineKind.TheVariants.{Actor}
use Rattle.flow_tree.specs.GrammarToken.{Part, Variable, opens, AllInLimitsOf, GoodOf}
use Rattle.flow_tree.specs.GrammarAnswer.{place_at}
use Rattle.flow_tree.specs.GrammarStmt.{Counts}
use Rattle.flow_exprs.proofs.Goes.{nowhere}
use Rattle.flow_parse.specs.Failing.{Sees, Never, Fails}
use Rattle.flow_parse.specs.Reading.{token_at, Opening, Any}
use Rattle.flow_parse.specs.Follow.{NotBefore}
use Rattle.flow_parse.specs.Parts.{StatePart}
use Rattle.flow_parse.proofs.Leaves.{here, nothing, narrow, fails}
use Rattle.flow_parse.proofs.Variables.{state_turns}

opening_never : (limits : Limits) (ps : List Part) (x : Token) (n : ℕ) (ts : List Spot) → (AllInLimitsOf limits n ps → ⊥) → Never limits (Opening ps x) Any n 1 ts
opening_never limits ps x n [] out w z b r f s = subst (λ u. Sees limits n 1 [] (u ++ z)) r s
opening_never limits ps x n (t ∷ ts) out w z b r f s = out (subst (λ u. Sees limits n 1 (t ∷ ts) (u ++ z)) r s).1

opening_good : (limits : Limits) (ps : List Part) (x : Token) (p : Place) (m : ℕ) (ts : List Spot) → AllInLimitsOf limits m ps
    → GoodOf limits (Opening ps x) m (take 1 (record { token = x; at = p } ∷ ts))
opening_good limits ps x p m ts k = record { read = opens ps x p ∷ []; rest = []; tree = p; rule = refl; is = refl; keeps = (k, tt) }

pub opening_beyond : (limits : Limits) (ps : List Part) (x : Token) (n : ℕ) (t : Tokens) (at : ℕ) → 3 ≤ n → n ≤ 7 → token_at t.spots.items at ≡ Some x → (AllInLimitsOf limits n ps → ⊥)
    → ((m : ℕ) → m < n → AllInLimitsOf limits m ps) → Fails limits (Opening ps x) Any t at (Refused (rule.L n) (place_at t at))
opening_beyond limits ps x n t at l h e out keep =
    let k = here t at x e in
    let i : at ≡ at + 0 = omega arith in (
      l,
      h,
      record {
        number = 0;
        place = ap (place_at t) i;
        stops = record {
          within = omega arith;
          token = λ u. omega (arith, ap length k.is);
          bad = opening_never limits ps x n (drop at t.spots.items) out;
          good = record { read = []; rest = opens ps x nowhere ∷ []; tree = nowhere; rule = refl; is = refl; keeps = tt };
          below = λ m lt u. subst (λ ts. GoodOf limits (Opening ps x) m (take 1 ts)) (sym k.is) (opening_good limits ps x (place_at t at) m (drop (at + 1) t.spots.items) (keep m lt));
        };
      },
    )

-- one state variable too many
pub state_fails : (limits : Limits) (t : Tokens) (at : ℕ) (c : Counts) → at ≤ length t.spots.items → token_at t.spots.items at ≡ Some (token.Word word.State) → limits.variables ≤ c.variables
    → Fails limits (StatePart Actor c) (NotBefore (token.Word word.State)) t at (Refused (rule.L 6) (place_at t at))
state_fails limits t at c h e k = fails limits t (narrow limits t.spots.items e (state_turns limits t at Actor c) (nothing limits t.spots.items (StatePart Actor c) _ at h))
    (Refused (rule.L 6) (place_at t at)) (opening_beyond limits (Variable (suc c.variables) ∷ []) (token.Word word.State) 6 t at (omega arith) (omega arith) e
    (λ l. omega (arith, l.0 (omega arith), k)) (λ m lt. ((λ l. absurd (omega arith)), tt)))
