-- A part of which the first token is read, where the second says how it goes on.
use Rattle.std.proofs.Common.{◌≡◌, ℕ, zero, suc, ◌+◌, ◌-◌, ◌≤◌, ◌<◌, List, [], ◌∷◌, ◌++◌, length, take, drop, sym, ap, ◌∙◌, subst, arith}
use Rattle.std.specs.declared.option.Option.{Option}
use Rattle.std.specs.declared.option.Option.TheVariants.{Some}
use Rattle.flow_tree.specs.declared.limits.Limits.{Limits}
use Rattle.flow_tree.specs.declared.token.Token.{Token}
use Rattle.flow_tree.specs.declared.token.Spot.{Spot}
use Rattle.flow_tree.specs.GrammarToken.{Marked, AllInLimitsOf, GoodOf}
use Rattle.flow_parse.specs.Failing.{Sees, Only, Never, Stops}
use Rattle.flow_parse.specs.Reading.{token_at}
use Rattle.flow_parse.proofs.Looking.{Looks, first_of}
use Rattle.flow_parse.proofs.Exact.{sees_looks}
use Rattle.flow_parse.proofs.Verdict.{fewer}
use Rattle.flow_parse.proofs.Leaves.{Leaves, next_is}

-- With a first token like this one, and a second like that, the part is another one behind the first.
pub record Split {A B : Type 0} (V : List Marked → B → Type 0) (FV : B → List Marked → Type 0) (g : B → A) (m : Marked) (o : Option Token) (w z : List Marked) (a : A) : Type 0 where
  pub first : Marked
  pub rest : List Marked
  pub is : w ≡ first ∷ rest
  pub same : first.spot ≡ m.spot → Looks o (rest ++ z) → (b : B) × V rest b × (a ≡ g b) × FV b z

module _ (limits : Limits) {A B : Type 0} {W : List Marked → A → Type 0} {FW : A → List Marked → Type 0} {V : List Marked → B → Type 0} {FV : B → List Marked → Type 0} {g : B → A} (m : Marked)
    (o : Option Token)
    (sound : (v : List Marked) (b : B) → V v b → W (m ∷ v) (g b)) (back : (w z : List Marked) (a : A) → W w a → FW a z → Looks (Some m.spot.token) (w ++ z) → Split V FV g m o w z a) where
  -- what is seen of the whole is seen of what follows the first token
  seen : (n j : ℕ) (ts : List Spot) (w z : List Marked) (a : A) → W w a → FW a z → first_of ts ≡ o → 1 < j → Sees limits n j (m.spot ∷ ts) (w ++ z)
      → (b : B) × (v : List Marked) × V v b × FV b z × (a ≡ g b) × (length w ≡ suc (length v)) × Sees limits n (j - 1) ts (v ++ z)
  seen n zero ts w z a r f e lt s = absurd (omega arith)
  seen n (suc j) ts w z a r f e lt s =
      let k = back w z a r f (sees_looks limits n (suc j) (m.spot ∷ ts) (w ++ z) (omega arith) s) in
      let s2 : Sees limits n (suc j) (m.spot ∷ ts) (k.first ∷ (k.rest ++ z)) = subst (λ u. Sees limits n (suc j) (m.spot ∷ ts) (u ++ z)) k.is s in
      let q = k.same s2.0 (subst (λ p. Looks p (k.rest ++ z)) e (sees_looks limits n j ts (k.rest ++ z) (omega arith) s2.2)) in
      let i : j ≡ suc j - 1 = omega arith in
      (q.0, k.rest, q.1, q.3, q.2, ap length k.is, subst (λ h. Sees limits n h ts (k.rest ++ z)) i s2.2)

  only_behind : (b : B) (i : ℕ) (ts : List Spot) → first_of ts ≡ o → Only limits V FV b i ts → Only limits W FW (g b) (suc i) (m.spot ∷ ts)
  only_behind b i ts e p n j w z a r f lt s =
      let q = seen n j ts w z a r f e (omega arith) s in
      let k = p n (j - 1) q.1 z q.0 q.2 q.3 (omega arith) q.6 in
      (q.4 ∙ ap g k.0, q.5 ∙ ap suc k.1)

  never_behind : (n k : ℕ) (ts : List Spot) → first_of ts ≡ o → Never limits V FV n (suc k) ts → Never limits W FW n (suc (suc k)) (m.spot ∷ ts)
  never_behind n k ts e p w z a r f s =
      let q = seen n (suc (suc k)) ts w z a r f e (omega arith) s in
      let i : suc (suc k) - 1 ≡ suc k = omega arith in
      p q.1 z q.0 q.2 q.3 (subst (λ h. Sees limits n h ts (q.1 ++ z)) i q.6)

  good_behind : (n k : ℕ) (ts : List Spot) → AllInLimitsOf limits n m.parts → GoodOf limits V n (take k ts) → GoodOf limits W n (take (suc k) (m.spot ∷ ts))
  good_behind n k ts l x = record { read = m ∷ x.read; rest = x.rest; tree = g x.tree; rule = sound (x.read ++ x.rest) x.tree x.rule; is = ap (λ u. m.spot ∷ u) x.is; keeps = (l, x.keeps) }

  pub behind_first : (spots : List Spot) (at : ℕ) → at < length spots → AllInLimitsOf limits 7 m.parts → drop at spots ≡ m.spot ∷ drop (at + 1) spots → token_at spots (at + 1) ≡ o
      → Leaves limits W FW V FV g spots at (at + 1)
  behind_first spots at lt l d e =
      let ts = drop (at + 1) spots in
      let f : first_of ts ≡ o = next_is spots (at + 1) ∙ e in
      let within_limits = λ (n : ℕ) (h : n ≤ 7). (fewer limits n 7 (m ∷ []) h (l, tt)).0 in
      record {
        after = omega arith;
        within = omega (arith, lt);
        marked = m ∷ [];
        is = d;
        keeps = (l, tt);
        sound = sound;
        only = λ b i p. let c : suc i ≡ at + 1 - at + i = omega arith in subst (λ h. Only limits W FW (g b) h (drop at spots)) c
            (subst (Only limits W FW (g b) (suc i)) (sym d) (only_behind b i ts f p));
        stops = λ n k h s. let c : suc k ≡ at + 1 - at + k = omega arith in subst (Stops limits W FW n (drop at spots)) c (subst (λ u. Stops limits W FW n u (suc k)) (sym d) (record {
          within = omega (arith, s.within);
          token = λ u. omega (arith, s.token u);
          bad = never_behind n k ts f s.bad;
          good = good_behind 7 k ts l s.good;
          below = λ i j u. good_behind i (suc k) ts (within_limits i (omega arith)) (s.below i j u);
        }));
      }
