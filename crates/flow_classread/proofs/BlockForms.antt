-- Locals, catchers and blocks of class text.
use Rattle.std.proofs.Common.{◌≡◌, ℕ, suc, ◌+◌, ◌≤◌, Bool, true, false, List, [], ◌∷◌, ◌++◌, length, refl, sym, ap, ◌∙◌, subst, arith, append_assoc, inl, inr, get_or, ◌==◌, ◌||◌}
use Rattle.std.specs.Prelude.{codes, pos}
use Rattle.std.proofs.lemmas.List.{append-nil}
use Rattle.std.specs.declared.option.Option.{Option}
use Rattle.std.specs.declared.option.Option.TheVariants.{None, Some}
use Rattle.flow_base.specs.declared.place.Place.{Place}
use Rattle.flow_tree.specs.declared.limits.TheConstants.{OF_CLASS_TEXT}
use Rattle.flow_tree.specs.declared.token.Token.{Token}
use Rattle.flow_tree.specs.declared.token.Token.TheVariants as token
use Rattle.flow_tree.specs.declared.token.Word.TheVariants as word
use Rattle.flow_tree.specs.declared.token.Sign.TheVariants as sign
use Rattle.flow_tree.specs.declared.token.Tokens.{Tokens}
use Rattle.flow_tree.specs.GrammarToken.{Marked}
use Rattle.flow_tree.specs.Grammar.{sign_at}
use Rattle.flow_parse.specs.Reading.{token_at, Tok, Any, Reads}
use Rattle.flow_parse.specs.Follow.{NotBefore}
use Rattle.flow_parse.proofs.Looking.{Looks, Back}
use Rattle.flow_parse.proofs.Begins.{Starts, starts_append, looks_is}
use Rattle.flow_parse.proofs.Failing.{Inhabited}
use Rattle.flow_parse.proofs.Leaves.{Leaves, Link, Turns}
use Rattle.flow_parse.proofs.Inhabitants.{some_opening}
use Rattle.flow_tree.specs.declared.fault.SourceFault.{SourceFault}
use Rattle.flow_parse.specs.Failing.{Fails}
use Rattle.flow_parse.proofs.Leaves.{free, nothing, narrow, then_reads, means, done, fails}
use Rattle.flow_class.specs.Classes.{CatcherTree, InstrTree, LastTree, BlockTree}
use Rattle.flow_classprint.specs.declared.version.Version.{Version}
use Rattle.flow_classprint.specs.ClassGrammar.{said, number_at, place_at, IsNumber, LocalsRule, one, more as another, MaybeLocalsRule, no_locals, locals, ErrorRule, no_error, error, CatchRule, no_catch, catch, InstrRule, InstrsRule, no_instrs, more_instrs, LastRule, goto, BlockRule, block, NumberedRule, none, next}
use Rattle.flow_class.specs.declared.class.Slotted.TheVariants.{Local}
use Rattle.flow_class.specs.Classes.{GotoLast}
use Rattle.flow_class.specs.Places.{place_name}
use Rattle.flow_exprs.proofs.Goes.{nowhere}
use Rattle.flow_classread.specs.Parts.{Behind, Closed, Both, NotFirst, Numbered, NumberPart, LocalPart, Dropped, Catcher, catcher_tree, CatcherPart, BlockBody, InstrToken}
use Rattle.flow_classread.proofs.Combine.{behind_here, some_behind, some_closed, some_both, some_mapped}
use Rattle.flow_classread.proofs.Links.{behind_link}
use Rattle.flow_classread.proofs.Single.{some_number, some_local}
use Rattle.flow_classread.proofs.Lists.{Cut, no_more, one_more, starts_not, not_before, first_is, is_first, each_fails, each_reads, each_done}
use Rattle.flow_classread.proofs.Equal.{then_same, one_then, part_then}
use Rattle.flow_classread.proofs.Optional.{Perhaps, absent, present}
use Rattle.flow_classread.proofs.InstrForms.{LastKind, Goto, Pass, Tests, Choose, Return, Throw, last_token, last_kind, last_starts}

-- numbered things
pub numbered_cut : {A : Type 0} (rule : ℕ → List Marked → A → Type 0) (n : ℕ) (w : List Marked) (l : List A) → NumberedRule rule n w l → Cut rule (NumberedRule rule) n w l
numbered_cut rule n w l none = no_more refl refl
numbered_cut rule n w l (next {x = x} {xs = xs} first rest r s e) = one_more x xs first rest r s e refl

pub numbered_cons : {A : Type 0} (rule : ℕ → List Marked → A → Type 0) (n : ℕ) (x : A) (xs : List A) (first rest : List Marked) → rule n first x → NumberedRule rule (suc n) rest xs
    → NumberedRule rule n (first ++ rest) (x ∷ xs)
numbered_cons rule n x xs first rest r s = next first rest r s refl

pub instrs_cut : (n : ℕ) (w : List Marked) (l : List InstrTree) → InstrsRule w l → Cut (λ k. InstrRule) (λ k. InstrsRule) n w l
instrs_cut n w l no_instrs = no_more refl refl
instrs_cut n w l (more_instrs {i = i} {is = is} first rest r s e) = one_more i is first rest r s e refl

-- a first local, and others with a comma before each
abbrev pub NextLocal : ℕ → List Marked → ℕ → Type 0
NextLocal k = Behind (token.Sign sign.Comma) LocalPart

abbrev pub NextLocals : ℕ → List Marked → List ℕ → Type 0
NextLocals = NumberedRule NextLocal

pub next_local_starts : (k : ℕ) (w : List Marked) (n : ℕ) → NextLocal k w n → Starts (λ t. t ≡ token.Sign sign.Comma) w
next_local_starts k w n r = subst (Starts (λ t. t ≡ token.Sign sign.Comma)) (sym r.3) refl

some_next_locals : (k : ℕ) → Inhabited (NextLocals k)
some_next_locals k = record { marked = []; tree = []; rule = none }

pub locals_link : Link LocalPart Any (λ n. NextLocals 0) (λ x. NotBefore (token.Sign sign.Comma) x.1)
locals_link = free (λ n. some_next_locals 0)

locals_of : (k n : ℕ) (p : Place) (rest : List Marked) (ms : List ℕ) → IsNumber n → NextLocals k rest ms → LocalsRule (place_at (Local n) p ∷ rest) (n ∷ ms)
locals_of k n p rest ms h none = one p h
locals_of k n p rest (m ∷ ms) h (next first more r s e) =
    let l = locals_of (suc k) m r.2.0 more ms r.2.1 s in
    let same : rest ≡ sign_at sign.Comma r.0 ∷ (place_at (Local m) r.2.0 ∷ more) = e ∙ ap (λ z. z ++ more) (then_same r.3 r.2.2) in
    another p r.0 (place_at (Local m) r.2.0 ∷ more) h l (ap (λ z. place_at (Local n) p ∷ z) same)

locals_split : (k : ℕ) {w : List Marked} {ns : List ℕ} → LocalsRule w ns → (x : ℕ × List ℕ) × Both LocalPart (NextLocals k) w x × (ns ≡ x.0 ∷ x.1)
locals_split k (one {n} p h) = ((n, []), record { first = place_at (Local n) p ∷ []; rest = []; is = refl; front = (p, h, refl); back = none }, refl)
locals_split k (another {n} {ns} p q rest h l e) =
    let x = locals_split (suc k) l in
    let r = x.1 in
    let second = sign_at sign.Comma q ∷ r.first in (
      (n, ns),
      record {
        first = place_at (Local n) p ∷ [];
        rest = sign_at sign.Comma q ∷ rest;
        is = e;
        front = (p, h, refl);
        back = subst (NextLocals k (sign_at sign.Comma q ∷ rest)) (sym x.2)
            (next second r.rest (q, r.first, r.front, refl) r.back (ap (λ z. sign_at sign.Comma q ∷ z) r.is));
      },
      refl,
    )

pub locals_turns : (o : Option Token) → Turns LocalsRule (NotBefore (token.Sign sign.Comma)) (Both LocalPart (NextLocals 0)) (λ x. NotBefore (token.Sign sign.Comma) x.1) (λ x. x.0 ∷ x.1) o
locals_turns o = record {
  back = λ w z b r f l. let x = locals_split 0 r in record { tree = x.0; rule = x.1; is = x.2; follows = same b x.0.1 z f };
  forth = λ w x r. let f = r.front in subst (λ k. LocalsRule k (x.0 ∷ x.1)) (sym (one_then r.is f.2 refl)) (locals_of 0 x.0 f.0 r.rest x.1 f.1 r.back);
}
  where
    same : (a b : List ℕ) (z : List Marked) → NotBefore (token.Sign sign.Comma) a z → NotBefore (token.Sign sign.Comma) b z
    same a b [] f = tt
    same a b (x ∷ z) f = f

pub some_locals : Inhabited LocalsRule
some_locals = record { marked = place_at (Local 0) nowhere ∷ []; tree = 0 ∷ []; rule = one nowhere (omega arith) }

-- locals in brackets, or none
locals_first : {w : List Marked} {ns : List ℕ} → LocalsRule w ns → (n : ℕ) × Starts (λ t. t ≡ token.Name (place_name (Local n))) w
locals_first (one {n} p h) = (n, refl)
locals_first (another {n} p q rest h l e) = (n, subst (Starts (λ t. t ≡ token.Name (place_name (Local n)))) (sym e) refl)

name_no_sign : (x : List ℕ) (s : _) → token.Name x ≡ token.Sign s → ⊥
name_no_sign x s e = cc

starts_no : {x : Token} (y : Token) (w z : List Marked) → Starts (λ t. t ≡ x) w → (x ≡ y → ⊥) → Looks (Some y) (w ++ z) → ⊥
starts_no y [] z h f l = h
starts_no y (k ∷ w) z h f l = f (sym h ∙ l)

pub none_dropped : Turns Dropped Any (Tok (token.Sign sign.CloseRound)) Any (λ p. []) (Some (token.Sign sign.CloseRound))
none_dropped = record { back = λ w z b r f l. of w z b r.0 r.1 r.2 r.3 l; forth = λ w p r. (p, [], no_locals, r) }
  where
    of : (w z : List Marked) (b : List ℕ) (p : Place) (of : List Marked) → MaybeLocalsRule of b → w ≡ of ++ sign_at sign.CloseRound p ∷ [] → Looks (Some (token.Sign sign.CloseRound)) (w ++ z)
        → Back Dropped Any (Tok (token.Sign sign.CloseRound)) Any (λ p. []) w z b
    of w z b p k no_locals e l = record { tree = p; rule = e; is = refl; follows = tt }
    of w z b p k (locals r) e l =
        let s = locals_first r in
        absurd (starts_no (token.Sign sign.CloseRound) w z (subst (Starts (λ t. t ≡ token.Name (place_name (Local s.0)))) (sym e)
        (starts_append _ k (sign_at sign.CloseRound p ∷ []) s.1)) (name_no_sign _ sign.CloseRound) l)

maybe_some : {w : List Marked} {ns : List ℕ} → LocalsRule w ns → MaybeLocalsRule w ns
maybe_some (one p h) = locals (one p h)
maybe_some (another p q rest h l e) = locals (another p q rest h l e)

pub some_dropped_turns : (o : Option Token) → (o ≡ Some (token.Sign sign.CloseRound) → ⊥) → Turns Dropped Any (Closed (token.Sign sign.CloseRound) LocalsRule) Any (λ ns. ns) o
some_dropped_turns o nope = record { back = λ w z b r f l. of w z b r.0 r.1 r.2 r.3 l; forth = λ w ns r. (r.0, r.1, maybe_some r.2, r.3) }
  where
    of : (w z : List Marked) (b : List ℕ) (p : Place) (of : List Marked) → MaybeLocalsRule of b → w ≡ of ++ sign_at sign.CloseRound p ∷ [] → Looks o (w ++ z)
        → Back Dropped Any (Closed (token.Sign sign.CloseRound) LocalsRule) Any (λ ns. ns) w z b
    of w z b p k no_locals e l = absurd (nope (looks_is o (sign_at sign.CloseRound p) [] z e l))
    of w z b p k (locals r) e l = record { tree = b; rule = (p, k, r, e); is = refl; follows = tt }

pub some_dropped : Inhabited Dropped
some_dropped = record { marked = sign_at sign.CloseRound nowhere ∷ []; tree = []; rule = (nowhere, [], no_locals, refl) }

-- [ "error" local ]
pub error_some : (w : List Marked) (n : ℕ) → Behind (token.Name (codes "error")) LocalPart w n → ErrorRule w (Some n)
error_some w n r = subst (λ k. ErrorRule k (Some n)) (sym (then_same r.3 r.2.2)) (error r.0 r.2.0 r.2.1)

pub error_which : (w : List Marked) (o : Option ℕ) → ErrorRule w o → Perhaps (token.Name (codes "error")) LocalPart w o
error_which w o no_error = absent refl refl
error_which w o (error {n} p q h) = present n (p, place_at (Local n) q ∷ [], (q, h, refl), refl) refl

some_error : Inhabited ErrorRule
some_error = record { marked = []; tree = None; rule = no_error }

drop_part : Inhabited (Behind (token.Sign sign.OpenRound) Dropped)
drop_part = some_behind (token.Sign sign.OpenRound) Dropped some_dropped

drop_words : Inhabited (Behind (token.Name (codes "drop")) (Behind (token.Sign sign.OpenRound) Dropped))
drop_words = some_behind (token.Name (codes "drop")) (Behind (token.Sign sign.OpenRound) Dropped) drop_part

-- "catch" number error "drop" "(" locals ")"
pub catcher_number_link : Link NumberPart Any (λ n. Both ErrorRule (Behind (token.Name (codes "drop")) (Behind (token.Sign sign.OpenRound) Dropped))) Any
catcher_number_link = free (λ n. some_both ErrorRule (Behind (token.Name (codes "drop")) (Behind (token.Sign sign.OpenRound) Dropped)) some_error drop_words)

pub catcher_error_link : Link ErrorRule (NotBefore (token.Name (codes "error"))) (λ e. Behind (token.Name (codes "drop")) (Behind (token.Sign sign.OpenRound) Dropped)) Any
catcher_error_link = behind_link ErrorRule (NotBefore (token.Name (codes "error"))) (token.Name (codes "drop")) (Behind (token.Sign sign.OpenRound) Dropped) Any (λ a p z e. absurd (cc)) drop_part

pub some_drop_part : Inhabited (Behind (token.Sign sign.OpenRound) Dropped)
some_drop_part = drop_part

pub some_catcher : Inhabited CatcherPart
some_catcher = some_mapped catcher_tree Catcher (some_both NumberPart (Both ErrorRule (Behind (token.Name (codes "drop")) (Behind (token.Sign sign.OpenRound) Dropped))) some_number
    (some_both ErrorRule (Behind (token.Name (codes "drop")) (Behind (token.Sign sign.OpenRound) Dropped)) some_error drop_words))

pub catch_some : (w : List Marked) (c : CatcherTree) → Behind (token.Word word.Catch) CatcherPart w c → CatchRule w (Some c)
catch_some w c r =
    let b = r.2.1 in
    let d = b.back in
    let x = d.back in
    let y = x.2 in
    let z = y.2 in
    subst (λ k. CatchRule w (Some k)) (sym r.2.2) (catch r.0 b.front.0 x.0 y.0 z.0 d.first z.1 b.front.1 d.front z.2
    (then_same r.3 (one_then b.is b.front.2 (part_then d.first d.is (then_same x.3 (then_same y.3 z.3))))))

pub catch_which : (w : List Marked) (o : Option CatcherTree) → CatchRule w o → Perhaps (token.Word word.Catch) CatcherPart w o
catch_which w o no_catch = absent refl refl
catch_which w o (catch {block} {error} {drops} p q r s t named of h k m e) =
    let closed = of ++ sign_at sign.CloseRound t ∷ [] in
    let dropped = said (codes "drop") r ∷ sign_at sign.OpenRound s ∷ closed in
    present (record { block = block; error = error; drops = drops }) (
      p,
      number_at block q ∷ (named ++ dropped),
      (
        (block, (error, drops)),
        record {
          first = number_at block q ∷ [];
          rest = named ++ dropped;
          is = refl;
          front = (q, h, refl);
          back = record { first = named; rest = dropped; is = refl; front = k; back = (r, sign_at sign.OpenRound s ∷ closed, (s, closed, (t, of, m, refl), refl), refl) };
        },
        refl,
      ),
      e,
    ) refl

some_catch : Inhabited CatchRule
some_catch = record { marked = []; tree = None; rule = no_catch }

-- { instr } last "}"
some_last : (v : Version) → Inhabited (LastRule v)
some_last v = record { marked = _; tree = GotoLast 0; rule = goto nowhere nowhere nowhere (omega arith) }

pub some_closed_last : (v : Version) → Inhabited (Closed (token.Sign sign.CloseCurly) (LastRule v))
some_closed_last v = some_closed (token.Sign sign.CloseCurly) (LastRule v) (some_last v)

-- a last instruction begins with g, p or t, or with a word of programs
abbrev ends_block : Token → Bool
ends_block (token.Name x) = get_or x 0 0 == 103 || get_or x 0 0 == 112 || get_or x 0 0 == 116
ends_block (token.Word k) = true
ends_block _ = false

last_ends : (k : LastKind) → ends_block (last_token k) ≡ true
last_ends Goto = refl
last_ends Pass = refl
last_ends Tests = refl
last_ends Choose = refl
last_ends Return = refl
last_ends Throw = refl

instr_goes_on : (t : Token) → InstrToken t → ends_block t ≡ false
instr_goes_on t (inl f) = ap ends_block f
instr_goes_on t (inr (inl f)) = ap ends_block f
instr_goes_on t (inr (inr (inl f))) = ap ends_block f
instr_goes_on t (inr (inr (inr (inl f)))) = ap ends_block f
instr_goes_on t (inr (inr (inr (inr f)))) = ap ends_block f

last_no_instr : (k : LastKind) (t : Token) → t ≡ last_token k → InstrToken t → ⊥
last_no_instr k t e i = let f : true ≡ false = sym (last_ends k) ∙ ap ends_block (sym e) ∙ instr_goes_on t i in cc

pub body_link : (version : Version) → Link InstrsRule (NotFirst InstrToken) (λ is. Closed (token.Sign sign.CloseCurly) (LastRule version)) Any
body_link version = record {
  follows = λ a b v z s f. subst (λ k. NotFirst InstrToken a (k ++ z)) (sym s.3)
      (subst (NotFirst InstrToken a) (sym (append_assoc s.1 (sign_at sign.CloseCurly s.0 ∷ []) z))
      (starts_not InstrToken (λ t. t ≡ last_token (kind s.2)) a s.1 (sign_at sign.CloseCurly s.0 ∷ z) (λ t q i. last_no_instr (kind s.2) t q i) (last_starts s.2)));
  more = λ is. some_closed_last version;
}
  where
    kind : {w : List Marked} {l : LastTree} → LastRule version w l → LastKind
    kind r = last_kind r

-- "block" number catch "{" body
pub some_body : (v : Version) → Inhabited (BlockBody v)
some_body v = some_both InstrsRule (Closed (token.Sign sign.CloseCurly) (LastRule v)) (record { marked = []; tree = []; rule = no_instrs }) (some_closed_last v)

pub some_numbered : (x : List ℕ) (n : ℕ) → Inhabited (Numbered x n)
some_numbered x n = some_behind (token.Name x) (Tok (token.Number (pos n))) (some_opening [] (token.Number (pos n)))

abbrev pub BlockShape : Version → ℕ → List Marked → Place × (Option CatcherTree × (List InstrTree × LastTree)) → Type 0
BlockShape v n = Both (Numbered (codes "block") n) (Both CatchRule (Behind (token.Sign sign.OpenCurly) (BlockBody v)))

abbrev pub block_tree : Place × (Option CatcherTree × (List InstrTree × LastTree)) → BlockTree
block_tree x = record { catcher = x.1.0; body = x.1.1.0; last = x.1.1.1 }

pub block_number_link : (v : Version) (n : ℕ) → Link (Numbered (codes "block") n) Any (λ p. Both CatchRule (Behind (token.Sign sign.OpenCurly) (BlockBody v))) Any
block_number_link v n = free (λ p. some_both CatchRule (Behind (token.Sign sign.OpenCurly) (BlockBody v)) some_catch (some_behind (token.Sign sign.OpenCurly) (BlockBody v) (some_body v)))

pub block_catch_link : (v : Version) → Link CatchRule (NotBefore (token.Word word.Catch)) (λ c. Behind (token.Sign sign.OpenCurly) (BlockBody v)) Any
block_catch_link v = behind_link CatchRule (NotBefore (token.Word word.Catch)) (token.Sign sign.OpenCurly) (BlockBody v) Any (λ a p z e. absurd (cc)) (some_body v)

-- a word and its number, and what follows
pub numbered_then : {w a k r m : List Marked} {x y : Marked} → w ≡ a ++ r → a ≡ x ∷ k → k ≡ y ∷ [] → r ≡ m → w ≡ x ∷ y ∷ m
numbered_then {r = r} {x = x} {y = y} e f g h = e ∙ ap (λ z. z ++ r) f ∙ ap (λ z. (x ∷ z) ++ r) g ∙ ap (λ z. x ∷ y ∷ z) h

pub block_turns : (v : Version) (n : ℕ) (o : Option Token) → IsNumber n → Turns (BlockRule v n) Any (BlockShape v n) Any block_tree o
block_turns v n o h = record {
  back = λ w z b r f l. of w z b r;
  forth = λ w x r.
      let c = r.back in
      let d = c.back in
      let b = d.2 in
      block r.front.0 x.0 d.0 b.back.0 c.first b.first b.back.1 h c.front b.front b.back.2
      (numbered_then r.is r.front.3 r.front.2 (part_then c.first c.is (then_same d.3 (part_then b.first b.is b.back.3))));
}
  where
    of : (w z : List Marked) (b : BlockTree) → BlockRule v n w b → Back (BlockRule v n) Any (BlockShape v n) Any block_tree w z b
    of w z b (block {c} {is} {l} p q r s caught body last k hc hb hl e) = record {
      tree = (q, (c, (is, l)));
      rule = record {
        first = said (codes "block") p ∷ number_at n q ∷ [];
        rest = caught ++ (sign_at sign.OpenCurly r ∷ (body ++ (last ++ sign_at sign.CloseCurly s ∷ [])));
        is = e;
        front = (p, number_at n q ∷ [], refl, refl);
        back = record {
          first = caught;
          rest = sign_at sign.OpenCurly r ∷ (body ++ (last ++ sign_at sign.CloseCurly s ∷ []));
          is = refl;
          front = hc;
          back = (r, body ++ (last ++ sign_at sign.CloseCurly s ∷ []), record { first = body; rest = last ++ sign_at sign.CloseCurly s ∷ []; is = refl; front = hb; back = (s, last, hl, refl) }, refl);
        };
      };
      is = refl;
      follows = tt;
    }

pub block_starts : (v : Version) (n : ℕ) (w : List Marked) (b : BlockTree) → BlockRule v n w b → Starts (λ t. t ≡ token.Name (codes "block")) w
block_starts v n w b (block p q r s caught body last k hc hb hl e) = subst (Starts (λ t. t ≡ token.Name (codes "block"))) (sym e) refl

pub some_block : (v : Version) (n : ℕ) → IsNumber n → Inhabited (BlockRule v n)
some_block v n h =
    let y = some_both (Numbered (codes "block") n) (Both CatchRule (Behind (token.Sign sign.OpenCurly) (BlockBody v))) (some_numbered (codes "block") n)
    (some_both CatchRule (Behind (token.Sign sign.OpenCurly) (BlockBody v)) some_catch (some_behind (token.Sign sign.OpenCurly) (BlockBody v) (some_body v))) in
    record { marked = y.marked; tree = block_tree y.tree; rule = (block_turns v n None h).forth y.marked y.tree y.rule }

-- how the locals of an instruction are read
module _ (t : Tokens) where
  pub locals_left : (at : ℕ) → at ≤ length t.spots.items
      → Leaves OF_CLASS_TEXT LocalsRule (NotBefore (token.Sign sign.Comma)) (Both LocalPart (NextLocals 0)) (λ x. NotBefore (token.Sign sign.Comma) x.1) (λ x. x.0 ∷ x.1) t.spots.items at at
  locals_left at h = narrow OF_CLASS_TEXT t.spots.items refl (locals_turns (token_at t.spots.items at)) (nothing OF_CLASS_TEXT t.spots.items LocalsRule (NotBefore (token.Sign sign.Comma)) at h)

  comma_turns : (o : Option Token) → Turns (NextLocals 0) (NotBefore (token.Sign sign.Comma)) (NextLocals 0) (NotFirst (λ x. x ≡ token.Sign sign.Comma)) (λ l. l) o
  comma_turns o = record { back = λ w z b r f l. record { tree = b; rule = r; is = refl; follows = not_before (token.Sign sign.Comma) b b z f }; forth = λ w l r. r }

  pub locals_init : (at : ℕ) → at ≤ length t.spots.items → (to : ℕ) (ns : List ℕ) (n : ℕ) → ns ≡ n ∷ [] → Reads OF_CLASS_TEXT LocalPart Any t.spots.items at n to
      → Leaves OF_CLASS_TEXT LocalsRule (NotBefore (token.Sign sign.Comma)) (NextLocals 0) (NotFirst (λ x. x ≡ token.Sign sign.Comma)) (λ ys. ns ++ ys) t.spots.items at to
  locals_init at h to ns n q r = means OF_CLASS_TEXT t.spots.items (λ ys. ns ++ ys) (λ ys. ap (λ z. z ++ ys) (sym q))
      (narrow OF_CLASS_TEXT t.spots.items refl (comma_turns (token_at t.spots.items to)) (then_reads OF_CLASS_TEXT t.spots.items locals_link (locals_left at h) r))

  module _ (from at : ℕ) (ns : List ℕ)
      (l : Leaves OF_CLASS_TEXT LocalsRule (NotBefore (token.Sign sign.Comma)) (NextLocals 0) (NotFirst (λ x. x ≡ token.Sign sign.Comma)) (λ ys. ns ++ ys) t.spots.items from at) where
    next_left : token_at t.spots.items at ≡ Some (token.Sign sign.Comma) → Leaves OF_CLASS_TEXT (NextLocal 0) Any LocalPart Any (λ n. n) t.spots.items at (at + 1)
    next_left e = behind_here t (token.Sign sign.Comma) some_local (nothing OF_CLASS_TEXT t.spots.items (NextLocal 0) Any at l.within) e

    pub locals_next_fails : token_at t.spots.items at ≡ Some (token.Sign sign.Comma) → (e : SourceFault) → Fails OF_CLASS_TEXT LocalPart Any t (at + 1) e
        → Fails OF_CLASS_TEXT LocalsRule (NotBefore (token.Sign sign.Comma)) t from e
    locals_next_fails h e a = each_fails NextLocal NextLocals (λ x. x ≡ token.Sign sign.Comma) (λ k. none) (numbered_cons NextLocal) (numbered_cut NextLocal) next_local_starts t 0 l
        (first_is (λ x. x ≡ token.Sign sign.Comma) (token_at t.spots.items at) (token.Sign sign.Comma) h refl) e (fails OF_CLASS_TEXT t (next_left h) e a)

    -- numbers don't matter
    any_locals : (k m : ℕ) {w : List Marked} {xs : List ℕ} → NextLocals k w xs → NextLocals m w xs
    any_locals k m none = none
    any_locals k m (next first rest r s e) = next first rest r (any_locals (suc k) (suc m) s) e

    again : (o : Option Token) → Turns (NextLocals 1) (NotFirst (λ x. x ≡ token.Sign sign.Comma)) (NextLocals 0) (NotFirst (λ x. x ≡ token.Sign sign.Comma)) (λ l. l) o
    again o = record { back = λ w z b r f h. record { tree = b; rule = any_locals 1 0 r; is = refl; follows = f }; forth = λ w b r. any_locals 0 1 r }

    pub locals_step : (to : ℕ) (ms : List ℕ) (n : ℕ) → token_at t.spots.items at ≡ Some (token.Sign sign.Comma) → ms ≡ ns ++ n ∷ [] → Reads OF_CLASS_TEXT LocalPart Any t.spots.items (at + 1) n to
        → Leaves OF_CLASS_TEXT LocalsRule (NotBefore (token.Sign sign.Comma)) (NextLocals 0) (NotFirst (λ x. x ≡ token.Sign sign.Comma)) (λ ys. ms ++ ys) t.spots.items from to
    locals_step to ms n h q r = narrow OF_CLASS_TEXT t.spots.items refl (again (token_at t.spots.items to))
        (means OF_CLASS_TEXT t.spots.items (λ ys. ms ++ ys) (λ ys. sym (append_assoc ns (n ∷ []) ys) ∙ ap (λ z. z ++ ys) (sym q))
        (each_reads NextLocal NextLocals (λ x. x ≡ token.Sign sign.Comma) (λ k. none) (numbered_cons NextLocal) (numbered_cut NextLocal) next_local_starts t 0 l
        (first_is (λ x. x ≡ token.Sign sign.Comma) (token_at t.spots.items at) (token.Sign sign.Comma) h refl) (done OF_CLASS_TEXT t.spots.items (next_left h) r)))

    pub locals_done : (token_at t.spots.items at ≡ Some (token.Sign sign.Comma) → ⊥) → Reads OF_CLASS_TEXT LocalsRule (NotBefore (token.Sign sign.Comma)) t.spots.items from ns at
    locals_done nope = subst (λ z. Reads OF_CLASS_TEXT LocalsRule (NotBefore (token.Sign sign.Comma)) t.spots.items from z at) (append-nil ns)
        (each_done NextLocal NextLocals (λ x. x ≡ token.Sign sign.Comma) (λ k. none) (numbered_cons NextLocal) (numbered_cut NextLocal) next_local_starts t 0 l
        (λ h. nope (is_first (token_at t.spots.items at) (token.Sign sign.Comma) h)))
