-- The first stale use, and the wait that is told of it.
use Rattle.std.proofs.Common.{◌≡◌, ℕ, zero, suc, ◌+◌, ◌<◌, ◌≤◌, Bool, true, false, List, [], ◌∷◌, length, drop, get_or, map, reverse, refl, sym, ap, ◌∙◌, arith}
use Rattle.std.specs.Prelude.{slice_get, is_some, if◌then◌else◌}
use Rattle.std.specs.declared.option.Option.{Option}
use Rattle.std.specs.declared.option.Option.TheVariants.{None, Some}
use Rattle.std.proofs.lemmas.Bool.{false≢true}
use Rattle.std.proofs.lemmas.List.{drop_more, drop_all}
use Rattle.flow_base.specs.declared.place.Place.{Place}
use Rattle.flow_tree.specs.declared.decl.Decl.{Decl}
use Rattle.flow_tree.specs.Body.{Body}
use Rattle.flow_tree.specs.Decls.{ParamTree}
use Rattle.flow_tree.specs.DeclView.{decl_of}
use Rattle.flow_staterule.specs.declared.rule.Lost.{Lost}
use Rattle.flow_staterule.specs.declared.scope.Use.{Use}
use Rattle.flow_staterule.specs.Uses.{parameter, begins}
use Rattle.flow_staterule.specs.StateRule.{routine_uses, first_stale, is_stale_use, is_lost_with, first_with, lost_in_decl, first_of, first_lost}
use Rattle.flow_staterule.proofs.Staler.{stale_still, uses_more}

-- what is lost with some waits is lost with more
still_lost : (ps : List ParamTree) (b : Body) (u n m : ℕ) → n ≤ m → is_lost_with ps b u n ≡ true → is_lost_with ps b u m ≡ true
still_lost ps b u n m le e =
    stale_still u (routine_uses ps b n) (routine_uses ps b m)
    (uses_more n m (reverse (map parameter ps)) begins begins None b le (record { from = refl; stale = omega arith; within = omega arith })) e

-- from number n on, it first holds with the wait of number low
first_at : (holds : ℕ → Bool) (n low : ℕ) (ws : List Place) → ((j : ℕ) → j < low → holds (n + j + 1) ≡ false) → holds (n + low + 1) ≡ true → low < length ws
    → slice_get ws low ≡ first_with holds n ws
first_at holds n low [] before it lt = absurd (omega (arith, lt))
first_at holds n zero (w ∷ ws) before it lt =
    let z : n + 0 + 1 ≡ n + 1 = omega arith in
    let e : holds (n + 1) ≡ true = ap holds (sym z) ∙ it in
    sym (ap (λ b. if b then Some w else first_with holds (n + 1) ws) e)
first_at holds n (suc low) (w ∷ ws) before it lt =
    let z : 0 < suc low = omega arith in
    let o : n + 0 + 1 ≡ n + 1 = omega arith in
    let e : holds (n + 1) ≡ false = ap holds (sym o) ∙ before 0 z in
    let lt' : low < length ws = omega (arith, lt) in
    let s : n + 1 + low + 1 ≡ n + suc low + 1 = omega arith in
    first_at holds (n + 1) low ws
    (λ j l. let t : n + 1 + j + 1 ≡ n + suc j + 1 = omega arith in let l' : suc j < suc low = omega (arith, l) in ap holds t ∙ before (suc j) l')
    (ap holds s ∙ it) lt'
    ∙ sym (ap (λ b. if b then Some w else first_with holds (n + 1) ws) e)

false_of : (x : Bool) → (x ≡ true → false ≡ true) → x ≡ false
false_of true f = sym (f refl)
false_of false f = refl

pub halved : (ps : List ParamTree) (b : Body) (u low high waits : ℕ) (ws : List Place) → low < high → high ≤ waits → high ≤ low + 1 → is_lost_with ps b u high ≡ true
    → (0 < low → is_lost_with ps b u low ≡ false)
    → length ws ≡ waits → slice_get ws low ≡ first_with (is_lost_with ps b u) 0 ws
halved ps b u low high waits ws lh hw hl it before len =
    let e : high ≡ 0 + low + 1 = omega (arith, lh, hl) in
    let lt : low < length ws = omega (arith, lh, hw, len) in
    first_at (is_lost_with ps b u) 0 low ws
    (λ j l. let z : 0 < low = omega (arith, l) in let le : 0 + j + 1 ≤ low = omega (arith, l) in
    false_of (is_lost_with ps b u (0 + j + 1)) (λ t. sym (before z) ∙ still_lost ps b u (0 + j + 1) low le t))
    (ap (is_lost_with ps b u) (sym e) ∙ it) lt

-- declaration by declaration
pub decls_more : (ds : List Decl) (i : ℕ) (d : Decl) (whole : Option Lost) → i < length ds → d ≡ get_or ds i d → lost_in_decl (decl_of d) ≡ None
    → first_lost (map decl_of (drop i ds)) ≡ whole → first_lost (map decl_of (drop (i + 1) ds)) ≡ whole
decls_more ds i d whole lt got e inv =
    let rest = first_lost (map decl_of (drop (i + 1) ds)) in
    sym (ap (λ l. first_lost (map decl_of l)) (drop_more ds i d lt) ∙ ap (λ x. first_of (lost_in_decl (decl_of x)) rest) (sym got) ∙ ap (λ o. first_of o rest) e) ∙ inv

pub decls_found : (ds : List Decl) (i : ℕ) (d : Decl) (l : Lost) (whole : Option Lost) → i < length ds → d ≡ get_or ds i d → Some l ≡ lost_in_decl (decl_of d)
    → first_lost (map decl_of (drop i ds)) ≡ whole → Some l ≡ whole
decls_found ds i d l whole lt got e inv =
    let rest = first_lost (map decl_of (drop (i + 1) ds)) in
    sym (ap (λ l. first_lost (map decl_of l)) (drop_more ds i d lt) ∙ ap (λ x. first_of (lost_in_decl (decl_of x)) rest) (sym got) ∙ ap (λ o. first_of o rest) (sym e)) ∙ inv

pub decls_over : (ds : List Decl) (i : ℕ) (whole : Option Lost) → length ds ≤ i → first_lost (map decl_of (drop i ds)) ≡ whole → None ≡ whole
decls_over ds i whole le inv = sym (ap (λ l. first_lost (map decl_of l)) (drop_all i ds le)) ∙ inv

-- use by use
pub stale_more : (us : List Use) (i : ℕ) (u : Use) (whole : Option ℕ) → i < length us → u ≡ get_or us i u → u.stale ≡ false → first_stale i (drop i us) ≡ whole
    → first_stale (i + 1) (drop (i + 1) us) ≡ whole
stale_more us i u whole lt got e inv =
    let rest = first_stale (i + 1) (drop (i + 1) us) in
    sym (ap (first_stale i) (drop_more us i u lt) ∙ ap (λ x. if x.stale then Some i else rest) (sym got) ∙ ap (λ b. if b then Some i else rest) e) ∙ inv

pub stale_found : (us : List Use) (i : ℕ) (u : Use) (whole : Option ℕ) → i < length us → u ≡ get_or us i u → u.stale ≡ true → first_stale i (drop i us) ≡ whole → Some i ≡ whole
stale_found us i u whole lt got e inv =
    let rest = first_stale (i + 1) (drop (i + 1) us) in
    sym (ap (first_stale i) (drop_more us i u lt) ∙ ap (λ x. if x.stale then Some i else rest) (sym got) ∙ ap (λ b. if b then Some i else rest) e) ∙ inv

pub stale_over : (us : List Use) (i : ℕ) (whole : Option ℕ) → length us ≤ i → first_stale i (drop i us) ≡ whole → None ≡ whole
stale_over us i whole le inv = sym (ap (first_stale i) (drop_all i us le)) ∙ inv

-- the first stale use is one
abbrev or_zero : Option ℕ → ℕ
or_zero None = 0
or_zero (Some n) = n

none_some : (m : ℕ) → None ≡ Some m → ⊥
none_some m e = false≢true (ap is_some e)

abbrev IsStaleAt : List Use → (n m : ℕ) → Type 0
IsStaleAt us n m = (k : ℕ) × (m ≡ n + k) × (is_stale_use (slice_get us k) ≡ true)

stale_here : (u : Use) (us : List Use) (n m : ℕ) (b : Bool) → u.stale ≡ b → (if b then Some n else first_stale (n + 1) us) ≡ Some m → (first_stale (n + 1) us ≡ Some m → IsStaleAt us (n + 1) m)
    → IsStaleAt (u ∷ us) n m
stale_here u us n m true s e rest = let f : n ≡ m = ap or_zero e in (0, omega (arith, f), s)
stale_here u us n m false s e rest = let r = rest e in let f : m ≡ n + 1 + r.0 = r.1 in (suc r.0, omega (arith, f), r.2)

stale_at : (us : List Use) (n m : ℕ) → first_stale n us ≡ Some m → IsStaleAt us n m
stale_at [] n m e = absurd (none_some m e)
stale_at (u ∷ us) n m e = stale_here u us n m u.stale refl e (stale_at us (n + 1) m)

pub first_is_stale : (us : List Use) (m : ℕ) → Some m ≡ first_stale 0 us → is_stale_use (slice_get us m) ≡ true
first_is_stale us m e =
    let r = stale_at us 0 m (sym e) in
    let g : m ≡ 0 + r.0 = r.1 in
    let f : m ≡ r.0 = omega (arith, g) in
    ap (λ k. is_stale_use (slice_get us k)) f ∙ r.2
