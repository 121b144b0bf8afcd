-- Lists in a slab: what is read along the links, one link more, one link less.
use Rattle.std.proofs.Common.{◌≡◌, ℕ, zero, suc, ◌+◌, ◌-◌, ◌<◌, ◌≤◌, nat_eq, Bool, true, false, List, [], ◌∷◌, ◌++◌, length, map, Option, Some, None, refl, sym, ap, ap₂, ◌∙◌, arith, if◌then◌else◌}
use Rattle.std.proofs.lemmas.Bool.Decides.{nat_tests}
use Rattle.flow_numbered.specs.declared.links.Link.{Link}
use Rattle.flow_numbered.specs.declared.links.Ends.{Ends}
use Rattle.flow_numbered.specs.Links.{Slots, or_key, longer, end_after, after_set, before_set, with_after, with_before, placed, pushed, unlinked, shorter, walk_on, walk}
use Rattle.flow_numbered.specs.Lists.{first_of, last_of, IsChain, IsApart, AreApart, IsList}

if_false : {A : Type 0} (b : Bool) (x y : A) → b ≡ false → (if b then x else y) ≡ y
if_false b x y e = rw e refl

if_true : {A : Type 0} (b : Bool) (x y : A) → b ≡ true → (if b then x else y) ≡ x
if_true b x y e = rw e refl

same_key : (k : ℕ) → nat_eq k k ≡ true
same_key k = grind (arith, nat_tests)

turned : (j k : ℕ) → nat_eq j k ≡ false → nat_eq k j ≡ false
turned j k e = grind (arith, nat_tests)

module _ {T : Type 0} where
  abbrev pub items : List (ℕ × T) → List T
  items ps = map (λ p. p.1) ps

  -- slots that agree at these keys
  abbrev pub Agree : Slots T → Slots T → List (ℕ × T) → Type 0
  Agree at new [] = Unit {0}
  Agree at new (p ∷ ps) = (new p.0 ≡ at p.0) × Agree at new ps

  pub agreed : (at new : Slots T) (b : Option ℕ) (ps : List (ℕ × T)) (a : Option ℕ) → Agree at new ps → IsChain at b ps a → IsChain new b ps a
  agreed at new b [] a s h = tt
  agreed at new b (p ∷ ps) a s h = (s.0 ∙ h.0, agreed at new (Some p.0) ps a s.1 h.1)

  pub agree_all : (at new : Slots T) (ps : List (ℕ × T)) → ((k : ℕ) → new k ≡ at k) → Agree at new ps
  agree_all at new [] s = tt
  agree_all at new (p ∷ ps) s = (s p.0, agree_all at new ps s)

  pub agree_then : (at mid new : Slots T) (ps : List (ℕ × T)) → Agree at mid ps → Agree mid new ps → Agree at new ps
  agree_then at mid new [] s t = tt
  agree_then at mid new (p ∷ ps) s t = (t.0 ∙ s.0, agree_then at mid new ps s.1 t.1)

  -- a change at another key
  pub agree_placed : (at : Slots T) (key : ℕ) (l : Link T) (ps : List (ℕ × T)) → IsApart key ps → Agree at (placed at key l) ps
  agree_placed at key l [] s = tt
  agree_placed at key l (p ∷ ps) s = (if_false (nat_eq p.0 key) _ _ s.0, agree_placed at key l ps s.1)

  pub agree_after : (at : Slots T) (key : ℕ) (after : Option ℕ) (ps : List (ℕ × T)) → IsApart key ps → Agree at (with_after at (Some key) after) ps
  agree_after at key after [] s = tt
  agree_after at key after (p ∷ ps) s = (if_false (nat_eq p.0 key) _ _ s.0, agree_after at key after ps s.1)

  pub agree_before : (at : Slots T) (key : ℕ) (before : Option ℕ) (ps : List (ℕ × T)) → IsApart key ps → Agree at (with_before at (Some key) before) ps
  agree_before at key before [] s = tt
  agree_before at key before (p ∷ ps) s = (if_false (nat_eq p.0 key) _ _ s.0, agree_before at key before ps s.1)

  -- links in a row
  pub joined : (at : Slots T) (b : Option ℕ) (xs ys : List (ℕ × T)) (a : Option ℕ) → IsChain at b xs (first_of ys a) → IsChain at (last_of b xs) ys a → IsChain at b (xs ++ ys) a
  joined at b [] ys a h t = t
  joined at b (x ∷ []) ys a h t = (h.0, t)
  joined at b (x ∷ y ∷ xs) ys a h t = (h.0, joined at (Some x.0) (y ∷ xs) ys a h.1 t)

  pub front_of : (at : Slots T) (b : Option ℕ) (xs ys : List (ℕ × T)) (a : Option ℕ) → IsChain at b (xs ++ ys) a → IsChain at b xs (first_of ys a)
  front_of at b [] ys a h = tt
  front_of at b (x ∷ []) ys a h = (h.0, tt)
  front_of at b (x ∷ y ∷ xs) ys a h = (h.0, front_of at (Some x.0) (y ∷ xs) ys a h.1)

  pub back_of : (at : Slots T) (b : Option ℕ) (xs ys : List (ℕ × T)) (a : Option ℕ) → IsChain at b (xs ++ ys) a → IsChain at (last_of b xs) ys a
  back_of at b [] ys a h = h
  back_of at b (x ∷ xs) ys a h = back_of at (Some x.0) xs ys a h.1

  -- a key that none of these links stands at, if it is one
  abbrev pub IsOff : Option ℕ → List (ℕ × T) → Type 0
  IsOff None ps = Unit {0}
  IsOff (Some key) ps = IsApart key ps

  agree_off_after : (at : Slots T) (o after : Option ℕ) (ps : List (ℕ × T)) → IsOff o ps → Agree at (with_after at o after) ps
  agree_off_after at None after ps s = agree_all at _ ps (λ k. refl)
  agree_off_after at (Some key) after ps s = agree_after at key after ps s

  agree_off_before : (at : Slots T) (o before : Option ℕ) (ps : List (ℕ × T)) → IsOff o ps → Agree at (with_before at o before) ps
  agree_off_before at None before ps s = agree_all at _ ps (λ k. refl)
  agree_off_before at (Some key) before ps s = agree_before at key before ps s

  apart_front : (key : ℕ) (xs ys : List (ℕ × T)) → IsApart key (xs ++ ys) → IsApart key xs
  apart_front key [] ys s = tt
  apart_front key (x ∷ xs) ys s = (s.0, apart_front key xs ys s.1)

  apart_back : (key : ℕ) (xs ys : List (ℕ × T)) → IsApart key (xs ++ ys) → IsApart key ys
  apart_back key [] ys s = s
  apart_back key (x ∷ xs) ys s = apart_back key xs ys s.1

  apart_both : (key : ℕ) (xs ys : List (ℕ × T)) → IsApart key xs → IsApart key ys → IsApart key (xs ++ ys)
  apart_both key [] ys s t = t
  apart_both key (x ∷ xs) ys s t = (s.0, apart_both key xs ys s.1 t)

  all_front : (xs ys : List (ℕ × T)) → AreApart (xs ++ ys) → AreApart xs
  all_front [] ys s = tt
  all_front (x ∷ xs) ys s = (apart_front x.0 xs ys s.0, all_front xs ys s.1)

  all_back : (xs ys : List (ℕ × T)) → AreApart (xs ++ ys) → AreApart ys
  all_back [] ys s = s
  all_back (x ∷ xs) ys s = all_back xs ys s.1

  all_without : (xs : List (ℕ × T)) (p : ℕ × T) (ys : List (ℕ × T)) → AreApart (xs ++ p ∷ ys) → AreApart (xs ++ ys)
  all_without [] p ys s = s.1
  all_without (x ∷ xs) p ys s =
      (apart_both x.0 xs ys (apart_front x.0 xs (p ∷ ys) s.0) (apart_back x.0 xs (p ∷ ys) s.0).1, all_without xs p ys s.1)

  last_off : (b : Option ℕ) (xs ys : List (ℕ × T)) → IsOff b ys → AreApart (xs ++ ys) → IsOff (last_of b xs) ys
  last_off b [] ys o s = o
  last_off b (x ∷ xs) ys o s = last_off (Some x.0) xs ys (apart_back x.0 xs ys s.0) s.1

  -- the first of the later links is none of the earlier ones
  apart_first : (y : ℕ × T) (xs ys : List (ℕ × T)) → AreApart (xs ++ y ∷ ys) → IsApart y.0 xs
  apart_first y [] ys s = tt
  apart_first y (x ∷ xs) ys s = (turned _ _ (apart_back x.0 xs (y ∷ ys) s.0).0, apart_first y xs ys s.1)

  first_off : (xs ys : List (ℕ × T)) → AreApart (xs ++ ys) → IsOff (first_of ys None) xs
  first_off xs [] s = tt
  first_off xs (y ∷ ys) s = apart_first y xs ys s

  -- the last of these is another
  last_but : (x : ℕ × T) (ys : List (ℕ × T)) (b : Option ℕ) → IsOff b (x ∷ []) → IsApart x.0 ys → IsOff (last_of b ys) (x ∷ [])
  last_but x [] b o s = o
  last_but x (y ∷ ys) b o s = last_but x ys (Some y.0) (turned _ _ s.0, tt) s.1

  -- the last of these links is followed by another
  pub refollowed : (at : Slots T) (b : Option ℕ) (xs : List (ℕ × T)) (a new : Option ℕ) → AreApart xs → IsChain at b xs a → IsChain (with_after at (last_of None xs) new) b xs new
  refollowed at b [] a new s h = tt
  refollowed at b (x ∷ []) a new s h = (if_true (nat_eq x.0 x.0) _ _ (same_key x.0) ∙ ap (after_set new) h.0, tt)
  refollowed at b (x ∷ y ∷ xs) a new s h =
      ((agree_off_after at (last_of (Some y.0) xs) new (x ∷ []) (last_but x (y ∷ xs) None tt s.0)).0 ∙ h.0, refollowed at (Some x.0) (y ∷ xs) a new s.1 h.1)

  -- the first of these links follows another
  pub repreceded : (at : Slots T) (b : Option ℕ) (ys : List (ℕ × T)) (a new : Option ℕ) → AreApart ys → IsChain at b ys a → IsChain (with_before at (first_of ys None) new) new ys a
  repreceded at b [] a new s h = tt
  repreceded at b (y ∷ ys) a new s h =
      (if_true (nat_eq y.0 y.0) _ _ (same_key y.0) ∙ ap (before_set new) h.0, agreed at _ (Some y.0) ys a (agree_before at y.0 new ys s.0) h.1)

  -- a key with no link is none of these
  vacant_apart : (at : Slots T) (key : ℕ) (b : Option ℕ) (ps : List (ℕ × T)) (a : Option ℕ) → at key ≡ None → IsChain at b ps a → IsApart key ps
  vacant_apart at key b [] a e h = tt
  vacant_apart at key b (p ∷ ps) a e h = (differs (nat_eq p.0 key) refl, vacant_apart at key (Some p.0) ps a e h.1)
    where
      differs : (t : Bool) → nat_eq p.0 key ≡ t → t ≡ false
      differs false g = refl
      differs true g =
          let same : p.0 ≡ key = grind (arith, nat_tests) in
          let here = ap at same in absurd (cc (here, e, h.0))

  all_more : (ps : List (ℕ × T)) (p : ℕ × T) → AreApart ps → IsApart p.0 ps → AreApart (ps ++ p ∷ [])
  all_more [] p s t = (tt, tt)
  all_more (q ∷ ps) p s t = (apart_both q.0 ps (p ∷ []) s.0 (turned _ _ t.0, tt), all_more ps p s.1 t.1)

  first_more : (ps : List (ℕ × T)) (p : ℕ × T) → or_key (first_of ps None) p.0 ≡ first_of (ps ++ p ∷ []) None
  first_more [] p = refl
  first_more (q ∷ ps) p = refl

  last_more : (b : Option ℕ) (ps : List (ℕ × T)) (p : ℕ × T) → last_of b (ps ++ p ∷ []) ≡ Some p.0
  last_more b [] p = refl
  last_more b (q ∷ ps) p = last_more (Some q.0) ps p

  pub length_more : (xs ys : List (ℕ × T)) → length (xs ++ ys) ≡ length xs + length ys
  length_more [] ys = omega arith
  length_more (x ∷ xs) ys = omega (arith, length_more xs ys)

  -- a list with one link more
  pub pushed_list : (at new : Slots T) (e : Ends) (ps : List (ℕ × T)) (key : ℕ) (item : T) → IsList at e ps → at key ≡ None
      → ((k : ℕ) → new k ≡ pushed at e.last key item k) → IsList new (longer e key) (ps ++ (key, item) ∷ [])
  pushed_list at new e ps key item h vacant writes =
      let l : Link T = record { item = item; before = e.last; after = None } in
      let mid = placed at key l in
      let off = vacant_apart at key None ps None vacant h.chain in
      let front = refollowed mid None ps None (Some key) h.apart (agreed at mid None ps None (agree_placed at key l ps off) h.chain) in
      let here : mid key ≡ Some l = if_true (nat_eq key key) _ _ (same_key key) in
      let stays = (agree_off_after mid (last_of None ps) (Some key) ((key, item) ∷ []) (last_but (key, item) ps None tt off)).0 in
      let back : IsChain (with_after mid (last_of None ps) (Some key)) (last_of None ps) ((key, item) ∷ []) None =
      (stays ∙ here ∙ ap (λ o. Some (record { item = item; before = o; after = None })) h.last, tt) in
      let whole = joined _ None ps ((key, item) ∷ []) None front back in
      let same : (k : ℕ) → new k ≡ with_after mid (last_of None ps) (Some key) k = λ k. writes k ∙ ap (λ o. with_after mid o (Some key) k) h.last in
      record {
        chain = agreed _ new None (ps ++ (key, item) ∷ []) None (agree_all _ new _ same) whole;
        apart = all_more ps (key, item) h.apart off;
        first = ap (λ o. or_key o key) h.first ∙ first_more ps (key, item);
        last = sym (last_more None ps (key, item));
        length_is = omega (arith, h.length_is, length_more ps ((key, item) ∷ []));
      }

  -- the ends of what is left
  first_less : (xs : List (ℕ × T)) (p : ℕ × T) (ys : List (ℕ × T)) → end_after (last_of None xs) (first_of (xs ++ p ∷ ys) None) (first_of ys None) ≡ first_of (xs ++ ys) None
  first_less [] p ys = refl
  first_less (x ∷ xs) p ys = stays x.0 xs
    where
      stays : (k : ℕ) (zs : List (ℕ × T)) → end_after (last_of (Some k) zs) (Some x.0) (first_of ys None) ≡ Some x.0
      stays k [] = refl
      stays k (z ∷ zs) = stays z.0 zs

  last_less : (b : Option ℕ) (xs : List (ℕ × T)) (p : ℕ × T) (ys : List (ℕ × T)) → end_after (first_of ys None) (last_of b (xs ++ p ∷ ys)) (last_of b xs) ≡ last_of b (xs ++ ys)
  last_less b xs p [] = behind b xs
    where
      behind : (o : Option ℕ) (zs : List (ℕ × T)) → last_of o zs ≡ last_of o (zs ++ [])
      behind o [] = refl
      behind o (z ∷ zs) = behind (Some z.0) zs
  last_less b xs p (y ∷ ys) = past b xs
    where
      past : (o : Option ℕ) (zs : List (ℕ × T)) → last_of o (zs ++ p ∷ y ∷ ys) ≡ last_of o (zs ++ y ∷ ys)
      past o [] = refl
      past o (z ∷ zs) = past (Some z.0) zs

  -- a list with one link less
  pub unlinked_list : (at new : Slots T) (e : Ends) (xs : List (ℕ × T)) (p : ℕ × T) (ys : List (ℕ × T)) (l : Link T) → IsList at e (xs ++ p ∷ ys)
      → at p.0 ≡ Some l → ((k : ℕ) → new k ≡ unlinked at l p.0 k) → IsList new (shorter e l) (xs ++ ys)
  unlinked_list at new e xs p ys l h here writes =
      let rest = back_of at None xs (p ∷ ys) None h.chain in
      let is : l ≡ record { item = p.1; before = last_of None xs; after = first_of ys None } = cc (here, rest.0) in
      let fore : l.before ≡ last_of None xs = ap (λ (m : Link T). m.before) is in
      let next : l.after ≡ first_of ys None = ap (λ (m : Link T). m.after) is in
      let one = with_after at (last_of None xs) (first_of ys None) in
      let two = with_before one (first_of ys None) (last_of None xs) in
      let three : Slots T = λ k. if nat_eq k p.0 then None else two k in
      let apart = all_without xs p ys h.apart in
      let fronts = all_front xs (p ∷ ys) h.apart in
      let backs = all_back xs (p ∷ ys) h.apart in
      let x_one = refollowed at None xs (Some p.0) (first_of ys None) fronts (front_of at None xs (p ∷ ys) None h.chain) in
      let x_two = agreed one two None xs (first_of ys None) (agree_off_before one (first_of ys None) (last_of None xs) xs (first_off xs ys apart)) x_one in
      let x_three = agreed two three None xs (first_of ys None) (agree_gone two p.0 xs (apart_first p xs ys h.apart)) x_two in
      let y_one = agreed at one (Some p.0) ys None (agree_off_after at (last_of None xs) (first_of ys None) ys (last_off None xs ys tt apart)) rest.1 in
      let y_two = repreceded one (Some p.0) ys None (last_of None xs) backs.1 y_one in
      let y_three = agreed two three (last_of None xs) ys None (agree_gone two p.0 ys backs.0) y_two in
      let same : (k : ℕ) → new k ≡ three k = λ k. writes k ∙ ap₂ (λ b a. if nat_eq k p.0 then None else with_before (with_after at b a) a b k) fore next in
      record {
        chain = agreed three new None (xs ++ ys) None (agree_all three new (xs ++ ys) same) (joined three None xs ys None x_three y_three);
        apart = apart;
        first = ap₂ (λ b a. end_after b e.first a) fore next ∙ ap (λ f. end_after (last_of None xs) f (first_of ys None)) h.first ∙ first_less xs p ys;
        last = ap₂ (λ b a. end_after a e.last b) fore next ∙ ap (λ f. end_after (first_of ys None) f (last_of None xs)) h.last ∙ last_less None xs p ys;
        length_is = omega (arith, h.length_is, length_more xs (p ∷ ys), length_more xs ys);
      }
    where
      agree_gone : (at : Slots T) (key : ℕ) (zs : List (ℕ × T)) → IsApart key zs → Agree at (λ k. if nat_eq k key then None else at k) zs
      agree_gone at key [] s = tt
      agree_gone at key (z ∷ zs) s = (if_false (nat_eq z.0 key) _ _ s.0, agree_gone at key zs s.1)

  -- a list with another item at a key
  pub put_list : (at new : Slots T) (e : Ends) (xs : List (ℕ × T)) (key : ℕ) (old item : T) (ys : List (ℕ × T)) (l : Link T) → IsList at e (xs ++ (key, old) ∷ ys)
      → at key ≡ Some l → ((k : ℕ) → new k ≡ placed at key (record l { item = item }) k) → IsList new e (xs ++ (key, item) ∷ ys)
  put_list at new e xs key old item ys l h here writes =
      let rest = back_of at None xs ((key, old) ∷ ys) None h.chain in
      let is : l ≡ record { item = old; before = last_of None xs; after = first_of ys None } = cc (here, rest.0) in
      let now = placed at key (record l { item = item }) in
      let front = agreed at now None xs (Some key) (agree_placed at key _ xs (apart_first (key, old) xs ys h.apart)) (front_of at None xs ((key, old) ∷ ys) None h.chain) in
      let backs = all_back xs ((key, old) ∷ ys) h.apart in
      let back = agreed at now (Some key) ys None (agree_placed at key _ ys backs.0) rest.1 in
      let mid : now key ≡ Some (record { item = item; before = last_of None xs; after = first_of ys None }) =
      if_true (nat_eq key key) _ _ (same_key key) ∙ ap (λ (m : Link T). Some (record m { item = item })) is in
      record {
        chain = agreed now new None (xs ++ (key, item) ∷ ys) None (agree_all now new _ writes) (joined now None xs ((key, item) ∷ ys) None front (mid, back));
        apart = all_put xs h.apart;
        first = h.first ∙ first_put xs;
        last = h.last ∙ last_put None xs;
        length_is = omega (arith, h.length_is, length_more xs ((key, old) ∷ ys), length_more xs ((key, item) ∷ ys));
      }
    where
      apart_put : (k : ℕ) (zs : List (ℕ × T)) → IsApart k (zs ++ (key, old) ∷ ys) → IsApart k (zs ++ (key, item) ∷ ys)
      apart_put k [] s = s
      apart_put k (z ∷ zs) s = (s.0, apart_put k zs s.1)

      all_put : (zs : List (ℕ × T)) → AreApart (zs ++ (key, old) ∷ ys) → AreApart (zs ++ (key, item) ∷ ys)
      all_put [] s = s
      all_put (z ∷ zs) s = (apart_put z.0 zs s.0, all_put zs s.1)

      first_put : (zs : List (ℕ × T)) → first_of (zs ++ (key, old) ∷ ys) None ≡ first_of (zs ++ (key, item) ∷ ys) None
      first_put [] = refl
      first_put (z ∷ zs) = refl

      last_put : (b : Option ℕ) (zs : List (ℕ × T)) → last_of b (zs ++ (key, old) ∷ ys) ≡ last_of b (zs ++ (key, item) ∷ ys)
      last_put b [] = refl
      last_put b (z ∷ zs) = last_put (Some z.0) zs

  -- what is read along more links than there are
  pub walked_far : (at : Slots T) (b : Option ℕ) (ps : List (ℕ × T)) (n : ℕ) → length ps ≤ n → IsChain at b ps None → walk at n (first_of ps None) ≡ items ps
  walked_far at b [] zero l h = refl
  walked_far at b [] (suc n) l h = refl
  walked_far at b (p ∷ ps) zero l h = absurd (omega arith)
  walked_far at b (p ∷ ps) (suc n) l h = rw h.0 (ap (λ r. p.1 ∷ r) (walked_far at (Some p.0) ps n (omega arith) h.1))

  -- one link read
  pub walk_step : (at : Slots T) (most read key : ℕ) (l : Link T) → read < most → at key ≡ Some l → walk at (most - read) (Some key) ≡ l.item ∷ walk at (most - (read + 1)) l.after
  walk_step at most read key l more here =
      let one : most - read ≡ suc (most - (read + 1)) = omega arith in
      ap (λ n. walk at n (Some key)) one ∙ ap (λ o. walk_on o (λ next. walk at (most - (read + 1)) next)) here

  pub walk_end : (at : Slots T) (most : ℕ) → walk at most None ≡ []
  walk_end at zero = refl
  walk_end at (suc n) = refl

  pub walk_gone : (at : Slots T) (most key : ℕ) → at key ≡ None → walk at most (Some key) ≡ []
  walk_gone at zero key e = refl
  walk_gone at (suc n) key e = ap (λ o. walk_on o (λ next. walk at n next)) e

  -- keys of other lists
  first_but : (x : ℕ × T) (ys : List (ℕ × T)) → IsApart x.0 ys → IsOff (first_of ys None) (x ∷ [])
  first_but x [] s = tt
  first_but x (y ∷ ys) s = (turned _ _ s.0, tt)

  pub pushed_elsewhere : (at : Slots T) (ps : List (ℕ × T)) (key : ℕ) (item : T) (k : ℕ) → nat_eq k key ≡ false → IsApart k ps
      → pushed at (last_of None ps) key item k ≡ at k
  pushed_elsewhere at ps key item k other s =
      (agree_off_after (placed at key _) (last_of None ps) (Some key) ((k, item) ∷ []) (last_but (k, item) ps None tt s)).0 ∙ if_false (nat_eq k key) _ _ other

  pub unlinked_elsewhere : (at : Slots T) (xs : List (ℕ × T)) (p : ℕ × T) (ys : List (ℕ × T)) (l : Link T) (k : ℕ) → IsChain at None (xs ++ p ∷ ys) None
      → at p.0 ≡ Some l → IsApart k (xs ++ p ∷ ys) → unlinked at l p.0 k ≡ at k
  unlinked_elsewhere at xs p ys l k h here s =
      let rest = back_of at None xs (p ∷ ys) None h in
      let is : l ≡ record { item = p.1; before = last_of None xs; after = first_of ys None } = cc (here, rest.0) in
      let back = apart_back k xs (p ∷ ys) s in
      let off = last_but (k, p.1) xs None tt (apart_front k xs (p ∷ ys) s) in
      let off_first = first_but (k, p.1) ys back.1 in
      let one = with_after at (last_of None xs) (first_of ys None) in
      let step : with_before one (first_of ys None) (last_of None xs) k ≡ one k = (agree_off_before one (first_of ys None) (last_of None xs) ((k, p.1) ∷ []) off_first).0 in
      let start : one k ≡ at k = (agree_off_after at (last_of None xs) (first_of ys None) ((k, p.1) ∷ []) off).0 in
      ap (λ (m : Link T). unlinked at m p.0 k) is ∙ if_false (nat_eq k p.0) _ _ (turned _ _ back.0) ∙ step ∙ start
