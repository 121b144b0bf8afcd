-- Chunks one after another, and the numbers of what they add.
use Rattle.std.proofs.Common.{◌≡◌, ℕ, suc, ◌+◌, Bool, true, false, ◌||◌, List, ◌∷◌, ◌++◌, length, refl, ap, ap₂, sym, ◌∙◌, append_assoc, length-append}
use Rattle.std.proofs.lemmas.List.{append-nil}
use Rattle.std.specs.declared.option.Option.{Option}
use Rattle.flow_class.specs.Classes.{InstrTree, LastTree, BlockTree, CallbackTree}
use Rattle.flow_split.specs.Around.{Hand, Around}
use Rattle.flow_split.specs.Lowered.{Chunk, block_with, blocks_of, joined, ends}
use Rattle.flow_split.specs.Emitting.{Emitted, with_chunk, onto, Fresh, At, coming, closed, put, acted}

or_false : (b : Bool) → b || false ≡ b
or_false true = refl
or_false false = refl

-- a chunk in a block where nothing stands
pub onto_fresh : (f : Emitted) (c : Chunk) → Fresh f → onto f c ≡ c
onto_fresh f c h i = record c { body = (ap (λ b. b ++ c.body) h.body) i; acts = (ap (λ a. c.acts || a) h.acts ∙ or_false c.acts) i }

-- one chunk and then another
pub join : (h g : Option Hand) (e f : Emitted) (c d : Chunk) → At h e c f → with_chunk g f d ≡ with_chunk h e (joined g c d)
join h g e f c d a i = record {
  blocks = (ap₂ (λ x y. x ++ blocks_of g y) (ap (λ m. m.blocks) a.all) (onto_fresh f d a.fresh) ∙ append_assoc e.blocks (blocks_of h (onto e c)) (blocks_of g d)) i;
  groups = (ap (λ m. m.groups ++ d.groups) a.all ∙ append_assoc e.groups c.groups d.groups) i;
}

-- and so on
pub and_then : (h g : Option Hand) (e f x : Emitted) (c d : Chunk) → At h e c f → At g f d x → At h e (joined g c d) x
and_then h g e f x c d a b = record { all = b.all ∙ join h g e f c d a; fresh = b.fresh }

-- the numbers behind a chunk
length-more : (x : BlockTree) (xs : List BlockTree) (bs : List BlockTree) (n : ℕ) → length xs ≡ n → length (bs ++ x ∷ xs) ≡ length bs + suc n
length-more x xs bs n e = length-append bs (x ∷ xs) ∙ ap (λ k. length bs + suc k) e

pub coming_at : (h : Option Hand) (e f : Emitted) (c : Chunk) (n m : ℕ) → length c.more ≡ n → length c.groups ≡ m → At h e c f
    → coming f ≡ record { block = length e.blocks + suc n; local = f.next; group = suc (length e.groups + m) }
coming_at h e f c n m p q a i = record {
  block = (ap (λ x. length x.blocks) a.all ∙ length-more (block_with h (onto e c)) c.more e.blocks n p) i;
  local = f.next;
  group = (ap (λ x. suc (length x.groups)) a.all ∙ ap suc (length-append e.groups c.groups) ∙ ap (λ k. suc (length e.groups + k)) q) i;
}

-- what two chunks add
pub join_more : (xs ys : List BlockTree) (b : BlockTree) (n m : ℕ) → length xs ≡ n → length ys ≡ m → length (xs ++ b ∷ ys) ≡ n + suc m
join_more xs ys b n m p q = length-append xs (b ∷ ys) ∙ ap₂ (λ x y. x + suc y) p q

pub join_groups : (gs hs : List (List CallbackTree)) (n m : ℕ) → length gs ≡ n → length hs ≡ m → length (gs ++ hs) ≡ n + m
join_groups gs hs n m p q = length-append gs hs ∙ ap₂ (λ x y. x + y) p q

-- a block that ends, after these instructions
pub closed_at : (w : Around) (last : LastTree) (e : Emitted) (is : List InstrTree) → At w.hand e (ends w e.scopes false is last) (closed w last (put is e))
closed_at w last e is = record {
  all = ap (λ g. record { blocks = (closed w last (put is e)).blocks; groups = g }) (sym (append-nil e.groups));
  fresh = record { body = refl; acts = refl };
}

-- and one that ends with a statement
pub acted_at : (w : Around) (last : LastTree) (e : Emitted) (is : List InstrTree) → At w.hand e (ends w e.scopes true is last) (closed w last (acted is e))
acted_at w last e is = record {
  all = ap (λ g. record { blocks = (closed w last (acted is e)).blocks; groups = g }) (sym (append-nil e.groups));
  fresh = record { body = refl; acts = refl };
}
