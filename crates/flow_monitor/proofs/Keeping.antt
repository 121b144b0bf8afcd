-- What a line leaves of a panel, one monitor after another.
use Rattle.std.proofs.Common.{◌≡◌, ◌≢◌, ◌<◌, ◌≤◌, ◌+◌, ℕ, List, [], Bool, Option, Some, map, set, length, get_or, get_or-set_same, get_or-set_other, arith, below_more, add-one, ap, ap₂, sym, ◌∙◌}
use Rattle.std.proofs.lemmas.List.{map-set, get_or-map, length-map, same_lists, get_or_default, length-set}
use Rattle.flow_trace.specs.declared.line.Line.{Line}
use Rattle.flow_monitor.specs.declared.monitor.Heard.{Heard}
use Rattle.flow_monitor.specs.Ears.{Ear, Listener, nobody, ear_after, kept_if, ear_hears, is_stop, says_stop, listener_after, after, or_here, first_below}

pub kept_after : (said : Heard) (now next : Ear) (line : Line)
    → said ≡ now [] line → next ≡ ear_after line now → kept_if said next ≡ ear_hears line (Some now)
kept_after said now next line e n = ap₂ kept_if e n

pub stops_by : (said : Heard) (now : Ear) (line : Line) → said ≡ now [] line → is_stop said ≡ says_stop line (Some now)
stops_by said now line e = ap is_stop e

-- the monitor of a number, where that of another or its own was written
module _ {X : Type 0} (f : X → Listener) where
  at : List X → ℕ → Listener
  at xs k = get_or (map f xs) k nobody

  at_moved : (xs : List X) (k : ℕ) (y : X) → k < length xs → get_or (map f (set xs k y)) k nobody ≡ f y
  at_moved xs k y lt =
      let lt' : k < length (map f xs) = omega (arith, length-map xs f) in
      ap (λ l. get_or l k nobody) (map-set f xs k y) ∙ get_or-set_same (map f xs) k (f y) nobody lt'

  at_kept : (xs : List X) (k j : ℕ) (y : X) → j ≢ k → get_or (map f (set xs k y)) j nobody ≡ get_or (map f xs) j nobody
  at_kept xs k j y ne = ap (λ l. get_or l j nobody) (map-set f xs k y) ∙ get_or-set_other (map f xs) k j (f y) nobody ne

  -- so far the loop has told the first k of them
  pub record Told (line : Line) (old now : List X) (k : ℕ) (first : Option ℕ) : Type 0 where
    pub many : length now ≡ length old
    pub done : (j : ℕ) → j < k → get_or (map f now) j nobody ≡ listener_after line (get_or (map f old) j nobody)
    pub rest : (j : ℕ) → k ≤ j → get_or (map f now) j nobody ≡ get_or (map f old) j nobody
    pub first_is : first ≡ first_below line (map f old) k

  pub one_told : (line : Line) (old xs : List X) (k : ℕ) (d y : X) (first next : Option ℕ) (here : Bool) → k < length xs → Told line old xs k first
      → f y ≡ listener_after line (f (get_or xs k d)) → here ≡ says_stop line (f (get_or xs k d)).ear → next ≡ or_here first here k
      → Told line old (set xs k y) (k + 1) next
  one_told line old xs k d y first next here lt told moved said joined =
      let was : f (get_or xs k d) ≡ get_or (map f old) k nobody = sym (get_or-map f xs k d nobody lt) ∙ told.rest k (omega arith) in
      record {
        many = length-set xs k y ∙ told.many;
        done = below_more _ _ (λ j low. let ne : j ≢ k = omega arith in at_kept xs k j y ne ∙ told.done j low)
            (at_moved xs k y lt ∙ moved ∙ ap (listener_after line) was);
        rest = λ j high. let ne : j ≢ k = omega arith in let ge : k ≤ j = omega arith in at_kept xs k j y ne ∙ told.rest j ge;
        first_is = joined ∙ ap₂ (λ o b. or_here o b k) told.first_is (said ∙ ap (λ l. says_stop line l.ear) was)
            ∙ ap (first_below line (map f old)) (sym (add-one k));
      }

  -- all of them
  pub all_told : (line : Line) (old now : List X) (k : ℕ) (first : Option ℕ) → length now ≤ k → Told line old now k first → map f now ≡ after line (map f old)
  all_told line old now k first all told =
      let many : length (map f now) ≡ length (after line (map f old)) =
      length-map now f ∙ told.many ∙ sym (length-map old f) ∙ sym (length-map (map f old) (listener_after line))
      in
      same_lists (map f now) (after line (map f old)) many (λ j d lt.
      let low : j < k = omega (arith, length-map now f) in
      let low' : j < length (map f old) = omega (arith, length-map now f, length-map old f, told.many) in
      get_or_default (map f now) j d nobody lt ∙ told.done j low ∙ sym (get_or-map (listener_after line) (map f old) j nobody d low'))
