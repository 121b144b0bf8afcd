-- The class of an actor that the front accepts reads only what is filled.
use Rattle.std.proofs.Common.{◌≡◌, ◌⊎◌, inl, inr, ℕ, zero, suc, ◌+◌, ◌^◌, ◌<◌, ◌≤◌, Bool, true, false, nat_lt, nat_eq, List, [], ◌∷◌, ◌++◌, length, map, reverse, slice_get, refl, ap, sym, subst, ◌∙◌, arith, length-append, append_assoc, if◌then◌else◌}
use Rattle.std.proofs.lemmas.Bool.{false≢true}
use Rattle.std.specs.Str.{bytes_eq}
use Rattle.std.proofs.lemmas.List.{reverse-append}
use Rattle.std.specs.declared.option.Option.TheVariants.{None, Some}
use Rattle.flow_base.specs.declared.place.Place.{Place}
use Rattle.flow_tree.specs.declared.decl.Program.{Program}
use Rattle.flow_tree.specs.Decls.{ParamTree, SlotTree, RoutineTree, DeclTree, StructDecl, FunctionDecl, ActorDecl, ProgramTree}
use Rattle.flow_tree.specs.DeclView.{program_of}
use Rattle.flow_ast.specs.Slots.{param_slot, body_slots}
use Rattle.flow_class.specs.declared.class.Slotted.{Slotted}
use Rattle.flow_class.specs.declared.class.Slotted.TheVariants as place
use Rattle.flow_class.specs.Classes.{BlockTree, CallbackTree, ClassTree}
use Rattle.flow_rules.specs.Known.{field_row}
use Rattle.flow_rules.specs.Judged.{Setting}
use Rattle.flow_rules.specs.Items.{written}
use Rattle.flow_rules.specs.Rules.{setting_of, name_fault, params_fault, body_env}
use Rattle.flow_rules.proofs.Lesser.{no_second}
use Rattle.flow_staterule.specs.declared.scope.Point.{Point}
use Rattle.flow_staterule.specs.Uses.{Variable, mention, use_of, parameter, begins}
use Rattle.flow_staterule.specs.Ways.{ways}
use Rattle.flow_staterule.specs.StateRule.{wait_places}
use Rattle.flow_meaning.specs.Evaluating.{Names}
use Rattle.flow_meaning.specs.Source.{names_of}
use Rattle.flow_split.specs.Around.{whole}
use Rattle.flow_split.specs.Counts.{Next, blocks_in, groups_in}
use Rattle.flow_split.specs.Lowered.{lowered, close_of}
use Rattle.flow_lower.specs.Compiled.{class_in, compiled}
use Rattle.flow_front.specs.Verdict.{IsSound}
use Rattle.flow_valid.specs.Filling.{among, is_parameter, ReadsFilled}
use Rattle.flow_valid.specs.Validity.{IsValid}
use Rattle.flow_typing_laws.proofs.ControlFlow.SimpleParts.{program_parts}
use Rattle.flow_typing_laws.specs.Typing.Paths.{HasPaths, AllHavePaths}
use Rattle.flow_typing_laws.proofs.Typing.PathsDerived.{program_paths}
use Rattle.flow_typing_laws.proofs.Typing.Names.{none_some}
use Rattle.flow_lowering_laws.proofs.Programs.Whole.{EachActor}
use Rattle.flow_validity_laws.proofs.InForce.{sees_params, param_at}
use Rattle.flow_validity_laws.proofs.Numbered.{seam, one_more, all_types}
use Rattle.flow_validity_laws.proofs.Declaring.{Accepted, is_accepted}
use Rattle.flow_validity_laws.proofs.Effects.{effects_agree}
use Rattle.flow_validity_laws.proofs.Tested.{IsWell, actors_well, class_of, keeps_rules}
use Rattle.flow_validity_laws.proofs.Walks.{Kept, reads_filled}
use Rattle.flow_validity_laws.proofs.Lines.{Has, Holds, filled, filled_holds, Lined}
use Rattle.flow_validity_laws.proofs.Entries.{Entry, Entries, EntriesAt, EntryKept, AllKept, Located, later_live, later_entry}
use Rattle.flow_validity_laws.proofs.Surroundings.{Aims}
use Rattle.flow_validity_laws.proofs.Grounds.{no_aim, lies_nowhere}
use Rattle.flow_validity_laws.proofs.Alive.{Outer}
use Rattle.flow_validity_laws.proofs.Living.{all_live}
use Rattle.flow_validity_laws.proofs.Unlost.{waits_in, IsUnlost, actors_unlost}

-- entries by their numbers
abbrev at_number : List Entry → ℕ → Entry
at_number [] n = None
at_number (o ∷ os) zero = o
at_number (o ∷ os) (suc n) = at_number os n

entry_seam : (pre os : List Entry) (o : Entry) → at_number (pre ++ o ∷ os) (length pre) ≡ o
entry_seam [] os o = refl
entry_seam (x ∷ pre) os o = entry_seam pre os o

-- slots alone, newest first
abbrev slots_down : ℕ → List Slotted
slots_down zero = []
slots_down (suc n) = place.Slot n ∷ slots_down n

down_size : (n : ℕ) → length (slots_down n) ≡ n
down_size zero = refl
down_size (suc n) = ap suc (down_size n)

down_has : (n j : ℕ) → j < n → Has (slots_down n) j (place.Slot j)
down_has zero j lt = absurd (omega (arith, lt))
down_has (suc n) j lt = by_last (nat_eq j n) refl (down_has n j)
  where
    by_last : (b : Bool) → nat_eq j n ≡ b → (j < n → Has (slots_down n) j (place.Slot j)) → ((j ≡ length (slots_down n)) × (place.Slot n ≡ place.Slot j)) ⊎ Has (slots_down n) j (place.Slot j)
    by_last true e f = let same = equal j n e in inl (same ∙ sym (down_size n), ap place.Slot (sym same))
      where
        equal : (m n : ℕ) → nat_eq m n ≡ true → m ≡ n
        equal m n e = grind (arith, e)
    by_last false e f = inr (f (less j n lt e))
      where
        less : (j n : ℕ) → j < suc n → nat_eq j n ≡ false → j < n
        less j n lt e = grind (arith, lt, e)

-- the slots are those of parameters
record IsSlot (n : ℕ) (q : Slotted) : Type 0 where
  at : ℕ
  low : at < n
  is : place.Slot at ≡ q

down_is : (n j : ℕ) (q : Slotted) → Has (slots_down n) j q → IsSlot n q
down_is zero j q h = absurd h
down_is (suc n) j q (inl h) = record { at = n; low = omega arith; is = h.1 }
down_is (suc n) j q (inr h) = let r = down_is n j q h in let l = r.low in record { at = r.at; low = omega (arith, l); is = r.is }

no_local_slot : (n k : ℕ) → IsSlot n (place.Local k) → ⊥
no_local_slot n k r = no_slot r.at r.is
  where
    no_slot : (m : ℕ) → place.Slot m ≡ place.Local k → ⊥
    no_slot m e = cc

-- no use of a parameter is looked at
abbrev AllState : List Variable → Type 0
AllState [] = Unit {0}
AllState (v ∷ vs) = (v.local ≡ None) × AllState vs

state_both : (vs ws : List Variable) → AllState vs → AllState ws → AllState (vs ++ ws)
state_both [] ws h k = k
state_both (v ∷ vs) ws h k = (h.0, state_both vs ws h.1 k)

params_state : (ps : List ParamTree) → AllState (reverse (map parameter ps))
params_state [] = tt
params_state (p ∷ ps) = subst AllState (sym (reverse-append (parameter p ∷ []) (map parameter ps))) (state_both (reverse (map parameter ps)) (parameter p ∷ []) (params_state ps) (refl, tt))

no_use : (vs : List Variable) → AllState vs → (p : Point) (at : Place) (x : List ℕ) → mention vs p at x ≡ []
no_use [] h p at x = refl
no_use (v ∷ vs) h p at x = by_name (bytes_eq v.name x) (no_use vs h.1 p at x)
  where
    by_name : (b : Bool) → mention vs p at x ≡ [] → (if b then use_of at p v.local (length vs) else mention vs p at x) ≡ []
    by_name true k = ap (λ o. use_of at p o (length vs)) h.0
    by_name false k = k

params_size : (ps : List ParamTree) → length (reverse (map parameter ps)) ≡ length ps
params_size [] = refl
params_size (p ∷ ps) =
    let e = ap length (reverse-append (parameter p ∷ []) (map parameter ps)) in
    let k = length-append (reverse (map parameter ps)) (parameter p ∷ []) in
    let r = params_size ps in
    omega (arith, e, k, r)

module _ (c : ClassTree) where
  entries_at : (pre os : List Entry) → EntriesAt c (at_number (pre ++ os)) (length pre) os
  entries_at pre [] = tt
  entries_at pre (o ∷ os) = (
    entry_seam pre os o,
    subst (λ n. EntriesAt c (at_number (pre ++ o ∷ os)) n os) (one_more pre o)
        (subst (λ xs. EntriesAt c (at_number xs) (length (pre ++ o ∷ [])) os) (append_assoc pre (o ∷ []) os) (entries_at (pre ++ o ∷ []) os)),
  )

  located_from : (pre gs : List (List CallbackTree)) → c.groups ≡ pre ++ gs → Located c (suc (length pre)) gs
  located_from pre [] e = tt
  located_from pre (g ∷ gs) e = (
    ap (λ xs. slice_get xs (length pre)) e ∙ seam pre gs g,
    subst (λ n. Located c (suc n) gs) (one_more pre g) (located_from (pre ++ g ∷ []) gs (e ∙ sym (append_assoc pre (g ∷ []) gs))),
  )

  record KeptAt (e : Entries c) (bs : List BlockTree) (b : ℕ) (ps : List Slotted) : Type 0 where
    block : BlockTree
    is : slice_get bs b ≡ Some block
    kept : Kept c e block.catcher (among ps) block.body block.last

  kept_at : (e : Entries c) (os : List Entry) (bs : List BlockTree) → AllKept c e os bs → (b : ℕ) (ps : List Slotted) → at_number os b ≡ Some ps → KeptAt e bs b ps
  kept_at e [] [] h b ps k = absurd (none_some k)
  kept_at e [] (x ∷ bs) h b ps k = absurd h
  kept_at e (o ∷ os) [] h b ps k = absurd h
  kept_at e (o ∷ os) (x ∷ bs) h zero ps k = record { block = x; is = refl; kept = subst (λ z. EntryKept c e z x) k h.0 }
  kept_at e (o ∷ os) (x ∷ bs) h (suc b) ps k = let r = kept_at e os bs h.1 b ps k in record { block = r.block; is = r.is; kept = r.kept }

-- what is known where an actor begins
module _ (base : Setting) (ns : Names) (c : ClassTree) (few_slots : length c.slots < 2 ^ 64) (few_locals : length c.locals < 2 ^ 64) where
  begun_line : (ps : List ParamTree) (ss : List SlotTree) → c.slots ≡ map param_slot ps ++ ss → Lined base c (reverse (map parameter ps)) (slots_down (length ps)) (map field_row ps) [] 0
  begun_line ps ss same = record {
    size = params_size ps ∙ sym (down_size (length ps));
    finds = λ x t e.
        let f = param_at base ns c few_slots few_locals ps ss same x t e in
        record {
          to = place.Slot f.at;
          number = f.at;
          local = None;
          place = f.is;
          read = f.read;
          has = down_has (length ps) f.at f.low;
          kind = refl;
          uses = λ p at. no_use (reverse (map parameter ps)) (params_state ps) p at x;
        };
    below = λ j k h. absurd (no_local_slot (length ps) k (down_is (length ps) j (place.Local k) h));
  }

parameter_in : (c : ClassTree) (p : Slotted) (n : ℕ) → c.params ≡ n → (q : Slotted) → Holds (slots_down n) 0 q → is_parameter c p q ≡ true
parameter_in c p n e q h =
    let r = down_is n h.0 q h.1 in
    subst (λ z. is_parameter c p z ≡ true) r.is (ap (nat_lt r.at) e ∙ less r.at n r.low)
  where
    less : (m n : ℕ) → m < n → nat_lt m n ≡ true
    less m n lt = grind (arith, lt)

abbrev start : Next
start = record { block = 1; local = 0; group = 1 }

class_filled : (p : ProgramTree) → Accepted p → (a : RoutineTree) → IsWell (setting_of p.decls false) a → HasPaths a.body → IsUnlost a → ReadsFilled (class_in (names_of p) a)
class_filled p h a k paths unlost =
    let ns = names_of p in
    let c = class_in ns a in
    let base = setting_of p.decls false in
    let w = whole (close_of a) in
    let rows = map field_row a.params in
    let vs = reverse (map parameter a.params) in
    let gs = slots_down (length a.params) in
    let ch = lowered ns c.slots [] w start a.body in
    let agree = effects_agree p h in
    let params = no_second (written base a.returns) (params_fault base (λ x. false) a.params) (no_second (name_fault k.judged.before a.name.name) _ k.judged.header) in
    let sees = sees_params base ns c k.small.slots k.small.locals base a.params (body_slots a.body) refl params in
    let many = length (wait_places a.body) in
    let aims : Aims = record { end = no_aim; out = no_aim; again = no_aim; hand = no_aim } in
    let nowhere = λ (ds : List ℕ). lies_nowhere gs ds 0 in
    let outer = Outer base ns c k.small.slots k.small.locals agree false w aims begins (ways many a.body) in
    let line = begun_line base ns c k.small.slots k.small.locals a.params (body_slots a.body) refl in
    let live = all_live base ns c k.small.slots k.small.locals agree a.body false false (body_env base a) rows vs gs [] w start begins aims None many
    (record {
      stands = record { setting = refl; returns = refl; sees = sees; caught = record { known = λ t. absurd (false≢true t) } };
      above = tt;
      room = all_types ns c [] c.locals refl;
      parts = k.parts;
      paths = paths;
      placed = k.placed;
      judged = k.judged.body;
    })
    (record { line = line; start = refl; end = nowhere []; out = nowhere []; again = nowhere []; hand = nowhere []; scoped = tt; looped = λ t. tt })
    (record { known = λ t. absurd (false≢true t) }) unlost.fresh (most (waits_in a.body)) in
    let last = 1 + blocks_in false a.body in
    let groups = 1 + groups_in a.body in
    let later = later_live c None no_aim gs 0 outer 0 last 1 groups ch live in
    let first = later_entry c None no_aim gs 0 outer 0 last 1 groups ch live in
    let os = later.entry ∷ later.entries in
    let e = at_number os in
    let all = later.kept e refl (entries_at c (later.entry ∷ []) later.entries) (tt, record { out = λ t. absurd (false≢true t); again = λ t. absurd (false≢true t); hand = tt })
    (located_from c [] c.groups refl) in
    reads_filled c e (λ b ps is. let r = kept_at c e os c.blocks all b ps is in record { block = r.block; is = r.is; kept = r.kept })
    (λ q. (filled gs 0, first, λ z m. parameter_in c q (length a.params) refl z (filled_holds gs 0 z m)))
  where
    most : {m n : ℕ} → m ≡ n → n ≤ m
    most e = omega (arith, e)

-- all of this of each actor
record IsGood (s : Setting) (a : RoutineTree) : Type 0 where
  well : IsWell s a
  paths : HasPaths a.body
  unlost : IsUnlost a

all_good : (s : Setting) (ds : List DeclTree) → EachActor (IsWell s) ds → AllHavePaths ds → EachActor IsUnlost ds → EachActor (IsGood s) ds
all_good s [] w p u = tt
all_good s (StructDecl r ∷ ds) w p u = all_good s ds w p.1 u
all_good s (FunctionDecl f ∷ ds) w p u = all_good s ds w p.1 u
all_good s (ActorDecl a ∷ ds) w p u = (record { well = w.0; paths = p.0; unlost = u.0 }, all_good s ds w.1 p.1 u.1)

classes_filled : (text : List ℕ) (p : Program) → IsSound text p → (i : ℕ) (c : ClassTree) → slice_get (compiled (program_of p)).classes i ≡ Some c → ReadsFilled c
classes_filled text p h i c e =
    let t = program_of p in
    let s = setting_of t.decls false in
    let read = h.typed.read in
    let parts = program_parts read.tokens t read.parsed.1 in
    let paths = program_paths read.tokens t read.parsed.1 in
    let good = all_good s t.decls (actors_well text p h.typed) paths (actors_unlost t.decls parts h.kept) in
    let k = class_of (IsGood s) (names_of t) t.decls i c good e in
    subst ReadsFilled k.is (class_filled t (is_accepted t h.typed.accepted) k.actor k.holds.well k.holds.paths k.holds.unlost)

pub all_valid : (text : List ℕ) (p : Program) → IsSound text p → IsValid (compiled (program_of p))
all_valid text p h =
    let k = keeps_rules text p h.typed in
    record {
      declarations = k.declarations;
      heads = k.heads;
      main = k.main;
      classes = λ i c e. record { tested = k.classes i c e; filled = classes_filled text p h i c e };
    }
