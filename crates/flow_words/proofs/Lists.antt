-- The list of the monitors that are wanted.
use Rattle.std.proofs.Common.{◌≡◌, ℕ, ◌+◌, ◌-◌, List, [], ◌∷◌, ◌++◌, length, take, drop, append_assoc, sym, ap, ◌∙◌, refl, Option, Some, None}
use Rattle.std.specs.Prelude.{option_map, ◌==◌}
use Rattle.std.specs.List.{slice_split, position}
use Rattle.std.proofs.lemmas.List.{take_rest}
use Rattle.flow_monitor.specs.declared.attach.Want.{Want}
use Rattle.flow_words.specs.Wants.{cut_at, want_of, joined, each_want, wants_of}

-- the parts at a place, and none
pub cut_here : (text : List ℕ) (byte place : ℕ) → position (λ b. b == byte) text ≡ Some place
    → Some (take place text, take (length text - (place + 1)) (drop (place + 1) text)) ≡ cut_at byte text
cut_here text byte place is =
    ap (λ rest. Some (take place text, rest)) (take_rest text (place + 1))
    ∙ sym (ap (option_map (λ (p : ℕ). (take p text, drop (p + 1) text))) is)

pub cut_nowhere : (text : List ℕ) (byte : ℕ) → position (λ b. b == byte) text ≡ None → None ≡ cut_at byte text
cut_nowhere text byte is = sym (ap (option_map (λ (p : ℕ). (take p text, drop (p + 1) text))) is)

-- those that are wanted first, and more
abbrev pub behind : List Want → Option (List Want) → Option (List Want)
behind front None = None
behind front (Some more) = Some (front ++ more)

pub nothing_before : (wants : Option (List Want)) → wants ≡ behind [] wants
nothing_before None = refl
nothing_before (Some more) = refl

one_more : (front : List Want) (w : Want) (more : Option (List Want)) → behind front (joined (Some w) more) ≡ behind (front ++ w ∷ []) more
one_more front w None = refl
one_more front w (Some more) = ap Some (sym (append_assoc front (w ∷ []) more))

-- an item more was read
pub item_read : (all : Option (List Want)) (front after : List Want) (rest item more : List ℕ) (w : Want) → all ≡ behind front (wants_of rest)
    → slice_split (λ b. b == 44) rest ≡ item ∷ slice_split (λ b. b == 44) more → want_of item ≡ Some w → after ≡ front ++ w ∷ [] → all ≡ behind after (wants_of more)
item_read all front after rest item more w so_far parts is added =
    so_far ∙ ap (λ items. behind front (each_want items)) parts ∙ ap (λ o. behind front (joined o (wants_of more))) is ∙ one_more front w (wants_of more)
    ∙ ap (λ f. behind f (wants_of more)) (sym added)

pub item_wrong : (all : Option (List Want)) (front : List Want) (rest item more : List ℕ) → all ≡ behind front (wants_of rest)
    → slice_split (λ b. b == 44) rest ≡ item ∷ slice_split (λ b. b == 44) more → want_of item ≡ None → all ≡ None
item_wrong all front rest item more so_far parts is =
    so_far ∙ ap (λ items. behind front (each_want items)) parts ∙ ap (λ o. behind front (joined o (wants_of more))) is

-- so was the last one
pub last_read : (all : Option (List Want)) (front after : List Want) (rest : List ℕ) (w : Want) → all ≡ behind front (wants_of rest)
    → slice_split (λ b. b == 44) rest ≡ rest ∷ [] → want_of rest ≡ Some w → after ≡ front ++ w ∷ [] → all ≡ Some after
last_read all front after rest w so_far parts is added =
    so_far ∙ ap (λ items. behind front (each_want items)) parts ∙ ap (λ o. behind front (joined o (Some []))) is ∙ ap Some (sym added)

pub last_wrong : (all : Option (List Want)) (front : List Want) (rest : List ℕ) → all ≡ behind front (wants_of rest)
    → slice_split (λ b. b == 44) rest ≡ rest ∷ [] → want_of rest ≡ None → all ≡ None
last_wrong all front rest so_far parts is =
    so_far ∙ ap (λ items. behind front (each_want items)) parts ∙ ap (λ o. behind front (joined o (Some []))) is
