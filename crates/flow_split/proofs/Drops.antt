-- The drops of several scopes, one after another.
use Rattle.std.proofs.Common.{◌≡◌, ℕ, List, [], ◌∷◌, map, ap, sym, ◌∙◌, append_assoc}
use Rattle.std.proofs.lemmas.List.{append-nil}
use Rattle.std.specs.declared.alloc.Global.{Global}
use Rattle.std.specs.declared.vec.Vec.{Vec}
use Rattle.flow_class.specs.Classes.{DropInstr}
use Rattle.flow_catch.specs.Inner.{lists_of}
use Rattle.flow_split.specs.Emitting.{Emitted, put}

pub drops_next : (e f : Emitted) (n : Vec ℕ Global) (vs : List (Vec ℕ Global)) (whole : Emitted) → f ≡ put (DropInstr n.items ∷ []) e → put (map DropInstr (lists_of (n ∷ vs))) e ≡ whole
    → put (map DropInstr (lists_of vs)) f ≡ whole
drops_next e f n vs whole h w = ap (put (map DropInstr (lists_of vs))) h ∙ (λ i. record e { body = append_assoc e.body (DropInstr n.items ∷ []) (map DropInstr (lists_of vs)) i }) ∙ w

pub drops_end : (e whole : Emitted) → put (map DropInstr (lists_of [])) e ≡ whole → e ≡ whole
drops_end e whole h = (λ i. record e { body = sym (append-nil e.body) i }) ∙ h
