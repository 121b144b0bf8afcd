-- What is known of the bytes of a file, as its writes come and go.
use Rattle.std.proofs.Common.{◌≡◌, ℕ, ◌≤◌, List, [], ◌∷◌, ◌++◌, length, sym, ap, subst, ◌∙◌, arith}
use Rattle.std.specs.List.{All}
use Rattle.std.proofs.lemmas.List.Elements.{All-append, All-cons}
use Rattle.std.proofs.lemmas.List.Sums.{fold-append}
use Rattle.flow_simdisk.specs.declared.write.Write.{Write}
use Rattle.flow_simdisk.specs.declared.TheConstants.{FILE_BYTES}
use Rattle.flow_simdisk.specs.Disk.{written, applied}
use Rattle.flow_simdisk.specs.Stored.{FitsFile, IsWhole}
use Rattle.flow_simdisk.proofs.Overlays.{written_fits}

all_none : All FitsFile []
all_none k d lt = absurd (omega (arith, lt))

-- without writes a program sees the durable bytes
pub whole_alone : (xs : List ℕ) (us : List Write) (seen : List ℕ) → us ≡ [] → seen ≡ xs → length seen ≤ FILE_BYTES → IsWhole xs us seen
whole_alone xs us seen none same fits = subst (λ vs. IsWhole xs vs seen) (sym none) (record {
  seen_is = same;
  durable_fits = subst (λ bs. length bs ≤ FILE_BYTES) same fits;
  seen_fits = fits;
  writes_fit = all_none;
})

-- one more write
pub whole_with : (xs : List ℕ) (ws us : List Write) (seen after : List ℕ) (w : Write) → IsWhole xs ws seen → FitsFile w
    → us ≡ ws ++ w ∷ [] → after ≡ written seen w.offset w.text → IsWhole xs us after
whole_with xs ws us seen after w whole fit joins is = subst (λ vs. IsWhole xs vs after) (sym joins) (record {
  seen_is = is ∙ ap (λ bs. applied bs w) whole.seen_is ∙ sym (fold-append applied xs ws (w ∷ []));
  durable_fits = whole.durable_fits;
  seen_fits = subst (λ bs. length bs ≤ FILE_BYTES) (sym is) (written_fits seen w.offset w.text FILE_BYTES whole.seen_fits fit.1);
  writes_fit = All-append FitsFile ws (w ∷ []) whole.writes_fit (All-cons FitsFile w [] fit all_none);
})
