-- One source names one reference, one beginning and one base.
use Rattle.std.proofs.Common.{◌≡◌, sym, ◌∙◌, ap, subst, ℕ, List, drop, slice_index}
use Rattle.host_io.specs.Outside.{Left, Outside}
use Rattle.aside_disk.specs.Logical.{Logical}
use Rattle.aside_disk.specs.Shown.{Seen, bare, source_of}
use Rattle.aside_disk.specs.Tie.{ShowsLeft}
use Rattle.aside_disk.specs.Standing.{IsOver}

module _ {name since began number name' since' began' number' : ℕ} {base base' : List ℕ} (same : source_of name since began number base ≡ source_of name' since' began' number' base') where
  pub same_name : name ≡ name'
  same_name = ap (λ (l : List ℕ). slice_index l 0) same

  pub same_since : since ≡ since'
  same_since = ap (λ (l : List ℕ). slice_index l 1) same

  pub same_began : began ≡ began'
  same_began = ap (λ (l : List ℕ). slice_index l 2) same

  pub same_number : number ≡ number'
  same_number = ap (λ (l : List ℕ). slice_index l 3) same

  pub same_base : base ≡ base'
  same_base = ap (λ (l : List ℕ). drop 4 l) same

pub images_stand : {tells : Type 0} {name : ℕ} (other since began number : ℕ) (base : List ℕ) {lower : Outside} {seen : Seen} {own : ℕ} → tells → IsOver tells name lower seen own → seen.source ≡ source_of other since began number base
    → (image : List ℕ) (said : ℕ) → Left since lower image said → ShowsLeft (Logical base number) began (bare seen) image said
images_stand other since began number base {lower} {seen} t over source image said left =
    let same = sym over.source ∙ source in
    let s = (over.tie t).left image said (subst (λ (k : ℕ). Left k lower image said) (sym (same_since same)) left) in
    record {
      file = s.file;
      means_it = subst (λ (b : List ℕ). Logical b number image s.file) (same_base same) (subst (λ (k : ℕ). Logical over.base k image s.file) (same_number same) s.means_it);
      left = subst (λ (k : ℕ). Left k (bare seen) s.file said) (same_began same) s.left;
    }
