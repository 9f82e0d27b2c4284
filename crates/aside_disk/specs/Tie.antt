-- What ties an outside that a program sees to the lower one behind it.
use Rattle.std.specs.Prelude.{◌≡◌, ℕ, ◌≤◌, List}
use Rattle.host_io.specs.Disk.{DiskState, IsImage}
use Rattle.host_io.specs.Outside.{Moment, Outside, Left, moment}

-- the image means a file that a crash may leave of the disk
pub record Shows (means : List ℕ → List ℕ → Type 0) (upper : DiskState) (image : List ℕ) : Type 0 where
  pub file : List ℕ
  pub means_it : means image file
  pub is : IsImage upper file

-- each image that a crash may leave of the lower disk means one that it may leave of the upper
abbrev pub AllShow : (List ℕ → List ℕ → Type 0) → DiskState → DiskState → Type 0
AllShow means lower upper = (image : List ℕ) → IsImage lower image → Shows means upper image

-- a crash of the upper disk from this moment on may have left a file that the image means, when n bytes had been said
pub record ShowsLeft (means : List ℕ → List ℕ → Type 0) (since : ℕ) (upper : Outside) (image : List ℕ) (n : ℕ) : Type 0 where
  pub file : List ℕ
  pub means_it : means image file
  pub left : Left since upper file n

-- The same bytes were said. Each image that a crash may leave now, or may have left since the moments at which the two began, means one of
-- the upper's.
pub record Tie (means : List ℕ → List ℕ → Type 0) (lower_since upper_since : ℕ) (lower upper : Outside) : Type 0 where
  pub lower_began : lower_since ≤ moment lower
  pub upper_began : upper_since ≤ moment upper
  pub said : upper.now.said ≡ lower.now.said
  pub now : AllShow means lower.now.disk upper.now.disk
  pub left : (image : List ℕ) (n : ℕ) → Left lower_since lower image n → ShowsLeft means upper_since upper image n

-- a moment of the lower disk at which the same was said, and whose images mean those of the upper one
pub record ShowsAt (means : List ℕ → List ℕ → Type 0) (upper : Moment) (at : Moment) : Type 0 where
  pub said : at.said ≡ upper.said
  pub images : AllShow means at.disk upper.disk
