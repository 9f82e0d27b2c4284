use Rattle.aside_disk.proofs.Sources.{images_stand}
use Rattle.aside_disk.proofs.laws.images_stand.Goals as goal

pub returns : goal.returns
returns c = λ name other since began number base lower seen own over source image said left. images_stand other since began number base tt over source image said left
