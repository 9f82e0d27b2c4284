use Rattle.std.proofs.Common.{◌≡◌, false, take}
use Rattle.std.specs.List.{list_any}
use Rattle.watches.specs.Keeping.{shown_by}
use Rattle.watches.specs.Watches.{Shown, stands_over}
use Rattle.watches.proofs.followed.has_over.Given as goal

abbrev pub invariant-loop-place : goal.invariant-loop-place
invariant-loop-place l = list_any (λ (s : Shown). stands_over (shown_by l.names l.watches.watches) l.name s.source) (take l.place (shown_by l.names l.watches.watches)) ≡ false
