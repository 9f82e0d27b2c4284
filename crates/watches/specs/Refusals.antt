-- The refusal of a watch.
use Rattle.std.specs.Prelude.{ℕ, suc, nat_lt, not, List, [], ◌∷◌, ◌++◌, Option}
use Rattle.watches.specs.Lines.{watch_due}
use Rattle.live.specs.Chains.{source_depth}
use Rattle.live.specs.declared.error.WatchError.{WatchError}
use Rattle.live.specs.declared.op.WatchOp.{WatchOp}
use Rattle.mk_value.specs.Heading.{Attribute}
use Rattle.watches.specs.Keeping.{max_watches}
use Rattle.watches.specs.Watches.{Followed, Shown, Source, count, watches_of}

-- how many watches each is over its view, itself among them, where those before it are so many
abbrev pub depths : List ℕ → List Shown → List ℕ
depths done [] = []
depths done (s ∷ watches) = let this = suc (source_depth done s.source) in this ∷ depths (done ++ this ∷ []) watches

abbrev pub depth_under : List Followed → Source → ℕ
depth_under all source = source_depth (depths [] (watches_of all source.view)) source.over

-- The refusal of one watch more over a source: of its criteria or its keys; or the chain would be five long, or it would be the 65th over all views.
abbrev pub put_due : List Attribute → List Followed → Source → WatchOp → Option WatchError
put_due schema all source op = watch_due schema op (depth_under all source) (not (nat_lt (count all) max_watches))
