-- A new store's file is at rest for its commit.
use Rattle.std.proofs.Common.{◌≡◌, inl, inr, [], ◌∷◌, None, refl, arith, All}
use Rattle.std.proofs.lemmas.List.Elements.{All-nil, All-cons}
use Rattle.free_space.specs.Extents.{extent_len}
use Rattle.free_space.specs.Sites.{IsSite}
use Rattle.host_io.specs.Disk.{settled}
use Rattle.host_io.proofs.Images.{IsSettled-settled}
use Rattle.commit_marks.specs.Marks.{Chooses, FitsFile, HasMark, IsOpen}
use Rattle.commit_writes.specs.Blocks.{IsSited, StandsAt}
use Rattle.commit_writes.specs.Footprints.{Holds}
use Rattle.commit_writes.specs.Phases.{IsAtRest}
use Rattle.tables.specs.Shapes.{HasHomes}
use Rattle.view_store.specs.Views.{AreViews, IsView, NamedTable}
use Rattle.recovery.specs.Commits.{IsCommit, IsHomed, dir_block, footprint_of, mark_of}
use Rattle.recovery.proofs.Footprints.{footprint_whole}
use Rattle.storage.specs.NewStore.{new_commit, new_file}

dir_extent : extent_len 4 ≡ 16
unfolding extent_len
dir_extent = refl

dir_site : IsSite 208 (record { place = 192; len = 4 })
dir_site = record { aligned = refl; behind = omega arith; some = omega arith; within = omega (arith, dir_extent) }

fits : FitsFile 208 (mark_of new_commit)
fits = record { aligned = refl; behind = omega arith; within = omega arith; dir = dir_site }

no_views : AreViews []
no_views = record { few = omega arith; distinct = λ i j d l m. absurd (omega (arith, l, m)); whole = All-nil IsView }

sited : All (IsSited 208) (dir_block new_commit ∷ [])
sited = All-cons (IsSited 208) (dir_block new_commit) [] (inr (record { site = dir_site; len = refl })) (All-nil (IsSited 208))

pub new_whole : IsCommit new_commit
new_whole = record {
  number = omega arith;
  views = no_views;
  shaped = All-nil (λ (v : NamedTable). HasHomes v.table);
  homed = All-nil IsHomed;
  notes = record { each = tt; few = omega arith; counted = inl (refl, refl) };
  fits = fits;
  end_fits = omega arith;
  sited = sited;
  apart = λ i j d l m. absurd (omega (arith, l, m));
}

has_mark : HasMark new_file 0 (mark_of new_commit)
has_mark = record {
  good = record { version = inl refl; number = omega arith; place = omega arith; len = omega arith; end = omega arith };
  bytes = refl;
}

closed : IsOpen new_file 1 → ⊥
closed e = absurd (omega (arith, e))

chooses : Chooses new_file 0 (mark_of new_commit) None
chooses = record { headed = record { long = omega arith; header = refl }; low = omega arith; here = has_mark; beside = closed }

holds : Holds new_file (footprint_of new_commit)
holds = record {
  whole = footprint_whole new_commit new_whole;
  within = omega arith;
  blocks = All-cons (StandsAt new_file) (dir_block new_commit) [] refl (All-nil (StandsAt new_file));
}

pub new_at_rest : IsAtRest (footprint_of new_commit) 0 None (settled new_file)
new_at_rest = record { settled = IsSettled-settled new_file; chooses = chooses; holds = holds }
