use Rattle.std.proofs.Common.{All, None, ap, sym, subst, arith}
use Rattle.std.specs.Prelude.{is_some}
use Rattle.std.proofs.lemmas.Bool.{false≢true}
use Rattle.host_io.specs.Disk.{DiskState}
use Rattle.commit_writes.specs.Phases.{IsAtRest}
use Rattle.tables.specs.Shapes.{HasHomes}
use Rattle.view_store.specs.Rests.{homed_views}
use Rattle.view_store.specs.Views.{AreViews, NamedTable}
use Rattle.recovery.specs.Commits.{Commit, IsCommit, footprint_of}
use Rattle.storage.specs.NewStore.{new_commit}
use Rattle.storage.proofs.NewStore.{new_at_rest, new_whole}
use Rattle.storage.proofs.Resting.{rest_same}
use Rattle.storage.proofs.store.Store.create.Goals as goal

pub invariant_of-result : goal.invariant_of-result
invariant_of-result g c =
    let is = sym c.first_commit.ensures in
    record {
      kept = subst IsCommit is new_whole;
      views_are = subst (λ (k : Commit). AreViews k.views) is new_whole.views;
      shaped = subst (λ (k : Commit). All (λ (v : NamedTable). HasHomes v.table) k.views) is new_whole.shaped;
      rests = rest_same (homed_views c.first_commit.result.views);
      low = omega arith;
      beside = λ number is. absurd (false≢true (ap is_some is));
      capped = c.requires.capped;
    }

pub returns-clause-rests : goal.returns-clause-rests
returns-clause-rests g c = λ tells.
    subst (λ (k : Commit). IsAtRest (footprint_of k) 0 None (g.D.Disk.outside c.make_file.new.disk).now.disk) (sym c.first_commit.ensures)
    (subst (λ (d : DiskState). IsAtRest (footprint_of new_commit) 0 None d) (sym (c.in_ok-make_file.ensures.made tells)) new_at_rest)
