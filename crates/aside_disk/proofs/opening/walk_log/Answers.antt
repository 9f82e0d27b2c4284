use Rattle.std.proofs.Common.{subst, ◌∙◌, arith, ℕ, List, Some, Option, Ok}
use Rattle.host_io.proofs.Faults.{CountsFaults-disk, CountsFaults-joins}
use Rattle.aside_disk.specs.declared.walking.Record.{Record}
use Rattle.aside_disk.specs.Walking.{HasPiece, IsWalk, Steps}
use Rattle.aside_disk.proofs.Walked.{looks_joins, seen_same}
use Rattle.aside_disk.proofs.Openings.{went_on}
use Rattle.aside_disk.proofs.opening.walk_log.Goals as goal

pub records-preserved : goal.records-preserved
records-preserved g c =
    let i = c.records.invariant in
    let n = c.in_ok-next_record.ensures in
    record {
      walk = subst (λ (e : ℕ). IsWalk c.next_record.new.walk.at e) i.ends n.walk;
      ends = n.ends ∙ i.ends;
      piece = n.piece;
      fits = λ low. n.fits (i.fits low);
      counts = CountsFaults-joins ⊥ ⊥ ⊥ i.counts (CountsFaults-disk {result = Ok c.in_ok-next_record.field-0} ⊥ n.counts (λ never. absurd never)) (λ never. absurd never);
      same = λ tells. looks_joins (i.same tells) (n.same tells);
      has = λ tells. subst (λ (l : List ℕ). HasPiece l c.next_record.new.walk.piece) (seen_same (i.same tells)) (n.bytes tells);
      went = λ tells.
          let im = (g.D.Disk.outside c.args.disk.now).now.disk.seen in
          let steps : Steps im c.records.walk c.next_record.new.walk (Some c.in-Some.field-0) =
          subst (λ (l : List ℕ). Steps l c.records.walk c.next_record.new.walk (Some c.in-Some.field-0)) (seen_same (i.same tells))
          (subst (λ (o : Option Record). Steps (g.D.Disk.outside c.records.disk).now.disk.seen c.records.walk c.next_record.new.walk o) c.in-Some.is (n.steps tells)) in
          went_on im c.args.len c.records.walk c.next_record.new.walk c.in-Some.field-0 (let w = c.requires.within tells in let e = i.ends in omega (arith, w, e)) i.walk.behind steps (i.went tells);
    }
