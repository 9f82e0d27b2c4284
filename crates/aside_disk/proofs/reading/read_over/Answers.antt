use Rattle.std.proofs.Common.{◌≡◌, refl, sym, subst, ◌∙◌, arith, rules, ℕ, List, [], length, take, drop, Ok, Some, None, Option}
use Rattle.host_io.specs.Calls.{CountsDisk}
use Rattle.host_io.specs.declared.traits.Failed.{Failed}
use Rattle.host_io.proofs.Faults.{CountsDisk-begins, CountsDisk-joins}
use Rattle.aside_disk.specs.declared.walking.Record.{Record}
use Rattle.aside_disk.specs.Walking.{HasPiece, IsWalk, Steps, Walked}
use Rattle.host_io.specs.Ranges.{bytes_in}
use Rattle.aside_disk.specs.Records.{Spells, applied}
use Rattle.aside_disk.specs.Logical.{records_range}
use Rattle.aside_disk.specs.Reading.{IsFound}
use Rattle.aside_disk.proofs.Walked.{Filled, begun_piece, looks_joins, not_err, read_ends, read_step, seen_same, walked_begins}
use Rattle.aside_disk.proofs.reading.read_over.Goals as goal

pub records-init : goal.records-init
records-init g c =
    let n = c.new-walk.ensures in
    record {
      walk = subst (λ (a : ℕ). IsWalk a c.args.end) (sym n.begins) c.requires.walk;
      ends = n.ends;
      piece = n.piece;
      long = search rules;
      counts = CountsDisk-begins (g.D.Disk.outside c.args.disk.now) (Ok tt) (not_err (Unit {0}) Failed tt);
      same = λ tells. record { still = record { now = refl; past = refl }; input = refl };
      has = λ tells. begun_piece (c.requires.within tells) n.place n.nothing c.requires.walk;
      before = λ tells. subst (λ (a : ℕ). Filled (g.D.Disk.outside c.args.disk.now).now.disk.seen c.args.base.now c.args.at a c.new-walk.result.len c.fill_from_base.new.into) (sym n.begins)
          ([], subst (λ (k : ℕ). Walked (g.D.Disk.outside c.args.disk.now).now.disk.seen (length c.args.base.now) 256 k []) (sym n.len) (walked_begins (g.D.Disk.outside c.args.disk.now).now.disk.seen (length c.args.base.now)), c.fill_from_base.ensures);
    }

pub records-preserved : goal.records-preserved
records-preserved g c =
    let i = c.records.invariant in
    let n = c.in_ok-found.ensures in
    let o = c.in_ok-overlay.ensures in
    let counted : CountsDisk {T = Unit {0}} {E = Failed} (g.D.Disk.outside c.args.disk.now) (g.D.Disk.outside c.next_record.new.disk) (Ok tt) = CountsDisk-joins (Ok tt) i.counts n.counts (λ err. absurd (not_err (Unit {0}) Failed tt err)) in
    record {
      walk = subst (λ (e : ℕ). IsWalk c.next_record.new.walk.at e) i.ends n.walk;
      ends = n.ends ∙ i.ends;
      piece = n.piece;
      long = search rules;
      counts = CountsDisk-joins (Ok tt) counted o.counts (λ err. absurd (not_err (Unit {0}) Failed tt err));
      same = λ tells. looks_joins (looks_joins (i.same tells) (n.same tells)) (o.same tells);
      has = λ tells. subst (λ (l : List ℕ). HasPiece l c.next_record.new.walk.piece) (seen_same (i.same tells)) (n.bytes tells);
      before = λ tells.
          let im = (g.D.Disk.outside c.args.disk.now).now.disk.seen in
          let steps : Steps im c.records.walk c.next_record.new.walk (Some c.in-Some.found) =
          subst (λ (l : List ℕ). Steps l c.records.walk c.next_record.new.walk (Some c.in-Some.found)) (seen_same (i.same tells))
          (subst (λ (o : Option Record). Steps (g.D.Disk.outside c.records.disk).now.disk.seen c.records.walk c.next_record.new.walk o) c.in-Some.is (n.steps tells)) in
          read_step im c.args.base.now c.args.at c.records.walk c.next_record.new.walk c.in-Some.found c.records.into c.overlay.new.into
          (let w = c.requires.within tells in let e = i.ends in omega (arith, w, e)) i.walk.behind steps (i.before tells)
          (λ file entry found. o.covers tells file entry (subst (λ (l : List ℕ). IsFound l c.in-Some.found entry) (sym (seen_same (looks_joins (i.same tells) (n.same tells)))) found));
    }

pub returns-clause-bytes : goal.returns-clause-bytes
returns-clause-bytes g c = λ tells entries spells fit within.
    let i = c.records.invariant in
    let n = c.in_ok-found.ensures in
    let im = (g.D.Disk.outside c.args.disk.now).now.disk.seen in
    let steps : Steps im c.records.walk c.next_record.new.walk None =
    subst (λ (l : List ℕ). Steps l c.records.walk c.next_record.new.walk None) (seen_same (i.same tells))
    (subst (λ (o : Option Record). Steps (g.D.Disk.outside c.records.disk).now.disk.seen c.records.walk c.next_record.new.walk o) c.in_default.is (n.steps tells)) in
    let long = i.long in
    let e = i.ends in
    subst (λ (k : ℕ). c.records.into ≡ take k (drop c.args.at (applied c.args.base.now entries))) long
    (read_ends im c.args.base.now c.args.at c.records.walk c.next_record.new.walk c.records.into entries i.walk.behind (let w = i.walk.within in omega (arith, w, e)) (let w = c.requires.within tells in omega (arith, w, e)) steps (i.before tells)
    (subst (λ (k : ℕ). Spells entries (bytes_in im (records_range k))) (sym e) spells) fit (omega (arith, within, long)))
