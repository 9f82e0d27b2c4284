use Rattle.std.proofs.Common.{◌≡◌, ◌∙◌, length, ap, arith}
use Rattle.segments.specs.Segments.{start_of}
use Rattle.segments.proofs.Counts.{length-counts_from}
use Rattle.segments.proofs.Places.{start_all}
use Rattle.segments.proofs.segments.Segments.len.Goals as goal

pub start-requires : goal.start-requires
start-requires g c = rw (← c.self.view_is) (omega (arith, length-counts_from 0 c.self.inside.ends.items))

pub returns-clause-len : goal.returns-clause-len
returns-clause-len g c =
    let whole : c.len.result ≡ length c.args.self.now = rw (← c.self.view_is) (omega (arith, length-counts_from 0 c.self.inside.ends.items)) in
    c.start.ensures.start ∙ ap (start_of c.args.self.now) whole ∙ start_all c.args.self.now
