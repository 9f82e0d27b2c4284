use Rattle.std.proofs.Common.{◌++◌, replicate, ◌-◌, arith}
use Rattle.commit_marks.proofs.Heads.{some_image, some_of}
use Rattle.commit_marks.proofs.reading.read_marks.Goals as goal

pub returns-clause-some : goal.returns-clause-some
returns-clause-some g c =
    let image = c.read_at.new.into ++ replicate (c.in_ok-len.len - 192) 0 in
    some_of image c.choose.result (c.choose.ensures.gives image (some_image c.read_at.new.into c.in_ok-len.len (omega arith) c.if-len-lt-FIRST_PLACE.false))
