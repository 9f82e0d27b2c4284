use Rattle.std.proofs.Common.{◌++◌, length}
use Rattle.std.proofs.lemmas.Result.{on_ok_weaker}
use Rattle.byteorder.specs.Endian.{little_bytes}
use Rattle.dir_codec.specs.Dir.{spelled_span}
use Rattle.dir_codec.specs.Parts.{spelled_memos, spelled_numbers}
use Rattle.dir_codec.proofs.Written.{both}
use Rattle.dir_codec.proofs.writing.write_strings.Goals as goal

pub returns : goal.returns
returns c =
    let old = c.args.out.now.bytes in
    let mid = c.write_span.new.out.bytes in
    let sizes = spelled_numbers (c.args.width, c.args.sizes.now) in
    let short = spelled_span c.args.short.now in
    on_ok_weaker c.write_memos.result
    (both old mid c.write_memos.new.out.bytes (sizes ++ short) (little_bytes 4 (length c.args.memos.now) ++ spelled_memos c.args.memos.now)
    (both old c.write_numbers.new.out.bytes mid sizes short c.in_ok-write_numbers.ensures c.in_ok-write_span.ensures)) c.write_memos.ensures
