use Rattle.std.proofs.lemmas.Result.{on_ok_weaker}
use Rattle.byteorder.specs.Endian.{little_bytes}
use Rattle.dir_codec.proofs.Written.{both}
use Rattle.dir_codec.proofs.writing.write_span.Goals as goal

pub returns : goal.returns
returns c = on_ok_weaker c.write_8-2.result (both c.args.out.now.bytes c.write_8.new.out.bytes c.write_8-2.new.out.bytes (little_bytes 8 c.args.span.now.place) (little_bytes 8 c.args.span.now.len) c.in_ok-write_8.ensures) c.write_8-2.ensures
