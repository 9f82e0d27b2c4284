use Rattle.std.proofs.Common.{ℕ, ◌++◌, ◌∙◌, ap}
use Rattle.std.proofs.lemmas.Result.{on_ok_weaker}
use Rattle.byteorder.specs.Endian.{little_bytes}
use Rattle.dir_codec.specs.Dir.{spelled_span}
use Rattle.dir_codec.proofs.Written.{both}
use Rattle.dir_codec.proofs.writing.write_memo.Goals as goal

pub returns : goal.returns
returns c = on_ok_weaker c.write_span.result
    (both c.args.out.now.bytes c.write_4.new.out.bytes c.write_span.new.out.bytes (little_bytes 4 c.args.memo.now.row) (spelled_span c.args.memo.now.span)
    (c.in_ok-write_4.ensures ∙ ap (λ (n : ℕ). c.args.out.now.bytes ++ little_bytes 4 n) c.from.ensures)) c.write_span.ensures
