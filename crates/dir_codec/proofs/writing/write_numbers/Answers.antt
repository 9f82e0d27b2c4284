use Rattle.std.proofs.Common.{[], ◌∷◌, ℕ, ◌++◌, ◌∙◌, ap}
use Rattle.std.proofs.lemmas.Result.{on_ok_weaker}
use Rattle.bit_pack.specs.Width.{bit_count}
use Rattle.dir_codec.specs.Dir.{spelled_span}
use Rattle.dir_codec.proofs.Written.{both}
use Rattle.dir_codec.proofs.writing.write_numbers.Goals as goal

pub returns : goal.returns
returns c = on_ok_weaker c.write_span.result
    (both c.args.out.now.bytes c.push.new.self.bytes c.write_span.new.out.bytes (bit_count c.args.width ∷ []) (spelled_span c.args.block.now)
    (c.in_ok-push.ensures.ok ∙ ap (λ (b : ℕ). c.args.out.now.bytes ++ b ∷ []) c.bits.ensures)) c.write_span.ensures
