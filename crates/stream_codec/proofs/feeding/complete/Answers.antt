use Rattle.stream_codec.proofs.Loads.{on_way_further}
use Rattle.stream_codec.proofs.feeding.complete.Goals as goal

pub returns-clause-on_way : goal.returns-clause-on_way
returns-clause-on_way c = on_way_further c.args.progress.now c.advance.new.progress _ c.requires.on_way c.in_ok-advance.ensures.taken
