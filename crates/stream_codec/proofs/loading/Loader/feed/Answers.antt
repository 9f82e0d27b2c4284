use Rattle.stream_codec.proofs.Loads.{may_go_on}
use Rattle.stream_codec.proofs.loading.Loader.feed.Goals as goal

pub returns-clause-right : goal.returns-clause-right
returns-clause-right c = may_go_on c.load.new.progress c.load.new.waiting.bytes c.in_ok-load.ensures.taken.under_way
