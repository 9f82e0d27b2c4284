use Rattle.recovery.specs.Keeping.{commit_in}
use Rattle.commit_plan.proofs.UsedUp.{measured}
use Rattle.commit_plan.proofs.measuring.measure.Goals as goal

pub returns : goal.returns
returns c = measured (commit_in c.args.kept.now) c.views_usage.new.usage c.add.new.self c.requires c.views_usage.ensures c.add.ensures
