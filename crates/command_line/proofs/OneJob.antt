-- What words ask for is one job.
use Rattle.std.proofs.Common.{◌≡◌, ◌∙◌, ℕ, ◌<◌, ◌^◌, List, Option, Some, None, sym, ap₂, arith}
use Rattle.std.proofs.lemmas.Fmt.{decimal_injective}
use Rattle.std.proofs.lemmas.Option.{same_Some}
use Rattle.clap.specs.Walk.{Row}
use Rattle.command_line.specs.Asking.{Asks, IsSameJob, MeansCap, MeansSample, MeansTask}
use Rattle.command_line.specs.declared.job.Job.{Job}
use Rattle.command_line.specs.declared.job.Task.{Task}
use Rattle.command_line.specs.declared.job.Task.TheVariants.{Sample}

one_cap : (given : Option (List ℕ)) (one other : ℕ) → one < 2 ^ 64 → other < 2 ^ 64 → MeansCap given one → MeansCap given other → one ≡ other
one_cap (Some text) one other small small-2 means means-2 = decimal_injective one other small small-2 (sym means ∙ means-2)
one_cap None one other small small-2 means means-2 = means ∙ sym means-2

one_sample : (number count : List ℕ) (one other : Task) → MeansSample number count one → MeansSample number count other → one ≡ other
one_sample number count one other means means-2 =
    let same = decimal_injective means.made_by means-2.made_by means.small means-2.small (sym means.spelled ∙ means-2.spelled) in
    let as_many = decimal_injective means.edits means-2.edits (omega (arith, means.most)) (omega (arith, means-2.most)) (sym means.counted ∙ means-2.counted) in
    means.done ∙ ap₂ Sample same as_many ∙ sym means-2.done

one_task : (rows : List Row) (number count : Option (List ℕ)) (one other : Task) → MeansTask rows number count one → MeansTask rows number count other → one ≡ other
one_task rows None None one other means means-2 = same_Some one other (sym means ∙ means-2)
one_task rows (Some number) (Some count) one other means means-2 = one_sample number count one other means.0 means-2.0
one_task rows (Some number) None one other means means-2 = absurd means
one_task rows None (Some count) one other means means-2 = absurd means

pub one_job : (rows : List Row) (one other : Job) → Asks rows one → Asks rows other → IsSameJob one other
one_job rows one other asks asks-2 = record {
  file = same_Some one.file.bytes other.file.bytes (sym asks.file.given ∙ asks-2.file.given);
  mode = asks.options.used.used ∙ sym asks-2.options.used.used;
  cap = one_cap _ one.cap other.cap (omega (arith, asks.cap.most)) (omega (arith, asks-2.cap.most)) asks.cap.means asks-2.cap.means;
  task = one_task rows _ _ one.task other.task asks.options.done asks-2.options.done;
  aside = asks.aside.named ∙ sym asks-2.aside.named;
}
