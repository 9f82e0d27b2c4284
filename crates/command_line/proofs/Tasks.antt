-- What is done, by which of `--sample` and `--count` were found, and that a sample is written.
use Rattle.std.proofs.Common.{◌≡◌, ◌≢◌, ◌∙◌, ℕ, Bool, true, false, List, Option, Some, None, refl, sym, subst}
use Rattle.std.proofs.lemmas.Bool.{false≢true}
use Rattle.std.proofs.lemmas.Option.{none-some}
use Rattle.std.specs.Prelude.{IfNone, IfSome, codes, is_some, ◌||◌}
use Rattle.clap.specs.Simple.{matches_of}
use Rattle.clap.specs.Walk.{Row}
use Rattle.command_line.specs.Asking.{IsUse, MeansSample, MeansTask, flagged_task, is_flagged, is_given, looks, mode_of, task_of}
use Rattle.command_line.specs.Command.{the_command}
use Rattle.command_line.specs.Words.{AsksFor}
use Rattle.command_line.specs.declared.job.Job.{Job}
use Rattle.command_line.specs.declared.job.Task.{Task}
use Rattle.command_line.specs.declared.job.Task.TheVariants.{Sample}
use Rattle.clap.specs.Walk.{first_of}
use Rattle.storage.specs.declared.mode.Mode.{Mode}
use Rattle.storage.specs.declared.mode.Mode.TheVariants.{Read}

module _ (rows : List Row) where
  -- a count by itself asks for nothing
  pub counted_alone : (counted : Option (List ℕ)) (task : Task) → is_some counted ≡ true → MeansTask rows None counted task → ⊥
  counted_alone None task some means = false≢true some
  counted_alone (Some count) task some means = means

  -- without a count the flags decide
  pub by_flags : (counted : Option (List ℕ)) (task : Option Task) → task ≡ flagged_task rows → counted ≡ None → IfSome task (MeansTask rows None counted)
  by_flags None None is none = tt
  by_flags None (Some task) is none = sym is
  by_flags (Some count) task is none = absurd (none-some count (sym none))

  pub by_no_flags : (counted : Option (List ℕ)) (task : Option Task) → task ≡ flagged_task rows → counted ≡ None → IfNone task ((t : Task) → MeansTask rows None counted t → ⊥)
  by_no_flags None None is none = λ t means. none-some t (is ∙ means)
  by_no_flags None (Some task) is none = tt
  by_no_flags (Some count) task is none = absurd (none-some count (sym none))

  -- nor does the number of a sample
  pub numbered_alone : (given counted : Option (List ℕ)) (number : List ℕ) (task : Task) → given ≡ Some number → counted ≡ None → MeansTask rows given counted task → ⊥
  numbered_alone None counted number task some none means = none-some number some
  numbered_alone (Some given) None number task some none means = means
  numbered_alone (Some given) (Some count) number task some none means = none-some count (sym none)

  module _ (given counted : Option (List ℕ)) (number count : List ℕ) (first : given ≡ Some number) (second : counted ≡ Some count) where
    pub sampled : (task : Task) → MeansTask rows given counted task → MeansSample number count task × (is_given (codes "read") rows ≡ false) × (is_flagged rows ≡ false)
    sampled task means =
        subst (λ (c : Option (List ℕ)). MeansTask rows (Some number) c task) second (subst (λ (g : Option (List ℕ)). MeansTask rows g counted task) first means)

    samples : (task : Task) → is_given (codes "read") rows ≡ false → is_flagged rows ≡ false → MeansSample number count task → MeansTask rows given counted task
    samples task written unchecked means =
        subst (λ (g : Option (List ℕ)). MeansTask rows g counted task) (sym first)
        (subst (λ (c : Option (List ℕ)). MeansTask rows (Some number) c task) (sym second) (means, written, unchecked))

    pub some_sample : (task : Option Task) → is_given (codes "read") rows ≡ false → is_flagged rows ≡ false → IfSome task (MeansSample number count) → IfSome task (MeansTask rows given counted)
    some_sample None written unchecked means = tt
    some_sample (Some task) written unchecked means = samples task written unchecked means

    pub no_sample : (task : Option Task) → IfNone task ((t : Task) → MeansSample number count t → ⊥) → IfNone task ((t : Task) → MeansTask rows given counted t → ⊥)
    no_sample None none = λ t means. none t (sampled t means).0
    no_sample (Some task) none = tt

no_task : (checks saves loads : Bool) (number edits : ℕ) → task_of checks saves loads ≡ Some (Sample number edits) → ⊥
no_task false false false number edits is = cc
no_task true false false number edits is = cc
no_task false true false number edits is = cc
no_task false false true number edits is = cc
no_task true true loads number edits is = cc
no_task true false true number edits is = cc
no_task false true true number edits is = cc

by_options : (rows : List Row) (given counted : Option (List ℕ)) (number edits : ℕ) → MeansTask rows given counted (Sample number edits)
    → (is_given (codes "read") rows ≡ false) × (is_flagged rows ≡ false)
by_options rows None None number edits means = absurd (no_task (is_given (codes "check") rows) (is_given (codes "save") rows) (is_given (codes "load") rows) number edits means)
by_options rows (Some given) (Some counted) number edits means = (means.1, means.2)
by_options rows (Some given) None number edits means = absurd means
by_options rows None (Some counted) number edits means = absurd means

writes : (extends reads checks : Bool) → reads ≡ false → checks ≡ false → mode_of extends reads checks ≢ Read
writes true false false written unchecked is = cc
writes false false false written unchecked is = cc
writes extends true checks written unchecked is = false≢true (sym written)
writes extends false true written unchecked is = false≢true (sym unchecked)

not_looked : (looked loads : Bool) → (looked || loads) ≡ false → looked ≡ false
not_looked false loads is = refl
not_looked true loads is = absurd (false≢true (sym is))

samples_write : (rows : List Row) (mode : Mode) (number edits : ℕ) → IsUse rows mode (Sample number edits) → mode ≢ Read
samples_write rows mode number edits use_is is =
    let options = by_options rows (first_of (codes "sample") rows) (first_of (codes "count") rows) number edits use_is.done in
    writes (is_given (codes "extend") rows) (is_given (codes "read") rows) (looks rows) options.0 (not_looked (looks rows) (is_given (codes "load") rows) options.1) (sym use_is.used.used ∙ is)

-- a sample is made in a store that may be written
pub sample_writes : (words : List (List ℕ)) (job : Job) (number edits : ℕ) → AsksFor words job → job.task ≡ Sample number edits → job.mode ≢ Read
sample_writes words job number edits asks is =
    samples_write (matches_of the_command words) job.mode number edits (subst (λ (task : Task). IsUse (matches_of the_command words) job.mode task) is asks.asks.options)
