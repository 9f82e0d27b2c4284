-- What rests on what rests on others.
use Rattle.std.proofs.Common.{List}
use Rattle.std.specs.Prelude.{Contains}
use Rattle.std.proofs.lemmas.List.Elements.{All-contains, All-contains_itself, All-weaker}
use Rattle.tables.specs.Homes.{PlainColumn}
use Rattle.tables.specs.Rests.{Rest}

pub rest_joins : (new mid old : List PlainColumn) → Rest new mid → Rest mid old → Rest new old
rest_joins new mid old first then = record {
  kept = All-weaker (Contains mid) (Contains old) (λ c among. All-contains (Contains old) mid c then.kept among) new first.kept;
  apart = λ old_apart. first.apart (then.apart old_apart);
}

pub rest_same : (columns : List PlainColumn) → Rest columns columns
rest_same columns = record { kept = All-contains_itself columns; apart = λ apart. apart }
