use Rattle.std.proofs.Common.{ap, sym, ◌∙◌, List}
use Rattle.std.specs.List.{insert, remove}
use Rattle.std.proofs.Common.{set}
use Rattle.mk_value.specs.Data.{Datum}
use Rattle.mapped.specs.declared.event.Event.TheVariants.{Insert, Change}
use Rattle.mapped.specs.Events.{keys_after}
use Rattle.mapped.specs.Index.{Index}
use Rattle.mapped.specs.Keys.{keys_of}
use Rattle.mapped.proofs.Following.{rows_follow}
use Rattle.mapped.proofs.hash_index.HashIndex.follow.Goals as goal

pub returns-in-Insert-Some-clause-rows : goal.returns-in-Insert-Some-clause-rows
returns-in-Insert-Some-clause-rows c count old new before leads is =
    c.insert.ensures.keys ∙ ap (λ (ks : List (List Datum)). insert ks c.in-Insert-Some.at c.in-Insert-Some.key) (ap (λ (x : Index). x.keys) c.self.view_is ∙ before)
    ∙ ap (λ key. keys_after (Insert c.in-Insert-Some.at) key (keys_of count old)) (sym c.in-Insert-Some.is-1) ∙ ap (λ event. keys_after event c.args.key (keys_of count old)) (sym c.in-Insert-Some.is-0) ∙ rows_follow c.args.event.now count old new c.args.key leads is

pub returns-in-Remove-default-clause-rows : goal.returns-in-Remove-default-clause-rows
returns-in-Remove-default-clause-rows c count old new before leads is =
    c.remove.ensures.keys ∙ ap (λ (ks : List (List Datum)). remove ks c.in-Remove-default.at) (ap (λ (x : Index). x.keys) c.self.view_is ∙ before)
    ∙ ap (λ event. keys_after event c.args.key (keys_of count old)) (sym c.in-Remove-default.is-0) ∙ rows_follow c.args.event.now count old new c.args.key leads is

pub returns-in-Change-Some-clause-rows : goal.returns-in-Change-Some-clause-rows
returns-in-Change-Some-clause-rows c count old new before leads is =
    c.change.ensures.keys ∙ ap (λ (ks : List (List Datum)). set ks c.in-Change-Some.at c.in-Change-Some.key) (ap (λ (x : Index). x.keys) c.self.view_is ∙ before)
    ∙ ap (λ key. keys_after (Change c.in-Change-Some.at) key (keys_of count old)) (sym c.in-Change-Some.is-1) ∙ ap (λ event. keys_after event c.args.key (keys_of count old)) (sym c.in-Change-Some.is-0) ∙ rows_follow c.args.event.now count old new c.args.key leads is
