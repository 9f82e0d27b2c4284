use Rattle.std.proofs.Common.{◌∙◌, ℕ, List, length, ap, subst}
use Rattle.std.proofs.lemmas.List.{length-map}
use Rattle.view_store.specs.Views.{NamedTable}
use Rattle.commit_plan.specs.Plans.{IsPlanOf}
use Rattle.storage.specs.Stored.{floor_of}
use Rattle.streaming.proofs.Made.{commits_in_silence, homeless_rests, is_first, makes, silence_joins, silence_of}
use Rattle.streaming.proofs.making.make_store.Goals as goal

pub put_views-requires : goal.put_views-requires
put_views-requires g c = record { rests = homeless_rests c.args.root c.in-Ok.store.views c.requires.homeless }

pub returns-in-Ok-carry-clause-comes : goal.returns-in-Ok-carry-clause-comes
returns-in-Ok-carry-clause-comes g c = λ tells.
    let old = g.D.Disk.outside c.args.disk.now in
    let made = g.D.Disk.outside c.create.new.disk in
    let new = g.D.Disk.outside c.carry.new.disk in
    let e = c.in-Ok.ensures in
    let store = is_first c.args.cap c.args.root c.in-Ok.store c.put_views.new.self e.new c.put_views.ensures in
    let silence = silence_of old made e.counts (e.said tells) (e.input tells) (e.moments tells) in
    let s = c.put_views.new.self in
    let plans = subst (λ (note : List ℕ). IsPlanOf (floor_of s.mode s.kept.end) s.kept s.views note c.in-Ok-plan.plan) c.new.ensures c.in-Ok-plan.ensures.plans in (
      makes c.args.cap c.args.root old made silence (e.made tells) s store c.in-Ok-carry.field-0 c.in-Ok-plan.plan new plans c.in-Ok-plan.ensures.within c.in-Ok-carry.ensures.counts (c.in-Ok-carry.ensures.commits tells),
      c.len-count.ensures ∙ ap length c.names.ensures.names ∙ length-map c.args.root (λ (v : NamedTable). v.name),
    )

pub returns-clause-comes : goal.returns-clause-comes
returns-clause-comes g c = λ tells.
    let old = g.D.Disk.outside c.args.disk.now in
    let made = g.D.Disk.outside c.create.new.disk in
    let new = g.D.Disk.outside c.carry.new.disk in
    let e = c.in-Ok.ensures in
    let silence = silence_of old made e.counts (e.said tells) (e.input tells) (e.moments tells) in
    silence_joins old made new silence (commits_in_silence c.put_views.new.self c.in-Ok-plan.plan made new c.carry.ensures.counts (c.carry.ensures.commits tells))
