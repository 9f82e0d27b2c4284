use Rattle.std.proofs.Common.{map, subst}
use Rattle.dir_codec.specs.Values.{note_of}
use Rattle.recovery.specs.Keeping.{commit_in}
use Rattle.commit_plan.specs.Payloads.{payload_bytes}
use Rattle.commit_plan.specs.Plans.{AreContents, AreReady}
use Rattle.commit_plan.proofs.NextCommit.{both_ok, enough_spans, plan_sound, plan_whole}
use Rattle.commit_plan.proofs.planning.plan.Goals as goal

pub contents_of-requires-clause-enough : goal.contents_of-requires-clause-enough
contents_of-requires-clause-enough c =
    enough_spans (commit_in c.args.kept.now) c.args.views.now (map payload_bytes c.in-Some.drafted.payloads.items) c.in-Some.drafted.spans.items c.deref.result.now c.in-Some.drafted.free
    (rw c.in-Some.is at c.in_ok-drafted.ensures.drafted) c.deref.ensures.value

pub returns-in_ok-contents-in-Some-clause-whole : goal.returns-in_ok-contents-in-Some-clause-whole
returns-in_ok-contents-in-Some-clause-whole c =
    let ready : AreReady c.args.floor (commit_in c.args.kept.now) c.args.views.now c.args.note.now.bytes (map payload_bytes c.in-Some.drafted.payloads.items) c.in-Some.drafted.spans.items c.in-Some.drafted.free
    c.in_ok-contents-in-Some.contents.views (map note_of c.in_ok-contents-in-Some.contents.notes) c.in_ok-contents-in-Some.contents.directory.bytes = record {
      floor_is = rw c.in-Some.is at c.in_ok-drafted.ensures.floor;
      draft = rw c.in-Some.is at c.in_ok-drafted.ensures.drafted;
      contents = subst (λ ss. AreContents (commit_in c.args.kept.now) c.args.views.now c.args.note.now.bytes ss c.in_ok-contents-in-Some.contents.views (map note_of c.in_ok-contents-in-Some.contents.notes) c.in_ok-contents-in-Some.contents.directory.bytes) c.deref.ensures.value c.in_ok-contents-in-Some.ensures;
    } in
    both_ok c.finish.result c.finish.ensures.plans c.finish.ensures.within
    (λ p plans within. plan_whole c.args.floor (commit_in c.args.kept.now) c.args.views.now c.args.note.now.bytes c.args.cap p c.requires.whole c.requires.may c.if-kept-eq-LAST_NUMBER.false c.requires.cap (plans c.args.floor c.args.views.now c.args.note.now.bytes ready) within)

pub returns-in_ok-contents-in-Some-clause-sound : goal.returns-in_ok-contents-in-Some-clause-sound
returns-in_ok-contents-in-Some-clause-sound c =
    let ready : AreReady c.args.floor (commit_in c.args.kept.now) c.args.views.now c.args.note.now.bytes (map payload_bytes c.in-Some.drafted.payloads.items) c.in-Some.drafted.spans.items c.in-Some.drafted.free
    c.in_ok-contents-in-Some.contents.views (map note_of c.in_ok-contents-in-Some.contents.notes) c.in_ok-contents-in-Some.contents.directory.bytes = record {
      floor_is = rw c.in-Some.is at c.in_ok-drafted.ensures.floor;
      draft = rw c.in-Some.is at c.in_ok-drafted.ensures.drafted;
      contents = subst (λ ss. AreContents (commit_in c.args.kept.now) c.args.views.now c.args.note.now.bytes ss c.in_ok-contents-in-Some.contents.views (map note_of c.in_ok-contents-in-Some.contents.notes) c.in_ok-contents-in-Some.contents.directory.bytes) c.deref.ensures.value c.in_ok-contents-in-Some.ensures;
    } in
    both_ok c.finish.result c.finish.ensures.plans c.finish.ensures.within
    (λ p plans within. plan_sound c.args.floor (commit_in c.args.kept.now) c.args.views.now c.args.note.now.bytes c.args.cap p c.requires.whole c.requires.may c.if-kept-eq-LAST_NUMBER.false c.requires.cap (plans c.args.floor c.args.views.now c.args.note.now.bytes ready) within)
