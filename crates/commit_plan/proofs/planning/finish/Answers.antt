use Rattle.std.proofs.Common.{◌+◌, ◌≤◌, [], ◌∷◌, map, All, refl, ap, sym, subst, ◌∙◌, arith}
use Rattle.std.proofs.lemmas.List.Elements.{All-append, All-cons, All-nil}
use Rattle.free_space.specs.Extents.{extent_end}
use Rattle.free_space.specs.FreeSpace.{end_of}
use Rattle.dir_codec.specs.Values.{note_of}
use Rattle.recovery.specs.Commits.{Commit}
use Rattle.recovery.specs.Keeping.{commit_in}
use Rattle.commit_plan.specs.Following.{last_end}
use Rattle.commit_plan.specs.Payloads.{payload_bytes}
use Rattle.commit_plan.specs.Placing.{IsPut, Passes}
use Rattle.commit_plan.proofs.NextCommit.{dir_passes, made_ends, made_follows, made_writes}
use Rattle.commit_plan.proofs.planning.finish.Goals as goal

pub returns-in_default-clause-refused : goal.returns-in_default-clause-refused
returns-in_default-clause-refused c = λ floor views note ready. (
  refl,
  (let few = c.requires.cap in omega (arith, few)),
  dir_passes floor (commit_in c.args.kept.now) views note (map payload_bytes c.args.draft.payloads.items) c.args.draft.spans.items c.args.draft.free c.args.contents.views (map note_of c.args.contents.notes) c.args.contents.directory.bytes
      ready.floor_is ready.draft ready.contents (subst (λ n. Passes n c.args.draft.free) c.len.ensures c.in_default.ensures.passes),
)

pub end_with-end-requires : goal.end_with-end-requires
end_with-end-requires c =
    subst (All (λ s. extent_end s ≤ last_end)) (sym (c.deref.ensures.value ∙ c.in_ok-push_span.ensures))
    (All-append (λ s. extent_end s ≤ last_end) c.args.draft.spans.items (c.in-Some.dir ∷ []) c.requires.fit
    (All-cons (λ s. extent_end s ≤ last_end) c.in-Some.dir [] c.in-Some.ensures.put.fits (All-nil (λ s. extent_end s ≤ last_end))))

pub returns-then-end-cap-clause-refused : goal.returns-then-end-cap-clause-refused
returns-then-end-cap-clause-refused c = λ floor views note ready. (
  refl,
  c.if-end-cap.true,
  made_ends floor (commit_in c.args.kept.now) views note (map payload_bytes c.args.draft.payloads.items) c.args.draft.spans.items c.args.draft.free c.place_block.new.free c.args.contents.views (map note_of c.args.contents.notes)
      c.args.contents.directory.bytes c.in-Some.dir c.end_with-end.result c.requires.whole ready.floor_is ready.draft ready.contents (subst (λ n. IsPut n c.args.draft.free c.place_block.new.free c.in-Some.dir) c.len.ensures c.in-Some.ensures.put)
      (c.end_with-end.ensures ∙ ap (end_of c.args.kept.now.end) (c.deref.ensures.value ∙ c.in_ok-push_span.ensures)),
)

pub returns-clause-plans : goal.returns-clause-plans
returns-clause-plans c = λ floor views note ready.
    let next : Commit = record {
      number = c.args.kept.now.number + 1;
      views = c.args.contents.views;
      notes = map note_of c.args.contents.notes;
      dir = c.in-Some.dir;
      end = c.end_with-end.result;
    } in
    record {
      spans = c.args.draft.spans.items;
      follows = made_follows floor (commit_in c.args.kept.now) views note (map payload_bytes c.args.draft.payloads.items) c.args.draft.spans.items c.args.draft.free c.place_block.new.free c.args.contents.views (map note_of c.args.contents.notes)
          c.args.contents.directory.bytes c.in-Some.dir c.end_with-end.result next c.requires.whole ready.floor_is ready.draft ready.contents (subst (λ n. IsPut n c.args.draft.free c.place_block.new.free c.in-Some.dir) c.len.ensures c.in-Some.ensures.put)
          (c.end_with-end.ensures ∙ ap (end_of c.args.kept.now.end) (c.deref.ensures.value ∙ c.in_ok-push_span.ensures)) refl;
      writes = made_writes views c.args.draft.spans.items c.push_span.new.spans.items (map payload_bytes c.args.draft.payloads.items) (map payload_bytes c.push.new.payloads.items) c.args.contents.directory.bytes c.in-Some.dir next
          c.args.contents.views (map note_of c.args.contents.notes) ready.draft.bytes_are c.in_ok-push_span.ensures c.in_ok-push.ensures ready.contents.spells refl refl refl;
    }
