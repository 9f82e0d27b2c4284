use Rattle.std.proofs.Common.{◌≡◌, ◌<◌, ◌++◌, ◌∷◌, [], List, length, ap, sym, subst, ◌∙◌}
use Rattle.std.specs.Option.{ForSome, option_map}
use Rattle.mk_value.specs.Heading.{Attribute}
use Rattle.live.specs.Chains.{AreLinked, AreNow, seen}
use Rattle.live.specs.Numbers.{over_of}
use Rattle.live.specs.Putting.{as_watch_error, spelled}
use Rattle.live.specs.States.{Watching, WatchState}
use Rattle.live.specs.Watching.{IsAsked, op_due, positions}
use Rattle.live.proofs.Seeing.{linked_inside}
use Rattle.live.proofs.Spelling.{asked_where, spelled_asked}
use Rattle.live.proofs.Standing.{now_linked}
use Rattle.live.proofs.Taking.{now_pushed, over_below}
use Rattle.live.proofs.watches.Watches.put.Goals as goal

pub seen_positions-requires-clause-linked : goal.seen_positions-requires-clause-linked
seen_positions-requires-clause-linked g c =
    let schema = g.T.TableRead.schema c.args.rows.now in
    let rows = g.T.TableRead.rows c.args.rows.now in
    let lent : c.deref-3.result.now ≡ c.args.self.now.watches = c.deref-3.ensures.value ∙ ap (λ (s : Watching). s.watches) c.self.view_is in
    subst (AreLinked rows) (sym lent) (now_linked schema rows c.args.self.now.watches c.requires.now)

pub invariant_of-self-2 : goal.invariant_of-self-2
invariant_of-self-2 g c =
    let schema = g.T.TableRead.schema c.args.rows.now in
    let rows = g.T.TableRead.rows c.args.rows.now in
    let watches = c.args.self.now.watches in
    let w = c.new.result in
    let view : c.self.inside.list.items ≡ watches = ap (λ (s : Watching). s.watches) c.self.view_is in
    let lent : c.deref.result.now ≡ watches = c.deref.ensures.value ∙ view in
    let lent3 : c.deref-3.result.now ≡ watches = c.deref-3.ensures.value ∙ view in
    let is_schema : c.schema-schema.result.now ≡ schema = c.schema-schema.ensures.value in
    let over : c.place-over.result ≡ over_of watches c.args.source = c.place-over.ensures ∙ ap (λ ws. over_of ws c.args.source) lent in
    let below : ForSome w.source (λ s. s < length watches) = subst (λ o. ForSome o (λ s. s < length watches)) (sym (c.new.ensures.source ∙ over)) (over_below watches c.args.source c.requires.source) in
    let spelled_is : w.op ≡ spelled schema c.args.op = c.new.ensures.op ∙ c.in_ok-op.ensures ∙ ap (λ (s : List Attribute). spelled s c.args.op) is_schema in
    let given : IsAsked schema c.args.op = asked_where schema c.args.op (c.in_ok-check_op.ensures ∙ ap (λ (s : List Attribute). option_map as_watch_error (op_due s c.args.op)) is_schema) in
    let distinct = c.schema-schema.ensures.whole.limits.distinct in
    let asked : IsAsked schema w.op = subst (IsAsked schema) (sym spelled_is) (spelled_asked schema c.args.op distinct given) in
    let kept : w.kept ≡ positions schema w.op (seen rows watches w.source) =
    c.new.ensures.kept ∙ c.in_ok-kept.ensures
    ∙ ap (λ ws. positions schema (spelled schema c.args.op) (seen rows ws c.place-over.result)) lent3
    ∙ ap (λ o. positions schema (spelled schema c.args.op) (seen rows watches o)) (sym c.new.ensures.source)
    ∙ ap (λ o. positions schema o (seen rows watches w.source)) (sym spelled_is) in
    let new : c.push.new.watches.items ≡ watches ++ w ∷ [] = c.in_ok-push.ensures.ok ∙ ap (λ (ws : List WatchState). ws ++ w ∷ []) view in
    let now : AreNow schema rows c.push.new.watches.items = subst (AreNow schema rows) (sym new) (now_pushed schema rows watches c.requires.now w below asked kept) in
    record {
      inside = linked_inside rows c.push.new.watches.items (now_linked schema rows c.push.new.watches.items now);
      ready = λ e is. cc;
    }

pub returns-clause-now : goal.returns-clause-now
returns-clause-now g c =
    let schema = g.T.TableRead.schema c.args.rows.now in
    let rows = g.T.TableRead.rows c.args.rows.now in
    let watches = c.args.self.now.watches in
    let w = c.new.result in
    let view : c.self.inside.list.items ≡ watches = ap (λ (s : Watching). s.watches) c.self.view_is in
    let lent : c.deref.result.now ≡ watches = c.deref.ensures.value ∙ view in
    let lent3 : c.deref-3.result.now ≡ watches = c.deref-3.ensures.value ∙ view in
    let is_schema : c.schema-schema.result.now ≡ schema = c.schema-schema.ensures.value in
    let over : c.place-over.result ≡ over_of watches c.args.source = c.place-over.ensures ∙ ap (λ ws. over_of ws c.args.source) lent in
    let below : ForSome w.source (λ s. s < length watches) = subst (λ o. ForSome o (λ s. s < length watches)) (sym (c.new.ensures.source ∙ over)) (over_below watches c.args.source c.requires.source) in
    let spelled_is : w.op ≡ spelled schema c.args.op = c.new.ensures.op ∙ c.in_ok-op.ensures ∙ ap (λ (s : List Attribute). spelled s c.args.op) is_schema in
    let given : IsAsked schema c.args.op = asked_where schema c.args.op (c.in_ok-check_op.ensures ∙ ap (λ (s : List Attribute). option_map as_watch_error (op_due s c.args.op)) is_schema) in
    let distinct = c.schema-schema.ensures.whole.limits.distinct in
    let asked : IsAsked schema w.op = subst (IsAsked schema) (sym spelled_is) (spelled_asked schema c.args.op distinct given) in
    let kept : w.kept ≡ positions schema w.op (seen rows watches w.source) =
    c.new.ensures.kept ∙ c.in_ok-kept.ensures
    ∙ ap (λ ws. positions schema (spelled schema c.args.op) (seen rows ws c.place-over.result)) lent3
    ∙ ap (λ o. positions schema (spelled schema c.args.op) (seen rows watches o)) (sym c.new.ensures.source)
    ∙ ap (λ o. positions schema o (seen rows watches w.source)) (sym spelled_is) in
    let new : c.push.new.watches.items ≡ watches ++ w ∷ [] = c.in_ok-push.ensures.ok ∙ ap (λ (ws : List WatchState). ws ++ w ∷ []) view in
    let now : AreNow schema rows c.push.new.watches.items = subst (AreNow schema rows) (sym new) (now_pushed schema rows watches c.requires.now w below asked kept) in
    now
