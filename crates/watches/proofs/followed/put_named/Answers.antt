use Rattle.std.proofs.Common.{◌≡◌, ◌++◌, ◌∷◌, [], length, get_or, ap, sym, ◌∙◌, refl, arith}
use Rattle.std.proofs.lemmas.List.{get_or_push, length_push}
use Rattle.live.specs.Numbers.{over_of, place_of}
use Rattle.live.specs.States.{WatchState}
use Rattle.watches.proofs.Grouped.{any_watch}
use Rattle.watches.proofs.Numbering.{put_numbered}
use Rattle.watches.proofs.followed.put_named.Goals as goal

pub len-requires : goal.len-requires
len-requires g c =
    let put = c.in_ok-number.ensures.put in
    let old = c.args.watches.now.watches in
    let new = c.put_watch.new.watches.watches in
    let placed = put_numbered (g.T.TableRead.schema c.args.rows.now) (g.T.TableRead.rows c.args.rows.now) old new (over_of old c.number_of-source.result) c.args.op c.in_ok-number.number c.requires.numbered put in
    let at = placed.1 in
    let long = ap length put.last ∙ length_push old put.watch in
    omega arith

pub returns-clause-put : goal.returns-clause-put
returns-clause-put g c =
    let put = c.in_ok-number.ensures.put in
    let old = c.args.watches.now.watches in
    let new = c.put_watch.new.watches.watches in
    let placed = put_numbered (g.T.TableRead.schema c.args.rows.now) (g.T.TableRead.rows c.args.rows.now) old new (over_of old c.number_of-source.result) c.args.op c.in_ok-number.number c.requires.numbered put in
    let here : get_or new (place_of new c.in_ok-number.number) any_watch ≡ put.watch =
    ap (λ i. get_or new i any_watch) placed.1 ∙ ap (λ ws. get_or ws (length old) any_watch) put.last ∙ get_or_push old put.watch any_watch (length old) refl in
    record {
      watch = put.watch;
      last = put.last;
      named = c.push_reserved.ensures.items ∙ ap (λ ns. ns ++ c.in_ok-name.name ∷ []) c.make_room.ensures.same ∙ ap (λ n. c.args.names.now.items ++ n ∷ []) c.in_ok-name.ensures;
      numbered = placed.0;
      source = put.over ∙ c.number_of-source.ensures.over;
      asked = put.asked;
      fresh = put.fresh;
      long = ap (λ (w : WatchState). length w.kept) (sym here) ∙ sym (c.len.ensures any_watch);
      now = c.in_ok-number.ensures.now;
      noted = c.in_ok-number.ensures.noted;
    }
