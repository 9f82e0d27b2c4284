use Rattle.std.proofs.Common.{◌≡◌, ◌<◌, ◌≤◌, ◌++◌, ◌∷◌, [], false, not, ltb, leb, length, get_or, set, position, Some, None, ap, subst, sym, ◌∙◌, arith, inl, inr}
use Rattle.std.specs.List.{All}
use Rattle.std.specs.Option.{ForSome}
use Rattle.std.proofs.lemmas.List.{get_or_read}
use Rattle.std.proofs.lemmas.List.Folds.{list_any_none}
use Rattle.std.proofs.lemmas.List.Sums.{get_or-le-sum_by}
use Rattle.std.proofs.lemmas.Option.{same_Some}
use Rattle.std.proofs.lemmas.Result.{IfOk-weaker}
use Rattle.mk_value.specs.Names.{same_bytes}
use Rattle.tables.specs.Tables.{StoredTable}
use Rattle.view_store.specs.Views.{table_of}
use Rattle.live.specs.Chains.{source_depth}
use Rattle.live.specs.Laws.{shown}
use Rattle.live.specs.Putting.{AnswersPut, spelled}
use Rattle.watches.specs.Lines.{watch_due}
use Rattle.watches.specs.Groups.{AreWhole, IsFirst, IsPutOver}
use Rattle.watches.specs.Keeping.{AreKept, IsKeptOver, Kept, followed, followed_of}
use Rattle.watches.specs.Refusals.{depth_under, depths}
use Rattle.watches.specs.Watches.{Followed, Shown, Source, count, rows_shown, rows_under, source_of, watches_of, with_watch}
use Rattle.watches.proofs.Finding.{IsFirstAt, any_map, first_at, none_at}
use Rattle.watches.proofs.Holding.{kept_over}
use Rattle.watches.proofs.Placed.{below_full, first_kept, full_is, grown, last_rows, over_below, over_none, placed_at, placed_kept, placed_last, watches_at}
use Rattle.watches.proofs.Whole.{count_is, count_set, no_kept, size_of, whole_set}
use Rattle.watches.proofs.following.Following.put.Goals as goal

pub put-requires-clause-few : goal.put-requires-clause-few
put-requires-clause-few c =
    let all = c.args.self.now in
    let name = c.args.source.now in
    let views = c.args.views.now in
    let src : Source = source_of (followed all) name in
    let view_is : c.in_ok-view.view ≡ src.view = c.in_ok-view.ensures ∙ c.view_under.ensures in
    let over_is : c.over-over.result ≡ src.over = c.over-over.ensures in
    let table = c.shared-table.result.now in
    let there : table_of views src.view ≡ Some table = ap (table_of views) (sym view_is) ∙ c.shared-table.ensures in
    let at = c.in-Some.at in
    let found = ap (position (λ (k : Kept). same_bytes k.view c.in_ok-view.view)) (sym (c.deref.ensures.value ∙ c.self.view_is)) ∙ sym c.find_view.ensures ∙ c.in-Some.is in
    let first : IsFirstAt (λ (k : Kept). same_bytes k.view src.view) all at =
    subst (λ v. IsFirstAt (λ (k : Kept). same_bytes k.view v) all at) view_is (first_at (λ (k : Kept). same_bytes k.view c.in_ok-view.view) all at no_kept found) in
    let k = c.index_mut.result.now in
    let k_is : k ≡ get_or all at no_kept = get_or_read all at k first.within (c.index_mut.ensures.value ∙ ap (λ ks. get_or ks at k) c.self.view_is) no_kept in
    λ e.
    let below = below_full c.count-is_full.result e in
    let counted = c.count-is_full.ensures in
    let all_of = count_is all in
    let most = get_or-le-sum_by size_of all at no_kept first.within in
    let size = ap size_of k_is in
    omega arith

pub put-requires-clause-over : goal.put-requires-clause-over
put-requires-clause-over c =
    let all = c.args.self.now in
    let name = c.args.source.now in
    let views = c.args.views.now in
    let src : Source = source_of (followed all) name in
    let view_is : c.in_ok-view.view ≡ src.view = c.in_ok-view.ensures ∙ c.view_under.ensures in
    let over_is : c.over-over.result ≡ src.over = c.over-over.ensures in
    let table = c.shared-table.result.now in
    let there : table_of views src.view ≡ Some table = ap (table_of views) (sym view_is) ∙ c.shared-table.ensures in
    let at = c.in-Some.at in
    let found = ap (position (λ (k : Kept). same_bytes k.view c.in_ok-view.view)) (sym (c.deref.ensures.value ∙ c.self.view_is)) ∙ sym c.find_view.ensures ∙ c.in-Some.is in
    let first : IsFirstAt (λ (k : Kept). same_bytes k.view src.view) all at =
    subst (λ v. IsFirstAt (λ (k : Kept). same_bytes k.view v) all at) view_is (first_at (λ (k : Kept). same_bytes k.view c.in_ok-view.view) all at no_kept found) in
    let k = c.index_mut.result.now in
    let k_is : k ≡ get_or all at no_kept = get_or_read all at k first.within (c.index_mut.ensures.value ∙ ap (λ ks. get_or ks at k) c.self.view_is) no_kept in
    let whole = subst AreWhole c.self.view_is c.self.invariant in
    subst (λ (k : Kept). ForSome c.over-over.result (λ x. x < size_of k)) (sym k_is)
    (subst (λ o. ForSome o (λ x. x < size_of (get_or all at no_kept))) (sym over_is) (over_below all name whole at first))

pub put-requires-clause-kept : goal.put-requires-clause-kept
put-requires-clause-kept c =
    let all = c.args.self.now in
    let name = c.args.source.now in
    let views = c.args.views.now in
    let src : Source = source_of (followed all) name in
    let view_is : c.in_ok-view.view ≡ src.view = c.in_ok-view.ensures ∙ c.view_under.ensures in
    let over_is : c.over-over.result ≡ src.over = c.over-over.ensures in
    let table = c.shared-table.result.now in
    let there : table_of views src.view ≡ Some table = ap (table_of views) (sym view_is) ∙ c.shared-table.ensures in
    let at = c.in-Some.at in
    let found = ap (position (λ (k : Kept). same_bytes k.view c.in_ok-view.view)) (sym (c.deref.ensures.value ∙ c.self.view_is)) ∙ sym c.find_view.ensures ∙ c.in-Some.is in
    let first : IsFirstAt (λ (k : Kept). same_bytes k.view src.view) all at =
    subst (λ v. IsFirstAt (λ (k : Kept). same_bytes k.view v) all at) view_is (first_at (λ (k : Kept). same_bytes k.view c.in_ok-view.view) all at no_kept found) in
    let k = c.index_mut.result.now in
    let k_is : k ≡ get_or all at no_kept = get_or_read all at k first.within (c.index_mut.ensures.value ∙ ap (λ ks. get_or ks at k) c.self.view_is) no_kept in
    subst (IsKeptOver table.schema table.rows) (sym k_is) (kept_over views all src.view table c.requires.kept there at no_kept first.within (first.here no_kept))

pub invariant_of-self : goal.invariant_of-self
invariant_of-self c =
    let all = c.args.self.now in
    let name = c.args.source.now in
    let views = c.args.views.now in
    let src : Source = source_of (followed all) name in
    let view_is : c.in_ok-view.view ≡ src.view = c.in_ok-view.ensures ∙ c.view_under.ensures in
    let over_is : c.over-over.result ≡ src.over = c.over-over.ensures in
    let table = c.shared-table.result.now in
    let there : table_of views src.view ≡ Some table = ap (table_of views) (sym view_is) ∙ c.shared-table.ensures in
    let at = c.in-Some.at in
    let found = ap (position (λ (k : Kept). same_bytes k.view c.in_ok-view.view)) (sym (c.deref.ensures.value ∙ c.self.view_is)) ∙ sym c.find_view.ensures ∙ c.in-Some.is in
    let first : IsFirstAt (λ (k : Kept). same_bytes k.view src.view) all at =
    subst (λ v. IsFirstAt (λ (k : Kept). same_bytes k.view v) all at) view_is (first_at (λ (k : Kept). same_bytes k.view c.in_ok-view.view) all at no_kept found) in
    let k = c.index_mut.result.now in
    let k_is : k ≡ get_or all at no_kept = get_or_read all at k first.within (c.index_mut.ensures.value ∙ ap (λ ks. get_or ks at k) c.self.view_is) no_kept in
    let new = c.put.new.self in
    let e = c.put.ensures in
    let whole : AreWhole all = subst AreWhole c.self.view_is c.self.invariant in
    let size = ap size_of k_is in
    let sum = count_set all at new no_kept first.within in
    let few = whole.few in
    let counted = c.count-is_full.ensures in
    let view : new.view ≡ (get_or all at new).view = e.view ∙ ap (λ (k : Kept). k.view) (get_or_read all at k first.within (c.index_mut.ensures.value ∙ ap (λ ks. get_or ks at k) c.self.view_is) new) in
    let fits : count (followed (set all at new)) ≤ 64 =
    elim (grown table.schema table.rows c.args.op (source_depth (depths [] (followed_of k).watches) c.over-over.result) (leb 64 c.count-is_full.result) k new c.args.name.now c.over-over.result c.put.result e.due e.put e.err) [
      | inl g ↦ let below = below_full c.count-is_full.result g.0 in let more = g.1 in omega arith
      | inr g ↦ omega arith
    ] in
    subst (λ ks. AreWhole (set ks at new)) (sym c.self.view_is) (whole_set all at new whole first.within view fits)

pub returns-in-Some-clause-due : goal.returns-in-Some-clause-due
returns-in-Some-clause-due c =
    let all = c.args.self.now in
    let name = c.args.source.now in
    let views = c.args.views.now in
    let src : Source = source_of (followed all) name in
    let view_is : c.in_ok-view.view ≡ src.view = c.in_ok-view.ensures ∙ c.view_under.ensures in
    let over_is : c.over-over.result ≡ src.over = c.over-over.ensures in
    let table = c.shared-table.result.now in
    let there : table_of views src.view ≡ Some table = ap (table_of views) (sym view_is) ∙ c.shared-table.ensures in
    let at = c.in-Some.at in
    let found = ap (position (λ (k : Kept). same_bytes k.view c.in_ok-view.view)) (sym (c.deref.ensures.value ∙ c.self.view_is)) ∙ sym c.find_view.ensures ∙ c.in-Some.is in
    let first : IsFirstAt (λ (k : Kept). same_bytes k.view src.view) all at =
    subst (λ v. IsFirstAt (λ (k : Kept). same_bytes k.view v) all at) view_is (first_at (λ (k : Kept). same_bytes k.view c.in_ok-view.view) all at no_kept found) in
    let k = c.index_mut.result.now in
    let k_is : k ≡ get_or all at no_kept = get_or_read all at k first.within (c.index_mut.ensures.value ∙ ap (λ ks. get_or ks at k) c.self.view_is) no_kept in
    let full : leb 64 c.count-is_full.result ≡ not (ltb (count (followed all)) 64) = full_is c.count-is_full.result ∙ ap (λ n. not (ltb n 64)) c.count-is_full.ensures in
    let op = c.args.op in
    λ t is.
    let same : table ≡ t = same_Some table t (sym there ∙ is) in
    let watches : (followed_of k).watches ≡ watches_of (followed all) src.view = ap (λ (k : Kept). (followed_of k).watches) k_is ∙ sym (watches_at all src.view at first) in
    let deep : source_depth (depths [] (followed_of k).watches) c.over-over.result ≡ depth_under (followed all) src =
    ap (λ ws. source_depth (depths [] ws) c.over-over.result) watches ∙ ap (source_depth (depths [] (watches_of (followed all) src.view))) over_is in
    subst (λ o. AnswersPut o c.put.result)
    (ap (λ (s : StoredTable). watch_due s.schema op (source_depth (depths [] (followed_of k).watches) c.over-over.result) (leb 64 c.count-is_full.result)) same
    ∙ ap (λ d. watch_due t.schema op d (leb 64 c.count-is_full.result)) deep
    ∙ ap (watch_due t.schema op (depth_under (followed all) src)) full)
    c.put.ensures.due

pub returns-in-Some-clause-ok : goal.returns-in-Some-clause-ok
returns-in-Some-clause-ok c =
    let all = c.args.self.now in
    let name = c.args.source.now in
    let views = c.args.views.now in
    let src : Source = source_of (followed all) name in
    let view_is : c.in_ok-view.view ≡ src.view = c.in_ok-view.ensures ∙ c.view_under.ensures in
    let over_is : c.over-over.result ≡ src.over = c.over-over.ensures in
    let table = c.shared-table.result.now in
    let there : table_of views src.view ≡ Some table = ap (table_of views) (sym view_is) ∙ c.shared-table.ensures in
    let at = c.in-Some.at in
    let found = ap (position (λ (k : Kept). same_bytes k.view c.in_ok-view.view)) (sym (c.deref.ensures.value ∙ c.self.view_is)) ∙ sym c.find_view.ensures ∙ c.in-Some.is in
    let first : IsFirstAt (λ (k : Kept). same_bytes k.view src.view) all at =
    subst (λ v. IsFirstAt (λ (k : Kept). same_bytes k.view v) all at) view_is (first_at (λ (k : Kept). same_bytes k.view c.in_ok-view.view) all at no_kept found) in
    let k = c.index_mut.result.now in
    let k_is : k ≡ get_or all at no_kept = get_or_read all at k first.within (c.index_mut.ensures.value ∙ ap (λ ks. get_or ks at k) c.self.view_is) no_kept in
    let new = c.put.new.self in
    let e = c.put.ensures in
    λ t is.
    let same : table ≡ t = same_Some table t (sym there ∙ is) in
    let s : Shown = record { name = c.args.name.now; source = src.over; op = spelled t.schema c.args.op; followed = 0 } in
    IfOk-weaker c.put.result
    (λ size. IsPutOver table.schema table.rows (followed_of k).watches c.args.name.now c.over-over.result c.args.op new size)
    (λ size. followed (set c.self.inside.list.items at new) ≡ with_watch (followed all) src.view s)
    (λ size put. ap (λ ks. followed (set ks at new)) c.self.view_is ∙ placed_at all src.view at first s new
    (ap (λ v. record { view = v; watches = (followed_of new).watches }) e.view
    ∙ ap (λ ws. record { view = k.view; watches = ws }) put.watches
    ∙ ap (λ o. record { view = k.view; watches = (followed_of k).watches ++ record { name = c.args.name.now; source = o; op = spelled table.schema c.args.op; followed = 0 } ∷ [] }) over_is
    ∙ ap (λ (u : StoredTable). record { view = k.view; watches = (followed_of k).watches ++ record { name = c.args.name.now; source = src.over; op = spelled u.schema c.args.op; followed = 0 } ∷ [] }) same
    ∙ ap (λ (k : Kept). record { view = k.view; watches = (followed_of k).watches ++ s ∷ [] }) k_is))
    e.put

pub returns-in-Some-clause-size : goal.returns-in-Some-clause-size
returns-in-Some-clause-size c =
    let all = c.args.self.now in
    let name = c.args.source.now in
    let views = c.args.views.now in
    let src : Source = source_of (followed all) name in
    let view_is : c.in_ok-view.view ≡ src.view = c.in_ok-view.ensures ∙ c.view_under.ensures in
    let over_is : c.over-over.result ≡ src.over = c.over-over.ensures in
    let table = c.shared-table.result.now in
    let there : table_of views src.view ≡ Some table = ap (table_of views) (sym view_is) ∙ c.shared-table.ensures in
    let at = c.in-Some.at in
    let found = ap (position (λ (k : Kept). same_bytes k.view c.in_ok-view.view)) (sym (c.deref.ensures.value ∙ c.self.view_is)) ∙ sym c.find_view.ensures ∙ c.in-Some.is in
    let first : IsFirstAt (λ (k : Kept). same_bytes k.view src.view) all at =
    subst (λ v. IsFirstAt (λ (k : Kept). same_bytes k.view v) all at) view_is (first_at (λ (k : Kept). same_bytes k.view c.in_ok-view.view) all at no_kept found) in
    let k = c.index_mut.result.now in
    let k_is : k ≡ get_or all at no_kept = get_or_read all at k first.within (c.index_mut.ensures.value ∙ ap (λ ks. get_or ks at k) c.self.view_is) no_kept in
    let new = c.put.new.self in
    let e = c.put.ensures in
    λ t is.
    let same : table ≡ t = same_Some table t (sym there ∙ is) in
    let old = (followed_of k).watches in
    let s : Shown = record { name = c.args.name.now; source = c.over-over.result; op = spelled table.schema c.args.op; followed = 0 } in
    let watches : old ≡ watches_of (followed all) src.view = ap (λ (k : Kept). (followed_of k).watches) k_is ∙ sym (watches_at all src.view at first) in
    IfOk-weaker c.put.result
    (λ size. IsPutOver table.schema table.rows old c.args.name.now c.over-over.result c.args.op new size)
    (λ size. size ≡ length (shown t.schema (spelled t.schema c.args.op) (rows_under t (watches_of (followed all) src.view) src.over)))
    (λ size put. sym put.long
    ∙ ap (λ ws. length (get_or (rows_shown table.schema table.rows [] ws) (length old) [])) put.watches
    ∙ ap length (last_rows table old s)
    ∙ ap (λ ws. length (shown table.schema (spelled table.schema c.args.op) (rows_under table ws c.over-over.result))) watches
    ∙ ap (λ o. length (shown table.schema (spelled table.schema c.args.op) (rows_under table (watches_of (followed all) src.view) o))) over_is
    ∙ ap (λ (u : StoredTable). length (shown u.schema (spelled u.schema c.args.op) (rows_under u (watches_of (followed all) src.view) src.over))) same)
    e.put

pub returns-in-Some-clause-kept : goal.returns-in-Some-clause-kept
returns-in-Some-clause-kept c =
    let all = c.args.self.now in
    let name = c.args.source.now in
    let views = c.args.views.now in
    let src : Source = source_of (followed all) name in
    let view_is : c.in_ok-view.view ≡ src.view = c.in_ok-view.ensures ∙ c.view_under.ensures in
    let over_is : c.over-over.result ≡ src.over = c.over-over.ensures in
    let table = c.shared-table.result.now in
    let there : table_of views src.view ≡ Some table = ap (table_of views) (sym view_is) ∙ c.shared-table.ensures in
    let at = c.in-Some.at in
    let found = ap (position (λ (k : Kept). same_bytes k.view c.in_ok-view.view)) (sym (c.deref.ensures.value ∙ c.self.view_is)) ∙ sym c.find_view.ensures ∙ c.in-Some.is in
    let first : IsFirstAt (λ (k : Kept). same_bytes k.view src.view) all at =
    subst (λ v. IsFirstAt (λ (k : Kept). same_bytes k.view v) all at) view_is (first_at (λ (k : Kept). same_bytes k.view c.in_ok-view.view) all at no_kept found) in
    let k = c.index_mut.result.now in
    let k_is : k ≡ get_or all at no_kept = get_or_read all at k first.within (c.index_mut.ensures.value ∙ ap (λ ks. get_or ks at k) c.self.view_is) no_kept in
    let new = c.put.new.self in
    let e = c.put.ensures in
    subst (λ ks. AreKept views (set ks at new)) (sym c.self.view_is)
    (placed_kept all src.view at first views table new there (e.view ∙ ap (λ (k : Kept). k.view) k_is) e.kept c.requires.kept)

pub put_first-requires-clause-first : goal.put_first-requires-clause-first
put_first-requires-clause-first c =
    let all = c.args.self.now in
    let view = c.in_ok-view.view in
    let none = none_at (λ (k : Kept). same_bytes k.view view) all
    (ap (position (λ (k : Kept). same_bytes k.view view)) (sym (c.deref.ensures.value ∙ c.self.view_is)) ∙ sym c.find_view.ensures ∙ c.in-None.is) in
    any_map (λ (f : Followed). same_bytes f.view view) followed_of all ∙ list_any_none (λ (k : Kept). same_bytes k.view view) all none

pub returns-in-None-clause-due : goal.returns-in-None-clause-due
returns-in-None-clause-due c =
    let all = c.args.self.now in
    let name = c.args.source.now in
    let views = c.args.views.now in
    let src : Source = source_of (followed all) name in
    let view_is : c.in_ok-view.view ≡ src.view = c.in_ok-view.ensures ∙ c.view_under.ensures in
    let over_is : c.over-over.result ≡ src.over = c.over-over.ensures in
    let table = c.shared-table.result.now in
    let there : table_of views src.view ≡ Some table = ap (table_of views) (sym view_is) ∙ c.shared-table.ensures in
    let none : All (λ (k : Kept). same_bytes k.view src.view ≡ false) all =
    subst (λ v. All (λ (k : Kept). same_bytes k.view v ≡ false) all) view_is
    (none_at (λ (k : Kept). same_bytes k.view c.in_ok-view.view) all
    (ap (position (λ (k : Kept). same_bytes k.view c.in_ok-view.view)) (sym (c.deref.ensures.value ∙ c.self.view_is)) ∙ sym c.find_view.ensures ∙ c.in-None.is)) in
    let full : leb 64 c.count-is_full.result ≡ not (ltb (count (followed all)) 64) = full_is c.count-is_full.result ∙ ap (λ n. not (ltb n 64)) c.count-is_full.ensures in
    let op = c.args.op in
    λ t is.
    let same : table ≡ t = same_Some table t (sym there ∙ is) in
    let deep : 0 ≡ depth_under (followed all) src = ap (source_depth (depths [] (watches_of (followed all) src.view))) (sym (over_none all name none)) in
    subst (λ o. AnswersPut o c.put_first.result)
    (ap (λ (s : StoredTable). watch_due s.schema op 0 (leb 64 c.count-is_full.result)) same
    ∙ ap (λ d. watch_due t.schema op d (leb 64 c.count-is_full.result)) deep
    ∙ ap (watch_due t.schema op (depth_under (followed all) src)) full)
    c.put_first.ensures.due

pub returns-in-None-clause-ok : goal.returns-in-None-clause-ok
returns-in-None-clause-ok c =
    let all = c.args.self.now in
    let name = c.args.source.now in
    let views = c.args.views.now in
    let src : Source = source_of (followed all) name in
    let view_is : c.in_ok-view.view ≡ src.view = c.in_ok-view.ensures ∙ c.view_under.ensures in
    let over_is : c.over-over.result ≡ src.over = c.over-over.ensures in
    let table = c.shared-table.result.now in
    let there : table_of views src.view ≡ Some table = ap (table_of views) (sym view_is) ∙ c.shared-table.ensures in
    let none : All (λ (k : Kept). same_bytes k.view src.view ≡ false) all =
    subst (λ v. All (λ (k : Kept). same_bytes k.view v ≡ false) all) view_is
    (none_at (λ (k : Kept). same_bytes k.view c.in_ok-view.view) all
    (ap (position (λ (k : Kept). same_bytes k.view c.in_ok-view.view)) (sym (c.deref.ensures.value ∙ c.self.view_is)) ∙ sym c.find_view.ensures ∙ c.in-None.is)) in
    let new = c.put_first.new.self in
    λ t is.
    let same : table ≡ t = same_Some table t (sym there ∙ is) in
    let s : Shown = record { name = c.args.name.now; source = src.over; op = spelled t.schema c.args.op; followed = 0 } in
    IfOk-weaker c.put_first.result
    (λ size. IsFirst table.schema table.rows c.in_ok-view.view c.args.name.now c.args.op all new size)
    (λ size. followed new ≡ with_watch (followed all) src.view s)
    (λ size put. ap followed put.last ∙ placed_last all src.view s put.watches none (put.over ∙ view_is)
    (put.put.watches
    ∙ ap (λ o. record { name = c.args.name.now; source = o; op = spelled table.schema c.args.op; followed = 0 } ∷ []) (sym (over_none all name none))
    ∙ ap (λ (u : StoredTable). record { name = c.args.name.now; source = src.over; op = spelled u.schema c.args.op; followed = 0 } ∷ []) same))
    c.put_first.ensures.put

pub returns-in-None-clause-size : goal.returns-in-None-clause-size
returns-in-None-clause-size c =
    let all = c.args.self.now in
    let name = c.args.source.now in
    let views = c.args.views.now in
    let src : Source = source_of (followed all) name in
    let view_is : c.in_ok-view.view ≡ src.view = c.in_ok-view.ensures ∙ c.view_under.ensures in
    let over_is : c.over-over.result ≡ src.over = c.over-over.ensures in
    let table = c.shared-table.result.now in
    let there : table_of views src.view ≡ Some table = ap (table_of views) (sym view_is) ∙ c.shared-table.ensures in
    let none : All (λ (k : Kept). same_bytes k.view src.view ≡ false) all =
    subst (λ v. All (λ (k : Kept). same_bytes k.view v ≡ false) all) view_is
    (none_at (λ (k : Kept). same_bytes k.view c.in_ok-view.view) all
    (ap (position (λ (k : Kept). same_bytes k.view c.in_ok-view.view)) (sym (c.deref.ensures.value ∙ c.self.view_is)) ∙ sym c.find_view.ensures ∙ c.in-None.is)) in
    let new = c.put_first.new.self in
    λ t is.
    let same : table ≡ t = same_Some table t (sym there ∙ is) in
    let s : Shown = record { name = c.args.name.now; source = None; op = spelled table.schema c.args.op; followed = 0 } in
    IfOk-weaker c.put_first.result
    (λ size. IsFirst table.schema table.rows c.in_ok-view.view c.args.name.now c.args.op all new size)
    (λ size. size ≡ length (shown t.schema (spelled t.schema c.args.op) (rows_under t (watches_of (followed all) src.view) src.over)))
    (λ size put. sym put.put.long
    ∙ ap (λ ws. length (get_or (rows_shown table.schema table.rows [] ws) 0 [])) put.put.watches
    ∙ ap length (last_rows table [] s)
    ∙ ap (λ (u : StoredTable). length (shown u.schema (spelled u.schema c.args.op) u.rows)) same
    ∙ ap (λ o. length (shown t.schema (spelled t.schema c.args.op) (rows_under t (watches_of (followed all) src.view) o))) (sym (over_none all name none)))
    c.put_first.ensures.put

pub returns-in-None-clause-kept : goal.returns-in-None-clause-kept
returns-in-None-clause-kept c =
    let all = c.args.self.now in
    let name = c.args.source.now in
    let views = c.args.views.now in
    let src : Source = source_of (followed all) name in
    let view_is : c.in_ok-view.view ≡ src.view = c.in_ok-view.ensures ∙ c.view_under.ensures in
    let over_is : c.over-over.result ≡ src.over = c.over-over.ensures in
    let table = c.shared-table.result.now in
    let there : table_of views src.view ≡ Some table = ap (table_of views) (sym view_is) ∙ c.shared-table.ensures in
    first_kept views table all c.put_first.new.self c.in_ok-view.view c.args.name.now c.args.op c.put_first.result c.put_first.ensures.put c.put_first.ensures.err (ap (table_of views) view_is ∙ there) c.requires.kept
