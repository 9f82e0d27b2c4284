use Rattle.std.proofs.Common.{◌≡◌, ◌<◌, length, Some, ap, subst, sym, ◌∙◌}
use Rattle.std.proofs.lemmas.Result.{IfOk-weaker}
use Rattle.live.specs.Numbers.{place_of}
use Rattle.live.specs.Chains.{seen}
use Rattle.relations.specs.Rows.{rows_at}
use Rattle.watches.specs.Keeping.{Kept, followed_of}
use Rattle.watches.specs.Watches.{shown_at}
use Rattle.watches.proofs.Grouped.{IsNamed, name_place, number_found, rows_at_name}
use Rattle.watches.proofs.followed.Followed.table.Goals as goal

pub watch_positions-requires-clause-there : goal.watch_positions-requires-clause-there
watch_positions-requires-clause-there c =
    let named = subst IsNamed c.self.view_is c.self.invariant in
    let watches : c.self.inside.watches.watches ≡ c.args.self.now.watching.watches = ap (λ (k : Kept). k.watching.watches) c.self.view_is in
    let found = number_found c.args.self.now c.args.name.now c.place.result c.number_at-number.result c.self.inside.watches.watches named watches c.place.ensures.value c.place.ensures.within c.number_at-number.ensures in
    subst (λ ws. place_of ws c.number_at-number.result < length ws) (sym watches) found.1

pub returns : goal.returns
returns c =
    let k = c.args.self.now in
    let name = c.args.name.now in
    let t = c.args.rows.now in
    let named = subst IsNamed c.self.view_is c.self.invariant in
    let watches : c.self.inside.watches.watches ≡ k.watching.watches = ap (λ (k : Kept). k.watching.watches) c.self.view_is in
    let found = number_found k name c.place.result c.number_at-number.result c.self.inside.watches.watches named watches c.place.ensures.value c.place.ensures.within c.number_at-number.ensures in
    let base = c.in_ok-same.field-0 in
    let places = c.in_ok-positions.positions in
    let lead : rows_at t.rows places ≡ (shown_at (followed_of k).watches (name_place k name) t).rows =
    c.in_ok-positions.ensures.lead
    ∙ ap (λ ws. seen t.rows ws (Some (place_of ws c.number_at-number.result))) watches
    ∙ ap (λ i. seen t.rows k.watching.watches (Some i)) found.0
    ∙ sym (rows_at_name k name t named c.requires.kept) in
    IfOk-weaker c.pick.result _ _
    (λ d e. e ∙ ap (λ s. record { schema = s; rows = rows_at base.rows places }) c.in_ok-same.ensures.schema
    ∙ ap (λ rs. record { schema = t.schema; rows = rows_at rs places }) c.in_ok-same.ensures.rows
    ∙ ap (λ rs. record { schema = t.schema; rows = rs }) lead)
    c.pick.ensures
