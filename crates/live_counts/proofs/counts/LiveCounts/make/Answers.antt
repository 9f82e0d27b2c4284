use Rattle.std.proofs.Common.{◌≡◌, ◌<◌, [], ℕ, Bool, List, None, All, length, get_or, refl, ap, arith, sym, subst, ◌∙◌}
use Rattle.mk_value.specs.Heading.{Attribute}
use Rattle.relations.specs.Positions.{order_of}
use Rattle.relations.specs.Refusals.{sort_due}
use Rattle.relations.specs.Sorting.{row_cmp}
use Rattle.relations.specs.declared.criteria.Key.{Key}
use Rattle.relations.proofs.Orders.{order_few, order_in}
use Rattle.live.specs.declared.op.WatchOp.TheVariants.{Sort}
use Rattle.live_counts.specs.Counting.{keys_in}
use Rattle.live_counts.specs.Runs.{flags, starts, ties}
use Rattle.live_counts.proofs.Flagging.{length-flags}
use Rattle.live_counts.proofs.Keying.{keys_asked}
use Rattle.live_counts.proofs.Numbering.{raised_in, raised_order}
use Rattle.live_counts.proofs.counts.LiveCounts.make.Goals as goal

pub positions_by-requires-clause-asked : goal.positions_by-requires-clause-asked
positions_by-requires-clause-asked g c =
    let schema = g.T.TableRead.schema c.args.rows.now in
    let rows = g.T.TableRead.rows c.args.rows.now in
    let keys = c.in_ok-keys.keys in
    let keys_is : keys ≡ keys_in schema c.args.keys = c.in_ok-keys.ensures ∙ ap (λ (s : List Attribute). keys_in s c.args.keys) c.schema.ensures.value in
    let asked : sort_due keys schema ≡ None = ap (λ (ks : List Key). sort_due ks schema) keys_is ∙ keys_asked schema c.args.keys c.schema.ensures.whole.limits.distinct c.requires.plain in
    asked

pub starts_of-requires-clause-asked : goal.starts_of-requires-clause-asked
starts_of-requires-clause-asked g c =
    let schema = g.T.TableRead.schema c.args.rows.now in
    let rows = g.T.TableRead.rows c.args.rows.now in
    let keys = c.in_ok-keys.keys in
    let keys_is : keys ≡ keys_in schema c.args.keys = c.in_ok-keys.ensures ∙ ap (λ (s : List Attribute). keys_in s c.args.keys) c.schema.ensures.value in
    let asked : sort_due keys schema ≡ None = ap (λ (ks : List Key). sort_due ks schema) keys_is ∙ keys_asked schema c.args.keys c.schema.ensures.whole.limits.distinct c.requires.plain in
    asked

pub starts_of-requires-clause-within : goal.starts_of-requires-clause-within
starts_of-requires-clause-within g c =
    let schema = g.T.TableRead.schema c.args.rows.now in
    let rows = g.T.TableRead.rows c.args.rows.now in
    let keys = c.in_ok-keys.keys in
    let lent : c.deref.result.now ≡ order_of (row_cmp schema keys) [] rows = c.deref.ensures.value ∙ c.in_ok-flat.ensures in
    subst (λ (ks : List ℕ). All (λ i. i < length rows) ks) (sym lent) (order_in (row_cmp schema keys) [] rows)

pub starts_of-requires-clause-few : goal.starts_of-requires-clause-few
starts_of-requires-clause-few g c =
    let schema = g.T.TableRead.schema c.args.rows.now in
    let rows = g.T.TableRead.rows c.args.rows.now in
    let keys = c.in_ok-keys.keys in
    let lent : c.deref.result.now ≡ order_of (row_cmp schema keys) [] rows = c.deref.ensures.value ∙ c.in_ok-flat.ensures in
    let size = ap length lent in
    let all = order_few (row_cmp schema keys) [] rows in
    let few = c.size-size.ensures.whole.few in
    omega arith

pub of-requires : goal.of-requires
of-requires g c =
    let rows = g.T.TableRead.rows c.args.rows.now in
    let schema = g.T.TableRead.schema c.args.rows.now in
    let keys = c.in_ok-keys.keys in
    let size = ap length (c.deref-2.ensures.value ∙ c.in_ok-flat.ensures) in
    let all = order_few (row_cmp schema keys) [] rows in
    let few = c.size-size.ensures.whole.few in
    omega arith

pub invariant_of-result : goal.invariant_of-result
invariant_of-result g c =
    let schema = g.T.TableRead.schema c.args.rows.now in
    let rows = g.T.TableRead.rows c.args.rows.now in
    let keys = c.in_ok-keys.keys in
    let same = ties schema (Sort keys) rows in
    let fs : List Bool = flags same c.deref.result.now in
    let lent : c.deref.result.now ≡ order_of (row_cmp schema keys) [] rows = c.deref.ensures.value ∙ c.in_ok-flat.ensures in
    let size = ap length lent in
    let kept = ap length (c.in_ok-kept.ensures ∙ c.deref-2.ensures.value ∙ c.in_ok-flat.ensures) in
    let all = order_few (row_cmp schema keys) [] rows in
    let few = c.size-size.ensures.whole.few in
    let long = length-flags same None c.deref.result.now in
    record {
      sorting = refl;
      in_range = subst (λ (ks : List ℕ). All (λ s. s < length c.in_ok-kept.kept.list) ks) (sym c.in_ok-starts.ensures) (λ k d p. let q = raised_in fs k d p in omega arith);
      in_order = subst (λ (ks : List ℕ). (a b d : ℕ) → a < b → b < length ks → get_or ks a d < get_or ks b d) (sym c.in_ok-starts.ensures) (raised_order fs);
      small = omega arith;
      ready = λ e is. cc;
    }

pub returns-clause-counts : goal.returns-clause-counts
returns-clause-counts g c =
    let schema = g.T.TableRead.schema c.args.rows.now in
    let rows = g.T.TableRead.rows c.args.rows.now in
    let keys = c.in_ok-keys.keys in
    let keys_is : keys ≡ keys_in schema c.args.keys = c.in_ok-keys.ensures ∙ ap (λ (s : List Attribute). keys_in s c.args.keys) c.schema.ensures.value in
    let asked : sort_due keys schema ≡ None = ap (λ (ks : List Key). sort_due ks schema) keys_is ∙ keys_asked schema c.args.keys c.schema.ensures.whole.limits.distinct c.requires.plain in
    record {
      small = c.size-size.ensures.whole.few;
      asked = asked;
      kept = c.in_ok-kept.ensures ∙ c.deref-2.ensures.value ∙ c.in_ok-flat.ensures;
      starts_are = c.in_ok-starts.ensures ∙ ap (starts (ties schema (Sort keys) rows)) (c.deref.ensures.value ∙ sym (c.in_ok-kept.ensures ∙ c.deref-2.ensures.value));
    }
