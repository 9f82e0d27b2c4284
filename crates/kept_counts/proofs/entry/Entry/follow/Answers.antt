use Rattle.std.proofs.Common.{List, ap, sym, subst, ◌∙◌}
use Rattle.std.specs.Prelude.{Option}
use Rattle.std.specs.Option.{ForSome, option_map}
use Rattle.mk_value.specs.Data.{Datum}
use Rattle.mk_value.specs.Names.{same_bytes}
use Rattle.kept_counts.specs.declared.kept.Kept.{Kept}
use Rattle.kept_counts.specs.Keeping.{Counted, HasNoted, IsWaiting, what_of}
use Rattle.kept_counts.proofs.Marking.{follows_here}
use Rattle.kept_counts.proofs.entry.Entry.follow.Goals as goal

pub followed-kept-requires : goal.followed-kept-requires
followed-kept-requires c =
    let view = c.args.view.now in
    let here = ap (λ (e : Counted). same_bytes e.view view) (sym c.self.view_is) ∙ sym c.eq.ensures ∙ c.if-eq.true in
    let h = c.requires.noted here in
    let same = ap (λ (e : Counted). e.kept) (sym c.self.view_is) ∙ sym c.take.ensures.value in
    record { noted = (h.0, subst (λ (o : Option Kept). ForSome o (HasNoted c.args.rows.now.schema h.0 c.args.edit)) same h.1, h.2) }

pub returns-then-eq : goal.returns-then-eq
returns-then-eq c =
    let view = c.args.view.now in
    let schema = c.args.rows.now.schema in
    let rows = c.args.rows.now.rows in
    let old = c.args.self.now in
    let here = ap (λ (e : Counted). same_bytes e.view view) (sym c.self.view_is) ∙ sym c.eq.ensures ∙ c.if-eq.true in
    let over = subst (λ (o : Option Kept). ForSome o (IsWaiting schema rows)) (sym c.replace.ensures.after) c.followed-kept.ensures.over in
    record {
      follows = follows_here view schema rows old _ here (ap (λ (e : Counted). e.view) c.self.view_is) over;
      stays =
          ap (option_map what_of) c.replace.ensures.after ∙ c.followed-kept.ensures.stays
          ∙ ap (option_map what_of) (c.take.ensures.value ∙ ap (λ (e : Counted). e.kept) c.self.view_is);
    }
