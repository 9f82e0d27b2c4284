use Rattle.std.proofs.Common.{◌≡◌, ◌<◌, length, ap, subst, sym, ◌∙◌}
use Rattle.live.specs.Numbers.{place_of}
use Rattle.live.specs.States.{Watching}
use Rattle.watches.proofs.Shown.{absent_at, named_at}
use Rattle.watches.proofs.following.Following.watched.Goals as goal

pub watched-requires : goal.watched-requires
watched-requires c =
    (named_at c.args.self.now c.self.inside.list.items c.deref.result.now c.args.name.now c.in-Some.at c.index.result.now c.self.view_is c.deref.ensures.value (sym c.find.ensures ∙ c.in-Some.is) c.index.ensures).has

pub returns-in-Some : goal.returns-in-Some
returns-in-Some c =
    let name = c.args.name.now in
    let k = c.index.result.now in
    let named = named_at c.args.self.now c.self.inside.list.items c.deref.result.now name c.in-Some.at k c.self.view_is c.deref.ensures.value (sym c.find.ensures ∙ c.in-Some.is) c.index.ensures in
    let e = c.watched.ensures in
    let n = c.watched.result.number in
    record {
      watches = k;
      found = named.first;
      watching_is = sym e.watches;
      paired = subst (λ (w : Watching). length k.names ≡ length w.watches) (sym e.watches) e.paired;
      there = subst (λ (w : Watching). place_of w.watches n < length w.watches) (sym e.watches) e.there;
      place = ap (λ (w : Watching). place_of w.watches n) e.watches ∙ e.place;
    }

pub returns-in-None : goal.returns-in-None
returns-in-None c =
    (absent_at c.args.self.now c.self.inside.list.items c.deref.result.now c.args.name.now c.self.view_is c.deref.ensures.value (sym c.find.ensures ∙ c.in-None.is)).1
