use Rattle.std.proofs.Common.{◌≡◌, ◌≢◌, ◌<◌, length, Some, ap, subst, sym, ◌∙◌, arith}
use Rattle.std.specs.List.{All, remove}
use Rattle.live.specs.Chains.{AreNow}
use Rattle.live.specs.Numbers.{place_of as place_numbered}
use Rattle.live.specs.Putting.{without_watch}
use Rattle.live.specs.States.{WatchState}
use Rattle.watches.specs.Groups.{AreNamed}
use Rattle.watches.specs.Keeping.{Kept, shown_by}
use Rattle.watches.proofs.Grouped.{IsNamed, name_place, none_over_name, number_found, taken_named}
use Rattle.watches.proofs.Naming.{shown_left, shown_length}
use Rattle.watches.proofs.followed.Followed.take_out.Goals as goal

pub take_out-requires-clause-there : goal.take_out-requires-clause-there
take_out-requires-clause-there c =
    let named = subst IsNamed c.self.view_is c.self.invariant in
    let watches : c.self.inside.watches.watches ≡ c.args.self.now.watching.watches = ap (λ (k : Kept). k.watching.watches) c.self.view_is in
    let found = number_found c.args.self.now c.args.name.now c.place-place.result c.number_at-number.result c.self.inside.watches.watches named watches c.place-place.ensures.value c.place-place.ensures.within c.number_at-number.ensures in
    subst (λ ws. place_numbered ws c.number_at-number.result < length ws) (sym watches) found.1

pub take_out-requires-clause-free : goal.take_out-requires-clause-free
take_out-requires-clause-free c =
    let k = c.args.self.now in
    let name = c.args.name.now in
    let named = subst IsNamed c.self.view_is c.self.invariant in
    let watches : c.self.inside.watches.watches ≡ k.watching.watches = ap (λ (k : Kept). k.watching.watches) c.self.view_is in
    let found = number_found k name c.place-place.result c.number_at-number.result c.self.inside.watches.watches named watches c.place-place.ensures.value c.place-place.ensures.within c.number_at-number.ensures in
    let free = none_over_name k name named c.requires.there c.requires.free in
    subst (λ ws. All (λ (w : WatchState). w.source ≢ Some (place_numbered ws c.number_at-number.result)) ws) (sym watches)
    (subst (λ i. All (λ (w : WatchState). w.source ≢ Some i) k.watching.watches) (sym found.0) free)

pub invariant_of-self : goal.invariant_of-self
invariant_of-self c =
    let k = c.args.self.now in
    let name = c.args.name.now in
    let named = subst IsNamed c.self.view_is c.self.invariant in
    let watches : c.self.inside.watches.watches ≡ k.watching.watches = ap (λ (k : Kept). k.watching.watches) c.self.view_is in
    let names = ap (λ (k : Kept). k.names) c.self.view_is in
    let found = number_found k name c.place-place.result c.number_at-number.result c.self.inside.watches.watches named watches c.place-place.ensures.value c.place-place.ensures.within c.number_at-number.ensures in
    let p : name_place k name < length k.names = subst (λ i. i < length k.names) c.place-place.ensures.value c.place-place.ensures.within in
    let left : c.take_out.new.self.watches ≡ without_watch (name_place k name) k.watching.watches =
    c.take_out.ensures.watches ∙ ap (λ ws. without_watch (place_numbered ws c.number_at-number.result) ws) watches ∙ ap (λ i. without_watch i k.watching.watches) found.0 in
    let names_left : c.remove.new.self.items ≡ remove k.names (name_place k name) =
    c.remove.ensures.items ∙ ap (λ ns. remove ns c.place-place.result) names ∙ ap (remove k.names) c.place-place.ensures.value in
    subst (λ ns. AreNamed ns c.take_out.new.self.watches) (sym names_left) (taken_named k.names k.watching.watches c.take_out.new.self.watches (name_place k name) named p (let long = shown_length k.names k.watching.watches named.paired in let more = c.requires.more in omega arith) left)

pub returns-clause-rest : goal.returns-clause-rest
returns-clause-rest c =
    let k = c.args.self.now in
    let name = c.args.name.now in
    let named = subst IsNamed c.self.view_is c.self.invariant in
    let watches : c.self.inside.watches.watches ≡ k.watching.watches = ap (λ (k : Kept). k.watching.watches) c.self.view_is in
    let names = ap (λ (k : Kept). k.names) c.self.view_is in
    let found = number_found k name c.place-place.result c.number_at-number.result c.self.inside.watches.watches named watches c.place-place.ensures.value c.place-place.ensures.within c.number_at-number.ensures in
    let left : c.take_out.new.self.watches ≡ without_watch (name_place k name) k.watching.watches =
    c.take_out.ensures.watches ∙ ap (λ ws. without_watch (place_numbered ws c.number_at-number.result) ws) watches ∙ ap (λ i. without_watch i k.watching.watches) found.0 in
    let names_left : c.remove.new.self.items ≡ remove k.names (name_place k name) =
    c.remove.ensures.items ∙ ap (λ ns. remove ns c.place-place.result) names ∙ ap (remove k.names) c.place-place.ensures.value in
    ap (λ v. record { view = v; watches = shown_by c.remove.new.self.items c.take_out.new.self.watches }) (ap (λ (k : Kept). k.view) c.self.view_is)
    ∙ ap (λ ns. record { view = k.view; watches = shown_by ns c.take_out.new.self.watches }) names_left
    ∙ ap (λ ws. record { view = k.view; watches = shown_by (remove k.names (name_place k name)) ws }) left
    ∙ ap (λ ss. record { view = k.view; watches = ss }) (shown_left k.names k.watching.watches (name_place k name) named.paired)

pub returns-clause-kept : goal.returns-clause-kept
returns-clause-kept c schema rows h =
    record {
      now = c.take_out.ensures.now schema rows (subst (λ (k : Kept). AreNow schema rows k.watching.watches) (sym c.self.view_is) h.now);
      noted = c.take_out.ensures.noted;
    }
