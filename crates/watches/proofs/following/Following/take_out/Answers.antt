use Rattle.std.proofs.Common.{◌≡◌, ◌<◌, false, get_or, set, ap, subst, sym, ◌∙◌, arith}
use Rattle.std.specs.List.{list_any, remove}
use Rattle.std.proofs.lemmas.List.{get_or_read}
use Rattle.watches.specs.Groups.{AreWhole}
use Rattle.watches.specs.Keeping.{AreKept, Kept, IsKeptOver, followed, followed_of}
use Rattle.watches.specs.Watches.{Shown, stands_over}
use Rattle.watches.proofs.Listing.{left_of}
use Rattle.watches.proofs.Shown.{any_named, named_at}
use Rattle.watches.proofs.Taken.{first_named, left_long, none_over_kept, one_kept, one_taken, one_whole, only_taken}
use Rattle.watches.proofs.Whole.{no_kept, size_of, whole_remove}
use Rattle.watches.proofs.following.Following.take_out.Goals as goal

pub at-at-requires : goal.at-at-requires
at-at-requires c = sym (any_named c.args.self.now c.deref.result.now c.args.name.now (c.deref.ensures.value ∙ c.self.view_is)) ∙ c.requires.there

pub invariant_of-self : goal.invariant_of-self
invariant_of-self c =
    let all = c.args.self.now in
    let first = first_named all c.self.inside.list.items c.deref.result.now c.args.name.now c.at-at.result c.self.view_is c.deref.ensures.value c.at-at.ensures in
    subst AreWhole (sym (c.remove.ensures.items ∙ ap (λ ks. remove ks c.at-at.result) c.self.view_is))
    (whole_remove all c.at-at.result no_kept (subst AreWhole c.self.view_is c.self.invariant) first.within)

pub take_out-requires-clause-there : goal.take_out-requires-clause-there
take_out-requires-clause-there c =
    (named_at c.args.self.now c.self.inside.list.items c.deref.result.now c.args.name.now c.at-at.result c.index_mut.result.now c.self.view_is c.deref.ensures.value c.at-at.ensures c.index_mut.ensures.value).has

pub take_out-requires-clause-more : goal.take_out-requires-clause-more
take_out-requires-clause-more c =
    let all = c.args.self.now in
    let name = c.args.name.now in
    let at = c.at-at.result in
    let first = first_named all c.self.inside.list.items c.deref.result.now name at c.self.view_is c.deref.ensures.value c.at-at.ensures in
    let k = c.index.result.now in
    let k_is : k ≡ get_or all at no_kept = get_or_read all at k first.within (c.index.ensures ∙ ap (λ ks. get_or ks at k) c.self.view_is) no_kept in
    let m = c.index_mut.result.now in
    let m_is : m ≡ get_or all at no_kept = get_or_read all at m first.within (c.index_mut.ensures.value ∙ ap (λ ks. get_or ks at m) c.self.view_is) no_kept in
    let sizes = ap size_of k_is in
    let long = c.len.ensures in
    let has = left_long name (followed_of (get_or all at no_kept)) (first.here no_kept) in
    let not_one = c.if-len-eq1.false in
    let here = ap size_of m_is in
    omega arith

pub take_out-requires-clause-free : goal.take_out-requires-clause-free
take_out-requires-clause-free c =
    let all = c.args.self.now in
    let name = c.args.name.now in
    let at = c.at-at.result in
    let first = first_named all c.self.inside.list.items c.deref.result.now name at c.self.view_is c.deref.ensures.value c.at-at.ensures in
    let m = c.index_mut.result.now in
    let m_is : m ≡ get_or all at no_kept = get_or_read all at m first.within (c.index_mut.ensures.value ∙ ap (λ ks. get_or ks at m) c.self.view_is) no_kept in
    subst (λ (k : Kept). list_any (λ (s : Shown). stands_over (followed_of k).watches name s.source) (followed_of k).watches ≡ false) (sym m_is)
    (none_over_kept all name c.requires.free at no_kept first.within)

pub returns-then-len-eq1-clause-rest : goal.returns-then-len-eq1-clause-rest
returns-then-len-eq1-clause-rest c =
    let all = c.args.self.now in
    let name = c.args.name.now in
    let at = c.at-at.result in
    let first = first_named all c.self.inside.list.items c.deref.result.now name at c.self.view_is c.deref.ensures.value c.at-at.ensures in
    let k = c.index.result.now in
    let k_is : k ≡ get_or all at no_kept = get_or_read all at k first.within (c.index.ensures ∙ ap (λ ks. get_or ks at k) c.self.view_is) no_kept in
    let sizes = ap size_of k_is in
    let long = c.len.ensures in
    let one = c.if-len-eq1.true in
    ap followed (c.remove.ensures.items ∙ ap (λ ks. remove ks at) c.self.view_is) ∙ only_taken all name at first (let e : size_of (get_or all at no_kept) ≡ 1 = omega arith in e)

pub invariant_of-self-else-len-eq1 : goal.invariant_of-self-else-len-eq1
invariant_of-self-else-len-eq1 c =
    let all = c.args.self.now in
    let name = c.args.name.now in
    let at = c.at-at.result in
    let first = first_named all c.self.inside.list.items c.deref.result.now name at c.self.view_is c.deref.ensures.value c.at-at.ensures in
    let m = c.index_mut.result.now in
    let m_is : m ≡ get_or all at no_kept = get_or_read all at m first.within (c.index_mut.ensures.value ∙ ap (λ ks. get_or ks at m) c.self.view_is) no_kept in
    let new = c.take_out.new.self in
    let rest = c.take_out.ensures.rest ∙ ap (λ (k : Kept). record (followed_of k) { watches = left_of name (followed_of k) }) m_is in
    subst (λ ks. AreWhole (set ks at new)) (sym c.self.view_is) (one_whole all name at first new (subst AreWhole c.self.view_is c.self.invariant) rest)

pub returns-else-len-eq1-clause-rest : goal.returns-else-len-eq1-clause-rest
returns-else-len-eq1-clause-rest c =
    let all = c.args.self.now in
    let name = c.args.name.now in
    let at = c.at-at.result in
    let first = first_named all c.self.inside.list.items c.deref.result.now name at c.self.view_is c.deref.ensures.value c.at-at.ensures in
    let k = c.index.result.now in
    let k_is : k ≡ get_or all at no_kept = get_or_read all at k first.within (c.index.ensures ∙ ap (λ ks. get_or ks at k) c.self.view_is) no_kept in
    let m = c.index_mut.result.now in
    let m_is : m ≡ get_or all at no_kept = get_or_read all at m first.within (c.index_mut.ensures.value ∙ ap (λ ks. get_or ks at m) c.self.view_is) no_kept in
    let new = c.take_out.new.self in
    let rest = c.take_out.ensures.rest ∙ ap (λ (k : Kept). record (followed_of k) { watches = left_of name (followed_of k) }) m_is in
    let sizes = ap size_of k_is in
    let long = c.len.ensures in
    let has = left_long name (followed_of (get_or all at no_kept)) (first.here no_kept) in
    let not_one = c.if-len-eq1.false in
    ap (λ ks. followed (set ks at new)) c.self.view_is ∙ one_taken all name at first new (let e : 1 < size_of (get_or all at no_kept) = omega arith in e) rest

pub returns-else-len-eq1-clause-kept : goal.returns-else-len-eq1-clause-kept
returns-else-len-eq1-clause-kept c views h =
    let all = c.args.self.now in
    let name = c.args.name.now in
    let at = c.at-at.result in
    let first = first_named all c.self.inside.list.items c.deref.result.now name at c.self.view_is c.deref.ensures.value c.at-at.ensures in
    let m = c.index_mut.result.now in
    let m_is : m ≡ get_or all at no_kept = get_or_read all at m first.within (c.index_mut.ensures.value ∙ ap (λ ks. get_or ks at m) c.self.view_is) no_kept in
    let new = c.take_out.new.self in
    let rest = c.take_out.ensures.rest ∙ ap (λ (k : Kept). record (followed_of k) { watches = left_of name (followed_of k) }) m_is in
    subst (λ ks. AreKept views (set ks at new)) (sym c.self.view_is)
    (one_kept all name at first views new rest (λ schema rows over. c.take_out.ensures.kept schema rows (subst (IsKeptOver schema rows) (sym m_is) over)) h)
