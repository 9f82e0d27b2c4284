use Rattle.std.proofs.Common.{◌≡◌, [], ◌∷◌, ◌++◌, length, set, position, Some, None, refl, ap, sym, ◌∙◌, arith}
use Rattle.std.specs.Option.{is_none}
use Rattle.watches.proofs.Finding.{first_at}
use Rattle.kept_counts.specs.Keeping.{Counted}
use Rattle.kept_counts.proofs.Placing.{put_at, put_last, put_nowhere}
use Rattle.kept_counts.proofs.cache.KeptCounts.put.Goals as goal

pub returns-in-Some-clause-put : goal.returns-in-Some-clause-put
returns-in-Some-clause-put c =
    let test = λ (e : Counted). is_none e.kept in
    let old = c.args.self.now in
    let at = c.in-Some.at in
    let found : position test old ≡ Some at = ap (position test) (sym (c.deref.ensures.value ∙ c.self.view_is)) ∙ sym c.find_blank.ensures ∙ c.in-Some.is in
    put_at old (set c.self.inside.list.items at c.replace.new.dest) c.args.entry at (first_at test old at c.args.entry found).within (λ i. set (c.self.view_is i) at (c.replace.ensures.after i))

pub returns-in_ok-push-in-None-clause-put : goal.returns-in_ok-push-in-None-clause-put
returns-in_ok-push-in-None-clause-put c =
    let long = ap length c.self.view_is in
    let room = c.if-len-lt-MAX_KEPT.true in
    let size = c.len.ensures in
    let vec = c.self.inside.list.ok.0 in
    put_last c.args.self.now c.push.new.list.items c.args.entry (omega arith) (c.in_ok-push-in-None.ensures.ok ∙ ap (λ xs. xs ++ c.args.entry ∷ []) c.self.view_is)

pub returns-in-None-2-clause-put : goal.returns-in-None-2-clause-put
returns-in-None-2-clause-put c =
    let test = λ (e : Counted). is_none e.kept in
    let old = c.args.self.now in
    let none : position test old ≡ None = ap (position test) (sym (c.deref.ensures.value ∙ c.self.view_is)) ∙ sym c.find_blank.ensures ∙ c.in-None-2.is in
    let long = ap length c.self.view_is in
    let room = c.if-len-lt-MAX_KEPT.false in
    let size = c.len.ensures in
    let vec = c.self.inside.list.ok.0 in
    put_nowhere old old c.args.entry none (omega arith) refl
