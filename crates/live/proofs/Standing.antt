-- Watches that keep the positions of their rows: what follows from that, and when they go on doing so.
use Rattle.std.proofs.Common.{◌≡◌, ℕ, zero, suc, ◌<◌, ◌≤◌, List, [], length, get_or, set, take, Option, Some, None, refl, ap, sym, subst, ◌∙◌, arith, inl, inr}
use Rattle.std.specs.List.{All}
use Rattle.std.specs.Option.{ForSome}
use Rattle.std.proofs.lemmas.List.{get_or-take, get_or-set_other, get_or-set_same, length-map, length-set, length-take-le}
use Rattle.std.proofs.lemmas.Bool.{cases_eq}
use Rattle.mk_value.specs.Data.{Datum}
use Rattle.mk_value.specs.Heading.{Attribute}
use Rattle.mk_value.specs.Limits.{max_rows}
use Rattle.relations.specs.Rows.{rows_at}
use Rattle.live.specs.Chains.{AreLinked, AreNow, AreSame, IsSame, seen}
use Rattle.live.specs.Laws.{shown}
use Rattle.live.specs.States.{WatchState}
use Rattle.live.specs.Watching.{IsAsked, positions}
use Rattle.live.proofs.Answering.{rows_shown}
use Rattle.live.proofs.Ops.{positions_few}
use Rattle.live.proofs.Seeing.{seen_at, seen_prefix, seen_same}
use Rattle.live.proofs.Turning.{positions_in}

-- no watches stand over any rows
pub now_none : (schema : List Attribute) (rows : List (List Datum)) → length rows ≤ max_rows → AreNow schema rows []
now_none schema rows few = record {
  small = few;
  sources = λ k s d p e. absurd (omega arith);
  asked = λ k d p. absurd (omega arith);
  now = λ k d p. absurd (omega arith);
}

-- a watch shows no more rows than the root has
pub now_few : (schema : List Attribute) (rows : List (List Datum)) (links : List WatchState) → AreNow schema rows links → (fuel : ℕ) (over : Option ℕ) (d : WatchState) → ForSome over (λ s. (s < length links) × (s < fuel)) → length (seen rows links over) ≤ length rows
now_few schema rows links h fuel None d below = omega arith
now_few schema rows links h zero (Some s) d below = absurd (let p = (below s refl).1 in omega arith)
now_few schema rows links h (suc fuel) (Some s) d below =
    let p = below s refl in
    let src = (get_or links s d).source in
    let size =
    ap length (seen_at rows links h.sources s d p.0) ∙ length-map (get_or links s d).kept (λ j. get_or (seen rows links src) j [])
    ∙ ap length (h.now s d p.0) in
    let one = positions_few schema (get_or links s d).op (seen rows links src) in
    let two = now_few schema rows links h fuel src d (λ t e. let u = h.sources s t d p.0 e in (omega (arith, p.0), omega (arith, p.1))) in
    omega arith

pub now_linked : (schema : List Attribute) (rows : List (List Datum)) (links : List WatchState) → AreNow schema rows links → AreLinked rows links
now_linked schema rows links h = record {
  small = h.small;
  sources = h.sources;
  within = λ k d p.
      subst (λ xs. All (λ j. j < length (seen rows links (get_or links k d).source)) xs) (sym (h.now k d p)) (positions_in schema (get_or links k d).op (seen rows links (get_or links k d).source));
  few = λ k d p.
      let one = ap length (h.now k d p) in
      let two = positions_few schema (get_or links k d).op (seen rows links (get_or links k d).source) in
      let three = now_few schema rows links h k (get_or links k d).source d (λ s e. let a = h.sources k s d p e in (omega arith, a)) in
      let four = h.small in
      omega arith;
}

-- watches that are the same show the same
pub same_seen : (rows : List (List Datum)) (old new : List WatchState) → AreSame old new → (over : Option ℕ) → seen rows new over ≡ seen rows old over
same_seen rows old new h over = seen_same rows old new h.long (λ k d p. (h.each k d p).source) (λ k d p. (h.each k d p).kept) over

-- what stands over rows stands over them when it has noted something
pub now_same : (schema : List Attribute) (rows : List (List Datum)) (old new : List WatchState) → AreSame old new → AreNow schema rows old → AreNow schema rows new
now_same schema rows old new same h = record {
  small = h.small;
  sources = λ k s d p e. let l = same.long in h.sources k s d (omega arith) (sym ((same.each k d (omega arith)).source) ∙ e);
  asked = λ k d p.
      let l = same.long in
      let q : k < length old = omega arith in
      subst (IsAsked schema) (sym ((same.each k d q).op)) (h.asked k d q);
  now = λ k d p.
      let l = same.long in
      let q : k < length old = omega arith in
      (same.each k d q).kept ∙ h.now k d q ∙ ap (λ o. positions schema o (seen rows old (get_or old k d).source)) (sym ((same.each k d q).op))
      ∙ ap (positions schema (get_or new k d).op) (sym (same_seen rows old new same (get_or old k d).source) ∙ ap (seen rows new) (sym ((same.each k d q).source)));
}

-- what is seen through a watch is what it shows of its source
pub seen_shown : (schema : List Attribute) (rows : List (List Datum)) (watches : List WatchState) (k : ℕ) (d : WatchState) → AreNow schema rows watches → k < length watches
    → seen rows watches (Some k) ≡ shown schema (get_or watches k d).op (seen rows watches (get_or watches k d).source)
seen_shown schema rows watches k d h p =
    let src = (get_or watches k d).source in
    seen_at rows watches h.sources k d p ∙ ap (rows_at (seen rows watches src)) (h.now k d p) ∙ rows_shown schema (get_or watches k d).op (seen rows watches src)

-- the first watches alone
pub linked_front : (rows : List (List Datum)) (links : List WatchState) (n : ℕ) → n ≤ length links → AreLinked rows links → AreLinked rows (take n links)
linked_front rows links n le h =
    let long = length-take-le n links le in
    record {
      small = h.small;
      sources = λ k s d p e. h.sources k s d (omega arith) (ap (λ (l : WatchState). l.source) (sym (get_or-take n links k d (omega arith))) ∙ e);
      within = λ k d p.
          let q : k < n = omega arith in
          let at = get_or-take n links k d q in
          subst (λ (l : WatchState). All (λ j. j < length (seen rows (take n links) l.source)) l.kept) (sym at)
          (subst (λ xs. All (λ j. j < length xs) (get_or links k d).kept)
          (sym (seen_prefix rows links n (get_or links k d).source (λ s e. let a = h.sources k s d (omega arith) e in omega arith))) (h.within k d (omega arith)));
      few = λ k d p. subst (λ (l : WatchState). length l.kept ≤ max_rows) (sym (get_or-take n links k d (omega arith))) (h.few k d (omega arith));
    }

-- a watch in whose place stands one that is the same
same_after : (o v w : WatchState) → IsSame o v → IsSame v w → IsSame o w
same_after o v w a b = record {
  number = b.number ∙ a.number;
  source = b.source ∙ a.source;
  op = b.op ∙ a.op;
  kept = b.kept ∙ a.kept;
  turn = b.turn ∙ a.turn;
  answer = b.answer ∙ a.answer;
  followed = b.followed ∙ a.followed;
}

pub same_each : (old : List WatchState) → AreSame old old
same_each old = record { long = refl; each = λ k d p. record { number = refl; source = refl; op = refl; kept = refl; turn = refl; answer = refl; followed = refl } }

pub same_set : (old ls : List WatchState) → AreSame old ls → (i : ℕ) → i < length old → (new : WatchState) → ((d : WatchState) → IsSame (get_or ls i d) new) → AreSame old (set ls i new)
same_set old ls h i p new same = record {
  long = length-set ls i new ∙ h.long;
  each = λ k d q. elim (cases_eq k i) [
    | inl e ↦
        subst (λ j. IsSame (get_or old j d) (get_or (set ls i new) j d)) (sym e)
        (subst (IsSame (get_or old i d)) (sym (get_or-set_same ls i new d (let l = h.long in omega arith))) (same_after (get_or old i d) (get_or ls i d) new (h.each i d p) (same d)))
    | inr ne ↦ subst (IsSame (get_or old k d)) (sym (get_or-set_other ls i k new d ne)) (h.each k d q)
  ];
}
