-- Watches that follow an event one after another, each after its source.
use Rattle.std.proofs.Common.{◌≡◌, ◌≢◌, ℕ, ◌+◌, ◌<◌, ◌≤◌, List, length, get_or, set, map, take, Option, Some, None, refl, ap, sym, subst, ◌∙◌, arith, inl, inr}
use Rattle.std.specs.Option.{ForSome}
use Rattle.std.proofs.lemmas.Bool.{cases_lt}
use Rattle.std.proofs.lemmas.List.{get_or-take, get_or-map, take-map, take-set}
use Rattle.live.specs.declared.turn.Turn.{Turn}
use Rattle.live.specs.declared.turn.Turn.TheVariants.{Still}
use Rattle.relations.specs.Rows.{rows_at}
use Rattle.live.specs.Watching.{IsAsked, positions, placed, own, goes_from, IsTurn, IsDue}
use Rattle.mk_value.specs.Limits.{max_rows}
use Rattle.live.specs.Chains.{AreNoted, HaveRoom, IsRaised, AreDue, AreTold, seen, turn_of, going_of}
use Rattle.live.specs.States.{WatchState}
use Rattle.live.proofs.Chaining.{own_turn, own_goes}
use Rattle.live.proofs.Onward.{AreOnward, here, new_rows, onward_more, onward_none, other, seen_all, source_within}
use Rattle.live.proofs.Seeing.{seen_at, seen_prefix}
use Rattle.mk_value.specs.Heading.{Attribute}
use Rattle.mk_value.specs.Data.{Datum}

-- what is told and noted of a source rests on the watches before it alone
pub turn_prefix : (root : Turn) (ls : List WatchState) (n : ℕ) (over : Option ℕ) → ForSome over (λ s. s < n) → turn_of root (take n ls) over ≡ turn_of root ls over
turn_prefix root ls n None below = refl
turn_prefix root ls n (Some s) below =
    ap (λ xs. get_or xs s Still) (sym (take-map (λ (l : WatchState). l.turn) n ls)) ∙ get_or-take n (map (λ (l : WatchState). l.turn) ls) s Still (below s refl)

pub turn_alike : (root : Turn) (xs ys : List WatchState) (n : ℕ) (over : Option ℕ) → take n xs ≡ take n ys → ForSome over (λ s. s < n) → turn_of root xs over ≡ turn_of root ys over
turn_alike root xs ys n over e below = sym (turn_prefix root xs n over below) ∙ ap (λ ls. turn_of root ls over) e ∙ turn_prefix root ys n over below

-- the first i of the watches have followed, and the others are as they were
pub record AreFollowed (schema : List Attribute) (rows : List (List Datum)) (root : Turn) (before : List (List Datum)) (old : List WatchState) (ls : List WatchState) (i : ℕ) : Type 0 where
  pub onward : AreOnward schema rows old ls i
  pub raised : (k : ℕ) (d : WatchState) → k < i → IsRaised (get_or old k d) (get_or ls k d)
  pub told : (k : ℕ) (d : WatchState) → k < i → (get_or ls k d).turn ≡ own (get_or old k d).op (get_or old k d).kept (get_or ls k d).kept (turn_of root ls (get_or old k d).source)
  pub made : (k : ℕ) (d : WatchState) → k < i → IsTurn (get_or ls k d).turn (seen before old (Some k)) (seen rows ls (Some k))
  pub goes : (k : ℕ) (d : WatchState) → k < i → goes_from (get_or ls k d).turn ≡ (get_or old k d).going

pub followed_none : (schema : List Attribute) (rows : List (List Datum)) (root : Turn) (before : List (List Datum)) (old : List WatchState) → AreFollowed schema rows root before old old 0
followed_none schema rows root before old = record {
  onward = onward_none schema rows old;
  raised = λ k d p. absurd (omega arith);
  told = λ k d p. absurd (omega arith);
  made = λ k d p. absurd (omega arith);
  goes = λ k d p. absurd (omega arith);
}

module _ (schema : List Attribute) (rows : List (List Datum)) (root : Turn) (old : List WatchState) (few : length rows ≤ max_rows) (due : AreDue schema old root rows) (noted : AreNoted (goes_from root) old) (ls : List WatchState) (i : ℕ) (h : AreFollowed schema rows root due.before old ls i) where
  within_here : (k : ℕ) (d : WatchState) → k < length old → k ≤ i → ForSome (get_or old k d).source (λ s. s < i)
  within_here k d p q = source_within schema rows old few due.now.sources ls i h.onward k d p q

  -- what the event does to the source of the next watch
  source_made : (d : WatchState) → i < length old → IsTurn (turn_of root ls (get_or old i d).source) (seen due.before old (get_or old i d).source) (seen rows ls (get_or old i d).source)
  source_made d p = at (get_or old i d).source (within_here i d p (omega arith))
    where
      at : (o : Option ℕ) → ForSome o (λ s. s < i) → IsTurn (turn_of root ls o) (seen due.before old o) (seen rows ls o)
      at None below = due.made
      at (Some s) below =
          let e = h.onward.long in
          let q : s < length ls = let a = below s refl in omega arith in
          subst (λ t. IsTurn t (seen due.before old (Some s)) (seen rows ls (Some s))) (sym (get_or-map (λ (l : WatchState). l.turn) ls s d Still q)) (h.made s d (below s refl))

  source_goes : (d : WatchState) → i < length old → goes_from (turn_of root ls (get_or old i d).source) ≡ going_of (goes_from root) old (get_or old i d).source
  source_goes d p = at (get_or old i d).source (within_here i d p (omega arith))
    where
      at : (o : Option ℕ) → ForSome o (λ s. s < i) → goes_from (turn_of root ls o) ≡ going_of (goes_from root) old o
      at None below = refl
      at (Some s) below =
          let e = h.onward.long in
          let a = below s refl in
          ap goes_from (get_or-map (λ (l : WatchState). l.turn) ls s d Still (omega arith)) ∙ h.goes s d a ∙ sym (get_or-map (λ (l : WatchState). l.going) old s d None (omega arith))

  -- one watch more
  module _ (p : i < length old) (new : WatchState)
      (f_raised : (d : WatchState) → IsRaised (get_or old i d) new)
      (f_now : (d : WatchState) → new.kept ≡ positions schema (get_or old i d).op (seen rows (take i ls) (get_or old i d).source))
      (f_told : (d : WatchState) → new.turn ≡ own (get_or old i d).op (get_or old i d).kept new.kept (turn_of root (take i ls) (get_or old i d).source)) where
    abbrev all : List WatchState
    all = set ls i new

    f_source : (d : WatchState) → new.source ≡ (get_or old i d).source
    f_source d = (f_raised d).source

    f_op : (d : WatchState) → new.op ≡ (get_or old i d).op
    f_op d = (f_raised d).op

    is_here : (d : WatchState) → get_or all i d ≡ new
    is_here d = here schema rows old few due.now.sources ls i h.onward p new f_source f_op f_now d

    is_other : (k : ℕ) (d : WatchState) → k ≢ i → get_or all k d ≡ get_or ls k d
    is_other k d ne = other schema rows old few due.now.sources ls i h.onward p new f_source f_op f_now k d ne

    is_seen : (over : Option ℕ) → ForSome over (λ s. s < i) → seen rows all over ≡ seen rows ls over
    is_seen over below = seen_all schema rows old few due.now.sources ls i h.onward p new f_source f_op f_now over below

    turn_all : (over : Option ℕ) → ForSome over (λ s. s < i) → turn_of root all over ≡ turn_of root ls over
    turn_all over below = turn_alike root all ls i over (take-set ls i new) below

    below_here : (d : WatchState) → ForSome (get_or old i d).source (λ s. s < i)
    below_here d = within_here i d p (omega arith)

    now_here : (d : WatchState) → new.kept ≡ positions schema (get_or old i d).op (seen rows ls (get_or old i d).source)
    now_here d = f_now d ∙ ap (positions schema (get_or old i d).op) (seen_prefix rows ls i (get_or old i d).source (below_here d))

    kept_before : (d : WatchState) → (get_or old i d).kept ≡ positions schema (get_or old i d).op (seen due.before old (get_or old i d).source)
    kept_before d = due.now.now i d p

    told_here : (d : WatchState) → new.turn ≡ own (get_or old i d).op (positions schema (get_or old i d).op (seen due.before old (get_or old i d).source)) (positions schema (get_or old i d).op (seen rows ls (get_or old i d).source)) (turn_of root ls (get_or old i d).source)
    told_here d =
        f_told d
        ∙ ap (own (get_or old i d).op (get_or old i d).kept new.kept) (turn_prefix root ls i (get_or old i d).source (below_here d))
        ∙ ap (λ ks. own (get_or old i d).op ks new.kept (turn_of root ls (get_or old i d).source)) (kept_before d)
        ∙ ap (λ ks. own (get_or old i d).op (positions schema (get_or old i d).op (seen due.before old (get_or old i d).source)) ks (turn_of root ls (get_or old i d).source)) (now_here d)

    made_here : (d : WatchState) → IsTurn new.turn (seen due.before old (Some i)) (seen rows all (Some i))
    made_here d =
        let op = (get_or old i d).op in
        let src = (get_or old i d).source in
        let old_rows : seen due.before old (Some i) ≡ rows_at (seen due.before old src) (positions schema op (seen due.before old src)) =
        seen_at due.before old due.now.sources i d p ∙ ap (rows_at (seen due.before old src)) (kept_before d) in
        let rows_then : seen rows all (Some i) ≡ rows_at (seen rows ls src) (positions schema op (seen rows ls src)) =
        new_rows schema rows old few due.now.sources ls i h.onward p new f_source f_op f_now d
        ∙ ap (λ xs. rows_at xs new.kept) (seen_prefix rows ls i src (below_here d)) ∙ ap (rows_at (seen rows ls src)) (now_here d) in
        subst (λ t. IsTurn t (seen due.before old (Some i)) (seen rows all (Some i))) (sym (told_here d))
        (subst (λ xs. IsTurn (own op (positions schema op (seen due.before old src)) (positions schema op (seen rows ls src)) (turn_of root ls src)) xs (seen rows all (Some i))) (sym old_rows)
        (subst (λ ys. IsTurn (own op (positions schema op (seen due.before old src)) (positions schema op (seen rows ls src)) (turn_of root ls src)) (rows_at (seen due.before old src) (positions schema op (seen due.before old src))) ys) (sym rows_then)
        (own_turn schema op (seen due.before old src) (seen rows ls src) (turn_of root ls src) (source_made d p))))

    goes_here : (d : WatchState) → goes_from new.turn ≡ (get_or old i d).going
    goes_here d =
        let op = (get_or old i d).op in
        let src = (get_or old i d).source in
        ap goes_from (told_here d) ∙ own_goes schema op (seen due.before old src) (seen rows ls src) (turn_of root ls src) (source_made d p)
        ∙ ap (placed (positions schema op (seen due.before old src))) (source_goes d p)
        ∙ ap (λ ks. placed ks (going_of (goes_from root) old src)) (sym (kept_before d))
        ∙ sym (noted i d p)

    pub followed_more : AreFollowed schema rows root due.before old all (i + 1)
    followed_more = record {
      onward = onward_more schema rows old few due.now.sources ls i h.onward p new f_source f_op f_now;
      raised = λ k d q. elim (cases_lt k i) [
        | inl lt ↦ subst (IsRaised (get_or old k d)) (sym (is_other k d (omega arith))) (h.raised k d lt)
        | inr ge ↦
            let e : i ≡ k = omega arith in
            subst (λ j. IsRaised (get_or old j d) (get_or all j d)) e (subst (IsRaised (get_or old i d)) (sym (is_here d)) (f_raised d))
      ];
      told = λ k d q. elim (cases_lt k i) [
        | inl lt ↦
            let src = (get_or old k d).source in
            let same = is_other k d (omega arith) in
            ap (λ (l : WatchState). l.turn) same ∙ h.told k d lt
            ∙ ap (λ (l : WatchState). own (get_or old k d).op (get_or old k d).kept l.kept (turn_of root ls src)) (sym same)
            ∙ ap (own (get_or old k d).op (get_or old k d).kept (get_or all k d).kept) (sym (turn_all src (within_here k d (omega arith) (omega arith))))
        | inr ge ↦
            let e : i ≡ k = omega arith in
            subst (λ j. (get_or all j d).turn ≡ own (get_or old j d).op (get_or old j d).kept (get_or all j d).kept (turn_of root all (get_or old j d).source)) e
            (ap (λ (l : WatchState). l.turn) (is_here d) ∙ f_told d
            ∙ ap (λ (l : WatchState). own (get_or old i d).op (get_or old i d).kept l.kept (turn_of root (take i ls) (get_or old i d).source)) (sym (is_here d))
            ∙ ap (own (get_or old i d).op (get_or old i d).kept (get_or all i d).kept)
            (turn_prefix root ls i (get_or old i d).source (below_here d) ∙ sym (turn_all (get_or old i d).source (below_here d))))
      ];
      made = λ k d q. elim (cases_lt k i) [
        | inl lt ↦
            subst (λ (l : WatchState). IsTurn l.turn (seen due.before old (Some k)) (seen rows all (Some k))) (sym (is_other k d (omega arith)))
            (subst (λ xs. IsTurn (get_or ls k d).turn (seen due.before old (Some k)) xs) (sym (is_seen (Some k) (λ s e. let f : k ≡ s = cc in omega arith))) (h.made k d lt))
        | inr ge ↦
            let e : i ≡ k = omega arith in
            subst (λ j. IsTurn (get_or all j d).turn (seen due.before old (Some j)) (seen rows all (Some j))) e
            (subst (λ (l : WatchState). IsTurn l.turn (seen due.before old (Some i)) (seen rows all (Some i))) (sym (is_here d)) (made_here d))
      ];
      goes = λ k d q. elim (cases_lt k i) [
        | inl lt ↦ ap (λ (l : WatchState). goes_from l.turn) (is_other k d (omega arith)) ∙ h.goes k d lt
        | inr ge ↦
            let e : i ≡ k = omega arith in
            subst (λ j. goes_from (get_or all j d).turn ≡ (get_or old j d).going) e (ap (λ (l : WatchState). goes_from l.turn) (is_here d) ∙ goes_here d)
      ];
    }

-- all have followed
pub followed_told : (schema : List Attribute) (rows : List (List Datum)) (root : Turn) (before : List (List Datum)) (old ls : List WatchState) → AreFollowed schema rows root before old ls (length old) → AreTold root old ls
followed_told schema rows root before old ls h = record { long = h.onward.long; each = h.raised; told = h.told }

-- what the next watch needs in order to follow
module _ (schema : List Attribute) (rows : List (List Datum)) (root : Turn) (old : List WatchState) (few : length rows ≤ max_rows) (due : AreDue schema old root rows) (noted : AreNoted (goes_from root) old) (ls : List WatchState) (i : ℕ) (h : AreFollowed schema rows root due.before old ls i) (p : i < length old) (d : WatchState)
    (below : List WatchState) (is_below : below ≡ take i ls) (link : WatchState) (is_link : link ≡ get_or old i d) where
  abbrev src : Option ℕ
  src = (get_or old i d).source

  src_below : ForSome src (λ s. s < i)
  src_below = source_within schema rows old few due.now.sources ls i h.onward i d p (omega arith)

  pub next_source : ForSome link.source (λ s. s < i)
  next_source = subst (λ (l : WatchState). ForSome l.source (λ s. s < i)) (sym is_link) src_below

  pub next_room : HaveRoom old → 0 < link.room
  next_room room = subst (λ (l : WatchState). 0 < l.room) (sym is_link) (room i d p)

  pub next_asked : IsAsked schema link.op
  next_asked = subst (λ (l : WatchState). IsAsked schema l.op) (sym is_link) (due.now.asked i d p)

  pub next_due : IsDue schema link.op link.kept (turn_of root below link.source) (seen rows below link.source)
  next_due =
      subst (λ (l : WatchState). IsDue schema l.op l.kept (turn_of root below l.source) (seen rows below l.source)) (sym is_link)
      (subst (λ bs. IsDue schema (get_or old i d).op (get_or old i d).kept (turn_of root bs src) (seen rows bs src)) (sym is_below)
      (record {
        before = seen due.before old src;
        now = due.now.now i d p;
        made = subst (λ t. IsTurn t (seen due.before old src) (seen rows (take i ls) src)) (sym (turn_prefix root ls i src src_below))
            (subst (λ xs. IsTurn (turn_of root ls src) (seen due.before old src) xs) (sym (seen_prefix rows ls i src src_below)) (source_made schema rows root old few due noted ls i h d p));
      }))

  pub next_noted : link.going ≡ placed link.kept (goes_from (turn_of root below link.source))
  next_noted =
      subst (λ (l : WatchState). l.going ≡ placed l.kept (goes_from (turn_of root below l.source))) (sym is_link)
      (subst (λ bs. (get_or old i d).going ≡ placed (get_or old i d).kept (goes_from (turn_of root bs src))) (sym is_below)
      (noted i d p ∙ ap (placed (get_or old i d).kept) (sym (ap goes_from (turn_prefix root ls i src src_below) ∙ source_goes schema rows root old few due noted ls i h d p))))
