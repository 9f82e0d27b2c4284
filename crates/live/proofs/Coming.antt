-- Watches that follow rows that came side by side, one after another, each after its source.
use Rattle.std.proofs.Common.{◌≡◌, ◌≢◌, ℕ, ◌+◌, ◌<◌, ◌≤◌, false, List, length, get_or, set, take, Option, Some, None, refl, ap, sym, subst, ◌∙◌, arith, inl, inr}
use Rattle.std.specs.Option.{ForSome}
use Rattle.std.proofs.lemmas.Bool.{cases_lt}
use Rattle.std.proofs.lemmas.List.{get_or-map, take-set}
use Rattle.mk_value.specs.Data.{Datum}
use Rattle.mk_value.specs.Heading.{Attribute}
use Rattle.mk_value.specs.Limits.{max_rows}
use Rattle.relations.specs.Rows.{rows_at}
use Rattle.places.specs.Numbers.{chunks_for}
use Rattle.live.specs.Chains.{seen}
use Rattle.live.specs.Edits.{AreSpreadDue, HasTaken, HaveRoomFor, HaveTaken, IsSpread, IsSpreadDue, came_to}
use Rattle.live.specs.States.{WatchState}
use Rattle.live.specs.Turns.{answer_of}
use Rattle.live.specs.Watching.{IsAsked, comes_to, placed, positions, told}
use Rattle.live.specs.declared.turn.Turn.TheVariants.{Comes, Still}
use Rattle.live.proofs.Following.{turn_alike, turn_prefix}
use Rattle.live.proofs.Onward.{AreOnward, here, new_rows, onward_more, onward_none, other, seen_all, source_within}
use Rattle.live.proofs.Seeing.{seen_at, seen_prefix}

-- the first i of the watches have followed, and the others are as they were
pub record HaveCome (schema : List Attribute) (rows : List (List Datum)) (at count : ℕ) (row : List Datum) (before : List (List Datum)) (old : List WatchState) (ls : List WatchState) (i : ℕ) : Type 0 where
  pub onward : AreOnward schema rows old ls i
  pub taken : (k : ℕ) (d : WatchState) → k < i → HasTaken count (chunks_for count) (get_or old k d) (get_or ls k d)
  pub made : (k : ℕ) (d : WatchState) → k < i → IsSpread (comes_to (get_or ls k d).turn) count row (seen before old (Some k)) (seen rows ls (Some k))
  pub told : (k : ℕ) (d : WatchState) → k < i → (get_or ls k d).turn ≡ told false None (placed (get_or ls k d).kept (came_to at ls (get_or old k d).source))
  pub answer : (k : ℕ) (d : WatchState) → k < i → (get_or ls k d).answer ≡ answer_of count (get_or ls k d).turn

pub come_none : (schema : List Attribute) (rows : List (List Datum)) (at count : ℕ) (row : List Datum) (before : List (List Datum)) (old : List WatchState) → HaveCome schema rows at count row before old old 0
come_none schema rows at count row before old = record {
  onward = onward_none schema rows old;
  taken = λ k d p. absurd (omega arith);
  made = λ k d p. absurd (omega arith);
  told = λ k d p. absurd (omega arith);
  answer = λ k d p. absurd (omega arith);
}

came_prefix : (at : ℕ) (ls : List WatchState) (n : ℕ) (over : Option ℕ) → ForSome over (λ s. s < n) → came_to at (take n ls) over ≡ came_to at ls over
came_prefix at ls n over below = ap comes_to (turn_prefix (Comes at) ls n over below)

module _ (schema : List Attribute) (rows : List (List Datum)) (at count : ℕ) (old : List WatchState) (few : length rows ≤ max_rows) (due : AreSpreadDue schema old at count rows) (ls : List WatchState) (i : ℕ) (h : HaveCome schema rows at count due.row due.before old ls i) where
  -- what came into the source of the next watch
  source_made : (d : WatchState) → i < length old → IsSpread (came_to at ls (get_or old i d).source) count due.row (seen due.before old (get_or old i d).source) (seen rows ls (get_or old i d).source)
  source_made d p = here (get_or old i d).source (source_within schema rows old few due.now.sources ls i h.onward i d p (omega arith))
    where
      here : (o : Option ℕ) → ForSome o (λ s. s < i) → IsSpread (came_to at ls o) count due.row (seen due.before old o) (seen rows ls o)
      here None below = due.made
      here (Some s) below =
          let e = h.onward.long in
          let q : s < length ls = let a = below s refl in omega arith in
          subst (λ t. IsSpread (comes_to t) count due.row (seen due.before old (Some s)) (seen rows ls (Some s))) (sym (get_or-map (λ (l : WatchState). l.turn) ls s d Still q)) (h.made s d (below s refl))

  -- one watch more
  module _ (p : i < length old) (new : WatchState)
      (f_taken : (d : WatchState) → HasTaken count (chunks_for count) (get_or old i d) new)
      (f_now : (d : WatchState) → new.kept ≡ positions schema (get_or old i d).op (seen rows (take i ls) (get_or old i d).source))
      (f_made : (d : WatchState) → IsSpread (comes_to new.turn) count due.row (rows_at (seen due.before old (get_or old i d).source) (get_or old i d).kept) (rows_at (seen rows (take i ls) (get_or old i d).source) new.kept))
      (f_told : (d : WatchState) → new.turn ≡ told false None (placed new.kept (came_to at (take i ls) (get_or old i d).source)))
      (f_answer : new.answer ≡ answer_of count new.turn) where
    abbrev all : List WatchState
    all = set ls i new

    f_source : (d : WatchState) → new.source ≡ (get_or old i d).source
    f_source d = (f_taken d).followed.source

    f_op : (d : WatchState) → new.op ≡ (get_or old i d).op
    f_op d = (f_taken d).followed.op

    is_here : (d : WatchState) → get_or all i d ≡ new
    is_here d = here schema rows old few due.now.sources ls i h.onward p new f_source f_op f_now d

    is_other : (k : ℕ) (d : WatchState) → k ≢ i → get_or all k d ≡ get_or ls k d
    is_other k d ne = other schema rows old few due.now.sources ls i h.onward p new f_source f_op f_now k d ne

    below_here : (d : WatchState) → ForSome (get_or old i d).source (λ s. s < i)
    below_here d = source_within schema rows old few due.now.sources ls i h.onward i d p (omega arith)

    came_all : (over : Option ℕ) → ForSome over (λ s. s < i) → came_to at all over ≡ came_to at ls over
    came_all over below = ap comes_to (turn_alike (Comes at) all ls i over (take-set ls i new) below)

    made_here : (d : WatchState) → IsSpread (comes_to new.turn) count due.row (seen due.before old (Some i)) (seen rows all (Some i))
    made_here d =
        subst (λ xs. IsSpread (comes_to new.turn) count due.row xs (seen rows all (Some i))) (sym (seen_at due.before old due.now.sources i d p))
        (subst (IsSpread (comes_to new.turn) count due.row (rows_at (seen due.before old (get_or old i d).source) (get_or old i d).kept)) (sym (new_rows schema rows old few due.now.sources ls i h.onward p new f_source f_op f_now d)) (f_made d))

    pub come_more : HaveCome schema rows at count due.row due.before old all (i + 1)
    come_more = record {
      onward = onward_more schema rows old few due.now.sources ls i h.onward p new f_source f_op f_now;
      taken = λ k d q. elim (cases_lt k i) [
        | inl lt ↦ subst (HasTaken count (chunks_for count) (get_or old k d)) (sym (is_other k d (omega arith))) (h.taken k d lt)
        | inr ge ↦
            let e : i ≡ k = omega arith in
            subst (λ j. HasTaken count (chunks_for count) (get_or old j d) (get_or all j d)) e (subst (HasTaken count (chunks_for count) (get_or old i d)) (sym (is_here d)) (f_taken d))
      ];
      made = λ k d q. elim (cases_lt k i) [
        | inl lt ↦
            subst (λ (l : WatchState). IsSpread (comes_to l.turn) count due.row (seen due.before old (Some k)) (seen rows all (Some k))) (sym (is_other k d (omega arith)))
            (subst (λ xs. IsSpread (comes_to (get_or ls k d).turn) count due.row (seen due.before old (Some k)) xs) (sym (seen_all schema rows old few due.now.sources ls i h.onward p new f_source f_op f_now (Some k) (λ s e. let f : k ≡ s = cc in omega arith))) (h.made k d lt))
        | inr ge ↦
            let e : i ≡ k = omega arith in
            subst (λ j. IsSpread (comes_to (get_or all j d).turn) count due.row (seen due.before old (Some j)) (seen rows all (Some j))) e
            (subst (λ (l : WatchState). IsSpread (comes_to l.turn) count due.row (seen due.before old (Some i)) (seen rows all (Some i))) (sym (is_here d)) (made_here d))
      ];
      told = λ k d q. elim (cases_lt k i) [
        | inl lt ↦
            let src = (get_or old k d).source in
            let same = is_other k d (omega arith) in
            ap (λ (l : WatchState). l.turn) same ∙ h.told k d lt
            ∙ ap (λ (l : WatchState). told false None (placed l.kept (came_to at ls src))) (sym same)
            ∙ ap (λ o. told false None (placed (get_or all k d).kept o)) (sym (came_all src (source_within schema rows old few due.now.sources ls i h.onward k d (omega arith) (omega arith))))
        | inr ge ↦
            let e : i ≡ k = omega arith in
            subst (λ j. (get_or all j d).turn ≡ told false None (placed (get_or all j d).kept (came_to at all (get_or old j d).source))) e
            (ap (λ (l : WatchState). l.turn) (is_here d) ∙ f_told d
            ∙ ap (λ (l : WatchState). told false None (placed l.kept (came_to at (take i ls) (get_or old i d).source))) (sym (is_here d))
            ∙ ap (λ o. told false None (placed (get_or all i d).kept o)) (came_prefix at ls i (get_or old i d).source (below_here d) ∙ sym (came_all (get_or old i d).source (below_here d))))
      ];
      answer = λ k d q. elim (cases_lt k i) [
        | inl lt ↦ let same = is_other k d (omega arith) in ap (λ (l : WatchState). l.answer) same ∙ h.answer k d lt ∙ ap (λ (l : WatchState). answer_of count l.turn) (sym same)
        | inr ge ↦
            let e : i ≡ k = omega arith in
            subst (λ j. (get_or all j d).answer ≡ answer_of count (get_or all j d).turn) e
            (ap (λ (l : WatchState). l.answer) (is_here d) ∙ f_answer ∙ ap (λ (l : WatchState). answer_of count l.turn) (sym (is_here d)))
      ];
    }

-- all have followed
pub come_taken : (schema : List Attribute) (rows : List (List Datum)) (at count : ℕ) (row : List Datum) (before : List (List Datum)) (old ls : List WatchState) → HaveCome schema rows at count row before old ls (length old) → HaveTaken count (chunks_for count) old ls
come_taken schema rows at count row before old ls h = record { long = h.onward.long; each = h.taken }

-- what the next watch needs in order to follow
module _ (schema : List Attribute) (rows : List (List Datum)) (at count : ℕ) (old : List WatchState) (few : length rows ≤ max_rows) (due : AreSpreadDue schema old at count rows) (ls : List WatchState) (i : ℕ) (h : HaveCome schema rows at count due.row due.before old ls i) (p : i < length old) (d : WatchState)
    (below : List WatchState) (is_below : below ≡ take i ls) (link : WatchState) (is_link : link ≡ get_or old i d) where
  abbrev src : Option ℕ
  src = (get_or old i d).source

  src_below : ForSome src (λ s. s < i)
  src_below = source_within schema rows old few due.now.sources ls i h.onward i d p (omega arith)

  pub next_source : ForSome link.source (λ s. s < i)
  next_source = subst (λ (l : WatchState). ForSome l.source (λ s. s < i)) (sym is_link) src_below

  pub next_room : HaveRoomFor (chunks_for count) old → chunks_for count ≤ link.room
  next_room room = subst (λ (l : WatchState). chunks_for count ≤ l.room) (sym is_link) (room i d p)

  pub next_asked : IsAsked schema link.op
  next_asked = subst (λ (l : WatchState). IsAsked schema l.op) (sym is_link) (due.now.asked i d p)

  -- the rows of the source before, and what came into them
  pub next_now : link.kept ≡ positions schema link.op (seen due.before old src)
  next_now = subst (λ (l : WatchState). l.kept ≡ positions schema l.op (seen due.before old src)) (sym is_link) (due.now.now i d p)

  pub next_made : IsSpread (came_to at below link.source) count due.row (seen due.before old src) (seen rows below link.source)
  next_made =
      subst (λ (l : WatchState). IsSpread (came_to at below l.source) count due.row (seen due.before old src) (seen rows below l.source)) (sym is_link)
      (subst (λ bs. IsSpread (came_to at bs src) count due.row (seen due.before old src) (seen rows bs src)) (sym is_below)
      (subst (λ o. IsSpread o count due.row (seen due.before old src) (seen rows (take i ls) src)) (sym (came_prefix at ls i src src_below))
      (subst (IsSpread (came_to at ls src) count due.row (seen due.before old src)) (sym (seen_prefix rows ls i src src_below)) (source_made schema rows at count old few due ls i h d p))))

  pub next_due : IsSpreadDue schema link.op link.kept (came_to at below link.source) count (seen rows below link.source)
  next_due = record { row = due.row; before = seen due.before old src; now = next_now; made = next_made }
