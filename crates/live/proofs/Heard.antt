-- Events and edits that were followed one after another: what the watches keep, tell and count is what the rows alone make due.
use Rattle.std.proofs.Common.{◌≡◌, ℕ, zero, suc, ◌+◌, ◌<◌, ◌≤◌, List, [], ◌∷◌, ◌++◌, length, get_or, map, Bool, true, false, if◌then◌else◌, Option, Some, None, refl, ap, sym, ◌∙◌, arith}
use Rattle.std.specs.List.{sum_by}
use Rattle.std.specs.Option.{ForSome}
use Rattle.std.proofs.lemmas.List.{get_or_append_left, get_or-map}
use Rattle.std.proofs.lemmas.List.Sums.{sum_by-cons}
use Rattle.mk_value.specs.Data.{Datum}
use Rattle.mk_value.specs.Heading.{Attribute}
use Rattle.live.specs.Chains.{AreInOrder, AreNow, AreSame, AreTold, seen, source_rows, turn_of}
use Rattle.live.specs.Costs.{after_cost, before_cost, digits}
use Rattle.live.specs.Edits.{edit_cost, raised_by}
use Rattle.live.specs.Histories.{AreHeard, AreStepped, HaveHeard, HaveStepped, Heard, IsHeard, IsStepped, Stepped, all_steps, all_told, coming_cost, cost_over, events_in, last_rows, last_watches, now_cost, now_kept, now_rows, now_seen, now_turn, now_turns, rows_edited, source_turn, step_cost, step_cost_over, steps_in, told_in, told_over, watches_edited}
use Rattle.live.specs.Laws.{shown}
use Rattle.live.specs.States.{WatchState}
use Rattle.live.specs.Telling.{events_of, told_as, told_by}
use Rattle.live.specs.Watching.{is_sorting, own, positions, root_turn}
use Rattle.live.specs.declared.turn.Turn.{Turn}
use Rattle.live.specs.declared.turn.Turn.TheVariants.{Still}
use Rattle.live.proofs.Along.{along_at, length-along, some_watch}
use Rattle.live.proofs.Rising.{raised_more}
use Rattle.live.proofs.Standing.{seen_shown}
use Rattle.row_edits.specs.Events.{count_of}
use Rattle.row_edits.specs.declared.edit.RowEdit.{RowEdit}
use Rattle.row_edits.specs.declared.edit.RowEdit.TheVariants.{Insert, Remove, Change}

-- watches that have the same numbers, sources and operators
pub record AreAlike (old new : List WatchState) : Type 0 where
  pub long : length new ≡ length old
  pub number : (k : ℕ) (d : WatchState) → k < length old → (get_or new k d).number ≡ (get_or old k d).number
  pub source : (k : ℕ) (d : WatchState) → k < length old → (get_or new k d).source ≡ (get_or old k d).source
  pub op : (k : ℕ) (d : WatchState) → k < length old → (get_or new k d).op ≡ (get_or old k d).op

alike_self : (watches : List WatchState) → AreAlike watches watches
alike_self watches = record { long = refl; number = λ k d p. refl; source = λ k d p. refl; op = λ k d p. refl }

alike_then : (a b c : List WatchState) → AreAlike a b → AreAlike b c → AreAlike a c
alike_then a b c one two =
    let e = one.long in
    record {
      long = two.long ∙ one.long;
      number = λ k d p. two.number k d (omega arith) ∙ one.number k d p;
      source = λ k d p. two.source k d (omega arith) ∙ one.source k d p;
      op = λ k d p. two.op k d (omega arith) ∙ one.op k d p;
    }

-- what a watch shows rests on its source alone
now_further : (schema : List Attribute) (rows : List (List Datum)) (done more : List (List (List Datum))) (w : WatchState) → ((s : ℕ) → w.source ≡ Some s → s < length done)
    → now_rows schema rows done w ≡ now_rows schema rows (done ++ more) w
now_further schema rows done more w below = at w.source below
  where
    at : (o : Option ℕ) → ((s : ℕ) → o ≡ Some s → s < length done) → shown schema w.op (source_rows rows done o) ≡ shown schema w.op (source_rows rows (done ++ more) o)
    at None b = refl
    at (Some s) b = ap (shown schema w.op) (sym (get_or_append_left done more [] s (b s refl)))

turn_further : (schema : List Attribute) (before after : List (List Datum)) (watches : List WatchState) (root : Turn) (done more : List Turn) (w : WatchState) → ((s : ℕ) → w.source ≡ Some s → s < length done)
    → now_turn schema before after watches root done w ≡ now_turn schema before after watches root (done ++ more) w
turn_further schema before after watches root done more w below = at w.source below
  where
    at : (o : Option ℕ) → ((s : ℕ) → o ≡ Some s → s < length done)
        → own w.op (now_kept schema before watches w) (now_kept schema after watches w) (source_turn root done o)
        ≡ own w.op (now_kept schema before watches w) (now_kept schema after watches w) (source_turn root (done ++ more) o)
    at None b = refl
    at (Some s) b = ap (own w.op (now_kept schema before watches w) (now_kept schema after watches w)) (sym (get_or_append_left done more Still s (b s refl)))

module _ (schema : List Attribute) (shape : List WatchState) (sources : AreInOrder shape) where
  -- what is seen through watches that keep their positions is what they show by the rows alone
  pub seen_now : (rows : List (List Datum)) (watches : List WatchState) → AreNow schema rows watches → AreAlike shape watches → (fuel : ℕ) (over : Option ℕ)
      → ForSome over (λ s. (s < length shape) × (s < fuel)) → seen rows watches over ≡ now_seen schema rows shape over
  seen_now rows watches now alike fuel None below = refl
  seen_now rows watches now alike zero (Some s) below = absurd (let p = (below s refl).1 in omega arith)
  seen_now rows watches now alike (suc fuel) (Some s) below =
      let p = (below s refl).0 in
      let f = (below s refl).1 in
      let e = alike.long in
      let d = some_watch shape s p in
      let src = (get_or shape s d).source in
      let earlier : ForSome src (λ t. (t < length shape) × (t < fuel)) = λ t is. let q = sources s t d p is in (omega arith, omega arith) in
      seen_shown schema rows watches s d now (omega arith)
      ∙ ap (λ o. shown schema o (seen rows watches (get_or watches s d).source)) (alike.op s d p)
      ∙ ap (λ o. shown schema (get_or shape s d).op (seen rows watches o)) (alike.source s d p)
      ∙ ap (shown schema (get_or shape s d).op) (seen_now rows watches now alike fuel src earlier)
      ∙ sym (along_at (now_rows schema rows) (now_further schema rows) [] shape s [] d p (λ j t q is. let r = sources j t d q is in omega arith))

  -- as much for the source of a watch
  pub source_now : (rows : List (List Datum)) (watches : List WatchState) → AreNow schema rows watches → AreAlike shape watches → (k : ℕ) (d : WatchState) → k < length shape
      → seen rows watches (get_or watches k d).source ≡ now_seen schema rows shape (get_or shape k d).source
  source_now rows watches now alike k d p =
      ap (seen rows watches) (alike.source k d p)
      ∙ seen_now rows watches now alike (length shape) (get_or shape k d).source (λ s is. let q = sources k s d p is in (omega arith, omega arith))

  pub kept_now : (rows : List (List Datum)) (watches : List WatchState) → AreNow schema rows watches → AreAlike shape watches → (k : ℕ) (d : WatchState) → k < length shape
      → (get_or watches k d).kept ≡ now_kept schema rows shape (get_or shape k d)
  kept_now rows watches now alike k d p =
      let e = alike.long in
      now.now k d (omega arith)
      ∙ ap (λ o. positions schema o (seen rows watches (get_or watches k d).source)) (alike.op k d p)
      ∙ ap (positions schema (get_or shape k d).op) (source_now rows watches now alike k d p)

  -- the turns of the watches are those that the rows make due
  module _ (before after : List (List Datum)) (root : Turn) (old noted new : List WatchState) (old_now : AreNow schema before old) (new_now : AreNow schema after new)
      (old_alike : AreAlike shape old) (new_alike : AreAlike shape new) (same : AreSame old noted) (told : AreTold root noted new) where
    of_source : (o : Option ℕ) (d : WatchState) → ((s : ℕ) → o ≡ Some s → (s < length shape) × ((get_or new s d).turn ≡ get_or (now_turns schema before after shape root) s Still))
        → turn_of root new o ≡ source_turn root (now_turns schema before after shape root) o
    of_source None d at = refl
    of_source (Some s) d at =
        let c = new_alike.long in
        let below = (at s refl).0 in
        get_or-map (λ (w : WatchState). w.turn) new s d Still (omega arith) ∙ (at s refl).1

    turn_at : (fuel k : ℕ) (d : WatchState) → k < length shape → k < fuel → (get_or new k d).turn ≡ get_or (now_turns schema before after shape root) k Still
    turn_at zero k d p f = absurd (omega arith)
    turn_at (suc fuel) k d p f =
        let a = old_alike.long in
        let b = same.long in
        let q : k < length old = omega arith in
        let r : k < length noted = omega arith in
        let w = get_or shape k d in
        let is = same.each k d q in
        let op : (get_or noted k d).op ≡ w.op = is.op ∙ old_alike.op k d p in
        let source : (get_or noted k d).source ≡ w.source = is.source ∙ old_alike.source k d p in
        let kept : (get_or noted k d).kept ≡ now_kept schema before shape w = is.kept ∙ kept_now before old old_now old_alike k d p in
        told.told k d r
        ∙ ap (λ o. own o (get_or noted k d).kept (get_or new k d).kept (turn_of root new (get_or noted k d).source)) op
        ∙ ap (λ ks. own w.op ks (get_or new k d).kept (turn_of root new (get_or noted k d).source)) kept
        ∙ ap (λ ks. own w.op (now_kept schema before shape w) ks (turn_of root new (get_or noted k d).source)) (kept_now after new new_now new_alike k d p)
        ∙ ap (λ o. own w.op (now_kept schema before shape w) (now_kept schema after shape w) (turn_of root new o)) source
        ∙ ap (own w.op (now_kept schema before shape w) (now_kept schema after shape w))
        (of_source w.source d (λ s is. let t = sources k s d p is in let below : s < length shape = omega arith in (below, turn_at fuel s d below (omega arith))))
        ∙ sym (along_at (now_turn schema before after shape root) (turn_further schema before after shape root) [] shape k Still d p (λ j s u e. let t = sources j s d u e in omega arith))

    pub turn_now : (k : ℕ) (d : WatchState) → k < length shape → (get_or new k d).turn ≡ get_or (now_turns schema before after shape root) k Still
    turn_now k d p = turn_at (length shape) k d p p

-- what watches tell, by their numbers and turns
told_alike : (shape new : List WatchState) (turns : List Turn) → length new ≡ length shape → length turns ≡ length shape
    → ((k : ℕ) (d : WatchState) → k < length shape → (get_or new k d).number ≡ (get_or shape k d).number)
    → ((k : ℕ) (d : WatchState) → k < length shape → (get_or new k d).turn ≡ get_or turns k Still)
    → told_by new ≡ told_in shape turns
told_alike [] [] [] long same number turn = refl
told_alike [] [] (t ∷ turns) long same number turn = absurd (omega arith)
told_alike [] (n ∷ new) turns long same number turn = absurd (omega arith)
told_alike (s ∷ shape) [] turns long same number turn = absurd (omega arith)
told_alike (s ∷ shape) (n ∷ new) [] long same number turn = absurd (omega arith)
told_alike (s ∷ shape) (n ∷ new) (t ∷ turns) long same number turn =
    ap (λ x. map (told_as x) (events_of n.turn) ++ told_by new) (number 0 n (omega arith))
    ∙ ap (λ x. map (told_as s.number) (events_of x) ++ told_by new) (turn 0 n (omega arith))
    ∙ ap (λ ts. map (told_as s.number) (events_of t) ++ ts)
    (told_alike shape new turns (omega arith) (omega arith) (λ k d p. number (suc k) d (omega arith)) (λ k d p. turn (suc k) d (omega arith)))

-- sums over watches that agree one by one
sums_agree : (f g : WatchState → ℕ) (xs ys : List WatchState) → length xs ≡ length ys → ((k : ℕ) (d : WatchState) → k < length ys → f (get_or xs k d) ≡ g (get_or ys k d)) → sum_by f xs ≡ sum_by g ys
sums_agree f g [] [] long same = refl
sums_agree f g [] (y ∷ ys) long same = absurd (omega arith)
sums_agree f g (x ∷ xs) [] long same = absurd (omega arith)
sums_agree f g (x ∷ xs) (y ∷ ys) long same =
    let one = same 0 x (omega arith) in
    let left = sum_by-cons f x xs in
    let right = sum_by-cons g y ys in
    let rest = sums_agree f g xs ys (omega arith) (λ k d p. same (suc k) d (omega arith)) in
    omega (arith, one, left, right, rest)

sums_add : (f g h : WatchState → ℕ) (xs : List WatchState) → ((w : WatchState) → h w ≡ f w + g w) → sum_by h xs ≡ sum_by f xs + sum_by g xs
sums_add f g h [] add = refl
sums_add f g h (x ∷ xs) add =
    let a = sum_by-cons f x xs in
    let b = sum_by-cons g x xs in
    let c = sum_by-cons h x xs in
    let d = add x in
    let e = sums_add f g h xs add in
    omega (arith, a, b, c, d, e)

-- what a watch may cost before an event and after it, by the rows alone
abbrev cost_before : List Attribute → List (List Datum) → List WatchState → WatchState → ℕ
cost_before schema before watches w = if is_sorting w.op then digits (length (now_seen schema before watches w.source)) else 0

both_costs : (schema : List Attribute) (before after : List (List Datum)) (watches : List WatchState) (w : WatchState)
    → now_cost schema before after watches w ≡ cost_before schema before watches w + coming_cost schema after watches w
both_costs schema before after watches w = at (is_sorting w.op)
  where
    at : (sorts : Bool) → (if sorts then digits (length (now_seen schema before watches w.source)) + digits (length (now_seen schema after watches w.source)) else 1)
        ≡ (if sorts then digits (length (now_seen schema before watches w.source)) else 0) + (if sorts then digits (length (now_seen schema after watches w.source)) else 1)
    at true = refl
    at false = refl

-- what it says of the watches as they are: the sums before an event and after it
module _ (schema : List Attribute) (shape : List WatchState) (sources : AreInOrder shape) (rows : List (List Datum)) (watches : List WatchState) (now : AreNow schema rows watches) (alike : AreAlike shape watches) where
  before_now : sum_by (before_cost rows watches) watches ≡ sum_by (cost_before schema rows shape) shape
  before_now = sums_agree (before_cost rows watches) (cost_before schema rows shape) watches shape alike.long (λ k d p.
      ap (λ o. if is_sorting o then digits (length (seen rows watches (get_or watches k d).source)) else 0) (alike.op k d p)
      ∙ ap (λ xs. if is_sorting (get_or shape k d).op then digits (length xs) else 0) (source_now schema shape sources rows watches now alike k d p))

  after_now : sum_by (after_cost rows watches) watches ≡ sum_by (coming_cost schema rows shape) shape
  after_now = sums_agree (after_cost rows watches) (coming_cost schema rows shape) watches shape alike.long (λ k d p.
      ap (λ o. if is_sorting o then digits (length (seen rows watches (get_or watches k d).source)) else 1) (alike.op k d p)
      ∙ ap (λ xs. if is_sorting (get_or shape k d).op then digits (length xs) else 1) (source_now schema shape sources rows watches now alike k d p))

costs_now : (schema : List Attribute) (shape : List WatchState) → AreInOrder shape → (before after : List (List Datum)) (old new : List WatchState)
    → AreNow schema before old → AreAlike shape old → AreNow schema after new → AreAlike shape new
    → sum_by (before_cost before old) old + sum_by (after_cost after new) new ≡ sum_by (now_cost schema before after shape) shape
costs_now schema shape sources before after old new old_now old_alike new_now new_alike =
    let first = before_now schema shape sources before old old_now old_alike in
    let second = after_now schema shape sources after new new_now new_alike in
    let all = sums_add (cost_before schema before shape) (coming_cost schema after shape) (now_cost schema before after shape) shape (both_costs schema before after shape) in
    omega (arith, first, second, all)

-- one event
module _ (schema : List Attribute) (shape : List WatchState) (sources : AreInOrder shape) (rows : List (List Datum)) (old : List WatchState) (now : AreNow schema rows old) (alike : AreAlike shape old) (h : Heard) (is : IsHeard schema rows old h) where
  alike_after : AreAlike old h.watches
  alike_after =
      let a = is.same.long in
      let b = is.follows.long in
      record {
        long = is.follows.long ∙ is.same.long;
        number = λ k d p. (is.follows.each k d (omega arith)).number ∙ (is.same.each k d p).number;
        source = λ k d p. (is.follows.each k d (omega arith)).source ∙ (is.same.each k d p).source;
        op = λ k d p. (is.follows.each k d (omega arith)).op ∙ (is.same.each k d p).op;
      }

  alike_left : AreAlike shape h.watches
  alike_left = alike_then shape old h.watches alike alike_after

  told_now : h.told ≡ told_in shape (now_turns schema rows h.rows shape (root_turn h.event))
  told_now =
      is.tells
      ∙ told_alike shape h.watches (now_turns schema rows h.rows shape (root_turn h.event)) alike_left.long
      (length-along (now_turn schema rows h.rows shape (root_turn h.event)) [] shape) alike_left.number
      (turn_now schema shape sources rows h.rows (root_turn h.event) old is.noted h.watches now is.now alike alike_left is.same is.follows)

  steps_now : h.steps ≤ sum_by (now_cost schema rows h.rows shape) shape
  steps_now =
      let all = costs_now schema shape sources rows h.rows old h.watches now alike is.now alike_left in
      let most = is.cost in
      omega (arith, all, most)

-- the watches after events, of which the first watches are like these
record GoOn (schema : List Attribute) (shape : List WatchState) (rows : List (List Datum)) (old : List WatchState) (heard : List Heard) : Type 0 where
  alike : AreAlike shape (last_watches old heard)
  now : AreNow schema (last_rows rows heard) (last_watches old heard)
  followed : (k : ℕ) (d : WatchState) → k < length old → (get_or (last_watches old heard) k d).followed ≡ raised_by (length heard) (get_or old k d).followed
  told : all_told heard ≡ told_over schema rows shape heard
  steps : all_steps heard ≤ cost_over schema rows shape heard

go_on : (schema : List Attribute) (shape : List WatchState) → AreInOrder shape → (rows : List (List Datum)) (old : List WatchState) (heard : List Heard)
    → AreNow schema rows old → AreAlike shape old → AreHeard schema rows old heard → GoOn schema shape rows old heard
go_on schema shape sources rows old [] now alike all = record { alike = alike; now = now; followed = λ k d p. refl; told = refl; steps = omega arith }
go_on schema shape sources rows old (h ∷ later) now alike all =
    let is = all.0 in
    let near = alike_after schema shape sources rows old now alike h is in
    let next = alike_left schema shape sources rows old now alike h is in
    let rest = go_on schema shape sources h.rows h.watches later is.now next all.1 in
    let first = steps_now schema shape sources rows old now alike h is in
    let more = rest.steps in
    let sum = sum_by-cons (λ (x : Heard). x.steps) h later in
    let a = is.same.long in
    let b = is.follows.long in
    record {
      alike = rest.alike;
      now = rest.now;
      followed = λ k d p.
          rest.followed k d (omega arith)
          ∙ ap (raised_by (length later)) ((is.follows.each k d (omega arith)).followed ∙ ap (raised_by 1) ((is.same.each k d p).followed))
          ∙ raised_more 1 (length later) (get_or old k d).followed
          ∙ ap (λ n. raised_by n (get_or old k d).followed) (let e : 1 + length later ≡ suc (length later) = omega arith in e);
      told = ap (λ ts. ts ++ all_told later) (told_now schema shape sources rows old now alike h is)
          ∙ ap (λ ts. told_in shape (now_turns schema rows h.rows shape (root_turn h.event)) ++ ts) rest.told;
      steps = omega (arith, first, more, sum);
    }

pub have_heard : (schema : List Attribute) (rows : List (List Datum)) (old : List WatchState) (heard : List Heard) → AreNow schema rows old → AreHeard schema rows old heard → HaveHeard schema rows old heard
have_heard schema rows old heard now all =
    let goes = go_on schema old now.sources rows old heard now (alike_self old) all in
    record {
      long = goes.alike.long;
      each = λ k d p. record {
        number = goes.alike.number k d p;
        source = goes.alike.source k d p;
        op = goes.alike.op k d p;
        kept = kept_now schema old now.sources (last_rows rows heard) (last_watches old heard) goes.now goes.alike k d p;
        followed = goes.followed k d p;
      };
      now = goes.now;
      told = goes.told;
      steps = goes.steps;
    }

-- one edit
module _ (schema : List Attribute) (shape : List WatchState) (sources : AreInOrder shape) (rows : List (List Datum)) (old : List WatchState) (now : AreNow schema rows old) (alike : AreAlike shape old) (s : Stepped) (is : IsStepped schema rows old s) where
  alike_step : AreAlike shape s.watches
  alike_step =
      let a = alike.long in
      let b = is.followed.long in
      record {
        long = is.followed.long ∙ alike.long;
        number = λ k d p. (is.followed.each k d (omega arith)).number ∙ alike.number k d p;
        source = λ k d p. (is.followed.each k d (omega arith)).source ∙ alike.source k d p;
        op = λ k d p. (is.followed.each k d (omega arith)).op ∙ alike.op k d p;
      }

  cost_step : (edit : RowEdit) → edit_cost edit rows s.rows old s.watches ≡ step_cost schema edit rows s.rows shape
  cost_step (Insert at zero) = refl
  cost_step (Insert at (suc more)) = after_now schema shape sources s.rows s.watches is.now alike_step
  cost_step (Remove at count) = refl
  cost_step (Change at) = costs_now schema shape sources rows s.rows old s.watches now alike is.now alike_step

-- the watches after edits, of which the first watches are like these
record StepOn (schema : List Attribute) (shape : List WatchState) (rows : List (List Datum)) (old : List WatchState) (edits : List Stepped) : Type 0 where
  alike : AreAlike shape (watches_edited old edits)
  now : AreNow schema (rows_edited rows edits) (watches_edited old edits)
  followed : (k : ℕ) (d : WatchState) → k < length old → (get_or (watches_edited old edits) k d).followed ≡ raised_by (events_in edits) (get_or old k d).followed
  steps : steps_in edits ≤ step_cost_over schema rows shape edits

step_on : (schema : List Attribute) (shape : List WatchState) → AreInOrder shape → (rows : List (List Datum)) (old : List WatchState) (edits : List Stepped)
    → AreNow schema rows old → AreAlike shape old → AreStepped schema rows old edits → StepOn schema shape rows old edits
step_on schema shape sources rows old [] now alike all = record { alike = alike; now = now; followed = λ k d p. refl; steps = omega arith }
step_on schema shape sources rows old (s ∷ later) now alike all =
    let is = all.0 in
    let next = alike_step schema shape sources rows old now alike s is in
    let rest = step_on schema shape sources s.rows s.watches later is.now next all.1 in
    let cost = cost_step schema shape sources rows old now alike s is s.edit in
    let most = is.cost in
    let more = rest.steps in
    let sum = sum_by-cons (λ (x : Stepped). x.steps) s later in
    let events = sum_by-cons (λ (x : Stepped). count_of x.edit) s later in
    let long = is.followed.long in
    record {
      alike = rest.alike;
      now = rest.now;
      followed = λ k d p.
          rest.followed k d (omega arith)
          ∙ ap (raised_by (events_in later)) (is.followed.each k d p).followed
          ∙ raised_more (count_of s.edit) (events_in later) (get_or old k d).followed
          ∙ ap (λ n. raised_by n (get_or old k d).followed) (sym events);
      steps = omega (arith, cost, most, more, sum);
    }

pub have_stepped : (schema : List Attribute) (rows : List (List Datum)) (old : List WatchState) (edits : List Stepped) → AreNow schema rows old → AreStepped schema rows old edits → HaveStepped schema rows old edits
have_stepped schema rows old edits now all =
    let goes = step_on schema old now.sources rows old edits now (alike_self old) all in
    record {
      long = goes.alike.long;
      each = λ k d p. record {
        number = goes.alike.number k d p;
        source = goes.alike.source k d p;
        op = goes.alike.op k d p;
        kept = kept_now schema old now.sources (rows_edited rows edits) (watches_edited old edits) goes.now goes.alike k d p;
        followed = goes.followed k d p;
      };
      now = goes.now;
      steps = goes.steps;
    }
