-- A watch that an expression names: what its name stands for, and that its rows stand in the order of the keys by which they are known to be sorted.
use Rattle.std.proofs.Common.{◌≡◌, ℕ, Bool, true, false, List, [], ◌∷◌, length, map, Option, Some, None, Result, Ok, Err, refl, ap, sym, ◌∙◌}
use Rattle.std.specs.Prelude.{filter, find, not}
use Rattle.std.specs.Option.{is_some}
use Rattle.std.specs.Result.{result_map_both}
use Rattle.std.specs.Cmp.Lexicographic.{same_text}
use Rattle.std.specs.List.Sorted.{IsSorted}
use Rattle.std.specs.Ordering.{is_lt, ordering_then}
use Rattle.std.specs.declared.cmp.Ordering.{Ordering}
use Rattle.std.specs.declared.cmp.Ordering.TheVariants.{Less, Equal, Greater}
use Rattle.computing.specs.Computed.{Computations, computed_names}
use Rattle.eval.specs.Names.{Named, continued, seen_at, view_at}
use Rattle.eval.specs.Values.{asked, at_path}
use Rattle.eval.specs.declared.error.NameError.{NameError}
use Rattle.eval.specs.declared.error.NameError.TheVariants.{NoName}
use Rattle.expr_text.specs.Arguments.{Criterion}
use Rattle.expr_text.specs.Queries.{Query}
use Rattle.watches.specs.Watches.{Followed, op_of, watch_table}
use Rattle.watches.proofs.Sortings.{watch_in_order}
use Rattle.live.specs.declared.op.WatchOp.{WatchOp}
use Rattle.live.specs.declared.op.WatchOp.TheVariants as op
use Rattle.mk_value.specs.Data.{Datum}
use Rattle.mk_value.specs.Heading.{Attribute}
use Rattle.mk_value.specs.Names.{same_bytes}
use Rattle.mk_value.specs.Order.{turned, value_cmp}
use Rattle.mk_value.specs.Tables.{Table}
use Rattle.relations.proofs.Faults.{cases}
use Rattle.relations.specs.Refusals.{literals_due}
use Rattle.relations.specs.Rows.{value_of}
use Rattle.relations.specs.Sorting.{row_cmp}
use Rattle.relations.specs.declared.criteria.Key.{Key}
use Rattle.viewers.specs.Meanings.{Meaning}
use Rattle.questions.specs.Answers.{answer, size_due}
use Rattle.questions.specs.InOrder.{IsWatchNamed, placed, sought}
use Rattle.questions.specs.Kept.{Names, asked_names, known, sources}
use Rattle.questions.specs.Places.{before_values, first_keys, keys_in_order, keys_shown, known_keys, locate_due, located, search_due, unless_due, where_sorted}
use Rattle.questions.specs.Told.{told}
use Rattle.questions.specs.declared.error.QuestionError.{QuestionError}
use Rattle.questions.specs.declared.located.Located.{Located}
use Rattle.questions.proofs.Found.{is_this, view_at-before}

-- keys that are left out after one of the same property never decide

turned_equal : (down : Bool) (o : Ordering) → turned down o ≡ Equal → o ≡ Equal
turned_equal true Less e = absurd (let f : ◌≡◌ {A = Ordering} Greater Equal = e in cc)
turned_equal true Equal e = refl
turned_equal true Greater e = absurd (let f : ◌≡◌ {A = Ordering} Less Equal = e in cc)
turned_equal false o e = e

turned_tie : (down : Bool) → turned down Equal ≡ Equal
turned_tie true = refl
turned_tie false = refl

module _ (schema : List Attribute) (a b : List Datum) where
  abbrev cmp_at : List ℕ → Ordering
  cmp_at name = value_cmp (value_of schema a name) (value_of schema b name)

  tied_keys : (name : List ℕ) (keys : List Key) → cmp_at name ≡ Equal → row_cmp schema (filter (λ (k : Key). not (same_bytes name k.prop)) keys) a b ≡ row_cmp schema keys a b
  tied_keys name [] tie = refl
  tied_keys name (k ∷ keys) tie = cases (same_bytes name k.prop)
      (λ e.
      let here : cmp_at k.prop ≡ Equal = ap cmp_at (sym (same_text name k.prop (sym e))) ∙ tie in
      let decides : turned k.down (cmp_at k.prop) ≡ Equal = ap (turned k.down) here ∙ turned_tie k.down in
      rw e (tied_keys name keys tie ∙ sym (ap (λ o. ordering_then o (row_cmp schema keys a b)) decides)))
      (λ e. rw e (ap (ordering_then (turned k.down (cmp_at k.prop))) (tied_keys name keys tie)))

  once : (k : Key) (keys others : List Key) (o : Ordering) → turned k.down (cmp_at k.prop) ≡ o → row_cmp schema others a b ≡ row_cmp schema keys a b
      → ordering_then o (row_cmp schema (filter (λ (other : Key). not (same_bytes k.prop other.prop)) others) a b) ≡ ordering_then o (row_cmp schema keys a b)
  once k keys others Less e same = refl
  once k keys others Equal e same = tied_keys k.prop others (turned_equal k.down (cmp_at k.prop) e) ∙ same
  once k keys others Greater e same = refl

  -- keys, each property once, order two rows as they do
  pub first_alike : (keys : List Key) → row_cmp schema (first_keys keys) a b ≡ row_cmp schema keys a b
  first_alike [] = refl
  first_alike (k ∷ keys) = once k keys (first_keys keys) (turned k.down (cmp_at k.prop)) refl (first_alike keys)

sorted_by_none : (schema : List Attribute) (rows : List (List Datum)) → IsSorted (row_cmp schema []) rows
sorted_by_none schema rows = λ k d _ p. refl

sorted_as_shown : (views : _) (watches : List Followed) (name : List ℕ) (t : Table) (o : Option WatchOp) → op_of watches name ≡ o → watch_table views watches name ≡ Some t
    → IsSorted (row_cmp t.schema (keys_shown o)) t.rows
sorted_as_shown views watches name t None is shows = sorted_by_none t.schema t.rows
sorted_as_shown views watches name t (Some (op.Range criteria)) is shows = sorted_by_none t.schema t.rows
sorted_as_shown views watches name t (Some (op.Sort keys)) is shows =
    let up = watch_in_order views watches name keys t is shows in
    λ k d low p. ap is_lt (first_alike t.schema _ _ keys) ∙ up k d low p

module _ (n : Names) (q : Query) (t : Table) (is : IsWatchNamed n q t) where
  keys_are : known_keys n.watches n.mappings q t.schema ≡ keys_shown (op_of n.watches is.route.name)
  keys_are = ap (λ p. known_keys n.watches n.mappings p t.schema) is.names ∙ ap (λ o. keys_in_order o (op_of n.watches is.route.name) t.schema) is.unkeyed

  -- the rows of a watch stand in the order by which they are known to be sorted
  pub watch_sorted : IsSorted (row_cmp t.schema (known_keys n.watches n.mappings q t.schema)) t.rows
  watch_sorted = rw keys_are (sorted_as_shown n.views n.watches is.route.name t (op_of n.watches is.route.name) refl is.shows)

some_found : (o : Option Named) (steps : _) (t : Table) → seen_at o steps ≡ Ok t → is_some o ≡ true
some_found None steps t e = absurd (let f : ◌≡◌ {A = Result Table NameError} (Err NoName) (Ok t) = e in cc)
some_found (Some m) steps t e = refl

module _ (n : Names) (viewers : List Meaning) (c : Computations) (q : Query) (t : Table) (is : IsWatchNamed n q t) where
  -- computed watches come behind all other names
  found_known : view_at (asked_names n viewers c) is.route ≡ Ok t
  unfolding asked_names
  found_known =
      view_at-before (known n.views n.snapshots n.watches) (computed_names (sources n) viewers c) is.route is.route.name refl
      (some_found (find (is_this is.route.name) (known n.views n.snapshots n.watches)) is.route.steps t is.seen) ∙ is.seen

  pub watch_answered : answer (asked_names n viewers c) viewers q ≡ Ok t
  watch_answered = ap (answer (asked_names n viewers c) viewers) is.names ∙ ap (λ (r : Result Table NameError). result_map_both (λ t. t) told (at_path r)) found_known

  pub watch_sized : size_due (asked_names n viewers c) viewers q ≡ Ok (length t.rows)
  watch_sized = ap (λ (r : Result Table QuestionError). continued r (λ t. Ok (length t.rows))) watch_answered

  -- `search` and `locate` of such a watch
  pub search_named : (list : List Criterion) → search_due (asked_names n viewers c) n.watches n.mappings viewers q list ≡ sought t (known_keys n.watches n.mappings q t.schema) list
  search_named list =
      let given : Table → Result ℕ QuestionError = λ t. unless_due (literals_due (map asked list) t.schema) (where_sorted n.watches n.mappings q list t (before_values n.watches n.mappings q list t)) in
      ap (λ (r : Result Table QuestionError). continued r given) watch_answered

  pub locate_named : (list : List Criterion) → locate_due (asked_names n viewers c) n.watches n.mappings viewers q list ≡ placed t (known_keys n.watches n.mappings q t.schema) list
  locate_named list =
      let given : Table → Result Located QuestionError = λ t. unless_due (literals_due (map asked list) t.schema) (where_sorted n.watches n.mappings q list t (located n.watches n.mappings q list t)) in
      ap (λ (r : Result Table QuestionError). continued r given) watch_answered

-- what was asked for is not there
pub none_left : {X : Type 0} (o given : Option X) → o ≡ given → is_some given ≡ false → o ≡ None
none_left o None e h = e
none_left o (Some x) e h = absurd (let f : true ≡ false = h in cc)
