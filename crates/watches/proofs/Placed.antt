-- A watch put over what a name stands for.
use Rattle.std.proofs.Common.{◌≡◌, ℕ, suc, ◌+◌, ◌<◌, Bool, true, false, not, leb, ltb, List, [], ◌∷◌, ◌++◌, length, get_or, set, map, position, Option, Some, None, refl, ap, sym, subst, ◌∙◌, arith, inl, inr}
use Rattle.std.specs.Prelude.{Result, Ok, Err, IfOk, OnErr, ◌⊎◌}
use Rattle.std.specs.List.{All}
use Rattle.std.specs.Cmp.Lexicographic.{bytes_decides}
use Rattle.std.specs.Option.{ForSome, option_map}
use Rattle.std.proofs.lemmas.Bool.{cases_lt}
use Rattle.std.proofs.lemmas.Bool.Decides.{nat_tests}
use Rattle.std.proofs.lemmas.List.{append-nil, append_assoc, get_or-map, get_or_push, length-map, length_push, map-set, map_push}
use Rattle.std.proofs.lemmas.List.Elements.{All-map, All-push, All-set}
use Rattle.std.proofs.lemmas.Option.{same_Some}
use Rattle.mk_value.specs.Data.{Datum}
use Rattle.mk_value.specs.Heading.{Attribute}
use Rattle.mk_value.specs.Names.{same_bytes}
use Rattle.tables.specs.Tables.{StoredTable}
use Rattle.view_store.specs.Views.{NamedTable, table_of}
use Rattle.view_store.proofs.Roots.{same_name}
use Rattle.live.specs.Chains.{source_rows}
use Rattle.live.specs.Laws.{shown}
use Rattle.live.specs.Putting.{AnswersPut, spelled}
use Rattle.live.specs.declared.error.WatchError.{WatchError}
use Rattle.live.specs.declared.op.WatchOp.{WatchOp}
use Rattle.watches.specs.Lines.{watch_due}
use Rattle.watches.specs.Groups.{AreWhole, IsFirst, IsPutOver}
use Rattle.watches.specs.Keeping.{AreKept, IsKept, IsKeptOver, Kept, followed, followed_of}
use Rattle.watches.specs.Watches.{Followed, Shown, Source, is_among, place_of, rows_shown, rows_under, source_in, source_of, watches_in, watches_of, with_watch}
use Rattle.watches.proofs.Finding.{IsFirstAt, find_first, find_map, find_none, first_at, first_within, none_at}
use Rattle.watches.proofs.Listing.{is_of, no_watches, put_at, put_last}
use Rattle.watches.proofs.Shown.{found_kept}
use Rattle.watches.proofs.Taken.{first_followed}
use Rattle.watches.proofs.Whole.{no_kept, not_full, size_of, view_of}

-- the rows of the last watch
rows_push : (schema : List Attribute) (rows : List (List Datum)) (done : List (List (List Datum))) (watches : List Shown) (s : Shown)
    → rows_shown schema rows done (watches ++ s ∷ []) ≡ rows_shown schema rows done watches ++ shown schema s.op (source_rows rows (done ++ rows_shown schema rows done watches) s.source) ∷ []
rows_push schema rows done [] s = ap (λ d. shown schema s.op (source_rows rows d s.source) ∷ []) (sym (append-nil done))
rows_push schema rows done (v ∷ watches) s =
    let x = shown schema v.op (source_rows rows done v.source) in
    let more = rows_shown schema rows (done ++ x ∷ []) watches in
    ap (λ xs. x ∷ xs)
    (rows_push schema rows (done ++ x ∷ []) watches s ∙ ap (λ d. more ++ shown schema s.op (source_rows rows d s.source) ∷ []) (append_assoc done (x ∷ []) more))

rows_long : (schema : List Attribute) (rows : List (List Datum)) (done : List (List (List Datum))) (watches : List Shown) → length (rows_shown schema rows done watches) ≡ length watches
rows_long schema rows done [] = refl
rows_long schema rows done (v ∷ watches) = ap suc (rows_long schema rows (done ++ shown schema v.op (source_rows rows done v.source) ∷ []) watches)

pub last_rows : (t : StoredTable) (watches : List Shown) (s : Shown) → get_or (rows_shown t.schema t.rows [] (watches ++ s ∷ [])) (length watches) [] ≡ shown t.schema s.op (rows_under t watches s.source)
last_rows t watches s =
    let front = rows_shown t.schema t.rows [] watches in
    let x = shown t.schema s.op (source_rows t.rows front s.source) in
    ap (λ xs. get_or xs (length watches) []) (rows_push t.schema t.rows [] watches s) ∙ get_or_push front x [] (length watches) (rows_long t.schema t.rows [] watches)

pub same_self : (a : List ℕ) → same_bytes a a ≡ true
same_self a = (bytes_decides a a).1 refl

twice : (all : List Kept) → AreWhole all → (i j : ℕ) → i < j → j < length all → (get_or all i no_kept).view ≡ (get_or all j no_kept).view → ⊥
twice all whole i j less q e =
    let long = length-map all view_of in
    let vi = get_or-map view_of all i no_kept [] (omega arith) in
    let vj = get_or-map view_of all j no_kept [] q in
    let no = whole.distinct i j [] less (omega arith) in
    let clash : true ≡ false = sym (same_self (get_or (map view_of all) i [])) ∙ ap (same_bytes (get_or (map view_of all) i [])) (vi ∙ e ∙ sym vj) ∙ no in
    cc

-- a view is listed once
pub one_place : (all : List Kept) → AreWhole all → (i j : ℕ) → i < length all → j < length all → (get_or all i no_kept).view ≡ (get_or all j no_kept).view → i ≡ j
one_place all whole i j p q e = elim (cases_lt i j) [
  | inl less ↦ absurd (twice all whole i j less q e)
  | inr r ↦ elim (cases_lt j i) [ inl less ↦ absurd (twice all whole j i less p (sym e)) | inr l ↦ omega arith ]
]

module _ (all : List Kept) (name : List ℕ) where
  abbrev test : Kept → Bool
  test k = is_among (followed_of k).watches name

  abbrev src : Source
  src = source_of (followed all) name

  -- where a name stands for a watch, that is one of its view
  source_at : (j : ℕ) → IsFirstAt test all j → src ≡ source_in (Some (followed_of (get_or all j no_kept))) name
  source_at j h = ap (λ o. source_in o name) (found_kept all name (get_or all j no_kept) (find_first test all j no_kept h))

  source_none : position test all ≡ None → src ≡ source_in None name
  source_none e =
      ap (λ o. source_in o name)
      (find_map (λ (f : Followed). is_among f.watches name) followed_of all ∙ ap (option_map followed_of) (find_none test all (none_at test all e)))

  pub over_below : AreWhole all → (at : ℕ) → IsFirstAt (λ (k : Kept). same_bytes k.view src.view) all at → ForSome src.over (λ x. x < size_of (get_or all at no_kept))
  over_below whole at first = go (position test all) refl
    where
      go : (r : Option ℕ) → position test all ≡ r → ForSome src.over (λ x. x < size_of (get_or all at no_kept))
      go None e x h = absurd (let f = ap (λ (s : Source). s.over) (source_none e) in let g : None ≡ Some x = sym f ∙ h in cc)
      go (Some j) e x h =
          let fj = first_at test all j no_kept e in
          let k = get_or all j no_kept in
          let is = source_at j fj in
          let view : (get_or all at no_kept).view ≡ k.view = same_name (get_or all at no_kept).view src.view (first.here no_kept) ∙ ap (λ (s : Source). s.view) is in
          let same : at ≡ j = one_place all whole at j first.within fj.within view in
          let over = ap (λ (s : Source). s.over) is in
          let place : place_of (followed_of k).watches name ≡ x = same_Some (place_of (followed_of k).watches name) x (sym over ∙ h) in
          let below = first_within (λ (s : Shown). same_bytes s.name name) (followed_of k).watches (fj.here no_kept) in
          let size = ap (λ i. size_of (get_or all i no_kept)) same in
          omega arith

  pub over_none : All (λ (k : Kept). same_bytes k.view src.view ≡ false) all → src.over ≡ None
  over_none none = go (position test all) refl
    where
      go : (r : Option ℕ) → position test all ≡ r → src.over ≡ None
      go None e = ap (λ (s : Source). s.over) (source_none e)
      go (Some j) e =
          let fj = first_at test all j no_kept e in
          let k = get_or all j no_kept in
          let view : src.view ≡ k.view = ap (λ (s : Source). s.view) (source_at j fj) in
          let clash : true ≡ false = sym (same_self k.view) ∙ ap (same_bytes k.view) (sym view) ∙ none j no_kept fj.within in
          absurd (let f : true ≡ false = clash in cc)

-- the watches of a view, and one more of them
module _ (all : List Kept) (view : List ℕ) (at : ℕ) (first : IsFirstAt (λ (k : Kept). same_bytes k.view view) all at) where
  abbrev here : Kept
  here = get_or all at no_kept

  pub watches_at : watches_of (followed all) view ≡ (followed_of here).watches
  watches_at =
      ap watches_in (find_first (is_of view) (followed all) at no_watches (first_followed (is_of view) all at first))
      ∙ ap (λ (f : Followed). f.watches) (get_or-map followed_of all at no_kept no_watches first.within)

  pub placed_at : (s : Shown) (new : Kept) → followed_of new ≡ record (followed_of here) { watches = (followed_of here).watches ++ s ∷ [] } → followed (set all at new) ≡ with_watch (followed all) view s
  placed_at s new e =
      map-set followed_of all at new
      ∙ ap (set (followed all) at) (e ∙ ap (λ (f : Followed). record f { watches = f.watches ++ s ∷ [] }) (sym (get_or-map followed_of all at no_kept no_watches first.within)))
      ∙ sym (put_at (followed all) view s at (first_followed (is_of view) all at first))

  pub placed_kept : (views : List NamedTable) (t : StoredTable) (new : Kept) → table_of views view ≡ Some t → new.view ≡ here.view → IsKeptOver t.schema t.rows new → AreKept views all → AreKept views (set all at new)
  placed_kept views t new e same over h =
      All-set (IsKept views) all at new (record { table = t; there = ap (table_of views) (same ∙ same_name here.view view (first.here no_kept)) ∙ e; over = over }) h

-- a first watch over a view
pub placed_last : (all : List Kept) (view : List ℕ) (s : Shown) (k : Kept) → All (λ (k : Kept). same_bytes k.view view ≡ false) all → k.view ≡ view → (followed_of k).watches ≡ s ∷ [] → followed (all ++ k ∷ []) ≡ with_watch (followed all) view s
placed_last all view s k none same e =
    map_push followed_of all k
    ∙ ap (λ f. followed all ++ f ∷ []) (ap (λ v. record { view = v; watches = (followed_of k).watches }) same ∙ ap (λ ws. record { view = view; watches = ws }) e)
    ∙ sym (put_last (followed all) view s (All-map (λ (f : Followed). is_of view f ≡ false) followed_of all none))

pub first_kept : (views : List NamedTable) (t : StoredTable) (all new : List Kept) (view name : List ℕ) (op : WatchOp) (r : Result ℕ WatchError) → IfOk r (λ size. IsFirst t.schema t.rows view name op all new size) → OnErr r (new ≡ all)
    → table_of views view ≡ Some t → AreKept views all → AreKept views new
first_kept views t all new view name op (Ok size) ok err e h =
    subst (AreKept views) (sym ok.last)
    (All-push (IsKept views) all ok.watches h (record { table = t; there = ap (table_of views) ok.over ∙ e; over = ok.put.kept }))
first_kept views t all new view name op (Err x) ok err e h = subst (AreKept views) (sym err) h

-- how many watches a view has once one was put, or refused
pub grown : (schema : List Attribute) (rows : List (List Datum)) (op : WatchOp) (depth : ℕ) (is_full : Bool) (old new : Kept) (name : List ℕ) (over : Option ℕ) (r : Result ℕ WatchError)
    → AnswersPut (watch_due schema op depth is_full) r → IfOk r (λ size. IsPutOver schema rows (followed_of old).watches name over op new size) → OnErr r (new ≡ old)
    → ((is_full ≡ false) × (size_of new ≡ size_of old + 1)) ⊎ (size_of new ≡ size_of old)
grown schema rows op depth is_full old new name over (Ok size) due ok err =
    inl (not_full schema op depth is_full size due, ap length ok.watches ∙ length_push (followed_of old).watches (record { name = name; source = over; op = spelled schema op; followed = 0 }))
grown schema rows op depth is_full old new name over (Err x) due ok err = inr (ap size_of err)

pub full_is : (n : ℕ) → leb 64 n ≡ not (ltb n 64)
full_is n = grind (arith, nat_tests)

pub below_full : (n : ℕ) → leb 64 n ≡ false → n < 64
below_full n e = grind (arith, nat_tests)
