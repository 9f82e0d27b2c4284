-- Names among views, snapshots and watches.
use Rattle.std.proofs.lemmas.Bool.Decides.{nat_tests}
use Rattle.std.proofs.Common.{◌≡◌, length, eqb, arith, Bool, true, false, cond, ◌||◌, List, [], ◌∷◌, ◌++◌, map, Option, Some, None, Ok, Err, MatchOption, refl, ap, sym, subst, ◌∙◌}
use Rattle.std.specs.Prelude.{ℕ, find}
use Rattle.std.specs.List.{list_any}
use Rattle.std.specs.Option.{is_some, option_map, option_or, unwrap_or}
use Rattle.std.specs.Cmp.Lexicographic.{same_text}
use Rattle.mk_value.specs.Names.{same_bytes}
use Rattle.mk_value.specs.Tables.{Table}
use Rattle.mk_value.specs.Paths.{Route}
use Rattle.mk_value.specs.declared.path.Step.{Step}
use Rattle.watches.specs.Watches.{Followed, Shown, is_among, is_watch, watch_table}
use Rattle.eval.specs.Names.{Named, seen_at, table_at, view_at}
use Rattle.eval.specs.declared.error.NameError.{NameError}
use Rattle.eval.specs.declared.error.NameError.TheVariants.{NoName}
use Rattle.relations.proofs.Faults.{cases}
use Rattle.tables.specs.Tables.{StoredTable}
use Rattle.view_store.specs.Views.{NamedTable}
use Rattle.view_store.specs.Views as views
use Rattle.questions.specs.Kept.{Kept, named_snapshot, named_view, named_watch, stored, table_of, watch_names, watched}

-- this name
abbrev pub is_this : List ℕ → Named → Bool
is_this name n = same_bytes n.name name

pub find_behind : {X : Type 0} (p : X → Bool) (xs ys : List X) → find p (xs ++ ys) ≡ option_or (find p xs) (find p ys)
find_behind p [] ys = refl
find_behind p (x ∷ xs) ys = cases (p x)
    (λ e. rw e refl)
    (λ e. rw e (find_behind p xs ys))

or_some : {X : Type 0} (a b : Option X) → is_some a ≡ true → option_or a b ≡ a
or_some (Some x) b h = refl
or_some None b h = absurd (let f : false ≡ true = h in cc)

or_none : {X : Type 0} (a b : Option X) → is_some a ≡ false → option_or a b ≡ b
or_none (Some x) b h = absurd (let f : true ≡ false = h in cc)
or_none None b h = refl

-- what a name stands for that has this table
abbrev pub standing : List ℕ → Table → Named
standing name t = record { name = name; table = t; has_steps = true }

some_same : {X : Type 0} (x y : X) → Some x ≡ Some y → x ≡ y
some_same x y e = cc

none_some : {X P : Type 0} (x : X) → Some x ≡ None → P
none_some x e = absurd (let f : ◌≡◌ {A = Option _} (Some x) None = e in cc)

view_found : (vs : List NamedTable) (name : List ℕ) (t : StoredTable) → views.table_of vs name ≡ Some t → find (is_this name) (map named_view vs) ≡ Some (standing name (table_of t))
view_found [] name t h = none_some t (sym h)
view_found (v ∷ vs) name t h = cases (same_bytes v.name name)
    (λ e. let same = some_same v.table t (rw e at h) in
    rw e (ap (λ n. Some (standing n (table_of v.table))) (same_text v.name name (sym e)) ∙ ap (λ s. Some (standing name (table_of s))) same))
    (λ e. rw e (view_found vs name t (rw e at h)))

view_absent : (vs : List NamedTable) (name : List ℕ) → views.table_of vs name ≡ None → find (is_this name) (map named_view vs) ≡ None
view_absent [] name h = refl
view_absent (v ∷ vs) name h = cases (same_bytes v.name name)
    (λ e. none_some v.table (rw e at h))
    (λ e. rw e (view_absent vs name (rw e at h)))

snapshot_found : (ss : List Kept) (name : List ℕ) (t : Table) → find (λ s. same_bytes s.name name) ss ≡ Some (record { name = name; table = t }) → find (is_this name) (map named_snapshot ss) ≡ Some (standing name t)
snapshot_found [] name t h = none_some (record { name = name; table = t }) (sym h)
snapshot_found (s ∷ ss) name t h = cases (same_bytes s.name name)
    (λ e. rw e (ap (λ o. option_map named_snapshot o) (rw e at h)))
    (λ e. rw e (snapshot_found ss name t (rw e at h)))

snapshot_absent : (ss : List Kept) (name : List ℕ) → find (λ s. same_bytes s.name name) ss ≡ None → find (is_this name) (map named_snapshot ss) ≡ None
snapshot_absent [] name h = refl
snapshot_absent (s ∷ ss) name h = cases (same_bytes s.name name)
    (λ e. none_some s (rw e at h))
    (λ e. rw e (snapshot_absent ss name (rw e at h)))

-- a view decides, and where none has the name a snapshot
pub stored_view : (vs : List NamedTable) (ss : List Kept) (name : List ℕ) (t : StoredTable) → views.table_of vs name ≡ Some t → find (is_this name) (stored vs ss) ≡ Some (standing name (table_of t))
stored_view vs ss name t h =
    find_behind (is_this name) (map named_view vs) (map named_snapshot ss) ∙ ap (λ o. option_or o (find (is_this name) (map named_snapshot ss))) (view_found vs name t h)

pub stored_snapshot : (vs : List NamedTable) (ss : List Kept) (name : List ℕ) (t : Table) → views.table_of vs name ≡ None
    → find (λ s. same_bytes s.name name) ss ≡ Some (record { name = name; table = t }) → find (is_this name) (stored vs ss) ≡ Some (standing name t)
stored_snapshot vs ss name t h i =
    find_behind (is_this name) (map named_view vs) (map named_snapshot ss) ∙ ap (λ o. option_or o (find (is_this name) (map named_snapshot ss))) (view_absent vs name h)
    ∙ snapshot_found ss name t i

pub stored_nothing : (vs : List NamedTable) (ss : List Kept) (name : List ℕ) → views.table_of vs name ≡ None → find (λ s. same_bytes s.name name) ss ≡ None → find (is_this name) (stored vs ss) ≡ None
stored_nothing vs ss name h i =
    find_behind (is_this name) (map named_view vs) (map named_snapshot ss) ∙ ap (λ o. option_or o (find (is_this name) (map named_snapshot ss))) (view_absent vs name h)
    ∙ snapshot_absent ss name i

-- what is found among the snapshots where no view has the name
pub stored_otherwise : {R : Type 0} (vs : List NamedTable) (ss : List Kept) (name : List ℕ) (r : Option R) (see : R → StoredTable) → views.table_of vs name ≡ None
    → MatchOption r (find (λ s. same_bytes s.name name) ss ≡ None) (λ t. find (λ s. same_bytes s.name name) ss ≡ Some (record { name = name; table = table_of (see t) }))
    → MatchOption r (find (is_this name) (stored vs ss) ≡ None) (λ t. find (is_this name) (stored vs ss) ≡ Some (standing name (table_of (see t))))
stored_otherwise vs ss name None see h i = stored_nothing vs ss name h i
stored_otherwise vs ss name (Some t) see h i = stored_snapshot vs ss name (table_of (see t)) h i

-- what a path leads to among them, by what its name stands for
seen_standing : (steps : List Step) (name : List ℕ) (t : Table) → seen_at (Some (standing name t)) steps ≡ table_at steps t
seen_standing [] name t = refl
seen_standing (s ∷ steps) name t = refl

module _ (names : List Named) (route : Route) (name : List ℕ) (called : name ≡ route.name) where
  found_by : (o : Option Named) → find (is_this name) names ≡ o → view_at names route ≡ seen_at o route.steps
  found_by o is = ap (λ o. seen_at o route.steps) (ap (λ n. find (is_this n) names) (sym called) ∙ is)

  pub seen_refused : (steps : List Step) (t : Table) (e : NameError) → steps ≡ route.steps → find (is_this name) names ≡ Some (standing name t) → table_at steps t ≡ Err e → view_at names route ≡ Err e
  seen_refused steps t e along is refused =
      found_by (Some (standing name t)) is ∙ seen_standing route.steps name t ∙ ap (λ s. table_at s t) (sym along) ∙ refused

  pub seen_nothing : find (is_this name) names ≡ None → view_at names route ≡ Err NoName
  seen_nothing is = found_by None is

-- a path is looked for among the second names where none of the first has its name, and else among the first alone
pub view_at-before : (xs ys : List Named) (route : Route) (name : List ℕ) → name ≡ route.name → is_some (find (is_this name) xs) ≡ true → view_at (xs ++ ys) route ≡ view_at xs route
view_at-before xs ys route name called h =
    ap (λ o. seen_at o route.steps) (find_behind (is_this route.name) xs ys
    ∙ or_some (find (is_this route.name) xs) (find (is_this route.name) ys) (subst (λ n. is_some (find (is_this n) xs) ≡ true) called h))

pub view_at-behind : (xs ys : List Named) (route : Route) (name : List ℕ) → name ≡ route.name → is_some (find (is_this name) xs) ≡ false → view_at (xs ++ ys) route ≡ view_at ys route
view_at-behind xs ys route name called h =
    ap (λ o. seen_at o route.steps) (find_behind (is_this route.name) xs ys
    ∙ or_none (find (is_this route.name) xs) (find (is_this route.name) ys) (subst (λ n. is_some (find (is_this n) xs) ≡ false) called h))

-- the watches of all views by their names
any_behind : {X : Type 0} (p : X → Bool) (xs ys : List X) → list_any p (xs ++ ys) ≡ (list_any p xs || list_any p ys)
any_behind p [] ys = refl
any_behind p (x ∷ xs) ys = cases (p x)
    (λ e. rw e refl)
    (λ e. rw e (any_behind p xs ys))

any_named : (watches : List Shown) (name : List ℕ) → list_any (λ n. same_bytes n name) (map (λ (s : Shown). s.name) watches) ≡ is_among watches name
any_named [] name = refl
any_named (s ∷ watches) name = ap (λ b. same_bytes s.name name || b) (any_named watches name)

names_tell : (all : List Followed) (name : List ℕ) → list_any (λ n. same_bytes n name) (watch_names all) ≡ is_watch all name
names_tell [] name = refl
names_tell (f ∷ all) name =
    any_behind (λ n. same_bytes n name) (map (λ (s : Shown). s.name) f.watches) (watch_names all)
    ∙ ap (λ b. b || list_any (λ n. same_bytes n name) (watch_names all)) (any_named f.watches name)
    ∙ ap (λ b. is_among f.watches name || b) (names_tell all name)

module _ (named : List ℕ → Named) (called : (n : List ℕ) → (named n).name ≡ n) where
  find_called : (names : List (List ℕ)) (name : List ℕ) → list_any (λ n. same_bytes n name) names ≡ true → find (is_this name) (map named names) ≡ Some (named name)
  find_called [] name h = absurd (let f : false ≡ true = h in cc)
  find_called (n ∷ names) name h = cases (same_bytes n name)
      (λ e. ap (λ b. cond b (Some (named n)) (find (is_this name) (map named names))) (ap (λ m. same_bytes m name) (called n) ∙ e) ∙ ap (λ m. Some (named m)) (same_text n name (sym e)))
      (λ e. ap (λ b. cond b (Some (named n)) (find (is_this name) (map named names))) (ap (λ m. same_bytes m name) (called n) ∙ e) ∙ find_called names name (rw e at h))

  find_uncalled : (names : List (List ℕ)) (name : List ℕ) → list_any (λ n. same_bytes n name) names ≡ false → find (is_this name) (map named names) ≡ None
  find_uncalled [] name h = refl
  find_uncalled (n ∷ names) name h = cases (same_bytes n name)
      (λ e. absurd (let f : true ≡ false = rw e at h in cc))
      (λ e. ap (λ b. cond b (Some (named n)) (find (is_this name) (map named names))) (ap (λ m. same_bytes m name) (called n) ∙ e) ∙ find_uncalled names name (rw e at h))

pub no_steps_left : (steps : List Step) → eqb (length steps) 0 ≡ true → steps ≡ []
no_steps_left [] h = refl
no_steps_left (s ∷ steps) h = absurd (let n : length (s ∷ steps) ≡ 0 = grind (arith, nat_tests) in omega (arith, n))

-- no watch has the name, or steps follow it
pub steps_refused : (n : Option Named) (steps : List Step) → ((m : Named) → n ≡ Some m → m.has_steps ≡ false) → (steps ≡ [] → ⊥) → seen_at n steps ≡ Err NoName
steps_refused None steps h some = refl
steps_refused (Some m) [] h some = absurd (some refl)
steps_refused (Some m) (s ∷ steps) h some = ap (λ b. cond b (table_at (s ∷ steps) m.table) (Err NoName)) (h m refl)

without_steps : (views : List NamedTable) (all : List Followed) (names : List (List ℕ)) (name : List ℕ) (m : Named) → find (is_this name) (map (named_watch views all) names) ≡ Some m → m.has_steps ≡ false
without_steps views all [] name m h = none_some m (sym h)
without_steps views all (n ∷ names) name m h = cases (same_bytes n name)
    (λ e. ap (λ (k : Named). k.has_steps) (sym (some_same (named_watch views all n) m (rw e at h))))
    (λ e. without_steps views all names name m (rw e at h))

pub watch_with_steps : (views : List NamedTable) (all : List Followed) (route : Route) → (route.steps ≡ [] → ⊥) → view_at (watched views all) route ≡ Err NoName
watch_with_steps views all route some =
    steps_refused (find (is_this route.name) (watched views all)) route.steps (λ m h. without_steps views all (watch_names all) route.name m h) some

pub watch_unknown : (views : List NamedTable) (all : List Followed) (route : Route) (name : List ℕ) → name ≡ route.name → is_watch all name ≡ false → view_at (watched views all) route ≡ Err NoName
watch_unknown views all route name called none =
    ap (λ o. seen_at o route.steps)
    (find_uncalled (named_watch views all) (λ n. refl) (watch_names all) route.name (names_tell all route.name ∙ subst (λ n. is_watch all n ≡ false) called none))

pub watch_seen : (views : List NamedTable) (all : List Followed) (route : Route) (name : List ℕ) (t : Table) → name ≡ route.name → route.steps ≡ [] → is_watch all name ≡ true → watch_table views all name ≡ Some t
    → view_at (watched views all) route ≡ Ok t
watch_seen views all route name t called none is_one shows_it =
    let is = subst (λ n. is_watch all n ≡ true) called is_one in
    let shows = subst (λ n. watch_table views all n ≡ Some t) called shows_it in
    ap (λ o. seen_at o route.steps) (find_called (named_watch views all) (λ n. refl) (watch_names all) route.name (names_tell all route.name ∙ is))
    ∙ ap (λ s. seen_at (Some (named_watch views all route.name)) s) none
    ∙ ap (λ o. Ok (unwrap_or o (record { schema = []; rows = [] }))) shows

-- among the first of three lists of names, where one of them has the name
pub view_at-first : (xs ys zs : List Named) (route : Route) → is_some (find (is_this route.name) xs) ≡ true → view_at ((xs ++ ys) ++ zs) route ≡ view_at xs route
view_at-first xs ys zs route h =
    ap (λ o. seen_at o route.steps) (find_behind (is_this route.name) (xs ++ ys) zs
    ∙ ap (λ o. option_or o (find (is_this route.name) zs)) (find_behind (is_this route.name) xs ys ∙ or_some (find (is_this route.name) xs) (find (is_this route.name) ys) h)
    ∙ or_some (find (is_this route.name) xs) (find (is_this route.name) zs) h)
