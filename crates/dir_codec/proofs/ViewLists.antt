-- Views read one after another.
use Rattle.std.proofs.Common.{◌≡◌, ◌≢◌, ℕ, zero, suc, Bool, true, false, ◌||◌, ◌+◌, ◌-◌, ◌<◌, ◌≤◌, ◌⊎◌, inl, inr, ⊎_elim, List, [], ◌∷◌, ◌++◌, length, length-append, map, reverse, drop, refl, sym, ◌∙◌, ap, subst, arith, get_or, All, AllPairs, Contains}
use Rattle.std.specs.List.{flat_map, list_any}
use Rattle.std.specs.Cmp.Lexicographic.{same_text, nat_list_eq_equiv}
use Rattle.std.proofs.lemmas.List.Elements.{All-push, Contains-append_left, Contains-push, Contains-push_cases}
use Rattle.std.proofs.lemmas.List.Folds.{Any-from_list_any}
use Rattle.std.proofs.lemmas.List.Quantifiers.{all_pairs_push}
use Rattle.std.proofs.lemmas.List.{append-nil, append_assoc, get_or-map, length-map, map-append, reverse-append}
use Rattle.byteorder.specs.Endian.{little_bytes}
use Rattle.mk_value.specs.Limits.{max_views}
use Rattle.mk_value.specs.Names.{same_bytes}
use Rattle.mk_value.proofs.Walks.{same_default}
use Rattle.dir_codec.specs.declared.dir.DirView.{DirView}
use Rattle.dir_codec.specs.declared.error.DirError.{DirError}
use Rattle.dir_codec.specs.declared.error.DirError.TheVariants.{At}
use Rattle.dir_codec.specs.Dir.{IsViewEntry, spelled_view, ViewEntry}
use Rattle.dir_codec.specs.Fields.{Due, number_of_field, text_length, view_count, views_due}
use Rattle.dir_codec.specs.Parts.{AreViews, names_before, spelled_views}
use Rattle.dir_codec.specs.Reads.{bytes_at, Flaws, Leads}
use Rattle.dir_codec.specs.Values.{view_of}
use Rattle.dir_codec.proofs.Reading.{flaws_here, flaws_leads, leads_field, leads_joins}

abbrev IsCountAt : List ℕ → ℕ → Type 0
IsCountAt bytes n = (0 + 4 ≤ length bytes) × ((n ≡ number_of_field (bytes_at 0 4 bytes)) × (bytes_at 0 4 bytes ≡ little_bytes 4 n) × (0 ≤ n) × (n ≤ max_views))

abbrev spelled_each : List DirView → List ℕ
spelled_each views = flat_map spelled_view (map view_of views)

spelled_each-push : (views : List DirView) (view : DirView) → spelled_each (views ++ view ∷ []) ≡ spelled_each views ++ spelled_view (view_of view)
spelled_each-push [] view = append-nil (spelled_view (view_of view))
spelled_each-push (v ∷ views) view =
    ap (λ (l : List ℕ). spelled_view (view_of v) ++ l) (spelled_each-push views view) ∙ sym (append_assoc (spelled_view (view_of v)) (spelled_each views) (spelled_view (view_of view)))

names_before-push : (views : List DirView) (view : DirView) → names_before (views ++ view ∷ []) ≡ view.name ∷ names_before views
names_before-push views view =
    let name : DirView → List ℕ = λ v. v.name in
    ap (λ (l : List (List ℕ)). reverse l) (map-append name views (view ∷ [])) ∙ reverse-append (map name views) (view.name ∷ [])

pub count_flaw : (number end : ℕ) (bytes : List ℕ) (e : DirError)
    → (e ≡ At 0) × ((length (drop 0 bytes) < 4) ⊎ ((number_of_field (bytes_at 0 4 bytes) < 0) ⊎ (max_views < number_of_field (bytes_at 0 4 bytes)))) → Flaws number end (view_count ∷ []) bytes 0 e
count_flaw number end bytes e wrong = subst (λ (d : DirError). Flaws number end (view_count ∷ []) bytes 0 d) (sym wrong.0)
    (flaws_here number end bytes view_count 0 (omega arith)
    (⊎_elim (λ short. inl short) (λ no. inr (λ next is. ⊎_elim (λ low. omega (arith, low)) (λ high. let few = is.0 in omega (arith, few, high)) no)) wrong.1))

-- what holds of so many views
pub record AreRead (end : ℕ) (bytes : List ℕ) (count : ℕ) (views : List DirView) (done place : ℕ) : Type 0 where
  pub distinct : AllPairs (λ v w. v.name ≢ w.name) (map view_of views)
  pub each : All (IsViewEntry end) (map view_of views)
  pub long : length views ≡ done
  pub within : place ≤ length bytes
  pub leads : (number : ℕ) → Leads number end (view_count ∷ []) bytes 0 (views_due (count - done) (names_before views)) place (little_bytes 4 count ++ spelled_each views)

reverse_cons : {X : Type 0} (x : X) (xs : List X) → reverse (x ∷ xs) ≡ reverse xs ++ x ∷ []
reverse_cons x xs = reverse-append (x ∷ []) xs

or_true : (a b : Bool) → (a ≡ true) ⊎ (b ≡ true) → (a || b) ≡ true
or_true true b h = refl
or_true false b h = ⊎_elim (λ no. cc) (λ yes. yes) h

-- a view's name is among those before
pub name_at : (views : List DirView) (k : ℕ) (d : DirView) → k < length views → Contains (names_before views) (get_or views k d).name
name_at [] k d below = absurd (omega arith)
name_at (v ∷ views) zero d below = subst (λ (l : List (List ℕ)). Contains l v.name) (sym (reverse_cons v.name (map (λ w. w.name) views))) (Contains-push (names_before views) v.name)
name_at (v ∷ views) (suc k) d below = subst (λ (l : List (List ℕ)). Contains l (get_or views k d).name) (sym (reverse_cons v.name (map (λ w. w.name) views)))
    (Contains-append_left (names_before views) (v.name ∷ []) (get_or views k d).name (name_at views k d (omega arith)))

pub Contains-any : (views : List DirView) (n : List ℕ) → list_any (λ v. same_bytes v.name n) views ≡ true → Contains (names_before views) n
Contains-any views n any =
    let hit = Any-from_list_any (λ (v : DirView). same_bytes v.name n) views any in
    let k = hit.0 in
    let v = hit.1 in
    subst (λ (m : List ℕ). Contains (names_before views) m) (ap (λ (w : DirView). w.name) hit.3 ∙ same_text v.name n (sym hit.4)) (name_at views k v hit.2)

pub any-Contains : (views : List DirView) (n : List ℕ) → Contains (names_before views) n → list_any (λ v. same_bytes v.name n) views ≡ true
any-Contains [] n has = absurd (let below = has.1 in omega (arith, below))
any-Contains (v ∷ views) n has = or_true (same_bytes v.name n) (list_any (λ w. same_bytes w.name n) views)
    (⊎_elim (λ before. inr (any-Contains views n before)) (λ here. inl (subst (λ (m : List ℕ). same_bytes v.name m ≡ true) here (nat_list_eq_equiv.refl v.name)))
    (Contains-push_cases (names_before views) v.name n (subst (λ (l : List (List ℕ)). Contains l n) (reverse_cons v.name (map (λ w. w.name) views)) has)))

-- ---- reading them

due_next : (count done : ℕ) (names : List (List ℕ)) → done < count → views_due (count - done) names ≡ text_length (count - (done + 1)) names ∷ []
due_next count done names more = let e : count - done ≡ suc (count - (done + 1)) = omega arith in ap (λ (n : ℕ). views_due n names) e

pub begins : (end : ℕ) (bytes : List ℕ) (count : ℕ) → IsCountAt bytes count → AreRead end bytes count [] 0 4
begins end bytes count is =
    let same = is.1.0 in
    let few = is.1.3 in
    let e : count ≡ count - 0 = omega arith in
    record {
      distinct = λ i j d below within. absurd (omega (arith, below, within));
      each = λ k d within. absurd (omega (arith, within));
      long = refl;
      within = is.0;
      leads = λ number. subst (λ (l : List ℕ). Leads number end (view_count ∷ []) bytes 0 (views_due (count - 0) []) 4 l) (is.1.1 ∙ sym (append-nil (little_bytes 4 count)))
          (leads_field number end bytes view_count (views_due (count - 0) []) 0 is.0 (omega (arith, same, few), ap (λ (k : ℕ). views_due k []) (sym e ∙ same)));
    }

-- a flaw in the next view is one of the directory
pub flaw_after : (number end : ℕ) (bytes : List ℕ) (count : ℕ) (views : List DirView) (done place : ℕ) (e : DirError) → done < count → AreRead end bytes count views done place
    → Flaws number end (text_length (count - (done + 1)) (names_before views) ∷ []) bytes place e → Flaws number end (view_count ∷ []) bytes 0 e
flaw_after number end bytes count views done place e more read flaws =
    flaws_leads number end bytes (view_count ∷ []) (views_due (count - done) (names_before views)) 0 place (little_bytes 4 count ++ spelled_each views) e (read.leads number)
    (subst (λ (l : List Due). Flaws number end l bytes place e) (sym (due_next count done (names_before views) more)) flaws)

map_push : (views : List DirView) (view : DirView) → map view_of (views ++ view ∷ []) ≡ map view_of views ++ view_of view ∷ []
map_push views view = map-append view_of views (view ∷ [])

distinct_push : (views : List DirView) (view : DirView) → AllPairs (λ v w. v.name ≢ w.name) (map view_of views) → (Contains (names_before views) view.name → ⊥)
    → AllPairs (λ v w. v.name ≢ w.name) (map view_of (views ++ view ∷ []))
distinct_push views view before new = subst (λ (l : List ViewEntry). AllPairs (λ v w. v.name ≢ w.name) l) (sym (map_push views view))
    (all_pairs_push (λ (v w : ViewEntry). v.name ≢ w.name) (map view_of views) (view_of view) before (λ k d below same.
    let long = length-map views view_of in
    let within : k < length views = omega (arith, long, below) in
    let at : get_or (map view_of views) k d ≡ view_of (get_or views k view) = same_default (map view_of views) k d (view_of view) below ∙ get_or-map view_of views k view (view_of view) within in
    new (subst (λ (n : List ℕ). Contains (names_before views) n) (sym (ap (λ (v : ViewEntry). v.name) at) ∙ same) (name_at views k view within))))

-- and of one more
pub grows : (end : ℕ) (bytes : List ℕ) (count : ℕ) (views : List DirView) (view : DirView) (done place to : ℕ) → done < count → AreRead end bytes count views done place → IsViewEntry end (view_of view)
    → (Contains (names_before views) view.name → ⊥)
    → ((number : ℕ) → Leads number end (text_length (count - (done + 1)) (names_before views) ∷ []) bytes place (views_due (count - (done + 1)) (view.name ∷ names_before views)) to (spelled_view (view_of view)))
    → AreRead end bytes count (views ++ view ∷ []) (done + 1) to
grows end bytes count views view done place to more read is new then =
    let rest = count - (done + 1) in
    let names = names_before views in
    record {
      distinct = distinct_push views view read.distinct new;
      each = subst (λ (l : List ViewEntry). All (IsViewEntry end) l) (sym (map_push views view)) (All-push (IsViewEntry end) (map view_of views) (view_of view) read.each is);
      long = length-append views (view ∷ []) ∙ ap (λ (n : ℕ). n + 1) read.long;
      within = (then 0).within;
      leads = λ number. subst (λ (l : List (List ℕ)). Leads number end (view_count ∷ []) bytes 0 (views_due rest l) to (little_bytes 4 count ++ spelled_each (views ++ view ∷ []))) (sym (names_before-push views view))
          (subst (λ (s : List ℕ). Leads number end (view_count ∷ []) bytes 0 (views_due rest (view.name ∷ names)) to s)
          (append_assoc (little_bytes 4 count) (spelled_each views) (spelled_view (view_of view)) ∙ ap (λ (l : List ℕ). little_bytes 4 count ++ l) (sym (spelled_each-push views view)))
          (leads_joins number end bytes (view_count ∷ []) (views_due (count - done) names) (views_due rest (view.name ∷ names)) 0 place to (little_bytes 4 count ++ spelled_each views) (spelled_view (view_of view)) (read.leads number)
          (subst (λ (l : List Due). Leads number end l bytes place (views_due rest (view.name ∷ names)) to (spelled_view (view_of view))) (sym (due_next count done names more)) (then number))));
    }

pub ends : (number end : ℕ) (bytes : List ℕ) (count : ℕ) (views : List DirView) (done place : ℕ) → done ≡ count → count ≤ max_views → AreRead end bytes count views done place
    → AreViews end views × Leads number end (view_count ∷ []) bytes 0 [] place (spelled_views views)
ends number end bytes count views done place all few read =
    let long : length views ≡ count = read.long ∙ all in (
      record { few = omega (arith, long, few); distinct = read.distinct; each = read.each },
      subst (λ (s : List ℕ). Leads number end (view_count ∷ []) bytes 0 [] place s) (ap (λ (k : ℕ). little_bytes 4 k ++ spelled_each views) (sym long))
          (subst (λ (n : ℕ). Leads number end (view_count ∷ []) bytes 0 (views_due n (names_before views)) place (little_bytes 4 count ++ spelled_each views)) (let z : count - done ≡ 0 = omega (arith, all) in z) (read.leads number)),
    )
