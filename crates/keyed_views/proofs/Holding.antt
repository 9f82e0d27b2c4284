-- Views that are kept by key go on being so where their rows are the same, or are edited as was said.
use Rattle.std.proofs.Common.{◌≡◌, ℕ, zero, suc, ◌+◌, ◌<◌, Bool, true, false, cond, List, [], ◌∷◌, ◌++◌, length, get_or, set, position, take, Some, refl, ap, sym, subst, ◌∙◌, arith, inl, inr}
use Rattle.std.specs.List.{All, remove}
use Rattle.std.proofs.lemmas.Bool.{cases_lt}
use Rattle.std.proofs.lemmas.List.{get_or_append_left, get_or_push, length_push}
use Rattle.std.proofs.lemmas.List.Folds.{list_any_at}
use Rattle.std.proofs.lemmas.List.Edits.{get_or-remove_above, get_or-remove_below, length-remove}
use Rattle.std.proofs.lemmas.List.Quantifiers.{all_pairs_push}
use Rattle.std.proofs.lemmas.Option.{same_Some}
use Rattle.keyed_views.specs.Keyed.{edits_of}
use Rattle.mapped.specs.Refusals.{count_due}
use Rattle.mk_value.specs.Data.{Datum}
use Rattle.mk_value.specs.Heading.{Attribute}
use Rattle.mk_value.specs.Names.{same_bytes}
use Rattle.row_edits.specs.Edits.{edited_by}
use Rattle.tables.specs.Tables.{StoredTable}
use Rattle.view_store.specs.Views.{NamedTable, table_of}
use Rattle.keyed_views.specs.declared.coming.Coming.{Coming}
use Rattle.keyed_views.specs.declared.kept.Kept.{Kept}
use Rattle.keyed_views.specs.Keeping.{AllBring, AreKept, AreKeptOver, AreWhole, Ascend, Brings, EditsRows, IsKept, IsKeptOver, Keeps, Stays, mapped, mapped_of}
use Rattle.keyed_views.specs.Mapped.{is_mapped, without_mapping}
use Rattle.keyed_views.proofs.Finding.{IsFirstAt, any_map, later}
use Rattle.keyed_views.proofs.Whole.{IsAt, any_of, is_of, named_one, one, same_of, set_all, stands, there, view_one}

pub kept_along : (k : Kept) (s : List Attribute) (rows : List (List Datum)) (t : StoredTable) → t.schema ≡ s → t.rows ≡ rows → IsKeptOver s rows k → IsKeptOver t.schema t.rows k
kept_along k s rows t e f h = subst (λ u. IsKeptOver u t.rows k) (sym e) (subst (λ rs. IsKeptOver s rs k) (sym f) h)

-- over the rows of one view
pub kept_over : (views : List NamedTable) (all : List Kept) (view : List ℕ) (t : StoredTable) → AreKept views all → table_of views view ≡ Some t → AreKeptOver view t.schema t.rows all
kept_over views all view t h is k d p same =
    let kept : IsKept views (get_or all k d) = h k d p in
    let name : (get_or all k d).view ≡ view = same_of (get_or all k d).view view same in
    let there = kept.there in
    let moved = ap (table_of views) name in
    let table : kept.table ≡ t = cc in
    subst (λ (u : StoredTable). IsKeptOver u.schema u.rows (get_or all k d)) table kept.over

-- over views of the same rows
pub kept_where_same : (old new : List NamedTable) (all : List Kept)
    → ((name : List ℕ) (t : StoredTable) → table_of old name ≡ Some t → (u : StoredTable) × (table_of new name ≡ Some u) × (u.schema ≡ t.schema) × (u.rows ≡ t.rows)) → AreKept old all → AreKept new all
kept_where_same old new all same h k d p =
    let kept : IsKept old (get_or all k d) = h k d p in
    let found = same (get_or all k d).view kept.table kept.there in
    record { table = found.0; there = found.1; over = kept_along (get_or all k d) kept.table.schema kept.table.rows found.0 found.2 found.3 kept.over }

-- no mapping stands on a view that is not mapped
pub not_mapped : (all : List Kept) (view : List ℕ) → is_mapped (mapped all) view ≡ false → All (λ (k : Kept). same_bytes k.view view ≡ false) all
not_mapped all view none k d p = no_other (same_bytes (get_or all k d).view view) refl
  where
    no_other : (b : Bool) → same_bytes (get_or all k d).view view ≡ b → b ≡ false
    no_other true e = let some = list_any_at (is_of view) all k d p e in let same = any_map (any_of view) mapped_of all in cc
    no_other false e = refl

pub kept_where_others : (old new : List NamedTable) (all : List Kept) (view : List ℕ) → is_mapped (mapped all) view ≡ false
    → ((name : List ℕ) → same_bytes name view ≡ false → table_of new name ≡ table_of old name) → AreKept old all → AreKept new all
kept_where_others old new all view none others h k d p =
    let kept : IsKept old (get_or all k d) = h k d p in
    record { table = kept.table; there = others (get_or all k d).view (not_mapped all view none k d p) ∙ kept.there; over = kept.over }

-- with one more
pub kept_push : (views : List NamedTable) (all : List Kept) (k : Kept) → AreKept views all → IsKept views k → AreKept views (all ++ k ∷ [])
kept_push views all k h one i d p =
    let long = length_push all k in
    elim (cases_lt i (length all)) [
      | inl less ↦ subst (IsKept views) (sym (get_or_append_left all (k ∷ []) d i less)) (h i d less)
      | inr more ↦ let at : i ≡ length all = omega arith in subst (λ j. IsKept views (get_or (all ++ k ∷ []) j d)) (sym at) (subst (IsKept views) (sym (get_or_push all k d (length all) refl)) one)
    ]

-- with one more of another view
pub whole_push : (xs all : List Kept) (k : Kept) → AreWhole xs → length xs < 64 → xs ≡ all → is_mapped (mapped all) k.view ≡ false → AreWhole (xs ++ k ∷ [])
whole_push xs all k h few same none =
    let long = length_push xs k in
    record {
      distinct =
          all_pairs_push (λ (a b : Kept). same_bytes a.view b.view ≡ false) xs k h.distinct
          (not_mapped xs k.view (subst (λ ks. is_mapped (mapped ks) k.view ≡ false) (sym same) none));
      few = omega arith;
    }

-- without the one of a view
pub all_left : (P : Kept → Type 0) (all : List Kept) (at : ℕ) → at < length all → All P all → All P (remove all at)
all_left P all at p h k d q =
    let long = length-remove all at p in
    elim (cases_lt k at) [
      | inl less ↦ subst P (sym (get_or-remove_below all at d k less p)) (h k d (omega arith))
      | inr more ↦ subst P (sym (get_or-remove_above all at d k more p)) (h (k + 1) d (omega arith))
    ]

pub taken : (all : List Kept) (view : List ℕ) (at : ℕ) → IsFirstAt (is_of view) all at → without_mapping (mapped all) view ≡ mapped (remove all at)
taken [] view at h = absurd (let within = h.within in omega arith)
taken (k ∷ all) view zero h = ap (λ b. cond b (mapped all) (mapped_of k ∷ without_mapping (mapped all) view)) (h.here k)
taken (k ∷ all) view (suc at) h =
    ap (λ b. cond b (mapped all) (mapped_of k ∷ without_mapping (mapped all) view)) (h.before k 0 (omega arith))
    ∙ ap (λ ms. mapped_of k ∷ ms) (taken all view at (later (is_of view) k all at h))

-- one of a list of mapped views becomes another, of the same view
module _ (all xs ys : List Kept) (view : List ℕ) (at : ℕ) (k : Kept) (whole : AreWhole xs) (same : xs ≡ all) (lent : ys ≡ xs) (found : position (is_of view) ys ≡ Some at) (read : k ≡ get_or xs at k) (new : Kept) (same_view : new.view ≡ k.view) (same_keys : new.keys ≡ k.keys) where
  is_at : IsAt all view at
  is_at = stands all xs ys view at k whole same lent found read

  within : at < length all
  within = there all xs ys view at k whole same lent found read

  name : new.view ≡ view
  name = same_view ∙ view_one all xs ys view at k whole same lent found read

  old_one : (P : Kept → Type 0) → All P all → P k
  old_one P h = subst P (sym (one all xs ys view at k whole same lent found read k)) (h at k within)

  -- where nothing but room came
  pub kept_stays : Stays k.mapping new.mapping → (views : List NamedTable) → AreKept views all → AreKept views (set xs at new)
  kept_stays stays views h =
      let kept : IsKept views k = old_one (IsKept views) h in
      subst (λ ks. AreKept views (set ks at new)) (sym same)
      (set_all (IsKept views) all at new within
      (record {
        table = kept.table;
        there = ap (table_of views) same_view ∙ kept.there;
        over = record {
          plain = ap (λ n. count_due n kept.table.schema) same_keys ∙ kept.over.plain;
          kept = subst (λ n. Keeps new.mapping n kept.table.rows) (sym same_keys) (stays.keeps k.keys kept.table.rows kept.over.kept);
        };
      })
      (λ j d p apart. h j d p))

  -- where what came is followed
  module _ (c : Coming) (keeps : (keys : ℕ) (rows : List (List Datum)) (row : List Datum) → Keeps k.mapping keys rows → take keys row ≡ c.key
      → Ascend k.mapping keys (edited_by row (edits_of c.edit) rows) → Keeps new.mapping keys (edited_by row (edits_of c.edit) rows)) where
    pub kept_follows : (old now : List NamedTable) (rows : List (List Datum)) (row : List Datum) → AreKept old all → AllBring view rows row c all → EditsRows view row (edits_of c.edit) rows old now
        → AreKept now (set xs at new)
    kept_follows old now rows row h brings edits =
        let kept : IsKept old k = old_one (IsKept old) h in
        let bring : Brings rows row c k = named_one all xs ys view at k whole same lent found read (Brings rows row c) brings in
        let table : kept.table ≡ edits.before = same_Some kept.table edits.before (sym kept.there ∙ ap (table_of old) (view_one all xs ys view at k whole same lent found read) ∙ edits.was) in
        let over : IsKeptOver edits.before.schema edits.before.rows k = subst (λ (u : StoredTable). IsKeptOver u.schema u.rows k) table kept.over in
        let here : Keeps k.mapping k.keys rows = subst (Keeps k.mapping k.keys) edits.rows_before over.kept in
        subst (λ ks. AreKept now (set ks at new)) (sym same)
        (set_all (IsKept now) all at new within
        (record {
          table = edits.after;
          there = ap (table_of now) name ∙ edits.is;
          over = record {
            plain = ap (λ n. count_due n edits.after.schema) same_keys ∙ ap (count_due k.keys) edits.schema ∙ over.plain;
            kept = subst (λ n. Keeps new.mapping n edits.after.rows) (sym same_keys) (subst (Keeps new.mapping k.keys) (sym edits.rows_after) (keeps k.keys rows row here bring.key bring.ascend));
          };
        })
        (λ j d p apart.
        let other : IsKept old (get_or all j d) = h j d p in
        record { table = other.table; there = edits.others (get_or all j d).view (is_at.others j d p apart) ∙ other.there; over = other.over }))
