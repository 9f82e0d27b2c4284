-- An edit inside a view of a row changes no key: the values of a key are no views.
use Rattle.std.proofs.Common.{◌≡◌, ℕ, ◌<◌, ◌≤◌, Bool, true, false, List, [], ◌∷◌, length, get_or, set, take, Option, Some, None, refl, ap, sym, subst, ◌∙◌, arith, inl, inr}
use Rattle.std.proofs.lemmas.Bool.{cases_lt, false≢true}
use Rattle.std.proofs.lemmas.List.{get_or-map, length-map, take-set-le}
use Rattle.std.proofs.Math.Seq.{map-set_same}
use Rattle.mapped.proofs.Keyed.{count_from, plain_at}
use Rattle.mapped.specs.Keys.{AscendByKey, key_cmp, keys_of}
use Rattle.mapped.specs.Refusals.{count_due}
use Rattle.mk_value.specs.Data.{Datum}
use Rattle.mk_value.specs.Heading.{Attribute, Domain}
use Rattle.mk_value.specs.Names.{same_bytes}
use Rattle.mk_value.specs.Paths.{Route}
use Rattle.mk_value.specs.Tables.{IsPlainDomain, domain_at}
use Rattle.mk_value.specs.declared.path.Step.{Step}
use Rattle.relations.proofs.Faults.{cases}
use Rattle.tables.specs.Tables.{StoredTable, place_of_property}
use Rattle.view_store.proofs.Editing.{free_schema}
use Rattle.view_store.proofs.Roots.{due-found, same_name}
use Rattle.view_store.proofs.Walking.{Through, goes_through, place_of_property-found}
use Rattle.view_store.specs.Edits.{Edit, edited}
use Rattle.view_store.specs.Refusals.{due, due_in}
use Rattle.view_store.specs.Views.{NamedTable, edited_views, table_of}
use Rattle.keyed_views.specs.declared.kept.Kept.{Kept}
use Rattle.keyed_views.specs.declared.mapping.Mapping.{Mapping}
use Rattle.keyed_views.specs.declared.mapping.Mapping.TheVariants.{Hashed, InOrder}
use Rattle.keyed_views.specs.Keeping.{AreKept, IsKept, Keeps}

-- rows whose keys are the same
module _ (n : ℕ) (rows new : List (List Datum)) (same : keys_of n new ≡ keys_of n rows) where
  as_many : length new ≡ length rows
  as_many = sym (length-map new (take n)) ∙ ap length same ∙ length-map rows (take n)

  key_at : (i : ℕ) (d : List Datum) → i < length new → take n (get_or new i d) ≡ take n (get_or rows i d)
  key_at i d p =
      let long = as_many in
      sym (get_or-map (take n) new i d [] p) ∙ ap (λ ks. get_or ks i []) same ∙ get_or-map (take n) rows i d [] (omega arith)

  ascend_again : AscendByKey n rows → AscendByKey n new
  ascend_again h i j d less p =
      let long = as_many in
      ap (λ k. key_cmp k (take n (get_or new j d))) (key_at i d (omega arith)) ∙ ap (key_cmp (take n (get_or rows i d))) (key_at j d p) ∙ h i j d less (omega arith)

  keeps_again : (m : Mapping) → Keeps m n rows → Keeps m n new
  keeps_again (Hashed index) h = h ∙ sym same
  keeps_again (InOrder order) h = (h.0, ascend_again h.1)

no_plain : (d e : Domain) → IsPlainDomain d → d ≡ e → IsPlainDomain e
no_plain d e h same = subst IsPlainDomain same h

-- the property that a step goes through stands behind the values of a key
behind_key : (n : ℕ) (schema : List Attribute) (s : Step) (steps : List Step) → count_due n schema ≡ None → Through schema s steps → n ≤ place_of_property schema s.prop
behind_key n schema s steps plain t =
    let at = place_of_property-found schema s.prop t.place t.found in
    elim (cases_lt t.place n) [
      | inl less ↦ absurd (no_plain (domain_at schema t.place) (Domain.relation t.inner) (plain_at n schema (count_from n schema plain) t.place less) t.view)
      | inr more ↦ omega arith
    ]

some_none : {X P : Type 0} (x : X) → Some x ≡ None → P
some_none x e = absurd (let f : ◌≡◌ {A = Option _} (Some x) None = e in cc)

-- the table of the view is edited, and that of each other name is as before
found_edited : (views : List NamedTable) (route : Route) (edit : Edit) (t : StoredTable) → table_of views route.name ≡ Some t
    → table_of (edited_views views route edit) route.name ≡ Some (edited route.steps edit t)
found_edited [] route edit t h = some_none t (sym h)
found_edited (v ∷ views) route edit t h = cases (same_bytes v.name route.name)
    (λ e. let same : v.table ≡ t = (let f : ◌≡◌ {A = Option StoredTable} (Some v.table) (Some t) = rw e at h in cc) in
    rw e (rw e (ap (λ u. Some (edited route.steps edit u)) same)))
    (λ e. rw e (rw e (found_edited views route edit t (rw e at h))))

other_edited : (views : List NamedTable) (route : Route) (edit : Edit) (name : List ℕ) → same_bytes name route.name ≡ false
    → table_of (edited_views views route edit) name ≡ table_of views name
other_edited [] route edit name h = refl
other_edited (v ∷ views) route edit name h = cases (same_bytes v.name route.name)
    (λ e. rw e (cases (same_bytes v.name name)
    (λ f. absurd (false≢true (sym h ∙ subst (λ n. same_bytes n route.name ≡ true) (same_name v.name name f) e)))
    (λ f. rw f refl)))
    (λ e. rw e (cases (same_bytes v.name name)
    (λ f. rw f refl)
    (λ f. rw f (other_edited views route edit name h))))

module _ (views : List NamedTable) (name : List ℕ) (s : Step) (steps : List Step) (edit : Edit) (none : due views (record { name = name; steps = s ∷ steps }) edit ≡ None) where
  abbrev route : Route
  route = record { name = name; steps = s ∷ steps }

  inside : (k : Kept) → IsKept views k → k.view ≡ name → IsKept (edited_views views route edit) k
  inside k kept same =
      let t : StoredTable = kept.table in
      let there : table_of views name ≡ Some t = ap (table_of views) (sym same) ∙ kept.there in
      let free : due_in t (s ∷ steps) edit ≡ None = sym (due-found views route edit t there) ∙ none in
      let through = goes_through t.schema s steps (free_schema t (s ∷ steps) edit free) in
      let past = behind_key k.keys t.schema s steps kept.over.plain through in
      let col = place_of_property t.schema s.prop in
      record {
        table = edited (s ∷ steps) edit t;
        there = ap (table_of (edited_views views route edit)) same ∙ found_edited views route edit t there;
        over = record {
          plain = kept.over.plain;
          kept = keeps_again k.keys t.rows (edited (s ∷ steps) edit t).rows
              (map-set_same (take k.keys) t.rows s.row (set (get_or t.rows s.row []) col _) [] (take-set-le k.keys (get_or t.rows s.row []) col _ past)) k.mapping kept.over.kept;
        };
      }

  at_name : (k : Kept) → IsKept views k → (b : Bool) → same_bytes k.view name ≡ b → IsKept (edited_views views route edit) k
  at_name k kept true e = inside k kept (same_name k.view name e)
  at_name k kept false e = record { table = kept.table; there = other_edited views route edit k.view e ∙ kept.there; over = kept.over }

pub kept_inside : (views : List NamedTable) (all : List Kept) (name : List ℕ) (s : Step) (steps : List Step) (edit : Edit) → due views (record { name = name; steps = s ∷ steps }) edit ≡ None
    → AreKept views all → AreKept (edited_views views (record { name = name; steps = s ∷ steps }) edit) all
kept_inside views all name s steps edit none h k d p = at_name views name s steps edit none (get_or all k d) (h k d p) (same_bytes (get_or all k d).view name) refl
