-- A view under another structure.
use Rattle.std.proofs.Common.{◌≡◌, ℕ, true, false, not, cond, ◌&&◌, ◌||◌, List, [], ◌∷◌, length, Some, None, refl, ap, ◌∙◌}
use Rattle.std.specs.Prelude.{nat_lt}
use Rattle.std.specs.Option.{is_some}
use Rattle.cmd_text.specs.declared.refusal.Refusal.TheVariants.{InUse, Limit}
use Rattle.mk_value.specs.Limits.{max_views}
use Rattle.mk_value.specs.Heading.{Attribute, IsHeading}
use Rattle.mk_value.specs.Names.{IsName, same_bytes}
use Rattle.restructure.specs.Restructuring.{restructured}
use Rattle.struct_text.specs.Spelling.{spelling}
use Rattle.struct_text.proofs.Unique.{one_structure}
use Rattle.tables.specs.Tables.{StoredTable}
use Rattle.view_store.specs.Views.{NamedTable, table_of, with_view}
use Rattle.view_store.proofs.Roots.{same_name}
use Rattle.session.specs.Naming.{declare_due, is_view_used, would_change}
use Rattle.session.specs.Refusals.{first_of, unless}
use Rattle.session.specs.Structures.{structured, with_structure}
use Rattle.session.specs.World.{World}

-- other structures have other texts
other_text : (name : List ℕ) (a b : List Attribute) → IsName name → IsHeading a → IsHeading b → (a ≡ b → ⊥) → same_bytes (spelling name a) (spelling name b) ≡ false
other_text name a b named first second differ =
    elim (same_bytes (spelling name a) (spelling name b)) as (λ t. same_bytes (spelling name a) (spelling name b) ≡ t → t ≡ false) [
      | true ↦ λ e. absurd (differ (one_structure (spelling name a) name name a b
          (record { named = named; whole = first; is = refl })
          (record { named = named; whole = second; is = same_name (spelling name a) (spelling name b) e })).1)
      | false ↦ λ e. refl
    ] refl

-- the view of the name has another structure
pub structured-other : (root : List NamedTable) (name : List ℕ) (schema : List Attribute) (t : StoredTable) → table_of root name ≡ Some t → IsName name → IsHeading t.schema → IsHeading schema → (t.schema ≡ schema → ⊥)
    → structured root name schema ≡ with_view root name (restructured t schema)
structured-other root name schema t found named first second differ =
    ap (λ o. with_structure root o name schema) found
    ∙ ap (λ b. cond b root (with_view root name (restructured t schema))) (other_text name t.schema schema named first second differ)

-- where a cursor stands on the view, that structure is in use
pub declare-in_use : (w : World) (name : List ℕ) (schema : List Attribute) (t : StoredTable) → table_of w.store.views name ≡ Some t → IsName name → IsHeading t.schema → IsHeading schema → (t.schema ≡ schema → ⊥)
    → is_view_used w name ≡ true → declare_due w name schema ≡ Some InUse
declare-in_use w name schema t found named first second differ stands =
    ap (λ o. first_of (unless (is_some o || nat_lt (length w.store.views) max_views) Limit ∷ unless (not (would_change o name schema && is_view_used w name)) InUse ∷ [])) found
    ∙ ap (λ b. first_of (None ∷ unless (not (not b && is_view_used w name)) InUse ∷ [])) (other_text name t.schema schema named first second differ)
    ∙ ap (λ b. first_of (None ∷ unless (not b) InUse ∷ [])) stands
