-- What each call leaves of the views rests on the views before.
use Rattle.std.proofs.Common.{◌≡◌, ℕ, zero, suc, List, [], ◌∷◌, ◌++◌, get_or, set, Option, Some, None, ⊎_elim, refl, ap, subst}
use Rattle.std.specs.Prelude.{remove}
use Rattle.tables.specs.Tables.{StoredTable}
use Rattle.tables.specs.Rests.{homed_columns, RestsOn}
use Rattle.tables.proofs.Apart.{Rest-self, Rest-append}
use Rattle.tables.proofs.Resting.{Rest-none}
use Rattle.view_store.specs.Views.{NamedTable}
use Rattle.view_store.specs.Rests.{homed_views, ViewsRestOn, MayReplace}
use Rattle.view_store.proofs.Named.{no_view, retabled}

pub views_rest-self : (views : List NamedTable) → ViewsRestOn views views
views_rest-self views = Rest-self (homed_views views)

-- one table given another that rests on it
pub views_rest-set : (views : List NamedTable) (at : ℕ) (t : StoredTable) → RestsOn t (get_or views at no_view).table → ViewsRestOn (set views at (retabled (get_or views at no_view) t)) views
views_rest-set [] at t h = Rest-self []
views_rest-set (v ∷ rest) zero t h = Rest-append (homed_columns t) (homed_views rest) (homed_columns v.table) (homed_views rest) h (Rest-self (homed_views rest))
views_rest-set (v ∷ rest) (suc at) t h =
    Rest-append (homed_columns v.table) (homed_views (set rest at (retabled (get_or rest at no_view) t))) (homed_columns v.table) (homed_views rest) (Rest-self (homed_columns v.table)) (views_rest-set rest at t h)

-- a view removed
pub views_rest-remove : (views : List NamedTable) (at : ℕ) → ViewsRestOn (remove views at) views
views_rest-remove [] zero = Rest-self []
views_rest-remove [] (suc at) = Rest-self []
views_rest-remove (v ∷ rest) zero = Rest-append [] (homed_views rest) (homed_columns v.table) (homed_views rest) (Rest-none [] (homed_columns v.table) refl) (Rest-self (homed_views rest))
views_rest-remove (v ∷ rest) (suc at) =
    Rest-append (homed_columns v.table) (homed_views (remove rest at)) (homed_columns v.table) (homed_views rest) (Rest-self (homed_columns v.table)) (views_rest-remove rest at)

-- a view without homes added last
pub views_rest-push : (views : List NamedTable) (name : List ℕ) (t : StoredTable) → homed_columns t ≡ [] → ViewsRestOn (views ++ record { name = name; table = t } ∷ []) views
views_rest-push [] name t none = Rest-none (homed_columns t ++ []) [] (ap (λ cs. cs ++ []) none)
views_rest-push (v ∷ rest) name t none =
    Rest-append (homed_columns v.table) (homed_views (rest ++ record { name = name; table = t } ∷ [])) (homed_columns v.table) (homed_views rest) (Rest-self (homed_columns v.table)) (views_rest-push rest name t none)

-- a table that may be put in the place of another
pub may_replace : (t old : StoredTable) (o : Option StoredTable) → o ≡ Some old → MayReplace t o → RestsOn t old
may_replace t old o e h =
    ⊎_elim (λ (rests : RestsOn t old). rests) (λ (none : homed_columns t ≡ []). Rest-none (homed_columns t) (homed_columns old) none) (subst (MayReplace t) e h)

pub may_add : (t : StoredTable) (o : Option StoredTable) → o ≡ None → MayReplace t o → homed_columns t ≡ []
may_add t o e h = subst (MayReplace t) e h
