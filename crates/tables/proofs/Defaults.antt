-- Columns of defaults, and columns without values.
use Rattle.std.proofs.Common.{◌≡◌, ℕ, List, [], ◌∷◌, ◌++◌, replicate, refl, ap, sym, subst, ◌∙◌}
use Rattle.mk_value.specs.Heading.{Domain}
use Rattle.mk_value.specs.Data.{Datum}
use Rattle.tables.specs.Columns.{StoredColumn, IsColumnWith, column_values, home_of}
use Rattle.tables.specs.Homes.{empty_home}
use Rattle.tables.specs.Rows.{inserted, home_inserted}
use Rattle.tables.proofs.Homeless.{empty_home-inserted}

append_none : {X : Type 0} (xs : List X) → xs ++ [] ≡ xs
append_none [] = refl
append_none (x ∷ xs) = ap (λ ys. x ∷ ys) (append_none xs)

-- so many times one value put into a column without values
pub repeated_made : (e : Domain) (n : ℕ) (d value : Datum) (empty c : StoredColumn) → IsColumnWith e [] (empty_home e []) empty → d ≡ value
    → IsColumnWith e (inserted 0 n d (column_values e empty)) (home_inserted 0 n e d (home_of empty)) c → IsColumnWith e (replicate n value) (empty_home e (replicate n value)) c
repeated_made e n d value empty c none same made =
    let values : inserted 0 n d (column_values e empty) ≡ replicate n value =
    ap (λ vs. inserted 0 n d vs) none.holds ∙ append_none (replicate n d) ∙ ap (λ v. replicate n v) same in
    let home : home_inserted 0 n e d (home_of empty) ≡ empty_home e (replicate n value) =
    ap (λ h. home_inserted 0 n e d h) none.home_is ∙ sym (empty_home-inserted e 0 n d []) ∙ ap (λ vs. empty_home e vs) (append_none (replicate n d) ∙ ap (λ v. replicate n v) same) in
    subst (λ vs. IsColumnWith e vs (empty_home e (replicate n value)) c) values (subst (λ h. IsColumnWith e (inserted 0 n d (column_values e empty)) h c) home made)
