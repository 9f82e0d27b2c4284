-- What a contract sees of a path.
use Rattle.std.specs.Prelude.{ℕ, List, refl}
use Rattle.std.specs.Coded.{Coded, code_by, coded_ℕ, coded_list, coded×}
use Rattle.mk_value.specs.declared.path.Step.{Step}

-- the name of a view, and the steps from there to a view inside it
pub record Route : Type 0 where
  pub name : List ℕ
  pub steps : List Step

abbrev pub step_code : Coded Step
step_code = code_by (ℕ × List ℕ) (coded× coded_ℕ (coded_list coded_ℕ)) (λ s. (s.row, s.prop)) (λ p. record { row = p.0; prop = p.1 }) (λ _. refl)

abbrev pub route_code : Coded Route
route_code = code_by (List ℕ × List Step) (coded× (coded_list coded_ℕ) (coded_list step_code)) (λ r. (r.name, r.steps)) (λ p. record { name = p.0; steps = p.1 }) (λ _. refl)
