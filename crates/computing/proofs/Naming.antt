-- What the name of a computed watch stands for.
use Rattle.std.proofs.Common.{◌≡◌, ℕ, Bool, false, List, [], ◌∷◌, ◌++◌, Option, Some, None, Result, Ok, Err, ap, sym}
use Rattle.std.specs.Prelude.{find}
use Rattle.std.proofs.lemmas.Option.{same_Some}
use Rattle.mk_value.specs.Names.{same_bytes}
use Rattle.mk_value.specs.Tables.{Table}
use Rattle.relations.proofs.Faults.{cases}
use Rattle.viewers.specs.Meanings.{Meaning}
use Rattle.eval.specs.Names.{Named, continued, view_at}
use Rattle.eval.specs.Values.{at_path, by_viewer, viewer_of}
use Rattle.eval.specs.declared.error.EvalError.{EvalError}
use Rattle.computing.specs.Computed.{ComputedWatch, alone, kept_of, named_by, names_of, rows_over, shown_of, value_of}
use Rattle.computing.specs.declared.computed.Computation.TheVariants.{Filter}

-- this name
abbrev pub is_this : List ℕ → Named → Bool
is_this name n = same_bytes n.name name

-- no steps may follow the name of a computed watch
pub no_steps : (sources : List Named) (viewers : List Meaning) (watches : List ComputedWatch) (name : List ℕ) (n : Named) → find (is_this name) (names_of sources viewers watches) ≡ Some n → n.has_steps ≡ false
no_steps sources viewers [] name n h = absurd (let none : ◌≡◌ {A = Option Named} None (Some n) = h in cc)
no_steps sources viewers (w ∷ watches) name n h = by (no_steps sources viewers watches name n) (value_of sources viewers w) h
  where
    by : (find (is_this name) (names_of sources viewers watches) ≡ Some n → n.has_steps ≡ false) → (value : Result Table EvalError) → find (is_this name) (named_by w.name value ++ names_of sources viewers watches) ≡ Some n → n.has_steps ≡ false
    by rest (Ok t) h = cases (same_bytes w.name name)
        (λ e. ap (λ (k : Named). k.has_steps) (sym (same_Some (record { name = w.name; table = t; has_steps = false }) n (rw e at h))))
        (λ e. rest (rw e at h))
    by rest (Err x) h = rest h

-- where a viewer has the name, the rows are those that it keeps
pub kept_found : (names : List Named) (viewers : List Meaning) (source viewer : List ℕ) (props : List (List ℕ)) (m : Meaning) → viewer_of viewers viewer ≡ Some m
    → continued (at_path (view_at names (alone source))) (shown_of viewers (Filter viewer props)) ≡ rows_over names source m props
kept_found names viewers source viewer props m found =
    ap (λ (o : Option Meaning). continued (at_path (view_at names (alone source))) (λ t. by_viewer o viewer (λ n. kept_of n props t))) found
