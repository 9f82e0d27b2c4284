-- Computed watches: counts and filters of what a name stands for, whose rows are made when they are asked for.
use Rattle.std.specs.Prelude.{ℕ, Bool, true, false, ◌||◌, ◌+◌, if◌then◌else◌, nat_lt, List, [], ◌∷◌, ◌++◌, length, Result, Ok, Err}
use Rattle.std.specs.List.{list_any}
use Rattle.mk_value.specs.Names.{same_bytes}
use Rattle.mk_value.specs.Paths.{Route}
use Rattle.mk_value.specs.Tables.{Table}
use Rattle.derived.specs.Viewing.{keep, keep_due}
use Rattle.eval.specs.Names.{Named, continued, view_at}
use Rattle.eval.specs.Values.{at_path, at_size, counted, kept}
use Rattle.eval.specs.declared.error.EvalError.{EvalError}
use Rattle.relations.specs.Answers.{outcome}
use Rattle.viewers.specs.Meanings.{Meaning}
use Rattle.computing.specs.declared.computed.Computation.{Computation}
use Rattle.computing.specs.declared.computed.Computation.TheVariants.{Counts, Filter}

-- a computed watch: its name, the name over which it stands, and what it shows of that
pub record ComputedWatch : Type 0 where
  pub name : List ℕ
  pub source : List ℕ
  pub shows : Computation

-- counts have a key
abbrev pub has_keys : Computation → Bool
has_keys (Counts keys count) = nat_lt 0 (length keys)
has_keys (Filter viewer props) = true

-- what it shows of a table, where these viewers may be asked
abbrev pub shown_of : List Meaning → Computation → Table → Result Table EvalError
shown_of viewers (Counts keys count) t = counted keys count t
shown_of viewers (Filter viewer props) t = kept viewers viewer props t

-- a name without steps
abbrev pub alone : List ℕ → Route
alone name = record { name = name; steps = [] }

-- its rows now: what it shows of the table that its source stands for among these names
abbrev pub value_of : List Named → List Meaning → ComputedWatch → Result Table EvalError
value_of names viewers w = continued (at_path (view_at names (alone w.source))) (shown_of viewers w.shows)

-- the counts of what a name stands for, by these keys and under this name
abbrev pub counts_over : List Named → List ℕ → List (List ℕ) → List ℕ → Result Table EvalError
counts_over names source keys count = continued (at_path (view_at names (alone source))) (counted keys count)

-- the rows on which a viewer's answer is not 0; and those of what a name stands for
abbrev pub kept_of : Meaning → List (List ℕ) → Table → Result Table EvalError
kept_of viewer props t = at_size t (outcome (keep_due viewer.name viewer.takes props t.schema) (keep viewer.gives props t))

abbrev pub rows_over : List Named → List ℕ → Meaning → List (List ℕ) → Result Table EvalError
rows_over names source viewer props = continued (at_path (view_at names (alone source))) (kept_of viewer props)

-- what its name stands for: no steps may follow it
abbrev pub named_by : List ℕ → Result Table EvalError → List Named
named_by name (Ok t) = record { name = name; table = t; has_steps = false } ∷ []
named_by name (Err e) = []

abbrev pub names_of : List Named → List Meaning → List ComputedWatch → List Named
names_of names viewers [] = []
names_of names viewers (w ∷ watches) = named_by w.name (value_of names viewers w) ++ names_of names viewers watches

-- all computed watches: filters, which stand over other names, and counts, which stand over other names or over a filter
pub record Computations : Type 0 where
  pub filters : List ComputedWatch
  pub counts : List ComputedWatch

abbrev pub no_computations : Computations
no_computations = record { filters = []; counts = [] }

-- names over which computed watches may stand, and behind them those of the filters; what the names of all of them stand for
abbrev pub with_filters : List Named → List Meaning → Computations → List Named
with_filters sources viewers c = sources ++ names_of sources viewers c.filters

abbrev pub computed_names : List Named → List Meaning → Computations → List Named
computed_names sources viewers c = names_of sources viewers c.filters ++ names_of (with_filters sources viewers c) viewers c.counts

-- names, and behind them those of the computed watches, which stand over these sources
abbrev pub with_computed : List Named → List Named → List Meaning → Computations → List Named
with_computed names sources viewers c = names ++ computed_names sources viewers c

-- whether one of these has the name, and whether one stands over it
abbrev pub has_name : List ComputedWatch → List ℕ → Bool
has_name watches name = list_any (λ (w : ComputedWatch). same_bytes w.name name) watches

abbrev pub has_source : List ComputedWatch → List ℕ → Bool
has_source watches name = list_any (λ (w : ComputedWatch). same_bytes w.source name) watches

abbrev pub is_filter : Computations → List ℕ → Bool
is_filter c name = has_name c.filters name

abbrev pub is_count : Computations → List ℕ → Bool
is_count c name = has_name c.counts name

abbrev pub is_computed : Computations → List ℕ → Bool
is_computed c name = is_filter c name || is_count c name

abbrev pub is_source : Computations → List ℕ → Bool
is_source c name = has_source c.filters name || has_source c.counts name

-- how many there are
abbrev pub count : Computations → ℕ
count c = length c.filters + length c.counts

-- one more, behind the others of its sort
abbrev pub put_in : Computation → ComputedWatch → Computations → Computations
put_in (Counts keys name) w c = record c { counts = c.counts ++ w ∷ [] }
put_in (Filter viewer props) w c = record c { filters = c.filters ++ w ∷ [] }

abbrev pub with_watch : Computations → ComputedWatch → Computations
with_watch c w = put_in w.shows w c

-- without those of a name
abbrev pub without_first : List ComputedWatch → List ℕ → List ComputedWatch
without_first [] name = []
without_first (w ∷ watches) name = if same_bytes w.name name then watches else w ∷ without_first watches name

abbrev pub without_computed : Computations → List ℕ → Computations
without_computed c name = record { filters = without_first c.filters name; counts = without_first c.counts name }
