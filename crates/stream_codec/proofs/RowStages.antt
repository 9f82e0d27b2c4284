-- A field of rows that is taken in place, and a row that ends.
use Rattle.std.proofs.Common.{◌≡◌, ℕ, ◌≤◌, ◌<◌, Bool, false, ⊎_elim, List, length, None, sym, ◌∙◌, ap, subst, arith}
use Rattle.std.proofs.lemmas.Bool.{cases_lt, false≢true}
use Rattle.mk_value.specs.Heading.{Attribute, IsHeading}
use Rattle.mk_value.specs.Limits.{max_structure}
use Rattle.struct_text.specs.Lengths.{structure_length}
use Rattle.struct_text.specs.Spelling.{spelling}
use Rattle.tables.specs.Tables.{StoredTable}
use Rattle.view_store.specs.Views.{NamedTable, table_of}
use Rattle.stream_codec.specs.declared.error.LoadError.{LoadError}
use Rattle.stream_codec.specs.declared.partial_view.PartialView.{PartialView}
use Rattle.stream_codec.specs.declared.stage.Stage.{Stage}
use Rattle.stream_codec.specs.declared.stage.Stage.TheVariants.{Views, Rows}
use Rattle.stream_codec.specs.RowsInPlace.{EndsRow, HasNextLen, IsRows, MayEndRow, RefusesInPlace, TakesInPlace}
use Rattle.stream_codec.specs.Settling.{IsEnded}
use Rattle.stream_codec.specs.Stages.{due_in, IsLoading, IsNextLen, Passes}
use Rattle.stream_codec.specs.Steps.{Refuses}
use Rattle.stream_codec.specs.ViewProgress.{schema_of_view}
use Rattle.stream_codec.proofs.Settling.{settles_so}
use Rattle.stream_codec.proofs.Stages.{next_len_view, row_passes, row_refused, short_structure, view_passes}

-- the next field
pub has_next_len : (views : List NamedTable) (stage : Stage) (n : ℕ) → IsRows stage → IsLoading views stage → IsNextLen (due_in views stage) n → HasNextLen stage n
has_next_len views (Rows view left) n rows loading next = next_len_view views left n view loading next
has_next_len views _ n rows loading next = absurd rows

pub refused_in_place : (views : List NamedTable) (stage : Stage) (field : List ℕ) (place : ℕ) (e : LoadError) → IsRows stage → RefusesInPlace stage field place e → Refuses (due_in views stage) field place e
refused_in_place views (Rows view left) field place e rows refused = row_refused views left field view place e refused
refused_in_place views _ field place e rows refused = absurd rows

-- the row is not whole
pub row_goes_on : (views : List NamedTable) (old new : Stage) (field : List ℕ) (whole : Bool) → IsLoading views old → TakesInPlace old field new whole → whole ≡ false → Passes views old field views new
row_goes_on views (Rows old left) (Rows new behind) field whole loading takes not =
    let unfinished : length new.table.row < length new.table.schema = ⊎_elim (λ below. below)
    (λ (past : length new.table.schema ≤ length new.table.row). absurd (false≢true (sym not ∙ takes.2.1 past)))
    (cases_lt (length new.table.row) (length new.table.schema)) in
    let so = settles_so new takes.0.whole unfinished in
    subst (λ (k : ℕ). Passes views (Rows old left) field views (Rows new k)) (sym takes.1) (row_passes views left field old new new loading takes.0 so.0 unfinished)
row_goes_on views _ _ field whole loading takes not = absurd takes

-- it is whole, and ends
pub may_end_row : (views : List NamedTable) (old mid : Stage) (field : List ℕ) (whole : Bool) → IsLoading views old → TakesInPlace old field mid whole → MayEndRow views mid
may_end_row views (Rows old left) (Rows mid behind) field whole loading takes =
    let named = takes.0.named in
    let schemas = takes.0.same_schema in
    let few = loading.follows.few in
    let same = takes.1 in
    let short = loading.whole.2 in
    let long = ap (λ (x : List ℕ). length (spelling x (schema_of_view mid))) named ∙ ap (λ (s : List Attribute). length (spelling old.name s)) schemas in
    (takes.0.whole, record { few = omega (arith, few, same); new = ap (λ (x : List ℕ). table_of views x) named ∙ loading.follows.new }, omega (arith, short, long))
may_end_row views _ _ field whole loading takes = absurd takes

pub row_ends_so : (views all : List NamedTable) (old mid new : Stage) (field : List ℕ) (whole : Bool) → IsLoading views old → TakesInPlace old field mid whole → EndsRow views mid all new → Passes views old field all new
row_ends_so views all (Rows old left) (Rows mid between) (Rows new behind) field whole loading takes ends =
    subst (λ (k : ℕ). Passes views (Rows old left) field all (Rows new k)) (sym (ends.2 ∙ takes.1))
    (subst (λ (l : List NamedTable). Passes views (Rows old left) field l (Rows new left)) (sym ends.3) (row_passes views left field old mid new loading takes.0 ends.0 ends.1))
row_ends_so views all (Rows old left) (Rows mid between) (Views behind) field whole loading takes ends =
    subst (λ (k : ℕ). Passes views (Rows old left) field all (Views k)) (sym (ends.4 ∙ takes.1))
    (view_passes views all left field old mid ends.0 ends.1 loading takes.0 ends.2 ends.3.homeless ends.3.put)
row_ends_so views all (Rows old left) (Rows mid between) _ field whole loading takes ends = absurd ends
row_ends_so views all _ _ _ field whole loading takes ends = absurd takes

-- a view that ends is short, and none of its name came
pub ended_short : (views : List NamedTable) (left : ℕ) (view : PartialView) (name : List ℕ) (t : StoredTable) → MayEndRow views (Rows view left) → IsEnded view name t.schema t.rows → IsHeading t.schema → structure_length name t.schema ≤ max_structure
ended_short views left view name t may ended whole =
    let short = may.2 in
    let same = ap (λ (x : List ℕ). length (spelling x t.schema)) ended.named ∙ ap (λ (s : List Attribute). length (spelling view.name s)) ended.same_schema in
    short_structure name t.schema whole (omega (arith, short, same))

pub ended_new : (views : List NamedTable) (left : ℕ) (view : PartialView) (name : List ℕ) (t : StoredTable) → MayEndRow views (Rows view left) → IsEnded view name t.schema t.rows → table_of views name ≡ None
ended_new views left view name t may ended = ap (λ (x : List ℕ). table_of views x) ended.named ∙ may.1.new
