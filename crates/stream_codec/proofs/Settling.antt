-- Rows and tables that are whole are put away, and the view stays the same.
use Rattle.std.proofs.Common.{◌≡◌, ℕ, suc, ◌≤◌, ◌<◌, List, [], ◌∷◌, ◌++◌, length, Option, Some, None, refl, sym, ◌∙◌, ap, subst, arith}
use Rattle.std.proofs.lemmas.List.{append-nil, append_assoc}
use Rattle.std.proofs.lemmas.Grind.{flat_map-append}
use Rattle.std.specs.List.{flat_map}
use Rattle.mk_value.specs.Data.{Datum, relation, relation_of}
use Rattle.mk_value.specs.Heading.{Attribute}
use Rattle.struct_text.specs.Spelling.{spelling}
use Rattle.stream_codec.specs.Fields.{Due}
use Rattle.stream_codec.specs.Progress.{TableProgress, due_of, spelled_of, with_next, with_row_ended}
use Rattle.stream_codec.specs.Settling.{IsEnded, IsSameView, Settles}
use Rattle.stream_codec.specs.Stream.{counted, spelled_rows}
use Rattle.stream_codec.specs.ViewProgress.{AreAround, IsAwaited, IsPartialView, due_around, due_at, outermost, schema_of_view, spelled_length, spelled_of_view}
use Rattle.stream_codec.specs.declared.partial_view.PartialView.{PartialView}
use Rattle.stream_codec.specs.declared.partial_view.Settled.{Settled}
use Rattle.stream_codec.specs.declared.partial_view.Settled.TheVariants.{UnderWay, Whole}
use Rattle.stream_codec.proofs.UnderWay.{due_all_rows, due_row_ended, due_with_next, spelled_all_rows, spelled_row_ended, spelled_with_next}
use Rattle.stream_codec.proofs.ViewFields.{around_pop, around_same, due_around-push, outermost_same, outermost-push}

-- no content comes behind a whole row
none_awaited : (o : Option ℕ) (t : TableProgress) → IsAwaited o t → length t.schema ≤ length t.row → o ≡ None
none_awaited None t awaits whole = refl
none_awaited (Some len) t awaits whole = absurd (let short = awaits.1 in omega (arith, short, whole))

pub no_content : (v : PartialView) → IsPartialView v → length v.table.schema ≤ length v.table.row → v.content ≡ None
no_content v is whole = none_awaited v.content v.table is.awaits whole

-- a view in another form, from its parts
same_spelling : (v new : PartialView) → new.name ≡ v.name → schema_of_view new ≡ schema_of_view v
    → flat_map spelled_of new.around.items ++ (spelled_of new.table ++ spelled_length new.content) ≡ flat_map spelled_of v.around.items ++ (spelled_of v.table ++ spelled_length v.content)
    → spelled_of_view new ≡ spelled_of_view v
same_spelling v new named same inside =
    ap (λ (n : List ℕ). counted (spelling n (schema_of_view new)) ++ (flat_map spelled_of new.around.items ++ (spelled_of new.table ++ spelled_length new.content))) named
    ∙ ap (λ (s : List Attribute). counted (spelling v.name s) ++ (flat_map spelled_of new.around.items ++ (spelled_of new.table ++ spelled_length new.content))) same
    ∙ ap (λ (l : List ℕ). counted (spelling v.name (schema_of_view v)) ++ l) inside

-- the row ends, and another comes
pub row_ends : (v new : PartialView) (left : ℕ) → IsPartialView v → length v.table.schema ≤ length v.table.row → 0 < length v.table.schema → v.table.left ≡ suc left
    → new.name ≡ v.name → new.around.items ≡ v.around.items → new.table ≡ with_row_ended left v.table → new.content ≡ None → IsSameView v new × (length new.table.row < length new.table.schema)
row_ends v new left is whole some more named around table none =
    let t = v.table in
    let ts = v.around.items in
    let same : new.table.schema ≡ t.schema = ap (λ (u : TableProgress). u.schema) table in
    let was = no_content v is whole in
    let schemas : schema_of_view new ≡ schema_of_view v = ap (λ (l : List TableProgress). outermost l new.table) around ∙ outermost_same ts t new.table same in (
      record {
        due = ap (λ (o : Option ℕ). due_at o new.table ++ due_around new.around.items) none ∙ ap (λ (l : List TableProgress). due_of new.table ++ due_around l) around
            ∙ ap (λ (u : TableProgress). due_of u ++ due_around ts) table ∙ ap (λ (l : List Due). l ++ due_around ts) (due_row_ended t left whole more)
            ∙ ap (λ (o : Option ℕ). due_at o t ++ due_around ts) (sym was);
        spells = same_spelling v new named schemas
            (ap (λ (o : Option ℕ). flat_map spelled_of new.around.items ++ (spelled_of new.table ++ spelled_length o)) none
            ∙ ap (λ (l : List TableProgress). flat_map spelled_of l ++ (spelled_of new.table ++ [])) around
            ∙ ap (λ (l : List ℕ). flat_map spelled_of ts ++ (l ++ [])) (ap spelled_of table ∙ spelled_row_ended t left more)
            ∙ ap (λ (o : Option ℕ). flat_map spelled_of ts ++ (spelled_of t ++ spelled_length o)) (sym was));
        whole = record {
          around = subst (λ (l : List TableProgress). AreAround l new.table) (sym around) (around_same ts t new.table same is.around);
          awaits = subst (λ (o : Option ℕ). IsAwaited o new.table) (sym none) tt;
        };
        named = named;
        same_schema = schemas;
      },
      subst (λ (u : TableProgress). length u.row < length u.schema) (sym table) some,
    )

-- the table ends, and stands in the row around it
pub table_ends : (v new : PartialView) (ts : List TableProgress) (t : TableProgress) → IsPartialView v → length v.table.schema ≤ length v.table.row → v.table.left ≡ 0
    → v.around.items ≡ ts ++ t ∷ [] → new.name ≡ v.name → new.around.items ≡ ts → new.table ≡ with_next (relation (relation_of (v.table.rows ++ v.table.row ∷ []))) t → new.content ≡ None → IsSameView v new
table_ends v new ts t is whole last popped named around table none =
    let inner = v.table in
    let x = relation (relation_of (inner.rows ++ inner.row ∷ [])) in
    let same : new.table.schema ≡ t.schema = ap (λ (u : TableProgress). u.schema) table in
    let was = no_content v is whole in
    let before = around_pop ts t inner (subst (λ (l : List TableProgress). AreAround l inner) popped is.around) in
    let schemas : schema_of_view new ≡ schema_of_view v =
    ap (λ (l : List TableProgress). outermost l new.table) around ∙ outermost_same ts t new.table same ∙ sym (outermost-push ts t inner) ∙ ap (λ (l : List TableProgress). outermost l inner) (sym popped) in
    record {
      due = ap (λ (o : Option ℕ). due_at o new.table ++ due_around new.around.items) none ∙ ap (λ (l : List TableProgress). due_of new.table ++ due_around l) around
          ∙ ap (λ (u : TableProgress). due_of u ++ due_around ts) table ∙ ap (λ (l : List Due). l ++ due_around ts) (due_with_next t x)
          ∙ sym (due_around-push ts t) ∙ ap due_around (sym popped)
          ∙ ap (λ (l : List Due). l ++ due_around v.around.items) (sym (due_all_rows inner whole last))
          ∙ ap (λ (o : Option ℕ). due_at o inner ++ due_around v.around.items) (sym was);
      spells = same_spelling v new named schemas
          (ap (λ (o : Option ℕ). flat_map spelled_of new.around.items ++ (spelled_of new.table ++ spelled_length o)) none
          ∙ ap (λ (l : List TableProgress). flat_map spelled_of l ++ (spelled_of new.table ++ [])) around
          ∙ ap (λ (l : List ℕ). flat_map spelled_of ts ++ l) (append-nil (spelled_of new.table) ∙ ap spelled_of table ∙ spelled_with_next t x ∙ ap (λ (l : List ℕ). spelled_of t ++ l) (spelled_all_rows inner last))
          ∙ sym (append_assoc (flat_map spelled_of ts) (spelled_of t) (spelled_of inner))
          ∙ ap (λ (l : List ℕ). l ++ spelled_of inner) (ap (λ (l : List ℕ). flat_map spelled_of ts ++ l) (sym (append-nil (spelled_of t))) ∙ sym (flat_map-append spelled_of ts (t ∷ [])) ∙ ap (λ (l : List TableProgress). flat_map spelled_of l) (sym popped))
          ∙ ap (λ (l : List ℕ). flat_map spelled_of v.around.items ++ l) (sym (append-nil (spelled_of inner)))
          ∙ ap (λ (o : Option ℕ). flat_map spelled_of v.around.items ++ (spelled_of inner ++ spelled_length o)) (sym was));
      whole = record {
        around = subst (λ (l : List TableProgress). AreAround l new.table) (sym around) (around_same ts t new.table same before.0);
        awaits = subst (λ (o : Option ℕ). IsAwaited o new.table) (sym none) tt;
      };
      named = named;
      same_schema = schemas;
    }

-- the outermost table ends
pub view_ends : (v : PartialView) (name : List ℕ) (schema : List Attribute) (rows : List (List Datum)) → IsPartialView v → length v.table.schema ≤ length v.table.row → v.table.left ≡ 0
    → v.around.items ≡ [] → name ≡ v.name → schema ≡ v.table.schema → rows ≡ v.table.rows ++ v.table.row ∷ [] → IsEnded v name schema rows
view_ends v name schema rows is whole last none named same all =
    let t = v.table in
    let was = no_content v is whole in
    let schemas : schema ≡ schema_of_view v = same ∙ ap (λ (l : List TableProgress). outermost l t) (sym none) in
    record {
      due = ap (λ (o : Option ℕ). due_at o t ++ due_around v.around.items) was ∙ ap (λ (l : List TableProgress). due_of t ++ due_around l) none ∙ append-nil (due_of t) ∙ due_all_rows t whole last;
      spells = ap (λ (n : List ℕ). counted (spelling n schema) ++ spelled_rows rows) named ∙ ap (λ (s : List Attribute). counted (spelling v.name s) ++ spelled_rows rows) schemas
          ∙ ap (λ (l : List ℕ). counted (spelling v.name (schema_of_view v)) ++ l)
          (ap spelled_rows all ∙ spelled_all_rows t last ∙ sym (append-nil (spelled_of t))
          ∙ ap (λ (l : List TableProgress). flat_map spelled_of l ++ (spelled_of t ++ [])) (sym none)
          ∙ ap (λ (o : Option ℕ). flat_map spelled_of v.around.items ++ (spelled_of t ++ spelled_length o)) (sym was));
      named = named;
      same_schema = schemas;
    }

-- what is settled of another form of a view is settled of it
pub settles_through : (v new : PartialView) (s : Settled) → IsSameView v new → Settles new s → Settles v s
settles_through v new (UnderWay last) same settled =
    let then = settled.0 in (
      record {
        due = then.due ∙ same.due;
        spells = then.spells ∙ same.spells;
        whole = then.whole;
        named = then.named ∙ same.named;
        same_schema = then.same_schema ∙ same.same_schema;
      },
      settled.1,
    )
settles_through v new (Whole name table) same settled =
    let ended = settled.0 in (
      record {
        due = sym same.due ∙ ended.due;
        spells = ended.spells ∙ same.spells;
        named = ended.named ∙ same.named;
        same_schema = ended.same_schema ∙ same.same_schema;
      },
      settled.1,
    )

-- nothing to put away
pub settles_so : (v : PartialView) → IsPartialView v → length v.table.row < length v.table.schema → Settles v (UnderWay v)
settles_so v is unfinished = (record { due = refl; spells = refl; whole = is; named = refl; same_schema = refl }, unfinished)

-- no table is around where their number is 0
pub nothing_around : (ts : List TableProgress) → length ts ≡ 0 → ts ≡ []
nothing_around [] none = refl
nothing_around (t ∷ ts) none = absurd (omega (arith, none))
