-- A view under way after one of its fields.
use Rattle.std.proofs.Common.{◌≡◌, ℕ, suc, ◌+◌, ◌-◌, ◌<◌, List, [], ◌∷◌, ◌++◌, length, Option, Some, None, refl, sym, ◌∙◌, ap, subst, arith}
use Rattle.std.proofs.lemmas.List.{append-nil, append_assoc}
use Rattle.std.proofs.lemmas.Grind.{flat_map-append}
use Rattle.std.specs.List.{flat_map}
use Rattle.byteorder.specs.Endian.{little_bytes}
use Rattle.mk_value.specs.Data.{Datum}
use Rattle.mk_value.specs.Heading.{Attribute, Domain, heading_of}
use Rattle.struct_text.specs.Spelling.{spelling}
use Rattle.stream_codec.specs.Fields.{Due, content, rows_due, value_due}
use Rattle.stream_codec.specs.Progress.{TableProgress, due_behind, due_of, next_domain, spelled_of, with_next}
use Rattle.stream_codec.specs.Steps.{Leads, Refuses}
use Rattle.stream_codec.specs.declared.error.LoadError.{LoadError}
use Rattle.stream_codec.specs.Stream.{counted, spelled_value}
use Rattle.stream_codec.specs.Values.{AwaitsRows, inner_due, IsContentOf}
use Rattle.stream_codec.specs.ViewProgress.{AreAround, IsAround, IsAwaited, IsOpened, IsPartialView, Takes, due_around, due_at, due_of_view, outermost, schema_of_view, spelled_length, spelled_of_view}
use Rattle.stream_codec.specs.declared.partial_view.PartialView.{PartialView}
use Rattle.stream_codec.proofs.UnderWay.{due_at_start, due_next, due_with_next, spelled_at_start, spelled_with_next}
use Rattle.stream_codec.proofs.Steps.{leads_as}

-- ---- the tables around a table

-- only its schema matters to them
pub around_same : (ts : List TableProgress) (t u : TableProgress) → u.schema ≡ t.schema → AreAround ts t → AreAround ts u
around_same [] t u same around = tt
around_same (a ∷ []) t u same around = record { within = around.within; view = around.view ∙ ap (λ (s : List Attribute). Domain.relation (heading_of s)) (sym same) }
around_same (a ∷ b ∷ ts) t u same around = (around.0, around_same (b ∷ ts) t u same around.1)

pub outermost_same : (ts : List TableProgress) (t u : TableProgress) → u.schema ≡ t.schema → outermost ts u ≡ outermost ts t
outermost_same [] t u same = same
outermost_same (a ∷ ts) t u same = refl

-- one more, the innermost
pub due_around-push : (ts : List TableProgress) (t : TableProgress) → due_around (ts ++ t ∷ []) ≡ due_behind t ++ due_around ts
due_around-push [] t = sym (append-nil (due_behind t))
due_around-push (a ∷ ts) t = ap (λ (l : List Due). l ++ due_behind a) (due_around-push ts t) ∙ append_assoc (due_behind t) (due_around ts) (due_behind a)

pub around_push : (ts : List TableProgress) (t inner : TableProgress) → AreAround ts t → IsAround t inner → AreAround (ts ++ t ∷ []) inner
around_push [] t inner around here = here
around_push (a ∷ []) t inner around here = (around, here)
around_push (a ∷ b ∷ ts) t inner around here = (around.0, around_push (b ∷ ts) t inner around.1 here)

pub outermost-push : (ts : List TableProgress) (t inner : TableProgress) → outermost (ts ++ t ∷ []) inner ≡ outermost ts t
outermost-push [] t inner = refl
outermost-push (a ∷ ts) t inner = refl

pub around_pop : (ts : List TableProgress) (t inner : TableProgress) → AreAround (ts ++ t ∷ []) inner → AreAround ts t × IsAround t inner
around_pop [] t inner around = (tt, around)
around_pop (a ∷ []) t inner around = (around.0, around.1)
around_pop (a ∷ b ∷ ts) t inner around = let rest = around_pop (b ∷ ts) t inner around.1 in ((around.0, rest.0), rest.1)

-- ---- a view from its parts

abbrev spelled_inside : List TableProgress → TableProgress → Option ℕ → List ℕ
spelled_inside ts t o = flat_map spelled_of ts ++ (spelled_of t ++ spelled_length o)

spelled_view_more : (v new : PartialView) (field : List ℕ) → new.name ≡ v.name → schema_of_view new ≡ schema_of_view v
    → spelled_inside new.around.items new.table new.content ≡ spelled_inside v.around.items v.table v.content ++ field → spelled_of_view new ≡ spelled_of_view v ++ field
spelled_view_more v new field named same inside =
    let head = counted (spelling v.name (schema_of_view v)) in
    ap (λ (n : List ℕ). counted (spelling n (schema_of_view new)) ++ spelled_inside new.around.items new.table new.content) named
    ∙ ap (λ (s : List Attribute). counted (spelling v.name s) ++ spelled_inside new.around.items new.table new.content) same
    ∙ ap (λ (l : List ℕ). head ++ l) inside
    ∙ sym (append_assoc head (spelled_inside v.around.items v.table v.content) field)

-- more at the end of what is spelled
inside_more : (ts : List TableProgress) (a b field : List ℕ) → b ≡ a ++ field → flat_map spelled_of ts ++ b ≡ (flat_map spelled_of ts ++ a) ++ field
inside_more ts a b field more = ap (λ (l : List ℕ). flat_map spelled_of ts ++ l) more ∙ sym (append_assoc (flat_map spelled_of ts) a field)

-- ---- a value

leads_value : (t : TableProgress) (behind : List Due) (x : Datum) (field : List ℕ) → length t.row < length t.schema
    → ((due : List Due) → Leads (value_due (next_domain t) ∷ due) field due) → Leads (due_of t ++ behind) field (due_of (with_next x t) ++ behind)
leads_value t behind x field unfinished leads =
    subst (λ (l : List Due). Leads (l ++ behind) field (due_of (with_next x t) ++ behind)) (sym (due_next t unfinished))
    (leads_as (value_due (next_domain t) ∷ (due_behind t ++ behind)) (due_behind t ++ behind) (due_of (with_next x t) ++ behind) field (leads (due_behind t ++ behind))
    (ap (λ (l : List Due). l ++ behind) (sym (due_with_next t x))))

-- the first field of a value is the value
pub takes_value : (v new : PartialView) (field : List ℕ) (x : Datum) → v.content ≡ None → new.content ≡ None → new.name ≡ v.name → new.around.items ≡ v.around.items → new.table ≡ with_next x v.table
    → length v.table.row < length v.table.schema → IsPartialView v → spelled_value x ≡ field → ((due : List Due) → Leads (value_due (next_domain v.table) ∷ due) field due) → Takes v field new
takes_value v new field x none none' named around table unfinished whole spells leads =
    let same : new.table.schema ≡ v.table.schema = ap (λ (t : TableProgress). t.schema) table in
    let ts = v.around.items in
    let schemas : schema_of_view new ≡ schema_of_view v = ap (λ (l : List TableProgress). outermost l new.table) around ∙ outermost_same ts v.table new.table same in
    record {
      leads = subst (λ (o : Option ℕ). Leads (due_at o v.table ++ due_around ts) field (due_of_view new)) (sym none)
          (leads_as (due_of v.table ++ due_around ts) (due_of (with_next x v.table) ++ due_around ts) (due_of_view new) field (leads_value v.table (due_around ts) x field unfinished leads)
          (ap (λ (t : TableProgress). due_of t ++ due_around ts) (sym table) ∙ ap (λ (l : List TableProgress). due_of new.table ++ due_around l) (sym around)
          ∙ ap (λ (o : Option ℕ). due_at o new.table ++ due_around new.around.items) (sym none')));
      spells = spelled_view_more v new field named schemas
          (ap (λ (l : List TableProgress). spelled_inside l new.table new.content) around ∙ inside_more ts (spelled_of v.table ++ spelled_length v.content) (spelled_of new.table ++ spelled_length new.content) field
          (ap (λ (o : Option ℕ). spelled_of new.table ++ spelled_length o) none' ∙ append-nil (spelled_of new.table) ∙ ap spelled_of table ∙ spelled_with_next v.table x
          ∙ ap (λ (l : List ℕ). spelled_of v.table ++ l) spells
          ∙ ap (λ (l : List ℕ). l ++ field) (sym (append-nil (spelled_of v.table)) ∙ ap (λ (o : Option ℕ). spelled_of v.table ++ spelled_length o) (sym none))));
      whole = record {
        around = subst (λ (l : List TableProgress). AreAround l new.table) (sym around) (around_same ts v.table new.table same whole.around);
        awaits = subst (λ (o : Option ℕ). IsAwaited o new.table) (sym none') tt;
      };
      named = named;
      same_schema = schemas;
    }

pub takes_content : (v new : PartialView) (field : List ℕ) (x : Datum) → v.content ≡ Some (length field) → new.content ≡ None → new.name ≡ v.name → new.around.items ≡ v.around.items → new.table ≡ with_next x v.table
    → IsPartialView v → IsContentOf (next_domain v.table) (length field) field x → Takes v field new
takes_content v new field x some none named around table whole is =
    let same : new.table.schema ≡ v.table.schema = ap (λ (t : TableProgress). t.schema) table in
    let ts = v.around.items in
    let d = next_domain v.table in
    let schemas : schema_of_view new ≡ schema_of_view v = ap (λ (l : List TableProgress). outermost l new.table) around ∙ outermost_same ts v.table new.table same in
    record {
      leads = subst (λ (o : Option ℕ). Leads (due_at o v.table ++ due_around ts) field (due_of_view new)) (sym some)
          (leads_as (content d (length field) ∷ (due_behind v.table ++ due_around ts)) (due_behind v.table ++ due_around ts) (due_of_view new) field (is.leads (due_behind v.table ++ due_around ts))
          (ap (λ (l : List Due). l ++ due_around ts) (sym (due_with_next v.table x))
          ∙ ap (λ (t : TableProgress). due_of t ++ due_around ts) (sym table) ∙ ap (λ (l : List TableProgress). due_of new.table ++ due_around l) (sym around)
          ∙ ap (λ (o : Option ℕ). due_at o new.table ++ due_around new.around.items) (sym none)));
      spells = spelled_view_more v new field named schemas
          (ap (λ (l : List TableProgress). spelled_inside l new.table new.content) around ∙ inside_more ts (spelled_of v.table ++ spelled_length v.content) (spelled_of new.table ++ spelled_length new.content) field
          (ap (λ (o : Option ℕ). spelled_of new.table ++ spelled_length o) none ∙ append-nil (spelled_of new.table) ∙ ap spelled_of table ∙ spelled_with_next v.table x
          ∙ ap (λ (l : List ℕ). spelled_of v.table ++ l) is.spells ∙ sym (append_assoc (spelled_of v.table) (little_bytes 4 (length field)) field)
          ∙ ap (λ (o : Option ℕ). (spelled_of v.table ++ spelled_length o) ++ field) (sym some)));
      whole = record {
        around = subst (λ (l : List TableProgress). AreAround l new.table) (sym around) (around_same ts v.table new.table same whole.around);
        awaits = subst (λ (o : Option ℕ). IsAwaited o new.table) (sym none) tt;
      };
      named = named;
      same_schema = schemas;
    }

-- the number of rows of a table inside the row
inner_rows : (d : Domain) (s : List Attribute) (count : ℕ) → d ≡ Domain.relation (heading_of s) → inner_due count d ≡ rows_due count (heading_of s)
inner_rows d s count view = ap (λ (e : Domain). inner_due count e) view

pub takes_rows : (v new : PartialView) (field : List ℕ) (count : ℕ) → v.content ≡ None → new.content ≡ None → new.name ≡ v.name → new.around.items ≡ v.around.items ++ v.table ∷ [] → IsOpened count v.table new.table
    → length v.table.row < length v.table.schema → 0 < count → IsPartialView v → little_bytes 4 count ≡ field
    → ((due : List Due) → Leads (value_due (next_domain v.table) ∷ due) field (inner_due count (next_domain v.table) ++ due)) → Takes v field new
takes_rows v new field count none none' named around opened unfinished some whole spells leads =
    let ts = v.around.items in
    let t = v.table in
    let s = new.table.schema in
    let d = next_domain t in
    let n : suc (count - 1) ≡ count = omega (arith, some) in
    let m : (count - 1) + 1 ≡ count = omega (arith, some) in
    let schemas : schema_of_view new ≡ schema_of_view v = ap (λ (l : List TableProgress). outermost l new.table) around ∙ outermost-push ts t new.table in
    let inner : due_of new.table ≡ inner_due count d =
    ap due_of opened.1 ∙ due_at_start s (count - 1) ∙ ap (λ (k : ℕ). rows_due k (heading_of s)) n ∙ sym (inner_rows d s count opened.0) in
    record {
      leads = subst (λ (o : Option ℕ). Leads (due_at o t ++ due_around ts) field (due_of_view new)) (sym none)
          (subst (λ (l : List Due). Leads (l ++ due_around ts) field (due_of_view new)) (sym (due_next t unfinished))
          (leads_as (value_due d ∷ (due_behind t ++ due_around ts)) (inner_due count d ++ (due_behind t ++ due_around ts)) (due_of_view new) field (leads (due_behind t ++ due_around ts))
          (ap (λ (l : List Due). l ++ (due_behind t ++ due_around ts)) (sym inner) ∙ ap (λ (l : List Due). due_of new.table ++ l) (sym (due_around-push ts t))
          ∙ ap (λ (l : List TableProgress). due_of new.table ++ due_around l) (sym around)
          ∙ ap (λ (o : Option ℕ). due_at o new.table ++ due_around new.around.items) (sym none'))));
      spells = spelled_view_more v new field named schemas
          (ap (λ (l : List TableProgress). spelled_inside l new.table new.content) around
          ∙ ap (λ (l : List ℕ). l ++ (spelled_of new.table ++ spelled_length new.content)) (flat_map-append spelled_of ts (t ∷ []) ∙ ap (λ (l : List ℕ). flat_map spelled_of ts ++ l) (append-nil (spelled_of t)))
          ∙ append_assoc (flat_map spelled_of ts) (spelled_of t) (spelled_of new.table ++ spelled_length new.content)
          ∙ inside_more ts (spelled_of t ++ spelled_length v.content) (spelled_of t ++ (spelled_of new.table ++ spelled_length new.content)) field
          (ap (λ (o : Option ℕ). spelled_of t ++ (spelled_of new.table ++ spelled_length o)) none' ∙ ap (λ (l : List ℕ). spelled_of t ++ l)
          (append-nil (spelled_of new.table) ∙ ap spelled_of opened.1 ∙ spelled_at_start s (count - 1) ∙ ap (λ (k : ℕ). little_bytes 4 k) m ∙ spells)
          ∙ ap (λ (l : List ℕ). l ++ field) (sym (append-nil (spelled_of t)) ∙ ap (λ (o : Option ℕ). spelled_of t ++ spelled_length o) (sym none))));
      whole = record {
        around = subst (λ (l : List TableProgress). AreAround l new.table) (sym around) (around_push ts t new.table whole.around (record { within = unfinished; view = opened.0 }));
        awaits = subst (λ (o : Option ℕ). IsAwaited o new.table) (sym none') tt;
      };
      named = named;
      same_schema = schemas;
    }

pub awaits_some : (d : Domain) (count : ℕ) → AwaitsRows count d → 0 < count
awaits_some (Domain.relation h) count awaits = awaits.0
awaits_some Domain.integer count awaits = absurd awaits
awaits_some Domain.long count awaits = absurd awaits
awaits_some Domain.text count awaits = absurd awaits
awaits_some Domain.bytes count awaits = absurd awaits

-- ---- what is refused

pub first_refused : (v : PartialView) (d : Domain) (field : List ℕ) (place : ℕ) (e : LoadError) → v.content ≡ None → d ≡ next_domain v.table → length v.table.row < length v.table.schema
    → ((due : List Due) → Refuses (value_due d ∷ due) field place e) → Refuses (due_of_view v) field place e
first_refused v d field place e none same unfinished refused =
    subst (λ (o : Option ℕ). Refuses (due_at o v.table ++ due_around v.around.items) field place e) (sym none)
    (subst (λ (l : List Due). Refuses (l ++ due_around v.around.items) field place e) (sym (due_next v.table unfinished))
    (subst (λ (k : Domain). Refuses (value_due k ∷ (due_behind v.table ++ due_around v.around.items)) field place e) same (refused (due_behind v.table ++ due_around v.around.items))))

pub content_refused : (v : PartialView) (d : Domain) (field : List ℕ) (place : ℕ) (e : LoadError) → v.content ≡ Some (length field) → d ≡ next_domain v.table
    → ((due : List Due) → Refuses (content d (length field) ∷ due) field place e) → Refuses (due_of_view v) field place e
content_refused v d field place e some same refused =
    subst (λ (o : Option ℕ). Refuses (due_at o v.table ++ due_around v.around.items) field place e) (sym some)
    (subst (λ (k : Domain). Refuses (content k (length field) ∷ (due_behind v.table ++ due_around v.around.items)) field place e) same (refused (due_behind v.table ++ due_around v.around.items)))
