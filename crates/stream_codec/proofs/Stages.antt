-- From one stage of a stream to the next.
use Rattle.std.proofs.Common.{◌≡◌, ℕ, suc, ◌+◌, ◌-◌, ◌≤◌, ◌<◌, ◌⊎◌, ⊎_elim, List, [], ◌∷◌, ◌++◌, length, Some, None, Option, All, Contains, refl, sym, ◌∙◌, ap, subst, arith, length-append}
use Rattle.std.proofs.lemmas.List.{append-nil, append_assoc}
use Rattle.std.proofs.lemmas.List.Elements.{All-nil, All-push}
use Rattle.std.proofs.lemmas.Grind.{flat_map-append}
use Rattle.std.specs.List.{flat_map}
use Rattle.byteorder.specs.Endian.{little_bytes}
use Rattle.mk_value.specs.Heading.{Attribute, heading_of, IsHeading}
use Rattle.mk_value.specs.Limits.{max_rows, max_structure, max_views}
use Rattle.struct_text.specs.Lengths.{structure_length}
use Rattle.struct_text.specs.Spelling.{spelling, Spells}
use Rattle.struct_text.proofs.Lengths.{spelling_some, structure_is}
use Rattle.struct_text.proofs.Unique.{one_structure}
use Rattle.tables.specs.Tables.{HasNoHomes, StoredTable, table_without_homes}
use Rattle.view_store.specs.Views.{NamedTable, table_of}
use Rattle.stream_codec.specs.declared.error.LoadError.{LoadError}
use Rattle.stream_codec.specs.declared.error.LoadError.TheVariants.{At, Memory}
use Rattle.stream_codec.specs.declared.partial_view.PartialView.{PartialView}
use Rattle.stream_codec.specs.declared.stage.Stage.TheVariants.{Opening, ViewCount, Views, Structure, RowCount, Rows}
use Rattle.stream_codec.specs.Fields.{Due, opening, row_count, rows_due, structure, text_length, view_count, views_due}
use Rattle.stream_codec.specs.Progress.{due_of, progress_at_start, spelled_of, TableProgress}
use Rattle.stream_codec.specs.Settling.{IsEnded, IsSameView}
use Rattle.stream_codec.specs.Stages.{due_in, IsLoading, IsNextLen, names_before, Passes, spelled_before}
use Rattle.stream_codec.specs.Steps.{first_len, Leads, LeadsToWrong, Refuses}
use Rattle.stream_codec.specs.Stream.{counted, signature, spelled_view}
use Rattle.stream_codec.specs.ViewProgress.{due_around, due_at, due_of_view, IsAwaited, IsPartialView, AreAround, outermost, next_len, schema_of_view, spelled_length, spelled_of_view, Takes}
use Rattle.stream_codec.proofs.Names.{absent, names_before-push, present}
use Rattle.stream_codec.proofs.UnderWay.{due_at_start, due_next, spelled_at_start}
use Rattle.stream_codec.proofs.ReadFields.{IsCountOf, IsTooMany}
use Rattle.stream_codec.proofs.Steps.{leads_as, leads_before, leads_field, refuses_before, refuses_here, wrong_behind, wrong_here}

no_views_homeless : All (λ (v : NamedTable). HasNoHomes v.table) []
no_views_homeless = All-nil (λ (v : NamedTable). HasNoHomes v.table)

-- ---- the opening, and the number of views

pub opening_passes : (field : List ℕ) → field ≡ signature → Passes [] Opening field [] ViewCount
opening_passes field is = record {
  leads = leads_field opening (view_count ∷ []) [] field (ap length is) (is, refl);
  spells = sym is;
  whole = record { whole = tt; follows = refl; homeless = no_views_homeless };
}

pub opening_refused : (field : List ℕ) (place : ℕ) → length field ≡ 8 → (field ≡ signature → ⊥) → Refuses (due_in [] Opening) field place (At place)
opening_refused field place long not = refuses_here opening (view_count ∷ []) field place long (λ next is. not is.0)

pub view_count_passes : (field : List ℕ) (n : ℕ) → length field ≡ 4 → IsCountOf field max_views n → Passes [] ViewCount field [] (Views n)
view_count_passes field n long is =
    let same = is.0 in
    let few = is.2 in
    record {
      leads = leads_as (view_count ∷ []) (views_due n [] ++ []) (views_due n []) field
          (leads_field view_count [] (views_due n []) field long (omega (arith, same, few), ap (λ (k : ℕ). views_due k []) same)) (append-nil (views_due n []));
      spells = ap (λ (l : List ℕ). signature ++ l) (append-nil (little_bytes 4 (0 + n)) ∙ ap (λ (k : ℕ). little_bytes 4 k) (let e : 0 + n ≡ n = omega arith in e) ∙ is.1);
      whole = record { whole = tt; follows = omega (arith, few); homeless = no_views_homeless };
    }

pub view_count_refused : (field : List ℕ) (place : ℕ) (e : LoadError) → length field ≡ 4 → IsTooMany field max_views place e → Refuses (due_in [] ViewCount) field place e
view_count_refused field place e long wrong =
    subst (λ (x : LoadError). Refuses (view_count ∷ []) field place x) (sym wrong.0)
    (refuses_here view_count [] field place long (λ next is. let few = is.0 in let many = wrong.1 in omega (arith, few, many)))

-- ---- the length of a structure text

text_length_leads : (names : List (List ℕ)) (field : List ℕ) (more len : ℕ) → length field ≡ 4 → IsCountOf field max_structure len → Leads (text_length more names ∷ []) field (structure len more names ∷ [])
text_length_leads names field more len long is =
    let same = is.0 in
    let few = is.2 in
    leads_field (text_length more names) [] (structure len more names ∷ []) field long (omega (arith, same, few), ap (λ (k : ℕ). structure k more names ∷ []) same)

pub text_length_passes : (views : List NamedTable) (left more len : ℕ) (field : List ℕ) → left ≡ suc more → length field ≡ 4 → IsCountOf field max_structure len → 0 < len → IsLoading views (Views left)
    → Passes views (Views left) field views (Structure len more)
text_length_passes views left more len field next long is some loading =
    let few = is.2 in
    let fits = loading.follows in
    record {
      leads = subst (λ (k : ℕ). Leads (views_due k (names_before views)) field (structure len more (names_before views) ∷ [])) (sym next) (text_length_leads (names_before views) field more len long is);
      spells = ap (λ (k : ℕ). spelled_before (length views + k) views ++ little_bytes 4 len) (sym next) ∙ ap (λ (l : List ℕ). spelled_before (length views + left) views ++ l) is.1;
      whole = record { whole = (some, few); follows = omega (arith, fits, next); homeless = loading.homeless };
    }

pub text_length_refused : (views : List NamedTable) (left more : ℕ) (field : List ℕ) (place : ℕ) (e : LoadError) → left ≡ suc more → length field ≡ 4 → IsTooMany field max_structure place e → Refuses (due_in views (Views left)) field place e
text_length_refused views left more field place e next long wrong =
    subst (λ (k : ℕ). Refuses (views_due k (names_before views)) field place e) (sym next)
    (subst (λ (x : LoadError). Refuses (text_length more (names_before views) ∷ []) field place x) (sym wrong.0)
    (refuses_here (text_length more (names_before views)) [] field place long (λ next is. let few = is.0 in let many = wrong.1 in omega (arith, few, many))))

-- no structure has no bytes
pub no_structure_text : (views : List NamedTable) (left more len : ℕ) (field : List ℕ) (place : ℕ) → left ≡ suc more → length field ≡ 4 → IsCountOf field max_structure len → len ≡ 0
    → Refuses (due_in views (Views left)) field place (At (place + 4))
no_structure_text views left more len field place next long is none =
    let names = names_before views in
    let wrong : LeadsToWrong (text_length more names ∷ []) (field ++ []) (length field + 0) =
    wrong_behind (text_length more names ∷ []) (structure 0 more names ∷ []) field [] 0
    (subst (λ (k : ℕ). Leads (text_length more names ∷ []) field (structure k more names ∷ [])) none (text_length_leads names field more len long is))
    (wrong_here (structure 0 more names) [] [] refl (λ next b. let spells = ap length b.2.is in let two = spelling_some b.0 b.1 in omega (arith, spells, two))) in
    subst (λ (k : ℕ). Refuses (views_due k names) field place (At (place + 4))) (sym next)
    (length field + 0, omega (arith, long), subst (λ (l : List ℕ). LeadsToWrong (text_length more names ∷ []) l (length field + 0)) (append-nil field) wrong)

-- ---- a structure text

pub structure_passes : (views : List NamedTable) (left : ℕ) (field name : List ℕ) (schema : List Attribute) → IsLoading views (Structure (length field) left) → Spells field name schema → table_of views name ≡ None
    → Passes views (Structure (length field) left) field views (RowCount name schema left)
structure_passes views left field name schema loading spells new =
    let names = names_before views in
    let due = row_count (heading_of schema) ∷ views_due left (name ∷ names) in
    let before = spelled_before (length views + suc left) views in
    let short = loading.whole.1 in
    let long = ap length spells.is in
    record {
      leads = leads_as (structure (length field) left names ∷ []) (due ++ []) due field
          (leads_field (structure (length field) left names) [] due field refl (name, schema, spells, absent views name new, refl)) (append-nil due);
      spells = ap (λ (l : List ℕ). before ++ (little_bytes 4 (length l) ++ l)) (sym spells.is) ∙ sym (append_assoc before (little_bytes 4 (length field)) field);
      whole = record { whole = omega (arith, short, long); follows = record { few = loading.follows; new = new }; homeless = loading.homeless };
    }

pub structure_refused : (views : List NamedTable) (left : ℕ) (field : List ℕ) (place : ℕ) (e : LoadError)
    → (e ≡ Memory) ⊎ ((e ≡ At place) × ((name : List ℕ) (schema : List Attribute) → Spells field name schema → ⊥)) → Refuses (due_in views (Structure (length field) left)) field place e
structure_refused views left field place e wrong = ⊎_elim
    (λ memory. subst (λ (x : LoadError). Refuses (due_in views (Structure (length field) left)) field place x) (sym memory) tt)
    (λ (no : (e ≡ At place) × ((name : List ℕ) (schema : List Attribute) → Spells field name schema → ⊥)). subst (λ (x : LoadError). Refuses (due_in views (Structure (length field) left)) field place x) (sym no.0)
    (refuses_here (structure (length field) left (names_before views)) [] field place refl (λ next b. no.1 b.0 b.1 b.2)))
    wrong

pub name_refused : (views : List NamedTable) (left : ℕ) (field name : List ℕ) (schema : List Attribute) (t : StoredTable) (place : ℕ) → Spells field name schema → table_of views name ≡ Some t
    → Refuses (due_in views (Structure (length field) left)) field place (At place)
name_refused views left field name schema t place spells some =
    refuses_here (structure (length field) left (names_before views)) [] field place refl
    (λ next b. let same = one_structure field name b.0 schema b.1 spells b.2 in b.3 (subst (λ (n : List ℕ). Contains (names_before views) n) same.0 (present views name t some)))

-- a structure that came is short
pub short_structure : (name : List ℕ) (schema : List Attribute) → IsHeading schema → length (spelling name schema) ≤ max_structure → structure_length name schema ≤ max_structure
short_structure name schema whole short = let long = structure_is name schema whole in omega (arith, long, short)

-- ---- one view more

pub spelled_before-push : (views : List NamedTable) (v : NamedTable) (left : ℕ) → spelled_before (length (views ++ v ∷ []) + left) (views ++ v ∷ []) ≡ spelled_before (length views + suc left) views ++ spelled_view v
spelled_before-push views v left =
    let long = length-append views (v ∷ []) in
    let counts : length (views ++ v ∷ []) + left ≡ length views + suc left = omega (arith, long) in
    let n = length views + suc left in
    let before = flat_map spelled_view views in
    ap (λ (k : ℕ). spelled_before k (views ++ v ∷ [])) counts
    ∙ ap (λ (l : List ℕ). signature ++ (little_bytes 4 n ++ l)) (flat_map-append spelled_view views (v ∷ []) ∙ ap (λ (l : List ℕ). before ++ l) (append-nil (spelled_view v)))
    ∙ ap (λ (l : List ℕ). signature ++ l) (sym (append_assoc (little_bytes 4 n) before (spelled_view v)))
    ∙ sym (append_assoc signature (little_bytes 4 n ++ before) (spelled_view v))

loading_push : (views : List NamedTable) (name : List ℕ) (t : StoredTable) (left : ℕ) → All (λ (v : NamedTable). HasNoHomes v.table) views → length views + suc left ≤ max_views → HasNoHomes t → IsLoading (views ++ record { name = name; table = t } ∷ []) (Views left)
loading_push views name t left homeless few none =
    let v : NamedTable = record { name = name; table = t } in
    let long = length-append views (v ∷ []) in
    record { whole = tt; follows = omega (arith, long, few); homeless = All-push (λ (w : NamedTable). HasNoHomes w.table) views v homeless none }

-- ---- the number of rows of a view

row_count_leads : (schema : List Attribute) (due : List Due) (field : List ℕ) (n : ℕ) → length field ≡ 4 → IsCountOf field max_rows n → Leads (row_count (heading_of schema) ∷ due) field (rows_due n (heading_of schema) ++ due)
row_count_leads schema due field n long is =
    let same = is.0 in
    let few = is.2 in
    leads_field (row_count (heading_of schema)) due (rows_due n (heading_of schema)) field long (omega (arith, same, few), ap (λ (k : ℕ). rows_due k (heading_of schema)) same)

pub no_rows_pass : (views new : List NamedTable) (name : List ℕ) (schema : List Attribute) (left n : ℕ) (field : List ℕ) → length field ≡ 4 → IsCountOf field max_rows n → n ≡ 0 → IsLoading views (RowCount name schema left)
    → new ≡ views ++ record { name = name; table = table_without_homes schema [] } ∷ [] → Passes views (RowCount name schema left) field new (Views left)
no_rows_pass views new name schema left n field long is none loading put =
    let t = table_without_homes schema [] in
    let v : NamedTable = record { name = name; table = t } in
    let due = views_due left (name ∷ names_before views) in
    let passes : Passes views (RowCount name schema left) field (views ++ v ∷ []) (Views left) = record {
      leads = leads_as (row_count (heading_of schema) ∷ due) (rows_due n (heading_of schema) ++ due) (views_due left (names_before (views ++ v ∷ []))) field (row_count_leads schema due field n long is)
          (ap (λ (k : ℕ). rows_due k (heading_of schema) ++ due) none ∙ ap (λ (l : List (List ℕ)). views_due left l) (sym (names_before-push views v)));
      spells = spelled_before-push views v left
          ∙ ap (λ (l : List ℕ). spelled_before (length views + suc left) views ++ (counted (spelling name schema) ++ l)) (append-nil (little_bytes 4 0) ∙ ap (λ (k : ℕ). little_bytes 4 k) (sym none) ∙ is.1)
          ∙ sym (append_assoc (spelled_before (length views + suc left) views) (counted (spelling name schema)) field);
      whole = loading_push views name t left loading.homeless loading.follows.few refl;
    } in
    subst (λ (l : List NamedTable). Passes views (RowCount name schema left) field l (Views left)) (sym put) passes

pub rows_pass : (views : List NamedTable) (name : List ℕ) (schema : List Attribute) (left n : ℕ) (field : List ℕ) (view : PartialView) → length field ≡ 4 → IsCountOf field max_rows n → 0 < n → 0 < length schema
    → IsLoading views (RowCount name schema left) → view.name ≡ name → view.around.items ≡ [] → view.table ≡ progress_at_start schema (n - 1) → view.content ≡ None
    → Passes views (RowCount name schema left) field views (Rows view left)
rows_pass views name schema left n field view long is some wide loading named around table none =
    let due = views_due left (name ∷ names_before views) in
    let before = spelled_before (length views + suc left) views in
    let k : suc (n - 1) ≡ n = omega (arith, some) in
    let m : (n - 1) + 1 ≡ n = omega (arith, some) in
    let of_view : due_of_view view ≡ rows_due n (heading_of schema) =
    ap (λ (o : Option ℕ). due_at o view.table ++ due_around view.around.items) none ∙ ap (λ (l : List TableProgress). due_of view.table ++ due_around l) around
    ∙ append-nil (due_of view.table) ∙ ap due_of table ∙ due_at_start schema (n - 1) ∙ ap (λ (j : ℕ). rows_due j (heading_of schema)) k in
    let schemas : schema_of_view view ≡ schema =
    ap (λ (l : List TableProgress). outermost l view.table) around ∙ ap (λ (t : TableProgress). t.schema) table in
    let spelled : spelled_of_view view ≡ counted (spelling name schema) ++ field =
    ap (λ (x : List ℕ). counted (spelling x (schema_of_view view)) ++ (flat_map spelled_of view.around.items ++ (spelled_of view.table ++ spelled_length view.content))) named
    ∙ ap (λ (s : List Attribute). counted (spelling name s) ++ (flat_map spelled_of view.around.items ++ (spelled_of view.table ++ spelled_length view.content))) schemas
    ∙ ap (λ (l : List TableProgress). counted (spelling name schema) ++ (flat_map spelled_of l ++ (spelled_of view.table ++ spelled_length view.content))) around
    ∙ ap (λ (o : Option ℕ). counted (spelling name schema) ++ (spelled_of view.table ++ spelled_length o)) none
    ∙ ap (λ (l : List ℕ). counted (spelling name schema) ++ l) (append-nil (spelled_of view.table) ∙ ap spelled_of table ∙ spelled_at_start schema (n - 1) ∙ ap (λ (j : ℕ). little_bytes 4 j) m ∙ is.1) in
    let partial : IsPartialView view = record {
      around = subst (λ (l : List TableProgress). AreAround l view.table) (sym around) tt;
      awaits = subst (λ (o : Option ℕ). IsAwaited o view.table) (sym none) tt;
    } in
    let short = loading.whole in
    let as_long : length (spelling view.name (schema_of_view view)) ≡ length (spelling name schema) = ap (λ (x : List ℕ). length (spelling x (schema_of_view view))) named ∙ ap (λ (s : List Attribute). length (spelling name s)) schemas in
    record {
      leads = leads_as (row_count (heading_of schema) ∷ due) (rows_due n (heading_of schema) ++ due) (due_in views (Rows view left)) field (row_count_leads schema due field n long is)
          (ap (λ (l : List Due). l ++ due) (sym of_view) ∙ ap (λ (x : List ℕ). due_of_view view ++ views_due left (x ∷ names_before views)) (sym named));
      spells = ap (λ (l : List ℕ). before ++ l) spelled ∙ sym (append_assoc before (counted (spelling name schema)) field);
      whole = record {
        whole = (partial, subst (λ (t : TableProgress). length t.row < length t.schema) (sym table) wide, omega (arith, short, as_long));
        follows = record { few = loading.follows.few; new = ap (λ (x : List ℕ). table_of views x) named ∙ loading.follows.new };
        homeless = loading.homeless;
      };
    }

pub row_count_refused : (views : List NamedTable) (name : List ℕ) (schema : List Attribute) (left : ℕ) (field : List ℕ) (place : ℕ) (e : LoadError) → length field ≡ 4 → IsTooMany field max_rows place e
    → Refuses (due_in views (RowCount name schema left)) field place e
row_count_refused views name schema left field place e long wrong =
    subst (λ (x : LoadError). Refuses (due_in views (RowCount name schema left)) field place x) (sym wrong.0)
    (refuses_here (row_count (heading_of schema)) (views_due left (name ∷ names_before views)) field place long (λ next is. let few = is.0 in let many = wrong.1 in omega (arith, few, many)))

-- ---- the rows of a view

pub row_passes : (views : List NamedTable) (left : ℕ) (field : List ℕ) (view mid new : PartialView) → IsLoading views (Rows view left) → Takes view field mid → IsSameView mid new → length new.table.row < length new.table.schema
    → Passes views (Rows view left) field views (Rows new left)
row_passes views left field view mid new loading takes same unfinished =
    let names = names_before views in
    let before = spelled_before (length views + suc left) views in
    let named : new.name ≡ view.name = same.named ∙ takes.named in
    let schemas : schema_of_view new ≡ schema_of_view view = same.same_schema ∙ takes.same_schema in
    let short = loading.whole.2 in
    let as_long : length (spelling new.name (schema_of_view new)) ≡ length (spelling view.name (schema_of_view view)) =
    ap (λ (x : List ℕ). length (spelling x (schema_of_view new))) named ∙ ap (λ (s : List Attribute). length (spelling view.name s)) schemas in
    record {
      leads = leads_as (due_in views (Rows view left)) (due_of_view mid ++ views_due left (view.name ∷ names)) (due_in views (Rows new left)) field
          (leads_before (due_of_view view) (due_of_view mid) (views_due left (view.name ∷ names)) field takes.leads)
          (ap (λ (l : List Due). l ++ views_due left (view.name ∷ names)) (sym same.due) ∙ ap (λ (x : List ℕ). due_of_view new ++ views_due left (x ∷ names)) (sym named));
      spells = ap (λ (l : List ℕ). before ++ l) (same.spells ∙ takes.spells) ∙ sym (append_assoc before (spelled_of_view view) field);
      whole = record {
        whole = (same.whole, unfinished, omega (arith, short, as_long));
        follows = record { few = loading.follows.few; new = ap (λ (x : List ℕ). table_of views x) named ∙ loading.follows.new };
        homeless = loading.homeless;
      };
    }

pub view_passes : (views all : List NamedTable) (left : ℕ) (field : List ℕ) (view mid : PartialView) (name : List ℕ) (t : StoredTable) → IsLoading views (Rows view left) → Takes view field mid
    → IsEnded mid name t.schema t.rows → HasNoHomes t → all ≡ views ++ record { name = name; table = t } ∷ [] → Passes views (Rows view left) field all (Views left)
view_passes views all left field view mid name t loading takes ended none put =
    let v : NamedTable = record { name = name; table = t } in
    let names = names_before views in
    let before = spelled_before (length views + suc left) views in
    let named : name ≡ view.name = ended.named ∙ takes.named in
    let passes : Passes views (Rows view left) field (views ++ v ∷ []) (Views left) = record {
      leads = leads_as (due_in views (Rows view left)) (due_of_view mid ++ views_due left (view.name ∷ names)) (views_due left (names_before (views ++ v ∷ []))) field
          (leads_before (due_of_view view) (due_of_view mid) (views_due left (view.name ∷ names)) field takes.leads)
          (ap (λ (l : List Due). l ++ views_due left (view.name ∷ names)) ended.due ∙ ap (λ (x : List ℕ). views_due left (x ∷ names)) (sym named) ∙ ap (λ (l : List (List ℕ)). views_due left l) (sym (names_before-push views v)));
      spells = spelled_before-push views v left ∙ ap (λ (l : List ℕ). before ++ l) (ended.spells ∙ takes.spells) ∙ sym (append_assoc before (spelled_of_view view) field);
      whole = loading_push views name t left loading.homeless loading.follows.few none;
    } in
    subst (λ (l : List NamedTable). Passes views (Rows view left) field l (Views left)) (sym put) passes

pub row_refused : (views : List NamedTable) (left : ℕ) (field : List ℕ) (view : PartialView) (place : ℕ) (e : LoadError) → Refuses (due_of_view view) field place e → Refuses (due_in views (Rows view left)) field place e
row_refused views left field view place e refused = refuses_before (due_of_view view) (views_due left (view.name ∷ names_before views)) field place e refused

-- its next field
next_len_at : (o : Option ℕ) (t : TableProgress) (around due : List Due) (n : ℕ) → length t.row < length t.schema → IsNextLen ((due_at o t ++ around) ++ due) n → n ≡ first_len (due_at o t)
next_len_at None t around due n unfinished is =
    let e = due_next t unfinished in
    (subst (λ (l : List Due). IsNextLen ((l ++ around) ++ due) n) e is).0 ∙ sym (ap first_len e)
next_len_at (Some len) t around due n unfinished is = is.0

pub next_len_view : (views : List NamedTable) (left n : ℕ) (view : PartialView) → IsLoading views (Rows view left) → IsNextLen (due_in views (Rows view left)) n → n ≡ next_len view
next_len_view views left n view loading is = next_len_at view.content view.table (due_around view.around.items) (views_due left (view.name ∷ names_before views)) n loading.whole.1 is
