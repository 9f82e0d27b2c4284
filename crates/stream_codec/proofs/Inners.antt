-- Rows that are coming, with the tables inside them.
use Rattle.std.proofs.Common.{◌≡◌, ℕ, suc, ◌-◌, ◌≤◌, ◌<◌, ⊎_elim, List, [], ◌∷◌, ◌++◌, length, get_or, set, pos, All, refl, sym, ◌∙◌, ap, subst, arith, length-append}
use Rattle.std.proofs.lemmas.Bool.{cases_lt}
use Rattle.std.proofs.lemmas.List.{get_or_append_left, get_or-append_right, length-set, set-append_left}
use Rattle.std.proofs.Math.Seq.{set-append_seam}
use Rattle.std.proofs.Math.Dec.{leb}
use Rattle.std.specs.Bool.{IsTrue}
use Rattle.std.proofs.lemmas.Grind.{common_steps}
use Rattle.std.proofs.lemmas.List.Elements.{All-head, All-push, All-tail, All-weaker}
use Rattle.mk_value.specs.Data.{Datum, integer, IsOf, IsRowOf, relation, relation_of}
use Rattle.mk_value.specs.Heading.{Attribute, Domain, Heading, heading_of}
use Rattle.mk_value.proofs.Walks.{same_default}
use Rattle.tables.specs.Tables.{HasNoHomes, StoredTable}
use Rattle.mk_value.specs.Tables.{domain_at}
use Rattle.stream_codec.specs.Inners.{IsInner, IsPartialTable, with_inners}
use Rattle.stream_codec.specs.Progress.{IsFront, next_domain, TableProgress, with_next}
use Rattle.stream_codec.specs.declared.inner.Inner.{Inner}

abbrev IsBefore : List Datum → Inner → Type 0
IsBefore row i = i.col < length row

abbrev pub rows_inside : Inner → Datum
rows_inside i = relation (relation_of i.table.rows)

pub length-with_inners : (is : List Inner) (row : List Datum) → length (with_inners is row) ≡ length row
length-with_inners [] row = refl
length-with_inners (i ∷ is) row = length-with_inners is (set row i.col (rows_inside i)) ∙ length-set row i.col (rows_inside i)

-- a value more, and a table more
pub with_inners-value : (is : List Inner) (row : List Datum) (d : Datum) → All (IsBefore row) is → with_inners is (row ++ d ∷ []) ≡ with_inners is row ++ d ∷ []
with_inners-value [] row d before = refl
with_inners-value (i ∷ is) row d before =
    let long = length-set row i.col (rows_inside i) in
    ap (λ (r : List Datum). with_inners is r) (set-append_left row (d ∷ []) i.col (rows_inside i) (All-head (IsBefore row) i is before))
    ∙ with_inners-value is (set row i.col (rows_inside i)) d (All-weaker (IsBefore row) (IsBefore (set row i.col (rows_inside i))) (λ j (h : j.col < length row). omega (arith, long, h)) is (All-tail (IsBefore row) i is before))

pub with_inners-push : (is : List Inner) (i : Inner) (row : List Datum) → with_inners (is ++ i ∷ []) row ≡ set (with_inners is row) i.col (rows_inside i)
with_inners-push [] i row = refl
with_inners-push (j ∷ is) i row = with_inners-push is i (set row j.col (rows_inside j))

pub with_inners-table : (is : List Inner) (i : Inner) (row : List Datum) (d : Datum) → All (IsBefore row) is → i.col ≡ length row → with_inners (is ++ i ∷ []) (row ++ d ∷ []) ≡ with_inners is row ++ rows_inside i ∷ []
with_inners-table is i row d before last =
    with_inners-push is i (row ++ d ∷ [])
    ∙ ap (λ (r : List Datum). set r i.col (rows_inside i)) (with_inners-value is row d before)
    ∙ ap (λ (k : ℕ). set (with_inners is row ++ d ∷ []) k (rows_inside i)) (last ∙ sym (length-with_inners is row)) ∙ set-append_seam (with_inners is row) d [] (rows_inside i)

-- the first values of a row
abbrev value_at : List Datum → ℕ → Datum
value_at row k = get_or row k (integer (pos 0))

pub front_push : (row : List Datum) (schema : List Attribute) (d : Datum) → IsFront row schema → length row < length schema → IsOf d (domain_at schema (length row)) → IsFront (row ++ d ∷ []) schema
front_push row schema d front more fits =
    let long = length-append row (d ∷ []) in
    record {
      within = omega (arith, long, more);
      fit = λ k below. ⊎_elim
          (λ (before : k < length row). subst (λ (x : Datum). IsOf x (domain_at schema k)) (sym (get_or_append_left row (d ∷ []) (integer (pos 0)) k before)) (front.fit k before))
          (λ (past : length row ≤ k).
          let same : k ≡ length row = omega (arith, long, below, past) in
          let here : value_at (row ++ d ∷ []) k ≡ d =
          get_or-append_right row (d ∷ []) (length row) k (integer (pos 0)) refl past ∙ ap (λ (j : ℕ). get_or (d ∷ []) j (integer (pos 0))) (let z : k - length row ≡ 0 = omega (arith, same) in z) in
          subst (λ (x : Datum). IsOf x (domain_at schema k)) (sym here) (subst (λ (j : ℕ). IsOf d (domain_at schema j)) (sym same) fits))
          (cases_lt k (length row));
    }

pub front_row : (row : List Datum) (schema : List Attribute) → IsFront row schema → length schema ≤ length row → IsRowOf row schema
front_row [] [] front whole = tt
front_row [] (a ∷ schema) front whole = absurd (omega (arith, whole))
front_row (d ∷ row) [] front whole = absurd (let within = front.within in omega (arith, within))
front_row (d ∷ row) (a ∷ schema) front whole =
    let within = front.within in
    (front.fit 0 (omega arith), front_row row schema (record { within = omega (arith, within); fit = λ k below. front.fit (suc k) (omega (arith, below)) }) (omega (arith, whole)))

-- what is kept of a table under way, after a value and after a table inside its row
pub partial_value : (table : StoredTable) (row new : List Datum) (inners : List Inner) (left : ℕ) (d : Datum) → IsPartialTable table row inners left → new ≡ row ++ d ∷ []
    → length row < length table.schema → IsOf d (domain_at table.schema (length row)) → IsPartialTable table new inners left
partial_value table row new inners left d kept same more fits =
    let long = ap length same ∙ length-append row (d ∷ []) in
    record {
      homeless = kept.homeless;
      few = kept.few;
      front = subst (λ (r : List Datum). IsFront r table.schema) (sym same) (front_push row table.schema d kept.front more fits);
      inside = kept.inside;
      before = All-weaker (IsBefore row) (IsBefore new) (λ i (h : i.col < length row). omega (arith, long, h)) inners kept.before;
    }

pub partial_table : (table : StoredTable) (row new : List Datum) (inners more : List Inner) (i : Inner) (left : ℕ) (d : Datum) → IsPartialTable table row inners left → new ≡ row ++ d ∷ [] → more ≡ inners ++ i ∷ []
    → length row < length table.schema → IsOf d (domain_at table.schema (length row)) → i.col ≡ length row → domain_at table.schema (length row) ≡ Domain.relation (heading_of i.table.schema) → HasNoHomes i.table → IsPartialTable table new more left
partial_table table row new inners more i left d kept same pushed unfinished fits place view homeless =
    let value = partial_value table row new inners left d kept same unfinished fits in
    let long = ap length same ∙ length-append row (d ∷ []) in
    let inner : IsInner table.schema i = record {
      within = omega (arith, place, unfinished);
      view = ap (λ (k : ℕ). domain_at table.schema k) place ∙ view;
      homeless = homeless;
    } in
    record {
      homeless = value.homeless;
      few = value.few;
      front = value.front;
      inside = subst (λ (is : List Inner). All (IsInner table.schema) is) (sym pushed) (All-push (IsInner table.schema) inners i kept.inside inner);
      before = subst (λ (is : List Inner). All (IsBefore new) is) (sym pushed) (All-push (IsBefore new) inners i value.before (omega (arith, place, long)));
    }

-- how it is seen
abbrev pub seen : StoredTable → List Datum → List Inner → ℕ → TableProgress
seen table row inners left = record { schema = table.schema; rows = table.rows; row = with_inners inners row; left = left }

module _ (table : StoredTable) (row : List Datum) (inners : List Inner) (left : ℕ) (v : TableProgress) (is : seen table row inners left ≡ v) where
  pub seen_length : length row ≡ length v.row
  seen_length = sym (length-with_inners inners row) ∙ ap (λ (t : TableProgress). length t.row) is

  pub seen_schema : table.schema ≡ v.schema
  seen_schema = ap (λ (t : TableProgress). t.schema) is

  pub seen_domain : domain_at table.schema (length row) ≡ next_domain v
  seen_domain = ap (λ (k : ℕ). domain_at table.schema k) (sym (length-with_inners inners row)) ∙ ap (λ (t : TableProgress). next_domain t) is

  pub seen_more : length v.row < length v.schema → length row < length table.schema
  seen_more unfinished = let a = seen_length in let b = ap length seen_schema in omega (arith, a, b, unfinished)

  pub seen_whole : length v.schema ≤ length v.row → length table.schema ≤ length row
  seen_whole whole = let a = seen_length in let b = ap length seen_schema in omega (arith, a, b, whole)

  pub seen_value : (new : List Datum) (d : Datum) → IsPartialTable table row inners left → new ≡ row ++ d ∷ [] → seen table new inners left ≡ with_next d v
  seen_value new d kept same =
      let with_row : List Datum → TableProgress = λ r. record { schema = table.schema; rows = table.rows; row = r; left = left } in
      ap with_row (ap (λ (r : List Datum). with_inners inners r) same ∙ with_inners-value inners row d kept.before) ∙ ap (λ (t : TableProgress). with_next d t) is

  pub seen_table : (new : List Datum) (more : List Inner) (i : Inner) (d : Datum) → IsPartialTable table row inners left → new ≡ row ++ d ∷ [] → more ≡ inners ++ i ∷ [] → i.col ≡ length row
      → seen table new more left ≡ with_next (rows_inside i) v
  seen_table new more i d kept same pushed place =
      let with_row : List Datum → TableProgress = λ r. record { schema = table.schema; rows = table.rows; row = r; left = left } in
      ap with_row (ap (λ (r : List Datum). with_inners more r) same ∙ ap (λ (l : List Inner). with_inners l (row ++ d ∷ [])) pushed ∙ with_inners-table inners i row d kept.before place)
      ∙ ap (λ (t : TableProgress). with_next (rows_inside i) t) is

-- a property by its place
pub domain_read : (schema : List Attribute) (k : ℕ) (a : Attribute) → k < length schema → a ≡ get_or schema k a → a.domain ≡ domain_at schema k
domain_read schema k a below is = ap (λ (b : Attribute). b.domain) (is ∙ same_default schema k a (record { name = []; domain = Domain.integer }) below)

-- a test of two lengths
pub le_test : (a b m n : ℕ) → a ≡ m → b ≡ n → (IsTrue (leb a b) → m ≤ n) × (m ≤ n → IsTrue (leb a b))
le_test a b m n p q = grind (arith, common_steps)

-- an empty view in the place of a table
pub no_rows_inside : (d : Domain) (h : Heading) (rows : List (List Datum)) → d ≡ Domain.relation h → rows ≡ [] → IsOf (relation (relation_of rows)) d
no_rows_inside d h rows view none =
    subst (λ (e : Domain). IsOf (relation (relation_of rows)) e) (sym view) (subst (λ (r : List (List Datum)). IsOf (relation (relation_of r)) (Domain.relation h)) (sym none) (omega arith, tt))
