-- What is due of a table under way, and how it is spelled, as its values and rows come.
use Rattle.std.proofs.Common.{◌≡◌, ℕ, suc, ◌+◌, ◌≤◌, ◌<◌, slice_index_or, List, [], ◌∷◌, ◌++◌, length, drop, refl, sym, ◌∙◌, ap, arith, length-append, add-one, drop-cons}
use Rattle.std.proofs.lemmas.List.{append-nil, append_assoc, drop_all}
use Rattle.std.proofs.lemmas.Grind.{flat_map-append}
use Rattle.std.specs.List.{flat_map}
use Rattle.byteorder.specs.Endian.{little_bytes}
use Rattle.mk_value.specs.Data.{Datum, relation, relation_of}
use Rattle.mk_value.specs.Heading.{Attribute, Domain, heading_of}
use Rattle.mk_value.specs.Tables.{domain_at}
use Rattle.stream_codec.specs.Fields.{row_due, rows_due, value_due}
use Rattle.stream_codec.specs.Progress.{TableProgress, due_behind, due_from, due_of, next_domain, progress_at_start, spelled_of, spelled_row, with_next, with_row_ended}
use Rattle.stream_codec.specs.Stream.{spelled_value}
use Rattle.stream_codec.proofs.ValueFields.{spelled_rows_are}

abbrev no_attribute : Attribute
no_attribute = record { name = []; domain = Domain.integer }

-- what is due at a property
pub due_from-at : (t : TableProgress) (k : ℕ) → k < length t.schema → due_from k t ≡ value_due (domain_at t.schema k) ∷ due_from (k + 1) t
due_from-at t k below =
    let split : drop k t.schema ≡ get_at ∷ drop (k + 1) t.schema = rw add-one (drop-cons t.schema k no_attribute below) in
    ap (λ (s : List Attribute). row_due (heading_of s) ++ rows_due t.left (heading_of t.schema)) split
  where
    get_at : Attribute
    get_at = slice_index_or t.schema k no_attribute

pub due_next : (t : TableProgress) → length t.row < length t.schema → due_of t ≡ value_due (next_domain t) ∷ due_behind t
due_next t below = due_from-at t (length t.row) below

-- a value more
pub due_with_next : (t : TableProgress) (d : Datum) → due_of (with_next d t) ≡ due_behind t
due_with_next t d = ap (λ (k : ℕ). due_from k t) (length-append t.row (d ∷ []))

pub spelled_with_next : (t : TableProgress) (d : Datum) → spelled_of (with_next d t) ≡ spelled_of t ++ spelled_value d
spelled_with_next t d =
    let count = little_bytes 4 (length t.rows + 1 + t.left) in
    let before = flat_map spelled_row t.rows in
    ap (λ (l : List ℕ). count ++ (before ++ l)) (flat_map-append spelled_value t.row (d ∷ []) ∙ ap (λ (l : List ℕ). spelled_row t.row ++ l) (append-nil (spelled_value d)))
    ∙ ap (λ (l : List ℕ). count ++ l) (sym (append_assoc before (spelled_row t.row) (spelled_value d)))
    ∙ sym (append_assoc count (before ++ spelled_row t.row) (spelled_value d))

-- a row that is whole
pub due_whole_row : (t : TableProgress) → length t.schema ≤ length t.row → due_of t ≡ rows_due t.left (heading_of t.schema)
due_whole_row t whole = ap (λ (s : List Attribute). row_due (heading_of s) ++ rows_due t.left (heading_of t.schema)) (drop_all (length t.row) t.schema whole)

pub due_row_ended : (t : TableProgress) (left : ℕ) → length t.schema ≤ length t.row → t.left ≡ suc left → due_of (with_row_ended left t) ≡ due_of t
due_row_ended t left whole more = sym (due_whole_row t whole ∙ ap (λ (n : ℕ). rows_due n (heading_of t.schema)) more)

pub spelled_row_ended : (t : TableProgress) (left : ℕ) → t.left ≡ suc left → spelled_of (with_row_ended left t) ≡ spelled_of t
spelled_row_ended t left more =
    let long = length-append t.rows (t.row ∷ []) in
    let counts : length (t.rows ++ t.row ∷ []) + 1 + left ≡ length t.rows + 1 + t.left = omega (arith, long, more) in
    ap (λ (n : ℕ). little_bytes 4 n ++ (flat_map spelled_row (t.rows ++ t.row ∷ []) ++ [])) counts
    ∙ ap (λ (l : List ℕ). little_bytes 4 (length t.rows + 1 + t.left) ++ l)
    (append-nil (flat_map spelled_row (t.rows ++ t.row ∷ [])) ∙ flat_map-append spelled_row t.rows (t.row ∷ []) ∙ ap (λ (l : List ℕ). flat_map spelled_row t.rows ++ l) (append-nil (spelled_row t.row)))

-- the last row
pub due_all_rows : (t : TableProgress) → length t.schema ≤ length t.row → t.left ≡ 0 → due_of t ≡ []
due_all_rows t whole none = due_whole_row t whole ∙ ap (λ (n : ℕ). rows_due n (heading_of t.schema)) none

pub spelled_all_rows : (t : TableProgress) → t.left ≡ 0 → spelled_value (relation (relation_of (t.rows ++ t.row ∷ []))) ≡ spelled_of t
spelled_all_rows t none =
    let rows = t.rows ++ t.row ∷ [] in
    let long = length-append t.rows (t.row ∷ []) in
    spelled_rows_are rows
    ∙ ap (λ (n : ℕ). little_bytes 4 n ++ flat_map spelled_row rows) (let e : length rows ≡ length t.rows + 1 + t.left = omega (arith, long, none) in e)
    ∙ ap (λ (l : List ℕ). little_bytes 4 (length t.rows + 1 + t.left) ++ l)
    (flat_map-append spelled_row t.rows (t.row ∷ []) ∙ ap (λ (l : List ℕ). flat_map spelled_row t.rows ++ l) (append-nil (spelled_row t.row)))

-- no row
pub due_at_start : (schema : List Attribute) (left : ℕ) → due_of (progress_at_start schema left) ≡ rows_due (suc left) (heading_of schema)
due_at_start schema left = refl

pub spelled_at_start : (schema : List Attribute) (left : ℕ) → spelled_of (progress_at_start schema left) ≡ little_bytes 4 (left + 1)
spelled_at_start schema left =
    append-nil (little_bytes 4 (0 + 1 + left)) ∙ ap (λ (n : ℕ). little_bytes 4 n) (let e : 0 + 1 + left ≡ left + 1 = omega arith in e)
