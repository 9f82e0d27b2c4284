-- The cells of two tables beside one another.
use Rattle.std.proofs.Common.{◌≡◌, ℕ, zero, suc, ◌-◌, ◌<◌, ◌≤◌, pos, List, [], ◌∷◌, ◌++◌, length, get_or, refl, ap, sym, ◌∙◌, arith}
use Rattle.std.proofs.lemmas.List.{length-map, length-append, get_or-map, get_or_append_left, get_or-append_right}
use Rattle.mk_value.specs.Heading.{Domain, Attribute}
use Rattle.mk_value.specs.Data.{Datum, integer, cell}
use Rattle.mk_value.specs.Tables.{column_numbers, domain_at}
use Rattle.mk_value.proofs.Relations.{row_fits_length}
use Rattle.relations.specs.Columns.{properties_at, values_at}
use Rattle.derived.specs.Joining.{zipped}
use Rattle.derived.specs.Layers.{Layered}
use Rattle.derived.specs.Nodes.{IsBeside, IsWhole}
use Rattle.derived.proofs.Fills.{same_numbers}

pub zipped_long : {X Y Z : Type 0} (f : X → Y → Z) (xs : List X) (ys : List Y) → length ys ≡ length xs → length (zipped f xs ys) ≡ length xs
zipped_long f [] ys e = refl
zipped_long f (x ∷ xs) [] e = absurd (omega arith)
zipped_long f (x ∷ xs) (y ∷ ys) e = let rest = zipped_long f xs ys (omega arith) in omega (arith, rest)

pub zipped_at : {X Y Z : Type 0} (f : X → Y → Z) (xs : List X) (ys : List Y) (i : ℕ) (c : Z) (d : X) (e : Y) → i < length xs → i < length ys → get_or (zipped f xs ys) i c ≡ f (get_or xs i d) (get_or ys i e)
zipped_at f [] ys i c d e p q = absurd (omega arith)
zipped_at f (x ∷ xs) [] i c d e p q = absurd (omega arith)
zipped_at f (x ∷ xs) (y ∷ ys) zero c d e p q = refl
zipped_at f (x ∷ xs) (y ∷ ys) (suc i) c d e p q = zipped_at f xs ys i c d e (omega arith) (omega arith)

-- Of two tables beside one another, v is what is seen, and d is the table that is read.
module _ (first second v : Layered) (columns : List ℕ) (properties : List Attribute) (l : ℕ)
    (seen : record { schema = properties; rows = zipped (λ one two. one ++ values_at columns two) first.rows second.rows; layers = l } ≡ v)
    (whole : IsWhole (record { schema = properties; rows = zipped (λ one two. one ++ values_at columns two) first.rows second.rows; layers = l }))
    (h : IsBeside first second columns properties) (width : ℕ) (e : width ≡ length properties - length columns) where
  shown : length (properties_at second.schema columns) ≡ length columns
  shown = length-map columns (λ j. get_or second.schema j (record { name = []; domain = Domain.integer }))

  wide : width ≡ length first.schema
  wide =
      let n = ap length h.schemas in
      let m = length-append first.schema (properties_at second.schema columns) in
      let k = shown in
      omega arith

  pub long : length v.rows ≡ length first.rows
  long = ap (λ (t : Layered). length t.rows) (sym seen) ∙ zipped_long (λ one two. one ++ values_at columns two) first.rows second.rows h.as_many

  row_at : (i : ℕ) → i < length v.rows → get_or v.rows i [] ≡ get_or first.rows i [] ++ values_at columns (get_or second.rows i [])
  row_at i p =
      let n = long in
      let m = h.as_many in
      ap (λ (t : Layered). get_or t.rows i []) (sym seen) ∙ zipped_at (λ one two. one ++ values_at columns two) first.rows second.rows i [] [] [] (omega arith) (omega arith)

  own : (i : ℕ) → i < length v.rows → length (get_or first.rows i []) ≡ width
  own i p =
      let z = zipped (λ one two. one ++ values_at columns two) first.rows second.rows in
      let n = ap (λ (t : Layered). length t.rows) seen in
      let q : i < length z = omega arith in
      let fits = row_fits_length (get_or z i []) properties (whole.rows.whole i [] q) in
      let row = ap length (ap (λ (t : Layered). get_or t.rows i []) seen ∙ row_at i p) in
      let m = length-append (get_or first.rows i []) (values_at columns (get_or second.rows i [])) in
      let k = length-map columns (λ j. get_or (get_or second.rows i []) j (integer (pos 0))) in
      let all = ap length h.schemas in
      let both = length-append first.schema (properties_at second.schema columns) in
      let s = shown in
      omega arith

  module _ (d : Layered) (same : d ≡ first) where
    pub first_at : (row col : ℕ) → row < length v.rows → col < width → (row < length d.rows) × (col < length d.schema)
    first_at row col p q =
        let r = ap (λ (t : Layered). length t.rows) same in
        let s = ap (λ (t : Layered). length t.schema) same in
        let n = long in
        let w = wide in
        (omega arith, omega arith)

    pub first_place : (col : ℕ) → col < width → (col < length d.schema) × (length d.rows ≡ length v.rows)
    first_place col q =
        let r = ap (λ (t : Layered). length t.rows) same in
        let s = ap (λ (t : Layered). length t.schema) same in
        let n = long in
        let w = wide in
        (omega arith, omega arith)

    pub first_cell : (row col : ℕ) → row < length v.rows → col < width → cell v.rows row col ≡ cell d.rows row col
    first_cell row col p q =
        let n = own row p in
        ap (λ (r : List Datum). get_or r col (integer (pos 0))) (row_at row p)
        ∙ get_or_append_left (get_or first.rows row []) (values_at columns (get_or second.rows row [])) (integer (pos 0)) col (omega arith)
        ∙ ap (λ (t : Layered). cell t.rows row col) (sym same)

    pub first_domain : (col : ℕ) → col < width → domain_at v.schema col ≡ domain_at d.schema col
    first_domain col q =
        let w = wide in
        ap (λ (t : Layered). domain_at t.schema col) (sym seen) ∙ ap (λ (s : List Attribute). domain_at s col) h.schemas
        ∙ ap (λ (a : Attribute). a.domain) (get_or_append_left first.schema (properties_at second.schema columns) (record { name = []; domain = Domain.integer }) col (omega arith))
        ∙ ap (λ (t : Layered). domain_at t.schema col) (sym same)

    pub first_numbers : (col : ℕ) → col < width → column_numbers v.rows col ≡ column_numbers d.rows col
    first_numbers col q = same_numbers v.rows d.rows col col (long ∙ ap (λ (t : Layered). length t.rows) (sym same)) (λ k p. first_cell k col p q)

  module _ (d : Layered) (read : List ℕ) (same : d ≡ second) (as_read : read ≡ columns) where
    behind : (col : ℕ) → col < length v.schema → width ≤ col → col - width < length columns
    behind col p q =
        let s = ap (λ (t : Layered). length t.schema) seen in
        let all = ap length h.schemas in
        let both = length-append first.schema (properties_at second.schema columns) in
        let k = shown in
        let w = wide in
        omega arith

    pub second_at : (row col : ℕ) → row < length v.rows → col < length v.schema → width ≤ col → (row < length d.rows) × (get_or read (col - width) 0 < length d.schema)
    second_at row col p q r =
        let n = long in
        let m = h.as_many in
        let a = ap (λ (t : Layered). length t.rows) same in
        let b = ap (λ (t : Layered). length t.schema) same in
        let k = h.in_range (col - width) 0 (behind col q r) in
        let f = ap (λ js. get_or js (col - width) 0) as_read in
        (omega arith, omega arith)

    pub second_place : (col : ℕ) → col < length v.schema → width ≤ col → (get_or read (col - width) 0 < length d.schema) × (length d.rows ≡ length v.rows)
    second_place col q r =
        let n = long in
        let m = h.as_many in
        let a = ap (λ (t : Layered). length t.rows) same in
        let b = ap (λ (t : Layered). length t.schema) same in
        let k = h.in_range (col - width) 0 (behind col q r) in
        let f = ap (λ js. get_or js (col - width) 0) as_read in
        (omega arith, omega arith)

    pub second_cell : (row col : ℕ) → row < length v.rows → col < length v.schema → width ≤ col → cell v.rows row col ≡ cell d.rows row (get_or read (col - width) 0)
    second_cell row col p q r =
        ap (λ (x : List Datum). get_or x col (integer (pos 0))) (row_at row p)
        ∙ get_or-append_right (get_or first.rows row []) (values_at columns (get_or second.rows row [])) width col (integer (pos 0)) (own row p) r
        ∙ get_or-map (λ j. get_or (get_or second.rows row []) j (integer (pos 0))) columns (col - width) 0 (integer (pos 0)) (behind col q r)
        ∙ ap (λ js. cell second.rows row (get_or js (col - width) 0)) (sym as_read)
        ∙ ap (λ (t : Layered). cell t.rows row (get_or read (col - width) 0)) (sym same)

    pub second_domain : (col : ℕ) → col < length v.schema → width ≤ col → domain_at v.schema col ≡ domain_at d.schema (get_or read (col - width) 0)
    second_domain col q r =
        let none : Attribute = record { name = []; domain = Domain.integer } in
        ap (λ (t : Layered). domain_at t.schema col) (sym seen) ∙ ap (λ (s : List Attribute). domain_at s col) h.schemas
        ∙ ap (λ (a : Attribute). a.domain) (get_or-append_right first.schema (properties_at second.schema columns) width col none (sym wide) r
        ∙ get_or-map (λ j. get_or second.schema j none) columns (col - width) 0 none (behind col q r))
        ∙ ap (λ js. domain_at second.schema (get_or js (col - width) 0)) (sym as_read)
        ∙ ap (λ (t : Layered). domain_at t.schema (get_or read (col - width) 0)) (sym same)

    pub second_numbers : (col : ℕ) → col < length v.schema → width ≤ col → column_numbers v.rows col ≡ column_numbers d.rows (get_or read (col - width) 0)
    second_numbers col q r =
        same_numbers v.rows d.rows col (get_or read (col - width) 0) (long ∙ sym h.as_many ∙ ap (λ (t : Layered). length t.rows) (sym same)) (λ k p. second_cell k col p q r)
