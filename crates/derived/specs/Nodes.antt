-- What a derived table is made of: positions and columns, which no contract speaks of.
use Rattle.std.specs.Prelude.{◌≡◌, ◌<◌, ◌+◌, ℕ, List, ◌++◌, length, map, All}
use Rattle.mk_value.specs.Heading.{Attribute, IsHeading}
use Rattle.mk_value.specs.Data.{Datum, AreRowsOf}
use Rattle.relations.specs.Columns.{AreColumns, properties_at, values_at}
use Rattle.relations.specs.Rows.{rows_at}
use Rattle.derived.specs.Joining.{zipped}
use Rattle.derived.specs.Layers.{Layered}
use Rattle.derived.specs.declared.derived.Node.{Node}
use Rattle.derived.specs.declared.derived.Node.TheVariants.{Leaf, Held, Rows, Columns, Stacked, Beside}

-- the table of a node, and the layers below it
abbrev pub layered : {T : Type 0} → (T → List Attribute) → (T → List (List Datum)) → Node T → Layered
layered schema rows (Leaf t) = record { schema = schema t; rows = rows t; layers = 0 }
layered schema rows (Held h) = record { schema = h.schema; rows = h.rows; layers = 0 }
layered schema rows (Rows base positions) =
    record { schema = base.value.schema; rows = rows_at base.value.rows positions; layers = base.value.layers + 1 }
layered schema rows (Columns base columns properties) =
    record { schema = properties; rows = map (values_at columns) base.value.rows; layers = base.value.layers + 1 }
layered schema rows (Stacked first size second) =
    record { schema = first.value.schema; rows = first.value.rows ++ second.value.rows; layers = first.value.layers + second.value.layers + 1 }
layered schema rows (Beside first second columns properties) =
    record {
      schema = properties;
      rows = zipped (λ one two. one ++ values_at columns two) first.value.rows second.value.rows;
      layers = first.value.layers + second.value.layers + 1;
    }

-- a whole table
pub record IsWhole (t : Layered) : Type 0 where
  pub schema : IsHeading t.schema
  pub rows : AreRowsOf t.rows t.schema

-- one table may stand under another, which has so many rows
pub record IsStack (first : Layered) (size : ℕ) (second : Layered) : Type 0 where
  pub same : second.schema ≡ first.schema
  pub above : size ≡ length first.rows

-- one table may stand beside another, of which these columns are shown
pub record IsBeside (first second : Layered) (columns : List ℕ) (properties : List Attribute) : Type 0 where
  pub as_many : length second.rows ≡ length first.rows
  pub in_range : All (λ j. j < length second.schema) columns
  pub schemas : properties ≡ first.schema ++ properties_at second.schema columns

-- what a node keeps besides: positions and columns are in range, kinds agree, and two tables go together
abbrev pub IsNode : {T : Type 0} → Node T → Type 0
IsNode (Leaf t) = Unit {0}
IsNode (Held h) = Unit {0}
IsNode (Rows base positions) = All (λ i. i < length base.value.rows) positions
IsNode (Columns base columns properties) = AreColumns base.value.schema columns properties
IsNode (Stacked first size second) = IsStack first.value size second.value
IsNode (Beside first second columns properties) = IsBeside first.value second.value columns properties

-- a whole node
pub record IsWholeNode {T : Type 0} (schema : T → List Attribute) (rows : T → List (List Datum)) (node : Node T) : Type 0 where
  pub whole : IsWhole (layered schema rows node)
  pub inside : IsNode node
