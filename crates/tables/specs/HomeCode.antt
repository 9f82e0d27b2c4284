-- Homes are coded as trees, so that a proof can tell two of them apart.
use Rattle.std.specs.Prelude.{◌≡◌, ℕ, zero, suc, List, [], ◌∷◌, refl}
use Rattle.std.specs.Coded.{Coded, code_by, coded_list}
use Rattle.std.proofs.Common.{ap, ◌∙◌}
use Rattle.mk_value.specs.declared.span.Span.{Span}
use Rattle.mk_value.specs.Tree.{Tree, leaf, node, tree_code}
use Rattle.tables.specs.Homes.{Home, no_home, numbers, strings, tables, ColumnHomes, no_columns, column, RowHomes, no_rows, row}

abbrev span_numbers : List Span → List ℕ
span_numbers [] = []
span_numbers (s ∷ rest) = s.place ∷ s.len ∷ span_numbers rest

abbrev number_spans : List ℕ → List Span
number_spans [] = []
number_spans (place ∷ []) = []
number_spans (place ∷ len ∷ rest) = record { place = place; len = len } ∷ number_spans rest

number_spans-span_numbers : (spans : List Span) → number_spans (span_numbers spans) ≡ spans
number_spans-span_numbers [] = refl
number_spans-span_numbers (s ∷ rest) = ap (λ ss. s ∷ ss) (number_spans-span_numbers rest)

abbrev mutual
  pub home_tree : Home → Tree
  home_tree no_home = leaf []
  home_tree (numbers s) = leaf (0 ∷ s.place ∷ s.len ∷ [])
  home_tree (strings sizes short memos) = leaf (1 ∷ sizes.place ∷ sizes.len ∷ short.place ∷ short.len ∷ span_numbers memos)
  home_tree (tables rows) = node (leaf []) (rows_tree rows)

  pub columns_tree : ColumnHomes → Tree
  columns_tree no_columns = leaf []
  columns_tree (column h rest) = node (home_tree h) (columns_tree rest)

  pub rows_tree : RowHomes → Tree
  rows_tree no_rows = leaf []
  rows_tree (row hs rest) = node (columns_tree hs) (rows_tree rest)

abbrev leaf_home : List ℕ → Home
leaf_home (zero ∷ place ∷ len ∷ _) = numbers (record { place = place; len = len })
leaf_home (suc _ ∷ a ∷ b ∷ c ∷ d ∷ memos) = strings (record { place = a; len = b }) (record { place = c; len = d }) (number_spans memos)
leaf_home _ = no_home

abbrev mutual
  pub tree_home : Tree → Home
  tree_home (leaf ns) = leaf_home ns
  tree_home (node _ rows) = tables (tree_rows rows)

  pub tree_columns : Tree → ColumnHomes
  tree_columns (leaf _) = no_columns
  tree_columns (node h rest) = column (tree_home h) (tree_columns rest)

  pub tree_rows : Tree → RowHomes
  tree_rows (leaf _) = no_rows
  tree_rows (node hs rest) = row (tree_columns hs) (tree_rows rest)

mutual
  pub tree_home-tree : (h : Home) → tree_home (home_tree h) ≡ h
  tree_home-tree no_home = refl
  tree_home-tree (numbers s) = refl
  tree_home-tree (strings sizes short memos) = ap (λ ms. strings sizes short ms) (number_spans-span_numbers memos)
  tree_home-tree (tables rows) = ap tables (tree_rows-tree rows)

  pub tree_columns-tree : (hs : ColumnHomes) → tree_columns (columns_tree hs) ≡ hs
  tree_columns-tree no_columns = refl
  tree_columns-tree (column h rest) =
      ap (λ g. column g (tree_columns (columns_tree rest))) (tree_home-tree h) ∙ ap (λ r. column h r) (tree_columns-tree rest)

  pub tree_rows-tree : (rows : RowHomes) → tree_rows (rows_tree rows) ≡ rows
  tree_rows-tree no_rows = refl
  tree_rows-tree (row hs rest) =
      ap (λ c. row c (tree_rows (rows_tree rest))) (tree_columns-tree hs) ∙ ap (λ r. row hs r) (tree_rows-tree rest)

abbrev pub home_code : Coded Home
home_code = code_by Tree tree_code home_tree tree_home tree_home-tree

abbrev pub homes_code : Coded (List Home)
homes_code = coded_list home_code
