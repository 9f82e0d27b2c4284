-- Values and rows are coded as trees, so that a proof can tell two of them apart.
use Rattle.std.specs.Prelude.{◌≡◌, ℕ, zero, suc, pos, negsuc, List, [], ◌∷◌, refl}
use Rattle.std.specs.Coded.{Coded, code_by, coded_list}
use Rattle.std.proofs.Common.{ap, ◌∙◌}
use Rattle.mk_value.specs.Tree.{Tree, leaf, node, tree_code}
use Rattle.mk_value.specs.Data.{Datum, integer, long, text, bytes, relation, Tuple, no_values, value, Relation, no_tuples, tuple}

abbrev mutual
  pub datum_tree : Datum → Tree
  datum_tree (integer (pos n)) = leaf (0 ∷ n ∷ [])
  datum_tree (integer (negsuc n)) = leaf (1 ∷ n ∷ [])
  datum_tree (long (pos n)) = leaf (2 ∷ n ∷ [])
  datum_tree (long (negsuc n)) = leaf (3 ∷ n ∷ [])
  datum_tree (text content) = leaf (4 ∷ content)
  datum_tree (bytes content) = leaf (5 ∷ content)
  datum_tree (relation r) = node (leaf []) (relation_tree r)

  pub tuple_tree : Tuple → Tree
  tuple_tree no_values = leaf []
  tuple_tree (value d rest) = node (datum_tree d) (tuple_tree rest)

  pub relation_tree : Relation → Tree
  relation_tree no_tuples = leaf []
  relation_tree (tuple t rest) = node (tuple_tree t) (relation_tree rest)

abbrev first : List ℕ → ℕ
first [] = 0
first (n ∷ ns) = n

abbrev leaf_datum : List ℕ → Datum
leaf_datum [] = text []
leaf_datum (zero ∷ ns) = integer (pos (first ns))
leaf_datum (suc zero ∷ ns) = integer (negsuc (first ns))
leaf_datum (suc (suc zero) ∷ ns) = long (pos (first ns))
leaf_datum (suc (suc (suc zero)) ∷ ns) = long (negsuc (first ns))
leaf_datum (suc (suc (suc (suc zero))) ∷ ns) = text ns
leaf_datum (suc (suc (suc (suc (suc _)))) ∷ ns) = bytes ns

abbrev mutual
  pub tree_datum : Tree → Datum
  tree_datum (leaf ns) = leaf_datum ns
  tree_datum (node _ r) = relation (tree_relation r)

  pub tree_tuple : Tree → Tuple
  tree_tuple (leaf _) = no_values
  tree_tuple (node d rest) = value (tree_datum d) (tree_tuple rest)

  pub tree_relation : Tree → Relation
  tree_relation (leaf _) = no_tuples
  tree_relation (node t rest) = tuple (tree_tuple t) (tree_relation rest)

mutual
  pub tree_datum-tree : (d : Datum) → tree_datum (datum_tree d) ≡ d
  tree_datum-tree (integer (pos n)) = refl
  tree_datum-tree (integer (negsuc n)) = refl
  tree_datum-tree (long (pos n)) = refl
  tree_datum-tree (long (negsuc n)) = refl
  tree_datum-tree (text content) = refl
  tree_datum-tree (bytes content) = refl
  tree_datum-tree (relation r) = ap relation (tree_relation-tree r)

  pub tree_tuple-tree : (t : Tuple) → tree_tuple (tuple_tree t) ≡ t
  tree_tuple-tree no_values = refl
  tree_tuple-tree (value d rest) =
      ap (λ e. value e (tree_tuple (tuple_tree rest))) (tree_datum-tree d) ∙ ap (λ t. value d t) (tree_tuple-tree rest)

  pub tree_relation-tree : (r : Relation) → tree_relation (relation_tree r) ≡ r
  tree_relation-tree no_tuples = refl
  tree_relation-tree (tuple t rest) =
      ap (λ u. tuple u (tree_relation (relation_tree rest))) (tree_tuple-tree t) ∙ ap (λ r. tuple t r) (tree_relation-tree rest)

abbrev pub datum_code : Coded Datum
datum_code = code_by Tree tree_code datum_tree tree_datum tree_datum-tree

abbrev pub row_code : Coded (List Datum)
row_code = coded_list datum_code

abbrev pub rows_code : Coded (List (List Datum))
rows_code = coded_list row_code
