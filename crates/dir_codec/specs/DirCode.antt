-- Columns and tables of a directory are coded as trees, so that a proof can tell two of them apart; and how much they hold.
use Rattle.std.specs.Prelude.{◌≡◌, ℕ, zero, suc, ◌+◌, List, [], ◌∷◌, refl}
use Rattle.std.specs.Coded.{Coded, code_by, coded_ℕ, coded_list, coded×}
use Rattle.std.proofs.Common.{ap, ◌∙◌}
use Rattle.mk_value.specs.Tree.{Tree, leaf, node, tree_code}
use Rattle.bit_pack.specs.declared.widths.Width.{Width}
use Rattle.bit_pack.specs.declared.widths.Width.TheVariants.{W0, W1, W2, W4, W8, W16, W32, W64}
use Rattle.dir_codec.specs.declared.dir.Memo.{Memo}
use Rattle.dir_codec.specs.Dir.{Entry, numbers, strings, tables, Entries, no_entries, entry, Bodies, no_bodies, body, Body}

abbrev width_number : Width → ℕ
width_number W0 = 0
width_number W1 = 1
width_number W2 = 2
width_number W4 = 3
width_number W8 = 4
width_number W16 = 5
width_number W32 = 6
width_number W64 = 7

abbrev width_at : ℕ → Width
width_at zero = W0
width_at (suc zero) = W1
width_at (suc (suc zero)) = W2
width_at (suc (suc (suc zero))) = W4
width_at (suc (suc (suc (suc zero)))) = W8
width_at (suc (suc (suc (suc (suc zero))))) = W16
width_at (suc (suc (suc (suc (suc (suc zero)))))) = W32
width_at (suc (suc (suc (suc (suc (suc (suc _))))))) = W64

width_back : (w : Width) → width_at (width_number w) ≡ w
width_back W0 = refl
width_back W1 = refl
width_back W2 = refl
width_back W4 = refl
width_back W8 = refl
width_back W16 = refl
width_back W32 = refl
width_back W64 = refl

abbrev memo_numbers : List Memo → List ℕ
memo_numbers [] = []
memo_numbers (m ∷ memos) = m.row ∷ m.span.place ∷ m.span.len ∷ memo_numbers memos

abbrev memos_at : List ℕ → List Memo
memos_at [] = []
memos_at (r ∷ []) = []
memos_at (r ∷ p ∷ []) = []
memos_at (r ∷ p ∷ l ∷ ns) = record { row = r; span = record { place = p; len = l } } ∷ memos_at ns

memos_back : (memos : List Memo) → memos_at (memo_numbers memos) ≡ memos
memos_back [] = refl
memos_back (m ∷ memos) = ap (λ (l : List Memo). m ∷ l) (memos_back memos)

abbrev mutual
  pub entry_tree : Entry → Tree
  entry_tree (numbers w s) = node (leaf (0 ∷ width_number w ∷ s.place ∷ s.len ∷ [])) (leaf [])
  entry_tree (strings w s x memos) = node (leaf (1 ∷ width_number w ∷ s.place ∷ s.len ∷ x.place ∷ x.len ∷ [])) (leaf (memo_numbers memos))
  entry_tree (tables bodies) = node (leaf (2 ∷ [])) (bodies_tree bodies)

  pub entries_tree : Entries → Tree
  entries_tree no_entries = leaf []
  entries_tree (entry e rest) = node (entry_tree e) (entries_tree rest)

  pub bodies_tree : Bodies → Tree
  bodies_tree no_bodies = leaf []
  bodies_tree (body rows columns rest) = node (node (leaf (rows ∷ [])) (entries_tree columns)) (bodies_tree rest)

abbrev none : Entry
none = numbers W0 (record { place = 0; len = 0 })

abbrev number_at : List ℕ → ℕ → ℕ
number_at [] i = 0
number_at (n ∷ ns) zero = n
number_at (n ∷ ns) (suc i) = number_at ns i

abbrev leaf_numbers : Tree → List ℕ
leaf_numbers (leaf ns) = ns
leaf_numbers (node l r) = []

abbrev plain_at : List ℕ → List ℕ → Entry
plain_at [] memos = none
plain_at (zero ∷ ns) memos = numbers (width_at (number_at ns 0)) (record { place = number_at ns 1; len = number_at ns 2 })
plain_at (suc _ ∷ ns) memos = strings (width_at (number_at ns 0)) (record { place = number_at ns 1; len = number_at ns 2 }) (record { place = number_at ns 3; len = number_at ns 4 }) (memos_at memos)

abbrev mutual
  pub tree_entry : Tree → Entry
  tree_entry (leaf _) = none
  tree_entry (node (leaf (suc (suc _) ∷ _)) bodies) = tables (tree_bodies bodies)
  tree_entry (node (leaf ns) memos) = plain_at ns (leaf_numbers memos)
  tree_entry (node (node _ _) _) = none

  pub tree_entries : Tree → Entries
  tree_entries (leaf _) = no_entries
  tree_entries (node e rest) = entry (tree_entry e) (tree_entries rest)

  pub tree_bodies : Tree → Bodies
  tree_bodies (leaf _) = no_bodies
  tree_bodies (node (leaf _) rest) = no_bodies
  tree_bodies (node (node r columns) rest) = body (number_at (leaf_numbers r) 0) (tree_entries columns) (tree_bodies rest)

mutual
  pub tree_entry-tree : (e : Entry) → tree_entry (entry_tree e) ≡ e
  tree_entry-tree (numbers w s) = ap (λ (v : Width). numbers v s) (width_back w)
  tree_entry-tree (strings w s x memos) = ap (λ (v : Width). strings v s x (memos_at (memo_numbers memos))) (width_back w) ∙ ap (λ (l : List Memo). strings w s x l) (memos_back memos)
  tree_entry-tree (tables bodies) = ap tables (tree_bodies-tree bodies)

  pub tree_entries-tree : (es : Entries) → tree_entries (entries_tree es) ≡ es
  tree_entries-tree no_entries = refl
  tree_entries-tree (entry e rest) = ap (λ (f : Entry). entry f (tree_entries (entries_tree rest))) (tree_entry-tree e) ∙ ap (λ (r : Entries). entry e r) (tree_entries-tree rest)

  pub tree_bodies-tree : (bs : Bodies) → tree_bodies (bodies_tree bs) ≡ bs
  tree_bodies-tree no_bodies = refl
  tree_bodies-tree (body rows columns rest) = ap (λ (c : Entries). body rows c (tree_bodies (bodies_tree rest))) (tree_entries-tree columns) ∙ ap (λ (r : Bodies). body rows columns r) (tree_bodies-tree rest)

abbrev pub entry_code : Coded Entry
entry_code = code_by Tree tree_code entry_tree tree_entry tree_entry-tree

abbrev pub columns_code : Coded (List Entry)
columns_code = coded_list entry_code

abbrev pub body_code : Coded Body
body_code = code_by (ℕ × List Entry) (coded× coded_ℕ columns_code) (λ b. (b.rows, b.columns)) (λ p. record { rows = p.0; columns = p.1 }) (λ _. refl)

abbrev pub tables_code : Coded (List Body)
tables_code = coded_list body_code

-- How much a column holds: more than each table inside it.
abbrev mutual
  pub entry_weight : Entry → ℕ
  entry_weight (numbers w s) = 0
  entry_weight (strings w s x memos) = 0
  entry_weight (tables bodies) = bodies_weight bodies + 2

  pub entries_weight : Entries → ℕ
  entries_weight no_entries = 0
  entries_weight (entry e rest) = entry_weight e + 1 + entries_weight rest

  pub bodies_weight : Bodies → ℕ
  bodies_weight no_bodies = 0
  bodies_weight (body rows columns rest) = entries_weight columns + 2 + bodies_weight rest

abbrev pub columns_weight : List Entry → ℕ
columns_weight [] = 0
columns_weight (e ∷ rest) = entry_weight e + 1 + columns_weight rest

abbrev pub tables_weight : List Body → ℕ
tables_weight [] = 0
tables_weight (b ∷ rest) = columns_weight b.columns + 2 + tables_weight rest
