-- Texts that were made of a list one by one.
use Rattle.std.proofs.Common.{◌≡◌, ℕ, ◌+◌, ◌≤◌, List, [], ◌∷◌, ◌++◌, length, map, drop, refl, ap, sym, ◌∙◌, arith, append_assoc, append-nil}
use Rattle.std.proofs.lemmas.List.{drop_all}
use Rattle.mk_value.specs.Buffer.{Buffer}
use Rattle.cmd_text.specs.Replies.{contents}
use Rattle.struct_text.specs.Spelling.{spelling}
use Rattle.tables.specs.Tables.{StoredTable}
use Rattle.view_store.specs.Views.{NamedTable, view_names}
use Rattle.session.specs.Structures.{structure_texts, structures}

pub contents-push : (texts : List Buffer) (t : Buffer) → contents (texts ++ t ∷ []) ≡ contents texts ++ t.bytes ∷ []
contents-push [] t = refl
contents-push (u ∷ texts) t = ap (λ rest. u.bytes ∷ rest) (contents-push texts t)

-- one text more, of the next of what is to come
pub walked_more : (texts : List Buffer) (t : Buffer) (bytes : List ℕ) (rest all : List (List ℕ)) → t.bytes ≡ bytes → contents texts ++ (bytes ∷ rest) ≡ all → contents (texts ++ t ∷ []) ++ rest ≡ all
walked_more texts t bytes rest all e h =
    ap (λ done. done ++ rest) (contents-push texts t ∙ ap (λ b. contents texts ++ b ∷ []) e) ∙ append_assoc (contents texts) (bytes ∷ []) rest ∙ h

pub walked_map : {X : Type 0} (f : X → List ℕ) (texts : List Buffer) (t : Buffer) (xs : List X) (i : ℕ) (x : X) → drop i xs ≡ x ∷ drop (i + 1) xs → t.bytes ≡ f x
    → contents texts ++ map f (drop i xs) ≡ map f xs → contents (texts ++ t ∷ []) ++ map f (drop (i + 1) xs) ≡ map f xs
walked_map f texts t xs i x next e h =
    walked_more texts t (f x) (map f (drop (i + 1) xs)) (map f xs) e (ap (λ rest. contents texts ++ map f rest) (sym next) ∙ h)

pub walked_all : {X : Type 0} (f : X → List ℕ) (texts : List Buffer) (xs : List X) (i : ℕ) → length xs ≤ i → contents texts ++ map f (drop i xs) ≡ map f xs → contents texts ≡ map f xs
walked_all f texts xs i p h = sym (append-nil (contents texts)) ∙ ap (λ rest. contents texts ++ map f rest) (sym (drop_all i xs p)) ∙ h

pub walked_structures : (texts : List Buffer) (t : Buffer) (names : List (List ℕ)) (tables : List StoredTable) (i : ℕ) (name : List ℕ) (table : StoredTable)
    → drop i names ≡ name ∷ drop (i + 1) names → drop i tables ≡ table ∷ drop (i + 1) tables → t.bytes ≡ spelling name table.schema
    → contents texts ++ structure_texts (drop i names) (drop i tables) ≡ structure_texts names tables
    → contents (texts ++ t ∷ []) ++ structure_texts (drop (i + 1) names) (drop (i + 1) tables) ≡ structure_texts names tables
walked_structures texts t names tables i name table e f is h =
    walked_more texts t (spelling name table.schema) (structure_texts (drop (i + 1) names) (drop (i + 1) tables)) (structure_texts names tables) is
    (sym (ap (λ ns. contents texts ++ structure_texts ns (drop i tables)) e ∙ ap (λ ts. contents texts ++ structure_texts (name ∷ drop (i + 1) names) ts) f) ∙ h)

pub all_structures : (texts : List Buffer) (names : List (List ℕ)) (tables : List StoredTable) (i : ℕ) → length names ≤ i
    → contents texts ++ structure_texts (drop i names) (drop i tables) ≡ structure_texts names tables → contents texts ≡ structure_texts names tables
all_structures texts names tables i p h =
    sym (append-nil (contents texts)) ∙ ap (λ rest. contents texts ++ structure_texts rest (drop i tables)) (sym (drop_all i names p)) ∙ h

-- the structure texts of the views of a root
pub structures_of : (root : List NamedTable) → structure_texts (view_names root) (map (λ (v : NamedTable). v.table) root) ≡ structures root
structures_of [] = refl
structures_of (v ∷ rest) = ap (λ texts. spelling v.name v.table.schema ∷ texts) (structures_of rest)

-- there are as many lines as texts
pub length-contents : (texts : List Buffer) → length (contents texts) ≡ length texts
length-contents [] = refl
length-contents (t ∷ texts) = let e = length-contents texts in omega (arith, e)
