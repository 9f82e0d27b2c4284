-- Views of a directory that are read one after another.
use Rattle.std.proofs.Common.{◌≡◌, ℕ, zero, suc, ◌+◌, ◌<◌, ◌≤◌, ◌^◌, List, [], ◌∷◌, ◌++◌, length, take, drop, All, refl, ap, sym, subst, ◌∙◌, arith, length-append}
use Rattle.std.specs.List.{flat_map}
use Rattle.std.proofs.lemmas.List.{take_all}
use Rattle.std.proofs.lemmas.List.Elements.{All-head, All-tail}
use Rattle.byteorder.specs.Endian.{little_bytes}
use Rattle.mk_value.specs.Heading.{heading_of}
use Rattle.struct_text.specs.Spelling.{spelling}
use Rattle.commit_writes.specs.Blocks.{Block, StandsAt}
use Rattle.dir_codec.specs.Columns.{plain_entries, plain_view_entries}
use Rattle.dir_codec.specs.Dir.{IsViewEntry, ViewEntry, spelled_entries, spelled_view}
use Rattle.tables.specs.Tables.{StoredTable}
use Rattle.view_store.specs.Views.{NamedTable, named}
use Rattle.view_store.proofs.Named.{named-push}
use Rattle.recovery.specs.declared.error.ColumnsError.{ColumnsError}
use Rattle.recovery.specs.Found.{AreViewsFormed, AreViewsFound, HasForm, HasLength, IsTableFound, IsViewFormed, NamesUnreadable}
use Rattle.recovery.specs.Reading.{IsReadable}
use Rattle.recovery.proofs.EntriesOf.{zip-append}
use Rattle.recovery.proofs.FirstUnreadable.{IsReadUpTo, goes_on, names_first}

-- the first k views: a table for each name
pub record AreViewsSoFar (known : Type 0) (image : List ℕ) (own : List ViewEntry) (k : ℕ) (names : List (List ℕ)) (ts : List StoredTable) (at : ℕ) : Type 0 where
  pub paired : length names ≡ length ts
  pub place : at + length (flat_map spelled_view (drop k own)) ≡ 4 + length (flat_map spelled_view own)
  pub formed : AreViewsFormed (take k own) (named names ts)
  pub made : AreViewsFound HasLength (take k own) (named names ts)
  pub found : known → AreViewsFound (StandsAt image) (take k own) (named names ts)
  pub upto : IsReadUpTo known image (plain_view_entries 4 own) (plain_view_entries at (drop k own))

-- how long a view is
pub view_len : (v : ViewEntry) → length (spelled_view v) ≡ 8 + (length (spelling v.name v.schema) + length (spelled_entries v.columns))
view_len v =
    let text = spelling v.name v.schema in
    let columns = spelled_entries v.columns in
    let all = length-append (text ++ little_bytes 4 v.rows) columns in
    let front = length-append text (little_bytes 4 v.rows) in
    let four : length (little_bytes 4 v.rows) ≡ 4 = refl in
    omega (arith, all, front, four)

module _ (known : Type 0) (image : List ℕ) (own : List ViewEntry) (k at : ℕ) (names : List (List ℕ)) (ts : List StoredTable)
    (so : AreViewsSoFar known image own k names ts at) (v : ViewEntry) (left : drop k own ≡ v ∷ drop (k + 1) own) (done : take (k + 1) own ≡ take k own ++ v ∷ []) where
  split : plain_view_entries at (drop k own) ≡ plain_entries v.columns (heading_of v.schema) (at + 8 + length (spelling v.name v.schema)) v.rows ++ plain_view_entries (at + length (spelled_view v)) (drop (k + 1) own)
  split = ap (λ vs. plain_view_entries at vs) left

  view_left : length (flat_map spelled_view (drop k own)) ≡ length (spelled_view v) + length (flat_map spelled_view (drop (k + 1) own))
  view_left = ap (λ vs. length (flat_map spelled_view vs)) left ∙ length-append (spelled_view v) (flat_map spelled_view (drop (k + 1) own))

  pub view_room : 4 + length (flat_map spelled_view own) < 2 ^ 64 → at + 8 + length (spelling v.name v.schema) + length (spelled_entries v.columns) < 2 ^ 64
  view_room small = let p = so.place in omega (arith, small, p, view_left, view_len v)

  one_more : (P : Block → Type 0) (name : List ℕ) (t : StoredTable) → AreViewsFound P (take k own) (named names ts) → IsTableFound P v.columns t → AreViewsFound P (take (k + 1) own) (named (names ++ name ∷ []) (ts ++ t ∷ []))
  one_more P name t found one = subst (λ (vs : List ViewEntry). AreViewsFound P vs (named (names ++ name ∷ []) (ts ++ t ∷ []))) (sym done)
      (subst (AreViewsFound P (take k own ++ v ∷ [])) (sym (named-push names ts name t so.paired))
      (zip-append (λ (e : ViewEntry) (x : NamedTable). IsTableFound P e.columns x.table) (take k own) (v ∷ []) (named names ts) ((record { name = name; table = t }) ∷ []) found (one, tt)))

  pub views_grow : (name : List ℕ) (t : StoredTable) (behind : ℕ) → name ≡ v.name → behind ≡ at + 8 + length (spelling v.name v.schema) + length (spelled_entries v.columns) → HasForm v.schema v.rows t
      → IsTableFound HasLength v.columns t → (known → IsTableFound (StandsAt image) v.columns t) → (known → All (IsReadable image) (plain_entries v.columns (heading_of v.schema) (at + 8 + length (spelling v.name v.schema)) v.rows))
      → AreViewsSoFar known image own (k + 1) (names ++ name ∷ []) (ts ++ t ∷ []) behind
  views_grow name t behind same is form made found readable =
      let joined = named-push names ts name t so.paired in
      let next : behind ≡ at + length (spelled_view v) = (let p = view_len v in omega (arith, is, p)) in
      record {
        paired = (let p = so.paired in let q = length-append names (name ∷ []) in let r = length-append ts (t ∷ []) in omega (arith, p, q, r));
        place = (let p = so.place in omega (arith, p, view_left, next));
        formed = subst (λ (vs : List ViewEntry). AreViewsFormed vs (named (names ++ name ∷ []) (ts ++ t ∷ []))) (sym done)
            (subst (AreViewsFormed (take k own ++ v ∷ [])) (sym joined)
            (zip-append IsViewFormed (take k own) (v ∷ []) (named names ts) ((record { name = name; table = t }) ∷ []) so.formed (record { name = same; form = form }, tt)));
        made = one_more HasLength name t so.made made;
        found = λ q. one_more (StandsAt image) name t (so.found q) (found q);
        upto = subst (λ n. IsReadUpTo known image (plain_view_entries 4 own) (plain_view_entries n (drop (k + 1) own))) (sym next)
            (goes_on known image (plain_view_entries 4 own) (plain_view_entries at (drop k own)) (plain_entries v.columns (heading_of v.schema) (at + 8 + length (spelling v.name v.schema)) v.rows)
            (plain_view_entries (at + length (spelled_view v)) (drop (k + 1) own)) so.upto split readable);
      }

  pub view_unread : (error : ColumnsError) → known → NamesUnreadable image (plain_entries v.columns (heading_of v.schema) (at + 8 + length (spelling v.name v.schema)) v.rows) error → NamesUnreadable image (plain_view_entries 4 own) error
  view_unread error q is =
      names_first known image (plain_view_entries 4 own) (plain_view_entries at (drop k own)) (plain_entries v.columns (heading_of v.schema) (at + 8 + length (spelling v.name v.schema)) v.rows)
      (plain_view_entries (at + length (spelled_view v)) (drop (k + 1) own)) error so.upto split q is

views_left : (end k : ℕ) (own : List ViewEntry) → All (IsViewEntry end) own → All (IsViewEntry end) (drop k own)
views_left end zero own h = h
views_left end (suc k) [] h = h
views_left end (suc k) (v ∷ own) h = views_left end k own (All-tail (IsViewEntry end) v own h)

pub next_view : (end k : ℕ) (own : List ViewEntry) (v : ViewEntry) → drop k own ≡ v ∷ drop (k + 1) own → All (IsViewEntry end) own → IsViewEntry end v
next_view end k own v left h = All-head (IsViewEntry end) v (drop (k + 1) own) (subst (All (IsViewEntry end)) left (views_left end k own h))

-- what is known once all are read
pub record AreViewsDone (own : List ViewEntry) (names : List (List ℕ)) (ts : List StoredTable) : Type 0 where
  pub paired : length names ≡ length ts
  pub formed : AreViewsFormed own (named names ts)
  pub made : AreViewsFound HasLength own (named names ts)

pub views_end : (known : Type 0) (image : List ℕ) (own : List ViewEntry) (k at : ℕ) (names : List (List ℕ)) (ts : List StoredTable) → AreViewsSoFar known image own k names ts at → length own ≤ k → AreViewsDone own names ts
views_end known image own k at names ts so p = record { paired = so.paired; formed = subst (λ (vs : List ViewEntry). AreViewsFormed vs (named names ts)) (take_all k own p) so.formed; made = subst (λ (vs : List ViewEntry). AreViewsFound HasLength vs (named names ts)) (take_all k own p) so.made }
