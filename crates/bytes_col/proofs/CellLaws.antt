-- Laws of a chunk's cells.
use Rattle.std.proofs.Common.{◌≡◌, ℕ, zero, suc, ◌+◌, ◌-◌, ◌<◌, ◌≤◌, List, [], ◌∷◌, ◌++◌, length, get_or, set, take, drop, Bool, true, false, inl, inr, refl, sym, ap, subst, ◌∙◌, Result, Ok, Err, arith}
use Rattle.std.proofs.lemmas.List.{append_assoc, append-nil, length-append, length-map, length-set, map-append, map-set, set-get_or, get_or-map, drop-append-le, take-append-le, take-append-drop, drop-drop, take_at, drop_at, length-take-le, length-drop}
use Rattle.std.proofs.lemmas.List.Elements.{All-append, All-get_or, All-from_recursion, All-set, All-weaker, All-head, All-tail}
use Rattle.std.specs.Bool.{OnTrue, OnFalse}
use Rattle.std.specs.Result.{OnOk, OnErr}
use Rattle.std.specs.List.{All}
use Rattle.bytes_col.specs.declared.cell.Cell.{Cell}
use Rattle.bytes_col.specs.Strings.{short_bytes}
use Rattle.bytes_col.specs.declared.cell.Piece.{Piece}
use Rattle.bytes_col.specs.Chunk.{cell_value, cell_values, IsCell, IsApart, AreApart, IsBehind, IsChunk, overwritten}
use Rattle.bytes_col.proofs.Short.{long_size, length-short-append, length-short-set, short_few, short_size}

-- a cell keeps its value where bytes are added
pub value_kept : (bytes more : List ℕ) (c : Cell) → IsCell bytes c → cell_value (bytes ++ more) c ≡ cell_value bytes c
value_kept bytes more (Cell.Short p) h =
    ap (take p.len) (drop-append-le p.start bytes more (omega (arith, h.1))) ∙ take-append-le p.len (drop p.start bytes) more (omega (arith, h.1, length-drop p.start bytes))
value_kept bytes more (Cell.Memo m) h = refl

pub cell_kept : (bytes more : List ℕ) (c : Cell) → IsCell bytes c → IsCell (bytes ++ more) c
cell_kept bytes more (Cell.Short p) h = (h.0, omega (arith, h.1, length-append bytes more))
cell_kept bytes more (Cell.Memo m) h = h

pub values_kept : (bytes more : List ℕ) (cs : List Cell) → All (IsCell bytes) cs → cell_values (bytes ++ more) cs ≡ cell_values bytes cs
values_kept bytes more [] h = refl
values_kept bytes more (c ∷ cs) h =
    let P : Cell → Type 0 = IsCell bytes in
    ap (λ v. v ∷ cell_values (bytes ++ more) cs) (value_kept bytes more c (All-head P c cs h)) ∙ ap (λ vs. cell_value bytes c ∷ vs) (values_kept bytes more cs (All-tail P c cs h))

pub cells_kept : (bytes more : List ℕ) (cs : List Cell) → All (IsCell bytes) cs → All (IsCell (bytes ++ more)) cs
cells_kept bytes more cs h = All-weaker (IsCell bytes) (IsCell (bytes ++ more)) (cell_kept bytes more) cs h

-- cells that are apart

pub apart_sym : (c d : Cell) → IsApart c d → IsApart d c
apart_sym (Cell.Short p) (Cell.Short q) h = elim h [ inl before ↦ inr before | inr behind ↦ inl behind ]
apart_sym (Cell.Short p) (Cell.Memo m) h = tt
apart_sym (Cell.Memo m) (Cell.Short q) h = tt
apart_sym (Cell.Memo m) (Cell.Memo n) h = tt

behind_apart : (bytes : List ℕ) (c d : Cell) → IsBehind (length bytes) c → IsCell bytes d → IsApart d c
behind_apart bytes (Cell.Short p) (Cell.Short q) b h = inl (omega (arith, b, h.1))
behind_apart bytes (Cell.Memo m) (Cell.Short q) b h = tt
behind_apart bytes (Cell.Short p) (Cell.Memo n) b h = tt
behind_apart bytes (Cell.Memo m) (Cell.Memo n) b h = tt

-- a cell behind all bytes is apart from those that are there
pub all_apart : (bytes : List ℕ) (cs : List Cell) (c : Cell) → IsBehind (length bytes) c → All (IsCell bytes) cs → All (λ d. IsApart d c) cs
all_apart bytes cs c b h = All-weaker (IsCell bytes) (λ d. IsApart d c) (λ d. behind_apart bytes c d b) cs h

apart-push : (cs : List Cell) (c : Cell) → AreApart cs → All (λ d. IsApart d c) cs → AreApart (cs ++ c ∷ [])
apart-push [] c h a = (All-from_recursion (IsApart c) [] tt, tt)
apart-push (d ∷ ds) c h a =
    let P : Cell → Type 0 = λ e. IsApart e c in (
      All-append (IsApart d) ds (c ∷ []) h.0 (All-from_recursion (IsApart d) (c ∷ []) (All-head P d ds a, tt)),
      apart-push ds c h.1 (All-tail P d ds a),
    )

apart-set : (cs : List Cell) (i : ℕ) (c : Cell) → AreApart cs → All (λ d. IsApart d c) cs → AreApart (set cs i c)
apart-set [] i c h a = tt
apart-set (d ∷ ds) zero c h a =
    let P : Cell → Type 0 = λ e. IsApart e c in
    (All-weaker P (IsApart c) (λ e. apart_sym e c) ds (All-tail P d ds a), h.1)
apart-set (d ∷ ds) (suc i) c h a =
    let P : Cell → Type 0 = λ e. IsApart e c in
    (All-set (IsApart d) ds i c (All-head P d ds a) h.0, apart-set ds i c h.1 (All-tail P d ds a))

-- bytes are added, and no cell
pub bytes_added : (cs : List Cell) (bytes more new : List ℕ) (short : ℕ) → IsChunk cs bytes short → new ≡ bytes ++ more → IsChunk cs new short × (cell_values new cs ≡ cell_values bytes cs)
bytes_added cs bytes more new short h is =
    let P : List ℕ → Type 0 = λ b. IsChunk cs b short × (cell_values b cs ≡ cell_values bytes cs) in
    let kept = values_kept bytes more cs h.each in
    let chunk : IsChunk cs (bytes ++ more) short = record {
      few = h.few;
      each = cells_kept bytes more cs h.each;
      apart = h.apart;
      count = h.count ∙ ap (λ vs. length (short_bytes vs)) (sym kept);
    } in
    subst P (sym is) (chunk, kept)

-- a cell is added, whose value is counted
pub cell_added : (cs new : List Cell) (bytes more longer : List ℕ) (short count : ℕ) (c : Cell) (v : List ℕ) → IsChunk cs bytes short → longer ≡ bytes ++ more → new ≡ cs ++ c ∷ [] → IsCell longer c → IsBehind (length bytes) c → cell_value longer c ≡ v → length (cell_values bytes cs) < 512 → count ≡ length (short_bytes (v ∷ [])) → IsChunk new longer (short + count) × (cell_values longer new ≡ cell_values bytes cs ++ v ∷ [])
cell_added cs new bytes more longer short count c v h is added cell behind value room counted =
    let before = bytes_added cs bytes more longer short h is in
    let P : List Cell → Type 0 = λ x. IsChunk x longer (short + count) × (cell_values longer x ≡ cell_values bytes cs ++ v ∷ []) in
    let values : cell_values longer (cs ++ c ∷ []) ≡ cell_values bytes cs ++ v ∷ [] =
    map-append (cell_value longer) cs (c ∷ [])
    ∙ ap (λ x. x ++ cell_value longer c ∷ []) before.1
    ∙ ap (λ x. cell_values bytes cs ++ x ∷ []) value in
    let chunk : IsChunk (cs ++ c ∷ []) longer (short + count) = record {
      few = omega (arith, length-append cs (c ∷ []), length-map cs (cell_value bytes));
      each = All-append (IsCell longer) cs (c ∷ []) before.0.each (All-from_recursion (IsCell longer) (c ∷ []) (cell, tt));
      apart = apart-push cs c h.apart (all_apart bytes cs c behind h.each);
      count = omega (arith, ap (λ vs. length (short_bytes vs)) values, length-short-append (cell_values bytes cs) (v ∷ []), h.count, counted);
    } in
    subst P (sym added) (chunk, values)

-- a memo is added, whose bytes are its own
pub memo_added : (cs new : List Cell) (bytes : List ℕ) (short : ℕ) (m : List ℕ) → IsChunk cs bytes short → new ≡ cs ++ Cell.Memo m ∷ [] → 512 < length m → length (cell_values bytes cs) < 512 → IsChunk new bytes short × (cell_values bytes new ≡ cell_values bytes cs ++ m ∷ [])
memo_added cs new bytes short m h added long room =
    let made = cell_added cs new bytes [] bytes short 0 (Cell.Memo m) m h (sym (append-nil bytes)) added long tt refl room (sym (long_size m long)) in
    let P : ℕ → Type 0 = λ n. IsChunk new bytes n in
    let none : short + 0 ≡ short = omega arith in
    (subst P none made.0, made.1)

-- a cell is set
pub cell_set : (cs : List Cell) (bytes more longer : List ℕ) (short new i : ℕ) (c : Cell) (v old : List ℕ) → IsChunk cs bytes short → longer ≡ bytes ++ more → IsCell longer c → IsBehind (length bytes) c → cell_value longer c ≡ v → i < length cs → old ≡ get_or (cell_values bytes cs) i [] → new + length (short_bytes (old ∷ [])) ≡ short + length (short_bytes (v ∷ [])) → IsChunk (set cs i c) longer new × (cell_values longer (set cs i c) ≡ set (cell_values bytes cs) i v)
cell_set cs bytes more longer short new i c v old h is cell behind value l was sum =
    let before = bytes_added cs bytes more longer short h is in
    let values : cell_values longer (set cs i c) ≡ set (cell_values bytes cs) i v =
    map-set (cell_value longer) cs i c ∙ ap (λ x. set x i (cell_value longer c)) before.1 ∙ ap (set (cell_values bytes cs) i) value in
    let within : i < length (cell_values bytes cs) = omega (arith, length-map cs (cell_value bytes)) in
    let count : length (short_bytes (old ∷ [])) ≡ length (short_bytes (get_or (cell_values bytes cs) i [] ∷ [])) = ap (λ x. length (short_bytes (x ∷ []))) was in (
      record {
        few = omega (arith, length-set cs i c, h.few);
        each = All-set (IsCell longer) cs i c cell before.0.each;
        apart = apart-set cs i c h.apart (all_apart bytes cs c behind h.each);
        count = omega (arith, ap (λ vs. length (short_bytes vs)) values, length-short-set (cell_values bytes cs) i v within, h.count);
      },
      values,
    )

-- a memo is set to one as long
pub memo_set : (cs : List Cell) (bytes : List ℕ) (short i : ℕ) (m v : List ℕ) → IsChunk cs bytes short → i < length cs → get_or cs i (Cell.Memo m) ≡ Cell.Memo m → length v ≡ length m → IsChunk (set cs i (Cell.Memo v)) bytes short × (cell_values bytes (set cs i (Cell.Memo v)) ≡ set (cell_values bytes cs) i v) × (length v ≡ length (get_or (cell_values bytes cs) i []))
memo_set cs bytes short i m v h l here same =
    let P : Cell → Type 0 = IsCell bytes in
    let was : m ≡ get_or (cell_values bytes cs) i [] = sym (get_or-map (cell_value bytes) cs i (Cell.Memo m) [] l ∙ ap (cell_value bytes) here) in
    let long : 512 < length m = subst P here (All-get_or P cs i (Cell.Memo m) l h.each) in
    let longer : bytes ≡ bytes ++ [] = sym (append-nil bytes) in
    let count : short + length (short_bytes (m ∷ [])) ≡ short + length (short_bytes (v ∷ [])) = ap (λ n. short + n) (short_size m v (sym same)) in
    let made = cell_set cs bytes [] bytes short short i (Cell.Memo v) v m h longer (omega (arith, long, same)) tt refl l was count in
    (made.0, made.1, same ∙ ap length was)

-- a value is written over one as long

-- what stands behind the part
drop_behind : (bytes v : List ℕ) (s n j : ℕ) → length v ≡ n → s ≤ length bytes → s + n ≤ j → drop j (take s bytes ++ (v ++ drop (s + n) bytes)) ≡ drop j bytes
drop_behind bytes v s n j len in_range behind =
    let m : ℕ = j - (s + n) in
    let sum : s + n + m ≡ j = omega arith in
    let front : length (take s bytes ++ v) ≡ s + n = omega (arith, length-append (take s bytes) v, length-take-le s bytes in_range) in
    ap (λ k. drop k (take s bytes ++ (v ++ drop (s + n) bytes))) (sym sum)
    ∙ sym (drop-drop m (s + n) (take s bytes ++ (v ++ drop (s + n) bytes)))
    ∙ ap (λ x. drop m (drop (s + n) x)) (sym (append_assoc (take s bytes) v (drop (s + n) bytes)))
    ∙ ap (drop m) (drop_at (take s bytes ++ v) (drop (s + n) bytes) (s + n) front)
    ∙ drop-drop m (s + n) bytes
    ∙ ap (λ k. drop k bytes) sum

-- another cell keeps its value
other_kept : (bytes v : List ℕ) (p : Piece) (c : Cell) → length v ≡ p.len → p.start ≤ length bytes → IsCell bytes c → IsApart (Cell.Short p) c → cell_value (overwritten bytes p v) c ≡ cell_value bytes c
other_kept bytes v p (Cell.Memo m) len within cell apart = refl
other_kept bytes v p (Cell.Short q) len within cell apart =
    elim apart [
      | inl behind ↦ ap (take q.len) (drop_behind bytes v p.start p.len q.start len within behind)
      | inr before ↦
          let front : IsCell (take p.start bytes) (Cell.Short q) = (cell.0, omega (arith, before, length-take-le p.start bytes within)) in
          value_kept (take p.start bytes) (v ++ drop (p.start + p.len) bytes) (Cell.Short q) front
          ∙ sym (value_kept (take p.start bytes) (drop p.start bytes) (Cell.Short q) front)
          ∙ ap (λ b. cell_value b (Cell.Short q)) (take-append-drop p.start bytes)
    ]

others_kept : (bytes v : List ℕ) (p : Piece) (cs : List Cell) → length v ≡ p.len → p.start ≤ length bytes → All (IsCell bytes) cs → All (IsApart (Cell.Short p)) cs → cell_values (overwritten bytes p v) cs ≡ cell_values bytes cs
others_kept bytes v p [] len within cells apart = refl
others_kept bytes v p (c ∷ cs) len within cells apart =
    let P : Cell → Type 0 = IsCell bytes in
    let Q : Cell → Type 0 = IsApart (Cell.Short p) in
    ap (λ x. x ∷ cell_values (overwritten bytes p v) cs) (other_kept bytes v p c len within (All-head P c cs cells) (All-head Q c cs apart))
    ∙ ap (λ xs. cell_value bytes c ∷ xs) (others_kept bytes v p cs len within (All-tail P c cs cells) (All-tail Q c cs apart))

-- the cell itself has the value
written_over : (bytes v : List ℕ) (p : Piece) → length v ≡ p.len → p.start ≤ length bytes → cell_value (overwritten bytes p v) (Cell.Short p) ≡ v
written_over bytes v p len within =
    ap (take p.len) (drop_at (take p.start bytes) (v ++ drop (p.start + p.len) bytes) p.start (length-take-le p.start bytes within))
    ∙ take_at v (drop (p.start + p.len) bytes) p.len len

values_over : (bytes v : List ℕ) (p : Piece) (cs : List Cell) (i : ℕ) → length v ≡ p.len → p.start ≤ length bytes → All (IsCell bytes) cs → AreApart cs → i < length cs → get_or cs i (Cell.Short p) ≡ Cell.Short p → cell_values (overwritten bytes p v) cs ≡ set (cell_values bytes cs) i v
values_over bytes v p [] i len within cells apart l here = absurd (omega arith)
values_over bytes v p (c ∷ cs) zero len within cells apart l here =
    let P : Cell → Type 0 = IsCell bytes in
    let Q : Cell → Type 0 = λ d. All (IsApart d) cs in
    ap (λ x. x ∷ cell_values (overwritten bytes p v) cs) (ap (cell_value (overwritten bytes p v)) here ∙ written_over bytes v p len within)
    ∙ ap (λ xs. v ∷ xs) (others_kept bytes v p cs len within (All-tail P c cs cells) (subst Q here apart.0))
values_over bytes v p (c ∷ cs) (suc i) len within cells apart l here =
    let P : Cell → Type 0 = IsCell bytes in
    let Q : Cell → Type 0 = IsApart c in
    let pair : IsApart c (Cell.Short p) = subst Q here (All-get_or Q cs i (Cell.Short p) (omega arith) apart.0) in
    ap (λ x. x ∷ cell_values (overwritten bytes p v) cs) (other_kept bytes v p c len within (All-head P c cs cells) (apart_sym c (Cell.Short p) pair))
    ∙ ap (λ xs. cell_value bytes c ∷ xs) (values_over bytes v p cs i len within (All-tail P c cs cells) apart.1 (omega arith) here)

length_over : (bytes v : List ℕ) (p : Piece) → length v ≡ p.len → p.start + p.len ≤ length bytes → length (overwritten bytes p v) ≡ length bytes
length_over bytes v p len within =
    omega (arith, length-append (take p.start bytes) (v ++ drop (p.start + p.len) bytes), length-append v (drop (p.start + p.len) bytes), length-take-le p.start bytes (omega arith), length-drop (p.start + p.len) bytes)

cell_over : (bytes new : List ℕ) (c : Cell) → length new ≡ length bytes → IsCell bytes c → IsCell new c
cell_over bytes new (Cell.Short p) same h = (h.0, omega (arith, h.1))
cell_over bytes new (Cell.Memo m) same h = h

-- a value is written over the bytes of a cell
pub bytes_set : (cs : List Cell) (bytes new : List ℕ) (short i : ℕ) (p : Piece) (v : List ℕ) → IsChunk cs bytes short → i < length cs → get_or cs i (Cell.Short p) ≡ Cell.Short p → length v ≡ p.len → new ≡ overwritten bytes p v → IsChunk cs new short × (cell_values new cs ≡ set (cell_values bytes cs) i v) × (length v ≡ length (get_or (cell_values bytes cs) i []))
bytes_set cs bytes new short i p v h l here same is =
    let P : Cell → Type 0 = IsCell bytes in
    let cell : IsCell bytes (Cell.Short p) = subst P here (All-get_or P cs i (Cell.Short p) l h.each) in
    let within : p.start ≤ length bytes = omega (arith, cell.1) in
    let was : cell_value bytes (Cell.Short p) ≡ get_or (cell_values bytes cs) i [] = sym (get_or-map (cell_value bytes) cs i (Cell.Short p) [] l ∙ ap (cell_value bytes) here) in
    let size : length (cell_value bytes (Cell.Short p)) ≡ p.len = length-take-le p.len (drop p.start bytes) (omega (arith, cell.1, length-drop p.start bytes)) in
    let as_long : length v ≡ length (get_or (cell_values bytes cs) i []) = same ∙ sym size ∙ ap length was in
    let len : length new ≡ length bytes = ap length is ∙ length_over bytes v p same cell.1 in
    let values : cell_values new cs ≡ set (cell_values bytes cs) i v = ap (λ b. cell_values b cs) is ∙ values_over bytes v p cs i same within h.each h.apart l here in
    let chunk : IsChunk cs new short = record {
      few = h.few;
      each = All-weaker P (IsCell new) (λ c. cell_over bytes new c len) cs h.each;
      apart = h.apart;
      count = omega (arith, h.count, ap (λ vs. length (short_bytes vs)) values, length-short-set (cell_values bytes cs) i v (omega (arith, length-map cs (cell_value bytes))), short_size v (get_or (cell_values bytes cs) i []) as_long);
    } in
    (chunk, values, as_long)

-- the same by what the writing says

same_cell : (cs : List Cell) (i : ℕ) (c d : Cell) → c ≡ d → c ≡ get_or cs i c → get_or cs i d ≡ d
same_cell cs i c d is here = sym (ap (get_or cs i) is) ∙ sym here ∙ is

unset : (cs : List Cell) (i : ℕ) (c : Cell) → get_or cs i c ≡ c → set cs i c ≡ cs
unset cs i c here = ap (set cs i) (sym here) ∙ set-get_or cs i c

-- what a chunk is after a value was written over, or was not
pub record IsOver (done : Bool) (cs new : List Cell) (bytes longer : List ℕ) (short i : ℕ) (v : List ℕ) : Type 0 where
  pub chunk : IsChunk new longer short
  pub values : OnTrue done (cell_values longer new ≡ set (cell_values bytes cs) i v)
  pub size : OnTrue done (length v ≡ length (get_or (cell_values bytes cs) i []))
  pub stays : OnFalse done (cell_values longer new ≡ cell_values bytes cs)

pub piece_over : (done : Bool) (cs : List Cell) (bytes new : List ℕ) (short i : ℕ) (c : Cell) (p : Piece) (v : List ℕ) → IsChunk cs bytes short → i < length cs → c ≡ Cell.Short p → c ≡ get_or cs i c → OnTrue done (new ≡ overwritten bytes p v) → OnTrue done (length v ≡ p.len) → OnFalse done (new ≡ bytes) → IsOver done cs (set cs i (Cell.Short p)) bytes new short i v
piece_over true cs bytes new short i c p v h l is here made size stays =
    let there = same_cell cs i c (Cell.Short p) is here in
    let as_was : set cs i (Cell.Short p) ≡ cs = unset cs i (Cell.Short p) there in
    let over = bytes_set cs bytes new short i p v h l there size made in
    let P : List Cell → Type 0 = λ x. IsChunk x new short in
    record {
      chunk = subst P (sym as_was) over.0;
      values = ap (cell_values new) as_was ∙ over.1;
      size = over.2;
      stays = tt;
    }
piece_over false cs bytes new short i c p v h l is here made size stays =
    let as_was : set cs i (Cell.Short p) ≡ cs = unset cs i (Cell.Short p) (same_cell cs i c (Cell.Short p) is here) in
    let P : List Cell → Type 0 = λ x. IsChunk x bytes short in
    let Q : List ℕ → Type 0 = λ b. IsChunk (set cs i (Cell.Short p)) b short in
    record {
      chunk = subst Q (sym stays) (subst P (sym as_was) h);
      values = tt;
      size = tt;
      stays = ap (λ b. cell_values b (set cs i (Cell.Short p))) stays ∙ ap (cell_values bytes) as_was;
    }

pub memo_over : (done : Bool) (cs : List Cell) (bytes : List ℕ) (short i : ℕ) (c : Cell) (m new v : List ℕ) → IsChunk cs bytes short → i < length cs → c ≡ Cell.Memo m → c ≡ get_or cs i c → OnTrue done (new ≡ v) → OnTrue done (length v ≡ length m) → OnFalse done (new ≡ m) → IsOver done cs (set cs i (Cell.Memo new)) bytes bytes short i v
memo_over true cs bytes short i c m new v h l is here made size stays =
    let over = memo_set cs bytes short i m v h l (same_cell cs i c (Cell.Memo m) is here) size in
    let put : set cs i (Cell.Memo new) ≡ set cs i (Cell.Memo v) = ap (λ x. set cs i (Cell.Memo x)) made in
    let P : List Cell → Type 0 = λ x. IsChunk x bytes short in
    record {
      chunk = subst P (sym put) over.0;
      values = ap (cell_values bytes) put ∙ over.1;
      size = over.2;
      stays = tt;
    }
memo_over false cs bytes short i c m new v h l is here made size stays =
    let as_was : set cs i (Cell.Memo new) ≡ cs = ap (λ x. set cs i (Cell.Memo x)) stays ∙ unset cs i (Cell.Memo m) (same_cell cs i c (Cell.Memo m) is here) in
    let P : List Cell → Type 0 = λ x. IsChunk x bytes short in
    record {
      chunk = subst P (sym as_was) h;
      values = tt;
      size = tt;
      stays = ap (cell_values bytes) as_was;
    }

-- a chunk has few short bytes
pub short_bound : (cs : List Cell) (bytes : List ℕ) (short : ℕ) → IsChunk cs bytes short → short ≤ 262144
short_bound cs bytes short h =
    omega (arith, h.few, h.count, short_few (cell_values bytes cs), length-map cs (cell_value bytes))

-- no cell is added, as where memory is refused
pub chunk_stays : (cs new : List Cell) (bytes more longer : List ℕ) (short : ℕ) → IsChunk cs bytes short → new ≡ cs → longer ≡ bytes ++ more → IsChunk new longer short × (cell_values longer new ≡ cell_values bytes cs)
chunk_stays cs new bytes more longer short h same is =
    let P : List Cell → Type 0 = λ x. IsChunk x longer short × (cell_values longer x ≡ cell_values bytes cs) in
    subst P (sym same) (bytes_added cs bytes more longer short h is)

-- the count after a value is set
pub set_fits : (cs : List Cell) (bytes : List ℕ) (short i size : ℕ) (old : List ℕ) → IsChunk cs bytes short → i < length (cell_values bytes cs) → old ≡ get_or (cell_values bytes cs) i [] → size ≡ length (short_bytes (old ∷ [])) → size ≤ short
set_fits cs bytes short i size old h l was counted =
    let none : length (short_bytes ([] ∷ [])) ≡ 0 = refl in
    omega (arith, h.count, none, length-short-set (cell_values bytes cs) i [] l, ap (λ x. length (short_bytes (x ∷ []))) was)

pub on_err_holds : {A E P : Type 0} (r : Result A E) → P → OnErr r P
on_err_holds (Ok x) p = tt
on_err_holds (Err e) p = p

-- the value of a cell that was read
pub value_read : (cs : List Cell) (bytes : List ℕ) (i : ℕ) (c : Cell) → i < length cs → c ≡ get_or cs i c → cell_value bytes c ≡ get_or (cell_values bytes cs) i []
value_read cs bytes i c l here = ap (cell_value bytes) here ∙ sym (get_or-map (cell_value bytes) cs i c [] l)

pub both_ok : {A E P Q R : Type 0} (r : Result A E) → (P → Q → R) → OnOk r P → OnOk r Q → OnOk r R
both_ok (Ok x) f p q = f p q
both_ok (Err e) f p q = tt

pub all_ok : {A E P Q R S : Type 0} (r : Result A E) → (P → Q → R → S) → OnOk r P → OnOk r Q → OnOk r R → OnOk r S
all_ok (Ok x) f p q s = f p q s
all_ok (Err e) f p q s = tt
