-- The bytes of a directory are those of no other.
use Rattle.std.proofs.Common.{◌≡◌, ℕ, ◌+◌, ◌<◌, ◌≤◌, ◌^◌, ◌⊎◌, inl, inr, List, [], ◌∷◌, ◌++◌, length, take, drop, refl, sym, ◌∙◌, ap, subst, arith, All}
use Rattle.std.specs.List.{flat_map}
use Rattle.std.proofs.lemmas.List.{append-nil, append_assoc, drop_at, take_at}
use Rattle.std.proofs.lemmas.List.Elements.{All-head, All-tail}
use Rattle.byteorder.specs.Endian.{little_bytes, little_number}
use Rattle.byteorder.specs.Numbers.{little_number-reads_back}
use Rattle.bit_pack.specs.declared.widths.Width.{Width}
use Rattle.bit_pack.specs.Width.{bit_count}
use Rattle.bit_pack.proofs.LeastWidth.{same_width}
use Rattle.mk_value.specs.declared.span.Span.{Span}
use Rattle.mk_value.specs.Limits.{max_rows, max_structure}
use Rattle.mk_value.specs.Heading.{Domain, Heading, no_attributes, attribute, Attribute, heading_of}
use Rattle.struct_text.specs.Spelling.{spelling}
use Rattle.struct_text.proofs.Unique.{one_structure}
use Rattle.dir_codec.specs.declared.dir.Memo.{Memo}
use Rattle.dir_codec.specs.Dir.{Dir, spelled, spelled_notes, IsDir, NoteEntry, ViewEntry, spelled_note, spelled_view, AreNotesFrom, IsViewEntry, Entry, numbers, strings, tables, Entries, no_entries, entry, Bodies, no_bodies, body, spelled_span, spelled_memo, spelled_entry, spelled_entries, spelled_bodies, AreMemos, IsNumbers, IsStrings, count_bodies, IsEntry, AreEntries, AreBodies}
use Rattle.dir_codec.proofs.Whole.{memos_few, note_bytes, site_fits, span_fits, view_bytes}

-- two numbers with bytes behind them
front_4 : (x y : ℕ) (a b : List ℕ) → x < 2 ^ 32 → y < 2 ^ 32 → little_bytes 4 x ++ a ≡ little_bytes 4 y ++ b → (x ≡ y) × (a ≡ b)
front_4 x y a b fits also is = (sym (little_number-reads_back 4 x a fits) ∙ ap (λ (l : List ℕ). little_number 4 l) is ∙ little_number-reads_back 4 y b also, ap (λ (l : List ℕ). drop 4 l) is)

front_8 : (x y : ℕ) (a b : List ℕ) → x < 2 ^ 64 → y < 2 ^ 64 → little_bytes 8 x ++ a ≡ little_bytes 8 y ++ b → (x ≡ y) × (a ≡ b)
front_8 x y a b fits also is = (sym (little_number-reads_back 8 x a fits) ∙ ap (λ (l : List ℕ). little_number 8 l) is ∙ little_number-reads_back 8 y b also, ap (λ (l : List ℕ). drop 8 l) is)

first_of : List ℕ → ℕ
first_of [] = 0
first_of (x ∷ xs) = x

front_width : (w u : Width) (a b : List ℕ) → bit_count w ∷ a ≡ bit_count u ∷ b → (w ≡ u) × (a ≡ b)
unfolding first_of
front_width w u a b is = (same_width w u (ap first_of is), ap (λ (l : List ℕ). drop 1 l) is)

front_text : (x y a b : List ℕ) → length x ≡ length y → x ++ a ≡ y ++ b → (x ≡ y) × (a ≡ b)
front_text x y a b same is = (
  sym (take_at x a (length x) refl) ∙ ap (λ (l : List ℕ). take (length x) l) is ∙ take_at y b (length x) (sym same),
  sym (drop_at x a (length x) refl) ∙ ap (λ (l : List ℕ). drop (length x) l) is ∙ drop_at y b (length x) (sym same),
)

spans_are : (s t : Span) → s.place ≡ t.place → s.len ≡ t.len → s ≡ t
spans_are s t place len = let span : ℕ → ℕ → Span = λ p l. record { place = p; len = l } in ap (λ (p : ℕ). span p s.len) place ∙ ap (λ (l : ℕ). span t.place l) len

module _ (number end : ℕ) (high : end < 2 ^ 64) where
  front_span : (s t : Span) (a b : List ℕ) → (s.place < 2 ^ 64) × (s.len < 2 ^ 64) → (t.place < 2 ^ 64) × (t.len < 2 ^ 64) → spelled_span s ++ a ≡ spelled_span t ++ b → (s ≡ t) × (a ≡ b)
  front_span s t a b one two is =
      let places = front_8 s.place t.place (little_bytes 8 s.len ++ a) (little_bytes 8 t.len ++ b) one.0 two.0 is in
      let lens = front_8 s.len t.len a b one.1 two.1 places.1 in
      (spans_are s t places.0 lens.0, lens.1)

  one_memos : (rows least : ℕ) (ms ns : List Memo) (a b : List ℕ) → rows ≤ max_rows → AreMemos end rows least ms → AreMemos end rows least ns → length ms ≡ length ns
      → flat_map spelled_memo ms ++ a ≡ flat_map spelled_memo ns ++ b → (ms ≡ ns) × (a ≡ b)
  one_memos rows least [] [] a b few one two same is = (refl, is)
  one_memos rows least [] (n ∷ ns) a b few one two same is = absurd (omega (arith, same))
  one_memos rows least (m ∷ ms) [] a b few one two same is = absurd (omega (arith, same))
  one_memos rows least (m ∷ ms) (n ∷ ns) a b few one two same is =
      let below : m.row < rows = one.1 in
      let under : n.row < rows = two.1 in
      let rows_ = front_4 m.row n.row (spelled_span m.span ++ (flat_map spelled_memo ms ++ a)) (spelled_span n.span ++ (flat_map spelled_memo ns ++ b)) (omega (arith, below, few)) (omega (arith, under, few)) is in
      let spans = front_span m.span n.span (flat_map spelled_memo ms ++ a) (flat_map spelled_memo ns ++ b) (site_fits end m.span high one.2) (site_fits end n.span high two.2) rows_.1 in
      let from : AreMemos end rows (m.row + 1) ns = subst (λ (r : ℕ). AreMemos end rows (r + 1) ns) (sym rows_.0) two.5 in
      let rest = one_memos rows (m.row + 1) ms ns a b few one.5 from (omega (arith, same)) spans.1 in
      let memo : ℕ → Span → Memo = λ r s. record { row = r; span = s } in
      (ap (λ (r : ℕ). memo r m.span ∷ ms) rows_.0 ∙ ap (λ (s : Span). memo n.row s ∷ ms) spans.0 ∙ ap (λ (l : List Memo). n ∷ l) rest.0, rest.1)

  one_strings : (rows : ℕ) (w u : Width) (s t x y : Span) (ms ns : List Memo) (a b : List ℕ) → rows ≤ max_rows → IsStrings end rows w s x ms → IsStrings end rows u t y ns
      → spelled_entry (strings w s x ms) ++ a ≡ spelled_entry (strings u t y ns) ++ b → (strings w s x ms ≡ strings u t y ns) × (a ≡ b)
  one_strings rows w u s t x y ms ns a b few one two is =
      let ma = flat_map spelled_memo ms ++ a in
      let nb = flat_map spelled_memo ns ++ b in
      let widths = front_width w u (spelled_span s ++ (spelled_span x ++ (little_bytes 4 (length ms) ++ ma))) (spelled_span t ++ (spelled_span y ++ (little_bytes 4 (length ns) ++ nb))) is in
      let sizes = front_span s t (spelled_span x ++ (little_bytes 4 (length ms) ++ ma)) (spelled_span y ++ (little_bytes 4 (length ns) ++ nb)) (span_fits end s high one.sizes_are.span) (span_fits end t high two.sizes_are.span) widths.1 in
      let shorts = front_span x y (little_bytes 4 (length ms) ++ ma) (little_bytes 4 (length ns) ++ nb) (span_fits end x high one.short_is) (span_fits end y high two.short_is) sizes.1 in
      let m = memos_few end rows 0 ms one.memos_are in
      let n = memos_few end rows 0 ns two.memos_are in
      let counts = front_4 (length ms) (length ns) ma nb (omega (arith, m, few)) (omega (arith, n, few)) shorts.1 in
      let memos = one_memos rows 0 ms ns a b few one.memos_are two.memos_are counts.0 counts.1 in
      (ap (λ (v : Width). strings v s x ms) widths.0 ∙ ap (λ (z : Span). strings u z x ms) sizes.0 ∙ ap (λ (z : Span). strings u t z ms) shorts.0 ∙ ap (λ (l : List Memo). strings u t y l) memos.0, memos.1)

  one_numbers : (rows most : ℕ) (w u : Width) (s t : Span) (a b : List ℕ) → IsNumbers end rows most w s → IsNumbers end rows most u t → spelled_entry (numbers w s) ++ a ≡ spelled_entry (numbers u t) ++ b
      → (numbers w s ≡ numbers u t) × (a ≡ b)
  one_numbers rows most w u s t a b one two is =
      let widths = front_width w u (spelled_span s ++ a) (spelled_span t ++ b) is in
      let blocks = front_span s t a b (span_fits end s high one.span) (span_fits end t high two.span) widths.1 in
      (ap (λ (v : Width). numbers v s) widths.0 ∙ ap (λ (z : Span). numbers u z) blocks.0, blocks.1)

  mutual
    one_entry : (rows : ℕ) (d : Domain) (e f : Entry) (a b : List ℕ) → rows ≤ max_rows → IsEntry end rows d e → IsEntry end rows d f → spelled_entry e ++ a ≡ spelled_entry f ++ b → (e ≡ f) × (a ≡ b)
    one_entry rows Domain.integer (numbers w s) (numbers u t) a b few one two is = one_numbers rows 32 w u s t a b one two is
    one_entry rows Domain.long (numbers w s) (numbers u t) a b few one two is = one_numbers rows 64 w u s t a b one two is
    one_entry rows Domain.text (strings w s x ms) (strings u t y ns) a b few one two is = one_strings rows w u s t x y ms ns a b few one two is
    one_entry rows Domain.bytes (strings w s x ms) (strings u t y ns) a b few one two is = one_strings rows w u s t x y ms ns a b few one two is
    one_entry rows (Domain.relation h) (tables bs) (tables cs) a b few one two is = let same = one_bodies h bs cs a b one.1 two.1 (one.0 ∙ sym two.0) is in (ap tables same.0, same.1)
    one_entry rows Domain.integer (numbers w s) (strings u t y ns) a b few one two is = absurd two
    one_entry rows Domain.integer (numbers w s) (tables cs) a b few one two is = absurd two
    one_entry rows Domain.integer (strings w s x ms) f a b few one two is = absurd one
    one_entry rows Domain.integer (tables bs) f a b few one two is = absurd one
    one_entry rows Domain.long (numbers w s) (strings u t y ns) a b few one two is = absurd two
    one_entry rows Domain.long (numbers w s) (tables cs) a b few one two is = absurd two
    one_entry rows Domain.long (strings w s x ms) f a b few one two is = absurd one
    one_entry rows Domain.long (tables bs) f a b few one two is = absurd one
    one_entry rows Domain.text (strings w s x ms) (numbers u t) a b few one two is = absurd two
    one_entry rows Domain.text (strings w s x ms) (tables cs) a b few one two is = absurd two
    one_entry rows Domain.text (numbers w s) f a b few one two is = absurd one
    one_entry rows Domain.text (tables bs) f a b few one two is = absurd one
    one_entry rows Domain.bytes (strings w s x ms) (numbers u t) a b few one two is = absurd two
    one_entry rows Domain.bytes (strings w s x ms) (tables cs) a b few one two is = absurd two
    one_entry rows Domain.bytes (numbers w s) f a b few one two is = absurd one
    one_entry rows Domain.bytes (tables bs) f a b few one two is = absurd one
    one_entry rows (Domain.relation h) (tables bs) (numbers u t) a b few one two is = absurd two
    one_entry rows (Domain.relation h) (tables bs) (strings u t y ns) a b few one two is = absurd two
    one_entry rows (Domain.relation h) (numbers w s) f a b few one two is = absurd one
    one_entry rows (Domain.relation h) (strings w s x ms) f a b few one two is = absurd one

    one_entries : (rows : ℕ) (h : Heading) (es fs : Entries) (a b : List ℕ) → rows ≤ max_rows → AreEntries end rows h es → AreEntries end rows h fs → spelled_entries es ++ a ≡ spelled_entries fs ++ b → (es ≡ fs) × (a ≡ b)
    one_entries rows no_attributes no_entries no_entries a b few one two is = (refl, is)
    one_entries rows no_attributes no_entries (entry f fs) a b few one two is = absurd two
    one_entries rows no_attributes (entry e es) fs a b few one two is = absurd one
    one_entries rows (attribute n d h) no_entries fs a b few one two is = absurd one
    one_entries rows (attribute n d h) (entry e es) no_entries a b few one two is = absurd two
    one_entries rows (attribute n d h) (entry e es) (entry f fs) a b few one two is =
        let first = one_entry rows d e f (spelled_entries es ++ a) (spelled_entries fs ++ b) few one.0 two.0 (sym (append_assoc (spelled_entry e) (spelled_entries es) a) ∙ is ∙ append_assoc (spelled_entry f) (spelled_entries fs) b) in
        let rest = one_entries rows h es fs a b few one.1 two.1 first.1 in
        (ap (λ (g : Entry). entry g es) first.0 ∙ ap (λ (l : Entries). entry f l) rest.0, rest.1)

    one_bodies : (h : Heading) (bs cs : Bodies) (a b : List ℕ) → AreBodies end h bs → AreBodies end h cs → count_bodies bs ≡ count_bodies cs → spelled_bodies bs ++ a ≡ spelled_bodies cs ++ b → (bs ≡ cs) × (a ≡ b)
    one_bodies h no_bodies no_bodies a b one two same is = (refl, is)
    one_bodies h no_bodies (body q fs cs) a b one two same is = absurd (omega (arith, same))
    one_bodies h (body r es bs) no_bodies a b one two same is = absurd (omega (arith, same))
    one_bodies h (body r es bs) (body q fs cs) a b one two same is =
        let few : r ≤ max_rows = one.0 in
        let also : q ≤ max_rows = two.0 in
        let rows = front_4 r q ((spelled_entries es ++ spelled_bodies bs) ++ a) ((spelled_entries fs ++ spelled_bodies cs) ++ b) (omega (arith, few)) (omega (arith, also)) is in
        let there : AreEntries end r h fs = subst (λ (k : ℕ). AreEntries end k h fs) (sym rows.0) two.1 in
        let columns = one_entries r h es fs (spelled_bodies bs ++ a) (spelled_bodies cs ++ b) few one.1 there
        (sym (append_assoc (spelled_entries es) (spelled_bodies bs) a) ∙ rows.1 ∙ append_assoc (spelled_entries fs) (spelled_bodies cs) b) in
        let rest = one_bodies h bs cs a b one.2 two.2 (omega (arith, same)) columns.1 in
        (ap (λ (k : ℕ). body k es bs) rows.0 ∙ ap (λ (l : Entries). body q l bs) columns.0 ∙ ap (λ (l : Bodies). body q fs l) rest.0, rest.1)

  one_notes : (least : ℕ) (ms ns : List NoteEntry) (a b : List ℕ) → number < 2 ^ 64 → AreNotesFrom number least ms → AreNotesFrom number least ns → length ms ≡ length ns
      → flat_map spelled_note ms ++ a ≡ flat_map spelled_note ns ++ b → (ms ≡ ns) × (a ≡ b)
  one_notes least [] [] a b top one two same is = (refl, is)
  one_notes least [] (n ∷ ns) a b top one two same is = absurd (omega (arith, same))
  one_notes least (m ∷ ms) [] a b top one two same is = absurd (omega (arith, same))
  one_notes least (m ∷ ms) (n ∷ ns) a b top one two same is =
      let upto : m.number ≤ number = one.1 in
      let also : n.number ≤ number = two.1 in
      let short : length m.text ≤ 255 = one.3 in
      let brief : length n.text ≤ 255 = two.3 in
      let ma = flat_map spelled_note ms ++ a in
      let nb = flat_map spelled_note ns ++ b in
      let numbers_ = front_8 m.number n.number (little_bytes 4 (length m.text) ++ (m.text ++ ma)) (little_bytes 4 (length n.text) ++ (n.text ++ nb)) (omega (arith, upto, top)) (omega (arith, also, top))
      (sym (note_bytes m (flat_map spelled_note ms) a) ∙ is ∙ note_bytes n (flat_map spelled_note ns) b) in
      let lens = front_4 (length m.text) (length n.text) (m.text ++ ma) (n.text ++ nb) (omega (arith, short)) (omega (arith, brief)) numbers_.1 in
      let texts = front_text m.text n.text ma nb lens.0 lens.1 in
      let from : AreNotesFrom number (m.number + 1) ns = subst (λ (k : ℕ). AreNotesFrom number (k + 1) ns) (sym numbers_.0) two.5 in
      let rest = one_notes (m.number + 1) ms ns a b top one.5 from (omega (arith, same)) texts.1 in
      let note : ℕ → List ℕ → NoteEntry = λ k t. record { number = k; text = t } in
      (ap (λ (k : ℕ). note k m.text ∷ ms) numbers_.0 ∙ ap (λ (t : List ℕ). note n.number t ∷ ms) texts.0 ∙ ap (λ (l : List NoteEntry). n ∷ l) rest.0, rest.1)

  one_views : (vs ws : List ViewEntry) (a b : List ℕ) → All (IsViewEntry end) vs → All (IsViewEntry end) ws → length vs ≡ length ws
      → flat_map spelled_view vs ++ a ≡ flat_map spelled_view ws ++ b → (vs ≡ ws) × (a ≡ b)
  one_views [] [] a b one two same is = (refl, is)
  one_views [] (w ∷ ws) a b one two same is = absurd (omega (arith, same))
  one_views (v ∷ vs) [] a b one two same is = absurd (omega (arith, same))
  one_views (v ∷ vs) (w ∷ ws) a b one two same is =
      let here = All-head (IsViewEntry end) v vs one in
      let there = All-head (IsViewEntry end) w ws two in
      let x = spelling v.name v.schema in
      let y = spelling w.name w.schema in
      let short : length x ≤ max_structure = here.short in
      let brief : length y ≤ max_structure = there.short in
      let few : v.rows ≤ max_rows = here.few in
      let also : w.rows ≤ max_rows = there.few in
      let va = flat_map spelled_view vs ++ a in
      let wb = flat_map spelled_view ws ++ b in
      let lens = front_4 (length x) (length y) (x ++ (little_bytes 4 v.rows ++ (spelled_entries v.columns ++ va))) (y ++ (little_bytes 4 w.rows ++ (spelled_entries w.columns ++ wb))) (omega (arith, short)) (omega (arith, brief))
      (sym (view_bytes v (flat_map spelled_view vs) a) ∙ is ∙ view_bytes w (flat_map spelled_view ws) b) in
      let texts = front_text x y (little_bytes 4 v.rows ++ (spelled_entries v.columns ++ va)) (little_bytes 4 w.rows ++ (spelled_entries w.columns ++ wb)) lens.0 lens.1 in
      let structures = one_structure x v.name w.name v.schema w.schema (record { named = here.named; whole = here.whole; is = refl }) (record { named = there.named; whole = there.whole; is = texts.0 }) in
      let rows = front_4 v.rows w.rows (spelled_entries v.columns ++ va) (spelled_entries w.columns ++ wb) (omega (arith, few)) (omega (arith, also)) texts.1 in
      let entries : AreEntries end v.rows (heading_of v.schema) w.columns = subst (λ (k : ℕ). AreEntries end k (heading_of v.schema) w.columns) (sym rows.0) (subst (λ (s : List Attribute). AreEntries end w.rows (heading_of s) w.columns) (sym structures.1) there.entries) in
      let columns = one_entries v.rows (heading_of v.schema) v.columns w.columns va wb few here.entries entries rows.1 in
      let rest = one_views vs ws a b (All-tail (IsViewEntry end) v vs one) (All-tail (IsViewEntry end) w ws two) (omega (arith, same)) columns.1 in
      let view : List ℕ → List Attribute → ℕ → Entries → ViewEntry = λ n s r c. record { name = n; schema = s; rows = r; columns = c } in (
        ap (λ (n : List ℕ). view n v.schema v.rows v.columns ∷ vs) structures.0 ∙ ap (λ (s : List Attribute). view w.name s v.rows v.columns ∷ vs) structures.1
            ∙ ap (λ (r : ℕ). view w.name w.schema r v.columns ∷ vs) rows.0 ∙ ap (λ (c : Entries). view w.name w.schema w.rows c ∷ vs) columns.0 ∙ ap (λ (l : List ViewEntry). w ∷ l) rest.0,
        rest.1,
      )

  same_notes : (ms ns : List NoteEntry) → number < 2 ^ 64 → AreNotesFrom number 1 ms → AreNotesFrom number 1 ns → length ms ≤ 64 → length ns ≤ 64 → (length ms ≡ 0 → length ns ≡ 0) → (length ns ≡ 0 → length ms ≡ 0) → spelled_notes ms ≡ spelled_notes ns → ms ≡ ns
  same_notes [] [] top one two few also here there is = refl
  same_notes [] (n ∷ ns) top one two few also here there is = absurd (let z = here refl in omega (arith, z))
  same_notes (m ∷ ms) [] top one two few also here there is = absurd (let z = there refl in omega (arith, z))
  same_notes (m ∷ ms) (n ∷ ns) top one two few also here there is =
      let counts = front_4 (length (m ∷ ms)) (length (n ∷ ns)) (flat_map spelled_note (m ∷ ms)) (flat_map spelled_note (n ∷ ns)) (omega (arith, few)) (omega (arith, also)) is in
      (one_notes 1 (m ∷ ms) (n ∷ ns) [] [] top one two counts.0 (append-nil (flat_map spelled_note (m ∷ ms)) ∙ counts.1 ∙ sym (append-nil (flat_map spelled_note (n ∷ ns))))).0

-- two directories of one mark with the same bytes are one
pub one_dir : (version number end : ℕ) (d e : Dir) → number < 2 ^ 64 → end < 2 ^ 64 → IsDir version number end d → IsDir version number end e → spelled d ≡ spelled e → d ≡ e
one_dir version number end d e top high one two is =
    let few : length d.views ≤ 1024 = one.few in
    let also : length e.views ≤ 1024 = two.few in
    let counts = front_4 (length d.views) (length e.views) (flat_map spelled_view d.views ++ spelled_notes d.notes) (flat_map spelled_view e.views ++ spelled_notes e.notes) (omega (arith, few)) (omega (arith, also)) is in
    let views = one_views number end high d.views e.views (spelled_notes d.notes) (spelled_notes e.notes) one.each two.each counts.0 counts.1 in
    let notes = same_notes number end high d.notes e.notes top one.notes.each two.notes.each one.notes.few two.notes.few (none_too d e one.notes.counted two.notes.counted) (none_too e d two.notes.counted one.notes.counted) views.1 in
    let dir : List ViewEntry → List NoteEntry → Dir = λ v n. record { views = v; notes = n } in
    ap (λ (v : List ViewEntry). dir v d.notes) views.0 ∙ ap (λ (n : List NoteEntry). dir e.views n) notes
  where
    none_too : (d e : Dir) → ((version ≡ 1) × (d.notes ≡ [])) ⊎ ((version ≡ 2) × (0 < length d.notes)) → ((version ≡ 1) × (e.notes ≡ [])) ⊎ ((version ≡ 2) × (0 < length e.notes)) → length d.notes ≡ 0 → length e.notes ≡ 0
    none_too d e (inl a) (inl b) none = ap length b.1
    none_too d e (inl a) (inr b) none = absurd (let x = a.0 in let y = b.0 in omega (arith, x, y))
    none_too d e (inr a) (inl b) none = ap length b.1
    none_too d e (inr a) (inr b) none = absurd (let y = a.1 in omega (arith, y, none))
