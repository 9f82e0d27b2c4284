-- From field to field: the way goes on from where it came to, it is one, and it ends at one flaw.
use Rattle.std.proofs.Common.{◌≡◌, ℕ, ◌≤◌, ⊎_elim, List, [], ◌∷◌, ◌++◌, length, take, drop, refl, sym, ◌∙◌, ap, subst, arith, length-drop}
use Rattle.bit_pack.specs.declared.widths.Width.{Width}
use Rattle.bit_pack.specs.Packed.{packed_len}
use Rattle.mk_value.specs.Heading.{Attribute, heading_of}
use Rattle.struct_text.proofs.Unique.{one_structure}
use Rattle.bit_pack.proofs.LeastWidth.{same_width}
use Rattle.dir_codec.specs.Fields.{Due, view_count, text_length, structure, row_count, width, sizes_width, block, short_block, memo_block, memo_count, memo_row, note_count, note_number, note_length, note_text, field_len, views_due, IsField, Goes, stays, takes, IsFlawed, IsFirstFlaw}

-- one way after another
pub goes_joins : {number end : ℕ} {one two three : List Due} {a b c : List ℕ} → Goes number end one a two b → Goes number end two b three c → Goes number end one a three c
goes_joins (stays due bytes) then = then
goes_joins (takes d due next last bytes rest whole is on) then = takes d due next _ bytes _ whole is (goes_joins on then)

first_byte : List ℕ → ℕ
first_byte [] = 0
first_byte (b ∷ bytes) = b

-- a field settles what is due in its place
pub one_next : (number end : ℕ) (d : Due) (f : List ℕ) (next other : List Due) → IsField number end d f next → IsField number end d f other → next ≡ other
unfolding first_byte
one_next number end view_count f next other one two = one.1 ∙ sym two.1
one_next number end (text_length more names) f next other one two = one.1 ∙ sym two.1
one_next number end (structure len more names) f next other (n, p, spells, new, is) (m, q, spells', new', is') =
    let same = one_structure f n m p q spells spells' in
    is ∙ ap (λ (s : List Attribute). row_count (heading_of s) ∷ views_due more (n ∷ names)) same.1
    ∙ ap (λ (k : List ℕ). row_count (heading_of q) ∷ views_due more (k ∷ names)) same.0 ∙ sym is'
one_next number end (row_count h) f next other one two = one.1 ∙ sym two.1
one_next number end (width rows most) f next other (w, bits, narrow, is) (u, bits', narrow', is') =
    is ∙ ap (λ (v : Width). block (packed_len v rows) ∷ []) (same_width w u (ap first_byte (sym bits ∙ bits'))) ∙ sym is'
one_next number end (sizes_width rows) f next other (w, bits, narrow, is) (u, bits', narrow', is') =
    is ∙ ap (λ (v : Width). block (packed_len v rows) ∷ short_block ∷ memo_count rows ∷ []) (same_width w u (ap first_byte (sym bits ∙ bits'))) ∙ sym is'
one_next number end (block len) f next other one two = one.2 ∙ sym two.2
one_next number end short_block f next other one two = one.1 ∙ sym two.1
one_next number end memo_block f next other one two = one.3 ∙ sym two.3
one_next number end (memo_count rows) f next other one two = one.1 ∙ sym two.1
one_next number end (memo_row more rows least) f next other one two = one.2 ∙ sym two.2
one_next number end note_count f next other one two = one.2 ∙ sym two.2
one_next number end (note_number more least) f next other one two = one.2 ∙ sym two.2
one_next number end note_length f next other one two = one.2 ∙ sym two.2
one_next number end (note_text len) f next other one two = one.1 ∙ sym two.1

-- no field can be taken here
pub IsStuck : ℕ → ℕ → List Due → List ℕ → Type 0
IsStuck number end [] bytes = Unit {0}
IsStuck number end (d ∷ due) bytes = (next : List Due) → field_len d ≤ length bytes → IsField number end d (take (field_len d) bytes) next → ⊥

pub stuck_flaw : (number end : ℕ) (due : List Due) (bytes : List ℕ) → IsFlawed number end due bytes → IsStuck number end due bytes
unfolding IsStuck
stuck_flaw number end [] bytes flawed = tt
stuck_flaw number end (d ∷ due) bytes flawed = λ next whole is. ⊎_elim (λ short. omega (arith, short, whole)) (λ wrong. wrong next is) flawed

pub stuck_end : (number end : ℕ) (bytes : List ℕ) → IsStuck number end [] bytes
unfolding IsStuck
stuck_end number end bytes = tt

-- where two ways from one place end with nothing more to take, they end at one place
pub one_end : {number end : ℕ} {due one two : List Due} {bytes a b : List ℕ} → Goes number end due bytes one a → Goes number end due bytes two b
    → IsStuck number end one a → IsStuck number end two b → (one ≡ two) × (a ≡ b)
unfolding IsStuck
one_end (stays due bytes) (stays _ _) first second = (refl, refl)
one_end (stays _ _) (takes d due next last bytes rest whole is on) first second = absurd (first next whole is)
one_end (takes d due next last bytes rest whole is on) (stays _ _) first second = absurd (second next whole is)
one_end {number} {end} {two = two} {b = b} (takes d due next last bytes rest whole is on) (takes _ _ other _ _ _ whole' is' on') first second =
    let same : other ≡ next = one_next number end d (take (field_len d) bytes) other next is' is in
    one_end on (subst (λ (n : List Due). Goes number end (n ++ due) (drop (field_len d) bytes) two b) same on') first second

-- no bytes have two first flaws
pub one_first_flaw : (version number end : ℕ) (bytes : List ℕ) (p q : ℕ) → IsFirstFlaw version number end bytes p → IsFirstFlaw version number end bytes q → p ≡ q
one_first_flaw version number end bytes p q one two =
    let ends = one_end one.before two.before (stuck_flaw number end one.due (drop p bytes) one.flawed) (stuck_flaw number end two.due (drop q bytes) two.flawed) in
    let lens = ap length ends.1 in
    let a = length-drop p bytes in
    let b = length-drop q bytes in
    let i = one.within in
    let j = two.within in
    omega (arith, lens, a, b, i, j)
