-- From field to field: the way goes on from where it came to, stays as it is whatever comes behind it, is one, and ends at one place.
use Rattle.std.proofs.Common.{◌≡◌, ℕ, ◌≤◌, List, [], ◌∷◌, ◌++◌, length, take, drop, refl, sym, ◌∙◌, ap, subst, arith, length-append, length-drop}
use Rattle.std.proofs.lemmas.List.{append-nil, append_assoc, drop-append-le, drop_at, take-append-le, take_at}
use Rattle.mk_value.specs.Heading.{Attribute, heading_of}
use Rattle.struct_text.proofs.Unique.{one_structure}
use Rattle.stream_codec.specs.Fields.{Due, opening, view_count, text_length, structure, row_count, number, content_length, content, field_len, views_due, all_due, IsField, Goes, stays, takes, IsWrong, IsShort, IsWrongAt, IsCutOffAt}

-- ---- the way on

-- one way after another
pub goes_joins : {one two three : List Due} {a b c : List ℕ} → Goes one a two b → Goes two b three c → Goes one a three c
goes_joins (stays due bytes) then = then
goes_joins (takes d due next last bytes rest whole is on) then = takes d due next _ bytes _ whole is (goes_joins on then)

-- the same way with more bytes behind it
pub goes_before_bytes : {due last : List Due} {bytes rest : List ℕ} (more : List ℕ) → Goes due bytes last rest → Goes due (bytes ++ more) last (rest ++ more)
goes_before_bytes more (stays due bytes) = stays due (bytes ++ more)
goes_before_bytes more (takes d due next last bytes rest whole is on) =
    let long = length-append bytes more in
    takes d due next last (bytes ++ more) (rest ++ more) (omega (arith, whole, long))
    (subst (λ (f : List ℕ). IsField d f next) (sym (take-append-le (field_len d) bytes more whole)) is)
    (subst (λ (b : List ℕ). Goes (next ++ due) b last (rest ++ more)) (sym (drop-append-le (field_len d) bytes more whole)) (goes_before_bytes more on))

-- the same way with more due behind it
pub goes_before_dues : {due last : List Due} {bytes rest : List ℕ} (more : List Due) → Goes due bytes last rest → Goes (due ++ more) bytes (last ++ more) rest
goes_before_dues more (stays due bytes) = stays (due ++ more) bytes
goes_before_dues more (takes d due next last bytes rest whole is on) =
    takes d (due ++ more) next (last ++ more) bytes rest whole is
    (subst (λ (l : List Due). Goes l (drop (field_len d) bytes) (last ++ more) rest) (append_assoc next due more) (goes_before_dues more on))

-- one whole field, with these bytes behind it
pub goes_field : (d : Due) (due next : List Due) (f rest : List ℕ) → length f ≡ field_len d → IsField d f next → Goes (d ∷ due) (f ++ rest) (next ++ due) rest
goes_field d due next f rest long is = takes d due next (next ++ due) (f ++ rest) rest
    (let e = length-append f rest in omega (arith, long, e))
    (subst (λ (bytes : List ℕ). IsField d bytes next) (sym (take_at f rest (field_len d) long)) is)
    (subst (λ (bytes : List ℕ). Goes (next ++ due) bytes (next ++ due) rest) (sym (drop_at f rest (field_len d) long)) (stays (next ++ due) rest))

-- one field more at the end of a way: of the bytes that are left, and of bytes that come
pub goes_on : {due left : List Due} {bytes rest : List ℕ} (d : Due) (next : List Due) → Goes due bytes (d ∷ left) rest → field_len d ≤ length rest
    → IsField d (take (field_len d) rest) next → Goes due bytes (next ++ left) (drop (field_len d) rest)
goes_on {left = left} {rest = rest} d next before whole is = goes_joins before (takes d left next (next ++ left) rest (drop (field_len d) rest) whole is (stays (next ++ left) (drop (field_len d) rest)))

pub goes_further : {due left : List Due} {bytes : List ℕ} (d : Due) (next : List Due) (f : List ℕ) → Goes due bytes (d ∷ left) [] → length f ≡ field_len d
    → IsField d f next → Goes due (bytes ++ f) (next ++ left) []
goes_further {left = left} d next f before long is =
    goes_joins (goes_before_bytes f before) (subst (λ (b : List ℕ). Goes (d ∷ left) b (next ++ left) []) (append-nil f) (goes_field d left next f [] long is))

-- what a way has taken stands in front of what it leaves
pub goes_within : {due last : List Due} {bytes rest : List ℕ} → Goes due bytes last rest → length rest ≤ length bytes
goes_within (stays due bytes) = omega arith
goes_within (takes d due next last bytes rest whole is on) = let l = length-drop (field_len d) bytes in let w = goes_within on in omega (arith, l, w)

-- ---- the way is one

-- a field settles what is due in its place
pub one_next : (d : Due) (f : List ℕ) (next other : List Due) → IsField d f next → IsField d f other → next ≡ other
one_next opening f next other one two = one.1 ∙ sym two.1
one_next view_count f next other one two = one.1 ∙ sym two.1
one_next (text_length more names) f next other one two = one.1 ∙ sym two.1
one_next (structure len more names) f next other (n, p, spells, new, is) (m, q, spells', new', is') =
    let same = one_structure f n m p q spells spells' in
    is ∙ ap (λ (s : List Attribute). row_count (heading_of s) ∷ views_due more (n ∷ names)) same.1
    ∙ ap (λ (k : List ℕ). row_count (heading_of q) ∷ views_due more (k ∷ names)) same.0 ∙ sym is'
one_next (row_count h) f next other one two = one.1 ∙ sym two.1
one_next (number len) f next other one two = one ∙ sym two
one_next (content_length d) f next other one two = one.1 ∙ sym two.1
one_next (content d len) f next other one two = one.1 ∙ sym two.1

-- no field can be taken here
pub IsStuck : List Due → List ℕ → Type 0
IsStuck [] bytes = Unit {0}
IsStuck (d ∷ due) bytes = (next : List Due) → field_len d ≤ length bytes → IsField d (take (field_len d) bytes) next → ⊥

pub stuck_end : (bytes : List ℕ) → IsStuck [] bytes
unfolding IsStuck
stuck_end bytes = tt

pub wrong_stuck : (due : List Due) (bytes : List ℕ) → IsWrong due bytes → IsStuck due bytes
unfolding IsStuck
wrong_stuck [] bytes wrong = tt
wrong_stuck (d ∷ due) bytes wrong = λ next whole is. wrong.1 next is

pub short_stuck : (due : List Due) (bytes : List ℕ) → IsShort due bytes → IsStuck due bytes
unfolding IsStuck
short_stuck [] bytes short = tt
short_stuck (d ∷ due) bytes short = λ next whole is. omega (arith, short, whole)

-- where two ways from one place end with nothing more to take, they end at one place
pub one_end : {due one two : List Due} {bytes a b : List ℕ} → Goes due bytes one a → Goes due bytes two b → IsStuck one a → IsStuck two b → (one ≡ two) × (a ≡ b)
unfolding IsStuck
one_end (stays due bytes) (stays _ _) first second = (refl, refl)
one_end (stays _ _) (takes d due next last bytes rest whole is on) first second = absurd (first next whole is)
one_end (takes d due next last bytes rest whole is on) (stays _ _) first second = absurd (second next whole is)
one_end {two = two} {b = b} (takes d due next last bytes rest whole is on) (takes _ _ other _ _ _ whole' is' on') first second =
    let same : other ≡ next = one_next d (take (field_len d) bytes) other next is' is in
    one_end on (subst (λ (n : List Due). Goes (n ++ due) (drop (field_len d) bytes) two b) same on') first second

-- ---- the place of a refusal

-- what is left from two places is the same only where the places are
one_left : (bytes : List ℕ) (p q : ℕ) → p ≤ length bytes → q ≤ length bytes → drop p bytes ≡ drop q bytes → p ≡ q
one_left bytes p q below within same =
    let lens = ap length same in
    let a = length-drop p bytes in
    let b = length-drop q bytes in omega (arith, lens, a, b, below, within)

-- no bytes are wrong at two places, or end within two fields, or both
pub one_wrong : (bytes : List ℕ) (one two : ℕ) → IsWrongAt bytes one → IsWrongAt bytes two → one ≡ two
one_wrong bytes one two first second =
    let ends = one_end first.before second.before (wrong_stuck first.due (drop one bytes) first.there) (wrong_stuck second.due (drop two bytes) second.there) in
    one_left bytes one two first.within second.within ends.1

pub one_cut : (bytes : List ℕ) (one two : ℕ) → IsCutOffAt bytes one → IsCutOffAt bytes two → one ≡ two
one_cut bytes one two first second =
    let ends = one_end first.before second.before (short_stuck first.due (drop one bytes) first.there) (short_stuck second.due (drop two bytes) second.there) in
    one_left bytes one two first.within second.within ends.1

-- what is wrong is held whole
wrong_whole : (due : List Due) (bytes : List ℕ) → IsWrong due bytes → IsShort due bytes → ⊥
wrong_whole [] bytes wrong short = short
wrong_whole (d ∷ due) bytes wrong short = let w = wrong.0 in omega (arith, w, short)

pub wrong_or_cut : (bytes : List ℕ) (one two : ℕ) → IsWrongAt bytes one → IsCutOffAt bytes two → ⊥
wrong_or_cut bytes one two first second =
    let ends = one_end first.before second.before (wrong_stuck first.due (drop one bytes) first.there) (short_stuck second.due (drop two bytes) second.there) in
    wrong_whole first.due (drop one bytes) first.there
    (subst (λ (l : List Due). IsShort l (drop one bytes)) (sym ends.0) (subst (λ (b : List ℕ). IsShort second.due b) (sym ends.1) second.there))

-- a way that leaves no dues and no bytes comes to no wrong field, and to none that is cut
nothing_wrong : (due : List Due) (bytes : List ℕ) → [] ≡ due → [] ≡ bytes → IsWrong due bytes → ⊥
nothing_wrong [] bytes none same wrong = wrong (sym same)
nothing_wrong (d ∷ due) bytes none same wrong = cc

nothing_cut : (due : List Due) (bytes : List ℕ) → [] ≡ due → IsShort due bytes → ⊥
nothing_cut [] bytes none short = short
nothing_cut (d ∷ due) bytes none short = cc

pub whole_not_wrong : (bytes : List ℕ) (place : ℕ) → Goes all_due bytes [] [] → IsWrongAt bytes place → ⊥
whole_not_wrong bytes place whole wrong =
    let ends = one_end whole wrong.before (stuck_end []) (wrong_stuck wrong.due (drop place bytes) wrong.there) in
    nothing_wrong wrong.due (drop place bytes) ends.0 ends.1 wrong.there

pub whole_not_cut : (bytes : List ℕ) (place : ℕ) → Goes all_due bytes [] [] → IsCutOffAt bytes place → ⊥
whole_not_cut bytes place whole cut =
    let ends = one_end whole cut.before (stuck_end []) (short_stuck cut.due (drop place bytes) cut.there) in
    nothing_cut cut.due (drop place bytes) ends.0 cut.there

-- a field that is wrong stays so, whatever comes behind it
wrong_before : (due : List Due) (bytes more : List ℕ) → IsWrong due bytes → IsWrong due (bytes ++ more)
wrong_before [] [] more wrong = absurd (wrong refl)
wrong_before [] (b ∷ bytes) more wrong = λ none. cc
wrong_before (d ∷ due) bytes more wrong =
    let long = length-append bytes more in
    let held = wrong.0 in
    (omega (arith, long, held), λ next is. wrong.1 next (subst (λ (f : List ℕ). IsField d f next) (take-append-le (field_len d) bytes more held) is))

pub wrong_stays : (bytes more : List ℕ) (place : ℕ) → IsWrongAt bytes place → IsWrongAt (bytes ++ more) place
wrong_stays bytes more place wrong =
    let long = length-append bytes more in
    let within = wrong.within in
    let left = drop-append-le place bytes more within in
    record {
      due = wrong.due;
      before = subst (λ (b : List ℕ). Goes all_due (bytes ++ more) wrong.due b) (sym left) (goes_before_bytes more wrong.before);
      within = omega (arith, long, within);
      there = subst (λ (b : List ℕ). IsWrong wrong.due b) (sym left) (wrong_before wrong.due (drop place bytes) more wrong.there);
    }
