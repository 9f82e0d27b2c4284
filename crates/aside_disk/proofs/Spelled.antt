-- Records that stand one after another, and the files that they make.
use Rattle.std.proofs.Common.{◌≡◌, refl, sym, ◌∙◌, ap, subst, ℕ, ◌+◌, ◌-◌, ◌^◌, ◌<◌, ◌≤◌, List, [], ◌∷◌, ◌++◌, length, length-append, take, drop, max, arith}
use Rattle.std.proofs.lemmas.List.{append_assoc, append-nil, drop-drop}
use Rattle.std.proofs.Math.Seq.{take-add, take-append_seam, drop-append_seam}
use Rattle.byteorder.specs.Endian.{little_bytes, little_number}
use Rattle.byteorder.specs.Numbers.{little_number-reads_back}
use Rattle.host_io.specs.Calls.{put_bytes}
use Rattle.host_io.specs.Ranges.{bytes_in}
use Rattle.host_io.proofs.Bytes.{length-put_bytes}
use Rattle.aside_disk.specs.Records.{Entry, Fit, Fits, Spells, applied, grown, head_bytes, record_len}
use Rattle.aside_disk.specs.Logical.{records_range}

-- one record more
pub spells_snoc : (entries : List Entry) (log block fill : List ℕ) (entry : Entry) → Spells entries log → block ≡ head_bytes entry ++ (entry.bytes ++ fill)
    → 16 + (length entry.bytes + length fill) ≡ record_len (length entry.bytes) → Spells (entries ++ entry ∷ []) (log ++ block)
spells_snoc [] log block fill entry none is whole =
    (fill, [], ap (λ (l : List ℕ). l ++ block) none ∙ is ∙ ap (λ (l : List ℕ). head_bytes entry ++ (entry.bytes ++ l)) (sym (append-nil fill)), whole, refl)
spells_snoc (e ∷ entries) log block fill entry has is whole = (
  has.0,
  has.1 ++ block,
  ap (λ (l : List ℕ). l ++ block) has.2 ∙ append_assoc (head_bytes e) (e.bytes ++ (has.0 ++ has.1)) block
      ∙ ap (λ (l : List ℕ). head_bytes e ++ l) (append_assoc e.bytes (has.0 ++ has.1) block ∙ ap (λ (l : List ℕ). e.bytes ++ l) (append_assoc has.0 has.1 block)),
  has.3,
  spells_snoc entries has.1 block fill entry has.4 is whole,
)

pub applied_append : (file : List ℕ) (one two : List Entry) → applied file (one ++ two) ≡ applied (applied file one) two
applied_append file [] two = refl
applied_append file (e ∷ one) two = applied_append (put_bytes file e.place e.bytes) one two

pub grown_append : (len : ℕ) (one two : List Entry) → grown len (one ++ two) ≡ grown (grown len one) two
grown_append len [] two = refl
grown_append len (e ∷ one) two = grown_append (max len (e.place + length e.bytes)) one two

pub fit_snoc : (len : ℕ) (entries : List Entry) (entry : Entry) → Fit len entries → Fits (grown len entries) entry → Fit len (entries ++ entry ∷ [])
fit_snoc len [] entry fit fits = (fits, tt)
fit_snoc len (e ∷ entries) entry fit fits = (fit.0, fit_snoc (max len (e.place + length e.bytes)) entries entry fit.1 fits)

pub fit_first : (len : ℕ) (one two : List Entry) → Fit len (one ++ two) → Fit len one
fit_first len [] two fit = tt
fit_first len (e ∷ one) two fit = (fit.0, fit_first (max len (e.place + length e.bytes)) one two fit.1)

pub fit_later : (len : ℕ) (one two : List Entry) → Fit len (one ++ two) → Fit (grown len one) two
fit_later len [] two fit = fit
fit_later len (e ∷ one) two fit = fit_later (max len (e.place + length e.bytes)) one two fit.1

-- how long the file is with its records
pub length-applied : (file : List ℕ) (entries : List Entry) → Fit (length file) entries → length (applied file entries) ≡ grown (length file) entries
length-applied file [] fit = refl
length-applied file (e ∷ entries) fit =
    let l = length-put_bytes file e.place e.bytes fit.0.within in
    length-applied (put_bytes file e.place e.bytes) entries (subst (λ (n : ℕ). Fit n entries) (sym l) fit.1) ∙ ap (λ (n : ℕ). grown n entries) l

-- it ends within 2^63 - 1
pub grown_bound : (len : ℕ) (entries : List Entry) → len < 2 ^ 63 → Fit len entries → grown len entries < 2 ^ 63
grown_bound len [] low fit = low
grown_bound len (e ∷ entries) low fit = grown_bound (max len (e.place + length e.bytes)) entries (let b = fit.0.bound in omega (arith, low, b)) fit.1

-- it is no longer than the base and the log together
pub grown_least : (len : ℕ) (entries : List Entry) (log : List ℕ) → Fit len entries → Spells entries log → grown len entries ≤ len + length log
grown_least len [] log fit has = omega arith
grown_least len (e ∷ entries) log fit has =
    let more = grown_least (max len (e.place + length e.bytes)) entries has.1 fit.1 has.4 in
    let all = ap length has.2 in
    let a = length-append (head_bytes e) (e.bytes ++ (has.0 ++ has.1)) in
    let b = length-append e.bytes (has.0 ++ has.1) in
    let d = length-append has.0 has.1 in
    let w = fit.0.within in
    omega (arith, more, all, a, b, d, w)

-- the bytes of a log that is longer by so many
pub longer_log : (seen : List ℕ) (end n : ℕ) → 256 ≤ end → bytes_in seen (records_range (end + n)) ≡ bytes_in seen (records_range end) ++ bytes_in seen (record { start = end; count = n })
longer_log seen end n behind =
    let whole : end + n - 256 ≡ (end - 256) + n = omega (arith, behind) in
    let back : 256 + (end - 256) ≡ end = omega (arith, behind) in
    ap (λ (k : ℕ). take k (drop 256 seen)) whole ∙ take-add (end - 256) n (drop 256 seen)
    ∙ ap (λ (l : List ℕ). take (end - 256) (drop 256 seen) ++ take n l) (drop-drop (end - 256) 256 seen ∙ ap (λ (k : ℕ). drop k seen) back)

-- ---- the records of a log are one list

one_front : (a b x y : List ℕ) → length a ≡ length b → a ++ x ≡ b ++ y → a ≡ b
one_front a b x y same is = sym (take-append_seam a x) ∙ ap (λ (l : List ℕ). take (length a) l) is ∙ ap (λ (n : ℕ). take n (b ++ y)) same ∙ take-append_seam b y

one_rest : (a b x y : List ℕ) → length a ≡ length b → a ++ x ≡ b ++ y → x ≡ y
one_rest a b x y same is = sym (drop-append_seam a x) ∙ ap (λ (l : List ℕ). drop (length a) l) is ∙ ap (λ (n : ℕ). drop n (b ++ y)) same ∙ drop-append_seam b y

pub place_back : (entry : Entry) (rest : List ℕ) → entry.place < 2 ^ 64 → little_number 8 (head_bytes entry ++ rest) ≡ entry.place
place_back entry rest low = little_number-reads_back 8 entry.place (little_bytes 8 (length entry.bytes) ++ rest) low

pub len_back : (entry : Entry) (rest : List ℕ) → length entry.bytes < 2 ^ 64 → little_number 8 (drop 8 (head_bytes entry ++ rest)) ≡ length entry.bytes
len_back entry rest low = little_number-reads_back 8 (length entry.bytes) rest low

same_entry : (e f : Entry) → e.place ≡ f.place → e.bytes ≡ f.bytes → e ≡ f
same_entry e f place bytes = ap (λ (p : ℕ). (record { place = p; bytes = e.bytes })) place ∙ ap (λ (b : List ℕ). (record { place = f.place; bytes = b })) bytes

same_entries : (e f : Entry) (fs es : List Entry) → e ≡ f → fs ≡ es → f ∷ fs ≡ e ∷ es
same_entries e f fs es first rest = cc

-- Where the first bytes of a log are records, the log's own begin with them, and its rest is spelled by the others.
pub splits : (len start : ℕ) (es all : List Entry) (one two : List ℕ) → Fit len es → Fit start all → Spells es one → Spells all (one ++ two) → (rest : List Entry) × (all ≡ es ++ rest) × Spells rest two
splits len start [] all one two fit also first second = (all, refl, subst (λ (l : List ℕ). Spells all (l ++ two)) first second)
splits len start (e ∷ es) [] one two fit also first second = absurd (let l = ap length second in let f = ap length first.2 in let a = length-append one two in omega (arith, l, f, a))
splits len start (e ∷ es) (f ∷ fs) one two fit also first second =
    let is : head_bytes e ++ (e.bytes ++ (first.0 ++ (first.1 ++ two))) ≡ head_bytes f ++ (f.bytes ++ (second.0 ++ second.1)) =
    sym (ap (λ (l : List ℕ). head_bytes e ++ l) (append_assoc e.bytes (first.0 ++ first.1) two ∙ ap (λ (l : List ℕ). e.bytes ++ l) (append_assoc first.0 first.1 two)))
    ∙ sym (ap (λ (l : List ℕ). l ++ two) first.2 ∙ append_assoc (head_bytes e) (e.bytes ++ (first.0 ++ first.1)) two) ∙ second.2 in
    let place : e.place ≡ f.place = sym (place_back e (e.bytes ++ (first.0 ++ (first.1 ++ two))) (let b = fit.0.bound in omega (arith, b))) ∙ ap (λ (l : List ℕ). little_number 8 l) is
    ∙ place_back f (f.bytes ++ (second.0 ++ second.1)) (let b = also.0.bound in omega (arith, b)) in
    let len_is : length e.bytes ≡ length f.bytes = sym (len_back e (e.bytes ++ (first.0 ++ (first.1 ++ two))) (let b = fit.0.bound in omega (arith, b))) ∙ ap (λ (l : List ℕ). little_number 8 (drop 8 l)) is
    ∙ len_back f (f.bytes ++ (second.0 ++ second.1)) (let b = also.0.bound in omega (arith, b)) in
    let behind : e.bytes ++ (first.0 ++ (first.1 ++ two)) ≡ f.bytes ++ (second.0 ++ second.1) = ap (λ (l : List ℕ). drop 16 l) is in
    let bytes : e.bytes ≡ f.bytes = one_front e.bytes f.bytes (first.0 ++ (first.1 ++ two)) (second.0 ++ second.1) len_is behind in
    let fills : first.0 ++ (first.1 ++ two) ≡ second.0 ++ second.1 = one_rest e.bytes f.bytes (first.0 ++ (first.1 ++ two)) (second.0 ++ second.1) len_is behind in
    let fill : length first.0 ≡ length second.0 = let a = first.3 in let b = second.3 in omega (arith, a, b, len_is) in
    let rest : first.1 ++ two ≡ second.1 = one_rest first.0 second.0 (first.1 ++ two) second.1 fill fills in
    let more = splits (max len (e.place + length e.bytes)) (max start (f.place + length f.bytes)) es fs first.1 two fit.1 also.1 first.4 (subst (λ (l : List ℕ). Spells fs l) (sym rest) second.4) in
    (more.0, same_entries e f fs (es ++ more.0) (same_entry e f place bytes) more.1, more.2)

-- no records stand in no bytes
pub spells_none : (es : List Entry) (log : List ℕ) → log ≡ [] → Spells es log → es ≡ []
spells_none [] log none has = refl
spells_none (e ∷ es) log none has = absurd (let l = ap length (sym none ∙ has.2) in omega (arith, l))

-- one log has one list of records
pub one_spelling : (len start : ℕ) (es fs : List Entry) (log : List ℕ) → Fit len es → Fit start fs → Spells es log → Spells fs log → fs ≡ es
one_spelling len start es fs log fit also first second =
    let s = splits len start es fs log [] fit also first (subst (λ (l : List ℕ). Spells fs l) (sym (append-nil log)) second) in
    s.1 ∙ ap (λ (l : List Entry). es ++ l) (spells_none s.0 [] refl s.2) ∙ append-nil es
