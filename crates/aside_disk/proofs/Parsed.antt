-- The records of a log are a function of its bytes, so an image stands for one file at most.
use Rattle.std.proofs.Common.{◌≡◌, refl, sym, ◌∙◌, ap, subst, ℕ, zero, suc, ◌+◌, ◌<◌, ◌≤◌, List, [], ◌∷◌, ◌++◌, length, length-append, take, drop, max, arith}
use Rattle.std.proofs.lemmas.List.{append_assoc}
use Rattle.std.proofs.Math.Seq.{take-append_seam, drop-append_seam}
use Rattle.byteorder.specs.Endian.{little_number}
use Rattle.host_io.specs.Ranges.{bytes_in}
use Rattle.commit_marks.specs.declared.mark.Mark.{Mark}
use Rattle.commit_marks.proofs.Chosen.{marks_unique}
use Rattle.aside_disk.specs.Records.{Entry, Fit, Spells, applied, head_bytes, parsed, record_len}
use Rattle.aside_disk.specs.Logical.{Logical, entries_of, records_range}
use Rattle.aside_disk.proofs.Spelled.{len_back, one_spelling, place_back}

step_parsed : (most : ℕ) (log : List ℕ) → 0 < length log → parsed (suc most) log
    ≡ (record { place = little_number 8 log; bytes = take (little_number 8 (drop 8 log)) (drop 16 log) }) ∷ parsed most (drop (record_len (little_number 8 (drop 8 log))) log)
step_parsed most [] none = absurd (omega (arith, none))
step_parsed most (b ∷ log) some = refl

no_bytes : (most : ℕ) (log : List ℕ) → log ≡ [] → parsed most log ≡ []
no_bytes zero log none = refl
no_bytes (suc most) [] none = refl
no_bytes (suc most) (b ∷ log) none = absurd (let l = ap length none in omega (arith, l))

parsed_is : (most len : ℕ) (es : List Entry) (log : List ℕ) → Fit len es → Spells es log → length log ≤ most → parsed most log ≡ es
parsed_is most len [] log fit has le = no_bytes most log has
parsed_is zero len (e ∷ es) log fit has le = absurd (let l = ap length has.2 in omega (arith, l, le))
parsed_is (suc most) len (e ∷ es) log fit has le =
    let l = ap length has.2 in
    let bound = fit.0.bound in
    let place : little_number 8 log ≡ e.place = ap (λ (b : List ℕ). little_number 8 b) has.2 ∙ place_back e (e.bytes ++ (has.0 ++ has.1)) (omega (arith, bound)) in
    let count : little_number 8 (drop 8 log) ≡ length e.bytes = ap (λ (b : List ℕ). little_number 8 (drop 8 b)) has.2 ∙ len_back e (e.bytes ++ (has.0 ++ has.1)) (omega (arith, bound)) in
    let bytes : take (little_number 8 (drop 8 log)) (drop 16 log) ≡ e.bytes = ap (λ (n : ℕ). take n (drop 16 log)) count ∙ ap (λ (b : List ℕ). take (length e.bytes) (drop 16 b)) has.2 ∙ take-append_seam e.bytes (has.0 ++ has.1) in
    let whole : log ≡ (head_bytes e ++ (e.bytes ++ has.0)) ++ has.1 = has.2 ∙ ap (λ (b : List ℕ). head_bytes e ++ b) (sym (append_assoc e.bytes has.0 has.1)) ∙ sym (append_assoc (head_bytes e) (e.bytes ++ has.0) has.1) in
    let long : record_len (length e.bytes) ≡ length (head_bytes e ++ (e.bytes ++ has.0)) = let w = has.3 in let a = length-append e.bytes has.0 in omega (arith, w, a) in
    let rest : drop (record_len (little_number 8 (drop 8 log))) log ≡ has.1 =
    ap (λ (n : ℕ). drop (record_len n) log) count ∙ ap (λ (n : ℕ). drop n log) long ∙ ap (λ (b : List ℕ). drop (length (head_bytes e ++ (e.bytes ++ has.0))) b) whole ∙ drop-append_seam (head_bytes e ++ (e.bytes ++ has.0)) has.1 in
    let less : length has.1 ≤ most = let a = ap length whole in let b = length-append (head_bytes e ++ (e.bytes ++ has.0)) has.1 in omega (arith, a, b, le) in
    step_parsed most log (omega (arith, l))
    ∙ ap (λ (p : ℕ). (record { place = p; bytes = take (little_number 8 (drop 8 log)) (drop 16 log) }) ∷ parsed most (drop (record_len (little_number 8 (drop 8 log))) log)) place
    ∙ ap (λ (b : List ℕ). (record { place = e.place; bytes = b }) ∷ parsed most (drop (record_len (little_number 8 (drop 8 log))) log)) bytes
    ∙ ap (λ (r : List ℕ). e ∷ parsed most r) rest
    ∙ ap (λ (t : List Entry). e ∷ t) (parsed_is most (max len (e.place + length e.bytes)) es has.1 fit.1 has.4 less)

-- the records that a log has are those that are parsed of it
pub entries_are : (len : ℕ) (image : List ℕ) (end : ℕ) (es : List Entry) → Fit len es → Spells es (bytes_in image (records_range end)) → entries_of image end ≡ es
entries_are len image end es fit has = parsed_is (length (bytes_in image (records_range end))) len es (bytes_in image (records_range end)) fit has (omega arith)

pub logical_unique : (base : List ℕ) (number : ℕ) (image one two : List ℕ) → Logical base number image one → Logical base number image two → one ≡ two
logical_unique base number image one two first second =
    let marks : first.chosen ≡ second.chosen = (marks_unique image first.slot second.slot first.chosen second.chosen first.other second.other first.has.chooses second.has.chooses).1 in
    let entries : second.entries ≡ first.entries = one_spelling (length base) (length base) first.entries second.entries (bytes_in image (records_range first.chosen.end)) first.has.fit second.has.fit first.has.spells
    (subst (λ (m : Mark). Spells second.entries (bytes_in image (records_range m.end))) (sym marks) second.has.spells) in
    first.file_is ∙ ap (λ (l : List Entry). applied base l) (sym entries) ∙ sym second.file_is
