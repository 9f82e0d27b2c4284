-- A note, field by field.
use Rattle.std.proofs.Common.{◌≡◌, ℕ, ◌+◌, ◌<◌, ◌≤◌, ◌⊎◌, inl, inr, ⊎_elim, List, [], ◌∷◌, ◌++◌, length, drop, refl, sym, ◌∙◌, ap, subst, arith}
use Rattle.std.proofs.lemmas.List.{append_assoc}
use Rattle.byteorder.specs.Endian.{little_bytes}
use Rattle.mk_value.specs.Data.{IsText}
use Rattle.dir_codec.specs.declared.error.DirError.{DirError}
use Rattle.dir_codec.specs.declared.error.DirError.TheVariants.{At, Memory}
use Rattle.dir_codec.specs.Dir.{spelled_note}
use Rattle.dir_codec.specs.Fields.{Due, note_length, note_number, note_text, notes_due, number_of_field}
use Rattle.dir_codec.specs.Reads.{bytes_at, Flaws, Leads}
use Rattle.dir_codec.proofs.Reading.{flaws_first, flaws_here, flaws_leads, leads_field, leads_joins, leads_more}

abbrev IsNumberAt : ℕ → ℕ → List ℕ → ℕ → ℕ → Type 0
IsNumberAt last number bytes at n = (at + 8 ≤ length bytes) × ((n ≡ number_of_field (bytes_at at 8 bytes)) × (bytes_at at 8 bytes ≡ little_bytes 8 n) × (last < n) × (n ≤ number))

abbrev IsLengthAt : List ℕ → ℕ → ℕ → Type 0
IsLengthAt bytes at n = (at + 4 ≤ length bytes) × ((n ≡ number_of_field (bytes_at at 4 bytes)) × (bytes_at at 4 bytes ≡ little_bytes 4 n) × (1 ≤ n) × (n ≤ 255))

module _ (number end more last : ℕ) (bytes : List ℕ) where
  abbrev one_note : List Due
  one_note = note_number more (last + 1) ∷ []

  pub number_flaw : (at : ℕ) (e : DirError) → at ≤ length bytes → (e ≡ At at) × ((length (drop at bytes) < 8) ⊎ ((number_of_field (bytes_at at 8 bytes) ≤ last) ⊎ (number < number_of_field (bytes_at at 8 bytes))))
      → Flaws number end one_note bytes at e
  number_flaw at e within wrong = subst (λ (d : DirError). Flaws number end one_note bytes at d) (sym wrong.0)
      (flaws_here number end bytes (note_number more (last + 1)) at within
      (⊎_elim (λ short. inl short) (λ no. inr (λ next is. ⊎_elim (λ low. let a = is.0 in omega (arith, a, low)) (λ high. let b = is.1 in omega (arith, b, high)) no)) wrong.1))

  number_leads : (at n : ℕ) → IsNumberAt last number bytes at n → Leads number end one_note bytes at (note_length ∷ notes_due more (n + 1)) (at + 8) (little_bytes 8 n)
  number_leads at n is =
      let same = is.1.0 in
      let low = is.1.2 in
      let high = is.1.3 in
      subst (λ (l : List ℕ). Leads number end one_note bytes at (note_length ∷ notes_due more (n + 1)) (at + 8) l) is.1.1
      (leads_field number end bytes (note_number more (last + 1)) (note_length ∷ notes_due more (n + 1)) at is.0
      (omega (arith, same, low), omega (arith, same, high), ap (λ (k : ℕ). note_length ∷ notes_due more (k + 1)) same))

  pub length_flaw : (at n : ℕ) (e : DirError) → IsNumberAt last number bytes at n
      → (e ≡ At (at + 8)) × ((length (drop (at + 8) bytes) < 4) ⊎ ((number_of_field (bytes_at (at + 8) 4 bytes) < 1) ⊎ (255 < number_of_field (bytes_at (at + 8) 4 bytes))))
      → Flaws number end one_note bytes at e
  length_flaw at n e is wrong = flaws_leads number end bytes one_note (note_length ∷ notes_due more (n + 1)) at (at + 8) (little_bytes 8 n) e (number_leads at n is)
      (subst (λ (d : DirError). Flaws number end (note_length ∷ notes_due more (n + 1)) bytes (at + 8) d) (sym wrong.0)
      (flaws_first number end bytes (note_length ∷ []) (notes_due more (n + 1)) (at + 8) (At (at + 8))
      (flaws_here number end bytes note_length (at + 8) is.0
      (⊎_elim (λ short. inl short) (λ no. inr (λ next b. ⊎_elim (λ low. let a = b.0 in omega (arith, a, low)) (λ high. let c = b.1 in omega (arith, c, high)) no)) wrong.1))))

  length_leads : (at n len : ℕ) → IsNumberAt last number bytes at n → IsLengthAt bytes (at + 8) len
      → Leads number end one_note bytes at (note_text len ∷ notes_due more (n + 1)) (at + 12) (little_bytes 8 n ++ little_bytes 4 len)
  length_leads at n len is there =
      let same = there.1.0 in
      let low = there.1.2 in
      let high = there.1.3 in
      let to : at + 8 + 4 ≡ at + 12 = omega arith in
      let second = leads_more number end bytes (note_length ∷ []) (note_text len ∷ []) (notes_due more (n + 1)) (at + 8) (at + 8 + 4) (bytes_at (at + 8) 4 bytes)
      (leads_field number end bytes note_length (note_text len ∷ []) (at + 8) there.0 (omega (arith, same, low), omega (arith, same, high), ap (λ (k : ℕ). note_text k ∷ []) same)) in
      let both = leads_joins number end bytes one_note (note_length ∷ notes_due more (n + 1)) (note_text len ∷ notes_due more (n + 1)) at (at + 8) (at + 8 + 4) (little_bytes 8 n) (bytes_at (at + 8) 4 bytes)
      (number_leads at n is) second in
      subst (λ (k : ℕ). Leads number end one_note bytes at (note_text len ∷ notes_due more (n + 1)) k (little_bytes 8 n ++ little_bytes 4 len)) to
      (subst (λ (l : List ℕ). Leads number end one_note bytes at (note_text len ∷ notes_due more (n + 1)) (at + 8 + 4) (little_bytes 8 n ++ l)) there.1.1 both)

  -- its text is short, or no text; or there is no memory for it
  pub text_flaw : (at n len : ℕ) (e : DirError) → IsNumberAt last number bytes at n → IsLengthAt bytes (at + 8) len
      → (e ≡ Memory) ⊎ ((e ≡ At (at + 12)) × ((length (drop (at + 12) bytes) < len) ⊎ (IsText (bytes_at (at + 12) len bytes) → ⊥)))
      → Flaws number end one_note bytes at e
  text_flaw at n len e is there wrong = ⊎_elim
      (λ memory. subst (λ (d : DirError). Flaws number end one_note bytes at d) (sym memory) tt)
      (λ no.
      let before = length_leads at n len is there in
      flaws_leads number end bytes one_note (note_text len ∷ notes_due more (n + 1)) at (at + 12) (little_bytes 8 n ++ little_bytes 4 len) e before
      (subst (λ (d : DirError). Flaws number end (note_text len ∷ notes_due more (n + 1)) bytes (at + 12) d) (sym no.0)
      (flaws_first number end bytes (note_text len ∷ []) (notes_due more (n + 1)) (at + 12) (At (at + 12))
      (flaws_here number end bytes (note_text len) (at + 12) before.within (⊎_elim (λ short. inl short) (λ bad. inr (λ next b. bad b.0)) no.1)))))
      wrong

  pub note_leads : (at n len : ℕ) (text : List ℕ) → IsNumberAt last number bytes at n → IsLengthAt bytes (at + 8) len
      → (at + 12 + len ≤ length bytes) × ((text ≡ bytes_at (at + 12) len bytes) × IsText text × (length text ≡ len))
      → Leads number end one_note bytes at (notes_due more (n + 1)) (at + 12 + len) (spelled_note (record { number = n; text = text }))
  note_leads at n len text is there whole =
      let second = leads_more number end bytes (note_text len ∷ []) [] (notes_due more (n + 1)) (at + 12) (at + 12 + len) (bytes_at (at + 12) len bytes)
      (leads_field number end bytes (note_text len) [] (at + 12) whole.0 (subst IsText whole.1.0 whole.1.1, refl)) in
      let both = leads_joins number end bytes one_note (note_text len ∷ notes_due more (n + 1)) (notes_due more (n + 1)) at (at + 12) (at + 12 + len) (little_bytes 8 n ++ little_bytes 4 len) (bytes_at (at + 12) len bytes)
      (length_leads at n len is there) second in
      subst (λ (k : ℕ). Leads number end one_note bytes at (notes_due more (n + 1)) (at + 12 + len) (little_bytes 8 n ++ (little_bytes 4 k ++ text))) (sym whole.1.2)
      (subst (λ (l : List ℕ). Leads number end one_note bytes at (notes_due more (n + 1)) (at + 12 + len) l)
      (append_assoc (little_bytes 8 n) (little_bytes 4 len) (bytes_at (at + 12) len bytes) ∙ ap (λ (l : List ℕ). little_bytes 8 n ++ (little_bytes 4 len ++ l)) (sym whole.1.0)) both)
