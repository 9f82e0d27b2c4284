-- The fields of a value: what its first one says, and its content.
use Rattle.std.proofs.Common.{◌≡◌, ℕ, ◌≤◌, ◌<◌, List, [], ◌∷◌, ◌++◌, length, refl, sym, ◌∙◌, ap, subst, arith, ◌≢◌, lit<, ℤ, FitsSigned, w32, w64}
use Rattle.std.proofs.lemmas.Str.{IsUtf8-from_ascii}
use Rattle.std.proofs.lemmas.List.Elements.{All-nil}
use Rattle.std.proofs.lemmas.List.{append-nil}
use Rattle.byteorder.specs.Endian.{little_bytes}
use Rattle.mk_value.specs.Data.{Datum, IsOf, IsText, relation, relation_of}
use Rattle.mk_value.specs.Heading.{Domain}
use Rattle.mk_value.specs.Limits.{max_bytes, max_rows}
use Rattle.stream_codec.specs.declared.error.LoadError.{LoadError}
use Rattle.stream_codec.specs.declared.error.LoadError.TheVariants.{At}
use Rattle.stream_codec.specs.Fields.{Due, content, content_length, number_of_field, row_count, rows_due, value_due}
use Rattle.stream_codec.specs.Steps.{Leads, Refuses}
use Rattle.stream_codec.specs.Stream.{spelled_value}
use Rattle.stream_codec.specs.Values.{AwaitsContent, AwaitsRows, inner_due, IsContentOf, IsRelation}
use Rattle.stream_codec.proofs.Steps.{leads_as, leads_field, leads_joins, refuses_here}

-- a count of at most so many, as it is read
abbrev pub IsCountOf : List ℕ → ℕ → ℕ → Type 0
IsCountOf field most n = (n ≡ number_of_field field) × (little_bytes 4 n ≡ field) × (n ≤ most)

abbrev pub IsTooMany : List ℕ → ℕ → ℕ → LoadError → Type 0
IsTooMany field most place e = (e ≡ At place) × (most < number_of_field field)

-- the length of a content
pub length_wrong : (d : Domain) (field : List ℕ) (place : ℕ) (e : LoadError) → length field ≡ 4 → IsTooMany field max_bytes place e → (due : List Due) → Refuses (content_length d ∷ due) field place e
length_wrong d field place e long wrong due =
    subst (λ (x : LoadError). Refuses (content_length d ∷ due) field place x) (sym wrong.0)
    (refuses_here (content_length d) due field place long (λ next is. let few = is.0 in let many = wrong.1 in omega (arith, few, many)))

pub length_leads : (d : Domain) (field : List ℕ) (n : ℕ) → length field ≡ 4 → IsCountOf field max_bytes n → (due : List Due) → Leads (content_length d ∷ due) field (content d n ∷ due)
length_leads d field n long is due =
    let same = is.0 in
    let few = is.2 in
    leads_field (content_length d) due (content d n ∷ []) field long (omega (arith, same, few), ap (λ (k : ℕ). content d k ∷ []) same)

-- a content of no bytes stands where its length does
pub nothing_leads : (d : Domain) (field : List ℕ) (n : ℕ) → length field ≡ 4 → IsCountOf field max_bytes n → n ≡ 0 → ((due : List Due) → Leads (content d 0 ∷ due) [] due) → (due : List Due) → Leads (content_length d ∷ due) field due
nothing_leads d field n long is none on due =
    subst (λ (bytes : List ℕ). Leads (content_length d ∷ due) bytes due) (append-nil field)
    (leads_joins (content_length d ∷ due) (content d 0 ∷ due) due field []
    (subst (λ (k : ℕ). Leads (content_length d ∷ due) field (content d k ∷ due)) none (length_leads d field n long is due)) (on due))

pub no_text : (x : List ℕ) → x ≡ [] → IsText x
no_text x none = subst IsText (sym none) (record { utf8 = IsUtf8-from_ascii [] (λ i. lit< tt); no_zero = All-nil (λ b. b ≢ 0) })

pub nothing_fits : (x : List ℕ) → x ≡ [] → length x ≤ max_bytes
nothing_fits x none = let long = ap length none in omega (arith, long)

-- the spelling of an empty content
pub nothing_spelled : (field x : List ℕ) (n : ℕ) → IsCountOf field max_bytes n → n ≡ 0 → x ≡ [] → little_bytes 4 (length x) ++ x ≡ field
nothing_spelled field x n is none empty =
    ap (λ (t : List ℕ). little_bytes 4 (length t) ++ t) empty ∙ ap (λ (k : ℕ). little_bytes 4 k) (sym none) ∙ is.1

pub no_rows_spelled : (field : List ℕ) (rows : List (List Datum)) (n : ℕ) → IsCountOf field max_rows n → n ≡ 0 → rows ≡ [] → spelled_value (relation (relation_of rows)) ≡ field
no_rows_spelled field rows n is none empty =
    ap (λ (r : List (List Datum)). spelled_value (relation (relation_of r))) empty ∙ ap (λ (k : ℕ). little_bytes 4 k) (sym none) ∙ is.1

pub no_text_leads : (due : List Due) → Leads (content Domain.text 0 ∷ due) [] due
no_text_leads due = leads_field (content Domain.text 0) due [] [] refl (no_text [] refl, refl)

pub no_bytes_leads : (due : List Due) → Leads (content Domain.bytes 0 ∷ due) [] due
no_bytes_leads due = leads_field (content Domain.bytes 0) due [] [] refl (tt, refl)

-- the number of the rows of a view
pub rows_wrong : (d : Domain) (field : List ℕ) (place : ℕ) (e : LoadError) → IsRelation d → length field ≡ 4 → IsTooMany field max_rows place e → (due : List Due) → Refuses (value_due d ∷ due) field place e
rows_wrong (Domain.relation h) field place e view long wrong due =
    subst (λ (x : LoadError). Refuses (row_count h ∷ due) field place x) (sym wrong.0)
    (refuses_here (row_count h) due field place long (λ next is. let few = is.0 in let many = wrong.1 in omega (arith, few, many)))
rows_wrong Domain.integer field place e view long wrong due = absurd view
rows_wrong Domain.long field place e view long wrong due = absurd view
rows_wrong Domain.text field place e view long wrong due = absurd view
rows_wrong Domain.bytes field place e view long wrong due = absurd view

pub rows_lead : (d : Domain) (field : List ℕ) (n : ℕ) → IsRelation d → length field ≡ 4 → IsCountOf field max_rows n → (due : List Due) → Leads (value_due d ∷ due) field (inner_due n d ++ due)
rows_lead (Domain.relation h) field n view long is due =
    let same = is.0 in
    let few = is.2 in
    leads_field (row_count h) due (rows_due n h) field long (omega (arith, same, few), ap (λ (k : ℕ). rows_due k h) same)
rows_lead Domain.integer field n view long is due = absurd view
rows_lead Domain.long field n view long is due = absurd view
rows_lead Domain.text field n view long is due = absurd view
rows_lead Domain.bytes field n view long is due = absurd view

pub awaits_rows : (d : Domain) (n : ℕ) → IsRelation d → 0 < n → n ≤ max_rows → AwaitsRows n d
awaits_rows (Domain.relation h) n view some few = (some, few)
awaits_rows Domain.integer n view some few = absurd view
awaits_rows Domain.long n view some few = absurd view
awaits_rows Domain.text n view some few = absurd view
awaits_rows Domain.bytes n view some few = absurd view

-- a view of no rows
pub no_rows_fit : (d : Domain) (rows : List (List Datum)) → rows ≡ [] → IsRelation d → IsOf (relation (relation_of rows)) d
no_rows_fit (Domain.relation h) rows none view = subst (λ (r : List (List Datum)). IsOf (relation (relation_of r)) (Domain.relation h)) (sym none) (omega arith, tt)
no_rows_fit Domain.integer rows none view = absurd view
no_rows_fit Domain.long rows none view = absurd view
no_rows_fit Domain.text rows none view = absurd view
no_rows_fit Domain.bytes rows none view = absurd view

pub no_rows_lead : (d : Domain) (field : List ℕ) (n : ℕ) → IsRelation d → length field ≡ 4 → IsCountOf field max_rows n → n ≡ 0 → (due : List Due) → Leads (value_due d ∷ due) field due
no_rows_lead (Domain.relation h) field n view long is none due =
    leads_as (row_count h ∷ due) (rows_due n h ++ due) due field (rows_lead (Domain.relation h) field n view long is due) (ap (λ (k : ℕ). rows_due k h ++ due) none)
no_rows_lead Domain.integer field n view long is none due = absurd view
no_rows_lead Domain.long field n view long is none due = absurd view
no_rows_lead Domain.text field n view long is none due = absurd view
no_rows_lead Domain.bytes field n view long is none due = absurd view

-- the content of a text, and of a byte string
pub text_is : (field text : List ℕ) → text ≡ field → IsText field → AwaitsContent (length field) Domain.text → IsContentOf Domain.text (length field) field (Datum.text text)
text_is field text same is awaits = record {
  fits = subst (λ (t : List ℕ). IsText t × (length t ≤ max_bytes)) (sym same) (is, awaits.1);
  spells = ap (λ (t : List ℕ). little_bytes 4 (length t) ++ t) same;
  leads = λ due. leads_field (content Domain.text (length field)) due [] field refl (is, refl);
}

pub text_wrong : (field : List ℕ) (place : ℕ) → (IsText field → ⊥) → (due : List Due) → Refuses (content Domain.text (length field) ∷ due) field place (At place)
text_wrong field place not due = refuses_here (content Domain.text (length field)) due field place refl (λ next is. not is.0)

pub bytes_are : (field bytes : List ℕ) → bytes ≡ field → AwaitsContent (length field) Domain.bytes → IsContentOf Domain.bytes (length field) field (Datum.bytes bytes)
bytes_are field bytes same awaits = record {
  fits = subst (λ (t : List ℕ). length t ≤ max_bytes) (sym same) awaits.1;
  spells = ap (λ (t : List ℕ). little_bytes 4 (length t) ++ t) same;
  leads = λ due. leads_field (content Domain.bytes (length field)) due [] field refl (tt, refl);
}

-- a number
pub integer_leads : (field : List ℕ) → length field ≡ 4 → (due : List Due) → Leads (value_due Domain.integer ∷ due) field due
integer_leads field long due = leads_field (value_due Domain.integer) due [] field long refl

pub long_leads : (field : List ℕ) → length field ≡ 8 → (due : List Due) → Leads (value_due Domain.long ∷ due) field due
long_leads field long due = leads_field (value_due Domain.long) due [] field long refl

pub integer_is : (field : List ℕ) (z w : ℤ) → z ≡ w → FitsSigned w32 w → spelled_value (Datum.integer w) ≡ field → length field ≡ 4
    → IsOf (Datum.integer z) Domain.integer × (spelled_value (Datum.integer z) ≡ field) × ((due : List Due) → Leads (value_due Domain.integer ∷ due) field due)
integer_is field z w same fits spells long =
    (subst (λ (n : ℤ). FitsSigned w32 n) (sym same) fits, ap (λ (n : ℤ). spelled_value (Datum.integer n)) same ∙ spells, integer_leads field long)

pub long_is : (field : List ℕ) (z w : ℤ) → z ≡ w → FitsSigned w64 w → spelled_value (Datum.long w) ≡ field → length field ≡ 8
    → IsOf (Datum.long z) Domain.long × (spelled_value (Datum.long z) ≡ field) × ((due : List Due) → Leads (value_due Domain.long ∷ due) field due)
long_is field z w same fits spells long =
    (subst (λ (n : ℤ). FitsSigned w64 n) (sym same) fits, ap (λ (n : ℤ). spelled_value (Datum.long n)) same ∙ spells, long_leads field long)
