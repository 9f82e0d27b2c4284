-- What is made of a plain column is what the definition says of its values and of its home.
use Rattle.std.proofs.Common.{◌≡◌, ℕ, ◌≤◌, List, length, get_or, map, replicate, All, None, refl, ap, sym, subst, ◌∙◌}
use Rattle.std.specs.Prelude.{FitsSigned}
use Rattle.std.specs.Int.{w32, w64}
use Rattle.mk_value.specs.Limits.{max_bytes}
use Rattle.mk_value.specs.Heading.{Domain, Heading, IsDomain}
use Rattle.mk_value.specs.Data.{Datum, integer, long, text, bytes, relation, default_of, IsOf}
use Rattle.mk_value.specs.Kinds.{domain_of}
use Rattle.mk_value.specs.declared.schema.Kind.{Kind}
use Rattle.mk_value.specs.declared.schema.Kind.TheVariants as kind
use Rattle.mk_value.specs.declared.schema.Schema.{Schema}
use Rattle.int_col.specs.Numbers.{Numbers}
use Rattle.bytes_col.specs.Strings.{Strings}
use Rattle.tables.specs.Columns.{StoredColumn, integers, texts, IsColumnOf, IsColumnWith, IsTextValue, column_values, home_of, home_of_numbers}
use Rattle.tables.specs.Homes.{Home, no_home, empty_home}
use Rattle.tables.proofs.ColumnWith.{with_integers, with_longs, with_texts, with_bytes}
use Rattle.tables.proofs.Gathering.{All-map, column_values_fit, length-column_values}
use Rattle.restructure.specs.Columns.{IsUnder}
use Rattle.restructure.specs.Restructuring.{narrowed, restructured_home, restructured_value, text_or_empty}
use Rattle.restructure.proofs.Lists.{map_twice, map-constant}
use Rattle.restructure.proofs.Placing.{values_kept}
use Rattle.restructure.proofs.Same.{value_same}
use Rattle.restructure.proofs.Whole.{narrowed_fits, text_fits, widened_fits}

-- a column of the same plain kind
abbrev IsPlain : Domain → Type 0
IsPlain (Domain.relation h) = ⊥
IsPlain _ = Unit {0}

plain_domain : (e : Domain) → IsPlain e → IsDomain e
plain_domain Domain.integer p = tt
plain_domain Domain.long p = tt
plain_domain Domain.text p = tt
plain_domain Domain.bytes p = tt
plain_domain (Domain.relation h) p = absurd p

home_kept : (e : Domain) (h : Home) (values : List Datum) → IsPlain e → restructured_home e e h values ≡ h
home_kept Domain.integer h values p = refl
home_kept Domain.long h values p = refl
home_kept Domain.text h values p = refl
home_kept Domain.bytes h values p = refl
home_kept (Domain.relation g) h values p = absurd p

pub same_column : (e : Domain) (n : ℕ) (was made : StoredColumn) → IsPlain e → IsColumnOf n e was → made ≡ was → IsUnder e e was made
same_column e n was made p whole same =
    let values = column_values e was in
    let long = length-column_values n e was whole in
    let kept : map (restructured_value e e) values ≡ values = values_kept (restructured_value e e) e (λ d. value_same e d (plain_domain e p)) values (column_values_fit n e was whole) in
    subst (λ vs. IsColumnWith e vs (restructured_home e e (home_of was) values) made) (sym kept)
    (subst (λ h. IsColumnWith e values h made) (sym (home_kept e (home_of was) values p))
    (subst (λ c. IsColumnWith e values (home_of was) c) (sym same) (record { whole = subst (λ m. IsColumnOf m e was) (sym long) whole; holds = refl; home_is = refl })))

-- a kind that was told apart
pub from_kind : (k e : Kind) (new : Domain) (was made : StoredColumn) → k ≡ e → IsUnder (domain_of e) new was made → IsUnder (domain_of k) new was made
from_kind k e new was made is h = subst (λ x. IsUnder (domain_of x) new was made) (sym is) h

pub at_kind : (k e : Kind) (n : ℕ) (was : StoredColumn) → k ≡ e → IsColumnOf n (domain_of k) was → IsColumnOf n (domain_of e) was
at_kind k e n was is h = subst (λ x. IsColumnOf n (domain_of x) was) is h

-- numbers under the wider kind, and under the narrower
pub widened : (n : ℕ) (was : StoredColumn) (old new : Numbers) → IsColumnOf n Domain.integer was → was ≡ integers old → new ≡ record old { home = None } → IsUnder Domain.integer Domain.long was (integers new)
widened n was old new whole is made =
    let inside : IsColumnOf n Domain.integer (integers old) = subst (IsColumnOf n Domain.integer) is whole in
    let values : map Datum.long new.values ≡ map (restructured_value Domain.integer Domain.long) (map Datum.integer old.values) =
    ap (λ (c : Numbers). map Datum.long c.values) made ∙ sym (map_twice (restructured_value Domain.integer Domain.long) Datum.integer old.values) in
    let fit : All (λ z. FitsSigned w64 z) new.values =
    subst (λ (c : Numbers). All (λ z. FitsSigned w64 z) c.values) (sym made) (λ i d p. widened_fits (get_or old.values i d) (inside.fit i d p)) in
    subst (λ c. IsUnder Domain.integer Domain.long c (integers new)) (sym is)
    (with_longs new _ no_home values fit (ap (λ (c : Numbers). home_of_numbers c.home) made))

pub narrowed_numbers : (n : ℕ) (was : StoredColumn) (old new : Numbers) → IsColumnOf n Domain.long was → was ≡ integers old → new.values ≡ map narrowed old.values → new.home ≡ None → IsUnder Domain.long Domain.integer was (integers new)
narrowed_numbers n was old new whole is made none =
    let values : map Datum.integer new.values ≡ map (restructured_value Domain.long Domain.integer) (map Datum.long old.values) =
    ap (map Datum.integer) made ∙ map_twice Datum.integer narrowed old.values ∙ sym (map_twice (restructured_value Domain.long Domain.integer) Datum.long old.values) in
    let fit : All (λ z. FitsSigned w32 z) new.values =
    subst (All (λ z. FitsSigned w32 z)) (sym made) (All-map narrowed (λ z. FitsSigned w32 z) old.values (λ i d p. narrowed_fits (get_or old.values i d))) in
    subst (λ c. IsUnder Domain.long Domain.integer c (integers new)) (sym is) (with_integers new _ no_home values fit (ap home_of_numbers none))

-- texts as byte strings, and byte strings as texts
pub texts_as_bytes : (n : ℕ) (was : StoredColumn) (old new : Strings) → IsColumnOf n Domain.text was → was ≡ texts old → new ≡ record old { home = None } → IsUnder Domain.text Domain.bytes was (texts new)
texts_as_bytes n was old new whole is made =
    let inside : IsColumnOf n Domain.text (texts old) = subst (IsColumnOf n Domain.text) is whole in
    let values : map Datum.bytes new.values ≡ map (restructured_value Domain.text Domain.bytes) (map Datum.text old.values) =
    ap (λ (c : Strings). map Datum.bytes c.values) made ∙ sym (map_twice (restructured_value Domain.text Domain.bytes) Datum.text old.values) in
    let fit : All (λ content. length content ≤ max_bytes) new.values =
    subst (λ (c : Strings). All (λ content. length content ≤ max_bytes) c.values) (sym made) (λ i d p. (inside.fit i d p).short) in
    subst (λ c. IsUnder Domain.text Domain.bytes c (texts new)) (sym is) (with_bytes new _ no_home values fit (ap (λ (c : Strings). c.home) made) refl)

text_value : (content : List ℕ) → length content ≤ max_bytes → IsTextValue (text_or_empty content)
text_value content p = let fits = text_fits content p in record { is_text = fits.0; short = fits.1 }

pub bytes_as_texts : (n : ℕ) (was : StoredColumn) (old new : Strings) → IsColumnOf n Domain.bytes was → was ≡ texts old → new.values ≡ map text_or_empty old.values → new.home ≡ None → IsUnder Domain.bytes Domain.text was (texts new)
bytes_as_texts n was old new whole is made none =
    let inside : IsColumnOf n Domain.bytes (texts old) = subst (IsColumnOf n Domain.bytes) is whole in
    let values : map Datum.text new.values ≡ map (restructured_value Domain.bytes Domain.text) (map Datum.bytes old.values) =
    ap (map Datum.text) made ∙ map_twice Datum.text text_or_empty old.values ∙ sym (map_twice (restructured_value Domain.bytes Domain.text) Datum.bytes old.values) in
    let fit : All IsTextValue new.values =
    subst (All IsTextValue) (sym made) (All-map text_or_empty IsTextValue old.values (λ i d p. text_value (get_or old.values i d) (inside.fit i d p))) in
    subst (λ c. IsUnder Domain.bytes Domain.text c (texts new)) (sym is) (with_texts new _ no_home values fit none refl)

-- two kinds of which neither becomes the other
abbrev pub AreOther : Domain → Domain → Type 0
AreOther Domain.integer Domain.integer = ⊥
AreOther Domain.integer Domain.long = ⊥
AreOther Domain.long Domain.integer = ⊥
AreOther Domain.long Domain.long = ⊥
AreOther Domain.text Domain.text = ⊥
AreOther Domain.text Domain.bytes = ⊥
AreOther Domain.bytes Domain.text = ⊥
AreOther Domain.bytes Domain.bytes = ⊥
AreOther (Domain.relation h) (Domain.relation g) = ⊥
AreOther _ _ = Unit {0}

value_defaulted : (old new : Domain) (d : Datum) → AreOther old new → IsOf d old → restructured_value old new d ≡ default_of new
value_defaulted Domain.integer Domain.integer d p h = absurd p
value_defaulted Domain.integer Domain.long d p h = absurd p
value_defaulted Domain.long Domain.integer d p h = absurd p
value_defaulted Domain.long Domain.long d p h = absurd p
value_defaulted Domain.text Domain.text d p h = absurd p
value_defaulted Domain.text Domain.bytes d p h = absurd p
value_defaulted Domain.bytes Domain.text d p h = absurd p
value_defaulted Domain.bytes Domain.bytes d p h = absurd p
value_defaulted (Domain.relation f) (Domain.relation g) d p h = absurd p
value_defaulted Domain.integer Domain.text (integer z) p h = refl
value_defaulted Domain.integer Domain.bytes (integer z) p h = refl
value_defaulted Domain.integer (Domain.relation g) (integer z) p h = refl
value_defaulted Domain.long Domain.text (long z) p h = refl
value_defaulted Domain.long Domain.bytes (long z) p h = refl
value_defaulted Domain.long (Domain.relation g) (long z) p h = refl
value_defaulted Domain.text Domain.integer (text content) p h = refl
value_defaulted Domain.text Domain.long (text content) p h = refl
value_defaulted Domain.text (Domain.relation g) (text content) p h = refl
value_defaulted Domain.bytes Domain.integer (bytes content) p h = refl
value_defaulted Domain.bytes Domain.long (bytes content) p h = refl
value_defaulted Domain.bytes (Domain.relation g) (bytes content) p h = refl
value_defaulted (Domain.relation f) Domain.integer (relation r) p h = refl
value_defaulted (Domain.relation f) Domain.long (relation r) p h = refl
value_defaulted (Domain.relation f) Domain.text (relation r) p h = refl
value_defaulted (Domain.relation f) Domain.bytes (relation r) p h = refl
value_defaulted _ _ _ p h = absurd h

home_defaulted : (old new : Domain) (h : Home) (values : List Datum) → AreOther old new → restructured_home old new h values ≡ empty_home new (map (restructured_value old new) values)
home_defaulted Domain.integer Domain.integer h values p = absurd p
home_defaulted Domain.long Domain.long h values p = absurd p
home_defaulted Domain.text Domain.text h values p = absurd p
home_defaulted Domain.bytes Domain.bytes h values p = absurd p
home_defaulted (Domain.relation f) (Domain.relation g) h values p = absurd p
home_defaulted _ _ h values p = refl

pub defaulted : (n rows : ℕ) (old new : Domain) (was made : StoredColumn) → AreOther old new → IsColumnOf n old was → rows ≡ length (column_values old was)
    → IsColumnWith new (replicate rows (default_of new)) (empty_home new (replicate rows (default_of new))) made → IsUnder old new was made
defaulted n rows old new was made other whole e with_defaults =
    let values = column_values old was in
    let all : map (restructured_value old new) values ≡ replicate rows (default_of new) =
    map-constant (λ d. IsOf d old) (restructured_value old new) (default_of new) (λ d h. value_defaulted old new d other h) values (column_values_fit n old was whole)
    ∙ ap (λ m. replicate m (default_of new)) (sym e) in
    let home : restructured_home old new (home_of was) values ≡ empty_home new (replicate rows (default_of new)) =
    home_defaulted old new (home_of was) values other ∙ ap (empty_home new) all in
    subst (λ vs. IsColumnWith new vs (restructured_home old new (home_of was) values) made) (sym all)
    (subst (λ h. IsColumnWith new (replicate rows (default_of new)) h made) (sym home) with_defaults)

-- the kinds that are left where two were told apart
pub other_than_integers : (k : Kind) → (k ≡ kind.I → ⊥) → (k ≡ kind.L → ⊥) → AreOther (domain_of k) Domain.integer
other_than_integers kind.I i l = absurd (i refl)
other_than_integers kind.L i l = absurd (l refl)
other_than_integers kind.S i l = tt
other_than_integers kind.B i l = tt
other_than_integers (kind.V schema) i l = tt

pub other_than_longs : (k : Kind) → (k ≡ kind.L → ⊥) → (k ≡ kind.I → ⊥) → AreOther (domain_of k) Domain.long
other_than_longs kind.I l i = absurd (i refl)
other_than_longs kind.L l i = absurd (l refl)
other_than_longs kind.S l i = tt
other_than_longs kind.B l i = tt
other_than_longs (kind.V schema) l i = tt

pub other_than_texts : (k : Kind) → (k ≡ kind.S → ⊥) → (k ≡ kind.B → ⊥) → AreOther (domain_of k) Domain.text
other_than_texts kind.I s b = tt
other_than_texts kind.L s b = tt
other_than_texts kind.S s b = absurd (s refl)
other_than_texts kind.B s b = absurd (b refl)
other_than_texts (kind.V schema) s b = tt

pub other_than_bytes : (k : Kind) → (k ≡ kind.B → ⊥) → (k ≡ kind.S → ⊥) → AreOther (domain_of k) Domain.bytes
other_than_bytes kind.I b s = tt
other_than_bytes kind.L b s = tt
other_than_bytes kind.S b s = absurd (s refl)
other_than_bytes kind.B b s = absurd (b refl)
other_than_bytes (kind.V schema) b s = tt

pub other_than_views : (k : Kind) (g : Heading) → ((schema : Schema) → k ≡ kind.V schema → ⊥) → AreOther (domain_of k) (Domain.relation g)
other_than_views kind.I g v = tt
other_than_views kind.L g v = tt
other_than_views kind.S g v = tt
other_than_views kind.B g v = tt
other_than_views (kind.V schema) g v = absurd (v schema refl)
