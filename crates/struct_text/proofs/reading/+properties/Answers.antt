-- Each exit is one step of the walk, or one of its flaws.
use Rattle.std.proofs.Common.{◌≡◌, ◌≤◌, ◌+◌, ℕ, List, sym, ap, subst, ◌∙◌, arith, length}
use Rattle.std.proofs.lemmas.Bool.{true≢false}
use Rattle.std.proofs.lemmas.Result.{err_from_is_err_and}
use Rattle.mk_value.specs.Kinds.{domain_of}
use Rattle.mk_value.specs.Heading.{Attribute, names_of, IsHeading}
use Rattle.struct_text.specs.Offences.{name_at}
use Rattle.struct_text.specs.Reading.{IsNameAt, RefusesName, RefusesKind, IsKindAt, ArePropertiesAt}
use Rattle.struct_text.proofs.PropertyParts.{kind_by_letter, kind_by_brackets, kind_refused_letter, kind_missing, kind_too_deep, kind_refused_inside, name_ended, name_within, property_found, property_refused_name, property_refused_kind, read_more, limits_kept, read_all, read_stops}
use Rattle.struct_text.proofs.reading.+properties.Goals as goal

-- the properties that were lent are those before
name_of_old : (bytes : List ℕ) (at : ℕ) (lent old : List Attribute) (name : List ℕ) → lent ≡ old → IsNameAt bytes at (names_of lent) name → IsNameAt bytes at (names_of old) name
name_of_old bytes at lent old name e h = let P : List Attribute → Type 0 = λ ps. IsNameAt bytes at (names_of ps) name in subst P e h

pub read_kind-returns-in_err-read_letter-clause-refused :
    goal.read_kind-returns-in_err-read_letter-clause-refused
read_kind-returns-in_err-read_letter-clause-refused t c =
    let p = err_from_is_err_and c.from_residual.result c.from_residual.ensures.1 in
    rw (p.1, p.2) (kind_refused_letter c.args.bytes.now c.args.at c.args.depth _ (c.has_byte.ensures.found c.if-has_byte.true).1 c.in_err-read_letter.ensures.refused)

pub read_kind-returns-then-has_byte-clause-found :
    goal.read_kind-returns-then-has_byte-clause-found
read_kind-returns-then-has_byte-clause-found t c =
    kind_by_letter c.args.bytes.now c.args.at c.args.depth (domain_of c.in_ok-read_letter.field-0) c.requires.shallow (c.has_byte.ensures.found c.if-has_byte.true).1 c.in_ok-read_letter.ensures.found

pub read_kind-returns-then-not-has_byte-clause-refused :
    goal.read_kind-returns-then-not-has_byte-clause-refused
read_kind-returns-then-not-has_byte-clause-refused t c =
    kind_missing c.args.bytes.now c.args.at c.args.depth c.requires.name_ended
    (λ h. true≢false (sym (c.has_byte.ensures.other h) ∙ c.if-has_byte.false))
    (λ h. true≢false (sym (c.has_byte-2.ensures.other h) ∙ c.if-not-has_byte.true))

pub read_kind-returns-then-depth-eq-MAX_DEPTH-clause-refused :
    goal.read_kind-returns-then-depth-eq-MAX_DEPTH-clause-refused
read_kind-returns-then-depth-eq-MAX_DEPTH-clause-refused t c =
    kind_too_deep c.args.bytes.now c.args.at c.args.depth (c.has_byte-2.ensures.found c.if-not-has_byte.false).1 c.if-depth-eq-MAX_DEPTH.true

pub read_kind-returns-in_err-schema-clause-refused :
    goal.read_kind-returns-in_err-schema-clause-refused
read_kind-returns-in_err-schema-clause-refused t c =
    let p = err_from_is_err_and c.from_residual-in_err-schema.result c.from_residual-in_err-schema.ensures.1 in
    rw (p.1, p.2) (kind_refused_inside c.args.bytes.now c.args.at c.args.depth _ (c.has_byte-2.ensures.found c.if-not-has_byte.false).1 c.if-depth-eq-MAX_DEPTH.false c.in_err-schema.ensures.refused)

pub read_kind-returns-clause-found : goal.read_kind-returns-clause-found
read_kind-returns-clause-found t c =
    kind_by_brackets c.args.bytes.now c.args.at c.args.depth c.in_ok-schema.schema c.in_ok-schema.end c.if-depth-eq-MAX_DEPTH.false (c.has_byte-2.ensures.found c.if-not-has_byte.false).1 c.in_ok-schema.ensures.found

pub read_properties-of-requires : goal.read_properties-of-requires
read_properties-of-requires t c =
    let found = c.in_ok-end.ensures.found in
    limits_kept c.args.bytes.now c.args.start c.args.depth c.loop-props.props c.read_property.new.props found.0 c.loop-props.at c.in_ok-end.end c.loop-props.invariant found.1 c.requires.open

pub read_properties-returns-then-has_byte-clause-found :
    goal.read_properties-returns-then-has_byte-clause-found
read_properties-returns-then-has_byte-clause-found t c =
    let found = c.in_ok-end.ensures.found in
    let byte = c.has_byte.ensures.found c.if-has_byte.true in
    let P : List Attribute → Type 0 = λ ps. ArePropertiesAt c.args.bytes.now c.args.start c.args.depth ps (c.in_ok-end.end + 1) in
    subst P (sym c.of.ensures.value)
    (read_all c.args.bytes.now c.args.start c.args.depth c.loop-props.props c.read_property.new.props found.0 c.loop-props.at c.in_ok-end.end c.loop-props.invariant found.1
    (subst IsHeading c.of.ensures.value c.of.ensures.whole) byte.1 byte.0)

pub read_properties-returns-then-not-has_byte-clause-refused :
    goal.read_properties-returns-then-not-has_byte-clause-refused
read_properties-returns-then-not-has_byte-clause-refused t c =
    let found = c.in_ok-end.ensures.found in
    read_stops c.args.bytes.now c.args.start c.args.depth c.loop-props.props c.read_property.new.props found.0 c.loop-props.at c.in_ok-end.end c.loop-props.invariant found.1
    (λ h. true≢false (sym (c.has_byte.ensures.other h) ∙ c.if-has_byte.false))
    (λ h. true≢false (sym (c.has_byte-in-loop-props.ensures.other h) ∙ c.if-not-has_byte.true))

pub read_properties-loop-props-preserved : goal.read_properties-loop-props-preserved
read_properties-loop-props-preserved t c =
    let found = c.in_ok-end.ensures.found in
    let byte = c.has_byte-in-loop-props.ensures.found c.if-not-has_byte.false in
    read_more c.args.bytes.now c.args.start c.args.depth c.loop-props.props c.read_property.new.props found.0 c.loop-props.at c.in_ok-end.end c.loop-props.invariant found.1 byte.1 byte.0

pub read_property-returns-in_err-name-clause-refused :
    goal.read_property-returns-in_err-name-clause-refused
read_property-returns-in_err-name-clause-refused t c =
    let p = err_from_is_err_and c.from_residual.result c.from_residual.ensures.1 in
    let P : List Attribute → Type 0 = λ ps. RefusesName c.args.bytes.now c.args.at (names_of ps) c.in_err-name.field-0.0 in
    rw (p.1, p.2) (property_refused_name c.args.bytes.now c.args.at c.args.depth c.args.props.now _ (subst P c.as_slice.ensures.value c.in_err-name.ensures.refused))

pub read_property-read_kind-requires : goal.read_property-read_kind-requires
read_property-read_kind-requires t c =
    let found = name_of_old c.args.bytes.now c.args.at c.as_slice.result.now c.args.props.now c.in_ok-name.name c.as_slice.ensures.value c.in_ok-name.ensures.found in
    let end : c.args.at + length c.as_bytes.result.now ≡ c.args.at + length c.in_ok-name.name = ap (λ (w : List ℕ). c.args.at + length w) c.as_bytes.ensures.value in
    let within : c.args.at + length c.as_bytes.result.now ≤ length c.args.bytes.now =
    omega (arith, end, name_within c.args.bytes.now c.args.at (names_of c.args.props.now) c.in_ok-name.name found c.requires.within) in
    (omega (arith, c.decreases), (within, (ap (name_at c.args.bytes.now) end ∙ name_ended c.args.bytes.now c.args.at (names_of c.args.props.now) c.in_ok-name.name found, (c.requires.open, c.requires.shallow))))

pub read_property-returns-in_err-kind-clause-refused :
    goal.read_property-returns-in_err-kind-clause-refused
read_property-returns-in_err-kind-clause-refused t c =
    let p = err_from_is_err_and c.from_residual-in_err-kind.result c.from_residual-in_err-kind.ensures.1 in
    let found = name_of_old c.args.bytes.now c.args.at c.as_slice.result.now c.args.props.now c.in_ok-name.name c.as_slice.ensures.value c.in_ok-name.ensures.found in
    let end : c.args.at + length c.as_bytes.result.now ≡ c.args.at + length c.in_ok-name.name = ap (λ (w : List ℕ). c.args.at + length w) c.as_bytes.ensures.value in
    let P : ℕ → Type 0 = λ n. RefusesKind c.args.bytes.now n c.args.depth c.in_err-kind.field-0.0 in
    rw (p.1, p.2) (property_refused_kind c.args.bytes.now c.args.at c.args.depth c.args.props.now c.in_ok-name.name _ found (subst P end c.in_err-kind.ensures.refused))

pub read_property-returns-in-Ok-clause-found : goal.read_property-returns-in-Ok-clause-found
read_property-returns-in-Ok-clause-found t c =
    let found = name_of_old c.args.bytes.now c.args.at c.as_slice.result.now c.args.props.now c.in_ok-name.name c.as_slice.ensures.value c.in_ok-name.ensures.found in
    let end : c.args.at + length c.as_bytes.result.now ≡ c.args.at + length c.in_ok-name.name = ap (λ (w : List ℕ). c.args.at + length w) c.as_bytes.ensures.value in
    let P : ℕ → Type 0 = λ n. IsKindAt c.args.bytes.now n c.args.depth (domain_of c.in_ok-kind.kind) c.in_ok-kind.end in
    let property : Attribute = record { name = c.in_ok-name.name; domain = domain_of c.in_ok-kind.kind } in
    (property, property_found c.args.bytes.now c.args.at c.args.depth c.args.props.now c.push.new.self property c.in_ok-kind.end c.in-Ok.ensures.ok found (subst P end c.in_ok-kind.ensures.found))
