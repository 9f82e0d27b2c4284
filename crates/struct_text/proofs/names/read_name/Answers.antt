-- Each test of the code is one of the walk's at the start of a name.
use Rattle.std.proofs.Common.{◌≡◌, ◌≤◌, ◌<◌, ◌+◌, ◌-◌, ℕ, List, length, take, drop, sym, ap, subst, ◌∙◌, arith}
use Rattle.std.specs.List.{prefix_len}
use Rattle.std.proofs.lemmas.List.{length-map}
use Rattle.mk_value.specs.Limits.{max_name}
use Rattle.mk_value.specs.Names.{IsName, is_name_byte}
use Rattle.mk_value.specs.Heading.{Attribute, names_of}
use Rattle.struct_text.specs.Offences.{name_at}
use Rattle.struct_text.specs.Flaws.{has_name}
use Rattle.struct_text.proofs.NameParts.{has_name-names, refuses_end, refuses_byte, refuses_many, refuses_long, refuses_repeated, valid_at, name_found}
use Rattle.struct_text.proofs.names.read_name.Goals as goal
use Rattle.struct_text.proofs.names.read_name.Goals.{then-at-bytes-via-then-at-bytes, then-at-bytes-via-else-at-bytes+then-not-is_name_start}

word_is : (bytes : List ℕ) (at end : ℕ) → end ≡ at + prefix_len is_name_byte (drop at bytes) → take (end - at) (drop at bytes) ≡ name_at bytes at
word_is bytes at end e = ap (λ n. take n (drop at bytes)) (let d : end - at ≡ prefix_len is_name_byte (drop at bytes) = omega (arith, e) in d)

pub returns-then-at-bytes-clause-refused : goal.returns-then-at-bytes-clause-refused
returns-then-at-bytes-clause-refused c = elim c.then-at-bytes.branch [
  | then-at-bytes-via-then-at-bytes w ↦ refuses_end c.args.bytes.now c.args.at (names_of c.args.before.now) (omega arith)
  | then-at-bytes-via-else-at-bytes+then-not-is_name_start w ↦
      refuses_byte c.args.bytes.now c.args.at (names_of c.args.before.now) (omega arith) (sym w.is_name_start.ensures ∙ w.if-not-is_name_start.true)
]

pub returns-then-before-eq-MAX_PROPERTIES-clause-refused :
    goal.returns-then-before-eq-MAX_PROPERTIES-clause-refused
returns-then-before-eq-MAX_PROPERTIES-clause-refused c =
    refuses_many c.args.bytes.now c.args.at (names_of c.args.before.now) (omega arith) (sym c.is_name_start.ensures ∙ c.if-not-is_name_start.false)
    (length-map c.args.before.now (λ (a : Attribute). a.name) ∙ c.if-before-eq-MAX_PROPERTIES.true)

pub returns-then-word-gt-MAX_NAME-clause-refused :
    goal.returns-then-word-gt-MAX_NAME-clause-refused
returns-then-word-gt-MAX_NAME-clause-refused c =
    let word = word_is c.args.bytes.now c.args.at c.word_end.result c.word_end.ensures.run in
    let P : List ℕ → Type 0 = λ w. max_name < length w in
    refuses_long c.args.bytes.now c.args.at (names_of c.args.before.now) (omega arith) (sym c.is_name_start.ensures ∙ c.if-not-is_name_start.false)
    (λ e. c.if-before-eq-MAX_PROPERTIES.false (sym (length-map c.args.before.now (λ (a : Attribute). a.name)) ∙ e)) (subst P word c.if-word-gt-MAX_NAME.true)

pub returns-then-has_name-clause-refused : goal.returns-then-has_name-clause-refused
returns-then-has_name-clause-refused c =
    let word = word_is c.args.bytes.now c.args.at c.word_end.result c.word_end.ensures.run in
    let P : List ℕ → Type 0 = λ w. length w ≤ max_name in
    refuses_repeated c.args.bytes.now c.args.at (names_of c.args.before.now) (omega arith) (sym c.is_name_start.ensures ∙ c.if-not-is_name_start.false)
    (λ e. c.if-before-eq-MAX_PROPERTIES.false (sym (length-map c.args.before.now (λ (a : Attribute). a.name)) ∙ e)) (subst P word c.if-word-gt-MAX_NAME.false)
    (ap (has_name (names_of c.args.before.now)) (sym word) ∙ sym (has_name-names c.args.before.now _) ∙ sym c.has_name.ensures ∙ c.if-has_name.true)

pub name_of-requires : goal.name_of-requires
name_of-requires c =
    let word = word_is c.args.bytes.now c.args.at c.word_end.result c.word_end.ensures.run in
    let P : List ℕ → Type 0 = λ w. length w ≤ max_name in
    subst IsName (sym word) (valid_at c.args.bytes.now c.args.at (names_of c.args.before.now) (omega arith) (sym c.is_name_start.ensures ∙ c.if-not-is_name_start.false) (subst P word c.if-word-gt-MAX_NAME.false))

pub returns-clause-found : goal.returns-clause-found
returns-clause-found c =
    let word = word_is c.args.bytes.now c.args.at c.word_end.result c.word_end.ensures.run in
    let P : List ℕ → Type 0 = λ w. length w ≤ max_name in
    name_found c.args.bytes.now c.args.at (names_of c.args.before.now) c.name_of.result (omega arith) (sym c.is_name_start.ensures ∙ c.if-not-is_name_start.false)
    (omega (arith, length-map c.args.before.now (λ (a : Attribute). a.name), c.requires.few))
    (λ e. c.if-before-eq-MAX_PROPERTIES.false (sym (length-map c.args.before.now (λ (a : Attribute). a.name)) ∙ e)) (subst P word c.if-word-gt-MAX_NAME.false)
    (ap (has_name (names_of c.args.before.now)) (sym word) ∙ sym (has_name-names c.args.before.now _) ∙ sym c.has_name.ensures ∙ c.if-has_name.false)
    (c.name_of.ensures ∙ word)
