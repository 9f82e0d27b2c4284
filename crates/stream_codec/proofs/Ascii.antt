-- Structure texts are ASCII, so they are UTF-8.
use Rattle.std.proofs.Common.{ℕ, zero, suc, ◌<◌, List, [], ◌∷◌, ◌++◌, sym, subst, lit<}
use Rattle.std.specs.Str.{IsAscii, IsUtf8}
use Rattle.std.proofs.lemmas.Str.{IsAscii-append, IsUtf8-from_ascii}
use Rattle.mk_value.specs.Heading.{Domain, integer, long, text, bytes, relation, Heading, no_attributes, attribute, Attribute, heading_of, AreAttributes, IsDomain}
use Rattle.mk_value.proofs.Headings.{AreAttributes-heading_of}
use Rattle.mk_value.proofs.Names.{IsAscii-name}
use Rattle.struct_text.specs.Bytes.{open_bracket, close_bracket, colon, comma}
use Rattle.struct_text.specs.Spelling.{spelled_domain, spelled_properties, Spells}

ascii_cons : (b : ℕ) (bs : List ℕ) → b < 128 → IsAscii bs → IsAscii (b ∷ bs)
ascii_cons b bs low rest zero = low
ascii_cons b bs low rest (suc i) = rest i

ascii_none : IsAscii []
ascii_none i = lit< tt

ascii_letter : (k : ℕ) → k < 128 → IsAscii (colon ∷ k ∷ [])
ascii_letter k low = ascii_cons colon (k ∷ []) (lit< tt) (ascii_cons k [] low ascii_none)

mutual
  ascii_domain : (d : Domain) → IsDomain d → IsAscii (spelled_domain d)
  ascii_domain integer whole = ascii_letter 73 (lit< tt)
  ascii_domain long whole = ascii_letter 76 (lit< tt)
  ascii_domain text whole = ascii_letter 83 (lit< tt)
  ascii_domain bytes whole = ascii_letter 66 (lit< tt)
  ascii_domain (relation h) whole = ascii_cons open_bracket (spelled_properties h ++ close_bracket ∷ []) (lit< tt)
      (IsAscii-append (spelled_properties h) (close_bracket ∷ []) (ascii_properties h whole.1) (ascii_cons close_bracket [] (lit< tt) ascii_none))

  ascii_properties : (h : Heading) → AreAttributes h → IsAscii (spelled_properties h)
  ascii_properties no_attributes whole = ascii_none
  ascii_properties (attribute n d no_attributes) whole = IsAscii-append n (spelled_domain d) (IsAscii-name n whole.0) (ascii_domain d whole.1)
  ascii_properties (attribute n d (attribute m e rest)) whole =
      let others = spelled_properties (attribute m e rest) in
      IsAscii-append n (spelled_domain d ++ (comma ∷ others)) (IsAscii-name n whole.0)
      (IsAscii-append (spelled_domain d) (comma ∷ others) (ascii_domain d whole.1) (ascii_cons comma others (lit< tt) (ascii_properties (attribute m e rest) whole.2)))

pub Spells-utf8 : (spelled name : List ℕ) (schema : List Attribute) → Spells spelled name schema → IsUtf8 spelled
Spells-utf8 spelled name schema is = subst IsUtf8 (sym is.is)
    (IsUtf8-from_ascii (name ++ spelled_domain (relation (heading_of schema)))
    (IsAscii-append name (spelled_domain (relation (heading_of schema))) (IsAscii-name name is.named)
    (ascii_cons open_bracket (spelled_properties (heading_of schema) ++ close_bracket ∷ []) (lit< tt)
    (IsAscii-append (spelled_properties (heading_of schema)) (close_bracket ∷ []) (ascii_properties (heading_of schema) (AreAttributes-heading_of schema is.whole.attributes))
    (ascii_cons close_bracket [] (lit< tt) ascii_none)))))
