-- The offences of a text against the rules of structure texts, each with its place.
use Rattle.std.specs.Prelude.{◌≡◌, ◌⊎◌, ℕ, ◌+◌, ◌-◌, ◌<◌, ◌≤◌, List, [], ◌∷◌, ◌++◌, length, take, drop, IsTrue, Contains, count_by, slice_index, take_while, ◌==◌}
use Rattle.mk_value.specs.Limits.{max_name, max_properties, max_depth}
use Rattle.mk_value.specs.Names.{is_name_byte}
use Rattle.struct_text.specs.Bytes.{open_bracket, close_bracket, colon, comma, is_floating_letter}
use Rattle.struct_text.specs.Grammar.{IsLoose, BeginsLoose, AreListed}
use Rattle.struct_text.specs.declared.error.StructError.{StructError}
use Rattle.struct_text.specs.declared.error.StructError.TheVariants.{Syntax, Floating, Repeated, TooDeep, TooMany, TooLong, Memory}

-- The byte at the place can stand there: some loose text begins with the bytes up to it.
pub record CanStand (text : List ℕ) (place : ℕ) : Type 0 where
  pub within : place < length text
  pub begins : BeginsLoose (take (place + 1) text)

-- the byte right before the place
abbrev pub Follows : List ℕ → ℕ → ℕ → Type 0
Follows text place byte = (front : List ℕ) × (take place text ≡ front ++ byte ∷ [])

-- how many brackets are open behind the bytes
abbrev pub open_brackets : List ℕ → ℕ
open_brackets bytes = count_by (λ b. b == open_bracket) bytes - count_by (λ b. b == close_bracket) bytes

-- the run of letters, digits and `_` from the place on
abbrev pub name_at : List ℕ → ℕ → List ℕ
name_at text place = take_while is_name_byte (drop place text)

-- The properties of these names stand before the place in the same brackets: behind a `[` come they alone, each with its comma.
abbrev pub StandBefore : List ℕ → ℕ → List (List ℕ) → Type 0
StandBefore text place names = (front : List ℕ) × (listed : List ℕ) × (take place text ≡ front ++ (open_bracket ∷ listed)) × AreListed names listed

-- No loose text begins with the bytes up to this one; with each shorter front one does.
pub record IsFirstWrongByte (text : List ℕ) (place : ℕ) : Type 0 where
  pub within : place < length text
  pub right_before : (q : ℕ) → q ≤ place → BeginsLoose (take q text)
  pub wrong : BeginsLoose (take (place + 1) text) → ⊥

-- The text is a proper front of a loose text, and the place is its length.
pub record EndsEarly (text : List ℕ) (place : ℕ) : Type 0 where
  pub at_end : place ≡ length text
  pub goes_on : (byte : ℕ) × (rest : List ℕ) × IsLoose (text ++ byte ∷ rest)

-- the letter `F` or `D` where a kind stands: behind a colon
pub record IsFloatingKind (text : List ℕ) (place : ℕ) : Type 0 where
  pub stands : CanStand text place
  pub kind : Follows text place colon
  pub floating : IsTrue (is_floating_letter (slice_index text place))

-- the `[` that opens depth 9
pub record OpensTooDeep (text : List ℕ) (place : ℕ) : Type 0 where
  pub stands : CanStand text place
  pub bracket : slice_index text place ≡ open_bracket
  pub deep : open_brackets (take place text) ≡ max_depth

-- the start of the 65th property's name
pub record IsOneTooMany (text : List ℕ) (place : ℕ) : Type 0 where
  pub stands : CanStand text place
  pub full : (names : List (List ℕ)) × StandBefore text place names × (length names ≡ max_properties)

-- the start of a name of more than 31 bytes: at the text's start, or behind `[` or `,`
pub record BeginsTooLong (text : List ℕ) (place : ℕ) : Type 0 where
  pub stands : CanStand text place
  pub starts : (place ≡ 0) ⊎ (Follows text place open_bracket ⊎ Follows text place comma)
  pub long : max_name < length (name_at text place)

-- the start of a name that stood before in the same brackets
pub record RepeatsName (text : List ℕ) (place : ℕ) : Type 0 where
  pub stands : CanStand text place
  pub before : (names : List (List ℕ)) × StandBefore text place names × Contains names (name_at text place)

-- The text offends so, at the place that the refusal names. Want of memory is no offence of a text.
abbrev pub Offends : List ℕ → StructError → Type 0
Offends text (Syntax p) = IsFirstWrongByte text p ⊎ EndsEarly text p
Offends text (Floating p) = IsFloatingKind text p
Offends text (Repeated p) = RepeatsName text p
Offends text (TooDeep p) = OpensTooDeep text p
Offends text (TooMany p) = IsOneTooMany text p
Offends text (TooLong p) = BeginsTooLong text p
Offends text Memory = ⊥

abbrev pub place_of : StructError → ℕ
place_of (Syntax p) = p
place_of (Floating p) = p
place_of (Repeated p) = p
place_of (TooDeep p) = p
place_of (TooMany p) = p
place_of (TooLong p) = p
place_of Memory = 0

-- At one place they are tested in this order. The first four are never found at one place.
abbrev pub rank_of : StructError → ℕ
rank_of (Syntax p) = 0
rank_of (Floating p) = 1
rank_of (TooDeep p) = 2
rank_of (TooMany p) = 3
rank_of (TooLong p) = 4
rank_of (Repeated p) = 5
rank_of Memory = 6

-- a comes before b: at a lesser place, or at the same and no later in the order of tests
abbrev pub Precedes : StructError → StructError → Type 0
Precedes a b = (place_of a < place_of b) ⊎ ((place_of a ≡ place_of b) × (rank_of a ≤ rank_of b))

-- the offence that decides: of all offences of the text the one at the least place
pub record IsFirstOffence (text : List ℕ) (offence : StructError) : Type 0 where
  pub offends : Offends text offence
  pub first : (other : StructError) → Offends text other → Precedes offence other
