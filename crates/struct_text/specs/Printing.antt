-- What printing does to the text that it appends to, also where memory runs out.
use Rattle.std.specs.Prelude.{◌≡◌, ℕ, ◌+◌, ◌<◌, ◌≤◌, List, ◌∷◌, ◌++◌, length, Result, Ok, Err, flat_map}
use Rattle.mk_value.specs.Buffer.{Buffer}
use Rattle.mk_value.specs.Heading.{Attribute}
use Rattle.struct_text.specs.Bytes.{comma}
use Rattle.struct_text.specs.Spelling.{spelled_domain}

-- These bytes came to the end of the text, and took no more than their length of its room.
pub record IsAppended (old new : Buffer) (added : List ℕ) : Type 0 where
  pub at_end : new.bytes ≡ old.bytes ++ added
  pub spare : old.spare ≤ new.spare + length added

-- There was no room for these bytes, and a front of them came to the end of the text.
pub record IsCutOff (old new : Buffer) (whole front rest : List ℕ) : Type 0 where
  pub full : old.spare < length whole
  pub cut : whole ≡ front ++ rest
  pub at_end : new.bytes ≡ old.bytes ++ front
  pub spare : old.spare ≤ new.spare + length whole

abbrev pub Appends : {E : Type 0} → Buffer → Buffer → List ℕ → Result (Unit {0}) E → Type 0
Appends old new whole (Ok _) = IsAppended old new whole
Appends old new whole (Err _) = (front : List ℕ) × (rest : List ℕ) × IsCutOff old new whole front rest

-- a property, and more of them, each behind a comma
abbrev pub spelled_property : Attribute → List ℕ
spelled_property a = a.name ++ spelled_domain a.domain

abbrev pub spelled_others : List Attribute → List ℕ
spelled_others properties = flat_map (λ a. comma ∷ spelled_property a) properties
