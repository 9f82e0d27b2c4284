use Rattle.std.proofs.Common.{◌≡◌, List, [], ◌∷◌, map, refl, sym, ◌∙◌, true≢false}
use Rattle.dir_codec.specs.declared.dir.Note.{Note}
use Rattle.dir_codec.specs.Values.{note_of}
use Rattle.recovery.specs.Commits.{version_of}
use Rattle.storage.proofs.marks.version_of.Goals as goal

with_notes : (notes : List Note) → (notes ≡ [] → ⊥) → 2 ≡ version_of (map note_of notes)
with_notes [] some = absurd (some refl)
with_notes (n ∷ notes) some = refl

pub returns : goal.returns
returns c = with_notes c.args.notes.now (λ none. true≢false (sym (c.is_empty.ensures.1 none) ∙ c.if-is_empty.false))
