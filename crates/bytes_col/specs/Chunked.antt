-- A list of values in chunks, by how many chunks there are.
use Rattle.std.specs.Prelude.{ℕ, List, [], ◌∷◌}
use Rattle.bytes_col.specs.declared.chunked.Kind.{Kind}
use Rattle.bytes_col.specs.declared.chunked.Kind.TheVariants.{Empty, One, Many, Growing}

-- the chunks, each seen as the list of its values
abbrev pub chunks_of : Kind → List (List (List ℕ))
chunks_of (Empty alloc) = []
chunks_of (One chunk) = chunk ∷ []
chunks_of (Many spine) = spine
chunks_of (Growing growing) = growing
