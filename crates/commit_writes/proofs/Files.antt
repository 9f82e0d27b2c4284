-- The bytes of a file as blocks and the whole of a slot are put.
use Rattle.std.proofs.Common.{◌≡◌, refl, sym, ◌∙◌, ap, ℕ, ◌+◌, ◌≤◌, List, [], ◌∷◌, ◌++◌, length, take, drop, arith, le_trans, length-append, length-drop, length-take}
use Rattle.std.proofs.lemmas.List.{append_assoc, drop_at, length-take-le, take-take}
use Rattle.host_io.specs.Calls.{put_bytes}
use Rattle.host_io.proofs.Bytes.{take-put_bytes}
use Rattle.commit_writes.specs.Blocks.{Block, extent_bytes, with_blocks}

-- the last of some blocks is put behind the others
pub with_last : (blocks : List Block) (b : Block) (file : List ℕ) → with_blocks (blocks ++ b ∷ []) file ≡ put_bytes (with_blocks blocks file) b.span.place (extent_bytes b)
with_last [] b file = refl
with_last (first ∷ blocks) b file = with_last blocks b (put_bytes file first.span.place (extent_bytes first))

-- no file gets shorter
pub put_lengthens : (file : List ℕ) (place : ℕ) (bytes : List ℕ) → length file ≤ length (put_bytes file place bytes)
put_lengthens file place bytes = omega (arith, length-append (take place file ++ bytes) (drop (place + length bytes) file), length-append (take place file) bytes, length-drop (place + length bytes) file, length-take place file)

pub blocks_lengthen : (blocks : List Block) (file : List ℕ) → length file ≤ length (with_blocks blocks file)
blocks_lengthen [] file = omega arith
blocks_lengthen (b ∷ blocks) file = le_trans (put_lengthens file b.span.place (extent_bytes b)) (blocks_lengthen blocks (put_bytes file b.span.place (extent_bytes b)))

-- a byte that is put right before bytes is put with them
pub put_before : (file : List ℕ) (place byte : ℕ) (bytes : List ℕ) → place + 1 ≤ length file → put_bytes (put_bytes file (place + 1) bytes) place (byte ∷ []) ≡ put_bytes file place (byte ∷ bytes)
put_before file place byte bytes within =
    ap (λ (l : List ℕ). l ++ byte ∷ [] ++ drop (place + 1) later) front
    ∙ ap (λ (l : List ℕ). take place file ++ byte ∷ [] ++ l) behind
    ∙ sym (append_assoc (take place file ++ byte ∷ []) bytes (drop (place + 1 + length bytes) file))
    ∙ ap (λ (l : List ℕ). l ++ drop (place + 1 + length bytes) file) (append_assoc (take place file) (byte ∷ []) bytes)
    ∙ ap (λ (n : ℕ). take place file ++ (byte ∷ bytes) ++ drop n file) reach
  where
    later : List ℕ
    later = put_bytes file (place + 1) bytes

    front : take place later ≡ take place file
    front =
        sym (take-take place (place + 1) later (omega arith))
        ∙ ap (take place) (take-put_bytes file (place + 1) bytes within)
        ∙ take-take place (place + 1) file (omega arith)

    behind : drop (place + 1) later ≡ bytes ++ drop (place + 1 + length bytes) file
    behind =
        ap (drop (place + 1)) (append_assoc (take (place + 1) file) bytes (drop (place + 1 + length bytes) file))
        ∙ drop_at (take (place + 1) file) (bytes ++ drop (place + 1 + length bytes) file) (place + 1) (length-take-le (place + 1) file within)

    reach : place + 1 + length bytes ≡ place + length (byte ∷ bytes)
    reach = omega arith
