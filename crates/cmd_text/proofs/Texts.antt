-- Texts appended one after another, each as a line.
use Rattle.std.proofs.Common.{◌≡◌, ℕ, List, [], ◌∷◌, ◌++◌, refl, ap}
use Rattle.std.specs.List.{flat_map}
use Rattle.mk_value.specs.Buffer.{Buffer}
use Rattle.cmd_text.specs.Replies.{contents, reply_line}

-- a text as a line
abbrev pub line_of : Buffer → List ℕ
line_of text = reply_line text.bytes

pub flat_map-contents : (texts : List Buffer) → flat_map line_of texts ≡ flat_map reply_line (contents texts)
flat_map-contents [] = refl
flat_map-contents (text ∷ texts) = ap (λ rest. line_of text ++ rest) (flat_map-contents texts)
