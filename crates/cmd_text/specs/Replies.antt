-- The texts of replies.
use Rattle.std.specs.Prelude.{ℕ, List, [], ◌∷◌, ◌++◌, length, map, codes, decimal}
use Rattle.std.specs.List.{flat_map}
use Rattle.mk_value.specs.Buffer.{Buffer}
use Rattle.cmd_text.specs.declared.reply.Reply.{Reply}
use Rattle.cmd_text.specs.declared.reply.Reply.TheVariants.{Silent, Plain, Count, Pair, NotFound, Lines, One, Row, Commit, Rollback, Reopen, Revert, Space, Quit, Refused}
use Rattle.cmd_text.specs.declared.refusal.Refusal.{Refusal}
use Rattle.cmd_text.specs.declared.refusal.Refusal.TheVariants as refusals

-- each refusal by its number and its word, and with its values
abbrev pub refusal_text : Refusal → List ℕ
refusal_text refusals.Memory = codes "err 1 memory"
refusal_text (refusals.Syntax place) = codes "err 2 syntax " ++ decimal place
refusal_text refusals.NoName = codes "err 3 noname"
refusal_text refusals.Exists = codes "err 4 exists"
refusal_text (refusals.Range size) = codes "err 5 range " ++ decimal size
refusal_text refusals.NoProp = codes "err 6 noprop"
refusal_text refusals.Kind = codes "err 7 kind"
refusal_text refusals.Limit = codes "err 8 limit"
refusal_text refusals.Disk = codes "err 9 disk"
refusal_text (refusals.Full end cap) = codes "err 10 full " ++ (decimal end ++ (codes " " ++ decimal cap))
refusal_text refusals.Shut = codes "err 11 shut"
refusal_text refusals.LastNumber = codes "err 12 lastnumber"
refusal_text (refusals.Floating place) = codes "err 13 floating " ++ decimal place
refusal_text refusals.ReadOnly = codes "err 14 readonly"
refusal_text (refusals.Damaged place) = codes "err 15 damaged " ++ decimal place
refusal_text refusals.InUse = codes "err 16 inuse"
refusal_text (refusals.Keys row) = codes "err 17 keys " ++ decimal row
refusal_text refusals.Unsorted = codes "err 18 unsorted"

-- the bytes of texts
abbrev pub contents : List Buffer → List (List ℕ)
contents texts = map (λ t. t.bytes) texts

abbrev pub reply_line : List ℕ → List ℕ
reply_line text = text ++ (10 ∷ [])

-- the number of the lines, and the lines
abbrev pub lines_text : List (List ℕ) → List ℕ
lines_text lines = reply_line (codes "ok " ++ decimal (length lines)) ++ flat_map reply_line lines

-- the bytes of a reply
abbrev pub reply_bytes : Reply → List ℕ
reply_bytes Silent = []
reply_bytes Plain = reply_line (codes "ok")
reply_bytes (Count n) = reply_line (codes "ok " ++ decimal n)
reply_bytes (Pair a b) = reply_line (codes "ok " ++ (decimal a ++ (codes " " ++ decimal b)))
reply_bytes NotFound = reply_line (codes "ok none")
reply_bytes (Lines count lines) = reply_line (codes "ok " ++ decimal count) ++ lines.bytes
reply_bytes (One text) = reply_line (codes "ok " ++ text.bytes)
reply_bytes (Row text) = reply_line (codes "ok " ++ text.bytes)
reply_bytes (Commit n) = reply_line (codes "ok commit " ++ decimal n)
reply_bytes (Rollback n) = reply_line (codes "ok rollback " ++ decimal n)
reply_bytes (Reopen n) = reply_line (codes "ok reopen " ++ decimal n)
reply_bytes (Revert n) = reply_line (codes "ok revert " ++ decimal n)
reply_bytes (Space space) =
    reply_line (codes "ok space " ++ (decimal space.number ++ (codes " " ++ (decimal space.end ++ (codes " " ++ decimal space.used)))))
reply_bytes Quit = reply_line (codes "ok quit")
reply_bytes (Refused refusal) = reply_line (refusal_text refusal)
