use Rattle.std.proofs.Common.{◌≡◌, ◌≤◌, length, take, ap, sym, subst, arith, rules}
use Rattle.std.specs.Str.{IsUtf8}
use Rattle.std.specs.String.{string_bytes, string_len}
use Rattle.std.proofs.lemmas.Str.{IsUtf8-string_bytes, IsCharBoundary-from_take}
use Rattle.mk_value.specs.Buffer.{Buffer}
use Rattle.mk_value.proofs.text.Text.truncate.Goals as goal

pub truncate-requires : goal.truncate-requires
truncate-requires c =
    let s = c.self.inside.string in
    let long : string_len s ≡ length (string_bytes s) = search rules in
    let same = ap (λ (b : Buffer). take c.args.len b.bytes) (sym c.self.view_is) in
    λ h. let within : c.args.len ≤ length (string_bytes s) = omega arith in
    (within, λ _ below. (IsCharBoundary-from_take (string_bytes s) c.args.len (IsUtf8-string_bytes s) within (subst IsUtf8 same c.requires)).1 below)
