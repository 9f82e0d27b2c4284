use Rattle.std.proofs.Common.{ap, subst}
use Rattle.std.specs.Str.{IsUtf8}
use Rattle.std.proofs.lemmas.Str.{IsUtf8-string_bytes}
use Rattle.mk_value.specs.Buffer.{Buffer}
use Rattle.mk_value.proofs.text.Text.len.Goals as goal

pub returns-clause-utf8 : goal.returns-clause-utf8
returns-clause-utf8 c = subst IsUtf8 (ap (λ (b : Buffer). b.bytes) c.self.view_is) (IsUtf8-string_bytes c.self.inside.string)
