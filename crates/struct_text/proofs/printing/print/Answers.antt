-- What was appended stands behind the text that was there, which is UTF-8, so the text may be cut back to that.
use Rattle.std.proofs.Common.{◌≡◌, ℕ, List, ◌++◌, take, ap, sym, ◌∙◌, subst}
use Rattle.std.proofs.Math.Seq.{take-append_seam}
use Rattle.std.specs.Str.{IsUtf8}
use Rattle.struct_text.proofs.printing.print.Goals as goal

pub truncate-requires : goal.truncate-requires
truncate-requires c =
    let cut = c.in-Err.ensures.appended in
    let old = c.args.out.now.bytes in
    let back : take c.len-before.result c.print_structure.new.out.bytes ≡ old =
    ap (λ (bytes : List ℕ). take c.len-before.result bytes) cut.2.at_end
    ∙ ap (λ (n : ℕ). take n (old ++ cut.0)) c.len-before.ensures.value
    ∙ take-append_seam old cut.0 in
    subst (λ (bytes : List ℕ). IsUtf8 bytes) (sym back) c.len-before.ensures.utf8
