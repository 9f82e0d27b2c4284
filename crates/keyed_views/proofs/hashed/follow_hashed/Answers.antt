use Rattle.std.proofs.Common.{◌≡◌, ℕ, ◌+◌, ◌++◌, List, Some, ap, suc, sym, subst, take, drop, ◌∙◌, arith}
use Rattle.std.specs.List.{insert}
use Rattle.mk_value.specs.Data.{Datum}
use Rattle.mapped.specs.Index.{row_of}
use Rattle.mapped.proofs.Calling.{come_in}
use Rattle.keyed_views.specs.Keyed.{IsHashed, edits_of}
use Rattle.keyed_views.specs.declared.keyed.KeyedEdit.TheVariants.{Replace}
use Rattle.row_edits.specs.Edits.{edited_by}
use Rattle.keyed_views.proofs.Hashing.{missing, replaced_key}
use Rattle.keyed_views.proofs.hashed.follow_hashed.Goals as goal

pub follow-requires-clause-whole : goal.follow-requires-clause-whole
follow-requires-clause-whole c =
    let keys = c.args.index.now.keys in
    let h = subst (λ e. IsHashed e c.args.key keys) c.in-Put.is c.requires.hashed in
    come_in keys c.in-Put.at c.args.key c.len-size.ensures.whole h.1 h.2 (missing keys c.args.key c.len-size.ensures.whole h.0)

replaced_is : (keys : List (List Datum)) (key : List Datum) (at : ℕ) → row_of key keys ≡ Some at → keys ≡ edited_by key (edits_of (Replace at)) keys
replaced_is keys key at e =
    replaced_key keys key at e
    ∙ ap (λ n. insert (take at keys ++ drop n keys) at key) (let f : suc at ≡ at + 1 = omega arith in f)

pub returns-in-Replace : goal.returns-in-Replace
returns-in-Replace c =
    let keys : List (List Datum) = c.args.index.now.keys in
    let h = subst (λ e. IsHashed e c.args.key keys) c.in-Replace.is c.requires.hashed in
    record { keys = replaced_is keys c.args.key c.in-Replace.at h ∙ ap (λ e. edited_by c.args.key (edits_of e) keys) (sym c.in-Replace.is) }
