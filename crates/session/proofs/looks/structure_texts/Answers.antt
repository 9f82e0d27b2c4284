use Rattle.std.proofs.Common.{◌≡◌, ◌+◌, ◌<◌, ◌++◌, ◌∙◌, length, drop, subst, sym, ap, arith}
use Rattle.mk_value.proofs.Walks.{drop_read}
use Rattle.cmd_text.specs.Replies.{contents}
use Rattle.struct_text.specs.Spelling.{spelling}
use Rattle.session.specs.Structures.{structure_texts}
use Rattle.session.proofs.Walked.{walked_structures, all_structures}
use Rattle.session.proofs.looks.structure_texts.Goals as goal

pub loop-at-preserved : goal.loop-at-preserved
loop-at-preserved c =
    let names = c.args.names.now in
    let tables = c.args.tables.now in
    let at = c.loop-at.at in
    let within : at < length tables = let paired = c.requires in let test = c.loop-at-test.true in omega (arith, paired, test) in
    subst (λ texts. contents texts ++ structure_texts (drop (at + 1) names) (drop (at + 1) tables) ≡ structure_texts names tables) (sym c.in_ok-push.ensures.ok)
    (walked_structures c.loop-at.texts c.in_ok-text.text names tables at c.index-names-at.result c.index-tables-at.result
    (drop_read names at _ c.loop-at-test.true c.index-names-at.is) (drop_read tables at _ within c.index-tables-at.is)
    (c.in_ok-text.ensures ∙ ap (λ schema. spelling c.index-names-at.result schema) c.schema.ensures.value) c.loop-at.invariant)

pub returns : goal.returns
returns c = all_structures c.loop-at.texts c.args.names.now c.args.tables.now c.loop-at.at c.loop-at-test.false c.loop-at.invariant
