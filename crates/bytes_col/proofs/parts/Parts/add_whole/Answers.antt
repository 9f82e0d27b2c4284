use Rattle.std.proofs.Common.{[], ap, ◌++◌, ◌∙◌, replicate, get_or}
use Rattle.std.proofs.lemmas.Result.{on_ok_weaker}
use Rattle.bytes_col.proofs.PartLaws.{whole_added}
use Rattle.bytes_col.proofs.parts.Parts.add_whole.Goals as goal

pub returns-clause-values : goal.returns-clause-values
returns-clause-values c =
    on_ok_weaker c.push_clones-2.result
    (λ pushed. whole_added c.args.self.now.done c.push_clones-2.new.self c.args.self.now.last c.add_copies.new.self c.in_ok-of.field-0 c.args.count (get_or c.args.one.now 0 [])
    c.requires.empty (c.in_ok-add_copies.ensures ∙ ap (λ z. z ++ replicate 512 (get_or c.args.one.now 0 [])) c.new-whole.ensures) c.in_ok-of.ensures pushed)
    c.push_clones-2.ensures
