use Rattle.struct_text.proofs.PrintParts.{Appends-from}
use Rattle.struct_text.proofs.printing.append.Goals as goal

pub returns : goal.returns
returns c =
    Appends-from c.args.out.now c.push_str.new.self c.args.text.now c.push_str.result c.push_str.ensures.ok c.push_str.ensures.err c.push_str.ensures.roomy c.push_str.ensures.spare
