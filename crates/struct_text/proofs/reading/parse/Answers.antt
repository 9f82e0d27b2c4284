-- What reading found, in the words of the grammar and of the offences.
use Rattle.struct_text.proofs.Whole.{accepts, names_offence, reads_from, refusal}
use Rattle.struct_text.proofs.reading.parse.Goals as goal

pub returns-clause-accepted : goal.returns-clause-accepted
returns-clause-accepted c =
    accepts c.args.text.now c.read_text.result
    (reads_from c.args.text.now c.as_bytes.result.now c.read_text.result c.as_bytes.ensures.value c.read_text.ensures.found c.read_text.ensures.clean c.read_text.ensures.refused)

pub returns-clause-refused : goal.returns-clause-refused
returns-clause-refused c =
    refusal c.args.text.now c.read_text.result
    (reads_from c.args.text.now c.as_bytes.result.now c.read_text.result c.as_bytes.ensures.value c.read_text.ensures.found c.read_text.ensures.clean c.read_text.ensures.refused)

pub returns-clause-offence : goal.returns-clause-offence
returns-clause-offence c =
    names_offence c.args.text.now c.read_text.result
    (reads_from c.args.text.now c.as_bytes.result.now c.read_text.result c.as_bytes.ensures.value c.read_text.ensures.found c.read_text.ensures.clean c.read_text.ensures.refused)
