use Rattle.stream_codec.proofs.stage.take_outside.Goals as goal

pub returns-in-Views-clause-refused : goal.returns-in-Views-clause-refused
returns-in-Views-clause-refused c = rw c.in-Views.is (c.take_text_length.ensures.refused c.args.root.now)
