use Rattle.stream_codec.proofs.ReadFields.{bytes_are}
use Rattle.stream_codec.proofs.values.read_content.Goals as goal

pub returns-in_ok-from_slice-in-B : goal.returns-in_ok-from_slice-in-B
returns-in_ok-from_slice-in-B c =
    rw c.in-B.is (bytes_are c.args.field.now c.in_ok-from_slice-in-B.field-0.bytes c.in_ok-from_slice-in-B.ensures (rw c.in-B.is at c.requires))
