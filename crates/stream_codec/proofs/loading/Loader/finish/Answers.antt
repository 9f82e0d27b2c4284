use Rattle.std.proofs.Common.{subst, List, ℕ}
use Rattle.stream_codec.specs.Fields.{IsCutOffAt}
use Rattle.stream_codec.specs.Stream.{IsStream}
use Rattle.stream_codec.proofs.Loads.{cut_off, is_stream, some_due}
use Rattle.stream_codec.proofs.Names.{looked_none, looked_some}
use Rattle.stream_codec.proofs.loading.Loader.finish.Goals as goal

pub returns-then-is_some-clause-refused : goal.returns-then-is_some-clause-refused
returns-then-is_some-clause-refused c =
    let p = c.self.inside.progress in
    let found = looked_some c.field_len.result _ _ (c.field_len.ensures p.root) c.if-is_some.ensures in
    subst (λ (l : List ℕ). IsCutOffAt l p.place) c.self.view_is (cut_off p c.self.inside.waiting.bytes c.self.invariant (some_due _ found.0 found.1))

pub returns-clause-whole : goal.returns-clause-whole
returns-clause-whole c =
    let p = c.self.inside.progress in
    let none = looked_none c.field_len.result _ _ (c.field_len.ensures p.root) c.if-is_some.ensures in
    subst (λ (l : List ℕ). IsStream l p.root) c.self.view_is (is_stream p c.self.inside.waiting.bytes c.self.invariant none c.names-names.ensures.whole)
