use Rattle.std.proofs.Common.{List, refl}
use Rattle.mk_value.proofs.Walks.{same_default}
use Rattle.dir_codec.specs.declared.dir.Memo.{Memo}
use Rattle.dir_codec.specs.Dir.{spelled_memo}
use Rattle.dir_codec.specs.Parts.{spelled_memos}
use Rattle.dir_codec.proofs.Written.{one_more}
use Rattle.dir_codec.proofs.writing.write_memos.Goals as goal

pub loop-memo-preserved : goal.loop-memo-preserved
loop-memo-preserved c = one_more (λ (m : Memo). spelled_memo m) (λ (memos : List Memo). spelled_memos memos) (λ x xs. refl) c.as_slice-memo-items.result.now c.loop-memo.memo-index _ _
    c.loop-memo.out.bytes c.write_memo.new.out.bytes c.loop-memo-test.true (same_default c.as_slice-memo-items.result.now c.loop-memo.memo-index _ _ c.loop-memo-test.true) c.loop-memo.invariant c.in_ok-write_memo.ensures
