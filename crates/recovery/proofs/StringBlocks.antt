-- Blocks that no texts or byte strings have.
use Rattle.std.proofs.Common.{◌≡◌, ℕ, ℤ, List, sym, ◌∙◌}
use Rattle.bit_pack.proofs.Packing.{same_values}
use Rattle.bytes_col.specs.Strings.{sizes_of}
use Rattle.bytes_col.specs.Blocks.{IsBlocksRefusal}
use Rattle.bytes_col.specs.declared.blocks.BlocksError.{BlocksError}
use Rattle.bytes_col.specs.declared.blocks.BlocksError.TheVariants as blocks_error
use Rattle.host_io.specs.Ranges.{bytes_in}
use Rattle.commit_writes.specs.Blocks.{span_range}
use Rattle.recovery.specs.declared.error.ReadError.TheVariants.{Unreadable, Memory}
use Rattle.recovery.specs.Causes.{cause_of_column}
use Rattle.recovery.specs.Memos.{memo_bytes}
use Rattle.recovery.specs.Numbers.{AreNumbersAt}
use Rattle.recovery.specs.Strings.{AreStringsAt, Parts}

pub no_values : (image : List ℕ) (p : Parts) (rows : ℕ) (sizes : List ℤ) (short : List ℕ) (memos : List (List ℕ)) (e : BlocksError) → AreNumbersAt image p.width p.sizes rows sizes → short ≡ bytes_in image (span_range p.short) → memos ≡ memo_bytes image p.memos
    → IsBlocksRefusal sizes short memos e → cause_of_column e ≡ Unreadable → (values : List (List ℕ)) → AreStringsAt image p rows values → ⊥
no_values image p rows sizes short memos blocks_error.Mismatch numbers brief long refused cause values at =
    refused values (record {
      sized = same_values p.width sizes (sizes_of values) (bytes_in image (span_range p.sizes)) numbers.packed.packed at.sized.packed.packed (numbers.count ∙ sym at.sized.count);
      brief = brief ∙ at.brief;
      long = long ∙ at.long;
    })
no_values image p rows sizes short memos blocks_error.Memory numbers brief long refused cause values at = absurd (let e : Memory ≡ Unreadable = cause in cc)
