-- Memos read one after another.
use Rattle.std.proofs.Common.{◌≡◌, ℕ, suc, ◌+◌, ◌-◌, ◌<◌, ◌≤◌, List, [], ◌∷◌, ◌++◌, length, length-append, refl, sym, ◌∙◌, ap, subst, arith}
use Rattle.std.proofs.lemmas.List.{append-nil, append_assoc}
use Rattle.dir_codec.specs.declared.dir.Memo.{Memo}
use Rattle.dir_codec.specs.declared.error.DirError.{DirError}
use Rattle.dir_codec.specs.Dir.{AreMemos, IsMemo, spelled_memo}
use Rattle.dir_codec.specs.Fields.{Due, memo_row, memos_due}
use Rattle.dir_codec.specs.Parts.{next_row, spelled_memos}
use Rattle.dir_codec.specs.Reads.{Leads, Flaws}
use Rattle.dir_codec.proofs.Reading.{flaws_leads, leads_joins, leads_none}

-- one memo more
pub memos_push : (end rows least : ℕ) (memos : List Memo) (memo : Memo) → AreMemos end rows least memos → IsMemo end rows (next_row least memos) memo → AreMemos end rows least (memos ++ memo ∷ [])
memos_push end rows least [] memo are is = (is.from, is.below, is.span.site, is.span.long, is.span.few, tt)
memos_push end rows least (m ∷ memos) memo are is = (are.0, are.1, are.2, are.3, are.4, memos_push end rows (m.row + 1) memos memo are.5 is)

pub next_row-push : (least : ℕ) (memos : List Memo) (memo : Memo) → next_row least (memos ++ memo ∷ []) ≡ memo.row + 1
next_row-push least [] memo = refl
next_row-push least (m ∷ memos) memo = next_row-push (m.row + 1) memos memo

pub spelled_memos-push : (memos : List Memo) (memo : Memo) → spelled_memos (memos ++ memo ∷ []) ≡ spelled_memos memos ++ spelled_memo memo
spelled_memos-push [] memo = append-nil (spelled_memo memo)
spelled_memos-push (m ∷ memos) memo = ap (λ (l : List ℕ). spelled_memo m ++ l) (spelled_memos-push memos memo) ∙ sym (append_assoc (spelled_memo m) (spelled_memos memos) (spelled_memo memo))

-- what is still due after so many of them, where one more is
pub due_next : (count done rows least : ℕ) → done < count → memos_due (count - done) rows least ≡ memo_row (count - (done + 1)) rows least ∷ []
due_next count done rows least more = let e : count - done ≡ suc (count - (done + 1)) = omega arith in ap (λ (n : ℕ). memos_due n rows least) e

pub begins : (number end : ℕ) (bytes : List ℕ) (count rows at : ℕ) → at ≤ length bytes → Leads number end (memos_due count rows 0) bytes at (memos_due (count - 0) rows 0) at []
begins number end bytes count rows at within = subst (λ (n : ℕ). Leads number end (memos_due count rows 0) bytes at (memos_due n rows 0) at []) (let e : count ≡ count - 0 = omega arith in e) (leads_none number end bytes (memos_due count rows 0) at within)

-- a flaw in the next of them is one of all
pub flaw_after : (number end : ℕ) (bytes : List ℕ) (count done rows least at place : ℕ) (s : List ℕ) (e : DirError) → done < count → Leads number end (memos_due count rows 0) bytes at (memos_due (count - done) rows least) place s
    → Flaws number end (memo_row (count - (done + 1)) rows least ∷ []) bytes place e → Flaws number end (memos_due count rows 0) bytes at e
flaw_after number end bytes count done rows least at place s e more leads flaws =
    flaws_leads number end bytes (memos_due count rows 0) (memos_due (count - done) rows least) at place s e leads
    (subst (λ (l : List Due). Flaws number end l bytes place e) (sym (due_next count done rows least more)) flaws)

-- what holds of so many memos
pub record AreRead (end : ℕ) (bytes : List ℕ) (count rows at : ℕ) (memos : List Memo) (done least place : ℕ) : Type 0 where
  pub are : AreMemos end rows 0 memos
  pub long : length memos ≡ done
  pub from : least ≡ next_row 0 memos
  pub within : place ≤ length bytes
  pub leads : (number : ℕ) → Leads number end (memos_due count rows 0) bytes at (memos_due (count - done) rows least) place (spelled_memos memos)

-- and of one more
pub grows : (end : ℕ) (bytes : List ℕ) (count done rows least at place next : ℕ) (memos : List Memo) (memo : Memo) → done < count → AreMemos end rows 0 memos → length memos ≡ done → least ≡ next_row 0 memos → IsMemo end rows least memo
    → ((number : ℕ) → Leads number end (memos_due count rows 0) bytes at (memos_due (count - done) rows least) place (spelled_memos memos))
    → ((number : ℕ) → Leads number end (memo_row (count - (done + 1)) rows least ∷ []) bytes place (memos_due (count - (done + 1)) rows (memo.row + 1)) next (spelled_memo memo))
    → AreRead end bytes count rows at (memos ++ memo ∷ []) (done + 1) (memo.row + 1) next
grows end bytes count done rows least at place next memos memo more are long from is leads then = record {
  are = memos_push end rows 0 memos memo are (subst (λ (n : ℕ). IsMemo end rows n memo) from is);
  long = length-append memos (memo ∷ []) ∙ ap (λ (n : ℕ). n + 1) long;
  from = sym (next_row-push 0 memos memo);
  within = (then 0).within;
  leads = λ number. subst (λ (s : List ℕ). Leads number end (memos_due count rows 0) bytes at (memos_due (count - (done + 1)) rows (memo.row + 1)) next s) (sym (spelled_memos-push memos memo))
      (leads_joins number end bytes (memos_due count rows 0) (memos_due (count - done) rows least) (memos_due (count - (done + 1)) rows (memo.row + 1)) at place next (spelled_memos memos) (spelled_memo memo) (leads number)
      (subst (λ (l : List Due). Leads number end l bytes place (memos_due (count - (done + 1)) rows (memo.row + 1)) next (spelled_memo memo)) (sym (due_next count done rows least more)) (then number)));
}

pub ends : (number end : ℕ) (bytes : List ℕ) (count done rows least at place : ℕ) (memos : List Memo) → done ≡ count → AreMemos end rows 0 memos → length memos ≡ done
    → Leads number end (memos_due count rows 0) bytes at (memos_due (count - done) rows least) place (spelled_memos memos)
    → (AreMemos end rows 0 memos × (length memos ≡ count)) × Leads number end (memos_due count rows 0) bytes at [] place (spelled_memos memos)
ends number end bytes count done rows least at place memos all are long leads = ((are, long ∙ all), subst (λ (n : ℕ). Leads number end (memos_due count rows 0) bytes at (memos_due n rows least) place (spelled_memos memos)) (let z : count - done ≡ 0 = omega (arith, all) in z) leads)
