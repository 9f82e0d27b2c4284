use Rattle.std.proofs.Common.{◌≡◌, ℕ, suc, ◌+◌, List, [], ◌∷◌, ◌++◌, length, get_or, map, All, refl, ap, sym, subst, ◌∙◌, arith}
use Rattle.std.proofs.lemmas.List.{map-append}
use Rattle.std.proofs.lemmas.List.Elements.{All-push}
use Rattle.mk_value.specs.Data.{Datum}
use Rattle.mk_value.proofs.Walks.{same_default}
use Rattle.grouping.specs.Index.{numbers}
use Rattle.grouping.specs.declared.entry.Entry.{Entry}
use Rattle.grouping.proofs.Entries.{numbers_push}
use Rattle.grouping.proofs.index.entries_of.Invariants.{AreEntries}
use Rattle.grouping.proofs.index.entries_of.Goals as goal

none : (entries : List Entry) (rows : List (List Datum)) → entries ≡ [] → AreEntries entries rows 0
none entries rows e = record {
  numbered = ap (map (λ (x : Entry). x.at)) e;
  right = subst (λ xs. All (λ (x : Entry). x.row.now ≡ get_or rows x.at []) xs) (sym e) (λ k d p. absurd (omega arith));
}

more : (entries longer : List Entry) (x : Entry) → longer ≡ entries ++ x ∷ [] → (rows : List (List Datum)) (n : ℕ) → AreEntries entries rows n → x.at ≡ n → x.row.now ≡ get_or rows n [] → AreEntries longer rows (n + 1)
more entries longer x e rows n so_far at row =
    let next : suc n ≡ n + 1 = omega arith in
    record {
      numbered = ap (map (λ (x : Entry). x.at)) e ∙ map-append (λ (x : Entry). x.at) entries (x ∷ []) ∙ (λ i. so_far.numbered i ++ at i ∷ []) ∙ sym (numbers_push n) ∙ ap numbers next;
      right = subst (λ xs. All (λ (x : Entry). x.row.now ≡ get_or rows x.at []) xs) (sym e)
          (All-push (λ (x : Entry). x.row.now ≡ get_or rows x.at []) entries x so_far.right (row ∙ ap (λ i. get_or rows i []) (sym at)));
    }

pub loop-at-init : goal.loop-at-init
loop-at-init c = none c.new-entries.result.items c.as_slice-row-items.result.now c.new-entries.ensures.items

pub loop-at-preserved : goal.loop-at-preserved
loop-at-preserved c =
    more c.loop-at.entries.items c.push.new.self.items _ c.in_ok-push.ensures.items c.as_slice-row-items.result.now c.loop-at.at c.loop-at.invariant refl
    (c.row-item.is ∙ same_default c.as_slice-row-items.result.now c.loop-at.at c.row-item.result [] c.loop-at-test.true)

pub returns-clause-numbers : goal.returns-clause-numbers
returns-clause-numbers c =
    let e = ap (λ (rows : List (List Datum)). length rows) c.as_slice-row-items.ensures in
    let same : c.loop-at.at ≡ length c.args.rows.now = omega arith in
    c.loop-at.invariant.numbered ∙ ap numbers same

pub returns-clause-rows : goal.returns-clause-rows
returns-clause-rows c =
    subst (λ (rows : List (List Datum)). All (λ (x : Entry). x.row.now ≡ get_or rows x.at []) c.loop-at.entries.items) c.as_slice-row-items.ensures c.loop-at.invariant.right
