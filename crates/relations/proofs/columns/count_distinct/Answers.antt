use Rattle.std.proofs.Common.{◌≡◌, ◌+◌, ℕ, List, [], ◌∷◌, length, map, take, refl, ap, sym, ◌∙◌, arith}
use Rattle.std.proofs.lemmas.List.{length-map, length-append}
use Rattle.relations.specs.Columns.{column_of}
use Rattle.relations.specs.Rows.{once}
use Rattle.relations.proofs.Projections.{named_again, named_more}
use Rattle.relations.proofs.columns.count_distinct.Goals as goal
use Rattle.relations.proofs.columns.count_distinct.Goals.{then-not-is_among, else-not-is_among}

-- the columns in no schema, which only count the names
abbrev columns : List (List ℕ) → List ℕ
columns names = map (column_of []) (once names)

length_columns : (names : List (List ℕ)) → length (columns names) ≡ length (once names)
length_columns names = length-map (once names) (column_of [])

pub loop-at-preserved : goal.loop-at-preserved
loop-at-preserved c =
    let i = c.loop-at.at in
    let names = c.args.names.now in
    let name = c.index-names-at.result in
    let before = length_columns (take i names) in
    let behind = length_columns (take (i + 1) names) in
    let counted = c.loop-at.invariant.count in
    let most = c.loop-at.invariant.few in
    elim c.if-not-is_among.branch [
      | then-not-is_among w ↦ (let more = ap (λ (ns : List ℕ). length ns) (named_more [] names i name (columns (take i names)) c.loop-at-test.true c.index-names-at.is refl (sym c.is_among.ensures ∙ w.if-not-is_among.true)) in
          let long = length-append (columns (take i names)) (column_of [] name ∷ []) in
          let is = w.count-is in
          record { few = omega arith; count = omega arith })
      | else-not-is_among w ↦ (let same = ap (λ (ns : List ℕ). length ns) (named_again [] names i name (columns (take i names)) c.loop-at-test.true c.index-names-at.is refl (sym c.is_among.ensures ∙ w.if-not-is_among.false)) in
          let is = w.count-is in
          record { few = omega arith; count = omega arith })
    ]
