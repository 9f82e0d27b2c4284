-- A column of texts or byte strings that is given a home.
use Rattle.std.proofs.Common.{◌≡◌, ℕ, ◌+◌, ◌≤◌, List, [], ◌∷◌, ◌++◌, length, get_or, take, drop, map, Bool, true, false, cond, Some, refl, ap, sym, ◌∙◌, arith}
use Rattle.std.specs.Prelude.{not}
use Rattle.std.specs.List.{filter, range_with_len}
use Rattle.std.proofs.lemmas.List.{length-map, length-take-le, take-append-drop}
use Rattle.mk_value.specs.declared.span.Span.{Span}
use Rattle.bytes_col.specs.Strings.{Strings, is_short, long_values, memo_rows, string_blocks}
use Rattle.tables.proofs.Lists.{At, drop_at}
use Rattle.commit_plan.specs.Settling.{IsGivenHome}

-- the values at the places that pass are those that pass
values_at : {X : Type 0} (p : X → Bool) (all values : List X) (k : ℕ) (d : X) → drop k all ≡ values → map (λ r. get_or all r d) (filter (λ r. p (get_or all r d)) (range_with_len k (length values))) ≡ filter p values
values_at p all [] k d e = refl
values_at {X = X} p all (v ∷ values) k d e = by_test (drop_at all k v values d e) (values_at p all values (k + 1) d)
  where
    one : (b : Bool) (w : X) → get_or all k d ≡ w → map (λ r. get_or all r d) (cond b (k ∷ filter (λ r. p (get_or all r d)) (range_with_len (k + 1) (length values))) (filter (λ r. p (get_or all r d)) (range_with_len (k + 1) (length values))))
        ≡ cond b (w ∷ map (λ r. get_or all r d) (filter (λ r. p (get_or all r d)) (range_with_len (k + 1) (length values)))) (map (λ r. get_or all r d) (filter (λ r. p (get_or all r d)) (range_with_len (k + 1) (length values))))
    one true w f = ap (λ x. x ∷ map (λ r. get_or all r d) (filter (λ r. p (get_or all r d)) (range_with_len (k + 1) (length values)))) f
    one false w f = refl

    by_test : At all k v values d → (drop (k + 1) all ≡ values → map (λ r. get_or all r d) (filter (λ r. p (get_or all r d)) (range_with_len (k + 1) (length values))) ≡ filter p values)
        → map (λ r. get_or all r d) (filter (λ r. p (get_or all r d)) (range_with_len k (length (v ∷ values)))) ≡ filter p (v ∷ values)
    by_test found more =
        one (p (get_or all k d)) v found.here
        ∙ ap (λ vs. cond (p (get_or all k d)) (v ∷ vs) vs) (more found.next)
        ∙ ap (λ w. cond (p w) (v ∷ filter p values) (filter p values)) found.here

pub memos_long : (values : List (List ℕ)) → length (memo_rows values) ≡ length (long_values values)
memos_long values =
    sym (length-map (memo_rows values) (λ r. get_or values r [])) ∙ ap length (values_at (λ v. not (is_short v)) values values 0 [] refl)

-- the sizes, the short values, and so many memos
pub home_given : (old new settled : Strings) (places after behind rest : List Span) (sizes short : Span) (given : List Span) (rows : List ℕ) (count : ℕ) → length (string_blocks old.values) ≤ length places → rows ≡ memo_rows old.values → count ≡ length rows
    → places ≡ sizes ∷ after → after ≡ short ∷ behind → given ≡ take count behind → rest ≡ drop count behind → settled ≡ old → new ≡ record settled { home = Some (record { sizes = sizes; short = short; memos = given }) }
    → IsGivenHome old places rest new
home_given old new settled places after behind rest sizes short given rows count enough rows_are count_is first second taken left same is =
    let long : count ≡ length (long_values old.values) = count_is ∙ ap length rows_are ∙ memos_long old.values in
    let all = ap length first in
    let others = ap length second in
    let within : count ≤ length behind = omega (arith, enough, long, all, others) in
    record {
      home = record { sizes = sizes; short = short; memos = given };
      split = first ∙ ap (λ ss. sizes ∷ ss) (second ∙ ap (λ ss. short ∷ ss) (sym (take-append-drop count behind) ∙ ap (λ ss. ss ++ drop count behind) (sym taken) ∙ ap (λ ss. given ++ ss) (sym left)));
      long = ap length taken ∙ length-take-le count behind within ∙ long;
      new_is = is ∙ ap (λ (x : Strings). let y : Strings = record x { home = Some (record { sizes = sizes; short = short; memos = given }) } in y) same;
    }

pub memos_within : (old : Strings) (places after behind : List Span) (sizes short : Span) (rows : List ℕ) (count : ℕ) → length (string_blocks old.values) ≤ length places → rows ≡ memo_rows old.values → count ≡ length rows
    → places ≡ sizes ∷ after → after ≡ short ∷ behind → count ≤ length behind
memos_within old places after behind sizes short rows count enough rows_are count_is first second =
    let long : count ≡ length (long_values old.values) = count_is ∙ ap length rows_are ∙ memos_long old.values in
    let all = ap length first in
    let others = ap length second in
    omega (arith, enough, long, all, others)
