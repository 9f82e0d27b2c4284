use Rattle.std.proofs.Common.{◌≡◌, ◌≤◌, ◌++◌, ℕ, List, length, take, drop, ap, ◌∙◌, arith}
use Rattle.std.specs.List.{concat}
use Rattle.places.specs.Chunks.{ends_of}
use Rattle.row_edits.specs.Runs.{run}
use Rattle.places.proofs.Turns.{run_long, turned, turned_long}
use Rattle.places.proofs.edits.insert_between.Goals as goal

list : (c1 c2 c3 : List (List ℕ)) (k old at first count : ℕ) (xs : List ℕ) → k ≤ length c1 → old ≡ length c1 → take (length c1) c2 ≡ c1 → concat (drop (length c1) c2) ≡ run first count
    → concat (take k c1) ≡ take at xs → concat (drop k c1) ≡ drop at xs → c3 ≡ take k c2 ++ (drop old c2 ++ drop k (take old c2)) → concat c3 ≡ take at xs ++ (run first count ++ drop at xs)
list c1 c2 c3 k old at first count xs le is same filled front back turn =
    turned c1 c2 c3 k old (omega arith) is (ap (λ n. take n c2) is ∙ same) turn (take at xs) (run first count) (drop at xs) (ap (λ n. concat (drop n c2)) is ∙ filled) front back

pub write_ends-requires-clause-few : goal.write_ends-requires-clause-few
write_ends-requires-clause-few c =
    let e = list c.cut_at-k.new.chunks.items c.push_filled.new.chunks.items c.turn_in.new.chunks.items c.cut_at-k.result c.len-old.result c.args.at c.args.first c.args.count (concat c.args.chunks.now.items)
    c.cut_at-k.ensures.within (omega (arith, c.len-old.ensures)) c.push_filled.ensures.front c.push_filled.ensures.run c.cut_at-k.ensures.front c.cut_at-k.ensures.back c.turn_in.ensures.items in
    let l = ap length (ap concat c.deref.ensures.value ∙ e) in
    let n = run_long (concat c.args.chunks.now.items) c.args.at c.args.first c.args.count c.requires.there in
    let few = c.requires.few in
    omega arith

pub returns-clause-list : goal.returns-clause-list
returns-clause-list c =
    list c.cut_at-k.new.chunks.items c.push_filled.new.chunks.items c.turn_in.new.chunks.items c.cut_at-k.result c.len-old.result c.args.at c.args.first c.args.count (concat c.args.chunks.now.items)
    c.cut_at-k.ensures.within (omega (arith, c.len-old.ensures)) c.push_filled.ensures.front c.push_filled.ensures.run c.cut_at-k.ensures.front c.cut_at-k.ensures.back c.turn_in.ensures.items

pub returns-clause-held : goal.returns-clause-held
returns-clause-held c =
    let c1 : List (List ℕ) = c.cut_at-k.new.chunks.items in
    let c2 : List (List ℕ) = c.push_filled.new.chunks.items in
    let c3 : List (List ℕ) = c.turn_in.new.chunks.items in
    let k : ℕ = c.cut_at-k.result in
    let old : ℕ = c.len-old.result in
    let xs : List ℕ = concat c.args.chunks.now.items in
    let is : old ≡ length c1 = omega (arith, c.len-old.ensures) in
    let e = list c1 c2 c3 k old c.args.at c.args.first c.args.count xs c.cut_at-k.ensures.within is c.push_filled.ensures.front c.push_filled.ensures.run c.cut_at-k.ensures.front c.cut_at-k.ensures.back c.turn_in.ensures.items in
    let l = ap length e in
    let n = run_long xs c.args.at c.args.first c.args.count c.requires.there in
    let few = c.requires.few in
    let within = c.cut_at-k.ensures.within in
    let grown = c.push_filled.ensures.long in
    let m = turned_long c1 c2 c3 k old (omega arith) is (ap (λ n. take n c2) is ∙ c.push_filled.ensures.front) c.turn_in.ensures.items (omega arith) in
    let fits = c.push_filled.ensures.fits in
    let h1 = c.cut_at-k.ensures.held.fits in
    let h2 = c.cut_at-k.ensures.held.ends_fit in
    let cap2 = c.push_filled.ensures.capacity in
    let cap3 = c.turn_in.ensures.capacity in
    let cap4 = c.write_ends.ensures.capacity in
    record {
      placed = c.write_ends.ensures.ends ∙ ap (ends_of 0) c.deref.ensures.value;
      few = omega arith;
      empty = c.push_filled.ensures.empty;
      fits = omega arith;
      ends_fit = omega arith;
    }
