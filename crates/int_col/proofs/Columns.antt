-- Laws of a column as its segments.
use Rattle.std.proofs.Common.{◌≡◌, ℕ, suc, ◌+◌, ◌-◌, ◌<◌, ◌≤◌, ℤ, Option, List, [], ◌∷◌, ◌++◌, length, get_or, set, take, drop, max, refl, sym, ap, subst, ◌∙◌, arith, sum}
use Rattle.std.proofs.lemmas.List.{append-nil, length-append, length-drop, length-take-le, take_at, get_or_default, take_more}
use Rattle.mk_value.specs.declared.span.Span.{Span}
use Rattle.bit_pack.specs.declared.widths.Width.{Width}
use Rattle.bit_pack.specs.Width.{bit_count, IsLeastWidth}
use Rattle.bit_pack.proofs.LeastWidth.{least-append}
use Rattle.segments.specs.declared.splice.Splice.{Splice}
use Rattle.segments.specs.declared.splice.Replaced.{Replaced}
use Rattle.segments.specs.Splices.{Covers, TakesNeighbors, AreApartBefore, AreApartBehind, size_after}
use Rattle.segments.specs.Joined.{joined, counts_of}
use Rattle.segments.proofs.Lists.{drop-cons-at, last_parts, set_last}
use Rattle.segments.proofs.Joined.{joined-append, length-joined, length-counts, drop-joined, get_or-counts, count_is, counts-pushed, counts-spliced}
use Rattle.segments.proofs.Counted.{segments_spliced, segments_pushed}
use Rattle.int_col.specs.Cuts.{AreCuts}
use Rattle.int_col.specs.Numbers.{IsColumn, segment_values}
use Rattle.int_col.specs.Spine.{numbers_of, IsSpine, LastTakes}
use Rattle.int_col.proofs.CutLaws.{AreCuts-last-more, cuts_count}
use Rattle.int_col.proofs.Splices.{replaced_apart}

pub IsColumn-of : (ss : List (List ℤ)) (home : Option Span) → length (joined ss) ≤ 16777216 → AreCuts (counts_of ss) → IsColumn (numbers_of ss home)
IsColumn-of ss home few cut = record {
  few = few;
  cut = cut;
  whole = sym (length-joined ss);
}

-- what segment k of a column is
pub segment_values-of : (ss : List (List ℤ)) (home : Option Span) (k : ℕ) → k < length ss → segment_values (numbers_of ss home) k ≡ get_or ss k []
segment_values-of ss home k l =
    let s : List ℤ = get_or ss k [] in
    let rest : drop (sum (take k (counts_of ss))) (joined ss) ≡ s ++ joined (drop (suc k) ss) =
    drop-joined k ss ∙ ap joined (drop-cons-at ss k [] l) in
    ap (λ n. take n (drop (sum (take k (counts_of ss))) (joined ss))) (get_or-counts ss k l)
    ∙ ap (take (length s)) rest
    ∙ take_at s (joined (drop (suc k) ss)) (length s) refl

-- one segment more widens the least width to its own
pub least-more : (ss : List (List ℤ)) (k : ℕ) (s : List ℤ) (w u t : Width) → k < length ss → s ≡ get_or ss k s → IsLeastWidth w (joined (take k ss)) → IsLeastWidth u s → bit_count t ≡ max (bit_count w) (bit_count u) → IsLeastWidth t (joined (take (k + 1) ss))
least-more ss k s w u t l here before own wider =
    let P : List ℤ → Type 0 = IsLeastWidth t in
    let is : joined (take (k + 1) ss) ≡ joined (take k ss) ++ s =
    ap joined (take_more ss k s l)
    ∙ joined-append (take k ss) (get_or ss k s ∷ [])
    ∙ ap (λ x. joined (take k ss) ++ x) (append-nil (get_or ss k s) ∙ sym here) in
    subst P (sym is) (least-append w u t (joined (take k ss)) s before own wider)

-- what a splice of a spine touches
pub replaced_parts : (ss : List (List ℤ)) (counts : List ℕ) (e : Splice) (t : Replaced) → IsSpine ss counts → Covers counts e t → TakesNeighbors 2048 counts e t → Covers (counts_of ss) e t × AreApartBefore 2048 (counts_of ss) t.first (size_after e t) × AreApartBehind 2048 (size_after e t) (drop t.after (counts_of ss))
replaced_parts ss counts e t h c taken =
    let P : List ℕ → Type 0 = λ cs. Covers cs e t in
    let Q : List ℕ → Type 0 = λ cs. TakesNeighbors 2048 cs e t in
    let covers : Covers (counts_of ss) e t = subst P h.counted c in
    let apart = replaced_apart (counts_of ss) e t h.cut covers (subst Q h.counted taken) in
    (covers, apart.0, apart.1)

-- segments in place of those from a up to b
pub IsSpine-spliced : (ss fresh : List (List ℤ)) (counts made new : List ℕ) (a b : ℕ) → IsSpine ss counts → made ≡ counts_of fresh → AreCuts (take a (counts_of ss) ++ (counts_of fresh ++ drop b (counts_of ss))) → new ≡ take a counts ++ (made ++ drop b counts) → IsSpine (take a ss ++ (fresh ++ drop b ss)) new
IsSpine-spliced ss fresh counts made new a b h are cut is = record {
  cut = subst AreCuts (sym (counts-spliced ss fresh a b)) cut;
  counted = segments_spliced ss counts h.counted fresh made new a b are is;
}

-- there are few segments after that
pub put_few : (ss fresh : List (List ℤ)) (a b : ℕ) → a ≤ b → b ≤ length ss → AreCuts (take a (counts_of ss) ++ (counts_of fresh ++ drop b (counts_of ss))) → sum (take a (counts_of ss) ++ (counts_of fresh ++ drop b (counts_of ss))) ≤ 16777216 → a + length fresh + (length ss - b) ≤ 16777216
put_few ss fresh a b order in_range cut few =
    let cs : List ℕ = counts_of ss in
    let len = length-counts ss in
    omega (arith, few, cuts_count (take a cs ++ (counts_of fresh ++ drop b cs)) cut, length-append (take a cs) (counts_of fresh ++ drop b cs), length-take-le a cs (omega (arith, len)), length-append (counts_of fresh) (drop b cs), length-counts fresh, length-drop b cs, len)

-- a value more in the last segment
pub IsSpine-pushed : (ss : List (List ℤ)) (counts new : List ℕ) (s : List ℤ) (v : ℤ) (last : ℕ) → IsSpine ss counts → suc last ≡ length ss → s ≡ get_or ss last s → length s < 2048 → new ≡ set counts (length counts - 1) (get_or counts (length counts - 1) 0 + 1) → IsSpine (set ss last (s ++ v ∷ [])) new
IsSpine-pushed ss counts new s v last h len here room is =
    let n : ℕ = length s in
    let cs : List ℕ = counts_of ss in
    let whole : suc last ≡ length cs = omega (arith, length-counts ss) in
    let count : n ≡ get_or cs last 0 = sym (count_is ss last s (omega arith) here) in
    let read : n ≡ get_or cs last n = count ∙ sym (get_or_default cs last n 0 (omega arith)) in
    let old : cs ≡ take last cs ++ n ∷ [] = last_parts cs n last whole read in
    let longer : counts_of (set ss last (s ++ v ∷ [])) ≡ take last cs ++ (n + 1) ∷ [] =
    counts-pushed ss s v last len here ∙ ap (λ m. set cs last (m + 1)) (sym count) ∙ set_last cs n (n + 1) last whole read in
    record {
      cut = subst AreCuts (sym longer) (AreCuts-last-more (take last cs) n (subst AreCuts old h.cut) room);
      counted = segments_pushed ss counts h.counted s last len here new v is;
    }

-- the last segment has room where it takes one more value
pub last_room : (ss : List (List ℤ)) (s : List ℤ) (v : ℤ) (last : ℕ) → LastTakes ss v → suc last ≡ length ss → s ≡ get_or ss last s → length s < 2048
last_room ss s v last takes len here =
    let before : length ss - 1 ≡ last = omega arith in
    let segment : length s ≡ length (get_or ss (length ss - 1) []) =
    ap length (here ∙ get_or_default ss last s [] (omega arith)) ∙ ap (λ k. length (get_or ss k [])) (sym before) in
    omega (arith, takes.takes.room)
