-- Laws of the sizes of values.
use Rattle.std.proofs.Common.{◌≡◌, ℕ, zero, suc, ◌+◌, ◌<◌, pos, Some, None, List, [], ◌∷◌, ◌++◌, length, get_or, set, take, drop, replicate, refl, sym, ap, ◌∙◌, arith}
use Rattle.std.proofs.lemmas.List.{length-map, map-append, map-set, set-get_or, get_or-map, take-map, drop-map}
use Rattle.std.proofs.lemmas.Option.{slice_get-get_or, slice_get_within, get_or_from_slice_get}
use Rattle.int_col.specs.Numbers.{Numbers, home_after}
use Rattle.bytes_col.specs.Strings.{sizes_of}
use Rattle.bytes_col.specs.Chunk.{HasSize}
use Rattle.bytes_col.specs.Spine.{HasSizes}

sizes-replicate : (n : ℕ) (v : List ℕ) → sizes_of (replicate n v) ≡ replicate n (pos (length v))
sizes-replicate zero v = refl
sizes-replicate (suc n) v = ap (λ zs. pos (length v) ∷ zs) (sizes-replicate n v)

pub sizes_set : (vs new : List (List ℕ)) (s t : Numbers) (at : ℕ) (v : List ℕ) → HasSizes vs s → new ≡ set vs at v → t ≡ record s { values = set s.values at (pos (length v)); home = None } → HasSizes new t
sizes_set vs new s t at v h is sized = record {
  are = ap (λ x. x.values) sized ∙ ap (λ zs. set zs at (pos (length v))) h.are ∙ sym (ap sizes_of is ∙ map-set (λ x. pos (length x)) vs at v);
  nowhere = ap (λ x. x.home) sized;
}

pub sizes_pushed : (vs new : List (List ℕ)) (s t : Numbers) (v : List ℕ) → HasSizes vs s → new ≡ vs ++ v ∷ [] → t.values ≡ s.values ++ pos (length v) ∷ [] → t.home ≡ None → HasSizes new t
sizes_pushed vs new s t v h is sized home = record {
  are = sized ∙ ap (λ zs. zs ++ pos (length v) ∷ []) h.are ∙ sym (ap sizes_of is ∙ map-append (λ x. pos (length x)) vs (v ∷ []));
  nowhere = home;
}

none_after : (n : ℕ) → home_after n None ≡ None
none_after zero = refl
none_after (suc n) = refl

pub sizes_inserted : (vs new : List (List ℕ)) (s t : Numbers) (at n : ℕ) (v : List ℕ) → HasSizes vs s → new ≡ take at vs ++ (replicate n v ++ drop at vs) → t.values ≡ take at s.values ++ (replicate n (pos (length v)) ++ drop at s.values) → t.home ≡ home_after n s.home → HasSizes new t
sizes_inserted vs new s t at n v h is sized home = record {
  are =
      sized
      ∙ ap (λ zs. take at zs ++ (replicate n (pos (length v)) ++ drop at zs)) h.are
      ∙ sym (ap sizes_of is
      ∙ map-append (λ x. pos (length x)) (take at vs) (replicate n v ++ drop at vs)
      ∙ ap (λ zs. sizes_of (take at vs) ++ zs) (map-append (λ x. pos (length x)) (replicate n v) (drop at vs) ∙ ap (λ zs. zs ++ sizes_of (drop at vs)) (sizes-replicate n v))
      ∙ ap (λ zs. zs ++ (replicate n (pos (length v)) ++ sizes_of (drop at vs))) (sym (take-map (λ x. pos (length x)) at vs))
      ∙ ap (λ zs. take at (sizes_of vs) ++ (replicate n (pos (length v)) ++ zs)) (sym (drop-map (λ x. pos (length x)) at vs)));
  nowhere = home ∙ ap (home_after n) h.nowhere ∙ none_after n;
}

pub sizes_removed : (vs new : List (List ℕ)) (s t : Numbers) (at n : ℕ) → HasSizes vs s → new ≡ take at vs ++ drop (at + n) vs → t.values ≡ take at s.values ++ drop (at + n) s.values → t.home ≡ home_after n s.home → HasSizes new t
sizes_removed vs new s t at n h is sized home = record {
  are =
      sized
      ∙ ap (λ zs. take at zs ++ drop (at + n) zs) h.are
      ∙ sym (ap sizes_of is
      ∙ map-append (λ x. pos (length x)) (take at vs) (drop (at + n) vs)
      ∙ ap (λ zs. zs ++ sizes_of (drop (at + n) vs)) (sym (take-map (λ x. pos (length x)) at vs))
      ∙ ap (λ zs. take at (sizes_of vs) ++ zs) (sym (drop-map (λ x. pos (length x)) (at + n) vs)));
  nowhere = home ∙ ap (home_after n) h.nowhere ∙ none_after n;
}

-- the same, where the sizes have no home then
pub sizes_put : (vs new : List (List ℕ)) (s t : Numbers) (at n : ℕ) (v : List ℕ) → HasSizes vs s → new ≡ take at vs ++ (replicate n v ++ drop at vs) → t.values ≡ take at s.values ++ (replicate n (pos (length v)) ++ drop at s.values) → t.home ≡ None → HasSizes new t
sizes_put vs new s t at n v h is sized home = sizes_inserted vs new s t at n v h is sized (home ∙ sym (ap (home_after n) h.nowhere ∙ none_after n))

pub sizes_taken : (vs new : List (List ℕ)) (s t : Numbers) (at n : ℕ) → HasSizes vs s → new ≡ take at vs ++ drop (at + n) vs → t.values ≡ take at s.values ++ drop (at + n) s.values → t.home ≡ None → HasSizes new t
sizes_taken vs new s t at n h is sized home = sizes_removed vs new s t at n h is sized (home ∙ sym (ap (home_after n) h.nowhere ∙ none_after n))

pub length-sizes : (vs : List (List ℕ)) (s : Numbers) → HasSizes vs s → length s.values ≡ length vs
length-sizes vs s h = ap length h.are ∙ length-map vs (λ x. pos (length x))

-- the size of a value that is set to one as long
pub size_stays : (s : Numbers) (row : ℕ) (v old : List ℕ) → HasSize s row old → length v ≡ length old → s ≡ record s { values = set s.values row (pos (length v)); home = None }
size_stays s row v old h same =
    let is : get_or s.values row (pos (length v)) ≡ pos (length v) = get_or_from_slice_get s.values row (pos (length v)) (pos (length v)) (h.size ∙ ap (λ n. Some (pos n)) (sym same)) in
    let values : s.values ≡ set s.values row (pos (length v)) = sym (ap (set s.values row) (sym is) ∙ set-get_or s.values row (pos (length v))) in
    ap (λ zs. record s { values = zs }) values ∙ ap (λ z. record s { values = set s.values row (pos (length v)); home = z }) h.nowhere

pub row_within : (s : Numbers) (row : ℕ) (v : List ℕ) → HasSize s row v → row < length s.values
row_within s row v h = slice_get_within s.values row (pos (length v)) h.size

-- the size of a value that a place leads to
pub size_at : (vs : List (List ℕ)) (s : Numbers) (at : ℕ) (v : List ℕ) → HasSizes vs s → at < length vs → v ≡ get_or vs at [] → HasSize s at v
size_at vs s at v h l is =
    let here : get_or s.values at (pos 0) ≡ pos (length v) = ap (λ zs. get_or zs at (pos 0)) h.are ∙ get_or-map (λ x. pos (length x)) vs at [] (pos 0) l ∙ ap (λ x. pos (length x)) (sym is) in
    record {
      size = slice_get-get_or s.values at (pos 0) (omega (arith, length-sizes vs s h)) ∙ ap (λ z. Some z) here;
      nowhere = h.nowhere;
    }
