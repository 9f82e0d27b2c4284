-- Laws of a column that is made of its blocks.
use Rattle.std.proofs.Common.{◌≡◌, ℕ, suc, ◌+◌, ◌-◌, ◌<◌, ◌≤◌, ℤ, pos, Bool, true, false, cond, Some, slice_get, List, [], ◌∷◌, ◌++◌, length, get_or, take, drop, refl, sym, ap, subst, ◌∙◌, arith}
use Rattle.std.specs.Prelude.{nat_le, not}
use Rattle.std.specs.List.{concat}
use Rattle.std.proofs.lemmas.Bool.{le-leb, lt-leb, false≢true, eq-eqb}
use Rattle.std.proofs.lemmas.List.{append_assoc, append-nil, map-append, take_all, take_at, drop_at, take_more, take-append-drop, length-map, length-append, length-take-le, length-drop, get_or-append-add}
use Rattle.std.proofs.lemmas.List.Elements.{filter-append}
use Rattle.std.proofs.lemmas.Option.{get_or_from_slice_get, slice_get_within, slice_get-get_or}
use Rattle.segments.proofs.Lists.{take-split}
use Rattle.bytes_col.specs.declared.blocks.BlocksError.{BlocksError}
use Rattle.bytes_col.specs.declared.blocks.BlocksError.TheVariants.{Mismatch, Memory}
use Rattle.bytes_col.specs.declared.blocks.Next.{Next}
use Rattle.bytes_col.specs.Strings.{is_short, sizes_of, short_bytes, long_values}
use Rattle.bytes_col.specs.Blocks.{AreBlocks, IsBlocksRefusal, TakesNext, fits_first, first_has}
use Rattle.bytes_col.proofs.Short.{short_cons, short-append}

-- a short value, and a memo

brief_self : (v : List ℕ) → is_short v ≡ true → short_bytes (v ∷ []) ≡ v
brief_self v s = ap (λ b. concat (cond b (v ∷ []) [])) s ∙ append-nil v

brief_none : (v : List ℕ) → is_short v ≡ false → short_bytes (v ∷ []) ≡ []
brief_none v s = ap (λ b. concat (cond b (v ∷ []) [])) s

long_none : (v : List ℕ) (vs : List (List ℕ)) → is_short v ≡ true → long_values (v ∷ vs) ≡ long_values vs
long_none v vs s = ap (λ b. cond (not b) (v ∷ long_values vs) (long_values vs)) s

long_self : (v : List ℕ) (vs : List (List ℕ)) → is_short v ≡ false → long_values (v ∷ vs) ≡ v ∷ long_values vs
long_self v vs s = ap (λ b. cond (not b) (v ∷ long_values vs) (long_values vs)) s

-- the next short bytes are a value
pub takes_short : (n : ℕ) (short v : List ℕ) (memos old new : List (List ℕ)) (from to : Next) → n ≤ 512 → from.byte + n ≤ length short → from.memo ≤ length memos → to.byte ≡ from.byte + n → to.memo ≡ from.memo → v ≡ take (to.byte - from.byte) (drop from.byte short) → new ≡ old ++ v ∷ [] → TakesNext n short memos old new from to
takes_short n short v memos old new from to few within memo at_byte at_memo is made =
    let count : to.byte - from.byte ≡ n = omega arith in
    let len : length v ≡ n = ap length is ∙ length-take-le (to.byte - from.byte) (drop from.byte short) (omega (arith, length-drop from.byte short)) ∙ count in
    let s : is_short v ≡ true = le-leb (length v) 512 (omega (arith, len)) in
    record {
      value = v;
      added = made;
      sized = sym len;
      brief = take-split short from.byte to.byte (omega arith) ∙ ap (λ z. take from.byte short ++ z) (sym is ∙ sym (brief_self v s));
      long = ap (λ k. take k memos) at_memo ∙ sym (append-nil (take from.memo memos)) ∙ ap (λ z. take from.memo memos ++ z) (sym (long_none v [] s));
      byte = omega arith;
      memo = omega (arith, at_memo);
    }

-- the next memo is a value
pub takes_memo : (n : ℕ) (short v : List ℕ) (memos old new : List (List ℕ)) (from to : Next) → 512 < n → from.byte ≤ length short → from.memo < length memos → to.byte ≡ from.byte → to.memo ≡ from.memo + 1 → v ≡ get_or memos from.memo [] → length v ≡ n → new ≡ old ++ v ∷ [] → TakesNext n short memos old new from to
takes_memo n short v memos old new from to long byte within at_byte at_memo is len made =
    let s : is_short v ≡ false = lt-leb (length v) 512 (omega (arith, len)) in
    record {
      value = v;
      added = made;
      sized = sym len;
      brief = ap (λ k. take k short) at_byte ∙ sym (append-nil (take from.byte short)) ∙ ap (λ z. take from.byte short ++ z) (sym (brief_none v s));
      long = ap (λ k. take k memos) at_memo ∙ take_more memos from.memo [] within ∙ ap (λ z. take from.memo memos ++ z) (ap (λ x. x ∷ []) (sym is) ∙ sym (long_self v [] s));
      byte = omega (arith, at_byte);
      memo = omega (arith, at_memo);
    }

-- they are not
pub no_short : (n : ℕ) (short : List ℕ) (memos : List (List ℕ)) → n ≤ 512 → length short < n → fits_first n short memos ≡ false
no_short n short memos few less = ap (λ b. cond b (nat_le n (length short)) (first_has n memos)) (le-leb n 512 few) ∙ lt-leb n (length short) less

pub no_memo : (n : ℕ) (short : List ℕ) (memos : List (List ℕ)) → 512 < n → first_has n memos ≡ false → fits_first n short memos ≡ false
no_memo n short memos long none = ap (λ b. cond b (nat_le n (length short)) (first_has n memos)) (lt-leb n 512 long) ∙ none

-- a value more
pub blocks_more : (vs new : List (List ℕ)) (sizes : List ℤ) (short : List ℕ) (memos : List (List ℕ)) (at n : ℕ) (from to : Next) → AreBlocks vs (take at sizes) (take from.byte short) (take from.memo memos) → slice_get sizes at ≡ Some (pos n) → TakesNext n short memos vs new from to → AreBlocks new (take (at + 1) sizes) (take to.byte short) (take to.memo memos)
blocks_more vs new sizes short memos at n from to h got taken =
    let v : List ℕ = taken.value in
    let within : at < length sizes = slice_get_within sizes at (pos n) got in
    let here : get_or sizes at (pos 0) ≡ pos n = get_or_from_slice_get sizes at (pos n) (pos 0) got in
    record {
      sized = take_more sizes at (pos 0) within ∙ ap (λ z. z ++ get_or sizes at (pos 0) ∷ []) h.sized ∙ ap (λ x. sizes_of vs ++ x ∷ []) (here ∙ ap (λ k. pos k) taken.sized) ∙ sym (ap sizes_of taken.added ∙ map-append (λ x. pos (length x)) vs (v ∷ []));
      brief = taken.brief ∙ ap (λ z. z ++ short_bytes (v ∷ [])) h.brief ∙ sym (ap short_bytes taken.added ∙ short-append vs (v ∷ []));
      long = taken.long ∙ ap (λ z. z ++ long_values (v ∷ [])) h.long ∙ sym (ap long_values taken.added ∙ filter-append (λ x. not (is_short x)) vs (v ∷ []));
    }

-- values whose blocks begin with those of others begin with these
record Begins (vs us : List (List ℕ)) (bytes : List ℕ) (memos : List (List ℕ)) : Type 0 where
  rest : List (List ℕ)
  parts : us ≡ vs ++ rest
  brief : bytes ≡ short_bytes rest
  long : memos ≡ long_values rest

begins_more : (v : List ℕ) (vs us : List (List ℕ)) (bytes : List ℕ) (memos : List (List ℕ)) → Begins vs us bytes memos → Begins (v ∷ vs) (v ∷ us) bytes memos
begins_more v vs us bytes memos h = record { rest = h.rest; parts = ap (λ z. v ∷ z) h.parts; brief = h.brief; long = h.long }

-- the front of a list in two parts
same_front : (u v xs ys : List ℕ) → length u ≡ length v → u ++ xs ≡ v ++ ys → (u ≡ v) × (xs ≡ ys)
same_front u v xs ys same is = (
  sym (take_at u xs (length v) same) ∙ ap (take (length v)) is ∙ take_at v ys (length v) refl,
  sym (drop_at u xs (length v) same) ∙ ap (drop (length v)) is ∙ drop_at v ys (length v) refl,
)

begins : (vs us : List (List ℕ)) (zs : List ℤ) (bytes : List ℕ) (memos : List (List ℕ)) → sizes_of us ≡ sizes_of vs ++ zs → short_bytes us ≡ short_bytes vs ++ bytes → long_values us ≡ long_values vs ++ memos → Begins vs us bytes memos
begins [] us zs bytes memos sized brief long = record { rest = us; parts = refl; brief = sym brief; long = sym long }
begins (v ∷ vs) [] zs bytes memos sized brief long = absurd (let none : 0 ≡ suc (length (sizes_of vs ++ zs)) = ap length sized in omega arith)
begins (v ∷ vs) (u ∷ us) zs bytes memos sized brief long =
    let first : pos (length u) ≡ pos (length v) = cc in
    let same : length u ≡ length v = cc in
    let others : sizes_of us ≡ sizes_of vs ++ zs = cc in
    let by : (b : Bool) → is_short v ≡ b → Begins (v ∷ vs) (u ∷ us) bytes memos = λ b. elim b as (λ b. is_short v ≡ b → Begins (v ∷ vs) (u ∷ us) bytes memos) [
      | true ↦ λ (s : is_short v ≡ true).
          let t : is_short u ≡ true = ap (λ k. nat_le k 512) same ∙ s in
          let joined : u ++ short_bytes us ≡ v ++ (short_bytes vs ++ bytes) =
          ap (λ z. z ++ short_bytes us) (sym (brief_self u t)) ∙ sym (short_cons u us) ∙ brief ∙ ap (λ z. z ++ bytes) (short_cons v vs ∙ ap (λ z. z ++ short_bytes vs) (brief_self v s)) ∙ append_assoc v (short_bytes vs) bytes in
          let parts = same_front u v (short_bytes us) (short_bytes vs ++ bytes) same joined in
          let more : long_values us ≡ long_values vs ++ memos = sym (long_none u us t) ∙ long ∙ ap (λ z. z ++ memos) (long_none v vs s) in
          let P : List ℕ → Type 0 = λ x. Begins (v ∷ vs) (x ∷ us) bytes memos in
          subst P (sym parts.0) (begins_more v vs us bytes memos (begins vs us zs bytes memos others parts.1 more))
      | false ↦ λ (s : is_short v ≡ false).
          let t : is_short u ≡ false = ap (λ k. nat_le k 512) same ∙ s in
          let rest : short_bytes us ≡ short_bytes vs ++ bytes =
          sym (short_cons u us ∙ ap (λ z. z ++ short_bytes us) (brief_none u t)) ∙ brief ∙ ap (λ z. z ++ bytes) (short_cons v vs ∙ ap (λ z. z ++ short_bytes vs) (brief_none v s)) in
          let joined : u ∷ long_values us ≡ v ∷ (long_values vs ++ memos) = sym (long_self u us t) ∙ long ∙ ap (λ z. z ++ memos) (long_self v vs s) in
          let is : u ≡ v = cc in
          let more : long_values us ≡ long_values vs ++ memos = cc in
          let P : List ℕ → Type 0 = λ x. Begins (v ∷ vs) (x ∷ us) bytes memos in
          subst P (sym is) (begins_more v vs us bytes memos (begins vs us zs bytes memos others rest more))
    ] in
    by (is_short v) refl

-- values of whole blocks begin with those of the front of the blocks
front : (vs us : List (List ℕ)) (sizes : List ℤ) (short : List ℕ) (memos : List (List ℕ)) (at byte memo : ℕ) → AreBlocks vs (take at sizes) (take byte short) (take memo memos) → AreBlocks us sizes short memos → Begins vs us (drop byte short) (drop memo memos)
front vs us sizes short memos at byte memo h k =
    begins vs us (drop at sizes) (drop byte short) (drop memo memos)
    (sym k.sized ∙ sym (take-append-drop at sizes) ∙ ap (λ z. z ++ drop at sizes) h.sized)
    (sym k.brief ∙ sym (take-append-drop byte short) ∙ ap (λ z. z ++ drop byte short) h.brief)
    (sym k.long ∙ sym (take-append-drop memo memos) ∙ ap (λ z. z ++ drop memo memos) h.long)

-- the first of some values is what its blocks begin with
fits_value : (v : List ℕ) (vs : List (List ℕ)) → fits_first (length v) (short_bytes (v ∷ vs)) (long_values (v ∷ vs)) ≡ true
fits_value v vs =
    let by : (b : Bool) → is_short v ≡ b → fits_first (length v) (short_bytes (v ∷ vs)) (long_values (v ∷ vs)) ≡ true = λ b. elim b as (λ b. is_short v ≡ b → fits_first (length v) (short_bytes (v ∷ vs)) (long_values (v ∷ vs)) ≡ true) [
      | true ↦ λ (s : is_short v ≡ true).
          let size : length v ≤ length (short_bytes (v ∷ vs)) =
          omega (arith, ap length (short_cons v vs), length-append (short_bytes (v ∷ [])) (short_bytes vs), ap length (brief_self v s)) in
          ap (λ c. cond c (nat_le (length v) (length (short_bytes (v ∷ vs)))) (first_has (length v) (long_values (v ∷ vs)))) s ∙ le-leb (length v) (length (short_bytes (v ∷ vs))) size
      | false ↦ λ (s : is_short v ≡ false).
          ap (λ c. cond c (nat_le (length v) (length (short_bytes (v ∷ vs)))) (first_has (length v) (long_values (v ∷ vs)))) s
          ∙ ap (first_has (length v)) (long_self v vs s)
          ∙ eq-eqb (length v) (length v) refl
    ] in
    by (is_short v) refl

-- what stands behind a front
slice_get_at : (xs : List ℤ) (x : ℤ) (ys all : List ℤ) (i : ℕ) → all ≡ xs ++ (x ∷ ys) → length xs ≡ i → slice_get all i ≡ Some x
slice_get_at xs x ys all i is len =
    let at : i ≡ length xs + 0 = omega arith in
    let read : get_or all i x ≡ x = ap (λ z. get_or z i x) is ∙ ap (λ k. get_or (xs ++ (x ∷ ys)) k x) at ∙ get_or-append-add xs (x ∷ ys) 0 x in
    slice_get-get_or all i x (omega (arith, ap length is, length-append xs (x ∷ ys))) ∙ ap (λ z. Some z) read

-- no values have the blocks, where the next value is none
pub no_values : (vs : List (List ℕ)) (sizes : List ℤ) (short : List ℕ) (memos : List (List ℕ)) (at byte memo : ℕ) → AreBlocks vs (take at sizes) (take byte short) (take memo memos) → at < length sizes → ((n : ℕ) → slice_get sizes at ≡ Some (pos n) → fits_first n (drop byte short) (drop memo memos) ≡ false) → (us : List (List ℕ)) → AreBlocks us sizes short memos → ⊥
no_values vs sizes short memos at byte memo h within refused us k =
    let b = front vs us sizes short memos at byte memo h k in
    let count : length vs ≡ at = sym (length-map vs (λ x. pos (length x))) ∙ sym (ap length h.sized) ∙ length-take-le at sizes (omega arith) in
    let all : length us ≡ length sizes = sym (ap length k.sized ∙ length-map us (λ x. pos (length x))) in
    next b.rest b.brief b.long (sym (ap length b.parts ∙ length-append vs b.rest)) count all b.parts
  where
    next : (rest : List (List ℕ)) → drop byte short ≡ short_bytes rest → drop memo memos ≡ long_values rest → length vs + length rest ≡ length us → length vs ≡ at → length us ≡ length sizes → us ≡ vs ++ rest → ⊥
    next [] brief long sum count all parts = omega (arith, sum, count, all, within)
    next (v ∷ rest) brief long sum count all parts =
        let is : sizes ≡ sizes_of vs ++ (pos (length v) ∷ sizes_of rest) = k.sized ∙ ap sizes_of parts ∙ map-append (λ x. pos (length x)) vs (v ∷ rest) in
        let got : slice_get sizes at ≡ Some (pos (length v)) = slice_get_at (sizes_of vs) (pos (length v)) (sizes_of rest) sizes at is (length-map vs (λ x. pos (length x)) ∙ count) in
        let no = refused (length v) got in
        let yes : fits_first (length v) (drop byte short) (drop memo memos) ≡ true = ap (λ z. fits_first (length v) z (drop memo memos)) brief ∙ ap (λ z. fits_first (length v) (short_bytes (v ∷ rest)) z) long ∙ fits_value v rest in
        false≢true (sym no ∙ yes)

-- nor where some are left over
pub none_left : (vs : List (List ℕ)) (sizes : List ℤ) (short : List ℕ) (memos : List (List ℕ)) (at byte memo : ℕ) → AreBlocks vs (take at sizes) (take byte short) (take memo memos) → length sizes ≤ at → (us : List (List ℕ)) → AreBlocks us sizes short memos → (drop byte short ≡ []) × (drop memo memos ≡ [])
none_left vs sizes short memos at byte memo h past us k =
    let b = front vs us sizes short memos at byte memo h k in
    let count : length vs ≡ length sizes = sym (length-map vs (λ x. pos (length x))) ∙ sym (ap length h.sized) ∙ ap length (take_all at sizes past) in
    let all : length us ≡ length sizes = sym (ap length k.sized ∙ length-map us (λ x. pos (length x))) in
    let none : b.rest ≡ [] = empty b.rest (omega (arith, count, all, ap length b.parts, length-append vs b.rest)) in
    (b.brief ∙ ap short_bytes none, b.long ∙ ap long_values none)
  where
    empty : (xs : List (List ℕ)) → length xs ≡ 0 → xs ≡ []
    empty [] len = refl
    empty (x ∷ xs) len = absurd (omega arith)

-- the cause of an error
pub refusal_of : (e : BlocksError) (sizes : List ℤ) (short : List ℕ) (memos : List (List ℕ)) → (e ≡ Mismatch → (us : List (List ℕ)) → AreBlocks us sizes short memos → ⊥) → IsBlocksRefusal sizes short memos e
refusal_of Mismatch sizes short memos h = h refl
refusal_of Memory sizes short memos h = tt

-- a row has one size
pub one_size : (sizes : List ℤ) (short : List ℕ) (memos : List (List ℕ)) (at m n byte memo : ℕ) → slice_get sizes at ≡ Some (pos m) → slice_get sizes at ≡ Some (pos n) → fits_first m (drop byte short) (drop memo memos) ≡ false → fits_first n (drop byte short) (drop memo memos) ≡ false
one_size sizes short memos at m n byte memo first second refused =
    let same : m ≡ n = cc in
    let P : ℕ → Type 0 = λ k. fits_first k (drop byte short) (drop memo memos) ≡ false in
    subst P same refused
