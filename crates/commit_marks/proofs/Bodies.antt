-- The body of a mark: what its fields read as, and that no two marks have one body.
use Rattle.std.proofs.Common.{◌≡◌, ℕ, List, ◌∷◌, ◌++◌, length, drop, replicate, refl, sym, ◌∙◌, ap, subst, arith}
use Rattle.byteorder.specs.Endian.{little_bytes, little_number}
use Rattle.byteorder.specs.Numbers.{little_number-reads_back}
use Rattle.commit_marks.specs.declared.mark.Mark.{Mark}
use Rattle.commit_marks.specs.Marks.{HasMark, IsMark, body_bytes, open_byte}
use Rattle.commit_marks.specs.Slots.{IsParsed}

-- the numbers of an open slot with this mark
module _ (m : Mark) (good : IsMark m) where
  number_back : little_number 8 (drop 8 (open_byte ∷ body_bytes m)) ≡ m.number
  number_back = little_number-reads_back 8 m.number (little_bytes 8 m.place ++ (little_bytes 8 m.len ++ (little_bytes 8 m.end ++ replicate 24 0))) (let n = good.number in omega (arith, n))

  place_back : little_number 8 (drop 16 (open_byte ∷ body_bytes m)) ≡ m.place
  place_back = little_number-reads_back 8 m.place (little_bytes 8 m.len ++ (little_bytes 8 m.end ++ replicate 24 0)) good.place

  len_back : little_number 8 (drop 24 (open_byte ∷ body_bytes m)) ≡ m.len
  len_back = little_number-reads_back 8 m.len (little_bytes 8 m.end ++ replicate 24 0) good.len

  end_back : little_number 8 (drop 32 (open_byte ∷ body_bytes m)) ≡ m.end
  end_back = little_number-reads_back 8 m.end (replicate 24 0) good.end

-- marks are one where their fields are
mark_is : (m n : Mark) → m.version ≡ n.version → m.number ≡ n.number → m.place ≡ n.place → m.len ≡ n.len → m.end ≡ n.end → m ≡ n
mark_is m n version number place len end =
    let mark : ℕ → ℕ → ℕ → ℕ → ℕ → Mark = λ v k p l e. record { version = v; number = k; place = p; len = l; end = e } in
    ap (λ (v : ℕ). mark v m.number m.place m.len m.end) version
    ∙ ap (λ (k : ℕ). mark n.version k m.place m.len m.end) number
    ∙ ap (λ (p : ℕ). mark n.version n.number p m.len m.end) place
    ∙ ap (λ (l : ℕ). mark n.version n.number n.place l m.end) len
    ∙ ap (λ (e : ℕ). mark n.version n.number n.place n.len e) end

-- what is parsed of an open slot with a mark is that mark
pub parsed_is : (slot : List ℕ) (parsed m : Mark) → IsMark m → slot ≡ open_byte ∷ body_bytes m → IsParsed slot parsed → parsed ≡ m
parsed_is slot parsed m good is fields =
    let at = subst (λ (bytes : List ℕ). IsParsed bytes parsed) is fields in
    mark_is parsed m at.version (at.number ∙ number_back m good) (at.place ∙ place_back m good) (at.len ∙ len_back m good) (at.end ∙ end_back m good)

-- no two marks have one body
pub one_body : (m n : Mark) → IsMark m → IsMark n → open_byte ∷ body_bytes m ≡ open_byte ∷ body_bytes n → m ≡ n
one_body m n good also is = parsed_is (open_byte ∷ body_bytes m) m n also is (record {
  version = refl;
  number = sym (number_back m good);
  place = sym (place_back m good);
  len = sym (len_back m good);
  end = sym (end_back m good);
})

-- a slot has one mark
pub one_mark : (image : List ℕ) (slot : ℕ) (m n : Mark) → HasMark image slot m → HasMark image slot n → m ≡ n
one_mark image slot m n first second = one_body m n first.good second.good (sym first.bytes ∙ second.bytes)

pub length-body_bytes : (m : Mark) → length (body_bytes m) ≡ 63
length-body_bytes m = refl
