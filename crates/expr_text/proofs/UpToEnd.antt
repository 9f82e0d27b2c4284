-- Reading what stands up to the end of a line.
use Rattle.std.proofs.Common.{◌≡◌, ◌≢◌, ◌⊎◌, inl, inr, ℕ, suc, pos, ◌+◌, ◌<◌, Bool, true, false, ◌==◌, List, [], ◌∷◌, ◌++◌, length, All, Option, Some, None, refl, sym, ap, subst, ◌∙◌, append_assoc, append-nil, arith, if◌then◌else◌}
use Rattle.std.proofs.lemmas.Grind.{flat_map-append}
use Rattle.std.proofs.lemmas.List.Elements.{All-append, All-cons, All-nil, All-push}
use Rattle.mk_value.specs.Data.{Datum, integer, long, relation}
use Rattle.mk_value.specs.Data as data_
use Rattle.mk_value.specs.Literals as literals
use Rattle.mk_value.specs.Literals.{rows_tokens}
use Rattle.mk_value.specs.Tokens.{Token, word, number, text, bytes, sign}
use Rattle.tokens.specs.Cutting as cutting
use Rattle.tokens.specs.Fronts.{tokens_in}
use Rattle.tokens.specs.Literals.{IsLiteral, max_braces}
use Rattle.tokens.specs.Meanings.{piece_of, pieces_of}
use Rattle.tokens.specs.declared.token.Piece.{Piece}
use Rattle.expr_text.specs.Arguments.{Criterion, IsCriterion}
use Rattle.expr_text.specs.InLines.{AreValues, joined_tokens, values_tokens}
use Rattle.expr_text.specs.Readers.{Becomes, Fails, Meets}
use Rattle.expr_text.specs.Spelling.{comma, criterion_tokens, listed}
use Rattle.expr_text.specs.Walk.{Goal, Move, Rest, a_literal, a_sign, are_met, criteria_goals, followed, is_held, member_goals, more_criteria, moved, offence_of, opens, push, ran, rows, run, step, values, wrong}
use Rattle.expr_text.specs.declared.error.ExprError.{ExprError}
use Rattle.expr_text.specs.declared.error.ExprError.TheVariants.{Syntax}
use Rattle.expr_text.specs.declared.list.Item.TheVariants as items
use Rattle.expr_text.proofs.Lists.{listed-append, less_left}
use Rattle.expr_text.proofs.Running.{rest_at}

-- a token moves goals as it moves others
same_run : (p : cutting.Piece) (ps : List cutting.Piece) (end : ℕ) (one two : List Goal) → step one p.token (opens ps) ≡ step two p.token (opens ps) → run (p ∷ ps) end one ≡ run (p ∷ ps) end two
unfolding run
same_run p ps end one two e = ap (λ n. ran (is_held p.token) n p.place (λ g. run ps end g)) e

-- where something is left, a literal comes first
first_value : (t : Token) (follows : Bool) (others : List Goal) → step (values ∷ others) t follows ≡ step (a_literal max_braces ∷ values ∷ others) t follows
first_value (word letters) follows others = refl
first_value (number z) follows others = refl
first_value (text content) follows others = refl
first_value (bytes content) follows others = refl
first_value (sign c) follows others = chosen (c == 123)
  where
    chosen : (b : Bool) → followed (if b then push (rows 7 ∷ values ∷ []) else wrong) others (step others (sign c) follows)
        ≡ followed (if b then push (rows 7 ∷ []) else wrong) (values ∷ others) (step (values ∷ others) (sign c) follows)
    chosen true = refl
    chosen false = refl

pub value_comes : (pieces : List Piece) (end : ℕ) (others : List Goal) → 0 < length pieces → offence_of (rest_at end pieces) (values ∷ others) ≡ offence_of (rest_at end pieces) (a_literal max_braces ∷ values ∷ others)
value_comes [] end others some = absurd (omega arith)
value_comes (p ∷ pieces) end others some =
    same_run (piece_of p) (pieces_of pieces) end (values ∷ others) (a_literal max_braces ∷ values ∷ others) (first_value (piece_of p).token (opens (pieces_of pieces)) others)

-- where something is left, a comma comes first
first_comma : (t : Token) (follows : Bool) (others : List Goal) → step (more_criteria ∷ others) t follows ≡ step (a_sign 44 ∷ (criteria_goals ++ others)) t follows
first_comma (word letters) follows others = refl
first_comma (number z) follows others = refl
first_comma (text content) follows others = refl
first_comma (bytes content) follows others = refl
first_comma (sign c) follows others = chosen (c == 44)
  where
    chosen : (b : Bool) → followed (if b then push criteria_goals else wrong) others (step others (sign c) follows)
        ≡ followed (if b then push [] else wrong) (criteria_goals ++ others) (step (criteria_goals ++ others) (sign c) follows)
    chosen true = refl
    chosen false = refl

pub comma_comes : (pieces : List Piece) (end : ℕ) (others : List Goal) → 0 < length pieces → offence_of (rest_at end pieces) (more_criteria ∷ others) ≡ offence_of (rest_at end pieces) (a_sign 44 ∷ (criteria_goals ++ others))
comma_comes [] end others some = absurd (omega arith)
comma_comes (p ∷ pieces) end others some =
    same_run (piece_of p) (pieces_of pieces) end (more_criteria ∷ others) (a_sign 44 ∷ (criteria_goals ++ others)) (first_comma (piece_of p).token (opens (pieces_of pieces)) others)

-- where nothing is left, nothing more need come
pub end_run : (end : ℕ) (one two : List Goal) → are_met one ≡ are_met two → run [] end one ≡ run [] end two
unfolding run
end_run end one two e = ap (λ b. if b then None else Some (Syntax end)) e

-- literals were read from the old rest, and others may come
pub record ValuesRead (old : Rest) (xs : List Datum) (now : Rest) : Type 0 where
  pub whole : AreValues xs
  pub spelled : tokens_in old.pieces ≡ values_tokens xs ++ tokens_in now.pieces
  pub same : Becomes (values ∷ []) old (values ∷ []) now

pub values_start : (old : Rest) (xs : List Datum) → xs ≡ [] → ValuesRead old xs old
values_start old xs empty = subst (λ l. ValuesRead old l old) (sym empty) (record { whole = All-nil (λ d. IsLiteral max_braces d); spelled = refl; same = record { same = λ others. refl } })

pub values_go : (old : Rest) (pieces : List Piece) (end : ℕ) (new : Rest) (xs ys : List Datum) (x : Datum) → 0 < length pieces → ValuesRead old xs (rest_at end pieces) → ys ≡ xs ++ (x ∷ []) → IsLiteral max_braces x
    → tokens_in (pieces_of pieces) ≡ literals.tokens_of x ++ tokens_in new.pieces → Meets (a_literal max_braces ∷ []) (rest_at end pieces) new → ValuesRead old ys new
values_go old pieces end new xs ys x some read pushed whole spells meets = subst (λ l. ValuesRead old l new) (sym pushed) (record {
  whole = All-push (λ d. IsLiteral max_braces d) xs x read.whole whole;
  spelled =
      read.spelled ∙ ap (λ ts. values_tokens xs ++ ts) spells ∙ sym (append_assoc (values_tokens xs) (literals.tokens_of x) (tokens_in new.pieces))
      ∙ ap (λ ts. ts ++ tokens_in new.pieces) (ap (λ ts. values_tokens xs ++ ts) (sym (append-nil (literals.tokens_of x))) ∙ sym (flat_map-append literals.tokens_of xs (x ∷ [])));
  same = record { same = λ others. read.same.same others ∙ value_comes pieces end others some ∙ meets.same (values ∷ others) };
})

pub values_fail : (old : Rest) (pieces : List Piece) (end : ℕ) (xs : List Datum) (error : ExprError) → 0 < length pieces → ValuesRead old xs (rest_at end pieces) → Fails (a_literal max_braces ∷ []) (rest_at end pieces) error → Fails (values ∷ []) old error
values_fail old pieces end xs error some read (inl memory) = inl memory
values_fail old pieces end xs error some read (inr fails) = inr (λ others. read.same.same others ∙ value_comes pieces end others some ∙ fails (values ∷ others))

pub values_end : (old : Rest) (pieces : List Piece) (end : ℕ) (xs : List Datum) → length pieces ≡ 0 → ValuesRead old xs (rest_at end pieces) → Meets (values ∷ []) old (rest_at end pieces)
values_end old [] end xs none read = record { same = λ others. read.same.same others ∙ end_run end (values ∷ others) others refl }
values_end old (p ∷ pieces) end xs none read = absurd (omega arith)

-- a literal takes a token at least
record Begun (tokens : List Token) : Type 0 where
  pub first : Token
  pub rest : List Token
  pub is : tokens ≡ first ∷ rest

literal_begins : (d : Datum) → IsLiteral max_braces d → Begun (literals.tokens_of d)
literal_begins (integer z) whole = absurd whole
literal_begins (long z) whole = record { first = number z; rest = []; is = refl }
literal_begins (data_.text content) whole = record { first = text content; rest = []; is = refl }
literal_begins (data_.bytes content) whole = record { first = bytes content; rest = []; is = refl }
literal_begins (relation r) whole = record { first = sign 123; rest = rows_tokens r ++ (sign 125 ∷ []); is = refl }

less_after : (old new : List Piece) (t : Token) (front : List Token) → tokens_in (pieces_of old) ≡ t ∷ (front ++ tokens_in (pieces_of new)) → length new < length old
less_after [] new t front e = absurd (cc)
less_after (p ∷ old) new t front e = chosen front (let f : tokens_in (pieces_of old) ≡ front ++ tokens_in (pieces_of new) = cc in f)
  where
    chosen : (front : List Token) → tokens_in (pieces_of old) ≡ front ++ tokens_in (pieces_of new) → length new < length (p ∷ old)
    chosen front f = let no_more = no_longer old new front f in omega (arith, no_more)
      where
        no_longer : (old new : List Piece) (front : List Token) → tokens_in (pieces_of old) ≡ front ++ tokens_in (pieces_of new) → length new < suc (length old)
        no_longer [] [] front f = omega arith
        no_longer [] (q ∷ new) [] f = absurd (cc)
        no_longer [] (q ∷ new) (t ∷ front) f = absurd (cc)
        no_longer (p ∷ old) [] front f = omega arith
        no_longer (p ∷ old) (q ∷ new) [] f = let g : tokens_in (pieces_of old) ≡ [] ++ tokens_in (pieces_of new) = cc in let less = no_longer old new [] g in omega (arith, less)
        no_longer (p ∷ old) (q ∷ new) (t ∷ front) f =
            let g : tokens_in (pieces_of old) ≡ front ++ tokens_in (pieces_of (q ∷ new)) = cc in let less = no_longer old (q ∷ new) front g in omega (arith, less)

pub literal_less : (old new : List Piece) (d : Datum) → IsLiteral max_braces d → tokens_in (pieces_of old) ≡ literals.tokens_of d ++ tokens_in (pieces_of new) → length new < length old
literal_less old new d whole e = let b = literal_begins d whole in less_after old new b.first b.rest (e ∙ ap (λ ts. ts ++ tokens_in (pieces_of new)) b.is)

-- criteria were read from the old rest, and others may come
pub record CriteriaRead (old : Rest) (xs : List Criterion) (now : Rest) : Type 0 where
  pub some : xs ≢ []
  pub whole : All IsCriterion xs
  pub spelled : tokens_in old.pieces ≡ joined_tokens xs ++ tokens_in now.pieces
  pub same : Becomes criteria_goals old (more_criteria ∷ []) now

pub criteria_start : (old now : Rest) (xs ys : List Criterion) (x : Criterion) → xs ≡ [] → ys ≡ xs ++ (x ∷ []) → IsCriterion x → tokens_in old.pieces ≡ criterion_tokens x ++ tokens_in now.pieces → Meets (member_goals items.Criterion) old now → CriteriaRead old ys now
criteria_start old now xs ys x empty pushed whole spells meets = subst (λ l. CriteriaRead old l now) (sym (pushed ∙ ap (λ l. l ++ (x ∷ [])) empty)) (record {
  some = not_empty x;
  whole = All-cons IsCriterion x [] whole (All-nil IsCriterion);
  spelled = spells ∙ ap (λ ts. ts ++ tokens_in now.pieces) (sym (append-nil (criterion_tokens x)));
  same = record { same = λ others. ap (λ g. offence_of old g) (append_assoc (member_goals items.Criterion) (more_criteria ∷ []) others) ∙ meets.same (more_criteria ∷ others) };
})
  where
    not_empty : (x : Criterion) → (x ∷ []) ≢ []
    not_empty x e = cc

joined-push : (xs : List Criterion) (x : Criterion) → xs ≢ [] → joined_tokens (xs ++ (x ∷ [])) ≡ joined_tokens xs ++ (comma ∷ criterion_tokens x)
joined-push [] x some = absurd (some refl)
joined-push (c ∷ xs) x some =
    ap (λ ts. criterion_tokens c ++ ts) (listed-append criterion_tokens xs (x ∷ []) ∙ ap (λ ts. listed criterion_tokens xs ++ (comma ∷ ts)) (append-nil (criterion_tokens x)))
    ∙ sym (append_assoc (criterion_tokens c) (listed criterion_tokens xs) (comma ∷ criterion_tokens x))

pub criteria_go : (old : Rest) (pieces : List Piece) (end : ℕ) (mid new : Rest) (xs ys : List Criterion) (x : Criterion) → 0 < length pieces → CriteriaRead old xs (rest_at end pieces) → ys ≡ xs ++ (x ∷ []) → IsCriterion x
    → tokens_in (pieces_of pieces) ≡ comma ∷ tokens_in mid.pieces → Meets (a_sign 44 ∷ []) (rest_at end pieces) mid → tokens_in mid.pieces ≡ criterion_tokens x ++ tokens_in new.pieces → Meets (member_goals items.Criterion) mid new → CriteriaRead old ys new
criteria_go old pieces end mid new xs ys x some read pushed whole parted sign_meets spells meets = subst (λ l. CriteriaRead old l new) (sym pushed) (record {
  some = more_some xs x;
  whole = All-push IsCriterion xs x read.whole whole;
  spelled =
      read.spelled ∙ ap (λ ts. joined_tokens xs ++ ts) (parted ∙ ap (λ ts. comma ∷ ts) spells)
      ∙ sym (append_assoc (joined_tokens xs) (comma ∷ criterion_tokens x) (tokens_in new.pieces)) ∙ ap (λ ts. ts ++ tokens_in new.pieces) (sym (joined-push xs x read.some));
  same = record {
    same = λ others.
        read.same.same others ∙ comma_comes pieces end others some ∙ sign_meets.same (criteria_goals ++ others)
        ∙ ap (λ g. offence_of mid g) (append_assoc (member_goals items.Criterion) (more_criteria ∷ []) others) ∙ meets.same (more_criteria ∷ others);
  };
})
  where
    more_some : (xs : List Criterion) (x : Criterion) → (xs ++ (x ∷ [])) ≢ []
    more_some [] x e = cc
    more_some (c ∷ xs) x e = cc

-- where the first fails, or the comma, or what stands behind it
pub criterion_fails : (old : Rest) (error : ExprError) → Fails (member_goals items.Criterion) old error → Fails criteria_goals old error
criterion_fails old error (inl memory) = inl memory
criterion_fails old error (inr fails) = inr (λ others. ap (λ g. offence_of old g) (append_assoc (member_goals items.Criterion) (more_criteria ∷ []) others) ∙ fails (more_criteria ∷ others))

pub comma_fails : (old : Rest) (pieces : List Piece) (end : ℕ) (xs : List Criterion) (error : ExprError) → 0 < length pieces → CriteriaRead old xs (rest_at end pieces) → Fails (a_sign 44 ∷ []) (rest_at end pieces) error → Fails criteria_goals old error
comma_fails old pieces end xs error some read (inl memory) = inl memory
comma_fails old pieces end xs error some read (inr fails) = inr (λ others. read.same.same others ∙ comma_comes pieces end others some ∙ fails (criteria_goals ++ others))

pub next_fails : (old : Rest) (pieces : List Piece) (end : ℕ) (mid : Rest) (xs : List Criterion) (error : ExprError) → 0 < length pieces → CriteriaRead old xs (rest_at end pieces) → Meets (a_sign 44 ∷ []) (rest_at end pieces) mid
    → Fails (member_goals items.Criterion) mid error → Fails criteria_goals old error
next_fails old pieces end mid xs error some read meets (inl memory) = inl memory
next_fails old pieces end mid xs error some read meets (inr fails) =
    inr (λ others.
    read.same.same others ∙ comma_comes pieces end others some ∙ meets.same (criteria_goals ++ others)
    ∙ ap (λ g. offence_of mid g) (append_assoc (member_goals items.Criterion) (more_criteria ∷ []) others) ∙ fails (more_criteria ∷ others))

pub criteria_end : (old : Rest) (pieces : List Piece) (end : ℕ) (xs : List Criterion) → length pieces ≡ 0 → CriteriaRead old xs (rest_at end pieces) → Meets criteria_goals old (rest_at end pieces)
criteria_end old [] end xs none read = record { same = λ others. read.same.same others ∙ end_run end (more_criteria ∷ others) others refl }
criteria_end old (p ∷ pieces) end xs none read = absurd (omega arith)

pub criterion_less : (old mid new : List Piece) (x : Criterion) → tokens_in (pieces_of old) ≡ comma ∷ tokens_in (pieces_of mid) → tokens_in (pieces_of mid) ≡ criterion_tokens x ++ tokens_in (pieces_of new) → length new < length old
criterion_less old mid new x parted e = less_after old new comma (criterion_tokens x) (parted ∙ ap (λ ts. comma ∷ ts) e)
