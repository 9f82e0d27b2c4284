-- Reading the members of a list, each behind a comma.
use Rattle.std.proofs.Common.{◌≡◌, ◌≢◌, ◌⊎◌, inl, inr, ℕ, suc, ◌+◌, ◌<◌, List, [], ◌∷◌, ◌++◌, length, length-append, All, Some, refl, sym, ap, subst, ◌∙◌, append_assoc, append-nil, arith}
use Rattle.std.proofs.lemmas.List.{length-map}
use Rattle.std.proofs.lemmas.List.Elements.{All-append, All-cons, All-nil}
use Rattle.std.specs.List.{flat_map}
use Rattle.mk_value.specs.Tokens.{Token, sign}
use Rattle.tokens.specs.Fronts.{tokens_in}
use Rattle.tokens.specs.Meanings.{piece_of, pieces_of}
use Rattle.tokens.specs.declared.token.Piece.{Piece}
use Rattle.expr_text.specs.Readers.{Becomes, Fails, Meets}
use Rattle.expr_text.specs.Arguments.{IsOrder}
use Rattle.expr_text.specs.Spelling.{comma, listed, order_tokens}
use Rattle.expr_text.specs.Walk.{Goal, Rest, a_key, end_goals, end_sign, member_goals, more, offence_of, some_goals}
use Rattle.expr_text.specs.declared.error.ExprError.{ExprError}
use Rattle.expr_text.specs.declared.expr.Order.{Order}
use Rattle.expr_text.specs.declared.list.Item.{Item}
use Rattle.expr_text.specs.declared.list.Item.TheVariants as items

-- some members were read from the old rest, and the comma before the next
pub record ListRead {X : Type 0} (item : Item) (P : X → Type 0) (f : X → List Token) (old : Rest) (xs : List X) (now : Rest) : Type 0 where
  pub whole : All P xs
  pub spelled : tokens_in old.pieces ≡ listed f xs ++ (comma ∷ tokens_in now.pieces)
  pub same : Becomes (some_goals item) old (member_goals item ++ (more item ∷ [])) now

pub listed-append : {X : Type 0} (f : X → List Token) (xs ys : List X) → listed f (xs ++ ys) ≡ listed f xs ++ listed f ys
listed-append f [] ys = refl
listed-append f (x ∷ xs) ys = ap (λ t. comma ∷ (f x ++ t)) (listed-append f xs ys) ∙ ap (λ t. comma ∷ t) (sym (append_assoc (f x) (listed f xs) (listed f ys)))

-- a member more
listed_more : {X : Type 0} (f : X → List Token) (xs : List X) (x : X) (tokens now rest : List Token) → tokens ≡ listed f xs ++ (comma ∷ now) → now ≡ f x ++ rest → tokens ≡ listed f (xs ++ (x ∷ [])) ++ rest
listed_more f xs x tokens now rest e read =
    e ∙ ap (λ t. listed f xs ++ (comma ∷ t)) read
    ∙ ap (λ t. listed f xs ++ (comma ∷ (t ++ rest))) (sym (append-nil (f x)))
    ∙ sym (append_assoc (listed f xs) (listed f (x ∷ [])) rest) ∙ ap (λ t. t ++ rest) (sym (listed-append f xs (x ∷ [])))

pub list_starts : {X : Type 0} (item : Item) (P : X → Type 0) (f : X → List Token) (old now : Rest) (xs : List X) → xs ≡ [] → tokens_in old.pieces ≡ comma ∷ tokens_in now.pieces
    → ((others : List Goal) → offence_of old (some_goals item ++ others) ≡ offence_of now ((member_goals item ++ (more item ∷ [])) ++ others)) → ListRead item P f old xs now
list_starts item P f old now xs empty e same = subst (λ l. ListRead item P f old l now) (sym empty) (record { whole = All-nil P; spelled = e; same = record { same = same } })

pub list_goes : {X : Type 0} (item : Item) (P : X → Type 0) (f : X → List Token) (old now mid new : Rest) (xs ys : List X) (x : X) → ListRead item P f old xs now → ys ≡ xs ++ (x ∷ []) → P x
    → tokens_in now.pieces ≡ f x ++ tokens_in mid.pieces → Meets (member_goals item) now mid → tokens_in mid.pieces ≡ comma ∷ tokens_in new.pieces
    → Becomes (more item ∷ []) mid (member_goals item ++ (more item ∷ [])) new → ListRead item P f old ys new
list_goes item P f old now mid new xs ys x read pushed whole member meets parted further = subst (λ l. ListRead item P f old l new) (sym pushed) (record {
  whole = All-append P xs (x ∷ []) read.whole (All-cons P x [] whole (All-nil P));
  spelled = listed_more f xs x (tokens_in old.pieces) (tokens_in now.pieces) (comma ∷ tokens_in new.pieces) read.spelled (member ∙ ap (λ t. f x ++ t) parted);
  same = record {
    same = λ others.
        read.same.same others
        ∙ ap (λ g. offence_of now g) (append_assoc (member_goals item) (more item ∷ []) others)
        ∙ meets.same (more item ∷ others) ∙ further.same others;
  };
})

-- the list is whole
pub record ListDone {X : Type 0} (item : Item) (P : X → Type 0) (f : X → List Token) (old : Rest) (xs : List X) (new : Rest) : Type 0 where
  pub some : xs ≢ []
  pub whole : All P xs
  pub spelled : tokens_in old.pieces ≡ listed f xs ++ (sign (end_sign item) ∷ tokens_in new.pieces)
  pub same : Becomes (some_goals item) old (end_goals item) new

not_empty : {X : Type 0} (xs : List X) (x : X) → (xs ++ (x ∷ [])) ≢ []
not_empty [] x e = cc
not_empty (y ∷ xs) x e = cc

pub list_done : {X : Type 0} (item : Item) (P : X → Type 0) (f : X → List Token) (old now mid new : Rest) (xs ys : List X) (x : X) → ListRead item P f old xs now → ys ≡ xs ++ (x ∷ []) → P x
    → tokens_in now.pieces ≡ f x ++ tokens_in mid.pieces → Meets (member_goals item) now mid → tokens_in mid.pieces ≡ sign (end_sign item) ∷ tokens_in new.pieces
    → Becomes (more item ∷ []) mid (end_goals item) new → ListDone item P f old ys new
list_done item P f old now mid new xs ys x read pushed whole member meets parted ended = subst (λ l. ListDone item P f old l new) (sym pushed) (record {
  some = not_empty xs x;
  whole = All-append P xs (x ∷ []) read.whole (All-cons P x [] whole (All-nil P));
  spelled = listed_more f xs x (tokens_in old.pieces) (tokens_in now.pieces) (sign (end_sign item) ∷ tokens_in new.pieces) read.spelled (member ∙ ap (λ t. f x ++ t) parted);
  same = record {
    same = λ others.
        read.same.same others
        ∙ ap (λ g. offence_of now g) (append_assoc (member_goals item) (more item ∷ []) others)
        ∙ meets.same (more item ∷ others) ∙ ended.same others;
  };
})

-- where a member fails, or what stands behind one
pub member_fails : {X : Type 0} (item : Item) (P : X → Type 0) (f : X → List Token) (old now : Rest) (xs : List X) (error : ExprError) → ListRead item P f old xs now → Fails (member_goals item) now error → Fails (some_goals item) old error
member_fails item P f old now xs error read (inl memory) = inl memory
member_fails item P f old now xs error read (inr fails) =
    inr (λ others. read.same.same others ∙ ap (λ g. offence_of now g) (append_assoc (member_goals item) (more item ∷ []) others) ∙ fails (more item ∷ others))

pub end_fails : {X : Type 0} (item : Item) (P : X → Type 0) (f : X → List Token) (old now mid : Rest) (xs : List X) (error : ExprError) → ListRead item P f old xs now → Meets (member_goals item) now mid → Fails (more item ∷ []) mid error
    → Fails (some_goals item) old error
end_fails item P f old now mid xs error read meets (inl memory) = inl memory
end_fails item P f old now mid xs error read meets (inr fails) =
    inr (λ others. read.same.same others ∙ ap (λ g. offence_of now g) (append_assoc (member_goals item) (more item ∷ []) others) ∙ meets.same (more item ∷ others) ∙ fails others)

-- what is left is less
pub less_left : (old new : List Piece) (front : List Token) (t : Token) → tokens_in (pieces_of old) ≡ front ++ (t ∷ tokens_in (pieces_of new)) → length new < length old
less_left old new front t e =
    let long : length (tokens_in (pieces_of old)) ≡ length front + suc (length (tokens_in (pieces_of new))) = ap length e ∙ length-append front (t ∷ tokens_in (pieces_of new)) in
    omega (arith, long, length-map (pieces_of old) (λ p. p.token), length-map (pieces_of new) (λ p. p.token), length-map old piece_of, length-map new piece_of)

pub less_behind : (old mid new : List Piece) (front : List Token) (t : Token) → tokens_in (pieces_of old) ≡ front ++ tokens_in (pieces_of mid) → tokens_in (pieces_of mid) ≡ t ∷ tokens_in (pieces_of new) → length new < length old
less_behind old mid new front t e parted = less_left old new front t (e ∙ ap (λ ts. front ++ ts) parted)

-- some properties to sort by were read, if there are any
pub record OrdersRead (old : Rest) (xs : List Order) (now : Rest) : Type 0 where
  pub whole : All IsOrder xs
  pub spelled : tokens_in old.pieces ≡ listed order_tokens xs ++ tokens_in now.pieces
  pub same : Becomes (more items.Order ∷ []) old (more items.Order ∷ []) now

pub orders_start : (old : Rest) (xs : List Order) → xs ≡ [] → OrdersRead old xs old
orders_start old xs empty = subst (λ l. OrdersRead old l old) (sym empty) (record { whole = All-nil IsOrder; spelled = refl; same = record { same = λ others. refl } })

pub orders_go : (old now mid new : Rest) (xs ys : List Order) (x : Order) → OrdersRead old xs now → ys ≡ xs ++ (x ∷ []) → IsOrder x → tokens_in now.pieces ≡ comma ∷ tokens_in mid.pieces
    → Becomes (more items.Order ∷ []) now (member_goals items.Order ++ (more items.Order ∷ [])) mid → tokens_in mid.pieces ≡ order_tokens x ++ tokens_in new.pieces → Meets (a_key ∷ []) mid new → OrdersRead old ys new
orders_go old now mid new xs ys x read pushed whole parted further member meets = subst (λ l. OrdersRead old l new) (sym pushed) (record {
  whole = All-append IsOrder xs (x ∷ []) read.whole (All-cons IsOrder x [] whole (All-nil IsOrder));
  spelled = listed_more order_tokens xs x (tokens_in old.pieces) (tokens_in mid.pieces) (tokens_in new.pieces) (read.spelled ∙ ap (λ t. listed order_tokens xs ++ t) parted) member;
  same = record { same = λ others. read.same.same others ∙ further.same others ∙ meets.same (more items.Order ∷ others) };
})

pub orders_fail : (old now : Rest) (xs : List Order) (error : ExprError) → OrdersRead old xs now → Fails (more items.Order ∷ []) now error → Fails (more items.Order ∷ []) old error
orders_fail old now xs error read (inl memory) = inl memory
orders_fail old now xs error read (inr fails) = inr (λ others. read.same.same others ∙ fails others)

pub order_fails : (old now mid : Rest) (xs : List Order) (error : ExprError) → OrdersRead old xs now → Becomes (more items.Order ∷ []) now (member_goals items.Order ++ (more items.Order ∷ [])) mid → Fails (a_key ∷ []) mid error
    → Fails (more items.Order ∷ []) old error
order_fails old now mid xs error read further (inl memory) = inl memory
order_fails old now mid xs error read further (inr fails) = inr (λ others. read.same.same others ∙ further.same others ∙ fails (more items.Order ∷ others))
