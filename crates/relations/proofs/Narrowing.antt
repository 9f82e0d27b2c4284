-- What criteria of one property ask together.
use Rattle.std.proofs.Common.{◌≡◌, ℕ, suc, ◌+◌, ◌<◌, Bool, true, false, not, cond, ◌&&◌, if◌then◌else◌, List, [], ◌∷◌, ◌++◌, length, get_or, map, take, drop, All, Option, Some, None, refl, ap, sym, subst, ◌∙◌, arith}
use Rattle.std.specs.declared.cmp.Ordering.{Ordering}
use Rattle.std.specs.declared.cmp.Ordering.TheVariants.{Less, Equal, Greater}
use Rattle.std.specs.Cmp.Lexicographic.{same_text}
use Rattle.std.specs.List.{find, list_all, remove}
use Rattle.std.specs.Option.{option_map, option_or}
use Rattle.std.specs.Ordering.{is_ge, is_gt, is_le, is_lt, ordering_reverse}
use Rattle.std.proofs.lemmas.Bool.{false≢true}
use Rattle.std.proofs.lemmas.List.{get_or_push, length-append, take-append-drop, take_more}
use Rattle.std.proofs.Math.Seq.{take-append_seam}
use Rattle.std.proofs.lemmas.List.Elements.{All-append, All-cons, All-drop, All-head, All-nil, All-push, All-tail, All-take}
use Rattle.std.proofs.lemmas.List.Folds.{list_all-append}
use Rattle.mk_value.specs.Data.{Datum}
use Rattle.mk_value.specs.Heading.{Attribute, Domain}
use Rattle.mk_value.specs.Order.{value_cmp}
use Rattle.mk_value.specs.OrderLaws.{value_cmp_total}
use Rattle.mk_value.proofs.Walks.{drop_read, same_default}
use Rattle.relations.specs.Criteria.{Interval, is_in_range, is_within}
use Rattle.relations.specs.declared.error.DerivedError.{DerivedError}
use Rattle.relations.specs.declared.error.DerivedError.TheVariants.{KeyIsView, NoProp, WrongKind}
use Rattle.relations.specs.Fitting.{fits, is_view}
use Rattle.relations.specs.Merging.{AskAs, AsksAlso, IsNamedAt, greater, lesser, met}
use Rattle.relations.specs.Refusals.{absent, a_view, range_due, unfit}
use Rattle.relations.specs.Rows.{domain_of, has, value_of}
use Rattle.relations.proofs.Asking.{first_none, rest_none}
use Rattle.relations.proofs.Faults.{none_refused, not_false}
use Rattle.relations.proofs.Names.{item_plain, item_present}

-- one test beside another that it implies
first_alone : (x y : Bool) → (x ≡ true → y ≡ true) → x ≡ (x && y)
first_alone true y f = sym (f refl)
first_alone false y f = refl

second_alone : (x y : Bool) → (y ≡ true → x ≡ true) → y ≡ (x && y)
second_alone true y f = refl
second_alone false true f = absurd (false≢true (f refl))
second_alone false false f = refl

crossed : (a b c d : Bool) → ((a && b) && (c && d)) ≡ ((a && c) && (b && d))
crossed false b c d = refl
crossed true true c d = refl
crossed true false true d = refl
crossed true false false d = refl

-- the last test beside the others, one of which stood between
moved : (a d h c : Bool) → ((a && d) && ((h && c) && true)) ≡ ((a && (h && d)) && c)
moved false d h c = refl
moved true false true c = refl
moved true false false c = refl
moved true true true true = refl
moved true true true false = refl
moved true true false c = refl

ended : (a c : Bool) → (a && (c && true)) ≡ (a && c)
ended false c = refl
ended true true = refl
ended true false = refl

-- what is not below a value is not below a lesser one
not_below : (d a b : Datum) (o : Ordering) → value_cmp d a ≡ o → value_cmp a b ≡ Less → is_ge (value_cmp d b) ≡ true → is_ge (value_cmp d a) ≡ true
not_below d a b Less e less h = absurd (false≢true (sym (ap is_ge (value_cmp_total.trans d a b e less)) ∙ h))
not_below d a b Equal e less h = ap is_ge e
not_below d a b Greater e less h = ap is_ge e

-- what is not above a value is not above a greater one
turned_round : (a b : Datum) → value_cmp a b ≡ Greater → value_cmp b a ≡ Less
turned_round a b e = value_cmp_total.antisymm b a ∙ ap ordering_reverse e

turned_back : (a b : Datum) → value_cmp a b ≡ Less → value_cmp b a ≡ Greater
turned_back a b e = value_cmp_total.antisymm b a ∙ ap ordering_reverse e

not_above : (d a b : Datum) (o : Ordering) → value_cmp d a ≡ o → value_cmp b a ≡ Less → is_le (value_cmp d b) ≡ true → is_le (value_cmp d a) ≡ true
not_above d a b Less e less h = ap is_le e
not_above d a b Equal e less h = ap is_le e
not_above d a b Greater e less h =
    absurd (false≢true (sym (ap is_le (turned_back b d (value_cmp_total.trans b a d less (turned_round d a e)))) ∙ h))

-- values that tie stand alike to others
alike_to : (d a b : Datum) → value_cmp a b ≡ Equal → value_cmp d a ≡ value_cmp d b
alike_to d a b e = value_cmp_total.antisymm d a ∙ ap ordering_reverse (value_cmp_total.congr a b d e) ∙ sym (value_cmp_total.antisymm d b)

low_met : (d a b : Datum) (o : Ordering) → value_cmp a b ≡ o → is_ge (value_cmp d (greater a b)) ≡ (is_ge (value_cmp d a) && is_ge (value_cmp d b))
low_met d a b Less e =
    ap (λ (t : Bool). is_ge (value_cmp d (if t then b else a))) (ap is_lt e) ∙ second_alone (is_ge (value_cmp d a)) (is_ge (value_cmp d b)) (not_below d a b (value_cmp d a) refl e)
low_met d a b Equal e =
    ap (λ (t : Bool). is_ge (value_cmp d (if t then b else a))) (ap is_lt e) ∙ first_alone (is_ge (value_cmp d a)) (is_ge (value_cmp d b)) (λ h. ap is_ge (sym (alike_to d a b e)) ∙ h)
low_met d a b Greater e =
    ap (λ (t : Bool). is_ge (value_cmp d (if t then b else a))) (ap is_lt e) ∙ first_alone (is_ge (value_cmp d a)) (is_ge (value_cmp d b)) (not_below d b a (value_cmp d b) refl (turned_round a b e))

high_met : (d a b : Datum) (o : Ordering) → value_cmp a b ≡ o → is_le (value_cmp d (lesser a b)) ≡ (is_le (value_cmp d a) && is_le (value_cmp d b))
high_met d a b Less e =
    ap (λ (t : Bool). is_le (value_cmp d (if t then b else a))) (ap is_gt e) ∙ first_alone (is_le (value_cmp d a)) (is_le (value_cmp d b)) (not_above d b a (value_cmp d b) refl e)
high_met d a b Equal e =
    ap (λ (t : Bool). is_le (value_cmp d (if t then b else a))) (ap is_gt e) ∙ first_alone (is_le (value_cmp d a)) (is_le (value_cmp d b)) (λ h. ap is_le (sym (alike_to d a b e)) ∙ h)
high_met d a b Greater e =
    ap (λ (t : Bool). is_le (value_cmp d (if t then b else a))) (ap is_gt e) ∙ second_alone (is_le (value_cmp d a)) (is_le (value_cmp d b)) (not_above d a b (value_cmp d a) refl (turned_round a b e))

within_met : (a b : Interval) (d : Datum) → is_within (met a b) d ≡ (is_within a d && is_within b d)
within_met a b d =
    ap (λ (x : Bool). x && is_le (value_cmp d (lesser a.high b.high))) (low_met d a.low b.low (value_cmp a.low b.low) refl)
    ∙ ap (λ (x : Bool). (is_ge (value_cmp d a.low) && is_ge (value_cmp d b.low)) && x) (high_met d a.high b.high (value_cmp a.high b.high) refl)
    ∙ crossed (is_ge (value_cmp d a.low)) (is_ge (value_cmp d b.low)) (is_le (value_cmp d a.high)) (is_le (value_cmp d b.high))

-- criteria that are due no refusal
record IsSound (schema : List Attribute) (b : Interval) : Type 0 where
  present : has schema b.prop ≡ true
  plain : is_view (domain_of schema b.prop) ≡ false
  low : fits (domain_of schema b.prop) b.low ≡ true
  high : fits (domain_of schema b.prop) b.high ≡ true

both_so : (x y : Bool) → (x && y) ≡ true → (x ≡ true) × (y ≡ true)
both_so true true e = (refl, refl)
both_so true false e = absurd (false≢true e)
both_so false y e = absurd (false≢true e)

sound_of : (schema : List Attribute) (criteria : List Interval) → range_due criteria schema ≡ None → All (IsSound schema) criteria
sound_of schema criteria due k d p =
    let prop : Interval → List ℕ = λ b. b.prop in
    let named = first_none (absent schema (map prop criteria)) _ due in
    let others = rest_none (absent schema (map prop criteria)) _ due in
    let no_view = first_none (a_view schema (map prop criteria)) _ others in
    let last = rest_none (a_view schema (map prop criteria)) _ others in
    let fit = first_none (unfit schema criteria) None last in
    let b = get_or criteria k d in
    let test : Interval → Bool = λ b. not (fits (domain_of schema b.prop) b.low && fits (domain_of schema b.prop) b.high) in
    let read = same_default criteria k d (get_or criteria k d) p in
    let both = both_so (fits (domain_of schema b.prop) b.low) (fits (domain_of schema b.prop) b.high) (not_false _ (none_refused (λ (b : Interval). WrongKind b.prop) test criteria fit k d p)) in
    record { present = item_present prop schema criteria k b named p read; plain = item_plain prop schema criteria k b no_view p read; low = both.0; high = both.1 }

pub none_found : {A X E : Type 0} (e : X → E) (test : X → Bool) (f : A → X) (xs : List A) → All (λ x. test (f x) ≡ false) xs → option_map e (find test (map f xs)) ≡ None
none_found e test f [] h = refl
none_found e test f (x ∷ xs) h =
    ap (λ b. option_map e (cond b (Some (f x)) (find test (map f xs)))) (All-head (λ x. test (f x) ≡ false) x xs h) ∙ none_found e test f xs (All-tail (λ x. test (f x) ≡ false) x xs h)

none_unfit : {X E : Type 0} (e : X → E) (test : X → Bool) (xs : List X) → All (λ x. test x ≡ false) xs → option_map e (find test xs) ≡ None
none_unfit e test [] h = refl
none_unfit e test (x ∷ xs) h =
    ap (λ b. option_map e (cond b (Some x) (find test xs))) (All-head (λ x. test x ≡ false) x xs h) ∙ none_unfit e test xs (All-tail (λ x. test x ≡ false) x xs h)

none_of_three : (a b c : Option DerivedError) → a ≡ None → b ≡ None → c ≡ None → option_or a (option_or b (option_or c None)) ≡ None
none_of_three a b c p q r = ap (λ x. option_or x (option_or b (option_or c None))) p ∙ ap (λ x. option_or x (option_or c None)) q ∙ ap (λ x. option_or x None) r

due_of : (schema : List Attribute) (criteria : List Interval) → All (IsSound schema) criteria → range_due criteria schema ≡ None
due_of schema criteria h =
    let prop : Interval → List ℕ = λ b. b.prop in
    let names = map prop criteria in
    none_of_three (absent schema names) (a_view schema names) (unfit schema criteria)
    (none_found NoProp (λ n. not (has schema n)) prop criteria (λ k d p. ap not (h k d p).present))
    (none_found KeyIsView (λ n. is_view (domain_of schema n)) prop criteria (λ k d p. (h k d p).plain))
    (none_unfit (λ (b : Interval). WrongKind b.prop) (λ b. not (fits (domain_of schema b.prop) b.low && fits (domain_of schema b.prop) b.high)) criteria
    (λ k d p. let b = get_or criteria k d in
    ap (λ (x : Bool). not (x && fits (domain_of schema b.prop) b.high)) (h k d p).low ∙ ap not (h k d p).high))

one_fits : (e : Domain) (t : Bool) (a b : Datum) → fits e a ≡ true → fits e b ≡ true → fits e (if t then b else a) ≡ true
one_fits e true a b p q = q
one_fits e false a b p q = p

met_sound : (schema : List Attribute) (a b : Interval) → a.prop ≡ b.prop → IsSound schema a → IsSound schema b → IsSound schema (met a b)
met_sound schema a b same one two =
    let domain : domain_of schema b.prop ≡ domain_of schema a.prop = ap (domain_of schema) (sym same) in
    record {
      present = one.present;
      plain = one.plain;
      low = one_fits (domain_of schema a.prop) (is_lt (value_cmp a.low b.low)) a.low b.low one.low (subst (λ e. fits e b.low ≡ true) domain two.low);
      high = one_fits (domain_of schema a.prop) (is_gt (value_cmp a.high b.high)) a.high b.high one.high (subst (λ e. fits e b.high ≡ true) domain two.high);
    }

abbrev asks : List Attribute → List Datum → Interval → Bool
asks schema row b = is_within b (value_of schema row b.prop)

alone : (schema : List Attribute) (b : Interval) → range_due (b ∷ []) schema ≡ None → IsSound schema b
alone schema b due = All-head (IsSound schema) b [] (sound_of schema (b ∷ []) due)

-- one criterion more, of a property that no other has
pub more_asked : (criteria : List Interval) (one : Interval) → AsksAlso criteria one (criteria ++ one ∷ [])
more_asked criteria one = record {
  alike = λ schema row. list_all-append (asks schema row) criteria (one ∷ []) ∙ ended (is_in_range schema criteria row) (asks schema row one);
  due = λ schema h g. due_of schema (criteria ++ one ∷ []) (All-push (IsSound schema) criteria one (sound_of schema criteria h) (alone schema one g));
}

-- one criterion more, which narrows that of its property
module _ (criteria : List Interval) (one held : Interval) (at : ℕ) (here : IsNamedAt criteria one.prop at) (read : held ≡ get_or criteria at held) where
  same : held.prop ≡ one.prop
  same = ap (λ (b : Interval). b.prop) read ∙ same_text (get_or criteria at held).prop one.prop (sym (here.named held))

  parted : (schema : List Attribute) (row : List Datum) → is_in_range schema criteria row
      ≡ (list_all (asks schema row) (take at criteria) && (asks schema row held && list_all (asks schema row) (drop (at + 1) criteria)))
  parted schema row =
      ap (λ (bs : List Interval). list_all (asks schema row) bs) (sym (take-append-drop at criteria))
      ∙ list_all-append (asks schema row) (take at criteria) (drop at criteria)
      ∙ ap (λ (bs : List Interval). list_all (asks schema row) (take at criteria) && list_all (asks schema row) bs) (drop_read criteria at held here.within read)

  met_asks : (schema : List Attribute) (row : List Datum) → asks schema row (met held one) ≡ (asks schema row held && asks schema row one)
  met_asks schema row =
      within_met held one (value_of schema row held.prop) ∙ ap (λ (n : List ℕ). is_within held (value_of schema row held.prop) && is_within one (value_of schema row n)) same

  abbrev rest : List Interval
  rest = take at criteria ++ drop (at + 1) criteria

  met_rest : AsksAlso criteria one (rest ++ met held one ∷ [])
  met_rest = record {
    alike = λ schema row.
        let test = asks schema row in
        let a = list_all test (take at criteria) in
        let d = list_all test (drop (at + 1) criteria) in
        list_all-append test rest (met held one ∷ [])
        ∙ ap (λ (x : Bool). x && (test (met held one) && true)) (list_all-append test (take at criteria) (drop (at + 1) criteria))
        ∙ ap (λ (x : Bool). (a && d) && (x && true)) (met_asks schema row)
        ∙ moved a d (test held) (test one)
        ∙ ap (λ (x : Bool). x && test one) (sym (parted schema row));
    due = λ schema h g.
        let sound = sound_of schema criteria h in
        due_of schema (rest ++ met held one ∷ [])
        (All-push (IsSound schema) rest (met held one)
        (All-append (IsSound schema) (take at criteria) (drop (at + 1) criteria) (All-take (IsSound schema) at criteria sound) (All-drop (IsSound schema) (at + 1) criteria sound))
        (met_sound schema held one same (subst (IsSound schema) (sym read) (sound at held here.within)) (alone schema one g)));
  }

  pub met_asked : AsksAlso criteria one (remove criteria at ++ met held one ∷ [])
  met_asked =
      let next : suc at ≡ at + 1 = omega arith in
      subst (λ n. AsksAlso criteria one ((take at criteria ++ drop n criteria) ++ met held one ∷ [])) (sym next) met_rest

-- criteria are taken in one after another
pub asks_begin : AskAs [] []
asks_begin = record { alike = λ schema row. refl; due = λ schema h. h }

module _ (criteria so_far both : List Interval) (i : ℕ) (one : Interval) (p : i < length criteria) (read : one ≡ get_or criteria i one) (before : AskAs (take i criteria) so_far) (also : AsksAlso so_far one both) where
  longer : take (i + 1) criteria ≡ take i criteria ++ one ∷ []
  longer = take_more criteria i one p ∙ ap (λ (b : Interval). take i criteria ++ b ∷ []) (sym read)

  pub asks_more : AskAs (take (i + 1) criteria) both
  asks_more = subst (λ (bs : List Interval). AskAs bs both) (sym longer) (record {
    alike = λ schema row. also.alike schema row ∙ ap (λ (x : Bool). x && asks schema row one) (before.alike schema row) ∙ sym ((more_asked (take i criteria) one).alike schema row);
    due = λ schema h.
        let sound = sound_of schema (take i criteria ++ one ∷ []) h in
        also.due schema (before.due schema (due_of schema (take i criteria) (front schema sound))) (due_of schema (one ∷ []) (last schema sound));
  }) where
    front : (schema : List Attribute) → All (IsSound schema) (take i criteria ++ one ∷ []) → All (IsSound schema) (take i criteria)
    front schema h = subst (All (IsSound schema)) (take-append_seam (take i criteria) (one ∷ [])) (All-take (IsSound schema) (length (take i criteria)) (take i criteria ++ one ∷ []) h)

    last : (schema : List Attribute) → All (IsSound schema) (take i criteria ++ one ∷ []) → All (IsSound schema) (one ∷ [])
    last schema h =
        let long = length-append (take i criteria) (one ∷ []) in
        All-cons (IsSound schema) one [] (subst (IsSound schema) (get_or_push (take i criteria) one one (length (take i criteria)) (omega arith)) (h (length (take i criteria)) one (omega arith))) (All-nil (IsSound schema))
