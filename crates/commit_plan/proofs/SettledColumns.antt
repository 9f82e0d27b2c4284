-- All plain columns of views after those without a home were settled.
use Rattle.std.proofs.Common.{◌≡◌, ◌+◌, ◌⊎◌, ⊎_elim, inl, inr, List, [], ◌∷◌, ◌++◌, length, take, drop, Bool, true, false, cond, All, ap, sym, subst, ◌∙◌, arith}
use Rattle.std.specs.Prelude.{Contains}
use Rattle.std.specs.List.{filter, flat_map}
use Rattle.std.proofs.lemmas.List.{length-append, length-take-le, take-append-drop}
use Rattle.std.proofs.lemmas.List.Elements.{All-head, All-tail, All-cons, All-nil, All-append, All-weaker, All-contains, All-contains_itself, Contains-append_left, Contains-append_right}
use Rattle.mk_value.specs.declared.span.Span.{Span}
use Rattle.free_space.specs.Extents.{AreApart, Meets}
use Rattle.commit_writes.specs.Blocks.{Block}
use Rattle.tables.specs.Homes.{PlainColumn}
use Rattle.tables.specs.Rests.{blocks, blocks_of}
use Rattle.tables.specs.Blocks.{is_homed}
use Rattle.tables.proofs.Apart.{Clear, apart_clear, apart_join, apart_left, apart_right}
use Rattle.recovery.specs.Commits.{blocks_at, column_blocks}
use Rattle.commit_plan.specs.Following.{blocks_due, due_of, home_at, settled, settled_at}
use Rattle.recovery.proofs.PlainParts.{IsPlainPart, blocks_at-append}
use Rattle.commit_plan.proofs.Columns.{IsSettledColumn, kept, placed, settled-is}

abbrev pub homed : List PlainColumn → List PlainColumn
homed columns = filter is_homed columns

-- the blocks that columns had, and those that they are due
abbrev pub old_blocks : List PlainColumn → List Block
old_blocks columns = flat_map column_blocks (homed columns)

abbrev pub new_blocks : List PlainColumn → List Span → List Block
new_blocks columns spans = blocks_at spans (blocks_due columns)

abbrev pub IsOldOrNew : List Block → List Block → Block → Type 0
IsOldOrNew old new b = Contains old b ⊎ Contains new b

abbrev pub IsOldOrNewSpan : List Span → List Span → Span → Type 0
IsOldOrNewSpan old new s = Contains old s ⊎ Contains new s

-- what holds of columns after they were settled at these spans
pub record AreSettled (columns : List PlainColumn) (spans : List Span) : Type 0 where
  pub plain : All IsPlainPart (settled_at columns spans)
  pub homes : All (λ c. is_homed c ≡ true) (settled_at columns spans)
  pub among : All (IsOldOrNew (old_blocks columns) (new_blocks columns spans)) (flat_map column_blocks (settled_at columns spans))
  pub spans_among : All (IsOldOrNewSpan (blocks (homed columns)) spans) (blocks (settled_at columns spans))
  pub apart : AreApart (blocks (homed columns)) → AreApart spans → Clear (blocks (homed columns)) spans → AreApart (blocks (settled_at columns spans))

in_front : {X : Type 0} (front back : List X) → All (Contains (front ++ back)) front
in_front front back = All-weaker (Contains front) (Contains (front ++ back)) (λ x h. Contains-append_left front back x h) front (All-contains_itself front)

filter-kept : (c : PlainColumn) (columns : List PlainColumn) → is_homed c ≡ true → homed (c ∷ columns) ≡ c ∷ homed columns
filter-kept c columns e = ap (λ (b : Bool). cond b (c ∷ homed columns) (homed columns)) e

filter-left_out : (c : PlainColumn) (columns : List PlainColumn) → is_homed c ≡ false → homed (c ∷ columns) ≡ homed columns
filter-left_out c columns e = ap (λ (b : Bool). cond b (c ∷ homed columns) (homed columns)) e

-- a column that has a home, before others that are settled
settle_kept : (c : PlainColumn) (columns : List PlainColumn) (spans : List Span) → IsPlainPart c → is_homed c ≡ true → due_of c ≡ [] → ((s : List Span) → settled c s ≡ c) → AreSettled columns spans → AreSettled (c ∷ columns) spans
settle_kept c columns spans plain e due same rest =
    let n : length (due_of c) ≡ 0 = ap length due in
    let now : settled_at (c ∷ columns) spans ≡ c ∷ settled_at columns spans =
    ap (λ k. settled c (take k spans) ∷ settled_at columns (drop k spans)) n ∙ ap (λ d. d ∷ settled_at columns spans) (same []) in
    let had = filter-kept c columns e in
    let wanted : blocks_due (c ∷ columns) ≡ blocks_due columns = ap (λ bs. bs ++ blocks_due columns) due in
    let one = column_blocks c in
    record {
      plain = subst (All IsPlainPart) (sym now) (All-cons IsPlainPart c (settled_at columns spans) plain rest.plain);
      homes = subst (All (λ d. is_homed d ≡ true)) (sym now) (All-cons (λ d. is_homed d ≡ true) c (settled_at columns spans) e rest.homes);
      among =
          subst (λ cs. All (IsOldOrNew (flat_map column_blocks cs) (new_blocks (c ∷ columns) spans)) (flat_map column_blocks (settled_at (c ∷ columns) spans))) (sym had)
          (subst (λ bs. All (IsOldOrNew (one ++ old_blocks columns) (blocks_at spans bs)) (flat_map column_blocks (settled_at (c ∷ columns) spans))) (sym wanted)
          (subst (λ cs. All (IsOldOrNew (one ++ old_blocks columns) (new_blocks columns spans)) (flat_map column_blocks cs)) (sym now)
          (All-append (IsOldOrNew (one ++ old_blocks columns) (new_blocks columns spans)) one (flat_map column_blocks (settled_at columns spans))
          (All-weaker (Contains (one ++ old_blocks columns)) (IsOldOrNew (one ++ old_blocks columns) (new_blocks columns spans)) (λ b h. inl h) one (in_front one (old_blocks columns)))
          (All-weaker (IsOldOrNew (old_blocks columns) (new_blocks columns spans)) (IsOldOrNew (one ++ old_blocks columns) (new_blocks columns spans))
          (λ b h. ⊎_elim (λ o. inl (Contains-append_right one (old_blocks columns) b o)) (λ w. inr w) h) (flat_map column_blocks (settled_at columns spans)) rest.among))));
      spans_among =
          subst (λ cs. All (IsOldOrNewSpan (blocks cs) spans) (blocks (settled_at (c ∷ columns) spans))) (sym had)
          (subst (λ cs. All (IsOldOrNewSpan (blocks_of c.home ++ blocks (homed columns)) spans) (blocks cs)) (sym now)
          (All-append (IsOldOrNewSpan (blocks_of c.home ++ blocks (homed columns)) spans) (blocks_of c.home) (blocks (settled_at columns spans))
          (All-weaker (Contains (blocks_of c.home ++ blocks (homed columns))) (IsOldOrNewSpan (blocks_of c.home ++ blocks (homed columns)) spans) (λ b h. inl h) (blocks_of c.home) (in_front (blocks_of c.home) (blocks (homed columns))))
          (All-weaker (IsOldOrNewSpan (blocks (homed columns)) spans) (IsOldOrNewSpan (blocks_of c.home ++ blocks (homed columns)) spans)
          (λ b h. ⊎_elim (λ o. inl (Contains-append_right (blocks_of c.home) (blocks (homed columns)) b o)) (λ w. inr w) h) (blocks (settled_at columns spans)) rest.spans_among)));
      apart = λ old new clear.
          let old_is : AreApart (blocks_of c.home ++ blocks (homed columns)) = subst (λ cs. AreApart (blocks cs)) had old in
          let clear_is : Clear (blocks_of c.home ++ blocks (homed columns)) spans = subst (λ cs. Clear (blocks cs) spans) had clear in
          subst (λ cs. AreApart (blocks cs)) (sym now)
          (apart_join (blocks_of c.home) (blocks (settled_at columns spans)) (apart_left (blocks_of c.home) (blocks (homed columns)) old_is)
          (rest.apart (apart_right (blocks_of c.home) (blocks (homed columns)) old_is) new (λ a b in_a in_b. clear_is a b (Contains-append_right (blocks_of c.home) (blocks (homed columns)) a in_a) in_b))
          (λ a b in_a in_b. ⊎_elim
          (λ (o : Contains (blocks (homed columns)) b). apart_clear (blocks_of c.home) (blocks (homed columns)) old_is a b in_a o)
          (λ (w : Contains spans b). clear_is a b (Contains-append_left (blocks_of c.home) (blocks (homed columns)) a in_a) w)
          (All-contains (IsOldOrNewSpan (blocks (homed columns)) spans) (blocks (settled_at columns spans)) b rest.spans_among in_b)));
    }

-- a column that gets these spans, before others that are settled
settle_placed : (c : PlainColumn) (columns : List PlainColumn) (front back : List Span) → is_homed c ≡ false → length front ≡ length (due_of c)
    → column_blocks (settled c front) ≡ blocks_at front (due_of c) → blocks_of (settled c front).home ≡ front → is_homed (settled c front) ≡ true → IsPlainPart (settled c front)
    → settled_at (c ∷ columns) (front ++ back) ≡ settled c front ∷ settled_at columns back
    → AreSettled columns back → AreSettled (c ∷ columns) (front ++ back)
settle_placed c columns front back e long its at has plain now rest =
    let left = filter-left_out c columns e in
    let one = blocks_at front (due_of c) in
    let new : new_blocks (c ∷ columns) (front ++ back) ≡ one ++ new_blocks columns back = blocks_at-append front back (due_of c) (blocks_due columns) long in
    let others = settled_at columns back in
    record {
      plain = subst (All IsPlainPart) (sym now) (All-cons IsPlainPart (settled c front) others plain rest.plain);
      homes = subst (All (λ d. is_homed d ≡ true)) (sym now) (All-cons (λ d. is_homed d ≡ true) (settled c front) others has rest.homes);
      among =
          subst (λ cs. All (IsOldOrNew (flat_map column_blocks cs) (new_blocks (c ∷ columns) (front ++ back))) (flat_map column_blocks (settled_at (c ∷ columns) (front ++ back)))) (sym left)
          (subst (λ bs. All (IsOldOrNew (old_blocks columns) bs) (flat_map column_blocks (settled_at (c ∷ columns) (front ++ back)))) (sym new)
          (subst (λ cs. All (IsOldOrNew (old_blocks columns) (one ++ new_blocks columns back)) (flat_map column_blocks cs)) (sym now)
          (All-append (IsOldOrNew (old_blocks columns) (one ++ new_blocks columns back)) (column_blocks (settled c front)) (flat_map column_blocks others)
          (subst (All (IsOldOrNew (old_blocks columns) (one ++ new_blocks columns back))) (sym its)
          (All-weaker (Contains (one ++ new_blocks columns back)) (IsOldOrNew (old_blocks columns) (one ++ new_blocks columns back)) (λ b h. inr h) one (in_front one (new_blocks columns back))))
          (All-weaker (IsOldOrNew (old_blocks columns) (new_blocks columns back)) (IsOldOrNew (old_blocks columns) (one ++ new_blocks columns back))
          (λ b h. ⊎_elim (λ o. inl o) (λ w. inr (Contains-append_right one (new_blocks columns back) b w)) h) (flat_map column_blocks others) rest.among))));
      spans_among =
          subst (λ cs. All (IsOldOrNewSpan (blocks cs) (front ++ back)) (blocks (settled_at (c ∷ columns) (front ++ back)))) (sym left)
          (subst (λ cs. All (IsOldOrNewSpan (blocks (homed columns)) (front ++ back)) (blocks cs)) (sym now)
          (All-append (IsOldOrNewSpan (blocks (homed columns)) (front ++ back)) (blocks_of (settled c front).home) (blocks others)
          (subst (All (IsOldOrNewSpan (blocks (homed columns)) (front ++ back))) (sym at)
          (All-weaker (Contains (front ++ back)) (IsOldOrNewSpan (blocks (homed columns)) (front ++ back)) (λ b h. inr h) front (in_front front back)))
          (All-weaker (IsOldOrNewSpan (blocks (homed columns)) back) (IsOldOrNewSpan (blocks (homed columns)) (front ++ back))
          (λ b h. ⊎_elim (λ o. inl o) (λ w. inr (Contains-append_right front back b w)) h) (blocks others) rest.spans_among)));
      apart = λ old new clear.
          let old_is : AreApart (blocks (homed columns)) = subst (λ cs. AreApart (blocks cs)) left old in
          let clear_is : Clear (blocks (homed columns)) (front ++ back) = subst (λ cs. Clear (blocks cs) (front ++ back)) left clear in
          subst (λ cs. AreApart (blocks cs)) (sym now)
          (subst (λ ss. AreApart (ss ++ blocks others)) (sym at)
          (apart_join front (blocks others) (apart_left front back new)
          (rest.apart old_is (apart_right front back new) (λ a b in_a in_b. clear_is a b in_a (Contains-append_right front back b in_b)))
          (λ a b in_a in_b. ⊎_elim
          (λ (o : Contains (blocks (homed columns)) b). λ (m : Meets a b). clear_is b a o (Contains-append_left front back a in_a) (m.0, m.2, m.1))
          (λ (w : Contains back b). apart_clear front back new a b in_a w)
          (All-contains (IsOldOrNewSpan (blocks (homed columns)) back) (blocks others) b rest.spans_among in_b))));
    }

-- all columns, at as many spans as they are due blocks
pub settle_all : (columns : List PlainColumn) (spans : List Span) → All IsPlainPart columns → length spans ≡ length (blocks_due columns) → AreSettled columns spans
settle_all [] spans plain long = record {
  plain = All-nil IsPlainPart;
  homes = All-nil (λ c. is_homed c ≡ true);
  among = All-nil (IsOldOrNew [] (blocks_at spans []));
  spans_among = All-nil (IsOldOrNewSpan [] spans);
  apart = λ old new clear. old;
}
settle_all (c ∷ columns) spans plain long = by_column (λ s e. settle_all columns s (All-tail IsPlainPart c columns plain) e) (settled-is c (take (length (due_of c)) spans) (All-head IsPlainPart c columns plain) front_long)
  where
    made : List Span → PlainColumn
    made s = record { domain = c.domain; values = c.values; home = home_at c.domain s }

    whole : length (due_of c ++ blocks_due columns) ≡ length (due_of c) + length (blocks_due columns)
    whole = length-append (due_of c) (blocks_due columns)

    front_long : length (take (length (due_of c)) spans) ≡ length (due_of c)
    front_long = length-take-le (length (due_of c)) spans (omega (arith, long, whole))

    back_long : length (drop (length (due_of c)) spans) ≡ length (blocks_due columns)
    back_long = let e = ap length (take-append-drop (length (due_of c)) spans) in let f = length-append (take (length (due_of c)) spans) (drop (length (due_of c)) spans) in let g = front_long in omega (arith, e, f, g, long, whole)

    by_column : ((s : List Span) → length s ≡ length (blocks_due columns) → AreSettled columns s) → IsSettledColumn c (take (length (due_of c)) spans) → AreSettled (c ∷ columns) spans
    by_column rest (kept e due same) =
        settle_kept c columns spans (All-head IsPlainPart c columns plain) e due (λ s. ap (λ (b : Bool). cond b c (made s)) e)
        (rest spans (long ∙ ap (λ bs. length (bs ++ blocks_due columns)) due))
    by_column rest (placed e wanted none its at has is) =
        subst (AreSettled (c ∷ columns)) (take-append-drop (length (due_of c)) spans)
        (settle_placed c columns (take (length (due_of c)) spans) (drop (length (due_of c)) spans) e front_long its at has is
        (ap (λ s. settled_at (c ∷ columns) s) (take-append-drop (length (due_of c)) spans))
        (rest (drop (length (due_of c)) spans) back_long))
