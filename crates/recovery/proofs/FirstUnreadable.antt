-- The first unreadable column of a list that is read from its front.
use Rattle.std.proofs.Common.{◌≡◌, ℕ, List, [], ◌∷◌, ◌++◌, All, refl, ap, sym, subst, ◌∙◌, append_assoc}
use Rattle.std.proofs.lemmas.List.Elements.{All-nil, All-append}
use Rattle.dir_codec.specs.Columns.{PlainEntry}
use Rattle.recovery.specs.declared.error.ColumnsError.{ColumnsError}
use Rattle.recovery.specs.declared.error.ColumnsError.TheVariants as columns_error
use Rattle.recovery.specs.Found.{IsUnreadableAt, NamesUnreadable}
use Rattle.recovery.specs.Reading.{IsFirstUnreadable, IsReadable}

-- these columns are left of all, and those before them are readable, where that is known
pub record IsReadUpTo (known : Type 0) (image : List ℕ) (all rest : List PlainEntry) : Type 0 where
  pub before : List PlainEntry
  pub split : all ≡ before ++ rest
  pub readable : known → All (IsReadable image) before

pub begins : (known : Type 0) (image : List ℕ) (all : List PlainEntry) → IsReadUpTo known image all all
begins known image all = record { before = []; split = refl; readable = λ _. All-nil (IsReadable image) }

pub goes_on : (known : Type 0) (image : List ℕ) (all rest one more : List PlainEntry) → IsReadUpTo known image all rest → rest ≡ one ++ more → (known → All (IsReadable image) one) → IsReadUpTo known image all more
goes_on known image all rest one more h e own = record {
  before = h.before ++ one;
  split = h.split ∙ ap (λ xs. h.before ++ xs) e ∙ sym (append_assoc h.before one more);
  readable = λ k. All-append (IsReadable image) h.before one (h.readable k) (own k);
}

-- at the end all were readable
pub all_readable : (known : Type 0) (image : List ℕ) (all : List PlainEntry) → IsReadUpTo known image all [] → known → All (IsReadable image) all
all_readable known image all h k = subst (All (IsReadable image)) (sym (h.split ∙ nothing_behind h.before)) (h.readable k)
  where
    nothing_behind : (xs : List PlainEntry) → xs ++ [] ≡ xs
    nothing_behind [] = refl
    nothing_behind (x ∷ xs) = ap (λ ys. x ∷ ys) (nothing_behind xs)

first_behind : (image : List ℕ) (all before one more : List PlainEntry) (e : PlainEntry) → all ≡ before ++ (one ++ more) → All (IsReadable image) before → IsFirstUnreadable image one e → IsFirstUnreadable image all e
first_behind image all before one more e split readable first = record {
  before = before ++ first.before;
  after = first.after ++ more;
  among = split ∙ ap (λ xs. before ++ (xs ++ more)) first.among ∙ ap (λ xs. before ++ xs) (append_assoc first.before (e ∷ first.after) more)
      ∙ sym (append_assoc before first.before (e ∷ (first.after ++ more)));
  readable = All-append (IsReadable image) before first.before readable first.readable;
  unreadable = first.unreadable;
}

-- the first of those that come next is the first of all
pub names_first : (known : Type 0) (image : List ℕ) (all rest one more : List PlainEntry) (e : ColumnsError) → IsReadUpTo known image all rest → rest ≡ one ++ more → known → NamesUnreadable image one e → NamesUnreadable image all e
names_first known image all rest one more (columns_error.At offset) h e k named =
    (named.0, first_behind image all h.before one more named.0 (h.split ∙ ap (λ xs. h.before ++ xs) e) (h.readable k) named.1, named.2)
names_first known image all rest one more columns_error.Failed h e k named = tt
names_first known image all rest one more columns_error.Memory h e k named = tt

-- a column alone
pub one_unreadable : (image : List ℕ) (e : PlainEntry) → ¬ IsReadable image e → IsUnreadableAt image (e ∷ []) e.start
one_unreadable image e unreadable = (e, record { before = []; after = []; among = refl; readable = All-nil (IsReadable image); unreadable = unreadable }, refl)
