-- The worked first commit, computed: after the commit of an empty store, of one view with one row.
use Rattle.std.proofs.Common.{◌≡◌, ℕ, ◌%◌, ◌<◌, ◌≤◌, ⊎_elim, pos, List, [], ◌∷◌, codes, All, refl, arith}
use Rattle.std.proofs.lemmas.Bool.{cases_lt}
use Rattle.std.proofs.lemmas.List.Elements.{All-cons, All-head, All-nil, All-tail, All-weaker}
use Rattle.mk_value.specs.declared.span.Span.{Span}
use Rattle.mk_value.specs.Heading.{Domain}
use Rattle.mk_value.specs.Data.{Datum}
use Rattle.free_space.specs.Extents.{Meets, extent_end, extent_len}
use Rattle.free_space.specs.FreeSpace.{IsFree, IsLeastPlace}
use Rattle.free_space.proofs.ExtentLemmas.{apart_from_end, place_below_end}
use Rattle.tables.specs.Homes.{Home, no_home, numbers, strings}
use Rattle.tables.specs.Shapes.{HasHomes}
use Rattle.view_store.specs.Views.{NamedTable}
use Rattle.recovery.specs.Commits.{Commit, dir_block}
use Rattle.commit_plan.specs.Following.{FollowsAt, writes_at}

abbrev span : ℕ → ℕ → Span
span place len = record { place = place; len = len }

abbrev people : List Home → List NamedTable
people homes = record {
  name = codes "people";
  table = record {
    schema = record { name = codes "name"; domain = Domain.text } ∷ record { name = codes "age"; domain = Domain.integer } ∷ [];
    rows = (Datum.text (codes "Ann") ∷ Datum.integer (pos 31) ∷ []) ∷ [];
    homes = homes;
  };
} ∷ []

-- an empty store's commit, and the first
abbrev empty : Commit
empty = record { number = 0; views = []; notes = []; dir = span 192 4; end = 208 }

abbrev first : Commit
first = record { number = 1; views = people (strings (span 208 1) (span 224 3) [] ∷ numbers (span 240 1) ∷ []); notes = []; dir = span 256 86; end = 352 }

-- the used extents leave no place from the floor to the end
record IsFilled (used : List Span) (end : ℕ) : Type 0 where
  closed : All (λ s. extent_end s ≤ end) used
  full : (place len : ℕ) → 192 ≤ place → place < end → 0 < len → ¬ IsFree used (span place len)

filled_none : IsFilled [] 192
filled_none = record { closed = All-nil (λ s. extent_end s ≤ 192); full = λ place len from below some free. absurd (omega (arith, from, below)) }

filled_more : (used : List Span) (end last : ℕ) (s : Span) → IsFilled used end → s.place ≡ end → extent_end s ≡ last → end ≤ last → IsFilled (s ∷ used) last
filled_more used end last s filled at to grows = record {
  closed = All-cons (λ o. extent_end o ≤ last) s used (omega (arith, to)) (All-weaker (λ o. extent_end o ≤ end) (λ o. extent_end o ≤ last) (λ o h. omega (arith, h, grows)) used filled.closed);
  full = λ place len from below some free. ⊎_elim
      (λ lower. filled.full place len from lower some (All-tail (λ o. ¬ Meets o (span place len)) s used free))
      (λ higher. All-head (λ o. ¬ Meets o (span place len)) s used free
      (place, (omega (arith, at, higher), omega (arith, to, below)), (omega arith, place_below_end (span place len) some)))
      (cases_lt place end);
}

behind : (used : List Span) (end len : ℕ) → IsFilled used end → end % 16 ≡ 0 → 192 ≤ end → 0 < len → IsLeastPlace 192 used len end
behind used end len filled even from some = record {
  stands = record {
    aligned = even;
    from_floor = from;
    free = All-weaker (λ o. extent_end o ≤ end) (λ o. ¬ Meets o (span end len)) (λ o h. apart_from_end o (span end len) h) used filled.closed;
  };
  least = λ other is. ⊎_elim (λ lower. absurd (filled.full other len is.from_floor lower some is.free)) (λ higher. higher) (cases_lt other end);
}

used_0 : IsFilled (span 192 4 ∷ []) 208
unfolding extent_len
used_0 = filled_more [] 192 208 (span 192 4) filled_none refl refl (omega arith)

used_1 : IsFilled (span 208 1 ∷ span 192 4 ∷ []) 224
unfolding extent_len
used_1 = filled_more (span 192 4 ∷ []) 208 224 (span 208 1) used_0 refl refl (omega arith)

used_2 : IsFilled (span 224 3 ∷ span 208 1 ∷ span 192 4 ∷ []) 240
unfolding extent_len
used_2 = filled_more (span 208 1 ∷ span 192 4 ∷ []) 224 240 (span 224 3) used_1 refl refl (omega arith)

used_3 : IsFilled (span 240 1 ∷ span 224 3 ∷ span 208 1 ∷ span 192 4 ∷ []) 256
unfolding extent_len
used_3 = filled_more (span 224 3 ∷ span 208 1 ∷ span 192 4 ∷ []) 240 256 (span 240 1) used_2 refl refl (omega arith)

-- the first commit follows the empty one, with its blocks from 208 on and its directory at 256
pub first_follows : FollowsAt 192 empty (people (no_home ∷ no_home ∷ [])) [] (span 208 1 ∷ span 224 3 ∷ span 240 1 ∷ []) first
unfolding extent_len
first_follows = record {
  number = refl;
  same_rows = refl;
  shaped = All-cons (λ v. HasHomes v.table) _ [] (refl, (tt, tt)) (All-nil (λ v. HasHomes v.table));
  settled_columns = refl;
  notes = refl;
  placed = (
    (refl, behind (span 192 4 ∷ []) 208 1 used_0 refl (omega arith) (omega arith)),
    (
      (refl, behind (span 208 1 ∷ span 192 4 ∷ []) 224 3 used_1 refl (omega arith) (omega arith)),
      (
        (refl, behind (span 224 3 ∷ span 208 1 ∷ span 192 4 ∷ []) 240 1 used_2 refl (omega arith) (omega arith)),
        ((refl, behind (span 240 1 ∷ span 224 3 ∷ span 208 1 ∷ span 192 4 ∷ []) 256 86 used_3 refl (omega arith) (omega arith)), tt),
      ),
    ),
  );
  dir = refl;
  end = refl;
}

-- and these blocks are written
writes : writes_at (people (no_home ∷ no_home ∷ [])) (span 208 1 ∷ span 224 3 ∷ span 240 1 ∷ []) first
    ≡ record { span = span 208 1; bytes = 3 ∷ [] } ∷ record { span = span 224 3; bytes = codes "Ann" } ∷ record { span = span 240 1; bytes = 31 ∷ [] } ∷ dir_block first ∷ []
writes = refl
