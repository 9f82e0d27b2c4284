-- Cursors: where a search may begin, and that what is taken keeps them.
use Rattle.std.proofs.Common.{ℕ, ◌-◌, ◌<◌, ◌≤◌, List, ◌∷◌, length, get_or, arith, All, IsPermutation, sym, subst}
use Rattle.std.specs.List.Sorted.{IsPartitionPoint}
use Rattle.std.proofs.lemmas.List.Elements.{All-tail, All-weaker}
use Rattle.std.proofs.lemmas.List.Sorted.{IsPermutation-sym}
use Rattle.mk_value.specs.declared.span.Span.{Span}
use Rattle.free_space.specs.declared.cursor.Cursor.{Cursor}
use Rattle.free_space.specs.Cursors.{HasLen, IsAtFloor, IsCursor}
use Rattle.free_space.specs.Extents.{IsAligned, Meets, extent_end, extent_len}
use Rattle.free_space.specs.FreeSpace.{CanStandAt, IsLaidOut, IsLeastPlace}
use Rattle.free_space.proofs.ExtentLemmas.{extent_len-aligned, extent_len-least, le-extent_len}
use Rattle.free_space.proofs.PlaceLemmas.{IsReached, free_permutation, span_at}

-- a shorter block can stand where a longer one can
stands_shorter : (floor : ℕ) (used : List Span) (short len place : ℕ) → short ≤ len → CanStandAt floor used len place → CanStandAt floor used short place
stands_shorter floor used short len place shorter stands = record {
  aligned = stands.aligned;
  from_floor = stands.from_floor;
  free = λ k d within meets. stands.free k d within (meets.0, meets.1, (meets.2.0, let low = meets.2.1 in omega (arith, low, grows)));
} where
  grows : extent_len short ≤ extent_len len
  grows = extent_len-least short (extent_len len) (extent_len-aligned len) (omega (arith, le-extent_len len))

-- a block can stand where it can while one span more is in use
stands_fewer : (floor : ℕ) (span : Span) (used taken : List Span) (len place : ℕ) → IsPermutation (span ∷ used) taken → CanStandAt floor taken len place → CanStandAt floor used len place
stands_fewer floor span used taken len place same stands = record {
  aligned = stands.aligned;
  from_floor = stands.from_floor;
  free = All-tail (λ other. ¬ Meets other (span_at len place)) span used (free_permutation taken (span ∷ used) (span_at len place) (IsPermutation-sym (span ∷ used) taken same) stands.free);
}

-- the cursor of a shorter block is one of a longer
pub cursor_longer : (floor : ℕ) (used : List Span) (cursor : Cursor) (len : ℕ) → cursor.len ≤ len → IsCursor floor used cursor → IsCursor floor used (record { len = len; place = cursor.place })
cursor_longer floor used cursor len longer is = record {
  some = let s = is.some in omega (arith, s, longer);
  aligned = is.aligned;
  from_floor = is.from_floor;
  least = λ other stands. is.least other (stands_shorter floor used cursor.len len other longer stands);
}

cursor_taken : (floor : ℕ) (span : Span) (used taken : List Span) (cursor : Cursor) → IsPermutation (span ∷ used) taken → IsCursor floor used cursor → IsCursor floor taken cursor
cursor_taken floor span used taken cursor same is = record {
  some = is.some;
  aligned = is.aligned;
  from_floor = is.from_floor;
  least = λ other stands. is.least other (stands_fewer floor span used taken cursor.len other same stands);
}

-- taking a span keeps all cursors
pub cursors_taken : (floor : ℕ) (span : Span) (used taken : List Span) (cursors : List Cursor) → IsPermutation (span ∷ used) taken → All (IsCursor floor used) cursors → All (IsCursor floor taken) cursors
cursors_taken floor span used taken cursors same all = All-weaker (IsCursor floor used) (IsCursor floor taken) (λ cursor is. cursor_taken floor span used taken cursor same is) cursors all

-- at the floor any cursor is one
pub floor_cursor : (floor : ℕ) (used : List Span) (len : ℕ) → IsAligned floor → 0 < len → IsCursor floor used (record { len = len; place = floor })
floor_cursor floor used len aligned some = record { some = some; aligned = aligned; from_floor = omega arith; least = λ other stands. stands.from_floor }

pub cursors_at_floor : (floor : ℕ) (used : List Span) (cursors : List Cursor) → IsAligned floor → All (IsAtFloor floor) cursors → All (IsCursor floor used) cursors
cursors_at_floor floor used cursors aligned all = All-weaker (IsAtFloor floor) (IsCursor floor used)
    (λ cursor is. record {
      some = is.some;
      aligned = subst IsAligned (sym is.at) aligned;
      from_floor = let a = is.at in omega (arith, a);
      least = λ other stands. let a = is.at in let f = stands.from_floor in omega (arith, a, f);
    })
    cursors all

pub have_lens : (floor : ℕ) (used : List Span) (cursors : List Cursor) → All (IsCursor floor used) cursors → All HasLen cursors
have_lens floor used cursors all = All-weaker (IsCursor floor used) HasLen (λ cursor is. record { some = is.some }) cursors all

-- a cursor at the least place
pub cursor_at_least : (floor : ℕ) (used : List Span) (len place : ℕ) → 0 < len → IsLeastPlace floor used len place → IsCursor floor used (record { len = len; place = place })
cursor_at_least floor used len place some is = record { some = some; aligned = is.stands.aligned; from_floor = is.stands.from_floor; least = is.least }

-- all spans before the last that begins below the cursor end below it
pub reached_from : (floor : ℕ) (used : List Span) (from : Cursor) (at : ℕ) → IsLaidOut used → at ≤ length used
    → IsPartitionPoint (λ span. span.place < from.place) (λ span. from.place ≤ span.place) used at → IsCursor floor used from → IsReached floor used from.len (at - 1) from.place
reached_from floor used from at laid bound split is = record {
  aligned = is.aligned;
  from_floor = is.from_floor;
  past = λ k d before.
      let ends : extent_end (get_or used k d) ≤ (get_or used (at - 1) d).place = laid.in_order k (at - 1) d before (omega (arith, before, bound)) in
      let below : (get_or used (at - 1) d).place < from.place = split.0 (at - 1) d (omega arith) (omega (arith, before)) in
      omega (arith, ends, below);
  least = is.least;
}
