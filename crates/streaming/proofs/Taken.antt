-- What is known of an input that is taken piece by piece.
use Rattle.std.proofs.Common.{◌≡◌, ℕ, ◌≤◌, List, [], ◌∷◌, ◌++◌, length, Result, Ok, Err, inl, refl, sym, ap, subst, ◌∙◌, append_assoc, take, slice_index, arith, append-nil, inr}
use Rattle.host_io.specs.Calls.{CountsTake, StandsStill}
use Rattle.host_io.specs.Outside.{Outside}
use Rattle.stream_codec.specs.Fields.{all_due, IsCutOffAt, IsRefusedFor, IsWrongAt, MayGoOn, stays}
use Rattle.stream_codec.specs.declared.error.LoadError.{LoadError}
use Rattle.stream_codec.specs.declared.error.LoadError.TheVariants as load_error
use Rattle.view_store.specs.Views.{NamedTable}
use Rattle.streaming.specs.Causes.{fault_of_stream}
use Rattle.streaming.specs.Taking.{ComesOfEnd, ComesOfInput, HasTaken, max_piece, TakesOnly, TakesTooMuch}
use Rattle.streaming.specs.declared.error.LoadFault.{LoadFault}
use Rattle.streaming.specs.declared.error.LoadFault.TheVariants.{BadStream, TooMuch, TakeFailed, Full, DiskFailed, Memory}

-- nothing was taken yet
pub takes_none : (outside : Outside) → TakesOnly [] outside outside
takes_none outside = record { came = refl; still = record { now = refl; past = refl }; disk_faults = refl; take_faults = omega arith; say_faults = refl }

-- A further call of the input, which brought these bytes, or none.
module _ {T E : Type 0} {result : Result T E} (taken more : List ℕ) (begin mid new : Outside) (so : TakesOnly taken begin mid) (came : mid.input ≡ more ++ new.input) (still : StandsStill mid new)
    (counts : CountsTake mid new result) where
  pub takes_more : TakesOnly (taken ++ more) begin new
  takes_more =
      let first = so.take_faults in let then = counts.takes.later in
      record {
        came = so.came ∙ ap (λ (l : List ℕ). taken ++ l) came ∙ sym (append_assoc taken more new.input);
        still = record { now = still.now ∙ so.still.now; past = still.past ∙ so.still.past };
        disk_faults = counts.disk ∙ so.disk_faults;
        take_faults = omega arith;
        say_faults = counts.says ∙ so.say_faults;
      }

-- one byte more than the budget came
pub too_much : {T E : Type 0} {result : Result T E} (budget byte : ℕ) (taken more : List ℕ) (begin mid new : Outside) → HasTaken budget 0 taken begin mid → more ≡ byte ∷ [] → mid.input ≡ more ++ new.input
    → StandsStill mid new → CountsTake mid new result → TakesTooMuch budget begin new
too_much budget byte taken more begin mid new so is came still counts = record {
  front = taken;
  byte = byte;
  takes = subst (λ (l : List ℕ). TakesOnly (taken ++ l) begin new) is (takes_more taken more begin mid new so.takes came still counts);
  full = let all = so.budget_is in omega (arith, all);
  right = so.right;
}

-- what was taken is refused
pub refused_piece : (budget : ℕ) (front last : List ℕ) (begin new : Outside) (error : LoadError) → TakesOnly (front ++ last) begin new → length (front ++ last) ≤ budget → MayGoOn front → length last ≤ max_piece
    → IsRefusedFor (front ++ last) error → ComesOfInput budget begin new (Err (fault_of_stream error))
refused_piece budget front last begin new (load_error.At place) takes within right piece wrong = record { front = front; last = last; takes = takes; within = within; right = right; piece = piece; bad = inl wrong }
refused_piece budget front last begin new load_error.Memory takes within right piece wrong = record { taken = front ++ last; takes = takes }

-- no field of no bytes is wrong
pub nothing_wrong : ((bytes : List ℕ) (one two : ℕ) → IsWrongAt bytes one → IsCutOffAt bytes two → ⊥) → MayGoOn []
nothing_wrong apart place wrong = apart [] place 0 wrong (record { due = all_due; before = stays all_due []; within = omega arith; there = omega arith })

-- a byte that came alone
pub one_byte : (n : ℕ) (piece : List ℕ) → length piece ≡ 1 → n ≤ 1 → (n ≡ 0 → ⊥) → take n piece ≡ slice_index piece 0 ∷ []
one_byte n [] long few some = absurd (omega (arith, long))
one_byte n (byte ∷ []) long few some =
    let one : n ≡ 1 = not_none n few some in
    ap (λ (m : ℕ). take m (byte ∷ [])) one
  where
    not_none : (m : ℕ) → m ≤ 1 → (m ≡ 0 → ⊥) → m ≡ 1
    not_none m few some = grind (arith, few, some)
one_byte n (byte ∷ other ∷ rest) long few some = absurd (omega (arith, long))

pub has_left : (budget left other : ℕ) (taken : List ℕ) (begin now : Outside) → left ≡ other → HasTaken budget left taken begin now → HasTaken budget other taken begin now
has_left budget left other taken begin now is so = subst (λ (n : ℕ). HasTaken budget n taken begin now) is so

-- the input ended, and what was taken is no whole stream
pub ended : {T E : Type 0} {result : Result T E} (budget : ℕ) (taken : List ℕ) (begin mid new : Outside) (fault : LoadFault) → TakesOnly taken begin mid → length taken ≤ budget → MayGoOn taken → mid.input ≡ new.input → new.input ≡ []
    → StandsStill mid new → CountsTake mid new result → ComesOfEnd taken (Err fault) → ComesOfInput budget begin new (Err fault)
ended budget taken begin mid new fault so within right came over still counts comes = by_fault fault (takes_more taken [] begin mid new so came still counts) comes
  where
    by_fault : (e : LoadFault) → TakesOnly (taken ++ []) begin new → ComesOfEnd taken (Err e) → ComesOfInput budget begin new (Err e)
    by_fault (BadStream place) takes cut =
        let all = append-nil taken in
        record {
          front = taken;
          last = [];
          takes = takes;
          within = subst (λ (l : List ℕ). length l ≤ budget) (sym all) within;
          right = right;
          piece = omega arith;
          bad = inr (over, subst (λ (l : List ℕ). IsCutOffAt l place) (sym all) cut);
        }
    by_fault Memory takes comes = record { taken = taken ++ []; takes = takes }
    by_fault TooMuch takes comes = absurd comes
    by_fault TakeFailed takes comes = absurd comes
    by_fault (Full end cap) takes comes = absurd comes
    by_fault DiskFailed takes comes = absurd comes

-- what the end of the input says of all that was taken
pub ended_as : {T E : Type 0} {result : Result T E} (budget : ℕ) (taken : List ℕ) (begin mid new : Outside) (end : Result (List NamedTable) LoadFault) → TakesOnly taken begin mid → length taken ≤ budget → MayGoOn taken → mid.input ≡ new.input
    → new.input ≡ [] → StandsStill mid new → CountsTake mid new result → ComesOfEnd taken end → ComesOfInput budget begin new end
ended_as budget taken begin mid new (Ok views) so within right came over still counts stream = record {
  taken = taken;
  takes = subst (λ (l : List ℕ). TakesOnly l begin new) (append-nil taken) (takes_more taken [] begin mid new so came still counts);
  over = over;
  within = within;
  stream = stream;
}
ended_as budget taken begin mid new (Err fault) so within right came over still counts comes = ended budget taken begin mid new fault so within right came over still counts comes
