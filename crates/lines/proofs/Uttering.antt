-- A text that is said piece by piece.
use Rattle.std.proofs.Common.{◌≡◌, ℕ, ◌+◌, ◌-◌, ◌<◌, ◌≤◌, inl, inr, List, ◌++◌, length, take, drop, Result, Ok, Err, refl, sym, ap, ◌∙◌, append_assoc, arith, length-drop}
use Rattle.std.proofs.lemmas.List.{append-nil, take_rest}
use Rattle.std.proofs.lemmas.Bool.{false≢true}
use Rattle.std.proofs.Math.Seq.{take-add}
use Rattle.host_io.specs.Outside.{Outside, Moment, Goes}
use Rattle.host_io.specs.Calls.{CountsSay, Says}
use Rattle.lines.specs.Spoken.{IsSaying, SaysAll}
use Rattle.host_io.proofs.Moments.{begins, begins_still, steps, joins}

-- a front of these bytes has been said
pub record SaidFront (bytes : List ℕ) (part : ℕ) (old new : Outside) : Type 0 where
  pub within : part ≤ length bytes
  pub spoke : new.now.said ≡ old.now.said ++ take part bytes
  pub disk : new.now.disk ≡ old.now.disk
  pub input : new.input ≡ old.input
  pub moments : Goes (IsSaying bytes old.now) old new

-- no call so far has failed
pub record CountsNone (old new : Outside) : Type 0 where
  pub later : old.say_faults ≤ new.say_faults
  pub disk : new.disk_faults ≡ old.disk_faults
  pub takes : new.take_faults ≡ old.take_faults
  pub source : new.source ≡ old.source

pub SaidFront-none : (bytes : List ℕ) (outside : Outside) → SaidFront bytes 0 outside outside
SaidFront-none bytes outside = record {
  within = omega arith;
  spoke = sym (append-nil outside.now.said);
  disk = refl;
  input = refl;
  moments = begins outside;
}

pub CountsNone-none : (outside : Outside) → CountsNone outside outside
CountsNone-none outside = record { later = omega arith; disk = refl; takes = refl; source = refl }

pub CountsNone-more : {T E : Type 0} (old mid new : Outside) (result : Result T E) → CountsNone old mid → CountsSay mid new result → CountsNone old new
CountsNone-more old mid new result before counts = record {
  later = let h = counts.says.later in omega arith;
  disk = counts.disk ∙ before.disk;
  takes = counts.takes ∙ before.takes;
  source = counts.source ∙ before.source;
}

-- what is left of them, as a slice to the end says it
abbrev pub rest_of : List ℕ → ℕ → List ℕ
rest_of bytes part = take (length bytes - part) (drop part bytes)

-- one more piece
pub SaidFront-more : {E : Type 0} (bytes : List ℕ) (part n : ℕ) (old mid new : Outside)
    → SaidFront bytes part old mid → n ≤ length (rest_of bytes part) → Says {E = E} (rest_of bytes part) mid new (Ok n) → SaidFront bytes (part + n) old new
SaidFront-more bytes part n old mid new front short' says' =
    let short = rw (take_rest bytes part) at short' in
    let says = rw (take_rest bytes part) at says' in
    let within : part + n ≤ length bytes = let h = front.within in omega (arith, short, length-drop part bytes) in
    let spoke : new.now.said ≡ old.now.said ++ take (part + n) bytes =
    says.ok.0 ∙ (ap (λ (x : List ℕ). x ++ take n (drop part bytes)) front.spoke
    ∙ (append_assoc old.now.said (take part bytes) (take n (drop part bytes))
    ∙ ap (λ (x : List ℕ). old.now.said ++ x) (sym (take-add part n bytes)))) in
    let disk : new.now.disk ≡ old.now.disk = says.ok.1 ∙ front.disk in
    record {
      within = within;
      spoke = spoke;
      disk = disk;
      input = says.input ∙ front.input;
      moments = joins front.moments
          (steps says.ok.2 (record { part = part + n; within = within; said = spoke; disk = disk }));
    }

-- all of it
pub SaysAll-whole : {T E : Type 0} (bytes : List ℕ) (part : ℕ) (old new : Outside) (value : T)
    → SaidFront bytes part old new → length bytes ≤ part → SaysAll {E = E} bytes old new (Ok value)
SaysAll-whole bytes part old new value front all = record {
  part = part;
  within = front.within;
  spoke = front.spoke;
  ok = let h = front.within in omega arith;
  err = tt;
  disk = front.disk;
  input = front.input;
  moments = front.moments;
}

-- a piece that failed
pub SaysAll-cut : {T E : Type 0} (bytes : List ℕ) (part : ℕ) (old mid new : Outside) (error : E)
    → SaidFront bytes part old mid → part < length bytes → Says {E = E} (rest_of bytes part) mid new (Err error)
    → SaysAll {T = T} bytes old new (Err error)
SaysAll-cut bytes part old mid new error front short says = record {
  part = part;
  within = front.within;
  spoke = ap (λ (at : Moment). at.said) says.err.now ∙ front.spoke;
  ok = tt;
  err = short;
  disk = ap (λ (at : Moment). at.disk) says.err.now ∙ front.disk;
  input = says.input ∙ front.input;
  moments = joins front.moments (begins_still says.err);
}

pub CountsSay-whole : {T E : Type 0} (old new : Outside) (value : T) → CountsNone old new → CountsSay {E = E} old new (Ok value)
CountsSay-whole old new value counts = record {
  says = record { later = counts.later; cause = λ failed. absurd (false≢true failed) };
  disk = counts.disk;
  takes = counts.takes;
  source = counts.source;
}

pub CountsSay-cut : {T U E : Type 0} (old mid new : Outside) (error : E) → CountsNone old mid → CountsSay {T = U} mid new (Err error) → CountsSay {T = T} old new (Err error)
CountsSay-cut old mid new error before counts =
    let later = counts.says.later in
    record {
      says = record { later = omega arith; cause = λ failed. elim (counts.says.cause refl) [ inl rose ↦ inl (omega arith) | inr full ↦ inr full ] };
      disk = counts.disk ∙ before.disk;
      takes = counts.takes ∙ before.takes;
      source = counts.source ∙ before.source;
    }
