-- The lines of one piece that was taken.
use Rattle.std.proofs.Common.{◌≡◌, ℕ, ◌+◌, ◌-◌, ◌<◌, ◌≤◌, List, [], ◌∷◌, ◌++◌, length, take, drop, get_or, Ok, Err, sym, ap, ◌∙◌, subst, length-drop, length-take, arith}
use Rattle.std.proofs.lemmas.List.{append-nil, take-append-drop, drop_more, drop-drop, take_rest}
use Rattle.host_io.specs.Outside.{Outside}
use Rattle.lines.specs.declared.session.Flow.TheVariants.{Goes as GoesOn, Ends}
use Rattle.lines.specs.declared.serving.End.TheVariants.{Done, SayFault}
use Rattle.lines.specs.Lines.{newline, max_line, HasNoNewline}
use Rattle.lines.specs.Machine.{Machine}
use Rattle.lines.specs.Served.{Serves}
use Rattle.lines.specs.Steps.{AnswersLine, SoFar}
use Rattle.lines.proofs.Going.{SoFar-span, SoFar-turn, Serves-ended, Serves-broken}

-- what is left of a piece, as a slice to the end says it
abbrev pub rest_of : List ℕ → ℕ → List ℕ
rest_of piece from = take (length piece - from) (drop from piece)

-- the bytes of the line that ends there, as a slice says it
abbrev pub span_of : List ℕ → ℕ → ℕ → List ℕ
span_of piece from len = take (from + len - from) (drop from piece)

-- the next newline of a piece stands here
pub record NextNewline (piece : List ℕ) (from len : ℕ) : Type 0 where
  pub within : len < length (rest_of piece from)
  pub found : get_or (rest_of piece from) len 0 ≡ newline
  pub front : HasNoNewline (take len (rest_of piece from))

split_piece : (piece : List ℕ) (from len : ℕ) → NextNewline piece from len
    → drop from piece ≡ span_of piece from len ++ newline ∷ drop (from + (len + 1)) piece
split_piece piece from len next =
    let rest = drop from piece in
    let within : len < length rest = rw (take_rest piece from) at next.within in
    let found : get_or rest len 0 ≡ newline = rw (take_rest piece from) at next.found in
    let count : from + len - from ≡ len = omega arith in
    let behind : drop len rest ≡ newline ∷ drop (from + (len + 1)) piece =
    drop_more rest len 0 within ∙ (ap (λ (b : ℕ). b ∷ drop (len + 1) rest) found ∙ ap (λ (x : List ℕ). newline ∷ x) (drop-drop (len + 1) from piece)) in
    sym (take-append-drop len rest) ∙ (ap (λ (n : ℕ). take n rest ++ drop len rest) (sym count) ∙ ap (λ (x : List ℕ). span_of piece from len ++ x) behind)

span_front : (piece : List ℕ) (from len : ℕ) → NextNewline piece from len → HasNoNewline (span_of piece from len)
span_front piece from len next =
    let front : HasNoNewline (take len (drop from piece)) = rw (take_rest piece from) at next.front in
    let count : len ≡ from + len - from = omega arith in
    let P : ℕ → Type 0 = λ n. HasNoNewline (take n (drop from piece)) in
    subst P count front

span_length : (piece : List ℕ) (from len : ℕ) → NextNewline piece from len → length (span_of piece from len) ≡ len
span_length piece from len next =
    let within : len < length (drop from piece) = rw (take_rest piece from) at next.within in
    omega (arith, length-take (from + len - from) (drop from piece))

-- the bytes up to the newline are looked at
pub SoFar-line : {W : Type 0} (machine : Machine W) (start : W) (begin : Outside) (world : W) (outside : Outside) (room room' piece : List ℕ) (from len count : ℕ)
    → SoFar machine start begin world outside room (drop from piece) (count + from) → NextNewline piece from len
    → room' ≡ take (max_line + 1) (room ++ span_of piece from len)
    → SoFar machine start begin world outside room' (newline ∷ drop (from + (len + 1)) piece) (count + from + len)
SoFar-line machine start begin world outside room room' piece from len count so next held =
    let A : List ℕ → Type 0 = λ ahead. SoFar machine start begin world outside room ahead (count + from) in
    let C : ℕ → Type 0 = λ n. SoFar machine start begin world outside room' (newline ∷ drop (from + (len + 1)) piece) (count + from + n) in
    subst C (span_length piece from len next)
    (SoFar-span machine start begin world outside room room' (span_of piece from len) (newline ∷ drop (from + (len + 1)) piece) (count + from)
    (subst A (split_piece piece from len next) so) (span_front piece from len next) held)

fits_line : (budget count from len : ℕ) (piece : List ℕ) → NextNewline piece from len → count + length piece ≤ budget
    → count + from + len + (1 + length (drop (from + (len + 1)) piece)) ≤ budget
fits_line budget count from len piece next fits =
    let within : len < length (drop from piece) = rw (take_rest piece from) at next.within in
    omega (arith, length-drop from piece, length-drop (from + (len + 1)) piece)

-- the line ends, and the run goes on
pub SoFar-next : {W E : Type 0} (machine : Machine W) (start : W) (begin : Outside) (world after : W) (old new : Outside) (room piece : List ℕ) (from len count : ℕ)
    → (so : SoFar machine start begin world old room (newline ∷ drop (from + (len + 1)) piece) (count + from + len))
    → AnswersLine {E = E} machine so.rest world after old new (Ok GoesOn)
    → SoFar machine start begin after new [] (drop (from + (len + 1)) piece) (count + (from + (len + 1)))
SoFar-next machine start begin world after old new room piece from len count so answer =
    let C : ℕ → Type 0 = λ n. SoFar machine start begin after new [] (drop (from + (len + 1)) piece) n in
    let same : count + from + len + 1 ≡ count + (from + (len + 1)) = omega arith in
    subst C same (SoFar-turn machine start begin world after old new room (drop (from + (len + 1)) piece) (count + from + len) so answer)

pub Serves-ended_in : {W E : Type 0} (machine : Machine W) (budget : ℕ) (start : W) (begin : Outside) (world after : W) (old new : Outside) (room piece : List ℕ) (from len count : ℕ)
    → (so : SoFar machine start begin world old room (newline ∷ drop (from + (len + 1)) piece) (count + from + len))
    → AnswersLine {E = E} machine so.rest world after old new (Ok Ends) → NextNewline piece from len → count + length piece ≤ budget
    → Serves machine budget Done start after begin new
Serves-ended_in machine budget start begin world after old new room piece from len count so answer next fits =
    Serves-ended machine budget start begin world after old new room (drop (from + (len + 1)) piece) (count + from + len) so answer (fits_line budget count from len piece next fits)

pub Serves-broken_in : {W E : Type 0} (machine : Machine W) (budget : ℕ) (start : W) (begin : Outside) (world after : W) (old new : Outside) (room piece : List ℕ) (from len count : ℕ) (error : E)
    → (so : SoFar machine start begin world old room (newline ∷ drop (from + (len + 1)) piece) (count + from + len))
    → AnswersLine machine so.rest world after old new (Err error) → NextNewline piece from len → count + length piece ≤ budget
    → Serves machine budget SayFault start after begin new
Serves-broken_in machine budget start begin world after old new room piece from len count error so answer next fits =
    Serves-broken machine budget start begin world after old new room (drop (from + (len + 1)) piece) (count + from + len) error so answer (fits_line budget count from len piece next fits)

-- what is left of the piece holds no newline
pub SoFar-rest : {W : Type 0} (machine : Machine W) (start : W) (begin : Outside) (world : W) (outside : Outside) (room room' piece : List ℕ) (from count : ℕ)
    → SoFar machine start begin world outside room (drop from piece) (count + from) → from ≤ length piece → HasNoNewline (rest_of piece from)
    → room' ≡ take (max_line + 1) (room ++ rest_of piece from)
    → SoFar machine start begin world outside room' [] (count + length piece)
SoFar-rest machine start begin world outside room room' piece from count so within none held =
    let A : List ℕ → Type 0 = λ ahead. SoFar machine start begin world outside room ahead (count + from) in
    let C : ℕ → Type 0 = λ n. SoFar machine start begin world outside room' [] n in
    let all : drop from piece ≡ rest_of piece from ++ [] = sym (append-nil (rest_of piece from) ∙ take_rest piece from) in
    let same : count + from + length (rest_of piece from) ≡ count + length piece = omega (arith, ap length (take_rest piece from), length-drop from piece) in
    subst C same (SoFar-span machine start begin world outside room room' (rest_of piece from) [] (count + from) (subst A all so) none held)
