-- What the readers of the parts of a directory give.
use Rattle.std.specs.Prelude.{◌≡◌, ℕ, ◌+◌, ◌<◌, ◌≤◌, ◌⊎◌, List, [], ◌++◌, length, take, drop, Result, MatchResult}
use Rattle.dir_codec.specs.declared.error.DirError.{DirError}
use Rattle.dir_codec.specs.declared.error.DirError.TheVariants.{At, Memory}
use Rattle.dir_codec.specs.Fields.{Due, Goes, IsFirstFlaw, IsFlawed}

-- so many bytes from a place on
abbrev pub bytes_at : ℕ → ℕ → List ℕ → List ℕ
bytes_at at len bytes = take len (drop at bytes)

-- From one place to another the bytes are these, and over them one comes from these dues to those left, with whatever stands behind both.
pub record Leads (number end : ℕ) (due : List Due) (bytes : List ℕ) (at : ℕ) (left : List Due) (to : ℕ) (spelled : List ℕ) : Type 0 where
  pub goes : (more : List Due) → Goes number end (due ++ more) (drop at bytes) (left ++ more) (drop to bytes)
  pub spells : drop at bytes ≡ spelled ++ drop to bytes
  pub within : to ≤ length bytes

-- the dues are read whole
abbrev pub Reads : ℕ → ℕ → List Due → List ℕ → ℕ → ℕ → List ℕ → Type 0
Reads number end due bytes at to spelled = Leads number end due bytes at [] to spelled

-- one comes to this place, and there is a flaw
pub record ComesToFlaw (number end : ℕ) (due : List Due) (bytes : List ℕ) (at place : ℕ) : Type 0 where
  pub left : List Due
  pub goes : Goes number end due (drop at bytes) left (drop place bytes)
  pub within : place ≤ length bytes
  pub flawed : IsFlawed number end left (drop place bytes)

-- the error names the first flaw from this place on, where these are due, whatever is due behind them
abbrev pub Flaws : ℕ → ℕ → List Due → List ℕ → ℕ → DirError → Type 0
Flaws number end due bytes at (At place) = (more : List Due) → ComesToFlaw number end (due ++ more) bytes at place
Flaws number end due bytes at Memory = Unit {0}

-- A reader of one field gives a value with P, or the place of the field, which is short or has Q.
abbrev pub GivesField : {X : Type 0} → List ℕ → ℕ → ℕ → (X → Type 0) → Type 0 → Result X DirError → Type 0
GivesField bytes at len P Q result = MatchResult result (λ x. (at + len ≤ length bytes) × P x) (λ e. (e ≡ At at) × ((length (drop at bytes) < len) ⊎ Q))

-- A reader of a part gives a value with P and the place behind it, or the first flaw.
abbrev pub GivesPart : {X : Type 0} → ℕ → ℕ → List Due → List ℕ → ℕ → (X → Type 0) → (X → List ℕ) → Result (X × ℕ) DirError → Type 0
GivesPart number end due bytes at P spelled result =
    MatchResult result (λ r. P r.0 × Reads number end due bytes at r.1 (spelled r.0)) (Flaws number end due bytes at)

-- the error names the first flaw of the bytes, under a mark with this version, number and end
abbrev pub IsRefused : ℕ → ℕ → ℕ → List ℕ → DirError → Type 0
IsRefused version number end bytes (At place) = IsFirstFlaw version number end bytes place
IsRefused version number end bytes Memory = Unit {0}
