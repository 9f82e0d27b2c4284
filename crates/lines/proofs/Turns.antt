-- Runs that go on by one turn.
use Rattle.std.proofs.Common.{◌≡◌, ℕ, Bool, true, false, List, [], ◌∷◌, ◌++◌, length, refl, sym, ap, ◌∙◌, subst, ◌⊎◌, inl, inr, append_assoc, arith}
use Rattle.std.proofs.lemmas.List.{append-nil}
use Rattle.std.proofs.lemmas.Bool.{cases_lt, false≢true}
use Rattle.lines.specs.Lines.{max_line, IsTooLong}
use Rattle.lines.specs.Machine.{Machine, State, Turn, Answers, IsLast, Run, replies, HasEnded}

-- a line ends the session or it does not
pub IsLast-cases : {W : Type 0} (machine : Machine W) (line : List ℕ) → IsLast machine line ⊎ (¬ IsLast machine line)
IsLast-cases machine line =
    let by_end : (b : Bool) → machine.ends line ≡ b → (¬ IsTooLong line) → IsLast machine line ⊎ (¬ IsLast machine line) =
    elim [ true ↦ λ is short. inl (short, is) | false ↦ λ is short. inr (λ last. false≢true (sym is ∙ last.1)) ] in
    elim (cases_lt max_line (length line)) [
      | inl long ↦ inr (λ last. last.0 long)
      | inr short ↦ by_end (machine.ends line) refl (λ long. omega arith)
    ]

-- one turn more, in the state that the run left
pub Run-push : {W : Type 0} (machine : Machine W) (old mid : State W) (lines : List (List ℕ)) (turns : List (Turn W)) (line : List ℕ) (turn : Turn W)
    → Run machine old lines turns mid → (¬ HasEnded machine turns) → turn.line ≡ line → Answers machine mid line turn.reply turn.after
    → Run machine old (lines ++ line ∷ []) (turns ++ turn ∷ []) turn.after
Run-push {W} machine old mid [] [] line turn run goes_on is answers =
    let P : State W → Type 0 = λ state. Answers machine state line turn.reply turn.after in
    (is, subst P run answers, elim (IsLast-cases machine line) [ inl last ↦ inl (last, refl, refl) | inr other ↦ inr (other, refl) ])
Run-push machine old mid [] (turn' ∷ turns) line turn run goes_on is answers = absurd run
Run-push machine old mid (line' ∷ lines) [] line turn run goes_on is answers = absurd run
Run-push machine old mid (line' ∷ lines) (turn' ∷ turns) line turn run goes_on is answers = (
  run.0,
  run.1,
  elim run.2 [
    | inl last ↦ absurd (goes_on (inl (rw run.0 last.0)))
    | inr more ↦ inr (more.0, Run-push machine turn'.after mid lines turns line turn more.1 (λ ended. goes_on (inr ended)) is answers)
  ],
)

-- lines behind the one that ended the session are not answered
pub Run-later : {W : Type 0} (machine : Machine W) (old last : State W) (lines later : List (List ℕ)) (turns : List (Turn W))
    → Run machine old lines turns last → HasEnded machine turns → Run machine old (lines ++ later) turns last
Run-later machine old last [] later [] run ended = absurd ended
Run-later machine old last [] later (turn ∷ turns) run ended = absurd run
Run-later machine old last (line ∷ lines) later [] run ended = absurd run
Run-later machine old last (line ∷ lines) later (turn ∷ turns) run ended = (
  run.0,
  run.1,
  elim run.2 [
    | inl over ↦ inl over
    | inr more ↦ inr (
      more.0,
      elim ended [
        | inl is ↦ absurd (more.0 (rw run.0 at is))
        | inr ended' ↦ Run-later machine turn.after last lines later turns more.1 ended'
      ],
    )
  ],
)

pub HasEnded-push : {W : Type 0} (machine : Machine W) (turns : List (Turn W)) (turn : Turn W) → IsLast machine turn.line → HasEnded machine (turns ++ turn ∷ [])
HasEnded-push machine [] turn last = inl last
HasEnded-push machine (turn' ∷ turns) turn last = inr (HasEnded-push machine turns turn last)

pub goes_on-push : {W : Type 0} (machine : Machine W) (turns : List (Turn W)) (turn : Turn W)
    → (¬ HasEnded machine turns) → (¬ IsLast machine turn.line) → ¬ HasEnded machine (turns ++ turn ∷ [])
goes_on-push machine [] turn before other ended = elim ended [ inl last ↦ other last | inr more ↦ absurd more ]
goes_on-push machine (turn' ∷ turns) turn before other ended = elim ended [
  | inl last ↦ before (inl last)
  | inr more ↦ goes_on-push machine turns turn (λ ended'. before (inr ended')) other more
]

pub replies-push : {W : Type 0} (turns : List (Turn W)) (turn : Turn W) → replies (turns ++ turn ∷ []) ≡ replies turns ++ turn.reply
replies-push [] turn = append-nil turn.reply
replies-push (turn' ∷ turns) turn = ap (λ (x : List ℕ). turn'.reply ++ x) (replies-push turns turn) ∙ sym (append_assoc turn'.reply (replies turns) turn.reply)

-- the state after these turns
abbrev pub state_after : {W : Type 0} → State W → List (Turn W) → State W
state_after state [] = state
state_after state (turn ∷ turns) = state_after turn.after turns

pub state_after-run : {W : Type 0} (machine : Machine W) (old last : State W) (lines : List (List ℕ)) (turns : List (Turn W))
    → Run machine old lines turns last → state_after old turns ≡ last
state_after-run machine old last [] [] run = sym run
state_after-run machine old last [] (turn ∷ turns) run = absurd run
state_after-run machine old last (line ∷ lines) [] run = absurd run
state_after-run machine old last (line ∷ lines) (turn ∷ turns) run = elim run.2 [
  | inl over ↦ rw (over.1) (sym over.2)
  | inr more ↦ state_after-run machine turn.after last lines turns more.1
]
