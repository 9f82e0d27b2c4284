-- Stores are coded by their parts, so that a proof can tell two of them apart.
use Rattle.std.specs.Prelude.{◌≡◌, ℕ, zero, suc, List, Option, refl}
use Rattle.std.specs.Coded.{Coded, code_by, coded_ℕ, coded_list, coded_option, coded×}
use Rattle.mk_value.specs.declared.span.Span.{Span}
use Rattle.commit_marks.specs.declared.mark.Mark.{Mark}
use Rattle.dir_codec.specs.Dir.{NoteEntry}
use Rattle.view_store.specs.Views.{NamedTable, views_code}
use Rattle.recovery.specs.Commits.{Commit}
use Rattle.storage.specs.declared.mode.Mode.{Mode}
use Rattle.storage.specs.declared.mode.Mode.TheVariants.{Write, Extend, Read}
use Rattle.storage.specs.Stored.{Stored}

abbrev span_code : Coded Span
span_code = code_by (ℕ × ℕ) (coded× coded_ℕ coded_ℕ) (λ s. (s.place, s.len)) (λ p. record { place = p.0; len = p.1 }) (λ _. refl)

abbrev note_code : Coded NoteEntry
note_code =
    code_by (ℕ × List ℕ) (coded× coded_ℕ (coded_list coded_ℕ)) (λ n. (n.number, n.text)) (λ p. record { number = p.0; text = p.1 }) (λ _. refl)

abbrev mark_code : Coded Mark
mark_code =
    code_by (ℕ × (ℕ × (ℕ × (ℕ × ℕ)))) (coded× coded_ℕ (coded× coded_ℕ (coded× coded_ℕ (coded× coded_ℕ coded_ℕ))))
    (λ m. (m.version, (m.number, (m.place, (m.len, m.end)))))
    (λ p. record { version = p.0; number = p.1.0; place = p.1.1.0; len = p.1.1.1.0; end = p.1.1.1.1 }) (λ _. refl)

abbrev number_of : Mode → ℕ
number_of Write = 0
number_of Extend = 1
number_of Read = 2

abbrev mode_of : ℕ → Mode
mode_of zero = Write
mode_of (suc zero) = Extend
mode_of (suc (suc n)) = Read

pub mode_of-number_of : (mode : Mode) → mode_of (number_of mode) ≡ mode
mode_of-number_of Write = refl
mode_of-number_of Extend = refl
mode_of-number_of Read = refl

abbrev mode_code : Coded Mode
mode_code = code_by ℕ coded_ℕ number_of mode_of mode_of-number_of

abbrev commit_code : Coded Commit
commit_code =
    code_by (ℕ × (List NamedTable × (List NoteEntry × (Span × ℕ)))) (coded× coded_ℕ (coded× views_code (coded× (coded_list note_code) (coded× span_code coded_ℕ))))
    (λ c. (c.number, (c.views, (c.notes, (c.dir, c.end)))))
    (λ p. record { number = p.0; views = p.1.0; notes = p.1.1.0; dir = p.1.1.1.0; end = p.1.1.1.1 }) (λ _. refl)

abbrev pub stored_code : Coded Stored
stored_code =
    code_by (List NamedTable × (Commit × (Option ℕ × (Option Commit × (ℕ × (Option Mark × (Mode × ℕ)))))))
    (coded× views_code (coded× commit_code (coded× (coded_option coded_ℕ) (coded× (coded_option commit_code) (coded× coded_ℕ (coded× (coded_option mark_code) (coded× mode_code coded_ℕ)))))))
    (λ s. (s.views, (s.kept, (s.before, (s.attempted, (s.slot, (s.other, (s.mode, s.cap))))))))
    (λ p. record { views = p.0; kept = p.1.0; before = p.1.1.0; attempted = p.1.1.1.0; slot = p.1.1.1.1.0; other = p.1.1.1.1.1.0; mode = p.1.1.1.1.1.1.0; cap = p.1.1.1.1.1.1.1 })
    (λ _. refl)
