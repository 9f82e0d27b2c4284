-- How what is read of the parts of a directory adds up.
use Rattle.std.proofs.Common.{◌≡◌, ℕ, ◌+◌, ◌<◌, ◌≤◌, ◌⊎◌, List, [], ◌∷◌, ◌++◌, length, length-drop, drop, refl, sym, ◌∙◌, ap, subst, arith, take-append-drop}
use Rattle.std.proofs.lemmas.List.{append_assoc, drop-drop}
use Rattle.dir_codec.specs.declared.error.DirError.{DirError}
use Rattle.dir_codec.specs.declared.error.DirError.TheVariants.{At, Memory}
use Rattle.dir_codec.specs.Fields.{Due, field_len, IsField, Goes, stays, takes}
use Rattle.dir_codec.specs.Reads.{bytes_at, Leads, Reads, ComesToFlaw, Flaws}
use Rattle.dir_codec.proofs.Going.{goes_joins}

module _ (number end : ℕ) (bytes : List ℕ) where
  -- bytes from a later place on
  later : (at n : ℕ) → drop n (drop at bytes) ≡ drop (at + n) bytes
  later at n = drop-drop n at bytes

  pub reads_none : (at : ℕ) → at ≤ length bytes → Reads number end [] bytes at at []
  reads_none at within = record { goes = λ more. stays more (drop at bytes); spells = refl; within = within }

  -- one field as required, and then what is due in its place
  pub goes_field : (d : Due) (next more last : List Due) (at : ℕ) (rest : List ℕ) → at + field_len d ≤ length bytes → IsField number end d (bytes_at at (field_len d) bytes) next
      → Goes number end (next ++ more) (drop (at + field_len d) bytes) last rest → Goes number end (d ∷ more) (drop at bytes) last rest
  goes_field d next more last at rest whole is on = takes d more next last (drop at bytes) rest (let l = length-drop at bytes in omega (arith, l, whole)) is
      (subst (λ (l : List ℕ). Goes number end (next ++ more) l last rest) (sym (later at (field_len d))) on)

  pub reads_field : (d : Due) (next : List Due) (at to : ℕ) (spelled : List ℕ) → at + field_len d ≤ length bytes → IsField number end d (bytes_at at (field_len d) bytes) next
      → Reads number end next bytes (at + field_len d) to spelled → Reads number end (d ∷ []) bytes at to (bytes_at at (field_len d) bytes ++ spelled)
  reads_field d next at to spelled whole is reads = record {
    goes = λ more. goes_field d next more more at (drop to bytes) whole is (reads.goes more);
    spells = sym (take-append-drop (field_len d) (drop at bytes)) ∙ ap (λ (l : List ℕ). bytes_at at (field_len d) bytes ++ l) (later at (field_len d) ∙ reads.spells)
        ∙ sym (append_assoc (bytes_at at (field_len d) bytes) spelled (drop to bytes));
    within = reads.within;
  }

  pub flaws_field : (d : Due) (next : List Due) (at : ℕ) (e : DirError) → at + field_len d ≤ length bytes → IsField number end d (bytes_at at (field_len d) bytes) next
      → Flaws number end next bytes (at + field_len d) e → Flaws number end (d ∷ []) bytes at e
  flaws_field d next at Memory whole is flaws = tt
  flaws_field d next at (At place) whole is flaws = λ more. let there = flaws more in record {
    left = there.left;
    goes = goes_field d next more there.left at (drop place bytes) whole is there.goes;
    within = there.within;
    flawed = there.flawed;
  }

  -- the field is short, or not as required
  pub flaws_here : (d : Due) (at : ℕ) → at ≤ length bytes → (length (drop at bytes) < field_len d) ⊎ ((next : List Due) → IsField number end d (bytes_at at (field_len d) bytes) next → ⊥)
      → Flaws number end (d ∷ []) bytes at (At at)
  flaws_here d at within wrong = λ more. record { left = d ∷ more; goes = stays (d ∷ more) (drop at bytes); within = within; flawed = wrong }

  pub reads_joins : (one two : List Due) (at mid to : ℕ) (s t : List ℕ) → Reads number end one bytes at mid s → Reads number end two bytes mid to t → Reads number end (one ++ two) bytes at to (s ++ t)
  reads_joins one two at mid to s t first then = record {
    goes = λ more. subst (λ (l : List Due). Goes number end l (drop at bytes) more (drop to bytes)) (sym (append_assoc one two more)) (goes_joins (first.goes (two ++ more)) (then.goes more));
    spells = first.spells ∙ ap (λ (l : List ℕ). s ++ l) then.spells ∙ sym (append_assoc s t (drop to bytes));
    within = then.within;
  }

  pub flaws_first : (one two : List Due) (at : ℕ) (e : DirError) → Flaws number end one bytes at e → Flaws number end (one ++ two) bytes at e
  flaws_first one two at Memory flaws = tt
  flaws_first one two at (At place) flaws = λ more. subst (λ (l : List Due). ComesToFlaw number end l bytes at place) (sym (append_assoc one two more)) (flaws (two ++ more))

  pub flaws_then : (one two : List Due) (at mid : ℕ) (s : List ℕ) (e : DirError) → Reads number end one bytes at mid s → Flaws number end two bytes mid e → Flaws number end (one ++ two) bytes at e
  flaws_then one two at mid s Memory first flaws = tt
  flaws_then one two at mid s (At place) first flaws = λ more. let there = flaws more in record {
    left = there.left;
    goes = subst (λ (l : List Due). Goes number end l (drop at bytes) there.left (drop place bytes)) (sym (append_assoc one two more)) (goes_joins (first.goes (two ++ more)) there.goes);
    within = there.within;
    flawed = there.flawed;
  }

  -- one field as required leads to what is due in its place
  pub leads_field : (d : Due) (next : List Due) (at : ℕ) → at + field_len d ≤ length bytes → IsField number end d (bytes_at at (field_len d) bytes) next
      → Leads number end (d ∷ []) bytes at next (at + field_len d) (bytes_at at (field_len d) bytes)
  leads_field d next at whole is = record {
    goes = λ more. goes_field d next more (next ++ more) at (drop (at + field_len d) bytes) whole is (stays (next ++ more) (drop (at + field_len d) bytes));
    spells = sym (take-append-drop (field_len d) (drop at bytes)) ∙ ap (λ (l : List ℕ). bytes_at at (field_len d) bytes ++ l) (later at (field_len d));
    within = whole;
  }

  pub leads_none : (due : List Due) (at : ℕ) → at ≤ length bytes → Leads number end due bytes at due at []
  leads_none due at within = record { goes = λ more. stays (due ++ more) (drop at bytes); spells = refl; within = within }

  pub leads_joins : (one left rest : List Due) (at mid to : ℕ) (s t : List ℕ) → Leads number end one bytes at left mid s → Leads number end left bytes mid rest to t → Leads number end one bytes at rest to (s ++ t)
  leads_joins one left rest at mid to s t first then = record {
    goes = λ more. goes_joins (first.goes more) (then.goes more);
    spells = first.spells ∙ ap (λ (l : List ℕ). s ++ l) then.spells ∙ sym (append_assoc s t (drop to bytes));
    within = then.within;
  }

  -- the same with more due behind
  pub leads_more : (one left due : List Due) (at to : ℕ) (s : List ℕ) → Leads number end one bytes at left to s → Leads number end (one ++ due) bytes at (left ++ due) to s
  leads_more one left due at to s leads = record {
    goes = λ more. subst (λ (l : List Due). Goes number end l (drop at bytes) ((left ++ due) ++ more) (drop to bytes)) (sym (append_assoc one due more))
        (subst (λ (l : List Due). Goes number end (one ++ (due ++ more)) (drop at bytes) l (drop to bytes)) (sym (append_assoc left due more)) (leads.goes (due ++ more)));
    spells = leads.spells;
    within = leads.within;
  }

  pub flaws_leads : (one left : List Due) (at mid : ℕ) (s : List ℕ) (e : DirError) → Leads number end one bytes at left mid s → Flaws number end left bytes mid e → Flaws number end one bytes at e
  flaws_leads one left at mid s Memory first flaws = tt
  flaws_leads one left at mid s (At place) first flaws = λ more. let there = flaws more in record {
    left = there.left;
    goes = goes_joins (first.goes more) there.goes;
    within = there.within;
    flawed = there.flawed;
  }
