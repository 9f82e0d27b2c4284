-- The refusals of `watch` by what it is asked of.
use Rattle.std.proofs.Common.{◌≡◌, ℕ, Bool, true, false, not, cond, ltb, List, [], ◌∷◌, Option, Some, None, inl, inr, refl, ap, sym, ◌∙◌}
use Rattle.std.specs.Prelude.{◌⊎◌}
use Rattle.std.specs.Option.{unwrap_or}
use Rattle.cmd_text.specs.declared.refusal.Refusal.{Refusal}
use Rattle.cmd_text.specs.declared.refusal.Refusal.TheVariants.{Exists, Memory}
use Rattle.expr_text.specs.Queries.{Query}
use Rattle.watches.specs.Lines.{refusal_of}
use Rattle.watches.specs.Keeping.{max_watches}
use Rattle.live.specs.declared.error.WatchError.{WatchError}
use Rattle.live.specs.declared.error.WatchError.TheVariants as watching
use Rattle.questions.specs.Operations.{operand, operation}
use Rattle.tables.specs.Tables.{StoredTable}
use Rattle.viewers.specs.Meanings.{Meaning}
use Rattle.session.specs.Naming.{asked_table, full_due, is_taken, kept_due, over_computed_due, refusal_of_watch, table_under, total, view_under, watch_due, watch_over_due, watched_op}
use Rattle.session.specs.Refusals.{first_of, unless}
use Rattle.session.specs.World.{World}

-- over a table, with a name that is free
full_over : (w : World) (name : List ℕ) (q : Query) (t : StoredTable) → table_under w (operand q) ≡ Some t → is_taken w name ≡ false
    → full_due w name q ≡ Some (refusal_of_watch (refusal_of t.schema (operation t.schema q)))
full_over w name q t found free =
    ap (λ b. first_of (unless (not b) Exists ∷ Some (refusal_of_watch (refusal_of (view_under w (operand q)).schema (watched_op w q))) ∷ [])) free
    ∙ ap (λ o. over (unwrap_or o (record { schema = []; rows = []; homes = [] }))) found
  where
    over : StoredTable → Option Refusal
    over u = Some (refusal_of_watch (refusal_of u.schema (operation u.schema q)))

pub full_answered : (w : World) (name : List ℕ) (q : Query) (t : StoredTable) (e : WatchError) (r : Refusal) → table_under w (operand q) ≡ Some t → is_taken w name ≡ false
    → (e ≡ watching.Memory) ⊎ (e ≡ refusal_of t.schema (operation t.schema q)) → r ≡ refusal_of_watch e → (r ≡ Memory) ⊎ (full_due w name q ≡ Some r)
full_answered w name q t e r found free (inl memory) is = inl (is ∙ ap refusal_of_watch memory)
full_answered w name q t e r found free (inr due) is = inr (full_over w name q t found free ∙ ap (λ x. Some (refusal_of_watch x)) (sym due) ∙ ap Some (sym is))

not_true : (b : Bool) → not b ≡ true → b ≡ false
not_true true h = sym h
not_true false h = refl

not_false : (b : Bool) → not b ≡ false → b ≡ true
not_false true h = refl
not_false false h = sym h

module _ (viewers : List Meaning) (w : World) (name : List ℕ) (q : Query) where
  -- over no table of a view
  pub over_answered : (r : Refusal) → table_under w (operand q) ≡ None → (r ≡ Memory) ⊎ (over_computed_due (asked_table viewers w (operand q)) w name q ≡ Some r)
      → (watch_due viewers w name q ≡ Some r) ⊎ (r ≡ Memory)
  over_answered r none (inl memory) = inr memory
  over_answered r none (inr due) = inl (ap (λ o. watch_over_due o viewers w name q) none ∙ due)

  by_room : (t : StoredTable) (room : Bool) → table_under w (operand q) ≡ Some t → ltb (total w) max_watches ≡ room → watch_due viewers w name q ≡ cond room (kept_due w name q) (full_due w name q)
  by_room t room found is = ap (λ o. watch_over_due o viewers w name q) found ∙ ap (λ b. cond b (kept_due w name q) (full_due w name q)) is

  -- where it would be one too many, and where it would not
  pub full_told : (t : StoredTable) (r : Refusal) → table_under w (operand q) ≡ Some t → not (ltb (total w) max_watches) ≡ true → (r ≡ Memory) ⊎ (full_due w name q ≡ Some r)
      → (watch_due viewers w name q ≡ Some r) ⊎ (r ≡ Memory)
  full_told t r found full (inl memory) = inr memory
  full_told t r found full (inr due) = inl (by_room t false found (not_true (ltb (total w) max_watches) full) ∙ due)

  pub due_kept : (t : StoredTable) → table_under w (operand q) ≡ Some t → not (ltb (total w) max_watches) ≡ false → kept_due w name q ≡ watch_due viewers w name q
  due_kept t found room = sym (by_room t true found (not_false (ltb (total w) max_watches) room))
