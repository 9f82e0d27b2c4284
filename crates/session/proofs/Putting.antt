-- A watch is put over what an operation is asked of.
use Rattle.std.proofs.Common.{◌≡◌, ℕ, Bool, true, false, not, cond, ltb, List, [], ◌∷◌, length, Option, Some, None, Result, Ok, Err, IfOk, OnErr, OnOk, ◌≤◌, inl, inr, refl, ap, sym, subst, ◌∙◌}
use Rattle.std.specs.Prelude.{◌⊎◌}
use Rattle.std.specs.Option.{is_some, option_map, option_or, unwrap_or}
use Rattle.cmd_text.specs.declared.refusal.Refusal.{Refusal}
use Rattle.cmd_text.specs.declared.refusal.Refusal.TheVariants.{Exists, Memory, NoName}
use Rattle.cmd_text.specs.Replies.{reply_bytes}
use Rattle.cmd_text.specs.declared.command.Command.TheVariants as commands
use Rattle.cmd_text.specs.declared.reply.Reply.{Reply}
use Rattle.cmd_text.specs.declared.reply.Reply.TheVariants.{Count, Refused}
use Rattle.expr_text.specs.Meanings.{query_of}
use Rattle.expr_text.specs.Queries.{Query}
use Rattle.expr_text.specs.declared.expr.Expr.{Expr}
use Rattle.lines.specs.Lines.{max_line}
use Rattle.viewers.specs.Meanings.{Meaning}
use Rattle.session.specs.Answered.{Answered, IsGiven, reply_of}
use Rattle.session.specs.Saying.{IsOneLine}
use Rattle.session.proofs.Asked.{one_line}
use Rattle.watches.specs.Lines.{watch_due as put_refused}
use Rattle.watches.specs.Refusals.{depth_under, put_due}
use Rattle.watches.specs.Watches.{Followed, rows_under, source_of, watches_of, with_watch}
use Rattle.live.specs.Laws.{shown}
use Rattle.live.specs.Putting.{AnswersPut, as_watch_error, spelled}
use Rattle.live.specs.Watching.{op_due}
use Rattle.live.specs.declared.error.WatchError.{WatchError}
use Rattle.live.specs.declared.error.WatchError.TheVariants as watching
use Rattle.live.specs.declared.op.WatchOp.{WatchOp}
use Rattle.mk_value.specs.Heading.{Attribute}
use Rattle.questions.specs.Operations.{computed_by, operand, operation}
use Rattle.tables.specs.Tables.{StoredTable}
use Rattle.computing.specs.declared.computed.Computation.{Computation}
use Rattle.session.specs.Commands.{Outcome, computed_size, gives, outcome_in, put_over, unless_due, watch_in, watch_size, with_computation}
use Rattle.session.specs.Naming.{computed_due, is_taken, kept_due, refusal_of_watch, table_under, told_of_put, watch_due}
use Rattle.session.specs.Refusals.{AnswersDue, first_of, unless}
use Rattle.session.specs.World.{World}

abbrev no_table : StoredTable
no_table = record { schema = []; rows = []; homes = [] }

-- what is due of a source of this table
abbrev due_over : World → List ℕ → Query → Option StoredTable → Option Refusal
due_over w name q o =
    first_of (unless (is_some o) NoName
    ∷ unless (not (is_taken w name)) Exists
    ∷ option_map refusal_of_watch (put_due (unwrap_or o no_table).schema w.watches (source_of w.watches (operand q)) (operation (unwrap_or o no_table).schema q))
    ∷ [])

pub unknown_due : (w : World) (name : List ℕ) (q : Query) → table_under w (operand q) ≡ None → kept_due w name q ≡ Some NoName
unknown_due w name q none = ap (due_over w name q) none

pub taken_due : (w : World) (name : List ℕ) (q : Query) (t : StoredTable) → table_under w (operand q) ≡ Some t → is_taken w name ≡ true → kept_due w name q ≡ Some Exists
taken_due w name q t found taken =
    ap (due_over w name q) found
    ∙ ap (λ b. first_of (None ∷ unless (not b) Exists ∷ option_map refusal_of_watch (put_due t.schema w.watches (source_of w.watches (operand q)) (operation t.schema q)) ∷ [])) taken

only_one : (x : Option Refusal) → first_of (x ∷ []) ≡ x
only_one None = refl
only_one (Some x) = refl

pub free_due : (w : World) (name : List ℕ) (q : Query) (t : StoredTable) → table_under w (operand q) ≡ Some t → is_taken w name ≡ false
    → kept_due w name q ≡ option_map refusal_of_watch (put_due t.schema w.watches (source_of w.watches (operand q)) (operation t.schema q))
free_due w name q t found free =
    ap (due_over w name q) found
    ∙ ap (λ b. first_of (None ∷ unless (not b) Exists ∷ option_map refusal_of_watch (put_due t.schema w.watches (source_of w.watches (operand q)) (operation t.schema q)) ∷ [])) free
    ∙ only_one (option_map refusal_of_watch (put_due t.schema w.watches (source_of w.watches (operand q)) (operation t.schema q)))

-- the refusal of an operation comes before that of one watch more
op_first : (schema : List Attribute) (op : WatchOp) (depth : ℕ) (full : Bool) (e : WatchError) → option_map as_watch_error (op_due schema op) ≡ Some e → put_refused schema op depth full ≡ Some e
op_first schema op depth true e h = ap (λ o. Some (unwrap_or o watching.TooDeep)) h
op_first schema op depth false e h = ap (λ o. option_or o (cond (ltb 3 depth) (Some watching.TooDeep) None)) h

pub operation_refused : (w : World) (name : List ℕ) (q : Query) (t : StoredTable) (e : WatchError) → table_under w (operand q) ≡ Some t → is_taken w name ≡ false
    → (e ≡ watching.Memory) ⊎ (option_map as_watch_error (op_due t.schema (operation t.schema q)) ≡ Some e) → AnswersDue {T = ℕ} (kept_due w name q) (Err (refusal_of_watch e))
operation_refused w name q t e found free (inl memory) = inr (ap refusal_of_watch memory)
operation_refused w name q t e found free (inr refused) =
    inl (free_due w name q t found free ∙ ap (option_map refusal_of_watch) (op_first t.schema (operation t.schema q) (depth_under w.watches (source_of w.watches (operand q))) _ e refused))

told : (d : Option WatchError) (r : Result ℕ WatchError) → AnswersPut d r → AnswersDue (option_map refusal_of_watch d) (told_of_put r)
told (Some e) (Ok n) h = absurd (let f : ◌≡◌ {A = Result ℕ WatchError} (Ok n) (Err e) = h in cc)
told (Some e) (Err x) h = inl (ap (λ y. Some (refusal_of_watch y)) (let f : ◌≡◌ {A = Result ℕ WatchError} (Err x) (Err e) = h in let g : e ≡ x = cc in g))
told None (Ok n) h = refl
told None (Err x) h = inr (ap refusal_of_watch h)

pub put_answered : (w : World) (name : List ℕ) (q : Query) (t : StoredTable) (op : WatchOp) (r : Result ℕ WatchError) → table_under w (operand q) ≡ Some t → is_taken w name ≡ false → op ≡ operation t.schema q
    → AnswersPut (put_due t.schema w.watches (source_of w.watches (operand q)) op) r → AnswersDue (kept_due w name q) (told_of_put r)
put_answered w name q t op r found free is h =
    subst (λ d. AnswersDue d (told_of_put r)) (sym (free_due w name q t found free))
    (told (put_due t.schema w.watches (source_of w.watches (operand q)) (operation t.schema q)) r (subst (λ o. AnswersPut (put_due t.schema w.watches (source_of w.watches (operand q)) o) r) is h))

-- what was put
abbrev size_of : World → Query → StoredTable → WatchOp → ℕ
size_of w q t op = length (shown t.schema (spelled t.schema op) (rows_under t (watches_of w.watches (source_of w.watches (operand q)).view) (source_of w.watches (operand q)).over))

pub size_is : (w : World) (q : Query) (t : StoredTable) (op : WatchOp) (r : Result ℕ WatchError) → table_under w (operand q) ≡ Some t → op ≡ operation t.schema q → IfOk r (λ size. size ≡ size_of w q t op)
    → IfOk (told_of_put r) (λ size. size ≡ watch_size w q)
size_is w q t op (Ok n) found is h =
    h ∙ ap (size_of w q t) is ∙ sym (ap (λ o. size_of w q (unwrap_or o no_table) (operation (unwrap_or o no_table).schema q)) found)
size_is w q t op (Err e) found is h = tt

pub put_is : (w : World) (name : List ℕ) (q : Query) (t : StoredTable) (op : WatchOp) (r : Result ℕ WatchError) (new : List Followed) → table_under w (operand q) ≡ Some t → op ≡ operation t.schema q
    → OnOk r (new ≡ with_watch w.watches (source_of w.watches (operand q)).view (record { name = name; source = (source_of w.watches (operand q)).over; op = spelled t.schema op; followed = 0 }))
    → OnOk (told_of_put r) (record w { watches = new } ≡ put_over w name q)
put_is w name q t op (Ok n) new found is h =
    let source = source_of w.watches (operand q) in
    ap (λ watches. record w { watches = watches }) (h
    ∙ ap (λ o. with_watch w.watches source.view (record { name = name; source = source.over; op = spelled t.schema o; followed = 0 })) is
    ∙ sym (ap (λ o. with_watch w.watches source.view (record { name = name; source = source.over; op = spelled (unwrap_or o no_table).schema (operation (unwrap_or o no_table).schema q); followed = 0 })) found))
put_is w name q t op (Err e) new found is h = tt

-- what a command that puts a watch is answered
one_line_count : (r : Result ℕ Refusal) (reply : Reply) → reply ≡ reply_of (λ size. Count size) r → IsOneLine reply
one_line_count (Ok n) reply is = subst IsOneLine (sym is) tt
one_line_count (Err x) reply is = subst IsOneLine (sym is) tt

module _ (viewers : List Meaning) (w new : World) (name : List ℕ) (e : Expr) (due : Option Refusal) (size : ℕ) (left : World)
    (is_outcome : outcome_in viewers w (commands.Watch name e) ≡ unless_due due w (gives (reply_bytes (Count size)) left)) where
  answered_by : (r : Result ℕ Refusal) (reply : Reply) → AnswersDue due r → IfOk r (λ n. n ≡ size) → OnOk r (new ≡ left) → OnErr r (new ≡ w) → reply ≡ reply_of (λ n. Count n) r
      → length (reply_bytes reply) ≤ max_line → Answered viewers (commands.Watch name e) w reply new
  answered_by (Ok n) reply due_is size_is ok err is short =
      one_line viewers (commands.Watch name e) w new reply (one_line_count (Ok n) reply is) short
      (inl (subst (λ (o : Outcome). IsGiven o (reply_bytes reply) new)
      (sym (is_outcome ∙ ap (λ d. unless_due d w (gives (reply_bytes (Count size)) left)) due_is))
      (ap reply_bytes is ∙ ap (λ n. reply_bytes (Count n)) size_is, ok)))
  answered_by (Err x) reply (inl due_is) size_is ok err is short =
      one_line viewers (commands.Watch name e) w new reply (one_line_count (Err x) reply is) short
      (inl (subst (λ (o : Outcome). IsGiven o (reply_bytes reply) new)
      (sym (is_outcome ∙ ap (λ d. unless_due d w (gives (reply_bytes (Count size)) left)) due_is))
      (ap reply_bytes is, err)))
  answered_by (Err x) reply (inr memory) size_is ok err is short =
      one_line viewers (commands.Watch name e) w new reply (one_line_count (Err x) reply is) short (inr (is ∙ ap Refused memory, refl, err))

pub watch_answered : (viewers : List Meaning) (w new : World) (name : List ℕ) (e : Expr) (r : Result ℕ Refusal) (reply : Reply) → computed_by (query_of e) ≡ None
    → AnswersDue (watch_due viewers w name (query_of e)) r → IfOk r (λ size. size ≡ watch_size w (query_of e)) → OnOk r (new ≡ put_over w name (query_of e)) → OnErr r (new ≡ w)
    → reply ≡ reply_of (λ size. Count size) r → length (reply_bytes reply) ≤ max_line → Answered viewers (commands.Watch name e) w reply new
watch_answered viewers w new name e r reply none =
    answered_by viewers w new name e (watch_due viewers w name (query_of e)) (watch_size w (query_of e)) (put_over w name (query_of e))
    (ap (λ o. watch_in o viewers w name (query_of e)) none) r reply

pub computed_answered : (viewers : List Meaning) (w new : World) (name : List ℕ) (e : Expr) (shows : Computation) (r : Result ℕ Refusal) (reply : Reply) → computed_by (query_of e) ≡ Some shows
    → AnswersDue (computed_due viewers w name (operand (query_of e)) shows) r → IfOk r (λ size. size ≡ computed_size viewers w (operand (query_of e)) shows)
    → OnOk r (new ≡ with_computation w name (operand (query_of e)) shows) → OnErr r (new ≡ w)
    → reply ≡ reply_of (λ size. Count size) r → length (reply_bytes reply) ≤ max_line → Answered viewers (commands.Watch name e) w reply new
computed_answered viewers w new name e shows r reply some =
    answered_by viewers w new name e (computed_due viewers w name (operand (query_of e)) shows) (computed_size viewers w (operand (query_of e)) shows) (with_computation w name (operand (query_of e)) shows)
    (ap (λ o. watch_in o viewers w name (query_of e)) some) r reply

pub memory_answered : (viewers : List Meaning) (w : World) (name : List ℕ) (e : Expr) (reply : Reply) → reply ≡ Refused Memory → IsOneLine reply → length (reply_bytes reply) ≤ max_line
    → Answered viewers (commands.Watch name e) w reply w
memory_answered viewers w name e reply is line short = one_line viewers (commands.Watch name e) w w reply line short (inr (is, refl, refl))
