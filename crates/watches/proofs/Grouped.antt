-- The watches of one view: what is asked of one by its name, and what is done to all.
use Rattle.std.proofs.Common.{◌≡◌, ◌≢◌, ℕ, ◌<◌, true, false, cond, List, [], ◌∷◌, ◌++◌, length, get_or, Option, Some, None, refl, ap, sym, subst, ◌∙◌, arith}
use Rattle.std.specs.List.{All, list_any, remove}
use Rattle.std.proofs.lemmas.List.{get_or_default, get_or_push, length-map, length_push, map-id}
use Rattle.std.proofs.lemmas.List.Edits.{length-remove}
use Rattle.std.proofs.lemmas.List.Folds.{list_any_at}
use Rattle.std.proofs.lemmas.List.Sums.{passes_at_first}
use Rattle.mk_value.specs.Data.{Datum}
use Rattle.mk_value.specs.Heading.{Attribute}
use Rattle.mk_value.specs.Names.{same_bytes}
use Rattle.tables.specs.Tables.{StoredTable}
use Rattle.live.specs.Chains.{AreNow, AreSame, place_in_root, seen}
use Rattle.live.specs.Numbers.{place_of as place_numbered}
use Rattle.live.specs.Putting.{closed_source, spelled, without_watch}
use Rattle.live.specs.States.{WatchState}
use Rattle.live.specs.declared.op.WatchOp.{WatchOp}
use Rattle.live.specs.declared.op.WatchOp.TheVariants.{Sort}
use Rattle.live.specs.declared.answer.Answer.TheVariants.{Nothing}
use Rattle.live.specs.declared.turn.Turn.TheVariants.{Still}
use Rattle.live.proofs.Leading.{row_stands}
use Rattle.live.proofs.Seeing.{seen_size}
use Rattle.live.proofs.Standing.{now_same}
use Rattle.row_edits.specs.declared.edit.RowEdit.{RowEdit}
use Rattle.watches.specs.Lines.{AreReady, HaveFollowed}
use Rattle.watches.specs.Groups.{AreNamed, AreNumbered, Follows, Forgets, IsPutBehind, IsPutOver, Notes, Stays, is_source}
use Rattle.watches.specs.Keeping.{IsKeptOver, Kept, StandsAt, followed_of, shown_by}
use Rattle.watches.specs.Watches.{Shown, is_among, place_of, raised, shown_at, stands_over}
use Rattle.watches.proofs.Finding.{first_within}
use Rattle.watches.proofs.Naming.{among_names, beside, place_names, shown_followed, shown_length, shown_names, shown_push, shown_source}
use Rattle.watches.proofs.Numbering.{number_place, numbered_left}
use Rattle.watches.proofs.Showing.{seen_at_place}

-- any watch
abbrev pub any_watch : WatchState
any_watch = record { number = 0; source = None; op = Sort []; kept = []; room = 0; going = None; turn = Still; answer = Nothing; followed = 0 }

abbrev pub IsNamed : Kept → Type 0
IsNamed k = AreNamed k.names k.watching.watches

-- the place of a name among its watches
abbrev pub name_place : Kept → List ℕ → ℕ
name_place k name = place_of (followed_of k).watches name

pub number_found : (k : Kept) (name : List ℕ) (at n : ℕ) (watches : List WatchState) → IsNamed k → watches ≡ k.watching.watches → at ≡ name_place k name → at < length k.names
    → ((d : WatchState) → n ≡ (get_or watches at d).number)
    → (place_numbered k.watching.watches n ≡ name_place k name) × (place_numbered k.watching.watches n < length k.watching.watches)
number_found k name at n watches named same place within number =
    let paired = named.paired in
    let is : n ≡ (get_or k.watching.watches at any_watch).number = number any_watch ∙ ap (λ ws. (get_or ws at any_watch).number) same in
    let found : place_numbered k.watching.watches n ≡ at = ap (place_numbered k.watching.watches) is ∙ number_place k.watching.watches at any_watch named.numbered (omega arith) in
    (found ∙ place, omega arith)

-- the rows of the watch of a name
pub rows_at_name : (k : Kept) (name : List ℕ) (t : StoredTable) → IsNamed k → IsKeptOver t.schema t.rows k
    → (shown_at (followed_of k).watches (name_place k name) t).rows ≡ seen t.rows k.watching.watches (Some (name_place k name))
rows_at_name k name t named kept = seen_at_place t.schema t.rows k.names k.watching.watches named.paired kept.now (Some (name_place k name))

pub size_at_name : (k : Kept) (name : List ℕ) (t : StoredTable) (d : WatchState) → IsNamed k → IsKeptOver t.schema t.rows k → name_place k name < length k.watching.watches
    → length (get_or k.watching.watches (name_place k name) d).kept ≡ length (shown_at (followed_of k).watches (name_place k name) t).rows
size_at_name k name t d named kept p =
    let one = ap length (rows_at_name k name t named kept) in
    let two = seen_size t.rows k.watching.watches (Some (name_place k name)) kept.now.sources (name_place k name) d refl p in
    omega arith

pub row_at_name : (k : Kept) (name : List ℕ) (t : StoredTable) (row : ℕ) → IsNamed k → IsKeptOver t.schema t.rows k → name_place k name < length k.watching.watches
    → row < length (shown_at (followed_of k).watches (name_place k name) t).rows
    → StandsAt t.rows (place_in_root k.watching.watches (Some (name_place k name)) row) (Some (shown_at (followed_of k).watches (name_place k name) t)) row
row_at_name k name t row named kept p q =
    let size = size_at_name k name t any_watch named kept p in
    let stands = row_stands t.schema t.rows k.watching.watches (name_place k name) any_watch row kept.now p (omega arith) in
    record {
      shown = shown_at (followed_of k).watches (name_place k name) t;
      is = refl;
      there = stands.0;
      same = stands.1 ∙ ap (λ rows. get_or rows row []) (sym (rows_at_name k name t named kept));
    }

-- watches that are the same show the same
same_followed : (old new : List WatchState) → AreSame old new → HaveFollowed 0 old new
same_followed old new h = record {
  long = h.long;
  each = λ k d p. let one = h.each k d p in record { number = one.number; source = one.source; op = one.op; followed = one.followed };
}

shown_same : (old new : Kept) → new.view ≡ old.view → new.names ≡ old.names → AreSame old.watching.watches new.watching.watches → followed_of new ≡ followed_of old
shown_same old new view names same =
    ap (λ v. record { view = v; watches = shown_by new.names new.watching.watches }) view
    ∙ ap (λ ns. record { view = old.view; watches = shown_by ns new.watching.watches }) names
    ∙ ap (λ ws. record { view = old.view; watches = ws })
    (shown_followed 0 old.names old.watching.watches new.watching.watches (same_followed old.watching.watches new.watching.watches same) ∙ map-id (shown_by old.names old.watching.watches))

pub stays_same : (old new : Kept) → new.view ≡ old.view → new.names ≡ old.names → AreSame old.watching.watches new.watching.watches → new.watching.noted ≡ old.watching.noted
    → ((schema : List Attribute) (rows : List (List Datum)) → AreNow schema rows old.watching.watches → AreNow schema rows new.watching.watches) → Stays old new
stays_same old new view names same noted now = record {
  same = shown_same old new view names same;
  kept = λ schema rows h. record { now = now schema rows h.now; noted = noted ∙ h.noted };
}

pub notes_edit : (view : List ℕ) (schema : List Attribute) (rows : List (List Datum)) (edit : RowEdit) (old new : Kept) → same_bytes old.view view ≡ true → new.view ≡ old.view → new.names ≡ old.names
    → AreSame old.watching.watches new.watching.watches → AreReady schema rows edit new.watching → Notes view schema rows edit old new
notes_edit view schema rows edit old new is at names same ready = record {
  same = shown_same old new at names same;
  now = λ s rs h. now_same s rs old.watching.watches new.watching.watches same h;
  noted = λ _. ready;
  others = λ e. absurd (let f : true ≡ false = sym is ∙ e in cc);
}

pub forgets_edit : (view : List ℕ) (old new : Kept) → same_bytes old.view view ≡ true → new.view ≡ old.view → new.names ≡ old.names → AreSame old.watching.watches new.watching.watches → new.watching.noted ≡ None → Forgets view old new
forgets_edit view old new is at names same none = record {
  same = shown_same old new at names same;
  now = λ s rs h. now_same s rs old.watching.watches new.watching.watches same h;
  waits = λ _. none;
  others = λ e. absurd (let f : true ≡ false = sym is ∙ e in cc);
}

pub follows_line : (view : List ℕ) (n : ℕ) (schema : List Attribute) (rows : List (List Datum)) (old new : Kept) → same_bytes old.view view ≡ true → new.view ≡ old.view → new.names ≡ old.names
    → HaveFollowed n old.watching.watches new.watching.watches → IsKeptOver schema rows new → Follows view n schema rows old new
follows_line view n schema rows old new is same names followed kept = record {
  followed =
      ap (λ v. record { view = v; watches = shown_by new.names new.watching.watches }) same
      ∙ ap (λ ns. record { view = old.view; watches = shown_by ns new.watching.watches }) names
      ∙ ap (λ ws. record { view = old.view; watches = ws }) (shown_followed n old.names old.watching.watches new.watching.watches followed)
      ∙ ap (λ b. cond b (raised n (followed_of old)) (followed_of old)) (sym is);
  kept = λ _. kept;
  others = λ e. absurd (let f : true ≡ false = sym is ∙ e in cc);
}

-- whether the source of a watch has a name
stands_is : (names : List (List ℕ)) (watches : List WatchState) (name : List ℕ) (source : Option ℕ) → length names ≡ length watches → stands_over (shown_by names watches) name source ≡ is_source names name source
stands_is names watches name None e = refl
stands_is names watches name (Some k) e = ap (λ ns. same_bytes (get_or ns k []) name) (shown_names names watches e)

pub stands_at : (names : List (List ℕ)) (watches : List WatchState) (name : List ℕ) (i : ℕ) (source : Option ℕ) → length names ≡ length watches → i < length names
    → ((d : WatchState) → source ≡ (get_or watches i d).source)
    → stands_over (shown_by names watches) name (get_or (shown_by names watches) i (beside [] any_watch)).source ≡ is_source names name source
stands_at names watches name i source e p is =
    ap (λ (s : Shown). stands_over (shown_by names watches) name s.source) (shown_source names watches i (beside [] any_watch) any_watch e p)
    ∙ ap (stands_over (shown_by names watches) name) (sym (is any_watch)) ∙ stands_is names watches name source e

-- a watch put behind the others of a view
pub put_over : (schema : List Attribute) (rows : List (List Datum)) (old new : Kept) (name : List ℕ) (over : Option ℕ) (op : WatchOp) (size : ℕ) → length old.names ≡ length old.watching.watches
    → IsPutBehind schema rows old.names old.watching.watches name over op new.names new.watching size → IsPutOver schema rows (followed_of old).watches name over op new size
put_over schema rows old new name over op size paired put =
    let w = put.watch in
    let ws = old.watching.watches in
    let pushed : shown_by new.names new.watching.watches ≡ shown_by old.names ws ++ record { name = name; source = over; op = spelled schema op; followed = 0 } ∷ [] =
    ap (λ ns. shown_by ns new.watching.watches) put.named ∙ ap (shown_by (old.names ++ name ∷ [])) put.last ∙ shown_push old.names ws name w paired
    ∙ ap (λ s. shown_by old.names ws ++ record { name = name; source = s; op = w.op; followed = w.followed } ∷ []) put.source
    ∙ ap (λ o. shown_by old.names ws ++ record { name = name; source = over; op = o; followed = w.followed } ∷ []) put.asked
    ∙ ap (λ n. shown_by old.names ws ++ record { name = name; source = over; op = spelled schema op; followed = n } ∷ []) put.fresh in
    let at = length (shown_by old.names ws) in
    let long = shown_length old.names ws paired in
    let names_long = length_push old.names name in
    let new_long = length_push ws w in
    let names_is = ap length put.named in
    let new_is = ap length put.last in
    let both : length new.names ≡ length new.watching.watches = omega arith in
    let there : at < length new.watching.watches = omega arith in
    let here : get_or new.watching.watches at w ≡ w = ap (λ vs. get_or vs at w) put.last ∙ get_or_push ws w w at (omega arith) in
    let shows = seen_at_place schema rows new.names new.watching.watches both put.now (Some at) in
    let seen_long = seen_size rows new.watching.watches (Some at) put.now.sources at w refl there in
    record {
      watches = pushed;
      kept = record { now = put.now; noted = put.noted };
      long = ap length shows ∙ seen_long ∙ ap (λ (v : WatchState). length v.kept) here ∙ put.long;
    }

-- the watch of a name is taken out
pub taken_named : (names : List (List ℕ)) (watches new : List WatchState) (j : ℕ) → AreNamed names watches → j < length names → 1 < length names → new ≡ without_watch j watches → AreNamed (remove names j) new
taken_named names watches new j named p more e =
    let paired = named.paired in
    let one = length-remove names j p in
    let q : j < length watches = omega arith in
    let two = length-remove watches j q in
    let three = length-map (remove watches j) (closed_source j) in
    let four = ap length e in
    record { paired = omega arith; some = omega arith; numbered = subst AreNumbered (sym e) (numbered_left watches j named.numbered q) }

-- no watch stands over the one of a name
pub none_over : (names : List (List ℕ)) (watches : List WatchState) (name : List ℕ) (j : ℕ) → length names ≡ length watches → same_bytes (get_or names j []) name ≡ true
    → list_any (λ (s : Shown). stands_over (shown_by names watches) name s.source) (shown_by names watches) ≡ false → All (λ (w : WatchState). w.source ≢ Some j) watches
none_over names watches name j paired here free k d p e =
    let all = shown_by names watches in
    let long = shown_length names watches paired in
    let source : (x : WatchState) → Some j ≡ (get_or watches k x).source = λ x. sym e ∙ ap (λ (w : WatchState). w.source) (get_or_default watches k d x p) in
    let over : stands_over all name (get_or all k (beside [] any_watch)).source ≡ true = stands_at names watches name k (Some j) paired (omega arith) source ∙ here in
    let some = list_any_at (λ (s : Shown). stands_over all name s.source) all k (beside [] any_watch) (omega arith) over in
    let clash : true ≡ false = sym some ∙ free in
    cc

pub put_first : (schema : List Attribute) (rows : List (List Datum)) (names : List (List ℕ)) (watches : List WatchState) (new : Kept) (name : List ℕ) (op : WatchOp) (size : ℕ) → names ≡ [] → watches ≡ []
    → IsPutBehind schema rows names watches name None op new.names new.watching size → IsPutOver schema rows [] name None op new size
put_first schema rows names watches new name op size e f put =
    let none : Kept = record { view = []; names = []; watching = record { watches = []; noted = None } } in
    put_over schema rows none new name None op size refl
    (subst (λ ns. IsPutBehind schema rows ns [] name None op new.names new.watching size) e
    (subst (λ ws. IsPutBehind schema rows names ws name None op new.names new.watching size) f put))

pub none_over_name : (k : Kept) (name : List ℕ) → IsNamed k → is_among (followed_of k).watches name ≡ true
    → list_any (λ (s : Shown). stands_over (followed_of k).watches name s.source) (followed_of k).watches ≡ false → All (λ (w : WatchState). w.source ≢ Some (name_place k name)) k.watching.watches
none_over_name k name named there free =
    let test = λ (known : List ℕ). same_bytes known name in
    let place = place_names k.names k.watching.watches name named.paired in
    let some : list_any test k.names ≡ true = sym (among_names k.names k.watching.watches name named.paired) ∙ there in
    let here = passes_at_first test k.names [] (first_within test k.names some) in
    none_over k.names k.watching.watches name (name_place k name) named.paired (ap (λ i. same_bytes (get_or k.names i []) name) place ∙ here) free
