-- A stream under way: that it may go on, that it is refused, that it is cut off, and that it is whole.
use Rattle.std.proofs.Common.{◌≡◌, ◌≢◌, ℕ, zero, suc, ◌+◌, ◌-◌, ◌<◌, ⊎_elim, List, [], ◌∷◌, ◌++◌, length, take, drop, All, refl, sym, ◌∙◌, ap, subst, arith, length-append, length-drop, take-append-drop, add-zero, Option, Some, None}
use Rattle.std.proofs.lemmas.List.{append-nil, append_assoc, take_all}
use Rattle.stream_codec.specs.declared.error.LoadError.{LoadError}
use Rattle.stream_codec.specs.declared.error.LoadError.TheVariants.{At, Memory}
use Rattle.stream_codec.specs.declared.progress.Progress.{Progress}
use Rattle.stream_codec.specs.declared.stage.Stage.{Stage}
use Rattle.stream_codec.specs.declared.stage.Stage.TheVariants.{Opening, ViewCount, Views, Structure, RowCount, Rows}
use Rattle.stream_codec.specs.Feeding.{Loads}
use Rattle.stream_codec.specs.Fields.{all_due, Due, Goes, IsCutOffAt, IsRefusedFor, IsShort, IsWrong, IsWrongAt, MayGoOn, views_due}
use Rattle.stream_codec.specs.Loading.{came, due_after, IsOnWay, IsUnderWay, Reaches, ReachesAlong}
use Rattle.stream_codec.specs.Progress.{TableProgress}
use Rattle.stream_codec.specs.Progressing.{LeadsToEnd, RefusesAlong}
use Rattle.stream_codec.specs.Stages.{due_in, IsLoading, IsNextLen, IsStage, names_before, spelled_before, spelled_in}
use Rattle.stream_codec.specs.Steps.{Leads, MayWait, Refuses}
use Rattle.stream_codec.specs.Stream.{IsStream, spelled}
use Rattle.stream_codec.specs.ViewProgress.{due_around, due_at}
use Rattle.std.proofs.lemmas.List.Elements.{All-nil}
use Rattle.tables.specs.Tables.{HasNoHomes}
use Rattle.view_store.specs.Views.{AreViews, NamedTable}
use Rattle.stream_codec.proofs.Going.{goes_joins, IsStuck, one_end, short_stuck, stuck_end, wrong_stuck}
use Rattle.stream_codec.proofs.Steps.{leads_joins, leads_none, wrong_before_bytes}
use Rattle.stream_codec.proofs.UnderWay.{due_next}

-- what stands behind what came
drop_came : (p : Progress) (bytes : List ℕ) (count : ℕ) → p.place ≡ length (came p) → drop (p.place + count) (came p ++ bytes) ≡ drop count bytes
drop_came p bytes count place =
    ap (λ (k : ℕ). drop (k + count) (came p ++ bytes)) place ∙ past (came p)
  where
    past : (xs : List ℕ) → drop (length xs + count) (xs ++ bytes) ≡ drop count bytes
    past [] = ap (λ (k : ℕ). drop k bytes) (let e : 0 + count ≡ count = omega arith in e)
    past (x ∷ xs) = ap (λ (k : ℕ). drop k (x ∷ (xs ++ bytes))) (let e : length (x ∷ xs) + count ≡ suc (length xs + count) = omega arith in e) ∙ past xs

-- ---- where more may come

waits_stuck : (due : List Due) (bytes : List ℕ) → MayWait due bytes → IsStuck due bytes
waits_stuck [] bytes waits = stuck_end bytes
waits_stuck (d ∷ due) bytes waits = short_stuck (d ∷ due) bytes waits

waits_not_wrong : (due : List Due) (bytes : List ℕ) → MayWait due bytes → IsWrong due bytes → ⊥
waits_not_wrong [] bytes waits wrong = wrong waits
waits_not_wrong (d ∷ due) bytes waits wrong = let held = wrong.0 in omega (arith, waits, held)

pub may_go_on : (p : Progress) (waiting : List ℕ) → IsUnderWay p waiting → MayGoOn (came p ++ waiting)
may_go_on p waiting is = λ place wrong.
    let bytes = came p ++ waiting in
    let ends = one_end (is.on_way.leads.goes waiting) wrong.before (waits_stuck (due_after p) waiting is.waits) (wrong_stuck wrong.due (drop place bytes) wrong.there) in
    waits_not_wrong wrong.due (drop place bytes)
    (subst (λ (b : List ℕ). MayWait wrong.due b) ends.1 (subst (λ (l : List Due). MayWait l waiting) ends.0 is.waits)) wrong.there

-- ---- what is refused

pub refused_for : (p : Progress) (bytes : List ℕ) (e : LoadError) → IsOnWay p → Refuses (due_after p) bytes p.place e → IsRefusedFor (came p ++ bytes) e
refused_for p bytes Memory is refused = tt
refused_for p bytes (At wrong) is refused =
    let count = refused.0 in
    let there = refused.2 in
    let long = length-append (came p) bytes in
    let within = there.within in
    let place = is.place in
    let at = refused.1 in
    let left : drop wrong (came p ++ bytes) ≡ drop count bytes = ap (λ (k : ℕ). drop k (came p ++ bytes)) at ∙ drop_came p bytes count place in
    let goes : Goes (due_after p) bytes (there.field ∷ there.left) (drop count bytes) =
    subst (λ (l : List ℕ). Goes (due_after p) l (there.field ∷ there.left) (drop count bytes)) (append-nil bytes)
    (subst (λ (l : List ℕ). Goes (due_after p) (bytes ++ []) (there.field ∷ there.left) l) (append-nil (drop count bytes)) (there.goes [])) in
    record {
      due = there.field ∷ there.left;
      before = subst (λ (l : List ℕ). Goes all_due (came p ++ bytes) (there.field ∷ there.left) l) (sym left) (goes_joins (is.leads.goes bytes) goes);
      within = omega (arith, long, within, place, at);
      there = subst (λ (l : List ℕ). IsWrong (there.field ∷ there.left) l) (append-nil (drop count bytes) ∙ sym left) (there.wrong []);
    }

some_left : (bytes : List ℕ) (count : ℕ) → count < length bytes → drop count bytes ≢ []
some_left bytes count within none = let long = length-drop count bytes in let empty = ap length none in omega (arith, long, empty, within)

pub byte_refused : (p : Progress) (bytes : List ℕ) (wrong count : ℕ) → IsOnWay p → wrong ≡ p.place + count → LeadsToEnd (due_after p) bytes count → IsWrongAt (came p ++ bytes) wrong
byte_refused p bytes wrong count is at there =
    let long = length-append (came p) bytes in
    let within = there.within in
    let place = is.place in
    let left : drop wrong (came p ++ bytes) ≡ drop count bytes = ap (λ (k : ℕ). drop k (came p ++ bytes)) at ∙ drop_came p bytes count place in
    let goes : Goes (due_after p) bytes [] (drop count bytes) =
    subst (λ (l : List ℕ). Goes (due_after p) l [] (drop count bytes)) (take-append-drop count bytes) (there.leads.goes (drop count bytes)) in
    record {
      due = [];
      before = subst (λ (l : List ℕ). Goes all_due (came p ++ bytes) [] l) (sym left) (goes_joins (is.leads.goes bytes) goes);
      within = omega (arith, long, within, place, at);
      there = subst (λ (l : List ℕ). l ≢ []) (sym left) (some_left bytes count within);
    }

pub refused_along_for : (p : Progress) (bytes : List ℕ) (e : LoadError) → IsOnWay p → RefusesAlong (due_after p) bytes p.place e → IsRefusedFor (came p ++ bytes) e
refused_along_for p bytes Memory is refused = tt
refused_along_for p bytes (At wrong) is refused =
    ⊎_elim (λ field. refused_for p bytes (At wrong) is field) (λ (byte : (count : ℕ) × (wrong ≡ p.place + count) × LeadsToEnd (due_after p) bytes count). byte_refused p bytes wrong byte.0 is byte.1 byte.2) refused

pub refused_more : (due : List Due) (bytes more : List ℕ) (place : ℕ) (e : LoadError) → Refuses due bytes place e → Refuses due (bytes ++ more) place e
refused_more due bytes more place Memory refused = tt
refused_more due bytes more place (At wrong) refused = (refused.0, refused.1, wrong_before_bytes due bytes more refused.0 refused.2)

-- ---- what was taken

pub on_way_further : (p q : Progress) (bytes : List ℕ) → IsOnWay p → Reaches p bytes q → IsOnWay q
on_way_further p q bytes is reached =
    let long = length-append (came p) bytes in
    let place = is.place in
    let further = reached.place in
    let same = ap length reached.spells in
    record {
      whole = reached.whole;
      leads = subst (λ (l : List ℕ). Leads all_due l (due_after q)) (sym reached.spells) (leads_joins all_due (due_after p) (due_after q) (came p) bytes is.leads reached.leads);
      place = omega (arith, long, place, further, same);
    }

pub loads_along : (p q : Progress) (piece waiting : List ℕ) (count : ℕ) → IsOnWay p → ReachesAlong p piece q count → waiting ≡ drop count piece → Loads (came p ++ piece) q waiting
loads_along p q piece waiting count is reached same = record {
  under_way = record {
    on_way = on_way_further p q (take count piece) is reached.reaches;
    waits = subst (λ (l : List ℕ). MayWait (due_after q) l) (sym same) reached.waits;
  };
  spells = ap (λ (l : List ℕ). came q ++ l) same ∙ ap (λ (l : List ℕ). l ++ drop count piece) reached.reaches.spells ∙ append_assoc (came p) (take count piece) (drop count piece)
      ∙ ap (λ (l : List ℕ). came p ++ l) (take-append-drop count piece);
}

-- ---- the end

pub cut_off : (p : Progress) (waiting : List ℕ) → IsUnderWay p waiting → (due_after p ≡ [] → ⊥) → IsCutOffAt (came p ++ waiting) p.place
cut_off p waiting is some =
    let place = is.on_way.place in
    let long = length-append (came p) waiting in
    let left : drop p.place (came p ++ waiting) ≡ waiting =
    ap (λ (k : ℕ). drop k (came p ++ waiting)) (sym (add-zero p.place)) ∙ drop_came p waiting 0 place in
    record {
      due = due_after p;
      before = subst (λ (l : List ℕ). Goes all_due (came p ++ waiting) (due_after p) l) (sym left) (is.on_way.leads.goes waiting);
      within = omega (arith, place, long);
      there = subst (λ (l : List ℕ). IsShort (due_after p) l) (sym left) (short (due_after p) is.waits some);
    }
  where
    short : (due : List Due) → MayWait due waiting → (due ≡ [] → ⊥) → IsShort due waiting
    short [] waits some = absurd (some refl)
    short (d ∷ due) waits some = waits

some_due_at : (o : Option ℕ) (t : TableProgress) (around due : List Due) → length t.row < length t.schema → (due_at o t ++ around) ++ due ≡ [] → ⊥
some_due_at None t around due unfinished none =
    let e = subst (λ (l : List Due). (l ++ around) ++ due ≡ []) (due_next t unfinished) none in cc
some_due_at (Some len) t around due unfinished none = cc

ended_spelling : (views : List NamedTable) (stage : Stage) → IsStage stage → due_in views stage ≡ [] → spelled_in views stage ≡ spelled views
ended_spelling views Opening whole none = absurd (let e : ◌≡◌ {A = List Due} all_due [] = none in cc)
ended_spelling views ViewCount whole none = absurd (cc)
ended_spelling views (Views zero) whole none = ap (λ (k : ℕ). spelled_before k views) (add-zero (length views))
ended_spelling views (Views (suc left)) whole none = absurd (cc)
ended_spelling views (Structure len left) whole none = absurd (cc)
ended_spelling views (RowCount name schema left) whole none = absurd (cc)
ended_spelling views (Rows view left) whole none = absurd (some_due_at view.content view.table (due_around view.around.items) (views_due left (view.name ∷ names_before views)) whole.1 none)

nothing_waits : (due : List Due) (bytes : List ℕ) → due ≡ [] → MayWait due bytes → bytes ≡ []
nothing_waits [] bytes none waits = waits
nothing_waits (d ∷ due) bytes none waits = absurd (cc)

pub is_stream : (p : Progress) (waiting : List ℕ) → IsUnderWay p waiting → due_after p ≡ [] → AreViews p.root → IsStream (came p ++ waiting) p.root
is_stream p waiting is none whole = record {
  whole = whole;
  homeless = is.on_way.whole.homeless;
  is = ap (λ (l : List ℕ). came p ++ l) (nothing_waits (due_after p) waiting none is.waits) ∙ append-nil (came p) ∙ ended_spelling p.root p.stage is.on_way.whole.whole none;
}

-- ---- the beginning, and a piece in two parts

pub at_start : (views : List NamedTable) (waiting : List ℕ) (p : Progress) → views ≡ [] → waiting ≡ [] → p.root ≡ views → p.stage ≡ Opening → p.place ≡ 0 → IsUnderWay p waiting
at_start views waiting p none nothing root stage place =
    let here : p.root ≡ [] = root ∙ none in
    let due : due_after p ≡ all_due = ap (λ (s : Stage). due_in p.root s) stage in
    let bytes : came p ≡ [] = ap (λ (s : Stage). spelled_in p.root s) stage in
    let none_homeless : All (λ (v : NamedTable). HasNoHomes v.table) [] = All-nil (λ (v : NamedTable). HasNoHomes v.table) in
    record {
      on_way = record {
        whole = subst (λ (s : Stage). IsLoading p.root s) (sym stage)
            (record { whole = tt; follows = here; homeless = subst (λ (l : List NamedTable). All (λ (v : NamedTable). HasNoHomes v.table) l) (sym here) none_homeless });
        leads = subst (λ (l : List Due). Leads all_due (came p) l) (sym due) (subst (λ (l : List ℕ). Leads all_due l all_due) (sym bytes) (leads_none all_due));
        place = place ∙ sym (ap length bytes);
      };
      waits = subst (λ (l : List Due). MayWait l waiting) (sym due) (subst (λ (l : List ℕ). length l < 8) (sym nothing) (omega arith));
    }

pub in_two : (before waiting piece last rest mid : List ℕ) → last ++ rest ≡ piece → mid ≡ before ++ (waiting ++ last) → mid ++ rest ≡ before ++ (waiting ++ piece)
in_two before waiting piece last rest mid parts is =
    ap (λ (l : List ℕ). l ++ rest) is ∙ append_assoc before (waiting ++ last) rest ∙ ap (λ (l : List ℕ). before ++ l) (append_assoc waiting last rest ∙ ap (λ (l : List ℕ). waiting ++ l) parts)

pub refused_first : (p : Progress) (waiting piece last rest : List ℕ) (e : LoadError) → IsOnWay p → last ++ rest ≡ piece → Refuses (due_after p) (waiting ++ last) p.place e → IsRefusedFor (came p ++ (waiting ++ piece)) e
refused_first p waiting piece last rest e is parts refused =
    refused_for p (waiting ++ piece) e is
    (subst (λ (l : List ℕ). Refuses (due_after p) l p.place e) (append_assoc waiting last rest ∙ ap (λ (l : List ℕ). waiting ++ l) parts) (refused_more (due_after p) (waiting ++ last) rest p.place e refused))

-- where a field is due, and where none is
pub some_due : (due : List Due) (len : ℕ) → IsNextLen due len → due ≡ [] → ⊥
some_due [] len next none = next
some_due (d ∷ due) len next none = cc

-- the rest of a piece
pub rest_of : (piece : List ℕ) (n : ℕ) → take (length piece - n) (drop n piece) ≡ drop n piece
rest_of piece n = let long = length-drop n piece in take_all (length piece - n) (drop n piece) (omega (arith, long))

pub parts_of : (piece : List ℕ) (n : ℕ) → take n piece ++ take (length piece - n) (drop n piece) ≡ piece
parts_of piece n = ap (λ (l : List ℕ). take n piece ++ l) (rest_of piece n) ∙ take-append-drop n piece
