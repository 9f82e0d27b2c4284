-- Ways over bytes, whatever comes behind them: one field, and one way after another.
use Rattle.std.proofs.Common.{◌≡◌, ℕ, suc, ◌+◌, List, [], ◌∷◌, ◌++◌, length, drop, sym, ◌∙◌, ap, subst, arith, length-append, add-zero}
use Rattle.std.proofs.lemmas.List.{append_assoc, take_at, drop-append-le}
use Rattle.stream_codec.specs.Fields.{Due, field_len, IsField, Goes, stays, IsWrong}
use Rattle.stream_codec.specs.declared.error.LoadError.{LoadError}
use Rattle.stream_codec.specs.declared.error.LoadError.TheVariants.{At, Memory}
use Rattle.stream_codec.specs.Steps.{Leads, LeadsToWrong, Refuses}
use Rattle.stream_codec.proofs.Going.{goes_before_dues, goes_field, goes_joins}

-- one field as required
pub leads_field : (d : Due) (due next : List Due) (f : List ℕ) → length f ≡ field_len d → IsField d f next → Leads (d ∷ due) f (next ++ due)
leads_field d due next f long is = record { goes = λ rest. goes_field d due next f rest long is }

-- no bytes
pub leads_none : (due : List Due) → Leads due [] due
leads_none due = record { goes = λ rest. stays due rest }

-- one way after another
pub leads_joins : (one two three : List Due) (a b : List ℕ) → Leads one a two → Leads two b three → Leads one (a ++ b) three
leads_joins one two three a b first then = record {
  goes = λ rest. subst (λ (bytes : List ℕ). Goes one bytes three rest) (sym (append_assoc a b rest)) (goes_joins (first.goes (b ++ rest)) (then.goes rest));
}

-- one way and then a field that is wrong
pub wrong_behind : (one two : List Due) (a b : List ℕ) (count : ℕ) → Leads one a two → LeadsToWrong two b count → LeadsToWrong one (a ++ b) (length a + count)
wrong_behind one two a b count first then =
    let long = length-append a b in
    let within = then.within in
    let left : drop (length a + count) (a ++ b) ≡ drop count b = drop_past a b count in
    record {
      field = then.field;
      left = then.left;
      within = omega (arith, long, within);
      goes = λ rest. subst (λ (bytes : List ℕ). Goes one ((a ++ b) ++ rest) (then.field ∷ then.left) (bytes ++ rest)) (sym left)
          (subst (λ (bytes : List ℕ). Goes one bytes (then.field ∷ then.left) (drop count b ++ rest)) (sym (append_assoc a b rest)) (goes_joins (first.goes (b ++ rest)) (then.goes rest)));
      wrong = λ rest. subst (λ (bytes : List ℕ). IsWrong (then.field ∷ then.left) (bytes ++ rest)) (sym left) (then.wrong rest);
    }
  where
    drop_past : (a b : List ℕ) (count : ℕ) → drop (length a + count) (a ++ b) ≡ drop count b
    drop_past [] b count = ap (λ (n : ℕ). drop n b) (let e : 0 + count ≡ count = omega arith in e)
    drop_past (x ∷ a) b count = ap (λ (n : ℕ). drop n (x ∷ (a ++ b))) (let e : length (x ∷ a) + count ≡ suc (length a + count) = omega arith in e) ∙ drop_past a b count

-- a field that is not as required
pub wrong_here : (d : Due) (due : List Due) (f : List ℕ) → length f ≡ field_len d → ((next : List Due) → IsField d f next → ⊥) → LeadsToWrong (d ∷ due) f 0
wrong_here d due f long not = record {
  field = d;
  left = due;
  within = omega arith;
  goes = λ rest. stays (d ∷ due) (f ++ rest);
  wrong = λ rest. (
    let e = length-append f rest in omega (arith, long, e),
    λ next is. not next (subst (λ (bytes : List ℕ). IsField d bytes next) (take_at f rest (field_len d) long) is),
  );
}

pub refuses_here : (d : Due) (due : List Due) (f : List ℕ) (place : ℕ) → length f ≡ field_len d → ((next : List Due) → IsField d f next → ⊥) → Refuses (d ∷ due) f place (At place)
refuses_here d due f place long not = (0, sym (add-zero place), wrong_here d due f long not)

-- the same bytes and dues, written otherwise
pub leads_as : (due left other : List Due) (bytes : List ℕ) → Leads due bytes left → left ≡ other → Leads due bytes other
leads_as due left other bytes leads same = subst (λ (l : List Due). Leads due bytes l) same leads

-- with more due behind
pub leads_before : (due left more : List Due) (bytes : List ℕ) → Leads due bytes left → Leads (due ++ more) bytes (left ++ more)
leads_before due left more bytes leads = record { goes = λ rest. goes_before_dues more (leads.goes rest) }

pub wrong_before_dues : (due more : List Due) (bytes : List ℕ) (count : ℕ) → LeadsToWrong due bytes count → LeadsToWrong (due ++ more) bytes count
wrong_before_dues due more bytes count wrong = record {
  field = wrong.field;
  left = wrong.left ++ more;
  within = wrong.within;
  goes = λ rest. goes_before_dues more (wrong.goes rest);
  wrong = wrong.wrong;
}

pub refuses_before : (due more : List Due) (bytes : List ℕ) (place : ℕ) (e : LoadError) → Refuses due bytes place e → Refuses (due ++ more) bytes place e
refuses_before due more bytes place (At wrong) refused = (refused.0, refused.1, wrong_before_dues due more bytes refused.0 refused.2)
refuses_before due more bytes place Memory refused = tt

-- with more bytes behind
pub wrong_before_bytes : (due : List Due) (bytes more : List ℕ) (count : ℕ) → LeadsToWrong due bytes count → LeadsToWrong due (bytes ++ more) count
wrong_before_bytes due bytes more count wrong =
    let within = wrong.within in
    let long = length-append bytes more in
    let left : (rest : List ℕ) → drop count (bytes ++ more) ++ rest ≡ drop count bytes ++ (more ++ rest) =
    λ rest. ap (λ (l : List ℕ). l ++ rest) (drop-append-le count bytes more within) ∙ append_assoc (drop count bytes) more rest in
    record {
      field = wrong.field;
      left = wrong.left;
      within = omega (arith, within, long);
      goes = λ rest. subst (λ (l : List ℕ). Goes due ((bytes ++ more) ++ rest) (wrong.field ∷ wrong.left) l) (sym (left rest))
          (subst (λ (l : List ℕ). Goes due l (wrong.field ∷ wrong.left) (drop count bytes ++ (more ++ rest))) (sym (append_assoc bytes more rest)) (wrong.goes (more ++ rest)));
      wrong = λ rest. subst (λ (l : List ℕ). IsWrong (wrong.field ∷ wrong.left) l) (sym (left rest)) (wrong.wrong (more ++ rest));
    }

-- behind a way, and before more bytes
pub refuses_behind : (one two : List Due) (a b more : List ℕ) (place : ℕ) (e : LoadError) → Leads one a two → Refuses two b (place + length a) e → Refuses one ((a ++ b) ++ more) place e
refuses_behind one two a b more place (At wrong) leads refused =
    let is = refused.1 in
    let count = refused.0 in
    let e : wrong ≡ place + (length a + count) = omega (arith, is) in
    (length a + count, e, wrong_before_bytes one (a ++ b) more (length a + count) (wrong_behind one two a b count leads refused.2))
refuses_behind one two a b more place Memory leads refused = tt
